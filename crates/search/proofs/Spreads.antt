-- A station's sections, gone through one by one.
use Rattle.std.proofs.Common.{◌≡◌, ℕ, ◌+◌, ◌^◌, ◌<◌, ◌≤◌, Bool, true, false, cond, List, [], ◌∷◌, length, drop, is_some, Some, None, Option, option_and_then, refl, sym, ap, ◌∙◌, arith, true≢false}
use Rattle.std.proofs.lemmas.List.{drop_all}
use Rattle.std.specs.List.{slice_get}
use Rattle.std.proofs.lemmas.Bool.{lt-ltb}
use Rattle.amounts.specs.Amount.{Laws, fits}
use Rattle.amounts.specs.declared.cost.Cost as cost
use Rattle.faults.specs.declared.Side.{Side}
use Rattle.networks.specs.declared.section.Section.{Section}
use Rattle.networks.specs.Nets.{Net, numbers, starts, starters, head}
use Rattle.networks.proofs.Numbers.{drop_nth, past_nth}
use Rattle.optimality.specs.Keys.{computed_sum, fits_row, improves}
use Rattle.optimality.specs.Search.{Spread, mark_at, along, spread}

-- at most as many pass as there are
pub few_numbers : {X : Type 0} (test : X → Bool) (n : ℕ) (xs : List X) → length (numbers test n xs) ≤ length xs
few_numbers test n [] = omega arith
few_numbers test n (x ∷ xs) = go (test x) (few_numbers test (n + 1) xs)
  where
    go : (b : Bool) → length (numbers test (n + 1) xs) ≤ length xs → length (cond b (n ∷ numbers test (n + 1) xs) (numbers test (n + 1) xs)) ≤ length (x ∷ xs)
    go true h = omega arith
    go false h = omega arith

some_inside : {X Y : Type 0} (f : X → Option Y) (o : Option X) → is_some (option_and_then f o) ≡ true → is_some o ≡ true
some_inside f None h = h
some_inside f (Some x) h = refl

module _ {C L S : Type 0} (c : cost.Ghosts C L S) (net : Net S) (side : Side) (label : L) where
  -- section k comes next, and then the rest
  pub next : (ks : List ℕ) (i k : ℕ) (sp : Spread C L S) → Some k ≡ slice_get ks i → spread c net side label (drop i ks) sp ≡ option_and_then (spread c net side label (drop (i + 1) ks)) (along c side label k (slice_get net.sections k) sp)
  next ks i k sp e = ap (λ l. spread c net side label l sp) (drop_nth ks i k e)

  -- none is left
  over : (ks : List ℕ) (i : ℕ) (sp : Spread C L S) → length ks ≤ i → spread c net side label (drop i ks) sp ≡ Some sp
  over ks i sp h = ap (λ l. spread c net side label l sp) (drop_all i ks h)

  pub over_all : (u i : ℕ) (sp : Spread C L S) → length net.sections ≤ i → spread c net side label (drop i (starters side net u)) sp ≡ Some sp
  over_all u i sp h = over (starters side net u) i sp (omega (arith, few_numbers (starts side u) 0 net.sections))

  pub over_none : (ks : List ℕ) (i : ℕ) (sp : Spread C L S) → None ≡ slice_get ks i → spread c net side label (drop i ks) sp ≡ Some sp
  over_none ks i sp h = over ks i sp (past_nth ks i h)

  -- what is next goes through, if all does
  pub next_fits : (ks : List ℕ) (i k : ℕ) (sp : Spread C L S) → Some k ≡ slice_get ks i → is_some (spread c net side label (drop i ks) sp) ≡ true → is_some (along c side label k (slice_get net.sections k) sp) ≡ true
  next_fits ks i k sp e h = some_inside (spread c net side label (drop (i + 1) ks)) (along c side label k (slice_get net.sections k) sp) (ap is_some (sym (next ks i k sp e)) ∙ h)

  -- and leaves the rest to do
  pub next_left : (ks : List ℕ) (i k : ℕ) (sp sq : Spread C L S) → Some k ≡ slice_get ks i → Some sq ≡ along c side label k (slice_get net.sections k) sp → spread c net side label (drop (i + 1) ks) sq ≡ spread c net side label (drop i ks) sp
  next_left ks i k sp sq e h = ap (option_and_then (spread c net side label (drop (i + 1) ks))) h ∙ sym (next ks i k sp e)

-- A light label: no section leads to one that a row does not hold.
module _ {C L S : Type 0} (c : cost.Ghosts C L S) (laws : Laws c.ops) (net : Net S) (side : Side) (label : L) (light : c.ops.size label + 2 ^ 32 ≤ 2 ^ 44) (small : (k : ℕ) (s : Section S) → slice_get net.sections k ≡ Some s → c.ops.size (c.worth s.amount) < 2 ^ 32) where
  -- what is computed is the sum, or zero
  light_sum : (a : L) → c.ops.size a < 2 ^ 32 → c.ops.size (computed_sum c label a) < 2 ^ 44
  light_sum a h = go (fits (c.ops.size label) (c.ops.size a))
    where
      go : (b : Bool) → c.ops.size (cond b (c.ops.plus label a) c.ops.zero) < 2 ^ 44
      go true = omega (arith, laws.size_plus label a)
      go false = omega (arith, laws.size_zero)

  abbrev gives : Bool → Bool → Bool → Spread C L S → Spread C L S → Option (Spread C L S)
  gives shut better fits new sp = cond shut (Some sp) (cond better (cond fits (Some new) None) (Some sp))

  gives_some : (shut better fits : Bool) (new sp : Spread C L S) → fits ≡ true → is_some (gives shut better fits new sp) ≡ true
  gives_some true better fits new sp h = refl
  gives_some false false fits new sp h = refl
  gives_some false true fits new sp h = ap (λ b. is_some (cond b (Some new) None)) h

  light_along : (k : ℕ) (so : Option (Section S)) → slice_get net.sections k ≡ so → (sp : Spread C L S) → is_some (along c side label k so sp) ≡ true
  light_along k None is sp = refl
  light_along k (Some s) is sp = gives_some s.shut (improves c (computed_sum c label (c.worth s.amount)) (mark_at c sp.rows side (head side s))) (fits_row c (computed_sum c label (c.worth s.amount))) _ sp (lt-ltb _ _ (light_sum (c.worth s.amount) (small k s is)))

  then_some : {X Y : Type 0} (f : X → Option Y) (o : Option X) → is_some o ≡ true → ((x : X) → is_some (f x) ≡ true) → is_some (option_and_then f o) ≡ true
  then_some f None h all = absurd (true≢false (sym h))
  then_some f (Some x) h all = all x

  pub spread_light : (ks : List ℕ) (sp : Spread C L S) → is_some (spread c net side label ks sp) ≡ true
  spread_light [] sp = refl
  spread_light (k ∷ ks) sp = then_some (spread c net side label ks) (along c side label k (slice_get net.sections k) sp) (light_along k (slice_get net.sections k) refl sp) (spread_light ks)
