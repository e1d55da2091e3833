-- Opening: the first section that breaks the estimates, looked for from the front, and the first rows.
use Rattle.std.proofs.Common.{◌≡◌, ℕ, ◌+◌, ◌<◌, true, false, cond, List, [], ◌∷◌, ◌++◌, length, take, drop, map, set, Some, None, Option, refl, sym, ap, ap₂, ◌∙◌, zero-add}
use Rattle.std.proofs.lemmas.Grind.{take-set_at}
use Rattle.std.proofs.lemmas.List.FromFn.{map-range_with_len_more}
use Rattle.std.proofs.lemmas.List.{drop_all}
use Rattle.std.specs.List.{slice_get, range_with_len}
use Rattle.faults.specs.declared.Side.TheVariants.{Forward, Backward}
use Rattle.faults.specs.declared.Refusal.{Refusal}
use Rattle.faults.specs.declared.Refusal.TheVariants.{Inconsistent}
use Rattle.networks.specs.declared.section.Section.{Section}
use Rattle.networks.proofs.Numbers.{drop_nth, past_nth}
use Rattle.optimality.specs.Problems.{Problem}
use Rattle.optimality.specs.Keys.{breaks}
use Rattle.search.specs.Calls.{first_broken}

module _ {C L S : Type 0} (p : Problem C L S) (ss : List (Section S)) (i : ℕ) where
  abbrev rest : Option Refusal
  rest = first_broken p (i + 1) (drop (i + 1) ss)

  at : (s : Section S) → Some s ≡ slice_get ss i → first_broken p i (drop i ss) ≡ cond (breaks p.kind p.estimates Forward s) (Some (Inconsistent i Forward)) (cond (breaks p.kind p.estimates Backward s) (Some (Inconsistent i Backward)) rest)
  at s e = ap (first_broken p i) (drop_nth ss i s e)

  pub broken_forward : (s : Section S) → Some s ≡ slice_get ss i → true ≡ breaks p.kind p.estimates Forward s → first_broken p i (drop i ss) ≡ Some (Inconsistent i Forward)
  broken_forward s e f = at s e ∙ ap (λ b. cond b (Some (Inconsistent i Forward)) (cond (breaks p.kind p.estimates Backward s) (Some (Inconsistent i Backward)) rest)) (sym f)

  not_forward : (s : Section S) → Some s ≡ slice_get ss i → false ≡ breaks p.kind p.estimates Forward s → first_broken p i (drop i ss) ≡ cond (breaks p.kind p.estimates Backward s) (Some (Inconsistent i Backward)) rest
  not_forward s e f = at s e ∙ ap (λ b. cond b (Some (Inconsistent i Forward)) (cond (breaks p.kind p.estimates Backward s) (Some (Inconsistent i Backward)) rest)) (sym f)

  pub broken_backward : (s : Section S) → Some s ≡ slice_get ss i → false ≡ breaks p.kind p.estimates Forward s → true ≡ breaks p.kind p.estimates Backward s → first_broken p i (drop i ss) ≡ Some (Inconsistent i Backward)
  broken_backward s e f b = not_forward s e f ∙ ap (λ t. cond t (Some (Inconsistent i Backward)) rest) (sym b)

  pub broken_later : (s : Section S) → Some s ≡ slice_get ss i → false ≡ breaks p.kind p.estimates Forward s → false ≡ breaks p.kind p.estimates Backward s → first_broken p (i + 1) (drop (i + 1) ss) ≡ first_broken p i (drop i ss)
  broken_later s e f b = sym (not_forward s e f ∙ ap (λ t. cond t (Some (Inconsistent i Backward)) rest) (sym b))

  pub broken_none : None ≡ slice_get ss i → first_broken p i (drop i ss) ≡ None
  broken_none e = ap (first_broken p i) (drop_all i ss (past_nth ss i e))

-- the first rows, and one more
pub next_row : {X : Type 0} (f : ℕ → X) (xs : List X) (k : ℕ) (x : X) → x ≡ f k → k < length xs → take k xs ≡ map f (range_with_len 0 k) → take (k + 1) (set xs k x) ≡ map f (range_with_len 0 (k + 1))
next_row f xs k x e h so_far = take-set_at xs k (k + 1) x refl h ∙ ap₂ (λ l y. l ++ (y ∷ [])) so_far e ∙ sym (map-range_with_len_more f 0 k k (zero-add k))
