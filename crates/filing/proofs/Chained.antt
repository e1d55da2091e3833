-- The steps of a list, looked at one after the other.
use Rattle.std.proofs.Common.{◌≡◌, ◌≢◌, ◌⊎◌, inl, inr, ℕ, zero, suc, ◌+◌, ◌-◌, ◌<◌, ◌≤◌, Bool, true, false, cond, ◌==◌, List, [], ◌∷◌, length, drop, take, get_or, drop-cons, Some, None, Option, refl, sym, ap, ◌∙◌, arith, add-one}
use Rattle.std.proofs.lemmas.Bool.{eqb-true, eqb-false, eq-eqb, ne_eqb}
use Rattle.std.proofs.lemmas.List.{drop_all}
use Rattle.std.proofs.lemmas.Option.{slice_get-get_or}
use Rattle.std.specs.List.{slice_get}
use Rattle.contents.specs.declared.answer.Step.{Step}
use Rattle.filing.specs.Chains.{Joined, FirstApart, apart_from, first_apart}

none_by : (b : Bool) (o : Option ℕ) (k : ℕ) → cond b o (Some k) ≡ None → (b ≡ true) × (o ≡ None)
none_by true o k e = (refl, e)
none_by false o k e = cc

some_by : (b : Bool) (o : Option ℕ) (k j : ℕ) → cond b o (Some k) ≡ Some j → ((b ≡ true) × (o ≡ Some j)) ⊎ ((b ≡ false) × (k ≡ j))
some_by true o k j e = inl (refl, e)
some_by false o k j e = inr (refl, cc)

module _ {L : Type 0} where
  -- where a step ended
  abbrev pub end_of : Option (Step L) → ℕ
  end_of None = 0
  end_of (Some s) = s.to

  -- the first step from k on that does not start where the one before it ended
  abbrev pub apart_at : List (Step L) → ℕ → Option ℕ
  apart_at steps k = apart_from k (end_of (slice_get steps (k - 1))) (drop k steps)

  pub apart_first : (steps : List (Step L)) → apart_at steps 1 ≡ first_apart steps
  apart_first [] = refl
  apart_first (s ∷ ss) = refl

  pub apart_past : (steps : List (Step L)) (k : ℕ) → length steps ≤ k → apart_at steps k ≡ None
  apart_past steps k h = ap (apart_from k _) (drop_all k steps h)

  module _ (steps : List (Step L)) (k : ℕ) (s t : Step L) (one : 1 ≤ k) (h : k < length steps) where
    apart_here : apart_at steps k ≡ cond ((get_or steps k t).from == (get_or steps (k - 1) s).to) (apart_at steps (k + 1)) (Some k)
    apart_here =
        let back : suc k - 1 ≡ k = omega arith in
        let ended = slice_get-get_or steps (k - 1) s (omega arith) in
        let here = slice_get-get_or steps k t h in
        ap (apart_from k (end_of (slice_get steps (k - 1)))) (drop-cons steps k t h) ∙ simp (ended, add-one, back, here)

    pub apart_on : (get_or steps k t).from ≡ (get_or steps (k - 1) s).to → apart_at steps (k + 1) ≡ apart_at steps k
    apart_on e = sym (apart_here ∙ ap (λ b. cond b (apart_at steps (k + 1)) (Some k)) (eq-eqb _ _ e))

    pub apart_off : (get_or steps k t).from ≢ (get_or steps (k - 1) s).to → apart_at steps k ≡ Some k
    apart_off e = apart_here ∙ ap (λ b. cond b (apart_at steps (k + 1)) (Some k)) (ne_eqb _ _ e)

  -- The law --------------------------------------------------------------------------------------------

  joined_one : (s : Step L) → Joined (s ∷ [])
  joined_one s k a b p q = cc

  joined_cons : (s t : Step L) (ss : List (Step L)) → t.from ≡ s.to → Joined (t ∷ ss) → Joined (s ∷ t ∷ ss)
  joined_cons s t ss e h zero a b p q = cc
  joined_cons s t ss e h (suc k) a b p q = h k a b p q

  none_joined : (k : ℕ) (s : Step L) (ss : List (Step L)) → apart_from k s.to ss ≡ None → Joined (s ∷ ss)
  none_joined k s [] e = joined_one s
  none_joined k s (t ∷ ss) e =
      let p = none_by (t.from == s.to) (apart_from (suc k) t.to ss) k e in
      joined_cons s t ss (eqb-true t.from s.to p.0) (none_joined (suc k) t ss p.1)

  pub joined : (steps : List (Step L)) → first_apart steps ≡ None → Joined steps
  joined [] e = λ k a b p q. cc
  joined (s ∷ ss) e = none_joined 1 s ss e

  first_here : (s t : Step L) (ss : List (Step L)) → t.from ≢ s.to → FirstApart (s ∷ t ∷ ss) 0
  first_here s t ss e = record { ended = s; starts = t; before = refl; next = refl; apart = e; joined = joined_one s }

  first_later : (s t : Step L) (ss : List (Step L)) (i : ℕ) → t.from ≡ s.to → FirstApart (t ∷ ss) i → FirstApart (s ∷ t ∷ ss) (suc i)
  first_later s t ss i e f = record { ended = f.ended; starts = f.starts; before = f.before; next = f.next; apart = f.apart; joined = joined_cons s t (take i ss) e f.joined }

  -- the numbered step is the first apart, where the second of these is numbered k
  abbrev Numbered : ℕ → ℕ → List (Step L) → Type 0
  Numbered k j steps = (i : ℕ) × (j ≡ k + i) × FirstApart steps i

  some_first : (k j : ℕ) (s : Step L) (ss : List (Step L)) → apart_from k s.to ss ≡ Some j → Numbered k j (s ∷ ss)
  some_first k j s [] e = cc
  some_first k j s (t ∷ ss) e = by (some_by (t.from == s.to) (apart_from (suc k) t.to ss) k j e) (some_first (suc k) j t ss)
    where
      by : (((t.from == s.to) ≡ true) × (apart_from (suc k) t.to ss ≡ Some j)) ⊎ (((t.from == s.to) ≡ false) × (k ≡ j)) → (apart_from (suc k) t.to ss ≡ Some j → Numbered (suc k) j (t ∷ ss)) → Numbered k j (s ∷ t ∷ ss)
      by (inl p) rest = let f = rest p.1 in (suc f.0, f.1 ∙ omega arith, first_later s t ss f.0 (eqb-true t.from s.to p.0) f.2)
      by (inr p) rest = (0, sym p.1 ∙ omega arith, first_here s t ss (eqb-false t.from s.to p.0))

  pub first : (steps : List (Step L)) (j : ℕ) → first_apart steps ≡ Some j → (i : ℕ) × (j ≡ suc i) × FirstApart steps i
  first [] j e = cc
  first (s ∷ ss) j e = let f = some_first 1 j s ss e in (f.0, f.1 ∙ omega arith, f.2)
