-- What a scan over a list's elements gives of the numbers of those that pass.
use Rattle.std.proofs.Common.{◌≡◌, ℕ, zero, suc, ◌+◌, ◌-◌, ◌<◌, ◌≤◌, Bool, true, false, cond, List, ◌∷◌, length, drop, Some, None, Option, sym, ap, add-one, arith}
use Rattle.std.proofs.Math.Seq.{drop-cons}
use Rattle.std.proofs.lemmas.List.{drop_all}
use Rattle.std.proofs.lemmas.Option.{slice_get_within, slice_get_cases, get_or_from_slice_get}
use Rattle.std.specs.List.{slice_get}
use Rattle.networks.specs.Nets.{numbers}

module _ {X : Type 0} where
  pub past_nth : (xs : List X) (i : ℕ) → None ≡ slice_get xs i → length xs ≤ i
  past_nth xs i e = grind (arith, slice_get_cases)

  pub drop_nth : (xs : List X) (i : ℕ) (x : X) → Some x ≡ slice_get xs i → drop i xs ≡ x ∷ drop (i + 1) xs
  drop_nth xs i x e = rw (add-one, drop-cons xs i x (slice_get_within xs i x (sym e)), get_or_from_slice_get xs i x x (sym e))

  -- what stands at suc k, where a goal has k for k - 1
  nth_more : (y : X) (ys : List X) (k : ℕ) → 0 < k → slice_get (y ∷ ys) k ≡ slice_get ys (k - 1)
  nth_more y ys zero h = absurd (omega arith)
  nth_more y ys (suc k) h = ap (slice_get ys) (omega arith)

module _ {X : Type 0} (test : X → Bool) (xs : List X) (i : ℕ) where
  -- the k-th of the numbers that come from i on
  abbrev pub coming : ℕ → Option ℕ
  coming k = slice_get (numbers test i (drop i xs)) k

  abbrev rest : List ℕ
  rest = numbers test (i + 1) (drop (i + 1) xs)

  at : (x : X) → Some x ≡ slice_get xs i → numbers test i (drop i xs) ≡ cond (test x) (i ∷ rest) rest
  at x e = ap (numbers test i) (drop_nth xs i x e)

  pub coming_here : (x : X) → Some x ≡ slice_get xs i → test x ≡ true → coming 0 ≡ Some i
  coming_here x e t = rw (at x e, t)

  pub coming_none : length xs ≤ i → (k : ℕ) → coming k ≡ None
  coming_none h k = rw (drop_all i xs h)

module _ {X : Type 0} (test : X → Bool) (xs : List X) (i : ℕ) where
  pub coming_past : (x : X) → Some x ≡ slice_get xs i → test x ≡ true → (k : ℕ) → 0 < k → coming test xs (i + 1) (k - 1) ≡ coming test xs i k
  coming_past x e t k h = rw (at test xs i x e, t, nth_more i (rest test xs i) k h)

  pub coming_other : (x : X) → Some x ≡ slice_get xs i → test x ≡ false → (k : ℕ) → coming test xs (i + 1) k ≡ coming test xs i k
  coming_other x e t k = rw (at test xs i x e, t)
