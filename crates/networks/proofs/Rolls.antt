-- The numbers of the elements that pass are a roll: rising, nothing else, complete.
use Rattle.std.proofs.Common.{◌≡◌, ℕ, zero, suc, ◌+◌, ◌<◌, ◌≤◌, Bool, true, false, cond, List, [], ◌∷◌, Some, sym, refl, ap, ◌∙◌, zero-add, arith}
use Rattle.std.proofs.lemmas.Option.{none-some}
use Rattle.std.specs.List.{slice_get}
use Rattle.networks.specs.Nets.{numbers, Roll}

module _ {X : Type 0} (test : X → Bool) where
  -- what passes from n on has a number from n on
  above : (n i m : ℕ) (xs : List X) → slice_get (numbers test n xs) i ≡ Some m → n ≤ m
  above n i m [] e = absurd (none-some _ e)
  above n i m (x ∷ xs) e = go (λ j. above (n + 1) j m xs) (test x) i e
    where
      go : ((j : ℕ) → slice_get (numbers test (n + 1) xs) j ≡ Some m → n + 1 ≤ m) → (b : Bool) (j : ℕ) → slice_get (cond b (n ∷ numbers test (n + 1) xs) (numbers test (n + 1) xs)) j ≡ Some m → n ≤ m
      go h true zero e = let z : n ≡ m = cc in omega arith
      go h true (suc j) e = omega (arith, h j e)
      go h false j e = omega (arith, h j e)

  rises : (n i j l m : ℕ) (xs : List X) → i < j → slice_get (numbers test n xs) i ≡ Some l → slice_get (numbers test n xs) j ≡ Some m → l < m
  rises n i j l m [] k e f = absurd (none-some _ e)
  rises n i j l m (x ∷ xs) k e f = go (λ a b. rises (n + 1) a b l m xs) (test x) i j k e f
    where
      go : ((a b : ℕ) → a < b → slice_get (numbers test (n + 1) xs) a ≡ Some l → slice_get (numbers test (n + 1) xs) b ≡ Some m → l < m) → (t : Bool) (a b : ℕ) → a < b → slice_get (cond t (n ∷ numbers test (n + 1) xs) (numbers test (n + 1) xs)) a ≡ Some l → slice_get (cond t (n ∷ numbers test (n + 1) xs) (numbers test (n + 1) xs)) b ≡ Some m → l < m
      go h false a b k e f = h a b k e f
      go h true zero zero k e f = absurd (omega arith)
      go h true zero (suc b) k e f = let z : n ≡ l = cc in omega (arith, above (n + 1) b m xs f)
      go h true (suc a) zero k e f = absurd (omega arith)
      go h true (suc a) (suc b) k e f = h a b (omega arith) e f

  -- the element that is k further on
  pub record Passing (xs : List X) (n m : ℕ) : Type 0 where
    pub on : ℕ
    pub at : m ≡ n + on
    pub element : X
    pub there : slice_get xs on ≡ Some element
    pub passes : test element ≡ true

  passing : (n i m : ℕ) (xs : List X) → slice_get (numbers test n xs) i ≡ Some m → Passing xs n m
  passing n i m [] e = absurd (none-some _ e)
  passing n i m (x ∷ xs) e = go (λ j. passing (n + 1) j m xs) (test x) refl i e
    where
      later : Passing xs (n + 1) m → Passing (x ∷ xs) n m
      later p = record { on = suc p.on; at = omega (arith, p.at); element = p.element; there = p.there; passes = p.passes }

      go : ((j : ℕ) → slice_get (numbers test (n + 1) xs) j ≡ Some m → Passing xs (n + 1) m) → (b : Bool) → test x ≡ b → (j : ℕ) → slice_get (cond b (n ∷ numbers test (n + 1) xs) (numbers test (n + 1) xs)) j ≡ Some m → Passing (x ∷ xs) n m
      go h true t zero e = let z : n ≡ m = cc in record { on = 0; at = omega arith; element = x; there = refl; passes = t }
      go h true t (suc j) e = later (h j e)
      go h false t j e = later (h j e)

  found : (n k : ℕ) (x : X) (xs : List X) → slice_get xs k ≡ Some x → test x ≡ true → (i : ℕ) × (slice_get (numbers test n xs) i ≡ Some (n + k))
  found n k x [] e t = absurd (none-some _ e)
  found n zero x (y ∷ ys) e t =
      let z : x ≡ y = cc in
      (0, ap (λ b. slice_get (cond b (n ∷ numbers test (n + 1) ys) (numbers test (n + 1) ys)) 0) (ap test (sym z) ∙ t) ∙ ap Some (omega arith))
  found n (suc k) x (y ∷ ys) e t = go (found (n + 1) k x ys e t) (test y)
    where
      go : ((i : ℕ) × (slice_get (numbers test (n + 1) ys) i ≡ Some (n + 1 + k))) → (b : Bool) → (i : ℕ) × (slice_get (cond b (n ∷ numbers test (n + 1) ys) (numbers test (n + 1) ys)) i ≡ Some (n + suc k))
      go p true = (suc p.0, p.1 ∙ ap Some (omega arith))
      go p false = (p.0, p.1 ∙ ap Some (omega arith))

  pub roll_of : (xs : List X) → Roll test xs (numbers test 0 xs)
  roll_of xs = record {
    rising = λ i j m n k e f. rises 0 i j m n xs k e f;
    nothing_else = λ i n e. let p = passing 0 i n xs e in let a : n ≡ p.on = omega (arith, p.at) in (p.element, ap (slice_get xs) a ∙ p.there, p.passes);
    complete = λ n x e t. let p = found 0 n x xs e t in (p.0, p.1 ∙ ap Some (zero-add n));
  }
