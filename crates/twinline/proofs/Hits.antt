-- The numbers of a worked-out list's elements that pass, where each stretch has one at most.
use Rattle.std.proofs.Common.{◌≡◌, ℕ, zero, suc, ◌+◌, ◌-◌, ◌≤◌, Bool, true, false, cond, eqb, List, [], ◌∷◌, map, Some, None, Option, sym, refl, ap, ◌∙◌, subst, ⊎_elim, arith}
use Rattle.std.specs.List.{range_with_len}
use Rattle.std.proofs.lemmas.Bool.{eqb-true, eqb-false, cases_Bool}
use Rattle.std.proofs.lemmas.Option.{none-some, same_Some}
use Rattle.std.proofs.Math.Nat.{eq-or-lt_of_le}
use Rattle.networks.specs.Nets.{numbers}
use Rattle.twinline.specs.Touching.{Only, or_none}

module _ {X : Type 0} (test : X → Bool) (f : ℕ → X) (value : ℕ → ℕ) (s : ℕ) (same : (i : ℕ) → test (f i) ≡ eqb (value i) s) where
  abbrev pub hits : ℕ → ℕ → List ℕ
  hits a n = numbers test a (map f (range_with_len a n))

  -- the first n of N elements, and the rest
  pub front : (n a N : ℕ) (o : Option ℕ) → n ≤ N → Only value s a (a + n) o → hits a N ≡ or_none o (hits (a + n) (N - n))
  front zero a N None l x = let e : a + 0 ≡ a = omega arith in let d : N - 0 ≡ N = omega arith in rw (e, d) refl
  front zero a N (Some m) l x = let h = x.here m refl in absurd (omega arith)
  front (suc n) a zero o l x = absurd (omega arith)
  front (suc n) a (suc N) o l x =
      let a' : a + 1 + n ≡ a + suc n = omega arith in
      let n' : N - n ≡ suc N - suc n = omega arith in
      let moved : (p : Option ℕ) → or_none p (hits (a + 1 + n) (N - n)) ≡ or_none p (hits (a + suc n) (suc N - suc n)) = λ p. ap (λ i. or_none p (hits i (N - n))) a' ∙ ap (λ i. or_none p (hits (a + suc n) i)) n' in
      let headed : (b : Bool) → test (f a) ≡ b → hits a (suc N) ≡ cond b (a ∷ hits (a + 1) N) (hits (a + 1) N) = λ b e. ap (λ c. cond c (a ∷ hits (a + 1) N) (hits (a + 1) N)) e in
      ⊎_elim
      (λ e.
      let v : value a ≡ s = eqb-true _ _ (sym (same a) ∙ e) in
      let here : o ≡ Some a = x.alone a (omega arith) (omega arith) v in
      let none : Only value s (a + 1) (a + 1 + n) None = record {
        here = λ m z. absurd (none-some m z);
        alone = λ m lo hi w. let p : o ≡ Some m = x.alone m (omega arith) (omega arith) w in let q : a ≡ m = same_Some a m (sym here ∙ p) in absurd (omega arith);
      } in
      headed true e ∙ ap (λ r. a ∷ r) (front n (a + 1) N None (omega arith) none ∙ moved None) ∙ ap (λ p. or_none p (hits (a + suc n) (suc N - suc n))) (sym here))
      (λ e.
      let v : value a ≡ s → ⊥ = eqb-false _ _ (sym (same a) ∙ e) in
      let later : Only value s (a + 1) (a + 1 + n) o = record {
        here = λ m z. let h = x.here m z in (⊎_elim {C = a + 1 ≤ m} (λ q. absurd (v (ap value q ∙ h.2))) (λ q. omega arith) (eq-or-lt_of_le h.0), omega arith, h.2);
        alone = λ m lo hi w. x.alone m (omega arith) (omega arith) w;
      } in
      headed false e ∙ front n (a + 1) N o (omega arith) later ∙ moved o)
      (cases_Bool (test (f a)))

  -- two stretches that make up the whole
  pub both : (n N : ℕ) (o p : Option ℕ) → n ≤ N → Only value s 0 n o → Only value s n N p → hits 0 N ≡ or_none o (or_none p [])
  both n N o p l x y =
      let x' : Only value s 0 (0 + n) o = subst (λ i. Only value s 0 i o) (omega arith) x in
      let y' : Only value s n (n + (N - n)) p = subst (λ i. Only value s n i p) (omega arith) y in
      let z : N - n - (N - n) ≡ 0 = omega arith in
      front n 0 N o l x'
      ∙ ap (λ i. or_none o (hits i (N - n))) (omega arith)
      ∙ ap (or_none o) (front (N - n) n (N - n) p (omega arith) y' ∙ ap (λ i. or_none p (hits (n + (N - n)) i)) z)
