-- A list by its places.
use Rattle.std.specs.Prelude.{◌≡◌, ℕ, zero, suc, ◌+◌, ◌<◌, List, [], ◌∷◌, length, drop, slice_index}
use Rattle.std.proofs.Common.{sym, ap, ◌∙◌, add-one, arith, drop-cons}
use Rattle.std.proofs.lemmas.List.{drop_all}

-- n elements from place i on
abbrev pub placed : ℕ → ℕ → List ℕ → List ℕ
placed i zero vs = []
placed i (suc n) vs = slice_index vs i ∷ placed (i + 1) n vs

placed_drop : (i n : ℕ) (vs : List ℕ) → length vs ≡ i + n → placed i n vs ≡ drop i vs
placed_drop i zero vs e = sym (drop_all i vs (omega arith))
placed_drop i (suc n) vs e =
    let h : i < length vs = omega arith in
    ap (λ l. slice_index vs i ∷ l) (placed_drop (i + 1) n vs (omega arith) ∙ ap (λ k. drop k vs) (add-one i)) ∙ sym (drop-cons vs i 0 h)

pub placed_all : (n : ℕ) (vs : List ℕ) → length vs ≡ n → placed 0 n vs ≡ vs
placed_all n vs e = placed_drop 0 n vs (omega arith)
