-- One write after another.
use Rattle.std.proofs.Common.{◌≡◌, ℕ, ◌+◌, ◌*◌, ◌<◌, ◌≤◌, List, [], ◌∷◌, ◌++◌, length, take, drop, Some, sym, ap, ◌∙◌, add_assoc, mul-le-mul_left, zero-add, arith}
use Rattle.std.specs.List.{slice_get}
use Rattle.std.proofs.lemmas.List.{append_assoc, append-nil, length-append, drop-drop, take_at, drop_at, length-take-le, take_more}
use Rattle.std.proofs.lemmas.Option.{get_or_from_slice_get}
use Rattle.records.specs.Bytes.{overlay}
use Rattle.records.specs.Shapes.{Shape, ShapeLaws, size_of, encoded, encoded_run}
use Rattle.records.proofs.Passing.{length-encoded_run}

pub overlay_front : (page bs : List ℕ) → overlay page 0 bs ≡ bs ++ drop (length bs) page
overlay_front page bs = rw zero-add

-- a write right after another is one write
pub overlay_more : (page : List ℕ) (at : ℕ) (xs bs : List ℕ) (next : ℕ) → next ≡ at + length xs → at + length xs ≤ length page
    → overlay (overlay page at xs) next bs ≡ overlay page at (xs ++ bs)
overlay_more page at xs bs next e h =
    let front : List ℕ = take at page ++ xs in
    let l : length front ≡ next = length-append (take at page) xs ∙ rw (length-take-le at page (omega arith)) (sym e) in
    let whole : overlay page at xs ≡ front ++ drop next page = rw e (sym (append_assoc (take at page) xs _)) in
    let t : take next (overlay page at xs) ≡ front = ap (take next) whole ∙ take_at front (drop next page) next l in
    let d : drop (next + length bs) (overlay page at xs) ≡ drop (at + length (xs ++ bs)) page =
    sym (drop-drop (length bs) next (overlay page at xs)) ∙ ap (drop (length bs)) (ap (drop next) whole ∙ drop_at front (drop next page) next l)
    ∙ drop-drop (length bs) next page ∙ ap (λ n. drop n page) (rw (e, length-append) (add_assoc at (length xs) (length bs))) in
    rw (t, d) (simp append_assoc)

-- five writes, each right after the one before, are one write
pub overlay_five : (page h s e a z : List ℕ) {one two three four five : List ℕ} (n₁ n₂ n₃ n₄ : ℕ)
    → one ≡ overlay page 0 h → two ≡ overlay one n₁ s → three ≡ overlay two n₂ e → four ≡ overlay three n₃ a → five ≡ overlay four n₄ z
    → n₁ ≡ length h → n₂ ≡ n₁ + length s → n₃ ≡ n₂ + length e → n₄ ≡ n₃ + length a → n₄ + length z ≤ length page
    → five ≡ overlay page 0 (h ++ (s ++ (e ++ (a ++ z))))
overlay_five page h s e a z {one} {two} {three} {four} {five} n₁ n₂ n₃ n₄ p₁ p₂ p₃ p₄ p₅ l₁ l₂ l₃ l₄ room =
    let m₂ = length-append h s in
    let m₃ = length-append (h ++ s) e in
    let m₄ = length-append ((h ++ s) ++ e) a in
    let q₂ : two ≡ overlay page 0 (h ++ s) = rw (p₂, p₁) (overlay_more page 0 h s n₁ (omega arith) (omega arith)) in
    let q₃ : three ≡ overlay page 0 ((h ++ s) ++ e) = rw (p₃, q₂) (overlay_more page 0 (h ++ s) e n₂ (omega arith) (omega arith)) in
    let q₄ : four ≡ overlay page 0 (((h ++ s) ++ e) ++ a) = rw (p₄, q₃) (overlay_more page 0 ((h ++ s) ++ e) a n₃ (omega arith) (omega arith)) in
    let q₅ : five ≡ overlay page 0 ((((h ++ s) ++ e) ++ a) ++ z) = rw (p₅, q₄) (overlay_more page 0 (((h ++ s) ++ e) ++ a) z n₄ (omega arith) (omega arith)) in
    let flat : (((h ++ s) ++ e) ++ a) ++ z ≡ h ++ (s ++ (e ++ (a ++ z))) = simp append_assoc in
    q₅ ∙ ap (overlay page 0) flat

-- one element more
pub take_nth : {X : Type 0} (xs : List X) (i : ℕ) (x : X) → i < length xs → Some x ≡ slice_get xs i → take (i + 1) xs ≡ take i xs ++ (x ∷ [])
take_nth xs i x h e = take_more xs i x h ∙ ap (λ y. take i xs ++ (y ∷ [])) (get_or_from_slice_get xs i x x (sym e))

module _ {R : Type 0} (shape : Shape R) (laws : ShapeLaws shape) where
  run_push : (rs : List R) (r : R) → encoded_run shape (rs ++ (r ∷ [])) ≡ encoded_run shape rs ++ encoded shape r
  run_push [] r = append-nil (encoded shape r)
  run_push (q ∷ rs) r = rw (run_push rs r, append_assoc)

  -- one record more
  pub run_step : (page : List ℕ) (at i : ℕ) (rs : List R) (r : R) (held : List ℕ) (place : ℕ)
      → held ≡ overlay page at (encoded_run shape (take i rs)) → Some r ≡ slice_get rs i → i < length rs → at + size_of shape * length rs ≤ length page
      → place ≡ at + size_of shape * i
      → overlay held place (encoded shape r) ≡ overlay page at (encoded_run shape (take (i + 1) rs))
  run_step page at i rs r held place p q h room e =
      let front : List R = take i rs in
      let n = length-encoded_run shape laws front in
      let m : length front ≡ i = length-take-le i rs (omega arith) in
      let l : length (encoded_run shape front) ≡ size_of shape * i = n ∙ ap (λ k. size_of shape * k) m in
      let less : size_of shape * i ≤ size_of shape * length rs = mul-le-mul_left (size_of shape) (omega arith) in
      rw (p, overlay_more page at (encoded_run shape front) (encoded shape r) place (omega arith) (omega arith), ← run_push front r, ← take_nth rs i r h q)
