-- The costs of routes of at most 4,095 sections stand on a page.
use Rattle.std.specs.Prelude.{◌≡◌, ℕ, ◌+◌, ◌*◌, ◌^◌, ◌<◌, ◌≤◌, cond, List, [], ◌∷◌, length, pos, ◌+ℤ◌, Some, None, refl}
use Rattle.std.proofs.Common.{ap, ap₂, ◌∙◌}
use Rattle.std.proofs.Math.Nat.{suc-mul}
use native.Mathlib.Omega.{arith}
use Rattle.std.specs.List.{AllByRecursion}
use Rattle.std.proofs.lemmas.Bool.{lt-ltb}
use Rattle.amounts.specs.Amount.{total}
use Rattle.amounts.specs.Forms.{SectionRange, TotalsOnPage, label_form}
use Rattle.amounts.specs.Kinds.{field, both, samples, samples_shown, samples_forms, samples_section, moves, label, moves_worth, moves_shown, moves_forms}
use Rattle.amounts.specs.declared.forms.SectionForm.{SectionForm}

-- the sum of a part over a list
sum_of : {X : Type 0} → (X → ℕ) → List X → ℕ
sum_of part [] = 0
sum_of part (x ∷ xs) = part x + sum_of part xs

module _ {X : Type 0} (part : X → ℕ) (fair : X → Type 0) (limit : ℕ) (below : (x : X) → fair x → part x < limit) where
  bounded : (xs : List X) → AllByRecursion fair xs → sum_of part xs ≤ length xs * limit
  unfolding sum_of
  bounded [] h = omega arith
  bounded (x ∷ xs) h = let p = below x h.0 in let q = bounded xs h.1 in let e = suc-mul (length xs) limit in omega arith

field_of : (limit n : ℕ) → n < limit → field limit (pos n) ≡ Some n
field_of limit n h = ap (λ t. cond t (Some n) None) (lt-ltb n limit h)

total_samples : (ss : List ℕ) → total samples pos ss ≡ pos (sum_of (λ s. s) ss)
unfolding sum_of
total_samples [] = refl
total_samples (s ∷ ss) = ap (λ a. pos s +ℤ a) (total_samples ss)

pub totals_samples : TotalsOnPage samples pos samples_section samples_forms
totals_samples ss h few =
    let n = sum_of (λ s. s) ss in
    let b = bounded (λ s. s) samples_section (2 ^ 32) (λ s r. r) ss h in
    (label_form 0 n, ap samples_shown (total_samples ss) ∙ ap (both (Some 0)) (field_of (2 ^ 44) n (omega arith)))

total_moves : (ss : List SectionForm) → total moves moves_worth ss ≡ label (pos (sum_of (λ s. s.moves) ss)) (pos (sum_of (λ s. s.samples) ss))
unfolding sum_of
total_moves [] = refl
total_moves (s ∷ ss) = ap (λ a. moves.plus (moves_worth s) a) (total_moves ss)

pub totals_moves : TotalsOnPage moves moves_worth SectionRange moves_forms
totals_moves ss h few =
    let m = sum_of (λ s. s.moves) ss in
    let n = sum_of (λ s. s.samples) ss in
    let bm = bounded (λ s. s.moves) SectionRange (2 ^ 16) (λ s r. r.moves) ss h in
    let bn = bounded (λ s. s.samples) SectionRange (2 ^ 32) (λ s r. r.samples) ss h in
    (label_form m n, ap moves_shown (total_moves ss) ∙ ap₂ both (field_of (2 ^ 32) m (omega arith)) (field_of (2 ^ 44) n (omega arith)))
