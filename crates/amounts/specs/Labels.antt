-- Labels by their parts, and the forms of estimates.
use Rattle.std.specs.Prelude.{◌≡◌, ℕ, ◌^◌, cond, ℤ, pos, negsuc, Some, None, Option, refl}
use Rattle.std.proofs.Common.{ap, ap₂, arith}
use Rattle.std.proofs.lemmas.Bool.{lt-ltb}
use Rattle.amounts.specs.Forms.{OnPage, label_form}
use Rattle.amounts.specs.Kinds.{InField, field, both, label, samples_forms, samples_estimate, moves_forms, moves_estimate}
use Rattle.amounts.specs.declared.forms.LabelForm.{LabelForm}
use Rattle.amounts.specs.declared.kinds.MovesLabel.{MovesLabel}

pub same : {a b : MovesLabel} → a.moves ≡ b.moves → a.samples ≡ b.samples → a ≡ b
same p q = ap₂ label p q

-- a number in a field's range stands there
in_field : (limit : ℕ) (a : ℤ) → InField limit a → (n : ℕ) × (field limit a ≡ Some n)
in_field limit (pos n) h = (n, ap (λ t. cond t (Some n) None) (lt-ltb n limit h))
in_field limit (negsuc n) h = absurd h

-- and what stands there is in its range
from_field : (limit : ℕ) (a : ℤ) (n : ℕ) → field limit a ≡ Some n → InField limit a
from_field limit (pos m) n e = Prim.grind arith
from_field limit (negsuc m) n e = cc

pub samples_on_page : (a : ℤ) → samples_estimate a → OnPage samples_forms a
samples_on_page a h = let p = in_field (2 ^ 44) a h in (label_form 0 p.0, ap (both (Some 0)) p.1)

pub samples_in_range : (a : ℤ) → OnPage samples_forms a → samples_estimate a
samples_in_range a p = go (field (2 ^ 44) a) refl p
  where
    go : (o : Option ℕ) → field (2 ^ 44) a ≡ o → (f : LabelForm) × (both (Some 0) o ≡ Some f) → samples_estimate a
    go (Some n) e q = from_field (2 ^ 44) a n e
    go None e q = cc

pub moves_on_page : (a : MovesLabel) → moves_estimate a → OnPage moves_forms a
moves_on_page a h =
    let m = in_field (2 ^ 32) a.moves h.0 in
    let s = in_field (2 ^ 44) a.samples h.1 in
    (label_form m.0 s.0, ap₂ both m.1 s.1)

pub moves_in_range : (a : MovesLabel) → OnPage moves_forms a → moves_estimate a
moves_in_range a p = go (field (2 ^ 32) a.moves) (field (2 ^ 44) a.samples) refl refl p
  where
    go : (o q : Option ℕ) → field (2 ^ 32) a.moves ≡ o → field (2 ^ 44) a.samples ≡ q → (f : LabelForm) × (both o q ≡ Some f) → moves_estimate a
    go (Some m) (Some s) d e r = (from_field (2 ^ 32) a.moves m d, from_field (2 ^ 44) a.samples s e)
    go (Some m) None d e r = cc
    go None q d e r = cc
