-- What may be wrong where records are due, by their offsets on a page.
use Rattle.std.specs.Prelude.{◌≡◌, ◌≢◌, ℕ, zero, suc, ◌+◌, ◌<◌, Bool, false, List, [], ◌∷◌, length, drop, slice_index}
use Rattle.faults.specs.declared.Refusal.TheVariants.{PageEnds, UnexpectedKind, FieldOutOfRange}
use Rattle.faults.specs.Reasons.{Reasons, refused_if}
use Rattle.records.specs.declared.limits.Limits.{Limits}
use Rattle.records.specs.Shapes.{Shape, size_of, decoded}

-- A record that is due: its offset, the byte of its kind, its size, and whether the record at the front of some bytes
-- keeps to the value list.
pub record Due : Type 0 where
  pub at : ℕ
  pub byte : ℕ
  pub size : ℕ
  pub keeps : List ℕ → Bool

-- a record of this shape is due at an offset
abbrev pub due_at : {R : Type 0} → Shape R → Limits → ℕ → Due
due_at shape limits at =
    record { at = at; byte = shape.byte; size = size_of shape; keeps = λ bytes. shape.good limits (decoded shape bytes) }

-- n of them are due, one after another from an offset on
abbrev pub due_from : {R : Type 0} → Shape R → Limits → ℕ → ℕ → List Due
due_from shape limits at zero = []
due_from shape limits at (suc n) = due_at shape limits at ∷ due_from shape limits (at + size_of shape) n

-- there is a byte, and it is another kind's
pub record OtherKind (d : Due) (bs : List ℕ) : Type 0 where
  pub there : d.at < length bs
  pub other : slice_index bs d.at ≢ d.byte

-- the bytes end inside the record, or before it
abbrev pub EndsInside : Due → List ℕ → Type 0
EndsInside d bs = length bs < d.at + d.size

-- a field is not in the value list
abbrev pub OutOfRange : Due → List ℕ → Type 0
OutOfRange d bs = d.keeps (drop d.at bs) ≡ false

-- At each record that is due, in their order: its kind, then its end, then its fields; then what may be wrong behind them.
abbrev pub due_reasons : List ℕ → Reasons → List Due → Reasons
due_reasons bs behind [] = behind
due_reasons bs behind (d ∷ ds) =
    refused_if (OtherKind d bs) (UnexpectedKind d.at)
    (refused_if (EndsInside d bs) (PageEnds (length bs))
    (refused_if (OutOfRange d bs) (FieldOutOfRange d.at)
    (due_reasons bs behind ds)))
