-- What a record is: one byte of kind, and then fields whose widths the kind fixes.
use Rattle.std.specs.Prelude.{◌≡◌, ℕ, zero, suc, ◌+◌, ◌<◌, ◌≤◌, Bool, List, [], ◌∷◌, ◌++◌, length, drop}
use Rattle.records.specs.declared.limits.Limits.{Limits}
use Rattle.records.specs.Bytes.{fields_at, body_of, width_of}

-- the kind's byte, the widths of the fields, and a record by its fields; `good` is the value list
pub record Shape (R : Type 0) : Type 0 where
  pub byte : ℕ
  pub widths : List ℕ
  pub of : List ℕ → R
  pub fields : R → List ℕ
  pub good : Limits → R → Bool

abbrev pub size_of : {R : Type 0} → Shape R → ℕ
size_of shape = 1 + width_of shape.widths

-- a record's bytes, and the record at the front of some bytes
abbrev pub encoded : {R : Type 0} → Shape R → R → List ℕ
encoded shape r = shape.byte ∷ body_of shape.widths (shape.fields r)

abbrev pub decoded : {R : Type 0} → Shape R → List ℕ → R
decoded shape bs = shape.of (fields_at shape.widths bs 1)

pub record ShapeLaws {R : Type 0} (shape : Shape R) : Type 0 where
  pub byte : shape.byte < 256
  pub short : size_of shape ≤ 21
  -- a record is its fields
  pub of_fields : (r : R) → shape.of (shape.fields r) ≡ r
  pub fields_of : (vs : List ℕ) → length vs ≡ length shape.widths → shape.fields (shape.of vs) ≡ vs

-- n records one after another
abbrev pub decoded_run : {R : Type 0} → Shape R → ℕ → List ℕ → List R
decoded_run shape zero bs = []
decoded_run shape (suc n) bs = decoded shape bs ∷ decoded_run shape n (drop (size_of shape) bs)

abbrev pub encoded_run : {R : Type 0} → Shape R → List R → List ℕ
encoded_run shape [] = []
encoded_run shape (r ∷ rs) = encoded shape r ++ encoded_run shape rs
