-- Numbers in bytes, high byte first, and the fields of a record's body.
use Rattle.std.specs.Prelude.{ℕ, zero, suc, ◌+◌, ◌*◌, ◌/◌, ◌%◌, ◌^◌, ◌<◌, List, [], ◌∷◌, ◌++◌, length, take, drop, slice_index}
use Rattle.std.specs.List.{AllByRecursion}

-- the number of w bytes at an offset
abbrev pub number_at : ℕ → List ℕ → ℕ → ℕ
number_at zero bs i = 0
number_at (suc w) bs i = number_at w bs i * 256 + slice_index bs (i + w)

-- a number in w bytes
abbrev pub bytes_of : ℕ → ℕ → List ℕ
bytes_of zero n = []
bytes_of (suc w) n = bytes_of w (n / 256) ++ (n % 256 ∷ [])

-- fields of these widths, one after another from an offset on
abbrev pub fields_at : List ℕ → List ℕ → ℕ → List ℕ
fields_at [] bs i = []
fields_at (w ∷ ws) bs i = number_at w bs i ∷ fields_at ws bs (i + w)

-- the bytes of fields of these widths; a field that is missing is zero
abbrev pub body_of : List ℕ → List ℕ → List ℕ
body_of [] vs = []
body_of (w ∷ ws) [] = bytes_of w 0 ++ body_of ws []
body_of (w ∷ ws) (v ∷ vs) = bytes_of w v ++ body_of ws vs

abbrev pub width_of : List ℕ → ℕ
width_of [] = 0
width_of (w ∷ ws) = w + width_of ws

-- as many fields as widths, each of which fits its bytes
abbrev pub Fits : List ℕ → List ℕ → Type 0
Fits [] [] = Unit {0}
Fits [] (v ∷ vs) = ⊥
Fits (w ∷ ws) [] = ⊥
Fits (w ∷ ws) (v ∷ vs) = (v < 256 ^ w) × Fits ws vs

abbrev pub Bytes : List ℕ → Type 0
Bytes bs = AllByRecursion (λ b. b < 256) bs

-- the list with some of its bytes written over, from an offset on
abbrev pub overlay : List ℕ → ℕ → List ℕ → List ℕ
overlay page at bs = take at page ++ (bs ++ drop (at + length bs) page)
