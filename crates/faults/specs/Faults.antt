-- The number and the place of each refusal.
use Rattle.std.specs.Prelude.{ℕ, ◌+◌, Bool, true, false, List, [], ◌∷◌, ◌++◌, Ok, Err, codes, decimal, Result}
use Rattle.faults.specs.declared.Side.{Side}
use Rattle.faults.specs.declared.Side.TheVariants.{Forward, Backward}
use Rattle.faults.specs.declared.Layer.{Layer}
use Rattle.faults.specs.declared.Layer.TheVariants as layer
use Rattle.faults.specs.declared.Refusal.{Refusal}
use Rattle.faults.specs.declared.Refusal.TheVariants.{PageEnds, UnexpectedKind, FieldOutOfRange, TrailingBytes, TooFewRows, EstimateCount, Inconsistent, Ended, NotEnded, ListTooShort, PageTooShort, ParameterOutOfRange, ShutInFull, NoSuchSection, ForeignSheet, NotJoined}
use Rattle.faults.specs.declared.Fault.{Fault}

abbrev pub side_number : Side → ℕ
side_number Forward = 1
side_number Backward = 2

abbrev pub opposite : Side → Side
opposite Forward = Backward
opposite Backward = Forward

abbrev pub number_of : Refusal → ℕ
number_of (PageEnds _) = 1
number_of (UnexpectedKind _) = 2
number_of (FieldOutOfRange _) = 3
number_of (TrailingBytes _) = 4
number_of (TooFewRows _) = 5
number_of (EstimateCount _) = 6
number_of (Inconsistent _ _) = 7
number_of (Ended _) = 8
number_of (NotEnded _) = 9
number_of (ListTooShort _) = 10
number_of (PageTooShort _) = 11
number_of (ParameterOutOfRange _) = 12
number_of (ShutInFull _) = 13
number_of (NoSuchSection _) = 14
number_of (ForeignSheet _) = 15
number_of (NotJoined _) = 16

-- of inconsistent estimates, the section
abbrev pub place_of : Refusal → ℕ
place_of (PageEnds n) = n
place_of (UnexpectedKind n) = n
place_of (FieldOutOfRange n) = n
place_of (TrailingBytes n) = n
place_of (TooFewRows n) = n
place_of (EstimateCount n) = n
place_of (Inconsistent n _) = n
place_of (Ended n) = n
place_of (NotEnded n) = n
place_of (ListTooShort n) = n
place_of (PageTooShort n) = n
place_of (ParameterOutOfRange n) = n
place_of (ShutInFull n) = n
place_of (NoSuchSection n) = n
place_of (ForeignSheet n) = n
place_of (NotJoined n) = n

-- a layer's fault for a refusal
abbrev pub fault_of : Layer → Refusal → Fault
fault_of l r = record { refusal = r; layer = l }

abbrev pub network_fault : Refusal → Fault
network_fault r = fault_of layer.Network r

-- The value, where every parameter passes its test; else the first one that does not, counted from n.
abbrev pub ranged_from : {A : Type 0} → ℕ → List Bool → A → Result A Fault
ranged_from n [] a = Ok a
ranged_from n (true ∷ tests) a = ranged_from (n + 1) tests a
ranged_from n (false ∷ tests) a = Err (network_fault (ParameterOutOfRange n))

abbrev pub ranged : {A : Type 0} → List Bool → A → Result A Fault
ranged tests a = ranged_from 0 tests a

-- The line that a program prints.
abbrev pub refused_line : Fault → List ℕ
refused_line f = codes "refused " ++ (decimal (number_of f.refusal) ++ (codes " " ++ decimal (place_of f.refusal)))
