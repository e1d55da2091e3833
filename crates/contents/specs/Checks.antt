-- What is answered when a page is read: its records in their order, and nothing after them.
use Rattle.std.specs.Prelude.{ℕ, ◌+◌, ◌-◌, ◌*◌, Bool, true, cond, ◌&&◌, List, [], ◌∷◌, ◌++◌, length, drop, replicate, Ok, Err, Result, ◌==◌, nat_lt, slice_index}
use Rattle.faults.specs.declared.Fault.{Fault}
use Rattle.faults.specs.declared.Refusal.TheVariants.{TrailingBytes}
use Rattle.records.specs.declared.limits.Limits.{Limits}
use Rattle.records.specs.declared.kinds.HeaderRecord.{HeaderRecord}
use Rattle.records.specs.Shapes.{decoded}
use Rattle.std.specs.Result.{result_and}
use Rattle.records.specs.Due.{page_fault, due_record, due_run}
use Rattle.records.specs.Layout.{header_shape, section_shape, estimate_shape, answer_shape, step_shape, end_shape}

-- Where the records stand ----------------------------------------------------------------------

abbrev pub header_of : List ℕ → HeaderRecord
header_of bs = decoded header_shape bs

abbrev pub section_bytes : List ℕ → List ℕ
section_bytes bs = drop 10 bs

abbrev pub estimate_bytes : List ℕ → List ℕ
estimate_bytes bs = drop (12 * (header_of bs).sections) (section_bytes bs)

-- an answer, or the end
abbrev pub answer_bytes : List ℕ → List ℕ
answer_bytes bs = drop (21 * (header_of bs).stations) (estimate_bytes bs)

abbrev pub has_answer : List ℕ → Bool
has_answer rest = slice_index rest 0 == 0x41

abbrev pub step_bytes : List ℕ → List ℕ
step_bytes rest = drop 20 rest

abbrev pub step_count : List ℕ → ℕ
step_count rest = (decoded answer_shape rest).steps

-- What is checked ------------------------------------------------------------------------------

abbrev pub limits_of : ℕ → HeaderRecord → Limits
limits_of kind h = record { kind = kind; stations = h.stations; sections = h.sections }

-- before the header is read, only the kind is known
abbrev pub limits_for : ℕ → Limits
limits_for kind = record { kind = kind; stations = 0; sections = 0 }

-- the end, and nothing after it
abbrev pub due_end : Limits → ℕ → List ℕ → Result (Unit {0}) Fault
due_end limits len rest =
    result_and (due_record end_shape limits len rest)
    (cond (nat_lt 1 (length rest)) (Err (page_fault (TrailingBytes (len - length rest + 1)))) (Ok tt))

-- perhaps an answer with its steps, then the end
abbrev pub due_answer : Limits → ℕ → List ℕ → Result (Unit {0}) Fault
due_answer limits len rest =
    cond (has_answer rest)
    (result_and (due_record answer_shape limits len rest)
    (result_and (due_run step_shape limits len (step_count rest) (step_bytes rest))
    (due_end limits len (drop (13 * step_count rest) (step_bytes rest)))))
    (due_end limits len rest)

abbrev pub check_page : ℕ → List ℕ → Result (Unit {0}) Fault
check_page kind bs =
    let len = length bs in
    let limits = limits_of kind (header_of bs) in
    result_and (due_record header_shape (limits_for kind) len bs)
    (result_and (due_run section_shape limits len (header_of bs).sections (section_bytes bs))
    (result_and (due_run estimate_shape limits len (header_of bs).stations (estimate_bytes bs))
    (due_answer limits len (answer_bytes bs))))

-- the header of a page that passes
abbrev pub headed : {A : Type 0} → A → Result (Unit {0}) Fault → Result A Fault
headed a (Ok u) = Ok a
headed a (Err f) = Err f

-- every byte of a list is a byte
abbrev pub all_bytes : List ℕ → Bool
all_bytes [] = true
all_bytes (b ∷ bs) = nat_lt b 256 && all_bytes bs

-- a page of one station with blank estimates
abbrev pub blank_page : List ℕ
blank_page = 0x48 ∷ 1 ∷ 0 ∷ 1 ∷ 0 ∷ 0 ∷ 0 ∷ 0 ∷ 0 ∷ 0 ∷ 0x45 ∷ (replicate 20 0 ++ (0x5A ∷ []))
