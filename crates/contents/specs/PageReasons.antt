-- What is due on a page, record by record, and what may be wrong with it.
use Rattle.std.specs.Prelude.{ℕ, ◌+◌, ◌*◌, ◌<◌, Bool, cond, List, [], ◌∷◌, ◌++◌, length, drop, ◌==◌, slice_index}
use Rattle.faults.specs.declared.Refusal.TheVariants.{TrailingBytes}
use Rattle.faults.specs.Reasons.{Reasons, refused_if, else_accepted}
use Rattle.records.specs.Shapes.{decoded}
use Rattle.records.specs.DueReasons.{Due, due_at, due_from, due_reasons}
use Rattle.records.specs.Layout.{header_shape, section_shape, estimate_shape, answer_shape, step_shape, end_shape}
use Rattle.contents.specs.Checks.{header_of, limits_of}

-- Where records are due, by the counts that the page's own records say -------------------------

-- A count in a record that is cut or damaged decides nothing: what is wrong at that record comes first.

-- the first estimate, behind the header and the sections
abbrev pub estimates_at : List ℕ → ℕ
estimates_at bs = 10 + 12 * (header_of bs).sections

-- an answer, or the end, behind the estimates
abbrev pub answer_due_at : List ℕ → ℕ
answer_due_at bs = estimates_at bs + 21 * (header_of bs).stations

-- an answer is due where its kind's byte stands
abbrev pub answer_due : List ℕ → Bool
answer_due bs = slice_index bs (answer_due_at bs) == 0x41

-- with as many steps as it says
abbrev pub steps_due : List ℕ → ℕ
steps_due bs = (decoded answer_shape (drop (answer_due_at bs) bs)).steps

-- the end, behind all of them
abbrev pub end_at : List ℕ → ℕ
end_at bs = cond (answer_due bs) (answer_due_at bs + 20 + 13 * steps_due bs) (answer_due_at bs)

-- header, sections, estimates, perhaps an answer with its steps, end
abbrev pub page_due : ℕ → List ℕ → List Due
page_due kind bs =
    let h = header_of bs in
    let limits = limits_of kind h in
    due_at header_shape limits 0
    ∷ (due_from section_shape limits 10 h.sections
    ++ (due_from estimate_shape limits (estimates_at bs) h.stations
    ++ (cond (answer_due bs) (due_at answer_shape limits (answer_due_at bs) ∷ due_from step_shape limits (answer_due_at bs + 20) (steps_due bs)) []
    ++ (due_at end_shape limits (end_at bs) ∷ []))))

-- What may be wrong ----------------------------------------------------------------------------

-- bytes behind the end, which is one byte: the first of them
abbrev pub trailing : List ℕ → ℕ → Reasons
trailing bs at = refused_if (at + 1 < length bs) (TrailingBytes (at + 1)) else_accepted

-- what may be wrong at each record that is due, in the page's order; last, bytes behind the end
abbrev pub page_reasons : ℕ → List ℕ → Reasons
page_reasons kind bs = due_reasons bs (trailing bs (end_at bs)) (page_due kind bs)
