-- What the program prints.
use Rattle.std.specs.Prelude.{ℕ, ◌+◌, cond, List, [], ◌∷◌, ◌++◌, length, Some, None, Ok, Err, codes, decimal, Option, Result, ◌==◌, slice_index_or}
use Rattle.std.specs.Option.{option_map}
use Rattle.faults.specs.Faults.{refused_line}
use Rattle.amounts.specs.Kinds.{samples_parts, samples_made}
use Rattle.amounts.specs.declared.forms.SectionForm.{SectionForm}
use Rattle.faults.specs.declared.Fault.{Fault}
use Rattle.networks.specs.Nets.{Net}
use Rattle.twinline.specs.Twin.{Line, line_drawn, twin_net}
use Rattle.twinline.specs.declared.twin_line.Drawing.{Drawing}
use Rattle.networks.specs.declared.section.Section.{Section}
use Rattle.twin.specs.declared.asked.Asked.{Asked}
use Rattle.twin.specs.declared.asked.Kind.{Kind}
use Rattle.twin.specs.declared.asked.Kind.TheVariants.{Samples, Moves}

-- What is asked ------------------------------------------------------------------------------

-- the kind of a number
abbrev pub kind_by : ℕ → Option Kind
kind_by n = cond (n == 1) (Some Samples) (cond (n == 2) (Some Moves) None)

-- kind, count, spacing, upper, lower, crossover and rate, and no other word
abbrev pub asked_by : List ℕ → Option Asked
asked_by words =
    let word : ℕ → ℕ = λ i. slice_index_or words i 0 in
    let drawing : Drawing = record { count = word 1; spacing = word 2; upper = word 3; lower = word 4; crossover = word 5; rate = word 6 } in
    cond (length words == 7) (option_map (λ k. record { kind = k; drawing = drawing }) (kind_by (word 0))) None

-- What is printed ----------------------------------------------------------------------------

abbrev newline : List ℕ
newline = 10 ∷ []

abbrev pub heading_line : {S : Type 0} → Net S → List ℕ
heading_line net =
    codes "stations " ++ (decimal net.stations ++ (codes " sections " ++ (decimal (length net.sections) ++
    (codes " launcher " ++ (decimal net.launcher ++ (codes " trap " ++ (decimal net.trap ++ newline)))))))

-- number, from, to, moves and samples
abbrev pub section_line : {S : Type 0} → (S → SectionForm) → ℕ → Section S → List ℕ
section_line parts n s =
    let form = parts s.amount in
    decimal n ++ (codes " " ++ (decimal s.from ++ (codes " " ++ (decimal s.to ++ (codes " " ++ (decimal form.moves ++ (codes " " ++ (decimal form.samples ++ newline))))))))

-- the sections count from n
abbrev pub section_lines : {S : Type 0} → (S → SectionForm) → ℕ → List (Section S) → List ℕ
section_lines parts n [] = []
section_lines parts n (s ∷ ss) = section_line parts n s ++ section_lines parts (n + 1) ss

abbrev pub report_of : {S : Type 0} → (S → SectionForm) → Net S → List ℕ
report_of parts net = heading_line net ++ section_lines parts 0 net.sections

abbrev pub usage_line : List ℕ
usage_line = codes "usage: twin KIND COUNT SPACING UPPER LOWER CROSSOVER RATE" ++ newline

abbrev pub refusal : Fault → List ℕ
refusal fault = refused_line fault ++ newline

abbrev pub line_report : Kind → Line → List ℕ
line_report Samples line = report_of samples_parts (twin_net samples_made line)
line_report Moves line = report_of (λ s. s) (twin_net (λ f. f) line)

abbrev pub drawn_report : Kind → Result Line Fault → List ℕ
drawn_report kind (Ok line) = line_report kind line
drawn_report kind (Err fault) = refusal fault

abbrev pub answer_of : Option Asked → List ℕ
answer_of None = usage_line
answer_of (Some asked) = drawn_report asked.kind (line_drawn asked.drawing)
