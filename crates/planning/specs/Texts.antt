-- The lines that are printed.
use Rattle.std.specs.Prelude.{ℕ, List, [], ◌∷◌, ◌++◌, codes, decimal}
use Rattle.amounts.specs.declared.cost.Cost as cost
use Rattle.amounts.specs.Forms.{Forms}
use Rattle.faults.specs.Faults.{refused_line}
use Rattle.faults.specs.declared.Fault.{Fault}
use Rattle.contents.specs.declared.answer.Step.{Step}
use Rattle.contents.specs.Encoding.{form_of}

abbrev newline : List ℕ
newline = 10 ∷ []

module _ {C L S : Type 0} (c : cost.Ghosts C L S) (forms : Forms L S) where
  -- an amount's moves and samples, and what follows
  abbrev pub amount_then : L → List ℕ → List ℕ
  amount_then a rest = let form = form_of c forms a in decimal form.moves ++ (codes " " ++ (decimal form.samples ++ rest))

  abbrev pub cost_line : L → ℕ → List ℕ
  cost_line cost taken = codes "cost " ++ amount_then cost (codes " taken " ++ (decimal taken ++ newline))

  -- section, from, to, and the cost so far
  abbrev pub step_line : Step L → List ℕ
  step_line s = decimal s.section ++ (codes " " ++ (decimal s.from ++ (codes " " ++ (decimal s.to ++ (codes " " ++ amount_then s.so_far newline)))))

  abbrev pub step_lines : List (Step L) → List ℕ
  step_lines [] = []
  step_lines (s ∷ ss) = step_line s ++ step_lines ss

  -- the cost and the stations taken, then a line a step
  abbrev pub route_text : L → ℕ → List (Step L) → List ℕ
  route_text cost taken steps = cost_line cost taken ++ step_lines steps

abbrev pub none_text : ℕ → List ℕ
none_text taken = codes "none taken " ++ (decimal taken ++ newline)

abbrev pub refused_text : Fault → List ℕ
refused_text fault = refused_line fault ++ newline
