use Rattle.std.proofs.Common.{◌≡◌, replicate}
use Rattle.optimality.specs.Sheets.{blank_row}
use Rattle.planning.proofs.blanks.blank_sheet.Given as goal

abbrev pub invariant-loop-row : goal.invariant-loop-row
invariant-loop-row g l = l.sheet.items ≡ replicate l._row blank_row
