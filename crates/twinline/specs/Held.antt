-- The line that a twin line holds.
use Rattle.twinline.specs.Twin.{Line, line}
use Rattle.twinline.specs.declared.twin_line.TwinLine.{TwinLine}

abbrev pub line_of : TwinLine → Line
line_of t = line t.count t.spacing t.upper t.lower t.crossover
