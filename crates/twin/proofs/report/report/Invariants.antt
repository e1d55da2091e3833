use Rattle.std.proofs.Common.{◌≡◌, ◌++◌, drop, string_bytes}
use Rattle.twin.specs.Report.{section_lines, report_of}
use Rattle.twin.proofs.report.report.Given as goal

-- what is written, and the lines still to come
abbrev pub invariant-loop-number : goal.invariant-loop-number
invariant-loop-number g l =
    let parts = g.C.PageCost.forms.parts in
    let net = g.N.Network.meaning l.net in
    string_bytes l.out ++ section_lines parts l.number (drop l.number net.sections) ≡ report_of parts net
