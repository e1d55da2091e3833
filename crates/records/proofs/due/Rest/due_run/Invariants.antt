use Rattle.std.proofs.Common.{◌≡◌, ◌-◌}
use Rattle.records.specs.Due.{due_run}
use Rattle.records.proofs.due.Rest.due_run.Given as goal

-- what is still due
abbrev pub invariant-loop : goal.invariant-loop
invariant-loop g l =
    let shape = g.R.Record.shape in
    due_run shape l.rest.limits l.rest.length (l.count - l.counter) l.rest.bytes.now ≡ due_run shape l.self.limits l.self.length l.count l.self.bytes.now
