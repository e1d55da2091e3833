use Rattle.std.proofs.Common.{drop, ap, ◌∙◌}
use Rattle.records.proofs.Runs.{run_more}
use Rattle.records.proofs.due.Rest.due_run.Goals as goal

pub loop-preserved : goal.loop-preserved
loop-preserved g c =
    let rest = c.loop.rest in
    let next = c.behind-rest.result in
    let told = c.behind-rest.ensures in
    run_more g.R.Record.shape rest.limits rest.length c.args.count c.loop.counter rest.bytes.now _ c.loop-test.true c.in_ok-due.ensures
    next.limits next.length next.bytes.now told.limits told.length (told.bytes ∙ ap (λ n. drop n rest.bytes.now) g.met.R.Record.sized) ∙ c.loop.invariant
