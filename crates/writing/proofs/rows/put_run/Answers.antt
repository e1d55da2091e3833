use Rattle.std.proofs.Common.{sym, ◌∙◌, arith}
use Rattle.std.proofs.Math.Nat.{mul-add}
use Rattle.records.specs.Shapes.{size_of}
use Rattle.contents.proofs.Overlays.{run_step}
use Rattle.writing.proofs.rows.put_run.Goals as goal

pub loop-k-preserved : goal.loop-k-preserved
loop-k-preserved g c =
    let k = c.loop-k.k in (
      omega (arith, c.loop-k.invariant.0, mul-add (size_of g.R.Record.shape) k 1),
      λ rs made.
          let many = made.many in
          c.put-end.ensures.page
          ∙ run_step g.R.Record.shape g.met.R.Record.lawful c.args.page.now c.args.at k rs c.in-Some.body c.loop-k.page _ (c.loop-k.invariant.1 rs made)
          (sym c.in-Some.is ∙ made.each k _ c.loop-k-test.true c.make.ensures) (omega arith) (rw many c.requires.room) c.loop-k.invariant.0,
    )
