use Rattle.std.proofs.Common.{◌≡◌, ◌+◌, ◌*◌, List, take}
use Rattle.records.specs.Bytes.{overlay}
use Rattle.records.specs.Shapes.{size_of, encoded_run}
use Rattle.writing.specs.Rows.{MadeOneByOne}
use Rattle.writing.proofs.rows.put_run.Given as goal

-- the first records stand
abbrev pub invariant-loop-k : goal.invariant-loop-k
invariant-loop-k g l =
    (l.end ≡ l.at + size_of g.R.Record.shape * l.k)
    × ((rs : List _) → MadeOneByOne (goal.F-post g l.make) l.count rs
    → l.page ≡ overlay l.initial.page l.at (encoded_run g.R.Record.shape (take l.k rs)))
