use Rattle.std.proofs.Common.{◌+◌, ◌*◌, drop, sym, ap, ◌∙◌}
use Rattle.records.proofs.Passing.{nth_run_past}
use Rattle.contents.proofs.Places.{nth_there}
use Rattle.pages.proofs.page_network.nth_record.Goals as goal

pub returns-then-k-count : goal.returns-then-k-count
returns-then-k-count g c = sym (nth_run_past g.R.Record.shape c.args.count c.args.k (drop c.args.from c.args.bytes.now) c.if-k-count.true)

pub returns : goal.returns
returns g c =
    let bytes = c.args.bytes.now in
    nth_there g.R.Record.shape bytes c.args.from c.args.count c.args.k c.front.result _ c.if-k-count.false c.requires (c.bytes_from.ensures ∙ ap (λ n. drop (c.args.from + n * c.args.k) bytes) g.met.R.Record.sized) c.front.ensures
