use Rattle.std.proofs.Common.{ap}
use Rattle.showing.proofs.Reading.{read_up_to}
use Rattle.showing.proofs.first.first_bytes.Goals as goal

pub returns : goal.returns
returns g c =
    let reader = c.take.result in
    read_up_to (g.R.Read.remaining reader.inner) (g.R.Read.remaining c.args.reader) reader.limit _ _
    (ap g.R.Read.remaining c.take.ensures.inner) c.take.ensures.limit c.new-page.ensures.items c.in_ok-read_to_end.ensures.bytes
