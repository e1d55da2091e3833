use Rattle.std.proofs.Common.{sym, ap, ◌∙◌}
use Rattle.std.specs.Option.{option_copied}
use Rattle.filing.proofs.Filling.{last_is, none_last}
use Rattle.filing.proofs.file.last_cost.Goals as goal

pub returns : goal.returns
returns g c = sym (last_is g.C.Cost.ops.zero c.args.steps.now c.in-Some.step.now (sym c.last.ensures.value ∙ ap option_copied c.in-Some.is))

pub returns-in_default : goal.returns-in_default
returns-in_default g c = c.ZERO.ensures ∙ g.met.C.Cost.zero ∙ sym (none_last g.C.Cost.ops.zero c.args.steps.now (sym c.last.ensures.value ∙ ap option_copied c.in_default.is))
