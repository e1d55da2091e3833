-- What the page of one blank station means.
use Rattle.std.proofs.Common.{◌≡◌, unwrap_or, ap}
use Rattle.amounts.specs.declared.cost.Cost as cost
use Rattle.amounts.specs.Forms.{Forms, LabelLaws, label_form}
use Rattle.contents.specs.Checks.{blank_page}
use Rattle.contents.specs.Content.{content_of, blank_content}

pub blank_means : {C L S : Type 0} (c : cost.Ghosts C L S) (forms : Forms L S) → LabelLaws c.ops forms c.estimate_range → content_of c forms blank_page ≡ blank_content c.ops.zero
blank_means c forms laws = ap (λ told. blank_content (unwrap_or told c.ops.zero)) (laws.again c.ops.zero (label_form 0 0) laws.zero_shown)
