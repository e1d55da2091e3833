use Rattle.contents.proofs.Blank.{blank_means}
use Rattle.pages.proofs.read.blank.Goals as goal

pub returns-clause-means : goal.returns-clause-means
returns-clause-means g c = blank_means g.C.Cost g.C.PageCost.forms g.met.C.PageCost.labels
