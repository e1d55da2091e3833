use Rattle.search.specs.Calls.{standing}
use Rattle.search.proofs.Following.{Followed}
use Rattle.search.proofs.running.Running.fits.Given as goal

-- no label was too large so far
abbrev pub invariant-loop-k : goal.invariant-loop-k
invariant-loop-k g l = Followed g.C.Cost l.side (g.N.Network.meaning l.self.net) l.front (standing l.self l.own) l.k
