-- `network::owners::own_searched` meets its contract. The loop's invariant: the owners are those of the sweep over the nodes below x.
-- Assumes nothing.
use Rattle.rules.specs.Sweep.{wanted_in}
use Rattle.network.specs.Parts.{Least}
use Rattle.network.proofs.CallLaws.{Owning}
use Rattle.network.proofs.owners.own_searched.Given as goal

abbrev pub invariant-loop-x : goal.invariant-loop-x
invariant-loop-x l = Owning l.k (Least l.network) (wanted_in l.wanted) l.initial.owner l.owner l.x
