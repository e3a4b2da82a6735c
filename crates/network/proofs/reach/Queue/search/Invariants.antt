-- `network::reach::Queue::search` meets its contract. The loop's invariant is `Stands`. The measure is what is left of the 128 places.
-- Assumes nothing.
use Prim.Native.Nat.{◌-◌}
use lib.ListN.{get_or}
use Rattle.network.specs.Parts.{Stands}
use Rattle.network.proofs.reach.Queue.search.Given as goal

abbrev pub invariant-queue : goal.invariant-queue
invariant-queue l = Stands l.lines l.spare (get_or l.initial.self.node 0 0) l.self

abbrev pub decreases-queue : goal.decreases-queue
decreases-queue l = 128 - l.self.place
