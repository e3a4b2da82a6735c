-- `network::reach::Queue::spread` meets its contract. The loop's invariant is `Stands`: the lines from `rest` on are done, and the one before is the node's own. The measure is `rest`.
-- Assumes nothing.
use mathlib.Core.Path.{◌≡◌}
use Prim.Native.Nat.{◌<◌}
use lib.ListN.{get_or}
use Rattle.network.specs.Search.{behind}
use Rattle.network.specs.Parts.{Stands}
use Rattle.network.proofs.reach.Queue.spread.Given as goal

abbrev pub invariant-lines : goal.invariant-lines
invariant-lines l = record {
  there : l.self.place < l.self.count;
  place : l.self.place ≡ l.initial.self.place;
  node : get_or l.self.node l.self.place 0 ≡ l.u;
  standing : Stands l.lines l.spare (get_or l.initial.self.node 0 0) l.self;
}

abbrev pub decreases-lines : goal.decreases-lines
decreases-lines l = behind l.self.rest
