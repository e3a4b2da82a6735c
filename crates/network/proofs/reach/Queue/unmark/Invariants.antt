-- `network::reach::Queue::unmark` meets its contract. The loop's invariant: the nodes at the places below j are those marked.
-- Assumes nothing.
use Prim.Native.Nat.{◌≤◌}
use mathlib.Core.Path.{◌≡◌}
use Rattle.network.specs.Search.{Marks}
use Rattle.network.proofs.reach.Queue.unmark.Given as goal

abbrev pub invariant-loop-j : goal.invariant-loop-j
invariant-loop-j l = record {
  least : l.cut ≤ l.j;
  counts : (l.self.count ≡ l.initial.self.count) × (l.self.place ≡ l.initial.self.place);
  marks : Marks l.initial.self.node l.self.mark l.j;
  kept : (l.self.node ≡ l.initial.self.node) × (l.self.via ≡ l.initial.self.via) × (l.self.from ≡ l.initial.self.from);
}
