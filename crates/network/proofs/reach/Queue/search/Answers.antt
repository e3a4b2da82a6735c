-- `network::reach::Queue::search` meets its contract. The loop's invariant is `Stands`. The measure is what is left of the 128 places.
-- Assumes nothing.
use mathlib.Core.Path.{refl}
use native.Mathlib.Omega.{arith}
use Rattle.network.proofs.ReachLaws.{standing-place}
use Rattle.network.proofs.reach.Queue.search.Goals as goal
use Rattle.network.proofs.reach.Queue.search.Goals.{then-self, else-self}

pub queue-preserved : goal.queue-preserved
queue-preserved c =
    let scan = rw (c.queue.invariant.scan.covered.tree.root, ← c.spread.ensures.kept) at (c.spread.ensures.scan c.if-spread.false) in
    elim c.if-self.branch [
      | then-self w ↦ rw w.self-is (standing-place scan (λ o. w.last_of-self.ensures) (λ o. absurd (omega (arith, w.if-self.true))))
      | else-self w ↦ rw w.self-is (standing-place scan (λ o. absurd (omega (arith, w.if-self.false))) (λ o. refl))
    ]
