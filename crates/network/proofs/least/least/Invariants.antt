-- `network::least::least` meets its contract. The loop's invariant: what each set costs has been sent or can still leave it, and the search can go on. The measure is what is left of the drains.
-- Assumes nothing.
use mathlib.Core.Path.{◌≡◌}
use lib.ListN.{get_or}
use Rattle.rules.specs.Numbers.{sum}
use Rattle.network.specs.Parts.{Stands, Sends}
use Rattle.network.proofs.least.least.Given as goal

abbrev pub invariant-rounds : goal.invariant-rounds
invariant-rounds l = record {
  root : get_or l.queue.node 0 0 ≡ l.start;
  sends : Sends l.lines.network l.spare l.start;
  standing : Stands l.lines l.spare l.start l.queue;
}

abbrev pub decreases-rounds : goal.decreases-rounds
decreases-rounds l = sum 128 (λ v. get_or l.spare.drain v 0)
