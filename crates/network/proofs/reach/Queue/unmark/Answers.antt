-- `network::reach::Queue::unmark` meets its contract. The loop's invariant: the nodes at the places below j are those marked.
-- Assumes nothing.
use Prim.Native.Nat.{◌+◌, ◌-◌}
use mathlib.Core.Path.{◌≡◌}
use native.Mathlib.Omega.{arith}
use Rattle.network.proofs.ReachLaws.{marks-less}
use Rattle.network.proofs.reach.Queue.unmark.Goals as goal

pub loop-j-preserved : goal.loop-j-preserved
loop-j-preserved c =
    let inv = c.loop-j.invariant in
    let all : c.loop-j.j ≡ c.loop-j.j - 1 + 1 = omega arith in
    record {
      least = omega arith;
      counts = inv.counts;
      marks = rw inv.kept.0 (marks-less _ (rw all at inv.marks) c.loop-j.self.rooms.3);
      kept = inv.kept;
    }

pub returns-clause-marks_after : goal.returns-clause-marks_after
returns-clause-marks_after c =
    let inv = c.loop-j.invariant in
    let end : c.loop-j.j ≡ c.args.cut = omega (arith, inv.least) in
    rw (inv.kept.0, ← end) inv.marks
