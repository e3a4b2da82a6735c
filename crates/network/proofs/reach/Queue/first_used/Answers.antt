-- `network::reach::Queue::first_used` meets its contract. The loop's invariant is `Used`: of the places on the way those above j have been gone through. The measure is j.
-- Assumes nothing.
use Prim.Native.Nat.{◌+◌, ◌<◌}
use native.Mathlib.Omega.{arith}
use Rattle.network.proofs.PathLaws.{used-spare, used-none, used-end}
use Rattle.network.proofs.reach.Queue.first_used.Goals as goal
use Rattle.network.proofs.reach.Queue.first_used.Goals.{In-loop-j}

-- place j is on the way
below : (c : In-loop-j) → c.loop-j.j < c.args.end + 1
below c = omega (arith, c.loop-j.invariant.used.within)

pub loop-j-preserved-then-spare-eq0 : goal.loop-j-preserved-then-spare-eq0
loop-j-preserved-then-spare-eq0 c =
    let test = c.loop-j-test.true in
    record {
      used = used-none _ _ _ _ _ _ _ c.loop-j.invariant.used test (c.requires.way.parent _ test (below (goal.at.loop-j-preserved-then-spare-eq0 c).In-loop-j)) (omega (arith, c.over-spare.ensures));
      below = (test, omega (arith, c.loop-j.invariant.used.within));
      zero = omega (arith, c.over-spare.ensures);
    }

pub loop-j-preserved : goal.loop-j-preserved
loop-j-preserved c =
    let test = c.loop-j-test.true in
    record {
      used = used-spare _ _ _ _ _ _ _ c.loop-j.invariant.used test (c.requires.way.parent _ test (below (goal.at.loop-j-preserved c).In-loop-j)) (omega (arith, c.over-spare.ensures));
      below = c.loop-j.invariant.below;
      zero = c.loop-j.invariant.zero;
    }

pub returns-clause-before : goal.returns-clause-before
returns-clause-before c = used-end _ _ _ _ _ _ _ c.loop-j.invariant.used c.loop-j-test.false
