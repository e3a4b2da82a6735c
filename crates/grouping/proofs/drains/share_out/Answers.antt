-- `grouping::drains::share_out` meets its contract. The loop's invariant: each node has the shares of its devices below v. Assumes nothing.
use Prim.Native.Nat.{◌<◌}
use native.Mathlib.Omega.{arith}
use lib.ListN.{get_or}
use Rattle.grouping.proofs.GroupSums.{tally-start}
use Rattle.grouping.proofs.DrainLaws.{shared-most, shared-next, shared-done}
use Rattle.grouping.proofs.drains.share_out.Goals as goal
use Rattle.grouping.proofs.drains.share_out.Goals.{In-loop-v}

pub loop-v-init : goal.loop-v-init
loop-v-init c = (omega arith, tally-start _ _ c.requires.0)

-- the node of v is a device
device : (c : In-loop-v) → get_or c.args.node.now c.loop-v.v 0 < c.args.n
device c = c.requires.1 c.loop-v.v c.loop-v-test.true

pub overflow_add-shares : goal.overflow_add-shares
overflow_add-shares c = omega (arith, shared-most _ _ _ c.loop-v.invariant.1 c.requires.2 _ (device (goal.at.overflow_add-shares c).In-loop-v))

pub loop-v-preserved : goal.loop-v-preserved
loop-v-preserved c = (omega arith, shared-next _ _ _ c.loop-v.invariant.1 (omega (arith, device (goal.at.loop-v-preserved c).In-loop-v)))

pub returns : goal.returns
returns c = shared-done _ _ _ c.loop-v.invariant.1 c.loop-v-test.false c.loop-v.invariant.0
