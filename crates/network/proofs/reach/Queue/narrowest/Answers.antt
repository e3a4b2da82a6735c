-- `network::reach::Queue::narrowest` meets its contract. The loop's invariant is `Narrow`: what is at most `most` and can go to place j can go to place `end`. The measure is j.
-- Assumes nothing.
use Prim.Native.Nat.{◌+◌, ◌<◌}
use mathlib.Core.Path.{refl}
use mathlib.Core.Logic.{inl, inr}
use native.Mathlib.Omega.{arith}
use Rattle.network.proofs.PathLaws.{narrow_step, narrow-end}
use Rattle.network.proofs.reach.Queue.narrowest.Goals as goal
use Rattle.network.proofs.reach.Queue.narrowest.Goals.{In-loop-j}

-- place j is on the way
below : (c : In-loop-j) → c.loop-j.j < c.args.end + 1
below c = omega (arith, c.loop-j.invariant.within)

pub loop-j-preserved-then-spare-most : goal.loop-j-preserved-then-spare-most
loop-j-preserved-then-spare-most c =
    let b = below (goal.at.loop-j-preserved-then-spare-most c).In-loop-j in
    let test = c.loop-j-test.true in
    narrow_step _ _ _ _ _ _ _ _ _ c.loop-j.invariant test (c.requires.way.parent _ test b) (omega (arith, c.requires.passable _ test b)) (omega arith) (omega arith) (inr c.over-spare.ensures)

pub loop-j-preserved : goal.loop-j-preserved
loop-j-preserved c =
    let b = below (goal.at.loop-j-preserved c).In-loop-j in
    let test = c.loop-j-test.true in
    narrow_step _ _ _ _ _ _ _ _ _ c.loop-j.invariant test (c.requires.way.parent _ test b) c.loop-j.invariant.some (omega arith) (omega arith) (inl refl)

pub returns-clause-clear : goal.returns-clause-clear
returns-clause-clear c = narrow-end _ _ _ _ _ _ _ _ c.loop-j.invariant c.loop-j-test.false
