-- `grouping::drains::drains_of` meets its contract. The loop's invariant: each node has its share and what the first l lines add to it. Assumes nothing.
use Prim.Native.Nat.{ℕ, ◌+◌, ◌*◌, ◌≤◌}
use native.Mathlib.Nat.{le_antisymm}
use native.Mathlib.Omega.{arith}
use mathlib.Core.Path.{ap, sym}
use lib.ListN.{get_or}
use lib.Seq.{get_or-set_other}
use Rattle.grouping.proofs.FitLaws.{turn-within}
use Rattle.grouping.proofs.GroupSums.{LineFits, first-label-in, second-label-in}
use Rattle.grouping.proofs.DrainLaws.{width_most, led-sum, led-start, led-same, led-both, led-fits, led-done}
use Rattle.grouping.proofs.drains.drains_of.Goals as goal
use Rattle.grouping.proofs.drains.drains_of.Goals.{In-loop-l, then-nodes-x, else-nodes-x}

pub loop-l-init : goal.loop-l-init
loop-l-init c = (omega arith, led-start _ _ _ _ _ _ _ _ (omega arith) c.share_out-drains.ensures)

-- what is known of line l
line : (c : In-loop-l) → LineFits c.args.nodes.now.plant.now.devices c.args.nodes.now.plant.now.firsts.now c.args.nodes.now.plant.now.seconds.now c.args.nodes.now.plant.now.signals.now c.args.nodes.now.node.now c.loop-l.drains c.loop-l.l (12800000000 + c.loop-l.l * 131070000)
line c = led-fits _ _ _ _ _ _ _ _ c.args.nodes.now.plant.now.accepted c.args.rate.p_most c.args.rate.q_most c.loop-l.invariant.1 c.args.nodes.now.below c.loop-l-test.true

-- the width of line l
narrow : (c : In-loop-l) → c.args.rate.q * get_or c.args.nodes.now.plant.now.signals.now c.loop-l.l 0 ≤ 65535000
narrow c = width_most _ _ c.args.rate.q_most (line c).few

pub loop-l-preserved : goal.loop-l-preserved
loop-l-preserved c =
    let known = line (goal.at.loop-l-preserved c).In-loop-l in (
      turn-within _ _ c.loop-l-test.true,
      elim c.if-nodes-x.branch [
        | then-nodes-x w ↦
            rw w.drains-is (led-both _ _ _ _ _ _ _ _ c.loop-l.invariant.1 w.if-nodes-x.true (first-label-in known) (second-label-in known))
        | else-nodes-x w ↦
            rw w.drains-is (led-same _ _ _ _ _ _ _ _ c.loop-l.invariant.1 w.if-nodes-x.false)
      ],
    )

pub overflow_add-drains : goal.overflow_add-drains
overflow_add-drains c =
    let turn = (goal.at.overflow_add-drains c).In-loop-l in
    let known = line turn in
    led-sum known.first_top known.most_lines (narrow turn)

pub overflow_add-drains-then-nodes-x : goal.overflow_add-drains-then-nodes-x
overflow_add-drains-then-nodes-x c =
    let turn = (goal.at.overflow_add-drains-then-nodes-x c).In-loop-l in
    let known = line turn in
    rw (get_or-set_other {A = ℕ} _ _ _ _ 0 (λ e. c.if-nodes-x.true (ap (λ (x : ℕ). get_or c.args.nodes.now.wall.now x 0) (sym e)))) (led-sum known.second_top known.most_lines (narrow turn))

pub returns : goal.returns
returns c =
    led-done _ _ _ _ _ _ _ _ c.args.nodes.now.plant.now.accepted c.args.rate.p_most c.args.rate.q_most c.loop-l.invariant.1 (le_antisymm c.loop-l.invariant.0 c.loop-l-test.false)
