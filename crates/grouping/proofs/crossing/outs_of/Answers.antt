-- `grouping::crossing::outs_of` meets its contract. The loop's invariant: each out is that of the first l lines. Assumes nothing.
use Prim.Native.Nat.{ℕ, ◌*◌}
use native.Mathlib.Nat.{le_antisymm}
use native.Mathlib.Omega.{arith}
use mathlib.Core.Path.{sym}
use lib.Seq.{get_or-set_other}
use Rattle.grouping.proofs.GroupSums.{LineFits, first-label-in, second-label-in, tally-start, outed-fits, outed-sum, outed-other, outed-both, outed-done}
use Rattle.grouping.proofs.FitLaws.{turn-within}
use Rattle.grouping.proofs.crossing.outs_of.Goals as goal
use Rattle.grouping.proofs.crossing.outs_of.Goals.{In-loop-l, then-h-k, else-h-k}

pub loop-l-init : goal.loop-l-init
loop-l-init c = (omega arith, tally-start _ _ (omega (arith, c.args.plant.now.accepted.most_devices)))

-- what is known of line l
line : (c : In-loop-l) → LineFits c.args.plant.now.devices c.args.plant.now.firsts.now c.args.plant.now.seconds.now c.args.plant.now.signals.now c.args.labels.now c.loop-l.outs c.loop-l.l (c.loop-l.l * 65535)
line c = outed-fits _ _ _ _ _ c.loop-l.invariant.1 c.args.plant.now.accepted c.requires c.loop-l-test.true

pub overflow_add-outs : goal.overflow_add-outs
overflow_add-outs c =
    let known = line (goal.at.overflow_add-outs c).In-loop-l in
    outed-sum known.first_top known.most_lines known.few

pub overflow_add-outs-then-h-k : goal.overflow_add-outs-then-h-k
overflow_add-outs-then-h-k c =
    let known = line (goal.at.overflow_add-outs-then-h-k c).In-loop-l in
    rw (get_or-set_other {A = ℕ} _ _ _ _ 0 (λ e. c.if-h-k.true (sym e))) (outed-sum known.second_top known.most_lines known.few)

pub loop-l-preserved : goal.loop-l-preserved
loop-l-preserved c =
    let known = line (goal.at.loop-l-preserved c).In-loop-l in (
      turn-within _ _ c.loop-l-test.true,
      elim c.if-h-k.branch [
        | then-h-k w ↦
            rw w.outs-is (outed-both _ _ _ _ _ c.loop-l.invariant.1 w.if-h-k.true (first-label-in known) (second-label-in known))
        | else-h-k w ↦
            rw w.outs-is (outed-other _ _ _ _ _ c.loop-l.invariant.1 w.if-h-k.false)
      ],
    )

pub returns : goal.returns
returns c = outed-done _ _ _ _ _ c.args.plant.now.accepted c.loop-l.invariant.1 (le_antisymm c.loop-l.invariant.0 c.loop-l-test.false)
