-- `grouping::labels::fill` meets its contract. The loop's invariant is that of `OwnerLaws`: the firsts that are known, and the labels
-- written so far. Assumes nothing.
use Prim.Native.Nat.{◌+◌}
use native.Mathlib.Omega.{arith}
use mathlib.Core.Path.{◌≡◌}
use lib.ListN.{get_or}
use Rattle.grouping.specs.Level.{first_with}
use Rattle.rules.proofs.DistinctLaws.{owns-most}
use Rattle.rules.proofs.FillLaws.{over-more, over_none}
use Rattle.grouping.proofs.OwnerLaws.{Firsts, firsts-start, firsts-new, firsts-old, firsts-all}
use Rattle.grouping.proofs.labels.fill.Goals as goal
use Rattle.grouping.proofs.labels.fill.Goals.{then-first-o, else-first-o}

pub loop-v-init : goal.loop-v-init
loop-v-init c = (omega arith, over_none _ _, firsts-start _ _ (omega arith))

pub overflow_add-groups : goal.overflow_add-groups
overflow_add-groups c =
    omega (arith, c.loop-v.invariant.2.counted, owns-most c.loop-v.v (first_with c.args.n c.args.owner.now))

pub loop-v-preserved : goal.loop-v-preserved
loop-v-preserved c =
    let n = c.args.n in
    let owner = c.args.owner.now in
    let v = c.loop-v.v in
    let device = c.requires.2 v c.loop-v-test.true in
    let known : Firsts n owner c.if-first-o.first c.if-first-o.groups (v + 1) × (get_or c.if-first-o.first (get_or owner v 0) 0 ≡ first_with n owner v) =
    elim c.if-first-o.branch [
      | then-first-o w ↦
          firsts-new n owner c.loop-v.first c.loop-v.groups v (omega arith) (omega arith) device c.loop-v.invariant.2 w.if-first-o.true w.first-is w.groups-is
      | else-first-o w ↦
          firsts-old n owner c.loop-v.first c.loop-v.groups v (omega arith) (omega arith) device c.loop-v.invariant.2 w.if-first-o.false w.first-is w.groups-is
    ]
    in (omega arith, rw c.loop-v.invariant.1 (over-more _ _ _ _ (omega arith) known.1), known.0)

pub returns : goal.returns
returns c =
    let all = firsts-all _ _ _ (omega arith) c.loop-v.invariant.1 c.loop-v.invariant.2 in
    record { count = all.0; labels_filled = all.1 }
