-- `grouping::hierarchy::put_row` meets its contract. The loop's invariant is `Put` of `RowLaws`: the entries of the row that are written, and
-- all others as they were. Assumes nothing.
use Prim.Native.Nat.{◌+◌, ◌*◌, ◌≤◌}
use native.Mathlib.Omega.{arith}
use lib.ListN.{length}
use Rattle.grouping.proofs.RowLaws.{row_room, put-none, put-more, put_all}
use Rattle.grouping.proofs.hierarchy.put_row.Goals as goal
use Rattle.grouping.proofs.hierarchy.put_row.Goals.{Start}

-- the row lies in the list
room : (c : Start) → c.args.k * c.args.n + c.args.n ≤ length c.args.labels.now
room c = row_room _ _ _ _ c.requires.1 c.requires.2

pub loop-v-init : goal.loop-v-init
loop-v-init c = (omega arith, put-none _ _ _)

pub loop-v-preserved : goal.loop-v-preserved
loop-v-preserved c = (omega arith, put-more _ _ _ _ _ c.loop-v.invariant.1 (omega (arith, room (goal.at.loop-v-preserved c).Start)))

pub returns : goal.returns
returns c =
    let put = put_all _ _ _ _ _ _ c.loop-v.invariant.1 (omega arith) (room (goal.at.returns c).Start) in
    record { kept_outside = put.0; row_filled = put.1 }
