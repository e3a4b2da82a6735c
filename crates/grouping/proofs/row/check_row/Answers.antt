-- `grouping::row::check_row` meets its contract, test by test. Assumes nothing.
use Rattle.std.proofs.Common.{sym, arith}
use native.Mathlib.Nat.{lt_of_le_of_lt, mul-le-mul}
use lib.Dec.{lit<}
use Rattle.rules.specs.Refusals.{done}
use Rattle.rules.proofs.FaultLaws.{devices-right, err-is}
use Rattle.grouping.proofs.RowCalls.{row-devices, row-past, row-over, row-12, row_done}
use Rattle.grouping.proofs.row.check_row.Goals as goal
use Rattle.grouping.proofs.row.check_row.Goals.{then-levels-k-via-then-levels-k, then-levels-k-via-else-levels-k+then-over}

pub returns-in_err-check_devices : goal.returns-in_err-check_devices
returns-in_err-check_devices c =
    let f = c.in_err-check_devices.field-0.0 in
    rw (err-is c.from_residual.result f c.from_residual.ensures.1) (row-devices _ _ _ _ f c.in_err-check_devices.ensures)

pub returns-then-levels-k : goal.returns-then-levels-k
returns-then-levels-k c =
    elim c.then-levels-k.branch [
      | then-levels-k-via-then-levels-k w ↦ sym (row-past _ _ _ _ (devices-right _ c.in_ok-check_devices.ensures).0 (devices-right _ c.in_ok-check_devices.ensures).1 w.if-levels-k.true)
      | then-levels-k-via-else-levels-k+then-over w ↦
          sym (row-over _ _ _ _ (devices-right _ c.in_ok-check_devices.ensures).0 (devices-right _ c.in_ok-check_devices.ensures).1 w.if-levels-k.false w.if-over.true)
    ]

pub returns-then-labels-levels : goal.returns-then-labels-levels
returns-then-labels-levels c = sym (row-12 _ _ _ _ (devices-right _ c.in_ok-check_devices.ensures).0 (devices-right _ c.in_ok-check_devices.ensures).1 c.if-levels-k.false c.if-over.false c.if-labels-levels.true)

pub returns : goal.returns
unfolding done
returns c = sym (row_done _ _ _ _ (devices-right _ c.in_ok-check_devices.ensures).0 (devices-right _ c.in_ok-check_devices.ensures).1 c.if-levels-k.false c.if-over.false c.if-labels-levels.false)

pub overflow_mul-levels : goal.overflow_mul-levels
overflow_mul-levels c =
    let few = (devices-right _ c.in_ok-check_devices.ensures).1 in
    record { fits = lt_of_le_of_lt (mul-le-mul {n₂ = 128} {m₂ = 128} (omega (arith, few, c.if-over.false)) few) (lit< tt) }
