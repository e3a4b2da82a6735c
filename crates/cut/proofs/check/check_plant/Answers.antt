-- `cut::check::check_plant` meets its contract: each way out is the definition's answer at the tests that led there.
-- Assumes nothing.
use Rattle.std.proofs.Common.{sym, ◌∙◌, arith}
use Rattle.rules.proofs.FaultLaws.{devices-right, err-is}
use Rattle.cut.proofs.CheckLaws.{plant-devices, plant-uneven, plant-uneven', plant-long, plant-lines}
use Rattle.cut.proofs.check.check_plant.Goals as goal
use Rattle.cut.proofs.check.check_plant.Goals.{then-lines-seconds-via-then-lines-seconds, then-lines-seconds-via-else-lines-seconds+then-lines-signals}

pub returns-in_err-check_devices : goal.returns-in_err-check_devices
returns-in_err-check_devices c =
    let f = c.in_err-check_devices.field-0.0 in
    rw (err-is c.from_residual.result f c.from_residual.ensures.1) (plant-devices _ _ _ _ f c.in_err-check_devices.ensures)

pub returns-then-lines-seconds : goal.returns-then-lines-seconds
returns-then-lines-seconds c =
    let right = devices-right _ c.in_ok-check_devices.ensures in
    let few = right.1 in
    elim c.then-lines-seconds.branch [
      | then-lines-seconds-via-then-lines-seconds w ↦ sym (plant-uneven _ _ _ _ (λ e. omega (arith, right.0, e)) few w.if-lines-seconds.true)
      | then-lines-seconds-via-else-lines-seconds+then-lines-signals w ↦
          sym (plant-uneven' _ _ _ _ (λ e. omega (arith, right.0, e)) few w.if-lines-seconds.false w.if-lines-signals.true)
    ]

pub returns-then-lines-gt-LINES : goal.returns-then-lines-gt-LINES
returns-then-lines-gt-LINES c =
    let right = devices-right _ c.in_ok-check_devices.ensures in
    let few = right.1 in
    sym (plant-long _ _ _ _ (λ e. omega (arith, right.0, e)) few c.if-lines-seconds.false c.if-lines-signals.false c.if-lines-gt-LINES.true)

pub returns : goal.returns
returns c =
    let right = devices-right _ c.in_ok-check_devices.ensures in
    let few = right.1 in
    c.check_lines.ensures
    ∙ sym (plant-lines _ _ _ _ (λ e. omega (arith, right.0, e)) few c.if-lines-seconds.false c.if-lines-signals.false c.if-lines-gt-LINES.false)
