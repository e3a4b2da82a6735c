-- `text::read::check_size` meets its contract: the devices first, and then the lines.
-- Assumes nothing.
use Rattle.std.proofs.Common.{arith}
use Rattle.rules.proofs.FaultLaws.{devices-right, first-fault, err-is}
use Rattle.text.specs.Reading.{size_fault_of}
use Rattle.text.proofs.Judged.{size-lines, size-right}
use Rattle.text.proofs.read.check_size.Goals as goal

pub returns-in_err-check_devices : goal.returns-in_err-check_devices
unfolding size_fault_of
returns-in_err-check_devices c =
    let f = c.in_err-check_devices.field-0.0 in
    rw (err-is c.from_residual.result f c.from_residual.ensures.1) (first-fault f _ c.in_err-check_devices.ensures)

pub returns-then-m-gt-LINES : goal.returns-then-m-gt-LINES
returns-then-m-gt-LINES c =
    let right = devices-right _ c.in_ok-check_devices.ensures in
    size-lines c.args.n c.args.m (λ e. omega (arith, right.0, e)) right.1 c.if-m-gt-LINES.true

pub returns : goal.returns
returns c =
    let right = devices-right _ c.in_ok-check_devices.ensures in
    size-right c.args.n c.args.m (λ e. omega (arith, right.0, e)) right.1 c.if-m-gt-LINES.false
