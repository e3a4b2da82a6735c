-- `rules::check_devices` meets its contract: each way out is what `devices_fault` computes to.
-- Assumes nothing.
use Rattle.rules.proofs.FaultLaws.{devices-1, devices-2, devices-0}
use Rattle.rules.proofs.check_devices.Goals as goal

pub returns-then-n-eq0 : goal.returns-then-n-eq0
returns-then-n-eq0 c = devices-1 _ c.if-n-eq0.true

pub returns-then-many : goal.returns-then-many
returns-then-many c = devices-2 _ c.if-n-eq0.false c.if-many.true

pub returns : goal.returns
returns c = devices-0 _ c.if-n-eq0.false c.if-many.false
