-- `network::least::least` meets its contract: the last round found nothing more to send, so what is marked is the least set, and the others are marked 0.
-- Assumes nothing.
use Rattle.network.proofs.SpareLaws.{spares-done, spares-marks}
use Rattle.network.proofs.least.least.Goals as goal

pub returns-clause-least_set : goal.returns-clause-least_set
returns-clause-least_set c =
    let root = c.rounds.invariant.root in
    let lines = c.args.lines.now in
    spares-done lines.laid lines.network.fits.few (rw root at c.round.ensures.sends_after) (rw root at (c.round.ensures.none c.rounds-test.false))

pub returns-clause-marks : goal.returns-clause-marks
returns-clause-marks c =
    let root = c.rounds.invariant.root in
    let lines = c.args.lines.now in
    spares-marks lines.laid lines.network.fits.few (rw root at c.round.ensures.sends_after) (rw root at (c.round.ensures.none c.rounds-test.false))
