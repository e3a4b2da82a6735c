-- `network::spare::Spare::fill` meets its contract: before anything is sent each way of a line has its width and each node its drain; and what goes first is the start's own.
-- Assumes nothing.
use Prim.Native.Nat.{◌-◌}
use mathlib.Core.Path.{◌≡◌, sym, ◌∙◌}
use native.Mathlib.Omega.{arith}
use lib.ListN.{get_or}
use Rattle.std.proofs.lemmas.List.{get_or-take, length-take-le}
use Rattle.network.proofs.PathLaws.{sent-none}
use Rattle.network.proofs.SpareLaws.{spares-start, spares-sent}
use Rattle.network.proofs.spare.Spare.fill.Goals as goal

pub returns-clause-sends : goal.returns-clause-sends
returns-clause-sends c =
    let fits = c.args.network.now.fits in
    let drain = c.open-3.new.places in
    let gone : get_or drain c.args.start 0 - get_or drain c.args.start 0 ≡ 0 = omega arith in
    rw gone
    at (spares-sent
    (spares-start _ _ _ _ _ c.args.start _ _ _ fits.even (sym fits.even ∙ fits.even') (λ l b. c.open.ensures.opened l (omega (arith, fits.even'))) (λ l b. c.open-2.ensures.opened l (omega (arith, fits.even'))) (λ v b. c.open-3.ensures.opened v (omega (arith, length-take-le _ _ fits.drains)) ∙ get_or-take _ _ v 0 b))
    (sent-none _ _ c.args.start (get_or drain c.args.start 0) _ _) c.requires (omega (arith, fits.few)) (omega arith))
