-- `network::owners::fill_owners` meets its contract: without a line each wanted node owns itself, by `owners-alone`; otherwise the search does.
-- Assumes nothing.
use Rattle.std.proofs.Common.{◌≡◌, length, rules}
use Rattle.network.proofs.AloneLaws.{owners-alone}
use Rattle.network.proofs.owners.fill_owners.Goals as goal

pub returns-then-is_empty : goal.returns-then-is_empty
returns-then-is_empty c =
    let none : length c.args.network.now.firsts.now ≡ 0 = search rules in
    owners-alone c.args.network.now.fits none c.own_alone.ensures
