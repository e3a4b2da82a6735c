-- `cut::sets::own_communities` meets its contract: the network is the plant's, so it is taken, and its least sets are the communities.
-- Assumes nothing.
use Rattle.std.proofs.Common.{refl, arith}
use Rattle.rules.proofs.RangeLaws.{in-range}
use Rattle.cut.proofs.SetLaws.{plain-is, plain-owners}
use Rattle.cut.proofs.sets.own_communities.Goals as goal

pub returns : goal.returns
returns c =
    let a = c.args.plant.now.accepted in
    let r = c.args.rate in
    let range = in-range (record { p_least = r.p_least; p_most = r.p_most; q_least = r.q_least; q_most = r.q_most }) in
    plain-owners (plain-is _ _ _ _ _ _ a range _ _ refl c.widen.ensures) (rw c.requires.1 a.most_devices) c.requires.0 c.least_sets.ensures

pub widen-requires-clause-room : goal.widen-requires-clause-room
widen-requires-clause-room c =
    let a = c.args.plant.now.accepted in (omega (arith, a.one_length, a.one_length', a.most_lines), c.args.rate.q_most)
