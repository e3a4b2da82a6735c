-- `cut::community::fill_community` meets its contract: the device alone is wanted, so it owns just its community, and the counts over its marks are its size and out.
-- Assumes nothing.
use Rattle.std.proofs.Common.{◌∙◌, arith}
use Rattle.cut.proofs.CallLaws.{found-size, found-out, found-marks}
use Rattle.cut.proofs.community.fill_community.Goals as goal

pub returns-clause-size_is : goal.returns-clause-size_is
returns-clause-size_is c =
    c.count_marks.ensures ∙ found-size _ _ _ _ _ _ _ c.args.plant.now.accepted c.requires.0 _ _ c.mark_owned-mark.result c.own_communities.ensures c.mark_owned-mark.ensures

pub returns-clause-out_is : goal.returns-clause-out_is
returns-clause-out_is c =
    c.cut_signals.ensures ∙ found-out _ _ _ _ _ _ _ c.args.plant.now.accepted c.requires.0 _ _ c.mark_owned-mark.result c.own_communities.ensures c.mark_owned-mark.ensures

pub returns-clause-marks_filled : goal.returns-clause-marks_filled
returns-clause-marks_filled c =
    let a = c.args.plant.now.accepted in
    found-marks _ _ _ _ _ _ _ a c.requires.0 _ _ c.mark_owned-mark.result c.own_communities.ensures c.mark_owned-mark.ensures c.args.marks.now _
    (omega (arith, a.most_devices)) c.copy_from_slice.ensures.after
