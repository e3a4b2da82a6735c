-- `grouping::grouping::groups_at` meets its contract: the search for owners gives 1 to 9, then 12 is left, and the labels from its owners
-- are those of the groups. Assumes nothing.
use Rattle.std.proofs.Common.{◌≡◌, refl}
use Rattle.rules.proofs.FaultLaws.{fault-some, err-is}
use Rattle.grouping.specs.Calls.{grouping_answer, labels_after}
use Rattle.grouping.proofs.FaultLaws.{Clear}
use Rattle.grouping.proofs.CallLaws.{clear_of, all-swept, found-devices, found-groups, refused, too_short, answered}
use Rattle.grouping.proofs.grouping.groups_at.Goals as goal
use Rattle.grouping.proofs.grouping.groups_at.Goals.{In_ok-owners, After-fill}

pub returns-in_err-owners-clause-answer : goal.returns-in_err-owners-clause-answer
returns-in_err-owners-clause-answer c =
    let f = c.in_err-owners.field-0.0 in
    rw (err-is c.from_residual.result f c.from_residual.ensures.1) (refused _ _ _ _ _ _ _ c.args.labels.now c.in_err-owners.ensures.answer (fault-some f)).0

pub returns-in_err-owners-clause-labels_filled : goal.returns-in_err-owners-clause-labels_filled
returns-in_err-owners-clause-labels_filled c =
    let f = c.in_err-owners.field-0.0 in
    (refused _ _ _ _ _ _ _ c.args.labels.now c.in_err-owners.ensures.answer (fault-some f)).1

-- past the first test plant and rate are accepted
clear : (c : In_ok-owners)
    → Clear c.args.n c.args.firsts.now c.args.seconds.now c.args.signals.now c.args.rate.p c.args.rate.q
clear c = clear_of _ _ _ _ _ _ _ c.in_ok-owners.ensures.answer refl

pub returns-then-short-clause-answer : goal.returns-then-short-clause-answer
returns-then-short-clause-answer c = (too_short _ _ _ _ _ _ (clear (goal.at.returns-then-short-clause-answer c).In_ok-owners) c.args.labels.now c.if-short.true).0

pub returns-then-short-clause-labels_filled : goal.returns-then-short-clause-labels_filled
returns-then-short-clause-labels_filled c =
    (too_short _ _ _ _ _ _ (clear (goal.at.returns-then-short-clause-labels_filled c).In_ok-owners) c.args.labels.now c.if-short.true).1

pub fill-requires : goal.fill-requires
fill-requires c =
    let ok = clear (goal.at.fill-requires c).In_ok-owners in
    (ok.accepted.most_devices, c.if-short.false, found-devices _ _ _ _ _ _ ok (all-swept _ _ _ _ _ _ ok _ c.in_ok-owners.ensures.owners_filled))

-- the labels from the owners are those of the groups
found : (c : After-fill)
    → (record { number = 0; place = 0; groups = c.fill.result } ≡ grouping_answer c.args.n c.args.firsts.now c.args.seconds.now c.args.signals.now c.args.rate.p c.args.rate.q c.args.labels.now)
    × (c.fill.new.labels ≡ labels_after c.args.n c.args.firsts.now c.args.seconds.now c.args.signals.now c.args.rate.p c.args.rate.q c.args.labels.now)
found c =
    let ok = clear (goal.at.After-fill c).In_ok-owners in
    answered _ _ _ _ _ _ ok c.args.labels.now c.if-short.false (found-groups _ _ _ _ _ _ ok (all-swept _ _ _ _ _ _ ok _ c.in_ok-owners.ensures.owners_filled)) c.fill.ensures.count c.fill.ensures.labels_filled

pub returns-clause-answer : goal.returns-clause-answer
returns-clause-answer c = (found (goal.at.returns-clause-answer c).After-fill).0

pub returns-clause-labels_filled : goal.returns-clause-labels_filled
returns-clause-labels_filled c = (found (goal.at.returns-clause-labels_filled c).After-fill).1
