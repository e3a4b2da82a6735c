-- `network::least::round` meets its contract: where the send used up no line, the search stands where it stood; where it used one up, it stands behind that line of the place that the first place to go came from.
-- Assumes nothing.
use native.Mathlib.Omega.{arith}
use lib.ListN.{get_or}
use Rattle.network.specs.Parts.{Finds}
use Rattle.network.proofs.ReachLaws.{tree-marks, standing-line}
use Rattle.network.proofs.least.round.Goals as goal
use Rattle.network.proofs.least.round.Goals.{Else-not-search}

-- what the search found
finds : (c : Else-not-search) → Finds c.args.lines.now c.args.spare.now (get_or c.args.queue.now.node 0 0) c.search.new.self
finds c = c.search.ensures.found c.if-not-search.false

pub unmark-requires-clause-marks : goal.unmark-requires-clause-marks
unmark-requires-clause-marks c = tree-marks (finds (goal.at.unmark-requires-clause-marks c).Else-not-search).found.covered.tree

pub returns-clause-standing_after : goal.returns-clause-standing_after
returns-clause-standing_after c =
    let tree = (finds (goal.at.returns-clause-standing_after c).Else-not-search).found.covered.tree in
    let kept = c.unmark.ensures.kept in
    let within = c.in-Some.ensures.within in
    λ e. rw (kept.0, kept.1, kept.2, c.unmark.ensures.count_new.0)
    (standing-line
    (rw tree.root at (c.in-Some.ensures.cut_back _ (rw kept.0 at c.unmark.ensures.marks_after)))
    (omega (arith, tree.way.line _ within.0 within.1))
    (rw (kept.0, kept.1, kept.2) at c.before-queue.ensures))
