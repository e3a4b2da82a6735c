-- `network::reach::Queue::look` meets its contract: a line with nothing to spare and a line to a marked node leave all as it was; any other adds the node that it leads to.
-- Assumes nothing.
use Prim.Native.Nat.{◌<◌}
use mathlib.Core.Path.{sym}
use native.Mathlib.Omega.{arith}
use borrow.Author.Tests.{ltb-true, ltb-false}
use Rattle.network.proofs.ReachLaws.{Leads, mark-one, count_small, scan-same, scan-more, found-more}
use Rattle.network.proofs.reach.Queue.look.Goals as goal
use Rattle.network.proofs.reach.Queue.look.Goals.{Else-self-w-ne0}

-- the line leads to a node that is not marked
leads : (c : Else-self-w-ne0) → Leads c.args.lines.now.network.firsts.now c.args.lines.now.network.seconds.now c.args.spare.now.forth c.args.spare.now.back c.args.self.now.node c.args.self.now.mark c.args.self.now.count c.args.self.now.place c.args.l c.far_end-w.result
leads c = record {
  place = c.requires.line.0;
  line = c.requires.line.1;
  leaves = c.requires.own;
  reaches = sym c.far_end-w.ensures.end;
  spare = omega (arith, c.over-left.ensures);
  new = c.if-self-w-ne0.false;
}

-- one more node has a place
small : (c : Else-self-w-ne0) → c.args.self.now.count < 128
small c = count_small c.args.lines.now.laid c.requires.scan.covered.tree (leads c) c.args.self.now.rooms.3

pub push-requires-clause-room : goal.push-requires-clause-room
push-requires-clause-room c = small (goal.at.push-requires-clause-room c).Else-self-w-ne0

pub returns-then-self-w-ne0-clause-scan_after : goal.returns-then-self-w-ne0-clause-scan_after
returns-then-self-w-ne0-clause-scan_after c =
    λ e. scan-same c.args.l c.requires.scan (λ r. rw (← c.far_end-w.ensures.end) (mark-one c.requires.scan.covered.tree _ c.far_end-w.ensures.device c.if-self-w-ne0.true))

pub returns-clause-scan_after : goal.returns-clause-scan_after
returns-clause-scan_after c =
    let at = (goal.at.returns-clause-scan_after c).Else-self-w-ne0 in
    let push = c.push.ensures in
    let rooms = c.args.self.now.rooms in
    λ e. rw (push.node_new, push.via_new, push.from_new, push.mark_new, push.count_new.0, push.count_new.1)
    (scan-more c.args.lines.now.laid c.requires.scan.covered.tree (leads at) rooms.3 rooms.0 rooms.1 rooms.2 c.requires.scan (omega (arith, ltb-false _ _ e)))

pub returns-clause-found : goal.returns-clause-found
returns-clause-found c =
    let at = (goal.at.returns-clause-found c).Else-self-w-ne0 in
    let push = c.push.ensures in
    let rooms = c.args.self.now.rooms in
    λ e. rw (push.node_new, push.via_new, push.from_new, push.mark_new, push.count_new.0, push.count_new.1)
    (found-more c.args.lines.now.laid c.requires.scan.covered.tree (leads at) rooms.3 rooms.0 rooms.1 rooms.2 c.requires.scan (omega (arith, ltb-true _ _ e)))
