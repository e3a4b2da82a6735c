-- `network::reach::Queue::begin` meets its contract: a tree of one node.
-- Assumes nothing.
use Rattle.std.proofs.Common.{arith}
use lib.Seq.{get_or-set_same}
use Rattle.network.proofs.ReachLaws.{begin-standing}
use Rattle.network.proofs.reach.Queue.begin.Goals as goal

pub returns-clause-standing : goal.returns-clause-standing
returns-clause-standing c =
    let room = c.args.self.now.rooms.0 in
    λ spare dry. begin-standing _ _ _ _ _ _ _ _ _ c.requires (get_or-set_same _ 0 c.args.d 0 (omega (arith, room))) c.mark_of-self.ensures _ c.last_of-self.ensures dry
