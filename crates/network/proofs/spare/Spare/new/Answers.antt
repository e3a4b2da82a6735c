-- `network::spare::Spare::new` meets its contract: every entry is 0.
-- Assumes nothing.
use Rattle.std.proofs.Common.{refl, arith}
use Rattle.network.proofs.SpareLaws.{zeros}
use Rattle.network.proofs.spare.Spare.new.Goals as goal

pub invariant_of-result : goal.invariant_of-result
invariant_of-result c = record { rooms = (refl, refl, refl); small = λ l. rw (zeros 1024 l) (omega arith) }
