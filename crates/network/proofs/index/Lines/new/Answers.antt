-- `network::index::Lines::new` meets its contract. The loop's invariant: the first l lines are in the index.
-- Assumes nothing.
use Prim.Native.Nat.{ℕ}
use native.Mathlib.Omega.{arith}
use lib.ListN.{length-set, length-replicate, get_or-replicate}
use Rattle.network.proofs.IndexLaws.{lasts-none, lasts-step, priors-none, priors-step, laid-network}
use Rattle.network.proofs.index.Lines.new.Goals as goal

pub loop-l-init : goal.loop-l-init
loop-l-init c = record {
  rooms = (length-replicate {A = ℕ} 128 0, length-replicate {A = ℕ} 1024 0, length-replicate {A = ℕ} 1024 0);
  lasts = lasts-none _ _ _ (λ v l. get_or-replicate 128 v 0 0 l);
  priors = priors-none _ _ _ _;
}

pub loop-l-preserved : goal.loop-l-preserved
loop-l-preserved c =
    let inv = c.loop-l.invariant in
    record {
      rooms = (simp length-set inv.rooms.0, simp length-set inv.rooms.1, simp length-set inv.rooms.2);
      lasts = lasts-step _ _ _ inv.lasts (omega arith);
      priors = priors-step _ _ _ inv.lasts (laid-network c.args.network.now.fits) c.loop-l-test.true inv.priors (omega arith) (omega arith);
    }
