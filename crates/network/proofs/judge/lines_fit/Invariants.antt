-- `network::judge::lines_fit` meets its contract. The loop's invariant: each line below l fits.
-- Assumes nothing.
use Prim.Native.Nat.{ℕ, ◌<◌}
use Rattle.network.specs.Calls.{LineFits}
use Rattle.network.proofs.judge.lines_fit.Given as goal

abbrev pub invariant-loop-l : goal.invariant-loop-l
invariant-loop-l l = (i : ℕ) → i < l.l → LineFits l.k l.firsts l.seconds l.widths i
