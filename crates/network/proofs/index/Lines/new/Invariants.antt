-- `network::index::Lines::new` meets its contract. The loop's invariant: the first l lines are in the index.
-- Assumes nothing.
use mathlib.Core.Path.{◌≡◌}
use lib.ListN.{length}
use Rattle.network.specs.Search.{Lasts, Priors}
use Rattle.network.proofs.index.Lines.new.Given as goal

abbrev pub invariant-loop-l : goal.invariant-loop-l
invariant-loop-l l = record {
  rooms : (length l.last ≡ 128) × (length l.before_first ≡ 1024) × (length l.before_second ≡ 1024);
  lasts : Lasts l.firsts l.seconds l.l l.last;
  priors : Priors l.firsts l.seconds l.l l.before_first l.before_second;
}
