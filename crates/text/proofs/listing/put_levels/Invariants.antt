-- `text::listing::put_levels` meets its contract. The loop's invariant is `Pieces`: the levels before i are written.
-- Assumes nothing.
use Rattle.text.specs.Levels.{level_of, levels_of}
use Rattle.text.proofs.ListingLaws.{Pieces}
use Rattle.text.proofs.listing.put_levels.Given as goal

abbrev pub invariant-loop-i : goal.invariant-loop-i
invariant-loop-i l = Pieces (level_of l.levels) l.levels.count (levels_of l.levels) l.initial.out l.out l.i
