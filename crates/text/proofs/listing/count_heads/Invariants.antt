-- `text::listing::count_heads` meets its contract. The loop's invariant is `Heads`: the heads before device h are counted.
-- Assumes nothing.
use lib.ListN.{length}
use Rattle.text.proofs.ListingLaws.{Heads}
use Rattle.text.proofs.listing.count_heads.Given as goal

abbrev pub invariant-loop-h : goal.invariant-loop-h
invariant-loop-h l = Heads l.level (length l.level) l.count l.h
