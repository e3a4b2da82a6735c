-- `grouping::hierarchy::fill_hierarchy` meets its contract: the two ends, and the search between them. Assumes nothing.
use native.Mathlib.Numerals.{add-one}
use Rattle.grouping.proofs.HierarchyCalls.{ready-first, listed-sole, listed-all}
use Rattle.grouping.proofs.hierarchy.fill_hierarchy.Goals as goal

pub returns-then-finest-coarsest-clause-listed : goal.returns-then-finest-coarsest-clause-listed
returns-then-finest-coarsest-clause-listed c =
    listed-sole _ _ _ _ c.args.plant.now.accepted _ _ c.level_at-finest.ensures c.level_at-coarsest.ensures _ _ c.if-finest-coarsest.true c.put_row.ensures.kept_outside c.put_row.ensures.row_filled

pub search-last-requires-clause-ready : goal.search-last-requires-clause-ready
search-last-requires-clause-ready c =
    ready-first _ _ _ _ c.args.plant.now.accepted _ _ c.level_at-finest.ensures c.level_at-coarsest.ensures c.requires.0 c.requires.1 c.requires.2 c.put_row.ensures.kept_outside c.put_row.ensures.row_filled

pub returns-clause-listed : goal.returns-clause-listed
returns-clause-listed c =
    rw add-one (listed-all _ _ _ _ c.args.plant.now.accepted _ _ c.level_at-finest.ensures c.level_at-coarsest.ensures c.if-finest-coarsest.false c.put_row.ensures.kept_outside c.search-last.ensures.searched)
