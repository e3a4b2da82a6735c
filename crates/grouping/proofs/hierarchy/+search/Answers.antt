-- `grouping::hierarchy::search` meets its contract: the stretch is settled, or split at its crossing rate. Assumes nothing.
use borrow.Author.Tests.{eqb-true}
use Rattle.rules.proofs.SetLaws.{and_left, and_right}
use Rattle.std.proofs.Common.{arith, ℕ, ◌≤◌, ◌<◌, ◌+◌, sym, ◌∙◌}
use Rattle.rules.specs.Plant.{plant_of}
use Rattle.rules.proofs.RefusalLaws.{accepted-sound}
use Rattle.grouping.proofs.SearchLaws.{search-known, search-last, search-ready, search-halves, some-room, some-between, some-fewer, from_some, from-finer, from-coarser}
use Rattle.grouping.proofs.hierarchy.+search.Goals as goal
use Rattle.grouping.proofs.hierarchy.+search.Goals.{Start}

-- there is a row after `at`
row_after : (t : ℕ) (c : Start t) → (c.args.plant.now.devices ≤ 128) × (c.args.at + 1 < c.args.plant.now.devices)
unfolding plant_of
row_after t c =
    let a = c.args.plant.now.accepted in
    (some-room (plant_of _ _ _ _) (accepted-sound _ _ _ _ a) a.some_device a.most_devices (from_some _ c.requires.span_from) c.requires.ready).0

pub settle-requires-clause-place_there : goal.settle-requires-clause-place_there
settle-requires-clause-place_there t c = row_after t (goal.at.settle-requires-clause-place_there t c).Start

pub returns-then-known-clause-searched : goal.returns-then-known-clause-searched
unfolding plant_of
returns-then-known-clause-searched t c =
    search-known (plant_of _ _ _ _) (accepted-sound _ _ _ _ c.args.plant.now.accepted) c.requires.span_from c.crossing-rate.ensures
    (eqb-true _ _ (and_left _ _ (sym c.if-known.ensures)), eqb-true _ _ (and_right _ _ (sym c.if-known.ensures))) c.requires.ready c.settle.ensures.settled

pub level_between-middle-requires : goal.level_between-middle-requires
level_between-middle-requires t c =
    some-between _ (accepted-sound _ _ _ _ c.args.plant.now.accepted) (from_some _ c.requires.span_from) c.crossing-rate.ensures

pub settle-requires-then-middle-finer-clause-place_there : goal.settle-requires-then-middle-finer-clause-place_there
settle-requires-then-middle-finer-clause-place_there t c = row_after t (goal.at.settle-requires-then-middle-finer-clause-place_there t c).Start

pub returns-then-middle-finer-clause-searched : goal.returns-then-middle-finer-clause-searched
unfolding plant_of
returns-then-middle-finer-clause-searched t c =
    search-last (plant_of _ _ _ _) (accepted-sound _ _ _ _ c.args.plant.now.accepted) (from_some _ c.requires.span_from) c.crossing-rate.ensures
    (sym c.if-middle-finer.true ∙ c.level_between-middle.ensures.counted) c.requires.ready c.settle-then-middle-finer.ensures.settled

pub search-next-requires : goal.search-next-requires
unfolding plant_of
search-next-requires t c =
    let sound = accepted-sound _ _ _ _ c.args.plant.now.accepted in
    let fewer = some-fewer (plant_of _ _ _ _) sound c.crossing-rate.ensures c.level_between-middle.ensures c.if-middle-finer.false (from_some _ c.requires.span_from) in (
      omega (arith, c.decreases, fewer),
      (from-finer (plant_of _ _ _ _) sound c.crossing-rate.ensures c.level_between-middle.ensures c.if-middle-finer.false c.requires.span_from, c.requires.ready),
    )

pub search-requires : goal.search-requires
unfolding plant_of
search-requires t c =
    let sound = accepted-sound _ _ _ _ c.args.plant.now.accepted in
    let fewer = some-fewer (plant_of _ _ _ _) sound c.crossing-rate.ensures c.level_between-middle.ensures c.if-middle-finer.false (from_some _ c.requires.span_from) in (
      omega (arith, c.decreases, fewer),
      (
        from-coarser (plant_of _ _ _ _) sound c.crossing-rate.ensures c.level_between-middle.ensures c.if-middle-finer.false (from_some _ c.requires.span_from),
        search-ready (plant_of _ _ _ _) c.requires.ready c.search-next.ensures.searched,
      ),
    )

pub returns-clause-searched : goal.returns-clause-searched
unfolding plant_of
returns-clause-searched t c =
    search-halves (plant_of _ _ _ _) (accepted-sound _ _ _ _ c.args.plant.now.accepted) c.crossing-rate.ensures c.level_between-middle.ensures c.if-middle-finer.false c.search-next.ensures.searched c.search.ensures.searched
