-- `text::read::read_plant` meets its contract. Each refusal is the first fault in the fixed order; where there is none the three lists are filled.
-- Assumes nothing.
use mathlib.Core.Path.{refl, sym, ◌∙◌}
use lib.Seq.{length-take-le}
use Rattle.rules.proofs.FaultLaws.{fault-some, err-is}
use Rattle.text.proofs.Forms.{stated-rows}
use Rattle.text.proofs.Judged.{Known, known, known-lengths, room-first, room-second, room-third, stated-few, read-long, read-form, read-size, read-wrong, read-no-room, read_done}
use Rattle.text.proofs.read.read_plant.Goals as goal
use Rattle.text.proofs.read.read_plant.Goals.{After-keep_rows}

-- after the rows are kept
kept-rows : (c : After-keep_rows) → let last = c.keep_rows.new in
    Known c.args.text.now c.in-Ok.stated.devices c.in-Ok.stated.lines last.firsts last.seconds last.signals
kept-rows c =
    let size = c.in_ok-check_size.ensures in
    known _ c.in-Ok.ensures size refl c.if-text-gt32768.false (length-take-le _ _ (stated-few _ c.in-Ok.ensures size refl)) c.keep_rows.ensures

pub returns-then-text-gt32768 : goal.returns-then-text-gt32768
returns-then-text-gt32768 c = read-long _ _ _ _ c.if-text-gt32768.true refl

pub returns-in-Err : goal.returns-in-Err
returns-in-Err c = read-form _ _ _ _ c.if-text-gt32768.false c.in-Err.ensures refl

pub returns-in_err-check_size : goal.returns-in_err-check_size
returns-in_err-check_size c =
    let f = c.in_err-check_size.field-0.0 in
    rw (err-is c.from_residual.result f c.from_residual.ensures.1)
    (read-size _ _ _ _ c.in-Ok.ensures c.in_err-check_size.ensures c.if-text-gt32768.false (fault-some f) refl)

pub slice_bounds-a-end : goal.slice_bounds-a-end
slice_bounds-a-end c = stated-few _ c.in-Ok.ensures c.in_ok-check_size.ensures refl

pub slice_bounds-a-end-2 : goal.slice_bounds-a-end-2
slice_bounds-a-end-2 c = sym (length-take-le _ _ (stated-few _ c.in-Ok.ensures c.in_ok-check_size.ensures refl))

pub slice_bounds-b-end : goal.slice_bounds-b-end
slice_bounds-b-end c = stated-few _ c.in-Ok.ensures c.in_ok-check_size.ensures refl

pub slice_bounds-b-end-2 : goal.slice_bounds-b-end-2
slice_bounds-b-end-2 c = sym (length-take-le _ _ (stated-few _ c.in-Ok.ensures c.in_ok-check_size.ensures refl))

pub slice_bounds-s-end : goal.slice_bounds-s-end
slice_bounds-s-end c = stated-few _ c.in-Ok.ensures c.in_ok-check_size.ensures refl

pub slice_bounds-s-end-2 : goal.slice_bounds-s-end-2
slice_bounds-s-end-2 c = sym (length-take-le _ _ (stated-few _ c.in-Ok.ensures c.in_ok-check_size.ensures refl))

pub keep_rows-requires-clause-good : goal.keep_rows-requires-clause-good
keep_rows-requires-clause-good c = stated-rows _ c.in-Ok.ensures (length-take-le _ _ (stated-few _ c.in-Ok.ensures c.in_ok-check_size.ensures refl))

pub returns-in_err-check_plant : goal.returns-in_err-check_plant
returns-in_err-check_plant c =
    let kept = kept-rows (goal.at.returns-in_err-check_plant c).After-keep_rows in
    let f = c.in_err-check_plant.field-0.0 in
    rw (err-is c.from_residual-in_err-check_plant.result f c.from_residual-in_err-check_plant.ensures.1)
    (read-wrong _ _ _ _ kept c.in_err-check_plant.ensures (fault-some f) refl)

pub returns-then-no_room : goal.returns-then-no_room
returns-then-no_room c =
    let kept = kept-rows (goal.at.returns-then-no_room c).After-keep_rows in
    read-no-room _ _ _ _ kept c.in_ok-check_plant.ensures refl c.no_room.ensures c.if-no_room.true refl

pub fill-requires : goal.fill-requires
fill-requires c =
    let kept = kept-rows (goal.at.fill-requires c).After-keep_rows in
    rw (known-lengths kept).0 (room-first _ _ _ _ (sym c.no_room.ensures ∙ c.if-no_room.false))

pub fill-requires-2 : goal.fill-requires-2
fill-requires-2 c =
    let kept = kept-rows (goal.at.fill-requires-2 c).After-keep_rows in
    rw (known-lengths kept).1 (room-second _ _ _ _ (sym c.no_room.ensures ∙ c.if-no_room.false))

pub fill-requires-3 : goal.fill-requires-3
fill-requires-3 c =
    let kept = kept-rows (goal.at.fill-requires-3 c).After-keep_rows in
    rw (known-lengths kept).2 (room-third _ _ _ _ (sym c.no_room.ensures ∙ c.if-no_room.false))

pub returns : goal.returns
returns c =
    let kept = kept-rows (goal.at.returns c).After-keep_rows in
    read_done _ _ _ _ kept c.in_ok-check_plant.ensures refl c.no_room.ensures c.if-no_room.false refl c.fill.ensures c.fill-2.ensures c.fill-3.ensures
