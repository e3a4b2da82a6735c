-- `text::whole::form_of` meets its contract: each way is what `form` computes to, by what was found of the text.
-- Assumes nothing.
use mathlib.Core.Path.{refl, ◌∙◌}
use Rattle.std.proofs.lemmas.Result.{err_from_is_err_and}
use Rattle.text.specs.Form.{form_devices, form_lines}
use Rattle.text.proofs.Forms.{or-err, taken, form-no-plant, form-no-devices, form-no-lines, lines-small, form-bad, form-good}
use Rattle.text.proofs.whole.form_of.Goals as goal

pub returns-in_err-ok_or : goal.returns-in_err-ok_or
returns-in_err-ok_or c =
    let p = err_from_is_err_and c.from_residual.result c.from_residual.ensures.1 in
    let e = or-err c.word.result 1 _ c.in_err-ok_or.ensures.value in
    rw (p.1, p.2, e.1, ← c.new-reader.ensures, ← form-no-plant _ (e.0 ∙ c.word.ensures.answer)) refl

pub returns-in_err-devices : goal.returns-in_err-devices
unfolding form_devices
returns-in_err-devices c =
    let p = err_from_is_err_and c.from_residual-in_err-devices.result c.from_residual-in_err-devices.ensures.1 in
    let word = taken c.word.result 1 _ c.in_ok-ok_or.ensures.value c.word.ensures.answer c.word.ensures.moved in
    let e = or-err c.field.result 2 _ c.in_err-devices.ensures.value in
    rw (p.1, p.2, e.1, ← c.new-reader.ensures, ← form-no-devices _ word.0 word.1 (e.0 ∙ c.field.ensures.answer)) refl

pub returns-in_err-lines : goal.returns-in_err-lines
unfolding form_lines
returns-in_err-lines c =
    let p = err_from_is_err_and c.from_residual-in_err-lines.result c.from_residual-in_err-lines.ensures.1 in
    let word = taken c.word.result 1 _ c.in_ok-ok_or.ensures.value c.word.ensures.answer c.word.ensures.moved in
    let devices = taken c.field.result 2 _ c.in_ok-devices.ensures.value c.field.ensures.answer c.field.ensures.moved in
    let e = or-err c.field-2.result 3 _ c.in_err-lines.ensures.value in
    rw (p.1, p.2, e.1, ← c.new-reader.ensures, ← form-no-lines _ word.0 word.1 devices.0 devices.1 (e.0 ∙ c.field-2.ensures.answer)) refl

pub pass_rows-requires : goal.pass_rows-requires
pass_rows-requires c =
    let word = taken c.word.result 1 _ c.in_ok-ok_or.ensures.value c.word.ensures.answer c.word.ensures.moved in
    let devices = taken c.field.result 2 _ c.in_ok-devices.ensures.value c.field.ensures.answer c.field.ensures.moved in
    let lines = taken c.field-2.result 3 _ c.in_ok-lines.ensures.value c.field-2.ensures.answer c.field-2.ensures.moved in
    lines-small _ word.0 word.1 devices.0 devices.1 lines.0 lines.1

pub returns-in_err-pass_rows : goal.returns-in_err-pass_rows
returns-in_err-pass_rows c =
    let p = err_from_is_err_and c.from_residual-in_err-pass_rows.result c.from_residual-in_err-pass_rows.ensures.1 in
    let word = taken c.word.result 1 _ c.in_ok-ok_or.ensures.value c.word.ensures.answer c.word.ensures.moved in
    let devices = taken c.field.result 2 _ c.in_ok-devices.ensures.value c.field.ensures.answer c.field.ensures.moved in
    let lines = taken c.field-2.result 3 _ c.in_ok-lines.ensures.value c.field-2.ensures.answer c.field-2.ensures.moved in
    rw (p.1, p.2, ← c.new-reader.ensures)
    (form-bad _ word.0 word.1 devices.0 devices.1 lines.0 lines.1 c.in_err-pass_rows.ensures)

pub returns : goal.returns
returns c =
    let word = taken c.word.result 1 _ c.in_ok-ok_or.ensures.value c.word.ensures.answer c.word.ensures.moved in
    let devices = taken c.field.result 2 _ c.in_ok-devices.ensures.value c.field.ensures.answer c.field.ensures.moved in
    let lines = taken c.field-2.result 3 _ c.in_ok-lines.ensures.value c.field-2.ensures.answer c.field-2.ensures.moved in
    rw (c.again-rows.ensures, ← c.new-reader.ensures)
    (form-good _ word.0 word.1 devices.0 devices.1 lines.0 lines.1 c.in_ok-pass_rows.ensures)
