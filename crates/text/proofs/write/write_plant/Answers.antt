-- `text::write::write_plant` meets its contract. Each refusal is the first fault in the fixed order; where there is none the text is written.
-- Assumes nothing.
use Prim.Native.Nat.{ℕ, ◌+◌}
use native.Mathlib.Omega.{arith}
use mathlib.Core.Path.{◌≡◌, refl, sym, ap, ◌∙◌}
use mathlib.Core.List.{List}
use lib.ListN.{length}
use Rattle.text.specs.Numbers.{digits}
use Rattle.text.specs.Form.{rows_text, plant_text}
use Rattle.text.proofs.Wrote.{front-room, wrote-front}
use Rattle.rules.proofs.FaultLaws.{fault-some, err-is}
use Rattle.text.proofs.Answers.{text-length, write-wrong, write-no-room, write_done}
use Rattle.text.proofs.write.write_plant.Goals as goal

-- the counted number of bytes is that of the text
counted : (n : ℕ) (xs ys zs : List ℕ) {a b r : ℕ} → a ≡ length (digits n) → b ≡ length (digits (length xs)) → r ≡ length (rows_text xs ys zs)
    → 34 + a + b + r ≡ length (plant_text n xs ys zs)
counted n xs ys zs p q s = omega (arith, text-length n xs ys zs)

pub returns-in_err-plant : goal.returns-in_err-plant
returns-in_err-plant c =
    let f = c.in_err-plant.field-0.0 in
    rw (err-is c.from_residual.result f c.from_residual.ensures.1)
    (write-wrong c.args.n c.args.firsts.now c.args.seconds.now c.args.signals.now c.args.bytes.now c.in_err-plant.ensures.fault (fault-some f))

pub returns-then-bytes-count : goal.returns-then-bytes-count
returns-then-bytes-count c =
    let g = c.in_ok-plant.plant in
    let same = c.in_ok-plant.ensures.plant in
    let all = counted g.devices g.firsts.now g.seconds.now g.signals.now c.number_len.ensures.0 c.number_len-2.ensures.0 c.rows_len.ensures.0 in
    let whole = all ∙ (λ i. length (plant_text (same.0 i) (same.1 i).now (same.2 i).now (same.3 i).now)) in
    write-no-room c.args.n c.args.firsts.now c.args.seconds.now c.args.signals.now c.args.bytes.now c.in_ok-plant.ensures.fault refl whole c.if-bytes-count.true

pub put_plant-requires : goal.put_plant-requires
put_plant-requires c =
    let g = c.in_ok-plant.plant in
    let all = counted g.devices g.firsts.now g.seconds.now g.signals.now c.number_len.ensures.0 c.number_len-2.ensures.0 c.rows_len.ensures.0 in
    front-room c.new-out.result _ c.new-out.ensures.1 c.new-out.ensures.2 (rw (sym all) c.if-bytes-count.false)

pub returns : goal.returns
returns c =
    let g = c.in_ok-plant.plant in
    let same = c.in_ok-plant.ensures.plant in
    let all = counted g.devices g.firsts.now g.seconds.now g.signals.now c.number_len.ensures.0 c.number_len-2.ensures.0 c.rows_len.ensures.0 in
    let text : plant_text g.devices g.firsts.now g.seconds.now g.signals.now ≡ plant_text c.args.n c.args.firsts.now c.args.seconds.now c.args.signals.now = λ i. plant_text (same.0 i) (same.1 i).now (same.2 i).now (same.3 i).now in
    write_done c.args.n c.args.firsts.now c.args.seconds.now c.args.signals.now c.args.bytes.now c.in_ok-plant.ensures.fault refl (all ∙ ap length text) c.if-bytes-count.false
    (rw (sym text) (search (wrote-front c.put_plant.ensures c.new-out.ensures)))
