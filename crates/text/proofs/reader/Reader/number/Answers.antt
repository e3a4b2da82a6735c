-- `text::reader::Reader::number` meets its contract: the digits at the place are a number or not.
-- Assumes nothing.
use native.Mathlib.Omega.{arith}
use mathlib.Core.Path.{refl, sym, ap, ◌∙◌}
use lib.ListN.{length, length-take, length-drop}
use lib.Seq.{drop-drop}
use Rattle.text.proofs.Fields.{digits-within, number-none, number-good}
use Rattle.text.proofs.reader.Reader.number.Goals as goal

pub slice_bounds-well_formed-end : goal.slice_bounds-well_formed-end
slice_bounds-well_formed-end c = omega (arith, digits-within c.rest-rest.ensures c.digits-v.ensures, length-take c.digits-v.result.1 c.rest-rest.result.now)

pub returns-then-not-well_formed-clause-answer : goal.returns-then-not-well_formed-clause-answer
returns-then-not-well_formed-clause-answer c = rw (number-none c.rest-rest.ensures c.digits-v.ensures c.well_formed-2.ensures c.if-not-well_formed.true) refl

pub overflow_add-self : goal.overflow_add-self
overflow_add-self c =
    let e = ap length (c.rest-rest.ensures ∙ sym c.self.view_is) in
    omega (arith, digits-within c.rest-rest.ensures c.digits-v.ensures, e, length-drop c.self.inside.at c.self.inside.text.now, c.self.invariant)

pub invariant_of-self : goal.invariant_of-self
invariant_of-self c = let e = ap length (c.rest-rest.ensures ∙ sym c.self.view_is) in
    omega (arith, digits-within c.rest-rest.ensures c.digits-v.ensures, e, length-drop c.self.inside.at c.self.inside.text.now, c.self.invariant)

pub returns-clause-answer : goal.returns-clause-answer
returns-clause-answer c = rw (number-good c.rest-rest.ensures c.digits-v.ensures c.well_formed-2.ensures c.if-not-well_formed.false) refl

pub returns-clause-moved : goal.returns-clause-moved
returns-clause-moved c =
    rw (number-good c.rest-rest.ensures c.digits-v.ensures c.well_formed-2.ensures c.if-not-well_formed.false, ← c.self.view_is) (sym (drop-drop c.digits-v.result.1 c.self.inside.at c.self.inside.text.now))
