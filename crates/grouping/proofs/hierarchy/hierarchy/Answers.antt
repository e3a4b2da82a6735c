-- `grouping::hierarchy::hierarchy` meets its contract: the check of the plant, 12, and then what `fill_hierarchy` fills in. Assumes nothing.
use Rattle.std.proofs.Common.{◌≡◌, refl, rules}
use mathlib.Core.Logic.{inl, inr, ⊎_elim}
use Rattle.rules.specs.Plant.{plant_of}
use Rattle.rules.proofs.FaultLaws.{fault-some, err-is}
use Rattle.cut.specs.Stated.{stated}
use Rattle.grouping.proofs.HierarchyCalls.{call-plant-refused, call-short, call-filled}
use Rattle.grouping.proofs.hierarchy.hierarchy.Goals as goal

pub returns-in_err-plant : goal.returns-in_err-plant
returns-in_err-plant c =
    let f = c.in_err-plant.field-0.0 in
    rw (err-is c.from_residual.result f c.from_residual.ensures.1) (call-plant-refused _ _ _ _ _ _ _ c.in_err-plant.ensures.fault (fault-some f))

pub returns-then-labels-n : goal.returns-then-labels-n
returns-then-labels-n c = call-short _ _ _ _ _ _ _ c.in_ok-plant.ensures.fault refl (⊎_elim inl (λ w. inr (⊎_elim (λ b. inl b.1) (λ b. inr b.2) w)) c.then-labels-n.either)

pub returns : goal.returns
returns c =
    let same = c.in_ok-plant.ensures.plant in
    let s : stated c.in_ok-plant.plant ≡ plant_of c.args.n c.args.firsts.now c.args.seconds.now c.args.signals.now = λ i. plant_of (same.0 i) (same.1 i).now (same.2 i).now (same.3 i).now in
    call-filled _ _ _ _ _ _ _ c.in_ok-plant.ensures.fault refl (c.if-labels-n.false, c.if-low_p-n.false, c.if-low_q-n.false) (rw s at c.fill_hierarchy.ensures.listed)
    (search rules) (search rules) (search rules)
