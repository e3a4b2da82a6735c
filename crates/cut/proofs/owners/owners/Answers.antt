-- `cut::owners::owners` meets its contract: each way out is the definition's answer at the tests that led there, and the owners are untouched or filled.
-- Assumes nothing.
use Rattle.std.proofs.Common.{sym, ◌∙◌, ap, arith, replicate}
use Rattle.rules.specs.Refusal.{Refusal}
use Rattle.rules.specs.Plant.{plant_of}
use Rattle.rules.specs.Lists.{over}
use Rattle.cut.specs.Calls.{owners_of}
use Rattle.rules.specs.declared.Fault.TheVariants.{ShortList}
use Rattle.rules.proofs.FaultLaws.{fault-not-0, rate-off, rate-on, err-is}
use Rattle.cut.proofs.CallLaws.{owners-plant, owners-9, owners-12, owners-0, owners-kept, owners-filled}
use Rattle.cut.proofs.owners.owners.Goals as goal

pub returns-in_err-plant-clause-answer : goal.returns-in_err-plant-clause-answer
returns-in_err-plant-clause-answer c =
    let f = c.in_err-plant.field-0.0 in
    let e = c.in_err-plant.ensures.fault in
    rw (err-is c.from_residual.result f c.from_residual.ensures.1) (e ∙ sym (owners-plant _ _ _ _ _ _ _ (fault-not-0 f e)))

pub returns-in_err-plant-clause-owners_filled : goal.returns-in_err-plant-clause-owners_filled
returns-in_err-plant-clause-owners_filled c =
    let f = c.in_err-plant.field-0.0 in
    let e = c.in_err-plant.ensures.fault in
    owners-kept _ _ _ _ _ _ _ f (owners-plant _ _ _ _ _ _ _ (fault-not-0 f e) ∙ sym e)

pub returns-in_err-rate-clause-answer : goal.returns-in_err-rate-clause-answer
returns-in_err-rate-clause-answer c =
    let good = sym (ap (λ (r : Refusal). r.number) c.in_ok-plant.ensures.fault) in
    let f = c.in_err-rate.field-0.0 in
    let off = rate-off _ _ f c.in_err-rate.ensures.fault in
    rw (err-is c.from_residual-in_err-rate.result f c.from_residual-in_err-rate.ensures.1) (off.1 ∙ sym (owners-9 _ _ _ _ _ _ _ good off.0))

pub returns-in_err-rate-clause-owners_filled : goal.returns-in_err-rate-clause-owners_filled
returns-in_err-rate-clause-owners_filled c =
    let good = sym (ap (λ (r : Refusal). r.number) c.in_ok-plant.ensures.fault) in
    let f = c.in_err-rate.field-0.0 in
    let off = rate-off _ _ f c.in_err-rate.ensures.fault in
    owners-kept _ _ _ _ _ _ _ f (owners-9 _ _ _ _ _ _ _ good off.0 ∙ sym off.1)

pub returns-then-owner-n-clause-answer : goal.returns-then-owner-n-clause-answer
returns-then-owner-n-clause-answer c =
    let good = sym (ap (λ (r : Refusal). r.number) c.in_ok-plant.ensures.fault) in
    sym (owners-12 _ _ _ _ _ _ _ good (rate-on _ _ c.in_ok-rate.ensures.fault) c.if-owner-n.true)

pub returns-then-owner-n-clause-owners_filled : goal.returns-then-owner-n-clause-owners_filled
returns-then-owner-n-clause-owners_filled c =
    let good = sym (ap (λ (r : Refusal). r.number) c.in_ok-plant.ensures.fault) in
    owners-kept _ _ _ _ _ _ _ ShortList (owners-12 _ _ _ _ _ _ _ good (rate-on _ _ c.in_ok-rate.ensures.fault) c.if-owner-n.true)

pub returns-clause-answer : goal.returns-clause-answer
returns-clause-answer c =
    let good = sym (ap (λ (r : Refusal). r.number) c.in_ok-plant.ensures.fault) in
    sym (owners-0 _ _ _ _ _ _ _ good (rate-on _ _ c.in_ok-rate.ensures.fault) c.if-owner-n.false)

pub returns-clause-owners_filled : goal.returns-clause-owners_filled
returns-clause-owners_filled c =
    let good = sym (ap (λ (r : Refusal). r.number) c.in_ok-plant.ensures.fault) in
    let fault = owners-0 _ _ _ _ _ _ _ good (rate-on _ _ c.in_ok-rate.ensures.fault) c.if-owner-n.false in
    let same = c.in_ok-plant.ensures.plant in
    let rate = c.in_ok-rate.ensures.rate in
    let few = c.in_ok-plant.plant.accepted.most_devices in
    owners-filled _ _ _ _ _ _ _ fault c.owners_at.result
    (c.owners_at.ensures ∙ (λ i. over (owners_of (plant_of (same.0 i) (same.1 i).now (same.2 i).now (same.3 i).now) (rate.0 i) (rate.1 i)) (replicate 128 0)))
    (omega (arith, few, same.0)) _ c.copy_from_slice.ensures.after
