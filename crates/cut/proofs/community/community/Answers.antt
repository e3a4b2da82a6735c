-- `cut::community::community` meets its contract: each way out is the definition's answer at the tests that led there, and the marks are untouched or filled.
-- Assumes nothing.
use Rattle.std.proofs.Common.{◌≡◌, sym, ◌∙◌, ap, arith}
use Rattle.rules.specs.Refusal.{Refusal}
use Rattle.rules.specs.Plant.{plant_of}
use Rattle.rules.specs.Cut.{size, out}
use Rattle.rules.specs.Community.{community}
use Rattle.rules.specs.Lists.{over}
use Rattle.cut.specs.Stated.{stated}
use Rattle.cut.specs.Calls.{marks_of}
use Rattle.rules.specs.declared.Fault.TheVariants.{NoSuchDevice, ShortList}
use Rattle.rules.proofs.FaultLaws.{fault-not-0, rate-off, rate-on, err-is}
use Rattle.cut.proofs.CallLaws.{community-plant, community-9, community-10, community-12, community-0, community-refused, community-kept, community-answered, community-filled}
use Rattle.cut.proofs.community.community.Goals as goal

pub returns-then-n-device-clause-answer : goal.returns-then-n-device-clause-answer
returns-then-n-device-clause-answer c =
    let good = sym (ap (λ (r : Refusal). r.number) c.in_ok-plant.ensures.fault) in
    community-refused _ _ _ _ _ _ _ _ NoSuchDevice (community-10 _ _ _ _ _ _ _ _ good (rate-on _ _ c.in_ok-rate.ensures.fault) c.if-n-device.true)

pub returns-then-n-device-clause-marks_filled : goal.returns-then-n-device-clause-marks_filled
returns-then-n-device-clause-marks_filled c =
    let good = sym (ap (λ (r : Refusal). r.number) c.in_ok-plant.ensures.fault) in
    community-kept _ _ _ _ _ _ _ _ NoSuchDevice (community-10 _ _ _ _ _ _ _ _ good (rate-on _ _ c.in_ok-rate.ensures.fault) c.if-n-device.true)

pub returns-in_err-plant-clause-answer : goal.returns-in_err-plant-clause-answer
returns-in_err-plant-clause-answer c =
    let f = c.in_err-plant.field-0.0 in
    let e = c.in_err-plant.ensures.fault in
    rw (err-is c.from_residual.result f c.from_residual.ensures.1) (community-refused _ _ _ _ _ _ _ _ f (community-plant _ _ _ _ _ _ _ _ (fault-not-0 f e) ∙ sym e))

pub returns-in_err-plant-clause-marks_filled : goal.returns-in_err-plant-clause-marks_filled
returns-in_err-plant-clause-marks_filled c =
    let f = c.in_err-plant.field-0.0 in
    let e = c.in_err-plant.ensures.fault in
    community-kept _ _ _ _ _ _ _ _ f (community-plant _ _ _ _ _ _ _ _ (fault-not-0 f e) ∙ sym e)

pub returns-in_err-rate-clause-answer : goal.returns-in_err-rate-clause-answer
returns-in_err-rate-clause-answer c =
    let good = sym (ap (λ (r : Refusal). r.number) c.in_ok-plant.ensures.fault) in
    let f = c.in_err-rate.field-0.0 in
    let off = rate-off _ _ f c.in_err-rate.ensures.fault in
    rw (err-is c.from_residual-in_err-rate.result f c.from_residual-in_err-rate.ensures.1) (community-refused _ _ _ _ _ _ _ _ f (community-9 _ _ _ _ _ _ _ _ good off.0 ∙ sym off.1))

pub returns-in_err-rate-clause-marks_filled : goal.returns-in_err-rate-clause-marks_filled
returns-in_err-rate-clause-marks_filled c =
    let good = sym (ap (λ (r : Refusal). r.number) c.in_ok-plant.ensures.fault) in
    let f = c.in_err-rate.field-0.0 in
    let off = rate-off _ _ f c.in_err-rate.ensures.fault in
    community-kept _ _ _ _ _ _ _ _ f (community-9 _ _ _ _ _ _ _ _ good off.0 ∙ sym off.1)

pub returns-then-short-clause-answer : goal.returns-then-short-clause-answer
returns-then-short-clause-answer c =
    let good = sym (ap (λ (r : Refusal). r.number) c.in_ok-plant.ensures.fault) in
    community-refused _ _ _ _ _ _ _ _ ShortList (community-12 _ _ _ _ _ _ _ _ good (rate-on _ _ c.in_ok-rate.ensures.fault) c.if-n-device.false c.if-short.true)

pub returns-then-short-clause-marks_filled : goal.returns-then-short-clause-marks_filled
returns-then-short-clause-marks_filled c =
    let good = sym (ap (λ (r : Refusal). r.number) c.in_ok-plant.ensures.fault) in
    community-kept _ _ _ _ _ _ _ _ ShortList (community-12 _ _ _ _ _ _ _ _ good (rate-on _ _ c.in_ok-rate.ensures.fault) c.if-n-device.false c.if-short.true)

pub fill_community-requires : goal.fill_community-requires
fill_community-requires c =
    let same = c.in_ok-plant.ensures.plant.0 in
    (omega (arith, same, c.if-n-device.false), omega (arith, same, c.if-short.false))

pub returns-clause-answer : goal.returns-clause-answer
returns-clause-answer c =
    let good = sym (ap (λ (r : Refusal). r.number) c.in_ok-plant.ensures.fault) in
    let fault = community-0 _ _ _ _ _ _ _ _ good (rate-on _ _ c.in_ok-rate.ensures.fault) c.if-n-device.false c.if-short.false in
    let same = c.in_ok-plant.ensures.plant in
    let s : stated c.in_ok-plant.plant ≡ plant_of c.args.n c.args.firsts.now c.args.seconds.now c.args.signals.now = λ i. plant_of (same.0 i) (same.1 i).now (same.2 i).now (same.3 i).now in
    let rate = c.in_ok-rate.ensures.rate in
    let size_is = c.fill_community.ensures.size_is ∙ (λ i. size (s i) (community (s i) (rate.0 i) (rate.1 i) c.args.device)) in
    let out_is = c.fill_community.ensures.out_is ∙ (λ i. out (s i).lines (community (s i) (rate.0 i) (rate.1 i) c.args.device)) in
    (λ i. record { number = 0; place = 0; size = size_is i; out = out_is i }) ∙ sym (community-answered _ _ _ _ _ _ _ _ fault)

pub returns-clause-marks_filled : goal.returns-clause-marks_filled
returns-clause-marks_filled c =
    let good = sym (ap (λ (r : Refusal). r.number) c.in_ok-plant.ensures.fault) in
    let fault = community-0 _ _ _ _ _ _ _ _ good (rate-on _ _ c.in_ok-rate.ensures.fault) c.if-n-device.false c.if-short.false in
    let same = c.in_ok-plant.ensures.plant in
    let rate = c.in_ok-rate.ensures.rate in
    c.fill_community.ensures.marks_filled
    ∙ (λ i. over (marks_of (same.0 i) (community (plant_of (same.0 i) (same.1 i).now (same.2 i).now (same.3 i).now) (rate.0 i) (rate.1 i) c.args.device)) c.args.marks.now)
    ∙ sym (community-filled _ _ _ _ _ _ _ _ fault)
