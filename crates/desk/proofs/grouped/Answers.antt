-- `desk::grouped` meets its contract: reading gives the faults of the text and of the plant that it states, finding the groups then 9, and
-- 12 is left for the labels. Assumes nothing.
use Prim.Native.Nat.{ℕ}
use mathlib.Core.List.{List}
use lib.ListN.{replicate}
use mathlib.Core.Path.{refl, sym}
use Rattle.rules.proofs.FaultLaws.{fault-some, err-is}
use Rattle.text.specs.Reading.{Reading, ReadIs}
use Rattle.text.proofs.Judged.{values_length, front_fits}
use Rattle.desk.proofs.CallLaws.{Read, stated, as_many, found_in, text-refused, few, rate-refused, too_short, found-devices, answered}
use Rattle.desk.proofs.grouped.Goals as goal

-- what reading promises
reading : {t us vs ws : List ℕ} {r : Reading} → ReadIs t (replicate 1024 0) (replicate 1024 0) (replicate 1024 0) r us vs ws → Read t r us vs ws
reading i = record { old = replicate 1024 0; wide = refl; is = i }

pub returns-in_err-size : goal.returns-in_err-size
returns-in_err-size c =
    let f = c.in_err-size.field-0.0 in
    let told = text-refused c.args.text.now c.args.p c.args.q c.args.labels.now (reading c.in_err-size.ensures) (fault-some f) in
    record { answer = rw (err-is c.from_residual.result f c.from_residual.ensures.1) told.0; labels_filled = told.1 }

pub slice_bounds-firsts-end : goal.slice_bounds-firsts-end
slice_bounds-firsts-end c =
    let s = stated (reading c.in_ok-size.ensures) refl in
    front_fits _ _ (as_many s s.firsts (values_length _ _))

pub slice_bounds-groups_at-end : goal.slice_bounds-groups_at-end
slice_bounds-groups_at-end c =
    let s = stated (reading c.in_ok-size.ensures) refl in
    sym (as_many s s.firsts (values_length _ _))

pub slice_bounds-seconds-end : goal.slice_bounds-seconds-end
slice_bounds-seconds-end c =
    let s = stated (reading c.in_ok-size.ensures) refl in
    front_fits _ _ (as_many s s.seconds (values_length _ _))

pub slice_bounds-groups_at-end-2 : goal.slice_bounds-groups_at-end-2
slice_bounds-groups_at-end-2 c =
    let s = stated (reading c.in_ok-size.ensures) refl in
    sym (as_many s s.seconds (values_length _ _))

pub slice_bounds-signals-end : goal.slice_bounds-signals-end
slice_bounds-signals-end c =
    let s = stated (reading c.in_ok-size.ensures) refl in
    front_fits _ _ (as_many s s.signals (values_length _ _))

pub slice_bounds-groups_at-end-3 : goal.slice_bounds-groups_at-end-3
slice_bounds-groups_at-end-3 c =
    let s = stated (reading c.in_ok-size.ensures) refl in
    sym (as_many s s.signals (values_length _ _))

pub returns-in_err-groups : goal.returns-in_err-groups
returns-in_err-groups c =
    let s = stated (reading c.in_ok-size.ensures) refl in
    let f = c.in_err-groups.field-0.0 in
    let w = found_in s (replicate 128 0) refl (c.in_err-groups.ensures.answer, c.in_err-groups.ensures.labels_filled) in
    let told = rate-refused c.args.text.now c.args.p c.args.q c.args.labels.now s.right w (fault-some f) in
    record { answer = rw (err-is c.from_residual-in_err-groups.result f c.from_residual-in_err-groups.ensures.1) told.0; labels_filled = told.1 }

pub returns-then-labels-n : goal.returns-then-labels-n
returns-then-labels-n c =
    let s = stated (reading c.in_ok-size.ensures) refl in
    let f = found_in s (replicate 128 0) refl (c.in_ok-groups.ensures.answer, c.in_ok-groups.ensures.labels_filled) in
    let told = too_short c.args.text.now c.args.p c.args.q c.args.labels.now s.right f refl (rw s.devices at c.if-labels-n.true) in
    record { answer = told.0; labels_filled = told.1 }

pub put_labels-requires : goal.put_labels-requires
put_labels-requires c =
    let s = stated (reading c.in_ok-size.ensures) refl in
    let f = found_in s (replicate 128 0) refl (c.in_ok-groups.ensures.answer, c.in_ok-groups.ensures.labels_filled) in
    rw s.devices
    (few _ s.right, rw s.devices at c.if-labels-n.false, found-devices _ _ _ c.args.labels.now s.right f refl)

pub returns : goal.returns
returns c =
    let s = stated (reading c.in_ok-size.ensures) refl in
    let f = found_in s (replicate 128 0) refl (c.in_ok-groups.ensures.answer, c.in_ok-groups.ensures.labels_filled) in
    let told = answered c.args.text.now c.args.p c.args.q c.args.labels.now s.right f refl (rw s.devices at c.if-labels-n.false) (rw s.devices at c.put_labels.ensures) in
    record { answer = told.0; labels_filled = told.1 }
