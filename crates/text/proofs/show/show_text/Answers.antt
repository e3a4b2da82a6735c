-- `text::show::show_text` meets its contract: a text is read into lists with room for every plant, and its refusal or its plant's listing is written.
-- Assumes nothing.
use Rattle.std.proofs.Common.{refl, sym, arith}
use Rattle.rules.specs.Faults.{refusal_of}
use Rattle.rules.proofs.FaultLaws.{fault-some}
use Rattle.text.proofs.Judged.{front_fits}
use Rattle.text.proofs.ListingBound.{refused-most}
use Rattle.text.proofs.Wrote.{front-room, wrote-front}
use Rattle.text.proofs.ShownCalls.{text-refused, text-counted, text-accepts, text-shown}
use Rattle.text.proofs.show.show_text.Goals as goal

pub slice_bounds-firsts-end : goal.slice_bounds-firsts-end
slice_bounds-firsts-end c = front_fits _ _ (text-counted refl refl refl c.in-Ok.ensures refl).0

pub slice_bounds-plant-end : goal.slice_bounds-plant-end
slice_bounds-plant-end c = sym (text-counted refl refl refl c.in-Ok.ensures refl).0

pub slice_bounds-seconds-end : goal.slice_bounds-seconds-end
slice_bounds-seconds-end c = front_fits _ _ (text-counted refl refl refl c.in-Ok.ensures refl).1

pub slice_bounds-plant-end-in-Ok : goal.slice_bounds-plant-end-in-Ok
slice_bounds-plant-end-in-Ok c = sym (text-counted refl refl refl c.in-Ok.ensures refl).1

pub slice_bounds-signals-end : goal.slice_bounds-signals-end
slice_bounds-signals-end c = front_fits _ _ (text-counted refl refl refl c.in-Ok.ensures refl).2

pub slice_bounds-plant-end-in-Ok-2 : goal.slice_bounds-plant-end-in-Ok-2
slice_bounds-plant-end-in-Ok-2 c = sym (text-counted refl refl refl c.in-Ok.ensures refl).2

pub invariant_of-plant : goal.invariant_of-plant
invariant_of-plant c = record { accepted = text-accepts refl refl refl c.in-Ok.ensures refl }

pub returns-in-Ok : goal.returns-in-Ok
returns-in-Ok c = text-shown refl refl refl c.in-Ok.ensures refl c.show_plant.ensures

pub put_refusal-requires : goal.put_refusal-requires
put_refusal-requires c =
    front-room c.new-out.result _ c.new-out.ensures.1 c.new-out.ensures.2
    (omega (arith, refused-most (refusal_of c.in-Err.fault).number (refusal_of c.in-Err.fault).place, c.requires))

pub returns-in-Err : goal.returns-in-Err
returns-in-Err c =
    text-refused refl refl refl c.in-Err.ensures (fault-some c.in-Err.fault)
    (omega (arith, c.put_refusal.ensures.at, c.new-out.ensures.2), search (wrote-front c.put_refusal.ensures c.new-out.ensures))
