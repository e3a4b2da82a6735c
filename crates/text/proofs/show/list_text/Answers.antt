-- `text::show::list_text` meets its contract: the bytes that are printed are made in a list of its own, and copied where the lent one has room.
-- Assumes nothing.
use mathlib.Core.Path.{refl, ◌∙◌}
use lib.Seq.{length-take-le}
use Rattle.text.proofs.ShownCalls.{list-within, list_count, list-short, list-filled}
use Rattle.text.proofs.show.list_text.Goals as goal

pub returns-then-bytes-count : goal.returns-then-bytes-count
returns-then-bytes-count c =
    list-short c.show_text-count.ensures c.args.bytes.now c.if-bytes-count.true

pub slice_bounds-space-end : goal.slice_bounds-space-end
slice_bounds-space-end c = list-within c.show_text-count.ensures

pub slice_bounds-copy_from_slice-end-3 : goal.slice_bounds-copy_from_slice-end-3
slice_bounds-copy_from_slice-end-3 c = list_count c.show_text-count.ensures

pub copy_from_slice-requires : goal.copy_from_slice-requires
copy_from_slice-requires c = length-take-le _ _ c.if-bytes-count.false ∙ list_count c.show_text-count.ensures

pub returns : goal.returns
returns c = list-filled c.show_text-count.ensures c.if-bytes-count.false (rw c.copy_from_slice.ensures.after refl)
