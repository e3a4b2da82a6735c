-- `hierarchy::main` is safe: the bytes that it prints lie within their list, by what `list_text` ensures. Assumes nothing.
use Rattle.std.proofs.Common.{sym, ◌∙◌}
use Rattle.text.proofs.Judged.{front_fits}
use Rattle.text.proofs.ShownLaws.{list_counted, told-count}
use Rattle.hierarchy.proofs.main.Goals as goal

pub slice_bounds-bytes-end : goal.slice_bounds-bytes-end
slice_bounds-bytes-end c = rw (c.unwrap_or-count.ensures ∙ told-count c.list_text.result) (front_fits _ _ (list_counted c.list_text.ensures))

pub slice_bounds-write_all-end : goal.slice_bounds-write_all-end
slice_bounds-write_all-end c = rw (c.unwrap_or-count.ensures ∙ told-count c.list_text.result) (sym (list_counted c.list_text.ensures))
