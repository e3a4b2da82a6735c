-- `text::read::fill` meets its contract: the front of the list is the copied one.
-- Assumes nothing.
use mathlib.Core.Path.{refl}
use Rattle.rules.specs.Lists.{over}
use Rattle.text.proofs.read.fill.Goals as goal

pub returns : goal.returns
unfolding over
returns c = rw c.copy_from_slice.ensures.after refl
