-- `text::listing::put_level` meets its contract: four words are written one after the other.
-- Assumes nothing.
use Prim.Native.Nat.{ℕ, suc}
use mathlib.Core.Path.{◌≡◌}
use Rattle.std.specs.Prelude.{Option}
use Rattle.std.specs.Bool.{then_some}
use Rattle.cut.specs.declared.rate.Rate.{Rate}
use mathlib.Core.List.{List, [], ◌∷◌}
use lib.Dec.{ltb}
use lib.ListN.{length, get_or}
use Rattle.text.specs.declared.write.Writer.{Writer}
use Rattle.text.specs.Writer.{HasRoom}
use Rattle.text.specs.declared.levels.Levels.{Levels}
use Rattle.text.specs.Lines.{newline, field_text}
use Rattle.text.specs.Listing.{level_key, groups_key, head_count, low_text, groups_text, level_text}
use Rattle.text.specs.Levels.{low_line, labels_of, level_of}
use Rattle.text.proofs.ListingLaws.{low-is, joined, Left, left-start, left-room, left-then, left-none}
use Rattle.text.proofs.listing.put_level.Goals as goal

none : (old : Writer) (s : Levels) (i : ℕ) {level : List ℕ} {low : Option Rate} {count : ℕ} → level ≡ labels_of s i → length level ≡ s.n
    → low ≡ then_some (ltb (suc i) s.count) (record { p = get_or s.low_p.now i 0; q = get_or s.low_q.now i 0 })
    → count ≡ head_count level 0 (length level) → HasRoom old (level_of s i)
    → Left old (level_of s i)
    (field_text level_key newline i ∷ low_line low ∷ field_text groups_key newline count ∷ groups_text (length level) level 0 (length level) ∷ []) old
unfolding level_text joined
none old s i e k l h room =
    rw (l, low-is, h, k, e)
    (left-start old (field_text level_key newline i ∷ low_text (ltb (suc i) s.count) (get_or s.low_p.now i 0) (get_or s.low_q.now i 0) ∷ field_text groups_key newline (head_count (labels_of s i) 0 s.n) ∷ groups_text s.n (labels_of s i) 0 s.n ∷ []) room)

pub put_field-requires : goal.put_field-requires
put_field-requires c = left-room (none c.args.out.now c.args.levels.now c.args.i c.level-level.ensures.labels c.level-level.ensures.one_each c.low-low.ensures c.count_heads-groups.ensures c.requires.room)

pub put_low-requires : goal.put_low-requires
put_low-requires c = left-room (left-then (none c.args.out.now c.args.levels.now c.args.i c.level-level.ensures.labels c.level-level.ensures.one_each c.low-low.ensures c.count_heads-groups.ensures c.requires.room) c.put_field.ensures)

pub put_field-requires-2 : goal.put_field-requires-2
put_field-requires-2 c = left-room (left-then (left-then (none c.args.out.now c.args.levels.now c.args.i c.level-level.ensures.labels c.level-level.ensures.one_each c.low-low.ensures c.count_heads-groups.ensures c.requires.room) c.put_field.ensures) c.put_low.ensures)

pub put_groups-requires : goal.put_groups-requires
put_groups-requires c = left-room (left-then (left-then (left-then (none c.args.out.now c.args.levels.now c.args.i c.level-level.ensures.labels c.level-level.ensures.one_each c.low-low.ensures c.count_heads-groups.ensures c.requires.room) c.put_field.ensures) c.put_low.ensures) c.put_field-2.ensures)

pub returns : goal.returns
returns c = left-none (left-then (left-then (left-then (left-then (none c.args.out.now c.args.levels.now c.args.i c.level-level.ensures.labels c.level-level.ensures.one_each c.low-low.ensures c.count_heads-groups.ensures c.requires.room) c.put_field.ensures) c.put_low.ensures) c.put_field-2.ensures) c.put_groups.ensures)
