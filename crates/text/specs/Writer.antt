-- What a writer does: a list of bytes, and the place where the next word goes. No public contract cites these.
-- Assumes nothing.
use Rattle.std.specs.Prelude.{ℕ, ◌+◌, ◌≤◌, ◌≡◌, List, length}
use Rattle.text.specs.declared.write.Writer.{Writer}
use Rattle.text.specs.Writing.{placed}

-- the list has room for the word w
abbrev pub HasRoom : Writer → List ℕ → Type 0
HasRoom old w = old.at + length w ≤ length old.bytes.now

-- the word w went to the place, and the writer, which was old, is new: of the same list, at the place after the word
pub record Writes (old : Writer) (w : List ℕ) (new : Writer) : Type 0 where
  pub at : new.at ≡ old.at + length w
  pub bytes : new.bytes.now ≡ placed old.bytes.now old.at w
  pub same_list : new.bytes.ghost_name ≡ old.bytes.ghost_name
