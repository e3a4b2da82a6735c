-- The place of 15, said without reading: document 01, "Plant text and listing": "A missing or surplus row, or a missing last newline, is 15 at the
-- first text line that is not as expected; a text that stops early is 15 at the number of the text line that should have come."
-- Assumes nothing.
use Rattle.std.specs.Prelude.{ℕ, zero, suc, ◌-◌, ◌≤◌, ◌<◌, ◌≡◌, true, cond, List, [], ◌∷◌, eqb, length, get_or}
use Rattle.text.specs.Lines.{begins}
use Rattle.text.specs.Form.{plant_text}

-- "each ended by one newline byte": how many text lines a text has; bytes after the last newline are no text line
unfoldable pub text_lines : List ℕ → ℕ
text_lines [] = 0
text_lines (b ∷ t) = cond (eqb b 10) (suc (text_lines t)) (text_lines t)

-- the first k text lines of a text, with their newlines
unfoldable pub first_lines : ℕ → List ℕ → List ℕ
first_lines zero t = []
first_lines (suc k) [] = []
first_lines (suc k) (b ∷ t) = b ∷ cond (eqb b 10) (first_lines k t) (first_lines (suc k) t)

-- every number of the list has at most nine digits
abbrev pub Small : List ℕ → Type 0
Small xs = (k : ℕ) → k < length xs → get_or xs k 0 < 1000000000

-- a text of the right form: that of any numbers with at most nine digits, whether or not they state a plant
pub record RightForm (t : List ℕ) : Type 0 where
  pub devices : ℕ
  pub firsts : List ℕ
  pub seconds : List ℕ
  pub signals : List ℕ
  pub one_length : length firsts ≡ length seconds
  pub one_length' : length seconds ≡ length signals
  pub small_devices : devices < 1000000000
  pub small_lines : length firsts < 1000000000
  pub small_firsts : Small firsts
  pub small_seconds : Small seconds
  pub small_signals : Small signals
  pub text : t ≡ plant_text devices firsts seconds signals

-- the first k text lines of t are as expected: t has as many, and some text of the right form begins with them
pub record Expected (t : List ℕ) (k : ℕ) : Type 0 where
  pub has : k ≤ text_lines t
  pub whole : List ℕ
  pub right : RightForm whole
  pub begin : begins (first_lines k t) whole ≡ true

-- the place of 15, from 1, in a text that is not of the right form: the text lines before k are as expected, and with text line k they are not,
-- be it of wrong form or not there
pub record Place (t : List ℕ) (k : ℕ) : Type 0 where
  pub wrong : RightForm t → ⊥
  pub from_one : 1 ≤ k
  pub before : Expected t (k - 1)
  pub here : Expected t k → ⊥
