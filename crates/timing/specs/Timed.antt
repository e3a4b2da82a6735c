-- What the measured call answers and leaves in the lent lists: what the hierarchy call does. Assumes nothing.
use Rattle.std.specs.Prelude.{ℕ, ◌≡◌, List}
use Rattle.grouping.specs.Calls.{Levels, HierarchyIs}

-- "answers the number of levels"; the lists are filled, or kept after a refusal, as by the hierarchy call, whose whole answer is `answer`
pub record TimedIs (n : ℕ) (xs ys zs labels low_ps low_qs : List ℕ) (r : ℕ) (labels' low_ps' low_qs' : List ℕ) : Type 0 where
  pub answer : Levels
  pub call : HierarchyIs n xs ys zs labels low_ps low_qs answer labels' low_ps' low_qs'
  pub count : r ≡ answer.levels
