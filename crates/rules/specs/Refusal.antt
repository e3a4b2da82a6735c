-- What a call answers first: document 01, "Refusal numbers".
-- Assumes nothing.
use Rattle.std.specs.Prelude.{ℕ}

-- "Each call .. answers a number and a place. 0 means done, with place 0."
pub record Refusal : Type 0 where
  pub number : ℕ
  pub place : ℕ
