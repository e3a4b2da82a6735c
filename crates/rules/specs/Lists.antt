-- Document 01, "What a call fills": a lent list after a call.
-- Assumes nothing.
use Rattle.std.specs.Prelude.{cond, List, ◌++◌, ℕ, eqb, length, drop}
use Rattle.rules.specs.Refusal.{Refusal}

-- "Longer lists are taken, and entries past those filled stay untouched.": the entries of new, and then what stood past them
unfoldable pub over : List ℕ → List ℕ → List ℕ
over new old = new ++ drop (length new) old

-- "Lent lists are untouched after any other number.": the list that was old, after a call that fills in new
abbrev pub after : Refusal → List ℕ → List ℕ → List ℕ
after fault new old = cond (eqb fault.number 0) (over new old) old
