-- What comparison and reduction of rates answer: document 01, "The plant", on rates.
-- Assumes nothing.
use Rattle.std.specs.Prelude.{ℕ, ◌*◌, ◌≡◌, true, false, ◌&&◌, cond, ltb, eqb, Result, Ok, Err}
use Rattle.std.specs.declared.cmp.Ordering.{Ordering}
use Rattle.std.specs.declared.cmp.Ordering.TheVariants.{Less, Equal, Greater}
use Rattle.rules.specs.Rates.{rate_ok, Same, Lowest}
use Rattle.rules.specs.Faults.{refusal_of}
use Rattle.rules.specs.declared.Fault.{Fault}
use Rattle.cut.specs.declared.rate.Rate.{Rate}

-- the answer of a comparison: number and place, and order is 1 where the first rate is below the second, 2 where they are the same fraction, 3 where it is above
pub record Compared : Type 0 where
  pub number : ℕ
  pub place : ℕ
  pub order : ℕ

-- the answer of a reduction: number and place, and the rate in lowest terms
pub record Reduced : Type 0 where
  pub number : ℕ
  pub place : ℕ
  pub p : ℕ
  pub q : ℕ

-- "For every answer that is an enum, a definition gives this paper's number and values for each case of the enum."
abbrev pub order_of : Ordering → ℕ
order_of Less = 1
order_of Equal = 2
order_of Greater = 3

abbrev pub compare_told : Result Ordering Fault → Compared
compare_told (Ok o) = record { number = 0; place = 0; order = order_of o }
compare_told (Err f) = record { number = (refusal_of f).number; place = (refusal_of f).place; order = 0 }

abbrev pub reduce_told : Result Rate Fault → Reduced
reduce_told (Ok r) = record { number = 0; place = 0; p = r.p; q = r.q }
reduce_told (Err f) = record { number = (refusal_of f).number; place = (refusal_of f).place; p = 0; q = 0 }

-- "fractions compare by cross products": 1 below, 2 the same, 3 above
unfoldable pub order : ℕ → ℕ → ℕ → ℕ → ℕ
order p q r s = cond (ltb (p * s) (r * q)) 1 (cond (eqb (p * s) (r * q)) 2 3)

-- "comparison and reduction .. give 9 for p or q out of range", of either rate
unfoldable pub compared : ℕ → ℕ → ℕ → ℕ → Compared
compared p q r s =
    cond (rate_ok p q && rate_ok r s) (record { number = 0; place = 0; order = order p q r s }) (record { number = 9; place = 0; order = 0 })

-- "10/2 answers as 5/1": the same fraction in lowest terms. `RateLaws` proves that there is only one
pub record Reduction (p q : ℕ) (r : Reduced) : Type 0 where
  pub refused : rate_ok p q ≡ false → r ≡ record { number = 9; place = 0; p = 0; q = 0 }
  pub number : rate_ok p q ≡ true → r.number ≡ 0
  pub place : rate_ok p q ≡ true → r.place ≡ 0
  pub same : rate_ok p q ≡ true → Same p q r.p r.q
  pub lowest : rate_ok p q ≡ true → Lowest r.p r.q
