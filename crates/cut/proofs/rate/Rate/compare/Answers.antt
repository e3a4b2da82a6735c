-- `cut::rate::Rate::compare` meets its contract: each way out is the definition's answer at the tests that led there.
-- Assumes nothing.
use Rattle.std.proofs.Common.{ℕ, ap, ◌∙◌, ◌*◌}
use native.Mathlib.Nat.{lt_of_le_of_lt}
use lib.Dec.{lit<}
use Rattle.rules.proofs.FaultLaws.{rate-off, rate-on, err-is}
use Rattle.cut.specs.RateCalls.{order, order_of, compared}
use Rattle.cut.proofs.RateLaws.{cross-most, order-told}
use Rattle.cut.proofs.rate.Rate.compare.Goals as goal

pub returns-in_err-check : goal.returns-in_err-check
unfolding compared
returns-in_err-check c =
    let off = rate-off _ _ _ c.in_err-check.ensures.fault in
    rw (err-is c.from_residual.result c.in_err-check.field-0.0 c.from_residual.ensures.1, off.0, off.1)

pub returns-in_err-check-2 : goal.returns-in_err-check-2
unfolding compared
returns-in_err-check-2 c =
    let on = rate-on _ _ c.in_ok-check.ensures.fault in
    let off = rate-off _ _ _ c.in_err-check-2.ensures.fault in
    rw (err-is c.from_residual-in_err-check-2.result c.in_err-check-2.field-0.0 c.from_residual-in_err-check-2.ensures.1, on, off.0, off.1)

pub overflow_mul-here : goal.overflow_mul-here
overflow_mul-here c = record { fits = lt_of_le_of_lt (cross-most _ _ _ _ (rate-on _ _ c.in_ok-check.ensures.fault) (rate-on _ _ c.in_ok-check-2.ensures.fault)) (lit< tt) }

pub overflow_mul-there : goal.overflow_mul-there
overflow_mul-there c = record { fits = lt_of_le_of_lt (cross-most _ _ _ _ (rate-on _ _ c.in_ok-check-2.ensures.fault) (rate-on _ _ c.in_ok-check.ensures.fault)) (lit< tt) }

pub returns : goal.returns
unfolding compared order
returns c =
    let on = rate-on _ _ c.in_ok-check.ensures.fault in
    let on' = rate-on _ _ c.in_ok-check-2.ensures.fault in
    rw (on, on')
    (ap (λ (k : ℕ). record { number = 0; place = 0; order = k })
    (ap order_of c.cmp.ensures ∙ order-told (c.args.self.p * c.args.other.q) (c.args.other.p * c.args.self.q)))
