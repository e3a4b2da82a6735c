-- `cut::rate::Rate::reduce` meets its contract: out of range it is refused, and otherwise p and q divided by their greatest common divisor are the same fraction in lowest terms.
-- Assumes nothing.
use Rattle.std.proofs.Common.{refl, sym, ◌∙◌}
use mathlib.Core.Bool.{true≢false}
use Rattle.rules.proofs.FaultLaws.{rate-off, rate-on, err-is}
use Rattle.rules.proofs.RangeLaws.{range-in}
use Rattle.cut.proofs.RateLaws.{reduced-same, reduced-lowest}
use Rattle.cut.proofs.rate.Rate.reduce.Goals as goal

pub returns-in_err-check : goal.returns-in_err-check
returns-in_err-check c =
    let off = rate-off _ _ _ c.in_err-check.ensures.fault in
    rw (err-is c.from_residual.result c.in_err-check.field-0.0 c.from_residual.ensures.1)
    (record {
      refused = λ e. rw off.1;
      number = λ e. absurd (true≢false (sym e ∙ off.0));
      place = λ e. absurd (true≢false (sym e ∙ off.0));
      same = λ e. absurd (true≢false (sym e ∙ off.0));
      lowest = λ e. absurd (true≢false (sym e ∙ off.0));
    })

pub common-by-requires : goal.common-by-requires
common-by-requires c = (range-in _ _ (rate-on _ _ c.in_ok-check.ensures.fault)).p_least

pub returns : goal.returns
returns c =
    let on = rate-on _ _ c.in_ok-check.ensures.fault in
    record {
      refused = λ e. absurd (true≢false (sym on ∙ e));
      number = λ e. refl;
      place = λ e. refl;
      same = λ e. reduced-same c.common-by.ensures;
      lowest = λ e. reduced-lowest c.common-by.ensures;
    }
