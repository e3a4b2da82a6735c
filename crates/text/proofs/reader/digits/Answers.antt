-- `text::reader::digits` meets its contract: it ends at a ninth digit, at a byte that is no digit, or with the text.
-- Assumes nothing.
use native.Mathlib.Omega.{arith}
use mathlib.Core.Path.{◌≡◌, sym, ◌∙◌}
use mathlib.Core.Bool.{true}
use lib.ListN.{length, get_or}
use Rattle.text.specs.Numbers.{is_digit}
use Rattle.text.proofs.Steps.{digit-is, count-end, count-stop, count-nine, count-more}
use Rattle.text.proofs.reader.digits.Goals as goal
use Rattle.text.proofs.reader.digits.Goals.{then-k-eq9-via-then-k-eq9, then-k-eq9-via-else-k-eq9+then-not-is_ascii_digit}

pub returns-then-k-eq9 : goal.returns-then-k-eq9
returns-then-k-eq9 c =
    elim c.then-k-eq9.branch [
      | then-k-eq9-via-then-k-eq9 w ↦ count-nine c.loop-k.invariant (omega arith)
      | then-k-eq9-via-else-k-eq9+then-not-is_ascii_digit w ↦
          count-stop c.loop-k.invariant c.loop-k-test.true (sym (digit-is _) ∙ sym w.is_ascii_digit.ensures.value ∙ w.if-not-is_ascii_digit.true)
    ]

pub loop-k-preserved : goal.loop-k-preserved
loop-k-preserved c =
    let digit : is_digit (get_or c.args.l.now c.loop-k.k 0) ≡ true = sym (digit-is _) ∙ sym c.is_ascii_digit.ensures.value ∙ c.if-not-is_ascii_digit.false in
    count-more c.loop-k.invariant (omega arith) c.loop-k-test.true digit

pub returns : goal.returns
returns c =
    let e : c.loop-k.k ≡ length c.args.l.now = omega arith in
    rw (← e) (count-end c.loop-k.invariant c.loop-k-test.false)
