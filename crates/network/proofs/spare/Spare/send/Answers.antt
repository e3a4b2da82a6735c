-- `network::spare::Spare::send` meets its contract. The loop's invariant is `Going`: what goes has gone from place j to place `end`, and can still go to place j. The measure is j.
-- Assumes nothing.
use mathlib.Core.Path.{◌∙◌}
use native.Mathlib.Omega.{arith}
use Rattle.network.proofs.PathLaws.{clear-spare, going_step, going-kept}
use Rattle.network.proofs.spare.Spare.send.Goals as goal

pub send_over-requires-clause-enough : goal.send_over-requires-clause-enough
send_over-requires-clause-enough c = clear-spare _ _ _ _ _ _ _ c.loop-j-test.true c.loop-j.invariant.going.clear

pub loop-j-preserved : goal.loop-j-preserved
loop-j-preserved c =
    let few = c.args.lines.now.laid.few in
    record {
      going = rw (c.send_over.ensures.forth_new, c.send_over.ensures.back_new)
          (going_step _ _ _ _ _ _ _ _ _ c.requires.way c.loop-j.invariant.going c.loop-j-test.true (omega (arith, few)) (omega (arith, few)));
      drain = c.send_over.ensures.drain_kept ∙ c.loop-j.invariant.drain;
    }

pub returns-clause-kept : goal.returns-clause-kept
returns-clause-kept c = going-kept _ _ _ _ _ _ _ _ _ c.loop-j.invariant.going c.loop-j-test.false
