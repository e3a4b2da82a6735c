-- `network::owners::own_searched` meets its contract. The loop's invariant: the owners are those of the sweep over the nodes below x.
-- Assumes nothing.
use mathlib.Core.Path.{fun_ext}
use Rattle.rules.proofs.FillLaws.{over-size}
use Rattle.network.proofs.CallLaws.{cleared, cleared-again, owning-start, owning-passed, owning-owned, owning-taken, owning-done, wanted-not, wanted-is}
use Rattle.network.proofs.owners.own_searched.Goals as goal
use Rattle.network.proofs.owners.own_searched.Goals.{then-wanted-x-ne0+then-owner-x, else-wanted-x-ne0, else-wanted-x-ne0-via-then-wanted-x-ne0+else-owner-x, else-wanted-x-ne0-via-else-wanted-x-ne0}

pub loop-x-init : goal.loop-x-init
loop-x-init c =
    let k = c.args.network.now.nodes in
    let room = c.requires.1 in
    let none = cleared k c.args.owner.now room (c.fill.ensures.after (λ y e. e)) in
    owning-start _ _ _ _ (rw (none, over-size k (λ v. k) c.args.owner.now room) room) (cleared-again k (λ v. k) c.args.owner.now _ room none)

pub loop-x-preserved : goal.loop-x-preserved
loop-x-preserved c =
    let inv = c.loop-x.invariant in
    let test = c.loop-x-test.true in
    elim c.if-wanted-x-ne0.branch [
      | then-wanted-x-ne0+then-owner-x w ↦
          rw w.owner-is (let got = rw c.new-lines.ensures at w.take_over.ensures in owning-taken _ _ _ _ inv test got.0 got.1 (λ T e. rw (fun_ext e) got.1) (wanted-is _ _ w.if-wanted-x-ne0.true) w.if-owner-x.true got.2)
      | else-wanted-x-ne0 w ↦
          rw w.owner-is
          (elim w.else-wanted-x-ne0.branch [
            | else-wanted-x-ne0-via-then-wanted-x-ne0+else-owner-x v ↦ owning-owned _ _ _ _ inv test v.if-owner-x.false
            | else-wanted-x-ne0-via-else-wanted-x-ne0 v ↦ owning-passed _ _ _ _ inv test (wanted-not _ _ v.if-wanted-x-ne0.false)
          ])
    ]

pub returns : goal.returns
returns c =
    let room = c.requires.1 in
    owning-done c.loop-x.invariant c.loop-x-test.false room (cleared c.args.network.now.nodes c.args.owner.now room (c.fill.ensures.after (λ y e. e)))
