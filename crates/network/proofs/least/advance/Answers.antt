-- `network::least::advance` meets its contract: the way that was found has something to spare, and what goes along it leaves by the last node's drain. Where that uses up no line of the way, the drain is gone and the whole queue can stay; else the places before the first whose line is used up.
-- Assumes nothing.
use Prim.Native.Nat.{◌+◌, ◌-◌, ◌<◌}
use mathlib.Core.Path.{◌≡◌, refl}
use native.Mathlib.Omega.{arith}
use Rattle.network.proofs.PathLaws.{kept_full, on-none, on-some}
use Rattle.network.proofs.SpareLaws.{drains-less, spares-sent}
use Rattle.network.proofs.KeptLaws.{scan-kept, scan-cut}
use Rattle.network.proofs.LeastLaws.{found-device, found-node}
use Rattle.network.proofs.least.advance.Goals as goal

pub returns-clause-less : goal.returns-clause-less
returns-clause-less c =
    let below = found-device c.requires.found.found in
    let narrow = c.narrowest-amount.ensures.within in
    rw c.send.ensures.drain_kept (drains-less _ _ _ below (omega (arith, below)) narrow.0 narrow.1)

pub returns-clause-sends_after : goal.returns-clause-sends_after
returns-clause-sends_after c =
    let found = c.requires.found.found in
    let node = found-node found c.args.lines.now.network.fits c.requires.start_node in
    rw c.send.ensures.drain_kept (spares-sent c.requires.sends c.send.ensures.sent node (omega (arith, found-device found)) c.narrowest-amount.ensures.within.1)

pub returns-clause-whole : goal.returns-clause-whole
returns-clause-whole c =
    let found = c.requires.found.found in
    let kept = c.send.ensures.kept in
    let used = c.first_used.ensures in
    let count = c.args.queue.now.count in
    let last : count - 1 + 1 ≡ count = omega (arith, found.covered.tree.some) in
    rw c.send.ensures.drain_kept
    (on-none c.first_used.result (λ none.
    let clear = rw none at used.before in
    record {
      scan = scan-kept found kept found.covered.tree.some (omega arith) (λ i m o b. clear i m o (omega (arith, b, last))) _ refl
          (omega (arith, kept_full kept _ c.narrowest-amount.ensures.reached (λ i m o b. clear i m o b))) (omega (arith, found-device found));
      ahead = c.requires.found.ahead;
    }))

pub returns-clause-within : goal.returns-clause-within
returns-clause-within c =
    let used = c.first_used.ensures in
    on-some c.first_used.result (λ cut is. let w = rw is at used.within in (w.0, omega (arith, w.1, c.requires.found.found.covered.tree.some)))

pub returns-clause-cut_back : goal.returns-clause-cut_back
returns-clause-cut_back c =
    let found = c.requires.found.found in
    let used = c.first_used.ensures in
    rw c.send.ensures.drain_kept
    (on-some c.first_used.result (λ cut is marks own.
    let w = rw is at used.within in
    let less : cut < c.args.queue.now.count = omega (arith, w.1, found.covered.tree.some) in
    scan-cut found c.send.ensures.kept w.0 (omega (arith, less)) (rw is at used.before) _ less (rw is at used.used) own))
