-- The network between two levels: it stands for the plant, so its least sets are the communities, and the owners that it answers are those of the devices.
--     between-nodes              the nodes are devices
--     stands, network            what the program has made is the network of the finer level's groups, and it is taken
--     between-swept              the owners of the nodes, given to their devices, are those of a search of enough devices
-- Assumes nothing.
use Prim.Native.Nat.{ℕ, ◌*◌, ◌≤◌, ◌<◌}
use mathlib.Core.Path.{◌≡◌, refl, sym, ap, ◌∙◌}
use mathlib.Core.Bool.{Bool, true, false}
use mathlib.Core.List.{List}
use native.Mathlib.Nat.{le_refl}
use native.Mathlib.Omega.{arith}
use lib.Dec.{eqb}
use lib.ListN.{length, get_or, take}
use lib.Seq.{get_or-take}
use borrow.Author.Tests.{eqb-true, eq-eqb}
use Rattle.rules.specs.Plant.{Plant, lines_of, plant_of}
use Rattle.rules.specs.Accepted.{Accepted, Sound}
use Rattle.rules.specs.Cut.{Devices, crossing, out}
use Rattle.rules.specs.Sets.{Inside, Agree}
use Rattle.rules.specs.Community.{community}
use Rattle.rules.specs.Groups.{group_of}
use Rattle.rules.specs.Numbers.{sum}
use Rattle.rules.specs.Rates.{rate_ok}
use Rattle.rules.specs.Sweep.{sweep, wanted_in}
use Rattle.rules.specs.Network.{IsLeast}
use Rattle.rules.specs.Nodes.{inner_cut, Stands}
use Rattle.rules.proofs.RangeLaws.{range-in}
use Rattle.rules.proofs.RefusalLaws.{accepted-sound}
use Rattle.rules.proofs.FillLaws.{over-front}
use Rattle.rules.proofs.SumLaws.{sum-agree, out-sum}
use Rattle.rules.proofs.SweepLaws.{sweep-nodes}
use Rattle.rules.proofs.Instance.{family}
use Rattle.rules.proofs.GroupLaws.{group-holds}
use Rattle.rules.proofs.NodeNetwork.{inner-sum, stands-between}
use Rattle.network.specs.Calls.{Network, OwnersOf, OwnersAre}
use Rattle.grouping.specs.Between.{NodesBelow, Joined, Drained}
use Rattle.grouping.specs.Level.{owns_itself, Between, Swept}
use Rattle.grouping.proofs.LevelLaws.{between-walled, between-covers}

-- the nodes are devices
pub between-nodes : (n : ℕ) (xs ys zs : List ℕ) {p q : ℕ} {owner wall : List ℕ} → Between (plant_of n xs ys zs) p q owner wall → NodesBelow n owner
unfolding plant_of
between-nodes n xs ys zs between = between.finer_is.device

module _ {n : ℕ} {xs ys zs : List ℕ} {p q : ℕ} {owner wall lower upper widths drains : List ℕ} {m : ℕ}
    (accepted : Accepted n xs ys zs) (ok : rate_ok p q ≡ true) (between : Between (plant_of n xs ys zs) p q owner wall)
    (joined : Joined n xs ys zs q owner wall (length xs) lower upper widths m) (drained : Drained (plant_of n xs ys zs) p q owner wall drains)
    {lows ups wids : List ℕ} (low-is : (lows ≡ take m lower) × (length lows ≡ m)) (up-is : (ups ≡ take m upper) × (length ups ≡ m)) (wid-is : (wids ≡ take m widths) × (length wids ≡ m)) (wide : length drains ≡ 128) where
  abbrev g : Plant
  g = plant_of n xs ys zs

  abbrev node : ℕ → ℕ
  node v = get_or owner v 0

  abbrev walls : ℕ → ℕ
  walls x = get_or wall x 0

  few : m ≤ 1024
  few = omega (arith, joined.few, accepted.most_lines)

  -- the lists of the network are the fronts of the lists that were filled
  front : (whole : List ℕ) {part : List ℕ} → part ≡ take m whole → (l : ℕ) → l < m → get_or part l 0 ≡ get_or whole l 0
  front whole e l b = ap (λ (t : List ℕ). get_or t l 0) e ∙ get_or-take m whole l 0 b

  sound : Sound g
  sound = accepted-sound n xs ys zs accepted

  cut-lines : (N : Devices) → out (lines_of lows ups wids) N ≡ q * inner_cut node walls g.lines N
  unfolding plant_of
  cut-lines N =
      out-sum lows ups wids N (low-is.1 ∙ sym up-is.1) (up-is.1 ∙ sym wid-is.1)
      ∙ ap (λ (k : ℕ). sum k (λ l. crossing (get_or wids l 0) (N (get_or lows l 0)) (N (get_or ups l 0)))) low-is.1
      ∙ sum-agree m _ _ (λ l b. rw (front widths wid-is.0 l b, front lower low-is.0 l b, front upper up-is.0 l b))
      ∙ joined.cut N
      ∙ ap (λ (k : ℕ). q * k) (sym (inner-sum node walls xs ys zs N accepted.one_length accepted.one_length'))

  stands : Stands g p q node walls (lines_of lows ups wids) (λ v. get_or drains v 0)
  stands = record { numbered = between.finer_is.device; cut = cut-lines; drain = drained.drain }

  network : Network n lows ups wids drains
  unfolding plant_of
  network = record {
    few = accepted.most_devices;
    lines = rw low-is.1 few;
    even = low-is.1 ∙ sym up-is.1;
    even' = low-is.1 ∙ sym wid-is.1;
    line = λ l b. let c : l < m = rw low-is.1 at b in record {
      rising = rw (front lower low-is.0 l c, front upper up-is.0 l c) (joined.rising l c);
      ends = rw (front upper up-is.0 l c) (joined.ends l c);
      width = rw (front widths wid-is.0 l c) (omega (arith, joined.width l c, accepted.most_lines));
    };
    drains = rw wide accepted.most_devices;
    drain = λ v b. omega (arith, drained.most v b);
  }

  -- the nodes' least sets have the devices of the communities
  u : 1 ≤ q
  u = (range-in p q ok).q_least

  one-group : (v w : ℕ) → v < g.devices → w < g.devices → node v ≡ node w → group_of g between.high_p between.high_q v w ≡ true
  one-group v w bv bw e =
      sym (between.finer_is.group v bv w bw)
      ∙ ap (λ (d : ℕ). community g between.high_p between.high_q d w) e
      ∙ between.finer_is.group w bw w bw
      ∙ group-holds g between.high_p between.high_q (family g between.high_p between.high_q sound between.some_high_p) w bw

  least-devices : (r : ℕ) (N : Devices) → r < g.devices → node r ≡ r
      → IsLeast (lines_of lows ups wids) (λ v. get_or drains v 0) g.devices r N
      → Agree g.devices (λ v. N (node v)) (community g p q r)
  least-devices r N br own t =
      stands-between sound stands between.high_p between.high_q r between.some_high_p u between.not_above br own
      (λ v b. ap (λ (d : ℕ). community g between.high_p between.high_q d v) (sym own) ∙ between.finer_is.group r br v b)
      one-group between.finer_is.self N inside t
    where
      inside : Inside g.devices (community g p q r) (λ v. eqb (walls (node v)) (walls r))
      inside v b h =
          eq-eqb _ _
          (sym (between-walled g p q sound u owner wall between (node v) v (between.finer_is.device v b) b (between-covers g p q sound u owner wall between v b))
          ∙ between-walled g p q sound u owner wall between r v br b h)

  module _ {wanted old held : List ℕ} {r : Bool} (nodes : (length wanted ≡ 128) × (length old ≡ 128)) (marks : (v : ℕ) → v < n → wanted_in wanted v ≡ owns_itself owner v) (are : OwnersAre n lows ups wids drains wanted old r held) where
    found : OwnersOf n lows ups wids drains wanted old held
    found = go r refl
      where
        go : (b : Bool) → r ≡ b → OwnersOf n lows ups wids drains wanted old held
        go true e = are.found e
        go false e = absurd ((are.refused e).0 (record { network = network; wanted = rw nodes.0 accepted.most_devices; owner = rw nodes.1 accepted.most_devices }))

    own-wanted : (k : ℕ) → k < n → wanted_in wanted k ≡ true → node k ≡ k
    unfolding owns_itself
    own-wanted k b w = eqb-true (node k) k (sym (marks k b) ∙ w)

    held_at : (v : ℕ) → v < n → get_or held (node v) 0 ≡ sweep (community g p q) (wanted_in wanted) n n v
    unfolding plant_of
    held_at v b =
        ap (λ (t : List ℕ). get_or t (node v) 0) found.filled
        ∙ over-front n _ old (node v) (between.finer_is.device v b)
        ∙ sweep-nodes n node found.sets (community g p q) (wanted_in wanted) n own-wanted
        (λ k c s i d. least-devices k (found.sets k) c (own-wanted k c s.chosen) (found.least k c s) i d)
        n v (le_refl n) b

    pub between-swept : (owner' : List ℕ) → ((v : ℕ) → v < n → get_or owner' v 0 ≡ get_or held (get_or owner v 0) 0) → Swept (plant_of n xs ys zs) p q owner'
    unfolding plant_of owns_itself
    between-swept owner' pulled = record {
      wanted = wanted_in wanted;
      covers = λ d b. (node d, between.finer_is.device d b, marks (node d) (between.finer_is.device d b) ∙ eq-eqb _ _ (between.finer_is.self d b), between-covers g p q sound u owner wall between d b);
      owns = λ v b. pulled v b ∙ held_at v b;
    }
