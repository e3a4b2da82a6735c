-- The plant as a network, and sets that are given by marks.
--     widened-out, plain-cost    a set costs in the network what it costs in the plant
--     plain-is, plain-owners     the network is taken, and the owners that it answers are those of the communities
--     marks-..                   size and out of a set that is given by marks
--     all_wanted, only-wanted    the lists of ones, and of one 1
-- Assumes nothing.
use Prim.Native.Nat.{ℕ, zero, suc, ◌*◌, ◌≤◌, ◌<◌}
use mathlib.Core.Path.{◌≡◌, refl, sym, ap, ◌∙◌}
use mathlib.Core.Bool.{Bool, true, false, not, cond}
use mathlib.Core.List.{List}
use native.Mathlib.Nat.{le_refl, mul-zero, mul-le-mul}
use native.Mathlib.Decide.{ℕ_discrete}
use native.Mathlib.Omega.{arith}
use lib.Dec.{eqb}
use lib.ListN.{length, get_or, set, take, replicate, get_or-replicate, length-replicate}
use lib.Seq.{get_or-set_same, get_or-set_other, get_or-take, length-take-le}
use borrow.Author.Tests.{eq-eqb, ne_eqb}
use Rattle.rules.specs.Plant.{Plant, lines_of, plant_of}
use Rattle.rules.specs.Accepted.{Accepted}
use Rattle.rules.specs.Cut.{Devices, crossing, out, size_below, size, cost}
use Rattle.rules.specs.Community.{community}
use Rattle.rules.specs.Groups.{table}
use Rattle.rules.specs.Lists.{over}
use Rattle.rules.specs.Numbers.{sum}
use Rattle.rules.specs.Sweep.{sweep, wanted_in}
use Rattle.rules.specs.Network.{drained, net_cost}
use Rattle.rules.specs.Rates.{rate_ok}
use Rattle.rules.proofs.RangeLaws.{InRange, range-in}
use Rattle.rules.proofs.RefusalLaws.{accepted-sound}
use Rattle.rules.proofs.FillLaws.{over_agree, over-front, over-size}
use Rattle.rules.proofs.SumLaws.{sum-agree, sum-scale, size-one, out-sum, size-sum}
use Rattle.rules.proofs.NetworkLaws.{drained-agree, drained-scale, least-community}
use Rattle.rules.proofs.SweepLaws.{sweep-sought}
use Rattle.network.specs.Calls.{Network, OwnersOf, OwnersAre}

-- q times the signals of a line that crosses, or of none
crossing-wide : (q s : ℕ) (a b : Bool) → crossing (q * s) a b ≡ q * crossing s a b
unfolding crossing
crossing-wide q s true true = sym (mul-zero q)
crossing-wide q s true false = refl
crossing-wide q s false true = refl
crossing-wide q s false false = sym (mul-zero q)

-- each device's drain, by its size
sizes-drained : (g : Plant) (k : ℕ) (S : Devices) → drained (λ v. 1) k S ≡ size_below g k S
unfolding drained size_below
sizes-drained g zero S = refl
sizes-drained g (suc k) S = rw (sizes-drained g k S, size-one g k)

-- ws are the widths of the lines, and ds the drains of the devices
pub record Plain (n : ℕ) (xs ys zs : List ℕ) (p q : ℕ) (ws ds : List ℕ) : Type 0 where
  pub accepted : Accepted n xs ys zs
  pub range : InRange p q
  pub width : (l : ℕ) → l < length xs → get_or ws l 0 ≡ q * get_or zs l 0
  pub widths : length ws ≡ length zs
  pub drain : (v : ℕ) → v < n → get_or ds v 0 ≡ p
  pub drains : n ≤ length ds

-- the widths as the program fills them, and a list of p
pub plain-is : (n : ℕ) (xs ys zs : List ℕ) (p q : ℕ) → Accepted n xs ys zs → rate_ok p q ≡ true → (widths old : List ℕ) → length old ≡ 1024
    → widths ≡ over (table (length zs) (λ l. q * get_or zs l 0)) old → Plain n xs ys zs p q (take (length zs) widths) (replicate 128 p)
plain-is n xs ys zs p q a ok widths old long e = record {
  accepted = a;
  range = range-in p q ok;
  width = λ l b. let c : l < length zs = omega (arith, a.one_length, a.one_length') in
      get_or-take (length zs) widths l 0 c ∙ ap (λ (t : List ℕ). get_or t l 0) e ∙ over-front (length zs) (λ i. q * get_or zs i 0) old l c;
  widths = length-take-le (length zs) widths (omega (arith, ap length e, over-size (length zs) (λ l. q * get_or zs l 0) old few));
  drain = λ v b. get_or-replicate {A = ℕ} 128 v p 0 (omega (arith, a.most_devices));
  drains = rw (length-replicate {A = ℕ} 128 p) a.most_devices;
}
  where
    few : length zs ≤ length old
    few = omega (arith, a.one_length, a.one_length', a.most_lines)

module _ {n : ℕ} {xs ys zs : List ℕ} {p q : ℕ} {ws ds : List ℕ} (plain : Plain n xs ys zs p q ws ds) where
  abbrev g : Plant
  g = plant_of n xs ys zs

  widened-out : (S : Devices) → out (lines_of xs ys ws) S ≡ q * out (lines_of xs ys zs) S
  widened-out S =
      out-sum xs ys ws S plain.accepted.one_length (plain.accepted.one_length' ∙ sym plain.widths)
      ∙ sum-agree (length xs) _ _ (λ l b. ap (λ (w : ℕ). crossing w (S (get_or xs l 0)) (S (get_or ys l 0))) (plain.width l b) ∙ crossing-wide q (get_or zs l 0) (S (get_or xs l 0)) (S (get_or ys l 0)))
      ∙ sum-scale (length xs) q _
      ∙ ap (λ (m : ℕ). q * m) (sym (out-sum xs ys zs S plain.accepted.one_length plain.accepted.one_length'))

  drains-sized : (S : Devices) → drained (λ v. get_or ds v 0) n S ≡ p * size g S
  unfolding size plant_of
  drains-sized S =
      drained-agree (λ v. get_or ds v 0) (λ v. p * 1) n S (λ v b e. plain.drain v b ∙ omega arith)
      ∙ drained-scale p (λ v. 1) n S
      ∙ ap (λ (m : ℕ). p * m) (sizes-drained g n S)

  plain-cost : (S : Devices) → net_cost (lines_of xs ys ws) (λ v. get_or ds v 0) n S ≡ cost (plant_of n xs ys zs) p q S
  unfolding net_cost cost plant_of
  plain-cost S = omega (arith, widened-out S, drains-sized S)

  plain-network : Network n xs ys ws ds
  plain-network = record {
    few = plain.accepted.most_devices;
    lines = plain.accepted.most_lines;
    even = plain.accepted.one_length;
    even' = plain.accepted.one_length ∙ plain.accepted.one_length' ∙ sym plain.widths;
    line = λ l b. record {
      rising = plain.accepted.first_below_second l b;
      ends = plain.accepted.second_device l b;
      width = omega (arith, plain.width l b, mul-le-mul plain.range.q_most (plain.accepted.most_signals l b));
    };
    drains = plain.drains;
    drain = λ v b. omega (arith, plain.drain v b, plain.range.p_most);
  }

  module _ {wanted owner owner' : List ℕ} (wants : n ≤ length wanted) (room : n ≤ length owner) where
    -- the sets of the network are the communities
    filled : OwnersOf n xs ys ws ds wanted owner owner' → owner' ≡ over (table n (sweep (community (plant_of n xs ys zs) p q) (wanted_in wanted) n n)) owner
    unfolding plant_of
    filled found =
        found.filled
        ∙ over_agree n _ _ owner
        (λ v h. sweep-sought n found.sets (community g p q) (wanted_in wanted) (wanted_in wanted) n
        (λ k b s. least-community g p q (accepted-sound n xs ys zs plain.accepted) b plain-cost (found.least k b s)) (λ k b. refl) n v (le_refl n) h)

    pub plain-owners : {r : Bool} → OwnersAre n xs ys ws ds wanted owner r owner' → owner' ≡ over (table n (sweep (community (plant_of n xs ys zs) p q) (wanted_in wanted) n n)) owner
    plain-owners {r} are = go r refl
      where
        go : (b : Bool) → r ≡ b → owner' ≡ over (table n (sweep (community (plant_of n xs ys zs) p q) (wanted_in wanted) n n)) owner
        go true e = filled (are.found e)
        go false e = absurd ((are.refused e).0 (record { network = plain-network; wanted = wants; owner = room }))

-- marks that say which devices are in C
line-marks : (z : ℕ) (a b : Bool) → crossing z a b ≡ cond (eqb (cond a 1 0) (cond b 1 0)) 0 z
unfolding crossing
line-marks z true true = refl
line-marks z true false = refl
line-marks z false true = refl
line-marks z false false = refl

module _ (n : ℕ) (xs ys zs : List ℕ) (marks : List ℕ) (C : Devices) (is : (v : ℕ) → v < n → get_or marks v 0 ≡ cond (C v) 1 0) where
  pub marks-size : sum n (λ v. get_or marks v 0) ≡ size (plant_of n xs ys zs) C
  marks-size = sum-agree n _ _ (λ v b. is v b ∙ (rw size-one)) ∙ sym (size-sum n xs ys zs C)

  pub marks-out : length xs ≡ length ys → length ys ≡ length zs
      → ((l : ℕ) → l < length xs → get_or xs l 0 < n) → ((l : ℕ) → l < length xs → get_or ys l 0 < n)
      → out (plant_of n xs ys zs).lines C ≡ sum (length xs) (λ l. cond (eqb (get_or marks (get_or xs l 0) 0) (get_or marks (get_or ys l 0) 0)) 0 (get_or zs l 0))
  unfolding plant_of
  marks-out e e' first second =
      out-sum xs ys zs C e e'
      ∙ sum-agree (length xs) _ _ (λ l b. rw (is (get_or xs l 0) (first l b), is (get_or ys l 0) (second l b)) (line-marks (get_or zs l 0) (C (get_or xs l 0)) (C (get_or ys l 0))))

-- every device is wanted
pub all_wanted : (v : ℕ) → v < 128 → wanted_in (replicate 128 1) v ≡ true
unfolding wanted_in
all_wanted v h = rw (get_or-replicate {A = ℕ} 128 v 1 0 h)

-- device d alone is wanted
pub only-wanted : (d v : ℕ) → d < 128 → v < 128 → wanted_in (set (replicate 128 0) d 1) v ≡ eqb v d
unfolding wanted_in
only-wanted d v b h = go (ℕ_discrete v d)
  where
    go : Dec (v ≡ d) → not (eqb (get_or (set (replicate {A = ℕ} 128 0) d 1) v 0) 0) ≡ eqb v d
    go (yes e) = rw (e, get_or-set_same {A = ℕ} (replicate 128 0) d 1 0 (omega (arith, length-replicate {A = ℕ} 128 0)), eq-eqb d d refl)
    go (no ne) = rw (get_or-set_other {A = ℕ} (replicate 128 0) d v 1 0 ne, get_or-replicate {A = ℕ} 128 v 0 0 h, ne_eqb v d ne)
