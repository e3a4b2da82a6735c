-- The crossing rate between two known levels, from the greatest rate of each coarser label and the least of these.
--     sharing-group, labels-below    by the labels of a grouping: the devices with one label are a group, and labels are devices
--     some-grows, crossing-groups    of two levels that differ: the group of some device grows; a crossing is one of their groups
--     crossing-found                 the least of the greatest rates is a crossing
--     crossing-accepted              and in range
--     crossing-rate                  reduced, it is the crossing rate in lowest terms
-- Assumes nothing.
use Prim.Native.Nat.{ℕ, ◌-◌, ◌*◌, ◌≤◌, ◌<◌}
use mathlib.Core.Path.{◌≡◌, refl, sym, ap, ◌∙◌}
use mathlib.Core.Bool.{true}
use mathlib.Core.List.{List}
use mathlib.Core.Logic.{◌↔◌, ⊎_elim}
use native.Mathlib.Nat.{mul_comm, eq-zero-or-pos, le_of_mul-le-mul_right, mul-le-mul_left, dvd-zero}
use native.Mathlib.Omega.{arith}
use lib.ListN.{get_or}
use borrow.Author.Tests.{eqb-true, eq-eqb}
use Rattle.rules.specs.Plant.{Plant, plant_of}
use Rattle.rules.specs.Accepted.{Sound, Accepted}
use Rattle.rules.specs.Cut.{size, out}
use Rattle.rules.specs.Sets.{Agree}
use Rattle.rules.specs.Groups.{group_of, label}
use Rattle.rules.specs.Rates.{rate_ok, Same, Lowest}
use Rattle.rules.specs.Stretch.{Crossing}
use Rattle.rules.proofs.SetLaws.{same_bool}
use Rattle.rules.proofs.Sums.{agree-size, inside-equal, size_holds, size-most}
use Rattle.rules.proofs.LabelLaws.{label-below, label_same}
use Rattle.rules.proofs.LevelLaws.{agree-groups}
use Rattle.rules.proofs.Instance.{family, group-within}
use Rattle.rules.proofs.CrossingLaws.{not_below, crossing-agree, crossing-reduced, crossing-positive}
use Rattle.rules.proofs.LowestLaws.{lowest-least}
use Rattle.rules.proofs.RangeLaws.{in-range}
use Rattle.rules.proofs.RefusalLaws.{accepted-sound}
use Rattle.std.specs.Prelude.{Result, Ok, Err, IsOk}
use Rattle.rules.specs.declared.Fault.{Fault}
use Rattle.rules.proofs.FaultLaws.{fault-some}
use Rattle.cut.specs.RateCalls.{Reduced, Reduction, reduce_told}
use Rattle.cut.specs.declared.rate.Rate.{Rate}
use Rattle.grouping.specs.Level.{Labelled}
use Rattle.grouping.specs.Stretch.{with_label, sharing, LabelsBelow, rate_at, Grows, cross_p, cross_q, Greatest, LeastOf, CrossingRate, Apart}

-- the devices with the label of u: those whose label is that of u
shared : (labels : List ℕ) (u v : ℕ) → sharing labels u v ≡ true → get_or labels v 0 ≡ get_or labels u 0
unfolding sharing with_label
shared labels u v = eqb-true (get_or labels v 0) (get_or labels u 0)

sharing-true : (labels : List ℕ) (u v : ℕ) → get_or labels v 0 ≡ get_or labels u 0 → sharing labels u v ≡ true
unfolding sharing with_label
sharing-true labels u v = eq-eqb (get_or labels v 0) (get_or labels u 0)

sharing-same : (labels : List ℕ) (u v : ℕ) → get_or labels v 0 ≡ get_or labels u 0 → sharing labels v ≡ sharing labels u
unfolding sharing
sharing-same labels u v e = ap (with_label labels) e

-- with the labels of a grouping these are the group of u
module _ (g : Plant) (p q : ℕ) (labels : List ℕ) (s : Sound g) (o : 1 ≤ p) (is : Labelled g p q labels) where
  pub sharing-group : (u : ℕ) → u < g.devices → Agree g.devices (sharing labels u) (group_of g p q u)
  sharing-group u hu v hv =
      same_bool (sharing labels u v) (group_of g p q u v)
      (λ m. there.0 (sym (is u hu) ∙ sym (shared labels u v m) ∙ is v hv))
      (λ m. sharing-true labels u v (is v hv ∙ sym (there.1 m) ∙ sym (is u hu)))
    where
      there : (label g p q u ≡ label g p q v) ↔ (group_of g p q u v ≡ true)
      there = label_same g p q (family g p q s o) u v hu hv

  pub labels-below : LabelsBelow g.devices labels
  labels-below v h = rw (is v h) (label-below g p q (family g p q s o) v h)

-- two levels that differ
module _ (g : Plant) (ap aq bp bq : ℕ) (finer coarser : List ℕ) (s : Sound g) (a : Apart g ap aq bp bq finer coarser) where
  fine : (u : ℕ) → u < g.devices → Agree g.devices (sharing finer u) (group_of g ap aq u)
  fine = sharing-group g ap aq finer s a.some_ap a.finer_is

  coarse : (u : ℕ) → u < g.devices → Agree g.devices (sharing coarser u) (group_of g bp bq u)
  coarse = sharing-group g bp bq coarser s a.some_bp a.coarser_is

  -- if no device's group grew, each would have the same group in both
  pub some-grows : ((v : ℕ) → v < g.devices → Grows g finer coarser v → ⊥) → ⊥
  some-grows none =
      a.differ
      (agree-groups g ap aq bp bq
      (λ u h.
      inside-equal g (group_of g ap aq u) (group_of g bp bq u)
      (group-within g ap aq bp bq s a.some_ap a.some_bp a.some_bq (omega (arith, a.lower)) u h)
      (omega (
        arith,
        not_below (none u h),
        agree-size g (sharing finer u) (group_of g ap aq u) (fine u h),
        agree-size g (sharing coarser u) (group_of g bp bq u) (coarse u h),
      ))))

  -- a crossing of the two is one of their groups
  pub crossing-groups : {p q : ℕ} → Crossing g (sharing finer) (sharing coarser) p q → Crossing g (group_of g ap aq) (group_of g bp bq) p q
  crossing-groups = crossing-agree s fine coarse

  -- and positive
  found-positive : (p q : ℕ) → 1 ≤ q → Crossing g (sharing finer) (sharing coarser) p q → 1 ≤ p
  found-positive p q u x =
      crossing-positive g ap aq bp bq s a.some_ap a.some_bp a.some_bq (omega (arith, a.lower)) p q u (crossing-groups x)

greatest-at : {g : Plant} {finer coarser : List ℕ} {h k p q p' q' : ℕ} → p ≡ p' → q ≡ q' → Greatest g finer coarser h k p' q' → Greatest g finer coarser h k p q
greatest-at e f top = rw (e, f) top

-- the greatest rate of each coarser label, and the least of these
module _ (g : Plant) (finer coarser : List ℕ) (rates : List Rate) (p q : ℕ)
    (below : LabelsBelow g.devices coarser)
    (top : (h : ℕ) → h < g.devices → Greatest g finer coarser h g.devices (rate_at rates h).p (rate_at rates h).q)
    (least : LeastOf g finer coarser rates g.devices p q)
    (grows : ((v : ℕ) → v < g.devices → Grows g finer coarser v → ⊥) → ⊥) where
  abbrev n : ℕ
  n = g.devices

  abbrev head : ℕ → ℕ
  head v = get_or coarser v 0

  abbrev greatest : (v : ℕ) → v < n → Greatest g finer coarser (head v) n (rate_at rates (head v)).p (rate_at rates (head v)).q
  greatest v h = top (head v) (below v h)

  -- p/q is the greatest rate of the coarser group of `at`
  record Found : Type 0 where
    at : ℕ
    device : at < n
    grown : Grows g finer coarser at
    is_p : p ≡ (rate_at rates (head at)).p
    is_q : q ≡ (rate_at rates (head at)).q

  found : Found
  found =
      ⊎_elim
      (λ w. absurd (grows w.2))
      (λ w. record { at = w.0; device = w.1; grown = w.2; is_p = w.3; is_q = w.4 })
      least.got

  of_at : Greatest g finer coarser (head found.at) n p q
  of_at = greatest-at found.is_p found.is_q (greatest found.at found.device)

  -- of the coarser group of u one rate is not below p/q
  abbrev Held : ℕ → Type 0
  Held u =
      (v : ℕ) × (v < n) × (sharing coarser u v ≡ true) × (size g (sharing finer v) < size g (sharing coarser u))
      × (p * (size g (sharing coarser u) - size g (sharing finer v)) ≤ q * (out g.lines (sharing finer v) - out g.lines (sharing coarser u)))

  -- the greatest rate of label h is that of a device
  abbrev Attained : ℕ → Type 0
  Attained h =
      (v : ℕ) × (v < n) × (head v ≡ h) × Grows g finer coarser v × ((rate_at rates h).p ≡ cross_p g finer coarser v) × ((rate_at rates h).q ≡ cross_q g finer coarser v)

  pub crossing-found : Crossing g (sharing finer) (sharing coarser) p q
  unfolding cross_p cross_q
  crossing-found = record {
    at = found.at;
    device = found.device;
    grows = found.grown;
    above = λ v h m l.
        let e = shared coarser found.at v m in
        let same = sharing-same coarser found.at v e in
        rw (← same) (omega (arith, of_at.top v h e (rw same l), mul_comm q (cross_p g finer coarser v)));
    each = each;
  }
    where
      each : (u : ℕ) → u < n → Grows g finer coarser u → Held u
      each u h l = ⊎_elim none some (greatest u h).got
        where
          low : p * (rate_at rates (head u)).q ≤ (rate_at rates (head u)).p * q
          low = least.bottom u h l

          none : (rate_at rates (head u)).p ≡ 0 → Held u
          none z =
              let gone : p ≡ 0 = omega (arith, le_of_mul-le-mul_right {m = p} {n = 0} (omega (arith, rw z at low)) (greatest u h).some) in
              (u, h, sharing-true coarser u u refl, l, rw gone (omega arith))

          some : Attained (head u) → Held u
          some (v, hv, e, o, is_p, is_q) =
              let same = sharing-same coarser u v e in
              (v, hv, sharing-true coarser u v e, rw (← same) o, rw (← same) (omega (arith, rw (is_p, is_q) at low, mul_comm q (cross_p g finer coarser v))))

  found_some : 1 ≤ q
  found_some = of_at.some

  found-most : p ≤ 67107840
  found-most = of_at.most

  -- a rate that is not 0 is that of a device, whose group has at least one device less than the coarser one around it
  found-few : 1 ≤ p → q ≤ g.devices - 1
  unfolding cross_q
  found-few o = ⊎_elim (λ z. absurd (omega arith)) few of_at.got
    where
      few : (v : ℕ) × (v < n) × (head v ≡ head found.at) × Grows g finer coarser v × (p ≡ cross_p g finer coarser v) × (q ≡ cross_q g finer coarser v) → q ≤ g.devices - 1
      few (v, hv, e, l, is_p, is_q) =
          omega (
            arith,
            size_holds g (sharing finer v) v hv (sharing-true finer v v refl),
            size-most g (sharing coarser v),
          )

-- a form in lowest terms of a positive fraction: its denominator is positive, and its numerator no larger
module _ (p q r t : ℕ) (o : 1 ≤ p) (u : 1 ≤ q) (same : Same p q r t) (low : Lowest r t) where
  lowest-some-q : 1 ≤ t
  unfolding Lowest
  lowest-some-q = ⊎_elim none (λ l. l) (eq-zero-or-pos t)
    where
      none : t ≡ 0 → 1 ≤ t
      none z =
          let gone : r ≡ 0 = omega (arith, le_of_mul-le-mul_right {m = r} {n = 0} {k = q} (omega (arith, rw z at same)) u) in
          let two : ◌≡◌ {A = ℕ} 2 1 = low 2 (rw gone (dvd-zero 2)) (rw z (dvd-zero 2)) in
          absurd (omega arith)

  lowest-most-p : r ≤ p
  lowest-most-p = le_of_mul-le-mul_right {k = q} (omega (arith, same, mul-le-mul_left p (lowest-least p q r t u same low))) u

-- what the function needs and answers
module _ (n : ℕ) (xs ys zs finer coarser : List ℕ) (ap aq bp bq : ℕ) (ok : Accepted n xs ys zs) (a : Apart (plant_of n xs ys zs) ap aq bp bq finer coarser) where
  abbrev plant : Plant
  plant = plant_of n xs ys zs

  abbrev sound : Sound plant
  sound = accepted-sound n xs ys zs ok

  pub finer-below : LabelsBelow n finer
  unfolding plant_of
  finer-below = labels-below plant ap aq finer sound a.some_ap a.finer_is

  pub coarser-below : LabelsBelow n coarser
  unfolding plant_of
  coarser-below = labels-below plant bp bq coarser sound a.some_bp a.coarser_is

  abbrev grows : ((v : ℕ) → v < plant.devices → Grows plant finer coarser v → ⊥) → ⊥
  grows = some-grows plant ap aq bp bq finer coarser sound a

  module _ (rates : List Rate) (p q : ℕ) (top : (h : ℕ) → h < n → Greatest (plant_of n xs ys zs) finer coarser h n (rate_at rates h).p (rate_at rates h).q)
      (least : LeastOf (plant_of n xs ys zs) finer coarser rates n p q) where
    -- the least of the greatest rates is a crossing, and in range
    record Least : Type 0 where
      crossing : Crossing plant (sharing finer) (sharing coarser) p q
      some_p : 1 ≤ p
      some_q : 1 ≤ q
      most : p ≤ 67107840
      few : q ≤ n - 1

    least-is : Least
    unfolding plant_of
    least-is =
        let x = crossing-found plant finer coarser rates p q coarser-below top least grows in
        let u : 1 ≤ q = found_some plant finer coarser rates p q coarser-below top least grows in
        let o : 1 ≤ p = found-positive plant ap aq bp bq finer coarser sound a p q u x in
        record {
          crossing = x;
          some_p = o;
          some_q = u;
          most = found-most plant finer coarser rates p q coarser-below top least grows;
          few = found-few plant finer coarser rates p q coarser-below top least grows o;
        }

    pub crossing-accepted : rate_ok p q ≡ true
    crossing-accepted =
        let l = least-is in
        in-range (record { p_least = l.some_p; p_most = omega (arith, l.most); q_least = l.some_q; q_most = omega (arith, ok.most_devices, l.few) })

    pub crossing-rate : (r : Reduced) → Reduction p q r → CrossingRate (plant_of n xs ys zs) finer coarser r.p r.q
    unfolding plant_of
    crossing-rate r reduced =
        let l = least-is in
        let same = reduced.same crossing-accepted in
        let low = reduced.lowest crossing-accepted in
        let x' = crossing-reduced p q r.p r.q l.some_q same l.crossing in
        let u' = lowest-some-q p q r.p r.q l.some_p l.some_q same low in
        let less : r.q ≤ q = lowest-least p q r.p r.q l.some_q same low in
        let most : r.p ≤ 67107840 = omega (arith, l.most, lowest-most-p p q r.p r.q l.some_p l.some_q same low) in
        record {
          crossing = x';
          lowest = low;
          accepted = in-range (record {
            p_least = found-positive plant ap aq bp bq finer coarser sound a r.p r.q u' x';
            p_most = omega arith;
            q_least = u';
            q_most = omega (arith, ok.most_devices, l.few);
          });
          most = most;
          few = omega (arith, l.few);
        }

-- a reduction that is not refused has a rate
pub reduced-ok : (r : Result Rate Fault) → (reduce_told r).number ≡ 0 → IsOk r
reduced-ok (Ok x) e = refl
reduced-ok (Err f) e = absurd (fault-some f e)
