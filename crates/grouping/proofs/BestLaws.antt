-- The greatest crossing rate of each coarser group and the least of these, one device after the other: a device changes nothing, or its
-- rate takes the place of the one that was best so far. Assumes nothing.
use Prim.Native.Nat.{ℕ, ◌+◌, ◌-◌, ◌*◌, ◌≤◌, ◌<◌}
use mathlib.Core.Path.{◌≡◌, refl, sym}
use mathlib.Core.List.{List}
use mathlib.Core.Logic.{inl, inr, ⊎_elim}
use native.Mathlib.Nat.{mul-le-mul, le_trans}
use native.Mathlib.Decide.{ℕ_discrete}
use native.Mathlib.Omega.{arith}
use lib.ListN.{length, get_or, set, replicate, length-set, length-replicate, get_or-replicate}
use lib.Seq.{get_or-set_same, get_or-set_other}
use borrow.Author.Count.{below_more}
use Rattle.rules.specs.Plant.{Plant, plant_of}
use Rattle.rules.specs.Cut.{size, out}
use Rattle.rules.specs.Accepted.{Accepted}
use Rattle.rules.proofs.Sums.{size-most}
use Rattle.rules.proofs.PlantLaws.{out-most}
use Rattle.rules.proofs.OrderLaws.{at-most-trans}
use Rattle.cut.specs.declared.rate.Rate.{Rate}
use Rattle.grouping.specs.Stretch.{sharing, LabelsBelow, SizesOf, OutsOf, ExtentsOf, rate_at, Grows, cross_p, cross_q, Greatest, LeastOf}

-- an entry of a table is that of the group of device v
pub table-size : (g : Plant) (labels sizes : List ℕ) (v : ℕ) → SizesOf g labels sizes → get_or labels v 0 < g.devices → get_or sizes (get_or labels v 0) 0 ≡ size g (sharing labels v)
unfolding sharing
table-size g labels sizes v all h = all (get_or labels v 0) h

pub table-out : (g : Plant) (labels outs : List ℕ) (v : ℕ) → OutsOf g labels outs → get_or labels v 0 < g.devices → get_or outs (get_or labels v 0) 0 ≡ out g.lines (sharing labels v)
unfolding sharing
table-out g labels outs v all h = all (get_or labels v 0) h

-- a product of two numbers of rates is small
pub product_small : (p q : ℕ) → p ≤ 67107840 → q ≤ 128 → p * q ≤ 8589803520
product_small p q a b = mul-le-mul a b

-- of an accepted plant the numerator of a crossing rate is at most all signals
pub rate-most : (n : ℕ) (xs ys zs : List ℕ) → Accepted n xs ys zs → (finer coarser : List ℕ) (v : ℕ) → cross_p (plant_of n xs ys zs) finer coarser v ≤ 67107840
unfolding cross_p
rate-most n xs ys zs a finer coarser v = omega (arith, out-most n xs ys zs a (sharing finer v))

module _ (g : Plant) (finer coarser : List ℕ) where
  abbrev P : ℕ → ℕ
  P = cross_p g finer coarser

  abbrev Q : ℕ → ℕ
  Q = cross_q g finer coarser

  -- the rate of a group that grows has a positive denominator, at most n
  pub rate-some : (v : ℕ) → Grows g finer coarser v → 1 ≤ Q v
  unfolding cross_q
  rate-some v grows = omega arith

  pub rate-few : (v : ℕ) → Q v ≤ g.devices
  unfolding cross_q
  rate-few v = omega (arith, size-most g (sharing coarser v))

  module _ (h v p q : ℕ) (now : Greatest g finer coarser h v p q) where
    pub greatest-kept : (get_or coarser v 0 ≡ h → Grows g finer coarser v → P v * q ≤ p * Q v) → Greatest g finer coarser h (v + 1) p q
    greatest-kept at_most = record {
      some = now.some;
      few = now.few;
      most = now.most;
      top = below_more (λ u. get_or coarser u 0 ≡ h → Grows g finer coarser u → P u * q ≤ p * Q u) v now.top at_most;
      got = ⊎_elim inl (λ w. inr (w.0, omega (arith, w.1), w.2, w.3, w.4, w.5)) now.got;
    }

    pub greatest-taken : P v ≤ 67107840 → get_or coarser v 0 ≡ h → Grows g finer coarser v → p * Q v < P v * q → Greatest g finer coarser h (v + 1) (P v) (Q v)
    greatest-taken bound e grows above = record {
      some = rate-some v grows;
      few = rate-few v;
      most = bound;
      top = below_more (λ u. get_or coarser u 0 ≡ h → Grows g finer coarser u → P u * Q v ≤ P v * Q u) v
          (λ u l e' grows'. at-most-trans (P u) (Q u) p q (P v) (Q v) now.some (now.top u l e' grows') (omega arith))
          (λ e' grows'. omega arith);
      got = inr (v, omega arith, e, grows, refl, refl);
    }

  -- for each label the greatest rate of the devices below v
  pub record Bests (rates : List Rate) (v : ℕ) : Type 0 where
    pub wide : length rates ≡ 128
    pub each : (h : ℕ) → h < g.devices → Greatest g finer coarser h v (rate_at rates h).p (rate_at rates h).q

  pub bests-start : 1 ≤ g.devices → g.devices ≤ 128 → Bests (replicate 128 (record { p = 0; q = 1 })) 0
  bests-start some most = record {
    wide = length-replicate {A = Rate} 128 (record { p = 0; q = 1 });
    each = λ h l. rw (get_or-replicate {A = Rate} 128 h (record { p = 0; q = 1 }) (record { p = 0; q = 0 }) (omega arith)) (record {
      some = omega arith;
      few = some;
      most = omega arith;
      top = λ v b. absurd (omega arith);
      got = inl refl;
    });
  }

  module _ (rates : List Rate) (v : ℕ) (now : Bests rates v) where
    abbrev h : ℕ
    h = get_or coarser v 0

    -- the group of device v does not grow, or its rate is not above the greatest so far
    pub bests-kept : (Grows g finer coarser v → P v * (rate_at rates h).q ≤ (rate_at rates h).p * Q v) → {rates' : List Rate} → rates' ≡ rates → Bests rates' (v + 1)
    bests-kept at_most a = rw a (record {
      wide = now.wide;
      each = λ k l. greatest-kept k v (rate_at rates k).p (rate_at rates k).q (now.each k l) (λ e. rw e at at_most);
    })

    -- it takes the place of the greatest so far
    pub bests-taken : P v ≤ 67107840 → h < g.devices → g.devices ≤ 128 → Grows g finer coarser v
        → {r : Rate} → (r.p ≡ P v) × (r.q ≡ Q v) → (rate_at rates h).p * r.q < r.p * (rate_at rates h).q → {rates' : List Rate} → rates' ≡ set rates h r → Bests rates' (v + 1)
    bests-taken bound device most grows {r} e above a = rw a (record {
      wide = rw length-set now.wide;
      each = λ k l. known k l (ℕ_discrete k h);
    })
      where
        taken : Greatest g finer coarser h (v + 1) r.p r.q
        taken = rw (e.0, e.1) (greatest-taken h v (rate_at rates h).p (rate_at rates h).q (now.each h device) bound refl grows (rw (e.0, e.1) at above))

        known : (k : ℕ) → k < g.devices → Dec (k ≡ h) → Greatest g finer coarser k (v + 1) (rate_at (set rates h r) k).p (rate_at (set rates h r) k).q
        known k l (yes same) = rw (same, get_or-set_same rates h r (record { p = 0; q = 0 }) (omega (arith, now.wide))) taken
        known k l (no ne) = rw (get_or-set_other rates h k r (record { p = 0; q = 0 }) ne)
            (greatest-kept k v (rate_at rates k).p (rate_at rates k).q (now.each k l) (λ e. absurd (ne (sym e))))

  -- the greatest rates of the coarser groups
  module _ (rates : List Rate) (greatest : (h : ℕ) → h < g.devices → Greatest g finer coarser h g.devices (rate_at rates h).p (rate_at rates h).q) (labels : LabelsBelow g.devices coarser) where
    abbrev Pᵍ : ℕ → ℕ
    Pᵍ v = (rate_at rates (get_or coarser v 0)).p

    abbrev Qᵍ : ℕ → ℕ
    Qᵍ v = (rate_at rates (get_or coarser v 0)).q

    module _ (v : ℕ) (least : Rate) (within : v < g.devices) (now : LeastOf g finer coarser rates v least.p least.q) where
      abbrev p : ℕ
      p = least.p

      abbrev q : ℕ
      q = least.q

      pub least-small : (p ≤ 67107840) × (q ≤ g.devices)
      least-small =
          ⊎_elim
          (λ w. (omega (arith, w.0), omega (arith, w.1)))
          (λ w. let best = greatest (get_or coarser w.0 0) (labels w.0 (omega (arith, w.1))) in (omega (arith, w.3, best.most), omega (arith, w.4, best.few)))
          now.got

      -- the group of device v does not grow, or its rate is not below the least so far
      pub least_kept : (Grows g finer coarser v → p * Qᵍ v ≤ Pᵍ v * q) → {least' : Rate} → least' ≡ least → LeastOf g finer coarser rates (v + 1) least'.p least'.q
      least_kept at_most a = rw a (record {
        bottom = below_more (λ u. Grows g finer coarser u → p * Qᵍ u ≤ Pᵍ u * q) v now.bottom at_most;
        got =
            ⊎_elim
            (λ w. inl (w.0, w.1, below_more (λ u. Grows g finer coarser u → ⊥) v w.2 (λ e. none w.0 w.1 e)))
            (λ w. inr (w.0, omega (arith, w.1), w.2, w.3, w.4))
            now.got;
      })
        where
          none : p ≡ 1 → q ≡ 0 → Grows g finer coarser v → ⊥
          none one zero e = omega (arith, rw (one, zero) at (at_most e), (greatest (get_or coarser v 0) (labels v within)).some)

      -- it takes the place of the least so far
      pub least-taken : Grows g finer coarser v → Pᵍ v * q < p * Qᵍ v → {least' : Rate} → least' ≡ rate_at rates (get_or coarser v 0) → LeastOf g finer coarser rates (v + 1) least'.p least'.q
      least-taken grows under a = rw a (record {
        bottom = below_more (λ u. Grows g finer coarser u → Pᵍ v * Qᵍ u ≤ Pᵍ u * Qᵍ v) v earlier (λ e. omega arith);
        got = inr (v, omega arith, grows, refl, refl);
      })
        where
          earlier : (u : ℕ) → u < v → Grows g finer coarser u → Pᵍ v * Qᵍ u ≤ Pᵍ u * Qᵍ v
          earlier u l e =
              ⊎_elim
              (λ w. absurd (w.2 u l e))
              (λ w. at-most-trans (Pᵍ v) (Qᵍ v) p q (Pᵍ u) (Qᵍ u) (omega (arith, w.4, (greatest (get_or coarser w.0 0) (labels w.0 (omega (arith, w.1)))).some)) (omega arith) (now.bottom u l e))
              now.got

  -- after all devices
  pub bests-all : {rates : List Rate} {v : ℕ} → v ≡ g.devices → Bests rates v → (h : ℕ) → h < g.devices → Greatest g finer coarser h g.devices (rate_at rates h).p (rate_at rates h).q
  bests-all e now = rw e at now.each

-- what a turn of either loop knows of device v: the sizes and outs of its two groups, by the lists with an entry for each label
module _ (n : ℕ) (xs ys zs : List ℕ) (a : Accepted n xs ys zs) (finer coarser : List ℕ) where
  abbrev g' : Plant
  g' = plant_of n xs ys zs

  module _ {fine-sizes fine-outs coarse-sizes coarse-outs : List ℕ} (fine : ExtentsOf (plant_of n xs ys zs) finer fine-sizes fine-outs)
      (coarse : ExtentsOf (plant_of n xs ys zs) coarser coarse-sizes coarse-outs) (v : ℕ) (bf : get_or finer v 0 < n) (bc : get_or coarser v 0 < n) where
    pub turn-sizes : (get_or fine-sizes (get_or finer v 0) 0 ≡ size (plant_of n xs ys zs) (sharing finer v))
        × (get_or coarse-sizes (get_or coarser v 0) 0 ≡ size (plant_of n xs ys zs) (sharing coarser v))
    unfolding plant_of
    turn-sizes = (table-size g' finer fine-sizes v fine.size_is bf, table-size g' coarser coarse-sizes v coarse.size_is bc)

    turn-outs : (get_or fine-outs (get_or finer v 0) 0 ≡ out g'.lines (sharing finer v)) × (get_or coarse-outs (get_or coarser v 0) 0 ≡ out g'.lines (sharing coarser v))
    unfolding plant_of
    turn-outs = (table-out g' finer fine-outs v fine.out_is bf, table-out g' coarser coarse-outs v coarse.out_is bc)

    -- the crossing rate of device v
    pub turn-rate : {r : Rate}
        → (r.p ≡ get_or fine-outs (get_or finer v 0) 0 - get_or coarse-outs (get_or coarser v 0) 0) × (r.q ≡ get_or coarse-sizes (get_or coarser v 0) 0 - get_or fine-sizes (get_or finer v 0) 0)
        → (r.p ≡ cross_p (plant_of n xs ys zs) finer coarser v) × (r.q ≡ cross_q (plant_of n xs ys zs) finer coarser v)
    unfolding cross_p cross_q
    turn-rate e = (omega (arith, turn-outs, e.0), omega (arith, turn-sizes, e.1))

  -- its products with the greatest so far are small
  pub turn-products : (rates : List Rate) (k v : ℕ) → Bests (plant_of n xs ys zs) finer coarser rates k → get_or coarser v 0 < n
      → {r : Rate} → (r.p ≡ cross_p (plant_of n xs ys zs) finer coarser v) × (r.q ≡ cross_q (plant_of n xs ys zs) finer coarser v)
      → ((rate_at rates (get_or coarser v 0)).p * r.q ≤ 8589803520) × (r.p * (rate_at rates (get_or coarser v 0)).q ≤ 8589803520)
  unfolding plant_of
  turn-products rates k v now b e =
      let best = now.each (get_or coarser v 0) b in (
        product_small _ _ best.most (omega (arith, e, rate-few g' finer coarser v, a.most_devices)),
        product_small _ _ (omega (arith, e, rate-most n xs ys zs a finer coarser v)) (le_trans best.few a.most_devices),
      )

  -- and so are those of the least so far with a greatest one
  pub least-products : (rates : List Rate) (v : ℕ) (least : Rate) → ((h : ℕ) → h < n → Greatest (plant_of n xs ys zs) finer coarser h n (rate_at rates h).p (rate_at rates h).q)
      → LabelsBelow n coarser → v < n → LeastOf (plant_of n xs ys zs) finer coarser rates v least.p least.q
      → ((rate_at rates (get_or coarser v 0)).p * least.q ≤ 8589803520) × (least.p * (rate_at rates (get_or coarser v 0)).q ≤ 8589803520)
  unfolding plant_of
  least-products rates v least top below h now =
      let best = top (get_or coarser v 0) (below v h) in
      let small = least-small g' finer coarser rates top below v least h now in (
        product_small _ _ best.most (le_trans small.1 a.most_devices),
        product_small _ _ small.0 (le_trans best.few a.most_devices),
      )
