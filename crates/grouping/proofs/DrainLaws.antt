-- The drains of the nodes between two levels, added up in a list with a number for each node.
--     shared-..  the shares, p for each device
--     led-..     what is led out, q times the signals of each line between two walls for both its nodes
-- Assumes nothing.
use Prim.Native.Nat.{ℕ, ◌+◌, ◌*◌, ◌≤◌, ◌<◌}
use mathlib.Core.Path.{◌≡◌, refl, sym, ap, ◌∙◌}
use mathlib.Core.Bool.{Bool, true, false, cond}
use mathlib.Core.List.{List}
use native.Mathlib.Nat.{le_trans, zero-add, add-zero, mul-zero, mul-one, mul-add, mul-le-mul}
use native.Mathlib.Omega.{arith}
use mir.Syntax.{w64}
use mir.Val.{Fits}
use lib.Dec.{eqb}
use lib.ListN.{length, get_or, set, length-set}
use borrow.Author.Tests.{eq-eqb, ne_eqb}
use Rattle.rules.specs.Plant.{Plant, plant_of}
use Rattle.rules.specs.Cut.{size, size_at}
use Rattle.rules.specs.Numbers.{sum}
use Rattle.rules.specs.Accepted.{Accepted}
use Rattle.rules.proofs.SetLaws.{cond-most}
use Rattle.rules.proofs.Sums.{size-most}
use Rattle.rules.proofs.SumLaws.{sum-agree, sum-scale, below-sum}
use Rattle.rules.proofs.NodeNetwork.{outer-sum}
use Rattle.grouping.specs.Between.{NodesBelow, Shared, Drained}
use Rattle.grouping.proofs.GroupSums.{more, more-at, Tally, none, tally-from, tally-next, tally-most, LineFits, line-fits}

-- a multiple of what a test lets through
scaled : (c m : ℕ) (b : Bool) → cond b (c * m) 0 ≡ c * cond b m 0
scaled c m true = refl
scaled c m false = sym (mul-zero c)

-- what device v adds to the drain of node x
unfoldable pub share : ℕ → List ℕ → ℕ → ℕ → ℕ
share p node x v = cond (eqb (get_or node v 0) x) p 0

module _ (n p : ℕ) (node : List ℕ) {drains : List ℕ} {v : ℕ} (t : Tally n none (share p node) drains v) where
  pub shared-most : p ≤ 100000000 → (x : ℕ) → x < n → get_or drains x 0 ≤ v * 100000000
  unfolding share
  shared-most small x l = omega (arith, tally-most t 100000000 (λ y j b. le_trans (cond-most (eqb (get_or node j 0) y) p) small) x l)

  pub shared-next : get_or node v 0 < 128 → Tally n none (share p node) (set drains (get_or node v 0) (get_or drains (get_or node v 0) 0 + p)) (v + 1)
  unfolding share
  shared-next l = tally-next t (simp length-set) (λ x b. more-at drains (get_or node v 0) p x (omega (arith, t.wide)))

  pub shared-done : n ≤ v → v ≤ n → Shared n p node drains
  unfolding share size size_at
  shared-done a b g e x l =
      let same : v ≡ g.devices = omega arith in
      t.so_far x l
      ∙ zero-add _
      ∙ ap (λ (m : ℕ). sum m (share p node x)) same
      ∙ sum-agree g.devices (share p node x) (λ k. p * cond (eqb (get_or node k 0) x) 1 0)
      (λ k b. ap (λ (m : ℕ). cond (eqb (get_or node k 0) x) m 0) (sym (mul-one p)) ∙ scaled p 1 (eqb (get_or node k 0) x))
      ∙ sum-scale g.devices p (λ k. cond (eqb (get_or node k 0) x) 1 0)
      ∙ ap (λ (m : ℕ). p * m) (sym (below-sum g g.devices (λ k. eqb (get_or node k 0) x)))

-- the shares of the devices in node x
abbrev pub shares : Plant → ℕ → List ℕ → ℕ → ℕ
shares g p node x = p * size g (λ v. eqb (get_or node v 0) x)

-- what line l of the plant adds to the drain of node x
unfoldable pub led : ℕ → List ℕ → List ℕ → List ℕ → List ℕ → List ℕ → ℕ → ℕ → ℕ
led q xs ys zs node wall x l =
    q
    * cond (eqb (get_or wall (get_or node (get_or xs l 0) 0) 0) (get_or wall (get_or node (get_or ys l 0) 0) 0))
    0
    (cond (eqb (get_or node (get_or xs l 0) 0) x) (get_or zs l 0) 0 + cond (eqb (get_or node (get_or ys l 0) 0) x) (get_or zs l 0) 0)

-- a line adds at most its signals on each side
sides-most : (same : Bool) (s : ℕ) (a b : Bool) → cond same 0 (cond a s 0 + cond b s 0) ≤ s + s
sides-most true s a b = omega arith
sides-most false s a b = omega (arith, cond-most a s, cond-most b s)

pub width_most : (q s : ℕ) → q ≤ 1000 → s ≤ 65535 → q * s ≤ 65535000
width_most q s a b = mul-le-mul a b

-- the width of one more line still fits
pub led-sum : {x w l : ℕ} → x ≤ 12800000000 + l * 131070000 → l < 1024 → w ≤ 65535000 → Fits w64 (x + w)
led-sum a b c = omega arith

module _ (n p q : ℕ) (xs ys zs node wall : List ℕ) where
  -- the shares, and what the first l lines add to them
  abbrev pub Led : List ℕ → ℕ → Type 0
  Led drains l = Tally n (shares (plant_of n xs ys zs) p node) (led q xs ys zs node wall) drains l

  pub led-start : {drains : List ℕ} → length drains ≡ 128 → Shared n p node drains → Led drains 0
  unfolding plant_of
  led-start w s = tally-from n (shares (plant_of n xs ys zs) p node) (led q xs ys zs node wall) w (s (plant_of n xs ys zs) refl)

  module _ {drains : List ℕ} {l : ℕ} (t : Led drains l) where
    abbrev i : ℕ
    i = get_or node (get_or xs l 0) 0

    abbrev j : ℕ
    j = get_or node (get_or ys l 0) 0

    abbrev w : ℕ
    w = q * get_or zs l 0

    pub led-same : get_or wall i 0 ≡ get_or wall j 0 → Led drains (l + 1)
    unfolding led
    led-same e = tally-next t refl (λ h b. rw (eq-eqb _ _ e, mul-zero q) (sym (add-zero (get_or drains h 0))))

    pub led-both : (get_or wall i 0 ≡ get_or wall j 0 → ⊥) → i < 128 → j < 128
        → Led (set (set drains i (get_or drains i 0 + w)) j (get_or (set drains i (get_or drains i 0 + w)) j 0 + w)) (l + 1)
    unfolding led
    led-both ne bx by =
        tally-next t (simp length-set)
        (λ h b.
        let first = more-at drains i w h (omega (arith, t.wide)) in
        let second = more-at (more drains i w) j w h (simp length-set (omega (arith, t.wide))) in
        let s = get_or zs l 0 in
        rw (ne_eqb _ _ ne, mul-add) (omega (arith, scaled q s (eqb i h), scaled q s (eqb j h))))

  module _ (a : Accepted n xs ys zs) (small : p ≤ 100000000) (narrow : q ≤ 1000) {drains : List ℕ} {l : ℕ} (t : Led drains l) where
    led-most : l ≤ length xs → (x : ℕ) → x < n → get_or drains x 0 ≤ 12800000000 + l * 131070000
    unfolding led plant_of
    led-most b x c =
        omega (
          arith,
          mul-le-mul small (le_trans (size-most (plant_of n xs ys zs) (λ v. eqb (get_or node v 0) x)) a.most_devices),
          tally-most t 131070000 line x c,
        )
      where
        line : (y k : ℕ) → k < l → led q xs ys zs node wall y k ≤ 131070000
        line y k d =
            let few = a.most_signals k (omega arith) in
            mul-le-mul {m₂ = 131070} narrow
            (le_trans
            (sides-most
            (eqb (get_or wall (get_or node (get_or xs k 0) 0) 0) (get_or wall (get_or node (get_or ys k 0) 0) 0))
            (get_or zs k 0)
            (eqb (get_or node (get_or xs k 0) 0) y)
            (eqb (get_or node (get_or ys k 0) 0) y))
            (omega arith))

    pub led-fits : NodesBelow n node → l < length xs → LineFits n xs ys zs node drains l (12800000000 + l * 131070000)
    led-fits below b = line-fits node drains l (12800000000 + l * 131070000) a below b (led-most (omega arith))

    pub led-done : l ≡ length xs → Drained (plant_of n xs ys zs) p q node wall drains
    unfolding led plant_of
    led-done e = record {
      drain = λ x c.
          t.so_far x c
          ∙ ap (λ (m : ℕ). shares (plant_of n xs ys zs) p node x + m)
          (ap (λ (m : ℕ). sum m (led q xs ys zs node wall x)) e
          ∙ sum-scale (length xs) q _
          ∙ ap (λ (m : ℕ). q * m) (sym (outer-sum (λ v. get_or node v 0) (λ i. get_or wall i 0) xs ys zs x a.one_length a.one_length')));
      most = λ x c. omega (arith, led-most (omega arith) x c, a.most_lines);
    }
