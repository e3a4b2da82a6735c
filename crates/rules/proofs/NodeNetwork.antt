-- One network for all walls at once, whose nodes stand for sets of devices: a set of nodes of one wall costs there what its devices cost in the plant, and the nodes of one wall alone cost no more than a set with others. So the least set of nodes, where the best set inside the wall is a union of nodes, has the devices of that best set; and between two levels each group of the finer one may be such a node.
-- Assumes nothing.
use Prim.Native.Nat.{ℕ, zero, suc, ◌+◌, ◌*◌, ◌≤◌, ◌<◌}
use mathlib.Core.Path.{◌≡◌, refl, sym, ap, ap₂, ◌∙◌}
use mathlib.Core.Bool.{Bool, true, false, ◌&&◌, cond}
use mathlib.Core.List.{List, [], ◌∷◌}
use native.Mathlib.Nat.{le_refl, zero-add, mul-add, mul-le-mul_left, suc_inj}
use native.Mathlib.Omega.{arith}
use lib.Dec.{eqb}
use lib.ListN.{length, get_or}
use borrow.Author.Tests.{eqb-true, eqb-false, eq-eqb}
use Rattle.rules.specs.Plant.{Line, Plant, lines_of}
use Rattle.rules.specs.Accepted.{EndsBelow, Sound}
use Rattle.rules.specs.Cut.{Devices, crossing, out, size_at, size_below, size, cost}
use Rattle.rules.specs.Sets.{Inside, Agree}
use Rattle.rules.specs.Numbers.{sum}
use Rattle.rules.specs.Community.{community}
use Rattle.rules.specs.CommunityIs.{IsCommunityIn}
use Rattle.rules.specs.Groups.{group_of}
use Rattle.rules.specs.Network.{drained, net_cost, IsLeast}
use Rattle.rules.specs.Nodes.{inner_cut, outer_signals, Stands}
use Rattle.rules.proofs.SetLaws.{and_left, and_right, same_bool, agree-both}
use Rattle.rules.proofs.SumLaws.{sum-front}
use Rattle.rules.proofs.Sums.{agree-cost}
use Rattle.rules.proofs.Communities.{smallest, fence-in}
use Rattle.rules.proofs.Best.{community-is}
use Rattle.rules.proofs.UnionLaws.{union-of-finer}
use Rattle.rules.proofs.NetworkLaws.{drained-add, drained-agree, drained-scale, drained-none, drained-at}

-- inner cut and outer signals of three lists, as sums over the lines
module _ (node wall : ℕ → ℕ) where
  pub inner-sum : (xs ys zs : List ℕ) (N : Devices) → length xs ≡ length ys → length ys ≡ length zs
      → inner_cut node wall (lines_of xs ys zs) N
      ≡ sum (length xs) (λ l. cond (eqb (wall (node (get_or xs l 0))) (wall (node (get_or ys l 0)))) (crossing (get_or zs l 0) (N (node (get_or xs l 0))) (N (node (get_or ys l 0)))) 0)
  unfolding inner_cut lines_of sum
  inner-sum [] ys zs N e e' = refl
  inner-sum (a ∷ xs) [] zs N e e' = absurd (omega arith)
  inner-sum (a ∷ xs) (b ∷ ys) [] N e e' = absurd (omega arith)
  inner-sum (a ∷ xs) (b ∷ ys) (c ∷ zs) N e e' =
      rw (inner-sum xs ys zs N (suc_inj e) (suc_inj e')) (sym (sum-front (length xs) at))
    where
      at : ℕ → ℕ
      at l = cond (eqb (wall (node (get_or (a ∷ xs) l 0))) (wall (node (get_or (b ∷ ys) l 0)))) (crossing (get_or (c ∷ zs) l 0) (N (node (get_or (a ∷ xs) l 0))) (N (node (get_or (b ∷ ys) l 0)))) 0

  pub outer-sum : (xs ys zs : List ℕ) (x : ℕ) → length xs ≡ length ys → length ys ≡ length zs
      → outer_signals node wall (lines_of xs ys zs) x
      ≡ sum (length xs) (λ l. cond (eqb (wall (node (get_or xs l 0))) (wall (node (get_or ys l 0)))) 0 (cond (eqb (node (get_or xs l 0)) x) (get_or zs l 0) 0 + cond (eqb (node (get_or ys l 0)) x) (get_or zs l 0) 0))
  unfolding outer_signals lines_of sum
  outer-sum [] ys zs x e e' = refl
  outer-sum (a ∷ xs) [] zs x e e' = absurd (omega arith)
  outer-sum (a ∷ xs) (b ∷ ys) [] x e e' = absurd (omega arith)
  outer-sum (a ∷ xs) (b ∷ ys) (c ∷ zs) x e e' =
      rw (outer-sum xs ys zs x (suc_inj e) (suc_inj e')) (sym (sum-front (length xs) at))
    where
      at : ℕ → ℕ
      at l = cond (eqb (wall (node (get_or (a ∷ xs) l 0))) (wall (node (get_or (b ∷ ys) l 0)))) 0 (cond (eqb (node (get_or (a ∷ xs) l 0)) x) (get_or (c ∷ zs) l 0) 0 + cond (eqb (node (get_or (b ∷ ys) l 0)) x) (get_or (c ∷ zs) l 0) 0)

-- a line of which at most one end is in
crossing-apart : (s : ℕ) (x y : Bool) → (x ≡ true → y ≡ true → ⊥) → cond x s 0 + cond y s 0 ≡ crossing s x y
unfolding crossing
crossing-apart s true true h = absurd (h refl refl)
crossing-apart s true false h = omega arith
crossing-apart s false true h = omega arith
crossing-apart s false false h = refl

-- a line whose ends both stay or both go
crossing-fewer : (s : ℕ) (x y e : Bool) → crossing s (x && e) (y && e) ≤ crossing s x y
unfolding crossing
crossing-fewer s true true true = omega arith
crossing-fewer s true true false = omega arith
crossing-fewer s true false true = omega arith
crossing-fewer s true false false = omega arith
crossing-fewer s false true true = omega arith
crossing-fewer s false true false = omega arith
crossing-fewer s false false e = omega arith

-- sums over the nodes of a set N, each with its devices
module _ (n : ℕ) (node : ℕ → ℕ) (numbered : (v : ℕ) → v < n → node v < n) (N : Devices) where
  sum_below : (g : Plant) (m : ℕ) → m ≤ n → drained (λ x. size_below g m (λ v. eqb (node v) x)) n N ≡ size_below g m (λ v. N (node v))
  unfolding size_below
  sum_below g zero h = drained-none (λ x. 0) n N (λ x c e. refl)
  sum_below g (suc m) h =
      drained-add (λ x. size_below g m (λ v. eqb (node v) x)) (λ x. cond (eqb (node m) x) (size_at g m) 0) n N
      ∙ ap₂ ◌+◌ (sum_below g m (omega arith)) (drained-at (node m) (size_at g m) n N (numbered m h))

  -- the nodes of N lie in the wall w: their cut is inside the wall, and to other walls
  module _ (wall : ℕ → ℕ) (w : ℕ) (walled : (x : ℕ) → x < n → N x ≡ true → wall x ≡ w) where
    sum-line : (a b s : ℕ) → a < n → b < n
        → cond (eqb (wall a) (wall b)) (crossing s (N a) (N b)) 0
        + drained (λ x. cond (eqb (wall a) (wall b)) 0 (cond (eqb a x) s 0 + cond (eqb b x) s 0)) n N
        ≡ crossing s (N a) (N b)
    sum-line a b s ba bb = go (eqb (wall a) (wall b)) refl
      where
        go : (t : Bool) → eqb (wall a) (wall b) ≡ t
            → cond t (crossing s (N a) (N b)) 0 + drained (λ x. cond t 0 (cond (eqb a x) s 0 + cond (eqb b x) s 0)) n N ≡ crossing s (N a) (N b)
        go true e = omega (arith, drained-none (λ x. 0) n N (λ x c t. refl))
        go false e =
            zero-add (drained (λ x. cond (eqb a x) s 0 + cond (eqb b x) s 0) n N)
            ∙ drained-add (λ x. cond (eqb a x) s 0) (λ x. cond (eqb b x) s 0) n N
            ∙ ap₂ ◌+◌ (drained-at a s n N ba) (drained-at b s n N bb)
            ∙ crossing-apart s (N a) (N b) (λ h k. eqb-false (wall a) (wall b) e (walled a ba h ∙ sym (walled b bb k)))

    sum-lines : (ls : List Line) → EndsBelow n ls → inner_cut node wall ls N + drained (outer_signals node wall ls) n N ≡ out ls (λ v. N (node v))
    unfolding inner_cut outer_signals out EndsBelow
    sum-lines [] e = omega (arith, drained-none (λ x. 0) n N (λ x c t. refl))
    sum-lines (l ∷ ls) e =
        omega (
          arith,
          sum-lines ls e.2,
          sum-line (node l.first) (node l.second) l.signals (numbered l.first e.0) (numbered l.second e.1),
          drained-add (λ x. cond (eqb (wall (node l.first)) (wall (node l.second))) 0 (cond (eqb (node l.first) x) l.signals 0 + cond (eqb (node l.second) x) l.signals 0)) (outer_signals node wall ls) n N,
        )

-- of a set of nodes those of one wall
module _ (node wall : ℕ → ℕ) (N : Devices) (w : ℕ) where
  abbrev only : Devices
  only x = N x && eqb (wall x) w

  inner-fewer : (ls : List Line) → inner_cut node wall ls only ≤ inner_cut node wall ls N
  unfolding inner_cut
  inner-fewer [] = le_refl 0
  inner-fewer (l ∷ ls) = omega (arith, inner-fewer ls, line (node l.first) (node l.second) l.signals)
    where
      line : (a b s : ℕ) → cond (eqb (wall a) (wall b)) (crossing s (only a) (only b)) 0 ≤ cond (eqb (wall a) (wall b)) (crossing s (N a) (N b)) 0
      line a b s = go (eqb (wall a) (wall b)) refl
        where
          go : (t : Bool) → eqb (wall a) (wall b) ≡ t → cond t (crossing s (only a) (only b)) 0 ≤ cond t (crossing s (N a) (N b)) 0
          go true e = rw (eqb-true (wall a) (wall b) e) (crossing-fewer s (N a) (N b) (eqb (wall b) w))
          go false e = le_refl 0

  drained-fewer : (drains : ℕ → ℕ) (k : ℕ) → drained drains k only ≤ drained drains k N
  unfolding drained
  drained-fewer drains zero = le_refl 0
  drained-fewer drains (suc k) = omega (arith, drained-fewer drains k, at (N k) (eqb (wall k) w))
    where
      at : (x e : Bool) → cond (x && e) (drains k) 0 ≤ cond x (drains k) 0
      at true true = le_refl (drains k)
      at true false = omega arith
      at false e = le_refl 0

module _ {g : Plant} {p q : ℕ} {node wall : ℕ → ℕ} {lines : List Line} {drains : ℕ → ℕ}
    (s : Sound g) (st : Stands g p q node wall lines drains) where
  abbrev n : ℕ
  n = g.devices

  -- the devices of the nodes in N
  abbrev U : Devices → Devices
  U N v = N (node v)

  drains-scaled : (N : Devices) → drained drains n N ≡ p * size g (U N) + q * drained (outer_signals node wall g.lines) n N
  unfolding size
  drains-scaled N =
      drained-agree drains (λ x. p * size g (λ v. eqb (node v) x) + q * outer_signals node wall g.lines x) n N (λ x a t. st.drain x a)
      ∙ drained-add (λ x. p * size g (λ v. eqb (node v) x)) (λ x. q * outer_signals node wall g.lines x) n N
      ∙ ap₂ ◌+◌
      (drained-scale p (λ x. size g (λ v. eqb (node v) x)) n N ∙ ap (λ (m : ℕ). p * m) (sum_below n node st.numbered N g n (le_refl n)))
      (drained-scale q (outer_signals node wall g.lines) n N)

  -- a set of nodes of one wall costs what its devices cost
  pub stands-cost : (N : Devices) (w : ℕ) → ((x : ℕ) → x < n → N x ≡ true → wall x ≡ w) → net_cost lines drains n N ≡ cost g p q (λ v. N (node v))
  unfolding net_cost cost
  stands-cost N w walled =
      omega (
        arith,
        st.cut N,
        drains-scaled N,
        simp mul-add at (ap (λ (m : ℕ). q * m) (sum-lines n node st.numbered N wall w walled g.lines s)),
      )

  -- the nodes of one wall alone cost no more
  pub stands-inner : (N : Devices) (w : ℕ) → net_cost lines drains n (λ x. N x && eqb (wall x) w) ≤ net_cost lines drains n N
  unfolding net_cost
  stands-inner N w =
      omega (
        arith,
        st.cut N,
        st.cut (λ x. N x && eqb (wall x) w),
        mul-le-mul_left q (inner-fewer node wall N w g.lines),
        drained-fewer node wall N w drains n,
      )

  -- the least set of nodes for device r, its own node, has the devices of a set X that is the best with r inside the wall of r, where X is a union of nodes
  pub stands-best : (r : ℕ) (X M N : Devices) → r < n → node r ≡ r
      → IsCommunityIn g p q (λ v. eqb (wall (node v)) (wall r)) r X → Agree n (λ v. M (node v)) X
      → IsLeast lines drains n r N → Agree n (λ v. N (node v)) X
  stands-best r X M N b own x same t =
      agree-both (U N) X
      (λ v a h. sym (same' v a) ∙ within v a h)
      (smallest (U N) x held fenced (omega (arith, cost-N, cost-M, agree-cost g p q (U M') X s same', t.least M' started)))
    where
      F : Devices
      F v = eqb (wall v) (wall r)

      here : F r ≡ true
      here = eq-eqb (wall r) (wall r) refl

      -- of M, the nodes of the wall
      M' : Devices
      M' v = M v && F v

      same' : Agree n (U M') X
      same' =
          agree-both (U M') X
          (λ v a h. sym (same v a) ∙ and_left (M (node v)) (F (node v)) h)
          (λ v a h. rw (same v a ∙ h) (x.inside v a h))

      started : M' r ≡ true
      started = ap M' (sym own) ∙ same' r b ∙ x.holds

      walled : Inside n N F
      walled v a h = and_right (N v) (F v) (t.inside (λ y. N y && F y) (rw t.holds here) (stands-inner N (wall r)) v a h)

      cost-N : net_cost lines drains n N ≡ cost g p q (U N)
      cost-N = stands-cost N (wall r) (λ v a h. eqb-true (wall v) (wall r) (walled v a h))

      cost-M : net_cost lines drains n M' ≡ cost g p q (U M')
      cost-M = stands-cost M' (wall r) (λ v a h. eqb-true (wall v) (wall r) (and_right (M v) (F v) h))

      held : U N r ≡ true
      held = ap N own ∙ t.holds

      fenced : Inside n (U N) (U F)
      fenced v a h = walled (node v) (st.numbered v a) h

      within : Inside n (U N) (U M')
      within v a h =
          t.inside M' started
          (omega (arith, cost-N, cost-M, agree-cost g p q (U M') X s same', x.least (U N) held fenced))
          (node v) (st.numbered v a) h

  -- between two levels: r is a device whose community at the finer level's rate ap/aq is its group there, p/q is not above that rate, devices of one node are of one group there, and a node is the number of a device of its own
  module _ (ap aq r : ℕ) (oa : 1 ≤ ap) (o : 1 ≤ q) (lower : p * aq ≤ ap * q) (br : r < n) (own : node r ≡ r)
      (head : Agree n (community g ap aq r) (group_of g ap aq r))
      (one-group : (v w : ℕ) → v < n → w < n → node v ≡ node w → group_of g ap aq v w ≡ true)
      (self : (v : ℕ) → v < n → node (node v) ≡ node v) where
    abbrev X : Devices
    X = community g p q r

    -- the community of r is a union of nodes
    union : Agree n (λ v. X (node v)) X
    union v b =
        same_bool (X (node v)) (X v)
        (λ t. whole (node v) v (st.numbered v b) b (self v b) t)
        (λ t. whole v (node v) b (st.numbered v b) (sym (self v b)) t)
      where
        whole : (a e : ℕ) → a < n → e < n → node a ≡ node e → X a ≡ true → X e ≡ true
        whole a e ba be j t = union-of-finer g ap aq p q r s oa o lower br head a ba t e be (one-group a e ba be j)

    -- the least set of nodes has the devices of the community of r, where that lies inside the wall of r
    pub stands-between : (N : Devices) → Inside n (community g p q r) (λ v. eqb (wall (node v)) (wall r))
        → IsLeast lines drains n r N → Agree n (λ v. N (node v)) (community g p q r)
    stands-between N inside t =
        stands-best r X X N br own (fence-in (λ v. eqb (wall (node v)) (wall r)) (community-is g p q r s br) inside) union t
