-- A search on plain lists: how its tree begins and grows by a node, and how it goes on by a line and over the lines that are not the node's.
-- Assumes nothing.
use Prim.Native.Nat.{ℕ, ◌+◌, ◌≤◌, ◌<◌}
use mathlib.Core.Path.{◌≡◌, refl, sym, ◌∙◌}
use mathlib.Core.Logic.{◌⊎◌, inl, inr, ⊎_elim}
use mathlib.Core.Bool.{Bool, true, false, cond, false≢true}
use mathlib.Core.List.{List}
use native.Mathlib.Decide.{ℕ_discrete, dec_lt}
use native.Mathlib.Omega.{arith}
use borrow.Author.Tests.{eq-eqb, ne_eqb}
use lib.Dec.{eqb}
use lib.ListN.{length, get_or, set, replicate, length-replicate, get_or-replicate}
use lib.Seq.{get_or-set_same, get_or-set_other}
use Rattle.rules.specs.Numbers.{sum}
use Rattle.rules.proofs.SumLaws.{sum-most, sum-change, sum_one}
use Rattle.network.specs.Search.{spare_from_of, far_end_of, touches, Laid, Before, Earliest, Marks, Tree, Covered, Scan, Found, Rest, Standing}

-- the two sides of a question on numbers
same_or_not : (i j : ℕ) → (i ≡ j) ⊎ (i ≡ j → ⊥)
same_or_not i j = elim (ℕ_discrete i j) [ yes e ↦ inl e | no h ↦ inr h ]

below_or_not : (i j : ℕ) → (i < j) ⊎ (j ≤ i)
below_or_not i j = elim (dec_lt i j) [ yes h ↦ inl h | no h ↦ inr (omega arith) ]

last-or-before : (j k : ℕ) → j < k + 1 → (j < k) ⊎ (j ≡ k)
last-or-before j k l = ⊎_elim inl (λ h. inr (omega arith)) (below_or_not j k)

-- ---- the far end of a line is a node
pub far-device : {xs ys : List ℕ} (l u : ℕ) → Laid xs ys → l < length xs → far_end_of xs ys l u < 128
unfolding far_end_of
far-device {xs} {ys} l u laid m = go (eqb (get_or xs l 0) u)
  where
    go : (b : Bool) → cond b (get_or ys l 0) (get_or xs l 0) < 128
    go true = laid.second l m
    go false = laid.first l m

-- ---- the line before
pub rest-before : {xs ys : List ℕ} {u k rest : ℕ} → Before xs ys u k rest → k ≤ length xs → Rest xs ys u rest
rest-before before b = record { within = omega (arith, before.at_most); own = before.real }

-- ---- what is known of the marks of a tree
module _ {xs ys fs rs : List ℕ} {d : ℕ} {nodes vias froms marks : List ℕ} {count : ℕ} (tree : Tree xs ys fs rs d nodes vias froms marks count) where
  mark-or-none : (v : ℕ) → v < 128 → (get_or marks v 0 ≡ 0) ⊎ (get_or marks v 0 ≡ 1)
  mark-or-none v m = ⊎_elim inl (λ w. inr (rw (← w.2) (tree.marked w.0 w.1))) (tree.listed v m)

  mark-small : (v : ℕ) → v < 128 → get_or marks v 0 ≤ 1
  mark-small v m = ⊎_elim (λ e. omega arith) (λ e. omega arith) (mark-or-none v m)

  pub mark-one : (v : ℕ) → v < 128 → (get_or marks v 0 ≡ 0 → ⊥) → get_or marks v 0 ≡ 1
  mark-one v m h = ⊎_elim (λ e. absurd (h e)) (λ e. e) (mark-or-none v m)

  -- what is marked stands in the queue
  mark-place : (v : ℕ) → v < 128 → get_or marks v 0 ≡ 1 → (j : ℕ) × (j < count) × (get_or nodes j 0 ≡ v)
  mark-place v m e = ⊎_elim (λ z. absurd (omega arith)) (λ w. w) (tree.listed v m)

  pub tree-marks : Marks nodes marks count
  tree-marks = record { once = tree.way.once; device = tree.device; marked = tree.marked; listed = tree.listed; counted = tree.counted }

-- ---- a queue shorter by its last node
module _ {nodes marks : List ℕ} (j : ℕ) (all : Marks nodes marks (j + 1)) (size : length marks ≡ 128) where
  last-device : get_or nodes j 0 < 128
  last-device = all.device j (omega arith)

  -- the other marks stay
  unmark-stays : (v : ℕ) → (v ≡ get_or nodes j 0 → ⊥) → get_or (set marks (get_or nodes j 0) 0) v 0 ≡ get_or marks v 0
  unmark-stays v n = get_or-set_other marks (get_or nodes j 0) v 0 0 n

  unmark-last : get_or (set marks (get_or nodes j 0) 0) (get_or nodes j 0) 0 ≡ 0
  unmark-last = get_or-set_same marks (get_or nodes j 0) 0 0 (rw size last-device)

  pub marks-less : Marks nodes (set marks (get_or nodes j 0) 0) j
  marks-less = record {
    once = λ a b m n. all.once a b (omega arith) (omega arith);
    device = λ i m. all.device i (omega arith);
    marked = λ i m. unmark-stays (get_or nodes i 0) (λ e. omega (arith, all.once i j (omega arith) (omega arith) e)) ∙ all.marked i (omega arith);
    listed = λ v m. ⊎_elim (λ e. inl (rw e unmark-last)) (λ n. ⊎_elim (λ e. inl (unmark-stays v n ∙ e)) (λ w. inr (before v n w)) (all.listed v m)) (same_or_not v (get_or nodes j 0));
    counted = omega (arith, sum-change 128 (λ v. get_or marks v 0) (λ v. get_or (set marks (get_or nodes j 0) 0) v 0) (get_or nodes j 0) last-device (λ v m n. unmark-stays v n), all.counted, all.marked j (omega arith), unmark-last);
  }
    where
      before : (v : ℕ) → (v ≡ get_or nodes j 0 → ⊥) → ((i : ℕ) × (i < j + 1) × (get_or nodes i 0 ≡ v)) → (i : ℕ) × (i < j) × (get_or nodes i 0 ≡ v)
      before v n w = ⊎_elim (λ b. (w.0, b, w.2)) (λ e. absurd (n (sym w.2 ∙ rw e))) (last-or-before w.0 j w.1)

-- ---- a tree of one node
-- the marks that begin it
pub marks_begin : (d : ℕ) → d < 128 → (v : ℕ) → v < 128 → get_or {A = ℕ} (set (replicate 128 0) d 1) v 0 ≡ cond (eqb v d) 1 0
marks_begin d l v m = ⊎_elim (λ e. rw (eq-eqb v d e) (rw e (get_or-set_same (replicate 128 0) d 1 0 (rw length-replicate l)))) (λ n. rw (ne_eqb v d n) (get_or-set_other (replicate 128 0) d v 1 0 n ∙ get_or-replicate 128 v 0 0 m)) (same_or_not v d)

module _ (xs ys fs rs : List ℕ) (d : ℕ) (nodes vias froms marks : List ℕ) (device : d < 128) (root : get_or nodes 0 0 ≡ d) (marked : (v : ℕ) → v < 128 → get_or marks v 0 ≡ cond (eqb v d) 1 0) where
  first-only : (j : ℕ) → j < 1 → get_or nodes j 0 ≡ d
  first-only j l = let e : j ≡ 0 = omega arith in rw e root

  pub tree-begin : Tree xs ys fs rs d nodes vias froms marks 1
  tree-begin = record {
    way = record {
      parent = λ j m l. omega arith;
      line = λ j m l. omega arith;
      leaves = λ j m l. absurd (omega arith);
      reaches = λ j m l. absurd (omega arith);
      once = λ i j l m e. omega arith;
    };
    passable = λ j m l. omega arith;
    some = omega arith;
    root = root;
    device = λ j l. rw (first-only j l) device;
    marked = λ j l. rw (first-only j l) (marked d device ∙ rw (eq-eqb d d refl));
    listed = λ v m. ⊎_elim (λ e. inr (0, omega arith, root ∙ sym e)) (λ h. inl (marked v m ∙ rw (ne_eqb v d h))) (same_or_not v d);
    counted = sym (sum_one 128 (λ v. get_or marks v 0) d device marked);
    order = λ j m l. absurd (omega arith);
  }

  covered-begin : (k : ℕ) → ((l : ℕ) → k ≤ l → l < length xs → touches xs ys l d ≡ false) → Covered xs ys fs rs d nodes vias froms marks 1 0 k
  covered-begin k gap = record {
    tree = tree-begin;
    place = omega arith;
    shut = λ j l. absurd (omega arith);
    here = λ o l m n t. absurd (false≢true (sym (gap l m n) ∙ (rw root at t)));
  }

  module _ (ws : List ℕ) {rest : ℕ} (before : Before xs ys d (length xs) rest) where
    pub begin-standing : get_or ws d 0 ≡ 0 → Standing xs ys fs rs ws d nodes vias froms marks 1 0 rest
    begin-standing e = record {
      scan = record { covered = covered-begin rest before.gap; dry = λ j l. rw (first-only j l) e };
      ahead = rw root (rest-before before (omega arith));
    }

-- ---- a tree grows by a node
-- line l, which has something to spare, leads from the node at place h to node w, which is not marked
pub record Leads (xs ys fs rs nodes marks : List ℕ) (count h l w : ℕ) : Type 0 where
  pub place : h < count
  pub line : l < length xs
  pub leaves : touches xs ys l (get_or nodes h 0) ≡ true
  pub reaches : far_end_of xs ys l (get_or nodes h 0) ≡ w
  pub spare : 1 ≤ spare_from_of xs fs rs l (get_or nodes h 0)
  pub new : get_or marks w 0 ≡ 0

-- a node at place j came by line v from place i, where node u stands
record Came (xs ys fs rs : List ℕ) (i v u w j : ℕ) : Type 0 where
  parent : i < j
  line : v < length xs
  leaves : touches xs ys v u ≡ true
  reaches : far_end_of xs ys v u ≡ w
  spare : 1 ≤ spare_from_of xs fs rs v u

abbrev CameAt : List ℕ → List ℕ → List ℕ → List ℕ → List ℕ → List ℕ → List ℕ → ℕ → Type 0
CameAt xs ys fs rs nodes vias froms j = Came xs ys fs rs (get_or froms j 0) (get_or vias j 0) (get_or nodes (get_or froms j 0) 0) (get_or nodes j 0) j

module _ {xs ys fs rs : List ℕ} {d : ℕ} {nodes vias froms marks : List ℕ} {count h l w : ℕ} (laid : Laid xs ys) (tree : Tree xs ys fs rs d nodes vias froms marks count) (leads : Leads xs ys fs rs nodes marks count h l w) (mark-size : length marks ≡ 128) where
  new-device : w < 128
  new-device = rw (← leads.reaches) (far-device l (get_or nodes h 0) laid leads.line)

  mark-stays : (v : ℕ) → (v ≡ w → ⊥) → get_or (set marks w 1) v 0 ≡ get_or marks v 0
  mark-stays v n = get_or-set_other marks w v 1 0 n

  mark-new : get_or (set marks w 1) w 0 ≡ 1
  mark-new = get_or-set_same marks w 1 0 (rw mark-size new-device)

  -- marks only grow
  mark-grows : (v : ℕ) → get_or marks v 0 ≡ 1 → get_or (set marks w 1) v 0 ≡ 1
  mark-grows v e = ⊎_elim (λ q. rw q mark-new) (λ n. mark-stays v n ∙ e) (same_or_not v w)

  marks-counted : count + 1 ≡ sum 128 (λ v. get_or (set marks w 1) v 0)
  marks-counted =
      omega (arith, sum-change 128 (λ v. get_or marks v 0) (λ v. get_or (set marks w 1) v 0) w new-device (λ v m n. mark-stays v n), tree.counted, leads.new, mark-new)

  new-mark-small : (v : ℕ) → v < 128 → get_or (set marks w 1) v 0 ≤ 1
  new-mark-small v m = ⊎_elim (λ q. rw q (omega (arith, mark-new))) (λ n. rw (mark-stays v n) (mark-small tree v m)) (same_or_not v w)

  pub count_small : count < 128
  count_small = omega (arith, marks-counted, sum-most 128 (λ v. get_or (set marks w 1) v 0) 1 new-mark-small)

  -- the entries at the places before, and the new ones
  stays : (xs : List ℕ) (x j : ℕ) → j < count → get_or (set xs count x) j 0 ≡ get_or xs j 0
  stays xs x j m = get_or-set_other xs count j x 0 (omega arith)

  comes : (xs : List ℕ) (x : ℕ) → length xs ≡ 128 → get_or (set xs count x) count 0 ≡ x
  comes xs x e = get_or-set_same xs count x 0 (rw e count_small)

  came-before : (j : ℕ) → 1 ≤ j → j < count → CameAt xs ys fs rs nodes vias froms j
  came-before j m n = record {
    parent = tree.way.parent j m n;
    line = tree.way.line j m n;
    leaves = tree.way.leaves j m n;
    reaches = tree.way.reaches j m n;
    spare = tree.passable j m n;
  }

  came-last : Came xs ys fs rs h l (get_or nodes h 0) w count
  came-last = record { parent = leads.place; line = leads.line; leaves = leads.leaves; reaches = leads.reaches; spare = leads.spare }

  module _ (node-size : length nodes ≡ 128) (via-size : length vias ≡ 128) (from-size : length froms ≡ 128) where
    came : (j : ℕ) → 1 ≤ j → j < count + 1 → CameAt xs ys fs rs (set nodes count w) (set vias count l) (set froms count h) j
    came j m n = ⊎_elim before last (last-or-before j count n)
      where
        before : j < count → CameAt xs ys fs rs (set nodes count w) (set vias count l) (set froms count h) j
        before b = rw (stays froms h j b, stays vias l j b, stays nodes w j b, stays nodes w (get_or froms j 0) (omega (arith, tree.way.parent j m b))) (came-before j m b)

        last : j ≡ count → CameAt xs ys fs rs (set nodes count w) (set vias count l) (set froms count h) j
        last e = rw (e, comes froms h from-size, comes vias l via-size, comes nodes w node-size, stays nodes w h leads.place) came-last

    -- the new node is none of those before
    apart : (i : ℕ) → i < count → get_or nodes i 0 ≡ w → ⊥
    apart i m e = let z : get_or marks w 0 ≡ 1 = rw (← e) (tree.marked i m) in omega (arith, leads.new)

    alone : (i j : ℕ) → i < count + 1 → j < count + 1 → get_or (set nodes count w) i 0 ≡ get_or (set nodes count w) j 0 → i ≡ j
    alone i j m n e = ⊎_elim (λ a. ⊎_elim (λ b. both a b) (λ b. absurd (one i j a b e)) (last-or-before j count n)) (λ a. ⊎_elim (λ b. absurd (one j i b a (sym e))) (λ b. omega arith) (last-or-before j count n)) (last-or-before i count m)
      where
        both : i < count → j < count → i ≡ j
        both a b = tree.way.once i j a b (sym (stays nodes w i a) ∙ (e ∙ stays nodes w j b))

        one : (i j : ℕ) → i < count → j ≡ count → get_or (set nodes count w) i 0 ≡ get_or (set nodes count w) j 0 → ⊥
        one i j a b e = apart i a (sym (stays nodes w i a) ∙ (e ∙ rw b (comes nodes w node-size)))

    -- what holds of the nodes before and of w holds of each
    each : (P : ℕ → Type 0) → ((j : ℕ) → j < count → P (get_or nodes j 0)) → P w → (j : ℕ) → j < count + 1 → P (get_or (set nodes count w) j 0)
    each P before last j m =
        ⊎_elim (λ b. rw (stays nodes w j b) (before j b)) (λ e. rw e (rw (comes nodes w node-size) last)) (last-or-before j count m)

    all_listed : (v : ℕ) → v < 128 → (get_or (set marks w 1) v 0 ≡ 0) ⊎ ((j : ℕ) × (j < count + 1) × (get_or (set nodes count w) j 0 ≡ v))
    all_listed v m =
        ⊎_elim (λ e. inr (count, omega arith, comes nodes w node-size ∙ sym e))
        (λ n. ⊎_elim (λ e. inl (mark-stays v n ∙ e)) (λ q. inr (q.0, omega arith, stays nodes w q.0 q.1 ∙ q.2)) (tree.listed v m))
        (same_or_not v w)

    -- a place that was filled as soon as it could be still is
    earliest-stays : {j i k : ℕ} → j < count + 1 → i < j → Earliest xs ys fs rs nodes j i k → Earliest xs ys fs rs (set nodes count w) j i k
    earliest-stays {j} {i} b c order = record {
      shut = λ p m. rw (stays nodes w p (omega arith)) (λ k n t r. at (order.shut p m k n t r));
      here = rw (stays nodes w i (omega arith)) (λ k m n t r. at (order.here k m n t r));
    }
      where
        at : {v : ℕ} → ((p : ℕ) × (p < j) × (get_or nodes p 0 ≡ v)) → (p : ℕ) × (p < j) × (get_or (set nodes count w) p 0 ≡ v)
        at q = (q.0, q.1, stays nodes w q.0 (omega (arith, q.1)) ∙ q.2)

    -- the new place is filled as soon as it can be
    earliest-new : Covered xs ys fs rs d nodes vias froms marks count h (l + 1) → Earliest xs ys fs rs nodes count h l
    earliest-new before = record {
      shut = λ p m k n t r. mark-place tree _ (far-device k (get_or nodes p 0) laid n) (before.shut p m k n t r);
      here = λ k m n t r. mark-place tree _ (far-device k (get_or nodes h 0) laid n) (before.here leads.place k (omega arith) n t r);
    }

    order-more : Covered xs ys fs rs d nodes vias froms marks count h (l + 1)
        → (j : ℕ) → 1 ≤ j → j < count + 1 → Earliest xs ys fs rs (set nodes count w) j (get_or (set froms count h) j 0) (get_or (set vias count l) j 0)
    order-more covered j m n = ⊎_elim before last (last-or-before j count n)
      where
        before : j < count → Earliest xs ys fs rs (set nodes count w) j (get_or (set froms count h) j 0) (get_or (set vias count l) j 0)
        before b = rw (stays froms h j b, stays vias l j b) (earliest-stays n (tree.way.parent j m b) (tree.order j m b))

        last : j ≡ count → Earliest xs ys fs rs (set nodes count w) j (get_or (set froms count h) j 0) (get_or (set vias count l) j 0)
        last e = rw e (rw (comes froms h from-size, comes vias l via-size) (earliest-stays (omega arith) leads.place (earliest-new covered)))

    tree-more : Covered xs ys fs rs d nodes vias froms marks count h (l + 1)
        → Tree xs ys fs rs d (set nodes count w) (set vias count l) (set froms count h) (set marks w 1) (count + 1)
    tree-more before = record {
      way = record {
        parent = λ j m n. (came j m n).parent;
        line = λ j m n. (came j m n).line;
        leaves = λ j m n. (came j m n).leaves;
        reaches = λ j m n. (came j m n).reaches;
        once = alone;
      };
      passable = λ j m n. (came j m n).spare;
      some = omega arith;
      root = stays nodes w 0 tree.some ∙ tree.root;
      device = each (λ v. v < 128) tree.device new-device;
      marked = each (λ v. get_or (set marks w 1) v 0 ≡ 1) (λ j m. mark-grows (get_or nodes j 0) (tree.marked j m)) mark-new;
      listed = all_listed;
      counted = marks-counted;
      order = order-more before;
    }

    -- a search goes on over line l, by which w is reached: it has drain left, or none
    covered_more : Covered xs ys fs rs d nodes vias froms marks count h (l + 1)
        → Covered xs ys fs rs d (set nodes count w) (set vias count l) (set froms count h) (set marks w 1) (count + 1) h l
    covered_more before = record {
      tree = tree-more before;
      place = omega (arith, leads.place);
      shut = λ j m. rw (stays nodes w j (omega (arith, leads.place))) (λ k n t r. mark-grows _ (before.shut j m k n t r));
      here = λ o. rw (stays nodes w h leads.place) (λ k m n t r. ⊎_elim (λ q. rw (← q) (rw leads.reaches mark-new)) (λ q. mark-grows _ (before.here leads.place k (omega arith) n t r)) (same_or_not l k));
    }

    module _ {ws : List ℕ} (scan : Scan xs ys fs rs ws d nodes vias froms marks count h (l + 1)) where
      pub found-more : 1 ≤ get_or ws w 0 → Found xs ys fs rs ws d (set nodes count w) (set vias count l) (set froms count h) (set marks w 1) (count + 1) h l
      found-more m = record {
        covered = covered_more scan.covered;
        dry = λ j b. rw (stays nodes w j (omega arith)) (scan.dry j (omega arith));
        wet = λ j e. let q : j ≡ count = omega arith in rw q (rw (comes nodes w node-size) m);
      }

      pub scan-more : get_or ws w 0 ≡ 0 → Scan xs ys fs rs ws d (set nodes count w) (set vias count l) (set froms count h) (set marks w 1) (count + 1) h l
      scan-more e = record { covered = covered_more scan.covered; dry = each (λ v. get_or ws v 0 ≡ 0) scan.dry e }

-- ---- a search goes on
module _ {xs ys fs rs : List ℕ} {d : ℕ} {nodes vias froms marks : List ℕ} {count h : ℕ} where
  -- over line l, by which nothing new is reached
  covered_same : (l : ℕ) → Covered xs ys fs rs d nodes vias froms marks count h (l + 1) → (1 ≤ spare_from_of xs fs rs l (get_or nodes h 0) → get_or marks (far_end_of xs ys l (get_or nodes h 0)) 0 ≡ 1)
      → Covered xs ys fs rs d nodes vias froms marks count h l
  covered_same l before old = record {
    tree = before.tree;
    place = before.place;
    shut = before.shut;
    here = λ o k m n t r. ⊎_elim (λ e. rw (← e) (old (rw e r))) (λ e. before.here o k (omega arith) n t r) (same_or_not l k);
  }

  -- over the lines from t on below k, which are not the node's
  covered-gap : {k t : ℕ} → Covered xs ys fs rs d nodes vias froms marks count h k → (h < count → Before xs ys (get_or nodes h 0) k t) → Covered xs ys fs rs d nodes vias froms marks count h t
  covered-gap {k} {t} before gap = record {
    tree = before.tree;
    place = before.place;
    shut = before.shut;
    here = λ o l m n e r. ⊎_elim (λ b. absurd (false≢true (sym ((gap o).gap l m b) ∙ e))) (λ b. before.here o l b n e r) (below_or_not l k);
  }

  module _ {ws : List ℕ} where
    pub scan-same : (l : ℕ) → Scan xs ys fs rs ws d nodes vias froms marks count h (l + 1) → (1 ≤ spare_from_of xs fs rs l (get_or nodes h 0) → get_or marks (far_end_of xs ys l (get_or nodes h 0)) 0 ≡ 1)
        → Scan xs ys fs rs ws d nodes vias froms marks count h l
    scan-same l scan old = record { covered = covered_same l scan.covered old; dry = scan.dry }

    -- to the line before, or to a place behind the queue
    pub standing-line : {k t : ℕ} → Scan xs ys fs rs ws d nodes vias froms marks count h k → k ≤ length xs → Before xs ys (get_or nodes h 0) k t → Standing xs ys fs rs ws d nodes vias froms marks count h t
    standing-line scan b gap = record {
      scan = record { covered = covered-gap scan.covered (λ o. gap); dry = scan.dry };
      ahead = rest-before gap b;
    }

    pub standing-place : {t : ℕ} → Scan xs ys fs rs ws d nodes vias froms marks count h (length xs) → (h < count → Before xs ys (get_or nodes h 0) (length xs) t) → (count ≤ h → t ≡ 0)
        → Standing xs ys fs rs ws d nodes vias froms marks count h t
    standing-place scan gap none = record {
      scan = record { covered = covered-gap scan.covered gap; dry = scan.dry };
      ahead = ⊎_elim (λ o. rest-before (gap o) (omega arith)) (λ o. rw (none o) (record { within = omega arith; own = λ l e. absurd (omega arith) })) (below_or_not h count);
    }
