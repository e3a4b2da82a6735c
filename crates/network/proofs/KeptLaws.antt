-- The queue after a send: how much of the search's state stays true. A spare that grew leads from a node of the queue to one at an earlier place, and only the lines of the way lost something. So where every line of the way has something to spare still, the drain of the node that was found is gone, and the search goes on where it stands (scan-kept); and else it goes on behind the line of the first place of the way whose line has nothing to spare, with the places before that one (scan-cut).
-- Assumes nothing.
use Prim.Native.Nat.{ℕ, ◌+◌, ◌-◌, ◌≤◌, ◌<◌}
use mathlib.Core.Path.{◌≡◌, sym, ◌∙◌}
use mathlib.Core.Logic.{⊎_elim}
use mathlib.Core.Bool.{true}
use mathlib.Core.List.{List}
use native.Mathlib.Decide.{ℕ_discrete}
use native.Mathlib.Omega.{arith}
use lib.ListN.{length, get_or, set}
use lib.Seq.{get_or-set_same, get_or-set_other}
use Rattle.network.specs.Search.{spare_from_of, spare_to, far_end_of, touches, Within, Earliest, Marks, Tree, Scan, Found, On, Kept, Shut}
use Rattle.network.proofs.PathLaws.{far-two, far-other}
use Rattle.network.proofs.ReachLaws.{tree-marks}

module _ {xs ys fs rs : List ℕ} {d : ℕ} {nodes vias froms marks : List ℕ} {count : ℕ} (tree : Tree xs ys fs rs d nodes vias froms marks count) where
  -- both ends of a line of the queue are marked
  ends-marked : (j : ℕ) → 1 ≤ j → j < count → (u : ℕ) → touches xs ys (get_or vias j 0) u ≡ true → get_or marks (far_end_of xs ys (get_or vias j 0) u) 0 ≡ 1
  ends-marked j m b u t =
      ⊎_elim (λ e. same (e ∙ tree.way.reaches j m b) (tree.marked j b)) (λ e. same e (tree.marked (get_or froms j 0) (omega (arith, tree.way.parent j m b))))
      (far-two xs ys (get_or vias j 0) u (get_or nodes (get_or froms j 0) 0) t (tree.way.leaves j m b))
    where
      same : {v w : ℕ} → v ≡ w → get_or marks w 0 ≡ 1 → get_or marks v 0 ≡ 1
      same e m = rw e m

  -- the line by which place j came leads from a node of the queue, if not from the one that it came from, to an earlier place
  leads-back : (p : ℕ) → p < count → (j : ℕ) → 1 ≤ j → j < count → touches xs ys (get_or vias j 0) (get_or nodes p 0) ≡ true
      → (get_or nodes p 0 ≡ get_or nodes (get_or froms j 0) 0 → ⊥) → (q : ℕ) × (q < p) × (get_or nodes q 0 ≡ far_end_of xs ys (get_or vias j 0) (get_or nodes p 0))
  leads-back p b j m c t n =
      let u = get_or nodes p 0 in
      let v = get_or nodes (get_or froms j 0) 0 in
      let own = tree.way.leaves j m c in
      let e : p ≡ j = tree.way.once p j b c (sym (far-other xs ys (get_or vias j 0) v u own t (λ e. n (sym e))) ∙ tree.way.reaches j m c) in
      (get_or froms j 0, omega (arith, tree.way.parent j m c), sym (far-other xs ys (get_or vias j 0) u v t own n))

  module _ {fs' rs' : List ℕ} {δ : ℕ} (kept : Kept xs nodes vias froms (count - 1) δ fs rs fs' rs') where
    all : count - 1 + 1 ≡ count
    all = omega (arith, tree.some)

    -- what was shut stays shut
    shut-kept : (u l : ℕ) → Shut xs ys fs rs marks u l → Shut xs ys fs' rs' marks u l
    shut-kept u l shut t r = ⊎_elim (λ e. shut t (omega arith)) (λ w. rw w.3 at (ends-marked w.0 w.1 (rw all at w.2) u (rw w.3 t))) (kept.grown l u)

    -- what led to a place below j still does, and what has grown leads to an earlier place
    within-kept : {j p : ℕ} (l : ℕ) → p < j → p < count → Within xs ys fs rs nodes j (get_or nodes p 0) l → Within xs ys fs' rs' nodes j (get_or nodes p 0) l
    within-kept {j} {p} l m b within t r = ⊎_elim (λ e. within t (omega arith)) grew (kept.grown l (get_or nodes p 0))
      where
        grew : ((i : ℕ) × (1 ≤ i) × (i < count - 1 + 1) × (get_or vias i 0 ≡ l) × (get_or nodes p 0 ≡ get_or nodes (get_or froms i 0) 0 → ⊥))
            → (q : ℕ) × (q < j) × (get_or nodes q 0 ≡ far_end_of xs ys l (get_or nodes p 0))
        grew w =
            let q = leads-back p b w.0 w.1 (rw all at w.2) (rw w.3 t) w.4 in
            (q.0, omega (arith, q.1), rw w.3 at q.2)

    -- each place was filled as soon as it could be
    order-kept : (j : ℕ) → 1 ≤ j → j < count → Earliest xs ys fs' rs' nodes j (get_or froms j 0) (get_or vias j 0)
    order-kept j m b =
        let i : get_or froms j 0 < j = tree.way.parent j m b in
        record {
          shut = λ p n l c. within-kept l (omega arith) (omega arith) ((tree.order j m b).shut p n l c);
          here = λ l n c. within-kept l (omega arith) (omega arith) ((tree.order j m b).here l n c);
        }

    module _ {cut : ℕ} (some : 1 ≤ cut) (most : cut ≤ count)
        (clear : (j : ℕ) → 1 ≤ j → On froms (count - 1) j → j < cut → 1 ≤ spare_to xs fs' rs' nodes vias froms j) where
      -- the places below the cut, with marks of their own
      tree-cut : {marks' : List ℕ} → Marks nodes marks' cut → Tree xs ys fs' rs' d nodes vias froms marks' cut
      tree-cut own = record {
        way = record {
          parent = λ j m b. tree.way.parent j m (omega arith);
          line = λ j m b. tree.way.line j m (omega arith);
          leaves = λ j m b. tree.way.leaves j m (omega arith);
          reaches = λ j m b. tree.way.reaches j m (omega arith);
          once = own.once;
        };
        passable = λ j m b. ⊎_elim (λ e. rw e (tree.passable j m (omega arith))) (λ o. clear j m o b) (kept.lost j m (omega arith));
        some = some;
        root = tree.root;
        device = own.device;
        marked = own.marked;
        listed = own.listed;
        counted = own.counted;
        order = λ j m b. order-kept j m (omega arith);
      }

-- the search goes on
module _ {xs ys fs rs ws : List ℕ} {d : ℕ} {nodes vias froms marks : List ℕ} {count h k : ℕ} (found : Found xs ys fs rs ws d nodes vias froms marks count h k)
    {fs' rs' : List ℕ} {δ : ℕ} (kept : Kept xs nodes vias froms (count - 1) δ fs rs fs' rs') {cut : ℕ} (some : 1 ≤ cut) (most : cut ≤ count)
    (clear : (j : ℕ) → 1 ≤ j → On froms (count - 1) j → j < cut → 1 ≤ spare_to xs fs' rs' nodes vias froms j)
    (left : ℕ) where
  tree : Tree xs ys fs rs d nodes vias froms marks count
  tree = found.covered.tree

  -- the nodes before the one that was found are dry
  dry-before : (j : ℕ) → j + 1 < count → get_or (set ws (get_or nodes (count - 1) 0) left) (get_or nodes j 0) 0 ≡ 0
  dry-before j m =
      rw (get_or-set_other ws (get_or nodes (count - 1) 0) (get_or nodes j 0) left 0 (λ e. omega (arith, tree.way.once j (count - 1) (omega arith) (omega arith) e)))
      (found.dry j m)

  -- where it stands
  pub scan-kept : cut ≡ count → left ≡ 0 → get_or nodes (count - 1) 0 < length ws → Scan xs ys fs' rs' (set ws (get_or nodes (count - 1) 0) left) d nodes vias froms marks count h k
  scan-kept whole none b = record {
    covered = record {
      tree = rw whole at (tree-cut tree kept some most clear (rw (sym whole) at (tree-marks tree)));
      place = found.covered.place;
      shut = λ j b l m. shut-kept tree kept (get_or nodes j 0) l (found.covered.shut j b l m);
      here = λ o l n m. shut-kept tree kept (get_or nodes h 0) l (found.covered.here o l n m);
    };
    dry = λ j m. at j m (ℕ_discrete j (count - 1));
  }
    where
      at : (j : ℕ) → j < count → Dec (j ≡ count - 1) → get_or (set ws (get_or nodes (count - 1) 0) left) (get_or nodes j 0) 0 ≡ 0
      at j m (yes e) = rw (e, get_or-set_same ws (get_or nodes (count - 1) 0) left 0 b) none
      at j m (no n) = dry-before j (omega arith)

  -- or behind the line by which the place at the cut came, which has nothing to spare
  pub scan-cut : cut < count → spare_to xs fs' rs' nodes vias froms cut ≡ 0 → {marks' : List ℕ} → Marks nodes marks' cut
      → Scan xs ys fs' rs' (set ws (get_or nodes (count - 1) 0) left) d nodes vias froms marks' cut (get_or froms cut 0) (get_or vias cut 0)
  scan-cut less none {marks'} own =
      let order = order-kept tree kept cut some less in
      record {
        covered = record {
          tree = tree-cut tree kept some most clear own;
          place = omega (arith, tree.way.parent cut some less);
          shut = λ p m l b t r. at (order.shut p m l b t r);
          here = λ o l m b t r. at (order.here l (above l m r (ℕ_discrete l (get_or vias cut 0))) b t r);
        };
        dry = λ j m. dry-before j (omega arith);
      }
    where
      above : (l : ℕ) → get_or vias cut 0 ≤ l → 1 ≤ spare_from_of xs fs' rs' l (get_or nodes (get_or froms cut 0) 0) → Dec (l ≡ get_or vias cut 0) → get_or vias cut 0 < l
      above l m r (yes e) = absurd (omega (arith, rw e at r))
      above l m r (no n) = omega arith

      at : {v : ℕ} → ((p : ℕ) × (p < cut) × (get_or nodes p 0 ≡ v)) → get_or marks' v 0 ≡ 1
      at q = rw q.2 at (own.marked q.0 q.1)
