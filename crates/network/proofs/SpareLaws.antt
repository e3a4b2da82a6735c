-- The search in numbers: each set that holds the start costs what has been sent and what can still leave it.
--     spares-start, spares-sent      so it is at the start, and so it stays when some is sent
--     drains-less                    what is sent leaves the drains with less
--     way-all, nodes-below           what holds of every node in the queue
--     spares-done, spares-marks      where nothing more can be sent, the marked nodes are the least set, and all others are marked 0
-- Assumes nothing.
use Prim.Native.Nat.{ℕ, zero, suc, ◌+◌, ◌-◌, ◌≤◌, ◌<◌, zero-le, suc-le-suc}
use mathlib.Core.Path.{◌≡◌, refl, sym, ap, ◌∙◌}
use mathlib.Core.Logic.{◌⊎◌, inl, inr}
use mathlib.Core.Bool.{Bool, true, false, ◌||◌, cond, false≢true}
use mathlib.Core.List.{List}
use native.Mathlib.Nat.{le_trans, lt-suc_self}
use native.Mathlib.Omega.{arith}
use borrow.Author.Tests.{eqb-true, eq-eqb}
use lib.Dec.{eqb}
use lib.ListN.{length, get_or, set, replicate}
use lib.Seq.{get_or-set_same, get_or-set_other}
use Rattle.rules.specs.Plant.{lines_of}
use Rattle.rules.specs.Cut.{Devices, crossing, out}
use Rattle.rules.specs.Sets.{Inside}
use Rattle.rules.specs.Network.{drained, net_cost, IsLeast}
use Rattle.rules.specs.Numbers.{sum}
use Rattle.rules.proofs.SumLaws.{sum-agree, sum-change, sum-zero, zero-sum, out-sum}
use Rattle.network.specs.Search.{passing, lines_leave, drains_leave, spare_from_of, far_end_of, touches, Laid, Way, Scan, Sent, Spares}
use Rattle.network.proofs.EndLaws.{touches-first, touches-second, far-first, far-second, spare-first, spare-second}

-- the drains of a set as a sum
drained-sum : (f : ℕ → ℕ) (k : ℕ) (S : Devices) → drained f k S ≡ sum k (λ v. cond (S v) (f v) 0)
unfolding drained sum
drained-sum f zero S = refl
drained-sum f (suc k) S = rw (drained-sum f k S)

-- nothing but 0
pub zeros : (n l : ℕ) → get_or {A = ℕ} (replicate n 0) l 0 ≡ 0
zeros zero l = refl
zeros (suc n) zero = refl
zeros (suc n) (suc l) = zeros n l

-- before anything is sent each way of a line has its width
start-line : (z : ℕ) (a b : Bool) → passing a b z z ≡ crossing z a b
unfolding passing crossing
start-line z true true = refl
start-line z true false = refl
start-line z false true = refl
start-line z false false = refl

module _ (k : ℕ) (xs ys zs ds : List ℕ) (start : ℕ) (fs rs ws : List ℕ) where
  start-lines : length xs ≡ length ys → length ys ≡ length zs
      → ((l : ℕ) → l < length xs → get_or fs l 0 ≡ get_or zs l 0)
      → ((l : ℕ) → l < length xs → get_or rs l 0 ≡ get_or zs l 0)
      → (T : Devices) → lines_leave xs ys fs rs T ≡ out (lines_of xs ys zs) T
  unfolding lines_leave
  start-lines e e' forth back T =
      sum-agree (length xs) _ (λ l. crossing (get_or zs l 0) (T (get_or xs l 0)) (T (get_or ys l 0))) (λ l b. rw (forth l b, back l b) (start-line (get_or zs l 0) (T (get_or xs l 0)) (T (get_or ys l 0))))
      ∙ sym (out-sum xs ys zs T e e')

  start-drains : ((v : ℕ) → v < k → get_or ws v 0 ≡ get_or ds v 0) → (T : Devices) → drains_leave k ws T ≡ drained (λ v. get_or ds v 0) k T
  unfolding drains_leave
  start-drains drain T = sum-agree k _ (λ v. cond (T v) (get_or ds v 0) 0) (λ v b. ap (λ (x : ℕ). cond (T v) x 0) (drain v b)) ∙ sym (drained-sum (λ v. get_or ds v 0) k T)

  pub spares-start : length xs ≡ length ys → length ys ≡ length zs
      → ((l : ℕ) → l < length xs → get_or fs l 0 ≡ get_or zs l 0)
      → ((l : ℕ) → l < length xs → get_or rs l 0 ≡ get_or zs l 0)
      → ((v : ℕ) → v < k → get_or ws v 0 ≡ get_or ds v 0)
      → Spares k xs ys zs ds start fs rs ws
  unfolding net_cost
  spares-start e e' forth back drain = record {
    sent = 0;
    whole = λ l b. omega (arith, forth l b, back l b);
    share = λ T t. omega (arith, start-lines e e' forth back T, start-drains drain T);
  }

-- what leaves a set by the drains after δ has left from node e
drains-after : (n : ℕ) (ws : List ℕ) (e δ : ℕ) (T : Devices) → e < n → e < length ws → δ ≤ get_or ws e 0
    → drains_leave n (set ws e (get_or ws e 0 - δ)) T + cond (T e) δ 0 ≡ drains_leave n ws T
unfolding drains_leave
drains-after n ws e δ T b c l =
    let ws' : List ℕ = set ws e (get_or ws e 0 - δ) in
    let change = sum-change n (λ v. cond (T v) (get_or ws v 0) 0) (λ v. cond (T v) (get_or ws' v 0) 0) e b (λ v h ne. rw (get_or-set_other ws e v (get_or ws e 0 - δ) 0 ne)) in
    at (T e) (sum n (λ v. cond (T v) (get_or ws' v 0) 0)) (sum n (λ v. cond (T v) (get_or ws v 0) 0)) (rw (get_or-set_same ws e (get_or ws e 0 - δ) 0 c) at change)
  where
    at : (b : Bool) (after before : ℕ) → after + cond b (get_or ws e 0) 0 ≡ before + cond b (get_or ws e 0 - δ) 0 → after + cond b δ 0 ≡ before
    at true after before h = omega arith
    at false after before h = omega arith

-- δ has gone from the start to e, and there by the drain
pub spares-sent : {k : ℕ} {xs ys zs ds : List ℕ} {start : ℕ} {fs rs ws : List ℕ} {e δ : ℕ} {fs' rs' : List ℕ}
    → Spares k xs ys zs ds start fs rs ws → Sent xs ys start e δ fs rs fs' rs' → e < k → e < length ws → δ ≤ get_or ws e 0
    → Spares k xs ys zs ds start fs' rs' (set ws e (get_or ws e 0 - δ))
spares-sent {k} {ws = ws} {e = e} {δ = δ} spares gone b c l = record {
  sent = spares.sent + δ;
  whole = λ l h. gone.kept l h ∙ spares.whole l h;
  share = λ T t. omega (arith, spares.share T t, rw t at (gone.moved T), drains-after k ws e δ T b c l);
}

-- the drains together are less
pub drains-less : (ws : List ℕ) (e δ : ℕ) → e < 128 → e < length ws → 1 ≤ δ → δ ≤ get_or ws e 0
    → sum 128 (λ v. get_or (set ws e (get_or ws e 0 - δ)) v 0) < sum 128 (λ v. get_or ws v 0)
drains-less ws e δ b c some l =
    let x : ℕ = get_or ws e 0 - δ in
    omega (arith, sum-change 128 (λ v. get_or ws v 0) (λ v. get_or (set ws e x) v 0) e b (λ v h n. get_or-set_other ws e v x 0 n), get_or-set_same ws e x 0 c)

-- what holds of the first node in the queue and passes on along each line by which a node came holds of every node in the queue
pub way-all : {xs ys nodes vias froms : List ℕ} {count : ℕ} → Way xs ys nodes vias froms count → (P : ℕ → Type 0)
    → P (get_or nodes 0 0) → ((j : ℕ) → 1 ≤ j → j < count → P (get_or nodes (get_or froms j 0) 0) → P (get_or nodes j 0))
    → (j : ℕ) → j < count → P (get_or nodes j 0)
way-all {nodes = nodes} {froms = froms} {count = count} way P start step j b = go (suc j) j (lt-suc_self j) b
  where
    go : (m j : ℕ) → j < m → j < count → P (get_or nodes j 0)
    go zero j h b = absurd (omega arith)
    go (suc m) zero h b = start
    go (suc m) (suc j) h b =
        let before = way.parent (suc j) (suc-le-suc zero-le) b in
        step (suc j) (suc-le-suc zero-le) b (go m (get_or froms (suc j) 0) (omega arith) (omega arith))

-- where nothing can leave a set over a line, its other end is in the set too, if there is something to spare
pass-forth : (x y : Bool) (f r : ℕ) → passing x y f r ≡ 0 → x ≡ true → 1 ≤ f → y ≡ true
unfolding passing
pass-forth true true f r e x h = refl
pass-forth true false f r e x h = absurd (omega arith)
pass-forth false y f r e x h = absurd (false≢true x)

pass-back : (x y : Bool) (f r : ℕ) → passing x y f r ≡ 0 → y ≡ true → 1 ≤ r → x ≡ true
unfolding passing
pass-back true y f r e t h = refl
pass-back false true f r e t h = absurd (omega arith)
pass-back false false f r e t h = absurd (false≢true t)

line_kept : (xs ys fs rs : List ℕ) (l u : ℕ) (T : Devices)
    → passing (T (get_or xs l 0)) (T (get_or ys l 0)) (get_or fs l 0) (get_or rs l 0) ≡ 0
    → touches xs ys l u ≡ true → 1 ≤ spare_from_of xs fs rs l u → T u ≡ true → T (far_end_of xs ys l u) ≡ true
unfolding touches spare_from_of far_end_of
line_kept xs ys fs rs l u T none t h m = go (eqb (get_or xs l 0) u) refl t h
  where
    go : (s : Bool) → eqb (get_or xs l 0) u ≡ s → (s || eqb (get_or ys l 0) u) ≡ true → 1 ≤ cond s (get_or fs l 0) (get_or rs l 0)
        → T (cond s (get_or ys l 0) (get_or xs l 0)) ≡ true
    go true e t h = pass-forth (T (get_or xs l 0)) (T (get_or ys l 0)) (get_or fs l 0) (get_or rs l 0) none (rw (eqb-true (get_or xs l 0) u e) m) h
    go false e t h = pass-back (T (get_or xs l 0)) (T (get_or ys l 0)) (get_or fs l 0) (get_or rs l 0) none (rw (eqb-true (get_or ys l 0) u t) m) h

none_left : (m : ℕ) → (1 ≤ m → ⊥) → m ≡ 0
none_left zero h = refl
none_left (suc m) h = absurd (h (suc-le-suc zero-le))

none-passing : (x y : Bool) (f r : ℕ) → (x ≡ true → 1 ≤ f → y ≡ true) → (y ≡ true → 1 ≤ r → x ≡ true) → passing x y f r ≡ 0
unfolding passing
none-passing true true f r a b = refl
none-passing true false f r a b = none_left f (λ h. false≢true (a refl h))
none-passing false true f r a b = none_left r (λ h. false≢true (b refl h))
none-passing false false f r a b = refl

-- every node in the queue is a node of the network
pub nodes-below : {xs ys nodes vias froms : List ℕ} {count : ℕ} (n : ℕ) → Way xs ys nodes vias froms count → get_or nodes 0 0 < n
    → ((l : ℕ) → l < length xs → get_or xs l 0 < n) → ((l : ℕ) → l < length xs → get_or ys l 0 < n)
    → (j : ℕ) → j < count → get_or nodes j 0 < n
unfolding far_end_of
nodes-below {xs} {ys} {nodes} {vias} {froms} n way root first second =
    way-all way (λ u. u < n) root (λ j s b h. rw (way.reaches j s b) at (far (get_or vias j 0) (eqb (get_or xs (get_or vias j 0) 0) (get_or nodes (get_or froms j 0) 0)) (way.line j s b)))
  where
    far : (l : ℕ) (s : Bool) → l < length xs → cond s (get_or ys l 0) (get_or xs l 0) < n
    far l true b = second l b
    far l false b = first l b

-- the nodes that are marked 1
abbrev marked : List ℕ → Devices
marked marks v = eqb (get_or marks v 0) 1

-- a search that has gone through its whole queue and found no drain: the marked nodes are the least set
module _ {n : ℕ} {xs ys zs ds : List ℕ} {d : ℕ} {fs rs ws : List ℕ} {nodes vias froms marks : List ℕ} {count : ℕ}
    (laid : Laid xs ys) (few : n ≤ 128)
    (spares : Spares n xs ys zs ds d fs rs ws) (scan : Scan xs ys fs rs ws d nodes vias froms marks count count (length xs)) where
  reached : (v : ℕ) → v < 128 → marked marks v ≡ true → (j : ℕ) × (j < count) × (get_or nodes j 0 ≡ v)
  reached v b m = go (scan.covered.tree.listed v b)
    where
      go : (get_or marks v 0 ≡ 0) ⊎ ((j : ℕ) × (j < count) × (get_or nodes j 0 ≡ v)) → (j : ℕ) × (j < count) × (get_or nodes j 0 ≡ v)
      go (inl z) = absurd (omega (arith, eqb-true (get_or marks v 0) 1 m))
      go (inr r) = r

  onward : (l v : ℕ) → l < length xs → v < 128 → marked marks v ≡ true → touches xs ys l v ≡ true → 1 ≤ spare_from_of xs fs rs l v
      → marked marks (far_end_of xs ys l v) ≡ true
  onward l v h b m t r =
      let at = reached v b m in
      let far : touches xs ys l v ≡ true → 1 ≤ spare_from_of xs fs rs l v → get_or marks (far_end_of xs ys l v) 0 ≡ 1 = rw at.2 at (scan.covered.shut at.0 at.1 l h) in
      eq-eqb (get_or marks (far_end_of xs ys l v) 0) 1 (far t r)

  lines-shut : lines_leave xs ys fs rs (marked marks) ≡ 0
  unfolding lines_leave
  lines-shut = zero-sum (length xs) _ (λ l b. none-passing (marked marks (get_or xs l 0)) (marked marks (get_or ys l 0)) (get_or fs l 0) (get_or rs l 0) (forth l b) (back l b))
    where
      forth : (l : ℕ) → l < length xs → marked marks (get_or xs l 0) ≡ true → 1 ≤ get_or fs l 0 → marked marks (get_or ys l 0) ≡ true
      forth l b m h = rw (far-first xs ys l (get_or xs l 0) refl) at (onward l (get_or xs l 0) b (laid.first l b) m (touches-first xs ys l (get_or xs l 0) refl) (rw (spare-first xs fs rs l (get_or xs l 0) refl) h))

      back : (l : ℕ) → l < length xs → marked marks (get_or ys l 0) ≡ true → 1 ≤ get_or rs l 0 → marked marks (get_or xs l 0) ≡ true
      back l b m h =
          let differ : get_or xs l 0 ≡ get_or ys l 0 → ⊥ = λ e. omega (arith, laid.differ l b) in
          rw (far-second xs ys l (get_or ys l 0) differ) at (onward l (get_or ys l 0) b (laid.second l b) m (touches-second xs ys l (get_or ys l 0) refl) (rw (spare-second xs fs rs l (get_or ys l 0) differ) h))

  marked-dry : (v : ℕ) → v < n → marked marks v ≡ true → get_or ws v 0 ≡ 0
  marked-dry v b m =
      let at = reached v (le_trans b few) m in
      rw at.2 at (scan.dry at.0 at.1)

  drains-shut : drains_leave n ws (marked marks) ≡ 0
  unfolding drains_leave
  drains-shut = zero-sum n _ (λ v b. at v b (marked marks v) refl)
    where
      at : (v : ℕ) → v < n → (m : Bool) → marked marks v ≡ m → cond m (get_or ws v 0) 0 ≡ 0
      at v b true m = marked-dry v b m
      at v b false m = refl

  marked-root : marked marks d ≡ true
  marked-root = eq-eqb (get_or marks d 0) 1 (rw scan.covered.tree.root at (scan.covered.tree.marked 0 scan.covered.tree.some))

  marked-cost : net_cost (lines_of xs ys zs) (λ v. get_or ds v 0) n (marked marks) ≡ spares.sent
  marked-cost = omega (arith, spares.share (marked marks) marked-root, lines-shut, drains-shut)

  -- a set that nothing can leave holds every marked node
  marked-least : (T : Devices) → T d ≡ true → lines_leave xs ys fs rs T ≡ 0 → Inside n (marked marks) T
  unfolding lines_leave
  marked-least T t none v b m =
      let at = reached v (le_trans b few) m in
      rw at.2 at (way-all scan.covered.tree.way (λ u. T u ≡ true) (rw scan.covered.tree.root t) step at.0 at.1)
    where
      step : (j : ℕ) → 1 ≤ j → j < count → T (get_or nodes (get_or froms j 0) 0) ≡ true → T (get_or nodes j 0) ≡ true
      step j s b h =
          let way = scan.covered.tree.way in
          rw (way.reaches j s b)
          at (line_kept xs ys fs rs (get_or vias j 0) (get_or nodes (get_or froms j 0) 0) T (sum-zero (length xs) _ none (get_or vias j 0) (way.line j s b)) (way.leaves j s b) (scan.covered.tree.passable j s b) h)

  pub spares-done : IsLeast (lines_of xs ys zs) (λ v. get_or ds v 0) n d (λ v. eqb (get_or marks v 0) 1)
  spares-done = record {
    holds = marked-root;
    least = λ T t. omega (arith, marked-cost, spares.share T t);
    inside = λ T t l. marked-least T t (omega (arith, marked-cost, spares.share T t));
  }

  pub spares-marks : (v : ℕ) → v < n → get_or marks v 0 ≡ cond (eqb (get_or marks v 0) 1) 1 0
  spares-marks v b = go (scan.covered.tree.listed v (le_trans b few))
    where
      go : (get_or marks v 0 ≡ 0) ⊎ ((j : ℕ) × (j < count) × (get_or nodes j 0 ≡ v)) → get_or marks v 0 ≡ cond (eqb (get_or marks v 0) 1) 1 0
      go (inl z) = rw z
      go (inr r) = rw (rw r.2 at (scan.covered.tree.marked r.0 r.1))
