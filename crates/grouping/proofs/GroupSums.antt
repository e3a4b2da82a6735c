-- Lists with a number for each label, added up item by item: the shares of devices, and the outs of groups, line by line.
--     Tally      after k items each number is what it was before them and the sum of what they add to it
--     sizes-shared  shares of 1 are the sizes
--     outed-..   the outs
-- Assumes nothing.
use Prim.Native.Nat.{ℕ, ◌+◌, ◌*◌, ◌≤◌, ◌<◌}
use mathlib.Core.Path.{◌≡◌, refl, sym, ap, ◌∙◌}
use mathlib.Core.Bool.{Bool, true, false, cond}
use mathlib.Core.List.{List}
use native.Mathlib.Nat.{le_trans, add-zero, zero-add, one-mul}
use native.Mathlib.Numerals.{add-one}
use native.Mathlib.Decide.{ℕ_discrete}
use native.Mathlib.Omega.{arith}
use mir.Syntax.{w64}
use mir.Val.{Fits}
use lib.Dec.{eqb}
use lib.ListN.{length, get_or, set, replicate, length-set, length-replicate, get_or-replicate}
use lib.Seq.{get_or-set_same, get_or-set_other}
use borrow.Author.Tests.{eqb-true, eq-eqb, ne_eqb}
use Rattle.rules.specs.Plant.{plant_of}
use Rattle.rules.specs.Cut.{crossing}
use Rattle.rules.specs.Numbers.{sum}
use Rattle.rules.specs.Accepted.{Accepted}
use Rattle.rules.proofs.PlantLaws.{crossing_most}
use Rattle.rules.proofs.SumLaws.{sum-most, out-sum}
use Rattle.grouping.specs.Between.{Shared}
use Rattle.grouping.specs.Stretch.{with_label, LabelsBelow, SizesOf, OutsOf}

-- x more at place i
abbrev pub more : List ℕ → ℕ → ℕ → List ℕ
more l i x = set l i (get_or l i 0 + x)

pub more-at : (l : List ℕ) (i x h : ℕ) → i < length l → get_or (more l i x) h 0 ≡ get_or l h 0 + cond (eqb i h) x 0
more-at l i x h b = go (ℕ_discrete h i)
  where
    go : Dec (h ≡ i) → get_or (more l i x) h 0 ≡ get_or l h 0 + cond (eqb i h) x 0
    go (yes e) = rw (e, get_or-set_same l i (get_or l i 0 + x) 0 b, eq-eqb i i refl)
    go (no ne) = rw (get_or-set_other l i h (get_or l i 0 + x) 0 ne, ne_eqb i h (λ e. ne (sym e))) (sym (add-zero (get_or l h 0)))

-- after k items, base h being the number of label h before them and f h j what item j adds to it
pub record Tally (n : ℕ) (base : ℕ → ℕ) (f : ℕ → ℕ → ℕ) (list : List ℕ) (k : ℕ) : Type 0 where
  pub wide : length list ≡ 128
  pub so_far : (h : ℕ) → h < n → get_or list h 0 ≡ base h + sum k (f h)

-- the numbers before the first item, where each is 0
abbrev pub none : ℕ → ℕ
none h = 0

module _ (n : ℕ) where
  pub tally-from : (base : ℕ → ℕ) (f : ℕ → ℕ → ℕ) {list : List ℕ} → length list ≡ 128 → ((h : ℕ) → h < n → get_or list h 0 ≡ base h) → Tally n base f list 0
  unfolding sum
  tally-from base f w e = record { wide = w; so_far = λ h l. e h l ∙ sym (add-zero (base h)) }

  pub tally-start : (f : ℕ → ℕ → ℕ) → n ≤ 128 → Tally n none f (replicate 128 0) 0
  tally-start f small = tally-from none f (length-replicate {A = ℕ} 128 0) (λ h l. get_or-replicate {A = ℕ} 128 h 0 0 (omega arith))

module _ {n : ℕ} {base : ℕ → ℕ} {f : ℕ → ℕ → ℕ} {list : List ℕ} {k : ℕ} (t : Tally n base f list k) where
  pub tally-next : {list' : List ℕ} → length list' ≡ length list → ((h : ℕ) → h < n → get_or list' h 0 ≡ get_or list h 0 + f h k) → Tally n base f list' (k + 1)
  unfolding sum
  tally-next w e = record { wide = w ∙ t.wide; so_far = λ h l. rw (add-one k) (omega (arith, e h l, t.so_far h l)) }

  pub tally-most : (b : ℕ) → ((h j : ℕ) → j < k → f h j ≤ b) → (h : ℕ) → h < n → get_or list h 0 ≤ base h + k * b
  tally-most b most h l = omega (arith, t.so_far h l, sum-most k (f h) b (most h))

-- shares of 1 are the sizes
pub sizes-shared : (n : ℕ) (xs ys zs labels sizes : List ℕ) → Shared n 1 labels sizes → SizesOf (plant_of n xs ys zs) labels sizes
unfolding with_label plant_of
sizes-shared n xs ys zs labels sizes shared h l = shared (plant_of n xs ys zs) refl h l ∙ one-mul _

-- what line l adds to the out of the group with label h
abbrev pub out_of : List ℕ → List ℕ → List ℕ → List ℕ → ℕ → ℕ → ℕ
out_of xs ys zs labels h l = crossing (get_or zs l 0) (with_label labels h (get_or xs l 0)) (with_label labels h (get_or ys l 0))

pub crossing-none : (s : ℕ) (b : Bool) → crossing s b b ≡ 0
unfolding crossing
crossing-none s true = refl
crossing-none s false = refl

-- a line between two labels counts for both of them and for no other
crossing-both : (s i j h : ℕ) → (i ≡ j → ⊥) → cond (eqb i h) s 0 + cond (eqb j h) s 0 ≡ crossing s (eqb i h) (eqb j h)
unfolding crossing
crossing-both s i j h ne = go (eqb i h) (eqb j h) refl refl
  where
    go : (a b : Bool) → eqb i h ≡ a → eqb j h ≡ b → cond a s 0 + cond b s 0 ≡ crossing s a b
    go true true e f = absurd (ne (eqb-true i h e ∙ sym (eqb-true j h f)))
    go true false e f = add-zero s
    go false true e f = omega arith
    go false false e f = refl

-- line l: the labels of its ends are devices, its signals few, and the numbers of its two labels at most top
pub record LineFits (n : ℕ) (xs ys zs labels list : List ℕ) (l top : ℕ) : Type 0 where
  pub first_label : get_or labels (get_or xs l 0) 0 < n
  pub second_label : get_or labels (get_or ys l 0) 0 < n
  pub few : get_or zs l 0 ≤ 65535
  pub first_top : get_or list (get_or labels (get_or xs l 0) 0) 0 ≤ top
  pub second_top : get_or list (get_or labels (get_or ys l 0) 0) 0 ≤ top
  pub most_lines : l < 1024
  pub most_devices : n ≤ 128

pub line-fits : {n : ℕ} {xs ys zs : List ℕ} (labels list : List ℕ) (l top : ℕ) → Accepted n xs ys zs → LabelsBelow n labels → l < length xs
    → ((h : ℕ) → h < n → get_or list h 0 ≤ top) → LineFits n xs ys zs labels list l top
line-fits {n} {xs} {ys} labels list l top a below b most = record {
  first_label = first_label;
  second_label = second_label;
  few = a.most_signals l b;
  first_top = most _ first_label;
  second_top = most _ second_label;
  most_lines = omega (arith, a.most_lines);
  most_devices = a.most_devices;
}
  where
    first_label : get_or labels (get_or xs l 0) 0 < n
    first_label = below _ (a.first_device l b)

    second_label : get_or labels (get_or ys l 0) 0 < n
    second_label = below _ (a.second_device l b)

-- both labels of line l are entries of the list
module _ {n : ℕ} {xs ys zs labels list : List ℕ} {l top : ℕ} (k : LineFits n xs ys zs labels list l top) where
  pub first-label-in : get_or labels (get_or xs l 0) 0 < 128
  first-label-in = omega arith

  pub second-label-in : get_or labels (get_or ys l 0) 0 < 128
  second-label-in = omega arith

-- the signals of one more line still fit
pub outed-sum : {x s l : ℕ} → x ≤ l * 65535 → l < 1024 → s ≤ 65535 → Fits w64 (x + s)
outed-sum a b c = omega arith

module _ (n : ℕ) (xs ys zs labels : List ℕ) where
  abbrev f : ℕ → ℕ → ℕ
  f = out_of xs ys zs labels

  module _ {outs : List ℕ} {l : ℕ} (t : Tally n none (out_of xs ys zs labels) outs l) where
    abbrev i : ℕ
    i = get_or labels (get_or xs l 0) 0

    abbrev j : ℕ
    j = get_or labels (get_or ys l 0) 0

    abbrev s : ℕ
    s = get_or zs l 0

    outed-most : ((k : ℕ) → k < l → get_or zs k 0 ≤ 65535) → (h : ℕ) → h < n → get_or outs h 0 ≤ l * 65535
    outed-most most h b =
        omega (
          arith,
          tally-most t 65535
              (λ h k b. le_trans (crossing_most (get_or zs k 0) (with_label labels h (get_or xs k 0)) (with_label labels h (get_or ys k 0))) (most k b))
              h
              b,
        )

    pub outed-fits : Accepted n xs ys zs → LabelsBelow n labels → l < length xs → LineFits n xs ys zs labels outs l (l * 65535)
    outed-fits a below b = line-fits labels outs l (l * 65535) a below b (outed-most (λ k m. a.most_signals k (omega arith)))

    pub outed-other : i ≡ j → Tally n none (out_of xs ys zs labels) outs (l + 1)
    unfolding with_label
    outed-other e = tally-next t refl (λ h b. rw (e, crossing-none s (eqb j h)) (sym (add-zero (get_or outs h 0))))

    pub outed-both : (i ≡ j → ⊥) → i < 128 → j < 128
        → Tally n none (out_of xs ys zs labels) (set (set outs i (get_or outs i 0 + s)) j (get_or (set outs i (get_or outs i 0 + s)) j 0 + s)) (l + 1)
    unfolding with_label
    outed-both ne bi bj =
        tally-next t (simp length-set)
        (λ h b.
        let first = more-at outs i s h (omega (arith, t.wide)) in
        let second = more-at (more outs i s) j s h (simp length-set (omega (arith, t.wide))) in
        omega (arith, crossing-both s i j h ne))

  pub outed-done : Accepted n xs ys zs → {outs : List ℕ} {l : ℕ} → Tally n none (out_of xs ys zs labels) outs l → l ≡ length xs → OutsOf (plant_of n xs ys zs) labels outs
  unfolding plant_of
  outed-done a t e h b =
      t.so_far h b
      ∙ zero-add _
      ∙ ap (λ (m : ℕ). sum m (f h)) e
      ∙ sym (out-sum xs ys zs (with_label labels h) a.one_length a.one_length')
