-- The lines of the network between two levels, put one by one.
--     put-.., put_last    a line that is put to the lines that were: to the last one, as one more, and with its ends in the other order
--     joined-.. what the first lines of the plant make: none at the start, a line that is left out, and a line that is put
-- Assumes nothing.
use Prim.Native.Nat.{ℕ, ◌+◌, ◌-◌, ◌*◌, ◌≤◌, ◌<◌}
use mathlib.Core.Path.{◌≡◌, refl, sym, ap, ap₂, ◌∙◌}
use mathlib.Core.Bool.{Bool, true, false}
use mathlib.Core.List.{List}
use native.Mathlib.Nat.{mul-zero, mul-add, mul-le-mul, add-zero}
use native.Mathlib.Numerals.{add-one}
use native.Mathlib.Decide.{ℕ_discrete}
use native.Mathlib.Omega.{arith}
use lib.Dec.{eqb}
use lib.ListN.{length, get_or, set}
use lib.Seq.{get_or-set_same, get_or-set_other}
use borrow.Author.Tests.{eq-eqb, ne_eqb}
use Rattle.rules.specs.Cut.{Devices, crossing}
use Rattle.rules.specs.Numbers.{sum}
use Rattle.rules.specs.Accepted.{Accepted}
use Rattle.rules.proofs.SetLaws.{cond-most}
use Rattle.rules.proofs.SumLaws.{sum-agree, sum-change}
use Rattle.grouping.specs.Between.{NodesBelow, inner_part, cut_of, LinePut, Joined}
use Rattle.grouping.proofs.GroupSums.{more, more-at, crossing-none}

crossing-scaled : (q s : ℕ) (a b : Bool) → crossing (q * s) a b ≡ q * crossing s a b
unfolding crossing
crossing-scaled q s true true = sym (mul-zero q)
crossing-scaled q s true false = refl
crossing-scaled q s false true = refl
crossing-scaled q s false false = sym (mul-zero q)

crossing-turned : (s : ℕ) (a b : Bool) → crossing s a b ≡ crossing s b a
unfolding crossing
crossing-turned s true true = refl
crossing-turned s true false = refl
crossing-turned s false true = refl
crossing-turned s false false = refl

crossing-added : (s t : ℕ) (a b : Bool) → crossing (s + t) a b ≡ crossing s a b + crossing t a b
unfolding crossing
crossing-added s t true true = refl
crossing-added s t true false = refl
crossing-added s t false true = refl
crossing-added s t false false = refl

-- what line j of the network adds to the cut of N
abbrev part : List ℕ → List ℕ → List ℕ → Devices → ℕ → ℕ
part lower upper widths N j = crossing (get_or widths j 0) (N (get_or lower j 0)) (N (get_or upper j 0))

module _ (width x y : ℕ) (lower upper widths : List ℕ) (m : ℕ) where
  -- the last line joins the same two nodes
  module _ (some : 0 < m) (room : m < length widths) (low : get_or lower (m - 1) 0 ≡ x) (high : get_or upper (m - 1) 0 ≡ y) where
    abbrev wider : List ℕ
    wider = more widths (m - 1) width

    last-part : (N : Devices) → part lower upper wider N (m - 1) ≡ part lower upper widths N (m - 1) + crossing width (N x) (N y)
    last-part N =
        rw (get_or-set_same widths (m - 1) (get_or widths (m - 1) 0 + width) 0 (omega arith), low, high)
        (crossing-added (get_or widths (m - 1) 0) width (N x) (N y))

    last-cut : (N : Devices) → cut_of lower upper wider N m ≡ cut_of lower upper widths N m + crossing width (N x) (N y)
    last-cut N =
        let change = sum-change m (part lower upper widths N) (part lower upper wider N) (m - 1) (omega arith) (λ k b ne. rw (get_or-set_other widths (m - 1) k (get_or widths (m - 1) 0 + width) 0 ne)) in
        omega (arith, last-part N)

    pub put_last : LinePut width x y lower upper widths m lower upper (set widths (m - 1) (get_or widths (m - 1) 0 + width)) m
    put_last = record {
      few = omega arith;
      rising = λ h. h;
      ends = λ n bx by h. h;
      width_most = λ b h j l. omega (arith, h j l, more-at widths (m - 1) width j (omega arith), cond-most (eqb (m - 1) j) width);
      cut = last-cut;
    }

  -- one more line
  module _ (rises : x < y) (room : (m < length lower) × (m < length upper) × (m < length widths)) where
    -- what holds of the new line, and held of the lines below it
    more-line : (P : ℕ → ℕ → ℕ → Type 0) → P x y width → ((j : ℕ) → j < m → P (get_or lower j 0) (get_or upper j 0) (get_or widths j 0))
        → (j : ℕ) → j < m + 1 → P (get_or (set lower m x) j 0) (get_or (set upper m y) j 0) (get_or (set widths m width) j 0)
    more-line P new old j l = go (ℕ_discrete j m)
      where
        go : Dec (j ≡ m) → P (get_or (set lower m x) j 0) (get_or (set upper m y) j 0) (get_or (set widths m width) j 0)
        go (yes e) = rw (e, get_or-set_same lower m x 0 room.0, get_or-set_same upper m y 0 room.1, get_or-set_same widths m width 0 room.2) new
        go (no ne) = rw (get_or-set_other lower m j x 0 ne, get_or-set_other upper m j y 0 ne, get_or-set_other widths m j width 0 ne) (old j (omega arith))

    more_cut : (N : Devices) → cut_of (set lower m x) (set upper m y) (set widths m width) N (m + 1) ≡ cut_of lower upper widths N m + crossing width (N x) (N y)
    unfolding sum
    more_cut N =
        rw (add-one m)
        (ap₂ ◌+◌
        (sum-agree m (part (set lower m x) (set upper m y) (set widths m width) N) (part lower upper widths N)
        (λ j b.
        let ne : j ≡ m → ⊥ = λ e. omega arith in
        rw (get_or-set_other lower m j x 0 ne, get_or-set_other upper m j y 0 ne, get_or-set_other widths m j width 0 ne)))
        (rw (get_or-set_same lower m x 0 room.0, get_or-set_same upper m y 0 room.1, get_or-set_same widths m width 0 room.2)))

    pub put-more : LinePut width x y lower upper widths m (set lower m x) (set upper m y) (set widths m width) (m + 1)
    put-more = record {
      few = omega arith;
      rising = λ h. more-line (λ a b w. a < b) rises h;
      ends = λ n bx by h. more-line (λ a b w. b < n) by h;
      width_most = λ c h. more-line (λ a b w. w ≤ c + width) (omega arith) (λ j l. omega (arith, h j l));
      cut = more_cut;
    }

  -- the ends in the other order
  pub put-turned : {lower' upper' widths' : List ℕ} {r : ℕ} → LinePut width y x lower upper widths m lower' upper' widths' r → LinePut width x y lower upper widths m lower' upper' widths' r
  put-turned p = record {
    few = p.few;
    rising = p.rising;
    ends = λ n bx by h. p.ends n by bx h;
    width_most = p.width_most;
    cut = λ N. p.cut N ∙ ap (λ (c : ℕ). cut_of lower upper widths N m + c) (crossing-turned width (N y) (N x));
  }

module _ (n : ℕ) (xs ys zs : List ℕ) (q : ℕ) (node wall : List ℕ) where
  pub joined-start : (lower upper widths : List ℕ) → Joined n xs ys zs q node wall 0 lower upper widths 0
  unfolding sum
  joined-start lower upper widths = record {
    few = omega arith;
    rising = λ j l. absurd (omega arith);
    ends = λ j l. absurd (omega arith);
    width = λ j l. absurd (omega arith);
    cut = λ N. sym (mul-zero q);
  }

  module _ {l : ℕ} {lower upper widths : List ℕ} {m : ℕ} (j : Joined n xs ys zs q node wall l lower upper widths m) where
    abbrev x : ℕ
    x = get_or node (get_or xs l 0) 0

    abbrev y : ℕ
    y = get_or node (get_or ys l 0) 0

    abbrev z : ℕ
    z = get_or zs l 0

    -- a line that gives no set of nodes a cut
    left_out : ((N : Devices) → inner_part xs ys zs node wall N l ≡ 0) → Joined n xs ys zs q node wall (l + 1) lower upper widths m
    unfolding sum
    left_out none = record {
      few = omega (arith, j.few);
      rising = j.rising;
      ends = j.ends;
      width = λ i b. omega (arith, j.width i b);
      cut = λ N. rw (add-one l, none N, add-zero) (j.cut N);
    }

    pub joined-inside : x ≡ y → Joined n xs ys zs q node wall (l + 1) lower upper widths m
    joined-inside e = left_out (λ N. rw (e, crossing-none z (N y), eq-eqb (get_or wall y 0) (get_or wall y 0) refl))

    pub joined-outside : (get_or wall x 0 ≡ get_or wall y 0 → ⊥) → Joined n xs ys zs q node wall (l + 1) lower upper widths m
    joined-outside ne = left_out (λ N. rw (ne_eqb (get_or wall x 0) (get_or wall y 0) ne))

    pub joined-put : Accepted n xs ys zs → NodesBelow n node → q ≤ 1000 → l < length xs → get_or wall x 0 ≡ get_or wall y 0 → {lower' upper' widths' : List ℕ} {r : ℕ}
        → LinePut (q * z) x y lower upper widths m lower' upper' widths' r
        → Joined n xs ys zs q node wall (l + 1) lower' upper' widths' r
    unfolding sum
    joined-put a below small b e p = record {
      few = omega (arith, j.few, p.few);
      rising = p.rising j.rising;
      ends = p.ends n (below _ (a.first_device l b)) (below _ (a.second_device l b)) j.ends;
      width = λ i c. omega (arith, p.width_most (l * 65535000) j.width i c, mul-le-mul small (a.most_signals l b));
      cut = λ N.
          p.cut N
          ∙ ap₂ ◌+◌ (j.cut N) (crossing-scaled q z (N x) (N y))
          ∙ rw (add-one l, eq-eqb (get_or wall x 0) (get_or wall y 0) e) (sym (mul-add q (sum l (inner_part xs ys zs node wall N)) (crossing z (N x) (N y))));
    }
