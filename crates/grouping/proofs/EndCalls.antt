-- The levels at the largest and at the least rate: the two ends of every search between known levels.
--     alone, alone-label   at the largest rate every device is alone, and its own label
--     ends-span            where the two levels differ, they are two known levels
-- Assumes nothing.
use Prim.Native.Nat.{ℕ, ◌<◌}
use mathlib.Core.Path.{◌≡◌, sym, ap, ◌∙◌}
use mathlib.Core.List.{List}
use native.Mathlib.Nat.{le_refl}
use native.Mathlib.Omega.{arith}
use lib.ListN.{get_or}
use Rattle.rules.specs.Plant.{Plant, plant_of}
use Rattle.rules.specs.Accepted.{Accepted}
use Rattle.rules.specs.Groups.{table, label, groups}
use Rattle.rules.proofs.LabelLaws.{get_or-table, groups-at}
use Rattle.rules.proofs.EndLaws.{top-accepted}
use Rattle.grouping.specs.declared.level.Level.{Level}
use Rattle.grouping.specs.Level.{IsLevel}
use Rattle.grouping.specs.Stretch.{Span}

module _ (n : ℕ) (xs ys zs : List ℕ) (a : Accepted n xs ys zs) where
  pub alone : groups (plant_of n xs ys zs) 100000000 1 ≡ table n (λ v. v)
  alone = top-accepted n xs ys zs 100000000 1 a (le_refl 1) (le_refl 100000000)

  pub alone-label : (v : ℕ) → v < n → label (plant_of n xs ys zs) 100000000 1 v ≡ v
  unfolding plant_of
  alone-label v h = sym (groups-at (plant_of n xs ys zs) 100000000 1 v h) ∙ ap (λ (l : List ℕ). get_or l v 0) alone ∙ get_or-table n (λ k. k) v h

pub ends-span : {g : Plant} {finest coarsest : Level} → IsLevel g 100000000 1 finest → IsLevel g 1 1000 coarsest → (groups g 100000000 1 ≡ groups g 1 1000 → ⊥)
    → Span g 100000000 1 1 1000 finest.labels finest.owner finest.groups coarsest.labels coarsest.groups
ends-span top bottom differ = record {
  apart = record {
    some_ap = omega arith;
    some_aq = le_refl 1;
    some_bp = le_refl 1;
    some_bq = omega arith;
    lower = omega arith;
    finer_is = top.labelled;
    coarser_is = bottom.labelled;
    differ = differ;
  };
  owned = top.owned;
  finer_count = top.counted;
  coarser_count = bottom.counted;
}
