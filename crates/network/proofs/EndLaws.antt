-- The ends of a line: whether a node is one, the other end, and the spare out of it.
-- Assumes nothing.
use Prim.Native.Nat.{ℕ}
use mathlib.Core.Path.{◌≡◌}
use mathlib.Core.Bool.{true, false, or-true}
use mathlib.Core.List.{List}
use borrow.Author.Tests.{eq-eqb, ne_eqb, eqb-true}
use lib.Dec.{eqb}
use lib.ListN.{get_or}
use Rattle.network.specs.Search.{touches, far_end_of, spare_from_of}

-- whether a node is an end of line l
module _ (xs ys : List ℕ) (l v : ℕ) where
  pub touches-first : get_or xs l 0 ≡ v → touches xs ys l v ≡ true
  unfolding touches
  touches-first e = rw (eq-eqb _ _ e)

  pub touches-second : get_or ys l 0 ≡ v → touches xs ys l v ≡ true
  unfolding touches
  touches-second e = rw (eq-eqb _ _ e) (or-true (eqb (get_or xs l 0) v))

  pub touches-neither : (get_or xs l 0 ≡ v → ⊥) → (get_or ys l 0 ≡ v → ⊥) → touches xs ys l v ≡ false
  unfolding touches
  touches-neither h i = rw (ne_eqb _ _ h, ne_eqb _ _ i)

  -- the end that is not the first is the second
  pub touches-other : touches xs ys l v ≡ true → (get_or xs l 0 ≡ v → ⊥) → get_or ys l 0 ≡ v
  unfolding touches
  touches-other t h = eqb-true _ _ (rw (ne_eqb _ _ h) at t)

-- the ends of line l
module _ (xs ys : List ℕ) (l u : ℕ) where
  pub far-first : get_or xs l 0 ≡ u → far_end_of xs ys l u ≡ get_or ys l 0
  unfolding far_end_of
  far-first e = rw (eq-eqb _ _ e)

  pub far-second : (get_or xs l 0 ≡ u → ⊥) → far_end_of xs ys l u ≡ get_or xs l 0
  unfolding far_end_of
  far-second h = rw (ne_eqb _ _ h)

-- the spare of line l out of u
module _ (xs fs rs : List ℕ) (l u : ℕ) where
  pub spare-first : get_or xs l 0 ≡ u → spare_from_of xs fs rs l u ≡ get_or fs l 0
  unfolding spare_from_of
  spare-first e = rw (eq-eqb _ _ e)

  pub spare-second : (get_or xs l 0 ≡ u → ⊥) → spare_from_of xs fs rs l u ≡ get_or rs l 0
  unfolding spare_from_of
  spare-second h = rw (ne_eqb _ _ h)
