-- The row of a level in the label list: entry by entry, kept where its entries are, and written entry by entry or over by a level; entries that fillings leave alone.
-- Assumes nothing.
use Prim.Native.Nat.{ℕ, suc, ◌+◌, ◌-◌, ◌*◌, ◌≤◌, ◌<◌}
use mathlib.Core.Path.{◌≡◌, refl, sym, ap, subst, ◌∙◌}
use mathlib.Core.List.{List}
use native.Mathlib.Nat.{mul-le-mul_right, suc-mul, min-le_left, le-add_right, add-sub_cancel_left}
use native.Mathlib.Omega.{arith}
use lib.ListN.{length, get_or, set, take, drop, length-set, length-take, length-drop}
use lib.Seq.{ext_get_or, get_or-take, get_or-drop, get_or-set_same, get_or-set_other, length-take-le}
use borrow.Author.Count.{below_more}
use borrow.Rule.Slice.PartMut.{put_mid}
use Rattle.std.proofs.lemmas.Slice.{between-put_mid}
use Rattle.rules.specs.Groups.{table}
use Rattle.rules.proofs.LabelLaws.{length-table, get_or-table, table-agree}
use Rattle.rules.proofs.FillLaws.{take-table}
use Rattle.grouping.specs.Calls.{row_of}
use Rattle.grouping.specs.Stretch.{KeptOutside}

-- a filling from f to t, and then one from f' to t'
pub kept-join : {f t f' t' : ℕ} {a b c : List ℕ} → f ≤ f' → t ≤ t' → KeptOutside f t a b → KeptOutside f' t' b c → KeptOutside f t' a c
kept-join l m x y = record {
  length_same = y.length_same ∙ x.length_same;
  before = λ j h. y.before j (omega arith) ∙ x.before j h;
  past = λ j h. y.past j h ∙ x.past j (omega arith);
}

-- one entry is stored
pub kept_set : (at x : ℕ) (old : List ℕ) → KeptOutside at (suc at) old (set old at x)
kept_set at x old = record {
  length_same = length-set old at x;
  before = λ j h. get_or-set_other old at j x 0 (omega arith);
  past = λ j h. get_or-set_other old at j x 0 (omega arith);
}

-- each row lies in a list with room for all of them
pub row_room : (n k rows room : ℕ) → k < rows → rows * n ≤ room → k * n + n ≤ room
row_room n k rows room h l = omega (arith, suc-mul k n, mul-le-mul_right n h)

module _ (n k : ℕ) where
  row_at : (labels : List ℕ) (v : ℕ) → v < n → get_or (row_of n labels k) v 0 ≡ get_or labels (k * n + v) 0
  unfolding row_of
  row_at labels v h = rw (get_or-take, get_or-drop)

  pub row-length : (labels : List ℕ) → k * n + n ≤ length labels → length (row_of n labels k) ≡ n
  unfolding row_of
  row-length labels h = length-take-le n (drop (k * n) labels) (rw (length-drop) (omega arith))

  row_below : (labels : List ℕ) (v : ℕ) → v < length (row_of n labels k) → v < n
  unfolding row_of
  row_below labels v h = omega (arith, rw length-take at h, min-le_left n (length (drop (k * n) labels)))

  -- the row, entry by entry
  pub row-table : (labels : List ℕ) → k * n + n ≤ length labels → row_of n labels k ≡ table n (λ v. get_or labels (k * n + v) 0)
  row-table labels h =
      ext_get_or 0 _ _ (row-length labels h ∙ sym (length-table n _)) (λ v l. let b = row_below labels v l in row_at labels v b ∙ sym (get_or-table n _ v b))

  -- two lists of one length that agree on the entries of the row
  pub row_kept : (old new : List ℕ) → length new ≡ length old → ((j : ℕ) → k * n ≤ j → j < k * n + n → get_or new j 0 ≡ get_or old j 0)
      → row_of n new k ≡ row_of n old k
  row_kept old new e same =
      ext_get_or 0 _ _ (unfold row_of in simp (length-take, length-drop, e))
      (λ v l. let b = row_below new v l in row_at new v b ∙ same (k * n + v) (omega arith) (omega arith) ∙ sym (row_at old v b))

  -- the row is written over by the front of a level
  pub row-put : (labels level ys : List ℕ) → k * n + n ≤ length labels → n ≤ length level → ys ≡ take n level
      → row_of n (put_mid (k * n) (k * n + n - k * n) labels ys) k ≡ table n (λ v. get_or level v 0)
  unfolding row_of
  row-put labels level ys h l e =
      subst (λ (m : ℕ). take m (drop (k * n) (put_mid (k * n) (k * n + n - k * n) labels ys)) ≡ ys) (add-sub_cancel_left (k * n) n)
      (between-put_mid (k * n) (k * n + n - k * n) labels ys (k * n + n) (omega arith) (omega (arith, ap length e, length-take-le n level l)))
      ∙ e
      ∙ take-table n (λ v. get_or level v 0) level l (λ v b. refl)

-- the entries from `start` on are f's, v of them so far; the rest is as it was
pub record Put (start : ℕ) (f : ℕ → ℕ) (old new : List ℕ) (v : ℕ) : Type 0 where
  pub kept : KeptOutside start (start + v) old new
  pub row : (u : ℕ) → u < v → get_or new (start + u) 0 ≡ f u

pub put-none : (start : ℕ) (f : ℕ → ℕ) (old : List ℕ) → Put start f old old 0
put-none start f old = record {
  kept = record { length_same = refl; before = λ j h. refl; past = λ j h. refl };
  row = λ u h. absurd (omega arith);
}

module _ (start : ℕ) (f : ℕ → ℕ) (old new : List ℕ) (v : ℕ) (now : Put start f old new v) where
  -- one entry is stored
  pub put-more : start + v < length old → Put start f old (set new (start + v) (f v)) (v + 1)
  put-more h = record {
    kept = kept-join (le-add_right start v) (omega arith) now.kept (rw next (kept_set (start + v) (f v) new));
    row = below_more (λ u. get_or (set new (start + v) (f v)) (start + u) 0 ≡ f u) v
        (λ u l. get_or-set_other new (start + v) (start + u) (f v) 0 (λ e. omega arith) ∙ now.row u l)
        (get_or-set_same new (start + v) (f v) 0 (omega (arith, now.kept.length_same)));
  }
    where
      next : start + (v + 1) ≡ suc (start + v)
      next = omega arith

-- the whole row is stored
pub put_all : (n k : ℕ) (f : ℕ → ℕ) (old new : List ℕ) (v : ℕ) → Put (k * n) f old new v → v ≡ n → k * n + n ≤ length old
    → KeptOutside (k * n) (k * n + n) old new × (row_of n new k ≡ table n f)
put_all n k f old new v now e h = (
  rw e at now.kept,
  row-table n k new (omega (arith, now.kept.length_same)) ∙ table-agree n _ f (λ u l. now.row u (omega arith)),
)
