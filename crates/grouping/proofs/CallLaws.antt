-- What the calls answer and leave in the lent list, refused and accepted, from what the search for owners promises.
-- Assumes nothing.
use mathlib.Core.Path.{◌≡◌, refl, sym, subst, ◌∙◌, ap}
use mathlib.Core.List.{List}
use mathlib.Core.Logic.{⊎_elim}
use Prim.Native.Nat.{ℕ, ◌≤◌, ◌<◌}
use native.Mathlib.Omega.{arith}
use lib.ListN.{length, get_or, replicate}
use borrow.Author.Tests.{ne_eqb}
use Rattle.rules.specs.Refusal.{Refusal}
use Rattle.rules.specs.Plant.{Plant, plant_of}
use Rattle.rules.specs.Accepted.{Sound}
use Rattle.rules.specs.Groups.{table, groups, distinct}
use Rattle.rules.specs.Refusals.{done}
use Rattle.rules.proofs.RefusalLaws.{accepted-sound}
use Rattle.rules.specs.Lists.{over}
use Rattle.cut.specs.Calls.{owners_fault, owners_of, owners_after}
use Rattle.rules.proofs.RangeLaws.{InRange, range-in}
use Rattle.grouping.specs.Calls.{grouping_fault, grouping_answer, labels_after}
use Rattle.grouping.specs.Level.{first_with, IsLevel, Swept}
use Rattle.grouping.specs.declared.level.Level.{Level}
use Rattle.grouping.proofs.FaultLaws.{Clear, owners-done, owners-cases, grouping-short, grouping-done}
use Rattle.grouping.proofs.LevelLaws.{swept_all, swept-devices, swept-groups, swept-level}

module _ (n : ℕ) (xs ys zs : List ℕ) (p q : ℕ) where
  abbrev g : Plant
  g = plant_of n xs ys zs

  abbrev fault : Refusal
  fault = owners_fault n xs ys zs p q 128

  -- a search that is not refused
  pub clear_of : (r : Refusal) → r ≡ fault → r.number ≡ 0 → Clear n xs ys zs p q
  clear_of r e z = ⊎_elim (λ c. c) (λ h. absurd (h.1 (ap (λ (t : Refusal). t.number) (sym e) ∙ z))) (owners-cases n xs ys zs p q 0)

  module _ (clear : Clear n xs ys zs p q) where
    sound : Sound g
    sound = accepted-sound n xs ys zs clear.accepted

    range : InRange p q
    range = range-in p q clear.rate

    -- what the search for owners leaves
    pub at-swept : (owner : List ℕ) → owner ≡ over (owners_of (plant_of n xs ys zs) p q) (replicate 128 0) → Swept (plant_of n xs ys zs) p q owner
    at-swept owner e = swept_all g p q sound range.p_least (replicate 128 0) owner e

    pub all-swept : (owner : List ℕ) → owner ≡ owners_after n xs ys zs p q (replicate 128 0) → Swept g p q owner
    unfolding owners_after done
    all-swept owner e = at-swept owner (e ∙ rw (owners-done n xs ys zs p q clear))

    module _ {owner : List ℕ} (swept : Swept (plant_of n xs ys zs) p q owner) where
      pub found-devices : (v : ℕ) → v < n → get_or owner v 0 < n
      unfolding plant_of
      found-devices = swept-devices g p q sound range.p_least swept

      pub found-groups : table n (first_with n owner) ≡ groups g p q
      unfolding plant_of
      found-groups = swept-groups g p q sound range.p_least swept

      pub found-level : {level : Level} → (level.owner ≡ owner) × (level.labels ≡ over (table n (first_with n owner)) (replicate 128 0)) × (level.groups ≡ distinct (table n (first_with n owner)))
          → IsLevel g p q level
      unfolding plant_of
      found-level {level} (a, b, e) = subst (λ (o : List ℕ). IsLevel g p q (record { labels = level.labels; owner = o; groups = level.groups })) (sym a) (swept-level g p q sound range.p_least swept b e)

  -- the answer and the labels of a refused call
  kept : (r : Refusal) (labels : List ℕ) → grouping_fault n xs ys zs p q (length labels) ≡ r → (r.number ≡ 0 → ⊥)
      → (record { number = r.number; place = r.place; groups = 0 } ≡ grouping_answer n xs ys zs p q labels) × (labels ≡ labels_after n xs ys zs p q labels)
  unfolding grouping_answer labels_after
  kept r labels e h = rw (e, ne_eqb r.number 0 h) (refl, refl)

  pub refused : (r : Refusal) (labels : List ℕ) → r ≡ fault → (r.number ≡ 0 → ⊥)
      → (record { number = r.number; place = r.place; groups = 0 } ≡ grouping_answer n xs ys zs p q labels) × (labels ≡ labels_after n xs ys zs p q labels)
  refused r labels e h = kept r labels (⊎_elim none (λ t. t.0 ∙ sym e) (owners-cases n xs ys zs p q (length labels))) h
    where
      none : Clear n xs ys zs p q → grouping_fault n xs ys zs p q (length labels) ≡ r
      none c = absurd (h (unfold done in ap (λ (t : Refusal). t.number) (e ∙ owners-done n xs ys zs p q c)))

  pub too_short : Clear n xs ys zs p q → (labels : List ℕ) → length labels < n
      → (record { number = 12; place = 0; groups = 0 } ≡ grouping_answer n xs ys zs p q labels) × (labels ≡ labels_after n xs ys zs p q labels)
  too_short c labels h = kept (record { number = 12; place = 0 }) labels (grouping-short n xs ys zs p q c (length labels) h) (λ e. omega arith)

  -- and of an accepted one
  pub answered : Clear n xs ys zs p q → (labels : List ℕ) → n ≤ length labels → {new firsts : List ℕ} {count : ℕ} → firsts ≡ groups g p q
      → count ≡ distinct firsts → new ≡ over firsts labels
      → (record { number = 0; place = 0; groups = count } ≡ grouping_answer n xs ys zs p q labels) × (new ≡ labels_after n xs ys zs p q labels)
  unfolding grouping_answer labels_after done
  answered c labels h e a b = rw (grouping-done n xs ys zs p q c (length labels) h, a, b, e) (refl, refl)
