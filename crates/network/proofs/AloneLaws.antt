-- A node that no line touches is its own least set: it alone costs its drain, and every set that holds it costs at least that; and the owners where no node has a line (owners-alone).
-- Assumes nothing.
use Prim.Native.Nat.{ℕ, zero, suc, ◌≤◌, ◌<◌, zero-le}
use mathlib.Core.Path.{◌≡◌, refl, sym, ◌∙◌}
use mathlib.Core.Bool.{Bool, true, false, ◌||◌, cond, true≢false, false≢true}
use mathlib.Core.List.{List}
use native.Mathlib.Decide.{ℕ_discrete, dec_lt}
use native.Mathlib.Omega.{arith}
use lib.Dec.{eqb}
use lib.ListN.{length, get_or, set, length-set}
use lib.Seq.{ext_get_or, get_or-set_same, get_or-set_other}
use borrow.Author.Tests.{eqb-true, eq-eqb, ne_eqb}
use Rattle.rules.specs.Plant.{lines_of}
use Rattle.rules.specs.Cut.{Devices, crossing, out}
use Rattle.rules.specs.Groups.{table}
use Rattle.rules.specs.Lists.{over}
use Rattle.rules.specs.Network.{drained, net_cost, IsLeast}
use Rattle.rules.specs.Sweep.{sweep, wanted_in}
use Rattle.rules.proofs.FillLaws.{over_agree, over-front, over-rest, over-size}
use Rattle.rules.proofs.Sweep.{sweep-takes, sweep-passes}
use Rattle.rules.proofs.SumLaws.{zero-sum, out-sum}
use Rattle.network.specs.Calls.{Network, OwnersOf}
use Rattle.network.specs.Search.{touches, Before}

-- the set of x alone
abbrev pub alone : ℕ → Devices
alone x v = eqb v x

neither : (s : ℕ) (a b : Bool) → (a || b) ≡ false → crossing s a b ≡ 0
unfolding crossing
neither s false false e = refl
neither s true b e = absurd (true≢false e)
neither s false true e = absurd (true≢false e)

-- the drains of x alone are no more than those of a set that holds x
share : (d : ℕ) (a b : Bool) → (a ≡ true → b ≡ true) → cond a d 0 ≤ cond b d 0
share d true true h = omega arith
share d true false h = absurd (false≢true (h refl))
share d false b h = zero-le

part-drained : (ds : ℕ → ℕ) (k : ℕ) (S T : Devices) → ((v : ℕ) → S v ≡ true → T v ≡ true) → drained ds k S ≤ drained ds k T
unfolding drained
part-drained ds zero S T h = zero-le
part-drained ds (suc k) S T h = omega (arith, part-drained ds k S T h, share (ds k) (S k) (T k) (h k))

module _ {k : ℕ} {xs ys zs ds : List ℕ} (network : Network k xs ys zs ds) (x : ℕ) (none : Before xs ys x (length xs) 0) where
  nothing-out : out (lines_of xs ys zs) (alone x) ≡ 0
  unfolding touches
  nothing-out =
      out-sum xs ys zs (alone x) network.even (sym network.even ∙ network.even')
      ∙ zero-sum (length xs) _ (λ l b. neither (get_or zs l 0) (eqb (get_or xs l 0) x) (eqb (get_or ys l 0) x) (none.gap l zero-le b))

  held : (T : Devices) → T x ≡ true → (v : ℕ) → eqb v x ≡ true → T v ≡ true
  held T t v e = rw (eqb-true v x e) t

  pub alone-least : IsLeast (lines_of xs ys zs) (λ v. get_or ds v 0) k x (alone x)
  unfolding net_cost
  alone-least = record {
    holds = eq-eqb x x refl;
    least = λ T t. omega (arith, nothing-out, part-drained (λ v. get_or ds v 0) k (alone x) T (held T t));
    inside = λ T t e v b h. held T t v h;
  }

-- painting x alone is storing one entry
pub alone-painted : (k x : ℕ) (owner : List ℕ) → x < k → k ≤ length owner → set owner x x ≡ over (table k (λ v. cond (eqb v x) x (get_or owner v 0))) owner
alone-painted k x owner b room =
    ext_get_or 0 (set owner x x) (over (table k f) owner) (length-set owner x x ∙ sym (over-size k f owner room)) (λ v h. at v (ℕ_discrete v x) (dec_lt v k))
  where
    f : ℕ → ℕ
    f v = cond (eqb v x) x (get_or owner v 0)

    at : (v : ℕ) → Dec (v ≡ x) → Dec (v < k) → get_or (set owner x x) v 0 ≡ get_or (over (table k f) owner) v 0
    at v (yes e) d = rw e (get_or-set_same owner x x 0 (omega arith) ∙ sym (over-front k f owner x b ∙ rw (eq-eqb x x refl)))
    at v (no ne) (yes c) = get_or-set_other owner x v x 0 ne ∙ sym (over-front k f owner v c ∙ rw (ne_eqb v x ne))
    at v (no ne) (no c) = get_or-set_other owner x v x 0 ne ∙ sym (over-rest k f owner v (omega arith))

-- where each set is its node alone, each wanted node owns itself and nobody owns another
module _ (wanted : ℕ → Bool) (nobody : ℕ) where
  other-turn : (j v : ℕ) (b : Bool) → wanted j ≡ b → sweep alone wanted nobody j j ≡ nobody → (v ≡ j → ⊥)
      → sweep alone wanted nobody (suc j) v ≡ sweep alone wanted nobody j v
  other-turn j v true e z n = sweep-takes alone wanted nobody j e z v ∙ rw (ne_eqb v j n)
  other-turn j v false e z n = sweep-passes alone wanted nobody j e v

  own-turn : (j : ℕ) (b : Bool) → wanted j ≡ b → sweep alone wanted nobody j j ≡ nobody → sweep alone wanted nobody (suc j) j ≡ cond b j nobody
  own-turn j true e z = sweep-takes alone wanted nobody j e z j ∙ rw (eq-eqb j j refl)
  own-turn j false e z = sweep-passes alone wanted nobody j e j ∙ z

  -- nobody owns a node before its turn
  before-turn : (j v : ℕ) → j ≤ v → sweep alone wanted nobody j v ≡ nobody
  unfolding sweep
  before-turn zero v h = refl
  before-turn (suc j) v h = other-turn j v (wanted j) refl (before-turn j j (omega arith)) (λ s. omega arith) ∙ before-turn j v (omega arith)

  after-turn : (j v : ℕ) → v < j → sweep alone wanted nobody j v ≡ cond (wanted v) v nobody
  after-turn zero v h = absurd (omega arith)
  after-turn (suc j) v h =
      elim (ℕ_discrete v j) [
        | yes s ↦ rw s (own-turn j (wanted j) refl (before-turn j j (omega arith)))
        | no n ↦ other-turn j v (wanted j) refl (before-turn j j (omega arith)) n ∙ after-turn j v (omega arith)
      ]

no-line : {xs ys : List ℕ} (x : ℕ) → length xs ≡ 0 → Before xs ys x (length xs) 0
no-line x none = record { at_most = zero-le; real = λ l e. absurd (omega arith); gap = λ l b h. absurd (omega arith) }

-- the owners of the nodes of a network without a line
pub owners-alone : {k : ℕ} {xs ys zs ds wanted owner owner' : List ℕ} → Network k xs ys zs ds → length xs ≡ 0
    → owner' ≡ over (table k (λ v. cond (wanted_in wanted v) v k)) owner → OwnersOf k xs ys zs ds wanted owner owner'
owners-alone {k} {wanted = wanted} {owner} network none e = record {
  sets = alone;
  least = λ x b s. alone-least network x (no-line x none);
  filled = e ∙ over_agree k _ _ owner (λ v h. sym (after-turn (wanted_in wanted) k k v h));
}
