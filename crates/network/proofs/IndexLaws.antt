-- The index of each node's lines, with one line more.
--     behind-none                             no line
--     before-none, before-kept, before-new    the last line of a node among none, with a line that does not touch it, with one that does
--     lasts-none, lasts-step                  the last line of each node
--     priors-none, priors-step                of each line the one before it, of its first and of its second end
--     before-second                           the line before line l of its second end
--     laid-network                            the lists of a network are laid as the search needs them
-- Assumes nothing.
use Prim.Native.Nat.{ℕ, ◌+◌, ◌≤◌, ◌<◌}
use Rattle.std.proofs.Common.{Option, None, Some}
use Rattle.std.specs.Option.{is_some}
use mathlib.Core.Path.{◌≡◌, refl, sym}
use mathlib.Core.Bool.{true, false, true≢false}
use mathlib.Core.List.{List}
use native.Mathlib.Decide.{ℕ_discrete}
use native.Mathlib.Omega.{arith}
use borrow.Author.Count.{below_more}
use lib.ListN.{length, get_or, set, length-set}
use lib.Seq.{get_or-set_same, get_or-set_other}
use Rattle.network.proofs.EndLaws.{touches-first, touches-second, touches-neither, touches-other}
use Rattle.network.specs.Calls.{Network}
use Rattle.network.specs.Search.{behind, touches, Laid, Before, Lasts, Priors}

-- no line
pub behind-none : (o : Option ℕ) → is_some o ≡ false → behind o ≡ 0
behind-none None e = refl
behind-none (Some l) e = absurd (true≢false e)

module _ (xs ys : List ℕ) (v : ℕ) where
  pub before-none : Before xs ys v 0 0
  before-none = record { at_most = omega arith; real = λ l e. absurd (omega arith); gap = λ l p q. absurd (omega arith) }

  pub before-kept : (k : ℕ) {t : ℕ} → touches xs ys k v ≡ false → Before xs ys v k t → Before xs ys v (k + 1) t
  before-kept k {t} e b = record {
    at_most = omega arith;
    real = b.real;
    gap = λ l p q. below_more (λ l. t ≤ l → touches xs ys l v ≡ false) k (λ l q p. b.gap l p q) (λ p. e) l q p;
  }

  pub before-new : (k : ℕ) → touches xs ys k v ≡ true → Before xs ys v (k + 1) (k + 1)
  before-new k e = record {
    at_most = omega arith;
    real = λ l p. let m : k ≡ l = omega arith in rw m at e;
    gap = λ l p q. absurd (omega arith);
  }

module _ (xs ys : List ℕ) where
  pub lasts-none : (lasts : List ℕ) → ((v : ℕ) → v < 128 → get_or lasts v 0 ≡ 0) → Lasts xs ys 0 lasts
  lasts-none lasts h = record { last = λ v m. rw (h v m) (before-none xs ys v) }

  pub priors-none : (firsts seconds : List ℕ) → Priors xs ys 0 firsts seconds
  priors-none firsts seconds = record { by_first = λ l m. absurd (omega arith); by_second = λ l m. absurd (omega arith) }

module _ (xs ys : List ℕ) (k : ℕ) {lasts : List ℕ} (w : Lasts xs ys k lasts) where
  -- k + 1 is stored for both ends
  pub lasts-step : length lasts ≡ 128 → Lasts xs ys (k + 1) (set (set lasts (get_or xs k 0) (k + 1)) (get_or ys k 0) (k + 1))
  lasts-step len = record { last = λ v m. second v m (ℕ_discrete (get_or ys k 0) v) }
    where
      first : (v : ℕ) → v < 128 → (get_or ys k 0 ≡ v → ⊥) → Dec (get_or xs k 0 ≡ v) → Before xs ys v (k + 1) (get_or (set lasts (get_or xs k 0) (k + 1)) v 0)
      first v m h (yes e) = rw (e, get_or-set_same lasts v (k + 1) 0 (omega arith)) (before-new xs ys v k (touches-first xs ys k v e))
      first v m h (no i) = rw (get_or-set_other lasts (get_or xs k 0) v (k + 1) 0 (λ e. i (sym e))) (before-kept xs ys v k (touches-neither xs ys k v i h) (w.last v m))

      second : (v : ℕ) → v < 128 → Dec (get_or ys k 0 ≡ v) → Before xs ys v (k + 1) (get_or (set (set lasts (get_or xs k 0) (k + 1)) (get_or ys k 0) (k + 1)) v 0)
      second v m (yes e) = rw (e, get_or-set_same (set lasts (get_or xs k 0) (k + 1)) v (k + 1) 0 (simp length-set (omega arith))) (before-new xs ys v k (touches-second xs ys k v e))
      second v m (no h) = rw (get_or-set_other (set lasts (get_or xs k 0) (k + 1)) (get_or ys k 0) v (k + 1) 0 (λ e. h (sym e))) (first v m h (ℕ_discrete (get_or xs k 0) v))

  -- of the ends zs of the lines, the first or the second ones
  prior : (zs priors : List ℕ) → k < length priors → get_or zs k 0 < 128
      → ((l : ℕ) → l < k → Before xs ys (get_or zs l 0) l (get_or priors l 0))
      → (l : ℕ) → l < k + 1 → Before xs ys (get_or zs l 0) l (get_or (set priors k (get_or lasts (get_or zs k 0) 0)) l 0)
  prior zs priors m z all =
      below_more (λ l. Before xs ys (get_or zs l 0) l (get_or (set priors k (get_or lasts (get_or zs k 0) 0)) l 0)) k
      (λ l p. rw (get_or-set_other priors k l (get_or lasts (get_or zs k 0) 0) 0 (λ (e : l ≡ k). omega arith)) (all l p))
      (rw (get_or-set_same priors k (get_or lasts (get_or zs k 0) 0) 0 m) (w.last (get_or zs k 0) z))

  pub priors-step : {firsts seconds : List ℕ} → Laid xs ys → k < length xs → Priors xs ys k firsts seconds → length firsts ≡ 1024 → length seconds ≡ 1024
      → Priors xs ys (k + 1) (set firsts k (get_or lasts (get_or xs k 0) 0)) (set seconds k (get_or lasts (get_or ys k 0) 0))
  priors-step {firsts} {seconds} laid b p m n = record {
    by_first = prior xs firsts (omega (arith, laid.few)) (laid.first k b) p.by_first;
    by_second = prior ys seconds (omega (arith, laid.few)) (laid.second k b) p.by_second;
  }

-- line l touches v: where v is not its first end, the line before it of v is in the list of its second ends
module _ (xs ys : List ℕ) {k : ℕ} {firsts seconds : List ℕ} (p : Priors xs ys k firsts seconds) (l v : ℕ) (b : l < k) where
  pub before-second : touches xs ys l v ≡ true → (get_or xs l 0 ≡ v → ⊥) → Before xs ys v l (get_or seconds l 0)
  before-second t h = rw (touches-other xs ys l v t h) at (p.by_second l b)

-- the lists of a network are laid as the search needs them
pub laid-network : {k : ℕ} {xs ys zs ds : List ℕ} → Network k xs ys zs ds → Laid xs ys
laid-network a = record {
  few = a.lines;
  even = a.even;
  first = λ l b. omega (arith, (a.line l b).rising, (a.line l b).ends, a.few);
  second = λ l b. omega (arith, (a.line l b).ends, a.few);
  differ = λ l b. (a.line l b).rising;
}
