-- The cost of a set of devices is q times its cut in document 004's graph with the added vertex t. Assumes nothing.
use Prim.Native.Nat.{ℕ, zero, suc, ◌+◌, ◌*◌}
use mathlib.Core.Path.{◌≡◌, refl, sym, ap₂, ◌∙◌}
use mathlib.Core.Bool.{Bool, true, false, cond}
use mathlib.Core.List.{List, [], ◌∷◌, ◌++◌}
use native.Mathlib.Nat.{mul-zero, mul-add, add_comm}
use native.Mathlib.Omega.{arith}
use Rattle.rules.specs.Plant.{Line, Plant}
use Rattle.rules.specs.Cut.{Devices, crossing, out, size_at, size_below, size, cost}
use Rattle.rules.specs.Added.{scaled, lines_to, added}

out-append : (ls ms : List Line) (S : Devices) → out (ls ++ ms) S ≡ out ls S + out ms S
unfolding out
out-append [] ms S = omega arith
out-append (l ∷ ls) ms S = omega (arith, out-append ls ms S)

crossing-scaled : (q s : ℕ) (a b : Bool) → crossing (q * s) a b ≡ q * crossing s a b
unfolding crossing
crossing-scaled q s true true = sym (mul-zero q)
crossing-scaled q s true false = refl
crossing-scaled q s false true = refl
crossing-scaled q s false false = sym (mul-zero q)

out-scaled : (q : ℕ) (ls : List Line) (S : Devices) → out (scaled q ls) S ≡ q * out ls S
unfolding out scaled
out-scaled q [] S = sym (mul-zero q)
out-scaled q (l ∷ ls) S =
    ap₂ ◌+◌ (crossing-scaled q l.signals (S l.first) (S l.second)) (out-scaled q ls S)
    ∙ sym (mul-add q (crossing l.signals (S l.first) (S l.second)) (out ls S))

module _ (g : Plant) (p t : ℕ) (S : Devices) (off : S t ≡ false) where
  -- the line to t of a device of S is cut
  crossing-to : (s : ℕ) (a : Bool) → crossing (p * s) a (S t) ≡ p * cond a s 0
  unfolding crossing
  crossing-to s true = rw off
  crossing-to s false = rw off (sym (mul-zero p))

  out-to : (k : ℕ) → out (lines_to g p t k) S ≡ p * size_below g k S
  unfolding out lines_to size_below
  out-to zero = sym (mul-zero p)
  out-to (suc k) =
      ap₂ ◌+◌ (crossing-to (size_at g k) (S k)) (out-to k)
      ∙ add_comm (p * cond (S k) (size_at g k) 0) (p * size_below g k S)
      ∙ sym (mul-add p (size_below g k S) (cond (S k) (size_at g k) 0))

-- "At rate p/q the cost of S is q × out(S) + p × |S|. This is q times the cut of document 004's graph with its added vertex t.": S does not hold t
pub cost_added : (g : Plant) (p q : ℕ) (S : Devices) → S g.devices ≡ false → cost g p q S ≡ out (added g p q).lines S
unfolding cost size added
cost_added g p q S off =
    sym (out-append (scaled q g.lines) (lines_to g p g.devices g.devices) S
    ∙ ap₂ ◌+◌ (out-scaled q g.lines S) (out-to g p g.devices S off g.devices))
