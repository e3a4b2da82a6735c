-- Document 01, "What the contracts have to determine", of the measured call. Assumes nothing.
use Prim.Native.Nat.{ℕ}
use mathlib.Core.Path.{◌≡◌, sym, ap, ◌∙◌}
use mathlib.Core.List.{List}
use Rattle.grouping.specs.Calls.{Levels}
use Rattle.grouping.proofs.HierarchyDetermined.{hierarchy-call-determined}
use Rattle.timing.specs.Timed.{TimedIs}

-- the answer, and the three lent lists afterwards
pub timed-determined : {n : ℕ} {xs ys zs labels low_ps low_qs : List ℕ} {r r'' : ℕ} {labels' low_ps' low_qs' labels'' low_ps'' low_qs'' : List ℕ}
    → TimedIs n xs ys zs labels low_ps low_qs r labels' low_ps' low_qs' → TimedIs n xs ys zs labels low_ps low_qs r'' labels'' low_ps'' low_qs''
    → (r ≡ r'') × (labels' ≡ labels'') × (low_ps' ≡ low_ps'') × (low_qs' ≡ low_qs'')
timed-determined a b =
    let same = hierarchy-call-determined a.call b.call in
    (a.count ∙ ap (λ (x : Levels). x.levels) same.0 ∙ sym b.count, same.1, same.2, same.3)
