-- Two results that the contract of the desk's function allows are equal: document 01, "What the contracts have to determine".
-- Assumes nothing.
use Prim.Native.Nat.{ℕ}
use mathlib.Core.Path.{◌≡◌, sym, ◌∙◌}
use mathlib.Core.List.{List}
use Rattle.desk.specs.Calls.{DeskIs}

pub desk-determined : {t : List ℕ} {p q : ℕ} {labels : List ℕ} {number place count number' place' count' : ℕ} {new new' : List ℕ}
    → DeskIs t p q labels number place count new → DeskIs t p q labels number' place' count' new'
    → (number ≡ number') × (place ≡ place') × (count ≡ count') × (new ≡ new')
desk-determined a b =
    (a.number_is ∙ sym b.number_is, a.place_is ∙ sym b.place_is, a.count_is ∙ sym b.count_is, a.labels_are ∙ sym b.labels_are)
