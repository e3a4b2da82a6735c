-- Document 01, "Cuts, communities, groups", second paragraph, and "What a call fills".
-- Assumes nothing.
use Rattle.std.specs.Prelude.{ℕ, zero, suc, ◌+◌, Bool, false, ◌&&◌, ◌||◌, cond, List, [], ◌∷◌, ltb, eqb}
use Rattle.rules.specs.Plant.{Plant}
use Rattle.rules.specs.Cut.{Devices, size}
use Rattle.rules.specs.Community.{community}

-- C in the place of S, where C holds i and is larger
unfoldable pub larger : Plant → ℕ → Devices → Devices → Devices
larger g i C S = cond (C i && ltb (size g S) (size g C)) C S

-- the largest of S and of those communities of devices below k that hold i
unfoldable pub largest : Plant → ℕ → ℕ → ℕ → ℕ → Devices → Devices
largest g p q i zero S = S
largest g p q i (suc k) S = largest g p q i k (larger g i (community g p q k) S)

-- "The groups at a rate are the communities contained in no larger community": of those that hold i the largest
unfoldable pub group_of : Plant → ℕ → ℕ → ℕ → Devices
group_of g p q i = largest g p q i g.devices (community g p q i)

-- the lowest device of S among those below n, and n where there is none
unfoldable pub lowest : ℕ → Devices → ℕ
lowest zero S = 0
lowest (suc n) S = cond (S 0) 0 (suc (lowest n (λ i. S (suc i))))

-- f 0, f 1, .. , f (n − 1)
unfoldable pub table : ℕ → (ℕ → ℕ) → List ℕ
table zero f = []
table (suc n) f = f 0 ∷ table n (λ i. f (suc i))

-- "A group list has for each device the lowest device number in its group."
unfoldable pub label : Plant → ℕ → ℕ → ℕ → ℕ
label g p q i = lowest g.devices (group_of g p q i)

unfoldable pub groups : Plant → ℕ → ℕ → List ℕ
groups g p q = table g.devices (label g p q)

-- whether x stands in the list
unfoldable pub among : ℕ → List ℕ → Bool
among x [] = false
among x (y ∷ ys) = eqb x y || among x ys

-- "the number of distinct labels"
unfoldable pub distinct : List ℕ → ℕ
distinct [] = 0
distinct (x ∷ xs) = cond (among x xs) 0 1 + distinct xs
