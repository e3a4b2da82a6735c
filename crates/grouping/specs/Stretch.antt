-- What the functions of the search between two known levels say to each other. No public contract cites this file.
-- Assumes nothing.
use Rattle.std.specs.Prelude.{ℕ, suc, ◌+◌, ◌-◌, ◌*◌, ◌≤◌, ◌<◌, ◌≡◌, true, List, ◌⊎◌, eqb, length, get_or, set}
use Rattle.rules.specs.Plant.{Plant}
use Rattle.rules.specs.Cut.{Devices, size, out}
use Rattle.rules.specs.Groups.{table, groups, distinct}
use Rattle.rules.specs.Rates.{rate_ok, Below, Lowest}
use Rattle.rules.specs.Stretch.{Crossing, Ladder}
use Rattle.cut.specs.declared.rate.Rate.{Rate}
use Rattle.grouping.specs.declared.level.Level.{Level}
use Rattle.grouping.specs.declared.hierarchy.Lent.{Lent}
use Rattle.grouping.specs.Calls.{row_of}
use Rattle.grouping.specs.Level.{Labelled, Owned}

-- the devices with label h
unfoldable pub with_label : List ℕ → ℕ → Devices
with_label labels h v = eqb (get_or labels v 0) h

-- the devices with the label of device v: its group
unfoldable pub sharing : List ℕ → ℕ → Devices
sharing labels v = with_label labels (get_or labels v 0)

-- every label of n devices is a device
abbrev pub LabelsBelow : ℕ → List ℕ → Type 0
LabelsBelow n labels = (v : ℕ) → v < n → get_or labels v 0 < n

-- for each label the size of its group, and its out
abbrev pub SizesOf : Plant → List ℕ → List ℕ → Type 0
SizesOf g labels sizes = (h : ℕ) → h < g.devices → get_or sizes h 0 ≡ size g (with_label labels h)

abbrev pub OutsOf : Plant → List ℕ → List ℕ → Type 0
OutsOf g labels outs = (h : ℕ) → h < g.devices → get_or outs h 0 ≡ out g.lines (with_label labels h)

-- size and out of each label's group are those that the two lists say
pub record ExtentsOf (g : Plant) (labels sizes outs : List ℕ) : Type 0 where
  pub size_is : SizesOf g labels sizes
  pub out_is : OutsOf g labels outs

-- the rate of label h in a list with a rate for each label
abbrev pub rate_at : List Rate → ℕ → Rate
rate_at rates h = get_or rates h (record { p = 0; q = 0 })

-- the finer group of v is smaller than the coarser group around it
abbrev pub Grows : Plant → List ℕ → List ℕ → ℕ → Type 0
Grows g finer coarser v = size g (sharing finer v) < size g (sharing coarser v)

-- the two numbers of its crossing rate
unfoldable pub cross_p : Plant → List ℕ → List ℕ → ℕ → ℕ
cross_p g finer coarser v = out g.lines (sharing finer v) - out g.lines (sharing coarser v)

unfoldable pub cross_q : Plant → List ℕ → List ℕ → ℕ → ℕ
cross_q g finer coarser v = size g (sharing coarser v) - size g (sharing finer v)

-- p/q is the greatest crossing rate of the devices below k that have the coarser label h and whose group grows, or 0/1
pub record Greatest (g : Plant) (finer coarser : List ℕ) (h k p q : ℕ) : Type 0 where
  pub some : 1 ≤ q
  pub few : q ≤ g.devices
  pub most : p ≤ 67107840
  pub top : (v : ℕ) → v < k → get_or coarser v 0 ≡ h → Grows g finer coarser v → cross_p g finer coarser v * q ≤ p * cross_q g finer coarser v
  pub got : (p ≡ 0) ⊎ ((v : ℕ) × (v < k) × (get_or coarser v 0 ≡ h) × Grows g finer coarser v × (p ≡ cross_p g finer coarser v) × (q ≡ cross_q g finer coarser v))

-- p/q is the least of the rates of the coarser groups of the devices below k that grow, or 1/0 where none does
pub record LeastOf (g : Plant) (finer coarser : List ℕ) (rates : List Rate) (k p q : ℕ) : Type 0 where
  pub bottom : (v : ℕ) → v < k → Grows g finer coarser v → p * (rate_at rates (get_or coarser v 0)).q ≤ (rate_at rates (get_or coarser v 0)).p * q
  pub got : ((p ≡ 1) × (q ≡ 0) × ((v : ℕ) → v < k → Grows g finer coarser v → ⊥))
      ⊎ ((v : ℕ) × (v < k) × Grows g finer coarser v × (p ≡ (rate_at rates (get_or coarser v 0)).p) × (q ≡ (rate_at rates (get_or coarser v 0)).q))

-- the crossing rate between two levels, in lowest terms
pub record CrossingRate (g : Plant) (finer coarser : List ℕ) (p q : ℕ) : Type 0 where
  pub crossing : Crossing g (sharing finer) (sharing coarser) p q
  pub lowest : Lowest p q
  pub accepted : rate_ok p q ≡ true
  pub most : p ≤ 67107840
  pub few : q ≤ g.devices - 1

-- two known levels that differ: the finer at the rate ap/aq, the coarser at the lower rate bp/bq
pub record Apart (g : Plant) (ap aq bp bq : ℕ) (finer coarser : List ℕ) : Type 0 where
  pub some_ap : 1 ≤ ap
  pub some_aq : 1 ≤ aq
  pub some_bp : 1 ≤ bp
  pub some_bq : 1 ≤ bq
  pub lower : Below bp bq ap aq
  pub finer_is : Labelled g ap aq finer
  pub coarser_is : Labelled g bp bq coarser
  pub differ : groups g ap aq ≡ groups g bp bq → ⊥

-- the same with the owners of the finer level and both numbers of groups
pub record Span (g : Plant) (ap aq bp bq : ℕ) (finer owner : List ℕ) (fine : ℕ) (coarser : List ℕ) (coarse : ℕ) : Type 0 where
  pub apart : Apart g ap aq bp bq finer coarser
  pub owned : Owned g ap aq owner
  pub finer_count : fine ≡ distinct (groups g ap aq)
  pub coarser_count : coarse ≡ distinct (groups g bp bq)

-- two known levels, the finer at the rate ap/aq and the coarser at some rate
abbrev pub SpanFrom : Plant → ℕ → ℕ → List ℕ → List ℕ → ℕ → List ℕ → ℕ → Type 0
SpanFrom g ap aq finer owner fine coarser coarse = (bp : ℕ) × (bq : ℕ) × Span g ap aq bp bq finer owner fine coarser coarse

-- two known levels, at some rates
abbrev pub SomeSpan : Plant → List ℕ → List ℕ → ℕ → List ℕ → ℕ → Type 0
SomeSpan g finer owner fine coarser coarse = (ap : ℕ) × (aq : ℕ) × (bp : ℕ) × (bq : ℕ) × Span g ap aq bp bq finer owner fine coarser coarse

-- the same of two levels as values
abbrev pub SomeLevels : Plant → Level → Level → Type 0
SomeLevels g finer coarser = SomeSpan g finer.labels finer.owner finer.groups coarser.labels coarser.groups

-- the lent lists have room for every level, and row `at` holds the finer level
pub record Ready (n : ℕ) (finer : List ℕ) (fine at : ℕ) (labels low_ps low_qs : List ℕ) : Type 0 where
  pub labels_room : n * n ≤ length labels
  pub low_p_room : n ≤ length low_ps
  pub low_q_room : n ≤ length low_qs
  pub within : at + fine ≤ n
  pub row : row_of n labels at ≡ table n (λ v. get_or finer v 0)

-- entries of new that are those of old: before `from` and from `to` on
pub record KeptOutside (from to : ℕ) (old new : List ℕ) : Type 0 where
  pub length_same : length new ≡ length old
  pub before : (j : ℕ) → j < from → get_or new j 0 ≡ get_or old j 0
  pub past : (j : ℕ) → to ≤ j → get_or new j 0 ≡ get_or old j 0

-- the lent lists are still the same ones
abbrev pub SameLists : Lent → Lent → Type 0
SameLists old new = (new.labels.ghost_name ≡ old.labels.ghost_name) × (new.low_p.ghost_name ≡ old.low_p.ghost_name) × (new.low_q.ghost_name ≡ old.low_q.ghost_name)

-- what is filled where nothing lies between the level of row `at` and the coarser one: the low rate p/q of row `at`, and the row `to` after it with the coarser level
pub record Settled (n : ℕ) (coarser : List ℕ) (at to p q : ℕ) (labels low_ps low_qs labels' low_ps' low_qs' : List ℕ) : Type 0 where
  pub next : to ≡ suc at
  pub labels_kept : KeptOutside (suc at * n) (suc at * n + n) labels labels'
  pub row : row_of n labels' (suc at) ≡ table n (λ v. get_or coarser v 0)
  pub low_p : low_ps' ≡ set low_ps at p
  pub low_q : low_qs' ≡ set low_qs at q

-- what the search has filled: the rows after `at` up to `to`, which holds the coarser level, and the low rates of the levels from `at` to the one before `to`; whatever the rates of the two known levels are
pub record Searched (n : ℕ) (g : Plant) (finer owner : List ℕ) (fine : ℕ) (coarser : List ℕ) (coarse at to : ℕ) (labels low_ps low_qs labels' low_ps' low_qs' : List ℕ) : Type 0 where
  pub onward : at < to
  pub within : to + coarse ≤ n
  pub labels_kept : KeptOutside (suc at * n) (suc to * n) labels labels'
  pub low_p_kept : KeptOutside at to low_ps low_ps'
  pub low_q_kept : KeptOutside at to low_qs low_qs'
  pub row : row_of n labels' to ≡ table n (λ v. get_or coarser v 0)
  pub most : (i : ℕ) → at ≤ i → i < to → get_or low_ps' i 0 ≤ 67107840
  pub ladder : (ap aq bp bq : ℕ) → Span g ap aq bp bq finer owner fine coarser coarse
      → Ladder g ap aq bp bq at to (row_of n labels') (λ i. get_or low_ps' i 0) (λ i. get_or low_qs' i 0)
