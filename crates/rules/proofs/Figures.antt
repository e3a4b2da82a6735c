-- K1 to K12, proved together: of each row of the table the groups that the definitions give are those that document 01 states.
-- Assumes nothing.
use mathlib.Core.Path.{◌≡◌, refl}
use mathlib.Core.List.{[], ◌∷◌, map}
use Rattle.rules.specs.Plant.{lines_of, plant_of}
use Rattle.rules.specs.Cut.{crossing, out, size_at, size_below, size, cost}
use Rattle.rules.specs.Community.{with, sets, everyone, better, best, community}
use Rattle.rules.specs.Groups.{larger, largest, group_of, lowest, table, label, groups}
use Rattle.rules.specs.Figures.{Figure, figures}
use Rattle.rules.specs.Refusals.{done, cause, or_else, first_of, devices_fault, lists_fault, rises, line_fault, lines_from, lines_fault, after_plant, fixed_order, in_order, nothing, about, plant_says, plant_fault}

pub figures-hold : map (λ (f : Figure). groups f.plant f.p f.q) figures ≡ map (λ (f : Figure). f.labels) figures
unfolding figures lines_of plant_of crossing out size_at size_below size cost with sets everyone better best community larger largest group_of lowest table label groups
figures-hold = refl

-- of two faulty lines the lower is answered, and of its rules the first: line 1 breaks 6, and line 2 breaks 5
pub first-faulty : plant_fault 3 (0 ∷ 2 ∷ 0 ∷ []) (1 ∷ 1 ∷ 3 ∷ []) (1 ∷ 1 ∷ 1 ∷ []) ≡ record { number = 6; place = 1 }
unfolding done cause or_else first_of devices_fault lists_fault rises line_fault lines_from lines_fault after_plant fixed_order in_order nothing about plant_says plant_fault
first-faulty = refl
