-- What the hierarchy program prints of a text, whole: document 01, "Plant text and listing".
-- Assumes nothing.
use Rattle.std.specs.Prelude.{ℕ, suc, ◌≤◌, ◌<◌, ◌≡◌, cond, List, eqb, length}
use Rattle.rules.specs.Refusal.{Refusal}
use Rattle.rules.specs.Plant.{Plant, plant_of}
use Rattle.rules.specs.Hierarchy.{IsHierarchy}
use Rattle.rules.specs.Refusals.{room_fault}
use Rattle.rules.specs.Lists.{over, after}
use Rattle.text.specs.Writing.{Written}
use Rattle.text.specs.Form.{form}
use Rattle.text.specs.Reading.{firsts_of, seconds_of, signals_of, read_fault}
use Rattle.text.specs.Listing.{listing, refused_text}

-- what a text is refused for: reading it with room for as many lines as a plant can have
unfoldable pub text_fault : List ℕ → Refusal
text_fault t = read_fault t 1024 1024 1024

-- the plant that a text states
unfoldable pub stated_plant : List ℕ → Plant
stated_plant t = plant_of (form t).devices (firsts_of t) (seconds_of t) (signals_of t)

-- b is the listing of the hierarchy of a plant: of all its levels, as "Levels and joining rates" has them
pub record ListingOf (g : Plant) (b : List ℕ) : Type 0 where
  pub count : ℕ
  pub level : ℕ → List ℕ
  pub low_ps : ℕ → ℕ
  pub low_qs : ℕ → ℕ
  pub hierarchy : IsHierarchy g count level low_ps low_qs
  -- a low rate's p has at most 9 digits
  pub low_p_most : (i : ℕ) → suc i < count → low_ps i ≤ 67107840
  pub text : b ≡ listing g.devices count level low_ps low_qs

-- b is what the hierarchy program prints, given the text t: the listing of the plant that t states, or, "After a refusal it prints two lines"
pub record Printed (t b : List ℕ) : Type 0 where
  pub listed : (text_fault t).number ≡ 0 → ListingOf (stated_plant t) b
  pub refused : ((text_fault t).number ≡ 0 → ⊥) → b ≡ refused_text (text_fault t).number (text_fault t).place

-- the answer where the bytes b are to fill a list of so much room: their number, or 12
unfoldable pub list_answer : List ℕ → ℕ → Written
list_answer b room =
    record {
      number = (room_fault (length b) room).number;
      place = (room_fault (length b) room).place;
      count = cond (eqb (room_fault (length b) room).number 0) (length b) 0;
    }

-- what listing the text t answers, r, and fills: the list was old, and is new afterwards
pub record ListIs (t old : List ℕ) (r : Written) (new : List ℕ) : Type 0 where
  pub bytes : List ℕ
  pub printed : Printed t bytes
  pub answer : r ≡ list_answer bytes (length old)
  pub filled : new ≡ after (room_fault (length bytes) (length old)) bytes old

-- the bytes of a text, or of a plant's listing, at the front of a list that was old and is new, k of them. No public contract cites the two.
pub record ShownText (t old : List ℕ) (k : ℕ) (new : List ℕ) : Type 0 where
  pub bytes : List ℕ
  pub printed : Printed t bytes
  pub count : k ≡ length bytes
  pub front : new ≡ over bytes old

pub record ShownPlant (g : Plant) (old : List ℕ) (k : ℕ) (new : List ℕ) : Type 0 where
  pub bytes : List ℕ
  pub listed : ListingOf g bytes
  pub count : k ≡ length bytes
  pub front : new ≡ over bytes old
