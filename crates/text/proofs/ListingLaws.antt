-- Words and pieces of a text or a listing written one after the other, and the heads of a level counted.
--     Left        what was written of the words of a text: those before the words that are left
--     Pieces      what a loop over indices has written: the pieces before those that are left
--     Heads       what a loop over devices has counted: the heads before those that are left
-- Assumes nothing.
use Prim.Native.Nat.{ℕ, suc, ◌+◌, ◌-◌, ◌≤◌, ◌<◌}
use native.Mathlib.Numerals.{add-one}
use native.Mathlib.Omega.{arith}
use mathlib.Core.Path.{◌≡◌, refl, sym, ap, ◌∙◌}
use mathlib.Core.Bool.{Bool, true, false, cond}
use mathlib.Core.List.{List, [], ◌∷◌, ◌++◌, append_assoc, append-nil}
use lib.Dec.{eqb}
use lib.ListN.{length, get_or, length-append}
use borrow.Author.Tests.{eq-eqb, ne_eqb}
use Rattle.text.specs.declared.write.Writer.{Writer}
use Rattle.std.specs.Bool.{then_some}
use Rattle.text.specs.Listing.{pieces, head_count, low_text}
use Rattle.text.specs.Writer.{HasRoom, Writes}
use Rattle.text.specs.Levels.{low_line}
use Rattle.text.proofs.Wrote.{writes_as, writes_none, writes-room, writes_then}

-- words one after the other, behind the word done
unfoldable pub joined : List ℕ → List (List ℕ) → List ℕ
joined done [] = done
joined done (w ∷ ws) = joined (done ++ w) ws

joined-long : (done : List ℕ) (ws : List (List ℕ)) → length done ≤ length (joined done ws)
unfolding joined
joined-long done [] = omega arith
joined-long done (w ∷ ws) = omega (arith, length-append done w, joined-long (done ++ w) ws)

-- of the text whole, all is written but the words ws at its end
pub record Left (old : Writer) (whole : List ℕ) (ws : List (List ℕ)) (now : Writer) : Type 0 where
  pub room : HasRoom old whole
  pub done : List ℕ
  pub all : joined done ws ≡ whole
  pub wrote : Writes old done now

pub left-start : (old : Writer) (ws : List (List ℕ)) → HasRoom old (joined [] ws) → Left old (joined [] ws) ws old
left-start old ws room = record { room = room; done = []; all = refl; wrote = writes_none old (omega arith) }

pub left-none : {old : Writer} {whole : List ℕ} {now : Writer} → Left old whole [] now → Writes old whole now
unfolding joined
left-none l = writes_as l.all l.wrote

module _ {old : Writer} {whole w : List ℕ} {ws : List (List ℕ)} {now : Writer} (l : Left old whole (w ∷ ws) now) where
  next_fits : HasRoom old (l.done ++ w)
  unfolding joined
  next_fits = omega (arith, l.room, ap length l.all, joined-long (l.done ++ w) ws)

  -- there is room for the next word
  pub left-room : HasRoom now w
  left-room = writes-room l.wrote w next_fits

  pub left-then : {new : Writer} → Writes now w new → Left old whole ws new
  unfolding joined
  left-then b = record { room = l.room; done = l.done ++ w; all = l.all; wrote = writes_then l.wrote w next_fits b }

-- the piece i and those after it, up to the index end
pub pieces-here : (piece : ℕ → List ℕ) (i end : ℕ) → i < end → pieces piece i (end - i) ≡ piece i ++ pieces piece (i + 1) (end - (i + 1))
unfolding pieces
pieces-here piece i end less =
    let e : end - i ≡ suc (end - (i + 1)) = omega arith in
    rw (e, add-one) refl

pub pieces-past : (piece : ℕ → List ℕ) (i end : ℕ) → end ≤ i → pieces piece i (end - i) ≡ []
unfolding pieces
pieces-past piece i end past =
    let e : end - i ≡ 0 = omega arith in
    rw e refl

-- of the pieces up to the index end, which are the text whole, those before i are written
pub record Pieces (piece : ℕ → List ℕ) (end : ℕ) (whole : List ℕ) (old now : Writer) (i : ℕ) : Type 0 where
  pub text : List ℕ
  pub all : text ++ pieces piece i (end - i) ≡ whole
  pub wrote : Writes old text now

pub pieces-start : (piece : ℕ → List ℕ) (end : ℕ) (whole : List ℕ) (old : Writer) → HasRoom old whole → (i : ℕ)
    → pieces piece i (end - i) ≡ whole → Pieces piece end whole old old i
pieces-start piece end whole old room i e = record { text = []; all = e; wrote = writes_none old (omega arith) }

pub pieces-from-0 : (piece : ℕ → List ℕ) (end : ℕ) (old : Writer) → HasRoom old (pieces piece 0 end) → Pieces piece end (pieces piece 0 end) old old 0
pieces-from-0 piece end old room =
    let e : end - 0 ≡ end = omega arith in
    pieces-start piece end (pieces piece 0 end) old room 0 (rw e refl)

module _ {piece : ℕ → List ℕ} {end : ℕ} {whole : List ℕ} {old now : Writer} {i : ℕ} (room : HasRoom old whole) (r : Pieces piece end whole old now i) where
  pub pieces-all : end ≤ i → Writes old whole now
  pieces-all h = writes_as (sym (append-nil r.text) ∙ ap (λ (l : List ℕ). r.text ++ l) (sym (pieces-past piece i end h)) ∙ r.all) r.wrote

  module _ (less : i < end) {w : List ℕ} (is : piece i ≡ w) where
    rest : r.text ++ w ++ pieces piece (i + 1) (end - (i + 1)) ≡ whole
    rest =
        append_assoc r.text w _
        ∙ ap (λ (l : List ℕ). r.text ++ l) (sym (pieces-here piece i end less ∙ ap (λ (l : List ℕ). l ++ pieces piece (i + 1) (end - (i + 1))) is))
        ∙ r.all

    fits : HasRoom old (r.text ++ w)
    fits = omega (arith, room, ap length (sym rest), length-append (r.text ++ w) (pieces piece (i + 1) (end - (i + 1))))

    pub pieces_room : HasRoom now w
    pieces_room = writes-room r.wrote w fits

    pub pieces_more : {new : Writer} → Writes now w new → Pieces piece end whole old new (i + 1)
    pieces_more b = record { text = r.text ++ w; all = rest; wrote = writes_then r.wrote w fits b }

  -- a piece that is empty takes no writing
  pub pieces_none : i < end → piece i ≡ [] → Pieces piece end whole old now (i + 1)
  pieces_none less is = pieces_more less is (writes_none now (omega (arith, pieces_room less is)))

-- the line of a low rate, or of none, is what is printed of the level
pub low-is : (has : Bool) (p q : ℕ) → low_line (then_some has (record { p = p; q = q })) ≡ low_text has p q
unfolding low_line low_text
low-is true p q = refl
low-is false p q = refl

-- a piece that is written only where two numbers are equal
pub piece-taken : {w : List ℕ} (a b : ℕ) → a ≡ b → cond (eqb a b) w [] ≡ w
piece-taken a b e = rw (eq-eqb a b e) refl

pub piece-left : (w : List ℕ) (a b : ℕ) → (a ≡ b → ⊥) → cond (eqb a b) w [] ≡ []
piece-left w a b e = rw (ne_eqb a b e) refl

-- device h and those after it, up to the device n
pub heads-here : (level : List ℕ) (h n : ℕ) → h < n
    → head_count level h (n - h) ≡ cond (eqb (get_or level h 0) h) (suc (head_count level (h + 1) (n - (h + 1)))) (head_count level (h + 1) (n - (h + 1)))
unfolding head_count
heads-here level h n less =
    let e : n - h ≡ suc (n - (h + 1)) = omega arith in
    rw (e, add-one) refl

pub heads-past : (level : List ℕ) (h n : ℕ) → n ≤ h → head_count level h (n - h) ≡ 0
unfolding head_count
heads-past level h n past =
    let e : n - h ≡ 0 = omega arith in
    rw e refl

-- count is how many of the devices before h are heads
pub record Heads (level : List ℕ) (n count h : ℕ) : Type 0 where
  pub few : count ≤ h
  pub all : count + head_count level h (n - h) ≡ head_count level 0 n

module _ (level : List ℕ) (n : ℕ) where
  module _ {count h : ℕ} (r : Heads level n count h) where
    pub heads-all : n ≤ h → count ≡ head_count level 0 n
    heads-all past = omega (arith, r.all, heads-past level h n past)

    module _ (less : h < n) where
      pub heads-one : get_or level h 0 ≡ h → Heads level n (count + 1) (h + 1)
      heads-one is =
          record {
            few = omega (arith, r.few);
            all = omega (arith, r.all, rw (eq-eqb (get_or level h 0) h is) at (heads-here level h n less));
          }

      pub heads-none : (get_or level h 0 ≡ h → ⊥) → Heads level n count (h + 1)
      heads-none not =
          record {
            few = omega (arith, r.few);
            all = omega (arith, r.all, rw (ne_eqb (get_or level h 0) h not) at (heads-here level h n less));
          }
