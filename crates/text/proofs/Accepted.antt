-- Which texts are accepted: those of an accepted plant, where the lists have room; and no text of an accepted plant is too long.
-- Assumes nothing.
use Prim.Native.Nat.{ℕ, suc, ◌*◌, ◌≤◌, ◌<◌, suc-le-suc, zero-le}
use native.Mathlib.Omega.{arith}
use mathlib.Core.Path.{◌≡◌, refl, sym, subst, ◌∙◌}
use mathlib.Core.Bool.{false}
use mathlib.Core.List.{List, [], ◌∷◌}
use lib.ListN.{length, get_or, length-append}
use borrow.Author.Tests.{le-ltb}
use Rattle.rules.specs.Refusals.{done, cause, or_else, lines_fault, plant_fault}
use Rattle.rules.specs.Accepted.{Accepted}
use Rattle.rules.proofs.RefusalLaws.{done_next, Clean, clean-cause, clean-or_else, or_else-left, or_else-right, lines-clean, devices-clean, lists-clean, plant-is, done-accepted}
use Rattle.text.specs.Lines.{end_line, row_text}
use Rattle.text.specs.Form.{rows_text, plant_text, form}
use Rattle.text.specs.Reading.{long_fault, firsts_of, seconds_of, signals_of, no_room_of, rooms_fault, read_fault, head_fault_of}
use Rattle.text.proofs.Judged.{cause-off, room-first, room-second, room-third, rooms-clean, head-clean, head_done, head-line, read-order, plant-lines}
use Rattle.text.proofs.Wrote.{row-length}
use Rattle.text.proofs.Answers.{text-length}
use Rattle.text.proofs.NumberLaws.{digits-short}
use Rattle.text.proofs.TextLaws.{TextRead, rows-read, text-read, form-written}

-- a row of a line of an accepted plant takes at most 19 bytes
rows_short : (xs ys zs : List ℕ) → ((k : ℕ) → k < length xs → get_or xs k 0 < 1000) → ((k : ℕ) → k < length ys → get_or ys k 0 < 1000)
    → ((k : ℕ) → k < length zs → get_or zs k 0 < 100000) → length (rows_text xs ys zs) ≤ 19 * length xs
unfolding rows_text
rows_short [] ys zs hx hy hz = zero-le
rows_short (a ∷ xs) [] zs hx hy hz = zero-le
rows_short (a ∷ xs) (b ∷ ys) [] hx hy hz = zero-le
rows_short (a ∷ xs) (b ∷ ys) (s ∷ zs) hx hy hz =
    omega (
      arith,
      length-append (row_text a b s) (rows_text xs ys zs),
      row-length a b s,
      digits-short 2 a (hx 0 (omega arith)) (omega arith),
      digits-short 2 b (hy 0 (omega arith)) (omega arith),
      digits-short 4 s (hz 0 (omega arith)) (omega arith),
      rows_short xs ys zs (λ k l. hx (suc k) (suc-le-suc l)) (λ k l. hy (suc k) (suc-le-suc l)) (λ k l. hz (suc k) (suc-le-suc l)),
    )

module _ (n : ℕ) (xs ys zs : List ℕ) (e : plant_fault n xs ys zs ≡ done) where
  accepted : Accepted n xs ys zs
  accepted = done-accepted n xs ys zs e

  first_small : (k : ℕ) → k < length xs → get_or xs k 0 < 1000
  first_small k l = omega (arith, accepted.first_device k l, accepted.most_devices)

  second-small : (k : ℕ) → k < length ys → get_or ys k 0 < 1000
  second-small k l = omega (arith, accepted.second_device k (omega (arith, accepted.one_length)), accepted.most_devices)

  signals-small : (k : ℕ) → k < length zs → get_or zs k 0 < 100000
  signals-small k l = omega (arith, accepted.most_signals k (omega (arith, accepted.one_length, accepted.one_length')))

  pub text-short : length (plant_text n xs ys zs) ≤ 32768
  text-short =
      omega (
        arith,
        text-length n xs ys zs,
        digits-short 2 n (omega (arith, accepted.most_devices)) (omega arith),
        digits-short 3 (length xs) (omega (arith, accepted.most_lines)) (omega arith),
        rows_short xs ys zs first_small second-small signals-small,
        accepted.most_lines,
      )

  -- what the text of an accepted plant states
  pub accepted-read : TextRead n xs ys zs (plant_text n xs ys zs)
  accepted-read =
      text-read n xs ys zs (omega (arith, accepted.most_devices)) (omega (arith, accepted.most_lines))
      (rows-read xs ys zs end_line accepted.one_length accepted.one_length'
      (λ k l. omega (arith, first_small k l)) (λ k l. omega (arith, second-small k l)) (λ k l. omega (arith, signals-small k l)))

  lines-right : lines_fault n xs ys zs ≡ done
  lines-right = or_else-right _ (lists-clean _ _ _) (or_else-right _ (devices-clean n) (sym (plant-is n xs ys zs) ∙ e))

  head-right : head_fault_of (form (plant_text n xs ys zs)) ≡ done
  head-right =
      head_done (form (plant_text n xs ys zs)) accepted-read.line
      (λ z. omega (arith, accepted.some_device, accepted-read.devices, z))
      (omega (arith, accepted.most_devices, accepted-read.devices))
      (omega (arith, accepted.most_lines, accepted-read.lines))

  -- and with room it is accepted
  pub text-accepted : (a b c : ℕ) → length xs ≤ a → length xs ≤ b → length xs ≤ c → read_fault (plant_text n xs ys zs) a b c ≡ done
  unfolding long_fault rooms_fault no_room_of cause
  text-accepted a b c ha hb hc =
      read-order (plant_text n xs ys zs) a b c
      ∙ rw (
        le-ltb 32768 (length (plant_text n xs ys zs)) text-short,
        head-right,
        accepted-read.devices,
        accepted-read.firsts,
        accepted-read.seconds,
        accepted-read.signals,
        lines-right,
        accepted-read.lines,
        le-ltb a (length xs) ha,
        le-ltb b (length xs) hb,
        le-ltb c (length xs) hc,
        done_next,
        done_next,
        done_next,
      )
      refl

long-clean : (n : ℕ) → Clean (long_fault n)
unfolding long_fault
long-clean n = clean-cause _ 13 0

pub read-clean : (t : List ℕ) (a b c : ℕ) → Clean (read_fault t a b c)
read-clean t a b c =
    subst Clean (sym (read-order t a b c))
    (clean-or_else (long-clean _) (clean-or_else (head-clean _) (clean-or_else (lines-clean _ _ _ _) (rooms-clean _ a b c))))

-- a text that is accepted is the text of the accepted plant that it states, and there is room for it
module _ (t : List ℕ) (a b c : ℕ) (e : read_fault t a b c ≡ done) where
  after-long : or_else (head_fault_of (form t)) (or_else (lines_fault (form t).devices (firsts_of t) (seconds_of t) (signals_of t)) (rooms_fault (form t).lines a b c)) ≡ done
  after-long = or_else-right _ (long-clean (length t)) (sym (read-order t a b c) ∙ e)

  head-good : head_fault_of (form t) ≡ done
  head-good = or_else-left _ (head-clean (form t)) after-long

  after-head : or_else (lines_fault (form t).devices (firsts_of t) (seconds_of t) (signals_of t)) (rooms_fault (form t).lines a b c) ≡ done
  after-head = or_else-right _ (head-clean (form t)) after-long

  pub text-is : plant_text (form t).devices (firsts_of t) (seconds_of t) (signals_of t) ≡ t
  text-is = form-written t (head-line (form t) head-good)

  pub text-right : plant_fault (form t).devices (firsts_of t) (seconds_of t) (signals_of t) ≡ done
  text-right = plant-lines t head-good ∙ or_else-left _ (lines-clean _ _ _ _) after-head

  rooms : no_room_of (form t).lines a b c ≡ false
  unfolding rooms_fault
  rooms = cause-off _ 11 0 (or_else-right _ (lines-clean _ _ _ _) after-head)

  pub text-room : ((form t).lines ≤ a) × ((form t).lines ≤ b) × ((form t).lines ≤ c)
  text-room = (room-first (form t).lines a b c rooms, room-second (form t).lines a b c rooms, room-third (form t).lines a b c rooms)
