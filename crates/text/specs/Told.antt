-- What the reader answers, by the definitions of what stands at a place. No public contract cites these.
-- Assumes nothing.
use Rattle.std.specs.Prelude.{ℕ, Bool, cond, List, Option, Result, Ok, Err, eqb, drop}
use Rattle.std.specs.Bool.{then_some}
use Rattle.text.specs.declared.reader.Line.{Line}
use Rattle.text.specs.declared.whole.Stated.{Stated}
use Rattle.text.specs.Numbers.{Number}
use Rattle.text.specs.Lines.{Row}
use Rattle.text.specs.Form.{Form}

-- whether a word is there
abbrev pub told_word : Bool → Option (Unit {0})
told_word b = then_some b tt

-- the value, where there is one
abbrev pub told_number : Number → Option ℕ
told_number n = then_some n.ok n.value

-- the line that a row states, where there is one
abbrev pub told_row : Row → Option Line
told_row r = then_some r.ok (record { first = r.first; second = r.second; signals = r.signals })

-- nothing, or the text line that is not as expected
abbrev pub told_fault : ℕ → Result (Unit {0}) ℕ
told_fault k = cond (eqb k 0) (Ok tt) (Err k)

-- what the text t states, of the form f, or the text line that is not as expected
abbrev pub told_form : List ℕ → Form → Result Stated ℕ
told_form t f = cond (eqb f.line 0) (Ok (record { devices = f.devices; lines = f.lines; rows = drop f.at t })) (Err f.line)
