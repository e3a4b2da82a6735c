-- The number and the place of an answer that is an enum: document 01, "For every answer that is an enum, a definition gives this paper's
-- number and values for each case of the enum."
-- Assumes nothing.
use Rattle.std.specs.Prelude.{Result, Ok, Err}
use Rattle.rules.specs.Refusal.{Refusal}
use Rattle.rules.specs.declared.Fault.{Fault}
use Rattle.rules.specs.declared.Fault.TheVariants.{NoDevices, ManyDevices, UnevenLists, ManyLines, EndNoDevice, EndsNotRising, LineNotRising, SignalsOffRange, RateOffRange, NoSuchDevice, SameDevice, ShortList, NeverJoin, LongText, WrongTextLine, NoSuchLevel}

-- the table of "Refusal numbers"
abbrev pub refusal_of : Fault → Refusal
refusal_of NoDevices = record { number = 1; place = 0 }
refusal_of ManyDevices = record { number = 2; place = 0 }
refusal_of UnevenLists = record { number = 3; place = 0 }
refusal_of ManyLines = record { number = 4; place = 0 }
refusal_of (EndNoDevice line) = record { number = 5; place = line }
refusal_of (EndsNotRising line) = record { number = 6; place = line }
refusal_of (LineNotRising line) = record { number = 7; place = line }
refusal_of (SignalsOffRange line) = record { number = 8; place = line }
refusal_of RateOffRange = record { number = 9; place = 0 }
refusal_of NoSuchDevice = record { number = 10; place = 0 }
refusal_of SameDevice = record { number = 11; place = 0 }
refusal_of ShortList = record { number = 12; place = 0 }
refusal_of NeverJoin = record { number = 13; place = 0 }
refusal_of LongText = record { number = 14; place = 0 }
refusal_of (WrongTextLine line) = record { number = 15; place = line }
refusal_of NoSuchLevel = record { number = 16; place = 0 }

-- "0 means done, with place 0."
abbrev pub told : {A : Type 0} → Result A Fault → Refusal
told (Ok x) = record { number = 0; place = 0 }
told (Err f) = refusal_of f
