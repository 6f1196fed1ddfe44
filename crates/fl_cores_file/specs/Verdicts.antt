-- What comes of something that is asked for: it is refused, or things go on. And what a function tells of that.
use Rattle.std.specs.Prelude.{◌≡◌, ℕ, Option, Some, None, Result, Ok, Err}
use Rattle.fl_cores_file.specs.declared.stop.CoresLineFault.{CoresLineFault}
use Rattle.fl_cores_file.specs.declared.stop.CoresLineFault.TheVariants.{Refused, Memory}

pub data LineVerdict (A : Type 0) : Type 0 where
  -- refused, with the fault's number
  stops : ℕ → LineVerdict A
  -- what things are then
  goes_on : A → LineVerdict A

-- what a function returned, and what it left, is this verdict; nothing is told where memory ran out
abbrev pub Comes : {A T : Type 0} → Result T CoresLineFault → A → LineVerdict A → Type 0
Comes (Ok x) left v = v ≡ goes_on left
Comes (Err (Refused number)) left v = v ≡ stops number
Comes (Err Memory) left v = Unit {0}

-- this holds of the verdict that it is; nothing is told where memory ran out
abbrev pub ComesTo : {A T : Type 0} → Result T CoresLineFault → A → (LineVerdict A → Type 0) → Type 0
ComesTo (Ok x) left P = P (goes_on left)
ComesTo (Err (Refused number)) left P = P (stops number)
ComesTo (Err Memory) left P = Unit {0}

-- refused with a number, or else memory ran out
abbrev pub stop_of : Option ℕ → CoresLineFault
stop_of None = Memory
stop_of (Some number) = Refused number

-- the fault's number
abbrev pub number_of : CoresLineFault → ℕ
number_of (Refused number) = number
number_of Memory = 99
