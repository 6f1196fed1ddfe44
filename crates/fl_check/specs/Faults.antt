-- The faults of checking, by number and offset.
use Rattle.std.specs.Prelude.{◌≡◌, ℕ, List, Option, Some, None}
use Rattle.fl_check.specs.declared.fault.Rule.{Rule}
use Rattle.fl_check.specs.declared.fault.Rule.TheVariants.{TypeNameTaken, UnknownType, MessageNameTaken, NameTwice, Capability, NothingInIt, BadCount}
use Rattle.fl_check.specs.declared.fault.Rule.TheVariants.{TooBig, NotFixed, TooMany, BadBound, TooLong}
use Rattle.fl_check.specs.declared.fault.CheckFault.{CheckFault}
use Rattle.fl_check.specs.declared.fault.CheckFault.TheVariants.{Broken, Memory}
use Rattle.fl_check.specs.Places.{TextPlace}
use Rattle.fl_check.specs.Checks.{Fault, first_fault}

-- the number by which a broken rule is told, E10 to E21; the places of a tree have the same numbers
abbrev pub rule_number : Rule → ℕ
rule_number TypeNameTaken = 10
rule_number UnknownType = 11
rule_number MessageNameTaken = 12
rule_number NameTwice = 13
rule_number Capability = 14
rule_number NothingInIt = 15
rule_number BadCount = 16
rule_number TooBig = 17
rule_number NotFixed = 18
rule_number TooMany = 19
rule_number BadBound = 20
rule_number TooLong = 21

-- out of memory is E99
abbrev pub fault_number : CheckFault → ℕ
fault_number (Broken r at) = rule_number r
fault_number Memory = 99

-- where the rule is broken; out of memory has no place in the text
abbrev pub fault_offset : CheckFault → Option ℕ
fault_offset (Broken r at) = Some at
fault_offset Memory = None

-- an error tells the first fault, where it isn't out of memory
abbrev pub Tells : CheckFault → Option Fault → Type 0
Tells (Broken r at) f = f ≡ Some (record { number = rule_number r; at = at })
Tells Memory f = Unit {0}

-- out of memory comes after a look at these places, which found nothing
abbrev pub ComesAfter : CheckFault → List TextPlace → Type 0
ComesAfter (Broken r at) looks = Unit {0}
ComesAfter Memory looks = first_fault looks ≡ None
