-- The faults of calls as text, and what each says.
use Rattle.std.specs.Prelude.{ℕ}
use Rattle.fl_value.specs.declared.fault.ValueFault.{ValueFault}
use Rattle.fl_value.specs.declared.fault.ValueFault.TheVariants.{NotACall, NoSuchMessage, DoesNotFit, Memory}

abbrev pub number_of : ValueFault → ℕ
number_of NotACall = 90
number_of NoSuchMessage = 41
number_of DoesNotFit = 42
number_of Memory = 99

-- memory is wanting only where this holds
abbrev pub WantsMemory : ValueFault → Type 0 → Type 0
WantsMemory Memory holds = holds
WantsMemory fault holds = Unit {0}

-- a reading of a text fails only where the text says nothing, or memory runs out
abbrev pub Refuses : ValueFault → Type 0 → Type 0
Refuses NotACall nothing = nothing
Refuses NoSuchMessage nothing = ⊥
Refuses DoesNotFit nothing = ⊥
Refuses Memory nothing = Unit {0}
