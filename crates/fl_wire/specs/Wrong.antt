-- Why the next fragment can't follow those since the last whole call: its first fault.
use Rattle.std.specs.Prelude.{◌≡◌, ◌⊎◌, ℕ, ◌+◌, ◌*◌, ◌<◌, ◌==◌, ◌&&◌, not, nat_lt, Bool, true}
use Rattle.std.specs.Prelude.{false, if◌then◌else◌, List, [], ◌∷◌, ◌++◌, length, slice_get, Option, Some, None}
use Rattle.std.specs.List.{zip}
use Rattle.fl_base.specs.declared.fragment.Frag.{Frag}
use Rattle.fl_base.specs.Control.{first_of, acknowledges_of, reserved_of, message_of, circuit_of}
use Rattle.fl_interface.specs.Interface.{TheInterface}
use Rattle.fl_value_data.specs.Value.{TheCall}
use Rattle.fl_value_data.specs.Fits.{fits_of}
use Rattle.fl_value_data.specs.Plan.{arranged}
use Rattle.fl_value_data.specs.declared.value.PlanNo.{PlanNo}
use Rattle.fl_value_data.specs.Tape.{kind}
use Rattle.fl_layout.specs.Leaves.{leaves, argument_types}
use Rattle.fl_wire.specs.Reading.{Reads, IsWrong}
use Rattle.fl_wire.specs.Covered.{is_covered, is_length}
use Rattle.fl_wire.specs.Shapes.{Agrees}
use Rattle.fl_wire.specs.declared.fault.WireFault.{WireFault}
use Rattle.fl_wire.specs.declared.fault.WireFault.TheVariants.{NotFirst, FirstInside, UnknownMessage, NotZero, OutOfType, TooLong, Memory}

-- the fault of a byte that can't stand there: in a length, in a number, an enumerator or a string, and where
-- nothing stands
abbrev pub fault_at : PlanNo → TheInterface → TheCall → ℕ → WireFault
fault_at plan i c p =
    if is_length false (arranged kind plan (zip (argument_types i c.msg) c.args)) [] p then TooLong
    else (if is_covered (leaves plan i c) p then OutOfType else NotZero)

-- ---- the first wrong byte of a payload

-- up to a byte the fragments agree with a fitting call of the message, and with none up to and with that byte
pub record WrongByte (plan : PlanNo) (i : TheInterface) (msg : ℕ) (frags : List Frag) (fault : WireFault) : Type 0 where
  pub p : ℕ
  pub inside : p < 56 * length frags
  pub call : TheCall
  pub of : call.msg ≡ msg
  pub fits : fits_of i call ≡ true
  pub before : Agrees frags (leaves plan i call) p
  pub none : (c : TheCall) → c.msg ≡ msg → fits_of i c ≡ true → Agrees frags (leaves plan i c) (p + 1) → ⊥
  pub is : fault ≡ fault_at plan i call p

-- ---- the first fault of a fragment

-- it doesn't acknowledge, and the reserved bits and the circuit are 0
abbrev pub is_clean : Frag → Bool
is_clean f = not (acknowledges_of f.control) && (reserved_of f.control == 0) && (circuit_of f.control == 0)

-- in order: a reserved bit or a circuit; no first fragment; no such message
abbrev pub start_fault : TheInterface → Frag → Option WireFault
start_fault i f =
    if not (is_clean f) then Some NotZero
    else (if not (first_of f.control) then Some NotFirst
    else (if nat_lt (message_of f.control) (length i.messages) then None else Some UnknownMessage))

-- inside a call of a message, in order: a reserved bit or a circuit; a first fragment; another message
abbrev pub follow_fault : ℕ → Frag → Option WireFault
follow_fault msg f =
    if not (is_clean f) then Some NotZero
    else (if first_of f.control then Some FirstInside
    else (if message_of f.control == msg then None else Some UnknownMessage))

-- the fault of the control word of the fragment after those of a call under way, or after whole calls
abbrev pub header_fault : TheInterface → List Frag → Frag → Option WireFault
header_fault i [] f = start_fault i f
header_fault i (g ∷ rest) f = follow_fault (message_of g.control) f

-- its control word's; else the first wrong byte's
abbrev pub HasFault : PlanNo → TheInterface → List Frag → Frag → WireFault → Type 0
HasFault plan i rest f fault =
    (header_fault i rest f ≡ Some fault)
    ⊎ ((header_fault i rest f ≡ None) × WrongByte plan i (message_of f.control) (rest ++ f ∷ []) fault)

-- the first fragment that makes a list wrong, after those that read as calls and a rest, and its first fault
pub record IsWrongAt (plan : PlanNo) (i : TheInterface) (frags : List Frag) (fault : WireFault) : Type 0 where
  pub before : List Frag
  pub one : Frag
  pub after : List Frag
  pub is : frags ≡ before ++ one ∷ after
  pub calls : List TheCall
  pub rest : List Frag
  pub reads : Reads plan i before calls rest
  pub wrong : IsWrong plan i (before ++ one ∷ [])
  pub first : HasFault plan i rest one fault

-- ---- out of memory

-- there is a first fragment, and its control word may begin a call
pub record BeginsWell (i : TheInterface) (frags : List Frag) : Type 0 where
  pub one : Frag
  pub first : slice_get frags 0 ≡ Some one
  pub starts : start_fault i one ≡ None

-- fragments that read as whole calls, and behind them one whose control word may begin a call
pub record BeginsAfterCalls (plan : PlanNo) (i : TheInterface) (frags : List Frag) : Type 0 where
  pub before : List Frag
  pub rest : List Frag
  pub is : frags ≡ before ++ rest
  pub calls : List TheCall
  pub reads : Reads plan i before calls []
  pub begins : BeginsWell i rest

-- a fault of the fragments of the next call: out of memory comes only after the control word of the first
abbrev pub IsNextFault : PlanNo → TheInterface → List Frag → WireFault → Type 0
IsNextFault plan i frags fault = ((fault ≡ Memory) × BeginsWell i frags) ⊎ IsWrongAt plan i frags fault

-- a fault of fragments: out of memory comes only after whole calls and the control word of the fragment behind them
abbrev pub IsFirstFault : PlanNo → TheInterface → List Frag → WireFault → Type 0
IsFirstFault plan i frags fault = ((fault ≡ Memory) × BeginsAfterCalls plan i frags) ⊎ IsWrongAt plan i frags fault
