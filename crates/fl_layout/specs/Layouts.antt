-- Where an argument begins in a call's payload, and how long a message's payloads and tapes may be.
use Rattle.std.specs.Prelude.{◌≡◌, ℕ, ◌==◌, ◌≤◌, ◌&&◌, Bool, true, false, not, if◌then◌else◌}
use Rattle.std.specs.Prelude.{nat_lt, List, [], ◌∷◌, map, length, slice_get, Option, Some, None}
use Rattle.std.specs.List.{zip, list_any}
use Rattle.fl_interface.specs.Interface.{TheArgType, fixed, text, sized, TheInterface}
use Rattle.fl_interface.specs.Sizes.{align_of, size_of, round_up}
use Rattle.fl_value_data.specs.declared.value.PlanNo.{PlanNo}
use Rattle.fl_value_data.specs.Value.{TheCall}
use Rattle.fl_value_data.specs.Fits.{fits_of}
use Rattle.fl_value_data.specs.Plan.{arranged, is_dynamic}
use Rattle.fl_value_data.specs.Tape.{tape_of, Argument, kind}
use Rattle.fl_layout.specs.Leaves.{leaves, start_onto, arguments_onto, argument_types}
use Rattle.fl_layout.specs.Places.{size}
use Rattle.fl_layout.specs.Extents.{numbered}

-- how many bytes a call's payload has
abbrev pub payload_length : PlanNo → TheInterface → TheCall → ℕ
payload_length plan i c = size (leaves plan i c)

-- how many numbers a call's tape has
abbrev pub tape_length : PlanNo → TheInterface → TheCall → ℕ
tape_length plan i c = length (tape_of plan i c)

-- a call of that message that fits
pub record IsCallOf (i : TheInterface) (msg : ℕ) (c : TheCall) : Type 0 where
  pub fits : fits_of i c ≡ true
  pub names : c.msg ≡ msg

-- those that stand before number j
abbrev pub until : {A : Type 0} → ℕ → List (ℕ × A) → List (ℕ × A)
until j [] = []
until j (a ∷ rest) = if a.0 == j then [] else a ∷ until j rest

-- the arguments that stand before argument j in the plan's order; what is arranged is anything that has an
-- argument's type
abbrev pub standing_before : {A : Type 0} → (A → TheArgType) → PlanNo → List A → ℕ → List A
standing_before type plan args j = map (λ a. a.1) (until j (arranged (λ a. type (a.1)) plan (numbered args)))

-- the alignment at which an argument begins: a string or a sized array begins with a length of 8 bytes
abbrev pub start_align : TheArgType → ℕ
start_align (fixed t) = align_of t
start_align t = 8

abbrev pub start_align_at : Option TheArgType → ℕ
start_align_at None = 1
start_align_at (Some t) = start_align t

-- whether the last of some arguments is a string or a sized array; what is given where there are none
abbrev pub ends_dynamic : Bool → List Argument → Bool
ends_dynamic after_dynamic [] = after_dynamic
ends_dynamic after_dynamic (a ∷ rest) = ends_dynamic (is_dynamic a.0) rest

-- where some arguments end and the next may start: after a string or a sized array at a multiple of 8
abbrev pub end_of_arguments : List Argument → ℕ
end_of_arguments args = size (start_onto (ends_dynamic false args) (arguments_onto false args []))

-- where argument j of a call begins: at a multiple of its alignment, after the leaves of those before it
abbrev pub argument_place : PlanNo → TheInterface → TheCall → ℕ → ℕ
argument_place plan i c j =
    round_up
    (end_of_arguments (standing_before kind plan (zip (argument_types i c.msg) c.args) j))
    (start_align_at (slice_get (argument_types i c.msg) j))

-- a message has an argument j, before which no string or sized array stands in the plan's order
abbrev pub has_one_place : PlanNo → List TheArgType → ℕ → Bool
has_one_place plan types j =
    nat_lt j (length types) && not (list_any is_dynamic (standing_before (λ (t : TheArgType). t) plan types j))

-- the one place at which argument j begins in every call of the message; none where it has none
abbrev pub IsPlace : PlanNo → TheInterface → ℕ → ℕ → Option ℕ → Type 0
IsPlace plan i msg j None = has_one_place plan (argument_types i msg) j ≡ false
IsPlace plan i msg j (Some at) =
    (has_one_place plan (argument_types i msg) j ≡ true)
    × ((c : TheCall) → IsCallOf i msg c → argument_place plan i c j ≡ at)

-- the bytes of a fixed argument, of a sized array's element, and of a string's; 0 of an argument that isn't there
abbrev pub argument_size : Option TheArgType → ℕ
argument_size None = 0
argument_size (Some (fixed t)) = size_of t
argument_size (Some (text most)) = 1
argument_size (Some (sized most t)) = size_of t

-- the least length of the message's calls
pub record IsLeast (length_of : TheCall → ℕ) (i : TheInterface) (msg n : ℕ) : Type 0 where
  pub bounds : (c : TheCall) → IsCallOf i msg c → n ≤ length_of c
  pub call : TheCall
  pub fits : IsCallOf i msg call
  pub reached : length_of call ≡ n

-- the greatest length of the message's calls
pub record IsGreatest (length_of : TheCall → ℕ) (i : TheInterface) (msg n : ℕ) : Type 0 where
  pub bounds : (c : TheCall) → IsCallOf i msg c → length_of c ≤ n
  pub call : TheCall
  pub fits : IsCallOf i msg call
  pub reached : length_of call ≡ n
