-- Working definitions of the code: what a plan keeps of an argument, and where arguments end one after another.
use Rattle.std.specs.Prelude.{◌≡◌, ℕ, pos, ◌+◌, ◌*◌, ◌==◌, ◌&&◌, not, nat_le, max, Bool, true, false}
use Rattle.std.specs.Prelude.{if◌then◌else◌, Option, Some, None, List, [], ◌∷◌, map, length, get_or}
use Rattle.std.specs.List.{zip, range_with_len, list_all}
use Rattle.fl_interface.specs.Interface.{TheType, scalar, enumeration, structure, array, TheTypes, no_more, field, TheArgType, fixed, text, sized, TheMessage}
use Rattle.fl_interface.specs.Sizes.{size_of, align_of, round_up}
use Rattle.fl_value_data.specs.declared.value.PlanNo.{PlanNo}
use Rattle.fl_value_data.specs.Plan.{arranged, of_rank}
use Rattle.fl_value_data.specs.Value.{Datum, number, string, elements, fields}
use Rattle.fl_value_data.specs.Fits.{count_of}
use Rattle.fl_layout.specs.declared.extent.Extent.{Extent}
use Rattle.fl_layout.specs.declared.extent.Extent.TheVariants.{Fixed, Text, Sized}
use Rattle.fl_layout.specs.declared.extent.PlacedArg.{PlacedArg}
use Rattle.fl_layout.specs.declared.extent.Fill.{Fill}
use Rattle.fl_layout.specs.declared.extent.Fill.TheVariants.{Empty, Full}

-- how many numbers a value of a type has: its scalars and enumerators
abbrev mutual
  pub numbers_of : TheType → ℕ
  numbers_of (scalar s) = 1
  numbers_of (enumeration n) = 1
  numbers_of (structure ts) = numbers_of_all ts
  numbers_of (array n t) = n * numbers_of t

  pub numbers_of_all : TheTypes → ℕ
  numbers_of_all no_more = 0
  numbers_of_all (field t ts) = numbers_of t + numbers_of_all ts

abbrev pub extent_of : TheArgType → Extent
extent_of (fixed t) = Fixed (size_of t) (align_of t) (numbers_of t)
extent_of (text most) = Text most
extent_of (sized most t) = Sized most (size_of t) (numbers_of t)

-- things with their numbers, from 0
abbrev pub numbered : {A : Type 0} → List A → List (ℕ × A)
numbered xs = zip (range_with_len 0 (length xs)) xs

-- an argument with its number
abbrev pub placing : ℕ × TheArgType → PlacedArg
placing a = record { argument = a.0; extent = extent_of a.1 }

-- arguments with their numbers, as a plan keeps them
abbrev pub typed : ℕ × TheArgType → TheArgType
typed a = a.1

-- what a plan keeps of a message: each argument's number and extent, in the plan's order
abbrev pub placed_of : PlanNo → TheMessage → List PlacedArg
placed_of plan m = map placing (arranged typed plan (numbered m.args))

-- what it keeps of the arguments of a rank, as declared
abbrev pub placed_of_rank : PlanNo → ℕ → List TheArgType → List PlacedArg
placed_of_rank plan rank types = map placing (of_rank typed plan rank (numbered types))

-- where an argument with so many bytes or elements ends, if what stands before it ends at a place after which
-- an alignment is due
abbrev pub end_of : ℕ → ℕ → Extent → ℕ → ℕ
end_of at due (Fixed size align numbers) count = round_up at (max due align) + size
end_of at due (Text most) count = round_up at 8 + (8 + count)
end_of at due (Sized most stride numbers) count = round_up at 8 + (8 + count * stride)

-- where an argument begins that ends so
abbrev pub start_of : ℕ → ℕ → Extent → ℕ
start_of at due (Fixed size align numbers) = round_up at (max due align)
start_of at due (Text most) = round_up at 8
start_of at due (Sized most stride numbers) = round_up at 8

-- what is due after an argument: after a string or a sized array a multiple of 8
abbrev pub due_after : Extent → ℕ
due_after (Fixed size align numbers) = 1
due_after (Text most) = 8
due_after (Sized most stride numbers) = 8

-- an argument's extent beside its number of bytes or elements
abbrev pub Filled : Type 0
Filled = Extent × ℕ

-- where the last of some arguments ends
abbrev pub end_of_all : ℕ → ℕ → List Filled → ℕ
end_of_all at due [] = at
end_of_all at due (f ∷ fs) = end_of_all (end_of at due f.0 f.1) (due_after f.0) fs

-- how many numbers an argument has on a tape: a string and a sized array begin with their length
abbrev pub numbers_in : Extent → ℕ → ℕ
numbers_in (Fixed size align numbers) count = numbers
numbers_in (Text most) count = 1 + count
numbers_in (Sized most stride numbers) count = 1 + count * numbers

abbrev pub numbers_in_all : List Filled → ℕ
numbers_in_all [] = 0
numbers_in_all (f ∷ fs) = numbers_in f.0 f.1 + numbers_in_all fs

-- an argument with no byte or element, with as many as it may have, and with those of a value
abbrev pub most_of : Extent → ℕ
most_of (Fixed size align numbers) = 0
most_of (Text most) = most
most_of (Sized most stride numbers) = most

abbrev pub count_in : Datum → ℕ
count_in (number z) = 0
count_in (string bytes) = length bytes
count_in (elements ds) = count_of ds
count_in (fields ds) = 0

-- a fixed argument has none that count
abbrev pub count_at : Extent → Datum → ℕ
count_at (Fixed size align numbers) d = 0
count_at (Text most) d = count_in d
count_at (Sized most stride numbers) d = count_in d

abbrev pub count_by : Fill → Extent → ℕ
count_by Empty extent = 0
count_by Full extent = most_of extent

abbrev pub filled_up : Fill → PlacedArg → Filled
filled_up fill p = (p.extent, count_by fill p.extent)

abbrev pub filled_by : List Datum → PlacedArg → Filled
filled_by ds p = (p.extent, count_at p.extent (get_or ds p.argument (number (pos 0))))

-- sizes, alignments and counts as the limits have them
abbrev pub is_within : Extent → Bool
is_within (Fixed size align numbers) = nat_le size 4096 && (nat_le 1 align && (nat_le align 8 && nat_le numbers 4096))
is_within (Text most) = nat_le most 4096
is_within (Sized most stride numbers) = nat_le most 4096 && (nat_le stride 4096 && nat_le numbers 4096)

abbrev pub are_within : List PlacedArg → Bool
are_within ps = list_all (λ (p : PlacedArg). is_within p.extent) ps

-- a value has no more bytes or elements than it may
abbrev pub is_short : List Datum → PlacedArg → Bool
is_short ds p = nat_le (count_at p.extent (get_or ds p.argument (number (pos 0)))) 4096

-- that of a string or a sized array
abbrev pub is_varying : Extent → Bool
is_varying (Fixed size align numbers) = false
is_varying extent = true

abbrev pub are_fixed : List PlacedArg → Bool
are_fixed ps = list_all (λ (p : PlacedArg). not (is_varying p.extent)) ps

-- so many bytes has each payload, where no argument varies
abbrev pub IsFixedLength : List PlacedArg → ℕ → Type 0
IsFixedLength ps n = (are_fixed ps ≡ true) × (n ≡ end_of_all 0 1 (map (filled_up Empty) ps))

-- the extent of argument j
abbrev pub extent_among : ℕ → List PlacedArg → Option Extent
extent_among j [] = None
extent_among j (p ∷ ps) = if p.argument == j then Some p.extent else extent_among j ps

-- where argument j begins, if no string or sized array stands before it
abbrev pub start_among : ℕ → ℕ → ℕ → List PlacedArg → Option ℕ
start_among j at due [] = None
start_among j at due (p ∷ ps) =
    if p.argument == j then Some (start_of at due p.extent)
    else if is_varying p.extent then None
    else start_among j (end_of at due p.extent 0) (due_after p.extent) ps

-- the bytes of a fixed argument, of a sized array's element, and of a string's
abbrev pub unit_of : Extent → ℕ
unit_of (Fixed size align numbers) = size
unit_of (Text most) = 1
unit_of (Sized most stride numbers) = stride
