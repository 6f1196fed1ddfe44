-- The limits of an interface: those that a text is held to, and every interface in memory.
use Rattle.std.specs.Prelude.{◌+◌, ◌||◌, ℕ, Bool, ◌&&◌, true, false, not, List, [], ◌∷◌, map, length, nat_le, nat_lt}
use Rattle.std.specs.Str.{bytes_eq}
use Rattle.fl_interface.specs.Types.{TheType, scalar, enumeration, structure, array, TheTypes, no_more, field, TheArgType, fixed, text, sized, TheMessage}
use Rattle.fl_interface.specs.Types.{TheInterface}
use Rattle.fl_interface.specs.Depth.{is_too_big}
use Rattle.fl_interface.specs.Payload.{greatest_payload}

-- whether a name is one of these
abbrev pub is_among : List (List ℕ) → List ℕ → Bool
is_among [] name = false
is_among (n ∷ ns) name = bytes_eq n name || is_among ns name

-- a payload that may pass 32,768 bytes
abbrev pub is_too_long : TheMessage → Bool
is_too_long m = nat_lt 32768 (greatest_payload m.args)

abbrev pub count_of : TheTypes → ℕ
count_of no_more = 0
count_of (field t ts) = count_of ts + 1

abbrev mutual
  -- enums and structs that aren't empty, at most 32 fields, counts of 1 to 1,024
  pub is_well_made : TheType → Bool
  is_well_made (scalar s) = true
  is_well_made (enumeration n) = nat_le 1 n
  is_well_made (structure ts) = nat_le 1 (count_of ts) && (nat_le (count_of ts) 32 && are_well_made ts)
  is_well_made (array n t) = nat_le 1 n && (nat_le n 1024 && is_well_made t)

  pub are_well_made : TheTypes → Bool
  are_well_made no_more = true
  are_well_made (field t ts) = is_well_made t && are_well_made ts

-- a type that could be declared: well made, and not too big
abbrev pub is_type_within : TheType → Bool
is_type_within t = is_well_made t && not (is_too_big t)

-- an argument's type; a bound is 1 to 4,096
abbrev pub is_argument_within : TheArgType → Bool
is_argument_within (fixed t) = is_type_within t
is_argument_within (text bound) = nat_le 1 bound && nat_le bound 4096
is_argument_within (sized bound t) = nat_le 1 bound && (nat_le bound 4096 && is_type_within t)

abbrev pub are_arguments_within : List TheArgType → Bool
are_arguments_within [] = true
are_arguments_within (a ∷ args) = is_argument_within a && are_arguments_within args

-- a message: at most 32 arguments, each within the limits, and no payload over 32,768 bytes
abbrev pub is_message_within : TheMessage → Bool
is_message_within m = nat_le (length m.args) 32 && (are_arguments_within m.args && not (is_too_long m))

abbrev pub are_messages_within : List TheMessage → Bool
are_messages_within [] = true
are_messages_within (m ∷ ms) = is_message_within m && are_messages_within ms

abbrev pub are_distinct : List (List ℕ) → Bool
are_distinct [] = true
are_distinct (n ∷ ns) = not (is_among ns n) && are_distinct ns

-- an interface within the limits: at most 256 messages, no name twice, each message within its limits
abbrev pub is_within_limits : TheInterface → Bool
is_within_limits i =
    nat_le (length i.messages) 256
    && (are_distinct (map (λ (m : TheMessage). m.name) i.messages) && are_messages_within i.messages)
