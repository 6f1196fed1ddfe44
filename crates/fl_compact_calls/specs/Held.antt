-- Which call is held.
use Rattle.std.specs.Prelude.{ℕ, pos, List, [], ◌∷◌}
use Rattle.fl_value_data.specs.Value.{Datum, number, TheCall, call_of}
use Rattle.fl_compact_calls.specs.declared.holding.HeldCall.{HeldCall}
use Rattle.fl_compact_calls.specs.declared.holding.HeldCall.TheVariants as held
use Rattle.fl_compact_calls.specs.declared.holding.SeenCall.{SeenCall}
use Rattle.fl_compact_calls.specs.declared.holding.SeenCall.TheVariants as seen

-- the arguments of a call of one number
abbrev pub one_number : ℕ → List Datum
one_number n = number (pos n) ∷ []

abbrev pub held_in : HeldCall → TheCall
held_in (held.Number msg n) = record { msg = msg.0; args = one_number n }
held_in (held.Other call) = call_of call.value

-- which call is seen
abbrev pub seen_in : SeenCall → TheCall
seen_in (seen.Number msg n) = record { msg = msg.0; args = one_number n }
seen_in (seen.Other call) = call_of call.now
