-- A working file: what is left of a tape behind a value of a type or behind an argument, if it begins with one. No value is made,
-- so that this takes no memory.
use Rattle.std.specs.Prelude.{ℕ, zero, suc, ◌+◌, ◌^◌, min, nat_lt, nat_le, nat_eq, Bool, false, if◌then◌else◌, List, [], ◌∷◌, length, Option, Some, None}
use Rattle.std.specs.Prelude.{option_and_then}
use Rattle.fl_interface.specs.declared.interface.Scalar.{Scalar}
use Rattle.fl_interface.specs.Interface.{TheType, scalar, enumeration, structure, array, TheTypes, no_more, field, TheArgType, fixed, text, sized}
use Rattle.fl_value_data.specs.declared.value.PlanNo.{PlanNo}
use Rattle.fl_value_data.specs.Fits.{least_above, how_many_below, is_text_byte}
use Rattle.fl_value_data.specs.Plan.{rank_of}

-- behind a number that passes a test
abbrev pub after_number : (ℕ → Bool) → List ℕ → Option (List ℕ)
after_number test [] = None
after_number test (n ∷ rest) = if test n then Some rest else None

-- behind so many things of a kind
abbrev pub after_each : (List ℕ → Option (List ℕ)) → ℕ → List ℕ → Option (List ℕ)
after_each after zero tape = Some tape
after_each after (suc n) tape = option_and_then (after_each after n) (after tape)

-- behind one thing of each of these kinds, in turn
abbrev pub after_all : {A : Type 0} → (A → List ℕ → Option (List ℕ)) → List A → List ℕ → Option (List ℕ)
after_all after [] tape = Some tape
after_all after (t ∷ ts) tape = option_and_then (after_all after ts) (after t tape)

-- behind a length of at most so many, and as many things of a kind as it says
abbrev pub after_counted : (List ℕ → Option (List ℕ)) → ℕ → List ℕ → Option (List ℕ)
after_counted after most [] = None
after_counted after most (n ∷ rest) = if nat_le n most then after_each after n rest else None

-- how many values a scalar type has: their bits are the numbers below
abbrev pub count_of_scalar : Scalar → ℕ
count_of_scalar s = least_above s + how_many_below s

abbrev mutual
  -- behind a value of a type; the place of an enumerator has 32 bits
  pub after_value : TheType → List ℕ → Option (List ℕ)
  after_value (scalar s) tape = after_number (λ bits. nat_lt bits (count_of_scalar s)) tape
  after_value (enumeration n) tape = after_number (λ bits. nat_lt bits (min n (2 ^ 32))) tape
  after_value (structure ts) tape = after_fields ts tape
  after_value (array n t) tape = after_each (after_value t) n tape

  -- behind those of a struct's fields
  pub after_fields : TheTypes → List ℕ → Option (List ℕ)
  after_fields no_more tape = Some tape
  after_fields (field t ts) tape = option_and_then (after_fields ts) (after_value t tape)

abbrev pub after_argument : TheArgType → List ℕ → Option (List ℕ)
after_argument (fixed t) tape = after_value t tape
after_argument (text most) tape = after_counted (after_number is_text_byte) most tape
after_argument (sized most t) tape = after_counted (after_value t) most tape

-- behind an argument of a rank; one of another rank stands elsewhere
abbrev pub after_ranked : PlanNo → ℕ → TheArgType → List ℕ → Option (List ℕ)
after_ranked plan rank t tape = if nat_eq (rank_of plan t) rank then after_argument t tape else Some tape

-- behind the arguments of so many ranks, from one on, rank by rank
abbrev pub after_ranks : PlanNo → ℕ → ℕ → List TheArgType → List ℕ → Option (List ℕ)
after_ranks plan zero rank types tape = Some tape
after_ranks plan (suc more) rank types tape = option_and_then (after_ranks plan more (rank + 1) types) (after_all (after_ranked plan rank) types tape)

-- the tape begins with these, and nothing is left behind them
abbrev pub is_all : Option (List ℕ) → Bool
is_all None = false
is_all (Some rest) = nat_eq (length rest) 0
