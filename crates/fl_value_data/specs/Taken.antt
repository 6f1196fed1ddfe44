-- What stands at the front of a tape: a value, an argument, or several of them one after another; and which
-- call has a tape.
use Rattle.std.specs.Prelude.{◌≡◌, ◌≤◌, ℕ, ℤ, pos, negsuc, ◌-◌, ◌*◌, nat_lt, true, if◌then◌else◌, List, [], ◌∷◌, ◌++◌, map, length, Option, Some, None}
use Rattle.std.specs.List.{list_all}
use Rattle.fl_interface.specs.declared.interface.Scalar.{Scalar}
use Rattle.fl_interface.specs.Interface.{TheType, TheArgType, TheInterface}
use Rattle.fl_interface.specs.declared.interface.ArgType.{ArgType}
use Rattle.fl_interface.specs.Interface.{arg_type_of}
use Rattle.fl_interface.specs.Counts.{interface_words_fit}
use Rattle.fl_value_data.specs.declared.value.PlanNo.{PlanNo}
use Rattle.fl_value_data.specs.declared.value.PlanNo.TheVariants.{Two}
use Rattle.fl_value_data.specs.declared.value.Value.{Value}
use Rattle.fl_value_data.specs.Value.{Datum, TheCall, datum_of}
use Rattle.fl_value_data.specs.Fits.{is_signed, least_above, how_many_below, has_type, is_argument, is_text_byte, fits_of}
use Rattle.fl_value_data.specs.Plan.{arranged, of_rank, by_ranks}
use Rattle.fl_value_data.specs.Tape.{value_tape, argument_tape, tape_of}

-- the number below a bound that has these bits, if one has
abbrev pub unsigned_back : ℕ → ℕ → Option ℤ
unsigned_back above bits = if nat_lt bits above then Some (pos bits) else None

-- the same of two's complement, where half of the numbers are below 0
abbrev pub signed_back : ℕ → ℕ → Option ℤ
signed_back half bits =
    if nat_lt bits half then Some (pos bits)
    else if nat_lt bits (2 * half) then Some (negsuc (2 * half - 1 - bits))
    else None

abbrev pub scalar_back : Scalar → ℕ → Option ℤ
scalar_back s bits = if is_signed s then signed_back (how_many_below s) bits else unsigned_back (least_above s) bits

-- a value of the type, and then the rest
pub record ValueAt (t : TheType) (tape : List ℕ) (d : Datum) (rest : List ℕ) : Type 0 where
  pub typed : has_type t d ≡ true
  pub prefix : tape ≡ value_tape t d ++ rest

-- an argument of the type
pub record ArgumentAt (t : TheArgType) (tape : List ℕ) (d : Datum) (rest : List ℕ) : Type 0 where
  pub typed : is_argument t d ≡ true
  pub prefix : tape ≡ argument_tape t d ++ rest

-- a length of at most so many
pub record LengthAt (most : ℕ) (tape : List ℕ) (n : ℕ) (rest : List ℕ) : Type 0 where
  pub few : n ≤ most
  pub prefix : tape ≡ n ∷ rest

-- so many bytes of a string
pub record BytesAt (count : ℕ) (tape : List ℕ) (bytes rest : List ℕ) : Type 0 where
  pub many : length bytes ≡ count
  pub typed : list_all is_text_byte bytes ≡ true
  pub prefix : tape ≡ bytes ++ rest

-- values of these types, one after another
abbrev pub InTurn : {A : Type 0} → (A → List ℕ → Datum → List ℕ → Type 0) → List A → List ℕ → List Datum → List ℕ → Type 0
InTurn At [] tape [] rest = tape ≡ rest
InTurn At [] tape (d ∷ ds) rest = ⊥
InTurn At (t ∷ ts) tape [] rest = ⊥
InTurn At (t ∷ ts) tape (d ∷ ds) rest = (next : List ℕ) × At t tape d next × InTurn At ts next ds rest

-- the types of a rank's arguments, in declared order; of all under plan 2, rank by rank; and of all, in the plan's order
abbrev pub types_of_rank : PlanNo → ℕ → List TheArgType → List TheArgType
types_of_rank plan rank types = of_rank (λ t. t) plan rank types

abbrev pub types_by_ranks : List TheArgType → List TheArgType
types_by_ranks types = by_ranks (λ t. t) Two types

abbrev pub planned_types : PlanNo → List TheArgType → List TheArgType
planned_types plan types = arranged (λ t. t) plan types

-- arguments' types, as the code has them
abbrev pub arg_types : List ArgType → List TheArgType
arg_types types = map arg_type_of types

-- it stands there, and nothing else does, nor before another rest
pub record TheOne {B : Type 0} (At : B → List ℕ → Type 0) (b : B) (rest : List ℕ) : Type 0 where
  pub stands : At b rest
  pub only : (c : B) (end : List ℕ) → At c end → (b ≡ c) × (rest ≡ end)

-- nothing of the kind stands there
abbrev pub NoneOf : {B : Type 0} → (B → List ℕ → Type 0) → Type 0
NoneOf {B = B} At = (b : B) (rest : List ℕ) → At b rest → ⊥

-- it stands there with these values, as the code has them
abbrev pub TheValues : (List Datum → List ℕ → Type 0) → List Value → List ℕ → Type 0
TheValues At values rest = TheOne At (map datum_of values) rest

-- behind values that were read before, up to a tape: the arguments of these types
abbrev pub MoreRead : List Value → List ℕ → List TheArgType → List Value → List ℕ → Type 0
MoreRead before tape types values rest =
    (done : List TheArgType) (whole : List ℕ) → TheValues (InTurn ArgumentAt done whole) before tape
    → TheValues (InTurn ArgumentAt (done ++ types) whole) values rest

abbrev pub NoneRead : List Value → List ℕ → List TheArgType → Type 0
NoneRead before tape types =
    (done : List TheArgType) (whole : List ℕ) → TheValues (InTurn ArgumentAt done whole) before tape → NoneOf (InTurn ArgumentAt (done ++ types) whole)

-- a fitting call of a message, whose tape is this one
pub record HasTape (plan : PlanNo) (i : TheInterface) (msg : ℕ) (tape : List ℕ) (c : TheCall) : Type 0 where
  pub message : c.msg ≡ msg
  pub fits : fits_of i c ≡ true
  pub whole : tape ≡ tape_of plan i c

-- fitting calls of one message with one tape are equal, where the counts of the interface fit words of 32 bits
abbrev pub OneCallOfATape : Type 0
OneCallOfATape = (plan : PlanNo) (i : TheInterface) (msg : ℕ) (tape : List ℕ) (c d : TheCall) → interface_words_fit i ≡ true
    → HasTape plan i msg tape c → HasTape plan i msg tape d → c ≡ d
