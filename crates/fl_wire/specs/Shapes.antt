-- Working definitions of the reader, but `Agrees`: what may stand at a place of a payload, and what reading it there tells.
use Rattle.std.specs.Prelude.{◌≡◌, ℕ, ◌+◌, ◌*◌, ◌^◌, ◌<◌, ◌≤◌, ◌&&◌, Bool, true, false, List, ◌∷◌, length}
use Rattle.std.specs.List.{list_all, zip}
use Rattle.fl_base.specs.declared.fragment.Frag.{Frag}
use Rattle.fl_interface.specs.Interface.{TheType, TheTypes, TheArgType}
use Rattle.fl_interface.specs.Sizes.{greatest_align}
use Rattle.fl_value_data.specs.Value.{Datum, Data}
use Rattle.fl_value_data.specs.Fits.{has_type, have_types, all_have_type, count_of, is_text_byte, is_argument, are_arguments}
use Rattle.fl_value_data.specs.Plan.{is_dynamic, of_ranks}
use Rattle.fl_value_data.specs.declared.value.PlanNo.{PlanNo}
use Rattle.fl_value_data.specs.Tape.{kind}
use Rattle.fl_layout.specs.Leaves.{Leaf, gap, whole, single, value_onto}
use Rattle.fl_layout.specs.Leaves.{fields_onto, elements_onto, bytes_onto, argument_onto, start_onto, arguments_onto}
use Rattle.fl_layout.specs.Places.{size, place}
use Rattle.fl_wire.specs.Payload.{payload_at}
use Rattle.fl_wire.specs.Standing.{SplitLeaves, byte_in}
use Rattle.fl_wire.specs.Alive.{has_values, all_have_values, argument_has_values}
use Rattle.fl_wire.specs.Covered.{holds, is_covered, is_length}
use Rattle.fl_wire.specs.declared.leaf.CallReadFault.{CallReadFault}
use Rattle.fl_wire.specs.declared.leaf.CallReadFault.TheVariants.{Short, Padding, Value, Length, Memory}

-- the first bytes of some fragments are those of a payload
pub record Agrees (frags : List Frag) (full : List Leaf) (n : ℕ) : Type 0 where
  pub at : (p : ℕ) → p < n → byte_in frags p ≡ payload_at full p

-- things: which of them are meant; the leaves of each, put onto those before it; whether the length of a string
-- or a sized array stands at a byte of these; and what it takes that there are such things
pub record Shape : Type 1 where
  pub what : Type 0
  pub fits : what → Type 0
  pub onto : what → List Leaf → List Leaf
  pub lengths : what → List Leaf → ℕ → Bool
  pub alive : Type 0

-- things without lengths
abbrev pub lengthless_shape : (what : Type 0) → (what → Type 0) → (what → List Leaf → List Leaf) → Type 0 → Shape
lengthless_shape what fits onto alive = record { what = what; fits = fits; onto = onto; lengths = λ w low p. false; alive = alive }

-- nothing
abbrev pub nothing : Shape
nothing = lengthless_shape (Unit {0}) (λ u. Unit {0}) (λ u low. low) (Unit {0})

-- zeros up to a multiple of an alignment
abbrev pub padding : ℕ → Shape
padding align = lengthless_shape (Unit {0}) (λ u. Unit {0}) (λ u low. gap align ∷ low) (Unit {0})

-- numbers below a bound, in so many bytes: lengths, or others
abbrev pub number_in : Bool → ℕ → ℕ → Shape
number_in of_length width bound = record {
  what = ℕ;
  fits = λ n. n < bound;
  onto = λ n low. whole width n ∷ low;
  lengths = λ n low p. of_length && holds (place (gap width) low) width p;
  alive = 0 < bound;
}

-- numbers below a bound that are no lengths
abbrev pub number_below : ℕ → ℕ → Shape
number_below width bound = number_in false width bound

-- lengths below a bound
abbrev pub length_below : ℕ → Shape
length_below bound = number_in true 8 bound

-- the values of a type
abbrev pub values_of : TheType → Shape
values_of t = lengthless_shape Datum (λ d. has_type t d ≡ true) (λ d low. value_onto t d low) (has_values t ≡ true)

-- the fields of a struct
abbrev pub fields_of : TheTypes → Shape
fields_of ts = lengthless_shape Data (λ ds. have_types ts ds ≡ true) (λ ds low. fields_onto ts ds low) (all_have_values ts ≡ true)

-- what is left of a struct after the zeros before it: its fields, and zeros up to its alignment
abbrev pub struct_from : TheTypes → Shape
struct_from ts = lengthless_shape Data (λ ds. have_types ts ds ≡ true) (λ ds low. gap (greatest_align ts) ∷ fields_onto ts ds low) (all_have_values ts ≡ true)

-- so many elements of a type
abbrev pub elements_of : ℕ → TheType → Shape
elements_of n t = lengthless_shape Data (λ ds. (count_of ds ≡ n) × (all_have_type t ds ≡ true)) (λ ds low. elements_onto t ds low) (has_values t ≡ true)

-- a string's bytes
abbrev pub text_byte : Shape
text_byte = lengthless_shape ℕ (λ b. is_text_byte b ≡ true) (λ b low. single b ∷ low) (Unit {0})

-- so many bytes of a string
abbrev pub texts_of : ℕ → Shape
texts_of n = lengthless_shape (List ℕ) (λ bs. (length bs ≡ n) × (list_all is_text_byte bs ≡ true)) (λ bs low. bytes_onto bs low) (Unit {0})

-- the arguments of a type
abbrev pub arguments_of : TheArgType → Shape
arguments_of t = record {
  what = Datum;
  fits = λ d. is_argument t d ≡ true;
  onto = λ d low. argument_onto t d low;
  lengths = λ d low p. is_dynamic t && holds (place (gap 8) low) 8 p;
  alive = argument_has_values t ≡ true;
}

-- what stands before an argument: after a string or a sized array zeros up to a multiple of 8
abbrev pub starts_after : Bool → Shape
starts_after after_dynamic = lengthless_shape (Unit {0}) (λ u. Unit {0}) (λ u low. start_onto after_dynamic low) (Unit {0})

-- an argument and what stands before it
abbrev pub next_argument : Bool → TheArgType → Shape
next_argument after_dynamic t = record {
  what = Datum;
  fits = λ d. is_argument t d ≡ true;
  onto = λ d low. argument_onto t d (start_onto after_dynamic low);
  lengths = λ d low p. is_dynamic t && holds (place (gap 8) low) 8 p;
  alive = argument_has_values t ≡ true;
}

-- the arguments of a message's calls, rank by rank
abbrev pub calls_of : PlanNo → List TheArgType → Shape
calls_of plan ts = record {
  what = List Datum;
  fits = λ ds. are_arguments ts ds ≡ true;
  onto = λ ds low. arguments_onto false (of_ranks kind plan 5 0 (zip ts ds)) low;
  lengths = λ ds low p. is_length false (of_ranks kind plan 5 0 (zip ts ds)) low p;
  alive = list_all argument_has_values ts ≡ true;
}

-- a thing's leaves agree with the fragments up to its end, and no other thing's do
pub record Got (x : Shape) (frags : List Frag) (low : List Leaf) (d : x.what) (end : ℕ) : Type 0 where
  pub fit : x.fits d
  pub ends : size (x.onto d low) ≡ end
  pub agree : Agrees frags (x.onto d low) end
  pub told : (e : x.what) (full : List Leaf) → x.fits e → SplitLeaves (x.onto e low) full → Agrees frags full end → e ≡ d

-- every payload in which a thing stands there, and whose first n bytes are the fragments', is such a one
pub record Halts (x : Shape) (frags : List Frag) (low : List Leaf) (n : ℕ) (is : List Leaf → Type 0) : Type 0 where
  pub none : (e : x.what) (full : List Leaf) → x.fits e → SplitLeaves (x.onto e low) full → Agrees frags full n → is full

-- why no thing has the fragments' byte: it stands in a length, in another leaf, or where nothing stands
abbrev pub IsWhy : CallReadFault → Bool → Bool → Type 0
IsWhy Short of_length covered = Unit {0}
IsWhy Padding of_length covered = (of_length ≡ false) × (covered ≡ false)
IsWhy Value of_length covered = (of_length ≡ false) × (covered ≡ true)
IsWhy Length of_length covered = of_length ≡ true
IsWhy Memory of_length covered = Unit {0}

-- a thing that agrees with the first n bytes and has more, and what stands at byte n of it
pub record Near (stop : CallReadFault) (x : Shape) (frags : List Frag) (low : List Leaf) (n : ℕ) : Type 0 where
  pub one : x.what
  pub fit : x.fits one
  pub agree : Agrees frags (x.onto one low) n
  pub longer : n < size (x.onto one low)
  pub why : IsWhy stop (x.lengths one low n) (is_covered (x.onto one low) n)

-- all that agree are longer than the fragments, and one does
pub record StreamCut (x : Shape) (frags : List Frag) (low : List Leaf) : Type 0 where
  pub all : Halts x frags low (56 * length frags) (λ full. 56 * length frags < size full)
  pub near : x.alive → Near Short x frags low (56 * length frags)

-- at a byte of the fragments, none agrees any more; one does up to that byte
pub record Wrong (stop : CallReadFault) (x : Shape) (frags : List Frag) (low : List Leaf) : Type 0 where
  pub p : ℕ
  pub after : size low ≤ p
  pub inside : p < 56 * length frags
  pub none : Halts x frags low (p + 1) (λ full. ⊥)
  pub near : x.alive → Near stop x frags low p

-- why the reading stops
abbrev pub Stops : CallReadFault → Shape → List Frag → List Leaf → Type 0
Stops Short x frags low = StreamCut x frags low
Stops Padding x frags low = Wrong Padding x frags low
Stops Value x frags low = Wrong Value x frags low
Stops Length x frags low = Wrong Length x frags low
Stops Memory x frags low = Unit {0}

-- a thing read from a place on, whatever agrees before it, and where it ends
abbrev pub ReadAt : (x : Shape) → List Frag → ℕ → x.what → ℕ → Type 0
ReadAt x frags at d end = (low : List Leaf) → at ≡ size low → Agrees frags low at → Got x frags low d end

-- the reading from a place on stops
abbrev pub StopsAt : CallReadFault → Shape → List Frag → ℕ → Type 0
StopsAt stop x frags at = (low : List Leaf) → at ≡ size low → Agrees frags low at → Stops stop x frags low

-- the reading of a number of so many bytes stops, a length or another, whatever its bound is
abbrev pub StopsNumber : CallReadFault → ℕ → List Frag → ℕ → Type 0
StopsNumber stop width frags at = (of_length : Bool) (bound : ℕ) → bound ≤ 2 ^ (8 * width) → StopsAt stop (number_in of_length width bound) frags at
