-- What a codec is, and what it makes of a tape and of a fragment.
use Rattle.std.specs.Prelude.{◌≡◌, ℕ, true, List, [], ◌∷◌, length, take, slice_get, Option, Some, None}
use Rattle.fl_base.specs.declared.fragment.Frag.{Frag}
use Rattle.fl_base.specs.Control.{bare}
use Rattle.fl_interface.specs.Interface.{TheInterface}
use Rattle.fl_value_data.specs.declared.value.PlanNo.{PlanNo}
use Rattle.fl_value_data.specs.Value.{TheCall}
use Rattle.fl_value_data.specs.Taken.{HasTape, planned_types}
use Rattle.fl_layout.specs.Leaves.{argument_types}
use Rattle.fl_wire.specs.Payload.{frags_on}
use Rattle.fl_codec.specs.declared.codec.Codec.{Codec}
use Rattle.fl_codec.specs.declared.codec.Numbers.{Numbers}
use Rattle.fl_codec.specs.NumberPlaces.{has_few_numbers, places_behind}

-- the codec of a message of few numbers: which message that is, and where its arguments stand, in the plan's order
pub record IsCodecOf (plan : PlanNo) (i : TheInterface) (msg : ℕ) (c : Codec) : Type 0 where
  pub message : c.msg.0 ≡ msg
  pub few : has_few_numbers (slice_get i.messages msg) ≡ true
  pub count : c.count ≡ length (argument_types i msg)
  pub places : take c.count c.places ≡ places_behind 0 (planned_types plan (argument_types i msg))

-- a fitting call of the message has this tape, and this is its only fragment on a circuit
pub record IsFragOfTape (plan : PlanNo) (i : TheInterface) (circuit msg : ℕ) (tape : List ℕ) (frag : Frag) : Type 0 where
  pub call : TheCall
  pub has : HasTape plan i msg tape call
  pub frags : frags_on circuit plan i call ≡ frag ∷ []

-- of a tape: its fragment; none exactly where no fitting call of the message has the tape
abbrev pub Encodes : PlanNo → TheInterface → ℕ → ℕ → List ℕ → Option Frag → Type 0
Encodes plan i circuit msg tape None = (c : TheCall) → HasTape plan i msg tape c → ⊥
Encodes plan i circuit msg tape (Some frag) = IsFragOfTape plan i circuit msg tape frag

-- the numbers that are kept
abbrev pub numbers_of : Numbers → List ℕ
numbers_of n = take n.count n.numbers

-- of a fragment, whatever its epoch and the count told: its tape; none exactly where it is that of no fitting call of the message
abbrev pub Decodes : PlanNo → TheInterface → ℕ → ℕ → Frag → Option Numbers → Type 0
Decodes plan i circuit msg frag None = (tape : List ℕ) → IsFragOfTape plan i circuit msg tape (bare frag) → ⊥
Decodes plan i circuit msg frag (Some numbers) = IsFragOfTape plan i circuit msg (numbers_of numbers) (bare frag)

-- a tape has one fragment, and a fragment is that of one tape: so what was encoded decodes to itself, and the other way round
abbrev pub OneTapeOneFrag : Type 0
OneTapeOneFrag = (plan : PlanNo) (i : TheInterface) (circuit msg : ℕ) (s t : List ℕ) (f g : Frag) → has_few_numbers (slice_get i.messages msg) ≡ true
    → IsFragOfTape plan i circuit msg s f → IsFragOfTape plan i circuit msg t g → (s ≡ t → f ≡ g) × (f ≡ g → s ≡ t)
