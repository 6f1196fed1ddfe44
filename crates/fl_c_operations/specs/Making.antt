-- What makers make, exactly.
use Rattle.std.specs.Prelude.{◌≡◌, ◌⊎◌, ℕ, ◌==◌, if◌then◌else◌, List, true, Option, Some, None, Result, Ok, Err}
use Rattle.fl_ring.specs.Duo.{MayHaveSlots}
use Rattle.fl_ring.specs.SharedSides.{TheSide, started_side}
use Rattle.fl_ring.specs.declared.shared.duo_board.SeatHolder.TheVariants.{One, Two}
use Rattle.fl_value_data.specs.declared.value.PlanNo.{PlanNo}
use Rattle.fl_value_data.specs.declared.value.PlanNo.TheVariants.{One as PlanOne, Two as PlanTwo}
use Rattle.fl_interface.specs.Interface.{TheInterface, interface_of}
use Rattle.fl_interface.specs.declared.interface.Interface.{Interface}
use Rattle.fl_check.specs.Text.{TextMeans, stands_for, text_fault}
use Rattle.fl_compile.specs.declared.program.Program.{Program}
use Rattle.fl_compile.specs.Programs.{TheProgram, program_of}
use Rattle.fl_image.specs.Image.{has_image, image_of}
use Rattle.fl_image.specs.Outcome.{refusal_number}
use Rattle.fl_image.specs.Reading.{FirstFault}
use Rattle.fl_c_operations.specs.View.{TheHeld, IsNewEnd}
use Rattle.fl_c_operations.specs.declared.making.MakeFault.{MakeFault}
use Rattle.fl_c_operations.specs.declared.making.MakeFault.TheVariants.{BadSize, Text, Image, Memory}

abbrev pub make_number : MakeFault → ℕ
make_number BadSize = 32
make_number (Text number offset) = number
make_number (Image fault) = refusal_number fault
make_number Memory = 99

-- where in the text the fault stands; 0 where there is no such place
abbrev pub place_of : MakeFault → ℕ
place_of (Text number offset) = offset
place_of fault = 0

-- both sides of a new ring of two directions
abbrev pub AreSides : ℕ → TheSide → TheSide → Type 0
AreSides slots one two = (one ≡ started_side two.ring One slots 0) × (two ≡ started_side two.ring Two slots 0)

-- both ends of a program, new, each over its side
abbrev pub AreEndsOf : TheProgram → TheSide → TheSide → TheHeld → TheHeld → Type 0
AreEndsOf x one two a b = ((p : Program) × (program_of p ≡ x) × IsNewEnd p one a) × ((p : Program) × (program_of p ≡ x) × IsNewEnd p two b)

-- both ends of a program, over a new ring
abbrev pub AreEnds : TheProgram → ℕ → TheHeld → TheHeld → Type 0
AreEnds x slots a b = (one : TheSide) × (two : TheSide) × AreSides slots one two × AreEndsOf x one two a b

-- the interface that a text stands for, or its first fault
abbrev pub ReadsText : List ℕ → Result Interface MakeFault → Type 0
ReadsText text (Ok interface) = TextMeans text (stands_for (interface_of interface))
ReadsText text (Err (Text number offset)) = TextMeans text (text_fault number offset)
ReadsText text (Err Memory) = Unit {0}
ReadsText text (Err fault) = ⊥

-- the program of that interface, or the text's first fault
abbrev pub CompilesText : PlanNo → List ℕ → Result Program MakeFault → Type 0
CompilesText plan text (Ok p) = TextMeans text (stands_for (program_of p).interface) × ((program_of p).plan ≡ plan)
CompilesText plan text (Err (Text number offset)) = TextMeans text (text_fault number offset)
CompilesText plan text (Err Memory) = Unit {0}
CompilesText plan text (Err fault) = ⊥

-- the program whose image this is, or why there is none
abbrev pub ReadsImage : List ℕ → Result Program MakeFault → Type 0
ReadsImage image (Ok p) = (has_image (program_of p).interface ≡ true) × (image ≡ image_of (program_of p).plan (program_of p).interface)
ReadsImage image (Err (Image fault)) = FirstFault image fault
ReadsImage image (Err Memory) = Unit {0}
ReadsImage image (Err fault) = ⊥

-- both ends of a text, or why there are none: the number of slots is looked at first
abbrev pub MakesOfText : PlanNo → List ℕ → ℕ → Result (TheHeld × TheHeld) MakeFault → Type 0
MakesOfText plan text slots (Ok made) = MayHaveSlots slots
    × ((i : TheInterface) × (x : TheProgram) × TextMeans text (stands_for i) × (x.interface ≡ i) × (x.plan ≡ plan) × AreEnds x slots made.0 made.1)
MakesOfText plan text slots (Err BadSize) = MayHaveSlots slots → ⊥
MakesOfText plan text slots (Err (Text number offset)) = MayHaveSlots slots × TextMeans text (text_fault number offset)
MakesOfText plan text slots (Err Memory) = MayHaveSlots slots
MakesOfText plan text slots (Err fault) = ⊥

-- both ends of an image, or why there are none: the number of slots is looked at first
abbrev pub MakesOfImage : List ℕ → ℕ → Result (TheHeld × TheHeld) MakeFault → Type 0
MakesOfImage image slots (Ok made) = MayHaveSlots slots
    × ((x : TheProgram) × (has_image x.interface ≡ true) × (image ≡ image_of x.plan x.interface) × AreEnds x slots made.0 made.1)
MakesOfImage image slots (Err BadSize) = MayHaveSlots slots → ⊥
MakesOfImage image slots (Err (Image fault)) = MayHaveSlots slots × FirstFault image fault
MakesOfImage image slots (Err Memory) = MayHaveSlots slots
MakesOfImage image slots (Err fault) = ⊥

-- ---- what C is answered

-- the plan of this number
abbrev pub plan_at : ℕ → Option PlanNo
plan_at n = if n == 1 then Some PlanOne else (if n == 2 then Some PlanTwo else None)

-- 0, or 99 where there was no memory for the handles of what was made; or the number of the fault for which nothing was
abbrev pub AnswersMade : {T : Type 0} → Result T MakeFault → ℕ → Type 0
AnswersMade (Ok made) answer = (answer ≡ 0) ⊎ (answer ≡ 99)
AnswersMade (Err fault) answer = answer ≡ make_number fault

-- the place afterwards: a text's fault's own, 0 for another fault; as it was where all was made
abbrev pub place_after : {T : Type 0} → Result T MakeFault → ℕ → ℕ
place_after (Ok made) place = place
place_after (Err fault) place = place_of fault

-- of both ends of a text; no plan is asked for by another number
abbrev pub AnswersTextEnds : Option PlanNo → List ℕ → ℕ → ℕ → ℕ → ℕ → Type 0
AnswersTextEnds None text slots answer place after = (answer ≡ 102) × (after ≡ place)
AnswersTextEnds (Some plan) text slots answer place after =
    (r : Result (TheHeld × TheHeld) MakeFault) × MakesOfText plan text slots r × AnswersMade r answer × (after ≡ place_after r place)

-- of both ends of an image
abbrev pub AnswersImageEnds : List ℕ → ℕ → ℕ → Type 0
AnswersImageEnds image slots answer = (r : Result (TheHeld × TheHeld) MakeFault) × MakesOfImage image slots r × AnswersMade r answer

-- of the program of a text
abbrev pub AnswersTextProgram : Option PlanNo → List ℕ → ℕ → ℕ → ℕ → Type 0
AnswersTextProgram None text answer place after = (answer ≡ 102) × (after ≡ place)
AnswersTextProgram (Some plan) text answer place after =
    (r : Result Program MakeFault) × CompilesText plan text r × AnswersMade r answer × (after ≡ place_after r place)

-- of the program of an image
abbrev pub AnswersImageProgram : List ℕ → ℕ → Type 0
AnswersImageProgram image answer = (r : Result Program MakeFault) × ReadsImage image r × AnswersMade r answer
