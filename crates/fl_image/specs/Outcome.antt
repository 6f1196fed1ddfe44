-- What reading an image answers, as contracts see it.
use Rattle.std.specs.Prelude.{◌≡◌, ◌++◌, ℕ, true, List, Result, Ok, Err}
use Rattle.fl_interface.specs.Interface.{TheInterface}
use Rattle.fl_value_data.specs.declared.value.PlanNo.{PlanNo}
use Rattle.fl_compile.specs.declared.program.Program.{Program}
use Rattle.fl_compile.specs.Programs.{program_of}
use Rattle.fl_image.specs.declared.fault.BadImage.{BadImage}
use Rattle.fl_image.specs.declared.fault.BadImage.TheVariants.{OtherMagic, OtherVersion, EndsEarly, BadField, OtherCode, BytesLeftOver}
use Rattle.fl_image.specs.declared.fault.ImageFault.{ImageFault}
use Rattle.fl_image.specs.declared.fault.ImageFault.TheVariants.{Refused, Memory}
use Rattle.fl_image.specs.Image.{two, name_image, magic, version_of, is_name}
use Rattle.fl_image.specs.Reading.{FirstFault}

-- the number of a fault; out of memory is E99
abbrev pub refusal_number : BadImage → ℕ
refusal_number OtherMagic = 80
refusal_number OtherVersion = 81
refusal_number EndsEarly = 82
refusal_number BadField = 83
refusal_number OtherCode = 84
refusal_number BytesLeftOver = 85

abbrev pub fault_number : ImageFault → ℕ
fault_number (Refused r) = refusal_number r
fault_number Memory = 99

-- the program of this interface under this plan, unless memory ran out
abbrev pub Reads : PlanNo → TheInterface → Result Program ImageFault → Type 0
Reads plan x (Ok p) = program_of p ≡ record { interface = x; plan = plan }
Reads plan x (Err (Refused r)) = ⊥
Reads plan x (Err Memory) = Unit {0}

-- bytes that begin as an image does: with the magic, a version and a name
pub record BeginsAsImage (bytes : List ℕ) : Type 0 where
  pub plan : PlanNo
  pub name : List ℕ
  pub rest : List ℕ
  pub is_named : is_name name ≡ true
  pub spelled : bytes ≡ magic ++ (two (version_of plan) ++ (name_image name ++ rest))

-- an error tells the first fault; memory runs out only behind the start of an image, where no fault of the start applies
abbrev pub Answers : ImageFault → List ℕ → Type 0
Answers (Refused r) bytes = FirstFault bytes r
Answers Memory bytes = BeginsAsImage bytes
