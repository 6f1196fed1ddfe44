-- Laws on images and on their faults: what no contract of one call says. Public promises rest on this file.
use Rattle.std.specs.Prelude.{◌≡◌, ◌<◌, ℕ, true, List, ◌++◌, length}
use Rattle.fl_base.specs.Prefix.{IsPrefix}
use Rattle.fl_interface.specs.Interface.{TheInterface}
use Rattle.fl_value_data.specs.declared.value.PlanNo.{PlanNo}
use Rattle.fl_image.specs.declared.fault.BadImage.{BadImage}
use Rattle.fl_image.specs.declared.fault.BadImage.TheVariants.{OtherMagic, OtherVersion, EndsEarly, BadField, OtherCode, BytesLeftOver}
use Rattle.fl_image.specs.Image.{has_image, image_of}
use Rattle.fl_image.specs.Reading.{FirstFault}

-- Two interfaces with one image are equal, and so are their plans.
abbrev pub OneImage : Type 0
OneImage = (plan plan2 : PlanNo) (x y : TheInterface) → has_image x ≡ true → has_image y ≡ true → image_of plan x ≡ image_of plan2 y
    → (plan ≡ plan2) × (x ≡ y)

-- bytes that others begin with, and that are fewer than those
pub record IsProperPrefix (prefix whole : List ℕ) : Type 0 where
  pub is_prefix : IsPrefix prefix whole
  pub shorter : length prefix < length whole

-- An image that was cut short ends early, wherever it was cut.
abbrev pub CutImagesEndEarly : Type 0
CutImagesEndEarly = (plan : PlanNo) (x : TheInterface) (bytes : List ℕ) → has_image x ≡ true → IsProperPrefix bytes (image_of plan x)
    → FirstFault bytes EndsEarly

-- An image with bytes behind it has bytes left over, whatever they are.
abbrev pub LongerImagesHaveMore : Type 0
LongerImagesHaveMore = (plan : PlanNo) (x : TheInterface) (more : List ℕ) → has_image x ≡ true → 0 < length more
    → FirstFault (image_of plan x ++ more) BytesLeftOver

-- faults of a field that stands there: another magic, another version, a field out of its range
abbrev pub IsOfField : BadImage → Type 0
IsOfField OtherMagic = Unit {0}
IsOfField OtherVersion = Unit {0}
IsOfField EndsEarly = ⊥
IsOfField BadField = Unit {0}
IsOfField OtherCode = ⊥
IsOfField BytesLeftOver = ⊥

-- A fault of a field stays the first one, whatever follows the bytes.
abbrev pub FieldFaultsStay : Type 0
FieldFaultsStay = (bytes more : List ℕ) (fault : BadImage) → IsOfField fault → FirstFault bytes fault → FirstFault (bytes ++ more) fault
