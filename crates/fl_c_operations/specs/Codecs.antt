-- A working file: the codecs of a program's messages, as an end keeps them.
use Rattle.std.specs.Prelude.{◌≡◌, ℕ, true, false, List, length, slice_get, Option, Some, None}
use Rattle.fl_interface.specs.Limits.{is_within_limits}
use Rattle.fl_compile.specs.Programs.{TheProgram}
use Rattle.fl_codec.specs.declared.codec.Codec.{Codec}
use Rattle.fl_codec.specs.NumberPlaces.{has_few_numbers}
use Rattle.fl_codec.specs.Codecs.{IsCodecOf}

-- the codec of each of so many first messages; none where a message has none
pub record AreFirstCodecs (x : TheProgram) (count : ℕ) (codecs : List (Option Codec)) : Type 0 where
  pub many : length codecs ≡ count
  pub some : (k : ℕ) (c : Codec) → slice_get codecs k ≡ Some (Some c) → IsCodecOf x.plan x.interface k c
  pub none : (k : ℕ) → slice_get codecs k ≡ Some None → has_few_numbers (slice_get x.interface.messages k) ≡ false

-- those of all messages, whose numbers have 16 bits since the interface is within its limits
pub record AreCodecs (x : TheProgram) (codecs : List (Option Codec)) : Type 0 where
  pub all : AreFirstCodecs x (length x.interface.messages) codecs
  pub within : is_within_limits x.interface ≡ true
