-- Fragments of calls, and their bytes.
use Rattle.std.specs.Prelude.{◌≡◌, ℕ, true, List}
use Rattle.std.specs.List.{flat_map}
use Rattle.std.specs.Int.{to_le_bytes, w64}
use Rattle.fl_base.specs.declared.fragment.Frag.{Frag}
use Rattle.fl_value_data.specs.Value.{TheCall}
use Rattle.fl_value_data.specs.Fits.{fits_of}
use Rattle.fl_wire.specs.Payload.{frags_of}
use Rattle.fl_compile.specs.Programs.{TheProgram}

-- a fragment's payload bytes
abbrev pub frag_bytes : Frag → List ℕ
frag_bytes f = flat_map (to_le_bytes w64) f.words

-- a fitting call of a message, whose fragments these are
pub record HasFrags (p : TheProgram) (msg : ℕ) (frags : List Frag) (c : TheCall) : Type 0 where
  pub message : c.msg ≡ msg
  pub fits : fits_of p.interface c ≡ true
  pub frags_are : frags ≡ frags_of p.plan p.interface c
