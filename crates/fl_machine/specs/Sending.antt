-- What a run of send code gives: fragments.
use Rattle.std.specs.Prelude.{◌≡◌, ℕ, ◌*◌, ◌&&◌, ◌==◌, Bool, if◌then◌else◌, List, map, length}
use Rattle.std.specs.List.{range_with_len}
use Rattle.fl_base.specs.declared.fragment.Frag.{Frag}
use Rattle.fl_base.specs.Control.{control_word}
use Rattle.fl_stub.specs.Code.{TheCode}
use Rattle.fl_stub.specs.declared.op.Column.TheVariants.{Send}
use Rattle.fl_stub.specs.Locations.{TheEndLocation, bytes_from, IsLocation, IsSettled}
use Rattle.fl_layout.specs.Places.{frags_filled, count_for}
use Rattle.fl_wire.specs.Payload.{word}

-- fragment k of those that hold these bytes; the first has the first bit, where these bytes begin a call
abbrev pub frag_of : Bool → ℕ → ℕ → List ℕ → ℕ → Frag
frag_of begins msg circuit bytes k = record {
  words = map (word bytes) (range_with_len (7 * k) 7);
  control = control_word (begins && k == 0) msg circuit;
}

-- how many fragments so many bytes take: a whole call's, or what is left of one
abbrev pub frags_for : Bool → ℕ → ℕ
frags_for begins bytes = if begins then count_for bytes else frags_filled bytes

-- the fragments that hold these bytes
abbrev pub frags_holding : Bool → ℕ → ℕ → List ℕ → List Frag
frags_holding begins msg circuit bytes =
    map (frag_of begins msg circuit bytes) (range_with_len 0 (frags_for begins (length bytes)))

-- what contracts see of a send run: its call's message and circuit, whether no fragment was given yet, and its location
pub record TheSending : Type 0 where
  pub msg : ℕ
  pub circuit : ℕ
  pub begins : Bool
  pub location : TheEndLocation

-- the fragments that are still to be given
abbrev pub frags_left : TheCode → TheSending → List Frag
frags_left code run = frags_holding run.begins run.msg run.circuit (bytes_from code.ops run.location)

-- the run was started with this code
pub record RunsOn (code : TheCode) (run : TheSending) : Type 0 where
  pub column : code.column ≡ Send
  pub location : IsLocation code.ops run.location
  pub settled : IsSettled code.ops run.location
