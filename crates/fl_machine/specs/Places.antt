-- Working file: what is stored of calls that are put together again at many places.
use Rattle.std.specs.Prelude.{◌≡◌, ℕ, List, [], ◌∷◌, slice_get, Option, Some, None}
use Rattle.fl_base.specs.declared.fragment.Frag.{Frag}
use Rattle.fl_compile.specs.Programs.{TheProgram, program_of}
use Rattle.fl_machine.specs.Receiving.{HoldsParts}
use Rattle.fl_machine.specs.Reassembling.{TheReassembly, IsUnderWay, reassembly_on}
use Rattle.fl_machine.specs.Rooms.{TheRoom, IsRooms, rooms_of}
use Rattle.fl_machine.specs.declared.recv.PartialCall.{PartialCall}
use Rattle.fl_machine.specs.declared.reassembly.Assembly.{Assembly}
use Rattle.fl_machine.specs.declared.reassemblies.ReassemblyPlaces.{ReassemblyPlaces}

-- the fragments of a room; none where it isn't there
abbrev pub frags_in : Option (List Frag) → List Frag
frags_in None = []
frags_in (Some frags) = frags

-- what was taken of the call under way at a place: the first fragments of its room
abbrev pub reassembly_at : Assembly → TheRoom → TheReassembly
reassembly_at p t = reassembly_on p.program (frags_in t.frags) p.begun

-- of each place what it stores, with its room
abbrev pub joined : List Assembly → List TheRoom → List TheReassembly
joined [] ts = []
joined (p ∷ ps) [] = []
joined (p ∷ ps) (t ∷ ts) = reassembly_at p t ∷ joined ps ts

-- that of every place
abbrev pub reassemblies : ReassemblyPlaces → List TheReassembly
reassemblies s = joined s.places.items (rooms_of s.rooms)

-- the fragments of a call under way are in its room, which is there then
abbrev pub StandsOn : TheProgram → Option (List Frag) → Option PartialCall → Type 0
StandsOn p None begun = begun ≡ None
StandsOn p (Some room) begun = IsUnderWay p room begun

-- a room holds each call's fragments
pub record IsPlace (p : Assembly) (t : TheRoom) : Type 0 where
  pub holds : HoldsParts (program_of p.program).plan (program_of p.program).interface t.size
  pub stands : StandsOn (program_of p.program) t.frags p.begun

-- each place has its room
abbrev pub AreJoined : List Assembly → List TheRoom → Type 0
AreJoined [] [] = Unit {0}
AreJoined [] (t ∷ ts) = ⊥
AreJoined (p ∷ ps) [] = ⊥
AreJoined (p ∷ ps) (t ∷ ts) = IsPlace p t × AreJoined ps ts

-- the rooms lie apart, and each place has its own
pub record ArePlaces (s : ReassemblyPlaces) : Type 0 where
  pub rooms : IsRooms s.rooms
  pub joined : AreJoined s.places.items (rooms_of s.rooms)

-- no call is under way at a place
pub record IsBetween (s : ReassemblyPlaces) (place : ℕ) : Type 0 where
  pub at : Assembly
  pub at_there : slice_get s.places.items place ≡ Some at
  pub none : at.begun ≡ None

-- a call is under way there
pub record IsInside (s : ReassemblyPlaces) (place : ℕ) : Type 0 where
  pub at : Assembly
  pub at_there : slice_get s.places.items place ≡ Some at
  pub begun : PartialCall
  pub under_way : at.begun ≡ Some begun
