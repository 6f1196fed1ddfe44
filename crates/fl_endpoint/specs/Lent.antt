-- A place of `Reassemblies` that is lent to an end: what was taken of the call under way stands there.
use Rattle.std.specs.Prelude.{◌≡◌, ℕ, List, [], ◌∷◌, ◌++◌, map, slice_get, IsSomeAnd, Result}
use Rattle.fl_compile.specs.Programs.{program_of}
use Rattle.fl_link.specs.Looks.{Look}
use Rattle.fl_machine.specs.Reassembling.{TheReassembly, ChangesPlace}
use Rattle.fl_base.specs.declared.fragment.Frag.{Frag}
use Rattle.fl_endpoint.specs.declared.fault.EndFault.{EndFault}
use Rattle.fl_endpoint.specs.declared.answer.ReceiveAnswer.{ReceiveAnswer}
use Rattle.fl_endpoint.specs.View.{TheEnd, with_parts}
use Rattle.fl_endpoint.specs.Events.{TakesIn, Receives}
use Rattle.fl_base.specs.Control.{bare}

-- what stands at a place is of the end's program, and without epochs and counts told
pub record IsOf (s : TheEnd) (r : TheReassembly) : Type 0 where
  pub program : program_of r.program ≡ program_of s.program
  pub are_bare : map bare r.parts ≡ r.parts

-- such a place is there
abbrev pub IsPlaceOf : TheEnd → List TheReassembly → ℕ → Type 0
IsPlaceOf s calls place = IsSomeAnd (slice_get calls place) (λ r. IsOf s r)

-- one place more, the end's, between two calls
abbrev pub AddsPlace : TheEnd → List TheReassembly → List TheReassembly → Type 0
AddsPlace s before after = (r : TheReassembly) × IsOf s r × (r.parts ≡ []) × (after ≡ before ++ r ∷ [])

-- ---- what a receive comes to at an end with its place

-- an end that takes a fragment in: how it was, what it answers, and how it is then
pub record Taking : Type 0 where
  pub before : TheEnd
  pub frag : Frag
  pub answer : Result ReceiveAnswer EndFault
  pub after : TheEnd

abbrev pub taking : TheEnd → Frag → Result ReceiveAnswer EndFault → TheEnd → Taking
taking s f answer t = record { before = s; frag = f; answer = answer; after = t }

-- the place stays the end's, with its program, and the end takes the fragment in
pub record TakesInWith (x : Taking) (was is : TheReassembly) : Type 0 where
  pub of : IsOf x.after is
  pub program : is.program ≡ was.program
  pub takes_in : TakesIn (with_parts x.before was.parts) x.frag x.answer (with_parts x.after is.parts)

-- of all places, the end's alone has changed
abbrev pub TakesInAt : Taking → List TheReassembly → ℕ → List TheReassembly → Type 0
TakesInAt x before place after = ChangesPlace before place (TakesInWith x) after

-- an end that receives from a side: how both were, what it answers, and how both are then
pub record Receipt (T : Type 0) : Type 0 where
  pub before : TheEnd
  pub side_before : T
  pub answer : Result ReceiveAnswer EndFault
  pub after : TheEnd
  pub side_after : T

abbrev pub receipt : {T : Type 0} → TheEnd → T → Result ReceiveAnswer EndFault → TheEnd → T → Receipt T
receipt s p answer t q = record { before = s; side_before = p; answer = answer; after = t; side_after = q }

-- the place stays the end's, with its program, and the end receives
pub record ReceivesWith {T : Type 0} (takes : T → Look → T → Type 0) (x : Receipt T) (was is : TheReassembly) : Type 0 where
  pub of : IsOf x.after is
  pub program : is.program ≡ was.program
  pub receives : Receives takes (with_parts x.before was.parts) x.side_before x.answer (with_parts x.after is.parts) x.side_after

-- of all places, the end's alone has changed
abbrev pub ReceivesAt : {T : Type 0} → (T → Look → T → Type 0) → Receipt T → List TheReassembly → ℕ → List TheReassembly → Type 0
ReceivesAt takes x before place after = ChangesPlace before place (ReceivesWith takes x) after
