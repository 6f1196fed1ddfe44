-- A binding by a route, at the client's core.
use Rattle.std.specs.Prelude.{ℕ, ◌≡◌, ◌++◌, true, List, [], ◌∷◌, slice_get, slice_set, Some, None, Ok, Err}
use Rattle.fl_base.specs.declared.identity.LinkId.{LinkId}
use Rattle.fl_compile.specs.declared.program.Program.{Program}
use Rattle.fl_compile.specs.Programs.{program_of}
use Rattle.fl_core.specs.declared.board_fault.BoardFault.TheVariants as board
use Rattle.fl_endpoint.specs.View.{fresh}
use Rattle.fl_model.specs.declared.event.DispatcherId.{DispatcherId}
use Rattle.fl_monitor.specs.declared.opening.Opening.{Opening}
use Rattle.fl_monitor.specs.declared.fault.MonitorFault.TheVariants as monitor
use Rattle.fl_core.specs.declared.fault.OpenFault.{OpenFault}
use Rattle.fl_core.specs.declared.fault.OpenFault.TheVariants as fault
use Rattle.fl_core.specs.Faults.{open_number}
use Rattle.fl_core.specs.Making.{Asked, asked, Asks}
use Rattle.fl_core.specs.View.{TheCore}
use Rattle.fl_model.specs.Events.{Answer, done, nothing, refused}
use Rattle.fl_world_refines.specs.declared.binding.Binding.{Binding}
use Rattle.fl_world_events.specs.declared.by_route.OpenOutcome.{OpenOutcome}
use Rattle.fl_world_events.specs.declared.by_route.CircuitBinding.{CircuitBinding}
use Rattle.fl_world_events.specs.declared.by_route.OpenOutcome.TheVariants as begun
use Rattle.fl_world_events.specs.Parts.{InCore}
use Rattle.fl_core.specs.Hearing.{has_end}

-- ---- at a core

-- the number of a fault for which a circuit is refused; out of memory isn't an answer
abbrev pub IsNumberOf : OpenFault → ℕ → Type 0
IsNumberOf (fault.Board board.Memory) n = ⊥
IsNumberOf (fault.Monitor monitor.Memory) n = ⊥
IsNumberOf other n = n ≡ open_number other

-- what a core makes of an opening
abbrev pub BeginsIn : Asked → OpenOutcome → TheCore → TheCore → Type 0
BeginsIn a begun.There k k2 = (has_end k a.opening.binding ≡ true) × (k2 ≡ k)
BeginsIn a (begun.Refused n) k k2 = (f : OpenFault) × Asks a k (Err f) k2 × IsNumberOf f n
BeginsIn a begun.Waits k k2 = (e : ℕ) × Asks a k (Ok e) k2

-- among all cores, core n alone has changed
pub record AtOne (cores : List TheCore) (n : ℕ) (Event : TheCore → TheCore → Type 0) (cores2 : List TheCore) : Type 0 where
  pub before : TheCore
  pub before_is : slice_get cores n ≡ Some before
  pub after : TheCore
  pub event : InCore Event before after
  pub rest : cores2 ≡ slice_set cores n after

-- so a circuit is begun, with a copy of a program for the client's end
pub record BeginsWith (p : Program) (d : DispatcherId) (l : LinkId) (opening : Opening) (o : OpenOutcome) (cores cores2 : List TheCore) : Type 0 where
  pub own : Program
  pub own_is : program_of own ≡ program_of p
  pub begins : AtOne cores d.core (BeginsIn (asked d.place own l opening) o) cores2

-- ---- a binding

-- it keeps an end with a copy of a program for its server
pub record IsUnmade (p : Program) (x : CircuitBinding) (b : Binding) : Type 0 where
  pub copy : Program
  pub copy_is : program_of copy ≡ program_of p
  pub is : b ≡ record { interface = x.interface; client = x.client.core; server = x.server; unmade = Some (fresh copy None) }

-- it comes behind the others where its opening waits
abbrev pub Follows : OpenOutcome → Binding → List Binding → Answer → List Binding → Type 0
Follows begun.There b bs a bs2 = (a ≡ nothing) × (bs2 ≡ bs)
Follows (begun.Refused n) b bs a bs2 = (a ≡ refused n) × (bs2 ≡ bs)
Follows begun.Waits b bs a bs2 = (a ≡ done) × (bs2 ≡ bs ++ b ∷ [])

-- a circuit is begun for it, among all cores and all bindings
pub record OpensOver (p : Program) (x : CircuitBinding) (l : LinkId) (opening : Opening) (a : Answer) (cores cores2 : List TheCore)
    (bs bs2 : List Binding) : Type 0 where
  pub begun : OpenOutcome
  pub begins : BeginsWith p x.client l opening begun cores cores2
  pub binding : Binding
  pub unmade : IsUnmade p x binding
  pub follows : Follows begun binding bs a bs2

-- ---- before memory is taken

-- so it is of core n
abbrev pub IsAt : List TheCore → ℕ → (TheCore → Type 0) → Type 0
IsAt cores n Fact = (k : TheCore) → slice_get cores n ≡ Some k → Fact k

-- the core stays as it is, whatever the client's program is, and so do the bindings: this is answered
pub record IsAnsweredIn (place : ℕ) (l : LinkId) (opening : Opening) (a : Answer) (k : TheCore) : Type 0 where
  pub outcome : OpenOutcome
  pub begins : (p : Program) → InCore (BeginsIn (asked place p l opening) outcome) k k
  pub follows : (b : Binding) (bs : List Binding) → Follows outcome b bs a bs
