-- What is asked for when a binding is made, in the code's own words for it; and what is looked at before one is.
use Rattle.std.specs.Prelude.{ℕ, ◌≡◌, ◌&&◌, Bool, false, if◌then◌else◌, List}
use Rattle.std.specs.Prelude.{slice_get, Some, Result, Ok, Err}
use Rattle.fl_base.specs.Given.{given}
use Rattle.fl_compile.specs.declared.program.Program.{Program}
use Rattle.fl_compile.specs.Programs.{program_of}
use Rattle.fl_endpoint.specs.View.{TheEnd, fresh}
use Rattle.fl_core.specs.View.{TheCore}
use Rattle.fl_core.specs.Hearing.{has_end}
use Rattle.fl_model.specs.Events.{DispatcherId, Kind, Answer}
use Rattle.fl_model.specs.Binding.{same_dispatcher}
use Rattle.fl_model.specs.Views.{id_of}
use Rattle.fl_world_refines.specs.View.{TheWorld}
use Rattle.fl_world_refines.specs.Lending.{Refuses}
use Rattle.fl_world_refines.specs.Binding.{BindingRequest, has_places, BindsBy, named_request, Binds}
use Rattle.fl_world.specs.declared.binding.BindRequest.{BindRequest}
use Rattle.fl_world_events.specs.Requests.{IsNewIn}

-- what is asked for, with the program of its interface
abbrev pub request : BindRequest → Program → BindingRequest
request x p = record { client = id_of x.client; interface = x.interface; program = p; server = id_of x.server; iref = x.iref.0 }

-- so it is of what is asked for, with the program that stands there
abbrev pub OfRequest : BindRequest → TheWorld → (BindingRequest → Type 0) → Type 0
OfRequest x w Event = (p : Program) → slice_get w.programs x.interface ≡ Some p → Event (request x p)

-- what these names ask for, of which the event is made; or the number by which it is refused, whatever joins the ends
abbrev pub IsRequest : DispatcherId → ℕ → List ℕ → TheWorld → Result BindRequest ℕ → Type 0
IsRequest client i name w (Ok x) =
    (kind : Kind) (a : Answer) (w2 : TheWorld) → OfRequest x w (λ r. BindsBy r kind w a w2) → Binds (named_request client i name kind) w a w2
IsRequest client i name w (Err fault) = (kind : Kind) (a : Answer) (w2 : TheWorld) → Refuses fault w a w2 → Binds (named_request client i name kind) w a w2

-- and the other way: what the event comes to is what is made of this
abbrev pub IsOnly : DispatcherId → ℕ → List ℕ → TheWorld → BindRequest → Type 0
IsOnly client i name w x = (kind : Kind) (a : Answer) (w2 : TheWorld) → Binds (named_request client i name kind) w a w2
    → (p : Program) × (slice_get w.programs x.interface ≡ Some p) × BindsBy (request x p) kind w a w2

-- ---- ends that are there

abbrev pub has_end_of : ℕ → ℕ → TheWorld → Bool
has_end_of n core w = given (slice_get w.cores core) false λ k. has_end k n

abbrev pub IsNewAt : ℕ → ℕ → TheWorld → Type 0
IsNewAt n core w = (k : TheCore) → slice_get w.cores core ≡ Some k → IsNewIn n k

-- ---- places at dispatchers

-- there are places for both ends of a binding
abbrev pub both_places : DispatcherId → DispatcherId → TheWorld → Bool
both_places client server w =
    if same_dispatcher client server then has_places client 2 w
    else has_places client 1 w && has_places server 1 w

-- ---- ends that are made

-- a copy of the program that stands at a place
abbrev pub IsCopyOf : ℕ → TheWorld → Program → Type 0
IsCopyOf i w copy = (p : Program) → slice_get w.programs i ≡ Some p → program_of copy ≡ program_of p

-- a new end with such a copy, bound to circuit 0
pub record IsNewEnd (i : ℕ) (w : TheWorld) (s : TheEnd) : Type 0 where
  pub program : Program
  pub copy : IsCopyOf i w program
  pub end : s ≡ fresh program (Some 0)
