-- What a configuration and its jobs want: which circuits, and which ends at a dispatcher. Public promises rest on this file.
use Rattle.std.specs.Prelude.{ℕ, ◌≡◌, ◌⊎◌, ◌+◌, ◌≤◌, List, [], ◌∷◌, length, slice_get, Some}
use Rattle.std.specs.List.{flat_map}
use Rattle.fl_base.specs.declared.identity.EndId.{EndId}
use Rattle.fl_base.specs.declared.identity.Side.{Side}
use Rattle.fl_base.specs.declared.identity.Side.TheVariants.{Client, Server}
use Rattle.fl_model.specs.Binding.{place_of_service}
use Rattle.fl_model.specs.Events.{DispatcherId}
use Rattle.fl_model.specs.Monitors.{Service}
use Rattle.fl_model.specs.Runs.{reached}
use Rattle.fl_model.specs.State.{State}
use Rattle.fl_model.specs.Worlds.{start_with}
use Rattle.fl_cores_file.specs.Jobs.{TheCircuitRequest, Job}
use Rattle.fl_world.specs.Booting.{TheConfig}
use Rattle.fl_cores_jobs.specs.Whole.{request_in}
use Rattle.fl_cores_file.specs.Report.{TheReport, Honest}
use Rattle.fl_cores_laws.specs.Few.{IsOther, handled_at_all}
use Rattle.fl_cores.specs.Promised.{Reports}
use Rattle.fl_cores.specs.Outcomes.{SetUpAt}

-- what the machine is behind the set-up
abbrev pub behind : TheConfig → State
behind c = reached (start_with c.cores) c.setup

-- ---- circuits

-- what the job asks for that opens binding n: those of the set-up come first, and behind them those that jobs open, in their order
pub record IsAsked (c : TheConfig) (jobs : List Job) (n : ℕ) : Type 0 where
  pub place : ℕ
  pub number : n ≡ length (behind c).bindings + place
  pub request : TheCircuitRequest
  pub request_is : slice_get (flat_map request_in jobs) place ≡ Some request

-- ---- ends

-- the set-up exports the service of this name at dispatcher d
pub record IsExported (c : TheConfig) (name : List ℕ) (d : DispatcherId) : Type 0 where
  pub place : ℕ
  pub place_is : place_of_service name (behind c).services ≡ Some place
  pub service : Service
  pub service_is : slice_get (behind c).services place ≡ Some service
  pub dispatcher : service.dispatcher ≡ d

-- a request is for an end of this side at dispatcher d: for the client's there, or for one of a service that is exported there
abbrev pub RequestsAt : TheConfig → TheCircuitRequest → Side → DispatcherId → Type 0
RequestsAt c w Client d = w.client ≡ d
RequestsAt c w Server d = IsExported c w.service d

pub record IsRequestedAt (c : TheConfig) (jobs : List Job) (d : DispatcherId) (e : EndId) : Type 0 where
  pub asked : IsAsked c jobs e.binding
  pub at : RequestsAt c asked.request e.side d

-- an end is wanted at dispatcher d: the set-up makes it there, or it is asked for there
abbrev pub IsWanted : TheConfig → List Job → DispatcherId → EndId → Type 0
IsWanted c jobs d e = SetUpAt c d e ⊎ IsRequestedAt c jobs d e

-- so are these, each another
abbrev pub AreWanted : TheConfig → List Job → DispatcherId → List EndId → Type 0
AreWanted c jobs d [] = Unit {0}
AreWanted c jobs d (e ∷ ends) = IsWanted c jobs d e × IsOther e ends × AreWanted c jobs d ends

-- ---- law

-- in an honest report what the ends handled that are wanted at one dispatcher is together at most the turns that are told of its core
abbrev pub WantedHandleFew : Type 0
WantedHandleFew = (c : TheConfig) (jobs : List Job) (limit : ℕ) (r : TheReport) (w : Reports c jobs limit r) → Honest jobs r
    → (d : DispatcherId) (ends : List EndId) (turns : ℕ) → AreWanted c jobs d ends → slice_get r.turns d.core ≡ Some turns
    → handled_at_all r.handled ends ≤ turns
