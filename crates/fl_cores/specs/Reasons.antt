-- Why bindings are named as refused: by what jobs ask for, what the set-up made, and how cores ended. Public promises rest on this file.
use Rattle.std.specs.Prelude.{ℕ, ◌≡◌, ◌⊎◌, ◌+◌, ◌<◌, false, List, slice_get, Some}
use Rattle.fl_base.specs.declared.identity.EndId.{EndId}
use Rattle.fl_core.specs.BoardView.{TheEndAtChannel}
use Rattle.fl_core.specs.View.{TheCore, place_of}
use Rattle.fl_model.specs.Events.{DispatcherId}
use Rattle.fl_model.specs.Making.{has_link}
use Rattle.fl_model.specs.Monitors.{Core, link_to}
use Rattle.fl_model.specs.State.{core_of}
use Rattle.fl_cores_file.specs.Jobs.{Job}
use Rattle.fl_cores_file.specs.Report.{TheReport, refusal_of}
use Rattle.fl_world.specs.Booting.{TheConfig}
use Rattle.fl_cores_laws.specs.Reasons.{IsReason, IsUsedUp as UsedUp}
use Rattle.fl_cores_laws.specs.EndedCores.{OneCore}
use Rattle.fl_cores.specs.Promised.{Reports}
use Rattle.fl_cores.specs.Behind.{cores_in}
use Rattle.fl_cores.specs.Wanted.{behind, IsAsked, IsExported, IsWanted}

-- a core of a route, and the one behind it
pub record Step (route : List ℕ) : Type 0 where
  pub place : ℕ
  pub core : ℕ
  pub core_is : slice_get route place ≡ Some core
  pub next : ℕ
  pub next_is : slice_get route (place + 1) ≡ Some next

-- ---- no link (73)

-- a core of the route that is asked for has no link to the one behind it
pub record IsUnlinked (c : TheConfig) (jobs : List Job) (n : ℕ) : Type 0 where
  pub asked : IsAsked c jobs n
  pub step : Step asked.request.route
  pub none : has_link step.core step.next (behind c) ≡ false

-- ---- no number left (74)

-- core n gave all its numbers on link l, as it ended
pub record IsUsedUp {c : TheConfig} {jobs : List Job} {limit : ℕ} {r : TheReport} (w : Reports c jobs limit r) (n l : ℕ) : Type 0 where
  pub core : OneCore
  pub core_is : slice_get (cores_in w) n ≡ Some core
  pub used_up : UsedUp core.finish.core.monitor.circuits l

-- the route that is asked for leads from a core over such a link to the one behind it
pub record IsSpent {c : TheConfig} {jobs : List Job} {limit : ℕ} {r : TheReport} (w : Reports c jobs limit r) (n : ℕ) : Type 0 where
  pub asked : IsAsked c jobs n
  pub step : Step asked.request.route
  pub core : Core
  pub core_is : core_of (behind c) step.core ≡ Some core
  pub link : ℕ
  pub link_is : link_to step.next core ≡ Some link
  pub used_up : IsUsedUp w step.core link

-- ---- no place (54)

-- the end of this name sits at dispatcher d of a core
pub record SitsAt (k : TheCore) (d : ℕ) (e : EndId) : Type 0 where
  pub place : ℕ
  pub place_is : place_of k e ≡ Some place
  pub seat : TheEndAtChannel
  pub seat_is : slice_get k.board.seats place ≡ Some seat
  pub dispatcher_is : seat.dispatcher ≡ d

-- 1,024 ends, each another, are wanted at dispatcher d, and sit there as its core ended
pub record IsFull {c : TheConfig} {jobs : List Job} {limit : ℕ} {r : TheReport} (w : Reports c jobs limit r) (d : DispatcherId) : Type 0 where
  pub core : OneCore
  pub core_is : slice_get (cores_in w) d.core ≡ Some core
  pub ends : ℕ → EndId
  pub apart : (i k : ℕ) → i < 1024 → k < 1024 → ends i ≡ ends k → i ≡ k
  pub wanted : (i : ℕ) → i < 1024 → IsWanted c jobs d (ends i)
  pub sits : (i : ℕ) → i < 1024 → SitsAt core.finish.core d.place (ends i)

-- so it is of the dispatcher of the service of this name
pub record IsServiceFull {c : TheConfig} {jobs : List Job} {limit : ℕ} {r : TheReport} (w : Reports c jobs limit r) (name : List ℕ) : Type 0 where
  pub dispatcher : DispatcherId
  pub exported : IsExported c name dispatcher
  pub full : IsFull w dispatcher

-- for the binding: of that of the service that is asked for, or of the client's
pub record IsCrowded {c : TheConfig} {jobs : List Job} {limit : ℕ} {r : TheReport} (w : Reports c jobs limit r) (n : ℕ) : Type 0 where
  pub asked : IsAsked c jobs n
  pub why : IsFull w asked.request.client ⊎ IsServiceFull w asked.request.service

-- ---- law

-- a binding is named as refused for a reason alone
pub record HasReason {c : TheConfig} {jobs : List Job} {limit : ℕ} {r : TheReport} (w : Reports c jobs limit r) (n fault : ℕ) : Type 0 where
  pub reason : IsReason fault
  pub unlinked : fault ≡ 73 → IsUnlinked c jobs n
  pub spent : fault ≡ 74 → IsSpent w n
  pub crowded : fault ≡ 54 → IsCrowded w n

abbrev pub RefusalsHaveReasons : Type 0
RefusalsHaveReasons = (c : TheConfig) (jobs : List Job) (limit : ℕ) (r : TheReport) (w : Reports c jobs limit r) (n fault : ℕ)
    → refusal_of r n ≡ Some fault → HasReason w n fault
