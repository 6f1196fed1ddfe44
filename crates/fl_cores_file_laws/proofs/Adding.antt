-- What the events of a set-up make: interfaces, and bindings, each by its interface; and parts of a world that have just these.
use Rattle.std.proofs.Common.{◌≡◌, ap, ℕ, true, ◌&&◌, List, [], ◌∷◌, ◌++◌, map}
use Rattle.std.specs.List.{flat_map, list_all}
use Rattle.fl_model.specs.Calls.{Planned}
use Rattle.fl_model.specs.Events.{Event, add_interface, bind}
use Rattle.fl_model_laws.proofs.Small.{both_are}
use Rattle.fl_world_refines.specs.declared.binding.Binding.{Binding}
use Rattle.fl_world_refines.specs.declared.parts.Parts.{Parts}
use Rattle.fl_world_refines.specs.Ends.{planned_of}
use Rattle.fl_cores_file.specs.Draft.{Draft}
use Rattle.fl_cores_file_laws.specs.SetUps.{sets_up}
use Rattle.fl_cores_file_laws.proofs.Lists.{both_true}

abbrev pub added_by : Event → List Planned
added_by (add_interface i plan) = record { interface = i; plan = plan } ∷ []
added_by event = []

-- of a binding the interface
abbrev pub bound_by : Event → List ℕ
bound_by (bind client i name kind) = i ∷ []
bound_by event = []

-- the interfaces that these events add, and of each binding that they make the interface, in order
abbrev pub interfaces_in : List Event → List Planned
interfaces_in setup = flat_map added_by setup

abbrev pub bound_in : List Event → List ℕ
bound_in setup = flat_map bound_by setup

-- the parts have the interfaces and the bindings that the set-up makes
pub record HasSetUp (setup : List Event) (p : Parts) : Type 0 where
  pub interfaces : map planned_of p.programs.items ≡ interfaces_in setup
  pub bindings : map (λ (x : Binding). x.interface) p.bindings.items ≡ bound_in setup

-- what is asked for before the cores run sets something up
abbrev pub OnlySetsUp : Draft → Type 0
OnlySetsUp d = list_all sets_up d.setup ≡ true

pub only_more : (vs : List Event) (v : Event) → sets_up v ≡ true → list_all sets_up vs ≡ true → list_all sets_up (vs ++ v ∷ []) ≡ true
only_more [] v u h = ap (λ b. b && true) u
only_more (w ∷ vs) v u h =
    let both = both_are (sets_up w) (list_all sets_up vs) h in
    both_true (sets_up w) (list_all sets_up (vs ++ v ∷ [])) both.0 (only_more vs v u both.1)
