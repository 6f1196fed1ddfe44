-- What a state keeps of bindings whatever is asked: each has its interface, the numbers of its circuit so far, and
-- the calls that each end has accepted so far.
use Rattle.std.specs.Prelude.{ℕ, ◌≡◌, slice_get, Option, Some}
use Rattle.fl_base.specs.declared.identity.EndId.{EndId}
use Rattle.fl_base.specs.Prefix.{IsPrefix}
use Rattle.fl_model.specs.Calls.{Planned}
use Rattle.fl_model.specs.State.{Route, Binding, State, binding_of, end_in, number_between}
use Rattle.fl_model.specs.Forwarding.{route_of}

-- the numbers of its circuit, so far
abbrev pub KeepsNumbers : Option Route → Option Route → Type 0
KeepsNumbers before now = (route : Route) → before ≡ Some route
    → (later : Route) × (now ≡ Some later) × ((a b n : ℕ) → number_between a b route ≡ Some n → number_between a b later ≡ Some n)

-- the end's binding is still there: under its interface, with the numbers and the calls that it had before
pub record KeepsBinding (t : State) (e : EndId) (b : Binding) : Type 0 where
  pub now : Binding
  pub there : binding_of t e ≡ Some now
  pub interface : now.interface ≡ b.interface
  pub numbers : KeepsNumbers (route_of b.back) (route_of now.back)
  pub accepted : IsPrefix (end_in e.side b).out.accepted (end_in e.side now).out.accepted

-- from one state to a later one
pub record KeepsCalls (s t : State) : Type 0 where
  pub interfaces : (n : ℕ) (i : Planned) → slice_get s.interfaces n ≡ Some i → slice_get t.interfaces n ≡ Some i
  pub bindings : (e : EndId) (b : Binding) → binding_of s e ≡ Some b → KeepsBinding t e b
