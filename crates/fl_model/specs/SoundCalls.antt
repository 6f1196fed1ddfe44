-- Sound states: calls fit their interfaces, and reply rules keep to types.
use Rattle.std.specs.Prelude.{ℕ, ◌≡◌, true, List, slice_get, Some, IsSome}
use Rattle.fl_base.specs.declared.identity.EndId.{EndId}
use Rattle.fl_value_data.specs.Value.{TheCall}
use Rattle.fl_value_data.specs.Fits.{fits_of}
use Rattle.fl_model.specs.Calls.{Planned}
use Rattle.fl_interface.specs.SameTypes.{same_arguments}
use Rattle.fl_model.specs.Ends.{Direction, End, rule_at}
use Rattle.fl_model.specs.State.{Binding, State, binding_of, interface_of, end_in}
use Rattle.fl_model.specs.Taking.{arguments_of}

-- each of these calls is of a message of the interface, with arguments of its types
abbrev pub AllFit : Planned → List TheCall → Type 0
AllFit i cs = (n : ℕ) (c : TheCall) → slice_get cs n ≡ Some c → fits_of i.interface c ≡ true

-- the calls that were accepted, and the replies that wait to be
pub record DirectionFits (i : Planned) (d : Direction) : Type 0 where
  pub accepted : AllFit i d.accepted
  pub waiting : AllFit i d.waiting

-- at each end of each binding, by the binding's interface
abbrev pub CallsFit : State → Type 0
CallsFit s = (e : EndId) (b : Binding) (i : Planned) → binding_of s e ≡ Some b → interface_of s b ≡ Some i
    → DirectionFits i (end_in e.side b).out

-- both messages are there, and that of the reply takes the arguments of the one that it replies to
pub record RuleSuits (i : Planned) (msg answer : ℕ) : Type 0 where
  pub message : IsSome (slice_get i.interface.messages msg)
  pub reply : IsSome (slice_get i.interface.messages answer)
  pub same : same_arguments (arguments_of msg i) (arguments_of answer i) ≡ true

abbrev pub AllSuit : Planned → End → Type 0
AllSuit i x = (msg answer : ℕ) → rule_at x.rules msg ≡ Some answer → RuleSuits i msg answer

abbrev pub RulesSuit : State → Type 0
RulesSuit s = (e : EndId) (b : Binding) (i : Planned) → binding_of s e ≡ Some b → interface_of s b ≡ Some i
    → AllSuit i (end_in e.side b)
