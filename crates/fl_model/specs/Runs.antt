-- Runs of the machine: what was asked and what was answered, event after event; of these the calls that an
-- end got accepted, and those that it handled.
use Rattle.std.specs.Prelude.{◌==◌, ◌&&◌, Bool, true, false, if◌then◌else◌, List, [], ◌∷◌, map}
use Rattle.std.specs.List.{flat_map}
use Rattle.fl_base.specs.declared.identity.Side.{Side}
use Rattle.fl_base.specs.declared.identity.Side.TheVariants.{Client, Server}
use Rattle.fl_base.specs.declared.identity.EndId.{EndId}
use Rattle.fl_value_data.specs.Value.{TheCall}
use Rattle.fl_model.specs.Events.{Event, call, Answer, accepted, handle}
use Rattle.fl_model.specs.State.{State}
use Rattle.fl_model.specs.Step.{step}

-- an event, and the answer that it got
pub record Exchange : Type 0 where
  pub event : Event
  pub answer : Answer

-- events asked one after another, from this state on
abbrev pub run : State → List Event → List Exchange
run s [] = []
run s (v ∷ vs) = record { event = v; answer = (step s v).answer } ∷ run (step s v).state vs

-- the answers alone
abbrev pub answers_to : State → List Event → List Answer
answers_to s vs = map (λ (x : Exchange). x.answer) (run s vs)

-- the state after events
abbrev pub reached : State → List Event → State
reached s [] = s
reached s (v ∷ vs) = reached (step s v).state vs

abbrev pub same_side : Side → Side → Bool
same_side Client Client = true
same_side Server Server = true
same_side x y = false

abbrev pub same_end : EndId → EndId → Bool
same_end e f = (e.binding == f.binding) && same_side e.side f.side

-- the call that an event asked of this end, if it was accepted; replies by rule are asked by no event
abbrev pub accepted_in : EndId → Event → Answer → List TheCall
accepted_in e (call f c) accepted = if same_end e f then c ∷ [] else []
accepted_in e event answer = []

-- the call of which an answer tells that this end handled it
abbrev pub handled_in : EndId → Answer → List TheCall
handled_in e (handle f c) = if same_end e f then c ∷ [] else []
handled_in e answer = []

-- the calls of a run that an end was asked to make and that were accepted, in order
abbrev pub calls_accepted : EndId → List Exchange → List TheCall
calls_accepted e xs = flat_map (λ (x : Exchange). accepted_in e x.event x.answer) xs

-- the calls of a run that an end handled, in order
abbrev pub calls_handled : EndId → List Exchange → List TheCall
calls_handled e xs = flat_map (λ (x : Exchange). handled_in e x.answer) xs
