-- Sound states: the monitors' messages that are under way.
use Rattle.std.specs.Prelude.{ℕ, ◌≡◌, ◌≤◌, ◌-◌, map, filter_map, Some}
use Rattle.std.specs.Prelude.{Contains}
use Rattle.std.specs.List.{range_with_len}
use Rattle.fl_lists.specs.ThreeLists.{NoRepeat}
use Rattle.fl_hop.specs.declared.links.LinkState.{LinkState}
use Rattle.fl_hop.specs.Numbers.{number}
use Rattle.fl_model.specs.Rings.{MonitorLabel}
use Rattle.fl_model.specs.State.{Route, State}
use Rattle.fl_model.specs.Standing.{Routed, Message, due_message, under_way, opening_number, answer_number}
use Rattle.fl_model.specs.Standing.{link_state}

-- the openings under way from a to b are those that a has counted and b hasn't, in order
pub record OpeningsGo (s : State) (a b : ℕ) (here there : LinkState) : Type 0 where
  pub taken : there.taken ≤ here.opened
  pub numbers : filter_map opening_number (under_way s a b)
      ≡ map (number a b) (range_with_len there.taken (here.opened - there.taken))

abbrev pub OpeningsGoInOrder : State → Type 0
OpeningsGoInOrder s = (a b : ℕ) (here there : LinkState) → link_state s a b ≡ Some here
    → link_state s b a ≡ Some there → OpeningsGo s a b here there

-- the message is the one that is due for a binding
pub record IsDue (s : State) (m : Message) : Type 0 where
  pub binding : ℕ
  pub route : Route
  pub routed : Routed s binding route
  pub due : due_message binding route ≡ Some m

-- each message that is under way, on a link or in an outbox, is due
abbrev pub MessagesAreDue : State → Type 0
MessagesAreDue s = (a b : ℕ) (m : MonitorLabel) → Contains (under_way s a b) m
    → IsDue s (record { from = a; to = b; said = m })

-- no two answers under way on a link are for one circuit
abbrev pub AnswersComeOnce : State → Type 0
AnswersComeOnce s = (a b : ℕ) → NoRepeat (filter_map answer_number (under_way s a b))
