-- What a turn adds to the account of the end that is due: a law, whatever the side.
use Rattle.std.specs.Prelude.{ℕ, List, [], ◌∷◌, Option, Result, Ok}
use Rattle.std.specs.declared.alloc.AllocError.{AllocError}
use Rattle.fl_lists.specs.ThreeLists.{ThreeLists}
use Rattle.fl_value_data.specs.Value.{TheCall, call_of}
use Rattle.fl_waitset.specs.declared.waitset.Pick.{Pick}
use Rattle.fl_link.specs.Looks.{Look, Looks, takes_of}
use Rattle.fl_endpoint.specs.View.{TheEnd, reply_to}
use Rattle.fl_endpoint.specs.Events.{IsReady}
use Rattle.fl_endpoint.specs.Accounts.{Sound, Accepted, followed, EndHistory, Account, Replies}
use Rattle.fl_core.specs.declared.kind.ChannelKind.{ChannelKind}
use Rattle.fl_core.specs.declared.turn_answer.TurnAnswer.{TurnAnswer}
use Rattle.fl_core.specs.declared.turn_answer.TurnAnswer.TheVariants.{Handle}
use Rattle.fl_core.specs.BoardTurns.{LooksAt, moment}

-- the call that was handled, if one was
abbrev pub handled_in : Result TurnAnswer AllocError → List TheCall
handled_in (Ok (Handle call)) = call_of call ∷ []
handled_in answer = []

-- the reply that is due then
abbrev pub due_in_turn : List (Option ℕ) → Result TurnAnswer AllocError → List TheCall
due_in_turn rules (Ok (Handle call)) = followed (reply_to rules (call_of call)) []
due_in_turn rules answer = []

-- what happens at its end in a turn that is answered so: the fragments taken, the call handled and the reply due, and what is accepted
abbrev pub happens_in_turn : List (Option ℕ) → Result TurnAnswer AllocError → List Look → List Accepted → EndHistory
happens_in_turn rules answer looks accepted =
    record { accepted = accepted; put = []; took = takes_of looks; handled = handled_in answer; due = due_in_turn rules answer }

-- the looks at the side tell what was taken; accepted is the reply that is due, where the end wasn't busy
pub record TurnAdds {T : Type 0} (takes : T → Look → T → Type 0)
    (s : TheEnd) (p : T) (answer : Result TurnAnswer AllocError) (t : TheEnd) (q : T) : Type 0 where
  pub looks : List Look
  pub side : Looks takes p looks q
  pub accepted : List Accepted
  pub sound : Sound t
  pub account : Account s (happens_in_turn s.rules answer looks accepted) t
  pub replies : Replies s (handled_in answer) (due_in_turn s.rules answer) t

abbrev pub TurnAccounts : {T : Type 0} → (T → Look → T → Type 0) → Type 0
TurnAccounts {T} takes = (picked : Pick) (kind : ChannelKind) (w v : ThreeLists) (s t : TheEnd) (p q : T) (answer : Result TurnAnswer AllocError)
    → Sound s → IsReady s → LooksAt takes picked kind (moment w s p) answer (moment v t q) → TurnAdds takes s p answer t q
