-- Two operations at an end, one after the other.
use Rattle.std.proofs.Common.{◌≡◌, ◌≢◌, ◌⊎◌, ℕ, List, Option, Some, None, Result, Ok, Err, inl, inr, refl, subst}
use Rattle.std.specs.Prelude.{IsSome}
use Rattle.fl_ring.specs.SharedSides.{TheSide, SharedPuts}
use Rattle.fl_value_data.specs.Value.{TheCall}
use Rattle.fl_endpoint.specs.View.{TheEnd}
use Rattle.fl_endpoint.specs.Events.{Calls, Writes}
use Rattle.fl_endpoint.specs.declared.fault.EndFault.{EndFault}
use Rattle.fl_endpoint.specs.declared.answer.ReceiveAnswer.{ReceiveAnswer}
use Rattle.fl_endpoint.specs.declared.answer.ReceiveAnswer.TheVariants.{Handle, Part, Quiet, Empty, HeldBack}
use Rattle.fl_endpoint.specs.declared.answer.WriteAnswer.{WriteAnswer}
use Rattle.fl_endpoint.specs.declared.answer.WriteAnswer.TheVariants.{Written, Full, Nothing}
use Rattle.fl_c_operations.specs.declared.answer.Outcome.{Outcome}
use Rattle.fl_c_operations.specs.declared.answer.Outcome.TheVariants.{Accepted, Handled, CallRead, CallTaken}
use Rattle.fl_c_operations.specs.declared.answer.UseFault.{UseFault}
use Rattle.fl_c_operations.specs.declared.answer.UseFault.TheVariants.{End}
use Rattle.fl_c_operations.specs.declared.transmitting.Sent.{Sent}
use Rattle.fl_c_operations.specs.declared.unread.UnreadCall.{UnreadCall}
use Rattle.fl_c_operations.specs.Calls.{AreCall, PutsNumbers}
use Rattle.fl_c_operations.specs.Transmissions.{first_written, SendsOne}
use Rattle.fl_c_operations.specs.View.{TheHeld, program_of_held, held_as}
use Rattle.fl_c_operations.specs.Ends.{CallsBy, written_as, WritesBy, sent_one, SendsBy, received_as, unread_in, ReceivesNext, without_handled, ReadsBy, taken_as, TakesCallBy}

-- what a write of the end's own comes to
pub writes_as : (m t : TheHeld) (answer : Result WriteAnswer EndFault) → Writes SharedPuts m.end m.side answer t.end t.side → t.calls ≡ m.calls → t.handled ≡ m.handled
    → WritesBy m (written_as answer) t
writes_as m t (Ok (Written number count)) writes calls handled = ((number, count, refl, writes), calls, handled)
writes_as m t (Ok Full) writes calls handled = (writes, calls, handled)
writes_as m t (Ok Nothing) writes calls handled = (writes, calls, handled)
writes_as m t (Err fault) writes calls handled = (writes, calls, handled)

-- a call of one fragment is made and put
pub sends_one : (h t : TheHeld) (numbers : List ℕ) (c : TheCall) (answer : Result Sent EndFault) → AreCall (program_of_held h) numbers c
    → SendsOne h.end h.side c answer t.end t.side → t.calls ≡ h.calls → t.handled ≡ h.handled → SendsBy h numbers (sent_one answer) t
sends_one h t numbers c (Err fault) are (calls, same) kept handled =
    inl (End fault, refl, inr (c, Err fault, are, calls, refl, (same, kept, handled)))
sends_one h t numbers c (Ok sent) are (m, calls, writes) kept handled =
    let between = held_as m h.side h.calls h.handled in
    inr (between, written_as (first_written sent), inr (c, Ok tt, are, calls, refl, (refl, refl, refl)), writes_as between t (first_written sent) writes kept handled, refl)

-- a call that is accepted is told so
pub accepted_as : (h m : TheHeld) (numbers : List ℕ) (outcome : Outcome) → CallsBy h numbers (Ok outcome) m → CallsBy h numbers (Ok Accepted) m
accepted_as h m numbers outcome (inl (fault, is, refused, same)) = absurd (cc)
accepted_as h m numbers outcome (inr (c, Ok done, are, calls, is, changes)) = inr (c, Ok done, are, calls, refl, changes)
accepted_as h m numbers outcome (inr (c, Err fault, are, calls, is, changes)) = absurd (cc)

-- ---- a fragment is taken, and the call that it makes whole read

pub taken_whole : (h m : TheHeld) (room : List ℕ) (count : ℕ) (written numbers : List ℕ) → h.handled ≡ None → ReceivesNext h (Ok Handled) m → m.handled ≡ Some numbers
    → PutsNumbers numbers room (Ok count) written → TakesCallBy h room (Ok (CallTaken count)) (without_handled m) written
taken_whole h m room count written numbers none next is puts = inr (m, Ok (CallRead count), inr (none, next), ((numbers, is, puts), refl), refl)

pub taken_short : (h m : TheHeld) (room : List ℕ) (fault : UseFault) (written numbers : List ℕ) → h.handled ≡ None → ReceivesNext h (Ok Handled) m → m.handled ≡ Some numbers
    → PutsNumbers numbers room (Err fault) written → TakesCallBy h room (taken_as (Err fault)) m written
taken_short h m room fault written numbers none next is puts = inr (m, Err fault, inr (none, next), ((numbers, is, puts), refl), refl)

pub not_taken : (h t : TheHeld) (room : List ℕ) (r : Result Outcome UseFault) → h.handled ≡ None → ReceivesNext h r t → r ≢ Ok Handled → TakesCallBy h room r t room
not_taken h t room r none next other = inl (inr (none, next), other, refl)

pub taken_then_read : (h m t : TheHeld) (room : List ℕ) (r read : Result Outcome UseFault) (written : List ℕ) → h.handled ≡ None → ReceivesNext h r m → r ≡ Ok Handled → ReadsBy m room read t written
    → TakesCallBy h room (taken_as read) t written
taken_then_read h m t room r read written none next is reads = inr (m, read, inr (none, subst (λ (x : Result Outcome UseFault). ReceivesNext h x m) is next), reads, refl)

-- what is told of a receive where no call stays to be read, and where one does
pub told_otherwise : (answer : Result ReceiveAnswer EndFault) (kept : Option UnreadCall) → kept ≡ unread_in answer → kept ≡ None → received_as answer ≢ Ok Handled
told_otherwise (Ok (Handle call)) kept is none told = absurd (cc)
told_otherwise (Ok Part) kept is none told = absurd (cc)
told_otherwise (Ok Quiet) kept is none told = absurd (cc)
told_otherwise (Ok Empty) kept is none told = absurd (cc)
told_otherwise (Ok HeldBack) kept is none told = absurd (cc)
told_otherwise (Err fault) kept is none told = absurd (cc)

some_kept : (o : Option UnreadCall) → o ≡ None → IsSome o → ⊥
some_kept None is some = absurd (cc)
some_kept (Some call) is some = absurd (cc)

pub told_handled : (answer : Result ReceiveAnswer EndFault) (kept : Option UnreadCall) → kept ≡ unread_in answer → IsSome kept → received_as answer ≡ Ok Handled
told_handled (Ok (Handle call)) kept is some = refl
told_handled (Ok Part) kept is some = absurd (some_kept kept is some)
told_handled (Ok Quiet) kept is some = absurd (some_kept kept is some)
told_handled (Ok Empty) kept is some = absurd (some_kept kept is some)
told_handled (Ok HeldBack) kept is some = absurd (some_kept kept is some)
told_handled (Err fault) kept is some = absurd (some_kept kept is some)
