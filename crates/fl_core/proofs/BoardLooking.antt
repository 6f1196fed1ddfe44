-- A turn of the end whose channel is pending, by what the end answered.
use Rattle.std.proofs.Common.{◌≡◌, refl, sym, ◌∙◌, subst, ℕ, true, List, Option, None, IsSome, Result, Ok, Err, slice_get}
use Rattle.std.proofs.lemmas.Bool.{false≢true}
use Rattle.std.specs.declared.alloc.AllocError.{AllocError}
use Rattle.fl_base.specs.declared.identity.ChanId.{ChanId}
use Rattle.fl_lists.specs.ThreeLists.{ThreeLists}
use Rattle.fl_waitset.specs.declared.waitset.Pick.{Pick}
use Rattle.fl_waitset.specs.declared.waitset.Pick.TheVariants as pick
use Rattle.fl_link.specs.Looks.{Look}
use Rattle.fl_machine.specs.Reassembling.{TheReassembly}
use Rattle.fl_endpoint.specs.declared.fault.EndFault.{EndFault}
use Rattle.fl_endpoint.specs.declared.fault.EndFault.TheVariants.{Spent, Busy, UnknownMessage, Misfit, NotBound, Failed, Wire, Memory}
use Rattle.fl_endpoint.specs.declared.answer.ReceiveAnswer.{ReceiveAnswer}
use Rattle.fl_endpoint.specs.declared.answer.ReceiveAnswer.TheVariants as receive
use Rattle.fl_endpoint.specs.View.{TheEnd, with_parts}
use Rattle.fl_endpoint.specs.Events.{IsReady, Receives}
use Rattle.fl_endpoint.specs.Lent.{IsPlaceOf, receipt, ReceivesAt}
use Rattle.fl_core.specs.declared.kind.ChannelKind.{ChannelKind}
use Rattle.fl_core.specs.declared.turn_answer.TurnAnswer.{TurnAnswer}
use Rattle.fl_core.specs.declared.turn_answer.TurnAnswer.TheVariants.{Handle, Part, Quiet, Full, Nothing}
use Rattle.fl_core.specs.BoardTurns.{lent, moment, Gives, Examines, LooksAt}
use Rattle.fl_core.specs.BoardInside.{Settles, MayCome, Refuses, end_turn, LooksAtPlace}
use Rattle.fl_core.proofs.BoardPlaces.{set_same}
use Rattle.fl_core.proofs.Together.{standing}

-- what a turn answers for what the end answered
abbrev pub answer_of : ReceiveAnswer → TurnAnswer
answer_of (receive.Handle call) = Handle call
answer_of receive.Part = Part
answer_of receive.Quiet = Quiet
answer_of receive.Empty = Nothing
answer_of receive.HeldBack = Full

-- no end that is ready is unbound or has failed
not_unbound : {A : Type 0} (s : TheEnd) → IsReady s → s.circuit ≡ None → A
not_unbound s ready e = let none : Option ℕ = None in let p : IsSome none = subst IsSome e ready.0 in absurd (cc)

not_failed : {A : Type 0} (s : TheEnd) → IsReady s → s.failed ≡ true → A
not_failed s ready e = absurd (false≢true (sym ready.1 ∙ e))

module _ {T : Type 0} (takes : T → Look → T → Type 0) (kind : ChannelKind) (c : ℕ) (w v : ThreeLists) (s t : TheEnd) (p m q : T) where
  gives : (answer : ReceiveAnswer) → Receives takes s p (Ok answer) t m → Settles takes kind c (lent w m) answer (lent v q) → Gives takes kind c (moment w s p) (Ok (answer_of answer)) (moment v t q)
  gives (receive.Handle call) r h = (m, r, h)
  gives receive.Part r h = (m, r, h)
  gives receive.Quiet r h = (m, r, h)
  gives receive.Empty r h = (m, r, h)
  gives receive.HeldBack r h = (subst (λ (x : T). Receives takes s p (Ok receive.HeldBack) t x) (sym h.1) r, h.0)

  gives_none : IsReady s → (fault : EndFault) (answer : Result TurnAnswer AllocError) → Receives takes s p (Err fault) t q → Refuses c w fault answer v → Gives takes kind c (moment w s p) answer (moment v t q)
  gives_none ready (Wire fault) answer r h = subst (λ (a : Result TurnAnswer AllocError). Gives takes kind c (moment w s p) a (moment v t q)) (sym h.0) (r, h.1)
  gives_none ready Memory answer r h = subst (λ (a : Result TurnAnswer AllocError). Gives takes kind c (moment w s p) a (moment v t q)) (sym h.0) (r, h.1)
  gives_none ready NotBound answer r h = not_unbound s ready r.0
  gives_none ready Failed answer r h = not_failed s ready r.0.1
  gives_none ready Spent answer r h = absurd r
  gives_none ready Busy answer r h = absurd r
  gives_none ready UnknownMessage answer r h = absurd r
  gives_none ready Misfit answer r h = absurd r

  comes : IsReady s → (fault : EndFault) → Receives takes s p (Err fault) t q → MayCome fault
  comes ready (Wire fault) r = tt
  comes ready Memory r = tt
  comes ready NotBound r = not_unbound s ready r.0
  comes ready Failed r = not_failed s ready r.0.1
  comes ready Spent r = absurd r
  comes ready Busy r = absurd r
  comes ready UnknownMessage r = absurd r
  comes ready Misfit r = absurd r

module _ {T : Type 0} (takes : T → Look → T → Type 0) (kind : ChannelKind) (w v : ThreeLists) (s t : TheEnd) (p m q : T) (calls : List TheReassembly) (place : ℕ) (after : List TheReassembly) (ready : IsReady s) where
  module _ (c : ChanId) (picked : Pick) (picked_is : picked ≡ pick.Pending c) where
    -- what is so of each turn of this channel is so of what was picked
    as_picked : (answer : Result TurnAnswer AllocError) (r u : TheEnd) → Gives takes kind c.0 (moment w r p) answer (moment v u q) → LooksAt takes picked kind (moment w r p) answer (moment v u q)
    as_picked answer r u h = subst (λ (x : Pick). LooksAt takes x kind (moment w r p) answer (moment v u q)) (sym picked_is) h

    pub looks_pending : (answer : ReceiveAnswer) → ReceivesAt takes (receipt s p (Ok answer) t m) calls place after → Settles takes kind c.0 (lent w m) answer (lent v q)
        → LooksAtPlace takes (end_turn picked kind (moment w s p) (Ok (answer_of answer)) (moment v t q)) calls place after
    looks_pending answer h settles = record {
      was = h.was;
      was_there = h.was_there;
      is = h.is;
      event = (
        h.event.program,
        as_picked (Ok (answer_of answer)) (with_parts s h.was.parts) (with_parts t h.is.parts)
            (gives takes kind c.0 w v (with_parts s h.was.parts) (with_parts t h.is.parts) p m q answer h.event.receives settles),
      );
      after_is = h.after_is;
    }

    -- the same, where the answer is known
    pub looks_as : (x answer : ReceiveAnswer) → x ≡ answer → ReceivesAt takes (receipt s p (Ok x) t m) calls place after → Settles takes kind c.0 (lent w m) x (lent v q)
        → LooksAtPlace takes (end_turn picked kind (moment w s p) (Ok (answer_of answer)) (moment v t q)) calls place after
    looks_as x answer e h settles = subst (λ (a : ReceiveAnswer). LooksAtPlace takes (end_turn picked kind (moment w s p) (Ok (answer_of a)) (moment v t q)) calls place after) e (looks_pending x h settles)

    pub looks_refused : (fault : EndFault) (answer : Result TurnAnswer AllocError) → ReceivesAt takes (receipt s p (Err fault) t q) calls place after → Refuses c.0 w fault answer v
        → LooksAtPlace takes (end_turn picked kind (moment w s p) answer (moment v t q)) calls place after
    looks_refused fault answer h refuses = record {
      was = h.was;
      was_there = h.was_there;
      is = h.is;
      event = (
        h.event.program,
        as_picked answer (with_parts s h.was.parts) (with_parts t h.is.parts)
            (gives_none takes kind c.0 w v (with_parts s h.was.parts) (with_parts t h.is.parts) p q q ready fault answer h.event.receives refuses),
      );
      after_is = h.after_is;
    }

  pub may_come : (fault : EndFault) → ReceivesAt takes (receipt s p (Err fault) t q) calls place after → MayCome fault
  may_come fault h = comes takes kind 0 w v (with_parts s h.was.parts) (with_parts t h.is.parts) p q q ready fault h.event.receives

-- a channel that is polled: the end takes nothing
pub looks_polled : {T : Type 0} (takes : T → Look → T → Type 0) (kind : ChannelKind) (c : ChanId) (picked : Pick) (w v : ThreeLists) (s : TheEnd) (p q : T) (answer : Result TurnAnswer AllocError) (calls : List TheReassembly) (place : ℕ)
    → picked ≡ pick.Polled c → IsPlaceOf s calls place → Examines takes c.0 (lent w p) answer (lent v q) → LooksAtPlace takes (end_turn picked kind (moment w s p) answer (moment v s q)) calls place calls
looks_polled takes kind c picked w v s p q answer calls place picked_is known h =
    let (r, there) = standing s (slice_get calls place) known in
    record {
      was = r;
      was_there = there;
      is = r;
      event = (refl, subst (λ (x : Pick). LooksAt takes x kind (moment w (with_parts s r.parts) p) answer (moment v (with_parts s r.parts) q)) (sym picked_is) (h, refl));
      after_is = sym (set_same calls place r there);
    }
