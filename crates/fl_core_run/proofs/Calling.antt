-- A call that was tried at an end, and a rule.
use Rattle.std.proofs.Common.{◌≡◌, refl, sym, ap, ◌∙◌, subst, ℕ, ◌<◌, length, true, false, Option, Some, Result, Ok, Err}
use Rattle.std.proofs.lemmas.List.{length-set}
use Rattle.std.specs.Prelude.{OnErr}
use Rattle.fl_base.specs.declared.identity.EndId.{EndId}
use Rattle.fl_base.specs.declared.identity.MsgNo.{MsgNo}
use Rattle.fl_value_data.specs.declared.value.Call.{Call as AnyCall}
use Rattle.fl_value_data.specs.Value.{TheCall, call_of}
use Rattle.fl_endpoint.specs.declared.fault.EndFault.{EndFault}
use Rattle.fl_endpoint.specs.declared.fault.EndFault.TheVariants as end
use Rattle.fl_endpoint.specs.View.{TheEnd}
use Rattle.fl_endpoint.specs.Events.{Calls, SetsRule}
use Rattle.fl_core.specs.BoardEvents.{ChangesEnd}
use Rattle.fl_core.specs.Ends.{OnBoard}
use Rattle.fl_core.specs.BoardView.{TheEndAtChannel, TheBoard, with_end}
use Rattle.fl_core.specs.View.{TheCore, place_of, with_board}
use Rattle.fl_core_run.specs.Run.{SideRelations, TheRun, AtProgress}
use Rattle.fl_core_run.specs.EndProgress.{advanced}
use Rattle.fl_core_run.specs.LogEntries.{IsSound, IsSoundAt, NotesCalled}
use Rattle.fl_core_run.specs.Steps.{lacks_to_call, CallsAt, reply_rule, RulesAt}
use Rattle.fl_core_run.specs.Wants.{AcceptsAt}
use Rattle.fl_core_run.specs.Inside.{IsPlaceOf}

-- one for which memory was refused leaves all as it was
pub call_left : {S : Type 0} (s : TheRun S) (k : TheCore) (answer : Result (Unit {0}) EndFault) → lacks_to_call answer ≡ true → OnErr answer (k ≡ s.core)
    → record s { core = k } ≡ s
call_left s k (Ok done) is kept = absurd (cc)
call_left s k (Err fault) is kept = ap (λ (c : TheCore). record s { core = c }) kept

-- and its end would accept it
pub accepting : (k k2 : TheCore) (name : EndId) (e : ℕ) (c : TheCall) (answer : Result (Unit {0}) EndFault) → lacks_to_call answer ≡ true → Some e ≡ place_of k name
    → OnBoard k (λ b b2. ChangesEnd b e (λ x y. Calls x c answer y) b2) k2 → AcceptsAt k name c
accepting k k2 name e c (Err end.Memory) is at h = record {
  place = e;
  place_is = sym at;
  accepts = (h.event.seat, h.event.seat_is, (h.event.event.0, h.event.event.1, h.event.event.2));
}
accepting k k2 name e c (Err end.Spent) is at h = absurd (cc)
accepting k k2 name e c (Err end.Busy) is at h = absurd (cc)
accepting k k2 name e c (Err end.UnknownMessage) is at h = absurd (cc)
accepting k k2 name e c (Err end.Misfit) is at h = absurd (cc)
accepting k k2 name e c (Err end.NotBound) is at h = absurd (cc)
accepting k k2 name e c (Err end.Failed) is at h = absurd (cc)
accepting k k2 name e c (Err (end.Wire fault)) is at h = absurd (cc)
accepting k k2 name e c (Ok done) is at h = absurd (cc)

-- an end stays where it is while another stands for it there
pub placed_still : (k k2 : TheCore) (name : EndId) (e : ℕ) (seat : TheEndAtChannel) (after : TheEnd) → Some e ≡ place_of k name → e < length k.board.seats
    → k2 ≡ with_board k k2.board → k2.board ≡ with_end k.board e seat after → IsPlaceOf k2 name (Some e)
placed_still k k2 name e seat after at there rest board = record {
  is = ap (λ (x : TheCore). place_of x name) rest ∙ sym at;
  within = subst (λ (n : ℕ). e < n) (sym (ap (λ (b : TheBoard). length b.seats) board ∙ length-set k.board.seats e
      (record { end = after; dispatcher = seat.dispatcher; channel = seat.channel; kind = seat.kind }))) there;
}

-- and while its progress changes
pub placed_then : {S : Type 0} (m t : TheRun S) (name : EndId) (place : Option ℕ) → AtProgress name advanced m t → IsPlaceOf m.core name place → IsPlaceOf t.core name place
placed_then {S} m t name place h placed = subst (λ (k : TheCore). IsPlaceOf k name place) (sym (ap (λ (x : TheRun S). x.core) h.rest)) placed

module _ {S : Type 0} (w : SideRelations S) (name : EndId) (s t : TheRun S) (e : ℕ) (k : TheCore) (answer : Result (Unit {0}) EndFault) (at : Some e ≡ place_of s.core name)
    (sound : IsSound s.core) (whole : w.whole s.rings) (sound_at : IsSoundAt s name) where
  pub called : (call : AnyCall) → OnBoard s.core (λ b c. ChangesEnd b e (λ x y. Calls x (call_of call) answer y) c) k → lacks_to_call answer ≡ false
      → NotesCalled name answer (record s { core = k }) t → CallsAt w name call (place_of s.core name) s t
  called call event memory notes = subst (λ (o : Option ℕ). CallsAt w name call o s t) at
      (answer, (record s { core = k }, (e, sym at, record { event = event; rest = refl }), notes, sound, sound_at, whole), memory)

  pub ruled : (message reply : MsgNo) → OnBoard s.core (λ b c. ChangesEnd b e (λ x y. SetsRule x message.0 reply.0 answer y) c) k
      → AtProgress name advanced (record s { core = k }) t → RulesAt w (reply_rule name message reply) (place_of s.core name) s t
  ruled message reply event notes = subst (λ (o : Option ℕ). RulesAt w (reply_rule name message reply) o s t) at
      (answer, (record s { core = k }, (e, sym at, record { event = event; rest = refl }), notes, sound, sound_at, whole))
