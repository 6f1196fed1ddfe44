-- A busy end refuses each call, and stays as it is.
use Rattle.std.proofs.Common.{◌≡◌, refl, sym, ap, subst, ℕ, Bool, true, false, List, [], ◌∷◌, slice_get, Option, Some, None, Err}
use Rattle.std.specs.Prelude.{IsSome}
use Rattle.fl_base.specs.declared.identity.EndId.{EndId}
use Rattle.fl_base.specs.declared.fragment.Frag.{Frag}
use Rattle.fl_interface.specs.Interface.{TheMessage}
use Rattle.fl_value_data.specs.declared.value.Call.{Call as AnyCall}
use Rattle.fl_value_data.specs.Value.{TheCall, call_of}
use Rattle.fl_value_data.specs.Fits.{fits_of}
use Rattle.fl_endpoint.specs.declared.fault.EndFault.{EndFault}
use Rattle.fl_endpoint.specs.declared.fault.EndFault.TheVariants.{UnknownMessage, Misfit, NotBound, Failed, Busy}
use Rattle.fl_endpoint.specs.View.{TheEnd, interface_in, are_some, is_busy}
use Rattle.fl_endpoint.specs.Events.{IsMessage, Calls}
use Rattle.fl_core.proofs.BoardPlaces.{set_same}
use Rattle.fl_core.specs.BoardView.{TheEndAtChannel, TheBoard, with_end}
use Rattle.fl_core.specs.BoardEvents.{Holds}
use Rattle.fl_core.specs.View.{place_of}
use Rattle.fl_core_run.specs.Run.{SideRelations, TheRun}
use Rattle.fl_core_run.specs.LogEntries.{IsSound, IsSoundAt}
use Rattle.fl_core_run.specs.Steps.{lacks_to_call, CallsAt}

record Refuses (x : TheEnd) (c : TheCall) : Type 0 where
  pub fault : EndFault
  pub refuses : Calls x c (Err fault) x
  pub memory : lacks_to_call (Err fault) ≡ false

some_left : (frags : List Frag) → are_some frags ≡ true → frags ≡ [] → ⊥
some_left [] h e = absurd cc
some_left (f ∷ frags) h e = absurd cc

module _ (x : TheEnd) (c : TheCall) (busy : is_busy x.outgoing ≡ true) where
  by_failed : (b : Bool) → x.failed ≡ b → IsSome x.circuit → fits_of (interface_in x) c ≡ true → Refuses x c
  by_failed true is bound fits = record { fault = Failed; refuses = (fits, (bound, is), refl); memory = refl }
  by_failed false is bound fits = record { fault = Busy; refuses = (fits, (bound, is), some_left x.outgoing.unwritten busy, refl); memory = refl }

  by_circuit : (o : Option ℕ) → x.circuit ≡ o → fits_of (interface_in x) c ≡ true → Refuses x c
  by_circuit None is fits = record { fault = NotBound; refuses = (fits, is, refl); memory = refl }
  by_circuit (Some circuit) is fits = by_failed x.failed refl (subst (λ (o : Option ℕ). IsSome o) (sym is) refl) fits

  by_fit : (b : Bool) → fits_of (interface_in x) c ≡ b → IsMessage (interface_in x) c.msg → Refuses x c
  by_fit true is message = by_circuit x.circuit refl is
  by_fit false is message = record { fault = Misfit; refuses = (message, is, refl); memory = refl }

  by_message : (o : Option TheMessage) → slice_get (interface_in x).messages c.msg ≡ o → Refuses x c
  by_message None is = record { fault = UnknownMessage; refuses = (is, refl); memory = refl }
  by_message (Some message) is = by_fit (fits_of (interface_in x) c) refl (subst (λ (o : Option TheMessage). IsSome o) (sym is) refl)

  busy_refuses : Refuses x c
  busy_refuses = by_message (slice_get (interface_in x).messages c.msg) refl

pub same_board : (b : TheBoard) (e : ℕ) (seat : TheEndAtChannel) → slice_get b.seats e ≡ Some seat → b ≡ with_end b e seat seat.end
same_board b e seat stands = ap (λ (seats : List TheEndAtChannel). record b { seats = seats }) (sym (set_same b.seats e seat stands))

-- so a call that isn't tried there is one that was refused
pub calls_nothing : {S : Type 0} (w : SideRelations S) (name : EndId) (call : AnyCall) (s : TheRun S) (e : ℕ) (x : TheEnd) → place_of s.core name ≡ Some e
    → Holds s.core.board e (λ seat. x ≡ seat.end) → is_busy x.outgoing ≡ true → IsSound s.core → w.whole s.rings → IsSoundAt s name → CallsAt w name call (place_of s.core name) s s
calls_nothing w name call s e x at holds busy sound whole sound_at =
    let refused = busy_refuses holds.0.end (call_of call) (subst (λ (y : TheEnd). is_busy y.outgoing ≡ true) holds.2 busy) in
    subst (λ (o : Option ℕ). CallsAt w name call o s s) (sym at) (
      Err refused.fault,
      (
        s,
        (
          e,
          at,
          record {
            event = record {
              event = record {
                seat = holds.0;
                seat_is = holds.1;
                end = holds.0.end;
                event = refused.refuses;
                board = same_board s.core.board e holds.0 holds.1;
              };
              rest = refl;
            };
            rest = refl;
          },
        ),
        refl,
        sound,
        sound_at,
        whole,
      ),
      refused.memory,
    )
