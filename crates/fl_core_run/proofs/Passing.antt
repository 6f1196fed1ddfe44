-- An end at which no call is in transmission writes nothing: whatever it puts to is as it was, and so is the end.
use Rattle.std.proofs.Common.{◌≡◌, refl, sym, ap, subst, ℕ, Bool, if◌then◌else◌, true, false, List, [], ◌∷◌, slice_get, Option, Some, None, Result, Ok, Err}
use Rattle.std.specs.Prelude.{IsSome}
use Rattle.std.proofs.lemmas.Bool.{ltb-true}
use Rattle.std.proofs.lemmas.Option.{same_Some}
use Rattle.fl_base.specs.Given.{given}
use Rattle.fl_base.specs.declared.fragment.Frag.{Frag}
use Rattle.fl_link.specs.Looks.{Look}
use Rattle.fl_link.specs.Queue.{TheQueue, QueuePuts}
use Rattle.fl_endpoint.specs.declared.answer.WriteAnswer.{WriteAnswer}
use Rattle.fl_endpoint.specs.declared.answer.WriteAnswer.TheVariants.{Nothing}
use Rattle.fl_endpoint.specs.declared.fault.EndFault.{EndFault}
use Rattle.fl_endpoint.specs.declared.fault.EndFault.TheVariants.{NotBound, Failed}
use Rattle.fl_endpoint.specs.View.{TheEnd, are_some, is_busy}
use Rattle.fl_endpoint.specs.Events.{Writes}
use Rattle.fl_core.proofs.BoardPlaces.{set_same}
use Rattle.fl_core.proofs.Room.{at_place}
use Rattle.fl_core.specs.declared.wiring.Outlet.{Outlet}
use Rattle.fl_core.specs.declared.wiring.Outlet.TheVariants as outlet
use Rattle.fl_core.specs.BoardView.{TheEndAtChannel}
use Rattle.fl_core.specs.BoardEvents.{Holds}
use Rattle.fl_core.specs.Ends.{at_side, TriggersIf, woken_by, WritesAt}
use Rattle.fl_core.specs.View.{TheCore, outlet_of}
use Rattle.fl_core_run.specs.declared.lent.LentPutEnd.{LentPutEnd}
use Rattle.fl_core_run.specs.Run.{SideRelations, TheRun, lends_out, lent_post_at, lent_post}
use Rattle.fl_core_run.specs.LogEntries.{WritesOver, IsSound, IsSoundAt}
use Rattle.fl_core_run.specs.Steps.{WritesFrom}
use Rattle.fl_core_run.specs.Inside.{OfPlace}
use Rattle.fl_core_run.proofs.Refusing.{same_board}
use Rattle.fl_core_run.proofs.Writing.{none_lent, wrote_there}

none_left : (frags : List Frag) → are_some frags ≡ false → frags ≡ []
none_left [] h = refl
none_left (f ∷ frags) h = absurd cc

-- ---- what its write comes to

idle_answer : Option ℕ → Bool → Result WriteAnswer EndFault
idle_answer None failed = Err NotBound
idle_answer (Some circuit) true = Err Failed
idle_answer (Some circuit) false = Ok Nothing

wakes_none : (k : TheCore) (e : ℕ) (circuit : Option ℕ) (failed : Bool) → woken_by k e (idle_answer circuit failed) ≡ None
unfolding idle_answer
wakes_none k e None failed = refl
wakes_none k e (Some circuit) true = refl
wakes_none k e (Some circuit) false = refl

is_bound : (o : Option ℕ) (circuit : ℕ) → o ≡ Some circuit → IsSome o
is_bound o circuit is = subst (λ (x : Option ℕ). IsSome x) (sym is) refl

module _ {P : Type 0} (puts : P → Look → P → Type 0) (p : P) (x : TheEnd) (idle : is_busy x.outgoing ≡ false) where
  by_parts : (circuit : Option ℕ) (failed : Bool) → x.circuit ≡ circuit → x.failed ≡ failed → Writes puts x p (idle_answer circuit failed) x p
  unfolding idle_answer
  by_parts None failed bound is = (bound, refl, refl)
  by_parts (Some circuit) true bound is = ((is_bound x.circuit circuit bound, is), refl, refl)
  by_parts (Some circuit) false bound is = ((is_bound x.circuit circuit bound, is), none_left x.outgoing.unwritten idle, refl, refl)

  writes_at : (k : TheCore) (e : ℕ) (seat : TheEndAtChannel) → slice_get k.board.seats e ≡ Some seat → x ≡ seat.end
      → WritesAt puts e (at_side k p) (idle_answer x.circuit x.failed) (at_side k p)
  writes_at k e seat stands same = record {
    wrote = k.board;
    writes = record {
      seat = seat;
      seat_is = stands;
      end = seat.end;
      event = subst (λ (y : TheEnd). Writes puts y p (idle_answer x.circuit x.failed) y p) same (by_parts x.circuit x.failed refl refl);
      board = same_board k.board e seat stands;
    };
    triggers = subst (λ (o : Option ℕ). TriggersIf o k.board k.board) (sym (wakes_none k e x.circuit x.failed)) refl;
    rest = refl;
  }

-- ---- over where the end puts

module _ {S : Type 0} (w : SideRelations S) (s : TheRun S) (e : ℕ) (x : TheEnd) (holds : Holds s.core.board e (λ seat. x ≡ seat.end))
    (idle : is_busy x.outgoing ≡ false) where
  over_outlet : (out : Outlet) → lends_out s out ≡ true → WritesOver w e out (idle_answer x.circuit x.failed) s s
  over_outlet (outlet.Queue n) lent =
      let it = at_place s.queues n (ltb-true _ _ lent) in
      record {
        before = it.0;
        before_is = it.1;
        after = it.0;
        event = writes_at QueuePuts it.0 x idle s.core e holds.0 holds.1 holds.2;
        rest = sym (ap (λ (queues : List TheQueue). record s { queues = queues }) (set_same s.queues n it.0 it.1));
      }
  over_outlet (outlet.Side n) lent =
      let it = at_place s.rings n (ltb-true _ _ lent) in
      record {
        before = it.0;
        before_is = it.1;
        after = it.0;
        event = writes_at w.puts it.0 x idle s.core e holds.0 holds.1 holds.2;
        rest = sym (ap (λ (rings : List S). record s { rings = rings }) (set_same s.rings n it.0 it.1));
      }

  by_lent : (post : LentPutEnd) (out : Outlet) (b : Bool) → lends_out s out ≡ b → Some post ≡ (if b then Some (record { end = e; outlet = out }) else None)
      → lends_out s post.outlet ≡ true
  by_lent post out true lends is = subst (λ (p : LentPutEnd). lends_out s p.outlet ≡ true) (sym (same_Some post (record { end = e; outlet = out }) is)) lends
  by_lent post out false lends is = absurd cc

  by_outlet : (post : LentPutEnd) (o : Option Outlet)
      → Some post ≡ given o None (λ out. if lends_out s out then Some (record { end = e; outlet = out }) else None)
      → lends_out s post.outlet ≡ true
  by_outlet post None is = absurd cc
  by_outlet post (Some out) is = by_lent post out (lends_out s out) refl is

  module _ (place : Option ℕ) (is : place ≡ Some e) (sound : IsSound s.core) (whole : w.whole s.rings)
      (sound_at : OfPlace (Some e) s (λ name. IsSoundAt s name)) where
    by_post : (post : Option LentPutEnd) → post ≡ lent_post_at s e → OfPlace place s (λ name. WritesFrom w name (lent_post s name) s s)
    by_post None lent = none_lent w s place e is lent
    by_post (Some post) lent =
        wrote_there w s place e is post (idle_answer x.circuit x.failed) s lent
        (over_outlet post.outlet (by_outlet post (outlet_of s.core e) lent)) sound whole sound_at

    pub passed : OfPlace place s (λ name. WritesFrom w name (lent_post s name) s s)
    passed = by_post (lent_post_at s e) refl
