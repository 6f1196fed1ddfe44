-- What is done over a side that is lent.
use Rattle.std.proofs.Common.{◌≡◌, refl, sym, ap, subst, ℕ, List, Option, Some, Result, Ok}
use Rattle.fl_base.specs.declared.fragment.Frag.{Frag}
use Rattle.fl_base.specs.declared.identity.EndId.{EndId}
use Rattle.fl_base.specs.declared.identity.LinkId.{LinkId}
use Rattle.fl_core.specs.declared.turn_answer.AckAnswer.{AckAnswer}
use Rattle.fl_core.specs.declared.board_fault.BoardFault.{BoardFault}
use Rattle.fl_core.specs.BoardEvents.{Holds, Acks}
use Rattle.fl_core.specs.declared.answer.LinkFront.{LinkFront}
use Rattle.fl_core.specs.declared.answer.LinkFront.TheVariants.{Message}
use Rattle.fl_core.specs.declared.answer.MonitorWrite.{MonitorWrite}
use Rattle.fl_core.specs.declared.fault.LinkReceiveFault.{LinkReceiveFault}
use Rattle.fl_core.specs.declared.fault.LinkReceiveFault.TheVariants.{Memory}
use Rattle.fl_core.specs.Hearing.{HearsFragLast}
use Rattle.fl_core.specs.View.{TheCore, place_of}
use Rattle.fl_core.specs.Ends.{at_side}
use Rattle.fl_core.specs.Links.{MonitorWrites, LooksAhead}
use Rattle.fl_core.specs.Links.{Acknowledges as TellsTaken}
use Rattle.fl_core_run.specs.declared.lent.LentRingEnd.{LentRingEnd}
use Rattle.fl_core_run.specs.Run.{SideRelations, TheRun, lent_link_side, lent_ring_end}
use Rattle.fl_core_run.specs.LogEntries.{looked, Does, Happens, IsSound}
use Rattle.fl_core_run.specs.Steps.{HandsOut, ForwardsOver, Forwards, SaysOver, Says, TellsOver, Tells, AcksFrom, Acknowledges}
use Rattle.fl_core_run.specs.Stops.{LeavesMessage}
use Rattle.fl_core_run.specs.Inside.{OverSide}
use Rattle.fl_core_run.proofs.Sides.{on_ring, on_side}

module _ {S : Type 0} (w : SideRelations S) (s : TheRun S) (n : ℕ) (ts : List S) (sound : IsSound s.core) (whole : w.whole s.rings) where
  pub said : (l : LinkId) (k : TheCore) (answer : MonitorWrite) → Some n ≡ lent_link_side s l → OverSide n s.rings (λ p q. MonitorWrites w.puts l.0 (at_side s.core p) answer (at_side k q)) ts
      → Says w l s (record s { core = k; rings = ts })
  said l k answer link_side event = subst (λ (o : Option ℕ). SaysOver w l o s (record s { core = k; rings = ts })) link_side
      (answer, (record s { core = k; rings = ts }, on_ring s n ts (λ c p c2 q. MonitorWrites w.puts l.0 (at_side c p) answer (at_side c2 q)) k event, refl, sound, tt, whole))

  pub told : (l : LinkId) (answer : AckAnswer) → Some n ≡ lent_link_side s l → OverSide n s.rings (λ p q. TellsTaken w.takes p answer q) ts → Tells w l s (record s { rings = ts })
  told l answer link_side event = subst (λ (o : Option ℕ). TellsOver w l o s (record s { rings = ts })) link_side
      (answer, (record s { rings = ts }, on_side s n ts (λ p q. TellsTaken w.takes p answer q) event, refl, sound, tt, whole))

  pub acked : (name : EndId) (e : ℕ) (answer : Result AckAnswer BoardFault) → Some (record { end = e; side = n }) ≡ lent_ring_end s name → place_of s.core name ≡ Some e
      → OverSide n s.rings (λ p q. Holds s.core.board e (λ seat. Acks w.takes seat.kind seat.end p answer q)) ts → Acknowledges w name s (record s { rings = ts })
  acked name e answer ring_end at event = subst (λ (o : Option LentRingEnd). AcksFrom w name o s (record s { rings = ts })) ring_end (
    answer,
    (
      record s { rings = ts },
      (
        e,
        at,
        record {
          before = event.before;
          before_is = event.before_is;
          after = event.after;
          event = (event.event, refl);
          rest = ap (λ (xs : List S). record s { rings = xs }) event.rest;
        },
      ),
      refl,
      sound,
      tt,
      whole,
    ),
  )

  -- a look, and what is made of it
  module _ (l : LinkId) (k : TheCore) (found : Result LinkFront LinkReceiveFault)
      (event : OverSide n s.rings (λ p q. LooksAhead w.takes w.front l.0 (at_side s.core p) found (at_side k q)) ts) where
    pub looks : Does w (looked n l found) s (record s { core = k; rings = ts })
    looks = on_ring s n ts (λ c p c2 q. LooksAhead w.takes w.front l.0 (at_side c p) found (at_side c2 q)) k event

    pub forwarded : (t : TheRun S) → Some n ≡ lent_link_side s l → HandsOut w n l found (record s { core = k; rings = ts }) t → Forwards w l s t
    forwarded t link_side hands_out = subst (λ (o : Option ℕ). ForwardsOver w l o s t) link_side
        (found, record s { core = k; rings = ts }, (record s { core = k; rings = ts }, looks, refl, sound, tt, whole), hands_out)

    pub left : (t : TheRun S) → Some n ≡ lent_link_side s l
        → ((frag : Frag) × (found ≡ Ok (Message frag)) × (t ≡ record s { core = k; rings = ts }) × HearsFragLast s.offers l frag k Memory)
        → LeavesMessage w l s t
    left t link_side h = record {
      side = n;
      link_side = sym link_side;
      frag = h.0;
      looks = subst (λ (x : TheRun S). Happens w (looked n l (Ok (Message h.0))) s x) (sym h.2)
          (subst (λ (f : Result LinkFront LinkReceiveFault). Happens w (looked n l f) s (record s { core = k; rings = ts })) h.1
          (record s { core = k; rings = ts }, looks, refl, sound, tt, whole));
      hears = subst (λ (x : TheRun S). HearsFragLast x.offers l h.0 x.core Memory) (sym h.2) h.3;
    }
