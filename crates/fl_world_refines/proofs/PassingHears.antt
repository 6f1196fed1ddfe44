-- The law of hearing from its four parts: what a core knows when it hears, that nothing is misrouted, an end that is opened, a server's end that is made.
use Rattle.std.proofs.Common.{◌≡◌, refl, sym, ◌∙◌, ap, subst, ℕ, slice_get, Option, Some, None}
use Rattle.fl_base.specs.declared.fragment.Frag.{Frag}
use Rattle.fl_base.specs.Numbered.{link_id}
use Rattle.fl_ring.specs.Duo.{TheDuo}
use Rattle.fl_ring.specs.declared.duo_side.DuoSide.{DuoSide}
use Rattle.fl_monitor.specs.Hearing.{IsMisrouted}
use Rattle.fl_monitor.specs.Monitors.{TheMonitor}
use Rattle.fl_model.specs.Events.{Answer}
use Rattle.fl_model.specs.Rings.{MonitorLabel, looks}
use Rattle.fl_model.specs.Monitors.{Link, hears}
use Rattle.fl_model.specs.State.{State, change_ring}
use Rattle.fl_model.specs.Forwarding.{LinkEnd, link_end, forwards_said}
use Rattle.fl_world_refines.specs.Fragments.{message_of}
use Rattle.fl_world_refines.specs.Cores.{MonitorShows}
use Rattle.fl_world_refines.specs.CoreLaws.{MayBeHeard}
use Rattle.fl_world_refines.specs.View.{TheWorld, with_ring}
use Rattle.fl_world_refines.specs.ShowsState.{ShowsState, Shows}
use Rattle.fl_world_refines.specs.Linking.{HearsFirst}
use Rattle.fl_world_refines.specs.Laws.{Agrees}
use Rattle.fl_world_refines.specs.Hearing.{IsMessage, link_side_of_end, looked, with_look, HearsAgrees}
use Rattle.fl_world_refines.proofs.PassingHeard.{HearFrames, known, EndOpens, ServerIsMade, heard_agrees}
use Rattle.fl_world_refines.proofs.PassingLinkSides.{LinkedTo, LinkSides, no_link_side, one_link_side, end_at, link_sides, its_end, its_between}
use Rattle.fl_world_refines.proofs.PassingLists.{get_set, some_is}
use Rattle.fl_world_refines.proofs.PassingRings.{Showings, over, RingOf, ring_of_link}

-- a core that hears a message on its link l, which it has looked at
pub record Hearer (w : TheWorld) (s : State) (core neighbour l : ℕ) (link : Link) (m : MonitorLabel) (frag : Frag) (d : TheDuo) : Type 0 where
  pub shows : Shows w s
  pub linked : LinkedTo w s core neighbour l link
  pub message : IsMessage s (end_at core neighbour l link) m frag
  pub ring : RingOf w s link.ring.ring
  pub showing : ShowsState (with_ring w link.ring.ring d) (change_ring link.ring.ring (looks link.ring.side) s)

module _ (law : Showings) (frame : HearFrames) where
  abbrev pub EachHearer : ((w : TheWorld) (s : State) (core neighbour l : ℕ) (link : Link) (m : MonitorLabel) (frag : Frag) (d : TheDuo) → Hearer w s core neighbour l link m frag d → Type 0) → Type 0
  EachHearer P = (w : TheWorld) (s : State) (core neighbour l : ℕ) (link : Link) (m : MonitorLabel) (frag : Frag) (d : TheDuo) (h : Hearer w s core neighbour l link m frag d)
      → P w s core neighbour l link m frag d h

  -- what the core knows of itself is so
  abbrev pub KnowsItself : Type 0
  KnowsItself = EachHearer (λ w s core neighbour l link m frag d h.
      MayBeHeard s.services l m h.linked.k (known law frame w s h.shows core neighbour l link h.linked m frag h.message h.ring d h.showing).here)

  abbrev pub NothingMisrouted : Type 0
  NothingMisrouted = EachHearer (λ w s core neighbour l link m frag d h.
      IsMisrouted (known law frame w s h.shows core neighbour l link h.linked m frag h.message h.ring d h.showing) h.linked.k.circuits (link_id l) (message_of m) → ⊥)

  abbrev pub EndsOpen : Type 0
  EndsOpen = EachHearer (λ w s core neighbour l link m frag d h.
      (may : MayBeHeard s.services l m h.linked.k (known law frame w s h.shows core neighbour l link h.linked m frag h.message h.ring d h.showing).here) (left : DuoSide) (after : TheMonitor)
      → MonitorShows (hears s.services l m h.linked.k).core after → EndOpens law frame w s h.shows core neighbour l link h.linked m frag h.message h.ring d h.showing may left after)

  abbrev pub ServersAreMade : Type 0
  ServersAreMade = EachHearer (λ w s core neighbour l link m frag d h.
      (may : MayBeHeard s.services l m h.linked.k (known law frame w s h.shows core neighbour l link h.linked m frag h.message h.ring d h.showing).here) (left : DuoSide) (after : TheMonitor)
      → MonitorShows (hears s.services l m h.linked.k).core after → ServerIsMade law frame w s h.shows core neighbour l link h.linked m frag h.message h.ring d h.showing may left after)

  module _ (knows : KnowsItself) (some : NothingMisrouted) (opens : EndsOpen) (makes : ServersAreMade) where
    hears_at : (w w2 : TheWorld) (s : State) (core neighbour l : ℕ) (link : Link) (m : MonitorLabel) (frag : Frag) (d : TheDuo) (a : Answer)
        (h : Hearer w s core neighbour l link m frag d) → HearsFirst core (link_side_of_end (end_at core neighbour l link)) frag (with_ring w link.ring.ring d) a w2
        → Agrees (forwards_said (end_at core neighbour l link) m (change_ring link.ring.ring (looks link.ring.side) s)) a w2
    hears_at w w2 s core neighbour l link m frag d a h does =
        let may = knows w s core neighbour l link m frag d h in
        heard_agrees law frame w s h.shows core neighbour l link h.linked m frag h.message h.ring d h.showing may (some w s core neighbour l link m frag d h)
        (opens w s core neighbour l link m frag d h may) (makes w s core neighbour l link m frag d h may) a w2 does.heard does.told
        (over (with_ring w link.ring.ring d) core link.ring h.linked.c d _ does.heard h.linked.c_is (get_set w.rings link.ring.ring h.ring.duo d h.ring.duo_is) does.hears)
        does.answer does.rules

    pub hears_agree : HearsAgrees
    hears_agree w w2 s here m frag d a shows msg = elim (link_sides w s shows here.core here.neighbour) [
      | no_link_side link_side none apart ↦ absurd (let u : None ≡ Some here = sym none ∙ msg.here_is in cc)
      | one_link_side l link link_side t ↦
          (let same : here ≡ end_at here.core here.neighbour l link =
          some_is here (end_at here.core here.neighbour l link) (sym msg.here_is ∙ its_end w s here.core here.neighbour l link t) in
          by here.core here.neighbour l link t (sym same) msg)
    ]
      where
        by : (core neighbour l : ℕ) (link : Link) → LinkedTo w s core neighbour l link → end_at core neighbour l link ≡ here → IsMessage s here m frag
            → ShowsState (with_look here d w) (looked here s) → HearsFirst here.core (link_side_of_end here) frag (with_look here d w) a w2
            → Agrees (forwards_said here m (looked here s)) a w2
        by core neighbour l link t same =
            subst (λ (h : LinkEnd). IsMessage s h m frag → ShowsState (with_look h d w) (looked h s) → HearsFirst h.core (link_side_of_end h) frag (with_look h d w) a w2
            → Agrees (forwards_said h m (looked h s)) a w2) same
            (λ its pic does. hears_at w w2 s core neighbour l link m frag d a
            (record { shows = shows; linked = t; message = its; ring = ring_of_link law w s shows core neighbour link (its_between w s core neighbour l link t); showing = pic }) does)
