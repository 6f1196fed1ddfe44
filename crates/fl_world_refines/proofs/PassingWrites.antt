-- A core's monitor writes, and a core acknowledges, on a link: the world agrees with the machine.
use Rattle.std.proofs.Common.{◌≡◌, ◌≢◌, ◌⊎◌, inl, inr, refl, sym, ◌∙◌, ap, subst, ℕ, not, Bool, true, false, if◌then◌else◌, List, [], ◌∷◌, map, slice_get, slice_set, Option, Some, None}
use Rattle.fl_base.specs.declared.fragment.Frag.{Frag}
use Rattle.fl_base.specs.Control.{bare}
use Rattle.fl_base.specs.Given.{given}
use Rattle.fl_link.specs.Looks.{Look, placed, no_room, spent, told, kept}
use Rattle.fl_ring.specs.Duo.{TheDuo}
use Rattle.fl_ring.specs.Side.{SidePuts, SideTakes}
use Rattle.fl_ring.specs.declared.duo_side.DuoSide.{DuoSide}
use Rattle.fl_core.specs.declared.turn_answer.AckAnswer.{AckAnswer}
use Rattle.fl_core.specs.declared.turn_answer.AckAnswer.TheVariants as ack
use Rattle.fl_monitor.specs.Monitors.{waiting_for, without_first}
use Rattle.fl_core.specs.declared.answer.MonitorWrite.{MonitorWrite}
use Rattle.fl_core.specs.declared.answer.MonitorWrite.TheVariants as write
use Rattle.fl_core.specs.View.{TheCore, with_monitor}
use Rattle.fl_core.specs.Links.{MonitorWrites, Acknowledges}
use Rattle.fl_core.specs.Ends.{at_side}
use Rattle.fl_model.specs.Given.{changed_at}
use Rattle.fl_model.specs.Events.{Answer, done, nothing, full, written, refused}
use Rattle.fl_model.specs.Rings.{MonitorLabel, says, acknowledges, Ring, RingSide, RingEnd, makes_sure, puts, owes, Room, room, there_is_room, for_data, for_acknowledgement}
use Rattle.fl_model.specs.Rings.{no_room as none_free, spent as used_up}
use Rattle.fl_model.specs.Monitors.{Link, Core}
use Rattle.fl_model.specs.State.{State, StepOutcome, answers, link_between, change_core, change_ring, ring_makes_sure, ring_room}
use Rattle.fl_model.specs.Forwarding.{LinkEnd, link_end, without_first_said, monitor_writes_by, monitor_writes_on, monitor_writes, monitor_acknowledges}
use Rattle.fl_model.specs.Taking.{acknowledges_by, acknowledges_on}
use Rattle.fl_model_laws.proofs.Views.{map_kept}
use Rattle.fl_world_refines.specs.Fragments.{Streams, said_frag, message_of, calls_between}
use Rattle.fl_world_refines.specs.Rings.{RingShows}
use Rattle.fl_world_refines.specs.RingLaws.{IsPutOf, PutAgrees, TakeAgrees, sure_for_data, sure_to_acknowledge, room_for_data, room_to_acknowledge}
use Rattle.fl_world_refines.specs.CoreLaws.{SendsFirst}
use Rattle.fl_world_refines.specs.View.{TheWorld, with_core, with_ring}
use Rattle.fl_world_refines.specs.Lending.{Refuses, OverSide, IsStray}
use Rattle.fl_world_refines.specs.ShowsState.{link_side_of, Carries, ShowsState, Shows}
use Rattle.fl_world_refines.specs.Linking.{LinkNumbers as LinkSide, link_side_to, write_answer, MonitorWritesWith, WritesMessage, ack_answer, AcksLinkWith, AcksLink}
use Rattle.fl_world_refines.specs.Laws.{Agrees, MonitorWritesAgree, MonitorAcksAgree}
use Rattle.fl_world_refines.specs.View.{side_number, ring_at}
use Rattle.fl_world_refines.proofs.Frames.{RingFrame, MonitorFrame, CoreStays}
use Rattle.fl_world_refines.proofs.PassingLinkSides.{LinkedTo, LinkSides, no_link_side, one_link_side, end_at, link_side_at, link_sides, its_end, its_between, given_none, given_some, ring_of_number}
use Rattle.fl_world_refines.proofs.PassingLists.{set_same, changed_twice, changed_not, get_changed, none_first, some_is, given_is}
use Rattle.fl_world_refines.proofs.PassingRings.{Showings, Over, over, side_puts, side_takes, RingOf, ring_of_link, all_carried, carries_it}

-- ---- outcomes

pub agrees_at : (o z : StepOutcome) (a : Answer) (w : TheWorld) → o ≡ z → Agrees z a w → Agrees o a w
agrees_at o z a w q h = subst (λ (x : StepOutcome). Agrees x a w) (sym q) h

-- an answer of the machine, and a what is shown of the state that it leaves
pub agrees_with : (s : State) (b a : Answer) (w w2 : TheWorld) → b ≡ a → w2 ≡ w → ShowsState w s → Agrees (answers s b) a w2
agrees_with s b a w w2 q e h = record { answer = q; showing = subst (λ (v : TheWorld). ShowsState v s) (sym e) h }

-- with other rings
pub with_rings_like : (w : TheWorld) (s : State) (rings : List Ring) → s.rings ≡ rings → ShowsState w s → ShowsState w (record s { rings = rings })
with_rings_like w s rings q h = subst (λ (rs : List Ring). ShowsState w (record s { rings = rs })) q h

-- nothing has changed at a core and a ring
pub same_world : (w : TheWorld) (n m : ℕ) (c : TheCore) (d : TheDuo) → slice_get w.cores n ≡ Some c → slice_get w.rings m ≡ Some d
    → with_ring (with_core w n c) m d ≡ w
same_world w n m c d at there =
    ap (λ (cs : List TheCore). record w { cores = cs; rings = slice_set w.rings m d }) (set_same w.cores n c at)
    ∙ ap (λ (ds : List TheDuo). record w { rings = ds }) (set_same w.rings m d there)

pub same_core : (w : TheWorld) (n m : ℕ) (c : TheCore) (d : TheDuo) → slice_get w.cores n ≡ Some c
    → with_ring (with_core w n c) m d ≡ with_ring w m d
same_core w n m c d at = ap (λ (cs : List TheCore). record w { cores = cs; rings = slice_set w.rings m d }) (set_same w.cores n c at)

-- ---- a side of a link's ring

module _ (law : Showings) (frame : RingFrame) (w : TheWorld) (s : State) (shows : Shows w s) (core neighbour l : ℕ) (link : Link) (t : LinkedTo w s core neighbour l link) where
  abbrev n : ℕ
  n = link.ring.ring

  abbrev side : RingSide
  side = link.ring.side

  between : link_between s core neighbour ≡ Some link
  between = its_between w s core neighbour l link t

  abbrev pub its_ring : RingOf w s link.ring.ring
  its_ring = ring_of_link law w s shows core neighbour link (its_between w s core neighbour l link t)

  mine : Carries s n (calls_between core neighbour s)
  mine = carries_it law w s shows core neighbour link between

  -- a put, and a take, at the ring's side
  pub its_put : (label : Rattle.fl_model.specs.Rings.Label) (look : Look) (d : TheDuo) → Rattle.fl_world_refines.specs.Fragments.MayBeSaid label
      → ((streams : Streams) → Carries s n streams → IsPutOf streams label look)
      → Rattle.fl_ring.specs.Duo.DuoPuts (Rattle.fl_world_refines.specs.Rings.which_of side) its_ring.duo look d
      → (streams : Streams) → Carries s n streams → PutAgrees streams side label its_ring.ring look d
  its_put label look d may is puts streams h =
      law.puts streams side label its_ring.ring its_ring.duo d look (its_ring.shows streams h) its_ring.counted.counts its_ring.counted.fits may (is streams h) puts

  pub its_take : (look : Look) (d : TheDuo) → Rattle.fl_ring.specs.Duo.DuoTakes (Rattle.fl_world_refines.specs.Rings.which_of side) its_ring.duo look d
      → (streams : Streams) → Carries s n streams → TakeAgrees streams side its_ring.ring look d
  its_take look d takes streams h =
      law.takes streams side its_ring.ring its_ring.duo d look (its_ring.shows streams h) its_ring.counted.counts its_ring.counted.fits
      (all_carried law w s shows n streams h) takes

  -- another ring at the link
  pub ring_changed : (f : Ring → Ring) (d : TheDuo) → ((streams : Streams) → Carries s n streams → RingShows streams (f its_ring.ring) d)
      → ShowsState (with_ring w n d) (change_ring n f s)
  ring_changed f d h = frame w s n its_ring.ring f d shows.showing its_ring.ring_is h

  pub ring_kept : (d : TheDuo) → ((streams : Streams) → Carries s n streams → RingShows streams its_ring.ring d) → ShowsState (with_ring w n d) s
  ring_kept d h =
      with_rings_like (with_ring w n d) (change_ring n (λ r. r) s) s.rings (changed_not s.rings n (λ r. r) its_ring.ring its_ring.ring_is refl)
      (ring_changed (λ r. r) d h)

  pub ring_changed_twice : (f g : Ring → Ring) (d : TheDuo) → ((streams : Streams) → Carries s n streams → RingShows streams (f (g its_ring.ring)) d)
      → ShowsState (with_ring w n d) (change_ring n f (change_ring n g s))
  ring_changed_twice f g d h =
      with_rings_like (with_ring w n d) (change_ring n (λ r. f (g r)) s) (changed_at n f (changed_at n g s.rings)) (sym (changed_twice s.rings n f g))
      (ring_changed (λ r. f (g r)) d h)

  -- the room that there is once the side has looked
  room_is : (need : ℕ) → ring_room need link.ring (ring_makes_sure need link.ring s) ≡ room need side (makes_sure need side its_ring.ring)
  room_is need = given_is _ _ (room need side) _ (get_changed s.rings n (makes_sure need side) its_ring.ring its_ring.ring_is)

  -- ---- the monitor writes

  module _ (frame_monitor : MonitorFrame) where
    sends : SendsFirst l link t.k t.c.monitor
    sends = law.outboxes l link t.k t.c.monitor t.shows.monitor t.link_is

    keeps_link_sides : CoreStays t.k (without_first_said l t.k)
    keeps_link_sides = record {
      dispatchers = refl;
      link_sides = map_kept link_side_of (λ (x : Link). record x { outbox = Rattle.std.specs.Prelude.drop 1 x.outbox }) t.k.links l (λ x q. refl);
      links = λ m. refl;
    }

    on_is : (m : MonitorLabel) (r : Room) → slice_get link.outbox 0 ≡ Some m → room_for_data side its_ring.ring ≡ r
        → monitor_writes_on (end_at core neighbour l link) link s
        ≡ monitor_writes_by (end_at core neighbour l link) m r (ring_makes_sure for_data link.ring s)
    on_is m r q e =
        given_is (slice_get link.outbox 0) _ _ m q
        ∙ ap (λ (x : Room). monitor_writes_by (end_at core neighbour l link) m x (ring_makes_sure for_data link.ring s)) (room_is for_data ∙ e)

    -- the first message's fragment
    is_put : (m : MonitorLabel) (f : Frag) → Rattle.fl_monitor.specs.Intermon.HasWidths (message_of m) → f ≡ said_frag m → (streams : Streams) → IsPutOf streams (says m) (placed f)
    is_put m f widths is streams g same =
        let one : f ≡ g = (let p : placed f ≡ placed g = same in cc) in
        let plain : bare (said_frag m) ≡ said_frag m = (law.said m widths).carried.is_bare in
        ap (λ (x : Frag). Some x) (sym plain ∙ ap bare (sym is ∙ one))

    no_put : (m : MonitorLabel) (look : Look) → ((g : Frag) → look ≡ placed g → ⊥) → (streams : Streams) → IsPutOf streams (says m) look
    no_put m look h streams g same = absurd (h g same)

    module _ (w2 : TheWorld) (a : Answer) (h : Over w core link.ring t.c its_ring.duo (MonitorWritesWith l a) w2) where
      goes_out : (m : MonitorLabel) (f : Frag) → slice_get link.outbox 0 ≡ Some m → f ≡ said_frag m → SidePuts h.side (placed f) h.left
          → h.after ≡ with_monitor t.c (without_first l t.c.monitor) → a ≡ written 1 1 → Agrees (monitor_writes_on (end_at core neighbour l link) link s) a w2
      goes_out m f q is puts_it after answer =
          let put = its_put (says m) (placed f) h.left.duo.now (sends.widths m q) (λ streams c. is_put m f (sends.widths m q) is streams)
          (side_puts link.ring its_ring.duo h.side h.left (placed f) h.lent puts_it) in
          let has = (put (calls_between core neighbour s) mine).0 in
          let rings = ring_changed_twice (puts side (says m)) (makes_sure for_data side) h.left.duo.now (λ streams c. (put streams c).1) in
          let showing = frame_monitor (with_ring w n h.left.duo.now) (change_ring n (puts side (says m)) (change_ring n (makes_sure for_data side) s)) core t.c t.k (without_first_said l)
          (without_first l t.c.monitor) rings t.c_is t.k_is keeps_link_sides sends.gone in
          agrees_at _ _ a w2 (on_is m there_is_room q has)
          (agrees_with _ (written 1 1) a _ w2 (sym answer)
          (h.rest ∙ ap (λ (c : TheCore). with_ring (with_core w core c) n h.left.duo.now) after) showing)

      stands_full : (m : MonitorLabel) (r : Room) → slice_get link.outbox 0 ≡ Some m → room_for_data side its_ring.ring ≡ r
          → monitor_writes_by (end_at core neighbour l link) m r (ring_makes_sure for_data link.ring s) ≡ answers (ring_makes_sure for_data link.ring s) full
          → ((streams : Streams) → Carries s n streams → RingShows streams (sure_for_data side its_ring.ring) h.left.duo.now)
          → h.after ≡ t.c → a ≡ full → Agrees (monitor_writes_on (end_at core neighbour l link) link s) a w2
      stands_full m r q e by shown after answer =
          agrees_at _ _ a w2 (on_is m r q e ∙ by)
          (agrees_with _ full a _ w2 (sym answer)
          (h.rest ∙ ap (λ (c : TheCore). with_ring (with_core w core c) n h.left.duo.now) after ∙ same_core w core n t.c h.left.duo.now t.c_is)
          (ring_changed (makes_sure for_data side) h.left.duo.now shown))

      -- what stands first in the outbox, by what waits there
      by_first : (o : Option MonitorLabel) → slice_get link.outbox 0 ≡ o → (r : MonitorWrite) → MonitorWrites SidePuts l (at_side t.c h.side) r (at_side h.after h.left) → a ≡ write_answer r
          → Agrees (monitor_writes_on (end_at core neighbour l link) link s) a w2
      by_first None q write.Written (f, rest, waits, puts_it, after) answer =
          absurd (let u : None ≡ Some f = sym (sends.none q) ∙ ap (λ (fs : List Frag). slice_get fs 0) waits in cc)
      by_first (Some m) q write.Written (f, rest, waits, puts_it, after) answer =
          let is : f ≡ said_frag m = some_is f (said_frag m) (sym (ap (λ (fs : List Frag). slice_get fs 0) waits) ∙ sends.next m q) in
          goes_out m f q is puts_it after answer
      by_first None q write.Full (some, puts_it, after) answer = absurd (some (none_first _ (sends.none q)))
      by_first (Some m) q write.Full (some, puts_it, after) answer =
          let put = its_put (says m) no_room h.left.duo.now (sends.widths m q) (λ streams c. no_put m no_room (λ g e. absurd (cc)) streams)
          (side_puts link.ring its_ring.duo h.side h.left no_room h.lent puts_it) in
          stands_full m none_free q (put (calls_between core neighbour s) mine).0 refl (λ streams c. (put streams c).1) after answer
      by_first None q write.Spent (some, puts_it, after) answer = absurd (some (none_first _ (sends.none q)))
      by_first (Some m) q write.Spent (some, puts_it, after) answer =
          let put = its_put (says m) spent h.left.duo.now (sends.widths m q) (λ streams c. no_put m spent (λ g e. absurd (cc)) streams)
          (side_puts link.ring its_ring.duo h.side h.left spent h.lent puts_it) in
          stands_full m used_up q (put (calls_between core neighbour s) mine).0 refl (λ streams c. (put streams c).1) after answer
      by_first None q write.Nothing (none, after, left) answer =
          agrees_at _ _ a w2 (ap (λ (o : Option MonitorLabel). given o (answers s nothing) λ m.
          monitor_writes_by (end_at core neighbour l link) m (ring_room for_data link.ring (ring_makes_sure for_data link.ring s)) (ring_makes_sure for_data link.ring s)) q)
          (agrees_with s nothing a w w2 (sym answer)
          (h.rest ∙ ap (λ (c : TheCore). with_ring (with_core w core c) n h.left.duo.now) after
          ∙ ap (λ (d : TheDuo). with_ring (with_core w core t.c) n d) (ap (λ (p : DuoSide). p.duo.now) left ∙ h.lent.ring)
          ∙ same_world w core n t.c its_ring.duo t.c_is its_ring.duo_is) shows.showing)
      by_first (Some m) q write.Nothing (none, after, left) answer =
          absurd (let u : None ≡ Some (said_frag m) = sym (ap (λ (fs : List Frag). slice_get fs 0) none) ∙ sends.next m q in cc)

      pub write_agrees : Agrees (monitor_writes_on (end_at core neighbour l link) link s) a w2
      write_agrees = let (r, does, answer) = h.event in by_first (slice_get link.outbox 0) refl r does answer

  -- ---- the core acknowledges

  acks_by : Bool → StepOutcome
  acks_by b =
      if not b then answers s nothing
      else acknowledges_by link.ring (ring_room for_acknowledgement link.ring (ring_makes_sure for_acknowledgement link.ring s)) (ring_makes_sure for_acknowledgement link.ring s)

  module _ (w2 : TheWorld) (a : Answer) (h : Over w core link.ring t.c its_ring.duo (AcksLinkWith a) w2) where
    owes_is : (b : Bool) → owes side its_ring.ring ≡ b → acknowledges_on link.ring s
        ≡ (if not b then answers s nothing
        else acknowledges_by link.ring (ring_room for_acknowledgement link.ring (ring_makes_sure for_acknowledgement link.ring s)) (ring_makes_sure for_acknowledgement link.ring s))
    owes_is b e =
        given_is (slice_get s.rings n) _ _ its_ring.ring its_ring.ring_is
        ∙ ap (λ (x : Bool). if not x then answers s nothing
        else acknowledges_by link.ring (ring_room for_acknowledgement link.ring (ring_makes_sure for_acknowledgement link.ring s)) (ring_makes_sure for_acknowledgement link.ring s)) e

    by_room : (r : Room) → room_to_acknowledge side its_ring.ring ≡ r
        → acknowledges_by link.ring (ring_room for_acknowledgement link.ring (ring_makes_sure for_acknowledgement link.ring s)) (ring_makes_sure for_acknowledgement link.ring s)
        ≡ acknowledges_by link.ring r (ring_makes_sure for_acknowledgement link.ring s)
    by_room r e = ap (λ (x : Room). acknowledges_by link.ring x (ring_makes_sure for_acknowledgement link.ring s)) (room_is for_acknowledgement ∙ e)

    its_rest : h.after ≡ t.c → w2 ≡ with_ring w n h.left.duo.now
    its_rest after =
        h.rest ∙ ap (λ (c : TheCore). with_ring (with_core w core c) n h.left.duo.now) after ∙ same_core w core n t.c h.left.duo.now t.c_is

    ack_by : (r : AckAnswer) → Acknowledges SideTakes h.side r h.left → h.after ≡ t.c → a ≡ ack_answer r → Agrees (acknowledges_on link.ring s) a w2
    ack_by ack.Done takes after answer =
        let take = its_take told h.left.duo.now (side_takes link.ring its_ring.duo h.side h.left told h.lent takes) in
        let one = take (calls_between core neighbour s) mine in
        agrees_at _ _ a w2 (owes_is true one.0 ∙ by_room there_is_room one.1)
        (agrees_with _ done a _ w2 (sym answer) (its_rest after)
        (ring_changed_twice (puts side acknowledges) (makes_sure for_acknowledgement side) h.left.duo.now (λ streams c. (take streams c).2)))
    ack_by ack.Nothing takes after answer =
        let take = its_take kept h.left.duo.now (side_takes link.ring its_ring.duo h.side h.left kept h.lent takes) in
        agrees_at _ _ a w2 (owes_is false (take (calls_between core neighbour s) mine).0)
        (agrees_with s nothing a _ w2 (sym answer) (its_rest after) (ring_kept h.left.duo.now (λ streams c. (take streams c).1)))
    ack_by ack.Full takes after answer =
        let take = its_take no_room h.left.duo.now (side_takes link.ring its_ring.duo h.side h.left no_room h.lent takes) in
        let one = take (calls_between core neighbour s) mine in
        let shown = ring_changed (makes_sure for_acknowledgement side) h.left.duo.now (λ streams c. (take streams c).2) in
        elim one.1 [
          | inl e ↦ agrees_at _ _ a w2 (owes_is true one.0 ∙ by_room none_free e) (agrees_with _ full a _ w2 (sym answer) (its_rest after) shown)
          | inr e ↦ agrees_at _ _ a w2 (owes_is true one.0 ∙ by_room used_up e) (agrees_with _ full a _ w2 (sym answer) (its_rest after) shown)
        ]

    pub ack_agrees : Agrees (acknowledges_on link.ring s) a w2
    ack_agrees = let (r, does, after, answer) = h.event in ack_by r does after answer

-- ---- the two laws

pub no_stray : (w : TheWorld) (s : State) (n : ℕ) (link : Link) → RingOf w s link.ring.ring → (a : Answer) (w2 : TheWorld)
    → IsStray w.rings (ring_at (side_number link.ring)) w a w2 → ⊥
no_stray w s n link x a w2 h =
    let u : None ≡ Some x.duo = sym h.0 ∙ ap (slice_get w.rings) (ring_of_number link.ring) ∙ x.duo_is in absurd (cc)

pub monitor_writes_agree : Showings → RingFrame → MonitorFrame → MonitorWritesAgree
monitor_writes_agree law frame frame_monitor core neighbour w w2 s a shows h = elim (link_sides w s shows core neighbour) [
  | no_link_side link_side none apart ↦
      (let (answer, rest) = given_none (link_side_to w core neighbour) _ _ link_side h in
      agrees_at _ _ a w2 (ap (λ (o : Option LinkEnd). given o (answers s (refused 73)) λ here. given (link_between s core neighbour) (answers s (refused 73)) λ link. monitor_writes_on here link s) none)
      (agrees_with s (refused 73) a w w2 (sym answer) rest shows.showing))
  | one_link_side l link link_side t ↦
      (let x = its_ring law frame w s shows core neighbour l link t in
      agrees_at _ _ a w2
      (ap (λ (o : Option LinkEnd). given o (answers s (refused 73)) λ here. given (link_between s core neighbour) (answers s (refused 73)) λ link. monitor_writes_on here link s) (its_end w s core neighbour l link t)
      ∙ ap (λ (o : Option Link). given o (answers s (refused 73)) λ y. monitor_writes_on (end_at core neighbour l link) y s) (its_between w s core neighbour l link t))
      (elim (given_some (link_side_to w core neighbour) _ _ (link_side_at l link) link_side h) [
        | inl does ↦ write_agrees law frame w s shows core neighbour l link t frame_monitor w2 a (over w core link.ring t.c x.duo _ w2 t.c_is x.duo_is does)
        | inr stray ↦ absurd (no_stray w s core link x a w2 stray)
      ]))
]

pub monitor_acks_agree : Showings → RingFrame → MonitorAcksAgree
monitor_acks_agree law frame core neighbour w w2 s a shows h = elim (link_sides w s shows core neighbour) [
  | no_link_side link_side none apart ↦
      (let (answer, rest) = given_none (link_side_to w core neighbour) _ _ link_side h in
      agrees_at _ _ a w2 (ap (λ (o : Option Link). given o (answers s (refused 73)) λ link. acknowledges_on link.ring s) apart)
      (agrees_with s (refused 73) a w w2 (sym answer) rest shows.showing))
  | one_link_side l link link_side t ↦
      (let x = its_ring law frame w s shows core neighbour l link t in
      agrees_at _ _ a w2
      (ap (λ (o : Option Link). given o (answers s (refused 73)) λ y. acknowledges_on y.ring s) (its_between w s core neighbour l link t))
      (elim (given_some (link_side_to w core neighbour) _ _ (link_side_at l link) link_side h) [
        | inl does ↦ ack_agrees law frame w s shows core neighbour l link t w2 a (over w core link.ring t.c x.duo _ w2 t.c_is x.duo_is does)
        | inr stray ↦ absurd (no_stray w s core link x a w2 stray)
      ]))
]
