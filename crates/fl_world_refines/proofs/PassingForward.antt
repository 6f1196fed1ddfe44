-- A core forwards what stands first on a link: the world agrees with the machine, where it does in what a message comes to.
use Rattle.std.proofs.Common.{◌≡◌, ◌≢◌, inl, inr, refl, sym, ◌∙◌, ap, subst, ℕ, ◌^◌, Bool, true, false, List, map, slice_get, slice_set, Option, Some, None, option_map, Result, Ok, Err, arith}
use Rattle.fl_base.specs.declared.fragment.Frag.{Frag}
use Rattle.fl_base.specs.declared.identity.EndId.{EndId}
use Rattle.fl_base.specs.declared.identity.LinkId.{LinkId}
use Rattle.fl_base.specs.declared.identity.Circuit.{Circuit}
use Rattle.fl_base.specs.Control.{bare, circuit_of, with_circuit, is_ack_only}
use Rattle.fl_base.specs.Given.{given}
use Rattle.fl_hop.specs.declared.entry.HopTarget.{HopTarget}
use Rattle.fl_hop.specs.declared.entry.HopTarget.TheVariants.{Link as to_link, End as to_end}
use Rattle.fl_hop.specs.declared.entry.Hop.{Hop}
use Rattle.fl_hop.specs.Table.{TheCircuits, hop_at}
use Rattle.fl_hop.specs.Later.{way_at}
use Rattle.fl_link.specs.Looks.{Look, saw, saw_ack, found_ack, missed}
use Rattle.fl_link.proofs.Conserved.{bare-ack}
use Rattle.fl_ring.specs.Duo.{TheDuo, DuoTakes}
use Rattle.fl_ring.specs.Side.{SideTakes}
use Rattle.fl_ring.specs.declared.duo_side.DuoSide.{DuoSide}
use Rattle.fl_core.specs.declared.answer.LinkFront.{LinkFront}
use Rattle.fl_core.specs.declared.answer.LinkFront.TheVariants.{Nothing, Acknowledged, Message, Onward, Arrival}
use Rattle.fl_core.specs.declared.fault.LinkReceiveFault.{LinkReceiveFault}
use Rattle.fl_core.specs.declared.fault.LinkReceiveFault.TheVariants as fault
use Rattle.fl_core.specs.declared.wiring.LinkSide.{LinkSide}
use Rattle.fl_core.specs.View.{TheCore, side_of_link}
use Rattle.fl_core.specs.Links.{LooksAhead, inbound}
use Rattle.fl_core.specs.Ends.{at_side}
use Rattle.fl_model.specs.Given.{changed_at}
use Rattle.fl_model.specs.Events.{Answer, done, nothing, refused}
use Rattle.fl_model.specs.Rings.{Label, next_of, says, acknowledges, RingLabel, Ring, RingSide, first_for, looks, takes}
use Rattle.fl_model.specs.Monitors.{Core, Link}
use Rattle.fl_model.specs.State.{State, StepOutcome, answers, core_of, first_on, change_ring}
use Rattle.fl_model.specs.Forwarding.{LinkEnd, link_end, forwards, forwards_label, forwards_call, follows_entry}
use Rattle.fl_model_laws.proofs.Rings.{looks_counted}
use Rattle.fl_world_refines.specs.Fragments.{Streams, calls_off_links, calls_between}
use Rattle.fl_world_refines.specs.FragmentLaws.{CallsAreCarried}
use Rattle.fl_world_refines.specs.Rings.{which_of, RingShows}
use Rattle.fl_world_refines.specs.RingLaws.{IsFirst, TakeAgrees}
use Rattle.fl_world_refines.specs.View.{TheWorld, side_number, with_core, with_ring}
use Rattle.fl_world_refines.specs.Lending.{OverSide, IsStray, front_for}
use Rattle.fl_world_refines.specs.ShowsState.{link_side_of, Carries, ShowsState, Shows}
use Rattle.fl_world_refines.specs.Linking.{LinkNumbers as TheLinkEnd, link_side_to, HearsFirst, MovesOn, ArrivesWith, LooksWith, ForwardsBy, ForwardsFirst}
use Rattle.fl_world_refines.specs.Laws.{Agrees, ForwardsAgree}
use Rattle.fl_world_refines.specs.Hearing.{HearsAgrees}
use Rattle.fl_world_refines.proofs.Frames.{RingFrame, PassFrame, ArrivalsFrame, ListsFrame}
use Rattle.fl_world_refines.proofs.PassingArrivals.{arrives_agree}
use Rattle.fl_world_refines.proofs.PassingFirst.{CallFirst, SaidFirst, first_is_on, said_first, call_first, called}
use Rattle.fl_world_refines.proofs.PassingLinkSides.{LinkedTo, LinkSides, no_link_side, one_link_side, end_at, link_side_at, link_sides, its_end, its_between, given_none, given_some, link_side_side, mapped_get}
use Rattle.fl_world_refines.proofs.PassingLists.{get_set, changed_twice, changed_not, some_is, given_is}
use Rattle.fl_world_refines.proofs.PassingOnward.{next_there, moves_agree, some_way}
use Rattle.fl_world_refines.proofs.PassingRings.{Showings, Over, over, side_takes, still_lent, RingOf, ring_of_link, all_carried, small, carries_back, carries_it, looked_twice}
use Rattle.fl_world_refines.proofs.PassingWrites.{agrees_at, agrees_with, with_rings_like, same_core, no_stray}

-- what is known of where forwarding leads, and what stays where one thing is changed
pub record Passages : Type 0 where
  pub ring : RingFrame
  pub pass : PassFrame
  pub arrivals : ArrivalsFrame
  pub lists : ListsFrame
  pub hears : HearsAgrees

module _ (law : Showings) (frame : Passages) (w : TheWorld) (s : State) (shows : Shows w s) (core neighbour l : ℕ) (link : Link)
    (t : LinkedTo w s core neighbour l link) where
  abbrev here : LinkEnd
  here = end_at core neighbour l link

  abbrev n : ℕ
  n = link.ring.ring

  abbrev side : RingSide
  side = link.ring.side

  abbrev x : RingOf w s link.ring.ring
  x = ring_of_link law w s shows core neighbour link (its_between w s core neighbour l link t)

  abbrev seen_state : State
  seen_state = change_ring n (looks side) s

  back : Carries s n (calls_between neighbour core s)
  back = carries_back law w s shows core neighbour link (its_between w s core neighbour l link t)

  take : (look : Look) (d : TheDuo) → DuoTakes (which_of side) x.duo look d → (streams : Streams) → Carries s n streams → TakeAgrees streams side x.ring look d
  take look d takes_it streams h =
      law.takes streams side x.ring x.duo d look (x.shows streams h) x.counted.counts x.counted.fits (all_carried law w s shows n streams h) takes_it

  ring_now : (f : Ring → Ring) (d : TheDuo) → ((streams : Streams) → Carries s n streams → RingShows streams (f x.ring) d) → ShowsState (with_ring w n d) (change_ring n f s)
  ring_now f d h = frame.ring w s n x.ring f d shows.showing x.ring_is h

  first_is : (o : Option RingLabel) → first_for side x.ring ≡ o → forwards core neighbour s ≡ given o (answers s nothing) λ first. forwards_label here first.label seen_state
  first_is o q =
      given_is (link_end core neighbour s) _ _ here (its_end w s core neighbour l link t)
      ∙ ap (λ (p : Option RingLabel). given p (answers s nothing) λ first. forwards_label here first.label seen_state)
      (given_is (slice_get s.rings n) None (first_for side) x.ring x.ring_is ∙ q)

  -- what the core's table finds is the machine's entry
  entry_is : (first : RingLabel) (frag : Frag) (c : CallFirst s core neighbour l link first frag)
      → hop_at t.c.monitor.circuits l (circuit_of frag.control) ≡ Some c.hop
  entry_is first frag c =
      let one : c.passing.core ≡ t.k = some_is c.passing.core t.k (sym c.passing.core_is ∙ t.k_is) in
      ap (λ (y : TheCircuits). hop_at y l (circuit_of frag.control)) t.shows.monitor.circuits
      ∙ ap (hop_at t.k.circuits l) c.circuit
      ∙ ap (λ (k : Core). hop_at k.circuits l c.passing.number) (sym one)
      ∙ c.passing.hop_is

  way_is : (first : RingLabel) (frag : Frag) (c : CallFirst s core neighbour l link first frag) (way : HopTarget)
      → way_at t.c.monitor.circuits l (circuit_of frag.control) ≡ Some way → c.hop.way ≡ way
  way_is first frag c way q = some_is c.hop.way way (sym (ap (option_map (λ (hop : Hop). hop.way)) (entry_is first frag c)) ∙ q)

  call_is : (first : RingLabel) (frag : Frag) (c : CallFirst s core neighbour l link first frag) → first_for side x.ring ≡ Some first
      → forwards core neighbour s ≡ follows_entry here c.call c.passing.core c.hop.way seen_state
  call_is first frag c q =
      first_is (Some first) q
      ∙ ap (λ (label : Label). forwards_label here label seen_state) c.passing.label_is
      ∙ called s core neighbour l link first frag c n (looks side)

  -- no call's fragment has the form of one that only acknowledges
  not_marked : (first : RingLabel) (frag : Frag) (c : CallFirst s core neighbour l link first frag) → is_ack_only (with_circuit 0 frag) ≡ true → ⊥
  not_marked first frag c q =
      let all : CallsAreCarried s = law.carried s shows.sound.calls shows.showing.limits (small law w s shows) in
      let plain : is_ack_only (with_circuit 0 (bare frag)) ≡ false = (all.off_links c.call.end c.call.number (with_circuit 0 (bare frag)) c.goes.arrives).no_ack in
      let u : true ≡ false = sym q ∙ sym (bare-ack (with_circuit 0 frag)) ∙ ap is_ack_only ((law.aside frag).another 0 (omega arith)) ∙ plain in
      absurd (cc)

  module _ (ahead : Result LinkFront LinkReceiveFault) (looked w2 : TheWorld) (a : Answer) (o : Over w core link.ring t.c x.duo (LooksWith l ahead) looked) where
    looked_is : o.after ≡ t.c → looked ≡ with_ring w n o.left.duo.now
    looked_is after =
        o.rest ∙ ap (λ (c : TheCore). with_ring (with_core w core c) n o.left.duo.now) after ∙ same_core w core n t.c o.left.duo.now t.c_is

    -- where a fragment was seen
    module _ (frag : Frag) (sees : SideTakes o.side (saw (bare frag)) o.left) where
      seen : (streams : Streams) → Carries s n streams → IsFirst streams side x.ring (bare frag) × RingShows streams (looks side x.ring) o.left.duo.now
      seen = take (saw (bare frag)) o.left.duo.now (side_takes link.ring x.duo o.side o.left _ o.lent sees)

      shown : (streams : Streams) → Carries s n streams → RingShows streams (looks side x.ring) o.left.duo.now
      shown streams h = (seen streams h).1

      abbrev front : IsFirst (calls_between neighbour core s) side x.ring (bare frag)
      front = (seen (calls_between neighbour core s) back).0

      said : circuit_of frag.control ≡ 0 → SaidFirst front.first frag
      said none = said_first law w s shows core neighbour l link t frag front none

      call : circuit_of frag.control ≢ 0 → CallFirst s core neighbour l link front.first frag
      call some = call_first law w s shows core neighbour l link t frag front some

      hears_it : circuit_of frag.control ≡ 0 → o.after ≡ t.c → HearsFirst core (link_side_at l link) frag looked a w2 → Agrees (forwards core neighbour s) a w2
      hears_it none after hears =
          let m = said none in
          agrees_at _ _ a w2 (first_is (Some front.first) front.there ∙ ap (λ (label : Label). forwards_label here label seen_state) m.label)
          (frame.hears w w2 s here m.said frag o.left.duo.now a shows
          (record {
            here_is = its_end w s core neighbour l link t;
            first = front.first;
            first_is = first_is_on law w s shows core neighbour l link t (Some front.first) front.there;
            label = m.label;
            frag_is = m.frag_is;
            widths = m.widths;
          })
          (ring_now (looks side) o.left.duo.now shown)
          (subst (λ (v : TheWorld). HearsFirst core (link_side_at l link) frag v a w2) (looked_is after) hears))

      goes_on : circuit_of frag.control ≢ 0 → (over_link : LinkId) (m : ℕ) (circuit : Circuit) → way_at t.c.monitor.circuits l (circuit_of frag.control) ≡ Some (to_link over_link circuit)
          → l ≢ over_link.0 → side_of_link t.c.link_sides over_link.0 ≡ Some m → o.after ≡ t.c
          → ForwardsBy (Ok (Onward frag m circuit)) core (link_side_at l link) looked a w2 → Agrees (forwards core neighbour s) a w2
      goes_on some over_link m circuit way other side_is after follows =
          let c = call some in
          let leads : c.hop.way ≡ to_link over_link circuit = way_is front.first frag c (to_link over_link circuit) way in
          let next = next_there law frame.ring frame.pass w s shows core neighbour l link t front.first frag c x o.left.duo.now front.there shown over_link circuit leads other in
          let one : c.passing.core ≡ t.k = some_is c.passing.core t.k (sym c.passing.core_is ∙ t.k_is) in
          let same : m ≡ side_number next.0.ring =
          some_is m (side_number next.0.ring) (sym side_is ∙ link_side_side t.k t.c over_link.0 next.0 t.shows (ap (λ (k : Core). slice_get k.links over_link.0) (sym one) ∙ next.1)) in
          let moved = subst (λ (k : ℕ). ForwardsBy (Ok (Onward frag k circuit)) core (link_side_at l link) (with_ring w n o.left.duo.now) a w2) same
          (subst (λ (v : TheWorld). ForwardsBy (Ok (Onward frag m circuit)) core (link_side_at l link) v a w2) (looked_is after) follows) in
          agrees_at _ _ a w2 (call_is front.first frag c front.there)
          (elim moved [
            | inl moves ↦ moves_agree law frame.ring frame.pass w s shows core neighbour l link t front.first frag c x o.left.duo.now front.there shown over_link circuit leads other a w2 moves
            | inr (none, does) ↦ absurd (some_way law frame.ring frame.pass w s shows core neighbour l link t front.first frag c x o.left.duo.now front.there shown over_link circuit leads other none)
          ])

      arrives : circuit_of frag.control ≢ 0 → (to : EndId) → way_at t.c.monitor.circuits l (circuit_of frag.control) ≡ Some (to_end to) → o.after ≡ t.c
          → OverSide looked core (side_number link.ring) (ArrivesWith (inbound l frag to) a) w2 → Agrees (forwards core neighbour s) a w2
      arrives some to way after follows =
          let c = call some in
          let leads : c.hop.way ≡ to_end to = way_is front.first frag c (to_end to) way in
          agrees_at _ _ a w2 (call_is front.first frag c front.there)
          (arrives_agree law frame.ring frame.pass frame.arrivals frame.lists w s shows core neighbour l link t front.first frag c x o.left.duo.now front.there shown to leads a w2
          (over (with_ring w n o.left.duo.now) core link.ring t.c o.left.duo.now (ArrivesWith (inbound l frag to) a) w2 t.c_is (get_set w.rings n x.duo o.left.duo.now x.duo_is)
          (subst (λ (v : TheWorld). OverSide v core (side_number link.ring) (ArrivesWith (inbound l frag to) a) w2) (looked_is after) follows)))

    nothing_stands : SideTakes o.side missed o.left → o.after ≡ t.c → a ≡ nothing → w2 ≡ looked → Agrees (forwards core neighbour s) a w2
    nothing_stands takes_it after answer rest =
        let none = take missed o.left.duo.now (side_takes link.ring x.duo o.side o.left _ o.lent takes_it) in
        agrees_at _ _ a w2 (first_is None (none (calls_between neighbour core s) back).0)
        (agrees_with s nothing a _ w2 (sym answer) (rest ∙ looked_is after)
        (with_rings_like _ _ _ (changed_not s.rings n (λ r. r) x.ring x.ring_is refl)
        (ring_now (λ r. r) o.left.duo.now (λ streams h. (none streams h).1))))

    acknowledged : (m : DuoSide) → SideTakes o.side saw_ack m → SideTakes m found_ack o.left → o.after ≡ t.c → a ≡ done → w2 ≡ looked → Agrees (forwards core neighbour s) a w2
    acknowledged m sees finds after answer rest =
        let first = take saw_ack m.duo.now (side_takes link.ring x.duo o.side m _ o.lent sees) in
        let its = (first (calls_between neighbour core s) back).0 in
        let counted = looks_counted side x.ring x.counted in
        let left : (streams : Streams) → Carries s n streams → RingShows streams (takes side (looks side x.ring)) o.left.duo.now = λ streams h.
        subst (λ (r : Ring). RingShows streams (takes side r) o.left.duo.now) (looked_twice law.once side x.ring its.first its.there)
        (law.takes streams side (looks side x.ring) m.duo.now o.left.duo.now found_ack (first streams h).1 counted.counts counted.fits (all_carried law w s shows n streams h)
        (side_takes link.ring m.duo.now m o.left _ (still_lent _ x.duo o.side m _ o.lent sees) finds)).1 in
        agrees_at _ _ a w2 (first_is (Some its.first) its.there ∙ ap (λ (label : Label). forwards_label here label seen_state) its.acks)
        (agrees_with _ done a _ w2 (sym answer) (rest ∙ looked_is after)
        (with_rings_like _ _ _ (sym (changed_twice s.rings n (takes side) (looks side)))
        (ring_now (λ r. takes side (looks side r)) o.left.duo.now left)))

    by_ahead : (e : Result LinkFront LinkReceiveFault) → LooksAhead SideTakes front_for l (at_side t.c o.side) e (at_side o.after o.left) → ForwardsBy e core (link_side_at l link) looked a w2
        → Agrees (forwards core neighbour s) a w2
    by_ahead (Ok Nothing) (seen, after) (answer, rest) = nothing_stands seen.finds after answer rest
    by_ahead (Ok Acknowledged) (seen, after) (answer, rest) =
        let (m, sees, finds) = seen.finds in
        acknowledged m sees finds after answer rest
    by_ahead (Ok (Message frag)) (seen, after) hears =
        let (sees, front, none) = seen.finds in
        hears_it frag sees none after hears
    by_ahead (Ok (Onward frag m circuit)) (goes, after) follows =
        let (sees, front, some, way, plain, other) = goes.seen.finds in
        goes_on frag sees some goes.link m circuit way other.1 goes.side_is after follows
    by_ahead (Ok (Arrival frag to)) (seen, after) follows =
        let (sees, front, some, way, plain, other) = seen.finds in
        arrives frag sees some to way after follows
    by_ahead (Err fault.Failed) (link_side, after, left) follows =
        let same : link_side_of link ≡ link_side.link_side =
        some_is (link_side_of link) link_side.link_side
        (sym (ap (λ (ls : List LinkSide). slice_get ls l) t.shows.link_sides ∙ mapped_get link_side_of t.k.links l link t.link_is) ∙ link_side.link_side_is) in
        absurd (let u : false ≡ true = ap (λ (y : LinkSide). y.failed) same ∙ link_side.failed_is in cc)
    by_ahead (Err fault.Misrouted) (seen, after) follows =
        let (frag, sees, some, none) = seen.finds in
        let c = call frag sees some in
        absurd (let u : None ≡ Some c.hop = sym none ∙ entry_is (front frag sees).first frag c in cc)
    by_ahead (Err fault.Marked) (seen, after) follows =
        let (frag, e, sees, some, way, marked) = seen.finds in
        absurd (not_marked (front frag sees).first frag (call frag sees some) marked)
    by_ahead (Err other) does follows = absurd does

  pub forwards_first : (w2 : TheWorld) (a : Answer) → ForwardsFirst core (link_side_at l link) w a w2 → Agrees (forwards core neighbour s) a w2
  forwards_first w2 a h =
      let o = over w core link.ring t.c x.duo (LooksWith l h.ahead) h.looked t.c_is x.duo_is h.looks in
      by_ahead h.ahead h.looked w2 a o h.ahead o.event h.follows

pub forwards_agree : Showings → Passages → ForwardsAgree
forwards_agree law frame core neighbour w w2 s a shows h = elim (link_sides w s shows core neighbour) [
  | no_link_side link_side none apart ↦
      (let (answer, rest) = given_none (link_side_to w core neighbour) _ _ link_side h in
      agrees_at _ _ a w2
      (ap (λ (o : Option LinkEnd). given o (answers s (refused 73)) λ here.
      given (first_on here.ring s) (answers s nothing) λ first. forwards_label here first.label (change_ring here.ring.ring (looks here.ring.side) s)) none)
      (agrees_with s (refused 73) a w w2 (sym answer) rest shows.showing))
  | one_link_side l link link_side t ↦ elim (given_some (link_side_to w core neighbour) _ _ (link_side_at l link) link_side h) [
    | inl does ↦ forwards_first law frame w s shows core neighbour l link t w2 a does
    | inr stray ↦ absurd (no_stray w s core link (ring_of_link law w s shows core neighbour link (its_between w s core neighbour l link t)) a w2 stray)
  ]
]
