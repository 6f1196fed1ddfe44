-- A core hears a message: where it is left, where it goes on, fails, or comes back as a refusal, the world agrees with the machine.
use Rattle.std.proofs.Common.{◌≡◌, ◌≢◌, inl, inr, refl, sym, ◌∙◌, ap, subst, ℕ, zero, suc, min, List, [], ◌∷◌, slice_get, slice_set, Option, Some, None, Result, Ok, Err}
use Rattle.fl_base.specs.declared.fragment.Frag.{Frag}
use Rattle.fl_base.specs.declared.identity.EndId.{EndId}
use Rattle.fl_base.specs.declared.identity.LinkId.{LinkId}
use Rattle.fl_base.specs.declared.identity.Circuit.{Circuit}
use Rattle.fl_base.specs.Control.{bare}
use Rattle.fl_wire.specs.declared.fault.WireFault.{WireFault}
use Rattle.fl_wire.specs.declared.fault.WireFault.TheVariants as wiring
use Rattle.fl_link.specs.Looks.{found}
use Rattle.fl_ring.specs.Duo.{TheDuo}
use Rattle.fl_ring.specs.Side.{SideTakes}
use Rattle.fl_ring.specs.declared.duo_side.DuoSide.{DuoSide}
use Rattle.fl_monitor.specs.declared.heard.MessageOutcome.{MessageOutcome}
use Rattle.fl_monitor.specs.declared.heard.MessageOutcome.TheVariants as heard
use Rattle.fl_monitor.specs.declared.message.MonitorMessage.{MonitorMessage}
use Rattle.fl_monitor.specs.declared.fault.MonitorFault.TheVariants as monitor
use Rattle.fl_monitor.specs.Fates.{Known}
use Rattle.fl_monitor.specs.Hearing.{IsMisrouted}
use Rattle.fl_monitor.specs.Monitors.{TheMonitor, Hears}
use Rattle.fl_monitor.specs.Saying.{Says, Refuses}
use Rattle.fl_monitor.proofs.Taken.{not_wrong}
use Rattle.fl_core.specs.declared.answer.MonitorAnswer.{MonitorAnswer}
use Rattle.fl_core.specs.declared.answer.MonitorAnswer.TheVariants as told
use Rattle.fl_core.specs.declared.fault.LinkReceiveFault.{LinkReceiveFault}
use Rattle.fl_core.specs.declared.fault.LinkReceiveFault.TheVariants as fault
use Rattle.fl_core.specs.Hearing.{Offers, offer_for, known_for, MakesServer, BindsIf, offering, Follows, HearsAll, HearsMessage, HearsFrag, TakesHeard}
use Rattle.fl_core.specs.View.{TheCore, with_monitor, arriving_at}
use Rattle.fl_model.specs.Given.{changed_at}
use Rattle.fl_model.specs.Events.{Answer, done, full, opened, opening_refused}
use Rattle.fl_model.specs.Rings.{MonitorLabel, says, RingLabel, Ring, RingSide, first_for, looks, takes}
use Rattle.fl_model.specs.Monitors.{Core, Link, Hearing, hears}
use Rattle.fl_model.specs.Monitors.{Heard as MachineHeard, no_outbox, misrouted, opening_went_on, server_made, opening_failed, answer_went_on, end_opened, end_refused}
use Rattle.fl_model.specs.Events.{DispatcherId}
use Rattle.fl_model.specs.Binding.{end_id}
use Rattle.fl_model.specs.State.{seats, binds_end}
use Rattle.fl_model.specs.Forwarding.{grants}
use Rattle.fl_base.specs.declared.identity.Side.TheVariants.{Server}
use Rattle.fl_core.specs.View.{server_of}
use Rattle.fl_core.specs.Sound.{IsCore}
use Rattle.std.specs.List.{push}
use Rattle.fl_base.specs.Given.{given}
use Rattle.fl_base.specs.Numbered.{link_id}
use Rattle.fl_model.specs.State.{place_in, Route, State, StepOutcome, answers, core_of, first_on, number_between, change_core, change_ring, change_route}
use Rattle.fl_model.specs.Forwarding.{LinkEnd, link_end, forwards_said, after_hearing, follows, takes_said, with_number, denies, passes_word}
use Rattle.fl_world_refines.specs.Fragments.{Streams, said_frag, message_of}
use Rattle.fl_world_refines.specs.FragmentLaws.{IsSaid}
use Rattle.fl_world_refines.specs.Cores.{MonitorShows}
use Rattle.fl_world_refines.specs.CoreLaws.{SameHeard, MayBeHeard, delivery, HearAgrees}
use Rattle.fl_world_refines.specs.Rings.{RingShows}
use Rattle.fl_world_refines.proofs.Hearing.{hear_agrees}
use Rattle.fl_world_refines.specs.View.{TheWorld, with_core, with_ring}
use Rattle.fl_world_refines.specs.ShowsState.{Carries, ShowsState, Shows}
use Rattle.fl_world_refines.specs.Linking.{incoming, HearsWith, HearsFirst, IsHeard, ThenRules, offers_in}
use Rattle.fl_world_refines.specs.Laws.{Agrees}
use Rattle.fl_world_refines.specs.Hearing.{IsMessage}
use Rattle.fl_world_refines.proofs.Frames.{RingFrame, MonitorFrame, RouteFrame, RouteStays}
use Rattle.fl_world_refines.proofs.PassingCores.{hears_keeps, left_as_it_was}
use Rattle.fl_world_refines.proofs.PassingLinkSides.{LinkedTo, end_at, link_side_at}
use Rattle.fl_world_refines.proofs.PassingLists.{set_twice, set_same, get_set, changed_twice, changed_not, get_changed, some_is, given_is}
use Rattle.fl_world_refines.proofs.PassingOnward.{taken_first}
use Rattle.fl_world_refines.proofs.PassingRings.{Showings, Over, over, side_takes, RingOf}
use Rattle.fl_world_refines.proofs.PassingWrites.{agrees_at, agrees_with, with_rings_like}

-- ---- what a core makes of a message, once it has taken it

-- the ring of the core's link, and its monitor, have changed
abbrev pub with_heard : TheWorld → ℕ → ℕ → TheDuo → TheCore → TheWorld
with_heard w core n d c = with_core (with_ring w n d) core c

abbrev pub heard_state : State → ℕ → ℕ → RingSide → Core → State
heard_state s core n side k = change_core core (λ c. k) (change_ring n (λ r. takes side (looks side r)) s)

-- the frames that are used
pub record HearFrames : Type 0 where
  pub ring : RingFrame
  pub monitor : MonitorFrame
  pub route : RouteFrame

-- ---- routes

more_numbers : (c : ℕ) → RouteStays (with_number c)
more_numbers c = record { cores = λ r. refl; service = λ r. refl; numbers = λ r a b n q. by r (place_in r.cores a) (place_in r.cores b) n q } where
  left : (xs : List ℕ) (k y z : ℕ) → slice_get xs k ≡ Some y → slice_get (push xs z) k ≡ Some y
  left [] k y z h = absurd (cc)
  left (x ∷ xs) zero y z h = h
  left (x ∷ xs) (suc k) y z h = left xs k y z h

  by : (r : Route) (p q : Option ℕ) (n : ℕ) → given p None (λ i. given q None λ j. slice_get r.numbers (min i j)) ≡ Some n
      → given p None (λ i. given q None λ j. slice_get (push r.numbers c) (min i j)) ≡ Some n
  by r None q n h = absurd (cc)
  by r (Some i) None n h = absurd (cc)
  by r (Some i) (Some j) n h = left r.numbers (min i j) n c h

pub same_numbers : (f : Route → Route) → ((r : Route) → (f r).cores ≡ r.cores) → ((r : Route) → (f r).service ≡ r.service) → ((r : Route) → (f r).numbers ≡ r.numbers) → RouteStays f
same_numbers f p z q = record {
  cores = p;
  service = z;
  numbers = λ r a b n h.
      ap (λ (cs : List ℕ). given (place_in cs a) None λ i. given (place_in cs b) None λ j. slice_get (f r).numbers (min i j)) (p r)
      ∙ ap (λ (ns : List ℕ). given (place_in r.cores a) None λ i. given (place_in r.cores b) None λ j. slice_get ns (min i j)) (q r) ∙ h;
}

module _ (law : Showings) (frame : HearFrames) (w : TheWorld) (s : State) (shows : Shows w s) (core neighbour l : ℕ) (link : Link)
    (t : LinkedTo w s core neighbour l link) (m : MonitorLabel) (frag : Frag) (msg : IsMessage s (end_at core neighbour l link) m frag) (x : RingOf w s link.ring.ring) (d1 : TheDuo)
    (pic : ShowsState (with_ring w link.ring.ring d1) (change_ring link.ring.ring (looks link.ring.side) s)) where
  abbrev pub here : LinkEnd
  here = end_at core neighbour l link

  abbrev pub n : ℕ
  n = link.ring.ring

  abbrev pub side : RingSide
  side = link.ring.side

  abbrev pub seen : State
  seen = change_ring n (looks side) s

  abbrev pub offers : Offers
  offers = offers_in (with_ring w n d1)

  abbrev pub known : Known
  known = known_for offers t.c (message_of m)

  -- what the machine's core makes of it
  abbrev pub comes : Hearing
  comes = hears s.services l m t.k

  said : IsSaid m
  said = law.said m msg.widths

  machine_is : forwards_said here m seen ≡ after_hearing here comes seen
  machine_is = given_is (core_of s core) _ _ t.k t.k_is

  shown : (streams : Streams) → Carries s n streams → RingShows streams (looks side x.ring) d1
  shown streams h = pic.rings.each n (looks side x.ring) d1 streams (get_changed s.rings n (looks side) x.ring x.ring_is) (get_set w.rings n x.duo d1 x.duo_is) h

  first_there : first_for side x.ring ≡ Some msg.first
  first_there = sym (given_is (slice_get s.rings n) None (first_for side) x.ring x.ring_is) ∙ msg.first_is

  module _ (may : MayBeHeard s.services l m t.k known.here) where
    agreed : (answer : Result MessageOutcome Rattle.fl_monitor.specs.declared.fault.MonitorFault.MonitorFault) (after : TheMonitor)
        → Hears known (link_id l) (message_of m) t.c.monitor answer after → HearAgrees known (delivery s.services l m t.k) answer after
    agreed answer after h = hear_agrees known (delivery s.services l m t.k) t.c.monitor after answer t.shows.monitor pic.names may h

    -- ---- a message that is taken

    module _ (o_side : DuoSide) (left : DuoSide) (lent : Rattle.fl_world_refines.specs.Lending.IsLent (Rattle.fl_world_refines.specs.View.side_number link.ring) d1 o_side)
        (takes_it : SideTakes o_side (found (bare frag)) left) (after : TheMonitor) (monitor_shows : MonitorShows comes.core after) where
      abbrev its_world : TheWorld
      its_world = with_heard w core n left.duo.now (with_monitor t.c after)

      abbrev its_state : State
      its_state = heard_state s core n side comes.core

      pub taken : ShowsState its_world its_state
      taken =
          let ring = taken_first law w s shows link.ring x msg.first (bare frag) d1 left.duo.now first_there shown (side_takes link.ring d1 o_side left _ lent takes_it) in
          frame.monitor (with_ring w n left.duo.now) (change_ring n (λ r. takes side (looks side r)) s) core t.c t.k (λ k. comes.core) after
          (frame.ring w s n x.ring (λ r. takes side (looks side r)) left.duo.now shows.showing x.ring_is ring) t.c_is t.k_is (hears_keeps s.services l m t.k) monitor_shows

      -- and a route then gets its number or its word
      pub turned : (b : ℕ) (f : Route → Route) → RouteStays f → ShowsState its_world (change_route b f its_state)
      turned b f stays = frame.route its_world its_state b f taken stays

      -- the same, as the machine comes to it
      pub in_turn : (b : ℕ) (f : Route → Route) → ShowsState its_world (change_route b f its_state)
          → ShowsState its_world (change_route b f (change_ring n (takes side) (change_core core (λ k. comes.core) seen)))
      in_turn b f h = with_rings_like its_world (change_route b f its_state) (changed_at n (takes side) (changed_at n (looks side) s.rings)) (sym (changed_twice s.rings n (takes side) (looks side))) h

      -- the machine's ring is taken from once for the look and once for the take
      world_is : (v : TheWorld) (k2 : TheCore) → v ≡ with_ring (with_core (with_ring w n d1) core k2) n left.duo.now → k2 ≡ with_monitor t.c after → v ≡ its_world
      world_is v k2 rest q =
          rest ∙ ap (λ (c : TheCore). with_ring (with_core (with_ring w n d1) core c) n left.duo.now) q
          ∙ ap (λ (ds : List TheDuo). record w { cores = slice_set w.cores core (with_monitor t.c after); rings = ds }) (set_twice w.rings n d1 left.duo.now)

      pub goes_by : (v : TheWorld) (k2 : TheCore) (a : Answer) (h : MachineHeard) (b : ℕ) (f : Route → Route) (answer : Answer) → comes.heard ≡ h
          → follows h (takes_said here.ring h (change_core core (λ k. comes.core) seen)) ≡ answers (change_route b f (change_ring n (takes side) (change_core core (λ k. comes.core) seen))) answer
          → RouteStays f → v ≡ with_ring (with_core (with_ring w n d1) core k2) n left.duo.now → k2 ≡ with_monitor t.c after → answer ≡ a
          → Agrees (forwards_said here m seen) a v
      goes_by v k2 a h b f answer is by stays rest q same =
          agrees_at _ _ a v
          (machine_is ∙ ap (λ (y : MachineHeard). follows y (takes_said here.ring y (change_core core (λ k. comes.core) seen))) is ∙ by)
          (agrees_with _ answer a _ v same (world_is v k2 rest q) (in_turn b f (turned b f stays)))

    -- ---- an end that is opened or made: what the world comes to, beside the ring that is taken from

    abbrev pub EndOpens : DuoSide → TheMonitor → Type 0
    EndOpens left after =
        IsCore t.c → (e : EndId) (c : Circuit) (k2 : TheCore) (v : TheWorld) → comes.heard ≡ end_opened e c.0
        → BindsIf (arriving_at (with_monitor t.c after) e) c (with_monitor t.c after) k2
        → ThenRules (Ok (told.Opened e)) (with_heard w core n left.duo.now k2) v
        → ShowsState (with_heard w core n left.duo.now (with_monitor t.c after)) (heard_state s core n side comes.core)
        → ShowsState v (binds_end e c.0 (change_route e.binding passes_word (heard_state s core n side comes.core)))

    -- with the rules that were set for it
    abbrev pub ServerIsMade : DuoSide → TheMonitor → Type 0
    ServerIsMade left after =
        IsCore t.c → (b dispatcher : ℕ) (c : Circuit) (d : DispatcherId) (k2 : TheCore) (v : TheWorld) → IsCore k2 → comes.heard ≡ server_made b d c.0 → dispatcher ≡ d.place
        → MakesServer (offering offers.programs (offer_for offers t.c (message_of m)) (link_id l)) b dispatcher c (with_monitor t.c after) k2
        → ThenRules (Ok (told.Opened (server_of b))) (with_heard w core n left.duo.now k2) v
        → ShowsState (with_heard w core n left.duo.now (with_monitor t.c after)) (heard_state s core n side comes.core)
        → ShowsState v (binds_end (end_id b Server) c.0 (seats d (end_id b Server) (change_route b grants (heard_state s core n side comes.core))))

    module _ (not_misrouted : IsMisrouted known t.k.circuits (link_id l) (message_of m) → ⊥)
        (opens : (left : DuoSide) (after : TheMonitor) → MonitorShows comes.core after → EndOpens left after)
        (makes : (left : DuoSide) (after : TheMonitor) → MonitorShows comes.core after → ServerIsMade left after)
        (a : Answer) (w2 first_world : TheWorld) (r : Result MonitorAnswer LinkReceiveFault)
        (o : Over (with_ring w n d1) core link.ring t.c d1 (HearsWith (incoming offers (link_id l) frag) r) first_world) where
      same_message : (n : MonitorMessage) → Says frag n → n ≡ message_of m
      same_message n h = said.only frag n msg.frag_is h

      -- no room in the outbox that is needed
      left_alone : (n2 : MonitorMessage) → Says frag n2 → Hears (known_for offers t.c n2) (link_id l) n2 t.c.monitor (Err monitor.OutboxFull) t.c.monitor → o.after ≡ t.c → o.left ≡ o.side
          → a ≡ full → w2 ≡ first_world → Agrees (forwards_said here m seen) a w2
      left_alone n2 says_it h after side_is answer rest =
          let full_is = agreed (Err monitor.OutboxFull) t.c.monitor
          (subst (λ (y : MonitorMessage). Hears (known_for offers t.c y) (link_id l) y t.c.monitor (Err monitor.OutboxFull) t.c.monitor) (same_message n2 says_it) h) in
          let core_is : comes.core ≡ t.k = left_as_it_was s.services l m t.k full_is.0 in
          let cores : changed_at core (λ (k : Core). comes.core) s.cores ≡ s.cores = changed_not s.cores core (λ k. comes.core) t.k t.k_is core_is in
          let ring_is : o.left.duo.now ≡ d1 = ap (λ (p : DuoSide). p.duo.now) side_is ∙ o.lent.ring in
          agrees_at _ _ a w2
          (machine_is ∙ ap (λ (y : MachineHeard). follows y (takes_said here.ring y (change_core core (λ k. comes.core) seen))) full_is.0
          ∙ ap (λ (ks : List Core). answers (record seen { cores = ks }) full) cores)
          (agrees_with seen full a _ w2 (sym answer)
          (rest ∙ o.rest
          ∙ ap (λ (c : TheCore). with_ring (with_core (with_ring w n d1) core c) n o.left.duo.now) after
          ∙ ap (λ (d : TheDuo). with_ring (with_core (with_ring w n d1) core t.c) n d) ring_is
          ∙ ap (λ (ds : List TheDuo). record w { cores = slice_set w.cores core t.c; rings = ds }) (set_twice w.rings n d1 d1)
          ∙ ap (λ (cs : List TheCore). record w { cores = cs; rings = slice_set w.rings n d1 }) (set_same w.cores core t.c t.c_is)) pic)

      -- by what the machine's core and the monitor tell
      module _ (after : TheMonitor) (monitor_shows : MonitorShows comes.core after) (takes_it : SideTakes o.side (found (bare frag)) o.left) where
        base : ShowsState (with_heard w core n o.left.duo.now (with_monitor t.c after)) (heard_state s core n side comes.core)
        base = taken o.side o.left o.lent takes_it after monitor_shows

        first_is : first_world ≡ with_heard w core n o.left.duo.now o.after
        first_is = o.rest ∙ ap (λ (ds : List TheDuo). record w { cores = slice_set w.cores core o.after; rings = ds }) (set_twice w.rings n d1 o.left.duo.now)

        goes_as : (h : MachineHeard) (b : ℕ) (f : Route → Route) (answer : Answer) → comes.heard ≡ h
            → follows h (takes_said here.ring h (change_core core (λ k. comes.core) seen)) ≡ answers (change_route b f (change_ring n (takes side) (change_core core (λ k. comes.core) seen))) answer
            → RouteStays f → w2 ≡ first_world → o.after ≡ with_monitor t.c after → answer ≡ a → Agrees (forwards_said here m seen) a w2
        goes_as h b f answer is by stays rest q same =
            goes_by o.side o.left o.lent takes_it after monitor_shows w2 o.after a h b f answer is by stays (rest ∙ o.rest) q same

        two_rings : heard_state s core n side comes.core ≡ change_ring n (takes side) (change_core core (λ k. comes.core) seen)
        two_rings = ap (λ (rs : List Ring). record (change_core core (λ (k : Core). comes.core) s) { rings = rs }) (sym (changed_twice s.rings n (takes side) (looks side)))

        by_heard : (answer : MonitorAnswer) → IsHeard (Ok answer) a → ThenRules (Ok answer) first_world w2 → (machine : MachineHeard) → comes.heard ≡ machine
            → (h : MessageOutcome) → SameHeard machine h → Follows (offering offers.programs (offer_for offers t.c (message_of m)) (link_id l)) h (with_monitor t.c after) answer o.after
            → Agrees (forwards_said here m seen) a w2
        by_heard answer its rules (opening_went_on b c) is (heard.OpeningWentOn binding lk circuit) same does =
            goes_as (opening_went_on b c) b (with_number c) done is refl (more_numbers c) (subst (λ (y : MonitorAnswer). ThenRules (Ok y) first_world w2) does.0 rules) does.1
            (sym (subst (λ (y : MonitorAnswer). IsHeard (Ok y) a) does.0 its))
        by_heard answer its rules (opening_failed b why) is (heard.OpeningFailed binding reason) same does =
            goes_as (opening_failed b why) b (denies why) done is refl (same_numbers (denies why) (λ r. refl) (λ r. refl) (λ r. refl)) (subst (λ (y : MonitorAnswer). ThenRules (Ok y) first_world w2) does.0 rules) does.1
            (sym (subst (λ (y : MonitorAnswer). IsHeard (Ok y) a) does.0 its))
        by_heard answer its rules (answer_went_on b) is (heard.AnswerWentOn binding lk circuit) same does =
            goes_as (answer_went_on b) b passes_word done is refl (same_numbers passes_word (λ r. refl) (λ r. refl) (λ r. refl)) (subst (λ (y : MonitorAnswer). ThenRules (Ok y) first_world w2) does.0 rules) does.1
            (sym (subst (λ (y : MonitorAnswer). IsHeard (Ok y) a) does.0 its))
        by_heard answer its rules (end_refused e why) is (heard.EndRefused end reason) same does =
            goes_as (end_refused e why) e.binding passes_word (opening_refused why e) is refl (same_numbers passes_word (λ r. refl) (λ r. refl) (λ r. refl))
            (subst (λ (y : MonitorAnswer). ThenRules (Ok y) first_world w2) does.0 rules) does.1
            (sym (subst (λ (y : MonitorAnswer). IsHeard (Ok y) a) does.0 its ∙ ap (λ (y : ℕ). opening_refused y end) same.1 ∙ ap (opening_refused why) same.0))
        by_heard answer its rules (end_opened e c) is (heard.EndOpened end circuit) same does =
            let which : comes.heard ≡ end_opened end circuit.0 = is ∙ ap (λ (y : EndId). end_opened y c) (sym same.0) ∙ ap (end_opened end) (sym same.1) in
            let brings : ThenRules (Ok (told.Opened end)) (with_heard w core n o.left.duo.now o.after) w2 =
            subst (λ (v : TheWorld). ThenRules (Ok (told.Opened end)) v w2) first_is (subst (λ (y : MonitorAnswer). ThenRules (Ok y) first_world w2) does.0 rules) in
            agrees_at _ _ a w2
            (machine_is ∙ ap (λ (y : MachineHeard). follows y (takes_said here.ring y (change_core core (λ k. comes.core) seen))) which)
            (record {
              answer = sym (subst (λ (y : MonitorAnswer). IsHeard (Ok y) a) does.0 its);
              showing = subst (λ (z : State). ShowsState w2 (binds_end end circuit.0 (change_route end.binding passes_word z))) two_rings (opens o.left after monitor_shows o.whole.core end circuit o.after w2 which does.1 brings base);
            })
        by_heard answer its rules (server_made b d c) is (heard.ServerMade binding dispatcher circuit) same does =
            let which : comes.heard ≡ server_made binding d circuit.0 = is ∙ ap (λ (y : ℕ). server_made y d c) (sym same.0) ∙ ap (server_made binding d) (sym same.2) in
            let brings : ThenRules (Ok (told.Opened (server_of binding))) (with_heard w core n o.left.duo.now o.after) w2 =
            subst (λ (v : TheWorld). ThenRules (Ok (told.Opened (server_of binding))) v w2) first_is (subst (λ (y : MonitorAnswer). ThenRules (Ok y) first_world w2) does.0 rules) in
            agrees_at _ _ a w2
            (machine_is ∙ ap (λ (y : MachineHeard). follows y (takes_said here.ring y (change_core core (λ k. comes.core) seen))) which)
            (record {
              answer = sym (subst (λ (y : MonitorAnswer). IsHeard (Ok y) a) does.0 its);
              showing = subst (λ (z : State). ShowsState w2 (binds_end (end_id binding Server) circuit.0 (seats d (end_id binding Server) (change_route binding grants z)))) two_rings
                  (makes o.left after monitor_shows o.whole.core binding dispatcher circuit d o.after w2 o.still.core which same.1 does.1 brings base);
            })
        by_heard answer its rules machine is h same does = absurd same

      heard_all : (answer : MonitorAnswer) (n2 : MonitorMessage) → Says frag n2 → HearsAll offers (link_id l) n2 t.c answer o.after → SideTakes o.side (found (bare frag)) o.left
          → IsHeard (Ok answer) a → ThenRules (Ok answer) first_world w2 → Agrees (forwards_said here m seen) a w2
      heard_all answer n2 says_it h takes_it its rules =
          let all : HearsAll offers (link_id l) (message_of m) t.c answer o.after = subst (λ (y : MonitorMessage). HearsAll offers (link_id l) y t.c answer o.after) (same_message n2 says_it) h in
          let both = agreed (Ok all.heard) all.monitor all.hears in
          by_heard all.monitor both.1 takes_it answer its rules comes.heard refl all.heard both.0 all.follows

      -- it says a message, so it isn't refused
      not_wiring : (why : WireFault) → HearsFrag offers (link_id l) frag t.c (Err (fault.Wire why)) o.after → ⊥
      not_wiring wiring.Memory h = h
      not_wiring why h = absurd (not_wrong frag (message_of m) (said.read frag msg.frag_is) h.0.1)

      by_told : (e : Result MonitorAnswer LinkReceiveFault) → HearsFrag offers (link_id l) frag t.c e o.after → TakesHeard SideTakes frag o.side e o.left → IsHeard e a → ThenRules e first_world w2
          → Agrees (forwards_said here m seen) a w2
      by_told (Ok told.Full) h takes_it its rules = left_alone h.0 h.1 h.2.0 h.2.1 takes_it its rules
      by_told (Ok told.Done) h takes_it its rules = heard_all told.Done h.0 h.1 h.2 takes_it its rules
      by_told (Ok (told.Opened e)) h takes_it its rules = heard_all (told.Opened e) h.0 h.1 h.2 takes_it its rules
      by_told (Ok (told.OpeningRefused e why)) h takes_it its rules = heard_all (told.OpeningRefused e why) h.0 h.1 h.2 takes_it its rules
      by_told (Err (fault.Wire why)) h takes_it its rules = absurd (not_wiring why h)
      by_told (Err fault.Memory) h takes_it its rules = absurd its
      by_told (Err fault.Misrouted) h takes_it its rules =
          let no : IsMisrouted (known_for offers t.c (message_of m)) t.k.circuits (link_id l) (message_of m) × MonitorShows t.k t.c.monitor =
          agreed (Err monitor.Misrouted) t.c.monitor
          (subst (λ (y : MonitorMessage). Hears (known_for offers t.c y) (link_id l) y t.c.monitor (Err monitor.Misrouted) t.c.monitor) (same_message h.0 h.1) h.2.0) in
          absurd (not_misrouted no.0)
      by_told (Err other) h takes_it its rules = absurd h.2

      pub heard_agrees : IsHeard r a → ThenRules r first_world w2 → Agrees (forwards_said here m seen) a w2
      heard_agrees its rules = by_told r o.event.0 o.event.1 its rules
