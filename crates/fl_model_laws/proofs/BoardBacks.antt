-- A core that hears an answer leaves a board that fits; and so one that hears any message.
use Rattle.std.proofs.Common.{◌≡◌, refl, sym, ◌∙◌, ap, subst, ℕ, zero, suc, ◌+◌, ◌<◌, ◌≤◌, true}
use Rattle.std.proofs.Common.{length, map, Some, None, arith}
use Rattle.fl_base.specs.declared.identity.EndId.{EndId}
use Rattle.fl_base.specs.declared.identity.LinkId.{LinkId}
use Rattle.fl_base.specs.declared.identity.Circuit.{Circuit}
use Rattle.fl_base.specs.declared.identity.Side.TheVariants.{Client}
use Rattle.fl_base.specs.Given.{given}
use Rattle.fl_base.specs.Numbered.{link_id, circuit_id}
use Rattle.fl_hop.specs.declared.entry.HopTarget.{HopTarget}
use Rattle.fl_hop.specs.declared.entry.HopTarget.TheVariants.{Link as to_link, End as to_end}
use Rattle.fl_hop.specs.declared.entry.Hop.{Hop}
use Rattle.fl_hop.specs.Table.{hop_at, link_of, with_entry, without_entry}
use Rattle.fl_hop.specs.Openings.{answered}
use Rattle.fl_hop.proofs.Cells.{same_circuit, same_link}
use Rattle.fl_model.specs.Given.{changed_at}
use Rattle.fl_model.specs.Rings.{OpeningLabel, MonitorLabel, open_circuit, circuit_opened, circuit_refused, says, RingLabel, takes}
use Rattle.fl_model.specs.Monitors.{Core, says_more, hears_opened, hears_refused, hears, with_said, with_circuits}
use Rattle.fl_model.specs.State.{OpeningVerdict, undecided, granted, denied, Route, State, core_of, change_core, change_ring, change_route, first_on}
use Rattle.fl_model.specs.Binding.{end_id}
use Rattle.fl_model.specs.Forwarding.{LinkEnd, after_hearing, passes_word}
use Rattle.fl_model.specs.Standing.{core_at, number_at, standing, standing_by, Message, back_to, due_by, due_message}
use Rattle.fl_model.specs.SoundRoutes.{VerdictFits}
use Rattle.fl_model.specs.SoundEntries.{near_key, behind}
use Rattle.fl_model_laws.proofs.Cases.{by_given}
use Rattle.fl_model_laws.proofs.Views.{Part, part_of, view}
use Rattle.fl_model_laws.proofs.Quiet.{quiet_binds}
use Rattle.fl_model_laws.proofs.Walk.{IsHere}
use Rattle.fl_model_laws.proofs.Hearing.{OpenedDue, opened_due}
use Rattle.fl_model_laws.proofs.Boards.{Says, IsRoute, Stands, message, some_is}
use Rattle.fl_model_laws.proofs.BoardSteps.{next_place}
use Rattle.fl_model_laws.proofs.BoardViews.{place_in, route_in, board}
use Rattle.fl_model_laws.proofs.BoardCores.{was_at}
use Rattle.fl_model_laws.proofs.BoardHears.{Whole, HeardAt, heard_view}
use Rattle.fl_model_laws.proofs.BoardAnswers.{AnswersAt, opened_part, opened_fits, refused_part, refused_fits, opened_on, opened_on_fits, refused_on, refused_on_fits}
use Rattle.fl_model_laws.proofs.BoardQuiet.{After}
use Rattle.fl_model_laws.proofs.BoardHeard.{Hearer, hearer, HearFits, taken_view, left_view, said_or_left, has_head, opening_heard}
use Rattle.fl_model_laws.proofs.Small.{some_same}

-- ---- what an answer comes to

-- the entry that leads back from core i of the route
record BackFrom (s : State) (k : Core) (n : ℕ) (route : Route) (i l c : ℕ) (hop : Hop) : Type 0 where
  binding : hop.binding ≡ n
  way : Says (board (view s)) (core_at route i) hop.way (behind n route i)
  number : c ≡ number_at route i

back_from : (s : State) (here : LinkEnd) (m : MonitorLabel) (k : Core) (n : ℕ) (route : Route) (i c : ℕ) (hop : Hop) → Hearer s here m k
    → AnswersAt (view s) n route i here.link here.ring m (part_of k) → c ≡ number_at route i → hop_at k.circuits here.link c ≡ Some hop → BackFrom s k n route i here.link c hop
back_from s here m k n route i c hop h o e q =
    let stands : Stands (board (view s)) (near_key route i) n (behind n route i) = (h.whole.known.fits.stand n route o.was).near i o.stands o.within in
    let there : hop_at k.circuits here.link (number_at route i) ≡ Some stands.hop =
    was_at (map part_of s.cores) (core_at route i) (core_at route (i + 1)) (number_at route i) here.link (part_of k) (Some stands.hop) o.at.part_is o.at.to stands.there in
    let same : stands.hop ≡ hop = some_is (hop_at k.circuits here.link (number_at route i)) stands.hop hop there (ap (hop_at k.circuits here.link) (sym e) ∙ q) in
    record {
      binding = ap (λ (x : Hop). x.binding) (sym same) ∙ stands.binding_is;
      way = subst (λ (x : Hop). Says (board (view s)) (core_at route i) x.way (behind n route i)) same stands.way;
      number = e;
    }

at_core : (here : LinkEnd) (s : State) (route : Route) (n i : ℕ) (q : Part) → here.core ≡ core_at route i → After (heard_view (view s) (core_at route i) q here.ring n passes_word)
    → After (heard_view (view s) here.core q here.ring n passes_word)
at_core here s route n i q e good = subst (λ (c : ℕ). After (heard_view (view s) c q here.ring n passes_word)) (sym e) good

-- the core's part, by what the entry says
abbrev marked_part : Core → ℕ → ℕ → HopTarget → ℕ → Part
marked_part k l b way c = record { circuits = with_entry k.circuits b true way (to_link (link_id l) (circuit_id c)); links = k.links }

abbrev marked_on : Core → ℕ → ℕ → HopTarget → ℕ → ℕ → ℕ → Part
marked_on k l b way c next e =
    record { circuits = with_entry k.circuits b true way (to_link (link_id l) (circuit_id c)); links = changed_at next (says_more (circuit_opened e)) k.links }

abbrev removed_part : Core → ℕ → HopTarget → ℕ → Part
removed_part k l way c = record { circuits = without_entry k.circuits (to_link (link_id l) (circuit_id c)) way; links = k.links }

abbrev removed_on : Core → ℕ → HopTarget → ℕ → ℕ → ℕ → ℕ → Part
removed_on k l way c next e fault =
    record { circuits = without_entry k.circuits (to_link (link_id l) (circuit_id c)) way; links = changed_at next (says_more (circuit_refused e fault)) k.links }

link_way : (m : LinkId) (d : Circuit) (next e : ℕ) → m.0 ≡ next → d.0 ≡ e → to_link m d ≡ to_link (link_id next) (circuit_id e)
link_way m d next e p q =
    ap (λ (x : LinkId). to_link x d) (same_link m (link_id next) p) ∙ ap (λ (x : Circuit). to_link (link_id next) x) (same_circuit d (circuit_id e) q)

module _ (here : LinkEnd) (k : Core) (s : State) (n : ℕ) (route : Route) (i c : ℕ) (m : MonitorLabel) (h : Hearer s here m k)
    (o : AnswersAt (view s) n route i here.link here.ring m (part_of k)) (to_is : here.core ≡ core_at route i) (hop : Hop)
    (b : BackFrom s k n route i here.link c hop) where
  place_link : (j l : ℕ) → place_in (map part_of s.cores) (core_at route i) (core_at route j) ≡ Some l → link_of k.circuits (core_at route j) ≡ Some l
  place_link j l q = sym (ap (λ x. given x None (λ (y : Part). link_of y.circuits (core_at route j))) o.at.part_is) ∙ q

  -- the circuit is open

  opened_by : route.verdict ≡ granted (suc i) → (way : HopTarget) → hop.way ≡ way → HearFits here s (hears_opened here.link c hop way k)
  opened_by verdict (to_end e) is = by i refl (subst (λ (w : HopTarget). Says (board (view s)) (core_at route i) w (behind n route i)) is b.way)
    where
      by : (x : ℕ) → i ≡ x → Says (board (view s)) (core_at route i) (to_end e) (behind n route x) → HearFits here s (hears_opened here.link c hop (to_end e) k)
      by (suc x) f g = absurd g
      by zero f g =
          let its : e.binding ≡ n = ap (λ (x : EndId). x.binding) g in
          let same : marked_part k here.link hop.binding hop.way c ≡ marked_part k here.link n (to_end (end_id n Client)) (number_at route i) =
          ap (λ (x : ℕ). marked_part k here.link x hop.way c) b.binding
          ∙ ap (λ (x : HopTarget). marked_part k here.link n x c) (is ∙ ap (λ (x : EndId). to_end x) g)
          ∙ ap (λ (x : ℕ). marked_part k here.link n (to_end (end_id n Client)) x) b.number in
          subst After (sym (quiet_binds e c (change_route e.binding passes_word
          (change_ring here.ring.ring (takes here.ring.side) (change_core here.core (λ y. with_circuits (answered k.circuits (link_id here.link) (circuit_id c) hop) k) s)))
          ∙ taken_view here m k (with_circuits (answered k.circuits (link_id here.link) (circuit_id c) hop) k) s e.binding passes_word h))
          (subst (λ (x : ℕ). After (heard_view (view s) here.core (marked_part k here.link hop.binding hop.way c) here.ring x passes_word)) (sym its)
          (subst (λ (q : Part). After (heard_view (view s) here.core q here.ring n passes_word)) (sym same)
          (at_core here s route n i (opened_part (view s) h.whole n route i here.link here.ring m (part_of k) o) to_is
          (opened_fits (view s) h.whole n route i here.link here.ring m (part_of k) o f verdict))))
  opened_by verdict (to_link a d) is = by i refl (subst (λ (w : HopTarget). Says (board (view s)) (core_at route i) w (behind n route i)) is b.way)
    where
      by : (x : ℕ) → i ≡ x → Says (board (view s)) (core_at route i) (to_link a d) (behind n route x) → HearFits here s (hears_opened here.link c hop (to_link a d) k)
      by zero f g = absurd g
      by (suc j) f g =
          let to : link_of k.circuits (core_at route j) ≡ Some a.0 = place_link j a.0 g.0 in
          let same : marked_on k here.link hop.binding hop.way c a.0 d.0 ≡ marked_on k here.link n (to_link (link_id a.0) (circuit_id (number_at route j))) (number_at route i) a.0 (number_at route j) =
          ap (λ (x : ℕ). marked_on k here.link x hop.way c a.0 d.0) b.binding
          ∙ ap (λ (x : HopTarget). marked_on k here.link n x c a.0 d.0) (is ∙ link_way a d a.0 (number_at route j) refl g.1)
          ∙ ap (λ (x : ℕ). marked_on k here.link n (to_link (link_id a.0) (circuit_id (number_at route j))) x a.0 d.0) b.number
          ∙ ap (λ (x : ℕ). marked_on k here.link n (to_link (link_id a.0) (circuit_id (number_at route j))) (number_at route i) a.0 x) g.1 in
          said_or_left here m k s a.0 _ _ _ h
          (subst After (sym (taken_view here m k (with_said a.0 (circuit_opened d.0) (with_circuits (answered k.circuits (link_id here.link) (circuit_id c) hop) k)) s hop.binding passes_word h))
          (subst (λ (x : ℕ). After (heard_view (view s) here.core (marked_on k here.link hop.binding hop.way c a.0 d.0) here.ring x passes_word)) (sym b.binding)
          (subst (λ (q : Part). After (heard_view (view s) here.core q here.ring n passes_word)) (sym same)
          (at_core here s route n i (opened_on (view s) h.whole n route i here.link here.ring m (part_of k) o j a.0 (sym f) to) to_is
          (opened_on_fits (view s) h.whole n route i here.link here.ring m (part_of k) o j a.0 (sym f) to verdict)))))

  -- it is refused

  refused_by : (fault : ℕ) → route.verdict ≡ denied (suc i) fault → (way : HopTarget) → hop.way ≡ way → HearFits here s (hears_refused here.link c fault hop way k)
  refused_by fault verdict (to_end e) is = by i refl (subst (λ (w : HopTarget). Says (board (view s)) (core_at route i) w (behind n route i)) is b.way)
    where
      by : (x : ℕ) → i ≡ x → Says (board (view s)) (core_at route i) (to_end e) (behind n route x) → HearFits here s (hears_refused here.link c fault hop (to_end e) k)
      by (suc x) f g = absurd g
      by zero f g =
          let its : e.binding ≡ n = ap (λ (x : EndId). x.binding) g in
          let same : removed_part k here.link hop.way c ≡ removed_part k here.link (to_end (end_id n Client)) (number_at route i) =
          ap (λ (x : HopTarget). removed_part k here.link x c) (is ∙ ap (λ (x : EndId). to_end x) g)
          ∙ ap (λ (x : ℕ). removed_part k here.link (to_end (end_id n Client)) x) b.number in
          subst After (sym (taken_view here m k (with_circuits (without_entry k.circuits (to_link (link_id here.link) (circuit_id c)) hop.way) k) s e.binding passes_word h))
          (subst (λ (x : ℕ). After (heard_view (view s) here.core (removed_part k here.link hop.way c) here.ring x passes_word)) (sym its)
          (subst (λ (q : Part). After (heard_view (view s) here.core q here.ring n passes_word)) (sym same)
          (at_core here s route n i (refused_part (view s) h.whole n route i here.link here.ring m (part_of k) o) to_is
          (refused_fits (view s) h.whole n route i here.link here.ring m (part_of k) o fault f verdict))))
  refused_by fault verdict (to_link a d) is = by i refl (subst (λ (w : HopTarget). Says (board (view s)) (core_at route i) w (behind n route i)) is b.way)
    where
      by : (x : ℕ) → i ≡ x → Says (board (view s)) (core_at route i) (to_link a d) (behind n route x) → HearFits here s (hears_refused here.link c fault hop (to_link a d) k)
      by zero f g = absurd g
      by (suc j) f g =
          let to : link_of k.circuits (core_at route j) ≡ Some a.0 = place_link j a.0 g.0 in
          let same : removed_on k here.link hop.way c a.0 d.0 fault ≡ removed_on k here.link (to_link (link_id a.0) (circuit_id (number_at route j))) (number_at route i) a.0 (number_at route j) fault =
          ap (λ (x : HopTarget). removed_on k here.link x c a.0 d.0 fault) (is ∙ link_way a d a.0 (number_at route j) refl g.1)
          ∙ ap (λ (x : ℕ). removed_on k here.link (to_link (link_id a.0) (circuit_id (number_at route j))) x a.0 d.0 fault) b.number
          ∙ ap (λ (x : ℕ). removed_on k here.link (to_link (link_id a.0) (circuit_id (number_at route j))) (number_at route i) a.0 x fault) g.1 in
          said_or_left here m k s a.0 _ _ _ h
          (subst After (sym (taken_view here m k
          (with_said a.0 (circuit_refused d.0 fault) (with_circuits (without_entry k.circuits (to_link (link_id here.link) (circuit_id c)) hop.way) k)) s hop.binding passes_word h))
          (subst (λ (x : ℕ). After (heard_view (view s) here.core (removed_on k here.link hop.way c a.0 d.0 fault) here.ring x passes_word)) (sym b.binding)
          (subst (λ (q : Part). After (heard_view (view s) here.core q here.ring n passes_word)) (sym same)
          (at_core here s route n i (refused_on (view s) h.whole n route i here.link here.ring m (part_of k) o j a.0 (sym f) to fault) to_is
          (refused_on_fits (view s) h.whole n route i here.link here.ring m (part_of k) o j a.0 (sym f) to fault verdict)))))

  answer_opened : route.verdict ≡ granted (suc i) → HearFits here s (hears_opened here.link c hop hop.way k)
  answer_opened verdict = opened_by verdict hop.way refl

  answer_refused : (fault : ℕ) → route.verdict ≡ denied (suc i) fault → HearFits here s (hears_refused here.link c fault hop hop.way k)
  answer_refused fault verdict = refused_by fault verdict hop.way refl

-- ---- which answer is due

record RefusedDue (route : Route) (from to c fault : ℕ) : Type 0 where
  waiting : ℕ
  verdict : route.verdict ≡ denied (suc waiting) fault
  from_is : from ≡ core_at route (suc waiting)
  to_is : to ≡ core_at route waiting
  number : c ≡ number_at route waiting

refused_same : (a b c d : ℕ) → circuit_refused a b ≡ circuit_refused c d → (a ≡ c) × (b ≡ d)
refused_same a b c d h = ((let e : a ≡ c = cc in e), (let e : b ≡ d = cc in e))

not_refused : (o : OpeningLabel) (a b : ℕ) → open_circuit o ≡ circuit_refused a b → ⊥
not_refused o a b h = absurd (cc)

opened_refused : (c a b : ℕ) → circuit_opened c ≡ circuit_refused a b → ⊥
opened_refused c a b h = absurd (cc)

refused_due : (n : ℕ) (route : Route) (from to c fault : ℕ) (v : OpeningVerdict) → route.verdict ≡ v
    → due_by n route v ≡ Some (message from to (circuit_refused c fault)) → RefusedDue route from to c fault
refused_due n route from to c fault undecided e h = absurd (not_refused _ c fault (ap (λ (m : Message). m.said) (some_same _ _ h)))
refused_due n route from to c fault (granted zero) e h = absurd (cc)
refused_due n route from to c fault (granted (suc i)) e h = absurd (opened_refused _ c fault (ap (λ (m : Message). m.said) (some_same _ _ h)))
refused_due n route from to c fault (denied zero other) e h = absurd (cc)
refused_due n route from to c fault (denied (suc i) other) e h =
    let same : back_to route i (circuit_refused (number_at route i) other) ≡ message from to (circuit_refused c fault) = some_same _ _ h in
    let numbers = refused_same (number_at route i) other c fault (ap (λ (m : Message). m.said) same) in
    record {
      waiting = i;
      verdict = e ∙ ap (λ (x : ℕ). denied (suc i) x) numbers.1;
      from_is = sym (ap (λ (m : Message). m.from) same);
      to_is = sym (ap (λ (m : Message). m.to) same);
      number = sym numbers.0;
    }

answers_at : (s : State) (here : LinkEnd) (m : MonitorLabel) (k : Core) (n : ℕ) (route : Route) (i : ℕ) → Hearer s here m k → route_in (view s).backs n ≡ Some route
    → due_message n route ≡ Some (message here.neighbour here.core m) → here.neighbour ≡ core_at route (suc i) → here.core ≡ core_at route i
    → i < length route.numbers → i < standing route → AnswersAt (view s) n route i here.link here.ring m (part_of k)
answers_at s here m k n route i h was due from to inside stands =
    let near : here.neighbour ≡ core_at route (i + 1) = from ∙ sym (next_place route i) in
    record {
      was = was;
      within = inside;
      stands = stands;
      at = subst (λ (c : ℕ). HeardAt (view s) c (core_at route (i + 1)) here.link here.ring m (part_of k)) to
          (subst (λ (c : ℕ). HeardAt (view s) here.core c here.link here.ring m (part_of k)) near h.heard);
      due = due ∙ ap (λ (c : ℕ). Some (message c here.core m)) near ∙ ap (λ (c : ℕ). Some (message (core_at route (i + 1)) c m)) to;
    }

opened_heard : (here : LinkEnd) (c : ℕ) (k : Core) (s : State) → Hearer s here (circuit_opened c) k → HearFits here s (hears s.services here.link (circuit_opened c) k)
opened_heard here c k s h =
    let m : MonitorLabel = circuit_opened c in
    let (n, (route, (was, due))) = h.whole.known.fits.messages here.neighbour here.core m (has_head s here m k h) in
    let is : OpenedDue route (message here.neighbour here.core m) c = opened_due n route here.neighbour here.core c route.verdict refl due in
    let r : IsRoute route = h.whole.known.routes n route was in
    let fits : VerdictFits route (granted (suc is.waiting)) = subst (VerdictFits route) is.verdict r.verdict in
    let whole : length route.numbers + 1 ≡ length route.cores = fits.0 in
    let below : suc is.waiting ≤ length route.numbers = fits.1 in
    let stands : standing route ≡ length route.cores = ap (standing_by route) is.verdict in
    let o = answers_at s here m k n route is.waiting h was due is.from is.to (omega arith) (omega arith) in
    by_given (HearFits here s) (hop_at k.circuits here.link c) _ _ (left_view here m k s h)
    (λ hop q. answer_opened here k s n route is.waiting c m h o is.to hop (back_from s here m k n route is.waiting c hop h o is.number q) is.verdict)

refused_heard : (here : LinkEnd) (c fault : ℕ) (k : Core) (s : State) → Hearer s here (circuit_refused c fault) k
    → HearFits here s (hears s.services here.link (circuit_refused c fault) k)
refused_heard here c fault k s h =
    let m : MonitorLabel = circuit_refused c fault in
    let (n, (route, (was, due))) = h.whole.known.fits.messages here.neighbour here.core m (has_head s here m k h) in
    let is : RefusedDue route here.neighbour here.core c fault = refused_due n route here.neighbour here.core c fault route.verdict refl due in
    let r : IsRoute route = h.whole.known.routes n route was in
    let below : suc is.waiting ≤ length route.numbers = subst (VerdictFits route) is.verdict r.verdict in
    let stands : standing route ≡ suc is.waiting = ap (standing_by route) is.verdict in
    let o = answers_at s here m k n route is.waiting h was due is.from_is is.to_is (omega arith) (omega arith) in
    by_given (HearFits here s) (hop_at k.circuits here.link c) _ _ (left_view here m k s h)
    (λ hop q. answer_refused here k s n route is.waiting c m h o is.to_is hop (back_from s here m k n route is.waiting c hop h o is.number q) fault is.verdict)

said_heard : (here : LinkEnd) (m : MonitorLabel) (k : Core) (s : State) → Hearer s here m k → HearFits here s (hears s.services here.link m k)
said_heard here (open_circuit o) k s h = opening_heard here o k s h
said_heard here (circuit_opened c) k s h = opened_heard here c k s h
said_heard here (circuit_refused c fault) k s h = refused_heard here c fault k s h

pub heard_board : (here : LinkEnd) (m : MonitorLabel) (first : RingLabel) (k : Core) (s : State) → IsHere here s → first_on here.ring s ≡ Some first → first.label ≡ says m
    → core_of s here.core ≡ Some k → Whole (view s) → After (view (after_hearing here (hears s.services here.link m k) s).state)
heard_board here m first k s j q e at w = said_heard here m k s (hearer here m first k s j q e at w)
