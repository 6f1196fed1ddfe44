-- An answer that stands first on a link is never misrouted: its entry stands, at a number that the core opened, and waits for it.
use Rattle.std.proofs.Common.{◌≡◌, refl, sym, ◌∙◌, ap, subst, ℕ, zero, suc, ◌+◌, ◌<◌, ◌≤◌, false, List, length, slice_get, Option, Some, None, arith}
use Rattle.fl_base.specs.Given.{given}
use Rattle.fl_hop.specs.declared.links.LinkState.{LinkState}
use Rattle.fl_hop.specs.declared.entry.Hop.{Hop}
use Rattle.fl_hop.specs.Numbers.{IsAmong, OpenedHere}
use Rattle.fl_hop.specs.Openings.{IsWaiting}
use Rattle.fl_hop.specs.Table.{TheCircuits, hop_at}
use Rattle.fl_model.specs.Rings.{MonitorLabel, open_circuit, circuit_opened, circuit_refused, says, RingLabel}
use Rattle.fl_model.specs.Monitors.{Core, Link, link_to}
use Rattle.fl_model.specs.State.{OpeningVerdict, undecided, granted, denied, Route, State, core_of, first_on}
use Rattle.fl_model.specs.Standing.{Routed, core_at, number_at, asking, asking_by, Message, due_by, answer_number, link_state}
use Rattle.fl_model.specs.SoundOpenings.{IsDue}
use Rattle.fl_model.specs.SoundRoutes.{VerdictFits}
use Rattle.fl_model.specs.SoundEntries.{EntryAt, near_key}
use Rattle.fl_model.specs.Sound.{Sound}
use Rattle.fl_model_laws.proofs.Hearing.{link_there, is_under_way}
use Rattle.fl_model_laws.proofs.OpeningsMoves.{names_to}
use Rattle.fl_world_refines.specs.View.{TheWorld}
use Rattle.fl_world_refines.specs.ShowsState.{Shows}
use Rattle.fl_world_refines.proofs.PassingLinkSides.{LinkedTo, end_at, some_too, its_end}
use Rattle.fl_world_refines.proofs.PassingLists.{some_is, given_is}

-- the circuit of a binding whose core number `place` waits for the answer
pub record AnswerHere (s : State) (from to c : ℕ) : Type 0 where
  pub binding : ℕ
  pub route : Route
  pub routed : Routed s binding route
  pub place : ℕ
  pub waits : place < asking route
  pub within : place < length route.numbers
  pub from_is : core_at route (suc place) ≡ from
  pub to_is : core_at route place ≡ to
  pub number : number_at route place ≡ c

by_verdict : (s : State) (n : ℕ) (route : Route) (from to : ℕ) (m : MonitorLabel) (c : ℕ) (v : OpeningVerdict) → Routed s n route → route.verdict ≡ v → VerdictFits route v
    → due_by n route v ≡ Some (record { from = from; to = to; said = m }) → answer_number m ≡ Some c → AnswerHere s from to c
by_verdict s n route from to m c undecided r e fits h a =
    let said = ap (λ (x : Message). answer_number x.said) (some_is _ _ h) in
    absurd (let u : None ≡ Some c = said ∙ a in cc)
by_verdict s n route from to m c (granted zero) r e fits h a = absurd (cc)
by_verdict s n route from to m c (granted (suc i)) r e fits h a =
    let same = some_is _ _ h in
    let all : asking route ≡ suc i = ap (asking_by route) e in
    let below : suc i ≤ length route.numbers = fits.1 in
    record {
      binding = n;
      route = route;
      routed = r;
      place = i;
      waits = omega (arith, all);
      within = omega (arith, below);
      from_is = ap (λ (x : Message). x.from) same;
      to_is = ap (λ (x : Message). x.to) same;
      number = some_is (number_at route i) c (ap (λ (x : Message). answer_number x.said) same ∙ a);
    }
by_verdict s n route from to m c (denied zero fault) r e fits h a = absurd (cc)
by_verdict s n route from to m c (denied (suc i) fault) r e fits h a =
    let same = some_is _ _ h in
    let all : asking route ≡ suc i = ap (asking_by route) e in
    let below : suc i ≤ length route.numbers = fits in
    record {
      binding = n;
      route = route;
      routed = r;
      place = i;
      waits = omega (arith, all);
      within = omega (arith, below);
      from_is = ap (λ (x : Message). x.from) same;
      to_is = ap (λ (x : Message). x.to) same;
      number = some_is (number_at route i) c (ap (λ (x : Message). answer_number x.said) same ∙ a);
    }

module _ (w : TheWorld) (s : State) (core neighbour l : ℕ) (link : Link) (shows : Shows w s) (t : LinkedTo w s core neighbour l link) where
  -- the counts of the core's link
  pub counts : (u : LinkState) × (slice_get t.k.circuits.links l ≡ Some u)
  counts = some_too t.k.circuits.links t.k.links l link (sym (shows.sound.cores core t.k t.k_is).links) t.link_is

  pub its_state : link_state s core neighbour ≡ Some counts.0
  its_state =
      given_is (core_of s core) None _ t.k t.k_is ∙ given_is (link_to neighbour t.k) None _ l t.to ∙ counts.1

  pub named : counts.0.neighbour.0 ≡ neighbour
  named = names_to neighbour l t.k.circuits.links counts.0 t.to counts.1

  number_is : t.k.circuits.core ≡ core
  number_is = (shows.sound.cores core t.k t.k_is).number

  module _ (c : ℕ) (h : AnswerHere s neighbour core c) where
    one : suc h.place ≡ h.place + 1
    one = omega arith

    far_is : core_at h.route (h.place + 1) ≡ neighbour
    far_is = ap (core_at h.route) (sym one) ∙ h.from_is

    opened_here : OpenedHere t.k.circuits l c
    opened_here =
        let among : IsAmong (core_at h.route h.place) (core_at h.route (h.place + 1)) counts.0.opened (number_at h.route h.place) =
        shows.sound.opened_numbers h.binding h.route h.place counts.0 h.routed h.within
        (ap (λ (a : ℕ). link_state s a (core_at h.route (h.place + 1))) h.to_is ∙ ap (link_state s core) far_is ∙ its_state) in
        record {
          link = counts.0;
          there = counts.1;
          among =
              subst (λ (a : ℕ). IsAmong a counts.0.neighbour.0 counts.0.opened c) (h.to_is ∙ sym number_is)
              (subst (λ (b : ℕ). IsAmong (core_at h.route h.place) b counts.0.opened c) (far_is ∙ sym named)
              (subst (IsAmong (core_at h.route h.place) (core_at h.route (h.place + 1)) counts.0.opened) h.number among));
        }

    pub is_waiting : (hop : Hop) × IsWaiting t.k.circuits l c hop
    is_waiting =
        let (hop, entry, unanswered) = shows.sound.awaited h.binding h.route h.place h.routed h.waits in
        let its : EntryAt s (near_key h.route h.place) hop = entry in
        let core_is : its.core ≡ t.k = some_is its.core t.k (sym its.core_is ∙ ap (core_of s) h.to_is ∙ t.k_is) in
        let to : link_to neighbour t.k ≡ Some its.link =
        ap (λ (m : ℕ). link_to m t.k) (sym far_is) ∙ subst (λ (k : Core). link_to (core_at h.route (h.place + 1)) k ≡ Some its.link) core_is its.link_is in
        let link_is : its.link ≡ l = some_is its.link l (sym to ∙ t.to) in
        let there : hop_at t.k.circuits l c ≡ Some hop =
        ap (λ (m : ℕ). hop_at t.k.circuits m c) (sym link_is) ∙ ap (hop_at t.k.circuits its.link) (sym h.number)
        ∙ subst (λ (k : Core). hop_at k.circuits its.link (number_at h.route h.place) ≡ Some hop) core_is its.there in
        (hop, record { here = opened_here; there = there; unanswered = unanswered })

  -- whichever answer it is
  pub waiting_for_it : (m : MonitorLabel) (c : ℕ) (first : RingLabel) → first_on link.ring s ≡ Some first → first.label ≡ says m → answer_number m ≡ Some c
      → (hop : Hop) × IsWaiting t.k.circuits l c hop
  waiting_for_it m c first q label number =
      let there = link_there s (end_at core neighbour l link) (record { core = core; neighbour = neighbour; here_is = its_end w s core neighbour l link t }) in
      let due : IsDue s (record { from = neighbour; to = core; said = m }) =
      shows.sound.messages neighbour core m (is_under_way s (end_at core neighbour l link) m first there q label) in
      is_waiting c
      (by_verdict s due.binding due.route neighbour core m c due.route.verdict due.routed refl (shows.sound.verdicts due.binding due.route due.routed) due.due number)
