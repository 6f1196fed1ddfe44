-- An answer that a circuit is open comes to its client's end, which is bound and registered: the world goes on showing the machine's state.
use Rattle.std.proofs.Common.{◌≡◌, refl, sym, ◌∙◌, ap, subst, ℕ, zero, suc, ◌+◌, ◌<◌, ◌≤◌, ◌||◌, Bool, true, false, if◌then◌else◌, nat_lt, List, [], map, drop, length, slice_get, slice_set, Option, Some, None, Result, Ok, arith}
use Rattle.std.specs.Prelude.{is_some, IsSome}
use Rattle.std.proofs.lemmas.List.{append-nil}
use Rattle.fl_base.specs.declared.identity.EndId.{EndId}
use Rattle.fl_base.specs.declared.identity.Circuit.{Circuit}
use Rattle.fl_base.specs.declared.identity.Side.TheVariants.{Client}
use Rattle.fl_base.specs.Ends.{other}
use Rattle.fl_base.specs.Given.{given}
use Rattle.fl_value_data.specs.Value.{TheCall}
use Rattle.fl_wire.specs.Payload.{frags_on}
use Rattle.fl_lists.specs.declared.place.Place.TheVariants.{Idle, Polled, Pending}
use Rattle.fl_lists.specs.ThreeLists.{ThreeLists, is_in}
use Rattle.fl_waitset.specs.Waiting.{is_registered}
use Rattle.fl_hop.specs.declared.entry.HopTarget.{HopTarget}
use Rattle.fl_hop.specs.declared.entry.HopTarget.TheVariants.{Link as to_link, End as to_end}
use Rattle.fl_hop.specs.declared.entry.Hop.{Hop}
use Rattle.fl_hop.specs.Table.{TheCircuits, hop_at}
use Rattle.fl_endpoint.specs.View.{TheEnd, TheOutgoing, bound, bound_by}
use Rattle.fl_model.specs.Calls.{Planned, total, last_count, stream}
use Rattle.fl_model.specs.Rings.{OpeningLabel, MonitorLabel, open_circuit, circuit_opened, circuit_refused, says, RingLabel}
use Rattle.fl_model.specs.Ends.{Direction, Seat, End, written_of}
use Rattle.fl_model.specs.Waits.{Dispatcher}
use Rattle.fl_model.specs.Monitors.{Core, Link, Service, can_say, saying, Heard, no_outbox, misrouted, end_opened, Hearing, Fate, goes_on, ends_at, fails, fate, hears_opening, hears_opened, hears_refused, hears}
use Rattle.fl_model.specs.State.{granted, OpeningVerdict, Route, Back, over_route, Binding, State, core_of, dispatcher_of, binding_of, end_of, first_on}
use Rattle.fl_model.specs.Binding.{end_id}
use Rattle.fl_model.specs.Forwarding.{LinkEnd}
use Rattle.fl_model.specs.Standing.{Routed, core_at, number_at, standing, standing_by}
use Rattle.fl_model.specs.SoundOpenings.{IsDue}
use Rattle.fl_model.specs.SoundRoutes.{RouteLeads, VerdictFits, BoundBy, BoundWhere}
use Rattle.fl_model.specs.SoundEntries.{behind, SaysWay, near_key, EntryIs}
use Rattle.fl_model.specs.Sound.{Sound}
use Rattle.fl_model_laws.proofs.Cases.{either, by_given_or}
use Rattle.fl_model_laws.proofs.Hearing.{LinkThere, link_there, is_under_way, OpenedDue, opened_due, opened_ready}
use Rattle.fl_model_laws.proofs.ListingStep.{end_at as end_with}
use Rattle.fl_model_laws.proofs.Seating.{Ready}
use Rattle.fl_model_laws.proofs.Walk.{IsHere}
use Rattle.fl_world_refines.specs.Ends.{outgoing_of, parts_of, circuit_of, EndShows}
use Rattle.fl_world_refines.specs.ShowsState.{IsSilent}
use Rattle.fl_world_refines.proofs.Frames.{EndStays}
use Rattle.fl_world_refines.proofs.PassingLists.{some_is}
use Rattle.fl_world_refines.proofs.PassingNumbers.{says_so}

-- ---- an end that accepted nothing is bound

-- what is to be sent of calls that are these
abbrev sends : ℕ → Planned → Direction → List TheCall → List TheCall → TheOutgoing
sends circuit i d accepted waiting = record {
  unwritten = drop (written_of d) (stream circuit i accepted);
  count = if nat_lt (written_of d) (total i d.accepted) then last_count i d.accepted else 0;
  waiting = map (frags_on circuit i.plan i.interface) waiting;
}

sends_nothing : (circuit : ℕ) (i : Planned) (d : Direction) → IsSilent d → outgoing_of circuit i d ≡ sends 0 i d [] []
sends_nothing circuit i d h =
    ap (λ (cs : List TheCall). sends circuit i d cs d.waiting) h.accepted ∙ ap (sends circuit i d []) h.waiting

pub bound_too : (i : Planned) (x : End) (peer : Direction) (t : TheEnd) (c : ℕ) → EndShows i x peer t → x.circuit ≡ None → IsSilent x.out
    → EndShows i (record x { circuit = Some c }) peer (bound t c)
bound_too i x peer t c h none silent =
    subst (EndShows i (record x { circuit = Some c }) peer) (sym (ap (λ (o : Option ℕ). bound_by o c t) (h.circuit ∙ none)))
    (record {
      program = h.program;
      circuit = refl;
      rules = h.rules;
      outgoing = h.outgoing ∙ sends_nothing (circuit_of x) i x.out silent ∙ sym (sends_nothing c i x.out silent);
      parts = h.parts;
      failed = h.failed;
    })

pub bound_stays : (i : Planned) (x : End) (c : ℕ) → EndStays i x (record x { circuit = Some c })
bound_stays i x c = record {
  seat = refl;
  queue = refl;
  accepted = ([], sym (append-nil x.out.accepted));
  parts = refl;
  silent = λ q. absurd (let u : Some c ≡ None = q in cc);
}

-- ---- which message opens an end

-- an answer for a circuit whose entry leads to this end
pub record OpensEnd (k : Core) (l : ℕ) (m : MonitorLabel) (e : EndId) (c : ℕ) : Type 0 where
  pub message : m ≡ circuit_opened c
  pub hop : Hop
  pub hop_is : hop_at k.circuits l c ≡ Some hop
  pub way : hop.way ≡ to_end e

abbrev Opens : EndId → ℕ → Hearing → Type 0
Opens e c h = h.heard ≡ end_opened e c

no_saying : (l : ℕ) (m : MonitorLabel) (t : TheCircuits) (x : Heard) (k : Core) (e : EndId) (c : ℕ) → (x ≡ end_opened e c → ⊥) → Opens e c (saying l m t x k) → ⊥
no_saying l m t x k e c h = either (λ (y : Hearing). Opens e c y → ⊥) (can_say l k) _ _ (λ q r. h r) (λ q r. absurd (cc))

no_opening : (l : ℕ) (o : OpeningLabel) (f : Fate) (k : Core) (e : EndId) (c : ℕ) → Opens e c (hears_opening l o f k) → ⊥
no_opening l o (goes_on m n) k e c = no_saying m _ _ _ k e c (λ r. absurd (cc))
no_opening l o (ends_at d) k e c = no_saying l _ _ _ k e c (λ r. absurd (cc))
no_opening l o (fails fault) k e c = no_saying l _ _ _ k e c (λ r. absurd (cc))

no_refusal : (l n fault : ℕ) (hop : Hop) (way : HopTarget) (k : Core) (e : EndId) (c : ℕ) → Opens e c (hears_refused l n fault hop way k) → ⊥
no_refusal l n fault hop (to_link m d) k e c = no_saying m.0 _ _ _ k e c (λ r. absurd (cc))
no_refusal l n fault hop (to_end f) k e c = λ r. absurd (cc)

by_way : (l n : ℕ) (hop : Hop) (way : HopTarget) (k : Core) (e : EndId) (c : ℕ) → Opens e c (hears_opened l n hop way k) → (way ≡ to_end e) × (n ≡ c)
by_way l n hop (to_link m d) k e c r = absurd (no_saying m.0 _ _ _ k e c (λ q. absurd (cc)) r)
by_way l n hop (to_end f) k e c r = (let same : f ≡ e = cc in ap (λ (y : EndId). to_end y) same, let same : n ≡ c = cc in same)

pub opens_end : (services : List Service) (l : ℕ) (m : MonitorLabel) (k : Core) (e : EndId) (c : ℕ) → (hears services l m k).heard ≡ end_opened e c → OpensEnd k l m e c
opens_end services l (open_circuit o) k e c = λ r. absurd (no_opening l o (fate services o k) k e c r)
opens_end services l (circuit_opened n) k e c =
    by_given_or (λ (h : Hearing). Opens e c h → OpensEnd k l (circuit_opened n) e c) (hop_at k.circuits l n) _ _ (λ none r. absurd (cc))
    (λ hop q r.
    let both = by_way l n hop hop.way k e c r in
    record { message = ap (λ (x : ℕ). circuit_opened x) both.1; hop = hop; hop_is = ap (hop_at k.circuits l) (sym both.1) ∙ q; way = both.0 })
opens_end services l (circuit_refused n fault) k e c =
    by_given_or (λ (h : Hearing). Opens e c h → OpensEnd k l (circuit_refused n fault) e c) (hop_at k.circuits l n) _ _ (λ none r. absurd (cc))
    (λ hop q r. absurd (no_refusal l n fault hop hop.way k e c r))

-- ---- whose end it is

-- the client's end of a circuit, which isn't bound, at this core
pub record IsClient (s : State) (core : ℕ) (e : EndId) : Type 0 where
  pub binding : Binding
  pub binding_is : binding_of s e ≡ Some binding
  pub route : Route
  pub back : binding.back ≡ over_route route
  pub client : e ≡ end_id e.binding Client
  pub unbound : binding.client.circuit ≡ None
  pub seat : Seat
  pub seat_is : binding.client.seat ≡ Some seat
  pub at : seat.dispatcher.core ≡ core
  pub free : (y : Dispatcher) → dispatcher_of s seat.dispatcher ≡ Some y → is_registered y.lists seat.channel ≡ false

says_client : (k : Core) (n : ℕ) (route : Route) (i : ℕ) (e : EndId) → SaysWay k (to_end e) (behind n route i) → (e ≡ end_id n Client) × (i ≡ 0)
says_client k n route zero e h = (h, refl)
says_client k n route (suc i) e h = absurd h

bound_client : (route : Route) (b : Binding) (v : OpeningVerdict) (i : ℕ) → v ≡ granted (suc i) → BoundBy route v b → b.client.circuit ≡ None
bound_client route b v i e h = (subst (λ (x : OpeningVerdict). BoundBy route x b) e h).0

in_none : (a b c : Bool) → a ≡ false → b ≡ false → c ≡ false → (a || b || c) ≡ false
in_none a b c p q r = ap (λ (x : Bool). x || b || c) p ∙ ap (λ (x : Bool). false || x || c) q ∙ r

pub is_client : (s : State) (sound : Sound s) (here : LinkEnd) (first : RingLabel) (k : Core) (m : MonitorLabel) (e : EndId) (c : ℕ) → IsHere here s → first_on here.ring s ≡ Some first
    → first.label ≡ says m → core_of s here.core ≡ Some k → OpensEnd k here.link m e c → IsClient s here.core e
is_client s sound here first k m e c j q label at opens =
    let l : first.label ≡ says (circuit_opened c) = label ∙ ap (λ (x : MonitorLabel). says x) opens.message in
    let t : LinkThere s here = link_there s here j in
    let due : IsDue s (record { from = here.neighbour; to = here.core; said = circuit_opened c }) =
    sound.messages here.neighbour here.core (circuit_opened c) (is_under_way s here (circuit_opened c) first t q l) in
    let n : ℕ = due.binding in
    let route : Route = due.route in
    let o : OpenedDue route (record { from = here.neighbour; to = here.core; said = circuit_opened c }) c =
    opened_due n route here.neighbour here.core c route.verdict refl due.due in
    let i : ℕ = o.waiting in
    let fits : VerdictFits route (granted (suc i)) = subst (VerdictFits route) o.verdict (sound.verdicts n route due.routed) in
    let whole : length route.numbers + 1 ≡ length route.cores = fits.0 in
    let below : suc i ≤ length route.numbers = fits.1 in
    let stands : standing route ≡ length route.cores = ap (standing_by route) o.verdict in
    let entry : EntryIs s (near_key route i) n (behind n route i) = (sound.entries n route due.routed).near i (omega arith) (omega arith) in
    let leads : SaysWay k opens.hop.way (behind n route i) =
    says_so s here k opens.hop c (near_key route i) n (behind n route i) t at opens.hop_is (sym o.to) (ap (core_at route) (omega arith) ∙ sym o.from) (sym o.number) entry in
    let (client, none) = says_client k n route i e (subst (λ (w : HopTarget). SaysWay k w (behind n route i)) opens.way leads) in
    let number : e.binding ≡ n = ap (λ (f : EndId). f.binding) client in
    let b : Binding = due.routed.binding in
    let bound_by : BoundBy route route.verdict due.routed.binding =
    subst (λ (a : Back). BoundWhere a due.routed.binding) due.routed.back (sound.bound n due.routed.binding due.routed.there) in
    let lead : RouteLeads s route due.routed.binding = sound.routes n route due.routed in
    let ready : Ready e s = opened_ready s sound here c first k opens.hop e j q l at opens.hop_is opens.way in
    record {
      binding = due.routed.binding;
      binding_is = ap (slice_get s.bindings) number ∙ due.routed.there;
      route = route;
      back = due.routed.back;
      client = client ∙ ap (λ (x : ℕ). end_id x Client) (sym number);
      unbound = bound_client route due.routed.binding route.verdict i o.verdict bound_by;
      seat = lead.client;
      seat_is = lead.client_is;
      at = lead.first ∙ ap (core_at route) (sym none) ∙ sym o.to;
      free = λ y there.
          let its = ready due.routed.binding.client lead.client
          (ap (end_of s) (client ∙ ap (λ (x : ℕ). end_id x Client) refl) ∙ end_with s (end_id n Client) due.routed.binding due.routed.there) lead.client_is y there in
          in_none (is_in lead.client.channel y.lists.idle) (is_in lead.client.channel y.lists.polled) (is_in lead.client.channel y.lists.pending) (its.free Idle) (its.free Polled) (its.free Pending);
    }
