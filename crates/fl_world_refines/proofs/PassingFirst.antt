-- What stands first on a link, by the circuit of its fragment: what a monitor says, or a fragment of a call, for which an entry stands.
use Rattle.std.proofs.Common.{◌≡◌, ◌≢◌, refl, sym, ◌∙◌, ap, subst, ℕ, ◌≤◌, Bool, true, false, List, slice_get, Option, Some, None, arith}
use Rattle.fl_base.specs.declared.fragment.Frag.{Frag}
use Rattle.fl_base.specs.declared.identity.EndId.{EndId}
use Rattle.fl_base.specs.Control.{bare, circuit_of, with_circuit}
use Rattle.fl_base.specs.Given.{given}
use Rattle.fl_hop.specs.declared.entry.Hop.{Hop}
use Rattle.fl_hop.specs.Table.{hop_at}
use Rattle.fl_monitor.specs.Intermon.{HasWidths}
use Rattle.fl_model.specs.Events.{nothing}
use Rattle.fl_model.specs.Rings.{MonitorLabel, Label, next_of, says, acknowledges, RingLabel, Ring, RingSide, first_for}
use Rattle.fl_model.specs.Monitors.{Core, Link}
use Rattle.fl_model.specs.State.{Route, Binding, State, StepOutcome, answers, core_of, binding_of, first_on, number_between, station_at, change_ring}
use Rattle.fl_model.specs.Forwarding.{LinkEnd, FragAtHop, label_of, route_of, forwards_call, follows_entry}
use Rattle.fl_model_laws.proofs.ForwardsTold.{label_tells}
use Rattle.fl_model_laws.proofs.Hearing.{link_there}
use Rattle.fl_model_laws.proofs.TurnsTold.{Tells}
use Rattle.fl_model_laws.proofs.Walk.{IsHere, IsPassing}
use Rattle.fl_world_refines.specs.Fragments.{Streams, frag_of, MayBeSaid, said_frag, message_of, calls_off_links, calls_between}
use Rattle.fl_world_refines.specs.FragmentLaws.{TellsKind, call_fragment, GoesFrom}
use Rattle.fl_world_refines.specs.RingLaws.{IsFirst, is_data}
use Rattle.fl_world_refines.specs.View.{TheWorld}
use Rattle.fl_world_refines.specs.ShowsState.{Shows}
use Rattle.fl_world_refines.proofs.PassingLinkSides.{LinkedTo, end_at, its_end, its_between}
use Rattle.fl_world_refines.proofs.PassingLists.{some_is, given_is}
use Rattle.fl_world_refines.proofs.PassingRings.{Showings, RingOf, ring_of_link, small}

-- where a look-up's answer isn't `nothing`, it found something
pub told_some : {X : Type 0} (o : Option X) (f : X → StepOutcome) (s : State) → Tells (given o (answers s nothing) f) → (x : X) × (o ≡ Some x) × Tells (f x)
told_some None f s h = absurd (h refl)
told_some (Some x) f s h = (x, refl, h)

-- a fragment of a call stands first for a core on a link, and the entry of its circuit leads on
pub record CallFirst (s : State) (core neighbour l : ℕ) (link : Link) (first : RingLabel) (frag : Frag) : Type 0 where
  pub call : FragAtHop
  pub route : Route
  pub hop : Hop
  pub passing : IsPassing (end_at core neighbour l link) call first route hop s
  pub circuit : circuit_of frag.control ≡ passing.number
  pub frag_is : slice_get (calls_between neighbour core s call.end) call.number ≡ Some (bare frag)
  pub goes : GoesFrom neighbour core s (call_fragment call.end call.number (bare frag)) route
  pub leads : Tells (follows_entry (end_at core neighbour l link) call passing.core hop.way s)

-- what a monitor says stands first
pub record SaidFirst (first : RingLabel) (frag : Frag) : Type 0 where
  pub said : MonitorLabel
  pub label : first.label ≡ says said
  pub frag_is : bare frag ≡ said_frag said
  pub widths : HasWidths (message_of said)

module _ (law : Showings) (w : TheWorld) (s : State) (shows : Shows w s) (core neighbour l : ℕ) (link : Link) (t : LinkedTo w s core neighbour l link) where
  abbrev here : LinkEnd
  here = end_at core neighbour l link

  its_here : IsHere here s
  its_here = record { core = core; neighbour = neighbour; here_is = its_end w s core neighbour l link t }

  abbrev pub its_ring : RingOf w s link.ring.ring
  its_ring = ring_of_link law w s shows core neighbour link (its_between w s core neighbour l link t)

  pub first_is_on : (o : Option RingLabel) → first_for link.ring.side its_ring.ring ≡ o → first_on link.ring s ≡ o
  first_is_on o q = given_is (slice_get s.rings link.ring.ring) None (first_for link.ring.side) its_ring.ring its_ring.ring_is ∙ q

  module _ (frag : Frag) (h : IsFirst (calls_between neighbour core s) link.ring.side its_ring.ring (bare frag)) where
    same_circuit : circuit_of (bare frag).control ≡ circuit_of frag.control
    same_circuit = (law.aside frag).circuit

    tells_as : (label : Label) → h.first.label ≡ label → TellsKind neighbour core s label (bare frag)
    tells_as label q =
        law.tell s shows.sound.calls shows.showing.limits (small law w s shows) neighbour core label (bare frag)
        (ap (frag_of (calls_between neighbour core s)) (sym q) ∙ h.frag)

    no_ack : h.first.label ≡ acknowledges → ⊥
    no_ack q = let u : false ≡ true = sym (ap is_data q) ∙ h.kind in absurd (cc)

    -- ---- what a monitor says

    pub said_first : circuit_of frag.control ≡ 0 → SaidFirst h.first frag
    said_first none = by h.first.label refl
      where
        by : (label : Label) → h.first.label ≡ label → SaidFirst h.first frag
        by (next_of e k) q =
            let on = tells_as (next_of e k) q in
            let some : 1 ≤ on.number = on.some in
            let zero_is : on.number ≡ 0 = sym on.circuit ∙ same_circuit ∙ none in
            absurd (omega (arith, some, zero_is))
        by (says m) q = record {
          said = m;
          label = q;
          frag_is = (tells_as (says m) q).0;
          widths = subst MayBeSaid q h.said;
        }
        by acknowledges q = absurd (no_ack q)

    -- ---- a call's fragment

    call_as : (e : EndId) (k : ℕ) → h.first.label ≡ next_of e k → CallFirst s core neighbour l link h.first frag
    call_as e k q =
        let at : first_on link.ring s ≡ Some h.first = first_is_on (Some h.first) h.there in
        let told : Tells (forwards_call here e k s) = label_tells s shows.sound here (link_there s here its_here) (next_of e k) h.first s at q refl refl in
        let (b, b_is, h1) = told_some (binding_of s e) _ s told in
        let (route, route_is, h2) = told_some (route_of b.back) _ s h1 in
        let (station, station_is, h3) = told_some (station_at e.side core route) _ s h2 in
        let (j, j_is, h4) = told_some (core_of s core) _ s h3 in
        let (c, c_is, h5) = told_some (number_between neighbour core route) _ s h4 in
        let (hop, hop_is, h6) = told_some (hop_at j.circuits l c) _ s h5 in
        let its : slice_get (calls_between neighbour core s e) k ≡ Some (bare frag) = ap (frag_of (calls_between neighbour core s)) (sym q) ∙ h.frag in
        let goes : GoesFrom neighbour core s (call_fragment e k (bare frag)) route =
        (law.go_on s shows.sound.calls shows.showing.limits (small law w s shows)).1 neighbour core (call_fragment e k (bare frag)) b route b_is route_is its in
        record {
          call = record { end = e; number = k; station = station };
          route = route;
          hop = hop;
          passing = record {
            is_here = its_here;
            first_is = at;
            label_is = q;
            binding = b;
            binding_is = b_is;
            route_is = route_is;
            station_is = station_is;
            core = j;
            core_is = j_is;
            number = c;
            number_is = c_is;
            hop_is = hop_is;
          };
          circuit = sym same_circuit ∙ goes.carries c c_is;
          frag_is = its;
          goes = goes;
          leads = h6;
        }

    pub call_first : circuit_of frag.control ≢ 0 → CallFirst s core neighbour l link h.first frag
    call_first some = by h.first.label refl
      where
        by : (label : Label) → h.first.label ≡ label → CallFirst s core neighbour l link h.first frag
        by (next_of e k) q = call_as e k q
        by (says m) q = absurd (some (sym same_circuit ∙ (tells_as (says m) q).1))
        by acknowledges q = absurd (no_ack q)

-- what the machine makes of it, once the link was looked at
pub called : (s : State) (core neighbour l : ℕ) (link : Link) (first : RingLabel) (frag : Frag) (h : CallFirst s core neighbour l link first frag) (n : ℕ) (g : Ring → Ring)
    → forwards_call (end_at core neighbour l link) h.call.end h.call.number (change_ring n g s)
    ≡ follows_entry (end_at core neighbour l link) h.call h.passing.core h.hop.way (change_ring n g s)
called s core neighbour l link first frag h n g =
    given_is (binding_of s h.call.end) _ _ h.passing.binding h.passing.binding_is
    ∙ given_is (route_of h.passing.binding.back) _ _ h.route h.passing.route_is
    ∙ given_is (station_at h.call.end.side core h.route) _ _ h.call.station h.passing.station_is
    ∙ given_is (core_of s core) _ _ h.passing.core h.passing.core_is
    ∙ given_is (number_between neighbour core h.route) _ _ h.passing.number h.passing.number_is
    ∙ given_is (hop_at h.passing.core.circuits l h.passing.number) _ _ h.hop h.passing.hop_is
