-- A call's fragment that stands first on a link, in a sound state: its circuit's entry leads on along its way, and onto the next link under
-- the circuit's number there.
use Rattle.std.proofs.Common.{◌≡◌, ◌≢◌, refl, sym, ◌∙◌, ap, subst, ℕ, zero, suc, ◌+◌, ◌-◌, ◌<◌, ◌≤◌, ◌==◌, min, Bool, true, false, if◌then◌else◌, List, [], ◌∷◌, length, reverse, slice_get, Option, Some, None, arith}
use Rattle.std.specs.Prelude.{slice_index}
use Rattle.std.proofs.lemmas.Bool.{eqb-true, eqb-false}
use Rattle.std.proofs.lemmas.List.{length-reverse}
use Rattle.fl_base.specs.declared.identity.EndId.{EndId}
use Rattle.fl_base.specs.declared.identity.LinkId.{LinkId}
use Rattle.fl_base.specs.declared.identity.Circuit.{Circuit}
use Rattle.fl_base.specs.declared.identity.Side.{Side}
use Rattle.fl_base.specs.declared.identity.Side.TheVariants.{Client, Server}
use Rattle.fl_base.specs.Given.{given}
use Rattle.fl_hop.specs.declared.entry.HopTarget.{HopTarget}
use Rattle.fl_hop.specs.declared.entry.HopTarget.TheVariants.{Link as to_link, End as to_end}
use Rattle.fl_hop.specs.declared.entry.Hop.{Hop}
use Rattle.fl_hop.specs.Table.{hop_at}
use Rattle.fl_model.specs.Rings.{RingLabel}
use Rattle.fl_model.specs.Ends.{Direction, written_of}
use Rattle.fl_model.specs.Monitors.{Core, link_to}
use Rattle.fl_model.specs.State.{OpeningVerdict, undecided, granted, denied, Route, over_route, Binding, State, core_of, place_in, number_between, end_in}
use Rattle.fl_model.specs.Binding.{all_differ, end_id}
use Rattle.fl_model.specs.Forwarding.{LinkEnd, FragAtHop, label_of}
use Rattle.fl_model.specs.Standing.{Routed, core_at, number_at, standing, standing_by, picked}
use Rattle.fl_model.specs.SoundPlaces.{core_to, stations}
use Rattle.fl_model.specs.SoundRoutes.{VerdictFits}
use Rattle.fl_model.specs.SoundEntries.{Leads, to_this, on_to, behind, ahead, SaysWay, Key, EntryAt, near_key, far_key, EntryIs}
use Rattle.fl_model.specs.SoundLabels.{OpensBefore}
use Rattle.fl_model.specs.Sound.{Sound}
use Rattle.fl_model_laws.proofs.ForwardsTold.{place_there}
use Rattle.fl_model_laws.proofs.Hearing.{LinkThere, link_there}
use Rattle.fl_model_laws.proofs.LabelsForward.{Onward, route_is, link_is}
use Rattle.fl_model_laws.proofs.LabelsMoved.{IsShaped, number_passes}
use Rattle.fl_model_laws.proofs.LabelsPass.{before_link, reader}
use Rattle.fl_model_laws.proofs.LabelsSound.{shaped_of, sound_good, onward_of}
use Rattle.fl_model_laws.proofs.Places.{ring_of}
use Rattle.fl_model_laws.proofs.PlacesStep.{plan_of, owner_planned}
use Rattle.fl_model_laws.proofs.ReadsKept.{first_read}
use Rattle.fl_model_laws.proofs.Scenes.{joint_of, sights, reads, way_on, before}
use Rattle.fl_model_laws.proofs.ScenesKept.{picked_first}
use Rattle.fl_model_laws.proofs.Walk.{IsPassing}
use Rattle.fl_model_laws.proofs.Ways.{Once, once_of, way_long, got_index, got_within, index_got, flipped}
use Rattle.fl_world_refines.proofs.PassingLists.{some_is}

-- ---- the entry that is found

-- what an entry there leads to, the one found does
pub says_so : (s : State) (here : LinkEnd) (k : Core) (hop : Hop) (c : ℕ) (key : Key) (n : ℕ) (leads : Leads) → LinkThere s here → core_of s here.core ≡ Some k
    → hop_at k.circuits here.link c ≡ Some hop → key.core ≡ here.core → key.neighbour ≡ here.neighbour → key.number ≡ c → EntryIs s key n leads
    → SaysWay k hop.way leads
says_so s here k hop c key n leads t at is core neighbour number entry =
    let there : EntryAt s key entry.hop = entry.entry in
    let one : there.core ≡ k = some_is there.core k (sym there.core_is ∙ ap (core_of s) core ∙ at) in
    let mine : t.core ≡ k = some_is t.core k (sym t.core_is ∙ at) in
    let place : link_to here.neighbour k ≡ Some here.link = subst (λ (j : Core). link_to here.neighbour j ≡ Some here.link) mine t.place in
    let to : link_to here.neighbour k ≡ Some there.link =
    ap (λ (m : ℕ). link_to m k) (sym neighbour) ∙ subst (λ (j : Core). link_to key.neighbour j ≡ Some there.link) one there.link_is in
    let link : here.link ≡ there.link = some_is here.link there.link (sym place ∙ to) in
    let got : hop_at k.circuits there.link key.number ≡ Some entry.hop = subst (λ (j : Core). hop_at j.circuits there.link key.number ≡ Some entry.hop) one there.there in
    let was : hop_at k.circuits there.link key.number ≡ Some hop =
    ap (λ (m : ℕ). hop_at k.circuits m key.number) (sym link) ∙ ap (hop_at k.circuits here.link) number ∙ is in
    let hops : entry.hop ≡ hop = some_is entry.hop hop (sym got ∙ was) in
    subst (λ (h : Hop). SaysWay k h.way leads) hops (subst (λ (j : Core). SaysWay j entry.hop.way leads) one entry.way)

-- the next core of the way, by the link that leads to it, and the circuit's number on that link
pub record NextLink (route : Route) (core : Core) (here : ℕ) (l : LinkId) (c : Circuit) : Type 0 where
  pub next : ℕ
  pub to : link_to next core ≡ Some l.0
  pub number : number_between here next route ≡ Some c.0

-- the number between two neighbours on a route
between_is : (route : Route) (i j l a b : ℕ) → all_differ route.cores ≡ true → i < length route.cores → j < length route.cores → core_at route i ≡ a → core_at route j ≡ b
    → min i j ≡ l → l < length route.numbers → number_between a b route ≡ Some (number_at route l)
between_is route i j l a b differ under below p q least less =
    ap (λ (o : Option ℕ). given o None λ x. given (place_in route.cores b) None λ y. slice_get route.numbers (min x y)) (place_there route.cores i a under p differ)
    ∙ ap (λ (o : Option ℕ). given o None λ y. slice_get route.numbers (min i y)) (place_there route.cores j b below q differ)
    ∙ ap (slice_get route.numbers) least ∙ index_got route.numbers l less

client_next : (route : Route) (k : Core) (n place here : ℕ) (l : LinkId) (c : Circuit) (t : Bool) → (place + 1 + 1 == length route.cores) ≡ t
    → all_differ route.cores ≡ true → length route.numbers + 1 ≡ length route.cores → place + 1 < length route.cores → core_at route (place + 1) ≡ here
    → SaysWay k (to_link l c) (if t then to_this (end_id n Server) else on_to (core_at route (place + 1 + 1)) (number_at route (place + 1)))
    → NextLink route k here l c
client_next route k n place here l c true q differ whole a at h = absurd h
client_next route k n place here l c false q differ whole a at h =
    let more : place + 1 + 1 ≢ length route.cores = eqb-false (place + 1 + 1) (length route.cores) q in
    record {
      next = core_at route (place + 1 + 1);
      to = h.0;
      number = between_is route (place + 1) (place + 1 + 1) (place + 1) here (core_at route (place + 1 + 1)) differ a (omega arith) at refl (omega arith) (omega arith)
          ∙ ap (λ (x : ℕ). Some x) (sym h.1);
    }

server_next : (route : Route) (k : Core) (n i here : ℕ) (l : LinkId) (c : Circuit) → all_differ route.cores ≡ true
    → length route.numbers + 1 ≡ length route.cores → i < length route.cores → core_at route i ≡ here → SaysWay k (to_link l c) (behind n route i)
    → NextLink route k here l c
server_next route k n zero here l c differ whole a at h = absurd h
server_next route k n (suc i) here l c differ whole a at h = record {
  next = core_at route i;
  to = h.0;
  number = between_is route (suc i) i i here (core_at route i) differ a (omega arith) at refl (omega arith) (omega arith) ∙ ap (λ (x : ℕ). Some x) (sym h.1);
}

-- ---- the circuit is open

falls_to : (xs : List ℕ) (n : ℕ) → ((k : ℕ) → suc k < length xs → slice_index xs (suc k) ≤ slice_index xs k) → n < length xs → slice_index xs n ≤ slice_index xs 0
falls_to xs zero h a = omega arith
falls_to xs (suc n) h a =
    let ih : slice_index xs n ≤ slice_index xs 0 = falls_to xs n h (omega arith) in
    let step : slice_index xs (suc n) ≤ slice_index xs n = h n a in
    omega arith

opens_granted : (v : OpeningVerdict) (d : Direction) → OpensBefore v d → 0 < written_of d → (i : ℕ) × (v ≡ granted i)
opens_granted undecided d h a = let e : written_of d ≡ 0 = h in absurd (omega arith)
opens_granted (granted i) d h a = (i, refl)
opens_granted (denied i fault) d h a = let e : written_of d ≡ 0 = h in absurd (omega arith)

opens_by : (side : Side) (v : OpeningVerdict) (b : Binding) → OpensBefore v b.client.out × OpensBefore v b.server.out → OpensBefore v (end_in side b).out
opens_by Client v b h = h.0
opens_by Server v b h = h.1

module _ (s : State) (sound : Sound s) (here : LinkEnd) (p : FragAtHop) (first : RingLabel) (route : Route) (hop : Hop) (k : IsPassing here p first route hop s) where
  abbrev e : EndId
  e = p.end

  abbrev b : Binding
  b = k.binding

  abbrev way : List ℕ
  way = way_on e.side route.cores

  pub onward : Onward s.cores here p route hop
  onward = onward_of s sound here p first route hop k

  pub its_back : k.binding.back ≡ over_route route
  its_back = route_is b.back route k.route_is

  abbrev pub routed : Routed s p.end.binding route
  routed = record { binding = b; there = k.binding_is; back = its_back }

  pub its_passed : length (end_in p.end.side k.binding).out.passed ≡ length route.cores + 1
  its_passed = (shaped_of s sound e.binding b k.binding_is).passed e.side ∙ ap stations its_back

  written : 0 < written_of (end_in e.side b).out
  written =
      let place : ℕ = onward.place in
      let t : LinkThere s here = link_there s here k.is_here in
      let own : ring_of (plan_of s) (core_to here.core here.neighbour) ≡ Some here.ring =
      owner_planned s (core_to here.core here.neighbour) here.ring (t.link, link_is s here.core here.neighbour t.core here.link t.link t.core_is t.place t.link_is, t.ring) in
      let stands : slice_get (reads s (core_to here.core here.neighbour)) 0 ≡ Some (label_of p) =
      first_read s here.ring (core_to here.core here.neighbour) first own k.first_is ∙ ap (λ x. Some x) k.label_is in
      let within : suc place < length way = got_within way (suc place) here.core onward.far in
      let long : length way ≡ length route.cores = way_long e.side route.cores in
      let whole : length (end_in e.side b).out.passed ≡ length route.cores + 1 = its_passed in
      let its : reader way place ≡ core_to here.core here.neighbour =
      ap (λ n. core_to n (slice_index way place)) (got_index way (suc place) here.core onward.far) ∙ ap (core_to here.core) (got_index way place here.neighbour onward.near) in
      let number = number_passes s e b place p.number _ (sound_good s sound) k.binding_is (omega arith)
      (ap (λ x. picked e (before (reads s) (sights s) e x (suc place))) (ap joint_of its_back)
      ∙ ap (picked e) (before_link (reads s) (sights s) e route.cores place (λ u. absurd (omega arith)))
      ∙ ap (λ o. picked e (reads s o)) its ∙ picked_first e (reads s (core_to here.core here.neighbour)) p.number stands) in
      let less : slice_index (end_in e.side b).out.passed (suc place) < slice_index (end_in e.side b).out.passed place = number.1 in
      let most : slice_index (end_in e.side b).out.passed place ≤ slice_index (end_in e.side b).out.passed 0 =
      falls_to (end_in e.side b).out.passed place (λ n a. (sound.labels e b n k.binding_is a).falls) (omega arith) in
      omega arith

  pub is_granted : (i : ℕ) × (route.verdict ≡ granted i)
  is_granted = opens_granted route.verdict (end_in e.side b).out (opens_by e.side route.verdict b (sound.begun e.binding route routed)) written

  whole : length route.numbers + 1 ≡ length route.cores
  whole = (subst (VerdictFits route) is_granted.1 (sound.verdicts e.binding route routed)).0

  all_stand : standing route ≡ length route.cores
  all_stand = ap (standing_by route) is_granted.1

  differ : all_differ route.cores ≡ true
  differ = (sound.routes e.binding route routed).differ

  -- the circuit's number on the link is at that place of the route
  number_here : (i j l : ℕ) → i < length route.cores → j < length route.cores → core_at route i ≡ here.neighbour → core_at route j ≡ here.core → min i j ≡ l
      → l < length route.numbers → number_at route l ≡ k.number
  number_here i j l under below p q least less =
      some_is (number_at route l) k.number (sym (between_is route i j l here.neighbour here.core differ under below p q least less) ∙ k.number_is)

  says_on : (side : Side) → e.side ≡ side → (l : LinkId) (c : Circuit) → hop.way ≡ to_link l c → NextLink route k.core here.core l c
  says_on Client is l c q =
      let place : ℕ = onward.place in
      let near : slice_get route.cores place ≡ Some here.neighbour = subst (λ (x : Side). slice_get (way_on x route.cores) place ≡ Some here.neighbour) is onward.near in
      let far : slice_get route.cores (suc place) ≡ Some here.core = subst (λ (x : Side). slice_get (way_on x route.cores) (suc place) ≡ Some here.core) is onward.far in
      let long : suc place < length route.cores = got_within route.cores (suc place) here.core far in
      let all : length route.numbers + 1 ≡ length route.cores = whole in
      let stand : standing route ≡ length route.cores = all_stand in
      let one : place + 1 ≡ suc place = omega arith in
      let n_is : core_at route place ≡ here.neighbour = got_index route.cores place here.neighbour near in
      let f_is : core_at route (place + 1) ≡ here.core = ap (core_at route) one ∙ got_index route.cores (suc place) here.core far in
      let number : number_at route place ≡ k.number = number_here place (place + 1) place (omega arith) (omega arith) n_is f_is (omega arith) (omega arith) in
      let entry : EntryIs s (far_key route place) e.binding (ahead e.binding route (place + 1)) =
      (sound.entries e.binding route routed).far place (omega arith) (omega arith) in
      client_next route k.core e.binding place here.core l c (place + 1 + 1 == length route.cores) refl differ all (omega arith) f_is
      (subst (λ (v : HopTarget). SaysWay k.core v (ahead e.binding route (place + 1))) q
      (says_so s here k.core hop k.number (far_key route place) e.binding (ahead e.binding route (place + 1)) (link_there s here k.is_here) k.core_is k.hop_is
      f_is n_is number entry))
  says_on Server is l c q =
      let place : ℕ = onward.place in
      let near : slice_get (reverse route.cores) place ≡ Some here.neighbour = subst (λ (x : Side). slice_get (way_on x route.cores) place ≡ Some here.neighbour) is onward.near in
      let far : slice_get (reverse route.cores) (suc place) ≡ Some here.core = subst (λ (x : Side). slice_get (way_on x route.cores) (suc place) ≡ Some here.core) is onward.far in
      let turned : length (reverse route.cores) ≡ length route.cores = length-reverse route.cores in
      let long : suc place < length (reverse route.cores) = got_within (reverse route.cores) (suc place) here.core far in
      let all : length route.numbers + 1 ≡ length route.cores = whole in
      let stand : standing route ≡ length route.cores = all_stand in
      let m : ℕ = length route.cores - 1 - suc place in
      let n_is : core_at route (length route.cores - 1 - place) ≡ here.neighbour =
      got_index route.cores (length route.cores - 1 - place) here.neighbour (flipped route.cores place here.neighbour near) in
      let f_is : core_at route (length route.cores - 1 - suc place) ≡ here.core = got_index route.cores m here.core (flipped route.cores (suc place) here.core far) in
      let number : number_at route (length route.cores - 1 - suc place) ≡ k.number =
      number_here (length route.cores - 1 - place) (length route.cores - 1 - suc place) (length route.cores - 1 - suc place) (omega arith) (omega arith) n_is f_is (omega arith) (omega arith) in
      let next : length route.cores - 1 - suc place + 1 ≡ length route.cores - 1 - place = omega arith in
      let entry : EntryIs s (near_key route (length route.cores - 1 - suc place)) e.binding (behind e.binding route (length route.cores - 1 - suc place)) =
      (sound.entries e.binding route routed).near (length route.cores - 1 - suc place) (omega arith) (omega arith) in
      server_next route k.core e.binding (length route.cores - 1 - suc place) here.core l c differ all (omega arith) f_is
      (subst (λ (v : HopTarget). SaysWay k.core v (behind e.binding route (length route.cores - 1 - suc place))) q
      (says_so s here k.core hop k.number (near_key route (length route.cores - 1 - suc place)) e.binding (behind e.binding route (length route.cores - 1 - suc place))
      (link_there s here k.is_here) k.core_is k.hop_is f_is (ap (core_at route) next ∙ n_is) number entry))

  pub next_link : (l : LinkId) (c : Circuit) → hop.way ≡ to_link l c → NextLink route k.core here.core l c
  next_link = says_on e.side refl
