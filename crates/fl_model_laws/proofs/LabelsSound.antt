-- Each step of a sound state keeps labels on their ways and in order.
use Rattle.std.proofs.Common.{◌≡◌, refl, sym, ◌∙◌, ap, subst, ℕ, zero, suc, ◌+◌, ◌<◌, ◌≤◌, List, length, drop, slice_get, Option, Some, None, arith}
use Rattle.std.specs.Prelude.{slice_index}
use Rattle.fl_base.specs.declared.identity.EndId.{EndId}
use Rattle.fl_base.specs.declared.identity.Side.{Side}
use Rattle.fl_base.specs.declared.identity.Side.TheVariants.{Client, Server}
use Rattle.fl_base.specs.Given.{given}
use Rattle.fl_hop.specs.declared.entry.Hop.{Hop}
use Rattle.fl_model.specs.Events.{Event}
use Rattle.fl_model.specs.Rings.{RingLabel}
use Rattle.fl_model.specs.Ends.{Direction, End, written_of}
use Rattle.fl_model.specs.State.{OpeningVerdict, undecided, granted, denied, Route, Back, local, over_ring, over_route, Binding, State, end_in, way_of, place_in}
use Rattle.fl_model.specs.Binding.{end_id}
use Rattle.fl_model.specs.Forwarding.{LinkEnd, FragAtHop, label_of}
use Rattle.fl_model.specs.Step.{step}
use Rattle.fl_model.specs.Standing.{Routed, standing, standing_by, picked}
use Rattle.fl_model.specs.SoundPlaces.{core_to, stations, TakesFrom, EndStands}
use Rattle.fl_model.specs.SoundRoutes.{RouteLeads}
use Rattle.fl_model.specs.SoundLabels.{LabelsFollow, LabelsKeepToTheirWays, OpensBefore}
use Rattle.fl_model.specs.Sound.{Sound}
use Rattle.fl_model_laws.proofs.BindingWalk.{given_there}
use Rattle.fl_model_laws.proofs.Hearing.{LinkThere, link_there}
use Rattle.fl_model_laws.proofs.LabelsForward.{Onward, route_is, link_is}
use Rattle.fl_model_laws.proofs.LabelsMoved.{HasQueue, IsShaped, number_passes}
use Rattle.fl_model_laws.proofs.LabelsPass.{before_link, reader}
use Rattle.fl_model_laws.proofs.LabelsQuiet.{GoodIn}
use Rattle.fl_model_laws.proofs.LabelsStep.{MayLabel, step_labels}
use Rattle.fl_model_laws.proofs.Places.{Linked, ring_of}
use Rattle.fl_model_laws.proofs.PlacesStep.{plan_of, to_linked, owner_planned}
use Rattle.fl_model_laws.proofs.ReadsKept.{first_read}
use Rattle.fl_model_laws.proofs.Scenes.{over, joint_of, Sight, sight_of, seen, sights, reads, way_on, Goes, before}
use Rattle.fl_model_laws.proofs.ScenesKept.{picked_first}
use Rattle.fl_model_laws.proofs.ScenesSaid.{way_at, good_of, ways_of, follows_of}
use Rattle.fl_model_laws.proofs.Walk.{IsPassing}
use Rattle.fl_model_laws.proofs.Ways.{Once, once_of, once_on, way_long, got_index, got_within, place_got, dropped_got, leads_on}

-- ---- bindings

takes_queue : (s : State) (back : Back) (x : End) → TakesFrom s back x → HasQueue back x
takes_queue s local x h = h
takes_queue s (over_ring n) x h = h.0
takes_queue s (over_route route) x h = h

pub shaped_of : (s : State) → Sound s → (n : ℕ) (b : Binding) → slice_get s.bindings n ≡ Some b → IsShaped b
shaped_of s sound n b q = record {
  passed = λ side. let k : EndStands s (end_id n side) (end_in side b) = stands side in k.passed ∙ ap (λ (c : Binding). stations c.back) (same side);
  queue = λ side.
      let k : EndStands s (end_id n side) (end_in side b) = stands side in
      subst (λ (c : Binding). HasQueue c.back (end_in side b)) (same side) (takes_queue s k.binding.back (end_in side b) k.queue);
  way = λ route r.
      let leads : RouteLeads s route b = sound.routes n route (record { binding = b; there = q; back = r }) in
      (once_of route.cores leads.differ, leads.some);
}
  where
    stands : (side : Side) → EndStands s (end_id n side) (end_in side b)
    stands side = sound.ends (end_id n side) (end_in side b) (ap (λ (o : Option Binding). given o None (λ c. Some (end_in side c))) q)

    same : (side : Side) → (stands side).binding ≡ b
    same side = let u : Some (stands side).binding ≡ Some b = sym (stands side).there ∙ q in cc

-- ---- what stands first on a link

falls_to : (xs : List ℕ) (n : ℕ) → ((k : ℕ) → suc k < length xs → slice_index xs (suc k) ≤ slice_index xs k) → n < length xs → slice_index xs n ≤ slice_index xs 0
falls_to xs zero h a = omega arith
falls_to xs (suc n) h a =
    let ih : slice_index xs n ≤ slice_index xs 0 = falls_to xs n h (omega arith) in
    let step : slice_index xs (suc n) ≤ slice_index xs n = h n a in
    omega arith

opens_all : (route : Route) (v : OpeningVerdict) (d : Direction) → OpensBefore v d → 0 < written_of d → standing_by route v ≡ length route.cores
opens_all route (granted i) d h a = refl
opens_all route undecided d h a = let e : written_of d ≡ 0 = h in absurd (omega arith)
opens_all route (denied i fault) d h a = let e : written_of d ≡ 0 = h in absurd (omega arith)

module _ (s : State) (sound : Sound s) where
  pub sound_linked : Linked (plan_of s)
  sound_linked = to_linked s sound.cores sound.ends sound.links sound.owners

  pub sound_good : GoodIn s
  sound_good = good_of s sound.ways sound.labels

  begun_on : (side : Side) (n : ℕ) (route : Route) (r : Routed s n route) → OpensBefore route.verdict (end_in side r.binding).out
  begun_on Client n route r = (sound.begun n route r).0
  begun_on Server n route r = (sound.begun n route r).1

  pub onward_of : (here : LinkEnd) (p : FragAtHop) (first : RingLabel) (route : Route) (hop : Hop) → IsPassing here p first route hop s → Onward s.cores here p route hop
  onward_of here p first route hop k =
      let e : EndId = p.end in
      let b : Binding = k.binding in
      let back : b.back ≡ over_route route = route_is b.back route k.route_is in
      let routed : Routed s e.binding route = record { binding = b; there = k.binding_is; back = back } in
      let shaped : IsShaped b = shaped_of s sound e.binding b k.binding_is in
      let way : List ℕ = way_on e.side route.cores in
      let once_cores : Once route.cores = (shaped.way route back).0 in
      let once : Once way = once_on e.side route.cores once_cores in
      let t : LinkThere s here = link_there s here k.is_here in
      let own : ring_of (plan_of s) (core_to here.core here.neighbour) ≡ Some here.ring =
      owner_planned s (core_to here.core here.neighbour) here.ring (t.link, link_is s here.core here.neighbour t.core here.link t.link t.core_is t.place t.link_is, t.ring) in
      let stands : slice_get (reads s (core_to here.core here.neighbour)) 0 ≡ Some (label_of p) =
      first_read s here.ring (core_to here.core here.neighbour) first own k.first_is ∙ ap (λ x. Some x) k.label_is in
      let goes : Goes (sights s) here.neighbour here.core e = sound_good.reads (core_to here.core here.neighbour) 0 (label_of p) stands in
      let sight : sight_of b ≡ goes.sight = (let u : Some (sight_of b) ≡ Some goes.sight = sym (ap seen k.binding_is) ∙ goes.there in cc) in
      let cores : route.cores ≡ goes.cores =
      (let u : over route.cores ≡ over goes.cores = sym (ap joint_of back) ∙ ap (λ (x : Sight). x.joint) sight ∙ goes.joint in cc) in
      let place : ℕ = goes.place in
      let near : slice_get way place ≡ Some here.neighbour = ap (λ cs. slice_get (way_on e.side cs) place) cores ∙ goes.near in
      let far : slice_get way (suc place) ≡ Some here.core = ap (λ cs. slice_get (way_on e.side cs) (suc place)) cores ∙ goes.far in
      let (j, at, is) = given_there (place_in (drop 1 (way_of e.side route)) here.core) _ p.station k.station_is in
      let at_j : slice_get way (suc j) ≡ Some here.core =
      ap (λ w. slice_get w (suc j)) (sym (way_at e.side route)) ∙ sym (dropped_got (way_of e.side route) j) ∙ place_got (drop 1 (way_of e.side route)) here.core j at in
      let same : suc j ≡ suc place = once (suc j) (suc place) here.core at_j far in
      let station : j + 1 ≡ p.station = (let u : Some (j + 1) ≡ Some p.station = is in cc) in
      let within : suc place < length way = got_within way (suc place) here.core far in
      let long : length way ≡ length route.cores = way_long e.side route.cores in
      let whole : length (end_in e.side b).out.passed ≡ length route.cores + 1 = shaped.passed e.side ∙ ap stations back in
      let its : reader way place ≡ core_to here.core here.neighbour =
      ap (λ n. core_to n (slice_index way place)) (got_index way (suc place) here.core far) ∙ ap (core_to here.core) (got_index way place here.neighbour near) in
      let number = number_passes s e b place p.number _ sound_good k.binding_is (omega arith)
      (ap (λ x. picked e (before (reads s) (sights s) e x (suc place))) (ap joint_of back)
      ∙ ap (picked e) (before_link (reads s) (sights s) e route.cores place (λ u. absurd (omega arith)))
      ∙ ap (λ o. picked e (reads s o)) its ∙ picked_first e (reads s (core_to here.core here.neighbour)) p.number stands) in
      let less : slice_index (end_in e.side b).out.passed (suc place) < slice_index (end_in e.side b).out.passed place = number.1 in
      let most : slice_index (end_in e.side b).out.passed place ≤ slice_index (end_in e.side b).out.passed 0 =
      falls_to (end_in e.side b).out.passed place (λ n a. (sound.labels e b n k.binding_is a).falls) (omega arith) in
      let all : standing route ≡ length route.cores = opens_all route route.verdict (end_in e.side b).out (begun_on e.side e.binding route routed) (omega arith) in
      record {
        core = k.core;
        core_is = k.core_is;
        place = place;
        station = omega arith;
        near = near;
        far = far;
        leads = leads_on s here t k.core k.core_is hop k.number e.binding k.hop_is route k.number_is once_cores all (sound.entries e.binding route routed) place e.side near far;
      }

  pub may_label : MayLabel s
  may_label = record { linked = sound_linked; good = sound_good; shaped = shaped_of s sound; onward = onward_of; bare = sound.bare }

pub sound_ways : (s : State) (v : Event) → Sound s → LabelsKeepToTheirWays (step s v).state
sound_ways s v sound = ways_of (step s v).state (step_labels s v (may_label s sound))

pub sound_labels : (s : State) (v : Event) → Sound s → LabelsFollow (step s v).state
sound_labels s v sound = follows_of (step s v).state (step_labels s v (may_label s sound))
