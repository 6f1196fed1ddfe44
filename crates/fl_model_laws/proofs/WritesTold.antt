-- In a sound state a write answers `nothing`, and nothing is shown, only where all of the end's calls is written.
use Rattle.std.proofs.Common.{◌≡◌, ◌≢◌, refl, sym, ◌∙◌, ap, subst, ℕ, zero, suc, ◌+◌, ◌-◌, ◌<◌, ◌≤◌, not, Bool, true, false}
use Rattle.std.proofs.Common.{List, [], ◌∷◌, ◌++◌, length, reverse, slice_get, slice_index, Option, Some, None, arith}
use Rattle.std.specs.Prelude.{IsSome, is_some, unwrap_or}
use Rattle.std.specs.List.{range_with_len}
use Rattle.std.proofs.lemmas.Bool.{true≢false}
use Rattle.std.proofs.lemmas.List.{length-append, length-reverse, length-map, get_or-reverse}
use Rattle.std.proofs.lemmas.List.FromFn.{length-range_with_len}
use Rattle.fl_base.specs.declared.fragment.Frag.{Frag}
use Rattle.fl_base.specs.declared.identity.EndId.{EndId}
use Rattle.fl_base.specs.declared.identity.Side.{Side}
use Rattle.fl_base.specs.declared.identity.Side.TheVariants.{Client, Server}
use Rattle.fl_base.specs.Given.{given}
use Rattle.fl_value_data.specs.Value.{TheCall}
use Rattle.fl_wire.specs.Payload.{payload_of, frag_on, frags_on}
use Rattle.fl_model.specs.Events.{write, show, nothing}
use Rattle.fl_model.specs.Calls.{Planned, fragments, total, stream}
use Rattle.fl_model.specs.Rings.{Room, there_is_room, no_room, spent}
use Rattle.fl_model.specs.Ends.{End, Direction, written_of, is_busy, is_bound, writes, Wrote, writes_by}
use Rattle.fl_model.specs.Monitors.{Link}
use Rattle.fl_model.specs.State.{OpeningVerdict, undecided, granted, denied, Route, Back, local, over_ring, over_route, Binding, State, Outlet, peer_queue, ring_side, side_of, binding_of, interface_of, end_in, way_of, first_link, outlet_by, link_between}
use Rattle.fl_model.specs.Sending.{outlet_room, makes_sure_of, writes_to, writes_fragment, next_fragment, shows}
use Rattle.fl_model.specs.Standing.{Routed, core_at}
use Rattle.fl_model.specs.SoundPlaces.{LinkIsPaired}
use Rattle.fl_model.specs.SoundRoutes.{RouteLeads, NumbersGo, VerdictFits, BoundBy, BoundWhere}
use Rattle.fl_model.specs.Sound.{Sound}
use Rattle.fl_model.specs.Step.{step}
use Rattle.fl_model.specs.Worlds.{WritesUnderstand, ShowsUnderstand}
use Rattle.fl_model_laws.proofs.Cases.{either}
use Rattle.fl_model_laws.proofs.EndsStanding.{there_is as stands_there}
use Rattle.fl_model_laws.proofs.ListingKept.{some_there}
use Rattle.fl_model_laws.proofs.TurnsTold.{there_is, Tells}
use Rattle.fl_model_laws.proofs.Small.{is_not, less}

-- ---- places on a way

pub get_at : (xs : List ℕ) (n : ℕ) → n < length xs → slice_get xs n ≡ Some (slice_index xs n)
get_at [] n h = absurd (omega arith)
get_at (x ∷ xs) zero h = refl
get_at (x ∷ xs) (suc n) h = get_at xs n (omega arith)

pub get_back : (xs : List ℕ) (n : ℕ) → n < length xs → slice_get (reverse xs) n ≡ Some (slice_index xs (length xs - 1 - n))
get_back xs n h =
    let long : length (reverse xs) ≡ length xs = length-reverse xs in
    get_at (reverse xs) n (omega arith) ∙ ap (λ (k : ℕ). Some k) (get_or-reverse xs n 0 h)

-- ---- an end's outlet

link_first : (s : State) (way : List ℕ) (a b : ℕ) (link : Link) → slice_get way 0 ≡ Some a → slice_get way 1 ≡ Some b → link_between s a b ≡ Some link
    → first_link s way ≡ Some link
link_first s way a b link p q r =
    there_is (λ (o : Option Link). o ≡ Some link) (slice_get way 0) _ _ a p (there_is (λ (o : Option Link). o ≡ Some link) (slice_get way 1) _ _ b q r)

granted_by : (route : Route) (b : Binding) (v : OpeningVerdict) → BoundBy route v b → IsSome b.server.circuit → VerdictFits route v
    → length route.numbers + 1 ≡ length route.cores
granted_by route b undecided h some fits = absurd (true≢false (sym some ∙ ap is_some h.1))
granted_by route b (granted i) h some fits = fits.0
granted_by route b (denied i fault) h some fits = absurd (true≢false (sym some ∙ ap is_some h.1))

module _ (s : State) (sound : Sound s) where
  first_there : (n : ℕ) (route : Route) (r : Routed s n route) (side : Side) → IsSome (end_in side r.binding).circuit
      → (link : Link) × (first_link s (way_of side route) ≡ Some link)
  first_there n route r Client bound =
      let go : NumbersGo s route = sound.numbers n route r in
      let leads : RouteLeads s route r.binding = sound.routes n route r in
      let one : 1 ≤ length route.numbers = go.some in
      let two : 2 ≤ length route.cores = leads.some in
      let (link, is) = some_there (link_between s (core_at route 0) (core_at route (0 + 1))) (go.linked 0 (omega arith)) in
      (link, link_first s route.cores (core_at route 0) (core_at route (0 + 1)) link (get_at route.cores 0 (omega arith)) (get_at route.cores 1 (omega arith)) is)
  first_there n route r Server bound =
      let go : NumbersGo s route = sound.numbers n route r in
      let leads : RouteLeads s route r.binding = sound.routes n route r in
      let two : 2 ≤ length route.cores = leads.some in
      let by : BoundBy route route.verdict r.binding = subst (λ (a : Back). BoundWhere a r.binding) r.back (sound.bound n r.binding r.there) in
      let whole : length route.numbers + 1 ≡ length route.cores = granted_by route r.binding route.verdict by bound (sound.verdicts n route r) in
      let j : ℕ = length route.cores - 2 in
      let (link, is) = some_there (link_between s (core_at route j) (core_at route (j + 1))) (go.linked j (omega arith)) in
      let paired : LinkIsPaired s (core_at route j) (core_at route (j + 1)) link = sound.links (core_at route j) (core_at route (j + 1)) link is in (
        paired.back,
        link_first s (reverse route.cores) (core_at route (j + 1)) (core_at route j) paired.back
            (get_back route.cores 0 (omega arith) ∙ ap (λ (k : ℕ). Some (core_at route k)) (omega arith))
            (get_back route.cores 1 (omega arith) ∙ ap (λ (k : ℕ). Some (core_at route k)) (omega arith)) paired.back_is,
      )

  outlet_there : (e : EndId) (b : Binding) (back : Back) → binding_of s e ≡ Some b → b.back ≡ back → IsSome (end_in e.side b).circuit
      → (o : Outlet) × (outlet_by s e.side back ≡ Some o)
  outlet_there e b local q is bound = (peer_queue, refl)
  outlet_there e b (over_ring n) q is bound = (ring_side (record { ring = n; side = side_of e.side }), refl)
  outlet_there e b (over_route route) q is bound =
      let (link, there) = first_there e.binding route (record { binding = b; there = q; back = is }) e.side bound in
      (ring_side link.ring, ap (λ (o : Option Link). given o None λ l. Some (ring_side l.ring)) there)

-- ---- a write

wrote_tells : (i : Planned) (d : Direction) (r : Room) → is_busy i d ≡ true → (writes i d r).answer ≢ nothing
wrote_tells i d r busy =
    either (λ (w : Wrote). w.answer ≢ nothing) (is_busy i d) _ _ (λ q. by_room r) (λ q. absurd (true≢false (sym busy ∙ q)))
  where
    by_room : (r : Room) → (writes_by i d r).answer ≢ nothing
    by_room there_is_room = λ h. absurd (cc)
    by_room no_room = λ h. absurd (cc)
    by_room spent = λ h. absurd (cc)

room_tells : (e : EndId) (i : Planned) (d : Direction) (o : Outlet) (r : Room) (s : State) → is_busy i d ≡ true → Tells (writes_to e i d o r s)
room_tells e i d o there_is_room s busy = wrote_tells i d there_is_room busy
room_tells e i d o no_room s busy = wrote_tells i d no_room busy
room_tells e i d o spent s busy = wrote_tells i d spent busy

module _ (s : State) (sound : Sound s) (e : EndId) (b : Binding) (i : Planned) (q : binding_of s e ≡ Some b) (r : interface_of s b ≡ Some i) where
  write_tells : is_busy i (end_in e.side b).out ≡ true → Tells (writes_fragment e s)
  write_tells busy =
      there_is Tells (binding_of s e) _ _ b q
      (there_is Tells (interface_of s b) _ _ i r
      (either Tells (not (is_bound (end_in e.side b))) _ _ (λ t h. absurd (cc))
      (λ t. either Tells (not (is_busy i (end_in e.side b).out)) _ _ (λ u. absurd (true≢false (sym u ∙ ap not busy)))
      (λ u.
      let (o, there) = outlet_there s sound e b b.back q refl (is_not (is_bound (end_in e.side b)) t) in
      there_is Tells (outlet_by s e.side b.back) _ _ o there
      (room_tells e i (end_in e.side b).out o (outlet_room e o (makes_sure_of o s)) (makes_sure_of o s) busy)))))

  write_by : (t : Bool) → is_busy i (end_in e.side b).out ≡ t → (step s (write e)).answer ≡ nothing → is_busy i (end_in e.side b).out ≡ false
  write_by true u h = absurd (write_tells u h)
  write_by false u h = u

pub writes_understand : WritesUnderstand
writes_understand s e b i sound q r h = write_by s sound e b i q r (is_busy i (end_in e.side b).out) refl h

-- ---- what would be written

length_stream : (circuit : ℕ) (i : Planned) (cs : List TheCall) → length (stream circuit i cs) ≡ total i cs
length_stream circuit i [] = refl
length_stream circuit i (c ∷ cs) =
    let first : length (frags_on circuit i.plan i.interface c) ≡ fragments i c =
    length-map (range_with_len 0 (fragments i c)) (frag_on circuit c.msg (payload_of i.plan i.interface c)) ∙ length-range_with_len 0 (fragments i c) in
    let rest : length (stream circuit i cs) ≡ total i cs = length_stream circuit i cs in
    let both : length (frags_on circuit i.plan i.interface c ++ stream circuit i cs)
    ≡ length (frags_on circuit i.plan i.interface c) + length (stream circuit i cs) =
    length-append (frags_on circuit i.plan i.interface c) (stream circuit i cs) in
    omega arith

next_there : (i : Planned) (x : End) → is_busy i x.out ≡ true → (f : Frag) × (next_fragment i x ≡ Some f)
next_there i x busy =
    let long : length (stream (unwrap_or x.circuit 0) i x.out.accepted) ≡ total i x.out.accepted = length_stream (unwrap_or x.circuit 0) i x.out.accepted in
    let below : written_of x.out < total i x.out.accepted = less (written_of x.out) (total i x.out.accepted) busy in
    some_there (next_fragment i x) (stands_there (stream (unwrap_or x.circuit 0) i x.out.accepted) (written_of x.out) (omega arith))

module _ (s : State) (sound : Sound s) (e : EndId) (b : Binding) (i : Planned) (q : binding_of s e ≡ Some b) (r : interface_of s b ≡ Some i) where
  show_tells : is_busy i (end_in e.side b).out ≡ true → Tells (shows e s)
  show_tells busy =
      let (f, next) = next_there i (end_in e.side b) busy in
      there_is Tells (binding_of s e) _ _ b q
      (there_is Tells (interface_of s b) _ _ i r
      (either Tells (not (is_bound (end_in e.side b))) _ _ (λ t h. absurd (cc))
      (λ t.
      let (o, there) = outlet_there s sound e b b.back q refl (is_not (is_bound (end_in e.side b)) t) in
      there_is Tells (next_fragment i (end_in e.side b)) _ _ f next (there_is Tells (outlet_by s e.side b.back) _ _ o there (λ h. absurd (cc))))))

  show_by : (t : Bool) → is_busy i (end_in e.side b).out ≡ t → (step s (show e)).answer ≡ nothing → is_busy i (end_in e.side b).out ≡ false
  show_by true u h = absurd (show_tells u h)
  show_by false u h = u

pub shows_understand : ShowsUnderstand
shows_understand s e b i sound q r h = show_by s sound e b i q r (is_busy i (end_in e.side b).out) refl h
