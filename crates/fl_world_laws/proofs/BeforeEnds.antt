-- The fragments before an end.
use Rattle.std.proofs.Common.{◌≡◌, refl, sym, ◌∙◌, ap, subst, ℕ, suc, ◌+◌, ◌-◌, ◌<◌, ◌≤◌, ◌==◌, not, Bool, true, false, if◌then◌else◌}
use Rattle.std.proofs.Common.{List, [], map, length, slice_get, Option, Some, None, inr, arith}
use Rattle.std.specs.Prelude.{filter, slice_index, IsSome, IsNone}
use Rattle.std.proofs.lemmas.Bool.{false≢true}
use Rattle.std.specs.List.{range_with_len}
use Rattle.fl_base.specs.declared.fragment.Frag.{Frag}
use Rattle.fl_base.specs.declared.identity.EndId.{EndId}
use Rattle.fl_base.specs.declared.identity.Side.{Side}
use Rattle.fl_base.specs.declared.identity.Side.TheVariants.{Client, Server}
use Rattle.fl_base.specs.Control.{is_ack_only}
use Rattle.fl_base.specs.Ends.{other, peer}
use Rattle.fl_base.specs.Given.{given}
use Rattle.fl_link.specs.Queue.{TheQueue}
use Rattle.fl_ring.specs.Duo.{TheDuo, side_of as duo_side, acknowledgement}
use Rattle.fl_ring.specs.declared.one_duo.WhichSide.{WhichSide}
use Rattle.fl_core.specs.View.{TheCore, place_of}
use Rattle.fl_core.specs.declared.wiring.EndWiring.{EndWiring}
use Rattle.fl_core.specs.declared.wiring.EndWiring.TheVariants.{Queues, Ring as OverRing, Circuit}
use Rattle.fl_core.specs.declared.wiring.WiredEnd.{WiredEnd}
use Rattle.fl_model.specs.Calls.{Planned, stream}
use Rattle.fl_model.specs.Rings.{Label, next_of, says, acknowledges, Ring, RingEnd, read_by, written_by}
use Rattle.fl_model.specs.Ends.{Queue, Direction, Seat, End, last_station}
use Rattle.fl_model.specs.State.{Back, local, over_ring, over_route, Binding, State, binding_of, interface_of, end_in, own_ring, side_of, way_of}
use Rattle.fl_model.specs.Standing.{labels_of, queue_of, ring_from, number_of, picked, before_by}
use Rattle.fl_model.specs.SoundLabels.{MayStandFrom}
use Rattle.fl_model.specs.SoundPlaces.{stations, TakesFrom as EndTakesFrom}
use Rattle.fl_model.specs.Sound.{Sound}
use Rattle.fl_model_laws.proofs.BindingWalk.{given_there}
use Rattle.fl_model_laws.proofs.Cases.{either, Each}
use Rattle.fl_model_laws.proofs.ScenesSaid.{way_at}
use Rattle.fl_model_laws.proofs.Small.{first_of, some_same}
use Rattle.fl_model_laws.proofs.Ways.{way_long}
use Rattle.fl_world_refines.specs.Fragments.{frag_of, AreOf, calls_off_links}
use Rattle.fl_world_refines.specs.FragmentLaws.{CallsAreCarried}
use Rattle.fl_world_refines.specs.Rings.{which_of, RingShows}
use Rattle.fl_world_refines.specs.View.{TheWorld, side_number, which_at}
use Rattle.fl_world_refines.specs.ShowsState.{TakesFrom, IsWiring, IsMade, Shows}
use Rattle.fl_world_refines.proofs.Carried.{calls_carried, calls_are}
use Rattle.fl_world_refines.proofs.FramesBase.{gets, binding_of_end, end_of_binding}
use Rattle.fl_world_refines.proofs.FramesFind.{interface_known}
use Rattle.fl_world_refines.proofs.PassingLinkSides.{ring_of_number, which_of_number}
use Rattle.fl_world_refines.proofs.Small.{small_numbers}
use Rattle.fl_world_laws.specs.Places.{before_side, IsAt, before_end, aside, of_calls}
use Rattle.fl_world_laws.specs.Meaning.{before_the_take, EndMeans}
use Rattle.fl_world_laws.proofs.OnLinks.{read_are, is_it, same_self}
use Rattle.fl_world_laws.proofs.Picked.{SuitsBy, Suits, picked_are, piece, all_pass}

-- ---- the end in the machine

-- an end at a core, as the machine has it: its binding, its interface, and its wiring as the binding joins it
record Known (w : TheWorld) (s : State) (e : EndId) (c : TheCore) (wiring : EndWiring) : Type 0 where
  binding : Binding
  binding_is : binding_of s e ≡ Some binding
  interface : Planned
  interface_is : interface_of s binding ≡ Some interface
  joins : IsWiring w c s e binding wiring

-- the end that is made for a name at a core is the one found there
joined : (w : TheWorld) (s : State) (e : EndId) (c : TheCore) (n place : ℕ) (wired : WiredEnd) (b : Binding) (i : Planned) (seat : Seat)
    → slice_get w.cores n ≡ Some c → place_of c e ≡ Some place → slice_get c.wired_ends place ≡ Some wired → seat.dispatcher.core ≡ n
    → IsMade w s e b i seat → IsWiring w c s e b wired.wiring
joined w s e c n place wired b i seat core_is place_is wired_is at made =
    let core : made.core ≡ c = some_same made.core c (sym made.core_is ∙ ap (slice_get w.cores) at ∙ core_is) in
    let here : made.place ≡ place = some_same made.place place (sym made.place_is ∙ ap (λ (x : TheCore). place_of x e) core ∙ place_is) in
    let same : made.wired_end ≡ wired =
    some_same made.wired_end wired
    (sym made.wired_end_is ∙ ap (λ (x : TheCore). slice_get x.wired_ends made.place) core ∙ ap (slice_get c.wired_ends) here ∙ wired_is) in
    subst (λ (x : WiredEnd). IsWiring w c s e b x.wiring) same (subst (λ (x : TheCore). IsWiring w x s e b made.wired_end.wiring) core made.wiring)

known_at : (w : TheWorld) (s : State) (e : EndId) (c : TheCore) (n place : ℕ) (wired : WiredEnd) → Shows w s → slice_get w.cores n ≡ Some c
    → place_of c e ≡ Some place → slice_get c.wired_ends place ≡ Some wired → Known w s e c wired.wiring
known_at w s e c n place wired shows core_is place_is wired_is =
    let (x, (seat, end_is, seat_is, at)) = shows.showing.ends.only n c e place core_is place_is in
    let (b, there, is) = binding_of_end s e x end_is in
    let (i, interface_is) = interface_known s e b shows.sound there in
    record {
      binding = b;
      binding_is = there;
      interface = i;
      interface_is = interface_is;
      joins = joined w s e c n place wired b i seat core_is place_is wired_is at
          (shows.showing.ends.made e b i seat there interface_is (ap (λ (y : End). y.seat) is ∙ seat_is));
    }

known : (w : TheWorld) (s : State) (e : EndId) (c : TheCore) (wiring : EndWiring) → Shows w s → IsAt w e c wiring → Known w s e c wiring
known w s e c wiring shows at =
    let (place, place_is, rest) = given_there (place_of c e) (λ p. given (slice_get c.wired_ends p) None λ x. Some x.wiring) wiring at.wiring_is in
    let (wired, wired_is, is) = given_there (slice_get c.wired_ends place) (λ (x : WiredEnd). Some x.wiring) wiring rest in
    subst (Known w s e c) (some_same wired.wiring wiring is) (known_at w s e c at.place place wired shows at.core_is place_is wired_is)

-- ---- the last station

other_twice : (side : Side) → other (other side) ≡ side
other_twice Client = refl
other_twice Server = refl

peer_twice : (e : EndId) → peer (peer e) ≡ e
peer_twice e = ap (λ (side : Side). (let x : EndId = record { binding = e.binding; side = side } in x)) (other_twice e.side)

module _ (s : State) (sound : Sound s) (e : EndId) (b : Binding) (there : binding_of s e ≡ Some b) where
  abbrev sender : EndId
  sender = peer e

  abbrev out : Direction
  out = (end_in (other e.side) b).out

  long : length out.passed ≡ stations b.back
  long =
      let x = sound.ends sender (end_in (other e.side) b) (end_of_binding s sender b there) in
      x.passed ∙ ap (λ (y : Binding). stations y.back) (some_same x.binding b (sym x.there ∙ there))

  two : (back : Back) → b.back ≡ back → 2 ≤ stations back
  two local q = omega arith
  two (over_ring n) q = omega arith
  two (over_route route) q =
      let some = (sound.routes e.binding route (record { binding = b; there = there; back = q })).some in
      omega (arith, some)

  last_is : suc (last_station out - 1) ≡ last_station out
  last_is = let l = long in let t = two b.back refl in omega (arith, l, t)

  last_within : suc (last_station out - 1) < length out.passed
  last_within = let l = long in let t = two b.back refl in omega (arith, l, t)

  -- what stands there, by the labels before the take
  abbrev first_due : ℕ
  first_due = slice_index out.passed (suc (last_station out - 1))

  abbrev due_labels : List ℕ
  due_labels = range_with_len first_due (slice_index out.passed (last_station out - 1) - first_due)

  labels_due : (ls : List Label) → before_by s sender b.back (suc (last_station out - 1)) ≡ ls → picked sender ls ≡ due_labels
  labels_due ls q = ap (picked sender) (sym q) ∙ (sound.labels sender b (last_station out - 1) there last_within).labels

  -- from fragments that stand for these labels, those that are calls'
  pub calls_are_due : (i : Planned) → interface_of s b ≡ Some i → (test : Frag → Bool) (ls : List Label) (fs : List Frag)
      → before_by s sender b.back (suc (last_station out - 1)) ≡ ls → AreOf (calls_off_links s) ls fs
      → Each (Suits (calls_off_links s) test (number_of sender) (slice_get (calls_off_links s sender))) ls
      → filter test (aside fs) ≡ before_the_take i out
  calls_are_due i r test ls fs q are suits =
      piece (stream 0 i out.accepted) (filter test (aside fs)) first_due (slice_index out.passed (last_station out - 1) - first_due)
      (picked_are (calls_off_links s) test (number_of sender) (slice_get (calls_off_links s sender)) ls fs suits are
      ∙ ap (map (slice_get (calls_off_links s sender))) (labels_due ls q)
      ∙ ap (λ (xs : List Frag). map (slice_get xs) due_labels) (calls_are 0 s sender b i there r))

  -- a label of the sender's calls is picked
  pub sent_suits : (test : Frag → Bool) (k : ℕ) (f : Frag) → frag_of (calls_off_links s) (next_of sender k) ≡ Some f → test f ≡ true
      → SuitsBy (slice_get (calls_off_links s sender)) (number_of sender (next_of sender k)) (test f) f
  sent_suits test k f r t =
      subst (λ (x : Bool). SuitsBy (slice_get (calls_off_links s sender)) (if x then Some k else None) (test f) f) (sym (same_self sender)) (t, r)

  -- ---- in a queue

  queue_before : (back : Back) (q : Queue) → b.back ≡ back → (end_in e.side b).queue ≡ Some q
      → before_by s sender back (suc (last_station out - 1)) ≡ queue_of s (peer sender)
  queue_before local q p r = refl
  queue_before (over_ring n) q p r =
      let x = sound.ends e (end_in e.side b) (end_of_binding s e b there) in
      let one : x.binding ≡ b = some_same x.binding b (sym x.there ∙ there) in
      absurd (no_queue (end_in e.side b).queue q r
      (subst (λ (y : Back). EndTakesFrom s y (end_in e.side b)) (ap (λ (y : Binding). y.back) one ∙ p) x.queue).0)
    where
      no_queue : (o : Option Queue) (q : Queue) → o ≡ Some q → IsNone o → ⊥
      no_queue None q r h = absurd (cc)
      no_queue (Some x) q r h = absurd (let z : true ≡ false = h in cc)
  queue_before (over_route route) q p r =
      let way : length (way_of (peer e).side route) ≡ length route.cores = ap length (way_at (peer e).side route) ∙ way_long (peer e).side route.cores in
      let l : length out.passed ≡ length route.cores + 1 = long ∙ ap stations p in
      let t = two b.back refl in
      let u = long in
      let all : suc (last_station out - 1) ≡ length (way_of (peer e).side route) = omega (arith, way, l, t, u) in
      either (λ (ls : List Label). ls ≡ queue_of s (peer sender)) (suc (last_station out - 1) == length (way_of (peer e).side route)) _ _
      (λ v. refl) (λ v. absurd (false≢true (sym v ∙ is_it _ _ all)))

  queue_is : (q : Queue) → (end_in e.side b).queue ≡ Some q → queue_of s (peer sender) ≡ q.labels
  queue_is q r =
      ap (queue_of s) (peer_twice e)
      ∙ ap (λ (o : Option End). given o [] λ x. given x.queue [] λ y. y.labels) (end_of_binding s e b there)
      ∙ ap (λ (o : Option Queue). given o [] λ y. y.labels) r

  queued_suit : (q : Queue) → (end_in e.side b).queue ≡ Some q
      → Each (Suits (calls_off_links s) (λ (f : Frag). true) (number_of sender) (slice_get (calls_off_links s sender))) q.labels
  queued_suit q r n l p f u =
      let labels : queue_of s e ≡ q.labels = ap (queue_of s) (sym (peer_twice e)) ∙ queue_is q r in
      let its = sound.ways.queues e l (first_of (queue_of s e) n l (ap (λ (ls : List Label). slice_get ls n) labels ∙ p)) in
      subst (λ (x : Label). SuitsBy (slice_get (calls_off_links s sender)) (number_of sender x) true f) (sym its.1)
      (sent_suits (λ (g : Frag). true) its.0 f (subst (λ (x : Label). frag_of (calls_off_links s) x ≡ Some f) its.1 u) refl)

  pub in_queue_means : (i : Planned) → interface_of s b ≡ Some i → (queues : List TheQueue) (place : ℕ) → TakesFrom queues s (end_in e.side b) place
      → aside (given (slice_get queues place) [] λ q. q.items) ≡ before_the_take i out
  in_queue_means i r queues place from =
      let items : (given (slice_get queues place) [] λ (q : TheQueue). q.items) ≡ from.there.items =
      ap (λ (o : Option TheQueue). given o [] λ q. q.items) from.there_is in
      ap aside items ∙ sym (all_pass (aside from.there.items))
      ∙ calls_are_due i r (λ (f : Frag). true) from.queue.labels from.there.items
      (queue_before b.back from.queue refl from.queue_is ∙ queue_is from.queue from.queue_is) from.shows.frags (queued_suit from.queue from.queue_is)

  -- ---- on a ring

  ring_labels : (at : RingEnd) (r : Ring) → own_ring e.side b.back ≡ Some at → slice_get s.rings at.ring ≡ Some r
      → (b.back ≡ over_ring at.ring) × (ring_from s sender at.ring ≡ labels_of (read_by at.side r).waiting)
  ring_labels at r q u = by b.back refl q
    where
      across : (side : Side) → labels_of (written_by (side_of (other side)) r).waiting ≡ labels_of (read_by (side_of side) r).waiting
      across Client = refl
      across Server = refl

      by : (back : Back) → b.back ≡ back → own_ring e.side back ≡ Some at
          → (b.back ≡ over_ring at.ring) × (ring_from s sender at.ring ≡ labels_of (read_by at.side r).waiting)
      by local p v = absurd (cc)
      by (over_route route) p v = absurd (cc)
      by (over_ring n) p v =
          let is : record { ring = n; side = side_of e.side } ≡ at = some_same (record { ring = n; side = side_of e.side }) at v in (
            p ∙ ap (λ (x : RingEnd). over_ring x.ring) is,
            ap (λ (o : Option Ring). given o [] λ x. labels_of (written_by (side_of (other e.side)) x).waiting) u ∙ across e.side
                ∙ ap (λ (x : RingEnd). labels_of (read_by x.side r).waiting) is,
          )

  ring_suit : CallsAreCarried s → (at : RingEnd) (r : Ring) → b.back ≡ over_ring at.ring
      → ring_from s sender at.ring ≡ labels_of (read_by at.side r).waiting
      → Each (Suits (calls_off_links s) (λ (f : Frag). not (is_ack_only f)) (number_of sender) (slice_get (calls_off_links s sender)))
      (labels_of (read_by at.side r).waiting)
  ring_suit carried at r back labels n l p f u = by l u
      (sound.ways.rings sender b at.ring l there back (first_of (ring_from s sender at.ring) n l (ap (λ (ls : List Label). slice_get ls n) labels ∙ p)))
    where
      by : (l : Label) → frag_of (calls_off_links s) l ≡ Some f → MayStandFrom sender l
          → SuitsBy (slice_get (calls_off_links s sender)) (number_of sender l) (not (is_ack_only f)) f
      by (next_of g k) v h =
          let mine : frag_of (calls_off_links s) (next_of sender k) ≡ Some f
          = subst (λ (x : EndId). frag_of (calls_off_links s) (next_of x k) ≡ Some f) h v in
          subst (λ (x : EndId). SuitsBy (slice_get (calls_off_links s sender)) (number_of sender (next_of x k)) (not (is_ack_only f)) f) (sym h)
          (sent_suits (λ (x : Frag). not (is_ack_only x)) k f mine (ap not (carried.off_links sender k f mine).no_ack))
      by (says m) v h = absurd h
      by acknowledges v h = ap (λ (x : Frag). not (is_ack_only x)) (sym (some_same acknowledgement f v))

  pub on_ring_means : (w : TheWorld) → Shows w s → (i : Planned) → interface_of s b ≡ Some i → (at : RingEnd) (side : ℕ) → own_ring e.side b.back ≡ Some at
      → side ≡ side_number at → filter (λ (f : Frag). not (is_ack_only f)) (aside (before_side w side)) ≡ before_the_take i out
  on_ring_means w shows i t at side own is =
      let x = sound.ends e (end_in e.side b) (end_of_binding s e b there) in
      let r = there_is (slice_get s.rings at.ring) x.binding x.there x.queue in
      let labels = ring_labels at r.0 own r.1 in
      let duo = gets s.rings w.rings at.ring r.0 shows.showing.rings.count r.1 in
      let ring : RingShows (calls_off_links s) r.0 duo.0 =
      shows.showing.rings.each at.ring r.0 duo.0 (calls_off_links s) r.1 duo.1 (inr (e.binding, b, there, labels.0, refl)) in
      let frags : before_side w side ≡ (duo_side (which_of at.side) duo.0).waiting =
      ap (before_side w) is
      ∙ ap (λ (n : ℕ). given (slice_get w.rings n) [] λ d. (duo_side (which_at (side_number at)) d).waiting) (ring_of_number at)
      ∙ ap (λ (y : WhichSide). given (slice_get w.rings at.ring) [] λ d. (duo_side y d).waiting) (which_of_number at)
      ∙ ap (λ (o : Option TheDuo). given o [] λ d. (duo_side (which_of at.side) d).waiting) duo.1 in
      let carried : CallsAreCarried s =
      calls_carried s sound.calls shows.showing.limits (small_numbers s sound.cores sound.numbers sound.opened_numbers) in
      ap (λ (fs : List Frag). filter (λ (f : Frag). not (is_ack_only f)) (aside fs)) frags
      ∙ calls_are_due i t (λ (f : Frag). not (is_ack_only f)) (labels_of (read_by at.side r.0).waiting) (duo_side (which_of at.side) duo.0).waiting
      (ap (λ (y : Back). before_by s sender y (suc (last_station out - 1))) labels.0 ∙ labels.1) (read_are (calls_off_links s) at.side r.0 duo.0 ring)
      (ring_suit carried at r.0 labels.0 labels.1)
    where
      there_is : (o : Option Ring) (y : Binding) → slice_get s.bindings e.binding ≡ Some y → EndTakesFrom s y.back (end_in e.side b)
          → (r : Ring) × (slice_get s.rings at.ring ≡ Some r)
      there_is o y p q =
          let same : y ≡ b = some_same y b (sym p ∙ there) in
          by b.back refl own (subst (λ (z : Binding). EndTakesFrom s z.back (end_in e.side b)) same q)
        where
          got : (o : Option Ring) → IsSome o → (r : Ring) × (o ≡ Some r)
          got None h = absurd (let z : false ≡ true = h in cc)
          got (Some r) h = (r, refl)

          by : (back : Back) → b.back ≡ back → own_ring e.side back ≡ Some at → EndTakesFrom s back (end_in e.side b)
              → (r : Ring) × (slice_get s.rings at.ring ≡ Some r)
          by local u v h = absurd (cc)
          by (over_route route) u v h = absurd (cc)
          by (over_ring n) u v h =
              let is : record { ring = n; side = side_of e.side } ≡ at = some_same (record { ring = n; side = side_of e.side }) at v in
              subst (λ (x : RingEnd). (r : Ring) × (slice_get s.rings x.ring ≡ Some r)) is (got (slice_get s.rings n) h.1)

-- ---- by how the end is wired

wired_means : (w : TheWorld) (s : State) (shows : Shows w s) (e : EndId) (c : TheCore) (b : Binding) (i : Planned) (there : binding_of s e ≡ Some b)
    → interface_of s b ≡ Some i → (wiring : EndWiring) → IsWiring w c s e b wiring
    → of_calls wiring (aside (before_end w c wiring)) ≡ before_the_take i (end_in (other e.side) b).out
wired_means w s shows e c b i there r (Queues to from) h = in_queue_means s shows.sound e b there i r w.queues from h.1
wired_means w s shows e c b i there r (OverRing side) h = on_ring_means s shows.sound e b there w shows i r h.0 side h.1 h.2
wired_means w s shows e c b i there r (Circuit link arrivals) h = in_queue_means s shows.sound e b there i r c.arrivals arrivals h.1

pub end_means : (w : TheWorld) (s : State) (e : EndId) (c : TheCore) (wiring : EndWiring) → Shows w s → IsAt w e c wiring → EndMeans w s e c wiring
end_means w s e c wiring shows at =
    let k = known w s e c wiring shows at in
    record {
      binding = k.binding;
      binding_is = k.binding_is;
      interface = k.interface;
      interface_is = k.interface_is;
      calls = wired_means w s shows e c k.binding k.interface k.binding_is k.interface_is wiring k.joins;
    }
