-- What stands first for an end: the fragment next in turn of the other end's calls.
use Rattle.std.proofs.Common.{◌≡◌, refl, sym, ◌∙◌, ap, subst, ℕ, zero, suc, ◌+◌, ◌-◌, ◌≤◌, ◌<◌, ◌==◌, ◌&&◌, Bool, true, false, if◌then◌else◌, List, [], ◌∷◌, length, slice_get, slice_index, Option, Some, None, arith}
use Rattle.std.specs.Prelude.{Contains, IsSome}
use Rattle.std.specs.List.{range_with_len, filter_map}
use Rattle.std.proofs.lemmas.List.{length-reverse}
use Rattle.std.proofs.lemmas.Option.{same_Some, slice_get_within, get_or_from_slice_get}
use Rattle.std.proofs.lemmas.Bool.Decides.{nat_tests}
use Rattle.fl_base.specs.declared.fragment.Frag.{Frag}
use Rattle.fl_base.specs.declared.identity.EndId.{EndId}
use Rattle.fl_base.specs.declared.identity.Side.{Side}
use Rattle.fl_base.specs.declared.identity.Side.TheVariants.{Client, Server}
use Rattle.fl_base.specs.Ends.{peer, other}
use Rattle.fl_base.specs.Given.{given}
use Rattle.fl_model.specs.Calls.{Planned, total, stream}
use Rattle.fl_model.specs.Rings.{Label, next_of, says, acknowledges, RingLabel, Ring, RingEnd, RingSide, first_side, second_side, written_by, read_by, first_for}
use Rattle.fl_model.specs.Ends.{Queue, taken_of, last_station, End}
use Rattle.fl_model.specs.State.{Route, Back, local, over_ring, over_route, Binding, State, end_in, end_of, own_ring, side_of, way_of}
use Rattle.fl_model.specs.Runs.{same_end, same_side}
use Rattle.fl_model.specs.Standing.{labels_of, queue_of, ring_from, before_by, number_of, picked}
use Rattle.fl_model.specs.SoundPlaces.{EndsStand, EndStands, stations}
use Rattle.fl_model.specs.SoundRoutes.{RoutesLead}
use Rattle.fl_model.specs.SoundLabels.{LabelsFollow, StandsBefore, LabelsKeepToTheirWays, MayStandFrom, WritesAreCounted}
use Rattle.fl_world_refines.specs.Fragments.{frag_of, calls_off_links}
use Rattle.fl_world_refines.specs.RingLaws.{IsFirst, StandsFirst, HoldsCalls, is_data}
use Rattle.fl_world_refines.specs.StateLaws.{EndIn, taken_by, IsInTurn, FirstInTurn}
use Rattle.fl_world_refines.proofs.Matching.{same_heads}
use Rattle.fl_world_refines.proofs.Carried.{calls_are}

-- ---- ends

other_twice : (side : Side) → other (other side) ≡ side
other_twice Client = refl
other_twice Server = refl

peer_twice : (e : EndId) → peer (peer e) ≡ e
peer_twice e = ap (λ (side : Side). record { binding = e.binding; side = side }) (other_twice e.side)

same_number : (n : ℕ) → (n == n) ≡ true
same_number n = grind (arith, nat_tests)

sides_same : (side : Side) → same_side side side ≡ true
sides_same Client = refl
sides_same Server = refl

ends_same : (e : EndId) → same_end e e ≡ true
ends_same e = ap (λ (b : Bool). b && same_side e.side e.side) (same_number e.binding) ∙ sides_same e.side

there : (s : State) (e : EndId) (b : Binding) → slice_get s.bindings e.binding ≡ Some b → end_of s e ≡ Some (end_in e.side b)
there s e b q = ap (λ (o : Option Binding). given o None λ x. Some (end_in e.side x)) q

-- how many stations an end's calls pass
long : (s : State) (e : EndId) (b : Binding) → EndsStand s → slice_get s.bindings e.binding ≡ Some b → length (end_in e.side b).out.passed ≡ stations b.back
long s e b stand q =
    let k : EndStands s e (end_in e.side b) = stand e (end_in e.side b) (there s e b q) in
    k.passed ∙ ap (λ (x : Binding). stations x.back) (same_Some k.binding b (sym k.there ∙ q))

-- ---- numbers picked of labels

-- the first label, where it is this end's, is the first that is picked
first_picked : (e : EndId) (k : ℕ) (labels : List Label) (n m : ℕ) → slice_get labels 0 ≡ Some (next_of e k) → picked e labels ≡ range_with_len n m → k ≡ n
first_picked e k [] n m q h = absurd (cc)
first_picked e k (l ∷ ls) n m q h =
    let is : l ≡ next_of e k = same_Some l (next_of e k) q in
    let first : number_of e l ≡ Some k = ap (number_of e) is ∙ ap (λ (b : Bool). if b then Some k else None) (ends_same e) in
    cases m (sym (picked_more l ls first) ∙ h)
  where
    picked_more : (x : Label) (xs : List Label) → number_of e x ≡ Some k → picked e (x ∷ xs) ≡ k ∷ picked e xs
    picked_more x xs r = rw r refl

    cases : (m : ℕ) → k ∷ picked e ls ≡ range_with_len n m → k ≡ n
    cases zero r = absurd (cc)
    cases (suc m) r = same_heads k n (picked e ls) (range_with_len (n + 1) m) r

contains_at : (xs : List Label) (n : ℕ) (x : Label) → slice_get xs n ≡ Some x → Contains xs x
contains_at xs n x q = (n, slice_get_within xs n x q, get_or_from_slice_get xs n x x q)

-- ---- the last station

-- what stands before the last station of an end's calls
abbrev Last : State → EndId → Binding → List Label → Type 0
Last s e b labels = (m : ℕ) × (picked e labels ≡ range_with_len (taken_of (end_in e.side b).out) m)

last_of : (s : State) (e : EndId) (b : Binding) (j : ℕ) → LabelsFollow s → slice_get s.bindings e.binding ≡ Some b
    → length (end_in e.side b).out.passed ≡ suc (suc j) → Last s e b (before_by s e b.back (suc j))
last_of s e b j follow q n =
    let k : StandsBefore s e b j = follow e b j q (omega (arith, n)) in
    let at : suc j ≡ last_station (end_in e.side b).out = omega (arith, n) in (
      slice_index (end_in e.side b).out.passed j - slice_index (end_in e.side b).out.passed (suc j),
      k.labels ∙ ap (λ (m : ℕ). range_with_len (slice_index (end_in e.side b).out.passed m)
          (slice_index (end_in e.side b).out.passed j - slice_index (end_in e.side b).out.passed (suc j))) at,
    )

-- ---- queues

way_length : (side : Side) (route : Route) → length (way_of side route) ≡ length route.cores
way_length Client route = refl
way_length Server route = length-reverse route.cores

same_last : (s : State) (e : EndId) (b : Binding) (xs ys : List Label) → xs ≡ ys → Last s e b ys → Last s e b xs
same_last s e b xs ys h k = (k.0, ap (picked e) h ∙ k.1)

before_last : (s : State) (e : EndId) (route : Route) (j : ℕ) → j ≡ length (way_of e.side route)
    → before_by s e (over_route route) j ≡ queue_of s (peer e)
before_last s e route j h =
    let test : (j == length (way_of e.side route)) ≡ true = ap (λ (n : ℕ). j == n) (sym h) ∙ same_number j in
    rw test refl

-- for an end with a queue, that is what stands before the last station of the other's calls
queue_last : (s : State) (e : EndId) (b : Binding) (q : Queue) → EndsStand s → RoutesLead s → LabelsFollow s → slice_get s.bindings e.binding ≡ Some b
    → (end_in e.side b).queue ≡ Some q → Last s (peer e) b (queue_of s e)
queue_last s e b q stand lead follow at has = by_back b.back refl where
  same_queue : queue_of s (peer (peer e)) ≡ queue_of s e
  same_queue = ap (queue_of s) (peer_twice e)

  far : (back : Back) → b.back ≡ back → length (end_in (peer e).side b).out.passed ≡ stations back
  far back r = long s (peer e) b stand at ∙ ap stations r

  by_back : (back : Back) → b.back ≡ back → Last s (peer e) b (queue_of s e)
  by_back local r =
      let k = last_of s (peer e) b 0 follow at (far local r) in
      (k.0, ap (picked (peer e)) (sym same_queue ∙ ap (λ (x : Back). before_by s (peer e) x 1) (sym r)) ∙ k.1)
  by_back (over_ring n) r =
      let k = stand e (end_in e.side b) (there s e b at) in
      let is : k.binding.back ≡ over_ring n = ap (λ (x : Binding). x.back) (same_Some k.binding b (sym k.there ∙ at)) ∙ r in
      let takes : Rattle.fl_model.specs.SoundPlaces.TakesFrom s (over_ring n) (end_in e.side b)
      = subst (λ (x : Back). Rattle.fl_model.specs.SoundPlaces.TakesFrom s x (end_in e.side b)) is k.queue in
      absurd (let u : true ≡ false = sym (ap Rattle.std.specs.Prelude.is_some has) ∙ takes.0 in cc)
  by_back (over_route route) r =
      let leads = lead e.binding route (record { binding = b; there = at; back = r }) in
      let some = leads.some in
      let wide = far (over_route route) r in
      let way = way_length (peer e).side route in
      let j : ℕ = length route.cores - 1 in
      let last : suc (length route.cores - 1) ≡ length (way_of (peer e).side route) = omega (arith, some, way) in
      let k = last_of s (peer e) b (length route.cores - 1) follow at (omega (arith, some, wide)) in
      let before = before_last s (peer e) route (suc (length route.cores - 1)) last in
      let back : before_by s (peer e) (over_route route) (suc (length route.cores - 1)) ≡ before_by s (peer e) b.back (suc (length route.cores - 1))
      = ap (λ (x : Back). before_by s (peer e) x (suc (length route.cores - 1))) (sym r) in
      same_last s (peer e) b _ _ (sym same_queue ∙ (sym before ∙ back)) k

queue_is : (s : State) (e : EndId) (b : Binding) (q : Queue) → slice_get s.bindings e.binding ≡ Some b → (end_in e.side b).queue ≡ Some q → queue_of s e ≡ q.labels
queue_is s e b q at has =
    ap (λ (o : Option End). given o [] λ x. given x.queue [] λ y. y.labels) (there s e b at)
    ∙ ap (λ (o : Option Queue). given o [] λ y. y.labels) has

-- a label of the other end's that stands first is that of the fragment next in turn
in_turn : (s : State) (e : EndId) (b : Binding) (i : Planned) (labels : List Label) (label : Label) (k : ℕ) (f : Frag) → EndIn s e b i
    → Last s (peer e) b labels → slice_get labels 0 ≡ Some label → label ≡ next_of (peer e) k → frag_of (calls_off_links s) label ≡ Some f
    → IsInTurn i (taken_by e b) f
in_turn s e b i labels label k f here last first is frag =
    let number : k ≡ taken_of (taken_by e b) = first_picked (peer e) k labels (taken_of (taken_by e b)) last.0 (first ∙ ap Some is) last.1 in
    ap (λ (n : ℕ). slice_get (stream 0 i (taken_by e b).accepted) n) (sym number)
    ∙ ap (λ (fs : List Frag). slice_get fs k) (sym (calls_are 0 s (peer e) b i here.binding here.interface))
    ∙ ap (frag_of (calls_off_links s)) (sym is) ∙ frag

queues_in_turn : (s : State) → EndsStand s → RoutesLead s → LabelsFollow s → LabelsKeepToTheirWays s
    → (e : EndId) (b : Binding) (i : Planned) (q : Queue) (f : Frag) → EndIn s e b i → (end_in e.side b).queue ≡ Some q
    → StandsFirst (calls_off_links s) q f → IsInTurn i (taken_by e b) f
queues_in_turn s stand lead follow keep e b i q f here has first =
    let labels : queue_of s e ≡ q.labels = queue_is s e b q here.binding has in
    let at : slice_get (queue_of s e) 0 ≡ Some first.first = ap (λ (ls : List Label). slice_get ls 0) labels ∙ first.there in
    let of_peer = keep.queues e first.first (contains_at (queue_of s e) 0 first.first at) in
    in_turn s e b i (queue_of s e) first.first of_peer.0 f here (queue_last s e b q stand lead follow here.binding has) at of_peer.1 first.frag

hold_calls : (s : State) → LabelsKeepToTheirWays s → (e : EndId) (b : Binding) (i : Planned) (q : Queue) → EndIn s e b i
    → (end_in e.side b).queue ≡ Some q → HoldsCalls q
hold_calls s keep e b i q here has n label at =
    let labels : queue_of s e ≡ q.labels = queue_is s e b q here.binding has in
    let of_peer = keep.queues e label (contains_at (queue_of s e) n label (ap (λ (ls : List Label). slice_get ls n) labels ∙ at)) in
    ap is_data of_peer.1

-- ---- rings

across_is : (side : Side) (r : Ring) → written_by (side_of (other side)) r ≡ read_by (side_of side) r
across_is Client r = refl
across_is Server r = refl

first_label : (ls : List RingLabel) (l : RingLabel) → slice_get ls 0 ≡ Some l → slice_get (labels_of ls) 0 ≡ Some l.label
first_label [] l q = absurd (cc)
first_label (x ∷ ls) l q = ap (λ (y : RingLabel). Some y.label) (same_Some x l q)

-- what may stand on the other end's ring, and belongs to a call
its_own : (e : EndId) (label : Label) → is_data label ≡ true → MayStandFrom e label → (k : ℕ) × (label ≡ next_of e k)
its_own e (next_of f k) kind may = (k, ap (λ (x : EndId). next_of x k) may)
its_own e (says m) kind may = absurd may
its_own e acknowledges kind may = absurd (cc)

rings_in_turn : (s : State) → EndsStand s → LabelsFollow s → LabelsKeepToTheirWays s
    → (e : EndId) (b : Binding) (i : Planned) (at : RingEnd) (r : Ring) (f : Frag) → EndIn s e b i
    → own_ring e.side b.back ≡ Some at → slice_get s.rings at.ring ≡ Some r
    → IsFirst (calls_off_links s) at.side r f → IsInTurn i (taken_by e b) f
rings_in_turn s stand follow keep e b i at r f here own is first = by_back b.back refl own where
  by_back : (back : Back) → b.back ≡ back → own_ring e.side back ≡ Some at → IsInTurn i (taken_by e b) f
  by_back local w o = absurd (cc)
  by_back (over_route route) w o = absurd (cc)
  by_back (over_ring n) w o =
      let at_is : record { ring = n; side = side_of e.side } ≡ at = same_Some (record { ring = n; side = side_of e.side }) at o in
      let ring_is : slice_get s.rings n ≡ Some r = ap (λ (x : RingEnd). slice_get s.rings x.ring) at_is ∙ is in
      let from : ring_from s (peer e) n ≡ labels_of (written_by (side_of (peer e).side) r).waiting
      = ap (λ (x : Option Ring). given x [] λ y. labels_of (written_by (side_of (peer e).side) y).waiting) ring_is in
      let stands : slice_get (read_by (side_of e.side) r).waiting 0 ≡ Some first.first
      = ap (λ (x : RingEnd). slice_get (read_by x.side r).waiting 0) at_is ∙ first.there in
      let label_at : slice_get (ring_from s (peer e) n) 0 ≡ Some first.first.label
      = ap (λ (ls : List Label). slice_get ls 0) from
      ∙ ap (λ (h : Rattle.fl_model.specs.Rings.Half). slice_get (labels_of h.waiting) 0) (across_is e.side r)
      ∙ first_label (read_by (side_of e.side) r).waiting first.first stands in
      let may = keep.rings (peer e) b n first.first.label here.binding w (contains_at (ring_from s (peer e) n) 0 first.first.label label_at) in
      let mine = its_own (peer e) first.first.label first.kind may in
      let k = last_of s (peer e) b 0 follow here.binding (long s (peer e) b stand here.binding ∙ ap stations w) in
      let last : Last s (peer e) b (ring_from s (peer e) n)
      = (k.0, ap (λ (x : Back). picked (peer e) (before_by s (peer e) x 1)) (sym w) ∙ k.1) in
      in_turn s e b i (ring_from s (peer e) n) first.first.label mine.0 f here last label_at mine.1 first.frag

-- ---- no more is taken than the calls have

falls_to : (s : State) (e : EndId) (b : Binding) → LabelsFollow s → slice_get s.bindings e.binding ≡ Some b → (j : ℕ)
    → j < length (end_in e.side b).out.passed → slice_index (end_in e.side b).out.passed j ≤ slice_index (end_in e.side b).out.passed 0
falls_to s e b follow q zero h = omega arith
falls_to s e b follow q (suc j) h =
    let before = falls_to s e b follow q j (omega (arith, h)) in
    let k = (follow e b j q h).falls in
    omega (arith, before, k)

stations_some : (back : Back) → 1 ≤ stations back
stations_some local = omega arith
stations_some (over_ring n) = omega arith
stations_some (over_route route) = omega arith

few_taken : (s : State) → EndsStand s → LabelsFollow s → WritesAreCounted s → (e : EndId) (b : Binding) (i : Planned) → EndIn s e b i
    → taken_of (taken_by e b) ≤ total i (taken_by e b).accepted
few_taken s stand follow counted e b i here =
    let wide = long s (peer e) b stand here.binding in
    let some = stations_some b.back in
    let falls = falls_to s (peer e) b follow here.binding (last_station (taken_by e b)) (omega (arith, wide, some)) in
    let most = (counted (peer e) b i here.binding here.interface).most in
    omega (arith, falls, most)

pub first_in_turn : (s : State) → EndsStand s → RoutesLead s → LabelsFollow s → LabelsKeepToTheirWays s → WritesAreCounted s → FirstInTurn s
first_in_turn s stand lead follow keep counted = record {
  rings = rings_in_turn s stand follow keep;
  queues = queues_in_turn s stand lead follow keep;
  calls = hold_calls s keep;
  few = few_taken s stand follow counted;
}
