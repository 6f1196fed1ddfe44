-- In a sound state a turn answers `nothing` only where no channel is due, and gives a pending channel's end the other end's next fragment.
use Rattle.std.proofs.Common.{◌≡◌, ◌≢◌, refl, sym, ◌∙◌, ap, subst, ℕ, zero, suc, ◌-◌, ◌≤◌, ◌&&◌, Bool, true, false, if◌then◌else◌}
use Rattle.std.proofs.Common.{List, [], ◌∷◌, length, slice_get, slice_index, Option, Some, None, arith}
use Rattle.std.specs.Prelude.{IsNone, is_some, Contains}
use Rattle.std.specs.List.{range_with_len, cons_option}
use Rattle.std.proofs.lemmas.Bool.{eq-eqb}
use Rattle.fl_base.specs.declared.identity.EndId.{EndId}
use Rattle.fl_base.specs.declared.identity.Side.{Side}
use Rattle.fl_base.specs.declared.identity.Side.TheVariants.{Client, Server}
use Rattle.fl_base.specs.Ends.{other, peer}
use Rattle.fl_lists.specs.declared.place.Place.TheVariants.{Polled, Pending}
use Rattle.fl_model.specs.Events.{DispatcherId, turn, nothing, full}
use Rattle.fl_model.specs.Calls.{Planned}
use Rattle.fl_model.specs.Rings.{Label, next_of, says, acknowledges, RingLabel, Ring, RingEnd, first_for, read_by, written_by, looks, takes, Half}
use Rattle.fl_model.specs.Ends.{End, Queue, Direction, without_first, holds_back, Taken, whole, a_part, comes_to, taken_of}
use Rattle.fl_model.specs.Waits.{Dispatcher, waits_in, Due, pending, polled, no_one, due}
use Rattle.fl_model.specs.State.{Route, Back, local, over_ring, over_route, Binding, State, StepOutcome, side_of, dispatcher_of, binding_of, interface_of, end_of, end_in, own_ring, first_on, change_ring, change_end, in_queue, way_of, answers}
use Rattle.fl_model.specs.Taking.{Chosen, chosen, takes_label, taken_answer, goes_back, gives_by, gives, finds, turns_by}
use Rattle.fl_model.specs.Runs.{same_side, same_end}
use Rattle.fl_model.specs.Standing.{labels_of, on_link, ring_from, queue_of, before_by, picked}
use Rattle.fl_model.specs.SoundPlaces.{TakesFrom, stations, EndStands}
use Rattle.fl_model.specs.SoundLabels.{IsOf, StandsBefore, MayStandFrom}
use Rattle.fl_model.specs.SoundLists.{Listed, RingWasLooked}
use Rattle.fl_model.specs.SoundRoutes.{RouteLeads}
use Rattle.fl_model.specs.Sound.{Sound}
use Rattle.fl_model.specs.Step.{step}
use Rattle.fl_model.specs.Laws.{TurnsUnderstand}
use Rattle.fl_model.specs.Worlds.{IsGiven, TurnsGiveTheNext}
use Rattle.fl_model_laws.proofs.Cases.{either, by_given, by_given_or}
use Rattle.fl_model_laws.proofs.BindingWalk.{given_there}
use Rattle.fl_model_laws.proofs.Ends.{Has, has_kept}
use Rattle.fl_model_laws.proofs.WaitsetsStep.{first_pending, first_polled}
use Rattle.fl_model_laws.proofs.ListingStep.{first_in, first_none, end_at}
use Rattle.fl_model_laws.proofs.ListingKept.{IsListed, listed_of, own_over, reads_other, own_first}
use Rattle.std.proofs.lemmas.List.{length-reverse}
use Rattle.fl_base.specs.Given.{given}
use Rattle.fl_model_laws.proofs.Small.{some_same}

-- ---- what is there

pub there_is : {X Y : Type 0} (P : Y → Type 0) (o : Option X) (y : Y) (f : X → Y) (x : X) → o ≡ Some x → P (f x) → P (given o y f)
there_is {X} P o y f x q h = subst (λ (p : Option X). P (given p y f)) (sym q) h

pub takes_ring : (s : State) (side : Side) (back : Back) (x : End) → TakesFrom s back x → IsNone x.queue → (at : RingEnd) × (own_ring side back ≡ Some at)
takes_ring s side local x h none = absurd (let u : true ≡ false = sym h ∙ none in cc)
takes_ring s side (over_ring n) x h none = (record { ring = n; side = side_of side }, refl)
takes_ring s side (over_route route) x h none = absurd (let u : true ≡ false = sym h ∙ none in cc)

takes_queue : (s : State) (side : Side) (back : Back) (x : End) (q : Queue) → TakesFrom s back x → x.queue ≡ Some q → own_ring side back ≡ None
takes_queue s side local x q h e = refl
takes_queue s side (over_ring n) x q h e = absurd (let u : true ≡ false = sym (ap is_some e) ∙ h.0 in cc)
takes_queue s side (over_route route) x q h e = refl

-- ---- what a label comes to

abbrev pub Tells : StepOutcome → Type 0
Tells o = o.answer ≢ nothing

taken_tells : (e : EndId) (t : Taken) → taken_answer e t ≢ nothing
taken_tells e (whole c) h = absurd (cc)
taken_tells e a_part h = absurd (cc)

label_tells : (e : EndId) (i : Planned) (l : Label) (s : State) → Tells (takes_label e i l s)
label_tells e i (next_of sender k) s = by_given Tells (end_of s sender) _ _ (λ h. absurd (cc)) (λ y r. taken_tells e (comes_to i y.out))
label_tells e i (says m) s = λ h. absurd (cc)
label_tells e i acknowledges s = λ h. absurd (cc)

found_tells : (t : Chosen) (at : RingEnd) (l : Label) (s : State) → Tells (finds t at l s)
found_tells t at (next_of e k) s = λ h. absurd (cc)
found_tells t at (says m) s = λ h. absurd (cc)
found_tells t at acknowledges s = λ h. absurd (cc)

abbrev Gives : EndId → StepOutcome → Type 0
Gives e o = IsGiven e o.answer

taken_gives : (e : EndId) (t : Taken) → IsGiven e (taken_answer e t)
taken_gives e (whole c) = refl
taken_gives e a_part = refl

label_gives : (e : EndId) (i : Planned) (f : EndId) (k : ℕ) (s : State) (y : End) → end_of s f ≡ Some y → Gives e (takes_label e i (next_of f k) s)
label_gives e i f k s y q = there_is (Gives e) (end_of s f) _ _ y q (taken_gives e (comes_to i y.out))

-- ---- a pending channel

module _ (s : State) (sound : Sound s) where
  stands : (e : EndId) (b : Binding) → binding_of s e ≡ Some b → EndStands s e (end_in e.side b)
  stands e b q = sound.ends e (end_in e.side b) (end_at s e b q)

  same_binding : (e : EndId) (b : Binding) (q : binding_of s e ≡ Some b) → (stands e b q).binding ≡ b
  same_binding e b q = some_same (stands e b q).binding b (sym (stands e b q).there ∙ q)

  pub interface_there : (e : EndId) (b : Binding) → binding_of s e ≡ Some b → (i : Planned) × (interface_of s b ≡ Some i)
  interface_there e b q =
      ((stands e b q).interface, ap (interface_of s) (sym (same_binding e b q)) ∙ (stands e b q).interface_is)

  pub takes_from : (e : EndId) (b : Binding) → binding_of s e ≡ Some b → TakesFrom s b.back (end_in e.side b)
  takes_from e b q = subst (λ (a : Binding). TakesFrom s a.back (end_in e.side b)) (same_binding e b q) (stands e b q).queue

  first_there : (e : EndId) (b : Binding) (at : RingEnd) (l : Listed s Pending e b) (own : own_ring e.side b.back ≡ Some at)
      → first_on at s ≡ Some (sound.looked e b at l own).first
  first_there e b at l own =
      ap (λ (o : Option Ring). given o None (first_for at.side)) (sound.looked e b at l own).ring_is ∙ (sound.looked e b at l own).first_is

  -- a predicate of what comes of it holds where it holds of a full end's answer, and of what the label comes to
  given_by : (P : StepOutcome → Type 0) (t : Chosen) (b : Binding) (i : Planned) (o : Option Queue) → Listed s Pending t.end b → (end_in t.end.side b).queue ≡ o
      → ((q : Queue) (l : Label) → o ≡ Some q → slice_get q.labels 0 ≡ Some l
      → P (takes_label t.end i l (goes_back t (waits_in (Some (without_first q))) (change_end t.end (in_queue without_first) s))))
      → ((at : RingEnd) (first : RingLabel) → o ≡ None → own_ring t.end.side b.back ≡ Some at → first_on at s ≡ Some first
      → P (takes_label t.end i first.label (goes_back t Polled (change_ring at.ring (takes at.side) s))))
      → P (gives_by t i o b.back s)
  given_by P t b i (Some q) l e queue ring =
      by_given_or P (slice_get q.labels 0) _ _ (λ none. absurd (sound.held t.end b q l e (first_none q.labels none)))
      (λ label u. queue q label refl u)
  given_by P t b i None l e queue ring =
      let (at, own) = takes_ring s t.end.side b.back (end_in t.end.side b) (takes_from t.end b l.binding_is) (none (end_in t.end.side b).queue e) in
      there_is P (own_ring t.end.side b.back) _ _ at own
      (there_is P (first_on at s) _ _ (sound.looked t.end b at l own).first (first_there t.end b at l own)
      (ring at (sound.looked t.end b at l own).first refl own (first_there t.end b at l own)))
    where
      none : (o : Option Queue) → o ≡ None → IsNone o
      none o e = ap is_some e

  gives_such : (P : StepOutcome → Type 0) (t : Chosen) (b : Binding) (i : Planned) → Listed s Pending t.end b → interface_of s b ≡ Some i
      → ((z : State) → P (answers z full))
      → ((q : Queue) (l : Label) → (end_in t.end.side b).queue ≡ Some q → slice_get q.labels 0 ≡ Some l
      → P (takes_label t.end i l (goes_back t (waits_in (Some (without_first q))) (change_end t.end (in_queue without_first) s))))
      → ((at : RingEnd) (first : RingLabel) → (end_in t.end.side b).queue ≡ None → own_ring t.end.side b.back ≡ Some at → first_on at s ≡ Some first
      → P (takes_label t.end i first.label (goes_back t Polled (change_ring at.ring (takes at.side) s))))
      → P (gives t s)
  gives_such P t b i l r held queue ring =
      there_is P (binding_of s t.end) _ _ b l.binding_is
      (there_is P (interface_of s b) _ _ i r
      (either P (holds_back (end_in t.end.side b)) _ _ (λ u. held _)
      (λ u. given_by P t b i (end_in t.end.side b).queue l refl queue ring)))

  pending_tells : (d : DispatcherId) (x : Dispatcher) (c : ℕ) → dispatcher_of s d ≡ Some x → due x ≡ pending c → Tells (turns_by d x (pending c) s)
  pending_tells d x c there is =
      let it : IsListed s d x Pending c =
      listed_of s sound d x Pending c there (first_in x.lists.pending c (first_pending x x.lists.pending x.lists.polled c is)) in
      let (i, r) = interface_there it.end it.binding it.listed.binding_is in
      there_is Tells (slice_get x.ends c) _ _ it.end it.end_is
      (gives_such Tells (chosen d c it.end) it.binding i it.listed r (λ z h. absurd (cc)) (λ q l u v. label_tells it.end i l _)
      (λ at first u v w. label_tells it.end i first.label _))

  polled_tells : (d : DispatcherId) (x : Dispatcher) (c : ℕ) → dispatcher_of s d ≡ Some x → due x ≡ polled c → Tells (turns_by d x (polled c) s)
  polled_tells d x c there is =
      let it : IsListed s d x Polled c =
      listed_of s sound d x Polled c there (first_in x.lists.polled c (first_polled x x.lists.pending x.lists.polled c is)) in
      let t : Chosen = chosen d c it.end in
      let (at, own) = takes_ring s it.end.side it.binding.back (end_in it.end.side it.binding) (takes_from it.end it.binding it.listed.binding_is)
      (sound.listed Polled it.end it.binding it.listed).1 in
      there_is Tells (slice_get x.ends c) _ _ it.end it.end_is
      (there_is Tells (binding_of s it.end) _ _ it.binding it.listed.binding_is
      (there_is Tells (own_ring it.end.side it.binding.back) _ _ at own
      (by_given Tells (first_on at s) _ _ (λ h. absurd (cc)) (λ first u. found_tells t at first.label (change_ring at.ring (looks at.side) s)))))

  due_tells : (d : DispatcherId) (x : Dispatcher) (o : Due) → dispatcher_of s d ≡ Some x → due x ≡ o → (turns_by d x o s).answer ≡ nothing → o ≡ no_one
  due_tells d x (pending c) there is h = absurd (pending_tells d x c there is h)
  due_tells d x (polled c) there is h = absurd (polled_tells d x c there is h)
  due_tells d x no_one there is h = refl

  pub turn_tells : (d : DispatcherId) (x : Dispatcher) → dispatcher_of s d ≡ Some x → (step s (turn d)).answer ≡ nothing → due x ≡ no_one
  turn_tells d x there =
      there_is (λ (o : StepOutcome). o.answer ≡ nothing → due x ≡ no_one) (dispatcher_of s d) _ _ x there (due_tells d x (due x) there refl)

pub turns_understand : TurnsUnderstand
turns_understand s d x sound there h = turn_tells s sound d x there h

-- ---- the next fragment

side_self : (side : Side) → same_side side side ≡ true
side_self Client = refl
side_self Server = refl

pub end_self : (e : EndId) → same_end e e ≡ true
end_self e = ap (λ (t : Bool). t && same_side e.side e.side) (eq-eqb e.binding e.binding refl) ∙ side_self e.side

pub picked_first : (e : EndId) (k : ℕ) (rest : List Label) → picked e (next_of e k ∷ rest) ≡ k ∷ picked e rest
picked_first e k rest = ap (λ (t : Bool). cons_option (if t then Some k else None) (picked e rest)) (end_self e)

range_first : (a n k : ℕ) (rest : List ℕ) → range_with_len a n ≡ k ∷ rest → k ≡ a
range_first a zero k rest h = absurd (cc)
range_first a (suc n) k rest h = let e : a ≡ k = cc in sym e

side_twice : (side : Side) → other (other side) ≡ side
side_twice Client = refl
side_twice Server = refl

pub peer_twice : (e : EndId) → peer (peer e) ≡ e
peer_twice e = ap (λ (x : Side). (at e.binding x)) (side_twice e.side)
  where
    at : ℕ → Side → EndId
    at n side = record { binding = n; side = side }

pub way_length : (side : Side) (route : Route) → length (way_of side route) ≡ length route.cores
way_length Client route = refl
way_length Server route = length-reverse route.cores

-- before the last station stands the queue of the end that takes
before_queue : (s : State) (e : EndId) (back : Back) (j : ℕ) → own_ring e.side back ≡ None → suc j ≡ stations back - 1
    → before_by s (peer e) back (suc j) ≡ queue_of s (peer (peer e))
before_queue s e local j own same = refl
before_queue s e (over_ring n) j own same = absurd (cc)
before_queue s e (over_route route) j own same =
    let long : length (way_of (other e.side) route) ≡ length route.cores = way_length (other e.side) route in
    let here : suc j ≡ length (way_of (other e.side) route) = omega arith in
    let way : List ℕ = way_of (other e.side) route in
    ap (λ (t : Bool). if t then queue_of s (peer (peer e)) else on_link s (slice_index way (suc j - 1)) (slice_index way (suc j))) (eq-eqb (suc j) (length (way_of (other e.side) route)) here)

two_stations : (s : State) → Sound s → (n : ℕ) (b : Binding) → slice_get s.bindings n ≡ Some b → 2 ≤ stations b.back
two_stations s sound n b q = by_back b.back refl
  where
    by_back : (back : Back) → b.back ≡ back → 2 ≤ stations back
    by_back local e = omega arith
    by_back (over_ring m) e = omega arith
    by_back (over_route route) e =
        let leads : RouteLeads s route b = sound.routes n route (record { binding = b; there = q; back = e }) in
        let some : 2 ≤ length route.cores = leads.some in
        omega arith

queue_first : (ls : List Label) (l : Label) → slice_get ls 0 ≡ Some l → (rest : List Label) × (ls ≡ l ∷ rest)
queue_first [] l h = absurd (cc)
queue_first (k ∷ ls) l h = (ls, ap (λ (x : Label). x ∷ ls) (some_same k l h))

some_first : (ls : List Label) → ls ≢ [] → (l : Label) × (slice_get ls 0 ≡ Some l)
some_first [] h = absurd (h refl)
some_first (l ∷ ls) h = (l, refl)

labels_first : (ls : List RingLabel) (first : RingLabel) → slice_get ls 0 ≡ Some first → (rest : List Label) × (labels_of ls ≡ first.label ∷ rest)
labels_first [] first h = absurd (cc)
labels_first (l ∷ ls) first h = (labels_of ls, ap (λ (x : RingLabel). x.label ∷ labels_of ls) (some_same l first h))

first_held : (ls : List Label) (l : Label) → slice_get ls 0 ≡ Some l → Contains ls l
first_held [] l h = absurd (cc)
first_held (k ∷ ls) l h = subst (Contains (k ∷ ls)) (some_same k l h) (0, omega arith, refl)

module _ (s : State) (sound : Sound s) (e : EndId) (b : Binding) (there : slice_get s.bindings e.binding ≡ Some b) where
  abbrev from_peer : Direction
  from_peer = (end_in (other e.side) b).out

  all_stations : length from_peer.passed ≡ stations b.back
  all_stations =
      let stands : EndStands s (peer e) (end_in (other e.side) b) = sound.ends (peer e) (end_in (other e.side) b) (end_at s (peer e) b there) in
      stands.passed ∙ ap (λ (a : Binding). stations a.back) (some_same stands.binding b (sym stands.there ∙ there))

  -- what stands first before the last station is the fragment that is taken next
  next_taken : (k : ℕ) (rest : List Label) (j : ℕ) → suc j ≡ stations b.back - 1 → before_by s (peer e) b.back (suc j) ≡ next_of (peer e) k ∷ rest
      → k ≡ taken_of from_peer
  next_taken k rest j same stands =
      let long : length from_peer.passed ≡ stations b.back = all_stations in
      let two : 2 ≤ stations b.back = two_stations s sound e.binding b there in
      let before : StandsBefore s (peer e) b j = sound.labels (peer e) b j there (omega arith) in
      let last : suc j ≡ length from_peer.passed - 1 = omega arith in
      range_first (slice_index from_peer.passed (suc j)) _ k (picked (peer e) rest) (sym before.labels ∙ ap (picked (peer e)) stands ∙ picked_first (peer e) k rest)
      ∙ ap (slice_index from_peer.passed) last

  last_before : (j : ℕ) × (suc j ≡ stations b.back - 1)
  last_before = let two : 2 ≤ stations b.back = two_stations s sound e.binding b there in (stations b.back - 2, omega arith)

  queue_next : (q : Queue) (l : Label) → (end_in e.side b).queue ≡ Some q → slice_get q.labels 0 ≡ Some l → l ≡ next_of (peer e) (taken_of from_peer)
  queue_next q l is first =
      let stands : queue_of s e ≡ q.labels =
      ap (λ (o : Option End). given o [] λ x. given x.queue [] λ p. p.labels) (end_at s e b there)
      ∙ ap (λ (o : Option Queue). given o [] λ p. p.labels) is in
      let of_peer : IsOf (peer e) l = sound.ways.queues e l (subst (λ (ls : List Label). Contains ls l) (sym stands) (first_held q.labels l first)) in
      let (rest, head) = queue_first q.labels l first in
      let (j, last) = last_before in
      let before : before_by s (peer e) b.back (suc j) ≡ next_of (peer e) of_peer.0 ∷ rest =
      before_queue s e b.back j (takes_queue s e.side b.back (end_in e.side b) q (takes_from s sound e b there) is) last
      ∙ ap (queue_of s) (peer_twice e) ∙ stands ∙ head ∙ ap (λ (x : Label). x ∷ rest) of_peer.1 in
      of_peer.1 ∙ ap (next_of (peer e)) (next_taken of_peer.0 rest j last before)

  ring_next : (at : RingEnd) (first : RingLabel) (f : EndId) (k : ℕ) → own_ring e.side b.back ≡ Some at → first_on at s ≡ Some first → first.label ≡ next_of f k
      → first.label ≡ next_of (peer e) (taken_of from_peer)
  ring_next at first f k own q call =
      let (n, back, is) = own_over e.side b.back at own in
      let (ring, its, head) = given_there (slice_get s.rings at.ring) (first_for at.side) first q in
      let here : slice_get s.rings n ≡ Some ring = ap (λ (a : RingEnd). slice_get s.rings a.ring) is ∙ its in
      let ahead : slice_get (read_by (side_of e.side) ring).waiting 0 ≡ Some first = ap (λ (a : RingEnd). first_for a.side ring) is ∙ head in
      let stands : ring_from s (peer e) n ≡ labels_of (read_by (side_of e.side) ring).waiting =
      ap (λ (o : Option Ring). given o [] (λ x. labels_of (written_by (side_of (other e.side)) x).waiting)) here
      ∙ ap (λ (h : Half). labels_of h.waiting) (sym (reads_other e.side ring)) in
      let (rest, start) = labels_first (read_by (side_of e.side) ring).waiting first ahead in
      let mine : f ≡ peer e =
      subst (MayStandFrom (peer e)) call
      (own_first s sound e at first (ap (λ (o : Option Binding). given o None (λ a. own_ring e.side a.back)) there ∙ own) q) in
      let label : first.label ≡ next_of (peer e) k = call ∙ ap (λ (g : EndId). next_of g k) mine in
      let (j, last) = last_before in
      let before : before_by s (peer e) b.back (suc j) ≡ next_of (peer e) k ∷ rest =
      ap (λ (a : Back). before_by s (peer e) a (suc j)) back ∙ stands ∙ start ∙ ap (λ (x : Label). x ∷ rest) label in
      label ∙ ap (next_of (peer e)) (next_taken k rest j last before)

  its_peer : end_of s (peer e) ≡ Some (end_in (other e.side) b)
  its_peer = end_at s (peer e) b there

  peer_emptied : (y : End) × (end_of (change_end e (in_queue without_first) s) (peer e) ≡ Some y)
  peer_emptied =
      let has : Has (λ x. Unit {0}) s (peer e) = record { end = end_in (other e.side) b; there = its_peer; holds = tt } in
      let still : Has (λ x. Unit {0}) (change_end e (in_queue without_first) s) (peer e) =
      has_kept (λ x. Unit {0}) (peer e) e (in_queue without_first) s (λ x u. tt) has in
      (still.end, still.there)

  queue_gives : (t : Chosen) (i : Planned) (q : Queue) (l : Label) → t.end ≡ e → (end_in e.side b).queue ≡ Some q → slice_get q.labels 0 ≡ Some l
      → Gives e (takes_label e i l (goes_back t (waits_in (Some (without_first q))) (change_end e (in_queue without_first) s)))
  queue_gives t i q l same is first =
      subst (λ (x : Label). Gives e (takes_label e i x (goes_back t (waits_in (Some (without_first q))) (change_end e (in_queue without_first) s))))
      (sym (queue_next q l is first))
      (label_gives e i (peer e) (taken_of from_peer) (goes_back t (waits_in (Some (without_first q))) (change_end e (in_queue without_first) s))
      peer_emptied.0 peer_emptied.1)

  its_label : (at : RingEnd) (first : RingLabel) → Listed s Pending e b → own_ring e.side b.back ≡ Some at → first_on at s ≡ Some first
      → first.label ≡ next_of (peer e) (taken_of from_peer)
  its_label at first l own q =
      let was : RingWasLooked s at = sound.looked e b at l own in
      let same : was.first ≡ first = some_same was.first first (sym (first_there s sound e b at l own) ∙ q) in
      ring_next at first was.call.0 was.call.1.0 own q (ap (λ (x : RingLabel). x.label) (sym same) ∙ was.call.1.1)

  ring_gives : (t : Chosen) (i : Planned) (at : RingEnd) (first : RingLabel) → Listed s Pending e b → own_ring e.side b.back ≡ Some at
      → first_on at s ≡ Some first → Gives e (takes_label e i first.label (goes_back t Polled (change_ring at.ring (takes at.side) s)))
  ring_gives t i at first l own q =
      subst (λ (x : Label). Gives e (takes_label e i x (goes_back t Polled (change_ring at.ring (takes at.side) s)))) (sym (its_label at first l own q))
      (label_gives e i (peer e) (taken_of from_peer) (goes_back t Polled (change_ring at.ring (takes at.side) s)) (end_in (other e.side) b) its_peer)

  before_is : (o : Option Queue) → (end_in e.side b).queue ≡ o → Listed s Pending e b
      → given o (given (own_ring e.side b.back) None λ at. given (first_on at s) None λ l. Some l.label) (λ q. slice_get q.labels 0)
      ≡ Some (next_of (peer e) (taken_of from_peer))
  before_is (Some q) is l =
      let (x, first) = some_first q.labels (sound.held e b q l is) in
      first ∙ ap (λ (y : Label). Some y) (queue_next q x is first)
  before_is None is l =
      let (at, own) = takes_ring s e.side b.back (end_in e.side b) (takes_from s sound e b there) (ap is_some is) in
      let first : first_on at s ≡ Some (sound.looked e b at l own).first = first_there s sound e b at l own in
      ap (λ (o : Option RingEnd). given o None λ a. given (first_on a s) None λ x. Some x.label) own
      ∙ ap (λ (o : Option RingLabel). given o None λ x. Some x.label) first
      ∙ ap (λ (y : Label). Some y) (its_label at (sound.looked e b at l own).first l own first)

pub turns_give_the_next : TurnsGiveTheNext
turns_give_the_next s d x c e b sound at is its there =
    let it : IsListed s d x Pending c = listed_of s sound d x Pending c at (first_in x.lists.pending c (first_pending x x.lists.pending x.lists.polled c is)) in
    let mine : it.end ≡ e = some_same it.end e (sym it.end_is ∙ its) in
    let listed : Listed s Pending e b = record {
      at = d;
      dispatcher = x;
      dispatcher_is = at;
      channel = c;
      listed = first_in x.lists.pending c (first_pending x x.lists.pending x.lists.polled c is);
      end_is = its;
      binding_is = there;
    } in
    let (i, r) = interface_there s sound e b there in
    let t : Chosen = chosen d c e in
    record {
      answer = there_is (Gives e) (dispatcher_of s d) _ _ x at
          (subst (λ (o : Due). Gives e (turns_by d x o s)) (sym is)
          (there_is (Gives e) (slice_get x.ends c) _ _ e its
          (gives_such s sound (Gives e) t b i listed r (λ z. tt) (λ q l u v. queue_gives s sound e b there t i q l refl u v)
          (λ on first u v w. ring_gives s sound e b there t i on first listed v w))));
      label = before_is s sound e b there (end_in e.side b).queue refl listed;
    }
