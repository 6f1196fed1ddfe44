-- One core while ends are joined: an end is added at a dispatcher, and its channel registered.
use Rattle.std.proofs.Common.{◌≡◌, ◌≢◌, refl, sym, ◌∙◌, ap, subst, ℕ, ◌+◌, ◌<◌, ◌≤◌, ◌||◌, ◌⊎◌, inl, inr, Bool, true, false, List, [], ◌∷◌, ◌++◌, length, map, slice_get, slice_set, Option, Some, None, arith}
use Rattle.std.specs.Prelude.{IsSome, Result, Ok, Err}
use Rattle.fl_base.specs.declared.identity.EndId.{EndId}
use Rattle.fl_base.specs.Given.{given}
use Rattle.fl_hop.proofs.Lists.{set_cases, push_keeps, within, at_within}
use Rattle.fl_lists.specs.declared.place.Place.{Place}
use Rattle.fl_lists.specs.declared.place.Place.TheVariants.{Idle, Polled, Pending}
use Rattle.fl_lists.specs.ThreeLists.{ThreeLists, list_at, is_in, pushed}
use Rattle.fl_waitset.specs.Waiting.{is_registered}
use Rattle.fl_link.specs.Looks.{Look}
use Rattle.fl_endpoint.specs.View.{TheEnd}
use Rattle.fl_endpoint.specs.Events.{IsReady}
use Rattle.fl_core.specs.BoardView.{TheDispatcher, TheEndAtChannel, TheBoard, with_new_end, with_lists}
use Rattle.fl_core.specs.BoardEvents.{Registers}
use Rattle.fl_core.specs.BoardTurns.{WaitsIn, lent, over}
use Rattle.fl_core.specs.declared.kind.ChannelKind.{ChannelKind}
use Rattle.fl_core.specs.declared.board_fault.BoardFault.{BoardFault}
use Rattle.fl_core.specs.declared.board_fault.BoardFault.TheVariants.{NotBound, Registered, NotRegistered, TooManyEnds, Failed, Memory}
use Rattle.fl_core.specs.View.{TheCore, kind_of, with_wired_end, place_of, side_of_link}
use Rattle.fl_link.specs.Queue.{TheQueue}
use Rattle.fl_core.specs.Ends.{OnBoard, RegistersAt}
use Rattle.fl_core.specs.Making.{AddsWiredEnd}
use Rattle.fl_core.specs.Sound.{IsCore}
use Rattle.fl_core.specs.declared.wiring.EndWiring.{EndWiring}
use Rattle.fl_core.specs.declared.wiring.WiredEnd.{WiredEnd}
use Rattle.fl_model.specs.Given.{changed_at}
use Rattle.fl_model.specs.Waits.{Dispatcher, with_end, registers}
use Rattle.fl_model.specs.Monitors.{Core}
use Rattle.fl_model.specs.SoundLists.{ListsStand}
use Rattle.fl_model_laws.proofs.BindingWalk.{given_there}
use Rattle.fl_model_laws.proofs.EndsStanding.{in_range}
use Rattle.fl_model_laws.proofs.Places.{changed_other}
use Rattle.fl_model_laws.proofs.PlacesStep.{length_push}
use Rattle.fl_model_laws.proofs.Ready.{get_last}
use Rattle.fl_model_laws.proofs.Replies.{length_changed}
use Rattle.fl_model_laws.proofs.Small.{changed_here, length_set}
use Rattle.fl_model_laws.proofs.Waitsets.{IsFree, pushed_from}
use Rattle.fl_world_refines.specs.ShowsState.{name_at, wiring_of, DispatcherShows, CoreShows}
use Rattle.fl_world_refines.proofs.MakingBase.{some_is, same_found, map_push, length_map}
use Rattle.fl_world_refines.proofs.MakingGrows.{CoreGrows}

-- ---- the machine's core

-- an end more at a dispatcher, and a channel in one of its lists
abbrev pub seated : ℕ → EndId → Core → Core
seated place e k = record k { dispatchers = changed_at place (with_end e) k.dispatchers }

abbrev pub listed : ℕ → ℕ → Place → Core → Core
listed place c to k = record k { dispatchers = changed_at place (registers c to) k.dispatchers }

-- ---- channels that are in no list

pub free_above : (z : Dispatcher) (c : ℕ) → ListsStand z → length z.ends ≤ c → IsFree c z.lists
free_above z c h few place = by (is_in c (list_at z.lists place)) refl
  where
    by : (b : Bool) → is_in c (list_at z.lists place) ≡ b → is_in c (list_at z.lists place) ≡ false
    by false q = q
    by true q = absurd (let k = in_range z.ends c (h.ends place c q) in omega (arith, k, few))

is_false : (a b c : Bool) → a ≡ false → b ≡ false → c ≡ false → (a || b || c) ≡ false
is_false false false false p q r = refl
is_false true b c p q r = absurd (cc)
is_false false true c p q r = absurd (cc)
is_false false false true p q r = absurd (cc)

pub unregistered : (c : ℕ) (w : ThreeLists) → IsFree c w → is_registered w c ≡ false
unregistered c w h = is_false _ _ _ (h Idle) (h Polled) (h Pending)

-- another channel that is pushed leaves it so
pub free_pushed : (w : ThreeLists) (c k : ℕ) (to : Place) → c ≢ k → IsFree k w → IsFree k (pushed w c to)
free_pushed w c k to apart h place = by (is_in k (list_at (pushed w c to) place)) refl
  where
    by : (b : Bool) → is_in k (list_at (pushed w c to) place) ≡ b → is_in k (list_at (pushed w c to) place) ≡ false
    by false q = q
    by true q = elim (pushed_from w c to place k q) [
      | inl a ↦ absurd (let e : true ≡ false = sym a ∙ h place in cc)
      | inr a ↦ absurd (apart a.0)
    ]

-- ---- names

head_is : {X : Type 0} (x y : X) (xs ys : List X) → x ∷ xs ≡ y ∷ ys → x ≡ y
head_is x y xs ys h = cc

tail_is : {X : Type 0} (x y : X) (xs ys : List X) → x ∷ xs ≡ y ∷ ys → xs ≡ ys
tail_is x y xs ys h = cc

names_on : (c d : TheCore) (es : List ℕ) (xs : List EndId) → ((n : ℕ) (e : EndId) → name_at c n ≡ Some e → name_at d n ≡ Some e)
    → map (name_at c) es ≡ map (λ e. Some e) xs → map (name_at d) es ≡ map (λ e. Some e) xs
names_on c d [] [] h q = refl
names_on c d [] (x ∷ xs) h q = absurd (cc)
names_on c d (e ∷ es) [] h q = absurd (cc)
names_on c d (e ∷ es) (x ∷ xs) h q =
    ap (λ o. o ∷ map (name_at d) es) (h e x (head_is (name_at c e) (Some x) (map (name_at c) es) (map (λ (y : EndId). Some y) xs) q))
    ∙ ap (λ os. Some x ∷ os) (names_on c d es xs h (tail_is (name_at c e) (Some x) (map (name_at c) es) (map (λ (y : EndId). Some y) xs) q))

names_count : (c : TheCore) (es : List ℕ) (xs : List EndId) → map (name_at c) es ≡ map (λ e. Some e) xs → length es ≡ length xs
names_count c es xs q = sym (length_map (name_at c) es) ∙ ap length q ∙ length_map (λ (e : EndId). Some e) xs

-- ---- an end is added

abbrev pub new_seat : TheEnd → ℕ → ℕ → ChannelKind → TheEndAtChannel
new_seat s place channel kind = record { end = s; dispatcher = place; channel = channel; kind = kind }

pub record HasWiredEnd (k : Core) (c c2 : TheCore) (place : ℕ) (s : TheEnd) (p : WiredEnd) : Type 0 where
  pub dispatcher : Dispatcher
  pub there : slice_get k.dispatchers place ≡ Some dispatcher
  pub room : length dispatcher.ends < 1024
  pub shows : CoreShows (seated place p.name k) c2
  pub even : length c2.board.seats ≡ length c2.wired_ends
  pub seats : c2.board.seats ≡ c.board.seats ++ new_seat s place (length dispatcher.ends) (kind_of p.wiring) ∷ []
  pub wired_ends : c2.wired_ends ≡ c.wired_ends ++ p ∷ []
  pub link_sides : c2.link_sides ≡ c.link_sides
  pub arrivals : c2.arrivals ≡ c.arrivals

-- the core's new dispatcher shows the machine's
module _ (k : Core) (c : TheCore) (place : ℕ) (s : TheEnd) (p : WiredEnd) (x : Dispatcher) (d : TheDispatcher) (h : CoreShows k c)
    (even : length c.board.seats ≡ length c.wired_ends) (xt : slice_get k.dispatchers place ≡ Some x) (dt : slice_get c.board.dispatchers place ≡ Some d) where
  abbrev new_board : TheBoard
  new_board = with_new_end c.board place d s (kind_of p.wiring)

  abbrev new_core : TheCore
  new_core = with_wired_end c new_board (length c.board.seats) p

  abbrev wider : TheDispatcher
  wider = record { lists = d.lists; ends = d.ends ++ length c.board.seats ∷ [] }

  name_stays : (n : ℕ) (e : EndId) → name_at c n ≡ Some e → name_at new_core n ≡ Some e
  name_stays n e q =
      let (wired_end, at, is) = given_there (slice_get c.wired_ends n) (λ (y : WiredEnd). Some y.name) e q in
      ap (λ o. given o None (λ (y : WiredEnd). Some y.name)) (push_keeps c.wired_ends (p ∷ []) n wired_end at) ∙ is

  name_new : name_at new_core (length c.board.seats) ≡ Some p.name
  name_new = ap (name_at new_core) even ∙ ap (λ o. given o None (λ (y : WiredEnd). Some y.name)) (get_last c.wired_ends p)

  changed_shows : DispatcherShows new_core (with_end p.name x) wider
  changed_shows =
      let was = h.dispatchers place x d xt dt in
      record {
        lists = was.lists;
        ends = map_push (name_at new_core) d.ends (length c.board.seats)
            ∙ ap (λ os. os ++ name_at new_core (length c.board.seats) ∷ []) (names_on c new_core d.ends x.ends name_stays was.ends)
            ∙ ap (λ o. map (λ e. Some e) x.ends ++ o ∷ []) name_new ∙ sym (map_push (λ (e : EndId). Some e) x.ends p.name);
      }

  other_shows : (y : Dispatcher) (f : TheDispatcher) → DispatcherShows c y f → DispatcherShows new_core y f
  other_shows y f was = record { lists = was.lists; ends = names_on c new_core f.ends y.ends name_stays was.ends }

  each_shows : (n : ℕ) (y : Dispatcher) (f : TheDispatcher) → slice_get (changed_at place (with_end p.name) k.dispatchers) n ≡ Some y
      → slice_get (slice_set c.board.dispatchers place wider) n ≡ Some f → DispatcherShows new_core y f
  each_shows n y f q r = elim (set_cases c.board.dispatchers place wider n f r) [
    | inl a ↦ (let there : slice_get (changed_at place (with_end p.name) k.dispatchers) place ≡ Some y = ap (slice_get (changed_at place (with_end p.name) k.dispatchers)) (sym a.0) ∙ q in
        let is : with_end p.name x ≡ y = same_found _ (with_end p.name x) y (changed_here k.dispatchers place (with_end p.name) x xt) there in
        subst (λ z. DispatcherShows new_core y z) (sym a.1) (subst (λ z. DispatcherShows new_core z wider) is changed_shows))
    | inr a ↦ other_shows y f (h.dispatchers n y f (sym (changed_other k.dispatchers place n (with_end p.name) a.0) ∙ q) a.1)
  ]

  pub core_shows_more : CoreShows (seated place p.name k) new_core
  core_shows_more = record {
    monitor = record { circuits = h.monitor.circuits; outboxes = h.monitor.outboxes };
    link_sides = h.link_sides;
    count = length_set c.board.dispatchers place wider ∙ h.count ∙ sym (length_changed k.dispatchers place (with_end p.name));
    dispatchers = each_shows;
  }

  pub seats_more : new_board.seats ≡ c.board.seats ++ new_seat s place (length x.ends) (kind_of p.wiring) ∷ []
  seats_more = ap (λ n. c.board.seats ++ new_seat s place n (kind_of p.wiring) ∷ []) (names_count c d.ends x.ends (h.dispatchers place x d xt dt).ends)

  pub even_more : length new_board.seats ≡ length new_core.wired_ends
  even_more = length_push c.board.seats _ ∙ ap (λ n. n + 1) even ∙ sym (length_push c.wired_ends p)

-- where the board's dispatcher is, the machine's is
pub machine_dispatcher : (k : Core) (c : TheCore) (place : ℕ) (d : TheDispatcher) → CoreShows k c → slice_get c.board.dispatchers place ≡ Some d
    → (x : Dispatcher) × (slice_get k.dispatchers place ≡ Some x) × (length x.ends ≡ length d.ends)
machine_dispatcher k c place d h q =
    let few = within c.board.dispatchers place d q in
    let count = h.count in
    let (x, at) = at_within k.dispatchers place (omega (arith, few, count)) in
    (x, at, sym (names_count c d.ends x.ends (h.dispatchers place x d at q).ends))

pub has_wired_end : (k : Core) (c c2 : TheCore) (place : ℕ) (s : TheEnd) (p : WiredEnd) (e : ℕ) → CoreShows k c → length c.board.seats ≡ length c.wired_ends
    → AddsWiredEnd place s p c (Ok e) c2 → (e ≡ length c.board.seats) × HasWiredEnd k c c2 place s p
has_wired_end k c c2 place s p e h even adds =
    let d = adds.0.1.0 in
    let dt = adds.0.1.1 in
    let room = adds.0.1.2 in
    let (x, xt, count) = machine_dispatcher k c place d h dt in
    let now : c2 ≡ with_wired_end c (with_new_end c.board place d s (kind_of p.wiring)) (length c.board.seats) p =
    adds.1 ∙ ap (λ b. with_wired_end c b e p) adds.0.1.3 ∙ ap (λ n. with_wired_end c (with_new_end c.board place d s (kind_of p.wiring)) n p) adds.0.0 in (
      adds.0.0,
      subst (λ z. HasWiredEnd k c z place s p) (sym now) (record {
        dispatcher = x;
        there = xt;
        room = (let m : length d.ends < 1024 = room in omega (arith, m, count));
        shows = core_shows_more k c place s p x d h even xt dt;
        even = even_more k c place s p x d h even xt dt;
        seats = seats_more k c place s p x d h even xt dt;
        wired_ends = refl;
        link_sides = refl;
        arrivals = refl;
      }),
    )

-- ---- a channel is registered

pub record Listed (k : Core) (c c2 : TheCore) (place channel : ℕ) (to : Place) : Type 0 where
  pub shows : CoreShows (listed place channel to k) c2
  pub seats : c2.board.seats ≡ c.board.seats
  pub wired_ends : c2.wired_ends ≡ c.wired_ends
  pub link_sides : c2.link_sides ≡ c.link_sides
  pub arrivals : c2.arrivals ≡ c.arrivals

-- a channel of this kind waits there, over this side
abbrev pub WaitsOnly : {T : Type 0} → (T → Look → T → Type 0) → ChannelKind → T → Place → Type 0
WaitsOnly {T} takes kind p to = (x : Place) (q : T) → WaitsIn takes kind p x q → x ≡ to

registered : {T : Type 0} (takes : T → Look → T → Type 0) (s : TheEndAtChannel) (w v : ThreeLists) (p q : T) (answer : Result (Unit {0}) BoardFault) (to : Place)
    → IsReady s.end → IsFree s.channel w → WaitsOnly takes s.kind p to → Registers takes s (lent w p) answer (lent v q) → v ≡ pushed w s.channel to
registered takes s w v p q (Ok done) to ready free only h = h.1.1.2 ∙ ap (pushed w s.channel) (only h.1.1.0 q h.1.1.1)
registered takes s w v p q (Err Registered) to ready free only h = absurd (let e : true ≡ false = sym h.1.0 ∙ unregistered s.channel w free in cc)
registered takes s w v p q (Err NotBound) to ready free only h = absurd (some_not_none s.end.circuit ready.0 h.0)
  where
    some_not_none : (o : Option ℕ) → IsSome o → o ≡ None → ⊥
    some_not_none None a b = absurd (cc)
    some_not_none (Some x) a b = absurd (cc)
registered takes s w v p q (Err Failed) to ready free only h = absurd (let e : true ≡ false = sym h.0.1 ∙ ready.1 in cc)
registered takes s w v p q (Err NotRegistered) to ready free only h = absurd h
registered takes s w v p q (Err TooManyEnds) to ready free only h = absurd h
registered takes s w v p q (Err Memory) to ready free only h = absurd h

module _ (k : Core) (c : TheCore) (place channel : ℕ) (to : Place) (d : TheDispatcher) (lists : ThreeLists) (h : CoreShows k c)
    (dt : slice_get c.board.dispatchers place ≡ Some d) (lists_are : lists ≡ pushed d.lists channel to) where
  abbrev relisted : TheDispatcher
  relisted = record { lists = lists; ends = d.ends }

  abbrev listed_core : TheCore
  listed_core = record c { board = with_lists c.board place d lists }

  one_shows : (x : Dispatcher) → slice_get k.dispatchers place ≡ Some x → DispatcherShows listed_core (registers channel to x) relisted
  one_shows x xt =
      let was = h.dispatchers place x d xt dt in
      record { lists = lists_are ∙ ap (λ w. pushed w channel to) was.lists; ends = was.ends }

  all_show : (n : ℕ) (y : Dispatcher) (f : TheDispatcher) → slice_get (changed_at place (registers channel to) k.dispatchers) n ≡ Some y
      → slice_get (slice_set c.board.dispatchers place relisted) n ≡ Some f → DispatcherShows listed_core y f
  all_show n y f q r = elim (set_cases c.board.dispatchers place relisted n f r) [
    | inl a ↦ (let (x, xt, count) = machine_dispatcher k c place d h dt in
        let there : slice_get (changed_at place (registers channel to) k.dispatchers) place ≡ Some y = ap (slice_get (changed_at place (registers channel to) k.dispatchers)) (sym a.0) ∙ q in
        let is : registers channel to x ≡ y = same_found _ (registers channel to x) y (changed_here k.dispatchers place (registers channel to) x xt) there in
        subst (λ z. DispatcherShows listed_core y z) (sym a.1) (subst (λ z. DispatcherShows listed_core z relisted) is (one_shows x xt)))
    | inr a ↦ (let was = h.dispatchers n y f (sym (changed_other k.dispatchers place n (registers channel to) a.0) ∙ q) a.1 in record { lists = was.lists; ends = was.ends })
  ]

  pub core_listed : Listed k c listed_core place channel to
  core_listed = record {
    shows = record {
      monitor = record { circuits = h.monitor.circuits; outboxes = h.monitor.outboxes };
      link_sides = h.link_sides;
      count = length_set c.board.dispatchers place relisted ∙ h.count ∙ sym (length_changed k.dispatchers place (registers channel to));
      dispatchers = all_show;
    };
    seats = refl;
    wired_ends = refl;
    link_sides = refl;
    arrivals = refl;
  }

-- in no list of the dispatcher there
abbrev pub IsFreeAt : Core → ℕ → ℕ → Type 0
IsFreeAt k place c = (z : Dispatcher) → slice_get k.dispatchers place ≡ Some z → IsFree c z.lists

pub core_lists : {T : Type 0} (takes : T → Look → T → Type 0) (k : Core) (c c2 : TheCore) (e : ℕ) (seat : TheEndAtChannel) (to : Place) (p q : T) (answer : Result (Unit {0}) BoardFault)
    → CoreShows k c → slice_get c.board.seats e ≡ Some seat → IsReady seat.end → IsFreeAt k seat.dispatcher seat.channel → WaitsOnly takes seat.kind p to
    → OnBoard c (λ b b2. RegistersAt takes e (over b p) answer (over b2 q)) c2 → Listed k c c2 seat.dispatcher seat.channel to
core_lists takes k c c2 e seat to p q answer h at ready free only on =
    let ev = on.event in
    let same : ev.seat ≡ seat = same_found (slice_get c.board.seats e) ev.seat seat ev.seat_is at in
    let dt : slice_get c.board.dispatchers seat.dispatcher ≡ Some ev.dispatcher = ap (λ (z : TheEndAtChannel). slice_get c.board.dispatchers z.dispatcher) (sym same) ∙ ev.dispatcher_is in
    let (x, xt, count) = machine_dispatcher k c seat.dispatcher ev.dispatcher h dt in
    let was : ev.dispatcher.lists ≡ x.lists = (h.dispatchers seat.dispatcher x ev.dispatcher xt dt).lists in
    let lists : ev.lists ≡ pushed ev.dispatcher.lists seat.channel to = registered takes seat ev.dispatcher.lists ev.lists p q answer to ready
    (subst (IsFree seat.channel) (sym was) (free x xt)) only
    (subst (λ z. Registers takes z (lent ev.dispatcher.lists p) answer (lent ev.lists q)) same ev.event) in
    let now : c2 ≡ record c { board = with_lists c.board seat.dispatcher ev.dispatcher ev.lists } =
    on.rest ∙ ap (λ b. record c { board = b }) (ev.board ∙ ap (λ (z : TheEndAtChannel). with_lists c.board z.dispatcher ev.dispatcher ev.lists) same) in
    subst (λ z. Listed k c z seat.dispatcher seat.channel to) (sym now) (core_listed k c seat.dispatcher seat.channel to ev.dispatcher ev.lists h dt lists)

-- ---- how a core grows by ends

pub record Longer (New : EndId → EndWiring → Type 0) (c d : TheCore) : Type 0 where
  pub before : IsCore c
  pub after : IsCore d
  pub wired_ends : (n : ℕ) (p : WiredEnd) → slice_get c.wired_ends n ≡ Some p → slice_get d.wired_ends n ≡ Some p
  pub seats : (n : ℕ) (x : TheEndAtChannel) → slice_get c.board.seats n ≡ Some x → slice_get d.board.seats n ≡ Some x
  pub link_sides : d.link_sides ≡ c.link_sides
  pub arrivals : (n : ℕ) (q : TheQueue) → slice_get c.arrivals n ≡ Some q → slice_get d.arrivals n ≡ Some q
  pub back : (n : ℕ) (p : WiredEnd) → slice_get d.wired_ends n ≡ Some p → (slice_get c.wired_ends n ≡ Some p) ⊎ New p.name p.wiring

pub grows_of : (New : EndId → EndWiring → Type 0) (c d : TheCore) → Longer New c d → CoreGrows New c d
grows_of New c d g = record {
  places = λ e n h. (let at = g.before.placed e n h in
      ap (place_of d) (sym at.name_is) ∙ g.after.named n at.wired_end (g.wired_ends n at.wired_end at.wired_end_is));
  wired_ends = g.wired_ends;
  seats = g.seats;
  link_sides = λ l m h. ap (λ ls. side_of_link ls l) g.link_sides ∙ h;
  arrivals = g.arrivals;
  back = λ e n h. (let at = g.after.placed e n h in elim (g.back n at.wired_end at.wired_end_is) [
    | inl a ↦ inl (ap (place_of c) (sym at.name_is) ∙ g.before.named n at.wired_end a)
    | inr a ↦ inr (at.wired_end.wiring, subst (λ z. New z at.wired_end.wiring) at.name_is a)
  ]);
  wirings = wirings;
}
  where
    wirings : (e : EndId) (x : EndWiring) → wiring_of d e ≡ Some x → (wiring_of c e ≡ Some x) ⊎ New e x
    wirings e x h =
        let (n, nt, rest) = given_there (place_of d e) (λ m. given (slice_get d.wired_ends m) None (λ (y : WiredEnd). Some y.wiring)) x h in
        let (p, pt, is) = given_there (slice_get d.wired_ends n) (λ (y : WiredEnd). Some y.wiring) x rest in
        let at = g.after.placed e n nt in
        let same : at.wired_end ≡ p = same_found (slice_get d.wired_ends n) at.wired_end p at.wired_end_is pt in
        let name : p.name ≡ e = ap (λ (y : WiredEnd). y.name) (sym same) ∙ at.name_is in
        elim (g.back n p pt) [
          | inl a ↦ inl (ap (λ o. given o None (λ m. given (slice_get c.wired_ends m) None (λ (y : WiredEnd). Some y.wiring))) (ap (place_of c) (sym name) ∙ g.before.named n p a)
              ∙ ap (λ o. given o None (λ (y : WiredEnd). Some y.wiring)) a ∙ is)
          | inr a ↦ inr (subst (λ z. New e z) (some_is p.wiring x is) (subst (λ z. New z p.wiring) name a))
        ]
