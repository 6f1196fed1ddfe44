-- A circuit that one of the cores asks for is the machine's next binding.
use Rattle.std.proofs.Common.{◌≡◌, ◌⊎◌, inl, inr, refl, sym, ◌∙◌, ap, subst, ℕ, ◌-◌, ◌≤◌, ◌==◌, ◌&&◌, nat_lt, nat_le, not, cond, Bool, true, false, if◌then◌else◌, List, [], ◌∷◌, ◌++◌, length, map, find, slice_get, slice_set, slice_index, Option, Some, None, arith}
use Rattle.std.specs.Prelude.{Result, Ok, Err, is_some}
use Rattle.std.specs.List.{list_all}
use Rattle.std.proofs.lemmas.Bool.{eq-eqb, eqb-true}
use Rattle.std.proofs.lemmas.List.{length-append}
use Rattle.fl_base.specs.declared.identity.CoreId.{CoreId}
use Rattle.fl_base.specs.declared.identity.EndId.{EndId}
use Rattle.fl_base.specs.Given.{given}
use Rattle.fl_base.specs.Numbered.{core_id, most_bindings}
use Rattle.fl_compile.specs.declared.program.Program.{Program}
use Rattle.fl_hop.proofs.Lists.{push_cases}
use Rattle.fl_hop.specs.Table.{link_of}
use Rattle.fl_ring.specs.SharedSides.{TheSide}
use Rattle.fl_monitor.specs.declared.opening.Opening.{Opening}
use Rattle.fl_monitor.specs.declared.fault.MonitorFault.TheVariants as monitor
use Rattle.fl_monitor.specs.Monitors.{first_link, can_say}
use Rattle.fl_monitor.specs.Routing.{is_route as is_monitor_route}
use Rattle.fl_nameserv.specs.Registrations.{TheRegistration, has_iref, by_name}
use Rattle.fl_endpoint.specs.View.{TheEnd, fresh, no_rules}
use Rattle.fl_core.specs.declared.board_fault.BoardFault.TheVariants as board
use Rattle.fl_core.specs.declared.core_job.CoreJob.{CoreJob}
use Rattle.fl_core.specs.declared.core_job.OpenRequest.{OpenRequest}
use Rattle.fl_core.specs.declared.fault.OpenFault.{OpenFault}
use Rattle.fl_core.specs.declared.fault.OpenFault.TheVariants.{Board, Monitor}
use Rattle.fl_core.specs.Making.{Asked, asked, Asks}
use Rattle.fl_core.specs.Numbers.{renumbered}
use Rattle.fl_core.specs.View.{TheCore, place_of, client_of}
use Rattle.fl_core_run.specs.Run.{TheRun}
use Rattle.fl_core_run.specs.LogEntries.{LogEntry, opened, AsksFor, NotesOpened}
use Rattle.fl_core_run.specs.Steps.{lacks_to_open}
use Rattle.fl_model.specs.Binding.{all_differ}
use Rattle.fl_model.specs.Events.{by_route}
use Rattle.fl_model.specs.State.{State}
use Rattle.fl_model_laws.proofs.Small.{both_are}
use Rattle.fl_world_refines.specs.declared.binding.Binding.{Binding}
use Rattle.fl_world_refines.specs.View.{Given, If, TheWorld, has_dispatcher, with_core}
use Rattle.fl_world_refines.specs.Lending.{AtCore}
use Rattle.fl_world_refines.specs.Binding.{BindingRequest, wanted_from, named_request, binding_for, opening_for, may_be_route, AsksBy, Binds}
use Rattle.fl_world_refines.specs.Laws.{StepsAgree}
use Rattle.fl_world_refines.proofs.FramesBase.{same_some}
use Rattle.fl_world_refines.proofs.JoiningRoutes.{same_route}
use Rattle.fl_world_refines.proofs.PassingLists.{some_is}
use Rattle.fl_world_refines.proofs.Tests.{by_test, true_lt, le_false}
use Rattle.fl_world_refines.proofs.WritingPieces.{same_core_there}
use Rattle.fl_cores_joined.specs.Joined.{JoinedCore, in_world, AreOffers, UnmadeHaveNoRules, IsJoined, AreWhole}
use Rattle.fl_cores_joined.specs.Rings.{FacingSide}
use Rattle.fl_cores_joined.specs.Steps.{HappensAt, name_of, cores_of, opening_event, opened_answer}
use Rattle.fl_cores_joined.specs.Laws.{TheyShow, and_made, MachineDoes, AsksRightly, IsNumbered, OpensJoin}
use Rattle.fl_cores_joined.proofs.Hearing.{copy_there}
use Rattle.fl_cores_joined.proofs.Over.{core_over, OverNone}
use Rattle.fl_cores_joined.proofs.Passing.{long_map}
use Rattle.fl_cores_joined.proofs.Refusing.{asks_alike}
use Rattle.fl_cores_joined.proofs.Renumbered.{wired_more}
use Rattle.fl_cores_joined.proofs.Stepping.{begun, begun_is, ended, ended_whole, there_is, finish, nothing_noted}

-- ---- what is to be shown, by cases

if_not : (b : Bool) (A B : Type 0) → b ≡ true → B → If (not b) A B
if_not true A B h x = x
if_not false A B h x = absurd (cc)

if_no : (b : Bool) (A B : Type 0) → b ≡ false → B → If b A B
if_no false A B h x = x
if_no true A B h x = absurd (cc)

given_so : {X : Type 0} (o : Option X) (A : Type 0) (B : X → Type 0) (x : X) → o ≡ Some x → B x → Given o A B
given_so {X} o A B x h y = subst (λ (p : Option X). Given p A B) (sym h) y

pub find_holds : {X : Type 0} (p : X → Bool) (xs : List X) (x : X) → find p xs ≡ Some x → p x ≡ true
find_holds p [] x h = absurd (cc)
find_holds {X} p (y ∷ xs) x h = by (p y) refl (find_holds p xs x) h
  where
    by : (b : Bool) → p y ≡ b → (find p xs ≡ Some x → p x ≡ true) → cond b (Some y) (find p xs) ≡ Some x → p x ≡ true
    by true q rest r = let same : y ≡ x = cc in ap p (sym same) ∙ q
    by false q rest r = rest r

-- a new end has no rules
fresh_unruled : (program : Program) (end : TheEnd) → Some (fresh program None) ≡ Some end → end.rules ≡ no_rules end.program
fresh_unruled program end h = subst (λ (t : TheEnd). t.rules ≡ no_rules t.program) (some_is (fresh program None) end h) refl

push_unruled : (bs : List Binding) (program : Program) (b : Binding) → b.unmade ≡ Some (fresh program None)
    → ((n : ℕ) (c : Binding) (end : TheEnd) → slice_get bs n ≡ Some c → c.unmade ≡ Some end → end.rules ≡ no_rules end.program)
    → (n : ℕ) (c : Binding) (end : TheEnd) → slice_get (bs ++ b ∷ []) n ≡ Some c → c.unmade ≡ Some end → end.rules ≡ no_rules end.program
push_unruled bs program b kept old n c end c_is end_is = by (push_cases bs b n c c_is)
  where
    by : (slice_get bs n ≡ Some c) ⊎ ((n ≡ length bs) × (c ≡ b)) → end.rules ≡ no_rules end.program
    by (inl was) = old n c end was end_is
    by (inr (here, same)) = fresh_unruled program end (sym kept ∙ sym (ap (λ (z : Binding). z.unmade) same) ∙ end_is)

-- ---- routes

cores_back : (path : List CoreId) → map core_id (cores_of path) ≡ path
cores_back [] = refl
cores_back (c ∷ path) = ap (λ (cs : List CoreId). c ∷ cs) (cores_back path)

route_true : (a b c d e f : Bool) → (a && b && c && d && e && f) ≡ true → (a && b && c && f) ≡ true
route_true true true true true true f h = h
route_true true true true true false f h = absurd (cc)
route_true true true true false e f h = absurd (cc)
route_true true true false d e f h = absurd (cc)
route_true true false c d e f h = absurd (cc)
route_true false b c d e f h = absurd (cc)

route_of : (cores : List ℕ) (client server many : ℕ) → is_monitor_route (map core_id cores) client server many ≡ true
    → (nat_le 2 (length cores) && nat_le (length cores) 16 && list_all (λ c. nat_lt c many) cores && all_differ cores) ≡ true
route_of cores client server many h =
    route_true (nat_le 2 (length cores)) (nat_le (length cores) 16) (list_all (λ c. nat_lt c many) cores) (slice_index cores 0 == client)
    (slice_index cores (length cores - 1) == server) (all_differ cores) (sym (same_route cores client server many many refl) ∙ h)

-- ---- under the world's numbers

asks_so : (sides queues : List ℕ) (a : Asked) (k : TheCore) (r : Result ℕ OpenFault) (k2 : TheCore) → Asks a k r k2
    → Asks a (renumbered sides queues k) r (renumbered sides queues k2)
asks_so sides queues a k (Ok e) k2 h = record {
  adds = h.adds;
  circuit = h.circuit;
  opens = h.opens;
  rest = ap (renumbered sides queues) h.rest
      ∙ ap (λ (z : TheCore). record z { monitor = k2.monitor }) (wired_more sides queues k k2.board e (client_of a.opening.binding) a.link);
}
asks_so sides queues a k (Err (Board fault)) k2 (adds, same) = (adds, ap (renumbered sides queues) same)
asks_so sides queues a k (Err (Monitor fault)) k2 (place, opens, same) = (place, opens, ap (renumbered sides queues) same)

-- a core that is refused stays
asks_stays : (a : Asked) (k : TheCore) (fault : OpenFault) (k2 : TheCore) → Asks a k (Err fault) k2 → k2 ≡ k
asks_stays a k (Board fault) k2 (adds, same) = same
asks_stays a k (Monitor fault) k2 (place, opens, same) = same

opened_noted : (name : EndId) (r : Result ℕ OpenFault) (m t : TheRun FacingSide) → NotesOpened name r m t → t ≡ record m { progresses = t.progresses }
opened_noted name (Ok e) m t h = h.rest
opened_noted name (Err (Monitor monitor.OutboxFull)) m t h = nothing_noted t m h
opened_noted name (Err fault) m t h = h.rest

-- ---- the event

module _ (law : StepsAgree) (n : ℕ) (name : EndId) (request : OpenRequest) (answer : Result ℕ OpenFault) (some : lacks_to_open answer ≡ false) (jobs : List CoreJob)
    (xs ys : List JoinedCore) (s : State) (show : TheyShow xs s) (whole : AreWhole xs) (still : AreWhole ys)
    (h : HappensAt jobs n (opened name request answer) xs ys) (right : AsksRightly (length xs) h.before.run request)
    (next : length s.bindings ≤ request.opening.binding) where
  abbrev w : TheWorld
  w = show.world

  abbrev log_entry : LogEntry
  log_entry = opened name request answer

  abbrev x : JoinedCore
  x = begun jobs n log_entry xs ys h

  abbrev m : TheRun FacingSide
  m = h.happens.0

  noted : h.after ≡ record m { progresses = h.after.progresses }
  noted = opened_noted name answer m h.after h.happens.2

  offers : AreOffers w h.before.run.offers
  offers = show.joined.offers n h.before h.before_is

  offers_beside : AreOffers w h.beside.offers
  offers_beside = show.joined.offers n x (begun_is jobs n log_entry xs ys h)

  it : OverNone w jobs n log_entry xs ys h show.joined whole m (ended_whole jobs n log_entry xs ys h m noted still) (λ k k2. AsksFor w.programs request k answer k2)
  it =
      core_over w jobs n log_entry xs ys h show.joined whole m (ended_whole jobs n log_entry xs ys h m noted still)
      (λ k k2. AsksFor h.beside.offers.programs request k answer k2) (λ k k2. AsksFor w.programs request k answer k2)
      (λ event.
      let (there, at, same) = copy_there w h.beside.offers offers_beside request.interface event.copy.source event.copy.source_is in
      record {
        program = event.program;
        copy = record { source = there; source_is = at; same = event.copy.same ∙ same };
        asks = asks_so x.sides x.queues (asked request.dispatcher event.program request.link request.opening) h.beside.core answer m.core event.asks;
      })
      h.happens.1

  abbrev over : AtCore w n (λ k k2. AsksFor w.programs request k answer k2) it.world
  over = it.over

  core_is : over.before ≡ in_world x
  core_is = same_some (slice_get w.cores n) over.before (in_world x) over.before_is (there_is jobs n log_entry xs ys h w show.joined)

  -- what the job's turn has looked at
  few : (nat_lt request.dispatcher (length h.beside.core.board.dispatchers) ≡ true) × (nat_lt request.opening.binding most_bindings ≡ true)
  few =
      let a = nat_lt request.dispatcher (length h.beside.core.board.dispatchers) in
      let b = nat_lt request.interface (length h.beside.offers.programs) in
      let c = nat_lt request.opening.binding most_bindings in
      let d = not (is_some (place_of h.beside.core (client_of request.opening.binding))) in
      let e = can_say h.beside.core.monitor.outboxes request.link.0 in
      let (abcd, e_is) = both_are (a && b && c && d) e h.in_place.1 in
      let (abc, d_is) = both_are (a && b && c) d abcd in
      let (ab, c_is) = both_are (a && b) c abc in
      let (a_is, b_is) = both_are a b ab in
      (a_is, c_is)

  abbrev want : BindingRequest
  want = wanted_from (record { core = n; place = request.dispatcher }) request.interface over.event.copy.source right.service

  has_it : has_dispatcher w (record { core = n; place = request.dispatcher }) ≡ true
  has_it =
      ap (λ (o : Option TheCore). given o false λ k. nat_lt request.dispatcher (length k.board.dispatchers))
      (there_is jobs n log_entry xs ys h w show.joined) ∙ few.0

  room : nat_le 1024 (length w.bindings) ≡ false
  room =
      let less = true_lt request.opening.binding 1024 few.1 in
      let count = show.shows.showing.bindings.count in
      le_false 1024 (length w.bindings) (omega (arith, less, count, next))

  named_there : by_name (name_of h.before.run.offers.names request.opening.service.0) w.names ≡ Some right.service
  named_there =
      ap (λ (o : Option TheRegistration). by_name (given o [] λ r. r.name) w.names) right.registered
      ∙ ap (by_name right.service.name) (sym offers.names) ∙ right.named

  its_iref : right.service.iref ≡ request.opening.service.0
  its_iref =
      let holds = find_holds (has_iref request.opening.service.0) h.before.run.offers.names right.service right.registered in
      sym (eqb-true request.opening.service.0 right.service.iref holds)

  cores_many : length w.cores ≡ length xs
  cores_many = ap (λ (cs : List TheCore). length cs) show.joined.cores ∙ long_map in_world xs

  leads : first_link over.before.monitor.circuits (map core_id (cores_of request.opening.path)) right.service.service.core.0 (length w.cores) ≡ Some request.link.0
  leads =
      ap (λ (k : TheCore). first_link k.monitor.circuits (map core_id (cores_of request.opening.path)) right.service.service.core.0 (length w.cores)) core_is
      ∙ ap (λ (t : TheRun TheSide). first_link t.core.monitor.circuits (map core_id (cores_of request.opening.path)) right.service.service.core.0 (length w.cores)) h.beside_is.own
      ∙ ap (λ (p : List CoreId). first_link h.before.run.core.monitor.circuits p right.service.service.core.0 (length w.cores)) (cores_back request.opening.path)
      ∙ ap (λ (c : ℕ). first_link h.before.run.core.monitor.circuits request.opening.path right.service.service.core.0 c) cores_many
      ∙ right.leads

  its_route : may_be_route (cores_of request.opening.path) w ≡ true
  its_route =
      let path = map core_id (cores_of request.opening.path) in
      let core = over.before.monitor.circuits.core in
      let server = right.service.service.core.0 in
      route_of (cores_of request.opening.path) core server (length w.cores)
      (by_test (is_monitor_route path core server (length w.cores)) (λ q. q)
      (λ q.
      let none : None ≡ Some request.link.0 =
      sym (ap (λ (b : Bool). if b then given (slice_get path 1) None (λ (c : CoreId). link_of over.before.monitor.circuits c.0) else None) q) ∙ leads in
      absurd (cc)))

  -- ---- what it comes to

  abbrev its_opening : Opening
  its_opening = opening_for want (length w.bindings) (cores_of request.opening.path)

  -- what is asked for, under the number that the world gives
  abbrev under_next : Opening
  under_next = record { binding = length w.bindings; service = request.opening.service; path = request.opening.path }

  next_is : under_next ≡ its_opening
  next_is = λ j. record { binding = length w.bindings; service = record { 0 = sym its_iref j }; path = sym (cores_back request.opening.path) j }

  abbrev AsksOf : Opening → Type 0
  AsksOf o = Asks (asked request.dispatcher over.event.program request.link o) over.before answer over.after

  module _ (w2 : TheWorld) (asks_it : AsksOf its_opening) (follows : AsksBy want answer w over.after (opened_answer answer) w2) where
    binds_it : Binds (named_request (record { core = n; place = request.dispatcher }) request.interface
        (name_of h.before.run.offers.names request.opening.service.0) (by_route (cores_of request.opening.path))) w (opened_answer answer) w2
    binds_it =
        if_not _ _ _ has_it
        (given_so _ _ _ over.event.copy.source over.event.copy.source_is
        (if_no _ _ _ room
        (given_so _ _ _ right.service named_there
        (if_not _ _ _ (eq-eqb right.service.service.interface request.interface right.interface)
        (if_not _ _ _ its_route
        (record {
          core = over.before;
          core_is = over.before_is;
          whole = over.whole;
          may = Ok request.link;
          may_open = (refl, leads);
          opens = inl (record {
            program = over.event.program;
            copy = over.event.copy.same;
            result = answer;
            after = over.after;
            still = over.still;
            asks = asks_it;
            follows = follows;
          });
        }))))))

    event_is : IsJoined w2 (slice_set xs n (ended jobs n log_entry xs ys h m))
        → length w2.bindings ≡ and_made (opening_event n h.before.run request) (opened_answer answer) (length w.bindings)
        → MachineDoes (opening_event n h.before.run request) (opened_answer answer) s ys
    event_is joined kept =
        finish jobs n log_entry xs ys h law (opening_event n h.before.run request) (opened_answer answer) s w w2 m show.shows noted joined kept binds_it

  -- a binding more, whose server's end is kept until it is made
  abbrev begun_binding : Binding
  begun_binding = binding_for want (Some (fresh over.event.program None))

  abbrev more : TheWorld
  more = record it.world { bindings = w.bindings ++ begun_binding ∷ [] }

  more_unruled : UnmadeHaveNoRules more
  more_unruled = push_unruled w.bindings over.event.program begun_binding refl show.joined.unruled

  more_joined : IsJoined more (slice_set xs n (ended jobs n log_entry xs ys h m))
  more_joined =
      let j = it.they_make in
      record {
        cores = j.cores;
        rings = j.rings;
        sides = j.sides;
        queues = j.queues;
        offers = λ k z z_is. let o = j.offers k z z_is in record { names = o.names; programs = o.programs };
        numbered = j.numbered;
        unruled = more_unruled;
      }

  more_is : more ≡ record (with_core w n over.after) { bindings = w.bindings ++ begun_binding ∷ [] }
  more_is = ap (λ (z : TheWorld). record z { bindings = w.bindings ++ begun_binding ∷ [] }) over.rest

  -- where it is refused nothing has changed
  same_world : over.after ≡ over.before → it.world ≡ w
  same_world same = over.rest ∙ ap (with_core w n) same ∙ same_core_there w n over.before over.before_is

-- an opening that its core accepts has the next number
numbered : (o : Opening) (number : ℕ) → o.binding ≡ number → o ≡ record o { binding = number }
numbered o number same = λ j. record { binding = same j; service = o.service; path = o.path }

module _ (law : StepsAgree) (n : ℕ) (name : EndId) (request : OpenRequest) (jobs : List CoreJob) (xs ys : List JoinedCore) (s : State) (show : TheyShow xs s)
    (whole : AreWhole xs) (still : AreWhole ys) where
  pub opens_there : (answer : Result ℕ OpenFault) → lacks_to_open answer ≡ false → (h : HappensAt jobs n (opened name request answer) xs ys)
      → AsksRightly (length xs) h.before.run request → IsNumbered (length s.bindings) answer request.opening.binding
      → MachineDoes (opening_event n h.before.run request) (opened_answer answer) s ys
  opens_there (Ok e) some h right number =
      let same : request.opening.binding ≡ length s.bindings = number in
      let next : length s.bindings ≤ request.opening.binding = omega (arith, same) in
      let there = it law n name request (Ok e) some jobs xs ys s show whole still h right next in
      let asks = subst (AsksOf law n name request (Ok e) some jobs xs ys s show whole still h right next)
      (numbered request.opening (length show.world.bindings) (same ∙ sym show.shows.showing.bindings.count)
      ∙ next_is law n name request (Ok e) some jobs xs ys s show whole still h right next) there.over.event.asks in
      event_is law n name request (Ok e) some jobs xs ys s show whole still h right next
      (more law n name request (Ok e) some jobs xs ys s show whole still h right next) asks (
        refl,
        record {
          program = there.over.event.program;
          copy = there.over.event.copy.same;
          rest = more_is law n name request (Ok e) some jobs xs ys s show whole still h right next;
        },
      )
      (more_joined law n name request (Ok e) some jobs xs ys s show whole still h right next)
      (length-append show.world.bindings (begun_binding law n name request (Ok e) some jobs xs ys s show whole still h right next ∷ []))
  opens_there (Err (Board board.Memory)) some h right number = absurd (cc)
  opens_there (Err (Monitor monitor.Memory)) some h right number = absurd (cc)
  opens_there (Err fault) some h right number =
      let there = it law n name request (Err fault) some jobs xs ys s show whole still h right number in
      let opening = its_opening law n name request (Err fault) some jobs xs ys s show whole still h right number in
      let count = show.shows.showing.bindings.count in
      let asks = asks_alike show.world s show.shows n there.over.before there.over.before_is request.dispatcher there.over.event.program request.link
      request.opening opening number (omega (arith, count)) fault there.over.after there.over.event.asks in
      let stays = asks_stays (asked request.dispatcher there.over.event.program request.link request.opening) there.over.before fault there.over.after there.over.event.asks in
      event_is law n name request (Err fault) some jobs xs ys s show whole still h right number show.world asks (refl, refl)
      (subst (λ (v : TheWorld). IsJoined v (slice_set xs n (ended jobs n (opened name request (Err fault)) xs ys h h.happens.0)))
      (same_world law n name request (Err fault) some jobs xs ys s show whole still h right number stays) there.they_make) refl

pub opens_are : StepsAgree → OpensJoin
opens_are law n name request answer jobs xs ys s some show whole still h right number =
    opens_there law n name request jobs xs ys s show whole still answer some h right number
