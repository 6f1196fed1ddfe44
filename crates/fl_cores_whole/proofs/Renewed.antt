-- A set-up and rules put nothing on a ring; so a world that shows the machine behind them shows it with new rings too.
use Rattle.std.proofs.Common.{◌≡◌, refl, sym, ◌∙◌, subst, ℕ, ◌+◌, ◌==◌, ◌||◌, ◌&&◌, nat_lt, nat_le, not, true, List, [], ◌∷◌, ◌++◌, length, slice_get, Some, None}
use Rattle.std.specs.List.{list_all, flat_map}
use Rattle.fl_base.specs.declared.identity.EndId.{EndId}
use Rattle.fl_base.specs.declared.identity.Side.TheVariants.{Client, Server}
use Rattle.fl_base.specs.Numbered.{most_cores, most_bindings}
use Rattle.fl_interface.specs.SameTypes.{same_arguments}
use Rattle.fl_core.proofs.Numbering.{came_from}
use Rattle.fl_core.specs.declared.wiring.EndWiring.{EndWiring}
use Rattle.fl_core.specs.declared.wiring.EndWiring.TheVariants.{Queues, Ring as OverRing, Circuit}
use Rattle.fl_core.specs.View.{TheCore}
use Rattle.fl_ring.specs.Duo.{TheDuo, new_half}
use Rattle.fl_model.specs.Events.{DispatcherId, Kind, by_queues, by_ring, by_route, Event, add_interface, set_cores, add_link, add_dispatcher, export, bind, call, show, write}
use Rattle.fl_model.specs.Events.{turn, ack, register, deregister, reply, monitor_write, forward, monitor_ack, Answer, refused}
use Rattle.fl_model.specs.Ends.{fresh_queue}
use Rattle.fl_model.specs.Rings.{Ring, fresh_half, fresh_ring}
use Rattle.fl_model.specs.State.{local, over_ring, Binding, State, StepOutcome, dispatcher_of, binding_of, interface_of, seats}
use Rattle.fl_model.specs.Making.{most_interfaces, most_dispatchers, most_services, is_ring_size, has_interface, is_core, has_link}
use Rattle.fl_model.specs.Making.{count_dispatchers, has_service}
use Rattle.fl_model.specs.Binding.{BindByNames, end_id, with_new_binding, binds_both, has_both_places, binds_by_queues, binds_by_ring, binds_by, place_of_service, binds}
use Rattle.fl_model.specs.Taking.{sets_rule, has_message, arguments_of}
use Rattle.fl_model.specs.Step.{does, settles_by, settles, step}
use Rattle.fl_model.specs.Worlds.{start_with}
use Rattle.fl_model.specs.Runs.{reached}
use Rattle.fl_model_laws.proofs.Cases.{either, by_given, Each, none_at_end, each_push}
use Rattle.fl_model_laws.proofs.RingsKept.{channel_rings, seats_rings}
use Rattle.fl_model_laws.proofs.Small.{both_are}
use Rattle.fl_cores_file.specs.Jobs.{Job, opens, replies, calls}
use Rattle.fl_world_refines.specs.Apart.{is_making}
use Rattle.fl_world_refines.specs.Fragments.{Streams}
use Rattle.fl_world_refines.specs.Making.{new_duo}
use Rattle.fl_world_refines.specs.Rings.{DirectionShows, RingShows}
use Rattle.fl_world_refines.specs.ShowsState.{IsWiring, Shows}
use Rattle.fl_world_refines.specs.View.{TheWorld}
use Rattle.fl_cores.specs.OneCore.{rule_in}
use Rattle.fl_cores_joined.proofs.Passing.{long_map}
use Rattle.fl_cores_whole.specs.Begin.{renewed}

-- ---- the machine's rings

abbrev IsFreshRing : Ring → Type 0
IsFreshRing r = r ≡ fresh_ring r.size

abbrev pub RingsAreFresh : State → Type 0
RingsAreFresh s = Each IsFreshRing s.rings

abbrev After : StepOutcome → Type 0
After o = RingsAreFresh o.state

bound_rings : (n : ℕ) (m : BindByNames) (s : State) → (binds_both n m s).rings ≡ s.rings
bound_rings n m s =
    let c = end_id n Client in
    let v = end_id n Server in
    let first : State = seats m.client c s in
    let second : State = seats m.service.dispatcher v first in
    channel_rings v _ _ ∙ channel_rings c _ _ ∙ seats_rings m.service.dispatcher v first ∙ seats_rings m.client c s

queues_after : (m : BindByNames) (slots : ℕ) (s : State) → RingsAreFresh s → After (binds_by_queues m slots s)
queues_after m slots s h =
    either After (not (m.client.core == m.service.dispatcher.core)) _ _ (λ q. h)
    (λ q. either After (nat_lt slots 1 || nat_lt 1024 slots) _ _ (λ r. h)
    (λ r. either After (not (has_both_places m s)) _ _ (λ t. h)
    (λ t. subst (Each IsFreshRing) (sym (bound_rings (length s.bindings) m (with_new_binding m local 2 (Some (fresh_queue slots)) s))) h)))

ring_after : (m : BindByNames) (size : ℕ) (s : State) → RingsAreFresh s → After (binds_by_ring m size s)
ring_after m size s h =
    let more : State = record s { rings = s.rings ++ fresh_ring size ∷ [] } in
    either After (m.client.core == m.service.dispatcher.core) _ _ (λ q. h)
    (λ q. either After (not (is_ring_size size)) _ _ (λ r. h)
    (λ r. either After (not (has_both_places m s)) _ _ (λ t. h)
    (λ t. subst (Each IsFreshRing) (sym (bound_rings (length s.bindings) m (with_new_binding m (over_ring (length s.rings)) 2 None more)))
    (each_push IsFreshRing s.rings (fresh_ring size) h refl))))

kind_after : (m : BindByNames) (kind : Kind) (s : State) (client : DispatcherId) (i : ℕ) (name : List ℕ) → is_making (bind client i name kind) ≡ true
    → RingsAreFresh s → After (binds_by m kind s)
kind_after m (by_queues slots) s client i name makes h = queues_after m slots s h
kind_after m (by_ring size) s client i name makes h = ring_after m size s h
kind_after m (by_route cores) s client i name makes h = absurd (cc)

bind_after : (client : DispatcherId) (i : ℕ) (name : List ℕ) (kind : Kind) (s : State) → is_making (bind client i name kind) ≡ true → RingsAreFresh s
    → After (binds client i name kind s)
bind_after client i name kind s makes h =
    by_given After (dispatcher_of s client) _ _ h
    (λ d q. by_given After (slice_get s.interfaces i) _ _ h
    (λ planned r. either After (nat_le most_bindings (length s.bindings)) _ _ (λ t. h)
    (λ t. by_given After (place_of_service name s.services) _ _ h
    (λ place u. by_given After (slice_get s.services place) _ _ h
    (λ service v. either After (not (service.interface == i)) _ _ (λ x. h)
    (λ x. kind_after (record { client = client; interface = i; messages = length planned.interface.messages; service = service; iref = place + 1 })
    kind s client i name makes h))))))

does_after : (v : Event) (s : State) → is_making v ≡ true → RingsAreFresh s → After (does v s)
does_after (add_interface i plan) s makes h =
    either After (has_interface i.name s) _ _ (λ q. h) (λ q. either After (nat_le most_interfaces (length s.interfaces)) _ _ (λ r. h) (λ r. h))
does_after (set_cores n) s makes h =
    either After (not s.may_set_cores) _ _ (λ q. h) (λ q. either After (nat_lt n 1 || nat_lt most_cores n) _ _ (λ r. h) (λ r. h))
does_after (add_link a b size) s makes h =
    either After (not (is_core a s && is_core b s) || (a == b) || has_link a b s) _ _ (λ q. h)
    (λ q. either After (not (is_ring_size size)) _ _ (λ r. h) (λ r. each_push IsFreshRing s.rings (fresh_ring size) h refl))
does_after (add_dispatcher core) s makes h =
    either After (nat_le most_dispatchers (count_dispatchers s)) _ _ (λ q. h) (λ q. either After (not (is_core core s)) _ _ (λ r. h) (λ r. h))
does_after (export name d i) s makes h =
    by_given After (dispatcher_of s d) _ _ h
    (λ x q. by_given After (slice_get s.interfaces i) _ _ h
    (λ y r. either After (has_service name s) _ _ (λ t. h)
    (λ t. either After (nat_le most_services (length s.services)) _ _ (λ u. h) (λ u. h))))
does_after (bind client i name kind) s makes h = bind_after client i name kind s makes h
does_after (call e c) s makes h = absurd (cc)
does_after (show e) s makes h = absurd (cc)
does_after (write e) s makes h = absurd (cc)
does_after (turn d) s makes h = absurd (cc)
does_after (ack e) s makes h = absurd (cc)
does_after (register e) s makes h = absurd (cc)
does_after (deregister e) s makes h = absurd (cc)
does_after (reply e msg answer) s makes h = absurd (cc)
does_after (monitor_write core neighbour) s makes h = absurd (cc)
does_after (forward core neighbour) s makes h = absurd (cc)
does_after (monitor_ack core neighbour) s makes h = absurd (cc)

rule_after : (e : EndId) (msg answer : ℕ) (s : State) → RingsAreFresh s → After (sets_rule e msg answer s)
rule_after e msg answer s h =
    by_given After (binding_of s e) _ _ h
    (λ b q. by_given After (interface_of s b) _ _ h
    (λ i r. either After (not (has_message msg i && has_message answer i)) _ _ (λ t. h)
    (λ t. either After (not (same_arguments (arguments_of msg i) (arguments_of answer i))) _ _ (λ u. h) (λ u. h))))

settled_by : (a : Answer) (s : State) → RingsAreFresh s → RingsAreFresh (settles_by a s)
settled_by (refused n) s h = h
settled_by a s h = h

settled : (v : Event) (o : StepOutcome) → After o → After (settles v o)
settled (add_interface i plan) o h = h
settled v o h = settled_by o.answer o.state h

run_fresh : (vs : List Event) (s : State) → list_all is_making vs ≡ true → RingsAreFresh s → RingsAreFresh (reached s vs)
run_fresh [] s makes h = h
run_fresh (v ∷ vs) s makes h =
    let both = both_are (is_making v) (list_all is_making vs) makes in
    run_fresh vs (step s v).state both.1 (settled v (does v s) (does_after v s both.0 h))

rules_fresh : (jobs : List Job) (s : State) → RingsAreFresh s → RingsAreFresh (reached s (flat_map rule_in jobs))
rules_fresh [] s h = h
rules_fresh (replies e msg answer ∷ jobs) s h =
    rules_fresh jobs (step s (reply e msg answer)).state (settled (reply e msg answer) (sets_rule e msg answer s) (rule_after e msg answer s h))
rules_fresh (opens request ∷ jobs) s h = rules_fresh jobs s h
rules_fresh (calls e c ∷ jobs) s h = rules_fresh jobs s h

-- behind the set-up, with the rules
pub begins_fresh : (cores : ℕ) (setup : List Event) (jobs : List Job) → list_all is_making setup ≡ true
    → RingsAreFresh (reached (reached (start_with cores) setup) (flat_map rule_in jobs))
begins_fresh cores setup jobs makes =
    rules_fresh jobs (reached (start_with cores) setup) (run_fresh setup (start_with cores) makes (none_at_end IsFreshRing))

-- ---- a world with new rings

new_shown : (streams : Streams) (k m : ℕ) → m ≡ k → RingShows streams (fresh_ring k) (new_duo m)
new_shown streams k m same = record { size = same; forth = none; back = none }
  where
    none : DirectionShows streams fresh_half new_half new_half
    none = record { sent = refl; known = refl; told = refl; read = refl; frags = refl; tells = refl; said = tt }

module _ (w : TheWorld) (s : State) (shows : Shows w s) (fresh : RingsAreFresh s) where
  abbrev pub renewed_world : TheWorld
  renewed_world = record w { rings = renewed w.rings }

  wiring_same : (c : TheCore) (e : EndId) (b : Binding) (v : EndWiring) → IsWiring w c s e b v → IsWiring renewed_world c s e b v
  wiring_same c e b (Queues out from) h = h
  wiring_same c e b (OverRing side) h = h
  wiring_same c e b (Circuit link arrivals) h = h

  pub renewed_shows : Shows renewed_world s
  renewed_shows =
      let p = shows.showing in
      record {
        sound = shows.sound;
        showing = record {
          may_set_cores = p.may_set_cores;
          cores = record { count = p.cores.count; each = p.cores.each };
          dispatchers = p.dispatchers;
          programs = p.programs;
          limits = p.limits;
          names = p.names;
          rings = record {
            count = long_map (λ (d : TheDuo). new_duo d.size) w.rings ∙ p.rings.count;
            each = λ n r d streams r_is d_is carries.
                let was = came_from (λ (z : TheDuo). new_duo z.size) w.rings n d d_is in
                let size = (p.rings.each n r was.first streams r_is was.first_is carries).size in
                subst (RingShows streams r) (sym was.same)
                (subst (λ (x : Ring). RingShows streams x (new_duo was.first.size)) (sym (fresh n r r_is)) (new_shown streams r.size was.first.size size));
          };
          bindings = record { count = p.bindings.count; each = p.bindings.each; silent = p.bindings.silent };
          ends = record {
            made = λ e b i seat b_is i_is seat_is.
                let m = p.ends.made e b i seat b_is i_is seat_is in
                record {
                  core = m.core;
                  core_is = m.core_is;
                  place = m.place;
                  place_is = m.place_is;
                  at = m.at;
                  at_is = m.at_is;
                  dispatcher = m.dispatcher;
                  channel = m.channel;
                  shows = m.shows;
                  wired_end = m.wired_end;
                  wired_end_is = m.wired_end_is;
                  name_is = m.name_is;
                  wiring = wiring_same m.core e b m.wired_end.wiring m.wiring;
                };
            only = p.ends.only;
            apart = p.ends.apart;
          };
        };
      }
