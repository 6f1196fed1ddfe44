-- A binding within a core, from its core and its queues to the world.
use Rattle.std.proofs.Common.{◌≡◌, ◌≢◌, ◌≤◌, ◌||◌, not, nat_lt, true, false, ◌<◌, ◌+◌, refl, sym, ap, ap₂, ◌∙◌, subst, ℕ, length, length-set, slice_get, slice_set, List, [], ◌∷◌, ◌++◌, Some, None, Ok}
use Rattle.std.proofs.lemmas.Bool.{lt-ltb, le-ltb, eq-eqb, ne_eqb}
use Rattle.std.proofs.lemmas.Option.{slice_get_within, same_Some}
use Rattle.fl_compile.specs.declared.program.Program.{Program}
use Rattle.fl_lists.specs.declared.place.Place.TheVariants as place
use Rattle.fl_link.specs.Queue.{TheQueue}
use Rattle.fl_endpoint.specs.View.{TheEnd}
use Rattle.fl_core.specs.declared.joining.LocalBinding.{LocalBinding}
use Rattle.fl_core.specs.View.{TheCore}
use Rattle.fl_core.specs.Making.{AddsWiredEnd, client_wired_end, server_wired_end}
use Rattle.fl_model.specs.Events.{Answer, refused}
use Rattle.fl_model.specs.Views.{id_of}
use Rattle.fl_world_refines.specs.declared.binding.Binding.{Binding}
use Rattle.fl_world_refines.specs.View.{TheWorld}
use Rattle.fl_world_refines.specs.Binding.{queue_pair, IsJoined, JoinsByQueues, BindsByQueues, new_queue}
use Rattle.fl_world.specs.declared.binding.BindRequest.{BindRequest}
use Rattle.fl_world_events.specs.Queued.{JoinsIn, MayJoinAt, JoinsAt}
use Rattle.fl_world.specs.Queued.{joining, IsJoining, JoinsOrNot}
use Rattle.fl_world_events.specs.Requests.{HasDispatcher}
use Rattle.fl_world.specs.Requests.{request, OfRequest, IsNewAt, IsNewEnd, both_places}
use Rattle.fl_world.proofs.Requested.{if_true, if_false}

-- ---- among all cores

pub as_many_cores : (n : ℕ) (j : LocalBinding) (forth back : TheQueue) (cores cores2 : List TheCore) → JoinsAt n j forth back cores cores2
    → length cores2 ≡ length cores
as_many_cores n j forth back cores cores2 h = ap length h.rest ∙ length-set cores n h.after

-- ---- in the world

module _ (x : BindRequest) (n q : ℕ) (w : TheWorld) (s t : TheEnd) (one : IsNewEnd x.interface w s) (other : IsNewEnd x.interface w t) where
  is_joined : (p : Program) → slice_get w.programs x.interface ≡ Some p → (forth back : TheQueue) (k k2 : TheCore)
      → JoinsIn (joining x n q s t) forth back k k2 → IsJoined (request x p) n (queue_pair q forth back) k k2
  is_joined p is forth back k k2 h = record {
    client_program = one.program;
    client_copy = one.copy p is;
    client = h.ends.client;
    with_client = h.added.between;
    adds_client = subst (λ (e : TheEnd). AddsWiredEnd x.client.place e (client_wired_end (joining x n q s t)) k (Ok h.ends.client) h.added.between) one.end h.added.client;
    server_program = other.program;
    server_copy = other.copy p is;
    server = h.ends.server;
    with_both = h.with_both;
    adds_server = subst (λ (e : TheEnd). AddsWiredEnd x.server.place e (server_wired_end (joining x n q s t)) h.added.between (Ok h.ends.server) h.with_both) other.end h.added.server;
    client_answer = h.listed.client.0;
    client_listed = h.listed.between;
    registers_client = h.listed.client.1;
    server_answer = h.listed.server.0;
    registers_server = h.listed.server.1;
  }

-- the world with room for more
pub same_world : (v w : TheWorld) → v ≡ w → (queues : List TheQueue) (bindings : List Binding) → queues ≡ v.queues → bindings ≡ v.bindings
    → record v { queues = queues; bindings = bindings } ≡ w
same_world v w same queues bindings qs bs =
    ap₂ (λ (x : List TheQueue) (y : List Binding). record v { queues = x; bindings = y }) qs bs ∙ same

pub made_joining : (x : BindRequest) (w base : TheWorld) → base ≡ w → (bindings : List Binding) → bindings ≡ base.bindings → (queues : List TheQueue)
    → queues ≡ base.queues → (s t : TheEnd) → IsNewEnd x.interface w s → IsNewEnd x.interface w t
    → IsJoining x w (joining x (length bindings) (length queues) s t)
made_joining x w base same bindings bs queues qs s t one other = record {
  client = s;
  new_client = one;
  server = t;
  new_server = other;
  is = ap₂ (λ (n q : ℕ). joining x n q s t)
      (ap length bs ∙ ap (λ (v : TheWorld). length v.bindings) same) (ap length qs ∙ ap (λ (v : TheWorld). length v.queues) same);
}

-- base is the world when the ends are made, and read its cores
module _ (x : BindRequest) (w base : TheWorld) (same : base ≡ w) (j : LocalBinding) (made : IsJoining x base j) (read : List TheCore) (all : read ≡ base.cores) where
  pub core_there : HasDispatcher w.cores (id_of x.client) → x.client.core < length read
  core_there h =
      let below : x.client.core < length base.cores
      = subst (λ (v : TheWorld). x.client.core < length v.cores) (sym same) (slice_get_within w.cores x.client.core h.core h.core_is) in
      subst (λ (cs : List TheCore). x.client.core < length cs) (sym all) below

  -- what the core has to be like
  pub may_join_at : x.client.core ≡ x.server.core → HasDispatcher w.cores (id_of x.client) → HasDispatcher w.cores (id_of x.server)
      → length w.bindings < 1024 → IsNewAt (length w.bindings) x.client.core w → MayJoinAt x.client.core j read
  may_join_at together client server few new =
      let its_server : x.server.place < length client.core.board.dispatchers
      = subst (λ (k : TheCore). x.server.place < length k.board.dispatchers)
      (same_Some server.core client.core (sym server.core_is ∙ ap (slice_get w.cores) (sym together) ∙ client.core_is)) server.there in
      let in_w : MayJoinAt x.client.core (joining x (length w.bindings) (length w.queues) made.client made.server) w.cores
      = (client.core, client.core_is, record { client = client.there; server = its_server; few = few; new = new client.core client.core_is }) in
      let in_base : MayJoinAt x.client.core (joining x (length base.bindings) (length base.queues) made.client made.server) base.cores
      = subst (λ (v : TheWorld). MayJoinAt x.client.core (joining x (length v.bindings) (length v.queues) made.client made.server) v.cores) (sym same) in_w in
      subst (λ (i : LocalBinding). MayJoinAt x.client.core i read) (sym made.is)
      (subst (λ (cs : List TheCore). MayJoinAt x.client.core (joining x (length base.bindings) (length base.queues) made.client made.server) cs) (sym all) in_base)

  module _ (slots : ℕ) (forth back : TheQueue) (new_forth : forth ≡ new_queue slots) (new_back : back ≡ new_queue slots)
      (cores held : List TheCore) (h : JoinsAt x.client.core j forth back read cores) (left : held ≡ cores)
      (forth2 back2 : TheQueue) (same_forth : forth2 ≡ forth) (same_back : back2 ≡ back)
      (queues : List TheQueue) (all_queues : queues ≡ base.queues ++ forth2 ∷ back2 ∷ [])
      (bindings : List Binding)
      (all_bindings : bindings ≡ base.bindings ++ record { interface = x.interface; client = x.client.core; server = x.server.core; unmade = None } ∷ []) where
    joined : (p : Program) → slice_get base.programs x.interface ≡ Some p
        → IsJoined (request x p) (length base.bindings) (queue_pair (length base.queues) (new_queue slots) (new_queue slots)) h.core h.after
    joined p is =
        let both = is_joined x (length base.bindings) (length base.queues) base made.client made.server made.new_client made.new_server p is forth back h.core h.after
        (subst (λ (i : LocalBinding). JoinsIn i forth back h.core h.after) made.is h.joins.event) in
        subst (λ (f : TheQueue). IsJoined (request x p) (length base.bindings) (queue_pair (length base.queues) f (new_queue slots)) h.core h.after) new_forth
        (subst (λ (b : TheQueue). IsJoined (request x p) (length base.bindings) (queue_pair (length base.queues) forth b) h.core h.after) new_back both)

    queues_are : queues ≡ base.queues ++ new_queue slots ∷ new_queue slots ∷ []
    queues_are = all_queues ∙ ap₂ (λ (f b : TheQueue). base.queues ++ f ∷ b ∷ []) (same_forth ∙ new_forth) (same_back ∙ new_back)

    cores_are : held ≡ slice_set base.cores x.client.core h.after
    cores_are = left ∙ h.rest ∙ ap (λ (cs : List TheCore). slice_set cs x.client.core h.after) all

    pub joins_by_queues : OfRequest x w (λ r. JoinsByQueues r slots w (record base { cores = held; queues = queues; bindings = bindings }))
    joins_by_queues p is =
        subst (λ (v : TheWorld). JoinsByQueues (request x p) slots v (record base { cores = held; queues = queues; bindings = bindings })) same (record {
          core = h.core;
          core_is = subst (λ (cs : List TheCore). slice_get cs x.client.core ≡ Some h.core) all h.core_is;
          whole = h.joins.whole;
          after = h.after;
          still = h.joins.still;
          joined = joined p (subst (λ (v : TheWorld). slice_get v.programs x.interface ≡ Some p) (sym same) is);
          rest = ap (λ (cs : List TheCore). record base { cores = cs; queues = queues; bindings = bindings }) cores_are
              ∙ ap (λ (qs : List TheQueue). record base { cores = slice_set base.cores x.client.core h.after; queues = qs; bindings = bindings }) queues_are
              ∙ ap (λ (bs : List Binding). record base {
                cores = slice_set base.cores x.client.core h.after;
                queues = base.queues ++ new_queue slots ∷ new_queue slots ∷ [];
                bindings = bs;
              }) all_bindings;
        })

-- ---- whether it may be

module _ (x : BindRequest) (slots : ℕ) (w : TheWorld) where
  pub two_cores : x.client.core ≢ x.server.core → OfRequest x w (λ r. BindsByQueues r slots w (refused 73) w)
  two_cores other p is = if_true _ _ _ (ap not (ne_eqb x.client.core x.server.core other)) (refl, refl)

  module _ (together : x.client.core ≡ x.server.core) where
    pub too_few : slots < 1 → OfRequest x w (λ r. BindsByQueues r slots w (refused 32) w)
    too_few few p is =
        if_false _ _ _ (ap not (eq-eqb x.client.core x.server.core together))
        (if_true _ _ _ (ap (λ b. b || nat_lt 1024 slots) (lt-ltb slots 1 few)) (refl, refl))

    module _ (some : 1 ≤ slots) where
      pub too_many : 1024 < slots → OfRequest x w (λ r. BindsByQueues r slots w (refused 32) w)
      too_many many p is =
          if_false _ _ _ (ap not (eq-eqb x.client.core x.server.core together))
          (if_true _ _ _ (ap₂ (λ b c. b || c) (le-ltb slots 1 some) (lt-ltb 1024 slots many)) (refl, refl))

      module _ (few : slots ≤ 1024) where
        right_slots : (nat_lt slots 1 || nat_lt 1024 slots) ≡ false
        right_slots = ap₂ (λ b c. b || c) (le-ltb slots 1 some) (le-ltb 1024 slots few)

        pub no_places : both_places (id_of x.client) (id_of x.server) w ≡ false → OfRequest x w (λ r. BindsByQueues r slots w (refused 54) w)
        no_places none p is =
            if_false _ _ _ (ap not (eq-eqb x.client.core x.server.core together))
            (if_false _ _ _ right_slots (if_true _ _ _ (ap not none) (refl, refl)))

        pub may_bind : both_places (id_of x.client) (id_of x.server) w ≡ true → (a : Answer) (w2 : TheWorld) → JoinsOrNot x slots w a w2
            → OfRequest x w (λ r. BindsByQueues r slots w a w2)
        may_bind room a w2 h p is =
            if_false _ _ _ (ap not (eq-eqb x.client.core x.server.core together))
            (if_false _ _ _ right_slots (if_false _ _ _ (ap not room) (h p is)))
