-- Over all cores: what is asked for is what jobs ask for, core by core back along the route.
use Rattle.std.proofs.Common.{◌≡◌, ◌⊎◌, inl, inr, refl, sym, ap, ◌∙◌, subst, ℕ, zero, suc, ◌-◌, ◌<◌, ◌≤◌, nat_lt, ◌&&◌, not, if◌then◌else◌, Bool, true, false, List, slice_get}
use Rattle.std.proofs.Common.{Option, Some, None, position, arith}
use Rattle.std.proofs.lemmas.Bool.{cases_lt, ltb-true}
use Rattle.std.proofs.lemmas.List.Quantifiers.{position-Some}
use Rattle.std.proofs.lemmas.Option.{get_or_from_slice_get}
use Rattle.fl_base.specs.declared.fragment.Frag.{Frag}
use Rattle.fl_base.specs.declared.identity.CoreId.{CoreId}
use Rattle.fl_base.specs.declared.identity.EndId.{EndId}
use Rattle.fl_base.specs.declared.identity.LinkId.{LinkId}
use Rattle.fl_base.specs.declared.identity.Side.TheVariants.{Client, Server}
use Rattle.fl_base.specs.Given.{given}
use Rattle.fl_cores_shares.specs.Settled.{RingsConserve}
use Rattle.fl_hop.specs.declared.links.LinkState.{LinkState}
use Rattle.fl_nameserv.specs.Registrations.{by_iref}
use Rattle.fl_hop.specs.OfCircuit.{of_circuit}
use Rattle.fl_hop.specs.Stretch.{taken_from, put_on}
use Rattle.fl_hop.specs.Table.{TheCircuits}
use Rattle.fl_hop.proofs.Counting.{none_there}
use Rattle.fl_hop.proofs.Lists.{at_within, within}
use Rattle.fl_monitor.specs.declared.opening.Opening.{Opening}
use Rattle.fl_monitor.specs.Fates.{comes_along}
use Rattle.fl_monitor.specs.Routing.{is_core, comes_after, is_named_behind, is_on_route}
use Rattle.fl_core.specs.declared.wiring.LinkSide.{LinkSide}
use Rattle.fl_core.specs.Sound.{IsCore}
use Rattle.fl_core.specs.View.{TheCore, side_of_link, client_of, server_of}
use Rattle.fl_core.specs.declared.core_job.CoreJob.{CoreJob}
use Rattle.fl_cores_laws.specs.Cores.{shared_ways, OneCore}
use Rattle.fl_cores_laws.specs.Circuits.{AreOneLink}
use Rattle.fl_cores_laws.specs.Named.{Has}
use Rattle.fl_cores_laws.specs.Asked.{AsksBy, IsRequested, CameAlong, SatAt, IsServedBy, IsOpenedBy, GoesAsking, CoresAsk, AreBeside, GoesRequested, RequestsAlone, IsServer, ServersAreRequested, ClientsAreRequested}
use Rattle.fl_cores_laws.proofs.OverLinks.{both_ways, has_before}
use Rattle.fl_cores_laws.proofs.Routes.{CircuitsPrefix}

-- ---- places on a route

-- where something stands that passes a test, the first that does stands there or before
first_place : {X : Type 0} (p : X → Bool) (xs : List X) (i : ℕ) (x : X) (o : Option ℕ) → slice_get xs i ≡ Some x → p x ≡ true → position p xs ≡ o → (q : ℕ) × (position p xs ≡ Some q) × (q ≤ i)
first_place p xs i x None at test is = absurd (let no : p x ≡ false = none_there p xs is i x at in let clash : true ≡ false = sym test ∙ no in cc)
first_place p xs i x (Some q) at test is =
    let (inside, here, before) = position-Some p xs q x is in
    elim (cases_lt i q) [
      | inl less ↦
          (let no : p x ≡ false = ap p (sym (get_or_from_slice_get xs i x x at)) ∙ before i less in
          absurd (let clash : true ≡ false = sym test ∙ no in cc))
      | inr other ↦ (q, is, omega (arith, other))
    ]

-- the core stands on the route, and that on the link's other side before it
pub record StandsBehind (t : TheCircuits) (l : ℕ) (path : List CoreId) : Type 0 where
  pub state : LinkState
  pub state_is : slice_get t.links l ≡ Some state
  pub place : ℕ
  pub place_is : position (is_core t.core) path ≡ Some place
  pub before : ℕ
  pub before_is : position (is_core state.neighbour.0) path ≡ Some before
  pub less : before < place

first_test : (a b : Bool) → (a && b) ≡ true → a ≡ true
first_test true b h = refl
first_test false b h = absurd (cc)

module _ (t : TheCircuits) (l : ℕ) (path : List CoreId) (state : LinkState) (state_is : slice_get t.links l ≡ Some state) (place : ℕ) (place_is : position (is_core t.core) path ≡ Some place) where
  neighbour : ℕ
  neighbour = state.neighbour.0

  by_core : (0 < place) → (o : Option CoreId) → slice_get path (place - 1) ≡ o → given o false (is_core state.neighbour.0) ≡ true → StandsBehind t l path
  by_core some None at h = absurd (cc)
  by_core some (Some c) at h =
      let (q, is, few) = first_place (is_core state.neighbour.0) path (place - 1) c (position (is_core state.neighbour.0) path) at h refl in
      record { state = state; state_is = state_is; place = place; place_is = place_is; before = q; before_is = is; less = omega (arith, some, few) }

  by_test : (b : Bool) → nat_lt 0 place ≡ b → (if b then given (slice_get path (place - 1)) false (is_core state.neighbour.0) else false) ≡ true → StandsBehind t l path
  by_test true is h = by_core (ltb-true 0 place is) (slice_get path (place - 1)) refl h
  by_test false is h = absurd (cc)

  by_place : comes_after path place state.neighbour.0 ≡ true → StandsBehind t l path
  by_place h = by_test (nat_lt 0 place) refl h

module _ (t : TheCircuits) (l : ℕ) (path : List CoreId) where
  by_position : (state : LinkState) → slice_get t.links l ≡ Some state → (o : Option ℕ) → position (is_core t.core) path ≡ o
      → given o false (λ place. comes_after path place state.neighbour.0 && not (is_named_behind path place t.core)) ≡ true → StandsBehind t l path
  by_position state at None is h = absurd (cc)
  by_position state at (Some place) is h =
      by_place t l path state at place is (first_test (comes_after path place state.neighbour.0) (not (is_named_behind path place t.core)) h)

  by_link : (o : Option LinkState) → slice_get t.links l ≡ o → given o false (λ state. is_on_route path state.neighbour.0 t.core) ≡ true → StandsBehind t l path
  by_link None at h = absurd (cc)
  by_link (Some state) at h = by_position state at (position (is_core t.core) path) refl h

  pub stands_behind : comes_along t l path ≡ true → StandsBehind t l path
  stands_behind h = by_link (slice_get t.links l) refl h

-- a link of the table has a side
pub side_there : (k : TheCore) → IsCore k → (l : ℕ) (state : LinkState) → slice_get k.monitor.circuits.links l ≡ Some state → (side : ℕ) × (side_of_link k.link_sides l ≡ Some side)
side_there k core l state at =
    let inside = within k.monitor.circuits.links l state at in
    let (link_side, there) = at_within k.link_sides l (omega (arith, inside, core.link_sides)) in
    (link_side.side, ap (λ (o : Option LinkSide). given o None λ x. Some x.side) there)

-- ---- over one link

module _ (rings : RingsConserve) (jobs : List CoreJob) (c d : OneCore) (x : GoesAsking jobs c) (y : GoesAsking jobs d) (l m : LinkId) where
  heard_was_said : CircuitsPrefix → AreOneLink c l d m → (f : Frag) → Has f (of_circuit 0 (taken_from m.0 y.steps)) → Has f (of_circuit 0 (put_on l.0 x.steps))
  heard_was_said prefix link f h =
      has_before f (of_circuit 0 (taken_from m.0 y.steps)) (of_circuit 0 (put_on l.0 x.steps))
      (prefix 0 (taken_from m.0 y.steps) (put_on l.0 x.steps) (both_ways rings c d x.steps y.steps x.links y.links l m link).0) h

-- ---- over all cores

module _ (rings : RingsConserve) (prefix : CircuitsPrefix) (ask : CoresAsk) (jobs : List CoreJob) (cores : List OneCore) (all : AreBeside jobs cores) where
  abbrev went : (n : ℕ) (c : OneCore) → slice_get cores n ≡ Some c → GoesAsking jobs c
  went n c is = ask jobs c (all.leading n c is) (all.unused n c is)

  -- what a core heard
  abbrev Heard : (n : ℕ) (c : OneCore) → slice_get cores n ≡ Some c → Opening → Type 0
  Heard n c is o = CameAlong c.start.core.monitor.circuits (λ l. of_circuit 0 (taken_from l (went n c is).steps)) o

  -- the other core said it, and stands further back on the route
  record SaidBefore (o : Opening) (place : ℕ) : Type 0 where
    pub n : ℕ
    pub core : OneCore
    pub core_is : slice_get cores n ≡ Some core
    pub link : LinkId
    pub frag : Frag
    pub has : Has frag (of_circuit 0 (put_on link.0 (went n core core_is).steps))
    pub asks : AsksBy frag o
    pub less : (p : ℕ) → position (is_core core.start.core.monitor.circuits.core) o.path ≡ Some p → p < place

  back : (n : ℕ) (c : OneCore) (is : slice_get cores n ≡ Some c) (o : Opening) (came : Heard n c is o) (b : StandsBehind c.start.core.monitor.circuits came.link.0 o.path) → SaidBefore o b.place
  back n c is o came b =
      let (side, there) = side_there c.start.core (all.leading n c is).went.core came.link.0 b.state b.state_is in
      let x = all.beside n side c came.link is there in
      let states : x.state ≡ b.state = some_state x.state b.state (sym x.state_is ∙ b.state_is) in
      let number : x.core.start.core.monitor.circuits.core ≡ b.state.neighbour.0 = x.number ∙ ap (λ (a : LinkState). a.neighbour.0) states in
      record {
        n = x.place;
        core = x.core;
        core_is = x.core_is;
        link = x.link;
        frag = came.frag;
        has = heard_was_said rings jobs x.core c (went x.place x.core x.core_is) (went n c is) x.link came.link prefix x.one came.frag came.has;
        asks = came.asks;
        less = λ p at.
            (let found : Some b.before ≡ Some p = sym b.before_is ∙ ap (λ (k : ℕ). position (is_core k) o.path) (sym number) ∙ at in
            let same : b.before ≡ p = some_number b.before p found in
            omega (arith, same, b.less));
      }
    where
      some_state : (a z : LinkState) → Some a ≡ Some z → a ≡ z
      some_state a z same = cc

      some_number : (a z : ℕ) → Some a ≡ Some z → a ≡ z
      some_number a z same = cc

  -- by the place of the core on the route
  said_requested : (most n : ℕ) (c : OneCore) (is : slice_get cores n ≡ Some c) (l : ℕ) (f : Frag) (o : Opening) → Has f (of_circuit 0 (put_on l (went n c is).steps)) → AsksBy f o
      → ((p : ℕ) → position (is_core c.start.core.monitor.circuits.core) o.path ≡ Some p → p < most) → IsRequested jobs o
  said_requested zero n c is l f o has a below = elim ((went n c is).asked l f o (inl has) a) [
    | inl requested ↦ requested
    | inr came ↦ (let b = stands_behind c.start.core.monitor.circuits came.link.0 o.path came.along in let less = below b.place b.place_is in absurd (omega (arith, less)))
  ]
  said_requested (suc most) n c is l f o has a below = elim ((went n c is).asked l f o (inl has) a) [
    | inl requested ↦ requested
    | inr came ↦
        (let b = stands_behind c.start.core.monitor.circuits came.link.0 o.path came.along in
        let less = below b.place b.place_is in
        let x = back n c is o came b in
        said_requested most x.n x.core x.core_is x.link.0 x.frag o x.has x.asks (λ p at. (let fewer = x.less p at in omega (arith, less, fewer))))
  ]

  pub heard_requested : (n : ℕ) (c : OneCore) (is : slice_get cores n ≡ Some c) (o : Opening) → Heard n c is o → IsRequested jobs o
  heard_requested n c is o came =
      let b = stands_behind c.start.core.monitor.circuits came.link.0 o.path came.along in
      let x = back n c is o came b in
      said_requested b.place x.n x.core x.core_is x.link.0 x.frag o x.has x.asks x.less

  all_requested : (n : ℕ) (c : OneCore) (is : slice_get cores n ≡ Some c) → GoesRequested jobs c
  all_requested n c is = record {
    asking = went n c is;
    heard = heard_requested n c is;
    said = λ l f o has a. elim ((went n c is).asked l f o (inl has) a) [
      | inl requested ↦ requested
      | inr came ↦ heard_requested n c is o came
    ];
  }

pub requests_alone : RingsConserve → CircuitsPrefix → CoresAsk → RequestsAlone
requests_alone rings prefix ask jobs cores all n c is = all_requested rings prefix ask jobs cores all n c is

-- ---- ends

other_side : (a b : ℕ) → server_of a ≡ client_of b → ⊥
other_side a b same = let sides : Server ≡ Client = ap (λ (e : EndId). e.side) same in absurd (cc)

same_binding : (a b : ℕ) → server_of a ≡ server_of b → a ≡ b
same_binding a b same = ap (λ (e : EndId). e.binding) same

pub servers_requested : RequestsAlone → ServersAreRequested
servers_requested alone jobs cores all n c is binding e seat absent at there = by (g.asking.made (server_of binding) e seat absent at there) where
  g : GoesRequested jobs c
  g = alone jobs cores all n c is

  by : (d : ℕ) × SatAt shared_ways jobs c.finish (server_of binding) d
      × (IsServedBy c.start (λ l. of_circuit 0 (taken_from l g.asking.steps)) (server_of binding) seat.end.program d
      ⊎ IsOpenedBy jobs c.start c.log (server_of binding) seat.end.program d)
      → IsServer jobs c binding seat
  by (d, sat, inl x) =
      let w = g.heard x.opening x.came in
      record {
        place = w.place;
        request = w.request;
        job_is = w.job_is;
        binding_is = ap (λ (o : Opening). o.binding) w.opening_is ∙ sym (same_binding binding x.opening.binding x.name_is);
        registration = x.registration;
        service = ap (λ (o : Opening). by_iref o.service.0 c.start.offers.names) w.opening_is ∙ x.service;
        core_is = x.core_is;
        sat = subst (λ (n : ℕ). SatAt shared_ways jobs c.finish (server_of binding) n) (sym x.dispatcher) sat;
        source = x.source;
        source_is = x.source_is;
        same = x.same;
      }
  by (d, sat, inr x) = absurd (other_side binding x.request.opening.binding x.name_is)

pub clients_requested : CoresAsk → ClientsAreRequested
clients_requested ask jobs c leading unused binding e seat absent at there = by (g.made (client_of binding) e seat absent at there) where
  g : GoesAsking jobs c
  g = ask jobs c leading unused

  by : (d : ℕ) × SatAt shared_ways jobs c.finish (client_of binding) d
      × (IsServedBy c.start (λ l. of_circuit 0 (taken_from l g.steps)) (client_of binding) seat.end.program d
      ⊎ IsOpenedBy jobs c.start c.log (client_of binding) seat.end.program d)
      → (d : ℕ) × SatAt shared_ways jobs c.finish (client_of binding) d × IsOpenedBy jobs c.start c.log (client_of binding) seat.end.program d
  by (d, sat, inl x) = absurd (other_side x.opening.binding binding (sym x.name_is))
  by (d, sat, inr x) = (d, sat, x)
