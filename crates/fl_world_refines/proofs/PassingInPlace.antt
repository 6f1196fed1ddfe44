-- An opening that stands first on a link is in its place: its number is due, its binding has neither an end nor an entry here, its route leads here.
use Rattle.std.proofs.Common.{◌≡◌, ◌≢◌, ◌⊎◌, inl, inr, refl, sym, ◌∙◌, ap, subst, ℕ, zero, suc, ◌+◌, ◌*◌, ◌-◌, ◌/◌, ◌%◌, ◌<◌, ◌≤◌, ◌==◌, ◌&&◌, ◌||◌, nat_lt, not, Bool, true, false, cond, if◌then◌else◌, List, [], ◌∷◌, ◌++◌, map, drop, length, position, slice_get, Option, Some, None, arith}
use Rattle.std.specs.Prelude.{is_some, filter_map}
use Rattle.std.specs.List.{list_any, range_with_len, position_from}
use Rattle.std.proofs.lemmas.Bool.{eq-eqb, eqb-true}
use Rattle.std.proofs.lemmas.Iterator.Adapters.{position_from-zero}
use Rattle.std.proofs.lemmas.Option.{slice_get-map, slice_get_within}
use Rattle.fl_base.specs.declared.identity.CoreId.{CoreId}
use Rattle.fl_base.specs.declared.identity.EndId.{EndId}
use Rattle.fl_base.specs.declared.identity.Side.TheVariants.{Client, Server}
use Rattle.fl_base.specs.Given.{given}
use Rattle.fl_base.specs.Numbered.{core_id}
use Rattle.fl_hop.specs.declared.links.LinkState.{LinkState}
use Rattle.fl_hop.specs.declared.entry.Hop.{Hop}
use Rattle.fl_hop.specs.Numbers.{number, next_due}
use Rattle.fl_hop.specs.Openings.{is_next}
use Rattle.fl_hop.specs.Table.{TheCircuits, hop_at, is_of, stands, slot}
use Rattle.fl_monitor.specs.Routing.{is_core, comes_after, is_named_behind, is_on_route}
use Rattle.fl_monitor.specs.Fates.{comes_along}
use Rattle.fl_core.specs.View.{TheCore, place_of, client_of, server_of}
use Rattle.fl_core.specs.Hearing.{has_end}
use Rattle.fl_model.specs.Rings.{OpeningLabel, MonitorLabel, open_circuit, says, RingLabel, Ring, read_by, first_for}
use Rattle.fl_model.specs.Ends.{Seat, End}
use Rattle.fl_model.specs.Monitors.{Core, Link, link_to}
use Rattle.fl_model.specs.State.{OpeningVerdict, undecided, Route, Back, Binding, State, core_of, end_of, link_between, first_on}
use Rattle.fl_model.specs.Binding.{all_differ}
use Rattle.fl_model.specs.Standing.{Routed, core_at, standing, standing_by, link_state, under_way, unread, labels_of, on_link, said_by, opening_number}
use Rattle.fl_model.specs.SoundEntries.{Key, EntryAt, IsDueNear, IsDueFar}
use Rattle.fl_model.specs.SoundOpenings.{OpeningsGo}
use Rattle.fl_model.specs.SoundPlaces.{LinkIsPaired}
use Rattle.fl_model.specs.SoundRoutes.{BoundBy, BoundWhere, RouteLeads, NumbersGo}
use Rattle.fl_model_laws.proofs.BindingWalk.{given_there}
use Rattle.fl_model_laws.proofs.CoresKept.{link_place}
use Rattle.fl_model_laws.proofs.Faces.{counts_at, counted_at}
use Rattle.fl_model_laws.proofs.ForwardsTold.{place_there}
use Rattle.fl_model_laws.proofs.Hearing.{LinkThere, link_there, head_said}
use Rattle.fl_model_laws.proofs.ListingStep.{end_at as end_with}
use Rattle.fl_model_laws.proofs.Routed.{same_route as same_route_of}
use Rattle.fl_model_laws.proofs.TableSteps.{there_stands}
use Rattle.fl_model_laws.proofs.Ways.{Once, once_of, got_within, got_index}
use Rattle.fl_world_refines.proofs.Tests.{by_test, lt_true}
use Rattle.fl_world_refines.specs.View.{TheWorld}
use Rattle.fl_world_refines.specs.ShowsState.{Shows, SitsAt}
use Rattle.fl_world_refines.proofs.PassingAnswers.{counts, its_state, named}
use Rattle.fl_world_refines.proofs.PassingKnows.{OpeningHere, core_stands, neighbour_stands}
use Rattle.fl_world_refines.proofs.PassingLinkSides.{LinkedTo, end_at, its_end, its_between}
use Rattle.fl_world_refines.proofs.PassingLists.{some_is, given_is}

-- ---- lists

any_there : {X : Type 0} (p : X → Bool) (xs : List X) → list_any p xs ≡ true → (i : ℕ) × (x : X) × (slice_get xs i ≡ Some x) × (p x ≡ true)
any_there p [] e = absurd (cc)
any_there {X} p (x ∷ xs) e = by_test (p x) (λ q. (0, x, refl, q))
    (λ q. let (i, y, at, is) = any_there p xs (sym (ap (λ (b : Bool). b || list_any p xs) q) ∙ e) in (suc i, y, at, is))

none_any : {X : Type 0} (p : X → Bool) (xs : List X) → ((i : ℕ) (x : X) → slice_get xs i ≡ Some x → p x ≡ true → ⊥) → list_any p xs ≡ false
none_any p xs h = by_test (list_any p xs) (λ q. let (i, x, at, is) = any_there p xs q in absurd (h i x at is)) (λ q. q)

dropped : {X : Type 0} (xs : List X) (n i : ℕ) → slice_get (drop n xs) i ≡ slice_get xs (n + i)
dropped xs zero i = ap (slice_get xs) (let e : i ≡ 0 + i = omega arith in e)
dropped [] (suc n) i = refl
dropped (x ∷ xs) (suc n) i = dropped xs n i ∙ ap (slice_get (x ∷ xs)) (let e : suc (n + i) ≡ suc n + i = omega arith in e)

-- ---- places on a route

position_named : (cores : List ℕ) (core i : ℕ) → position_from (is_core core) i (map core_id cores) ≡ position_from (λ (c : ℕ). c == core) i cores
position_named [] core i = refl
position_named (c ∷ cores) core i = ap (λ (o : Option ℕ). cond (c == core) (Some i) o) (position_named cores core (i + 1))

pub named_place : (cores : List ℕ) (core : ℕ) → position (is_core core) (map core_id cores) ≡ position (λ (c : ℕ). c == core) cores
named_place cores core =
    position_from-zero (is_core core) (map core_id cores) ∙ position_named cores core 0 ∙ sym (position_from-zero (λ (c : ℕ). c == core) cores)

named_at : (cores : List ℕ) (i c : ℕ) → slice_get cores i ≡ Some c → slice_get (map core_id cores) i ≡ Some (core_id c)
named_at [] i c q = absurd (cc)
named_at (x ∷ xs) zero c q = ap (λ (y : ℕ). Some (core_id y)) (some_is x c q)
named_at (x ∷ xs) (suc i) c q = named_at xs i c q

at_named : (cores : List ℕ) (i : ℕ) (x : CoreId) → slice_get (map core_id cores) i ≡ Some x → slice_get cores i ≡ Some x.0
at_named [] i x q = absurd (cc)
at_named (c ∷ cs) zero x q = ap (λ (y : CoreId). Some y.0) (some_is (core_id c) x q)
at_named (c ∷ cs) (suc i) x q = at_named cs i x q

pub none_named : (cores : List ℕ) (i : ℕ) → slice_get (map core_id cores) i ≡ None → slice_get cores i ≡ None
none_named [] i q = refl
none_named (c ∷ cs) zero q = absurd (cc)
none_named (c ∷ cs) (suc i) q = none_named cs i q

-- a route on which a core comes directly after its neighbour, and just once
on_route : (cores : List ℕ) (n core neighbour : ℕ) → all_differ cores ≡ true → 1 ≤ n → slice_get cores n ≡ Some core → slice_get cores (n - 1) ≡ Some neighbour
    → is_on_route (map core_id cores) neighbour core ≡ true
on_route cores n core neighbour differ some here before =
    ap (λ (o : Option ℕ). given o false λ place. comes_after (map core_id cores) place neighbour && not (is_named_behind (map core_id cores) place core))
    (named_place cores core ∙ place_there cores n core (got_within cores n core here) (got_index cores n core here) differ)
    ∙ ap (λ (b : Bool). b && not (is_named_behind (map core_id cores) n core)) after
    ∙ ap not once
  where
    after : comes_after (map core_id cores) n neighbour ≡ true
    after =
        ap (λ (b : Bool). if b then given (slice_get (map core_id cores) (n - 1)) false (is_core neighbour) else false) (lt_true 0 n (omega (arith, some)))
        ∙ ap (λ (o : Option CoreId). given o false (is_core neighbour)) (named_at cores (n - 1) neighbour before)
        ∙ eq-eqb neighbour neighbour refl

    once : is_named_behind (map core_id cores) n core ≡ false
    once = none_any (is_core core) (drop (n + 1) (map core_id cores))
        (λ i x at is.
        let there : slice_get cores (n + 1 + i) ≡ Some x.0 = at_named cores (n + 1 + i) x (sym (dropped (map core_id cores) (n + 1) i) ∙ at) in
        let same : x.0 ≡ core = eqb-true x.0 core is in
        let twice : n + 1 + i ≡ n = once_of cores differ (n + 1 + i) n core (there ∙ ap (λ (y : ℕ). Some y) same) here in
        omega (arith, twice))

head_is : (f : ℕ → ℕ) (n k c : ℕ) (rest : List ℕ) → c ∷ rest ≡ map f (range_with_len n k) → (1 ≤ k) × (f n ≡ c)
head_is f n zero c rest h = absurd (cc)
head_is f n (suc k) c rest h = (omega arith, (let e : c ≡ f n = cc in sym e))

module _ (w : TheWorld) (s : State) (core neighbour l : ℕ) (link : Link) (shows : Shows w s) (t : LinkedTo w s core neighbour l link) (o : OpeningLabel) (h : OpeningHere s neighbour core o) where
  lead : RouteLeads s h.route h.routed.binding
  lead = shows.sound.routes h.binding h.route h.routed

  some : 1 ≤ length h.route.numbers
  some = (shows.sound.numbers h.binding h.route h.routed).some

  here_at : slice_get h.route.cores (length h.route.numbers) ≡ Some core
  here_at = core_stands w s core neighbour l link shows t o h

  once : Once h.route.cores
  once = once_of h.route.cores lead.differ

  number_is : t.k.circuits.core ≡ core
  number_is = (shows.sound.cores core t.k t.k_is).number

  -- ---- its route leads here

  pub along : comes_along t.k.circuits l (map core_id o.path) ≡ true
  along =
      ap (λ (p : Option LinkState). given p false λ u. is_on_route (map core_id o.path) u.neighbour.0 t.k.circuits.core) (counts w s core neighbour l link shows t).1
      ∙ ap (λ (n : ℕ). is_on_route (map core_id o.path) n t.k.circuits.core) (named w s core neighbour l link shows t)
      ∙ ap (is_on_route (map core_id o.path) neighbour) number_is
      ∙ ap (λ (cs : List ℕ). is_on_route (map core_id cs) neighbour core) (sym h.path)
      ∙ on_route h.route.cores (length h.route.numbers) core neighbour lead.differ some here_at (neighbour_stands w s core neighbour l link shows t o h)

  -- ---- no end of it is here

  pub none_bound : BoundBy h.route undecided h.routed.binding
  none_bound =
      subst (λ (v : OpeningVerdict). BoundBy h.route v h.routed.binding) h.verdict
      (subst (λ (a : Back). BoundWhere a h.routed.binding) h.routed.back (shows.sound.bound h.binding h.routed.binding h.routed.there))

  no_client : (p : Option ℕ) → place_of t.c (client_of h.binding) ≡ p → is_some p ≡ false
  no_client None q = refl
  no_client (Some place) q =
      let sits : SitsAt s (client_of h.binding) core = shows.showing.ends.only core t.c (client_of h.binding) place t.c_is q in
      let x_is : sits.0 ≡ h.routed.binding.client = some_is sits.0 h.routed.binding.client (sym sits.1.1 ∙ end_with s (client_of h.binding) h.routed.binding h.routed.there) in
      let seat_is : sits.1.0 ≡ lead.client = some_is sits.1.0 lead.client (sym sits.1.2 ∙ ap (λ (x : End). x.seat) x_is ∙ lead.client_is) in
      let first : slice_get h.route.cores 0 ≡ Some core =
      Rattle.fl_model_laws.proofs.Ways.index_got h.route.cores 0 (let n = got_within h.route.cores (length h.route.numbers) core here_at in omega (arith, n))
      ∙ ap (λ (x : ℕ). Some x) (sym lead.first ∙ ap (λ (x : Seat). x.dispatcher.core) (sym seat_is) ∙ sits.1.3) in
      let twice : 0 ≡ length h.route.numbers = once 0 (length h.route.numbers) core first here_at in
      absurd (omega (arith, twice, some))

  no_server : (p : Option ℕ) → place_of t.c (server_of h.binding) ≡ p → is_some p ≡ false
  no_server None q = refl
  no_server (Some place) q =
      let sits : SitsAt s (server_of h.binding) core = shows.showing.ends.only core t.c (server_of h.binding) place t.c_is q in
      let x_is : sits.0 ≡ h.routed.binding.server = some_is sits.0 h.routed.binding.server (sym sits.1.1 ∙ end_with s (server_of h.binding) h.routed.binding h.routed.there) in
      absurd (let u : None ≡ Some sits.1.0 = sym none_bound.2 ∙ ap (λ (x : End). x.seat) (sym x_is) ∙ sits.1.2 in cc)

  pub no_end : has_end t.c o.binding ≡ false
  no_end =
      ap (has_end t.c) (sym h.binding_is)
      ∙ ap (λ (b : Bool). b || is_some (place_of t.c (server_of h.binding))) (no_client (place_of t.c (client_of h.binding)) refl)
      ∙ no_server (place_of t.c (server_of h.binding)) refl

  pub few_bindings : nat_lt o.binding 1024 ≡ true
  few_bindings =
      let less = slice_get_within s.bindings h.binding h.routed.binding h.routed.there in
      let most : length s.bindings ≤ 1024 = shows.sound.few_bindings in
      let same = h.binding_is in
      lt_true o.binding 1024 (omega (arith, less, most, same))

  -- ---- nor an entry

  standing_is : standing h.route ≡ length h.route.numbers
  standing_is = ap (standing_by h.route) h.verdict

  abbrev its_key : LinkState → ℕ → Key
  its_key u n = record { core = core; neighbour = u.neighbour.0; number = n }

  not_at : (j : ℕ) → j < standing h.route → core_at h.route j ≡ core → ⊥
  not_at j less at =
      let before : j < length h.route.numbers = let e = standing_is in omega (arith, less, e) in
      let within = got_within h.route.cores (length h.route.numbers) core here_at in
      let there : slice_get h.route.cores j ≡ Some core =
      Rattle.fl_model_laws.proofs.Ways.index_got h.route.cores j (omega (arith, before, within)) ∙ ap (λ (x : ℕ). Some x) at in
      let twice : j ≡ length h.route.numbers = once j (length h.route.numbers) core there here_at in
      omega (arith, twice, before)

  same_route : (route : Route) → Routed s h.binding route → route ≡ h.route
  same_route route r =
      let same = some_is r.binding h.routed.binding (sym r.there ∙ h.routed.there) in
      let backs = sym r.back ∙ ap (λ (b : Binding). b.back) same ∙ h.routed.back in
      same_route_of route h.route backs

  no_hop : (u : LinkState) (m n : ℕ) (hop : Hop) → slice_get t.k.circuits.links m ≡ Some u → hop_at t.k.circuits m n ≡ Some hop → hop.binding ≡ h.binding → ⊥
  no_hop u m n hop at there its =
      let entry : EntryAt s (its_key u n) hop = record {
        core = t.k;
        core_is = t.k_is;
        link = m;
        link_is = link_place t.k.circuits m u (shows.sound.cores core t.k t.k_is).table at;
        there = there;
      } in
      let (route, routed, due_at) = shows.sound.only_entries (its_key u n) hop entry in
      let (j, due) = due_at in
      let same : route ≡ h.route = same_route route (subst (λ (b : ℕ). Routed s b route) its routed) in
      elim due [
        | inl near ↦ not_at j (subst (λ (r : Route). j < standing r) same near.stands) (ap (λ (r : Route). core_at r j) (sym same) ∙ ap (λ (k : Key). k.core) (sym near.key_is))
        | inr far ↦ not_at (j + 1) (subst (λ (r : Route). j + 1 < standing r) same far.stands) (ap (λ (r : Route). core_at r (j + 1)) (sym same) ∙ ap (λ (k : Key). k.core) (sym far.key_is))
      ]

  is_its : (p : Option Hop) → is_of h.binding p ≡ true → (hop : Hop) × (p ≡ Some hop) × (hop.binding ≡ h.binding)
  is_its None q = absurd (cc)
  is_its (Some hop) q = (hop, refl, eqb-true hop.binding h.binding q)

  pub no_entry : stands t.k.circuits o.binding ≡ false
  no_entry =
      ap (stands t.k.circuits) (sym h.binding_is)
      ∙ none_any (is_of h.binding) t.k.circuits.hops
      (λ i p at is.
      let (hop, some_hop, its) = is_its p is in
      let table = (shows.sound.cores core t.k t.k_is).table in
      let within : i < length t.k.circuits.hops = slice_get_within t.k.circuits.hops i p at in
      let whole : length t.k.circuits.hops ≡ 2047 * length t.k.circuits.links = table.whole in
      let m : ℕ = i / 2047 in
      let n : ℕ = i % 2047 in
      let place : 2047 * (i / 2047) + i % 2047 ≡ i = omega arith in
      let small : i % 2047 ≤ 2046 = omega arith in
      let linked : i / 2047 < length t.k.circuits.links = omega (arith, within, whole) in
      let (u, there) = Rattle.fl_hop.proofs.Lists.at_within t.k.circuits.links (i / 2047) linked in
      no_hop u (i / 2047) (i % 2047) hop there
      (there_stands t.k.circuits (i / 2047) (i % 2047) (Some hop) small (ap (slice_get t.k.circuits.hops) place ∙ at ∙ ap (λ (x : Option Hop). Some x) some_hop)) its)

  -- ---- its number is the one that is due

  head_under_way : (first : RingLabel) → first_on link.ring s ≡ Some first → first.label ≡ says (open_circuit o)
      → (rest : List MonitorLabel) × (under_way s neighbour core ≡ open_circuit o ∷ rest)
  head_under_way first q label =
      let (r, there, is) = given_there (slice_get s.rings link.ring.ring) (first_for link.ring.side) first q in
      let (rest, head) = head_said (read_by link.ring.side r).waiting first (open_circuit o) is label in
      let stand : on_link s neighbour core ≡ labels_of (read_by link.ring.side r).waiting =
      ap (λ (p : Option Link). given p [] (λ y. labels_of (unread s y.ring))) (its_between w s core neighbour l link t)
      ∙ ap (λ (p : Option Ring). labels_of (given p [] (λ x. (read_by link.ring.side x).waiting))) there in
      let outbox : List MonitorLabel = given (link_between s neighbour core) [] (λ y. y.outbox) in
      (rest ++ outbox, ap (λ (xs : List MonitorLabel). xs ++ outbox) (ap (filter_map said_by) stand ∙ head))

  far_few : (x : LinkState) → link_state s neighbour core ≡ Some x → x.opened ≤ 1023
  far_few x q =
      let (k, at, is) = given_there (core_of s neighbour) (λ j. given (link_to core j) None (λ n. slice_get j.circuits.links n)) x q in
      let (m, to, there) = given_there (link_to core k) (λ n. slice_get k.circuits.links n) x is in
      ((shows.sound.cores neighbour k at).table.counts m x there).0

  pub due_number : (first : RingLabel) → first_on link.ring s ≡ Some first → first.label ≡ says (open_circuit o) → is_next (next_due t.k.circuits l) o.circuit ≡ true
  due_number first q label =
      let y = counts w s core neighbour l link shows t in
      let paired : LinkIsPaired s core neighbour link = shows.sound.links core neighbour link (its_between w s core neighbour l link t) in
      let (x, far) = counted_at s.cores neighbour core (ap is_some paired.back_is) in
      let go : OpeningsGo s neighbour core x y.0 = shows.sound.openings neighbour core x y.0 far (its_state w s core neighbour l link shows t) in
      let (rest, head) = head_under_way first q label in
      let listed : o.circuit ∷ filter_map opening_number rest ≡ map (number neighbour core) (range_with_len y.0.taken (x.opened - y.0.taken)) =
      sym (ap (filter_map opening_number) head) ∙ go.numbers in
      let (more, is) = head_is (number neighbour core) y.0.taken (x.opened - y.0.taken) o.circuit (filter_map opening_number rest) listed in
      let most : x.opened ≤ 1023 = far_few x far in
      let few : nat_lt y.0.taken 1023 ≡ true = lt_true y.0.taken 1023 (omega (arith, more, most)) in
      let named_is : y.0.neighbour.0 ≡ neighbour = named w s core neighbour l link shows t in
      ap (λ (p : Option LinkState). is_next (Rattle.fl_hop.specs.Numbers.next_there t.k.circuits.core p) o.circuit) y.1
      ∙ ap (λ (b : Bool). is_next (if b then Some (number y.0.neighbour.0 t.k.circuits.core y.0.taken) else None) o.circuit) few
      ∙ ap (λ (n : ℕ). number n t.k.circuits.core y.0.taken == o.circuit) named_is
      ∙ ap (λ (c : ℕ). number neighbour c y.0.taken == o.circuit) number_is
      ∙ eq-eqb (number neighbour core y.0.taken) o.circuit is
