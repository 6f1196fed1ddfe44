-- Cores of a run that a set-up made: at the start no end of a circuit is there, tables lead, and each link has one on its other side.
use Rattle.std.proofs.Common.{◌≡◌, inl, inr, refl, sym, ap, ◌∙◌, subst, ℕ, ◌+◌, ◌*◌, ◌==◌, true, List, [], slice_get, Option, Some, None, arith}
use Rattle.std.proofs.lemmas.Bool.Decides.{nat_tests}
use Rattle.std.proofs.lemmas.List.Quantifiers.{position-Some}
use Rattle.std.proofs.lemmas.Option.{same_Some, slice_get_within, get_or_from_slice_get}
use Rattle.fl_base.specs.declared.fragment.Frag.{Frag}
use Rattle.fl_base.specs.declared.identity.EndId.{EndId}
use Rattle.fl_base.specs.declared.identity.LinkId.{LinkId}
use Rattle.fl_base.specs.declared.identity.Side.{Side}
use Rattle.fl_base.specs.declared.identity.Side.TheVariants.{Client, Server}
use Rattle.fl_base.specs.Given.{given}
use Rattle.fl_compile.specs.declared.program.Program.{Program}
use Rattle.fl_hop.specs.declared.links.LinkState.{LinkState}
use Rattle.fl_hop.specs.Numbers.{OpenedThere}
use Rattle.fl_hop.specs.Table.{TheCircuits, link_of}
use Rattle.fl_core.proofs.BoardPlaces.{one_stands}
use Rattle.fl_monitor.specs.Monitors.{waiting_for}
use Rattle.fl_core.specs.declared.wiring.LinkSide.{LinkSide}
use Rattle.fl_core.specs.declared.wiring.WiredEnd.{WiredEnd}
use Rattle.fl_core.specs.declared.wiring.EndWiring.{EndWiring}
use Rattle.fl_core.specs.declared.wiring.EndWiring.TheVariants.{Queues, Ring, Circuit}
use Rattle.fl_core.specs.View.{TheCore, arrivals_by, place_of, side_of_link}
use Rattle.fl_core.specs.Numbers.{moved, moved_wired_end, moved_wiring}
use Rattle.fl_core.proofs.Numbering.{came_from}
use Rattle.fl_core_run_laws.specs.Led.{IsLed, LeadsAtFirst}
use Rattle.fl_world_refines.specs.declared.binding.Binding.{Binding}
use Rattle.fl_world_refines.specs.View.{TheWorld, core_in}
use Rattle.fl_cores_jobs.specs.Rules.{RulesOf}
use Rattle.fl_core_refines.specs.SetUpStart.{across, Stands, IsJoined, StartsFresh}
use Rattle.fl_cores_laws.specs.Back.{HasNeighbour, AreLinked}
use Rattle.fl_cores_laws.specs.Circuits.{Leading}
use Rattle.fl_cores_laws.specs.Cores.{shared_ways, OneCore, AllWent}
use Rattle.fl_cores_laws.specs.Neighbours.{IsUnused}
use Rattle.fl_cores.proofs.Runs.{is_there, went, table}
use Rattle.fl_cores.proofs.RunsLinks.{links_of, links_stay}
use Rattle.fl_cores.proofs.SidesCross.{SideLaws}
use Rattle.fl_cores.proofs.StartBindings.{TheBeginning, IsBegun, parts_ready, made_of, ran_of, apart}
use Rattle.fl_cores.proofs.StartLinks.{crossed}
use Rattle.fl_cores.proofs.StartNumbers.{link_side_to}
use Rattle.fl_cores.proofs.StartRested.{was_at}
use Rattle.fl_cores.proofs.StartShared.{side_owner}

-- ---- wires of a set-up

module _ (w : TheWorld) (fresh : StartsFresh w) where
  -- where an end is known to stand on a wire, that is the wired end's
  its_wiring : (n place : ℕ) (k : TheCore) (e : EndId) (p : WiredEnd) (program : Program) (wiring : EndWiring) → Stands w n e program wiring
      → slice_get w.cores n ≡ Some k → place_of k e ≡ Some place → slice_get k.wired_ends place ≡ Some p → p.wiring ≡ wiring
  its_wiring n place k e p program wiring s k_is place_is p_is =
      let one : s.core ≡ k = one_stands w.cores n s.core k s.core_is k_is in
      let at : s.place ≡ place = same_Some s.place place (sym s.place_is ∙ ap (λ (c : TheCore). place_of c e) one ∙ place_is) in
      let wired_end : s.wired_end ≡ p =
      one_stands k.wired_ends place s.wired_end p (ap (λ (c : TheCore). slice_get c.wired_ends place) (sym one) ∙ ap (slice_get s.core.wired_ends) (sym at) ∙ s.wired_end_is) p_is in
      ap (λ (q : WiredEnd). q.wiring) (sym wired_end) ∙ s.wiring_is

  at_home : (m : ℕ) (s : Side) (n place : ℕ) (k : TheCore) (p : WiredEnd) (b : Binding) (program : Program) (wiring : EndWiring) → core_in s b ≡ n
      → Stands w (core_in s b) (record { binding = m; side = s }) program wiring → slice_get w.cores n ≡ Some k
      → place_of k (record { binding = m; side = s }) ≡ Some place → slice_get k.wired_ends place ≡ Some p → p.wiring ≡ wiring
  at_home m s n place k p b program wiring home stands k_is place_is p_is =
      its_wiring n place k (record { binding = m; side = s }) p program wiring
      (subst (λ (i : ℕ). Stands w i (record { binding = m; side = s }) program wiring) home stands) k_is place_is p_is

  by_joined : (m : ℕ) (s : Side) (n place : ℕ) (k : TheCore) (p : WiredEnd) (b : Binding) → core_in s b ≡ n → IsJoined w m b → slice_get w.cores n ≡ Some k
      → place_of k (record { binding = m; side = s }) ≡ Some place → slice_get k.wired_ends place ≡ Some p → arrivals_by p.wiring ≡ None
  by_joined m Client n place k p b home j k_is place_is p_is = elim j.joined [
    | inl q ↦ ap arrivals_by (at_home m Client n place k p b j.program (Queues q.0 q.1) home q.2.client k_is place_is p_is)
    | inr q ↦ ap arrivals_by (at_home m Client n place k p b j.program (Ring (2 * q.0)) home q.1.client k_is place_is p_is)
  ]
  by_joined m Server n place k p b home j k_is place_is p_is = elim j.joined [
    | inl q ↦ ap arrivals_by (at_home m Server n place k p b j.program (Queues q.1 q.0) home q.2.server k_is place_is p_is)
    | inr q ↦ ap arrivals_by (at_home m Server n place k p b j.program (Ring (2 * q.0 + 1)) home q.1.server k_is place_is p_is)
  ]

  -- no end has an arrival queue
  pub no_circuit : (n place : ℕ) (k : TheCore) (e : EndId) (p : WiredEnd) → slice_get w.cores n ≡ Some k → place_of k e ≡ Some place
      → slice_get k.wired_ends place ≡ Some p → arrivals_by p.wiring ≡ None
  no_circuit n place k e p k_is place_is p_is =
      let (b, b_is, home) = fresh.bindings n place k e k_is place_is in
      by_joined e.binding e.side n place k p b home (fresh.joined e.binding b b_is) k_is place_is p_is

same_arrivals : (sides queues : List ℕ) (w : EndWiring) → arrivals_by (moved_wiring sides queues w) ≡ arrivals_by w
same_arrivals sides queues (Queues out from) = refl
same_arrivals sides queues (Ring side) = refl
same_arrivals sides queues (Circuit link arrivals) = refl

nothing_waits : (outboxes : List (List Frag)) (l : ℕ) (o : Option (List Frag)) → slice_get outboxes l ≡ o
    → ((frags : List Frag) → slice_get outboxes l ≡ Some frags → frags ≡ []) → waiting_for outboxes l ≡ []
nothing_waits outboxes l None is none = ap (λ (x : Option (List Frag)). given x [] (λ (frags : List Frag). frags)) is
nothing_waits outboxes l (Some frags) is none = ap (λ (x : Option (List Frag)). given x [] (λ (fs : List Frag). fs)) is ∙ none frags is

-- the link that is found leads there
linked_to : (t : TheCircuits) (core l : ℕ) → link_of t core ≡ Some l → (a : LinkState) × (slice_get t.links l ≡ Some a) × (a.neighbour.0 ≡ core)
linked_to t core l found =
    let no_link : LinkState = record { neighbour = record { 0 = 0 }; opened = 0; taken = 0 } in
    let at = position-Some (λ (link : LinkState). link.neighbour.0 == core) t.links l no_link found in
    let (a, a_is) = is_there t.links l at.0 in
    let test : (a.neighbour.0 == core) ≡ true =
    subst (λ (link : LinkState). (link.neighbour.0 == core) ≡ true) (get_or_from_slice_get t.links l a no_link a_is) at.1 in
    (a, a_is, grind (arith, nat_tests, test))

-- ---- the cores of a run

module _ (b : TheBeginning) (h : IsBegun b) where
  of_them : RulesOf b.made.bindings.items b.asked b.world.cores b.parts.cores.items
  of_them = subst (λ (ks : List TheCore). RulesOf b.made.bindings.items b.asked ks b.parts.cores.items) h.made.cores h.rules

  pub all_went : AllWent b.joined.jobs b.cores
  all_went = went b.joined.jobs b.core_threads b.outcomes b.cores h.runs h.sound (apart b h)

  -- as its run begins a core has no end of a circuit
  no_arrivals : (n : ℕ) (c : OneCore) → slice_get b.cores n ≡ Some c → (e : ℕ) (p : WiredEnd) → slice_get c.start.core.wired_ends e ≡ Some p → arrivals_by p.wiring ≡ None
  no_arrivals n c c_is e p p_is =
      let m = made_of b h n c c_is in
      let was = was_at b.made.bindings.items b.asked b.world.cores b.parts.cores.items of_them n m.core m.core_is in
      let from = came_from (moved_wired_end b.places.sides b.places.queues) m.core.wired_ends e p (ap (λ (k : TheCore). slice_get k.wired_ends e) (sym m.numbers) ∙ p_is) in
      let named : place_of was.core from.first.name ≡ Some e =
      ap (λ (k : TheCore). place_of k from.first.name) (sym was.rests.same) ∙ m.sound.named e from.first from.first_is in
      let wired_end : slice_get was.core.wired_ends e ≡ Some from.first = ap (λ (k : TheCore). slice_get k.wired_ends e) (sym was.rests.same) ∙ from.first_is in
      ap (λ (q : WiredEnd). arrivals_by q.wiring) from.same
      ∙ same_arrivals b.places.sides b.places.queues from.first.wiring
      ∙ no_circuit b.world h.fresh n e was.core from.first.name from.first was.core_is named wired_end

  -- no number of a circuit was given, and nothing waits to be said
  pub idle : (n : ℕ) (c : OneCore) → slice_get b.cores n ≡ Some c → IsUnused c.start.core.monitor
  idle n c c_is =
      let m = made_of b h n c c_is in
      let it = (parts_ready b h).idle n m.core m.core_is in
      subst (λ (k : TheCore). IsUnused k.monitor) (sym m.numbers) (record { outboxes = it.outboxes; counts = it.counts })

  pub led : LeadsAtFirst → (n : ℕ) (c : OneCore) → slice_get b.cores n ≡ Some c → IsLed c.start.core
  led first n c c_is =
      first c.start.core (no_arrivals n c c_is)
      (λ l. nothing_waits c.start.core.monitor.outboxes l (slice_get c.start.core.monitor.outboxes l) refl ((idle n c c_is).outboxes l))

  pub leading : LeadsAtFirst → (n : ℕ) (c : OneCore) → slice_get b.cores n ≡ Some c → Leading b.joined.jobs c
  leading first n c c_is = record {
    went = all_went n c c_is;
    led = led first n c c_is;
    table = table b.joined.jobs b.core_threads b.outcomes b.cores h.runs h.sound n c c_is;
  }

  -- where a number of a link was given in the run, the core that was made had a side for the link
  link_side_there : (n number : ℕ) (d : OneCore) (m : LinkId) (d_is : slice_get b.cores n ≡ Some d) → OpenedThere d.finish.core.monitor.circuits m.0 number
      → (side : ℕ) × (side_of_link (made_of b h n d d_is).core.link_sides m.0 ≡ Some side)
  link_side_there n number d m d_is given_there =
      let md = made_of b h n d d_is in
      let below = slice_get_within d.finish.core.monitor.circuits.links m.0 given_there.link given_there.there in
      let stay = links_stay shared_ways b.joined.jobs d.log d.start d.finish (all_went n d d_is).goes in
      let was = ap links_of md.numbers in
      let many = md.sound.link_sides in
      let (link_side, link_side_is) = is_there md.core.link_sides m.0 (omega (arith, below, stay, was, many)) in
      (link_side.side, ap (λ (o : Option LinkSide). given o None (λ (x : LinkSide). Some x.side)) link_side_is)

  -- ---- links

  -- the link on whose other side this one is, as that one's core has it: to the core at this place
  pub record HasBack (place : ℕ) (d : OneCore) (m : LinkId) : Type 0 where
    pub beyond : HasNeighbour b.cores d m
    pub link : LinkState
    pub link_is : slice_get beyond.core.start.core.monitor.circuits.links beyond.link.0 ≡ Some link
    pub neighbour : link.neighbour.0 ≡ place
    -- and as this core has it
    pub state : LinkState
    pub state_is : slice_get d.start.core.monitor.circuits.links m.0 ≡ Some state
    pub towards : state.neighbour.0 ≡ beyond.place

  pub has_back : SideLaws → (n side : ℕ) (d : OneCore) (m : LinkId) (d_is : slice_get b.cores n ≡ Some d)
      → side_of_link (made_of b h n d d_is).core.link_sides m.0 ≡ Some side → HasBack n d m
  has_back l n side d m d_is link_side =
      let md = made_of b h n d d_is in
      let it = (parts_ready b h).links n m.0 side md.core md.core_is link_side in
      let place : ℕ = it.link.neighbour.0 in
      let (c, c_is) = ran_of b h place it.core it.core_is in
      let mc = made_of b h place c c_is in
      let same : it.core ≡ mc.core = one_stands b.parts.cores.items place it.core mc.core it.core_is mc.core_is in
      let back : side_of_link mc.core.link_sides it.back ≡ Some (across side) =
      subst (λ (k : TheCore). side_of_link k.link_sides it.back ≡ Some (across side)) same it.side_is in
      let owner_c = side_owner b.world b.parts (parts_ready b h) b.places b.core_threads b.outcomes h.shares place (across side) mc.core mc.core_is (inl (it.back, back)) in
      let owner_d = side_owner b.world b.parts (parts_ready b h) b.places b.core_threads b.outcomes h.shares n side md.core md.core_is (inl (m.0, link_side)) in
      let (a, a_is, leads) = linked_to it.core.monitor.circuits n it.back it.back_is in
      record {
        beyond = record {
          place = place;
          core = c;
          core_is = c_is;
          link = record { 0 = it.back };
          one = record {
            near = moved b.places.sides (across side);
            near_is = ap (λ (k : TheCore). side_of_link k.link_sides it.back) mc.numbers ∙ link_side_to b.places.sides mc.core.link_sides it.back (across side) back;
            far = moved b.places.sides side;
            far_is = ap (λ (k : TheCore). side_of_link k.link_sides m.0) md.numbers ∙ link_side_to b.places.sides md.core.link_sides m.0 side link_side;
            ring = crossed l b h place n side c d it.within owner_c owner_d c_is d_is;
          };
        };
        link = a;
        link_is = ap (λ (k : TheCore). slice_get k.monitor.circuits.links it.back) (mc.numbers) ∙ ap (λ (k : TheCore). slice_get k.monitor.circuits.links it.back) (sym same) ∙ a_is;
        neighbour = leads;
        state = it.link;
        state_is = ap (λ (k : TheCore). slice_get k.monitor.circuits.links m.0) md.numbers ∙ it.link_is;
        towards = refl;
      }

  -- each link under whose numbers circuits come has one on its other side
  pub paired : SideLaws → (n number : ℕ) (d : OneCore) (m : LinkId) → slice_get b.cores n ≡ Some d → OpenedThere d.finish.core.monitor.circuits m.0 number → HasBack n d m
  paired l n number d m d_is given_there = let (side, link_side) = link_side_there n number d m d_is given_there in has_back l n side d m d_is link_side

  pub are_linked : SideLaws → LeadsAtFirst → AreLinked b.joined.jobs b.cores
  are_linked l first = record {
    leading = leading first;
    unused = idle;
    linked = λ n number d m d_is given_there. (paired l n number d m d_is given_there).beyond;
  }
