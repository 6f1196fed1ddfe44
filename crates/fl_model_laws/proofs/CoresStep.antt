-- Each step of a sound state keeps its cores standing: what changes a core, each once.
use Rattle.std.proofs.Common.{◌≡◌, ◌≢◌, refl, sym, ◌∙◌, ap, subst, ℕ, ◌+◌, ◌<◌, ◌≤◌, ◌==◌, ◌||◌, ◌&&◌, not, nat_lt, inl, inr, Bool, true, false, if◌then◌else◌}
use Rattle.std.proofs.Common.{List, [], ◌∷◌, ◌++◌, length, slice_get, Option, Some, None, zero-add, arith}
use Rattle.std.specs.Prelude.{is_some}
use Rattle.std.proofs.lemmas.List.{length-append}
use Rattle.std.proofs.lemmas.Bool.{eqb-false, and_parts, true≢false, ne_eqb}
use Rattle.fl_base.specs.declared.identity.Side.TheVariants.{Client}
use Rattle.fl_base.specs.Given.{given}
use Rattle.fl_base.specs.Numbered.{link_id, circuit_id}
use Rattle.fl_lists.specs.declared.place.Place.TheVariants.{Polled}
use Rattle.fl_hop.specs.declared.fault.HopFault.TheVariants.{NoLink, Limit}
use Rattle.fl_hop.specs.declared.links.LinkState.{LinkState}
use Rattle.fl_hop.specs.declared.entry.Hop.{Hop}
use Rattle.fl_hop.specs.Table.{TheCircuits, link_of}
use Rattle.fl_hop.specs.Limits.{AreCores}
use Rattle.fl_hop.specs.Openings.{opened}
use Rattle.fl_hop.proofs.Cells.{is_less}
use Rattle.fl_hop.proofs.Limits.{links_suffice}
use Rattle.fl_hop.proofs.Lists.{within}
use Rattle.fl_hop.proofs.Counting.{Next, next_is}
use Rattle.fl_model.specs.Events.{Event}
use Rattle.fl_model.specs.Rings.{OpeningLabel, open_circuit, Ring, RingSide, first_side, second_side, first_for, looks, makes_sure, takes}
use Rattle.fl_model.specs.Ends.{fresh_queue, without_first}
use Rattle.fl_model.specs.Waits.{waits_in}
use Rattle.fl_model.specs.Monitors.{Core, Link, link_to, with_circuits, opens, Hearing, hears}
use Rattle.fl_model.specs.State.{local, over_ring, over_route, undecided, Binding, State, core_of, end_in, link_between, change_core, change_ring, change_end, seats, in_queue}
use Rattle.fl_model.specs.Making.{is_core, has_link, linked, with_dispatcher, with_new_link}
use Rattle.fl_model.specs.Binding.{BindByNames, end_id, with_new_binding, arrival_queue}
use Rattle.fl_model.specs.Taking.{goes_back}
use Rattle.fl_model.specs.Forwarding.{without_first_said, takes_said, label_of}
use Rattle.fl_model.specs.SoundPlaces.{CoreStands, CoresStand, LinkIsPaired}
use Rattle.fl_model.specs.SoundEntries.{Key, EntryAt}
use Rattle.fl_model.specs.SoundLimits.{CoresAreFew}
use Rattle.fl_model.specs.Sound.{Sound}
use Rattle.fl_model.specs.Step.{step}
use Rattle.fl_model_laws.proofs.BindingWalk.{given_there}
use Rattle.fl_model_laws.proofs.CoreWalk.{EachAt, each_at_changed, each_at_fresh, dispatcher_kept, channel_kept, seat_kept, both_kept, delivered_kept, written_kept, label_taken, found_kept, follows_kept, said_kept}
use Rattle.fl_model_laws.proofs.CoresKept.{FoundLink, found_link, link_place, linked_to, apart_from_channels, with_table, said_more, opening_length, HeardStands, heard_stands}
use Rattle.fl_model_laws.proofs.EndsStanding.{there_is as stands_there}
use Rattle.fl_model_laws.proofs.ListingKept.{some_there}
use Rattle.fl_model_laws.proofs.Replies.{length_changed}
use Rattle.fl_model_laws.proofs.Seating.{changed_was}
use Rattle.fl_model_laws.proofs.Start.{empty_table}
use Rattle.fl_model_laws.proofs.TablesKept.{Fresh, opened_sound, leads_range, linked_sound}
use Rattle.fl_model_laws.proofs.WaitsetsKept.{looks_same, sure_same, first_same}
use Rattle.fl_model_laws.proofs.Walk.{KeepsFrom, BeginsRoute, step_leads, with_ring}
use Rattle.fl_model_laws.proofs.Small.{is_not, some_same}

-- ---- what is known

pub record MayStand (s : State) : Type 0 where
  pub stand : CoresStand s
  pub few : CoresAreFew s
  -- links lead to cores of the world, and are there both ways
  pub neighbours : (n : ℕ) (k : Core) (l : ℕ) (a : LinkState) → core_of s n ≡ Some k → slice_get k.circuits.links l ≡ Some a
      → a.neighbour.0 < length s.cores
  pub paired : (a b : ℕ) (k : Core) (l : ℕ) → core_of s a ≡ Some k → link_to b k ≡ Some l → has_link b a s ≡ true
  -- the next binding has no entry
  pub fresh : (n : ℕ) (k : Core) → core_of s n ≡ Some k → Fresh k.circuits (length s.bindings)
  pub heard : HeardStands s

may_stand_looked : (n : ℕ) (f : Ring → Ring) (s : State) → ((side : RingSide) (r : Ring) → first_for side (f r) ≡ first_for side r) → MayStand s
    → MayStand (change_ring n f s)
may_stand_looked n f s same h = record {
  stand = h.stand;
  few = h.few;
  neighbours = h.neighbours;
  paired = h.paired;
  fresh = h.fresh;
  heard = λ here m first k j q r t.
      h.heard here m first k (record { core = j.core; neighbour = j.neighbour; here_is = j.here_is })
      (sym (first_same s.rings n here.ring.ring here.ring.side f (same here.ring.side)) ∙ q) r t;
}

-- ---- one more link

few_by : (a b c : Bool) → a ≡ false → b ≡ false → (if a then Some NoLink else if b then Some NoLink else if c then None else Some Limit) ≢ Some Limit → c ≡ true
few_by false false true p q h = refl
few_by false false false p q h = absurd (h refl)
few_by false true c p q h = absurd (let u : true ≡ false = q in cc)
few_by true b c p q h = absurd (let u : true ≡ false = p in cc)

no_some : (o : Option ℕ) → o ≡ None → is_some o ≡ false
no_some o e = ap is_some e

not_same : (a b : ℕ) → a ≢ b → (a == b) ≡ false
not_same a b h = ne_eqb a b h

link_stands : (n neighbour ring : ℕ) (side : RingSide) (k : Core) → CoreStands n k → n < 16 → neighbour < 16 → neighbour ≢ n → link_to neighbour k ≡ None
    → ((l : ℕ) (a : LinkState) → slice_get k.circuits.links l ≡ Some a → a.neighbour.0 < 16) → CoreStands n (linked neighbour ring side k)
link_stands n neighbour ring side k c here there ne none others =
    let t : TheCircuits = k.circuits in
    let core : t.core ≡ n = c.number in
    let apart : neighbour ≢ t.core = λ e. ne (e ∙ core) in
    let are : AreCores t = record { own = omega (arith, core, here); others = others } in
    let few : nat_lt (length t.links) 15 ≡ true =
    few_by (neighbour == t.core) (is_some (link_of t neighbour)) (nat_lt (length t.links) 15) (not_same neighbour t.core apart) (no_some (link_of t neighbour) none)
    (links_suffice t neighbour c.table are there) in
    let one : length (k.links ++ record { ring = record { ring = ring; side = side }; outbox = [] } ∷ []) ≡ length k.links + 1 = length-append k.links _ in
    let two : length (t.links ++ record { neighbour = record { 0 = neighbour }; opened = 0; taken = 0 } ∷ []) ≡ length t.links + 1 = length-append t.links _ in
    let same : length k.links ≡ length t.links = c.links in
    record {
      number = c.number;
      links = omega (arith, one, two, same);
      table = linked_sound t (record { 0 = neighbour }) c.table (is_less (length t.links) 15 few) apart
          (λ l a h e.
          let f : FoundLink t neighbour = found_link t neighbour l a h e in
          absurd (let u : None ≡ Some f.place = sym none ∙ f.found in cc));
    }

pub or_parts : (x y z : Bool) → x || y || z ≡ false → (x ≡ false) × (y ≡ false) × (z ≡ false)
or_parts false false false h = (refl, refl, refl)
or_parts true y z h = absurd (cc)
or_parts false true z h = absurd (cc)
or_parts false false true h = absurd (cc)

none_by : (o : Option ℕ) (k : Core) (b : ℕ) → link_to b k ≡ o → ((l : ℕ) → link_to b k ≡ Some l → ⊥) → link_to b k ≡ None
none_by None k b e h = e
none_by (Some l) k b e h = absurd (h l e)

module _ (a b size : ℕ) (s : State) (q : not (is_core a s && is_core b s) || (a == b) || has_link a b s ≡ false) (h : MayStand s) where
  parts : (not (is_core a s && is_core b s) ≡ false) × ((a == b) ≡ false) × (has_link a b s ≡ false)
  parts = or_parts (not (is_core a s && is_core b s)) (a == b) (has_link a b s) q

  cores : (is_core a s ≡ true) × (is_core b s ≡ true)
  cores = and_parts (is_core a s) (is_core b s) (is_not (is_core a s && is_core b s) parts.0)

  small : (n : ℕ) → n < length s.cores → n < 16
  small n l = let few : length s.cores ≤ 16 = h.few in omega (arith, l, few)

  differ : a ≢ b
  differ = eqb-false a b parts.1

  first_none : (k : Core) → core_of s a ≡ Some k → link_to b k ≡ None
  first_none k at =
      none_by (link_to b k) k b refl
      (λ l e. absurd (true≢false (sym (ap is_some e) ∙ sym (ap (λ (o : Option Core). given o false λ x. is_some (link_to b x)) at) ∙ parts.2)))

  second_none : (k : Core) → core_of s b ≡ Some k → link_to a k ≡ None
  second_none k at = none_by (link_to a k) k a refl (λ l e. absurd (true≢false (sym (h.paired b a k l at e) ∙ parts.2)))

  link_kept : CoresStand (with_new_link a b size s)
  link_kept =
      let n : ℕ = length s.rings in
      let first : EachAt CoreStands (change_core a (linked b n first_side) (with_ring size s)).cores =
      each_at_changed CoreStands s.cores a (linked b n first_side) h.stand
      (λ k t c. link_stands a b n first_side k c (small a (is_less a (length s.cores) cores.0)) (small b (is_less b (length s.cores) cores.1)) (λ e. differ (sym e))
      (first_none k t) (λ l x g. small x.neighbour.0 (h.neighbours a k l x t g))) in
      each_at_changed CoreStands (change_core a (linked b n first_side) (with_ring size s)).cores b (linked a n second_side) first
      (λ k t c. elim (changed_was s.cores a (linked b n first_side) b k t) [
        | inl at ↦ link_stands b a n second_side k c (small b (is_less b (length s.cores) cores.1)) (small a (is_less a (length s.cores) cores.0)) differ
            (second_none k at) (λ l x g. small x.neighbour.0 (h.neighbours b k l x at g))
        | inr same ↦ absurd (differ (sym same.0))
      ])

-- ---- a circuit is opened

opens_stands : (n l c : ℕ) (o : OpeningLabel) (x : Core) → CoreStands n x → Next x.circuits.core x.circuits.links l c → Fresh x.circuits o.binding
    → CoreStands n (opens l c o x)
opens_stands n l c o x stands next fresh =
    let t : TheCircuits = opened x.circuits (link_id l) (circuit_id c) o.binding in
    said_more n l (open_circuit o) (with_circuits t x)
    (with_table n x t stands (opened_sound x.circuits stands.table (link_id l) (circuit_id c) o.binding next fresh) refl (opening_length x.circuits l c next))

-- a core stands, and the client's has these circuits
abbrev StandsWith : ℕ → Core → ℕ → Core → Type 0
StandsWith core k n x = CoreStands n x × (n ≡ core → x.circuits ≡ k.circuits)

begun_kept : (w : BindByNames) (cores : List ℕ) (k : Core) (l c : ℕ) (o : OpeningLabel) (s t : State) → BeginsRoute w cores k l c s → t.cores ≡ s.cores
    → o.binding ≡ length s.bindings → MayStand s → CoresStand (change_core w.client.core (opens l c o) (seats w.client (end_id (length s.bindings) Client) t))
begun_kept w way k l c o s t begins same binding h =
    let all : EachAt (StandsWith w.client.core k) t.cores =
    subst (EachAt (StandsWith w.client.core k)) (sym same)
    (λ n x q. (h.stand n x q, λ e. ap (λ (y : Core). y.circuits) (some_same x k (sym q ∙ ap (core_of s) e ∙ begins.core)))) in
    let seated : EachAt (StandsWith w.client.core k) (seats w.client (end_id (length s.bindings) Client) t).cores =
    seat_kept (StandsWith w.client.core k) (λ n place f x p. (apart_from_channels n place f x p.0, p.1)) w.client (end_id (length s.bindings) Client) t all in
    each_at_changed CoreStands (seats w.client (end_id (length s.bindings) Client) t).cores w.client.core (opens l c o) (λ n x q. (seated n x q).0)
    (λ x q ok.
    let circuits : x.circuits ≡ k.circuits = (seated w.client.core x q).1 refl in
    opens_stands w.client.core l c o x ok
    (subst (λ (u : TheCircuits). Next u.core u.links l c) (sym circuits) (next_is k.circuits.core k.circuits.links l c begins.number))
    (subst (λ (u : TheCircuits). Fresh u o.binding) (sym circuits) (subst (Fresh k.circuits) (sym binding) (h.fresh w.client.core k begins.core))))

-- ---- the walk

cores_stand : KeepsFrom MayStand CoresStand
cores_stand = record {
  settled = λ s h. h;
  interface = λ i s q h. h.stand;
  cores = λ n s q h i x r.
      subst (λ (m : ℕ). CoreStands m x) (zero-add i)
      (each_at_fresh CoreStands 0 n (λ m. record { number = refl; links = refl; table = empty_table m }) i x r);
  link = λ a b size s q r h. link_kept a b size s q h;
  dispatcher = λ core s h.
      each_at_changed CoreStands s.cores core with_dispatcher h.stand (λ k q c. record { number = c.number; links = c.links; table = c.table });
  service = λ x s d i q r t h. h.stand;
  queues = λ w i slots s k q h.
      both_kept CoreStands apart_from_channels (length s.bindings) w (with_new_binding w local 2 (Some (fresh_queue slots)) s) h.stand;
  ring = λ w i size s k q r h.
      both_kept CoreStands apart_from_channels (length s.bindings) w (with_new_binding w (over_ring (length s.rings)) 2 None (with_ring size s)) h.stand;
  route = λ w i cores k l c s want begins h.
      begun_kept w cores k l c (record { circuit = c; binding = length s.bindings; service = w.iref; path = cores }) s
      (with_new_binding w (over_route (record { service = w.iref; cores = cores; numbers = c ∷ []; verdict = undecided })) (length cores + 1) (Some arrival_queue) s)
      begins refl refl h;
  called = λ e c b i s at q h. h.stand;
  sure = λ need at s h. may_stand_looked at.ring (makes_sure need at.side) s (λ side r. sure_same need side at.side r) h;
  looked = λ at s h. may_stand_looked at.ring (looks at.side) s (λ side r. looks_same side at.side r) h;
  written = λ e b i o s at q r t u h. written_kept CoreStands apart_from_channels e i (end_in e.side b).out o s h.stand;
  held = λ t b i s d at q h. dispatcher_kept CoreStands apart_from_channels t.dispatcher _ s.cores h.stand;
  no_label = λ t to s d h. dispatcher_kept CoreStands apart_from_channels t.dispatcher _ s.cores h.stand;
  from_queue = λ t b i q label s d at u v w h.
      label_taken CoreStands apart_from_channels t.end i label
      (goes_back t (waits_in (Some (without_first q))) (change_end t.end (in_queue without_first) s))
      (dispatcher_kept CoreStands apart_from_channels t.dispatcher _ s.cores h.stand);
  from_ring = λ t b i at first s d k u v w h.
      label_taken CoreStands apart_from_channels t.end i first.label (goes_back t Polled (change_ring at.ring (takes at.side) s))
      (dispatcher_kept CoreStands apart_from_channels t.dispatcher _ s.cores h.stand);
  found_none = λ t s d h. dispatcher_kept CoreStands apart_from_channels t.dispatcher _ s.cores h.stand;
  found = λ t b at first s d q r u h. found_kept CoreStands apart_from_channels t at first.label (change_ring at.ring (looks at.side) s) h.stand;
  acknowledged = λ at s q h. h.stand;
  registered = λ e x s q r t h. channel_kept CoreStands apart_from_channels e _ s h.stand;
  deregistered = λ e x s q r h. channel_kept CoreStands apart_from_channels e _ s h.stand;
  ruled = λ e msg answer b i s at h. h.stand;
  monitor_written = λ here link m s k q r t h.
      each_at_changed CoreStands s.cores here.core (without_first_said here.link) h.stand
      (λ x u c. record { number = c.number; links = length_changed x.links here.link _ ∙ c.links; table = c.table });
  heard = λ here m first k s j q r t h.
      let x : Hearing = hears s.services here.link m k in
      let told : State = change_core here.core (λ y. x.core) s in
      let said : CoresStand told = each_at_changed CoreStands s.cores here.core (λ y. x.core) h.stand (λ y u c. h.heard here m first k j q r t) in
      follows_kept CoreStands apart_from_channels x.heard (takes_said here.ring x.heard told)
      (said_kept CoreStands apart_from_channels here.ring x.heard told said);
  passed = λ here p first route hop on s k q h. h.stand;
  arrived = λ here p first route hop to s k q h. delivered_kept CoreStands apart_from_channels (label_of p) to s h.stand;
  taken = λ here first s k q r h. h.stand;
}

-- ---- in a sound state

module _ (s : State) (sound : Sound s) where
  between : (a b : ℕ) (k : Core) (l : ℕ) → core_of s a ≡ Some k → link_to b k ≡ Some l → (link : Link) × (link_between s a b ≡ Some link)
  between a b k l at to =
      let (x, x_at, leads) = linked_to k.circuits b l to in
      let same : length k.links ≡ length k.circuits.links = (sound.cores a k at).links in
      let below : l < length k.circuits.links = within k.circuits.links l x x_at in
      let (link, is) = some_there (slice_get k.links l) (stands_there k.links l (omega (arith, same, below))) in (
        link,
        ap (λ (o : Option Core). given o None λ y. given (link_to b y) None λ n. slice_get y.links n) at
            ∙ ap (λ (o : Option ℕ). given o None λ n. slice_get k.links n) to ∙ is,
      )

  both_ways : (a b : ℕ) (k : Core) (l : ℕ) → core_of s a ≡ Some k → link_to b k ≡ Some l
      → (other : Core) × (core_of s b ≡ Some other) × (is_some (link_to a other) ≡ true)
  both_ways a b k l at to =
      let (link, is) = between a b k l at to in
      let paired : LinkIsPaired s a b link = sound.links a b link is in
      let (other, there, back) = given_there (core_of s b) (λ y. given (link_to a y) None λ n. slice_get y.links n) paired.back paired.back_is in
      let (m, found, its) = given_there (link_to a other) (λ n. slice_get other.links n) paired.back back in
      (other, there, ap is_some found)

  may_stand : MayStand s
  may_stand = record {
    stand = sound.cores;
    few = sound.few_cores;
    neighbours = λ n k l a at h.
        let (other, there, back) = both_ways n a.neighbour.0 k l at (link_place k.circuits l a (sound.cores n k at).table h) in
        in_range s.cores a.neighbour.0 other there;
    paired = λ a b k l at to.
        let (other, there, back) = both_ways a b k l at to in
        ap (λ (o : Option Core). given o false λ x. is_some (link_to a x)) there ∙ back;
    fresh = λ n k at l m way h.
        let below = leads_range k.circuits (sound.cores n k at).table l m (length s.bindings) way h in
        let (a, a_at) = some_there (slice_get k.circuits.links l) (stands_there k.circuits.links l (let less : l < length k.circuits.links = below.0 in omega (arith, less))) in
        let hop : Hop = record { binding = length s.bindings; way = way; answered = h.answered } in
        let key : Key = record { core = n; neighbour = a.neighbour.0; number = m } in
        let entry : EntryAt s key hop =
        record { core = k; core_is = at; link = l; link_is = link_place k.circuits l a (sound.cores n k at).table a_at; there = h.there } in
        let (route, routed, found) = sound.only_entries key hop entry in
        let over : length s.bindings < length s.bindings = bound_range s.bindings (length s.bindings) routed.binding routed.there in
        absurd (omega (arith, over));
    heard = heard_stands s sound;
  }
    where
      in_range : (cores : List Core) (n : ℕ) (k : Core) → slice_get cores n ≡ Some k → n < length cores
      in_range cores n k h = within cores n k h

      bound_range : (bs : List Binding) (n : ℕ) (b : Binding) → slice_get bs n ≡ Some b → n < length bs
      bound_range bs n b h = within bs n b h

pub sound_cores : (s : State) (v : Event) → Sound s → CoresStand (step s v).state
sound_cores s v sound = step_leads MayStand CoresStand (λ t h. h.stand) cores_stand s v (may_stand s sound)
