-- Each step of a sound state keeps each core's table: numbers stay given, and at a number that was given no other entry ever comes.
use Rattle.std.proofs.Common.{◌≡◌, refl, sym, ◌∙◌, ap, subst, ℕ, ◌+◌, zero-add}
use Rattle.std.proofs.Common.{List, [], ◌∷◌, length, slice_get, Some, None, arith, inl, inr}
use Rattle.fl_base.specs.declared.identity.Side.TheVariants.{Client}
use Rattle.fl_hop.specs.declared.links.LinkState.{LinkState}
use Rattle.fl_hop.specs.Joined.{Sound as IsTable}
use Rattle.fl_hop.specs.Later.{Later}
use Rattle.fl_hop.specs.Numbers.{next_own}
use Rattle.fl_hop.specs.Table.{TheCircuits}
use Rattle.fl_hop.proofs.Laws.{later_same, later_chain}
use Rattle.fl_hop.proofs.Limits.{later_link}
use Rattle.fl_model.specs.Events.{Event}
use Rattle.fl_model.specs.Rings.{OpeningLabel, MonitorLabel, says, RingLabel, RingSide, first_side, second_side, looks, makes_sure}
use Rattle.fl_model.specs.Ends.{fresh_queue}
use Rattle.fl_model.specs.Monitors.{Core, Service, fresh_core, opens, Hearing, hears}
use Rattle.fl_model.specs.State.{State, Route, local, over_ring, over_route, undecided, core_of, end_in, first_on, change_core, change_ring, seats}
use Rattle.fl_model.specs.Making.{linked, with_dispatcher}
use Rattle.fl_model.specs.Binding.{BindByNames, end_id, with_new_binding, with_circuit_begun, arrival_queue}
use Rattle.fl_model.specs.Forwarding.{LinkEnd, without_first_said, takes_said, label_of, after_hearing}
use Rattle.fl_model.specs.SoundLists.{IsBare}
use Rattle.fl_model.specs.Sound.{Sound}
use Rattle.fl_model.specs.Step.{step}
use Rattle.fl_model.specs.Laws.{TablesGoOn}
use Rattle.fl_model_laws.proofs.CoreWalk.{each_at_changed, each_at_fresh, Cores, IsApartFromChannels, dispatcher_kept, channel_kept, seat_kept, both_kept, delivered_kept, written_kept, label_taken, found_kept, follows_kept, said_kept}
use Rattle.fl_model_laws.proofs.Faces.{Look}
use Rattle.fl_model_laws.proofs.TablesHeard.{opens_later, hears_later}
use Rattle.fl_model_laws.proofs.Turning.{IsLike, like_looked, like_here, like_core}
use Rattle.fl_model_laws.proofs.Walk.{KeepsFrom, IsHere, BeginsRoute, step_leads, with_ring}
use Rattle.fl_model_laws.proofs.WaitsetsKept.{looks_same, sure_same}
use Rattle.fl_model_laws.proofs.Small.{is_not, some_same}

-- a table with no links keeps nothing
later_empty : (t u : TheCircuits) → t.links ≡ [] → u.core ≡ t.core → Later t u
later_empty t u none core = record {
  core = core;
  here = λ l n o. absurd (no_link l o.link o.there);
  there = λ l n o. absurd (no_link l o.link o.there);
  kept = λ l n given. elim given [
    | inl o ↦ absurd (no_link l o.link o.there)
    | inr o ↦ absurd (no_link l o.link o.there)
  ];
}
  where
    no_link : (l : ℕ) (a : LinkState) → slice_get t.links l ≡ Some a → ⊥
    no_link l a q = let e : None ≡ Some a = ap (λ (ls : List LinkState). slice_get ls l) (sym none) ∙ q in absurd (cc)

nothing_in : (xs : List LinkState) → length xs ≡ 0 → xs ≡ []
nothing_in [] h = refl
nothing_in (x ∷ xs) h = absurd (omega arith)

module _ (s : State) (sound : Sound s) where
  -- what a core became
  abbrev Goes : ℕ → Core → Type 0
  Goes n m = (k : Core) → core_of s n ≡ Some k → Later k.circuits m.circuits

  apart : IsApartFromChannels Goes
  apart n place f k c = c

  start : (t : State) → IsLike s t → Cores Goes t
  start t h n x q k r =
      let same : x ≡ k = some_same x k (sym (like_core s sound t n x h q) ∙ r) in
      subst (λ (y : Core). Later k.circuits y.circuits) (sym same) (later_same k.circuits)

  fresh_goes : IsBare s → (n : ℕ) → Goes n (fresh_core n)
  fresh_goes bare n k q =
      let none : k.links ≡ [] = bare.links n k q in
      let even : length k.links ≡ length k.circuits.links = (sound.cores n k q).links in
      let no_links : length k.links ≡ 0 = ap length none in
      later_empty k.circuits (fresh_core n).circuits (nothing_in k.circuits.links (omega arith)) (sym (sound.cores n k q).number)

  -- the client's core, of which nothing but the waitsets has changed
  abbrev Begins : ℕ → Core → ℕ → Core → Type 0
  Begins core k n x = Goes n x × (n ≡ core → x.circuits ≡ k.circuits)

  begun_goes : (w : BindByNames) (cores : List ℕ) (k : Core) (l c : ℕ) (t : State) → BeginsRoute w cores k l c t → IsLike s t
      → Cores Goes (with_circuit_begun w cores (length t.bindings) l c t)
  begun_goes w cores k l c t from h =
      let way : Route = record { service = w.iref; cores = cores; numbers = c ∷ []; verdict = undecided } in
      let o : OpeningLabel = record { circuit = c; binding = length t.bindings; service = w.iref; path = cores } in
      let fresh : State = with_new_binding w (over_route way) (length cores + 1) (Some arrival_queue) t in
      let all : Cores (Begins w.client.core k) fresh =
      λ n x q. (start t h n x q, λ e. ap (λ (y : Core). y.circuits) (some_same x k (sym q ∙ ap (slice_get t.cores) e ∙ from.core))) in
      let seated : Cores (Begins w.client.core k) (seats w.client (end_id (length t.bindings) Client) fresh) =
      seat_kept (Begins w.client.core k) (λ n place f x b. b) w.client (end_id (length t.bindings) Client) fresh all in
      let table : IsTable k.circuits = (sound.cores w.client.core k (like_core s sound t w.client.core k h from.core)).table in
      each_at_changed Goes (seats w.client (end_id (length t.bindings) Client) fresh).cores w.client.core (opens l c o) (λ n x q. (seated n x q).0)
      (λ x q ok j r.
      let same : x.circuits ≡ k.circuits = (seated w.client.core x q).1 refl in
      later_chain j.circuits x.circuits (opens l c o x).circuits (ok j r)
      (opens_later l c o x (subst IsTable (sym same) table) (ap (λ (u : TheCircuits). next_own u l) same ∙ from.number)))

  heard_goes : (here : LinkEnd) (m : MonitorLabel) (first : RingLabel) (k : Core) (t : State) → IsHere here t → first_on here.ring t ≡ Some first
      → first.label ≡ says m → core_of t here.core ≡ Some k → IsLike s t → Cores Goes (after_hearing here (hears t.services here.link m k) t).state
  heard_goes here m first k t j q l at h =
      let x : Hearing = hears t.services here.link m k in
      let told : State = change_core here.core (λ y. x.core) t in
      let mine : core_of s here.core ≡ Some k = like_core s sound t here.core k h at in
      let services : s.services ≡ t.services = ap (λ (y : Look). y.services) (sym h.same) in
      let later : Later k.circuits x.core.circuits =
      subst (λ (xs : List Service). Later k.circuits (hears xs here.link m k).core.circuits) services
      (hears_later s sound here m first k (like_here s t here h j) (sym (h.first here.ring) ∙ q) l mine) in
      let said : Cores Goes told = each_at_changed Goes t.cores here.core (λ y. x.core) (start t h)
      (λ y u c i r. subst (λ (z : Core). Later z.circuits x.core.circuits) (some_same k i (sym mine ∙ r)) later) in
      follows_kept Goes apart x.heard (takes_said here.ring x.heard told) (said_kept Goes apart here.ring x.heard told said)

  linked_goes : (n neighbour ring : ℕ) (side : RingSide) (k : Core) → Goes n k → Goes n (linked neighbour ring side k)
  linked_goes n neighbour ring side k c j q =
      later_chain j.circuits k.circuits (linked neighbour ring side k).circuits (c j q) (later_link k.circuits (record { 0 = neighbour }))

  tables_go : KeepsFrom (IsLike s) (Cores Goes)
  tables_go = record {
    settled = λ t h. h;
    interface = λ i t q h. start t h;
    cores = λ n t q h. λ i x r. subst (λ (m : ℕ). Goes m x) (zero-add i)
        (each_at_fresh Goes 0 n (fresh_goes (sound.bare (sym h.may ∙ is_not t.may_set_cores q))) i x r);
    link = λ a b size t q r h.
        each_at_changed Goes _ b _ (each_at_changed Goes t.cores a _ (start t h) (λ k u c. linked_goes a b (length t.rings) first_side k c))
        (λ k u c. linked_goes b a (length t.rings) second_side k c);
    dispatcher = λ core t h. each_at_changed Goes t.cores core with_dispatcher (start t h) (λ k q c. c);
    service = λ x t d i q r u h. start t h;
    queues = λ w i slots t k q h.
        both_kept Goes apart (length t.bindings) w (with_new_binding w local 2 (Some (fresh_queue slots)) t) (start t h);
    ring = λ w i size t k q r h.
        both_kept Goes apart (length t.bindings) w (with_new_binding w (over_ring (length t.rings)) 2 None (with_ring size t)) (start t h);
    route = λ w i cores k l c t want begins h. begun_goes w cores k l c t begins h;
    called = λ e c b i t at q h. start t h;
    sure = λ need at t h. like_looked s at.ring (makes_sure need at.side) t (λ side r. sure_same need side at.side r) h;
    looked = λ at t h. like_looked s at.ring (looks at.side) t (λ side r. looks_same side at.side r) h;
    written = λ e b i o t at q r u v h. written_kept Goes apart e i (end_in e.side b).out o t (start t h);
    held = λ t b i u d at q h. dispatcher_kept Goes apart t.dispatcher _ u.cores (start u h);
    no_label = λ t to u d h. dispatcher_kept Goes apart t.dispatcher _ u.cores (start u h);
    from_queue = λ t b i q label u d at v w x h.
        label_taken Goes apart t.end i label _ (dispatcher_kept Goes apart t.dispatcher _ u.cores (start u h));
    from_ring = λ t b i at first u d k v w x h.
        label_taken Goes apart t.end i first.label _ (dispatcher_kept Goes apart t.dispatcher _ u.cores (start u h));
    found_none = λ t u d h. dispatcher_kept Goes apart t.dispatcher _ u.cores (start u h);
    found = λ t b at first u d q r v h. found_kept Goes apart t at first.label (change_ring at.ring (looks at.side) u) (start u h);
    acknowledged = λ at t q h. start t h;
    registered = λ e x t q r u h. channel_kept Goes apart e _ t (start t h);
    deregistered = λ e x t q r h. channel_kept Goes apart e _ t (start t h);
    ruled = λ e msg answer b i t at h. start t h;
    monitor_written = λ here link m t k q r u h. each_at_changed Goes t.cores here.core (without_first_said here.link) (start t h) (λ x v c. c);
    heard = λ here m first k t j q r u h. heard_goes here m first k t j q r u h;
    passed = λ here p first route hop on t k q h. start t h;
    arrived = λ here p first route hop to t k q h. delivered_kept Goes apart (label_of p) to t (start t h);
    taken = λ here first t k q r h. start t h;
  }

  step_goes : (v : Event) → Cores Goes (step s v).state
  step_goes v = step_leads (IsLike s) (Cores Goes) (λ t h. start t h) tables_go s v (record { same = refl; first = λ at. refl; may = refl })

pub sound_tables : TablesGoOn
sound_tables s v n k m sound before after = step_goes s sound v n m after k before
