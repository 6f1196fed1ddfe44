-- What each step of a sound state makes of a core's table: what links, the core's own openings and the messages that it hears give.
use Rattle.std.proofs.Common.{◌≡◌, ◌≢◌, refl, sym, ◌∙◌, ap, subst, ℕ, ◌+◌, ◌*◌, zero-add, Bool, true, false, not, ◌||◌, ◌&&◌, ◌==◌, drop, Option}
use Rattle.std.proofs.lemmas.Bool.{eqb-false}
use Rattle.std.proofs.Common.{List, [], ◌∷◌, length, map, slice_get, Some, None, arith}
use Rattle.std.specs.List.{range_with_len}
use Rattle.fl_base.specs.declared.identity.Side.TheVariants.{Client}
use Rattle.fl_base.specs.Given.{given}
use Rattle.fl_base.specs.Numbered.{link_id, circuit_id}
use Rattle.fl_hop.specs.declared.links.LinkState.{LinkState}
use Rattle.fl_hop.specs.Joined.{Sound as IsTable}
use Rattle.fl_hop.specs.Numbers.{next_own}
use Rattle.fl_hop.specs.Table.{TheCircuits, numbers, with_link, hop_at}
use Rattle.fl_hop.specs.Openings.{opened}
use Rattle.fl_hop.specs.declared.entry.HopTarget.{HopTarget}
use Rattle.fl_hop.specs.declared.entry.HopTarget.TheVariants.{Link as to_link, End as to_end}
use Rattle.fl_hop.specs.declared.entry.Hop.{Hop}
use Rattle.fl_model.specs.Events.{Event}
use Rattle.fl_model.specs.Rings.{OpeningLabel, MonitorLabel, open_circuit, circuit_opened, circuit_refused, RingEnd, takes, says, RingLabel, RingSide, first_side, second_side, looks, makes_sure}
use Rattle.fl_model.specs.Ends.{fresh_queue}
use Rattle.fl_model.specs.Monitors.{Core, Service, Heard, Hearing, Fate, fresh_core, opens, hears, can_say, saying, link_to, fate, goes_on, ends_at, fails, hears_opening, hears_opened, hears_refused, no_outbox, misrouted, opening_went_on, server_made, opening_failed, answer_went_on, end_opened, end_refused}
use Rattle.fl_model.specs.State.{State, link_between, Route, local, over_ring, over_route, undecided, core_of, end_in, first_on, change_core, change_ring, seats}
use Rattle.fl_model.specs.Making.{is_core, has_link, linked, with_dispatcher}
use Rattle.fl_model.specs.Binding.{BindByNames, end_id, with_new_binding, with_circuit_begun, arrival_queue}
use Rattle.fl_model.specs.Forwarding.{LinkEnd, without_first_said, takes_said, label_of, after_hearing}
use Rattle.fl_model.specs.SoundLists.{IsBare}
use Rattle.fl_model.specs.Sound.{Sound}
use Rattle.fl_model.specs.Step.{step}
use Rattle.fl_model.specs.Faults.{TableFollows, stays, one_link_more, opens as opens_own, hears_message, TablesFollowMessages}
use Rattle.fl_model_laws.proofs.CoreWalk.{EachAt, each_at_changed, each_at_fresh, Cores, IsApartFromChannels, dispatcher_kept, channel_kept, seat_kept, both_kept, delivered_kept, written_kept, label_taken, found_kept, follows_kept, said_kept}
use Rattle.fl_model_laws.proofs.Faces.{Look}
use Rattle.fl_model_laws.proofs.Turning.{IsLike, like_looked, like_core}
use Rattle.fl_model_laws.proofs.Walk.{KeepsFrom, IsHere, BeginsRoute, step_leads, with_ring}
use Rattle.fl_model_laws.proofs.WaitsetsKept.{looks_same, sure_same}
use Rattle.fl_model_laws.proofs.Small.{is_not, some_same}
use Rattle.fl_model.specs.Given.{changed_at}
use Rattle.fl_model.specs.Standing.{on_link}
use Rattle.fl_model.specs.SoundPlaces.{Owner, core_to}
use Rattle.fl_model_laws.proofs.Cases.{either, by_given}
use Rattle.fl_model_laws.proofs.CoresStep.{or_parts}
use Rattle.fl_model_laws.proofs.Hearing.{LinkThere, link_there}
use Rattle.fl_model_laws.proofs.OpeningsLaw.{follows_rings}
use Rattle.fl_model_laws.proofs.Places.{ring_of, changed_other}
use Rattle.fl_model_laws.proofs.PlacesStep.{plan_of, heard_plan, owner_planned}
use Rattle.fl_model_laws.proofs.ReadsKept.{TakenOff, take_reads, first_read, looks_labels, sure_labels, reads_seen}
use Rattle.fl_model_laws.proofs.Scenes.{reads}
use Rattle.fl_model_laws.proofs.ScenesSaid.{link_reads}

-- ---- a table without links

empty : {X : Type 0} (xs : List X) → length xs ≡ 0 → xs ≡ []
empty [] h = refl
empty (x ∷ xs) h = absurd (omega arith)

abbrev tables : ℕ → List LinkState → List (Option Hop) → TheCircuits
tables core links hops = record { core = core; links = links; hops = hops }

bare_table : (t : TheCircuits) (n : ℕ) → IsTable t → t.core ≡ n → length t.links ≡ 0 → (fresh_core n).circuits ≡ t
bare_table t n k core none =
    let no_hops : length t.hops ≡ numbers * 0 = k.whole ∙ ap (λ (m : ℕ). numbers * m) none in
    ap (λ (c : ℕ). tables c [] []) (sym core) ∙ ap (λ (ls : List LinkState). tables t.core ls []) (sym (empty t.links none))
    ∙ ap (λ (hs : List (Option Hop)). tables t.core t.links hs) (sym (empty t.hops (omega arith)))

-- ---- a message that is left

abbrev is_taken : Heard → Bool
is_taken no_outbox = false
is_taken misrouted = false
is_taken heard = true

-- where it is left, the core is as it was
abbrev Leaves : Core → Hearing → Type 0
Leaves k h = is_taken h.heard ≡ false → h.core ≡ k

saying_leaves : (l : ℕ) (m : MonitorLabel) (t : TheCircuits) (x : Heard) (k : Core) → is_taken x ≡ true → Leaves k (saying l m t x k)
saying_leaves l m t x k e = either (Leaves k) (can_say l k) _ _ (λ q h. absurd (both (is_taken x) e h)) (λ q h. refl)
  where
    both : (b : Bool) → b ≡ true → b ≡ false → ⊥
    both true p q = absurd (cc)
    both false p q = absurd (cc)

opening_leaves : (l : ℕ) (o : OpeningLabel) (f : Fate) (k : Core) → Leaves k (hears_opening l o f k)
opening_leaves l o (goes_on m n) k = saying_leaves m _ _ _ k refl
opening_leaves l o (ends_at d) k = saying_leaves l _ _ _ k refl
opening_leaves l o (fails fault) k = saying_leaves l _ _ _ k refl

opened_leaves : (l c : ℕ) (hop : Hop) (way : HopTarget) (k : Core) → Leaves k (hears_opened l c hop way k)
opened_leaves l c hop (to_link m d) k = saying_leaves m.0 _ _ _ k refl
opened_leaves l c hop (to_end e) k = λ h. absurd (cc)

refused_leaves : (l c fault : ℕ) (hop : Hop) (way : HopTarget) (k : Core) → Leaves k (hears_refused l c fault hop way k)
refused_leaves l c fault hop (to_link m d) k = saying_leaves m.0 _ _ _ k refl
refused_leaves l c fault hop (to_end e) k = λ h. absurd (cc)

hears_leaves : (services : List Service) (l : ℕ) (m : MonitorLabel) (k : Core) → Leaves k (hears services l m k)
hears_leaves services l (open_circuit o) k = opening_leaves l o (fate services o k) k
hears_leaves services l (circuit_opened c) k = by_given (Leaves k) (hop_at k.circuits l c) _ _ (λ h. refl) (λ hop q. opened_leaves l c hop hop.way k)
hears_leaves services l (circuit_refused c fault) k = by_given (Leaves k) (hop_at k.circuits l c) _ _ (λ h. refl) (λ hop q. refused_leaves l c fault hop hop.way k)

taken_rings : (at : RingEnd) (x : Heard) (s : State) → is_taken x ≡ true → (takes_said at x s).rings ≡ changed_at at.ring (takes at.side) s.rings
taken_rings at no_outbox s h = absurd (cc)
taken_rings at misrouted s h = absurd (cc)
taken_rings at (opening_went_on n c) s h = refl
taken_rings at (server_made n d c) s h = refl
taken_rings at (opening_failed n fault) s h = refl
taken_rings at (answer_went_on n) s h = refl
taken_rings at (end_opened e c) s h = refl
taken_rings at (end_refused e fault) s h = refl

-- ---- the walk

-- t is s but for what rings count
record IsAlike (s t : State) : Type 0 where
  like : IsLike s t
  reads : (x : Owner) → reads t x ≡ reads s x

settled_follows : (s t : State) (n : ℕ) (k : Core) (table : TheCircuits) → TableFollows s t n k table
    → TableFollows s (record t { may_set_cores = false }) n k table
settled_follows s t n k table (stays e) = stays e
settled_follows s t n k table (one_link_more b e) = one_link_more b e
settled_follows s t n k table (opens_own l c b q e) = opens_own l c b q e
settled_follows s t n k table (hears_message h) = hears_message (record {
  neighbour = h.neighbour;
  link = h.link;
  link_is = h.link_is;
  message = h.message;
  first = h.first;
  taken = h.taken;
  heard = h.heard;
})

module _ (s : State) (sound : Sound s) where
  -- what a core became where s led to u
  abbrev Goes : State → ℕ → Core → Type 0
  Goes u n m = (k : Core) → core_of s n ≡ Some k → TableFollows s u n k m.circuits

  abbrev After : State → Type 0
  After t = Cores (Goes t) t

  apart : (u : State) → IsApartFromChannels (Goes u)
  apart u n place f k c = c

  same_core : (t : State) → IsAlike s t → (n : ℕ) (x k : Core) → slice_get t.cores n ≡ Some x → core_of s n ≡ Some k → x ≡ k
  same_core t h n x k q r = some_same x k (sym (like_core s sound t n x h.like q) ∙ r)

  start : (u t : State) → IsAlike s t → Cores (Goes u) t
  start u t h n x q k r = stays (ap (λ (y : Core). y.circuits) (same_core t h n x k q r))

  fresh_goes : (u : State) → IsBare s → (n : ℕ) → Goes u n (fresh_core n)
  fresh_goes u bare n k q =
      let none : k.links ≡ [] = bare.links n k q in
      let even : length k.links ≡ length k.circuits.links = (sound.cores n k q).links in
      let no_links : length k.links ≡ 0 = ap length none in
      stays (bare_table k.circuits n (sound.cores n k q).table (sound.cores n k q).number (omega arith))

  linked_goes : (u t : State) → IsAlike s t → (n neighbour ring : ℕ) (side : RingSide) (x : Core) → slice_get t.cores n ≡ Some x
      → Goes u n (linked neighbour ring side x)
  linked_goes u t h n neighbour ring side x q k r =
      one_link_more neighbour (ap (λ (y : Core). with_link y.circuits (record { 0 = neighbour })) (same_core t h n x k q r))

  both_linked : (u : State) (a b size : ℕ) (t : State) → not (is_core a t && is_core b t) || (a == b) || has_link a b t ≡ false → IsAlike s t
      → EachAt (Goes u) (changed_at b (linked a (length t.rings) second_side) (changed_at a (linked b (length t.rings) first_side) t.cores))
  both_linked u a b size t q h =
      let differ : a ≢ b = eqb-false a b ((or_parts (not (is_core a t && is_core b t)) (a == b) (has_link a b t) q).1) in
      each_at_changed (Goes u) _ b _
      (each_at_changed (Goes u) t.cores a _ (start u t h) (λ x e c. linked_goes u t h a b (length t.rings) first_side x e))
      (λ x e c. linked_goes u t h b a (length t.rings) second_side x
      (sym (changed_other t.cores a b (linked b (length t.rings) first_side) (λ w. differ (sym w))) ∙ e))

  abbrev Begins : State → ℕ → Core → ℕ → Core → Type 0
  Begins u core k n x = Goes u n x × (n ≡ core → x.circuits ≡ k.circuits)

  begun_goes : (u : State) (w : BindByNames) (cores : List ℕ) (k : Core) (l c : ℕ) (t : State) → BeginsRoute w cores k l c t → IsAlike s t
      → Cores (Goes u) (with_circuit_begun w cores (length t.bindings) l c t)
  begun_goes u w cores k l c t from h =
      let way : Route = record { service = w.iref; cores = cores; numbers = c ∷ []; verdict = undecided } in
      let o : OpeningLabel = record { circuit = c; binding = length t.bindings; service = w.iref; path = cores } in
      let fresh : State = with_new_binding w (over_route way) (length cores + 1) (Some arrival_queue) t in
      let all : Cores (Begins u w.client.core k) fresh =
      λ n x q. (start u t h n x q, λ e. ap (λ (y : Core). y.circuits) (some_same x k (sym q ∙ ap (slice_get t.cores) e ∙ from.core))) in
      let seated : Cores (Begins u w.client.core k) (seats w.client (end_id (length t.bindings) Client) fresh) =
      seat_kept (Begins u w.client.core k) (λ n place f x b. b) w.client (end_id (length t.bindings) Client) fresh all in
      each_at_changed (Goes u) (seats w.client (end_id (length t.bindings) Client) fresh).cores w.client.core (opens l c o) (λ n x q. (seated n x q).0)
      (λ x q ok j r.
      let mine : k ≡ j = same_core t h w.client.core k j from.core r in
      let same : x.circuits ≡ j.circuits = (seated w.client.core x q).1 refl ∙ ap (λ (y : Core). y.circuits) mine in
      opens_own l c (length t.bindings) (ap (λ (y : Core). next_own y.circuits l) (sym mine) ∙ from.number)
      (ap (λ (y : TheCircuits). opened y (link_id l) (circuit_id c) (length t.bindings)) same))

  heard_here : (here : LinkEnd) (m : MonitorLabel) (first : RingLabel) (k : Core) (t : State) (b : Bool) → IsHere here t → first_on here.ring t ≡ Some first
      → first.label ≡ says m → core_of t here.core ≡ Some k → IsAlike s t → is_taken (hears t.services here.link m k).heard ≡ b
      → TableFollows s (after_hearing here (hears t.services here.link m k) t).state here.core k (hears t.services here.link m k).core.circuits
  heard_here here m first k t false j q l at h e = stays (ap (λ (y : Core). y.circuits) (hears_leaves t.services here.link m k e))
  heard_here here m first k t true j q l at h e =
      let x : Hearing = hears t.services here.link m k in
      let told : State = change_core here.core (λ y. x.core) t in
      let u : State = (after_hearing here x t).state in
      let there : LinkThere t here = link_there t here j in
      let mine : there.core ≡ k = some_same there.core k (sym there.core_is ∙ at) in
      let between : link_between t here.core here.neighbour ≡ Some there.link =
      ap (λ (o : Option Core). given o None (λ y. given (link_to here.neighbour y) None (λ n. slice_get y.links n))) there.core_is
      ∙ ap (λ (o : Option ℕ). given o None (λ n. slice_get there.core.links n)) there.place ∙ there.link_is in
      let reader : Owner = core_to here.core here.neighbour in
      let owned : ring_of (plan_of t) reader ≡ Some here.ring = owner_planned t reader here.ring (there.link, between, there.ring) in
      let off : TakenOff t u here.ring = record {
        plan = heard_plan here m k t at;
        rings = follows_rings x.heard (takes_said here.ring x.heard told) ∙ taken_rings here.ring x.heard told e;
      } in
      let before : on_link s here.neighbour here.core ≡ reads t reader = link_reads s here.neighbour here.core ∙ sym (h.reads reader) in
      hears_message (record {
        neighbour = here.neighbour;
        link = here.link;
        link_is = subst (λ (y : Core). link_to here.neighbour y ≡ Some here.link) mine there.place;
        message = m;
        first = ap (λ ls. slice_get ls 0) before ∙ first_read t here.ring reader first owned q ∙ ap (λ y. Some y) l;
        taken = link_reads u here.neighbour here.core ∙ take_reads t u here.ring reader off owned ∙ ap (drop 1) (sym before);
        heard = ap (λ (y : Look). (hears y.services here.link m k).core.circuits) h.like.same;
      })

  heard_goes : (here : LinkEnd) (m : MonitorLabel) (first : RingLabel) (k : Core) (t : State) → IsHere here t → first_on here.ring t ≡ Some first
      → first.label ≡ says m → core_of t here.core ≡ Some k → IsAlike s t → After (after_hearing here (hears t.services here.link m k) t).state
  heard_goes here m first k t j q l at h =
      let x : Hearing = hears t.services here.link m k in
      let u : State = (after_hearing here x t).state in
      let told : State = change_core here.core (λ y. x.core) t in
      let mine : core_of s here.core ≡ Some k = like_core s sound t here.core k h.like at in
      let it : TableFollows s u here.core k x.core.circuits = heard_here here m first k t (is_taken x.heard) j q l at h refl in
      let said : Cores (Goes u) told = each_at_changed (Goes u) t.cores here.core (λ y. x.core) (start u t h)
      (λ y v c i r. subst (λ (z : Core). TableFollows s u here.core z x.core.circuits) (some_same k i (sym mine ∙ r)) it) in
      follows_kept (Goes u) (apart u) x.heard (takes_said here.ring x.heard told) (said_kept (Goes u) (apart u) here.ring x.heard told said)

  tables_go : KeepsFrom (IsAlike s) After
  tables_go = record {
    settled = λ t h n x q k r. settled_follows s t n k x.circuits (h n x q k r);
    interface = λ i t q h. start _ t h;
    cores = λ n t q h i x r.
        let u : State = record t { cores = map fresh_core (range_with_len 0 n) } in
        subst (λ (m : ℕ). Goes u m x) (zero-add i)
        (each_at_fresh (Goes u) 0 n (fresh_goes u (sound.bare (sym h.like.may ∙ is_not t.may_set_cores q))) i x r);
    link = λ a b size t q r h. both_linked _ a b size t q h;
    dispatcher = λ core t h. each_at_changed (Goes _) t.cores core with_dispatcher (start _ t h) (λ k q c. c);
    service = λ x t d i q r u h. start _ t h;
    queues = λ w i slots t k q h.
        both_kept (Goes _) (apart _) (length t.bindings) w (with_new_binding w local 2 (Some (fresh_queue slots)) t) (start _ t h);
    ring = λ w i size t k q r h.
        both_kept (Goes _) (apart _) (length t.bindings) w (with_new_binding w (over_ring (length t.rings)) 2 None (with_ring size t)) (start _ t h);
    route = λ w i cores k l c t want begins h. begun_goes _ w cores k l c t begins h;
    called = λ e c b i t at q h. start _ t h;
    sure = λ need at t h. record {
      like = like_looked s at.ring (makes_sure need at.side) t (λ side r. sure_same need side at.side r) h.like;
      reads = λ x. reads_seen at.ring (makes_sure need at.side) t (sure_labels need at.side) x ∙ h.reads x;
    };
    looked = λ at t h. record {
      like = like_looked s at.ring (looks at.side) t (λ side r. looks_same side at.side r) h.like;
      reads = λ x. reads_seen at.ring (looks at.side) t (looks_labels at.side) x ∙ h.reads x;
    };
    written = λ e b i o t at q r u v h. written_kept (Goes _) (apart _) e i (end_in e.side b).out o t (start _ t h);
    held = λ t b i u d at q h. dispatcher_kept (Goes _) (apart _) t.dispatcher _ u.cores (start _ u h);
    no_label = λ t to u d h. dispatcher_kept (Goes _) (apart _) t.dispatcher _ u.cores (start _ u h);
    from_queue = λ t b i q label u d at v w x h.
        label_taken (Goes _) (apart _) t.end i label _ (dispatcher_kept (Goes _) (apart _) t.dispatcher _ u.cores (start _ u h));
    from_ring = λ t b i at first u d k v w x h.
        label_taken (Goes _) (apart _) t.end i first.label _ (dispatcher_kept (Goes _) (apart _) t.dispatcher _ u.cores (start _ u h));
    found_none = λ t u d h. dispatcher_kept (Goes _) (apart _) t.dispatcher _ u.cores (start _ u h);
    found = λ t b at first u d q r v h. found_kept (Goes _) (apart _) t at first.label (change_ring at.ring (looks at.side) u) (start _ u h);
    acknowledged = λ at t q h. start _ t h;
    registered = λ e x t q r u h. channel_kept (Goes _) (apart _) e _ t (start _ t h);
    deregistered = λ e x t q r h. channel_kept (Goes _) (apart _) e _ t (start _ t h);
    ruled = λ e msg answer b i t at h. start _ t h;
    monitor_written = λ here link m t k q r u h. each_at_changed (Goes _) t.cores here.core (without_first_said here.link) (start _ t h) (λ x v c. c);
    heard = λ here m first k t j q r u h. heard_goes here m first k t j q r u h;
    passed = λ here p first route hop on t k q h. start _ t h;
    arrived = λ here p first route hop to t k q h. delivered_kept (Goes _) (apart _) (label_of p) to t (start _ t h);
    taken = λ here first t k q r h. start _ t h;
  }

  step_goes : (v : Event) → After (step s v).state
  step_goes v = step_leads (IsAlike s) After (λ t h. start t t h) tables_go s v (record { like = record { same = refl; first = λ at. refl; may = refl }; reads = λ x. refl })

pub sound_follows : TablesFollowMessages
sound_follows s v n k m sound before after = step_goes s sound v n m after k before
