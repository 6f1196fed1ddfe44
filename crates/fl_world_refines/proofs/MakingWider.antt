-- What stays of a what is shown where bindings stay as they are: rings, bindings and ends.
use Rattle.std.proofs.Common.{◌≡◌, refl, sym, ◌∙◌, ap, ℕ, ◌≤◌, ◌⊎◌, inl, [], length, slice_get, Some, None}
use Rattle.std.proofs.lemmas.List.{append-nil}
use Rattle.fl_base.specs.declared.identity.EndId.{EndId}
use Rattle.fl_base.specs.declared.identity.Side.TheVariants.{Client}
use Rattle.fl_base.specs.Given.{given}
use Rattle.fl_ring.specs.Duo.{TheDuo}
use Rattle.fl_link.specs.Queue.{TheQueue}
use Rattle.fl_core.specs.declared.wiring.EndWiring.{EndWiring}
use Rattle.fl_model.specs.Calls.{Planned}
use Rattle.fl_model.specs.Rings.{Ring, RingEnd}
use Rattle.fl_model.specs.Ends.{End}
use Rattle.fl_model.specs.Monitors.{Service, service_of}
use Rattle.fl_model.specs.State.{over_route, Route, Binding, State, interface_of, end_of, end_in}
use Rattle.fl_model.specs.Keeping.{KeepsCalls}
use Rattle.fl_model.specs.Sound.{Sound}
use Rattle.fl_model.specs.SoundPlaces.{EndsStand}
use Rattle.fl_world_refines.specs.FragmentLaws.{SameFragments}
use Rattle.fl_world_refines.proofs.Carried.{labels_stay}
use Rattle.fl_world_refines.specs.View.{TheWorld}
use Rattle.fl_world_refines.specs.ShowsState.{EndsShow, BindingsShow, RingsShow, ShowsState}
use Rattle.fl_world_refines.proofs.MakingBase.{same_found}
use Rattle.fl_world_refines.proofs.MakingGrows.{CoresGrow, ring_between, IsNewRing, RingsGrow, rings_grow, binding_grows, EndsGrow, ends_grow, end_grows}

-- ---- calls are kept

pub keeps_on : (s t : State) → ((n : ℕ) (i : Planned) → slice_get s.interfaces n ≡ Some i → slice_get t.interfaces n ≡ Some i)
    → ((n : ℕ) (b : Binding) → slice_get s.bindings n ≡ Some b → slice_get t.bindings n ≡ Some b) → KeepsCalls s t
keeps_on s t h k = record {
  interfaces = h;
  bindings = λ e b q. record {
    now = b;
    there = k e.binding b q;
    interface = refl;
    numbers = λ route p. (route, p, λ x y n r. r);
    accepted = ([], sym (append-nil (end_in e.side b).out.accepted));
  };
}

-- ---- no new ends

abbrev pub no_new : ℕ → EndId → EndWiring → Type 0
no_new n e x = ⊥

pub record Widens (w w2 : TheWorld) (s t : State) : Type 0 where
  pub cores : CoresGrow no_new w.cores w2.cores
  pub queues : (n : ℕ) (q : TheQueue) → slice_get w.queues n ≡ Some q → slice_get w2.queues n ≡ Some q
  pub joined : w2.bindings ≡ w.bindings
  pub bindings : t.bindings ≡ s.bindings
  pub interfaces : (n : ℕ) (i : Planned) → slice_get s.interfaces n ≡ Some i → slice_get t.interfaces n ≡ Some i
  pub services : (iref : ℕ) (x : Service) → service_of s.services iref ≡ Some x → service_of t.services iref ≡ Some x
  pub links : (a b : ℕ) (at : RingEnd) → ring_between s a b ≡ Some at → ring_between t a b ≡ Some at
  pub links_back : (a b : ℕ) (at : RingEnd) → ring_between t a b ≡ Some at → (ring_between s a b ≡ Some at) ⊎ (length s.rings ≤ at.ring)
  pub count : length w2.rings ≡ length t.rings
  pub rings : (n : ℕ) (r : Ring) (d : TheDuo) → slice_get t.rings n ≡ Some r → slice_get w2.rings n ≡ Some d
      → ((slice_get s.rings n ≡ Some r) × (slice_get w.rings n ≡ Some d)) ⊎ IsNewRing r d

pub has_interface : (s : State) (n : ℕ) (b : Binding) → EndsStand s → slice_get s.bindings n ≡ Some b → (i : Planned) × (interface_of s b ≡ Some i)
has_interface s n b h q =
    let e : EndId = record { binding = n; side = Client } in
    let stands = h e b.client (ap (λ o. given o None (λ (c : Binding). Some c.client)) q) in
    (stands.interface, ap (interface_of s) (same_found (slice_get s.bindings n) b stands.binding q stands.there) ∙ stands.interface_is)

pub record Wider (w2 : TheWorld) (t : State) : Type 0 where
  pub rings : RingsShow w2 t
  pub bindings : BindingsShow w2 t
  pub ends : EndsShow w2 t

module _ (w w2 : TheWorld) (s t : State) (sound : Sound s) (h : ShowsState w s) (g : Widens w w2 s t) where
  forth : (n : ℕ) (b : Binding) → slice_get s.bindings n ≡ Some b → slice_get t.bindings n ≡ Some b
  forth n b q = ap (λ bs. slice_get bs n) g.bindings ∙ q

  back : (n : ℕ) (b : Binding) → slice_get t.bindings n ≡ Some b → slice_get s.bindings n ≡ Some b
  back n b q = ap (λ bs. slice_get bs n) (sym g.bindings) ∙ q

  fragments : SameFragments s t
  fragments = labels_stay s t (keeps_on s t g.interfaces forth)

  interface_was : (n : ℕ) (b : Binding) (i : Planned) → slice_get s.bindings n ≡ Some b → interface_of t b ≡ Some i → interface_of s b ≡ Some i
  interface_was n b i q r =
      let (j, is) = has_interface s n b sound.ends q in
      is ∙ ap (λ x. Some x) (same_found (interface_of t b) j i (g.interfaces b.interface j is) r)

  service_was : (n : ℕ) (b : Binding) (route : Route) (x : Service) → slice_get s.bindings n ≡ Some b → b.back ≡ over_route route
      → service_of t.services route.service ≡ Some x → service_of s.services route.service ≡ Some x
  service_was n b route x q r p =
      let leads = sound.routes n route (record { binding = b; there = q; back = r }) in
      leads.service_is ∙ ap (λ y. Some y) (same_found (service_of t.services route.service) leads.service x (g.services route.service leads.service leads.service_is) p)

  wider_rings : RingsGrow w w2 s t
  wider_rings = record {
    count = g.count;
    rings = g.rings;
    links = g.links_back;
    joined = λ m n b q r. inl (back m b q);
    fragments = fragments;
  }

  wider_ends : EndsGrow no_new w w2 s t
  wider_ends = record {
    grows = record { cores = g.cores; queues = g.queues; links = g.links; fragments = fragments };
    bindings = forth;
    comes = λ e b i seat p q r. inl (back e.binding b p, interface_was e.binding b i (back e.binding b p) q);
    sits = λ n e x none. absurd none;
    fresh = λ n e x q none. absurd none;
    one = λ n m e f x y q none other. absurd none;
  }

  silent_was : (e : EndId) (x : End) → end_of t e ≡ Some x → end_of s e ≡ Some x
  silent_was e x q = end_grows t s e x back q

  wider_bindings : BindingsShow w2 t
  wider_bindings = record {
    count = ap length g.joined ∙ h.bindings.count ∙ ap length (sym g.bindings);
    each = λ n b there p q. binding_grows s t n b there (λ route x r k. service_was n b route x (back n b p) r k) (λ i r. interface_was n b i (back n b p) r)
        (h.bindings.each n b there (back n b p) (ap (λ bs. slice_get bs n) (sym g.joined) ∙ q));
    silent = λ e x p q. h.bindings.silent e x (silent_was e x p) q;
  }

  pub wider : Wider w2 t
  wider = record {
    rings = rings_grow w w2 s t wider_rings h.rings;
    bindings = wider_bindings;
    ends = ends_grow no_new w w2 s t wider_ends h.ends sound.ends;
  }
