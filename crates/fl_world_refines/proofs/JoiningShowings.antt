-- A what is shown in which one binding has come behind the others.
use Rattle.std.proofs.Common.{◌≡◌, refl, sym, ◌∙◌, ap, subst, ℕ, ◌+◌, ◌≤◌, ◌⊎◌, inl, inr, [], ◌∷◌, ◌++◌, length, map, slice_get, Option, Some, None, arith}
use Rattle.fl_base.specs.declared.identity.EndId.{EndId}
use Rattle.fl_base.specs.declared.identity.Side.{Side}
use Rattle.fl_base.specs.Given.{given}
use Rattle.fl_hop.proofs.Lists.{push_keeps, push_cases, within}
use Rattle.fl_link.specs.Queue.{TheQueue}
use Rattle.fl_ring.specs.Duo.{TheDuo}
use Rattle.fl_compile.specs.declared.program.Program.{Program}
use Rattle.fl_compile.specs.Programs.{TheProgram, program_of}
use Rattle.fl_endpoint.specs.View.{fresh}
use Rattle.fl_core.specs.declared.wiring.EndWiring.{EndWiring}
use Rattle.fl_core.specs.declared.wiring.EndWiring.TheVariants.{Queues}
use Rattle.fl_model.specs.Calls.{Planned}
use Rattle.fl_model.specs.Rings.{Ring}
use Rattle.fl_model.specs.Ends.{End, Queue, Seat, unbound_end, fresh_direction}
use Rattle.fl_model.specs.State.{over_ring, Binding, State, interface_of, end_of, end_in}
use Rattle.fl_model.specs.Monitors.{service_of}
use Rattle.fl_model.specs.Binding.{end_id}
use Rattle.fl_model.specs.Making.{count_dispatchers}
use Rattle.fl_model.specs.Sound.{Sound}
use Rattle.fl_world_refines.specs.FragmentLaws.{SameFragments}
use Rattle.fl_world_refines.specs.Ends.{planned_of, EndShows}
use Rattle.fl_world_refines.specs.Cores.{registered_from}
use Rattle.fl_world_refines.proofs.EndCalling.{fresh_is}
use Rattle.fl_world_refines.proofs.Carried.{labels_stay}
use Rattle.fl_model_laws.proofs.BindingWalk.{end_there}
use Rattle.fl_model_laws.proofs.PlacesStep.{length_push}
use Rattle.fl_world_refines.specs.declared.binding.Binding.{Binding as TheBinding}
use Rattle.fl_world_refines.specs.View.{TheWorld}
use Rattle.fl_world_refines.specs.ShowsState.{IsMade, SitsAt, BindingShows, BindingsShow, IsSilent, ShowsState}
use Rattle.fl_world_refines.proofs.MakingGrows.{CoresGrow, ring_between, IsNewRing, RingsGrow, rings_grow, binding_grows, EndsGrow, ends_grow}
use Rattle.fl_world_refines.proofs.MakingWider.{keeps_on}
use Rattle.fl_world_refines.proofs.MakingCores.{AllShow, shows_of}

pub record Joins (New : ℕ → EndId → EndWiring → Type 0) (w w2 : TheWorld) (s t : State) (b : Binding) (there : TheBinding) : Type 0 where
  pub may_set_cores : w2.may_set_cores ≡ w.may_set_cores
  pub may_set : t.may_set_cores ≡ s.may_set_cores
  pub world_bindings : w2.bindings ≡ w.bindings ++ there ∷ []
  pub bindings : t.bindings ≡ s.bindings ++ b ∷ []
  pub programs : w2.programs ≡ w.programs
  pub interfaces : t.interfaces ≡ s.interfaces
  pub names : w2.names ≡ w.names
  pub services : t.services ≡ s.services
  pub show : AllShow t.cores w2.cores
  pub cores : CoresGrow New w.cores w2.cores
  pub world_count : w2.dispatchers ≡ w.dispatchers
  pub count : count_dispatchers t ≡ count_dispatchers s
  pub queues : (n : ℕ) (q : TheQueue) → slice_get w.queues n ≡ Some q → slice_get w2.queues n ≡ Some q
  pub links : (x y : ℕ) → ring_between t x y ≡ ring_between s x y
  pub rings_count : length w2.rings ≡ length t.rings
  pub rings : (n : ℕ) (r : Ring) (d : TheDuo) → slice_get t.rings n ≡ Some r → slice_get w2.rings n ≡ Some d
      → ((slice_get s.rings n ≡ Some r) × (slice_get w.rings n ≡ Some d)) ⊎ IsNewRing r d
  pub joined : (n : ℕ) → b.back ≡ over_ring n → length s.rings ≤ n
  -- the new ends
  pub made : (side : Side) (i : Planned) (seat : Seat) → slice_get s.interfaces b.interface ≡ Some i → (end_in side b).seat ≡ Some seat
      → IsMade w2 t (end_id (length s.bindings) side) b i seat
  pub sits : (n : ℕ) (e : EndId) (x : EndWiring) → New n e x → SitsAt t e n
  pub fresh : (n : ℕ) (e : EndId) (x q : ℕ) → New n e (Queues x q) → length w.queues ≤ q
  pub one : (n m : ℕ) (e f : EndId) (x y q : ℕ) → New n e (Queues x q) → New m f (Queues y q) → e ≡ f
  pub shows : BindingShows t (length s.bindings) b there
  pub silent : (side : Side) → IsSilent (end_in side b).out

module _ (New : ℕ → EndId → EndWiring → Type 0) (w w2 : TheWorld) (s t : State) (b : Binding) (there : TheBinding) (sound : Sound s) (h : ShowsState w s)
    (g : Joins New w w2 s t b there) where
  forth : (n : ℕ) (c : Binding) → slice_get s.bindings n ≡ Some c → slice_get t.bindings n ≡ Some c
  forth n c q = ap (λ bs. slice_get bs n) g.bindings ∙ push_keeps s.bindings (b ∷ []) n c q

  back : (n : ℕ) (c : Binding) → slice_get t.bindings n ≡ Some c → (slice_get s.bindings n ≡ Some c) ⊎ ((n ≡ length s.bindings) × (c ≡ b))
  back n c q = push_cases s.bindings b n c (ap (λ bs. slice_get bs n) (sym g.bindings) ∙ q)

  interface_was : (c : Binding) (i : Planned) → interface_of t c ≡ Some i → interface_of s c ≡ Some i
  interface_was c i q = ap (λ is. slice_get is c.interface) (sym g.interfaces) ∙ q

  fragments : SameFragments s t
  fragments = labels_stay s t (keeps_on s t (λ n i q. ap (λ is. slice_get is n) g.interfaces ∙ q) forth)

  new_rings : RingsGrow w w2 s t
  new_rings = record {
    count = g.rings_count;
    rings = g.rings;
    links = λ x y at q. inl (sym (g.links x y) ∙ q);
    joined = λ m n c q r. elim (back m c q) [
      | inl a ↦ inl a
      | inr a ↦ inr (g.joined n (ap (λ (z : Binding). z.back) (sym a.1) ∙ r))
    ];
    fragments = fragments;
  }

  new_made : (e : EndId) (c : Binding) (i : Planned) (seat : Seat) → interface_of t c ≡ Some i → (end_in e.side c).seat ≡ Some seat → e.binding ≡ length s.bindings → c ≡ b
      → IsMade w2 t e c i seat
  new_made e c i seat q r here same =
      let at : e ≡ end_id (length s.bindings) e.side = ap (λ n. end_id n e.side) here in
      subst (λ z. IsMade w2 t z c i seat) (sym at) (subst (λ z. IsMade w2 t (end_id (length s.bindings) e.side) z i seat) (sym same)
      (g.made e.side i seat (ap (λ (z : Binding). slice_get s.interfaces z.interface) (sym same) ∙ interface_was c i q)
      (ap (λ z. (end_in e.side z).seat) (sym same) ∙ r)))

  new_ends : EndsGrow New w w2 s t
  new_ends = record {
    grows = record { cores = g.cores; queues = g.queues; links = λ x y at q. g.links x y ∙ q; fragments = fragments };
    bindings = forth;
    comes = λ e c i seat p q r. elim (back e.binding c p) [
      | inl a ↦ inl (a, interface_was c i q)
      | inr a ↦ inr (new_made e c i seat q r a.0 a.1)
    ];
    sits = g.sits;
    fresh = g.fresh;
    one = g.one;
  }

  new_silent : (e : EndId) (x : End) → end_of t e ≡ Some x → x.circuit ≡ None → IsSilent x.out
  new_silent e x q none =
      let (c, at, is) = end_there t e x q in
      elim (back e.binding c at) [
        | inl a ↦ h.bindings.silent e x (ap (λ o. given o None (λ (z : Binding). Some (end_in e.side z))) a ∙ ap (λ y. Some y) is) none
        | inr a ↦ subst (λ (y : End). IsSilent y.out) (ap (end_in e.side) (sym a.1) ∙ is) (g.silent e.side)
      ]

  new_bindings : BindingsShow w2 t
  new_bindings = record {
    count = ap length g.world_bindings ∙ length_push w.bindings there ∙ ap (λ n. n + 1) h.bindings.count ∙ sym (length_push s.bindings b) ∙ ap length (sym g.bindings);
    each = λ n c there2 p q. each n c there2 (back n c p) (push_cases w.bindings there n there2 (ap (λ bs. slice_get bs n) (sym g.world_bindings) ∙ q));
    silent = new_silent;
  }
    where
      each : (n : ℕ) (c : Binding) (there2 : TheBinding) → (slice_get s.bindings n ≡ Some c) ⊎ ((n ≡ length s.bindings) × (c ≡ b))
          → (slice_get w.bindings n ≡ Some there2) ⊎ ((n ≡ length w.bindings) × (there2 ≡ there)) → BindingShows t n c there2
      each n c there2 (inl a) (inl e) =
          binding_grows s t n c there2 (λ route x r k. ap (λ xs. service_of xs route.service) (sym g.services) ∙ k) (λ i r. interface_was c i r)
          (h.bindings.each n c there2 a e)
      each n c there2 (inr a) (inr e) =
          subst (λ m. BindingShows t m c there2) (sym a.0) (subst (λ z. BindingShows t (length s.bindings) z there2) (sym a.1)
          (subst (λ z. BindingShows t (length s.bindings) b z) (sym e.1) g.shows))
      each n c there2 (inl a) (inr e) = absurd (let few = within s.bindings n c a in let k = e.0 in let count = h.bindings.count in omega (arith, few, k, count))
      each n c there2 (inr a) (inl e) = absurd (let few = within w.bindings n there2 e in let k = a.0 in let count = h.bindings.count in omega (arith, few, k, count))

  pub joined_shown : ShowsState w2 t
  joined_shown = record {
    may_set_cores = g.may_set_cores ∙ h.may_set_cores ∙ sym g.may_set;
    cores = shows_of w2 t g.show;
    dispatchers = g.world_count ∙ h.dispatchers ∙ sym g.count;
    programs = ap (map planned_of) g.programs ∙ h.programs ∙ sym g.interfaces;
    limits = λ n i q. h.limits n i (ap (λ is. slice_get is n) (sym g.interfaces) ∙ q);
    names = g.names ∙ h.names ∙ ap (registered_from 1) (sym g.services);
    rings = rings_grow w w2 s t new_rings h.rings;
    bindings = new_bindings;
    ends = ends_grow New w w2 s t new_ends h.ends sound.ends;
  }

-- ---- a new end

-- one that is bound from the start
pub fresh_bound : (program : Program) (stations : ℕ) (queue : Option Queue) (seat : Option Seat) (i : Planned) → planned_of program ≡ i
    → EndShows i (record (unbound_end (length i.interface.messages) stations queue) { seat = seat; circuit = Some 0 }) (fresh_direction stations) (fresh program (Some 0))
fresh_bound program stations queue seat i e =
    let f = fresh_is program stations queue i e in
    record { program = f.program; circuit = refl; rules = f.rules; outgoing = f.outgoing; parts = f.parts; failed = refl }

-- and one that isn't
pub fresh_unbound : (program : Program) (stations : ℕ) (queue : Option Queue) (seat : Option Seat) (i : Planned) → planned_of program ≡ i
    → EndShows i (record (unbound_end (length i.interface.messages) stations queue) { seat = seat }) (fresh_direction stations) (fresh program None)
fresh_unbound program stations queue seat i e =
    let f = fresh_is program stations queue i e in
    record { program = f.program; circuit = refl; rules = f.rules; outgoing = f.outgoing; parts = f.parts; failed = refl }

-- a copy of a program is of the same interface and plan
pub copied : (p q : Program) → program_of p ≡ program_of q → planned_of p ≡ planned_of q
copied p q e = ap (λ (z : TheProgram). record { interface = z.interface; plan = z.plan }) e
