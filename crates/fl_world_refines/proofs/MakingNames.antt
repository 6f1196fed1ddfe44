-- A service is exported.
use Rattle.std.proofs.Common.{◌≡◌, refl, sym, ◌∙◌, ap, subst, ℕ, suc, ◌+◌, ◌-◌, ◌||◌, inl, nat_le, nat_lt, not, Bool, true, false, if◌then◌else◌, List, [], ◌∷◌, ◌++◌, length, slice_get, Option, Some, None, arith}
use Rattle.std.specs.Prelude.{is_some, find, bytes_eq}
use Rattle.std.specs.List.{list_any}
use Rattle.fl_base.specs.Given.{given}
use Rattle.fl_hop.proofs.Lists.{push_keeps, within, at_within}
use Rattle.fl_nameserv.specs.Registrations.{TheRegistration, has_name, by_name, with_registered}
use Rattle.fl_core.specs.View.{TheCore}
use Rattle.fl_model.specs.Events.{DispatcherId, Answer, done}
use Rattle.fl_model.specs.Monitors.{Core, Service, service_of}
use Rattle.fl_model.specs.State.{State, StepOutcome, answers, dispatcher_of}
use Rattle.fl_model.specs.Making.{has_service, with_service}
use Rattle.fl_model.specs.Sound.{Sound}
use Rattle.fl_world_refines.specs.Cores.{registered_from, offer_of}
use Rattle.fl_world_refines.proofs.Names.{names_agree}
use Rattle.fl_world_refines.proofs.Tests.{true_lt, false_lt, le_true, le_false}
use Rattle.fl_world_refines.specs.View.{If, TheWorld, has_dispatcher}
use Rattle.fl_world_refines.specs.Making.{service}
use Rattle.fl_world_refines.specs.ShowsState.{ShowsState, Shows}
use Rattle.fl_world_refines.specs.Laws.{Agrees, ExportsAgree}
use Rattle.fl_world_refines.proofs.MakingBase.{refuses, by_if}
use Rattle.fl_world_refines.proofs.MakingGrows.{cores_same}
use Rattle.fl_world_refines.proofs.MakingWider.{no_new, Widens, Wider, wider}
use Rattle.fl_world_refines.proofs.MakingCores.{all_of, core_there, dispatcher_there}
use Rattle.fl_world_refines.proofs.MakingDispatchers.{core_test}
use Rattle.fl_world_refines.proofs.MakingParts.{programs_count}

-- ---- tests

-- a dispatcher of the world is the machine's
pub same_dispatcher : (w : TheWorld) (s : State) (d : DispatcherId) → ShowsState w s → has_dispatcher w d ≡ is_some (dispatcher_of s d)
same_dispatcher w s d h = by (slice_get w.cores d.core) (slice_get s.cores d.core) refl refl
  where
    by : (o : Option TheCore) (p : Option Core) → slice_get w.cores d.core ≡ o → slice_get s.cores d.core ≡ p
        → given o false (λ c. nat_lt d.place (length c.board.dispatchers)) ≡ is_some (given p None (λ k. slice_get k.dispatchers d.place))
    by None None q r = refl
    by (Some c) (Some k) q r =
        sym (core_test c.board.dispatchers d.place) ∙ dispatcher_there k.dispatchers c.board.dispatchers d.place (h.cores.each d.core k c r q).count
    by (Some c) None q r = (let there = core_there s.cores w.cores d.core c (all_of w s h.cores) q in absurd (let e : None ≡ Some there.0 = sym r ∙ there.1 in cc))
    by None (Some k) q r =
        (let few = within s.cores d.core k r in
        let count = h.cores.count in
        let there = at_within w.cores d.core (omega (arith, few, count)) in
        absurd (let e : None ≡ Some there.0 = sym q ∙ there.1 in cc))

pub same_name : (name : List ℕ) (n : ℕ) (xs : List Service) → is_some (find (has_name name) (registered_from n xs)) ≡ list_any (λ (x : Service). bytes_eq name x.name) xs
same_name name n [] = refl
same_name name n (x ∷ xs) = by (bytes_eq name x.name) (same_name name (n + 1) xs)
  where
    rest : Option TheRegistration
    rest = find (has_name name) (registered_from (n + 1) xs)

    by : (b : Bool) → is_some rest ≡ list_any (λ (y : Service). bytes_eq name y.name) xs
        → is_some (if b then Some (record { name = x.name; iref = n; service = offer_of x }) else rest) ≡ (b || list_any (λ (y : Service). bytes_eq name y.name) xs)
    by true h = refl
    by false h = h

pub same_names : (name : List ℕ) (w : TheWorld) (s : State) → ShowsState w s → is_some (by_name name w.names) ≡ has_service name s
same_names name w s h = ap (λ names. is_some (by_name name names)) h.names ∙ same_name name 1 s.services

registered_count : (xs : List Service) (n : ℕ) → length (registered_from n xs) ≡ length xs
registered_count [] n = refl
registered_count (x ∷ xs) n = ap suc (registered_count xs (n + 1))

-- ---- one service more

abbrev new_service : List ℕ → DispatcherId → ℕ → Service
new_service name d i = record { name = name; dispatcher = d; interface = i }

abbrev world : List ℕ → DispatcherId → ℕ → TheWorld → TheWorld
world name d i w = record w { names = with_registered w.names name (service d i) }

service_stays : (xs : List Service) (y : Service) (iref : ℕ) (x : Service) → service_of xs iref ≡ Some x → service_of (xs ++ y ∷ []) iref ≡ Some x
service_stays xs y iref x = by (nat_lt 0 iref)
  where
    by : (b : Bool) → (if b then slice_get xs (iref - 1) else None) ≡ Some x → (if b then slice_get (xs ++ y ∷ []) (iref - 1) else None) ≡ Some x
    by true q = push_keeps xs (y ∷ []) _ x q
    by false q = absurd (cc)

service_widens : (name : List ℕ) (d : DispatcherId) (i : ℕ) (w : TheWorld) (s : State) → ShowsState w s
    → Widens w (world name d i w) s (with_service (new_service name d i) s)
service_widens name d i w s h = record {
  cores = cores_same no_new w.cores;
  queues = λ n q r. r;
  joined = refl;
  bindings = refl;
  interfaces = λ n j q. q;
  services = λ iref x q. service_stays s.services (new_service name d i) iref x q;
  links = λ a b at q. q;
  links_back = λ a b at q. inl q;
  count = h.rings.count;
  rings = λ n r e p q. inl (p, q);
}

service_shown : (name : List ℕ) (d : DispatcherId) (i : ℕ) (w : TheWorld) (s : State) → Sound s → ShowsState w s
    → ShowsState (world name d i w) (with_service (new_service name d i) s)
service_shown name d i w s sound h =
    let on : Wider (world name d i w) (with_service (new_service name d i) s) =
    wider w (world name d i w) s (with_service (new_service name d i) s) sound h (service_widens name d i w s h) in
    record {
      may_set_cores = h.may_set_cores;
      cores = record { count = h.cores.count; each = h.cores.each };
      dispatchers = h.dispatchers;
      programs = h.programs;
      limits = h.limits;
      names = (names_agree s.services w.names h.names).more (new_service name d i);
      rings = on.rings;
      bindings = on.bindings;
      ends = on.ends;
    }

service_made : (name : List ℕ) (d : DispatcherId) (i : ℕ) (w w2 : TheWorld) (s : State) (a : Answer) → Shows w s
    → (a ≡ done) × (w2 ≡ world name d i w) → Agrees (answers (with_service (new_service name d i) s) done) a w2
service_made name d i w w2 s a h e = record {
  answer = sym e.0;
  showing = subst (λ v. ShowsState v (with_service (new_service name d i) s)) (sym e.1) (service_shown name d i w s h.sound h.showing);
}

-- two look-ups in the machine, one test in the world
by_two : {X Y : Type 0} (o : Option X) (p : Option Y) (b c : Bool) (T E : Type 0) (x y : StepOutcome) (a : Answer) (w : TheWorld) → b ≡ is_some o → c ≡ not (is_some p)
    → (T → Agrees x a w) → (E → Agrees y a w) → If (not b || c) T E → Agrees (given o x (λ u. given p x (λ v. y))) a w
by_two None p b c T E x y a w q r f g h = none b q h
  where
    none : (b : Bool) → b ≡ false → If (not b || c) T E → Agrees x a w
    none false q h = f h
    none true q h = absurd (cc)
by_two (Some u) None b c T E x y a w q r f g h = none b c q r h
  where
    none : (b c : Bool) → b ≡ true → c ≡ true → If (not b || c) T E → Agrees x a w
    none true true q r h = f h
    none false c q r h = absurd (cc)
    none true false q r h = absurd (cc)
by_two (Some u) (Some v) b c T E x y a w q r f g h = both b c q r h
  where
    both : (b c : Bool) → b ≡ true → c ≡ false → If (not b || c) T E → Agrees y a w
    both true false q r h = g h
    both false c q r h = absurd (cc)
    both true true q r h = absurd (cc)

no_interface : (w : TheWorld) (s : State) (i : ℕ) → ShowsState w s → nat_le (length w.programs) i ≡ not (is_some (slice_get s.interfaces i))
no_interface w s i h = ap (λ n. nat_le n i) (programs_count w s h) ∙ by (nat_lt i (length s.interfaces)) refl ∙ ap not (sym (core_test s.interfaces i))
  where
    by : (b : Bool) → nat_lt i (length s.interfaces) ≡ b → nat_le (length s.interfaces) i ≡ not (nat_lt i (length s.interfaces))
    by true q = le_false (length s.interfaces) i (true_lt i (length s.interfaces) q) ∙ ap not (sym q)
    by false q = le_true (length s.interfaces) i (false_lt i (length s.interfaces) q) ∙ ap not (sym q)

pub exports_agree : ExportsAgree
exports_agree name d i w w2 s a h e =
    by_two (dispatcher_of s d) (slice_get s.interfaces i) (has_dispatcher w d) (nat_le (length w.programs) i) _ _ _ _ a w2
    (same_dispatcher w s d h.showing) (no_interface w s i h.showing) (refuses 92 w w2 s a h.showing)
    (by_if (is_some (by_name name w.names)) (has_service name s) _ _ _ _ a w2 (same_names name w s h.showing) (refuses 71 w w2 s a h.showing)
    (λ q. by_if (nat_le 256 (length w.names)) (nat_le 256 (length s.services)) _ _ _ _ a w2
    (ap (λ n. nat_le 256 n) (ap length h.showing.names ∙ registered_count s.services 1)) (refuses 94 w w2 s a h.showing)
    (λ r. service_made name d i w w2 s a h))) e
