-- Lines that set up interfaces, links, dispatchers and services: each is refused as the machine refuses it, and the draft goes on as the machine does.
use Rattle.std.proofs.Common.{◌≡◌, refl, sym, ◌∙◌, ap, subst, ℕ, ◌+◌, ◌==◌, ◌||◌, ◌&&◌, nat_lt, nat_le, not, Bool, true, false, if◌then◌else◌, List, [], ◌∷◌, ◌++◌, length, slice_get, sum, is_some, Option, Some, None, arith}
use Rattle.std.proofs.lemmas.List.{map-append}
use Rattle.std.proofs.lemmas.List.Folds.{list_any-append}
use Rattle.fl_base.specs.Given.{given}
use Rattle.fl_interface.specs.Interface.{TheInterface}
use Rattle.fl_value_data.specs.declared.value.PlanNo.{PlanNo}
use Rattle.fl_model.specs.Given.{changed_at}
use Rattle.fl_model.specs.Calls.{Planned}
use Rattle.fl_model.specs.Events.{DispatcherId, Event, add_interface, add_link, add_dispatcher, export, done, refused}
use Rattle.fl_model.specs.Making as machine
use Rattle.fl_model.specs.Making.{most_interfaces, most_dispatchers, most_services, is_ring_size, with_new_link, with_dispatcher}
use Rattle.fl_model.specs.Monitors.{Service}
use Rattle.fl_model.specs.State.{State, StepOutcome, answers, dispatcher_of}
use Rattle.fl_model_laws.proofs.Cases.{each_push}
use Rattle.fl_model_laws.proofs.Replies.{length_changed}
use Rattle.fl_script_lines.specs.Asked.{is_taken}
use Rattle.fl_cores_file.specs.Draft.{Draft, Joint, joins, has_interface, has_link, is_core, is_dispatcher, is_interface, adds_interface, adds_link, adds_dispatcher, exports}
use Rattle.fl_cores_file.specs.Verdicts.{LineVerdict, stops, goes_on}
use Rattle.fl_cores_file_laws.proofs.Views.{view_of, table_linked, link_view, one_more, dispatcher_view}
use Rattle.fl_cores_file_laws.proofs.Counts.{within, counted_more, one_linked, sizes, longer, sum_more, size_more, new_many, new_keeps}
use Rattle.fl_cores_file_laws.proofs.Mirrors.{Mirrors, present, name_of, offer_by, IsThere, core_same, link_same, table_there, size_there, total_same, there_same, interface_same, service_same, services_same}

-- ---- what comes of a line

-- it leaves the number of cores unsettled only where it asks for an interface
abbrev pub settles : Event → Bool → Bool
settles (add_interface i plan) b = b
settles v b = true

-- the draft behind a line that sets something up
pub record Grown (v : Event) (d e : Draft) : Type 0 where
  pub setup : e.setup ≡ d.setup ++ v ∷ []
  pub cores : e.cores ≡ d.cores
  pub settled : e.settled ≡ settles v d.settled

abbrev pub Agrees : Event → Draft → LineVerdict Draft → StepOutcome → Type 0
Agrees v d (stops fault) o = o.answer ≡ refused fault
Agrees v d (goes_on e) o = (o.answer ≡ done) × Mirrors e (view_of o.state) × Grown v d e

-- ---- cases

pub agree_if : (P : LineVerdict Draft → StepOutcome → Type 0) (a b : Bool) (x y : LineVerdict Draft) (o p : StepOutcome) → b ≡ a
    → (a ≡ true → P x o) → (a ≡ false → P y p) → P (if a then x else y) (if b then o else p)
agree_if P true true x y o p e f g = f refl
agree_if P true false x y o p e f g = absurd (cc)
agree_if P false true x y o p e f g = absurd (cc)
agree_if P false false x y o p e f g = g refl

pub agree_there : {X Y : Type 0} (P : LineVerdict Draft → StepOutcome → Type 0) (s : State) (a b : Bool) (o : Option X) (p : Option Y) (y : LineVerdict Draft)
    (f : X → Y → StepOutcome) → P (stops 92) (answers s (refused 92)) → is_some o ≡ a → is_some p ≡ b
    → ((x : X) (z : Y) → o ≡ Some x → p ≡ Some z → P y (f x z))
    → P (if not (a && b) then stops 92 else y) (given o (answers s (refused 92)) λ x. given p (answers s (refused 92)) λ z. f x z)
agree_there P s true true None p y f u h k g = absurd (cc)
agree_there P s true true (Some x) None y f u h k g = absurd (cc)
agree_there P s true true (Some x) (Some z) y f u h k g = g x z refl refl
agree_there P s true false None p y f u h k g = absurd (cc)
agree_there P s true false (Some x) None y f u h k g = u
agree_there P s true false (Some x) (Some z) y f u h k g = absurd (cc)
agree_there P s false b None p y f u h k g = u
agree_there P s false b (Some x) p y f u h k g = absurd (cc)

-- ---- interfaces

pub interface_agrees : (i : TheInterface) (plan : PlanNo) (d : Draft) (s : State) → Mirrors d (view_of s)
    → Agrees (add_interface i plan) d (adds_interface i plan d) (machine.adds_interface i plan s)
interface_agrees i plan d s h =
    let v = add_interface i plan in
    let one : Planned = record { interface = i; plan = plan } in
    agree_if (Agrees v d) (has_interface i.name d) (machine.has_interface i.name s) _ _ _ _
    (ap (λ (is : List Planned). machine.has_interface i.name (record s { interfaces = is })) h.interfaces) (λ q. refl)
    (λ q. agree_if (Agrees v d) (nat_le most_interfaces (length d.interfaces)) (nat_le most_interfaces (length s.interfaces)) _ _ _ _
    (ap (λ (is : List Planned). nat_le most_interfaces (length is)) h.interfaces) (λ r. refl)
    (λ r. (
      refl,
      record {
        interfaces = ap (λ is. is ++ one ∷ []) h.interfaces;
        cores = h.cores;
        even = h.even;
        links = h.links;
        many = h.many;
        total = h.total;
        seats = h.seats;
        names = h.names;
        offers = h.offers;
        offered = h.offered;
        few = h.few;
      },
      record { setup = refl; cores = refl; settled = refl },
    )))

-- ---- links

parts : (p q e l : Bool) → (not (p && q) || e || l) ≡ false → (p ≡ true) × (q ≡ true)
parts true true e l h = (refl, refl)
parts true false e l h = absurd (cc)
parts false q e l h = absurd (cc)

shuffle : (l m r t : Bool) → ((l || m) || (r && t)) ≡ (l || ((m || (t && r)) || false))
shuffle true m r t = refl
shuffle false true r t = refl
shuffle false false true true = refl
shuffle false false true false = refl
shuffle false false false true = refl
shuffle false false false false = refl

link_goes : (a b size : ℕ) (d e : Draft) (s : State) → Mirrors d (view_of s) → is_core a d ≡ true → is_core b d ≡ true
    → e ≡ record d { links = d.links ++ record { first = a; second = b } ∷ []; settled = true; setup = d.setup ++ add_link a b size ∷ [] }
    → Mirrors e (record (view_of s) { tables = changed_at b (table_linked a) (changed_at a (table_linked b) (view_of s).tables) })
link_goes a b size d e s h p q is =
    let ts = (view_of s).tables in
    let one = changed_at a (table_linked b) ts in
    let v = record (view_of s) { tables = changed_at b (table_linked a) one } in
    let j : Joint = record { first = a; second = b } in
    let there : is_some (slice_get one b) ≡ true = sym (within one b) ∙ ap (nat_lt b) (length_changed ts a (table_linked b)) ∙ within ts b ∙ table_there d s h b q in
    subst (λ x. Mirrors x v) (sym is) (record {
      interfaces = h.interfaces;
      cores = length_changed one b (table_linked a) ∙ length_changed ts a (table_linked b) ∙ h.cores;
      even = h.even;
      links = λ x y.
          one_linked one b a x y there
          ∙ ap (λ c. c || ((b == x) && (a == y))) (one_linked ts a b x y (table_there d s h a p) ∙ ap (λ c. c || ((a == x) && (b == y))) (h.links x y))
          ∙ shuffle (has_link x y d) ((a == x) && (b == y)) (b == x) (a == y)
          ∙ sym (list_any-append (joins x y) d.links (j ∷ []));
      many = h.many;
      total = h.total;
      seats = h.seats;
      names = h.names;
      offers = h.offers;
      offered = h.offered;
      few = h.few;
    })

pub link_agrees : (a b size : ℕ) (d : Draft) (s : State) → Mirrors d (view_of s) → Agrees (add_link a b size) d (adds_link a b size d) (machine.adds_link a b size s)
link_agrees a b size d s h =
    let v = add_link a b size in
    agree_if (Agrees v d) (not (is_core a d && is_core b d) || (a == b) || has_link a b d) (not (machine.is_core a s && machine.is_core b s) || (a == b) || machine.has_link a b s) _ _ _ _
    (ap (λ c. not (c && machine.is_core b s) || (a == b) || machine.has_link a b s) (core_same d s h a)
    ∙ ap (λ c. not (is_core a d && c) || (a == b) || machine.has_link a b s) (core_same d s h b)
    ∙ ap (λ c. not (is_core a d && is_core b d) || (a == b) || c) (link_same d s h a b)) (λ q. refl)
    (λ q. agree_if (Agrees v d) (not (is_ring_size size)) (not (is_ring_size size)) _ _ _ _ refl (λ r. refl)
    (λ r.
    let both = parts (is_core a d) (is_core b d) (a == b) (has_link a b d) q in
    (refl, subst (Mirrors _) (sym (link_view a b size s)) (link_goes a b size d _ s h both.0 both.1 refl), record { setup = refl; cores = refl; settled = refl })))

-- ---- dispatchers

is_not : (b : Bool) → not b ≡ false → b ≡ true
is_not true h = refl
is_not false h = absurd (cc)

pub dispatcher_agrees : (core : ℕ) (d : Draft) (s : State) → Mirrors d (view_of s)
    → Agrees (add_dispatcher core) d (adds_dispatcher core d) (machine.adds_dispatcher core s)
dispatcher_agrees core d s h =
    let v = add_dispatcher core in
    let es = (view_of s).ends in
    agree_if (Agrees v d) (nat_le most_dispatchers (length d.dispatchers)) (nat_le most_dispatchers (machine.count_dispatchers s)) _ _ _ _
    (ap (nat_le most_dispatchers) (total_same d s h)) (λ q. refl)
    (λ q. agree_if (Agrees v d) (not (is_core core d)) (not (machine.is_core core s)) _ _ _ _ (ap not (core_same d s h core)) (λ r. refl)
    (λ r.
    let there = size_there d s h core (is_not (is_core core d) r) in (
      refl,
      subst (Mirrors _) (sym (dispatcher_view core s)) (record {
        interfaces = h.interfaces;
        cores = h.cores;
        even = length_changed es core one_more ∙ h.even;
        links = h.links;
        many = λ x.
            let wider = ap (λ ns. given (slice_get ns x) 0 λ n. n) (longer es core) in
            let more = size_more (sizes es) core x there in
            let counted = counted_more (λ one. one == x) d.dispatchers core in
            let before = h.many x in omega (arith, wider, more, counted, before);
        total =
            let wider = ap sum (longer es core) in
            let more = sum_more (sizes es) core there in
            let before = h.total in
            let long = long_more d.dispatchers core in omega (arith, wider, more, before, long);
        seats = λ x. new_many es core x ∙ h.seats x;
        names = h.names;
        offers = h.offers;
        offered = λ n x at. new_keeps es core x.dispatcher (h.offered n x at);
        few = h.few;
      }),
      record { setup = refl; cores = refl; settled = refl },
    )))
  where
    long_more : {X : Type 0} (xs : List X) (x : X) → length (xs ++ x ∷ []) ≡ length xs + 1
    long_more [] x = refl
    long_more (y ∷ xs) x = let rest = long_more xs x in omega (arith, rest)

-- ---- services

pub export_agrees : (name : List ℕ) (x : DispatcherId) (i : ℕ) (d : Draft) (s : State) → Mirrors d (view_of s)
    → Agrees (export name x i) d (exports name x i d) (machine.exports name x i s)
export_agrees name x i d s h =
    let v = export name x i in
    let one : Service = record { name = name; dispatcher = x; interface = i } in
    agree_there (Agrees v d) s (is_dispatcher x d) (is_interface i d) (dispatcher_of s x) (slice_get s.interfaces i) _ _ refl (there_same d s h x) (interface_same d s h i)
    (λ y z q r. agree_if (Agrees v d) (is_taken name d.services) (machine.has_service name s) _ _ _ _ (service_same d s h name) (λ t. refl)
    (λ t. agree_if (Agrees v d) (nat_le most_services (length d.offers)) (nat_le most_services (length s.services)) _ _ _ _ (ap (nat_le most_services) (services_same d s h)) (λ u. refl)
    (λ u. (
      refl,
      record {
        interfaces = h.interfaces;
        cores = h.cores;
        even = h.even;
        links = h.links;
        many = h.many;
        total = h.total;
        seats = h.seats;
        names = map-append name_of s.services (one ∷ []) ∙ ap (λ ns. ns ++ name ∷ []) h.names;
        offers = map-append offer_by s.services (one ∷ []) ∙ ap (λ os. os ++ offer_by one ∷ []) h.offers;
        offered = each_push (IsThere (view_of s)) s.services one h.offered (present s x y q);
        few = h.few;
      },
      record { setup = refl; cores = refl; settled = refl },
    ))))
