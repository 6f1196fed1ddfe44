-- Lines one after another: the machine, asked for what they set up, refuses none of it, and answers the next line as the draft does.
use Rattle.std.proofs.Common.{◌≡◌, ◌⊎◌, inl, inr, refl, sym, ◌∙◌, ap, subst, ℕ, zero, suc, ◌+◌, ◌≤◌, ◌==◌, ◌||◌, ◌&&◌, nat_lt, nat_le, not, Bool, true, false, if◌then◌else◌, List, [], ◌∷◌, ◌++◌, length, map, slice_get, sum, Option, None, arith}
use Rattle.std.specs.List.{count_by, list_all, list_any, range_with_len}
use Rattle.std.proofs.lemmas.List.{length-map}
use Rattle.std.proofs.lemmas.List.Sums.{sum_by-append}
use Rattle.fl_base.specs.declared.identity.EndId.{EndId}
use Rattle.fl_base.specs.Given.{given}
use Rattle.fl_base.specs.Numbered.{most_cores, most_bindings}
use Rattle.fl_interface.specs.Interface.{TheInterface}
use Rattle.fl_value_data.specs.declared.value.PlanNo.{PlanNo}
use Rattle.fl_model.specs.Binding.{same_dispatcher}
use Rattle.fl_model.specs.Events.{DispatcherId, Kind, by_queues, by_ring, by_route, Event, add_interface, set_cores, add_link, add_dispatcher, export, bind, Answer, done, refused}
use Rattle.fl_model.specs.Events as event
use Rattle.fl_model.specs.Making as machine
use Rattle.fl_model.specs.Monitors.{fresh_core}
use Rattle.fl_model.specs.Runs.{answers_to, reached}
use Rattle.fl_model.specs.State.{State, StepOutcome, answers}
use Rattle.fl_model.specs.Step.{step, does, settles, settles_by}
use Rattle.fl_model.specs.Worlds.{start_with}
use Rattle.fl_model_laws.proofs.Cases.{either, by_given, none_at_end}
use Rattle.fl_model_laws.proofs.Replies.{length_changed}
use Rattle.fl_model_laws.proofs.Views.{given_map}
use Rattle.fl_cores_file.specs.Draft.{Draft, Use, joins, nothing_yet, takes, has_interface, is_route, offer_of, is_dispatcher, is_interface, with_use, change_use}
use Rattle.fl_cores_file.specs.Draft.{binds, TheDraftRequest, fault_at, call_fault, rule_fault}
use Rattle.fl_cores_file.specs.Verdicts.{LineVerdict, stops, goes_on}
use Rattle.fl_cores_file_laws.specs.SetUps.{sets_up, ComeTo, behind, is_refusal, answer_for, IsOneTooMany, SetUpsAreTheMachines}
use Rattle.fl_cores_file_laws.proofs.Views.{View, view_of, table_of, counts_of}
use Rattle.fl_cores_file_laws.proofs.Counts.{no_shorter, links_to, sizes, size_at, many_at}
use Rattle.fl_cores_file_laws.proofs.Mirrors.{Mirrors}
use Rattle.fl_cores_file_laws.proofs.Making as making
use Rattle.fl_cores_file_laws.proofs.Making.{Grown, Agrees, interface_agrees, link_agrees, dispatcher_agrees, export_agrees}
use Rattle.fl_cores_file_laws.proofs.Binding.{AgreesOr, or_else, bind_agrees}

-- ---- an event that sets something up

does_agrees : (v : Event) (d : Draft) (s : State) → Mirrors d (view_of s) → sets_up v ≡ true → AgreesOr v d (takes v d) (does v s)
does_agrees (add_interface i plan) d s h e = or_else _ d _ _ (interface_agrees i plan d s h)
does_agrees (add_link a b size) d s h e = or_else _ d _ _ (link_agrees a b size d s h)
does_agrees (add_dispatcher core) d s h e = or_else _ d _ _ (dispatcher_agrees core d s h)
does_agrees (export name x i) d s h e = or_else _ d _ _ (export_agrees name x i d s h)
does_agrees (bind client i name (by_queues slots)) d s h e = bind_agrees client i name (by_queues slots) d s h refl
does_agrees (bind client i name (by_ring size)) d s h e = bind_agrees client i name (by_ring size) d s h refl
does_agrees (bind client i name (by_route route)) d s h e = absurd (cc)
does_agrees v d s h e = absurd (cc)

pub same_answer : (v : Event) (s : State) → (step s v).answer ≡ (does v s).answer
same_answer (add_interface i plan) s = refl
same_answer v s = refl

same_view : (v : Event) (s : State) → view_of (step s v).state ≡ view_of (does v s).state
same_view (add_interface i plan) s = refl
same_view v s = by (does v s).answer
  where
    by : (a : Answer) → view_of (settles_by a (does v s).state) ≡ view_of (does v s).state
    by (refused fault) = refl
    by a = refl

-- ---- lists of events

reached_push : (vs : List Event) (v : Event) (s : State) → reached s (vs ++ v ∷ []) ≡ (step (reached s vs) v).state
reached_push [] v s = refl
reached_push (w ∷ vs) v s = reached_push vs v (step s w).state

abbrev passes : Answer → Bool
passes a = not (is_refusal a)

and_then : (b x y : Bool) → (x ≡ true → y ≡ true) → (b && x) ≡ true → (b && y) ≡ true
and_then true x y f h = f h
and_then false x y f h = h

passes_push : (vs : List Event) (v : Event) (s : State) → list_all passes (answers_to s vs) ≡ true → (step (reached s vs) v).answer ≡ done
    → list_all passes (answers_to s (vs ++ v ∷ [])) ≡ true
passes_push [] v s h e = ap (λ a. passes a && true) e
passes_push (w ∷ vs) v s h e = and_then (passes (step s w).answer) _ _ (λ k. passes_push vs v (step s w).state k e) h

-- ---- a draft, and the machine

abbrev at : ℕ → Draft → Draft
at n d = record d { cores = n }

record FitsAt (n : ℕ) (d : Draft) : Type 0 where
  passes_all : list_all passes (answers_to (start_with n) d.setup) ≡ true
  mirrors : Mirrors (at n d) (view_of (reached (start_with n) d.setup))
  may : d.settled ≡ false → (reached (start_with n) d.setup).may_set_cores ≡ true

-- so many cores there may be, and the draft fits the machine with them, or with any number while none is settled
record Fits (d : Draft) : Type 0 where
  few : (nat_lt d.cores 1 || nat_lt most_cores d.cores) ≡ false
  fits : (n : ℕ) → (d.settled ≡ true → n ≡ d.cores) → FitsAt n d

-- ---- before the first line

module _ (n : ℕ) where
  abbrev first : View
  first = view_of (start_with n)

  tables_long : length first.tables ≡ n
  tables_long = length-map (map fresh_core (range_with_len 0 n)) table_of ∙ length-map (range_with_len 0 n) fresh_core ∙ long 0 n
    where
      long : (a k : ℕ) → length (range_with_len a k) ≡ k
      long a zero = refl
      long a (suc k) = let rest = long (a + 1) k in omega (arith, rest)

  ends_long : length first.ends ≡ n
  ends_long = length-map (map fresh_core (range_with_len 0 n)) counts_of ∙ sym (length-map (map fresh_core (range_with_len 0 n)) table_of) ∙ tables_long

  no_links : (x y : ℕ) → links_to first.tables x y ≡ false
  no_links x y =
      given_map table_of false _ (map fresh_core (range_with_len 0 n)) x ∙ given_map fresh_core false _ (range_with_len 0 n) x
      ∙ by_given (λ b. b ≡ false) (slice_get (range_with_len 0 n) x) false _ refl (λ k q. refl)

  no_size : (x : ℕ) → size_at first.ends x ≡ 0
  no_size x =
      given_map (λ (ns : List ℕ). length ns) 0 _ (map counts_of (map fresh_core (range_with_len 0 n))) x
      ∙ given_map counts_of 0 _ (map fresh_core (range_with_len 0 n)) x ∙ given_map fresh_core 0 _ (range_with_len 0 n) x
      ∙ by_given (λ m. m ≡ 0) (slice_get (range_with_len 0 n) x) 0 _ refl (λ k q. refl)

  no_total : sum (sizes first.ends) ≡ 0
  no_total = none (range_with_len 0 n)
    where
      none : (xs : List ℕ) → sum (sizes (map counts_of (map fresh_core xs))) ≡ 0
      none [] = refl
      none (x ∷ xs) =
          let rest = none xs in
          let more = sum_by-append (λ (k : ℕ). k) (0 ∷ []) (sizes (map counts_of (map fresh_core xs))) in omega (arith, rest, more)

  none_seated : (x : DispatcherId) → many_at first.ends x ≡ 0
  none_seated x =
      ap (λ (o : Option ℕ). given o 0 λ k. k)
      (given_map counts_of None _ (map fresh_core (range_with_len 0 n)) x.core ∙ given_map fresh_core None _ (range_with_len 0 n) x.core
      ∙ by_given (λ (o : Option ℕ). o ≡ None) (slice_get (range_with_len 0 n) x.core) None _ refl (λ k q. refl))

  at_first : Mirrors (at n nothing_yet) first
  at_first = record {
    interfaces = refl;
    cores = tables_long;
    even = ends_long;
    links = no_links;
    many = no_size;
    total = no_total;
    seats = none_seated;
    names = refl;
    offers = refl;
    offered = none_at_end _;
    few = omega arith;
  }

nothing_fits : Fits nothing_yet
nothing_fits = record { few = refl; fits = λ n e. record { passes_all = refl; mirrors = at_first n; may = λ q. refl } }

-- ---- a line that sets something up

-- with n cores in the place of its own
abbrev verdict_at : ℕ → LineVerdict Draft → LineVerdict Draft
verdict_at n (stops fault) = stops fault
verdict_at n (goes_on d) = goes_on (at n d)

branch_at : (n : ℕ) (x : Draft) (a b : Bool)
    → (if a then stops 92 else if b then stops 94 else goes_on (at n x)) ≡ verdict_at n (if a then stops 92 else if b then stops 94 else goes_on x)
branch_at n x true b = refl
branch_at n x false true = refl
branch_at n x false false = refl

interface_at : (n : ℕ) (v : Event) (d : Draft) → making.settles v false ≡ false → sets_up v ≡ true → takes v (at n d) ≡ verdict_at n (takes v d)
interface_at n (add_interface i plan) d e u = branch_at n _ (has_interface i.name d) (nat_le machine.most_interfaces (length d.interfaces))
interface_at n v d e u = absurd (cc)

interface_still : (i : TheInterface) (plan : PlanNo) (s : State) → s.may_set_cores ≡ true → (machine.adds_interface i plan s).state.may_set_cores ≡ true
interface_still i plan s q =
    either (λ (o : StepOutcome). o.state.may_set_cores ≡ true) (machine.has_interface i.name s) _ _ (λ r. q)
    (λ r. either (λ (o : StepOutcome). o.state.may_set_cores ≡ true) (nat_le machine.most_interfaces (length s.interfaces)) _ _ (λ t. q) (λ t. q))

still : (v : Event) (b : Bool) (s : State) → sets_up v ≡ true → making.settles v b ≡ false → (b ≡ false → s.may_set_cores ≡ true) → (step s v).state.may_set_cores ≡ true
still (add_interface i plan) b s u e h = interface_still i plan s (h e)
still v b s u e h = absurd (cc)

-- asked at the machine with n cores
module _ (n : ℕ) (v : Event) (c d : Draft) (h : FitsAt n c) (u : sets_up v ≡ true) where
  abbrev s : State
  s = reached (start_with n) c.setup

  made : Agrees v (at n c) (goes_on (at n d)) (does v s) → FitsAt n d
  made (answer, mirrors, grown) = record {
    passes_all = ap (λ vs. list_all passes (answers_to (start_with n) vs)) grown.setup
        ∙ passes_push c.setup v (start_with n) h.passes_all (same_answer v s ∙ answer);
    mirrors = subst (Mirrors (at n d))
        (sym (ap (λ vs. view_of (reached (start_with n) vs)) grown.setup ∙ ap (λ t. view_of t) (reached_push c.setup v (start_with n)) ∙ same_view v s)) mirrors;
    may = λ q. ap (λ vs. State.may_set_cores (reached (start_with n) vs)) grown.setup
        ∙ ap (λ t. State.may_set_cores t) (reached_push c.setup v (start_with n)) ∙ still v c.settled s u (sym grown.settled ∙ q) h.may;
  }

  asked_at : takes v (at n c) ≡ goes_on (at n d) → FitsAt n d
  asked_at is = made (subst (λ x. AgreesOr v (at n c) x (does v s)) is (does_agrees v (at n c) s h.mirrors u))

-- what an accepted line leaves of the draft: its number of cores, and settled or not
grown_by : (v : Event) (d e : Draft) → FitsAt d.cores d → sets_up v ≡ true → takes v d ≡ goes_on e → Grown v d e
grown_by v d e h u is =
    let s = reached (start_with d.cores) d.setup in
    let x : Agrees v d (goes_on e) (does v s) = subst (λ y. AgreesOr v d y (does v s)) is (does_agrees v d s h.mirrors u) in x.2

settles_any : (v : Event) (b : Bool) → making.settles v false ≡ true → making.settles v b ≡ true
settles_any (add_interface i plan) b q = absurd (cc)
settles_any v b q = refl

settles_none : (v : Event) (b : Bool) → making.settles v false ≡ false → making.settles v b ≡ b
settles_none (add_interface i plan) b q = refl
settles_none v b q = absurd (cc)

set_up_by : (v : Event) (c d : Draft) → Fits c → (u : sets_up v ≡ true) → takes v c ≡ goes_on d → Grown v c d → (b : Bool) → making.settles v false ≡ b → Fits d
set_up_by v c d h u is grown true e =
    let x : FitsAt c.cores (at c.cores d) = asked_at c.cores v c (at c.cores d) (h.fits c.cores (λ q. refl)) u (is ∙ ap (λ k. goes_on (record d { cores = k })) grown.cores) in
    let here : FitsAt c.cores d = subst (FitsAt c.cores) (ap (λ k. record d { cores = k }) (sym grown.cores)) x in
    record {
      few = ap (λ k. nat_lt k 1 || nat_lt most_cores k) grown.cores ∙ h.few;
      fits = λ n q. subst (λ k. FitsAt k d) (sym (q (grown.settled ∙ settles_any v c.settled e) ∙ grown.cores)) here;
    }
set_up_by v c d h u is grown false e = record {
  few = ap (λ k. nat_lt k 1 || nat_lt most_cores k) grown.cores ∙ h.few;
  fits = λ n q.
      let x : FitsAt n (at n d) = asked_at n v c (at n d) (h.fits n (λ r. q (grown.settled ∙ settles_none v c.settled e ∙ r) ∙ grown.cores)) u
      (interface_at n v c e u ∙ ap (verdict_at n) is) in
      record { passes_all = x.passes_all; mirrors = x.mirrors; may = x.may };
}

set_up_fits : (v : Event) (c d : Draft) → Fits c → sets_up v ≡ true → takes v c ≡ goes_on d → Fits d
set_up_fits v c d h u is = set_up_by v c d h u is (grown_by v c d (h.fits c.cores (λ e. refl)) u is) (making.settles v false) refl

-- ---- other lines

-- a line that leaves the set-up as it is, and settles the number of cores
record Kept (c d : Draft) : Type 0 where
  setup : d.setup ≡ c.setup
  cores : d.cores ≡ c.cores
  settled : d.settled ≡ true
  interfaces : d.interfaces ≡ c.interfaces
  links : d.links ≡ c.links
  dispatchers : d.dispatchers ≡ c.dispatchers
  seats : d.seats ≡ c.seats
  services : d.services ≡ c.services
  offers : d.offers ≡ c.offers
  bindings : length c.bindings ≤ length d.bindings

abbrev Keeps : Draft → LineVerdict Draft → Type 0
Keeps c (stops fault) = Unit {0}
Keeps c (goes_on d) = Kept c d

kept_mirrors : (c d : Draft) (v : View) → Kept c d → Mirrors c v → Mirrors d v
kept_mirrors c d v k h = record {
  interfaces = h.interfaces ∙ sym k.interfaces;
  cores = h.cores ∙ sym k.cores;
  even = h.even ∙ sym k.cores;
  links = λ x y. h.links x y ∙ ap (λ ls. list_any (joins x y) ls) (sym k.links);
  many = λ core. h.many core ∙ ap (λ ds. count_by (λ one. one == core) ds) (sym k.dispatchers);
  total = h.total ∙ ap (λ ds. length ds) (sym k.dispatchers);
  seats = λ x. h.seats x ∙ ap (λ xs. count_by (same_dispatcher x) xs) (sym k.seats);
  names = h.names ∙ sym k.services;
  offers = h.offers ∙ sym k.offers;
  offered = h.offered;
  few = let before = h.few in let more = k.bindings in omega (arith, before, more);
}

kept_fits : (c d : Draft) → Kept c d → Fits c → Fits d
kept_fits c d k h =
    let x = h.fits c.cores (λ e. refl) in
    let v = view_of (reached (start_with c.cores) c.setup) in
    let here : FitsAt c.cores d = record {
      passes_all = ap (λ vs. list_all passes (answers_to (start_with c.cores) vs)) k.setup ∙ x.passes_all;
      mirrors = subst (Mirrors (at c.cores d)) (ap (λ vs. view_of (reached (start_with c.cores) vs)) (sym k.setup))
          (kept_mirrors c (at c.cores d) v (record {
            setup = k.setup;
            cores = refl;
            settled = k.settled;
            interfaces = k.interfaces;
            links = k.links;
            dispatchers = k.dispatchers;
            seats = k.seats;
            services = k.services;
            offers = k.offers;
            bindings = k.bindings;
          }) x.mirrors);
      may = λ q. absurd (false_true (sym q ∙ k.settled));
    } in
    record {
      few = ap (λ n. nat_lt n 1 || nat_lt most_cores n) k.cores ∙ h.few;
      fits = λ n q. subst (λ m. FitsAt m d) (sym (q k.settled ∙ k.cores)) here;
    }
  where
    false_true : false ≡ true → ⊥
    false_true e = absurd (cc)

route_keeps : (client : DispatcherId) (i : ℕ) (name route : List ℕ) (d : Draft) → Keeps d (binds client i name (by_route route) d)
route_keeps client i name route d =
    either (Keeps d) (not (is_dispatcher client d && is_interface i d)) _ _ (λ q. tt)
    (λ q. either (Keeps d) (nat_le most_bindings (length d.bindings)) _ _ (λ r. tt)
    (λ r. by_given (Keeps d) (offer_of name d) _ _ tt
    (λ offer t. either (Keeps d) (not (offer.interface == i)) _ _ (λ u. tt)
    (λ u. let w : TheDraftRequest = record { client = client; server = offer.dispatcher; interface = i; service = name } in
    either (Keeps d) (not (is_route w route d)) _ _ (λ x. tt) (λ x. record {
      setup = refl;
      cores = refl;
      settled = refl;
      interfaces = refl;
      links = refl;
      dispatchers = refl;
      seats = refl;
      services = refl;
      offers = refl;
      bindings = no_shorter d.bindings _;
    })))))

used_long : (e : EndId) (u : Use) (d : Draft) → length d.bindings ≤ length (change_use e u d).bindings
used_long e u d = let same = length_changed d.bindings e.binding (with_use e.side u) in omega (arith, same)

line_fits : (v : Event) (c d : Draft) → Fits c → takes v c ≡ goes_on d → Fits d
line_fits (add_interface i plan) c d h is = set_up_fits (add_interface i plan) c d h refl is
line_fits (set_cores n) c d h is = by c.settled refl (nat_lt n 1 || nat_lt most_cores n) refl is
  where
    by : (a : Bool) → c.settled ≡ a → (b : Bool) → (nat_lt n 1 || nat_lt most_cores n) ≡ b
        → (if a then stops 93 else if b then stops 94 else goes_on (record c { settled = true; cores = n })) ≡ goes_on d → Fits d
    by true e b f q = absurd (cc)
    by false e true f q = absurd (cc)
    by false e false f q = subst Fits (same_draft _ d q) (record {
      few = f;
      fits = λ m r.
          let x = h.fits m (λ t. absurd (let no : false ≡ true = sym e ∙ t in cc)) in
          record { passes_all = x.passes_all; mirrors = same_mirrors m x.mirrors; may = λ t. absurd (cc) };
    })
      where
        same_draft : (a b : Draft) → goes_on a ≡ goes_on b → a ≡ b
        same_draft a b t = ap (draft_in a) t
          where
            draft_in : Draft → LineVerdict Draft → Draft
            draft_in z (goes_on y) = y
            draft_in z (stops fault) = z

        same_mirrors : (m : ℕ) → {v : View} → Mirrors (at m c) v → Mirrors (at m (record c { settled = true; cores = n })) v
        same_mirrors m k = record {
          interfaces = k.interfaces;
          cores = k.cores;
          even = k.even;
          links = k.links;
          many = k.many;
          total = k.total;
          seats = k.seats;
          names = k.names;
          offers = k.offers;
          offered = k.offered;
          few = k.few;
        }
line_fits (add_link a b size) c d h is = set_up_fits (add_link a b size) c d h refl is
line_fits (add_dispatcher core) c d h is = set_up_fits (add_dispatcher core) c d h refl is
line_fits (export name x i) c d h is = set_up_fits (export name x i) c d h refl is
line_fits (bind client i name (by_queues slots)) c d h is = set_up_fits (bind client i name (by_queues slots)) c d h refl is
line_fits (bind client i name (by_ring size)) c d h is = set_up_fits (bind client i name (by_ring size)) c d h refl is
line_fits (bind client i name (by_route route)) c d h is = kept_fits c d (subst (Keeps c) is (route_keeps client i name route c)) h
line_fits (event.call e x) c d h is = kept_fits c d (subst (Keeps c) is call_keeps) h
  where
    call_keeps : Keeps c (takes (event.call e x) c)
    call_keeps = by_given (Keeps c) (fault_at e (call_fault e.side x) c) _ _ (record {
      setup = refl;
      cores = refl;
      settled = refl;
      interfaces = refl;
      links = refl;
      dispatchers = refl;
      seats = refl;
      services = refl;
      offers = refl;
      bindings = used_long e _ c;
    }) (λ n q. tt)
line_fits (event.reply e msg answer) c d h is = kept_fits c d (subst (Keeps c) is rule_keeps) h
  where
    rule_keeps : Keeps c (takes (event.reply e msg answer) c)
    rule_keeps = by_given (Keeps c) (fault_at e (rule_fault e.side msg answer) c) _ _ (record {
      setup = refl;
      cores = refl;
      settled = refl;
      interfaces = refl;
      links = refl;
      dispatchers = refl;
      seats = refl;
      services = refl;
      offers = refl;
      bindings = used_long e _ c;
    }) (λ n q. tt)
line_fits v c d h is = absurd (cc)

lines_fit : (lines : List Event) (d : Draft) → ComeTo lines d → Fits d
lines_fit [] d is = subst Fits (sym is) nothing_fits
lines_fit (v ∷ lines) d (c, before, is) = line_fits v c d (lines_fit lines c before) is

-- so the machine behind the draft is what the draft mirrors
pub mirrored : (lines : List Event) (d : Draft) → ComeTo lines d → Mirrors d (view_of (behind d))
mirrored lines d come = let h = lines_fit lines d come in let x = h.fits d.cores (λ e. refl) in x.mirrors

-- ---- the law

answered : (v : Event) (d : Draft) → FitsAt d.cores d → sets_up v ≡ true → ((step (behind d) v).answer ≡ answer_for (takes v d)) ⊎ IsOneTooMany v d
answered v d h u = by (takes v d) refl (does_agrees v d (behind d) h.mirrors u)
  where
    by : (y : LineVerdict Draft) → takes v d ≡ y → AgreesOr v d y (does v (behind d)) → ((step (behind d) v).answer ≡ answer_for y) ⊎ IsOneTooMany v d
    by (stops fault) q (inl a) = inl (same_answer v (behind d) ∙ a)
    by (stops fault) q (inr more) = inr (record {
      binding = more.binding;
      too_many = more.many;
      refused_as = q ∙ ap (λ n. stops n) more.fault_is;
      named = λ e. more.named (sym (same_answer v (behind d)) ∙ e);
    })
    by (goes_on e) q x = inl (same_answer v (behind d) ∙ x.0)

number_answered : (n : ℕ) (s t : State) (e : Draft) (b : Bool)
    → (settles (set_cores n) (if b then answers s (refused 94) else answers t done)).answer ≡ answer_for (if b then stops 94 else goes_on e)
number_answered n s t e true = refl
number_answered n s t e false = refl

cores_answered : (d : Draft) (n : ℕ) → FitsAt d.cores d → d.settled ≡ false → (step (behind d) (set_cores n)).answer ≡ answer_for (takes (set_cores n) d)
cores_answered d n h q =
    let s = behind d in
    let t = record s { cores = map fresh_core (range_with_len 0 n) } in
    ap (λ b. StepOutcome.answer (settles (set_cores n) (if not b then answers s (refused 93)
    else if nat_lt n 1 || nat_lt most_cores n then answers s (refused 94) else answers t done))) (h.may q)
    ∙ number_answered n s t (record d { settled = true; cores = n }) (nat_lt n 1 || nat_lt most_cores n)
    ∙ ap (λ b. answer_for (if b then stops 93 else if nat_lt n 1 || nat_lt most_cores n then stops 94 else goes_on (record d { settled = true; cores = n }))) (sym q)

pub the_machines : SetUpsAreTheMachines
the_machines lines d come =
    let h = lines_fit lines d come in
    let x = h.fits d.cores (λ e. refl) in
    record { passes = x.passes_all; answered = λ v u. answered v d x u; cores = λ n q. cores_answered d n x q }
