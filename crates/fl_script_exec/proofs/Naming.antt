-- The names that a script has given are those of the machine's things.
use Rattle.std.proofs.Common.{◌≡◌, ◌≢◌, ◌∙◌, inl, inr, refl, sym, ap, ap₂, subst, ℕ, zero, suc, ◌+◌, ◌<◌, ◌≤◌, ◌==◌, cond, Bool, true, false, List, [], ◌∷◌, ◌++◌, length, map, slice_get, Option, Some, None, option_map, length-append, arith}
use Rattle.std.specs.List.{count_by, range_with_len}
use Rattle.std.proofs.lemmas.List.{map-append}
use Rattle.std.proofs.lemmas.List.Sums.{sum_by_push}
use Rattle.std.proofs.lemmas.Bool.{true≢false, false≢true}
use Rattle.std.proofs.lemmas.Bool.Decides.{nat_tests}
use Rattle.fl_base.specs.declared.identity.EndId.{EndId}
use Rattle.fl_interface.specs.Interface.{TheInterface}
use Rattle.fl_value_data.specs.Value.{Datum}
use Rattle.fl_value_data.specs.declared.value.PlanNo.{PlanNo}
use Rattle.fl_model.specs.Given.{changed_at}
use Rattle.fl_model.specs.Events.{DispatcherId, Event, Kind, Answer, add_interface, set_cores, add_link, add_dispatcher, monitor_write, monitor_ack}
use Rattle.fl_model.specs.Events as event
use Rattle.fl_model.specs.Waits.{Dispatcher}
use Rattle.fl_model.specs.Monitors.{Core, fresh_core}
use Rattle.fl_model.specs.State.{State, StepOutcome}
use Rattle.fl_model.specs.Making.{adds_interface, adds_dispatcher, sets_cores}
use Rattle.fl_model.specs.Binding.{binds}
use Rattle.fl_model.specs.Step.{settles_by}
use Rattle.fl_model_laws.proofs.Cases.{either, by_given, each_push}
use Rattle.fl_model_laws.proofs.Places.{changed_other, changed_same}
use Rattle.fl_script_lines.specs.Commands.{EndName, Command, cores, link, disp, export, bind, call, show, write, turn, ack, register, deregister, reply, mwrite, forward, mack}
use Rattle.fl_script_lines.specs.Grammar.{silent, heading, command, unread}
use Rattle.fl_script_lines.specs.Items.{Item, a_line, a_block, open_block}
use Rattle.fl_script_lines.specs.Names.{Names, is_on, place_of, dispatcher_at, end_at, message_at, with_interface, with_dispatcher, with_binding}
use Rattle.fl_model.specs.Events.{is_done}
use Rattle.fl_script_lines.specs.Asked.{Asked, asks, names_after, is_taken, kind_of, asks_end, asks_call, CallAsks, Asks}
use Rattle.fl_check.specs.Text.{TextOutcome, stands_for, text_fault}
use Rattle.fl_script_exec.specs.Transcript.{Script, beginning, Effect, effect_of, block_effect, Does, AllDo, last_of}
use Rattle.fl_script_exec.specs.Standing.{AllDiffer, name_of, message_names, NamesStand, ScriptsNameWhatStands}
use Rattle.fl_model.specs.Laws.{RunsAreSound}
use Rattle.fl_model.specs.SoundPlaces.{ServicesStand}
use Rattle.std.specs.Prelude.{nat_lt}
use Rattle.std.proofs.lemmas.Option.{slice_get_within}
use Rattle.fl_base.specs.Given.{given}
use Rattle.fl_script_exec.proofs.Asking.{begun, all_run}
use Rattle.fl_script_exec.proofs.Once.{differ_push, not_among}
use Rattle.fl_script_exec.proofs.Views
use Rattle.fl_script_exec.proofs.Views.{View, view, Same, Stays, count_in}
use Rattle.fl_script_exec.proofs.Making.{one_interface, one_dispatcher, one_binding, planned, fresh_counts, settled, settled_done, settled_or, interface_made, cores_made, dispatcher_made, binding_made}

-- ---- names, and what they are of

abbrev pub count_at : ℕ → List ℕ → ℕ
count_at core counts = given (slice_get counts core) 0 λ m. m

pub record Fits (n : Names) (v : View) : Type 0 where
  pub interfaces : n.interfaces ≡ map name_of v.interfaces
  pub messages : n.messages ≡ map message_names v.interfaces
  pub dispatchers : length n.dispatchers ≡ length n.placed
  pub placed : (core : ℕ) → count_by (is_on core) n.placed ≡ count_at core v.counts
  pub within : (k : ℕ) (d : DispatcherId) → slice_get n.placed k ≡ Some d → d.place < count_at d.core v.counts
  pub bindings : length n.bindings ≡ length n.spoken
  pub spoken : n.spoken ≡ v.spoken
  pub bare : v.may ≡ true → n.placed ≡ []
  pub interfaces_differ : AllDiffer n.interfaces
  pub dispatchers_differ : AllDiffer n.dispatchers
  pub bindings_differ : AllDiffer n.bindings
  pub places_differ : AllDiffer n.placed
  pub named : (d : DispatcherId) → d.place < count_at d.core v.counts → (k : ℕ) × (slice_get n.placed k ≡ Some d)

fits_same : (n : Names) (v w : View) → w ≡ v → Fits n v → Fits n w
fits_same n v w e h = subst (λ (x : View). Fits n x) (sym e) h

fits_settled : (n : Names) (v : View) → Fits n v → Fits n (settled v)
fits_settled n v h = record {
  interfaces = h.interfaces;
  messages = h.messages;
  dispatchers = h.dispatchers;
  placed = h.placed;
  within = h.within;
  bindings = h.bindings;
  spoken = h.spoken;
  bare = λ e. absurd (false≢true e);
  interfaces_differ = h.interfaces_differ;
  dispatchers_differ = h.dispatchers_differ;
  bindings_differ = h.bindings_differ;
  places_differ = h.places_differ;
  named = h.named;
}

-- ---- what is made

fits_interface : (n : Names) (v : View) (i : TheInterface) (plan : PlanNo) → is_taken i.name n.interfaces ≡ false → Fits n v → Fits (with_interface n i) (one_interface (planned i plan) v)
fits_interface n v i plan new h = record {
  interfaces = ap (λ (x : List (List ℕ)). x ++ i.name ∷ []) h.interfaces ∙ sym (map-append name_of v.interfaces (planned i plan ∷ []));
  messages = ap (λ (x : List (List (List ℕ))). x ++ message_names (planned i plan) ∷ []) h.messages ∙ sym (map-append message_names v.interfaces (planned i plan ∷ []));
  dispatchers = h.dispatchers;
  placed = h.placed;
  within = h.within;
  bindings = h.bindings;
  spoken = h.spoken;
  bare = h.bare;
  interfaces_differ = differ_push n.interfaces i.name (not_among i.name n.interfaces new) h.interfaces_differ;
  dispatchers_differ = h.dispatchers_differ;
  bindings_differ = h.bindings_differ;
  places_differ = h.places_differ;
  named = h.named;
}

push_length : {X Y : Type 0} (xs : List X) (ys : List Y) (x : X) (y : Y) → length xs ≡ length ys → length (xs ++ x ∷ []) ≡ length (ys ++ y ∷ [])
push_length xs ys x y e = length-append xs (x ∷ []) ∙ (ap (λ m. m + 1) e ∙ sym (length-append ys (y ∷ [])))

fits_binding : (n : Names) (v : View) (name : List ℕ) (i : ℕ) → is_taken name n.bindings ≡ false → Fits n v → Fits (with_binding n name i) (one_binding i v)
fits_binding n v name i new h = record {
  interfaces = h.interfaces;
  messages = h.messages;
  dispatchers = h.dispatchers;
  placed = h.placed;
  within = h.within;
  bindings = push_length n.bindings n.spoken name i h.bindings;
  spoken = ap (λ (x : List ℕ). x ++ i ∷ []) h.spoken;
  bare = h.bare;
  interfaces_differ = h.interfaces_differ;
  dispatchers_differ = h.dispatchers_differ;
  bindings_differ = differ_push n.bindings name (not_among name n.bindings new) h.bindings_differ;
  places_differ = h.places_differ;
  named = h.named;
}

-- one dispatcher more on a core
slot : (counts : List ℕ) (core : ℕ) → core < length counts → slice_get counts core ≡ Some (count_at core counts)
slot [] core h = absurd (omega (arith, h))
slot (m ∷ counts) zero h = refl
slot (m ∷ counts) (suc core) h = slot counts core (omega (arith, h))

count_here : (counts : List ℕ) (core : ℕ) → core < length counts → count_at core (changed_at core (λ m. m + 1) counts) ≡ count_at core counts + 1
count_here counts core h =
    ap (λ (o : Option ℕ). given o 0 λ m. m) (changed_same counts core (λ m. m + 1) ∙ ap (option_map (λ m. m + 1)) (slot counts core h))

count_elsewhere : (counts : List ℕ) (core c : ℕ) → c ≢ core → count_at c (changed_at core (λ m. m + 1) counts) ≡ count_at c counts
count_elsewhere counts core c h = ap (λ (o : Option ℕ). given o 0 λ m. m) (changed_other counts core c (λ m. m + 1) h)

abbrev pub new_id : Names → ℕ → DispatcherId
new_id n core = record { core = core; place = count_by (is_on core) n.placed }

placed_by : (n : Names) (counts : List ℕ) (core c : ℕ) (t : Bool) → (core == c) ≡ t → core < length counts → count_by (is_on c) n.placed ≡ count_at c counts
    → count_by (is_on c) n.placed + cond (core == c) 1 0 ≡ count_at c (changed_at core (λ m. m + 1) counts)
placed_by n counts core c true e there h =
    let is : core ≡ c = grind (arith, nat_tests, e) in
    let here = count_here counts core there in
    let more : count_by (is_on c) n.placed + 1 ≡ count_at c counts + 1 = ap (λ m. m + 1) h in
    rw e (more ∙ (ap (λ x. count_at x counts + 1) (sym is) ∙ (sym here ∙ ap (λ x. count_at x (changed_at core (λ m. m + 1) counts)) is)))
placed_by n counts core c false e there h =
    let isnt : c ≢ core = λ q. let same : core ≡ c = sym q in absurd (grind (arith, nat_tests, e, same)) in
    let none : count_by (is_on c) n.placed + 0 ≡ count_by (is_on c) n.placed = omega arith in
    rw e (none ∙ (h ∙ sym (count_elsewhere counts core c isnt)))

grows_by : (counts : List ℕ) (core c : ℕ) (t : Bool) → (core == c) ≡ t → core < length counts → (m : ℕ) → m < count_at c counts
    → m < count_at c (changed_at core (λ m. m + 1) counts)
grows_by counts core c true e there m less =
    let is : core ≡ c = grind (arith, nat_tests, e) in
    let here : count_at c (changed_at core (λ m. m + 1) counts) ≡ count_at c counts + 1
    = subst (λ x. count_at x (changed_at core (λ m. m + 1) counts) ≡ count_at x counts + 1) is (count_here counts core there) in
    omega (arith, less, here)
grows_by counts core c false e there m less =
    let isnt : c ≢ core = λ q. let same : core ≡ c = sym q in absurd (grind (arith, nat_tests, e, same)) in
    let same = count_elsewhere counts core c isnt in
    omega (arith, less, same)

-- its place is new, since those before it are lower
fresh_place : (n : Names) (v : View) (core : ℕ) → ((c : ℕ) → count_by (is_on c) n.placed ≡ count_at c v.counts)
    → ((k : ℕ) (d : DispatcherId) → slice_get n.placed k ≡ Some d → d.place < count_at d.core v.counts)
    → (j : ℕ) → slice_get n.placed j ≡ Some (new_id n core) → ⊥
fresh_place n v core placed within j e =
    let less = within j (new_id n core) e in
    let as_many = placed core in
    omega (arith, less, as_many)

behind : {X : Type 0} (xs : List X) (x : X) → slice_get (xs ++ x ∷ []) (length xs) ≡ Some x
behind [] x = refl
behind (z ∷ xs) x = behind xs x

before : {X : Type 0} (xs : List X) (x y : X) (k : ℕ) → slice_get xs k ≡ Some y → slice_get (xs ++ x ∷ []) k ≡ Some y
before [] x y k e = absurd (cc)
before (z ∷ xs) x y zero e = e
before (z ∷ xs) x y (suc k) e = before xs x y k e

abbrev the_id : ℕ → ℕ → DispatcherId
the_id core place = record { core = core; place = place }

same_id : (x y : DispatcherId) → x.core ≡ y.core → x.place ≡ y.place → x ≡ y
same_id x y a b = ap₂ the_id a b

named_by : (n : Names) (v : View) (core : ℕ) (d : DispatcherId) (t : Bool) → (core == d.core) ≡ t → core < length v.counts
    → count_by (is_on core) n.placed ≡ count_at core v.counts
    → ((d : DispatcherId) → d.place < count_at d.core v.counts → (k : ℕ) × (slice_get n.placed k ≡ Some d))
    → d.place < count_at d.core (changed_at core (λ m. m + 1) v.counts) → (k : ℕ) × (slice_get (n.placed ++ new_id n core ∷ []) k ≡ Some d)
named_by n v core d false e there as_many each less =
    let isnt : d.core ≢ core = λ q. let same : core ≡ d.core = sym q in absurd (grind (arith, nat_tests, e, same)) in
    let (k, q) = each d (subst (λ m. d.place < m) (count_elsewhere v.counts core d.core isnt) less) in
    (k, before n.placed (new_id n core) d k q)
named_by n v core d true e there as_many each less = old_or_new (nat_lt d.place (count_at d.core v.counts)) refl
  where
    is : core ≡ d.core
    is = grind (arith, nat_tests, e)

    old_or_new : (b : Bool) → nat_lt d.place (count_at d.core v.counts) ≡ b → (k : ℕ) × (slice_get (n.placed ++ new_id n core ∷ []) k ≡ Some d)
    old_or_new true t =
        let (k, q) = each d (grind (arith, nat_tests, t)) in
        (k, before n.placed (new_id n core) d k q)
    old_or_new false t =
        let here : count_at d.core (changed_at core (λ m. m + 1) v.counts) ≡ count_at d.core v.counts + 1
        = subst (λ x. count_at x (changed_at core (λ m. m + 1) v.counts) ≡ count_at x v.counts + 1) is (count_here v.counts core there) in
        let most : count_at d.core v.counts ≤ d.place = grind (arith, nat_tests, t) in
        let many : count_at core v.counts ≡ count_at d.core v.counts = ap (λ x. count_at x v.counts) is in
        let place : count_by (is_on core) n.placed ≡ d.place = omega (arith, as_many, many, most, here, less) in (
          length n.placed,
          subst (λ (x : DispatcherId). slice_get (n.placed ++ new_id n core ∷ []) (length n.placed) ≡ Some x)
              (same_id (new_id n core) d is place) (behind n.placed (new_id n core)),
        )

fits_dispatcher : (n : Names) (v : View) (name : List ℕ) (core : ℕ) → is_taken name n.dispatchers ≡ false → core < length v.counts → Fits n v
    → Fits (with_dispatcher n name core) (settled (one_dispatcher core v))
fits_dispatcher n v name core new there h = record {
  interfaces = h.interfaces;
  messages = h.messages;
  dispatchers = push_length n.dispatchers n.placed name (new_id n core) h.dispatchers;
  placed = λ c. sum_by_push (λ (d : DispatcherId). cond (is_on c d) 1 0) n.placed (new_id n core)
      ∙ placed_by n v.counts core c (core == c) refl there (h.placed c);
  within = each_push (λ (d : DispatcherId). d.place < count_at d.core (changed_at core (λ m. m + 1) v.counts)) n.placed (new_id n core)
      (λ k d q. grows_by v.counts core d.core (core == d.core) refl there d.place (h.within k d q))
      (let here = count_here v.counts core there in let as_many = h.placed core in omega (arith, here, as_many));
  bindings = h.bindings;
  spoken = h.spoken;
  bare = λ e. absurd (false≢true e);
  interfaces_differ = h.interfaces_differ;
  dispatchers_differ = differ_push n.dispatchers name (not_among name n.dispatchers new) h.dispatchers_differ;
  bindings_differ = h.bindings_differ;
  places_differ = differ_push n.placed (new_id n core) (fresh_place n v core h.placed h.within) h.places_differ;
  named = λ d less. named_by n v core d (core == d.core) refl there (h.placed core) h.named less;
}

-- the number of cores is set before there are dispatchers
fresh_none : (xs : List ℕ) (core : ℕ) → count_at core (map count_in (map fresh_core xs)) ≡ 0
fresh_none [] core = refl
fresh_none (x ∷ xs) zero = refl
fresh_none (x ∷ xs) (suc core) = fresh_none xs core

none_there : (ids : List DispatcherId) (k : ℕ) (d : DispatcherId) → ids ≡ [] → slice_get ids k ≡ Some d → ⊥
none_there [] k d e q = cc
none_there (x ∷ ids) k d e q = cc

fits_cores : (n : Names) (v : View) (k : ℕ) → v.may ≡ true → Fits n v → Fits n (record v { counts = fresh_counts k })
fits_cores n v k may h = record {
  interfaces = h.interfaces;
  messages = h.messages;
  dispatchers = h.dispatchers;
  placed = λ core. ap (λ (x : List DispatcherId). count_by (is_on core) x) (h.bare may) ∙ sym (fresh_none (range_with_len 0 k) core);
  within = λ j d q. absurd (none_there n.placed j d (h.bare may) q);
  bindings = h.bindings;
  spoken = h.spoken;
  bare = h.bare;
  interfaces_differ = h.interfaces_differ;
  dispatchers_differ = h.dispatchers_differ;
  bindings_differ = h.bindings_differ;
  places_differ = h.places_differ;
  named = λ d less. let none = fresh_none (range_with_len 0 k) d.core in absurd (omega (arith, less, none));
}

-- ---- events

abbrev pub After : Script → Type 0
After s = Fits s.names (view s.state)

fits_after : (n : Names) (a : Answer) (s : State) → Fits n (view s) → Fits n (view (settles_by a s))
fits_after n a s h = elim (settled_or a s) [ inl e ↦ fits_same n (view s) (view (settles_by a s)) e h | inr e ↦ fits_same n (settled (view s)) (view (settles_by a s)) e (fits_settled n (view s) h) ]

-- one that gives no name
unnamed : (n : Names) (a : Answer) (v : View) → Fits n v → Fits (names_after n n a) v
unnamed n a v h = either (λ (m : Names). Fits m v) (is_done a) n n (λ t. h) (λ t. h)

plain : (n : Names) (s : State) (o : StepOutcome) → Stays s o → Fits n (view s) → Fits (names_after n n o.answer) (view (settles_by o.answer o.state))
plain n s o e h = unnamed n o.answer (view (settles_by o.answer o.state)) (fits_after n o.answer o.state (fits_same n (view s) (view o.state) e h))

-- one that gives names, if it is answered `ok`
named : (n new : Names) (a : Answer) (v : View) → (is_done a ≡ true → Fits new v) → (is_done a ≡ false → Fits n v) → Fits (names_after n new a) v
named n new a v f g = either (λ (m : Names). Fits m v) (is_done a) new n f g

opposite : {b : Bool} {X : Type 0} → b ≡ true → b ≡ false → X
opposite t f = absurd (true≢false (sym t ∙ f))

interface_after : (s : Script) (i : TheInterface) (plan : PlanNo) → is_taken i.name s.names.interfaces ≡ false → After s → After (effect_of s (asks (add_interface i plan) (with_interface s.names i))).after
interface_after s i plan new h =
    let o = adds_interface i plan s.state in
    elim (interface_made i plan s.state) [
      | inl p ↦ named s.names (with_interface s.names i) o.answer (view o.state)
          (λ t. fits_same _ _ (view o.state) p.1 (fits_interface s.names (view s.state) i plan new h)) (λ f. opposite p.0 f)
      | inr p ↦ named s.names (with_interface s.names i) o.answer (view o.state) (λ t. opposite t p.0) (λ f. fits_same s.names _ (view o.state) p.1 h)
    ]

cores_after : (s : Script) (k : ℕ) → After s → After (effect_of s (asks (set_cores k) s.names)).after
cores_after s k h =
    let o = sets_cores k s.state in
    elim (cores_made k s.state) [
      | inl p ↦ unnamed s.names o.answer _ (fits_after s.names o.answer o.state (fits_same s.names _ (view o.state) p.2 (fits_cores s.names (view s.state) k p.1 h)))
      | inr p ↦ plain s.names s.state o p.1 h
    ]

pub map_length : {X Y : Type 0} (f : X → Y) (xs : List X) → length (map f xs) ≡ length xs
map_length f [] = refl
map_length f (x ∷ xs) = ap (λ m. suc m) (map_length f xs)

dispatcher_after : (s : Script) (name : List ℕ) (core : ℕ) → is_taken name s.names.dispatchers ≡ false → After s → After (effect_of s (asks (add_dispatcher core) (with_dispatcher s.names name core))).after
dispatcher_after s name core new h =
    let o = adds_dispatcher core s.state in
    elim (dispatcher_made core s.state) [
      | inl p ↦ named s.names (with_dispatcher s.names name core) o.answer (view (settles_by o.answer o.state))
          (λ t. fits_same _ _ _ (settled_done o.answer o.state t ∙ ap settled p.2)
          (fits_dispatcher s.names (view s.state) name core new (let n = map_length count_in s.state.cores in let less = p.1 in omega (arith, n, less)) h))
          (λ f. opposite p.0 f)
      | inr p ↦ named s.names (with_dispatcher s.names name core) o.answer (view (settles_by o.answer o.state)) (λ t. opposite t p.0)
          (λ f. fits_after s.names o.answer o.state (fits_same s.names _ (view o.state) p.1 h))
    ]

binding_after : (s : Script) (p : List ℕ) (d : DispatcherId) (i : ℕ) (service : List ℕ) (kind : Kind) → is_taken p s.names.bindings ≡ false → After s
    → After (effect_of s (asks (event.bind d i service kind) (with_binding s.names p i))).after
binding_after s name d i service kind new h =
    let o = binds d i service kind s.state in
    elim (binding_made d i service kind s.state) [
      | inl p ↦ named s.names (with_binding s.names name i) o.answer (view (settles_by o.answer o.state))
          (λ t. fits_after _ o.answer o.state (fits_same _ _ (view o.state) p.1 (fits_binding s.names (view s.state) name i new h)))
          (λ f. opposite p.0 f)
      | inr p ↦ named s.names (with_binding s.names name i) o.answer (view (settles_by o.answer o.state)) (λ t. opposite t p.0)
          (λ f. fits_after s.names o.answer o.state (fits_same s.names _ (view o.state) p.1 h))
    ]

-- ---- commands

abbrev pub Done : Script → Asked → Type 0
Done s asked = After (effect_of s asked).after

end_after : (s : Script) (f : EndId → Event) (e : EndName) → After s → ((x : EndId) → Done s (asks (f x) s.names)) → Done s (asks_end s.names f e)
end_after s f e h each = by_given (Done s) (end_at s.names e) _ _ h (λ x q. each x)

call_after : (s : Script) (e : EndName) (name : List ℕ) (args : List Datum) → After s → Done s (asks_call s.names e name args)
call_after s e name args h =
    by_given (Done s) (end_at s.names e) _ _ h
    (λ x q. by_given (Done s) (message_at s.names x name) _ _ h
    (λ m r. plain s.names s.state _ (Views.calls_stay x (record { msg = m; args = args }) s.state) h))

called_after : (s : Script) (e : EndName) (text : List ℕ) (asked : Asked) → CallAsks s.names e text asked → After s → Done s asked
called_after s e text asked (inl (name, args, spelled, e2)) h = subst (Done s) (sym e2) (call_after s e name args h)
called_after s e text asked (inr (none, e2)) h = subst (Done s) (sym e2) h

command_after : (s : Script) (c : Command) (asked : Asked) → Asks s.names c asked → After s → Done s asked
command_after s (cores k) asked e h = subst (Done s) (sym e) (cores_after s k h)
command_after s (link a b slots) asked e h = subst (Done s) (sym e) (plain s.names s.state _ (Views.links_stay a b slots s.state) h)
command_after s (disp name core) asked e h =
    subst (Done s) (sym e) (either (Done s) (is_taken name s.names.dispatchers) _ _ (λ q. h) (λ q. dispatcher_after s name core q h))
command_after s (export service d i) asked e h =
    subst (Done s) (sym e)
    (by_given (Done s) (dispatcher_at s.names d) _ _ h
    (λ x q. by_given (Done s) (place_of i s.names.interfaces) _ _ h (λ y r. plain s.names s.state _ (Views.exports_stay service x y s.state) h)))
command_after s (bind p d i service back) asked e h =
    subst (Done s) (sym e)
    (either (Done s) (is_taken p s.names.bindings) _ _ (λ q. h)
    (λ q. by_given (Done s) (dispatcher_at s.names d) _ _ h
    (λ x r. by_given (Done s) (place_of i s.names.interfaces) _ _ h (λ y t. binding_after s p x y service (kind_of back) q h))))
command_after s (call e text) asked a h = called_after s e text asked a h
command_after s (show e) asked a h = subst (Done s) (sym a) (end_after s event.show e h (λ x. plain s.names s.state _ (Views.shows_stay x s.state) h))
command_after s (write e) asked a h = subst (Done s) (sym a) (end_after s event.write e h (λ x. plain s.names s.state _ (Views.writes_stay x s.state) h))
command_after s (turn d) asked a h =
    subst (Done s) (sym a) (by_given (Done s) (dispatcher_at s.names d) _ _ h (λ x q. plain s.names s.state _ (Views.turns_stay x s.state) h))
command_after s (ack e) asked a h = subst (Done s) (sym a) (end_after s event.ack e h (λ x. plain s.names s.state _ (Views.acknowledges_stay x s.state) h))
command_after s (register e) asked a h = subst (Done s) (sym a) (end_after s event.register e h (λ x. plain s.names s.state _ (Views.registers_stay x s.state) h))
command_after s (deregister e) asked a h =
    subst (Done s) (sym a) (end_after s event.deregister e h (λ x. plain s.names s.state _ (Views.deregisters_stay x s.state) h))
command_after s (reply e message answer) asked a h =
    subst (Done s) (sym a)
    (by_given (Done s) (end_at s.names e) _ _ h
    (λ x q. by_given (Done s) (message_at s.names x message) _ _ h
    (λ m r. by_given (Done s) (message_at s.names x answer) _ _ h (λ k t. plain s.names s.state _ (Views.rules_stay x m k s.state) h))))
command_after s (mwrite core neighbour) asked a h = subst (Done s) (sym a) (plain s.names s.state _ (Views.monitor_writes_stay core neighbour s.state) h)
command_after s (forward core neighbour) asked a h = subst (Done s) (sym a) (plain s.names s.state _ (Views.forwards_stay core neighbour s.state) h)
command_after s (mack core neighbour) asked a h = subst (Done s) (sym a) (plain s.names s.state _ (Views.monitor_acknowledges_stay core neighbour s.state) h)

-- ---- items, and the script

block_after : (s : Script) (plan : PlanNo) (outcome : TextOutcome) → After s → After (block_effect s plan outcome).after
block_after s plan (text_fault number offset) h = h
block_after s plan (stands_for i) h = either (Done s) (is_taken i.name s.names.interfaces) _ _ (λ q. h) (λ q. interface_after s i plan q h)

at_effect : (x y : Effect) → x ≡ y → After y.after → After x.after
at_effect x y e h = subst (λ (z : Effect). After z.after) (sym e) h

pub item_after : (s : Script) (item : Item) (effect : Effect) → Does s item effect → After s → After effect.after
item_after s (a_line silent) effect e h = at_effect effect _ e h
item_after s (a_line (command c)) effect (asked, a, e) h = at_effect effect (effect_of s asked) e (command_after s c asked a h)
item_after s (a_line unread) effect e h = at_effect effect _ e h
item_after s (a_line (heading plan)) effect e h = at_effect effect _ e h
item_after s open_block effect e h = at_effect effect _ e h
item_after s (a_block plan text) effect (outcome, m, e) h = at_effect effect (block_effect s plan outcome) e (block_after s plan outcome h)

all_after : (s : Script) (items : List Item) (effects : List Effect) → AllDo s items effects → After s → After (last_of s effects)
all_after s [] effects e h = subst (λ (es : List Effect). After (last_of s es)) (sym e) h
all_after s (item ∷ items) effects (first, others, d, rest, e) h =
    subst (λ (es : List Effect). After (last_of s es)) (sym e) (all_after first.after items others rest (item_after s item first d h))

first_counts : (core : ℕ) → 0 ≡ count_at core (0 ∷ [])
first_counts zero = refl
first_counts (suc core) = refl

pub fits_first : After beginning
fits_first = record {
  interfaces = refl;
  messages = refl;
  dispatchers = refl;
  placed = first_counts;
  within = λ k d q. absurd (none_there [] k d refl q);
  bindings = refl;
  spoken = refl;
  bare = λ e. refl;
  interfaces_differ = λ j k x a b. absurd (cc);
  dispatchers_differ = λ j k x a b. absurd (cc);
  bindings_differ = λ j k x a b. absurd (cc);
  places_differ = λ j k x a b. absurd (cc);
  named = λ d less. let none = first_counts d.core in absurd (omega (arith, less, none));
}

-- ---- what that says of the state

pub one_of : {X : Type 0} (xs : List X) (n : ℕ) → n < length xs → (x : X) × (slice_get xs n ≡ Some x)
one_of [] n h = absurd (omega (arith, h))
one_of (x ∷ xs) zero h = (x, refl)
one_of (x ∷ xs) (suc n) h = one_of xs n (omega (arith, h))

pub dispatcher_there : (ks : List Core) (core place : ℕ) → place < count_at core (map count_in ks)
    → (x : Dispatcher) × ((given (slice_get ks core) None λ k. slice_get k.dispatchers place) ≡ Some x)
dispatcher_there [] core place h = absurd (omega (arith, h))
dispatcher_there (k ∷ ks) zero place h = one_of k.dispatchers place h
dispatcher_there (k ∷ ks) (suc core) place h = dispatcher_there ks core place h

-- a dispatcher that is there is one of its core's
place_there : (ks : List Core) (core place : ℕ) (x : Dispatcher) → (given (slice_get ks core) None λ k. slice_get k.dispatchers place) ≡ Some x
    → place < count_at core (map count_in ks)
place_there [] core place x e = absurd (cc)
place_there (k ∷ ks) zero place x e = slice_get_within k.dispatchers place x e
place_there (k ∷ ks) (suc core) place x e = place_there ks core place x e

stands : (n : Names) (s : State) → Fits n (view s) → ServicesStand s → NamesStand n s
stands n s h services = record {
  interfaces = h.interfaces;
  messages = h.messages;
  interfaces_differ = h.interfaces_differ;
  dispatchers = h.dispatchers;
  dispatchers_differ = h.dispatchers_differ;
  places_differ = h.places_differ;
  there = λ k d q. dispatcher_there s.cores d.core d.place (h.within k d q);
  named = λ d x q. h.named d (place_there s.cores d.core d.place x q);
  bindings = h.bindings;
  bindings_differ = h.bindings_differ;
  spoken = h.spoken;
  services = services;
}

pub names_stand : RunsAreSound → ScriptsNameWhatStands
names_stand sound bytes done b =
    let (firsts, h) = begun bytes done b in
    let (vs, e, r) = all_run beginning firsts done h in
    let s = last_of beginning done in
    stands s.names s.state (all_after beginning firsts done h fits_first) (subst ServicesStand (sym r) (sound vs).services)
