-- A run from a world of so many cores is a run from the start in which their number is set before anything but interfaces is made: the
-- same bindings, the same calls asked for and handled, the same replies due. Until the number of cores stands there is nothing but
-- cores and interfaces, so all other events are refused.
use Rattle.std.proofs.Common.{◌≡◌, refl, sym, ◌∙◌, ap, subst, ℕ, ◌+◌, ◌≤◌, ◌||◌, ◌&&◌, ◌==◌, nat_le, nat_lt, not}
use Rattle.std.proofs.Common.{Bool, true, false, if◌then◌else◌, List, [], ◌∷◌, ◌++◌, length, map, slice_get, Option, Some, None}
use Rattle.std.specs.List.{range_with_len}
use Rattle.fl_base.specs.declared.identity.EndId.{EndId}
use Rattle.fl_base.specs.Given.{given}
use Rattle.fl_base.specs.Numbered.{most_cores}
use Rattle.fl_interface.specs.Interface.{TheInterface}
use Rattle.fl_value_data.specs.Value.{TheCall}
use Rattle.fl_value_data.specs.declared.value.PlanNo.{PlanNo}
use Rattle.fl_model.specs.Events.{DispatcherId, Event, add_interface, set_cores, add_link, add_dispatcher, export, bind}
use Rattle.fl_model.specs.Events.{call, show, write, turn, ack, register, deregister, reply, monitor_write, forward, monitor_ack}
use Rattle.fl_model.specs.Events.{done, refused}
use Rattle.fl_model.specs.Calls.{Planned}
use Rattle.fl_model.specs.Waits.{Dispatcher}
use Rattle.fl_model.specs.Monitors.{Link, fresh_core, link_to}
use Rattle.fl_model.specs.State.{State, StepOutcome, answers, core_of, dispatcher_of, link_between}
use Rattle.fl_model.specs.Making.{has_interface, most_interfaces, is_core, has_link, is_ring_size, with_new_link}
use Rattle.fl_model.specs.Making.{count_dispatchers, most_dispatchers, with_dispatcher}
use Rattle.fl_model.specs.State.{start, change_core}
use Rattle.fl_model.specs.Worlds.{start_with}
use Rattle.fl_model.specs.Forwarding.{LinkEnd, link_end}
use Rattle.fl_model.specs.Step.{settles, step}
use Rattle.fl_model.specs.Runs.{run, reached, accepted_in, handled_in, calls_accepted, calls_handled}
use Rattle.fl_model.specs.Laws.{replied_in, replies_due}
use Rattle.fl_model.specs.SoundLists.{IsBare}
use Rattle.std.proofs.lemmas.Bool.Decides.{nat_tests}
use Rattle.std.proofs.Common.{arith}
use Rattle.fl_model_laws.proofs.Cases.{by_given}
use Rattle.fl_model_laws.proofs.Start.{world_is_sound}

-- ---- two runs that are alike

pub record Alike (z : State) (vs : List Event) (y : State) (ws : List Event) : Type 0 where
  pub bindings : (reached z vs).bindings ≡ (reached y ws).bindings
  pub interfaces : (reached z vs).interfaces ≡ (reached y ws).interfaces
  pub handled : (e : EndId) → calls_handled e (run z vs) ≡ calls_handled e (run y ws)
  pub accepted : (e : EndId) → calls_accepted e (run z vs) ≡ calls_accepted e (run y ws)
  pub due : (e : EndId) → replies_due e z vs ≡ replies_due e y ws

same_run : (z : State) (vs : List Event) → Alike z vs z vs
same_run z vs = record { bindings = refl; interfaces = refl; handled = λ e. refl; accepted = λ e. refl; due = λ e. refl }

turned : (z y : State) (vs ws : List Event) → Alike z vs y ws → Alike y ws z vs
turned z y vs ws h = record {
  bindings = sym h.bindings;
  interfaces = sym h.interfaces;
  handled = λ e. sym (h.handled e);
  accepted = λ e. sym (h.accepted e);
  due = λ e. sym (h.due e);
}

-- an event that came to this, in which no end has a call accepted or handled, or a reply due
record Quiet (v : Event) (z : State) (o : StepOutcome) : Type 0 where
  is : step z v ≡ o
  handled : (e : EndId) → handled_in e o.answer ≡ []
  accepted : (e : EndId) → accepted_in e v o.answer ≡ []
  due : (e : EndId) → replied_in e z o.answer ≡ []

-- such an event may come before
after_quiet : (v : Event) (vs ws : List Event) (z y : State) (o : StepOutcome) → Quiet v z o → Alike o.state vs y ws → Alike z (v ∷ vs) y ws
after_quiet v vs ws z y o q h = record {
  bindings = ap (λ (p : StepOutcome). (reached p.state vs).bindings) q.is ∙ h.bindings;
  interfaces = ap (λ (p : StepOutcome). (reached p.state vs).interfaces) q.is ∙ h.interfaces;
  handled = λ e.
      ap (λ (p : StepOutcome). handled_in e p.answer ++ calls_handled e (run p.state vs)) q.is
      ∙ ap (λ (cs : List TheCall). cs ++ calls_handled e (run o.state vs)) (q.handled e) ∙ h.handled e;
  accepted = λ e.
      ap (λ (p : StepOutcome). accepted_in e v p.answer ++ calls_accepted e (run p.state vs)) q.is
      ∙ ap (λ (cs : List TheCall). cs ++ calls_accepted e (run o.state vs)) (q.accepted e) ∙ h.accepted e;
  due = λ e.
      ap (λ (p : StepOutcome). replied_in e z p.answer ++ replies_due e p.state vs) q.is
      ∙ ap (λ (cs : List TheCall). cs ++ replies_due e o.state vs) (q.due e) ∙ h.due e;
}

-- in both runs
after_both : (v w : Event) (vs ws : List Event) (z y : State) (o p : StepOutcome) → Quiet v z o → Quiet w y p → Alike o.state vs p.state ws
    → Alike z (v ∷ vs) y (w ∷ ws)
after_both v w vs ws z y o p q r h =
    after_quiet v vs (w ∷ ws) z y o q
    (turned y o.state (w ∷ ws) vs (after_quiet w ws vs y o.state p r (turned o.state p.state vs ws h)))

none_accepted : (e : EndId) (v : Event) (fault : ℕ) → accepted_in e v (refused fault) ≡ []
none_accepted e (call f c) fault = refl
none_accepted e v fault = refl

refusal_quiet : (v : Event) (z : State) (fault : ℕ) → step z v ≡ answers z (refused fault) → Quiet v z (answers z (refused fault))
refusal_quiet v z fault q = record { is = q; handled = λ e. refl; accepted = λ e. none_accepted e v fault; due = λ e. refl }

-- ---- before anything but interfaces is made

abbrev bare : ℕ → List Planned → State
bare n is = record {
  may_set_cores = true;
  cores = map fresh_core (range_with_len 0 n);
  rings = [];
  interfaces = is;
  services = [];
  bindings = [];
}

-- the same, once the number of cores stands
abbrev set : ℕ → List Planned → State
set n is = record (bare n is) { may_set_cores = false }

not_less : (a b : ℕ) → b ≤ a → nat_lt a b ≡ false
not_less a b h = grind (arith, nat_tests, h)

-- an event by which something is made
made_quiet : (v : Event) (z t : State) → step z v ≡ answers t done → ((e : EndId) → accepted_in e v done ≡ []) → Quiet v z (answers t done)
made_quiet v z t q r = record { is = q; handled = λ e. refl; accepted = r; due = λ e. refl }

cores_quiet : (k m : ℕ) (is : List Planned) → (nat_lt m 1 || nat_lt most_cores m) ≡ false
    → Quiet (set_cores m) (bare k is) (answers (set m is) done)
cores_quiet k m is q =
    made_quiet (set_cores m) (bare k is) (set m is)
    (ap (λ (b : Bool). settles (set_cores m) (if b then answers (bare k is) (refused 94) else answers (bare m is) done)) q) (λ e. refl)

-- ---- two tests

two_tests : {A : Type 0} {R : Type 0} (t u : Bool) (x y w : A) → ((if t then x else if u then y else w) ≡ x → R)
    → ((if t then x else if u then y else w) ≡ y → R) → (t ≡ false → u ≡ false → R) → R
two_tests true u x y w f g h = f refl
two_tests false true x y w f g h = g refl
two_tests false false x y w f g h = h refl refl

passed_both : {A : Type 0} (t u : Bool) (x y w : A) → t ≡ false → u ≡ false → (if t then x else if u then y else w) ≡ w
passed_both t u x y w q r = ap (λ (b : Bool). if b then x else if u then y else w) q ∙ ap (λ (b : Bool). if b then y else w) r

module _ (n : ℕ) (some : 1 ≤ n) (few : n ≤ most_cores) where
  is_bare : IsBare (bare n [])
  is_bare = (world_is_sound n some few).bare refl

  no_dispatcher : (is : List Planned) (d : DispatcherId) (x : Dispatcher) → dispatcher_of (bare n is) d ≡ Some x → ⊥
  no_dispatcher is d x =
      by_given (λ (o : Option Dispatcher). o ≡ Some x → ⊥) (core_of (bare n is) d.core) None _ (λ h. absurd (cc))
      (λ k q. subst (λ (ds : List Dispatcher). slice_get ds d.place ≡ Some x → ⊥) (sym (is_bare.dispatchers d.core k q)) (λ h. absurd (cc)))

  no_link : (is : List Planned) (a b : ℕ) (x : Link) → link_between (bare n is) a b ≡ Some x → ⊥
  no_link is a b x =
      by_given (λ (o : Option Link). o ≡ Some x → ⊥) (core_of (bare n is) a) None _ (λ h. absurd (cc))
      (λ k q. by_given (λ (o : Option Link). o ≡ Some x → ⊥) (link_to b k) None _ (λ h. absurd (cc))
      (λ l r. subst (λ (ls : List Link). slice_get ls l ≡ Some x → ⊥) (sym (is_bare.links a k q)) (λ h. absurd (cc))))

  no_link_end : (is : List Planned) (a b : ℕ) (x : LinkEnd) → link_end a b (bare n is) ≡ Some x → ⊥
  no_link_end is a b x =
      by_given (λ (o : Option LinkEnd). o ≡ Some x → ⊥) (core_of (bare n is) a) None _ (λ h. absurd (cc))
      (λ k q. by_given (λ (o : Option LinkEnd). o ≡ Some x → ⊥) (link_to b k) None _ (λ h. absurd (cc))
      (λ l r.
      subst
      (λ (ls : List Link). (given (slice_get ls l) None λ link. Some (let e : LinkEnd = record { core = a; neighbour = b; link = l; ring = link.ring } in e)) ≡ Some x → ⊥)
      (sym (is_bare.links a k q)) (λ h. absurd (cc))))

  -- a run from there on, and one from the start
  abbrev Found : List Planned → List Event → Type 0
  Found is vs = (ws : List Event) × Alike (bare n is) vs (bare 1 is) ws

  abbrev Follows : List Event → Type 0
  Follows vs = (is : List Planned) → Found is vs

  -- a refused event is left out
  skipped : (v : Event) (vs : List Event) (is : List Planned) (fault : ℕ) → Follows vs → step (bare n is) v ≡ answers (bare n is) (refused fault)
      → Found is (v ∷ vs)
  skipped v vs is fault h q =
      let x = h is in
      (x.0, after_quiet v vs x.0 (bare n is) (bare 1 is) (answers (bare n is) (refused fault)) (refusal_quiet v (bare n is) fault q) x.1)

  within_limits : (nat_lt n 1 || nat_lt most_cores n) ≡ false
  within_limits = ap (λ (b : Bool). b || nat_lt most_cores n) (not_less n 1 some) ∙ not_less most_cores n few

  -- before one that makes something, the number of cores is set
  set_first : (v : Event) (vs : List Event) (is : List Planned) (o : StepOutcome) → Quiet v (bare n is) o → Quiet v (set n is) o
      → Found is (v ∷ vs)
  set_first v vs is o q r = (
    set_cores n ∷ v ∷ vs,
    turned (bare 1 is) (bare n is) (set_cores n ∷ v ∷ vs) (v ∷ vs)
        (after_quiet (set_cores n) (v ∷ vs) (v ∷ vs) (bare 1 is) (bare n is) (answers (set n is) done) (cores_quiet 1 n is within_limits)
        (after_both v v vs vs (set n is) (bare n is) o o r q (same_run o.state vs))),
  )

  -- ---- event by event

  with_interface_found : (i : TheInterface) (plan : PlanNo) (vs : List Event) (is : List Planned) → Follows vs → Found is (add_interface i plan ∷ vs)
  with_interface_found i plan vs is h =
      let t : Bool = has_interface i.name (bare n is) in
      let u : Bool = nat_le most_interfaces (length is) in
      let more : List Planned = is ++ record { interface = i; plan = plan } ∷ [] in
      two_tests t u (answers (bare n is) (refused 92)) (answers (bare n is) (refused 94)) (answers (bare n more) done)
      (λ q. skipped (add_interface i plan) vs is 92 h q) (λ q. skipped (add_interface i plan) vs is 94 h q)
      (λ q r.
      let x = h more in (
        add_interface i plan ∷ x.0,
        after_both (add_interface i plan) (add_interface i plan) vs x.0 (bare n is) (bare 1 is) (answers (bare n more) done) (answers (bare 1 more) done)
            (made_quiet (add_interface i plan) (bare n is) (bare n more) (passed_both t u _ _ _ q r) (λ e. refl))
            (made_quiet (add_interface i plan) (bare 1 is) (bare 1 more) (passed_both t u _ _ _ q r) (λ e. refl)) x.1,
      ))

  with_cores_found : (m : ℕ) (vs : List Event) (is : List Planned) → Follows vs → Found is (set_cores m ∷ vs)
  with_cores_found m vs is h = by (nat_lt m 1 || nat_lt most_cores m) refl
    where
      by : (t : Bool) → (nat_lt m 1 || nat_lt most_cores m) ≡ t → Found is (set_cores m ∷ vs)
      by true q =
          skipped (set_cores m) vs is 94 h
          (ap (λ (b : Bool). settles (set_cores m) (if b then answers (bare n is) (refused 94) else answers (bare m is) done)) q)
      by false q = (
        set_cores m ∷ vs,
        after_both (set_cores m) (set_cores m) vs vs (bare n is) (bare 1 is) (answers (set m is) done) (answers (set m is) done)
            (cores_quiet n m is q) (cores_quiet 1 m is q) (same_run (set m is) vs),
      )

  with_link_found : (a b size : ℕ) (vs : List Event) (is : List Planned) → Follows vs → Found is (add_link a b size ∷ vs)
  with_link_found a b size vs is h =
      let v : Event = add_link a b size in
      let t : Bool = not (is_core a (bare n is) && is_core b (bare n is)) || (a == b) || has_link a b (bare n is) in
      let u : Bool = not (is_ring_size size) in
      let o : StepOutcome = answers (with_new_link a b size (set n is)) done in
      two_tests t u (answers (bare n is) (refused 73)) (answers (bare n is) (refused 32)) (answers (with_new_link a b size (bare n is)) done)
      (λ q. skipped v vs is 73 h (ap (settles v) q)) (λ q. skipped v vs is 32 h (ap (settles v) q))
      (λ q r.
      set_first v vs is o
      (made_quiet v (bare n is) (with_new_link a b size (set n is)) (ap (settles v) (passed_both t u _ _ (answers (with_new_link a b size (bare n is)) done) q r)) (λ e. refl))
      (made_quiet v (set n is) (with_new_link a b size (set n is)) (ap (settles v) (passed_both t u _ _ o q r)) (λ e. refl)))

  with_dispatcher_found : (core : ℕ) (vs : List Event) (is : List Planned) → Follows vs → Found is (add_dispatcher core ∷ vs)
  with_dispatcher_found core vs is h =
      let v : Event = add_dispatcher core in
      let t : Bool = nat_le most_dispatchers (count_dispatchers (bare n is)) in
      let u : Bool = not (is_core core (bare n is)) in
      let o : StepOutcome = answers (change_core core with_dispatcher (set n is)) done in
      two_tests t u (answers (bare n is) (refused 94)) (answers (bare n is) (refused 73)) (answers (change_core core with_dispatcher (bare n is)) done)
      (λ q. skipped v vs is 94 h (ap (settles v) q)) (λ q. skipped v vs is 73 h (ap (settles v) q))
      (λ q r.
      set_first v vs is o
      (made_quiet v (bare n is) (change_core core with_dispatcher (set n is)) (ap (settles v) (passed_both t u _ _ (answers (change_core core with_dispatcher (bare n is)) done) q r)) (λ e. refl))
      (made_quiet v (set n is) (change_core core with_dispatcher (set n is)) (ap (settles v) (passed_both t u _ _ o q r)) (λ e. refl)))

  -- what needs a dispatcher or a link is refused
  without_dispatcher : (v : Event) (vs : List Event) (is : List Planned) (d : DispatcherId) (f : Dispatcher → StepOutcome) → Follows vs
      → step (bare n is) v ≡ settles v (given (dispatcher_of (bare n is) d) (answers (bare n is) (refused 92)) f)
      → settles v (answers (bare n is) (refused 92)) ≡ answers (bare n is) (refused 92) → Found is (v ∷ vs)
  without_dispatcher v vs is d f h q r =
      skipped v vs is 92 h
      (q
      ∙ by_given (λ (o : StepOutcome). settles v o ≡ answers (bare n is) (refused 92)) (dispatcher_of (bare n is) d) _ f r
      (λ x p. absurd (no_dispatcher is d x p)))

  without_link_end : (v : Event) (vs : List Event) (is : List Planned) (a b : ℕ) (f : LinkEnd → StepOutcome) → Follows vs
      → step (bare n is) v ≡ settles v (given (link_end a b (bare n is)) (answers (bare n is) (refused 73)) f)
      → settles v (answers (bare n is) (refused 73)) ≡ answers (bare n is) (refused 73) → Found is (v ∷ vs)
  without_link_end v vs is a b f h q r =
      skipped v vs is 73 h
      (q
      ∙ by_given (λ (o : StepOutcome). settles v o ≡ answers (bare n is) (refused 73)) (link_end a b (bare n is)) _ f r
      (λ x p. absurd (no_link_end is a b x p)))

  without_link : (v : Event) (vs : List Event) (is : List Planned) (a b : ℕ) (f : Link → StepOutcome) → Follows vs
      → step (bare n is) v ≡ settles v (given (link_between (bare n is) a b) (answers (bare n is) (refused 73)) f)
      → settles v (answers (bare n is) (refused 73)) ≡ answers (bare n is) (refused 73) → Found is (v ∷ vs)
  without_link v vs is a b f h q r =
      skipped v vs is 73 h
      (q
      ∙ by_given (λ (o : StepOutcome). settles v o ≡ answers (bare n is) (refused 73)) (link_between (bare n is) a b) _ f r
      (λ x p. absurd (no_link is a b x p)))

  found_by : (v : Event) (vs : List Event) (is : List Planned) → Follows vs → Found is (v ∷ vs)
  found_by (add_interface i plan) vs is h = with_interface_found i plan vs is h
  found_by (set_cores m) vs is h = with_cores_found m vs is h
  found_by (add_link a b size) vs is h = with_link_found a b size vs is h
  found_by (add_dispatcher core) vs is h = with_dispatcher_found core vs is h
  found_by (export name d i) vs is h = without_dispatcher (export name d i) vs is d _ h refl refl
  found_by (bind client i name kind) vs is h = without_dispatcher (bind client i name kind) vs is client _ h refl refl
  found_by (call e c) vs is h = skipped (call e c) vs is 92 h refl
  found_by (show e) vs is h = skipped (show e) vs is 92 h refl
  found_by (write e) vs is h = skipped (write e) vs is 92 h refl
  found_by (turn d) vs is h = without_dispatcher (turn d) vs is d _ h refl refl
  found_by (ack e) vs is h = skipped (ack e) vs is 92 h refl
  found_by (register e) vs is h = skipped (register e) vs is 92 h refl
  found_by (deregister e) vs is h = skipped (deregister e) vs is 92 h refl
  found_by (reply e msg answer) vs is h = skipped (reply e msg answer) vs is 92 h refl
  found_by (monitor_write a b) vs is h = without_link_end (monitor_write a b) vs is a b _ h refl refl
  found_by (forward a b) vs is h = without_link_end (forward a b) vs is a b _ h refl refl
  found_by (monitor_ack a b) vs is h = without_link (monitor_ack a b) vs is a b _ h refl refl

  found : (vs : List Event) (is : List Planned) → Found is vs
  found [] is = ([], record { bindings = refl; interfaces = refl; handled = λ e. refl; accepted = λ e. refl; due = λ e. refl })
  found (v ∷ vs) is = found_by v vs is (λ more. found vs more)

  -- each run from a world of so many cores has one from the start that is alike
  pub run_from_start : (vs : List Event) → (ws : List Event) × Alike (start_with n) vs start ws
  run_from_start vs = found vs []
