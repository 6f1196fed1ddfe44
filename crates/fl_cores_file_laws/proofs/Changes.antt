-- What a line that is accepted changes of a draft: one job more, one binding more, one interface more, or none of these.
use Rattle.std.proofs.Common.{◌≡◌, refl, ◌∙◌, ap, subst, ℕ, Bool, true, false, cond, List, [], ◌∷◌, ◌++◌, length, nat_le, nat_lt, not, ◌==◌, ◌&&◌, ◌||◌, Option, Some, None}
use Rattle.std.specs.List.{flat_map}
use Rattle.std.proofs.lemmas.List.{append-nil}
use Rattle.std.proofs.lemmas.List.Concat.{flat_map-append, flat_map-cons}
use Rattle.fl_base.specs.declared.identity.EndId.{EndId}
use Rattle.fl_base.specs.Given.{given}
use Rattle.fl_value_data.specs.Value.{TheCall}
use Rattle.fl_model.specs.Calls.{Planned}
use Rattle.fl_model.specs.Events.{Event, Kind, by_queues, by_ring, by_route, add_interface, set_cores, add_link, add_dispatcher, export, bind}
use Rattle.fl_model.specs.Events as event
use Rattle.fl_model.specs.Given.{changed_at}
use Rattle.fl_cores_file.specs.Draft.{free, makes_calls, has_rules, Bound, Draft, takes, TheDraftRequest, binds_by, with_use, call_fault, rule_fault, fault_at, is_interface, is_dispatcher}
use Rattle.fl_cores_file.specs.Draft.{has_interface, is_core, has_link, has_both_places, is_route, offer_of}
use Rattle.fl_base.specs.Numbered.{most_cores, most_bindings}
use Rattle.fl_model.specs.Making.{most_interfaces, most_dispatchers, most_services, is_ring_size}
use Rattle.fl_script_lines.specs.Asked.{is_taken}
use Rattle.fl_cores_file.specs.Jobs.{TheCircuitRequest, opens, replies, calls}
use Rattle.fl_cores_file.specs.Verdicts.{LineVerdict, stops, goes_on}
use Rattle.fl_cores_file_laws.proofs.Adding.{added_by, bound_by, interfaces_in, bound_in, OnlySetsUp, only_more}

abbrev pub fresh : Bool → ℕ → Bound
fresh opened i = record { is_opened = opened; interface = i; at_client = free; at_server = free }

-- the same is set up
pub record SetsUpSame (c d : Draft) : Type 0 where
  pub interfaces : interfaces_in d.setup ≡ interfaces_in c.setup
  pub bound : bound_in d.setup ≡ bound_in c.setup
  pub only : OnlySetsUp c → OnlySetsUp d

pub data Change (c d : Draft) : Type 0 where
  quiet : d.jobs ≡ c.jobs → d.bindings ≡ c.bindings → d.interfaces ≡ c.interfaces → SetsUpSame c d → Change c d
  adds : (i : Planned) → d.jobs ≡ c.jobs → d.bindings ≡ c.bindings → d.interfaces ≡ c.interfaces ++ i ∷ []
      → interfaces_in d.setup ≡ interfaces_in c.setup ++ i ∷ []
      → bound_in d.setup ≡ bound_in c.setup → (OnlySetsUp c → OnlySetsUp d) → Change c d
  joins : (i : ℕ) → d.jobs ≡ c.jobs → d.bindings ≡ c.bindings ++ fresh false i ∷ [] → d.interfaces ≡ c.interfaces
      → interfaces_in d.setup ≡ interfaces_in c.setup
      → bound_in d.setup ≡ bound_in c.setup ++ i ∷ [] → (OnlySetsUp c → OnlySetsUp d) → nat_le 1024 (length c.bindings) ≡ false → Change c d
  asks : (w : TheCircuitRequest) → d.jobs ≡ c.jobs ++ opens w ∷ [] → d.bindings ≡ c.bindings ++ fresh true w.interface ∷ []
      → d.interfaces ≡ c.interfaces → SetsUpSame c d
      → is_interface w.interface c ≡ true → nat_le 1024 (length c.bindings) ≡ false → Change c d
  makes : (e : EndId) (x : TheCall) → d.jobs ≡ c.jobs ++ calls e x ∷ [] → d.bindings ≡ changed_at e.binding (with_use e.side makes_calls) c.bindings
      → d.interfaces ≡ c.interfaces
      → SetsUpSame c d → fault_at e (call_fault e.side x) c ≡ None → Change c d
  rules : (e : EndId) (msg answer : ℕ) → d.jobs ≡ c.jobs ++ replies e msg answer ∷ [] → d.bindings ≡ changed_at e.binding (with_use e.side has_rules) c.bindings
      → d.interfaces ≡ c.interfaces → SetsUpSame c d → fault_at e (rule_fault e.side msg answer) c ≡ None → Change c d

-- ---- what was accepted

pub goes_same : {A : Type 0} (a b : A) → (let v : LineVerdict A = goes_on a in v) ≡ goes_on b → a ≡ b
goes_same a b e = cc

-- a refusal that wasn't met
pub if_goes : {A : Type 0} (b : Bool) (n : ℕ) (v : LineVerdict A) (x : A) → cond b (stops n) v ≡ goes_on x → (b ≡ false) × (v ≡ goes_on x)
if_goes true n v x e = absurd (cc)
if_goes false n v x e = (refl, e)

pub given_goes : {A B : Type 0} (o : Option B) (n : ℕ) (f : B → LineVerdict A) (x : A) → given o (stops n) f ≡ goes_on x
    → (y : B) × (o ≡ Some y) × (f y ≡ goes_on x)
given_goes None n f x e = absurd (cc)
given_goes (Some y) n f x e = (y, refl, e)

pub none_goes : {A : Type 0} (o : Option ℕ) (v : LineVerdict A) (x : A) → given o v stops ≡ goes_on x → (o ≡ None) × (v ≡ goes_on x)
none_goes None v x e = (refl, e)
none_goes (Some n) v x e = absurd (cc)

-- one event more
event_more : {A : Type 0} (f : Event → List A) (vs : List Event) (v : Event) → flat_map f (vs ++ v ∷ []) ≡ flat_map f vs ++ f v
event_more f vs v = flat_map-append f vs (v ∷ []) ∙ ap (λ ys. flat_map f vs ++ ys) (flat_map-cons f v [] ∙ append-nil (f v))

event_none : {A : Type 0} (f : Event → List A) (vs : List Event) (v : Event) → f v ≡ [] → flat_map f (vs ++ v ∷ []) ≡ flat_map f vs
event_none f vs v none = event_more f vs v ∙ ap (λ ys. flat_map f vs ++ ys) none ∙ append-nil (flat_map f vs)

true_of : (b : Bool) → not b ≡ false → b ≡ true
true_of true e = refl
true_of false e = absurd (cc)

second_true : (a b : Bool) → (a && b) ≡ true → b ≡ true
second_true true b e = e
second_true false b e = absurd (cc)

-- ---- a binding

bound_more : (w : TheDraftRequest) (kind : Kind) (c d : Draft) → is_interface w.interface c ≡ true → nat_le 1024 (length c.bindings) ≡ false
    → binds_by w kind c ≡ goes_on d → Change c d
bound_more w (by_queues slots) c d there few e =
    let f = (if_goes (not (has_both_places w c)) 54 _ _ (if_goes (nat_lt slots 1 || nat_lt 1024 slots) 32 _ _
    (if_goes (not (w.client.core == w.server.core)) 73 _ _ e).1).1).1 in
    let v : Event = bind w.client w.interface w.service (by_queues slots) in
    subst (λ (x : Draft). Change c x) (goes_same _ _ f)
    (joins w.interface refl refl refl (event_none added_by c.setup v refl) (event_more bound_by c.setup v) (only_more c.setup v refl) few)
bound_more w (by_ring size) c d there few e =
    let f = (if_goes (not (has_both_places w c)) 54 _ _ (if_goes (not (is_ring_size size)) 32 _ _ (if_goes (w.client.core == w.server.core) 73 _ _ e).1).1).1 in
    let v : Event = bind w.client w.interface w.service (by_ring size) in
    subst (λ (x : Draft). Change c x) (goes_same _ _ f)
    (joins w.interface refl refl refl (event_none added_by c.setup v refl) (event_more bound_by c.setup v) (only_more c.setup v refl) few)
bound_more w (by_route route) c d there few e =
    let f = (if_goes (not (is_route w route c)) 73 _ _ e).1 in
    let request : TheCircuitRequest = record { client = w.client; interface = w.interface; service = w.service; route = route } in
    subst (λ (x : Draft). Change c x) (goes_same _ _ f) (asks request refl refl refl (record { interfaces = refl; bound = refl; only = λ h. h }) there few)

-- ---- a line

pub change : (v : Event) (c d : Draft) → takes v c ≡ goes_on d → Change c d
change (add_interface i plan) c d e =
    let f = (if_goes (nat_le most_interfaces (length c.interfaces)) 94 _ _ (if_goes (has_interface i.name c) 92 _ _ e).1).1 in
    let v : Event = add_interface i plan in
    subst (λ (x : Draft). Change c x) (goes_same _ _ f)
    (adds (record { interface = i; plan = plan }) refl refl refl (event_more added_by c.setup v) (event_none bound_by c.setup v refl)
    (only_more c.setup v refl))
change (set_cores n) c d e =
    let f = (if_goes (nat_lt n 1 || nat_lt most_cores n) 94 _ _ (if_goes c.settled 93 _ _ e).1).1 in
    subst (λ (x : Draft). Change c x) (goes_same _ _ f) (quiet refl refl refl (record { interfaces = refl; bound = refl; only = λ h. h }))
change (add_link a b size) c d e =
    let f = (if_goes (not (is_ring_size size)) 32 _ _ (if_goes (not (is_core a c && is_core b c) || (a == b) || has_link a b c) 73 _ _ e).1).1 in
    let v : Event = add_link a b size in
    subst (λ (x : Draft). Change c x) (goes_same _ _ f)
    (quiet refl refl refl (record {
      interfaces = event_none added_by c.setup v refl;
      bound = event_none bound_by c.setup v refl;
      only = only_more c.setup v refl;
    }))
change (add_dispatcher core) c d e =
    let f = (if_goes (not (is_core core c)) 73 _ _ (if_goes (nat_le most_dispatchers (length c.dispatchers)) 94 _ _ e).1).1 in
    let v : Event = add_dispatcher core in
    subst (λ (x : Draft). Change c x) (goes_same _ _ f)
    (quiet refl refl refl (record {
      interfaces = event_none added_by c.setup v refl;
      bound = event_none bound_by c.setup v refl;
      only = only_more c.setup v refl;
    }))
change (export name x i) c d e =
    let f = (if_goes (nat_le most_services (length c.offers)) 94 _ _
    (if_goes (is_taken name c.services) 71 _ _ (if_goes (not (is_dispatcher x c && is_interface i c)) 92 _ _ e).1).1).1 in
    let v : Event = export name x i in
    subst (λ (y : Draft). Change c y) (goes_same _ _ f)
    (quiet refl refl refl (record {
      interfaces = event_none added_by c.setup v refl;
      bound = event_none bound_by c.setup v refl;
      only = only_more c.setup v refl;
    }))
change (bind client i name kind) c d e =
    let named = if_goes (not (is_dispatcher client c && is_interface i c)) 92 _ _ e in
    let few = if_goes (nat_le most_bindings (length c.bindings)) 94 _ _ named.1 in
    let offered = given_goes (offer_of name c) 70 _ _ few.1 in
    let same = if_goes (not (offered.0.interface == i)) 72 _ _ offered.2 in
    bound_more (record { client = client; server = offered.0.dispatcher; interface = i; service = name }) kind c d
    (second_true (is_dispatcher client c) (is_interface i c) (true_of (is_dispatcher client c && is_interface i c) named.0)) few.0 same.1
change (event.call end x) c d e =
    let f = none_goes (fault_at end (call_fault end.side x) c) _ _ e in
    subst (λ (y : Draft). Change c y) (goes_same _ _ f.1) (makes end x refl refl refl (record { interfaces = refl; bound = refl; only = λ h. h }) f.0)
change (event.reply end msg answer) c d e =
    let f = none_goes (fault_at end (rule_fault end.side msg answer) c) _ _ e in
    subst (λ (y : Draft). Change c y) (goes_same _ _ f.1) (rules end msg answer refl refl refl (record { interfaces = refl; bound = refl; only = λ h. h }) f.0)
change v c d e = absurd (cc)
