-- Memory is wanting last: what an event would be refused for was looked at before; w is the world before.
use Rattle.std.proofs.Common.{◌≡◌, ◌≢◌, ◌∙◌, ◌≤◌, ◌<◌, ◌||◌, ◌⊎◌, ◌↔◌, not, nat_le, nat_lt, refl, sym, ap, subst, inl, inr, ℕ, Bool, true, false, List, length, map, slice_get, Option, Some, None, IsSome, is_some, slice_index_or, Result, Ok, Err, arith}
use Rattle.std.specs.Int.{is_power_of_two}
use Rattle.std.proofs.lemmas.Bool.{leb-true, le-leb, ltb-true, lt-ltb, eq-eqb, ne_eqb, false≢true}
use Rattle.fl_base.specs.declared.identity.CoreId.{CoreId}
use Rattle.fl_base.specs.declared.identity.EndId.{EndId}
use Rattle.fl_base.specs.declared.identity.LinkId.{LinkId}
use Rattle.fl_base.specs.Numbered.{core_id}
use Rattle.fl_interface.specs.Interface.{TheInterface}
use Rattle.fl_value_data.specs.Value.{TheCall}
use Rattle.fl_value_data.specs.declared.value.PlanNo.{PlanNo}
use Rattle.fl_compile.specs.declared.program.Program.{Program}
use Rattle.fl_hop.specs.declared.fault.HopFault.{HopFault}
use Rattle.fl_hop.specs.Openings.{open_fault}
use Rattle.fl_nameserv.specs.Registrations.{by_name}
use Rattle.fl_ring.specs.Duo.{MayHaveSlots}
use Rattle.fl_ring.specs.declared.fault.RingFault.{RingFault}
use Rattle.fl_ring.specs.declared.fault.RingFault.TheVariants.{BadSize, Memory}
use Rattle.fl_monitor.specs.declared.fault.MonitorFault.{MonitorFault}
use Rattle.fl_monitor.specs.declared.fault.MonitorFault.TheVariants as monitor
use Rattle.fl_monitor.specs.declared.opening.Opening.{Opening}
use Rattle.fl_monitor.specs.Monitors.{can_say, first_link, MayOpen, wanted}
use Rattle.fl_core.specs.declared.board_fault.BoardFault.TheVariants as board
use Rattle.fl_core.specs.declared.fault.OpenFault.{OpenFault}
use Rattle.fl_core.specs.declared.fault.OpenFault.TheVariants as refusal
use Rattle.fl_core.specs.BoardView.{TheDispatcher}
use Rattle.fl_core.specs.Making.{asked, Asks, MayOpen as MayOpenAt}
use Rattle.fl_core.specs.View.{TheCore}
use Rattle.fl_model.specs.Events.{DispatcherId, Kind, refused, done, nothing}
use Rattle.fl_model.specs.Views.{id_of}
use Rattle.fl_world_refines.specs.declared.binding.Binding.{Binding}
use Rattle.fl_world_refines.specs.View.{Given, If, TheWorld, has_dispatcher, WhereEnd, unmade, made, location_of, keeping}
use Rattle.fl_world_refines.specs.Lending.{Refuses, DoesNothing}
use Rattle.fl_world_refines.specs.Making.{has_program, AddsInterface, SetsCores, IsLinked, AddsLink, AddsDispatcher, Exports}
use Rattle.fl_world_refines.specs.Sending.{CallsAt, MakesCall}
use Rattle.fl_world_refines.specs.Binding.{BindingRequest, HasEndOf, JoinsByQueues, BindsByQueues, JoinsByRing, BindsByRing, may_be_route, by_cores, AsksBy, OpensBy, BindsByRoute, BindsBy, named_request, Binds}
use Rattle.fl_world_events.specs.Last.{NotRefused}
use Rattle.fl_world_events.specs.Parts.{CallsIn, CallsWith, KeptOrNone}
use Rattle.fl_world_events.specs.Routes.{IsAt}
use Rattle.fl_world_events.proofs.Last.{same_some}
use Rattle.fl_world_events.proofs.Lifts.{stands}
use Rattle.fl_world.specs.declared.binding.BindRequest.{BindRequest}
use Rattle.fl_world.specs.Parts.{AtUnmadeOrNone, is_no_pair}
use Rattle.fl_world.specs.Requests.{request, OfRequest, IsOnly, both_places}
use Rattle.fl_world.specs.RingEnds.{JoinsIfPlaces}
use Rattle.fl_world.specs.Routes.{opening_along, MayOpenFrom, MayOpenOn, OpensLast}

-- ---- by cases

pub if_no : (Then Else : Type 0) (b : Bool) → b ≡ false → If b Then Else → Else
if_no Then Else true e h = absurd (cc)
if_no Then Else false e h = h

given_not : {X : Type 0} (Otherwise : Type 0) (Then : X → Type 0) (o : Option X) (x : X) → o ≡ Some x → Given o Otherwise Then → Then x
given_not Otherwise Then None x e h = absurd (cc)
given_not Otherwise Then (Some y) x e h = subst Then (same_some y x e) h

not_done : (fault : ℕ) → refused fault ≡ done → ⊥
not_done fault e = absurd (cc)

-- a number below a bound doesn't reach it
pub below_it : (bound n : ℕ) → n < bound → nat_le bound n ≡ false
below_it bound n h = by (nat_le bound n) refl where
  by : (b : Bool) → nat_le bound n ≡ b → b ≡ false
  by true e = absurd (omega (arith, leb-true bound n e, h))
  by false e = refl

-- from 1 to a most
within_it : (n most : ℕ) → 1 ≤ n → n ≤ most → (nat_lt n 1 || nat_lt most n) ≡ false
within_it n most low high = by (nat_lt n 1) (nat_lt most n) refl refl where
  by : (a b : Bool) → nat_lt n 1 ≡ a → nat_lt most n ≡ b → (a || b) ≡ false
  by true b e f = absurd (omega (arith, ltb-true n 1 e, low))
  by false true e f = absurd (omega (arith, ltb-true most n f, high))
  by false false e f = refl

-- ---- what is made

pub interface_last : (i : TheInterface) (plan : PlanNo) (w base : TheWorld) → base ≡ w → has_program i.name w ≡ false → length base.programs < 64
    → NotRefused (AddsInterface i plan w)
interface_last i plan w base same new few fault w2 h =
    let fewer = subst (λ (x : TheWorld). length x.programs < 64) same few in
    not_done fault ((if_no _ _ _ (below_it 64 (length w.programs) fewer) (if_no _ _ _ new h)).answer)

pub cores_last : (n : ℕ) (w base : TheWorld) → base ≡ w → base.may_set_cores ≡ true → 1 ≤ n → n ≤ 16 → NotRefused (SetsCores n w)
cores_last n w base same may low high fault w2 h =
    let still = subst (λ (x : TheWorld). x.may_set_cores ≡ true) same may in
    not_done fault ((if_no _ _ _ (within_it n 16 low high) (if_no _ _ _ (ap not still) h)).0)

pub link_last : (a b size : ℕ) (w : TheWorld) → is_no_pair a b w ≡ false → ((MayHaveSlots size → ⊥) → ⊥) → NotRefused (AddsLink a b size w)
link_last a b size w pair sized fault w2 h = by (if_no _ _ _ pair h) where
  by : (((MayHaveSlots size → ⊥) × Refuses 32 w (refused fault) w2) ⊎ ((refused fault ≡ done) × IsLinked a b size w w2)) → ⊥
  by (inl g) = sized g.0
  by (inr g) = not_done fault g.0

pub dispatcher_last : (n : ℕ) (w base : TheWorld) → base ≡ w → base.dispatchers < 256 → n < length base.cores → (read : TheCore) → read ≡ slice_index_or base.cores n read
    → NotRefused (AddsDispatcher n w)
dispatcher_last n w base same few below read value fault w2 h =
    let fewer = subst (λ (x : TheWorld). x.dispatchers < 256) same few in
    let is : slice_get w.cores n ≡ Some read = subst (λ (x : TheWorld). slice_get x.cores n ≡ Some read) same (stands base.cores n read read below value refl) in
    not_done fault ((given_not _ _ _ read is (if_no _ _ _ (below_it 256 w.dispatchers fewer) h)).0)

-- nothing of the name was found
not_found : {X : Type 0} (o : Option X) → (IsSome o → ⊥) → is_some o ≡ false
not_found None h = refl
not_found (Some x) h = absurd (h refl)

pub service_last : (name : List ℕ) (d : DispatcherId) (i : ℕ) (w base : TheWorld) → base ≡ w → has_dispatcher w d ≡ true → i < length base.programs
    → (IsSome (by_name name base.names) → ⊥) → length base.names < 256 → NotRefused (Exports name d i w)
service_last name d i w base same there below new few fault w2 h =
    let inside = subst (λ (x : TheWorld). i < length x.programs) same below in
    let fewer = subst (λ (x : TheWorld). length x.names < 256) same few in
    let none = subst (λ (x : TheWorld). is_some (by_name name x.names) ≡ false) same (not_found _ new) in
    let known : (not (has_dispatcher w d) || nat_le (length w.programs) i) ≡ false = ap (λ (b : Bool). not b || nat_le (length w.programs) i) there ∙ below_it (length w.programs) i inside in
    not_done fault ((if_no _ _ _ (below_it 256 (length w.names) fewer) (if_no _ _ _ none (if_no _ _ _ known h))).0)

-- ---- a call

-- at a core, where the end is made
pub call_last : (e : EndId) (c : TheCall) (w base : TheWorld) → base ≡ w → (n place : ℕ) → made n place ≡ location_of w e → n < length base.cores
    → (k : TheCore) → k ≡ slice_index_or base.cores n k → NotRefused (λ a x. CallsIn place c a k x) → NotRefused (MakesCall e c w)
call_last e c w base same n place at below k value last fault w2 h = by (subst (λ (s : WhereEnd). CallsAt s e c w (refused fault) w2) (sym at) h) where
  is : slice_get w.cores n ≡ Some k
  is = subst (λ (x : TheWorld). slice_get x.cores n ≡ Some k) same (stands base.cores n k k below value refl)

  by : CallsAt (made n place) e c w (refused fault) w2 → ⊥
  by g = last fault g.after (subst (λ (x : TheCore). CallsIn place c (refused fault) x g.after) (same_some g.before k (sym g.before_is ∙ is)) g.event)

-- where its binding keeps it
pub unmade_last : (e : EndId) (c : TheCall) (w : TheWorld) → unmade ≡ location_of w e
    → NotRefused (λ a x. AtUnmadeOrNone w e.binding (CallsWith c a) a x) → NotRefused (MakesCall e c w)
unmade_last e c w at last fault w2 h = last fault w2 (subst (λ (s : WhereEnd). CallsAt s e c w (refused fault) w2) (sym at) h)

kept_at : (w : TheWorld) (n : ℕ) (c : TheCall) (b : Binding) → slice_get w.bindings n ≡ Some b
    → NotRefused (λ a x. KeptOrNone (CallsWith c a) a b x) → NotRefused (λ a x. AtUnmadeOrNone w n (CallsWith c a) a x)
kept_at w n c b is last fault w2 (inl g) =
    let same : g.binding ≡ b = same_some g.binding b (sym g.binding_is ∙ is) in
    last fault (keeping b g.after) (inl (record { before = g.before; before_is = subst (λ (x : Binding). x.unmade ≡ Some g.before) same g.before_is; after = g.after; event = g.event; rest = refl }))
kept_at w n c b is last fault w2 (inr g) =
    let same : g.0.binding ≡ b = same_some g.0.binding b (sym g.0.binding_is ∙ is) in
    last fault b (inr (subst (λ (x : Binding). x.unmade ≡ None) same g.0.none, g.1.0, refl))

pub kept_last : (w base : TheWorld) → base ≡ w → (n : ℕ) (c : TheCall) → n < length base.bindings → (b : Binding) → b ≡ slice_index_or base.bindings n b
    → NotRefused (λ a x. KeptOrNone (CallsWith c a) a b x) → NotRefused (λ a x. AtUnmadeOrNone w n (CallsWith c a) a x)
kept_last w base same n c below b value = kept_at w n c b (subst (λ (x : TheWorld). slice_get x.bindings n ≡ Some b) same (stands base.bindings n b b below value refl))

-- ---- a binding

not_nothing : (fault : ℕ) → refused fault ≡ nothing → ⊥
not_nothing fault e = absurd (cc)

pub queues_last : (x : BindRequest) (slots : ℕ) (w : TheWorld) → x.client.core ≡ x.server.core → 1 ≤ slots → slots ≤ 1024
    → both_places (id_of x.client) (id_of x.server) w ≡ true → OfRequest x w (λ r. NotRefused (BindsByQueues r slots w))
queues_last x slots w together low high places p is fault w2 h =
    by (if_no _ _ _ (ap not places) (if_no _ _ _ (within_it slots 1024 low high) (if_no _ _ _ (ap not (eq-eqb x.client.core x.server.core together)) h))) where
      by : (((refused fault ≡ done) × JoinsByQueues (request x p) slots w w2) ⊎ (HasEndOf (length w.bindings) x.client.core w × DoesNothing w (refused fault) w2)) → ⊥
      by (inl g) = not_done fault g.0
      by (inr g) = not_nothing fault g.1.0

-- a size that isn't wrong is right
stable : (n : ℕ) → ((MayHaveSlots n → ⊥) → ⊥) → MayHaveSlots n
stable n h = (more (nat_lt 3 n) refl, few (nat_le n 1024) refl, power (is_power_of_two n) refl) where
  more : (b : Bool) → nat_lt 3 n ≡ b → 3 < n
  more true e = ltb-true 3 n e
  more false e = absurd (h (λ m. false≢true (sym e ∙ lt-ltb 3 n m.0)))

  few : (b : Bool) → nat_le n 1024 ≡ b → n ≤ 1024
  few true e = leb-true n 1024 e
  few false e = absurd (h (λ m. false≢true (sym e ∙ le-leb n 1024 m.1)))

  power : (b : Bool) → is_power_of_two n ≡ b → is_power_of_two n ≡ true
  power true e = e
  power false e = absurd (h (λ m. false≢true (sym e ∙ m.2)))

same_fault : {X : Type 0} (f g : RingFault) → (let e : Result X RingFault = Err f in e) ≡ Err g → f ≡ g
same_fault f g e = cc

-- no memory is a ring's only other fault
pub sized_by : {X : Type 0} (r : Result X RingFault) (n : ℕ) (f : RingFault) → r ≡ Err f → f ≡ Memory → (r ≡ Err BadSize) ↔ (MayHaveSlots n → ⊥) → MayHaveSlots n
sized_by r n f is other both = stable n wrong where
  wrong : (MayHaveSlots n → ⊥) → ⊥
  wrong bad = let no : Memory ≡ BadSize = sym other ∙ same_fault f BadSize (sym is ∙ both.1 bad) in absurd (cc)

pub ring_last : (x : BindRequest) (size : ℕ) (w : TheWorld) → x.client.core ≢ x.server.core
    → both_places (id_of x.client) (id_of x.server) w ≡ true → MayHaveSlots size → OfRequest x w (λ r. NotRefused (BindsByRing r size w))
ring_last x size w apart places sized p is fault w2 h = by (if_no _ _ _ (ne_eqb x.client.core x.server.core apart) h) where
  joined : (((refused fault ≡ done) × JoinsByRing (request x p) size w w2)
      ⊎ ((HasEndOf (length w.bindings) x.client.core w ⊎ HasEndOf (length w.bindings) x.server.core w) × DoesNothing w (refused fault) w2)) → ⊥
  joined (inl g) = not_done fault g.0
  joined (inr g) = not_nothing fault g.1.0

  by : (((MayHaveSlots size → ⊥) × Refuses 32 w (refused fault) w2) ⊎ (MayHaveSlots size × JoinsIfPlaces (request x p) size w (refused fault) w2)) → ⊥
  by (inl g) = g.0 sized
  by (inr g) = joined (if_no _ _ _ (ap not places) g.1)

-- ---- by a circuit

module _ (n : ℕ) (l : LinkId) (o : Opening) (k : TheCore) (may : MayOpenAt n l o k) (fault : ℕ) (want : BindingRequest) (w after_world : TheWorld) (k2 : TheCore) where
  no_place : (d : TheDispatcher) → slice_get k.board.dispatchers n ≡ Some d → length d.ends ≡ 1024 → ⊥
  no_place d is full =
      let (e, e_is, few) = may.place in
      let same : length d.ends ≡ length e.ends = ap (λ (x : TheDispatcher). length x.ends) (same_some d e (sym is ∙ e_is)) in
      omega (arith, same, few, full)

  no_fault : (f : HopFault) → open_fault k.monitor.circuits l.0 o.binding ≡ Some f → ⊥
  no_fault f is = let e : None ≡ Some f = sym may.starts.no_fault ∙ is in absurd (cc)

  no_room : can_say k.monitor.outboxes l.0 ≡ false → ⊥
  no_room e = false≢true (sym e ∙ may.starts.room)

  -- it isn't refused for anything
  open_not : (p : Program) (f : OpenFault) → Asks (asked n p l o) k (Err f) k2 → AsksBy want (Err f) w k2 (refused fault) after_world → ⊥
  open_not p (refusal.Board board.TooManyEnds) asks by = no_place asks.0.0.0 asks.0.0.1 asks.0.0.2
  open_not p (refusal.Board board.NotBound) asks by = absurd asks.0
  open_not p (refusal.Board board.Registered) asks by = absurd asks.0
  open_not p (refusal.Board board.NotRegistered) asks by = absurd asks.0
  open_not p (refusal.Board board.Failed) asks by = absurd asks.0
  open_not p (refusal.Board board.Memory) asks by = absurd by
  open_not p (refusal.Monitor monitor.Memory) asks by = absurd by
  open_not p (refusal.Monitor monitor.OutboxFull) asks by = no_room asks.1.1
  open_not p (refusal.Monitor monitor.NoRoute) asks by = no_fault _ asks.1.0
  open_not p (refusal.Monitor monitor.Misrouted) asks by = no_fault _ asks.1.0
  open_not p (refusal.Monitor monitor.UsedUp) asks by = no_fault _ asks.1.0
  open_not p (refusal.Monitor monitor.Differs) asks by = absurd asks.1.0
  open_not p (refusal.Monitor monitor.PlansDiffer) asks by = absurd asks.1.0

  result_not : (p : Program) (r : Result ℕ OpenFault) → Asks (asked n p l o) k r k2 → AsksBy want r w k2 (refused fault) after_world → ⊥
  result_not p (Ok place) asks by = not_done fault by.0
  result_not p (Err f) asks by = open_not p f asks by

pub opens_last : (x : BindRequest) (path : List CoreId) (l : LinkId) (w : TheWorld) → MayOpenFrom x path w (Ok l) → MayOpenOn x l path w → OpensLast x path w
opens_last x path l w from may p cores p_is along fault w2 h = by h.may h.may_open h.opens where
  same : h.core ≡ from.core
  same = same_some h.core from.core (sym h.core_is ∙ from.core_is)

  -- the link on which the route begins, at the core that was asked
  begins : first_link h.core.monitor.circuits (map core_id cores) (core_id x.server.core).0 (length w.cores) ≡ Some l.0
  begins =
      ap (λ (k : TheCore). first_link k.monitor.circuits (map core_id cores) (core_id x.server.core).0 (length w.cores)) same
      ∙ ap (λ (q : List CoreId). first_link from.core.monitor.circuits q (core_id x.server.core).0 (length w.cores)) (sym along)
      ∙ (from.may_open p p_is).1

  here : MayOpenAt x.client.place l (opening_along x (length w.bindings) (map core_id cores)) h.core
  here = subst (λ (q : List CoreId). MayOpenAt x.client.place l (opening_along x (length w.bindings) q) h.core) along (may h.core h.core_is)

  one_link : (j : LinkId) → Some j.0 ≡ Some l.0 → l ≡ j
  one_link j e = let n : l.0 ≡ j.0 = cc in λ i. record { 0 = n i }

  by : (r : Result LinkId MonitorFault) → MayOpen (wanted p p (core_id x.server.core) (map core_id cores) (length w.cores)) h.core.monitor.circuits r
      → OpensBy r (by_cores (request x p) cores) h.core w (refused fault) w2 → ⊥
  by (Err monitor.Differs) m o = m refl
  by (Err monitor.PlansDiffer) m o = m.1 refl
  by (Err monitor.NoRoute) m o = let e : None ≡ Some l.0 = sym m.1 ∙ begins in absurd (cc)
  by (Err monitor.Memory) m o = absurd m
  by (Err monitor.OutboxFull) m o = absurd m
  by (Err monitor.Misrouted) m o = absurd m
  by (Err monitor.UsedUp) m o = absurd m
  by (Ok j) m (inr o) = not_nothing fault o.1.0
  by (Ok j) m (inl o) =
      let at = subst (λ (q : LinkId). MayOpenAt x.client.place q (opening_along x (length w.bindings) (map core_id cores)) h.core) (one_link j (sym m.1 ∙ begins)) here in
      result_not x.client.place j (opening_along x (length w.bindings) (map core_id cores)) h.core at fault (request x p) w w2 o.after o.program o.result o.asks o.follows

-- the core is asked for the next binding
pub may_on : (x : BindRequest) (l : LinkId) (path : List CoreId) (w base : TheWorld) → base ≡ w → (n : ℕ) → n ≡ length base.bindings
    → (cores : List TheCore) → cores ≡ base.cores → IsAt cores x.client.core (MayOpenAt x.client.place l (opening_along x n path)) → MayOpenOn x l path w
may_on x l path w base same n n_is cores cores_are h =
    let numbered = subst (λ (i : ℕ). IsAt cores x.client.core (MayOpenAt x.client.place l (opening_along x i path))) n_is h in
    let lent = subst (λ (ks : List TheCore). IsAt ks x.client.core (MayOpenAt x.client.place l (opening_along x (length base.bindings) path))) cores_are numbered in
    subst (MayOpenOn x l path) same lent

pub route_last : (x : BindRequest) (cores : List ℕ) (w : TheWorld) → may_be_route cores w ≡ true → (path : List CoreId) → path ≡ map core_id cores
    → OpensLast x path w → OfRequest x w (λ r. NotRefused (BindsByRoute r cores w))
route_last x cores w may path along last p is fault w2 h = last p cores is along fault w2 (if_no _ _ _ (ap not may) h)

-- ---- the event

pub bind_last : (client : DispatcherId) (i : ℕ) (name : List ℕ) (kind : Kind) (w : TheWorld) (x : BindRequest) → IsOnly client i name w x
    → OfRequest x w (λ r. NotRefused (BindsBy r kind w)) → NotRefused (Binds (named_request client i name kind) w)
bind_last client i name kind w x only last fault w2 h = let it = only kind (refused fault) w2 h in last it.0 it.1 fault w2 it.2
