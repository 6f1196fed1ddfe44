-- What a monitors' message makes of a core's table.
use Rattle.std.proofs.Common.{◌≡◌, refl, sym, ap, ◌∙◌, subst, ℕ, ◌==◌, ◌&&◌, nat_lt, not, if◌then◌else◌, inl, inr, Bool, true, false, Option, Some, None}
use Rattle.fl_base.specs.declared.identity.EndId.{EndId}
use Rattle.fl_base.specs.declared.identity.LinkId.{LinkId}
use Rattle.fl_base.specs.declared.identity.CoreId.{CoreId}
use Rattle.fl_base.specs.declared.identity.Circuit.{Circuit}
use Rattle.fl_base.specs.Given.{given}
use Rattle.fl_hop.specs.declared.entry.HopTarget.{HopTarget}
use Rattle.fl_hop.specs.declared.entry.HopTarget.TheVariants.{Link, End}
use Rattle.fl_hop.specs.declared.entry.Hop.{Hop}
use Rattle.fl_hop.specs.declared.fault.HopFault.{HopFault}
use Rattle.fl_hop.specs.declared.fault.HopFault.TheVariants.{Misrouted}
use Rattle.fl_hop.specs.Joined.{Sound}
use Rattle.fl_hop.specs.Numbers.{next_own, next_due}
use Rattle.fl_hop.specs.Openings.{is_next, answered}
use Rattle.fl_hop.specs.Table.{TheCircuits, hop_at, link_of, stands, without_entry}
use Rattle.fl_hop.proofs.Laters.{next_test}
use Rattle.fl_nameserv.specs.Registrations.{TheRegistration, by_iref}
use Rattle.fl_monitor.specs.declared.opening.Opening.{Opening}
use Rattle.fl_monitor.specs.declared.heard.MessageOutcome.{MessageOutcome}
use Rattle.fl_monitor.specs.declared.heard.MessageOutcome.TheVariants.{OpeningWentOn, ServerMade, OpeningFailed, AnswerWentOn, EndOpened, EndRefused}
use Rattle.fl_monitor.specs.declared.message.MonitorMessage.{MonitorMessage}
use Rattle.fl_monitor.specs.declared.message.MonitorMessage.TheVariants.{OpenCircuit, CircuitOpened, CircuitRefused}
use Rattle.fl_monitor.specs.Routing.{next_on}
use Rattle.fl_monitor.specs.Fates.{Known, arrival, passage, fate, is_in_place, comes_along, is_for_another}
use Rattle.fl_monitor.specs.Hearing.{heard_by, opened_at, refused_at, ComesTo, after_opening, after_answer, after_refusal, table_after}
use Rattle.fl_core.specs.View.{server_of}
use Rattle.fl_core.specs.Inside.{server_in}
use Rattle.fl_core.proofs.Offers.{made_for}
use Rattle.fl_core_run_laws.specs.Led.{IsSettled}
use Rattle.fl_core_run_laws.proofs.Tables.{GoesOn, NoneNew, OneNew, arrived_goes, passed_goes, taken_goes, answered_goes, answered_settles, refused_goes, arrived_settles}

-- which end is new to the table, and on which link
abbrev pub new_by : LinkId → MessageOutcome → ℕ → EndId → Type 0
new_by l (ServerMade binding dispatcher c) = OneNew l.0 (server_of binding)
new_by l (OpeningWentOn binding m c) = NoneNew
new_by l (OpeningFailed binding reason) = NoneNew
new_by l (AnswerWentOn binding m c) = NoneNew
new_by l (EndOpened e c) = NoneNew
new_by l (EndRefused e reason) = NoneNew

-- where none is new, it is so with any
goes_any : (t u : TheCircuits) (new : ℕ → EndId → Type 0) → GoesOn NoneNew t u → GoesOn new t u
goes_any t u new g = record {
  later = g.later;
  settled = g.settled;
  came = λ l n name at. elim (g.came l n name at) [
    | inl there ↦ inl there
    | inr wrong ↦ absurd wrong
  ];
}

-- ---- an opening in its place

tests : (a b c d e f : Bool) → (a && b && not c && not d && e && f) ≡ true → (a ≡ true) × (d ≡ false)
tests true true false false e f h = (refl, refl)
tests true true false true e f h = absurd (cc)
tests true true true d e f h = absurd (cc)
tests true false c d e f h = absurd (cc)
tests false b c d e f h = absurd (cc)

-- where it goes on it has the link's next number; and it binds no end
abbrev pub IsNext : TheCircuits → MessageOutcome → Type 0
IsNext t (OpeningWentOn binding m n) = next_own t m.0 ≡ Some n.0
IsNext t (ServerMade binding dispatcher c) = Unit {0}
IsNext t (OpeningFailed binding reason) = Unit {0}
IsNext t (AnswerWentOn binding m c) = ⊥
IsNext t (EndOpened e c) = ⊥
IsNext t (EndRefused e reason) = ⊥

module _ (kn : Known) (t : TheCircuits) (binding : ℕ) (c : Circuit) where
  at_last : (iref : ℕ) (r : Option TheRegistration) (place : Bool) → by_iref iref kn.names ≡ r → kn.here.has_place ≡ place → IsNext t (heard_by binding c (arrival kn iref))
  at_last iref None place is has = rw is tt
  at_last iref (Some r) true is has = rw (is, has) tt
  at_last iref (Some r) false is has = rw (is, has) tt

  at_link : (l next m : ℕ) (same : Bool) (n : Option ℕ) → link_of t next ≡ Some m → (l == m) ≡ same → next_own t m ≡ n → IsNext t (heard_by binding c (passage t l next))
  at_link l next m true n is test own = rw (is, test) tt
  at_link l next m false None is test own = rw (is, test, own) tt
  at_link l next m false (Some n) is test own = rw (is, test, own) own

  on_the_way : (l next : ℕ) (m : Option ℕ) → link_of t next ≡ m → IsNext t (heard_by binding c (passage t l next))
  on_the_way l next None is = rw is tt
  on_the_way l next (Some m) is = at_link l next m (l == m) (next_own t m) is refl refl

  by_route : (l : ℕ) (o : Opening) (next : Option CoreId) → next_on o.path t.core ≡ next → IsNext t (heard_by binding c (fate kn t l o))
  by_route l o None is = rw is (at_last o.service.0 (by_iref o.service.0 kn.names) kn.here.has_place refl refl)
  by_route l o (Some next) is = rw is (on_the_way l next.0 (link_of t next.0) refl)

-- what a message that is in its place comes to
opening_next : (kn : Known) (t : TheCircuits) (l : ℕ) (c : Circuit) (o : Opening) (h : MessageOutcome) → h ≡ heard_by o.binding c (fate kn t l o) → IsNext t h
opening_next kn t l c o h is = subst (IsNext t) (sym is) (by_route kn t o.binding c l o (next_on o.path t.core) refl)

-- ---- an answer

pub answer_is : (t : TheCircuits) (l : LinkId) (c : Circuit) (hop : Hop) → hop_at t l.0 c.0 ≡ Some hop → after_answer t l c ≡ answered t l c hop
answer_is t l c hop at = ap (λ (o : Option Hop). given o t λ x. answered t l c x) at

refusal_is : (t : TheCircuits) (l : LinkId) (c : Circuit) (hop : Hop) → hop_at t l.0 c.0 ≡ Some hop → after_refusal t l c ≡ without_entry t (Link l c) hop.way
refusal_is t l c hop at = ap (λ (o : Option Hop). given o t λ x. without_entry t (Link l c) x.way) at

-- ---- a message

due_in_place : (kn : Known) (t : TheCircuits) (l : LinkId) (c : Circuit) (o : Opening) → is_in_place kn t l.0 c.0 o ≡ true → (next_due t l.0 ≡ Some c.0) × (is_next (next_due t l.0) c.0 ≡ true) × (stands t o.binding ≡ false)
due_in_place kn t l c o h =
    let both = tests (is_next (next_due t l.0) c.0) (nat_lt o.binding 1024) kn.here.has_end (stands t o.binding) (comes_along t l.0 o.path) (not (is_for_another kn.names t o)) h in
    (next_test (next_due t l.0) c.0 both.0, both.0, both.1)

opening_goes : (kn : Known) (t : TheCircuits) (l : LinkId) (c : Circuit) (o : Opening) (h : MessageOutcome) → Sound t → is_in_place kn t l.0 c.0 o ≡ true → h ≡ heard_by o.binding c (fate kn t l.0 o)
    → (binding_is : (b d : ℕ) (x : Circuit) → h ≡ ServerMade b d x → b ≡ o.binding)
    → GoesOn (new_by l h) t (after_opening t l c o.binding h)
opening_goes kn t l c o (OpeningWentOn b m n) k place is named =
    passed_goes t l m c n o.binding k (due_in_place kn t l c o place).0 (opening_next kn t l.0 c o (OpeningWentOn b m n) is)
opening_goes kn t l c o (ServerMade b d x) k place is named =
    subst (λ (i : ℕ). GoesOn (OneNew l.0 (server_of i)) t (after_opening t l c o.binding (ServerMade b d x))) (sym (named b d x refl)) (arrived_goes t l c o.binding k (due_in_place kn t l c o place).0)
opening_goes kn t l c o (OpeningFailed b reason) k place is named = taken_goes t l
opening_goes kn t l c o (AnswerWentOn b m n) k place is named = taken_goes t l
opening_goes kn t l c o (EndOpened e n) k place is named = taken_goes t l
opening_goes kn t l c o (EndRefused e reason) k place is named = taken_goes t l

pub heard_goes : (kn : Known) (t : TheCircuits) (l : LinkId) (m : MonitorMessage) (h : MessageOutcome) → Sound t → ComesTo kn t l m h → GoesOn (new_by l h) t (table_after t l m h)
heard_goes kn t l (OpenCircuit c binding service path) h k comes =
    let o : Opening = record { binding = binding; service = service; path = path } in
    opening_goes kn t l c o h k comes.0 comes.1 (λ b d x is. (let made = made_for kn t l (OpenCircuit c binding service path) h (record { binding = b; dispatcher = d; circuit = x }) comes (ap server_in is) in
    made.binding ∙ sym (ap (λ (y : Option Opening). given y 0 λ z. z.binding) made.opening_is)))
heard_goes kn t l (CircuitOpened c) h k (hop, waits, is) =
    subst (GoesOn (new_by l h) t) (sym (answer_is t l c hop waits.there)) (goes_any t (answered t l c hop) (new_by l h) (answered_goes t l c hop k waits.there))
heard_goes kn t l (CircuitRefused c reason) h k (hop, waits, is) =
    subst (GoesOn (new_by l h) t) (sym (refusal_is t l c hop waits.there)) (goes_any t (without_entry t (Link l c) hop.way) (new_by l h) (refused_goes t l c hop k waits))

-- ---- what it settles

opened_end : (c : Circuit) (binding : ℕ) (way : HopTarget) (e : EndId) (d : Circuit) → EndOpened e d ≡ opened_at c binding way → (way ≡ End e) × (d ≡ c)
opened_end c binding (Link m n) e d h = absurd (cc)
opened_end c binding (End f) e d h = (let same : f ≡ e = cc in ap End same, (let one : d ≡ c = cc in one))

refused_end : (reason binding : ℕ) (way : HopTarget) (e : EndId) (d : Circuit) → EndOpened e d ≡ refused_at reason binding way → ⊥
refused_end reason binding (Link m n) e d h = absurd (cc)
refused_end reason binding (End f) e d h = absurd (cc)

-- an end whose opening was answered is led to
pub opened_settles : (kn : Known) (t : TheCircuits) (l : LinkId) (m : MonitorMessage) (e : EndId) (d : Circuit) → Sound t → ComesTo kn t l m (EndOpened e d) → IsSettled (table_after t l m (EndOpened e d)) l.0 d.0 e
opened_settles kn t l (OpenCircuit c binding service path) e d k comes = absurd (opening_next kn t l.0 c (record { binding = binding; service = service; path = path }) (EndOpened e d) comes.1)
opened_settles kn t l (CircuitOpened c) e d k (hop, waits, is) =
    let (way, same) = opened_end c hop.binding hop.way e d is in
    subst (λ (n : Circuit). IsSettled (after_answer t l c) l.0 n.0 e) (sym same)
    (subst (λ (u : TheCircuits). IsSettled u l.0 c.0 e) (sym (answer_is t l c hop waits.there)) (answered_settles t l c hop e k waits.there way))
opened_settles kn t l (CircuitRefused c reason) e d k (hop, waits, is) = absurd (refused_end reason hop.binding hop.way e d is)

-- so is one that an opening makes, of whose binding nothing stood
pub record MadeHere (t : TheCircuits) (l : LinkId) (binding : ℕ) (c : Circuit) (u : TheCircuits) : Type 0 where
  pub settled : IsSettled u l.0 c.0 (server_of binding)
  pub none : stands t binding ≡ false

arrives : (a b : Bool) → a ≡ true → b ≡ false → (if a then (if b then Some Misrouted else None) else Some Misrouted) ≡ (let o : Option HopFault = None in o)
arrives true false x y = refl
arrives true true x y = absurd (cc)
arrives false b x y = absurd (cc)

made_by_opening : (kn : Known) (t : TheCircuits) (l : LinkId) (c : Circuit) (o : Opening) (b d : ℕ) (x : Circuit) → Sound t → is_in_place kn t l.0 c.0 o ≡ true → b ≡ o.binding → x ≡ c
    → MadeHere t l b x (after_opening t l c o.binding (ServerMade b d x))
made_by_opening kn t l c o b d x k place named same =
    let (due, test, none) = due_in_place kn t l c o place in
    let settled = arrived_settles t l c o.binding k due (arrives (is_next (next_due t l.0) c.0) (stands t o.binding) test none) in
    record {
      settled = subst (λ (n : Circuit). IsSettled (after_opening t l c o.binding (ServerMade b d x)) l.0 n.0 (server_of b)) (sym same)
          (subst (λ (i : ℕ). IsSettled (after_opening t l c o.binding (ServerMade b d x)) l.0 c.0 (server_of i)) (sym named) settled);
      none = subst (λ (i : ℕ). stands t i ≡ false) (sym named) none;
    }

pub server_made : (kn : Known) (t : TheCircuits) (l : LinkId) (m : MonitorMessage) (b d : ℕ) (x : Circuit) → Sound t → ComesTo kn t l m (ServerMade b d x) → MadeHere t l b x (table_after t l m (ServerMade b d x))
server_made kn t l (OpenCircuit c binding service path) b d x k comes =
    let o : Opening = record { binding = binding; service = service; path = path } in
    let made = made_for kn t l (OpenCircuit c binding service path) (ServerMade b d x) (record { binding = b; dispatcher = d; circuit = x }) comes refl in
    made_by_opening kn t l c o b d x k comes.0 (made.binding ∙ sym (ap (λ (y : Option Opening). given y 0 λ z. z.binding) made.opening_is)) made.circuit
server_made kn t l (CircuitOpened c) b d x k (hop, waits, is) = absurd (opened_no_server c hop.binding hop.way is) where
  opened_no_server : (c : Circuit) (binding : ℕ) (way : HopTarget) → ServerMade b d x ≡ opened_at c binding way → ⊥
  opened_no_server c binding (Link m n) h = absurd (cc)
  opened_no_server c binding (End f) h = absurd (cc)
server_made kn t l (CircuitRefused c reason) b d x k (hop, waits, is) = absurd (refused_no_server reason hop.binding hop.way is) where
  refused_no_server : (reason binding : ℕ) (way : HopTarget) → ServerMade b d x ≡ refused_at reason binding way → ⊥
  refused_no_server reason binding (Link m n) h = absurd (cc)
  refused_no_server reason binding (End f) h = absurd (cc)
