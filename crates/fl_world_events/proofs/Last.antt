-- Memory is wanting last: what else would be refused was looked at before.
use Rattle.std.proofs.Common.{◌≡◌, ◌<◌, refl, sym, ap, ◌∙◌, subst, inl, inr, ℕ, Bool, true, false, List, length, Option, Some, None, IsSome, IfSome, IfNone, Result, Ok, Err, OnErr, slice_get, slice_set, slice_index_or}
use Rattle.std.proofs.lemmas.List.{set-get_or}
use Rattle.std.proofs.lemmas.Option.{get_or_from_slice_get}
use Rattle.fl_base.specs.declared.identity.LinkId.{LinkId}
use Rattle.fl_compile.specs.declared.program.Program.{Program}
use Rattle.fl_interface.specs.Interface.{TheMessage}
use Rattle.fl_value_data.specs.Value.{TheCall}
use Rattle.fl_value_data.specs.Fits.{fit_message}
use Rattle.fl_endpoint.specs.declared.fault.EndFault.{EndFault}
use Rattle.fl_endpoint.specs.declared.fault.EndFault.TheVariants.{Spent, Busy, UnknownMessage, Misfit, NotBound, Failed, Wire, Memory}
use Rattle.fl_endpoint.specs.View.{TheEnd, interface_in, fresh}
use Rattle.fl_endpoint.specs.Events.{Calls}
use Rattle.fl_core.specs.BoardView.{TheEndAtChannel}
use Rattle.fl_core.specs.BoardEvents.{ChangesEnd}
use Rattle.fl_core.specs.Ends.{OnBoard}
use Rattle.fl_core.specs.View.{TheCore}
use Rattle.fl_core.specs.declared.board_fault.BoardFault.TheVariants as board
use Rattle.fl_core.specs.declared.fault.OpenFault.{OpenFault}
use Rattle.fl_core.specs.declared.fault.OpenFault.TheVariants as fault
use Rattle.fl_core.specs.Faults.{open_number}
use Rattle.fl_core.specs.Hearing.{has_end}
use Rattle.fl_core.specs.Making.{RefusesOpen}
use Rattle.fl_core.proofs.Begun.{refused_open}
use Rattle.fl_monitor.specs.declared.fault.MonitorFault.TheVariants as monitor
use Rattle.fl_monitor.specs.declared.opening.Opening.{Opening}
use Rattle.fl_model.specs.Events.{Answer, refused, nothing}
use Rattle.fl_model.specs.Views.{id_of}
use Rattle.fl_world_refines.specs.declared.binding.Binding.{Binding}
use Rattle.fl_world_refines.specs.Sending.{IsCalled}
use Rattle.fl_world_refines.specs.View.{IsWhole}
use Rattle.fl_world_events.specs.declared.by_route.CircuitBinding.{CircuitBinding}
use Rattle.fl_world_events.specs.declared.by_route.OpenOutcome.TheVariants as begun
use Rattle.fl_world_events.specs.Requests.{HasDispatcher}
use Rattle.fl_world_events.specs.Routes.{IsNumberOf, IsAt, IsAnsweredIn, OpensOver}
use Rattle.fl_world_events.proofs.Lifts.{stands}
use Rattle.fl_world_events.specs.Last.{NotRefused}
use Rattle.fl_world_events.specs.Parts.{CallsIn, CallsWith, KeptOrNone}

pub on_err : {X E : Type 0} {P Q : Type 0} (r : Result X E) → (P → Q) → OnErr r P → OnErr r Q
on_err (Ok x) f h = tt
on_err (Err e) f h = f h

pub always : {X E : Type 0} {P : Type 0} (r : Result X E) → P → OnErr r P
always (Ok x) h = tt
always (Err e) h = h

pub if_some : {X : Type 0} {P Q : X → Type 0} (o : Option X) → ((x : X) → P x → Q x) → IfSome o P → IfSome o Q
if_some None f h = tt
if_some (Some x) f h = f x h

pub if_none : {X : Type 0} {P Q : Type 0} (o : Option X) → (P → Q) → IfNone o P → IfNone o Q
if_none None f h = f h
if_none (Some x) f h = tt

pub same_some : {X : Type 0} (x y : X) → Some x ≡ Some y → x ≡ y
same_some x y e = cc

none_fits : (o : Option TheMessage) (c : TheCall) → o ≡ None → fit_message o c.args ≡ true → ⊥
none_fits None c e h = absurd (cc)
none_fits (Some m) c e h = absurd (cc)

no_circuit : (o : Option ℕ) → o ≡ None → IsSome o → ⊥
no_circuit None e h = absurd (cc)
no_circuit (Some n) e h = absurd (cc)

both_ways : (b : Bool) → b ≡ true → b ≡ false → ⊥
both_ways true t f = absurd (cc)
both_ways false t f = absurd (cc)

-- an end without memory for a call refuses it for nothing else
calls_not : (c : TheCall) (s t : TheEnd) → Calls s c (Err Memory) t → (r : Result (Unit {0}) EndFault) (t2 : TheEnd) → Calls s c r t2
    → (fault : ℕ) → IsCalled r (refused fault) → ⊥
calls_not c s t h (Ok unit) t2 g fault is = absurd (cc)
calls_not c s t h (Err UnknownMessage) t2 g fault is = none_fits (slice_get (interface_in s).messages c.msg) c g.0 h.0
calls_not c s t h (Err Misfit) t2 g fault is = both_ways _ h.0 g.1
calls_not c s t h (Err NotBound) t2 g fault is = no_circuit s.circuit g.1 h.1.0
calls_not c s t h (Err Failed) t2 g fault is = both_ways _ g.1.1 h.1.1
calls_not c s t h (Err Busy) t2 g fault is = g.2 h.2
calls_not c s t h (Err Memory) t2 g fault is = absurd is
calls_not c s t h (Err Spent) t2 g fault is = absurd g
calls_not c s t h (Err (Wire why)) t2 g fault is = absurd g

-- so it is of an end at a place
pub called_last : (k k2 : TheCore) (place : ℕ) (c : TheCall) (r : Result (Unit {0}) EndFault)
    → OnBoard k (λ b d. ChangesEnd b place (λ s t. Calls s c r t) d) k2 → r ≡ Err Memory → NotRefused (λ a x. CallsIn place c a k x)
called_last k k2 place c r h is fault x (q, g, told) =
    let mine = h.event in
    let theirs = g.event in
    let same : mine.seat ≡ theirs.seat = same_some mine.seat theirs.seat (sym mine.seat_is ∙ theirs.seat_is) in
    calls_not c mine.seat.end mine.end (subst (λ (o : Result (Unit {0}) EndFault). Calls mine.seat.end c o mine.end) is mine.event) q theirs.end
    (subst (λ (s : TheEndAtChannel). Calls s.end c q theirs.end) (sym same) theirs.event) fault told

-- and of one that a binding keeps
pub kept_last : (b : Binding) (s t : TheEnd) → b.unmade ≡ Some s → (c : TheCall) (r : Result (Unit {0}) EndFault) → Calls s c r t → r ≡ Err Memory
    → NotRefused (λ a x. KeptOrNone (CallsWith c a) a b x)
kept_last b s t at c r h is fault x (inl g) =
    let same : s ≡ g.before = same_some s g.before (sym at ∙ g.before_is) in
    calls_not c s t (subst (λ (o : Result (Unit {0}) EndFault). Calls s c o t) is h) g.event.0 g.after
    (subst (λ (e : TheEnd). Calls e c g.event.0 g.after) (sym same) g.event.1) fault g.event.2
kept_last b s t at c r h is fault x (inr g) = let no : Some s ≡ None = sym at ∙ g.0 in absurd (cc)

-- ---- an opening

set_same : (cores : List TheCore) (n : ℕ) (k : TheCore) → slice_get cores n ≡ Some k → slice_set cores n k ≡ cores
set_same cores n k is = ap (slice_set cores n) (sym (get_or_from_slice_get cores n k k is)) ∙ set-get_or cores n k

-- an end of the binding is there already
pub answered_there : (place : ℕ) (l : LinkId) (o : Opening) (k : TheCore) → IsWhole k → has_end k o.binding ≡ true → IsAnsweredIn place l o nothing k
answered_there place l o k whole there = record {
  outcome = begun.There;
  begins = λ p. record { whole = whole; still = whole; event = (there, refl) };
  follows = λ b bs. (refl, refl);
}

-- the number of a fault for which it is refused, which isn't out of memory
its_number : (n : ℕ) (l : LinkId) (o : Opening) (k : TheCore) (f : OpenFault) → RefusesOpen n l o k f → IsNumberOf f (open_number f)
its_number n l o k (fault.Board board.TooManyEnds) h = refl
its_number n l o k (fault.Board board.NotBound) h = absurd h
its_number n l o k (fault.Board board.Registered) h = absurd h
its_number n l o k (fault.Board board.NotRegistered) h = absurd h
its_number n l o k (fault.Board board.Failed) h = absurd h
its_number n l o k (fault.Board board.Memory) h = absurd h
its_number n l o k (fault.Monitor monitor.Misrouted) h = refl
its_number n l o k (fault.Monitor monitor.Differs) h = refl
its_number n l o k (fault.Monitor monitor.NoRoute) h = refl
its_number n l o k (fault.Monitor monitor.UsedUp) h = refl
its_number n l o k (fault.Monitor monitor.OutboxFull) h = refl
its_number n l o k (fault.Monitor monitor.PlansDiffer) h = refl
its_number n l o k (fault.Monitor monitor.Memory) h = absurd h.1

pub answered_refused : (place : ℕ) (l : LinkId) (o : Opening) (k : TheCore) → IsWhole k → (f : OpenFault) → RefusesOpen place l o k f
    → IsAnsweredIn place l o (refused (open_number f)) k
answered_refused place l o k whole f h = record {
  outcome = begun.Refused (open_number f);
  begins = λ p. record { whole = whole; still = whole; event = (f, (refused_open place p l o k f h).0, its_number place l o k f h) };
  follows = λ b bs. (refl, refl);
}

-- so the bindings and the cores stay
pub answered_over : (p : Program) (x : CircuitBinding) (l : LinkId) (o : Opening) (a : Answer) (cores : List TheCore) (bs : List Binding)
    → HasDispatcher cores (id_of x.client) → IsAt cores x.client.core (IsAnsweredIn x.client.place l o a) → OpensOver p x l o a cores cores bs bs
answered_over p x l o a cores bs there h =
    let it = h there.core there.core_is in
    let b : Binding = record { interface = x.interface; client = x.client.core; server = x.server; unmade = Some (fresh p None) } in
    record {
      begun = it.outcome;
      begins = record {
        own = p;
        own_is = refl;
        begins = record {
          before = there.core;
          before_is = there.core_is;
          after = there.core;
          event = it.begins p;
          rest = sym (set_same cores x.client.core there.core there.core_is);
        };
      };
      binding = b;
      unmade = record { copy = p; copy_is = refl; is = refl };
      follows = it.follows b bs;
    }

-- what a core is at a place that is read
pub is_at : (cores : List TheCore) (n : ℕ) → n < length cores → (read : TheCore) → read ≡ slice_index_or cores n read → (Fact : TheCore → Type 0) → Fact read
    → IsAt cores n Fact
is_at cores n below read value Fact h k is =
    subst Fact (same_some read k (sym (stands cores n read read below value refl) ∙ is)) h
