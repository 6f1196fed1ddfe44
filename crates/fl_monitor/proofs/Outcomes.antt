-- A message comes to one thing at most; and what is always said.
use Rattle.std.proofs.Common.{◌≡◌, ◌∙◌, refl, sym, ap, subst, ℕ, List}
use Rattle.std.specs.Prelude.{Option, Some, None, IsSome, Result, Ok, Err, OnErr}
use Rattle.fl_base.specs.declared.identity.CoreId.{CoreId}
use Rattle.fl_base.specs.declared.identity.Circuit.{Circuit}
use Rattle.fl_base.specs.declared.identity.IRef.{IRef}
use Rattle.fl_base.specs.declared.identity.LinkId.{LinkId}
use Rattle.fl_hop.specs.declared.entry.Hop.{Hop}
use Rattle.fl_hop.specs.Table.{TheCircuits, hop_at}
use Rattle.fl_hop.specs.Openings.{IsWaiting}
use Rattle.fl_monitor.specs.declared.message.MonitorMessage.TheVariants.{OpenCircuit, CircuitOpened, CircuitRefused}
use Rattle.fl_monitor.specs.declared.message.MonitorMessage.{MonitorMessage}
use Rattle.fl_monitor.specs.declared.heard.MessageOutcome.{MessageOutcome}
use Rattle.fl_monitor.specs.declared.decision.OpeningDecision.{OpeningDecision}
use Rattle.fl_monitor.specs.declared.decision.OpeningDecision.TheVariants.{GoesOn, EndsAt, Fails}
use Rattle.fl_monitor.specs.Fates.{Known, fate}
use Rattle.fl_monitor.specs.Hearing.{heard_by, opened_at, refused_at, ComesTo, says, OneOutcome}

same_hop : (x : Option Hop) (a b : Hop) → x ≡ Some a → x ≡ Some b → a ≡ b
same_hop x a b p q = cc

pub one_outcome : OneOutcome
one_outcome k t l (OpenCircuit c binding service path) a b p q = p.1 ∙ sym q.1
one_outcome k t l (CircuitOpened c) a b p q =
    let same = same_hop _ p.0 q.0 p.1.there q.1.there in
    p.2 ∙ ap (λ (hop : Hop). opened_at c hop.binding hop.way) same ∙ sym q.2
one_outcome k t l (CircuitRefused c reason) a b p q =
    let same = same_hop _ p.0 q.0 p.1.there q.1.there in
    p.2 ∙ ap (λ (hop : Hop). refused_at reason hop.binding hop.way) same ∙ sym q.2

-- ---- what is said

-- an opening is passed on or answered
pub opening_says : (k : Known) (t : TheCircuits) (l : LinkId) (c : Circuit) (binding : ℕ) (service : IRef) (path : List CoreId) (heard : MessageOutcome)
    → ComesTo k t l (OpenCircuit c binding service path) heard → IsSome (says l (OpenCircuit c binding service path) heard)
opening_says k t l c binding service path heard h =
    subst (λ (x : MessageOutcome). IsSome (says l (OpenCircuit c binding service path) x)) (sym h.1) (by (fate k t l.0 (record { binding = binding; service = service; path = path }))) where
      by : (d : OpeningDecision) → IsSome (says l (OpenCircuit c binding service path) (heard_by binding c d))
      by (GoesOn m n) = refl
      by (EndsAt dispatcher) = refl
      by (Fails fault) = refl

-- no entry waits for its answer where none stands
pub none_waits : (t : TheCircuits) (l c : ℕ) → hop_at t l c ≡ None → (hop : Hop) → IsWaiting t l c hop → ⊥
none_waits t l c none hop waits = let there = waits.there in absurd (cc)

pub said : {X : Type 0} (o : Option X) (x : X) → o ≡ Some x → IsSome o
said o x is = rw is refl

pub not_said : {X : Type 0} (o : Option X) → o ≡ None → IsSome o → ⊥
not_said None is some = absurd (cc)
not_said (Some x) is some = absurd (cc)

pub on_err : {T E : Type 0} (r : Result T E) (P : Type 0) → P → OnErr r P
on_err (Ok x) P p = tt
on_err (Err e) P p = p

pub err_so : {T E : Type 0} (r : Result T E) (P Q : Type 0) → (P → Q) → OnErr r P → OnErr r Q
err_so (Ok x) P Q f h = tt
err_so (Err e) P Q f h = f h

-- so memory is wanting only where something is said
pub opening_said : (k : Known) (t : TheCircuits) (l : LinkId) (m : MonitorMessage) (heard : MessageOutcome) (c : Circuit) (binding : ℕ) (service : IRef) (path : List CoreId)
    → m ≡ OpenCircuit c binding service path → ComesTo k t l m heard → IsSome (says l m heard)
opening_said k t l m heard c binding service path is =
    subst (λ (x : MonitorMessage). ComesTo k t l x heard → IsSome (says l x heard)) (sym is) (opening_says k t l c binding service path heard)

pub opened_waits : (k : Known) (t : TheCircuits) (l : LinkId) (m : MonitorMessage) (heard : MessageOutcome) (c : Circuit) → m ≡ CircuitOpened c
    → ((hop : Hop) → IsWaiting t l.0 c.0 hop → ⊥) → ComesTo k t l m heard → IsSome (says l m heard)
opened_waits k t l m heard c is none h = let g = subst (λ (x : MonitorMessage). ComesTo k t l x heard) is h in absurd (none g.0 g.1)

pub refused_waits : (k : Known) (t : TheCircuits) (l : LinkId) (m : MonitorMessage) (heard : MessageOutcome) (c : Circuit) (reason : ℕ) → m ≡ CircuitRefused c reason
    → ((hop : Hop) → IsWaiting t l.0 c.0 hop → ⊥) → ComesTo k t l m heard → IsSome (says l m heard)
refused_waits k t l m heard c reason is none h = let g = subst (λ (x : MonitorMessage). ComesTo k t l x heard) is h in absurd (none g.0 g.1)
