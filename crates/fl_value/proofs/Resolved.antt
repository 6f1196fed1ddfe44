-- What a name and values come to, by the number of the message of the name.
use Rattle.std.proofs.Common.{◌≡◌, ℕ, Bool, true, false, List, Option, Some, None, Result, Ok, Err, refl, ap, sym, ◌∙◌, if◌then◌else◌}
use Rattle.std.specs.Prelude.{nat_lt, IfErr}
use Rattle.fl_interface.specs.Interface.{TheInterface}
use Rattle.fl_value_data.specs.Value.{Datum, TheCall}
use Rattle.fl_value_data.specs.declared.value.Call.{Call}
use Rattle.fl_value.specs.declared.fault.ValueFault.{ValueFault}
use Rattle.fl_value.specs.declared.fault.ValueFault.TheVariants.{NotACall, NoSuchMessage, DoesNotFit, Memory}
use Rattle.fl_value.specs.CallText.{SpellsCall}
use Rattle.fl_value.specs.Fault.{WantsMemory}
use Rattle.fl_value.specs.Resolve.{named_from, where_fitting, resolved_at, resolved, number_below, message_number, Answers, IsOfMessage}

-- no message has the name

unknown_by : (i : TheInterface) (values : List Datum) (k : ℕ) (b : Bool) → (if b then Some k else None) ≡ None
    → (if b then where_fitting i (record { msg = k; args = values }) else Err NoSuchMessage) ≡ Err NoSuchMessage
unknown_by i values k true e = absurd (cc)
unknown_by i values k false e = refl

unknown_at : (i : TheInterface) (values : List Datum) (o : Option ℕ) → number_below o ≡ None → resolved_at i values o ≡ Err NoSuchMessage
unknown_at i values None e = refl
unknown_at i values (Some k) e = unknown_by i values k (nat_lt k 65536) e

pub unknown : (i : TheInterface) (name : List ℕ) (values : List Datum) → message_number i name ≡ None → resolved i name values ≡ Err NoSuchMessage
unknown i name values e = unknown_at i values (named_from name i.messages 0) e

-- a message has it

known_by : (i : TheInterface) (values : List Datum) (k n : ℕ) (b : Bool) → (if b then Some k else None) ≡ Some n
    → (if b then where_fitting i (record { msg = k; args = values }) else Err NoSuchMessage) ≡ where_fitting i (record { msg = n; args = values })
known_by i values k n true e =
    let same : k ≡ n = cc in
    ap (λ (m : ℕ). where_fitting i (record { msg = m; args = values })) same
known_by i values k n false e = absurd (cc)

known_at : (i : TheInterface) (values : List Datum) (n : ℕ) (o : Option ℕ) → number_below o ≡ Some n
    → resolved_at i values o ≡ where_fitting i (record { msg = n; args = values })
known_at i values n None e = absurd (cc)
known_at i values n (Some k) e = known_by i values k n (nat_lt k 65536) e

pub known : (i : TheInterface) (name : List ℕ) (values : List Datum) (n : ℕ) → message_number i name ≡ Some n
    → resolved i name values ≡ where_fitting i (record { msg = n; args = values })
known i name values n e = known_at i values n (named_from name i.messages 0) e

-- ---- want of memory

not_memory : (r : Result TheCall ValueFault) → r ≡ Err Memory → r ≡ Err NoSuchMessage → ⊥
not_memory r h e =
    let same : (let x : Result TheCall ValueFault = Err Memory in x) ≡ Err NoSuchMessage = sym h ∙ e in
    absurd (cc)

-- want of memory may be told where this holds
pub wants_if : {T : Type 0} (r : Result T ValueFault) (P : Type 0) → P → IfErr r (λ e. WantsMemory e P)
wants_if (Ok x) P p = tt
wants_if (Err NotACall) P p = tt
wants_if (Err NoSuchMessage) P p = tt
wants_if (Err DoesNotFit) P p = tt
wants_if (Err Memory) P p = p

-- what a name and values come to is never want of memory
pub wants_resolved : (i : TheInterface) (bytes name : List ℕ) (values : List Datum) (r : Result Call ValueFault) → SpellsCall bytes name values
    → Answers r (resolved i name values) → IfErr r (λ e. WantsMemory e (IsOfMessage i bytes))
wants_resolved i bytes name values (Ok c) s h = tt
wants_resolved i bytes name values (Err NotACall) s h = tt
wants_resolved i bytes name values (Err NoSuchMessage) s h = tt
wants_resolved i bytes name values (Err DoesNotFit) s h = tt
wants_resolved i bytes name values (Err Memory) s h = (name, values, s, not_memory (resolved i name values) h)
