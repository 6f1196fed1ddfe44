-- Ends: a new end, one that is bound, calls and writes.
use Rattle.std.proofs.Common.{◌≡◌, ◌≢◌, refl, sym, ◌∙◌, ap, subst, ℕ, zero, suc, ◌≤◌, ◌<◌, nat_le, not, Bool, true, false, if◌then◌else◌, List, [], ◌∷◌, length, map, drop, slice_get, Option, Some, None, is_some, arith}
use Rattle.std.specs.Prelude.{unwrap_or, IsSome, Result, Ok, Err, replicate, slice_index, take}
use Rattle.std.proofs.lemmas.Bool.{false≢true}
use Rattle.fl_base.specs.declared.fragment.Frag.{Frag}
use Rattle.fl_base.specs.declared.identity.EndId.{EndId}
use Rattle.fl_interface.specs.Interface.{TheMessage, TheInterface}
use Rattle.fl_value_data.specs.Value.{Datum, TheCall}
use Rattle.fl_value_data.specs.Fits.{fits_of, fit_message}
use Rattle.fl_compile.specs.declared.program.Program.{Program}
use Rattle.fl_wire.specs.Payload.{frags_on}
use Rattle.fl_link.specs.Looks.{Look}
use Rattle.fl_endpoint.specs.declared.fault.EndFault.{EndFault}
use Rattle.fl_endpoint.specs.declared.fault.EndFault.TheVariants.{Spent, Busy, UnknownMessage, Misfit, NotBound, Failed, Wire, Memory}
use Rattle.fl_endpoint.specs.declared.answer.WriteAnswer.{WriteAnswer}
use Rattle.fl_endpoint.specs.declared.answer.WriteAnswer.TheVariants.{Written, Full, Nothing}
use Rattle.fl_endpoint.specs.View.{TheEnd, TheOutgoing, interface_in, fresh, bound, bound_by, number_or_0, frags_from, queued, wrote, nothing_to_send}
use Rattle.fl_endpoint.specs.Events.{Calls, Writes, ShowsNext, IsMessage}
use Rattle.fl_endpoint.specs.Accounts.{Sound}
use Rattle.fl_model.specs.Calls.{Planned, total, last_count, whole_in, stream}
use Rattle.fl_model.specs.Events.{accepted, nothing, refused}
use Rattle.fl_model.specs.Rings.{Room, there_is_room, no_room as none_free, spent as used_up}
use Rattle.fl_model.specs.Ends.{Queue, Direction, written_of, last_station, is_busy, accepts, Wrote, writes, writes_by, End, is_bound, fresh_direction, unbound_end}
use Rattle.fl_model.specs.State.{State, StepOutcome, answers, change_out}
use Rattle.fl_model.specs.Sending.{next_fragment}
use Rattle.fl_model.specs.SoundLabels.{IsCounted}
use Rattle.fl_world_refines.specs.Ends.{planned_of, outgoing_of, circuit_of, EndShows}
use Rattle.fl_world_refines.specs.EndLaws.{with_out, CallAgrees, CallShows, NextAgrees, WriteAgrees, WriteShows}
use Rattle.fl_world_refines.proofs.Tests.{then_is, else_is, lt_false, le_true, le_false}
use Rattle.fl_world_refines.proofs.Streams.{frags}
use Rattle.fl_world_refines.proofs.Sending.{same_outgoing, unwritten, each_frags, nothing_left, idle_nothing, busy_some, busy_by, idle_by, accepted_is, wrote_is, progress_is, first_of_drop, none_of_drop}

-- ---- what a what is shown says

pub same_interface : (i : Planned) (x : End) (peer : Direction) (s : TheEnd) → EndShows i x peer s → interface_in s ≡ i.interface
same_interface i x peer s h = ap (λ (p : Planned). p.interface) h.program

pub same_fits : (i : Planned) (x : End) (peer : Direction) (s : TheEnd) (c : TheCall) (b : Bool) → EndShows i x peer s
    → fits_of (interface_in s) c ≡ b → fits_of i.interface c ≡ b
same_fits i x peer s c b h e = subst (λ (t : TheInterface). fits_of t c ≡ b) (same_interface i x peer s h) e

pub same_frags : (i : Planned) (x : End) (peer : Direction) (s : TheEnd) (c : TheCall) → EndShows i x peer s → frags_from s c ≡ frags (circuit_of x) i c
same_frags i x peer s c h =
    ap (λ (o : Option ℕ). frags (number_or_0 o) (planned_of s.program) c) h.circuit
    ∙ ap (λ (p : Planned). frags (circuit_of x) p c) h.program

pub bound_is : (i : Planned) (x : End) (peer : Direction) (s : TheEnd) → EndShows i x peer s → IsSome s.circuit → is_bound x ≡ true
bound_is i x peer s h b = subst (λ (o : Option ℕ). is_some o ≡ true) h.circuit b

pub unbound_is : (i : Planned) (x : End) (peer : Direction) (s : TheEnd) → EndShows i x peer s → s.circuit ≡ None → is_bound x ≡ false
unbound_is i x peer s h b = ap is_some (sym h.circuit ∙ b)

pub not_failed : {P : Type 0} (i : Planned) (x : End) (peer : Direction) (s : TheEnd) → EndShows i x peer s → s.failed ≡ true → P
not_failed i x peer s h b = absurd (let e : true ≡ false = sym b ∙ h.failed in cc)

pub unwritten_is : (i : Planned) (x : End) (peer : Direction) (s : TheEnd) → EndShows i x peer s → s.outgoing.unwritten ≡ unwritten (circuit_of x) i x.out
unwritten_is i x peer s h = ap (λ (o : TheOutgoing). o.unwritten) h.outgoing

pub busy_is : (i : Planned) (x : End) (peer : Direction) (s : TheEnd) → EndShows i x peer s → s.outgoing.unwritten ≢ [] → is_busy i x.out ≡ true
busy_is i x peer s h b = busy_some (circuit_of x) i x.out (λ e. b (unwritten_is i x peer s h ∙ e))

pub idle_is : (i : Planned) (x : End) (peer : Direction) (s : TheEnd) → EndShows i x peer s → s.outgoing.unwritten ≡ [] → is_busy i x.out ≡ false
idle_is i x peer s h b = idle_by (circuit_of x) i x.out (sym (unwritten_is i x peer s h) ∙ b)

pub stays : (i : Planned) (x : End) (peer : Direction) (s t : TheEnd) → EndShows i x peer s → t ≡ s → EndShows i x peer t
stays i x peer s t h e = subst (EndShows i x peer) (sym e) h

-- the end with something else to send
pub with_outgoing : (i : Planned) (x : End) (d peer : Direction) (s : TheEnd) (o : TheOutgoing) → EndShows i x peer s
    → o ≡ outgoing_of (circuit_of x) i d → EndShows i (record x { out = d }) peer (record s { outgoing = o })
with_outgoing i x d peer s o h e = record {
  program = h.program;
  circuit = h.circuit;
  rules = h.rules;
  outgoing = e;
  parts = h.parts;
  failed = h.failed;
}

-- ---- a new end

zero_at : (n k : ℕ) → slice_index (replicate n 0) k ≡ 0
zero_at zero k = refl
zero_at (suc n) zero = refl
zero_at (suc n) (suc k) = zero_at n k

pub fresh_is : (program : Program) (stations : ℕ) (queue : Option Queue) (i : Planned) → planned_of program ≡ i
    → EndShows i (unbound_end (length i.interface.messages) stations queue) (fresh_direction stations) (fresh program None)
fresh_is program stations queue i e =
    let d = fresh_direction stations in
    let idle : is_busy i (fresh_direction stations) ≡ false = lt_false (written_of (fresh_direction stations)) 0 (omega arith) in
    record {
      program = e;
      circuit = refl;
      rules = ap (λ (p : Planned). replicate (length p.interface.messages) None) e;
      outgoing = same_outgoing [] (unwritten 0 i (fresh_direction stations)) 0 (if is_busy i (fresh_direction stations) then 0 else 0) [] []
          (sym (nothing_left 0 i (fresh_direction stations) (omega arith))) (sym (else_is (is_busy i (fresh_direction stations)) 0 0 idle)) refl;
      parts = sym (ap (λ (n : ℕ). drop (total i (whole_in i [] n)) (take n (stream 0 i []))) (zero_at stations (last_station (fresh_direction stations))));
      failed = refl;
    }

no_more : {A B : Type 0} (f : A → B) (xs : List A) → map f xs ≡ [] → xs ≡ []
no_more f [] h = refl
no_more f (x ∷ xs) h = absurd (cc)

pub bound_is_bound : (i : Planned) (x : End) (peer : Direction) (s : TheEnd) (circuit : ℕ) → EndShows i x peer s → Sound s
    → x.circuit ≡ None → EndShows i (record x { circuit = Some circuit }) peer (bound s circuit)
bound_is_bound i x peer s circuit h k u =
    let none : s.circuit ≡ None = h.circuit ∙ u in
    let nothing : s.outgoing ≡ nothing_to_send = (k.unbound none).outgoing in
    let was : outgoing_of (circuit_of x) i x.out ≡ nothing_to_send = sym h.outgoing ∙ nothing in
    let idle : is_busy i x.out ≡ false = idle_by (circuit_of x) i x.out (ap (λ (o : TheOutgoing). o.unwritten) was) in
    let empty : x.out.waiting ≡ [] = no_more (frags_on (circuit_of x) i.plan i.interface) x.out.waiting (ap (λ (o : TheOutgoing). o.waiting) was) in
    let now : nothing_to_send ≡ outgoing_of circuit i x.out
    = same_outgoing [] (unwritten circuit i x.out) 0 (if is_busy i x.out then last_count i x.out.accepted else 0) [] (each_frags circuit i x.out.waiting)
    (sym (idle_nothing circuit i x.out idle)) (sym (else_is (is_busy i x.out) (last_count i x.out.accepted) 0 idle))
    (sym (ap (each_frags circuit i) empty)) in
    let becomes : bound s circuit ≡ record s { circuit = Some circuit } = ap (λ (o : Option ℕ). bound_by o circuit s) none in
    subst (EndShows i (record x { circuit = Some circuit }) peer) (sym becomes) (record {
      program = h.program;
      circuit = refl;
      rules = h.rules;
      outgoing = nothing ∙ now;
      parts = h.parts;
      failed = h.failed;
    })

-- ---- a call

known : (ms : List TheMessage) (n : ℕ) (ds : List Datum) → fit_message (slice_get ms n) ds ≡ true → n < length ms
known [] n ds h = absurd (false≢true h)
known (m ∷ ms) zero ds h = omega arith
known (m ∷ ms) (suc n) ds h = omega (arith, known ms n ds h)

pub none_past : {X : Type 0} (xs : List X) (n : ℕ) → slice_get xs n ≡ None → length xs ≤ n
none_past [] n h = omega arith
none_past (x ∷ xs) zero h = absurd (cc)
none_past (x ∷ xs) (suc n) h = omega (arith, none_past xs n h)

pub some_within : {X : Type 0} (xs : List X) (n : ℕ) → is_some (slice_get xs n) ≡ true → n < length xs
some_within [] n h = absurd (false≢true h)
some_within (x ∷ xs) zero h = omega arith
some_within (x ∷ xs) (suc n) h = omega (arith, some_within xs n h)

-- the machine's answers, for its first reason
abbrev by_reasons : EndId → TheCall → State → Bool → Bool → Bool → Bool → StepOutcome
by_reasons e c z unknown fits bound_now busy =
    if unknown then answers z (refused 41)
    else if not fits then answers z (refused 42)
    else if not bound_now then answers z (refused 43)
    else if busy then answers z (refused 40)
    else answers (change_out e (accepts c) z) accepted

unknown_first : (e : EndId) (c : TheCall) (z : State) (u f b y : Bool) → u ≡ true → by_reasons e c z u f b y ≡ answers z (refused 41)
unknown_first e c z u f b y p = ap (λ (t : Bool). by_reasons e c z t f b y) p

misfit_next : (e : EndId) (c : TheCall) (z : State) (u f b y : Bool) → u ≡ false → f ≡ false → by_reasons e c z u f b y ≡ answers z (refused 42)
misfit_next e c z u f b y p q = ap (λ (t : Bool). by_reasons e c z t f b y) p ∙ ap (λ (t : Bool). by_reasons e c z false t b y) q

unbound_next : (e : EndId) (c : TheCall) (z : State) (u f b y : Bool) → u ≡ false → f ≡ true → b ≡ false → by_reasons e c z u f b y ≡ answers z (refused 43)
unbound_next e c z u f b y p q r =
    ap (λ (t : Bool). by_reasons e c z t f b y) p ∙ ap (λ (t : Bool). by_reasons e c z false t b y) q
    ∙ ap (λ (t : Bool). by_reasons e c z false true t y) r

busy_next : (e : EndId) (c : TheCall) (z : State) (u f b y : Bool) → u ≡ false → f ≡ true → b ≡ true → y ≡ true → by_reasons e c z u f b y ≡ answers z (refused 40)
busy_next e c z u f b y p q r v =
    ap (λ (t : Bool). by_reasons e c z t f b y) p ∙ ap (λ (t : Bool). by_reasons e c z false t b y) q
    ∙ ap (λ (t : Bool). by_reasons e c z false true t y) r ∙ ap (by_reasons e c z false true true) v

accepted_last : (e : EndId) (c : TheCall) (z : State) (u f b y : Bool) → u ≡ false → f ≡ true → b ≡ true → y ≡ false
    → by_reasons e c z u f b y ≡ answers (change_out e (accepts c) z) accepted
accepted_last e c z u f b y p q r v =
    ap (λ (t : Bool). by_reasons e c z t f b y) p ∙ ap (λ (t : Bool). by_reasons e c z false t b y) q
    ∙ ap (λ (t : Bool). by_reasons e c z false true t y) r ∙ ap (by_reasons e c z false true true) v

abbrev is_unknown : Planned → TheCall → Bool
is_unknown i c = nat_le (length i.interface.messages) c.msg

-- a call that fits is of a message that is there
fits_known : (i : Planned) (c : TheCall) → fits_of i.interface c ≡ true → is_unknown i c ≡ false
fits_known i c h = le_false (length i.interface.messages) c.msg (known i.interface.messages c.msg c.args h)

call_by : (e : EndId) (c : TheCall) (i : Planned) (x : End) (peer : Direction) (s t : TheEnd) (answer : Result (Unit {0}) EndFault)
    → EndShows i x peer s → IsCounted i x.out → Calls s c answer t
    → CallAgrees e c (record { interface = i; end = x; peer = peer }) answer t
call_by e c i x peer s t (Ok done) h k a =
    let fits : fits_of i.interface c ≡ true = same_fits i x peer s c true h a.0 in
    let idle : is_busy i x.out ≡ false = idle_is i x peer s h a.2 in
    let sent : queued s.outgoing (frags_from s c) ≡ outgoing_of (circuit_of x) i (accepts c x.out)
    = ap (λ (o : TheOutgoing). queued o (frags_from s c)) h.outgoing
    ∙ ap (queued (outgoing_of (circuit_of x) i x.out)) (same_frags i x peer s c h)
    ∙ accepted_is (circuit_of x) i c x.out k idle in (
      λ z. accepted_last e c z (is_unknown i c) (fits_of i.interface c) (is_bound x) (is_busy i x.out)
          (fits_known i c fits) fits (bound_is i x peer s h a.1.0) idle,
      subst (EndShows i (with_out (accepts c) x) peer) (sym a.3)
          (with_outgoing i x (accepts c x.out) peer s (queued s.outgoing (frags_from s c)) h sent),
    )
call_by e c i x peer s t (Err UnknownMessage) h k a =
    let past : length i.interface.messages ≤ c.msg
    = none_past i.interface.messages c.msg (subst (λ (j : TheInterface). slice_get j.messages c.msg ≡ None) (same_interface i x peer s h) a.0) in (
      λ z. unknown_first e c z (is_unknown i c) (fits_of i.interface c) (is_bound x) (is_busy i x.out) (le_true (length i.interface.messages) c.msg past),
      stays i x peer s t h a.1,
    )
call_by e c i x peer s t (Err Misfit) h k a =
    let there : c.msg < length i.interface.messages
    = some_within i.interface.messages c.msg (subst (λ (j : TheInterface). IsMessage j c.msg) (same_interface i x peer s h) a.0) in (
      λ z. misfit_next e c z (is_unknown i c) (fits_of i.interface c) (is_bound x) (is_busy i x.out)
          (le_false (length i.interface.messages) c.msg there) (same_fits i x peer s c false h a.1),
      stays i x peer s t h a.2,
    )
call_by e c i x peer s t (Err NotBound) h k a =
    let fits : fits_of i.interface c ≡ true = same_fits i x peer s c true h a.0 in (
      λ z. unbound_next e c z (is_unknown i c) (fits_of i.interface c) (is_bound x) (is_busy i x.out)
          (fits_known i c fits) fits (unbound_is i x peer s h a.1),
      stays i x peer s t h a.2,
    )
call_by e c i x peer s t (Err Failed) h k a = not_failed i x peer s h a.1.1
call_by e c i x peer s t (Err Busy) h k a =
    let fits : fits_of i.interface c ≡ true = same_fits i x peer s c true h a.0 in (
      λ z. busy_next e c z (is_unknown i c) (fits_of i.interface c) (is_bound x) (is_busy i x.out)
          (fits_known i c fits) fits (bound_is i x peer s h a.1.0) (busy_is i x peer s h a.2),
      stays i x peer s t h a.3,
    )
call_by e c i x peer s t (Err Memory) h k a = stays i x peer s t h a.3
call_by e c i x peer s t (Err Spent) h k a = absurd a
call_by e c i x peer s t (Err (Wire fault)) h k a = absurd a

pub call_agrees : CallShows
call_agrees e c m s t answer h k a = call_by e c m.interface m.end m.peer s t answer h k a

-- ---- the fragment that would be written next

same_number : (o : Option ℕ) → unwrap_or o 0 ≡ number_or_0 o
same_number None = refl
same_number (Some n) = refl

-- it is the first of those that are to be written
pub next_is : (i : Planned) (x : End) (f : Frag) (rest : List Frag) → unwritten (circuit_of x) i x.out ≡ f ∷ rest → next_fragment i x ≡ Some f
next_is i x f rest q =
    ap (λ (n : ℕ). slice_get (stream n i x.out.accepted) (written_of x.out)) (same_number x.circuit)
    ∙ first_of_drop (stream (circuit_of x) i x.out.accepted) (written_of x.out) f rest q

none_is : (i : Planned) (x : End) → unwritten (circuit_of x) i x.out ≡ [] → next_fragment i x ≡ None
none_is i x q =
    ap (λ (n : ℕ). slice_get (stream n i x.out.accepted) (written_of x.out)) (same_number x.circuit)
    ∙ none_of_drop (stream (circuit_of x) i x.out.accepted) (written_of x.out) q

pub next_agrees : (epoch told : ℕ) (i : Planned) (x : End) (peer : Direction) (s : TheEnd) (answer : Result (Option Frag) EndFault)
    → EndShows i x peer s → ShowsNext epoch told s answer → NextAgrees epoch told i x answer
next_agrees epoch told i x peer s (Ok (Some frag)) h a = (
  bound_is i x peer s h a.0.0,
  (a.1.0, next_is i x a.1.0 a.1.1 (sym (unwritten_is i x peer s h) ∙ a.1.2), a.1.3),
)
next_agrees epoch told i x peer s (Ok None) h a = (
  bound_is i x peer s h a.0.0,
  none_is i x (sym (unwritten_is i x peer s h) ∙ a.1),
)
next_agrees epoch told i x peer s (Err NotBound) h a = unbound_is i x peer s h a
next_agrees epoch told i x peer s (Err Failed) h a = not_failed i x peer s h a.1
next_agrees epoch told i x peer s (Err fault) h a = absurd a

-- ---- a write

-- where the end is busy, the machine writes by the room
writes_is : (i : Planned) (d : Direction) (r : Room) → is_busy i d ≡ true → writes i d r ≡ writes_by i d r
writes_is i d r q = then_is (is_busy i d) (writes_by i d r) (record { direction = d; answer = nothing }) q

write_by : {P : Type 0} (puts : P → Look → P → Type 0) (i : Planned) (x : End) (peer : Direction) (p q : P) (s t : TheEnd)
    (answer : Result WriteAnswer EndFault) → EndShows i x peer s → IsCounted i x.out → 1 ≤ length x.out.passed
    → Writes puts s p answer t q → WriteAgrees puts (record { interface = i; end = x; peer = peer }) p answer t q
write_by puts i x peer p q s t (Ok (Written number count)) h k n a =
    let first : unwritten (circuit_of x) i x.out ≡ a.1.0 ∷ a.1.1 = sym (unwritten_is i x peer s h) ∙ a.1.2 in
    let busy : is_busy i x.out ≡ true = busy_by (circuit_of x) i x.out a.1.0 a.1.1 first in
    let now : writes i x.out there_is_room ≡ writes_by i x.out there_is_room = writes_is i x.out there_is_room busy in
    let many : count ≡ (outgoing_of (circuit_of x) i x.out).count = a.1.3 ∙ ap (λ (o : TheOutgoing). o.count) h.outgoing in
    let sent : wrote a.1.1 s.outgoing ≡ outgoing_of (circuit_of x) i (writes i x.out there_is_room).direction
    = ap (wrote a.1.1) h.outgoing ∙ wrote_is (circuit_of x) i x.out a.1.0 a.1.1 n first
    ∙ ap (λ (w : Wrote). outgoing_of (circuit_of x) i w.direction) (sym now) in (
      (bound_is i x peer s h a.0.0, busy),
      (a.1.0, next_is i x a.1.0 a.1.1 first, a.1.5),
      ap (λ (w : Wrote). w.answer) now ∙ progress_is (circuit_of x) i x.out a.1.0 a.1.1 number count k first many a.1.4,
      subst (EndShows i (with_out (λ d. (writes i d there_is_room).direction) x) peer) (sym a.1.6)
          (with_outgoing i x (writes i x.out there_is_room).direction peer s (wrote a.1.1 s.outgoing) h sent),
    )
write_by puts i x peer p q s t (Ok Full) h k n a =
    let busy : is_busy i x.out ≡ true = busy_is i x peer s h a.1 in (
      (bound_is i x peer s h a.0.0, busy),
      a.2,
      ap (λ (w : Wrote). w.answer) (writes_is i x.out none_free busy),
      stays i x peer s t h a.3,
    )
write_by puts i x peer p q s t (Ok Nothing) h k n a = (
  bound_is i x peer s h a.0.0,
  idle_is i x peer s h a.1,
  a.2,
  stays i x peer s t h a.3,
)
write_by puts i x peer p q s t (Err Spent) h k n a =
    let busy : is_busy i x.out ≡ true = busy_is i x peer s h a.1 in (
      (bound_is i x peer s h a.0.0, busy),
      a.2,
      ap (λ (w : Wrote). w.answer) (writes_is i x.out used_up busy),
      stays i x peer s t h a.3,
    )
write_by puts i x peer p q s t (Err NotBound) h k n a = (unbound_is i x peer s h a.0, a.1, stays i x peer s t h a.2)
write_by puts i x peer p q s t (Err Failed) h k n a = not_failed i x peer s h a.0.1
write_by puts i x peer p q s t (Err fault) h k n a = absurd a

pub write_agrees : {P : Type 0} (puts : P → Look → P → Type 0) → WriteShows puts
write_agrees puts m p q s t answer h k n a = write_by puts m.interface m.end m.peer p q s t answer h k n a
