-- A call that an end handled stays to be read: as it came, or as its numbers.
use Rattle.std.proofs.Common.{◌≡◌, ℕ, List, [], ◌∷◌, ◌++◌, map, length, Option, Some, None, Result, Ok, Err, refl, sym, ap, subst, ◌∙◌, arith}
use Rattle.std.specs.Prelude.{slice_get, slice_set, ◌+◌, IsSome}
use Rattle.std.specs.Option.{option_map}
use Rattle.fl_base.specs.declared.fragment.Frag.{Frag}
use Rattle.fl_base.specs.Control.{bare, body}
use Rattle.fl_link.specs.Looks.{saw, found}
use Rattle.fl_ring.specs.SharedSides.{TheSide, SharedTakes}
use Rattle.fl_value_data.specs.declared.value.Call.{Call}
use Rattle.fl_value_data.specs.Value.{TheCall, call_of}
use Rattle.fl_value_data.specs.Tape.{tape_of}
use Rattle.fl_wire.specs.Payload.{frags_of}
use Rattle.fl_wire.specs.Reading.{OneReading}
use Rattle.fl_compile.specs.declared.program.Program.{Program}
use Rattle.fl_compile.specs.Programs.{TheProgram, program_of}
use Rattle.fl_machine.specs.Reassembling.{TheReassembly}
use Rattle.fl_endpoint.specs.declared.answer.ReceiveAnswer.{ReceiveAnswer}
use Rattle.fl_endpoint.specs.declared.answer.ReceiveAnswer.TheVariants.{Handle, Part, Quiet, Empty, HeldBack}
use Rattle.fl_endpoint.specs.declared.fault.EndFault.{EndFault}
use Rattle.fl_endpoint.specs.declared.fault.EndFault.TheVariants.{Spent, Busy, UnknownMessage, Misfit, NotBound, Failed, Wire, Memory}
use Rattle.fl_endpoint.specs.View.{TheEnd, frags_from, rule_at, queued_if, with_parts, with_handled}
use Rattle.fl_endpoint.specs.Events.{IsOpen, AreCall, Receives}
use Rattle.fl_endpoint.specs.Lent.{IsOf, IsPlaceOf, receipt, ReceivesAt}
use Rattle.fl_c_operations.proofs.Sent.{are_call, set_same, standing}
use Rattle.fl_c_operations.specs.declared.answer.UseFault.{UseFault}
use Rattle.fl_c_operations.specs.declared.answer.UseFault.TheVariants.{NoSuchOperation, WrongRoom, ShortRoom, Unread, OnlyAcknowledges, Link, End}
use Rattle.fl_c_operations.specs.declared.answer.UseFault.TheVariants.{Unwritten, HandledShort, HandledMemory}
use Rattle.fl_c_operations.specs.declared.answer.Outcome.TheVariants.{Handled}
use Rattle.fl_c_operations.specs.Calls.{PutsCall, numbers_of_call, PutsNumbers}
use Rattle.fl_c_operations.specs.declared.unread.UnreadCall.{UnreadCall}
use Rattle.fl_c_operations.specs.Transmissions.{IsShortAt}
use Rattle.fl_c_operations.specs.Glances.{TakesShort}
use Rattle.fl_c_operations.specs.View.{TheHeld, program_of_held, handled_by, IsBetween}
use Rattle.fl_c_operations.specs.Ends.{received_as, unread_in, ReceivesNext}

set_first : {X : Type 0} (xs : List X) (x y r : X) → slice_get xs 0 ≡ Some x → slice_get (slice_set xs 0 y) 0 ≡ Some r → r ≡ y
set_first [] x y r e h = absurd (cc)
set_first (z ∷ xs) x y r e h = let same : y ≡ r = cc in sym same

pub bare_twice : (f : Frag) → bare (bare f) ≡ bare f
bare_twice f =
    let same : body (body f.control) ≡ body f.control = omega arith in
    ap (λ (w : ℕ). record { words = f.words; control = w }) same

-- ---- as it came

after_call : (s t : TheEnd) (p q : TheSide) (call : Call) → Receives SharedTakes s p (Ok (Handle call)) t q → (t.program ≡ s.program) × (t.parts ≡ [])
after_call s t p q call (opened, (f, m, is, sees, gets, (are, t_is))) = (ap (λ (x : TheEnd). x.program) t_is, ap (λ (x : TheEnd). x.parts) t_is)

pub received_next : (h t : TheHeld) (answer : Result ReceiveAnswer EndFault) (kept : Option UnreadCall) → ReceivesAt SharedTakes (receipt h.end h.side answer t.end t.side) h.calls 0 t.calls
    → kept ≡ unread_in answer → t.handled ≡ handled_by t.end.program kept → ReceivesNext h (received_as answer) t
received_next h t (Ok (Handle call)) kept r is handled =
    let after = after_call (with_parts h.end r.was.parts) (with_parts t.end r.is.parts) h.side t.side call r.event.receives in (
      call_of call,
      record {
        was = r.was;
        was_there = r.was_there;
        is = r.is;
        event = record { of = r.event.of; program = r.event.program; takes = r.event.receives };
        after_is = r.after_is;
      },
      handled ∙ ap (handled_by t.end.program) is ∙ ap (λ (p : Program). Some (numbers_of_call (program_of p) (call_of call))) after.0,
    )
received_next h t (Ok Part) kept r is handled = (Ok Part, r, refl, handled ∙ ap (handled_by t.end.program) is)
received_next h t (Ok Quiet) kept r is handled = (Ok Quiet, r, refl, handled ∙ ap (handled_by t.end.program) is)
received_next h t (Ok Empty) kept r is handled = (Ok Empty, r, refl, handled ∙ ap (handled_by t.end.program) is)
received_next h t (Ok HeldBack) kept r is handled = (Ok HeldBack, r, refl, handled ∙ ap (handled_by t.end.program) is)
received_next h t (Err fault) kept r is handled = (Err fault, r, refl, handled ∙ ap (handled_by t.end.program) is)

-- nothing is left of a call that was handled
between_calls : (s t : TheEnd) (p q : TheSide) (calls after : List TheReassembly) (answer : Result ReceiveAnswer EndFault) (kept : UnreadCall) → Some kept ≡ unread_in answer
    → ReceivesAt SharedTakes (receipt s p answer t q) calls 0 after → IsBetween after
between_calls s t p q calls after (Ok (Handle got)) kept e h = λ r there.
    let same = set_first calls h.was h.is r h.was_there (ap (λ (xs : List TheReassembly). slice_get xs 0) (sym h.after_is) ∙ there) in
    ap (λ (x : TheReassembly). x.parts) same ∙ (after_call (with_parts s h.was.parts) (with_parts t h.is.parts) p q got h.event.receives).1
between_calls s t p q calls after (Ok Part) kept e h = absurd (cc)
between_calls s t p q calls after (Ok Quiet) kept e h = absurd (cc)
between_calls s t p q calls after (Ok Empty) kept e h = absurd (cc)
between_calls s t p q calls after (Ok HeldBack) kept e h = absurd (cc)
between_calls s t p q calls after (Err fault) kept e h = absurd (cc)

none_left : (s t : TheEnd) (p q : TheSide) (calls after : List TheReassembly) (answer : Result ReceiveAnswer EndFault) (kept : Option UnreadCall) → kept ≡ unread_in answer → IsSome kept
    → ReceivesAt SharedTakes (receipt s p answer t q) calls 0 after → IsBetween after
none_left s t p q calls after answer None is some h = absurd cc
none_left s t p q calls after answer (Some kept) is some h = between_calls s t p q calls after answer kept is h

pub left_between : (s t : TheEnd) (calls after : List TheReassembly) (answer : Result ReceiveAnswer EndFault) (kept : Option UnreadCall) → kept ≡ unread_in answer → IsSome kept
    → {p q : TheSide} → ReceivesAt SharedTakes (receipt s p answer t q) calls 0 after → IsBetween after
left_between s t calls after answer kept is some h = none_left s t _ _ calls after answer kept is some h

-- ---- as its numbers

no_reply_at : (s : TheEnd) (c : TheCall) (o : Option ℕ) → o ≡ None
    → with_parts s [] ≡ record s { parts = []; outgoing = queued_if s.outgoing (option_map (frags_from s) (option_map (λ (reply : ℕ). record { msg = reply; args = c.args }) o)) }
no_reply_at s c None e = refl
no_reply_at s c (Some reply) e = absurd (cc)

-- a call to which there is no reply by rule changes nothing of an end between two calls
no_reply : (s : TheEnd) (c : TheCall) → rule_at s.rules c.msg ≡ None → with_parts s [] ≡ with_handled s c
no_reply s c e = no_reply_at s c (rule_at s.rules c.msg) e

only_means : (x : TheProgram) (parts : List Frag) (f : Frag) (c : TheCall) → parts ≡ [] → bare f ≡ f → frags_of x.plan x.interface c ≡ f ∷ []
    → map bare (parts ++ f ∷ []) ≡ frags_of x.plan x.interface c
only_means x parts f c none is frags =
    ap (λ (ps : List Frag). map bare (ps ++ f ∷ [])) none ∙ ap (λ (g : Frag). g ∷ []) is ∙ sym frags

short_next : OneReading → (h t : TheHeld) (f : Frag) (m : TheSide) (msg : ℕ) (tape : List ℕ) → IsPlaceOf h.end h.calls 0 → IsBetween h.calls → IsOpen h.end
    → bare f ≡ f → SharedTakes h.side (saw f) m → SharedTakes m (found f) t.side → IsShortAt h.end msg tape f
    → t.end ≡ h.end → t.calls ≡ h.calls → t.handled ≡ Some (msg ∷ tape) → ReceivesNext h (Ok Handled) t
short_next law h t f m msg tape place between opened is sees gets at e calls handled =
    let (r, there, of) = standing h.end (slice_get h.calls 0) place in
    let none = between r there in
    let (c, has, only) = at.short in
    let s = with_parts h.end r.parts in
    let no_rule : rule_at h.end.rules c.msg ≡ None = subst (λ (n : ℕ). rule_at h.end.rules n ≡ None) (sym has.message) at.rule in
    let are : AreCall s (r.parts ++ f ∷ []) c = are_call s f c law at.words of.are_bare is has.fits (only_means (program_of_held h) r.parts f c none is only) in
    let after : with_parts t.end r.parts ≡ with_handled s c
    = ap (λ (x : TheEnd). with_parts x r.parts) e ∙ ap (λ (ps : List Frag). with_parts h.end ps) none ∙ no_reply s c no_rule in (
      c,
      record {
        was = r;
        was_there = there;
        is = r;
        event = record {
          of = subst (λ (x : TheEnd). IsOf x r) (sym e) of;
          program = refl;
          takes = (opened, (f, m, is, sees, gets, (are, after)));
        };
        after_is = calls ∙ sym (set_same h.calls 0 r there);
      },
      handled ∙ ap (λ (l : List ℕ). Some l) (ap (λ (n : ℕ). n ∷ tape) (sym has.message) ∙ ap (λ (l : List ℕ). c.msg ∷ l) has.whole),
    )

pub short_taken : OneReading → (h t : TheHeld) (msg : ℕ) (tape : List ℕ) → IsPlaceOf h.end h.calls 0 → IsBetween h.calls → TakesShort h.end h.side msg tape t.side
    → t.end ≡ h.end → t.calls ≡ h.calls → t.handled ≡ Some (msg ∷ tape) → ReceivesNext h (Ok Handled) t
short_taken law h t msg tape place between (opened, (f, m, is, sees, gets, at)) e calls handled =
    short_next law h t f m msg tape place between opened is sees gets at e calls handled

-- ---- a room

-- a call that is put into a room is put there by its numbers
pub puts_numbers : (x : TheProgram) (call : Call) (room : List ℕ) (r : Result ℕ UseFault) (written : List ℕ) → PutsCall x call room r written → PutsNumbers (numbers_of_call x (call_of call)) room r written
puts_numbers x call room (Ok count) written h =
    let long : length (tape_of x.plan x.interface (call_of call)) + 1 ≡ length (numbers_of_call x (call_of call)) = omega arith in
    (h.0 ∙ long, h.1)
puts_numbers x call room (Err (ShortRoom wanted)) written h =
    let long : length (tape_of x.plan x.interface (call_of call)) + 1 ≡ length (numbers_of_call x (call_of call)) = omega arith in
    (h.0 ∙ long, h.1, h.2)
puts_numbers x call room (Err (End Memory)) written h = h
puts_numbers x call room (Err (Unwritten fault)) written h = absurd h
puts_numbers x call room (Err (HandledShort wanted)) written h = absurd h
puts_numbers x call room (Err HandledMemory) written h = absurd h
puts_numbers x call room (Err (End Spent)) written h = absurd h
puts_numbers x call room (Err (End Busy)) written h = absurd h
puts_numbers x call room (Err (End UnknownMessage)) written h = absurd h
puts_numbers x call room (Err (End Misfit)) written h = absurd h
puts_numbers x call room (Err (End NotBound)) written h = absurd h
puts_numbers x call room (Err (End Failed)) written h = absurd h
puts_numbers x call room (Err (End (Wire fault))) written h = absurd h
puts_numbers x call room (Err NoSuchOperation) written h = absurd h
puts_numbers x call room (Err WrongRoom) written h = absurd h
puts_numbers x call room (Err Unread) written h = absurd h
puts_numbers x call room (Err OnlyAcknowledges) written h = absurd h
puts_numbers x call room (Err (Link fault)) written h = absurd h
