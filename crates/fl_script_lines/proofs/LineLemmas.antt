-- What lines ask, told from their words.
use Rattle.std.proofs.Common.{◌≡◌, inl, inr, ℕ, Bool, true, false, cond, List, Option, Some, None, Result, Ok, Err, refl, sym, subst}
use Rattle.fl_base.specs.declared.identity.EndId.{EndId}
use Rattle.fl_base.specs.Given.{given}
use Rattle.fl_lex.specs.Words.{is_name}
use Rattle.fl_model.specs.Events.{Event}
use Rattle.fl_model.specs.Events as events
use Rattle.fl_value_data.specs.Value.{Datum}
use Rattle.fl_value.specs.CallText.{without_blanks, SpellsCall}
use Rattle.fl_script_lines.specs.declared.event.NamedEvent.{NamedEvent as RustAsked}
use Rattle.fl_model.specs.declared.event.Event.{Event as RustEvent}
use Rattle.fl_script_lines.specs.declared.fault.LineFault.{LineFault}
use Rattle.fl_script_lines.specs.declared.fault.LineFault.TheVariants.{NotACall, Memory}
use Rattle.fl_script_lines.specs.Faults.{number_of}
use Rattle.fl_script_lines.specs.Asked.{Asked, refuses, asks, Asks, asks_call, asks_end, asks_turn}
use Rattle.fl_script_lines.specs.Commands.{EndName, Command, call, turn}
use Rattle.fl_model.specs.Views.{event_of}
use Rattle.fl_script_lines.specs.Lines.{LineAsks, TellsEvent, LineTells, CallTells, asks_by_end, asks_by_dispatcher}
use Rattle.fl_script_lines.specs.Names.{Names, end_at, message_at}
use Rattle.fl_script_lines.specs.Reading.{one_end, end_of, with_end, turn_row, call_row}
use Rattle.fl_script_lines.specs.Told.{Tells, AsksAs}
use Rattle.fl_script_lines.specs.Words.{first_word, behind_word, is_none}

pub end_tells : (n : Names) (mk : EndName → Command) (f : EndId → Event) (rest : List ℕ) (result : Result RustEvent LineFault)
    → ((e : EndName) → Asks n (mk e) (asks_end n f e)) → TellsEvent n result (asks_by_end n f rest) → LineTells n (with_end mk rest) result
end_tells n mk f rest result h t = inr (asks_by_end n f rest, by (one_end rest), t)
  where
    by : (o : Option EndName) → LineAsks n (given o None λ e. Some (mk e)) (given o (refuses 90) λ e. asks_end n f e)
    by None = refl
    by (Some e) = h e

pub turn_tells : (n : Names) (rest : List ℕ) (result : Result RustEvent LineFault) → TellsEvent n result (asks_by_dispatcher n rest)
    → LineTells n (turn_row rest) result
turn_tells n rest result t = inr (asks_by_dispatcher n rest, by (is_name (first_word rest)) (is_none (first_word (behind_word rest))), t)
  where
    by : (name last : Bool)
        → LineAsks n (cond name (cond last (Some (turn (first_word rest))) None) None) (cond name (cond last (asks_turn n (first_word rest)) (refuses 90)) (refuses 90))
    by true true = refl
    by true false = refl
    by false last = refl

-- a line that names no end is no call
pub no_end : (n : Names) (rest : List ℕ) (fault : LineFault) → end_of (first_word rest) ≡ None → TellsEvent n (Err fault) (refuses 90)
    → LineTells n (call_row rest) (Err fault)
no_end n rest fault none t =
    subst (λ (o : Option EndName). LineTells n (given o None λ e. Some (call e (without_blanks (behind_word rest)))) (Err fault)) (sym none) (inr (refuses 90, refl, t))

pub call_tells : (n : Names) (rest : List ℕ) (e : EndName) (result : Result RustEvent LineFault) → end_of (first_word rest) ≡ Some e
    → CallTells n e (without_blanks (behind_word rest)) result → LineTells n (call_row rest) result
call_tells n rest e result some t =
    subst (λ (o : Option EndName). LineTells n (given o None λ e. Some (call e (without_blanks (behind_word rest)))) result) (sym some) t

-- ---- a call's arguments don't decide what refuses it before the machine

-- what an end and a message that may be missing ask
abbrev asks_found : Names → List ℕ → List Datum → Option EndId → (EndId → Option ℕ) → Asked
asks_found n name args end message =
    given end (refuses 92) λ x. given (message x) (refuses 41) λ m. asks (events.call x (record { msg = m; args = args })) n

refuses_none : (k : ℕ) (event : Event) (n : Names) → refuses k ≡ asks event n → ⊥
refuses_none k event n e = absurd cc

asks_none : (k : ℕ) (event : Event) (n : Names) → asks event n ≡ refuses k → ⊥
asks_none k event n e = absurd cc

refused_found : (n : Names) (name : List ℕ) (a b : List Datum) (k : ℕ) (message : EndId → Option ℕ) (end : Option EndId) → refuses k ≡ asks_found n name a end message → refuses k ≡ asks_found n name b end message
refused_found n name a b k message None e = e
refused_found n name a b k message (Some x) e = by (message x) e
  where
    by : (m : Option ℕ) → refuses k ≡ given m (refuses 41) (λ j. asks (events.call x (record { msg = j; args = a })) n)
        → refuses k ≡ given m (refuses 41) (λ j. asks (events.call x (record { msg = j; args = b })) n)
    by None h = h
    by (Some j) h = absurd (refuses_none k (events.call x (record { msg = j; args = a })) n h)

asked_found : (n : Names) (name : List ℕ) (a b : List Datum) (one : Event) (message : EndId → Option ℕ) (end : Option EndId) → asks one n ≡ asks_found n name a end message
    → (other : Event) × (asks other n ≡ asks_found n name b end message)
asked_found n name a b one message None e = absurd (asks_none 92 one n e)
asked_found n name a b one message (Some x) e = by (message x) e
  where
    by : (m : Option ℕ) → asks one n ≡ given m (refuses 41) (λ j. asks (events.call x (record { msg = j; args = a })) n)
        → (other : Event) × (asks other n ≡ given m (refuses 41) (λ j. asks (events.call x (record { msg = j; args = b })) n))
    by None h = absurd (asks_none 41 one n h)
    by (Some j) h = (events.call x (record { msg = j; args = b }), refl)

-- a call that was refused with other arguments
pub refused_call : (n : Names) (e : EndName) (text name : List ℕ) (args values : List Datum) (fault : LineFault) → SpellsCall text name values
    → TellsEvent n (Err fault) (asks_call n e name args) → CallTells n e text (Err fault)
refused_call n e text name args values fault spelled t =
    inr (asks_call n e name values, inl (name, values, spelled, refl), refused_found n name args values (number_of fault) (λ x. message_at n x name) (end_at n e) t)

-- a call that asks an event with other arguments
pub wanted_call : (n : Names) (e : EndName) (text name : List ℕ) (args values : List Datum) (one : RustEvent) → SpellsCall text name values
    → TellsEvent n (Ok one) (asks_call n e name args) → CallTells n e text (Err Memory)
wanted_call n e text name args values one spelled t =
    let (other, asked) = asked_found n name args values (event_of one) (λ x. message_at n x name) (end_at n e) t in
    inl (refl, (other, inl (name, values, spelled, asked)))

-- a text that spells no call
pub no_call : (n : Names) (e : EndName) (text : List ℕ) → ((name : List ℕ) (values : List Datum) → SpellsCall text name values → ⊥) → CallTells n e text (Err NotACall)
no_call n e text none = inr (refuses 90, inr (none, refl), refl)

-- a call's event, asked with no name
pub asked_call : (n : Names) (e : EndName) (text : List ℕ) (event : RustEvent) (result : Result RustAsked LineFault) → CallTells n e text (Ok event)
    → Tells n result (asks (event_of event) n) → AsksAs n (call e text) result
asked_call n e text event result (inl (bad, asks_one)) t = absurd (cc)
asked_call n e text event result (inr h) t = inr (h.0, h.1, subst (λ (a : Asked). Tells n result a) h.2 t)

pub unasked_call : (n : Names) (e : EndName) (text : List ℕ) (fault : LineFault) → CallTells n e text (Err fault) → AsksAs n (call e text) (Err fault)
unasked_call n e text Memory (inl (h, asks_one)) = inl (refl, asks_one)
unasked_call n e text fault (inl (h, asks_one)) = absurd (cc)
unasked_call n e text fault (inr h) = inr (h.0, h.1, h.2)
