-- From what a function tells of one verdict to what it tells of some verdict of which something holds.
use Rattle.std.proofs.Common.{◌≡◌, ◌⊎◌, inl, inr, refl, sym, ap, subst, ℕ, Bool, true, false, List, Option, None, Some}
use Rattle.std.specs.Bool.{MatchBool}
use Rattle.std.specs.Prelude.{Result, Ok, Err}
use Rattle.fl_interface.specs.Interface.{TheInterface}
use Rattle.fl_check.specs.Text.{TextOutcome, stands_for, TextMeans}
use Rattle.fl_value_data.specs.declared.value.PlanNo.{PlanNo}
use Rattle.fl_script_lines.specs.declared.event.NamedEvent.{NamedEvent as RustAsked}
use Rattle.fl_script_lines.specs.declared.fault.LineFault.{LineFault}
use Rattle.fl_script_lines.specs.declared.fault.LineFault.TheVariants.{Unread, NotACall, Name, NoSuchMessage, Memory as NoMemory}
use Rattle.fl_script_lines.specs.declared.command.Verb.TheVariants as verb
use Rattle.fl_base.specs.Given.{given}
use Rattle.fl_model.specs.declared.event.Event.{Event as RustEvent}
use Rattle.fl_value.specs.CallText.{without_blanks}
use Rattle.fl_script_lines.specs.Asked.{Asked, refuses, asks, Asks, asks_interface}
use Rattle.fl_script_lines.specs.Commands.{Command, EndName, call}
use Rattle.fl_model.specs.Views.{event_of}
use Rattle.fl_script_lines.specs.Faults.{number_of, refusal_of}
use Rattle.fl_script_lines.specs.Items.{a_line, a_block}
use Rattle.fl_script_lines.specs.Lines.{LineAsks, LineTells}
use Rattle.fl_script_lines.specs.Names.{Names}
use Rattle.fl_script_lines.specs.Reading.{end_of, command_by, line_with}
use Rattle.fl_script_lines.specs.Told.{named, Tells, AsksAs}
use Rattle.fl_script_lines.specs.Words.{first_word, behind_word}
use Rattle.fl_cores_file.specs.declared.stop.CoresLineFault.{CoresLineFault}
use Rattle.fl_cores_file.specs.declared.stop.CoresLineFault.TheVariants.{Refused, Memory}
use Rattle.fl_cores_file.specs.CoresFile.{Reading, belongs, named_by, does, does_block, DoesCommand, Does}
use Rattle.fl_cores_file.specs.Draft.{Draft}
use Rattle.fl_cores_file.specs.Verdicts.{LineVerdict, stops, stop_of, Comes, ComesTo}

pub comes_to : {A T : Type 0} (result : Result T CoresLineFault) (left : A) (P : LineVerdict A → Type 0) (v : LineVerdict A) → P v → Comes result left v → ComesTo result left P
comes_to (Ok x) left P v p h = subst P h p
comes_to (Err (Refused n)) left P v p h = subst P h p
comes_to (Err Memory) left P v p h = tt

no_memory : {A T : Type 0} (result : Result T CoresLineFault) (left : A) (P : LineVerdict A → Type 0) → result ≡ Err Memory → ComesTo result left P
no_memory {A} {T} result left P e = subst (λ (r : Result T CoresLineFault). ComesTo r left P) (sym e) tt

by_command : (r : Reading) (c : Command) (x : Asked) → belongs c ≡ true → Asks r.names c x → DoesCommand r c (does r x)
by_command r c x e h = by (belongs c) e where
  by : (t : Bool) → t ≡ true → MatchBool t ((asked : Asked) × Asks r.names c asked × (does r x ≡ does r asked)) (does r x ≡ stops 90)
  by true e = (x, h, refl)
  by false e = absurd (cc)

pub command_comes : {T : Type 0} (r : Reading) (c : Command) (asked : Result RustAsked LineFault) (result : Result T CoresLineFault) (new : Reading) → belongs c ≡ true
    → AsksAs r.names c asked → ((x : Asked) → Tells r.names asked x → Comes result new (does r x)) → (asked ≡ Err NoMemory → result ≡ Err Memory)
    → ComesTo result new (DoesCommand r c)
command_comes r c asked result new e (inl m) comes memory = no_memory result new (DoesCommand r c) (memory m.0)
command_comes r c asked result new e (inr h) comes memory = comes_to result new (DoesCommand r c) (does r h.0) (by_command r c h.0 e h.1) (comes h.0 h.2)

pub interface_comes : {T : Type 0} (r : Reading) (i : TheInterface) (plan : PlanNo) (asked : Result RustAsked LineFault) (result : Result T CoresLineFault) (new : Reading)
    → (asked ≡ Err NoMemory) ⊎ Tells r.names asked (asks_interface r.names i plan)
    → ((x : Asked) → Tells r.names asked x → Comes result new (does r x)) → (asked ≡ Err NoMemory → result ≡ Err Memory)
    → Comes result new (does_block r plan (stands_for i))
interface_comes {T} r i plan asked result new (inl m) comes memory =
    subst (λ (x : Result T CoresLineFault). Comes x new (does_block r plan (stands_for i))) (sym (memory m)) tt
interface_comes r i plan asked result new (inr t) comes memory = comes (asks_interface r.names i plan) t

pub block_comes : {T : Type 0} (r : Reading) (plan : PlanNo) (text : List ℕ) (result : Result T CoresLineFault) (new : Reading) (outcome : TextOutcome) → TextMeans text outcome
    → Comes result new (does_block r plan outcome) → ComesTo result new (Does r (a_block plan text))
block_comes r plan text result new outcome means h = comes_to result new (Does r (a_block plan text)) (does_block r plan outcome) (outcome, means, refl) h

-- ---- what was asked

pub asked_told : {T : Type 0} (r : Reading) (a : RustAsked) (result : Result T CoresLineFault) (new : Reading)
    → Comes result new (does r (asks (event_of a.event) (named r.names a.naming))) → (x : Asked) → Tells r.names (Ok a) x → Comes result new (does r x)
asked_told r a result new h x told = subst (λ (y : Asked). Comes result new (does r y)) told h

-- ---- a call, told from the words of its line

call_does : (r : Reading) (e : Option EndName) (text : List ℕ) (x : Asked) → LineAsks r.names (given e None λ end. Some (call end text)) x
    → Does r (a_line (line_with (given e None λ end. Some (call end text)))) (does r x)
call_does r None text x h = ap (does r) h
call_does r (Some end) text x h = (x, h, refl)

line_does : (r : Reading) (rest : List ℕ) (x : Asked) → LineAsks r.names (command_by verb.Call rest) x
    → Does r (a_line (line_with (command_by verb.Call rest))) (does r x)
line_does r rest x h = call_does r (end_of (first_word rest)) (without_blanks (behind_word rest)) x h

-- what a draft comes to, with the names that stay
named_comes : {T : Type 0} (names : Names) (result : Result T CoresLineFault) (d : Draft) (v : LineVerdict Draft) → Comes result d v
    → Comes result (let r : Reading = record { names = names; draft = d } in r) (named_by names v)
named_comes names (Ok x) d v h = ap (named_by names) h
named_comes names (Err (Refused n)) d v h = ap (named_by names) h
named_comes names (Err Memory) d v h = tt

pub call_taken : {T : Type 0} (r : Reading) (d : Draft) (rest : List ℕ) (event : RustEvent) (v : LineVerdict Draft) (result : Result T CoresLineFault)
    → LineTells r.names (command_by verb.Call rest) (Ok event) → does r (asks (event_of event) r.names) ≡ named_by r.names v → Comes result d v
    → ComesTo result (let r2 : Reading = record { names = r.names; draft = d } in r2) (Does r (a_line (line_with (command_by verb.Call rest))))
call_taken r d rest event v result (inl (bad, asks_one)) same h = absurd (cc)
call_taken r d rest event v result (inr t) same h =
    let r2 : Reading = record { names = r.names; draft = d } in
    comes_to result r2 (Does r (a_line (line_with (command_by verb.Call rest)))) (does r t.0) (line_does r rest t.0 t.1)
    (subst (λ (x : Asked). Comes result r2 (does r x)) t.2
    (subst (λ (w : LineVerdict Reading). Comes result r2 w) (sym same) (named_comes r.names result d v h)))

refused_comes : (r : Reading) (fault : LineFault) (x : Asked) (P : LineVerdict Reading → Type 0) → refuses (number_of fault) ≡ x → P (does r x)
    → ComesTo {T = Unit {0}} (Err (stop_of (refusal_of fault))) r P
refused_comes r Unread x P is p = subst P (ap (does r) (sym is)) p
refused_comes r NotACall x P is p = subst P (ap (does r) (sym is)) p
refused_comes r Name x P is p = subst P (ap (does r) (sym is)) p
refused_comes r NoSuchMessage x P is p = subst P (ap (does r) (sym is)) p
refused_comes r NoMemory x P is p = tt

pub call_refused : (r : Reading) (rest : List ℕ) (fault : LineFault) → LineTells r.names (command_by verb.Call rest) (Err fault)
    → ComesTo {T = Unit {0}} (Err (stop_of (refusal_of fault))) r (Does r (a_line (line_with (command_by verb.Call rest))))
call_refused r rest fault (inl (bad, asks_one)) =
    let is : fault ≡ NoMemory = cc in
    subst (λ (f : LineFault). ComesTo {T = Unit {0}} (Err (stop_of (refusal_of f))) r (Does r (a_line (line_with (command_by verb.Call rest))))) (sym is) tt
call_refused r rest fault (inr t) =
    refused_comes r fault t.0 (Does r (a_line (line_with (command_by verb.Call rest)))) t.2 (line_does r rest t.0 t.1)
