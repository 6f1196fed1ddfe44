-- What a line does that was told from its words.
use Rattle.std.proofs.Common.{◌≡◌, ◌++◌, ◌∙◌, inl, inr, ℕ, List, Bool, true, false, Option, Some, None, Result, Ok, Err, refl, sym, ap, subst}
use Rattle.std.specs.Prelude.{OnOk, OnErr, IfOk, if◌then◌else◌}
use Rattle.std.proofs.lemmas.Result.{on_ok_weaker}
use Rattle.fl_model.specs.Events.{Event, Answer}
use Rattle.fl_model.specs.State.{State}
use Rattle.fl_model.specs.Step.{step}
use Rattle.fl_model.specs.declared.event.Event.{Event as RustEvent}
use Rattle.fl_script_lines.specs.declared.fault.LineFault.{LineFault}
use Rattle.fl_script_lines.specs.declared.fault.LineFault.TheVariants.{Memory}
use Rattle.fl_script_lines.specs.Answers.{answer_text, line}
use Rattle.fl_model.specs.Views.{event_of}
use Rattle.fl_script_lines.specs.Faults.{number_of}
use Rattle.fl_model.specs.Events.{is_done}
use Rattle.fl_script_lines.specs.Asked.{Asked, asks, names_after}
use Rattle.fl_script_lines.specs.Commands.{Command}
use Rattle.fl_script_lines.specs.Items.{a_line}
use Rattle.fl_script_lines.specs.Lines.{LineAsks, LineTells, TellsEvent}
use Rattle.fl_script_lines.specs.Names.{Names}
use Rattle.fl_script_lines.specs.Reading.{line_with}
use Rattle.fl_script_lines.specs.Told.{names_of}
use Rattle.fl_script_exec.specs.declared.script.Script.{Script as RustScript}
use Rattle.fl_script_exec.specs.Shown.{IsAt, Answered, Answers, AnswersBy, AnswersEvent}
use Rattle.fl_model.specs.Steps.{Steps}
use Rattle.fl_script_exec.specs.Transcript.{Script, Does, effect_of, writes_refusal}

same_names : (n : Names) (a : Answer) → names_after n n a ≡ n
same_names n a = by (is_done a)
  where
    by : (b : Bool) → (if b then n else n) ≡ n
    by true = refl
    by false = refl

-- an event that gives no name was asked, and its answer written
asked_event : {M : Type 0} (shows : M → State → Type 0) (old new : RustScript M) (before after : List ℕ) (event : Event) (answer : Answer)
    → names_of new.names ≡ names_of old.names → Steps shows old.machine new.machine event answer
    → after ≡ before ++ line (answer_text (names_of new.names) answer) → AnswersBy shows old new before after (λ s. effect_of s (asks event s.names))
asked_event shows old new before after event answer names steps text s at =
    let now : names_of new.names ≡ s.names = names ∙ at.names in
    let told : answer ≡ (step s.state event).answer = steps.answered s.state at.shown in
    let kept = same_names s.names (step s.state event).answer in
    record {
      at = record { names = now ∙ sym kept; shown = steps.shown s.state at.shown };
      text =
          text ∙ (ap (λ (n : Names). before ++ line (answer_text n answer)) (now ∙ sym kept)
          ∙ ap (λ (a : Answer). before ++ line (answer_text (names_after s.names s.names (step s.state event).answer) a)) told);
    }

-- the same of an outcome; `meaning` tells the machine's answer of the code's
asked_outcome : {M A T E F : Type 0} (meaning : A → Answer) (shows : M → State → Type 0) (old new : RustScript M) (before after : List ℕ) (event : Event)
    (outcome : Result A F) (result : Result T E) → names_of new.names ≡ names_of old.names
    → IfOk outcome (λ a. Steps shows old.machine new.machine event (meaning a))
    → OnOk result (IfOk outcome (λ a. after ≡ before ++ line (answer_text (names_of new.names) (meaning a)))) → OnErr outcome (OnOk result ⊥)
    → OnOk result (AnswersBy shows old new before after (λ s. effect_of s (asks event s.names)))
asked_outcome meaning shows old new before after event (Ok a) result names steps put none =
    on_ok_weaker result (λ text. asked_event shows old new before after event (meaning a) names steps text) put
asked_outcome meaning shows old new before after event (Err e) result names steps put none = on_ok_weaker result (λ no. absurd no) none

does_line : (s : Script) (o : Option Command) (asked : Asked) → LineAsks s.names o asked → Does s (a_line (line_with o)) (effect_of s asked)
does_line s None asked h = ap (effect_of s) h
does_line s (Some c) asked h = (asked, h, refl)

-- a line was told from its words, and what was told was answered
pub told_line : {M T E : Type 0} (shows : M → State → Type 0) (old new : RustScript M) (before after : List ℕ) (o : Option Command)
    (told : Result RustEvent LineFault) (result : Result T E) → LineTells (names_of old.names) o told
    → OnOk result (AnswersEvent shows old new before after told) → (told ≡ Err Memory → OnOk result ⊥)
    → OnOk result (Answers shows old new before after (λ s. Does s (a_line (line_with o))))
told_line shows old new before after o told result (inl bad) ok memory = on_ok_weaker result (λ none. absurd none) (memory bad.0)
told_line shows old new before after o told result (inr h) ok memory =
    on_ok_weaker result
    (λ f. λ s at. (
      effect_of s h.0,
      does_line s o h.0 (subst (λ (n : Names). LineAsks n o h.0) at.names h.1),
      f s at h.0 (subst (λ (n : Names). TellsEvent n told h.0) at.names h.2),
    )) ok

-- an event that was told from a line was asked
line_asked : {M T E : Type 0} (shows : M → State → Type 0) (old new : RustScript M) (before after : List ℕ) (o : Option Command)
    (event : RustEvent) (result : Result T E) → LineTells (names_of old.names) o (Ok event)
    → OnOk result (AnswersBy shows old new before after (λ s. effect_of s (asks (event_of event) s.names)))
    → OnOk result (Answers shows old new before after (λ s. Does s (a_line (line_with o))))
line_asked shows old new before after o event result tells ok =
    told_line shows old new before after o (Ok event) result tells
    (on_ok_weaker result (λ f. λ s at asked told. subst (λ (a : Asked). Answered shows new before after (effect_of s a)) told (f s at)) ok)
    (λ bad. absurd (cc))

-- the same of an outcome
pub line_stepped : {M A T E F : Type 0} (meaning : A → Answer) (shows : M → State → Type 0) (old new : RustScript M) (before after : List ℕ) (o : Option Command)
    (event : RustEvent) (outcome : Result A F) (result : Result T E) → LineTells (names_of old.names) o (Ok event)
    → names_of new.names ≡ names_of old.names
    → IfOk outcome (λ a. Steps shows old.machine new.machine (event_of event) (meaning a))
    → OnOk result (IfOk outcome (λ a. after ≡ before ++ line (answer_text (names_of new.names) (meaning a)))) → OnErr outcome (OnOk result ⊥)
    → OnOk result (Answers shows old new before after (λ s. Does s (a_line (line_with o))))
line_stepped meaning shows old new before after o event outcome result tells names steps put none =
    line_asked shows old new before after o event result tells
    (asked_outcome meaning shows old new before after (event_of event) outcome result names steps put none)

-- a script whose names and system are those of before is where it was, whatever room it has
same_place : {M : Type 0} (shows : M → State → Type 0) (old now : RustScript M) (s : Script) → names_of now.names ≡ names_of old.names
    → now.machine ≡ old.machine → IsAt shows old s → IsAt shows now s
same_place shows old now s names machine at = record {
  names = names ∙ at.names;
  shown = subst (λ m. shows m s.state) (sym machine) at.shown;
}

-- a line that asks nothing was refused
pub line_refused : {M T E : Type 0} (shows : M → State → Type 0) (old new : RustScript M) (before after : List ℕ) (o : Option Command)
    (fault : LineFault) (result : Result T E) → LineTells (names_of old.names) o (Err fault)
    → OnOk result (AnswersBy shows old new before after (λ s. writes_refusal s (number_of fault))) → (fault ≡ Memory → OnOk result ⊥)
    → OnOk result (Answers shows old new before after (λ s. Does s (a_line (line_with o))))
line_refused shows old new before after o fault result tells ok memory =
    told_line shows old new before after o (Err fault) result tells
    (on_ok_weaker result (λ f. λ s at asked told. subst (λ (a : Asked). Answered shows new before after (effect_of s a)) told (f s at)) ok)
    (λ bad. memory (cc))

-- the same where the room had been taken out before
pub roomless_refused : {M T E : Type 0} (shows : M → State → Type 0) (old now new : RustScript M) (before after : List ℕ) (o : Option Command)
    (fault : LineFault) (result : Result T E) → names_of now.names ≡ names_of old.names → now.machine ≡ old.machine
    → LineTells (names_of old.names) o (Err fault)
    → OnOk result (AnswersBy shows now new before after (λ s. writes_refusal s (number_of fault))) → (fault ≡ Memory → OnOk result ⊥)
    → OnOk result (Answers shows old new before after (λ s. Does s (a_line (line_with o))))
roomless_refused shows old now new before after o fault result names machine tells ok memory =
    line_refused shows old new before after o fault result tells
    (on_ok_weaker result (λ f. λ s at. f s (same_place shows old now s names machine at)) ok) memory
