-- A working file, on which no public promise rests by itself: what a running script holds, as the definitions have it.
use Rattle.std.specs.Prelude.{◌≡◌, ℕ, List, ◌∷◌, ◌++◌, Result}
use Rattle.fl_model.specs.State.{State}
use Rattle.fl_script_lines.specs.declared.event.NamedEvent.{NamedEvent as RustAsked}
use Rattle.fl_script_lines.specs.declared.fault.LineFault.{LineFault}
use Rattle.fl_script_lines.specs.Asked.{Asked}
use Rattle.fl_model.specs.declared.event.Event.{Event as RustEvent}
use Rattle.fl_script_lines.specs.Lines.{TellsEvent}
use Rattle.fl_script_lines.specs.Told.{names_of, Tells}
use Rattle.fl_script_exec.specs.declared.script.Script.{Script as RustScript}
use Rattle.fl_script_lines.specs.Items.{Item, ItemsOf}
use Rattle.fl_script_exec.specs.Transcript.{Script, Effect, Does, effect_of}

-- the running script's names are those, and its system shows that state
pub record IsAt {M : Type 0} (shows : M → State → Type 0) (r : RustScript M) (s : Script) : Type 0 where
  pub names : names_of r.names ≡ s.names
  pub shown : shows r.machine s.state

-- after an item: the script is where the effect says, and its text was put behind what was there
pub record Answered {M : Type 0} (shows : M → State → Type 0) (r : RustScript M) (before after : List ℕ) (effect : Effect) : Type 0 where
  pub at : IsAt shows r effect.after
  pub text : after ≡ before ++ effect.text

-- wherever the script was, what an item does was done and written
abbrev pub Answers : {M : Type 0} → (M → State → Type 0) → RustScript M → RustScript M → List ℕ → List ℕ → (Script → Effect → Type 0) → Type 0
Answers shows old new before after does =
    (s : Script) → IsAt shows old s → (effect : Effect) × does s effect × Answered shows new before after effect

-- the same where the effect can be told
abbrev pub AnswersBy : {M : Type 0} → (M → State → Type 0) → RustScript M → RustScript M → List ℕ → List ℕ → (Script → Effect) → Type 0
AnswersBy shows old new before after f = (s : Script) → IsAt shows old s → Answered shows new before after (f s)

-- the same by what was told of what is asked
abbrev pub AnswersTold : {M : Type 0} → (M → State → Type 0) → RustScript M → RustScript M → List ℕ → List ℕ
    → Result RustAsked LineFault → Type 0
AnswersTold shows old new before after told =
    (s : Script) → IsAt shows old s → (asked : Asked) → Tells s.names told asked → Answered shows new before after (effect_of s asked)

-- the same of an event that gives no name
abbrev pub AnswersEvent : {M : Type 0} → (M → State → Type 0) → RustScript M → RustScript M → List ℕ → List ℕ
    → Result RustEvent LineFault → Type 0
AnswersEvent shows old new before after told =
    (s : Script) → IsAt shows old s → (asked : Asked) → TellsEvent s.names told asked → Answered shows new before after (effect_of s asked)

-- ---- the first item of a text

-- the text begins with the item, and this stands behind it
abbrev pub Leads : List ℕ → List ℕ → Item → Type 0
Leads text behind item = (items : List Item) → ItemsOf behind items → ItemsOf text (item ∷ items)

-- what the first item does was done and written, and this stands behind it
abbrev pub AnswersFirst : {M : Type 0} → (M → State → Type 0) → RustScript M → RustScript M → List ℕ → List ℕ → List ℕ → List ℕ → Type 0
AnswersFirst shows old new before after text behind =
    (item : Item) × Leads text behind item × Answers shows old new before after (λ s. Does s item)

-- the text begins with some item
abbrev pub HasFirst : List ℕ → Type 0
HasFirst text = (item : Item) × (behind : List ℕ) × Leads text behind item
