-- The transcript of a script: what the machine answers from its start, item by item.
use Rattle.std.specs.Prelude.{◌≡◌, ℕ, List, [], ◌∷◌, ◌++◌, codes}
use Rattle.std.specs.Bool.{MatchBool}
use Rattle.std.specs.List.{flat_map}
use Rattle.fl_value_data.specs.declared.value.PlanNo.{PlanNo}
use Rattle.fl_model.specs.Events.{Event, refused}
use Rattle.fl_model.specs.State.{State, StepOutcome, start}
use Rattle.fl_model.specs.Step.{step}
use Rattle.fl_model.specs.Runs.{Exchange}
use Rattle.fl_script_lines.specs.Grammar.{silent, heading, command, unread}
use Rattle.fl_script_lines.specs.Items.{Item, a_line, a_block, open_block, ItemsOf, is_too_long}
use Rattle.fl_script_lines.specs.Names.{Names, no_names}
use Rattle.fl_script_lines.specs.Asked.{Asked, refuses, asks, names_after, Asks, asks_interface}
use Rattle.fl_script_lines.specs.Answers.{answer_text, fault_text, line}
use Rattle.fl_check.specs.Text.{TextOutcome, stands_for, text_fault, TextMeans}

-- where a script is: the names that it has given, and the machine's state
pub record Script : Type 0 where
  pub names : Names
  pub state : State

abbrev pub beginning : Script
beginning = record { names = no_names; state = start }

-- what an item does: the text that is written for it, what it asks of the machine, and where the script is behind it
pub record Effect : Type 0 where
  pub text : List ℕ
  pub asked : List Exchange
  pub after : Script

-- ---- an item

-- this is written, and nothing is asked
abbrev pub writes_only : Script → List ℕ → Effect
writes_only s text = record { text = text; asked = []; after = s }

-- `refused En` is written, and nothing is asked
abbrev pub writes_refusal : Script → ℕ → Effect
writes_refusal s fault = writes_only s (line (answer_text s.names (refused fault)))

-- an event is asked, and the machine's answer is written
abbrev pub writes_answer : Event → Names → StepOutcome → Effect
writes_answer event names o = record {
  text = line (answer_text names o.answer);
  asked = record { event = event; answer = o.answer } ∷ [];
  after = record { names = names; state = o.state };
}

-- the same, where the new names are given only if the answer is `ok`
abbrev pub asks_event : Script → Event → Names → StepOutcome → Effect
asks_event s event new o = writes_answer event (names_after s.names new o.answer) o

-- what comes of what is asked: a refusal, or one step of the machine
abbrev pub effect_of : Script → Asked → Effect
effect_of s (refuses fault) = writes_refusal s fault
effect_of s (asks event new) = asks_event s event new (step s.state event)

-- a block whose text has this outcome
abbrev pub block_effect : Script → PlanNo → TextOutcome → Effect
block_effect s plan (text_fault number offset) = writes_only s (line (fault_text number offset))
block_effect s plan (stands_for i) = effect_of s (asks_interface s.names i plan)

-- what an item does (the head of a block is no item of its own)
abbrev pub Does : Script → Item → Effect → Type 0
Does s (a_line silent) effect = effect ≡ writes_only s []
Does s (a_line (command c)) effect = (asked : Asked) × Asks s.names c asked × (effect ≡ effect_of s asked)
Does s (a_line unread) effect = effect ≡ writes_refusal s 90
Does s (a_line (heading plan)) effect = effect ≡ writes_refusal s 90
Does s open_block effect = effect ≡ writes_refusal s 90
Does s (a_block plan text) effect = (outcome : TextOutcome) × TextMeans text outcome × (effect ≡ block_effect s plan outcome)

-- ---- a script

-- what items do, one after another
abbrev pub AllDo : Script → List Item → List Effect → Type 0
AllDo s [] effects = effects ≡ []
AllDo s (item ∷ items) effects =
    (first : Effect) × (others : List Effect) × Does s item first × AllDo first.after items others × (effects ≡ first ∷ others)

-- what the bytes of a script do, or of its rest
abbrev pub Runs : Script → List ℕ → List Effect → Type 0
Runs s bytes effects = (items : List Item) × ItemsOf bytes items × AllDo s items effects

-- the first items of a script do this, however far it is run
abbrev pub Begins : List ℕ → List Effect → Type 0
Begins bytes done = (others : List Effect) × Runs beginning bytes (done ++ others)

-- where a script is behind these
abbrev pub last_of : Script → List Effect → Script
last_of s [] = s
last_of s (effect ∷ effects) = last_of effect.after effects

-- all that is written, and all that is asked, in order
abbrev pub text_of : List Effect → List ℕ
text_of effects = flat_map Effect.text effects

abbrev pub asked_in : List Effect → List Exchange
asked_in effects = flat_map Effect.asked effects

-- all that the items of a script write; of bytes that are too many for a script `refused E91` alone
abbrev pub Transcript : List ℕ → List ℕ → Type 0
Transcript bytes out = MatchBool (is_too_long bytes) (out ≡ line (codes "refused E91"))
    ((effects : List Effect) × Runs beginning bytes effects × (out ≡ text_of effects))

-- ---- the laws

-- each byte string has a transcript, also one that is no script
abbrev pub HasTranscript : Type 0
HasTranscript = (bytes : List ℕ) → (out : List ℕ) × Transcript bytes out

-- and no other
abbrev pub OneTranscript : Type 0
OneTranscript = (bytes a b : List ℕ) → Transcript bytes a → Transcript bytes b → a ≡ b
