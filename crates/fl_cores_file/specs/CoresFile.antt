-- Cores files: the lines of one, each checked by those before it, and what they come to.
use Rattle.std.specs.Prelude.{ℕ, ◌+◌, ◌≡◌, ◌==◌, not, Bool, true, false, List, [], ◌∷◌, map, slice_get, unwrap_or}
use Rattle.std.specs.Bool.{MatchBool}
use Rattle.std.specs.List.{count_by}
use Rattle.fl_base.specs.declared.identity.EndId.{EndId}
use Rattle.fl_check.specs.Text.{TextOutcome, stands_for, text_fault, TextMeans}
use Rattle.fl_value_data.specs.declared.value.PlanNo.{PlanNo}
use Rattle.fl_model.specs.Events.{Event}
use Rattle.fl_script_lines.specs.Asked.{Asked, refuses, asks, Asks, asks_interface}
use Rattle.fl_script_lines.specs.Commands.{Command, cores, link, disp, export, bind, call, reply}
use Rattle.fl_script_lines.specs.Grammar.{silent, heading, command, unread}
use Rattle.fl_script_lines.specs.Items.{Item, a_line, a_block, open_block, ItemsOf, is_too_long}
use Rattle.fl_script_lines.specs.Names.{Names, no_names}
use Rattle.fl_cores_file.specs.Jobs.{Job, opens, replies, calls}
use Rattle.fl_cores_file.specs.Draft.{Bound, Draft, nothing_yet, takes}
use Rattle.fl_cores_file.specs.Verdicts.{LineVerdict, stops, goes_on}

-- how far a cores file is read: the names that its lines gave, and what they come to
pub record Reading : Type 0 where
  pub names : Names
  pub draft : Draft

abbrev pub beginning : Reading
beginning = record { names = no_names; draft = nothing_yet }

-- ---- a line

-- the commands that may stand in a cores file; each other is refused as a line that isn't read
abbrev pub belongs : Command → Bool
belongs (cores n) = true
belongs (link a b slots) = true
belongs (disp name core) = true
belongs (export s d i) = true
belongs (bind p d i s back) = true
belongs (call e text) = true
belongs (reply e message answer) = true
belongs c = false

-- with these names from now on
abbrev pub named_by : Names → LineVerdict Draft → LineVerdict Reading
named_by names (stops fault) = stops fault
named_by names (goes_on d) = goes_on (record { names = names; draft = d })

-- it is refused for its names, for a call's text that is none, or by the draft; the new names are given only where it is accepted
abbrev pub does : Reading → Asked → LineVerdict Reading
does r (refuses fault) = stops fault
does r (asks event names) = named_by names (takes event r.draft)

-- of a fault of an interface's text its place isn't told
abbrev pub does_block : Reading → PlanNo → TextOutcome → LineVerdict Reading
does_block r plan (text_fault number offset) = stops number
does_block r plan (stands_for i) = does r (asks_interface r.names i plan)

-- E90: a command that doesn't belong here, whatever it names
abbrev pub DoesCommand : Reading → Command → LineVerdict Reading → Type 0
DoesCommand r c v = MatchBool (belongs c) ((asked : Asked) × Asks r.names c asked × (v ≡ does r asked)) (v ≡ stops 90)

-- what an item does (the head of a block is no item of its own)
abbrev pub Does : Reading → Item → LineVerdict Reading → Type 0
Does r (a_line silent) v = v ≡ goes_on r
Does r (a_line (command c)) v = DoesCommand r c v
Does r (a_line unread) v = v ≡ stops 90
Does r (a_line (heading plan)) v = v ≡ stops 90
Does r open_block v = v ≡ stops 90
Does r (a_block plan text) v = (outcome : TextOutcome) × TextMeans text outcome × (v ≡ does_block r plan outcome)

-- ---- the numbers of bindings

-- Bindings that are set up come first, then those that are opened, each in the order of their lines. So a line that is
-- opened, or set up, gets the next number of its own kind.
abbrev pub numbers_from : ℕ → ℕ → List Bool → List ℕ
numbers_from next_set_up next_opened [] = []
numbers_from next_set_up next_opened (false ∷ bindings) = next_set_up ∷ numbers_from (next_set_up + 1) next_opened bindings
numbers_from next_set_up next_opened (true ∷ bindings) = next_opened ∷ numbers_from next_set_up (next_opened + 1) bindings

-- of each binding whether it is opened
abbrev pub which_opened : List Bound → List Bool
which_opened bindings = map (λ (b : Bound). b.is_opened) bindings

-- how many of these are set up
abbrev pub count_set_up : List Bool → ℕ
count_set_up bindings = count_by not bindings

-- the number of each binding, in the order of their lines
abbrev pub numbers_of : List Bool → List ℕ
numbers_of bindings = numbers_from 0 (count_set_up bindings) bindings

-- the number of the binding at this place among the `bind` lines, from 0; a place without one stays as it is
abbrev pub numbered : List ℕ → ℕ → ℕ
numbered numbers place = unwrap_or (slice_get numbers place) place

-- an end, and a job, which name a binding by its number instead of its place among the `bind` lines
abbrev pub end_by : List ℕ → EndId → EndId
end_by numbers e = record { binding = numbered numbers e.binding; side = e.side }

abbrev pub job_by : List ℕ → Job → Job
job_by numbers (opens request) = opens request
job_by numbers (replies e msg answer) = replies (end_by numbers e) msg answer
job_by numbers (calls e c) = calls (end_by numbers e) c

-- a draft whose jobs name their ends by numbers
abbrev pub with_numbers : List ℕ → Draft → Draft
with_numbers numbers d = record d { jobs = map (job_by numbers) d.jobs }

-- ---- a whole file

-- what a text comes to of which no line is refused
pub record CoresFile : Type 0 where
  -- how many cores run, and what is set up on them before
  pub cores : ℕ
  pub setup : List Event
  -- what they are to do; an end names its binding by its number
  pub jobs : List Job
  -- the names, with bindings in the order of their lines, and the number of each of these
  pub names : Names
  pub numbers : List ℕ

-- of a reading whose jobs name their ends by places among the `bind` lines, and the numbers of these
abbrev pub file_by : List ℕ → Reading → CoresFile
file_by numbers r = record {
  cores = r.draft.cores;
  setup = r.draft.setup;
  jobs = map (job_by numbers) r.draft.jobs;
  names = r.names;
  numbers = numbers;
}

-- of a reading whose jobs name their ends by numbers already
abbrev pub file_left : List ℕ → Reading → CoresFile
file_left numbers r = record { cores = r.draft.cores; setup = r.draft.setup; jobs = r.draft.jobs; names = r.names; numbers = numbers }

-- with the numbers that its own bindings have
abbrev pub file_of : Reading → CoresFile
file_of r = file_by (numbers_of (which_opened r.draft.bindings)) r

-- what a text comes to: a file, or its first line that is refused
pub data FileOutcome : Type 0 where
  is_file : CoresFile → FileOutcome
  -- the line, from 1, and the fault's number
  refused_at : ℕ → ℕ → FileOutcome

-- how many lines an item has: a block its head, its text's lines, and the line that ends it (a block that is left open is
-- the last item, so none counts behind it)
abbrev pub lines_in : Item → ℕ
lines_in (a_line line) = 1
lines_in (a_block plan text) = 2 + count_by (λ b. b == 10) text
lines_in open_block = 1

-- behind an item, where this is what further items come to
abbrev pub Behind : ℕ → LineVerdict Reading → (Reading → FileOutcome → Type 0) → FileOutcome → Type 0
Behind line (stops fault) further o = o ≡ refused_at line fault
Behind line (goes_on r) further o = further r o

-- what items come to, of which the first stands at this line
abbrev pub Follows : List Item → ℕ → Reading → FileOutcome → Type 0
Follows [] line r o = o ≡ is_file (file_of r)
Follows (item ∷ items) line r o = (v : LineVerdict Reading) × Does r item v × Behind line v (Follows items (line + lines_in item)) o

-- what the rest of a text comes to, which begins at this line
abbrev pub ReadsFrom : Reading → ℕ → List ℕ → FileOutcome → Type 0
ReadsFrom r line bytes o = (items : List Item) × ItemsOf bytes items × Follows items line r o

-- what a whole text comes to; one that is too long is refused at line 1 (E91)
abbrev pub Reads : List ℕ → FileOutcome → Type 0
Reads bytes o = MatchBool (is_too_long bytes) (o ≡ refused_at 1 91) (ReadsFrom beginning 1 bytes o)

-- ---- the law

-- a text comes to one thing alone
abbrev pub OneOutcome : Type 0
OneOutcome = (bytes : List ℕ) (a b : FileOutcome) → Reads bytes a → Reads bytes b → a ≡ b
