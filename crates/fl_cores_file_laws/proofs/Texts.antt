-- What a text comes to: lines that were accepted one after another, of which the machine refuses nothing.
use Rattle.std.proofs.Common.{◌≡◌, refl, sym, subst, ℕ, ◌+◌, Bool, true, false, List, [], ◌∷◌}
use Rattle.std.specs.Bool.{MatchBool}
use Rattle.fl_check.specs.Text.{TextOutcome, stands_for, text_fault}
use Rattle.fl_model.specs.Events.{Event}
use Rattle.fl_script_lines.specs.Asked.{Asked, refuses, asks, Asks, asks_interface}
use Rattle.fl_script_lines.specs.Commands.{Command}
use Rattle.fl_script_lines.specs.Grammar.{silent, heading, command, unread}
use Rattle.fl_script_lines.specs.Items.{Item, a_line, a_block, open_block, is_too_long}
use Rattle.fl_script_lines.specs.Names.{Names}
use Rattle.fl_cores_file.specs.CoresFile.{Reading, CoresFile, file_of, Reads, FileOutcome, is_file, refused_at, beginning, belongs, named_by, does, does_block, DoesCommand, Does}
use Rattle.fl_cores_file.specs.CoresFile.{lines_in, Behind, Follows, ReadsFrom}
use Rattle.fl_cores_file.specs.Draft.{Draft, takes}
use Rattle.fl_cores_file.specs.Verdicts.{LineVerdict, stops, goes_on}
use Rattle.fl_cores_file_laws.specs.SetUps.{ComeTo, Passes, FilesPass}
use Rattle.fl_cores_file_laws.proofs.Lines.{the_machines}

-- some lines came to this draft
abbrev pub IsReached : Draft → Type 0
IsReached d = (lines : List Event) × ComeTo lines d

abbrev StaysRead : LineVerdict Reading → Type 0
StaysRead (stops fault) = Unit {0}
StaysRead (goes_on r) = IsReached r.draft

event_stays : (names : Names) (v : Event) (d : Draft) (y : LineVerdict Draft) → IsReached d → takes v d ≡ y → StaysRead (named_by names y)
event_stays names v d (stops fault) h is = tt
event_stays names v d (goes_on e) (lines, come) is = (v ∷ lines, (d, come, is))

asked_stays : (r : Reading) (asked : Asked) → IsReached r.draft → StaysRead (does r asked)
asked_stays r (refuses fault) h = tt
asked_stays r (asks v names) h = event_stays names v r.draft (takes v r.draft) h refl

command_stays : (r : Reading) (c : Command) (v : LineVerdict Reading) → IsReached r.draft → DoesCommand r c v → StaysRead v
command_stays r c v h = by (belongs c) where
  by : (t : Bool) → MatchBool t ((asked : Asked) × Asks r.names c asked × (v ≡ does r asked)) (v ≡ stops 90) → StaysRead v
  by true (asked, a, is) = subst StaysRead (sym is) (asked_stays r asked h)
  by false is = subst StaysRead (sym is) tt

item_stays : (r : Reading) (item : Item) (v : LineVerdict Reading) → IsReached r.draft → Does r item v → StaysRead v
item_stays r (a_line silent) v h is = subst StaysRead (sym is) h
item_stays r (a_line (command c)) v h is = command_stays r c v h is
item_stays r (a_line unread) v h is = subst StaysRead (sym is) tt
item_stays r (a_line (heading plan)) v h is = subst StaysRead (sym is) tt
item_stays r open_block v h is = subst StaysRead (sym is) tt
item_stays r (a_block plan text) v h (outcome, means, is) = subst StaysRead (sym is) (by outcome) where
  by : (o : TextOutcome) → StaysRead (does_block r plan o)
  by (text_fault number offset) = tt
  by (stands_for i) = asked_stays r (asks_interface r.names i plan) h

-- the machine passes the set-up of a file, where a text comes to one
abbrev HasPassed : FileOutcome → Type 0
HasPassed (is_file file) = Passes file.cores file.setup
HasPassed (refused_at line number) = Unit {0}

behind_passes : (line : ℕ) (v : LineVerdict Reading) (further : Reading → FileOutcome → Type 0) (o : FileOutcome) → StaysRead v
    → ((r : Reading) (a : FileOutcome) → IsReached r.draft → further r a → HasPassed a) → Behind line v further o → HasPassed o
behind_passes line (stops fault) further o h more is = subst HasPassed (sym is) tt
behind_passes line (goes_on r) further o h more is = more r o h is

items_pass : (items : List Item) (line : ℕ) (r : Reading) (o : FileOutcome) → IsReached r.draft → Follows items line r o → HasPassed o
items_pass [] line r o (lines, come) is = subst HasPassed (sym is) (the_machines lines r.draft come).passes
items_pass (item ∷ items) line r o h (v, does_it, is) =
    behind_passes line v (Follows items (line + lines_in item)) o (item_stays r item v h does_it)
    (items_pass items (line + lines_in item)) is

pub files_pass : FilesPass
files_pass text file reads = by (is_too_long text) reads where
  by : (t : Bool) → MatchBool t (is_file file ≡ refused_at 1 91) (ReadsFrom beginning 1 text (is_file file)) → Passes file.cores file.setup
  by true is = let same : is_file file ≡ refused_at 1 91 = is in absurd (cc)
  by false (items, spelled, follows) = items_pass items 1 beginning (is_file file) ([], refl) follows

-- ---- the reading of a file

pub record IsFrom (file : CoresFile) : Type 0 where
  pub reading : Reading
  pub reached : IsReached reading.draft
  pub is : file ≡ file_of reading

abbrev ComesFrom : FileOutcome → Type 0
ComesFrom (is_file file) = IsFrom file
ComesFrom (refused_at line number) = Unit {0}

from_behind : (line : ℕ) (v : LineVerdict Reading) (further : Reading → FileOutcome → Type 0) (o : FileOutcome) → StaysRead v
    → ((r : Reading) (a : FileOutcome) → IsReached r.draft → further r a → ComesFrom a) → Behind line v further o → ComesFrom o
from_behind line (stops fault) further o h more is = subst ComesFrom (sym is) tt
from_behind line (goes_on r) further o h more is = more r o h is

items_from : (items : List Item) (line : ℕ) (r : Reading) (o : FileOutcome) → IsReached r.draft → Follows items line r o → ComesFrom o
items_from [] line r o h is = subst ComesFrom (sym is) (record { reading = r; reached = h; is = refl })
items_from (item ∷ items) line r o h (v, does_it, is) =
    from_behind line v (Follows items (line + lines_in item)) o (item_stays r item v h does_it)
    (items_from items (line + lines_in item)) is

pub file_from : (text : List ℕ) (file : CoresFile) → Reads text (is_file file) → IsFrom file
file_from text file reads = by (is_too_long text) reads where
  by : (t : Bool) → MatchBool t (is_file file ≡ refused_at 1 91) (ReadsFrom beginning 1 text (is_file file)) → IsFrom file
  by true is = let same : is_file file ≡ refused_at 1 91 = is in absurd (cc)
  by false (items, spelled, follows) = items_from items 1 beginning (is_file file) ([], refl) follows
