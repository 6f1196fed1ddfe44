-- What words ask for.
use Rattle.std.proofs.Common.{◌≡◌, ◌∙◌, ℕ, Bool, true, false, refl, ap, ap₂, arith, codes, List, [], ◌∷◌, Some, None}
use Rattle.std.proofs.lemmas.Bool.{ne_eqb}
use Rattle.std.specs.Prelude.{find, option_map, unwrap_or, if◌then◌else◌}
use Rattle.clap.specs.Kinds.{Kinds, or_else, value_kinds}
use Rattle.clap.specs.ValueTests.{accepts}
use Rattle.clap.specs.Words.{Text, Shape, IsUnsignedIn, built, fault_of}
use Rattle.clap.specs.Walk.{Held, Walk, answers_to, finished, nothing_held, option, settled, value, walk, walk_from, walked}
use Rattle.clap.specs.Simple.{label_of, new_shape}
use Rattle.clap.specs.Faults.{level_fault, step_fault, turn_fault, walk_fault}
use Rattle.clap.specs.declared.builder.value_parser.ValueParser.TheVariants.{Unsigned}
use Rattle.clap.proofs.ValueTestLemmas.{accepts-Accepts, Accepts-accepts}
use Rattle.clap.proofs.OnLiterals.{clap_on_literals}
use Rattle.clap.specs.declared.error.kind.ErrorKind.TheVariants.{DisplayHelp, DisplayVersion, MissingRequiredArgument, ValueValidation}
use Rattle.flounder_args.specs.Words.{AskFor, BeginsWithoutHyphen, asks_for, compile_asked, show_asked, cores_asked, chart_asked, missing_kinds, most_turns, number_in, program, refusals, value_of, to_run, to_show, to_compile, to_run_cores, to_chart, to_head}
use Rattle.flounder_args.proofs.Asking.{number_is}
use Rattle.flounder_args.proofs.Levels.{fault_behind, handed, level_passed, more_pass, placed, positional_turn, positional_walked, stands, two_pass, value_turn, value_walked}

pub no_word : (name : Text) → AskFor (name ∷ []) (to_run false false)
unfolding clap_on_literals
no_word name = (refl, refl)

pub exec_word : (name : Text) → AskFor (name ∷ codes "exec" ∷ []) (to_run false false)
unfolding clap_on_literals
exec_word name = (refl, refl)

pub exec_explain : (name : Text) → AskFor (name ∷ codes "exec" ∷ codes "--explain" ∷ []) (to_run true false)
unfolding clap_on_literals
exec_explain name = (refl, refl)

pub exec_strict : (name : Text) → AskFor (name ∷ codes "exec" ∷ codes "--strict" ∷ []) (to_run false true)
unfolding clap_on_literals
exec_strict name = (refl, refl)

pub exec_both : (name : Text) → AskFor (name ∷ codes "exec" ∷ codes "--explain" ∷ codes "--strict" ∷ []) (to_run true true)
unfolding clap_on_literals
exec_both name = (refl, refl)

pub version_word : (name : Text) → refusals (name ∷ codes "--version" ∷ []) ≡ DisplayVersion ∷ []
unfolding clap_on_literals
version_word name = refl

pub help_word : (name : Text) → refusals (name ∷ codes "--help" ∷ []) ≡ DisplayHelp ∷ []
unfolding clap_on_literals
help_word name = refl

pub exec_help : (name : Text) → refusals (name ∷ codes "exec" ∷ codes "--help" ∷ []) ≡ DisplayHelp ∷ []
unfolding clap_on_literals
exec_help name = refl

pub show_help : (name : Text) → refusals (name ∷ codes "show" ∷ codes "--help" ∷ []) ≡ DisplayHelp ∷ []
unfolding clap_on_literals
show_help name = refl

pub compile_help : (name : Text) → refusals (name ∷ codes "compile" ∷ codes "--help" ∷ []) ≡ DisplayHelp ∷ []
unfolding clap_on_literals
compile_help name = refl

pub cores_help : (name : Text) → refusals (name ∷ codes "cores" ∷ codes "--help" ∷ []) ≡ DisplayHelp ∷ []
unfolding clap_on_literals
cores_help name = refl

pub chart_help : (name : Text) → refusals (name ∷ codes "chart" ∷ codes "--help" ∷ []) ≡ DisplayHelp ∷ []
unfolding clap_on_literals
chart_help name = refl

pub header_help : (name : Text) → refusals (name ∷ codes "header" ∷ codes "--help" ∷ []) ≡ DisplayHelp ∷ []
unfolding clap_on_literals
header_help name = refl

show_asked_for : (name file : Text) → BeginsWithoutHyphen file → asks_for (name ∷ codes "show" ∷ file ∷ []) ≡ Some (to_show file false)
unfolding clap_on_literals
show_asked_for name [] h = refl
show_asked_for name (b ∷ bytes) h = simp h

show_taken : (name file : Text) → BeginsWithoutHyphen file → refusals (name ∷ codes "show" ∷ file ∷ []) ≡ []
unfolding clap_on_literals
show_taken name [] h = refl
show_taken name (b ∷ bytes) h = simp h

pub show_words : (name file : Text) → BeginsWithoutHyphen file → AskFor (name ∷ codes "show" ∷ file ∷ []) (to_show file false)
show_words name file h = (show_asked_for name file h, show_taken name file h)

-- the command of that name, as it is built
abbrev shape_in : Text → Shape
shape_in name = unwrap_or (find (λ s. answers_to name (label_of s)) (built program).subs) (new_shape [])

-- ---- show with names

abbrev show_shape : Shape
show_shape = shape_in (codes "show")

abbrev names_line : Text → Text → List Text
names_line name file = name ∷ codes "show" ∷ file ∷ codes "--names" ∷ []

abbrev behind_shown : Text → Walk
behind_shown file = placed show_shape.rules 1 file nothing_held

abbrev behind_names : Text → Walk
behind_names file = walked show_shape.rules [] (behind_shown file) (codes "--names")

names_walks : (file : Text) → BeginsWithoutHyphen file → walk show_shape.rules [] nothing_held (file ∷ codes "--names" ∷ []) ≡ behind_names file
names_walks file h = ap (λ (w : Walk). walked show_shape.rules [] w (codes "--names")) (positional_walked show_shape.rules 1 file nothing_held h)

names_found : (name file : Text) → asks_for (names_line name file) ≡ show_asked (finished show_shape.rules (walk show_shape.rules [] nothing_held (file ∷ codes "--names" ∷ [])).held)
unfolding clap_on_literals
names_found name file = refl

names_values : (file : Text) → show_asked (finished show_shape.rules (behind_names file).held) ≡ Some (to_show file true)
unfolding clap_on_literals
names_values file = refl

names_asked_for : (name file : Text) → BeginsWithoutHyphen file → asks_for (names_line name file) ≡ Some (to_show file true)
names_asked_for name file h =
    names_found name file ∙ ap (λ (w : Walk). show_asked (finished show_shape.rules w.held)) (names_walks file h) ∙ names_values file

names_entered : (name file : Text) → fault_of program (names_line name file) ≡ or_else (level_fault show_shape [] nothing_held (file ∷ codes "--names" ∷ []) false []) []
unfolding clap_on_literals
names_entered name file = refl

names_turn : (file : Text) → turn_fault show_shape [] (behind_shown file) (codes "--names") ≡ []
unfolding clap_on_literals
names_turn file = refl

names_end : (file : Text) → fault_behind show_shape (behind_names file).held ≡ []
unfolding clap_on_literals
names_end file = refl

names_fault : (name file : Text) → BeginsWithoutHyphen file → fault_of program (names_line name file) ≡ []
names_fault name file h =
    let pass : walk_fault show_shape [] (walk_from nothing_held) (file ∷ codes "--names" ∷ []) ≡ [] =
    two_pass show_shape (walk_from nothing_held) (behind_shown file) file (codes "--names") (positional_walked show_shape.rules 1 file nothing_held h)
    (positional_turn show_shape 1 file nothing_held h) (names_turn file) in
    names_entered name file
    ∙ ap (λ (kinds : Kinds). or_else kinds []) (level_passed show_shape (file ∷ codes "--names" ∷ []) (behind_names file) (names_walks file h) pass ∙ names_end file)

pub show_names_words : (name file : Text) → BeginsWithoutHyphen file → AskFor (names_line name file) (to_show file true)
show_names_words name file h =
    let asked : asks_for (names_line name file) ≡ Some (to_show file true) = names_asked_for name file h in
    (asked, ap₂ or_else (names_fault name file h) (ap missing_kinds asked))

-- ---- compile

abbrev compile_shape : Shape
compile_shape = shape_in (codes "compile")

abbrev compile_line : Text → Text → Text → List Text
compile_line name file out = name ∷ codes "compile" ∷ file ∷ out ∷ []

-- the walk behind its first word, and behind both
abbrev behind_file : Text → Walk
behind_file file = placed compile_shape.rules 1 file nothing_held

abbrev behind_out : Text → Text → Walk
behind_out file out = placed compile_shape.rules 2 out (behind_file file).held

compile_walks : (file out : Text) → BeginsWithoutHyphen file → BeginsWithoutHyphen out → walk compile_shape.rules [] nothing_held (file ∷ out ∷ []) ≡ behind_out file out
compile_walks file out h k =
    ap (λ (w : Walk). walked compile_shape.rules [] w out) (positional_walked compile_shape.rules 1 file nothing_held h)
    ∙ positional_walked compile_shape.rules 2 out (behind_file file).held k

compile_found : (name file out : Text) → asks_for (compile_line name file out) ≡ compile_asked (finished compile_shape.rules (walk compile_shape.rules [] nothing_held (file ∷ out ∷ [])).held)
unfolding clap_on_literals
compile_found name file out = refl

compile_values : (file out : Text) → compile_asked (finished compile_shape.rules (behind_out file out).held) ≡ Some (to_compile file out)
unfolding clap_on_literals
compile_values file out = refl

compile_asked_for : (name file out : Text) → BeginsWithoutHyphen file → BeginsWithoutHyphen out → asks_for (compile_line name file out) ≡ Some (to_compile file out)
compile_asked_for name file out h k =
    compile_found name file out ∙ ap (λ (w : Walk). compile_asked (finished compile_shape.rules w.held)) (compile_walks file out h k) ∙ compile_values file out

compile_entered : (name file out : Text) → fault_of program (compile_line name file out) ≡ or_else (level_fault compile_shape [] nothing_held (file ∷ out ∷ []) false []) []
unfolding clap_on_literals
compile_entered name file out = refl

second_turn : (file : Text) → step_fault compile_shape 2 (behind_file file).held value ≡ []
unfolding clap_on_literals
second_turn file = refl

compile_ends : (file out : Text) → fault_behind compile_shape (behind_out file out).held ≡ []
unfolding clap_on_literals
compile_ends file out = refl

compile_fault : (name file out : Text) → BeginsWithoutHyphen file → BeginsWithoutHyphen out → fault_of program (compile_line name file out) ≡ []
compile_fault name file out h k =
    let pass : walk_fault compile_shape [] (walk_from nothing_held) (file ∷ out ∷ []) ≡ [] =
    two_pass compile_shape (walk_from nothing_held) (behind_file file) file out (positional_walked compile_shape.rules 1 file nothing_held h)
    (positional_turn compile_shape 1 file nothing_held h) (positional_turn compile_shape 2 out (behind_file file).held k ∙ second_turn file) in
    compile_entered name file out
    ∙ ap (λ (kinds : Kinds). or_else kinds []) (level_passed compile_shape (file ∷ out ∷ []) (behind_out file out) (compile_walks file out h k) pass ∙ compile_ends file out)

pub compile_words : (name file out : Text) → BeginsWithoutHyphen file → BeginsWithoutHyphen out → AskFor (name ∷ codes "compile" ∷ file ∷ out ∷ []) (to_compile file out)
compile_words name file out h k =
    let asked : asks_for (compile_line name file out) ≡ Some (to_compile file out) = compile_asked_for name file out h k in
    (asked, ap₂ or_else (compile_fault name file out h k) (ap missing_kinds asked))

-- ---- cores

abbrev cores_line : Text → Text → Text → List Text
cores_line name file turns = name ∷ codes "cores" ∷ file ∷ codes "--turns" ∷ turns ∷ []

abbrev cores_shape : Shape
cores_shape = shape_in (codes "cores")

abbrev cores_rest : Text → Text → List Text
cores_rest file turns = file ∷ codes "--turns" ∷ turns ∷ []

-- the walk behind the file's name, where `--turns` waits for its value, and behind that
abbrev behind_cores : Text → Walk
behind_cores file = placed cores_shape.rules 1 file nothing_held

abbrev waits_for_turns : Text → Held
waits_for_turns file = record (settled cores_shape.rules (behind_cores file).held) { pending = Some (codes "N", []) }

abbrev behind_turns : Text → Text → Walk
behind_turns file turns = handed cores_shape.rules (codes "N") 2 turns (waits_for_turns file)

turns_walked : (file : Text) → walked cores_shape.rules [] (behind_cores file) (codes "--turns") ≡ stands (waits_for_turns file) (option (codes "N")) 2
unfolding clap_on_literals
turns_walked file = refl

turns_turn : (file : Text) → turn_fault cores_shape [] (behind_cores file) (codes "--turns") ≡ []
unfolding clap_on_literals
turns_turn file = refl

cores_walks : (file turns : Text) → BeginsWithoutHyphen file → BeginsWithoutHyphen turns → walk cores_shape.rules [] nothing_held (cores_rest file turns) ≡ behind_turns file turns
cores_walks file turns h k =
    ap (λ (w : Walk). walked cores_shape.rules [] (walked cores_shape.rules [] w (codes "--turns")) turns) (positional_walked cores_shape.rules 1 file nothing_held h)
    ∙ ap (λ (w : Walk). walked cores_shape.rules [] w turns) (turns_walked file)
    ∙ value_walked cores_shape.rules (codes "N") 2 turns (waits_for_turns file) k

cores_found : (name file turns : Text) → asks_for (cores_line name file turns) ≡ cores_asked (finished cores_shape.rules (walk cores_shape.rules [] nothing_held (cores_rest file turns)).held)
unfolding clap_on_literals
cores_found name file turns = refl

cores_values : (file turns : Text) → cores_asked (finished cores_shape.rules (behind_turns file turns).held) ≡ option_map (λ (n : ℕ). to_run_cores file n None) (number_in turns)
unfolding clap_on_literals
cores_values file turns = refl

cores_asked_for : (name file turns : Text) → BeginsWithoutHyphen file → BeginsWithoutHyphen turns → asks_for (cores_line name file turns) ≡ option_map (λ (n : ℕ). to_run_cores file n None) (number_in turns)
cores_asked_for name file turns h k =
    cores_found name file turns ∙ ap (λ (w : Walk). cores_asked (finished cores_shape.rules w.held)) (cores_walks file turns h k) ∙ cores_values file turns

-- what a command's fault comes to where the turns are the last word
abbrev with_turns : Kinds → Kinds
with_turns fault = or_else (or_else (or_else fault []) []) []

cores_entered : (name file turns : Text) → fault_of program (cores_line name file turns) ≡ or_else (level_fault cores_shape [] nothing_held (cores_rest file turns) false []) []
unfolding clap_on_literals
cores_entered name file turns = refl

cores_ends : (file turns : Text) → or_else (fault_behind cores_shape (behind_turns file turns).held) [] ≡ with_turns (value_kinds false (Unsigned 0 most_turns) turns)
unfolding clap_on_literals
cores_ends file turns = refl

cores_fault : (name file turns : Text) → BeginsWithoutHyphen file → BeginsWithoutHyphen turns → fault_of program (cores_line name file turns) ≡ with_turns (value_kinds false (Unsigned 0 most_turns) turns)
cores_fault name file turns h k =
    let two : walk_fault cores_shape [] (behind_cores file) (codes "--turns" ∷ turns ∷ []) ≡ [] =
    two_pass cores_shape (behind_cores file) (stands (waits_for_turns file) (option (codes "N")) 2) (codes "--turns") turns
    (turns_walked file) (turns_turn file) (value_turn cores_shape (codes "N") 2 turns (waits_for_turns file) k) in
    let pass : walk_fault cores_shape [] (walk_from nothing_held) (cores_rest file turns) ≡ [] =
    more_pass cores_shape (walk_from nothing_held) (behind_cores file) file (codes "--turns" ∷ turns ∷ [])
    (positional_walked cores_shape.rules 1 file nothing_held h) (positional_turn cores_shape 1 file nothing_held h) two in
    cores_entered name file turns
    ∙ ap (λ (kinds : Kinds). or_else kinds []) (level_passed cores_shape (cores_rest file turns) (behind_turns file turns) (cores_walks file turns h k) pass)
    ∙ cores_ends file turns

abbrev faults_at : Bool → Kinds
faults_at passed = with_turns (if passed then [] else ValueValidation ∷ [])

-- a number doesn't begin with `-`
not_minus : (ds : Text) → IsUnsignedIn 0 most_turns (45 ∷ ds) → ⊥
not_minus ds h = omega (arith, h.0.1.0)

unsigned_begins_without : (turns : Text) → IsUnsignedIn 0 most_turns turns → BeginsWithoutHyphen turns
unsigned_begins_without [] h = tt
unsigned_begins_without (d ∷ ds) h = ne_eqb d 45 (λ e. not_minus ds (rw e at h))

pub cores_words : (name file turns : Text) → BeginsWithoutHyphen file → IsUnsignedIn 0 most_turns turns → AskFor (cores_line name file turns) (to_run_cores file (value_of turns) None)
cores_words name file turns h n =
    let asked : asks_for (cores_line name file turns) ≡ Some (to_run_cores file (value_of turns) None) =
    cores_asked_for name file turns h (unsigned_begins_without turns n) ∙ ap (option_map (λ (n : ℕ). to_run_cores file n None)) (number_is turns n.0 n.1) in
    let passed : fault_of program (cores_line name file turns) ≡ [] =
    cores_fault name file turns h (unsigned_begins_without turns n) ∙ ap faults_at (Accepts-accepts false (Unsigned 0 most_turns) turns n) in
    (asked, ap₂ or_else passed (ap missing_kinds asked))

pub turns_missing : (name file : Text) → BeginsWithoutHyphen file → refusals (name ∷ codes "cores" ∷ file ∷ []) ≡ MissingRequiredArgument ∷ []
unfolding clap_on_literals
turns_missing name [] h = refl
turns_missing name (b ∷ bytes) h = simp h

-- a test that isn't passed
failed : (b : Bool) → (b ≡ true → ⊥) → b ≡ false
failed true h = absurd (h refl)
failed false h = refl

pub turns_refused : (name file turns : Text) → BeginsWithoutHyphen file → BeginsWithoutHyphen turns → (IsUnsignedIn 0 most_turns turns → ⊥) → refusals (cores_line name file turns) ≡ ValueValidation ∷ []
turns_refused name file turns h k other =
    let fails = failed (accepts false (Unsigned 0 most_turns) turns) (λ a. other (accepts-Accepts false (Unsigned 0 most_turns) turns a)) in
    ap (λ kinds. or_else kinds (missing_kinds (asks_for (cores_line name file turns)))) (cores_fault name file turns h k ∙ ap faults_at fails)

-- ---- cores with a script

abbrev script_line : Text → Text → Text → Text → List Text
script_line name file turns out = name ∷ codes "cores" ∷ file ∷ codes "--turns" ∷ turns ∷ codes "--script" ∷ out ∷ []

abbrev script_rest : Text → Text → Text → List Text
script_rest file turns out = file ∷ codes "--turns" ∷ turns ∷ codes "--script" ∷ out ∷ []

-- the walk behind the turns, where `--script` waits for its value, and behind that
abbrev waits_for_script : Text → Text → Held
waits_for_script file turns = record (settled cores_shape.rules (behind_turns file turns).held) { pending = Some (codes "OUT", []) }

abbrev behind_script : Text → Text → Text → Walk
behind_script file turns out = handed cores_shape.rules (codes "OUT") 2 out (waits_for_script file turns)

script_walked : (file turns : Text) → walked cores_shape.rules [] (behind_turns file turns) (codes "--script") ≡ stands (waits_for_script file turns) (option (codes "OUT")) 2
unfolding clap_on_literals
script_walked file turns = refl

-- the turns are judged where the next option comes
script_turn : (file turns : Text) → turn_fault cores_shape [] (behind_turns file turns) (codes "--script") ≡ or_else (or_else (value_kinds false (Unsigned 0 most_turns) turns) []) []
unfolding clap_on_literals
script_turn file turns = refl

script_walks : (file turns out : Text) → BeginsWithoutHyphen file → BeginsWithoutHyphen turns → BeginsWithoutHyphen out
    → walk cores_shape.rules [] nothing_held (script_rest file turns out) ≡ behind_script file turns out
script_walks file turns out h k l =
    ap (λ (w : Walk). walked cores_shape.rules [] (walked cores_shape.rules [] w (codes "--script")) out) (cores_walks file turns h k)
    ∙ ap (λ (w : Walk). walked cores_shape.rules [] w out) (script_walked file turns)
    ∙ value_walked cores_shape.rules (codes "OUT") 2 out (waits_for_script file turns) l

script_found : (name file turns out : Text) → asks_for (script_line name file turns out) ≡ cores_asked (finished cores_shape.rules (walk cores_shape.rules [] nothing_held (script_rest file turns out)).held)
unfolding clap_on_literals
script_found name file turns out = refl

script_values : (file turns out : Text) → cores_asked (finished cores_shape.rules (behind_script file turns out).held) ≡ option_map (λ (n : ℕ). to_run_cores file n (Some out)) (number_in turns)
unfolding clap_on_literals
script_values file turns out = refl

script_asked_for : (name file turns out : Text) → BeginsWithoutHyphen file → BeginsWithoutHyphen turns → BeginsWithoutHyphen out
    → asks_for (script_line name file turns out) ≡ option_map (λ (n : ℕ). to_run_cores file n (Some out)) (number_in turns)
script_asked_for name file turns out h k l =
    script_found name file turns out ∙ ap (λ (w : Walk). cores_asked (finished cores_shape.rules w.held)) (script_walks file turns out h k l) ∙ script_values file turns out

script_entered : (name file turns out : Text) → fault_of program (script_line name file turns out) ≡ or_else (level_fault cores_shape [] nothing_held (script_rest file turns out) false []) []
unfolding clap_on_literals
script_entered name file turns out = refl

script_ends : (file turns out : Text) → fault_behind cores_shape (behind_script file turns out).held ≡ []
unfolding clap_on_literals
script_ends file turns out = refl

script_fault : (name file turns out : Text) → BeginsWithoutHyphen file → BeginsWithoutHyphen turns → BeginsWithoutHyphen out → accepts false (Unsigned 0 most_turns) turns ≡ true
    → fault_of program (script_line name file turns out) ≡ []
script_fault name file turns out h k l a =
    let judged : turn_fault cores_shape [] (behind_turns file turns) (codes "--script") ≡ [] =
    script_turn file turns ∙ ap (λ (b : Bool). or_else (or_else (if b then [] else ValueValidation ∷ []) []) []) a in
    let two : walk_fault cores_shape [] (behind_turns file turns) (codes "--script" ∷ out ∷ []) ≡ [] =
    two_pass cores_shape (behind_turns file turns) (stands (waits_for_script file turns) (option (codes "OUT")) 2) (codes "--script") out
    (script_walked file turns) judged (value_turn cores_shape (codes "OUT") 2 out (waits_for_script file turns) l) in
    let three : walk_fault cores_shape [] (stands (waits_for_turns file) (option (codes "N")) 2) (turns ∷ codes "--script" ∷ out ∷ []) ≡ [] =
    more_pass cores_shape (stands (waits_for_turns file) (option (codes "N")) 2) (behind_turns file turns) turns (codes "--script" ∷ out ∷ [])
    (value_walked cores_shape.rules (codes "N") 2 turns (waits_for_turns file) k) (value_turn cores_shape (codes "N") 2 turns (waits_for_turns file) k) two in
    let four : walk_fault cores_shape [] (behind_cores file) (codes "--turns" ∷ turns ∷ codes "--script" ∷ out ∷ []) ≡ [] =
    more_pass cores_shape (behind_cores file) (stands (waits_for_turns file) (option (codes "N")) 2) (codes "--turns") (turns ∷ codes "--script" ∷ out ∷ [])
    (turns_walked file) (turns_turn file) three in
    let pass : walk_fault cores_shape [] (walk_from nothing_held) (script_rest file turns out) ≡ [] =
    more_pass cores_shape (walk_from nothing_held) (behind_cores file) file (codes "--turns" ∷ turns ∷ codes "--script" ∷ out ∷ [])
    (positional_walked cores_shape.rules 1 file nothing_held h) (positional_turn cores_shape 1 file nothing_held h) four in
    script_entered name file turns out
    ∙ ap (λ (kinds : Kinds). or_else kinds [])
    (level_passed cores_shape (script_rest file turns out) (behind_script file turns out) (script_walks file turns out h k l) pass ∙ script_ends file turns out)

pub script_words : (name file turns out : Text) → BeginsWithoutHyphen file → IsUnsignedIn 0 most_turns turns → BeginsWithoutHyphen out
    → AskFor (script_line name file turns out) (to_run_cores file (value_of turns) (Some out))
script_words name file turns out h n l =
    let k = unsigned_begins_without turns n in
    let asked : asks_for (script_line name file turns out) ≡ Some (to_run_cores file (value_of turns) (Some out)) =
    script_asked_for name file turns out h k l ∙ ap (option_map (λ (t : ℕ). to_run_cores file t (Some out))) (number_is turns n.0 n.1) in
    let passed : fault_of program (script_line name file turns out) ≡ [] = script_fault name file turns out h k l (Accepts-accepts false (Unsigned 0 most_turns) turns n) in
    (asked, ap₂ or_else passed (ap missing_kinds asked))

-- ---- chart

chart_asked_for : (name file : Text) → BeginsWithoutHyphen file → asks_for (name ∷ codes "chart" ∷ file ∷ []) ≡ Some (to_chart file None)
unfolding clap_on_literals
chart_asked_for name [] h = refl
chart_asked_for name (b ∷ bytes) h = simp h

chart_taken : (name file : Text) → BeginsWithoutHyphen file → refusals (name ∷ codes "chart" ∷ file ∷ []) ≡ []
unfolding clap_on_literals
chart_taken name [] h = refl
chart_taken name (b ∷ bytes) h = simp h

pub chart_words : (name file : Text) → BeginsWithoutHyphen file → AskFor (name ∷ codes "chart" ∷ file ∷ []) (to_chart file None)
chart_words name file h = (chart_asked_for name file h, chart_taken name file h)

abbrev lines_line : Text → Text → Text → List Text
lines_line name file lines = name ∷ codes "chart" ∷ file ∷ codes "--lines" ∷ lines ∷ []

abbrev chart_shape : Shape
chart_shape = shape_in (codes "chart")

abbrev lines_rest : Text → Text → List Text
lines_rest file lines = file ∷ codes "--lines" ∷ lines ∷ []

abbrev behind_chart : Text → Walk
behind_chart file = placed chart_shape.rules 1 file nothing_held

abbrev waits_for_lines : Text → Held
waits_for_lines file = record (settled chart_shape.rules (behind_chart file).held) { pending = Some (codes "A-B", []) }

abbrev behind_lines : Text → Text → Walk
behind_lines file lines = handed chart_shape.rules (codes "A-B") 2 lines (waits_for_lines file)

lines_walked : (file : Text) → walked chart_shape.rules [] (behind_chart file) (codes "--lines") ≡ stands (waits_for_lines file) (option (codes "A-B")) 2
unfolding clap_on_literals
lines_walked file = refl

lines_turn : (file : Text) → turn_fault chart_shape [] (behind_chart file) (codes "--lines") ≡ []
unfolding clap_on_literals
lines_turn file = refl

lines_walks : (file lines : Text) → BeginsWithoutHyphen file → BeginsWithoutHyphen lines → walk chart_shape.rules [] nothing_held (lines_rest file lines) ≡ behind_lines file lines
lines_walks file lines h k =
    ap (λ (w : Walk). walked chart_shape.rules [] (walked chart_shape.rules [] w (codes "--lines")) lines) (positional_walked chart_shape.rules 1 file nothing_held h)
    ∙ ap (λ (w : Walk). walked chart_shape.rules [] w lines) (lines_walked file)
    ∙ value_walked chart_shape.rules (codes "A-B") 2 lines (waits_for_lines file) k

lines_found : (name file lines : Text) → asks_for (lines_line name file lines) ≡ chart_asked (finished chart_shape.rules (walk chart_shape.rules [] nothing_held (lines_rest file lines)).held)
unfolding clap_on_literals
lines_found name file lines = refl

lines_values : (file lines : Text) → chart_asked (finished chart_shape.rules (behind_lines file lines).held) ≡ Some (to_chart file (Some lines))
unfolding clap_on_literals
lines_values file lines = refl

lines_asked_for : (name file lines : Text) → BeginsWithoutHyphen file → BeginsWithoutHyphen lines → asks_for (lines_line name file lines) ≡ Some (to_chart file (Some lines))
lines_asked_for name file lines h k =
    lines_found name file lines ∙ ap (λ (w : Walk). chart_asked (finished chart_shape.rules w.held)) (lines_walks file lines h k) ∙ lines_values file lines

lines_entered : (name file lines : Text) → fault_of program (lines_line name file lines) ≡ or_else (level_fault chart_shape [] nothing_held (lines_rest file lines) false []) []
unfolding clap_on_literals
lines_entered name file lines = refl

lines_end : (file lines : Text) → fault_behind chart_shape (behind_lines file lines).held ≡ []
unfolding clap_on_literals
lines_end file lines = refl

lines_fault : (name file lines : Text) → BeginsWithoutHyphen file → BeginsWithoutHyphen lines → fault_of program (lines_line name file lines) ≡ []
lines_fault name file lines h k =
    let two : walk_fault chart_shape [] (behind_chart file) (codes "--lines" ∷ lines ∷ []) ≡ [] =
    two_pass chart_shape (behind_chart file) (stands (waits_for_lines file) (option (codes "A-B")) 2) (codes "--lines") lines
    (lines_walked file) (lines_turn file) (value_turn chart_shape (codes "A-B") 2 lines (waits_for_lines file) k) in
    let pass : walk_fault chart_shape [] (walk_from nothing_held) (lines_rest file lines) ≡ [] =
    more_pass chart_shape (walk_from nothing_held) (behind_chart file) file (codes "--lines" ∷ lines ∷ [])
    (positional_walked chart_shape.rules 1 file nothing_held h) (positional_turn chart_shape 1 file nothing_held h) two in
    lines_entered name file lines
    ∙ ap (λ (kinds : Kinds). or_else kinds []) (level_passed chart_shape (lines_rest file lines) (behind_lines file lines) (lines_walks file lines h k) pass ∙ lines_end file lines)

pub lines_words : (name file lines : Text) → BeginsWithoutHyphen file → BeginsWithoutHyphen lines → AskFor (lines_line name file lines) (to_chart file (Some lines))
lines_words name file lines h k =
    let asked : asks_for (lines_line name file lines) ≡ Some (to_chart file (Some lines)) = lines_asked_for name file lines h k in
    (asked, ap₂ or_else (lines_fault name file lines h k) (ap missing_kinds asked))

-- ---- header

header_asked_for : (name file : Text) → BeginsWithoutHyphen file → asks_for (name ∷ codes "header" ∷ file ∷ []) ≡ Some (to_head file)
unfolding clap_on_literals
header_asked_for name [] h = refl
header_asked_for name (b ∷ bytes) h = simp h

header_taken : (name file : Text) → BeginsWithoutHyphen file → refusals (name ∷ codes "header" ∷ file ∷ []) ≡ []
unfolding clap_on_literals
header_taken name [] h = refl
header_taken name (b ∷ bytes) h = simp h

pub header_words : (name file : Text) → BeginsWithoutHyphen file → AskFor (name ∷ codes "header" ∷ file ∷ []) (to_head file)
header_words name file h = (header_asked_for name file h, header_taken name file h)
