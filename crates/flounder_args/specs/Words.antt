-- What the words of the command line ask for: the program's commands as `clap` is told of them, what its definition makes of
-- words, and the laws on what words ask for. Public promises rest on this file.
use Rattle.std.specs.Prelude.{◌≡◌, ◌==◌, ◌&&◌, ◌^◌, ℕ, Bool, true, false, List, [], ◌∷◌, Option, Some, None, option_map, option_and_then, nat_lt}
use Rattle.std.specs.Prelude.{if◌then◌else◌, codes}
use Rattle.std.specs.Str.{bytes_eq}
use Rattle.std.specs.Option.{option_map_or}
use Rattle.clap.specs.declared.builder.action.ArgAction.TheVariants.{SetTrue}
use Rattle.std.specs.Str.Parse.{digits_value, without_leading_plus}
use Rattle.clap.specs.Words.{App, Row, Rule, app_of, Text, Kinds, new_app, new_rule, with_rule, with_subcommand, IsUnsignedIn}
use Rattle.clap.specs.Words.{subcommand_of, fault_of, first_of, one_of}
use Rattle.clap.specs.ValueTests.{is_numeral}
use Rattle.clap.specs.Kinds.{or_else}
use Rattle.clap.specs.declared.builder.value_parser.ValueParser.TheVariants.{Unsigned}
use Rattle.clap.specs.declared.builder.command.Command.{Command}
use Rattle.clap.specs.declared.builder.command.Command.TheViews.{out-Command as fields_of}
use Rattle.clap.specs.declared.error.kind.ErrorKind.TheVariants.{DisplayHelp, DisplayVersion, MissingRequiredArgument, ValueValidation}
use Rattle.flounder_args.specs.declared.words.Request.{Request}
use Rattle.flounder_args.specs.declared.words.Request.TheVariants.{Exec, Show, Compile, Cores, Chart, Header}

-- ---- the program's commands

-- an argument that has to be there
abbrev pub required : Text → Rule
required name = record (new_rule name) { required = true }

-- an option without a value, by its name
abbrev pub flag : Text → Rule
flag name = record (new_rule name) { long = Some name; action = Some SetTrue }

abbrev pub exec_with_explain : App
exec_with_explain = with_rule (new_app (codes "exec")) (flag (codes "explain"))

abbrev pub exec_command : App
exec_command = with_rule (with_rule (new_app (codes "exec")) (flag (codes "explain"))) (flag (codes "strict"))

abbrev pub show_with_file : App
show_with_file = with_rule (new_app (codes "show")) (required (codes "FILE"))

abbrev pub show_command : App
show_command = with_rule (with_rule (new_app (codes "show")) (required (codes "FILE"))) (flag (codes "names"))

abbrev pub compile_with_file : App
compile_with_file = with_rule (new_app (codes "compile")) (required (codes "FILE"))

abbrev pub compile_command : App
compile_command = with_rule (with_rule (new_app (codes "compile")) (required (codes "FILE"))) (required (codes "OUT"))

-- how many turns of a core may be counted at most
abbrev pub most_turns : ℕ
most_turns = 1000000000000

abbrev pub turns_option : Rule
turns_option = record (required (codes "N")) { long = Some (codes "turns"); parser = Some (Unsigned 0 most_turns) }

abbrev pub cores_with_file : App
cores_with_file = with_rule (new_app (codes "cores")) (required (codes "FILE"))

abbrev pub cores_with_turns : App
cores_with_turns = with_rule cores_with_file turns_option

-- an option with a value, which need not be there
abbrev pub script_option : Rule
script_option = record (new_rule (codes "OUT")) { long = Some (codes "script") }

abbrev pub cores_command : App
cores_command = with_rule cores_with_turns script_option

abbrev pub lines_option : Rule
lines_option = record (new_rule (codes "A-B")) { long = Some (codes "lines") }

abbrev pub chart_with_file : App
chart_with_file = with_rule (new_app (codes "chart")) (required (codes "FILE"))

abbrev pub chart_command : App
chart_command = with_rule chart_with_file lines_option

abbrev pub header_command : App
header_command = with_rule (new_app (codes "header")) (required (codes "FILE"))

-- the program without its commands; the word `help` is none
abbrev pub bare_program : App
bare_program = record (new_app (codes "flounder")) {
  top = record (new_app (codes "flounder")).top { disable_help_subcommand = true; has_version = true };
}

-- the program with one command, with two, three, four and five of them
abbrev pub with_exec : App
with_exec = with_subcommand bare_program exec_command.top

abbrev pub with_compile : App
with_compile = with_subcommand with_exec compile_command.top

abbrev pub with_show : App
with_show = with_subcommand with_compile show_command.top

abbrev pub with_cores : App
with_cores = with_subcommand with_show cores_command.top

abbrev pub with_chart : App
with_chart = with_subcommand with_cores chart_command.top

abbrev pub program : App
program =
    with_subcommand
    (with_subcommand
    (with_subcommand
    (with_subcommand (with_subcommand (with_subcommand bare_program exec_command.top) compile_command.top) show_command.top)
    cores_command.top)
    chart_command.top)
    header_command.top

-- a command that `clap` reads so, and that has no argument of all its commands
pub record IsCommand (app : App) (c : Command) : Type 0 where
  pub is_app : app_of c ≡ app
  pub is_local : (fields_of c).has_globals ≡ false

-- ---- what words ask for

-- to run a script, with its refused lines told in words or not, and with a status of their own or not; to show a file, with its arguments'
-- names or not; to compile a file to another; to run a cores file, with so many turns counted at most, and to write a script of the run to
-- a file or not; to draw the run of a script's file, of all of its lines or of those that a word tells; to print the header of a file
pub data Asked : Type 0 where
  to_run : Bool → Bool → Asked
  to_show : Text → Bool → Asked
  to_compile : Text → Text → Asked
  to_run_cores : Text → ℕ → Option Text → Asked
  to_chart : Text → Option Text → Asked
  to_head : Text → Asked

abbrev pub asked_by : Request → Asked
asked_by (Exec explain strict) = to_run explain strict
asked_by (Show file names) = to_show file.now names
asked_by (Compile file out) = to_compile file.now out.now
asked_by (Cores file turns script) = to_run_cores file.now turns (option_map (λ out. out.now) script)
asked_by (Chart file lines) = to_chart file.now (option_map (λ word. word.now) lines)
asked_by (Header file) = to_head file.now

-- whether an option without a value is there
abbrev pub is_true : Option Text → Bool
is_true word = option_map_or (λ w. bytes_eq w (codes "true")) word false

abbrev pub is_told : Text → List Row → Bool
is_told name rows = is_true (first_of name rows)

abbrev pub exec_asked : List Row → Option Asked
exec_asked rows = Some (to_run (is_told (codes "explain") rows) (is_told (codes "strict") rows))

-- a command's values, where all of them are there
abbrev pub show_asked : List Row → Option Asked
show_asked rows = option_map (λ file. to_show file (is_told (codes "names") rows)) (first_of (codes "FILE") rows)

abbrev pub compile_asked : List Row → Option Asked
compile_asked rows = option_and_then (λ file. option_map (to_compile file) (first_of (codes "OUT") rows)) (first_of (codes "FILE") rows)

-- the number that a word is in decimal digits, where 64 bits hold it; a plus may stand before them
abbrev pub value_of : Text → ℕ
value_of word = digits_value 10 (without_leading_plus word)

abbrev pub is_number : Text → Bool
is_number word = is_numeral (without_leading_plus word) && nat_lt (value_of word) (2 ^ 64)

abbrev pub number_in : Text → Option ℕ
number_in word = if is_number word then Some (value_of word) else None

abbrev pub turns_asked : List Row → Option ℕ
turns_asked rows = option_and_then number_in (one_of (codes "N") rows)

abbrev pub cores_of : Text → List Row → Option Asked
cores_of file rows = option_map (λ turns. to_run_cores file turns (first_of (codes "OUT") rows)) (turns_asked rows)

abbrev pub cores_asked : List Row → Option Asked
cores_asked rows = option_and_then (λ file. cores_of file rows) (first_of (codes "FILE") rows)

abbrev pub chart_asked : List Row → Option Asked
chart_asked rows = option_map (λ file. to_chart file (first_of (codes "A-B") rows)) (first_of (codes "FILE") rows)

abbrev pub header_asked : List Row → Option Asked
header_asked rows = option_map to_head (first_of (codes "FILE") rows)

abbrev pub command_asked : Text → List Row → Option Asked
command_asked name rows =
    if bytes_eq name (codes "show") then show_asked rows
    else (if bytes_eq name (codes "compile") then compile_asked rows
    else (if bytes_eq name (codes "cores") then cores_asked rows
    else (if bytes_eq name (codes "chart") then chart_asked rows
    else (if bytes_eq name (codes "header") then header_asked rows
    else exec_asked rows))))

-- the command that was met and its values; without one a script is run
abbrev pub asked_of : Option (Text × List Row) → Option Asked
asked_of None = Some (to_run false false)
asked_of (Some met) = command_asked met.0 met.1

-- what words ask for, the program's name being the first
abbrev pub asks_for : List Text → Option Asked
asks_for words = asked_of (subcommand_of program words)

-- why words ask for nothing: of no kind where they do
abbrev pub missing_kinds : Option Asked → Kinds
missing_kinds None = MissingRequiredArgument ∷ []
missing_kinds (Some asked) = []

abbrev pub refusals : List Text → Kinds
refusals words = or_else (fault_of program words) (missing_kinds (asks_for words))

-- ---- laws on what words ask for

-- words that ask for this, and that are refused only when out of memory
abbrev pub AskFor : List Text → Asked → Type 0
AskFor words asked = (asks_for words ≡ Some asked) × (refusals words ≡ [])

-- a word that doesn't begin with `-`
abbrev pub BeginsWithoutHyphen : Text → Type 0
BeginsWithoutHyphen [] = Unit {0}
BeginsWithoutHyphen (byte ∷ bytes) = (byte == 45) ≡ false

-- Without a word, or with `exec` alone, a script is run; with `--explain` its refused lines are told in words, with `--strict` they have
-- a status of their own.
abbrev pub ExecIsAsked : Type 0
ExecIsAsked = (name : Text) → AskFor (name ∷ []) (to_run false false)
    × AskFor (name ∷ codes "exec" ∷ []) (to_run false false)
    × AskFor (name ∷ codes "exec" ∷ codes "--explain" ∷ []) (to_run true false)
    × AskFor (name ∷ codes "exec" ∷ codes "--strict" ∷ []) (to_run false true)
    × AskFor (name ∷ codes "exec" ∷ codes "--explain" ∷ codes "--strict" ∷ []) (to_run true true)

-- `show FILE`, also with `--names` behind it, and `compile FILE OUT` ask for that, where the files' names don't begin with `-`.
abbrev pub ShowIsAsked : Type 0
ShowIsAsked = (name file : Text) → BeginsWithoutHyphen file
    → AskFor (name ∷ codes "show" ∷ file ∷ []) (to_show file false)
    × AskFor (name ∷ codes "show" ∷ file ∷ codes "--names" ∷ []) (to_show file true)

abbrev pub CompileIsAsked : Type 0
CompileIsAsked = (name file out : Text) → BeginsWithoutHyphen file → BeginsWithoutHyphen out
    → AskFor (name ∷ codes "compile" ∷ file ∷ out ∷ []) (to_compile file out)

-- `cores FILE --turns N` asks for that, also with `--script OUT` behind it, where the files' names don't begin with `-`, and N is a number
-- that isn't too great;
abbrev pub CoresIsAsked : Type 0
CoresIsAsked = (name file turns : Text) → BeginsWithoutHyphen file → IsUnsignedIn 0 most_turns turns
    → AskFor (name ∷ codes "cores" ∷ file ∷ codes "--turns" ∷ turns ∷ []) (to_run_cores file (value_of turns) None)
    × ((out : Text) → BeginsWithoutHyphen out
    → AskFor (name ∷ codes "cores" ∷ file ∷ codes "--turns" ∷ turns ∷ codes "--script" ∷ out ∷ []) (to_run_cores file (value_of turns) (Some out)))

-- another word in the place of N is refused, and so are words without `--turns`.
abbrev pub TurnsAreWanted : Type 0
TurnsAreWanted = (name file : Text) → BeginsWithoutHyphen file
    → (refusals (name ∷ codes "cores" ∷ file ∷ []) ≡ MissingRequiredArgument ∷ [])
    × ((turns : Text) → BeginsWithoutHyphen turns → (IsUnsignedIn 0 most_turns turns → ⊥)
    → refusals (name ∷ codes "cores" ∷ file ∷ codes "--turns" ∷ turns ∷ []) ≡ ValueValidation ∷ [])

-- `chart FILE` asks for that, also with `--lines` and a word behind it, where neither begins with `-`.
abbrev pub ChartIsAsked : Type 0
ChartIsAsked = (name file : Text) → BeginsWithoutHyphen file
    → AskFor (name ∷ codes "chart" ∷ file ∷ []) (to_chart file None)
    × ((lines : Text) → BeginsWithoutHyphen lines → AskFor (name ∷ codes "chart" ∷ file ∷ codes "--lines" ∷ lines ∷ []) (to_chart file (Some lines)))

-- `header FILE` asks for that, where the file's name doesn't begin with `-`.
abbrev pub HeaderIsAsked : Type 0
HeaderIsAsked = (name file : Text) → BeginsWithoutHyphen file → AskFor (name ∷ codes "header" ∷ file ∷ []) (to_head file)

-- `--version` asks for the program's version.
abbrev pub VersionIsAsked : Type 0
VersionIsAsked = (name : Text) → refusals (name ∷ codes "--version" ∷ []) ≡ DisplayVersion ∷ []

-- `--help` asks for help, also behind a command.
abbrev pub HelpIsAsked : Type 0
HelpIsAsked = (name : Text) → (refusals (name ∷ codes "--help" ∷ []) ≡ DisplayHelp ∷ [])
    × (refusals (name ∷ codes "exec" ∷ codes "--help" ∷ []) ≡ DisplayHelp ∷ [])
    × (refusals (name ∷ codes "show" ∷ codes "--help" ∷ []) ≡ DisplayHelp ∷ [])
    × (refusals (name ∷ codes "compile" ∷ codes "--help" ∷ []) ≡ DisplayHelp ∷ [])
    × (refusals (name ∷ codes "cores" ∷ codes "--help" ∷ []) ≡ DisplayHelp ∷ [])
    × (refusals (name ∷ codes "chart" ∷ codes "--help" ∷ []) ≡ DisplayHelp ∷ [])
    × (refusals (name ∷ codes "header" ∷ codes "--help" ∷ []) ≡ DisplayHelp ∷ [])
