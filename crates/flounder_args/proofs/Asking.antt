-- What words ask for, from what `clap` made of them.
use Rattle.std.proofs.Common.{◌≡◌, ◌∙◌, ◌<◌, ◌^◌, inl, inr, ap, ap₂, refl, sym, arith, codes, ℕ, Bool, true, false, List, [], ◌∷◌, Option, Some, None, ◌||◌, ◌&&◌}
use Rattle.std.proofs.lemmas.Bool.{ltb-true, le-leb}
use Rattle.std.specs.Prelude.{option_map, option_and_then, nat_le, nat_lt, Result, Ok, Err}
use Rattle.std.specs.Str.Parse.{IsNumeral, ParsesUnsigned, without_leading_plus}
use Rattle.clap.specs.ValueTests.{is_numeral}
use Rattle.clap.specs.Matches.{ReadsOne}
use Rattle.clap.specs.declared.builder.value_parser.ValueParser.TheVariants.{Unsigned}
use Rattle.clap.proofs.ValueTestLemmas.{accepts-Accepts, Accepts-accepts}
use Rattle.clap.proofs.WalkLemmas.{both}
use Rattle.clap.specs.Words.{App, Row, Rule, Text, Kinds, rule_of, with_rule, with_subcommand, AddsArg, AddsSubcommand, HasKind, IsAmong, fault_of, first_of, is_simple, kind_of, HasMatchesOf, subcommand_of, subcommand_rows_of}
use Rattle.clap.specs.Faults.{is_simple_and_free}
use Rattle.clap.specs.declared.parser.matches.ArgMatches.{ArgMatches}
use Rattle.clap.specs.Kinds.{or_else}
use Rattle.clap.specs.declared.error.Error.{Error}
use Rattle.clap.specs.declared.error.kind.ErrorKind.{ErrorKind}
use Rattle.clap.specs.declared.error.kind.ErrorKind.TheVariants.{MissingRequiredArgument}
use Rattle.clap.specs.declared.builder.arg.Arg.{Arg}
use Rattle.clap.specs.declared.builder.command.Command.{Command}
use Rattle.clap.proofs.OnLiterals.{clap_on_literals}
use Rattle.flounder_args.specs.Words.{IsCommand, Asked, to_compile, compile_asked, cores_of, cores_asked, value_of, is_number, number_in, program, asked_of, asks_for, missing_kinds, refusals}

-- a command with one more below it
pub with_one_more : (old sub new : Command) (a b : App) → IsCommand a old → IsCommand b sub → AddsSubcommand old sub new → IsCommand (with_subcommand a b.top) new
with_one_more old sub new a b h k adds = record {
  is_app = adds.shape k.is_local ∙ ap₂ with_subcommand h.is_app (ap (λ (x : App). x.top) k.is_app);
  is_local = adds.globals ∙ ap₂ (λ x y. x || y) h.is_local k.is_local;
}

-- a command with one more argument
pub with_argument : (old new : Command) (arg : Arg) (a : App) (r : Rule) → IsCommand a old → arg.global ≡ false → rule_of arg ≡ r → AddsArg old arg new → IsCommand (with_rule a r) new
with_argument old new arg a r h local is adds = record {
  is_app = adds.shape local ∙ ap₂ with_rule h.is_app is;
  is_local = adds.globals ∙ ap₂ (λ x y. x || y) h.is_local local;
}

-- the values of `compile`, from its first
pub to_other : (rows : List Row) (file : Option Text) (asked : Option Asked) → file ≡ first_of (codes "FILE") rows
    → asked ≡ option_and_then (λ f. option_map (to_compile f) (first_of (codes "OUT") rows)) file → asked ≡ compile_asked rows
to_other rows file asked e h = h ∙ ap (option_and_then (λ f. option_map (to_compile f) (first_of (codes "OUT") rows))) e

-- the values of `cores`, from its first
pub to_turns : (rows : List Row) (file : Option Text) (asked : Option Asked) → file ≡ first_of (codes "FILE") rows
    → asked ≡ option_and_then (λ f. cores_of f rows) file → asked ≡ cores_asked rows
to_turns rows file asked e h = h ∙ ap (option_and_then (λ f. cores_of f rows)) e

-- tests one after another
first_two : (a b c : Bool) → (a && (b && c)) ≡ true → (a && b) ≡ true
first_two true true c e = refl
first_two true false c e = e
first_two false b c e = e

all_three : (a b c : Bool) → (a && b) ≡ true → c ≡ true → (a && (b && c)) ≡ true
all_three true true c e f = f
all_three true false c e f = e
all_three false b c e f = e

-- a numeral that 64 bits hold, and no other word, is a number
number_passes : (word : Text) → IsNumeral 10 (without_leading_plus word) → value_of word < 2 ^ 64 → is_number word ≡ true
number_passes word h k =
    first_two (is_numeral (without_leading_plus word)) (nat_lt (value_of word) (2 ^ 64)) (nat_le 0 (value_of word) && nat_le (value_of word) (2 ^ 64))
    (Accepts-accepts false (Unsigned 0 (2 ^ 64)) word (h, k, omega arith, omega (arith, k)))

number_from : (word : Text) → is_number word ≡ true → IsNumeral 10 (without_leading_plus word) × (value_of word < 2 ^ 64)
number_from word t =
    let small : value_of word < 2 ^ 64 = ltb-true (value_of word) (2 ^ 64) (both (is_numeral (without_leading_plus word)) (nat_lt (value_of word) (2 ^ 64)) t).1 in
    let bounds : (nat_le 0 (value_of word) && nat_le (value_of word) (2 ^ 64)) ≡ true = rw (le-leb 0 (value_of word) (omega arith)) (le-leb (value_of word) (2 ^ 64) (omega (arith, small))) in
    let is = accepts-Accepts false (Unsigned 0 (2 ^ 64)) word
    (all_three (is_numeral (without_leading_plus word)) (nat_lt (value_of word) (2 ^ 64)) (nat_le 0 (value_of word) && nat_le (value_of word) (2 ^ 64)) t bounds) in
    (is.0, is.1)

pub number_is : (word : Text) → IsNumeral 10 (without_leading_plus word) → value_of word < 2 ^ 64 → number_in word ≡ Some (value_of word)
number_is word h k = rw (number_passes word h k) refl

-- what `u64` reads is the number that a word is
number_read : {E : Type 0} (G : Text → Result ℕ E → Type 0) → ((t : Text) (x : Result ℕ E) → G t x → ParsesUnsigned 64 10 t x) → (word : Text) (r : Option ℕ) → ReadsOne G word r → r ≡ number_in word
number_read G only word (Some n) h =
    let p = only word (Ok n) h in
    ap Some p.1 ∙ sym (number_is word p.0.0 p.0.1)
number_read G only word None h = go (is_number word) refl
  where
    go : (b : Bool) → is_number word ≡ b → None ≡ number_in word
    go false t = rw t refl
    go true t = absurd (only word (Err h.0) h.1 (number_from word t))

pub turns_read : {E : Type 0} (G : Text → Result ℕ E → Type 0) → ((t : Text) (x : Result ℕ E) → G t x → ParsesUnsigned 64 10 t x) → (o : Option Text) (r : Option ℕ)
    → (o ≡ None → r ≡ None) → ((t : Text) → o ≡ Some t → ReadsOne G t r) → r ≡ option_and_then number_in o
turns_read G only None r none value = none refl
turns_read G only (Some t) r none value = number_read G only t r (value t refl)

-- the program is one of which `clap` says what it makes of words
pub is_exact : is_simple_and_free program ≡ true
unfolding clap_on_literals
is_exact = refl

among_first : (k : ErrorKind) (first next : Kinds) → IsAmong k first → IsAmong k (or_else first next)
among_first k [] next h = absurd h
among_first k (x ∷ xs) next h = h

has_first : (e : Error) (first next : Kinds) → HasKind first e → HasKind (or_else first next) e
has_first e first next (inl h) = inl h
has_first e first next (inr h) = inr (among_first (kind_of e) first next h)

is_matched : is_simple program ≡ true
unfolding clap_on_literals
is_matched = refl

-- what was matched is what the words ask for
pub words_ask : (words : List Text) (app : App) (m : ArgMatches) (asked : Option Asked) → app ≡ program → HasMatchesOf app words m → asked ≡ asked_of (subcommand_rows_of m) → asked ≡ asks_for words
words_ask words app m asked is h a =
    let rows : subcommand_rows_of m ≡ subcommand_of program words = (h (ap is_simple is ∙ is_matched)).1 ∙ ap (λ (y : App). subcommand_of y words) is in
    a ∙ ap asked_of rows

-- words that `clap` refuses
pub words_refused : (words : List Text) (app : App) (e : Error) → app ≡ program → (is_simple_and_free app ≡ true → HasKind (fault_of app words) e) → HasKind (fault_of program words) e
words_refused words app e is h = subst-kinds app program is (h (ap is_simple_and_free is ∙ is_exact))
  where
    subst-kinds : (a b : App) → a ≡ b → HasKind (fault_of a words) e → HasKind (fault_of b words) e
    subst-kinds a b s x = rw (ap (λ (y : App). fault_of y words) s) at x

-- words that it accepts
pub words_accepted : (words : List Text) (app : App) → app ≡ program → (is_simple_and_free app ≡ true → fault_of app words ≡ []) → fault_of program words ≡ []
words_accepted words app is h = ap (λ (y : App). fault_of y words) (sym is) ∙ h (ap is_simple_and_free is ∙ is_exact)

-- words that it refuses ask for nothing
pub first_refused : (words : List Text) (e : Error) → HasKind (fault_of program words) e → HasKind (refusals words) e
first_refused words e h = has_first e (fault_of program words) (missing_kinds (asks_for words)) h

-- words that ask for something
pub words_taken : (words : List Text) (asked : Asked) → fault_of program words ≡ [] → Some asked ≡ asks_for words → refusals words ≡ []
words_taken words asked none a = ap₂ or_else none (ap missing_kinds (sym a))

-- words whose command lacks a value
pub words_lack : (words : List Text) (e : Error) → fault_of program words ≡ [] → None ≡ asks_for words → kind_of e ≡ MissingRequiredArgument → HasKind (refusals words) e
words_lack words e none a k =
    let kinds : refusals words ≡ MissingRequiredArgument ∷ [] = ap₂ or_else none (ap missing_kinds (sym a)) in
    rw kinds (inr (inl k))
