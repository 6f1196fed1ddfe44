-- What the lexer, the parser and the checker tell of a text.
use Rattle.std.proofs.Common.{◌≡◌, ◌∙◌, ℕ, List, sym, ap, subst, Option, Some, Ok, Err}
use Rattle.std.specs.Prelude.{IfOk, IfSome, Result}
use Rattle.fl_lex.specs.Token.{TheTokens}
use Rattle.fl_lex.specs.Outcome as lexing
use Rattle.fl_lex.specs.Outcome.{lexed, lex_fault, Lexes}
use Rattle.fl_lex.specs.declared.fault.LexFault.{LexFault}
use Rattle.fl_parse.specs.Tree.{TheTree}
use Rattle.fl_parse.specs.Outcome as parsing
use Rattle.fl_parse.specs.Grammar.{parsed, parse_fault, Parses}
use Rattle.fl_parse.specs.declared.fault.ParseFault.{ParseFault}
use Rattle.fl_parse.specs.declared.fault.ParseFault.TheVariants.{NotExpected, AfterInterface, Memory as NoRoom}
use Rattle.fl_check.specs.Outcome as checking
use Rattle.fl_check.specs.Faults as rules
use Rattle.fl_check.specs.Checks.{check_fault, Checks}
use Rattle.fl_check.specs.declared.fault.CheckFault.{CheckFault}
use Rattle.fl_check.specs.declared.fault.CheckFault.TheVariants.{Broken, Memory}
use Rattle.fl_check.specs.Text.{TextOutcome, text_fault, ParsedMeans, LexedMeans, TextMeans}

pub if_ok_then : {T E : Type 0} (r : Result T E) (P Q : T → Type 0) → ((x : T) → P x → Q x) → IfOk r P → IfOk r Q
if_ok_then (Ok x) P Q f h = f x h
if_ok_then (Err e) P Q f h = tt

same_some : (a b : ℕ) → Some a ≡ Some b → a ≡ b
same_some a b e = cc

pub check_told : (tree : TheTree) (fault : CheckFault) (at : ℕ) (o : TextOutcome) → IfSome (checking.outcome_of (Err fault)) (λ found. Checks tree found)
    → rules.fault_offset fault ≡ Some at → o ≡ text_fault (rules.fault_number fault) at → ParsedMeans (parsed tree) o
check_told tree (Broken rule a) at o h e is =
    (check_fault (rules.rule_number rule) a, h, is ∙ ap (text_fault (rules.rule_number rule)) (sym (same_some a at e)))
check_told tree Memory at o h e is = absurd (cc)

pub parse_told : (tokens : TheTokens) (fault : ParseFault) (at : ℕ) (o : TextOutcome) → IfSome (parsing.outcome_of (Err fault)) (λ found. Parses tokens found)
    → parsing.fault_offset fault ≡ Some at → o ≡ text_fault (parsing.fault_number fault) at → LexedMeans (lexed tokens) o
parse_told tokens (NotExpected a) at o h e is = (parse_fault 7 a, h, is ∙ ap (text_fault 7) (sym (same_some a at e)))
parse_told tokens (AfterInterface a) at o h e is = (parse_fault 8 a, h, is ∙ ap (text_fault 8) (sym (same_some a at e)))
parse_told tokens NoRoom at o h e is = absurd (cc)

pub lex_told : (text : List ℕ) (fault : LexFault) (at : ℕ) (o : TextOutcome) → IfSome (lexing.outcome_at (lexing.fault_number fault) (lexing.fault_offset fault)) (λ found. Lexes text found)
    → lexing.fault_offset fault ≡ Some at → o ≡ text_fault (lexing.fault_number fault) at → TextMeans text o
lex_told text fault at o h e is = (
  lex_fault (lexing.fault_number fault) at,
  subst (λ (z : Option ℕ). IfSome (lexing.outcome_at (lexing.fault_number fault) z) (λ found. Lexes text found)) e h,
  is,
)
