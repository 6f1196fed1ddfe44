-- What the parser answers, as contracts see it.
use Rattle.std.specs.Prelude.{◌≡◌, ℕ, Option, Some, None, Result, Ok, Err}
use Rattle.fl_lex.specs.Token.{TheToken, TheTokens}
use Rattle.fl_parse.specs.declared.fault.ParseFault.{ParseFault}
use Rattle.fl_parse.specs.declared.fault.ParseFault.TheVariants.{NotExpected, AfterInterface, Memory}
use Rattle.fl_parse.specs.declared.tree.Tree.{Tree}
use Rattle.fl_parse.specs.Tree.{TheTree, tree_of}
use Rattle.fl_parse.specs.Grammar.{Derives, ParseOutcome, parsed, parse_fault, Parses}
use Rattle.std.specs.Prelude.{List}

-- a fault's number
abbrev pub fault_number : ParseFault → ℕ
fault_number (NotExpected at) = 7
fault_number (AfterInterface at) = 8
fault_number Memory = 99

-- where a fault stands
abbrev pub fault_offset : ParseFault → Option ℕ
fault_offset (NotExpected at) = Some at
fault_offset (AfterInterface at) = Some at
fault_offset Memory = None

-- the outcome that a fault tells: E7 or E8 and its place; that memory is refused is no outcome of the tokens
abbrev pub fault_outcome : ParseFault → Option ParseOutcome
fault_outcome (NotExpected at) = Some (parse_fault 7 at)
fault_outcome (AfterInterface at) = Some (parse_fault 8 at)
fault_outcome Memory = None

-- the outcome that was answered; none where memory is refused
abbrev pub outcome_of : Result Tree ParseFault → Option ParseOutcome
outcome_of (Ok tree) = Some (parsed (tree_of tree))
outcome_of (Err fault) = fault_outcome fault

-- The tokens of a text have an outcome.
abbrev pub SomeOutcome : Type 0
SomeOutcome = (tokens : TheTokens) → (outcome : ParseOutcome) × Parses tokens outcome

-- The tokens of a text have one outcome at most.
abbrev pub OneOutcome : Type 0
OneOutcome = (tokens : TheTokens) (x y : ParseOutcome) → Parses tokens x → Parses tokens y → x ≡ y

-- A list of tokens is written for one tree at most.
abbrev pub OneTree : Type 0
OneTree = (tokens : List TheToken) (x y : TheTree) → Derives tokens x → Derives tokens y → x ≡ y
