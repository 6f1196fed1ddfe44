-- What a tree is printed as comes to the same tree again, and no text of the tree is shorter.
use Rattle.std.specs.Prelude.{◌≡◌, ℕ, ◌≤◌, List, length}
use Rattle.fl_lex.specs.Token.{TheTokens}
use Rattle.fl_lex.specs.Outcome.{LexOutcome, lexed, Lexes}
use Rattle.fl_parse.specs.Tree.{TheTree}
use Rattle.fl_parse.specs.Grammar.{ParseOutcome, parsed, Parses}
use Rattle.fl_parse.specs.Printed.{printed}
use Rattle.fl_parse.specs.Written.{spans_aside}

-- the bytes are lexed and parsed to this tree
pub record IsTextOf (tree : TheTree) (text : List ℕ) : Type 0 where
  pub tokens : TheTokens
  pub lexes : Lexes text (lexed tokens)
  pub parses : Parses tokens (parsed tree)

-- the bytes are lexed and parsed to a tree that is this one, places aside, and can come to nothing else
pub record ReadsBack (tree : TheTree) (text : List ℕ) : Type 0 where
  pub tokens : TheTokens
  pub again : TheTree
  pub lexes : Lexes text (lexed tokens)
  pub only_lexes : (other : LexOutcome) → Lexes text other → other ≡ lexed tokens
  pub parses : Parses tokens (parsed again)
  pub only_parses : (other : ParseOutcome) → Parses tokens other → other ≡ parsed again
  pub same : spans_aside again ≡ spans_aside tree

-- Where any text has the tree, places aside, these bytes read back as it and are no longer than that text.
abbrev pub IsShortestText : TheTree → List ℕ → Type 0
IsShortestText tree text =
    (source : List ℕ) (written : TheTree) → IsTextOf written source → spans_aside tree ≡ spans_aside written
    → ReadsBack tree text × (length text ≤ length source)

-- So it is for what a tree is printed as.
abbrev pub RoundTrip : Type 0
RoundTrip = (tree : TheTree) → IsShortestText tree (printed tree)
