-- What a tree is printed as comes to the same tree again.
use Rattle.std.proofs.Common.{◌≡◌, ℕ, ◌≤◌, List, length, map, sym, ◌∙◌, ap, subst, arith}
use Rattle.std.specs.List.{AllByRecursion}
use Rattle.fl_lex.specs.Outcome.{lexed}
use Rattle.fl_lex.specs.Joined.{Sign, sign_of, joined, IsSign}
use Rattle.fl_lex.proofs.Outcomes as lexing
use Rattle.fl_lex.proofs.Signs.{joined_lexes}
use Rattle.fl_lex.proofs.Shortest.{joined_is_shortest}
use Rattle.fl_parse.specs.Tree.{TheTree}
use Rattle.fl_parse.specs.Grammar.{parsed, Derives}
use Rattle.fl_parse.specs.Printed.{printed}
use Rattle.fl_parse.specs.Written.{spans_aside, tokens_of_tree}
use Rattle.fl_parse.specs.RoundTrip.{IsTextOf, ReadsBack, IsShortestText, RoundTrip}
use Rattle.fl_parse.proofs.Outcomes as parsing
use Rattle.fl_parse.proofs.Writes.{printed_derives}
use Rattle.fl_parse.proofs.Prints.{printed_is_text}
use Rattle.fl_parse.proofs.Moves.{derives_again}
use Rattle.fl_parse.proofs.Shrinks.{derives_shrinks}
use Rattle.fl_parse.proofs.Aside.{aside_once, aside_printed}

-- the signs of a tree's tokens
abbrev signs : TheTree → List Sign
signs tree = map sign_of (tokens_of_tree tree)

signs_read_back : (tree : TheTree) → Derives (tokens_of_tree tree) (spans_aside tree) → AllByRecursion IsSign (signs tree) → length (joined (signs tree)) ≤ 65536
    → ReadsBack tree (joined (signs tree))
signs_read_back tree written sound short =
    let (tokens, lexes, same) = joined_lexes (signs tree) sound short in
    let (again, derives, aside) = derives_again (tokens_of_tree tree) tokens.tokens (spans_aside tree) written same in
    record {
      tokens = tokens;
      again = again;
      lexes = lexes;
      only_lexes = λ other l. lexing.one_outcome (joined (signs tree)) other (lexed tokens) l lexes;
      parses = derives;
      only_parses = λ other l. parsing.one_outcome tokens other (parsed again) l derives;
      same = aside ∙ aside_once tree;
    }

text_reads_back : (source : List ℕ) (tree : TheTree) → IsTextOf tree source → ReadsBack tree (printed tree) × (length (printed tree) ≤ length source)
text_reads_back source tree is =
    let (sound, few) = joined_is_shortest source is.tokens is.lexes in
    let (kept, fewer) = derives_shrinks is.tokens.tokens tree is.parses sound in
    let short : length (joined (signs tree)) ≤ length source = omega (arith, few, fewer) in
    let back : ReadsBack tree (joined (signs tree)) =
    signs_read_back tree (printed_derives is.tokens.tokens tree is.parses) kept (omega (arith, short, is.lexes.short)) in
    subst (λ (z : List ℕ). ReadsBack tree z × (length z ≤ length source)) (sym (printed_is_text tree)) (back, short)

pub round_trip : RoundTrip
round_trip tree source written is same =
    let (back, short) = text_reads_back source written is in
    let text : printed written ≡ printed tree = sym (aside_printed written) ∙ ap printed (sym same) ∙ aside_printed tree in
    subst (λ (z : List ℕ). ReadsBack tree z × (length z ≤ length source)) text (
      record {
        tokens = back.tokens;
        again = back.again;
        lexes = back.lexes;
        only_lexes = back.only_lexes;
        parses = back.parses;
        only_parses = back.only_parses;
        same = back.same ∙ sym same;
      },
      short,
    )

-- a text that is what the tree is printed as
pub printed_again : (tree : TheTree) (text : List ℕ) → text ≡ printed tree → IsShortestText tree text
printed_again tree text e = subst (λ (z : List ℕ). IsShortestText tree z) (sym e) (round_trip tree)
