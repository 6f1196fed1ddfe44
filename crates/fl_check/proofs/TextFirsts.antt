-- A text stands for one thing.
use Rattle.std.proofs.Common.{◌≡◌, ◌∙◌, refl, sym, ap, subst}
use Rattle.fl_lex.specs.Outcome.{LexOutcome, lexed, lex_fault}
use Rattle.fl_lex.proofs.Totals as lexing
use Rattle.fl_lex.proofs.Outcomes as lexings
use Rattle.fl_parse.specs.Grammar.{ParseOutcome, parsed, parse_fault}
use Rattle.fl_parse.proofs.Outcomes as parsing
use Rattle.fl_check.proofs.Firsts as checking
use Rattle.fl_check.specs.Text.{TextOutcome, text_fault, checked_as, ParsedMeans, LexedMeans, SomeText, OneText}

some_parsed : (found : ParseOutcome) → (outcome : TextOutcome) × ParsedMeans found outcome
some_parsed (parse_fault n at) = (text_fault n at, refl)
some_parsed (parsed tree) = let (found, h) = checking.some_outcome tree in (checked_as found, (found, h, refl))

some_lexed : (found : LexOutcome) → (outcome : TextOutcome) × LexedMeans found outcome
some_lexed (lex_fault n at) = (text_fault n at, refl)
some_lexed (lexed tokens) =
    let (found, h) = parsing.some_outcome tokens in
    let (outcome, m) = some_parsed found in
    (outcome, (found, h, m))

pub some_text : SomeText
some_text text =
    let (found, h) = lexing.some_outcome text in
    let (outcome, m) = some_lexed found in
    (outcome, (found, h, m))

one_parsed : (found : ParseOutcome) (a b : TextOutcome) → ParsedMeans found a → ParsedMeans found b → a ≡ b
one_parsed (parse_fault n at) a b x y = x ∙ sym y
one_parsed (parsed tree) a b (f, cf, e) (g, cg, d) = e ∙ (ap checked_as (checking.one_outcome tree f g cf cg) ∙ sym d)

one_lexed : (found : LexOutcome) (a b : TextOutcome) → LexedMeans found a → LexedMeans found b → a ≡ b
one_lexed (lex_fault n at) a b x y = x ∙ sym y
one_lexed (lexed tokens) a b (f, pf, mf) (g, pg, mg) =
    one_parsed f a b mf (subst (λ (z : ParseOutcome). ParsedMeans z b) (sym (parsing.one_outcome tokens f g pf pg)) mg)

pub one_text : OneText
one_text text a b (f, lf, mf) (g, lg, mg) =
    one_lexed f a b mf (subst (λ (z : LexOutcome). LexedMeans z b) (sym (lexings.one_outcome text f g lf lg)) mg)
