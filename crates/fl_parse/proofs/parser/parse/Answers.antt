use Rattle.std.proofs.Common.{◌≡◌, map, ap, sym, ◌∙◌, List, subst, inl}
use Rattle.fl_lex.specs.declared.token.Token.{Token}
use Rattle.fl_lex.specs.Token.{token_of, tokens_of}
use Rattle.fl_parse.specs.Tree.{tree_of}
use Rattle.fl_parse.specs.Reading.{Fails, body_at}
use Rattle.fl_parse.proofs.Outcomes.{empty_rest, some_rest, stopped_body}
use Rattle.fl_parse.specs.Grammar.{FaultAtToken, HasHead}
use Rattle.fl_parse.proofs.Heads.{memory_stop}
use Rattle.fl_parse.proofs.parser.parse.Goals as goal

pub returns-in-Err : goal.returns-in-Err
returns-in-Err c =
    let all : map token_of c.as_slice.result.now ≡ map token_of c.args.tokens.now.items.items = ap (λ (xs : List Token). map token_of xs) c.as_slice.ensures.value in
    let stopped : Fails c.in-Err.stop (body_at (map token_of c.args.tokens.now.items.items)) = subst (λ xs. Fails c.in-Err.stop (body_at xs)) all c.in-Err.ensures.reads in
    rw c.fault_of.ensures.fault (record {
      outcome = stopped_body (tokens_of c.args.tokens.now) c.in-Err.stop stopped;
      memory = λ q. subst HasHead all (c.in-Err.ensures.memory (memory_stop c.in-Err.stop c.args.tokens.now.end q));
    })

pub returns-in-empty-clause-outcome : goal.returns-in-empty-clause-outcome
returns-in-empty-clause-outcome c =
    let all : map token_of c.as_slice.result.now ≡ map token_of c.args.tokens.now.items.items = ap (λ (xs : List Token). map token_of xs) c.as_slice.ensures.value in
    let read = sym (ap body_at all) ∙ c.in-Ok.ensures.reads in
    empty_rest (map token_of c.args.tokens.now.items.items) (tree_of c.in-Ok.found.0) (map token_of c.in-Ok.found.1.now) c.skip_semicolon.result.now
    read c.in-empty.len_below c.skip_semicolon.ensures.rest

pub returns-clause-outcome : goal.returns-clause-outcome
returns-clause-outcome c =
    let all : map token_of c.as_slice.result.now ≡ map token_of c.args.tokens.now.items.items = ap (λ (xs : List Token). map token_of xs) c.as_slice.ensures.value in
    let read = sym (ap body_at all) ∙ c.in-Ok.ensures.reads in
    let tokens = map token_of c.args.tokens.now.items.items in
    inl (subst (λ (t : Token). FaultAtToken tokens 8 t.at) (sym c.first-item.is)
    (some_rest tokens (tree_of c.in-Ok.found.0) (map token_of c.in-Ok.found.1.now) c.skip_semicolon.result.now c.first-item.result read c.in-len1-up.len_at_least
    c.skip_semicolon.ensures.rest))
