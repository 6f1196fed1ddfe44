use Rattle.std.proofs.Common.{◌≡◌, ◌<◌, Bool, true, false, length, map, arith, sym, refl, ◌∙◌}
use Rattle.std.proofs.lemmas.Result.{err_from_is_err_and}
use Rattle.std.proofs.lemmas.List.{length-map}
use Rattle.fl_lex.specs.declared.token.Mark.TheVariants.{CloseParen, Comma}
use Rattle.fl_lex.specs.Token.{TheToken, token_of}
use Rattle.fl_parse.specs.Grammar.{is_mark}
use Rattle.fl_parse.specs.Reading.{begins, behind_comma, argument_at, arguments_at}
use Rattle.fl_parse.proofs.Choices.{shorter}
use Rattle.fl_parse.proofs.Lists.{mark_starts, then_starts, behind_comma_reads}
use Rattle.fl_parse.proofs.Productions.{argument_reads}
use Rattle.fl_parse.proofs.Loops.{left_stops, left_goes, separated_none, separated_stops, separated_begun, comma_stops, behind_comma_is, behind_comma_stops}
use Rattle.fl_parse.proofs.parts.arguments.Goals as goal

abbrev closes : TheToken → Bool
closes token = is_mark token CloseParen

abbrev separates : TheToken → Bool
separates token = is_mark token Comma

pub returns-then-begins_with : goal.returns-then-begins_with
unfolding arguments_at
returns-then-begins_with c =
    let ended : begins closes (map token_of c.args.tokens.now) ≡ true = sym c.if-begins_with.ensures.exact in
    rw c.new-arguments.ensures.items (record { reads = separated_none closes argument_at (map token_of c.args.tokens.now) ended })

pub returns-in_err-rest : goal.returns-in_err-rest
unfolding arguments_at
returns-in_err-rest c =
    let p = err_from_is_err_and c.from_residual.result c.from_residual.ensures.1 in
    let more : begins closes (map token_of c.args.tokens.now) ≡ false = sym c.if-begins_with.ensures.exact in
    rw (p.1, p.2) (record { reads = separated_stops closes argument_at (map token_of c.args.tokens.now) c.in_err-rest.field-0.0 more c.in_err-rest.ensures.refusal })

pub loop-rest-init : goal.loop-rest-init
unfolding arguments_at
loop-rest-init c =
    let more : begins closes (map token_of c.args.tokens.now) ≡ false = sym c.if-begins_with.ensures.exact in
    let t = c.in_ok-rest.ensures.takes in
    rw (t.more, c.new-arguments.ensures.items)
    (separated_begun closes argument_at (map token_of c.args.tokens.now) t.item (map token_of c.in_ok-rest.rest.now) more t.is)

pub returns-in_err-after_comma : goal.returns-in_err-after_comma
returns-in_err-after_comma c =
    let p = err_from_is_err_and c.from_residual-in_err-after_comma.result c.from_residual-in_err-after_comma.ensures.1 in
    let more : begins closes (map token_of c.loop-rest.rest.now) ≡ false = sym c.loop-rest-test.ensures.exact in
    rw (p.1, p.2) (record {
      reads = left_stops closes c.in_err-after_comma.field-0.0 (behind_comma_reads argument_reads) c.loop-rest.invariant more
          (comma_stops argument_at (map token_of c.loop-rest.rest.now) c.in_err-after_comma.field-0.0 c.in_err-after_comma.ensures.reads);
    })

pub returns-in_err-rest-2 : goal.returns-in_err-rest-2
returns-in_err-rest-2 c =
    let p = err_from_is_err_and c.from_residual-in_err-rest-2.result c.from_residual-in_err-rest-2.ensures.1 in
    let more : begins closes (map token_of c.loop-rest.rest.now) ≡ false = sym c.loop-rest-test.ensures.exact in
    rw (p.1, p.2) (record {
      reads = left_stops closes c.in_err-rest-2.field-0.0 (behind_comma_reads argument_reads) c.loop-rest.invariant more
          (behind_comma_stops argument_at (map token_of c.loop-rest.rest.now) (map token_of c.in_ok-after_comma.after_comma.now) c.in_err-rest-2.field-0.0
          c.in_ok-after_comma.ensures.reads c.in_err-rest-2.ensures.refusal);
    })

pub loop-rest-smaller : goal.loop-rest-smaller
loop-rest-smaller c =
    let t = c.in_ok-rest-2.ensures.takes in
    let whole = behind_comma_is argument_at (map token_of c.loop-rest.rest.now) (map token_of c.in_ok-after_comma.after_comma.now) c.in_ok-after_comma.ensures.reads ∙ t.is in
    let less : length (map token_of c.in_ok-rest-2.rest.now) < length (map token_of c.loop-rest.rest.now) =
    shorter separates true (behind_comma_reads argument_reads) (then_starts separates true (mark_starts Comma Comma true refl)) (map token_of c.loop-rest.rest.now) (map token_of c.in_ok-rest-2.rest.now) t.item whole in
    omega (arith, less, length-map c.in_ok-rest-2.rest.now token_of, length-map c.loop-rest.rest.now token_of)

pub loop-rest-preserved : goal.loop-rest-preserved
loop-rest-preserved c =
    let t = c.in_ok-rest-2.ensures.takes in
    let more : begins closes (map token_of c.loop-rest.rest.now) ≡ false = sym c.loop-rest-test.ensures.exact in
    let whole = behind_comma_is argument_at (map token_of c.loop-rest.rest.now) (map token_of c.in_ok-after_comma.after_comma.now) c.in_ok-after_comma.ensures.reads ∙ t.is in
    let less : length (map token_of c.in_ok-rest-2.rest.now) < length (map token_of c.loop-rest.rest.now) =
    shorter separates true (behind_comma_reads argument_reads) (then_starts separates true (mark_starts Comma Comma true refl)) (map token_of c.loop-rest.rest.now) (map token_of c.in_ok-rest-2.rest.now) t.item whole in
    rw t.more (left_goes closes (behind_comma argument_at) t.item (map token_of c.in_ok-rest-2.rest.now) c.loop-rest.invariant more whole less)
