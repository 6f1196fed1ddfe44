use Rattle.std.proofs.Common.{◌≡◌, ◌<◌, Bool, false, [], ◌∷◌, ◌++◌, length, map, arith, sym}
use Rattle.std.proofs.lemmas.Result.{err_from_is_err_and}
use Rattle.std.proofs.lemmas.List.{map_push, length-map}
use Rattle.fl_lex.specs.declared.token.Mark.TheVariants.{CloseBrace}
use Rattle.fl_lex.specs.Token.{TheToken, token_of}
use Rattle.fl_parse.specs.Tree.{field_of}
use Rattle.fl_parse.specs.Grammar.{is_mark}
use Rattle.fl_parse.specs.Reading.{begins, many_at, field_at, fields_at}
use Rattle.fl_parse.proofs.Choices.{shorter}
use Rattle.fl_parse.proofs.Productions.{field_reads, field_starts}
use Rattle.fl_parse.proofs.Loops.{left_all, left_stops, left_goes}
use Rattle.fl_parse.proofs.parts.fields.Goals as goal

abbrev closes : TheToken → Bool
closes token = is_mark token CloseBrace

pub loop-rest-init : goal.loop-rest-init
unfolding fields_at
loop-rest-init c = rw (c.new-fields.ensures.items, c.split_at.ensures.back) (left_all (many_at closes field_at) (map token_of c.args.tokens.now))

pub returns-in_err-next : goal.returns-in_err-next
returns-in_err-next c =
    let p = err_from_is_err_and c.from_residual.result c.from_residual.ensures.1 in
    let more : begins closes (map token_of c.loop-rest.rest.now) ≡ false = sym c.loop-rest-test.ensures.exact in
    rw (p.1, p.2) (record { reads = left_stops closes c.in_err-next.field-0.0 field_reads c.loop-rest.invariant more c.in_err-next.ensures.reads })

pub loop-rest-smaller : goal.loop-rest-smaller
loop-rest-smaller c =
    let less : length (map token_of c.in_ok-next.after.now) < length (map token_of c.loop-rest.rest.now) =
    shorter closes false field_reads field_starts (map token_of c.loop-rest.rest.now) (map token_of c.in_ok-next.after.now) (field_of c.in_ok-next.next) c.in_ok-next.ensures.reads in
    omega (arith, less, length-map c.in_ok-next.after.now token_of, length-map c.loop-rest.rest.now token_of)

pub loop-rest-preserved : goal.loop-rest-preserved
loop-rest-preserved c =
    let e : map field_of c.push.new.self.items ≡ map field_of c.loop-rest.fields.items ++ field_of c.in_ok-next.next ∷ [] =
    rw c.in_ok-push.ensures.items (map_push _ c.loop-rest.fields.items c.in_ok-next.next) in
    let more : begins closes (map token_of c.loop-rest.rest.now) ≡ false = sym c.loop-rest-test.ensures.exact in
    let less : length (map token_of c.in_ok-next.after.now) < length (map token_of c.loop-rest.rest.now) =
    shorter closes false field_reads field_starts (map token_of c.loop-rest.rest.now) (map token_of c.in_ok-next.after.now) (field_of c.in_ok-next.next) c.in_ok-next.ensures.reads in
    rw e (left_goes closes field_at (field_of c.in_ok-next.next) (map token_of c.in_ok-next.after.now) c.loop-rest.invariant more c.in_ok-next.ensures.reads less)
