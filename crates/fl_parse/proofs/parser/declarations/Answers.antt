use Rattle.std.proofs.Common.{◌≡◌, ◌<◌, Bool, false, [], ◌∷◌, ◌++◌, length, map, arith, sym}
use Rattle.std.proofs.lemmas.Result.{err_from_is_err_and}
use Rattle.std.proofs.lemmas.List.{map_push, length-map}
use Rattle.fl_lex.specs.declared.token.Mark.TheVariants.{CloseBrace}
use Rattle.fl_lex.specs.Token.{TheToken, token_of}
use Rattle.fl_parse.specs.Tree.{declaration_of}
use Rattle.fl_parse.specs.Grammar.{is_mark}
use Rattle.fl_parse.specs.Reading.{begins, many_at, declaration_at, declarations_at}
use Rattle.fl_parse.proofs.Choices.{shorter}
use Rattle.fl_parse.proofs.Productions.{declaration_reads, declaration_starts}
use Rattle.fl_parse.proofs.Loops.{left_all, left_stops, left_goes}
use Rattle.fl_parse.proofs.parser.declarations.Goals as goal

abbrev closes : TheToken → Bool
closes token = is_mark token CloseBrace

pub loop-alloc-init : goal.loop-alloc-init
unfolding declarations_at
loop-alloc-init c = rw (c.new-declarations.ensures.items, c.split_at.ensures.back) (left_all (many_at closes declaration_at) (map token_of c.args.tokens.now))

pub returns-in_err-next : goal.returns-in_err-next
returns-in_err-next c =
    let p = err_from_is_err_and c.from_residual.result c.from_residual.ensures.1 in
    let more : begins closes (map token_of c.loop-alloc.rest.now) ≡ false = sym c.loop-alloc-test.ensures.exact in
    rw (p.1, p.2) (record { reads = left_stops closes c.in_err-next.field-0.0 declaration_reads c.loop-alloc.invariant more c.in_err-next.ensures.reads })

pub loop-alloc-smaller : goal.loop-alloc-smaller
loop-alloc-smaller c =
    let less : length (map token_of c.in_ok-next.after.now) < length (map token_of c.loop-alloc.rest.now) =
    shorter closes false declaration_reads declaration_starts (map token_of c.loop-alloc.rest.now) (map token_of c.in_ok-next.after.now) (declaration_of c.in_ok-next.next) c.in_ok-next.ensures.reads in
    omega (arith, less, length-map c.in_ok-next.after.now token_of, length-map c.loop-alloc.rest.now token_of)

pub loop-alloc-preserved : goal.loop-alloc-preserved
loop-alloc-preserved c =
    let e : map declaration_of c.push.new.self.items ≡ map declaration_of c.loop-alloc.declarations.items ++ declaration_of c.in_ok-next.next ∷ [] =
    rw c.in_ok-push.ensures.items (map_push _ c.loop-alloc.declarations.items c.in_ok-next.next) in
    let more : begins closes (map token_of c.loop-alloc.rest.now) ≡ false = sym c.loop-alloc-test.ensures.exact in
    let less : length (map token_of c.in_ok-next.after.now) < length (map token_of c.loop-alloc.rest.now) =
    shorter closes false declaration_reads declaration_starts (map token_of c.loop-alloc.rest.now) (map token_of c.in_ok-next.after.now) (declaration_of c.in_ok-next.next) c.in_ok-next.ensures.reads in
    rw e (left_goes closes declaration_at (declaration_of c.in_ok-next.next) (map token_of c.in_ok-next.after.now) c.loop-alloc.invariant more c.in_ok-next.ensures.reads less)
