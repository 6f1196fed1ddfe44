use Rattle.std.proofs.Common.{◌≡◌, ◌<◌, Bool, true, false, [], ◌∷◌, ◌++◌, length, map, arith, sym, refl}
use Rattle.std.proofs.lemmas.List.{map_push}
use Rattle.fl_lex.specs.declared.token.Mark.TheVariants.{CloseBrace, Comma}
use Rattle.fl_lex.specs.Token.{TheToken, token_of}
use Rattle.fl_parse.specs.Tree.{name_of}
use Rattle.fl_parse.specs.Grammar.{is_mark}
use Rattle.fl_parse.specs.Reading.{begins, members_at, all_members_at}
use Rattle.fl_parse.proofs.Choices.{shorter}
use Rattle.fl_parse.proofs.Lists.{name_reads, name_starts, mark_reads, mark_starts}
use Rattle.fl_parse.proofs.Loops.{left_all, members_last, members_go}
use Rattle.fl_parse.proofs.parts.members.Goals as goal

abbrev closes : TheToken → Bool
closes token = is_mark token CloseBrace

abbrev separates : TheToken → Bool
separates token = is_mark token Comma

pub loop-rest-init : goal.loop-rest-init
unfolding all_members_at
loop-rest-init c = rw (c.new-members.ensures.items, c.split_at.ensures.back) (left_all members_at (map token_of c.args.tokens.now))

pub returns-then-not-begins_with : goal.returns-then-not-begins_with
returns-then-not-begins_with c =
    let e : map name_of c.push.new.self.items ≡ map name_of c.loop-rest.members.items ++ name_of c.in_ok-member.member ∷ [] =
    rw c.in_ok-push.ensures.items (map_push _ c.loop-rest.members.items c.in_ok-member.member) in
    let more : begins closes (map token_of c.loop-rest.rest.now) ≡ false = sym c.loop-rest-test.ensures.exact in
    let none : begins separates (map token_of c.in_ok-member.after.now) ≡ false = sym c.if-not-begins_with.ensures.exact in
    rw e (record { reads = members_last (name_of c.in_ok-member.member) (map token_of c.in_ok-member.after.now) c.loop-rest.invariant more c.in_ok-member.ensures.reads none })

pub loop-rest-preserved : goal.loop-rest-preserved
loop-rest-preserved c =
    let e : map name_of c.push.new.self.items ≡ map name_of c.loop-rest.members.items ++ name_of c.in_ok-member.member ∷ [] =
    rw c.in_ok-push.ensures.items (map_push _ c.loop-rest.members.items c.in_ok-member.member) in
    let more : begins closes (map token_of c.loop-rest.rest.now) ≡ false = sym c.loop-rest-test.ensures.exact in
    let comma : begins separates (map token_of c.in_ok-member.after.now) ≡ true = sym c.if-not-begins_with.ensures.exact in
    let first : length (map token_of c.in_ok-member.after.now) < length (map token_of c.loop-rest.rest.now) =
    shorter closes false name_reads (name_starts CloseBrace) (map token_of c.loop-rest.rest.now) (map token_of c.in_ok-member.after.now) (name_of c.in_ok-member.member) c.in_ok-member.ensures.reads in
    let second : length (map token_of c.in_ok-rest.rest.now) < length (map token_of c.in_ok-member.after.now) =
    shorter separates true (mark_reads Comma) (mark_starts Comma Comma true refl) (map token_of c.in_ok-member.after.now) (map token_of c.in_ok-rest.rest.now) tt c.in_ok-rest.ensures.reads in
    rw e (members_go (name_of c.in_ok-member.member) (map token_of c.in_ok-member.after.now) (map token_of c.in_ok-rest.rest.now) c.loop-rest.invariant more
    c.in_ok-member.ensures.reads comma c.in_ok-rest.ensures.reads (omega arith))
