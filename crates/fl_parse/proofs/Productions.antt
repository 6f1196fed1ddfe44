-- Reading each production.
use Rattle.std.proofs.Common.{◌≡◌, ℕ, Bool, true, false, List, [], ◌++◌, length, Some, is_some, Ok, Err, refl, sym, ◌∙◌, ap, subst, inl, inr, codes, if◌then◌else◌}
use Rattle.fl_lex.specs.declared.token.Mark.{Mark}
use Rattle.fl_lex.specs.declared.token.Mark.TheVariants.{OpenBrace, CloseBrace, OpenParen, CloseParen, OpenBracket, CloseBracket, Comma, Semicolon}
use Rattle.fl_lex.specs.declared.token.TokenKind.{TokenKind}
use Rattle.fl_lex.specs.declared.token.TokenKind.TheVariants as kinds
use Rattle.fl_lex.specs.Token.{TheToken}
use Rattle.fl_parse.specs.declared.tree.MessageKind.{MessageKind}
use Rattle.fl_parse.specs.declared.tree.Direction.{Direction}
use Rattle.fl_parse.specs.declared.tree.Direction.TheVariants as directions
use Rattle.fl_parse.specs.Tree.{TheName, TheField, TheShape, plain, bounded, sized, TheArgument, TheDirected, TheDeclaration, alias_of, typedef_of, enum_of, struct_of, message_of, rpc_of}
use Rattle.fl_parse.specs.Grammar
use Rattle.fl_parse.specs.Grammar.{One, Means, Then, ◌>>◌, Optional, Joined, Many, TheMark, Word, AName, ANumber, ADescription, ACount, AField, Members, Separated, Inside, bound_word, length_word, InBrackets, ABracket, AShape, AnArgument, ADirected, Defined, enum_word, struct_word, type_word, Definition, Opening, alias_word, typedef_word, message_word, rpc_word, Production, ADeclaration, Body, is_mark, kind_is_mark, if_so, name_in, number_in, number_from, description_in, description_from, direction_in, inside_in, defined_in, opening_in}
use Rattle.fl_parse.specs.Reading.{Read, begins, one_at, optional_at, count_at, field_at, bound_at, in_brackets_at, bracket_at, shape_at, argument_at, directed_at, fields_at, all_members_at, arguments_at, all_directed_at, enumeration_at, structure_at, renaming_at, definition_at, alias_at, typedef_at, message_at, rpc_at, production_at, declaration_at, declarations_at, description_at, body_at}
use Rattle.fl_parse.proofs.Laws.{SameFirst, Answers, Reads, Any, same_begins, one_reads, then_reads, then_any, means_reads, means_example, means_answers}
use Rattle.fl_parse.proofs.Choices.{Starts, starts_begins, narrowed, optional_reads, many_reads, after_nothing, clash, means_keeps}
use Rattle.fl_parse.proofs.Lists.{mark_reads, mark_starts, begins_other, then_starts, one_starts, name_starts, name_reads, members_reads, EndsBrace, separated_reads, so_true}

number_reads : Reads ANumber Any (one_at number_in)
number_reads = one_reads number_in (record { kind = kinds.Number 0; text = []; at = 0 }) (record { value = 0; at = 0 }) refl

-- a phrase that begins with a mark, as what follows it sees it
pub mark_ahead : {B : Type 0} {M : Unit {0} → List TheToken → B → Type 0} (mark other : Mark) (answer : Bool)
    → ((a : List TheToken) (x : Unit {0}) → TheMark mark a x → Starts (λ token. is_mark token other) answer a)
    → (a b : List TheToken) (y : B) → Then (TheMark mark) M a y → begins (λ token. is_mark token other) (a ++ b) ≡ answer
mark_ahead mark other answer starts a b y l =
    starts_begins (λ token. is_mark token other) answer a b (then_starts (λ token. is_mark token other) answer starts a y l)

pub count_reads : Reads ACount Any count_at
unfolding count_at
count_reads = then_any (mark_reads OpenBracket) (λ o. then_any number_reads (λ count. then_any (mark_reads CloseBracket) (λ c. means_reads count)))

maybe_count_reads : Reads (Optional ACount) (λ b. begins (λ token. is_mark token OpenBracket) b ≡ false) (optional_at (λ token. is_mark token OpenBracket) count_at)
maybe_count_reads =
    optional_reads (λ token. is_mark token OpenBracket) count_reads
    (then_starts (λ token. is_mark token OpenBracket) true (mark_starts OpenBracket OpenBracket true refl))

pub field_reads : Reads AField Any field_at
unfolding field_at
field_reads =
    then_any name_reads (λ type_name. then_any name_reads (λ name. then_reads maybe_count_reads
    (λ count. then_any (mark_reads Semicolon) (λ e. means_reads (record { type_name = type_name; name = name; count = count })))
    (λ count a b y l f. mark_ahead Semicolon OpenBracket false (mark_starts Semicolon OpenBracket false refl) a b y l)))

bound_reads : Reads (TheMark Comma >> ANumber) Any bound_at
unfolding bound_at
bound_reads = then_any (mark_reads Comma) (λ c. number_reads)

in_brackets_reads : (inside : Inside) → Reads (InBrackets inside) Any (in_brackets_at inside)
unfolding in_brackets_at
in_brackets_reads (bound_word bound) = then_any (mark_reads CloseBracket) (λ c. means_reads (bounded bound))
in_brackets_reads (length_word length) =
    then_reads
    (optional_reads (λ token. is_mark token Comma) bound_reads (then_starts (λ token. is_mark token Comma) true (mark_starts Comma Comma true refl)))
    (λ bound. then_any (mark_reads CloseBracket) (λ c. means_reads (sized length bound)))
    (λ bound a b y l f. mark_ahead CloseBracket Comma false (mark_starts CloseBracket Comma false refl) a b y l)

inside_reads : (type_name : TheName) → Reads (One (inside_in type_name)) Any (one_at (inside_in type_name))
inside_reads type_name =
    one_reads (inside_in type_name) (record { kind = kinds.Word; text = []; at = 0 }) (length_word (record { text = []; at = 0 })) refl

bracket_reads : (type_name : TheName) → Reads (ABracket type_name) Any (bracket_at type_name)
unfolding bracket_at
bracket_reads type_name = then_any (mark_reads OpenBracket) (λ o. then_any (inside_reads type_name) in_brackets_reads)

abbrev NoBracket : List TheToken → Type 0
NoBracket b = begins (λ token. is_mark token OpenBracket) b ≡ false

-- fewer lists may follow
fewer : {A : Type 0} (L : List TheToken → A → Type 0) (F : List TheToken → Type 0) (tokens : List TheToken) (o : Read A) → Answers L Any tokens o → Answers L F tokens o
fewer L F tokens (Ok p) h = record { prefix = h.prefix; tokens_are = h.tokens_are; is = h.is; only = λ other a b y s l f e. h.only other a b y s l tt e }
fewer L F tokens (Err rest) h =
    record { prefix = h.prefix; tokens_are = h.tokens_are; more = h.more; example = h.example; begins_one = h.begins_one; none = λ other a b y s l f e. h.none other a b y s l tt e }

shape_from : (type_name : TheName) (tokens : List TheToken) → begins (λ token. is_mark token OpenBracket) tokens ≡ true
    → (a b : List TheToken) (y : TheShape) → SameFirst tokens (a ++ b) → AShape type_name a y → NoBracket b → ABracket type_name a y
shape_from type_name tokens passes a b y s (inl m) f =
    absurd (clash (λ token. is_mark token OpenBracket) tokens b (subst (λ (z : List TheToken). SameFirst tokens z) (after_nothing a b m.tokens_are) s) passes f)
shape_from type_name tokens passes a b y s (inr l) f = l

plain_from : (type_name : TheName) (tokens : List TheToken) → begins (λ token. is_mark token OpenBracket) tokens ≡ false
    → (a b : List TheToken) (y : TheShape) → SameFirst tokens (a ++ b) → AShape type_name a y → NoBracket b → Means plain a y
plain_from type_name tokens fails a b y s (inl m) f = m
plain_from type_name tokens fails a b y s (inr l) f =
    let same : begins (λ token. is_mark token OpenBracket) tokens ≡ begins (λ token. is_mark token OpenBracket) (a ++ b) =
    same_begins (λ token. is_mark token OpenBracket) tokens (a ++ b) s in
    let passes : begins (λ token. is_mark token OpenBracket) (a ++ b) ≡ true =
    mark_ahead OpenBracket OpenBracket true (mark_starts OpenBracket OpenBracket true refl) a b y l in
    absurd (let e : true ≡ false = sym passes ∙ sym same ∙ fails in cc)

shape_answers : (type_name : TheName) (tokens : List TheToken) (test : Bool) → begins (λ token. is_mark token OpenBracket) tokens ≡ test
    → Answers (AShape type_name) NoBracket tokens (if test then bracket_at type_name tokens else Ok (plain, tokens))
shape_answers type_name tokens true e =
    narrowed (ABracket type_name) (AShape type_name) NoBracket tokens (bracket_at type_name tokens) (λ a y l. inr l) (shape_from type_name tokens e)
    (fewer (ABracket type_name) NoBracket tokens (bracket_at type_name tokens) ((bracket_reads type_name).answers tokens))
shape_answers type_name tokens false e =
    narrowed (Means plain) (AShape type_name) NoBracket tokens (Ok (plain, tokens)) (λ a y l. inl l) (plain_from type_name tokens e)
    (means_answers plain NoBracket tokens)

shape_reads : (type_name : TheName) → Reads (AShape type_name) NoBracket (shape_at type_name)
unfolding shape_at
shape_reads type_name =
    record {
      example = record { tokens = []; value = plain; is = inl (record { tokens_are = refl; value_is = refl }) };
      answers = λ tokens. shape_answers type_name tokens (begins (λ token. is_mark token OpenBracket) tokens) refl;
    }

-- no token, whatever follows
means_before : {A : Type 0} (value : A) (F : List TheToken → Type 0) → Reads (Means value) F (λ tokens. Ok (value, tokens))
means_before value F = record { example = means_example value; answers = means_answers value F }

pub argument_reads : Reads AnArgument NoBracket argument_at
unfolding argument_at
argument_reads =
    then_any name_reads (λ type_name. then_any name_reads (λ name. then_reads (shape_reads type_name)
    (λ shape. means_before (record { type_name = type_name; name = name; shape = shape }) NoBracket)
    (λ shape a b y m f. means_keeps (record { type_name = type_name; name = name; shape = shape }) NoBracket a b y m f)))

direction_reads : Reads (One direction_in) Any (one_at direction_in)
direction_reads = one_reads direction_in (record { kind = kinds.Word; text = codes "in"; at = 0 }) directions.In refl

pub directed_reads : Reads ADirected NoBracket directed_at
unfolding directed_at
directed_reads =
    then_any direction_reads (λ direction. then_reads argument_reads
    (λ argument. means_before (record { direction = direction; argument = argument }) NoBracket)
    (λ argument a b y m f. means_keeps (record { direction = direction; argument = argument }) NoBracket a b y m f))

pub argument_starts : (a : List TheToken) (x : TheArgument) → AnArgument a x → Starts (λ token. is_mark token CloseParen) false a
argument_starts = then_starts (λ token. is_mark token CloseParen) false (name_starts CloseParen)

direction_kind : (kind : TokenKind) (text : List ℕ) (at : ℕ) (x : Direction) (mark : Mark) → direction_in (record { kind = kind; text = text; at = at }) ≡ Some x → kind_is_mark kind mark ≡ false
direction_kind kinds.Word text at x mark e = refl
direction_kind (kinds.Number value) text at x mark e = refl
direction_kind kinds.Description text at x mark e = refl
direction_kind (kinds.Mark found) text at x mark e = cc

pub directed_starts : (a : List TheToken) (x : TheDirected) → ADirected a x → Starts (λ token. is_mark token CloseParen) false a
directed_starts =
    then_starts (λ token. is_mark token CloseParen) false
    (one_starts (λ token. is_mark token CloseParen) false (λ t x e. direction_kind t.kind t.text t.at x CloseParen e))

pub field_starts : (a : List TheToken) (x : TheField) → AField a x → Starts (λ token. is_mark token CloseBrace) false a
field_starts = then_starts (λ token. is_mark token CloseBrace) false (name_starts CloseBrace)

abbrev EndsParen : List TheToken → Type 0
EndsParen b = begins (λ token. is_mark token CloseParen) b ≡ true

fields_reads : Reads (Many AField) EndsBrace fields_at
unfolding fields_at
fields_reads = many_reads (λ token. is_mark token CloseBrace) field_reads field_starts (λ a x b l. tt) (λ b e. tt)

all_members_reads : Reads Members EndsBrace all_members_at
unfolding all_members_at
all_members_reads = members_reads

arguments_reads : Reads (Separated AnArgument) EndsParen arguments_at
unfolding arguments_at
arguments_reads =
    separated_reads CloseParen refl argument_reads argument_starts (λ b e. begins_other Comma OpenBracket refl b e) (λ b e. begins_other CloseParen OpenBracket refl b e)

all_directed_reads : Reads (Separated ADirected) EndsParen all_directed_at
unfolding all_directed_at
all_directed_reads =
    separated_reads CloseParen refl directed_reads directed_starts (λ b e. begins_other Comma OpenBracket refl b e) (λ b e. begins_other CloseParen OpenBracket refl b e)

enumeration_reads : Reads (Definition enum_word) Any enumeration_at
unfolding enumeration_at
enumeration_reads =
    then_any (mark_reads OpenBrace) (λ o. then_reads all_members_reads
    (λ members. then_any (mark_reads CloseBrace) (λ c. then_any name_reads (λ name. then_any (mark_reads Semicolon) (λ e. means_reads (enum_of members name)))))
    (λ members a b y l f. mark_ahead CloseBrace CloseBrace true (mark_starts CloseBrace CloseBrace true refl) a b y l))

structure_reads : Reads (Definition struct_word) Any structure_at
unfolding structure_at
structure_reads =
    then_any (mark_reads OpenBrace) (λ o. then_reads fields_reads
    (λ fields. then_any (mark_reads CloseBrace) (λ c. then_any name_reads (λ name. then_any (mark_reads Semicolon) (λ e. means_reads (struct_of fields name)))))
    (λ fields a b y l f. mark_ahead CloseBrace CloseBrace true (mark_starts CloseBrace CloseBrace true refl) a b y l))

renaming_reads : (old : TheName) → Reads (Definition (type_word old)) Any (renaming_at old)
unfolding renaming_at
renaming_reads old =
    then_any name_reads (λ new. then_reads maybe_count_reads
    (λ count. then_any (mark_reads Semicolon) (λ e. means_reads (typedef_of old new count)))
    (λ count a b y l f. mark_ahead Semicolon OpenBracket false (mark_starts Semicolon OpenBracket false refl) a b y l))

definition_reads : (defined : Defined) → Reads (Definition defined) Any (definition_at defined)
unfolding definition_at
definition_reads enum_word = enumeration_reads
definition_reads struct_word = structure_reads
definition_reads (type_word old) = renaming_reads old

alias_reads : Reads (Production alias_word) Any alias_at
unfolding alias_at
alias_reads = then_any name_reads (λ new. then_any name_reads (λ old. then_any (mark_reads Semicolon) (λ e. means_reads (alias_of new old))))

typedef_reads : Reads (Production typedef_word) Any typedef_at
unfolding typedef_at
typedef_reads =
    then_any (one_reads defined_in (record { kind = kinds.Word; text = codes "enum"; at = 0 }) enum_word refl) definition_reads

message_reads : (kind : MessageKind) → Reads (Production (message_word kind)) Any (message_at kind)
unfolding message_at
message_reads kind =
    then_any name_reads (λ name. then_any (mark_reads OpenParen) (λ o. then_reads arguments_reads
    (λ args. then_any (mark_reads CloseParen) (λ c. then_any (mark_reads Semicolon) (λ e. means_reads (message_of kind name args))))
    (λ args a b y l f. mark_ahead CloseParen CloseParen true (mark_starts CloseParen CloseParen true refl) a b y l)))

rpc_reads : Reads (Production rpc_word) Any rpc_at
unfolding rpc_at
rpc_reads =
    then_any name_reads (λ name. then_any (mark_reads OpenParen) (λ o. then_reads all_directed_reads
    (λ args. then_any (mark_reads CloseParen) (λ c. then_any (mark_reads Semicolon) (λ e. means_reads (rpc_of name args))))
    (λ args a b y l f. mark_ahead CloseParen CloseParen true (mark_starts CloseParen CloseParen true refl) a b y l)))

production_reads : (opening : Opening) → Reads (Production opening) Any (production_at opening)
unfolding production_at
production_reads alias_word = alias_reads
production_reads typedef_word = typedef_reads
production_reads (message_word kind) = message_reads kind
production_reads rpc_word = rpc_reads

pub declaration_reads : Reads ADeclaration Any declaration_at
unfolding declaration_at
declaration_reads =
    then_any (one_reads opening_in (record { kind = kinds.Word; text = codes "alias"; at = 0 }) alias_word refl) production_reads

opening_kind : (kind : TokenKind) (text : List ℕ) (at : ℕ) (x : Opening) (mark : Mark) → opening_in (record { kind = kind; text = text; at = at }) ≡ Some x → kind_is_mark kind mark ≡ false
opening_kind kinds.Word text at x mark e = refl
opening_kind (kinds.Number value) text at x mark e = refl
opening_kind kinds.Description text at x mark e = refl
opening_kind (kinds.Mark found) text at x mark e = cc

pub declaration_starts : (a : List TheToken) (x : TheDeclaration) → ADeclaration a x → Starts (λ token. is_mark token CloseBrace) false a
declaration_starts =
    then_starts (λ token. is_mark token CloseBrace) false
    (one_starts (λ token. is_mark token CloseBrace) false (λ t x e. opening_kind t.kind t.text t.at x CloseBrace e))

declarations_reads : Reads (Many ADeclaration) EndsBrace declarations_at
unfolding declarations_at
declarations_reads = many_reads (λ token. is_mark token CloseBrace) declaration_reads declaration_starts (λ a x b l. tt) (λ b e. tt)

abbrev is_description : TheToken → Bool
is_description token = is_some (description_in token)

pub description_reads : Reads (Optional ADescription) (λ b. begins is_description b ≡ false) description_at
unfolding description_at
description_reads =
    optional_reads is_description (one_reads description_in (record { kind = kinds.Description; text = []; at = 0 }) [] refl)
    (one_starts is_description true (λ t x e. ap is_some e))

mark_no_description : (kind : TokenKind) (text : List ℕ) (mark : Mark) → kind_is_mark kind mark ≡ true → is_some (description_from kind text) ≡ false
mark_no_description kinds.Word text mark e = refl
mark_no_description (kinds.Number value) text mark e = refl
mark_no_description kinds.Description text mark e = cc
mark_no_description (kinds.Mark found) text mark e = refl

brace_starts : (a : List TheToken) (x : Unit {0}) → TheMark OpenBrace a x → Starts is_description false a
brace_starts = one_starts is_description false (λ t x e. mark_no_description t.kind t.text OpenBrace (so_true (is_mark t OpenBrace) tt x e))

pub body_reads : Reads Body Any body_at
unfolding body_at
body_reads =
    then_any (one_reads (λ token. if_so (Grammar.is_word token (codes "interface")) tt) (record { kind = kinds.Word; text = codes "interface"; at = 0 }) tt refl)
    (λ w. then_any name_reads (λ name. then_reads description_reads
    (λ description. then_any (mark_reads OpenBrace) (λ o. then_reads declarations_reads
    (λ declarations. then_any (mark_reads CloseBrace) (λ c. means_reads (record { name = name; description = description; declarations = declarations })))
    (λ declarations a b y l f. mark_ahead CloseBrace CloseBrace true (mark_starts CloseBrace CloseBrace true refl) a b y l)))
    (λ description a b y l f. starts_begins is_description false a b (then_starts is_description false brace_starts a y l))))
