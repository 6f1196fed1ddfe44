-- The tokens that a tree is printed as are written for it.
use Rattle.std.proofs.Common.{◌≡◌, ℕ, Bool, true, false, List, [], ◌∷◌, ◌++◌, Option, Some, None, option_map, map, codes, refl, sym, ◌∙◌, ap, subst, inl, inr, ◌⊎◌, if◌then◌else◌}
use Rattle.std.specs.List.{flat_map}
use Rattle.std.specs.Str.{bytes_eq}
use Rattle.std.proofs.lemmas.List.Concat.{flat_map-cons}
use Rattle.std.proofs.lemmas.List.{append-nil}
use Rattle.fl_lex.specs.declared.token.Mark.TheVariants.{OpenBrace, CloseBrace, OpenParen, CloseParen, OpenBracket, CloseBracket, Comma, Semicolon}
use Rattle.fl_lex.specs.declared.token.TokenKind.{TokenKind}
use Rattle.fl_lex.specs.declared.token.TokenKind.TheVariants as kinds
use Rattle.fl_lex.specs.Token.{TheToken}
use Rattle.fl_parse.specs.declared.tree.MessageKind.{MessageKind}
use Rattle.fl_parse.specs.declared.tree.MessageKind.TheVariants as messages
use Rattle.fl_parse.specs.declared.tree.Direction.{Direction}
use Rattle.fl_parse.specs.declared.tree.Direction.TheVariants as directions
use Rattle.fl_parse.specs.Tree.{TheName, TheNumber, TheField, TheShape, plain, bounded, sized, TheArgument, TheDirected, TheDeclaration, alias_of, typedef_of, enum_of, struct_of, message_of, rpc_of, TheTree}
use Rattle.fl_parse.specs.Grammar.{One, Means, Then, ◌>>◌, Optional, Joined, Many, TheMark, ANumber, ADescription, ACount, AField, Members, Separated, Inside, bound_word, length_word, InBrackets, AShape, AnArgument, ADirected, Defined, enum_word, struct_word, type_word, Definition, Opening, alias_word, typedef_word, message_word, rpc_word, Production, ADeclaration, Body, is_string, if_so, name_in, number_in, inside_in, inside_from, defined_in, opening_in, direction_in}
use Rattle.fl_parse.specs.Printed.{kind_text, direction_text}
use Rattle.fl_parse.specs.Written.{name_aside, number_aside, field_aside, shape_aside, argument_aside, directed_aside, declaration_aside, spans_aside, a_word, a_name, a_number, a_mark, a_description, comma_tokens, count_tokens, field_tokens, bound_tokens, shape_tokens, argument_tokens, directed_tokens, name_tokens, declaration_tokens, description_tokens, tokens_of_tree, PrintedDerives}
use Rattle.fl_parse.proofs.Lists.{so_true}

-- one token, and what follows
put_one : {A B : Type 0} {read : TheToken → Option A} {M : A → List TheToken → B → Type 0} (token : TheToken) (x : A) (back : List TheToken) (y : B)
    → read token ≡ Some x → M x back y → Then (One read) M (token ∷ back) y
put_one token x back y e m =
    record { prefix = token ∷ []; back = back; middle = x; tokens_are = refl; prefix_is = record { token = token; tokens_are = refl; reads = e }; back_is = m }

-- a phrase, and what follows
put : {A B : Type 0} {L : List TheToken → A → Type 0} {M : A → List TheToken → B → Type 0} (prefix : List TheToken) (x : A) (back : List TheToken) (y : B)
    → L prefix x → M x back y → Then L M (prefix ++ back) y
put prefix x back y l m = record { prefix = prefix; back = back; middle = x; tokens_are = refl; prefix_is = l; back_is = m }

means : {A : Type 0} (value : A) → Means value [] value
means value = record { tokens_are = refl; value_is = refl }

one : {A : Type 0} {read : TheToken → Option A} (token : TheToken) (x : A) → read token ≡ Some x → One read (token ∷ []) x
one token x e = record { token = token; tokens_are = refl; reads = e }

count_written : (count : Option TheNumber) → Optional ACount (count_tokens count) (option_map number_aside count)
count_written None = refl
count_written (Some count) =
    put_one (a_mark OpenBracket) tt _ _ refl (put_one (a_number count) (number_aside count) _ _ refl (put_one (a_mark CloseBracket) tt _ _ refl (means (number_aside count))))

field_written : (field : TheField) → AField (field_tokens field) (field_aside field)
field_written field =
    put_one (a_name field.type_name) (name_aside field.type_name) _ _ refl
    (put_one (a_name field.name) (name_aside field.name) _ _ refl
    (put (count_tokens field.count) (option_map number_aside field.count) (a_mark Semicolon ∷ []) (field_aside field) (count_written field.count)
    (put_one (a_mark Semicolon) tt _ _ refl (means (field_aside field)))))

fields_written : (fields : List TheField) → Many AField (flat_map field_tokens fields) (map field_aside fields)
fields_written [] = refl
fields_written (field ∷ fields) =
    record {
      prefix = field_tokens field;
      back = flat_map field_tokens fields;
      tokens_are = flat_map-cons field_tokens field fields;
      prefix_is = field_written field;
      back_is = fields_written fields;
    }

more_members_written : (names : List TheName)
    → ((map name_aside names ≡ []) × (flat_map (λ y. a_mark Comma ∷ name_tokens y) names ≡ []))
    ⊎ Joined (λ comma. TheMark Comma comma tt) (λ rest. Members rest (map name_aside names)) (flat_map (λ y. a_mark Comma ∷ name_tokens y) names)
more_members_written [] = inl (refl, refl)
more_members_written (name ∷ names) =
    inr (record {
      prefix = a_mark Comma ∷ [];
      back = a_name name ∷ flat_map (λ y. a_mark Comma ∷ name_tokens y) names;
      tokens_are = flat_map-cons (λ y. a_mark Comma ∷ name_tokens y) name names;
      prefix_is = one (a_mark Comma) tt refl;
      back_is = record {
        prefix = a_name name ∷ [];
        back = flat_map (λ y. a_mark Comma ∷ name_tokens y) names;
        tokens_are = refl;
        prefix_is = one (a_name name) (name_aside name) refl;
        back_is = more_members_written names;
      };
    })

members_written : (names : List TheName) → Members (comma_tokens name_tokens names) (map name_aside names)
members_written [] = refl
members_written (name ∷ names) =
    record {
      prefix = a_name name ∷ [];
      back = flat_map (λ y. a_mark Comma ∷ name_tokens y) names;
      tokens_are = refl;
      prefix_is = one (a_name name) (name_aside name) refl;
      back_is = more_members_written names;
    }

bound_written : (bound : Option TheNumber) → Optional (TheMark Comma >> ANumber) (bound_tokens bound) (option_map number_aside bound)
bound_written None = refl
bound_written (Some bound) = put_one (a_mark Comma) tt _ _ refl (one (a_number bound) (number_aside bound) refl)

-- an argument whose type is `string` where it has a bound
abbrev Fits : TheName → TheShape → Type 0
Fits type_name plain = Unit {0}
Fits type_name (bounded bound) = is_string type_name ≡ true
Fits type_name (sized length bound) = Unit {0}

shape_written : (type_name : TheName) (shape : TheShape) → Fits type_name shape → AShape (name_aside type_name) (shape_tokens shape) (shape_aside shape)
shape_written type_name plain fits = inl (means plain)
shape_written type_name (bounded bound) fits =
    inr (put_one (a_mark OpenBracket) tt _ _ refl
    (put_one (a_number bound) (bound_word (number_aside bound)) _ _ (ap (λ b. if_so b (bound_word (number_aside bound))) fits)
    (put_one (a_mark CloseBracket) tt _ _ refl (means (bounded (number_aside bound))))))
shape_written type_name (sized length bound) fits =
    inr (put_one (a_mark OpenBracket) tt _ _ refl
    (put_one (a_name length) (length_word (name_aside length)) _ _ refl
    (put (bound_tokens bound) (option_map number_aside bound) (a_mark CloseBracket ∷ []) _ (bound_written bound)
    (put_one (a_mark CloseBracket) tt _ _ refl (means (sized (name_aside length) (option_map number_aside bound)))))))

-- a phrase at the end
put_last : {A B : Type 0} {L : List TheToken → A → Type 0} {M : A → List TheToken → B → Type 0} (prefix : List TheToken) (x : A) (y : B)
    → L prefix x → M x [] y → Then L M prefix y
put_last prefix x y l m = record { prefix = prefix; back = []; middle = x; tokens_are = sym (append-nil prefix); prefix_is = l; back_is = m }

argument_written : (argument : TheArgument) → Fits argument.type_name argument.shape → AnArgument (argument_tokens argument) (argument_aside argument)
argument_written argument fits =
    put_one (a_name argument.type_name) (name_aside argument.type_name) _ _ refl
    (put_one (a_name argument.name) (name_aside argument.name) _ _ refl
    (put_last (shape_tokens argument.shape) (shape_aside argument.shape) (argument_aside argument) (shape_written argument.type_name argument.shape fits)
    (means (argument_aside argument))))

-- only the type `string` has a bound
inside_string : (type_name : TheName) (number : Option TheNumber) (name : Option TheName) (bound : TheNumber)
    → inside_from type_name number name ≡ Some (bound_word bound) → is_string type_name ≡ true
inside_string type_name (Some value) name bound e = so_true (is_string type_name) (bound_word value) (bound_word bound) e
inside_string type_name None (Some length) bound e = cc
inside_string type_name None None bound e = cc

bracket_fits : (type_name : TheName) (inside : Inside) (tokens : List TheToken) (shape : TheShape) (token : TheToken)
    → inside_in type_name token ≡ Some inside → InBrackets inside tokens shape → Fits type_name shape
bracket_fits type_name (bound_word bound) tokens shape token e l =
    subst (λ (z : TheShape). Fits type_name z) (sym l.back_is.value_is) (inside_string type_name (number_in token) (name_in token) bound e)
bracket_fits type_name (length_word length) tokens shape token e l =
    subst (λ (z : TheShape). Fits type_name z) (sym l.back_is.back_is.value_is) tt

shape_fits : (type_name : TheName) (tokens : List TheToken) (shape : TheShape) → AShape type_name tokens shape → Fits type_name shape
shape_fits type_name tokens shape (inl m) = subst (λ (z : TheShape). Fits type_name z) (sym m.value_is) tt
shape_fits type_name tokens shape (inr l) =
    bracket_fits type_name l.back_is.middle l.back_is.back shape l.back_is.prefix_is.token l.back_is.prefix_is.reads l.back_is.back_is

argument_fits : (tokens : List TheToken) (argument : TheArgument) → AnArgument tokens argument → Fits argument.type_name argument.shape
argument_fits tokens argument l =
    subst (λ (z : TheArgument). Fits z.type_name z.shape) (sym l.back_is.back_is.back_is.value_is)
    (shape_fits l.middle l.back_is.back_is.prefix l.back_is.back_is.middle l.back_is.back_is.prefix_is)

argument_again : (tokens : List TheToken) (argument : TheArgument) → AnArgument tokens argument → AnArgument (argument_tokens argument) (argument_aside argument)
argument_again tokens argument l = argument_written argument (argument_fits tokens argument l)

direction_word : (direction : Direction) → direction_in (a_word (direction_text direction)) ≡ Some direction
direction_word directions.In = refl
direction_word directions.Out = refl

directed_written : (directed : TheDirected) → AnArgument (argument_tokens directed.argument) (argument_aside directed.argument) → ADirected (directed_tokens directed) (directed_aside directed)
directed_written directed l =
    put_one (a_word (direction_text directed.direction)) directed.direction _ _ (direction_word directed.direction)
    (put_last (argument_tokens directed.argument) (argument_aside directed.argument) (directed_aside directed) l (means (directed_aside directed)))

directed_again : (tokens : List TheToken) (directed : TheDirected) → ADirected tokens directed → ADirected (directed_tokens directed) (directed_aside directed)
directed_again tokens directed l =
    directed_written directed
    (subst (λ (z : TheDirected). AnArgument (argument_tokens z.argument) (argument_aside z.argument)) (sym l.back_is.back_is.value_is)
    (argument_again l.back_is.prefix l.back_is.middle l.back_is.prefix_is))

-- what holds of each item
abbrev Each : {A : Type 0} → (A → Type 0) → List A → Type 0
Each R [] = Unit {0}
Each R (x ∷ xs) = R x × Each R xs

many_each : {A : Type 0} (P : List TheToken → A → Type 0) (R : A → Type 0) → ((a : List TheToken) (x : A) → P a x → R x)
    → (a : List TheToken) (xs : List A) → Many P a xs → Each R xs
many_each P R again a [] l = tt
many_each P R again a (x ∷ xs) l = (again l.prefix x l.prefix_is, many_each P R again l.back xs l.back_is)

separated_each : {A : Type 0} (P : List TheToken → A → Type 0) (R : A → Type 0) → ((a : List TheToken) (x : A) → P a x → R x)
    → (a : List TheToken) (xs : List A) → Separated P a xs → Each R xs
separated_each P R again a [] l = tt
separated_each P R again a (x ∷ xs) l =
    (again l.prefix x l.prefix_is, many_each (TheMark Comma >> P) R (λ b y m. again m.back y m.back_is) l.back xs l.back_is)

many_written : {A : Type 0} (P : List TheToken → A → Type 0) (f : A → List TheToken) (g : A → A) → (xs : List A) → Each (λ x. P (f x) (g x)) xs → Many P (flat_map f xs) (map g xs)
many_written P f g [] each = refl
many_written P f g (x ∷ xs) each =
    record { prefix = f x; back = flat_map f xs; tokens_are = flat_map-cons f x xs; prefix_is = each.0; back_is = many_written P f g xs each.1 }

commas_written : {A : Type 0} (P : List TheToken → A → Type 0) (f : A → List TheToken) (g : A → A) → (xs : List A) → Each (λ x. P (f x) (g x)) xs
    → Many (TheMark Comma >> P) (flat_map (λ y. a_mark Comma ∷ f y) xs) (map g xs)
commas_written P f g [] each = refl
commas_written P f g (x ∷ xs) each =
    record {
      prefix = a_mark Comma ∷ f x;
      back = flat_map (λ y. a_mark Comma ∷ f y) xs;
      tokens_are = flat_map-cons (λ y. a_mark Comma ∷ f y) x xs;
      prefix_is = put_one (a_mark Comma) tt (f x) (g x) refl each.0;
      back_is = commas_written P f g xs each.1;
    }

separated_written : {A : Type 0} (P : List TheToken → A → Type 0) (f : A → List TheToken) (g : A → A) → (xs : List A) → Each (λ x. P (f x) (g x)) xs → Separated P (comma_tokens f xs) (map g xs)
separated_written P f g [] each = refl
separated_written P f g (x ∷ xs) each =
    record { prefix = f x; back = flat_map (λ y. a_mark Comma ∷ f y) xs; tokens_are = refl; prefix_is = each.0; back_is = commas_written P f g xs each.1 }

-- Declarations.

alias_written : (new old : TheName) → ADeclaration (declaration_tokens (alias_of new old)) (declaration_aside (alias_of new old))
alias_written new old =
    put_one (a_word (codes "alias")) alias_word _ _ refl (put_one (a_name new) (name_aside new) _ _ refl (put_one (a_name old) (name_aside old) _ _ refl
    (put_one (a_mark Semicolon) tt _ _ refl (means (alias_of (name_aside new) (name_aside old))))))

enum_written : (members : List TheName) (name : TheName) → ADeclaration (declaration_tokens (enum_of members name)) (declaration_aside (enum_of members name))
enum_written members name =
    put_one (a_word (codes "typedef")) typedef_word _ _ refl (put_one (a_word (codes "enum")) enum_word _ _ refl (put_one (a_mark OpenBrace) tt _ _ refl
    (put (comma_tokens name_tokens members) (map name_aside members) (a_mark CloseBrace ∷ a_name name ∷ a_mark Semicolon ∷ []) _ (members_written members)
    (put_one (a_mark CloseBrace) tt _ _ refl (put_one (a_name name) (name_aside name) _ _ refl (put_one (a_mark Semicolon) tt _ _ refl
    (means (enum_of (map name_aside members) (name_aside name)))))))))

struct_written : (fields : List TheField) (name : TheName) → ADeclaration (declaration_tokens (struct_of fields name)) (declaration_aside (struct_of fields name))
struct_written fields name =
    put_one (a_word (codes "typedef")) typedef_word _ _ refl (put_one (a_word (codes "struct")) struct_word _ _ refl (put_one (a_mark OpenBrace) tt _ _ refl
    (put (flat_map field_tokens fields) (map field_aside fields) (a_mark CloseBrace ∷ a_name name ∷ a_mark Semicolon ∷ []) _ (fields_written fields)
    (put_one (a_mark CloseBrace) tt _ _ refl (put_one (a_name name) (name_aside name) _ _ refl (put_one (a_mark Semicolon) tt _ _ refl
    (means (struct_of (map field_aside fields) (name_aside name)))))))))

typedef_written : (old new : TheName) (count : Option TheNumber) → defined_in (a_name old) ≡ Some (type_word (name_aside old))
    → ADeclaration (declaration_tokens (typedef_of old new count)) (declaration_aside (typedef_of old new count))
typedef_written old new count e =
    put_one (a_word (codes "typedef")) typedef_word _ _ refl (put_one (a_name old) (type_word (name_aside old)) _ _ e (put_one (a_name new) (name_aside new) _ _ refl
    (put (count_tokens count) (option_map number_aside count) (a_mark Semicolon ∷ []) _ (count_written count)
    (put_one (a_mark Semicolon) tt _ _ refl (means (typedef_of (name_aside old) (name_aside new) (option_map number_aside count)))))))

kind_word : (kind : MessageKind) → opening_in (a_word (kind_text kind)) ≡ Some (message_word kind)
kind_word messages.Message = refl
kind_word messages.Call = refl
kind_word messages.Response = refl

message_written : (kind : MessageKind) (name : TheName) (args : List TheArgument) → Each (λ x. AnArgument (argument_tokens x) (argument_aside x)) args
    → ADeclaration (declaration_tokens (message_of kind name args)) (declaration_aside (message_of kind name args))
message_written kind name args each =
    put_one (a_word (kind_text kind)) (message_word kind) _ _ (kind_word kind) (put_one (a_name name) (name_aside name) _ _ refl (put_one (a_mark OpenParen) tt _ _ refl
    (put (comma_tokens argument_tokens args) (map argument_aside args) (a_mark CloseParen ∷ a_mark Semicolon ∷ []) _ (separated_written AnArgument argument_tokens argument_aside args each)
    (put_one (a_mark CloseParen) tt _ _ refl (put_one (a_mark Semicolon) tt _ _ refl (means (message_of kind (name_aside name) (map argument_aside args))))))))

rpc_written : (name : TheName) (args : List TheDirected) → Each (λ x. ADirected (directed_tokens x) (directed_aside x)) args
    → ADeclaration (declaration_tokens (rpc_of name args)) (declaration_aside (rpc_of name args))
rpc_written name args each =
    put_one (a_word (codes "rpc")) rpc_word _ _ refl (put_one (a_name name) (name_aside name) _ _ refl (put_one (a_mark OpenParen) tt _ _ refl
    (put (comma_tokens directed_tokens args) (map directed_aside args) (a_mark CloseParen ∷ a_mark Semicolon ∷ []) _ (separated_written ADirected directed_tokens directed_aside args each)
    (put_one (a_mark CloseParen) tt _ _ refl (put_one (a_mark Semicolon) tt _ _ refl (means (rpc_of (name_aside name) (map directed_aside args))))))))

-- a type's name behind `typedef` is neither `enum` nor `struct`
type_tests : (b c : Bool) (x old : TheName) → (if b then Some enum_word else if c then Some struct_word else Some (type_word x)) ≡ Some (type_word old)
    → (b ≡ false) × (c ≡ false) × (x ≡ old)
type_tests true c x old e = absurd cc
type_tests false true x old e = absurd cc
type_tests false false x old e = (refl, refl, cc)

type_again : (kind : TokenKind) (text : List ℕ) (at : ℕ) (old : TheName) → defined_in (record { kind = kind; text = text; at = at }) ≡ Some (type_word old)
    → defined_in (a_name old) ≡ Some (type_word (name_aside old))
type_again kinds.Word text at old e =
    let tests : (bytes_eq text (codes "enum") ≡ false) × (bytes_eq text (codes "struct") ≡ false) × (record { text = text; at = at } ≡ old) =
    type_tests (bytes_eq text (codes "enum")) (bytes_eq text (codes "struct")) (record { text = text; at = at }) old e in
    subst (λ (z : TheName). defined_in (a_name z) ≡ Some (type_word (name_aside z))) tests.2
    (ap (λ b. if b then Some enum_word else if bytes_eq text (codes "struct") then Some struct_word else Some (type_word (record { text = text; at = 0 }))) tests.0
    ∙ ap (λ b. if b then Some struct_word else Some (type_word (record { text = text; at = 0 }))) tests.1)
type_again (kinds.Number value) text at old e = cc
type_again kinds.Description text at old e = cc
type_again (kinds.Mark found) text at old e = cc

definition_again : (defined : Defined) (token : TheToken) (tokens : List TheToken) (d : TheDeclaration) → defined_in token ≡ Some defined → Definition defined tokens d
    → ADeclaration (declaration_tokens d) (declaration_aside d)
definition_again enum_word token tokens d e l =
    subst (λ (z : TheDeclaration). ADeclaration (declaration_tokens z) (declaration_aside z)) (sym l.back_is.back_is.back_is.back_is.back_is.value_is)
    (enum_written l.back_is.middle l.back_is.back_is.back_is.middle)
definition_again struct_word token tokens d e l =
    subst (λ (z : TheDeclaration). ADeclaration (declaration_tokens z) (declaration_aside z)) (sym l.back_is.back_is.back_is.back_is.back_is.value_is)
    (struct_written l.back_is.middle l.back_is.back_is.back_is.middle)
definition_again (type_word old) token tokens d e l =
    subst (λ (z : TheDeclaration). ADeclaration (declaration_tokens z) (declaration_aside z)) (sym l.back_is.back_is.back_is.value_is)
    (typedef_written old l.middle l.back_is.middle (type_again token.kind token.text token.at old e))

production_again : (opening : Opening) (tokens : List TheToken) (d : TheDeclaration) → Production opening tokens d → ADeclaration (declaration_tokens d) (declaration_aside d)
production_again alias_word tokens d l =
    subst (λ (z : TheDeclaration). ADeclaration (declaration_tokens z) (declaration_aside z)) (sym l.back_is.back_is.back_is.value_is)
    (alias_written l.middle l.back_is.middle)
production_again typedef_word tokens d l = definition_again l.middle l.prefix_is.token l.back d l.prefix_is.reads l.back_is
production_again (message_word kind) tokens d l =
    subst (λ (z : TheDeclaration). ADeclaration (declaration_tokens z) (declaration_aside z)) (sym l.back_is.back_is.back_is.back_is.back_is.value_is)
    (message_written kind l.middle l.back_is.back_is.middle
    (separated_each AnArgument (λ x. AnArgument (argument_tokens x) (argument_aside x)) argument_again l.back_is.back_is.prefix l.back_is.back_is.middle l.back_is.back_is.prefix_is))
production_again rpc_word tokens d l =
    subst (λ (z : TheDeclaration). ADeclaration (declaration_tokens z) (declaration_aside z)) (sym l.back_is.back_is.back_is.back_is.back_is.value_is)
    (rpc_written l.middle l.back_is.back_is.middle
    (separated_each ADirected (λ x. ADirected (directed_tokens x) (directed_aside x)) directed_again l.back_is.back_is.prefix l.back_is.back_is.middle l.back_is.back_is.prefix_is))

-- The interface.

description_written : (description : Option (List ℕ)) → Optional ADescription (description_tokens description) description
description_written None = refl
description_written (Some text) = one (a_description text) text refl

body_written : (tree : TheTree) → Each (λ d. ADeclaration (declaration_tokens d) (declaration_aside d)) tree.declarations → Body (tokens_of_tree tree) (spans_aside tree)
body_written tree each =
    put_one (a_word (codes "interface")) tt _ _ refl (put_one (a_name tree.name) (name_aside tree.name) _ _ refl
    (put (description_tokens tree.description) tree.description (a_mark OpenBrace ∷ (flat_map declaration_tokens tree.declarations ++ a_mark CloseBrace ∷ [])) _ (description_written tree.description)
    (put_one (a_mark OpenBrace) tt _ _ refl
    (put (flat_map declaration_tokens tree.declarations) (map declaration_aside tree.declarations) (a_mark CloseBrace ∷ []) _
    (many_written ADeclaration declaration_tokens declaration_aside tree.declarations each)
    (put_one (a_mark CloseBrace) tt _ _ refl (means (spans_aside tree)))))))

body_again : (tokens : List TheToken) (tree : TheTree) → Body tokens tree → Body (tokens_of_tree tree) (spans_aside tree)
body_again tokens tree l =
    let inner = l.back_is.back_is.back_is.back_is in
    let each : Each (λ d. ADeclaration (declaration_tokens d) (declaration_aside d)) inner.middle =
    many_each ADeclaration (λ d. ADeclaration (declaration_tokens d) (declaration_aside d)) (λ a d m. production_again m.middle m.back d m.back_is) inner.prefix inner.middle inner.prefix_is in
    body_written tree
    (subst (λ (z : TheTree). Each (λ d. ADeclaration (declaration_tokens d) (declaration_aside d)) z.declarations) (sym inner.back_is.back_is.value_is) each)

pub printed_derives : PrintedDerives
printed_derives tokens tree d =
    put_last (tokens_of_tree tree) (spans_aside tree) (spans_aside tree)
    (body_again d.prefix tree (subst (λ (z : TheTree). Body d.prefix z) (sym d.back_is.back_is.value_is) d.prefix_is))
    (record { prefix = []; back = []; middle = None; tokens_are = refl; prefix_is = refl; back_is = means (spans_aside tree) })
