-- A tree's printed text is that of its tokens.
use Rattle.std.proofs.Common.{◌≡◌, ℕ, if◌then◌else◌, List, [], ◌∷◌, ◌++◌, Option, Some, None, codes, map, refl, sym, ◌∙◌, ap, append_assoc}
use Rattle.std.specs.List.{flat_map}
use Rattle.std.specs.Fmt.{decimal}
use Rattle.fl_lex.specs.declared.token.Mark.{Mark}
use Rattle.fl_lex.specs.declared.token.Mark.TheVariants.{OpenBrace, CloseBrace, CloseParen, CloseBracket, Comma, Semicolon}
use Rattle.fl_lex.specs.Token.{TheToken}
use Rattle.fl_lex.specs.Joined.{sign_of, Edge, closed, to_digits, to_letters, edge_of, runs_into, joined_after}
use Rattle.fl_parse.specs.Tree.{TheName, TheNumber, TheField, TheShape, plain, bounded, sized, TheArgument, TheDirected, TheDeclaration, alias_of, typedef_of, enum_of, struct_of, message_of, rpc_of}
use Rattle.fl_parse.specs.Printed.{with_commas, name_text, count_text, field_text, bound_text, shape_text, argument_text, directed_text, declaration_text, description_text, printed}
use Rattle.fl_parse.specs.Written.{a_name, a_mark, comma_tokens, count_tokens, field_tokens, bound_tokens, shape_tokens, argument_tokens, directed_tokens, name_tokens, declaration_tokens, description_tokens, tokens_of_tree, PrintedIsText}

-- the tokens' texts joined, behind an edge
abbrev text_behind : Edge → List TheToken → List ℕ
text_behind edge [] = []
text_behind edge (token ∷ rest) = (if runs_into edge token.kind then codes " " else []) ++ (token.text ++ text_behind (edge_of token.kind) rest)

behind_is_joined : (edge : Edge) (tokens : List TheToken) → text_behind edge tokens ≡ joined_after edge (map sign_of tokens)
behind_is_joined edge [] = refl
behind_is_joined edge (token ∷ rest) =
    ap (λ (z : List ℕ). (if runs_into edge token.kind then codes " " else []) ++ (token.text ++ z)) (behind_is_joined (edge_of token.kind) rest)

-- what follows needs no blank, whatever it follows
abbrev NoBlank : List TheToken → Type 0
NoBlank rest = (edge : Edge) → text_behind edge rest ≡ text_behind closed rest

mark_blank : (mark : Mark) (rest : List TheToken) → NoBlank (a_mark mark ∷ rest)
mark_blank mark rest closed = refl
mark_blank mark rest to_digits = refl
mark_blank mark rest to_letters = refl

count_said : (count : Option TheNumber) (rest : List TheToken) → NoBlank rest → text_behind to_letters (count_tokens count ++ rest) ≡ count_text count ++ text_behind closed rest
count_said None rest e = e to_letters
count_said (Some count) rest e = ap (λ (z : List ℕ). 91 ∷ z) (sym (append_assoc (decimal count.value) (93 ∷ []) (text_behind closed rest)))

field_said : (field : TheField) (rest : List TheToken) → text_behind closed (field_tokens field ++ rest) ≡ field_text field ++ text_behind closed rest
field_said field rest = simp (append_assoc, count_said field.count (a_mark Semicolon ∷ rest) (mark_blank Semicolon rest))

fields_said : (fields : List TheField) (rest : List TheToken) → text_behind closed (flat_map field_tokens fields ++ rest) ≡ flat_map field_text fields ++ text_behind closed rest
fields_said [] rest = refl
fields_said (field ∷ fields) rest =
    ap (text_behind closed) (append_assoc (field_tokens field) (flat_map field_tokens fields) rest)
    ∙ field_said field (flat_map field_tokens fields ++ rest)
    ∙ ap (λ (z : List ℕ). field_text field ++ z) (fields_said fields rest)
    ∙ sym (append_assoc (field_text field) (flat_map field_text fields) (text_behind closed rest))

bound_said : (bound : Option TheNumber) (rest : List TheToken) → NoBlank rest → text_behind to_letters (bound_tokens bound ++ rest) ≡ bound_text bound ++ text_behind closed rest
bound_said None rest e = e to_letters
bound_said (Some bound) rest e = ap (λ (z : List ℕ). 44 ∷ (decimal bound.value ++ z)) (e to_digits)

shape_said : (shape : TheShape) (rest : List TheToken) → NoBlank rest → text_behind to_letters (shape_tokens shape ++ rest) ≡ shape_text shape ++ text_behind closed rest
shape_said plain rest e = e to_letters
shape_said (bounded bound) rest e = simp append_assoc
shape_said (sized length bound) rest e = simp (append_assoc, bound_said bound (a_mark CloseBracket ∷ rest) (mark_blank CloseBracket rest))

argument_said : (argument : TheArgument) (rest : List TheToken) → NoBlank rest → text_behind closed (argument_tokens argument ++ rest) ≡ argument_text argument ++ text_behind closed rest
argument_said argument rest e = simp (append_assoc, shape_said argument.shape rest e)

directed_said : (directed : TheDirected) (rest : List TheToken) → NoBlank rest → text_behind closed (directed_tokens directed ++ rest) ≡ directed_text directed ++ text_behind closed rest
directed_said directed rest e = simp (append_assoc, shape_said directed.argument.shape rest e)

name_said : (name : TheName) (rest : List TheToken) → NoBlank rest → text_behind closed (name_tokens name ++ rest) ≡ name_text name ++ text_behind closed rest
name_said name rest e = ap (λ (z : List ℕ). name.text ++ z) (e to_letters)

-- what stands behind a phrase with commas
commas_blank : {A : Type 0} (f : A → List TheToken) (xs : List A) (rest : List TheToken) → NoBlank rest → NoBlank (flat_map (λ y. a_mark Comma ∷ f y) xs ++ rest)
commas_blank f [] rest e = e
commas_blank f (x ∷ xs) rest e = mark_blank Comma (f x ++ flat_map (λ y. a_mark Comma ∷ f y) xs ++ rest)

commas_said : {A : Type 0} (f : A → List TheToken) (text : A → List ℕ)
    → ((x : A) (rest : List TheToken) → NoBlank rest → text_behind closed (f x ++ rest) ≡ text x ++ text_behind closed rest)
    → (xs : List A) (rest : List TheToken) → NoBlank rest
    → text_behind closed (flat_map (λ y. a_mark Comma ∷ f y) xs ++ rest) ≡ flat_map (λ y. codes "," ++ text y) xs ++ text_behind closed rest
commas_said f text said [] rest e = refl
commas_said f text said (x ∷ xs) rest e =
    ap (λ (z : List ℕ). 44 ∷ z)
    (ap (text_behind closed) (append_assoc (f x) (flat_map (λ y. a_mark Comma ∷ f y) xs) rest)
    ∙ said x (flat_map (λ y. a_mark Comma ∷ f y) xs ++ rest) (commas_blank f xs rest e)
    ∙ ap (λ (z : List ℕ). text x ++ z) (commas_said f text said xs rest e)
    ∙ sym (append_assoc (text x) (flat_map (λ y. codes "," ++ text y) xs) (text_behind closed rest)))

with_commas_said : {A : Type 0} (f : A → List TheToken) (text : A → List ℕ)
    → ((x : A) (rest : List TheToken) → NoBlank rest → text_behind closed (f x ++ rest) ≡ text x ++ text_behind closed rest)
    → (xs : List A) (rest : List TheToken) → NoBlank rest
    → text_behind closed (comma_tokens f xs ++ rest) ≡ with_commas text xs ++ text_behind closed rest
with_commas_said f text said [] rest e = refl
with_commas_said f text said (x ∷ xs) rest e =
    ap (text_behind closed) (append_assoc (f x) (flat_map (λ y. a_mark Comma ∷ f y) xs) rest)
    ∙ said x (flat_map (λ y. a_mark Comma ∷ f y) xs ++ rest) (commas_blank f xs rest e)
    ∙ ap (λ (z : List ℕ). text x ++ z) (commas_said f text said xs rest e)
    ∙ sym (append_assoc (text x) (flat_map (λ y. codes "," ++ text y) xs) (text_behind closed rest))

declaration_said : (d : TheDeclaration) (rest : List TheToken) → text_behind closed (declaration_tokens d ++ rest) ≡ declaration_text d ++ text_behind closed rest
declaration_said (alias_of new old) rest = simp append_assoc
declaration_said (typedef_of old new count) rest = simp (append_assoc, count_said count (a_mark Semicolon ∷ rest) (mark_blank Semicolon rest))
declaration_said (enum_of members name) rest =
    simp (append_assoc, with_commas_said name_tokens name_text name_said members (a_mark CloseBrace ∷ a_name name ∷ a_mark Semicolon ∷ rest) (mark_blank CloseBrace (a_name name ∷ a_mark Semicolon ∷ rest)))
declaration_said (struct_of fields name) rest = simp (append_assoc, fields_said fields (a_mark CloseBrace ∷ a_name name ∷ a_mark Semicolon ∷ rest))
declaration_said (message_of kind name args) rest =
    simp (append_assoc, with_commas_said argument_tokens argument_text argument_said args (a_mark CloseParen ∷ a_mark Semicolon ∷ rest) (mark_blank CloseParen (a_mark Semicolon ∷ rest)))
declaration_said (rpc_of name args) rest =
    simp (append_assoc, with_commas_said directed_tokens directed_text directed_said args (a_mark CloseParen ∷ a_mark Semicolon ∷ rest) (mark_blank CloseParen (a_mark Semicolon ∷ rest)))

declarations_said : (ds : List TheDeclaration) (rest : List TheToken)
    → text_behind closed (flat_map declaration_tokens ds ++ rest) ≡ flat_map declaration_text ds ++ text_behind closed rest
declarations_said [] rest = refl
declarations_said (d ∷ ds) rest =
    ap (text_behind closed) (append_assoc (declaration_tokens d) (flat_map declaration_tokens ds) rest)
    ∙ declaration_said d (flat_map declaration_tokens ds ++ rest)
    ∙ ap (λ (z : List ℕ). declaration_text d ++ z) (declarations_said ds rest)
    ∙ sym (append_assoc (declaration_text d) (flat_map declaration_text ds) (text_behind closed rest))

description_said : (description : Option (List ℕ)) (rest : List TheToken) → NoBlank rest
    → text_behind to_letters (description_tokens description ++ rest) ≡ description_text description ++ text_behind closed rest
description_said None rest e = e to_letters
description_said (Some text) rest e = refl

pub printed_is_text : PrintedIsText
printed_is_text tree =
    let inner : text_behind closed (a_mark OpenBrace ∷ (flat_map declaration_tokens tree.declarations ++ a_mark CloseBrace ∷ [])) ≡ 123 ∷ (flat_map declaration_text tree.declarations ++ 125 ∷ []) =
    ap (λ (z : List ℕ). 123 ∷ z) (declarations_said tree.declarations (a_mark CloseBrace ∷ [])) in
    let outer : text_behind to_letters (description_tokens tree.description ++ a_mark OpenBrace ∷ (flat_map declaration_tokens tree.declarations ++ a_mark CloseBrace ∷ []))
    ≡ description_text tree.description ++ (123 ∷ (flat_map declaration_text tree.declarations ++ 125 ∷ [])) =
    description_said tree.description (a_mark OpenBrace ∷ (flat_map declaration_tokens tree.declarations ++ a_mark CloseBrace ∷ [])) (mark_blank OpenBrace (flat_map declaration_tokens tree.declarations ++ a_mark CloseBrace ∷ []))
    ∙ ap (λ (z : List ℕ). description_text tree.description ++ z) inner in
    let said : printed tree ≡ text_behind closed (tokens_of_tree tree) = simp (append_assoc, outer) in
    said ∙ behind_is_joined closed (tokens_of_tree tree)
