-- Places aside: once is as good as twice, and nothing of them is printed.
use Rattle.std.proofs.Common.{◌≡◌, ℕ, List, [], ◌∷◌, ◌++◌, Option, Some, None, option_map, map, codes, refl, sym, ◌∙◌, ap, ap₂}
use Rattle.std.specs.List.{flat_map}
use Rattle.std.proofs.lemmas.List.Concat.{flat_map-cons}
use Rattle.fl_parse.specs.Tree.{TheName, TheNumber, TheField, TheShape, plain, bounded, sized, TheArgument, TheDirected, TheDeclaration, alias_of, typedef_of, enum_of, struct_of, message_of, rpc_of, TheTree}
use Rattle.fl_parse.specs.Printed.{with_commas, name_text, count_text, field_text, bound_text, shape_text, argument_text, direction_text, directed_text, kind_text, declaration_text, description_text, printed}
use Rattle.fl_parse.specs.Written.{name_aside, number_aside, field_aside, shape_aside, argument_aside, directed_aside, declaration_aside, spans_aside}

-- Once is as good as twice.

each_once : {A : Type 0} (f : A → A) → ((x : A) → f (f x) ≡ f x) → (xs : List A) → map f (map f xs) ≡ map f xs
each_once f once [] = refl
each_once f once (x ∷ xs) = ap₂ (λ z zs. z ∷ zs) (once x) (each_once f once xs)

maybe_once : (number : Option TheNumber) → option_map number_aside (option_map number_aside number) ≡ option_map number_aside number
maybe_once None = refl
maybe_once (Some number) = refl

field_once : (field : TheField) → field_aside (field_aside field) ≡ field_aside field
field_once field =
    ap (λ (c : Option TheNumber). record { type_name = name_aside field.type_name; name = name_aside field.name; count = c }) (maybe_once field.count)

shape_once : (shape : TheShape) → shape_aside (shape_aside shape) ≡ shape_aside shape
shape_once plain = refl
shape_once (bounded bound) = refl
shape_once (sized length bound) = ap (λ (b : Option TheNumber). sized (name_aside length) b) (maybe_once bound)

argument_once : (argument : TheArgument) → argument_aside (argument_aside argument) ≡ argument_aside argument
argument_once argument =
    ap (λ (s : TheShape). record { type_name = name_aside argument.type_name; name = name_aside argument.name; shape = s }) (shape_once argument.shape)

directed_once : (directed : TheDirected) → directed_aside (directed_aside directed) ≡ directed_aside directed
directed_once directed = ap (λ (a : TheArgument). record { direction = directed.direction; argument = a }) (argument_once directed.argument)

declaration_once : (d : TheDeclaration) → declaration_aside (declaration_aside d) ≡ declaration_aside d
declaration_once (alias_of new old) = refl
declaration_once (typedef_of old new count) = ap (λ (c : Option TheNumber). typedef_of (name_aside old) (name_aside new) c) (maybe_once count)
declaration_once (enum_of members name) = ap (λ (xs : List TheName). enum_of xs (name_aside name)) (each_once name_aside (λ x. refl) members)
declaration_once (struct_of fields name) = ap (λ (xs : List TheField). struct_of xs (name_aside name)) (each_once field_aside field_once fields)
declaration_once (message_of kind name args) = ap (λ (xs : List TheArgument). message_of kind (name_aside name) xs) (each_once argument_aside argument_once args)
declaration_once (rpc_of name args) = ap (λ (xs : List TheDirected). rpc_of (name_aside name) xs) (each_once directed_aside directed_once args)

pub aside_once : (tree : TheTree) → spans_aside (spans_aside tree) ≡ spans_aside tree
aside_once tree =
    ap (λ (xs : List TheDeclaration). record { name = name_aside tree.name; description = tree.description; declarations = xs })
    (each_once declaration_aside declaration_once tree.declarations)

-- Nothing of them is printed.

all_printed : {A : Type 0} (f : A → A) (text : A → List ℕ) → ((x : A) → text (f x) ≡ text x) → (xs : List A) → flat_map text (map f xs) ≡ flat_map text xs
all_printed f text same [] = refl
all_printed f text same (x ∷ xs) =
    flat_map-cons text (f x) (map f xs) ∙ ap₂ (λ (a : List ℕ) (b : List ℕ). a ++ b) (same x) (all_printed f text same xs) ∙ sym (flat_map-cons text x xs)

commas_printed : {A : Type 0} (f : A → A) (text : A → List ℕ) → ((x : A) → text (f x) ≡ text x) → (xs : List A) → with_commas text (map f xs) ≡ with_commas text xs
commas_printed f text same [] = refl
commas_printed f text same (x ∷ xs) =
    ap₂ (λ (a : List ℕ) (b : List ℕ). a ++ b) (same x) (all_printed f (λ y. codes "," ++ text y) (λ y. ap (λ (z : List ℕ). codes "," ++ z) (same y)) xs)

count_printed : (count : Option TheNumber) → count_text (option_map number_aside count) ≡ count_text count
count_printed None = refl
count_printed (Some count) = refl

bound_printed : (bound : Option TheNumber) → bound_text (option_map number_aside bound) ≡ bound_text bound
bound_printed None = refl
bound_printed (Some bound) = refl

field_printed : (field : TheField) → field_text (field_aside field) ≡ field_text field
field_printed field =
    ap (λ (z : List ℕ). name_text field.type_name ++ codes " " ++ name_text field.name ++ z ++ codes ";") (count_printed field.count)

shape_printed : (shape : TheShape) → shape_text (shape_aside shape) ≡ shape_text shape
shape_printed plain = refl
shape_printed (bounded bound) = refl
shape_printed (sized length bound) = ap (λ (z : List ℕ). codes "[" ++ name_text length ++ z ++ codes "]") (bound_printed bound)

argument_printed : (argument : TheArgument) → argument_text (argument_aside argument) ≡ argument_text argument
argument_printed argument =
    ap (λ (z : List ℕ). name_text argument.type_name ++ codes " " ++ name_text argument.name ++ z) (shape_printed argument.shape)

directed_printed : (directed : TheDirected) → directed_text (directed_aside directed) ≡ directed_text directed
directed_printed directed = ap (λ (z : List ℕ). direction_text directed.direction ++ codes " " ++ z) (argument_printed directed.argument)

declaration_printed : (d : TheDeclaration) → declaration_text (declaration_aside d) ≡ declaration_text d
declaration_printed (alias_of new old) = refl
declaration_printed (typedef_of old new count) =
    ap (λ (z : List ℕ). codes "typedef " ++ name_text old ++ codes " " ++ name_text new ++ z ++ codes ";") (count_printed count)
declaration_printed (enum_of members name) =
    ap (λ (z : List ℕ). codes "typedef " ++ codes "enum{" ++ z ++ codes "}" ++ name_text name ++ codes ";") (commas_printed name_aside name_text (λ x. refl) members)
declaration_printed (struct_of fields name) =
    ap (λ (z : List ℕ). codes "typedef " ++ codes "struct{" ++ z ++ codes "}" ++ name_text name ++ codes ";") (all_printed field_aside field_text field_printed fields)
declaration_printed (message_of kind name args) =
    ap (λ (z : List ℕ). kind_text kind ++ codes " " ++ name_text name ++ codes "(" ++ z ++ codes ");") (commas_printed argument_aside argument_text argument_printed args)
declaration_printed (rpc_of name args) =
    ap (λ (z : List ℕ). codes "rpc " ++ name_text name ++ codes "(" ++ z ++ codes ");") (commas_printed directed_aside directed_text directed_printed args)

pub aside_printed : (tree : TheTree) → printed (spans_aside tree) ≡ printed tree
aside_printed tree =
    ap (λ (z : List ℕ). codes "interface " ++ name_text tree.name ++ description_text tree.description ++ codes "{" ++ z ++ codes "}")
    (all_printed declaration_aside declaration_text declaration_printed tree.declarations)
