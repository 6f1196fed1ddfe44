-- The lists of parts that the checker goes through.
use Rattle.std.proofs.Common.{◌≡◌, ◌<◌, ℕ, ◌+◌, List, [], ◌∷◌, ◌++◌, map, refl, sym, ap, ◌∙◌, length, drop, get_or}
use Rattle.std.proofs.lemmas.List.{drop_more}
use Rattle.fl_parse.specs.declared.tree.Name.{Name}
use Rattle.fl_parse.specs.declared.tree.Field.{Field}
use Rattle.fl_parse.specs.declared.tree.Argument.{Argument}
use Rattle.fl_parse.specs.declared.tree.DirectedArgument.{DirectedArgument}
use Rattle.fl_parse.specs.declared.tree.Declaration.{Declaration}
use Rattle.fl_parse.specs.Tree.{name_of, field_of, argument_of, directed_of, declaration_of}
use Rattle.fl_check.specs.Known.{Before, after, after_all}
use Rattle.fl_check.specs.Places.{TextPlace, other_place, member_places, field_place, field_places, argument_place, argument_places, argument_names, arguments_of, declaration_places, places_from}
use Rattle.fl_check.proofs.Walks.{IsWalk}

abbrev pub members_left : List (List ℕ) → List Name → List TextPlace
members_left others ms = member_places others (map name_of ms)

abbrev pub member_here : List (List ℕ) → Name → List TextPlace
member_here others m = other_place others (name_of m) ∷ []

abbrev pub after_member : List (List ℕ) → Name → List (List ℕ)
after_member others m = others ++ m.text.now ∷ []

pub members_walk : IsWalk members_left member_here after_member
members_walk = record { step = λ s x xs. refl; stop = λ s. refl }

abbrev pub fields_left : Before → List (List ℕ) → List Field → List TextPlace
fields_left b others fs = field_places b others (map field_of fs)

abbrev pub field_here : Before → List (List ℕ) → Field → List TextPlace
field_here b others f = field_place b others (field_of f)

abbrev pub after_field : List (List ℕ) → Field → List (List ℕ)
after_field others f = others ++ f.name.text.now ∷ []

pub fields_walk : (b : Before) → IsWalk (fields_left b) (field_here b) after_field
fields_walk b = record { step = λ s x xs. refl; stop = λ s. refl }

-- the names before an argument, and how many of them are arguments'
abbrev pub Stood : Type 0
Stood = List (List ℕ) × ℕ

abbrev pub arguments_left : Before → Stood → List Argument → List TextPlace
arguments_left b s args = argument_places b s.0 s.1 (map argument_of args)

abbrev pub argument_here : Before → Stood → Argument → List TextPlace
argument_here b s a = argument_place b s.0 s.1 (argument_of a)

abbrev pub after_argument : Stood → Argument → Stood
after_argument s a = (s.0 ++ argument_names (argument_of a), s.1 + 1)

pub arguments_walk : (b : Before) → IsWalk (arguments_left b) (argument_here b) after_argument
arguments_walk b = record { step = λ s x xs. refl; stop = λ s. refl }

abbrev pub directed_left : Before → Stood → List DirectedArgument → List TextPlace
directed_left b s ds = argument_places b s.0 s.1 (arguments_of (map directed_of ds))

abbrev pub directed_here : Before → Stood → DirectedArgument → List TextPlace
directed_here b s d = argument_place b s.0 s.1 (argument_of d.argument)

abbrev pub after_directed : Stood → DirectedArgument → Stood
after_directed s d = (s.0 ++ argument_names (argument_of d.argument), s.1 + 1)

pub directed_walk : (b : Before) → IsWalk (directed_left b) (directed_here b) after_directed
directed_walk b = record { step = λ s x xs. refl; stop = λ s. refl }

-- after a name of a list of names, one more stands before
pub stood : (a a2 n : List (List ℕ)) (k : ℕ) → a2 ≡ a ++ n → (let s : Stood = (a2, k + 1) in s) ≡ (let s : Stood = (a ++ n, k + 1) in s)
stood a a2 n k h = ap (λ l. (let s : Stood = (l, k + 1) in s)) h

abbrev pub declarations_left : Before → List Declaration → List TextPlace
declarations_left b ds = places_from b (map declaration_of ds)

abbrev pub declaration_here : Before → Declaration → List TextPlace
declaration_here b d = declaration_places b (declaration_of d)

abbrev pub after_declaration : Before → Declaration → Before
after_declaration b d = after b (declaration_of d)

pub declarations_walk : IsWalk declarations_left declaration_here after_declaration
declarations_walk = record { step = λ s x xs. refl; stop = λ s. refl }

pub after_push : (b b2 : Before) (ds : List Declaration) (i : ℕ) (x d : Declaration) (whole : Before) → i < length ds → x ≡ get_or ds i d → after_all b (map declaration_of (drop i ds)) ≡ whole → b2 ≡ after b (declaration_of x) → after_all b2 (map declaration_of (drop (i + 1) ds)) ≡ whole
after_push b b2 ds i x d whole h q inv more =
    ap (λ y. after_all y (map declaration_of (drop (i + 1) ds))) more
    ∙ sym (ap (λ l. after_all b (map declaration_of l)) (drop_more ds i d h ∙ ap (λ y. y ∷ drop (i + 1) ds) (sym q)))
    ∙ inv
