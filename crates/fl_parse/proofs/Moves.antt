-- Tokens that differ in their places alone are written for trees that differ in their places alone.
use Rattle.std.proofs.Common.{◌≡◌, ℕ, Bool, true, false, List, [], ◌∷◌, ◌++◌, Option, Some, None, option_map, map, codes, refl, sym, ◌∙◌, ap, ap₂, subst, inl, inr, ◌⊎◌, if◌then◌else◌}
use Rattle.std.specs.Str.{bytes_eq}
use Rattle.fl_lex.specs.declared.token.Mark.{Mark}
use Rattle.fl_lex.specs.declared.token.Mark.TheVariants.{OpenBrace, CloseBrace, OpenParen, CloseParen, OpenBracket, CloseBracket, Comma, Semicolon}
use Rattle.fl_lex.specs.declared.token.TokenKind.{TokenKind}
use Rattle.fl_lex.specs.declared.token.TokenKind.TheVariants as kinds
use Rattle.fl_lex.specs.Token.{TheToken}
use Rattle.fl_lex.specs.Joined.{Sign, sign_of}
use Rattle.fl_parse.specs.declared.tree.Direction.{Direction}
use Rattle.fl_parse.specs.Tree.{TheName, TheNumber, TheField, TheShape, plain, bounded, sized, TheArgument, TheDirected, TheDeclaration, alias_of, typedef_of, enum_of, struct_of, message_of, rpc_of, TheTree}
use Rattle.fl_parse.specs.Grammar.{One, Means, Then, ◌>>◌, Optional, Joined, Many, TheMark, AName, ANumber, ADescription, ACount, AField, Members, Separated, Inside, bound_word, length_word, InBrackets, ABracket, AShape, AnArgument, ADirected, Defined, enum_word, struct_word, type_word, Definition, Opening, alias_word, typedef_word, message_word, rpc_word, Production, ADeclaration, Body, Derives, is_mark, is_word, is_string, if_so, name_in, number_in, description_in, direction_in, inside_in, defined_in, opening_in}
use Rattle.fl_parse.specs.Written.{name_aside, number_aside, field_aside, shape_aside, argument_aside, directed_aside, declaration_aside, spans_aside}

-- Tokens with the same signs as those that are written for a value by the one phrase are written by the
-- other for a value that is the same, places aside.
record Moves {A : Type 0} (aside : A → A) (P Q : List TheToken → A → Type 0) : Type 0 where
  moved : (a b : List TheToken) (x : A) → P a x → map sign_of b ≡ map sign_of a → (y : A) × Q b y × (aside y ≡ aside x)

-- what has no places
abbrev itself : {A : Type 0} → A → A
itself x = x

-- a list cut in two as another with its signs
record Cut (b c d : List TheToken) : Type 0 where
  prefix : List TheToken
  back : List TheToken
  tokens_are : b ≡ prefix ++ back
  prefix_same : map sign_of prefix ≡ map sign_of c
  back_same : map sign_of back ≡ map sign_of d

one_longer : {b c d : List TheToken} (s t : TheToken) → sign_of s ≡ sign_of t → Cut b c d → Cut (s ∷ b) (t ∷ c) d
one_longer s t e parts = record {
  prefix = s ∷ parts.prefix;
  back = parts.back;
  tokens_are = ap (λ (z : List TheToken). s ∷ z) parts.tokens_are;
  prefix_same = ap₂ (λ (x : Sign) (z : List Sign). x ∷ z) e parts.prefix_same;
  back_same = parts.back_same;
}

cut : (b c d : List TheToken) → map sign_of b ≡ map sign_of (c ++ d) → Cut b c d
cut b [] d e = record { prefix = []; back = b; tokens_are = refl; prefix_same = refl; back_same = e }
cut [] (t ∷ c) d e = absurd cc
cut (s ∷ b) (t ∷ c) d e =
    let first : sign_of s ≡ sign_of t = cc in
    let more : map sign_of b ≡ map sign_of (c ++ d) = cc in
    one_longer s t first (cut b c d more)

none_same : (b : List TheToken) → map sign_of b ≡ [] → b ≡ []
none_same [] e = refl
none_same (s ∷ b) e = absurd cc

one_same : (b : List TheToken) (t : TheToken) → map sign_of b ≡ sign_of t ∷ [] → (s : TheToken) × (b ≡ s ∷ []) × (sign_of s ≡ sign_of t)
one_same [] t e = absurd cc
one_same (s ∷ b) t e =
    let more : map sign_of b ≡ [] = cc in
    let first : sign_of s ≡ sign_of t = cc in
    (s, ap (λ (z : List TheToken). s ∷ z) (none_same b more), first)

-- a token of this sign at a place
abbrev placed : Sign → ℕ → TheToken
placed sign at = record { kind = sign.kind; text = sign.text; at = at }

then_moves : {A B : Type 0} {f : A → A} {g : B → B} {L K : List TheToken → A → Type 0} {M N : A → List TheToken → B → Type 0}
    → Moves f L K → ((x y : A) → f y ≡ f x → Moves g (M x) (N y)) → Moves g (Then L M) (Then K N)
then_moves {f = f} first next = record {
  moved = λ a b x l e.
      let parts : Cut b l.prefix l.back = cut b l.prefix l.back (e ∙ ap (map sign_of) l.tokens_are) in
      let (y, k, same) = first.moved l.prefix parts.prefix l.middle l.prefix_is parts.prefix_same in
      let (z, n, also) = (next l.middle y same).moved l.back parts.back x l.back_is parts.back_same in
      (z, record { prefix = parts.prefix; back = parts.back; middle = y; tokens_are = parts.tokens_are; prefix_is = k; back_is = n }, also);
}

means_moves : {A : Type 0} {f : A → A} (v w : A) → f w ≡ f v → Moves f (Means v) (Means w)
means_moves {f = f} v w e = record {
  moved = λ a b x m same. (w, record { tokens_are = none_same b (same ∙ ap (map sign_of) m.tokens_are); value_is = refl }, e ∙ ap f (sym m.value_is));
}

one_moves : {A : Type 0} {f : A → A} {read other : TheToken → Option A}
    → ((sign : Sign) (at to : ℕ) (x : A) → read (placed sign at) ≡ Some x → (y : A) × (other (placed sign to) ≡ Some y) × (f y ≡ f x))
    → Moves f (One read) (One other)
one_moves {other = other} reads = record {
  moved = λ a b x l e.
      let (s, is, same) = one_same b l.token (e ∙ ap (map sign_of) l.tokens_are) in
      let (y, there, also) = reads (sign_of l.token) l.token.at s.at x l.reads in
      (y, record { token = s; tokens_are = is; reads = subst (λ (z : Sign). other (placed z s.at) ≡ Some y) (sym same) there }, also);
}

-- a token whose place isn't read
fixed_moves : {A : Type 0} {f : A → A} (read : TheToken → Option A) → ((sign : Sign) (at to : ℕ) → read (placed sign to) ≡ read (placed sign at)) → Moves f (One read) (One read)
fixed_moves read same = one_moves (λ sign at to x e. (x, same sign at to ∙ e, refl))

mark_moves : (mark : Mark) → Moves itself (TheMark mark) (TheMark mark)
mark_moves mark = fixed_moves (λ token. if_so (is_mark token mark) tt) (λ sign at to. refl)

name_moves : Moves name_aside AName AName
name_moves = one_moves (λ sign at to x e. by_kind sign.kind sign.text at to x e)
  where
    by_kind : (kind : TokenKind) (text : List ℕ) (at to : ℕ) (x : TheName) → name_in (record { kind = kind; text = text; at = at }) ≡ Some x
        → (y : TheName) × (name_in (record { kind = kind; text = text; at = to }) ≡ Some y) × (name_aside y ≡ name_aside x)
    by_kind kinds.Word text at to x e =
        let is : record { text = text; at = at } ≡ x = cc in
        (record { text = text; at = to }, refl, ap name_aside is)
    by_kind (kinds.Number value) text at to x e = absurd cc
    by_kind kinds.Description text at to x e = absurd cc
    by_kind (kinds.Mark mark) text at to x e = absurd cc

number_moves : Moves number_aside ANumber ANumber
number_moves = one_moves (λ sign at to x e. by_kind sign.kind sign.text at to x e)
  where
    by_kind : (kind : TokenKind) (text : List ℕ) (at to : ℕ) (x : TheNumber) → number_in (record { kind = kind; text = text; at = at }) ≡ Some x
        → (y : TheNumber) × (number_in (record { kind = kind; text = text; at = to }) ≡ Some y) × (number_aside y ≡ number_aside x)
    by_kind kinds.Word text at to x e = absurd cc
    by_kind (kinds.Number value) text at to x e =
        let is : record { value = value; at = at } ≡ x = cc in
        (record { value = value; at = to }, refl, ap number_aside is)
    by_kind kinds.Description text at to x e = absurd cc
    by_kind (kinds.Mark mark) text at to x e = absurd cc

optional_moves : {A : Type 0} {f : A → A} {P Q : List TheToken → A → Type 0} → Moves f P Q → Moves (option_map f) (Optional P) (Optional Q)
optional_moves {f = f} {P = P} {Q = Q} phrase = record { moved = by_value }
  where
    by_value : (a b : List TheToken) (x : Option _) → Optional P a x → map sign_of b ≡ map sign_of a → (y : Option _) × Optional Q b y × (option_map f y ≡ option_map f x)
    by_value a b None l e = (None, none_same b (e ∙ ap (map sign_of) l), refl)
    by_value a b (Some x) l e =
        let (y, q, same) = phrase.moved a b x l e in
        (Some y, q, ap (λ z. Some z) same)

many_moves : {A : Type 0} {f : A → A} {P Q : List TheToken → A → Type 0} → Moves f P Q → Moves (map f) (Many P) (Many Q)
many_moves {f = f} {P = P} {Q = Q} phrase = record { moved = λ a b xs l e. by_list xs a b l e }
  where
    by_list : (xs : List _) (a b : List TheToken) → Many P a xs → map sign_of b ≡ map sign_of a → (ys : List _) × Many Q b ys × (map f ys ≡ map f xs)
    by_list [] a b l e = ([], none_same b (e ∙ ap (map sign_of) l), refl)
    by_list (x ∷ xs) a b l e =
        let parts : Cut b l.prefix l.back = cut b l.prefix l.back (e ∙ ap (map sign_of) l.tokens_are) in
        let (y, k, same) = phrase.moved l.prefix parts.prefix x l.prefix_is parts.prefix_same in
        let (ys, n, also) = by_list xs l.back parts.back l.back_is parts.back_same in
        (y ∷ ys, record { prefix = parts.prefix; back = parts.back; tokens_are = parts.tokens_are; prefix_is = k; back_is = n }, ap₂ (λ z zs. z ∷ zs) same also)

separated_moves : {A : Type 0} {f : A → A} {P Q : List TheToken → A → Type 0} → Moves f P Q → Moves (map f) (Separated P) (Separated Q)
separated_moves {f = f} {P = P} {Q = Q} phrase = record { moved = λ a b xs l e. by_list xs a b l e }
  where
    more : Moves (map f) (Many (TheMark Comma >> P)) (Many (TheMark Comma >> Q))
    more = many_moves (then_moves (mark_moves Comma) (λ c d e. phrase))

    by_list : (xs : List _) (a b : List TheToken) → Separated P a xs → map sign_of b ≡ map sign_of a → (ys : List _) × Separated Q b ys × (map f ys ≡ map f xs)
    by_list [] a b l e = ([], none_same b (e ∙ ap (map sign_of) l), refl)
    by_list (x ∷ xs) a b l e =
        let parts : Cut b l.prefix l.back = cut b l.prefix l.back (e ∙ ap (map sign_of) l.tokens_are) in
        let (y, k, same) = phrase.moved l.prefix parts.prefix x l.prefix_is parts.prefix_same in
        let (ys, n, also) = more.moved l.back parts.back xs l.back_is parts.back_same in
        (y ∷ ys, record { prefix = parts.prefix; back = parts.back; tokens_are = parts.tokens_are; prefix_is = k; back_is = n }, ap₂ (λ z zs. z ∷ zs) same also)

members_moves : Moves (map name_aside) Members Members
members_moves = record { moved = λ a b xs l e. by_list xs a b l e }
  where
    by_list : (xs : List TheName) (a b : List TheToken) → Members a xs → map sign_of b ≡ map sign_of a → (ys : List TheName) × Members b ys × (map name_aside ys ≡ map name_aside xs)
    by_list [] a b l e = ([], none_same b (e ∙ ap (map sign_of) l), refl)
    by_list (x ∷ xs) a b l e =
        let parts : Cut b l.prefix l.back = cut b l.prefix l.back (e ∙ ap (map sign_of) l.tokens_are) in
        let (y, k, same) = name_moves.moved l.prefix parts.prefix x l.prefix_is parts.prefix_same in
        behind (λ c d m i. by_list xs c d m i) y same parts k l.back_is
      where
        behind : ((c d : List TheToken) → Members c xs → map sign_of d ≡ map sign_of c → (ys : List TheName) × Members d ys × (map name_aside ys ≡ map name_aside xs))
            → (y : TheName) → name_aside y ≡ name_aside x → (parts : Cut b l.prefix l.back) → AName parts.prefix y
            → ((xs ≡ []) × (l.back ≡ [])) ⊎ Joined (λ comma. TheMark Comma comma tt) (λ rest. Members rest xs) l.back
            → (ys : List TheName) × Members b ys × (map name_aside ys ≡ map name_aside (x ∷ xs))
        behind others y same parts k (inl (last, ends)) = (
          y ∷ [],
          record { prefix = parts.prefix; back = parts.back; tokens_are = parts.tokens_are; prefix_is = k; back_is = inl (refl, none_same parts.back (parts.back_same ∙ ap (map sign_of) ends)) },
          ap₂ (λ (z : TheName) (zs : List TheName). z ∷ zs) same (ap (map name_aside) (sym last)),
        )
        behind others y same parts k (inr j) =
            let inner : Cut parts.back j.prefix j.back = cut parts.back j.prefix j.back (parts.back_same ∙ ap (map sign_of) j.tokens_are) in
            let (u, comma, done) = (mark_moves Comma).moved j.prefix inner.prefix tt j.prefix_is inner.prefix_same in
            let (ys, n, also) = others j.back inner.back j.back_is inner.back_same in (
              y ∷ ys,
              record {
                prefix = parts.prefix;
                back = parts.back;
                tokens_are = parts.tokens_are;
                prefix_is = k;
                back_is = inr (record { prefix = inner.prefix; back = inner.back; tokens_are = inner.tokens_are; prefix_is = comma; back_is = n });
              },
              ap₂ (λ (z : TheName) (zs : List TheName). z ∷ zs) same also,
            )

-- The productions.

count_moves : Moves number_aside ACount ACount
count_moves = then_moves (mark_moves OpenBracket) (λ o p h. then_moves number_moves (λ n m e. then_moves (mark_moves CloseBracket) (λ c d i. means_moves n m e)))

same3 : {A B C D : Type 0} (h : A → B → C → D) {a x : A} {b y : B} {c z : C} → a ≡ x → b ≡ y → c ≡ z → h a b c ≡ h x y z
same3 h {x = x} {b = b} {y = y} {c = c} e i o = ap (λ k. h k b c) e ∙ ap (λ k. h x k c) i ∙ ap (λ k. h x y k) o

field_moves : Moves field_aside AField AField
field_moves =
    then_moves name_moves (λ t s e. then_moves name_moves (λ n m i. then_moves (optional_moves count_moves) (λ c d o. then_moves (mark_moves Semicolon)
    (λ u v h. means_moves _ _ (same3 (λ (x : TheName) (y : TheName) (z : Option TheNumber). record { type_name = x; name = y; count = z }) e i o)))))

-- What is read in brackets, behind `typedef` and before a declaration, places aside.

abbrev inside_aside : Inside → Inside
inside_aside (bound_word bound) = bound_word (number_aside bound)
inside_aside (length_word length) = length_word (name_aside length)

abbrev defined_aside : Defined → Defined
defined_aside enum_word = enum_word
defined_aside struct_word = struct_word
defined_aside (type_word old) = type_word (name_aside old)

inside_moves : (s t : TheName) → name_aside t ≡ name_aside s → Moves inside_aside (One (inside_in s)) (One (inside_in t))
inside_moves s t same = one_moves (λ sign at to x e. by_kind sign.kind sign.text at to x e)
  where
    string_same : is_string t ≡ is_string s
    string_same = ap (λ (z : TheName). is_string z) same

    by_test : (b : Bool) (value at to : ℕ) (x : Inside) → if_so b (bound_word (record { value = value; at = at })) ≡ Some x
        → (y : Inside) × (if_so b (bound_word (record { value = value; at = to })) ≡ Some y) × (inside_aside y ≡ inside_aside x)
    by_test true value at to x e =
        let is : bound_word (record { value = value; at = at }) ≡ x = cc in
        (bound_word (record { value = value; at = to }), refl, ap inside_aside is)
    by_test false value at to x e = absurd cc

    by_kind : (kind : TokenKind) (text : List ℕ) (at to : ℕ) (x : Inside) → inside_in s (record { kind = kind; text = text; at = at }) ≡ Some x
        → (y : Inside) × (inside_in t (record { kind = kind; text = text; at = to }) ≡ Some y) × (inside_aside y ≡ inside_aside x)
    by_kind kinds.Word text at to x e =
        let is : length_word (record { text = text; at = at }) ≡ x = cc in
        (length_word (record { text = text; at = to }), refl, ap inside_aside is)
    by_kind (kinds.Number value) text at to x e =
        let (y, there, also) = by_test (is_string s) value at to x e in
        (y, ap (λ b. if_so b (bound_word (record { value = value; at = to }))) string_same ∙ there, also)
    by_kind kinds.Description text at to x e = absurd cc
    by_kind (kinds.Mark mark) text at to x e = absurd cc

in_brackets_moves : (i j : Inside) → inside_aside j ≡ inside_aside i → Moves shape_aside (InBrackets i) (InBrackets j)
in_brackets_moves (bound_word n) (bound_word m) e =
    then_moves (mark_moves CloseBracket) (λ c d h. means_moves _ _ (ap shape_in e))
  where
    shape_in : Inside → TheShape
    shape_in (bound_word bound) = bounded bound
    shape_in (length_word length) = plain
in_brackets_moves (length_word n) (length_word m) e =
    then_moves (optional_moves (then_moves (mark_moves Comma) (λ c d h. number_moves))) (λ p q o. then_moves (mark_moves CloseBracket)
    (λ c d h. means_moves _ _ (ap₂ (λ (x : TheName) (y : Option TheNumber). sized x y) same o)))
  where
    same : name_aside m ≡ name_aside n
    same = cc
in_brackets_moves (bound_word n) (length_word m) e = absurd cc
in_brackets_moves (length_word n) (bound_word m) e = absurd cc

bracket_moves : (s t : TheName) → name_aside t ≡ name_aside s → Moves shape_aside (ABracket s) (ABracket t)
bracket_moves s t same = then_moves (mark_moves OpenBracket) (λ o p h. then_moves (inside_moves s t same) in_brackets_moves)

shape_moves : (s t : TheName) → name_aside t ≡ name_aside s → Moves shape_aside (AShape s) (AShape t)
shape_moves s t same = record { moved = by_case }
  where
    by_case : (a b : List TheToken) (x : TheShape) → AShape s a x → map sign_of b ≡ map sign_of a → (y : TheShape) × AShape t b y × (shape_aside y ≡ shape_aside x)
    by_case a b x (inl m) e = (plain, inl (record { tokens_are = none_same b (e ∙ ap (map sign_of) m.tokens_are); value_is = refl }), ap shape_aside (sym m.value_is))
    by_case a b x (inr l) e =
        let (y, k, also) = (bracket_moves s t same).moved a b x l e in
        (y, inr k, also)

argument_moves : Moves argument_aside AnArgument AnArgument
argument_moves =
    then_moves name_moves (λ t s e. then_moves name_moves (λ n m i. then_moves (shape_moves t s e)
    (λ p q o. means_moves _ _ (same3 (λ (x : TheName) (y : TheName) (z : TheShape). record { type_name = x; name = y; shape = z }) e i o))))

directed_moves : Moves directed_aside ADirected ADirected
directed_moves =
    then_moves (fixed_moves direction_in (λ sign at to. refl)) (λ d c e. then_moves argument_moves
    (λ p q o. means_moves _ _ (ap₂ (λ (x : Direction) (y : TheArgument). record { direction = x; argument = y }) e o)))

-- Declarations.

defined_moves : Moves defined_aside (One defined_in) (One defined_in)
defined_moves = one_moves (λ sign at to x e. by_kind sign.kind sign.text at to x e)
  where
    by_tests : (b c : Bool) (old new : TheName) (x : Defined) → name_aside new ≡ name_aside old
        → (if b then Some enum_word else if c then Some struct_word else Some (type_word old)) ≡ Some x
        → (y : Defined) × ((if b then Some enum_word else if c then Some struct_word else Some (type_word new)) ≡ Some y) × (defined_aside y ≡ defined_aside x)
    by_tests true c old new x same e = (x, e, refl)
    by_tests false true old new x same e = (x, e, refl)
    by_tests false false old new x same e =
        let is : type_word old ≡ x = cc in
        (type_word new, refl, ap (λ (z : TheName). type_word z) same ∙ ap defined_aside is)

    by_kind : (kind : TokenKind) (text : List ℕ) (at to : ℕ) (x : Defined) → defined_in (record { kind = kind; text = text; at = at }) ≡ Some x
        → (y : Defined) × (defined_in (record { kind = kind; text = text; at = to }) ≡ Some y) × (defined_aside y ≡ defined_aside x)
    by_kind kinds.Word text at to x e =
        by_tests (bytes_eq text (codes "enum")) (bytes_eq text (codes "struct")) (record { text = text; at = at }) (record { text = text; at = to }) x refl e
    by_kind (kinds.Number value) text at to x e = absurd cc
    by_kind kinds.Description text at to x e = absurd cc
    by_kind (kinds.Mark mark) text at to x e = absurd cc

definition_moves : (i j : Defined) → defined_aside j ≡ defined_aside i → Moves declaration_aside (Definition i) (Definition j)
definition_moves enum_word enum_word e =
    then_moves (mark_moves OpenBrace) (λ o p h. then_moves members_moves (λ xs ys i. then_moves (mark_moves CloseBrace) (λ c d k.
    then_moves name_moves (λ n m l. then_moves (mark_moves Semicolon) (λ u v w.
    means_moves _ _ (ap₂ (λ (x : List TheName) (y : TheName). enum_of x y) i l))))))
definition_moves struct_word struct_word e =
    then_moves (mark_moves OpenBrace) (λ o p h. then_moves (many_moves field_moves) (λ xs ys i. then_moves (mark_moves CloseBrace) (λ c d k.
    then_moves name_moves (λ n m l. then_moves (mark_moves Semicolon) (λ u v w.
    means_moves _ _ (ap₂ (λ (x : List TheField) (y : TheName). struct_of x y) i l))))))
definition_moves (type_word s) (type_word t) e =
    then_moves name_moves (λ n m i. then_moves (optional_moves count_moves) (λ c d o. then_moves (mark_moves Semicolon)
    (λ u v w. means_moves _ _ (same3 (λ (x : TheName) (y : TheName) (z : Option TheNumber). typedef_of x y z) same i o))))
  where
    same : name_aside t ≡ name_aside s
    same = cc
definition_moves enum_word struct_word e = absurd cc
definition_moves enum_word (type_word t) e = absurd cc
definition_moves struct_word enum_word e = absurd cc
definition_moves struct_word (type_word t) e = absurd cc
definition_moves (type_word s) enum_word e = absurd cc
definition_moves (type_word s) struct_word e = absurd cc

production_moves : (opening : Opening) → Moves declaration_aside (Production opening) (Production opening)
production_moves alias_word =
    then_moves name_moves (λ n m i. then_moves name_moves (λ s t e. then_moves (mark_moves Semicolon)
    (λ u v w. means_moves _ _ (ap₂ (λ (x : TheName) (y : TheName). alias_of x y) i e))))
production_moves typedef_word = then_moves defined_moves definition_moves
production_moves (message_word kind) =
    then_moves name_moves (λ n m i. then_moves (mark_moves OpenParen) (λ o p h. then_moves (separated_moves argument_moves) (λ xs ys e.
    then_moves (mark_moves CloseParen) (λ c d k. then_moves (mark_moves Semicolon) (λ u v w.
    means_moves _ _ (ap₂ (λ (x : TheName) (y : List TheArgument). message_of kind x y) i e))))))
production_moves rpc_word =
    then_moves name_moves (λ n m i. then_moves (mark_moves OpenParen) (λ o p h. then_moves (separated_moves directed_moves) (λ xs ys e.
    then_moves (mark_moves CloseParen) (λ c d k. then_moves (mark_moves Semicolon) (λ u v w.
    means_moves _ _ (ap₂ (λ (x : TheName) (y : List TheDirected). rpc_of x y) i e))))))

declaration_moves : Moves declaration_aside ADeclaration ADeclaration
declaration_moves =
    then_moves (fixed_moves {f = itself} opening_in (λ sign at to. refl))
    (λ i j e. subst (λ (z : Opening). Moves declaration_aside (Production i) (Production z)) (sym e) (production_moves i))

-- The interface.

description_moves : Moves itself ADescription ADescription
description_moves = fixed_moves description_in (λ sign at to. refl)

same_tree : (n m : TheName) (d c : Option (List ℕ)) (xs ys : List TheDeclaration) → name_aside m ≡ name_aside n → option_map itself c ≡ option_map itself d
    → map declaration_aside ys ≡ map declaration_aside xs
    → spans_aside (record { name = m; description = c; declarations = ys }) ≡ spans_aside (record { name = n; description = d; declarations = xs })
same_tree n m d c xs ys e i o =
    same3 (λ (x : TheName) (y : Option (List ℕ)) (z : List TheDeclaration). record { name = x; description = y; declarations = z }) e (itself_same d c i) o
  where
    itself_same : (d c : Option (List ℕ)) → option_map itself c ≡ option_map itself d → c ≡ d
    itself_same None None i = refl
    itself_same (Some x) (Some y) i = i
    itself_same None (Some y) i = cc
    itself_same (Some x) None i = cc

body_moves : Moves spans_aside Body Body
body_moves =
    then_moves (fixed_moves {f = itself} (λ token. if_so (is_word token (codes "interface")) tt) (λ sign at to. refl)) (λ b c h.
    then_moves name_moves (λ n m e. then_moves (optional_moves description_moves) (λ d f i. then_moves (mark_moves OpenBrace) (λ o p k.
    then_moves (many_moves declaration_moves) (λ xs ys j. then_moves (mark_moves CloseBrace) (λ u v w.
    means_moves _ _ (same_tree n m d f xs ys e i j)))))))

derives_moves : Moves spans_aside Derives Derives
derives_moves =
    then_moves body_moves (λ x y e. then_moves (optional_moves (mark_moves Semicolon)) (λ s t h. means_moves x y e))

pub derives_again : (a b : List TheToken) (tree : TheTree) → Derives a tree → map sign_of b ≡ map sign_of a
    → (again : TheTree) × Derives b again × (spans_aside again ≡ spans_aside tree)
derives_again a b tree l e = derives_moves.moved a b tree l e
