-- What a tree is printed as is no longer than the tokens that it is written as.
use Rattle.std.proofs.Common.{◌≡◌, ℕ, ◌+◌, ◌<◌, ◌≤◌, Bool, true, false, List, [], ◌∷◌, ◌++◌, length, Option, Some, None, option_map, map, codes, refl, sym, ◌∙◌, ap, subst, arith, inl, inr, ◌⊎◌, if◌then◌else◌, append_assoc, append-nil}
use Rattle.std.specs.List.{AllByRecursion, flat_map}
use Rattle.std.proofs.lemmas.List.{length-append}
use Rattle.std.proofs.lemmas.List.Concat.{flat_map-cons}
use Rattle.std.proofs.lemmas.Slice.Eq.{bytes_eq-Decides}
use Rattle.fl_lex.specs.declared.token.Mark.{Mark}
use Rattle.fl_lex.specs.declared.token.Mark.TheVariants.{OpenBrace, CloseBrace, OpenParen, CloseParen, OpenBracket, CloseBracket, Comma, Semicolon}
use Rattle.fl_lex.specs.declared.token.TokenKind.{TokenKind}
use Rattle.fl_lex.specs.declared.token.TokenKind.TheVariants as kinds
use Rattle.fl_lex.specs.Spelling.{class_of, mark_class, token, IsItem}
use Rattle.fl_lex.specs.Token.{TheToken}
use Rattle.fl_lex.specs.Joined.{Sign, sign_of, Edge, closed, edge_of, runs_into, joined_after, joined, IsSign}
use Rattle.fl_lex.proofs.Numbers.{number_is_shortest}
use Rattle.fl_parse.specs.declared.tree.MessageKind.TheVariants as messages
use Rattle.fl_parse.specs.declared.tree.Direction.{Direction}
use Rattle.fl_parse.specs.declared.tree.Direction.TheVariants as directions
use Rattle.fl_parse.specs.Tree.{TheName, TheNumber, TheShape, bounded, sized, TheTree}
use Rattle.fl_parse.specs.Grammar.{One, Means, Then, ◌>>◌, Optional, Joined, Many, TheMark, Word, AName, ANumber, ADescription, ACount, AField, Members, Separated, Inside, bound_word, length_word, InBrackets, ABracket, AShape, AnArgument, ADirected, Defined, enum_word, struct_word, type_word, Definition, Opening, alias_word, typedef_word, message_word, rpc_word, Production, ADeclaration, Body, Derives, is_mark, kind_is_mark, is_word, word_text, if_so, name_in, number_in, description_from, direction_in, inside_in, is_string, defined_in, opening_in}
use Rattle.fl_parse.specs.Printed.{kind_text, direction_text}
use Rattle.fl_parse.specs.Written.{a_word, a_name, a_number, mark_text, a_mark, a_description, comma_tokens, count_tokens, field_tokens, bound_tokens, shape_tokens, argument_tokens, directed_tokens, name_tokens, declaration_tokens, description_tokens, tokens_of_tree}
use Rattle.fl_parse.proofs.Lists.{so_true, same_true}

-- bytes that tokens take behind an edge
abbrev size : Edge → List TheToken → ℕ
size edge tokens = length (joined_after edge (map sign_of tokens))

-- each is a token within the limits
abbrev Sound : List TheToken → Type 0
Sound tokens = AllByRecursion IsSign (map sign_of tokens)

-- The second tokens are sound, and in the place of the first they make no text longer.
record Shrinks (a b : List TheToken) : Type 0 where
  sound : Sound b
  shorter : (c d : List TheToken) → ((edge : Edge) → size edge d ≤ size edge c) → (edge : Edge) → size edge (b ++ d) ≤ size edge (a ++ c)

sound_append : (a b : List TheToken) → Sound a → Sound b → Sound (a ++ b)
sound_append [] b m n = n
sound_append (t ∷ a) b m n = (m.0, sound_append a b m.1 n)

sound_cut : (a b : List TheToken) → Sound (a ++ b) → Sound a × Sound b
sound_cut [] b m = (tt, m)
sound_cut (t ∷ a) b m = let (f, g) = sound_cut a b m.1 in ((m.0, f), g)

shrinks_none : Shrinks [] []
shrinks_none = record { sound = tt; shorter = λ c d h. h }

shrinks_append : (a b c d : List TheToken) → Shrinks a b → Shrinks c d → Shrinks (a ++ c) (b ++ d)
shrinks_append a b c d first second = record {
  sound = sound_append b d first.sound second.sound;
  shorter = λ x y h edge.
      subst (λ (z : List TheToken). size edge z ≤ size edge ((a ++ c) ++ x)) (sym (append_assoc b d y))
      (subst (λ (z : List TheToken). size edge (b ++ (d ++ y)) ≤ size edge z) (sym (append_assoc a c x))
      (first.shorter (c ++ x) (d ++ y) (second.shorter x y h) edge));
}

-- One token.

abbrev blank : Edge → TokenKind → ℕ
blank edge kind = length (if runs_into edge kind then codes " " else [])

size_of : (edge : Edge) (t : TheToken) (rest : List TheToken) → size edge (t ∷ rest) ≡ blank edge t.kind + (length t.text + size (edge_of t.kind) rest)
size_of edge t rest =
    length-append (if runs_into edge t.kind then codes " " else []) (t.text ++ joined_after (edge_of t.kind) (map sign_of rest))
    ∙ ap (λ n. blank edge t.kind + n) (length-append t.text (joined_after (edge_of t.kind) (map sign_of rest)))

blank_one : (edge : Edge) (kind : TokenKind) → blank edge kind ≤ 1
blank_one edge kind = by_test (runs_into edge kind)
  where
    by_test : (b : Bool) → length (if b then codes " " else []) ≤ 1
    by_test true = omega arith
    by_test false = omega arith

-- an edge costs a blank at most
cost : (edge : Edge) (rest : List TheToken) → size edge rest ≤ 1 + size closed rest
cost edge [] = omega arith
cost edge (t ∷ rest) = omega (arith, size_of edge t rest, size_of closed t rest, blank_one edge t.kind)

least : (edge : Edge) (rest : List TheToken) → size closed rest ≤ size edge rest
least edge [] = omega arith
least edge (t ∷ rest) =
    let none : blank closed t.kind ≡ 0 = refl in
    omega (arith, size_of edge t rest, size_of closed t rest, none)

shrinks_kept : (s t : TheToken) → s.kind ≡ t.kind → length t.text ≤ length s.text → IsSign (sign_of t) → Shrinks (s ∷ []) (t ∷ [])
shrinks_kept s t e few is = record {
  sound = (is, tt);
  shorter = λ c d h edge.
      omega (arith, size_of edge s c, size_of edge t d, h (edge_of t.kind), few, ap (λ k. blank edge k) e, ap (λ k. size (edge_of k) c) e);
}

shrinks_same : (s t : TheToken) → sign_of s ≡ sign_of t → IsSign (sign_of s) → Shrinks (s ∷ []) (t ∷ [])
shrinks_same s t e is =
    let same : length s.text ≡ length t.text = ap (λ (z : Sign). length z.text) e in
    shrinks_kept s t (ap (λ (z : Sign). z.kind) e) (omega (arith, same)) (subst (λ (z : Sign). IsSign z) e is)

shrinks_dropped : (s : TheToken) → 0 < length s.text → Shrinks (s ∷ []) []
shrinks_dropped s some = record {
  sound = tt;
  shorter = λ c d h edge. omega (arith, size_of edge s c, cost edge d, least (edge_of s.kind) d, h (edge_of s.kind), some);
}

-- What is written for a value shrinks to these tokens of it.
record Covers {A : Type 0} (P : List TheToken → A → Type 0) (f : A → List TheToken) : Type 0 where
  covered : (a : List TheToken) (x : A) → P a x → Sound a → Shrinks a (f x)

-- the same, where tokens are told before it
record Ends {A : Type 0} (P : List TheToken → A → Type 0) (before : List TheToken) (f : A → List TheToken) : Type 0 where
  ended : (a : List TheToken) (x : A) → P a x → Sound a → (out : List TheToken) × Shrinks a out × (f x ≡ before ++ out)

then_ends : {A B : Type 0} {L : List TheToken → A → Type 0} {M : A → List TheToken → B → Type 0} {g : A → List TheToken} {f : B → List TheToken} {before : List TheToken}
    → Covers L g → ((x : A) → Ends (M x) (before ++ g x) f) → Ends (Then L M) before f
then_ends {g = g} {f = f} {before = before} first next = record {
  ended = λ a y l sound.
      let (m, n) = sound_cut l.prefix l.back (subst Sound l.tokens_are sound) in
      let (out, tail, e) = (next l.middle).ended l.back y l.back_is n in (
        g l.middle ++ out,
        subst (λ (z : List TheToken). Shrinks z (g l.middle ++ out)) (sym l.tokens_are)
            (shrinks_append l.prefix (g l.middle) l.back out (first.covered l.prefix l.middle l.prefix_is m) tail),
        e ∙ append_assoc before (g l.middle) out,
      );
}

means_ends : {A : Type 0} {f : A → List TheToken} {before : List TheToken} (v : A) → f v ≡ before → Ends (Means v) before f
means_ends {f = f} {before = before} v e = record {
  ended = λ a x m sound.
      ([], subst (λ (z : List TheToken). Shrinks z []) (sym m.tokens_are) shrinks_none, ap f m.value_is ∙ e ∙ sym (append-nil before));
}

covers : {A : Type 0} {P : List TheToken → A → Type 0} {f : A → List TheToken} → Ends P [] f → Covers P f
covers {f = f} ends = record {
  covered = λ a x l sound.
      let (out, shrunk, e) = ends.ended a x l sound in
      subst (λ (z : List TheToken). Shrinks a z) (sym e) shrunk;
}

one_covers : {A : Type 0} {read : TheToken → Option A} {f : A → List TheToken}
    → ((s : TheToken) (x : A) → read s ≡ Some x → IsSign (sign_of s) → Shrinks (s ∷ []) (f x)) → Covers (One read) f
one_covers {f = f} reads = record {
  covered = λ a x l sound.
      subst (λ (z : List TheToken). Shrinks z (f x)) (sym l.tokens_are) (reads l.token x l.reads (subst Sound l.tokens_are sound).0);
}

-- Single tokens.

word_sign : (kind : TokenKind) (text word : List ℕ) → word_text kind text word ≡ true → record { kind = kind; text = text } ≡ sign_of (a_word word)
word_sign kinds.Word text word e = ap (λ (z : List ℕ). sign_of (a_word z)) ((bytes_eq-Decides text word).0 e)
word_sign (kinds.Number value) text word e = cc
word_sign kinds.Description text word e = cc
word_sign (kinds.Mark mark) text word e = cc

-- this word
the_word : (word : List ℕ) (s : TheToken) → is_word s word ≡ true → IsSign (sign_of s) → Shrinks (s ∷ []) (a_word word ∷ [])
the_word word s e is = shrinks_same s (a_word word) (word_sign s.kind s.text word e) is

mark_kind : (kind : TokenKind) (mark : Mark) → kind_is_mark kind mark ≡ true → kind ≡ kinds.Mark mark
mark_kind kinds.Word mark e = cc
mark_kind (kinds.Number value) mark e = cc
mark_kind kinds.Description mark e = cc
mark_kind (kinds.Mark found) mark e = ap (λ m. kinds.Mark m) (same_true found mark e)

mark_sign : (mark : Mark) → IsSign (sign_of (a_mark mark))
unfolding class_of mark_class
mark_sign OpenBrace = record { of_kind = (123, refl, refl); fits = tt }
mark_sign CloseBrace = record { of_kind = (125, refl, refl); fits = tt }
mark_sign OpenParen = record { of_kind = (40, refl, refl); fits = tt }
mark_sign CloseParen = record { of_kind = (41, refl, refl); fits = tt }
mark_sign OpenBracket = record { of_kind = (91, refl, refl); fits = tt }
mark_sign CloseBracket = record { of_kind = (93, refl, refl); fits = tt }
mark_sign Comma = record { of_kind = (44, refl, refl); fits = tt }
mark_sign Semicolon = record { of_kind = (59, refl, refl); fits = tt }

-- a mark has one byte
mark_length : (kind : TokenKind) (mark : Mark) (text : List ℕ) → kind ≡ kinds.Mark mark → IsItem (token kind) text → length text ≡ 1
mark_length kind mark text e is =
    let found : IsItem (token (kinds.Mark mark)) text = subst (λ k. IsItem (token k) text) e is in
    ap length found.1

the_mark : (mark : Mark) (s : TheToken) → is_mark s mark ≡ true → IsSign (sign_of s) → Shrinks (s ∷ []) (a_mark mark ∷ [])
the_mark mark s e is =
    let kind : s.kind ≡ kinds.Mark mark = mark_kind s.kind mark e in
    let one : length s.text ≡ 1 = mark_length s.kind mark s.text kind is.of_kind in
    let other : length (mark_text mark) ≡ 1 = ap length (mark_sign mark).of_kind.1 in
    shrinks_kept s (a_mark mark) kind (omega (arith, one, other)) (mark_sign mark)

mark_dropped : (mark : Mark) (s : TheToken) → is_mark s mark ≡ true → IsSign (sign_of s) → Shrinks (s ∷ []) []
mark_dropped mark s e is =
    let one : length s.text ≡ 1 = mark_length s.kind mark s.text (mark_kind s.kind mark e) is.of_kind in
    shrinks_dropped s (omega (arith, one))

mark_covers : (mark : Mark) → Covers (TheMark mark) (λ u. a_mark mark ∷ [])
mark_covers mark = one_covers (λ s x e is. the_mark mark s (so_true (is_mark s mark) tt x e) is)

-- a mark that isn't printed
unprinted : (mark : Mark) → Covers (TheMark mark) (λ u. [])
unprinted mark = one_covers (λ s x e is. mark_dropped mark s (so_true (is_mark s mark) tt x e) is)

the_name : (s : TheToken) (x : TheName) → name_in s ≡ Some x → IsSign (sign_of s) → Shrinks (s ∷ []) (a_name x ∷ [])
the_name s x e is = shrinks_same s (a_name x) (by_kind s.kind s.text s.at x e) is
  where
    by_kind : (kind : TokenKind) (text : List ℕ) (at : ℕ) (x : TheName) → name_in (record { kind = kind; text = text; at = at }) ≡ Some x → record { kind = kind; text = text } ≡ sign_of (a_name x)
    by_kind kinds.Word text at x e =
        let found : record { text = text; at = at } ≡ x = cc in
        ap (λ (z : TheName). sign_of (a_name z)) found
    by_kind (kinds.Number value) text at x e = cc
    by_kind kinds.Description text at x e = cc
    by_kind (kinds.Mark mark) text at x e = cc

name_covers : Covers AName name_tokens
name_covers = one_covers the_name

the_number : (s : TheToken) (x : TheNumber) → number_in s ≡ Some x → IsSign (sign_of s) → Shrinks (s ∷ []) (a_number x ∷ [])
the_number s x e is = by_kind s.kind s.text s.at x e is
  where
    by_kind : (kind : TokenKind) (text : List ℕ) (at : ℕ) (x : TheNumber) → number_in (record { kind = kind; text = text; at = at }) ≡ Some x
        → IsSign (record { kind = kind; text = text }) → Shrinks (record { kind = kind; text = text; at = at } ∷ []) (a_number x ∷ [])
    by_kind kinds.Word text at x e is = absurd cc
    by_kind (kinds.Number value) text at x e is =
        let found : record { value = value; at = at } ≡ x = cc in
        let short = number_is_shortest value text is in
        subst (λ (z : TheNumber). Shrinks (record { kind = kinds.Number value; text = text; at = at } ∷ []) (a_number z ∷ [])) found
        (shrinks_kept (record { kind = kinds.Number value; text = text; at = at }) (a_number (record { value = value; at = at })) refl short.1 short.0)
    by_kind kinds.Description text at x e is = absurd cc
    by_kind (kinds.Mark mark) text at x e is = absurd cc

number_covers : Covers ANumber (λ n. a_number n ∷ [])
number_covers = one_covers the_number

-- Phrases.

optional_covers : {A : Type 0} {P : List TheToken → A → Type 0} {f : A → List TheToken} (g : Option A → List TheToken) → g None ≡ [] → ((x : A) → g (Some x) ≡ f x)
    → Covers P f → Covers (Optional P) g
optional_covers {P = P} g none some phrase = record { covered = by_value }
  where
    by_value : (a : List TheToken) (x : Option _) → Optional P a x → Sound a → Shrinks a (g x)
    by_value a None l sound =
        subst (λ (z : List TheToken). Shrinks a z) (sym none) (subst (λ (z : List TheToken). Shrinks z []) (sym l) shrinks_none)
    by_value a (Some x) l sound = subst (λ (z : List TheToken). Shrinks a z) (sym (some x)) (phrase.covered a x l sound)

many_covers : {A : Type 0} {P : List TheToken → A → Type 0} {f : A → List TheToken} → Covers P f → Covers (Many P) (flat_map f)
many_covers {P = P} {f = f} phrase = record { covered = λ a xs l sound. by_list xs a l sound }
  where
    by_list : (xs : List _) (a : List TheToken) → Many P a xs → Sound a → Shrinks a (flat_map f xs)
    by_list [] a l sound = subst (λ (z : List TheToken). Shrinks z []) (sym l) shrinks_none
    by_list (x ∷ xs) a l sound =
        let (m, n) = sound_cut l.prefix l.back (subst Sound l.tokens_are sound) in
        subst (λ (z : List TheToken). Shrinks z (flat_map f (x ∷ xs))) (sym l.tokens_are)
        (subst (λ (z : List TheToken). Shrinks (l.prefix ++ l.back) z) (sym (flat_map-cons f x xs))
        (shrinks_append l.prefix (f x) l.back (flat_map f xs) (phrase.covered l.prefix x l.prefix_is m) (by_list xs l.back l.back_is n)))

separated_covers : {A : Type 0} {P : List TheToken → A → Type 0} {f : A → List TheToken} → Covers P f → Covers (Separated P) (comma_tokens f)
separated_covers {P = P} {f = f} phrase = record { covered = λ a xs l sound. by_list xs a l sound }
  where
    behind : Covers (TheMark Comma >> P) (λ y. a_mark Comma ∷ f y)
    behind = record {
      covered = λ a x l sound.
          let (m, n) = sound_cut l.prefix l.back (subst Sound l.tokens_are sound) in
          subst (λ (z : List TheToken). Shrinks z (a_mark Comma ∷ f x)) (sym l.tokens_are)
          (shrinks_append l.prefix (a_mark Comma ∷ []) l.back (f x) ((mark_covers Comma).covered l.prefix l.middle l.prefix_is m) (phrase.covered l.back x l.back_is n));
    }

    by_list : (xs : List _) (a : List TheToken) → Separated P a xs → Sound a → Shrinks a (comma_tokens f xs)
    by_list [] a l sound = subst (λ (z : List TheToken). Shrinks z []) (sym l) shrinks_none
    by_list (x ∷ xs) a l sound =
        let (m, n) = sound_cut l.prefix l.back (subst Sound l.tokens_are sound) in
        subst (λ (z : List TheToken). Shrinks z (comma_tokens f (x ∷ xs))) (sym l.tokens_are)
        (shrinks_append l.prefix (f x) l.back (flat_map (λ y. a_mark Comma ∷ f y) xs) (phrase.covered l.prefix x l.prefix_is m) ((many_covers behind).covered l.back xs l.back_is n))

-- One comma stands behind each name but the last, and the one that may stand behind the last isn't printed.
members_shrink : (xs : List TheName) (a : List TheToken) → Members a xs → Sound a → Shrinks a (comma_tokens name_tokens xs)
members_shrink [] a l sound = subst (λ (z : List TheToken). Shrinks z []) (sym l) shrinks_none
members_shrink (x ∷ []) a l sound =
    let (m, n) = sound_cut l.prefix l.back (subst Sound l.tokens_are sound) in
    subst (λ (z : List TheToken). Shrinks z (a_name x ∷ [])) (sym l.tokens_are)
    (shrinks_append l.prefix (a_name x ∷ []) l.back [] (name_covers.covered l.prefix x l.prefix_is m) (behind [] (λ b k. k) l.back l.back_is n))
  where
    behind : (none : List TheName) → ((b : List TheToken) → Members b none → b ≡ []) → (b : List TheToken)
        → ((none ≡ []) × (b ≡ [])) ⊎ Joined (λ comma. TheMark Comma comma tt) (λ rest. Members rest none) b → Sound b → Shrinks b []
    behind none empty b (inl (last, ends)) sound = subst (λ (z : List TheToken). Shrinks z []) (sym ends) shrinks_none
    behind none empty b (inr j) sound =
        let (m, n) = sound_cut j.prefix j.back (subst Sound j.tokens_are sound) in
        subst (λ (z : List TheToken). Shrinks z []) (sym j.tokens_are)
        (shrinks_append j.prefix [] j.back [] ((unprinted Comma).covered j.prefix tt j.prefix_is m)
        (subst (λ (z : List TheToken). Shrinks z []) (sym (empty j.back j.back_is)) shrinks_none))
members_shrink (x ∷ y ∷ ys) a l sound =
    let (m, n) = sound_cut l.prefix l.back (subst Sound l.tokens_are sound) in
    subst (λ (z : List TheToken). Shrinks z (comma_tokens name_tokens (x ∷ y ∷ ys))) (sym l.tokens_are)
    (shrinks_append l.prefix (a_name x ∷ []) l.back (flat_map (λ z. a_mark Comma ∷ name_tokens z) (y ∷ ys)) (name_covers.covered l.prefix x l.prefix_is m)
    (behind (λ b k s. members_shrink (y ∷ ys) b k s) l.back l.back_is n))
  where
    behind : ((b : List TheToken) → Members b (y ∷ ys) → Sound b → Shrinks b (comma_tokens name_tokens (y ∷ ys))) → (b : List TheToken)
        → ((y ∷ ys ≡ []) × (b ≡ [])) ⊎ Joined (λ comma. TheMark Comma comma tt) (λ rest. Members rest (y ∷ ys)) b → Sound b
        → Shrinks b (flat_map (λ z. a_mark Comma ∷ name_tokens z) (y ∷ ys))
    behind others b (inl (last, ends)) sound = absurd (let e : y ∷ ys ≡ [] = last in cc)
    behind others b (inr j) sound =
        let (m, n) = sound_cut j.prefix j.back (subst Sound j.tokens_are sound) in
        subst (λ (z : List TheToken). Shrinks z (flat_map (λ z. a_mark Comma ∷ name_tokens z) (y ∷ ys))) (sym j.tokens_are)
        (subst (λ (z : List TheToken). Shrinks (j.prefix ++ j.back) z) (sym (flat_map-cons (λ z. a_mark Comma ∷ name_tokens z) y ys))
        (shrinks_append j.prefix (a_mark Comma ∷ []) j.back (comma_tokens name_tokens (y ∷ ys)) ((mark_covers Comma).covered j.prefix tt j.prefix_is m) (others j.back j.back_is n)))

members_covers : Covers Members (comma_tokens name_tokens)
members_covers = record { covered = λ a xs l sound. members_shrink xs a l sound }

-- The productions.

abbrev one_count : TheNumber → List TheToken
one_count count = a_mark OpenBracket ∷ a_number count ∷ a_mark CloseBracket ∷ []

count_covers : Covers ACount one_count
count_covers = covers (then_ends (mark_covers OpenBracket) (λ o. then_ends number_covers (λ n. then_ends (mark_covers CloseBracket) (λ c. means_ends n refl))))

maybe_count_covers : Covers (Optional ACount) count_tokens
maybe_count_covers = optional_covers count_tokens refl (λ x. refl) count_covers

field_covers : Covers AField field_tokens
field_covers =
    covers (then_ends name_covers (λ t. then_ends name_covers (λ n. then_ends maybe_count_covers (λ c. then_ends (mark_covers Semicolon) (λ s. means_ends _ refl)))))

bound_covers : Covers (TheMark Comma >> ANumber) (λ n. a_mark Comma ∷ a_number n ∷ [])
bound_covers = record {
  covered = λ a x l sound.
      let (m, n) = sound_cut l.prefix l.back (subst Sound l.tokens_are sound) in
      subst (λ (z : List TheToken). Shrinks z (a_mark Comma ∷ a_number x ∷ [])) (sym l.tokens_are)
      (shrinks_append l.prefix (a_mark Comma ∷ []) l.back (a_number x ∷ []) ((mark_covers Comma).covered l.prefix l.middle l.prefix_is m) (number_covers.covered l.back x l.back_is n));
}

abbrev inside_tokens : Inside → List TheToken
inside_tokens (bound_word bound) = a_number bound ∷ []
inside_tokens (length_word length) = a_name length ∷ []

inside_covers : (type_name : TheName) → Covers (One (inside_in type_name)) inside_tokens
inside_covers type_name = one_covers (λ s x e is. by_kind s.kind s.text s.at x e is)
  where
    by_test : (b : Bool) (value : ℕ) (text : List ℕ) (at : ℕ) (x : Inside) → if_so b (bound_word (record { value = value; at = at })) ≡ Some x
        → IsSign (record { kind = kinds.Number value; text = text }) → Shrinks (record { kind = kinds.Number value; text = text; at = at } ∷ []) (inside_tokens x)
    by_test true value text at x e is =
        let found : bound_word (record { value = value; at = at }) ≡ x = cc in
        subst (λ (z : Inside). Shrinks (record { kind = kinds.Number value; text = text; at = at } ∷ []) (inside_tokens z)) found
        (the_number (record { kind = kinds.Number value; text = text; at = at }) (record { value = value; at = at }) refl is)
    by_test false value text at x e is = absurd cc

    by_kind : (kind : TokenKind) (text : List ℕ) (at : ℕ) (x : Inside) → inside_in type_name (record { kind = kind; text = text; at = at }) ≡ Some x
        → IsSign (record { kind = kind; text = text }) → Shrinks (record { kind = kind; text = text; at = at } ∷ []) (inside_tokens x)
    by_kind kinds.Word text at x e is =
        let found : length_word (record { text = text; at = at }) ≡ x = cc in
        subst (λ (z : Inside). Shrinks (record { kind = kinds.Word; text = text; at = at } ∷ []) (inside_tokens z)) found
        (the_name (record { kind = kinds.Word; text = text; at = at }) (record { text = text; at = at }) refl is)
    by_kind (kinds.Number value) text at x e is = by_test (is_string type_name) value text at x e is
    by_kind kinds.Description text at x e is = absurd cc
    by_kind (kinds.Mark mark) text at x e is = absurd cc

in_brackets_ends : (inside : Inside) → Ends (InBrackets inside) (a_mark OpenBracket ∷ inside_tokens inside) shape_tokens
in_brackets_ends (bound_word bound) = then_ends (mark_covers CloseBracket) (λ c. means_ends (bounded bound) refl)
in_brackets_ends (length_word length) =
    then_ends (optional_covers bound_tokens refl (λ x. refl) bound_covers) (λ b. then_ends (mark_covers CloseBracket) (λ c. means_ends (sized length b) refl))

bracket_covers : (type_name : TheName) → Covers (ABracket type_name) shape_tokens
bracket_covers type_name = covers (then_ends (mark_covers OpenBracket) (λ o. then_ends (inside_covers type_name) in_brackets_ends))

shape_covers : (type_name : TheName) → Covers (AShape type_name) shape_tokens
shape_covers type_name = record { covered = by_case }
  where
    by_case : (a : List TheToken) (x : TheShape) → AShape type_name a x → Sound a → Shrinks a (shape_tokens x)
    by_case a x (inl m) sound =
        subst (λ (z : TheShape). Shrinks a (shape_tokens z)) (sym m.value_is) (subst (λ (z : List TheToken). Shrinks z []) (sym m.tokens_are) shrinks_none)
    by_case a x (inr l) sound = (bracket_covers type_name).covered a x l sound

argument_covers : Covers AnArgument argument_tokens
argument_covers = covers (then_ends name_covers (λ t. then_ends name_covers (λ n. then_ends (shape_covers t) (λ s. means_ends _ refl))))

directed_covers : Covers ADirected directed_tokens
directed_covers = covers (then_ends direction_covers (λ d. then_ends argument_covers (λ a. means_ends _ refl)))
  where
    by_tests : (b c : Bool) (s : TheToken) (x : Direction) → is_word s (codes "in") ≡ b → is_word s (codes "out") ≡ c
        → (if b then Some directions.In else if c then Some directions.Out else None) ≡ Some x → IsSign (sign_of s)
        → Shrinks (s ∷ []) (a_word (direction_text x) ∷ [])
    by_tests true c s x p q e is =
        let same : directions.In ≡ x = cc in
        subst (λ (z : Direction). Shrinks (s ∷ []) (a_word (direction_text z) ∷ [])) same (the_word (codes "in") s p is)
    by_tests false true s x p q e is =
        let same : directions.Out ≡ x = cc in
        subst (λ (z : Direction). Shrinks (s ∷ []) (a_word (direction_text z) ∷ [])) same (the_word (codes "out") s q is)
    by_tests false false s x p q e is = absurd cc

    direction_covers : Covers (One direction_in) (λ d. a_word (direction_text d) ∷ [])
    direction_covers = one_covers (λ s x e is. by_tests (is_word s (codes "in")) (is_word s (codes "out")) s x refl refl e is)

-- Declarations.

abbrev defined_tokens : Defined → List TheToken
defined_tokens enum_word = a_word (codes "enum") ∷ []
defined_tokens struct_word = a_word (codes "struct") ∷ []
defined_tokens (type_word old) = a_name old ∷ []

defined_tests : (b c : Bool) (s : TheToken) (x : Defined) → is_word s (codes "enum") ≡ b → is_word s (codes "struct") ≡ c
    → (if b then Some enum_word else if c then Some struct_word else option_map type_word (name_in s)) ≡ Some x → IsSign (sign_of s)
    → Shrinks (s ∷ []) (defined_tokens x)
defined_tests true c s x p q e is =
    let same : enum_word ≡ x = cc in
    subst (λ (z : Defined). Shrinks (s ∷ []) (defined_tokens z)) same (the_word (codes "enum") s p is)
defined_tests false true s x p q e is =
    let same : struct_word ≡ x = cc in
    subst (λ (z : Defined). Shrinks (s ∷ []) (defined_tokens z)) same (the_word (codes "struct") s q is)
defined_tests false false s x p q e is = by_name (name_in s) refl e
  where
    by_name : (name : Option TheName) → name_in s ≡ name → option_map type_word name ≡ Some x → Shrinks (s ∷ []) (defined_tokens x)
    by_name (Some name) found e =
        let same : type_word name ≡ x = cc in
        subst (λ (z : Defined). Shrinks (s ∷ []) (defined_tokens z)) same (the_name s name found is)
    by_name None found e = absurd cc

defined_covers : Covers (One defined_in) defined_tokens
defined_covers = one_covers (λ s x e is. defined_tests (is_word s (codes "enum")) (is_word s (codes "struct")) s x refl refl e is)

definition_ends : (defined : Defined) → Ends (Definition defined) (a_word (codes "typedef") ∷ defined_tokens defined) declaration_tokens
definition_ends enum_word =
    then_ends (mark_covers OpenBrace) (λ o. then_ends members_covers (λ xs. then_ends (mark_covers CloseBrace) (λ c. then_ends name_covers (λ n.
    then_ends (mark_covers Semicolon) (λ s. means_ends _ (simp append_assoc))))))
definition_ends struct_word =
    then_ends (mark_covers OpenBrace) (λ o. then_ends (many_covers field_covers) (λ xs. then_ends (mark_covers CloseBrace) (λ c. then_ends name_covers (λ n.
    then_ends (mark_covers Semicolon) (λ s. means_ends _ (simp append_assoc))))))
definition_ends (type_word old) =
    then_ends name_covers (λ n. then_ends maybe_count_covers (λ c. then_ends (mark_covers Semicolon) (λ s. means_ends _ refl)))

abbrev opening_tokens : Opening → List TheToken
opening_tokens alias_word = a_word (codes "alias") ∷ []
opening_tokens typedef_word = a_word (codes "typedef") ∷ []
opening_tokens (message_word kind) = a_word (kind_text kind) ∷ []
opening_tokens rpc_word = a_word (codes "rpc") ∷ []

-- the word that a test passed
by_word : (s : TheToken) (word : List ℕ) (opening x : Opening) → opening_tokens opening ≡ a_word word ∷ [] → is_word s word ≡ true → Some opening ≡ Some x → IsSign (sign_of s)
    → Shrinks (s ∷ []) (opening_tokens x)
by_word s word opening x text passes e is =
    let same : opening ≡ x = cc in
    subst (λ (z : Opening). Shrinks (s ∷ []) (opening_tokens z)) same
    (subst (λ (z : List TheToken). Shrinks (s ∷ []) z) (sym text) (the_word word s passes is))

opening_tests : (a b c d e f : Bool) (s : TheToken) (x : Opening)
    → is_word s (codes "alias") ≡ a → is_word s (codes "typedef") ≡ b → is_word s (codes "message") ≡ c
    → is_word s (codes "call") ≡ d → is_word s (codes "response") ≡ e → is_word s (codes "rpc") ≡ f
    → (if a then Some alias_word else if b then Some typedef_word else if c then Some (message_word messages.Message)
    else if d then Some (message_word messages.Call) else if e then Some (message_word messages.Response) else if f then Some rpc_word else None) ≡ Some x
    → IsSign (sign_of s) → Shrinks (s ∷ []) (opening_tokens x)
opening_tests true b c d e f s x p q r t u v h is = by_word s (codes "alias") alias_word x refl p h is
opening_tests false true c d e f s x p q r t u v h is = by_word s (codes "typedef") typedef_word x refl q h is
opening_tests false false true d e f s x p q r t u v h is = by_word s (codes "message") (message_word messages.Message) x refl r h is
opening_tests false false false true e f s x p q r t u v h is = by_word s (codes "call") (message_word messages.Call) x refl t h is
opening_tests false false false false true f s x p q r t u v h is = by_word s (codes "response") (message_word messages.Response) x refl u h is
opening_tests false false false false false true s x p q r t u v h is = by_word s (codes "rpc") rpc_word x refl v h is
opening_tests false false false false false false s x p q r t u v h is = absurd cc

opening_covers : Covers (One opening_in) opening_tokens
opening_covers = one_covers (λ s x e is.
    opening_tests (is_word s (codes "alias")) (is_word s (codes "typedef")) (is_word s (codes "message")) (is_word s (codes "call")) (is_word s (codes "response")) (is_word s (codes "rpc"))
    s x refl refl refl refl refl refl e is)

production_ends : (opening : Opening) → Ends (Production opening) (opening_tokens opening) declaration_tokens
production_ends alias_word = then_ends name_covers (λ n. then_ends name_covers (λ o. then_ends (mark_covers Semicolon) (λ s. means_ends _ refl)))
production_ends typedef_word = then_ends defined_covers definition_ends
production_ends (message_word kind) =
    then_ends name_covers (λ n. then_ends (mark_covers OpenParen) (λ o. then_ends (separated_covers argument_covers) (λ xs.
    then_ends (mark_covers CloseParen) (λ c. then_ends (mark_covers Semicolon) (λ s. means_ends _ (simp append_assoc))))))
production_ends rpc_word =
    then_ends name_covers (λ n. then_ends (mark_covers OpenParen) (λ o. then_ends (separated_covers directed_covers) (λ xs.
    then_ends (mark_covers CloseParen) (λ c. then_ends (mark_covers Semicolon) (λ s. means_ends _ (simp append_assoc))))))

declaration_covers : Covers ADeclaration declaration_tokens
declaration_covers = covers (then_ends opening_covers production_ends)

-- The interface.

description_covers : Covers ADescription (λ text. a_description text ∷ [])
description_covers = one_covers (λ s x e is. shrinks_same s (a_description x) (by_kind s.kind s.text x e) is)
  where
    by_kind : (kind : TokenKind) (text x : List ℕ) → description_from kind text ≡ Some x → record { kind = kind; text = text } ≡ sign_of (a_description x)
    by_kind kinds.Word text x e = cc
    by_kind (kinds.Number value) text x e = cc
    by_kind kinds.Description text x e =
        let found : text ≡ x = cc in
        ap (λ (z : List ℕ). sign_of (a_description z)) found
    by_kind (kinds.Mark mark) text x e = cc

interface_covers : Covers (Word (codes "interface")) (λ u. a_word (codes "interface") ∷ [])
interface_covers = one_covers (λ s x e is. the_word (codes "interface") s (so_true (is_word s (codes "interface")) tt x e) is)

body_covers : Covers Body tokens_of_tree
body_covers =
    covers (then_ends interface_covers (λ i. then_ends name_covers (λ n.
    then_ends (optional_covers description_tokens refl (λ x. refl) description_covers) (λ d. then_ends (mark_covers OpenBrace) (λ o.
    then_ends (many_covers declaration_covers) (λ xs. then_ends (mark_covers CloseBrace) (λ c. means_ends _ (simp append_assoc))))))))

semicolon_covers : Covers (Optional (TheMark Semicolon)) (λ s. [])
semicolon_covers = optional_covers (λ s. []) refl (λ x. refl) (unprinted Semicolon)

derives_covers : Covers Derives tokens_of_tree
derives_covers = covers (then_ends body_covers (λ tree. then_ends semicolon_covers (λ s. means_ends tree (sym (append-nil (tokens_of_tree tree))))))

-- the tokens that a tree is printed as are sound, and no longer than any that are written for it
pub derives_shrinks : (a : List TheToken) (tree : TheTree) → Derives a tree → AllByRecursion IsSign (map sign_of a)
    → AllByRecursion IsSign (map sign_of (tokens_of_tree tree)) × (length (joined (map sign_of (tokens_of_tree tree))) ≤ length (joined (map sign_of a)))
derives_shrinks a tree l sound =
    let shrunk : Shrinks a (tokens_of_tree tree) = derives_covers.covered a tree l sound in
    let whole : size closed (tokens_of_tree tree ++ []) ≤ size closed (a ++ []) = shrunk.shorter [] [] (λ edge. omega arith) closed in (
      shrunk.sound,
      subst (λ (z : List TheToken). size closed z ≤ size closed a) (append-nil (tokens_of_tree tree))
          (subst (λ (z : List TheToken). size closed (tokens_of_tree tree ++ []) ≤ size closed z) (append-nil a) whole),
    )
