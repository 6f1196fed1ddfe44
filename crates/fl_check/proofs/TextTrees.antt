-- What the grammar says of the names of a text's tree, and of how many enumerators an enum has.
use Rattle.std.proofs.Common.{◌≡◌, ℕ, ◌≤◌, true, List, [], ◌∷◌, ◌++◌, length, length-append, Option, Some, sym, ap, subst, arith, inl, inr, ◌⊎◌}
use Rattle.std.specs.List.{AllByRecursion}
use Rattle.fl_lex.specs.Spelling.{token, IsItem}
use Rattle.fl_lex.specs.Token.{TheToken, TheTokens}
use Rattle.fl_lex.specs.Outcome.{Fits, KindFits, IsLexed, IsTokenIn}
use Rattle.fl_lex.specs.declared.token.Mark.TheVariants.{Comma}
use Rattle.fl_lex.specs.declared.token.TokenKind.{TokenKind}
use Rattle.fl_lex.specs.declared.token.TokenKind.TheVariants as kinds
use Rattle.fl_lex.proofs.Turns.{tokens_in}
use Rattle.fl_lex.proofs.Names.{name_of_word}
use Rattle.fl_parse.specs.Tree.{TheName, TheDeclaration, alias_of, typedef_of, enum_of, struct_of, message_of, rpc_of, TheTree}
use Rattle.fl_parse.specs.Grammar.{One, Then, Joined, Many, TheMark, AName, Members, Defined, enum_word, struct_word, type_word, Definition, Opening, alias_word, typedef_word, message_word, rpc_word, Production, ADeclaration, Body, Derives, name_from}
use Rattle.fl_lex.specs.Words.{is_name}

-- a token is one of its kind, within the limits
abbrev pub IsRight : TheToken → Type 0
IsRight t = IsItem (token t.kind) t.text × Fits t

-- at most so many such tokens
record Right (most : ℕ) (tokens : List TheToken) : Type 0 where
  each : AllByRecursion IsRight tokens
  few : length tokens ≤ most

right_cut : (a b : List TheToken) → AllByRecursion IsRight (a ++ b) → AllByRecursion IsRight a × AllByRecursion IsRight b
right_cut [] b m = (tt, m)
right_cut (t ∷ a) b m = let (f, g) = right_cut a b m.1 in ((m.0, f), g)

prefix_right : (most : ℕ) (tokens a b : List TheToken) → tokens ≡ a ++ b → Right most tokens → Right most a
prefix_right most tokens a b e r = record {
  each = (right_cut a b (subst (AllByRecursion IsRight) e r.each)).0;
  few = omega (arith, r.few, ap length e, length-append a b);
}

back_right : (most : ℕ) (tokens a b : List TheToken) → tokens ≡ a ++ b → Right most tokens → Right most b
back_right most tokens a b e r = record {
  each = (right_cut a b (subst (AllByRecursion IsRight) e r.each)).1;
  few = omega (arith, r.few, ap length e, length-append a b);
}

behind : {A B : Type 0} {first : List TheToken → A → Type 0} {next : A → List TheToken → B → Type 0} {tokens : List TheToken} {y : B} (most : ℕ) (p : Then first next tokens y) → Right most tokens → Right most p.back
behind {tokens = tokens} most p r = back_right most tokens p.prefix p.back p.tokens_are r

before : {A B : Type 0} {first : List TheToken → A → Type 0} {next : A → List TheToken → B → Type 0} {tokens : List TheToken} {y : B} (most : ℕ) (p : Then first next tokens y) → Right most tokens → Right most p.prefix
before {tokens = tokens} most p r = prefix_right most tokens p.prefix p.back p.tokens_are r

-- behind one token there is one less
behind_one : {A B : Type 0} {read : TheToken → Option A} {next : A → List TheToken → B → Type 0} {tokens : List TheToken} {y : B} (p : Then (One read) next tokens y) → Right 65536 tokens → Right 65535 p.back
behind_one {tokens = tokens} p r = record {
  each = (behind 65536 p r).each;
  few = omega (arith, r.few, ap length p.tokens_are, length-append p.prefix p.back, ap length p.prefix_is.tokens_are);
}

-- ---- names

abbrev some_name : TheName → Option TheName
some_name x = Some x

same_name : (x y : TheName) → some_name x ≡ some_name y → x ≡ y
same_name x y e = cc

name_read : (kind : TokenKind) (text : List ℕ) (at : ℕ) (x : TheName) → name_from kind text at ≡ Some x → IsItem (token kind) text → KindFits kind text → is_name x.text ≡ true
name_read kinds.Word text at x e is fits =
    subst (λ (y : TheName). is_name y.text ≡ true) (same_name (record { text = text; at = at }) x e) (name_of_word text is fits)
name_read (kinds.Number value) text at x e is fits = absurd cc
name_read kinds.Description text at x e is fits = absurd cc
name_read (kinds.Mark mark) text at x e is fits = absurd cc

name_right : (most : ℕ) (tokens : List TheToken) (x : TheName) → Right most tokens → AName tokens x → is_name x.text ≡ true
name_right most tokens x r p =
    let it = (subst (AllByRecursion IsRight) p.tokens_are r.each).0 in
    name_read p.token.kind p.token.text p.token.at x p.reads it.0 it.1

-- ---- enumerators: each takes a token

behind_name : (back : List TheToken) (xs : List TheName) → ((ts : List TheToken) → Members ts xs → length xs ≤ length ts)
    → (((xs ≡ []) × (back ≡ [])) ⊎ Joined (λ comma. TheMark Comma comma tt) (λ rest. Members rest xs) back) → length xs ≤ length back
behind_name back xs h (inl q) = omega (arith, ap length q.0)
behind_name back xs h (inr q) = omega (arith, h q.back q.back_is, ap length q.tokens_are, length-append q.prefix q.back)

members_few : (tokens : List TheToken) (names : List TheName) → Members tokens names → length names ≤ length tokens
members_few tokens [] p = omega arith
members_few tokens (x ∷ xs) p =
    let rest = behind_name p.back xs (λ ts m. members_few ts xs m) p.back_is in
    omega (arith, rest, ap length p.tokens_are, length-append p.prefix p.back, ap length p.prefix_is.tokens_are)

-- ---- declarations

-- a message's name is a name, and an enum's enumerators are fewer than a text has tokens
abbrev pub IsSmall : TheDeclaration → Type 0
IsSmall (alias_of new old) = Unit {0}
IsSmall (typedef_of old new count) = Unit {0}
IsSmall (enum_of members name) = length members ≤ 65535
IsSmall (struct_of fields name) = Unit {0}
IsSmall (message_of kind name args) = is_name name.text ≡ true
IsSmall (rpc_of name args) = is_name name.text ≡ true

small_as : (d e : TheDeclaration) → e ≡ d → IsSmall d → IsSmall e
small_as d e same h = subst IsSmall (sym same) h

definition_small : (defined : Defined) (tokens : List TheToken) (d : TheDeclaration) → Right 65535 tokens → Definition defined tokens d → IsSmall d
definition_small enum_word tokens d r p =
    let few = members_few p.back_is.prefix p.back_is.middle p.back_is.prefix_is in
    let room = before 65535 p.back_is (behind 65535 p r) in
    small_as _ d p.back_is.back_is.back_is.back_is.back_is.value_is (omega (arith, few, room.few))
definition_small struct_word tokens d r p = small_as _ d p.back_is.back_is.back_is.back_is.back_is.value_is tt
definition_small (type_word old) tokens d r p = small_as _ d p.back_is.back_is.back_is.value_is tt

production_small : (opening : Opening) (tokens : List TheToken) (d : TheDeclaration) → Right 65535 tokens → Production opening tokens d → IsSmall d
production_small alias_word tokens d r p = small_as _ d p.back_is.back_is.back_is.value_is tt
production_small typedef_word tokens d r p = definition_small p.middle p.back d (behind 65535 p r) p.back_is
production_small (message_word kind) tokens d r p =
    small_as _ d p.back_is.back_is.back_is.back_is.back_is.value_is (name_right 65535 p.prefix p.middle (before 65535 p r) p.prefix_is)
production_small rpc_word tokens d r p =
    small_as _ d p.back_is.back_is.back_is.back_is.back_is.value_is (name_right 65535 p.prefix p.middle (before 65535 p r) p.prefix_is)

declarations_small : (tokens : List TheToken) (ds : List TheDeclaration) → Right 65536 tokens → Many ADeclaration tokens ds → AllByRecursion IsSmall ds
declarations_small tokens [] r p = tt
declarations_small tokens (d ∷ ds) r p =
    let here = prefix_right 65536 tokens p.prefix p.back p.tokens_are r in
    let more = back_right 65536 tokens p.prefix p.back p.tokens_are r in (
      production_small p.prefix_is.middle p.prefix_is.back d (behind_one p.prefix_is here) p.prefix_is.back_is,
      declarations_small p.back ds more p.back_is,
    )

-- ---- trees

-- the names of an interface and of its messages are names, and its enums have at most 65,535 enumerators
pub record IsSmallTree (tree : TheTree) : Type 0 where
  pub name : is_name tree.name.text ≡ true
  pub declarations : AllByRecursion IsSmall tree.declarations

body_small : (tokens : List TheToken) (tree : TheTree) → Right 65536 tokens → Body tokens tree → IsSmallTree tree
body_small tokens tree r p =
    let q = p.back_is in
    let after_name = behind 65536 p r in
    let d = q.back_is.back_is.back_is in
    let at_declarations = before 65536 d (behind 65536 q.back_is.back_is (behind 65536 q.back_is (behind 65536 q after_name))) in
    subst IsSmallTree (sym d.back_is.back_is.value_is) record {
      name = name_right 65536 q.prefix q.middle (before 65536 q after_name) q.prefix_is;
      declarations = declarations_small d.prefix d.middle at_declarations d.prefix_is;
    }

tree_small : (tokens : List TheToken) (tree : TheTree) → Right 65536 tokens → Derives tokens tree → IsSmallTree tree
tree_small tokens tree r p =
    subst IsSmallTree (sym p.back_is.back_is.value_is) (body_small p.prefix p.middle (before 65536 p r) p.prefix_is)

-- so is every text's tree
pub text_is_small : (text : List ℕ) (tokens : TheTokens) (tree : TheTree) → IsLexed text tokens → Derives tokens.tokens tree → IsSmallTree tree
text_is_small text tokens tree l p =
    let a = tokens_in text tokens l in
    tree_small tokens.tokens tree (record { each = together tokens.tokens a.each a.fits; few = omega (arith, a.few, a.short) }) p
  where
    together : (ts : List TheToken) → AllByRecursion (IsTokenIn text) ts → AllByRecursion Fits ts → AllByRecursion IsRight ts
    together [] f g = tt
    together (t ∷ ts) f g = ((f.0.of_kind, g.0), together ts f.1 g.1)
