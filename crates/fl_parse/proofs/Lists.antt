-- Reading lists with commas, and the tests of single tokens.
use Rattle.std.proofs.Common.{◌≡◌, ℕ, zero, suc, ◌≤◌, ◌<◌, Bool, true, false, List, [], ◌∷◌, ◌++◌, length, Option, Some, Ok, refl, sym, ◌∙◌, ap, subst, arith, inl, inr, ◌⊎◌, if◌then◌else◌, append_assoc}
use Rattle.fl_lex.specs.declared.token.Mark.{Mark}
use Rattle.fl_lex.specs.declared.token.Mark.TheVariants.{OpenBrace, CloseBrace, OpenParen, CloseParen, OpenBracket, CloseBracket, Comma, Semicolon}
use Rattle.fl_lex.specs.declared.token.TokenKind.{TokenKind}
use Rattle.fl_lex.specs.declared.token.TokenKind.TheVariants as kinds
use Rattle.fl_lex.specs.Token.{TheToken}
use Rattle.fl_parse.specs.Tree.{TheName}
use Rattle.fl_parse.specs.Grammar.{One, Means, Then, ◌>>◌, Joined, Many, TheMark, AName, Members, Separated, is_mark, kind_is_mark, same_mark, if_so, name_in, name_from}
use Rattle.fl_parse.specs.Reading.{Read, ◌>>=◌, begins, one_at, mark_at, many_at, behind_comma, separated_at, members_at}
use Rattle.fl_parse.proofs.Laws.{SameFirst, Answers, Reads, Any, same_begins, one_reads, then_answers, then_any, means_answers}
use Rattle.fl_parse.proofs.Choices.{Starts, starts_begins, starts_append, narrowed, OneMore, listed_to, listed_from, one_more, many_reads, many_follow, shorter, after_nothing, clash}

-- Single tokens.

-- a token that is some mark
pub mark_token : Mark → TheToken
mark_token mark = record { kind = kinds.Mark mark; text = []; at = 0 }

same_mark_refl : (mark : Mark) → same_mark mark mark ≡ true
same_mark_refl OpenBrace = refl
same_mark_refl CloseBrace = refl
same_mark_refl OpenParen = refl
same_mark_refl CloseParen = refl
same_mark_refl OpenBracket = refl
same_mark_refl CloseBracket = refl
same_mark_refl Comma = refl
same_mark_refl Semicolon = refl

pub mark_reads : (mark : Mark) → Reads (TheMark mark) Any (mark_at mark)
unfolding mark_token
mark_reads mark = one_reads (λ token. if_so (is_mark token mark) tt) (mark_token mark) tt (ap (λ b. if_so b tt) (same_mark_refl mark))

-- a test that passed
pub so_true : {A : Type 0} (b : Bool) (x y : A) → if_so b x ≡ Some y → b ≡ true
so_true true x y e = refl
so_true false x y e = cc

-- a mark that passes the test of another is it
pub same_true : (a b : Mark) → same_mark a b ≡ true → a ≡ b
same_true OpenBrace OpenBrace h = refl
same_true CloseBrace CloseBrace h = refl
same_true OpenParen OpenParen h = refl
same_true CloseParen CloseParen h = refl
same_true OpenBracket OpenBracket h = refl
same_true CloseBracket CloseBracket h = refl
same_true Comma Comma h = refl
same_true Semicolon Semicolon h = refl
same_true a b h = cc

pub kind_mark_true : (kind : TokenKind) (mark other : Mark) (answer : Bool) → same_mark mark other ≡ answer → kind_is_mark kind mark ≡ true → kind_is_mark kind other ≡ answer
kind_mark_true kinds.Word mark other answer e h = cc
kind_mark_true (kinds.Number value) mark other answer e h = cc
kind_mark_true kinds.Description mark other answer e h = cc
kind_mark_true (kinds.Mark found) mark other answer e h = ap (λ m. same_mark m other) (same_true found mark h) ∙ e

-- a mark begins with itself, and with no other
pub mark_starts : (mark other : Mark) (answer : Bool) → same_mark mark other ≡ answer
    → (a : List TheToken) (x : Unit {0}) → TheMark mark a x → Starts (λ token. is_mark token other) answer a
mark_starts mark other answer e a x l =
    subst (λ (z : List TheToken). Starts (λ token. is_mark token other) answer z) (sym l.tokens_are)
    (kind_mark_true l.token.kind mark other answer e (so_true (is_mark l.token mark) tt x l.reads))

-- what begins with one mark does not begin with another
pub begins_other : (mark other : Mark) → same_mark mark other ≡ false → (b : List TheToken)
    → begins (λ token. is_mark token mark) b ≡ true → begins (λ token. is_mark token other) b ≡ false
begins_other mark other e [] h = cc
begins_other mark other e (t ∷ b) h = kind_mark_true t.kind mark other false e h

pub then_starts : {A B : Type 0} {L : List TheToken → A → Type 0} {M : A → List TheToken → B → Type 0} (test : TheToken → Bool) (answer : Bool)
    → ((a : List TheToken) (x : A) → L a x → Starts test answer a)
    → (a : List TheToken) (y : B) → Then L M a y → Starts test answer a
then_starts test answer first a y l =
    subst (λ (z : List TheToken). Starts test answer z) (sym l.tokens_are) (starts_append test answer l.prefix l.back (first l.prefix l.middle l.prefix_is))

-- Phrases with commas between them.

separated_to : {A : Type 0} (P : List TheToken → A → Type 0) (a : List TheToken) (y : List A) → OneMore P (Many (TheMark Comma >> P)) a y → Separated P a y
separated_to P a y l =
    let (x, (xs, (e, j))) = listed_to P (Many (TheMark Comma >> P)) a y l in
    subst (λ z. Separated P a z) (sym e) j

separated_from : {A : Type 0} (P : List TheToken → A → Type 0) (ends : TheToken → Bool) (tokens : List TheToken) → begins ends tokens ≡ false
    → (a b : List TheToken) (y : List A) → SameFirst tokens (a ++ b) → Separated P a y → begins ends b ≡ true → OneMore P (Many (TheMark Comma >> P)) a y
separated_from P ends tokens fails a b [] s l passes =
    let same : begins ends tokens ≡ begins ends b = same_begins ends tokens b (subst (λ (z : List TheToken). SameFirst tokens z) (after_nothing a b l) s) in
    absurd (let e : true ≡ false = sym passes ∙ sym same ∙ fails in cc)
separated_from P ends tokens fails a b (x ∷ xs) s l passes = listed_from P (Many (TheMark Comma >> P)) a x xs l

nothing_to : {A : Type 0} (P : List TheToken → A → Type 0) (a : List TheToken) (y : List A) → Means [] a y → Separated P a y
nothing_to P a [] l = l.tokens_are
nothing_to P a (x ∷ xs) l = let e : x ∷ xs ≡ [] = l.value_is in cc

nothing_from : {A : Type 0} (P : List TheToken → A → Type 0) (ends : TheToken → Bool) (tokens : List TheToken) → begins ends tokens ≡ true
    → ((a : List TheToken) (x : A) → P a x → Starts ends false a)
    → (a b : List TheToken) (y : List A) → SameFirst tokens (a ++ b) → Separated P a y → begins ends b ≡ true → Means [] a y
nothing_from P ends tokens passes starts a b [] s l f = record { tokens_are = l; value_is = refl }
nothing_from P ends tokens passes starts a b (x ∷ xs) s l f =
    let same : begins ends tokens ≡ begins ends (a ++ b) = same_begins ends tokens (a ++ b) s in
    let here : begins ends (l.prefix ++ (l.back ++ b)) ≡ false = starts_begins ends false l.prefix (l.back ++ b) (starts l.prefix x l.prefix_is) in
    let there : a ++ b ≡ l.prefix ++ (l.back ++ b) = ap (λ (z : List TheToken). z ++ b) l.tokens_are ∙ append_assoc l.prefix l.back b in
    let fails : begins ends (a ++ b) ≡ false = ap (begins ends) there ∙ here in
    cc

pub behind_comma_reads : {A : Type 0} {P : List TheToken → A → Type 0} {F : List TheToken → Type 0} {p : List TheToken → Read A}
    → Reads P F p → Reads (TheMark Comma >> P) F (behind_comma p)
behind_comma_reads reads = then_any (mark_reads Comma) (λ x. reads)

separated_answers : {A : Type 0} (P : List TheToken → A → Type 0) (F : List TheToken → Type 0) (p : List TheToken → Read A) (ends : Mark) (tokens : List TheToken) (test : Bool)
    → same_mark Comma ends ≡ false
    → Reads P F p → ((a : List TheToken) (x : A) → P a x → Starts (λ token. is_mark token ends) false a)
    → ((b : List TheToken) → begins (λ token. is_mark token Comma) b ≡ true → F b) → ((b : List TheToken) → begins (λ token. is_mark token ends) b ≡ true → F b)
    → begins (λ token. is_mark token ends) tokens ≡ test
    → Answers (Separated P) (λ b. begins (λ token. is_mark token ends) b ≡ true) tokens
    (if test then Ok ([], tokens) else (p tokens >>= λ q. many_at (λ token. is_mark token ends) (behind_comma p) (length q.1) q.1 >>= λ r. Ok (q.0 ∷ r.0, r.1)))
separated_answers P F p ends tokens true differ reads starts comma last e =
    narrowed (Means []) (Separated P) (λ b. begins (λ token. is_mark token ends) b ≡ true) tokens (Ok ([], tokens)) (nothing_to P)
    (nothing_from P (λ token. is_mark token ends) tokens e starts)
    (means_answers [] (λ b. begins (λ token. is_mark token ends) b ≡ true) tokens)
separated_answers {A} P F p ends tokens false differ reads starts comma last e =
    let again : (a : List TheToken) (x : A) (b : List TheToken) → (TheMark Comma >> P) a x → F (a ++ b) =
    λ a x b l. comma (a ++ b) (starts_begins (λ token. is_mark token Comma) true a b (then_starts (λ token. is_mark token Comma) true (mark_starts Comma Comma true refl) a x l)) in
    let others = many_reads (λ token. is_mark token ends) (behind_comma_reads reads) (then_starts (λ token. is_mark token ends) false (mark_starts Comma ends false differ)) again last in
    narrowed (OneMore P (Many (TheMark Comma >> P))) (Separated P) (λ b. begins (λ token. is_mark token ends) b ≡ true) tokens _ (separated_to P)
    (separated_from P (λ token. is_mark token ends) tokens e)
    (one_more P (Many (TheMark Comma >> P)) F (λ b. begins (λ token. is_mark token ends) b ≡ true) tokens (p tokens)
    (λ rest. many_at (λ token. is_mark token ends) (behind_comma p) (length rest) rest) (reads.answers tokens)
    (λ x rest j. others.answers rest) refl
    (λ a b xs l f. many_follow (TheMark Comma >> P) F (λ token. is_mark token ends) again last a b xs l f))

pub separated_reads : {A : Type 0} {P : List TheToken → A → Type 0} {F : List TheToken → Type 0} {p : List TheToken → Read A} (ends : Mark)
    → same_mark Comma ends ≡ false
    → Reads P F p → ((a : List TheToken) (x : A) → P a x → Starts (λ token. is_mark token ends) false a)
    → ((b : List TheToken) → begins (λ token. is_mark token Comma) b ≡ true → F b) → ((b : List TheToken) → begins (λ token. is_mark token ends) b ≡ true → F b)
    → Reads (Separated P) (λ b. begins (λ token. is_mark token ends) b ≡ true) (separated_at (λ token. is_mark token ends) p)
separated_reads {P = P} {F = F} {p = p} ends differ reads starts comma last =
    record {
      example = record { tokens = []; value = []; is = refl };
      answers = λ tokens. separated_answers P F p ends tokens (begins (λ token. is_mark token ends) tokens) differ reads starts comma last refl;
    }

-- The names of an enum.

pub one_starts : {A : Type 0} {read : TheToken → Option A} (test : TheToken → Bool) (answer : Bool)
    → ((t : TheToken) (x : A) → read t ≡ Some x → test t ≡ answer)
    → (a : List TheToken) (x : A) → One read a x → Starts test answer a
one_starts test answer each a x l = subst (λ (z : List TheToken). Starts test answer z) (sym l.tokens_are) (each l.token x l.reads)

name_kind : (kind : TokenKind) (text : List ℕ) (at : ℕ) (x : TheName) (mark : Mark) → name_from kind text at ≡ Some x → kind_is_mark kind mark ≡ false
name_kind kinds.Word text at x mark e = refl
name_kind (kinds.Number value) text at x mark e = refl
name_kind kinds.Description text at x mark e = refl
name_kind (kinds.Mark found) text at x mark e = cc

pub name_starts : (mark : Mark) (a : List TheToken) (x : TheName) → AName a x → Starts (λ token. is_mark token mark) false a
name_starts mark = one_starts (λ token. is_mark token mark) false (λ t x e. name_kind t.kind t.text t.at x mark e)

pub name_reads : Reads AName Any (one_at name_in)
name_reads = one_reads name_in (record { kind = kinds.Word; text = []; at = 0 }) (record { text = []; at = 0 }) refl

-- what stands behind a name: nothing, or a comma and the other names
abbrev Behind : List TheToken → List TheName → Type 0
Behind back names = ((names ≡ []) × (back ≡ [])) ⊎ Joined (λ comma. TheMark Comma comma tt) (λ rest. Members rest names) back

abbrev pub EndsBrace : List TheToken → Type 0
EndsBrace b = begins (λ token. is_mark token CloseBrace) b ≡ true

members_to : (a : List TheToken) (y : List TheName) → OneMore AName Behind a y → Members a y
members_to a y l =
    let (x, (xs, (e, j))) = listed_to AName Behind a y l in
    subst (λ z. Members a z) (sym e) j

members_from : (tokens : List TheToken) → begins (λ token. is_mark token CloseBrace) tokens ≡ false
    → (a b : List TheToken) (y : List TheName) → SameFirst tokens (a ++ b) → Members a y → EndsBrace b → OneMore AName Behind a y
members_from tokens fails a b [] s l passes =
    let same : begins (λ token. is_mark token CloseBrace) tokens ≡ begins (λ token. is_mark token CloseBrace) b =
    same_begins (λ token. is_mark token CloseBrace) tokens b (subst (λ (z : List TheToken). SameFirst tokens z) (after_nothing a b l) s) in
    absurd (let e : true ≡ false = sym passes ∙ sym same ∙ fails in cc)
members_from tokens fails a b (x ∷ xs) s l passes = listed_from AName Behind a x xs l

no_members_to : (a : List TheToken) (y : List TheName) → Means [] a y → Members a y
no_members_to a [] l = l.tokens_are
no_members_to a (x ∷ xs) l = let e : x ∷ xs ≡ [] = l.value_is in cc

no_members_from : (tokens : List TheToken) → begins (λ token. is_mark token CloseBrace) tokens ≡ true
    → (a b : List TheToken) (y : List TheName) → SameFirst tokens (a ++ b) → Members a y → EndsBrace b → Means [] a y
no_members_from tokens passes a b [] s l f = record { tokens_are = l; value_is = refl }
no_members_from tokens passes a b (x ∷ xs) s l f =
    let test : TheToken → Bool = λ token. is_mark token CloseBrace in
    let same : begins test tokens ≡ begins test (a ++ b) = same_begins test tokens (a ++ b) s in
    let here : begins test (l.prefix ++ (l.back ++ b)) ≡ false = starts_begins test false l.prefix (l.back ++ b) (name_starts CloseBrace l.prefix x l.prefix_is) in
    let there : a ++ b ≡ l.prefix ++ (l.back ++ b) = ap (λ (z : List TheToken). z ++ b) l.tokens_are ∙ append_assoc l.prefix l.back b in
    let fails : begins test (a ++ b) ≡ false = ap (begins test) there ∙ here in
    cc

-- a comma, and then other names
abbrev More : List TheToken → List TheName → Type 0
More = TheMark Comma >> Members

more_to : (a : List TheToken) (y : List TheName) → More a y → Behind a y
more_to a y l = inr (record { prefix = l.prefix; back = l.back; tokens_are = l.tokens_are; prefix_is = l.prefix_is; back_is = l.back_is })

more_from : (tokens : List TheToken) → begins (λ token. is_mark token Comma) tokens ≡ true
    → (a b : List TheToken) (y : List TheName) → SameFirst tokens (a ++ b) → Behind a y → EndsBrace b → More a y
more_from tokens passes a b y s (inl (none, empty)) f =
    absurd (clash (λ token. is_mark token Comma) tokens b (subst (λ (z : List TheToken). SameFirst tokens z) (after_nothing a b empty) s) passes
    (begins_other CloseBrace Comma refl b f))
more_from tokens passes a b y s (inr j) f =
    record { prefix = j.prefix; back = j.back; middle = tt; tokens_are = j.tokens_are; prefix_is = j.prefix_is; back_is = j.back_is }

last_to : (a : List TheToken) (y : List TheName) → Means [] a y → Behind a y
last_to a y l = inl (l.value_is, l.tokens_are)

last_from : (tokens : List TheToken) → begins (λ token. is_mark token Comma) tokens ≡ false
    → (a b : List TheToken) (y : List TheName) → SameFirst tokens (a ++ b) → Behind a y → EndsBrace b → Means [] a y
last_from tokens fails a b y s (inl (none, empty)) f = record { tokens_are = empty; value_is = none }
last_from tokens fails a b y s (inr j) f =
    let test : TheToken → Bool = λ token. is_mark token Comma in
    let same : begins test tokens ≡ begins test (a ++ b) = same_begins test tokens (a ++ b) s in
    let here : begins test (j.prefix ++ (j.back ++ b)) ≡ true = starts_begins test true j.prefix (j.back ++ b) (mark_starts Comma Comma true refl j.prefix tt j.prefix_is) in
    let there : a ++ b ≡ j.prefix ++ (j.back ++ b) = ap (λ (z : List TheToken). z ++ b) j.tokens_are ∙ append_assoc j.prefix j.back b in
    let passes : begins test (a ++ b) ≡ true = ap (begins test) there ∙ here in
    absurd (let e : true ≡ false = sym passes ∙ sym same ∙ fails in cc)

behind_answers : (n : ℕ) (tokens : List TheToken) (test : Bool) → begins (λ token. is_mark token Comma) tokens ≡ test → length tokens ≤ n
    → ((rest : List TheToken) → length rest ≤ n → Answers Members EndsBrace rest (members_at n rest))
    → Answers Behind EndsBrace tokens (if test then (mark_at Comma tokens >>= λ comma. members_at n comma.1) else Ok ([], tokens))
behind_answers n tokens true e short next =
    narrowed More Behind EndsBrace tokens _ more_to (more_from tokens e)
    (then_answers (TheMark Comma) Any (λ x. Members) EndsBrace tokens (mark_at Comma tokens) (λ comma. members_at n comma.1) ((mark_reads Comma).answers tokens)
    (λ x rest j. let less : length rest < length tokens = shorter (λ token. is_mark token Comma) true (mark_reads Comma) (mark_starts Comma Comma true refl) tokens rest x j in next rest (omega arith))
    (λ x. record { tokens = []; value = []; is = refl }) (λ x a b y l f. tt))
behind_answers n tokens false e short next =
    narrowed (Means []) Behind EndsBrace tokens (Ok ([], tokens)) last_to (last_from tokens e) (means_answers [] EndsBrace tokens)

members_step : (n : ℕ) (tokens : List TheToken) (test : Bool) → begins (λ token. is_mark token CloseBrace) tokens ≡ test → length tokens ≤ suc n
    → ((rest : List TheToken) → length rest ≤ n → Answers Members EndsBrace rest (members_at n rest))
    → Answers Members EndsBrace tokens
    (if test then Ok ([], tokens)
    else (one_at name_in tokens >>= λ p.
    (if begins (λ token. is_mark token Comma) p.1 then (mark_at Comma p.1 >>= λ comma. members_at n comma.1) else Ok ([], p.1))
    >>= λ q. Ok (p.0 ∷ q.0, q.1)))
members_step n tokens true e short next =
    narrowed (Means []) Members EndsBrace tokens (Ok ([], tokens)) no_members_to (no_members_from tokens e) (means_answers [] EndsBrace tokens)
members_step n tokens false e short next =
    narrowed (OneMore AName Behind) Members EndsBrace tokens _ members_to (members_from tokens e)
    (one_more AName Behind Any EndsBrace tokens (one_at name_in tokens)
    (λ rest. if begins (λ token. is_mark token Comma) rest then (mark_at Comma rest >>= λ comma. members_at n comma.1) else Ok ([], rest))
    (name_reads.answers tokens)
    (λ x rest j. let less : length rest < length tokens = shorter (λ token. is_mark token CloseBrace) false name_reads (name_starts CloseBrace) tokens rest x j in
    behind_answers n rest (begins (λ token. is_mark token Comma) rest) refl (omega arith) next)
    (inl (refl, refl)) (λ a b xs l f. tt))

members_answers : (n : ℕ) (tokens : List TheToken) → length tokens ≤ n → Answers Members EndsBrace tokens (members_at n tokens)
members_answers zero [] short =
    record {
      prefix = [];
      tokens_are = refl;
      more = [];
      example = [];
      begins_one = refl;
      none = λ other a b y s l f e. at_end other a b s f e;
    }
  where
    at_end : (other a b : List TheToken) → SameFirst [] other → EndsBrace b → a ++ b ≡ other → ⊥
    at_end (o ∷ other) a b s f e = absurd s
    at_end [] (t ∷ a) b s f e = cc
    at_end [] [] [] s f e = cc
    at_end [] [] (t ∷ b) s f e = cc
members_answers zero (t ∷ tokens) short = absurd (omega arith)
members_answers (suc n) tokens short =
    members_step n tokens (begins (λ token. is_mark token CloseBrace) tokens) refl short (λ rest less. members_answers n rest less)

pub members_reads : Reads Members EndsBrace (λ tokens. members_at (length tokens) tokens)
members_reads =
    record { example = record { tokens = []; value = []; is = refl }; answers = λ tokens. members_answers (length tokens) tokens (omega arith) }
