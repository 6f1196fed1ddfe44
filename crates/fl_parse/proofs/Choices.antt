-- Reading goes by the next token where a phrase may be missing or come again.
use Rattle.std.proofs.Common.{◌≡◌, ℕ, zero, suc, ◌≤◌, ◌<◌, Bool, true, false, List, [], ◌∷◌, ◌++◌, length, Option, Some, None, Ok, Err, refl, sym, ◌∙◌, ap, subst, arith, if◌then◌else◌, append_assoc, length-append}
use Rattle.std.proofs.lemmas.List.{append-nil}
use Rattle.fl_lex.specs.Token.{TheToken}
use Rattle.fl_parse.specs.Grammar.{Means, Then, Optional, Joined, Many}
use Rattle.fl_parse.specs.Reading.{Read, ◌>>=◌, begins, optional_at, many_at}
use Rattle.fl_parse.proofs.Laws.{SameFirst, WasRead, Answers, Reads, Any, same_append, same_begins, then_answers, means_example, means_answers}

-- A phrase read as one of several ways to write another, where the next token rules out the others.
pub narrowed : {A : Type 0} (L W : List TheToken → A → Type 0) (F : List TheToken → Type 0) (tokens : List TheToken) (o : Read A)
    → ((a : List TheToken) (y : A) → L a y → W a y)
    → ((a b : List TheToken) (y : A) → SameFirst tokens (a ++ b) → W a y → F b → L a y)
    → Answers L F tokens o → Answers W F tokens o
narrowed L W F tokens (Ok p) to from h =
    record {
      prefix = h.prefix;
      tokens_are = h.tokens_are;
      is = to h.prefix p.0 h.is;
      only = λ other a b y s w f e. h.only other a b y s
          (from a b y (subst (λ (z : List TheToken). SameFirst z (a ++ b)) (sym h.tokens_are)
          (subst (λ (z : List TheToken). SameFirst (h.prefix ++ p.1) z) (sym e) (same_append h.prefix p.1 other s))) w f) f e;
    }
narrowed L W F tokens (Err rest) to from h =
    record {
      prefix = h.prefix;
      tokens_are = h.tokens_are;
      more = h.more;
      example = h.example;
      begins_one = to (h.prefix ++ h.more) h.example h.begins_one;
      none = λ other a b y s w f e. h.none other a b y s
          (from a b y (subst (λ (z : List TheToken). SameFirst z (a ++ b)) (sym h.tokens_are)
          (subst (λ (z : List TheToken). SameFirst (h.prefix ++ rest) z) (sym e) (same_append h.prefix rest other s))) w f) f e;
    }

-- the list is not empty, and its first token gives this answer
abbrev pub Starts : (TheToken → Bool) → Bool → List TheToken → Type 0
Starts test answer [] = ⊥
Starts test answer (t ∷ rest) = test t ≡ answer

pub starts_begins : (test : TheToken → Bool) (answer : Bool) (a b : List TheToken) → Starts test answer a → begins test (a ++ b) ≡ answer
starts_begins test answer [] b s = absurd s
starts_begins test answer (t ∷ a) b s = s

pub starts_append : (test : TheToken → Bool) (answer : Bool) (a b : List TheToken) → Starts test answer a → Starts test answer (a ++ b)
starts_append test answer [] b s = absurd s
starts_append test answer (t ∷ a) b s = s

-- the next token cannot pass and fail
pub clash : (test : TheToken → Bool) (tokens other : List TheToken) → SameFirst tokens other → begins test tokens ≡ true → begins test other ≡ false → ⊥
clash test tokens other s passes fails =
    let same : begins test tokens ≡ begins test other = same_begins test tokens other s in
    cc

-- what follows an empty list
pub after_nothing : (a b : List TheToken) → a ≡ [] → a ++ b ≡ b
after_nothing a b e = ap (λ (z : List TheToken). z ++ b) e

-- A phrase that may be missing.

-- a phrase and nothing behind it
abbrev Only : {A B : Type 0} → (List TheToken → A → Type 0) → (A → B) → List TheToken → B → Type 0
Only P f = Then P (λ x. Means (f x))

only_to : {A B : Type 0} (P : List TheToken → A → Type 0) (f : A → B) (a : List TheToken) (y : B) → Only P f a y → (x : A) × (P a x) × (y ≡ f x)
only_to P f a y l = (
  l.middle,
  subst (λ (z : List TheToken). P z l.middle)
      (sym (l.tokens_are ∙ ap (λ (z : List TheToken). l.prefix ++ z) l.back_is.tokens_are ∙ append-nil l.prefix)) l.prefix_is,
  l.back_is.value_is,
)

only_from : {A B : Type 0} (P : List TheToken → A → Type 0) (f : A → B) (a : List TheToken) (x : A) → P a x → Only P f a (f x)
only_from P f a x p =
    record { prefix = a; back = []; middle = x; tokens_are = sym (append-nil a); prefix_is = p; back_is = record { tokens_are = refl; value_is = refl } }

optional_to : {A : Type 0} (P : List TheToken → A → Type 0) (a : List TheToken) (y : Option A) → Only P (λ x. Some x) a y → Optional P a y
optional_to P a y l =
    let (x, p, e) = only_to P (λ x. Some x) a y l in
    subst (λ z. Optional P a z) (sym e) p

optional_from : {A : Type 0} (P : List TheToken → A → Type 0) (opens : TheToken → Bool) (tokens : List TheToken) → begins opens tokens ≡ true
    → (a b : List TheToken) (y : Option A) → SameFirst tokens (a ++ b) → Optional P a y → begins opens b ≡ false → Only P (λ x. Some x) a y
optional_from P opens tokens passes a b None s l f =
    absurd (clash opens tokens b (subst (λ (z : List TheToken). SameFirst tokens z) (after_nothing a b l) s) passes f)
optional_from P opens tokens passes a b (Some x) s l f = only_from P (λ x. Some x) a x l

missing_to : {A : Type 0} (P : List TheToken → A → Type 0) (a : List TheToken) (y : Option A) → Means None a y → Optional P a y
missing_to P a None l = l.tokens_are
missing_to P a (Some x) l = let e : Some x ≡ None = l.value_is in cc

missing_from : {A : Type 0} (P : List TheToken → A → Type 0) (opens : TheToken → Bool) (tokens : List TheToken) → begins opens tokens ≡ false
    → ((a : List TheToken) (x : A) → P a x → Starts opens true a)
    → (a b : List TheToken) (y : Option A) → SameFirst tokens (a ++ b) → Optional P a y → begins opens b ≡ false → Means None a y
missing_from P opens tokens fails starts a b None s l f = record { tokens_are = l; value_is = refl }
missing_from P opens tokens fails starts a b (Some x) s l f =
    let same : begins opens tokens ≡ begins opens (a ++ b) = same_begins opens tokens (a ++ b) s in
    let passes : begins opens (a ++ b) ≡ true = starts_begins opens true a b (starts a x l) in
    cc

optional_answers : {A : Type 0} (P : List TheToken → A → Type 0) (p : List TheToken → Read A) (opens : TheToken → Bool) (tokens : List TheToken) (test : Bool)
    → Reads P Any p → ((a : List TheToken) (x : A) → P a x → Starts opens true a) → begins opens tokens ≡ test
    → Answers (Optional P) (λ b. begins opens b ≡ false) tokens (if test then (p tokens >>= λ q. Ok (Some q.0, q.1)) else Ok (None, tokens))
optional_answers P p opens tokens true reads starts e =
    narrowed (Only P (λ x. Some x)) (Optional P) (λ b. begins opens b ≡ false) tokens _ (optional_to P) (optional_from P opens tokens e)
    (then_answers P Any (λ x. Means (Some x)) (λ b. begins opens b ≡ false) tokens (p tokens) (λ q. Ok (Some q.0, q.1)) (reads.answers tokens)
    (λ x rest j. means_answers (Some x) (λ b. begins opens b ≡ false) rest) (λ x. means_example (Some x)) (λ x a b y m f. tt))
optional_answers P p opens tokens false reads starts e =
    narrowed (Means None) (Optional P) (λ b. begins opens b ≡ false) tokens (Ok (None, tokens)) (missing_to P) (missing_from P opens tokens e starts)
    (means_answers None (λ b. begins opens b ≡ false) tokens)

pub optional_reads : {A : Type 0} {P : List TheToken → A → Type 0} {p : List TheToken → Read A} (opens : TheToken → Bool)
    → Reads P Any p → ((a : List TheToken) (x : A) → P a x → Starts opens true a)
    → Reads (Optional P) (λ b. begins opens b ≡ false) (optional_at opens p)
optional_reads {P = P} {p = p} opens reads starts =
    record {
      example = record { tokens = []; value = None; is = refl };
      answers = λ tokens. optional_answers P p opens tokens (begins opens tokens) reads starts refl;
    }

-- A phrase again and again.

-- one phrase, and then more
abbrev pub OneMore : {A : Type 0} → (List TheToken → A → Type 0) → (List TheToken → List A → Type 0) → List TheToken → List A → Type 0
OneMore P Rest = Then P (λ x. Then Rest (λ xs. Means (x ∷ xs)))

-- a phrase, and then what a list is
pub listed_to : {A : Type 0} (P : List TheToken → A → Type 0) (Rest : List TheToken → List A → Type 0) (a : List TheToken) (y : List A)
    → OneMore P Rest a y
    → (x : A) × ((xs : List A) × ((y ≡ x ∷ xs) × Joined (λ prefix. P prefix x) (λ back. Rest back xs) a))
listed_to P Rest a y l =
    let (xs, q, e) = only_to Rest (λ xs. l.middle ∷ xs) l.back y l.back_is in
    (l.middle, (xs, (e, record { prefix = l.prefix; back = l.back; tokens_are = l.tokens_are; prefix_is = l.prefix_is; back_is = q })))

pub listed_from : {A : Type 0} (P : List TheToken → A → Type 0) (Rest : List TheToken → List A → Type 0) (a : List TheToken) (x : A) (xs : List A)
    → Joined (λ prefix. P prefix x) (λ back. Rest back xs) a
    → OneMore P Rest a (x ∷ xs)
listed_from P Rest a x xs j =
    record {
      prefix = j.prefix;
      back = j.back;
      middle = x;
      tokens_are = j.tokens_are;
      prefix_is = j.prefix_is;
      back_is = only_from Rest (λ xs. x ∷ xs) j.back xs j.back_is;
    }

-- what may stand behind a phrase that comes again and again: another, or the end
pub many_follow : {A : Type 0} (P : List TheToken → A → Type 0) (F : List TheToken → Type 0) (ends : TheToken → Bool)
    → ((a : List TheToken) (x : A) (b : List TheToken) → P a x → F (a ++ b)) → ((b : List TheToken) → begins ends b ≡ true → F b)
    → (a b : List TheToken) (xs : List A) → Many P a xs → begins ends b ≡ true → F (a ++ b)
many_follow P F ends again last a b [] l e = subst F (sym (after_nothing a b l)) (last b e)
many_follow P F ends again last a b (x ∷ xs) l e =
    subst F (ap (λ (z : List TheToken). z ++ b) (sym l.tokens_are))
    (subst F (sym (append_assoc l.prefix l.back b)) (again l.prefix x (l.back ++ b) l.prefix_is))

many_to : {A : Type 0} (P : List TheToken → A → Type 0) (a : List TheToken) (y : List A) → OneMore P (Many P) a y → Many P a y
many_to P a y l =
    let (x, (xs, (e, j))) = listed_to P (Many P) a y l in
    subst (λ z. Many P a z) (sym e) j

many_from : {A : Type 0} (P : List TheToken → A → Type 0) (ends : TheToken → Bool) (tokens : List TheToken) → begins ends tokens ≡ false
    → (a b : List TheToken) (y : List A) → SameFirst tokens (a ++ b) → Many P a y → begins ends b ≡ true → OneMore P (Many P) a y
many_from P ends tokens fails a b [] s l passes =
    let same : begins ends tokens ≡ begins ends b = same_begins ends tokens b (subst (λ (z : List TheToken). SameFirst tokens z) (after_nothing a b l) s) in
    absurd (let e : true ≡ false = sym passes ∙ sym same ∙ fails in cc)
many_from P ends tokens fails a b (x ∷ xs) s l passes = listed_from P (Many P) a x xs l

none_to : {A : Type 0} (P : List TheToken → A → Type 0) (a : List TheToken) (y : List A) → Means [] a y → Many P a y
none_to P a [] l = l.tokens_are
none_to P a (x ∷ xs) l = let e : x ∷ xs ≡ [] = l.value_is in cc

none_from : {A : Type 0} (P : List TheToken → A → Type 0) (ends : TheToken → Bool) (tokens : List TheToken) → begins ends tokens ≡ true
    → ((a : List TheToken) (x : A) → P a x → Starts ends false a)
    → (a b : List TheToken) (y : List A) → SameFirst tokens (a ++ b) → Many P a y → begins ends b ≡ true → Means [] a y
none_from P ends tokens passes starts a b [] s l f = record { tokens_are = l; value_is = refl }
none_from P ends tokens passes starts a b (x ∷ xs) s l f =
    let same : begins ends tokens ≡ begins ends (a ++ b) = same_begins ends tokens (a ++ b) s in
    let here : begins ends (l.prefix ++ (l.back ++ b)) ≡ false = starts_begins ends false l.prefix (l.back ++ b) (starts l.prefix x l.prefix_is) in
    let there : a ++ b ≡ l.prefix ++ (l.back ++ b) = ap (λ (z : List TheToken). z ++ b) l.tokens_are ∙ append_assoc l.prefix l.back b in
    let fails : begins ends (a ++ b) ≡ false = ap (begins ends) there ∙ here in
    cc

-- what is left behind a phrase that is not empty is shorter
shorter_read : {A : Type 0} (P : List TheToken → A → Type 0) (F : List TheToken → Type 0) (test : TheToken → Bool) (answer : Bool) (tokens rest : List TheToken) (x : A)
    → ((a : List TheToken) (x : A) → P a x → Starts test answer a) → WasRead P F tokens x rest → length rest < length tokens
shorter_read P F test answer tokens rest x starts h =
    let some : 0 < length h.prefix = some_length h.prefix (starts h.prefix x h.is) in
    let all : length tokens ≡ length (h.prefix ++ rest) = ap length h.tokens_are in
    omega (arith, length-append h.prefix rest)
  where
    some_length : (a : List TheToken) → Starts test answer a → 0 < length a
    some_length [] s = absurd s
    some_length (t ∷ a) s = omega arith

pub shorter : {A : Type 0} {P : List TheToken → A → Type 0} {F : List TheToken → Type 0} {p : List TheToken → Read A} (test : TheToken → Bool) (answer : Bool)
    → Reads P F p → ((a : List TheToken) (x : A) → P a x → Starts test answer a)
    → (tokens rest : List TheToken) (x : A) → p tokens ≡ Ok (x, rest) → length rest < length tokens
shorter {P = P} {F = F} {p = p} test answer reads starts tokens rest x e =
    let h : WasRead P F tokens x rest = subst (λ o. Answers P F tokens o) e (reads.answers tokens) in
    shorter_read P F test answer tokens rest x starts h

pub means_keeps : {A : Type 0} (value : A) (F : List TheToken → Type 0) (a b : List TheToken) (y : A) → Means value a y → F b → F (a ++ b)
means_keeps value F a b y m f = subst F (sym (after_nothing a b m.tokens_are)) f

-- one phrase, and then what the rest of the list is read as
pub one_more : {A : Type 0} (P : List TheToken → A → Type 0) (Rest : List TheToken → List A → Type 0) (F E : List TheToken → Type 0)
    (tokens : List TheToken) (o : Read A) (tail : List TheToken → Read (List A))
    → Answers P F tokens o
    → ((x : A) (rest : List TheToken) → o ≡ Ok (x, rest) → Answers Rest E rest (tail rest))
    → Rest [] []
    → ((a b : List TheToken) (xs : List A) → Rest a xs → E b → F (a ++ b))
    → Answers (OneMore P Rest) E tokens (o >>= λ q. tail q.1 >>= λ r. Ok (q.0 ∷ r.0, r.1))
one_more {A} P Rest F E tokens o tail first next none fits =
    then_answers P F (λ x. Then Rest (λ xs. Means (x ∷ xs))) E tokens o (λ q. tail q.1 >>= λ r. Ok (q.0 ∷ r.0, r.1)) first
    (λ x rest e. then_answers Rest E (λ xs. Means (x ∷ xs)) E rest (tail rest) (λ r. Ok (x ∷ r.0, r.1)) (next x rest e)
    (λ xs rest2 j. means_answers (x ∷ xs) E rest2) (λ xs. means_example (x ∷ xs)) (λ xs a b y m f. means_keeps (x ∷ xs) E a b y m f))
    (λ x. record { tokens = []; value = x ∷ []; is = only_from Rest (λ (xs : List A). x ∷ xs) [] [] none })
    (λ x a b y l f. let (xs, q, e) = only_to Rest (λ (xs : List A). x ∷ xs) a y l in fits a b xs q f)

many_step : {A : Type 0} (P : List TheToken → A → Type 0) (F : List TheToken → Type 0) (p : List TheToken → Read A) (ends : TheToken → Bool) (n : ℕ) (tokens : List TheToken) (test : Bool)
    → Reads P F p → ((a : List TheToken) (x : A) → P a x → Starts ends false a)
    → ((a : List TheToken) (x : A) (b : List TheToken) → P a x → F (a ++ b)) → ((b : List TheToken) → begins ends b ≡ true → F b)
    → begins ends tokens ≡ test → length tokens ≤ suc n
    → ((rest : List TheToken) → length rest ≤ n → Answers (Many P) (λ b. begins ends b ≡ true) rest (many_at ends p n rest))
    → Answers (Many P) (λ b. begins ends b ≡ true) tokens (if test then Ok ([], tokens) else (p tokens >>= λ q. many_at ends p n q.1 >>= λ r. Ok (q.0 ∷ r.0, r.1)))
many_step P F p ends n tokens true reads starts again last e short next =
    narrowed (Means []) (Many P) (λ b. begins ends b ≡ true) tokens (Ok ([], tokens)) (none_to P) (none_from P ends tokens e starts)
    (means_answers [] (λ b. begins ends b ≡ true) tokens)
many_step P F p ends n tokens false reads starts again last e short next =
    narrowed (OneMore P (Many P)) (Many P) (λ b. begins ends b ≡ true) tokens _ (many_to P) (many_from P ends tokens e)
    (one_more P (Many P) F (λ b. begins ends b ≡ true) tokens (p tokens) (many_at ends p n) (reads.answers tokens)
    (λ x rest j. let less : length rest < length tokens = shorter ends false reads starts tokens rest x j in next rest (omega arith))
    refl (λ a b xs l f. many_follow P F ends again last a b xs l f))

many_answers : {A : Type 0} (P : List TheToken → A → Type 0) (F : List TheToken → Type 0) (p : List TheToken → Read A) (ends : TheToken → Bool)
    → Reads P F p → ((a : List TheToken) (x : A) → P a x → Starts ends false a)
    → ((a : List TheToken) (x : A) (b : List TheToken) → P a x → F (a ++ b)) → ((b : List TheToken) → begins ends b ≡ true → F b)
    → (n : ℕ) (tokens : List TheToken) → length tokens ≤ n
    → Answers (Many P) (λ b. begins ends b ≡ true) tokens (many_at ends p n tokens)
many_answers P F p ends reads starts again last zero [] short =
    record {
      prefix = [];
      tokens_are = refl;
      more = [];
      example = [];
      begins_one = refl;
      none = λ other a b y s l f e. at_end other a b s f e;
    }
  where
    at_end : (other a b : List TheToken) → SameFirst [] other → begins ends b ≡ true → a ++ b ≡ other → ⊥
    at_end (o ∷ other) a b s f e = absurd s
    at_end [] (t ∷ a) b s f e = cc
    at_end [] [] [] s f e = cc
    at_end [] [] (t ∷ b) s f e = cc
many_answers P F p ends reads starts again last zero (t ∷ tokens) short = absurd (omega arith)
many_answers P F p ends reads starts again last (suc n) tokens short =
    many_step P F p ends n tokens (begins ends tokens) reads starts again last refl short
    (λ rest less. many_answers P F p ends reads starts again last n rest less)

pub many_reads : {A : Type 0} {P : List TheToken → A → Type 0} {F : List TheToken → Type 0} {p : List TheToken → Read A} (ends : TheToken → Bool)
    → Reads P F p → ((a : List TheToken) (x : A) → P a x → Starts ends false a)
    → ((a : List TheToken) (x : A) (b : List TheToken) → P a x → F (a ++ b)) → ((b : List TheToken) → begins ends b ≡ true → F b)
    → Reads (Many P) (λ b. begins ends b ≡ true) (λ tokens. many_at ends p (length tokens) tokens)
many_reads {P = P} {F = F} {p = p} ends reads starts again last =
    record {
      example = record { tokens = []; value = []; is = refl };
      answers = λ tokens. many_answers P F p ends reads starts again last (length tokens) tokens (omega arith);
    }
