-- Reading a phrase finds it wherever it stands, and stops at the first token that rules it out.
use Rattle.std.proofs.Common.{◌≡◌, Bool, List, [], ◌∷◌, ◌++◌, Option, Some, None, Ok, Err, refl, sym, ◌∙◌, ap, subst, append_assoc}
use Rattle.std.proofs.lemmas.List.{append_cancel_left}
use Rattle.fl_lex.specs.Token.{TheToken}
use Rattle.fl_parse.specs.Grammar.{One, Means, Then}
use Rattle.fl_parse.specs.Reading.{Read, ◌>>=◌, begins, one_of, one_at}

-- two lists that begin with the same token, or are both empty
abbrev pub SameFirst : List TheToken → List TheToken → Type 0
SameFirst [] [] = Unit {0}
SameFirst [] (y ∷ ys) = ⊥
SameFirst (x ∷ xs) [] = ⊥
SameFirst (x ∷ xs) (y ∷ ys) = x ≡ y

-- The tokens begin with the phrase; and whatever stands behind the next token, they begin with no
-- other that is followed as F says.
pub record WasRead {A : Type 0} (L : List TheToken → A → Type 0) (F : List TheToken → Type 0) (tokens : List TheToken) (x : A) (rest : List TheToken) : Type 0 where
  pub prefix : List TheToken
  pub tokens_are : tokens ≡ prefix ++ rest
  pub is : L prefix x
  pub only : (other a b : List TheToken) (y : A) → SameFirst rest other → L a y → F b → a ++ b ≡ prefix ++ other → (a ≡ prefix) × (y ≡ x)

-- The tokens before the rest begin the phrase; and whatever stands behind the next token, they begin
-- with none that is followed as F says.
pub record WasRefused {A : Type 0} (L : List TheToken → A → Type 0) (F : List TheToken → Type 0) (tokens : List TheToken) (rest : List TheToken) : Type 0 where
  pub prefix : List TheToken
  pub tokens_are : tokens ≡ prefix ++ rest
  pub more : List TheToken
  pub example : A
  pub begins_one : L (prefix ++ more) example
  pub none : (other a b : List TheToken) (y : A) → SameFirst rest other → L a y → F b → a ++ b ≡ prefix ++ other → ⊥

abbrev pub Answers : {A : Type 0} → (List TheToken → A → Type 0) → (List TheToken → Type 0) → List TheToken → Read A → Type 0
Answers L F tokens (Ok p) = WasRead L F tokens p.0 p.1
Answers L F tokens (Err rest) = WasRefused L F tokens rest

-- some tokens are the phrase
pub record Example {A : Type 0} (L : List TheToken → A → Type 0) : Type 0 where
  pub tokens : List TheToken
  pub value : A
  pub is : L tokens value

pub record Reads {A : Type 0} (L : List TheToken → A → Type 0) (F : List TheToken → Type 0) (r : List TheToken → Read A) : Type 0 where
  pub example : Example L
  pub answers : (tokens : List TheToken) → Answers L F tokens (r tokens)

-- anything may follow
abbrev pub Any : List TheToken → Type 0
Any tokens = Unit {0}

pub same_append : (a x y : List TheToken) → SameFirst x y → SameFirst (a ++ x) (a ++ y)
same_append [] x y s = s
same_append (t ∷ a) x y s = refl

pub same_begins : (test : TheToken → Bool) (x y : List TheToken) → SameFirst x y → begins test x ≡ begins test y
same_begins test [] [] s = refl
same_begins test [] (y ∷ ys) s = absurd s
same_begins test (x ∷ xs) [] s = absurd s
same_begins test (x ∷ xs) (y ∷ ys) s = ap test s

pub same_head : (t x : TheToken) (rest xs other : List TheToken) → x ∷ xs ≡ other → SameFirst (t ∷ rest) other → x ≡ t
same_head t x rest xs [] e s = absurd s
same_head t x rest xs (y ∷ ys) e s = cc

-- One token.

one_none : {A : Type 0} (read : TheToken → Option A) (t : TheToken) (rest other a b : List TheToken) (y : A)
    → read t ≡ None → SameFirst (t ∷ rest) other → One read a y → a ++ b ≡ other → ⊥
one_none read t rest other a b y none s l e =
    let here : l.token ∷ b ≡ other = ap (λ (z : List TheToken). z ++ b) (sym l.tokens_are) ∙ e in
    let same : l.token ≡ t = same_head t l.token rest b other here s in
    let found : read l.token ≡ Some y = l.reads in
    let lost : read l.token ≡ None = ap read same ∙ none in
    cc

one_only : {A : Type 0} (read : TheToken → Option A) (t : TheToken) (x : A) (rest other a b : List TheToken) (y : A)
    → read t ≡ Some x → SameFirst rest other → One read a y → a ++ b ≡ t ∷ other → (a ≡ t ∷ []) × (y ≡ x)
one_only read t x rest other a b y some s l e =
    let here : l.token ∷ b ≡ t ∷ other = ap (λ (z : List TheToken). z ++ b) (sym l.tokens_are) ∙ e in
    let same : l.token ≡ t = cc in
    let found : read l.token ≡ Some y = l.reads in
    let again : read l.token ≡ Some x = ap read same ∙ some in
    (l.tokens_are ∙ ap (λ (z : TheToken). z ∷ []) same, cc)

one_answers : {A : Type 0} (read : TheToken → Option A) (o : Option A) (t : TheToken) (rest : List TheToken) → Example (One read)
    → read t ≡ o → Answers (One read) Any (t ∷ rest) (one_of o t rest)
one_answers read None t rest example e =
    record {
      prefix = [];
      tokens_are = refl;
      more = example.tokens;
      example = example.value;
      begins_one = example.is;
      none = λ other a b y s l f j. one_none read t rest other a b y e s l j;
    }
one_answers read (Some x) t rest example e =
    record {
      prefix = t ∷ [];
      tokens_are = refl;
      is = record { token = t; tokens_are = refl; reads = e };
      only = λ other a b y s l f j. one_only read t x rest other a b y e s l j;
    }

pub one_reads : {A : Type 0} (read : TheToken → Option A) (t : TheToken) (x : A) → read t ≡ Some x → Reads (One read) Any (one_at read)
one_reads {A} read t x e =
    let example : Example (One read) = record { tokens = t ∷ []; value = x; is = record { token = t; tokens_are = refl; reads = e } } in
    record { example = example; answers = answers example }
  where
    none_at_end : (other a b : List TheToken) (y : A) → SameFirst [] other → One read a y → a ++ b ≡ other → ⊥
    none_at_end [] a b y s l j =
        let here : l.token ∷ b ≡ [] = ap (λ (z : List TheToken). z ++ b) (sym l.tokens_are) ∙ j in
        cc
    none_at_end (o ∷ other) a b y s l j = absurd s

    answers : Example (One read) → (tokens : List TheToken) → Answers (One read) Any tokens (one_at read tokens)
    answers example [] =
        record {
          prefix = [];
          tokens_are = refl;
          more = example.tokens;
          example = example.value;
          begins_one = example.is;
          none = λ other a b y s l f j. none_at_end other a b y s l j;
        }
    answers example (u ∷ rest) = one_answers read (read u) u rest example refl

-- No token.

pub means_example : {A : Type 0} (value : A) → Example (Means value)
means_example value = record { tokens = []; value = value; is = record { tokens_are = refl; value_is = refl } }

pub means_answers : {A : Type 0} (value : A) (F : List TheToken → Type 0) (tokens : List TheToken) → WasRead (Means value) F tokens value tokens
means_answers value F tokens =
    record {
      prefix = [];
      tokens_are = refl;
      is = record { tokens_are = refl; value_is = refl };
      only = λ other a b y s l f j. (l.tokens_are, l.value_is);
    }

pub means_reads : {A : Type 0} (value : A) → Reads (Means value) Any (λ tokens. Ok (value, tokens))
means_reads value = record { example = means_example value; answers = means_answers value Any }

-- A phrase and then another.

regrouped : (a prefix back b all : List TheToken) → a ≡ prefix ++ back → a ++ b ≡ all → prefix ++ (back ++ b) ≡ all
regrouped a prefix back b all split e = sym (append_assoc prefix back b) ∙ ap (λ (z : List TheToken). z ++ b) (sym split) ∙ e

-- what is left of two equal lists whose prefixes are equal
pub left_over : (f g x y : List TheToken) → f ≡ g → f ++ x ≡ g ++ y → x ≡ y
left_over f g x y same e = append_cancel_left g x y (ap (λ (z : List TheToken). z ++ x) (sym same) ∙ e)

then_refused : {A B : Type 0} (L : List TheToken → A → Type 0) (F : List TheToken → Type 0) (M : A → List TheToken → B → Type 0) (G : List TheToken → Type 0)
    (tokens rest : List TheToken)
    → WasRefused L F tokens rest
    → ((x : A) → Example (M x))
    → ((x : A) (a b : List TheToken) (y : B) → M x a y → G b → F (a ++ b))
    → WasRefused (Then L M) G tokens rest
then_refused L F M G tokens rest h examples fits =
    let ex : Example (M h.example) = examples h.example in
    record {
      prefix = h.prefix;
      tokens_are = h.tokens_are;
      more = h.more ++ ex.tokens;
      example = ex.value;
      begins_one = record { prefix = h.prefix ++ h.more; back = ex.tokens; middle = h.example; tokens_are = sym (append_assoc h.prefix h.more ex.tokens); prefix_is = h.begins_one; back_is = ex.is };
      none = λ other a b y s l f e. h.none other l.prefix (l.back ++ b) l.middle s l.prefix_is (fits l.middle l.back b y l.back_is f)
          (regrouped a l.prefix l.back b (h.prefix ++ other) l.tokens_are e);
    }

-- what the first phrase leaves to the second
handed_on : {A B : Type 0} (L : List TheToken → A → Type 0) (F : List TheToken → Type 0) (M : A → List TheToken → B → Type 0) (G : List TheToken → Type 0)
    (tokens rest : List TheToken) (x : A) (h : WasRead L F tokens x rest)
    → ((x : A) (a b : List TheToken) (y : B) → M x a y → G b → F (a ++ b))
    → (prefix rest2 other a b : List TheToken) (y : B) → rest ≡ prefix ++ rest2 → SameFirst rest2 other → (l : Then L M a y) → G b → a ++ b ≡ (h.prefix ++ prefix) ++ other
    → (l.prefix ≡ h.prefix) × M x l.back y × (l.back ++ b ≡ prefix ++ other)
handed_on L F M G tokens rest x h fits prefix rest2 other a b y split s l f e =
    let all : l.prefix ++ (l.back ++ b) ≡ h.prefix ++ (prefix ++ other) =
    regrouped a l.prefix l.back b (h.prefix ++ (prefix ++ other)) l.tokens_are (e ∙ append_assoc h.prefix prefix other) in
    let same : SameFirst rest (prefix ++ other) =
    subst (λ (z : List TheToken). SameFirst z (prefix ++ other)) (sym split) (same_append prefix rest2 other s) in
    let one : (l.prefix ≡ h.prefix) × (l.middle ≡ x) =
    h.only (prefix ++ other) l.prefix (l.back ++ b) l.middle same l.prefix_is (fits l.middle l.back b y l.back_is f) all in
    (one.0, subst (λ z. M z l.back y) one.1 l.back_is, left_over l.prefix h.prefix (l.back ++ b) (prefix ++ other) one.0 all)

then_second : {A B : Type 0} (L : List TheToken → A → Type 0) (F : List TheToken → Type 0) (M : A → List TheToken → B → Type 0) (G : List TheToken → Type 0)
    (tokens rest : List TheToken) (x : A) (o : Read B)
    → WasRead L F tokens x rest
    → Answers (M x) G rest o
    → ((x : A) (a b : List TheToken) (y : B) → M x a y → G b → F (a ++ b))
    → Answers (Then L M) G tokens o
then_second L F M G tokens rest x (Err rest2) h k fits =
    record {
      prefix = h.prefix ++ k.prefix;
      tokens_are = h.tokens_are ∙ ap (λ (z : List TheToken). h.prefix ++ z) k.tokens_are ∙ sym (append_assoc h.prefix k.prefix rest2);
      more = k.more;
      example = k.example;
      begins_one = record { prefix = h.prefix; back = k.prefix ++ k.more; middle = x; tokens_are = append_assoc h.prefix k.prefix k.more; prefix_is = h.is; back_is = k.begins_one };
      none = λ other a b y s l f e.
          let on = handed_on L F M G tokens rest x h fits k.prefix rest2 other a b y k.tokens_are s l f e in
          k.none other l.back b y s on.1 f on.2;
    }
then_second L F M G tokens rest x (Ok q) h k fits =
    record {
      prefix = h.prefix ++ k.prefix;
      tokens_are = h.tokens_are ∙ ap (λ (z : List TheToken). h.prefix ++ z) k.tokens_are ∙ sym (append_assoc h.prefix k.prefix q.1);
      is = record { prefix = h.prefix; back = k.prefix; middle = x; tokens_are = refl; prefix_is = h.is; back_is = k.is };
      only = λ other a b y s l f e.
          let on = handed_on L F M G tokens rest x h fits k.prefix q.1 other a b y k.tokens_are s l f e in
          let two = k.only other l.back b y s on.1 f on.2 in
          (l.tokens_are ∙ ap (λ (z : List TheToken). z ++ l.back) on.0 ∙ ap (λ (z : List TheToken). h.prefix ++ z) two.0, two.1);
    }

pub then_answers : {A B : Type 0} (L : List TheToken → A → Type 0) (F : List TheToken → Type 0) (M : A → List TheToken → B → Type 0) (G : List TheToken → Type 0)
    (tokens : List TheToken) (o : Read A) (g : A × List TheToken → Read B)
    → Answers L F tokens o
    → ((x : A) (rest : List TheToken) → o ≡ Ok (x, rest) → Answers (M x) G rest (g (x, rest)))
    → ((x : A) → Example (M x))
    → ((x : A) (a b : List TheToken) (y : B) → M x a y → G b → F (a ++ b))
    → Answers (Then L M) G tokens (o >>= g)
then_answers L F M G tokens (Err rest) g h next examples fits = then_refused L F M G tokens rest h examples fits
then_answers L F M G tokens (Ok p) g h next examples fits = then_second L F M G tokens p.1 p.0 (g p) h (next p.0 p.1 refl) fits

pub then_reads : {A B : Type 0} {L : List TheToken → A → Type 0} {F : List TheToken → Type 0} {M : A → List TheToken → B → Type 0} {G : List TheToken → Type 0}
    {r : List TheToken → Read A} {g : A → List TheToken → Read B}
    → Reads L F r
    → ((x : A) → Reads (M x) G (g x))
    → ((x : A) (a b : List TheToken) (y : B) → M x a y → G b → F (a ++ b))
    → Reads (Then L M) G (λ tokens. r tokens >>= λ p. g p.0 p.1)
then_reads {L = L} {F = F} {M = M} {G = G} {r = r} {g = g} first next fits =
    let ex : Example L = first.example in
    let ex2 : Example (M ex.value) = (next ex.value).example in
    record {
      example = record {
        tokens = ex.tokens ++ ex2.tokens;
        value = ex2.value;
        is = record { prefix = ex.tokens; back = ex2.tokens; middle = ex.value; tokens_are = refl; prefix_is = ex.is; back_is = ex2.is };
      };
      answers = λ tokens. then_answers L F M G tokens (r tokens) (λ p. g p.0 p.1) (first.answers tokens)
          (λ x rest e. (next x).answers rest) (λ x. (next x).example) fits;
    }

-- the same, where anything may stand behind the first phrase
pub then_any : {A B : Type 0} {L : List TheToken → A → Type 0} {M : A → List TheToken → B → Type 0} {G : List TheToken → Type 0}
    {r : List TheToken → Read A} {g : A → List TheToken → Read B}
    → Reads L Any r
    → ((x : A) → Reads (M x) G (g x))
    → Reads (Then L M) G (λ tokens. r tokens >>= λ p. g p.0 p.1)
then_any first next = then_reads first next (λ x a b y m f. tt)
