-- What the loops over lists keep: the items so far, and reading on from what is left, are the whole.
use Rattle.std.proofs.Common.{◌≡◌, ℕ, zero, suc, ◌≤◌, ◌<◌, Bool, true, false, List, [], ◌∷◌, ◌++◌, length, map, Ok, Err, refl, sym, ◌∙◌, ap, subst, arith, if◌then◌else◌, append_assoc}
use Rattle.std.proofs.lemmas.List.{append-nil}
use Rattle.fl_lex.specs.declared.token.Mark.TheVariants.{CloseBrace, Comma}
use Rattle.fl_lex.specs.Token.{TheToken, token_of}
use Rattle.fl_parse.specs.declared.stop.ParseStop.{ParseStop}
use Rattle.fl_parse.specs.declared.stop.ParseStop.TheVariants as stops
use Rattle.fl_parse.specs.Tree.{TheName}
use Rattle.fl_parse.specs.Grammar.{is_mark, name_in}
use Rattle.fl_parse.specs.Reading.{Read, ◌>>=◌, begins, one_at, mark_at, Fails, many_at, behind_comma, separated_at, members_at}
use Rattle.fl_parse.proofs.Laws.{WasRefused, Answers, Reads}

-- what is read behind items that are read already
abbrev pub prepend : {A : Type 0} → List A → Read (List A) → Read (List A)
prepend xs (Ok p) = Ok (xs ++ p.0, p.1)
prepend xs (Err rest) = Err rest

-- With these items read, reading the rest gives the whole.
pub record Left {A : Type 0} (read : ℕ → List TheToken → Read (List A)) (whole : Read (List A)) (xs : List A) (rest : List TheToken) : Type 0 where
  pub fuel : ℕ
  pub enough : length rest ≤ fuel
  pub joins : prepend xs (read fuel rest) ≡ whole

prepend_none : {A : Type 0} (o : Read (List A)) → prepend [] o ≡ o
prepend_none (Ok p) = refl
prepend_none (Err rest) = refl

pub left_all : {A : Type 0} (read : ℕ → List TheToken → Read (List A)) (tokens : List TheToken) → Left read (read (length tokens) tokens) [] tokens
left_all read tokens = record { fuel = length tokens; enough = omega arith; joins = prepend_none (read (length tokens) tokens) }

-- one item more
prepend_one : {A : Type 0} (xs : List A) (x : A) (o : Read (List A)) → prepend xs (o >>= λ q. Ok (x ∷ q.0, q.1)) ≡ prepend (xs ++ x ∷ []) o
prepend_one xs x (Ok p) = ap (λ z. Ok (z, p.1)) (sym (append_assoc xs (x ∷ []) p.0))
prepend_one xs x (Err rest) = refl

-- reading that stops at once leaves all
at_once : {A : Type 0} {L : List TheToken → A → Type 0} {F : List TheToken → Type 0} {p : List TheToken → Read A} (rest : List TheToken) → Reads L F p → p [] ≡ Err rest → [] ≡ rest
at_once {L = L} {F = F} {p = p} rest reads e =
    let h : WasRefused L F [] rest = subst (λ o. Answers L F [] o) e (reads.answers []) in
    nothing_left h.prefix rest h.tokens_are
  where
    nothing_left : (prefix rest : List TheToken) → [] ≡ prefix ++ rest → [] ≡ rest
    nothing_left [] rest j = j
    nothing_left (t ∷ prefix) rest j = cc

many_open : {A : Type 0} (ends : TheToken → Bool) (p : List TheToken → Read A) (k : ℕ) (t : TheToken) (rest : List TheToken) (test : Bool) → begins ends (t ∷ rest) ≡ test
    → many_at ends p (suc k) (t ∷ rest) ≡ (if test then Ok ([], t ∷ rest) else (p (t ∷ rest) >>= λ q. many_at ends p k q.1 >>= λ r. Ok (q.0 ∷ r.0, r.1)))
many_open ends p k t rest test e =
    ap (λ b. if b then Ok ([], t ∷ rest) else (p (t ∷ rest) >>= λ q. many_at ends p k q.1 >>= λ r. Ok (q.0 ∷ r.0, r.1))) e

many_stops : {A : Type 0} {L : List TheToken → A → Type 0} {F : List TheToken → Type 0} (ends : TheToken → Bool) (p : List TheToken → Read A) (whole : Read (List A)) (xs : List A) (rest stop : List TheToken) (k : ℕ)
    → Reads L F p → length rest ≤ k → begins ends rest ≡ false → p rest ≡ Err stop → prepend xs (many_at ends p k rest) ≡ whole → whole ≡ Err stop
many_stops ends p whole xs [] stop zero reads short e stops j = sym j ∙ ap Err (at_once stop reads stops)
many_stops ends p whole xs [] stop (suc k) reads short e stops j = sym j ∙ ap (λ o. prepend xs (o >>= λ q. many_at ends p k q.1 >>= λ r. Ok (q.0 ∷ r.0, r.1))) stops
many_stops ends p whole xs (t ∷ rest) stop zero reads short e stops j = absurd (omega arith)
many_stops ends p whole xs (t ∷ rest) stop (suc k) reads short e stops j =
    sym j ∙ ap (prepend xs) (many_open ends p k t rest false e) ∙ ap (λ o. prepend xs (o >>= λ q. many_at ends p k q.1 >>= λ r. Ok (q.0 ∷ r.0, r.1))) stops

many_goes : {A : Type 0} (ends : TheToken → Bool) (p : List TheToken → Read A) (whole : Read (List A)) (xs : List A) (x : A) (rest after : List TheToken) (k : ℕ)
    → length rest ≤ k → begins ends rest ≡ false → p rest ≡ Ok (x, after) → length after < length rest → prepend xs (many_at ends p k rest) ≡ whole
    → Left (many_at ends p) whole (xs ++ x ∷ []) after
many_goes ends p whole xs x [] after k short e one less j = absurd (omega arith)
many_goes ends p whole xs x (t ∷ rest) after zero short e one less j = absurd (omega arith)
many_goes ends p whole xs x (t ∷ rest) after (suc k) short e one less j =
    record {
      fuel = k;
      enough = omega arith;
      joins = sym (prepend_one xs x (many_at ends p k after))
          ∙ sym (ap (λ o. prepend xs (o >>= λ q. many_at ends p k q.1 >>= λ r. Ok (q.0 ∷ r.0, r.1))) one)
          ∙ sym (ap (prepend xs) (many_open ends p k t rest false e)) ∙ j;
    }

-- Where the next item stops, the whole stops.
pub left_stops : {A : Type 0} {L : List TheToken → A → Type 0} {F : List TheToken → Type 0} (ends : TheToken → Bool) {p : List TheToken → Read A} {whole : Read (List A)} {xs : List A} {rest : List TheToken} (e : ParseStop)
    → Reads L F p → Left (many_at ends p) whole xs rest → begins ends rest ≡ false → Fails e (p rest) → Fails e whole
left_stops ends {p = p} {whole = whole} {xs = xs} {rest = rest} stops.Memory reads left more stopped = tt
left_stops ends {p = p} {whole = whole} {xs = xs} {rest = rest} (stops.Unexpected at) reads left more stopped =
    many_stops ends p whole xs rest (map token_of at.now) left.fuel reads left.enough more stopped left.joins

-- Another item, and what is left then.
pub left_goes : {A : Type 0} (ends : TheToken → Bool) (p : List TheToken → Read A) {whole : Read (List A)} {xs : List A} {rest : List TheToken} (x : A) (after : List TheToken)
    → Left (many_at ends p) whole xs rest → begins ends rest ≡ false → p rest ≡ Ok (x, after) → length after < length rest
    → Left (many_at ends p) whole (xs ++ x ∷ []) after
left_goes ends p {whole = whole} {xs = xs} {rest = rest} x after left e one less =
    many_goes ends p whole xs x rest after left.fuel left.enough e one less left.joins

-- Lists with commas.

separated_by : {A : Type 0} (ends : TheToken → Bool) (p : List TheToken → Read A) (tokens : List TheToken) (test : Bool) → begins ends tokens ≡ test
    → separated_at ends p tokens ≡ (if test then Ok ([], tokens) else (p tokens >>= λ q. many_at ends (behind_comma p) (length q.1) q.1 >>= λ r. Ok (q.0 ∷ r.0, r.1)))
separated_by ends p tokens test e =
    ap (λ b. if b then Ok ([], tokens) else (p tokens >>= λ q. many_at ends (behind_comma p) (length q.1) q.1 >>= λ r. Ok (q.0 ∷ r.0, r.1))) e

pub separated_none : {A : Type 0} (ends : TheToken → Bool) (p : List TheToken → Read A) (tokens : List TheToken) → begins ends tokens ≡ true → separated_at ends p tokens ≡ Ok ([], tokens)
separated_none ends p tokens e = separated_by ends p tokens true e

pub separated_stops : {A : Type 0} (ends : TheToken → Bool) (p : List TheToken → Read A) (tokens : List TheToken) (e : ParseStop) → begins ends tokens ≡ false → Fails e (p tokens) → Fails e (separated_at ends p tokens)
separated_stops ends p tokens stops.Memory more stopped = tt
separated_stops ends p tokens (stops.Unexpected at) more stopped =
    separated_by ends p tokens false more ∙ ap (λ o. o >>= λ q. many_at ends (behind_comma p) (length q.1) q.1 >>= λ r. Ok (q.0 ∷ r.0, r.1)) stopped

consed : {A : Type 0} (x : A) (o : Read (List A)) → prepend (x ∷ []) o ≡ (o >>= λ r. Ok (x ∷ r.0, r.1))
consed x (Ok p) = refl
consed x (Err rest) = refl

pub separated_begun : {A : Type 0} (ends : TheToken → Bool) (p : List TheToken → Read A) (tokens : List TheToken) (x : A) (rest : List TheToken) → begins ends tokens ≡ false → p tokens ≡ Ok (x, rest)
    → Left (many_at ends (behind_comma p)) (separated_at ends p tokens) (x ∷ []) rest
separated_begun ends p tokens x rest more first =
    record {
      fuel = length rest;
      enough = omega arith;
      joins = consed x (many_at ends (behind_comma p) (length rest) rest)
          ∙ sym (ap (λ o. o >>= λ q. many_at ends (behind_comma p) (length q.1) q.1 >>= λ r. Ok (q.0 ∷ r.0, r.1)) first)
          ∙ sym (separated_by ends p tokens false more);
    }

pub comma_stops : {A : Type 0} (p : List TheToken → Read A) (tokens : List TheToken) (e : ParseStop) → Fails e (mark_at Comma tokens) → Fails e (behind_comma p tokens)
comma_stops p tokens stops.Memory stopped = tt
comma_stops p tokens (stops.Unexpected at) stopped = ap (λ o. o >>= λ comma. p comma.1) stopped

pub behind_comma_is : {A : Type 0} (p : List TheToken → Read A) (tokens after : List TheToken) → mark_at Comma tokens ≡ Ok (tt, after) → behind_comma p tokens ≡ p after
behind_comma_is p tokens after comma = ap (λ o. o >>= λ comma. p comma.1) comma

pub behind_comma_stops : {A : Type 0} (p : List TheToken → Read A) (tokens after : List TheToken) (e : ParseStop) → mark_at Comma tokens ≡ Ok (tt, after) → Fails e (p after) → Fails e (behind_comma p tokens)
behind_comma_stops p tokens after stops.Memory comma stopped = tt
behind_comma_stops p tokens after (stops.Unexpected at) comma stopped = behind_comma_is p tokens after comma ∙ stopped

-- The names of an enum.

-- what stands behind a name
abbrev rest_of_members : ℕ → List TheToken → Read (List TheName)
rest_of_members k rest = if begins (λ token. is_mark token Comma) rest then (mark_at Comma rest >>= λ comma. members_at k comma.1) else Ok ([], rest)

members_open : (k : ℕ) (t : TheToken) (rest : List TheToken) (test : Bool) → begins (λ token. is_mark token CloseBrace) (t ∷ rest) ≡ test
    → members_at (suc k) (t ∷ rest) ≡ (if test then Ok ([], t ∷ rest) else (one_at name_in (t ∷ rest) >>= λ p. rest_of_members k p.1 >>= λ q. Ok (p.0 ∷ q.0, q.1)))
members_open k t rest test e =
    ap (λ b. if b then Ok ([], t ∷ rest) else (one_at name_in (t ∷ rest) >>= λ p. rest_of_members k p.1 >>= λ q. Ok (p.0 ∷ q.0, q.1))) e

-- one name, and what is read behind it
members_one : (whole : Read (List TheName)) (xs : List TheName) (x : TheName) (rest after : List TheToken) (k : ℕ)
    → length rest ≤ k → begins (λ token. is_mark token CloseBrace) rest ≡ false → one_at name_in rest ≡ Ok (x, after) → prepend xs (members_at k rest) ≡ whole
    → (fuel : ℕ) × ((suc fuel ≡ k) × (prepend (xs ++ x ∷ []) (rest_of_members fuel after) ≡ whole))
members_one whole xs x [] after k short e one j = cc
members_one whole xs x (t ∷ rest) after zero short e one j = absurd (omega arith)
members_one whole xs x (t ∷ rest) after (suc k) short e one j = (
  k,
  (
    refl,
    sym (prepend_one xs x (rest_of_members k after))
        ∙ sym (ap (λ o. prepend xs (o >>= λ p. rest_of_members k p.1 >>= λ q. Ok (p.0 ∷ q.0, q.1))) one)
        ∙ sym (ap (prepend xs) (members_open k t rest false e)) ∙ j,
  ),
)

rest_by : (k : ℕ) (rest : List TheToken) (test : Bool) → begins (λ token. is_mark token Comma) rest ≡ test
    → rest_of_members k rest ≡ (if test then (mark_at Comma rest >>= λ comma. members_at k comma.1) else Ok ([], rest))
rest_by k rest test e = ap (λ b. if b then (mark_at Comma rest >>= λ comma. members_at k comma.1) else Ok ([], rest)) e

-- The last name has no comma behind it.
pub members_last : {whole : Read (List TheName)} {xs : List TheName} {rest : List TheToken} (x : TheName) (after : List TheToken)
    → Left members_at whole xs rest → begins (λ token. is_mark token CloseBrace) rest ≡ false → one_at name_in rest ≡ Ok (x, after)
    → begins (λ token. is_mark token Comma) after ≡ false → whole ≡ Ok (xs ++ x ∷ [], after)
members_last {whole = whole} {xs = xs} {rest = rest} x after left more one none =
    let (k, (fuel, joined)) = members_one whole xs x rest after left.fuel left.enough more one left.joins in
    sym joined ∙ ap (prepend (xs ++ x ∷ [])) (rest_by k after false none) ∙ ap (λ z. Ok (z, after)) (append-nil (xs ++ x ∷ []))

pub members_go : {whole : Read (List TheName)} {xs : List TheName} {rest : List TheToken} (x : TheName) (after next : List TheToken)
    → Left members_at whole xs rest → begins (λ token. is_mark token CloseBrace) rest ≡ false → one_at name_in rest ≡ Ok (x, after)
    → begins (λ token. is_mark token Comma) after ≡ true → mark_at Comma after ≡ Ok (tt, next) → length next < length rest
    → Left members_at whole (xs ++ x ∷ []) next
members_go {whole = whole} {xs = xs} {rest = rest} x after next left more one comma taken less =
    let (k, (fuel, joined)) = members_one whole xs x rest after left.fuel left.enough more one left.joins in
    let enough : length rest ≤ left.fuel = left.enough in
    record {
      fuel = k;
      enough = omega arith;
      joins = sym (ap (λ o. prepend (xs ++ x ∷ []) (o >>= λ comma. members_at k comma.1)) taken)
          ∙ sym (ap (prepend (xs ++ x ∷ [])) (rest_by k after true comma)) ∙ joined;
    }
