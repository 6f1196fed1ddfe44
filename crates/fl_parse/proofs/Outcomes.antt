-- From the reading of an interface's body to the outcome of a text.
use Rattle.std.proofs.Common.{◌≡◌, ℕ, Bool, true, false, List, [], ◌∷◌, ◌++◌, Option, Some, None, Ok, Err, refl, sym, ◌∙◌, ap, subst, inl, inr, ◌⊎◌, if◌then◌else◌, append_assoc, length, map, arith, ◌<◌, ◌≤◌, IfSome, slice_index_or}
use Rattle.std.proofs.lemmas.List.{append-nil}
use Rattle.fl_lex.specs.declared.token.Mark.TheVariants.{Semicolon}
use Rattle.fl_lex.specs.declared.token.Token.{Token}
use Rattle.fl_lex.specs.Token.{TheToken, TheTokens, token_of}
use Rattle.fl_parse.specs.declared.stop.ParseStop.{ParseStop}
use Rattle.fl_parse.specs.declared.stop.ParseStop.TheVariants as stops
use Rattle.fl_parse.specs.Tree.{TheTree}
use Rattle.fl_parse.specs.Grammar.{Optional, TheMark, Body, Derives, Begins, NumberAfter, FaultAtToken, ParseOutcome, parsed, parse_fault, Parses, is_mark, if_so}
use Rattle.fl_parse.specs.Outcome.{fault_outcome, SomeOutcome}
use Rattle.fl_parse.specs.Parts.{stop_fault}
use Rattle.fl_parse.specs.Reading.{Read, Fails, body_at, behind_semicolon, place_of}
use Rattle.fl_parse.proofs.Laws.{SameFirst, WasRead, WasRefused, Answers, Any, left_over}
use Rattle.fl_parse.proofs.Lists.{so_true}
use Rattle.fl_parse.proofs.Productions.{body_reads}

-- nothing, or one semicolon
abbrev Ending : List TheToken → Type 0
Ending back = (back ≡ []) ⊎ ((s : TheToken) × ((back ≡ s ∷ []) × (is_mark s Semicolon ≡ true)))

-- a body and its ending
record Ended (tokens : List TheToken) (tree : TheTree) : Type 0 where
  prefix : List TheToken
  back : List TheToken
  tokens_are : tokens ≡ prefix ++ back
  body : Body prefix tree
  ending : Ending back

ending_of : (found : Option (Unit {0})) (tokens : List TheToken) → Optional (TheMark Semicolon) tokens found → Ending tokens
ending_of None tokens l = inl l
ending_of (Some x) tokens l = inr (l.token, (l.tokens_are, so_true (is_mark l.token Semicolon) tt x l.reads))

ended : (tokens : List TheToken) (tree : TheTree) → Derives tokens tree → Ended tokens tree
ended tokens tree d =
    let semi : Ending d.back_is.prefix = ending_of d.back_is.middle d.back_is.prefix d.back_is.prefix_is in
    let all : d.back ≡ d.back_is.prefix = d.back_is.tokens_are ∙ ap (λ (z : List TheToken). d.back_is.prefix ++ z) d.back_is.back_is.tokens_are ∙ append-nil d.back_is.prefix in
    record {
      prefix = d.prefix;
      back = d.back;
      tokens_are = d.tokens_are;
      body = subst (λ (z : TheTree). Body d.prefix z) (sym d.back_is.back_is.value_is) d.prefix_is;
      ending = subst Ending (sym all) semi;
    }

derives : (tokens prefix back : List TheToken) (tree : TheTree) → tokens ≡ prefix ++ back → Body prefix tree → Ending back → Derives tokens tree
derives tokens prefix back tree split body (inl none) =
    record {
      prefix = prefix;
      back = back;
      middle = tree;
      tokens_are = split;
      prefix_is = body;
      back_is = record { prefix = []; back = []; middle = None; tokens_are = none; prefix_is = refl; back_is = record { tokens_are = refl; value_is = refl } };
    }
derives tokens prefix back tree split body (inr (s, (one, semi))) =
    record {
      prefix = prefix;
      back = back;
      middle = tree;
      tokens_are = split;
      prefix_is = body;
      back_is = record {
        prefix = s ∷ [];
        back = [];
        middle = Some tt;
        tokens_are = one;
        prefix_is = record { token = s; tokens_are = refl; reads = ap (λ b. if_so b tt) semi };
        back_is = record { tokens_are = refl; value_is = refl };
      };
    }

-- A body, and what is left of the text behind its semicolon.

pub is_parsed : (tokens : List TheToken) (tree : TheTree) (rest : List TheToken) → WasRead Body Any tokens tree rest → behind_semicolon rest ≡ [] → Derives tokens tree
is_parsed tokens tree [] h e = derives tokens h.prefix [] tree h.tokens_are h.is (inl refl)
is_parsed tokens tree (s ∷ rest) h e = by_test (is_mark s Semicolon) refl e
  where
    by_test : (b : Bool) → is_mark s Semicolon ≡ b → (if b then rest else s ∷ rest) ≡ [] → Derives tokens tree
    by_test true semi e = derives tokens h.prefix (s ∷ rest) tree h.tokens_are h.is (inr (s, (ap (λ (z : List TheToken). s ∷ z) e, semi)))
    by_test false semi e = cc

-- what follows a body in a text that begins as this one
next_is : (tokens : List TheToken) (tree : TheTree) (rest : List TheToken) (h : WasRead Body Any tokens tree rest) (other : List TheToken) (found : TheTree)
    → SameFirst rest other → Derives (h.prefix ++ other) found → Ending other
next_is tokens tree rest h other found s d =
    let e : Ended (h.prefix ++ other) found = ended (h.prefix ++ other) found d in
    let one = h.only other e.prefix e.back found s e.body tt (sym e.tokens_are) in
    let back : e.back ≡ other = left_over e.prefix h.prefix e.back other one.0 (sym e.tokens_are) in
    subst Ending back e.ending

longer : (s t : TheToken) (more : List TheToken) → Ending (s ∷ t ∷ more) → ⊥
longer s t more (inl none) = cc
longer s t more (inr (u, (one, semi))) = cc

not_semicolon : (s : TheToken) (more : List TheToken) → is_mark s Semicolon ≡ false → Ending (s ∷ more) → ⊥
not_semicolon s more none (inl empty) = cc
not_semicolon s more none (inr (u, (one, semi))) =
    let same : s ≡ u = cc in
    let passes : is_mark s Semicolon ≡ true = ap (λ (z : TheToken). is_mark z Semicolon) same ∙ semi in
    cc

pub is_after : (tokens : List TheToken) (tree : TheTree) (rest : List TheToken) (t : TheToken) (later : List TheToken)
    → WasRead Body Any tokens tree rest → behind_semicolon rest ≡ t ∷ later → FaultAtToken tokens 8 t.at
is_after tokens tree [] t later h e = cc
is_after tokens tree (s ∷ rest) t later h e = by_test (is_mark s Semicolon) refl e
  where
    by_test : (b : Bool) → is_mark s Semicolon ≡ b → (if b then rest else s ∷ rest) ≡ t ∷ later → FaultAtToken tokens 8 t.at
    by_test true semi e =
        let whole : Derives (h.prefix ++ s ∷ []) tree = derives (h.prefix ++ s ∷ []) h.prefix (s ∷ []) tree refl h.is (inr (s, (refl, semi))) in
        record {
          prefix = h.prefix ++ s ∷ [];
          token = t;
          later = later;
          tokens_are = h.tokens_are ∙ ap (λ (z : List TheToken). h.prefix ++ s ∷ z) e ∙ sym (append_assoc h.prefix (s ∷ []) (t ∷ later));
          begins = record { more = []; tree = tree; derives = subst (λ (z : List TheToken). Derives z tree) (sym (append-nil (h.prefix ++ s ∷ []))) whole };
          no_more = λ b.
              let all : ((h.prefix ++ s ∷ []) ++ t ∷ []) ++ b.more ≡ h.prefix ++ (s ∷ t ∷ b.more) =
              append_assoc (h.prefix ++ s ∷ []) (t ∷ []) b.more ∙ append_assoc h.prefix (s ∷ []) (t ∷ b.more) in
              longer s t b.more (next_is tokens tree (s ∷ rest) h (s ∷ t ∷ b.more) b.tree refl (subst (λ (z : List TheToken). Derives z b.tree) all b.derives));
          number_is = inl (refl, tree, whole);
          at_is = refl;
        }
    by_test false semi e =
        let whole : Derives h.prefix tree = derives h.prefix h.prefix [] tree (sym (append-nil h.prefix)) h.is (inl refl) in
        let same : s ≡ t = cc in
        record {
          prefix = h.prefix;
          token = s;
          later = rest;
          tokens_are = h.tokens_are;
          begins = record { more = []; tree = tree; derives = subst (λ (z : List TheToken). Derives z tree) (sym (append-nil h.prefix)) whole };
          no_more = λ b.
              let all : (h.prefix ++ s ∷ []) ++ b.more ≡ h.prefix ++ (s ∷ b.more) = append_assoc h.prefix (s ∷ []) b.more in
              not_semicolon s b.more semi (next_is tokens tree (s ∷ rest) h (s ∷ b.more) b.tree refl (subst (λ (z : List TheToken). Derives z b.tree) all b.derives));
          number_is = inl (refl, tree, whole);
          at_is = ap (λ (z : TheToken). z.at) (sym same);
        }

-- A body that stopped.

stops_at : (tokens : List TheToken) (rest other : List TheToken) (h : WasRefused Body Any tokens rest) (tree : TheTree)
    → SameFirst rest other → (all more : List TheToken) → Derives all tree → all ++ more ≡ h.prefix ++ other → ⊥
stops_at tokens rest other h tree s all more d e =
    let done : Ended all tree = ended all tree d in
    h.none other done.prefix (done.back ++ more) tree s done.body tt
    (sym (append_assoc done.prefix done.back more) ∙ ap (λ (z : List TheToken). z ++ more) (sym done.tokens_are) ∙ e)

pub is_stopped : (tokens : TheTokens) (rest : List TheToken) → WasRefused Body Any tokens.tokens rest → Parses tokens (parse_fault 7 (place_of rest tokens.end))
is_stopped tokens (t ∷ later) h =
    inl (record {
      prefix = h.prefix;
      token = t;
      later = later;
      tokens_are = h.tokens_are;
      begins = record { more = h.more; tree = h.example; derives = derives (h.prefix ++ h.more) (h.prefix ++ h.more) [] h.example (sym (append-nil (h.prefix ++ h.more))) h.begins_one (inl refl) };
      no_more = λ b. stops_at tokens.tokens (t ∷ later) (t ∷ b.more) h b.tree refl ((h.prefix ++ t ∷ []) ++ b.more) [] b.derives
          (append-nil ((h.prefix ++ t ∷ []) ++ b.more) ∙ append_assoc h.prefix (t ∷ []) b.more);
      number_is = inr (refl, λ tree d. stops_at tokens.tokens (t ∷ later) (t ∷ later) h tree refl h.prefix (t ∷ later) d refl);
      at_is = refl;
    })
is_stopped tokens [] h =
    let all : tokens.tokens ≡ h.prefix = h.tokens_are ∙ append-nil h.prefix in
    inr (record {
      begins = record {
        more = h.more;
        tree = h.example;
        derives = derives (tokens.tokens ++ h.more) (h.prefix ++ h.more) [] h.example (ap (λ (z : List TheToken). z ++ h.more) all ∙ sym (append-nil (h.prefix ++ h.more))) h.begins_one (inl refl);
      };
      no_tree = λ tree d. stops_at tokens.tokens [] [] h tree tt tokens.tokens [] d (ap (λ (z : List TheToken). z ++ []) all);
      number_is = refl;
      at_is = refl;
    })

-- what the body's reading says
pub body_read : (tokens rest : List TheToken) (tree : TheTree) → body_at tokens ≡ Ok (tree, rest) → WasRead Body Any tokens tree rest
body_read tokens rest tree e = subst (λ o. Answers Body Any tokens o) e (body_reads.answers tokens)

pub body_stopped : (tokens rest : List TheToken) → body_at tokens ≡ Err rest → WasRefused Body Any tokens rest
body_stopped tokens rest e = subst (λ o. Answers Body Any tokens o) e (body_reads.answers tokens)

-- Some outcome.

module _ (tokens : TheTokens) (tree : TheTree) (rest : List TheToken) (read : WasRead Body Any tokens.tokens tree rest) where
  some_behind : (left : List TheToken) → behind_semicolon rest ≡ left → (outcome : ParseOutcome) × Parses tokens outcome
  some_behind [] e = (parsed tree, is_parsed tokens.tokens tree rest read e)
  some_behind (t ∷ later) e = (parse_fault 8 t.at, inl (is_after tokens.tokens tree rest t later read e))

some_by : (tokens : TheTokens) (o : Read TheTree) → body_at tokens.tokens ≡ o → (outcome : ParseOutcome) × Parses tokens outcome
some_by tokens (Ok p) e = some_behind tokens p.0 p.1 (body_read tokens.tokens p.1 p.0 e) (behind_semicolon p.1) refl
some_by tokens (Err rest) e = (parse_fault 7 (place_of rest tokens.end), is_stopped tokens rest (body_stopped tokens.tokens rest e))

pub some_outcome : SomeOutcome
some_outcome tokens = some_by tokens (body_at tokens.tokens) refl

-- One outcome at most.

same_tree : (tokens : List TheToken) (o : Read TheTree) (x y : TheTree) → Answers Body Any tokens o → Ended tokens x → Ended tokens y → x ≡ y
same_tree tokens (Err rest) x y h a b = absurd (h.none rest a.prefix a.back x (same_self rest) a.body tt (sym a.tokens_are ∙ h.tokens_are))
  where
    same_self : (l : List TheToken) → SameFirst l l
    same_self [] = tt
    same_self (t ∷ l) = refl
same_tree tokens (Ok p) x y h a b =
    (h.only p.1 a.prefix a.back x (same_self p.1) a.body tt (sym a.tokens_are ∙ h.tokens_are)).1
    ∙ sym ((h.only p.1 b.prefix b.back y (same_self p.1) b.body tt (sym b.tokens_are ∙ h.tokens_are)).1)
  where
    same_self : (l : List TheToken) → SameFirst l l
    same_self [] = tt
    same_self (t ∷ l) = refl

pub one_tree : (tokens : List TheToken) (x y : TheTree) → Derives tokens x → Derives tokens y → x ≡ y
one_tree tokens x y a b = same_tree tokens (body_at tokens) x y (body_reads.answers tokens) (ended tokens x a) (ended tokens y b)

-- what begins a list that begins a derivable one does so too
begins_less : (all prefix more : List TheToken) → Begins all → all ≡ prefix ++ more → Begins prefix
begins_less all prefix more b e =
    record {
      more = more ++ b.more;
      tree = b.tree;
      derives = subst (λ (z : List TheToken). Derives z b.tree) (ap (λ (z : List TheToken). z ++ b.more) e ∙ append_assoc prefix more b.more) b.derives;
    }

begins_all : (all : List TheToken) (tree : TheTree) → Derives all tree → Begins all
begins_all all tree d = record { more = []; tree = tree; derives = subst (λ (z : List TheToken). Derives z tree) (sym (append-nil all)) d }

-- a fault stands where no longer prefix begins a derivable list
not_past : (tokens : List TheToken) (n at : ℕ) (f : FaultAtToken tokens n at) (all more : List TheToken) → Begins all → all ≡ f.prefix ++ f.token ∷ more → ⊥
not_past tokens n at f all more b e =
    f.no_more (begins_less all (f.prefix ++ f.token ∷ []) more b (e ∙ sym (append_assoc f.prefix (f.token ∷ []) more)))

-- two ways to cut a list before a token: at one place, or one before the other
record Earlier (f : List TheToken) (t : TheToken) (g : List TheToken) : Type 0 where
  between : List TheToken
  is : g ≡ f ++ t ∷ between

cuts : (f g : List TheToken) (t u : TheToken) (l m : List TheToken) → f ++ t ∷ l ≡ g ++ u ∷ m → ((f ≡ g) × (t ≡ u)) ⊎ (Earlier f t g ⊎ Earlier g u f)
cuts [] [] t u l m e = inl (refl, cc)
cuts [] (x ∷ g) t u l m e = let same : x ≡ t = cc in inr (inl (record { between = g; is = ap (λ (z : TheToken). z ∷ g) same }))
cuts (x ∷ f) [] t u l m e = let same : x ≡ u = cc in inr (inr (record { between = f; is = ap (λ (z : TheToken). z ∷ f) same }))
cuts (x ∷ f) (y ∷ g) t u l m e =
    let head : x ≡ y = cc in
    let rest : f ++ t ∷ l ≡ g ++ u ∷ m = cc in
    further head (cuts f g t u l m rest)
  where
    further : x ≡ y → ((f ≡ g) × (t ≡ u)) ⊎ (Earlier f t g ⊎ Earlier g u f) → ((x ∷ f ≡ y ∷ g) × (t ≡ u)) ⊎ (Earlier (x ∷ f) t (y ∷ g) ⊎ Earlier (y ∷ g) u (x ∷ f))
    further head (inl (a, b)) = inl (cc, b)
    further head (inr (inl k)) = let is : g ≡ f ++ t ∷ k.between = k.is in inr (inl (record { between = k.between; is = cc }))
    further head (inr (inr k)) = let is : f ≡ g ++ u ∷ k.between = k.is in inr (inr (record { between = k.between; is = cc }))

same_number : (prefix : List TheToken) (m n : ℕ) → NumberAfter prefix m → NumberAfter prefix n → m ≡ n
same_number prefix m n (inl (a, tree, d)) (inl (b, tree2, d2)) = a ∙ sym b
same_number prefix m n (inl (a, tree, d)) (inr (b, none)) = absurd (none tree d)
same_number prefix m n (inr (a, none)) (inl (b, tree, d)) = absurd (none tree d)
same_number prefix m n (inr (a, none)) (inr (b, none2)) = a ∙ sym b

same_fault : (tokens : List TheToken) (m n at where_else : ℕ) (f : FaultAtToken tokens m at) (g : FaultAtToken tokens n where_else)
    → ((f.prefix ≡ g.prefix) × (f.token ≡ g.token)) ⊎ (Earlier f.prefix f.token g.prefix ⊎ Earlier g.prefix g.token f.prefix) → parse_fault m at ≡ parse_fault n where_else
same_fault tokens m n at where_else f g (inl (a, b)) =
    let number : m ≡ n = same_number g.prefix m n (subst (λ (z : List TheToken). NumberAfter z m) a f.number_is) g.number_is in
    let place : at ≡ where_else = f.at_is ∙ ap (λ (z : TheToken). z.at) b ∙ sym g.at_is in
    cc
same_fault tokens m n at where_else f g (inr (inl k)) = absurd (not_past tokens m at f g.prefix k.between g.begins k.is)
same_fault tokens m n at where_else f g (inr (inr k)) = absurd (not_past tokens n where_else g f.prefix k.between f.begins k.is)

pub one_outcome : (tokens : TheTokens) (x y : ParseOutcome) → Parses tokens x → Parses tokens y → x ≡ y
one_outcome tokens (parsed x) (parsed y) a b = ap parsed (one_tree tokens.tokens x y a b)
one_outcome tokens (parsed x) (parse_fault n at) a (inl f) = absurd (not_past tokens.tokens n at f tokens.tokens f.later (begins_all tokens.tokens x a) f.tokens_are)
one_outcome tokens (parsed x) (parse_fault n at) a (inr f) = absurd (f.no_tree x a)
one_outcome tokens (parse_fault n at) (parsed y) (inl f) b = absurd (not_past tokens.tokens n at f tokens.tokens f.later (begins_all tokens.tokens y b) f.tokens_are)
one_outcome tokens (parse_fault n at) (parsed y) (inr f) b = absurd (f.no_tree y b)
one_outcome tokens (parse_fault m at) (parse_fault n place) (inl f) (inl g) =
    same_fault tokens.tokens m n at place f g (cuts f.prefix g.prefix f.token g.token f.later g.later (sym f.tokens_are ∙ g.tokens_are))
one_outcome tokens (parse_fault m at) (parse_fault n place) (inl f) (inr g) = absurd (not_past tokens.tokens m at f tokens.tokens f.later g.begins f.tokens_are)
one_outcome tokens (parse_fault m at) (parse_fault n place) (inr f) (inl g) = absurd (not_past tokens.tokens n place g tokens.tokens g.later f.begins g.tokens_are)
one_outcome tokens (parse_fault m at) (parse_fault n place) (inr f) (inr g) =
    let number : m ≡ n = f.number_is ∙ sym g.number_is in
    let same : at ≡ place = f.at_is ∙ sym g.at_is in
    cc

-- What the code sees.

pub empty_rest : (tokens : List TheToken) (tree : TheTree) (rest : List TheToken) (xs : List Token) → body_at tokens ≡ Ok (tree, rest)
    → length xs < 1 → map token_of xs ≡ behind_semicolon rest → Derives tokens tree
empty_rest tokens tree rest [] e less after = is_parsed tokens tree rest (body_read tokens rest tree e) (sym after)
empty_rest tokens tree rest (x ∷ xs) e less after = absurd (omega arith)

pub some_rest : (tokens : List TheToken) (tree : TheTree) (rest : List TheToken) (xs : List Token) (d : Token) → body_at tokens ≡ Ok (tree, rest)
    → 1 ≤ length xs → map token_of xs ≡ behind_semicolon rest → FaultAtToken tokens 8 (slice_index_or xs 0 d).at
some_rest tokens tree rest [] d e some after = absurd (omega arith)
some_rest tokens tree rest (x ∷ xs) d e some after =
    is_after tokens tree rest (token_of x) (map token_of xs) (body_read tokens rest tree e) (sym after)

pub stopped_body : (tokens : TheTokens) (stop : ParseStop) → Fails stop (body_at tokens.tokens) → IfSome (fault_outcome (stop_fault stop tokens.end)) (λ found. Parses tokens found)
stopped_body tokens stops.Memory e = tt
stopped_body tokens (stops.Unexpected rest) e = is_stopped tokens (map token_of rest.now) (body_stopped tokens.tokens (map token_of rest.now) e)
