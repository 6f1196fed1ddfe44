-- Pieces of lines: what is read stands there, and what stands there is read.
use Rattle.std.proofs.Common.{◌≡◌, ◌⊎◌, inl, inr, ◌<◌, ℕ, ◌-◌, Bool, true, false, if◌then◌else◌, List, [], ◌∷◌, ◌++◌, length, take, drop, map, Option, Some, None, option_map, is_some, refl, sym, ap, subst, ◌∙◌, arith, length-append, append-nil, append_assoc}
use Rattle.std.specs.Prelude.{codes, unwrap_or}
use Rattle.std.specs.Str.{bytes_eq}
use Rattle.std.proofs.Math.Seq.{take-append_seam, drop-append_seam}
use Rattle.std.proofs.lemmas.Bool.Decides.{nat_tests}
use Rattle.std.proofs.lemmas.List.{take-append-drop}
use Rattle.std.proofs.lemmas.Slice.Eq.{bytes_eq-Decides}
use Rattle.fl_base.specs.declared.identity.Side.{Side}
use Rattle.fl_base.specs.declared.identity.Side.TheVariants.{Client, Server}
use Rattle.fl_base.specs.Given.{given}
use Rattle.fl_lex.specs.Words.{is_name}
use Rattle.fl_script_lines.specs.Words.{first_word, behind_word, is_none, number_of}
use Rattle.fl_script_lines.specs.Commands.{EndName, a_number, an_end, side_text, end_text}
use Rattle.fl_script_lines.specs.Grammar.{Holds}
use Rattle.fl_script_lines.specs.Reading.{name_before_end, end_of, name_then, at_last, one_number, two_numbers, one_end}
use Rattle.fl_script_lines.specs.Words.{words_of, numbers_of, numbers_in}
use Rattle.fl_script_lines.proofs.WordLemmas.{words_step, no_words, behind_shorter}

-- ---- what was read

pub given_some : {X Y : Type 0} (o : Option X) (f : X → Option Y) (y : Y) → given o None f ≡ Some y → (x : X) × (o ≡ Some x) × (f x ≡ Some y)
given_some None f y e = cc
given_some (Some x) f y e = (x, refl, e)

pub if_some : {A : Type 0} (b : Bool) (o : Option A) (y : A) → (if b then o else None) ≡ Some y → (b ≡ true) × (o ≡ Some y)
if_some true o y e = (refl, e)
if_some false o y e = cc

pub same_some : {A : Type 0} (x y : A) → Some x ≡ Some y → x ≡ y
same_some x y e = cc

pub none_is : (word : List ℕ) → is_none word ≡ true → word ≡ []
none_is [] e = refl
none_is (b ∷ word) e = let h : length (b ∷ word) ≡ 0 = grind (arith, nat_tests, e) in absurd (omega (arith, h))

pub name_some : {A : Type 0} (line : List ℕ) (f : List ℕ → List ℕ → Option A) (y : A) → name_then line f ≡ Some y
    → (is_name (first_word line) ≡ true) × (f (first_word line) (behind_word line) ≡ Some y)
name_some line f y e = if_some (is_name (first_word line)) (f (first_word line) (behind_word line)) y e

pub last_some : {A : Type 0} (line : List ℕ) (x y : A) → at_last line x ≡ Some y → (first_word line ≡ []) × (x ≡ y)
last_some line x y e =
    let h = if_some (is_none (first_word line)) (Some x) y e in (none_is (first_word line) h.0, same_some x y h.1)

pub number_some : (line : List ℕ) (n : ℕ) → one_number line ≡ Some n → Holds (a_number n ∷ []) line
number_some line n e =
    let (m, h, rest) = given_some (number_of (first_word line)) (λ m. at_last (behind_word line) m) n e in
    let (last, same) = last_some (behind_word line) m n rest in
    (h ∙ ap (λ k. Some k) same, last)

pub numbers_some : (line : List ℕ) (p : ℕ × ℕ) → two_numbers line ≡ Some p → Holds (a_number p.0 ∷ a_number p.1 ∷ []) line
numbers_some line p e =
    let (a, h, rest) = given_some (number_of (first_word line)) (λ m. given (one_number (behind_word line)) None λ n. Some (m, n)) p e in
    let (b, k, both) = given_some (one_number (behind_word line)) (λ n. Some (a, n)) p rest in
    subst (λ (q : ℕ × ℕ). Holds (a_number q.0 ∷ a_number q.1 ∷ []) line) (same_some (a, b) p both) (h, number_some (behind_word line) b k)

-- an end's word
split_end : (word side : List ℕ) → bytes_eq (drop (length word - 2) word) side ≡ true → word ≡ name_before_end word ++ side
split_end word side e =
    let same : drop (length word - 2) word ≡ side = (bytes_eq-Decides (drop (length word - 2) word) side).0 e in
    sym (take-append-drop (length word - 2) word) ∙ ap (λ (s : List ℕ). name_before_end word ++ s) same

either_side : (word : List ℕ) (c s : Bool) (e : EndName) → bytes_eq (drop (length word - 2) word) (codes ".c") ≡ c → bytes_eq (drop (length word - 2) word) (codes ".s") ≡ s
    → (if c then Some (record { binding = name_before_end word; side = Client }) else if s then Some (record { binding = name_before_end word; side = Server }) else None) ≡ Some e
    → (name_before_end word ≡ e.binding) × (word ≡ e.binding ++ side_text e.side)
either_side word true s e is_c is_s found =
    let one : EndName = record { binding = name_before_end word; side = Client } in
    let same : one ≡ e = same_some one e found in
    subst (λ (x : EndName). (name_before_end word ≡ x.binding) × (word ≡ x.binding ++ side_text x.side)) same (refl, split_end word (codes ".c") is_c)
either_side word false true e is_c is_s found =
    let one : EndName = record { binding = name_before_end word; side = Server } in
    let same : one ≡ e = same_some one e found in
    subst (λ (x : EndName). (name_before_end word ≡ x.binding) × (word ≡ x.binding ++ side_text x.side)) same (refl, split_end word (codes ".s") is_s)
either_side word false false e is_c is_s found = cc

pub end_some : (word : List ℕ) (e : EndName) → end_of word ≡ Some e → (word ≡ end_text e) × (is_name e.binding ≡ true)
end_some word e found =
    let h = if_some (is_name (name_before_end word)) _ e found in
    let k = either_side word (bytes_eq (drop (length word - 2) word) (codes ".c")) (bytes_eq (drop (length word - 2) word) (codes ".s")) e refl refl h.1 in
    (k.1, sym (ap is_name k.0) ∙ h.0)

pub one_end_some : (line : List ℕ) (e : EndName) → one_end line ≡ Some e → Holds (an_end e ∷ []) line
one_end_some line e found =
    let (x, h, rest) = given_some (end_of (first_word line)) (λ y. at_last (behind_word line) y) e found in
    let (last, same) = last_some (behind_word line) x e rest in
    let k = end_some (first_word line) e (h ∙ ap (λ y. Some y) same) in
    (k.0, k.1, last)

-- numbers up to the line's end
cons_some : (o : Option ℕ) (rest : Option (List ℕ)) (ns : List ℕ) → (given o None λ n. option_map (λ ms. n ∷ ms) rest) ≡ Some ns
    → (n : ℕ) × (ms : List ℕ) × (o ≡ Some n) × (rest ≡ Some ms) × (n ∷ ms ≡ ns)
cons_some None rest ns e = cc
cons_some (Some n) None ns e = cc
cons_some (Some n) (Some ms) ns e = (n, ms, refl, refl, same_some (n ∷ ms) ns e)

empty_is : (word : List ℕ) → length word ≡ 0 → word ≡ []
empty_is [] e = refl
empty_is (b ∷ word) e = absurd (omega (arith, e))

sized : (word : List ℕ) → (0 < length word) ⊎ (length word ≡ 0)
sized [] = inr refl
sized (b ∷ word) = inl (omega arith)

pub all_numbers : (ns line : List ℕ) → numbers_of (words_of line) ≡ Some ns → Holds (map (λ core. a_number core) ns) line
all_numbers [] line e = none_left (sized (first_word line))
  where
    none_left : (0 < length (first_word line)) ⊎ (length (first_word line) ≡ 0) → first_word line ≡ []
    none_left (inl some) =
        let step = ap numbers_of (words_step line some) in
        let (n, ms, h, k, same) = cons_some (number_of (first_word line)) (numbers_of (words_of (behind_word line))) [] (sym step ∙ e) in cc
    none_left (inr none) = empty_is (first_word line) none
all_numbers (n ∷ ns) line e = next (all_numbers ns (behind_word line)) (sized (first_word line))
  where
    next : (numbers_of (words_of (behind_word line)) ≡ Some ns → Holds (map (λ core. a_number core) ns) (behind_word line))
        → (0 < length (first_word line)) ⊎ (length (first_word line) ≡ 0) → Holds (map (λ core. a_number core) (n ∷ ns)) line
    next inner (inl some) =
        let step = ap numbers_of (words_step line some) in
        let (m, ms, h, k, same) = cons_some (number_of (first_word line)) (numbers_of (words_of (behind_word line))) (n ∷ ns) (sym step ∙ e) in
        let head : m ≡ n = cc in
        let tail : ms ≡ ns = cc in
        (h ∙ ap (λ x. Some x) head, inner (k ∙ ap (λ (x : List ℕ). Some x) tail))
    next inner (inr none) =
        let nothing = ap numbers_of (no_words line none) in
        let clash : Some [] ≡ Some (n ∷ ns) = sym nothing ∙ e in cc

-- ---- what stands there

pub by_given : {X Y : Type 0} (o : Option X) (x : X) (f : X → Option Y) → o ≡ Some x → given o None f ≡ f x
by_given o x f e = ap (λ (p : Option _). given p None f) e

pub last_reads : {A : Type 0} (line : List ℕ) (x : A) → first_word line ≡ [] → at_last line x ≡ Some x
last_reads line x e = ap (λ (w : List ℕ). if is_none w then Some x else None) e

pub name_reads : {A : Type 0} (line name : List ℕ) (f : List ℕ → List ℕ → Option A) → first_word line ≡ name → is_name name ≡ true
    → name_then line f ≡ f name (behind_word line)
name_reads line name f e h =
    ap (λ (w : List ℕ). if is_name w then f w (behind_word line) else None) e
    ∙ ap (λ (b : Bool). if b then f name (behind_word line) else None) h

pub number_reads : (line : List ℕ) (n : ℕ) → Holds (a_number n ∷ []) line → one_number line ≡ Some n
number_reads line n h = by_given (number_of (first_word line)) n (λ m. at_last (behind_word line) m) h.0 ∙ last_reads (behind_word line) n h.1

pub numbers_read : (line : List ℕ) (a b : ℕ) → Holds (a_number a ∷ a_number b ∷ []) line → two_numbers line ≡ Some (a, b)
numbers_read line a b h =
    by_given (number_of (first_word line)) a (λ m. given (one_number (behind_word line)) None λ n. Some (m, n)) h.0
    ∙ by_given (one_number (behind_word line)) b (λ n. Some (a, n)) (number_reads (behind_word line) b h.1)

end_with : (name side : List ℕ) → length side ≡ 2 → (take (length (name ++ side) - 2) (name ++ side) ≡ name) × (drop (length (name ++ side) - 2) (name ++ side) ≡ side)
end_with name side two =
    let long : length (name ++ side) - 2 ≡ length name = omega (arith, length-append name side, two) in
    (ap (λ k. take k (name ++ side)) long ∙ take-append_seam name side, ap (λ k. drop k (name ++ side)) long ∙ drop-append_seam name side)

-- what a name and what stands behind it make
abbrev side_of : List ℕ → List ℕ → Option EndName
side_of name side =
    if bytes_eq side (codes ".c") then Some (record { binding = name; side = Client })
    else if bytes_eq side (codes ".s") then Some (record { binding = name; side = Server })
    else None

two_long : (s : Side) → length (side_text s) ≡ 2
two_long Client = refl
two_long Server = refl

by_side : (name : List ℕ) (s : Side) → side_of name (side_text s) ≡ Some (record { binding = name; side = s })
by_side name Client = refl
by_side name Server = refl

pub end_reads : (e : EndName) → is_name e.binding ≡ true → end_of (end_text e) ≡ Some e
end_reads e h =
    let k = end_with e.binding (side_text e.side) (two_long e.side) in
    ap (λ (n : List ℕ). if is_name n then side_of n (drop (length (end_text e) - 2) (end_text e)) else None) k.0
    ∙ (ap (λ (b : Bool). if b then side_of e.binding (drop (length (end_text e) - 2) (end_text e)) else None) h
    ∙ (ap (side_of e.binding) k.1 ∙ by_side e.binding e.side))

pub one_end_reads : (line : List ℕ) (e : EndName) → Holds (an_end e ∷ []) line → one_end line ≡ Some e
one_end_reads line e h =
    by_given (end_of (first_word line)) e (λ y. at_last (behind_word line) y) (ap end_of h.0 ∙ end_reads e h.1)
    ∙ last_reads (behind_word line) e h.2

-- a word that writes a number is there
number_there : (word : List ℕ) (n : ℕ) → number_of word ≡ Some n → 0 < length word
number_there [] n e = cc
number_there (b ∷ word) n e = omega arith

pub numbers_stand : (ns line : List ℕ) → Holds (map (λ core. a_number core) ns) line → numbers_of (words_of line) ≡ Some ns
numbers_stand [] line h = ap numbers_of (no_words line (ap (λ (w : List ℕ). length w) h))
numbers_stand (n ∷ ns) line h =
    let step = ap numbers_of (words_step line (number_there (first_word line) n h.0)) in
    step
    ∙ (by_given (number_of (first_word line)) n (λ m. option_map (λ ms. m ∷ ms) (numbers_of (words_of (behind_word line)))) h.0
    ∙ ap (option_map (λ ms. n ∷ ms)) (numbers_stand ns (behind_word line) h.1))

-- ---- numbers, one after another

cons_there : (o : Option (List ℕ)) (n : ℕ) (whole : Option (List ℕ)) → whole ≡ option_map (λ ns. n ∷ ns) o → is_some whole ≡ true
    → (is_some o ≡ true) × (unwrap_or whole [] ≡ n ∷ unwrap_or o [])
cons_there None n whole e h = let none : is_some whole ≡ false = ap is_some e in cc
cons_there (Some ns) n whole e h = (refl, ap (λ (x : Option (List ℕ)). unwrap_or x []) e)

pub numbers_first : (rest : List ℕ) (n : ℕ) → number_of (first_word rest) ≡ Some n
    → numbers_of (words_of rest) ≡ option_map (λ ns. n ∷ ns) (numbers_of (words_of (behind_word rest)))
numbers_first rest n e =
    ap numbers_of (words_step rest (number_there (first_word rest) n e))
    ∙ by_given (number_of (first_word rest)) n (λ m. option_map (λ ms. m ∷ ms) (numbers_of (words_of (behind_word rest)))) e

-- one number more was taken
pub one_more : (rest word behind taken after whole : List ℕ) (n : ℕ) → (is_some (numbers_of (words_of rest)) ≡ true) × (taken ++ numbers_in rest ≡ whole)
    → word ≡ first_word rest → behind ≡ behind_word rest → number_of word ≡ Some n → after ≡ taken ++ n ∷ []
    → (is_some (numbers_of (words_of behind)) ≡ true) × (after ++ numbers_in behind ≡ whole)
one_more rest word behind taken after whole n h w b e a =
    let k = cons_there (numbers_of (words_of (behind_word rest))) n (numbers_of (words_of rest)) (numbers_first rest n (ap number_of (sym w) ∙ e)) h.0 in
    let joined : after ++ numbers_in behind ≡ taken ++ (n ∷ numbers_in (behind_word rest)) =
    rw (a, b) (append_assoc taken (n ∷ []) (numbers_in (behind_word rest))) in
    (ap (λ (x : List ℕ). is_some (numbers_of (words_of x))) b ∙ k.0, joined ∙ (ap (λ (x : List ℕ). taken ++ x) (sym k.1) ∙ h.1))

-- no number is left
pub none_more : (rest word taken whole : List ℕ) → (is_some (numbers_of (words_of rest)) ≡ true) × (taken ++ numbers_in rest ≡ whole)
    → word ≡ first_word rest → number_of word ≡ None → taken ≡ whole
none_more rest word taken whole h w e =
    sym (append-nil taken) ∙ (ap (λ (x : List ℕ). taken ++ x) (sym (none_left (sized (first_word rest)))) ∙ h.1)
  where
    none_left : (0 < length (first_word rest)) ⊎ (length (first_word rest) ≡ 0) → numbers_in rest ≡ []
    none_left (inl some) =
        let none : numbers_of (words_of rest) ≡ None =
        ap numbers_of (words_step rest some) ∙ ap (λ (o : Option ℕ). given o None λ m. option_map (λ ms. m ∷ ms) (numbers_of (words_of (behind_word rest)))) (ap number_of (sym w) ∙ e) in
        let clash : is_some (numbers_of (words_of rest)) ≡ false = ap is_some none in cc
    none_left (inr none) = ap (λ (ws : List (List ℕ)). unwrap_or (numbers_of ws) []) (no_words rest none)

pub shorter : (rest word : List ℕ) (n : ℕ) → word ≡ first_word rest → number_of word ≡ Some n → length (behind_word rest) < length rest
shorter rest word n w e = behind_shorter rest (number_there (first_word rest) n (ap number_of (sym w) ∙ e))
