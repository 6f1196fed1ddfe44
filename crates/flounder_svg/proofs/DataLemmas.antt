-- Spellings joined spell what was joined, and what appends one piece adds its character.
use Rattle.std.proofs.Common.{◌≡◌, ◌++◌, ◌∷◌, [], ◌∙◌, ℕ, List, subst, sym, ap, append_assoc, append-nil, arith}
use Rattle.std.specs.Prelude.{Result, Ok, Err, OnOk, is_ok, if◌then◌else◌, codes}
use Rattle.std.specs.Fmt.{decimal}
use Rattle.flounder_svg.specs.Xml.{Spells, nothing, line_end, plain, less, greater, ampersand, quote, numbered, IsPlain, IsXmlCharacter}
use Rattle.flounder_svg.specs.Shown.{AddsText, AreShownAs, none, one_more, IsShownAs}

-- what stands behind two lists, and one piece more of each
next : (a b text chars piece more : List ℕ) → Spells ((a ++ text) ++ piece) ((b ++ chars) ++ more) → Spells (a ++ (text ++ piece)) (b ++ (chars ++ more))
next a b text chars piece more d =
    subst (λ (l : List ℕ). Spells (a ++ (text ++ piece)) l) (append_assoc b chars more)
    (subst (λ (l : List ℕ). Spells l ((b ++ chars) ++ more)) (append_assoc a text piece) d)

pub joined : (a b c d : List ℕ) → Spells a b → Spells c d → Spells (a ++ c) (b ++ d)
joined a b c d s nothing = subst (λ (l : List ℕ). Spells (a ++ []) l) (sym (append-nil b)) (subst (λ (l : List ℕ). Spells l b) (sym (append-nil a)) s)
joined a b c d s (line_end text chars e) = next a b text chars _ _ (line_end _ _ (joined a b text chars s e))
joined a b c d s (plain text chars byte e p) = next a b text chars _ _ (plain _ _ byte (joined a b text chars s e) p)
joined a b c d s (less text chars e) = next a b text chars _ _ (less _ _ (joined a b text chars s e))
joined a b c d s (greater text chars e) = next a b text chars _ _ (greater _ _ (joined a b text chars s e))
joined a b c d s (ampersand text chars e) = next a b text chars _ _ (ampersand _ _ (joined a b text chars s e))
joined a b c d s (quote text chars e) = next a b text chars _ _ (quote _ _ (joined a b text chars s e))
joined a b c d s (numbered text chars n e l) =
    next a b text chars (codes "&#" ++ decimal n ++ codes ";") (n ∷ []) (numbered (a ++ text) (b ++ chars) n (joined a b text chars s e) l)

shown_joined : (a b c d : List ℕ) → AreShownAs a b → AreShownAs c d → AreShownAs (a ++ c) (b ++ d)
shown_joined a b c d s none = subst (λ (l : List ℕ). AreShownAs (a ++ []) l) (sym (append-nil b)) (subst (λ (l : List ℕ). AreShownAs l b) (sym (append-nil a)) s)
shown_joined a b c d s (one_more text shown x y e h) =
    subst (λ (l : List ℕ). AreShownAs (a ++ (text ++ x ∷ [])) l) (append_assoc b shown (y ∷ []))
    (subst (λ (l : List ℕ). AreShownAs l ((b ++ shown) ++ y ∷ [])) (append_assoc a text (x ∷ []))
    (one_more (a ++ text) (b ++ shown) x y (shown_joined a b text shown s e) h))

-- nothing was added yet
pub none_added : (old : List ℕ) → AddsText [] old old
none_added old = record { shown = []; are_shown = none; spelling = []; spelled = nothing; added = sym (append-nil old) }

pub then_added : (s t a b c : List ℕ) → AddsText s a b → AddsText t b c → AddsText (s ++ t) a c
then_added s t a b c p q = record {
  shown = p.shown ++ q.shown;
  are_shown = shown_joined s p.shown t q.shown p.are_shown q.are_shown;
  spelling = p.spelling ++ q.spelling;
  spelled = joined p.spelling p.shown q.spelling q.shown p.spelled q.spelled;
  added = q.added ∙ ap (λ (l : List ℕ). l ++ q.spelling) p.added ∙ append_assoc a p.spelling q.spelling;
}

-- a character was added, spelled by a piece
pub character_added : (c d : ℕ) (old new piece : List ℕ) → IsShownAs c d → Spells piece (d ∷ []) → new ≡ old ++ piece → AddsText (c ∷ []) old new
character_added c d old new piece h s e = record {
  shown = d ∷ [];
  are_shown = one_more [] [] c d none h;
  spelling = piece;
  spelled = s;
  added = e;
}

-- the same, or memory was refused
pub piece_added : {T E : Type 0} (r : Result T E) (c d : ℕ) (old new piece : List ℕ) → IsShownAs c d → Spells piece (d ∷ [])
    → new ≡ (if is_ok r then old ++ piece else old) → OnOk r (AddsText (c ∷ []) old new)
piece_added (Ok x) c d old new piece h s e = character_added c d old new piece h s e
piece_added (Err x) c d old new piece h s e = tt

-- a blank
blank : IsPlain 32
blank = (omega arith, (omega arith, (omega arith, (omega arith, (omega arith, omega arith)))))

pub blank_spelled : Spells (32 ∷ []) (32 ∷ [])
blank_spelled = plain [] [] 32 nothing blank

-- a reference by a number
pub reference_spelled : (c : ℕ) (piece : List ℕ) → IsXmlCharacter c → piece ≡ codes "&#" ++ decimal c ++ codes ";" → Spells piece (c ∷ [])
reference_spelled c piece l e = subst (λ (p : List ℕ). Spells p (c ∷ [])) (sym e) (numbered [] [] c nothing l)

-- a text that is put in character by character, while some characters are left
pub record PutSoFar (text left old new : List ℕ) : Type 0 where
  pub done : List ℕ
  pub are_all : done ++ left ≡ text
  pub put : AddsText done old new

pub none_put : (text left old : List ℕ) → left ≡ text → PutSoFar text left old old
none_put text left old e = record { done = []; are_all = e; put = none_added old }

pub one_put : (text left left' old new new' : List ℕ) (c : ℕ) → PutSoFar text left old new → left ≡ c ∷ left' → AddsText (c ∷ []) new new'
    → PutSoFar text left' old new'
one_put text left left' old new new' c p e a = record {
  done = p.done ++ c ∷ [];
  are_all = append_assoc p.done (c ∷ []) left' ∙ ap (λ (l : List ℕ). p.done ++ l) (sym e) ∙ p.are_all;
  put = then_added p.done (c ∷ []) old new new' p.put a;
}

pub all_put : (text left old new : List ℕ) → PutSoFar text left old new → left ≡ [] → AddsText text old new
all_put text left old new p e =
    subst (λ (l : List ℕ). AddsText l old new) (sym (append-nil p.done) ∙ ap (λ (l : List ℕ). p.done ++ l) (sym e) ∙ p.are_all) p.put
