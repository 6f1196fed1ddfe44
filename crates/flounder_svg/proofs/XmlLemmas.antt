-- Start tags and documents, step by step.
use Rattle.std.proofs.Common.{◌≡◌, ◌++◌, ◌∷◌, [], ◌∙◌, ℕ, List, subst, sym, ap, true, false, Bool, refl, append_assoc, append-nil}
use Rattle.std.specs.Prelude.{not, ◌&&◌, codes, if◌then◌else◌}
use Rattle.std.specs.List.{list_all}
use Rattle.std.specs.Str.{bytes_eq}
use Rattle.std.proofs.lemmas.Slice.Eq.{bytes_eq-Decides}
use Rattle.flounder_svg.specs.declared.names.Tag.{Tag}
use Rattle.flounder_svg.specs.declared.names.Attribute.{Attribute}
use Rattle.flounder_svg.specs.Names.{tag_name, attribute_name}
use Rattle.flounder_svg.specs.declared.names.Tag.TheVariants.{Svg}
use Rattle.flounder_svg.specs.Xml.{Spells, nothing, line_end, IsStart, named, IsNewTo, with_one_more, IsBegun, root, opened, closed, empty, told, end_tag}
use Rattle.flounder_svg.specs.Shown.{AddsText}

both : (a b : Bool) → (a && b) ≡ true → (a ≡ true) × (b ≡ true)
both true b h = (refl, h)
both false b h = absurd (cc)

names_differ : (n m : List ℕ) → not (bytes_eq n m) ≡ true → n ≡ m → ⊥
names_differ n m h e = differ_by (bytes_eq n m) h ((bytes_eq-Decides n m).1 e)
  where
    differ_by : (b : Bool) → not b ≡ true → b ≡ true → ⊥
    differ_by true h e = cc
    differ_by false h e = cc

names_do : (n m : List ℕ) → (n ≡ m → ⊥) → not (bytes_eq n m) ≡ true
names_do n m h = do_by (bytes_eq n m) (λ e. h ((bytes_eq-Decides n m).0 e))
  where
    do_by : (b : Bool) → (b ≡ true → ⊥) → not b ≡ true
    do_by true h = absurd (h refl)
    do_by false h = refl

both_true : (a b : Bool) → a ≡ true → b ≡ true → (a && b) ≡ true
both_true true b h e = e
both_true false b h e = absurd (cc)

-- an attribute whose name is another than all these is new to them, and the other way round
pub new_by_names : (given : List Attribute) (attribute : Attribute)
    → list_all (λ other. not (bytes_eq (attribute_name other) (attribute_name attribute))) given ≡ true → IsNewTo given attribute
new_by_names [] attribute h = tt
new_by_names (other ∷ given) attribute h =
    let p = both (not (bytes_eq (attribute_name other) (attribute_name attribute))) (list_all (λ o. not (bytes_eq (attribute_name o) (attribute_name attribute))) given) h in
    (names_differ (attribute_name other) (attribute_name attribute) p.0, new_by_names given attribute p.1)

names_by_new : (given : List Attribute) (attribute : Attribute) → IsNewTo given attribute
    → list_all (λ other. not (bytes_eq (attribute_name other) (attribute_name attribute))) given ≡ true
names_by_new [] attribute n = refl
names_by_new (other ∷ given) attribute n =
    both_true (not (bytes_eq (attribute_name other) (attribute_name attribute))) (list_all (λ o. not (bytes_eq (attribute_name o) (attribute_name attribute))) given)
    (names_do (attribute_name other) (attribute_name attribute) n.0) (names_by_new given attribute n.1)

-- what stands before an attribute's value
pub before_value : (text blank name called before : List ℕ) (attribute : Attribute) → blank ≡ text ++ 32 ∷ [] → name ≡ attribute_name attribute
    → called ≡ blank ++ name → before ≡ called ++ codes "=\"" → before ≡ text ++ codes " " ++ attribute_name attribute ++ codes "=\""
before_value text blank name called before attribute b m p q = rw (q, p, m, b) (simp append_assoc)

-- one attribute more, as it is written
pub one_more : (tag : Tag) (given given' : List Attribute) (text before after text' value : List ℕ) (attribute : Attribute)
    → IsStart tag given text → IsNewTo given attribute → given' ≡ given ++ attribute ∷ []
    → before ≡ text ++ codes " " ++ attribute_name attribute ++ codes "=\"" → AddsText value before after → text' ≡ after ++ codes "\""
    → IsStart tag given' text'
one_more tag given given' text before after text' value attribute start new g e d t =
    subst (λ (l : List Attribute). IsStart tag l text') (sym g)
    (subst (IsStart tag (given ++ attribute ∷ [])) (sym whole) (with_one_more tag given text attribute d.spelling d.shown start new d.spelled))
  where
    whole : text' ≡ text ++ codes " " ++ attribute_name attribute ++ codes "=\"" ++ d.spelling ++ codes "\""
    whole = rw (t, d.added, e) (simp append_assoc)

-- the element that was opened last is closed, with this behind it
pub close_last : (tags : List Tag) (tag : Tag) (text behind chars : List ℕ) → IsBegun (tags ++ tag ∷ []) text → Spells behind chars
    → IsBegun tags (text ++ (end_tag tag ++ behind))
close_last tags tag text behind chars b d =
    subst (IsBegun tags) (append_assoc text (end_tag tag) behind) (told tags _ behind chars (closed tags text tag b) d)

-- a start tag of a name alone
pub named_by : (tag : Tag) (given : List Attribute) (none one name text : List ℕ) → given ≡ [] → none ≡ [] → one ≡ none ++ 60 ∷ []
    → name ≡ tag_name tag → text ≡ one ++ name → IsStart tag given text
named_by tag given none one name text g n o m t =
    let whole : text ≡ (60 ∷ []) ++ tag_name tag
    = t ∙ ap (λ (l : List ℕ). l ++ name) (o ∙ ap (λ (l : List ℕ). l ++ 60 ∷ []) n) ∙ ap (λ (l : List ℕ). (60 ∷ []) ++ l) m in
    subst (λ (l : List Attribute). IsStart tag l text) (sym g) (subst (IsStart tag []) (sym whole) (named tag))

-- an attribute is new, as a test of a list found
pub new_for : (given seen : List Attribute) (attribute : Attribute) (b : Bool)
    → b ≡ list_all (λ other. not (bytes_eq (attribute_name other) (attribute_name attribute))) seen → seen ≡ given → b ≡ true → IsNewTo given attribute
new_for given seen attribute b t s h =
    subst (λ (l : List Attribute). IsNewTo l attribute) s (new_by_names seen attribute (sym t ∙ h))

-- and isn't new, as it found
pub not_new : (given seen : List Attribute) (attribute : Attribute)
    → false ≡ list_all (λ other. not (bytes_eq (attribute_name other) (attribute_name attribute))) seen → seen ≡ given → IsNewTo given attribute → ⊥
not_new given seen attribute t s n = never (t ∙ names_by_new seen attribute (subst (λ (l : List Attribute). IsNewTo l attribute) (sym s) n))
  where
    never : false ≡ true → ⊥
    never e = cc

-- a root was begun
root_of : (given : List Attribute) (start text : List ℕ) → IsStart Svg given start → text ≡ start ++ codes ">\n" → IsBegun [] text
root_of given start text s e =
    subst (IsBegun []) (append_assoc start (codes ">") (codes "\n") ∙ sym e) (told [] (start ++ codes ">") (codes "\n") (codes "\n") (root given start s) (line_end [] [] nothing))

pub root_by : (tags : List Tag) (tag : Tag) (given : List Attribute) (start text : List ℕ) → IsStart tag given start
    → tags ≡ [] → tag ≡ Svg → text ≡ start ++ codes ">\n" → IsBegun tags text
root_by tags tag given start text s n t e =
    subst (λ (l : List Tag). IsBegun l text) (sym n) (root_of given start text (subst (λ (x : Tag). IsStart x given start) t s) e)

-- an element was begun
pub begun_by : (tags tags' : List Tag) (text text' : List ℕ) (tag : Tag) (given : List Attribute) (start start' : List ℕ)
    → IsBegun tags text → IsStart tag given start → start' ≡ start ++ 62 ∷ [] → tags' ≡ tags ++ tag ∷ [] → text' ≡ text ++ start'
    → IsBegun tags' text'
begun_by tags tags' text text' tag given start start' b s e t x =
    let whole : text' ≡ text ++ (start ++ codes ">") = x ∙ ap (λ (l : List ℕ). text ++ l) e in
    let one : IsBegun (tags ++ tag ∷ []) text' = subst (IsBegun (tags ++ tag ∷ [])) (sym whole) (opened tags text tag given start b s) in
    subst (λ (l : List Tag). IsBegun l text') (sym t) one

-- an element in which nothing stands was put in
pub put_by : (tags : List Tag) (text text' : List ℕ) (tag : Tag) (given : List Attribute) (start start' : List ℕ)
    → IsBegun tags text → IsStart tag given start → start' ≡ start ++ codes "/>\n" → text' ≡ text ++ start' → IsBegun tags text'
put_by tags text text' tag given start start' b s e x =
    subst (IsBegun tags) (append_assoc text (start ++ codes "/>") (codes "\n") ∙ ap (λ (l : List ℕ). text ++ l) (append_assoc start (codes "/>") (codes "\n") ∙ sym e) ∙ sym x)
    (told tags (text ++ (start ++ codes "/>")) (codes "\n") (codes "\n") (empty tags text tag given start b s) (line_end [] [] nothing))

-- a text was put in
pub said_by : (tags : List Tag) (text text' none shown said : List ℕ) → IsBegun tags text → none ≡ [] → AddsText said none shown
    → text' ≡ text ++ shown → IsBegun tags text'
said_by tags text text' none shown said b n d x =
    let same : shown ≡ d.spelling = d.added ∙ ap (λ (l : List ℕ). l ++ d.spelling) n in
    subst (IsBegun tags) (sym (x ∙ ap (λ (l : List ℕ). text ++ l) same)) (told tags text d.spelling d.shown b d.spelled)

-- what was made apart was put behind a text
pub put_behind : (text text' none shown said : List ℕ) → none ≡ [] → AddsText said none shown → text' ≡ text ++ shown → AddsText said text text'
put_behind text text' none shown said n d x = record {
  shown = d.shown;
  are_shown = d.are_shown;
  spelling = d.spelling;
  spelled = d.spelled;
  added = x ∙ ap (λ (l : List ℕ). text ++ l) (d.added ∙ ap (λ (l : List ℕ). l ++ d.spelling) n);
}

-- the element that was opened last was closed
pub closed_by : (tags tags' : List Tag) (tag : Tag) (text text' behind chars : List ℕ) → IsBegun tags text → tags ≡ tags' ++ tag ∷ []
    → Spells behind chars → text' ≡ text ++ (end_tag tag ++ behind) → IsBegun tags' text'
closed_by tags tags' tag text text' behind chars b t d x =
    subst (IsBegun tags') (sym x) (close_last tags' tag text behind chars (subst (λ (l : List Tag). IsBegun l text) t b) d)

-- the root alone stood open
pub none_closed : (tags tags' : List Tag) (text : List ℕ) → IsBegun tags text → tags ≡ tags' ++ [] → IsBegun tags' text
none_closed tags tags' text b t = subst (λ (l : List Tag). IsBegun l text) (t ∙ append-nil tags') b

-- a text was appended to a document, or memory was refused
pub either_way : (tags : List Tag) (text text' more : List ℕ) (done : Bool) → IsBegun tags text → IsBegun tags (text ++ more)
    → text' ≡ (if done then text ++ more else text) → IsBegun tags text'
either_way tags text text' more true b w e = subst (IsBegun tags) (sym e) w
either_way tags text text' more false b w e = subst (IsBegun tags) (sym e) b
