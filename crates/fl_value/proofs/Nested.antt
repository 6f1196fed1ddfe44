-- Values in one another: what is read of them so far, and that there is one reading.
use Rattle.std.proofs.Common.{◌≡◌, ◌≤◌, ◌+◌, ℕ, ℤ, List, [], ◌∷◌, ◌++◌, map, arith, refl, ap, sym, subst, ◌∙◌, true}
use Rattle.fl_value_data.specs.Value.{Datum, number, string, elements, fields, Data, nothing_more, also, datum_of, data_from}
use Rattle.fl_value_data.specs.declared.value.Value.{Value}
use Rattle.fl_value.specs.declared.fault.ValueFault.{ValueFault}
use Rattle.fl_value.specs.declared.fault.ValueFault.TheVariants.{NotACall, NoSuchMessage, DoesNotFit, Memory}
use Rattle.fl_value.specs.Fault.{Refuses}
use Rattle.fl_value.specs.CallText.{Token, a_number, a_text, a_mark, is_close, SpellsValue, SpellsValues, SpellsMore, Listed, Enclosed, depth_of, greatest_depth}
use Rattle.fl_value.proofs.Once.{token_once, not_that, differ}

-- values with a comma after each
abbrev pub Commas : Data → List ℕ → List ℕ → Type 0
Commas nothing_more bytes rest = bytes ≡ rest
Commas (also d ds) bytes rest = (next : List ℕ) × (start : List ℕ) × SpellsValue d bytes next × Token (a_mark 44) next start × Commas ds start rest

abbrev pub with_last : Data → Datum → Data
with_last nothing_more d = also d nothing_more
with_last (also e ds) d = also e (with_last ds d)

pub values_last : (vs : List Value) (v : Value) → data_from (map datum_of (vs ++ (v ∷ []))) ≡ with_last (data_from (map datum_of vs)) (datum_of v)
values_last [] v = refl
values_last (w ∷ vs) v = ap (also (datum_of w)) (values_last vs v)

pub depth_last : (ds : Data) (d : Datum) (n : ℕ) → greatest_depth ds ≤ n → depth_of d ≤ n → greatest_depth (with_last ds d) ≤ n
depth_last nothing_more d n h k = omega (arith, k)
depth_last (also e ds) d n h k = omega (arith, h, depth_last ds d n (omega (arith, h)) k)

pub commas_more : (ds : Data) (d : Datum) (a b m n : List ℕ) → Commas ds a b → SpellsValue d b m → Token (a_mark 44) m n → Commas (with_last ds d) a n
commas_more nothing_more d a b m n h v t = (m, n, subst (λ x. SpellsValue d x m) (sym h) v, t, refl)
commas_more (also e ds) d a b m n (next, start, one, comma, more) v t = (next, start, one, comma, commas_more ds d start b m n more v t)

after_comma : (ds : Data) (d : Datum) (next start c : List ℕ) → Token (a_mark 44) next start → SpellsValues (with_last ds d) start c → SpellsMore (with_last ds d) next c
after_comma nothing_more d next start c t (n, v, more) = (start, n, t, v, more)
after_comma (also e ds) d next start c t (n, v, more) = (start, n, t, v, more)

pub commas_end : (ds : Data) (d : Datum) (a b c : List ℕ) → Commas ds a b → SpellsValue d b c → SpellsValues (with_last ds d) a c
commas_end nothing_more d a b c h v = (c, subst (λ x. SpellsValue d x c) (sym h) v, refl)
commas_end (also e ds) d a b c (next, start, one, comma, more) v = (next, one, after_comma ds d next start c comma (commas_end ds d start b c more v))

-- marks apart
marks_differ : (m n : ℕ) (a x y : List ℕ) → Token (a_mark m) a x → Token (a_mark n) a y → m ≡ n
marks_differ m n a x y h k = let r = (token_once (a_mark m) (a_mark n) a x y h k).0 in cc

pub mark_apart : (m n : ℕ) (a x y : List ℕ) → (m ≡ n → ⊥) → Token (a_mark m) a x → Token (a_mark n) a y → ⊥
mark_apart m n a x y other h k = other (marks_differ m n a x y h k)

pub close_no_comma : (c : ℕ) (a x y : List ℕ) → is_close c ≡ true → Token (a_mark c) a x → Token (a_mark 44) a y → ⊥
close_no_comma c a x y h t u = not_that is_close c 44 h (marks_differ c 44 a x y t u) refl

pub number_no_mark : (z : ℤ) (m : ℕ) (a x y : List ℕ) → Token (a_number z) a x → Token (a_mark m) a y → ⊥
number_no_mark z m a x y h k = let r = (token_once (a_number z) (a_mark m) a x y h k).0 in absurd (cc)

pub text_no_mark : (s : List ℕ) (m : ℕ) (a x y : List ℕ) → Token (a_text s) a x → Token (a_mark m) a y → ⊥
text_no_mark s m a x y h k = let r = (token_once (a_text s) (a_mark m) a x y h k).0 in absurd (cc)

pub number_no_text : (z : ℤ) (s : List ℕ) (a x y : List ℕ) → Token (a_number z) a x → Token (a_text s) a y → ⊥
number_no_text z s a x y h k = let r = (token_once (a_number z) (a_text s) a x y h k).0 in absurd (cc)

-- no value begins with a closing mark
pub value_no_close : (d : Datum) (c : ℕ) (a x y : List ℕ) → is_close c ≡ true → SpellsValue d a x → Token (a_mark c) a y → ⊥
value_no_close (number z) c a x y h v t = number_no_mark z c a x y v t
value_no_close (string s) c a x y h v t = text_no_mark s c a x y v t
value_no_close (elements ds) c a x y h (inside, last, o, v, k) t = not_that is_close c 91 h (marks_differ c 91 a y inside t o) refl
value_no_close (fields ds) c a x y h (inside, last, o, v, k) t = not_that is_close c 123 h (marks_differ c 123 a y inside t o) refl

mutual
  pub value_once : (d e : Datum) (a x y : List ℕ) → SpellsValue d a x → SpellsValue e a y → (d ≡ e) × (x ≡ y)
  value_once (number z) (number w) a x y h k =
      let r = token_once (a_number z) (a_number w) a x y h k in
      let t : a_number z ≡ a_number w = r.0 in
      let same : z ≡ w = cc in
      (ap number same, r.1)
  value_once (number z) (string s) a x y h k = absurd (number_no_text z s a x y h k)
  value_once (number z) (elements es) a x y h (inside, last, o, v, c) = absurd (number_no_mark z 91 a x inside h o)
  value_once (number z) (fields es) a x y h (inside, last, o, v, c) = absurd (number_no_mark z 123 a x inside h o)
  value_once (string s) (number z) a x y h k = absurd (number_no_text z s a y x k h)
  value_once (string s) (string r) a x y h k =
      let p = token_once (a_text s) (a_text r) a x y h k in
      let t : a_text s ≡ a_text r = p.0 in
      let same : s ≡ r = cc in
      (ap string same, p.1)
  value_once (string s) (elements es) a x y h (inside, last, o, v, c) = absurd (text_no_mark s 91 a x inside h o)
  value_once (string s) (fields es) a x y h (inside, last, o, v, c) = absurd (text_no_mark s 123 a x inside h o)
  value_once (elements ds) (number z) a x y (inside, last, o, v, c) k = absurd (number_no_mark z 91 a y inside k o)
  value_once (elements ds) (string s) a x y (inside, last, o, v, c) k = absurd (text_no_mark s 91 a y inside k o)
  value_once (elements ds) (elements es) a x y (inside, last, o, v, c) (within, end, p, w, k) =
      let same = (token_once (a_mark 91) (a_mark 91) a inside within o p).1 in
      let r = values_once ds es 93 inside last end x y refl v c (subst (λ q. SpellsValues es q end) (sym same) w) k in
      (ap elements r.0, r.1)
  value_once (elements ds) (fields es) a x y (inside, last, o, v, c) (within, end, p, w, k) = absurd (mark_apart 91 123 a inside within (differ 91 123 refl) o p)
  value_once (fields ds) (number z) a x y (inside, last, o, v, c) k = absurd (number_no_mark z 123 a y inside k o)
  value_once (fields ds) (string s) a x y (inside, last, o, v, c) k = absurd (text_no_mark s 123 a y inside k o)
  value_once (fields ds) (elements es) a x y (inside, last, o, v, c) (within, end, p, w, k) = absurd (mark_apart 123 91 a inside within (differ 123 91 refl) o p)
  value_once (fields ds) (fields es) a x y (inside, last, o, v, c) (within, end, p, w, k) =
      let same = (token_once (a_mark 123) (a_mark 123) a inside within o p).1 in
      let r = values_once ds es 125 inside last end x y refl v c (subst (λ q. SpellsValues es q end) (sym same) w) k in
      (ap fields r.0, r.1)

  pub values_once : (ds es : Data) (c : ℕ) (a l m x y : List ℕ) → is_close c ≡ true → SpellsValues ds a l → Token (a_mark c) l x → SpellsValues es a m → Token (a_mark c) m y → (ds ≡ es) × (x ≡ y)
  values_once nothing_more nothing_more c a l m x y h v t w u =
      (refl, (token_once (a_mark c) (a_mark c) a x y (subst (λ q. Token (a_mark c) q x) (sym v) t) (subst (λ q. Token (a_mark c) q y) (sym w) u)).1)
  values_once nothing_more (also e es) c a l m x y h v t (next, w, more) u = absurd (value_no_close e c a next x h w (subst (λ q. Token (a_mark c) q x) (sym v) t))
  values_once (also d ds) nothing_more c a l m x y h (next, v, more) t w u = absurd (value_no_close d c a next y h v (subst (λ q. Token (a_mark c) q y) (sym w) u))
  values_once (also d ds) (also e es) c a l m x y h (next, v, more) t (after, w, rest) u =
      let r = value_once d e a next after v w in
      let p = more_once ds es c next l m x y h more t (subst (λ q. SpellsMore es q m) (sym r.1) rest) u in
      let one : d ≡ e = r.0 in
      let two : ds ≡ es = p.0 in
      (cc, p.1)

  pub more_once : (ds es : Data) (c : ℕ) (a l m x y : List ℕ) → is_close c ≡ true → SpellsMore ds a l → Token (a_mark c) l x → SpellsMore es a m → Token (a_mark c) m y → (ds ≡ es) × (x ≡ y)
  more_once nothing_more nothing_more c a l m x y h v t w u =
      (refl, (token_once (a_mark c) (a_mark c) a x y (subst (λ q. Token (a_mark c) q x) (sym v) t) (subst (λ q. Token (a_mark c) q y) (sym w) u)).1)
  more_once nothing_more (also e es) c a l m x y h v t (start, next, comma, w, more) u = absurd (close_no_comma c a x start h (subst (λ q. Token (a_mark c) q x) (sym v) t) comma)
  more_once (also d ds) nothing_more c a l m x y h (start, next, comma, v, more) t w u = absurd (close_no_comma c a y start h (subst (λ q. Token (a_mark c) q y) (sym w) u) comma)
  more_once (also d ds) (also e es) c a l m x y h (start, next, comma, v, more) t (begin, after, mark, w, rest) u =
      let same = (token_once (a_mark 44) (a_mark 44) a start begin comma mark).1 in
      let r = value_once d e start next after v (subst (λ q. SpellsValue e q after) (sym same) w) in
      let p = more_once ds es c next l m x y h more t (subst (λ q. SpellsMore es q m) (sym r.1) rest) u in
      let one : d ≡ e = r.0 in
      let two : ds ≡ es = p.0 in
      (cc, p.1)

-- what is left of the values after those that are read
pub peel : (ds es : Data) (c : ℕ) (a b x y : List ℕ) → is_close c ≡ true → Commas ds a b → SpellsValues es a x → Token (a_mark c) x y → ((r : List ℕ) → Token (a_mark c) a r → ⊥) → (f : Datum) × (fs : Data) × SpellsValues (also f fs) b x × (greatest_depth (also f fs) ≤ greatest_depth es)
peel nothing_more nothing_more c a b x y h k v t not_closed = absurd (not_closed y (subst (λ q. Token (a_mark c) q y) (sym v) t))
peel nothing_more (also f fs) c a b x y h k v t not_closed = (f, fs, subst (λ q. SpellsValues (also f fs) q x) k v, omega arith)
peel (also d ds) nothing_more c a b x y h (next, start, v, comma, more) w t not_closed = absurd (value_no_close d c a next y h v (subst (λ q. Token (a_mark c) q y) (sym w) t))
peel (also d ds) (also e nothing_more) c a b x y h (next, start, v, comma, more) (after, w, rest) t not_closed =
    let r = value_once d e a next after v w in
    absurd (close_no_comma c x y start h t (subst (λ q. Token (a_mark 44) q start) (r.1 ∙ rest) comma))
peel (also d ds) (also e (also f fs)) c a b x y h (next, start, v, comma, more) (after, w, (begin, end, mark, u, rest)) t not_closed =
    let r = value_once d e a next after v w in
    let same = (token_once (a_mark 44) (a_mark 44) next start begin comma (subst (λ q. Token (a_mark 44) q begin) (sym r.1) mark)).1 in
    let here : SpellsValue f start end = subst (λ q. SpellsValue f q end) (sym same) u in
    let p = peel ds (also f fs) c start b x y h more (end, here, rest) t (λ q z. value_no_close f c start end q h here z) in
    (p.0, p.1, p.2, omega (arith, p.3))

-- where no value stands after a comma
pub no_value : (ds : Data) (c depth : ℕ) (a b : List ℕ) → is_close c ≡ true → Commas ds a b → ((r : List ℕ) → Token (a_mark c) a r → ⊥)
    → ((d : Datum) (rest : List ℕ) → depth_of d ≤ depth → SpellsValue d b rest → ⊥)
    → (es : Data) (rest : List ℕ) → greatest_depth es ≤ depth → Listed c es a rest → ⊥
no_value ds c depth a b h k not_closed none es rest shallow (last, v, t) =
    let (f, fs, (next, one, more), deep) = peel ds es c a b last rest h k v t not_closed in
    none f next (omega (arith, deep, shallow)) one

stuck : (fs : Data) (c : ℕ) (next last rest after : List ℕ) → next ≡ after → SpellsMore fs next last → Token (a_mark c) last rest → ((rest : List ℕ) → Token (a_mark 44) after rest → ⊥) → ((rest : List ℕ) → Token (a_mark c) after rest → ⊥) → ⊥
stuck nothing_more c next last rest after e more t no_comma no_close = no_close rest (subst (λ q. Token (a_mark c) q rest) (sym more ∙ e) t)
stuck (also f fs) c next last rest after e (start, end, comma, v, more) t no_comma no_close = no_comma start (subst (λ q. Token (a_mark 44) q start) e comma)

-- where neither a comma nor the closing mark stands after a value
pub no_mark : (ds : Data) (d : Datum) (c depth : ℕ) (a b after : List ℕ) → is_close c ≡ true → Commas ds a b → ((r : List ℕ) → Token (a_mark c) a r → ⊥)
    → SpellsValue d b after → ((rest : List ℕ) → Token (a_mark 44) after rest → ⊥) → ((rest : List ℕ) → Token (a_mark c) after rest → ⊥)
    → (es : Data) (rest : List ℕ) → greatest_depth es ≤ depth → Listed c es a rest → ⊥
no_mark ds d c depth a b after h k not_closed v no_comma no_close es rest shallow (last, w, t) =
    let (f, fs, (next, one, more), deep) = peel ds es c a b last rest h k w t not_closed in
    let r = value_once d f b after next v one in
    stuck fs c next last rest after (sym r.1) more t no_comma no_close

pub refuse_weaker : {P Q : Type 0} (e : ValueFault) → (P → Q) → Refuses e P → Refuses e Q
refuse_weaker NotACall f h = f h
refuse_weaker NoSuchMessage f h = h
refuse_weaker DoesNotFit f h = h
refuse_weaker Memory f h = h

-- a value is none of the four kinds
pub no_kind : (bytes : List ℕ) (depth : ℕ)
    → ((z : ℤ) (rest : List ℕ) → Token (a_number z) bytes rest → ⊥)
    → ((s rest : List ℕ) → Token (a_text s) bytes rest → ⊥)
    → ((ds : Data) (rest : List ℕ) → 1 + greatest_depth ds ≤ depth → Enclosed 91 93 ds bytes rest → ⊥)
    → ((ds : Data) (rest : List ℕ) → 1 + greatest_depth ds ≤ depth → Enclosed 123 125 ds bytes rest → ⊥)
    → (d : Datum) (rest : List ℕ) → depth_of d ≤ depth → SpellsValue d bytes rest → ⊥
no_kind bytes depth numbers texts lists structs (number z) rest shallow h = numbers z rest h
no_kind bytes depth numbers texts lists structs (string s) rest shallow h = texts s rest h
no_kind bytes depth numbers texts lists structs (elements ds) rest shallow h = lists ds rest shallow h
no_kind bytes depth numbers texts lists structs (fields ds) rest shallow h = structs ds rest shallow h

-- nothing is enclosed where the opening mark doesn't stand
pub not_enclosed : (opening closing depth : ℕ) (bytes : List ℕ) → ((rest : List ℕ) → Token (a_mark opening) bytes rest → ⊥) → (ds : Data) (rest : List ℕ) → 1 + greatest_depth ds ≤ depth → Enclosed opening closing ds bytes rest → ⊥
not_enclosed opening closing depth bytes none ds rest shallow (inside, last, o, v, c) = none inside o

-- nor where another mark stands
pub other_opened : (m opening closing depth : ℕ) (bytes at : List ℕ) → (m ≡ opening → ⊥) → Token (a_mark m) bytes at → (ds : Data) (rest : List ℕ) → 1 + greatest_depth ds ≤ depth → Enclosed opening closing ds bytes rest → ⊥
other_opened m opening closing depth bytes at other t ds rest shallow (inside, last, o, v, c) = mark_apart m opening bytes at inside other t o

-- nor inside it
pub not_inside : (opening closing depth deeper : ℕ) (bytes inside : List ℕ) → Token (a_mark opening) bytes inside → depth ≡ deeper + 1 → ((ds : Data) (rest : List ℕ) → greatest_depth ds ≤ deeper → Listed closing ds inside rest → ⊥) → (ds : Data) (rest : List ℕ) → 1 + greatest_depth ds ≤ depth → Enclosed opening closing ds bytes rest → ⊥
not_inside opening closing depth deeper bytes inside t e none ds rest shallow (within, last, o, v, c) =
    let same = (token_once (a_mark opening) (a_mark opening) bytes inside within t o).1 in
    none ds rest (omega (arith, shallow, e)) (last, subst (λ q. SpellsValues ds q last) (sym same) v, c)
