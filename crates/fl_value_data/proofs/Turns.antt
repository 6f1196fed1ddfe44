-- Values that stand one after another on a tape, and that nothing else does.
use Rattle.std.proofs.Common.{◌≡◌, ℕ, zero, suc, true, List, [], ◌∷◌, ◌++◌, length, replicate, refl, sym, ◌∙◌, ap, subst, arith, append_assoc, eq-eqb, ◌<◌, ◌≤◌, ◌+◌, ◌-◌, map, take, drop, get_or, Bool, filter}
use Rattle.std.specs.Prelude.{Result, Ok, Err, Option, Some, None, IfOk, IfSome, IfNone}
use Rattle.std.specs.Cmp.{first_so, second_so}
use Rattle.std.proofs.lemmas.List.{map-append, take_more, take_all}
use Rattle.std.proofs.lemmas.List.Elements.{filter-append}
use Rattle.std.proofs.lemmas.Bool.{false≢true, eqb-true, le-leb}
use Rattle.fl_interface.specs.Interface.{TheType, structure, array, fixed, text, sized, fields_from}
use Rattle.fl_value_data.specs.Value.{Datum, number, string, elements, fields, Data, nothing_more, also, data_from, datum_of}
use Rattle.fl_value_data.specs.declared.value.Value.{Value}
use Rattle.fl_value_data.specs.Fits.{has_type, have_types, all_have_type, count_of}
use Rattle.fl_value_data.specs.Tape.{value_tape, fields_tape, elements_tape}
use Rattle.fl_value_data.specs.Taken.{ValueAt, ArgumentAt, LengthAt, BytesAt, InTurn, TheOne, NoneOf}

-- ---- one after another

record Cut {A : Type 0} (At : A → List ℕ → Datum → List ℕ → Type 0) (ts us : List A) (tape : List ℕ) (ds : List Datum) (rest : List ℕ) : Type 0 where
  pub prefix : List Datum
  pub behind : List Datum
  pub next : List ℕ
  pub joined : ds ≡ prefix ++ behind
  pub first : InTurn At ts tape prefix next
  pub second : InTurn At us next behind rest

cut_turn : {A : Type 0} (At : A → List ℕ → Datum → List ℕ → Type 0) (ts us : List A) (tape : List ℕ) (ds : List Datum) (rest : List ℕ)
    → InTurn At (ts ++ us) tape ds rest → Cut At ts us tape ds rest
cut_turn At [] us tape ds rest h = record { prefix = []; behind = ds; next = tape; joined = refl; first = refl; second = h }
cut_turn At (t ∷ ts) us tape [] rest h = absurd h
cut_turn At (t ∷ ts) us tape (d ∷ ds) rest h =
    let c = cut_turn At ts us h.0 ds rest h.2 in
    record { prefix = d ∷ c.prefix; behind = c.behind; next = c.next; joined = ap (λ (xs : List Datum). d ∷ xs) c.joined; first = (h.0, h.1, c.first); second = c.second }

pub join_turn : {A : Type 0} (At : A → List ℕ → Datum → List ℕ → Type 0) (ts us : List A) (tape : List ℕ) (xs : List Datum) (next : List ℕ) (ys : List Datum) (rest : List ℕ)
    → InTurn At ts tape xs next → InTurn At us next ys rest → InTurn At (ts ++ us) tape (xs ++ ys) rest
join_turn At [] us tape [] next ys rest h k = subst (λ (n : List ℕ). InTurn At us n ys rest) (sym h) k
join_turn At [] us tape (x ∷ xs) next ys rest h k = absurd h
join_turn At (t ∷ ts) us tape [] next ys rest h k = absurd h
join_turn At (t ∷ ts) us tape (x ∷ xs) next ys rest h k = (h.0, h.1, join_turn At ts us h.0 xs next ys rest h.2 k)

-- ---- nothing else does

only_none : {A : Type 0} (At : A → List ℕ → Datum → List ℕ → Type 0) (tape : List ℕ) (ds : List Datum) (end : List ℕ) → InTurn At [] tape ds end → ([] ≡ ds) × (tape ≡ end)
only_none At tape [] end h = (refl, h)
only_none At tape (d ∷ ds) end h = absurd h

pub nothing_yet : {A : Type 0} (At : A → List ℕ → Datum → List ℕ → Type 0) (tape : List ℕ) → TheOne (InTurn At [] tape) [] tape
nothing_yet At tape = record { stands = refl; only = only_none At tape }

pub start_at : {A : Type 0} (At : A → List ℕ → Datum → List ℕ → Type 0) (tape : List ℕ) (vs : List Value) → vs ≡ [] → TheOne (InTurn At [] tape) (map datum_of vs) tape
start_at At tape vs e = subst (λ (ds : List Datum). TheOne (InTurn At [] tape) ds tape) (sym (ap (map datum_of) e)) (nothing_yet At tape)

pub join_ones : {A : Type 0} (At : A → List ℕ → Datum → List ℕ → Type 0) (ts us : List A) (tape : List ℕ) (xs : List Datum) (next : List ℕ) (ys : List Datum) (rest : List ℕ)
    → TheOne (InTurn At ts tape) xs next → TheOne (InTurn At us next) ys rest → TheOne (InTurn At (ts ++ us) tape) (xs ++ ys) rest
join_ones At ts us tape xs next ys rest one two = record {
  stands = join_turn At ts us tape xs next ys rest one.stands two.stands;
  only = λ ds end h.
      let c = cut_turn At ts us tape ds end h in
      let p = one.only c.prefix c.next c.first in
      let q = two.only c.behind end (subst (λ (n : List ℕ). InTurn At us n c.behind end) (sym p.1) c.second) in
      (ap (λ (l : List Datum). l ++ ys) p.0 ∙ ap (λ (l : List Datum). c.prefix ++ l) q.0 ∙ sym c.joined, q.1);
}

pub none_first : {A : Type 0} (At : A → List ℕ → Datum → List ℕ → Type 0) (ts us : List A) (tape : List ℕ)
    → NoneOf (InTurn At ts tape) → NoneOf (InTurn At (ts ++ us) tape)
none_first At ts us tape none = λ ds rest h. let c = cut_turn At ts us tape ds rest h in none c.prefix c.next c.first

pub none_second : {A : Type 0} (At : A → List ℕ → Datum → List ℕ → Type 0) (ts us : List A) (tape : List ℕ) (xs : List Datum) (next : List ℕ)
    → TheOne (InTurn At ts tape) xs next → NoneOf (InTurn At us next) → NoneOf (InTurn At (ts ++ us) tape)
none_second At ts us tape xs next one none = λ ds rest h.
    let c = cut_turn At ts us tape ds rest h in
    let p = one.only c.prefix c.next c.first in
    none c.behind rest (subst (λ (n : List ℕ). InTurn At us n c.behind rest) (sym p.1) c.second)

only_single : {A : Type 0} (At : A → List ℕ → Datum → List ℕ → Type 0) (t : A) (tape : List ℕ) (d : Datum) (rest : List ℕ) → TheOne (At t tape) d rest
    → (ds : List Datum) (end : List ℕ) → InTurn At (t ∷ []) tape ds end → (d ∷ [] ≡ ds) × (rest ≡ end)
only_single At t tape d rest one [] end h = absurd h
only_single At t tape d rest one (c ∷ []) end h =
    let p = one.only c h.0 h.1 in
    (ap (λ (x : Datum). x ∷ []) p.0, p.1 ∙ h.2)
only_single At t tape d rest one (c ∷ e ∷ es) end h = absurd h.2

pub single : {A : Type 0} (At : A → List ℕ → Datum → List ℕ → Type 0) (t : A) (tape : List ℕ) (d : Datum) (rest : List ℕ)
    → TheOne (At t tape) d rest → TheOne (InTurn At (t ∷ []) tape) (d ∷ []) rest
single At t tape d rest one = record { stands = (rest, one.stands, refl); only = only_single At t tape d rest one }

none_here : {A : Type 0} (At : A → List ℕ → Datum → List ℕ → Type 0) (t : A) (ts : List A) (tape : List ℕ)
    → NoneOf (At t tape) → (ds : List Datum) (rest : List ℕ) → InTurn At (t ∷ ts) tape ds rest → ⊥
none_here At t ts tape none [] rest h = h
none_here At t ts tape none (d ∷ ds) rest h = none d h.0 h.1

-- one more behind those that stand
pub one_more : {A : Type 0} (At : A → List ℕ → Datum → List ℕ → Type 0) (ts : List A) (t : A) (tape : List ℕ) (xs : List Datum) (next : List ℕ) (d : Datum) (rest : List ℕ)
    → TheOne (InTurn At ts tape) xs next → TheOne (At t next) d rest → TheOne (InTurn At (ts ++ t ∷ []) tape) (xs ++ d ∷ []) rest
one_more At ts t tape xs next d rest one two = join_ones At ts (t ∷ []) tape xs next (d ∷ []) rest one (single At t next d rest two)

-- none behind those that stand, whatever would follow
pub none_more : {A : Type 0} (At : A → List ℕ → Datum → List ℕ → Type 0) (ts : List A) (t : A) (us : List A) (tape : List ℕ) (xs : List Datum) (next : List ℕ)
    → TheOne (InTurn At ts tape) xs next → NoneOf (At t next) → NoneOf (InTurn At (ts ++ t ∷ us) tape)
none_more At ts t us tape xs next one none = none_second At ts (t ∷ us) tape xs next one (none_here At t us next none)

-- ---- fields and elements

abbrev pub list_from : Data → List Datum
list_from nothing_more = []
list_from (also d ds) = d ∷ list_from ds

pub data_again : (ds : Data) → data_from (list_from ds) ≡ ds
data_again nothing_more = refl
data_again (also d ds) = ap (λ (xs : Data). also d xs) (data_again ds)

fields_typed : (ts : List TheType) (tape : List ℕ) (ds : List Datum) (rest : List ℕ) → InTurn ValueAt ts tape ds rest → have_types (fields_from ts) (data_from ds) ≡ true
fields_typed [] tape [] rest h = refl
fields_typed [] tape (d ∷ ds) rest h = absurd h
fields_typed (t ∷ ts) tape [] rest h = absurd h
fields_typed (t ∷ ts) tape (d ∷ ds) rest h = rw h.1.typed (fields_typed ts h.0 ds rest h.2)

fields_prefix : (ts : List TheType) (tape : List ℕ) (ds : List Datum) (rest : List ℕ) → InTurn ValueAt ts tape ds rest → tape ≡ fields_tape (fields_from ts) (data_from ds) ++ rest
fields_prefix [] tape [] rest h = h
fields_prefix [] tape (d ∷ ds) rest h = absurd h
fields_prefix (t ∷ ts) tape [] rest h = absurd h
fields_prefix (t ∷ ts) tape (d ∷ ds) rest h =
    h.1.prefix ∙ ap (λ (l : List ℕ). value_tape t d ++ l) (fields_prefix ts h.0 ds rest h.2)
    ∙ sym (append_assoc (value_tape t d) (fields_tape (fields_from ts) (data_from ds)) rest)

fields_stand : (ts : List TheType) (tape : List ℕ) (ds : Data) (rest : List ℕ) → have_types (fields_from ts) ds ≡ true → tape ≡ fields_tape (fields_from ts) ds ++ rest
    → InTurn ValueAt ts tape (list_from ds) rest
fields_stand [] tape nothing_more rest h e = e
fields_stand [] tape (also d ds) rest h e = absurd (false≢true h)
fields_stand (t ∷ ts) tape nothing_more rest h e = absurd (false≢true h)
fields_stand (t ∷ ts) tape (also d ds) rest h e =
    let after = fields_tape (fields_from ts) ds ++ rest in (
      after,
      record { typed = first_so (has_type t d) _ h; prefix = e ∙ append_assoc (value_tape t d) (fields_tape (fields_from ts) ds) rest },
      fields_stand ts after ds rest (second_so (has_type t d) _ h) refl,
    )

pub struct_none : (ts : List TheType) (tape : List ℕ) → NoneOf (InTurn ValueAt ts tape) → (c : Datum) (end : List ℕ) → ValueAt (structure (fields_from ts)) tape c end → ⊥
struct_none ts tape none (fields ds) end h = none (list_from ds) end (fields_stand ts tape ds end h.typed h.prefix)
struct_none ts tape none (number z) end h = false≢true h.typed
struct_none ts tape none (string bs) end h = false≢true h.typed
struct_none ts tape none (elements ds) end h = false≢true h.typed

struct_only : (ts : List TheType) (tape : List ℕ) (ds : List Datum) (rest : List ℕ) → TheOne (InTurn ValueAt ts tape) ds rest
    → (c : Datum) (end : List ℕ) → ValueAt (structure (fields_from ts)) tape c end → (fields (data_from ds) ≡ c) × (rest ≡ end)
struct_only ts tape ds rest one (fields es) end h =
    let p = one.only (list_from es) end (fields_stand ts tape es end h.typed h.prefix) in
    (ap (λ (l : List Datum). fields (data_from l)) p.0 ∙ ap (λ (l : Data). fields l) (data_again es), p.1)
struct_only ts tape ds rest one (number z) end h = absurd (false≢true h.typed)
struct_only ts tape ds rest one (string bs) end h = absurd (false≢true h.typed)
struct_only ts tape ds rest one (elements es) end h = absurd (false≢true h.typed)

pub struct_one : (ts : List TheType) (tape : List ℕ) (ds : List Datum) (rest : List ℕ) → TheOne (InTurn ValueAt ts tape) ds rest
    → TheOne (ValueAt (structure (fields_from ts)) tape) (fields (data_from ds)) rest
struct_one ts tape ds rest one = record {
  stands = record { typed = fields_typed ts tape ds rest one.stands; prefix = fields_prefix ts tape ds rest one.stands };
  only = struct_only ts tape ds rest one;
}

elements_typed : (n : ℕ) (t : TheType) (tape : List ℕ) (ds : List Datum) (rest : List ℕ) → InTurn ValueAt (replicate n t) tape ds rest → all_have_type t (data_from ds) ≡ true
elements_typed zero t tape [] rest h = refl
elements_typed zero t tape (d ∷ ds) rest h = absurd h
elements_typed (suc n) t tape [] rest h = absurd h
elements_typed (suc n) t tape (d ∷ ds) rest h = rw h.1.typed (elements_typed n t h.0 ds rest h.2)

elements_many : (n : ℕ) (t : TheType) (tape : List ℕ) (ds : List Datum) (rest : List ℕ) → InTurn ValueAt (replicate n t) tape ds rest → count_of (data_from ds) ≡ n
elements_many zero t tape [] rest h = refl
elements_many zero t tape (d ∷ ds) rest h = absurd h
elements_many (suc n) t tape [] rest h = absurd h
elements_many (suc n) t tape (d ∷ ds) rest h = omega (arith, elements_many n t h.0 ds rest h.2)

elements_prefix : (n : ℕ) (t : TheType) (tape : List ℕ) (ds : List Datum) (rest : List ℕ) → InTurn ValueAt (replicate n t) tape ds rest → tape ≡ elements_tape t (data_from ds) ++ rest
elements_prefix zero t tape [] rest h = h
elements_prefix zero t tape (d ∷ ds) rest h = absurd h
elements_prefix (suc n) t tape [] rest h = absurd h
elements_prefix (suc n) t tape (d ∷ ds) rest h =
    h.1.prefix ∙ ap (λ (l : List ℕ). value_tape t d ++ l) (elements_prefix n t h.0 ds rest h.2)
    ∙ sym (append_assoc (value_tape t d) (elements_tape t (data_from ds)) rest)

elements_stand : (n : ℕ) (t : TheType) (tape : List ℕ) (ds : Data) (rest : List ℕ) → count_of ds ≡ n → all_have_type t ds ≡ true → tape ≡ elements_tape t ds ++ rest
    → InTurn ValueAt (replicate n t) tape (list_from ds) rest
elements_stand zero t tape nothing_more rest k h e = e
elements_stand zero t tape (also d ds) rest k h e = absurd (omega (arith, k))
elements_stand (suc n) t tape nothing_more rest k h e = absurd (omega (arith, k))
elements_stand (suc n) t tape (also d ds) rest k h e =
    let after = elements_tape t ds ++ rest in (
      after,
      record { typed = first_so (has_type t d) _ h; prefix = e ∙ append_assoc (value_tape t d) (elements_tape t ds) rest },
      elements_stand n t after ds rest (omega (arith, k)) (second_so (has_type t d) _ h) refl,
    )

pub array_none : (n : ℕ) (t : TheType) (tape : List ℕ) → NoneOf (InTurn ValueAt (replicate n t) tape) → (c : Datum) (end : List ℕ) → ValueAt (array n t) tape c end → ⊥
array_none n t tape none (elements ds) end h =
    none (list_from ds) end (elements_stand n t tape ds end (eqb-true (count_of ds) n (first_so _ _ h.typed)) (second_so _ _ h.typed) h.prefix)
array_none n t tape none (number z) end h = false≢true h.typed
array_none n t tape none (string bs) end h = false≢true h.typed
array_none n t tape none (fields ds) end h = false≢true h.typed

array_only : (n : ℕ) (t : TheType) (tape : List ℕ) (ds : List Datum) (rest : List ℕ) → TheOne (InTurn ValueAt (replicate n t) tape) ds rest
    → (c : Datum) (end : List ℕ) → ValueAt (array n t) tape c end → (elements (data_from ds) ≡ c) × (rest ≡ end)
array_only n t tape ds rest one (elements es) end h =
    let p = one.only (list_from es) end (elements_stand n t tape es end (eqb-true (count_of es) n (first_so _ _ h.typed)) (second_so _ _ h.typed) h.prefix) in
    (ap (λ (l : List Datum). elements (data_from l)) p.0 ∙ ap (λ (l : Data). elements l) (data_again es), p.1)
array_only n t tape ds rest one (number z) end h = absurd (false≢true h.typed)
array_only n t tape ds rest one (string bs) end h = absurd (false≢true h.typed)
array_only n t tape ds rest one (fields es) end h = absurd (false≢true h.typed)

pub array_one : (n : ℕ) (t : TheType) (tape : List ℕ) (ds : List Datum) (rest : List ℕ) → TheOne (InTurn ValueAt (replicate n t) tape) ds rest
    → TheOne (ValueAt (array n t) tape) (elements (data_from ds)) rest
array_one n t tape ds rest one =
    let many = eq-eqb (count_of (data_from ds)) n (elements_many n t tape ds rest one.stands) in
    record {
      stands = record { typed = rw many (elements_typed n t tape ds rest one.stands); prefix = elements_prefix n t tape ds rest one.stands };
      only = array_only n t tape ds rest one;
    }

-- ---- arguments

pub fixed_one : (t : TheType) (tape : List ℕ) (d : Datum) (rest : List ℕ) → TheOne (ValueAt t tape) d rest → TheOne (ArgumentAt (fixed t) tape) d rest
fixed_one t tape d rest one = record {
  stands = record { typed = one.stands.typed; prefix = one.stands.prefix };
  only = λ c end h. one.only c end (record { typed = h.typed; prefix = h.prefix });
}

-- a length, and then the rest of the argument
length_same : (most : ℕ) (tape : List ℕ) (n : ℕ) (after : List ℕ) (m : ℕ) (more : List ℕ) → LengthAt most tape n after → tape ≡ m ∷ more → (n ≡ m) × (after ≡ more)
length_same most tape n after m more l e =
    let same : n ∷ after ≡ m ∷ more = sym l.prefix ∙ e in
    let heads : n ≡ m = cc in
    let tails : after ≡ more = cc in
    (heads, tails)

string_bytes : (most : ℕ) (tape : List ℕ) (n : ℕ) (after : List ℕ) (bs end : List ℕ) → LengthAt most tape n after → ArgumentAt (text most) tape (string bs) end → BytesAt n after bs end
string_bytes most tape n after bs end l h =
    let p = length_same most tape n after (length bs) (bs ++ end) l h.prefix in
    record { many = sym p.0; typed = second_so _ _ h.typed; prefix = p.1 }

-- two prefixes of one length
pub split_same : {A : Type 0} (a b c d : List A) → length a ≡ length b → a ++ c ≡ b ++ d → (a ≡ b) × (c ≡ d)
split_same [] [] c d long e = (refl, e)
split_same [] (y ∷ b) c d long e = absurd (omega (arith, long))
split_same (x ∷ a) [] c d long e = absurd (omega (arith, long))
split_same (x ∷ a) (y ∷ b) c d long e =
    let tails : a ++ c ≡ b ++ d = cc in
    let heads : x ≡ y = cc in
    let (same, rest) = split_same a b c d (omega (arith, long)) tails in
    (cc, rest)

string_only : (most : ℕ) (tape : List ℕ) (n : ℕ) (after bs rest : List ℕ) → LengthAt most tape n after → BytesAt n after bs rest
    → (c : Datum) (end : List ℕ) → ArgumentAt (text most) tape c end → (string bs ≡ c) × (rest ≡ end)
string_only most tape n after bs rest l b (string es) end h =
    let other = string_bytes most tape n after es end l h in
    let p = split_same bs es rest end (b.many ∙ sym other.many) (sym b.prefix ∙ other.prefix) in
    (ap (λ (x : List ℕ). string x) p.0, p.1)
string_only most tape n after bs rest l b (number z) end h = absurd (false≢true h.typed)
string_only most tape n after bs rest l b (elements ds) end h = absurd (false≢true h.typed)
string_only most tape n after bs rest l b (fields ds) end h = absurd (false≢true h.typed)

pub string_one : (most : ℕ) (tape : List ℕ) (n : ℕ) (after bs rest : List ℕ) → LengthAt most tape n after → BytesAt n after bs rest
    → TheOne (ArgumentAt (text most) tape) (string bs) rest
string_one most tape n after bs rest l b =
    let few = le-leb (length bs) most (omega (arith, l.few, b.many)) in
    let whole : tape ≡ length bs ∷ (bs ++ rest) = l.prefix ∙ ap (λ (m : ℕ). m ∷ after) (sym b.many) ∙ ap (λ (x : List ℕ). length bs ∷ x) b.prefix in
    record {
      stands = record { typed = rw few b.typed; prefix = whole };
      only = string_only most tape n after bs rest l b;
    }

sized_elements : (most : ℕ) (t : TheType) (tape : List ℕ) (n : ℕ) (after : List ℕ) (ds : Data) (end : List ℕ) → LengthAt most tape n after → ArgumentAt (sized most t) tape (elements ds) end
    → InTurn ValueAt (replicate n t) after (list_from ds) end
sized_elements most t tape n after ds end l h =
    let p = length_same most tape n after (count_of ds) (elements_tape t ds ++ end) l h.prefix in
    elements_stand n t after ds end (sym p.0) (second_so _ _ h.typed) p.1

pub sized_none : (most : ℕ) (t : TheType) (tape : List ℕ) (n : ℕ) (after : List ℕ) → LengthAt most tape n after → NoneOf (InTurn ValueAt (replicate n t) after)
    → (c : Datum) (end : List ℕ) → ArgumentAt (sized most t) tape c end → ⊥
sized_none most t tape n after l none (elements ds) end h = none (list_from ds) end (sized_elements most t tape n after ds end l h)
sized_none most t tape n after l none (number z) end h = false≢true h.typed
sized_none most t tape n after l none (string bs) end h = false≢true h.typed
sized_none most t tape n after l none (fields ds) end h = false≢true h.typed

sized_only : (most : ℕ) (t : TheType) (tape : List ℕ) (n : ℕ) (after : List ℕ) (ds : List Datum) (rest : List ℕ) → LengthAt most tape n after → TheOne (InTurn ValueAt (replicate n t) after) ds rest
    → (c : Datum) (end : List ℕ) → ArgumentAt (sized most t) tape c end → (elements (data_from ds) ≡ c) × (rest ≡ end)
sized_only most t tape n after ds rest l one (elements es) end h =
    let p = one.only (list_from es) end (sized_elements most t tape n after es end l h) in
    (ap (λ (x : List Datum). elements (data_from x)) p.0 ∙ ap (λ (x : Data). elements x) (data_again es), p.1)
sized_only most t tape n after ds rest l one (number z) end h = absurd (false≢true h.typed)
sized_only most t tape n after ds rest l one (string bs) end h = absurd (false≢true h.typed)
sized_only most t tape n after ds rest l one (fields es) end h = absurd (false≢true h.typed)

pub sized_one : (most : ℕ) (t : TheType) (tape : List ℕ) (n : ℕ) (after : List ℕ) (ds : List Datum) (rest : List ℕ) → LengthAt most tape n after → TheOne (InTurn ValueAt (replicate n t) after) ds rest
    → TheOne (ArgumentAt (sized most t) tape) (elements (data_from ds)) rest
sized_one most t tape n after ds rest l one =
    let many = elements_many n t after ds rest one.stands in
    let few = le-leb (count_of (data_from ds)) most (omega (arith, l.few, many)) in
    let whole : tape ≡ count_of (data_from ds) ∷ (elements_tape t (data_from ds) ++ rest)
    = l.prefix ∙ ap (λ (m : ℕ). m ∷ after) (sym many) ∙ ap (λ (x : List ℕ). count_of (data_from ds) ∷ x) (elements_prefix n t after ds rest one.stands) in
    record {
      stands = record { typed = rw few (elements_typed n t after ds rest one.stands); prefix = whole };
      only = sized_only most t tape n after ds rest l one;
    }

-- ---- prefixes of lists

pub list_again : {A : Type 0} (xs : List A) (n : ℕ) (x : A) → n < length xs → x ≡ get_or xs n x → take n xs ++ x ∷ drop (suc n) xs ≡ xs
list_again [] n x h e = absurd (omega (arith, h))
list_again (y ∷ xs) zero x h e = ap (λ v. v ∷ xs) e
list_again (y ∷ xs) (suc n) x h e = ap (λ l. y ∷ l) (list_again xs n x (omega (arith, h)) e)

pub map_pushed : {A B : Type 0} (f : A → B) (xs ys : List A) (x : A) → ys ≡ xs ++ x ∷ [] → map f ys ≡ map f xs ++ f x ∷ []
map_pushed f xs ys x e = ap (map f) e ∙ map-append f xs (x ∷ [])

pub map_taken : {A B : Type 0} (f : A → B) (xs : List A) (n : ℕ) (x : A) → n < length xs → x ≡ get_or xs n x → map f (take (n + 1) xs) ≡ map f (take n xs) ++ f x ∷ []
map_taken f xs n x h e =
    ap (map f) (take_more xs n x h ∙ ap (λ v. take n xs ++ v ∷ []) (sym e)) ∙ map-append f (take n xs) (x ∷ [])

map_dropped_suc : {A B : Type 0} (f : A → B) (xs : List A) (n : ℕ) (x : A) → n < length xs → x ≡ get_or xs n x → map f (drop n xs) ≡ f x ∷ map f (drop (suc n) xs)
map_dropped_suc f [] n x h e = absurd (omega (arith, h))
map_dropped_suc f (y ∷ xs) zero x h e = ap (λ v. f v ∷ map f xs) (sym e)
map_dropped_suc f (y ∷ xs) (suc n) x h e = map_dropped_suc f xs n x (omega (arith, h)) e

pub map_dropped : {A B : Type 0} (f : A → B) (xs : List A) (n : ℕ) (x : A) → n < length xs → x ≡ get_or xs n x → map f (drop n xs) ≡ f x ∷ map f (drop (n + 1) xs)
map_dropped f xs n x h e =
    let same : suc n ≡ n + 1 = omega arith in
    map_dropped_suc f xs n x h e ∙ ap (λ k. f x ∷ map f (drop k xs)) same

pub map_around : {A B : Type 0} (f : A → B) (xs : List A) (n : ℕ) (x : A) → n < length xs → x ≡ get_or xs n x → map f (take n xs) ++ f x ∷ map f (drop (suc n) xs) ≡ map f xs
map_around f xs n x h e = sym (map-append f (take n xs) (x ∷ drop (suc n) xs)) ∙ ap (map f) (list_again xs n x h e)

pub replicate_around : {A : Type 0} (x : A) (n k m : ℕ) → m ≡ n + suc k → replicate n x ++ x ∷ replicate k x ≡ replicate m x
replicate_around x zero k m e = let same : suc k ≡ m = omega (arith, e) in ap (λ v. replicate v x) same
replicate_around x (suc n) k m e =
    let same : suc (n + suc k) ≡ m = omega (arith, e) in
    ap (λ l. x ∷ l) (replicate_around x n k (n + suc k) refl) ∙ ap (λ v. replicate v x) same

pub first_and_rest : (tape : List ℕ) (d : ℕ) → 1 ≤ length tape → get_or tape 0 d ∷ take (length tape - 1) (drop 1 tape) ≡ tape
first_and_rest [] d h = absurd (omega (arith, h))
first_and_rest (n ∷ tape) d h = ap (λ l. n ∷ l) (take_all (length (n ∷ tape) - 1) tape (omega arith))

-- ---- what a call returned

pub weaker_some : {A E : Type 0} (r : Result (Option A) E) (P Q : A → Type 0) → ((a : A) → P a → Q a) → IfOk r (λ o. IfSome o P) → IfOk r (λ o. IfSome o Q)
weaker_some (Ok (Some a)) P Q f h = f a h
weaker_some (Ok None) P Q f h = h
weaker_some (Err e) P Q f h = h

pub weaker_none : {A E : Type 0} (r : Result (Option A) E) (P Q : Type 0) → (P → Q) → IfOk r (λ (o : Option A). IfNone o P) → IfOk r (λ (o : Option A). IfNone o Q)
weaker_none (Ok (Some a)) P Q f h = h
weaker_none (Ok None) P Q f h = f h
weaker_none (Err e) P Q f h = h

-- one more element, where it passes a test or not
pub filter_taken : {A B : Type 0} (p : B → Bool) (f : A → B) (xs : List A) (n : ℕ) (x : A) → n < length xs → x ≡ get_or xs n x
    → filter p (map f (take (n + 1) xs)) ≡ filter p (map f (take n xs)) ++ filter p (f x ∷ [])
filter_taken p f xs n x h e = ap (filter p) (map_taken f xs n x h e) ∙ filter-append p (map f (take n xs)) (f x ∷ [])

pub filter_around : {A B : Type 0} (p : B → Bool) (f : A → B) (xs : List A) (n : ℕ) (x : A) → n < length xs → x ≡ get_or xs n x
    → filter p (map f (take n xs)) ++ filter p (f x ∷ map f (drop (suc n) xs)) ≡ filter p (map f xs)
filter_around p f xs n x h e = sym (filter-append p (map f (take n xs)) (f x ∷ map f (drop (suc n) xs))) ∙ ap (filter p) (map_around f xs n x h e)
