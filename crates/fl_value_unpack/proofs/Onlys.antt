-- Values that stand one after another on a packed tape: nothing else does.
use Rattle.std.proofs.Common.{◌≡◌, ℕ, zero, suc, ◌+◌, ◌^◌, ◌<◌, ◌≤◌, true, List, [], ◌∷◌, ◌++◌, length, map, take, drop, get_or, replicate, refl, sym, ◌∙◌, ap, subst, arith, append_assoc}
use Rattle.std.specs.Cmp.{first_so, second_so}
use Rattle.std.specs.Int.{w64}
use Rattle.std.proofs.lemmas.Bool.{false≢true, eqb-true, leb-true}
use Rattle.fl_interface.specs.declared.interface.ArgType.{ArgType}
use Rattle.fl_interface.specs.Interface.{TheType, TheArgType, structure, array, fixed, text, sized, fields_from, arg_type_of}
use Rattle.fl_value_data.specs.declared.value.Value.{Value}
use Rattle.fl_value_data.specs.Value.{Datum, number, string, elements, fields, Data, nothing_more, also, data_from, datum_of}
use Rattle.fl_value_data.specs.Fits.{has_type, have_types, all_have_type, count_of}
use Rattle.fl_value_data.specs.Taken.{InTurn}
use Rattle.fl_value_data.proofs.Turns.{list_from, data_again, map_pushed, map_taken}
use Rattle.fl_value_tape.specs.Packed.{low_bytes, value_packed, fields_packed, elements_packed}
use Rattle.fl_value_unpack.specs.Reading.{number_in, PackedValueAt, PackedArgumentAt, OnlyOne}
use Rattle.fl_value_unpack.proofs.Numbers.{low_dropped, told_8}

-- ---- one after another

record Cut {A : Type 0} (At : A → List ℕ → Datum → List ℕ → Type 0) (ts us : List A) (tape : List ℕ) (ds : List Datum) (rest : List ℕ) : Type 0 where
  pub prefix : List Datum
  pub behind : List Datum
  pub next : List ℕ
  pub joined : ds ≡ prefix ++ behind
  pub first : InTurn At ts tape prefix next
  pub second : InTurn At us next behind rest

cut_turn : {A : Type 0} (At : A → List ℕ → Datum → List ℕ → Type 0) (ts us : List A) (tape : List ℕ) (ds : List Datum) (rest : List ℕ)
    → InTurn At (ts ++ us) tape ds rest → Cut At ts us tape ds rest
cut_turn At [] us tape ds rest h = record { prefix = []; behind = ds; next = tape; joined = refl; first = refl; second = h }
cut_turn At (t ∷ ts) us tape [] rest h = absurd h
cut_turn At (t ∷ ts) us tape (d ∷ ds) rest h =
    let c = cut_turn At ts us h.0 ds rest h.2 in
    record { prefix = d ∷ c.prefix; behind = c.behind; next = c.next; joined = ap (λ (xs : List Datum). d ∷ xs) c.joined; first = (h.0, h.1, c.first); second = c.second }

pub only_none : {A : Type 0} (At : A → List ℕ → Datum → List ℕ → Type 0) (tape : List ℕ) → OnlyOne (InTurn At [] tape) [] tape
only_none At tape [] end h = (refl, h)
only_none At tape (d ∷ ds) end h = absurd h

pub start_only : {A : Type 0} (At : A → List ℕ → Datum → List ℕ → Type 0) (tape : List ℕ) (vs : List Value) → vs ≡ [] → OnlyOne (InTurn At [] tape) (map datum_of vs) tape
start_only At tape vs e = subst (λ (ds : List Datum). OnlyOne (InTurn At [] tape) ds tape) (sym (ap (map datum_of) e)) (only_none At tape)

single_only : {A : Type 0} (At : A → List ℕ → Datum → List ℕ → Type 0) (t : A) (tape : List ℕ) (d : Datum) (rest : List ℕ) → OnlyOne (At t tape) d rest
    → OnlyOne (InTurn At (t ∷ []) tape) (d ∷ []) rest
single_only At t tape d rest one [] end h = absurd h
single_only At t tape d rest one (c ∷ []) end h =
    let p = one c h.0 h.1 in
    (ap (λ (x : Datum). x ∷ []) p.0, p.1 ∙ h.2)
single_only At t tape d rest one (c ∷ e ∷ es) end h = absurd h.2

-- one more behind those that stand
pub only_more : {A : Type 0} (At : A → List ℕ → Datum → List ℕ → Type 0) (ts : List A) (t : A) (tape : List ℕ) (xs : List Datum) (next : List ℕ) (d : Datum) (rest : List ℕ)
    → OnlyOne (InTurn At ts tape) xs next → OnlyOne (At t next) d rest → OnlyOne (InTurn At (ts ++ t ∷ []) tape) (xs ++ d ∷ []) rest
only_more At ts t tape xs next d rest one two ds end h =
    let c = cut_turn At ts (t ∷ []) tape ds end h in
    let p = one c.prefix c.next c.first in
    let q = single_only At t next d rest two c.behind end (subst (λ (n : List ℕ). InTurn At (t ∷ []) n c.behind end) (sym p.1) c.second) in
    (ap (λ (l : List Datum). l ++ d ∷ []) p.0 ∙ ap (λ (l : List Datum). c.prefix ++ l) q.0 ∙ sym c.joined, q.1)

-- the same of the values that the code has, with the value put behind them
pub one_more : {A : Type 0} (At : A → List ℕ → Datum → List ℕ → Type 0) (ts us : List A) (t : A) (tape : List ℕ) (xs all : List Value) (next rest : List ℕ) (v : Value)
    → us ≡ ts ++ t ∷ [] → all ≡ xs ++ v ∷ [] → OnlyOne (InTurn At ts tape) (map datum_of xs) next → OnlyOne (At t next) (datum_of v) rest → OnlyOne (InTurn At us tape) (map datum_of all) rest
one_more {A = A} At ts us t tape xs all next rest v types put one two =
    subst (λ (l : List A). OnlyOne (InTurn At l tape) (map datum_of all) rest) (sym types)
    (subst (λ (ds : List Datum). OnlyOne (InTurn At (ts ++ t ∷ []) tape) ds rest) (sym (map_pushed datum_of xs all v put)) (only_more At ts t tape (map datum_of xs) next (datum_of v) rest one two))

-- ---- fields and elements

fields_stand : (ts : List TheType) (tape : List ℕ) (ds : Data) (rest : List ℕ) → have_types (fields_from ts) ds ≡ true → tape ≡ fields_packed (fields_from ts) ds ++ rest
    → InTurn PackedValueAt ts tape (list_from ds) rest
fields_stand [] tape nothing_more rest h e = e
fields_stand [] tape (also d ds) rest h e = absurd (false≢true h)
fields_stand (t ∷ ts) tape nothing_more rest h e = absurd (false≢true h)
fields_stand (t ∷ ts) tape (also d ds) rest h e =
    let after = fields_packed (fields_from ts) ds ++ rest in (
      after,
      record { typed = first_so (has_type t d) _ h; prefix = e ∙ append_assoc (value_packed t d) (fields_packed (fields_from ts) ds) rest },
      fields_stand ts after ds rest (second_so (has_type t d) _ h) refl,
    )

pub struct_only : (ts : List TheType) (tape : List ℕ) (ds : List Datum) (rest : List ℕ) → OnlyOne (InTurn PackedValueAt ts tape) ds rest
    → OnlyOne (PackedValueAt (structure (fields_from ts)) tape) (fields (data_from ds)) rest
struct_only ts tape ds rest one (fields es) end h =
    let p = one (list_from es) end (fields_stand ts tape es end h.typed h.prefix) in
    (ap (λ (l : List Datum). fields (data_from l)) p.0 ∙ ap (λ (l : Data). fields l) (data_again es), p.1)
struct_only ts tape ds rest one (number z) end h = absurd (false≢true h.typed)
struct_only ts tape ds rest one (string bs) end h = absurd (false≢true h.typed)
struct_only ts tape ds rest one (elements es) end h = absurd (false≢true h.typed)

elements_stand : (n : ℕ) (t : TheType) (tape : List ℕ) (ds : Data) (rest : List ℕ) → count_of ds ≡ n → all_have_type t ds ≡ true → tape ≡ elements_packed t ds ++ rest
    → InTurn PackedValueAt (replicate n t) tape (list_from ds) rest
elements_stand zero t tape nothing_more rest k h e = e
elements_stand zero t tape (also d ds) rest k h e = absurd (omega (arith, k))
elements_stand (suc n) t tape nothing_more rest k h e = absurd (omega (arith, k))
elements_stand (suc n) t tape (also d ds) rest k h e =
    let after = elements_packed t ds ++ rest in (
      after,
      record { typed = first_so (has_type t d) _ h; prefix = e ∙ append_assoc (value_packed t d) (elements_packed t ds) rest },
      elements_stand n t after ds rest (omega (arith, k)) (second_so (has_type t d) _ h) refl,
    )

pub array_only : (n : ℕ) (t : TheType) (tape : List ℕ) (ds : List Datum) (rest : List ℕ) → OnlyOne (InTurn PackedValueAt (replicate n t) tape) ds rest
    → OnlyOne (PackedValueAt (array n t) tape) (elements (data_from ds)) rest
array_only n t tape ds rest one (elements es) end h =
    let p = one (list_from es) end (elements_stand n t tape es end (eqb-true (count_of es) n (first_so _ _ h.typed)) (second_so _ _ h.typed) h.prefix) in
    (ap (λ (l : List Datum). elements (data_from l)) p.0 ∙ ap (λ (l : Data). elements l) (data_again es), p.1)
array_only n t tape ds rest one (number z) end h = absurd (false≢true h.typed)
array_only n t tape ds rest one (string bs) end h = absurd (false≢true h.typed)
array_only n t tape ds rest one (fields es) end h = absurd (false≢true h.typed)

-- ---- arguments

pub fixed_only : (t : TheType) (tape : List ℕ) (d : Datum) (rest : List ℕ) → OnlyOne (PackedValueAt t tape) d rest → OnlyOne (PackedArgumentAt (fixed t) tape) d rest
fixed_only t tape d rest one e end h = one e end (record { typed = h.typed; prefix = h.prefix })

-- a length, and what stands behind it
record Counts (n : ℕ) (after behind : List ℕ) (count : ℕ) : Type 0 where
  pub told : n ≡ count
  pub rest : after ≡ behind

counted : (tape after bytes end : List ℕ) (n count : ℕ) → n ≡ number_in w64 8 tape → after ≡ drop 8 tape → count < 2 ^ 64 → tape ≡ (low_bytes 8 count ++ bytes) ++ end
    → Counts n after (bytes ++ end) count
counted tape after bytes end n count e f small prefix =
    let whole : tape ≡ low_bytes 8 count ++ (bytes ++ end) = prefix ∙ append_assoc (low_bytes 8 count) bytes end in
    record {
      told = e ∙ ap (λ (l : List ℕ). number_in w64 8 l) whole ∙ told_8 count (bytes ++ end) (omega (arith, small));
      rest = f ∙ ap (drop 8) whole ∙ low_dropped 0 8 count (bytes ++ end);
    }

pub sized_only : (most : ℕ) (t : TheType) (tape after : List ℕ) (n : ℕ) (ds : List Datum) (rest : List ℕ) → most < 2 ^ 64 → n ≡ number_in w64 8 tape → after ≡ drop 8 tape
    → OnlyOne (InTurn PackedValueAt (replicate n t) after) ds rest → OnlyOne (PackedArgumentAt (sized most t) tape) (elements (data_from ds)) rest
sized_only most t tape after n ds rest small e f one (elements es) end h =
    let few : count_of es ≤ most = leb-true (count_of es) most (first_so _ _ h.typed) in
    let c = counted tape after (elements_packed t es) end n (count_of es) e f (omega (arith, few, small)) h.prefix in
    let p = one (list_from es) end (elements_stand n t after es end (sym c.told) (second_so _ _ h.typed) c.rest) in
    (ap (λ (l : List Datum). elements (data_from l)) p.0 ∙ ap (λ (l : Data). elements l) (data_again es), p.1)
sized_only most t tape after n ds rest small e f one (number z) end h = absurd (false≢true h.typed)
sized_only most t tape after n ds rest small e f one (string bs) end h = absurd (false≢true h.typed)
sized_only most t tape after n ds rest small e f one (fields es) end h = absurd (false≢true h.typed)

taken_all : (xs more : List ℕ) (n : ℕ) → n ≡ length xs → (take n (xs ++ more) ≡ xs) × (drop n (xs ++ more) ≡ more)
taken_all [] more zero e = (refl, refl)
taken_all [] more (suc n) e = absurd (omega (arith, e))
taken_all (x ∷ xs) more zero e = absurd (omega (arith, e))
taken_all (x ∷ xs) more (suc n) e =
    let p = taken_all xs more n (omega (arith, e)) in
    (ap (λ (l : List ℕ). x ∷ l) p.0, p.1)

pub text_only : (most : ℕ) (tape after letters rest : List ℕ) (n : ℕ) → most < 2 ^ 64 → n ≡ number_in w64 8 tape → after ≡ drop 8 tape → letters ≡ take n after → rest ≡ drop n after
    → OnlyOne (PackedArgumentAt (text most) tape) (string letters) rest
text_only most tape after letters rest n small e f l r (string bs) end h =
    let few : length bs ≤ most = leb-true (length bs) most (first_so _ _ h.typed) in
    let c = counted tape after bs end n (length bs) e f (omega (arith, few, small)) h.prefix in
    let p = taken_all bs end n c.told in
    (ap string (l ∙ ap (take n) c.rest ∙ p.0), r ∙ ap (drop n) c.rest ∙ p.1)
text_only most tape after letters rest n small e f l r (number z) end h = absurd (false≢true h.typed)
text_only most tape after letters rest n small e f l r (elements es) end h = absurd (false≢true h.typed)
text_only most tape after letters rest n small e f l r (fields es) end h = absurd (false≢true h.typed)

-- one argument more, behind others and values that were read before them
pub behind_more : (arguments : List ArgType) (i : ℕ) (a : ArgType) (done : List TheArgType) (whole : List ℕ) (xs all : List Value) (next rest : List ℕ) (v : Value)
    → i < length arguments → a ≡ get_or arguments i a → all ≡ xs ++ v ∷ []
    → OnlyOne (InTurn PackedArgumentAt (done ++ map arg_type_of (take i arguments)) whole) (map datum_of xs) next → OnlyOne (PackedArgumentAt (arg_type_of a) next) (datum_of v) rest
    → OnlyOne (InTurn PackedArgumentAt (done ++ map arg_type_of (take (i + 1) arguments)) whole) (map datum_of all) rest
behind_more arguments i a done whole xs all next rest v inside here put one two =
    let type = arg_type_of a in
    let before = map arg_type_of (take i arguments) in
    let types : done ++ map arg_type_of (take (i + 1) arguments) ≡ (done ++ before) ++ type ∷ []
    = ap (λ (ts : List TheArgType). done ++ ts) (map_taken arg_type_of arguments i a inside here) ∙ sym (append_assoc done before (type ∷ [])) in
    one_more PackedArgumentAt (done ++ before) _ type whole xs all next rest v types put one two
