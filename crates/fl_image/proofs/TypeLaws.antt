-- Types: what is read is spelled so, and what is spelled so is read.
use Rattle.std.proofs.Common.{◌≡◌, ℕ, zero, suc, ◌<◌, ◌⊎◌, inl, inr, ⊎_elim, Bool, true, false, cond, eqb, List, [], ◌∷◌, ◌++◌, length, Option, Some, None, Ok, Err, refl, sym, ap, subst, ◌∙◌, arith}
use Rattle.std.specs.List.{flat_map}
use Rattle.std.proofs.lemmas.Bool.{eqb-true}
use Rattle.fl_interface.specs.declared.interface.Scalar.{Scalar}
use Rattle.fl_interface.specs.declared.interface.Scalar.TheVariants.{Uint8, Int8, Bool as BoolType, Char, Uint16, Int16, Uint32, Int32, Iref, Uint64, Int64, Uintptr, Intptr, Size, Errval}
use Rattle.fl_interface.specs.Interface.{TheType, scalar, enumeration, structure, array, fields_from}
use Rattle.fl_interface.specs.Limits.{count_of}
use Rattle.fl_image.specs.declared.fault.BadImage.TheVariants.{BadField}
use Rattle.fl_image.specs.Image.{one, two, scalar_code, type_image, fields_image}
use Rattle.fl_image.specs.Reading.{◌>>=◌, Read, known, many_at, one_at, two_at, with_code, all_scalars, scalar_with, scalar_at, enumeration_at, structure_at, array_at, coded_at, type_at}
use Rattle.fl_image.proofs.ReadBack.{IsBytes, Law, Takes, follow, mapped, many, IsList, AllAfter, bind_ok, first_is, rest_is}
use Rattle.fl_image.proofs.Numbers.{one_law, two_law}

-- which way a test went
pub picked : {A : Type 0} (b : Bool) (x y z : A) → cond b x y ≡ z → ((b ≡ true) × (x ≡ z)) ⊎ ((b ≡ false) × (y ≡ z))
picked true x y z e = inl (refl, e)
picked false x y z e = inr (refl, e)

abbrev some : {A : Type 0} → A → Option A
some x = Some x

some_is : {A : Type 0} (x y : A) → some x ≡ some y → x ≡ y
some_is x y e = cc

-- what is found by a code has it
pub with_code_is : {A : Type 0} (code_of : A → ℕ) (code : ℕ) (xs : List A) (x : A) → with_code code_of code xs ≡ Some x → code_of x ≡ code
with_code_is code_of code [] x e = absurd cc
with_code_is {A = A} code_of code (y ∷ ys) x e =
    ⊎_elim
    (λ (p : (eqb code (code_of y) ≡ true) × (Some y ≡ Some x)). ap code_of (sym (some_is y x p.1)) ∙ sym (eqb-true code (code_of y) p.0))
    (λ (p : (eqb code (code_of y) ≡ false) × (with_code code_of code ys ≡ Some x)). with_code_is code_of code ys x p.1)
    (picked (eqb code (code_of y)) (Some y) (with_code code_of code ys) (Some x) e)

-- ---- a type's code, and what stands behind it

abbrev pub type_code : TheType → ℕ
type_code (scalar s) = scalar_code s
type_code (enumeration n) = 16
type_code (structure ts) = 17
type_code (array n t) = 18

abbrev pub body : TheType → List ℕ
body (scalar s) = []
body (enumeration n) = two n
body (structure ts) = one (count_of ts) ++ fields_image ts
body (array n t) = two n ++ type_image t

code_and_body : (t : TheType) → type_image t ≡ one (type_code t) ++ body t
code_and_body (scalar s) = refl
code_and_body (enumeration n) = refl
code_and_body (structure ts) = refl
code_and_body (array n t) = refl

code_small : (t : TheType) → type_code t < 256
code_small (scalar s) = scalar_small s
  where
    scalar_small : (s : Scalar) → scalar_code s < 256
    scalar_small Uint8 = omega arith
    scalar_small Int8 = omega arith
    scalar_small BoolType = omega arith
    scalar_small Char = omega arith
    scalar_small Uint16 = omega arith
    scalar_small Int16 = omega arith
    scalar_small Uint32 = omega arith
    scalar_small Int32 = omega arith
    scalar_small Iref = omega arith
    scalar_small Uint64 = omega arith
    scalar_small Int64 = omega arith
    scalar_small Uintptr = omega arith
    scalar_small Intptr = omega arith
    scalar_small Size = omega arith
    scalar_small Errval = omega arith
code_small (enumeration n) = omega arith
code_small (structure ts) = omega arith
code_small (array n t) = omega arith

-- ---- which types have an image, by kind

abbrev pub IsEnumeration : TheType → Type 0
IsEnumeration t = (n : ℕ) × (t ≡ enumeration n) × (n < 65536)

abbrev pub IsScalar : TheType → Type 0
IsScalar t = (s : Scalar) × (t ≡ scalar s)

abbrev pub IsStructure : (TheType → Type 0) → TheType → Type 0
IsStructure inner t = (ts : List TheType) × (t ≡ structure (fields_from ts)) × (length ts < 256) × AllAfter (λ before. inner) [] ts

abbrev pub IsArray : (TheType → Type 0) → TheType → Type 0
IsArray inner t = (n : ℕ) × (e : TheType) × (t ≡ array n e) × (n < 65536) × inner e

-- at most so many types in one another
abbrev pub NestsIn : ℕ → TheType → Type 0
NestsIn zero t = ⊥
NestsIn (suc left) t = IsEnumeration t ⊎ (IsStructure (NestsIn left) t ⊎ (IsArray (NestsIn left) t ⊎ IsScalar t))

-- ---- each kind

enumeration_law : Law enumeration_at body IsEnumeration
unfolding enumeration_at
enumeration_law = mapped two_at two (λ n. n < 65536) enumeration body IsEnumeration two_law record {
  made = λ n lt. (refl, (n, refl, lt));
  cut = λ t h. (h.0, sym h.1, h.2);
}

pub count_is : (ts : List TheType) → count_of (fields_from ts) ≡ length ts
count_is [] = refl
count_is (t ∷ ts) = rw (count_is ts) (omega arith)

pub fields_are : (ts : List TheType) → fields_image (fields_from ts) ≡ flat_map type_image ts
fields_are [] = refl
fields_are (t ∷ ts) = ap (λ (x : List ℕ). type_image t ++ x) (fields_are ts)

-- what stands behind the count
abbrev behind_count : TheType → List ℕ
behind_count (structure ts) = fields_image ts
behind_count (array n t) = type_image t
behind_count t = []

abbrev HasFields : (TheType → Type 0) → ℕ → TheType → Type 0
HasFields inner n t = (ts : List TheType) × (t ≡ structure (fields_from ts)) × IsList inner n ts

fields_law : (read : List ℕ → Read TheType) (inner : TheType → Type 0) → Law read type_image inner → (n : ℕ)
    → Law (λ bytes. many_at read n bytes >>= λ fields. Ok (structure (fields_from fields.0), fields.1)) behind_count (HasFields inner n)
fields_law read inner law n = mapped (many_at read n) (flat_map type_image) (IsList inner n) (λ ts. structure (fields_from ts)) behind_count (HasFields inner n) (many read type_image inner law n) record {
  made = λ ts h. (fields_are ts, (ts, refl, h));
  cut = λ t h. (h.0, sym h.1, h.2);
}

structure_body : (ts : List TheType) (n : ℕ) → length ts ≡ n → body (structure (fields_from ts)) ≡ one n ++ behind_count (structure (fields_from ts))
structure_body ts n e = ap (λ (k : ℕ). one k ++ fields_image (fields_from ts)) (count_is ts ∙ e)

structure_law : (read : List ℕ → Read TheType) (inner : TheType → Type 0) → Law read type_image inner → Law (structure_at read) body (IsStructure inner)
unfolding structure_at
structure_law read inner law = follow one_at one (λ n. n < 256) (λ n bytes. many_at read n bytes >>= λ fields. Ok (structure (fields_from fields.0), fields.1)) (λ n. behind_count) (HasFields inner) body (IsStructure inner) one_law (λ n lt. fields_law read inner law n) record {
  joined = λ n t lt h.
      let e : body t ≡ one n ++ behind_count t = subst (λ (u : TheType). body u ≡ one n ++ behind_count u) (sym h.1) (structure_body h.0 n h.2.0) in
      let short : length h.0 < 256 = omega (arith, h.2.0, lt) in
      (e, (h.0, h.1, short, h.2.1));
  cut = λ t h. (length h.0, h.2, (h.0, h.1, (refl, h.3)));
}

abbrev HasElement : (TheType → Type 0) → ℕ → TheType → Type 0
HasElement inner n t = (e : TheType) × (t ≡ array n e) × inner e

array_law : (read : List ℕ → Read TheType) (inner : TheType → Type 0) → Law read type_image inner → Law (array_at read) body (IsArray inner)
unfolding array_at
array_law read inner law = follow two_at two (λ n. n < 65536) (λ n bytes. read bytes >>= λ element. Ok (array n element.0, element.1)) (λ n. behind_count) (HasElement inner) body (IsArray inner) two_law
    (λ n lt. mapped read type_image inner (array n) behind_count (HasElement inner n) law record {
      made = λ e h. (refl, (e, refl, h));
      cut = λ t h. (h.0, sym h.1, h.2);
    })
    record {
      joined = λ n t lt h. (subst (λ (u : TheType). body u ≡ two n ++ behind_count u) (sym h.1) refl, (n, h.0, h.1, lt, h.2));
      cut = λ t h. (h.0, h.3, (h.1, h.2, h.4));
    }

scalar_taken : (code : ℕ) (o : Option Scalar) (bytes : List ℕ) (t : TheType) (rest : List ℕ) → (known o bytes >>= λ kind. Ok (scalar kind.0, kind.1)) ≡ Ok (t, rest)
    → (s : Scalar) × (o ≡ Some s) × (t ≡ scalar s) × (bytes ≡ rest)
scalar_taken code None bytes t rest e = absurd cc
scalar_taken code (Some s) bytes t rest e = (s, refl, sym (first_is (scalar s) bytes t rest e), rest_is (scalar s) bytes t rest e)

scalar_takes : (code : ℕ) (bytes : List ℕ) (t : TheType) (rest : List ℕ) → IsBytes bytes → scalar_at code bytes ≡ Ok (t, rest) → Takes bytes (body t) rest × ((type_code t ≡ code) × IsScalar t)
unfolding scalar_at scalar_with
scalar_takes code bytes t rest h e =
    let s = scalar_taken code (scalar_with code) bytes t rest e in
    let coded : scalar_code s.0 ≡ code = with_code_is scalar_code code all_scalars s.0 s.1 in
    (subst (λ (u : TheType). Takes bytes (body u) rest) (sym s.2) (record { parts = s.3; rest_fits = subst IsBytes s.3 h }), (ap type_code s.2 ∙ coded, (s.0, s.2)))

scalar_again : (inner : List ℕ → Read TheType) (s : Scalar) (rest : List ℕ) → coded_at inner (scalar_code s) rest ≡ Ok (scalar s, rest)
unfolding scalar_at scalar_with
scalar_again inner Uint8 rest = refl
scalar_again inner Int8 rest = refl
scalar_again inner BoolType rest = refl
scalar_again inner Char rest = refl
scalar_again inner Uint16 rest = refl
scalar_again inner Int16 rest = refl
scalar_again inner Uint32 rest = refl
scalar_again inner Int32 rest = refl
scalar_again inner Iref rest = refl
scalar_again inner Uint64 rest = refl
scalar_again inner Int64 rest = refl
scalar_again inner Uintptr rest = refl
scalar_again inner Intptr rest = refl
scalar_again inner Size rest = refl
scalar_again inner Errval rest = refl

-- ---- any type

abbrev Coded : ℕ → ℕ → TheType → Type 0
Coded left code t = (type_code t ≡ code) × NestsIn (suc left) t

coded_takes : (left : ℕ) → Law (type_at left) type_image (NestsIn left) → (code : ℕ) (bytes : List ℕ) (t : TheType) (rest : List ℕ) → IsBytes bytes
    → coded_at (type_at left) code bytes ≡ Ok (t, rest) → Takes bytes (body t) rest × Coded left code t
coded_takes left law code bytes t rest h e =
    let inner = type_at left in
    ⊎_elim
    (λ (p : (eqb code 16 ≡ true) × (enumeration_at bytes ≡ Ok (t, rest))).
    let x = enumeration_law.takes bytes t rest h p.1 in
    (x.0, (ap type_code x.1.1 ∙ sym (eqb-true code 16 p.0), inl x.1)))
    (λ (q : (eqb code 16 ≡ false) × (cond (eqb code 17) (structure_at inner bytes) (cond (eqb code 18) (array_at inner bytes) (scalar_at code bytes)) ≡ Ok (t, rest))).
    ⊎_elim
    (λ (p : (eqb code 17 ≡ true) × (structure_at inner bytes ≡ Ok (t, rest))).
    let x = (structure_law inner (NestsIn left) law).takes bytes t rest h p.1 in
    (x.0, (ap type_code x.1.1 ∙ sym (eqb-true code 17 p.0), inr (inl x.1))))
    (λ (r : (eqb code 17 ≡ false) × (cond (eqb code 18) (array_at inner bytes) (scalar_at code bytes) ≡ Ok (t, rest))).
    ⊎_elim
    (λ (p : (eqb code 18 ≡ true) × (array_at inner bytes ≡ Ok (t, rest))).
    let x = (array_law inner (NestsIn left) law).takes bytes t rest h p.1 in
    (x.0, (ap type_code x.1.2 ∙ sym (eqb-true code 18 p.0), inr (inr (inl x.1)))))
    (λ (p : (eqb code 18 ≡ false) × (scalar_at code bytes ≡ Ok (t, rest))).
    let x = scalar_takes code bytes t rest h p.1 in
    (x.0, (x.1.0, inr (inr (inr x.1.1)))))
    (picked (eqb code 18) (array_at inner bytes) (scalar_at code bytes) (Ok (t, rest)) r.1))
    (picked (eqb code 17) (structure_at inner bytes) (cond (eqb code 18) (array_at inner bytes) (scalar_at code bytes)) (Ok (t, rest)) q.1))
    (picked (eqb code 16) (enumeration_at bytes) (cond (eqb code 17) (structure_at inner bytes) (cond (eqb code 18) (array_at inner bytes) (scalar_at code bytes))) (Ok (t, rest)) e)

-- at the type's own code
again_at_code : (left : ℕ) → Law (type_at left) type_image (NestsIn left) → (t : TheType) (rest : List ℕ) → NestsIn (suc left) t → coded_at (type_at left) (type_code t) (body t ++ rest) ≡ Ok (t, rest)
again_at_code left law t rest (inl h) =
    subst (λ (c : ℕ). coded_at (type_at left) c (body t ++ rest) ≡ Ok (t, rest)) (sym (ap type_code h.1)) (enumeration_law.again t rest h)
again_at_code left law t rest (inr (inl h)) =
    subst (λ (c : ℕ). coded_at (type_at left) c (body t ++ rest) ≡ Ok (t, rest)) (sym (ap type_code h.1)) ((structure_law (type_at left) (NestsIn left) law).again t rest h)
again_at_code left law t rest (inr (inr (inl h))) =
    subst (λ (c : ℕ). coded_at (type_at left) c (body t ++ rest) ≡ Ok (t, rest)) (sym (ap type_code h.2)) ((array_law (type_at left) (NestsIn left) law).again t rest h)
again_at_code left law t rest (inr (inr (inr h))) =
    subst (λ (u : TheType). coded_at (type_at left) (type_code u) (body u ++ rest) ≡ Ok (u, rest)) (sym h.1) (scalar_again (type_at left) h.0 rest)

coded_law : (left : ℕ) → Law (type_at left) type_image (NestsIn left) → (code : ℕ) → Law (coded_at (type_at left) code) body (Coded left code)
coded_law left law code = record {
  takes = coded_takes left law code;
  again = λ t rest h. subst (λ (c : ℕ). coded_at (type_at left) c (body t ++ rest) ≡ Ok (t, rest)) h.0 (again_at_code left law t rest h.1);
}

none_read : (bytes : List ℕ) (t : TheType) (rest : List ℕ) → (one_at bytes >>= λ code. Err BadField) ≡ Ok (t, rest) → ⊥
none_read bytes t rest e = let s = bind_ok (one_at bytes) (λ code. Err BadField) (t, rest) e in absurd cc

pub type_law : (left : ℕ) → Law (type_at left) type_image (NestsIn left)
unfolding type_at
type_law zero = record {
  takes = λ bytes t rest h e. absurd (none_read bytes t rest e);
  again = λ t rest h. absurd h;
}
type_law (suc left) = follow one_at one (λ n. n < 256) (coded_at (type_at left)) (λ code. body) (Coded left) type_image (NestsIn (suc left)) one_law (λ code lt. coded_law left (type_law left) code) record {
  joined = λ code t lt h. (code_and_body t ∙ ap (λ (c : ℕ). one c ++ body t) h.0, h.1);
  cut = λ t h. (type_code t, code_small t, (refl, h));
}
