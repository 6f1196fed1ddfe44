-- Elements of eight bytes, a word each; and elements and fields of which none is read yet.
use Rattle.std.proofs.Common.{◌≡◌, ℕ, ◌+◌, ◌-◌, ◌*◌, ◌^◌, ◌<◌, ◌≤◌, List, [], ◌∷◌, ◌++◌, length, drop, refl, sym, subst, arith}
use Rattle.fl_base.specs.declared.fragment.Frag.{Frag}
use Rattle.fl_interface.specs.declared.interface.Scalar.{Scalar}
use Rattle.fl_interface.specs.declared.interface.Scalar.TheVariants.{Uint8, Int8, Bool as BoolType, Char, Uint16, Int16, Uint32, Int32, Iref, Uint64, Int64, Uintptr, Intptr, Size, Errval}
use Rattle.fl_interface.specs.Interface.{TheType, scalar, fixed}
use Rattle.fl_interface.specs.Sizes.{scalar_size}
use Rattle.fl_value_data.specs.Value.{Datum, number, data_from}
use Rattle.fl_wire.specs.Standing.{number_back}
use Rattle.fl_wire.specs.Shapes.{values_of, elements_of, number_below, ReadAt}
use Rattle.fl_wire.proofs.Steps.{Come, come_self}
use Rattle.fl_wire.proofs.Parts.{scalar_numbers, scalar_join, begins_scalar, whole_read, put_before, elements_on, elements_end, fields_at}

-- none so far
pub elements_start : (n i : ℕ) (t : TheType) (frags : List Frag) (start at : ℕ) (xs : List Datum) → i ≡ 0 → at ≡ start → xs ≡ [] → start ≤ 56 * length frags
    → Come (elements_of n t) (elements_of (n - i) t) frags start at (put_before xs)
elements_start n i t frags start at xs none here empty room =
    let all : n ≡ n - i = omega (arith, none) in
    let first : Come (elements_of n t) (elements_of n t) frags start start (put_before []) = come_self (elements_of n t) frags start room in
    subst (λ (ys : List Datum). Come (elements_of n t) (elements_of (n - i) t) frags start at (put_before ys)) (sym empty)
    (subst (λ (p : ℕ). Come (elements_of n t) (elements_of (n - i) t) frags start p (put_before [])) (sym here)
    (subst (λ (m : ℕ). Come (elements_of n t) (elements_of m t) frags start start (put_before [])) all first))

pub fields_start : {F : Type 0} (type : F → TheType) (fs : List F) (frags : List Frag) (start : ℕ) (xs : List Datum) → xs ≡ [] → start ≤ 56 * length frags
    → Come (fields_at type fs) (fields_at type (drop 0 fs)) frags start start (put_before xs)
fields_start type fs frags start xs empty room =
    subst (λ (ys : List Datum). Come (fields_at type fs) (fields_at type fs) frags start start (put_before ys)) (sym empty) (come_self (fields_at type fs) frags start room)

-- a scalar of eight bytes may be any number of these
all_wide : (s : Scalar) → scalar_size s ≡ 8 → scalar_numbers s ≡ 2 ^ (8 * 8)
all_wide Uint64 e = refl
all_wide Int64 e = refl
all_wide Uintptr e = refl
all_wide Intptr e = refl
all_wide Size e = refl
all_wide Errval e = refl
all_wide Uint8 e = absurd (omega (arith, e))
all_wide Int8 e = absurd (omega (arith, e))
all_wide BoolType e = absurd (omega (arith, e))
all_wide Char e = absurd (omega (arith, e))
all_wide Uint16 e = absurd (omega (arith, e))
all_wide Int16 e = absurd (omega (arith, e))
all_wide Uint32 e = absurd (omega (arith, e))
all_wide Int32 e = absurd (omega (arith, e))
all_wide Iref e = absurd (omega (arith, e))

-- word w of fragment f, as a scalar of eight bytes
pub word_value : (s : Scalar) (frags : List Frag) (f w at end raw : ℕ) (d : Datum) → scalar_size s ≡ 8 → f < length frags → w < 7 → 56 * f + 8 * w ≡ at → end ≡ at + 8
    → ReadAt (number_below 8 (2 ^ (8 * 8))) frags (56 * f + 8 * w) raw (56 * f + 8 * w + 8) → d ≡ number (number_back (fixed (scalar s)) raw) → ReadAt (values_of (scalar s)) frags at d end
word_value s frags f w at end raw d wide there inside place ends read is =
    let here = 56 * f + 8 * w in
    let bounded : ReadAt (number_below 8 (scalar_numbers s)) frags here raw (here + 8)
    = subst (λ (n : ℕ). ReadAt (number_below 8 n) frags here raw (here + 8)) (sym (all_wide s wide)) read in
    let own : ReadAt (number_below (scalar_size s) (scalar_numbers s)) frags here raw (here + 8)
    = subst (λ (v : ℕ). ReadAt (number_below v (scalar_numbers s)) frags here raw (here + 8)) (sym wide) bounded in
    let value : ReadAt (values_of (scalar s)) frags here (scalar_join s raw tt) (here + 8)
    = whole_read (values_of (scalar s)) (number_below (scalar_size s) (scalar_numbers s)) frags here (here + 8) (scalar_join s) raw (begins_scalar s) (omega arith) (omega (arith, there, inside)) own in
    let named : ReadAt (values_of (scalar s)) frags here d (here + 8) = subst (λ (e : Datum). ReadAt (values_of (scalar s)) frags here e (here + 8)) (sym is) value in
    subst (λ (m : ℕ). ReadAt (values_of (scalar s)) frags at d m) (sym ends) (subst (λ (m : ℕ). ReadAt (values_of (scalar s)) frags m d (m + 8)) place named)

-- so many, told otherwise
pub words_at : (s : Scalar) (n i j : ℕ) (frags : List Frag) (start : ℕ) (xs : List Datum) → i ≡ j → Come (elements_of n (scalar s)) (elements_of (n - i) (scalar s)) frags start (start + 8 * i) (put_before xs)
    → Come (elements_of n (scalar s)) (elements_of (n - j) (scalar s)) frags start (start + 8 * j) (put_before xs)
words_at s n i j frags start xs same come =
    subst (λ (m : ℕ). Come (elements_of n (scalar s)) (elements_of (n - m) (scalar s)) frags start (start + 8 * m) (put_before xs)) same come

-- one more
pub words_on : (s : Scalar) (n i : ℕ) (frags : List Frag) (start f w raw : ℕ) (xs all : List Datum) (d : Datum) → scalar_size s ≡ 8 → i < n → start + 8 * n ≤ 56 * length frags → w < 7
    → 56 * f + 8 * w ≡ start + 8 * i → Come (elements_of n (scalar s)) (elements_of (n - i) (scalar s)) frags start (start + 8 * i) (put_before xs)
    → ReadAt (number_below 8 (2 ^ (8 * 8))) frags (56 * f + 8 * w) raw (56 * f + 8 * w + 8) → d ≡ number (number_back (fixed (scalar s)) raw) → all ≡ xs ++ d ∷ []
    → Come (elements_of n (scalar s)) (elements_of (n - (i + 1)) (scalar s)) frags start (start + 8 * (i + 1)) (put_before all)
words_on s n i frags start f w raw xs all d wide small room inside place come read is more =
    let at = start + 8 * i in
    let end = start + 8 * (i + 1) in
    let there : f < length frags = omega (arith, small, room, place) in
    let ends : end ≡ at + 8 = omega arith in
    elements_on n i (scalar s) frags start at end xs all d small come (omega arith) (omega (arith, small, room))
    (word_value s frags f w at end raw d wide there inside place ends read is) more

-- all of them
pub words_end : (s : Scalar) (n i : ℕ) (frags : List Frag) (start : ℕ) (xs : List Datum) → n ≡ i
    → Come (elements_of n (scalar s)) (elements_of (n - i) (scalar s)) frags start (start + 8 * i) (put_before xs) → ReadAt (elements_of n (scalar s)) frags start (data_from xs) (start + 8 * n)
words_end s n i frags start xs all come =
    subst (λ (m : ℕ). ReadAt (elements_of n (scalar s)) frags start (data_from xs) (start + 8 * m)) (sym all)
    (elements_end n i (scalar s) frags start (start + 8 * i) xs (omega (arith, all)) come)
