-- Which values are numbers and routes.
use Rattle.std.proofs.Common.{◌≡◌, ◌<◌, ◌^◌, zero, suc, pos, negsuc, Bool, true, false, ◌&&◌, List, [], ◌∷◌, length, refl, subst, arith}
use Rattle.std.specs.Prelude.{All, nat_lt, nat_le}
use Rattle.std.proofs.lemmas.Bool.{ltb-true, lt-ltb, leb-true, le-leb}
use Rattle.fl_base.specs.declared.identity.CoreId.{CoreId}
use Rattle.fl_interface.specs.declared.interface.Scalar.TheVariants.{Uint8, Uint16, Uint32, Iref}
use Rattle.fl_interface.specs.Interface.{scalar, sized}
use Rattle.fl_value_data.specs.Value.{Datum, number, string, elements, fields, Data, nothing_more, also, data_from}
use Rattle.fl_value_data.specs.Fits.{has_type, all_have_type, count_of, is_argument}
use Rattle.fl_monitor.specs.Routes.{FitsPath}
use Rattle.fl_monitor.specs.Intermon.{route}
use Rattle.fl_monitor.specs.Parts.{numbers, IsBelow, IsRouteValue}

pub false_true : {A : Type 0} → false ≡ true → A
false_true e = absurd (cc)

-- two tests that hold both
pub both : (a b : Bool) → a ≡ true → b ≡ true → (a && b) ≡ true
both true b p q = q
both false b p q = p

pub first_half : (a b : Bool) → (a && b) ≡ true → a ≡ true
first_half true b h = refl
first_half false b h = h

pub second_half : (a b : Bool) → (a && b) ≡ true → b ≡ true
second_half true b h = h
second_half false b h = false_true h

-- ---- numbers

pub has_8_bits : (d : Datum) → has_type (scalar Uint8) d ≡ true → IsBelow (2 ^ 8) d
has_8_bits (number (pos n)) h = record { n = n; is = refl; small = ltb-true n 256 h }
has_8_bits (number (negsuc n)) h = absurd (omega (arith, ltb-true n 0 h))
has_8_bits (string bytes) h = false_true h
has_8_bits (elements ds) h = false_true h
has_8_bits (fields ds) h = false_true h

pub has_16_bits : (d : Datum) → has_type (scalar Uint16) d ≡ true → IsBelow (2 ^ 16) d
has_16_bits (number (pos n)) h = record { n = n; is = refl; small = ltb-true n 65536 h }
has_16_bits (number (negsuc n)) h = absurd (omega (arith, ltb-true n 0 h))
has_16_bits (string bytes) h = false_true h
has_16_bits (elements ds) h = false_true h
has_16_bits (fields ds) h = false_true h

pub has_32_bits : (d : Datum) → has_type (scalar Uint32) d ≡ true → IsBelow (2 ^ 32) d
has_32_bits (number (pos n)) h = record { n = n; is = refl; small = ltb-true n 4294967296 h }
has_32_bits (number (negsuc n)) h = absurd (omega (arith, ltb-true n 0 h))
has_32_bits (string bytes) h = false_true h
has_32_bits (elements ds) h = false_true h
has_32_bits (fields ds) h = false_true h

pub is_reference : (d : Datum) → has_type (scalar Iref) d ≡ true → IsBelow (2 ^ 32) d
is_reference (number (pos n)) h = record { n = n; is = refl; small = ltb-true n 4294967296 h }
is_reference (number (negsuc n)) h = absurd (omega (arith, ltb-true n 0 h))
is_reference (string bytes) h = false_true h
is_reference (elements ds) h = false_true h
is_reference (fields ds) h = false_true h

-- ---- routes

pub count_numbers : (cores : List CoreId) → count_of (data_from (numbers cores)) ≡ length cores
count_numbers [] = refl
count_numbers (core ∷ cores) = omega (arith, count_numbers cores)

pub first_small : (core : CoreId) (cores : List CoreId) → All (λ (c : CoreId). c.0 < 2 ^ 8) (core ∷ cores) → core.0 < 2 ^ 8
first_small core cores h = h 0 core (omega arith)

pub rest_small : (core : CoreId) (cores : List CoreId) → All (λ (c : CoreId). c.0 < 2 ^ 8) (core ∷ cores) → All (λ (c : CoreId). c.0 < 2 ^ 8) cores
rest_small core cores h k d within = h (suc k) d (omega (arith, within))

no_small : All (λ (c : CoreId). c.0 < 2 ^ 8) []
no_small k d within = absurd (omega (arith, within))

more_small : (core : CoreId) (cores : List CoreId) → core.0 < 2 ^ 8 → All (λ (c : CoreId). c.0 < 2 ^ 8) cores → All (λ (c : CoreId). c.0 < 2 ^ 8) (core ∷ cores)
more_small core cores here rest zero d within = here
more_small core cores here rest (suc k) d within = rest k d (omega (arith, within))

-- core numbers of 8 bits are values of the elements' type
pub numbers_fit : (cores : List CoreId) → All (λ (c : CoreId). c.0 < 2 ^ 8) cores → all_have_type (scalar Uint8) (data_from (numbers cores)) ≡ true
numbers_fit [] h = refl
numbers_fit (core ∷ cores) h =
    both (nat_lt core.0 256) (all_have_type (scalar Uint8) (data_from (numbers cores)))
    (lt-ltb core.0 256 (first_small core cores h)) (numbers_fit cores (rest_small core cores h))

pub fit_numbers : (cores : List CoreId) → all_have_type (scalar Uint8) (data_from (numbers cores)) ≡ true → All (λ (c : CoreId). c.0 < 2 ^ 8) cores
fit_numbers [] h = no_small
fit_numbers (core ∷ cores) h =
    more_small core cores
    (ltb-true core.0 256 (first_half (nat_lt core.0 256) (all_have_type (scalar Uint8) (data_from (numbers cores))) h))
    (fit_numbers cores (second_half (nat_lt core.0 256) (all_have_type (scalar Uint8) (data_from (numbers cores))) h))

-- values of the elements' type are core numbers of 8 bits
record AreNumbers (ds : Data) : Type 0 where
  cores : List CoreId
  is : ds ≡ data_from (numbers cores)
  small : All (λ (c : CoreId). c.0 < 2 ^ 8) cores

numbers_of : (ds : Data) → all_have_type (scalar Uint8) ds ≡ true → AreNumbers ds
numbers_of nothing_more h = record { cores = []; is = refl; small = no_small }
numbers_of (also d ds) h =
    let one = has_8_bits d (first_half (has_type (scalar Uint8) d) (all_have_type (scalar Uint8) ds) h) in
    let rest = numbers_of ds (second_half (has_type (scalar Uint8) d) (all_have_type (scalar Uint8) ds) h) in
    record {
      cores = record { 0 = one.n } ∷ rest.cores;
      is = λ i. also (one.is i) (rest.is i);
      small = more_small (record { 0 = one.n }) rest.cores one.small rest.small;
    }

pub route_fits : (cores : List CoreId) → FitsPath cores → is_argument (sized 16 (scalar Uint8)) (route cores) ≡ true
route_fits cores fits =
    both (nat_le (count_of (data_from (numbers cores))) 16) (all_have_type (scalar Uint8) (data_from (numbers cores)))
    (le-leb (count_of (data_from (numbers cores))) 16 (omega (arith, count_numbers cores, fits.few))) (numbers_fit cores fits.small)

pub fits_route : (cores : List CoreId) → is_argument (sized 16 (scalar Uint8)) (route cores) ≡ true → FitsPath cores
fits_route cores h =
    let few = leb-true (count_of (data_from (numbers cores))) 16 (first_half (nat_le (count_of (data_from (numbers cores))) 16) (all_have_type (scalar Uint8) (data_from (numbers cores))) h) in
    record {
      few = omega (arith, count_numbers cores, few);
      small = fit_numbers cores (second_half (nat_le (count_of (data_from (numbers cores))) 16) (all_have_type (scalar Uint8) (data_from (numbers cores))) h);
    }

elements_route : (ds : Data) → is_argument (sized 16 (scalar Uint8)) (elements ds) ≡ true → IsRouteValue (elements ds)
elements_route ds h =
    let found = numbers_of ds (second_half (nat_le (count_of ds) 16) (all_have_type (scalar Uint8) ds) h) in
    let is : elements ds ≡ route found.cores = λ i. elements (found.is i) in
    record {
      cores = found.cores;
      is = is;
      fits = fits_route found.cores (subst (λ (d : Datum). is_argument (sized 16 (scalar Uint8)) d ≡ true) is h);
    }

-- the values of the route's type
pub route_of : (d : Datum) → is_argument (sized 16 (scalar Uint8)) d ≡ true → IsRouteValue d
route_of (number z) h = false_true h
route_of (string bytes) h = false_true h
route_of (elements ds) h = elements_route ds h
route_of (fields ds) h = false_true h

-- the core numbers tell the route
pub same_route : (p q : List CoreId) → data_from (numbers p) ≡ data_from (numbers q) → p ≡ q
same_route [] [] e = refl
same_route [] (d ∷ q) e = absurd (cc)
same_route (c ∷ p) [] e = absurd (cc)
same_route (c ∷ p) (d ∷ q) e =
    let here : c.0 ≡ d.0 = cc in
    let rest : data_from (numbers p) ≡ data_from (numbers q) = cc in
    let cores = same_route p q rest in
    λ i. record { 0 = here i } ∷ cores i
