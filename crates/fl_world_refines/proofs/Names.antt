-- The table of names: what look-ups find there.
use Rattle.std.proofs.Common.{◌≡◌, refl, sym, ◌∙◌, ap, subst, ℕ, zero, suc, ◌+◌, ◌-◌, ◌<◌, ◌==◌, nat_lt, Bool, true, false, List, [], ◌∷◌, ◌++◌, length, slice_get, Some, None, arith}
use Rattle.std.specs.Prelude.{find, bytes_eq}
use Rattle.std.specs.List.{position_from}
use Rattle.std.proofs.lemmas.Option.{same_Some}
use Rattle.std.proofs.lemmas.Iterator.Adapters.{position_from-zero}
use Rattle.std.proofs.lemmas.Bool.Decides.{nat_tests}
use Rattle.fl_nameserv.specs.Registrations.{TheRegistration, has_iref, has_name, by_iref, by_name, with_registered}
use Rattle.fl_model.specs.Monitors.{Service, service_of}
use Rattle.fl_model.specs.Binding.{place_of_service}
use Rattle.fl_world_refines.specs.Cores.{offer_of, registered_from, NamesShow}
use Rattle.fl_world_refines.specs.CoreLaws.{registration_of, NamesAgree}
use Rattle.fl_world_refines.proofs.Tests.{by_test, then_is, else_is, lt_true, true_lt}

same : (n m : ℕ) → n ≡ m → (n == m) ≡ true
same n m h = grind (arith, nat_tests, h)

apart : (n m : ℕ) → m < n → (n == m) ≡ false
apart n m h = grind (arith, nat_tests, h)

-- counted from n, the registration with reference m is that of place m - n
by_number : (xs : List Service) (n m k : ℕ) (x : Service) → m ≡ n + k → slice_get xs k ≡ Some x
    → find (has_iref m) (registered_from n xs) ≡ Some (registration_of m x)
by_number [] n m k x e q = absurd (cc)
by_number (y ∷ ys) n m zero x e q =
    let here : m ≡ n = omega (arith, e) in
    let is : y ≡ x = cc in
    then_is (m == n) (Some (registration_of n y)) (find (has_iref m) (registered_from (n + 1) ys)) (same m n here)
    ∙ ap (λ (j : ℕ). Some (registration_of j y)) (sym here) ∙ ap (λ (z : Service). Some (registration_of m z)) is
by_number (y ∷ ys) n m (suc k) x e q =
    else_is (m == n) (Some (registration_of n y)) (find (has_iref m) (registered_from (n + 1) ys)) (apart m n (omega (arith, e)))
    ∙ by_number ys (n + 1) m k x (omega (arith, e)) q

no_number : (xs : List Service) (n m k : ℕ) → m ≡ n + k → slice_get xs k ≡ None → find (has_iref m) (registered_from n xs) ≡ None
no_number [] n m k e q = refl
no_number (y ∷ ys) n m zero e q = absurd (cc)
no_number (y ∷ ys) n m (suc k) e q =
    else_is (m == n) (Some (registration_of n y)) (find (has_iref m) (registered_from (n + 1) ys)) (apart m n (omega (arith, e)))
    ∙ no_number ys (n + 1) m k (omega (arith, e)) q

different : (n m : ℕ) → n < m → (n == m) ≡ false
different n m h = grind (arith, nat_tests, h)

-- none has a smaller one
no_smaller : (xs : List Service) (n m : ℕ) → m < n → find (has_iref m) (registered_from n xs) ≡ None
no_smaller [] n m h = refl
no_smaller (y ∷ ys) n m h =
    else_is (m == n) (Some (registration_of n y)) (find (has_iref m) (registered_from (n + 1) ys)) (different m n h)
    ∙ no_smaller ys (n + 1) m (omega (arith, h))

found_is : (services : List Service) (iref : ℕ) (x : Service) → service_of services iref ≡ Some x
    → by_iref iref (registered_from 1 services) ≡ Some (registration_of iref x)
found_is services iref x q = by_test (nat_lt 0 iref)
    (λ t.
    let some = true_lt 0 iref t in
    by_number services 1 iref (iref - 1) x (omega (arith, some))
    (sym (then_is (nat_lt 0 iref) (slice_get services (iref - 1)) None t) ∙ q))
    (λ t. absurd (let u : None ≡ Some x = sym (else_is (nat_lt 0 iref) (slice_get services (iref - 1)) None t) ∙ q in cc))

none_is : (services : List Service) (iref : ℕ) → service_of services iref ≡ None → by_iref iref (registered_from 1 services) ≡ None
none_is services zero q = no_smaller services 1 zero (omega arith)
none_is services (suc k) q =
    no_number services 1 (suc k) k (omega arith)
    (ap (slice_get services) (omega arith) ∙ sym (then_is (nat_lt 0 (suc k)) (slice_get services (suc k - 1)) None (lt_true 0 (suc k) (omega arith))) ∙ q)

-- ---- by name

abbrev has_that : List ℕ → Service → Bool
has_that name x = bytes_eq name x.name

-- what a look-up by place finds, where places are counted from i
record Named (name : List ℕ) (xs : List Service) (n i place : ℕ) : Type 0 where
  pub at : ℕ
  pub service : Service
  pub place_is : place ≡ i + at
  pub there : slice_get xs at ≡ Some service
  pub found : find (has_name name) (registered_from n xs) ≡ Some (registration_of (n + at) service)

one_at : (i place : ℕ) → Some i ≡ Some place → place ≡ i + 0
one_at i place h = let e : i ≡ place = same_Some i place h in omega (arith, e)

named : (name : List ℕ) (xs : List Service) (n i place : ℕ) → position_from (has_that name) i xs ≡ Some place → Named name xs n i place
named name [] n i place h = absurd (cc)
named name (y ∷ ys) n i place h = by_test (bytes_eq name y.name)
    (λ t. record {
      at = 0;
      service = y;
      place_is = one_at i place (sym (then_is (bytes_eq name y.name) (Some i) (position_from (has_that name) (i + 1) ys) t) ∙ h);
      there = refl;
      found = then_is (bytes_eq name y.name) (Some (registration_of n y)) (find (has_name name) (registered_from (n + 1) ys)) t
          ∙ ap (λ (j : ℕ). Some (registration_of j y)) (omega arith);
    })
    (λ t.
    let r = named name ys (n + 1) (i + 1) place (sym (else_is (bytes_eq name y.name) (Some i) (position_from (has_that name) (i + 1) ys) t) ∙ h) in
    let place_is = r.place_is in
    let further : n + 1 + r.at ≡ n + suc r.at = omega arith in
    record {
      at = suc r.at;
      service = r.service;
      place_is = omega (arith, place_is);
      there = r.there;
      found = else_is (bytes_eq name y.name) (Some (registration_of n y)) (find (has_name name) (registered_from (n + 1) ys)) t
          ∙ r.found ∙ ap (λ (j : ℕ). Some (registration_of j r.service)) further;
    })

unnamed : (name : List ℕ) (xs : List Service) (n i : ℕ) → position_from (has_that name) i xs ≡ None → find (has_name name) (registered_from n xs) ≡ None
unnamed name [] n i h = refl
unnamed name (y ∷ ys) n i h = by_test (bytes_eq name y.name)
    (λ t. absurd (let u : Some i ≡ None = sym (then_is (bytes_eq name y.name) (Some i) (position_from (has_that name) (i + 1) ys) t) ∙ h in cc))
    (λ t.
    else_is (bytes_eq name y.name) (Some (registration_of n y)) (find (has_name name) (registered_from (n + 1) ys)) t
    ∙ unnamed name ys (n + 1) (i + 1) (sym (else_is (bytes_eq name y.name) (Some i) (position_from (has_that name) (i + 1) ys) t) ∙ h))

named_is : (name : List ℕ) (services : List Service) (place : ℕ) (x : Service) → place_of_service name services ≡ Some place → slice_get services place ≡ Some x
    → by_name name (registered_from 1 services) ≡ Some (registration_of (place + 1) x)
named_is name services place x p q =
    let r = named name services 1 0 place (sym (position_from-zero (has_that name) services) ∙ p) in
    let place_is = r.place_is in
    let at : r.at ≡ place = omega (arith, place_is) in
    let same_place : 1 + r.at ≡ place + 1 = omega (arith, at) in
    let is : r.service ≡ x = same_Some r.service x (sym r.there ∙ ap (slice_get services) at ∙ q) in
    r.found ∙ ap (λ (j : ℕ). Some (registration_of j r.service)) same_place ∙ ap (λ (y : Service). Some (registration_of (place + 1) y)) is

-- ---- one more

length_registered : (xs : List Service) (n : ℕ) → length (registered_from n xs) ≡ length xs
length_registered [] n = refl
length_registered (x ∷ xs) n = ap suc (length_registered xs (n + 1))

registered_more : (xs : List Service) (n : ℕ) (x : Service) → registered_from n (xs ++ x ∷ []) ≡ registered_from n xs ++ registration_of (n + length xs) x ∷ []
registered_more [] n x = ap (λ (j : ℕ). registration_of j x ∷ []) (omega arith)
registered_more (y ∷ ys) n x =
    let further : n + 1 + length ys ≡ n + length (y ∷ ys) = omega arith in
    ap (λ (rs : List TheRegistration). registration_of n y ∷ rs)
    (registered_more ys (n + 1) x ∙ ap (λ (j : ℕ). registered_from (n + 1) ys ++ registration_of j x ∷ []) further)

more_is : (services : List Service) (x : Service) → NamesShow (services ++ x ∷ []) (with_registered (registered_from 1 services) x.name (offer_of x))
more_is services x =
    let long = length_registered services 1 in
    let next : length (registered_from 1 services) + 1 ≡ 1 + length services = omega (arith, long) in
    ap (λ (j : ℕ). registered_from 1 services ++ registration_of j x ∷ []) next ∙ sym (registered_more services 1 x)

pub names_agree : (services : List Service) (names : List TheRegistration) → NamesShow services names → NamesAgree services names
names_agree services names e = subst (NamesAgree services) (sym e) (record {
  found = found_is services;
  none = none_is services;
  named = λ name. named_is name services;
  unnamed = λ name h. unnamed name services 1 0 (sym (position_from-zero (has_that name) services) ∙ h);
  more = more_is services;
})
