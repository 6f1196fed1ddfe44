-- A table of names is the list of its registrations, in order; what a look-up finds there, and what
-- one more registration makes of it.
use Rattle.std.specs.Prelude.{ℕ, ◌≡◌, ◌≢◌, ◌+◌, ◌==◌, Bool, List, [], ◌∷◌, ◌++◌, length, map, find, AllPairs, Option}
use Rattle.std.specs.List.{range_with_len}
use Rattle.std.specs.Str.{bytes_eq}
use Rattle.fl_nameserv.specs.declared.registration.Service.{Service}

-- a service under its name, with its interface reference
pub record TheRegistration : Type 0 where
  pub name : List ℕ
  pub iref : ℕ
  pub service : Service

abbrev pub has_name : List ℕ → TheRegistration → Bool
has_name name r = bytes_eq name r.name

abbrev pub has_iref : ℕ → TheRegistration → Bool
has_iref iref r = iref == r.iref

-- the registration that has a name, or an interface reference, if there is one
abbrev pub by_name : List ℕ → List TheRegistration → Option TheRegistration
by_name name rs = find (has_name name) rs

abbrev pub by_iref : ℕ → List TheRegistration → Option TheRegistration
by_iref iref rs = find (has_iref iref) rs

-- one more registration, behind the others; its interface reference is the next one
abbrev pub with_registered : List TheRegistration → List ℕ → Service → List TheRegistration
with_registered rs name service = rs ++ record { name = name; iref = length rs + 1; service = service } ∷ []

-- as registering makes it: interface references are the places, from 1, and no name stands twice
pub record IsTable (rs : List TheRegistration) : Type 0 where
  pub irefs : map (λ r. r.iref) rs ≡ range_with_len 1 (length rs)
  pub names : AllPairs (λ r s. r.name ≢ s.name) rs
