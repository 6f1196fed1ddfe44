-- Working file: what a table keeps, names and services, in order. A registration's interface reference is its place,
-- from 1, and is kept nowhere.
use Rattle.std.specs.Prelude.{ℕ, ◌+◌, List, [], ◌∷◌}
use Rattle.std.specs.Global.{Vec}
use Rattle.fl_nameserv.specs.declared.registration.Service.{Service}
use Rattle.fl_nameserv.specs.Registrations.{TheRegistration}

-- the registration that stands at a place, from 0
abbrev pub numbered : ℕ → Vec ℕ × Service → TheRegistration
numbered place entry = record { name = entry.0.items; iref = place + 1; service = entry.1 }

-- those that stand from a place on
abbrev pub numbered_from : ℕ → List (Vec ℕ × Service) → List TheRegistration
numbered_from place [] = []
numbered_from place (entry ∷ entries) = numbered place entry ∷ numbered_from (place + 1) entries
