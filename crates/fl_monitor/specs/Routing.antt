-- Routes at a core: which may be asked for, and where the core stands on one.
use Rattle.std.specs.Prelude.{ℕ, ◌+◌, ◌-◌, ◌==◌, ◌&&◌, nat_lt, nat_le, not, Bool, true, false, if◌then◌else◌}
use Rattle.std.specs.Prelude.{List, [], ◌∷◌, length, drop, position, slice_get, Option, None}
use Rattle.std.specs.List.{list_any, list_all}
use Rattle.fl_base.specs.declared.identity.CoreId.{CoreId}
use Rattle.fl_base.specs.Given.{given}

abbrev pub is_core : ℕ → CoreId → Bool
is_core core c = c.0 == core

-- ---- a route that is asked for

abbrev pub all_differ : List CoreId → Bool
all_differ [] = true
all_differ (c ∷ cs) = not (list_any (is_core c.0) cs) && all_differ cs

abbrev pub begins_at : List CoreId → ℕ → Bool
begins_at path core = given (slice_get path 0) false (is_core core)

abbrev pub ends_at_core : List CoreId → ℕ → Bool
ends_at_core path core = given (slice_get path (length path - 1)) false (is_core core)

-- 2 to 16 cores of a world of so many, the client's first, the service's last, and none twice
abbrev pub is_route : List CoreId → ℕ → ℕ → ℕ → Bool
is_route path client server cores =
    nat_le 2 (length path) && nat_le (length path) 16 && list_all (λ (c : CoreId). nat_lt c.0 cores) path
    && begins_at path client && ends_at_core path server && all_differ path

-- ---- a core on a route

-- the core behind this one
abbrev pub next_on : List CoreId → ℕ → Option CoreId
next_on path core = given (position (is_core core) path) None λ place. slice_get path (place + 1)

-- what stands at a place comes directly after the neighbour
abbrev pub comes_after : List CoreId → ℕ → ℕ → Bool
comes_after path place neighbour =
    if nat_lt 0 place then given (slice_get path (place - 1)) false (is_core neighbour) else false

-- the core is named again behind a place
abbrev pub is_named_behind : List CoreId → ℕ → ℕ → Bool
is_named_behind path place core = list_any (is_core core) (drop (place + 1) path)

-- the route names the core just once, directly after its neighbour
abbrev pub is_on_route : List CoreId → ℕ → ℕ → Bool
is_on_route path neighbour core =
    given (position (is_core core) path) false λ place.
    comes_after path place neighbour && not (is_named_behind path place core)
