-- A working file, on which no public promise rests by itself: the parts of the monitors' calls: numbers and routes among their arguments.
use Rattle.std.specs.Prelude.{◌≡◌, ◌<◌, ℕ, List, map}
use Rattle.fl_base.specs.declared.identity.CoreId.{CoreId}
use Rattle.fl_value_data.specs.Value.{Datum}
use Rattle.fl_monitor.specs.Routes.{FitsPath}
use Rattle.fl_monitor.specs.Intermon.{natural, route}

-- core numbers as values
abbrev pub numbers : List CoreId → List Datum
numbers cores = map (λ (core : CoreId). natural core.0) cores

-- a value is a number below a bound
pub record IsBelow (bound : ℕ) (d : Datum) : Type 0 where
  pub n : ℕ
  pub is : d ≡ natural n
  pub small : n < bound

-- a value is a route
pub record IsRouteValue (d : Datum) : Type 0 where
  pub cores : List CoreId
  pub is : d ≡ route cores
  pub fits : FitsPath cores
