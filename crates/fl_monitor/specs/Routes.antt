-- Routes as messages carry them.
use Rattle.std.specs.Prelude.{◌≤◌, ◌<◌, ◌^◌, List, All, length}
use Rattle.fl_base.specs.declared.identity.CoreId.{CoreId}

-- at most 16 cores, each with a number of 8 bits
pub record FitsPath (cores : List CoreId) : Type 0 where
  pub few : length cores ≤ 16
  pub small : All (λ (core : CoreId). core.0 < 2 ^ 8) cores
