-- A working file, on which no public promise rests by itself: how a route is kept: as 16 cores, of which so many are its own.
use Rattle.std.specs.Prelude.{◌≡◌, ◌≤◌, List, ◌++◌, take, drop, length, replicate}
use Rattle.fl_base.specs.declared.identity.CoreId.{CoreId}
use Rattle.fl_monitor.specs.declared.path.Path.TheInside.{Inside}

-- core 0, which fills the places behind a route
abbrev pub filler : CoreId
filler = record { 0 = 0 }

-- 16 cores, of which these are the first
abbrev pub padded : List CoreId → List CoreId
padded cores = cores ++ drop (length cores) (replicate 16 filler)

-- the cores of a route, in order
abbrev pub cores_of : Inside → List CoreId
cores_of p = take p.len p.cores

-- what is kept of the route that has these cores
abbrev pub path_of : List CoreId → Inside
path_of cores = record { cores = padded cores; len = length cores }

-- at most 16 cores, and fillers behind them
pub record IsKept (p : Inside) : Type 0 where
  pub few : p.len ≤ 16
  pub long : length p.cores ≡ 16
  pub rest : p.cores ≡ padded (cores_of p)
