-- The core threads of a report's cores.
use Rattle.std.specs.Prelude.{ℕ, List}
use Rattle.fl_cores_file.specs.Jobs.{Job}
use Rattle.fl_cores_file.specs.Report.{TheReport}
use Rattle.fl_world.specs.Booting.{TheConfig}
use Rattle.fl_cores_parts.specs.Begins.{Places, AreCoreThreads, common_in}
use Rattle.fl_cores.specs.Promised.{Reports}
use Rattle.fl_cores.specs.Behind.{joined_in}

module _ {c : TheConfig} {jobs : List Job} {limit : ℕ} {r : TheReport} (w : Reports c jobs limit r) where
  -- the numbers by which cores name sides of rings and queues
  abbrev pub places_in : Places
  places_in = w.ran.ran.ran.places

  abbrev pub are_core_threads : AreCoreThreads (common_in w.ran.ran.parts (joined_in w) places_in) 0 w.ran.ran.parts.cores.items w.ran.ran.ran.core_threads
  are_core_threads = w.ran.ran.ran.begin
