-- The numbers by which a core names sides of rings and queues, changed.
use Rattle.std.specs.Prelude.{ℕ, List, map, slice_index_or}
use Rattle.fl_core.specs.declared.wiring.EndWiring.{EndWiring}
use Rattle.fl_core.specs.declared.wiring.EndWiring.TheVariants.{Queues, Ring, Circuit}
use Rattle.fl_core.specs.declared.wiring.WiredEnd.{WiredEnd}
use Rattle.fl_core.specs.declared.wiring.LinkSide.{LinkSide}
use Rattle.fl_core.specs.View.{TheCore}

-- what stands at place n of a list; beyond the list's end the number itself
abbrev pub moved : List ℕ → ℕ → ℕ
moved numbers n = slice_index_or numbers n n

abbrev pub moved_link_side : List ℕ → LinkSide → LinkSide
moved_link_side sides link_side = record { side = moved sides link_side.side; failed = link_side.failed }

abbrev pub moved_wiring : List ℕ → List ℕ → EndWiring → EndWiring
moved_wiring sides queues (Queues out from) = Queues (moved queues out) (moved queues from)
moved_wiring sides queues (Ring side) = Ring (moved sides side)
moved_wiring sides queues (Circuit link arrivals) = Circuit link arrivals

abbrev pub moved_wired_end : List ℕ → List ℕ → WiredEnd → WiredEnd
moved_wired_end sides queues p = record { name = p.name; wiring = moved_wiring sides queues p.wiring }

-- each side and each queue that a core names by another number
abbrev pub renumbered : List ℕ → List ℕ → TheCore → TheCore
renumbered sides queues k = record k { wired_ends = map (moved_wired_end sides queues) k.wired_ends; link_sides = map (moved_link_side sides) k.link_sides }
