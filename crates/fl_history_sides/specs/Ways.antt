-- How a running core steps over sides of one table.
use Rattle.fl_core_run.specs.Sides.{SideRelations}
use Rattle.fl_history_sides.specs.States.{TheHistorySide}
use Rattle.fl_history_sides.specs.Noted.{HistoryPuts, HistoryTakes, front_of}
use Rattle.fl_history_sides.specs.Core.{AreOfOneCore}

-- at any moment all of them are one core's
abbrev pub history_ways : SideRelations TheHistorySide
history_ways = record { puts = HistoryPuts; takes = HistoryTakes; front = front_of; whole = AreOfOneCore }
