-- What the machine makes of a cut by each log entry of a core, and by those of a log.
use Rattle.std.specs.Prelude.{◌≡◌, List, [], ◌∷◌, Ok}
use Rattle.fl_monitor.specs.declared.message.MonitorMessage.{MonitorMessage}
use Rattle.fl_monitor.specs.Saying.{Says}
use Rattle.fl_core.specs.declared.wiring.Inlet.TheVariants.{Side, Queue, Arrivals}
use Rattle.fl_core_run.specs.LogEntries.{LogEntry, looked, passed, arrived, heard, said, told, opened, called, ruled, wrote, acked, turned}
use Rattle.fl_ring.specs.SharedSides.{TheSide}
use Rattle.fl_core_run.specs.Run.{TheRun}
use Rattle.fl_model.specs.Monitors.{Service}
use Rattle.fl_world_refines.specs.Cores.{NamesShow}
use Rattle.fl_core_refines.specs.CutEnds.{Calls, SetsRule}
use Rattle.fl_core_refines.specs.Cut.{CoreCut}
use Rattle.fl_core_refines.specs.CutEvents.{ChangesEnd, WritesOver, TurnsOverSide, TurnsOverQueue, AcksOver}
use Rattle.fl_core_refines.specs.CutOpening.{OpensOver}
use Rattle.fl_core_refines.specs.CutLinks.{LooksOver, PassesOver, ArrivesOver, SaysOver, TellsOver, TurnsOverArrivals}
use Rattle.fl_core_refines.specs.CutHearing.{HearsOver, IsInOrder}

-- by each but a message that is heard
abbrev pub CutActs : LogEntry → CoreCut → CoreCut → Type 0
CutActs (looked n l answer) a b = LooksOver n l answer a b
CutActs (passed n m frag c outcome) a b = PassesOver (record { from = n; to = m; frag = frag; circuit = c }) outcome a b
CutActs (arrived n l frag name answer) a b = ArrivesOver (record { side = n; link = l; frag = frag }) name answer a b
CutActs (said n l answer) a b = SaysOver n l answer a b
CutActs (told n l answer) a b = TellsOver n answer a b
CutActs (called name c answer) a b = ChangesEnd a name (Calls c answer) b
CutActs (ruled name msg reply answer) a b = ChangesEnd a name (SetsRule msg.0 reply.0 answer) b
CutActs (wrote name out answer) a b = WritesOver out name answer a b
CutActs (acked name n answer) a b = AcksOver n name answer a b
CutActs (turned d name (Side n) answer) a b = TurnsOverSide d name n answer a b
CutActs (turned d name (Queue n) answer) a b = TurnsOverQueue d name n answer a b
CutActs (turned d name Arrivals answer) a b = TurnsOverArrivals d name answer a b
CutActs (opened name request answer) a b = OpensOver request answer a b
CutActs (heard n l frag answer) a b = ⊥

-- with the services of the machine's table of names
abbrev pub CutDoes : List Service → LogEntry → CoreCut → CoreCut → Type 0
CutDoes services (heard n l frag answer) a b = HearsOver services (record { side = n; link = l; frag = frag }) answer a b
CutDoes services log_entry a b = CutActs log_entry a b

-- a message that is heard, and not refused, is one that comes to a core of the machine, which has the machine's table of names
abbrev pub InOrder : List Service → LogEntry → CoreCut → TheRun TheSide → Type 0
InOrder services (heard n l frag (Ok word)) a s = NamesShow services s.offers.names × ((m : MonitorMessage) → Says frag m → IsInOrder services l.0 a s m)
InOrder services log_entry a s = Unit {0}

-- no monitors' message is heard by it
abbrev pub HearsNothing : LogEntry → Type 0
HearsNothing (heard n l frag answer) = ⊥
HearsNothing log_entry = Unit {0}

-- ---- the log entries of a log, one after another

abbrev pub CutGoes : List Service → CoreCut → List LogEntry → CoreCut → Type 0
CutGoes services a [] b = b ≡ a
CutGoes services a (log_entry ∷ log) b = (m : CoreCut) × CutDoes services log_entry a m × CutGoes services m log b

abbrev pub HearNothing : List LogEntry → Type 0
HearNothing [] = Unit {0}
HearNothing (log_entry ∷ log) = HearsNothing log_entry × HearNothing log
