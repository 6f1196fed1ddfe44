use Rattle.std.proofs.Common.{◌≡◌, length}
use Rattle.fl_core_run.specs.Run.{run_by}
use Rattle.fl_core_run.specs.Turn.{Swept}
use Rattle.fl_core_run.specs.OpeningStatus.{AreWords, stock, ExchangesAt, SaidNothing}
use Rattle.fl_core_run.proofs.opening_status.exchange_all.Given as goal

abbrev pub invariant-loop-k : goal.invariant-loop-k
invariant-loop-k g l = Swept (ExchangesAt (run_by g.S.CoreSides.states l.run) l.ends) l.k (stock l.initial.words l.initial.seat) (stock l.words l.seat)
    × (length l.words ≡ length l.ends) × AreWords l.words l.seat.knows × SaidNothing l.initial.seat l.seat
