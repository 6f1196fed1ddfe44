use Rattle.std.proofs.Common.{List, subst}
use Rattle.atomic_table.specs.Seated.{TableId}
use Rattle.fl_history_rings.specs.declared.board.SideEnd.{SideEnd}
use Rattle.fl_history_sides.specs.States.{TheHistorySide}
use Rattle.fl_history_shares.specs.Settled.{AreAt, AreSettled}
use Rattle.fl_cores_parts.proofs.settling.put_together.Goals as goal

pub returns-clause-settled : goal.returns-clause-settled
returns-clause-settled c =
    subst (λ (hands : List (List TheHistorySide)). (table : TableId) (ends : List SideEnd) → AreAt table ends hands → AreSettled ends hands)
    c.in_ok-hands.ensures.hands c.settle.ensures.settled
