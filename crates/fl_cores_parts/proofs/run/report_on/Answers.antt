use Rattle.std.proofs.Common.{◌≡◌, ℕ, List, map, length, subst, sym, rules}
use Rattle.atomic_table.specs.Seated.{TableId}
use Rattle.fl_history_rings.specs.declared.board.SideEnd.{SideEnd}
use Rattle.fl_history_sides.specs.States.{TheHistorySide}
use Rattle.fl_history_shares.specs.Settled.{AreAt, AreAtOne, AreSettled}
use Rattle.fl_cores_table.specs.Seats.{TheCoresSeat}
use Rattle.fl_cores_fork.specs.CoreThreads.{outcome_of}
use Rattle.fl_cores_fork.specs.Runs.{seats_left}
use Rattle.fl_cores_parts.specs.CoreThreads.{IsRest}
use Rattle.fl_cores_parts.specs.Heard.{HeardAsTold}
use Rattle.fl_cores_parts.proofs.run.report_on.Goals as goal

pub put_together-requires : goal.put_together-requires
put_together-requires c =
    let jobs : length c.as_slice-count.result.now ≡ length c.args.joined.now.owners.items = search rules in
    record {
      rest = subst (λ (ss : List TheCoresSeat). IsRest c.args.own (length c.as_slice-count.result.now) ss) (sym c.in_ok-report.ensures.seats)
          (subst (λ (n : ℕ). IsRest c.args.own n (seats_left (map outcome_of c.args.done.items))) (sym jobs) c.requires.rest);
      one = subst AreAtOne (sym c.in_ok-report.ensures.hands) c.requires.one;
    }

pub returns-clause-heard : goal.returns-clause-heard
returns-clause-heard c =
    let jobs : length c.as_slice-count.result.now ≡ length c.args.joined.now.owners.items = search rules in
    subst (λ (n : ℕ). HeardAsTold n (seats_left (map outcome_of c.args.done.items))) jobs
    (subst (λ (ss : List TheCoresSeat). HeardAsTold (length c.as_slice-count.result.now) ss) c.in_ok-report.ensures.seats c.in_ok-put_together.ensures.heard)

pub returns-clause-settled : goal.returns-clause-settled
returns-clause-settled c =
    subst (λ (hands : List (List TheHistorySide)). (table : TableId) (ends : List SideEnd) → AreAt table ends hands → AreSettled ends hands)
    c.in_ok-report.ensures.hands c.in_ok-put_together.ensures.settled
