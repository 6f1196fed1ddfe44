use Rattle.std.proofs.Common.{◌≡◌, ◌+◌, ◌∙◌, ◌≤◌, [], refl, sym, ap, subst, length, arith, ℕ}
use Rattle.atomic_table.specs.Table.{Me}
use Rattle.fl_ring.specs.declared.shared.duo_board.DuoView.{DuoView}
use Rattle.fl_ring.specs.Way.{slot}
use Rattle.fl_ring.specs.SharedDuo.{other_of}
use Rattle.fl_ring.specs.SharedWay.{IsDue}
use Rattle.fl_ring.proofs.SharedDuoSteps.{duo_other_in}
use Rattle.fl_ring.proofs.Sighted.{seated_on}
use Rattle.fl_ring.proofs.SharedDuoRuns.{side_misses, duo_taken_last, side_gets_last, keeps_got, duo_got_few}
use Rattle.fl_ring.proofs.shared.duo_steps.take_frag.Goals as goal

pub load-requires : goal.load-requires
load-requires c =
    let m0 = c.args.seat.now.me in
    let seated = c.requires.seated in
    let found = c.in_ok-control.ensures.found in
    let six = c.load_six-words.ensures in (
      six.table ∙ (c.load_control.ensures.table ∙ seated.same),
      omega (arith, c.requires.first, duo_other_in m0.0.holder m0.0.size (length m0.0.mine.take.got) 6 _ seated.side seated.some (omega arith) seated.wide),
      duo_taken_last _ _ _ _ _ c.in_ok-control.control m0 _ _ c.load_six-words.result found.1 six.loaded six.seven seated.key_is seated.side (ap (λ (k : ℕ). k + 6) c.requires.first) (found.0 ∙ c.requires.due),
    )

pub returns-clause-seat : goal.returns-clause-seat
returns-clause-seat c =
    let found = c.in_ok-control.ensures.found in
    let kept = keeps_got c.in_ok-control.control c.load.result c.args.seat.now.me _ _ _ c.load_six-words.result found.1 c.load_six-words.ensures.loaded c.load.ensures.2.0 in
    (kept.part, kept.held)

pub returns-clause-taken : goal.returns-clause-taken
returns-clause-taken c =
    let m0 = c.args.seat.now.me in
    let found = c.in_ok-control.ensures.found in
    let six = c.load_six-words.ensures in
    let done = c.load.ensures in
    let known = c.load_control.ensures.known in
    let known_sent = subst (λ (k : ℕ). k ≤ length m0.0.mine.put.sent) (sym known.0) known.2 in
    (side_gets_last c.args.seat.now.table_id _ c.in_ok-control.control c.load.result m0 _ _ _ c.load_six-words.result found.1 six.loaded six.seven (found.0 ∙ c.requires.due) done.2.0 done.2.1 (done.0 ∙ (six.table ∙ c.load_control.ensures.table)) known_sent, duo_got_few c.in_ok-control.control m0 _ _ c.load_six-words.result found.1 six.loaded done.2.2)

pub load_control-requires-clause-seated : goal.load_control-requires-clause-seated
load_control-requires-clause-seated c = c.requires.seated

pub load_control-requires-clause-known : goal.load_control-requires-clause-known
load_control-requires-clause-known c = c.requires.known

pub load_control-requires-clause-first : goal.load_control-requires-clause-first
load_control-requires-clause-first c = c.requires.first

pub load_control-requires-clause-due : goal.load_control-requires-clause-due
load_control-requires-clause-due c = c.requires.due

pub returns-in_err-control-clause-known : goal.returns-in_err-control-clause-known
returns-in_err-control-clause-known c = c.load_control.ensures.known

pub returns-in_err-control-clause-seat : goal.returns-in_err-control-clause-seat
returns-in_err-control-clause-seat c =
    let found = c.in_err-control.ensures.found in
    (ap (λ (m : Me (Unit {0}) DuoView). m.0.mine.put.part) found.3, ap (λ (m : Me (Unit {0}) DuoView). m.1) found.3)

pub returns-in_err-control-clause-taken : goal.returns-in_err-control-clause-taken
returns-in_err-control-clause-taken c =
    let found = c.in_err-control.ensures.found in
    rw c.from_residual.ensures
    (found.2, side_misses c.args.seat.now.table_id _ found.0 c.args.seat.now.me _ found.3 (λ e. found.1 (e ∙ sym c.requires.due)) c.load_control.ensures.table)

pub load_six-words-requires-clause-seated : goal.load_six-words-requires-clause-seated
load_six-words-requires-clause-seated c =
    let s = c.requires.seated in
    let found = c.in_ok-control.ensures.found in
    let size = ap (λ (m : Me (Unit {0}) DuoView). m.0.size) found.1 in
    let holder = ap (λ (m : Me (Unit {0}) DuoView). m.0.holder) found.1 in
    seated_on _ _ c.args.seat.now c.load_control.new.seat s c.load_control.ensures.table size holder

pub load_six-words-requires-clause-due : goal.load_six-words-requires-clause-due
load_six-words-requires-clause-due c =
    let found = c.in_ok-control.ensures.found in
    subst (λ (m : Me (Unit {0}) DuoView). (m.0.mine.take.part ≡ []) × IsDue m.0.size m.0.mine.take) (sym found.1) (refl, found.0 ∙ c.requires.due)

pub load_six-words-requires-clause-first : goal.load_six-words-requires-clause-first
load_six-words-requires-clause-first c =
    subst (λ (m : Me (Unit {0}) DuoView). c.args.first ≡ slot (other_of m.0.holder m.0.size) m.0.size (length m.0.mine.take.got)) (sym c.in_ok-control.ensures.found.1) c.requires.first
