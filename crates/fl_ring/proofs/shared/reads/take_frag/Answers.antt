use Rattle.std.proofs.Common.{◌+◌, ◌∙◌, ap, length, arith, ℕ}
use Rattle.fl_ring.proofs.SharedSteps.{word_in}
use Rattle.fl_ring.proofs.SharedLooks.{allows_taken_last, gets_last, got_few}
use Rattle.fl_ring.proofs.shared.reads.take_frag.Goals as goal

pub load-requires : goal.load-requires
load-requires c =
    let m0 = c.args.seat.now.me in
    let seated = c.requires.seated in
    let found = c.in_ok-control.ensures.found in
    let six = c.load_six-words.ensures in (
      six.table ∙ (c.load_control.ensures.table ∙ seated.same),
      omega (arith, c.requires.first, word_in m0.0.size (length m0.0.take.got) 6 _ seated.some (omega arith) seated.wide),
      allows_taken_last _ _ _ _ c.in_ok-control.control m0 _ _ c.load_six-words.result found.1 six.loaded six.seven seated.key_is c.requires.reads (ap (λ (k : ℕ). k + 6) c.requires.first) (found.0 ∙ c.requires.due),
    )

pub returns-clause-taken : goal.returns-clause-taken
returns-clause-taken c =
    let m0 = c.args.seat.now.me in
    let found = c.in_ok-control.ensures.found in
    let six = c.load_six-words.ensures in
    let done = c.load.ensures in
    (gets_last c.args.seat.now.table_id _ c.in_ok-control.control c.load.result m0 _ _ _ c.load_six-words.result found.1 six.loaded six.seven (found.0 ∙ c.requires.due) done.2.0 done.2.1 (done.0 ∙ (six.table ∙ c.load_control.ensures.table)), got_few c.in_ok-control.control m0 _ _ c.load_six-words.result found.1 six.loaded done.2.2)

pub load_control-requires-clause-seated : goal.load_control-requires-clause-seated
load_control-requires-clause-seated c = c.requires.seated

pub load_control-requires-clause-reads : goal.load_control-requires-clause-reads
load_control-requires-clause-reads c = c.requires.reads

pub load_control-requires-clause-first : goal.load_control-requires-clause-first
load_control-requires-clause-first c = c.requires.first

pub load_control-requires-clause-due : goal.load_control-requires-clause-due
load_control-requires-clause-due c = c.requires.due
