use Rattle.fl_core_refines.proofs.Readying.{logs_make, turns_make}
use Rattle.fl_core_refines.proofs.law_cut.law_ready_cores_follow.Goals as goal

pub returns : goal.returns
returns c = record {
  logs = logs_make c.law_take_shows.ensures.shows c.law_outboxes_are_shown.ensures.first c.law_rooms_agree.ensures.agree c.law_opens_agree.ensures.agree c.law_hears_agree.ensures.agree
      c.law_on_another_circuit.ensures.on;
  turns = turns_make c.law_take_shows.ensures.shows c.law_outboxes_are_shown.ensures.first c.law_rooms_agree.ensures.agree c.law_opens_agree.ensures.agree c.law_hears_agree.ensures.agree
      c.law_on_another_circuit.ensures.on;
}
