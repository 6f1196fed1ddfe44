use Rattle.fl_core_refines.proofs.Logs.{events_follow, logs_follow}
use Rattle.fl_core_refines.proofs.law_cut.law_events_follow.Goals as goal

pub returns : goal.returns
returns c = record {
  follow = events_follow c.law_take_shows.ensures.shows c.law_outboxes_are_shown.ensures.first c.law_rooms_agree.ensures.agree c.law_opens_agree.ensures.agree c.law_hears_agree.ensures.agree;
  logs = logs_follow c.law_take_shows.ensures.shows c.law_outboxes_are_shown.ensures.first c.law_rooms_agree.ensures.agree c.law_opens_agree.ensures.agree c.law_hears_agree.ensures.agree;
}
