use Rattle.fl_cores_joined.proofs.OwnEvents.{own_events_join, joined_have_sides_across, sides_stay_across}
use Rattle.fl_cores_joined.proofs.law.law_own_events_join.Goals as goal

pub returns : goal.returns
returns c = record { events = own_events_join; across = joined_have_sides_across; stay = sides_stay_across }
