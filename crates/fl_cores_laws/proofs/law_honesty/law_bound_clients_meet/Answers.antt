use Rattle.fl_cores_laws.proofs.Forth.{clients_meet}
use Rattle.fl_cores_laws.proofs.law_honesty.law_bound_clients_meet.Goals as goal

pub returns : goal.returns
returns c = record {
  meet = clients_meet (record { opens = c.law_neighbours_open.ensures.leads; agree = c.law_neighbours_agree.ensures.agree; servers = c.law_led_ends_stand.ensures.servers });
}
