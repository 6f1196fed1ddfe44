use Rattle.fl_cores_laws.proofs.WholeOpened.{clients_stand, servers_bound}
use Rattle.fl_cores_laws.proofs.law_honesty.law_led_ends_stand.Goals as goal

pub returns : goal.returns
returns c = record { clients = clients_stand; servers = servers_bound }
