use Rattle.fl_cores_laws.proofs.Runs.{opened_is_honest}
use Rattle.fl_cores_laws.proofs.law_honesty.law_opened_is_honest.Goals as goal

pub returns : goal.returns
returns c = record {
  honest = opened_is_honest (record {
    paired = c.law_links_are_paired.ensures.paired;
    home = c.law_clients_are_home.ensures.home;
    at_home = c.law_ends_are_at_home.ensures.home;
    stand = c.law_planned_ends_stand.ensures.stand;
    bound = c.law_bound_is_honest.ensures.honest;
    loose = c.law_loose_ends_rest.ensures.rest;
    silence = c.law_loose_ends_rest.ensures.silence;
    meet = c.law_bound_clients_meet.ensures.meet;
    lone = c.law_lone_servers_rest.ensures.rest;
  });
}
