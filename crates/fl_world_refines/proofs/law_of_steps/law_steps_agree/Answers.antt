use Rattle.fl_world_refines.proofs.Stepping.{steps_agree}
use Rattle.fl_world_refines.proofs.law_of_steps.law_steps_agree.Goals as goal

pub returns : goal.returns
returns c = record {
  agree = steps_agree (record {
    interfaces = c.law_interfaces_agree.ensures.agree;
    cores = c.law_cores_agree.ensures.agree;
    links = c.law_links_agree.ensures.agree;
    dispatchers = c.law_dispatchers_agree.ensures.agree;
    exports = c.law_exports_agree.ensures.agree;
    binds = c.law_binds_agree.ensures.agree;
    calls = c.law_calls_agree.ensures.agree;
    previews = c.law_previews_agree.ensures.agree;
    writes = c.law_writes_agree.ensures.agree;
    turns = c.law_turns_agree.ensures.agree;
    acknowledges = c.law_acknowledges_agree.ensures.agree;
    registers = c.law_registers_agree.ensures.agree;
    deregisters = c.law_deregisters_agree.ensures.agree;
    replies = c.law_replies_agree.ensures.agree;
    monitor_writes = c.law_monitor_writes_agree.ensures.agree;
    monitor_acks = c.law_monitor_acks_agree.ensures.agree;
    forwards = c.law_forwards_agree.ensures.agree;
  });
}
