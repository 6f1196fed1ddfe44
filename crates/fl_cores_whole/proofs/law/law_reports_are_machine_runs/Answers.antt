use Rattle.fl_cores_whole.proofs.AtTable.{cores_at_table}
use Rattle.fl_cores_whole.proofs.Machine.{MachineLaws, reported}
use Rattle.fl_cores_whole.proofs.law.law_reports_are_machine_runs.Goals as goal

pub returns : goal.returns
returns c =
    let laws : MachineLaws = record {
      home = record {
        fresh = c.law_set_ups_start_fresh.ensures.fresh;
        leads = c.law_leads_at_first.ensures.leads;
        go = c.law_cores_go.ensures.goes;
        sides = record { handed_out = c.law_handed_out_go_on.ensures.go_on; look = c.law_sides_go.ensures.goes };
        servers = c.law_ends_are_requested.ensures.servers;
        clients = c.law_ends_are_requested.ensures.clients;
        home = c.law_ends_are_at_home.ensures.home;
      };
      are = c.law_reports_are_of_runs.ensures.runs;
      order = c.law_logs_have_one_order.ensures.order;
      of_turns = c.law_runs_are_of_turns.ensures.runs;
      orders = c.law_orders_are_runs.ensures.runs;
      join = c.law_reports_join_in_any_order.ensures.runs;
    } in
    record { runs = λ config jobs limit r w. reported laws config jobs limit r w (cores_at_table config jobs limit r w) }
