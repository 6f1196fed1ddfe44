use Rattle.fl_cores.proofs.FollowsRuns.{runs_follow}
use Rattle.fl_cores.proofs.law_following.law_runs_follow.Goals as goal

pub returns : goal.returns
returns c = record {
  follow = runs_follow c.law_set_ups_start_fresh.ensures.fresh c.law_set_ups_touch_nothing.ensures.untouched c.law_leads_at_first.ensures.leads c.law_counted_are_turns.ensures.turns c.law_starts_show.ensures.show
      c.law_ready_turns.ensures.happen c.law_ready_turns.ensures.ready
      (record {
        go = c.law_cores_go.ensures.goes;
        sides = record { handed_out = c.law_handed_out_go_on.ensures.go_on; look = c.law_sides_go.ensures.goes };
        requests = c.law_requests_alone.ensures.alone;
        side = c.law_side_conserves.ensures.conserves;
      })
      (record {
        handled = c.law_turns_are_logged.ensures.handled;
        made = c.law_jobs_are_made.ensures.made;
        first = c.law_jobs_are_made.ensures.first;
        rules = c.law_rules_come_first.ensures.rules;
        sent_made = c.law_sent_by_rules.ensures.made;
        sent_replies = c.law_sent_by_rules.ensures.replies;
      })
      (record {
        servers = c.law_ends_are_requested.ensures.servers;
        clients = c.law_ends_are_requested.ensures.clients;
        home = c.law_ends_are_at_home.ensures.home;
        stand = c.law_planned_ends_stand.ensures.stand;
        rest = c.law_loose_ends_rest.ensures.rest;
      });
}
