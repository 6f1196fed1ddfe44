use Rattle.std.proofs.Common.{ℕ, drop, sym, ap, ◌∙◌, rules}
use Rattle.fl_base.specs.Control.{stamped}
use Rattle.fl_endpoint.proofs.Outgoings.{none_first, first_and_rest}
use Rattle.fl_endpoint.proofs.end.End.show.Goals as goal

pub returns-in-None : goal.returns-in-None
returns-in-None g c = record { shows = ((search rules, search rules), none_first c.args.self.now.outgoing.unwritten (sym c.in-None.ensures.next)) }

pub returns-in-Some : goal.returns-in-Some
returns-in-Some g c = record {
  shows = (
    (search rules, search rules),
    (
      c.in-Some.frag,
      drop 1 c.args.self.now.outgoing.unwritten,
      first_and_rest c.args.self.now.outgoing.unwritten c.in-Some.frag (sym c.in-Some.ensures.next),
      c.stamp.ensures.stamped
          ∙ ap (λ (n : ℕ). stamped c.in-Some.frag n c.next_told.result) c.next_epoch.ensures.epoch
          ∙ ap (λ (n : ℕ). stamped c.in-Some.frag (g.P.PutSide.epoch_of c.args.out.now) n) c.next_told.ensures.told,
    ),
  );
}
