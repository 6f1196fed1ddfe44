use Rattle.std.proofs.lemmas.Result.{IfOk-weaker}
use Rattle.fl_world_events.proofs.binding.new_end.Goals as goal

pub returns : goal.returns
returns c = record {
  end = IfOk-weaker c.new.result _ _ (λ s is. record { copy = c.in_ok-copy.copy; copy_is = c.in_ok-copy.ensures.equal; end = is }) c.new.ensures.made;
}
