use Rattle.fl_model.specs.Views.{answer_of}
use Rattle.fl_world_events.proofs.Routes.{follows_from}
use Rattle.fl_world_events.proofs.by_route.open_both.Goals as goal

pub returns-clause-opens : goal.returns-clause-opens
returns-clause-opens c = record {
  begun = c.in_ok-opened.opened;
  begins = c.in_ok-opened.ensures.begins;
  binding = c.in_ok-binding.binding;
  unmade = c.in_ok-binding.ensures.binding;
  follows = follows_from c.in_ok-opened.opened c.in_ok-binding.binding _ _ c.reserve.ensures.items (answer_of c.keep.result) _ c.keep.ensures.follows;
}
