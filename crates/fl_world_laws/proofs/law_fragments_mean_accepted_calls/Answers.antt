use Rattle.fl_world_laws.proofs.BeforeEnds.{end_means}
use Rattle.fl_world_laws.proofs.OnLinks.{link_means}
use Rattle.fl_world_laws.proofs.law_fragments_mean_accepted_calls.Goals as goal

pub returns : goal.returns
returns c = record {
  mean = λ w s shows. record { links = λ a b. link_means w s shows a b; ends = λ e core wiring at. end_means w s e core wiring shows at };
}
