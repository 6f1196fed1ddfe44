use Rattle.std.proofs.Common.{refl}
use Rattle.fl_value_data.specs.Value.{call_of}
use Rattle.fl_model.specs.Views.{brief_of}
use Rattle.fl_world_events.specs.Parts.{CallsWith}
use Rattle.fl_world.proofs.Lifts.{binding_read, unmade_if_ok}
use Rattle.fl_world_events.proofs.Last.{on_err}
use Rattle.fl_world.proofs.Last.{kept_last}
use Rattle.fl_world.proofs.world.World.call_unmade.Goals as goal

pub returns-clause-calls : goal.returns-clause-calls
returns-clause-calls c = unmade_if_ok c.args.self.now _ c.self.view_is c.args.n (binding_read c.args.self.now _ c.self.view_is c.args.n c.requires.binding) _ _ c.index_mut-binding.ensures.value refl (λ a. CallsWith (call_of c.args.call.now) (brief_of a)) c.call_kept.new.binding c.call_kept.result c.call_kept.ensures.calls

pub returns-clause-last : goal.returns-clause-last
returns-clause-last c = on_err c.call_kept.result (kept_last c.args.self.now _ c.self.view_is c.args.n (call_of c.args.call.now) (binding_read c.args.self.now _ c.self.view_is c.args.n c.requires.binding) _ c.index_mut-binding.ensures.value) c.call_kept.ensures.last
