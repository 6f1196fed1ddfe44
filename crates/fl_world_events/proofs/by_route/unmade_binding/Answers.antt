use Rattle.std.proofs.Common.{ap, Some}
use Rattle.fl_endpoint.specs.View.{TheEnd}
use Rattle.fl_world_refines.specs.declared.binding.Binding.{Binding}
use Rattle.fl_world_events.proofs.by_route.unmade_binding.Goals as goal

pub returns : goal.returns
returns c =
    let with_end : TheEnd → Binding
    = λ (s : TheEnd). record { interface = c.args.between.interface; client = c.args.between.client.core; server = c.args.between.server; unmade = Some s } in
    record { binding = record { copy = c.in_ok-copy.copy; copy_is = c.in_ok-copy.ensures.equal; is = ap with_end c.in_ok-kept.ensures.made } }
