use Rattle.std.proofs.Common.{◌<◌, sym, arith}
use Rattle.fl_model.specs.Views.{id_of}
use Rattle.fl_world.proofs.Requested.{core_small}
use Rattle.fl_world.proofs.world.World.export.Goals as goal

pub overflow_cast-service : goal.overflow_cast-service
overflow_cast-service c =
    let small : c.args.d.core < 256 = core_small c.args.self.now _ c.self.view_is (id_of c.args.d) (sym c.if-not-has_dispatcher.ensures.has)
    c.self.invariant in
    omega (arith, small)

pub invariant_of-self : goal.invariant_of-self
invariant_of-self c = c.self.invariant
