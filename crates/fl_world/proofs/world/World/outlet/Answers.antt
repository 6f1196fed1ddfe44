use Rattle.std.proofs.Common.{refl, arith}
use Rattle.fl_world.proofs.Lifts.{core_read, end_read}
use Rattle.fl_world.proofs.Lent.{read_is}
use Rattle.fl_world.proofs.world.World.outlet.Goals as goal

pub index-requires : goal.index-requires
index-requires c = omega (arith, core_read c.args.self.now _ c.self.view_is c.args.n c.args.place c.requires.end, c.self.inside.cores.ok.0)

pub outlet-requires : goal.outlet-requires
outlet-requires c = end_read c.args.self.now _ c.self.view_is c.args.n c.args.place c.requires.end c.index.result.now _ c.index.ensures refl

pub returns : goal.returns
returns c = record {
  outlet = record {
    core = c.index.result.now;
    core_is = read_is c.args.self.now _ c.self.view_is c.args.n c.args.place c.requires.end c.index.result.now c.index.ensures;
    outlet_is = c.outlet.ensures.outlet;
  };
}
