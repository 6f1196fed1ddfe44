use Rattle.std.proofs.Common.{refl, map, List}
use Rattle.fl_model.specs.Views.{event_of}
use Rattle.fl_model.specs.Events.{Event}
use Rattle.fl_model.specs.State.{State}
use Rattle.fl_world.specs.Booting.{config_by, Passes, StopsBy}
use Rattle.fl_world.proofs.Runs.{good_cores, boots_by, stopped}
use Rattle.fl_world.proofs.Unused.{fresh_unused}
use Rattle.fl_world.proofs.world.World.boot_by.Goals as goal

pub returns-in-Ok-set_up-clause-stands : goal.returns-in-Ok-set_up-clause-stands
returns-in-Ok-set_up-clause-stands c =
    let config = config_by c.args.cores c.args.events.now in (
      good_cores config c.from-cores.result c.from-cores.ensures c.if-cores-lt1.false c.if-cores-gt-MAX_CORES.false,
      boots_by (λ (s : State) (vs : List Event). Passes s vs c.set_up.new.self) c.law_fresh_world_shows.ensures.shows config c.from-cores.result c.in-Ok.world
          c.from-cores.ensures c.if-cores-lt1.false c.if-cores-gt-MAX_CORES.false c.in-Ok.ensures.fresh c.in-Ok-set_up.ensures.passes,
    )

pub returns-in-Err-clause-refused : goal.returns-in-Err-clause-refused
returns-in-Err-clause-refused c =
    let config = config_by c.args.cores c.args.events.now in
    stopped config c.in-Err.fault (good_cores config c.from-cores.result c.from-cores.ensures c.if-cores-lt1.false c.if-cores-gt-MAX_CORES.false)
    (boots_by (λ (s : State) (vs : List Event). StopsBy s vs c.in-Err.fault) c.law_fresh_world_shows.ensures.shows config c.from-cores.result c.in-Ok.world
    c.from-cores.ensures c.if-cores-lt1.false c.if-cores-gt-MAX_CORES.false c.in-Ok.ensures.fresh c.in-Err.ensures.stops)

pub returns-in-Ok-set_up-clause-unused : goal.returns-in-Ok-set_up-clause-unused
returns-in-Ok-set_up-clause-unused c = λ makes.
    fresh_unused c.from-cores.result (map event_of c.args.events.now) (map event_of c.args.events.now) c.in-Ok.world c.set_up.new.self
    c.in-Ok.ensures.fresh refl c.in-Ok-set_up.ensures.unused makes
