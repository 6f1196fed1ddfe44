use Rattle.std.proofs.Common.{◌≡◌, true, subst, map, List}
use Rattle.std.specs.Result.{IfOk, IfErr}
use Rattle.std.specs.List.{list_all}
use Rattle.fl_model.specs.declared.event.Event.{Event as RustEvent}
use Rattle.fl_model.specs.Views.{event_of}
use Rattle.fl_world_refines.specs.Apart.{AllUnused, is_making}
use Rattle.fl_world.specs.Booting.{config_by, Stands, IsFaultOf}
use Rattle.fl_world.proofs.world.World.boot.Goals as goal

-- the events that are lent are the configuration's
pub returns : goal.returns
returns c =
    let made = c.boot_by.result in
    let cores = c.args.config.now.cores in
    let lent = c.as_slice.ensures.value in
    record {
      stands = subst (λ (vs : List RustEvent). IfOk made (λ w. Stands (config_by cores vs) w)) lent c.boot_by.ensures.stands;
      refused = subst (λ (vs : List RustEvent). IfErr made (λ fault. IsFaultOf (config_by cores vs) fault)) lent c.boot_by.ensures.refused;
      unused = subst (λ (vs : List RustEvent). IfOk made (λ w. list_all is_making (map event_of vs) ≡ true → AllUnused w.rings)) lent c.boot_by.ensures.unused;
    }
