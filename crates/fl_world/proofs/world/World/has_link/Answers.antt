use Rattle.std.proofs.Common.{◌≡◌, ◌∙◌, sym, ap, length, slice_get, Some, None}
use Rattle.std.proofs.lemmas.Bool.{ltb-false}
use Rattle.fl_monitor.specs.Monitors.{TheMonitor}
use Rattle.fl_world_refines.specs.View.{TheWorld}
use Rattle.fl_world.proofs.Added.{no_link_at, link_at}
use Rattle.fl_world.proofs.Seen.{seen, unseen}
use Rattle.fl_world.proofs.world.World.has_link.Goals as goal

pub returns-in-None : goal.returns-in-None
returns-in-None c =
    let none : slice_get c.args.self.now.cores c.args.a ≡ None
    = unseen c.args.self.now _ c.self.view_is (λ (x : TheWorld). x.cores) c.deref.result.now c.deref.ensures.value c.args.a
    (ltb-false c.args.a (length c.deref.result.now) (sym c.in-None.ensures.lookup.0)) in
    record { has = no_link_at c.args.a c.args.b c.args.self.now none }

pub returns-in-Some : goal.returns-in-Some
returns-in-Some c =
    let core : slice_get c.args.self.now.cores c.args.a ≡ Some c.in-Some.core.now
    = seen c.args.self.now _ c.self.view_is (λ (x : TheWorld). x.cores) c.deref.result.now c.deref.ensures.value c.args.a c.in-Some.core.now
    c.in-Some.ensures.lookup.3.0 c.in-Some.ensures.lookup.1 in
    record {
      has = link_at c.args.a c.args.b c.args.self.now c.in-Some.core.now core c.circuits.result.now
          (c.circuits.ensures.circuits ∙ ap (λ (m : TheMonitor). m.circuits) c.monitor.ensures.monitor) c.link_to.result c.link_to.ensures.link
          c.is_some.result c.is_some.ensures;
    }
