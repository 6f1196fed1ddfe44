use Rattle.std.proofs.Common.{◌≡◌, sym, ◌∙◌, length, slice_get, Some, None}
use Rattle.std.proofs.lemmas.Bool.{ltb-false}
use Rattle.fl_world_refines.specs.View.{TheWorld}
use Rattle.fl_world.proofs.Seen.{seen, unseen, no_end_at, end_at}
use Rattle.fl_world.proofs.Requested.{end_there, none_there}
use Rattle.fl_world.proofs.world.World.has_end_of.Goals as goal

pub returns-in-None : goal.returns-in-None
returns-in-None c =
    let none : slice_get c.args.self.now.cores c.args.core ≡ None
    = unseen c.args.self.now _ c.self.view_is (λ (x : TheWorld). x.cores) c.deref.result.now c.deref.ensures.value c.args.core
    (ltb-false c.args.core (length c.deref.result.now) (sym c.in-None.ensures.lookup.0)) in
    let has = no_end_at c.args.binding c.args.core c.args.self.now none in
    record {
      has = has;
      there = λ e. end_there c.args.binding c.args.core c.args.self.now (sym has ∙ e);
      new = λ e. none_there c.args.binding c.args.core c.args.self.now (sym has ∙ e);
    }

pub returns-in-Some : goal.returns-in-Some
returns-in-Some c =
    let core : slice_get c.args.self.now.cores c.args.core ≡ Some c.in-Some.core.now
    = seen c.args.self.now _ c.self.view_is (λ (x : TheWorld). x.cores) c.deref.result.now c.deref.ensures.value c.args.core c.in-Some.core.now
    c.in-Some.ensures.lookup.3.0 c.in-Some.ensures.lookup.1 in
    let has = end_at c.args.binding c.args.core c.args.self.now c.in-Some.core.now core c.has_end.result c.has_end.ensures.end in
    record {
      has = has;
      there = λ e. end_there c.args.binding c.args.core c.args.self.now (sym has ∙ e);
      new = λ e. none_there c.args.binding c.args.core c.args.self.now (sym has ∙ e);
    }
