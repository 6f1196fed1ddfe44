use Rattle.std.proofs.Common.{sym, refl}
use Rattle.fl_core.specs.Hearing.{Offers}
use Rattle.fl_core.proofs.Kept.{parts_kept}
use Rattle.fl_core.proofs.Hearsay.{hears_not, unheard_length, not_heard, unheard_last, heard_last}
use Rattle.fl_core.proofs.one_core.Core.hear_if_it_may.Goals as goal

pub invariant_of-self : goal.invariant_of-self
invariant_of-self c = parts_kept _ c.self.inside.board c.self.inside.monitor c.unheard.new.link_sides.items c.self.inside.arrivals.items c.self.invariant refl refl (unheard_length c.args.link c.in-Err.fault c.self.inside.link_sides.items c.unheard.new.link_sides.items _ c.unheard.ensures.unheard) refl

pub returns-in-Err : goal.returns-in-Err
returns-in-Err c =
    let o : Offers = record { names = c.args.names.now; programs = c.args.programs.now } in
    let here = c.here_for-here.ensures.here o (sym c.requires.offer) in
    let hears = hears_not _ c.args.link c.args.message.now c.self.inside.monitor c.in-Err.fault c.in-Err.ensures.refused in
    record {
      hears = not_heard o c.args.link c.args.message.now c.args.self.now _ c.self.view_is c.here_for-here.result here c.in-Err.fault c.self.inside.monitor c.unheard.result c.unheard.new.link_sides.items hears c.unheard.ensures.unheard;
      last = unheard_last o c.args.link c.args.message.now c.args.self.now _ c.self.view_is c.here_for-here.result here c.in-Err.fault c.self.inside.monitor c.unheard.result c.unheard.new.link_sides.items hears c.unheard.ensures.unheard;
    }

pub returns-in-Ok-clause-last : goal.returns-in-Ok-clause-last
returns-in-Ok-clause-last c =
    let o : Offers = record { names = c.args.names.now; programs = c.args.programs.now } in
    heard_last o c.args.link c.args.message.now c.args.self.now _ c.self.view_is c.here_for-here.result (c.here_for-here.ensures.here o (sym c.requires.offer)) c.args.offer c.requires.offer c.in-Ok.field-0 c.hear_offered.result c.in-Ok.ensures.may
