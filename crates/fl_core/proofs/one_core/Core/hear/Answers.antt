use Rattle.std.proofs.Common.{refl, ap, ap₂, ◌∙◌, List}
use Rattle.fl_monitor.specs.Monitors.{TheMonitor}
use Rattle.fl_core.specs.Hearing.{Offers}
use Rattle.fl_core.specs.contracts.one_core.Core.{the_view}
use Rattle.fl_core.specs.declared.wiring.LinkSide.{LinkSide}
use Rattle.fl_core.specs.View.{TheCore, with_failed}
use Rattle.fl_core.specs.declared.answer.MonitorAnswer.TheVariants.{Full}
use Rattle.fl_core.proofs.Hearsay.{frag_heard, frag_not_heard, frag_refused, frag_last}
use Rattle.fl_core.proofs.one_core.Core.hear.Goals as goal

pub returns-in-Err : goal.returns-in-Err
returns-in-Err g c =
    let o : Offers = record { names = c.args.names.now; programs = c.args.programs.now } in
    let base : TheCore = the_view c.self.inside in
    let failed = ap₂ (λ (m : TheMonitor) (sides : List LinkSide). record base { monitor = m; link_sides = sides }) c.read.ensures.kept c.fail.ensures.failed ∙ ap (λ (k : TheCore). with_failed k c.args.link.0) c.self.view_is in
    record {
      hears = frag_refused o c.args.link c.args.frag.now c.args.self.now _ c.in-Err.fault c.in-Err.ensures.refused failed;
      takes = refl;
      last = tt;
    }

pub returns-in-Err-hear_message : goal.returns-in-Err-hear_message
returns-in-Err-hear_message g c =
    let o : Offers = record { names = c.args.names.now; programs = c.args.programs.now } in
    let base : TheCore = the_view c.self.inside in
    let same = ap (λ (m : TheMonitor). record base { monitor = m }) c.read.ensures.kept ∙ c.self.view_is in
    record {
      hears = frag_not_heard o c.args.link c.args.frag.now c.in-Ok.message c.args.self.now _ same c.hear_message.new.self c.in-Err-hear_message.fault c.in-Ok.ensures.says c.in-Err-hear_message.ensures.hears;
      takes = refl;
      last = frag_last o c.args.link c.args.frag.now c.in-Ok.message c.args.self.now _ same c.in-Err-hear_message.fault c.in-Ok.ensures.says c.in-Err-hear_message.ensures.last;
    }

pub returns-in-Ok-Full : goal.returns-in-Ok-Full
returns-in-Ok-Full g c =
    let o : Offers = record { names = c.args.names.now; programs = c.args.programs.now } in
    let base : TheCore = the_view c.self.inside in
    let same = ap (λ (m : TheMonitor). record base { monitor = m }) c.read.ensures.kept ∙ c.self.view_is in
    record {
      hears = frag_heard o c.args.link c.args.frag.now c.in-Ok.message c.args.self.now _ same c.hear_message.new.self c.hear_message.result c.in-Ok-Full.field-0 Full c.in-Ok-Full.is c.in-Ok-Full.field-0-is c.in-Ok.ensures.says c.hear_message.ensures.hears;
      takes = refl;
      last = tt;
    }
