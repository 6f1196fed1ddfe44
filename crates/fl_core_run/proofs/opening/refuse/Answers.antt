use Rattle.std.proofs.Common.{◌<◌, ◌∙◌, length, sym, ap, subst, arith}
use Rattle.fl_core_run.specs.EndProgress.{TheEndProgress, advanced, with_refusal}
use Rattle.fl_core_run.specs.Run.{run_by}
use Rattle.fl_core_run.proofs.AtProgress.{no_progress, at_progress, left_there, left_at}
use Rattle.fl_core_run.proofs.opening.refuse.Goals as goal

pub index_mut-at-requires : goal.index_mut-at-requires
index_mut-at-requires g c =
    let within : c.in-Some.place < length c.args.run.now.progresses.items =
    left_there c.args.run.now.progresses.items c.args.progress c.in-Some.place c.in-Some.is c.requires.left in
    omega (arith, within, c.args.run.now.progresses.ok.0)

pub advance-requires : goal.advance-requires
advance-requires g c = record {
  left = subst (λ (d : TheEndProgress). d.done < length d.jobs) (sym c.refuse.ensures.refused)
      (left_at (run_by g.S.CoreSides.states c.args.run.now) c.args.progress c.in-Some.place c.index_mut-at.result.now c.in-Some.is
      (left_there c.args.run.now.progresses.items c.args.progress c.in-Some.place c.in-Some.is c.requires.left) c.index_mut-at.ensures.value c.requires.left);
}

pub returns-in-Some : goal.returns-in-Some
returns-in-Some g c = record {
  refused = at_progress (run_by g.S.CoreSides.states c.args.run.now) c.args.progress c.in-Some.place c.index_mut-at.result.now c.in-Some.is
      (left_there c.args.run.now.progresses.items c.args.progress c.in-Some.place c.in-Some.is c.requires.left) c.index_mut-at.ensures.value
      (λ d. advanced (with_refusal c.args.number d)) c.advance.new.self (c.advance.ensures.advanced ∙ ap advanced c.refuse.ensures.refused);
}

pub returns-in-None : goal.returns-in-None
returns-in-None g c = record { refused = no_progress (run_by g.S.CoreSides.states c.args.run.now) c.args.progress (λ d. advanced (with_refusal c.args.number d)) c.in-None.is }
