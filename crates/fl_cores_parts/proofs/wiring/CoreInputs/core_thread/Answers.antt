use Rattle.std.proofs.Common.{◌∙◌, refl, ap, sym, subst, List, length}
use Rattle.fl_core.specs.View.{TheCore}
use Rattle.fl_core.specs.Numbers.{renumbered}
use Rattle.fl_core_run.specs.declared.opening_status.OpeningStatus.{OpeningStatus}
use Rattle.fl_core_run.specs.OpeningStatus.{AreWords}
use Rattle.fl_cores_parts.specs.Begins.{links_below}
use Rattle.fl_cores_parts.proofs.Seats.{may_finish, may_stop}
use Rattle.fl_cores_parts.proofs.Wording.{words_are}
use Rattle.fl_cores_parts.proofs.wiring.CoreInputs.core_thread.Goals as goal

pub returns : goal.returns
returns c =
    let joined = c.args.self.now.joined.now in
    let knows = c.args.seat.knows in
    let alone = c.requires.seat in
    let run = c.in_ok-running.ensures in
    record {
      ready = record {
        core = rw c.deref-2.ensures at c.law_sound.ensures.sound;
        as_many = c.in_ok-plan.ensures.as_many;
        may = subst (λ (words : List OpeningStatus). AreWords words knows) (sym c.in_ok-plan.ensures.words)
            (words_are c.args.self.now.cores joined.bindings.items joined.owners.items c.args.k knows c.requires.bindings alone);
        finishes = may_finish joined.owners.items c.args.k knows alone;
        stops = may_stop joined.owners.items c.args.k knows alone;
      };
      core_thread = record {
        core_is = (rw c.deref_mut.ensures.value at c.renumber.ensures.renumbered) ∙ ap (renumbered c.args.self.now.sides.now c.args.self.now.queues.now) run.core;
        progresses = rw c.deref_mut.ensures.value run.progresses;
        names = rw c.deref_mut.ensures.value run.names;
        programs = rw c.deref_mut.ensures.value run.programs;
        links = (rw c.deref.ensures at c.in_ok-plan.ensures.links) ∙ ap (λ (k : TheCore). links_below (length k.link_sides)) run.core;
        ends = c.in_ok-plan.ensures.ends;
        dispatchers = (rw c.deref.ensures at c.in_ok-plan.ensures.dispatchers) ∙ ap (λ (k : TheCore). length k.board.dispatchers) run.core;
        cores = c.in_ok-plan.ensures.cores;
        words = c.in_ok-plan.ensures.words;
        seat = alone;
      };
      seat = refl;
      rings = rw c.deref_mut.ensures.value run.rings;
      queues = rw c.deref_mut.ensures.value run.queues;
    }
