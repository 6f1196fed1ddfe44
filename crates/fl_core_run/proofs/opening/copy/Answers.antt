use Rattle.fl_core_run.proofs.Copying.{stands_at}
use Rattle.fl_core_run.proofs.opening.copy.Goals as goal

pub returns : goal.returns
returns g c = record {
  copy = record {
    source = c.in-Some.source.now;
    source_is =
        stands_at c.args.run.now.programs.items c.deref.result.now c.args.n c.in-Some.source.now c.deref.ensures.value c.in-Some.ensures.lookup.0
        c.in-Some.ensures.lookup.1;
    same = c.in_ok-program-in-Some.ensures.equal;
  };
}
