use Rattle.std.proofs.Common.{subst}
use Rattle.std.specs.List.{All}
use Rattle.std.specs.Prelude.{map}
use Rattle.fl_cores_script.specs.Kept.{IsKept}
use Rattle.fl_cores_script.proofs.Sorting.{kept_unsorted}
use Rattle.fl_cores_script.proofs.kept.keeps_to.Goals as goal

pub returns : goal.returns
returns c = record {
  keeps = λ is. kept_unsorted (λ o. o.now) (λ l. l.now) c.args.own.items c.sort.new.self.items c.args.lines.now c.sort.ensures.permutation
      (subst (λ own. All (λ l. IsKept (map (λ o. o.now) own) l.now) c.args.lines.now) c.deref.ensures.value (c.are_kept.ensures.kept is));
}
