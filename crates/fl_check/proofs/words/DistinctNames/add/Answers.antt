use Rattle.std.proofs.Common.{ap, not, ◌∙◌}
use Rattle.fl_check.proofs.NameSets.{among_set, put_in_set}
use Rattle.fl_check.proofs.words.DistinctNames.add.Goals as goal

pub returns : goal.returns
returns c =
    let keys = c.args.self.now.set.keys in
    record {
      new = c.in_ok-new.ensures.added ∙ ap not (among_set keys c.args.name.now);
      more = put_in_set keys c.insert.new.self.keys c.args.name _ c.in_ok-new.ensures.added c.in_ok-new.ensures.keys;
    }
