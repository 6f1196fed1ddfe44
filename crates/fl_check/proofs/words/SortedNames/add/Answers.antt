use Rattle.std.proofs.Common.{ap, not, ◌∙◌}
use Rattle.fl_check.proofs.SortedNames.{among_sorted, put_in_sorted}
use Rattle.fl_check.proofs.words.SortedNames.add.Goals as goal

pub returns : goal.returns
returns c =
    let keys = c.args.self.now.set.keys in
    record {
      new = c.in_ok-new.ensures.added ∙ ap not (among_sorted keys c.args.name);
      more = put_in_sorted keys c.insert.new.self.keys c.args.name c.in_ok-new.ensures.keys;
    }
