use Rattle.fl_script_lines.proofs.Kept.{kept_once}
use Rattle.fl_script_lines.proofs.answer.put_last.Goals as goal

pub returns-clause-grows : goal.returns-clause-grows
returns-clause-grows c =
    kept_once c.extend_from_slice.result c.args.out.now.items c.extend_from_slice.new.self.items _ c.extend_from_slice.ensures.items
