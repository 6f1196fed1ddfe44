use Rattle.fl_script_lines.proofs.Kept.{not_ok, then_ok, then_kept, kept_same}
use Rattle.fl_script_lines.proofs.answer.put_of_end.Goals as goal

pub returns-in_err-extend_from_slice-clause-ok : goal.returns-in_err-extend_from_slice-clause-ok
returns-in_err-extend_from_slice-clause-ok c = not_ok _ c.from_residual.result c.from_residual.ensures.0

pub returns-in_err-extend_from_slice-clause-grows : goal.returns-in_err-extend_from_slice-clause-grows
returns-in_err-extend_from_slice-clause-grows c =
    kept_same c.args.out.now.items c.extend_from_slice.new.self.items c.in_err-extend_from_slice.ensures.items

pub returns-clause-ok : goal.returns-clause-ok
returns-clause-ok c =
    then_ok c.put_end.result c.args.out.now.items c.extend_from_slice.new.self.items c.put_end.new.out.items c.args.word.now _
    c.in_ok-extend_from_slice.ensures.items c.put_end.ensures.ok

pub returns-clause-grows : goal.returns-clause-grows
returns-clause-grows c =
    then_kept c.args.out.now.items c.extend_from_slice.new.self.items c.put_end.new.out.items c.args.word.now
    c.in_ok-extend_from_slice.ensures.items c.put_end.ensures.grows
