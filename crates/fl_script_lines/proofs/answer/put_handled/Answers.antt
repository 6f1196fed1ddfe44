use Rattle.std.proofs.Common.{◌++◌}
use Rattle.std.specs.Prelude.{codes}
use Rattle.fl_script_lines.specs.Answers.{end_named}
use Rattle.fl_script_lines.specs.Told.{names_of}
use Rattle.fl_script_lines.proofs.Kept.{not_ok, joined, then_ok, then_kept, kept_same}
use Rattle.fl_script_lines.proofs.answer.put_handled.Goals as goal

pub returns-in_err-extend_from_slice-clause-ok : goal.returns-in_err-extend_from_slice-clause-ok
returns-in_err-extend_from_slice-clause-ok c = not_ok _ c.from_residual.result c.from_residual.ensures.0

pub returns-in_err-extend_from_slice-clause-grows : goal.returns-in_err-extend_from_slice-clause-grows
returns-in_err-extend_from_slice-clause-grows c =
    kept_same c.args.out.now.items c.extend_from_slice.new.self.items c.in_err-extend_from_slice.ensures.items

pub returns-in_err-put_spaced_end-clause-ok : goal.returns-in_err-put_spaced_end-clause-ok
returns-in_err-put_spaced_end-clause-ok c = not_ok _ c.from_residual-in_err-put_spaced_end.result c.from_residual-in_err-put_spaced_end.ensures.0

pub returns-in_err-put_spaced_end-clause-grows : goal.returns-in_err-put_spaced_end-clause-grows
returns-in_err-put_spaced_end-clause-grows c =
    then_kept c.args.out.now.items c.extend_from_slice.new.self.items c.put_spaced_end.new.out.items _
    c.in_ok-extend_from_slice.ensures.items c.put_spaced_end.ensures.grows

pub returns-clause-ok : goal.returns-clause-ok
returns-clause-ok c =
    let end = end_named (names_of c.args.names.now) c.args.end ++ codes " " in
    let space = joined c.args.out.now.items c.extend_from_slice.new.self.items c.put_spaced_end.new.out.items (codes "handle ") end
    c.in_ok-extend_from_slice.ensures.items c.in_ok-put_spaced_end.ensures.ok in
    then_ok c.put_call.result c.args.out.now.items c.put_spaced_end.new.out.items c.put_call.new.out.items (codes "handle " ++ end) _ space c.put_call.ensures.ok

pub returns-clause-grows : goal.returns-clause-grows
returns-clause-grows c =
    let end = end_named (names_of c.args.names.now) c.args.end ++ codes " " in
    let space = joined c.args.out.now.items c.extend_from_slice.new.self.items c.put_spaced_end.new.out.items (codes "handle ") end
    c.in_ok-extend_from_slice.ensures.items c.in_ok-put_spaced_end.ensures.ok in
    then_kept c.args.out.now.items c.put_spaced_end.new.out.items c.put_call.new.out.items (codes "handle " ++ end) space c.put_call.ensures.grows
