use Rattle.fl_script_lines.proofs.Kept.{not_ok, then_kept, kept_same, kept_once}
use Rattle.fl_script_lines.proofs.answer.put_end.Goals as goal

pub returns-in_err-extend_from_slice-clause-ok : goal.returns-in_err-extend_from_slice-clause-ok
returns-in_err-extend_from_slice-clause-ok c = not_ok _ c.from_residual.result c.from_residual.ensures.0

pub returns-in_err-extend_from_slice-clause-grows : goal.returns-in_err-extend_from_slice-clause-grows
returns-in_err-extend_from_slice-clause-grows c =
    kept_same c.args.out.now.items c.extend_from_slice.new.self.items c.in_err-extend_from_slice.ensures.items

pub returns-in-Client-clause-grows : goal.returns-in-Client-clause-grows
returns-in-Client-clause-grows c =
    then_kept c.args.out.now.items c.extend_from_slice.new.self.items c.extend_from_slice-in-Client.new.self.items _
    c.in_ok-extend_from_slice.ensures.items
    (kept_once c.extend_from_slice-in-Client.result c.extend_from_slice.new.self.items c.extend_from_slice-in-Client.new.self.items _ c.extend_from_slice-in-Client.ensures.items)

pub returns-in-Server-clause-grows : goal.returns-in-Server-clause-grows
returns-in-Server-clause-grows c =
    then_kept c.args.out.now.items c.extend_from_slice.new.self.items c.extend_from_slice-in-Server.new.self.items _
    c.in_ok-extend_from_slice.ensures.items
    (kept_once c.extend_from_slice-in-Server.result c.extend_from_slice.new.self.items c.extend_from_slice-in-Server.new.self.items _ c.extend_from_slice-in-Server.ensures.items)
