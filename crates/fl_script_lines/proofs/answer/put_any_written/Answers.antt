use Rattle.std.proofs.Common.{◌++◌}
use Rattle.std.specs.Prelude.{codes}
use Rattle.std.specs.Fmt.{decimal}
use Rattle.fl_script_lines.proofs.Kept.{not_ok, joined, then_ok, then_kept, kept_same}
use Rattle.fl_script_lines.proofs.answer.put_any_written.Goals as goal

pub returns-in_err-extend_from_slice-clause-ok : goal.returns-in_err-extend_from_slice-clause-ok
returns-in_err-extend_from_slice-clause-ok c = not_ok _ c.from_residual.result c.from_residual.ensures.0

pub returns-in_err-extend_from_slice-clause-grows : goal.returns-in_err-extend_from_slice-clause-grows
returns-in_err-extend_from_slice-clause-grows c =
    kept_same c.args.out.now.items c.extend_from_slice.new.self.items c.in_err-extend_from_slice.ensures.items

pub returns-in_err-put_number-clause-ok : goal.returns-in_err-put_number-clause-ok
returns-in_err-put_number-clause-ok c = not_ok _ c.from_residual-in_err-put_number.result c.from_residual-in_err-put_number.ensures.0

pub returns-in_err-put_number-clause-grows : goal.returns-in_err-put_number-clause-grows
returns-in_err-put_number-clause-grows c =
    then_kept c.args.out.now.items c.extend_from_slice.new.self.items c.put_number.new.out.items _
    c.in_ok-extend_from_slice.ensures.items c.put_number.ensures.grows

pub returns-in_err-extend_from_slice-2-clause-ok : goal.returns-in_err-extend_from_slice-2-clause-ok
returns-in_err-extend_from_slice-2-clause-ok c = not_ok _ c.from_residual-in_err-extend_from_slice-2.result c.from_residual-in_err-extend_from_slice-2.ensures.0

pub returns-in_err-extend_from_slice-2-clause-grows : goal.returns-in_err-extend_from_slice-2-clause-grows
returns-in_err-extend_from_slice-2-clause-grows c =
    let number = joined c.args.out.now.items c.extend_from_slice.new.self.items c.put_number.new.out.items (codes "written ") (decimal c.args.k)
    c.in_ok-extend_from_slice.ensures.items c.in_ok-put_number.ensures.ok in
    then_kept c.args.out.now.items c.put_number.new.out.items c.extend_from_slice-2.new.self.items (codes "written " ++ decimal c.args.k) number
    (kept_same c.put_number.new.out.items c.extend_from_slice-2.new.self.items c.in_err-extend_from_slice-2.ensures.items)

pub returns-clause-ok : goal.returns-clause-ok
returns-clause-ok c =
    let number = joined c.args.out.now.items c.extend_from_slice.new.self.items c.put_number.new.out.items (codes "written ") (decimal c.args.k)
    c.in_ok-extend_from_slice.ensures.items c.in_ok-put_number.ensures.ok in
    let of = joined c.args.out.now.items c.put_number.new.out.items c.extend_from_slice-2.new.self.items (codes "written " ++ decimal c.args.k) (codes " of ")
    number c.in_ok-extend_from_slice-2.ensures.items in
    then_ok c.put_number-2.result c.args.out.now.items c.extend_from_slice-2.new.self.items c.put_number-2.new.out.items
    (codes "written " ++ decimal c.args.k ++ codes " of ") (decimal c.args.n) of c.put_number-2.ensures.ok

pub returns-clause-grows : goal.returns-clause-grows
returns-clause-grows c =
    let number = joined c.args.out.now.items c.extend_from_slice.new.self.items c.put_number.new.out.items (codes "written ") (decimal c.args.k)
    c.in_ok-extend_from_slice.ensures.items c.in_ok-put_number.ensures.ok in
    let of = joined c.args.out.now.items c.put_number.new.out.items c.extend_from_slice-2.new.self.items (codes "written " ++ decimal c.args.k) (codes " of ")
    number c.in_ok-extend_from_slice-2.ensures.items in
    then_kept c.args.out.now.items c.extend_from_slice-2.new.self.items c.put_number-2.new.out.items (codes "written " ++ decimal c.args.k ++ codes " of ")
    of c.put_number-2.ensures.grows
