use Rattle.std.proofs.Common.{◌≡◌, ◌++◌, ℕ, subst}
use Rattle.std.specs.Prelude.{codes}
use Rattle.std.specs.Fmt.{decimal}
use Rattle.fl_script_lines.proofs.Kept.{not_ok, joined, then_ok, then_kept, kept_same}
use Rattle.fl_script_lines.proofs.answer.put_fault.Goals as goal

pub returns-in_err-put_refused-clause-ok : goal.returns-in_err-put_refused-clause-ok
returns-in_err-put_refused-clause-ok c = not_ok _ c.from_residual.result c.from_residual.ensures.0

pub returns-in_err-put_refused-clause-grows : goal.returns-in_err-put_refused-clause-grows
returns-in_err-put_refused-clause-grows c = c.put_refused.ensures.grows

pub returns-in_err-extend_from_slice-clause-ok : goal.returns-in_err-extend_from_slice-clause-ok
returns-in_err-extend_from_slice-clause-ok c = not_ok _ c.from_residual-in_err-extend_from_slice.result c.from_residual-in_err-extend_from_slice.ensures.0

pub returns-in_err-extend_from_slice-clause-grows : goal.returns-in_err-extend_from_slice-clause-grows
returns-in_err-extend_from_slice-clause-grows c =
    then_kept c.args.out.now.items c.put_refused.new.out.items c.extend_from_slice.new.self.items _ c.in_ok-put_refused.ensures.ok
    (kept_same c.put_refused.new.out.items c.extend_from_slice.new.self.items c.in_err-extend_from_slice.ensures.items)

pub returns-clause-grows : goal.returns-clause-grows
returns-clause-grows c =
    let at = joined c.args.out.now.items c.put_refused.new.out.items c.extend_from_slice.new.self.items (codes "refused E" ++ decimal c.from.result) (codes " at ")
    c.in_ok-put_refused.ensures.ok c.in_ok-extend_from_slice.ensures.items in
    then_kept c.args.out.now.items c.extend_from_slice.new.self.items c.put_number.new.out.items
    (codes "refused E" ++ decimal c.from.result ++ codes " at ") at c.put_number.ensures.grows

pub returns-clause-ok : goal.returns-clause-ok
returns-clause-ok c =
    let refused = subst (λ (n : ℕ). c.put_refused.new.out.items ≡ c.args.out.now.items ++ (codes "refused E" ++ decimal n)) c.from.ensures c.in_ok-put_refused.ensures.ok in
    let at = joined c.args.out.now.items c.put_refused.new.out.items c.extend_from_slice.new.self.items (codes "refused E" ++ decimal c.args.number) (codes " at ")
    refused c.in_ok-extend_from_slice.ensures.items in
    then_ok c.put_number.result c.args.out.now.items c.extend_from_slice.new.self.items c.put_number.new.out.items
    (codes "refused E" ++ decimal c.args.number ++ codes " at ") (decimal c.args.offset) at c.put_number.ensures.ok
