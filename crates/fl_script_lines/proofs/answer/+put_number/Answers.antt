use Rattle.std.proofs.Common.{◌+◌, ◌/◌, ◌%◌, ◌++◌, ◌∷◌, [], ◌∙◌, ap, sym, List, ℕ, append_assoc}
use Rattle.std.specs.Fmt.{decimal}
use Rattle.std.proofs.lemmas.Fmt.{decimal_digit, decimal_step}
use Rattle.fl_script_lines.proofs.Kept.{not_ok, kept_same, kept_more, then_kept}
use Rattle.fl_script_lines.proofs.answer.+put_number.Goals as goal

pub returns-then-number-lt10-clause-ok : goal.returns-then-number-lt10-clause-ok
returns-then-number-lt10-clause-ok t c = c.in_ok-push.ensures.items ∙ ap (λ (t : List ℕ). c.args.out.now.items ++ t) (sym (decimal_digit c.args.number c.if-number-lt10.true))

pub returns-clause-ok : goal.returns-clause-ok
returns-clause-ok t c =
    let n = c.args.number in
    let last : List ℕ = (48 + n % 10) ∷ [] in
    c.in_ok-push-2.ensures.items ∙ (ap (λ (t : List ℕ). t ++ last) c.in_ok-put_number.ensures.ok
    ∙ (append_assoc c.args.out.now.items (decimal (n / 10)) last
    ∙ ap (λ (t : List ℕ). c.args.out.now.items ++ t) (sym (decimal_step n c.if-number-lt10.false c.ranges.number.fits))))

pub returns-in_err-push-clause-ok : goal.returns-in_err-push-clause-ok
returns-in_err-push-clause-ok t c = not_ok _ c.from_residual.result c.from_residual.ensures.0

pub returns-in_err-push-clause-grows : goal.returns-in_err-push-clause-grows
returns-in_err-push-clause-grows t c = kept_same c.args.out.now.items c.push.new.self.items c.in_err-push.ensures.items

pub returns-then-number-lt10-clause-grows : goal.returns-then-number-lt10-clause-grows
returns-then-number-lt10-clause-grows t c = kept_more c.args.out.now.items c.push.new.self.items _ c.in_ok-push.ensures.items

pub returns-in_err-put_number-clause-ok : goal.returns-in_err-put_number-clause-ok
returns-in_err-put_number-clause-ok t c = not_ok _ c.from_residual-in_err-put_number.result c.from_residual-in_err-put_number.ensures.0

pub returns-in_err-put_number-clause-grows : goal.returns-in_err-put_number-clause-grows
returns-in_err-put_number-clause-grows t c = c.put_number.ensures.grows

pub returns-in_err-push-2-clause-ok : goal.returns-in_err-push-2-clause-ok
returns-in_err-push-2-clause-ok t c = not_ok _ c.from_residual-in_err-push-2.result c.from_residual-in_err-push-2.ensures.0

pub returns-in_err-push-2-clause-grows : goal.returns-in_err-push-2-clause-grows
returns-in_err-push-2-clause-grows t c =
    then_kept c.args.out.now.items c.put_number.new.out.items c.push-2.new.self.items _ c.in_ok-put_number.ensures.ok
    (kept_same c.put_number.new.out.items c.push-2.new.self.items c.in_err-push-2.ensures.items)

pub returns-clause-grows : goal.returns-clause-grows
returns-clause-grows t c =
    then_kept c.args.out.now.items c.put_number.new.out.items c.push-2.new.self.items _ c.in_ok-put_number.ensures.ok
    (kept_more c.put_number.new.out.items c.push-2.new.self.items _ c.in_ok-push-2.ensures.items)
