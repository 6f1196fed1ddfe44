use Rattle.std.proofs.Common.{◌≡◌, ◌++◌, ◌∙◌, ap, sym, ℕ, List, Result, Ok, Err, OnOk, append_assoc}
use Rattle.std.specs.Prelude.{codes}
use Rattle.std.specs.Fmt.{decimal}
use Rattle.fl_script_lines.specs.Answers.{end_named}
use Rattle.fl_script_lines.specs.Told.{names_of}
use Rattle.fl_script_lines.proofs.Kept.{not_ok, joined, then_kept}
use Rattle.fl_script_lines.proofs.answer.put_opening_refused.Goals as goal

-- a word, and more behind it
parted : {T E : Type 0} (r : Result T E) (old mid new first word more : List ℕ) → mid ≡ old ++ first → OnOk r (new ≡ mid ++ (word ++ more)) → OnOk r (new ≡ old ++ (first ++ word ++ more))
parted (Ok _) old mid new first word more one other =
    joined old mid new first (word ++ more) one other ∙ ap (λ (t : List ℕ). old ++ t) (sym (append_assoc first word more))
parted (Err _) old mid new first word more one other = tt

pub returns-in_err-put_refused-clause-ok : goal.returns-in_err-put_refused-clause-ok
returns-in_err-put_refused-clause-ok c = not_ok _ c.from_residual.result c.from_residual.ensures.0

pub returns-in_err-put_refused-clause-grows : goal.returns-in_err-put_refused-clause-grows
returns-in_err-put_refused-clause-grows c = c.put_refused.ensures.grows

pub returns-clause-ok : goal.returns-clause-ok
returns-clause-ok c =
    parted c.put_of_end.result c.args.out.now.items c.put_refused.new.out.items c.put_of_end.new.out.items (codes "refused E" ++ decimal c.args.number)
    (codes " ") (end_named (names_of c.args.names.now) c.args.end) c.in_ok-put_refused.ensures.ok c.put_of_end.ensures.ok

pub returns-clause-grows : goal.returns-clause-grows
returns-clause-grows c =
    then_kept c.args.out.now.items c.put_refused.new.out.items c.put_of_end.new.out.items (codes "refused E" ++ decimal c.args.number)
    c.in_ok-put_refused.ensures.ok c.put_of_end.ensures.grows
