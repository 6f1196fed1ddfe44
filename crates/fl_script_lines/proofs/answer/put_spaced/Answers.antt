use Rattle.std.proofs.Common.{◌≡◌, ◌++◌, ◌∙◌, ap, ℕ, List, Result, Ok, Err, OnOk, is_ok, if◌then◌else◌}
use Rattle.std.specs.Prelude.{codes}
use Rattle.fl_script_lines.proofs.answer.put_spaced.Goals as goal

-- what stands there after all is appended
appended : {T E : Type 0} (r : Result T E) (old new all : List ℕ) → new ≡ (if is_ok r then all else old) → OnOk r (new ≡ all)
appended (Ok _) old new all h = h
appended (Err _) old new all h = _

pub returns-then-word-eq0-clause-ok : goal.returns-then-word-eq0-clause-ok
returns-then-word-eq0-clause-ok c =
    rw c.if-word-eq0.true
    (appended c.extend_from_slice.result c.args.out.now.items c.extend_from_slice.new.self.items
    (c.args.out.now.items ++ codes "0000000000000000 ") c.extend_from_slice.ensures.items)

pub returns-clause-ok : goal.returns-clause-ok
returns-clause-ok c =
    appended c.extend_from_slice-2.result c.args.out.now.items c.extend_from_slice-2.new.self.items _
    (c.extend_from_slice-2.ensures.items
    ∙ ap (λ digits. if is_ok c.extend_from_slice-2.result then c.args.out.now.items ++ digits else c.args.out.now.items)
    (c.as_slice.ensures ∙ c.spaced_digits-digits.ensures))
