use Rattle.std.proofs.Common.{rules, arith, ◌++◌, ◌∙◌, refl, sym, ap, List, ℕ, append-nil}
use Rattle.std.proofs.lemmas.List.{take_all}
use Rattle.std.specs.Prelude.{codes}
use Rattle.std.specs.List.{flat_map}
use Rattle.fl_script_lines.specs.Answers.{hex}
use Rattle.fl_script_lines.proofs.Kept.{not_ok, then_ok, then_kept, word_more}
use Rattle.fl_script_lines.proofs.answer.put_frag.Goals as goal

pub loop-word-init : goal.loop-word-init
loop-word-init c = (sym (append-nil c.args.out.now.items), refl)

pub returns-in_err-put_spaced-clause-ok : goal.returns-in_err-put_spaced-clause-ok
returns-in_err-put_spaced-clause-ok c = not_ok _ c.from_residual.result c.from_residual.ensures.0

pub returns-in_err-put_spaced-clause-grows : goal.returns-in_err-put_spaced-clause-grows
returns-in_err-put_spaced-clause-grows c =
    then_kept c.args.out.now.items c.loop-word.out.items c.put_spaced.new.out.items _ c.loop-word.invariant.0 c.put_spaced.ensures.grows

pub loop-word-preserved : goal.loop-word-preserved
loop-word-preserved c = (
  word_more (λ word. hex word ++ codes " ") c.args.frag.now.words c.loop-word.word-index 0 c.args.out.now.items c.loop-word.out.items c.put_spaced.new.out.items
      (search rules) c.loop-word.invariant.0 c.in_ok-put_spaced.ensures.ok,
  refl,
)

pub returns-clause-ok : goal.returns-clause-ok
returns-clause-ok c =
    then_ok c.put_last.result c.args.out.now.items c.loop-word.out.items c.put_last.new.out.items _ (hex c.args.frag.now.control)
    (c.loop-word.invariant.0
    ∙ ap (λ (words : List ℕ). c.args.out.now.items ++ flat_map (λ word. hex word ++ codes " ") words)
    (take_all c.loop-word.word-index c.args.frag.now.words (search (rules, arith))))
    c.put_last.ensures.ok

pub returns-clause-grows : goal.returns-clause-grows
returns-clause-grows c =
    then_kept c.args.out.now.items c.loop-word.out.items c.put_last.new.out.items _ c.loop-word.invariant.0 c.put_last.ensures.grows
