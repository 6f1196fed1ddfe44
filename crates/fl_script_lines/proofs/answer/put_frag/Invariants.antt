use Rattle.std.proofs.Common.{◌≡◌, ◌++◌, take}
use Rattle.std.specs.Prelude.{codes}
use Rattle.std.specs.List.{flat_map}
use Rattle.fl_script_lines.specs.Answers.{hex}
use Rattle.fl_script_lines.proofs.answer.put_frag.Given as goal

abbrev pub invariant-loop-word : goal.invariant-loop-word
invariant-loop-word l =
    (l.out.items ≡ l.fn.out.items ++ flat_map (λ word. hex word ++ codes " ") (take l.word-index l.word-items))
    × (l.word-items ≡ l.frag.words)
