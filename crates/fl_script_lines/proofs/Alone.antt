-- Lines of one word alone, which are told without a look for its end.
use Rattle.std.proofs.Common.{◌≡◌, ℕ, true, List, Some, sym, subst, ◌∙◌}
use Rattle.fl_lex.specs.Words.{is_name}
use Rattle.fl_script_lines.specs.Words.{behind_word}
use Rattle.fl_script_lines.specs.Commands.{EndName, end_text}
use Rattle.fl_script_lines.specs.Reading.{end_of, one_end, name_then, at_last}
use Rattle.fl_script_lines.proofs.PieceLemmas.{end_some, one_end_reads, name_reads, last_reads}
use Rattle.fl_script_lines.proofs.PrintLemmas.{name_plain, end_plain, word_alone}

pub end_alone : (line : List ℕ) (e : EndName) → end_of line ≡ Some e → one_end line ≡ Some e
end_alone line e found =
    let k = end_some line e found in
    let w = word_alone (end_text e) (end_plain e k.1) in
    subst (λ (l : List ℕ). one_end l ≡ Some e) (sym k.0) (one_end_reads (end_text e) e (w.0, k.1, w.1))

pub name_alone : (line : List ℕ) → is_name line ≡ true → name_then line (λ n rest. at_last rest n) ≡ Some line
name_alone line h =
    let w = word_alone line (name_plain line h) in
    name_reads line line (λ n rest. at_last rest n) w.0 h ∙ last_reads (behind_word line) line w.1
