use Rattle.std.proofs.Common.{sym, ap, subst, ◌∙◌, List, ℕ}
use Rattle.fl_value.specs.CallText.{without_blanks}
use Rattle.fl_script_lines.specs.Lines.{CallTells, told_as, a_call}
use Rattle.fl_script_lines.specs.Reading.{end_of}
use Rattle.fl_script_lines.specs.Told.{names_of}
use Rattle.fl_script_lines.specs.Views.{end_name_of}
use Rattle.fl_script_lines.proofs.LineLemmas.{call_tells}
use Rattle.fl_script_lines.proofs.names.ScriptNames.call_line.Goals as goal

pub returns : goal.returns
returns c =
    let n = names_of c.args.self.now in
    record {
      tells =
          call_tells n c.args.rest.now (end_name_of c.in-Some.end) (told_as a_call c.call_at.result) (ap end_of (sym c.next_word.ensures.word) ∙ sym c.in-Some.ensures.same)
          (subst (λ (t : List ℕ). CallTells n (end_name_of c.in-Some.end) t (told_as a_call c.call_at.result)) (c.skip_blanks.ensures.rest ∙ ap without_blanks c.next_word.ensures.behind)
          c.call_at.ensures.tells);
    }
