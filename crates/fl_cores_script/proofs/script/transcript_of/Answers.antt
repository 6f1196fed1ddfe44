use Rattle.std.proofs.Common.{ℕ, List, ◌++◌, ◌∙◌, sym, ap, subst}
use Rattle.fl_script_exec.specs.Transcript.{Transcript}
use Rattle.fl_cores_script.proofs.script.transcript_of.Goals as goal

pub returns-in-Ok : goal.returns-in-Ok
returns-in-Ok c = record {
  transcript =
      let told = c.in-Ok.ensures.ok in
      subst (Transcript c.args.script.now) (sym (told.2 ∙ ap (λ (z : List ℕ). z ++ told.0) c.new-transcript.ensures.items)) told.1;
}
