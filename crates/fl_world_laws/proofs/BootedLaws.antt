-- What holds of every run from the start holds of every run from a world of 1 to 16 cores.
use Rattle.std.proofs.Common.{◌≡◌, sym, ◌∙◌, ap, subst, List, [], ◌++◌, slice_get, Option, Some, None}
use Rattle.fl_base.specs.declared.identity.EndId.{EndId}
use Rattle.fl_base.specs.Ends.{peer}
use Rattle.fl_base.specs.Given.{given}
use Rattle.fl_value_data.specs.Value.{TheCall}
use Rattle.fl_model.specs.Calls.{Planned}
use Rattle.fl_model.specs.Ends.{End, handled}
use Rattle.fl_model.specs.State.{Binding, State, start, end_in}
use Rattle.fl_model.specs.Runs.{run, reached, calls_accepted}
use Rattle.fl_model.specs.Worlds.{start_with}
use Rattle.fl_model.specs.Laws.{accepted_by, waiting_at, Merged}
use Rattle.fl_model_laws.proofs.Accepted.{all_accepted}
use Rattle.fl_model_laws.proofs.SoundRuns.{sound_runs_are_counted, sound_runs_have_prefixes}
use Rattle.fl_model_laws.proofs.SoundSteps.{runs_are_sound}
use Rattle.fl_world_laws.specs.Booted.{EverHandledIsAPrefix, EverHandledIsCounted, EverAllAccepted}
use Rattle.fl_world_laws.proofs.BootedRuns.{run_from_start}

-- an end among some bindings
abbrev end_among : EndId → List Binding → Option End
end_among e bs = given (slice_get bs e.binding) None λ b. Some (end_in e.side b)

same_accepted : (s t : State) (e : EndId) → s.bindings ≡ t.bindings → accepted_by s e ≡ accepted_by t e
same_accepted s t e q = ap (λ (bs : List Binding). given (end_among e bs) [] λ x. x.out.accepted) q

same_waiting : (s t : State) (e : EndId) → s.bindings ≡ t.bindings → waiting_at s e ≡ waiting_at t e
same_waiting s t e q = ap (λ (bs : List Binding). given (end_among e bs) [] λ x. x.out.waiting) q

pub handled_is_ever_a_prefix : EverHandledIsAPrefix
handled_is_ever_a_prefix n vs some few e =
    let (ws, h) = run_from_start n some few vs in
    let p = sound_runs_have_prefixes runs_are_sound ws e in (
      p.0,
      same_accepted (reached (start_with n) vs) (reached start ws) (peer e) h.bindings ∙ p.1
          ∙ ap (λ (cs : List TheCall). cs ++ p.0) (sym (h.handled e)),
    )

pub handled_is_ever_counted : EverHandledIsCounted
handled_is_ever_counted n vs some few e b i q r =
    let (ws, h) = run_from_start n some few vs in
    h.handled e
    ∙ sound_runs_are_counted runs_are_sound ws e b i (ap (λ (bs : List Binding). slice_get bs e.binding) (sym h.bindings) ∙ q)
    (ap (λ (is : List Planned). slice_get is b.interface) (sym h.interfaces) ∙ r)

pub all_ever_accepted : EverAllAccepted
all_ever_accepted n vs some few e =
    let (ws, h) = run_from_start n some few vs in
    let m = all_accepted ws e in
    let same : accepted_by (reached (start_with n) vs) e ≡ accepted_by (reached start ws) e
    = same_accepted (reached (start_with n) vs) (reached start ws) e h.bindings in
    record {
      replies = m.replies;
      merged = subst (λ (cs : List TheCall). Merged (calls_accepted e (run (start_with n) vs)) m.replies cs) (sym same)
          (subst (λ (cs : List TheCall). Merged cs m.replies (accepted_by (reached start ws) e)) (sym (h.accepted e)) m.merged);
      all = h.due e ∙ m.all
          ∙ ap (λ (cs : List TheCall). m.replies ++ cs) (sym (same_waiting (reached (start_with n) vs) (reached start ws) e h.bindings));
    }
