-- Where each state that a run reaches is sound, numbers passed don't rise along a route, and the calls handled at an end are those that
-- the fragments taken make whole, a prefix of those accepted at the other.
use Rattle.std.proofs.Common.{◌≡◌, ap, subst, ℕ, suc, ◌<◌, ◌≤◌, length, Some, sym}
use Rattle.std.specs.Prelude.{slice_index}
use Rattle.fl_base.specs.declared.identity.EndId.{EndId}
use Rattle.fl_model.specs.Ends.{End}
use Rattle.fl_model.specs.Laws.{RunsAreSound, PassedFalls, HandledIsCounted, HandledIsAPrefix}
use Rattle.fl_model.specs.Runs.{reached}
use Rattle.fl_model.specs.SoundLabels.{LabelsFollow}
use Rattle.fl_model.specs.State.{State, start, end_of}
use Rattle.fl_model_laws.proofs.BindingWalk.{end_there}
use Rattle.fl_model_laws.proofs.Handled.{handled_is_counted, handled_is_a_prefix}

falls_at : (s : State) → LabelsFollow s → (e : EndId) (x : End) (j : ℕ) → end_of s e ≡ Some x → suc j < length x.out.passed
    → slice_index x.out.passed (suc j) ≤ slice_index x.out.passed j
falls_at s follows e x j q a =
    let (b, there, is) = end_there s e x q in
    subst (λ (y : End). slice_index y.out.passed (suc j) ≤ slice_index y.out.passed j) is
    (follows e b j there (subst (λ (n : ℕ). suc j < n) (ap (λ (y : End). length y.out.passed) (sym is)) a)).falls

pub sound_runs_fall : RunsAreSound → PassedFalls
sound_runs_fall sound vs e x j q a = falls_at (reached start vs) (sound vs).labels e x j q a

pub sound_runs_are_counted : RunsAreSound → HandledIsCounted
sound_runs_are_counted sound = handled_is_counted (λ vs. (sound vs).ways) (sound_runs_fall sound)

pub sound_runs_have_prefixes : RunsAreSound → HandledIsAPrefix
sound_runs_have_prefixes sound = handled_is_a_prefix (λ vs. (sound vs).ways) (sound_runs_fall sound)
