-- Calls and replies, counted place by place.
use Rattle.std.proofs.Common.{◌≡◌, refl, sym, ap, ◌∙◌, ℕ, zero, suc, ◌<◌, ◌+◌, if◌then◌else◌, List, [], ◌∷◌, length, drop, get_or, slice_get, Option, Some, None, is_some, arith}
use Rattle.std.specs.List.{flat_map}
use Rattle.std.proofs.lemmas.List.{length-append, append-nil}
use Rattle.std.proofs.lemmas.List.Concat.{flat_map-append, flat_map-cons}
use Rattle.fl_base.specs.declared.identity.MsgNo.{MsgNo}
use Rattle.fl_base.specs.Given.{given}
use Rattle.fl_value_data.specs.Value.{TheCall}
use Rattle.fl_core.specs.declared.core_job.CoreJob.{CoreJob}
use Rattle.fl_core.specs.Jobs.{calls_of_job, calls_of_jobs}
use Rattle.fl_cores_jobs.specs.EndWork.{rule_at, reply_by}

by_rule : (c : TheCall) (o : Option ℕ) (f : ℕ → TheCall) → length (given o [] (λ answer. f answer ∷ [])) ≡ (if is_some o then 1 else 0)
by_rule c None f = refl
by_rule c (Some answer) f = refl

pub reply_count : (rules : List (Option MsgNo)) (c : TheCall) → length (flat_map (reply_by rules) (c ∷ [])) ≡ (if is_some (rule_at rules c.msg) then 1 else 0)
reply_count rules c =
    ap (λ (t : List TheCall). length t) (flat_map-cons (reply_by rules) c [] ∙ append-nil (reply_by rules c))
    ∙ by_rule c (rule_at rules c.msg) (λ answer. record { msg = answer; args = c.args })

-- the calls of the places from one on are its own and those of the rest
pub calls_from : (jobs : List CoreJob) (places : List ℕ) (k p : ℕ) → k < length places → p ≡ get_or places k p
    → length (calls_of_jobs jobs (drop k places)) ≡ length (calls_of_job (slice_get jobs p)) + length (calls_of_jobs jobs (drop (suc k) places))
calls_from jobs [] k p h is = absurd (omega (arith, h))
calls_from jobs (q ∷ places) zero p h is =
    length-append (calls_of_job (slice_get jobs q)) (calls_of_jobs jobs places)
    ∙ ap (λ (i : ℕ). length (calls_of_job (slice_get jobs i)) + length (calls_of_jobs jobs places)) (sym is)
calls_from jobs (q ∷ places) (suc k) p h is = calls_from jobs places k p (omega (arith, h)) is

pub replies_from : (rules : List (Option MsgNo)) (jobs : List CoreJob) (places : List ℕ) (k p : ℕ) → k < length places → p ≡ get_or places k p
    → length (flat_map (reply_by rules) (calls_of_jobs jobs (drop k places)))
    ≡ length (flat_map (reply_by rules) (calls_of_job (slice_get jobs p))) + length (flat_map (reply_by rules) (calls_of_jobs jobs (drop (suc k) places)))
replies_from rules jobs [] k p h is = absurd (omega (arith, h))
replies_from rules jobs (q ∷ places) zero p h is =
    ap (λ (t : List TheCall). length t) (flat_map-append (reply_by rules) (calls_of_job (slice_get jobs q)) (calls_of_jobs jobs places))
    ∙ length-append (flat_map (reply_by rules) (calls_of_job (slice_get jobs q))) (flat_map (reply_by rules) (calls_of_jobs jobs places))
    ∙ ap (λ (i : ℕ). length (flat_map (reply_by rules) (calls_of_job (slice_get jobs i))) + length (flat_map (reply_by rules) (calls_of_jobs jobs places))) (sym is)
replies_from rules jobs (q ∷ places) (suc k) p h is = replies_from rules jobs places k p (omega (arith, h)) is
