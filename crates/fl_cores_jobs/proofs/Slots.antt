-- A binding that a job opens has its ends' work.
use Rattle.std.proofs.Common.{◌≡◌, ap, ℕ, ◌<◌, ◌*◌, ◌∷◌, [], List, length, map, arith}
use Rattle.std.proofs.lemmas.List.{length-append, length-map}
use Rattle.fl_core.specs.View.{slot_of, client_of}
use Rattle.fl_cores_jobs.specs.declared.end_work.BindingCores.{BindingCores}
use Rattle.fl_cores_jobs.specs.declared.joining.JoinedJobs.{JoinedJobs}
use Rattle.fl_cores_jobs.specs.EndWork.{TheEndWork, end_work_of, no_end_work}
use Rattle.fl_cores_jobs.specs.State.{TheJoinedJobs, joined_of, with_binding}

pub opens_slot : (j j2 : JoinedJobs) (x : BindingCores) (n : ℕ) → n ≡ length j.bindings.items → joined_of j2 ≡ with_binding x (joined_of j)
    → length (map end_work_of j.end_works.items) ≡ 2 * length j.bindings.items → slot_of (client_of n) < length j2.end_works.items
opens_slot j j2 x n is added many =
    let two : List TheEndWork = no_end_work ∷ no_end_work ∷ [] in
    let h = ap (λ (t : TheJoinedJobs). length t.end_works) added in
    let l = length-append (map end_work_of j.end_works.items) two in
    let m = length-map j2.end_works.items end_work_of in
    omega (arith, h, l, m, many, is)
