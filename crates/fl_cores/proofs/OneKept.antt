-- What turns of one core by itself leave of ends' progress: their jobs, what is due there, and that no opening was refused.
use Rattle.std.proofs.Common.{◌≡◌, refl, ◌∙◌, ap, ℕ, zero, suc, Bool, true, false, if◌then◌else◌, List, length, map, slice_get, slice_set}
use Rattle.std.proofs.Common.{Option, Some, None}
use Rattle.fl_base.specs.declared.identity.EndId.{EndId}
use Rattle.fl_base.specs.Given.{given}
use Rattle.fl_hop.proofs.Lists.{set_same}
use Rattle.fl_value_data.specs.Value.{TheCall, call_of}
use Rattle.fl_core.specs.View.{slot_of}
use Rattle.fl_model.specs.Given.{changed_at}
use Rattle.fl_model.specs.Events.{call, turn, write, Answer, accepted, handle}
use Rattle.fl_model.specs.Step.{step}
use Rattle.fl_core.specs.declared.core_job.CoreJob.{CoreJob}
use Rattle.fl_core.specs.declared.core_job.CoreJob.TheVariants as job
use Rattle.fl_core_refines.specs.AloneTurns.{MachineProgress, MachineRun, advanced, with_handled, next_job, goes, is_there, call_noted, tries, serves, here, due_at, is_before_calls}
use Rattle.fl_core_refines.specs.AloneTurns.{turn_noted, turns_at, takes_turn, MachineTask, swept, serves_at, one_turn, turned}
use Rattle.fl_core_refines.proofs.Progress.{get_some, map_set}

module _ {A : Type 0} (g : MachineProgress → A) (one_more : (d : MachineProgress) → g (advanced d) ≡ g d) (one_handled : (c : TheCall) (d : MachineProgress) → g (with_handled c d) ≡ g d) where
  abbrev seen : MachineRun → List A
  seen a = map g a.progresses

  changed : (f : MachineProgress → MachineProgress) (n : ℕ) (ds : List MachineProgress) → ((d : MachineProgress) → g (f d) ≡ g d) → map g (changed_at n f ds) ≡ map g ds
  changed f n ds same = by (slice_get ds n) refl
    where
      by : (o : Option MachineProgress) → slice_get ds n ≡ o → map g (changed_at n f ds) ≡ map g ds
      by None q = ap (λ o. map g (given o ds λ d. slice_set ds n (f d))) q
      by (Some d) q =
          ap (λ o. map g (given o ds λ x. slice_set ds n (f x))) q
          ∙ map_set g ds n (f d)
          ∙ ap (slice_set (map g ds) n) (same d)
          ∙ set_same (map g ds) n (g d) (get_some g ds n d q)

  call_kept : (e : EndId) (answer : Answer) (a : MachineRun) → seen (call_noted e answer a) ≡ seen a
  call_kept e accepted a = changed advanced (slot_of e) a.progresses one_more
  call_kept e answer a = refl

  turn_kept : (answer : Answer) (a : MachineRun) → seen (turn_noted answer a) ≡ seen a
  turn_kept (handle e c) a = changed (with_handled c) (slot_of e) a.progresses (one_handled c)
  turn_kept answer a = refl

  tries_kept : (e : EndId) (o : Option CoreJob) (a : MachineRun) → seen (tries e o a) ≡ seen a
  tries_kept e None a = refl
  tries_kept e (Some (job.Open request)) a = refl
  tries_kept e (Some (job.Call f c)) a = call_kept e (step a.state (call e (call_of c))).answer (goes (call e (call_of c)) a)
  tries_kept e (Some (job.Reply f msg answer)) a = changed advanced (slot_of e) a.progresses one_more

  serves_kept : (jobs : List CoreJob) (e : EndId) (a : MachineRun) → seen (serves jobs e a) ≡ seen a
  serves_kept jobs e a = by (is_there a.state e)
    where
      by : (b : Bool) → seen (if b then goes (write e) (tries e (next_job jobs a e) a) else a) ≡ seen a
      by true = tries_kept e (next_job jobs a e) a
      by false = refl

  takes_kept : (jobs : List CoreJob) (d : ℕ) (a : MachineRun) → seen (takes_turn jobs d a) ≡ seen a
  takes_kept jobs d a = by (due_at a.state d)
    where
      either : (b : Bool) → seen (if b then a else turns_at d a) ≡ seen a
      either true = refl
      either false = turn_kept (step a.state (turn (here d))).answer (goes (turn (here d)) a)

      by : (o : Option EndId) → seen (given o a λ e. if is_before_calls (next_job jobs a e) then a else turns_at d a) ≡ seen a
      by None = refl
      by (Some e) = either (is_before_calls (next_job jobs a e))

  swept_kept : (f : ℕ → MachineRun → MachineRun) → ((n : ℕ) (a : MachineRun) → seen (f n a) ≡ seen a) → (n : ℕ) (a : MachineRun) → seen (swept f n a) ≡ seen a
  swept_kept f one zero a = refl
  swept_kept f one (suc n) a = one n (swept f n a) ∙ swept_kept f one n a

  at_kept : (p : MachineTask) (n : ℕ) (a : MachineRun) → seen (serves_at p n a) ≡ seen a
  at_kept p n a = by (slice_get p.ends n)
    where
      by : (o : Option EndId) → seen (given o a λ e. serves p.jobs e a) ≡ seen a
      by None = refl
      by (Some e) = serves_kept p.jobs e a

  round_kept : (p : MachineTask) (k : ℕ) (a : MachineRun) → seen (one_turn p a) ≡ seen a
  round_kept p k a =
      swept_kept (takes_turn p.jobs) (takes_kept p.jobs) p.dispatchers (swept (serves_at p) (length p.ends) a)
      ∙ swept_kept (serves_at p) (at_kept p) (length p.ends) a

  pub turns_kept : (p : MachineTask) (n : ℕ) (a : MachineRun) → map g (turned p n a).progresses ≡ map g a.progresses
  turns_kept p n a = swept_kept (λ k. one_turn p) (round_kept p) n a
