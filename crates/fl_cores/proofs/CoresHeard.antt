-- What the cores of a report heard of refused openings was told.
use Rattle.std.proofs.Common.{◌≡◌, refl, sym, ap, ◌∙◌, subst, ℕ, zero, suc, ◌⊎◌, inl, inr, List, [], ◌∷◌, ◌++◌, length, slice_get, Some, None}
use Rattle.std.specs.List.{AllZip}
use Rattle.fl_hop.proofs.Lists.{within}
use Rattle.fl_cores_table.specs.declared.table.OpeningRefusal.{OpeningRefusal}
use Rattle.fl_cores_table.specs.Seats.{TheCoresSeat}
use Rattle.fl_core.specs.declared.core_job.CoreJob.{CoreJob}
use Rattle.fl_core_run.specs.declared.run.RunEnd.{RunEnd}
use Rattle.fl_core_run.specs.declared.run.RunEnd.TheVariants.{Finished, Unfinished, Told}
use Rattle.fl_core_run.specs.Ran.{TellsEnd}
use Rattle.fl_cores_jobs.specs.State.{TheJoinedJobs}
use Rattle.fl_cores_laws.specs.EndedCores.{OneCore}
use Rattle.fl_cores_laws.specs.EndedHeard.{Among, HeardIsTold, TablesTell}
use Rattle.fl_cores_fork.specs.Runs.{TheFinishedCore, seats_left, TheCoreThread, RanTo}
use Rattle.fl_cores_parts.specs.Heard.{told_by, heard_by, HeardAsTold}
use Rattle.fl_cores.specs.Behind.{core_of, cores_of}

-- ---- among others

first_among : (job number : ℕ) (xs ys : List OpeningRefusal) → Among job number xs → Among job number (xs ++ ys)
first_among job number [] ys there = absurd there
first_among job number (x ∷ xs) ys (inl here) = inl here
first_among job number (x ∷ xs) ys (inr there) = inr (first_among job number xs ys there)

last_among : (job number : ℕ) (xs ys : List OpeningRefusal) → Among job number ys → Among job number (xs ++ ys)
last_among job number [] ys there = there
last_among job number (x ∷ xs) ys there = inr (last_among job number xs ys there)

either : (job number : ℕ) (xs ys : List OpeningRefusal) → Among job number (xs ++ ys) → Among job number xs ⊎ Among job number ys
either job number [] ys there = inr there
either job number (x ∷ xs) ys (inl here) = inl (inl here)
either job number (x ∷ xs) ys (inr there) = elim (either job number xs ys there) [
  | inl first ↦ inl (inr first)
  | inr last ↦ inr last
]

-- ---- behind its point a core tells and hears nothing

told_end : (e : RunEnd) (v u : TheCoresSeat) → TellsEnd e v u → u.knows.stored ≡ v.knows.stored
told_end Finished v u is = ap (λ (s : TheCoresSeat). s.knows.stored) is
told_end Unfinished v u is = ap (λ (s : TheCoresSeat). s.knows.stored) is
told_end Told v u is = ap (λ (s : TheCoresSeat). s.knows.stored) is

heard_end : (e : RunEnd) (v u : TheCoresSeat) → TellsEnd e v u → u.knows.heard ≡ v.knows.heard
heard_end Finished v u is = ap (λ (s : TheCoresSeat). s.knows.heard) is
heard_end Unfinished v u is = ap (λ (s : TheCoresSeat). s.knows.heard) is
heard_end Told v u is = ap (λ (s : TheCoresSeat). s.knows.heard) is

module _ (jobs : List CoreJob) (limit : ℕ) where
  told_at_point : (s : TheCoreThread) (o : TheFinishedCore) (ran : RanTo jobs limit s o) → o.run_seat.seat.knows.stored ≡ ran.middle.run_seat.seat.knows.stored
  told_at_point s o ran = ran.stored ∙ told_end o.part.end ran.middle.run_seat.seat ran.told ran.tells

  heard_at_point : (s : TheCoreThread) (o : TheFinishedCore) (ran : RanTo jobs limit s o) → o.run_seat.seat.knows.heard ≡ ran.middle.run_seat.seat.knows.heard
  heard_at_point s o ran = ran.heard ∙ heard_end o.part.end ran.middle.run_seat.seat ran.told ran.tells

  -- ---- all cores

  heard_all : (core_threads : List TheCoreThread) (outcomes : List TheFinishedCore) (ran : AllZip (RanTo jobs limit) core_threads outcomes) (n job number : ℕ) (c : OneCore)
      → slice_get (cores_of jobs limit core_threads outcomes ran) n ≡ Some c → Among job number c.point.run_seat.seat.knows.heard
      → Among job number (heard_by (seats_left outcomes))
  heard_all [] [] ran n job number c at there = absurd (let no : None ≡ Some c = at in cc)
  heard_all [] (o ∷ outcomes) ran n job number c at there = absurd ran
  heard_all (s ∷ core_threads) [] ran n job number c at there = absurd ran
  heard_all (s ∷ core_threads) (o ∷ outcomes) ran zero job number c at there =
      let same : core_of jobs limit s o ran.0 ≡ c = cc in
      let here : Among job number o.run_seat.seat.knows.heard =
      subst (λ (rs : List OpeningRefusal). Among job number rs)
      (ap (λ (x : OneCore). x.point.run_seat.seat.knows.heard) (sym same) ∙ sym (heard_at_point s o ran.0)) there in
      first_among job number o.run_seat.seat.knows.heard (heard_by (seats_left outcomes)) here
  heard_all (s ∷ core_threads) (o ∷ outcomes) ran (suc n) job number c at there =
      last_among job number o.run_seat.seat.knows.heard (heard_by (seats_left outcomes)) (heard_all core_threads outcomes ran.1 n job number c at there)

  -- a core of these told this
  abbrev TellsIt : (cores : List OneCore) (job told : ℕ) → Type 0
  TellsIt cores job told = (m : ℕ) × (d : OneCore) × (slice_get cores m ≡ Some d) × Among job told d.point.run_seat.seat.knows.stored

  told_all : (core_threads : List TheCoreThread) (outcomes : List TheFinishedCore) (ran : AllZip (RanTo jobs limit) core_threads outcomes) (job told : ℕ)
      → Among job told (told_by (seats_left outcomes)) → TellsIt (cores_of jobs limit core_threads outcomes ran) job told
  told_all [] [] ran job told there = absurd there
  told_all [] (o ∷ outcomes) ran job told there = absurd ran
  told_all (s ∷ core_threads) [] ran job told there = absurd ran
  told_all (s ∷ core_threads) (o ∷ outcomes) ran job told there = elim (either job told o.run_seat.seat.knows.stored (told_by (seats_left outcomes)) there) [
    | inl first ↦ (0, core_of jobs limit s o ran.0, refl, subst (λ (rs : List OpeningRefusal). Among job told rs) (told_at_point s o ran.0) first)
    | inr last ↦ (let (m, d, at, is) = told_all core_threads outcomes ran.1 job told last in (suc m, d, at, is))
  ]

pub heard_is_told : TablesTell → (j : TheJoinedJobs) (limit : ℕ) (core_threads : List TheCoreThread) (outcomes : List TheFinishedCore)
    (ran : AllZip (RanTo j.jobs limit) core_threads outcomes) → HeardAsTold (length j.owners) (seats_left outcomes)
    → HeardIsTold j (cores_of j.jobs limit core_threads outcomes ran)
heard_is_told tables j limit core_threads outcomes ran heard =
    tables j (cores_of j.jobs limit core_threads outcomes ran) (told_by (seats_left outcomes)) (heard_by (seats_left outcomes))
    (record {
      heard_all = heard_all j.jobs limit core_threads outcomes ran;
      told_by = told_all j.jobs limit core_threads outcomes ran;
    })
    (λ job owner at. heard job (within j.owners job owner at))
