-- Seats put in one, and what that finds in the words of jobs.
use Rattle.std.proofs.Common.{◌≡◌, refl, sym, ap, ◌∙◌, subst, arith, ℕ, suc, ◌+◌, ◌-◌, ◌<◌, List, [], ◌∷◌, ◌++◌, map, length}
use borrow.Author.Count.{below_more}
use Rattle.std.proofs.lemmas.List.{append-nil, append_assoc}
use Rattle.std.specs.List.{AllZip}
use Rattle.fl_cores_table.specs.declared.table.CoresView.{CoresView}
use Rattle.fl_cores_table.specs.declared.table.OpeningRefusal.{OpeningRefusal}
use Rattle.fl_cores_table.specs.Counter.{Agrees, number_of, both, core_alone, with_heard}
use Rattle.fl_cores_table.specs.Seats.{TheCoresSeat, knowing}
use Rattle.fl_core.specs.declared.core_job.CoreJob.{CoreJob}
use Rattle.fl_core_run.specs.declared.run.RunEnd.{RunEnd}
use Rattle.fl_core_run.specs.declared.run.RunEnd.TheVariants.{Finished, Unfinished, Told}
use Rattle.fl_core_run.specs.Ran.{TellsEnd}
use Rattle.fl_cores_fork.specs.declared.core_thread.CoreThread.{CoreThread}
use Rattle.fl_cores_fork.specs.declared.core_thread.FinishedCore.{FinishedCore}
use Rattle.fl_cores_jobs.specs.State.{TheJoinedJobs}
use Rattle.fl_world_refines.specs.declared.parts.Parts.{Parts}
use Rattle.fl_cores_fork.specs.Runs.{TheFinishedCore, seats_left, TheCoreThread, RanTo}
use Rattle.fl_cores_fork.specs.CoreThreads.{outcome_of, CoreThreadRan, core_thread_of}
use Rattle.fl_cores_parts.specs.Begins.{common_in}
use Rattle.fl_cores_parts.specs.Dealing.{Wirings}
use Rattle.fl_cores_parts.specs.Heard.{told_by, heard_by, HeardAsTold}
use Rattle.fl_cores_parts.specs.CoreThreads.{seats_given, AreSeats, all_in, IsRest, left_view}
use Rattle.fl_cores_parts.proofs.Each.{as_many}

-- ---- all in one

all_seats : (v : CoresView) (own : TheCoresSeat) (ss : List TheCoresSeat) → AreSeats own ss → (all_in v ss).seats ≡ v.seats + length ss
all_seats v own [] are = omega arith
all_seats v own (s ∷ ss) are =
    let rest : (all_in (both v s.knows) ss).seats ≡ v.seats + s.knows.seats + length ss = all_seats (both v s.knows) own ss are.2 in
    let one = are.1 in
    omega (arith, rest, one)

all_whole : (v : CoresView) (ss : List TheCoresSeat) → (all_in v ss).whole ≡ v.whole
all_whole v [] = refl
all_whole v (s ∷ ss) = all_whole (both v s.knows) ss

all_owners : (v : CoresView) (ss : List TheCoresSeat) → (all_in v ss).owners ≡ v.owners
all_owners v [] = refl
all_owners v (s ∷ ss) = all_owners (both v s.knows) ss

all_told : (v : CoresView) (ss : List TheCoresSeat) → (all_in v ss).stored ≡ v.stored ++ told_by ss
all_told v [] = sym (append-nil v.stored)
all_told v (s ∷ ss) = all_told (both v s.knows) ss ∙ append_assoc v.stored s.knows.stored (told_by ss)

all_heard : (v : CoresView) (ss : List TheCoresSeat) → (all_in v ss).heard ≡ v.heard ++ heard_by ss
all_heard v [] = sym (append-nil v.heard)
all_heard v (s ∷ ss) = all_heard (both v s.knows) ss ∙ append_assoc v.heard s.knows.heard (heard_by ss)

-- ---- one after another

-- the seats that are left of all these will be put in the seat that the first has become
pub record Joining (first now : TheCoresSeat) (left all : List TheCoresSeat) : Type 0 where
  pub table : now.table ≡ first.table
  pub some : 0 < now.knows.seats
  pub each : AreSeats first left
  pub comes : all_in now.knows left ≡ all_in first.knows all

pub joins_none : (own : TheCoresSeat) (ss : List TheCoresSeat) → 0 < own.knows.seats → AreSeats own ss → Joining own own ss ss
joins_none own ss some are = record { table = refl; some = some; each = are; comes = refl }

pub joins_table : (first now s : TheCoresSeat) (left all : List TheCoresSeat) → Joining first now (s ∷ left) all → now.table ≡ s.table
joins_table first now s left all j = j.table ∙ sym j.each.0

pub joins_seated : (first now s : TheCoresSeat) (left all : List TheCoresSeat) → Joining first now (s ∷ left) all → (0 < now.knows.seats) × (0 < s.knows.seats)
joins_seated first now s left all j = (j.some, (let one = j.each.1 in omega (arith, one)))

pub joins_one : (first now s after : TheCoresSeat) (left all : List TheCoresSeat) → Joining first now (s ∷ left) all → after ≡ knowing now (both now.knows s.knows)
    → Joining first after left all
joins_one first now s after left all j is = subst (λ (u : TheCoresSeat). Joining first u left all) (sym is) (record {
  table = j.table;
  some = (let some = j.some in omega (arith, some));
  each = j.each.2;
  comes = j.comes;
})

pub joins_all : (first now : TheCoresSeat) (all : List TheCoresSeat) → Joining first now [] all → now ≡ knowing first (all_in first.knows all)
joins_all first now all j =
    ap (λ (v : CoresView). knowing now v) j.comes ∙ ap (λ t. let s : TheCoresSeat = record { table = t; knows = all_in first.knows all } in s) j.table

-- ---- words asked for

-- by the seat that the first has become those of the first n jobs
pub record Asking (first now : CoresView) (n : ℕ) : Type 0 where
  pub seats : now.seats ≡ first.seats
  pub whole : now.whole ≡ first.whole
  pub owners : now.owners ≡ first.owners
  pub told : now.stored ≡ first.stored
  pub heard : (job found : ℕ) → Agrees job found now.heard → Agrees job found first.heard
  pub agree : (job : ℕ) → job < n → Agrees job (number_of job first.stored) first.heard

pub asks_none : (v : CoresView) → Asking v v 0
asks_none v = record { seats = refl; whole = refl; owners = refl; told = refl; heard = λ job found h. h; agree = λ job below. absurd (omega (arith, below)) }

pub asks_one : (first : CoresView) (was now : TheCoresSeat) (n found : ℕ) → Asking first was.knows n → first.seats ≡ first.whole → now ≡ knowing was (with_heard was.knows n found)
    → Agrees n found was.knows.heard → (was.knows.seats ≡ was.knows.whole → found ≡ number_of n was.knows.stored) → Asking first now.knows (n + 1)
asks_one first was now n found asked all is agrees exact = subst (λ (u : TheCoresSeat). Asking first u.knows (n + 1)) (sym is) (record {
  seats = asked.seats;
  whole = asked.whole;
  owners = asked.owners;
  told = asked.told;
  heard = λ job f h. asked.heard job f h.1;
  agree = below_more (λ (job : ℕ). Agrees job (number_of job first.stored) first.heard) n asked.agree
      (let found_is : found ≡ number_of n first.stored = exact (asked.seats ∙ all ∙ sym asked.whole) ∙ ap (number_of n) asked.told in
      subst (λ (f : ℕ). Agrees n f first.heard) found_is (asked.heard n found agrees));
})

-- ---- the run's own seat

pub rest_some : (own : TheCoresSeat) (jobs : ℕ) (ss : List TheCoresSeat) → IsRest own jobs ss → 0 < own.knows.seats
rest_some own jobs ss rest = rest.some

pub rest_each : (own : TheCoresSeat) (jobs : ℕ) (ss : List TheCoresSeat) → IsRest own jobs ss → AreSeats own ss
rest_each own jobs ss rest = rest.each

pub rest_jobs : (own now : TheCoresSeat) (jobs : ℕ) (ss : List TheCoresSeat) → IsRest own jobs ss → now ≡ knowing own (all_in own.knows ss) → length now.knows.owners ≡ jobs
rest_jobs own now jobs ss rest is = ap (λ (u : TheCoresSeat). length u.knows.owners) is ∙ ap length (all_owners own.knows ss) ∙ rest.jobs_are

pub rest_all : (own now : TheCoresSeat) (jobs : ℕ) (ss : List TheCoresSeat) → IsRest own jobs ss → now ≡ knowing own (all_in own.knows ss) → now.knows.seats ≡ now.knows.whole
rest_all own now jobs ss rest is =
    ap (λ (u : TheCoresSeat). u.knows.seats) is ∙ all_seats own.knows own ss rest.each ∙ rest.all ∙ sym (all_whole own.knows ss) ∙ sym (ap (λ (u : TheCoresSeat). u.knows.whole) is)

pub rest_heard : (own now : TheCoresSeat) (jobs : ℕ) (ss : List TheCoresSeat) → IsRest own jobs ss → now ≡ knowing own (all_in own.knows ss)
    → ((job : ℕ) → job < jobs → Agrees job (number_of job now.knows.stored) now.knows.heard) → HeardAsTold jobs ss
rest_heard own now jobs ss rest is agree job below =
    let told : now.knows.stored ≡ told_by ss =
    ap (λ (u : TheCoresSeat). u.knows.stored) is ∙ all_told own.knows ss ∙ ap (λ (rs : List OpeningRefusal). rs ++ told_by ss) rest.told in
    let heard : now.knows.heard ≡ heard_by ss =
    ap (λ (u : TheCoresSeat). u.knows.heard) is ∙ all_heard own.knows ss ∙ ap (λ (rs : List OpeningRefusal). rs ++ heard_by ss) rest.heard in
    subst (λ (rs : List OpeningRefusal). Agrees job (number_of job rs) (heard_by ss)) told
    (subst (λ (rs : List OpeningRefusal). Agrees job (number_of job now.knows.stored) rs) heard (agree job below))

-- ---- seats that cores were given, and those that they have in the end

pub seats_more : (own was seat : TheCoresSeat) (xs : List CoreThread) (x : CoreThread) → AreSeats own (seats_given (map core_thread_of xs)) → was.table ≡ own.table
    → seat ≡ knowing was (core_alone was.knows) → x.run_seat.seat ≡ seat → AreSeats own (seats_given (map core_thread_of (xs ++ x ∷ [])))
seats_more own was seat [] x are same cut is =
    let all : x.run_seat.seat ≡ knowing was (core_alone was.knows) = is ∙ cut in
    (ap (λ (u : TheCoresSeat). u.table) all ∙ same, ap (λ (u : TheCoresSeat). u.knows.seats) all, tt)
seats_more own was seat (y ∷ xs) x are same cut is = (are.0, are.1, seats_more own was seat xs x are.2 same cut is)

table_told : (e : RunEnd) (v u : TheCoresSeat) → TellsEnd e v u → u.table ≡ v.table
table_told Finished v u is = ap (λ (s : TheCoresSeat). s.table) is
table_told Unfinished v u is = ap (λ (s : TheCoresSeat). s.table) is
table_told Told v u is = ap (λ (s : TheCoresSeat). s.table) is

seats_told : (e : RunEnd) (v u : TheCoresSeat) → TellsEnd e v u → u.knows.seats ≡ v.knows.seats
seats_told Finished v u is = ap (λ (s : TheCoresSeat). s.knows.seats) is
seats_told Unfinished v u is = ap (λ (s : TheCoresSeat). s.knows.seats) is
seats_told Told v u is = ap (λ (s : TheCoresSeat). s.knows.seats) is

same_table : (jobs : List CoreJob) (limit : ℕ) (s : TheCoreThread) (o : TheFinishedCore) → RanTo jobs limit s o → o.run_seat.seat.table ≡ s.run_seat.seat.table
same_table jobs limit s o ran = ran.after.table ∙ table_told o.part.end ran.middle.run_seat.seat ran.told ran.tells ∙ ran.counted.seat.table

same_seats : (jobs : List CoreJob) (limit : ℕ) (s : TheCoreThread) (o : TheFinishedCore) → RanTo jobs limit s o → o.run_seat.seat.knows.seats ≡ s.run_seat.seat.knows.seats
same_seats jobs limit s o ran = ran.after.seats ∙ seats_told o.part.end ran.middle.run_seat.seat ran.told ran.tells ∙ ran.counted.seat.seats

seats_ran : (jobs : List CoreJob) (limit : ℕ) (own : TheCoresSeat) (xs : List CoreThread) (ys : List FinishedCore) → AllZip (CoreThreadRan jobs limit) xs ys
    → AreSeats own (seats_given (map core_thread_of xs)) → AreSeats own (seats_left (map outcome_of ys))
seats_ran jobs limit own [] [] all are = tt
seats_ran jobs limit own [] (y ∷ ys) all are = absurd all
seats_ran jobs limit own (x ∷ xs) [] all are = absurd all
seats_ran jobs limit own (x ∷ xs) (y ∷ ys) all are = (
  same_table jobs limit (core_thread_of x) (outcome_of y) all.0.ran ∙ are.0,
  same_seats jobs limit (core_thread_of x) (outcome_of y) all.0.ran ∙ are.1,
  seats_ran jobs limit own xs ys all.1 are.2,
)

many_left : (ys : List FinishedCore) → length (seats_left (map outcome_of ys)) ≡ length ys
many_left [] = refl
many_left (y ∷ ys) = ap suc (many_left ys)

many_ran : (jobs : List CoreJob) (limit : ℕ) (xs : List CoreThread) (ys : List FinishedCore) → AllZip (CoreThreadRan jobs limit) xs ys → length ys ≡ length (map core_thread_of xs)
many_ran jobs limit [] [] all = refl
many_ran jobs limit [] (y ∷ ys) all = absurd all
many_ran jobs limit (x ∷ xs) [] all = absurd all
many_ran jobs limit (x ∷ xs) (y ∷ ys) all = ap suc (many_ran jobs limit xs ys all.1)

moved : (first own : TheCoresSeat) (ss : List TheCoresSeat) → own.table ≡ first.table → AreSeats first ss → AreSeats own ss
moved first own [] table all = tt
moved first own (s ∷ ss) table all = (all.0 ∙ sym table, all.1, moved first own ss table all.2)

-- what is left of everybody's seat, with the seats that all cores have in the end
rest_is : (n : ℕ) (owners : List ℕ) (own : TheCoresSeat) (ss : List TheCoresSeat) → own.knows ≡ left_view n owners n → length ss ≡ n → AreSeats own ss
    → IsRest own (length owners) ss
rest_is n owners own ss is many are = record {
  some = subst (λ (v : CoresView). 0 < v.seats) (sym is) (omega arith);
  all = (let seats : own.knows.seats ≡ n + 1 - n = ap (λ (v : CoresView). v.seats) is in
      let whole : own.knows.whole ≡ n + 1 = ap (λ (v : CoresView). v.whole) is in
      omega (arith, seats, whole, many));
  jobs_are = ap (λ (v : CoresView). length v.owners) is;
  told = ap (λ (v : CoresView). v.stored) is;
  heard = ap (λ (v : CoresView). v.heard) is;
  each = are;
}

pub rest_joined : (p : Parts) (j : TheJoinedJobs) (limit jobs : ℕ) (xs : List CoreThread) (ys : List FinishedCore) (owners : List ℕ) (first own after : TheCoresSeat) → after ≡ own
    → jobs ≡ length j.owners → own.table ≡ first.table → own.knows ≡ left_view (length p.cores.items) j.owners (length p.cores.items)
    → AreSeats first (seats_given (map core_thread_of xs)) → Wirings p j (map core_thread_of xs) owners → AllZip (CoreThreadRan j.jobs limit) xs ys
    → IsRest after jobs (seats_left (map outcome_of ys))
rest_joined p j limit jobs xs ys owners first own after same count table is are wires ran =
    let n = length p.cores.items in
    let ss = seats_left (map outcome_of ys) in
    let many : length ss ≡ n =
    many_left ys ∙ many_ran j.jobs limit xs ys ran ∙ as_many (common_in p j wires.places) 0 p.cores.items (map core_thread_of xs) wires.begin in
    let rest : IsRest own (length j.owners) ss = rest_is n j.owners own ss is many (moved first own ss table (seats_ran j.jobs limit first xs ys ran are)) in
    subst (λ (s : TheCoresSeat). IsRest s jobs ss) (sym same) (subst (λ (m : ℕ). IsRest own m ss) (sym count) rest)

-- a seat more put in one
pub ruleset joins = (joins_none, joins_table, joins_seated, joins_one, joins_all)
