-- Ends that are made in a run are at the cores that their bindings name, with the programs of these.
use Rattle.std.proofs.Common.{◌≡◌, refl, sym, ap, ◌∙◌, ℕ, zero, suc, ◌+◌, if◌then◌else◌, Bool, true, false, List, [], ◌∷◌, length, map, slice_get, Some, arith}
use Rattle.fl_base.specs.declared.identity.EndId.{EndId}
use Rattle.fl_base.specs.declared.identity.Side.{Side}
use Rattle.fl_base.specs.declared.identity.Side.TheVariants.{Client, Server}
use Rattle.fl_compile.specs.declared.program.Program.{Program}
use Rattle.fl_compile.specs.Programs.{TheProgram, program_of}
use Rattle.fl_core.specs.BoardView.{TheEndAtChannel}
use Rattle.fl_cores_file.specs.Jobs.{Job}
use Rattle.fl_nameserv.specs.Registrations.{TheRegistration, by_iref}
use Rattle.fl_core.specs.View.{client_of, server_of}
use Rattle.fl_model.specs.Runs.{same_end}
use Rattle.fl_core.specs.declared.core_job.CoreJob.{CoreJob}
use Rattle.fl_core.specs.declared.core_job.CoreJob.TheVariants as job
use Rattle.fl_core_run_laws.proofs.Handling.{one_end}
use Rattle.fl_core_run_laws.proofs.Leading.{map_there}
use Rattle.fl_cores_jobs.specs.declared.end_work.BindingCores.{BindingCores}
use Rattle.fl_cores_jobs.specs.EndWork.{end_of, places_of}
use Rattle.fl_cores_jobs.specs.Joined.{core_of}
use Rattle.fl_cores_jobs.specs.State.{TheJoinedJobs, AreJoined}
use Rattle.fl_cores_laws.specs.Cores.{OneCore}
use Rattle.fl_cores_laws.specs.Asked.{IsOpenedBy, IsServer, ServersAreRequested, ClientsAreRequested, AreStaffed, IsMade, IsAtHome, EndsAreAtHome}

same_value : {X : Type 0} (a b : X) → Some a ≡ Some b → a ≡ b
same_value a b is = cc

-- ---- the places of an end's jobs

-- a job at one of them, counted from the first
record StandsAt (e : EndId) (first : ℕ) (jobs : List CoreJob) (place : ℕ) : Type 0 where
  pub nth : ℕ
  pub place_is : place ≡ first + nth
  pub done : CoreJob
  pub there : slice_get jobs nth ≡ Some done
  pub same : same_end e (end_of done) ≡ true

further : (e : EndId) (first : ℕ) (j : CoreJob) (jobs : List CoreJob) (place : ℕ) → StandsAt e (suc first) jobs place → StandsAt e first (j ∷ jobs) place
further e first j jobs place x = record { nth = suc x.nth; place_is = (let is = x.place_is in omega (arith, is)); done = x.done; there = x.there; same = x.same }

first_place : (e : EndId) (first : ℕ) (j : CoreJob) (jobs : List CoreJob) (place : ℕ) → same_end e (end_of j) ≡ true → first ≡ place → StandsAt e first (j ∷ jobs) place
first_place e first j jobs place same is = record { nth = 0; place_is = omega (arith, is); done = j; there = refl; same = same }

-- the first, or one behind it
by_turn : (e : EndId) (first : ℕ) (j : CoreJob) (jobs : List CoreJob) (rest : List ℕ) (i place : ℕ) → ((k : ℕ) → slice_get rest k ≡ Some place → StandsAt e (suc first) jobs place)
    → same_end e (end_of j) ≡ true → slice_get (first ∷ rest) i ≡ Some place → StandsAt e first (j ∷ jobs) place
by_turn e first j jobs rest zero place behind same at = first_place e first j jobs place same (same_value first place at)
by_turn e first j jobs rest (suc i) place behind same at = further e first j jobs place (behind i at)

by_test : (e : EndId) (first : ℕ) (j : CoreJob) (jobs : List CoreJob) (rest : List ℕ) (i place : ℕ) → ((k : ℕ) → slice_get rest k ≡ Some place → StandsAt e (suc first) jobs place)
    → (b : Bool) → same_end e (end_of j) ≡ b → slice_get (if b then first ∷ rest else rest) i ≡ Some place → StandsAt e first (j ∷ jobs) place
by_test e first j jobs rest i place behind true same at = by_turn e first j jobs rest i place behind same at
by_test e first j jobs rest i place behind false same at = further e first j jobs place (behind i at)

stands_at : (e : EndId) (first : ℕ) (jobs : List CoreJob) (i place : ℕ) → slice_get (places_of e first jobs) i ≡ Some place → StandsAt e first jobs place
stands_at e first [] i place at = absurd (cc)
stands_at e first (j ∷ jobs) i place at =
    by_test e first j jobs (places_of e (suc first) jobs) i place (λ k h. stands_at e (suc first) jobs k place h) (same_end e (end_of j)) refl at

-- so a job of an end's is done there
pub done_there : (jobs : List CoreJob) (e : EndId) (i place : ℕ) (j : CoreJob) → slice_get (places_of e 0 jobs) i ≡ Some place → slice_get jobs place ≡ Some j → e ≡ end_of j
done_there jobs e i place j at is =
    let x = stands_at e 0 jobs i place at in
    let places : place ≡ x.nth = (let eq = x.place_is in omega (arith, eq)) in
    let jobs_are : x.done ≡ j = same_value x.done j (sym x.there ∙ sym (ap (slice_get jobs) places) ∙ is) in
    one_end e (end_of x.done) x.same ∙ ap end_of jobs_are

-- ---- programs

program_there : (programs : List Program) (all : List TheProgram) (i k : ℕ) (source program : Program) → map program_of programs ≡ all → slice_get programs i ≡ Some source → i ≡ k
    → program_of program ≡ program_of source → slice_get all k ≡ Some (program_of program)
program_there programs all i k source program are at same copy =
    ap (slice_get all) (sym same) ∙ ap (λ (xs : List TheProgram). slice_get xs i) (sym are) ∙ map_there program_of programs i source at ∙ ap Some (sym copy)

-- ---- both sides

module _ (asked : List Job) (j : TheJoinedJobs) (cores : List OneCore) (names : List TheRegistration) (programs : List TheProgram) (joined : AreJoined (length cores) asked j)
    (staffed : AreStaffed j cores names programs) (n : ℕ) (c : OneCore) (is : slice_get cores n ≡ Some c) (seat : TheEndAtChannel) where
  server_home : (binding : ℕ) (b : BindingCores) → slice_get j.bindings binding ≡ Some b → IsServer j.jobs c binding seat → IsAtHome (server_of binding) b programs n seat
  server_home binding b bound x =
      let f = staffed.requests x.place x.request b x.job_is (ap (slice_get j.bindings) x.binding_is ∙ bound) in
      let found : by_iref x.request.opening.service.0 names ≡ Some x.registration = ap (by_iref x.request.opening.service.0) (sym (staffed.named n c is)) ∙ x.service in
      let same : x.registration ≡ f.registration = same_value x.registration f.registration (sym found ∙ f.service) in
      record {
        core_is = sym f.core_is ∙ ap (λ (r : TheRegistration). r.service.core.0) (sym same) ∙ x.core_is ∙ staffed.numbered n c is;
        program_is = program_there c.start.offers.programs programs x.registration.service.interface b.interface x.source seat.end.program (staffed.programmed n c is) x.source_is
            (ap (λ (r : TheRegistration). r.service.interface) same ∙ f.offered) x.same;
      }

  client_home : (binding d : ℕ) (b : BindingCores) → slice_get j.bindings binding ≡ Some b → IsOpenedBy j.jobs c.start c.log (client_of binding) seat.end.program d
      → IsAtHome (client_of binding) b programs n seat
  client_home binding d b bound x =
      let own = staffed.progresses n c x.opener x.progress x.turn x.place is x.progress_is x.place_is in
      let end_work : slice_get (places_of x.opener 0 j.jobs) own.turn ≡ Some x.place = ap (λ (xs : List ℕ). slice_get xs own.turn) (sym (joined.each x.opener).places) ∙ own.job_is in
      let opener : x.opener ≡ client_of binding = done_there j.jobs x.opener own.turn x.place (job.Open x.request) end_work x.job_is ∙ sym x.name_is in
      let bounds : own.bound ≡ b = same_value own.bound b (sym own.bound_is ∙ ap (λ (e : EndId). slice_get j.bindings e.binding) opener ∙ bound) in
      let bindings : x.request.opening.binding ≡ binding = sym (ap (λ (e : EndId). e.binding) x.name_is) in
      let f = staffed.requests x.place x.request b x.job_is (ap (slice_get j.bindings) bindings ∙ bound) in
      record {
        core_is = ap (core_of Client) (sym bounds) ∙ sym (ap (λ (e : EndId). core_of e.side own.bound) opener) ∙ own.core_is;
        program_is = program_there c.start.offers.programs programs x.request.interface b.interface x.source seat.end.program (staffed.programmed n c is) x.source_is f.interface x.same;
      }

pub ends_home : ServersAreRequested → ClientsAreRequested → EndsAreAtHome
ends_home servers clients asked j cores names programs joined staffed e b n c seat bound is made = by e.side e.binding bound made where
  by : (side : Side) (binding : ℕ) → slice_get j.bindings binding ≡ Some b → IsMade c (record { binding = binding; side = side }) seat
      → IsAtHome (record { binding = binding; side = side }) b programs n seat
  by Server binding at m =
      server_home asked j cores names programs joined staffed n c is seat binding b at (servers j.jobs cores staffed.beside n c is binding m.place seat m.absent m.place_is m.seat_is)
  by Client binding at m =
      let made = clients j.jobs c (staffed.beside.leading n c is) (staffed.beside.unused n c is) binding m.place seat m.absent m.place_is m.seat_is in
      client_home asked j cores names programs joined staffed n c is seat binding made.0 b at made.2
