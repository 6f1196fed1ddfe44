-- Cores of a run that a set-up made, with the jobs that were joined to them: what the laws of circuits ask of them.
use Rattle.std.proofs.Common.{◌≡◌, ◌⊎◌, inl, inr, refl, sym, ap, ◌∙◌, subst, ℕ, zero, suc, ◌+◌, ◌*◌, ◌<◌, ◌≤◌, ◌==◌, ◌&&◌, nat_lt, Bool, true, false, if◌then◌else◌, List, [], ◌∷◌, map, length, slice_get, Option, Some, None, arith}
use Rattle.std.specs.List.{flat_map, range_with_len}
use Rattle.std.proofs.lemmas.Bool.{cases_lt}
use Rattle.std.proofs.lemmas.Bool.Decides.{nat_tests}
use Rattle.std.proofs.lemmas.Option.{slice_get_within}
use Rattle.fl_base.specs.declared.identity.EndId.{EndId}
use Rattle.fl_base.specs.declared.identity.LinkId.{LinkId}
use Rattle.fl_base.specs.declared.identity.Side.{Side}
use Rattle.fl_base.specs.declared.identity.Side.TheVariants.{Client, Server}
use Rattle.fl_base.specs.Given.{given}
use Rattle.fl_base.specs.Numbered.{most_bindings}
use Rattle.fl_interface.specs.Interface.{TheInterface}
use Rattle.fl_compile.specs.declared.program.Program.{Program}
use Rattle.fl_compile.specs.Programs.{TheProgram, program_of}
use Rattle.fl_nameserv.specs.Registrations.{TheRegistration}
use Rattle.fl_ring.specs.SharedSides.{TheSide}
use Rattle.fl_core.proofs.BoardPlaces.{one_stands}
use Rattle.fl_model.specs.Runs.{same_end}
use Rattle.fl_core.specs.View.{TheCore, slot_of, place_of, side_of_link}
use Rattle.fl_core.proofs.Numbering.{goes_to}
use Rattle.fl_core.specs.declared.core_job.CoreJob.{CoreJob}
use Rattle.fl_core.specs.declared.core_job.CoreJob.TheVariants as job
use Rattle.fl_core.specs.declared.core_job.OpenRequest.{OpenRequest}
use Rattle.fl_core_run.specs.EndProgress.{TheEndProgress, progress_place}
use Rattle.fl_core_run.specs.Run.{TheRun}
use Rattle.fl_core_run_laws.specs.Made.{progress_of}
use Rattle.fl_core_run_laws.specs.Led.{LeadsAtFirst}
use Rattle.fl_world_refines.specs.declared.binding.Binding.{Binding}
use Rattle.fl_cores_jobs.specs.declared.end_work.BindingCores.{BindingCores}
use Rattle.fl_cores_jobs.specs.EndWork.{end_work_at, end_of, places_of}
use Rattle.fl_cores_jobs.specs.Fitting.{OpensTo, RuleFits, JobsFit}
use Rattle.fl_cores_jobs.specs.Joined.{core_of}
use Rattle.fl_cores_jobs.specs.Rules.{RulesOf}
use Rattle.fl_cores_jobs.specs.State.{TheJoinedJobs, AreJoined}
use Rattle.fl_cores_laws.specs.Asked.{IsForBinding}
use Rattle.fl_cores_laws.specs.Cores.{OneCore}
use Rattle.fl_cores_laws.specs.Meeting.{IsPaired}
use Rattle.fl_cores_laws.specs.Rules.{FitsInterface, RulesFit}
use Rattle.fl_cores_laws.specs.Runs.{HaveProgress, AreSetUp}
use Rattle.fl_cores_laws.specs.Whole.{HasOwn, HaveOwn}
use Rattle.fl_cores_parts.specs.Begins.{IsCoreThread, common_in, progress_by, progress_for, progresses_of, owns}
use Rattle.fl_cores.proofs.Runs.{is_there, core_thread_at}
use Rattle.fl_cores.proofs.RunsProgress.{at_slot, EndOf, slotted}
use Rattle.fl_cores.proofs.RunsLinked.{idle, leading, has_back}
use Rattle.fl_cores.proofs.SidesCross.{SideLaws}
use Rattle.fl_cores.proofs.StartBindings.{TheBeginning, IsBegun, parts_ready, made_of}
use Rattle.fl_cores.proofs.StartNumbers.{link_side_from}
use Rattle.fl_cores.proofs.StartRested.{was_at}

-- ---- ends' progress of no end

two_each : {X : Type 0} (f g : ℕ → X) (a n : ℕ) → length (flat_map (λ m. f m ∷ g m ∷ []) (range_with_len a n)) ≡ 2 * n
two_each f g a zero = refl
two_each f g a (suc n) = let rest = two_each f g (a + 1) n in omega (arith, rest)

slot_past : (n m : ℕ) (s : Side) → m ≤ n → 2 * m ≤ slot_of (EndOf n s)
slot_past n m Client past = omega (arith, past)
slot_past n m Server past = omega (arith, past)

no_place : (progresses : List TheEndProgress) (e : EndId) → length progresses ≤ slot_of e → given (progress_place progresses e) None (λ n. slice_get progresses n) ≡ None
no_place progresses e past =
    let away : nat_lt (slot_of e) (length progresses) ≡ false = grind (arith, nat_tests, past) in
    ap (λ (b : Bool). given (if nat_lt e.binding most_bindings then (if b then Some (slot_of e) else None) else None) None (λ n. slice_get progresses n)) away
    ∙ by (nat_lt e.binding most_bindings)
  where
    by : (b : Bool) → given (if b then (if false then Some (slot_of e) else None) else None) None (λ n. slice_get progresses n) ≡ None
    by true = refl
    by false = refl

-- ---- the ends' progress of a core

module _ (place : ℕ) (j : TheJoinedJobs) (few : length j.bindings ≤ 1024) (progresses : List TheEndProgress) (are : progresses ≡ progresses_of place j) where
  progress_past : (e : EndId) → length j.bindings ≤ e.binding → given (progress_place progresses e) None (λ n. slice_get progresses n) ≡ None
  progress_past e past =
      let many : length (progresses_of place j) ≡ 2 * length j.bindings =
      two_each (λ n. progress_for place j (EndOf n Client)) (λ n. progress_for place j (EndOf n Server)) 0 (length j.bindings) in
      let slot : 2 * length j.bindings ≤ slot_of e = slot_past e.binding (length j.bindings) e.side past in
      let same = ap (λ (ds : List TheEndProgress). length ds) are in
      no_place progresses e (omega (arith, many, slot, same))

  progress_there : (e : EndId) → e.binding < length j.bindings → given (progress_place progresses e) None (λ n. slice_get progresses n) ≡ Some (progress_for place j e)
  progress_there e below =
      at_slot progresses e (omega (arith, below, few)) (λ o. o) None refl
      ∙ ap (λ (ds : List TheEndProgress). slice_get ds (slot_of e)) are
      ∙ slotted place j e.binding e.side below

  own_by : (e : EndId) (x : BindingCores) (b : Bool) → slice_get j.bindings e.binding ≡ Some x → (core_of e.side x == place) ≡ b
      → ((progress_by b (end_work_at j.end_works e)).jobs ≡ []) ⊎ HasOwn j place e (progress_by b (end_work_at j.end_works e)).jobs
  own_by e x false is at = inl refl
  own_by e x true is at = inr (record { jobs_are = refl; bound = x; bound_is = is; core_is = grind (arith, nat_tests, at) })

  -- has its own jobs, or none
  pub own_progress : (e : EndId) (progress : TheEndProgress) → given (progress_place progresses e) None (λ n. slice_get progresses n) ≡ Some progress
      → (progress.jobs ≡ []) ⊎ HasOwn j place e progress.jobs
  own_progress e progress is = elim (cases_lt e.binding (length j.bindings)) [
    | inl below ↦
        let (x, x_is) = is_there j.bindings e.binding below in
        let both : Some (progress_for place j e) ≡ Some progress = sym (progress_there e below) ∙ is in
        let same : progress_for place j e ≡ progress = cc in
        let test : owns place j.bindings e ≡ (core_of e.side x == place) =
        ap (λ (o : Option BindingCores). given (given o None (λ y. Some (core_of e.side y))) false (λ c. c == place)) x_is in
        subst (λ (d : TheEndProgress). (d.jobs ≡ []) ⊎ HasOwn j place e d.jobs) same
        (subst (λ (b : Bool). ((progress_by b (end_work_at j.end_works e)).jobs ≡ []) ⊎ HasOwn j place e (progress_by b (end_work_at j.end_works e)).jobs) (sym test)
        (own_by e x (core_of e.side x == place) x_is refl))
    | inr past ↦ let both : None ≡ Some progress = sym (progress_past e past) ∙ is in absurd (cc)
  ]

-- ---- rules of an end's work

module _ (i : TheInterface) (e : EndId) (all : List CoreJob)
    (fits : (n : ℕ) (x : CoreJob) → slice_get all n ≡ Some x → same_end e (end_of x) ≡ true → FitsInterface i (Some x)) where
  one_fits : (x : CoreJob) (n : ℕ) (ns : List ℕ) (b : Bool) → same_end e (end_of x) ≡ b → slice_get all n ≡ Some x → RulesFit i all ns
      → RulesFit i all (if b then n ∷ ns else ns)
  one_fits x n ns false same at rest = rest
  one_fits x n ns true same at rest = (subst (FitsInterface i) (sym at) (fits n x at same), rest)

  all_fit : (n : ℕ) (jobs : List CoreJob) → ((k : ℕ) (x : CoreJob) → slice_get jobs k ≡ Some x → slice_get all (n + k) ≡ Some x) → RulesFit i all (places_of e n jobs)
  all_fit n [] at = tt
  all_fit n (x ∷ jobs) at =
      let here : n + 0 ≡ n = omega arith in
      one_fits x n (places_of e (suc n) jobs) (same_end e (end_of x)) refl (subst (λ (m : ℕ). slice_get all m ≡ Some x) here (at 0 x refl))
      (all_fit (suc n) jobs
      (λ k y is. let next : n + suc k ≡ suc n + k = omega arith in subst (λ (m : ℕ). slice_get all m ≡ Some y) next (at (suc k) y is)))

  pub its_rules_fit : RulesFit i all (places_of e 0 all)
  its_rules_fit = all_fit 0 all (λ k x is. let same : k ≡ 0 + k = omega arith in subst (λ (m : ℕ). slice_get all m ≡ Some x) same is)

left_true : (a b : Bool) → (a && b) ≡ true → a ≡ true
left_true true b h = refl
left_true false b h = absurd (cc)

one_binding : (n m : ℕ) (b : Bool) → ((n == m) && b) ≡ true → n ≡ m
one_binding n m b same = let test : (n == m) ≡ true = left_true (n == m) b same in grind (arith, nat_tests, test)

-- a rule at an end of a binding fits the interface of the binding
module _ (names : List TheRegistration) (programs : List Program) (j : TheJoinedJobs) (fit : JobsFit names programs j) (e : EndId) (x : BindingCores)
    (x_is : slice_get j.bindings e.binding ≡ Some x) (p : TheProgram) (p_is : slice_get (map program_of programs) x.interface ≡ Some p) where
  its_interface : (f : EndId) (msg answer : ℕ) → f.binding ≡ e.binding → (it : RuleFits programs j.bindings f msg answer)
      → (program_of it.program).interface ≡ p.interface
  its_interface f msg answer same it =
      let bound : it.bound ≡ x = one_stands j.bindings e.binding it.bound x (ap (slice_get j.bindings) (sym same) ∙ it.bound_is) x_is in
      let there : slice_get (map program_of programs) x.interface ≡ Some (program_of it.program) =
      goes_to program_of programs x.interface it.program (ap (λ (y : BindingCores). slice_get programs y.interface) (sym bound) ∙ it.program_is) in
      ap (λ (q : TheProgram). q.interface) (one_stands (map program_of programs) x.interface (program_of it.program) p there p_is)

  fits_one : (n : ℕ) (y : CoreJob) → slice_get j.jobs n ≡ Some y → same_end e (end_of y) ≡ true → FitsInterface p.interface (Some y)
  fits_one n (job.Open w) at same = tt
  fits_one n (job.Call f call) at same = tt
  fits_one n (job.Reply f msg answer) at same =
      let it : RuleFits programs j.bindings f msg.0 answer.0 = fit n (job.Reply f msg answer) at in
      let one : e.binding ≡ f.binding = one_binding e.binding f.binding _ same in
      let i = its_interface f msg.0 answer.0 (sym one) it in
      subst (λ (k : TheInterface). FitsInterface k (Some (job.Reply f msg answer))) i (it.alike.message, it.alike.reply, it.alike.same)

  pub end_work_fits : RulesFit p.interface j.jobs (places_of e 0 j.jobs)
  end_work_fits = its_rules_fit p.interface e j.jobs fits_one

-- a request is for a service of its binding
pub is_for_binding : (names : List TheRegistration) (programs : List Program) (j : TheJoinedJobs) → JobsFit names programs j
    → (k : ℕ) (w : OpenRequest) (x : BindingCores) → slice_get j.jobs k ≡ Some (job.Open w) → slice_get j.bindings w.opening.binding ≡ Some x → IsForBinding names w x
is_for_binding names programs j fit k w x at x_is =
    let it : OpensTo names j.bindings w = fit k (job.Open w) at in
    let same : it.bound ≡ x = one_stands j.bindings w.opening.binding it.bound x it.bound_is x_is in
    record {
      interface = it.interface_is ∙ ap (λ (y : BindingCores). y.interface) same;
      registration = it.offered.registration;
      service = it.offered.registered;
      core_is = it.offered.core_is ∙ ap (λ (y : BindingCores). y.server) same;
      offered = it.offered.interface_is ∙ ap (λ (y : BindingCores). y.interface) same;
    }

-- ---- the cores of a run

module _ (b : TheBeginning) (h : IsBegun b) (fit : JobsFit b.made.names b.made.programs.items b.joined) where
  of_them : RulesOf b.made.bindings.items b.asked b.world.cores b.parts.cores.items
  of_them = subst (λ (ks : List TheCore). RulesOf b.made.bindings.items b.asked ks b.parts.cores.items) h.made.cores h.rules

  its_core_thread : (n : ℕ) (c : OneCore) (c_is : slice_get b.cores n ≡ Some c) → (k : TheCore) × IsCoreThread (common_in b.parts b.joined b.places) n k (made_of b h n c c_is).core_thread
  its_core_thread n c c_is =
      let m = made_of b h n c c_is in
      let s = core_thread_at (common_in b.parts b.joined b.places) b.parts.cores.items b.core_threads h.core_threads n m.core_thread m.core_thread_is in (s.core, s.is)

  numbered : (n : ℕ) (c : OneCore) → slice_get b.cores n ≡ Some c → c.start.core.monitor.circuits.core ≡ n
  numbered n c c_is =
      let m = made_of b h n c c_is in
      ap (λ (k : TheCore). k.monitor.circuits.core) m.numbers ∙ (parts_ready b h).numbers n m.core m.core_is

  named : (n : ℕ) (c : OneCore) → slice_get b.cores n ≡ Some c → c.start.offers.names ≡ b.made.names
  named n c c_is =
      let m = made_of b h n c c_is in
      let (k, is) = its_core_thread n c c_is in
      ap (λ (t : TheRun TheSide). t.offers.names) m.start ∙ is.names ∙ h.beside.names

  programmed : (n : ℕ) (c : OneCore) → slice_get b.cores n ≡ Some c → map program_of c.start.offers.programs ≡ map program_of b.made.programs.items
  programmed n c c_is =
      let m = made_of b h n c c_is in
      let (k, is) = its_core_thread n c c_is in
      ap (λ (t : TheRun TheSide). map program_of t.offers.programs) m.start ∙ is.programs ∙ ap (map program_of) h.beside.programs

  own : HaveOwn b.joined b.cores
  own n c e progress c_is progress_is =
      let m = made_of b h n c c_is in
      let (k, is) = its_core_thread n c c_is in
      own_progress n b.joined h.joined.bindings.few m.core_thread.run.progresses is.progresses e progress (ap (λ (t : TheRun TheSide). progress_of t e) (sym m.start) ∙ progress_is)

  -- an end of a binding that a job opens isn't there
  absent : (n : ℕ) (c : OneCore) (e : EndId) (x : BindingCores) (number : ℕ) → slice_get b.cores n ≡ Some c → slice_get b.joined.bindings e.binding ≡ Some x
      → x.opened ≡ Some number → place_of c.start.core e ≡ None
  absent n c e x number c_is x_is opened = by (place_of c.start.core e) refl
    where
      by : (o : Option ℕ) → place_of c.start.core e ≡ o → place_of c.start.core e ≡ None
      by None is = is
      by (Some place) is =
          let m = made_of b h n c c_is in
          let was = was_at b.made.bindings.items b.asked b.world.cores b.parts.cores.items of_them n m.core m.core_is in
          let there : place_of m.core e ≡ Some place = ap (λ (k : TheCore). place_of k e) (sym m.numbers) ∙ is in
          let before : place_of was.core e ≡ Some place = ap (λ (k : TheCore). place_of k e) (sym was.rests.same) ∙ there in
          let (z, z_is, home) = h.fresh.bindings n place was.core e was.core_is before in
          let within = slice_get_within b.world.bindings e.binding z z_is in
          let many = ap (λ (bs : List Binding). length bs) h.made.bindings in
          let none = h.bound.unopened e.binding x x_is (omega (arith, within, many)) in
          absurd (cc (none, opened))

  links : SideLaws → (n side : ℕ) (d : OneCore) (m : LinkId) → slice_get b.cores n ≡ Some d → side_of_link d.start.core.link_sides m.0 ≡ Some side
      → IsPaired b.cores n d m
  links l n side d m d_is link_side =
      let md = made_of b h n d d_is in
      let (a, a_is, to) = link_side_from b.places.sides md.core.link_sides m.0 side (ap (λ (k : TheCore). side_of_link k.link_sides m.0) (sym md.numbers) ∙ link_side) in
      let x = has_back b h l n a d m d_is a_is in
      record {
        across = x.beyond;
        back = record { link = x.link; link_is = x.link_is; neighbour = x.neighbour };
        forth = record { link = x.state; link_is = x.state_is; neighbour = x.towards };
      }

  pub are_set_up : SideLaws → LeadsAtFirst → AreJoined (length b.cores) b.asked b.joined → HaveProgress b.joined b.cores
      → AreSetUp b.asked b.joined b.cores b.made.names (map program_of b.made.programs.items)
  are_set_up l first joined progresses = record {
    joined = joined;
    wired = record { leading = leading b h first; unused = idle b h; links = links l };
    numbered = numbered;
    named = named;
    programmed = programmed;
    progresses = progresses;
    own = own;
    requests = is_for_binding b.made.names b.made.programs.items b.joined fit;
    absent = absent;
    fit = λ e x number p x_is opened p_is.
        subst (RulesFit p.interface b.joined.jobs) (sym (joined.each e).places)
        (end_work_fits b.made.names b.made.programs.items b.joined fit e x x_is p p_is);
  }
