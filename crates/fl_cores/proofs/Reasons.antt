-- A binding is told as refused for a reason alone: what stands at its client's end's progress is what the laws over cores say.
use Rattle.std.proofs.Common.{◌≡◌, inl, inr, refl, sym, ap, ◌∙◌, subst, ℕ, zero, suc, ◌+◌, ◌<◌, ◌≤◌, ◌==◌, true, List, [], ◌∷◌, map, length, slice_get, Option, Some, None, IsSome, arith}
use Rattle.std.proofs.lemmas.List.{length-map}
use Rattle.std.proofs.lemmas.Option.{same_Some}
use Rattle.std.specs.List.{AllZip}
use Rattle.fl_base.specs.declared.identity.CoreId.{CoreId}
use Rattle.fl_base.specs.Given.{given}
use Rattle.fl_compile.specs.Programs.{program_of}
use Rattle.fl_ring.specs.SharedSides.{TheSide}
use Rattle.fl_nameserv.specs.declared.registration.Service.{Service as Offer}
use Rattle.fl_nameserv.specs.Registrations.{TheRegistration, by_iref}
use Rattle.fl_hop.specs.declared.links.LinkState.{LinkState}
use Rattle.fl_hop.specs.Table.{TheCircuits, link_of}
use Rattle.fl_monitor.specs.declared.opening.Opening.{Opening}
use Rattle.fl_monitor.specs.Routing.{all_differ}
use Rattle.fl_core.specs.Hearing.{Offers}
use Rattle.fl_core.specs.View.{TheCore, client_of}
use Rattle.fl_core.specs.declared.core_job.CoreJob.{CoreJob}
use Rattle.fl_core.specs.declared.core_job.OpenRequest.{OpenRequest}
use Rattle.fl_core_run.specs.LogEntries.{LogEntry}
use Rattle.fl_core_run.specs.Ran.{task, moment}
use Rattle.fl_core_run.specs.Run.{TheRun}
use Rattle.fl_core_run_laws.specs.Led.{LeadsAtFirst}
use Rattle.fl_core_run_laws.specs.Logs.{Goes}
use Rattle.fl_model.specs.Events.{DispatcherId}
use Rattle.fl_model.specs.Making.{has_link}
use Rattle.fl_model.specs.Monitors.{Core}
use Rattle.fl_model.specs.State.{core_of}
use Rattle.fl_world_refines.specs.CoreLaws.{NamesAreShown}
use Rattle.fl_world_refines.specs.Ends.{planned_of}
use Rattle.fl_world.specs.Booting.{TheConfig}
use Rattle.fl_cores_file.specs.Jobs.{Job}
use Rattle.fl_cores_file.specs.Report.{TheReport, refusal_of}
use Rattle.fl_cores_jobs.specs.declared.end_work.BindingCores.{BindingCores}
use Rattle.fl_cores_jobs.specs.State.{TheJoinedJobs}
use Rattle.fl_core_refines.specs.SetUpStart.{SetUpsStartFresh}
use Rattle.fl_cores_laws.specs.Cores.{shared_ways, OneCore, AreAmple, AllAmple, CoresGoAmply}
use Rattle.fl_cores_laws.specs.Reasons.{LeadsNowhere, IsUsedUp as UsedUp, HasNoPlace, Refuses, RefusesRequest, FoundNoPlace, WasFull, RefusesOne, IsRefused, ProgressTellReasons, RefusedForReason}
use Rattle.fl_cores_laws.specs.Runs.{AreSetUp}
use Rattle.fl_cores_laws.specs.Sitting.{EndsSit}
use Rattle.fl_cores_laws.specs.EndedBegins.{Ran}
use Rattle.fl_cores_laws.proofs.Few.{settles}
use Rattle.fl_cores_fork.specs.Runs.{TheFinishedCore, TheCoreThread, RanTo}
use Rattle.fl_cores.specs.Promised.{Reports}
use Rattle.fl_cores.specs.Behind.{joined_in, cores_in}
use Rattle.fl_cores.specs.Outcomes.{ReportsAreOfRuns}
use Rattle.fl_cores.specs.Reasons.{IsUnlinked, IsUsedUp, IsSpent, SitsAt, IsFull, IsServiceFull, IsCrowded, HasReason, RefusalsHaveReasons}
use Rattle.fl_cores.specs.Runs.{AreRuns}
use Rattle.fl_cores.specs.Wanted.{behind, IsWanted}
use Rattle.fl_cores.proofs.Opener.{shown, Opener, opener, asked_at, service_at}
use Rattle.fl_cores.proofs.Refusing.{refused_at}
use Rattle.fl_cores.proofs.ReasonsFull.{ends_of, still_many, own_service, lacks_what, no_place_why}
use Rattle.fl_cores.proofs.ReasonsSetUp.{stands_on, starts_as, made_as, as_many_dispatchers, no_link, its_core}
use Rattle.fl_cores.proofs.Runs.{is_there, run_at}
use Rattle.fl_cores.proofs.SidesCross.{SideLaws}
use Rattle.fl_cores.proofs.StartBindings.{TheBeginning, IsBegun}
use Rattle.fl_cores.proofs.Twins.{twin}
use Rattle.fl_cores.proofs.WantedEnds.{same_dispatcher, at_core, sits_wanted}
use Rattle.fl_cores.proofs.Whole.{beginning, begun, set_up}
use Rattle.fl_cores.proofs.Requests.{step_of, MayGo, may_go, position_below, some_below, IsService}

-- ---- logs in which memory was never wanted for an opening

ample_then : (c : OneCore) (cores : List OneCore) → AreAmple c.log → AllAmple cores → AllAmple (c ∷ cores)
ample_then c cores one all zero d at = let same : c ≡ d = same_Some c d at in subst (λ (x : OneCore). AreAmple x.log) same one
ample_then c cores one all (suc n) d at = all n d at

none_lacks : AllAmple []
none_lacks n d at = absurd (cc)

-- where each core ran to its outcome, there is such a log of each
pub ample_runs : CoresGoAmply → (jobs : List CoreJob) (limit : ℕ) (core_threads : List TheCoreThread) (outcomes : List TheFinishedCore) → AllZip (RanTo jobs limit) core_threads outcomes
    → (cores : List OneCore) × AreRuns jobs core_threads outcomes cores × AllAmple cores
ample_runs go jobs limit [] [] ran = ([], tt, none_lacks)
ample_runs go jobs limit [] (o ∷ outcomes) ran = absurd ran
ample_runs go jobs limit (s ∷ core_threads) [] ran = absurd ran
ample_runs go jobs limit (s ∷ core_threads) (o ∷ outcomes) ran =
    let (log, goes, ample) = go (task s.plan jobs limit) (moment s.run s.run_seat) (moment o.run o.run_seat) o.part ran.0 in
    let c : OneCore = record { start = s.run; log = log; finish = o.run } in
    let (cores, are, all) = ample_runs go jobs limit core_threads outcomes ran.1 in
    (c ∷ cores, (record { start = refl; finish = refl; goes = goes }, are), ample_then c cores ample all)

-- ---- a report

module _ (names_agree : NamesAreShown) (fresh : SetUpsStartFresh) (tell : ProgressTellReasons) (for_reason : RefusedForReason) (sit : EndsSit) (runs : ReportsAreOfRuns) (c : TheConfig) (asked : List Job) (limit : ℕ) (r : TheReport) (x : Reports c asked limit r) (cores : List OneCore)
    (are : AreRuns x.ran.ran.joined.jobs x.ran.ran.ran.core_threads x.ran.ran.ran.outcomes cores) (ample : AllAmple cores)
    (set : AreSetUp asked x.ran.ran.joined cores x.ran.parts.names (map program_of x.ran.parts.programs.items)) where
  abbrev j : TheJoinedJobs
  j = x.ran.ran.joined

  ran : Ran asked (joined_in x) limit (cores_in x) r
  ran = runs c asked limit r x

  -- ---- what was asked for

  abbrev all : TheBeginning
  all = beginning fresh c asked limit r x cores are

  begins : IsBegun all
  begins = begun fresh c asked limit r x cores are

  -- its route may be asked for, by the table with which its core began
  goes_on : (n : ℕ) (b : BindingCores) (w : OpenRequest) → Opener x n b w → (two : OneCore) → slice_get cores b.client ≡ Some two
      → MayGo two.start.core.monitor.circuits w.opening.path w.link.0
  goes_on n b w o two two_is =
      let at = o.is.asks.begins in
      let (k, k_is) = its_core all begins (behind c) (shown x) b.client two two_is in
      let there : slice_get x.ran.made.world.cores b.client ≡ Some at.core =
      ap (λ (ks : List TheCore). slice_get ks b.client) (sym x.ran.made.parts.cores) ∙ ap (slice_get x.ran.parts.cores.items) (sym o.client) ∙ at.core_is in
      subst (λ (t : TheCircuits). MayGo t w.opening.path w.link.0) (sym (made_as all begins (behind c) (shown x) b.client two two_is k k_is at.core there))
      (may_go at.core.monitor.circuits w.opening.path o.is.bound.server (length x.ran.parts.cores.items) w.link.0 at.begins)

  apart_on : (n : ℕ) (b : BindingCores) (w : OpenRequest) → Opener x n b w → all_differ w.opening.path ≡ true
  apart_on n b w o =
      let at = o.is.asks.begins in
      (may_go at.core.monitor.circuits w.opening.path o.is.bound.server (length x.ran.parts.cores.items) w.link.0 at.begins).apart

  -- ---- no link

  -- a core to which the route leads from one of the cores, and to which that has no link
  gap : (n : ℕ) (b : BindingCores) (w : OpenRequest) → Opener x n b w → (i : ℕ) (one : OneCore) → slice_get cores i ≡ Some one
      → LeadsNowhere one.start.core.monitor.circuits w.opening.path → IsUnlinked c asked n
  gap n b w o i one one_is lost = elim lost.none [
    | inl none ↦
        (let s = stands_on w.opening.path one.start.core.monitor.circuits.core lost.next lost.next_is in
        let number : s.here.0 ≡ i = s.same ∙ set.numbered i one one_is in
        record {
          asked = asked_at x n b w o;
          step = step_of w.opening.path o.is.request.route o.is.asks.route s.place s.here lost.next s.here_is s.next_is;
          none = ap (λ (m : ℕ). has_link m lost.next.0 (behind c)) number ∙ no_link all begins (behind c) (shown x) i one one_is lost.next.0 none;
        })
    | inr twice ↦ absurd (let once = apart_on n b w o in cc (once, twice))
  ]

  -- its own core has the link on which it begins
  begins_there : (t : TheCircuits) (path : List CoreId) (link : ℕ) → MayGo t path link → slice_get t.links link ≡ None → ⊥
  begins_there t path link go none =
      let below = position_below (λ (l : LinkState). l.neighbour.0 == go.next.0) t.links link go.link_is in
      let (l, l_is) = is_there t.links link below in
      let clash : Some l ≡ None = sym l_is ∙ none in absurd (cc)

  unlinked_own : (n : ℕ) (b : BindingCores) (w : OpenRequest) → Opener x n b w → (two : OneCore) → slice_get cores b.client ≡ Some two
      → RefusesRequest (WasFull j.jobs two.finish) two.start.core.monitor.circuits two.finish.core.monitor.circuits w 73 → IsUnlinked c asked n
  unlinked_own n b w o two two_is (inl full) = absurd (let is = full.0 in omega (arith, is))
  unlinked_own n b w o two two_is (inr (inl lost)) =
      absurd (begins_there two.start.core.monitor.circuits w.opening.path w.link.0 (goes_on n b w o two two_is) lost.1)
  unlinked_own n b w o two two_is (inr (inr used)) = absurd (let is = used.0 in omega (arith, is))

  unlinked_other : (n : ℕ) (b : BindingCores) (w : OpenRequest) → Opener x n b w → (y : RefusesOne j.jobs cores w.opening 73)
      → Refuses y.core.start.offers.names (FoundNoPlace j.jobs y.core) y.core.start.core.monitor.circuits y.core.finish.core.monitor.circuits w.opening 73
      → IsUnlinked c asked n
  unlinked_other n b w o y (inl full) = absurd (let is = full.0 in omega (arith, is))
  unlinked_other n b w o y (inr (inl lost)) = gap n b w o y.place y.core y.core_is lost.1
  unlinked_other n b w o y (inr (inr used)) = absurd (let is = used.0 in omega (arith, is))

  unlinked_by : (n : ℕ) (b : BindingCores) → slice_get j.bindings n ≡ Some b → (one : OneCore) → slice_get cores b.client ≡ Some one
      → IsRefused j.jobs cores one (client_of n) 73 → IsUnlinked c asked n
  unlinked_by n b bound one one_is y =
      let o = opener x n b bound y.place y.request y.job_is y.end_is in
      elim y.why [
        | inl own ↦ unlinked_own n b y.request o one one_is own
        | inr other ↦ unlinked_other n b y.request o other other.why
      ]

  -- ---- numbers that are used up

  -- a core gave all its numbers on a link
  used_at : (i : ℕ) (two : OneCore) → slice_get cores i ≡ Some two → (l : ℕ) → UsedUp two.finish.core.monitor.circuits l → IsUsedUp x i l
  used_at i two two_is l used =
      let t = twin x cores are i two two_is in
      record { core = t.one; core_is = t.one_is; used_up = subst (λ (s : TheRun TheSide). UsedUp s.core.monitor.circuits l) t.finish used }

  -- one that the route leads on from it
  over : (n : ℕ) (b : BindingCores) (w : OpenRequest) → Opener x n b w → (i : ℕ) (two : OneCore) → slice_get cores i ≡ Some two → (place : ℕ) (here next : CoreId)
      → slice_get w.opening.path place ≡ Some here → slice_get w.opening.path (place + 1) ≡ Some next → here.0 ≡ i → (link : ℕ)
      → link_of two.start.core.monitor.circuits next.0 ≡ Some link → UsedUp two.finish.core.monitor.circuits link → IsSpent x n
  over n b w o i two two_is place here next here_is next_is number link link_is used =
      let (k, k_is) = its_core all begins (behind c) (shown x) i two two_is in
      let table = starts_as all begins (behind c) (shown x) i two two_is k k_is in
      record {
        asked = asked_at x n b w o;
        step = step_of w.opening.path o.is.request.route o.is.asks.route place here next here_is next_is;
        core = k;
        core_is = ap (core_of (behind c)) number ∙ k_is;
        link = link;
        link_is = ap (λ (t : TheCircuits). link_of t next.0) (sym table) ∙ link_is;
        used_up = subst (λ (m : ℕ). IsUsedUp x m link) (sym number) (used_at i two two_is link used);
      }

  spent_own : (n : ℕ) (b : BindingCores) (w : OpenRequest) → Opener x n b w → (two : OneCore) → slice_get cores b.client ≡ Some two
      → RefusesRequest (WasFull j.jobs two.finish) two.start.core.monitor.circuits two.finish.core.monitor.circuits w 74 → IsSpent x n
  spent_own n b w o two two_is (inl full) = absurd (let is = full.0 in omega (arith, is))
  spent_own n b w o two two_is (inr (inl lost)) = absurd (let is = lost.0 in omega (arith, is))
  spent_own n b w o two two_is (inr (inr used)) =
      let go = goes_on n b w o two two_is in
      over n b w o b.client two two_is 0 go.here go.next go.here_is go.next_is (go.same ∙ set.numbered b.client two two_is) w.link.0 go.link_is used.1

  spent_other : (n : ℕ) (b : BindingCores) (w : OpenRequest) → Opener x n b w → (y : RefusesOne j.jobs cores w.opening 74)
      → Refuses y.core.start.offers.names (FoundNoPlace j.jobs y.core) y.core.start.core.monitor.circuits y.core.finish.core.monitor.circuits w.opening 74
      → IsSpent x n
  spent_other n b w o y (inl full) = absurd (let is = full.0 in omega (arith, is))
  spent_other n b w o y (inr (inl lost)) = absurd (let is = lost.0 in omega (arith, is))
  spent_other n b w o y (inr (inr used)) =
      let s = stands_on w.opening.path y.core.start.core.monitor.circuits.core used.1.next used.1.next_is in
      over n b w o y.place y.core y.core_is s.place s.here used.1.next s.here_is s.next_is (s.same ∙ set.numbered y.place y.core y.core_is)
      used.1.link used.1.link_is used.1.used_up

  spent_by : (n : ℕ) (b : BindingCores) → slice_get j.bindings n ≡ Some b → (one : OneCore) → slice_get cores b.client ≡ Some one
      → IsRefused j.jobs cores one (client_of n) 74 → IsSpent x n
  spent_by n b bound one one_is y =
      let o = opener x n b bound y.place y.request y.job_is y.end_is in
      elim y.why [
        | inl own ↦ spent_own n b y.request o one one_is own
        | inr other ↦ spent_other n b y.request o other other.why
      ]

  -- ---- places that are taken

  -- where a dispatcher was full, the ends that were there are wanted there, and sit there as the core ended
  full_at : (i : ℕ) (two : OneCore) → slice_get cores i ≡ Some two → (d : ℕ) → WasFull j.jobs two.finish d → IsFull x (at_core i d)
  full_at i two two_is d f =
      let t = twin x cores are i two two_is in
      let k = f.moment.core in
      let its = ends_of k f.sound d f.dispatcher f.dispatcher_is f.full in
      let still = λ (m : ℕ) (below : m < 1024). (let y = its.named m below in
      settles j.jobs f.log f.moment two.finish f.goes (its.ends m) y.place y.seat y.place_is y.seat_is) in
      record {
        core = t.one;
        core_is = t.one_is;
        ends = its.ends;
        apart = its.apart;
        wanted = λ m below.
            (let (after, at, there, same) = still m below in
            let y = its.named m below in
            subst (λ (n : ℕ). IsWanted c asked (at_core i n) (its.ends m)) (same ∙ y.dispatcher_is)
            (sits_wanted names_agree fresh sit x cores are set i two two_is (its.ends m) y.place after at there));
        sits = λ m below.
            (let (after, at, there, same) = still m below in
            let y = its.named m below in
            subst (λ (u : TheRun TheSide). SitsAt u.core d (its.ends m)) t.finish
            (record { place = y.place; place_is = at; seat = after; seat_is = there; dispatcher_is = same ∙ y.dispatcher_is }));
      }

  -- the dispatcher of a service is there whenever its core looks for a place, and so is its program
  dispatcher_there : (i : ℕ) (two : OneCore) → slice_get cores i ≡ Some two → (f : TheRun TheSide) (log : List LogEntry) → Goes shared_ways j.jobs f log two.finish
      → (k : Core) → core_of (behind c) i ≡ Some k → (d : ℕ) → d < length k.dispatchers → slice_get f.core.board.dispatchers d ≡ None → ⊥
  dispatcher_there i two two_is f log goes k k_is d below none =
      let run = run_at j.jobs x.ran.ran.ran.core_threads x.ran.ran.ran.outcomes cores are i two two_is in
      let first = as_many_dispatchers all begins (behind c) (shown x) i two two_is k k_is in
      let later = still_many j.jobs two.log two.start two.finish run.is.goes in
      let last = still_many j.jobs log f two.finish goes in
      let (y, y_is) = is_there f.core.board.dispatchers d (omega (arith, below, first, later, last)) in
      let clash : Some y ≡ None = sym y_is ∙ none in absurd (cc)

  program_there : (i : ℕ) (two : OneCore) → slice_get cores i ≡ Some two → (offers : Offers) → offers ≡ two.start.offers → (n : ℕ) → n < length (behind c).interfaces
      → length offers.programs ≤ n → ⊥
  program_there i two two_is offers same n below past =
      let first : length offers.programs ≡ length two.start.offers.programs = ap (λ (o : Offers). length o.programs) same in
      let one = length-map two.start.offers.programs program_of in
      let two_of = length-map x.ran.parts.programs.items program_of in
      let both = ap length (set.programmed i two two_is) in
      let made = ap length x.ran.made.parts.programs in
      let drawn = length-map x.ran.made.world.programs planned_of in
      let all_of = ap length (shown x).showing.programs in
      absurd (omega (arith, first, one, two_of, both, made, drawn, all_of, below, past))

  -- a service's own core found no place for it: its dispatcher is full
  service_full : (i : ℕ) (two : OneCore) → slice_get cores i ≡ Some two → (o : Opening) (g : TheRegistration) → by_iref o.service.0 x.ran.parts.names ≡ Some g
      → (name : List ℕ) → IsService (behind c).services name g → HasNoPlace two.start.offers.names (FoundNoPlace j.jobs two) two.start.core.monitor.circuits o
      → IsServiceFull x name
  service_full i two two_is o g g_is name s h =
      let f = h.none in
      let found : by_iref o.service.0 two.start.offers.names ≡ Some g = ap (by_iref o.service.0) (set.named i two two_is) ∙ g_is in
      let at_home : g.service.core.0 ≡ two.start.core.monitor.circuits.core = own_service two.start.offers.names two.start.core.monitor.circuits.core o.service.0 g found h.own in
      let number : g.service.core.0 ≡ i = at_home ∙ set.numbered i two two_is in
      let there : by_iref o.service.0 f.moment.offers.names ≡ Some g = ap (λ (y : Offers). by_iref o.service.0 y.names) f.offers ∙ found in
      let (k, k_is) = its_core all begins (behind c) (shown x) i two two_is in
      let core_is : s.service.dispatcher.core ≡ i = sym (ap (λ (y : Offer). y.core.0) s.offer) ∙ number in
      let place_is : g.service.dispatcher ≡ s.service.dispatcher.place = ap (λ (y : Offer). y.dispatcher) s.offer in
      let interface_is : g.service.interface ≡ s.service.interface = ap (λ (y : Offer). y.interface) s.offer in
      let stands = (shown x).sound.services s.place s.service s.service_is in
      let k_there : core_of (behind c) s.service.dispatcher.core ≡ Some k = ap (core_of (behind c)) core_is ∙ k_is in
      let below : s.service.dispatcher.place < length k.dispatchers =
      some_below k.dispatchers s.service.dispatcher.place
      (subst (λ (q : Option Core). IsSome (given q None λ y. slice_get y.dispatchers s.service.dispatcher.place)) k_there stands.0) in
      let full : IsFull x (at_core i g.service.dispatcher) = elim (lacks_what f.moment.offers f.moment.core o.service.0 g there (at_home ∙ sym f.number) f.none) [
        | inl full ↦ elim (no_place_why f.moment.core.board f.sound.board g.service.dispatcher full) [
          | inl none ↦ absurd (dispatcher_there i two two_is f.moment f.log f.goes k k_is g.service.dispatcher (omega (arith, below, place_is)) none)
          | inr taken ↦ full_at i two two_is g.service.dispatcher (record {
            moment = f.moment;
            log = f.log;
            goes = f.goes;
            sound = f.sound;
            dispatcher = taken.0;
            dispatcher_is = taken.1;
            full = taken.2;
          })
        ]
        | inr past ↦ absurd (program_there i two two_is f.moment.offers f.offers g.service.interface
            (let known = some_below (behind c).interfaces s.service.interface stands.1 in omega (arith, known, interface_is)) past)
      ] in
      record {
        dispatcher = s.service.dispatcher;
        exported = record { place = s.place; place_is = s.place_is; service = s.service; service_is = s.service_is; dispatcher = refl };
        full = subst (λ (d : DispatcherId). IsFull x d)
            (sym (same_dispatcher s.service.dispatcher (at_core i g.service.dispatcher) core_is (sym place_is))) full;
      }

  crowded_own : (n : ℕ) (b : BindingCores) (w : OpenRequest) → Opener x n b w → (two : OneCore) → slice_get cores b.client ≡ Some two
      → RefusesRequest (WasFull j.jobs two.finish) two.start.core.monitor.circuits two.finish.core.monitor.circuits w 54 → IsCrowded x n
  crowded_own n b w o two two_is (inl full) = record {
    asked = asked_at x n b w o;
    why = inl (subst (λ (d : DispatcherId). IsFull x d)
        (sym (same_dispatcher o.is.request.client (at_core b.client w.dispatcher) o.client (sym o.is.asks.dispatcher)))
        (full_at b.client two two_is w.dispatcher full.1));
  }
  crowded_own n b w o two two_is (inr (inl lost)) = absurd (let is = lost.0 in omega (arith, is))
  crowded_own n b w o two two_is (inr (inr used)) = absurd (let is = used.0 in omega (arith, is))

  crowded_other : (n : ℕ) (b : BindingCores) (w : OpenRequest) → Opener x n b w → (y : RefusesOne j.jobs cores w.opening 54)
      → Refuses y.core.start.offers.names (FoundNoPlace j.jobs y.core) y.core.start.core.monitor.circuits y.core.finish.core.monitor.circuits w.opening 54
      → IsCrowded x n
  crowded_other n b w o y (inl full) =
      let g = o.is.asks.service in
      let s = service_at x names_agree n b w o in
      record {
        asked = asked_at x n b w o;
        why = inr (service_full y.place y.core y.core_is w.opening g.registration g.registered o.is.request.service s full.1);
      }
  crowded_other n b w o y (inr (inl lost)) = absurd (let is = lost.0 in omega (arith, is))
  crowded_other n b w o y (inr (inr used)) = absurd (let is = used.0 in omega (arith, is))

  crowded_by : (n : ℕ) (b : BindingCores) → slice_get j.bindings n ≡ Some b → (one : OneCore) → slice_get cores b.client ≡ Some one
      → IsRefused j.jobs cores one (client_of n) 54 → IsCrowded x n
  crowded_by n b bound one one_is y =
      let o = opener x n b bound y.place y.request y.job_is y.end_is in
      elim y.why [
        | inl own ↦ crowded_own n b y.request o one one_is own
        | inr other ↦ crowded_other n b y.request o other other.why
      ]

  has_reason : (n fault : ℕ) (b : BindingCores) → slice_get j.bindings n ≡ Some b → (one : OneCore) → slice_get cores b.client ≡ Some one
      → IsRefused j.jobs cores one (client_of n) fault → HasReason x n fault
  has_reason n fault b bound one one_is y = record {
    reason = for_reason j.jobs cores one (client_of n) fault y;
    unlinked = λ is. unlinked_by n b bound one one_is (subst (IsRefused j.jobs cores one (client_of n)) is y);
    spent = λ is. spent_by n b bound one one_is (subst (IsRefused j.jobs cores one (client_of n)) is y);
    crowded = λ is. crowded_by n b bound one one_is (subst (IsRefused j.jobs cores one (client_of n)) is y);
  }

  -- ---- at the client's core

  at_client : (n fault : ℕ) (b : BindingCores) → slice_get j.bindings n ≡ Some b → refusal_of r n ≡ Some fault → HasReason x n fault
  at_client n fault b bound told =
      let at = refused_at runs c asked limit r x cores are n fault b bound told in
      let e = client_of n in
      elim (tell asked j cores x.ran.parts.names (map program_of x.ran.parts.programs.items) set ample b.client at.core e at.core_is at.none) [
        | inl nothing ↦ absurd (at.some (sym at.last ∙ nothing))
        | inr good ↦ has_reason n fault b bound at.core at.core_is (subst (IsRefused j.jobs cores at.core e) at.last good)
      ]

  by_bound : (n fault : ℕ) (o : Option BindingCores) → slice_get j.bindings n ≡ o → refusal_of r n ≡ Some fault → HasReason x n fault
  by_bound n fault None is told = absurd (let clash : None ≡ Some fault = sym (ran.progresses.no_refusal n is) ∙ told in cc)
  by_bound n fault (Some b) is told = at_client n fault b is told

pub refusals_have : NamesAreShown → SetUpsStartFresh → CoresGoAmply → SideLaws → LeadsAtFirst → ProgressTellReasons → RefusedForReason → EndsSit → ReportsAreOfRuns → RefusalsHaveReasons
refusals_have names_agree fresh go l first tell for_reason sit runs c asked limit r x n fault told =
    let f = x.ran.ran in
    let (cores, are, ample) = ample_runs go f.joined.jobs limit f.ran.core_threads f.ran.outcomes f.ran.ran in
    by_bound names_agree fresh tell for_reason sit runs c asked limit r x cores are ample (set_up fresh c asked limit r x cores are l first) n fault (slice_get f.joined.bindings n) refl told
