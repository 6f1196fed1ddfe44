-- The numbers of a link that is used up are for as many bindings, whose routes go over it.
use Rattle.std.proofs.Common.{◌≡◌, ◌≢◌, inl, inr, refl, sym, ap, ◌∙◌, subst, ℕ, ◌+◌, ◌<◌, ◌==◌, true, List, map, slice_get, Option, Some, None, get_or, arith}
use Rattle.std.proofs.lemmas.Bool.Decides.{nat_tests}
use Rattle.std.proofs.lemmas.List.Quantifiers.{position-Some}
use Rattle.fl_base.specs.declared.identity.CoreId.{CoreId}
use Rattle.fl_base.specs.declared.identity.EndId.{EndId}
use Rattle.fl_compile.specs.Programs.{program_of}
use Rattle.fl_ring.specs.SharedSides.{TheSide}
use Rattle.fl_hop.specs.declared.links.LinkState.{LinkState}
use Rattle.fl_hop.specs.Table.{TheCircuits, link_of}
use Rattle.fl_monitor.specs.declared.opening.Opening.{Opening}
use Rattle.fl_monitor.specs.Routing.{next_on}
use Rattle.fl_core.specs.View.{TheCore, client_of}
use Rattle.fl_core.specs.declared.core_job.CoreJob.TheVariants as job
use Rattle.fl_core.specs.declared.core_job.OpenRequest.{OpenRequest}
use Rattle.fl_core_run.specs.Run.{TheRun}
use Rattle.fl_core_run_laws.specs.Led.{LeadsAtFirst}
use Rattle.fl_model.specs.State.{core_of}
use Rattle.fl_core_refines.specs.SetUpStart.{SetUpsStartFresh}
use Rattle.fl_world.specs.Booting.{TheConfig}
use Rattle.fl_cores_file.specs.Jobs.{Job}
use Rattle.fl_cores_file.specs.Report.{TheReport, refusal_of}
use Rattle.fl_cores_jobs.specs.declared.end_work.BindingCores.{BindingCores}
use Rattle.fl_cores_jobs.specs.State.{TheJoinedJobs}
use Rattle.fl_cores_laws.specs.Cores.{OneCore, CoresGo, CoresGoAmply, AllAmple}
use Rattle.fl_cores_laws.specs.Reasons.{IsUsedUp as UsedUp}
use Rattle.fl_cores_laws.specs.Runs.{AreSetUp}
use Rattle.fl_cores_laws.specs.Spent.{GoesOver, AreOver, SpentOnBindings, IsCrowdedOut, SpentOnOthers}
use Rattle.fl_cores.specs.Promised.{Reports}
use Rattle.fl_cores.specs.Over.{IsRoutedOver, AreLedOver, IsOutnumbered, SpentLinksAreLedOver, RefusedAreOutnumbered}
use Rattle.fl_cores.specs.Outcomes.{ReportsAreOfRuns}
use Rattle.fl_cores.specs.Reasons.{IsUsedUp}
use Rattle.fl_cores.specs.Runs.{AreRuns}
use Rattle.fl_cores.specs.Wanted.{behind}
use Rattle.fl_cores.proofs.Opener.{shown, Opener, opener, asked_at}
use Rattle.fl_cores.proofs.Reasons.{ample_runs}
use Rattle.fl_cores.proofs.Refusing.{refused_at}
use Rattle.fl_cores.proofs.ReasonsSetUp.{stands_on, starts_as, made_as, its_core}
use Rattle.fl_cores.proofs.Runs.{is_there, all_runs}
use Rattle.fl_cores.proofs.SidesCross.{SideLaws}
use Rattle.fl_cores.proofs.StartBindings.{TheBeginning, IsBegun}
use Rattle.fl_cores.proofs.Twins.{twin, other}
use Rattle.fl_cores.proofs.Whole.{beginning, begun, set_up}
use Rattle.fl_cores.proofs.Requests.{step_of, MayGo, may_go}

-- a link goes to one core
both_tests : (m a b : ℕ) → (m == a) ≡ true → (m == b) ≡ true → a ≡ b
both_tests m a b one two = grind (arith, nat_tests, one, two)

one_neighbour : (t : TheCircuits) (a b l : ℕ) → link_of t a ≡ Some l → link_of t b ≡ Some l → a ≡ b
one_neighbour t a b l here there =
    let none : LinkState = record { neighbour = record { 0 = 0 }; opened = 0; taken = 0 } in
    let one = position-Some (λ (x : LinkState). x.neighbour.0 == a) t.links l none here in
    let two = position-Some (λ (x : LinkState). x.neighbour.0 == b) t.links l none there in
    let found : LinkState = get_or t.links l none in
    both_tests found.neighbour.0 a b one.1 two.1

module _ (fresh : SetUpsStartFresh) (c : TheConfig) (asked : List Job) (limit : ℕ) (r : TheReport) (x : Reports c asked limit r) (cores : List OneCore)
    (are : AreRuns x.ran.ran.joined.jobs x.ran.ran.ran.core_threads x.ran.ran.ran.outcomes cores)
    (set : AreSetUp asked x.ran.ran.joined cores x.ran.parts.names (map program_of x.ran.parts.programs.items)) where
  abbrev j : TheJoinedJobs
  j = x.ran.ran.joined

  abbrev all : TheBeginning
  all = beginning fresh c asked limit r x cores are

  begins : IsBegun all
  begins = begun fresh c asked limit r x cores are

  -- a route may be asked for, by the table with which its core began
  goes_on : (n : ℕ) (b : BindingCores) (w : OpenRequest) → Opener x n b w → (two : OneCore) → slice_get cores b.client ≡ Some two
      → MayGo two.start.core.monitor.circuits w.opening.path w.link.0
  goes_on n b w o two two_is =
      let at = o.is.asks.begins in
      let (k, k_is) = its_core all begins (behind c) (shown x) b.client two two_is in
      let there : slice_get x.ran.made.world.cores b.client ≡ Some at.core =
      ap (λ (ks : List TheCore). slice_get ks b.client) (sym x.ran.made.parts.cores) ∙ ap (slice_get x.ran.parts.cores.items) (sym o.client) ∙ at.core_is in
      subst (λ (t : TheCircuits). MayGo t w.opening.path w.link.0) (sym (made_as all begins (behind c) (shown x) b.client two two_is k k_is at.core there))
      (may_go at.core.monitor.circuits w.opening.path o.is.bound.server _ w.link.0 at.begins)

  -- a request by a route that leads from this core to that one, at these places of it
  record Leads (t : TheCircuits) (w : OpenRequest) (l : ℕ) : Type 0 where
    pub place : ℕ
    pub here : CoreId
    pub next : CoreId
    pub here_is : slice_get w.opening.path place ≡ Some here
    pub next_is : slice_get w.opening.path (place + 1) ≡ Some next
    pub same : here.0 ≡ t.core
    pub link_is : link_of t next.0 ≡ Some l

  module _ (i l : ℕ) (two : OneCore) (two_is : slice_get cores i ≡ Some two) where
    abbrev t : TheCircuits
    t = two.start.core.monitor.circuits

    -- the job that opens the binding of an opening
    record Opens (o : Opening) (w : OpenRequest) : Type 0 where
      pub bound : BindingCores
      pub opener : Opener x o.binding bound w
      pub leads : Leads t w l

    opens : (o : Opening) (y : GoesOver j i t l o) → Opens o y.requested.request
    opens o y =
        let w = y.requested.request in
        let n = w.opening.binding in
        let same : n ≡ o.binding = ap (λ (z : Opening). z.binding) y.requested.opening_is in
        let (b, bound) = is_there j.bindings n (set.joined.there y.requested.place (job.Open w) y.requested.job_is) in
        let p = opener x n b bound y.requested.place w y.requested.job_is refl in
        record {
          bound = b;
          opener = subst (λ (m : ℕ). Opener x m b w) same p;
          leads = elim y.over [
            | inl first ↦
                (let go = goes_on n b w p two (ap (slice_get cores) (first.home b bound) ∙ two_is) in record {
                  place = 0;
                  here = go.here;
                  next = go.next;
                  here_is = go.here_is;
                  next_is = go.next_is;
                  same = go.same;
                  link_is = go.link_is ∙ ap Some first.link_is;
                })
            | inr on ↦
                (let path : w.opening.path ≡ o.path = ap (λ (z : Opening). z.path) y.requested.opening_is in
                let s = stands_on w.opening.path t.core on.next (ap (λ (q : List CoreId). next_on q t.core) path ∙ on.next_is) in record {
                  place = s.place;
                  here = s.here;
                  next = on.next;
                  here_is = s.here_is;
                  next_is = s.next_is;
                  same = s.same;
                  link_is = on.link_is;
                })
          ];
        }

    led_one : (at next : ℕ) → at ≡ i → link_of t next ≡ Some l → (o : Opening) → GoesOver j i t l o → IsRoutedOver c asked at next o.binding
    led_one at next at_is to o y =
        let p = opens o y in
        record {
          asked = asked_at x o.binding p.bound y.requested.request p.opener;
          step = step_of y.requested.request.opening.path p.opener.is.request.route p.opener.is.asks.route p.leads.place p.leads.here p.leads.next p.leads.here_is p.leads.next_is;
          core_is = p.leads.same ∙ set.numbered i two two_is ∙ sym at_is;
          next_is = one_neighbour t p.leads.next.0 next l p.leads.link_is to;
        }

    abbrev led_over : (at next : ℕ) → at ≡ i → link_of t next ≡ Some l → AreOver j i t l → AreLedOver c asked at next
    led_over at next at_is to y = record {
      bindings = λ n. (y.openings n).binding;
      over = λ n below. led_one at next at_is to (y.openings n) (y.over n below);
      apart = y.apart;
    }

    -- ---- a binding whose route goes over a link that is used up, for others

    used_at : UsedUp two.finish.core.monitor.circuits l → IsUsedUp x i l
    used_at used =
        let one = twin x cores are i two two_is in
        record { core = one.one; core_is = one.one_is; used_up = subst (λ (s : TheRun TheSide). UsedUp s.core.monitor.circuits l) one.finish used }

    outnumbered : UsedUp two.finish.core.monitor.circuits l → (o : Opening) → GoesOver j i t l o → (y : AreOver j i t l) → ((k : ℕ) → k < 1023 → (y.openings k).binding ≢ o.binding)
        → IsOutnumbered x o.binding
    outnumbered used o over y others =
        let w = over.requested.request in
        let p = opens o over in
        let (k, k_is) = its_core all begins (behind c) (shown x) i two two_is in
        let table = starts_as all begins (behind c) (shown x) i two two_is k k_is in
        let number : p.leads.here.0 ≡ i = p.leads.same ∙ set.numbered i two two_is in
        record {
          spent = record {
            asked = asked_at x o.binding p.bound w p.opener;
            step = step_of w.opening.path p.opener.is.request.route p.opener.is.asks.route p.leads.place p.leads.here p.leads.next p.leads.here_is p.leads.next_is;
            core = k;
            core_is = ap (core_of (behind c)) number ∙ k_is;
            link = l;
            link_is = ap (λ (u : TheCircuits). link_of u p.leads.next.0) (sym table) ∙ p.leads.link_is;
            used_up = subst (λ (m : ℕ). IsUsedUp x m l) (sym number) (used_at used);
          };
          many = led_over p.leads.here.0 p.leads.next.0 number p.leads.link_is y;
          others = others;
        }

  -- ---- a binding that is told as refused so

  module _ (others : SpentOnOthers) (runs : ReportsAreOfRuns) (ample : AllAmple cores) where
    at_client : (n : ℕ) (b : BindingCores) → slice_get j.bindings n ≡ Some b → refusal_of r n ≡ Some 74 → IsOutnumbered x n
    at_client n b bound told =
        let at = refused_at runs c asked limit r x cores are n 74 b bound told in
        let z : IsCrowdedOut j cores (client_of n) =
        others asked j cores x.ran.parts.names (map program_of x.ran.parts.programs.items) set ample b.client at.core (client_of n) at.core_is at.none at.last in
        subst (IsOutnumbered x) (ap (λ (e : EndId). e.binding) z.end_is)
        (outnumbered z.place z.link z.core z.core_is z.used_up z.opening z.over z.many z.others)

    by_bound : (n : ℕ) (o : Option BindingCores) → slice_get j.bindings n ≡ o → refusal_of r n ≡ Some 74 → IsOutnumbered x n
    by_bound n None is told = absurd (let clash : None ≡ Some 74 = sym ((runs c asked limit r x).progresses.no_refusal n is) ∙ told in cc)
    by_bound n (Some b) is told = at_client n b is told

pub spent_led_over : SetUpsStartFresh → CoresGo → SideLaws → LeadsAtFirst → SpentOnBindings → SpentLinksAreLedOver
spent_led_over fresh go laws first spent c asked limit r x n next link core core_is link_is used =
    let f = x.ran.ran in
    let (cores, are) = all_runs go f.joined.jobs limit f.ran.core_threads f.ran.outcomes f.ran.ran in
    let set = set_up fresh c asked limit r x cores are laws first in
    let (two, two_is, same) = other x cores are n used.core used.core_is in
    let table = starts_as (beginning fresh c asked limit r x cores are) (begun fresh c asked limit r x cores are) (behind c) (shown x) n two two_is core core_is in
    let still = subst (λ (s : TheRun TheSide). UsedUp s.core.monitor.circuits link) (sym same) used.used_up in
    led_over fresh c asked limit r x cores are set n link two two_is n next refl (ap (λ (t : TheCircuits). link_of t next) table ∙ link_is)
    (spent asked f.joined cores x.ran.parts.names (map program_of x.ran.parts.programs.items) set n two two_is link still)

pub refused_outnumbered : SetUpsStartFresh → CoresGoAmply → SideLaws → LeadsAtFirst → SpentOnOthers → ReportsAreOfRuns → RefusedAreOutnumbered
refused_outnumbered fresh go laws first others runs c asked limit r x n told =
    let f = x.ran.ran in
    let (cores, are, ample) = ample_runs go f.joined.jobs limit f.ran.core_threads f.ran.outcomes f.ran.ran in
    by_bound fresh c asked limit r x cores are (set_up fresh c asked limit r x cores are laws first) others runs ample n (slice_get f.joined.bindings n) refl told
