-- Each core of a run follows the machine.
use Rattle.std.proofs.Common.{◌≡◌, ◌⊎◌, inl, inr, sym, ◌∙◌, ap, subst, ℕ, zero, suc, List, [], ◌∷◌, map, slice_get, Some, Ok, arith}
use Rattle.std.specs.List.{AllZip}
use Rattle.fl_core.specs.declared.core_job.CoreJob.{CoreJob}
use Rattle.fl_base.specs.declared.identity.LinkId.{LinkId}
use Rattle.fl_base.specs.Numbered.{core_id}
use Rattle.fl_monitor.specs.Fates.{comes_along}
use Rattle.fl_compile.specs.Programs.{program_of}
use Rattle.fl_hop.proofs.Lists.{at_within, within}
use Rattle.fl_core.specs.View.{side_of_link}
use Rattle.fl_ring.specs.Laws.{SideLaw}
use Rattle.fl_core.specs.declared.answer.MonitorAnswer.TheVariants.{Done}
use Rattle.fl_core_run.specs.LogEntries.{LogEntry, heard}
use Rattle.fl_core_run_laws.specs.Logs.{Goes, CountedAreTurns}
use Rattle.fl_core_run_laws.specs.Led.{LeadsAtFirst}
use Rattle.fl_cores_file.specs.Jobs.{Job}
use Rattle.fl_cores_file.specs.Report.{TheReport}
use Rattle.fl_world.specs.Booting.{TheConfig}
use Rattle.fl_core_refines.specs.SetUpStart.{SetUpsStartFresh}
use Rattle.fl_core_refines.specs.SetUpUntouched.{SetUpsTouchNothing}
use Rattle.fl_ring.specs.SharedSides.{TheSide}
use Rattle.fl_cores_fork.specs.Runs.{TheFinishedCore, TheCoreThread, RanTo, shared_ways}
use Rattle.fl_cores.specs.Promised.{Reports}
use Rattle.fl_core_refines.specs.CutStart.{first_cut, StartsShow}
use Rattle.fl_core_turned.specs.ReadyTurns.{IsIn, RoutesDiffer, turns_log, TurnsHappen, ReadyTurns}
use Rattle.fl_cores.specs.Follows.{RunsFollow}
use Rattle.fl_cores.specs.Wanted.{behind}
use Rattle.fl_cores.proofs.FollowsRoutes.{routes_differ}
use Rattle.fl_cores.proofs.FollowsBegin.{core_thread, machine, begins, ends_are, is_ready}
use Rattle.fl_cores.proofs.FollowsTells.{MadeLaws, all_beside, told}
use Rattle.fl_cores.proofs.FollowsTold.{SentLaws}
use Rattle.fl_cores_laws.specs.Asked.{HasLogEntry, RequestsAlone}
use Rattle.fl_cores_laws.specs.Circuits.{AreOneLink}
use Rattle.fl_cores_laws.specs.Cores.{OneCore, CoresGo}
use Rattle.fl_cores_laws.specs.Crossing.{Crosses}
use Rattle.fl_cores.proofs.Runs.{all_runs, as_many, run_at}
use Rattle.fl_cores.proofs.SidesCross.{SideLaws}
use Rattle.fl_cores.proofs.Whole.{set_up}
use Rattle.fl_cores.proofs.FollowsHandedOut.{new_one}
use Rattle.fl_cores.proofs.FollowsTurns.{ran_turns}
use Rattle.fl_cores.proofs.FollowsRequested.{NoneTwice, none_twice}
use Rattle.fl_hop.specs.Table.{TheCircuits}

ran_at : (jobs : List CoreJob) (limit : ℕ) (core_threads : List TheCoreThread) (outcomes : List TheFinishedCore) → AllZip (RanTo jobs limit) core_threads outcomes
    → (n : ℕ) (s : TheCoreThread) (o : TheFinishedCore) → slice_get core_threads n ≡ Some s → slice_get outcomes n ≡ Some o → RanTo jobs limit s o
ran_at jobs limit [] [] ran n s o at is = absurd (cc)
ran_at jobs limit [] (y ∷ outcomes) ran n s o at is = absurd ran
ran_at jobs limit (x ∷ core_threads) [] ran n s o at is = absurd ran
ran_at jobs limit (x ∷ core_threads) (y ∷ outcomes) ran zero s o at is =
    let one : x ≡ s = cc in
    let two : y ≡ o = cc in
    subst (λ (z : TheCoreThread). RanTo jobs limit z o) one (subst (RanTo jobs limit x) two ran.0)
ran_at jobs limit (x ∷ core_threads) (y ∷ outcomes) ran (suc n) s o at is = ran_at jobs limit core_threads outcomes ran.1 n s o at is

-- what is said between the cores of a run is what jobs ask for
pub record Said : Type 0 where
  pub go : CoresGo
  pub sides : SideLaws
  pub requests : RequestsAlone
  pub side : SideLaw

same_value : {X : Type 0} (a b : X) → Some a ≡ Some b → a ≡ b
same_value a b is = cc

-- the side of a link put and took nothing at first
side_of_ring : (c d : OneCore) (l m : LinkId) (n : ℕ) → AreOneLink c l d m → side_of_link d.start.core.link_sides m.0 ≡ Some n
    → (p : TheSide) × (slice_get d.start.rings n ≡ Some p) × (p.got ≡ [])
side_of_ring c d l m n one link_side = by one.ring where
  far : one.far ≡ n
  far = same_value one.far n (sym one.far_is ∙ link_side)

  by : Crosses c.start.rings c.finish.rings d.start.rings d.finish.rings one.near one.far ⊎ Crosses d.start.rings d.finish.rings c.start.rings c.finish.rings one.far one.near
      → (p : TheSide) × (slice_get d.start.rings n ≡ Some p) × (p.got ≡ [])
  by (inl x) = (x.two, ap (slice_get d.start.rings) (sym far) ∙ x.two_is, (new_one x.size x.one x.two x.new).1.got)
  by (inr x) = (x.one, ap (slice_get d.start.rings) (sym far) ∙ x.one_is, (new_one x.size x.one x.two x.new).0.got)

module _ (fresh : SetUpsStartFresh) (leads : LeadsAtFirst) (laws : Said) (c : TheConfig) (jobs : List Job) (limit : ℕ) (r : TheReport) (w : Reports c jobs limit r) where
  none_turns : (n : ℕ) (s : TheCoreThread) (o : TheFinishedCore) → slice_get w.ran.ran.ran.core_threads n ≡ Some s → slice_get w.ran.ran.ran.outcomes n ≡ Some o → (log : List LogEntry)
      → Goes shared_ways w.ran.ran.joined.jobs s.run log o.run → NoneTwice s.run.core.monitor.circuits log
  none_turns n s o at is log goes =
      let differ = routes_differ c jobs limit r w in
      let (cores, are) = all_runs laws.go w.ran.ran.joined.jobs limit w.ran.ran.ran.core_threads w.ran.ran.ran.outcomes w.ran.ran.ran.ran in
      let below = within w.ran.ran.ran.core_threads n s at in
      let many = as_many w.ran.ran.joined.jobs w.ran.ran.ran.core_threads w.ran.ran.ran.outcomes cores are in
      let (core, core_is) = at_within cores n (omega (arith, below, many)) in
      let it = run_at w.ran.ran.joined.jobs w.ran.ran.ran.core_threads w.ran.ran.ran.outcomes cores are n core core_is in
      let core_thread : it.core_thread ≡ s = same_value it.core_thread s (sym it.core_thread_is ∙ at) in
      let outcome : it.outcome ≡ o = same_value it.outcome o (sym it.outcome_is ∙ is) in
      let beside = all_beside jobs w.ran.ran.joined cores w.ran.parts.names (map program_of w.ran.parts.programs.items)
      (set_up fresh c jobs limit r w cores are laws.sides leads) in
      let requested = laws.requests w.ran.ran.joined.jobs cores beside n core core_is in
      none_twice laws.sides.look laws.side w.ran.ran.joined.jobs core s.run o.run log (it.is.start ∙ ap (λ (x : TheCoreThread). x.run) core_thread)
      (it.is.finish ∙ ap (λ (x : TheFinishedCore). x.run) outcome) requested
      (λ l side link_side. (let link = beside.beside n side core l core_is link_side in side_of_ring link.core core link.link l side link.one link_side)) differ goes

-- an event of a log
has_entry : (log_entry : LogEntry) (log : List LogEntry) → IsIn log_entry log → HasLogEntry log_entry log
has_entry log_entry [] h = absurd h
has_entry log_entry (first ∷ log) (inl same) = inl same
has_entry log_entry (first ∷ log) (inr rest) = inr (has_entry log_entry log rest)

pub runs_follow : SetUpsStartFresh → SetUpsTouchNothing → LeadsAtFirst → CountedAreTurns shared_ways → StartsShow → TurnsHappen → ReadyTurns → Said → SentLaws → MadeLaws → RunsFollow
runs_follow fresh untouched leads counted shows happen law laws sent made c jobs limit r w n s o at is =
    let joined = w.ran.ran.joined in
    let ran = ran_at joined.jobs limit w.ran.ran.ran.core_threads w.ran.ran.ran.outcomes w.ran.ran.ran.ran n s o at is in
    let turns = ran_turns counted joined.jobs limit s o ran in
    let core = machine fresh c jobs limit r w n s at in
    let first = begins fresh c jobs limit r w n s at shows in
    let log : List LogEntry = turns_log s.plan joined.jobs turns.turns s.run o.run turns.turned in
    let none = none_turns fresh leads laws c jobs limit r w n s o at is log (happen s.plan joined.jobs turns.turns s.run o.run turns.turned) in
    let differ : RoutesDiffer (first_cut core.0 s.run) log
    = λ k l frag m x has says asked along. none k l frag m x (has_entry (heard k l frag (Ok Done)) log has) says asked
    (ap (λ (t : TheCircuits). comes_along t l.0 (map core_id x.path)) first.monitor.circuits ∙ along) in
    let all = law (behind c).services s.plan joined.jobs turns.turns (first_cut core.0 s.run) s.run o.run first
    (is_ready fresh c jobs limit r w n s at leads) turns.turned differ in
    record {
      core = core.0;
      core_is = core.1;
      ends = ends_are fresh c jobs limit r w n s at untouched;
      turns = turns.turns;
      counted = turns.enough;
      log = log;
      after = all.0;
      turned = all.1;
      told = told fresh leads laws.go laws.sides sent made c jobs limit r w n s o at is core.0 (behind c).services all.1.events all.0 first all.1.follows;
    }
