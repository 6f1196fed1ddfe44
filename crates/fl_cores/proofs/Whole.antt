-- That the report of a run of cores is honest: what the run gives the laws.
use Rattle.std.proofs.Common.{◌≡◌, refl, sym, ap, ◌∙◌, subst, ℕ, List, [], ◌∷◌, map, length, slice_get, Option, Some, None}
use Rattle.std.proofs.lemmas.List.{length-set}
use Rattle.fl_base.specs.declared.identity.EndId.{EndId}
use Rattle.fl_compile.specs.Programs.{program_of}
use Rattle.fl_core.specs.View.{TheCore}
use Rattle.fl_core_run_laws.specs.Led.{LeadsAtFirst}
use Rattle.fl_world_refines.specs.declared.binding.Binding.{Binding}
use Rattle.fl_world_refines.specs.View.{core_in}
use Rattle.fl_world.specs.Booting.{TheConfig}
use Rattle.fl_cores_file.specs.Jobs.{Job, opens, replies, calls}
use Rattle.fl_cores_file.specs.Report.{TheReport, Honest}
use Rattle.fl_cores_jobs.specs.Rules.{RuleNow, RuleOf, RulesOf}
use Rattle.fl_cores_jobs.specs.State.{AreJoined}
use Rattle.fl_core_refines.specs.SetUpStart.{SetUpsStartFresh}
use Rattle.fl_cores_laws.specs.Cores.{OneCore, CoresGo}
use Rattle.fl_cores_laws.specs.Told.{AreTold}
use Rattle.fl_cores_laws.specs.Runs.{HaveProgress, AreSetUp, RunsAreHonest}
use Rattle.fl_cores_parts.specs.Begins.{common_in}
use Rattle.fl_cores.specs.Promised.{Reports}
use Rattle.fl_cores.proofs.Booted.{all_making}
use Rattle.fl_cores.specs.Runs.{AreRuns}
use Rattle.fl_cores.specs.Honesty.{RunsReportHonestly}
use Rattle.fl_cores.proofs.Runs.{all_runs, as_many, as_many_core_threads}
use Rattle.fl_cores.proofs.RunsSetUp.{are_set_up}
use Rattle.fl_cores.proofs.SidesCross.{SideLaws}
use Rattle.fl_cores.proofs.StartBindings.{TheBeginning, IsBegun, off_links}
use Rattle.fl_cores.proofs.Told.{RunOf, progresses_begin, are_told}

-- ---- how many cores there are

rule_now : (o : Option Binding) (e : EndId) (msg answer : ℕ) (ks ks2 : List TheCore) → RuleNow o e msg answer ks ks2 → length ks2 ≡ length ks
rule_now None e msg answer ks ks2 h = ap length h
rule_now (Some x) e msg answer ks ks2 h = ap length h.rest ∙ length-set ks (core_in e.side x) h.after

rule_of : (bindings : List Binding) (job : Job) (ks ks2 : List TheCore) → RuleOf bindings job ks ks2 → length ks2 ≡ length ks
rule_of bindings (opens w) ks ks2 h = ap length h
rule_of bindings (replies e msg answer) ks ks2 h = rule_now (slice_get bindings e.binding) e msg answer ks ks2 h
rule_of bindings (calls e c) ks ks2 h = ap length h

-- rules that are set leave as many
rules_of : (bindings : List Binding) (jobs : List Job) (ks ks2 : List TheCore) → RulesOf bindings jobs ks ks2 → length ks2 ≡ length ks
rules_of bindings [] ks ks2 h = ap length h
rules_of bindings (job ∷ jobs) ks ks2 (m, one, rest) = rules_of bindings jobs m ks2 rest ∙ rule_of bindings job ks m one

-- ---- a run

module _ (fresh : SetUpsStartFresh) (c : TheConfig) (asked : List Job) (limit : ℕ) (r : TheReport) (x : Reports c asked limit r) (cores : List OneCore)
    (are : AreRuns x.ran.ran.joined.jobs x.ran.ran.ran.core_threads x.ran.ran.ran.outcomes cores) where
  -- all that it began with
  abbrev pub beginning : TheBeginning
  beginning = record {
    world = x.ran.made.world;
    made = x.ran.parts;
    asked = asked;
    joined = x.ran.ran.joined;
    parts = x.ran.ran.parts;
    places = x.ran.ran.ran.places;
    core_threads = x.ran.ran.ran.core_threads;
    outcomes = x.ran.ran.ran.outcomes;
    cores = cores;
  }

  pub begun : IsBegun beginning
  begun = record {
    fresh = fresh c.cores c.setup x.ran.made.world (all_making c.setup x.accepted.making) x.ran.made.stands.1.shown;
    made = x.ran.made.parts;
    joined = x.ran.ran.are_joined;
    bound = x.ran.ran.are_bound;
    at_once = x.ran.ran.are_joined.at_once;
    rules = x.ran.ran.rules;
    beside = x.ran.ran.beside;
    core_threads = x.ran.ran.ran.begin;
    shares = x.ran.ran.ran.shares;
    sound = x.ran.ran.ran.sound;
    runs = are;
  }

  run : RunOf x.ran.ran.joined cores x.ran.ran.ran.outcomes
  run = record {
    core_threads = x.ran.ran.ran.core_threads;
    runs = are;
    common = common_in x.ran.ran.parts x.ran.ran.joined x.ran.ran.ran.places;
    joined = refl;
    ks = x.ran.ran.parts.cores.items;
    begin = x.ran.ran.ran.begin;
    few = x.ran.ran.are_joined.bindings.few;
  }

  joined : AreJoined (length cores) asked x.ran.ran.joined
  joined =
      let core_threads = as_many_core_threads (common_in x.ran.ran.parts x.ran.ran.joined x.ran.ran.ran.places) x.ran.ran.parts.cores.items x.ran.ran.ran.core_threads
      x.ran.ran.ran.begin in
      let many : length cores ≡ length x.ran.parts.cores.items =
      as_many x.ran.ran.joined.jobs x.ran.ran.ran.core_threads x.ran.ran.ran.outcomes cores are ∙ core_threads
      ∙ rules_of x.ran.parts.bindings.items asked x.ran.parts.cores.items x.ran.ran.parts.cores.items x.ran.ran.rules in
      subst (λ (n : ℕ). AreJoined n asked x.ran.ran.joined) (sym many) x.ran.ran.are_joined

  pub progresses : HaveProgress x.ran.ran.joined cores
  progresses = progresses_begin x.ran.ran.joined cores x.ran.ran.ran.outcomes run

  pub told : AreTold x.ran.ran.joined cores r.made r.handled
  told = are_told x.ran.ran.joined cores x.ran.ran.ran.outcomes run r x.ran.ran.ran.tells

  pub set_up : SideLaws → LeadsAtFirst → AreSetUp asked x.ran.ran.joined cores x.ran.parts.names (map program_of x.ran.parts.programs.items)
  set_up l first = are_set_up beginning begun x.ran.ran.are_fit l first joined progresses

  run_honest : SideLaws → LeadsAtFirst → RunsAreHonest → Honest asked r
  run_honest l first honest =
      honest asked x.ran.ran.joined cores x.ran.parts.names (map program_of x.ran.parts.programs.items) r
      (set_up l first) (off_links beginning begun l) told

-- ---- the whole

pub runs_honest : SetUpsStartFresh → CoresGo → SideLaws → LeadsAtFirst → RunsAreHonest → RunsReportHonestly
runs_honest fresh go l first honest c asked limit r x =
    let f = x.ran.ran in
    let (cores, are) = all_runs go f.joined.jobs limit f.ran.core_threads f.ran.outcomes f.ran.ran in
    run_honest fresh c asked limit r x cores are l first honest
