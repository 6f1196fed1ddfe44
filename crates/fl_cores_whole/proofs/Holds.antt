-- The machine's laws, of what the cores of a reported run do one after another.
use Rattle.std.proofs.Common.{◌≡◌, refl, ◌∙◌, ap, subst, ℕ, zero, suc, ◌≤◌, ◌||◌, nat_lt, Bool, true, false, List, [], ◌∷◌, ◌++◌, slice_get, Some, arith}
use Rattle.std.specs.List.{flat_map}
use Rattle.std.proofs.lemmas.Bool.Decides.{nat_tests}
use Rattle.fl_base.specs.Ends.{peer}
use Rattle.fl_base.specs.Prefix.{IsPrefix}
use Rattle.fl_base.specs.Numbered.{most_cores}
use Rattle.fl_model.specs.Events.{Event}
use Rattle.fl_model.specs.Faults.{NoWireFaults}
use Rattle.fl_model.specs.Laws.{accepted_by}
use Rattle.fl_model.specs.Runs.{Exchange, run, reached, calls_handled}
use Rattle.fl_model.specs.SoundLimits.{NumbersAreOnceBothWays}
use Rattle.fl_model.specs.State.{State}
use Rattle.fl_model.specs.Step.{step}
use Rattle.fl_model.specs.Worlds.{start_with, EverOnceBothWays}
use Rattle.fl_world_laws.specs.Booted.{NumbersFall, EverHandledIsAPrefix, EverPassedFalls}
use Rattle.fl_cores_file.specs.Jobs.{Job}
use Rattle.fl_world.specs.Booting.{TheConfig, has_bad_cores}
use Rattle.fl_cores.specs.Behind.{joined_in}
use Rattle.fl_cores.specs.OneCore.{rule_in, begins}
use Rattle.fl_cores_joined.specs.Joined.{JoinedCore}
use Rattle.fl_cores_joined.specs.RenamedRuns.{all_under}
use Rattle.fl_cores_joined.specs.Runs.{asked_in, events_of, MachineRuns}
use Rattle.fl_cores_whole.specs.Whole.{begun, ReportsJoin}
use Rattle.fl_cores_whole.specs.Holds.{events_before, state_after, KeepsLaws, ReportsHold, RunsUnderSomeHold}

-- ---- runs in two parts

run_both : (z : State) (vs ws : List Event) → run z (vs ++ ws) ≡ run z vs ++ run (reached z vs) ws
run_both z [] ws = refl
run_both z (v ∷ vs) ws =
    let rest = run_both (step z v).state vs ws in
    λ i. record { event = v; answer = (step z v).answer } ∷ rest i

reached_both : (z : State) (vs ws : List Event) → reached z (vs ++ ws) ≡ reached (reached z vs) ws
reached_both z [] ws = refl
reached_both z (v ∷ vs) ws = reached_both (step z v).state vs ws

-- each answer of a run is that of one event in a state
answered : (z : State) (vs : List Event) (n : ℕ) (x : Exchange) → slice_get (run z vs) n ≡ Some x → (s : State) × ((step s x.event).answer ≡ x.answer)
answered z [] n x at = absurd (cc)
answered z (v ∷ vs) zero x at =
    let first : Exchange = record { event = v; answer = (step z v).answer } in
    let same : first ≡ x = cc in
    (z, subst (λ (y : Exchange). (step z y.event).answer ≡ y.answer) same refl)
answered z (v ∷ vs) (suc n) x at = answered (step z v).state vs n x at

-- ---- so many cores there may be

pub both_false : (a b : Bool) → (a || b) ≡ false → (a ≡ false) × (b ≡ false)
both_false false b h = (refl, h)
both_false true b h = absurd (cc)

pub some_cores : (n : ℕ) → nat_lt n 1 ≡ false → 1 ≤ n
some_cores n h = grind (arith, nat_tests, h)

pub few_cores : (n : ℕ) → nat_lt 16 n ≡ false → n ≤ 16
few_cores n h = grind (arith, nat_tests, h)

-- ---- the laws

module _ (none : NoWireFaults) (prefix : EverHandledIsAPrefix) (falls : EverPassedFalls) (once : EverOnceBothWays) (c : TheConfig) (jobs : List Job) (good : has_bad_cores c ≡ false)
    (exchanges : List Exchange) (ys : List JoinedCore) (runs : MachineRuns exchanges (begins c jobs) ys) where
  abbrev z : State
  z = start_with c.cores

  abbrev all : List Event
  all = events_before c jobs ++ events_of exchanges

  at_first : reached z (events_before c jobs) ≡ begins c jobs
  at_first = reached_both z c.setup (flat_map rule_in jobs)

  all_reached : reached z all ≡ state_after c jobs exchanges
  all_reached = reached_both z (events_before c jobs) (events_of exchanges) ∙ ap (λ (s : State). reached s (events_of exchanges)) at_first

  all_run : run z all ≡ run z (events_before c jobs) ++ exchanges
  all_run =
      run_both z (events_before c jobs) (events_of exchanges)
      ∙ ap (λ (s : State). run z (events_before c jobs) ++ run s (events_of exchanges)) at_first
      ∙ ap (λ (xs : List Exchange). run z (events_before c jobs) ++ xs) runs.answers

  some : 1 ≤ c.cores
  some = some_cores c.cores (both_false (nat_lt c.cores 1) (nat_lt most_cores c.cores) good).0

  few : c.cores ≤ most_cores
  few = few_cores c.cores (both_false (nat_lt c.cores 1) (nat_lt most_cores c.cores) good).1

  holds : KeepsLaws c jobs exchanges
  holds = record {
    no_faults = λ n x fault at is.
        let (s, answer) = answered (begins c jobs) (events_of exchanges) n x (ap (λ (xs : List Exchange). slice_get xs n) runs.answers ∙ at) in
        none s x.event fault (answer ∙ is);
    handled = λ e.
        subst (λ (s : State). IsPrefix (calls_handled e (run z (events_before c jobs) ++ exchanges)) (accepted_by s (peer e))) all_reached
        (subst (λ (xs : List Exchange). IsPrefix (calls_handled e xs) (accepted_by (reached z all) (peer e))) all_run (prefix c.cores all some few e));
    passed = subst NumbersFall all_reached (falls c.cores all some few);
    once = subst NumbersAreOnceBothWays all_reached (once c.cores all some few);
  }

pub reports_hold : NoWireFaults → EverHandledIsAPrefix → EverPassedFalls → EverOnceBothWays → ReportsJoin → ReportsHold
reports_hold none prefix falls once join c jobs limit r w moments ys h still in_turn =
    holds none prefix falls once c jobs w.accepted.cores (asked_in (joined_in w).jobs (begun w) moments ys h) ys
    (join c jobs limit r w moments ys h still in_turn)

pub runs_under_some_hold : NoWireFaults → EverHandledIsAPrefix → EverPassedFalls → EverOnceBothWays → RunsUnderSomeHold
runs_under_some_hold none prefix falls once c jobs limit r w links moments exchanges ys under =
    holds none prefix falls once c jobs w.accepted.cores (all_under under.renaming exchanges) under.runs.cores under.runs.runs
