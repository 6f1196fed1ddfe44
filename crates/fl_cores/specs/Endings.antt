-- What a report of a run of cores tells besides honest calls: how the run ended. Public promises rest on this file.
use Rattle.std.specs.Prelude.{ℕ, ◌≡◌, ◌≢◌, ◌≤◌, ◌<◌, List, [], length, slice_get, Some, None}
use Rattle.fl_base.specs.declared.identity.EndId.{EndId}
use Rattle.fl_model.specs.Events.{DispatcherId}
use Rattle.fl_model.specs.Runs.{reached}
use Rattle.fl_model.specs.Worlds.{start_with}
use Rattle.fl_cores_file.specs.Jobs.{Job}
use Rattle.fl_cores_file.specs.Report.{TheReport, at_end, complete, refusal_of, AllHandled}
use Rattle.fl_world.specs.Booting.{TheConfig}
use Rattle.fl_cores_laws.specs.Reasons.{IsReason}
use Rattle.fl_cores_laws.specs.EndedCores.{OneCore}
use Rattle.fl_cores_laws.specs.Few.{AreEnds, handled_at_all}
use Rattle.fl_cores_laws.specs.EndedTurns.{KeepsTurns}
use Rattle.fl_cores.specs.Promised.{Reports}
use Rattle.fl_cores.specs.Behind.{joined_in, cores_in}
use Rattle.fl_cores.specs.Outcomes.{AreSetUpAt}
use Rattle.fl_cores.specs.Over.{IsOutnumbered}
use Rattle.fl_cores.specs.Reasons.{IsUnlinked, IsSpent, IsCrowded}
use Rattle.fl_cores.specs.Wanted.{AreWanted}

-- so many bindings the set-up makes; those that jobs open, over circuits, have the numbers behind them
abbrev pub bindings_by : TheConfig → ℕ
bindings_by c = length (reached (start_with c.cores) c.setup).bindings

pub record EndsAsTold {c : TheConfig} {jobs : List Job} {limit : ℕ} {r : TheReport} (w : Reports c jobs limit r) : Type 0 where
  -- there are as many turns as cores, none above the limit, and `turns out` comes only where a core that hadn't finished took all of its turns
  pub turns : KeepsTurns (cores_in w) limit r
  -- `complete` comes only where each end, of any binding, handled all that was handed in for it, but on bindings that are named as refused
  pub all : r.ending ≡ complete → AllHandled jobs r
  -- these are none of the set-up, and neither end of one handled anything
  pub unrefused : (n : ℕ) → n < bindings_by c → refusal_of r n ≡ None
  pub silent : (e : EndId) → refusal_of r e.binding ≢ None → at_end r.handled e ≡ []
  -- each is for a reason: a dispatcher had no place for one end more (54), a core of the route had no link that leads on (73), or no number was left on that
  -- link (74)
  pub reasons : (n fault : ℕ) → refusal_of r n ≡ Some fault → IsReason fault
  -- for want of a link only where the set-up makes none from a core of its route to the next
  pub unlinked : (n : ℕ) → refusal_of r n ≡ Some 73 → IsUnlinked c jobs n
  -- for want of a number only where a core of its route gave all that it has on its link to the next
  pub spent : (n : ℕ) → refusal_of r n ≡ Some 74 → IsSpent w n
  -- and for want of a place only where 1,024 ends are wanted at its client's dispatcher or its service's
  pub crowded : (n : ℕ) → refusal_of r n ≡ Some 54 → IsCrowded w n
  -- what ends that the set-up makes at one dispatcher handled is together at most the turns that are told of its core
  pub few : (d : DispatcherId) (ends : List EndId) (turns : ℕ) → AreSetUpAt c d ends → slice_get r.turns d.core ≡ Some turns
      → handled_at_all r.handled ends ≤ turns
  -- so it is of all ends that are wanted at one dispatcher, of the set-up and of bindings that jobs open
  pub few_wanted : (d : DispatcherId) (ends : List EndId) (turns : ℕ) → AreWanted c jobs d ends → slice_get r.turns d.core ≡ Some turns
      → handled_at_all r.handled ends ≤ turns
  -- and of the ends of any bindings that sit at one dispatcher of a core in the end
  pub few_there : (n d turns : ℕ) (core : OneCore) (ends : List EndId) → slice_get (cores_in w) n ≡ Some core → AreEnds (joined_in w) n core d ends
      → slice_get r.turns n ≡ Some turns → handled_at_all r.handled ends ≤ turns
  -- for want of a number (74) only where jobs open 1,023 other bindings, each another, over routes that lead from that core to that one
  pub over : (n : ℕ) → refusal_of r n ≡ Some 74 → IsOutnumbered w n

-- each report of a run ends as it tells. Law
abbrev pub RunsEndAsTold : Type 0
RunsEndAsTold = (c : TheConfig) (jobs : List Job) (limit : ℕ) (r : TheReport) (w : Reports c jobs limit r) → EndsAsTold w
