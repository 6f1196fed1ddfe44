-- A core's run over sides of one table, as one by the steps of sides of rings by themselves.
use Rattle.std.specs.Prelude.{◌≡◌, List, map}
use Rattle.fl_link.specs.Looks.{Look}
use Rattle.fl_ring.specs.SharedSeats.{front_seen}
use Rattle.fl_ring.specs.SharedSides.{TheSide, SharedPuts, SharedTakes}
use Rattle.fl_core_run.specs.declared.run.Part.{Part}
use Rattle.fl_core_run.specs.Run.{SideRelations, ways, TheRun, over}
use Rattle.fl_core_run.specs.Ran.{RunTask, RunMoment, moment, CoreRan}
use Rattle.fl_history_sides.specs.States.{TheHistorySide}
use Rattle.fl_history_sides.specs.Ways.{history_ways}

-- of sides of rings by themselves
abbrev pub shared_ways : SideRelations TheSide
shared_ways = ways SharedPuts SharedTakes (λ (s : TheSide). front_seen s.peeked)

-- whatever a side does by w, what it is shown as does by v
pub record IsShownBy {S T : Type 0} (f : S → T) (w : SideRelations S) (v : SideRelations T) : Type 0 where
  pub puts : (p : S) (look : Look) (q : S) → w.puts p look q → v.puts (f p) look (f q)
  pub takes : (p : S) (look : Look) (q : S) → w.takes p look q → v.takes (f p) look (f q)
  pub front : (p : S) → w.front p ≡ v.front (f p)
  -- and what is known of all together
  pub whole : (ss : List S) → w.whole ss → v.whole (map f ss)

-- the run, by what its sides are shown as
abbrev pub shown_by : {S T : Type 0} → (S → T) → TheRun S → TheRun T
shown_by f s = over (map f s.rings) s

abbrev pub shown_at : {S T : Type 0} → (S → T) → RunMoment S → RunMoment T
shown_at f a = moment (shown_by f a.run) a.run_seat

-- Law: a core's run over sides of one table is one by the steps of sides of rings by themselves.
abbrev pub RunsAreShown : Type 0
RunsAreShown = (t : RunTask) (a b : RunMoment TheHistorySide) (part : Part) → CoreRan history_ways t a part b
    → CoreRan shared_ways t (shown_at (λ p. p.side) a) part (shown_at (λ p. p.side) b)
