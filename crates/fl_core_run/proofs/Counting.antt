-- Turns add up, and what is told of them.
use Rattle.std.proofs.Common.{◌≡◌, refl, sym, ap, ◌∙◌, ℕ, zero, suc, subst, List}
use Rattle.fl_cores_table.specs.Counter.{with_finish, with_seen}
use Rattle.fl_cores_table.specs.Seats.{TheCoresSeat, knowing}
use Rattle.fl_core.specs.declared.core_job.CoreJob.{CoreJob}
use Rattle.fl_core_run.specs.declared.plan.TurnPlan.{TurnPlan}
use Rattle.fl_core_run.specs.declared.run.RunEnd.{RunEnd}
use Rattle.fl_core_run.specs.declared.run.RunEnd.TheVariants.{Finished, Unfinished, Told}
use Rattle.fl_core_run.specs.declared.run.Part.{Part}
use Rattle.fl_core_run.specs.declared.opening_status.OpeningStatus.{OpeningStatus}
use Rattle.fl_core_run.specs.Run.{SideRelations, TheRun}
use Rattle.fl_core_run.specs.Turn.{OneTurn}
use Rattle.fl_core_run.specs.OpeningStatus.{SaidNothing, stock}
use Rattle.fl_core_run.specs.Ran.{RunTask, RunMoment, moment, Counted, TellsEnd, SomeTurns, HaveEnded, GoesOn, CoreRan}
use Rattle.fl_core_run.proofs.Stock.{quiet}

pub no_turns : {S : Type 0} (w : SideRelations S) (plan : TurnPlan) (jobs : List CoreJob) (s : TheRun S) → SomeTurns w plan jobs s s
no_turns w plan jobs s = (zero, refl)

pub some_more : {S : Type 0} (w : SideRelations S) (plan : TurnPlan) (jobs : List CoreJob) (s m t : TheRun S) → SomeTurns w plan jobs s m → OneTurn w plan jobs m t → SomeTurns w plan jobs s t
some_more w plan jobs s m t some one = (suc some.0, (m, some.1, one))

-- a look at the counter that shows it
pub seen_ended : (cores count : ℕ) (v u : TheCoresSeat) → HaveEnded cores count → u ≡ knowing v (with_seen v.knows count) → HaveEnded cores u.knows.seen
seen_ended cores count v u ended same = subst (λ (x : TheCoresSeat). HaveEnded cores x.knows.seen) (sym same) ended

-- and leaves what was stored and heard
pub seen_stored : (v u : TheCoresSeat) (count : ℕ) → u ≡ knowing v (with_seen v.knows count) → u.knows.stored ≡ v.knows.stored
seen_stored v u count same = ap (λ (x : TheCoresSeat). x.knows.stored) same

pub seen_heard : (v u : TheCoresSeat) (count : ℕ) → u ≡ knowing v (with_seen v.knows count) → u.knows.heard ≡ v.knows.heard
seen_heard v u count same = ap (λ (x : TheCoresSeat). x.knows.heard) same

-- a core that saw that another stopped
pub ran_told : {S : Type 0} (w : SideRelations S) (t : RunTask) (a b : RunMoment S) (part : Part) → Counted w t a part b → part.end ≡ Told → CoreRan w t a part b
ran_told w t a b part counted is = record {
  middle = b;
  counted = counted;
  told = b.run_seat.seat;
  tells = subst (λ (e : RunEnd). TellsEnd e b.run_seat.seat b.run_seat.seat) (sym is) refl;
  goes_on = subst (λ (e : RunEnd). GoesOn w t e b.run b.run) (sym is) refl;
  after = quiet b.run_seat.seat;
  stored = refl;
  heard = refl;
  others = λ finished. let same : Told ≡ Finished = sym is ∙ finished in absurd (cc same);
}

module _ {S : Type 0} (w : SideRelations S) (t : RunTask) (a b : RunMoment S) (part : Part) (u : TheCoresSeat) (counted : Counted w t a part b) where
  -- a core that reached its limit
  pub ran_unfinished : part.end ≡ Unfinished → u ≡ knowing b.run_seat.seat (with_finish b.run_seat.seat.knows) → CoreRan w t a part (moment b.run (stock b.run_seat.words u))
  ran_unfinished is told = record {
    middle = b;
    counted = counted;
    told = u;
    tells = subst (λ (e : RunEnd). TellsEnd e b.run_seat.seat u) (sym is) told;
    goes_on = subst (λ (e : RunEnd). GoesOn w t e b.run b.run) (sym is) refl;
    after = quiet u;
    stored = refl;
    heard = refl;
    others = λ finished. let same : Unfinished ≡ Finished = sym is ∙ finished in absurd (cc same);
  }

  -- a core that finished, and went on
  pub ran_finished : (r : TheRun S) (words : List OpeningStatus) (v : TheCoresSeat) → part.end ≡ Finished → u ≡ knowing b.run_seat.seat (with_finish b.run_seat.seat.knows)
      → SomeTurns w t.plan t.jobs b.run r → SaidNothing u v → v.knows.stored ≡ u.knows.stored → v.knows.heard ≡ u.knows.heard
      → HaveEnded t.plan.cores v.knows.seen → CoreRan w t a part (moment r (stock words v))
  ran_finished r words v is told more after stored heard others = record {
    middle = b;
    counted = counted;
    told = u;
    tells = subst (λ (e : RunEnd). TellsEnd e b.run_seat.seat u) (sym is) told;
    goes_on = subst (λ (e : RunEnd). GoesOn w t e b.run r) (sym is) more;
    after = after;
    stored = stored;
    heard = heard;
    others = λ finished. others;
  }
