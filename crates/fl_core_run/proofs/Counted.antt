-- Counted turns, and how they come to an end.
use Rattle.std.proofs.Common.{◌≡◌, refl, sym, ap, subst, ℕ, zero, suc, ◌+◌, ◌<◌, ◌≤◌, true, false, List, arith}
use Rattle.fl_cores_table.specs.Counter.{with_seen}
use Rattle.fl_cores_table.specs.Seats.{TheCoresSeat, knowing}
use Rattle.fl_core_run.specs.declared.run.RunEnd.TheVariants.{Finished, Unfinished, Told}
use Rattle.fl_core_run.specs.declared.run.Part.{Part}
use Rattle.fl_core_run.specs.declared.opening_status.OpeningStatus.{OpeningStatus}
use Rattle.fl_core_run.specs.Run.{SideRelations, TheRun}
use Rattle.fl_core_run.specs.Turn.{Swept, OneTurn, Turned}
use Rattle.fl_core_run.specs.OpeningStatus.{TheRunSeat, stock, ExchangesAll, SaidNothing}
use Rattle.fl_core_run.specs.Finished.{is_finished}
use Rattle.fl_core_run.specs.Ran.{RunTask, RunMoment, moment, CountedTurn, Counted}

pub counted_turn : {S : Type 0} (w : SideRelations S) (t : RunTask) (a : RunMoment S) (words : List OpeningStatus) (v u : TheCoresSeat) (count : ℕ) (r : TheRun S)
    → ExchangesAll a.run t.plan.ends.items a.run_seat (stock words v) → is_finished a.run t.plan.ends.items words ≡ false → count < 17
    → u ≡ knowing v (with_seen v.knows count) → OneTurn w t.plan t.jobs a.run r → CountedTurn w t a (moment r (stock words u))
counted_turn w t a words v u count r exchanges left few seen turn =
    record { stock = stock words v; left = (exchanges, left); count = count; sees = (refl, seen); no_stop = few; turn = turn }

pub one_turn_more : {S : Type 0} (w : SideRelations S) (t : RunTask) (a m b : RunMoment S) (turns : ℕ) → Swept (λ n. CountedTurn w t) turns a m → CountedTurn w t m b
    → Swept (λ n. CountedTurn w t) (turns + 1) a b
one_turn_more w t a m b turns s h = let e : suc turns ≡ turns + 1 = omega arith in subst (λ (k : ℕ). Swept (λ n. CountedTurn w t) k a b) e (m, s, h)

pub at_limit : {S : Type 0} (w : SideRelations S) (t : RunTask) (a b : RunMoment S) (turns limit : ℕ) → Swept (λ n. CountedTurn w t) turns a b → turns ≤ limit → limit ≤ turns
    → Swept (λ n. CountedTurn w t) limit a b
at_limit w t a b turns limit s few past = let e : turns ≡ limit = omega (arith, few, past) in subst (λ (k : ℕ). Swept (λ n. CountedTurn w t) k a b) e s

module _ {S : Type 0} (w : SideRelations S) (t : RunTask) (a : RunMoment S) (r : TheRun S) (c : TheRunSeat) (turns : ℕ) (words : List OpeningStatus) (v : TheCoresSeat)
    (swept : Swept (λ n. CountedTurn w t) turns a (moment r c)) (few : turns ≤ t.limit) (exchanges : ExchangesAll r t.plan.ends.items c (stock words v)) where
  pub counted_finished : is_finished r t.plan.ends.items words ≡ true → SaidNothing a.run_seat.seat v
      → Counted w t a (record { turns = turns; end = Finished }) (moment r (stock words v))
  counted_finished done quiet = record { after = moment r c; turns = swept; few = few; ends = (exchanges, done); rests = refl; seat = quiet }

  pub counted_unfinished : is_finished r t.plan.ends.items words ≡ false → turns ≡ t.limit → SaidNothing a.run_seat.seat v
      → Counted w t a (record { turns = turns; end = Unfinished }) (moment r (stock words v))
  counted_unfinished left last quiet = record { after = moment r c; turns = swept; few = few; ends = (last, (exchanges, left)); rests = refl; seat = quiet }

  pub counted_told : (u : TheCoresSeat) (count : ℕ) → is_finished r t.plan.ends.items words ≡ false → 16 < count → u ≡ knowing v (with_seen v.knows count)
      → SaidNothing a.run_seat.seat u → Counted w t a (record { turns = turns; end = Told }) (moment r (stock words u))
  counted_told u count left stop seen quiet =
      record { after = moment r c; turns = swept; few = few; ends = (stock words v, count, (exchanges, left), (refl, seen), stop); rests = refl; seat = quiet }

module _ {S : Type 0} (w : SideRelations S) (t : RunTask) where
  pub are_turns : (k : ℕ) (a b : RunMoment S) → Swept (λ n. CountedTurn w t) k a b → Turned w t.plan t.jobs k a.run b.run
  are_turns zero a b h = ap (λ (m : RunMoment S). m.run) h
  are_turns (suc k) a b h = (h.0.run, are_turns k a h.0 h.1, h.2.turn)

  pub turns_of : (a b : RunMoment S) (part : Part) → Counted w t a part b → Turned w t.plan t.jobs part.turns a.run b.run
  turns_of a b part h = subst (λ (r : TheRun S). Turned w t.plan t.jobs part.turns a.run r) (sym h.rests) (are_turns part.turns a h.after h.turns)
