-- Turns, and whole runs, over sides are those over what they are shown as.
use Rattle.std.proofs.Common.{ℕ, zero, suc, ◌≡◌, ◌≤◌, inl, inr, ◌&&◌, nat_lt, Bool, true, false, if◌then◌else◌, refl, sym, ap, subst, ◌∙◌, List, length, map, slice_get, Option, Some, None, Result, Ok, Err}
use Rattle.std.proofs.lemmas.List.{length-map}
use Rattle.fl_base.specs.declared.identity.EndId.{EndId}
use Rattle.fl_base.specs.declared.identity.LinkId.{LinkId}
use Rattle.fl_base.specs.Given.{given}
use Rattle.fl_value_data.specs.declared.value.Call.{Call as AnyCall}
use Rattle.fl_value_data.specs.Value.{call_of}
use Rattle.fl_cores_table.specs.Seats.{TheCoresSeat}
use Rattle.fl_core.specs.BoardView.{due}
use Rattle.fl_core.specs.View.{place_of, side_of_link, outlet_of, inlet_of}
use Rattle.fl_core.specs.declared.answer.LinkFront.{LinkFront}
use Rattle.fl_core.specs.declared.answer.LinkFront.TheVariants as front
use Rattle.fl_core.specs.declared.fault.LinkReceiveFault.{LinkReceiveFault}
use Rattle.fl_core.specs.declared.wiring.Outlet.{Outlet}
use Rattle.fl_core.specs.declared.wiring.Outlet.TheVariants as outlet
use Rattle.fl_core.specs.declared.wiring.Inlet.{Inlet}
use Rattle.fl_core.specs.declared.wiring.Inlet.TheVariants as inlet
use Rattle.fl_core.specs.declared.core_job.OpenRequest.{OpenRequest}
use Rattle.fl_core.specs.declared.core_job.CoreJob.{CoreJob}
use Rattle.fl_core.specs.declared.core_job.CoreJob.TheVariants as job
use Rattle.fl_core_run.specs.declared.lent.LentTakeEnd.{LentTakeEnd}
use Rattle.fl_core_run.specs.declared.lent.LentPutEnd.{LentPutEnd}
use Rattle.fl_core_run.specs.declared.lent.LentRingEnd.{LentRingEnd}
use Rattle.fl_core_run.specs.declared.opening_status.OpeningStatus.{OpeningStatus}
use Rattle.fl_core_run.specs.declared.opening_status.OpeningStatus.TheVariants as word
use Rattle.fl_core_run.specs.declared.plan.TurnPlan.{TurnPlan}
use Rattle.fl_core_run.specs.declared.run.Part.{Part}
use Rattle.fl_core_run.specs.declared.run.RunEnd.{RunEnd}
use Rattle.fl_core_run.specs.declared.run.RunEnd.TheVariants as end
use Rattle.fl_core_run.specs.Run.{SideRelations, TheRun, next_job, lends_out, lends_in, lent_link_side, lent_post_at, lent_post, lent_due, side_in, lent_ring_end}
use Rattle.fl_core_run.specs.LogEntries.{looked, passed, arrived, heard, said, told, opened, called, ruled, wrote, acked, turned}
use Rattle.fl_core_run.specs.Steps.{HandsOut, ForwardsOver, Forwards, SaysOver, Says, TellsOver, Tells, may_ask, OpensIf, CallsAt, ReplyRule, reply_rule, RulesAt, Tries, WritesFrom, Serves, AcksFrom, Acknowledges, awaits, DueTurn, due_turn, TurnsIf, TurnsAt, TakesTurn}
use Rattle.fl_core_run.specs.Turn.{Swept, At, ForEach, OneTurn, Turned}
use Rattle.fl_core_run.specs.OpeningStatus.{TheRunSeat, Exchanges, ExchangesAt}
use Rattle.fl_core_run.specs.Finished.{is_done_at, is_done, all_done}
use Rattle.fl_core_run.specs.Ran.{RunTask, RunMoment, TakesStock, CountedTurn, EndsAs, Counted, GoesOn, CoreRan}
use Rattle.fl_history_sides.specs.States.{TheHistorySide}
use Rattle.fl_history_sides.specs.Ways.{history_ways}
use Rattle.fl_history_runs.specs.Shown.{shared_ways, IsShownBy, shown_by, shown_at, RunsAreShown}
use Rattle.fl_history_runs.proofs.Events.{happens}

-- steps one after another
swept_by : {A B : Type 0} (g : A → B) (R : ℕ → A → A → Type 0) (Q : ℕ → B → B → Type 0) → ((n : ℕ) (s t : A) → R n s t → Q n (g s) (g t)) → (n : ℕ) (s t : A) → Swept R n s t → Swept Q n (g s) (g t)
swept_by g R Q so zero s t same = ap g same
swept_by g R Q so (suc n) s t (m, before, last) = (g m, swept_by g R Q so n s m before, so n m t last)

each_by : {X A B : Type 0} (g : A → B) (xs : List X) (R : X → A → A → Type 0) (Q : X → B → B → Type 0) → ((x : X) (s t : A) → R x s t → Q x (g s) (g t)) → (s t : A) → ForEach xs R s t → ForEach xs Q (g s) (g t)
each_by g xs R Q so s t all = swept_by g (At xs R) (At xs Q) (λ n a b one. (one.0, one.1, so one.0 a b one.2)) (length xs) s t all

-- a choice that two functions make alike
given_alike : {A B : Type 0} (o : Option A) (d : B) (g g2 : A → B) → ((a : A) → g a ≡ g2 a) → (given o d g) ≡ (given o d g2)
given_alike None d g g2 same = refl
given_alike (Some a) d g g2 same = same a

module _ {S T : Type 0} (f : S → T) (w : SideRelations S) (v : SideRelations T) (h : IsShownBy f w v) where
  abbrev shown : TheRun S → TheRun T
  shown s = shown_by f s

  shows : (s : TheRun S) → length (map f s.rings) ≡ length s.rings
  shows s = length-map s.rings f

  -- ---- what is lent

  link_side_same : (s : TheRun S) (l : LinkId) → lent_link_side (shown_by f s) l ≡ lent_link_side s l
  link_side_same s l = ap (λ (k : ℕ). given (side_of_link s.core.link_sides l.0) None λ n. if nat_lt n k then Some n else None) (shows s)

  out_same : (s : TheRun S) (out : Outlet) → lends_out (shown_by f s) out ≡ lends_out s out
  out_same s (outlet.Queue n) = refl
  out_same s (outlet.Side n) = ap (λ (k : ℕ). nat_lt n k) (shows s)

  in_same : (s : TheRun S) (from : Inlet) → lends_in (shown_by f s) from ≡ lends_in s from
  in_same s (inlet.Queue n) = refl
  in_same s (inlet.Side n) = ap (λ (k : ℕ). nat_lt n k) (shows s)
  in_same s inlet.Arrivals = refl

  post_same : (s : TheRun S) (name : EndId) → lent_post (shown_by f s) name ≡ lent_post s name
  post_same s name =
      given_alike (place_of s.core name) None (λ e. lent_post_at (shown_by f s) e) (λ e. lent_post_at s e)
      (λ e. given_alike (outlet_of s.core e) None (λ out. if lends_out (shown_by f s) out then Some (record { end = e; outlet = out }) else None) (λ out. if lends_out s out then Some (record { end = e; outlet = out }) else None)
      (λ out. ap (λ (b : Bool). let o : Option LentPutEnd = if b then Some (record { end = e; outlet = out }) else None in o) (out_same s out)))

  due_same : (s : TheRun S) (n : ℕ) → lent_due (shown_by f s) n ≡ lent_due s n
  due_same s n =
      given_alike (due s.core.board n) None (λ e. given (inlet_of s.core e) None λ from. if lends_in (shown_by f s) from then Some (record { end = e; inlet = from }) else None)
      (λ e. given (inlet_of s.core e) None λ from. if lends_in s from then Some (record { end = e; inlet = from }) else None)
      (λ e. given_alike (inlet_of s.core e) None (λ from. if lends_in (shown_by f s) from then Some (record { end = e; inlet = from }) else None) (λ from. if lends_in s from then Some (record { end = e; inlet = from }) else None)
      (λ from. ap (λ (b : Bool). let o : Option LentTakeEnd = if b then Some (record { end = e; inlet = from }) else None in o) (in_same s from)))

  ring_end_same : (s : TheRun S) (name : EndId) → lent_ring_end (shown_by f s) name ≡ lent_ring_end s name
  ring_end_same s name =
      ap (λ (k : ℕ).
      let o : Option LentRingEnd =
      given (place_of s.core name) None λ e. given (inlet_of s.core e) None λ from. given (side_in from) None λ n. if nat_lt n k then Some (record { end = e; side = n }) else None
      in o) (shows s)

  -- ---- for a link

  hands_out : (n : ℕ) (l : LinkId) (seen : Result LinkFront LinkReceiveFault) (s t : TheRun S) → HandsOut w n l seen s t → HandsOut v n l seen (shown s) (shown t)
  hands_out n l (Ok (front.Message frag)) s t (answer, e, more) = (answer, happens f w v h (heard n l frag answer) s t e, more)
  hands_out n l (Ok (front.Onward frag to c)) s t (inl (outcome, e)) = inl (outcome, happens f w v h (passed n to frag c outcome) s t e)
  hands_out n l (Ok (front.Onward frag to c)) s t (inr (inl same, is)) = inr (inl same, ap shown is)
  hands_out n l (Ok (front.Onward frag to c)) s t (inr (inr past, is)) = inr (inr (subst (λ (k : ℕ). k ≤ to) (sym (shows s)) past), ap shown is)
  hands_out n l (Ok (front.Arrival frag e)) s t (answer, x) = (answer, happens f w v h (arrived n l frag e answer) s t x)
  hands_out n l (Ok front.Nothing) s t is = ap shown is
  hands_out n l (Ok front.Acknowledged) s t is = ap shown is
  hands_out n l (Err wrong) s t is = ap shown is

  forwards_over : (l : LinkId) (o : Option ℕ) (s t : TheRun S) → ForwardsOver w l o s t → ForwardsOver v l o (shown s) (shown t)
  forwards_over l None s t is = ap shown is
  forwards_over l (Some n) s t (seen, m, e, out) = (seen, shown m, happens f w v h (looked n l seen) s m e, hands_out n l seen m t out)

  forwards : (l : LinkId) (s t : TheRun S) → Forwards w l s t → Forwards v l (shown s) (shown t)
  forwards l s t e = subst (λ (o : Option ℕ). ForwardsOver v l o (shown s) (shown t)) (sym (link_side_same s l)) (forwards_over l (lent_link_side s l) s t e)

  says_over : (l : LinkId) (o : Option ℕ) (s t : TheRun S) → SaysOver w l o s t → SaysOver v l o (shown s) (shown t)
  says_over l None s t is = ap shown is
  says_over l (Some n) s t (answer, e) = (answer, happens f w v h (said n l answer) s t e)

  says : (l : LinkId) (s t : TheRun S) → Says w l s t → Says v l (shown s) (shown t)
  says l s t e = subst (λ (o : Option ℕ). SaysOver v l o (shown s) (shown t)) (sym (link_side_same s l)) (says_over l (lent_link_side s l) s t e)

  tells_over : (l : LinkId) (o : Option ℕ) (s t : TheRun S) → TellsOver w l o s t → TellsOver v l o (shown s) (shown t)
  tells_over l None s t is = ap shown is
  tells_over l (Some n) s t (answer, e) = (answer, happens f w v h (told n l answer) s t e)

  tells : (l : LinkId) (s t : TheRun S) → Tells w l s t → Tells v l (shown s) (shown t)
  tells l s t e = subst (λ (o : Option ℕ). TellsOver v l o (shown s) (shown t)) (sym (link_side_same s l)) (tells_over l (lent_link_side s l) s t e)

  -- ---- for an end

  opens_if : (b : Bool) (name : EndId) (request : OpenRequest) (s t : TheRun S) → OpensIf w b name request s t → OpensIf v b name request (shown s) (shown t)
  opens_if false name request s t is = ap shown is
  opens_if true name request s t (answer, e, more) = (answer, happens f w v h (opened name request answer) s t e, more)

  calls_at : (name : EndId) (call : AnyCall) (o : Option ℕ) (s t : TheRun S) → CallsAt w name call o s t → CallsAt v name call o (shown s) (shown t)
  calls_at name call None s t is = ap shown is
  calls_at name call (Some e) s t (answer, x, more) = (answer, happens f w v h (called name (call_of call) answer) s t x, more)

  rules_at : (x : ReplyRule) (o : Option ℕ) (s t : TheRun S) → RulesAt w x o s t → RulesAt v x o (shown s) (shown t)
  rules_at x None s t is = ap shown is
  rules_at x (Some e) s t (answer, y) = (answer, happens f w v h (ruled x.end x.message x.reply answer) s t y)

  tries : (name : EndId) (o : Option CoreJob) (s t : TheRun S) → Tries w name o s t → Tries v name o (shown s) (shown t)
  tries name None s t is = ap shown is
  tries name (Some (job.Open request)) s t e = opens_if (may_ask s request) name request s t e
  tries name (Some (job.Call n call)) s t e = calls_at name call (place_of s.core name) s t e
  tries name (Some (job.Reply n msg reply)) s t e = rules_at (reply_rule name msg reply) (place_of s.core name) s t e

  writes_from : (name : EndId) (o : Option LentPutEnd) (s t : TheRun S) → WritesFrom w name o s t → WritesFrom v name o (shown s) (shown t)
  writes_from name None s t is = ap shown is
  writes_from name (Some post) s t (answer, e) = (answer, happens f w v h (wrote name post.outlet answer) s t e)

  serves : (jobs : List CoreJob) (name : EndId) (s t : TheRun S) → Serves w jobs name s t → Serves v jobs name (shown s) (shown t)
  serves jobs name s t (m, tried, written) = (
    shown m,
    tries name (next_job jobs s name) s m tried,
    subst (λ (o : Option LentPutEnd). WritesFrom v name o (shown m) (shown t)) (sym (post_same m name)) (writes_from name (lent_post m name) m t written),
  )

  acks_from : (name : EndId) (o : Option LentRingEnd) (s t : TheRun S) → AcksFrom w name o s t → AcksFrom v name o (shown s) (shown t)
  acks_from name None s t is = ap shown is
  acks_from name (Some ring_end) s t (answer, e) = (answer, happens f w v h (acked name ring_end.side answer) s t e)

  acks : (name : EndId) (s t : TheRun S) → Acknowledges w name s t → Acknowledges v name (shown s) (shown t)
  acks name s t e = subst (λ (o : Option LentRingEnd). AcksFrom v name o (shown s) (shown t)) (sym (ring_end_same s name)) (acks_from name (lent_ring_end s name) s t e)

  -- ---- for a dispatcher

  turns_if : (b : Bool) (x : DueTurn) (s t : TheRun S) → TurnsIf w b x s t → TurnsIf v b x (shown s) (shown t)
  turns_if true x s t is = ap shown is
  turns_if false x s t (answer, e) = (answer, happens f w v h (turned x.dispatcher x.name x.due.inlet answer) s t e)

  turns_at : (jobs : List CoreJob) (d : ℕ) (o : Option LentTakeEnd) (s t : TheRun S) → TurnsAt w jobs d o s t → TurnsAt v jobs d o (shown s) (shown t)
  turns_at jobs d None s t is = ap shown is
  turns_at jobs d (Some next) s t (name, is, e) = (name, is, turns_if (awaits jobs s name) (due_turn d name next) s t e)

  takes_turn : (jobs : List CoreJob) (d : ℕ) (s t : TheRun S) → TakesTurn w jobs d s t → TakesTurn v jobs d (shown s) (shown t)
  takes_turn jobs d s t e = subst (λ (o : Option LentTakeEnd). TurnsAt v jobs d o (shown s) (shown t)) (sym (due_same s d)) (turns_at jobs d (lent_due s d) s t e)

  -- ---- turns

  one_turn : (plan : TurnPlan) (jobs : List CoreJob) (s t : TheRun S) → OneTurn w plan jobs s t → OneTurn v plan jobs (shown s) (shown t)
  one_turn plan jobs s t x = record {
    forwarded = shown x.forwarded;
    forwards = each_by shown plan.links.items (Forwards w) (Forwards v) forwards s x.forwarded x.forwards;
    said = shown x.said;
    says = each_by shown plan.links.items (Says w) (Says v) says x.forwarded x.said x.says;
    served = shown x.served;
    serves = each_by shown plan.ends.items (Serves w jobs) (Serves v jobs) (serves jobs) x.said x.served x.serves;
    turned = shown x.turned;
    turns = swept_by shown (TakesTurn w jobs) (TakesTurn v jobs) (takes_turn jobs) plan.dispatchers x.served x.turned x.turns;
    told = shown x.told;
    tells = each_by shown plan.links.items (Tells w) (Tells v) tells x.turned x.told x.tells;
    acks = each_by shown plan.ends.items (Acknowledges w) (Acknowledges v) acks x.told t x.acks;
  }

  turned_so : (plan : TurnPlan) (jobs : List CoreJob) (k : ℕ) (s t : TheRun S) → Turned w plan jobs k s t → Turned v plan jobs k (shown s) (shown t)
  turned_so plan jobs k s t all = swept_by shown (λ n. OneTurn w plan jobs) (λ n. OneTurn v plan jobs) (λ n a b one. one_turn plan jobs a b one) k s t all

  -- ---- stock

  exchanges_same : (s : TheRun S) (name : EndId) (x : OpeningStatus) (a : TheCoresSeat) (y : OpeningStatus) (b : TheCoresSeat) → Exchanges s name x a y b → Exchanges (shown_by f s) name x a y b
  exchanges_same s name word.Silent a y b e = e
  exchanges_same s name (word.Tells n) a y b e = e
  exchanges_same s name (word.Hears n) a y b e = e
  exchanges_same s name (word.Refused n) a y b e = e

  exchange_at : (s : TheRun S) (ends : List EndId) (k : ℕ) (a b : TheRunSeat) → ExchangesAt s ends k a b → ExchangesAt (shown_by f s) ends k a b
  exchange_at s ends k a b x = record {
    name = x.name;
    name_is = x.name_is;
    word = x.word;
    word_is = x.word_is;
    after = x.after;
    exchanges = exchanges_same s x.name x.word a.seat x.after b.seat x.exchanges;
    rest = x.rest;
  }

  done_at_same : (s : TheRun S) (name : EndId) (x : OpeningStatus) → is_done_at (shown_by f s) name x ≡ is_done_at s name x
  done_at_same s name word.Silent = refl
  done_at_same s name (word.Tells n) = refl
  done_at_same s name (word.Hears n) = refl
  done_at_same s name (word.Refused n) = refl

  done_same : (s : TheRun S) (ends : List EndId) (words : List OpeningStatus) (k : ℕ) → is_done (shown_by f s) ends words k ≡ is_done s ends words k
  done_same s ends words k =
      given_alike (slice_get ends k) true (λ name. given (slice_get words k) true λ x. is_done_at (shown_by f s) name x) (λ name. given (slice_get words k) true λ x. is_done_at s name x)
      (λ name. given_alike (slice_get words k) true (λ x. is_done_at (shown_by f s) name x) (λ x. is_done_at s name x) (λ x. done_at_same s name x))

  all_done_same : (s : TheRun S) (ends : List EndId) (words : List OpeningStatus) (k : ℕ) → all_done (shown_by f s) ends words k ≡ all_done s ends words k
  all_done_same s ends words zero = refl
  all_done_same s ends words (suc k) =
      ap (λ (b : Bool). b && is_done (shown_by f s) ends words k) (all_done_same s ends words k) ∙ ap (λ (b : Bool). all_done s ends words k && b) (done_same s ends words k)

  takes_stock : (plan : TurnPlan) (a : RunMoment S) (c : TheRunSeat) (finished : Bool) → TakesStock plan a c finished → TakesStock plan (shown_at f a) c finished
  takes_stock plan a c finished (all, is) = (
    swept_by (λ (x : TheRunSeat). x) (ExchangesAt a.run plan.ends.items) (ExchangesAt (shown_by f a.run) plan.ends.items) (λ n x y one. exchange_at a.run plan.ends.items n x y one) (length plan.ends.items) a.run_seat c all,
    all_done_same a.run plan.ends.items c.words (length plan.ends.items) ∙ is,
  )

  -- ---- the whole

  counted_turn : (t : RunTask) (a b : RunMoment S) → CountedTurn w t a b → CountedTurn v t (shown_at f a) (shown_at f b)
  counted_turn t a b x = record {
    stock = x.stock;
    left = takes_stock t.plan a x.stock false x.left;
    count = x.count;
    sees = x.sees;
    no_stop = x.no_stop;
    turn = one_turn t.plan t.jobs a.run b.run x.turn;
  }

  ends_as : (t : RunTask) (turns : ℕ) (e : RunEnd) (a : RunMoment S) (c : TheRunSeat) → EndsAs t turns e a c → EndsAs t turns e (shown_at f a) c
  ends_as t turns end.Finished a c x = takes_stock t.plan a c true x
  ends_as t turns end.Unfinished a c (few, x) = (few, takes_stock t.plan a c false x)
  ends_as t turns end.Told a d (c, count, x, sees, past) = (c, count, takes_stock t.plan a c false x, sees, past)

  counted : (t : RunTask) (a : RunMoment S) (part : Part) (b : RunMoment S) → Counted w t a part b → Counted v t (shown_at f a) part (shown_at f b)
  counted t a part b x = record {
    after = shown_at f x.after;
    turns = swept_by (shown_at f) (λ n. CountedTurn w t) (λ n. CountedTurn v t) (λ n c d one. counted_turn t c d one) part.turns a x.after x.turns;
    few = x.few;
    ends = ends_as t part.turns part.end x.after b.run_seat x.ends;
    rests = ap shown x.rests;
    seat = x.seat;
  }

  goes_on : (t : RunTask) (e : RunEnd) (s u : TheRun S) → GoesOn w t e s u → GoesOn v t e (shown s) (shown u)
  goes_on t end.Finished s u (more, all) = (more, turned_so t.plan t.jobs more s u all)
  goes_on t end.Unfinished s u is = ap shown is
  goes_on t end.Told s u is = ap shown is

  pub ran_shown : (t : RunTask) (a b : RunMoment S) (part : Part) → CoreRan w t a part b → CoreRan v t (shown_at f a) part (shown_at f b)
  ran_shown t a b part x = record {
    middle = shown_at f x.middle;
    counted = counted t a part x.middle x.counted;
    told = x.told;
    tells = x.tells;
    goes_on = goes_on t part.end x.middle.run b.run x.goes_on;
    after = x.after;
    stored = x.stored;
    heard = x.heard;
    others = x.others;
  }

-- ---- sides of one table

shows_history : IsShownBy (λ (p : TheHistorySide). p.side) history_ways shared_ways
shows_history = record { puts = λ p look q puts. puts.0; takes = λ p look q takes. takes.0; front = λ p. refl; whole = λ ss one. tt }

pub runs_are_shown : RunsAreShown
runs_are_shown = λ t a b part ran. ran_shown (λ (p : TheHistorySide). p.side) history_ways shared_ways shows_history t a b part ran
