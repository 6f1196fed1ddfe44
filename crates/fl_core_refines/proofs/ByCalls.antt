-- Where each job is a call, turns of one core by itself are turns by these calls.
use Rattle.std.proofs.Common.{◌≡◌, refl, sym, ◌∙◌, ap, subst, ℕ, zero, suc, ◌==◌, ◌&&◌, nat_le, not, Bool, true, false, if◌then◌else◌, List, []}
use Rattle.std.proofs.Common.{◌∷◌, ◌++◌, length, map, slice_get, slice_set, Option, Some, None, IsSome, is_some}
use Rattle.fl_base.specs.declared.identity.EndId.{EndId}
use Rattle.fl_base.specs.declared.identity.Side.{Side}
use Rattle.fl_base.specs.declared.identity.Side.TheVariants.{Client, Server}
use Rattle.fl_base.specs.Given.{given}
use Rattle.fl_value_data.specs.declared.value.Call.{Call}
use Rattle.fl_value_data.specs.Fits.{fits_of}
use Rattle.fl_value_data.specs.Value.{TheCall, call_of}
use Rattle.fl_core.specs.View.{slot_of}
use Rattle.fl_model.specs.Given.{changed_at}
use Rattle.fl_model.specs.Events.{Event, call, write, turn, Answer, accepted, handle, nothing, refused}
use Rattle.fl_model.specs.Calls.{Planned}
use Rattle.fl_model.specs.Ends.{End, is_bound}
use Rattle.fl_model.specs.Sending.{makes_call, writes_next, calls as machine_calls, writes_fragment}
use Rattle.fl_model.specs.Sound.{Sound}
use Rattle.fl_model.specs.SoundRoutes.{BoundBy, BoundWhere}
use Rattle.fl_model.specs.State.{OpeningVerdict, undecided, granted, denied, Back, local, over_ring, over_route, Binding, State, StepOutcome, answers, binding_of}
use Rattle.fl_model.specs.State.{Route, interface_of, end_in, end_of, dispatcher_of}
use Rattle.fl_model.specs.Step.{settles_by, settles, step}
use Rattle.fl_model.specs.Taking.{turns as machine_turns, turns_by, gives, chosen, examines}
use Rattle.fl_model.specs.Waits.{Dispatcher, Due, pending, polled, no_one, due, end_due}
use Rattle.fl_model_laws.proofs.Cases.{either, each_changed}
use Rattle.fl_model_laws.proofs.Refusals.{refusals_same}
use Rattle.fl_model_laws.proofs.SoundSteps.{steps_are_sound}
use Rattle.fl_world_refines.proofs.FramesBase.{not_both}
use Rattle.fl_core.specs.declared.core_job.CoreJob.{CoreJob}
use Rattle.fl_core.specs.declared.core_job.CoreJob.TheVariants as job
use Rattle.fl_core.specs.Jobs.{calls_of_job, calls_of_jobs}
use Rattle.fl_core_refines.specs.AloneTurns.{MachineProgress, MachineRun, at_progress, advanced, with_handled as progress_handled, next_job, goes, is_there, call_noted, calls as progress_calls, tries}
use Rattle.fl_core_refines.specs.AloneTurns.{serves as progress_serves, here, due_at, is_before_calls, turn_noted, turns_at, takes_turn, MachineTask, swept}
use Rattle.fl_core_refines.specs.AloneTurns.{serves_at as progress_serves_at, one_turn as progress_turn, turned as progress_turned, is_still, is_clear as progress_is_clear}
use Rattle.fl_core_refines.specs.AloneTurns.{is_done_at as progress_is_done_at, are_done as progresses_are_done, is_finished as progresses_finished, first_finished as progresses_first}
use Rattle.fl_core_refines.specs.AloneCalls.{CallProgress, CallRun, post_at, next_call, does, one_made, one_handled, with_made, with_handled, calls, serves, has_turn, serves_at}
use Rattle.fl_core_refines.specs.AloneCalls.{one_turn, turned, is_clear, is_done_at, are_done, is_finished, first_finished, AreCalls, EachCalls, post_of, solo_of, span_of}
use Rattle.fl_core_refines.specs.AloneCalls.{JobsGoByCalls}
use Rattle.fl_core_refines.proofs.Progress.{get_some, get_none, map_set}

-- ---- jobs that are calls

one_more_call : (jobs : List CoreJob) (place : ℕ) (places : List ℕ) (e : EndId) (c : Call) → slice_get jobs place ≡ Some (job.Call e c)
    → calls_of_jobs jobs (place ∷ places) ≡ call_of c ∷ calls_of_jobs jobs places
one_more_call jobs place places e c q = ap (λ o. calls_of_job o ++ calls_of_jobs jobs places) q

none_next : (jobs : List CoreJob) (places : List ℕ) (n : ℕ) → AreCalls jobs places → slice_get places n ≡ None → slice_get (calls_of_jobs jobs places) n ≡ None
none_next jobs [] n h q = refl
none_next jobs (p ∷ places) zero h q = absurd (cc)
none_next jobs (p ∷ places) (suc n) h q =
    let (e, c, is) = h.0 in
    ap (λ cs. slice_get cs (suc n)) (one_more_call jobs p places e c is) ∙ none_next jobs places n h.1 q

-- the job at a place is a call, and so the one at that place among the calls
record IsCall (jobs : List CoreJob) (places : List ℕ) (n place : ℕ) : Type 0 where
  pub end : EndId
  pub call : Call
  pub job_is : slice_get jobs place ≡ Some (job.Call end call)
  pub call_is : slice_get (calls_of_jobs jobs places) n ≡ Some (call_of call)

one_next : (jobs : List CoreJob) (places : List ℕ) (n place : ℕ) → AreCalls jobs places → slice_get places n ≡ Some place → IsCall jobs places n place
one_next jobs [] n place h q = absurd (cc)
one_next jobs (p ∷ places) zero place h q =
    let (e, c, is) = h.0 in
    let same : p ≡ place = cc in
    record {
      end = e;
      call = c;
      job_is = subst (λ m. slice_get jobs m ≡ Some (job.Call e c)) same is;
      call_is = ap (λ cs. slice_get cs zero) (one_more_call jobs p places e c is);
    }
one_next jobs (p ∷ places) (suc n) place h q =
    let (e, c, is) = h.0 in
    let one = one_next jobs places n place h.1 q in
    record {
      end = one.end;
      call = one.call;
      job_is = one.job_is;
      call_is = ap (λ cs. slice_get cs (suc n)) (one_more_call jobs p places e c is) ∙ one.call_is;
    }

as_many : (jobs : List CoreJob) (places : List ℕ) → AreCalls jobs places → length (calls_of_jobs jobs places) ≡ length places
as_many jobs [] h = refl
as_many jobs (p ∷ places) h =
    let (e, c, is) = h.0 in
    ap (λ cs. length cs) (one_more_call jobs p places e c is) ∙ ap suc (as_many jobs places h.1)

-- ---- ends' progress and posts

map_changed : {X Y : Type 0} (g : X → Y) (f : X → X) (h : Y → Y) (n : ℕ) (xs : List X) → ((x : X) → g (f x) ≡ h (g x))
    → map g (changed_at n f xs) ≡ changed_at n h (map g xs)
map_changed {X} {Y} g f h n xs same = by (slice_get xs n) refl
  where
    by : (o : Option X) → slice_get xs n ≡ o → map g (changed_at n f xs) ≡ changed_at n h (map g xs)
    by None q =
        ap (λ o. map g (given o xs λ x. slice_set xs n (f x))) q
        ∙ sym (ap (λ o. given o (map g xs) λ y. slice_set (map g xs) n (h y)) (get_none g xs n q))
    by (Some x) q =
        ap (λ o. map g (given o xs λ y. slice_set xs n (f y))) q
        ∙ map_set g xs n (f x)
        ∙ ap (slice_set (map g xs) n) (same x)
        ∙ sym (ap (λ o. given o (map g xs) λ y. slice_set (map g xs) n (h y)) (get_some g xs n x q))

-- ---- what is kept

record Fine (jobs : List CoreJob) (a : MachineRun) : Type 0 where
  pub sound : Sound a.state
  pub stands : a.state.may_set_cores ≡ false
  pub are_calls : EachCalls jobs a.progresses

settled_stands : (a : Answer) (t : State) → ((n : ℕ) → a ≡ refused n → t.may_set_cores ≡ false) → (settles_by a t).may_set_cores ≡ false
settled_stands (refused n) t h = h n refl
settled_stands a t h = refl

still_stands : (s : State) (event : Event) (o : StepOutcome) → step s event ≡ record { state = settles_by o.answer o.state; answer = o.answer }
    → s.may_set_cores ≡ false → (step s event).state.may_set_cores ≡ false
still_stands s event o is stands =
    ap (λ (x : StepOutcome). x.state.may_set_cores) is
    ∙ settled_stands o.answer o.state (λ n q.
    let same : o.state ≡ s =
    sym (ap (λ a. settles_by a o.state) q) ∙ sym (ap (λ (x : StepOutcome). x.state) is) ∙ refusals_same s event n (ap (λ (x : StepOutcome). x.answer) is ∙ q) in
    ap (λ (t : State). t.may_set_cores) same ∙ stands)

fine_goes : (jobs : List CoreJob) (a : MachineRun) (event : Event) → (step a.state event).state.may_set_cores ≡ false → Fine jobs a → Fine jobs (goes event a)
fine_goes jobs a event stands h = record { sound = steps_are_sound a.state event h.sound; stands = stands; are_calls = h.are_calls }

fine_at : (jobs : List CoreJob) (a : MachineRun) (e : EndId) (change : MachineProgress → MachineProgress) → ((d : MachineProgress) → (change d).jobs ≡ d.jobs) → Fine jobs a
    → Fine jobs (at_progress e change a)
fine_at jobs a e change same h = record {
  sound = h.sound;
  stands = h.stands;
  are_calls = each_changed (λ (d : MachineProgress). AreCalls jobs d.jobs) a.progresses (slot_of e) change h.are_calls (λ d q k. subst (AreCalls jobs) (sym (same d)) k);
}

-- what comes of a step by jobs, and that the one by calls comes to the same
record Same (jobs : List CoreJob) (a : MachineRun) (b : CallRun) : Type 0 where
  pub fine : Fine jobs a
  pub same : solo_of jobs a ≡ b

-- ---- an end that isn't there is refused

abbrev IsRefused : State → StepOutcome → Type 0
IsRefused s o = (n : ℕ) × (o ≡ answers s (refused n))

no_seat : {X : Type 0} {P : Type 0} (o : Option X) → o ≡ None → IsSome o → P
no_seat None q h = absurd (cc)
no_seat (Some x) q h = absurd (cc)

unbound_by : (s : State) (side : Side) (b : Binding) (n : ℕ) → Sound s → slice_get s.bindings n ≡ Some b → (end_in side b).seat ≡ None
    → (end_in side b).circuit ≡ None
unbound_by s side b n sound q none = by side b.back refl none (sound.bound n b q)
  where
    server : (route : Route) (v : OpeningVerdict) → b.server.seat ≡ None → BoundBy route v b → b.server.circuit ≡ None
    server route undecided h k = k.1
    server route (denied i fault) h k = k.1
    server route (granted i) h k = no_seat b.server.seat h k.2

    by : (x : Side) (back : Back) → b.back ≡ back → (end_in x b).seat ≡ None → BoundWhere back b → (end_in x b).circuit ≡ None
    by Client local p h k = no_seat b.client.seat h k.2
    by Server local p h k = no_seat b.server.seat h k.3
    by Client (over_ring m) p h k = no_seat b.client.seat h k.2
    by Server (over_ring m) p h k = no_seat b.server.seat h k.3
    by Client (over_route route) p h k =
        let leads = sound.routes n route (record { binding = b; there = q; back = p }) in
        not_both b.client.seat leads.client h leads.client_is
    by Server (over_route route) p h k = server route route.verdict h k

is_unbound : (x : End) → x.circuit ≡ None → not (is_bound x) ≡ true
is_unbound x q = ap (λ o. not (is_some o)) q

both : {P : Type 0} (b : Bool) → b ≡ true → b ≡ false → P
both {P} b p q = let e : true ≡ false = sym p ∙ q in absurd (cc)

write_refused : (s : State) (e : EndId) (b : Binding) (i : Planned) → (end_in e.side b).circuit ≡ None → IsRefused s (writes_next e i b (end_in e.side b) s)
write_refused s e b i none =
    either (IsRefused s) (not (is_bound (end_in e.side b))) _ _ (λ q. (43, refl)) (λ q. both (not (is_bound (end_in e.side b)))
    (is_unbound (end_in e.side b) none) q)

call_refused : (s : State) (e : EndId) (c : TheCall) (i : Planned) (x : End) → x.circuit ≡ None → IsRefused s (makes_call e c i x s)
call_refused s e c i x none =
    either (IsRefused s) (nat_le (length i.interface.messages) c.msg) _ _ (λ q. (41, refl))
    (λ q. either (IsRefused s) (not (fits_of i.interface c)) _ _ (λ r. (42, refl))
    (λ r. either (IsRefused s) (not (is_bound x)) _ _ (λ t. (43, refl)) (λ t. both (not (is_bound x)) (is_unbound x none) t)))

-- an end without a seat is refused whatever it would do
record IsAway (s : State) (e : EndId) : Type 0 where
  pub writes : IsRefused s (writes_fragment e s)
  pub calls : (c : TheCall) → IsRefused s (machine_calls e c s)

away_at : (s : State) (e : EndId) (b : Binding) → binding_of s e ≡ Some b → (end_in e.side b).circuit ≡ None → (o : Option Planned) → interface_of s b ≡ o
    → IsAway s e
away_at s e b q none None r = record { writes = (92, by_writes); calls = λ c. (92, by_calls c) }
  where
    by_writes : writes_fragment e s ≡ answers s (refused 92)
    by_writes =
        ap (λ o. given o (answers s (refused 92)) λ (x : Binding). given (interface_of s x) (answers s (refused 92)) λ j. writes_next e j x (end_in e.side x) s) q
        ∙ ap (λ o. given o (answers s (refused 92)) λ j. writes_next e j b (end_in e.side b) s) r

    by_calls : (c : TheCall) → machine_calls e c s ≡ answers s (refused 92)
    by_calls c =
        ap (λ o. given o (answers s (refused 92)) λ (x : Binding). given (interface_of s x) (answers s (refused 92)) λ j. makes_call e c j (end_in e.side x) s) q
        ∙ ap (λ o. given o (answers s (refused 92)) λ j. makes_call e c j (end_in e.side b) s) r
away_at s e b q none (Some i) r = record { writes = (by_writes.0, found_writes ∙ by_writes.1); calls = λ c. ((by_calls c).0, found_calls c ∙ (by_calls c).1) }
  where
    by_writes : IsRefused s (writes_next e i b (end_in e.side b) s)
    by_writes = write_refused s e b i none

    by_calls : (c : TheCall) → IsRefused s (makes_call e c i (end_in e.side b) s)
    by_calls c = call_refused s e c i (end_in e.side b) none

    found_writes : writes_fragment e s ≡ writes_next e i b (end_in e.side b) s
    found_writes =
        ap (λ o. given o (answers s (refused 92)) λ (x : Binding). given (interface_of s x) (answers s (refused 92)) λ j. writes_next e j x (end_in e.side x) s) q
        ∙ ap (λ o. given o (answers s (refused 92)) λ j. writes_next e j b (end_in e.side b) s) r

    found_calls : (c : TheCall) → machine_calls e c s ≡ makes_call e c i (end_in e.side b) s
    found_calls c =
        ap (λ o. given o (answers s (refused 92)) λ (x : Binding). given (interface_of s x) (answers s (refused 92)) λ j. makes_call e c j (end_in e.side x) s) q
        ∙ ap (λ o. given o (answers s (refused 92)) λ j. makes_call e c j (end_in e.side b) s) r

none_seated : {X : Type 0} (o : Option X) → is_some o ≡ false → o ≡ None
none_seated None q = refl
none_seated (Some x) q = absurd (cc)

is_away : (s : State) (e : EndId) → Sound s → is_there s e ≡ false → IsAway s e
is_away s e sound q = by (binding_of s e) refl
  where
    by : (o : Option Binding) → binding_of s e ≡ o → IsAway s e
    by None r = record {
      writes = (
        92,
        ap (λ o. given o (answers s (refused 92)) λ (x : Binding). given (interface_of s x) (answers s (refused 92)) λ j. writes_next e j x (end_in e.side x) s) r,
      );
      calls = λ c. (
        92,
        ap (λ o. given o (answers s (refused 92)) λ (x : Binding). given (interface_of s x) (answers s (refused 92)) λ j. makes_call e c j (end_in e.side x) s) r,
      );
    }
    by (Some b) r =
        let end : end_of s e ≡ Some (end_in e.side b) = ap (λ o. given o None λ (x : Binding). Some (end_in e.side x)) r in
        let seat : is_some (end_in e.side b).seat ≡ false = sym (ap (λ o. given o false λ (x : End). is_some x.seat) end) ∙ q in
        away_at s e b r (unbound_by s e.side b e.binding sound r (none_seated (end_in e.side b).seat seat)) (interface_of s b) refl

calls_away : (b : CallRun) (e : EndId) (c : TheCall) → IsRefused b.state (machine_calls e c b.state) → calls e c b ≡ b
calls_away b e c (n, q) =
    ap (λ (o : StepOutcome). with_made e (settles (call e c) o).answer (record b { state = (settles (call e c) o).state })) q

writes_away : (b : CallRun) (e : EndId) → IsRefused b.state (writes_fragment e b.state) → does (write e) b ≡ b
writes_away b e (n, q) = ap (λ (o : StepOutcome). record b { state = (settles (write e) o).state }) q

serves_away : (b : CallRun) (e : EndId) → IsAway b.state e → serves e b ≡ b
serves_away b e h = by (next_call b e) refl
  where
    by : (o : Option TheCall) → next_call b e ≡ o → serves e b ≡ b
    by None q = ap (λ o. does (write e) (given o b λ c. calls e c b)) q ∙ writes_away b e h.writes
    by (Some c) q =
        ap (λ o. does (write e) (given o b λ d. calls e d b)) q
        ∙ ap (does (write e)) (calls_away b e c (h.calls c))
        ∙ writes_away b e h.writes

-- ---- an end in order

noted_same : (jobs : List CoreJob) (e : EndId) (answer : Answer) (a : MachineRun) → solo_of jobs (call_noted e answer a) ≡ with_made e answer (solo_of jobs a)
noted_same jobs e accepted a =
    ap (λ posts. let b : CallRun = record { state = a.state; posts = posts } in b)
    (map_changed (post_of jobs) advanced one_made (slot_of e) a.progresses (λ d. refl))
noted_same jobs e answer a = refl

noted_fine : (jobs : List CoreJob) (e : EndId) (answer : Answer) (a : MachineRun) → Fine jobs a → Fine jobs (call_noted e answer a)
noted_fine jobs e accepted a h = fine_at jobs a e advanced (λ d. refl) h
noted_fine jobs e answer a h = h

calls_same : (jobs : List CoreJob) (e : EndId) (c : TheCall) (a : MachineRun) → Fine jobs a → Same jobs (progress_calls e c a) (calls e c (solo_of jobs a))
calls_same jobs e c a h = record {
  fine = noted_fine jobs e (step a.state (call e c)).answer (goes (call e c) a)
      (fine_goes jobs a (call e c) (still_stands a.state (call e c) (machine_calls e c a.state) refl h.stands) h);
  same = noted_same jobs e (step a.state (call e c)).answer (goes (call e c) a);
}

writes_same : (jobs : List CoreJob) (e : EndId) (a : MachineRun) (b : CallRun) → Same jobs a b → Same jobs (goes (write e) a) (does (write e) b)
writes_same jobs e a b h = record {
  fine = fine_goes jobs a (write e) (still_stands a.state (write e) (writes_fragment e a.state) refl h.fine.stands) h.fine;
  same = ap (does (write e)) h.same;
}

-- an end's progress's next job, and the post's next call
record NextIs (jobs : List CoreJob) (a : MachineRun) (e : EndId) (j : Option CoreJob) (c : Option TheCall) : Type 0 where
  pub job_is : next_job jobs a e ≡ j
  pub call_is : next_call (solo_of jobs a) e ≡ c

next_none : (jobs : List CoreJob) (a : MachineRun) (e : EndId) (d : MachineProgress) → slice_get a.progresses (slot_of e) ≡ Some d → AreCalls jobs d.jobs
    → slice_get d.jobs d.done ≡ None → NextIs jobs a e None None
next_none jobs a e d at h q = record {
  job_is = ap (λ o. given o None λ (x : MachineProgress). given (slice_get x.jobs x.done) None λ place. slice_get jobs place) at
      ∙ ap (λ o. given o None λ place. slice_get jobs place) q;
  call_is = ap (λ o. given o None λ (p : CallProgress). slice_get p.calls p.made) (get_some (post_of jobs) a.progresses (slot_of e) d at)
      ∙ none_next jobs d.jobs d.done h q;
}

next_some : (jobs : List CoreJob) (a : MachineRun) (e : EndId) (d : MachineProgress) (place : ℕ) (at : slice_get a.progresses (slot_of e) ≡ Some d) (h : AreCalls jobs d.jobs)
    (q : slice_get d.jobs d.done ≡ Some place) (k : IsCall jobs d.jobs d.done place)
    → NextIs jobs a e (Some (job.Call k.end k.call)) (Some (call_of k.call))
next_some jobs a e d place at h q k = record {
  job_is = ap (λ o. given o None λ (x : MachineProgress). given (slice_get x.jobs x.done) None λ place. slice_get jobs place) at
      ∙ ap (λ o. given o None λ place. slice_get jobs place) q ∙ k.job_is;
  call_is = ap (λ o. given o None λ (p : CallProgress). slice_get p.calls p.made) (get_some (post_of jobs) a.progresses (slot_of e) d at) ∙ k.call_is;
}

-- by cases on what is next: nothing, or a call
by_next : (jobs : List CoreJob) (a : MachineRun) (e : EndId) (P : Option CoreJob → Option TheCall → Type 0) → EachCalls jobs a.progresses → P None None
    → ((f : EndId) (c : Call) → P (Some (job.Call f c)) (Some (call_of c))) → P (next_job jobs a e) (next_call (solo_of jobs a) e)
by_next jobs a e P all none some = by (slice_get a.progresses (slot_of e)) refl
  where
    to : (j : Option CoreJob) (c : Option TheCall) → NextIs jobs a e j c → P j c → P (next_job jobs a e) (next_call (solo_of jobs a) e)
    to j c k h = subst (λ x. P x (next_call (solo_of jobs a) e)) (sym k.job_is) (subst (P j) (sym k.call_is) h)

    at_place : (d : MachineProgress) → slice_get a.progresses (slot_of e) ≡ Some d → (o : Option ℕ) → slice_get d.jobs d.done ≡ o
        → P (next_job jobs a e) (next_call (solo_of jobs a) e)
    at_place d at None q = to None None (next_none jobs a e d at (all (slot_of e) d at) q) none
    at_place d at (Some place) q =
        let k = one_next jobs d.jobs d.done place (all (slot_of e) d at) q in
        to (Some (job.Call k.end k.call)) (Some (call_of k.call)) (next_some jobs a e d place at (all (slot_of e) d at) q k) (some k.end k.call)

    by : (o : Option MachineProgress) → slice_get a.progresses (slot_of e) ≡ o → P (next_job jobs a e) (next_call (solo_of jobs a) e)
    by None q =
        to None None (record {
          job_is = ap (λ o. given o None λ (x : MachineProgress). given (slice_get x.jobs x.done) None λ place. slice_get jobs place) q;
          call_is = ap (λ o. given o None λ (p : CallProgress). slice_get p.calls p.made) (get_none (post_of jobs) a.progresses (slot_of e) q);
        }) none
    by (Some d) q = at_place d q (slice_get d.jobs d.done) refl

tries_same : (jobs : List CoreJob) (e : EndId) (a : MachineRun) → Fine jobs a
    → Same jobs (tries e (next_job jobs a e) a) (given (next_call (solo_of jobs a) e) (solo_of jobs a) λ c. calls e c (solo_of jobs a))
tries_same jobs e a h =
    by_next jobs a e (λ j c. Same jobs (tries e j a) (given c (solo_of jobs a) λ x. calls e x (solo_of jobs a))) h.are_calls
    (record { fine = h; same = refl }) (λ f c. calls_same jobs e (call_of c) a h)

serves_same : (jobs : List CoreJob) (e : EndId) (a : MachineRun) → Fine jobs a → Same jobs (progress_serves jobs e a) (serves e (solo_of jobs a))
serves_same jobs e a h = by (is_there a.state e) refl
  where
    by : (b : Bool) → is_there a.state e ≡ b → Same jobs (progress_serves jobs e a) (serves e (solo_of jobs a))
    by true q =
        subst (λ b. Same jobs (if b then goes (write e) (tries e (next_job jobs a e) a) else a) (serves e (solo_of jobs a))) (sym q)
        (writes_same jobs e (tries e (next_job jobs a e) a) (given (next_call (solo_of jobs a) e) (solo_of jobs a) λ c. calls e c (solo_of jobs a))
        (tries_same jobs e a h))
    by false q =
        subst (λ b. Same jobs (if b then goes (write e) (tries e (next_job jobs a e) a) else a) (serves e (solo_of jobs a))) (sym q)
        (record { fine = h; same = sym (serves_away (solo_of jobs a) e (is_away a.state e h.sound q)) })

-- ---- a dispatcher's turn

-- where no end is due nothing comes of it
record IsIdle (s : State) (d : ℕ) : Type 0 where
  pub answer : Answer
  pub turns : machine_turns (here d) s ≡ answers s answer
  pub plain : (b : CallRun) → with_handled answer b ≡ b
  pub settles : settles_by answer s ≡ s

no_one_due : (s : State) (d : ℕ) (x : Dispatcher) (v : Due) → end_due x v ≡ None → turns_by (here d) x v s ≡ answers s nothing
no_one_due s d x (pending c) q = ap (λ o. given o (answers s nothing) λ e. gives (chosen (here d) c e) s) q
no_one_due s d x (polled c) q = ap (λ o. given o (answers s nothing) λ e. examines (chosen (here d) c e) s) q
no_one_due s d x no_one q = refl

is_idle : (s : State) (d : ℕ) → s.may_set_cores ≡ false → due_at s d ≡ None → IsIdle s d
is_idle s d stands q = by (dispatcher_of s (here d)) refl
  where
    by : (o : Option Dispatcher) → dispatcher_of s (here d) ≡ o → IsIdle s d
    by None r = record {
      answer = refused 92;
      turns = ap (λ o. given o (answers s (refused 92)) λ x. turns_by (here d) x (due x) s) r;
      plain = λ b. refl;
      settles = refl;
    }
    by (Some x) r =
        let none : end_due x (due x) ≡ None = sym (ap (λ o. given o None λ y. end_due y (due y)) r) ∙ q in
        record {
          answer = nothing;
          turns = ap (λ o. given o (answers s (refused 92)) λ y. turns_by (here d) y (due y) s) r ∙ no_one_due s d x (due x) none;
          plain = λ b. refl;
          settles = ap (λ b. record s { may_set_cores = b }) (sym stands);
        }

idle_turn : (b : CallRun) (d : ℕ) → IsIdle b.state d → has_turn d b ≡ b
idle_turn b d h =
    ap (λ (o : StepOutcome). with_handled o.answer (record b { state = settles_by o.answer o.state })) h.turns
    ∙ h.plain (record b { state = settles_by h.answer b.state })
    ∙ ap (λ t. record b { state = t }) h.settles

handled_same : (jobs : List CoreJob) (answer : Answer) (a : MachineRun) → solo_of jobs (turn_noted answer a) ≡ with_handled answer (solo_of jobs a)
handled_same jobs (handle e c) a =
    ap (λ posts. let b : CallRun = record { state = a.state; posts = posts } in b)
    (map_changed (post_of jobs) (progress_handled c) (one_handled c) (slot_of e) a.progresses (λ d. refl))
handled_same jobs answer a = refl

handled_fine : (jobs : List CoreJob) (answer : Answer) (a : MachineRun) → Fine jobs a → Fine jobs (turn_noted answer a)
handled_fine jobs (handle e c) a h = fine_at jobs a e (progress_handled c) (λ d. refl) h
handled_fine jobs answer a h = h

turn_same : (jobs : List CoreJob) (d : ℕ) (a : MachineRun) → Fine jobs a → Same jobs (turns_at d a) (has_turn d (solo_of jobs a))
turn_same jobs d a h = record {
  fine = handled_fine jobs (step a.state (turn (here d))).answer (goes (turn (here d)) a)
      (fine_goes jobs a (turn (here d)) (still_stands a.state (turn (here d)) (machine_turns (here d) a.state) refl h.stands) h);
  same = handled_same jobs (step a.state (turn (here d))).answer (goes (turn (here d)) a);
}

takes_same : (jobs : List CoreJob) (d : ℕ) (a : MachineRun) → Fine jobs a → Same jobs (takes_turn jobs d a) (has_turn d (solo_of jobs a))
takes_same jobs d a h = by (due_at a.state d) refl
  where
    by : (o : Option EndId) → due_at a.state d ≡ o → Same jobs (takes_turn jobs d a) (has_turn d (solo_of jobs a))
    by None q =
        subst (λ o. Same jobs (given o a λ e. if is_before_calls (next_job jobs a e) then a else turns_at d a) (has_turn d (solo_of jobs a))) (sym q)
        (record { fine = h; same = sym (idle_turn (solo_of jobs a) d (is_idle a.state d h.stands q)) })
    by (Some e) q =
        subst (λ o. Same jobs (given o a λ f. if is_before_calls (next_job jobs a f) then a else turns_at d a) (has_turn d (solo_of jobs a))) (sym q)
        (by_next jobs a e (λ j c. Same jobs (if is_before_calls j then a else turns_at d a) (has_turn d (solo_of jobs a))) h.are_calls
        (turn_same jobs d a h) (λ f c. turn_same jobs d a h))

-- ---- turns

swept_same : (jobs : List CoreJob) (f : ℕ → MachineRun → MachineRun) (g : ℕ → CallRun → CallRun) → ((k : ℕ) (a : MachineRun) → Fine jobs a → Same jobs (f k a) (g k (solo_of jobs a)))
    → (n : ℕ) (a : MachineRun) → Fine jobs a → Same jobs (swept f n a) (swept g n (solo_of jobs a))
swept_same jobs f g one zero a h = record { fine = h; same = refl }
swept_same jobs f g one (suc n) a h =
    let before = swept_same jobs f g one n a h in
    let next = one n (swept f n a) before.fine in
    record { fine = next.fine; same = next.same ∙ ap (g n) before.same }

at_same : (p : MachineTask) (n : ℕ) (a : MachineRun) → Fine p.jobs a → Same p.jobs (progress_serves_at p n a) (serves_at (span_of p) n (solo_of p.jobs a))
at_same p n a h = by (slice_get p.ends n) refl
  where
    by : (o : Option EndId) → slice_get p.ends n ≡ o → Same p.jobs (progress_serves_at p n a) (serves_at (span_of p) n (solo_of p.jobs a))
    by o q =
        subst (λ x. Same p.jobs (given x a λ e. progress_serves p.jobs e a) (given x (solo_of p.jobs a) λ e. serves e (solo_of p.jobs a))) (sym q) (here_by o)
      where
        here_by : (x : Option EndId) → Same p.jobs (given x a λ e. progress_serves p.jobs e a) (given x (solo_of p.jobs a) λ e. serves e (solo_of p.jobs a))
        here_by None = record { fine = h; same = refl }
        here_by (Some e) = serves_same p.jobs e a h

turn_by_turn : (p : MachineTask) (k : ℕ) (a : MachineRun) → Fine p.jobs a → Same p.jobs (progress_turn p a) (one_turn (span_of p) (solo_of p.jobs a))
turn_by_turn p k a h =
    let first = swept_same p.jobs (progress_serves_at p) (serves_at (span_of p)) (at_same p) (length p.ends) a h in
    let second = swept_same p.jobs (takes_turn p.jobs) has_turn (takes_same p.jobs) p.dispatchers (swept (progress_serves_at p) (length p.ends) a) first.fine in
    record { fine = second.fine; same = second.same ∙ ap (swept has_turn p.dispatchers) first.same }

turns_same : (p : MachineTask) (n : ℕ) (a : MachineRun) → Fine p.jobs a → Same p.jobs (progress_turned p n a) (turned (span_of p) n (solo_of p.jobs a))
turns_same p n a h = swept_same p.jobs (λ k. progress_turn p) (λ k. one_turn (span_of p)) (turn_by_turn p) n a h

-- ---- what is left

clear_same : (jobs : List CoreJob) (a : MachineRun) (e : EndId) → EachCalls jobs a.progresses → progress_is_clear (slice_get a.progresses (slot_of e)) ≡ is_clear (post_at (solo_of jobs a) e)
clear_same jobs a e all = by (slice_get a.progresses (slot_of e)) refl
  where
    by : (o : Option MachineProgress) → slice_get a.progresses (slot_of e) ≡ o → progress_is_clear (slice_get a.progresses (slot_of e)) ≡ is_clear (post_at (solo_of jobs a) e)
    by None q = ap progress_is_clear q ∙ sym (ap is_clear (get_none (post_of jobs) a.progresses (slot_of e) q))
    by (Some d) q =
        ap progress_is_clear q
        ∙ ap (λ n. (d.done == n) && (length d.handled == d.due)) (sym (as_many jobs d.jobs (all (slot_of e) d q)))
        ∙ sym (ap is_clear (get_some (post_of jobs) a.progresses (slot_of e) d q))

done_at_same : (jobs : List CoreJob) (a : MachineRun) (e : EndId) → EachCalls jobs a.progresses → progress_is_done_at a e ≡ is_done_at (solo_of jobs a) e
done_at_same jobs a e all = ap (λ b. b && (if is_there a.state e then is_still a.state e else true)) (clear_same jobs a e all)

all_done_same : (jobs : List CoreJob) (a : MachineRun) (ends : List EndId) (n : ℕ) → EachCalls jobs a.progresses → progresses_are_done a ends n ≡ are_done (solo_of jobs a) ends n
all_done_same jobs a ends zero all = refl
all_done_same jobs a ends (suc n) all =
    ap (λ b. b && given (slice_get ends n) true (progress_is_done_at a)) (all_done_same jobs a ends n all)
    ∙ ap (λ b. are_done (solo_of jobs a) ends n && b) (by (slice_get ends n))
  where
    by : (o : Option EndId) → given o true (progress_is_done_at a) ≡ given o true (is_done_at (solo_of jobs a))
    by None = refl
    by (Some e) = done_at_same jobs a e all

left_same : (p : MachineTask) (n : ℕ) (a : MachineRun) → Fine p.jobs a
    → progresses_finished p (progress_turned p n a) ≡ is_finished (span_of p) (turned (span_of p) n (solo_of p.jobs a))
left_same p n a h =
    let there = turns_same p n a h in
    all_done_same p.jobs (progress_turned p n a) p.ends (length p.ends) there.fine.are_calls ∙ ap (is_finished (span_of p)) there.same

first_same : (p : MachineTask) (a : MachineRun) (n more : ℕ) → Fine p.jobs a → progresses_first p a n more ≡ first_finished (span_of p) (solo_of p.jobs a) n more
first_same p a n zero h = refl
first_same p a n (suc more) h =
    ap (λ b. if b then n else progresses_first p a (suc n) more) (left_same p n a h)
    ∙ ap (λ m. if is_finished (span_of p) (turned (span_of p) n (solo_of p.jobs a)) then n else m) (first_same p a (suc n) more h)

pub go_by_calls : JobsGoByCalls
go_by_calls p a sound stands all =
    let h : Fine p.jobs a = record { sound = sound; stands = stands; are_calls = all } in
    record {
      turns = λ n. (turns_same p n a h).same;
      left = λ n. left_same p n a h;
      number = λ limit. first_same p a 0 limit h;
    }
