-- Ends that aren't bound in the end did nothing.
use Rattle.std.proofs.Common.{◌≡◌, ◌⊎◌, inl, inr, refl, sym, ap, ◌∙◌, ℕ, if◌then◌else◌, List, [], ◌∷◌, ◌++◌, map, slice_get, rules}
use Rattle.std.proofs.Common.{Option, Some, None, IsSome, Bool, true, false, Ok, Err}
use Rattle.std.specs.List.{flat_map}
use Rattle.std.proofs.lemmas.List.{append-nil}
use Rattle.fl_base.specs.declared.identity.EndId.{EndId}
use Rattle.fl_base.specs.Prefix.{IsPrefix}
use Rattle.fl_value_data.specs.declared.value.Call.{Call}
use Rattle.fl_value_data.specs.Value.{TheCall, call_of}
use Rattle.fl_link.specs.Looks.{Look}
use Rattle.fl_link.specs.Queue.{QueueTakes}
use Rattle.fl_hop.specs.Stretch.{same_end}
use Rattle.fl_waitset.specs.declared.waitset.Pick.{Pick}
use Rattle.fl_waitset.specs.declared.waitset.Pick.TheVariants as pick
use Rattle.fl_endpoint.specs.View.{TheEnd}
use Rattle.fl_core.specs.BoardView.{TheEndAtChannel, TheBoard}
use Rattle.fl_core.specs.declared.turn_answer.TurnAnswer.TheVariants as turn
use Rattle.fl_core.specs.declared.kind.ChannelKind.{ChannelKind}
use Rattle.fl_core.specs.BoardTurns.{EndMoment, moment, over, Turns, LooksAt}
use Rattle.fl_core.specs.declared.wiring.Inlet.{Inlet}
use Rattle.fl_core.specs.declared.wiring.Inlet.TheVariants as inlet
use Rattle.fl_core.specs.View.{place_of, client_of, server_of}
use Rattle.fl_core.specs.Sound.{IsCore}
use Rattle.fl_core.specs.declared.core_job.CoreJob.{CoreJob}
use Rattle.fl_core_run.specs.Run.{SideRelations, TheRun}
use Rattle.fl_core_run.specs.Accepted.{count_waiting}
use Rattle.fl_core_run.proofs.Accepting.{none_accepted, first_accepted}
use Rattle.fl_core_run.specs.LogEntries.{LogEntry, looked, passed, arrived, heard, said, told, opened, called, ruled, wrote, acked, turned, dispatcher_turn, TurnsOver}
use Rattle.fl_core.specs.Jobs.{calls_of_jobs}
use Rattle.fl_core_run_laws.specs.Logs.{ProgressTellHandled, Goes, handled_in, handled_at}
use Rattle.fl_core_run_laws.specs.Made.{LogsMakeJobs, DoneAreFirst, made_in, made_at, done_of}
use Rattle.fl_core_run_laws.proofs.Carrying.{IsHere, log_goes}
use Rattle.fl_core_run_laws.proofs.Handling.{one_end}
use Rattle.fl_core_run_laws.proofs.Seating.{sits_first}
use Rattle.fl_cores_file.specs.Jobs.{Job, own_calls, handed_in}
use Rattle.fl_cores_jobs.specs.EndWork.{TheEndWork, end_work_at, is_ruled, reply_by, IsEndWork}
use Rattle.fl_cores_laws.specs.Cores.{shared_ways, OneCore}
use Rattle.fl_cores_laws.specs.Told.{handled_by, sent_by, made_by}
use Rattle.fl_cores_laws.specs.Unbound.{IsLoose, LooseEndsRest, HasEnd, SilenceIsHonest, LooseIsHonest}
use Rattle.fl_cores_laws.proofs.Prefixes.{then_on, as_same, of_none}
use Rattle.fl_cores_laws.proofs.Progress.{handled_is, done_is, done_first}
use Rattle.fl_cores_laws.proofs.GivenWork.{calls_there, handed_unruled}

-- ---- only an end that is bound handles a call, or makes one

looks_bound : {T : Type 0} (takes : T → Look → T → Type 0) (p : Pick) (kind : ChannelKind) (a : EndMoment T) (call : Call) (b : EndMoment T) → LooksAt takes p kind a (Ok (turn.Handle call)) b
    → IsSome a.end.circuit
looks_bound takes (pick.Pending c) kind a call b h = h.1.0.0.0
looks_bound takes (pick.Polled c) kind a call b h = absurd h.0

-- the seat at a place has a bound end
pub record SeatsBound (seats : List TheEndAtChannel) (e : ℕ) : Type 0 where
  pub seat : TheEndAtChannel
  pub seat_is : slice_get seats e ≡ Some seat
  pub circuit : ℕ
  pub circuit_is : seat.end.circuit ≡ Some circuit

some_is : (seats : List TheEndAtChannel) (e : ℕ) (seat : TheEndAtChannel) → slice_get seats e ≡ Some seat → (o : Option ℕ) → seat.end.circuit ≡ o → IsSome o → SeatsBound seats e
some_is seats e seat at None is some = absurd (search (rules, some))
some_is seats e seat at (Some c) is some = record { seat = seat; seat_is = at; circuit = c; circuit_is = is }

turns_bound : {T : Type 0} (takes : T → Look → T → Type 0) (d e : ℕ) (b : TheBoard) (p : T) (call : Call) (c : TheBoard) (q : T) → Turns takes d e (over b p) (Ok (turn.Handle call)) (over c q)
    → SeatsBound b.seats e
turns_bound takes d e b p call c q h =
    some_is b.seats e h.seat h.seat_is h.seat.end.circuit refl
    (looks_bound takes h.picked h.seat.kind (moment h.dispatcher.lists h.seat.end p) call (moment h.lists h.end q) h.looks)

module _ {S : Type 0} (w : SideRelations S) where
  over_bound : (d e : ℕ) (from : Inlet) (call : Call) (s m : TheRun S) → TurnsOver w (dispatcher_turn d e (Ok (turn.Handle call))) from s m → SeatsBound s.core.board.seats e
  over_bound d e (inlet.Queue n) call s m h = turns_bound QueueTakes d e s.core.board h.before call m.core.board h.after h.event.event
  over_bound d e (inlet.Side n) call s m h = turns_bound w.takes d e s.core.board h.before call m.core.board h.after h.event.event
  over_bound d e inlet.Arrivals call s m h = turns_bound QueueTakes d e s.core.board h.event.before call m.core.board h.event.after h.event.event

-- ---- and stays so

-- the end of this name is there, and bound
pub record IsBound {S : Type 0} (t : TheRun S) (name : EndId) : Type 0 where
  pub place : ℕ
  pub place_is : place_of t.core name ≡ Some place
  pub seats : SeatsBound t.core.board.seats place

off_calls : (b : Bool) → (if b then [] else []) ≡ (let xs : List Call = [] in xs)
off_calls true = refl
off_calls false = refl

off_made : (b : Bool) → (if b then [] else []) ≡ (let xs : List TheCall = [] in xs)
off_made true = refl
off_made false = refl

module _ {S : Type 0} (w : SideRelations S) (jobs : List CoreJob) (name : EndId) where
  pub stays_bound : (log : List LogEntry) (s t : TheRun S) → Goes w jobs s log t → IsCore s.core → IsBound s name → IsBound t name
  stays_bound log s t h core b =
      let here : IsHere name b.place b.seats.seat.end s.core = record {
        has = record { seat = b.seats.seat; seat_is = b.seats.seat_is; end_is = refl };
        sits = sits_first s.core name b.place core b.place_is;
      } in
      let went = log_goes w jobs name b.place log s t b.seats.seat.end here h in
      record {
        place = b.place;
        place_is = went.sits.here;
        seats = record {
          seat = went.has.seat;
          seat_is = went.has.seat_is;
          circuit = b.seats.circuit;
          circuit_is = ap (λ (y : TheEnd). y.circuit) went.has.end_is ∙ went.goes.circuit b.seats.circuit b.seats.circuit_is;
        };
      }

  module _ (log_entry : LogEntry) (log : List LogEntry) (s t : TheRun S) (h : Goes w jobs s (log_entry ∷ log) t) where
    -- where it happens at a bound end of this name
    bound_now : (e : EndId) (f : ℕ) → same_end e name ≡ true → place_of s.core e ≡ Some f → SeatsBound s.core.board.seats f → IsBound t name
    bound_now e f one at seats =
        stays_bound (log_entry ∷ log) s t h h.1.3.core
        (record { place = f; place_is = ap (place_of s.core) (sym (one_end e name one)) ∙ at; seats = seats })

  handled_first : (log_entry : LogEntry) (log : List LogEntry) (s t : TheRun S) → Goes w jobs s (log_entry ∷ log) t → (handled_in name log_entry ≡ []) ⊎ IsBound t name
  handled_first (turned d e from (turn.Handle call)) log s t h = by (same_end e name) refl where
    by : (b : Bool) → same_end e name ≡ b → ((if same_end e name then call ∷ [] else []) ≡ []) ⊎ IsBound t name
    by false is = inl (ap (λ (b : Bool). if b then call ∷ [] else []) is)
    by true is = inr (bound_now (turned d e from (turn.Handle call)) log s t h e h.1.1.0 is h.1.1.1 (over_bound w d h.1.1.0 from call s h.1.0 h.1.1.3))
  handled_first (turned d e from turn.Part) log s t h = inl (off_calls (same_end e name))
  handled_first (turned d e from turn.Ready) log s t h = inl (off_calls (same_end e name))
  handled_first (turned d e from turn.Quiet) log s t h = inl (off_calls (same_end e name))
  handled_first (turned d e from turn.Full) log s t h = inl (off_calls (same_end e name))
  handled_first (turned d e from turn.Nothing) log s t h = inl (off_calls (same_end e name))
  handled_first (turned d e from (turn.Refused fault)) log s t h = inl (off_calls (same_end e name))
  handled_first (looked n l answer) log s t h = inl refl
  handled_first (passed n k frag c outcome) log s t h = inl refl
  handled_first (arrived n l frag e answer) log s t h = inl refl
  handled_first (heard n l frag answer) log s t h = inl refl
  handled_first (said n l answer) log s t h = inl refl
  handled_first (told n l answer) log s t h = inl refl
  handled_first (opened e request answer) log s t h = inl refl
  handled_first (called e c answer) log s t h = inl refl
  handled_first (ruled e msg reply answer) log s t h = inl refl
  handled_first (wrote e out answer) log s t h = inl refl
  handled_first (acked e n answer) log s t h = inl refl

  pub handled_bound : (log : List LogEntry) (s t : TheRun S) → Goes w jobs s log t → (handled_at name log ≡ []) ⊎ IsBound t name
  handled_bound [] s t h = inl refl
  handled_bound (log_entry ∷ log) s t h = elim (handled_first log_entry log s t h) [
    | inl none ↦ elim (handled_bound log h.0 t h.3) [
      | inl rest ↦ inl (ap (λ (xs : List Call). xs ++ handled_at name log) none ∙ rest)
      | inr b ↦ inr b
    ]
    | inr b ↦ inr b
  ]

  made_first : (log_entry : LogEntry) (log : List LogEntry) (s t : TheRun S) → Goes w jobs s (log_entry ∷ log) t → (made_in name log_entry ≡ []) ⊎ IsBound t name
  made_first (called e c (Ok done)) log s t h = by (same_end e name) refl where
    x : SeatsBound s.core.board.seats h.1.1.0
    x = let y = h.1.1.2.event.event in some_is s.core.board.seats h.1.1.0 y.seat y.seat_is y.seat.end.circuit refl y.event.1.0

    by : (b : Bool) → same_end e name ≡ b → ((if same_end e name then c ∷ [] else []) ≡ []) ⊎ IsBound t name
    by false is = inl (ap (λ (b : Bool). if b then c ∷ [] else []) is)
    by true is = inr (bound_now (called e c (Ok done)) log s t h e h.1.1.0 is h.1.1.1 x)
  made_first (called e c (Err fault)) log s t h = inl (off_made (same_end e name))
  made_first (looked n l answer) log s t h = inl refl
  made_first (passed n k frag c outcome) log s t h = inl refl
  made_first (arrived n l frag e answer) log s t h = inl refl
  made_first (heard n l frag answer) log s t h = inl refl
  made_first (said n l answer) log s t h = inl refl
  made_first (told n l answer) log s t h = inl refl
  made_first (opened e request answer) log s t h = inl refl
  made_first (ruled e msg reply answer) log s t h = inl refl
  made_first (wrote e out answer) log s t h = inl refl
  made_first (acked e n answer) log s t h = inl refl
  made_first (turned d e from answer) log s t h = inl refl

  pub made_bound : (log : List LogEntry) (s t : TheRun S) → Goes w jobs s log t → (made_at name log ≡ []) ⊎ IsBound t name
  made_bound [] s t h = inl refl
  made_bound (log_entry ∷ log) s t h = elim (made_first log_entry log s t h) [
    | inl none ↦ elim (made_bound log h.0 t h.3) [
      | inl rest ↦ inl (ap (λ (xs : List TheCall). xs ++ made_at name log) none ∙ rest)
      | inr b ↦ inr b
    ]
    | inr b ↦ inr b
  ]

-- ---- laws

module _ (handled : ProgressTellHandled shared_ways) (made : LogsMakeJobs shared_ways) (first : DoneAreFirst shared_ways) where
  loose_bound : (c : OneCore) (e : EndId) → IsLoose c.finish e → IsBound c.finish e → ⊥
  loose_bound c e loose b = let clash : Some b.seats.circuit ≡ None = sym b.seats.circuit_is ∙ loose b.place b.seats.seat b.place_is b.seats.seat_is in absurd (cc)

  sent_by_handled : (jobs : List CoreJob) (d : TheEndWork) (c : OneCore) (e : EndId) → handled_by c.finish e ≡ [] → sent_by jobs d c.finish e ≡ done_of jobs c.finish e
  sent_by_handled jobs d c e none =
      ap (λ (calls : List TheCall). done_of jobs c.finish e ++ flat_map (reply_by d.rules) calls) none ∙ append-nil (done_of jobs c.finish e)

  pub loose_rest : LooseEndsRest
  loose_rest jobs d c e w h loose = record {
    handled = none_handled;
    made = none_accepted (count_waiting c.finish e) (sent_by jobs d c.finish e) (sent_by_handled jobs d c e none_handled ∙ none_done);
  } where
    none_handled : handled_by c.finish e ≡ []
    none_handled = handled_is handled made first jobs d e c h w ∙ elim (handled_bound shared_ways jobs e c.log c.start c.finish w.goes) [
      | inl none ↦ ap (map call_of) none
      | inr b ↦ absurd (loose_bound c e loose b)
    ]

    none_done : done_of jobs c.finish e ≡ []
    none_done = done_is handled made first jobs d e c h w ∙ elim (made_bound shared_ways jobs e c.log c.start c.finish w.goes) [
      | inl none ↦ none
      | inr b ↦ absurd (loose_bound c e loose b)
    ]

  -- where no call was handled, what is made are calls of jobs, the first of those that are handed in
  nothing_first : (xs ys : List TheCall) → xs ≡ [] → IsPrefix xs ys
  nothing_first xs ys none = (ys, ap (λ (v : List TheCall). v ++ ys) (sym none))

  lone_by : (asked : List Job) (jobs : List CoreJob) (e : EndId) (d : TheEndWork) → IsEndWork asked jobs e d → (done : List TheCall) → IsPrefix done (own_calls asked e) → (b : Bool) → is_ruled d ≡ b
      → IsPrefix done (handed_in asked e)
  lone_by asked jobs e d k done p false is = as_same done done (own_calls asked e) (handed_in asked e) refl (handed_unruled asked jobs e d k is) p
  lone_by asked jobs e d k done p true is =
      nothing_first done (handed_in asked e) (of_none done (own_calls asked e) p (k.asked.alone (sym k.asked.ruled ∙ is)))

  lone_made : (asked : List Job) (jobs : List CoreJob) (e : EndId) (d : TheEndWork) (c : OneCore) → IsEndWork asked jobs e d → HasEnd jobs d c e → handled_by c.finish e ≡ []
      → IsPrefix (made_by jobs d c.finish e) (handed_in asked e)
  lone_made asked jobs e d c k x none =
      let done = done_of jobs c.finish e in
      let own = as_same done done (calls_of_jobs jobs d.jobs) (own_calls asked e) refl (calls_there asked jobs e d k) (done_first handled made first jobs d e c x.progress x.went) in
      then_on (made_by jobs d c.finish e) (sent_by jobs d c.finish e) (handed_in asked e)
      (first_accepted (count_waiting c.finish e) (sent_by jobs d c.finish e))
      (as_same done (sent_by jobs d c.finish e) (handed_in asked e) (handed_in asked e) (sym (sent_by_handled jobs d c e none)) refl
      (lone_by asked jobs e d k done own (is_ruled d) refl))

  pub silence : SilenceIsHonest
  silence asked j cores n c d joined ends none none2 = record {
    there = nothing_first (handled_by d.finish (server_of n)) (made_by j.jobs (end_work_at j.end_works (client_of n)) c.finish (client_of n)) none2;
    again = nothing_first (handled_by c.finish (client_of n)) (made_by j.jobs (end_work_at j.end_works (server_of n)) d.finish (server_of n)) none;
    client = lone_made asked j.jobs (client_of n) (end_work_at j.end_works (client_of n)) c (joined.each (client_of n)) ends.client none;
    server = lone_made asked j.jobs (server_of n) (end_work_at j.end_works (server_of n)) d (joined.each (server_of n)) ends.server none2;
  }

  pub loose_honest : LooseIsHonest
  loose_honest asked j cores n c d joined ends one two =
      silence asked j cores n c d joined ends
      (loose_rest j.jobs (end_work_at j.end_works (client_of n)) c (client_of n) ends.client.went ends.client.progress one).handled
      (loose_rest j.jobs (end_work_at j.end_works (server_of n)) d (server_of n) ends.server.went ends.server.progress two).handled
