-- A turn keeps what is known of a board.
use Rattle.std.proofs.Common.{◌≡◌, sym, ap, ◌∙◌, subst, ℕ, true, false, slice_get, slice_set, Some, Result, Ok, Err}
use Rattle.std.proofs.lemmas.Bool.{false≢true}
use Rattle.std.specs.declared.alloc.AllocError.{AllocError}
use Rattle.fl_lists.specs.declared.place.Place.{Place}
use Rattle.fl_lists.specs.declared.place.Place.TheVariants as place
use Rattle.fl_lists.specs.ThreeLists.{ThreeLists, list_at, is_in, unlinked, pushed, IsApart}
use Rattle.fl_lists.proofs.Tables.{pop_is, pushed_size}
use Rattle.fl_waitset.specs.declared.waitset.Pick.{Pick}
use Rattle.fl_waitset.specs.declared.waitset.Pick.TheVariants as pick
use Rattle.fl_waitset.specs.Waiting.{next_pick}
use Rattle.fl_link.specs.Looks.{Look}
use Rattle.fl_endpoint.specs.declared.answer.ReceiveAnswer.{ReceiveAnswer}
use Rattle.fl_endpoint.specs.declared.answer.ReceiveAnswer.TheVariants as receive
use Rattle.fl_endpoint.specs.View.{TheEnd}
use Rattle.fl_endpoint.specs.Events.{IsReady}
use Rattle.fl_core.specs.declared.kind.ChannelKind.{ChannelKind}
use Rattle.fl_core.specs.declared.kind.ChannelKind.TheVariants.{Queue, Ring}
use Rattle.fl_core.specs.declared.turn_answer.TurnAnswer.{TurnAnswer}
use Rattle.fl_core.specs.declared.turn_answer.TurnAnswer.TheVariants.{Handle, Part, Ready, Quiet, Full, Nothing, Refused}
use Rattle.fl_core.specs.BoardView.{TheDispatcher, TheEndAtChannel, TheBoard, channel_of, with_lists, with_end}
use Rattle.fl_core.specs.BoardTurns.{WaitsIn, put_off, lent, moment, TakesOne, Gives, Examines, LooksAt}
use Rattle.fl_core.specs.BoardSound.{MayWaitIn, MayTurn, IsDispatcher, IsBoard}
use Rattle.fl_core.proofs.Readiness.{receives_ready, memory_ready}
use Rattle.fl_core.proofs.Registered.{Listed, pushed_each, unlinked_each, left_all}
use Rattle.fl_core.proofs.Picks.{list_of, first_pending, first_polled, pick_listed}
use Rattle.fl_core.proofs.BoardPlaces.{one_stands, set_here}
use Rattle.fl_core.proofs.BoardKept.{end_kept, lists_kept}

-- a channel waits in a list of its kind
pub waits_fits : {T : Type 0} (takes : T → Look → T → Type 0) (kind : ChannelKind) (p q : T) (to : Place) → WaitsIn takes kind p to q → MayWaitIn kind to
waits_fits takes Ring p q place.Polled h = tt
waits_fits takes Ring p q place.Pending h = absurd h
waits_fits takes Ring p q place.Idle h = absurd h
waits_fits takes Queue p q place.Pending h = tt
waits_fits takes Queue p q place.Idle h = tt
waits_fits takes Queue p q place.Polled h = absurd h

pub pending_fits : (kind : ChannelKind) → MayWaitIn kind place.Pending
pending_fits Ring = tt
pending_fits Queue = tt

-- what a turn makes of the lists w and the end s: the channel stays or moves on, and the end stays ready; or the channel leaves
data Outcome (kind : ChannelKind) (c : ℕ) (w : ThreeLists) (s : TheEnd) (v : ThreeLists) (t : TheEnd) : Type 0 where
  stays : v ≡ w → (IsReady s → IsReady t) → Outcome kind c w s v t
  moves : (to : Place) → MayWaitIn kind to → v ≡ pushed (unlinked w c) c to → (IsReady s → IsReady t) → Outcome kind c w s v t
  leaves : v ≡ unlinked w c → Outcome kind c w s v t

-- to put the first off is to move it
off_is : (w v : ThreeLists) (from : Place) (c : ℕ) (to : Place) → IsApart w → slice_get (list_at w from) 0 ≡ Some c → v ≡ put_off w from c to → v ≡ pushed (unlinked w c) c to
off_is w v from c to apart first e = e ∙ ap (λ (x : ThreeLists). pushed x c to) (sym (pop_is w from c apart first))

module _ {T : Type 0} (takes : T → Look → T → Type 0) (kind : ChannelKind) (w v : ThreeLists) (s t : TheEnd) (p q : T) (apart : IsApart w) where
  took_one : (c : ℕ) (answer : ReceiveAnswer) → slice_get (list_at w place.Pending) 0 ≡ Some c → TakesOne takes kind c (moment w s p) answer (moment v t q) → Outcome kind c w s v t
  took_one c answer first (m, received, (to, waits, e)) = moves to (waits_fits takes kind m q to waits) (off_is w v place.Pending c to apart first e) (receives_ready takes s t p m answer received)

  gave : (c : ℕ) (answer : Result TurnAnswer AllocError) → slice_get (list_at w place.Pending) 0 ≡ Some c → Gives takes kind c (moment w s p) answer (moment v t q) → Outcome kind c w s v t
  gave c (Ok (Handle call)) first h = took_one c (receive.Handle call) first h
  gave c (Ok Part) first h = took_one c receive.Part first h
  gave c (Ok Quiet) first h = took_one c receive.Quiet first h
  gave c (Ok Nothing) first h = took_one c receive.Empty first h
  gave c (Ok Full) first h = moves place.Pending (pending_fits kind) (off_is w v place.Pending c place.Pending apart first h.1) (receives_ready takes s t p q receive.HeldBack h.0)
  gave c (Ok (Refused fault)) first h = leaves h.1
  gave c (Ok Ready) first h = absurd h
  gave c (Err error) first h = stays h.1 (memory_ready takes s t p q h.0)

  same_end : t ≡ s → IsReady s → IsReady t
  same_end e ready = subst IsReady (sym e) ready

  examined : (c : ℕ) (answer : Result TurnAnswer AllocError) → slice_get (list_at w place.Polled) 0 ≡ Some c → MayWaitIn kind place.Polled → t ≡ s → Examines takes c (lent w p) answer (lent v q) → Outcome kind c w s v t
  examined c (Ok Ready) first fits e h = moves place.Pending (pending_fits kind) (off_is w v place.Polled c place.Pending apart first h.1) (same_end e)
  examined c (Ok Quiet) first fits e h = moves place.Polled fits (off_is w v place.Polled c place.Polled apart first h.1) (same_end e)
  examined c (Ok (Handle call)) first fits e h = absurd h
  examined c (Ok Part) first fits e h = absurd h
  examined c (Ok Full) first fits e h = absurd h
  examined c (Ok Nothing) first fits e h = absurd h
  examined c (Ok (Refused fault)) first fits e h = absurd h
  examined c (Err error) first fits e h = absurd h

  looked : (picked : Pick) (answer : Result TurnAnswer AllocError) → next_pick w ≡ Ok picked → MayWaitIn kind (list_of picked) → LooksAt takes picked kind (moment w s p) answer (moment v t q) → Outcome kind (channel_of picked) w s v t
  looked (pick.Pending c) answer h fits l = gave c.0 answer (first_pending w c h) l
  looked (pick.Polled c) answer h fits l = examined c.0 answer (first_polled w c h) fits l.1 l.0

module _ (k : TheBoard) (sound : IsBoard k) (n : ℕ) (d : TheDispatcher) (dispatcher_is : slice_get k.dispatchers n ≡ Some d)
    (picked : Pick) (picked_is : next_pick d.lists ≡ Ok picked) (e : ℕ) (end_is : slice_get d.ends (channel_of picked) ≡ Some e)
    (s : TheEndAtChannel) (seat_is : slice_get k.seats e ≡ Some s) where
  known : IsDispatcher k.seats n d
  known = sound.dispatchers n d dispatcher_is

  m : MayTurn k.seats d.ends (list_of picked) (channel_of picked)
  m = known.registered (list_of picked) (channel_of picked) (pick_listed d.lists picked picked_is)

  place_is : m.place ≡ e
  place_is = cc (m.place_is, end_is)

  is_s : m.seat ≡ s
  is_s = let there : slice_get k.seats m.place ≡ Some s = ap (slice_get k.seats) place_is ∙ seat_is in cc (m.seat_is, there)

  -- the end that is due is ready, and its list is of its kind
  pub ready_due : IsReady s.end
  ready_due = subst (λ (x : TheEndAtChannel). IsReady x.end) is_s m.ready

  fits_due : MayWaitIn s.kind (list_of picked)
  fits_due = subst (λ (x : TheEndAtChannel). MayWaitIn x.kind (list_of picked)) is_s m.waits

  -- its channel may wait in any list of its kind
  may_wait : (to : Place) → MayWaitIn s.kind to → MayTurn k.seats d.ends to (channel_of picked)
  may_wait to fits = record { place = e; place_is = end_is; seat = s; seat_is = seat_is; ready = ready_due; waits = fits }

  module _ (w : ThreeLists) (t : TheEnd) (outcome : Outcome s.kind (channel_of picked) d.lists s.end w t) where
    listed : Listed (MayTurn k.seats d.ends) w
    listed = elim outcome [
      | stays same r ↦ subst (Listed (MayTurn k.seats d.ends)) (sym same) known.registered
      | moves to fits same r ↦
          subst (Listed (MayTurn k.seats d.ends)) (sym same)
          (pushed_each (MayTurn k.seats d.ends) (unlinked d.lists (channel_of picked)) (unlinked_each (MayTurn k.seats d.ends) d.lists known.registered (channel_of picked)) (channel_of picked) to (may_wait to fits))
      | leaves same ↦ subst (Listed (MayTurn k.seats d.ends)) (sym same) (unlinked_each (MayTurn k.seats d.ends) d.lists known.registered (channel_of picked))
    ]

    after : TheDispatcher
    after = record { lists = w; ends = d.ends }

    -- where its channel is registered afterwards, the end is ready
    ready_after : (x : TheDispatcher) → slice_get (slice_set k.dispatchers n after) s.dispatcher ≡ Some x → (list : Place) → is_in s.channel (list_at x.lists list) ≡ true → IsReady t
    unfolding after
    ready_after x at list here = elim outcome [
      | stays same r ↦ r ready_due
      | moves to fits same r ↦ r ready_due
      | leaves same ↦
          let h = known.ends (channel_of picked) e end_is in
          let is_h : h.seat ≡ s = cc (h.seat_is, seat_is) in
          let at_n : s.dispatcher ≡ n = ap (λ (y : TheEndAtChannel). y.dispatcher) (sym is_h) ∙ h.dispatcher_is in
          let at_c : s.channel ≡ channel_of picked = ap (λ (y : TheEndAtChannel). y.channel) (sym is_h) ∙ h.channel_is in
          let there : slice_get (slice_set k.dispatchers n after) s.dispatcher ≡ Some after = ap (slice_get (slice_set k.dispatchers n after)) at_n ∙ set_here k.dispatchers n d after dispatcher_is in
          let is_x : x ≡ after = one_stands (slice_set k.dispatchers n after) s.dispatcher x after at there in
          let gone : is_in s.channel (list_at x.lists list) ≡ false =
          ap (λ (y : TheDispatcher). is_in s.channel (list_at y.lists list)) is_x ∙ ap (λ (y : ThreeLists). is_in s.channel (list_at y list)) same
          ∙ ap (λ (y : ℕ). is_in y (list_at (unlinked d.lists (channel_of picked)) list)) at_c ∙ left_all d.lists (channel_of picked) list in
          absurd (false≢true (sym gone ∙ here))
    ]

    size : w.size ≡ d.lists.size
    size = elim outcome [
      | stays same r ↦ ap (λ (x : ThreeLists). x.size) same
      | moves to fits same r ↦ ap (λ (x : ThreeLists). x.size) same ∙ pushed_size (unlinked d.lists (channel_of picked)) (channel_of picked) to
      | leaves same ↦ ap (λ (x : ThreeLists). x.size) same
    ]

    kept : IsApart w → IsBoard (with_end (with_lists k n d w) e s t)
    unfolding after
    kept apart = end_kept (with_lists k n d w) (lists_kept k sound n d dispatcher_is w size apart listed) e s seat_is t ready_after

  pub turn_kept : {T : Type 0} (takes : T → Look → T → Type 0) (w : ThreeLists) (t : TheEnd) (p q : T) (answer : Result TurnAnswer AllocError)
      → LooksAt takes picked s.kind (moment d.lists s.end p) answer (moment w t q) → IsApart w → IsBoard (with_end (with_lists k n d w) e s t)
  turn_kept takes w t p q answer looks apart = kept w t (looked takes s.kind d.lists w s.end t p q known.apart picked answer picked_is fits_due looks) apart
