-- An event of the lists of the dispatcher at which an end sits: k is the board before, and base the same by its fields.
use Rattle.std.proofs.Common.{◌≡◌, refl, sym, ap, ◌∙◌, subst, ℕ, ◌<◌, true, List, length, slice_get, slice_index_or, Some, Result, Ok, Err, arith}
use Rattle.std.proofs.lemmas.Option.{slice_get_read, slice_get_within}
use Rattle.fl_lists.specs.declared.place.Place.{Place}
use Rattle.fl_lists.specs.declared.place.Place.TheVariants as place
use Rattle.fl_lists.specs.ThreeLists.{ThreeLists, is_in, unlinked, pushed, IsApart}
use Rattle.fl_lists.proofs.Tables.{pushed_size}
use Rattle.fl_waitset.specs.Waiting.{triggered}
use Rattle.fl_link.specs.Looks.{Look}
use Rattle.fl_endpoint.specs.Events.{IsReady}
use Rattle.fl_core.specs.BoardView.{TheDispatcher, TheEndAtChannel, TheBoard, with_lists}
use Rattle.fl_core.specs.BoardSound.{IsSeated, MayWaitIn, MayTurn, IsDispatcher, IsBoard}
use Rattle.fl_core.specs.declared.board_fault.BoardFault.{BoardFault}
use Rattle.fl_core.specs.declared.board_fault.BoardFault.TheVariants.{NotBound, Registered, NotRegistered, TooManyEnds, Failed, Memory}
use Rattle.fl_core.specs.BoardTurns.{lent}
use Rattle.fl_core.specs.BoardEvents.{ChangesLists, Joins, Registers}
use Rattle.fl_core.proofs.BoardPlaces.{one_stands, set_same}
use Rattle.fl_core.proofs.Registered.{Listed, pushed_each, unlinked_each, triggered_each, triggered_size}
use Rattle.fl_core.proofs.Turning.{pending_fits, waits_fits}
use Rattle.fl_core.proofs.BoardKept.{lists_kept}

module _ (k base : TheBoard) (same : base ≡ k) (e : ℕ) (s : TheEndAtChannel) (here : slice_get base.seats e ≡ Some s) (sound : IsBoard base) where
  seated : IsSeated base.dispatchers e s
  seated = sound.seats e s here

  pub dispatcher_below : s.dispatcher < length base.dispatchers
  dispatcher_below = slice_get_within base.dispatchers s.dispatcher seated.dispatcher seated.dispatcher_is

  -- an event that changes nothing
  pub unchanged : (Event : TheEndAtChannel → ThreeLists → ThreeLists → Type 0) → ((w : ThreeLists) → Event s w w) → ChangesLists k e Event k
  unchanged Event event =
      let at : slice_get k.dispatchers s.dispatcher ≡ Some seated.dispatcher = subst (λ (x : TheBoard). slice_get x.dispatchers s.dispatcher ≡ Some seated.dispatcher) same seated.dispatcher_is in
      record {
        seat = s;
        seat_is = subst (λ (x : TheBoard). slice_get x.seats e ≡ Some s) same here;
        dispatcher = seated.dispatcher;
        dispatcher_is = at;
        lists = seated.dispatcher.lists;
        event = event seated.dispatcher.lists;
        board = ap (λ (ds : List TheDispatcher). let c : TheBoard = record { dispatchers = ds; seats = k.seats } in c) (sym (set_same k.dispatchers s.dispatcher seated.dispatcher at));
      }

  module _ (d seen : TheDispatcher) (value_d : seen ≡ slice_index_or base.dispatchers s.dispatcher seen) (view_d : d ≡ seen) where
    pub stands : slice_get base.dispatchers s.dispatcher ≡ Some d
    stands = slice_get_read base.dispatchers (length base.dispatchers) s.dispatcher seen refl dispatcher_below value_d ∙ ap Some (sym view_d)

    known : IsDispatcher base.seats s.dispatcher d
    known = sound.dispatchers s.dispatcher d stands

    leads_back : slice_get d.ends s.channel ≡ Some e
    leads_back =
        let it : seated.dispatcher ≡ d = one_stands base.dispatchers s.dispatcher seated.dispatcher d seated.dispatcher_is stands in
        ap (λ (x : TheDispatcher). slice_get x.ends s.channel) (sym it) ∙ seated.leads_back

    pub channel_below : s.channel < d.lists.size
    channel_below = let within = slice_get_within d.ends s.channel e leads_back in omega (arith, within, known.few, known.size)

    pub lists_event : (Event : TheEndAtChannel → ThreeLists → ThreeLists → Type 0) (w : ThreeLists) → Event s d.lists w → ChangesLists k e Event (with_lists base s.dispatcher d w)
    lists_event Event w event = record {
      seat = s;
      seat_is = subst (λ (x : TheBoard). slice_get x.seats e ≡ Some s) same here;
      dispatcher = d;
      dispatcher_is = subst (λ (x : TheBoard). slice_get x.dispatchers s.dispatcher ≡ Some d) same stands;
      lists = w;
      event = event;
      board = ap (λ (x : TheBoard). with_lists x s.dispatcher d w) same;
    }

    kept : (w v : ThreeLists) → v ≡ w → w.size ≡ d.lists.size → Listed (MayTurn base.seats d.ends) w → IsApart v → IsBoard (with_lists base s.dispatcher d v)
    kept w v v_is size listed apart =
        lists_kept base sound s.dispatcher d stands v (ap (λ (x : ThreeLists). x.size) v_is ∙ size) apart (subst (Listed (MayTurn base.seats d.ends)) (sym v_is) listed)

    -- nothing changes
    pub kept_same : (v : ThreeLists) → v ≡ d.lists → IsApart v → IsBoard (with_lists base s.dispatcher d v)
    kept_same v v_is apart = kept d.lists v v_is refl known.registered apart

    -- the end's channel leaves
    pub kept_unlinked : (v : ThreeLists) → v ≡ unlinked d.lists s.channel → IsApart v → IsBoard (with_lists base s.dispatcher d v)
    kept_unlinked v v_is apart = kept (unlinked d.lists s.channel) v v_is refl (unlinked_each (MayTurn base.seats d.ends) d.lists known.registered s.channel) apart

    -- it is registered, while the end is ready
    pub kept_pushed : (v : ThreeLists) (to : Place) → IsReady s.end → MayWaitIn s.kind to → v ≡ pushed d.lists s.channel to → IsApart v → IsBoard (with_lists base s.dispatcher d v)
    kept_pushed v to ready fits v_is apart =
        let turn : MayTurn base.seats d.ends to s.channel = record { place = e; place_is = leads_back; seat = s; seat_is = here; ready = ready; waits = fits } in
        kept (pushed d.lists s.channel to) v v_is (pushed_size d.lists s.channel to) (pushed_each (MayTurn base.seats d.ends) d.lists known.registered s.channel to turn) apart

    -- it is triggered
    pub kept_triggered : (v : ThreeLists) → v ≡ triggered d.lists s.channel → IsApart v → IsBoard (with_lists base s.dispatcher d v)
    kept_triggered v v_is apart = kept (triggered d.lists s.channel) v v_is (triggered_size d.lists s.channel) (triggered_each (MayTurn base.seats d.ends) d.lists known.registered s.channel turn) apart where
      turn : is_in s.channel d.lists.idle ≡ true → MayTurn base.seats d.ends place.Pending s.channel
      turn idle =
          let m = known.registered place.Idle s.channel idle in
          record { place = m.place; place_is = m.place_is; seat = m.seat; seat_is = m.seat_is; ready = m.ready; waits = pending_fits m.seat.kind }

    -- it is registered, or was already
    pub kept_joined : {T : Type 0} (takes : T → Look → T → Type 0) (p q : T) (v : ThreeLists) (r : Result (Unit {0}) BoardFault) → IsReady s.end → Joins takes s.kind s.channel (lent d.lists p) r (lent v q) → IsApart v → IsBoard (with_lists base s.dispatcher d v)
    kept_joined takes p q v (Ok done) ready (free, (to, waits, v_is)) apart = kept_pushed v to ready (waits_fits takes s.kind p q to waits) v_is apart
    kept_joined takes p q v (Err Registered) ready h apart = kept_same v h.2 apart
    kept_joined takes p q v (Err NotBound) ready h apart = absurd h
    kept_joined takes p q v (Err NotRegistered) ready h apart = absurd h
    kept_joined takes p q v (Err TooManyEnds) ready h apart = absurd h
    kept_joined takes p q v (Err Failed) ready h apart = absurd h
    kept_joined takes p q v (Err Memory) ready h apart = absurd h

-- an end that is ready registers as its channel joins
pub joins_registers : {T : Type 0} (takes : T → Look → T → Type 0) (s : TheEndAtChannel) (w v : ThreeLists) (p q : T) (r : Result (Unit {0}) BoardFault) → IsReady s.end → Joins takes s.kind s.channel (lent w p) r (lent v q) → Registers takes s (lent w p) r (lent v q)
joins_registers takes s w v p q (Ok done) ready h = (ready, h)
joins_registers takes s w v p q (Err Registered) ready h = (ready, h)
joins_registers takes s w v p q (Err NotBound) ready h = absurd h
joins_registers takes s w v p q (Err NotRegistered) ready h = absurd h
joins_registers takes s w v p q (Err TooManyEnds) ready h = absurd h
joins_registers takes s w v p q (Err Failed) ready h = absurd h
joins_registers takes s w v p q (Err Memory) ready h = absurd h
