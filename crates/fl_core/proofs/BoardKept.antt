-- Each change of a board keeps what is known of it.
use Rattle.std.proofs.Common.{◌≡◌, inl, inr, refl, sym, ap, ◌∙◌, subst, ℕ, ◌<◌, true, List, [], ◌∷◌, ◌++◌, length, slice_get, slice_set, Some, length-append, arith}
use Rattle.std.proofs.lemmas.Bool.{cases_eq}
use Rattle.fl_lists.specs.declared.place.Place.{Place}
use Rattle.fl_lists.specs.declared.place.Place.TheVariants.{Idle, Polled, Pending}
use Rattle.fl_lists.specs.ThreeLists.{ThreeLists, list_at, is_in, NoRepeat, IsApart, empty}
use Rattle.fl_endpoint.specs.View.{TheEnd}
use Rattle.fl_endpoint.specs.Events.{IsReady}
use Rattle.fl_core.specs.declared.kind.ChannelKind.{ChannelKind}
use Rattle.fl_core.specs.BoardView.{TheDispatcher, TheEndAtChannel, TheBoard, with_lists, with_end, with_dispatcher, with_new_end, new_dispatcher}
use Rattle.fl_core.specs.BoardSound.{IsSeated, HasChannel, MayWaitIn, MayTurn, IsDispatcher, IsBoard}
use Rattle.fl_core.proofs.Registered.{Listed}
use Rattle.fl_core.proofs.BoardPlaces.{set_here, set_elsewhere, push_stays, push_last, push_cases}

-- ---- an end changes

module _ (k : TheBoard) (sound : IsBoard k) (e : ℕ) (s : TheEndAtChannel) (seat_is : slice_get k.seats e ≡ Some s) (t : TheEnd) where
  after_seat : TheEndAtChannel
  after_seat = record { end = t; dispatcher = s.dispatcher; channel = s.channel; kind = s.kind }

  channels_stay : (n c place : ℕ) → HasChannel k.seats n c place → HasChannel (with_end k e s t).seats n c place
  unfolding after_seat
  channels_stay n c place h = elim (cases_eq place e) [
    | inl same ↦
        let there : slice_get k.seats place ≡ Some s = ap (slice_get k.seats) same ∙ seat_is in
        let it : h.seat ≡ s = cc (h.seat_is, there) in
        record {
          seat = after_seat;
          seat_is = ap (slice_get (slice_set k.seats e after_seat)) same ∙ set_here k.seats e s after_seat seat_is;
          dispatcher_is = ap (λ (x : TheEndAtChannel). x.dispatcher) (sym it) ∙ h.dispatcher_is;
          channel_is = ap (λ (x : TheEndAtChannel). x.channel) (sym it) ∙ h.channel_is;
        }
    | inr other ↦ record {
      seat = h.seat;
      seat_is = set_elsewhere k.seats e place after_seat other ∙ h.seat_is;
      dispatcher_is = h.dispatcher_is;
      channel_is = h.channel_is;
    }
  ]

  -- while its channel is registered, the end is ready
  module _ (ready : (d : TheDispatcher) → slice_get k.dispatchers s.dispatcher ≡ Some d → (list : Place) → is_in s.channel (list_at d.lists list) ≡ true → IsReady t) where
    turns_stay : (n : ℕ) (d : TheDispatcher) → slice_get k.dispatchers n ≡ Some d → (list : Place) (c : ℕ) → is_in c (list_at d.lists list) ≡ true → MayTurn (with_end k e s t).seats d.ends list c
    unfolding after_seat
    turns_stay n d at list c registered = elim (cases_eq m.place e) [
      | inl same ↦ record {
        place = m.place;
        place_is = m.place_is;
        seat = after_seat;
        seat_is = ap (slice_get (slice_set k.seats e after_seat)) same ∙ set_here k.seats e s after_seat seat_is;
        ready = ready d (ap (slice_get k.dispatchers) (its same).0 ∙ at) list (ap (λ (x : ℕ). is_in x (list_at d.lists list)) (its same).1 ∙ registered);
        waits = subst (λ (x : TheEndAtChannel). MayWaitIn x.kind list) (itself same) m.waits;
      }
      | inr other ↦ record {
        place = m.place;
        place_is = m.place_is;
        seat = m.seat;
        seat_is = set_elsewhere k.seats e m.place after_seat other ∙ m.seat_is;
        ready = m.ready;
        waits = m.waits;
      }
    ] where
      known : IsDispatcher k.seats n d
      known = sound.dispatchers n d at

      m : MayTurn k.seats d.ends list c
      m = known.registered list c registered

      itself : m.place ≡ e → m.seat ≡ s
      itself same = let there : slice_get k.seats m.place ≡ Some s = ap (slice_get k.seats) same ∙ seat_is in cc (m.seat_is, there)

      its : m.place ≡ e → (s.dispatcher ≡ n) × (s.channel ≡ c)
      its same =
          let h = known.ends c m.place m.place_is in
          let there : slice_get k.seats m.place ≡ Some s = ap (slice_get k.seats) same ∙ seat_is in
          let it : h.seat ≡ s = cc (h.seat_is, there) in
          (ap (λ (x : TheEndAtChannel). x.dispatcher) (sym it) ∙ h.dispatcher_is, ap (λ (x : TheEndAtChannel). x.channel) (sym it) ∙ h.channel_is)

    pub end_kept : IsBoard (with_end k e s t)
    unfolding after_seat
    end_kept = record {
      seats = λ e2 s2 at. elim (cases_eq e2 e) [
        | inl same ↦
            let there : slice_get (slice_set k.seats e after_seat) e2 ≡ Some after_seat = ap (slice_get (slice_set k.seats e after_seat)) same ∙ set_here k.seats e s after_seat seat_is in
            let it : s2 ≡ after_seat = cc (at, there) in
            let was = sound.seats e s seat_is in
            record {
              dispatcher = was.dispatcher;
              dispatcher_is = ap (λ (x : TheEndAtChannel). slice_get k.dispatchers x.dispatcher) it ∙ was.dispatcher_is;
              leads_back = ap (λ (x : TheEndAtChannel). slice_get was.dispatcher.ends x.channel) it ∙ was.leads_back ∙ ap Some (sym same);
            }
        | inr other ↦ sound.seats e2 s2 (sym (set_elsewhere k.seats e e2 after_seat other) ∙ at)
      ];
      dispatchers = λ n d at.
          let known = sound.dispatchers n d at in
          record {
            size = known.size;
            few = known.few;
            apart = known.apart;
            ends = λ c place h. channels_stay n c place (known.ends c place h);
            registered = turns_stay n d at;
          };
    }

-- the end of a registered channel is ready
pub seated_ready : (k : TheBoard) → IsBoard k → (e : ℕ) (s : TheEndAtChannel) → slice_get k.seats e ≡ Some s
    → (d : TheDispatcher) → slice_get k.dispatchers s.dispatcher ≡ Some d → (list : Place) → is_in s.channel (list_at d.lists list) ≡ true → IsReady s.end
seated_ready k sound e s at d dispatcher_is list registered =
    let was = sound.seats e s at in
    let m = (sound.dispatchers s.dispatcher d dispatcher_is).registered list s.channel registered in
    let same : was.dispatcher ≡ d = cc (was.dispatcher_is, dispatcher_is) in
    let back : slice_get d.ends s.channel ≡ Some e = ap (λ (y : TheDispatcher). slice_get y.ends s.channel) (sym same) ∙ was.leads_back in
    let place : m.place ≡ e = cc (m.place_is, back) in
    let there : slice_get k.seats m.place ≡ Some s = ap (slice_get k.seats) place ∙ at in
    let it : m.seat ≡ s = cc (m.seat_is, there) in
    subst (λ (y : TheEndAtChannel). IsReady y.end) it m.ready

-- ---- the lists of a dispatcher change

module _ (k : TheBoard) (sound : IsBoard k) (n : ℕ) (d : TheDispatcher) (dispatcher_is : slice_get k.dispatchers n ≡ Some d) (w : ThreeLists) where
  after_dispatcher : TheDispatcher
  after_dispatcher = record { lists = w; ends = d.ends }

  pub lists_kept : w.size ≡ d.lists.size → IsApart w → Listed (MayTurn k.seats d.ends) w → IsBoard (with_lists k n d w)
  unfolding after_dispatcher
  lists_kept size apart registered = record {
    seats = λ e s at.
        let was = sound.seats e s at in
        elim (cases_eq s.dispatcher n) [
          | inl same ↦
              let there : slice_get k.dispatchers s.dispatcher ≡ Some d = ap (slice_get k.dispatchers) same ∙ dispatcher_is in
              let it : was.dispatcher ≡ d = cc (was.dispatcher_is, there) in
              record {
                dispatcher = after_dispatcher;
                dispatcher_is = ap (slice_get (slice_set k.dispatchers n after_dispatcher)) same ∙ set_here k.dispatchers n d after_dispatcher dispatcher_is;
                leads_back = ap (λ (x : TheDispatcher). slice_get x.ends s.channel) (sym it) ∙ was.leads_back;
              }
          | inr other ↦ record {
            dispatcher = was.dispatcher;
            dispatcher_is = set_elsewhere k.dispatchers n s.dispatcher after_dispatcher other ∙ was.dispatcher_is;
            leads_back = was.leads_back;
          }
        ];
    dispatchers = λ m x at. elim (cases_eq m n) [
      | inl same ↦
          let there : slice_get (slice_set k.dispatchers n after_dispatcher) m ≡ Some after_dispatcher = ap (slice_get (slice_set k.dispatchers n after_dispatcher)) same ∙ set_here k.dispatchers n d after_dispatcher dispatcher_is in
          let it : x ≡ after_dispatcher = cc (at, there) in
          let known = sound.dispatchers n d dispatcher_is in
          let next : IsDispatcher k.seats n after_dispatcher = record { size = size ∙ known.size; few = known.few; apart = apart; ends = known.ends; registered = registered } in
          subst (λ (i : ℕ). IsDispatcher k.seats i x) (sym same) (subst (λ (y : TheDispatcher). IsDispatcher k.seats n y) (sym it) next)
      | inr other ↦ sound.dispatchers m x (sym (set_elsewhere k.dispatchers n m after_dispatcher other) ∙ at)
    ];
  }

-- ---- a dispatcher is added

nowhere : {A : Type 0} (n : ℕ) (p : Place) (c : ℕ) → is_in c (list_at (empty n) p) ≡ true → A
nowhere n Idle c h = absurd (cc)
nowhere n Polled c h = absurd (cc)
nowhere n Pending c h = absurd (cc)

empty_apart : (n : ℕ) → IsApart (empty n)
empty_apart n = record {
  once = λ place. elim place as (λ p. NoRepeat (list_at (empty n) p)) [ Idle ↦ tt | Polled ↦ tt | Pending ↦ tt ];
  one_list = λ p q c here there. nowhere n p c here;
  below = λ p c here. nowhere n p c here;
}

pub dispatcher_kept : (k : TheBoard) → IsBoard k → IsBoard (with_dispatcher k)
dispatcher_kept k sound = record {
  seats = λ e s at.
      let was = sound.seats e s at in
      record {
        dispatcher = was.dispatcher;
        dispatcher_is = push_stays k.dispatchers new_dispatcher s.dispatcher was.dispatcher was.dispatcher_is;
        leads_back = was.leads_back;
      };
  dispatchers = λ n d at. elim (push_cases k.dispatchers new_dispatcher n d at) [
    | inl here ↦ subst (λ (y : TheDispatcher). IsDispatcher k.seats n y) (sym here.1) (fresh_dispatcher n)
    | inr there ↦ sound.dispatchers n d there
  ];
} where
  fresh_dispatcher : (n : ℕ) → IsDispatcher k.seats n new_dispatcher
  fresh_dispatcher n = record {
    size = refl;
    few = omega arith;
    apart = empty_apart 1024;
    ends = λ c e h. absurd (cc);
    registered = λ list c h. nowhere 1024 list c h;
  }

-- ---- an end is added

pub new_end_kept : (k : TheBoard) (n : ℕ) (d : TheDispatcher) (s : TheEnd) (kind : ChannelKind) → IsBoard k → slice_get k.dispatchers n ≡ Some d → length d.ends < 1024 → IsBoard (with_new_end k n d s kind)
new_end_kept k n d s kind sound dispatcher_is room = record {
  seats = λ e x at. elim (push_cases k.seats seat e x at) [
    | inl here ↦ record {
      dispatcher = after;
      dispatcher_is = ap (λ (y : TheEndAtChannel). slice_get (slice_set k.dispatchers n after) y.dispatcher) here.1 ∙ set_here k.dispatchers n d after dispatcher_is;
      leads_back = ap (λ (y : TheEndAtChannel). slice_get after.ends y.channel) here.1 ∙ push_last d.ends (length k.seats) ∙ ap Some (sym here.0);
    }
    | inr there ↦ stays e x (sound.seats e x there)
  ];
  dispatchers = λ m x at. elim (cases_eq m n) [
    | inl same ↦
        let there : slice_get (slice_set k.dispatchers n after) m ≡ Some after = ap (slice_get (slice_set k.dispatchers n after)) same ∙ set_here k.dispatchers n d after dispatcher_is in
        let it : x ≡ after = cc (at, there) in
        subst (λ (i : ℕ). IsDispatcher seats i x) (sym same) (subst (λ (y : TheDispatcher). IsDispatcher seats n y) (sym it) grown)
    | inr other ↦ others m x (sound.dispatchers m x (sym (set_elsewhere k.dispatchers n m after other) ∙ at))
  ];
} where
  seat : TheEndAtChannel
  seat = record { end = s; dispatcher = n; channel = length d.ends; kind = kind }

  seats : List TheEndAtChannel
  seats = k.seats ++ seat ∷ []

  after : TheDispatcher
  after = record { lists = d.lists; ends = d.ends ++ length k.seats ∷ [] }

  stays : (e : ℕ) (x : TheEndAtChannel) → IsSeated k.dispatchers e x → IsSeated (slice_set k.dispatchers n after) e x
  stays e x was = elim (cases_eq x.dispatcher n) [
    | inl same ↦
        let there : slice_get k.dispatchers x.dispatcher ≡ Some d = ap (slice_get k.dispatchers) same ∙ dispatcher_is in
        let it : was.dispatcher ≡ d = cc (was.dispatcher_is, there) in
        record {
          dispatcher = after;
          dispatcher_is = ap (slice_get (slice_set k.dispatchers n after)) same ∙ set_here k.dispatchers n d after dispatcher_is;
          leads_back = push_stays d.ends (length k.seats) x.channel e (ap (λ (y : TheDispatcher). slice_get y.ends x.channel) (sym it) ∙ was.leads_back);
        }
    | inr other ↦ record {
      dispatcher = was.dispatcher;
      dispatcher_is = set_elsewhere k.dispatchers n x.dispatcher after other ∙ was.dispatcher_is;
      leads_back = was.leads_back;
    }
  ]

  channel : (m c place : ℕ) → HasChannel k.seats m c place → HasChannel seats m c place
  channel m c place h = record {
    seat = h.seat;
    seat_is = push_stays k.seats seat place h.seat h.seat_is;
    dispatcher_is = h.dispatcher_is;
    channel_is = h.channel_is;
  }

  turn : (ends : List ℕ) (list : Place) (c : ℕ) → MayTurn k.seats ends list c → MayTurn seats ends list c
  turn ends list c m = record {
    place = m.place;
    place_is = m.place_is;
    seat = m.seat;
    seat_is = push_stays k.seats seat m.place m.seat m.seat_is;
    ready = m.ready;
    waits = m.waits;
  }

  others : (m : ℕ) (x : TheDispatcher) → IsDispatcher k.seats m x → IsDispatcher seats m x
  others m x known = record {
    size = known.size;
    few = known.few;
    apart = known.apart;
    ends = λ c place h. channel m c place (known.ends c place h);
    registered = λ list c h. turn x.ends list c (known.registered list c h);
  }

  known : IsDispatcher k.seats n d
  known = sound.dispatchers n d dispatcher_is

  grown : IsDispatcher seats n after
  grown = record {
    size = known.size;
    few = omega (arith, length-append d.ends (length k.seats ∷ []));
    apart = known.apart;
    ends = λ c place h. elim (push_cases d.ends (length k.seats) c place h) [
      | inl here ↦ record {
        seat = seat;
        seat_is = ap (slice_get seats) here.1 ∙ push_last k.seats seat;
        dispatcher_is = refl;
        channel_is = sym here.0;
      }
      | inr there ↦ channel n c place (known.ends c place there)
    ];
    registered = λ list c h.
        let m = known.registered list c h in
        turn after.ends list c (record {
          place = m.place;
          place_is = push_stays d.ends (length k.seats) c m.place m.place_is;
          seat = m.seat;
          seat_is = m.seat_is;
          ready = m.ready;
          waits = m.waits;
        });
  }
