-- What a core does over one of its sides, by itself, it does beside the one across too, where the side finds what stands there.
use Rattle.std.proofs.Common.{◌≡◌, inl, inr, refl, sym, ◌∙◌, ap, subst, ℕ, ◌+◌, ◌<◌, List, [], ◌∷◌, ◌++◌, length, drop, slice_get, Option, Some, None, arith}
use Rattle.std.specs.Prelude.{Result, Ok, Err}
use Rattle.std.specs.declared.alloc.AllocError.{AllocError}
use Rattle.fl_base.specs.Control.{bare}
use Rattle.fl_base.specs.Given.{given}
use Rattle.fl_base.specs.declared.fragment.Frag.{Frag}
use Rattle.fl_lists.specs.ThreeLists.{ThreeLists}
use Rattle.fl_lists.specs.declared.place.Place.{Place}
use Rattle.fl_lists.specs.declared.place.Place.TheVariants as place
use Rattle.fl_waitset.specs.declared.waitset.Pick.{Pick}
use Rattle.fl_waitset.specs.declared.waitset.Pick.TheVariants as pick
use Rattle.fl_link.specs.Looks.{Look, placed, no_room, spent, saw, saw_ack, found, found_ack, missed, told, kept}
use Rattle.fl_ring.specs.SharedSeats.{front_seen}
use Rattle.fl_ring.specs.SharedSides.{TheSide, SharedPuts, SharedTakes, SideSees, SideGets}
use Rattle.fl_hop.specs.Forward.{Finds, LinkOfTable, Leaves as LeavesFrag}
use Rattle.fl_hop.specs.declared.entry.HopTarget.TheVariants.{Link, End}
use Rattle.fl_hop.specs.declared.fault.HopFault.{HopFault}
use Rattle.fl_hop.specs.declared.fault.HopFault.TheVariants as hop
use Rattle.fl_hop.specs.declared.forward.ForwardOutcome.{ForwardOutcome}
use Rattle.fl_hop.specs.declared.forward.ForwardOutcome.TheVariants as outcome
use Rattle.fl_hop.specs.declared.forward.HopFront.{HopFront}
use Rattle.fl_hop.specs.declared.forward.HopFront.TheVariants as hop_front
use Rattle.fl_endpoint.specs.Events.{Writes, Takes, Leaves, Receives}
use Rattle.fl_endpoint.specs.View.{TheEnd}
use Rattle.fl_endpoint.specs.declared.answer.ReceiveAnswer.{ReceiveAnswer}
use Rattle.fl_endpoint.specs.declared.answer.ReceiveAnswer.TheVariants as receive
use Rattle.fl_endpoint.specs.declared.answer.WriteAnswer.{WriteAnswer}
use Rattle.fl_endpoint.specs.declared.answer.WriteAnswer.TheVariants.{Written, Full, Nothing}
use Rattle.fl_endpoint.specs.declared.fault.EndFault.{EndFault}
use Rattle.fl_endpoint.specs.declared.fault.EndFault.TheVariants.{Spent, NotBound, Failed, Wire, Memory}
use Rattle.fl_core.specs.BoardEvents.{Acks}
use Rattle.fl_core.specs.BoardTurns.{WaitsIn, lent, moment, over, TakesOne, Gives, IsQuiet, Examines, LooksAt, Turns}
use Rattle.fl_core.specs.BoardView.{TheBoard, TheEndAtChannel}
use Rattle.fl_core.specs.Ends.{at_side, WritesAt}
use Rattle.fl_core.specs.Hearing.{TakesHeard}
use Rattle.fl_core.specs.Links.{Seen, link_of, LooksAhead, Inbound, ArrivesAt, MonitorWrites, Acknowledges}
use Rattle.fl_core.specs.Sound.{IsCore, kinds_seated}
use Rattle.fl_core.specs.View.{TheCore, kind_of, inlet_by, inlet_of}
use Rattle.fl_core.specs.declared.answer.LinkFront.{LinkFront}
use Rattle.fl_core.specs.declared.answer.LinkFront.TheVariants as front
use Rattle.fl_core.specs.declared.answer.MonitorAnswer.{MonitorAnswer}
use Rattle.fl_core.specs.declared.answer.MonitorAnswer.TheVariants as answered
use Rattle.fl_core.specs.declared.answer.MonitorWrite.{MonitorWrite}
use Rattle.fl_core.specs.declared.answer.MonitorWrite.TheVariants as write
use Rattle.fl_core.specs.declared.board_fault.BoardFault.{BoardFault}
use Rattle.fl_core.specs.declared.board_fault.BoardFault.TheVariants as board
use Rattle.fl_core.specs.declared.fault.LinkReceiveFault.{LinkReceiveFault}
use Rattle.fl_core.specs.declared.fault.LinkReceiveFault.TheVariants as link
use Rattle.fl_core.specs.declared.kind.ChannelKind.{ChannelKind}
use Rattle.fl_core.specs.declared.kind.ChannelKind.TheVariants as kind
use Rattle.fl_core.specs.declared.turn_answer.AckAnswer.{AckAnswer}
use Rattle.fl_core.specs.declared.turn_answer.AckAnswer.TheVariants as ack
use Rattle.fl_core.specs.declared.turn_answer.TurnAnswer.{TurnAnswer}
use Rattle.fl_core.specs.declared.turn_answer.TurnAnswer.TheVariants as turn
use Rattle.fl_core.specs.declared.wiring.EndWiring.{EndWiring}
use Rattle.fl_core.specs.declared.wiring.EndWiring.TheVariants as wiring
use Rattle.fl_core.specs.declared.wiring.Inlet.TheVariants as inlet
use Rattle.fl_core.specs.declared.wiring.WiredEnd.{WiredEnd}
use Rattle.fl_core.proofs.Numbering.{goes_to}
use Rattle.fl_world_refines.proofs.FramesBase.{same_some, not_both}
use Rattle.fl_world_refines.proofs.PassingLists.{some_is}
use Rattle.fl_cores_joined.specs.Joined.{facing}
use Rattle.fl_cores_joined.specs.Rings.{FacingSide, standing_for, FindsFirst, FindsWhatStood, Truly}

no_more : {X : Type 0} (a : ℕ) → a < a → X
no_more a h = absurd (omega (arith, h))

no_longer : {X : Type 0} (xs : List Frag) (x : Frag) → xs ++ x ∷ [] ≡ xs → X
no_longer [] x e = absurd (let long = ap length e in omega (arith, long))
no_longer (y ∷ xs) x e = let less : xs ++ x ∷ [] ≡ xs = cc in no_longer xs x less

last_same : (xs : List Frag) (a b : Frag) → xs ++ a ∷ [] ≡ xs ++ b ∷ [] → a ≡ b
last_same [] a b e = cc
last_same (x ∷ xs) a b e = let less : xs ++ a ∷ [] ≡ xs ++ b ∷ [] = cc in last_same xs a b less

-- ---- an end that takes from a ring has a ring's kind

over_ring : (n : ℕ) (wired : EndWiring) → inlet_by wired ≡ inlet.Side n → kind_of wired ≡ kind.Ring
over_ring n (wiring.Queues out from) h = absurd (cc)
over_ring n (wiring.Ring side) h = refl
over_ring n (wiring.Circuit onto arrivals) h = absurd (cc)

pub ring_kind : (k : TheCore) (e n : ℕ) (seat : TheEndAtChannel) → IsCore k → slice_get k.board.seats e ≡ Some seat
    → inlet_of k e ≡ Some (inlet.Side n) → seat.kind ≡ kind.Ring
ring_kind k e n seat core at from = by (slice_get k.wired_ends e) refl from
  where
    by : (o : Option WiredEnd) → slice_get k.wired_ends e ≡ o → (given o None λ p. Some (inlet_by p.wiring)) ≡ Some (inlet.Side n) → seat.kind ≡ kind.Ring
    by None q h = absurd (cc)
    by (Some p) q h =
        same_some (slice_get (kinds_seated k.board.seats) e) seat.kind (kind_of p.wiring)
        (goes_to (λ (s : TheEndAtChannel). s.kind) k.board.seats e seat at)
        (ap (λ (ks : List ChannelKind). slice_get ks e) core.kinds ∙ goes_to (λ (w : WiredEnd). kind_of w.wiring) k.wired_ends e p q)
        ∙ over_ring n p.wiring (some_is (inlet_by p.wiring) (inlet.Side n) h)

-- ---- steps of a side

module _ (a p q : TheSide) (finds : FindsWhatStood (standing_for p a) p q) where
  -- one step
  pub once : (step : TheSide → Look → TheSide → Type 0) (look : Look) → step p look q → Truly step (facing p a) look (facing q a)
  once step look h = (h, finds, refl)

  still : q ≡ p → facing q a ≡ facing p a
  still e = ap (λ (s : TheSide). facing s a) e

  -- a look at the first, and the take of that
  record FindBoth (m : TheSide) : Type 0 where
    first : FindsWhatStood (standing_for p a) p m
    second : FindsWhatStood (standing_for m a) m q

  module _ (m : TheSide) (one two : Frag) (sees : SideSees p one m) (gets : SideGets m two q) where
    seen_got : m.got ≡ p.got
    seen_got = ap (λ (s : TheSide). s.got) sees.1

    seen_one : m.peeked ≡ Some one
    seen_one = ap (λ (s : TheSide). s.peeked) sees.1

    two_is : two ≡ one
    two_is = gets.0 one seen_one

    it : FindsFirst (standing_for p a) p q
    it =
        let loads_m : m.loads ≡ p.loads + 1 = ap (λ (s : TheSide). s.loads) sees.1 in
        let loads_q : q.loads ≡ m.loads + 1 = ap (λ (s : TheSide). s.loads) gets.1 in
        finds.something (ap (λ (s : TheSide). s.misses) gets.1 ∙ ap (λ (s : TheSide). s.misses) sees.1) (omega (arith, loads_m, loads_q))

    got_both : q.got ≡ p.got ++ two ∷ []
    got_both = ap (λ (s : TheSide). s.got) gets.1 ∙ ap (λ (l : List Frag). l ++ two ∷ []) seen_got

    two_first : two ≡ it.first
    two_first = elim it.took [
      | inl same ↦ no_longer p.got two (sym got_both ∙ same)
      | inr same ↦ last_same p.got two it.first (sym got_both ∙ same)
    ]

    find_both : FindBoth m
    find_both = record {
      first = record {
        nothing = λ h. no_more p.misses (subst (λ (s : TheSide). p.misses < s.misses) sees.1 h);
        something = λ stays loads. record {
          first = one;
          rest = it.rest;
          stood_is = it.stood_is ∙ ap (λ (f : Frag). f ∷ it.rest) (sym two_first ∙ two_is);
          known = ap (λ (s : TheSide). s.known) sees.1;
          saw = λ frag e. some_is frag one (sym e ∙ seen_one);
          took = inl seen_got;
        };
      };
      second = record {
        nothing = λ h. no_more m.misses (subst (λ (s : TheSide). m.misses < s.misses) gets.1 h);
        something = λ stays loads. record {
          first = two;
          rest = it.rest;
          stood_is = ap (λ (l : List Frag). drop (length l) a.sent) seen_got ∙ it.stood_is ∙ ap (λ (f : Frag). f ∷ it.rest) (sym two_first);
          known = ap (λ (s : TheSide). s.known) gets.1;
          saw = λ frag e. not_both q.peeked frag (ap (λ (s : TheSide). s.peeked) gets.1) e;
          took = inr (ap (λ (s : TheSide). s.got) gets.1);
        };
      };
    }

  plain_twice : (f : Frag) (m : TheSide) → SharedTakes p (saw f) m → SharedTakes m (found f) q
      → Truly SharedTakes (facing p a) (saw f) (facing m a) × Truly SharedTakes (facing m a) (found f) (facing q a)
  plain_twice f m (one, is, sees) (two, also, gets) =
      let both = find_both m one two sees gets in
      (((one, is, sees), both.first, refl), ((two, also, gets), both.second, refl))

  ack_twice : (m : TheSide) → SharedTakes p saw_ack m → SharedTakes m found_ack q
      → Truly SharedTakes (facing p a) saw_ack (facing m a) × Truly SharedTakes (facing m a) found_ack (facing q a)
  ack_twice m (one, is, sees) (two, also, gets) =
      let both = find_both m one two sees gets in
      (((one, is, sees), both.first, refl), ((two, also, gets), both.second, refl))

  -- ---- on a link

  finds_so : (at : LinkOfTable) (r : Result HopFront HopFault)
      → Finds SharedTakes (λ (s : TheSide). front_seen s.peeked) at r (record { before = p; after = q })
      → Finds (Truly SharedTakes) (λ (z : FacingSide). front_seen z.side.peeked) at r (record { before = facing p a; after = facing q a })
  finds_so at (Ok hop_front.Nothing) h = once SharedTakes missed h
  finds_so at (Ok hop_front.Acknowledged) (m, sees, gets) = let x = ack_twice m sees gets in (facing m a, x.0, x.1)
  finds_so at (Ok (hop_front.Monitor frag)) (sees, stands, number) = (once SharedTakes (saw (bare frag)) sees, stands, number)
  finds_so at (Ok (hop_front.Goes frag way)) (sees, stands, number, way_is, plain, other) =
      (once SharedTakes (saw (bare frag)) sees, stands, number, way_is, plain, other)
  finds_so at (Err hop.Misrouted) (frag, sees, number, none) = (frag, once SharedTakes (saw (bare frag)) sees, number, none)
  finds_so at (Err hop.Marked) (frag, e, sees, number, way_is, marked) =
      (frag, e, once SharedTakes (saw (bare frag)) sees, number, way_is, marked)
  finds_so at (Err fault) h = absurd h

  leaves_so : (o : ForwardOutcome) (f : Frag) → LeavesFrag SharedTakes o f (record { before = p; after = q })
      → LeavesFrag (Truly SharedTakes) o f (record { before = facing p a; after = facing q a })
  leaves_so outcome.Moved f h = once SharedTakes (found f) h
  leaves_so outcome.Full f h = still h
  leaves_so outcome.Spent f h = still h

  module _ (k k2 : TheCore) where
    sees_so : (l : ℕ) (r : Result HopFront HopFault) → Seen SharedTakes (λ (s : TheSide). front_seen s.peeked) (link_of k l) r p q
        → Seen (Truly SharedTakes) (λ (z : FacingSide). front_seen z.side.peeked) (link_of k l) r (facing p a) (facing q a)
    sees_so l r h =
        record { link_side = h.link_side; finds = finds_so (record { table = k.monitor.circuits; link = l }) r h.finds }

    pub looks_so : (l : ℕ) (r : Result LinkFront LinkReceiveFault)
        → LooksAhead SharedTakes (λ (s : TheSide). front_seen s.peeked) l (at_side k p) r (at_side k2 q)
        → LooksAhead (Truly SharedTakes) (λ (z : FacingSide). front_seen z.side.peeked) l (at_side k (facing p a)) r (at_side k2 (facing q a))
    looks_so l (Ok front.Nothing) (h, e) = (sees_so l (Ok hop_front.Nothing) h, e)
    looks_so l (Ok front.Acknowledged) (h, e) = (sees_so l (Ok hop_front.Acknowledged) h, e)
    looks_so l (Ok (front.Message frag)) (h, e) = (sees_so l (Ok (hop_front.Monitor frag)) h, e)
    looks_so l (Ok (front.Onward frag to c)) (h, e) =
        (record { link = h.link; seen = sees_so l (Ok (hop_front.Goes frag (Link h.link c))) h.seen; side_is = h.side_is }, e)
    looks_so l (Ok (front.Arrival frag name)) (h, e) = (sees_so l (Ok (hop_front.Goes frag (End name))) h, e)
    looks_so l (Err link.Failed) (h, e, same) = (h, e, still same)
    looks_so l (Err link.Misrouted) (h, e) = (sees_so l (Err hop.Misrouted) h, e)
    looks_so l (Err link.Marked) (h, e) = (sees_so l (Err hop.Marked) h, e)
    looks_so l (Err (link.Wire f)) h = absurd h
    looks_so l (Err link.Memory) h = absurd h

    pub arrives_so : (x : Inbound) (r : Result ForwardOutcome LinkReceiveFault) → ArrivesAt SharedTakes x (at_side k p) r (at_side k2 q)
        → ArrivesAt (Truly SharedTakes) x (at_side k (facing p a)) r (at_side k2 (facing q a))
    arrives_so x (Ok o) h = record {
      end = h.end;
      queue = h.queue;
      at = h.at;
      before = h.before;
      before_is = h.before_is;
      after = h.after;
      puts = h.puts;
      left = leaves_so o (bare x.frag) h.left;
      triggers = h.triggers;
      rest = h.rest;
    }
    arrives_so x (Err link.Misrouted) (none, e, same) = (none, e, still same)
    arrives_so x (Err link.Failed) h = absurd h
    arrives_so x (Err link.Marked) h = absurd h
    arrives_so x (Err (link.Wire f)) h = absurd h
    arrives_so x (Err link.Memory) h = absurd h

    pub says_so : (l : ℕ) (r : MonitorWrite) → MonitorWrites SharedPuts l (at_side k p) r (at_side k2 q)
        → MonitorWrites (Truly SharedPuts) l (at_side k (facing p a)) r (at_side k2 (facing q a))
    says_so l write.Written (f, rest, w, put, e) = (f, rest, w, once SharedPuts (placed f) put, e)
    says_so l write.Full (some, put, e) = (some, once SharedPuts no_room put, e)
    says_so l write.Spent (some, put, e) = (some, once SharedPuts spent put, e)
    says_so l write.Nothing (none, e, same) = (none, e, still same)

  pub hears_so : (frag : Frag) (r : Result MonitorAnswer LinkReceiveFault) → TakesHeard SharedTakes frag p r q
      → TakesHeard (Truly SharedTakes) frag (facing p a) r (facing q a)
  hears_so frag (Ok answered.Full) h = still h
  hears_so frag (Ok answered.Done) h = once SharedTakes (found (bare frag)) h
  hears_so frag (Ok (answered.Opened e)) h = once SharedTakes (found (bare frag)) h
  hears_so frag (Ok (answered.OpeningRefused e reason)) h = once SharedTakes (found (bare frag)) h
  hears_so frag (Err fault) h = still h

  pub tells_so : (r : AckAnswer) → Acknowledges SharedTakes p r q → Acknowledges (Truly SharedTakes) (facing p a) r (facing q a)
  tells_so ack.Done h = once SharedTakes told h
  tells_so ack.Nothing h = once SharedTakes kept h
  tells_so ack.Full h = once SharedTakes no_room h

  -- ---- at an end

  writes : (s t : TheEnd) (r : Result WriteAnswer EndFault) → Writes SharedPuts s p r t q → Writes (Truly SharedPuts) s (facing p a) r t (facing q a)
  writes s t (Ok (Written number count)) (ready, (f, rest, u, c, n, put, e)) =
      (ready, (f, rest, u, c, n, once SharedPuts (placed f) put, e))
  writes s t (Ok Full) (ready, some, put, e) = (ready, some, once SharedPuts no_room put, e)
  writes s t (Ok Nothing) (ready, none, same, e) = (ready, none, still same, e)
  writes s t (Err Spent) (ready, some, put, e) = (ready, some, once SharedPuts spent put, e)
  writes s t (Err NotBound) (unbound, same, e) = (unbound, still same, e)
  writes s t (Err Failed) (failed, same, e) = (failed, still same, e)
  writes s t (Err fault) h = absurd h

  pub writes_so : (e : ℕ) (k k2 : TheCore) (r : Result WriteAnswer EndFault) → WritesAt SharedPuts e (at_side k p) r (at_side k2 q)
      → WritesAt (Truly SharedPuts) e (at_side k (facing p a)) r (at_side k2 (facing q a))
  writes_so e k k2 r h = record {
    wrote = h.wrote;
    writes = record {
      seat = h.writes.seat;
      seat_is = h.writes.seat_is;
      end = h.writes.end;
      event = writes h.writes.seat.end h.writes.end r h.writes.event;
      board = h.writes.board;
    };
    triggers = h.triggers;
    rest = h.rest;
  }

  pub acks_so : (seat_kind : ChannelKind) (s : TheEnd) (r : Result AckAnswer BoardFault) → Acks SharedTakes seat_kind s p r q
      → Acks (Truly SharedTakes) seat_kind s (facing p a) r (facing q a)
  acks_so kind.Ring s (Ok ack.Done) (is, h) = (is, once SharedTakes told h)
  acks_so kind.Ring s (Ok ack.Nothing) (is, h) = (is, once SharedTakes kept h)
  acks_so kind.Ring s (Ok ack.Full) (is, h) = (is, once SharedTakes no_room h)
  acks_so kind.Queue s (Ok ack.Nothing) (is, same) = (is, still same)
  acks_so kind.Ring s (Err board.NotBound) (is, same) = (is, still same)
  acks_so kind.Queue s (Err board.NotBound) (is, same) = (is, still same)
  acks_so seat_kind s answer h = absurd h

  -- ---- a turn, over a ring

  takes : (s t : TheEnd) (r : ReceiveAnswer) → Takes SharedTakes s p r t q → Takes (Truly SharedTakes) s (facing p a) r t (facing q a)
  takes s t r (opens, (f, m, b, sees, gets, in_it)) =
      let x = plain_twice f m sees gets in
      (opens, (f, facing m a, b, x.0, x.1, in_it))

  leaves : (s t : TheEnd) (fault : EndFault) → Leaves SharedTakes s p fault t q → Leaves (Truly SharedTakes) s (facing p a) fault t (facing q a)
  leaves s t fault (opens, (f, b, sees, in_it)) = (opens, (f, b, once SharedTakes (saw f) sees, in_it))

  receives : (s t : TheEnd) (r : Result ReceiveAnswer EndFault) → Receives SharedTakes s p r t q
      → Receives (Truly SharedTakes) s (facing p a) r t (facing q a)
  receives s t (Ok (receive.Handle call)) h = takes s t (receive.Handle call) h
  receives s t (Ok receive.Part) h = takes s t receive.Part h
  receives s t (Ok receive.Quiet) (opens, (m, sees, gets), e) = let x = ack_twice m sees gets in (opens, (facing m a, x.0, x.1), e)
  receives s t (Ok receive.Empty) (opens, misses, e) = (opens, once SharedTakes missed misses, e)
  receives s t (Ok receive.HeldBack) (ready, holds, same, e) = (ready, holds, still same, e)
  receives s t (Err (Wire fault)) h = leaves s t (Wire fault) h
  receives s t (Err Memory) h = leaves s t Memory h
  receives s t (Err NotBound) (unbound, same, e) = (unbound, still same, e)
  receives s t (Err Failed) (failed, same, e) = (failed, still same, e)
  receives s t (Err fault) h = absurd h

  -- a ring is polled: no look follows
  waits : (m : TheSide) (to : Place) → WaitsIn SharedTakes kind.Ring m to q
      → (q ≡ m) × WaitsIn (Truly SharedTakes) kind.Ring (facing q a) to (facing q a)
  waits m place.Polled h = (h, refl)
  waits m place.Pending h = absurd h
  waits m place.Idle h = absurd h

  takes_one : (c : ℕ) (w v : ThreeLists) (s t : TheEnd) (r : ReceiveAnswer) → TakesOne SharedTakes kind.Ring c (moment w s p) r (moment v t q)
      → TakesOne (Truly SharedTakes) kind.Ring c (moment w s (facing p a)) r (moment v t (facing q a))
  takes_one c w v s t r (m, gets, (to, on, e)) =
      let it = waits m to on in
      (facing q a, receives s t (Ok r) (subst (λ (z : TheSide). Receives SharedTakes s p (Ok r) t z) (sym it.0) gets), (to, it.1, e))

  gives : (c : ℕ) (w v : ThreeLists) (s t : TheEnd) (r : Result TurnAnswer AllocError) → Gives SharedTakes kind.Ring c (moment w s p) r (moment v t q)
      → Gives (Truly SharedTakes) kind.Ring c (moment w s (facing p a)) r (moment v t (facing q a))
  gives c w v s t (Ok (turn.Handle call)) h = takes_one c w v s t (receive.Handle call) h
  gives c w v s t (Ok turn.Part) h = takes_one c w v s t receive.Part h
  gives c w v s t (Ok turn.Quiet) h = takes_one c w v s t receive.Quiet h
  gives c w v s t (Ok turn.Full) (gets, e) = (receives s t (Ok receive.HeldBack) gets, e)
  gives c w v s t (Ok turn.Nothing) h = takes_one c w v s t receive.Empty h
  gives c w v s t (Ok (turn.Refused fault)) (gets, e) = (receives s t (Err (Wire fault)) gets, e)
  gives c w v s t (Ok turn.Ready) h = absurd h
  gives c w v s t (Err error) (gets, e) = (receives s t (Err Memory) gets, e)

  quiet : IsQuiet SharedTakes p q → IsQuiet (Truly SharedTakes) (facing p a) (facing q a)
  quiet (inl misses) = inl (once SharedTakes missed misses)
  quiet (inr (m, sees, gets)) = let x = ack_twice m sees gets in inr (facing m a, x.0, x.1)

  examines : (c : ℕ) (w v : ThreeLists) (r : Result TurnAnswer AllocError) → Examines SharedTakes c (lent w p) r (lent v q)
      → Examines (Truly SharedTakes) c (lent w (facing p a)) r (lent v (facing q a))
  examines c w v (Ok turn.Ready) ((f, sees), e) = ((f, once SharedTakes (saw f) sees), e)
  examines c w v (Ok turn.Quiet) (h, e) = (quiet h, e)
  examines c w v answer h = absurd h

  looks_at : (picked : Pick) (w v : ThreeLists) (s t : TheEnd) (r : Result TurnAnswer AllocError)
      → LooksAt SharedTakes picked kind.Ring (moment w s p) r (moment v t q)
      → LooksAt (Truly SharedTakes) picked kind.Ring (moment w s (facing p a)) r (moment v t (facing q a))
  looks_at (pick.Pending c) w v s t r h = gives c.0 w v s t r h
  looks_at (pick.Polled c) w v s t r (h, e) = (examines c.0 w v r h, e)

  pub turns_so : (d e : ℕ) (b c : TheBoard) (r : Result TurnAnswer AllocError) (h : Turns SharedTakes d e (over b p) r (over c q)) → h.seat.kind ≡ kind.Ring
      → Turns (Truly SharedTakes) d e (over b (facing p a)) r (over c (facing q a))
  turns_so d e b c r h ring = record {
    dispatcher = h.dispatcher;
    dispatcher_is = h.dispatcher_is;
    picked = h.picked;
    picked_is = h.picked_is;
    end_is = h.end_is;
    seat = h.seat;
    seat_is = h.seat_is;
    lists = h.lists;
    end = h.end;
    looks = subst (λ (seat_kind : ChannelKind). LooksAt (Truly SharedTakes) h.picked seat_kind (moment h.dispatcher.lists h.seat.end (facing p a)) r
        (moment h.lists h.end (facing q a))) (sym ring)
        (looks_at h.picked h.dispatcher.lists h.lists h.seat.end h.end r
        (subst (λ (seat_kind : ChannelKind). LooksAt SharedTakes h.picked seat_kind (moment h.dispatcher.lists h.seat.end p) r (moment h.lists h.end q)) ring h.looks));
    board = h.board;
  }
