-- Each event of a core without links: what the machine makes of the cut is what the core shows then.
use Rattle.std.proofs.Common.{◌≡◌, inl, inr, refl, sym, ◌∙◌, ap, subst, ℕ, zero, suc, List, [], ◌∷◌, map, slice_get, slice_set, Option, Some, None}
use Rattle.std.specs.Prelude.{Result, Ok, Err}
use Rattle.std.specs.List.{AllZip}
use Rattle.fl_base.specs.declared.identity.EndId.{EndId}
use Rattle.fl_base.specs.declared.identity.MsgNo.{MsgNo}
use Rattle.fl_base.specs.Ends.{peer}
use Rattle.fl_base.specs.Given.{given}
use Rattle.fl_lists.specs.declared.place.Place.{Place}
use Rattle.fl_lists.specs.declared.place.Place.TheVariants as place
use Rattle.fl_lists.specs.ThreeLists.{ThreeLists}
use Rattle.fl_value_data.specs.Value.{TheCall}
use Rattle.fl_waitset.specs.declared.waitset.Pick.{Pick}
use Rattle.fl_waitset.specs.declared.waitset.Pick.TheVariants as pick
use Rattle.fl_link.specs.Looks.{Look, placed, no_room, spent, saw, saw_ack, missed, told, kept}
use Rattle.fl_link.specs.Queue.{TheQueue, QueuePuts, QueueTakes}
use Rattle.fl_ring.specs.SharedSides.{TheSide, SharedPuts, SharedTakes}
use Rattle.fl_endpoint.specs.declared.fault.EndFault.{EndFault}
use Rattle.fl_endpoint.specs.declared.answer.WriteAnswer.{WriteAnswer}
use Rattle.fl_endpoint.specs.declared.answer.WriteAnswer.TheVariants as write
use Rattle.fl_endpoint.specs.View.{TheEnd}
use Rattle.fl_endpoint.specs.Events.{Calls as EndCalls, SetsRule as EndSets}
use Rattle.fl_core.specs.declared.kind.ChannelKind.{ChannelKind}
use Rattle.fl_core.specs.declared.kind.ChannelKind.TheVariants as kind
use Rattle.fl_core.specs.declared.turn_answer.TurnAnswer.{TurnAnswer}
use Rattle.fl_core.specs.declared.turn_answer.AckAnswer.{AckAnswer}
use Rattle.fl_core.specs.declared.turn_answer.AckAnswer.TheVariants as ack
use Rattle.fl_core.specs.declared.board_fault.BoardFault.{BoardFault}
use Rattle.fl_core.specs.declared.board_fault.BoardFault.TheVariants as board
use Rattle.fl_core.specs.BoardView.{TheEndAtChannel, TheBoard, channel_of, with_end}
use Rattle.fl_core.specs.BoardEvents.{ChangesEnd as BoardChanges, Acks as EndAcks}
use Rattle.fl_core.specs.BoardTurns.{WaitsIn, Turns as BoardTurns, LooksAt, moment, over}
use Rattle.fl_core.specs.declared.wiring.WiredEnd.{WiredEnd}
use Rattle.fl_core.specs.declared.wiring.EndWiring.{EndWiring}
use Rattle.fl_core.specs.declared.wiring.EndWiring.TheVariants.{Queues, Ring as OverRing, Circuit}
use Rattle.fl_core.specs.declared.wiring.Outlet.TheVariants as outlet
use Rattle.fl_core.specs.declared.wiring.Inlet.{Inlet}
use Rattle.fl_core.specs.declared.wiring.Inlet.TheVariants as inlet
use Rattle.fl_core.specs.View.{TheCore, with_board, place_in, place_of, kind_of, side_of_link, outlet_by, outlet_of, inlet_by, inlet_of, joined_by, joined_to}
use Rattle.fl_core.specs.Sound.{IsCore}
use Rattle.fl_core.specs.Ends.{at_side, OnBoard, TriggersIf, WritesAt, woken_by as node_woken}
use Rattle.fl_core_run.specs.Run.{TheRun}
use Rattle.fl_core_run.specs.LogEntries.{LogEntry, called, ruled, wrote, acked, turned, OnCore, OnRing, OnQueue, IsSound, IsSoundAt}
use Rattle.fl_model.specs.Rings.{Label}
use Rattle.fl_model.specs.Waits.{Dispatcher, Due, pending, polled, due, end_due}
use Rattle.fl_world_refines.specs.EndLaws.{TakeShows}
use Rattle.fl_core_refines.specs.CutSides.{SideCut, ShowsSide, Places}
use Rattle.fl_core_refines.specs.CutEnds.{EndCut, ShowsEnd}
use Rattle.fl_core_refines.specs.Cut.{QueueCut, CoreCut, ShowsQueue, UsesQueue, IsUsed, QueuesShow, name_at, ShowsWaits, ShowsSeat, ShowsCut}
use Rattle.fl_core_refines.specs.CutEvents.{QueuePlaces, SideKind, ring_gives, queue_gives, Turns, Acks, triggers_end, woken_by, HasTurn}
use Rattle.fl_core_refines.specs.CutDoes.{CutActs}
use Rattle.fl_core_refines.specs.CutLaws.{HasNoLinks}
use Rattle.fl_core_run_laws.proofs.Laning.{wired_end_out, wired_end_in}
use Rattle.fl_core_refines.proofs.Lists.{there, set_both, set_used}
use Rattle.fl_core_refines.proofs.Sides.{put_agrees, look_agrees, takes_one, takes_ack}
use Rattle.fl_core_refines.proofs.Ends.{PutLaw, call_shows, rule_shows, write_shows, unbound_now}
use Rattle.fl_core_refines.proofs.Queues.{queue_puts, queue_misses, queue_leaves, queue_gives_one, queue_gives_ack, some_wait, none_wait, seen_some}
use Rattle.fl_core_refines.proofs.Turning.{GivingLaw, due_of, due_is, turn_shows}
use Rattle.fl_core_refines.proofs.Cuts.{built, changed, shown_by, board_run, ring_run, queue_run, Seen, seen, end_at, ends_shown, wired_ends_same, Triggered, on_board, triggers_shown}

-- ---- sides and queues, as laws of what they do

side_puts : PutLaw SharedPuts ShowsSide Places
side_puts = record {
  one = λ label v p q f h a. put_agrees label v p q (placed f) h a;
  full = λ label v p q h a. put_agrees label v p q no_room h a;
  over = λ label v p q h a. put_agrees label v p q spent h a;
}

ring_waits : (v : SideCut) (p q : TheSide) (to : Place) → ShowsSide v p → WaitsIn SharedTakes kind.Ring p to q → (to ≡ place.Polled) × ShowsSide v q
ring_waits v p q place.Polled h a = (refl, subst (ShowsSide v) (sym a) h)
ring_waits v p q place.Idle h a = absurd a
ring_waits v p q place.Pending h a = absurd a

side_gives : GivingLaw SharedTakes ShowsSide ring_gives kind.Ring
side_gives = record {
  misses = λ label v p q h a. look_agrees label v p q missed h a;
  leaves = λ label v p q f h a. look_agrees label v p q (saw f) h a;
  gives_one = λ label v p m q f h a b. takes_one label v p m q f h a b;
  gives_ack = λ label v p m q h a b. takes_ack label v p m q h a b;
  waits = ring_waits;
}

pub queue_waits : (v : QueueCut) (p q : TheQueue) (to : Place) → ShowsQueue v p → WaitsIn QueueTakes kind.Queue p to q
    → (to ≡ queue_gives.waits_at v) × ShowsQueue v q
queue_waits v p q place.Pending h (Rattle.std.proofs.Common.inl (f, (first, e))) =
    (some_wait v p h (seen_some p.items (saw f) first (λ a. absurd (cc))), subst (ShowsQueue v) (sym e) h)
queue_waits v p q place.Pending h (Rattle.std.proofs.Common.inr (first, e)) =
    (some_wait v p h (seen_some p.items saw_ack first (λ a. absurd (cc))), subst (ShowsQueue v) (sym e) h)
queue_waits v p q place.Idle h (none, e) = (none_wait v p h none, subst (ShowsQueue v) (sym e) h)
queue_waits v p q place.Polled h a = absurd a

pub all_gives : GivingLaw QueueTakes ShowsQueue queue_gives kind.Queue
all_gives = record { misses = queue_misses; leaves = queue_leaves; gives_one = queue_gives_one; gives_ack = queue_gives_ack; waits = queue_waits }

-- ---- what an event comes to

pub record After (log_entry : LogEntry) (a : CoreCut) (s t : TheRun TheSide) : Type 0 where
  pub after : CoreCut
  pub does : CutActs log_entry a after
  pub shows : ShowsCut after t
  -- nothing of links has changed
  pub links : HasNoLinks s.core → HasNoLinks t.core

still_none : (s t : TheRun TheSide) (b : TheBoard) → t.core ≡ with_board s.core b → HasNoLinks s.core → HasNoLinks t.core
still_none s t b e h = record {
  link_sides = ap (λ (k : TheCore). k.link_sides) e ∙ h.link_sides;
  outboxes = ap (λ (k : TheCore). k.monitor.outboxes) e ∙ h.outboxes;
}

-- ---- a call, and a reply rule

-- of the board one end has changed
pub record Boarded (s t : TheRun TheSide) (e : ℕ) (seat : TheEndAtChannel) (y : TheEnd) : Type 0 where
  pub run : t ≡ built s (with_end s.core.board e seat y) s.rings s.queues t.progresses

one_boarded : (s m t : TheRun TheSide) (e : ℕ) (Event : TheEnd → TheEnd → Type 0) (on : OnCore s (λ k k2. OnBoard k (λ b b2. BoardChanges b e Event b2) k2) m)
    → t ≡ record m { progresses = t.progresses } → Boarded s t e on.event.event.seat on.event.event.end
one_boarded s m t e Event on progresses = record {
  run = board_run s m t on.rest on.event.rest progresses
      ∙ ap (λ (b : TheBoard). built s b s.rings s.queues t.progresses) on.event.event.board;
}

end_changed : (a : CoreCut) (s t : TheRun TheSide) (name : EndId) (e : ℕ) (seat : TheEndAtChannel) (z : TheEnd) (y : EndCut) → ShowsCut a s → Boarded s t e seat z
    → (x : Seen a s.core.monitor.circuits.core name e seat) → ShowsEnd y z → y.wired_end ≡ x.end.wired_end → y.end.seat ≡ x.end.end.seat
    → ShowsCut (record a { ends = slice_set a.ends e y }) t
end_changed a s t name e seat z y h b x shows same sits =
    subst (ShowsCut (record a { ends = slice_set a.ends e y })) (sym b.run)
    (shown_by a s h a.core.dispatchers (slice_set a.ends e y) a.sides a.queues (with_end s.core.board e seat z) s.rings s.queues t.progresses h.waits
    (ends_shown a s.core.monitor.circuits.core name e seat s.core.board.seats x y z h.ends (record { shows = shows; seat = sits ∙ x.shows.seat }))
    (wired_ends_same a s.core.monitor.circuits.core name e seat x y same) h.sides h.queues)

pub calls_follow : (a : CoreCut) (s m t : TheRun TheSide) (name : EndId) (c : TheCall) (answer : Result (Unit {0}) EndFault) (e : ℕ) → ShowsCut a s → IsSound s.core
    → place_of s.core name ≡ Some e → OnCore s (λ k k2. OnBoard k (λ b b2. BoardChanges b e (λ x y. EndCalls x c answer y) b2) k2) m
    → t ≡ record m { progresses = t.progresses } → After (called name c answer) a s t
calls_follow a s m t name c answer e h sound at on progresses =
    let change = on.event.event in
    let x = seen a s name e change.seat h sound.core at change.seat_is in
    let one = call_shows x.end c answer change.seat.end change.end x.shows.shows change.event in
    let boarded = one_boarded s m t e (λ y z. EndCalls y c answer z) on progresses in
    record {
      after = record a { ends = slice_set a.ends e one.after };
      does = record { at = end_at a s.core.monitor.circuits.core name e change.seat x; after = one.after; event = one.calls; rest = refl };
      shows = end_changed a s t name e change.seat change.end one.after h boarded x one.shows one.wired_end one.seat;
      links = still_none s t (with_end s.core.board e change.seat change.end) (ap (λ (r : TheRun TheSide). r.core) boarded.run);
    }

pub rules_follow : (a : CoreCut) (s m t : TheRun TheSide) (name : EndId) (msg reply : MsgNo) (answer : Result (Unit {0}) EndFault) (e : ℕ) → ShowsCut a s
    → IsSound s.core → place_of s.core name ≡ Some e
    → OnCore s (λ k k2. OnBoard k (λ b b2. BoardChanges b e (λ x y. EndSets x msg.0 reply.0 answer y) b2) k2) m
    → t ≡ record m { progresses = t.progresses } → After (ruled name msg reply answer) a s t
rules_follow a s m t name msg reply answer e h sound at on progresses =
    let change = on.event.event in
    let x = seen a s name e change.seat h sound.core at change.seat_is in
    let one = rule_shows x.end msg.0 reply.0 answer change.seat.end change.end x.shows.shows change.event in
    let boarded = one_boarded s m t e (λ y z. EndSets y msg.0 reply.0 answer z) on progresses in
    record {
      after = record a { ends = slice_set a.ends e one.after };
      does = record { at = end_at a s.core.monitor.circuits.core name e change.seat x; after = one.after; event = one.sets; rest = refl };
      shows = end_changed a s t name e change.seat change.end one.after h boarded x one.shows one.wired_end one.seat;
      links = still_none s t (with_end s.core.board e change.seat change.end) (ap (λ (r : TheRun TheSide). r.core) boarded.run);
    }

-- ---- wirings

-- an end that puts to a side has nobody to wake
not_joined : (k : TheCore) (e n : ℕ) → outlet_of k e ≡ Some (outlet.Side n) → joined_to k e ≡ None
not_joined k e n h = by_wired_end (slice_get k.wired_ends e) h where
  by_wiring : (p : WiredEnd) (wiring : EndWiring) → outlet_by k.link_sides wiring ≡ Some (outlet.Side n) → joined_by k p.name wiring ≡ None
  by_wiring p (Queues out from) q = absurd (cc)
  by_wiring p (OverRing side) q = refl
  by_wiring p (Circuit link arrivals) q = refl

  by_wired_end : (o : Option WiredEnd) → (given o None λ p. outlet_by k.link_sides p.wiring) ≡ Some (outlet.Side n) → (given o None λ p. joined_by k p.name p.wiring) ≡ None
  by_wired_end None q = refl
  by_wired_end (Some p) q = by_wiring p p.wiring q

woken_none : (k : TheCore) (e : ℕ) (answer : Result WriteAnswer EndFault) → joined_to k e ≡ None → node_woken k e answer ≡ None
woken_none k e (Ok (write.Written number count)) h = h
woken_none k e (Ok write.Full) h = refl
woken_none k e (Ok write.Nothing) h = refl
woken_none k e (Err fault) h = refl

-- one that puts to a queue wakes the other end of its binding
joined_so : (k : TheCore) (e n : ℕ) (p : WiredEnd) → slice_get k.wired_ends e ≡ Some p → outlet_of k e ≡ Some (outlet.Queue n) → joined_to k e ≡ place_of k (peer p.name)
joined_so k e n p at h =
    ap (λ (o : Option WiredEnd). given o None λ q. joined_by k q.name q.wiring) at
    ∙ by_wiring p.wiring (sym (ap (λ (o : Option WiredEnd). given o None λ q. outlet_by k.link_sides q.wiring) at) ∙ h)
  where
    by_link_side : (o : Option ℕ) → (given o None λ side. Some (outlet.Side side)) ≡ Some (outlet.Queue n) → ⊥
    by_link_side None q = absurd (cc)
    by_link_side (Some side) q = absurd (cc)

    by_wiring : (wiring : EndWiring) → outlet_by k.link_sides wiring ≡ Some (outlet.Queue n) → joined_by k p.name wiring ≡ place_of k (peer p.name)
    by_wiring (Queues out from) q = refl
    by_wiring (OverRing side) q = absurd (cc)
    by_wiring (Circuit link arrivals) q = absurd (by_link_side (side_of_link k.link_sides link.0) q)

woken_same : (a : CoreCut) (k : TheCore) (e : ℕ) (name : EndId) (answer : Result WriteAnswer EndFault) → joined_to k e ≡ place_in a.places (peer name)
    → node_woken k e answer ≡ woken_by name answer a
woken_same a k e name (Ok (write.Written number count)) h = h
woken_same a k e name (Ok write.Full) h = refl
woken_same a k e name (Ok write.Nothing) h = refl
woken_same a k e name (Err fault) h = refl

-- of large records cc does not end, of any type it does
same_some : {X : Type 0} (x y : X) → Some x ≡ Some y → x ≡ y
same_some x y e = cc

-- how fragments come to an end, by its wiring
pub kind_at : (seats : List TheEndAtChannel) (wired_ends : List WiredEnd) (e : ℕ) (seat : TheEndAtChannel) (p : WiredEnd)
    → map (λ (x : TheEndAtChannel). x.kind) seats ≡ map (λ (q : WiredEnd). kind_of q.wiring) wired_ends → slice_get seats e ≡ Some seat → slice_get wired_ends e ≡ Some p
    → seat.kind ≡ kind_of p.wiring
kind_at [] wired_ends e seat p h x y = absurd (cc)
kind_at (s ∷ seats) [] e seat p h x y = absurd (cc)
kind_at (s ∷ seats) (q ∷ wired_ends) zero seat p h x y =
    let first : s.kind ≡ kind_of q.wiring = cc in
    let left : s ≡ seat = same_some s seat x in
    let right : q ≡ p = same_some q p y in
    ap (λ (z : TheEndAtChannel). z.kind) (sym left) ∙ first ∙ ap (λ (z : WiredEnd). kind_of z.wiring) right
kind_at (s ∷ seats) (q ∷ wired_ends) (suc e) seat p h x y =
    let rest : map (λ (z : TheEndAtChannel). z.kind) seats ≡ map (λ (z : WiredEnd). kind_of z.wiring) wired_ends = cc in kind_at seats wired_ends e seat p rest x y

pub kind_from : (k : TheCore) (e : ℕ) (seat : TheEndAtChannel) (from : Inlet) (expected : ChannelKind) → IsCore k → slice_get k.board.seats e ≡ Some seat → inlet_of k e ≡ Some from
    → ((wiring : EndWiring) → inlet_by wiring ≡ from → kind_of wiring ≡ expected) → seat.kind ≡ expected
kind_from k e seat from expected core at h by = by_wired_end (slice_get k.wired_ends e) refl h where
  same : (x y : Inlet) → Some x ≡ Some y → x ≡ y
  same x y q = cc

  by_wired_end : (o : Option WiredEnd) → slice_get k.wired_ends e ≡ o → (given o None λ p. Some (inlet_by p.wiring)) ≡ Some from → seat.kind ≡ expected
  by_wired_end None q r = absurd (cc)
  by_wired_end (Some p) q r = kind_at k.board.seats k.wired_ends e seat p core.kinds at q ∙ by p.wiring (same (inlet_by p.wiring) from r)

ring_kind : (n : ℕ) (wiring : EndWiring) → inlet_by wiring ≡ inlet.Side n → kind_of wiring ≡ kind.Ring
ring_kind n (Queues out from) h = absurd (cc)
ring_kind n (OverRing side) h = refl
ring_kind n (Circuit link arrivals) h = absurd (cc)

queue_kind : (n : ℕ) (wiring : EndWiring) → inlet_by wiring ≡ inlet.Queue n → kind_of wiring ≡ kind.Queue
queue_kind n (Queues out from) h = refl
queue_kind n (OverRing side) h = absurd (cc)
queue_kind n (Circuit link arrivals) h = absurd (cc)

-- ---- the queues that an end uses

-- it puts there
uses_out : (k : TheCore) (e n : ℕ) → outlet_of k e ≡ Some (outlet.Queue n) → IsUsed UsesQueue k.wired_ends n
uses_out k e n h =
    let p = wired_end_out k e (outlet.Queue n) (slice_get k.wired_ends e) refl h in
    record { place = e; wired_end = p.0; wired_end_is = p.1; uses = by p.0.wiring p.2 }
  where
    over_link : {P : Type 0} (o : Option ℕ) → (given o None λ side. Some (outlet.Side side)) ≡ Some (outlet.Queue n) → P
    over_link None q = absurd (cc)
    over_link (Some side) q = absurd (cc)

    by : (wiring : EndWiring) → outlet_by k.link_sides wiring ≡ Some (outlet.Queue n) → UsesQueue n wiring
    by (Queues out from) q = let same : out ≡ n = cc in inl same
    by (OverRing side) q = absurd (cc)
    by (Circuit link arrivals) q = over_link (side_of_link k.link_sides link.0) q

-- it takes from there
uses_in : (k : TheCore) (e n : ℕ) → inlet_of k e ≡ Some (inlet.Queue n) → IsUsed UsesQueue k.wired_ends n
uses_in k e n h =
    let p = wired_end_in k e (inlet.Queue n) (slice_get k.wired_ends e) refl h in
    record { place = e; wired_end = p.0; wired_end_is = p.1; uses = by p.0.wiring p.2 }
  where
    by : (wiring : EndWiring) → inlet_by wiring ≡ inlet.Queue n → UsesQueue n wiring
    by (Queues out from) q = let same : from ≡ n = cc in inr same
    by (OverRing side) q = absurd (cc)
    by (Circuit link arrivals) q = absurd (cc)

-- ---- a write

pub side_writes_follow : (a : CoreCut) (s m t : TheRun TheSide) (name : EndId) (n : ℕ) (answer : Result WriteAnswer EndFault) (e : ℕ) → ShowsCut a s → IsSound s.core
    → place_of s.core name ≡ Some e → outlet_of s.core e ≡ Some (outlet.Side n) → OnRing n s (λ k p k2 q. WritesAt SharedPuts e (at_side k p) answer (at_side k2 q)) m
    → t ≡ record m { progresses = t.progresses } → After (wrote name (outlet.Side n) answer) a s t
side_writes_follow a s m t name n answer e h sound at out on progresses =
    let wrote_at = on.event in
    let change = wrote_at.writes in
    let core : ℕ = s.core.monitor.circuits.core in
    let x = seen a s name e change.seat h sound.core at change.seat_is in
    let v = there ShowsSide a.sides s.rings n on.before h.sides on.before_is in
    let one = write_shows SharedPuts ShowsSide Places side_puts x.end v.0 answer change.seat.end change.end on.before on.after x.shows.shows v.2 change.event in
    let nobody : node_woken s.core e answer ≡ None = woken_none s.core e answer (not_joined s.core e n out) in
    let quiet : m.core.board ≡ wrote_at.wrote = subst (λ (o : Option ℕ). TriggersIf o wrote_at.wrote m.core.board) nobody wrote_at.triggers in
    let board : m.core.board ≡ with_end s.core.board e change.seat change.end = quiet ∙ change.board in
    let run : t ≡ built s (with_end s.core.board e change.seat change.end) (slice_set s.rings n on.after) s.queues t.progresses
    = ring_run s m t (slice_set s.rings n on.after) on.rest wrote_at.rest progresses
    ∙ ap (λ (b : TheBoard). built s b (slice_set s.rings n on.after) s.queues t.progresses) board in
    record {
      after = record a { ends = slice_set a.ends e one.after; sides = slice_set a.sides n one.side };
      does = (
        record {
          at = end_at a core name e change.seat x;
          side = v.0;
          side_is = v.1;
          after = one.after;
          side_after = one.side;
          event = one.does;
          ends_are = refl;
          sides_are = refl;
        },
        refl,
      );
      shows = subst (ShowsCut (record a { ends = slice_set a.ends e one.after; sides = slice_set a.sides n one.side })) (sym run)
          (shown_by a s h a.core.dispatchers (slice_set a.ends e one.after) (slice_set a.sides n one.side) a.queues
          (with_end s.core.board e change.seat change.end) (slice_set s.rings n on.after) s.queues t.progresses h.waits
          (ends_shown a core name e change.seat s.core.board.seats x one.after change.end h.ends
          (record { shows = one.shows; seat = one.seat ∙ x.shows.seat }))
          (wired_ends_same a core name e change.seat x one.after one.wired_end)
          (set_both ShowsSide a.sides s.rings n one.side on.after h.sides one.side_shows) h.queues);
      links = still_none s t (with_end s.core.board e change.seat change.end) (ap (λ (r : TheRun TheSide). r.core) run);
    }

pub queue_writes_follow : (a : CoreCut) (s m t : TheRun TheSide) (name : EndId) (n : ℕ) (answer : Result WriteAnswer EndFault) (e : ℕ) → ShowsCut a s
    → IsSound s.core → place_of s.core name ≡ Some e → outlet_of s.core e ≡ Some (outlet.Queue n)
    → OnQueue n s (λ k p k2 q. WritesAt QueuePuts e (at_side k p) answer (at_side k2 q)) m
    → t ≡ record m { progresses = t.progresses } → After (wrote name (outlet.Queue n) answer) a s t
queue_writes_follow a s m t name n answer e h sound at out on progresses =
    let wrote_at = on.event in
    let change = wrote_at.writes in
    let core : ℕ = s.core.monitor.circuits.core in
    let x = seen a s name e change.seat h sound.core at change.seat_is in
    let v = h.queues.each n on.before (uses_out s.core e n out) on.before_is in
    let one = write_shows QueuePuts ShowsQueue QueuePlaces queue_puts x.end v.0 answer change.seat.end change.end on.before on.after x.shows.shows v.2 change.event in
    let placed_at = sound.core.placed name e at in
    let joined : joined_to s.core e ≡ place_in a.places (peer name)
    = joined_so s.core e n placed_at.wired_end placed_at.wired_end_is out
    ∙ ap (λ (i : EndId). place_of s.core (peer i)) placed_at.name_is
    ∙ ap (λ (places : List (Option ℕ)). place_in places (peer name)) (sym h.places) in
    let ends : List EndCut = slice_set a.ends e one.after in
    let woken : TriggersIf (woken_by name answer a) wrote_at.wrote m.core.board
    = subst (λ (o : Option ℕ). TriggersIf o wrote_at.wrote m.core.board) (woken_same a s.core e name answer joined) wrote_at.triggers in
    let before : Triggered core s.core.wired_ends a.core.dispatchers (slice_set a.ends e one.after) wrote_at.wrote
    = on_board core s.core.wired_ends a.core.dispatchers (slice_set a.ends e one.after) (with_end s.core.board e change.seat change.end) wrote_at.wrote change.board (record {
      waits_show = h.waits;
      ends_show = ends_shown a core name e change.seat s.core.board.seats x one.after change.end h.ends
          (record { shows = one.shows; seat = one.seat ∙ x.shows.seat });
    }) in
    let triggered = triggers_shown core s.core.wired_ends (woken_by name answer a) a.core.dispatchers (slice_set a.ends e one.after) wrote_at.wrote m.core.board woken
    before.waits_show before.ends_show in
    let run : t ≡ built s m.core.board s.rings (slice_set s.queues n on.after) t.progresses
    = queue_run s m t (slice_set s.queues n on.after) on.rest wrote_at.rest progresses in
    let next : CoreCut = changed a (triggers_end (woken_by name answer a) (slice_set a.ends e one.after) a.core.dispatchers) (slice_set a.ends e one.after) a.sides
    (slice_set a.queues n one.side) in
    record {
      after = next;
      does = (
        record {
          at = end_at a core name e change.seat x;
          side = v.0;
          side_is = v.1;
          after = one.after;
          side_after = one.side;
          event = one.does;
          ends_are = refl;
          sides_are = refl;
        },
        refl,
      );
      shows = subst (ShowsCut next) (sym run)
          (shown_by a s h (triggers_end (woken_by name answer a) (slice_set a.ends e one.after) a.core.dispatchers) (slice_set a.ends e one.after) a.sides
          (slice_set a.queues n one.side) m.core.board s.rings (slice_set s.queues n on.after) t.progresses triggered.waits_show triggered.ends_show
          (wired_ends_same a core name e change.seat x one.after one.wired_end) h.sides
          (set_used UsesQueue s.core.wired_ends a.queues s.queues n one.side on.after h.queues one.side_shows));
      links = still_none s t m.core.board (ap (λ (r : TheRun TheSide). r.core) run);
    }

-- ---- a turn

-- the name of the end at a channel
names_at : (f : ℕ → Option EndId) (xs : List ℕ) (ys : List EndId) (n x : ℕ) (name : EndId) → map f xs ≡ map (λ e. Some e) ys → slice_get xs n ≡ Some x
    → f x ≡ Some name → slice_get ys n ≡ Some name
names_at f [] ys n x name h q r = absurd (cc)
names_at f (y ∷ xs) [] n x name h q r = absurd (cc)
names_at f (y ∷ xs) (z ∷ ys) zero x name h q r =
    let first : f y ≡ Some z = cc in
    let here : y ≡ x = cc in
    sym first ∙ ap f here ∙ r
names_at f (y ∷ xs) (z ∷ ys) (suc n) x name h q r = let rest : map f xs ≡ map (λ e. Some e) ys = cc in names_at f xs ys n x name rest q r

due_end : (w : Dispatcher) (picked : Pick) (name : EndId) → slice_get w.ends (channel_of picked) ≡ Some name → end_due w (due_of picked) ≡ Some name
due_end w (pick.Pending c) name h = h
due_end w (pick.Polled c) name h = h

name_there : (k : TheCore) (name : EndId) (e : ℕ) → IsCore k → place_of k name ≡ Some e → name_at k.wired_ends e ≡ Some name
name_there k name e core at =
    let placed_at = core.placed name e at in
    ap (λ (o : Option WiredEnd). given o None λ p. Some p.name) placed_at.wired_end_is ∙ ap Some placed_at.name_is

-- what a turn makes of the parts
pub record TurnShown {T P : Type 0} (Shows : P → T → Type 0) (g : SideKind P) (d : ℕ) (name : EndId) (answer : TurnAnswer) (a : CoreCut) (xs : List P) (n : ℕ)
    (core : ℕ) (wired_ends : List WiredEnd) (b : TheBoard) (q : T) : Type 0 where
  pub waits : List Dispatcher
  pub ends : List EndCut
  pub sides : List P
  pub turn : HasTurn g (record { dispatcher = d; end = name; from = n; answer = answer }) a xs waits (record { ends = ends; sides = sides })
  pub waits_show : AllZip (ShowsWaits wired_ends) waits b.dispatchers
  pub ends_show : AllZip (ShowsSeat core) ends b.seats
  pub wired_ends_are : map (λ (x : EndCut). x.wired_end) ends ≡ map (λ (x : EndCut). x.wired_end) a.ends
  pub side : P
  pub sides_are : sides ≡ slice_set xs n side
  pub side_shows : Shows side q

turn_on : {T P : Type 0} (Shows : P → T → Type 0) (g : SideKind P) (d : ℕ) (name : EndId) (answer : TurnAnswer) (a : CoreCut) (xs : List P) (n : ℕ)
    (core : ℕ) (wired_ends : List WiredEnd) (b c : TheBoard) (q : T) → c ≡ b → TurnShown Shows g d name answer a xs n core wired_ends b q
    → TurnShown Shows g d name answer a xs n core wired_ends c q
turn_on Shows g d name answer a xs n core wired_ends b c q e h = subst (λ (x : TheBoard). TurnShown Shows g d name answer a xs n core wired_ends x q) (sym e) h

module _ {T P : Type 0} (takes : T → Look → T → Type 0) (Shows : P → T → Type 0) (g : SideKind P) (expected : ChannelKind) where
  pub turn_follows : GivingLaw takes Shows g expected → TakeShows → (a : CoreCut) (s : TheRun TheSide) (d : ℕ) (name : EndId) (n e : ℕ) (answer : TurnAnswer)
      (b2 : TheBoard) (xs : List P) (p q : T) → ShowsCut a s → IsCore s.core → IsSoundAt s name → place_of s.core name ≡ Some e
      → (v : (y : P) × (slice_get xs n ≡ Some y) × Shows y p) → ((seat : TheEndAtChannel) → slice_get s.core.board.seats e ≡ Some seat → seat.kind ≡ expected)
      → BoardTurns takes d e (over s.core.board p) (Ok answer) (over b2 q)
      → TurnShown Shows g d name answer a xs n s.core.monitor.circuits.core s.core.wired_ends b2 q
  turn_follows law takes_law a s d name n e answer b2 xs p q h core soundly at v kind_is t =
      let number : ℕ = s.core.monitor.circuits.core in
      let x = seen a s name e t.seat h core at t.seat_is in
      let w = there (ShowsWaits s.core.wired_ends) a.core.dispatchers s.core.board.dispatchers d t.dispatcher h.waits t.dispatcher_is in
      let looks : LooksAt takes t.picked expected (moment t.dispatcher.lists t.seat.end p) (Ok answer) (moment t.lists t.end q)
      = subst (λ (k : ChannelKind). LooksAt takes t.picked k (moment t.dispatcher.lists t.seat.end p) (Ok answer) (moment t.lists t.end q)) (kind_is t.seat t.seat_is) t.looks in
      let one = turn_shows takes Shows g expected law takes_law w.0 x.end v.0 t.picked t.dispatcher.lists t.lists t.seat.end t.end p q answer
      x.shows.shows (soundly e t.seat at t.seat_is) v.2 w.2.lists looks in
      let whose : due w.0 ≡ due_of t.picked
      = ap (λ (l : ThreeLists). Rattle.fl_model.specs.Waits.first_due l.pending l.polled) (sym w.2.lists) ∙ due_is t.dispatcher.lists t.picked t.picked_is in
      let ended : slice_get w.0.ends (channel_of t.picked) ≡ Some name
      = names_at (name_at s.core.wired_ends) t.dispatcher.ends w.0.ends (channel_of t.picked) e name w.2.ends t.end_is (name_there s.core name e core at) in
      turn_on Shows g d name answer a xs n number s.core.wired_ends _ b2 q t.board (record {
        waits = slice_set a.core.dispatchers d one.after.waits;
        ends = slice_set a.ends e one.after.end;
        sides = slice_set xs n one.after.side;
        turn = record {
          waits = w.0;
          waits_is = w.1;
          due_is = ap (end_due w.0) whose ∙ due_end w.0 t.picked name ended;
          at = end_at a number name e t.seat x;
          side = v.0;
          side_is = v.1;
          after = one.after;
          turns = subst (λ (y : Due). Turns g y answer (record { waits = w.0; end = x.end; side = v.0 }) one.after) (sym whose) one.turns;
          waits_are = refl;
          ends_are = refl;
          sides_are = refl;
        };
        waits_show = set_both (ShowsWaits s.core.wired_ends) a.core.dispatchers s.core.board.dispatchers d one.after.waits
            (record { lists = t.lists; ends = t.dispatcher.ends }) h.waits
            (record { lists = one.lists_are; ends = w.2.ends ∙ ap (map (λ y. Some y)) (sym one.ends_are) });
        ends_show = ends_shown a number name e t.seat s.core.board.seats x one.after.end t.end h.ends
            (record { shows = one.shows; seat = one.seat ∙ x.shows.seat });
        wired_ends_are = wired_ends_same a number name e t.seat x one.after.end one.wired_end;
        side = one.after.side;
        sides_are = refl;
        side_shows = one.side_shows;
      })

pub side_turns_follow : TakeShows → (a : CoreCut) (s m t : TheRun TheSide) (d : ℕ) (name : EndId) (n : ℕ) (answer : TurnAnswer) (e : ℕ) → ShowsCut a s → IsSound s.core
    → IsSoundAt s name → place_of s.core name ≡ Some e → inlet_of s.core e ≡ Some (inlet.Side n)
    → OnRing n s (λ k p k2 q. OnBoard k (λ b c. BoardTurns SharedTakes d e (over b p) (Ok answer) (over c q)) k2) m
    → t ≡ record m { progresses = t.progresses } → After (turned d name (inlet.Side n) answer) a s t
side_turns_follow law a s m t d name n answer e h sound soundly at from on progresses =
    let one = turn_follows SharedTakes ShowsSide ring_gives kind.Ring side_gives law a s d name n e answer m.core.board a.sides on.before on.after h sound.core
    soundly at (there ShowsSide a.sides s.rings n on.before h.sides on.before_is) (λ seat is. kind_from s.core e seat (inlet.Side n) kind.Ring sound.core is from (ring_kind n)) on.event.event in
    let run = ring_run s m t (slice_set s.rings n on.after) on.rest on.event.rest progresses in
    let next : CoreCut = changed a one.waits one.ends one.sides a.queues in
    record {
      after = next;
      does = (one.turn, refl);
      shows = subst (ShowsCut next) (sym run)
          (shown_by a s h one.waits one.ends one.sides a.queues m.core.board (slice_set s.rings n on.after) s.queues t.progresses
          one.waits_show one.ends_show one.wired_ends_are
          (subst (λ (ys : List SideCut). AllZip ShowsSide ys (slice_set s.rings n on.after)) (sym one.sides_are)
          (set_both ShowsSide a.sides s.rings n one.side on.after h.sides one.side_shows)) h.queues);
      links = still_none s t m.core.board (ap (λ (r : TheRun TheSide). r.core) run);
    }

pub queue_turns_follow : TakeShows → (a : CoreCut) (s m t : TheRun TheSide) (d : ℕ) (name : EndId) (n : ℕ) (answer : TurnAnswer) (e : ℕ) → ShowsCut a s → IsSound s.core
    → IsSoundAt s name → place_of s.core name ≡ Some e → inlet_of s.core e ≡ Some (inlet.Queue n)
    → OnQueue n s (λ k p k2 q. OnBoard k (λ b c. BoardTurns QueueTakes d e (over b p) (Ok answer) (over c q)) k2) m
    → t ≡ record m { progresses = t.progresses } → After (turned d name (inlet.Queue n) answer) a s t
queue_turns_follow law a s m t d name n answer e h sound soundly at from on progresses =
    let one = turn_follows QueueTakes ShowsQueue queue_gives kind.Queue all_gives law a s d name n e answer m.core.board a.queues on.before on.after h sound.core
    soundly at (h.queues.each n on.before (uses_in s.core e n from) on.before_is) (λ seat is. kind_from s.core e seat (inlet.Queue n) kind.Queue sound.core is from (queue_kind n)) on.event.event in
    let run = queue_run s m t (slice_set s.queues n on.after) on.rest on.event.rest progresses in
    let next : CoreCut = changed a one.waits one.ends a.sides one.sides in
    record {
      after = next;
      does = (one.turn, refl);
      shows = subst (ShowsCut next) (sym run)
          (shown_by a s h one.waits one.ends a.sides one.sides m.core.board s.rings (slice_set s.queues n on.after) t.progresses
          one.waits_show one.ends_show one.wired_ends_are h.sides
          (subst (λ (ys : List QueueCut). QueuesShow UsesQueue s.core.wired_ends ys (slice_set s.queues n on.after)) (sym one.sides_are)
          (set_used UsesQueue s.core.wired_ends a.queues s.queues n one.side on.after h.queues one.side_shows)));
      links = still_none s t m.core.board (ap (λ (r : TheRun TheSide). r.core) run);
    }

-- ---- an acknowledgement

record Acked (answer : Result AckAnswer BoardFault) (x : EndCut) (v : SideCut) (q : TheSide) : Type 0 where
  pub side : SideCut
  pub acks : Acks answer x v side
  pub shows : ShowsSide side q

label_none : Label
label_none = Rattle.fl_model.specs.Rings.acknowledges

bound_now : (x : EndCut) (s : TheEnd) → ShowsEnd x s → Rattle.std.specs.Prelude.IsSome s.circuit → Rattle.fl_model.specs.Ends.is_bound x.end ≡ Rattle.std.proofs.Common.true
bound_now x s h b = subst (λ (o : Option ℕ). Rattle.std.specs.Prelude.is_some o ≡ Rattle.std.proofs.Common.true) h.circuit b

ack_shows : (answer : Result AckAnswer BoardFault) (x : EndCut) (v : SideCut) (s : TheEnd) (p q : TheSide) → ShowsEnd x s → ShowsSide v p
    → EndAcks SharedTakes kind.Ring s p answer q → Acked answer x v q
ack_shows (Ok ack.Done) x v s p q h k (b, a) =
    let one = look_agrees label_none v p q told k a in record { side = one.0; acks = (bound_now x s h b, one.1); shows = one.2 }
ack_shows (Ok ack.Nothing) x v s p q h k (b, a) =
    let one = look_agrees label_none v p q kept k a in record { side = one.0; acks = (bound_now x s h b, one.1); shows = one.2 }
ack_shows (Ok ack.Full) x v s p q h k (b, a) =
    let one = look_agrees label_none v p q no_room k a in record { side = one.0; acks = (bound_now x s h b, one.1); shows = one.2 }
ack_shows (Err board.NotBound) x v s p q h k (b, e) =
    record { side = v; acks = (unbound_now x s h b, refl); shows = subst (ShowsSide v) (sym e) k }
ack_shows (Err fault) x v s p q h k a = absurd a

pub acks_follow : (a : CoreCut) (s m t : TheRun TheSide) (name : EndId) (n : ℕ) (answer : Result AckAnswer BoardFault) (e : ℕ) → ShowsCut a s → IsSound s.core
    → place_of s.core name ≡ Some e → inlet_of s.core e ≡ Some (inlet.Side n)
    → OnRing n s (λ k p k2 q. Rattle.fl_core.specs.BoardEvents.Holds k.board e (λ x. EndAcks SharedTakes x.kind x.end p answer q) × (k2 ≡ k)) m
    → t ≡ record m { progresses = t.progresses } → After (acked name n answer) a s t
acks_follow a s m t name n answer e h sound at from on progresses =
    let (holds, core_same) = on.event in
    let (seat, seat_is, acks) = holds in
    let core : ℕ = s.core.monitor.circuits.core in
    let x = seen a s name e seat h sound.core at seat_is in
    let v = there ShowsSide a.sides s.rings n on.before h.sides on.before_is in
    let ring : seat.kind ≡ kind.Ring = kind_from s.core e seat (inlet.Side n) kind.Ring sound.core seat_is from (ring_kind n) in
    let one = ack_shows answer x.end v.0 seat.end on.before on.after x.shows.shows v.2
    (subst (λ (k : ChannelKind). EndAcks SharedTakes k seat.end on.before answer on.after) ring acks) in
    let run : t ≡ built s s.core.board (slice_set s.rings n on.after) s.queues t.progresses
    = ring_run s m t (slice_set s.rings n on.after) on.rest (core_same ∙ ap (λ (k : TheCore). with_board s.core k.board) (sym core_same)) progresses
    ∙ ap (λ (k : TheCore). built s k.board (slice_set s.rings n on.after) s.queues t.progresses) core_same in
    record {
      after = record a { sides = slice_set a.sides n one.side };
      does = record { at = end_at a core name e seat x; side = v.0; side_is = v.1; after = one.side; event = one.acks; rest = refl };
      shows = subst (ShowsCut (record a { sides = slice_set a.sides n one.side })) (sym run)
          (shown_by a s h a.core.dispatchers a.ends (slice_set a.sides n one.side) a.queues s.core.board (slice_set s.rings n on.after) s.queues t.progresses
          h.waits h.ends refl (set_both ShowsSide a.sides s.rings n one.side on.after h.sides one.shows) h.queues);
      links = still_none s t s.core.board (ap (λ (r : TheRun TheSide). r.core) run);
    }
