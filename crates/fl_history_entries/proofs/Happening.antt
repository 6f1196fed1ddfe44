-- Each event of a core's log is one of its steps.
use Rattle.std.proofs.Common.{ℕ, zero, suc, ◌≡◌, ◌≢◌, ◌⊎◌, inl, inr, ⊎_elim, Bool, true, List, [], ◌∷◌, ◌++◌, map, slice_get, slice_set, set-set, Option, Some, None, Result, Ok, Err, ap, subst, ◌∙◌, sym, refl}
use Rattle.std.specs.List.{AllByRecursion}
use mathlib.Core.Logic.{dite}
use native.Mathlib.Decide.{ℕ_discrete}
use Rattle.fl_base.specs.declared.fragment.Frag.{Frag}
use Rattle.fl_base.specs.Given.{given}
use Rattle.fl_link.specs.Looks.{no_room, spent}
use Rattle.fl_hop.specs.declared.forward.ForwardOutcome.TheVariants as outcome
use Rattle.fl_core.specs.declared.kind.ChannelKind.{ChannelKind}
use Rattle.fl_core.specs.declared.kind.ChannelKind.TheVariants.{Ring}
use Rattle.fl_core.specs.declared.turn_answer.TurnAnswer.{TurnAnswer}
use Rattle.fl_core.specs.declared.turn_answer.TurnAnswer.TheVariants as turn
use Rattle.fl_core.specs.declared.answer.MonitorAnswer.{MonitorAnswer}
use Rattle.fl_core.specs.declared.answer.MonitorAnswer.TheVariants as answered
use Rattle.fl_core.specs.declared.fault.LinkReceiveFault.{LinkReceiveFault}
use Rattle.fl_core.specs.declared.fault.OpenFault.{OpenFault}
use Rattle.fl_core.specs.declared.fault.OpenFault.TheVariants as opening
use Rattle.fl_monitor.specs.declared.fault.MonitorFault.TheVariants as monitor
use Rattle.fl_base.specs.declared.identity.EndId.{EndId}
use Rattle.fl_endpoint.specs.declared.fault.EndFault.{EndFault}
use Rattle.fl_core.specs.declared.wiring.EndWiring.{EndWiring}
use Rattle.fl_core.specs.declared.wiring.EndWiring.TheVariants as wiring
use Rattle.fl_core.specs.declared.wiring.WiredEnd.{WiredEnd}
use Rattle.fl_core.specs.declared.wiring.Inlet.{Inlet}
use Rattle.fl_core.specs.declared.wiring.Inlet.TheVariants as inlet
use Rattle.fl_core.specs.declared.wiring.Outlet.TheVariants as outlet
use Rattle.fl_core.specs.BoardView.{TheEndAtChannel}
use Rattle.fl_core.specs.BoardTurns.{LooksAt, moment}
use Rattle.fl_core.specs.Sound.{IsCore}
use Rattle.fl_core.specs.View.{kind_of, inlet_by, inlet_of}
use Rattle.fl_core_run.specs.Run.{TheRun}
use Rattle.fl_core_run.specs.LogEntries.{LogEntry, looked, passed, arrived, heard, said, told, opened, called, ruled, wrote, acked, turned, Does, Notes, NotesHeard, NotesOpened, NotesCalled, NotesTurned}
use Rattle.fl_history_rings.specs.declared.board.Action.{Action}
use Rattle.fl_history_rings.specs.declared.board.Action.TheVariants.{Put, Found, Took}
use Rattle.fl_history_rings.specs.declared.board.Entry.{Entry}
use Rattle.fl_history_rings.specs.Rule.{gather, one_action}
use Rattle.fl_history_rings.specs.Cores.{TheCore}
use Rattle.fl_history_sides.specs.States.{TheHistorySide, numbers_of, shown_of}
use Rattle.fl_history_sides.specs.Core.{IsStepBy, AreSidesOf}
use Rattle.fl_history_sides.proofs.Prefixes.{Numbered, numbered}
use Rattle.fl_history_events.specs.Events.{known_to_stand}
use Rattle.fl_history_events.proofs.Cutting.{cons_none}
use Rattle.fl_history_sides.specs.Ways.{history_ways}
use Rattle.fl_history_entries.specs.Entries.{DidAnEvent, MayComeNext}
use Rattle.fl_history_entries.specs.Laws.{EntriesAreEvents}
use Rattle.fl_history_entries.proofs.Acting.{piece_here, FollowActs, seen_known}
use Rattle.fl_history_entries.proofs.Growing.{all_at, Grew, grew_not, grew_then, grew_on, GrewAt, DidMore, did_more}
use Rattle.fl_history_entries.proofs.Eventful.{set_here, set_else, one_there, by_one_side}
use Rattle.fl_history_entries.proofs.Both.{AllCome, by_two_sides}
use Rattle.fl_history_entries.proofs.Noting.{GrewSimply, noted, simple_follow, PutActs, put_acts, TakenActs, taken_acts}
use Rattle.fl_history_entries.proofs.ByAnswer.{looks_ahead, arrives, heard_at, said_at, told_at, writes_at, acks, looks_at}

abbrev HistoryRun : Type 0
HistoryRun = TheRun TheHistorySide

-- ---- what changes by an entry

-- one side alone, by which its core noted simple actions
record OneSide (s t : HistoryRun) : Type 0 where
  place : ℕ
  before : TheHistorySide
  after : TheHistorySide
  there : slice_get s.rings place ≡ Some before
  rings : t.rings ≡ slice_set s.rings place after
  grew : GrewSimply before after

one_side : (n : ℕ) (s t : HistoryRun) (p q : TheHistorySide) → slice_get s.rings n ≡ Some p → t.rings ≡ slice_set s.rings n q → GrewSimply p q → OneSide s t
one_side n s t p q there rings grew = record { place = n; before = p; after = q; there = there; rings = rings; grew = grew }

-- or none
abbrev What : HistoryRun → HistoryRun → Type 0
What s t = (t.rings ≡ s.rings) ⊎ OneSide s t

-- ---- then an event was done

module _ (c d : TheCore) (ss : List TheHistorySide) (h : AreSidesOf c ss) (k : AreSidesOf d ss) where
  abbrev nothing : List Action
  nothing = []

  same_each : (i : ℕ) (x : TheHistorySide) → slice_get ss i ≡ Some x → GrewAt nothing x ss i
  same_each i x there = record { side = x; there = there; grew = grew_not x }

  abbrev acts : ℕ → List Action
  acts i = []

  none_more : (rest : List Entry) → AllByRecursion (IsStepBy d.number (numbers_of ss)) rest
      → ((i : ℕ) (p : TheHistorySide) → slice_get ss i ≡ Some p → gather one_action p.number rest ≡ nothing) → (let none : List Entry = [] in rest ≡ none)
  none_more [] by none = refl
  none_more (e ∷ es) by none =
      let z : Numbered ss by.0.1.0 e.side = numbered ss by.0.1.0 e.side by.0.1.1 in
      absurd (cons_none e.action (gather one_action e.side es)
      (sym (piece_here e.side e es refl) ∙ ap (λ (n : ℕ). gather one_action n (e ∷ es)) (sym z.number) ∙ none by.0.1.0 z.side z.there))

  by_no_side : DidAnEvent c d
  by_no_side =
      let more : DidMore c d ss ss h k refl acts same_each = did_more c d ss ss h k refl acts same_each in
      let none = none_more more.rest more.by_core more.by_side in
      record { steps = []; did = more.steps_are ∙ ap (λ (l : List Entry). c.steps ++ l) none; is_event = tt }

module _ (c d : TheCore) (s t : HistoryRun) (h : AreSidesOf c s.rings) (k : AreSidesOf d t.rings) where
  finished : What s t → DidAnEvent c d
  finished what =
      ⊎_elim
      (λ same. by_no_side c d s.rings h (subst (λ (l : List TheHistorySide). AreSidesOf d l) same k))
      (λ one.
      by_one_side c d s.rings one.place one.before one.after h (subst (λ (l : List TheHistorySide). AreSidesOf d l) one.rings k)
      one.there one.grew.acts one.grew.grew (simple_follow (known_to_stand one.before.number c.steps) one.grew.acts one.grew.simple))
      what

-- ---- a fragment passes on

-- what was seen stands
seen_there : (c : TheCore) (ss : List TheHistorySide) (n : ℕ) (p : TheHistorySide) (frag : Frag) → AreSidesOf c ss → slice_get ss n ≡ Some p
    → p.side.peeked ≡ Some frag → known_to_stand p.number c.steps ≡ true
seen_there c ss n p frag h at peeked =
    let shown : p ≡ shown_of c p.side.size p.number = all_at (λ (z : TheHistorySide). z ≡ shown_of c z.side.size z.number) ss n p h.each at in
    seen_known p.number c.steps frag (sym (ap (λ (z : TheHistorySide). z.side.peeked) shown) ∙ peeked)

-- by the side that it is put to, and the same one that it is taken from
both_follow : (room : List Action) (f g : Frag) (control : ℕ) → (let none : List Action = [] in (room ≡ none) ⊎ ((other : ℕ) × (room ≡ Found other ∷ [])))
    → FollowActs true [] ((room ++ Put f ∷ []) ++ Found control ∷ Took g ∷ [])
both_follow room f g control room_is =
    ⊎_elim
    (λ none. subst (λ (l : List Action). FollowActs true [] ((l ++ Put f ∷ []) ++ Found control ∷ Took g ∷ [])) (sym none) (inl tt, (inr refl, (inr refl, tt))))
    (λ one.
    subst (λ (l : List Action). FollowActs true [] ((l ++ Put f ∷ []) ++ Found control ∷ Took g ∷ [])) (sym one.1)
    (inl tt, (inl (tt, tt), (inr refl, (inr refl, tt)))))
    room_is

module _ (c d : TheCore) (s m t : HistoryRun) (h : AreSidesOf c s.rings) (k : AreSidesOf d t.rings) (onto from : ℕ)
    (p q p2 q2 : TheHistorySide) (at : slice_get s.rings onto ≡ Some p) (rings : m.rings ≡ slice_set s.rings onto q)
    (at2 : slice_get m.rings from ≡ Some p2) (rings2 : t.rings ≡ slice_set m.rings from q2)
    (put_did taken_did : List Action) (put : PutActs put_did) (taken : TakenActs taken_did) (grew : Grew put_did p q) (grew2 : Grew taken_did p2 q2)
    (p0 : TheHistorySide) (frag : Frag) (there : slice_get s.rings from ≡ Some p0) (peeked : p0.side.peeked ≡ Some frag) where
  abbrev put_acts_are : List Action
  put_acts_are = put.room ++ Put put.frag ∷ []

  abbrev taken_acts_are : List Action
  taken_acts_are = Found taken.control ∷ Took taken.frag ∷ []

  grew_so : Grew put_acts_are p q
  grew_so = subst (λ (l : List Action). Grew l p q) put.did_is grew

  grew2_so : Grew taken_acts_are p2 q2
  grew2_so = subst (λ (l : List Action). Grew l p2 q2) taken.did_is grew2

  known : known_to_stand p0.number c.steps ≡ true
  known = seen_there c s.rings from p0 frag h there peeked

  rings_all : t.rings ≡ slice_set (slice_set s.rings onto q) from q2
  rings_all = rings2 ∙ ap (λ (l : List TheHistorySide). slice_set l from q2) rings

  sides_all : AreSidesOf d (slice_set (slice_set s.rings onto q) from q2)
  sides_all = subst (λ (l : List TheHistorySide). AreSidesOf d l) rings_all k

  at2_all : slice_get (slice_set s.rings onto q) from ≡ Some p2
  at2_all = ap (λ (l : List TheHistorySide). slice_get l from) (sym rings) ∙ at2

  passed_apart : onto ≢ from → DidAnEvent c d
  passed_apart apart =
      let here : slice_get s.rings from ≡ Some p2 = sym (set_else s.rings onto from q (λ e. apart (sym e))) ∙ at2_all in
      let same : p0 ≡ p2 = one_there s.rings from p0 p2 there here in
      let known_so : known_to_stand p2.number c.steps ≡ true = ap (λ (z : TheHistorySide). known_to_stand z.number c.steps) (sym same) ∙ known in
      by_two_sides c d s.rings onto from p q p2 q2 h sides_all apart at here put.room (Put put.frag) taken_acts_are grew_so grew2_so
      put.wait (tt, (tt, tt)) (subst (λ (b : Bool). AllCome b taken_acts_are) (sym known_so) (refl, (refl, tt)))

  passed_back : onto ≡ from → DidAnEvent c d
  passed_back is =
      let mid : q ≡ p2 = one_there (slice_set s.rings onto q) onto q p2 (set_here s.rings onto p q at) (ap (slice_get (slice_set s.rings onto q)) is ∙ at2_all) in
      let whole : Grew (put_acts_are ++ taken_acts_are) p q2 =
      grew_then p p2 q2 put_acts_are taken_acts_are (subst (λ (z : TheHistorySide). Grew put_acts_are p z) mid grew_so) grew2_so in
      let once : slice_set (slice_set s.rings onto q) from q2 ≡ slice_set s.rings onto q2 =
      ap (λ (i : ℕ). slice_set (slice_set s.rings onto q) i q2) (sym is) ∙ set-set s.rings onto q q2 in
      let same : p0 ≡ p = one_there s.rings onto p0 p (ap (slice_get s.rings) is ∙ there) at in
      let known_so : known_to_stand p.number c.steps ≡ true = ap (λ (z : TheHistorySide). known_to_stand z.number c.steps) (sym same) ∙ known in
      by_one_side c d s.rings onto p q2 h (subst (λ (l : List TheHistorySide). AreSidesOf d l) once sides_all) at
      (put_acts_are ++ taken_acts_are) whole
      (subst (λ (b : Bool). FollowActs b [] (put_acts_are ++ taken_acts_are)) (sym known_so)
      (both_follow put.room put.frag taken.frag taken.control put.room_is))

  passed_on : DidAnEvent c d
  passed_on = dite (ℕ_discrete onto from) passed_back passed_apart

-- ---- a turn over a side is one of a ring's channel

pub map_at : {A B : Type 0} (f : A → B) (xs : List A) (n : ℕ) (x : A) → slice_get xs n ≡ Some x → slice_get (map f xs) n ≡ Some (f x)
map_at f [] n x at = absurd (cc)
map_at {A} {B} f (y ∷ ys) zero x at = let same : y ≡ x = cc in ap (λ (z : A). Some (f z)) same
map_at f (y ∷ ys) (suc n) x at = map_at f ys n x at

ring_wired : (w : EndWiring) (n : ℕ) → inlet_by w ≡ inlet.Side n → kind_of w ≡ Ring
ring_wired (wiring.Queues out from) n is = absurd (cc)
ring_wired (wiring.Ring side) n is = refl
ring_wired (wiring.Circuit l a) n is = absurd (cc)

wired_ring : (o : Option WiredEnd) (x : Inlet) → given o None (λ p. Some (inlet_by p.wiring)) ≡ Some x → (w : WiredEnd) × (o ≡ Some w) × (inlet_by w.wiring ≡ x)
wired_ring None x is = absurd (cc)
wired_ring (Some w) x is = (w, refl, cc)

pub ring_seat : (s : HistoryRun) (e n : ℕ) (seat : TheEndAtChannel) → IsCore s.core → slice_get s.core.board.seats e ≡ Some seat → inlet_of s.core e ≡ Some (inlet.Side n)
    → seat.kind ≡ Ring
ring_seat s e n seat sound at is =
    let w = wired_ring (slice_get s.core.wired_ends e) (inlet.Side n) is in
    let by_board : slice_get (map (λ (x : TheEndAtChannel). x.kind) s.core.board.seats) e ≡ Some seat.kind = map_at (λ (x : TheEndAtChannel). x.kind) s.core.board.seats e seat at in
    let by_wires : slice_get (map (λ (x : WiredEnd). kind_of x.wiring) s.core.wired_ends) e ≡ Some (kind_of w.0.wiring) =
    map_at (λ (x : WiredEnd). kind_of x.wiring) s.core.wired_ends e w.0 w.1 in
    one_there (map (λ (x : WiredEnd). kind_of x.wiring) s.core.wired_ends) e seat.kind (kind_of w.0.wiring)
    (ap (λ (l : List ChannelKind). slice_get l e) (sym sound.kinds) ∙ by_board) by_wires
    ∙ ring_wired w.0.wiring n w.2

turned_over : (dispatcher : ℕ) (name : EndId) (n : ℕ) (answer : TurnAnswer) (s t : HistoryRun) → IsCore s.core → Does history_ways (turned dispatcher name (inlet.Side n) answer) s t
    → MayComeNext (turned dispatcher name (inlet.Side n) answer) s → OneSide s t
turned_over dispatcher name n answer s t sound (e, at, due_is, on) may =
    let turns = on.event.event in
    let kind : turns.seat.kind ≡ Ring = ring_seat s e n turns.seat sound turns.seat_is (may e at) in
    let first = moment turns.dispatcher.lists turns.seat.end on.before in
    let last = moment turns.lists turns.end on.after in
    let looks : LooksAt history_ways.takes turns.picked Ring first (Ok answer) last =
    subst (λ (x : ChannelKind). LooksAt history_ways.takes turns.picked x first (Ok answer) last) kind turns.looks in
    one_side n s t on.before on.after on.before_is (ap (λ (z : HistoryRun). z.rings) on.rest) (looks_at turns.picked first answer last looks)

-- ---- each kind of entry

module _ (c d : TheCore) (s t : HistoryRun) (sound : IsCore s.core) (h : AreSidesOf c s.rings) (k : AreSidesOf d t.rings) where
  abbrev rings_of : HistoryRun → List TheHistorySide
  rings_of z = z.rings

  done : What s t → DidAnEvent c d
  done what = finished c d s t h k what

  event_of : (log_entry : LogEntry) → Does history_ways log_entry s t → MayComeNext log_entry s → DidAnEvent c d
  event_of (looked n l answer) on may = done (inr (one_side n s t on.before on.after on.before_is (ap rings_of on.rest) (looks_ahead l.0 _ answer _ on.event)))
  event_of (passed n to frag circuit outcome.Moved) (mid, puts, takes) (p0, seen, at, peeked) =
      let put = puts.event.0.1 in
      let taken = takes.event.0.1 in
      passed_on c d s mid t h k to n puts.before puts.after takes.before takes.after puts.before_is (ap rings_of puts.rest) takes.before_is (ap rings_of takes.rest)
      put.did taken.did (put_acts _ put.did put.notes) (taken_acts _ taken.did taken.notes)
      (grew_on puts.before puts.after put.did put.number put.goes_on) (grew_on takes.before takes.after taken.did taken.number taken.goes_on)
      p0 seen at peeked
  event_of (passed n to frag circuit outcome.Full) on may =
      done (inr (one_side to s t on.before on.after on.before_is (ap rings_of on.rest) (noted on.before no_room on.after on.event.0.1)))
  event_of (passed n to frag circuit outcome.Spent) on may =
      done (inr (one_side to s t on.before on.after on.before_is (ap rings_of on.rest) (noted on.before spent on.after on.event.0.1)))
  event_of (arrived n l frag e answer) on may = done (inr (one_side n s t on.before on.after on.before_is (ap rings_of on.rest) (arrives _ _ answer _ on.event)))
  event_of (heard n l frag answer) on may = done (inr (one_side n s t on.before on.after on.before_is (ap rings_of on.rest) (heard_at frag on.before answer on.after on.event.1)))
  event_of (said n l answer) on may = done (inr (one_side n s t on.before on.after on.before_is (ap rings_of on.rest) (said_at l.0 _ answer _ on.event)))
  event_of (told n l answer) on may = done (inr (one_side n s t on.before on.after on.before_is (ap rings_of on.rest) (told_at on.before answer on.after on.event.0)))
  event_of (opened name request answer) on may = done (inl (ap rings_of on.rest))
  event_of (called name call answer) (e, at, on) may = done (inl (ap rings_of on.rest))
  event_of (ruled name msg reply answer) (e, at, on) may = done (inl (ap rings_of on.rest))
  event_of (wrote name (outlet.Queue n) answer) (e, at, on) may = done (inl (ap rings_of on.rest))
  event_of (wrote name (outlet.Side n) answer) (e, at, on) may =
      done (inr (one_side n s t on.before on.after on.before_is (ap rings_of on.rest) (writes_at e _ answer _ on.event)))
  event_of (acked name n answer) (e, at, on) may =
      let seat = on.event.0 in
      done (inr (one_side n s t on.before on.after on.before_is (ap rings_of on.rest) (acks seat.0.kind seat.0.end on.before answer on.after seat.2)))
  event_of (turned dispatcher name (inlet.Queue n) answer) (e, at, due_is, on) may = done (inl (ap rings_of on.rest))
  event_of (turned dispatcher name (inlet.Side n) answer) does may = done (inr (turned_over dispatcher name n answer s t sound does may))
  event_of (turned dispatcher name inlet.Arrivals answer) (e, at, due_is, on) may = done (inl (ap rings_of on.rest))

-- ---- what is noted besides leaves the sides

heard_leaves : (answer : Result MonitorAnswer LinkReceiveFault) (m t : HistoryRun) → NotesHeard answer m t → t.rings ≡ m.rings
heard_leaves (Ok answered.Full) m t notes = ap (λ (z : HistoryRun). z.rings) notes
heard_leaves (Ok answered.Done) m t notes = ap (λ (z : HistoryRun). z.rings) notes
heard_leaves (Ok (answered.Opened e)) m t notes = ap (λ (z : HistoryRun). z.rings) notes
heard_leaves (Ok (answered.OpeningRefused e reason)) m t notes = ap (λ (z : HistoryRun). z.rings) notes.rest
heard_leaves (Err f) m t notes = ap (λ (z : HistoryRun). z.rings) notes

opened_leaves : (name : EndId) (answer : Result ℕ OpenFault) (m t : HistoryRun) → NotesOpened name answer m t → t.rings ≡ m.rings
opened_leaves name (Ok e) m t notes = ap (λ (z : HistoryRun). z.rings) notes.rest
opened_leaves name (Err (opening.Monitor monitor.OutboxFull)) m t notes = ap (λ (z : HistoryRun). z.rings) notes
opened_leaves name (Err f) m t notes = ap (λ (z : HistoryRun). z.rings) notes.rest

called_leaves : (name : EndId) (answer : Result (Unit {0}) EndFault) (m t : HistoryRun) → NotesCalled name answer m t → t.rings ≡ m.rings
called_leaves name (Ok done) m t notes = ap (λ (z : HistoryRun). z.rings) notes.rest
called_leaves name (Err f) m t notes = ap (λ (z : HistoryRun). z.rings) notes

turned_leaves : (name : EndId) (answer : TurnAnswer) (m t : HistoryRun) → NotesTurned name answer m t → t.rings ≡ m.rings
turned_leaves name (turn.Handle call) m t notes = ap (λ (z : HistoryRun). z.rings) notes.rest
turned_leaves name turn.Part m t notes = ap (λ (z : HistoryRun). z.rings) notes
turned_leaves name turn.Ready m t notes = ap (λ (z : HistoryRun). z.rings) notes
turned_leaves name turn.Quiet m t notes = ap (λ (z : HistoryRun). z.rings) notes
turned_leaves name turn.Full m t notes = ap (λ (z : HistoryRun). z.rings) notes
turned_leaves name turn.Nothing m t notes = ap (λ (z : HistoryRun). z.rings) notes
turned_leaves name (turn.Refused f) m t notes = ap (λ (z : HistoryRun). z.rings) notes

pub notes_leave : (log_entry : LogEntry) (m t : HistoryRun) → Notes log_entry m t → t.rings ≡ m.rings
notes_leave (looked n l answer) m t notes = ap (λ (z : HistoryRun). z.rings) notes
notes_leave (passed n to frag circuit outcome) m t notes = ap (λ (z : HistoryRun). z.rings) notes
notes_leave (arrived n l frag e answer) m t notes = ap (λ (z : HistoryRun). z.rings) notes
notes_leave (heard n l frag answer) m t notes = heard_leaves answer m t notes
notes_leave (said n l answer) m t notes = ap (λ (z : HistoryRun). z.rings) notes
notes_leave (told n l answer) m t notes = ap (λ (z : HistoryRun). z.rings) notes
notes_leave (opened name request answer) m t notes = opened_leaves name answer m t notes
notes_leave (called name call answer) m t notes = called_leaves name answer m t notes
notes_leave (ruled name msg reply answer) m t notes = ap (λ (z : HistoryRun). z.rings) notes.rest
notes_leave (wrote name out answer) m t notes = ap (λ (z : HistoryRun). z.rings) notes
notes_leave (acked name n answer) m t notes = ap (λ (z : HistoryRun). z.rings) notes
notes_leave (turned dispatcher name from answer) m t notes = turned_leaves name answer m t notes

-- ---- the law

pub entries_are_events : EntriesAreEvents
entries_are_events = λ s t log_entry c d h k happens may.
    let sides : AreSidesOf d happens.0.rings = subst (λ (l : List TheHistorySide). AreSidesOf d l) (notes_leave log_entry happens.0 t happens.2) k in
    event_of c d s happens.0 happens.3.core h sides log_entry happens.1 may
