-- An end stays with its dispatcher, and none of these goes.
use Rattle.std.proofs.Common.{◌≡◌, ◌≢◌, refl, sym, ap, ◌∙◌, subst, ℕ, ◌==◌, List, length, slice_get, slice_set, Option, Some, None, Bool, true, false, Result, Ok, Err, arith}
use Rattle.std.specs.declared.alloc.AllocError.{AllocError}
use Rattle.std.proofs.lemmas.Bool.Decides.{nat_tests}
use Rattle.std.proofs.lemmas.List.{length-set}
use Rattle.fl_base.specs.declared.fragment.Frag.{Frag}
use Rattle.fl_base.specs.declared.identity.EndId.{EndId}
use Rattle.fl_base.specs.declared.identity.LinkId.{LinkId}
use Rattle.fl_base.specs.declared.identity.Circuit.{Circuit as Number}
use Rattle.fl_compile.specs.declared.program.Program.{Program}
use Rattle.fl_wire.specs.declared.fault.WireFault.TheVariants as wiring
use Rattle.fl_hop.specs.declared.forward.ForwardOutcome.{ForwardOutcome}
use Rattle.fl_hop.specs.declared.forward.ForwardOutcome.TheVariants.{Moved, Full, Spent}
use Rattle.fl_lists.specs.ThreeLists.{ThreeLists}
use Rattle.fl_endpoint.specs.View.{TheEnd}
use Rattle.fl_core.proofs.BoardPlaces.{one_stands, set_here, set_elsewhere, push_stays}
use Rattle.fl_core.specs.BoardView.{TheEndAtChannel, TheBoard}
use Rattle.fl_core.specs.declared.kind.ChannelKind.{ChannelKind}
use Rattle.fl_core.specs.BoardEvents.{ChangesEnd, ChangesLists, Adds}
use Rattle.fl_core.specs.BoardTurns.{BoardAndSide, Turns}
use Rattle.fl_core.specs.declared.turn_answer.TurnAnswer.{TurnAnswer}
use Rattle.fl_monitor.specs.declared.heard.MessageOutcome.{MessageOutcome}
use Rattle.fl_monitor.specs.declared.heard.MessageOutcome.TheVariants as outcome
use Rattle.fl_monitor.specs.declared.message.MonitorMessage.{MonitorMessage}
use Rattle.fl_core.specs.View.{TheCore, with_monitor, arriving_at}
use Rattle.fl_core.specs.Ends.{at_side, TriggersIf, woken_by}
use Rattle.fl_core.specs.Links.{LooksAhead, inbound, ArrivesAt, MonitorWrites, reached}
use Rattle.fl_core.specs.Hearing.{Offers, HearsFrag, HearsMessage, HearsAll, offering, Follows, BindsIf}
use Rattle.fl_core.specs.Making.{Asks, Asked}
use Rattle.fl_core.specs.declared.answer.LinkFront.{LinkFront}
use Rattle.fl_core.specs.declared.answer.LinkFront.TheVariants as ahead
use Rattle.fl_core.specs.declared.answer.MonitorWrite.{MonitorWrite}
use Rattle.fl_core.specs.declared.answer.MonitorWrite.TheVariants as said_as
use Rattle.fl_core.specs.declared.answer.MonitorAnswer.{MonitorAnswer}
use Rattle.fl_core.specs.declared.answer.MonitorAnswer.TheVariants as heard_as
use Rattle.fl_core.specs.declared.fault.LinkReceiveFault.{LinkReceiveFault}
use Rattle.fl_core.specs.declared.fault.LinkReceiveFault.TheVariants as link
use Rattle.fl_core.specs.declared.fault.OpenFault.{OpenFault}
use Rattle.fl_core.specs.declared.fault.OpenFault.TheVariants as opening
use Rattle.fl_core.specs.declared.hearing.OfferedService.{OfferedService}
use Rattle.fl_core.specs.declared.wiring.ArrivalPlace.{ArrivalPlace}
use Rattle.fl_core.specs.declared.wiring.Outlet.TheVariants as outlet
use Rattle.fl_core.specs.declared.wiring.Inlet.TheVariants as inlet
use Rattle.fl_core_run.specs.Run.{SideRelations, TheRun}
use Rattle.fl_core_run.specs.LogEntries.{LogEntry, looked, passed, arrived, heard, said, told, opened, called, ruled, wrote, acked, turned, Does}

-- ---- boards

-- each end that sits there is still there, at the same dispatcher; and there are as many dispatchers
abbrev pub KeepsSeats : TheBoard → TheBoard → Type 0
KeepsSeats b c = (e : ℕ) (s : TheEndAtChannel) → slice_get b.seats e ≡ Some s → (t : TheEndAtChannel) × (slice_get c.seats e ≡ Some t) × (t.dispatcher ≡ s.dispatcher)

pub record Keeps (b c : TheBoard) : Type 0 where
  pub seats : KeepsSeats b c
  pub many : length c.dispatchers ≡ length b.dispatchers

seats_same : (b c : TheBoard) → c.seats ≡ b.seats → KeepsSeats b c
seats_same b c same e s at = (s, ap (λ (xs : List TheEndAtChannel). slice_get xs e) same ∙ at, refl)

pub keeps_same : (b c : TheBoard) → c ≡ b → Keeps b c
keeps_same b c same = record {
  seats = seats_same b c (ap (λ (x : TheBoard). x.seats) same);
  many = ap (λ (x : TheBoard). length x.dispatchers) same;
}

seats_then : (b c d : TheBoard) → KeepsSeats b c → KeepsSeats c d → KeepsSeats b d
seats_then b c d f g e s at =
    let (t, there, one) = f e s at in
    let (u, then_there, two) = g e t there in
    (u, then_there, two ∙ one)

pub keeps_then : (b c d : TheBoard) → Keeps b c → Keeps c d → Keeps b d
keeps_then b c d f g = record { seats = seats_then b c d f.seats g.seats; many = g.many ∙ f.many }

set_by : (b c : TheBoard) (f : ℕ) (seat after : TheEndAtChannel) → slice_get b.seats f ≡ Some seat → after.dispatcher ≡ seat.dispatcher → c.seats ≡ slice_set b.seats f after
    → (e : ℕ) (s : TheEndAtChannel) → slice_get b.seats e ≡ Some s → (same : Bool) → (e == f) ≡ same → (t : TheEndAtChannel) × (slice_get c.seats e ≡ Some t) × (t.dispatcher ≡ s.dispatcher)
set_by b c f seat after there same is e s at true test =
    let eq : e ≡ f = grind (arith, nat_tests, test) in
    let one : seat ≡ s = one_stands b.seats f seat s there (subst (λ (i : ℕ). slice_get b.seats i ≡ Some s) eq at) in (
      after,
      ap (λ (xs : List TheEndAtChannel). slice_get xs e) is ∙ subst (λ (i : ℕ). slice_get (slice_set b.seats f after) i ≡ Some after) (sym eq) (set_here b.seats f seat after there),
      same ∙ ap (λ (x : TheEndAtChannel). x.dispatcher) one,
    )
set_by b c f seat after there same is e s at false test =
    let ne : e ≢ f = λ eq. absurd (grind (arith, nat_tests, test, eq)) in
    (s, ap (λ (xs : List TheEndAtChannel). slice_get xs e) is ∙ set_elsewhere b.seats f e after ne ∙ at, refl)

seats_set : (b c : TheBoard) (f : ℕ) (seat after : TheEndAtChannel) → slice_get b.seats f ≡ Some seat → after.dispatcher ≡ seat.dispatcher → c.seats ≡ slice_set b.seats f after → KeepsSeats b c
seats_set b c f seat after there same is e s at = set_by b c f seat after there same is e s at (e == f) refl

pub keeps_end : (b c : TheBoard) (e : ℕ) (Event : TheEnd → TheEnd → Type 0) → ChangesEnd b e Event c → Keeps b c
keeps_end b c e Event h = record {
  seats = seats_set b c e h.seat _ h.seat_is refl (ap (λ (x : TheBoard). x.seats) h.board);
  many = ap (λ (x : TheBoard). length x.dispatchers) h.board;
}

keeps_lists : (b c : TheBoard) (e : ℕ) (Event : TheEndAtChannel → ThreeLists → ThreeLists → Type 0) → ChangesLists b e Event c → Keeps b c
keeps_lists b c e Event h = record {
  seats = seats_same b c (ap (λ (x : TheBoard). x.seats) h.board);
  many = ap (λ (x : TheBoard). length x.dispatchers) h.board ∙ length-set b.dispatchers h.seat.dispatcher _;
}

keeps_triggers : (o : Option ℕ) (b c : TheBoard) → TriggersIf o b c → Keeps b c
keeps_triggers None b c h = keeps_same b c h
keeps_triggers (Some e) b c h = keeps_lists b c e _ h

keeps_adds : (b c : TheBoard) (n e : ℕ) (x : TheEnd) (kind : ChannelKind) → Adds b n x kind (Ok e) c → Keeps b c
keeps_adds b c n e x kind h = record {
  seats = λ f s at. (s, ap (λ (d : TheBoard). slice_get d.seats f) h.1.3 ∙ push_stays b.seats _ f s at, refl);
  many = ap (λ (d : TheBoard). length d.dispatchers) h.1.3 ∙ length-set b.dispatchers n _;
}

keeps_turn : {T : Type 0} (takes : T → _ → T → Type 0) (d e : ℕ) (b : BoardAndSide T) (answer : Result TurnAnswer AllocError) (c : BoardAndSide T) → Turns takes d e b answer c
    → Keeps b.board c.board
keeps_turn takes d e b answer c h = record {
  seats = seats_set b.board c.board e h.seat _ h.seat_is refl (ap (λ (x : TheBoard). x.seats) h.board);
  many = ap (λ (x : TheBoard). length x.dispatchers) h.board ∙ length-set b.board.dispatchers d _;
}

-- ---- a core, by what happened there

abbrev pub CoreKeeps : TheCore → TheCore → Type 0
CoreKeeps k k2 = Keeps k.board k2.board

core_same : (k k2 : TheCore) → k2 ≡ k → CoreKeeps k k2
core_same k k2 same = keeps_same k.board k2.board (ap (λ (x : TheCore). x.board) same)

core_board : (k k2 : TheCore) → k2.board ≡ k.board → CoreKeeps k k2
core_board k k2 same = keeps_same k.board k2.board same

ahead_keeps : {S : Type 0} (w : SideRelations S) (l : ℕ) (k : TheCore) (p : S) (answer : Result LinkFront LinkReceiveFault) (k2 : TheCore) (q : S) → LooksAhead w.takes w.front l (at_side k p) answer (at_side k2 q) → CoreKeeps k k2
ahead_keeps w l k p (Ok ahead.Nothing) k2 q h = core_same k k2 h.1
ahead_keeps w l k p (Ok ahead.Acknowledged) k2 q h = core_same k k2 h.1
ahead_keeps w l k p (Ok (ahead.Message frag)) k2 q h = core_same k k2 h.1
ahead_keeps w l k p (Ok (ahead.Onward frag side c)) k2 q h = core_same k k2 h.1
ahead_keeps w l k p (Ok (ahead.Arrival frag e)) k2 q h = core_same k k2 h.1
ahead_keeps w l k p (Err link.Failed) k2 q h = core_same k k2 h.1
ahead_keeps w l k p (Err link.Misrouted) k2 q h = core_board k k2 (ap (λ (x : TheCore). x.board) h.1)
ahead_keeps w l k p (Err link.Marked) k2 q h = core_board k k2 (ap (λ (x : TheCore). x.board) h.1)
ahead_keeps w l k p (Err (link.Wire f)) k2 q h = absurd h
ahead_keeps w l k p (Err link.Memory) k2 q h = absurd h

arrives_keeps : {S : Type 0} (w : SideRelations S) (l : ℕ) (frag : Frag) (e : EndId) (k : TheCore) (p : S) (answer : Result ForwardOutcome LinkReceiveFault) (k2 : TheCore) (q : S)
    → ArrivesAt w.takes (inbound l frag e) (at_side k p) answer (at_side k2 q) → CoreKeeps k k2
arrives_keeps w l frag e k p (Ok result) k2 q h = keeps_triggers (reached h.end result) k.board k2.board h.triggers
arrives_keeps w l frag e k p (Err link.Misrouted) k2 q h = core_board k k2 (ap (λ (x : TheCore). x.board) h.1)
arrives_keeps w l frag e k p (Err link.Failed) k2 q h = absurd h
arrives_keeps w l frag e k p (Err link.Marked) k2 q h = absurd h
arrives_keeps w l frag e k p (Err (link.Wire f)) k2 q h = absurd h
arrives_keeps w l frag e k p (Err link.Memory) k2 q h = absurd h

binds_keep : (o : Option ArrivalPlace) (c : Number) (k k2 : TheCore) → BindsIf o c k k2 → CoreKeeps k k2
binds_keep None c k k2 h = core_same k k2 h
binds_keep (Some at) c k k2 h = keeps_then k.board h.bound_board k2.board (keeps_end k.board h.bound_board at.end _ h.binds) (keeps_lists h.bound_board k2.board at.end _ h.registers)

follows_keep : (programs : List Program) (offer : Option OfferedService) (l : LinkId) (heard : MessageOutcome) (k : TheCore) (answered : MonitorAnswer) (k2 : TheCore)
    → Follows (offering programs offer l) heard k answered k2 → CoreKeeps k k2
follows_keep programs offer l (outcome.ServerMade binding dispatcher c) k answered k2 h =
    keeps_then k.board h.1.added k2.board (keeps_adds k.board h.1.added dispatcher h.1.end _ _ h.1.adds) (keeps_lists h.1.added k2.board h.1.end _ h.1.joins.1)
follows_keep programs offer l (outcome.EndOpened e c) k answered k2 h = binds_keep (arriving_at k e) c k k2 h.1
follows_keep programs offer l (outcome.EndRefused e reason) k answered k2 h = core_same k k2 h.1
follows_keep programs offer l (outcome.OpeningWentOn binding n c) k answered k2 h = core_same k k2 h.1
follows_keep programs offer l (outcome.OpeningFailed binding reason) k answered k2 h = core_same k k2 h.1
follows_keep programs offer l (outcome.AnswerWentOn binding n c) k answered k2 h = core_same k k2 h.1

all_keep : (o : Offers) (l : LinkId) (m : MonitorMessage) (k : TheCore) (answered : MonitorAnswer) (k2 : TheCore) → HearsAll o l m k answered k2 → CoreKeeps k k2
all_keep o l m k answered k2 h = follows_keep o.programs _ l h.heard (with_monitor k h.monitor) answered k2 h.follows

message_keeps : (o : Offers) (l : LinkId) (m : MonitorMessage) (k : TheCore) (answer : Result MonitorAnswer LinkReceiveFault) (k2 : TheCore) → HearsMessage o l m k answer k2 → CoreKeeps k k2
message_keeps o l m k (Ok heard_as.Full) k2 h = core_same k k2 h.1
message_keeps o l m k (Ok heard_as.Done) k2 h = all_keep o l m k heard_as.Done k2 h
message_keeps o l m k (Ok (heard_as.Opened e)) k2 h = all_keep o l m k (heard_as.Opened e) k2 h
message_keeps o l m k (Ok (heard_as.OpeningRefused e reason)) k2 h = all_keep o l m k (heard_as.OpeningRefused e reason) k2 h
message_keeps o l m k (Err link.Misrouted) k2 h = core_board k k2 (ap (λ (x : TheCore). x.board) h.1)
message_keeps o l m k (Err link.Memory) k2 h = core_same k k2 h
message_keeps o l m k (Err link.Failed) k2 h = absurd h
message_keeps o l m k (Err link.Marked) k2 h = absurd h
message_keeps o l m k (Err (link.Wire f)) k2 h = absurd h

hears_keep : (o : Offers) (l : LinkId) (frag : Frag) (k : TheCore) (answer : Result MonitorAnswer LinkReceiveFault) (k2 : TheCore) → HearsFrag o l frag k answer k2 → CoreKeeps k k2
hears_keep o l frag k (Err (link.Wire wiring.Memory)) k2 h = absurd h
hears_keep o l frag k (Err (link.Wire wiring.NotFirst)) k2 h = core_board k k2 (ap (λ (x : TheCore). x.board) h.1)
hears_keep o l frag k (Err (link.Wire wiring.FirstInside)) k2 h = core_board k k2 (ap (λ (x : TheCore). x.board) h.1)
hears_keep o l frag k (Err (link.Wire wiring.UnknownMessage)) k2 h = core_board k k2 (ap (λ (x : TheCore). x.board) h.1)
hears_keep o l frag k (Err (link.Wire wiring.NotZero)) k2 h = core_board k k2 (ap (λ (x : TheCore). x.board) h.1)
hears_keep o l frag k (Err (link.Wire wiring.OutOfType)) k2 h = core_board k k2 (ap (λ (x : TheCore). x.board) h.1)
hears_keep o l frag k (Err (link.Wire wiring.TooLong)) k2 h = core_board k k2 (ap (λ (x : TheCore). x.board) h.1)
hears_keep o l frag k (Err link.Memory) k2 h = core_same k k2 h
hears_keep o l frag k (Err link.Failed) k2 h = message_keeps o l h.0 k (Err link.Failed) k2 h.2
hears_keep o l frag k (Err link.Misrouted) k2 h = message_keeps o l h.0 k (Err link.Misrouted) k2 h.2
hears_keep o l frag k (Err link.Marked) k2 h = message_keeps o l h.0 k (Err link.Marked) k2 h.2
hears_keep o l frag k (Ok answered) k2 h = message_keeps o l h.0 k (Ok answered) k2 h.2

says_keep : {S : Type 0} (w : SideRelations S) (l : ℕ) (k : TheCore) (p : S) (answer : MonitorWrite) (k2 : TheCore) (q : S) → MonitorWrites w.puts l (at_side k p) answer (at_side k2 q) → CoreKeeps k k2
says_keep w l k p said_as.Written k2 q h = core_board k k2 (ap (λ (x : TheCore). x.board) h.4)
says_keep w l k p said_as.Full k2 q h = core_same k k2 h.2
says_keep w l k p said_as.Spent k2 q h = core_same k k2 h.2
says_keep w l k p said_as.Nothing k2 q h = core_same k k2 h.1

asks_keep : (a : Asked) (k : TheCore) (answer : Result ℕ OpenFault) (k2 : TheCore) → Asks a k answer k2 → CoreKeeps k k2
asks_keep a k (Ok e) k2 h = keeps_adds k.board k2.board a.dispatcher e _ _ h.adds
asks_keep a k (Err (opening.Board fault)) k2 h = core_same k k2 h.1
asks_keep a k (Err (opening.Monitor fault)) k2 h = core_same k k2 h.2

pub does_keep : {S : Type 0} (w : SideRelations S) (log_entry : LogEntry) (s m : TheRun S) → Does w log_entry s m → CoreKeeps s.core m.core
does_keep w (looked n l answer) s m h = ahead_keeps w l.0 s.core h.before answer m.core h.after h.event
does_keep w (passed n k frag c Moved) s m h =
    keeps_then s.core.board h.0.core.board m.core.board (core_same s.core h.0.core h.1.event.1) (core_same h.0.core m.core h.2.event.1)
does_keep w (passed n k frag c Full) s m h = core_same s.core m.core h.event.1
does_keep w (passed n k frag c Spent) s m h = core_same s.core m.core h.event.1
does_keep w (arrived n l frag e answer) s m h = arrives_keeps w l.0 frag e s.core h.before answer m.core h.after h.event
does_keep w (heard n l frag answer) s m h = hears_keep s.offers l frag s.core answer m.core h.event.0
does_keep w (said n l answer) s m h = says_keep w l.0 s.core h.before answer m.core h.after h.event
does_keep w (told n l answer) s m h = core_same s.core m.core h.event.1
does_keep w (opened name request answer) s m h = asks_keep _ s.core answer m.core h.event.asks
does_keep w (called name c answer) s m h = keeps_end s.core.board m.core.board h.0 _ h.2.event.event
does_keep w (ruled name msg reply answer) s m h = keeps_end s.core.board m.core.board h.0 _ h.2.event.event
does_keep w (wrote name (outlet.Queue n) answer) s m h =
    keeps_then s.core.board h.2.event.wrote m.core.board (keeps_end s.core.board h.2.event.wrote h.0 _ h.2.event.writes) (keeps_triggers (woken_by s.core h.0 answer) h.2.event.wrote m.core.board h.2.event.triggers)
does_keep w (wrote name (outlet.Side n) answer) s m h =
    keeps_then s.core.board h.2.event.wrote m.core.board (keeps_end s.core.board h.2.event.wrote h.0 _ h.2.event.writes) (keeps_triggers (woken_by s.core h.0 answer) h.2.event.wrote m.core.board h.2.event.triggers)
does_keep w (acked name n answer) s m h = core_same s.core m.core h.2.event.1
does_keep w (turned d name (inlet.Queue n) answer) s m h = keeps_turn _ d h.0 _ (Ok answer) _ h.3.event.event
does_keep w (turned d name (inlet.Side n) answer) s m h = keeps_turn _ d h.0 _ (Ok answer) _ h.3.event.event
does_keep w (turned d name inlet.Arrivals answer) s m h = keeps_turn _ d h.0 _ (Ok answer) _ h.3.event.event
