-- An event over an arrival queue that is refused: core and queue are as they were. k is the core before, and base the same by its fields.
use Rattle.std.proofs.Common.{◌≡◌, refl, sym, ap, ◌∙◌, subst, ℕ, ◌<◌, List, length, slice_get, slice_set, slice_index_or, Some, Result, Ok, Err, OnErr}
use Rattle.std.proofs.lemmas.Option.{slice_get_read}
use Rattle.std.specs.declared.alloc.AllocError.{AllocError}
use Rattle.fl_waitset.specs.declared.waitset.Pick.{Pick}
use Rattle.fl_waitset.specs.declared.waitset.Pick.TheVariants as pick
use Rattle.fl_link.specs.Queue.{TheQueue, QueueTakes}
use Rattle.fl_core.specs.declared.kind.ChannelKind.{ChannelKind}
use Rattle.fl_core.specs.declared.turn_answer.TurnAnswer.{TurnAnswer}
use Rattle.fl_core.specs.declared.board_fault.BoardFault.{BoardFault}
use Rattle.fl_core.specs.declared.board_fault.BoardFault.TheVariants.{NotBound, Registered, NotRegistered, TooManyEnds, Failed, Memory}
use Rattle.fl_core.specs.BoardView.{TheEndAtChannel, TheBoard}
use Rattle.fl_core.specs.BoardEvents.{Registers}
use Rattle.fl_core.specs.BoardTurns.{EndMoment, BoardAndSide, ListsAndSide, LooksAt, over, Turns}
use Rattle.fl_core.proofs.BoardPlaces.{set_same}
use Rattle.fl_core.specs.View.{TheCore}
use Rattle.fl_core.specs.Ends.{RegistersAt}

-- a turn that wants memory has only looked at the queue
looked : (picked : Pick) (kind : ChannelKind) (a b : EndMoment TheQueue) (error : AllocError) → LooksAt QueueTakes picked kind a (Err error) b → b.side ≡ a.side
looked (pick.Pending c) kind a b error h = h.0.1.2.1
looked (pick.Polled c) kind a b error h = absurd h.0

pub turn_unmoved : (n e : ℕ) (a b : BoardAndSide TheQueue) (r : Result TurnAnswer AllocError) → Turns QueueTakes n e a r b → OnErr r (b.side ≡ a.side)
turn_unmoved n e a b (Ok answer) h = tt
turn_unmoved n e a b (Err error) h =
    looked h.picked h.seat.kind (record { lists = h.dispatcher.lists; end = h.seat.end; side = a.side }) (record { lists = h.lists; end = h.end; side = b.side }) error h.looks

-- a channel that isn't registered has not looked at it
refused : (s : TheEndAtChannel) (a b : ListsAndSide TheQueue) (fault : BoardFault) → Registers QueueTakes s a (Err fault) b → b.side ≡ a.side
refused s a b Registered h = h.1.1
refused s a b NotBound h = h.1
refused s a b Failed h = h.1
refused s a b NotRegistered h = absurd h
refused s a b TooManyEnds h = absurd h
refused s a b Memory h = absurd h

pub register_unmoved : (e : ℕ) (r : Result (Unit {0}) BoardFault) (b c : TheBoard) (p q : TheQueue) → RegistersAt QueueTakes e (over b p) r (over c q) → OnErr r (q ≡ p)
register_unmoved e (Ok done) b c p q h = tt
register_unmoved e (Err fault) b c p q h =
    refused h.seat (record { lists = h.dispatcher.lists; side = p }) (record { lists = h.lists; side = q }) fault h.event

-- so the core is the one before
pub kept_over : {X E : Type 0} (k base : TheCore) → base ≡ k → (r : Result X E) (a : ℕ) → a < length k.arrivals → (p read q : TheQueue) → read ≡ slice_index_or base.arrivals a read → p ≡ read
    → (b : TheBoard) → OnErr r (b ≡ base.board) → OnErr r (q ≡ p) → OnErr r (record base { board = b; arrivals = slice_set base.arrivals a q } ≡ k)
kept_over k base same (Ok x) a below p read q value view b board queue = tt
kept_over k base same (Err fault) a below p read q value view b board queue =
    let at : slice_get base.arrivals a ≡ Some p
    = slice_get_read base.arrivals (length base.arrivals) a read refl (subst (λ (x : TheCore). a < length x.arrivals) (sym same) below) value ∙ ap Some (sym view) in
    ap (λ (x : TheBoard). record base { board = x; arrivals = slice_set base.arrivals a q }) board
    ∙ ap (λ (x : TheQueue). record base { arrivals = slice_set base.arrivals a x }) queue
    ∙ ap (λ (xs : List TheQueue). record base { arrivals = xs }) (set_same base.arrivals a p at)
    ∙ same
