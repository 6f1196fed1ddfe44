-- Memory is wanting in a turn only where that handles a call.
use Rattle.std.proofs.Common.{◌≡◌, refl, ap, ◌∙◌, ℕ, Ok, Err}
use Rattle.std.specs.declared.alloc.AllocError.{AllocError}
use Rattle.fl_base.specs.declared.identity.ChanId.{ChanId}
use Rattle.fl_lists.specs.ThreeLists.{ThreeLists}
use Rattle.fl_waitset.specs.declared.waitset.Pick.{Pick}
use Rattle.fl_waitset.specs.declared.waitset.Pick.TheVariants as pick
use Rattle.fl_link.specs.Looks.{Look}
use Rattle.fl_endpoint.specs.View.{TheEnd}
use Rattle.fl_core.specs.declared.kind.ChannelKind.{ChannelKind}
use Rattle.fl_core.specs.BoardView.{TheBoard}
use Rattle.fl_core.specs.BoardTurns.{moment, over, LooksAt, Turns}
use Rattle.fl_world_events.specs.Wants.{MakesWhole, HandlesCall}

-- the pick was a pending channel, and what its end is given makes a call whole
record Given {T : Type 0} (takes : T → Look → T → Type 0) (picked : Pick) (s : TheEnd) (p : T) : Type 0 where
  pub channel : ChanId
  pub picked_is : picked ≡ pick.Pending channel
  pub whole : MakesWhole takes p s

without_memory : {T : Type 0} (takes : T → Look → T → Type 0) (kind : ChannelKind) (w v : ThreeLists) (s t : TheEnd) (p q : T) (picked : Pick) (error : AllocError)
    → LooksAt takes picked kind (moment w s p) (Err error) (moment v t q) → Given takes picked s p
without_memory takes kind w v s t p q (pick.Pending c) error h =
    record { channel = c; picked_is = refl; whole = (h.0.0, (h.0.1.0, q, h.0.1.2, h.0.1.3.0)) }
without_memory takes kind w v s t p q (pick.Polled c) error h = absurd h.0

pub handles_call : {T : Type 0} (takes : T → Look → T → Type 0) (d e : ℕ) (b c : TheBoard) (p q : T) (error : AllocError)
    → Turns takes d e (over b p) (Err error) (over c q) → HandlesCall takes d e b p
handles_call takes d e b c p q error turn =
    let it = without_memory takes turn.seat.kind turn.dispatcher.lists turn.lists turn.seat.end turn.end p q turn.picked error turn.looks in
    record {
      pending = record {
        dispatcher = turn.dispatcher;
        dispatcher_is = turn.dispatcher_is;
        channel = it.channel;
        picks = turn.picked_is ∙ ap Ok it.picked_is;
      };
      whole = (turn.seat, turn.seat_is, it.whole);
    }
