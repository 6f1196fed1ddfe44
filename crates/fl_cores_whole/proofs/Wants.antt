-- A world's turns want memory for just what a running core's turns want it for.
use Rattle.fl_link.specs.Looks.{Look}
use Rattle.fl_cores_whole.specs.Wants.{TurnsWantAlike}

pub turns_want_alike : {T : Type 0} (takes : T → Look → T → Type 0) → TurnsWantAlike takes
turns_want_alike takes = record {
  of_world = λ d e b p h. (
    record {
      dispatcher = h.pending.dispatcher;
      dispatcher_is = h.pending.dispatcher_is;
      channel = h.pending.channel;
      picks = h.pending.picks;
    },
    h.whole,
  );
  of_core = λ d e b p pending whole. record {
    pending = record {
      dispatcher = pending.dispatcher;
      dispatcher_is = pending.dispatcher_is;
      channel = pending.channel;
      picks = pending.picks;
    };
    whole = whole;
  };
}
