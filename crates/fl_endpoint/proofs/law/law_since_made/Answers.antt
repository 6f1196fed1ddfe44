use Rattle.std.proofs.Common.{sym, arith}
use Rattle.fl_compile.specs.Programs.{program_of}
use Rattle.fl_endpoint.specs.Accounts.{stream}
use Rattle.fl_endpoint.specs.Laws.{SinceMade}
use Rattle.fl_endpoint.proofs.Streams.{bare_stream}
use Rattle.fl_endpoint.proofs.law.law_since_made.Goals as goal

since : SinceMade
since program circuit t h sound a = record {
  sent = sym a.sends;
  wait = sym a.waits;
  read = record {
    whole = stream (program_of t.program) 0 h.handled;
    joined = a.gives;
    fit = a.handled_fit;
    mean = bare_stream (program_of t.program) 0 h.handled (omega arith) sound.within a.handled_fit;
    part = sound.part;
  };
}

pub returns : goal.returns
returns c = record { since = since }
