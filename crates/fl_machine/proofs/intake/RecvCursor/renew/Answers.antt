use Rattle.std.proofs.Common.{refl, inl, [], arith}
use Rattle.fl_stub.specs.Frames.{block_of}
use Rattle.fl_stub.proofs.Stances.{first_stance, first_reach}
use Rattle.fl_machine.proofs.intake.RecvCursor.renew.Goals as goal

pub returns-clause-stands : goal.returns-clause-stands
returns-clause-stands c ops code = record {
  at = record {
    done = [];
    stance = first_stance ops (block_of ops) code;
    phase = refl;
    reach = first_reach ops code;
    waiting = inl (refl, refl);
    bytes_are = refl;
    quiet = λ busy. absurd (busy refl);
  };
  shows = record { each = λ p inside. absurd (omega (arith, inside)) };
}
