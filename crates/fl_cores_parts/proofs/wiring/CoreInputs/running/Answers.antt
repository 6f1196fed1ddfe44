use Rattle.std.proofs.Common.{refl}
use Rattle.fl_cores_parts.proofs.wiring.CoreInputs.running.Goals as goal

pub returns : goal.returns
returns c =
    let made = c.in_ok-outfit.ensures in
    record {
      core = rw c.in_ok-new.ensures.ok refl;
      rings = rw c.in_ok-new.ensures.ok refl;
      queues = rw c.in_ok-new.ensures.ok refl;
      progresses = rw c.in_ok-new.ensures.ok made.progresses;
      names = rw c.in_ok-new.ensures.ok made.names;
      programs = rw c.in_ok-new.ensures.ok made.programs;
    }
