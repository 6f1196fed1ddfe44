use Rattle.std.proofs.Common.{ℕ, List, ◌∷◌, subst}
use Rattle.fl_c_operations.specs.Calls.{PutsNumbers}
use Rattle.fl_c_operations.proofs.unread.put_short.Goals as goal

pub returns : goal.returns
returns c = record {
  puts = subst (λ (tape : List ℕ). PutsNumbers (c.args.call.now.msg.0 ∷ tape) c.args.room.now c.put_tape.result c.put_tape.new.room) c.tape.ensures.tape c.put_tape.ensures.puts;
}
