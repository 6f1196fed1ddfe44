use Rattle.std.proofs.Common.{sym, subst}
use Rattle.fl_compile.specs.Programs.{program_of}
use Rattle.fl_c_operations.specs.declared.unread.UnreadCall.{UnreadCall}
use Rattle.fl_c_operations.specs.Calls.{PutsNumbers}
use Rattle.fl_c_operations.specs.View.{numbers_unread}
use Rattle.fl_c_operations.proofs.unread.put_unread.Goals as goal

pub returns-in-Whole : goal.returns-in-Whole
returns-in-Whole c = record {
  puts = subst (λ (kept : UnreadCall). PutsNumbers (numbers_unread (program_of c.args.program.now) kept) c.args.room.now c.put_whole.result c.put_whole.new.room) (sym c.in-Whole.is) c.put_whole.ensures.puts;
}
