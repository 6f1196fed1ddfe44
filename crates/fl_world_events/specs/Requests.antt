-- What is so before a binding is made: ends that a core lacks, and dispatchers that it has.
use Rattle.std.specs.Prelude.{ℕ, ◌≡◌, ◌<◌, List, length, slice_get, Some, None}
use Rattle.fl_compile.specs.declared.program.Program.{Program}
use Rattle.fl_compile.specs.Programs.{program_of}
use Rattle.fl_endpoint.specs.View.{TheEnd, fresh}
use Rattle.fl_core.specs.View.{TheCore, place_of, client_of, server_of}
use Rattle.fl_model.specs.Events.{DispatcherId}

-- ---- ends that are there

-- neither end of binding n is at the core
pub record IsNewIn (n : ℕ) (k : TheCore) : Type 0 where
  pub client : place_of k (client_of n) ≡ None
  pub server : place_of k (server_of n) ≡ None

-- ---- dispatchers that are there

-- there is such a dispatcher
pub record HasDispatcher (cores : List TheCore) (d : DispatcherId) : Type 0 where
  pub core : TheCore
  pub core_is : slice_get cores d.core ≡ Some core
  pub there : d.place < length core.board.dispatchers

-- ---- ends that are made

-- a new end with a copy of a program, bound to circuit 0
pub record IsNewEndOf (p : Program) (s : TheEnd) : Type 0 where
  pub copy : Program
  pub copy_is : program_of copy ≡ program_of p
  pub end : s ≡ fresh copy (Some 0)
