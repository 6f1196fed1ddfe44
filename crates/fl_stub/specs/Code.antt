-- What contracts see of verified code.
use Rattle.std.specs.Prelude.{List}
use Rattle.fl_stub.specs.declared.op.Op.{Op}
use Rattle.fl_stub.specs.declared.op.Column.{Column}
use Rattle.fl_stub.specs.Structure.{IsCode}
use Rattle.fl_stub.specs.Frames.{block_of}

pub record TheCode : Type 0 where
  pub column : Column
  pub ops : List Op

-- code with a structure
abbrev pub IsVerified : TheCode → Type 0
IsVerified code = IsCode code.column code.ops (block_of code.ops)
