-- Working file: arguments by their types, and what is appended for one.
use Rattle.std.specs.Prelude.{◌≡◌, List, ◌∷◌, ◌++◌, map}
use Rattle.std.specs.Borrow.{Bor}
use Rattle.fl_interface.specs.declared.interface.ArgType.{ArgType}
use Rattle.fl_interface.specs.Interface.{TheArgType, arg_type_of}
use Rattle.fl_stub.specs.declared.op.Op.{Op}
use Rattle.fl_stub.specs.declared.op.Column.{Column}
use Rattle.fl_stub.specs.Structure.{block_ops}
use Rattle.fl_compile.specs.declared.arguments.ArgOffset.{ArgOffset}
use Rattle.fl_compile.specs.Compiled.{arguments_block}

abbrev pub types_in : List (Bor ArgType) → List TheArgType
types_in args = map (λ (a : Bor ArgType). arg_type_of a.now) args

-- the code of an argument is appended: that of those behind it goes on from the second standing
abbrev pub Appends : Column → ArgOffset → TheArgType → ArgOffset → List Op → List Op → Type 0
Appends column standing t after old new = (args : List TheArgType)
    → new ++ block_ops column (arguments_block column after args) ≡ old ++ block_ops column (arguments_block column standing (t ∷ args))
