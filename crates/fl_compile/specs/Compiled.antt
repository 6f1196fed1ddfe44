-- The compiler's code, by structure: of a type, of an argument after what stands before it, of a message under a
-- plan. Each block is given with what follows it, so that nothing has to be joined.
use Rattle.std.specs.Prelude.{ℕ, ◌+◌, ◌-◌, ◌==◌, if◌then◌else◌, List, [], ◌∷◌, ◌++◌}
use Rattle.fl_interface.specs.declared.interface.Scalar.{Scalar}
use Rattle.fl_interface.specs.declared.interface.Scalar.TheVariants.{Bool as BoolType, Char}
use Rattle.fl_interface.specs.Interface.{TheType, scalar, enumeration, structure, array, TheTypes, no_more, field, TheArgType, fixed, text, sized, TheMessage}
use Rattle.fl_interface.specs.Sizes.{round_up, scalar_size, align_of, greatest_align, size_of}
use Rattle.fl_value_data.specs.declared.value.PlanNo.{PlanNo}
use Rattle.fl_value_data.specs.Plan.{arranged}
use Rattle.fl_stub.specs.declared.op.Op.{Op}
use Rattle.fl_stub.specs.declared.op.Op.TheVariants.{Emit, Pad, Align, Read, ReadBool, ReadEnum, ReadChar, Skip, ReadText}
use Rattle.fl_stub.specs.declared.op.Column.{Column}
use Rattle.fl_stub.specs.declared.op.Column.TheVariants.{Send, Receive}
use Rattle.fl_stub.specs.Structure.{one, times, counted, Block, finished, next, block_ops, last_op}
use Rattle.fl_compile.specs.declared.arguments.ArgOffset.{ArgOffset}
use Rattle.fl_compile.specs.declared.arguments.ArgOffset.TheVariants.{At, AfterDynamic}

-- ---- instructions

abbrev pub scalar_op : Column → Scalar → Op
scalar_op Send s = Emit (scalar_size s)
scalar_op Receive BoolType = ReadBool
scalar_op Receive Char = ReadChar
scalar_op Receive s = Read (scalar_size s)

abbrev pub enum_op : Column → ℕ → Op
enum_op Send count = Emit 4
enum_op Receive count = ReadEnum count

-- a byte of a string
abbrev pub text_op : Column → Op
text_op Send = Emit 1
text_op Receive = ReadText

abbrev pub pad_op : Column → ℕ → Op
pad_op Send count = Pad count
pad_op Receive count = Skip count

-- ---- blocks

-- the bytes that are missing up to the next multiple of an alignment
abbrev pub padding : ℕ → ℕ → ℕ
padding at align = round_up at align - at

-- so many zeros, where there are any, and then the rest
abbrev pub zeros_then : Column → ℕ → Block → Block
zeros_then column count rest = if count == 0 then rest else next (one (pad_op column count)) rest

abbrev mutual
  -- a value of a type, and then the rest
  pub type_then : Column → TheType → Block → Block
  type_then column (scalar s) rest = next (one (scalar_op column s)) rest
  type_then column (enumeration count) rest = next (one (enum_op column count)) rest
  type_then column (structure ts) rest = fields_then column (greatest_align ts) 0 ts rest
  type_then column (array count t) rest = next (times count (type_then column t finished)) rest

  -- the last fields of a struct of that alignment, which may begin so many bytes after its start; zeros up to its
  -- end; and then the rest
  pub fields_then : Column → ℕ → ℕ → TheTypes → Block → Block
  fields_then column align at no_more rest = zeros_then column (padding at align) rest
  fields_then column align at (field t ts) rest =
      zeros_then column (padding at (align_of t)) (type_then column t (fields_then column align (round_up at (align_of t) + size_of t) ts rest))

-- where a fixed argument begins
abbrev pub start_at : ArgOffset → ℕ → ℕ
start_at (At at) align = round_up at align
start_at AfterDynamic align = 0

-- zeros up to a fixed argument's alignment, and then the rest
abbrev pub start_then : Column → ArgOffset → ℕ → Block → Block
start_then column (At at) align rest = zeros_then column (padding at align) rest
start_then column AfterDynamic align rest = next (one Align) rest

-- a length of at most so many, and as many elements; and then the rest
abbrev pub counted_then : ℕ → Block → Block → Block
counted_then most element rest = next (one Align) (next (counted most element) rest)

-- arguments one after another
abbrev pub arguments_block : Column → ArgOffset → List TheArgType → Block
arguments_block column standing [] = finished
arguments_block column standing (fixed t ∷ args) =
    start_then column standing (align_of t) (type_then column t (arguments_block column (At (start_at standing (align_of t) + size_of t)) args))
arguments_block column standing (text most ∷ args) =
    counted_then most (next (one (text_op column)) finished) (arguments_block column AfterDynamic args)
arguments_block column standing (sized most t ∷ args) =
    counted_then most (type_then column t finished) (arguments_block column AfterDynamic args)

-- the arguments' types of a message, in the plan's order
abbrev pub in_order : PlanNo → TheMessage → List TheArgType
in_order plan m = arranged (λ (t : TheArgType). t) plan m.args

abbrev pub message_block : Column → PlanNo → TheMessage → Block
message_block column plan m = arguments_block column (At 0) (in_order plan m)

-- the code of arguments that are all of a payload, in their order there
abbrev pub arguments_code : Column → List TheArgType → List Op
arguments_code column args = block_ops column (arguments_block column (At 0) args) ++ last_op column ∷ []

-- the compiler's code of a message
abbrev pub message_code : Column → PlanNo → TheMessage → List Op
message_code column plan m = arguments_code column (in_order plan m)
