use Rattle.std.proofs.Common.{◌≡◌, ◌++◌, drop}
use Rattle.std.specs.List.{flat_map}
use Rattle.fl_image.specs.Image.{op_image, code_image}
use Rattle.fl_image.proofs.writer.put_code.Given as goal

abbrev pub invariant-loop-op : goal.invariant-loop-op
invariant-loop-op l = l.out.items ++ flat_map op_image (drop l.op-index l.ops) ≡ l.fn.out.items ++ code_image l.ops
