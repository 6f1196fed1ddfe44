use Rattle.std.proofs.Common.{◌≡◌, ◌++◌, map, drop}
use Rattle.fl_interface.specs.Interface.{type_of, fields_from}
use Rattle.fl_interface.specs.Sizes.{greatest_align}
use Rattle.fl_stub.specs.Structure.{finished, block_ops}
use Rattle.fl_compile.specs.Compiled.{fields_then}
use Rattle.fl_compile.proofs.Measures.{Before}
use Rattle.fl_compile.proofs.types.+types.Given as goal

abbrev pub invariant-push_fields-loop-field : goal.invariant-push_fields-loop-field
invariant-push_fields-loop-field l =
    let all = fields_from (map type_of l.fields) in
    record {
      known : Before type_of l.fields l.field-index l.at;
      written : l.ops.items ++ block_ops l.column (fields_then l.column (greatest_align all) l.at (fields_from (map type_of (drop l.field-index l.fields))) finished)
          ≡ l.fn.ops.items ++ block_ops l.column (fields_then l.column (greatest_align all) 0 all finished);
    }
