use Rattle.std.proofs.Common.{◌≡◌, ◌*◌, ◌++◌, map, drop, true}
use Rattle.fl_interface.specs.Interface.{arg_type_of}
use Rattle.fl_interface.specs.Limits.{are_arguments_within}
use Rattle.fl_stub.specs.Structure.{block_ops}
use Rattle.fl_compile.specs.declared.arguments.ArgOffset.TheVariants.{At}
use Rattle.fl_compile.specs.Compiled.{arguments_block}
use Rattle.fl_compile.specs.Standings.{StandsBy}
use Rattle.fl_compile.proofs.arguments.arguments_code.Given as goal

abbrev pub invariant-loop-argument : goal.invariant-loop-argument
invariant-loop-argument l =
    let rest = map (λ a. arg_type_of a.now) (drop l.argument-index l.arguments) in
    record {
      written : l.ops.items ++ block_ops l.column (arguments_block l.column l.standing rest) ≡ block_ops l.column (arguments_block l.column (At 0) (map (λ a. arg_type_of a.now) l.arguments));
      within : are_arguments_within rest ≡ true;
      near : StandsBy (4104 * l.argument-index) l.standing;
    }
