use Rattle.std.proofs.Common.{map}
use Rattle.fl_interface.specs.Interface.{arg_type_of}
use Rattle.fl_interface.proofs.SameTypes.{tests_same}
use Rattle.fl_interface.proofs.same.same_args.Goals as goal

pub returns-clause-test : goal.returns-clause-test
returns-clause-test c =
    tests_same c.same_each.result (map arg_type_of c.args.ones.now) (map arg_type_of c.args.others.now) c.same_each.ensures.exact
