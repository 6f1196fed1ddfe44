use Rattle.std.proofs.Common.{map}
use Rattle.fl_value_data.specs.Value.{datum_of}
use Rattle.fl_layout.proofs.Fixed.{fixed_length_is}
use Rattle.fl_layout.proofs.arrange.MessagePlan.length_with.Goals as goal

pub returns-in-Some : goal.returns-in-Some
returns-in-Some c = record { exact = fixed_length_is (map datum_of c.args.values.now) c.args.self.now.placed.items c.in-Some.length (c.args.self.now.alike c.in-Some.length c.in-Some.is) }
