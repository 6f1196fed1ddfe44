use Rattle.std.proofs.Common.{arith}
use Rattle.fl_cores_file.proofs.Lists.{in_place}
use Rattle.fl_cores_file.proofs.file.are_places.Goals as goal

pub returns : goal.returns
returns c = record { places = λ _ place. in_place c.args.numbers.now place (λ k below. c.loop-place.invariant k (omega arith)) }
