use Rattle.std.proofs.Common.{refl}
use Rattle.fl_image.proofs.Caps.{measures_array}
use Rattle.fl_image.proofs.limits.of_array.Goals as goal

pub returns : goal.returns
returns c = record { measures = λ t h. measures_array c.args.count c.args.element (record { size = c.times.result; align = c.args.element.align; depth = c.min.result; arrays = c.min-2.result }) t h c.times.ensures.capped refl c.min.ensures c.min-2.ensures }
