use Rattle.fl_image.proofs.Caps.{one_more}
use Rattle.fl_image.proofs.limits.with_field.Goals as goal

pub returns : goal.returns
returns c = record { so_far = λ t left all h f. one_more c.args.so_far c.args.next (record { size = c.min.result; align = c.max.result; depth = c.max-2.result; arrays = c.max-3.result }) c.next_multiple_of.result t left all h f c.next_multiple_of.ensures.value c.min.ensures c.max.ensures c.max-2.ensures c.max-3.ensures }
