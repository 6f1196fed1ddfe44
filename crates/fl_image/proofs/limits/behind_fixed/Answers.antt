use Rattle.std.proofs.Common.{◌+◌, refl}
use Rattle.fl_image.proofs.Caps.{reaches_fixed}
use Rattle.fl_image.proofs.limits.behind_fixed.Goals as goal

pub returns : goal.returns
returns c = record { reaches = λ t left total h r. reaches_fixed c.args.before (record { end = c.min.result; due = 1 }) c.args.measured c.max.result c.next_multiple_of.result (c.next_multiple_of.result + c.args.measured.size) t left total h r c.max.ensures c.next_multiple_of.ensures.value refl c.min.ensures refl }
