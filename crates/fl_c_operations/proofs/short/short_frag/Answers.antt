use Rattle.std.proofs.Common.{rules}
use Rattle.fl_c_operations.proofs.Shorts.{own_by}
use Rattle.fl_c_operations.proofs.short.short_frag.Goals as goal

pub returns-clause-own : goal.returns-clause-own
returns-clause-own c = λ x h.
    own_by x c.args.circuit.0 c.in-Some.message c.in-Some.tape.now c.in-Some-encode.frag h.within (search rules)
    (c.in-Some-encode.ensures.exact x.plan x.interface c.in-Some.message (c.in-Some-codec_at.ensures.some x h))
