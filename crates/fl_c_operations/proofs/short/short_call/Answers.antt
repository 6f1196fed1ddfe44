use Rattle.std.proofs.Common.{◌∙◌}
use Rattle.fl_c_operations.proofs.Shorts.{no_frag}
use Rattle.fl_c_operations.proofs.short.short_call.Goals as goal

pub returns-in_default-decode-clause-none : goal.returns-in_default-decode-clause-none
returns-in_default-decode-clause-none c = λ x h.
    no_frag x c.args.frag.now c.from.result h.within (c.from.ensures ∙ c.msg-msg.ensures)
    (c.in_default-decode.ensures.exact x.plan x.interface c.from.result (c.in-Some.ensures.some x h))
