use Rattle.std.proofs.Common.{refl, subst}
use Rattle.fl_c_operations.proofs.Coded.{IsCodecAt, coded_at}
use Rattle.fl_c_operations.proofs.codecs.codec_at.Goals as goal

pub returns-in-Some-kept-clause-some : goal.returns-in-Some-kept-clause-some
returns-in-Some-kept-clause-some c = λ x h.
    subst (IsCodecAt x c.args.message) c.in-Some-kept.is
    (coded_at x c.args.codecs.now c.args.message c.args.message c.in-Some.kept.now h refl c.in-Some.ensures.lookup.0 c.in-Some.ensures.lookup.1)

pub returns-in-None-clause-none : goal.returns-in-None-clause-none
returns-in-None-clause-none c = λ x h.
    subst (IsCodecAt x c.args.message) c.in-None.is
    (coded_at x c.args.codecs.now c.args.message c.args.message c.in-Some.kept.now h refl c.in-Some.ensures.lookup.0 c.in-Some.ensures.lookup.1)
