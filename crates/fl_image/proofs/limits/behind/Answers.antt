use Rattle.std.proofs.Common.{◌∷◌, ◌*◌, sym, subst}
use Rattle.fl_interface.specs.Interface.{type_of, arg_type_of}
use Rattle.fl_interface.specs.declared.interface.ArgType.{ArgType}
use Rattle.fl_interface.specs.Sizes.{size_of}
use Rattle.fl_image.specs.Limits.{Near, Reaches}
use Rattle.fl_image.proofs.Caps.{reaches_counted, near_counted, capped}
use Rattle.fl_image.proofs.limits.behind.Goals as goal

pub returns-in-Fixed : goal.returns-in-Fixed
returns-in-Fixed c = record {
  reaches = λ left total r.
      c.behind_fixed.ensures.reaches (type_of c.in-Fixed.fixed) left total c.measure.ensures.measures
      (subst (λ (a : ArgType). Reaches c.args.before (arg_type_of a ∷ left) total) c.in-Fixed.is r);
}

pub returns-in-Text : goal.returns-in-Text
returns-in-Text c = record {
  reaches = λ left total r.
      let s = subst (λ (a : ArgType). Reaches c.args.before (arg_type_of a ∷ left) total) c.in-Text.is r in
      reaches_counted c.args.before c.behind_counted.result c.min.result c.in-Text.most left total (subst (λ n. Near n c.in-Text.most) (sym c.min.ensures) (capped c.in-Text.most)) s.aligned s.near c.behind_counted.ensures.end c.behind_counted.ensures.due;
}

pub returns-in-Sized : goal.returns-in-Sized
returns-in-Sized c = record {
  reaches = λ left total r.
      let t = type_of c.in-Sized.element in
      let s = subst (λ (a : ArgType). Reaches c.args.before (arg_type_of a ∷ left) total) c.in-Sized.is r in
      reaches_counted c.args.before c.behind_counted-in-Sized.result c.times.result (c.in-Sized.most * size_of t) left total (near_counted c.in-Sized.most c.times.result c.measure-in-Sized.result t c.measure-in-Sized.ensures.measures c.times.ensures.capped) s.aligned s.near c.behind_counted-in-Sized.ensures.end c.behind_counted-in-Sized.ensures.due;
}
