use Rattle.std.proofs.Common.{map, ap, refl, arith}
use Rattle.std.proofs.lemmas.Result.{err_from_is_err_and}
use Rattle.fl_interface.specs.Interface.{scalar}
use Rattle.fl_value_data.specs.Value.{datum_of}
use Rattle.fl_wire.proofs.Parts.{pushed, elements_on, elements_stop, elements_end}
use Rattle.fl_wire.proofs.Wides.{elements_start}
use Rattle.fl_wire.proofs.value.read_each_scalar.Goals as goal

pub loop-index-init : goal.loop-index-init
loop-index-init c = record {
  within = c.requires.within;
  later = omega arith;
  come = elements_start c.args.count 0 (scalar c.args.kind) c.args.frags.now c.args.at c.args.at (map datum_of c.in_ok-values.values.items) refl refl (ap (map datum_of) c.in_ok-values.ensures.items) c.requires.within;
}

pub returns-in_err-value-clause-stop : goal.returns-in_err-value-clause-stop
returns-in_err-value-clause-stop c =
    let p = err_from_is_err_and c.from_residual-in_err-value.result c.from_residual-in_err-value.ensures.1 in
    rw (p.1, p.2) (elements_stop c.args.count c.loop-index._index (scalar c.args.kind) c.args.frags.now c.args.at c.loop-index.end (map datum_of c.loop-index.values.items) c.in_err-value.field-0.0 c.loop-index-test.true
    c.loop-index.invariant.come c.in_err-value.ensures.stop)

pub loop-index-preserved : goal.loop-index-preserved
loop-index-preserved c = record {
  within = c.in_ok-value.ensures.within;
  later = omega (arith, c.loop-index.invariant.later, c.in_ok-value.ensures.later);
  come = elements_on c.args.count c.loop-index._index (scalar c.args.kind) c.args.frags.now c.args.at c.loop-index.end c.in_ok-value.after (map datum_of c.loop-index.values.items) (map datum_of c.push.new.self.items)
      (datum_of c.in_ok-value.value) c.loop-index-test.true c.loop-index.invariant.come c.in_ok-value.ensures.later c.in_ok-value.ensures.within c.in_ok-value.ensures.read
      (pushed datum_of c.loop-index.values.items c.push.new.self.items c.in_ok-value.value c.in_ok-push.ensures.items);
}

pub returns-clause-read : goal.returns-clause-read
returns-clause-read c = elements_end c.args.count c.loop-index._index (scalar c.args.kind) c.args.frags.now c.args.at c.loop-index.end (map datum_of c.loop-index.values.items) c.loop-index-test.false c.loop-index.invariant.come
