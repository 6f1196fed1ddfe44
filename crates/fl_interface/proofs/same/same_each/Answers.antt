use Rattle.std.proofs.lemmas.Bool.{false≢true}
use Rattle.std.proofs.lemmas.Slice.Zip.{zip_turn}
use Rattle.fl_interface.specs.Interface.{arg_type_of}
use Rattle.fl_interface.proofs.Sames.{same_there}
use Rattle.fl_interface.proofs.same.same_each.Goals as goal

pub returns-then-not-same_arg : goal.returns-then-not-same_arg
returns-then-not-same_arg c =
    let z = zip_turn c.args.ones.now c.args.others.now c.loop-one.yielded c.into_iter-one-iterator.result c.loop-one.one-iterator c.next.new.self _ (cc) (cc) c.loop-one.yielded_by _ c.in-Some.is c.next.ensures.steps in
    record { exact = (λ e. absurd (false≢true e), λ e. c.if-not-same_arg.ensures.exact.1 (same_there arg_type_of c.args.ones.now c.args.others.now _ c.in-Some.one.now c.in-Some.other.now z.0 z.1 z.2 z.3 e)) }
