use Rattle.fl_cores_parts.specs.Begins.{ends_from, words_of}
use Rattle.fl_cores_parts.proofs.Lists.{ends_done, words_done}
use Rattle.fl_cores_parts.proofs.wiring.ends_of.Goals as goal

pub returns-clause-ends : goal.returns-clause-ends
returns-clause-ends c =
    let bindings = c.args.bindings.now in
    ends_done c.args.core bindings c.loop-binding.binding c.loop-binding.ends.items (ends_from c.args.core 0 bindings) c.loop-binding-test.false c.loop-binding.invariant.0

pub returns-clause-words : goal.returns-clause-words
returns-clause-words c =
    let bindings = c.args.bindings.now in
    words_done c.args.core bindings c.loop-binding.binding c.loop-binding.words.items (words_of c.args.core bindings) c.loop-binding-test.false c.loop-binding.invariant.1
