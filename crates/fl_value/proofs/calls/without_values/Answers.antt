use Rattle.fl_value.proofs.calls.without_values.Goals as goal

pub returns-clause-call : goal.returns-clause-call
returns-clause-call c = (c.in-Some._name.now, c.in-Some.ensures.found.0, c.in-Some.ensures.found.1)
