use Rattle.std.proofs.Common.{map, replicate}
use Rattle.fl_interface.specs.Interface.{sized, type_of}
use Rattle.fl_value_data.specs.Value.{datum_of, elements, data_from}
use Rattle.fl_value_data.specs.Taken.{ValueAt, ArgumentAt, InTurn, TheOne, NoneOf}
use Rattle.fl_value_data.proofs.Turns.{weaker_some, weaker_none, sized_one, sized_none}
use Rattle.fl_value_data.proofs.untape.read_sized.Goals as goal

pub returns-clause-found : goal.returns-clause-found
returns-clause-found c =
    weaker_some c.read_elements.result
    (λ r. TheOne (InTurn ValueAt (replicate c.in-Some.count (type_of c.args.element.now)) c.in-Some.elements.now) (map datum_of r.0.items) r.1.now)
    (λ r. TheOne (ArgumentAt (sized c.args.most (type_of c.args.element.now)) c.args.tape.now) (elements (data_from (map datum_of r.0.items))) r.1.now)
    (λ r one. sized_one c.args.most (type_of c.args.element.now) c.args.tape.now c.in-Some.count c.in-Some.elements.now (map datum_of r.0.items) r.1.now c.in-Some.ensures.found one)
    c.read_elements.ensures.found

pub returns-clause-none : goal.returns-clause-none
returns-clause-none c =
    weaker_none c.read_elements.result
    (NoneOf (InTurn ValueAt (replicate c.in-Some.count (type_of c.args.element.now)) c.in-Some.elements.now))
    (NoneOf (ArgumentAt (sized c.args.most (type_of c.args.element.now)) c.args.tape.now))
    (λ none. sized_none c.args.most (type_of c.args.element.now) c.args.tape.now c.in-Some.count c.in-Some.elements.now c.in-Some.ensures.found none)
    c.read_elements.ensures.none
