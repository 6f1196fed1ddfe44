use Rattle.std.proofs.Common.{List, [], ◌∙◌, refl, sym, subst}
use Rattle.fl_machine.specs.Reassembling.{TheReassembly}
use Rattle.fl_endpoint.specs.View.{TheEnd}
use Rattle.fl_endpoint.specs.Lent.{AddsPlace}
use Rattle.fl_c_operations.proofs.end.HeldEnd.new.Goals as goal

pub returns : goal.returns
returns c =
    let adds = λ (calls : List TheReassembly). AddsPlace c.in_ok-end.end calls c.add_place.new.calls in
    let placed = subst adds c.new-calls.ensures.none c.in_ok-add_place.ensures.added in
    record {
      made = (c.in_ok-transmitting.ensures.same ∙ c.in_ok-end.ensures.made, c.new-3.ensures.side, subst (λ (e : TheEnd). AddsPlace e [] c.add_place.new.calls) (sym c.in_ok-transmitting.ensures.same) placed, refl);
    }
