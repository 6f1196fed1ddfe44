use Rattle.std.proofs.Common.{◌≡◌, ◌∙◌, sym, ap, subst, List, ◌++◌, ◌∷◌, [], length, length-append, arith}
use Rattle.fl_machine.specs.Reassembling.{TheReassembly}
use Rattle.fl_core.specs.BoardView.{TheEndAtChannel}
use Rattle.fl_core.specs.BoardSound.{IsBoard}
use Rattle.fl_core.specs.BoardInside.{seat_with, seats_of, GoTogether}
use Rattle.fl_core.specs.contracts.seat.EndAtChannel.{the_view}
use Rattle.fl_core.proofs.Together.{last_place}
use Rattle.fl_core.proofs.Back.{last_below, back_as}
use Rattle.fl_core.proofs.one_board.Board.take_back.Goals as goal

pub index_mut-at-requires : goal.index_mut-at-requires
index_mut-at-requires c =
    let last = the_view c.seat.inside in
    let stored : c.self.inside.seats.items ≡ c.pop.new.self.items ++ last ∷ [] = c.in-Some.ensures.items ∙ ap (λ (x : TheEndAtChannel). c.pop.new.self.items ++ x ∷ []) (sym c.seat.view_is) in
    let place = last_place c.pop.new.self.items last c.self.inside.calls (subst (λ (x : List TheEndAtChannel). GoTogether x c.self.inside.calls) stored c.self.invariant.together) in
    let seats = ap (λ (x : List TheEndAtChannel). seats_of x c.self.inside.calls) stored ∙ place.seats_are in
    let below = last_below c.requires.before c.requires.place c.requires.dispatcher c.requires.end c.requires.kind c.requires.dispatcher_is _ (c.self.view_is ∙ c.requires.board) (seats_of c.pop.new.self.items place.rest) (seat_with last place.call.parts) seats in
    omega (arith, below, c.self.inside.dispatchers.ok.0)

pub take_back-requires : goal.take_back-requires
take_back-requires c =
    let last = the_view c.seat.inside in
    let stored : c.self.inside.seats.items ≡ c.pop.new.self.items ++ last ∷ [] = c.in-Some.ensures.items ∙ ap (λ (x : TheEndAtChannel). c.pop.new.self.items ++ x ∷ []) (sym c.seat.view_is) in
    let place = last_place c.pop.new.self.items last c.self.inside.calls (subst (λ (x : List TheEndAtChannel). GoTogether x c.self.inside.calls) stored c.self.invariant.together) in
    let seats = ap (λ (x : List TheEndAtChannel). seats_of x c.self.inside.calls) stored ∙ place.seats_are in
    record { some = omega (arith, ap length place.calls_are, length-append place.rest (place.call ∷ [])) }

pub invariant_of-self : goal.invariant_of-self
invariant_of-self c =
    let last = the_view c.seat.inside in
    let stored : c.self.inside.seats.items ≡ c.pop.new.self.items ++ last ∷ [] = c.in-Some.ensures.items ∙ ap (λ (x : TheEndAtChannel). c.pop.new.self.items ++ x ∷ []) (sym c.seat.view_is) in
    let place = last_place c.pop.new.self.items last c.self.inside.calls (subst (λ (x : List TheEndAtChannel). GoTogether x c.self.inside.calls) stored c.self.invariant.together) in
    let seats = ap (λ (x : List TheEndAtChannel). seats_of x c.self.inside.calls) stored ∙ place.seats_are in
    let calls = c.take_back.ensures.before place.rest place.call place.calls_are in
    let before = back_as c.requires.before c.requires.place c.requires.dispatcher c.requires.end c.requires.kind c.requires.dispatcher_is _ (c.self.view_is ∙ c.requires.board) (seats_of c.pop.new.self.items place.rest) (seat_with last place.call.parts) seats _ _ c.index_mut-at.ensures.value c.at.view_is c.pop-2.new.self.items _ c.at.inside.ends.ok.0 c.pop-2.ensures.rest (seats_of c.pop.new.self.items c.take_back.new.self) (ap (λ (x : List TheReassembly). seats_of c.pop.new.self.items x) calls) in
    record {
      board = subst IsBoard (sym before) c.requires.sound;
      together = subst (λ (x : List TheReassembly). GoTogether c.pop.new.self.items x) (sym calls) place.together;
    }

pub returns : goal.returns
returns c = record {
  before = λ k n d s kind at grown.
      let last = the_view c.seat.inside in
      let stored : c.self.inside.seats.items ≡ c.pop.new.self.items ++ last ∷ [] = c.in-Some.ensures.items ∙ ap (λ (x : TheEndAtChannel). c.pop.new.self.items ++ x ∷ []) (sym c.seat.view_is) in
      let place = last_place c.pop.new.self.items last c.self.inside.calls (subst (λ (x : List TheEndAtChannel). GoTogether x c.self.inside.calls) stored c.self.invariant.together) in
      let seats = ap (λ (x : List TheEndAtChannel). seats_of x c.self.inside.calls) stored ∙ place.seats_are in
      let calls = c.take_back.ensures.before place.rest place.call place.calls_are in
      back_as k n d s kind at _ (c.self.view_is ∙ grown) (seats_of c.pop.new.self.items place.rest) (seat_with last place.call.parts) seats _ _ c.index_mut-at.ensures.value c.at.view_is c.pop-2.new.self.items _ c.at.inside.ends.ok.0 c.pop-2.ensures.rest (seats_of c.pop.new.self.items c.take_back.new.self) (ap (λ (x : List TheReassembly). seats_of c.pop.new.self.items x) calls);
}
