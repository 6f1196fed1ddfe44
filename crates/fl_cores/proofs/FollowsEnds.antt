-- An end of the first cut is the machine's behind the set-up.
use Rattle.std.proofs.Common.{◌≡◌, refl, sym, ◌∙◌, ap, ℕ, zero, suc, List, [], ◌∷◌, slice_get, Option, Some, None}
use Rattle.fl_base.specs.declared.identity.EndId.{EndId}
use Rattle.fl_base.specs.declared.identity.Side.{Side}
use Rattle.fl_base.specs.declared.identity.Side.TheVariants.{Client, Server}
use Rattle.fl_base.specs.Given.{given}
use Rattle.fl_core.specs.BoardView.{TheEndAtChannel}
use Rattle.fl_core.specs.declared.wiring.WiredEnd.{WiredEnd}
use Rattle.fl_core.specs.View.{TheCore, place_of}
use Rattle.fl_model.specs.Calls.{Planned}
use Rattle.fl_model.specs.Ends.{Direction, fresh_direction, Seat, End}
use Rattle.fl_model.specs.State.{Binding, State, end_in}
use Rattle.fl_world_refines.specs.Ends.{planned_of}
use Rattle.fl_world_refines.specs.ShowsState.{Shows}
use Rattle.fl_world_refines.specs.View.{TheWorld}
use Rattle.fl_world_refines.proofs.FramesBase.{same_some}
use Rattle.fl_core_refines.specs.SetUpUntouched.{IsUntouched, IsNewBinding, Untouched}
use Rattle.fl_core_refines.proofs.Finding.{found}
use Rattle.fl_core_refines.specs.Cut.{seat_at}
use Rattle.fl_core_refines.specs.CutEnds.{EndCut}
use Rattle.fl_core_refines.specs.CutStart.{first_end, first_ends}
use Rattle.fl_cores.specs.Follows.{IsOfMachine}

-- the seat and the wired end of each first end
pub record FirstAt (core : ℕ) (seats : List TheEndAtChannel) (wired_ends : List WiredEnd) (e : ℕ) (x : EndCut) : Type 0 where
  pub seat : TheEndAtChannel
  pub seat_is : slice_get seats e ≡ Some seat
  pub wired_end : WiredEnd
  pub wired_end_is : slice_get wired_ends e ≡ Some wired_end
  pub end_is : x ≡ first_end core wired_end seat

pub first_at : (core : ℕ) (seats : List TheEndAtChannel) (wired_ends : List WiredEnd) (e : ℕ) (x : EndCut) → slice_get (first_ends core seats wired_ends) e ≡ Some x
    → FirstAt core seats wired_ends e x
first_at core [] wired_ends e x at = absurd (cc)
first_at core (seat ∷ seats) [] e x at = absurd (cc)
first_at core (seat ∷ seats) (p ∷ wired_ends) zero x at =
    let same : x ≡ first_end core p seat = (let both : Some (first_end core p seat) ≡ Some x = at in cc) in
    record { seat = seat; seat_is = refl; wired_end = p; wired_end_is = refl; end_is = same }
first_at core (seat ∷ seats) (p ∷ wired_ends) (suc e) x at =
    let rest = first_at core seats wired_ends e x at in
    record { seat = rest.seat; seat_is = rest.seat_is; wired_end = rest.wired_end; wired_end_is = rest.wired_end_is; end_is = rest.end_is }

untouched_at : (side : Side) (b : Binding) → IsNewBinding b → IsUntouched (end_in side b)
untouched_at Client b h = h.client
untouched_at Server b h = h.server

-- as it stands in the world, but for rules
pub of_machine : (w : TheWorld) (s : State) (n : ℕ) (c : TheCore) (place : ℕ) (wired_end : WiredEnd) (old seat : TheEndAtChannel) → Shows w s → Untouched s
    → slice_get w.cores n ≡ Some c → place_of c wired_end.name ≡ Some place → slice_get c.board.seats place ≡ Some old → planned_of seat.end.program ≡ planned_of old.end.program
    → seat.dispatcher ≡ old.dispatcher → seat.channel ≡ old.channel → IsOfMachine s (first_end n wired_end seat)
of_machine w s n c place wired_end old seat shown untouched core_is place_is old_is program dispatcher channel =
    let name : EndId = wired_end.name in
    let k = found w s n c name place shown core_is place_is in
    let m = shown.showing.ends.made name k.binding k.interface k.seat k.binding_is k.interface_is k.seat_is in
    let core : m.core ≡ c = same_some (slice_get w.cores n) m.core c (ap (slice_get w.cores) (sym k.core_at) ∙ m.core_is) core_is in
    let there : m.place ≡ place = same_some (place_of c name) m.place place (ap (λ (y : TheCore). place_of y name) (sym core) ∙ m.place_is) place_is in
    let seat_same : m.at ≡ old
    = same_some (slice_get c.board.seats place) m.at old
    (ap (λ (y : TheCore). slice_get y.board.seats place) (sym core) ∙ ap (slice_get m.core.board.seats) (sym there) ∙ m.at_is) old_is in
    let at_same : k.at ≡ old = same_some (slice_get c.board.seats place) k.at old k.at_is old_is in
    let x : End = end_in name.side k.binding in
    let new = untouched_at name.side k.binding (untouched.bindings name.binding k.binding k.binding_is) in
    let sits : seat_at n seat ≡ k.seat
    = ap (λ (d : ℕ). (let z : Seat = record { dispatcher = record { core = n; place = d }; channel = seat.channel } in z))
    (dispatcher ∙ ap (λ (y : TheEndAtChannel). y.dispatcher) (sym seat_same) ∙ m.dispatcher)
    ∙ ap (λ (d : ℕ). (let z : Seat = record { dispatcher = record { core = n; place = k.seat.dispatcher.place }; channel = d } in z))
    (channel ∙ ap (λ (y : TheEndAtChannel). y.channel) (sym seat_same) ∙ m.channel)
    ∙ ap (λ (d : ℕ). (let z : Seat = record { dispatcher = record { core = d; place = k.seat.dispatcher.place }; channel = k.seat.channel } in z)) (sym k.core_at) in
    let its_seat : Some (seat_at n seat) ≡ x.seat = ap (λ (z : Seat). Some z) sits ∙ sym k.seat_is in
    record {
      end = x;
      end_is = ap (λ (o : Option Binding). given o None λ b. Some (end_in name.side b)) k.binding_is;
      same = ap (λ (o : Option Seat). (let z : End = record { seat = o; circuit = Some 0; rules = seat.end.rules; out = fresh_direction 2; queue = None } in z)) its_seat
          ∙ ap (λ (o : Option ℕ). (let z : End = record { seat = x.seat; circuit = o; rules = seat.end.rules; out = fresh_direction 2; queue = None } in z)) (sym new.circuit)
          ∙ ap (λ (d : Direction). (let z : End = record { seat = x.seat; circuit = x.circuit; rules = seat.end.rules; out = d; queue = None } in z)) (sym new.out);
      binding = k.binding;
      binding_is = k.binding_is;
      planned_is = k.interface_is ∙ ap (λ (i : Planned). Some i) (sym k.shows.program ∙ ap (λ (y : TheEndAtChannel). planned_of y.end.program) at_same ∙ sym program);
    }
