-- An end that is found at a core of a world: what the machine knows of it, and how it is wired.
use Rattle.std.proofs.Common.{◌≡◌, sym, ◌∙◌, ap, subst, ℕ, slice_get, Some, None}
use Rattle.fl_base.specs.declared.identity.EndId.{EndId}
use Rattle.fl_base.specs.Ends.{other}
use Rattle.fl_base.specs.Given.{given}
use Rattle.fl_core.specs.BoardView.{TheEndAtChannel}
use Rattle.fl_core.specs.View.{TheCore, place_of}
use Rattle.fl_core.specs.declared.wiring.EndWiring.{EndWiring}
use Rattle.fl_core.specs.declared.wiring.EndWiring.TheVariants.{Ring as OverRing}
use Rattle.fl_core.specs.declared.wiring.WiredEnd.{WiredEnd}
use Rattle.fl_model.specs.Calls.{Planned}
use Rattle.fl_model.specs.Rings.{RingEnd}
use Rattle.fl_model.specs.Ends.{Seat, End}
use Rattle.fl_model.specs.State.{Binding, State, binding_of, interface_of, end_in, own_ring}
use Rattle.fl_model.specs.SoundPlaces.{owns, this_end}
use Rattle.fl_world_refines.specs.Ends.{EndShows}
use Rattle.fl_world_refines.specs.View.{TheWorld, side_at}
use Rattle.fl_world_refines.specs.ShowsState.{wiring_of, IsWiring, Shows}
use Rattle.fl_model_laws.proofs.BindingWalk.{given_there}
use Rattle.fl_world_refines.proofs.FramesBase.{same_some, binding_of_end}
use Rattle.fl_world_refines.proofs.FramesFind.{interface_known}
use Rattle.fl_world_refines.proofs.PassingLinkSides.{side_of_number}

-- the end of this name, at a place of core n
pub record Found (w : TheWorld) (s : State) (n : ℕ) (c : TheCore) (e : EndId) (place : ℕ) : Type 0 where
  pub binding : Binding
  pub binding_is : binding_of s e ≡ Some binding
  pub interface : Planned
  pub interface_is : interface_of s binding ≡ Some interface
  pub seat : Seat
  pub seat_is : (end_in e.side binding).seat ≡ Some seat
  pub core_at : seat.dispatcher.core ≡ n
  pub at : TheEndAtChannel
  pub at_is : slice_get c.board.seats place ≡ Some at
  pub shows : EndShows interface (end_in e.side binding) (end_in (other e.side) binding).out at.end
  pub wired_end : WiredEnd
  pub wired_end_is : slice_get c.wired_ends place ≡ Some wired_end
  pub name_is : wired_end.name ≡ e
  pub wiring : IsWiring w c s e binding wired_end.wiring

pub found : (w : TheWorld) (s : State) (n : ℕ) (c : TheCore) (e : EndId) (place : ℕ) → Shows w s → slice_get w.cores n ≡ Some c
    → place_of c e ≡ Some place → Found w s n c e place
found w s n c e place h core_is place_is =
    let sits = h.showing.ends.only n c e place core_is place_is in
    let b = binding_of_end s e sits.0 sits.1.1 in
    let seat = sits.1.0 in
    let i = interface_known s e b.0 h.sound b.1 in
    let seat_is : (end_in e.side b.0).seat ≡ Some seat = ap (λ (x : End). x.seat) b.2 ∙ sits.1.2 in
    let m = h.showing.ends.made e b.0 i.0 seat b.1 i.1 seat_is in
    let core_at : seat.dispatcher.core ≡ n = sits.1.3 in
    let same : m.core ≡ c = same_some (slice_get w.cores n) m.core c (ap (slice_get w.cores) (sym core_at) ∙ m.core_is) core_is in
    let place_same : m.place ≡ place
    = same_some (place_of c e) m.place place (ap (λ (k : TheCore). place_of k e) (sym same) ∙ m.place_is) place_is in
    record {
      binding = b.0;
      binding_is = b.1;
      interface = i.0;
      interface_is = i.1;
      seat = seat;
      seat_is = seat_is;
      core_at = core_at;
      at = m.at;
      at_is = ap (λ (k : TheCore). slice_get k.board.seats place) (sym same) ∙ ap (slice_get m.core.board.seats) (sym place_same) ∙ m.at_is;
      shows = m.shows;
      wired_end = m.wired_end;
      wired_end_is = ap (λ (k : TheCore). slice_get k.wired_ends place) (sym same) ∙ ap (slice_get m.core.wired_ends) (sym place_same) ∙ m.wired_end_is;
      name_is = m.name_is;
      wiring = subst (λ (k : TheCore). IsWiring w k s e b.0 m.wired_end.wiring) same m.wiring;
    }

-- ---- the same by the wiring

pub wiring_at : (c : TheCore) (e : EndId) (place : ℕ) (p : WiredEnd) → place_of c e ≡ Some place → slice_get c.wired_ends place ≡ Some p → wiring_of c e ≡ Some p.wiring
wiring_at c e place p q r = ap (λ o. given o None (λ m. given (slice_get c.wired_ends m) None (λ (x : WiredEnd). Some x.wiring))) q ∙ ap (λ o. given o None (λ (x : WiredEnd). Some x.wiring)) r

-- the end of this name stands at core n, on this wiring
pub record Wired (w : TheWorld) (s : State) (n : ℕ) (c : TheCore) (e : EndId) (wiring : EndWiring) : Type 0 where
  pub place : ℕ
  pub place_is : place_of c e ≡ Some place
  pub end : Found w s n c e place
  pub wiring_is : end.wired_end.wiring ≡ wiring
  pub way : IsWiring w c s e end.binding wiring

pub wired : (w : TheWorld) (s : State) (n : ℕ) (c : TheCore) (e : EndId) (wiring : EndWiring) → Shows w s → slice_get w.cores n ≡ Some c
    → wiring_of c e ≡ Some wiring → Wired w s n c e wiring
wired w s n c e wiring h core_is q =
    let (place, place_is, rest) = given_there (place_of c e) (λ m. given (slice_get c.wired_ends m) None (λ (p : WiredEnd). Some p.wiring)) wiring q in
    let end = found w s n c e place h core_is place_is in
    let same : end.wired_end.wiring ≡ wiring = same_some (wiring_of c e) end.wired_end.wiring wiring (wiring_at c e place end.wired_end place_is end.wired_end_is) q in
    record {
      place = place;
      place_is = place_is;
      end = end;
      wiring_is = same;
      way = subst (λ (x : EndWiring). IsWiring w c s e end.binding x) same end.wiring;
    }

-- ---- an end on a ring

-- it owns the side of its ring
pub owns_side : (w : TheWorld) (s : State) (c : TheCore) (e : EndId) (b : Binding) (side : ℕ) → binding_of s e ≡ Some b
    → IsWiring w c s e b (OverRing side) → owns s (this_end e) (side_at side)
owns_side w s c e b side there k =
    let same : side_at side ≡ k.0 = ap side_at k.2 ∙ side_of_number k.0 in
    (b, there, subst (λ (at : RingEnd). own_ring e.side b.back ≡ Some at) (sym same) k.1)
