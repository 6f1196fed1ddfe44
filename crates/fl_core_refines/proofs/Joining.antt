-- How the two ends of each binding are joined, in a world that shows an untouched machine.
use Rattle.std.proofs.Common.{◌≡◌, refl, sym, ◌∙◌, ap, subst, ℕ, suc, ◌+◌, ◌*◌, ◌≤◌, inl, inr, false, length, slice_get, Option, Some, None, arith}
use Rattle.std.specs.Prelude.{is_some}
use Rattle.fl_base.specs.declared.identity.EndId.{EndId}
use Rattle.fl_base.specs.declared.identity.Side.{Side}
use Rattle.fl_base.specs.declared.identity.Side.TheVariants.{Client, Server}
use Rattle.fl_compile.specs.declared.program.Program.{Program}
use Rattle.fl_compile.specs.Programs.{TheProgram}
use Rattle.fl_core.specs.View.{TheCore, client_of}
use Rattle.fl_core.specs.declared.wiring.EndWiring.{EndWiring}
use Rattle.fl_core.specs.declared.wiring.EndWiring.TheVariants.{Queues, Ring as OverRing, Circuit}
use Rattle.fl_model.specs.Calls.{Planned}
use Rattle.fl_model.specs.Ends.{Seat}
use Rattle.fl_model.specs.State.{Back, local, over_ring, over_route, Binding, State, ring_side, peer_queue, interface_of, end_in, own_ring, outlet_by}
use Rattle.fl_model.specs.State.{side_of}
use Rattle.fl_model.specs.Binding.{end_id}
use Rattle.fl_model.specs.SoundPlaces.{TakesFrom as EndTakesFrom, this_end, owns}
use Rattle.fl_world_refines.specs.Ends.{planned_of}
use Rattle.fl_world_refines.specs.declared.binding.Binding.{Binding as TheBinding}
use Rattle.fl_world_refines.specs.View.{TheWorld, side_number, side_at, core_in}
use Rattle.fl_world_refines.specs.ShowsState.{wiring_of, IsWiring, IsMade, SitsAt, BindingShows, Shows}
use Rattle.fl_model_laws.proofs.EndsStanding.{in_range}
use Rattle.fl_model_laws.proofs.Faces.{some_there}
use Rattle.fl_world_refines.proofs.FramesBase.{gets, same_some, end_of_binding}
use Rattle.fl_world_refines.proofs.FramesFind.{interface_known}
use Rattle.fl_world_refines.proofs.MakingBase.{map_at}
use Rattle.fl_core_refines.specs.SetUpUntouched.{IsOffLinks, IsNewBinding, Untouched}
use Rattle.fl_core_refines.specs.SetUpStart.{EndsHaveBindings, Stands, IsJoined, BindingsAreJoined, RingsHaveOneBinding}
use Rattle.fl_core_refines.proofs.Finding.{found, wiring_at, wired, owns_side}
use Rattle.fl_core_refines.proofs.Freshness.{side_untouched}
use Rattle.fl_core_refines.proofs.Apartness.{same_end, one_seat}

-- ---- wirings, by how the binding is joined

local_wiring : (w : TheWorld) (c : TheCore) (s : State) (e : EndId) (b : Binding) (x : EndWiring) → b.back ≡ local → IsWiring w c s e b x
    → (out : ℕ) × (from : ℕ) × (x ≡ Queues out from)
local_wiring w c s e b (Queues out from) back k = (out, from, refl)
local_wiring w c s e b (OverRing side) back k =
    let none : None ≡ Some k.0 = ap (own_ring e.side) (sym back) ∙ k.1 in absurd (cc)
local_wiring w c s e b (Circuit link arrivals) back k =
    let (m, side, outlet) = k.0 in
    let queue : Some peer_queue ≡ Some (ring_side (side_at m)) = ap (outlet_by s e.side) (sym back) ∙ outlet in absurd (cc)

ring_wiring : (w : TheWorld) (c : TheCore) (s : State) (e : EndId) (b : Binding) (r : ℕ) (x : EndWiring) → b.back ≡ over_ring r
    → (end_in e.side b).queue ≡ None → IsWiring w c s e b x → x ≡ OverRing (side_number (record { ring = r; side = side_of e.side }))
ring_wiring w c s e b r (Queues out from) back none k =
    let queue : over_ring r ≡ local = sym back ∙ k.0 in absurd (cc)
ring_wiring w c s e b r (OverRing side) back none k =
    let (at, own, is) = k in
    let here : own_ring e.side (over_ring r) ≡ Some at = ap (own_ring e.side) (sym back) ∙ own in
    let same : record { ring = r; side = side_of e.side } ≡ at = same_some (own_ring e.side (over_ring r)) (record { ring = r; side = side_of e.side }) at refl here in
    ap (λ (n : ℕ). OverRing n) (is ∙ ap side_number (sym same))
ring_wiring w c s e b r (Circuit link arrivals) back none k =
    let queue : Some k.1.queue ≡ None = sym k.1.queue_is ∙ none in absurd (cc)

-- ---- a binding, in the world and in the machine

none_of : {X : Type 0} (o : Option X) → is_some o ≡ false → o ≡ None
none_of None h = refl
none_of (Some x) h = absurd (cc)

pub record Bound (w : TheWorld) (s : State) (n : ℕ) (there : TheBinding) : Type 0 where
  pub binding : Binding
  pub binding_is : slice_get s.bindings n ≡ Some binding
  pub shows : BindingShows s n binding there
  pub new : IsNewBinding binding
  pub interface : Planned
  pub interface_is : interface_of s binding ≡ Some interface
  pub program : Program
  pub program_is : slice_get w.programs there.interface ≡ Some program
  pub planned : planned_of program ≡ interface

pub bound : (w : TheWorld) (s : State) (n : ℕ) (there : TheBinding) → Shows w s → Untouched s → slice_get w.bindings n ≡ Some there → Bound w s n there
bound w s n there shows h there_is =
    let p = shows.showing in
    let (b, b_is) = gets w.bindings s.bindings n there (sym p.bindings.count) there_is in
    let each = p.bindings.each n b there b_is there_is in
    let (i, i_is) = interface_known s (client_of n) b shows.sound b_is in
    let (program, program_is, planned) = map_at planned_of w.programs b.interface i (ap (λ is. slice_get is b.interface) p.programs ∙ i_is) in
    record {
      binding = b;
      binding_is = b_is;
      shows = each;
      new = h.bindings n b b_is;
      interface = i;
      interface_is = i_is;
      program = program;
      program_is = ap (slice_get w.programs) each.interface ∙ program_is;
      planned = planned;
    }

-- the end of a side is made
record Made (w : TheWorld) (s : State) (n : ℕ) (there : TheBinding) (k : Bound w s n there) (side : Side) : Type 0 where
  pub seat : Seat
  pub seat_is : (end_in side k.binding).seat ≡ Some seat
  pub made : IsMade w s (end_id n side) k.binding k.interface seat
  pub core_at : core_in side there ≡ seat.dispatcher.core

module _ (w : TheWorld) (s : State) (n : ℕ) (there : TheBinding) (shows : Shows w s) (k : Bound w s n there) where
  abbrev end_on : Side → EndId
  end_on side = end_id n side

  made : (side : Side) → Made w s n there k side
  made side =
      let (seat, seat_is) = some_there (end_in side k.binding).seat (side_untouched side k.binding k.new).seat in
      record {
        seat = seat;
        seat_is = seat_is;
        made = shows.showing.ends.made (end_on side) k.binding k.interface seat k.binding_is k.interface_is seat_is;
        core_at = k.shows.seated (end_on side) seat refl seat_is;
      }

  core_there : (side : Side) (m : Made w s n there k side) → slice_get w.cores (core_in side there) ≡ Some m.made.core
  core_there side m = ap (slice_get w.cores) m.core_at ∙ m.made.core_is

  stands : (side : Side) (wiring : EndWiring) (m : Made w s n there k side) → m.made.wired_end.wiring ≡ wiring → Stands w (core_in side there) (end_on side) k.program wiring
  stands side wiring m is = record {
    core = m.made.core;
    core_is = core_there side m;
    place = m.made.place;
    place_is = m.made.place_is;
    seat = m.made.at;
    seat_is = m.made.at_is;
    program_is = ap (λ (i : Planned). (let p : TheProgram = record { interface = i.interface; plan = i.plan } in p)) (m.made.shows.program ∙ sym k.planned);
    wired_end = m.made.wired_end;
    wired_end_is = m.made.wired_end_is;
    wiring_is = is;
  }

  -- ---- by queues

  by_queues : k.binding.back ≡ local → IsJoined w n there
  by_queues back =
      let c = made Client in
      let v = made Server in
      let (out, from, is) = local_wiring w c.made.core s (end_on Client) k.binding c.made.wired_end.wiring back c.made.wiring in
      let there_wiring : wiring_of c.made.core (end_on Server) ≡ Some (Queues from out) =
      (subst (IsWiring w c.made.core s (end_on Client) k.binding) is c.made.wiring).2 in
      let far = wired w s (core_in Client there) c.made.core (end_on Server) (Queues from out) shows (core_there Client c) there_wiring in
      let sits = shows.showing.ends.only (core_in Client there) c.made.core (end_on Server) far.place (core_there Client c) far.place_is in
      let seated : SitsAt s (end_on Server) (core_in Server there) =
      (end_in Server k.binding, (v.seat, end_of_binding s (end_on Server) k.binding k.binding_is, v.seat_is, sym v.core_at)) in
      let one : core_in Client there ≡ core_in Server there = one_seat s (end_on Server) (core_in Client there) (core_in Server there) sits seated in
      let core : v.made.core ≡ c.made.core = same_some (slice_get w.cores (core_in Server there)) v.made.core c.made.core (core_there Server v)
      (ap (slice_get w.cores) (sym one) ∙ core_there Client c) in
      let its : v.made.wired_end.wiring ≡ Queues from out = same_some (wiring_of c.made.core (end_on Server)) v.made.wired_end.wiring (Queues from out)
      (ap (λ (x : TheCore). wiring_of x (end_on Server)) (sym core) ∙ wiring_at v.made.core (end_on Server) v.made.place v.made.wired_end v.made.place_is v.made.wired_end_is) there_wiring in
      record {
        program = k.program;
        program_is = k.program_is;
        joined = inl (out, from, record { one_core = one; client = stands Client (Queues out from) c is; server = stands Server (Queues from out) v its });
      }

  -- ---- by a ring

  takes_from : (side : Side) → EndTakesFrom s k.binding.back (end_in side k.binding)
  takes_from side =
      let x = shows.sound.ends (end_on side) (end_in side k.binding) (end_of_binding s (end_on side) k.binding k.binding_is) in
      let same : x.binding ≡ k.binding = same_some (slice_get s.bindings n) x.binding k.binding x.there k.binding_is in
      subst (λ (y : Binding). EndTakesFrom s y.back (end_in side k.binding)) same x.queue

  on_ring : (r : ℕ) → k.binding.back ≡ over_ring r → (side : Side) → EndTakesFrom s (over_ring r) (end_in side k.binding)
  on_ring r back side = subst (λ (y : Back). EndTakesFrom s y (end_in side k.binding)) back (takes_from side)

  ring_stands : (r : ℕ) → k.binding.back ≡ over_ring r → (side : Side)
      → Stands w (core_in side there) (end_on side) k.program (OverRing (side_number (record { ring = r; side = side_of side })))
  ring_stands r back side =
      let m = made side in
      stands side (OverRing (side_number (record { ring = r; side = side_of side }))) m
      (ring_wiring w m.made.core s (end_on side) k.binding r m.made.wired_end.wiring back (none_of (end_in side k.binding).queue (on_ring r back side).0) m.made.wiring)

  by_ring : (r : ℕ) → k.binding.back ≡ over_ring r → IsJoined w n there
  by_ring r back =
      let few : suc r ≤ length s.rings = in_range s.rings r (on_ring r back Client).1 in
      let count : length w.rings ≡ length s.rings = shows.showing.rings.count in
      let even : 2 * r + 0 ≡ 2 * r = omega arith in
      record {
        program = k.program;
        program_is = k.program_is;
        joined = inr (
          r,
          record {
            within = omega arith;
            client = subst (λ (side : ℕ). Stands w there.client (client_of n) k.program (OverRing side)) even (ring_stands r back Client);
            server = ring_stands r back Server;
          },
        );
      }

  joined : (back : Back) → k.binding.back ≡ back → IsOffLinks back → IsJoined w n there
  joined local is off = by_queues is
  joined (over_ring r) is off = by_ring r is
  joined (over_route route) is off = absurd off

pub bindings_are_joined : (w : TheWorld) (s : State) → Shows w s → Untouched s → BindingsAreJoined w
bindings_are_joined w s shows h n there there_is =
    let k = bound w s n there shows h there_is in
    joined w s n there shows k k.binding.back refl k.new.back

-- ---- an end that is found is one of a binding

pub ends_have_bindings : (w : TheWorld) (s : State) → Shows w s → EndsHaveBindings w
ends_have_bindings w s shows n place c e core_is place_is =
    let k = found w s n c e place shows core_is place_is in
    let (b, b_is) = gets s.bindings w.bindings e.binding k.binding shows.showing.bindings.count k.binding_is in
    let each = shows.showing.bindings.each e.binding k.binding b k.binding_is b_is in
    (b, b_is, each.seated e k.seat refl k.seat_is ∙ k.core_at)

-- ---- no two bindings have one ring

stands_owner : (w : TheWorld) (s : State) (m : ℕ) (e : EndId) (p : Program) (side : ℕ) → Shows w s → (h : Stands w m e p (OverRing side))
    → owns s (this_end e) (side_at side)
stands_owner w s m e p side shows h =
    let wiring : wiring_of h.core e ≡ Some (OverRing side) = wiring_at h.core e h.place h.wired_end h.place_is h.wired_end_is ∙ ap (λ x. Some x) h.wiring_is in
    let k = wired w s m h.core e (OverRing side) shows h.core_is wiring in
    owns_side w s h.core e k.end.binding side k.end.binding_is k.way

pub rings_have_one_binding : (w : TheWorld) (s : State) → Shows w s → RingsHaveOneBinding w
rings_have_one_binding w s shows n m ring b d p q one two =
    ap (λ (e : EndId). e.binding) (same_end (client_of n) (client_of m) (shows.sound.owners (this_end (client_of n)) (this_end (client_of m)) (side_at (2 * ring))
    (stands_owner w s b.client (client_of n) p (2 * ring) shows one.client) (stands_owner w s d.client (client_of m) q (2 * ring) shows two.client)))
