-- Where the ends of one core by itself stand: each is joined by queues, which are the core's.
use Rattle.std.proofs.Common.{◌≡◌, refl, sym, ◌∙◌, ap, subst, ℕ, true, nat_lt, if◌then◌else◌, List, [], length, slice_get, Option, Some, None}
use Rattle.fl_base.specs.declared.identity.EndId.{EndId}
use Rattle.fl_base.specs.Given.{given}
use Rattle.fl_hop.proofs.Lists.{within}
use Rattle.fl_core.specs.declared.wiring.EndWiring.{EndWiring}
use Rattle.fl_core.specs.declared.wiring.EndWiring.TheVariants.{Queues, Ring as OverRing, Circuit}
use Rattle.fl_core.specs.declared.wiring.LinkSide.{LinkSide}
use Rattle.fl_core.specs.declared.wiring.WiredEnd.{WiredEnd}
use Rattle.fl_core.specs.declared.wiring.Outlet.{Outlet}
use Rattle.fl_core.specs.declared.wiring.Outlet.TheVariants as outlet
use Rattle.fl_core.specs.declared.wiring.Inlet.TheVariants as inlet
use Rattle.fl_core.specs.View.{TheCore, place_of, side_of_link, outlet_by, outlet_of, inlet_by, inlet_of}
use Rattle.fl_model.specs.Rings.{RingEnd}
use Rattle.fl_model.specs.State.{Back, local, over_ring, over_route, Binding, State, binding_of, own_ring}
use Rattle.fl_world_refines.proofs.Tests.{lt_true}
use Rattle.fl_world_refines.specs.View.{TheWorld, nowhere, made, location_at, location_of, core_in}
use Rattle.fl_world_refines.specs.ShowsState.{IsWiring, ShowsState, Shows}
use Rattle.fl_world_refines.proofs.Frames.{Stands}
use Rattle.fl_world_refines.proofs.FramesBase.{gets, not_both}
use Rattle.fl_world_refines.proofs.FramesFind.{location_made}
use Rattle.fl_world_refines.proofs.WritingPieces.{stands_there}
use Rattle.fl_world_refines.proofs.WritingStreams.{own_ring_there}
use Rattle.fl_world_refines.proofs.WritingQueues.{peer_of}
use Rattle.fl_core_run.specs.Run.{TheRun, lends_out, lent_post}
use Rattle.fl_core_refines.specs.AloneTurns.{MachineRun}
use Rattle.fl_core_refines.specs.AloneShown.{world_with, ShowsAlone}

-- ---- where an end is

pub location_is : (w : TheWorld) (s : State) (e : EndId) (n place : ℕ) (h : Stands w s e n place) → ShowsState w s → location_of w e ≡ made n place
location_is w s e n place h p =
    let there = gets s.bindings w.bindings e.binding h.binding p.bindings.count h.binding_is in
    let core : core_in e.side there.0 ≡ n = (p.bindings.each e.binding h.binding there.0 h.binding_is there.1).seated e h.seat refl h.seat_is ∙ h.core_at in
    ap (λ o. given o nowhere (λ b. location_at w.cores (core_in e.side b) e)) there.1
    ∙ location_made w.cores (core_in e.side there.0) e h.core place (ap (slice_get w.cores) core ∙ h.core_is) h.place_is
    ∙ ap (λ k. made k place) core

pub stands : {S : Type 0} (w : TheWorld) (r : TheRun S) (a : MachineRun) (e : EndId) (place : ℕ) → ShowsAlone w r a → place_of r.core e ≡ Some place
    → Stands (world_with w r) a.state e 0 place
stands w r a e place h q = stands_there (world_with w r) a.state e 0 place r.core h.shows refl q

-- ---- it is joined by queues

pub record Queued (w : TheWorld) (s : State) (e : EndId) (place : ℕ) (h : Stands w s e 0 place) : Type 0 where
  pub out : ℕ
  pub from : ℕ
  pub wiring : h.wired_end.wiring ≡ Queues out from

pub no_link_side : (link_sides : List LinkSide) (l m : ℕ) → link_sides ≡ [] → side_of_link link_sides l ≡ Some m → ⊥
no_link_side link_sides l m q r =
    let none : None ≡ Some m = ap (λ (ls : List LinkSide). side_of_link ls l) (sym q) ∙ r in
    cc

own_back : (s : State) (e : EndId) (back : Back) (at : RingEnd) → own_ring e.side back ≡ Some at → (n : ℕ) × (back ≡ over_ring n)
own_back s e local at q = absurd (cc)
own_back s e (over_ring n) at q = (n, refl)
own_back s e (over_route route) at q = absurd (cc)

-- no ring is there
pub no_ring_end : (w : TheWorld) (s : State) (e : EndId) (b : Binding) (at : RingEnd) → Shows w s → w.rings ≡ [] → binding_of s e ≡ Some b
    → own_ring e.side b.back ≡ Some at → ⊥
no_ring_end w s e b at shown none is q =
    let back = own_back s e b.back at q in
    let ring = own_ring_there s e b back.0 shown.sound.ends is back.1 in
    let there = gets s.rings w.rings back.0 ring.0 shown.showing.rings.count ring.1 in
    not_both (slice_get w.rings back.0) there.0 (ap (λ rs. slice_get rs back.0) none) there.1

by_wiring : (w : TheWorld) (s : State) (e : EndId) (place : ℕ) (h : Stands w s e 0 place) (wiring : EndWiring) → Shows w s → w.rings ≡ [] → h.core.link_sides ≡ []
    → h.wired_end.wiring ≡ wiring → IsWiring w h.core s e h.binding wiring → Queued w s e place h
by_wiring w s e place h (Queues out from) shown none link_sides q wired = record { out = out; from = from; wiring = q }
by_wiring w s e place h (OverRing m) shown none link_sides q wired = absurd (no_ring_end w s e h.binding wired.0 shown none h.binding_is wired.1)
by_wiring w s e place h (Circuit link arrivals) shown none link_sides q wired = absurd (no_link_side h.core.link_sides link.0 wired.0.0 link_sides wired.0.1)

some_core : (c d : TheCore) → Some c ≡ Some d → c ≡ d
some_core c d q = cc

pub queued : {S : Type 0} (w : TheWorld) (r : TheRun S) (a : MachineRun) (e : EndId) (place : ℕ) (x : ShowsAlone w r a) (h : Stands
    (world_with w r) a.state e 0 place)
    → Queued (world_with w r) a.state e place h
queued w r a e place x h =
    let core : r.core ≡ h.core = some_core r.core h.core h.core_is in
    by_wiring (world_with w r) a.state e place h h.wired_end.wiring x.shows refl (ap (λ (c : TheCore). c.link_sides) (sym core) ∙ x.no_links) refl h.wiring

-- ---- what is lent

-- of an end that is at the core: where it puts, and where it takes from
pub record Wired {S : Type 0} (r : TheRun S) (e : EndId) (place : ℕ) : Type 0 where
  pub out : ℕ
  pub from : ℕ
  pub outlet_is : outlet_of r.core place ≡ Some (outlet.Queue out)
  pub inlet_is : inlet_of r.core place ≡ Some (inlet.Queue from)
  pub out_there : nat_lt out (length r.queues) ≡ true
  pub from_there : nat_lt from (length r.queues) ≡ true

pub wired : {S : Type 0} (w : TheWorld) (r : TheRun S) (a : MachineRun) (e : EndId) (place : ℕ) → ShowsAlone w r a → place_of r.core e ≡ Some place
    → Wired r e place
wired w r a e place x q =
    let h = stands w r a e place x q in
    let k = queued w r a e place x h in
    let core : r.core ≡ h.core = some_core r.core h.core h.core_is in
    let wired_end : slice_get r.core.wired_ends place ≡ Some h.wired_end = ap (λ (c : TheCore). slice_get c.wired_ends place) core ∙ h.wired_end_is in
    let is : IsWiring (world_with w r) h.core a.state e h.binding (Queues k.out k.from) = subst (IsWiring
    (world_with w r) h.core a.state e h.binding) k.wiring h.wiring in
    let other = peer_of (world_with w r) a.state e 0 place h k.out k.from x.shows k.wiring in
    record {
      out = k.out;
      from = k.from;
      outlet_is = ap (λ (o : Option WiredEnd). given o None λ p. outlet_by r.core.link_sides p.wiring) wired_end ∙ ap (outlet_by r.core.link_sides) k.wiring;
      inlet_is = ap (λ (o : Option WiredEnd). given o None λ p. Some (inlet_by p.wiring)) wired_end ∙ ap (λ v. Some (inlet_by v)) k.wiring;
      out_there = lt_true k.out (length r.queues) (within r.queues k.out other.there other.there_is);
      from_there = lt_true k.from (length r.queues) (within r.queues k.from is.1.there is.1.there_is);
    }

pub post_lent : {S : Type 0} (r : TheRun S) (e : EndId) (place : ℕ) (k : Wired r e place) → place_of r.core e ≡ Some place
    → lent_post r e ≡ Some (record { end = place; outlet = outlet.Queue k.out })
post_lent r e place k q =
    ap (λ (o : Option ℕ). given o None λ n. given (outlet_of r.core n) None λ out. if lends_out r out then Some
    (record { end = n; outlet = out }) else None) q
    ∙ ap (λ (o : Option Outlet). given o None λ out. if lends_out r out then Some (record { end = place; outlet = out }) else None) k.outlet_is
    ∙ ap (λ b. if b then Some (record { end = place; outlet = outlet.Queue k.out }) else None) k.out_there
