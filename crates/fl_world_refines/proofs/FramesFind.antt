-- Where the end of a name is in a world that shows a state: nowhere, kept until it is made, or made.
use Rattle.std.proofs.Common.{◌≡◌, refl, sym, ◌∙◌, ap, ℕ, true, false, List, slice_get, Option, Some, None}
use Rattle.std.specs.Prelude.{IsSome}
use Rattle.fl_base.specs.declared.identity.EndId.{EndId}
use Rattle.fl_base.specs.declared.identity.Side.{Side}
use Rattle.fl_base.specs.declared.identity.Side.TheVariants.{Client, Server}
use Rattle.fl_base.specs.Given.{given}
use Rattle.fl_core.specs.View.{TheCore, place_of}
use Rattle.fl_model.specs.Calls.{Planned}
use Rattle.fl_model.specs.Ends.{End}
use Rattle.fl_model.specs.State.{OpeningVerdict, undecided, granted, denied, Route, Back, local, over_ring, over_route, Binding, State, binding_of, interface_of, end_in}
use Rattle.fl_model.specs.SoundRoutes.{BoundBy, BoundWhere}
use Rattle.fl_model.specs.Sound.{Sound}
use Rattle.fl_world_refines.specs.declared.binding.Binding.{Binding as TheBinding}
use Rattle.fl_world_refines.specs.View.{TheWorld, WhereEnd, nowhere, unmade, made, location_at, location_of, core_in}
use Rattle.fl_world_refines.proofs.Frames.{FindsNone, FindsUnmade, FindsMade}
use Rattle.fl_world_refines.proofs.FramesBase.{gets, same_some, not_both, binding_of_end, end_of_binding}

-- ---- options and locations

pub some_or_none : {X : Type 0} {P : Type 0} (o : Option X) → (o ≡ None → P) → ((x : X) → o ≡ Some x → P) → P
some_or_none None f g = f refl
some_or_none (Some x) f g = g x refl

pub location_made : (cores : List TheCore) (n : ℕ) (e : EndId) (c : TheCore) (place : ℕ) → slice_get cores n ≡ Some c → place_of c e ≡ Some place
    → location_at cores n e ≡ made n place
location_made cores n e c place q r =
    ap (λ o. given o unmade (λ k. given (place_of k e) unmade (λ p. made n p))) q ∙ ap (λ o. given o unmade (λ p. made n p)) r

-- a location at a core: the end's place there
record IsPlace (cores : List TheCore) (n : ℕ) (e : EndId) (m place : ℕ) : Type 0 where
  pub same : n ≡ m
  pub core : TheCore
  pub core_is : slice_get cores m ≡ Some core
  pub place_is : place_of core e ≡ Some place

place_at : (cores : List TheCore) (n : ℕ) (e : EndId) (m place : ℕ) → location_at cores n e ≡ made m place → IsPlace cores n e m place
place_at cores n e m place h = by (slice_get cores n) refl h
  where
    within : (c : TheCore) → slice_get cores n ≡ Some c → (o : Option ℕ) → place_of c e ≡ o → given o unmade (λ p. made n p) ≡ made m place → IsPlace cores n e m place
    within c q None r k = absurd (cc)
    within c q (Some p) r k =
        let same : n ≡ m = cc in
        let at : p ≡ place = cc in
        record { same = same; core = c; core_is = ap (slice_get cores) (sym same) ∙ q; place_is = r ∙ ap (λ x. Some x) at }

    by : (o : Option TheCore) → slice_get cores n ≡ o → given o unmade (λ k. given (place_of k e) unmade (λ p. made n p)) ≡ made m place → IsPlace cores n e m place
    by None q k = absurd (cc)
    by (Some c) q k = within c q (place_of c e) refl k

not_nowhere : (cores : List TheCore) (n : ℕ) (e : EndId) {P : Type 0} → location_at cores n e ≡ nowhere → P
not_nowhere cores n e {P} h = by (slice_get cores n) refl h
  where
    within : (o : Option ℕ) → given o unmade (λ p. made n p) ≡ nowhere → P
    within None k = absurd (cc)
    within (Some p) k = absurd (cc)

    by : (o : Option TheCore) → slice_get cores n ≡ o → given o unmade (λ k. given (place_of k e) unmade (λ p. made n p)) ≡ nowhere → P
    by None q k = absurd (cc)
    by (Some c) q k = within (place_of c e) k

-- ---- nowhere

pub find_none : FindsNone
find_none w s e p h = some_or_none (binding_of s e) (λ q. q) (λ b q. there b q)
  where
    there : (b : Binding) → binding_of s e ≡ Some b → binding_of s e ≡ None
    there b q =
        let g = gets s.bindings w.bindings e.binding b p.bindings.count q in
        not_nowhere w.cores (core_in e.side g.0) e
        (sym (ap (λ o. given o nowhere (λ x. location_at w.cores (core_in e.side x) e)) g.1) ∙ h)

-- ---- made

-- the binding of a location that isn't nowhere
binding_at : (w : TheWorld) (e : EndId) (location : WhereEnd) → location_of w e ≡ location → (nowhere ≡ location → ⊥)
    → (x : TheBinding) × (slice_get w.bindings e.binding ≡ Some x) × (location_at w.cores (core_in e.side x) e ≡ location)
binding_at w e location h none = by (slice_get w.bindings e.binding) refl h
  where
    by : (o : Option TheBinding) → slice_get w.bindings e.binding ≡ o → given o nowhere (λ x. location_at w.cores (core_in e.side x) e) ≡ location
        → (x : TheBinding) × (slice_get w.bindings e.binding ≡ Some x) × (location_at w.cores (core_in e.side x) e ≡ location)
    by None q k = absurd (none k)
    by (Some x) q k = (x, q, k)

pub interface_known : (s : State) (e : EndId) (b : Binding) → Sound s → binding_of s e ≡ Some b → (i : Planned) × (interface_of s b ≡ Some i)
interface_known s e b sound q =
    let stands = sound.ends e (end_in e.side b) (end_of_binding s e b q) in
    let same : stands.binding ≡ b = same_some (binding_of s e) stands.binding b stands.there q in
    (stands.interface, ap (interface_of s) (sym same) ∙ stands.interface_is)

pub find_made : FindsMade
find_made w s e n place h q =
    let p = h.showing in
    let x = binding_at w e (made n place) q (λ k. absurd (cc)) in
    let at = place_at w.cores (core_in e.side x.0) e n place x.2 in
    let sits = p.ends.only n at.core e place at.core_is at.place_is in
    let b = binding_of_end s e sits.0 sits.1.1 in
    let seat = sits.1.0 in
    let i = interface_known s e b.0 h.sound b.1 in
    let seat_is : (end_in e.side b.0).seat ≡ Some seat = ap (λ (y : End). y.seat) b.2 ∙ sits.1.2 in
    let m = p.ends.made e b.0 i.0 seat b.1 i.1 seat_is in
    let core_at : seat.dispatcher.core ≡ n = sits.1.3 in
    let core_is : slice_get w.cores n ≡ Some m.core = ap (slice_get w.cores) (sym core_at) ∙ m.core_is in
    let same : m.core ≡ at.core = same_some (slice_get w.cores n) m.core at.core core_is at.core_is in
    let place_is : m.place ≡ place
    = same_some (place_of m.core e) m.place place m.place_is (ap (λ (c : TheCore). place_of c e) same ∙ at.place_is) in
    record {
      binding = b.0;
      binding_is = b.1;
      interface = i.0;
      interface_is = i.1;
      seat = seat;
      seat_is = seat_is;
      core_at = core_at;
      core = m.core;
      core_is = core_is;
      place_is = m.place_is ∙ ap (λ k. Some k) place_is;
      at = m.at;
      at_is = ap (slice_get m.core.board.seats) (sym place_is) ∙ m.at_is;
      dispatcher = m.dispatcher;
      channel = m.channel;
      shows = m.shows;
      wired_end = m.wired_end;
      wired_end_is = ap (slice_get m.core.wired_ends) (sym place_is) ∙ m.wired_end_is;
      name_is = m.name_is;
      wiring = m.wiring;
    }

-- ---- kept until it is made

pub none_some : {X : Type 0} {P : Type 0} (o : Option X) → o ≡ None → IsSome o → P
none_some None q h = absurd (let e : false ≡ true = h in cc)
none_some {X} {P} (Some x) q h = absurd (cc)

-- an end without a seat is the server's of a circuit, and isn't bound
record IsServer (e : EndId) (b : Binding) : Type 0 where
  pub server : e.side ≡ Server
  pub route : Route
  pub back : b.back ≡ over_route route
  pub seat : b.server.seat ≡ None
  pub circuit : b.server.circuit ≡ None

no_seat : (s : State) (e : EndId) (b : Binding) → Sound s → binding_of s e ≡ Some b → (end_in e.side b).seat ≡ None → IsServer e b
no_seat s e b sound q none = by_back b.back refl (sound.bound e.binding b q)
  where
    both : (side : Side) → e.side ≡ side → IsSome b.client.seat → IsSome b.server.seat → IsServer e b
    both Client k x y = none_some b.client.seat (ap (λ (by : Side). (end_in by b).seat) (sym k) ∙ none) x
    both Server k x y = none_some b.server.seat (ap (λ (by : Side). (end_in by b).seat) (sym k) ∙ none) y

    circuit : (r : Route) (v : OpeningVerdict) → BoundBy r v b → b.server.seat ≡ None → b.server.circuit ≡ None
    circuit r undecided h k = h.1
    circuit r (denied i fault) h k = h.1
    circuit r (granted i) h k = none_some b.server.seat k h.2

    by_side : (side : Side) → e.side ≡ side → (r : Route) → b.back ≡ over_route r → BoundBy r r.verdict b → IsServer e b
    by_side Client k r back h =
        let leads = sound.routes e.binding r (record { binding = b; there = q; back = back }) in
        not_both b.client.seat leads.client (ap (λ (by : Side). (end_in by b).seat) (sym k) ∙ none) leads.client_is
    by_side Server k r back h =
        let seat : b.server.seat ≡ None = ap (λ (by : Side). (end_in by b).seat) (sym k) ∙ none in
        record { server = k; route = r; back = back; seat = seat; circuit = circuit r r.verdict h seat }

    by_back : (back : Back) → b.back ≡ back → BoundWhere back b → IsServer e b
    by_back local k h = both e.side refl h.2 h.3
    by_back (over_ring n) k h = both e.side refl h.2 h.3
    by_back (over_route r) k h = by_side e.side refl r k h

pub find_unmade : FindsUnmade
find_unmade w s e h q =
    let p = h.showing in
    let x = binding_at w e unmade q (λ k. absurd (cc)) in
    let b = gets w.bindings s.bindings e.binding x.0 (sym p.bindings.count) x.1 in
    let i = interface_known s e b.0 h.sound b.1 in
    let shown = p.bindings.each e.binding b.0 x.0 b.1 x.1 in
    let none : (end_in e.side b.0).seat ≡ None = some_or_none (end_in e.side b.0).seat (λ k. k) (λ seat k.
    let m = p.ends.made e b.0 i.0 seat b.1 i.1 k in
    let core : core_in e.side x.0 ≡ seat.dispatcher.core = shown.seated e seat refl k in
    not_made (core_in e.side x.0) m.place
    (sym (location_made w.cores (core_in e.side x.0) e m.core m.place (ap (slice_get w.cores) core ∙ m.core_is) m.place_is) ∙ x.2)) in
    let server = no_seat s e b.0 h.sound b.1 none in
    record {
      binding = b.0;
      binding_is = b.1;
      interface = i.0;
      interface_is = i.1;
      server = server.server;
      route = server.route;
      back = server.back;
      seat = server.seat;
      circuit = server.circuit;
      there = x.0;
      there_is = x.1;
      kept = shown.unmade i.0 i.1 server.seat;
    }
  where
    not_made : {P : Type 0} (n place : ℕ) → made n place ≡ unmade → P
    not_made {P} n place k = absurd (cc)
