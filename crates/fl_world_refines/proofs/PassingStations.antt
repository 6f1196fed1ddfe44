-- A call's fragment passes a station between: its end has still to send what it had, and the other end has taken what it had.
use Rattle.std.proofs.Common.{◌≡◌, ◌≢◌, refl, sym, ◌∙◌, ap, subst, ℕ, zero, suc, ◌+◌, ◌-◌, ◌<◌, ◌≤◌, nat_lt, if◌then◌else◌, List, [], ◌∷◌, ◌++◌, length, map, drop, slice_get, Option, Some, None, arith}
use Rattle.std.specs.Prelude.{slice_index}
use Rattle.fl_base.specs.declared.identity.EndId.{EndId}
use Rattle.fl_base.specs.declared.identity.Side.{Side}
use Rattle.fl_base.specs.declared.identity.Side.TheVariants.{Client, Server}
use Rattle.fl_base.specs.Ends.{other, peer}
use Rattle.fl_wire.specs.Payload.{frags_on}
use Rattle.fl_endpoint.specs.View.{TheOutgoing}
use Rattle.fl_model.specs.Given.{changed_at}
use Rattle.fl_model.specs.Calls.{Planned, total, last_count, stream}
use Rattle.fl_model.specs.Rings.{RingLabel}
use Rattle.fl_model.specs.Ends.{Direction, written_of, taken_of, last_station, passes}
use Rattle.fl_model.specs.State.{Route, Binding, State, binding_of, interface_of, end_in}
use Rattle.fl_model.specs.Forwarding.{LinkEnd, FragAtHop}
use Rattle.fl_model.specs.Sound.{Sound}
use Rattle.fl_hop.specs.declared.entry.Hop.{Hop}
use Rattle.fl_model_laws.proofs.TurnsTold.{interface_there}
use Rattle.fl_model_laws.proofs.Views.{changed_later}
use Rattle.fl_model_laws.proofs.Walk.{IsPassing}
use Rattle.fl_model_laws.proofs.Ways.{way_long, got_within}
use Rattle.fl_model_laws.proofs.Scenes.{way_on}
use Rattle.fl_world_refines.specs.Ends.{outgoing_of, parts_of}
use Rattle.fl_world_refines.specs.StateLaws.{EndIn, taken_by, FirstInTurn}
use Rattle.fl_world_refines.proofs.Frames.{OutStays}
use Rattle.fl_world_refines.proofs.PassingNumbers.{onward, its_passed}
use Rattle.fl_world_refines.proofs.PassingRings.{Showings}

other_twice : (side : Side) → other (other side) ≡ side
other_twice Client = refl
other_twice Server = refl

first_stays : (xs : List ℕ) (n : ℕ) (f : ℕ → ℕ) → slice_index (changed_at (suc n) f xs) 0 ≡ slice_index xs 0
first_stays [] n f = refl
first_stays (x ∷ xs) n f = ap (λ (ys : List ℕ). slice_index ys 0) (changed_later x xs n f)

-- at a station behind the first, nothing more is written
pub out_stays : (i : Planned) (d : Direction) (place : ℕ) → OutStays i d (passes (suc place) d)
out_stays i d place =
    let same : written_of (passes (suc place) d) ≡ written_of d = first_stays d.passed place (λ n. n + 1) in
    record {
      accepted = refl;
      outgoing = λ circuit. ap (λ (n : ℕ). let o : TheOutgoing = record {
        unwritten = drop n (stream circuit i d.accepted);
        count = if nat_lt n (total i d.accepted) then last_count i d.accepted else 0;
        waiting = map (frags_on circuit i.plan i.interface) d.waiting;
      } in o) same;
    }

-- an end's interface, and what stays of its direction
pub record StationPassed (s : State) (e : EndId) (b : Binding) (station : ℕ) : Type 0 where
  pub interface : Planned
  pub interface_is : interface_of s b ≡ Some interface
  pub out : OutStays interface (end_in e.side b).out (passes station (end_in e.side b).out)
  pub parts : parts_of interface (passes station (end_in e.side b).out) ≡ parts_of interface (end_in e.side b).out

pub station_passed : Showings → (s : State) (sound : Sound s) (here : LinkEnd) (p : FragAtHop) (first : RingLabel) (route : Route) (hop : Hop) (k : IsPassing here p first route hop s)
    → StationPassed s p.end k.binding p.station
station_passed law s sound here p first route hop k =
    let (i, interface_is) = interface_there s sound p.end k.binding k.binding_is in
    let o = onward s sound here p first route hop k in
    let place : ℕ = o.place in
    let station : p.station ≡ suc o.place = o.station in
    let d : Direction = (end_in p.end.side k.binding).out in
    let long : length (end_in p.end.side k.binding).out.passed ≡ length route.cores + 1 = its_passed s sound here p first route hop k in
    let way : length (way_on p.end.side route.cores) ≡ length route.cores = way_long p.end.side route.cores in
    let within : suc o.place < length (way_on p.end.side route.cores) = got_within (way_on p.end.side route.cores) (suc o.place) here.core o.far in
    let turn : FirstInTurn s = law.turn s sound.ends sound.routes sound.labels sound.ways sound.counted in
    let its : EndIn s (peer p.end) k.binding i = record { binding = k.binding_is; interface = interface_is } in
    let few : taken_of (end_in p.end.side k.binding).out ≤ total i (end_in p.end.side k.binding).out.accepted =
    subst (λ (side : Side). taken_of (end_in side k.binding).out ≤ total i (end_in side k.binding).out.accepted) (other_twice p.end.side) (turn.few (peer p.end) k.binding i its) in
    record {
      interface = i;
      interface_is = interface_is;
      out = subst (λ (n : ℕ). OutStays i (end_in p.end.side k.binding).out (passes n (end_in p.end.side k.binding).out)) (sym station) (out_stays i (end_in p.end.side k.binding).out o.place);
      parts = (law.others i (end_in p.end.side k.binding).out (omega (arith, long, way, within)) few).passing p.station
          (λ (same : p.station ≡ length (end_in p.end.side k.binding).out.passed - 1). omega (arith, long, way, within, station, same));
    }
