-- In a sound state an opening that arrives finds the server's end without a seat. So each step of a sound state keeps the seats.
use Rattle.std.proofs.Common.{◌≡◌, refl, ap, subst, ℕ, zero, suc, Some}
use Rattle.fl_base.specs.declared.identity.Side.TheVariants.{Server}
use Rattle.fl_hop.specs.declared.entry.HopTarget.{HopTarget}
use Rattle.fl_hop.specs.declared.entry.HopTarget.TheVariants.{Link as to_link, End as to_end}
use Rattle.fl_hop.specs.declared.entry.Hop.{Hop}
use Rattle.fl_hop.specs.Table.{hop_at}
use Rattle.fl_model.specs.Events.{Event}
use Rattle.fl_model.specs.Rings.{OpeningLabel, MonitorLabel, open_circuit, circuit_opened, circuit_refused, says, RingLabel}
use Rattle.fl_model.specs.Monitors.{Core, can_say, Fate, goes_on, ends_at, fails, fate, hears_opening, hears_opened, hears_refused, Hearing, hears}
use Rattle.fl_model.specs.State.{OpeningVerdict, undecided, granted, denied, Route, Back, State, core_of, first_on}
use Rattle.fl_model.specs.Binding.{end_id}
use Rattle.fl_model.specs.Forwarding.{LinkEnd}
use Rattle.fl_model.specs.Standing.{due_by}
use Rattle.fl_model.specs.SoundOpenings.{IsDue}
use Rattle.fl_model.specs.SoundRoutes.{NoneBound, BoundBy, BoundWhere}
use Rattle.fl_model.specs.SoundPlaces.{SeatsAgree}
use Rattle.fl_model.specs.Sound.{Sound}
use Rattle.fl_model.specs.Step.{step}
use Rattle.fl_model_laws.proofs.Cases.{either, by_given}
use Rattle.fl_model_laws.proofs.Hearing.{LinkThere, link_there, is_under_way}
use Rattle.fl_model_laws.proofs.Arriving.{same_opening, not_opened, not_refused, said_same}
use Rattle.fl_model_laws.proofs.Seats.{Unseated}
use Rattle.fl_model_laws.proofs.SeatsStep.{SitFits, step_keeps_seats}
use Rattle.fl_model_laws.proofs.Walk.{IsHere}

pub record OpensFor (n : ℕ) (route : Route) (o : OpeningLabel) : Type 0 where
  pub binding : n ≡ o.binding
  pub verdict : route.verdict ≡ undecided

pub opens_for : (n : ℕ) (route : Route) (from to : ℕ) (o : OpeningLabel) (v : OpeningVerdict) → route.verdict ≡ v
    → due_by n route v ≡ Some (record { from = from; to = to; said = open_circuit o }) → OpensFor n route o
opens_for n route from to o undecided e h =
    record { binding = ap (λ (p : OpeningLabel). p.binding) (same_opening _ o (said_same _ _ h)); verdict = e }
opens_for n route from to o (granted zero) e h = absurd (cc)
opens_for n route from to o (granted (suc i)) e h = absurd (not_opened _ o (said_same _ _ h))
opens_for n route from to o (denied zero fault) e h = absurd (cc)
opens_for n route from to o (denied (suc i) fault) e h = absurd (not_refused _ _ o (said_same _ _ h))

opening_fits : (s : State) (l : ℕ) (o : OpeningLabel) (f : Fate) (k : Core) → Unseated (end_id o.binding Server) s → SitFits s (hears_opening l o f k).heard
opening_fits s l o (goes_on m n) k h = either (λ (x : Hearing). SitFits s x.heard) (can_say m k) _ _ (λ q. tt) (λ q. tt)
opening_fits s l o (ends_at d) k h = either (λ (x : Hearing). SitFits s x.heard) (can_say l k) _ _ (λ q. h) (λ q. tt)
opening_fits s l o (fails fault) k h = either (λ (x : Hearing). SitFits s x.heard) (can_say l k) _ _ (λ q. tt) (λ q. tt)

opened_fits : (s : State) (l c : ℕ) (hop : Hop) (way : HopTarget) (k : Core) → SitFits s (hears_opened l c hop way k).heard
opened_fits s l c hop (to_link m d) k = either (λ (x : Hearing). SitFits s x.heard) (can_say m.0 k) _ _ (λ q. tt) (λ q. tt)
opened_fits s l c hop (to_end e) k = tt

refused_fits : (s : State) (l c fault : ℕ) (hop : Hop) (way : HopTarget) (k : Core) → SitFits s (hears_refused l c fault hop way k).heard
refused_fits s l c fault hop (to_link m d) k = either (λ (x : Hearing). SitFits s x.heard) (can_say m.0 k) _ _ (λ q. tt) (λ q. tt)
refused_fits s l c fault hop (to_end e) k = tt

module _ (s : State) (sound : Sound s) where
  server_unseated : (here : LinkEnd) (o : OpeningLabel) (first : RingLabel) → IsHere here s → first_on here.ring s ≡ Some first
      → first.label ≡ says (open_circuit o) → Unseated (end_id o.binding Server) s
  server_unseated here o first j q l =
      let t : LinkThere s here = link_there s here j in
      let due : IsDue s (record { from = here.neighbour; to = here.core; said = open_circuit o }) =
      sound.messages here.neighbour here.core (open_circuit o) (is_under_way s here (open_circuit o) first t q l) in
      let route : Route = due.route in
      let opens : OpensFor due.binding route o = opens_for due.binding route here.neighbour here.core o route.verdict refl due.due in
      let bound : BoundWhere due.routed.binding.back due.routed.binding = sound.bound due.binding due.routed.binding due.routed.there in
      let by : BoundBy route route.verdict due.routed.binding = subst (λ (a : Back). BoundWhere a due.routed.binding) due.routed.back bound in
      let none : NoneBound due.routed.binding = subst (λ (v : OpeningVerdict). BoundBy route v due.routed.binding) opens.verdict by in
      subst (λ (n : ℕ). Unseated (end_id n Server) s) opens.binding (due.routed.binding, due.routed.there, none.2)

  pub sit_fits : (here : LinkEnd) (m : MonitorLabel) (first : RingLabel) (k : Core) → IsHere here s → first_on here.ring s ≡ Some first → first.label ≡ says m
      → core_of s here.core ≡ Some k → SitFits s (hears s.services here.link m k).heard
  sit_fits here (open_circuit o) first k j q l at = opening_fits s here.link o (fate s.services o k) k (server_unseated here o first j q l)
  sit_fits here (circuit_opened c) first k j q l at =
      by_given (λ (x : Hearing). SitFits s x.heard) (hop_at k.circuits here.link c) _ _ tt (λ hop r. opened_fits s here.link c hop hop.way k)
  sit_fits here (circuit_refused c fault) first k j q l at =
      by_given (λ (x : Hearing). SitFits s x.heard) (hop_at k.circuits here.link c) _ _ tt (λ hop r. refused_fits s here.link c fault hop hop.way k)

pub sound_seats : (s : State) (v : Event) → Sound s → SeatsAgree (step s v).state
sound_seats s v sound = step_keeps_seats s v sound.seats sound.bare (sit_fits s sound)
