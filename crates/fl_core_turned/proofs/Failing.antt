-- Why what comes on a link fails, by what the core's cut says.
use Rattle.std.proofs.Common.{◌≡◌, refl, sym, ◌∙◌, ap, subst, ℕ, ◌||◌, true, false, is_some, List, [], ◌∷◌, map, slice_get, zero, suc}
use Rattle.std.proofs.Common.{Option, Some, None, Ok, Err}
use Rattle.fl_base.specs.declared.identity.EndId.{EndId}
use Rattle.fl_base.specs.declared.identity.LinkId.{LinkId}
use Rattle.fl_base.specs.Given.{given}
use Rattle.fl_wire.specs.declared.fault.WireFault.TheVariants as wire
use Rattle.fl_hop.specs.Openings.{IsWaiting}
use Rattle.fl_hop.specs.Table.{TheCircuits}
use Rattle.fl_nameserv.specs.Registrations.{TheRegistration}
use Rattle.fl_monitor.specs.declared.message.MonitorMessage.{MonitorMessage}
use Rattle.fl_monitor.specs.declared.message.MonitorMessage.TheVariants.{OpenCircuit, CircuitOpened, CircuitRefused}
use Rattle.fl_monitor.specs.declared.opening.Opening.{Opening}
use Rattle.fl_monitor.specs.Fates.{Known, fate, is_in_place}
use Rattle.fl_monitor.specs.Hearing.{IsMisrouted, heard_by, opened_at, refused_at}
use Rattle.fl_ring.specs.SharedSides.{TheSide}
use Rattle.fl_core.specs.declared.fault.LinkReceiveFault.TheVariants as link
use Rattle.fl_core.specs.declared.wiring.WiredEnd.{WiredEnd}
use Rattle.fl_core.specs.Hearing.{known_for}
use Rattle.fl_core.specs.View.{client_of, server_of, place_in, place_of, arrivals_by, arrivals_of, arriving, arriving_at}
use Rattle.fl_core_run.specs.LogEntries.{LogEntry, looked, passed, arrived, heard, said, told, opened, called, ruled, wrote, acked, turned, Does}
use Rattle.fl_core_run.specs.Run.{TheRun}
use Rattle.fl_model.specs.Monitors.{Service}
use Rattle.fl_world_refines.specs.Cores.{registered_from, NamesShow}
use Rattle.fl_world_refines.proofs.Tests.{by_test}
use Rattle.fl_core_refines.specs.Cut.{CoreCut, ShowsCut}
use Rattle.fl_core_refines.specs.CutEnds.{EndCut}
use Rattle.fl_core_turned.specs.Reasons.{lacks_memory, has_end, known_in, IsOutOfPlace, arrives_at, HasReason}
use Rattle.fl_core_turned.specs.Turned.{shared_ways}

-- ---- a message out of its place

abbrev known_by : List TheRegistration → List (Option ℕ) → ℕ → Known
known_by names places binding = record {
  names = names;
  here = record { has_end = is_some (place_in places (client_of binding)) || is_some (place_in places (server_of binding)); has_place = true };
}

same_place : (services : List Service) (a : CoreCut) (s : TheRun TheSide) (l c : ℕ) (o : Opening) → ShowsCut a s → NamesShow services s.offers.names
    → is_in_place (known_by s.offers.names s.core.places o.binding) s.core.monitor.circuits l c o ≡ is_in_place (known_in services a o.binding) a.core.circuits l c o
same_place services a s l c o h names =
    ap (λ (t : TheCircuits). is_in_place (known_by s.offers.names s.core.places o.binding) t l c o) h.monitor.circuits
    ∙ ap (λ (x : List TheRegistration). is_in_place (known_by x s.core.places o.binding) a.core.circuits l c o) names
    ∙ ap (λ (x : List (Option ℕ)). is_in_place (known_by (registered_from 1 services) x o.binding) a.core.circuits l c o) (sym h.places)

out_of_place : (services : List Service) (a : CoreCut) (s : TheRun TheSide) (l : LinkId) (m : MonitorMessage) → ShowsCut a s → NamesShow services s.offers.names
    → IsMisrouted (known_for s.offers s.core m) s.core.monitor.circuits l m → IsOutOfPlace services l.0 a m
out_of_place services a s l (OpenCircuit c binding service path) h names none =
    let o : Opening = record { binding = binding; service = service; path = path } in
    let known : Known = known_for s.offers s.core (OpenCircuit c binding service path) in
    by_test (is_in_place known s.core.monitor.circuits l.0 c.0 o)
    (λ yes. absurd (none (heard_by binding c (fate known s.core.monitor.circuits l.0 o)) (yes, refl)))
    (λ no. sym (same_place services a s l.0 c.0 o h names) ∙ no)
out_of_place services a s l (CircuitOpened c) h names none = λ hop waits.
    none (opened_at c hop.binding hop.way) (hop, subst (λ (t : TheCircuits). IsWaiting t l.0 c.0 hop) (sym h.monitor.circuits) waits, refl)
out_of_place services a s l (CircuitRefused c reason) h names none = λ hop waits.
    none (refused_at reason hop.binding hop.way) (hop, subst (λ (t : TheCircuits). IsWaiting t l.0 c.0 hop) (sym h.monitor.circuits) waits, refl)

-- ---- a fragment for no end

mapped : (xs : List EndCut) (e : ℕ)
    → (given (slice_get xs e) None λ x. arrivals_by x.wired_end.wiring) ≡ (given (slice_get (map (λ (x : EndCut). x.wired_end) xs) e) None λ p. arrivals_by p.wiring)
mapped [] e = refl
mapped (x ∷ xs) zero = refl
mapped (x ∷ xs) (suc e) = mapped xs e

none_by : (e : ℕ) (x : Option ℕ) → (given x None λ (a : ℕ). Some (arriving e a)) ≡ None → x ≡ None
none_by e None h = refl
none_by e (Some a) h = absurd (cc)

no_arrivals : (s : TheRun TheSide) (o : Option ℕ) → (given o None λ (e : ℕ). given (arrivals_of s.core e) None λ (a : ℕ). Some (arriving e a)) ≡ None
    → (given o None λ (e : ℕ). arrivals_of s.core e) ≡ None
no_arrivals s None h = refl
no_arrivals s (Some e) h = none_by e (arrivals_of s.core e) h

arrives_for : (a : CoreCut) (s : TheRun TheSide) (o : Option ℕ) → ShowsCut a s
    → (given o None λ (e : ℕ). given (slice_get a.ends e) None λ x. arrivals_by x.wired_end.wiring) ≡ (given o None λ (e : ℕ). arrivals_of s.core e)
arrives_for a s None h = refl
arrives_for a s (Some e) h = mapped a.ends e ∙ ap (λ (ps : List WiredEnd). given (slice_get ps e) None λ p. arrivals_by p.wiring) h.wired_ends

no_end : (a : CoreCut) (s : TheRun TheSide) (name : EndId) → ShowsCut a s → arriving_at s.core name ≡ None → arrives_at a name ≡ None
no_end a s name h none =
    ap (λ (places : List (Option ℕ)). given (place_in places name) None λ (e : ℕ). given (slice_get a.ends e) None λ x. arrivals_by x.wired_end.wiring) h.places
    ∙ arrives_for a s (place_of s.core name) h ∙ no_arrivals s (place_of s.core name) none

-- ---- the reasons

pub reasons : (services : List Service) (log_entry : LogEntry) (a : CoreCut) (s m : TheRun TheSide) → ShowsCut a s → NamesShow services s.offers.names
    → lacks_memory log_entry ≡ false → Does shared_ways log_entry s m → HasReason services log_entry a
reasons services (heard n l frag (Err (link.Wire wire.NotFirst))) a s m h names remembers on = on.event.0.0
reasons services (heard n l frag (Err (link.Wire wire.FirstInside))) a s m h names remembers on = on.event.0.0
reasons services (heard n l frag (Err (link.Wire wire.UnknownMessage))) a s m h names remembers on = on.event.0.0
reasons services (heard n l frag (Err (link.Wire wire.NotZero))) a s m h names remembers on = on.event.0.0
reasons services (heard n l frag (Err (link.Wire wire.OutOfType))) a s m h names remembers on = on.event.0.0
reasons services (heard n l frag (Err (link.Wire wire.TooLong))) a s m h names remembers on = on.event.0.0
reasons services (heard n l frag (Err (link.Wire wire.Memory))) a s m h names remembers on = absurd on.event.0
reasons services (heard n l frag (Err link.Misrouted)) a s m h names remembers on =
    let ((msg, is, both), same) = on.event in (msg, is, out_of_place services a s l msg h names both.0.0)
reasons services (heard n l frag (Err link.Memory)) a s m h names remembers on = absurd (cc)
reasons services (heard n l frag (Err link.Failed)) a s m h names remembers on = let ((msg, is, none), same) = on.event in absurd none
reasons services (heard n l frag (Err link.Marked)) a s m h names remembers on = let ((msg, is, none), same) = on.event in absurd none
reasons services (heard n l frag (Ok answer)) a s m h names remembers on = tt
reasons services (arrived n l frag name (Err link.Misrouted)) a s m h names remembers on = no_end a s name h on.event.0
reasons services (arrived n l frag name (Err link.Memory)) a s m h names remembers on = tt
reasons services (arrived n l frag name (Err link.Failed)) a s m h names remembers on = tt
reasons services (arrived n l frag name (Err link.Marked)) a s m h names remembers on = tt
reasons services (arrived n l frag name (Err (link.Wire f))) a s m h names remembers on = tt
reasons services (arrived n l frag name (Ok answer)) a s m h names remembers on = tt
reasons services (looked n l r) a s m h names remembers on = tt
reasons services (passed n k frag c r) a s m h names remembers on = tt
reasons services (said n l r) a s m h names remembers on = tt
reasons services (told n l r) a s m h names remembers on = tt
reasons services (opened name request r) a s m h names remembers on = tt
reasons services (called name c r) a s m h names remembers on = tt
reasons services (ruled name msg reply r) a s m h names remembers on = tt
reasons services (wrote name out r) a s m h names remembers on = tt
reasons services (acked name n r) a s m h names remembers on = tt
reasons services (turned d name from r) a s m h names remembers on = tt
