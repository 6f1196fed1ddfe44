-- What a monitor makes of a message, and the machine's core of what was said.
use Rattle.std.proofs.Common.{◌≡◌, ◌≢◌, refl, sym, ◌∙◌, ap, subst, ℕ, ◌+◌, ◌==◌, cond, true, false, List, [], ◌∷◌, map, slice_get, Option, Some, None, arith}
use Rattle.std.specs.Prelude.{Result, Ok, Err, position}
use Rattle.std.specs.List.{position_from}
use Rattle.std.specs.Option.{option_map}
use Rattle.std.proofs.lemmas.Option.{slice_get-map}
use Rattle.std.proofs.lemmas.Bool.Decides.{nat_tests}
use Rattle.std.proofs.lemmas.Iterator.Adapters.{position_from-zero}
use Rattle.fl_base.specs.declared.identity.Circuit.{Circuit}
use Rattle.fl_base.specs.Given.{given}
use Rattle.fl_base.specs.Numbered.{core_id, link_id, circuit_id}
use Rattle.fl_hop.specs.declared.entry.HopTarget.{HopTarget}
use Rattle.fl_hop.specs.declared.entry.HopTarget.TheVariants.{Link as to_link, End as to_end}
use Rattle.fl_hop.specs.declared.entry.Hop.{Hop}
use Rattle.fl_hop.specs.Table.{TheCircuits, hop_at, link_of, without_entry}
use Rattle.fl_hop.specs.Numbers.{next_own, after_taking}
use Rattle.fl_hop.specs.Openings.{opened, passed_on, arrived, answered}
use Rattle.fl_nameserv.specs.Registrations.{by_iref}
use Rattle.fl_monitor.specs.declared.heard.MessageOutcome.{MessageOutcome as Told}
use Rattle.fl_monitor.specs.declared.heard.MessageOutcome.TheVariants.{OpeningWentOn, ServerMade, OpeningFailed, AnswerWentOn}
use Rattle.fl_monitor.specs.declared.message.MonitorMessage.TheVariants.{OpenCircuit, CircuitOpened, CircuitRefused}
use Rattle.fl_monitor.specs.declared.fault.MonitorFault.{MonitorFault}
use Rattle.fl_monitor.specs.declared.fault.MonitorFault.TheVariants.{Misrouted, Differs, NoRoute, UsedUp, OutboxFull, PlansDiffer, Memory}
use Rattle.fl_monitor.specs.Routing.{is_core, next_on as next_named}
use Rattle.fl_monitor.specs.Fates.{Known, fate as fated, arrival as arrives, passage as passes_by}
use Rattle.fl_monitor.specs.Hearing.{ComesTo, heard_by, opened_at, refused_at, says as says_then, after_opening, table_after}
use Rattle.fl_monitor.specs.Monitors.{TheMonitor, may_say, AllSaid, Hears, Opens}
use Rattle.fl_monitor.specs.Monitors.{can_say as monitor_can_say}
use Rattle.fl_model.specs.Rings.{OpeningLabel, MonitorLabel, open_circuit, circuit_opened, circuit_refused}
use Rattle.fl_model.specs.Waits.{has_places}
use Rattle.fl_model.specs.Monitors.{Core, Service, service_of, link_to, next_on, Fate, goes_on, ends_at, fails, arrival, passage, fate, can_say, with_said, with_circuits}
use Rattle.fl_model.specs.Monitors.{Heard, no_outbox, opening_went_on, server_made, opening_failed, answer_went_on, Hearing, saying, hears_opening, hears_opened, hears_refused, goes_misrouted, hears, opens}
use Rattle.fl_world_refines.specs.Fragments.{message_of}
use Rattle.fl_world_refines.specs.Cores.{MonitorShows, registered_from, offer_of, NamesShow}
use Rattle.fl_world_refines.specs.CoreLaws.{registration_of, asked_of, SameHeard, HasPlaceAt, LeadsOn, MayBeHeard, delivery, HearAgrees, HearsAgree, NamesAgree}
use Rattle.fl_world_refines.proofs.Tests.{by_test, then_is, else_is}
use Rattle.fl_world_refines.proofs.Names.{names_agree}
use Rattle.fl_world_refines.proofs.Boxes.{same_room, said_shows}

-- ---- routes

position_named : (cores : List ℕ) (core i : ℕ) → position_from (is_core core) i (map core_id cores) ≡ position_from (λ (c : ℕ). c == core) i cores
position_named [] core i = refl
position_named (c ∷ cores) core i = ap (λ (o : Option ℕ). cond (c == core) (Some i) o) (position_named cores core (i + 1))

-- the core behind this one is the same
next_is : (cores : List ℕ) (core : ℕ) → next_named (map core_id cores) core ≡ option_map core_id (next_on cores core)
next_is cores core =
    ap (λ (o : Option ℕ). given o None λ place. slice_get (map core_id cores) (place + 1))
    (position_from-zero (is_core core) (map core_id cores) ∙ position_named cores core 0 ∙ sym (position_from-zero (λ (c : ℕ). c == core) cores))
    ∙ by_place (position (λ (c : ℕ). c == core) cores)
  where
    by_place : (o : Option ℕ) → (given o None λ place. slice_get (map core_id cores) (place + 1))
        ≡ option_map core_id (given o None λ j. slice_get cores (j + 1))
    by_place None = refl
    by_place (Some j) = slice_get-map core_id cores (j + 1)

-- ---- what an opening comes to

-- as the monitor tells it
abbrev pub outcome : ℕ → Circuit → Fate → Told
outcome n c (goes_on l m) = OpeningWentOn n (link_id l) (circuit_id m)
outcome n c (ends_at d) = ServerMade n d.place c
outcome n c (fails fault) = OpeningFailed n fault

-- at the last core
arrival_is : (known : Known) (services : List Service) (o : OpeningLabel) (k : Core) (n : ℕ) (c : Circuit) → NamesAgree services known.names
    → HasPlaceAt services o k known.here → next_on o.path k.circuits.core ≡ None
    → heard_by n c (arrives known o.service) ≡ outcome n c (arrival services o.service k)
arrival_is known services o k n c names place last = cases (service_of services o.service) refl where
  cases : (s : Option Service) → service_of services o.service ≡ s → heard_by n c (arrives known o.service) ≡ outcome n c (arrival services o.service k)
  cases None q =
      let none : by_iref o.service known.names ≡ None = names.none o.service q in
      rw (none, q) refl
  cases (Some x) q =
      let found : by_iref o.service known.names ≡ Some (registration_of o.service x) = names.found o.service x q in
      let p = place x last q in
      by_test (has_places 1 p.0)
      (λ t. let has : known.here.has_place ≡ true = p.2 ∙ t in rw (found, q, p.1, has, t) refl)
      (λ t. let has : known.here.has_place ≡ false = p.2 ∙ t in rw (found, q, p.1, has, t) refl)

apart : (l m : ℕ) → l ≢ m → (l == m) ≡ false
apart l m h = grind (arith, nat_tests, h)

-- elsewhere
passage_is : (l next : ℕ) (k : Core) (n : ℕ) (c : Circuit) → ((m : ℕ) → link_to next k ≡ Some m → l ≢ m)
    → heard_by n c (passes_by k.circuits l next) ≡ outcome n c (passage next k)
passage_is l next k n c other = cases (link_of k.circuits next) refl where
  by_number : (m : ℕ) → link_of k.circuits next ≡ Some m → (number : Option ℕ) → next_own k.circuits m ≡ number
      → heard_by n c (passes_by k.circuits l next) ≡ outcome n c (passage next k)
  by_number m q None r = let no : (l == m) ≡ false = apart l m (other m q) in rw (q, no, r) refl
  by_number m q (Some number) r = let no : (l == m) ≡ false = apart l m (other m q) in rw (q, no, r) refl

  cases : (m : Option ℕ) → link_of k.circuits next ≡ m → heard_by n c (passes_by k.circuits l next) ≡ outcome n c (passage next k)
  cases None q = rw q refl
  cases (Some m) q = by_number m q (next_own k.circuits m) refl

fate_is : (known : Known) (services : List Service) (l : ℕ) (o : OpeningLabel) (k : Core) (n : ℕ) (c : Circuit) → NamesAgree services known.names
    → HasPlaceAt services o k known.here → LeadsOn l o k
    → heard_by n c (fated known k.circuits l (asked_of o)) ≡ outcome n c (fate services o k)
fate_is known services l o k n c names place leads = cases (next_on o.path k.circuits.core) refl where
  cases : (next : Option ℕ) → next_on o.path k.circuits.core ≡ next
      → heard_by n c (fated known k.circuits l (asked_of o)) ≡ outcome n c (fate services o k)
  cases None q =
      let none : next_named (map core_id o.path) k.circuits.core ≡ None = next_is o.path k.circuits.core ∙ ap (option_map core_id) q in
      rw (none, q) (arrival_is known services o k n c names place q)
  cases (Some next) q =
      let some : next_named (map core_id o.path) k.circuits.core ≡ Some (core_id next) = next_is o.path k.circuits.core ∙ ap (option_map core_id) q in
      rw (some, q) (passage_is l next k n c (λ m r. leads next m q r))

-- ---- what is said then

said_ok : (l : ℕ) (said : MonitorLabel) (t : TheCircuits) (heard : Heard) (k : Core) (before after : TheMonitor) → MonitorShows k before
    → monitor_can_say before.outboxes l ≡ true
    → Rattle.fl_monitor.specs.Monitors.IsQueuedMessage (record { link = link_id l; message = message_of said }) before.outboxes after.outboxes → after.circuits ≡ t
    → ((saying l said t heard k).heard ≡ heard) × MonitorShows (saying l said t heard k).core after
said_ok l said t heard k before after h can a e =
    let room : can_say l k ≡ true = sym (same_room k.links before.outboxes l h.outboxes) ∙ can in
    let is : saying l said t heard k ≡ record { core = with_said l said (with_circuits t k); heard = heard }
    = then_is (can_say l k) (record { core = with_said l said (with_circuits t k); heard = heard }) (record { core = k; heard = no_outbox }) room in (
      ap (λ (x : Hearing). x.heard) is,
      subst (λ (x : Hearing). MonitorShows x.core after) (sym is) (said_shows l said t k before after h a e),
    )

said_full : (l : ℕ) (said : MonitorLabel) (t : TheCircuits) (heard : Heard) (k : Core) (before : TheMonitor) → MonitorShows k before
    → monitor_can_say before.outboxes l ≡ false → (saying l said t heard k).heard ≡ no_outbox
said_full l said t heard k before h can =
    let room : can_say l k ≡ false = sym (same_room k.links before.outboxes l h.outboxes) ∙ can in
    ap (λ (x : Hearing). x.heard)
    (else_is (can_say l k) (record { core = with_said l said (with_circuits t k); heard = heard }) (record { core = k; heard = no_outbox }) room)

-- what the machine heard, where it is this
same_heard : (heard now : Heard) (told : Told) → now ≡ heard → SameHeard heard told → SameHeard now told
same_heard heard now told e h = subst (λ (x : Heard). SameHeard x told) (sym e) h

-- ---- an opening

opening_ok : (l : ℕ) (o : OpeningLabel) (to : Fate) (k : Core) (before after : TheMonitor) → MonitorShows k before
    → may_say (says_then (link_id l) (message_of (open_circuit o)) (outcome o.binding (circuit_id o.circuit) to)) before.outboxes ≡ true
    → after.circuits ≡ after_opening k.circuits (link_id l) (circuit_id o.circuit) o.binding (outcome o.binding (circuit_id o.circuit) to)
    → AllSaid (says_then (link_id l) (message_of (open_circuit o)) (outcome o.binding (circuit_id o.circuit) to)) before.outboxes after.outboxes
    → SameHeard (hears_opening l o to k).heard (outcome o.binding (circuit_id o.circuit) to) × MonitorShows (hears_opening l o to k).core after
opening_ok l o (goes_on m n) k before after h can e a =
    let t = passed_on k.circuits (link_id l) (circuit_id o.circuit) (link_id m) (circuit_id n) o.binding in
    let ok = said_ok m (open_circuit (record o { circuit = n })) t (opening_went_on o.binding n) k before after h can a e in
    (same_heard (opening_went_on o.binding n) (hears_opening l o (goes_on m n) k).heard (OpeningWentOn o.binding (link_id m) (circuit_id n)) ok.0 (refl, refl), ok.1)
opening_ok l o (ends_at d) k before after h can e a =
    let t = arrived k.circuits (link_id l) (circuit_id o.circuit) o.binding in
    let ok = said_ok l (circuit_opened o.circuit) t (server_made o.binding d o.circuit) k before after h can a e in
    (same_heard (server_made o.binding d o.circuit) (hears_opening l o (ends_at d) k).heard (ServerMade o.binding d.place (circuit_id o.circuit)) ok.0 (refl, refl, refl), ok.1)
opening_ok l o (fails fault) k before after h can e a =
    let t = after_taking k.circuits l in
    let ok = said_ok l (circuit_refused o.circuit fault) t (opening_failed o.binding fault) k before after h can a e in
    (same_heard (opening_failed o.binding fault) (hears_opening l o (fails fault) k).heard (OpeningFailed o.binding fault) ok.0 (refl, refl), ok.1)

opening_full : (l : ℕ) (o : OpeningLabel) (to : Fate) (k : Core) (before : TheMonitor) → MonitorShows k before
    → may_say (says_then (link_id l) (message_of (open_circuit o)) (outcome o.binding (circuit_id o.circuit) to)) before.outboxes ≡ false
    → (hears_opening l o to k).heard ≡ no_outbox
opening_full l o (goes_on m n) k before h can =
    said_full m (open_circuit (record o { circuit = n })) (passed_on k.circuits (link_id l) (circuit_id o.circuit) (link_id m) (circuit_id n) o.binding)
    (opening_went_on o.binding n) k before h can
opening_full l o (ends_at d) k before h can =
    said_full l (circuit_opened o.circuit) (arrived k.circuits (link_id l) (circuit_id o.circuit) o.binding) (server_made o.binding d o.circuit) k before h can
opening_full l o (fails fault) k before h can =
    said_full l (circuit_refused o.circuit fault) (after_taking k.circuits l) (opening_failed o.binding fault) k before h can

-- ---- an answer

opened_ok : (l c : ℕ) (hop : Hop) (way : HopTarget) (k : Core) (before after : TheMonitor) → MonitorShows k before
    → may_say (says_then (link_id l) (CircuitOpened (circuit_id c)) (opened_at (circuit_id c) hop.binding way)) before.outboxes ≡ true
    → after.circuits ≡ answered k.circuits (link_id l) (circuit_id c) hop
    → AllSaid (says_then (link_id l) (CircuitOpened (circuit_id c)) (opened_at (circuit_id c) hop.binding way)) before.outboxes after.outboxes
    → SameHeard (hears_opened l c hop way k).heard (opened_at (circuit_id c) hop.binding way) × MonitorShows (hears_opened l c hop way k).core after
opened_ok l c hop (to_link m d) k before after h can e a =
    let t = answered k.circuits (link_id l) (circuit_id c) hop in
    let ok = said_ok m.0 (circuit_opened d.0) t (answer_went_on hop.binding) k before after h can a e in
    (same_heard (answer_went_on hop.binding) (hears_opened l c hop (to_link m d) k).heard (AnswerWentOn hop.binding m d) ok.0 refl, ok.1)
opened_ok l c hop (to_end end) k before after h can e a = (
  (refl, refl),
  record { circuits = e; outboxes = subst (Rattle.fl_world_refines.specs.Cores.OutboxesShow k.links) (sym a) h.outboxes },
)

opened_full : (l c : ℕ) (hop : Hop) (way : HopTarget) (k : Core) (before : TheMonitor) → MonitorShows k before
    → may_say (says_then (link_id l) (CircuitOpened (circuit_id c)) (opened_at (circuit_id c) hop.binding way)) before.outboxes ≡ false
    → (hears_opened l c hop way k).heard ≡ no_outbox
opened_full l c hop (to_link m d) k before h can =
    said_full m.0 (circuit_opened d.0) (answered k.circuits (link_id l) (circuit_id c) hop) (answer_went_on hop.binding) k before h can
opened_full l c hop (to_end end) k before h can = absurd (cc)

refused_ok : (l c fault : ℕ) (hop : Hop) (way : HopTarget) (k : Core) (before after : TheMonitor) → MonitorShows k before
    → may_say (says_then (link_id l) (CircuitRefused (circuit_id c) fault) (refused_at fault hop.binding way)) before.outboxes ≡ true
    → after.circuits ≡ without_entry k.circuits (to_link (link_id l) (circuit_id c)) hop.way
    → AllSaid (says_then (link_id l) (CircuitRefused (circuit_id c) fault) (refused_at fault hop.binding way)) before.outboxes after.outboxes
    → SameHeard (hears_refused l c fault hop way k).heard (refused_at fault hop.binding way) × MonitorShows (hears_refused l c fault hop way k).core after
refused_ok l c fault hop (to_link m d) k before after h can e a =
    let t = without_entry k.circuits (to_link (link_id l) (circuit_id c)) hop.way in
    let ok = said_ok m.0 (circuit_refused d.0 fault) t (answer_went_on hop.binding) k before after h can a e in
    (same_heard (answer_went_on hop.binding) (hears_refused l c fault hop (to_link m d) k).heard (AnswerWentOn hop.binding m d) ok.0 refl, ok.1)
refused_ok l c fault hop (to_end end) k before after h can e a = (
  (refl, refl),
  record { circuits = e; outboxes = subst (Rattle.fl_world_refines.specs.Cores.OutboxesShow k.links) (sym a) h.outboxes },
)

refused_full : (l c fault : ℕ) (hop : Hop) (way : HopTarget) (k : Core) (before : TheMonitor) → MonitorShows k before
    → may_say (says_then (link_id l) (CircuitRefused (circuit_id c) fault) (refused_at fault hop.binding way)) before.outboxes ≡ false
    → (hears_refused l c fault hop way k).heard ≡ no_outbox
refused_full l c fault hop (to_link m d) k before h can =
    said_full m.0 (circuit_refused d.0 fault) (without_entry k.circuits (to_link (link_id l) (circuit_id c)) hop.way) (answer_went_on hop.binding) k before h can
refused_full l c fault hop (to_end end) k before h can = absurd (cc)

-- ---- the event

kept : (k : Core) (before after : TheMonitor) → MonitorShows k before → after ≡ before → MonitorShows k after
kept k before after h e = subst (MonitorShows k) (sym e) h

-- over the core's own table
hear_opening : (known : Known) (services : List Service) (l : ℕ) (o : OpeningLabel) (k : Core) (before after : TheMonitor) (heard : Told) → MonitorShows k before
    → NamesAgree services known.names → HasPlaceAt services o k known.here → LeadsOn l o k
    → ComesTo known before.circuits (link_id l) (message_of (open_circuit o)) heard
    → may_say (says_then (link_id l) (message_of (open_circuit o)) heard) before.outboxes ≡ true
    → after.circuits ≡ table_after before.circuits (link_id l) (message_of (open_circuit o)) heard
    → AllSaid (says_then (link_id l) (message_of (open_circuit o)) heard) before.outboxes after.outboxes
    → SameHeard (hears services l (open_circuit o) k).heard heard × MonitorShows (hears services l (open_circuit o) k).core after
hear_opening known services l o k before after heard h names place leads comes can e a =
    let is : heard ≡ outcome o.binding (circuit_id o.circuit) (fate services o k)
    = comes.1
    ∙ ap (λ (t : TheCircuits). heard_by o.binding (circuit_id o.circuit) (fated known t l (asked_of o))) h.circuits
    ∙ fate_is known services l o k o.binding (circuit_id o.circuit) names place leads in
    let table : after.circuits ≡ after_opening k.circuits (link_id l) (circuit_id o.circuit) o.binding heard
    = e ∙ ap (λ (t : TheCircuits). after_opening t (link_id l) (circuit_id o.circuit) o.binding heard) h.circuits in
    subst (λ (x : Told). SameHeard (hears services l (open_circuit o) k).heard x × MonitorShows (hears services l (open_circuit o) k).core after) (sym is)
    (opening_ok l o (fate services o k) k before after h
    (subst (λ (x : Told). may_say (says_then (link_id l) (message_of (open_circuit o)) x) before.outboxes ≡ true) is can)
    (subst (λ (x : Told). after.circuits ≡ after_opening k.circuits (link_id l) (circuit_id o.circuit) o.binding x) is table)
    (subst (λ (x : Told). AllSaid (says_then (link_id l) (message_of (open_circuit o)) x) before.outboxes after.outboxes) is a))

full_opening : (known : Known) (services : List Service) (l : ℕ) (o : OpeningLabel) (k : Core) (before : TheMonitor) (heard : Told) → MonitorShows k before
    → NamesAgree services known.names → HasPlaceAt services o k known.here → LeadsOn l o k
    → ComesTo known before.circuits (link_id l) (message_of (open_circuit o)) heard
    → may_say (says_then (link_id l) (message_of (open_circuit o)) heard) before.outboxes ≡ false
    → (hears services l (open_circuit o) k).heard ≡ no_outbox
full_opening known services l o k before heard h names place leads comes can =
    let is : heard ≡ outcome o.binding (circuit_id o.circuit) (fate services o k)
    = comes.1
    ∙ ap (λ (t : TheCircuits). heard_by o.binding (circuit_id o.circuit) (fated known t l (asked_of o))) h.circuits
    ∙ fate_is known services l o k o.binding (circuit_id o.circuit) names place leads in
    opening_full l o (fate services o k) k before h
    (subst (λ (x : Told). may_say (says_then (link_id l) (message_of (open_circuit o)) x) before.outboxes ≡ false) is can)

-- the entry that stands in the monitor's table stands in the core's
same_hop : (k : Core) (m : TheMonitor) (l c : ℕ) (hop : Hop) → MonitorShows k m → hop_at m.circuits l c ≡ Some hop → hop_at k.circuits l c ≡ Some hop
same_hop k m l c hop h q = ap (λ (t : TheCircuits). hop_at t l c) (sym h.circuits) ∙ q

hears_opened_is : (services : List Service) (l c : ℕ) (hop : Hop) (k : Core) → hop_at k.circuits l c ≡ Some hop
    → hears services l (circuit_opened c) k ≡ hears_opened l c hop hop.way k
hears_opened_is services l c hop k q = ap (λ (o : Option Hop). given o (goes_misrouted k) λ x. hears_opened l c x x.way k) q

hears_refused_is : (services : List Service) (l c fault : ℕ) (hop : Hop) (k : Core) → hop_at k.circuits l c ≡ Some hop
    → hears services l (circuit_refused c fault) k ≡ hears_refused l c fault hop hop.way k
hears_refused_is services l c fault hop k q = ap (λ (o : Option Hop). given o (goes_misrouted k) λ x. hears_refused l c fault x x.way k) q

hear_opened : (known : Known) (services : List Service) (l c : ℕ) (k : Core) (before after : TheMonitor) (heard : Told) → MonitorShows k before
    → ComesTo known before.circuits (link_id l) (CircuitOpened (circuit_id c)) heard
    → may_say (says_then (link_id l) (CircuitOpened (circuit_id c)) heard) before.outboxes ≡ true
    → after.circuits ≡ table_after before.circuits (link_id l) (CircuitOpened (circuit_id c)) heard
    → AllSaid (says_then (link_id l) (CircuitOpened (circuit_id c)) heard) before.outboxes after.outboxes
    → SameHeard (hears services l (circuit_opened c) k).heard heard × MonitorShows (hears services l (circuit_opened c) k).core after
hear_opened known services l c k before after heard h comes can e a =
    let hop = comes.0 in
    let q : hop_at k.circuits l c ≡ Some comes.0 = same_hop k before l c comes.0 h comes.1.there in
    let is : heard ≡ opened_at (circuit_id c) comes.0.binding comes.0.way = comes.2 in
    let table : after.circuits ≡ answered k.circuits (link_id l) (circuit_id c) comes.0
    = e
    ∙ ap (λ (t : TheCircuits). given (hop_at t l c) t λ x. answered t (link_id l) (circuit_id c) x) h.circuits
    ∙ ap (λ (o : Option Hop). given o k.circuits λ x. answered k.circuits (link_id l) (circuit_id c) x) q in
    subst (λ (x : Hearing). SameHeard x.heard heard × MonitorShows x.core after) (sym (hears_opened_is services l c comes.0 k q))
    (subst (λ (x : Told). SameHeard (hears_opened l c comes.0 comes.0.way k).heard x × MonitorShows (hears_opened l c comes.0 comes.0.way k).core after) (sym is)
    (opened_ok l c comes.0 comes.0.way k before after h
    (subst (λ (x : Told). may_say (says_then (link_id l) (CircuitOpened (circuit_id c)) x) before.outboxes ≡ true) is can)
    table
    (subst (λ (x : Told). AllSaid (says_then (link_id l) (CircuitOpened (circuit_id c)) x) before.outboxes after.outboxes) is a)))

full_opened : (known : Known) (services : List Service) (l c : ℕ) (k : Core) (before : TheMonitor) (heard : Told) → MonitorShows k before
    → ComesTo known before.circuits (link_id l) (CircuitOpened (circuit_id c)) heard
    → may_say (says_then (link_id l) (CircuitOpened (circuit_id c)) heard) before.outboxes ≡ false
    → (hears services l (circuit_opened c) k).heard ≡ no_outbox
full_opened known services l c k before heard h comes can =
    let q : hop_at k.circuits l c ≡ Some comes.0 = same_hop k before l c comes.0 h comes.1.there in
    ap (λ (x : Hearing). x.heard) (hears_opened_is services l c comes.0 k q)
    ∙ opened_full l c comes.0 comes.0.way k before h
    (subst (λ (x : Told). may_say (says_then (link_id l) (CircuitOpened (circuit_id c)) x) before.outboxes ≡ false) comes.2 can)

hear_refused : (known : Known) (services : List Service) (l c fault : ℕ) (k : Core) (before after : TheMonitor) (heard : Told) → MonitorShows k before
    → ComesTo known before.circuits (link_id l) (CircuitRefused (circuit_id c) fault) heard
    → may_say (says_then (link_id l) (CircuitRefused (circuit_id c) fault) heard) before.outboxes ≡ true
    → after.circuits ≡ table_after before.circuits (link_id l) (CircuitRefused (circuit_id c) fault) heard
    → AllSaid (says_then (link_id l) (CircuitRefused (circuit_id c) fault) heard) before.outboxes after.outboxes
    → SameHeard (hears services l (circuit_refused c fault) k).heard heard × MonitorShows (hears services l (circuit_refused c fault) k).core after
hear_refused known services l c fault k before after heard h comes can e a =
    let q : hop_at k.circuits l c ≡ Some comes.0 = same_hop k before l c comes.0 h comes.1.there in
    let is : heard ≡ refused_at fault comes.0.binding comes.0.way = comes.2 in
    let table : after.circuits ≡ without_entry k.circuits (to_link (link_id l) (circuit_id c)) comes.0.way
    = e
    ∙ ap (λ (t : TheCircuits). given (hop_at t l c) t λ x. without_entry t (to_link (link_id l) (circuit_id c)) x.way) h.circuits
    ∙ ap (λ (o : Option Hop). given o k.circuits λ x. without_entry k.circuits (to_link (link_id l) (circuit_id c)) x.way) q in
    subst (λ (x : Hearing). SameHeard x.heard heard × MonitorShows x.core after) (sym (hears_refused_is services l c fault comes.0 k q))
    (subst (λ (x : Told). SameHeard (hears_refused l c fault comes.0 comes.0.way k).heard x × MonitorShows (hears_refused l c fault comes.0 comes.0.way k).core after) (sym is)
    (refused_ok l c fault comes.0 comes.0.way k before after h
    (subst (λ (x : Told). may_say (says_then (link_id l) (CircuitRefused (circuit_id c) fault) x) before.outboxes ≡ true) is can)
    table
    (subst (λ (x : Told). AllSaid (says_then (link_id l) (CircuitRefused (circuit_id c) fault) x) before.outboxes after.outboxes) is a)))

full_refused : (known : Known) (services : List Service) (l c fault : ℕ) (k : Core) (before : TheMonitor) (heard : Told) → MonitorShows k before
    → ComesTo known before.circuits (link_id l) (CircuitRefused (circuit_id c) fault) heard
    → may_say (says_then (link_id l) (CircuitRefused (circuit_id c) fault) heard) before.outboxes ≡ false
    → (hears services l (circuit_refused c fault) k).heard ≡ no_outbox
full_refused known services l c fault k before heard h comes can =
    let q : hop_at k.circuits l c ≡ Some comes.0 = same_hop k before l c comes.0 h comes.1.there in
    ap (λ (x : Hearing). x.heard) (hears_refused_is services l c fault comes.0 k q)
    ∙ refused_full l c fault comes.0 comes.0.way k before h
    (subst (λ (x : Told). may_say (says_then (link_id l) (CircuitRefused (circuit_id c) fault) x) before.outboxes ≡ false) comes.2 can)

hear_by : (known : Known) (services : List Service) (l : ℕ) (said : MonitorLabel) (k : Core) (before after : TheMonitor) (answer : Result Told MonitorFault)
    → MonitorShows k before → NamesShow services known.names → MayBeHeard services l said k known.here
    → Hears known (link_id l) (message_of said) before answer after → HearAgrees known (delivery services l said k) answer after
hear_by known services l (open_circuit o) k before after (Ok heard) h names may a =
    hear_opening known services l o k before after heard h (names_agree services known.names names) may.0 may.1 a.0 a.1 a.2 a.3
hear_by known services l (circuit_opened c) k before after (Ok heard) h names may a =
    hear_opened known services l c k before after heard h a.0 a.1 a.2 a.3
hear_by known services l (circuit_refused c fault) k before after (Ok heard) h names may a =
    hear_refused known services l c fault k before after heard h a.0 a.1 a.2 a.3
hear_by known services l (open_circuit o) k before after (Err OutboxFull) h names may a =
    (full_opening known services l o k before a.0 h (names_agree services known.names names) may.0 may.1 a.1 a.2, kept k before after h a.3)
hear_by known services l (circuit_opened c) k before after (Err OutboxFull) h names may a =
    (full_opened known services l c k before a.0 h a.1 a.2, kept k before after h a.3)
hear_by known services l (circuit_refused c fault) k before after (Err OutboxFull) h names may a =
    (full_refused known services l c fault k before a.0 h a.1 a.2, kept k before after h a.3)
hear_by known services l said k before after (Err Misrouted) h names may a = (
  subst (λ (t : TheCircuits). Rattle.fl_monitor.specs.Hearing.IsMisrouted known t (link_id l) (message_of said)) h.circuits a.0,
  kept k before after h a.1,
)
hear_by known services l said k before after (Err Memory) h names may a = kept k before after h a.3
hear_by known services l said k before after (Err Differs) h names may a = absurd a
hear_by known services l said k before after (Err NoRoute) h names may a = absurd a
hear_by known services l said k before after (Err UsedUp) h names may a = absurd a
hear_by known services l said k before after (Err PlansDiffer) h names may a = absurd a

pub hear_agrees : HearsAgree
hear_agrees known x before after answer h names may a =
    hear_by known x.services x.link x.said x.core before after answer h names may a

-- ---- a circuit is opened

same_circuit : (c : Circuit) (n : ℕ) → c.0 ≡ n → c ≡ circuit_id n
same_circuit c n e = ap circuit_id e

pub opens_agree : (l : ℕ) (o : OpeningLabel) (k : Core) (before after : TheMonitor) (c : Circuit) → MonitorShows k before → c.0 ≡ o.circuit
    → Opens (link_id l) (asked_of o) before (Ok c) after → MonitorShows (opens l c.0 o k) after
opens_agree l o k before after c h e a =
    let asked = subst (λ (x : Circuit). Rattle.fl_monitor.specs.Monitors.IsQueuedMessage (record { link = link_id l; message = OpenCircuit x o.binding (Rattle.fl_world_refines.specs.Fragments.service_id o.service) (map core_id o.path) }) before.outboxes after.outboxes)
    (same_circuit c o.circuit e) a.4 in
    said_shows l (open_circuit o) (opened k.circuits (link_id l) (circuit_id c.0) o.binding) k before after h asked
    (a.3 ∙ ap (λ (t : TheCircuits). opened t (link_id l) c o.binding) h.circuits)
