-- When what else a core keeps is what is shown of the machine's: circuits, outboxes, channels; and the table of names.
use Rattle.std.specs.Prelude.{ℕ, ◌≡◌, ◌+◌, List, [], ◌∷◌, map}
use Rattle.fl_base.specs.declared.fragment.Frag.{Frag}
use Rattle.fl_base.specs.Numbered.{core_id}
use Rattle.fl_nameserv.specs.declared.registration.Service.{Service as Offer}
use Rattle.fl_nameserv.specs.Registrations.{TheRegistration}
use Rattle.fl_monitor.specs.Outboxes.{AreFragsOf}
use Rattle.fl_monitor.specs.Monitors.{TheMonitor}
use Rattle.fl_model.specs.Monitors.{Link, Core, Service}
use Rattle.fl_world_refines.specs.Fragments.{message_of}

-- ---- monitors

-- the fragments that wait for each link are those of what the monitor has still to say there
abbrev pub OutboxesShow : List Link → List (List Frag) → Type 0
OutboxesShow [] [] = Unit {0}
OutboxesShow (link ∷ links) (frags ∷ outboxes) = AreFragsOf frags (map message_of link.outbox) × OutboxesShow links outboxes
OutboxesShow links outboxes = ⊥

-- its circuits are those of the machine's core, and its outboxes hold the fragments of that core's messages
pub record MonitorShows (k : Core) (m : TheMonitor) : Type 0 where
  pub circuits : m.circuits ≡ k.circuits
  pub outboxes : OutboxesShow k.links m.outboxes

-- ---- names

-- what a service's registration says
abbrev pub offer_of : Service → Offer
offer_of x = record { core = core_id x.dispatcher.core; dispatcher = x.dispatcher.place; interface = x.interface }

-- the registrations of services, numbered from here on
abbrev pub registered_from : ℕ → List Service → List TheRegistration
registered_from n [] = []
registered_from n (x ∷ xs) = record { name = x.name; iref = n; service = offer_of x } ∷ registered_from (n + 1) xs

-- the table of names has the services in order, numbered from 1
abbrev pub NamesShow : List Service → List TheRegistration → Type 0
NamesShow services names = names ≡ registered_from 1 services
