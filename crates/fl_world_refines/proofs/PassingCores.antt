-- What a core keeps of its dispatchers and links whatever message it hears.
use Rattle.std.proofs.Common.{◌≡◌, refl, sym, ◌∙◌, ap, ℕ, Bool, true, false, if◌then◌else◌, List, map, Option, Some, None}
use Rattle.fl_base.specs.Given.{given}
use Rattle.fl_hop.specs.declared.entry.HopTarget.{HopTarget}
use Rattle.fl_hop.specs.declared.entry.HopTarget.TheVariants.{Link as to_link, End as to_end}
use Rattle.fl_hop.specs.declared.entry.Hop.{Hop}
use Rattle.fl_hop.specs.Numbers.{count_taking}
use Rattle.fl_hop.specs.Table.{TheCircuits, hop_at}
use Rattle.fl_model.specs.Rings.{OpeningLabel, MonitorLabel, open_circuit, circuit_opened, circuit_refused}
use Rattle.fl_model.specs.Monitors.{Core, Link, Service, link_to, can_say, says_more, with_said, with_circuits, saying, Heard, no_outbox, misrouted, Hearing, Fate, goes_on, ends_at, fails, fate, hears_opening, hears_opened, hears_refused, hears}
use Rattle.fl_model_laws.proofs.Cases.{either, by_given}
use Rattle.fl_model_laws.proofs.PlacesStep.{opening_counted, taking_counted}
use Rattle.fl_model_laws.proofs.TableSteps.{same_link_of}
use Rattle.fl_model_laws.proofs.LinkSides.{names}
use Rattle.fl_model_laws.proofs.Views.{map_kept}
use Rattle.fl_world_refines.specs.ShowsState.{link_side_of}
use Rattle.fl_world_refines.proofs.Frames.{CoreStays}

-- ---- where links lead

as_it_was : (k : Core) → CoreStays k k
as_it_was k = record { dispatchers = refl; link_sides = refl; links = λ n. refl }

with_table : (t : TheCircuits) (k : Core) → names t.links ≡ names k.circuits.links → CoreStays k (with_circuits t k)
with_table t k h = record { dispatchers = refl; link_sides = refl; links = λ n. same_link_of k.circuits t n h }

with_message : (l : ℕ) (m : MonitorLabel) (t : TheCircuits) (k : Core) → names t.links ≡ names k.circuits.links → CoreStays k (with_said l m (with_circuits t k))
with_message l m t k h = record {
  dispatchers = refl;
  link_sides = map_kept link_side_of (says_more m) k.links l (λ x q. refl);
  links = λ n. same_link_of k.circuits t n h;
}

abbrev Keeps : Core → Hearing → Type 0
Keeps k h = CoreStays k h.core

saying_keeps : (l : ℕ) (m : MonitorLabel) (t : TheCircuits) (x : Heard) (k : Core) → names t.links ≡ names k.circuits.links → Keeps k (saying l m t x k)
saying_keeps l m t x k h = either (Keeps k) (can_say l k) _ _ (λ q. with_message l m t k h) (λ q. as_it_was k)

opening_keeps : (l : ℕ) (o : OpeningLabel) (f : Fate) (k : Core) → Keeps k (hears_opening l o f k)
opening_keeps l o (goes_on m n) k = saying_keeps m _ _ _ k (opening_counted (count_taking k.circuits.links l) m ∙ taking_counted k.circuits.links l)
opening_keeps l o (ends_at d) k = saying_keeps l _ _ _ k (taking_counted k.circuits.links l)
opening_keeps l o (fails fault) k = saying_keeps l _ _ _ k (taking_counted k.circuits.links l)

opened_keeps : (l c : ℕ) (hop : Hop) (way : HopTarget) (k : Core) → Keeps k (hears_opened l c hop way k)
opened_keeps l c hop (to_link m d) k = saying_keeps m.0 _ _ _ k refl
opened_keeps l c hop (to_end e) k = with_table _ k refl

refused_keeps : (l c fault : ℕ) (hop : Hop) (way : HopTarget) (k : Core) → Keeps k (hears_refused l c fault hop way k)
refused_keeps l c fault hop (to_link m d) k = saying_keeps m.0 _ _ _ k refl
refused_keeps l c fault hop (to_end e) k = with_table _ k refl

pub hears_keeps : (services : List Service) (l : ℕ) (m : MonitorLabel) (k : Core) → CoreStays k (hears services l m k).core
hears_keeps services l (open_circuit o) k = opening_keeps l o (fate services o k) k
hears_keeps services l (circuit_opened c) k = by_given (Keeps k) (hop_at k.circuits l c) _ _ (as_it_was k) (λ hop q. opened_keeps l c hop hop.way k)
hears_keeps services l (circuit_refused c fault) k = by_given (Keeps k) (hop_at k.circuits l c) _ _ (as_it_was k) (λ hop q. refused_keeps l c fault hop hop.way k)

-- ---- a message that is left

abbrev is_taken : Heard → Bool
is_taken no_outbox = false
is_taken misrouted = false
is_taken heard = true

abbrev Leaves : Core → Hearing → Type 0
Leaves k h = is_taken h.heard ≡ false → h.core ≡ k

saying_leaves : (l : ℕ) (m : MonitorLabel) (t : TheCircuits) (x : Heard) (k : Core) → is_taken x ≡ true → Leaves k (saying l m t x k)
saying_leaves l m t x k e = either (Leaves k) (can_say l k) _ _ (λ q h. absurd (let u : true ≡ false = sym e ∙ h in cc)) (λ q h. refl)

opening_leaves : (l : ℕ) (o : OpeningLabel) (f : Fate) (k : Core) → Leaves k (hears_opening l o f k)
opening_leaves l o (goes_on m n) k = saying_leaves m _ _ _ k refl
opening_leaves l o (ends_at d) k = saying_leaves l _ _ _ k refl
opening_leaves l o (fails fault) k = saying_leaves l _ _ _ k refl

opened_leaves : (l c : ℕ) (hop : Hop) (way : HopTarget) (k : Core) → Leaves k (hears_opened l c hop way k)
opened_leaves l c hop (to_link m d) k = saying_leaves m.0 _ _ _ k refl
opened_leaves l c hop (to_end e) k = λ h. absurd (cc)

refused_leaves : (l c fault : ℕ) (hop : Hop) (way : HopTarget) (k : Core) → Leaves k (hears_refused l c fault hop way k)
refused_leaves l c fault hop (to_link m d) k = saying_leaves m.0 _ _ _ k refl
refused_leaves l c fault hop (to_end e) k = λ h. absurd (cc)

hears_leaves : (services : List Service) (l : ℕ) (m : MonitorLabel) (k : Core) → Leaves k (hears services l m k)
hears_leaves services l (open_circuit o) k = opening_leaves l o (fate services o k) k
hears_leaves services l (circuit_opened c) k = by_given (Leaves k) (hop_at k.circuits l c) _ _ (λ h. refl) (λ hop q. opened_leaves l c hop hop.way k)
hears_leaves services l (circuit_refused c fault) k = by_given (Leaves k) (hop_at k.circuits l c) _ _ (λ h. refl) (λ hop q. refused_leaves l c fault hop hop.way k)

-- where no outbox has room, the core is as it was
pub left_as_it_was : (services : List Service) (l : ℕ) (m : MonitorLabel) (k : Core) → (hears services l m k).heard ≡ no_outbox → (hears services l m k).core ≡ k
left_as_it_was services l m k h = hears_leaves services l m k (ap is_taken h)
