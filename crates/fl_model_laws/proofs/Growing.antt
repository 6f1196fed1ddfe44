-- A core that opens a circuit or hears a message keeps its links, and counts no less; what it gives as its next number is counted.
use Rattle.std.proofs.Common.{◌≡◌, refl, sym, ◌∙◌, ap, ℕ, ◌+◌, ◌<◌, ◌≤◌}
use Rattle.std.proofs.Common.{List, [], ◌∷◌, ◌++◌, length, slice_get, Option, Some, None, arith}
use Rattle.std.specs.Prelude.{is_some}
use Rattle.fl_base.specs.Given.{given}
use Rattle.fl_base.specs.Numbered.{link_id, circuit_id}
use Rattle.fl_hop.specs.declared.links.LinkState.{LinkState}
use Rattle.fl_hop.specs.declared.entry.HopTarget.{HopTarget}
use Rattle.fl_hop.specs.declared.entry.HopTarget.TheVariants.{Link as to_link, End as to_end}
use Rattle.fl_hop.specs.declared.entry.Hop.{Hop}
use Rattle.fl_hop.specs.Table.{TheCircuits, hop_at}
use Rattle.fl_hop.specs.Numbers.{number, with_opening, with_taking, changed, count_opening, count_taking, next_own}
use Rattle.fl_hop.proofs.Counting.{Grown, grown_on, grown_set, grown_push, next_is}
use Rattle.fl_hop.proofs.Lists.{set_here, within}
use Rattle.fl_model.specs.Given.{changed_at}
use Rattle.fl_model.specs.Rings.{OpeningLabel, MonitorLabel, open_circuit, circuit_opened, circuit_refused, RingSide}
use Rattle.fl_hop.specs.Openings.{passed_on}
use Rattle.fl_model.specs.Monitors.{with_said, with_circuits, Core, Link, Service, link_to, opens, says_more, can_say, saying, Fate, goes_on, ends_at, fails, fate, Heard, Hearing}
use Rattle.fl_model.specs.Monitors.{hears_opening, hears_opened, hears_refused, hears}
use Rattle.fl_model.specs.Making.{linked}
use Rattle.fl_model.specs.SoundPlaces.{CoreStands}
use Rattle.fl_model_laws.proofs.Cases.{either, by_given}
use Rattle.fl_model_laws.proofs.EndsStanding.{there_is}
use Rattle.fl_model_laws.proofs.OpeningsMoves.{names_to}
use Rattle.fl_model_laws.proofs.PlacesStep.{length_push}
use Rattle.fl_model_laws.proofs.Replies.{length_changed}
use Rattle.fl_model_laws.proofs.Faces.{Look, counts_at, CoreGrows, core_same, grown_same, CoresGrow, link_grown, linked_grown}
use Rattle.fl_model_laws.proofs.Turned.{IsNew}

-- ---- counts

counted_grown : (f : LinkState → LinkState) (ls : List LinkState) (l : ℕ) → ((a : LinkState) → ((f a).neighbour ≡ a.neighbour) × (a.opened ≤ (f a).opened) × (a.taken ≤ (f a).taken))
    → Grown ls (changed f ls l (slice_get ls l))
counted_grown f ls l h = by (slice_get ls l) refl
  where
    by : (o : Option LinkState) → slice_get ls l ≡ o → Grown ls (changed f ls l o)
    by None q = grown_same ls
    by (Some a) q = grown_set ls l a (f a) q (h a).0 (h a).1 (h a).2

pub opening_grown : (ls : List LinkState) (l : ℕ) → Grown ls (count_opening ls l)
opening_grown ls l = counted_grown with_opening ls l (λ a. (refl, omega arith, omega arith))

pub taking_grown : (ls : List LinkState) (l : ℕ) → Grown ls (count_taking ls l)
taking_grown ls l = counted_grown with_taking ls l (λ a. (refl, omega arith, omega arith))

opening_there : (ls : List LinkState) (l : ℕ) (a : LinkState) → slice_get ls l ≡ Some a → slice_get (count_opening ls l) l ≡ Some (with_opening a)
opening_there ls l a q =
    ap (λ (o : Option LinkState). slice_get (changed with_opening ls l o) l) q ∙ set_here ls l a (with_opening a) q

-- ---- a core

said_places : (l : ℕ) (m : MonitorLabel) (ls : List Link) → length ls ≤ length (changed_at l (says_more m) ls)
said_places l m ls = let same : length (changed_at l (says_more m) ls) ≡ length ls = length_changed ls l (says_more m) in omega arith

saying_grows : (l : ℕ) (m : MonitorLabel) (t : TheCircuits) (x : Heard) (k : Core) → Grown k.circuits.links t.links → CoreGrows k (saying l m t x k).core
saying_grows l m t x k g =
    either (λ (h : Hearing). CoreGrows k h.core) (can_say l k) _ _ (λ q. record { links = g; places = said_places l m k.links }) (λ q. core_same k)

opening_grows : (l : ℕ) (o : OpeningLabel) (f : Fate) (k : Core) → CoreGrows k (hears_opening l o f k).core
opening_grows l o (goes_on m n) k =
    let us : List LinkState = k.circuits.links in
    saying_grows m _ _ _ k (grown_on us (count_taking us l) (count_opening (count_taking us l) m) (taking_grown us l) (opening_grown (count_taking us l) m))
opening_grows l o (ends_at d) k = saying_grows l _ _ _ k (taking_grown k.circuits.links l)
opening_grows l o (fails fault) k = saying_grows l _ _ _ k (taking_grown k.circuits.links l)

-- a core that passed an opening on
abbrev pub went_core : ℕ → OpeningLabel → ℕ → ℕ → Core → Core
went_core l o m d k =
    let t = passed_on k.circuits (link_id l) (circuit_id o.circuit) (link_id m) (circuit_id d) o.binding in
    with_said m (open_circuit (record o { circuit = d })) (with_circuits t k)

pub went_grows : (l : ℕ) (o : OpeningLabel) (m d : ℕ) (k : Core) → CoreGrows k (went_core l o m d k)
went_grows l o m d k =
    let us : List LinkState = k.circuits.links in
    record {
      links = grown_on us (count_taking us l) (count_opening (count_taking us l) m) (taking_grown us l) (opening_grown (count_taking us l) m);
      places = said_places m (open_circuit (record o { circuit = d })) k.links;
    }

opened_grows : (l c : ℕ) (hop : Hop) (way : HopTarget) (k : Core) → CoreGrows k (hears_opened l c hop way k).core
opened_grows l c hop (to_link m d) k = saying_grows m.0 _ _ _ k (grown_same k.circuits.links)
opened_grows l c hop (to_end e) k = record { links = grown_same k.circuits.links; places = omega arith }

refused_grows : (l c fault : ℕ) (hop : Hop) (way : HopTarget) (k : Core) → CoreGrows k (hears_refused l c fault hop way k).core
refused_grows l c fault hop (to_link m d) k = saying_grows m.0 _ _ _ k (grown_same k.circuits.links)
refused_grows l c fault hop (to_end e) k = record { links = grown_same k.circuits.links; places = omega arith }

pub hears_grows : (services : List Service) (l : ℕ) (m : MonitorLabel) (k : Core) → CoreGrows k (hears services l m k).core
hears_grows services l (open_circuit o) k = opening_grows l o (fate services o k) k
hears_grows services l (circuit_opened c) k =
    by_given (λ (h : Hearing). CoreGrows k h.core) (hop_at k.circuits l c) _ _ (core_same k) (λ hop q. opened_grows l c hop hop.way k)
hears_grows services l (circuit_refused c fault) k =
    by_given (λ (h : Hearing). CoreGrows k h.core) (hop_at k.circuits l c) _ _ (core_same k) (λ hop q. refused_grows l c fault hop hop.way k)

pub opens_grows : (l c : ℕ) (o : OpeningLabel) (k : Core) → CoreGrows k (opens l c o k)
opens_grows l c o k = record { links = opening_grown k.circuits.links l; places = said_places l (open_circuit o) k.links }

pub linked_grows : (neighbour ring : ℕ) (side : RingSide) (k : Core) → CoreGrows k (linked neighbour ring side k)
linked_grows neighbour ring side k =
    let longer : length (k.links ++ record { ring = record { ring = ring; side = side }; outbox = [] } ∷ []) ≡ length k.links + 1 = length_push k.links _ in
    record { links = grown_push k.circuits.links _; places = omega arith }

-- ---- the next number

pub record Gives (x y : Look) (a b m d : ℕ) (k : Core) : Type 0 where
  pub core : slice_get x.cores a ≡ Some k
  pub stands : CoreStands a k
  pub link : link_to b k ≡ Some m
  pub number_is : next_own k.circuits m ≡ Some d
  pub cores : CoresGrow x.cores y.cores
  -- what the core became, with one more opening on that link
  pub after : Core
  pub after_is : slice_get y.cores a ≡ Some after
  pub grows : CoreGrows k after
  pub before : List LinkState
  pub grown : Grown k.circuits.links before
  pub counted : after.circuits.links ≡ count_opening before m

pub new_number : (x y : Look) (a b m d : ℕ) (k : Core) → Gives x y a b m d k → IsNew x y a b d
new_number x y a b m d k g =
    let next = next_is k.circuits.core k.circuits.links m d g.number_is in
    let counts : counts_at x.cores a b ≡ Some next.link =
    ap (λ (o : Option Core). given o None (λ j. given (link_to b j) None (λ n. slice_get j.circuits.links n))) g.core
    ∙ ap (λ (o : Option ℕ). given o None (λ n. slice_get k.circuits.links n)) g.link ∙ next.there in
    let to : next.link.neighbour.0 ≡ b = names_to b m k.circuits.links next.link g.link next.there in
    let then = g.grown.link m next.link next.there in
    let now : LinkState = with_opening then.0 in
    let there : slice_get g.after.circuits.links m ≡ Some now =
    ap (λ (ls : List LinkState). slice_get ls m) g.counted ∙ opening_there g.before m then.0 then.1 in
    let less : next.link.opened ≤ then.0.opened = then.3 in
    let inside : m < length k.circuits.links = within k.circuits.links m next.link next.there in
    let places : length k.links ≡ length k.circuits.links = g.stands.links in
    record {
      was = next.link;
      was_is = counts;
      number_is = sym next.is ∙ ap (λ (c : ℕ). number c next.link.neighbour.0 next.link.opened) g.stands.number
          ∙ ap (λ (c : ℕ). number a c next.link.opened) to;
      now = now;
      now_is =
          ap (λ (o : Option Core). given o None (λ j. given (link_to b j) None (λ n. slice_get j.circuits.links n))) g.after_is
          ∙ ap (λ (o : Option ℕ). given o None (λ n. slice_get g.after.circuits.links n)) (link_grown b k g.after m g.grows g.link) ∙ there;
      more = omega arith;
      linked = linked_grown x.cores y.cores a b g.cores
          (ap is_some (ap (λ (o : Option Core). given o None (λ j. given (link_to b j) None (λ n. slice_get j.links n))) g.core
          ∙ ap (λ (o : Option ℕ). given o None (λ n. slice_get k.links n)) g.link)
          ∙ there_is k.links m (omega arith));
    }
