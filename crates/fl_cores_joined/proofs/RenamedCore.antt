-- A core under other numbers of bindings is a core.
use Rattle.std.proofs.Common.{◌≡◌, refl, sym, ◌∙◌, ap, subst, ℕ, List, [], ◌∷◌, length, map, Option, Some}
use Rattle.fl_base.specs.declared.identity.EndId.{EndId}
use Rattle.fl_hop.specs.Table.{TheCircuits}
use Rattle.fl_monitor.specs.Monitors.{TheMonitor}
use Rattle.fl_core.specs.declared.kind.ChannelKind.{ChannelKind}
use Rattle.fl_core.specs.declared.wiring.EndWiring.{EndWiring}
use Rattle.fl_core.specs.declared.wiring.EndWiring.TheVariants.{Queues, Ring, Circuit}
use Rattle.fl_core.specs.declared.wiring.WiredEnd.{WiredEnd}
use Rattle.fl_core.specs.View.{TheCore, kind_of, arrivals_by, place_in, place_of}
use Rattle.fl_core.specs.Sound.{kinds_wired, IsWired, IsCore}
use Rattle.fl_core.proofs.Numbering.{goes_to, came_from}
use Rattle.fl_cores_joined.specs.Renamed.{CoreUnder, Renaming, reversed, end_under, wired_under}

module _ (r : Renaming) where
  abbrev end_back : EndId → EndId
  end_back e = end_under (reversed r) e

  there_and_back : (e : EndId) → end_under r (end_back e) ≡ e
  there_and_back e = λ i. record { binding = r.here e.binding i; side = e.side }

  same_kinds : (ws : List WiredEnd) → kinds_wired (map (wired_under r) ws) ≡ kinds_wired ws
  same_kinds [] = refl
  same_kinds (p ∷ ws) = ap (λ (ks : List ChannelKind). kind_of p.wiring ∷ ks) (same_kinds ws)

  module _ (k : TheCore) (m : TheMonitor) (ps : List (Option ℕ)) (links : length m.circuits.links ≡ length k.monitor.circuits.links)
      (slots : length ps ≡ length k.places) (places : (e : EndId) → place_in ps (end_under r e) ≡ place_in k.places e) where
    abbrev here : TheCore
    here = record k { monitor = m; wired_ends = map (wired_under r) k.wired_ends; places = ps }

    wired_there : (w : EndWiring) → IsWired k w → IsWired here w
    wired_there (Queues out from) h = tt
    wired_there (Ring side) h = tt
    wired_there (Circuit link arrivals) h = h

    kept : IsCore k → IsCore here
    kept h = record {
      kinds = h.kinds ∙ sym (same_kinds k.wired_ends);
      link_sides = h.link_sides ∙ sym links;
      slots = slots ∙ h.slots;
      named = λ e p at.
          let was = came_from (wired_under r) k.wired_ends e p at in
          ap (λ (q : WiredEnd). place_in ps q.name) was.same ∙ places was.first.name ∙ h.named e was.first was.first_is;
      placed = λ name e at.
          let before : place_of k (end_back name) ≡ Some e =
          sym (places (end_back name)) ∙ ap (place_in ps) (there_and_back name) ∙ at in
          let it = h.placed (end_back name) e before in
          record {
            wired_end = wired_under r it.wired_end;
            wired_end_is = goes_to (wired_under r) k.wired_ends e it.wired_end it.wired_end_is;
            name_is = ap (end_under r) it.name_is ∙ there_and_back name;
          };
      wired = λ e p at.
          let was = came_from (wired_under r) k.wired_ends e p at in
          subst (λ (q : WiredEnd). IsWired here q.wiring) (sym was.same) (wired_there was.first.wiring (h.wired e was.first was.first_is));
      apart = λ e f a p q p_at q_at p_is q_is.
          let one = came_from (wired_under r) k.wired_ends e p p_at in
          let two = came_from (wired_under r) k.wired_ends f q q_at in
          h.apart e f a one.first two.first one.first_is two.first_is
          (sym (ap (λ (z : WiredEnd). arrivals_by z.wiring) one.same) ∙ p_is)
          (sym (ap (λ (z : WiredEnd). arrivals_by z.wiring) two.same) ∙ q_is);
    }

pub cores_stay : (r : Renaming) (k k2 : TheCore) → CoreUnder r k k2 → IsCore k → IsCore k2
cores_stay r k k2 h core =
    let links : length k2.monitor.circuits.links ≡ length k.monitor.circuits.links = ap (λ (t : TheCircuits). length t.links) h.circuits in
    let same : k2 ≡ record k { monitor = k2.monitor; wired_ends = map (wired_under r) k.wired_ends; places = k2.places } =
    h.rest ∙ ap (λ (ws : List WiredEnd). record k { monitor = k2.monitor; wired_ends = ws; places = k2.places }) h.wired_ends in
    subst IsCore (sym same) (kept r k k2.monitor k2.places links h.slots h.places core)
