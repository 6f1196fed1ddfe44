-- The answer to an opening is heard, at a core in between or at the client's: its entry is marked, or removed. What is then
-- on the board fits.
use Rattle.std.proofs.Common.{◌≡◌, refl, sym, ◌∙◌, ap, subst, ℕ, suc, ◌+◌, ◌-◌, ◌<◌, ◌≤◌, inl, inr, Bool, true, if◌then◌else◌}
use Rattle.std.proofs.Common.{length, Option, Some, None, arith}
use Rattle.std.proofs.lemmas.Bool.{ne_eqb}
use Rattle.fl_base.specs.declared.identity.Side.TheVariants.{Client, Server}
use Rattle.fl_base.specs.Given.{given}
use Rattle.fl_base.specs.Numbered.{link_id, circuit_id}
use Rattle.fl_hop.specs.declared.entry.HopTarget.{HopTarget}
use Rattle.fl_hop.specs.declared.entry.HopTarget.TheVariants.{Link as to_link, End as to_end}
use Rattle.fl_hop.specs.declared.entry.Hop.{Hop}
use Rattle.fl_hop.specs.Table.{hop_at, link_of, slot, leading, with_entry, without_entry}
use Rattle.fl_hop.proofs.Cells.{slot_once}
use Rattle.fl_hop.proofs.Entering.{IsSlot}
use Rattle.fl_model.specs.Given.{changed_at}
use Rattle.fl_model.specs.Rings.{MonitorLabel, circuit_opened, circuit_refused, RingEnd}
use Rattle.fl_model.specs.Monitors.{says_more}
use Rattle.fl_model.specs.State.{OpeningVerdict, granted, denied, Route}
use Rattle.fl_model.specs.Binding.{end_id}
use Rattle.fl_model.specs.Forwarding.{passes_word, word_passes}
use Rattle.fl_model.specs.Standing.{core_at, number_at, standing, due_by, due_message, answer_number}
use Rattle.fl_model.specs.SoundRoutes.{VerdictFits}
use Rattle.fl_model.specs.SoundEntries.{Key, near_key, far_key, on_to, to_this, behind, ahead}
use Rattle.fl_model_laws.proofs.Views.{View, Part}
use Rattle.fl_model_laws.proofs.LinkSides.{names}
use Rattle.fl_model_laws.proofs.TableSteps.{both_kept, both_came, both_were, both_first, both_second, leads_of, none_of, one_neighbour}
use Rattle.fl_model_laws.proofs.Boards.{Board, Says, IsRoute, Fits, Stands, Puts, message}
use Rattle.fl_model_laws.proofs.BoardSteps.{heard_fits, AnswerAt}
use Rattle.fl_model_laws.proofs.BoardOwn.{back_own, gone_own}
use Rattle.fl_model_laws.proofs.BoardViews.{place_in, line, route_in, said_in, board}
use Rattle.fl_model_laws.proofs.BoardCores.{set_part, own_key, hop_else, set_at, came_at, was_there, NewTable, place_stays, line_stays}
use Rattle.fl_model_laws.proofs.BoardSaid.{said_on, said_left}
use Rattle.fl_model_laws.proofs.BoardHears.{Whole, HeardAt, taken_rings, heard_view, is_taken, is_put, route_set, is_changed, only_far, only_near, hop_small, slot_within}
use Rattle.fl_model_laws.proofs.BoardOpenings.{slot_key}

-- an answer stands first at core i of the route
pub record AnswersAt (v : View) (n : ℕ) (route : Route) (i l : ℕ) (ring : RingEnd) (m : MonitorLabel) (p : Part) : Type 0 where
  pub was : route_in v.backs n ≡ Some route
  pub within : i < length route.numbers
  pub stands : i < standing route
  pub at : HeardAt v (core_at route i) (core_at route (i + 1)) l ring m p
  pub due : due_message n route ≡ Some (message (core_at route (i + 1)) (core_at route i) m)

module _ (v : View) (w : Whole v) (n : ℕ) (route : Route) (i l : ℕ) (ring : RingEnd) (m : MonitorLabel) (p : Part) (o : AnswersAt v n route i l ring m p) where
  pub is_route : IsRoute route
  is_route = w.known.routes n route o.was

  pub small_at : (j : ℕ) → j ≤ i → number_at route j ≤ 2046
  small_at j a =
      let b = o.within in
      let c = o.stands in
      let s : Stands (board v) (near_key route j) n (behind n route j) = (w.known.fits.stand n route o.was).near j (omega arith) (omega arith) in
      hop_small v.parts (near_key route j) s.hop s.there

  pub near_only : (h : Hop) → hop_at p.circuits l (number_at route i) ≡ Some h → h.binding ≡ n
  near_only h q =
      only_near (board v) w.known n route o.was i o.within h (was_there v.parts (core_at route i) p (near_key route i) h l o.at.part_is refl o.at.to q)

  pub near_inside : slot l (number_at route i) < length p.circuits.hops
  near_inside = slot_within p.circuits (core_at route (i + 1)) l (number_at route i) (w.parts _ p o.at.part_is).table o.at.to (small_at i (omega arith))

  pub not_same : (core_at route i ≡ core_at route (i + 1)) → ⊥
  not_same e =
      let a = o.within in
      let b = is_route.few in
      let c : i ≡ i + 1 = is_route.apart i (i + 1) (omega arith) (omega arith) e in absurd (omega arith)

  near_back : (core : ℕ) → place_in v.parts (core_at route i) core ≡ link_of p.circuits core
  near_back core = ap (λ x. given x None (λ (y : Part). link_of y.circuits core)) o.at.part_is

  -- ---- at the client's core

  abbrev pub near_way : HopTarget
  near_way = to_link (link_id l) (circuit_id (number_at route i))

  abbrev pub client_way : HopTarget
  client_way = to_end (end_id n Client)

  abbrev pub opened_part : Part
  opened_part = record { circuits = with_entry p.circuits n true client_way near_way; links = p.links }

  abbrev pub refused_part : Part
  refused_part = record { circuits = without_entry p.circuits near_way client_way; links = p.links }

  nothing_put : (q : Part) → names q.circuits.links ≡ names p.circuits.links → q.links ≡ p.links
      → Puts (said_on (line v.parts) (taken_rings v ring)) (said_in (set_part (core_at route i) q v.parts) (taken_rings v ring)) (core_at route i) (core_at route (i + 1)) None
  nothing_put q e f =
      said_left (line v.parts) (line (set_part (core_at route i) q v.parts)) (taken_rings v ring) (core_at route i) (core_at route (i + 1))
      (line_stays v.parts (core_at route i) p q o.at.part_is e f)

  pub opened_fits : i ≡ 0 → route.verdict ≡ granted (suc i) → Fits (board (heard_view v (core_at route i) opened_part ring n passes_word))
  opened_fits zero_is verdict =
      let after : Board = board (heard_view v (core_at route i) opened_part ring n passes_word) in
      let table : NewTable p.circuits opened_part.circuits n = record {
        names = refl;
        kept = λ x y h q away. both_kept p.circuits client_way near_way (leading n true near_way) (leading n true client_way) n x y h tt
            (small_at i (omega arith), near_only) (leads_of n true near_way) q away;
        were = λ x y h q away. both_were p.circuits client_way near_way (leading n true near_way) (leading n true client_way) n x y h
            (leads_of n true near_way) (leads_of n true client_way) q away;
      } in
      let changes = is_changed v (core_at route i) n ring passes_word p opened_part o.at.part_is table in
      let near : Stands after (near_key route i) n (behind n route i) = record {
        hop = record { binding = n; way = client_way; answered = true };
        there = set_at v.parts (core_at route i) (core_at route (i + 1)) (number_at route i) l p opened_part _ o.at.part_is refl o.at.to
            (both_second p.circuits client_way (link_id l) (circuit_id (number_at route i)) (leading n true near_way) (leading n true client_way) (small_at i (omega arith)) near_inside);
        binding_is = refl;
        way = subst (λ (x : ℕ). Says after (core_at route i) client_way (behind n route x)) (sym zero_is) refl;
      } in
      heard_fits (board v) after n route (passes_word route) (core_at route (i + 1)) (core_at route i) m (said_on (line v.parts) (taken_rings v ring))
      (core_at route i) (core_at route (i + 1)) None w.known changes
      (back_own (board v) after n route i w.known (record {
        was = o.was;
        verdict = verdict;
        is = route_set v.backs n passes_word route o.was;
        changes = changes;
        elsewhere = λ key away. hop_else v.parts (core_at route i) opened_part key away;
        near = near;
        far = λ j e. absurd (omega (arith, e, zero_is));
        came = λ key hop q e. elim (came_at v.parts (core_at route i) p opened_part o.at.part_is refl key hop q) [
          | inl old ↦ inl old
          | inr x ↦ elim (both_came p.circuits client_way near_way (leading n true near_way) (leading n true client_way) x.link key.number hop x.there) [
            | inl (s, its) ↦ inr (inl (slot_key (core_at route i) l (number_at route i) (core_at route (i + 1)) p opened_part key hop x o.at.to (small_at i (omega arith)) s))
            | inr y ↦ elim y [
              | inl (s, its) ↦ absurd s
              | inr old ↦ inl (was_there v.parts (core_at route i) p key hop x.link o.at.part_is x.core_is x.link_is old)
            ]
          ]
        ];
      }))
      (record {
        was = o.was;
        is = route_set v.backs n passes_word route o.was;
        due = o.due;
        takes = is_taken v (core_at route i) (core_at route (i + 1)) l ring m p w o.at;
        puts = nothing_put opened_part refl refl;
        new_due = λ x e. absurd (cc);
        new_at = λ x y e q. absurd (cc);
        apart = λ e. not_same e.0;
      })

  pub refused_fits : (fault : ℕ) → i ≡ 0 → route.verdict ≡ denied (suc i) fault → Fits (board (heard_view v (core_at route i) refused_part ring n passes_word))
  refused_fits fault zero_is verdict =
      let after : Board = board (heard_view v (core_at route i) refused_part ring n passes_word) in
      let table : NewTable p.circuits refused_part.circuits n = record {
        names = refl;
        kept = λ x y h q away. both_kept p.circuits near_way client_way None None n x y h (small_at i (omega arith), near_only) tt (none_of n) q away;
        were = λ x y h q away. both_were p.circuits near_way client_way None None n x y h (none_of n) (none_of n) q away;
      } in
      let changes = is_changed v (core_at route i) n ring passes_word p refused_part o.at.part_is table in
      heard_fits (board v) after n route (passes_word route) (core_at route (i + 1)) (core_at route i) m (said_on (line v.parts) (taken_rings v ring))
      (core_at route i) (core_at route (i + 1)) None w.known changes
      (gone_own (board v) after n route i fault w.known (record {
        was = o.was;
        verdict = verdict;
        is = route_set v.backs n passes_word route o.was;
        changes = changes;
        elsewhere = λ key away. hop_else v.parts (core_at route i) refused_part key away;
        near = set_at v.parts (core_at route i) (core_at route (i + 1)) (number_at route i) l p refused_part _ o.at.part_is refl o.at.to
            (both_first p.circuits (link_id l) (circuit_id (number_at route i)) client_way None None (small_at i (omega arith)) near_inside (λ e. e));
        far = λ j e. absurd (omega (arith, e, zero_is));
        came = λ key hop q. elim (came_at v.parts (core_at route i) p refused_part o.at.part_is refl key hop q) [
          | inl old ↦ old
          | inr x ↦ elim (both_came p.circuits near_way client_way None None x.link key.number hop x.there) [
            | inl (s, its) ↦ absurd s
            | inr y ↦ elim y [
              | inl (s, its) ↦ absurd (let f : None ≡ Some hop = its in cc)
              | inr old ↦ was_there v.parts (core_at route i) p key hop x.link o.at.part_is x.core_is x.link_is old
            ]
          ]
        ];
      }))
      (record {
        was = o.was;
        is = route_set v.backs n passes_word route o.was;
        due = o.due;
        takes = is_taken v (core_at route i) (core_at route (i + 1)) l ring m p w o.at;
        puts = nothing_put refused_part refl refl;
        new_due = λ x e. absurd (cc);
        new_at = λ x y e q. absurd (cc);
        apart = λ e. not_same e.0;
      })

  -- ---- at a core in between

  module _ (j k : ℕ) (place : suc j ≡ i) (to : link_of p.circuits (core_at route j) ≡ Some k) where
    abbrev pub far_way : HopTarget
    far_way = to_link (link_id k) (circuit_id (number_at route j))

    abbrev pub opened_on : Part
    opened_on = record { circuits = with_entry p.circuits n true far_way near_way; links = changed_at k (says_more (circuit_opened (number_at route j))) p.links }

    abbrev pub refused_on : ℕ → Part
    refused_on fault =
        record { circuits = without_entry p.circuits near_way far_way; links = changed_at k (says_more (circuit_refused (number_at route j) fault)) p.links }

    here_core : core_at route (j + 1) ≡ core_at route i
    here_core = ap (core_at route) (let e = place in omega arith)

    far_small : number_at route j ≤ 2046
    far_small = small_at j (let e = place in omega arith)

    far_within : j < length route.numbers
    far_within = let e = place in let a = o.within in omega arith

    far_only : (h : Hop) → hop_at p.circuits k (number_at route j) ≡ Some h → h.binding ≡ n
    far_only h q =
        only_far (board v) w.known n route o.was j far_within h (was_there v.parts (core_at route i) p (far_key route j) h k o.at.part_is here_core to q)

    far_inside : slot k (number_at route j) < length p.circuits.hops
    far_inside = slot_within p.circuits (core_at route j) k (number_at route j) (w.parts _ p o.at.part_is).table to far_small

    links_apart : k ≡ l → ⊥
    links_apart e =
        let few = is_route.few in
        let a = o.within in
        let f = place in
        let same = one_neighbour p.circuits (core_at route j) (core_at route (i + 1)) k to (o.at.to ∙ ap (λ (x : ℕ). Some x) (sym e)) in
        let g : j ≡ i + 1 = is_route.apart j (i + 1) (omega arith) (omega arith) same in
        absurd (omega (arith, f, g))

    far_apart : IsSlot near_way (slot k (number_at route j)) → ⊥
    far_apart e = links_apart (slot_once k (number_at route j) l (number_at route i) e far_small (small_at i (omega arith))).0

    near_apart : IsSlot (to_link (link_id k) (circuit_id (number_at route j))) (slot l (number_at route i)) → ⊥
    near_apart e = links_apart (sym (slot_once l (number_at route i) k (number_at route j) e (small_at i (omega arith)) far_small).0)

    far_is : own_key (core_at route i) (core_at route j) (number_at route j) ≡ far_key route j
    far_is = ap (λ (c : ℕ). own_key c (core_at route j) (number_at route j)) (sym here_core)

    one_far : (x : ℕ) → suc x ≡ i → x ≡ j
    one_far x e = let f = place in omega arith

    word_at : (y : ℕ) → y ≡ number_at route j → AnswerAt route (core_at route i) (core_at route j) y
    word_at y e = record { place = j; within = far_within; from = ap (core_at route) (sym place); to = refl; number = e }

    not_forth : (core_at route i ≡ core_at route (i + 1)) × (core_at route j ≡ core_at route i) → ⊥
    not_forth e = not_same e.0

    ahead_is : length route.numbers + 1 ≡ length route.cores → suc i ≤ length route.numbers → ahead n route (j + 1) ≡ on_to (core_at route (i + 1)) (number_at route i)
    ahead_is whole fits =
        let e : j + 1 ≡ i = (let f = place in omega arith) in
        ap (ahead n route) e
        ∙ ap (λ (t : Bool). if t then to_this (end_id n Server) else on_to (core_at route (i + 1)) (number_at route i))
        (ne_eqb (i + 1) (length route.cores) (λ same. absurd (omega (arith, same, whole, fits))))

    pub opened_on_fits : route.verdict ≡ granted (suc i) → Fits (board (heard_view v (core_at route i) opened_on ring n passes_word))
    opened_on_fits verdict =
        let granted_fits : VerdictFits route (granted (suc i)) = subst (VerdictFits route) verdict is_route.verdict in
        let after : Board = board (heard_view v (core_at route i) opened_on ring n passes_word) in
        let table : NewTable p.circuits opened_on.circuits n = record {
          names = refl;
          kept = λ x y h q away. both_kept p.circuits far_way near_way (leading n true near_way) (leading n true far_way) n x y h (far_small, far_only)
              (small_at i (omega arith), near_only) (leads_of n true near_way) q away;
          were = λ x y h q away. both_were p.circuits far_way near_way (leading n true near_way) (leading n true far_way) n x y h
              (leads_of n true near_way) (leads_of n true far_way) q away;
        } in
        let changes = is_changed v (core_at route i) n ring passes_word p opened_on o.at.part_is table in
        let near : Stands after (near_key route i) n (behind n route i) = record {
          hop = record { binding = n; way = far_way; answered = true };
          there = set_at v.parts (core_at route i) (core_at route (i + 1)) (number_at route i) l p opened_on _ o.at.part_is refl o.at.to
              (both_second p.circuits far_way (link_id l) (circuit_id (number_at route i)) (leading n true near_way) (leading n true far_way) (small_at i (omega arith)) near_inside);
          binding_is = refl;
          way = subst (λ (x : ℕ). Says after (core_at route i) far_way (behind n route x)) place
              ((place_stays v.parts (core_at route i) p opened_on o.at.part_is refl (core_at route i) (core_at route j) ∙ near_back (core_at route j) ∙ to), refl);
        } in
        let far : Stands after (own_key (core_at route i) (core_at route j) (number_at route j)) n (on_to (core_at route (i + 1)) (number_at route i)) = record {
          hop = record { binding = n; way = near_way; answered = true };
          there = set_at v.parts (core_at route i) (core_at route j) (number_at route j) k p opened_on _ o.at.part_is refl to
              (both_first p.circuits (link_id k) (circuit_id (number_at route j)) near_way (leading n true near_way) (leading n true far_way) far_small far_inside far_apart);
          binding_is = refl;
          way = ((place_stays v.parts (core_at route i) p opened_on o.at.part_is refl (core_at route i) (core_at route (i + 1)) ∙ near_back (core_at route (i + 1)) ∙ o.at.to), refl);
        } in
        heard_fits (board v) after n route (passes_word route) (core_at route (i + 1)) (core_at route i) m (said_on (line v.parts) (taken_rings v ring))
        (core_at route i) (core_at route j) (Some (circuit_opened (number_at route j))) w.known changes
        (back_own (board v) after n route i w.known (record {
          was = o.was;
          verdict = verdict;
          is = route_set v.backs n passes_word route o.was;
          changes = changes;
          elsewhere = λ key away. hop_else v.parts (core_at route i) opened_on key away;
          near = near;
          far = λ x e. subst (λ (y : ℕ). Stands after (far_key route y) n (ahead n route (y + 1))) (sym (one_far x e))
              (subst (Stands after (far_key route j) n) (sym (ahead_is granted_fits.0 granted_fits.1))
              (subst (λ (y : Key). Stands after y n (on_to (core_at route (i + 1)) (number_at route i))) far_is far));
          came = λ key hop q e. elim (came_at v.parts (core_at route i) p opened_on o.at.part_is refl key hop q) [
            | inl old ↦ inl old
            | inr x ↦ elim (both_came p.circuits far_way near_way (leading n true near_way) (leading n true far_way) x.link key.number hop x.there) [
              | inl (s, its) ↦ inr (inl (slot_key (core_at route i) l (number_at route i) (core_at route (i + 1)) p opened_on key hop x o.at.to (small_at i (omega arith)) s))
              | inr y ↦ elim y [
                | inl (s, its) ↦ inr (inr (j, (place, slot_key (core_at route i) k (number_at route j) (core_at route j) p opened_on key hop x to far_small s ∙ far_is)))
                | inr old ↦ inl (was_there v.parts (core_at route i) p key hop x.link o.at.part_is x.core_is x.link_is old)
              ]
            ]
          ];
        }))
        (record {
          was = o.was;
          is = route_set v.backs n passes_word route o.was;
          due = o.due;
          takes = is_taken v (core_at route i) (core_at route (i + 1)) l ring m p w o.at;
          puts = is_put v (core_at route i) (core_at route j) k ring p opened_on _ w o.at.part_is (record { names = refl; next_is = to; links = refl });
          new_due = λ x e. ap (λ (y : OpeningVerdict). due_by n (passes_word route) (word_passes y)) verdict
              ∙ (let less : suc i - 1 ≡ suc j = (let f = place in omega arith) in ap (λ (y : ℕ). due_by n (passes_word route) (granted y)) less)
              ∙ ap (λ (c : ℕ). Some (message c (core_at route j) (circuit_opened (number_at route j)))) (ap (core_at route) place)
              ∙ ap (λ (y : Option MonitorLabel). given y None (λ z. Some (message (core_at route i) (core_at route j) z))) e;
          new_at = λ x y e q. word_at y (let f : circuit_opened (number_at route j) ≡ x = cc in let g : Some (number_at route j) ≡ Some y = ap answer_number f ∙ q in cc);
          apart = not_forth;
        })

    pub refused_on_fits : (fault : ℕ) → route.verdict ≡ denied (suc i) fault → Fits (board (heard_view v (core_at route i) (refused_on fault) ring n passes_word))
    refused_on_fits fault verdict =
        let after : Board = board (heard_view v (core_at route i) (refused_on fault) ring n passes_word) in
        let table : NewTable p.circuits (refused_on fault).circuits n = record {
          names = refl;
          kept = λ x y h q away. both_kept p.circuits near_way far_way None None n x y h (small_at i (omega arith), near_only) (far_small, far_only) (none_of n) q away;
          were = λ x y h q away. both_were p.circuits near_way far_way None None n x y h (none_of n) (none_of n) q away;
        } in
        let changes = is_changed v (core_at route i) n ring passes_word p (refused_on fault) o.at.part_is table in
        let far : after.hops (own_key (core_at route i) (core_at route j) (number_at route j)) ≡ None =
        set_at v.parts (core_at route i) (core_at route j) (number_at route j) k p (refused_on fault) _ o.at.part_is refl to
        (both_second p.circuits near_way (link_id k) (circuit_id (number_at route j)) None None far_small far_inside) in
        heard_fits (board v) after n route (passes_word route) (core_at route (i + 1)) (core_at route i) m (said_on (line v.parts) (taken_rings v ring))
        (core_at route i) (core_at route j) (Some (circuit_refused (number_at route j) fault)) w.known changes
        (gone_own (board v) after n route i fault w.known (record {
          was = o.was;
          verdict = verdict;
          is = route_set v.backs n passes_word route o.was;
          changes = changes;
          elsewhere = λ key away. hop_else v.parts (core_at route i) (refused_on fault) key away;
          near = set_at v.parts (core_at route i) (core_at route (i + 1)) (number_at route i) l p (refused_on fault) _ o.at.part_is refl o.at.to
              (both_first p.circuits (link_id l) (circuit_id (number_at route i)) far_way None None (small_at i (omega arith)) near_inside near_apart);
          far = λ x e. ap (λ (y : ℕ). after.hops (far_key route y)) (one_far x e) ∙ ap after.hops (sym far_is) ∙ far;
          came = λ key hop q. elim (came_at v.parts (core_at route i) p (refused_on fault) o.at.part_is refl key hop q) [
            | inl old ↦ old
            | inr x ↦ elim (both_came p.circuits near_way far_way None None x.link key.number hop x.there) [
              | inl (s, its) ↦ absurd (let f : None ≡ Some hop = its in cc)
              | inr y ↦ elim y [
                | inl (s, its) ↦ absurd (let f : None ≡ Some hop = its in cc)
                | inr old ↦ was_there v.parts (core_at route i) p key hop x.link o.at.part_is x.core_is x.link_is old
              ]
            ]
          ];
        }))
        (record {
          was = o.was;
          is = route_set v.backs n passes_word route o.was;
          due = o.due;
          takes = is_taken v (core_at route i) (core_at route (i + 1)) l ring m p w o.at;
          puts = is_put v (core_at route i) (core_at route j) k ring p (refused_on fault) _ w o.at.part_is (record { names = refl; next_is = to; links = refl });
          new_due = λ x e. ap (λ (y : OpeningVerdict). due_by n (passes_word route) (word_passes y)) verdict
              ∙ (let less : suc i - 1 ≡ suc j = (let f = place in omega arith) in ap (λ (y : ℕ). due_by n (passes_word route) (denied y fault)) less)
              ∙ ap (λ (c : ℕ). Some (message c (core_at route j) (circuit_refused (number_at route j) fault))) (ap (core_at route) place)
              ∙ ap (λ (y : Option MonitorLabel). given y None (λ z. Some (message (core_at route i) (core_at route j) z))) e;
          new_at = λ x y e q. word_at y (let f : circuit_refused (number_at route j) fault ≡ x = cc in let g : Some (number_at route j) ≡ Some y = ap answer_number f ∙ q in cc);
          apart = not_forth;
        })
