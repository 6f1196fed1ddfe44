-- An opening is heard: it goes on, arrives or fails. What is then on the board fits.
use Rattle.std.proofs.Common.{◌≡◌, ◌≢◌, refl, sym, ◌∙◌, ap, subst, ℕ, suc, ◌+◌, ◌-◌, ◌<◌, ◌≤◌, ◌⊎◌, inl, inr, false}
use Rattle.std.proofs.Common.{length, Option, Some, None, arith}
use Rattle.fl_base.specs.declared.identity.Side.TheVariants.{Server}
use Rattle.fl_base.specs.Given.{given}
use Rattle.fl_base.specs.Numbered.{link_id, circuit_id}
use Rattle.fl_hop.specs.declared.entry.HopTarget.{HopTarget}
use Rattle.fl_hop.specs.declared.entry.HopTarget.TheVariants.{Link as to_link, End as to_end}
use Rattle.fl_hop.specs.declared.entry.Hop.{Hop}
use Rattle.fl_hop.specs.Table.{hop_at, link_of, slot, leading}
use Rattle.fl_hop.specs.Numbers.{next_own, after_opening, after_taking, count_taking}
use Rattle.fl_hop.specs.Openings.{passed_on, arrived}
use Rattle.fl_hop.proofs.Cells.{slot_once}
use Rattle.fl_hop.proofs.Entering.{IsSlot}
use Rattle.fl_model.specs.Given.{changed_at}
use Rattle.fl_model.specs.Rings.{OpeningLabel, MonitorLabel, open_circuit, circuit_opened, circuit_refused, RingEnd}
use Rattle.fl_model.specs.Monitors.{says_more}
use Rattle.fl_model.specs.State.{undecided, granted, denied, Route}
use Rattle.fl_model.specs.Binding.{end_id}
use Rattle.fl_model.specs.Forwarding.{with_number, grants, denies}
use Rattle.fl_model.specs.Standing.{core_at, number_at, standing, standing_by, Message, due_by, due_message, answer_number}
use Rattle.fl_model.specs.SoundEntries.{Key, near_key, far_key, on_to, to_this, behind}
use Rattle.fl_model_laws.proofs.Views.{View, Part}
use Rattle.fl_model_laws.proofs.PlacesStep.{length_push, opening_counted, taking_counted}
use Rattle.fl_model_laws.proofs.LinkSides.{names}
use Rattle.fl_model_laws.proofs.TableSteps.{stands_there, both_kept, both_came, both_were, both_first, both_second, leads_of, one_neighbour}
use Rattle.fl_model_laws.proofs.Boards.{Board, Says, IsRoute, Fits, Stands, message}
use Rattle.fl_model_laws.proofs.BoardSteps.{heard_fits, AnswerAt}
use Rattle.fl_model_laws.proofs.BoardOwn.{index_last, went_own, next_key, IsFar, arrived_own, failed_own}
use Rattle.fl_model_laws.proofs.BoardViews.{hop_in, line, route_in, board}
use Rattle.fl_model_laws.proofs.BoardCores.{set_part, own_key, hop_else, set_at, came_at, CameAt, was_there, same_key, NewTable, place_stays, same_hops}
use Rattle.fl_model_laws.proofs.BoardSaid.{said_on}
use Rattle.fl_model_laws.proofs.BoardHears.{Whole, HeardAt, taken_rings, heard_view, is_taken, is_put, route_set, is_changed, only_far, hop_small, slot_within, next_free}

-- the core behind those that have numbers, to which the opening comes, and the one behind that
abbrev pub reached : Route → ℕ
reached route = core_at route (length route.numbers)

abbrev pub beyond : Route → ℕ
beyond route = core_at route (length route.numbers + 1)

-- an opening stands first at the core behind those that have numbers
pub record OpenAt (v : View) (n : ℕ) (route : Route) (j l : ℕ) (ring : RingEnd) (m : MonitorLabel) (p : Part) : Type 0 where
  pub was : route_in v.backs n ≡ Some route
  pub verdict : route.verdict ≡ undecided
  pub place : suc j ≡ length route.numbers
  pub at : HeardAt v (reached route) (core_at route j) l ring m p
  pub due : due_message n route ≡ Some (message (core_at route j) (reached route) m)

-- an entry at a core's number tells its key
pub slot_key : (core l c neighbour : ℕ) (p q : Part) (key : Key) (hop : Hop) → (x : CameAt core p q key hop) → link_of p.circuits neighbour ≡ Some l → c ≤ 2046
    → slot x.link key.number ≡ slot l c → key ≡ own_key core neighbour c
slot_key core l c neighbour p q key hop x to few e =
    let (a, b) = slot_once x.link key.number l c e (stands_there q.circuits x.link key.number hop x.there).0 few in
    same_key core x.link p key neighbour c x.core_is x.link_is (to ∙ ap (λ (k : ℕ). Some k) (sym a)) b

module _ (v : View) (w : Whole v) (n : ℕ) (route : Route) (j l : ℕ) (ring : RingEnd) (m : MonitorLabel) (p : Part) (o : OpenAt v n route j l ring m p) where
  is_route : IsRoute route
  is_route = w.known.routes n route o.was

  before_last : j < length route.numbers
  before_last = let e = o.place in omega arith

  next_core : core_at route (j + 1) ≡ reached route
  next_core = ap (core_at route) (let e = o.place in omega arith)

  apart_from : (i : ℕ) → i < length route.cores → i ≢ length route.numbers → core_at route i ≡ reached route → ⊥
  apart_from i a ne e = let few = is_route.few in ne (is_route.apart i (length route.numbers) a (omega arith) e)

  number_small : number_at route j ≤ 2046
  number_small =
      let st : standing route ≡ length route.numbers = ap (standing_by route) o.verdict in
      let l = before_last in
      let s : Stands (board v) (near_key route j) n (behind n route j) = (w.known.fits.stand n route o.was).near j (omega arith) l in
      hop_small v.parts (near_key route j) s.hop s.there

  only_its : (h : Hop) → hop_at p.circuits l (number_at route j) ≡ Some h → h.binding ≡ n
  only_its h q =
      only_far (board v) w.known n route o.was j before_last h
      (was_there v.parts (reached route) p (far_key route j) h l o.at.part_is next_core o.at.to q)

  inside : slot l (number_at route j) < length p.circuits.hops
  inside = slot_within p.circuits (core_at route j) l (number_at route j) (w.parts _ p o.at.part_is).table o.at.to number_small

  far_is : own_key (reached route) (core_at route j) (number_at route j) ≡ far_key route j
  far_is = ap (λ (c : ℕ). own_key c (core_at route j) (number_at route j)) (sym next_core)

  one_far : (i : ℕ) → suc i ≡ length route.numbers → i ≡ j
  one_far i e = let f = o.place in omega arith

  others_far : (key : Key) → key ≡ own_key (reached route) (core_at route j) (number_at route j) → IsFar key route (length route.numbers)
  others_far key e = (j, (o.place, e ∙ far_is))

  -- it goes on, under this number

  abbrev pub passed_opening : ℕ → OpeningLabel
  passed_opening d = record { circuit = d; binding = n; service = route.service; path = route.cores }

  abbrev pub passed_part : ℕ → ℕ → Part
  passed_part k d = record {
    circuits = passed_on p.circuits (link_id l) (circuit_id (number_at route j)) (link_id k) (circuit_id d) n;
    links = changed_at k (says_more (open_circuit (passed_opening d))) p.links;
  }

  abbrev pub passed_board : ℕ → ℕ → Board
  passed_board k d = board (heard_view v (core_at route (length route.numbers)) (passed_part k d) ring n (with_number d))

  pub passed_due : (d : ℕ) → due_message n (with_number d route)
      ≡ Some (message (reached route) (beyond route) (open_circuit (passed_opening d)))
  passed_due d =
      let long = length_push route.numbers d in
      let less : length route.numbers + 1 - 1 ≡ length route.numbers = omega arith in
      ap (due_by n (with_number d route)) o.verdict
      ∙ ap (λ (i : ℕ). by i (i - 1)) long
      ∙ ap (by (length route.numbers + 1)) less
      ∙ ap (λ (c : ℕ). Some (message (reached route) (beyond route)
      (open_circuit (let x : OpeningLabel = record { circuit = c; binding = n; service = route.service; path = route.cores } in x)))) (index_last route.numbers d)
    where
      by : ℕ → ℕ → Option Message
      by i k = Some (record {
        from = core_at route k;
        to = core_at route i;
        said = open_circuit (record { circuit = number_at (with_number d route) k; binding = n; service = route.service; path = route.cores });
      })

  module _ (k d : ℕ) (more : length route.numbers + 1 < length route.cores) (to : link_of p.circuits (beyond route) ≡ Some k)
      (own : next_own p.circuits k ≡ Some d) where
    free : (d ≤ 2046) × ((h : Hop) → hop_at p.circuits k d ≡ Some h → ⊥)
    free = next_free p.circuits k d (w.parts _ p o.at.part_is).table own

    same_names : names (passed_part k d).circuits.links ≡ names p.circuits.links
    same_names = opening_counted (count_taking p.circuits.links l) k ∙ taking_counted p.circuits.links l

    passed_new : NewTable p.circuits (passed_part k d).circuits n
    passed_new = record {
      names = same_names;
      kept = λ x y h q away. both_kept (after_opening (after_taking p.circuits l) k) (to_link (link_id l) (circuit_id (number_at route j))) (to_link (link_id k) (circuit_id d)) _ _ n x y h
          (number_small, only_its) (free.0, (λ g r. absurd (free.1 g r))) (leads_of n false _) q away;
      were = λ x y h q away. both_were (after_opening (after_taking p.circuits l) k) (to_link (link_id l) (circuit_id (number_at route j))) (to_link (link_id k) (circuit_id d)) _ _ n x y h
          (leads_of n false _) (leads_of n false _) q away;
    }

    slots_apart : IsSlot (to_link (link_id k) (circuit_id d)) (slot l (number_at route j)) → ⊥
    slots_apart e =
        let (a, c) = slot_once l (number_at route j) k d e number_small free.0 in
        let same = one_neighbour p.circuits (core_at route j) (beyond route) l o.at.to (to ∙ ap (λ (x : ℕ). Some x) (sym a)) in
        let before = before_last in
        let e : j ≡ length route.numbers + 1 = is_route.apart j (length route.numbers + 1) (omega arith) more same in
        absurd (omega (arith, e, before))

    passed_near : (x : Stands (passed_board k d) (next_key route d) n
        (behind n route (length route.numbers))) × (x.hop.answered ≡ false)
    passed_near = (
      record {
        hop = record { binding = n; way = to_link (link_id l) (circuit_id (number_at route j)); answered = false };
        there = set_at v.parts (reached route) (beyond route) d k p (passed_part k d) _ o.at.part_is same_names to
            (both_second (after_opening (after_taking p.circuits l) k) (to_link (link_id l) (circuit_id (number_at route j))) (link_id k) (circuit_id d) _ _ free.0
            (slot_within p.circuits (beyond route) k d (w.parts _ p o.at.part_is).table to free.0));
        binding_is = refl;
        way = subst (λ (i : ℕ). Says (passed_board k d)
            (reached route) (to_link (link_id l) (circuit_id (number_at route j))) (behind n route i)) o.place (
              (place_stays v.parts (reached route) p (passed_part k d) o.at.part_is same_names (reached route) (core_at route j)
                  ∙ ap (λ x. given x None (λ (y : Part). link_of y.circuits (core_at route j))) o.at.part_is ∙ o.at.to),
              refl,
            );
      },
      refl,
    )

    passed_far : (i : ℕ) → suc i ≡ length route.numbers
        → Stands (passed_board k d) (far_key route i) n (on_to (beyond route) d)
    passed_far i e =
        subst (λ (x : ℕ). Stands (passed_board k d) (far_key route x) n
        (on_to (beyond route) d)) (sym (one_far i e))
        (subst (λ (x : Key). Stands (passed_board k d) x n
        (on_to (beyond route) d)) far_is (record {
          hop = record { binding = n; way = to_link (link_id k) (circuit_id d); answered = false };
          there = set_at v.parts (reached route) (core_at route j) (number_at route j) l p (passed_part k d) _ o.at.part_is same_names o.at.to
              (both_first (after_opening (after_taking p.circuits l) k) (link_id l) (circuit_id (number_at route j)) (to_link (link_id k) (circuit_id d)) _ _ number_small inside slots_apart);
          binding_is = refl;
          way = (
            (place_stays v.parts (reached route) p (passed_part k d) o.at.part_is same_names (reached route) (beyond route)
                ∙ ap (λ x. given x None (λ (y : Part). link_of y.circuits (beyond route))) o.at.part_is ∙ to),
            refl,
          );
        }))

    passed_came : (key : Key) (hop : Hop) → hop_in (set_part (reached route) (passed_part k d) v.parts) key ≡ Some hop
        → (hop_in v.parts key ≡ Some hop) ⊎ ((key ≡ next_key route d) ⊎ IsFar key route (length route.numbers))
    passed_came key hop q = elim (came_at v.parts (reached route) p (passed_part k d) o.at.part_is same_names key hop q) [
      | inl old ↦ inl old
      | inr x ↦ elim (both_came (after_opening (after_taking p.circuits l) k) (to_link (link_id l) (circuit_id (number_at route j))) (to_link (link_id k) (circuit_id d)) _ _
          x.link key.number hop x.there) [
            | inl (e, its) ↦ inr (inl (slot_key (reached route) k d (beyond route) p (passed_part k d) key hop x to free.0 e))
            | inr y ↦ elim y [
              | inl (e, its) ↦ inr (inr (others_far key
                  (slot_key (reached route) l (number_at route j) (core_at route j) p (passed_part k d) key hop x o.at.to number_small e)))
              | inr old ↦ inl (was_there v.parts (reached route) p key hop x.link o.at.part_is x.core_is x.link_is old)
            ]
          ]
    ]

    pub passed_fits : Fits (passed_board k d)
    passed_fits =
        let after : Board = passed_board k d in
        let changes = is_changed v (reached route) n ring (with_number d) p (passed_part k d) o.at.part_is passed_new in
        heard_fits (board v) after n route (with_number d route) (core_at route j) (reached route) m (said_on (line v.parts) (taken_rings v ring))
        (reached route) (beyond route) (Some (open_circuit (passed_opening d))) w.known changes
        (went_own (board v) after n route d w.known (record {
          was = o.was;
          verdict = o.verdict;
          more = more;
          is = route_set v.backs n (with_number d) route o.was;
          changes = changes;
          elsewhere = λ key away. hop_else v.parts (reached route) (passed_part k d) key away;
          near = passed_near.0;
          fresh = passed_near.1;
          far = passed_far;
          came = λ key hop q e. passed_came key hop q;
        }))
        (record {
          was = o.was;
          is = route_set v.backs n (with_number d) route o.was;
          due = o.due;
          takes = is_taken v (reached route) (core_at route j) l ring m p w o.at;
          puts = is_put v (reached route) (beyond route) k ring p (passed_part k d) _ w o.at.part_is
              (record { names = same_names; next_is = to; links = refl });
          new_due = λ x e. passed_due d ∙ ap (λ (y : Option MonitorLabel). given y None (λ z. Some (message (reached route) (beyond route) z))) e;
          new_at = λ x y e q. absurd (let f : open_circuit (passed_opening d) ≡ x = cc in let g : None ≡ Some y = ap answer_number f ∙ q in cc);
          apart = λ e. let before = before_last in let few = is_route.few in apart_from j (omega arith) (λ f. absurd (omega (arith, f, before))) (sym e.0);
        })

  -- it arrives

  abbrev pub client_way : HopTarget
  client_way = to_link (link_id l) (circuit_id (number_at route j))

  abbrev pub server_way : HopTarget
  server_way = to_end (end_id n Server)

  abbrev pub arrived_part : Part
  arrived_part = record {
    circuits = arrived p.circuits (link_id l) (circuit_id (number_at route j)) n;
    links = changed_at l (says_more (circuit_opened (number_at route j))) p.links;
  }

  abbrev pub arrived_board : Board
  arrived_board = board (heard_view v (core_at route (length route.numbers)) arrived_part ring n grants)

  arrived_names : names arrived_part.circuits.links ≡ names p.circuits.links
  arrived_names = taking_counted p.circuits.links l

  arrived_new : NewTable p.circuits arrived_part.circuits n
  arrived_new = record {
    names = arrived_names;
    kept = λ x y h q away. both_kept (after_taking p.circuits l) client_way server_way (leading n false server_way) (leading n false client_way) n x y h
        (number_small, only_its) tt (leads_of n false server_way) q away;
    were = λ x y h q away. both_were (after_taking p.circuits l) client_way server_way (leading n false server_way) (leading n false client_way) n x y h
        (leads_of n false server_way) (leads_of n false client_way) q away;
  }

  arrived_stands : (i : ℕ) → suc i ≡ length route.numbers
      → Stands arrived_board (far_key route i) n (to_this (end_id n Server))
  arrived_stands i e =
      subst (λ (x : ℕ). Stands arrived_board (far_key route x) n (to_this (end_id n Server)))
      (sym (one_far i e))
      (subst (λ (x : Key). Stands arrived_board x n (to_this (end_id n Server))) far_is (record {
        hop = record { binding = n; way = to_end (end_id n Server); answered = false };
        there = set_at v.parts (reached route) (core_at route j) (number_at route j) l p arrived_part _ o.at.part_is arrived_names o.at.to
            (both_first (after_taking p.circuits l) (link_id l) (circuit_id (number_at route j)) server_way (leading n false server_way) (leading n false client_way) number_small inside (λ e. e));
        binding_is = refl;
        way = refl;
      }))

  arrived_came : (key : Key) (hop : Hop) → hop_in (set_part (reached route) arrived_part v.parts) key ≡ Some hop
      → (hop_in v.parts key ≡ Some hop) ⊎ IsFar key route (length route.numbers)
  arrived_came key hop q = elim (came_at v.parts (reached route) p arrived_part o.at.part_is arrived_names key hop q) [
    | inl old ↦ inl old
    | inr x ↦ elim (both_came (after_taking p.circuits l) client_way server_way (leading n false server_way) (leading n false client_way) x.link key.number hop x.there) [
      | inl (e, its) ↦ absurd e
      | inr y ↦ elim y [
        | inl (e, its) ↦ inr (others_far key
            (slot_key (reached route) l (number_at route j) (core_at route j) p arrived_part key hop x o.at.to number_small e))
        | inr old ↦ inl (was_there v.parts (reached route) p key hop x.link o.at.part_is x.core_is x.link_is old)
      ]
    ]
  ]

  -- what goes back
  back_from : core_at route (suc j) ≡ reached route
  back_from = ap (core_at route) o.place

  answers_at : (k : ℕ) → k ≡ number_at route j → AnswerAt route (reached route) (core_at route j) k
  answers_at k e = record { place = j; within = before_last; from = sym back_from; to = refl; number = e }

  not_back : (reached route ≡ core_at route j) × (core_at route j ≡ reached route) → ⊥
  not_back e = let before = before_last in let few = is_route.few in apart_from j (omega arith) (λ f. absurd (omega (arith, f, before))) (sym e.0)

  pub arrived_fits : length route.numbers + 1 ≡ length route.cores → Fits arrived_board
  arrived_fits last =
      let after : Board = arrived_board in
      let changes = is_changed v (reached route) n ring grants p arrived_part o.at.part_is arrived_new in
      heard_fits (board v) after n route (grants route) (core_at route j) (reached route) m (said_on (line v.parts) (taken_rings v ring))
      (reached route) (core_at route j) (Some (circuit_opened (number_at route j))) w.known changes
      (arrived_own (board v) after n route w.known (record {
        was = o.was;
        verdict = o.verdict;
        last = last;
        is = route_set v.backs n grants route o.was;
        changes = changes;
        elsewhere = λ key away. hop_else v.parts (reached route) arrived_part key away;
        far = arrived_stands;
        came = λ key hop q e. arrived_came key hop q;
      }))
      (record {
        was = o.was;
        is = route_set v.backs n grants route o.was;
        due = o.due;
        takes = is_taken v (reached route) (core_at route j) l ring m p w o.at;
        puts = is_put v (reached route) (core_at route j) l ring p arrived_part _ w o.at.part_is
            (record { names = arrived_names; next_is = o.at.to; links = refl });
        new_due = λ x e. (let same : length route.cores - 1 ≡ suc j = (let f = o.place in omega arith) in
            ap (λ (i : ℕ). due_by n (grants route) (granted i)) same
            ∙ ap (λ (c : ℕ). Some (message c (core_at route j) (circuit_opened (number_at route j)))) back_from
            ∙ ap (λ (y : Option MonitorLabel). given y None (λ z. Some (message (reached route) (core_at route j) z))) e);
        new_at = λ x y e q. answers_at y (let f : circuit_opened (number_at route j) ≡ x = cc in let g : Some (number_at route j) ≡ Some y = ap answer_number f ∙ q in cc);
        apart = not_back;
      })

  -- it fails

  abbrev pub failed_part : ℕ → Part
  failed_part fault = record {
    circuits = after_taking p.circuits l;
    links = changed_at l (says_more (circuit_refused (number_at route j) fault)) p.links;
  }

  failed_hops : (fault : ℕ) (key : Key) → hop_in (set_part (reached route) (failed_part fault) v.parts) key ≡ hop_in v.parts key
  failed_hops fault key = same_hops v.parts (reached route) p (failed_part fault) o.at.part_is (taking_counted p.circuits.links l) (λ a b. refl) key

  pub failed_fits : (fault : ℕ) → Fits (board (heard_view v (reached route) (failed_part fault) ring n (denies fault)))
  failed_fits fault =
      let after : Board = board (heard_view v (reached route) (failed_part fault) ring n (denies fault)) in
      let table : NewTable p.circuits (failed_part fault).circuits n = record { names = taking_counted p.circuits.links l; kept = λ a b h q away. q; were = λ a b h q away. q } in
      let changes = is_changed v (reached route) n ring (denies fault) p (failed_part fault) o.at.part_is table in
      heard_fits (board v) after n route (denies fault route) (core_at route j) (reached route) m (said_on (line v.parts) (taken_rings v ring))
      (reached route) (core_at route j) (Some (circuit_refused (number_at route j) fault)) w.known changes
      (failed_own (board v) after n route fault w.known (record {
        was = o.was;
        verdict = o.verdict;
        is = route_set v.backs n (denies fault) route o.was;
        places = changes.places;
        hops = failed_hops fault;
      }))
      (record {
        was = o.was;
        is = route_set v.backs n (denies fault) route o.was;
        due = o.due;
        takes = is_taken v (reached route) (core_at route j) l ring m p w o.at;
        puts = is_put v (reached route) (core_at route j) l ring p (failed_part fault) _ w o.at.part_is
            (record { names = taking_counted p.circuits.links l; next_is = o.at.to; links = refl });
        new_due = λ x e. ap (λ (i : ℕ). due_by n (denies fault route) (denied i fault)) (sym o.place)
            ∙ ap (λ (c : ℕ). Some (message c (core_at route j) (circuit_refused (number_at route j) fault))) back_from
            ∙ ap (λ (y : Option MonitorLabel). given y None (λ z. Some (message (reached route) (core_at route j) z))) e;
        new_at = λ x y e q.
            answers_at y (let f : circuit_refused (number_at route j) fault ≡ x = cc in let g : Some (number_at route j) ≡ Some y = ap answer_number f ∙ q in cc);
        apart = not_back;
      })
