-- A circuit is begun at its client's core. What is then on the board fits.
use Rattle.std.proofs.Common.{◌≡◌, ◌≢◌, refl, sym, ◌∙◌, ap, subst, ℕ, zero, suc, ◌+◌, ◌-◌, ◌≤◌, ◌==◌, true, false, inl, inr}
use Rattle.std.proofs.Common.{List, [], ◌∷◌, ◌++◌, length, map, slice_get, slice_index, Some, None, arith}
use Rattle.std.proofs.lemmas.Bool.{eqb-true, and_parts}
use Rattle.std.proofs.lemmas.List.{length-map, map-append}
use Rattle.fl_base.specs.declared.identity.Side.TheVariants.{Client}
use Rattle.fl_base.specs.Numbered.{link_id, circuit_id}
use Rattle.fl_hop.specs.declared.entry.HopTarget.{HopTarget}
use Rattle.fl_hop.specs.declared.entry.HopTarget.TheVariants.{Link as to_link, End as to_end}
use Rattle.fl_hop.specs.declared.entry.Hop.{Hop}
use Rattle.fl_hop.specs.Table.{hop_at, link_of, leading}
use Rattle.fl_hop.specs.Numbers.{next_own, after_opening}
use Rattle.fl_hop.specs.Openings.{opened}
use Rattle.fl_model.specs.Given.{changed_at}
use Rattle.fl_model.specs.Rings.{OpeningLabel, open_circuit}
use Rattle.fl_model.specs.Monitors.{Core, says_more, opens}
use Rattle.fl_model.specs.State.{Back, over_route, undecided, Route, State, seats}
use Rattle.fl_model.specs.Binding.{BindByNames, end_id, with_new_binding, with_circuit_begun, is_route, all_differ, arrival_queue}
use Rattle.fl_model.specs.Forwarding.{route_of}
use Rattle.fl_model.specs.SoundEntries.{near_key, to_this}
use Rattle.fl_model_laws.proofs.Views.{View, Part, part_of, sides_of, back_of, view, made, map_changed}
use Rattle.fl_model_laws.proofs.Quiet.{quiet_seats}
use Rattle.fl_model_laws.proofs.Walk.{BeginsRoute}
use Rattle.fl_model_laws.proofs.PlacesStep.{opening_counted}
use Rattle.fl_model_laws.proofs.OpeningsKept.{part_opens}
use Rattle.fl_model_laws.proofs.LinkSides.{names}
use Rattle.fl_model_laws.proofs.TableSteps.{both_kept, both_came, both_were, both_second, leads_of}
use Rattle.fl_model_laws.proofs.Boards.{Board, Fits, Stands, Changes, message}
use Rattle.fl_model_laws.proofs.BoardSteps.{begun_fits}
use Rattle.fl_model_laws.proofs.BoardOwn.{begun_own}
use Rattle.fl_model_laws.proofs.BoardViews.{route_in, board, core_part}
use Rattle.fl_model_laws.proofs.BoardCores.{set_part, own_key, set_at, came_at, was_there, NewTable, place_stays, set_kept, set_were}
use Rattle.fl_model_laws.proofs.BoardHears.{Whole, is_added, slot_within, next_free}
use Rattle.fl_model_laws.proofs.BoardOpenings.{slot_key}
use Rattle.fl_model_laws.proofs.BoardQuiet.{After, changed_to}
use Rattle.fl_model_laws.proofs.Small.{is_not}

-- ---- one binding more

route_last : (backs : List Back) (x : Back) (n : ℕ) → n ≡ length backs → route_in (backs ++ x ∷ []) n ≡ route_of x
route_last [] x n e = ap (λ (m : ℕ). route_in (x ∷ []) m) e
route_last (y ∷ backs) x zero e = absurd (omega (arith, e))
route_last (y ∷ backs) x (suc n) e = route_last backs x n (omega (arith, e))

route_none : (backs : List Back) (n : ℕ) → n ≡ length backs → route_in backs n ≡ None
route_none [] n e = refl
route_none (y ∷ backs) zero e = absurd (omega (arith, e))
route_none (y ∷ backs) (suc n) e = route_none backs n (omega (arith, e))

route_before : (backs : List Back) (x : Back) (n : ℕ) → n ≢ length backs → route_in (backs ++ x ∷ []) n ≡ route_in backs n
route_before [] x zero e = absurd (e refl)
route_before [] x (suc n) e = refl
route_before (y ∷ backs) x zero e = refl
route_before (y ∷ backs) x (suc n) e = route_before backs x n (λ f. e (omega (arith, f)))

-- ---- on a view

abbrev pub begun_view : View → ℕ → Part → Route → View
begun_view v core q route = made (set_part core q v.parts) v.rings (v.backs ++ over_route route ∷ [])

abbrev pub begun_route : ℕ → List ℕ → ℕ → Route
begun_route service cores c = record { service = service; cores = cores; numbers = c ∷ []; verdict = undecided }

abbrev pub begun_opening : ℕ → List ℕ → ℕ → ℕ → OpeningLabel
begun_opening service cores n c = record { circuit = c; binding = n; service = service; path = cores }

abbrev pub begun_part : Part → ℕ → ℕ → OpeningLabel → Part
begun_part p l c o = record { circuits = opened p.circuits (link_id l) (circuit_id c) o.binding; links = changed_at l (says_more (open_circuit o)) p.links }

module _ (v : View) (w : Whole v) (core n service l c : ℕ) (cores : List ℕ) (p : Part) (new : n ≡ length v.backs) (at : slice_get v.parts core ≡ Some p)
    (first : slice_index cores 0 ≡ core) (to : link_of p.circuits (slice_index cores 1) ≡ Some l) (own : next_own p.circuits l ≡ Some c) where
  abbrev the_route : Route
  the_route = begun_route service cores c

  abbrev the_opening : OpeningLabel
  the_opening = begun_opening service cores n c

  abbrev next_core : ℕ
  next_core = slice_index cores 1

  abbrev the_part : Part
  the_part = begun_part p l c (begun_opening service cores n c)

  abbrev the_board : Board
  the_board = board (begun_view v core (begun_part p l c (begun_opening service cores n c)) (begun_route service cores c))

  abbrev client_way : HopTarget
  client_way = to_end (end_id n Client)

  abbrev near_way : HopTarget
  near_way = to_link (link_id l) (circuit_id c)

  free : (c ≤ 2046) × ((h : Hop) → hop_at p.circuits l c ≡ Some h → ⊥)
  free = next_free p.circuits l c (w.parts core p at).table own

  same_names : names the_part.circuits.links ≡ names p.circuits.links
  same_names = opening_counted p.circuits.links l

  table : NewTable p.circuits the_part.circuits n
  table = record {
    names = same_names;
    kept = λ x y h q away. both_kept (after_opening p.circuits l) client_way near_way (leading n false near_way) (leading n false client_way) n x y h tt
        (free.0, (λ g r. absurd (free.1 g r))) (leads_of n false near_way) q away;
    were = λ x y h q away. both_were (after_opening p.circuits l) client_way near_way (leading n false near_way) (leading n false client_way) n x y h
        (leads_of n false near_way) (leads_of n false client_way) q away;
  }

  changes : Changes (board v) the_board n
  changes = record {
    others = λ m away. route_before v.backs (over_route the_route) m (λ e. away (e ∙ sym new));
    places = λ x neighbour y s. place_stays v.parts core p the_part at same_names x neighbour ∙ s;
    kept = set_kept v.parts core n p the_part at table;
    were = set_were v.parts core n p the_part at table;
  }

  key_is : near_key the_route 0 ≡ own_key core next_core c
  key_is = ap (λ (x : ℕ). own_key x next_core c) first

  near : (x : Stands the_board (near_key the_route 0) n (to_this (end_id n Client))) × (x.hop.answered ≡ false)
  near = (
    record {
      hop = record { binding = n; way = client_way; answered = false };
      there = ap the_board.hops key_is ∙ set_at v.parts core next_core c l p the_part _ at same_names to
          (both_second (after_opening p.circuits l) client_way (link_id l) (circuit_id c) (leading n false near_way) (leading n false client_way) free.0
          (slot_within p.circuits next_core l c (w.parts core p at).table to free.0));
      binding_is = refl;
      way = refl;
    },
    refl,
  )

  pub view_begun : Fits (board (begun_view v core (begun_part p l c (begun_opening service cores n c)) (begun_route service cores c)))
  view_begun =
      begun_fits (board v) the_board n the_route core next_core (open_circuit the_opening) w.known changes
      (begun_own (board v) the_board n the_route c w.known (record {
        was = route_none v.backs n new;
        is = route_last v.backs (over_route the_route) n new;
        numbers = refl;
        verdict = refl;
        near = near.0;
        fresh = near.1;
        came = λ key hop q e. elim (came_at v.parts core p the_part at same_names key hop q) [
          | inl old ↦ inl old
          | inr x ↦ elim (both_came (after_opening p.circuits l) client_way near_way (leading n false near_way) (leading n false client_way) x.link key.number hop x.there) [
            | inl (s, its) ↦ inr (slot_key core l c next_core p the_part key hop x to free.0 s ∙ sym key_is)
            | inr y ↦ elim y [
              | inl (s, its) ↦ absurd s
              | inr old ↦ inl (was_there v.parts core p key hop x.link at x.core_is x.link_is old)
            ]
          ]
        ];
      }))
      (route_none v.backs n new) (route_last v.backs (over_route the_route) n new)
      (is_added v core next_core l v.rings p the_part (open_circuit the_opening) w at (record { names = same_names; next_is = to; links = refl }))
      (ap (λ (x : ℕ). Some (message x next_core (open_circuit the_opening))) first) refl

-- ---- on a state

begun_view_is : (w : BindByNames) (cores : List ℕ) (n l c : ℕ) (s : State) (p : Part) → slice_get (map part_of s.cores) w.client.core ≡ Some p
    → view (with_circuit_begun w cores n l c s) ≡ begun_view (view s) w.client.core (begun_part p l c (begun_opening w.iref cores n c)) (begun_route w.iref cores c)
begun_view_is w cores n l c s p at =
    let o : OpeningLabel = begun_opening w.iref cores n c in
    let fresh : State = with_new_binding w (over_route (begun_route w.iref cores c)) (length cores + 1) (Some arrival_queue) s in
    let sat : State = seats w.client (end_id n Client) fresh in
    ap (λ (ps : List Part). made ps (map sides_of sat.rings) (map back_of sat.bindings)) (map_changed part_of (opens l c o) (part_opens l c o) sat.cores w.client.core (λ k q. refl))
    ∙ ap (λ (v : View). made (changed_at w.client.core (part_opens l c o) v.parts) v.rings v.backs) (quiet_seats w.client (end_id n Client) fresh)
    ∙ ap (λ (ps : List Part). made ps (map sides_of s.rings) (map back_of fresh.bindings)) (changed_to w.client.core (part_opens l c o) (map part_of s.cores) p at)
    ∙ ap (λ (bs : List Back). made (set_part w.client.core (part_opens l c o p) (map part_of s.cores)) (map sides_of s.rings) bs) (map-append back_of s.bindings _)

first_core : (cores : List ℕ) (a b : ℕ) (s : State) → is_route cores a b s ≡ true → slice_index cores 0 ≡ a
first_core cores a b s h =
    let one = and_parts _ (all_differ cores) h in
    let two = and_parts _ (slice_index cores (length cores - 1) == b) one.0 in
    let three = and_parts _ (slice_index cores 0 == a) two.0 in
    eqb-true (slice_index cores 0) a three.1

pub state_begun : (w : BindByNames) (cores : List ℕ) (k : Core) (l c : ℕ) (s : State) → BeginsRoute w cores k l c s → Whole (view s)
    → After (view (with_circuit_begun w cores (length s.bindings) l c s))
state_begun w cores k l c s begins h =
    let at = core_part s w.client.core k begins.core in
    subst After (sym (begun_view_is w cores (length s.bindings) l c s (part_of k) at))
    (view_begun (view s) h w.client.core (length s.bindings) w.iref l c cores (part_of k) (sym (length-map s.bindings back_of)) at
    (first_core cores w.client.core w.service.dispatcher.core s (is_not _ begins.route)) begins.link begins.number)
