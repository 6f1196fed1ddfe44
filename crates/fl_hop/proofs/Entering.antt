-- An entry put into the slab and the cells, and one taken out.
use Rattle.std.proofs.Common.{◌≡◌, ◌≢◌, refl, sym, ap, subst, ◌∙◌, ℕ, zero, suc, ◌<◌, ◌≤◌, ◌⊎◌, inl, inr, List, length, map, slice_get, Option, Some, None, option_map, length-set, arith}
use Rattle.std.proofs.lemmas.List.{map-set}
use Rattle.slab.specs.Slab.{Slab, get, Updates}
use Rattle.fl_base.specs.declared.identity.LinkId.{LinkId}
use Rattle.fl_base.specs.declared.identity.Circuit.{Circuit}
use Rattle.fl_hop.specs.declared.entry.HopTarget.{HopTarget}
use Rattle.fl_hop.specs.declared.entry.HopTarget.TheVariants.{Link, End}
use Rattle.fl_hop.specs.declared.entry.Hop.{Hop}
use Rattle.fl_hop.specs.declared.entry.Entry.{Entry}
use Rattle.fl_hop.specs.declared.entry.Cell.{Cell}
use Rattle.fl_hop.specs.declared.entry.Cell.TheVariants.{Free, ClientSide, ServerSide}
use Rattle.fl_hop.specs.declared.links.LinkState.{LinkState}
use Rattle.fl_hop.specs.Table.{TheCircuits, slot, put_at, with_entry}
use Rattle.fl_hop.specs.Numbers.{IsGiven}
use Rattle.fl_hop.specs.Joined.{IsClientWay, IsServerWay}
use Rattle.fl_hop.specs.Slots.{table_of, shown, from_client, from_server, with_cell, IsPlaced, Sits, Found, IsOver, SlotsKept, Entered}
use Rattle.fl_hop.proofs.Lists.{set_cases, set_here, set_there, map_same, at_within}
use Rattle.fl_hop.proofs.Cells.{slot_once, same_link, same_circuit}

-- a way's own place
abbrev pub IsSlot : HopTarget → ℕ → Type 0
IsSlot (Link l c) i = i ≡ slot l.0 c.0
IsSlot (End e) i = ⊥

pub put_cases : (way : HopTarget) (x : Cell) (cells : List Cell) (i : ℕ) (y : Cell) → slice_get (with_cell way x cells) i ≡ Some y → (IsSlot way i × (y ≡ x)) ⊎ ((IsSlot way i → ⊥) × (slice_get cells i ≡ Some y))
put_cases (Link l c) x cells i y e = set_cases cells (slot l.0 c.0) x i y e
put_cases (End f) x cells i y e = inr ((λ h. h), e)

put_there : (way : HopTarget) (x : Cell) (cells : List Cell) (i : ℕ) (y : Cell) → slice_get cells i ≡ Some y → (IsSlot way i → ⊥) → slice_get (with_cell way x cells) i ≡ Some y
put_there (Link l c) x cells i y e n = set_there cells (slot l.0 c.0) x i y e n
put_there (End f) x cells i y e n = e

pub put_length : (way : HopTarget) (x : Cell) (cells : List Cell) → length (with_cell way x cells) ≡ length cells
put_length (Link l c) x cells = length-set cells (slot l.0 c.0) x
put_length (End f) x cells = refl

-- what a way's own number has after a write there
put_sits : (way : HopTarget) (x y : Cell) (cells : List Cell) → Sits cells way y → Sits (with_cell way x cells) way x
put_sits (Link l c) x y cells h = (h.0, set_here cells (slot l.0 c.0) y x h.1)
put_sits (End f) x y cells h = tt

-- and what another's has
pub sits_stays : (way other : HopTarget) (x y : Cell) (cells : List Cell) → Sits cells way y → ((i : ℕ) → IsSlot way i → IsSlot other i → ⊥) → Sits (with_cell other x cells) way y
sits_stays (Link l c) other x y cells h n = (h.0, put_there other x cells (slot l.0 c.0) y h.1 (n (slot l.0 c.0) refl))
sits_stays (End f) other x y cells h n = tt

-- a way that stands at a place has it for its own
pub placed_slot : (way : HopTarget) (i : ℕ) → IsPlaced way i → IsSlot way i
placed_slot (Link l c) i p = p.place
placed_slot (End e) i p = p

slot_placed : (way : HopTarget) (x : Cell) (cells : List Cell) (i : ℕ) → Sits cells way x → IsSlot way i → IsPlaced way i
slot_placed (Link l c) x cells i h e = record { place = e; small = h.0 }
slot_placed (End f) x cells i h e = e

-- what a way's own place has
sits_at : (way : HopTarget) (x y : Cell) (cells : List Cell) (i : ℕ) → Sits cells way x → IsSlot way i → slice_get cells i ≡ Some y → y ≡ x
sits_at (Link l c) x y cells i h e at =
    let f : ℕ → Option Cell = λ k. slice_get cells k in
    let some : Some y ≡ Some x = sym at ∙ ap f e ∙ h.1 in
    cc
sits_at (End f) x y cells i h e at = absurd e

-- two ways over two links have no place in common
over_apart : (a b : HopTarget) (x y : Cell) (cells : List Cell) → IsOver a b → Sits cells a x → Sits cells b y → (i : ℕ) → IsSlot a i → IsSlot b i → ⊥
over_apart (Link l c) (Link m d) x y cells over p q i e f = over (slot_once l.0 c.0 m.0 d.0 (sym e ∙ f) p.0 q.0).0
over_apart (Link l c) (End g) x y cells over p q i e f = f
over_apart (End g) b x y cells over p q i e f = e

-- what a way's own number has, if anything
module _ (core : ℕ) (links : List LinkState) (cells : List Cell) (s : Slab Entry) (k : SlotsKept core links cells s) where
  given_at : (way : HopTarget) (l : LinkId) (c : Circuit) → IsPlaced way (slot l.0 c.0) → c.0 ≤ 2046 → way ≡ Link l c
  given_at (Link m d) l c at small =
      let (a, b) = slot_once l.0 c.0 m.0 d.0 at.place small at.small in
      let f : LinkId → HopTarget = λ x. Link x d in
      let g : Circuit → HopTarget = λ x. Link l x in
      ap f (same_link m l (sym a)) ∙ ap g (same_circuit d c (sym b))
  given_at (End e) l c at small = absurd at

  free_step : (l : LinkId) (c : Circuit) → c.0 ≤ 2046 → (IsGiven core links l.0 c.0 → ⊥) → (x : Cell) → slice_get cells (slot l.0 c.0) ≡ Some x → x ≡ Free
  free_step l c small new Free at = refl
  free_step l c small new (ClientSide key) at =
      let f = k.client (slot l.0 c.0) key at in
      let w = k.ways key f.entry f.kept in
      absurd (new (inr (subst (IsClientWay core links f.entry.binding) (given_at f.entry.client l c f.placed small) w.0)))
  free_step l c small new (ServerSide key) at =
      let f = k.server (slot l.0 c.0) key at in
      let w = k.ways key f.entry f.kept in
      absurd (new (inl (subst (IsServerWay core links f.entry.binding) (given_at f.entry.server l c f.placed small) w.1)))

  -- a number that nobody gave is free
  pub free : (l : LinkId) (c : Circuit) → l.0 < length links → c.0 ≤ 2046 → (IsGiven core links l.0 c.0 → ⊥) → Sits cells (Link l c) Free
  free l c inside small new =
      let whole = k.whole in
      let (x, at) = at_within cells (slot l.0 c.0) (omega arith) in
      let some : Cell → Option Cell = λ y. Some y in
      (small, at ∙ ap some (free_step l c small new x at))

pub same_or : (n m : ℕ) → (n ≡ m) ⊎ (n ≢ m)
same_or zero zero = inl refl
same_or zero (suc m) = inr (λ e. omega arith)
same_or (suc n) zero = inr (λ e. omega arith)
same_or (suc n) (suc m) =
    elim (same_or n m) [
      | inl e ↦ inl (ap (λ k. suc k) e)
      | inr d ↦ inr (λ e. d (omega arith))
    ]

-- what a key has after one entry came
pub came : (s s2 : Slab Entry) (key j : ℕ) (e f : Entry) → Updates s s2 key (Some e) → get s2 j ≡ Some f → ((j ≡ key) × (f ≡ e)) ⊎ ((j ≢ key) × (get s j ≡ Some f))
came s s2 key j e f u at =
    elim (same_or j key) [
      | inl same ↦
          let g : ℕ → Option Entry = λ k. get s2 k in
          let some : Some f ≡ Some e = sym at ∙ ap g same ∙ u.changed in
          let is : f ≡ e = cc in
          inl (same, is)
      | inr other ↦ inr (other, sym (u.others j other) ∙ at)
    ]

-- what a key that has an entry has after another came
pub stays : (s s2 : Slab Entry) (key j : ℕ) (f : Entry) (o : Option Entry) → Updates s s2 key o → j ≢ key → get s j ≡ Some f → get s2 j ≡ Some f
stays s s2 key j f o u other at = u.others j other ∙ at

unlike_vacant : (s : Slab Entry) (key j : ℕ) (f : Entry) → get s key ≡ None → get s j ≡ Some f → j ≢ key
unlike_vacant s key j f none at = λ e.
    let g : ℕ → Option Entry = λ k. get s k in
    let clash : Some f ≡ None = sym at ∙ ap g e ∙ none in
    cc

-- two ways with unlike cells have no place in common
pub clash : (a b : HopTarget) (x y : Cell) (cells : List Cell) → Sits cells a x → Sits cells b y → x ≢ y → (i : ℕ) → IsSlot a i → IsSlot b i → ⊥
clash (Link l c) b x y cells p q n i e f =
    let g : ℕ → Option Cell = λ k. slice_get cells k in
    n (sits_at b y x cells i q f (ap g e ∙ p.1))
clash (End h) b x y cells p q n i e f = e

pub map_put : (f : Cell → Option Hop) (way : HopTarget) (x : Cell) (cells : List Cell) → map f (with_cell way x cells) ≡ put_at way (f x) (map f cells)
map_put f (Link l c) x cells = map-set f cells (slot l.0 c.0) x
map_put f (End e) x cells = refl

module _ (core : ℕ) (links : List LinkState) (cells : List Cell) (s : Slab Entry) (k : SlotsKept core links cells s) (e : Entry) (cells2 : List Cell) (s2 : Slab Entry) (n : Entered e cells s cells2 s2)
    (p : Sits cells e.client Free) (q : Sits cells e.server Free) (over : IsOver e.client e.server) where
  between : List Cell
  between = with_cell e.client (ClientSide n.key) cells

  final : List Cell
  final = with_cell e.server (ServerSide n.key) (with_cell e.client (ClientSide n.key) cells)

  found_client : (i j : ℕ) → slice_get final i ≡ Some (ClientSide j) → Found (λ x. x.client) s2 i j
  unfolding final
  found_client i j at =
      elim (put_cases e.server (ServerSide n.key) (with_cell e.client (ClientSide n.key) cells) i (ClientSide j) at) [
        | inl (here, is) ↦ absurd (cc)
        | inr (away, was) ↦
            elim (put_cases e.client (ClientSide n.key) cells i (ClientSide j) was) [
              | inl (here, is) ↦
                  let same : j ≡ n.key = cc in
                  let g : ℕ → Option Entry = λ x. get s2 x in
                  record { entry = e; kept = ap g same ∙ n.updates.changed; placed = slot_placed e.client Free cells i p here }
              | inr (other, before) ↦
                  let f = k.client i j before in
                  record { entry = f.entry; kept = stays s s2 n.key j f.entry (Some e) n.updates (unlike_vacant s n.key j f.entry n.vacant f.kept) f.kept; placed = f.placed }
            ]
      ]

  found_server : (i j : ℕ) → slice_get final i ≡ Some (ServerSide j) → Found (λ x. x.server) s2 i j
  unfolding final
  found_server i j at =
      elim (put_cases e.server (ServerSide n.key) (with_cell e.client (ClientSide n.key) cells) i (ServerSide j) at) [
        | inl (here, is) ↦
            let same : j ≡ n.key = cc in
            let g : ℕ → Option Entry = λ x. get s2 x in
            record { entry = e; kept = ap g same ∙ n.updates.changed; placed = slot_placed e.server Free cells i q here }
        | inr (away, was) ↦
            elim (put_cases e.client (ClientSide n.key) cells i (ServerSide j) was) [
              | inl (here, is) ↦ absurd (cc)
              | inr (other, before) ↦
                  let f = k.server i j before in
                  record { entry = f.entry; kept = stays s s2 n.key j f.entry (Some e) n.updates (unlike_vacant s n.key j f.entry n.vacant f.kept) f.kept; placed = f.placed }
            ]
      ]

  new_client : Sits final e.client (ClientSide n.key)
  unfolding final
  new_client =
      sits_stays e.client e.server (ServerSide n.key) (ClientSide n.key) (with_cell e.client (ClientSide n.key) cells)
      (put_sits e.client (ClientSide n.key) Free cells p)
      (over_apart e.client e.server Free Free cells over p q)

  new_server : Sits final e.server (ServerSide n.key)
  unfolding final
  new_server =
      put_sits e.server (ServerSide n.key) Free (with_cell e.client (ClientSide n.key) cells)
      (sits_stays e.server e.client (ClientSide n.key) Free cells q (λ i a b. over_apart e.client e.server Free Free cells over p q i b a))

  old_stays : (way : HopTarget) (x : Cell) → x ≢ Free → Sits cells way x → Sits final way x
  unfolding final
  old_stays way x used sits =
      sits_stays way e.server (ServerSide n.key) x (with_cell e.client (ClientSide n.key) cells)
      (sits_stays way e.client (ClientSide n.key) x cells sits (clash way e.client x Free cells sits p used))
      (clash way e.server x Free cells sits q used)

  client_back : (j : ℕ) (f : Entry) → get s2 j ≡ Some f → Sits final f.client (ClientSide j)
  client_back j f at =
      elim (came s s2 n.key j e f n.updates at) [
        | inl (same, is) ↦
            let P : ℕ → Entry → Type 0 = λ i x. Sits final x.client (ClientSide i) in
            subst (λ i. P i f) (sym same) (subst (P n.key) (sym is) new_client)
        | inr (other, before) ↦ old_stays f.client (ClientSide j) (λ h. cc) (k.client_back j f before)
      ]

  server_back : (j : ℕ) (f : Entry) → get s2 j ≡ Some f → Sits final f.server (ServerSide j)
  server_back j f at =
      elim (came s s2 n.key j e f n.updates at) [
        | inl (same, is) ↦
            let P : ℕ → Entry → Type 0 = λ i x. Sits final x.server (ServerSide i) in
            subst (λ i. P i f) (sym same) (subst (P n.key) (sym is) new_server)
        | inr (other, before) ↦ old_stays f.server (ServerSide j) (λ h. cc) (k.server_back j f before)
      ]

  length_final : length final ≡ length cells
  unfolding final
  length_final = put_length e.server (ServerSide n.key) (with_cell e.client (ClientSide n.key) cells) ∙ put_length e.client (ClientSide n.key) cells

  one_binding : ((j : ℕ) (f : Entry) → get s j ≡ Some f → f.binding ≢ e.binding) → (i j : ℕ) (f h : Entry) → get s2 i ≡ Some f → get s2 j ≡ Some h → f.binding ≡ h.binding → i ≡ j
  one_binding fresh i j f h at there same =
      let b : Entry → ℕ = λ x. x.binding in
      elim (came s s2 n.key i e f n.updates at) [
        | inl (here, is) ↦
            elim (came s s2 n.key j e h n.updates there) [
              | inl (also, too) ↦ here ∙ sym also
              | inr (other, before) ↦ absurd (fresh j h before (sym same ∙ ap b is))
            ]
        | inr (apart, was) ↦
            elim (came s s2 n.key j e h n.updates there) [
              | inl (also, too) ↦ absurd (fresh i f was (same ∙ ap b too))
              | inr (other, before) ↦ k.one i j f h was before same
            ]
      ]

  pub kept_entered : IsClientWay core links e.binding e.client → IsServerWay core links e.binding e.server → ((j : ℕ) (f : Entry) → get s j ≡ Some f → f.binding ≢ e.binding) → SlotsKept core links cells2 s2
  unfolding final
  kept_entered client server fresh =
      subst (λ v. SlotsKept core links v s2) (sym n.placed)
      (record {
        few = k.few;
        whole = length_final ∙ k.whole;
        apart = k.apart;
        once = k.once;
        counts = k.counts;
        client = found_client;
        server = found_server;
        client_back = client_back;
        server_back = server_back;
        ways = λ j f at.
            elim (came s s2 n.key j e f n.updates at) [
              | inl (same, is) ↦ subst (λ (x : Entry). IsClientWay core links x.binding x.client × IsServerWay core links x.binding x.server) (sym is) (client, server)
              | inr (other, before) ↦ k.ways j f before
            ];
        over = λ j f at.
            elim (came s s2 n.key j e f n.updates at) [
              | inl (same, is) ↦ subst (λ (x : Entry). IsOver x.client x.server) (sym is) over
              | inr (other, before) ↦ k.over j f before
            ];
        one = one_binding fresh;
      })

  same_shown : (i : ℕ) (x : Cell) → slice_get cells i ≡ Some x → shown s2 x ≡ shown s x
  same_shown i Free at = refl
  same_shown i (ClientSide j) at =
      let f = k.client i j at in
      ap (option_map from_client) (n.updates.others j (unlike_vacant s n.key j f.entry n.vacant f.kept))
  same_shown i (ServerSide j) at =
      let f = k.server i j at in
      ap (option_map from_server) (n.updates.others j (unlike_vacant s n.key j f.entry n.vacant f.kept))

  pub view_entered : table_of core links cells2 s2 ≡ with_entry (table_of core links cells s) e.binding e.answered e.client e.server
  view_entered =
      let t : List (Option Hop) → TheCircuits = λ h. record { core = core; links = links; hops = h } in
      let put : Option Hop → List (Option Hop) → List (Option Hop) = λ o h. put_at e.server o h in
      let at_client : Option Hop → List (Option Hop) → List (Option Hop) = λ o h. put_at e.client o h in
      ap (λ v. t (map (shown s2) v)) n.placed
      ∙ ap t (map_put (shown s2) e.server (ServerSide n.key) (with_cell e.client (ClientSide n.key) cells))
      ∙ ap (λ h. t (put (shown s2 (ServerSide n.key)) h)) (map_put (shown s2) e.client (ClientSide n.key) cells)
      ∙ ap (λ (o : Option Entry). t (put (option_map from_server o) (at_client (shown s2 (ClientSide n.key)) (map (shown s2) cells)))) n.updates.changed
      ∙ ap (λ (o : Option Entry). t (put (Some (from_server e)) (at_client (option_map from_client o) (map (shown s2) cells)))) n.updates.changed
      ∙ ap (λ h. t (put (Some (from_server e)) (at_client (Some (from_client e)) h))) (map_same (shown s2) (shown s) cells same_shown)
