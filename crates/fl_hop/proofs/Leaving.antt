-- An entry taken out of the slab and the cells.
use Rattle.std.proofs.Common.{◌≡◌, ◌≢◌, refl, sym, ap, subst, ◌∙◌, ℕ, ◌⊎◌, inl, inr, List, length, slice_get, Option, Some, None, option_map}
use Rattle.slab.specs.Slab.{Slab, get, Updates}
use Rattle.fl_base.specs.declared.identity.LinkId.{LinkId}
use Rattle.fl_base.specs.declared.identity.Circuit.{Circuit}
use Rattle.fl_hop.specs.declared.entry.HopTarget.{HopTarget}
use Rattle.fl_hop.specs.declared.entry.HopTarget.TheVariants.{Link}
use Rattle.fl_hop.specs.declared.entry.Hop.{Hop}
use Rattle.fl_hop.specs.declared.entry.Entry.{Entry}
use Rattle.fl_hop.specs.declared.entry.Cell.{Cell}
use Rattle.fl_hop.specs.declared.entry.Cell.TheVariants.{Free, ClientSide, ServerSide}
use Rattle.fl_hop.specs.declared.links.LinkState.{LinkState}
use Rattle.fl_hop.specs.Table.{TheCircuits, slot, put_at, without_entry}
use Rattle.fl_hop.specs.Slots.{table_of, shown, from_client, from_server, cell_of, with_cell, Sits, SlotsKept}
use Rattle.fl_hop.proofs.Lists.{map_same}
use Rattle.fl_hop.proofs.Cells.{cell_found, placed_at}
use Rattle.fl_hop.proofs.Entering.{IsSlot, put_cases, put_length, sits_stays, placed_slot, clash, map_put, same_or, stays}

-- a cell of the entry with this key
abbrev pub HasKey : Cell → ℕ → Type 0
HasKey x key = (x ≡ ClientSide key) ⊎ (x ≡ ServerSide key)

-- the entry with this key, and two ways that are its sides
pub record Sides (cells : List Cell) (s : Slab Entry) (key : ℕ) (e : Entry) (a b : HopTarget) : Type 0 where
  pub kept : get s key ≡ Some e
  pub ways : ((a ≡ e.client) × (b ≡ e.server)) ⊎ ((a ≡ e.server) × (b ≡ e.client))

client_unlike : (x : Cell) (key j : ℕ) → HasKey x key → j ≢ key → ClientSide j ≢ x
client_unlike x key j (inl e) n = λ h.
    let same : ClientSide j ≡ ClientSide key = h ∙ e in
    let f : j ≡ key = cc in
    n f
client_unlike x key j (inr e) n = λ h.
    let same : ClientSide j ≡ ServerSide key = h ∙ e in
    cc

server_unlike : (x : Cell) (key j : ℕ) → HasKey x key → j ≢ key → ServerSide j ≢ x
server_unlike x key j (inr e) n = λ h.
    let same : ServerSide j ≡ ServerSide key = h ∙ e in
    let f : j ≡ key = cc in
    n f
server_unlike x key j (inl e) n = λ h.
    let same : ServerSide j ≡ ClientSide key = h ∙ e in
    cc

module _ (core : ℕ) (links : List LinkState) (cells : List Cell) (s : Slab Entry) (k : SlotsKept core links cells s) (key : ℕ) (e : Entry) (a b : HopTarget) (n : Sides cells s key e a b) where
  final : List Cell
  final = with_cell b Free (with_cell a Free cells)

  -- a place of the entry's is one of the two
  own : (way : HopTarget) (i : ℕ) → (way ≡ e.client) ⊎ (way ≡ e.server) → IsSlot way i → (IsSlot a i) ⊎ (IsSlot b i)
  own way i (inl c) at =
      let P : HopTarget → Type 0 = λ w. IsSlot w i in
      elim n.ways [
        | inl (x, y) ↦ inl (subst P (c ∙ sym x) at)
        | inr (x, y) ↦ inr (subst P (c ∙ sym y) at)
      ]
  own way i (inr c) at =
      let P : HopTarget → Type 0 = λ w. IsSlot w i in
      elim n.ways [
        | inl (x, y) ↦ inr (subst P (c ∙ sym y) at)
        | inr (x, y) ↦ inl (subst P (c ∙ sym x) at)
      ]

  a_has : (x : Cell) × HasKey x key × Sits cells a x
  a_has =
      elim n.ways [
        | inl (x, y) ↦ (ClientSide key, inl refl, subst (λ w. Sits cells w (ClientSide key)) (sym x) (k.client_back key e n.kept))
        | inr (x, y) ↦ (ServerSide key, inr refl, subst (λ w. Sits cells w (ServerSide key)) (sym x) (k.server_back key e n.kept))
      ]

  b_has : (x : Cell) × HasKey x key × Sits cells b x
  b_has =
      elim n.ways [
        | inl (x, y) ↦ (ServerSide key, inr refl, subst (λ w. Sits cells w (ServerSide key)) (sym y) (k.server_back key e n.kept))
        | inr (x, y) ↦ (ClientSide key, inl refl, subst (λ w. Sits cells w (ClientSide key)) (sym y) (k.client_back key e n.kept))
      ]

  same_entry : (j : ℕ) (f : Entry) → get s j ≡ Some f → j ≡ key → f ≡ e
  same_entry j f at same =
      let g : ℕ → Option Entry = λ i. get s i in
      let some : Some f ≡ Some e = sym at ∙ ap g same ∙ n.kept in
      cc

  -- a cell that is left is of another entry
  left_client : (i j : ℕ) → slice_get final i ≡ Some (ClientSide j) → (slice_get cells i ≡ Some (ClientSide j)) × (j ≢ key)
  unfolding final
  left_client i j at =
      elim (put_cases b Free (with_cell a Free cells) i (ClientSide j) at) [
        | inl (here, is) ↦ absurd (cc)
        | inr (not_b, was) ↦
            elim (put_cases a Free cells i (ClientSide j) was) [
              | inl (here, is) ↦ absurd (cc)
              | inr (not_a, before) ↦ (
                before,
                (λ same.
                    let f = k.client i j before in
                    let w : Entry → HopTarget = λ x. x.client in
                    let is = ap w (same_entry j f.entry f.kept same) in
                    elim (own f.entry.client i (inl is) (placed_slot f.entry.client i f.placed)) [
                      | inl x ↦ not_a x
                      | inr y ↦ not_b y
                    ]),
              )
            ]
      ]

  left_server : (i j : ℕ) → slice_get final i ≡ Some (ServerSide j) → (slice_get cells i ≡ Some (ServerSide j)) × (j ≢ key)
  unfolding final
  left_server i j at =
      elim (put_cases b Free (with_cell a Free cells) i (ServerSide j) at) [
        | inl (here, is) ↦ absurd (cc)
        | inr (not_b, was) ↦
            elim (put_cases a Free cells i (ServerSide j) was) [
              | inl (here, is) ↦ absurd (cc)
              | inr (not_a, before) ↦ (
                before,
                (λ same.
                    let f = k.server i j before in
                    let w : Entry → HopTarget = λ x. x.server in
                    let is = ap w (same_entry j f.entry f.kept same) in
                    elim (own f.entry.server i (inr is) (placed_slot f.entry.server i f.placed)) [
                      | inl x ↦ not_a x
                      | inr y ↦ not_b y
                    ]),
              )
            ]
      ]

  other_stays : (way : HopTarget) (x : Cell) → ((y : Cell) → HasKey y key → x ≢ y) → Sits cells way x → Sits final way x
  unfolding final
  other_stays way x other sits =
      let (y, has, at) = a_has in
      let (z, too, there) = b_has in
      sits_stays way b Free x (with_cell a Free cells)
      (sits_stays way a Free x cells sits (clash way a x y cells sits at (other y has)))
      (clash way b x z cells sits there (other z too))

  length_final : length final ≡ length cells
  unfolding final
  length_final = put_length b Free (with_cell a Free cells) ∙ put_length a Free cells

  module _ (s2 : Slab Entry) (u : Updates s s2 key None) where
    -- what is left in the slab was there, under another key
    left : (j : ℕ) (f : Entry) → get s2 j ≡ Some f → (get s j ≡ Some f) × (j ≢ key)
    left j f at =
        elim (same_or j key) [
          | inl same ↦
              let g : ℕ → Option Entry = λ i. get s2 i in
              let some : Some f ≡ None = sym at ∙ ap g same ∙ u.changed in
              absurd (cc)
          | inr other ↦ (sym (u.others j other) ∙ at, other)
        ]

    pub kept_left : SlotsKept core links (with_cell b Free (with_cell a Free cells)) s2
    unfolding final
    kept_left = record {
      few = k.few;
      whole = length_final ∙ k.whole;
      apart = k.apart;
      once = k.once;
      counts = k.counts;
      client = λ i j at.
          let (before, other) = left_client i j at in
          let f = k.client i j before in
          record { entry = f.entry; kept = stays s s2 key j f.entry None u other f.kept; placed = f.placed };
      server = λ i j at.
          let (before, other) = left_server i j at in
          let f = k.server i j before in
          record { entry = f.entry; kept = stays s s2 key j f.entry None u other f.kept; placed = f.placed };
      client_back = λ j f at.
          let (before, other) = left j f at in
          other_stays f.client (ClientSide j) (λ y has. client_unlike y key j has other) (k.client_back j f before);
      server_back = λ j f at.
          let (before, other) = left j f at in
          other_stays f.server (ServerSide j) (λ y has. server_unlike y key j has other) (k.server_back j f before);
      ways = λ j f at. let (before, other) = left j f at in k.ways j f before;
      over = λ j f at. let (before, other) = left j f at in k.over j f before;
      one = λ i j f h at there same.
          let (before, other) = left i f at in
          let (was, apart) = left j h there in
          k.one i j f h before was same;
    }

    same_left : (i : ℕ) (x : Cell) → slice_get final i ≡ Some x → shown s2 x ≡ shown s x
    same_left i Free at = refl
    same_left i (ClientSide j) at =
        let (before, other) = left_client i j at in
        ap (option_map from_client) (u.others j other)
    same_left i (ServerSide j) at =
        let (before, other) = left_server i j at in
        ap (option_map from_server) (u.others j other)

    pub view_left : table_of core links (with_cell b Free (with_cell a Free cells)) s2 ≡ without_entry (table_of core links cells s) a b
    unfolding final
    view_left =
        let t : List (Option Hop) → TheCircuits = λ h. record { core = core; links = links; hops = h } in
        let put : List (Option Hop) → List (Option Hop) = λ h. put_at b None h in
        ap t (map_same (shown s2) (shown s) final same_left)
        ∙ ap t (map_put (shown s) b Free (with_cell a Free cells))
        ∙ ap (λ h. t (put h)) (map_put (shown s) a Free cells)

-- the entry that stands at a number by its client's side, and by its server's
pub stands_client : (core : ℕ) (links : List LinkState) (cells : List Cell) (s : Slab Entry) → SlotsKept core links cells s → (l : LinkId) (c : Circuit) (key : ℕ) (e : Entry) (slice : List Cell) (x : Cell) (o : Option Entry) → slice ≡ cells → x ≡ cell_of slice l.0 c.0 → x ≡ ClientSide key → o ≡ get s key → o ≡ Some e → Sides cells s key e (Link l c) e.server
stands_client core links cells s k l c key e slice x o all here is got some =
    let cell = ap (λ v. cell_of v l.0 c.0) (sym all) ∙ sym here ∙ is in
    let (small, at) = cell_found cells l.0 c.0 (ClientSide key) cell (λ h. cc) in
    let f = k.client (slot l.0 c.0) key at in
    let there : Some f.entry ≡ Some e = sym f.kept ∙ sym got ∙ some in
    let same : f.entry ≡ e = cc in
    let w : Entry → HopTarget = λ y. y.client in
    record { kept = sym got ∙ some; ways = inl (sym (placed_at f.entry.client l c f.placed small) ∙ ap w same, refl) }

pub stands_server : (core : ℕ) (links : List LinkState) (cells : List Cell) (s : Slab Entry) → SlotsKept core links cells s → (l : LinkId) (c : Circuit) (key : ℕ) (e : Entry) (slice : List Cell) (x : Cell) (o : Option Entry) → slice ≡ cells → x ≡ cell_of slice l.0 c.0 → x ≡ ServerSide key → o ≡ get s key → o ≡ Some e → Sides cells s key e (Link l c) e.client
stands_server core links cells s k l c key e slice x o all here is got some =
    let cell = ap (λ v. cell_of v l.0 c.0) (sym all) ∙ sym here ∙ is in
    let (small, at) = cell_found cells l.0 c.0 (ServerSide key) cell (λ h. cc) in
    let f = k.server (slot l.0 c.0) key at in
    let there : Some f.entry ≡ Some e = sym f.kept ∙ sym got ∙ some in
    let same : f.entry ≡ e = cc in
    let w : Entry → HopTarget = λ y. y.server in
    record { kept = sym got ∙ some; ways = inr (sym (placed_at f.entry.server l c f.placed small) ∙ ap w same, refl) }
