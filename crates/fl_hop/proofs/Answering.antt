-- An entry whose opening was answered.
use Rattle.std.proofs.Common.{◌≡◌, ◌≢◌, refl, sym, ap, subst, ◌∙◌, ℕ, zero, suc, ◌⊎◌, inl, inr, true, false, List, [], ◌∷◌, map, slice_get, slice_set, Option, Some, None, option_map, IsSome, arith}
use Rattle.std.proofs.lemmas.Bool.{cases_eq}
use Rattle.slab.specs.Slab.{Slab, get, Updates, ContainsKey, with_value}
use Rattle.slab.proofs.SlabLemmas.{Updates-with_value}
use Rattle.fl_hop.specs.Numbers.{number, IsOpened, IsTaken, OpenedHere, OpenedThere}
use Rattle.fl_hop.specs.Openings.{IsWaiting}
use Rattle.fl_hop.proofs.Numbering.{number_apart, small}
use Rattle.fl_hop.proofs.Sounds.{toward_client, toward_server}
use Rattle.fl_base.specs.declared.identity.LinkId.{LinkId}
use Rattle.fl_base.specs.declared.identity.Circuit.{Circuit}
use Rattle.fl_hop.specs.declared.entry.HopTarget.{HopTarget}
use Rattle.fl_hop.specs.declared.entry.HopTarget.TheVariants.{Link, End}
use Rattle.fl_hop.specs.declared.entry.Hop.{Hop}
use Rattle.fl_hop.specs.declared.entry.Entry.{Entry}
use Rattle.fl_hop.specs.declared.entry.Cell.{Cell}
use Rattle.fl_hop.specs.declared.entry.Cell.TheVariants.{Free, ClientSide, ServerSide}
use Rattle.fl_hop.specs.declared.links.LinkState.{LinkState}
use Rattle.fl_hop.specs.Table.{TheCircuits, slot, hop_at, put_at, leading, with_entry}
use Rattle.fl_hop.specs.Joined.{IsClientWay, IsServerWay, Sound}
use Rattle.fl_hop.specs.Later.{Later, unanswered}
use Rattle.fl_hop.specs.Slots.{table_of, shown, from_client, from_server, cell_of, IsPlaced, Sits, Found, IsOver, SlotsKept}
use Rattle.fl_hop.proofs.Lists.{map_same, set_same, index_found}
use Rattle.fl_hop.proofs.Cells.{hop_is, slot_once, placed_at, cell_found, cell_there, AtClient, AtServer, side}
use Rattle.fl_hop.proofs.Entering.{IsSlot, placed_slot, came, stays}

-- two functions that agree at each element but one, or two
one_changed : {X Y : Type 0} (f g : X → Y) (xs : List X) (i : ℕ) (x : X) → slice_get xs i ≡ Some x → ((j : ℕ) (y : X) → slice_get xs j ≡ Some y → j ≢ i → f y ≡ g y) → map f xs ≡ slice_set (map g xs) i (f x)
one_changed f g [] i x at same = absurd (cc)
one_changed f g (z ∷ zs) zero x at same =
    let is : z ≡ x = cc in
    ap (λ y. f y ∷ map f zs) is ∙ ap (λ ys. f x ∷ ys) (map_same f g zs (λ j y e. same (suc j) y e (λ h. omega arith)))
one_changed f g (z ∷ zs) (suc i) x at same =
    ap (λ y. y ∷ map f zs) (same zero z refl (λ h. omega arith))
    ∙ ap (λ ys. g z ∷ ys) (one_changed f g zs i x at (λ j y e n. same (suc j) y e (λ h. n (omega arith))))

two_changed : {X Y : Type 0} (f g : X → Y) (xs : List X) (i j : ℕ) (x y : X) → i ≢ j → slice_get xs i ≡ Some x → slice_get xs j ≡ Some y → ((k : ℕ) (z : X) → slice_get xs k ≡ Some z → k ≢ i → k ≢ j → f z ≡ g z) → map f xs ≡ slice_set (slice_set (map g xs) i (f x)) j (f y)
two_changed f g [] i j x y two at there same = absurd (cc)
two_changed f g (z ∷ zs) zero zero x y two at there same = absurd (two refl)
two_changed f g (z ∷ zs) zero (suc j) x y two at there same =
    let is : z ≡ x = cc in
    ap (λ u. f u ∷ map f zs) is ∙ ap (λ ys. f x ∷ ys) (one_changed f g zs j y there (λ k u e n. same (suc k) u e (λ h. omega arith) (λ h. n (omega arith))))
two_changed f g (z ∷ zs) (suc i) zero x y two at there same =
    let is : z ≡ y = cc in
    ap (λ u. f u ∷ map f zs) is ∙ ap (λ ys. f y ∷ ys) (one_changed f g zs i x at (λ k u e n. same (suc k) u e (λ h. n (omega arith)) (λ h. omega arith)))
two_changed f g (z ∷ zs) (suc i) (suc j) x y two at there same =
    ap (λ u. u ∷ map f zs) (same zero z refl (λ h. omega arith) (λ h. omega arith))
    ∙ ap (λ ys. g z ∷ ys) (two_changed f g zs i j x y (λ h. two (ap (λ k. suc k) h)) at there (λ k u e n m. same (suc k) u e (λ h. n (omega arith)) (λ h. m (omega arith))))

-- the entry, answered
abbrev pub answered_entry : Entry → Entry
answered_entry e = record { binding = e.binding; client = e.client; server = e.server; answered = true }

module _ (core : ℕ) (links : List LinkState) (cells : List Cell) (s : Slab Entry) (k : SlotsKept core links cells s) (key : ℕ) (e : Entry) (kept : get s key ≡ Some e) (s2 : Slab Entry) (u : Updates s s2 key (Some (answered_entry e))) where
  same_entry : (j : ℕ) (f : Entry) → get s j ≡ Some f → j ≡ key → f ≡ e
  same_entry j f at same =
      let g : ℕ → Option Entry = λ i. get s i in
      let some : Some f ≡ Some e = sym at ∙ ap g same ∙ kept in
      cc

  found_client : (i j : ℕ) (f : Found (λ x. x.client) s i j) → Found (λ x. x.client) s2 i j
  found_client i j f =
      elim (cases_eq j key) [
        | inl same ↦
            let w : Entry → Type 0 = λ x. IsPlaced x.client i in
            let g : ℕ → Option Entry = λ n. get s2 n in
            record { entry = answered_entry e; kept = ap g same ∙ u.changed; placed = subst w (same_entry j f.entry f.kept same) f.placed }
        | inr other ↦ record { entry = f.entry; kept = stays s s2 key j f.entry (Some (answered_entry e)) u other f.kept; placed = f.placed }
      ]

  found_server : (i j : ℕ) (f : Found (λ x. x.server) s i j) → Found (λ x. x.server) s2 i j
  found_server i j f =
      elim (cases_eq j key) [
        | inl same ↦
            let w : Entry → Type 0 = λ x. IsPlaced x.server i in
            let g : ℕ → Option Entry = λ n. get s2 n in
            record { entry = answered_entry e; kept = ap g same ∙ u.changed; placed = subst w (same_entry j f.entry f.kept same) f.placed }
        | inr other ↦ record { entry = f.entry; kept = stays s s2 key j f.entry (Some (answered_entry e)) u other f.kept; placed = f.placed }
      ]

  -- what is known of each entry of the first, and doesn't speak of answers, is known of each of the second
  known : (P : ℕ → Entry → Type 0) → (P key e → P key (answered_entry e)) → ((j : ℕ) (f : Entry) → get s j ≡ Some f → P j f) → (j : ℕ) (f : Entry) → get s2 j ≡ Some f → P j f
  known P here all j f at =
      elim (came s s2 key j (answered_entry e) f u at) [
        | inl (same, is) ↦ subst (λ i. P i f) (sym same) (subst (P key) (sym is) (here (all key e kept)))
        | inr (other, before) ↦ all j f before
      ]

  pub kept_answered : SlotsKept core links cells s2
  kept_answered = record {
    few = k.few;
    whole = k.whole;
    apart = k.apart;
    once = k.once;
    counts = k.counts;
    client = λ i j at. found_client i j (k.client i j at);
    server = λ i j at. found_server i j (k.server i j at);
    client_back = known (λ j f. Sits cells f.client (ClientSide j)) (λ h. h) k.client_back;
    server_back = known (λ j f. Sits cells f.server (ServerSide j)) (λ h. h) k.server_back;
    ways = known (λ j f. IsClientWay core links f.binding f.client × IsServerWay core links f.binding f.server) (λ h. h) k.ways;
    over = known (λ j f. IsOver f.client f.server) (λ h. h) k.over;
    one = λ i j f h at there same.
        known (λ n x. (m : ℕ) (y : Entry) → get s2 m ≡ Some y → x.binding ≡ y.binding → n ≡ m) (λ p. p)
        (λ n x was. known (λ m y. x.binding ≡ y.binding → n ≡ m) (λ p. p) (λ m y before b. k.one n m x y was before b)) i f at j h there same;
  }

  same_entries : (x : Cell) → option_map unanswered (shown s2 x) ≡ option_map unanswered (shown s x)
  same_entries Free = refl
  same_entries (ClientSide j) =
      let hop : Option Entry → Option Hop = λ o. option_map unanswered (option_map from_client o) in
      elim (cases_eq j key) [
        | inl same ↦ ap (λ n. hop (get s2 n)) same ∙ ap hop u.changed ∙ sym (ap (λ n. hop (get s n)) same ∙ ap hop kept)
        | inr other ↦ ap hop (u.others j other)
      ]
  same_entries (ServerSide j) =
      let hop : Option Entry → Option Hop = λ o. option_map unanswered (option_map from_server o) in
      elim (cases_eq j key) [
        | inl same ↦ ap (λ n. hop (get s2 n)) same ∙ ap hop u.changed ∙ sym (ap (λ n. hop (get s n)) same ∙ ap hop kept)
        | inr other ↦ ap hop (u.others j other)
      ]

  pub later_answered : Later (table_of core links cells s) (table_of core links cells s2)
  later_answered = record {
    core = refl;
    here = λ l n o. o;
    there = λ l n o. o;
    kept = λ l n given.
        let hop : Option Hop → Option Hop = λ o. option_map unanswered o in
        inl (ap hop (hop_is core links cells s2 l n) ∙ same_entries (cell_of cells l n) ∙ sym (ap hop (hop_is core links cells s l n)));
  }

  -- a cell at a place that isn't the entry's shows what it showed
  elsewhere : (i : ℕ) (x : Cell) → slice_get cells i ≡ Some x → (IsSlot e.client i → ⊥) → (IsSlot e.server i → ⊥) → shown s2 x ≡ shown s x
  elsewhere i Free at a b = refl
  elsewhere i (ClientSide j) at a b =
      let f = k.client i j at in
      elim (cases_eq j key) [
        | inl same ↦
            let w : Entry → Type 0 = λ x. IsSlot x.client i in
            absurd (a (subst w (same_entry j f.entry f.kept same) (placed_slot f.entry.client i f.placed)))
        | inr other ↦ ap (option_map from_client) (u.others j other)
      ]
  elsewhere i (ServerSide j) at a b =
      let f = k.server i j at in
      elim (cases_eq j key) [
        | inl same ↦
            let w : Entry → Type 0 = λ x. IsSlot x.server i in
            absurd (b (subst w (same_entry j f.entry f.kept same) (placed_slot f.entry.server i f.placed)))
        | inr other ↦ ap (option_map from_server) (u.others j other)
      ]

  shown_client : shown s2 (ClientSide key) ≡ leading e.binding true e.server
  shown_client = ap (option_map from_client) u.changed

  shown_server : shown s2 (ServerSide key) ≡ leading e.binding true e.client
  shown_server = ap (option_map from_server) u.changed

  hops_step : (a b : HopTarget) → a ≡ e.client → b ≡ e.server → IsOver a b → Sits cells a (ClientSide key) → Sits cells b (ServerSide key)
      → map (shown s2) cells ≡ put_at b (shown s2 (ServerSide key)) (put_at a (shown s2 (ClientSide key)) (map (shown s) cells))
  hops_step (Link l c) (Link m d) x y over p q =
      two_changed (shown s2) (shown s) cells (slot l.0 c.0) (slot m.0 d.0) (ClientSide key) (ServerSide key)
      (λ h. over (slot_once l.0 c.0 m.0 d.0 h p.0 q.0).0) p.1 q.1
      (λ i z at n o. elsewhere i z at (λ h. n (subst (λ w. IsSlot w i) (sym x) h)) (λ h. o (subst (λ w. IsSlot w i) (sym y) h)))
  hops_step (Link l c) (End f) x y over p q =
      one_changed (shown s2) (shown s) cells (slot l.0 c.0) (ClientSide key) p.1
      (λ i z at n. elsewhere i z at (λ h. n (subst (λ w. IsSlot w i) (sym x) h)) (λ h. subst (λ w. IsSlot w i) (sym y) h))
  hops_step (End f) (Link m d) x y over p q =
      one_changed (shown s2) (shown s) cells (slot m.0 d.0) (ServerSide key) q.1
      (λ i z at n. elsewhere i z at (λ h. subst (λ w. IsSlot w i) (sym x) h) (λ h. n (subst (λ w. IsSlot w i) (sym y) h)))
  hops_step (End f) (End g) x y over p q = absurd over

  pub view_answered : table_of core links cells s2 ≡ with_entry (table_of core links cells s) e.binding true e.client e.server
  view_answered =
      let t : List (Option Hop) → TheCircuits = λ h. record { core = core; links = links; hops = h } in
      let put : Option Hop → Option Hop → TheCircuits = λ o p. t (put_at e.server o (put_at e.client p (map (shown s) cells))) in
      ap t (hops_step e.client e.server refl refl (k.over key e kept) (k.client_back key e kept) (k.server_back key e kept))
      ∙ ap (λ o. put o (shown s2 (ClientSide key))) shown_server
      ∙ ap (λ p. put (leading e.binding true e.client) p) shown_client

-- the entry's server's side stands at a number
pub at_server : (core : ℕ) (links : List LinkState) (cells : List Cell) (s : Slab Entry) → SlotsKept core links cells s → (l n key : ℕ) (e : Entry) (slice : List Cell) (x : Cell) → slice ≡ cells → x ≡ cell_of slice l n → x ≡ ServerSide key → get s key ≡ Some e → AtServer cells s l n (from_server e)
at_server core links cells s k l n key e slice x all here is got =
    let cell = ap (λ v. cell_of v l n) (sym all) ∙ sym here ∙ is in
    let (fits, at) = cell_found cells l n (ServerSide key) cell (λ h. cc) in
    let f = k.server (slot l n) key at in
    let some : Some f.entry ≡ Some e = sym f.kept ∙ got in
    let same : f.entry ≡ e = cc in
    let P : Entry → Type 0 = λ y. IsPlaced y.server (slot l n) in
    record { key = key; entry = e; kept = got; small = fits; cell = at; placed = subst P same f.placed; is = refl }

pub shows : (core : ℕ) (links : List LinkState) (cells : List Cell) (s : Slab Entry) (l n : ℕ) (hop : Hop) → (x : AtServer cells s l n hop) → hop_at (table_of core links cells s) l n ≡ Some hop
shows core links cells s l n hop x =
    let f : Hop → Option Hop = λ h. Some h in
    hop_is core links cells s l n
    ∙ ap (shown s) (cell_there cells l n (ServerSide x.key) x.small x.cell)
    ∙ ap (option_map from_server) x.kept
    ∙ ap f (sym x.is)

-- a number that both cores gave can't be
never_both : (core : ℕ) (links : List LinkState) (cells : List Cell) (s : Slab Entry) → SlotsKept core links cells s → (l n : ℕ) → IsOpened core links l n → IsTaken core links l n → ⊥
never_both core links cells s k l n a b =
    let some : Some a.link ≡ Some b.link = sym a.there ∙ b.there in
    let same : a.link ≡ b.link = cc in
    let (i, less, is) = a.among in
    let (j, few, too) = b.among in
    let f : LinkState → ℕ = λ y. number y.neighbour.0 core j in
    number_apart core a.link.neighbour.0 i j (λ e. k.apart l a.link a.there (sym e)) (sym is ∙ too ∙ ap f (sym same))

waits_step : (core : ℕ) (links : List LinkState) (cells : List Cell) (s : Slab Entry) → SlotsKept core links cells s → (l n : ℕ) (hop : Hop) (slice : List Cell) (x : Cell) → slice ≡ cells → x ≡ cell_of slice l n → ((key : ℕ) → x ≡ ServerSide key → ⊥) → IsOpened core links l n → AtClient cells s l n hop ⊎ AtServer cells s l n hop → ⊥
waits_step core links cells s k l n hop slice x all here none opened (inl y) = never_both core links cells s k l n opened (toward_server core links cells s k l n hop y).0
waits_step core links cells s k l n hop slice x all here none opened (inr y) =
    none y.key (here ∙ ap (λ v. cell_of v l n) all ∙ cell_there cells l n (ServerSide y.key) y.small y.cell)

-- where no server's side stands, no opening of this core's own waits
pub waits_not : (core : ℕ) (links : List LinkState) (cells : List Cell) (s : Slab Entry) → SlotsKept core links cells s → (t : TheCircuits) → table_of core links cells s ≡ t → (l n : ℕ) (hop : Hop) (slice : List Cell) (x : Cell) → slice ≡ cells → x ≡ cell_of slice l n → ((key : ℕ) → x ≡ ServerSide key → ⊥) → IsWaiting t l n hop → ⊥
waits_not core links cells s k t is l n hop slice x all here none w =
    let v = subst (λ y. IsWaiting y l n hop) (sym is) w in
    waits_step core links cells s k l n hop slice x all here none v.here (side core links cells s k l n hop v.there)

-- and where one stands that isn't answered, one waits
pub waits : (core : ℕ) (links : List LinkState) (cells : List Cell) (s : Slab Entry) → SlotsKept core links cells s → (t : TheCircuits) → table_of core links cells s ≡ t → (l n : ℕ) (hop : Hop) → AtServer cells s l n hop → hop.answered ≡ false → IsWaiting t l n hop
waits core links cells s k t is l n hop x h =
    subst (λ y. IsWaiting y l n hop) is
    (record { here = (toward_client core links cells s k l n hop x).0; there = shows core links cells s l n hop x; unanswered = h })

pub with_same : (s : Slab Entry) (key : ℕ) (e : Entry) → get s key ≡ Some e → with_value s key e ≡ s
with_same s key e got =
    let f : List (Option Entry) → Slab Entry = λ v. record s { slots = v } in
    ap f (set_same s.slots key (Some e) (index_found s.slots key None (Some e) got (λ h. cc)))

pub has_key : (s : Slab Entry) (key : ℕ) (e : Entry) → get s key ≡ Some e → ContainsKey s key
has_key s key e got = subst (λ (o : Option Entry). IsSome o) (sym got) refl

pub answered_updates : (s : Slab Entry) (key : ℕ) (e : Entry) → get s key ≡ Some e → Updates s (with_value s key (answered_entry e)) key (Some (answered_entry e))
answered_updates s key e got = Updates-with_value s key (answered_entry e) (has_key s key e got)

pub server_way : (core : ℕ) (links : List LinkState) (cells : List Cell) (s : Slab Entry) → SlotsKept core links cells s → (l : LinkId) (c : Circuit) (key : ℕ) (e : Entry) (slice : List Cell) (x : Cell) → slice ≡ cells → x ≡ cell_of slice l.0 c.0 → x ≡ ServerSide key → get s key ≡ Some e → e.server ≡ Link l c
server_way core links cells s k l c key e slice x all here is got =
    let cell = ap (λ v. cell_of v l.0 c.0) (sym all) ∙ sym here ∙ is in
    let (fits, at) = cell_found cells l.0 c.0 (ServerSide key) cell (λ h. cc) in
    let f = k.server (slot l.0 c.0) key at in
    let some : Some f.entry ≡ Some e = sym f.kept ∙ got in
    let same : f.entry ≡ e = cc in
    let w : Entry → HopTarget = λ y. y.server in
    ap w (sym same) ∙ placed_at f.entry.server l c f.placed fits

none_or : (o : Option Hop) → ((hop : Hop) → o ≡ Some hop → ⊥) → o ≡ None
none_or None n = refl
none_or (Some hop) n = absurd (n hop refl)

-- number 0 leads nowhere
pub zero_free : (t : TheCircuits) → Sound t → (l : ℕ) → hop_at t l 0 ≡ None
zero_free t sound l =
    none_or (hop_at t l 0) (λ hop e.
    elim (sound.toward l 0 hop.binding hop.way (record { answered = hop.answered; there = e })) [
      | inl (o, w) ↦ (small t.core o.link.neighbour.0 o.link.opened 0 (sound.counts l o.link o.there).0 o.among).0 refl
      | inr (o, w) ↦ (small o.link.neighbour.0 t.core o.link.taken 0 (sound.counts l o.link o.there).1 o.among).0 refl
    ])

-- no number is both cores'
pub numbers_apart : (t : TheCircuits) → Sound t → (l n : ℕ) → OpenedHere t l n → OpenedThere t l n → ⊥
numbers_apart t sound l n a b =
    let some : Some a.link ≡ Some b.link = sym a.there ∙ b.there in
    let same : a.link ≡ b.link = cc in
    let (i, less, is) = a.among in
    let (j, few, too) = b.among in
    let f : LinkState → ℕ = λ y. number y.neighbour.0 t.core j in
    number_apart t.core a.link.neighbour.0 i j (λ e. sound.apart l a.link a.there (sym e)) (sym is ∙ too ∙ ap f (sym same))
