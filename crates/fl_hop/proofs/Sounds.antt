-- What holds of every table.
use Rattle.std.proofs.Common.{◌≡◌, ◌≢◌, refl, sym, ap, subst, ◌∙◌, ℕ, ◌<◌, ◌≤◌, ◌⊎◌, inl, inr, Bool, List, length, Option, Some, option_map}
use Rattle.std.proofs.lemmas.List.{length-map}
use Rattle.slab.specs.Slab.{Slab, get}
use Rattle.fl_base.specs.declared.identity.LinkId.{LinkId}
use Rattle.fl_base.specs.declared.identity.Circuit.{Circuit}
use Rattle.fl_hop.specs.declared.entry.HopTarget.{HopTarget}
use Rattle.fl_hop.specs.declared.entry.HopTarget.TheVariants.{Link, End}
use Rattle.fl_hop.specs.declared.entry.Hop.{Hop}
use Rattle.fl_hop.specs.declared.entry.Entry.{Entry}
use Rattle.fl_hop.specs.declared.entry.Cell.{Cell}
use Rattle.fl_hop.specs.declared.entry.Cell.TheVariants.{ClientSide, ServerSide}
use Rattle.fl_hop.specs.declared.links.LinkState.{LinkState}
use Rattle.fl_hop.specs.Table.{slot, hop_at, leading}
use Rattle.fl_hop.specs.Numbers.{IsOpened, IsTaken, IsGiven}
use Rattle.fl_hop.specs.Forward.{IsOther}
use Rattle.fl_hop.proofs.Numbering.{small}
use Rattle.fl_hop.proofs.Lists.{within}
use Rattle.fl_hop.specs.Joined.{IsClientWay, IsServerWay, Leads, Sound}
use Rattle.fl_hop.specs.Slots.{table_of, shown, from_client, from_server, IsPlaced, IsOver, Sits, SlotsKept}
use Rattle.fl_hop.proofs.Cells.{placed_at, cell_there, hop_is, AtClient, AtServer, side}

same_place : (l m : LinkId) (c d : Circuit) → Link l c ≡ Link m d → (l ≡ m) × (c ≡ d)
same_place l m c d e =
    let a : l ≡ m = cc in
    let b : c ≡ d = cc in
    (a, b)

module _ (core : ℕ) (links : List LinkState) (cells : List Cell) (s : Slab Entry) (k : SlotsKept core links cells s) where
  -- the way that stands at a number is that number's
  taken_there : (binding : ℕ) (way : HopTarget) (l n : ℕ) → IsPlaced way (slot l n) → n ≤ 2046 → IsClientWay core links binding way → IsTaken core links l n
  taken_there binding way l n at small given =
      let link : LinkId = record { 0 = l } in
      let circuit : Circuit = record { 0 = n } in
      subst (IsClientWay core links binding) (placed_at way link circuit at small) given

  opened_there : (binding : ℕ) (way : HopTarget) (l n : ℕ) → IsPlaced way (slot l n) → n ≤ 2046 → IsServerWay core links binding way → IsOpened core links l n
  opened_there binding way l n at small given =
      let link : LinkId = record { 0 = l } in
      let circuit : Circuit = record { 0 = n } in
      subst (IsServerWay core links binding) (placed_at way link circuit at small) given

  way_of : Hop → HopTarget
  way_of hop = hop.way

  pub toward_client : (l n : ℕ) (hop : Hop) → AtServer cells s l n hop → IsOpened core links l n × IsClientWay core links hop.binding hop.way
  toward_client l n hop x =
      let w = k.ways x.key x.entry x.kept in
      let P : Hop → Type 0 = λ h. IsClientWay core links h.binding h.way in
      (opened_there x.entry.binding x.entry.server l n x.placed x.small w.1, subst P (sym x.is) w.0)

  pub toward_server : (l n : ℕ) (hop : Hop) → AtClient cells s l n hop → IsTaken core links l n × IsServerWay core links hop.binding hop.way
  toward_server l n hop x =
      let w = k.ways x.key x.entry x.kept in
      let P : Hop → Type 0 = λ h. IsServerWay core links h.binding h.way in
      (taken_there x.entry.binding x.entry.client l n x.placed x.small w.0, subst P (sym x.is) w.1)

  -- what stands at a number shows the entry's other side
  pub shows_server : (key : ℕ) (e : Entry) (m : LinkId) (d : Circuit) → get s key ≡ Some e → e.server ≡ Link m d → hop_at (table_of core links cells s) m.0 d.0 ≡ Some (from_server e)
  shows_server key e m d kept way =
      let sits = subst (λ w. Sits cells w (ServerSide key)) way (k.server_back key e kept) in
      hop_is core links cells s m.0 d.0
      ∙ ap (shown s) (cell_there cells m.0 d.0 (ServerSide key) sits.0 sits.1)
      ∙ ap (option_map from_server) kept

  pub shows_client : (key : ℕ) (e : Entry) (m : LinkId) (d : Circuit) → get s key ≡ Some e → e.client ≡ Link m d → hop_at (table_of core links cells s) m.0 d.0 ≡ Some (from_client e)
  shows_client key e m d kept way =
      let sits = subst (λ w. Sits cells w (ClientSide key)) way (k.client_back key e kept) in
      hop_is core links cells s m.0 d.0
      ∙ ap (shown s) (cell_there cells m.0 d.0 (ClientSide key) sits.0 sits.1)
      ∙ ap (option_map from_client) kept

  made : Bool → ℕ → HopTarget → Option Hop
  made a b w = Some (record { binding = b; way = w; answered = a })

  back_from_server : (l m : LinkId) (c d : Circuit) (b : ℕ) (hop : Hop) → hop.way ≡ Link m d → hop.binding ≡ b → AtClient cells s l.0 c.0 hop → Leads (table_of core links cells s) m.0 d.0 b (Link l c)
  back_from_server l m c d b hop way binding x =
      let f : Hop → HopTarget = λ h. h.way in
      let g : Hop → ℕ = λ h. h.binding in
      let j : Entry → ℕ → HopTarget → Option Hop = λ e n w. leading n e.answered w in
      record {
        answered = x.entry.answered;
        there =
            shows_server x.key x.entry m d x.kept (ap f (sym x.is) ∙ way)
            ∙ ap (λ n. j x.entry n x.entry.client) (ap g (sym x.is) ∙ binding)
            ∙ ap (j x.entry b) (placed_at x.entry.client l c x.placed x.small);
      }

  back_from_client : (l m : LinkId) (c d : Circuit) (b : ℕ) (hop : Hop) → hop.way ≡ Link m d → hop.binding ≡ b → AtServer cells s l.0 c.0 hop → Leads (table_of core links cells s) m.0 d.0 b (Link l c)
  back_from_client l m c d b hop way binding x =
      let f : Hop → HopTarget = λ h. h.way in
      let g : Hop → ℕ = λ h. h.binding in
      let j : Entry → ℕ → HopTarget → Option Hop = λ e n w. leading n e.answered w in
      record {
        answered = x.entry.answered;
        there =
            shows_client x.key x.entry m d x.kept (ap f (sym x.is) ∙ way)
            ∙ ap (λ n. j x.entry n x.entry.server) (ap g (sym x.is) ∙ binding)
            ∙ ap (j x.entry b) (placed_at x.entry.server l c x.placed x.small);
      }

  -- an entry's two sides are over two links
  over_ways : (a b : HopTarget) (l : ℕ) (n : ℕ) (m : LinkId) (d : Circuit) → IsOver a b → IsPlaced a (slot l n) → n ≤ 2046 → b ≡ Link m d → l ≢ m.0
  over_ways (Link x y) b l n m d over at small is =
      let link : LinkId = record { 0 = l } in
      let circuit : Circuit = record { 0 = n } in
      let f : HopTarget → Type 0 = λ w. IsOver w (Link m d) in
      subst f (placed_at (Link x y) link circuit at small) (subst (IsOver (Link x y)) is over)
  over_ways (End e) b l n m d over at small is = absurd at

  turned : (a b : HopTarget) → IsOver a b → IsOver b a
  turned (Link l c) (Link m d) o = λ e. o (sym e)
  turned (Link l c) (End e) o = tt
  turned (End e) (Link l c) o = tt
  turned (End e) (End f) o = absurd o

  over_step : (l n : ℕ) (m : LinkId) (d : Circuit) (hop : Hop) → hop.way ≡ Link m d → AtClient cells s l n hop ⊎ AtServer cells s l n hop → l ≢ m.0
  over_step l n m d hop way x =
      let f : Hop → HopTarget = λ h. h.way in
      elim x [
        | inl y ↦ over_ways y.entry.client y.entry.server l n m d (k.over y.key y.entry y.kept) y.placed y.small (ap f (sym y.is) ∙ way)
        | inr y ↦ over_ways y.entry.server y.entry.client l n m d (turned y.entry.client y.entry.server (k.over y.key y.entry y.kept)) y.placed y.small (ap f (sym y.is) ∙ way)
      ]

  -- two entries of one binding are one
  same_entry : (key other : ℕ) (e f : Entry) → get s key ≡ Some e → get s other ≡ Some f → e.binding ≡ f.binding → e ≡ f
  same_entry key other e f x y b =
      let keys = k.one key other e f x y b in
      let at : ℕ → Option Entry = λ i. get s i in
      let some : Some e ≡ Some f = sym x ∙ ap at keys ∙ y in
      cc

  one_step : (l m : LinkId) (c d : Circuit) (x y : Hop) → x.binding ≡ y.binding → AtClient cells s l.0 c.0 x ⊎ AtServer cells s l.0 c.0 x → AtClient cells s m.0 d.0 y ⊎ AtServer cells s m.0 d.0 y → ((l ≡ m) × (c ≡ d)) ⊎ (x.way ≡ Link m d)
  one_step l m c d x y same (inl p) (inl q) =
      let g : Hop → ℕ = λ h. h.binding in
      let e = same_entry p.key q.key p.entry q.entry p.kept q.kept (ap g (sym p.is) ∙ same ∙ ap g q.is) in
      let client : Entry → HopTarget = λ e. e.client in
      let way = sym (placed_at p.entry.client l c p.placed p.small) ∙ ap client e ∙ placed_at q.entry.client m d q.placed q.small in
      inl (same_place l m c d way)
  one_step l m c d x y same (inl p) (inr q) =
      let g : Hop → ℕ = λ h. h.binding in
      let w : Hop → HopTarget = λ h. h.way in
      let e = same_entry p.key q.key p.entry q.entry p.kept q.kept (ap g (sym p.is) ∙ same ∙ ap g q.is) in
      let server : Entry → HopTarget = λ e. e.server in
      inr (ap w p.is ∙ ap server e ∙ placed_at q.entry.server m d q.placed q.small)
  one_step l m c d x y same (inr p) (inl q) =
      let g : Hop → ℕ = λ h. h.binding in
      let w : Hop → HopTarget = λ h. h.way in
      let e = same_entry p.key q.key p.entry q.entry p.kept q.kept (ap g (sym p.is) ∙ same ∙ ap g q.is) in
      let client : Entry → HopTarget = λ e. e.client in
      inr (ap w p.is ∙ ap client e ∙ placed_at q.entry.client m d q.placed q.small)
  one_step l m c d x y same (inr p) (inr q) =
      let g : Hop → ℕ = λ h. h.binding in
      let e = same_entry p.key q.key p.entry q.entry p.kept q.kept (ap g (sym p.is) ∙ same ∙ ap g q.is) in
      let server : Entry → HopTarget = λ e. e.server in
      let way = sym (placed_at p.entry.server l c p.placed p.small) ∙ ap server e ∙ placed_at q.entry.server m d q.placed q.small in
      inl (same_place l m c d way)

  hop_made : ℕ → HopTarget → Bool → Hop
  hop_made b w a = record { binding = b; way = w; answered = a }

  toward_step : (l n : ℕ) (hop : Hop) → AtClient cells s l n hop ⊎ AtServer cells s l n hop → (IsOpened core links l n × IsClientWay core links hop.binding hop.way) ⊎ (IsTaken core links l n × IsServerWay core links hop.binding hop.way)
  toward_step l n hop (inl x) = inr (toward_server l n hop x)
  toward_step l n hop (inr x) = inl (toward_client l n hop x)

  both_step : (l m : LinkId) (c d : Circuit) (b : ℕ) (hop : Hop) → hop.way ≡ Link m d → hop.binding ≡ b → AtClient cells s l.0 c.0 hop ⊎ AtServer cells s l.0 c.0 hop → Leads (table_of core links cells s) m.0 d.0 b (Link l c)
  both_step l m c d b hop way binding (inl x) = back_from_server l m c d b hop way binding x
  both_step l m c d b hop way binding (inr x) = back_from_client l m c d b hop way binding x

  pub sound : Sound (table_of core links cells s)
  sound = record {
    few = k.few;
    whole = length-map cells (shown s) ∙ k.whole;
    apart = k.apart;
    once = k.once;
    counts = k.counts;
    toward = λ l n b way e. toward_step l n (record { binding = b; way = way; answered = e.answered }) (side core links cells s k l n (record { binding = b; way = way; answered = e.answered }) e.there);
    both = λ l m c d b e. both_step l m c d b (record { binding = b; way = Link m d; answered = e.answered }) refl refl (side core links cells s k l.0 c.0 (record { binding = b; way = Link m d; answered = e.answered }) e.there);
    over = λ l n b m d e. over_step l n m d (record { binding = b; way = Link m d; answered = e.answered }) refl (side core links cells s k l n (record { binding = b; way = Link m d; answered = e.answered }) e.there);
    one = λ l m c d b x y e f. one_step l m c d (record { binding = b; way = x; answered = e.answered }) (record { binding = b; way = y; answered = f.answered }) refl (side core links cells s k l.0 c.0 (record { binding = b; way = x; answered = e.answered }) e.there) (side core links cells s k m.0 d.0 (record { binding = b; way = y; answered = f.answered }) f.there);
  }

  pub in_range : (l n : ℕ) → IsGiven core links l n → (l < length links) × (n ≢ 0) × (n ≤ 2046)
  in_range l n (inl o) =
      let most = k.counts l o.link o.there in
      let p = small core o.link.neighbour.0 o.link.opened n most.0 o.among in
      (within links l o.link o.there, p.0, p.1)
  in_range l n (inr o) =
      let most = k.counts l o.link o.there in
      let p = small o.link.neighbour.0 core o.link.taken n most.1 o.among in
      (within links l o.link o.there, p.0, p.1)

  other_step : (l n : ℕ) (hop : Hop) (way : HopTarget) → hop.way ≡ way → AtClient cells s l n hop ⊎ AtServer cells s l n hop → IsOther (table_of core links cells s) l way
  other_step l n hop (End e) same x = tt
  other_step l n hop (Link m d) same (inl x) =
      let given = subst (IsServerWay core links hop.binding) same (toward_server l n hop x).1 in
      let p = in_range m.0 d.0 (inl given) in
      (p.0, over_step l n m d hop same (inl x), p.1, p.2)
  other_step l n hop (Link m d) same (inr x) =
      let given = subst (IsClientWay core links hop.binding) same (toward_client l n hop x).1 in
      let p = in_range m.0 d.0 (inr given) in
      (p.0, over_step l n m d hop same (inr x), p.1, p.2)

  -- an entry leads over another link
  pub other : (l n : ℕ) (hop : Hop) → hop_at (table_of core links cells s) l n ≡ Some hop → IsOther (table_of core links cells s) l hop.way
  other l n hop e = other_step l n hop hop.way refl (side core links cells s k l n hop e)
