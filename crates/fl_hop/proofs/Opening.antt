-- A circuit opened, passed on or arrived: one entry at new numbers.
use Rattle.std.proofs.Common.{◌≡◌, ◌≢◌, refl, sym, ap, subst, ◌∙◌, ℕ, zero, suc, Bool, true, false, ◌||◌, List, [], ◌∷◌, map, slice_get, Option, Some, option_map, arith}
use Rattle.std.specs.List.{list_any}
use Rattle.std.proofs.lemmas.Option.{slice_get-map}
use Rattle.std.proofs.lemmas.Bool.Decides.{nat_tests}
use Rattle.slab.specs.Slab.{Slab, get}
use Rattle.fl_base.specs.declared.identity.LinkId.{LinkId}
use Rattle.fl_base.specs.declared.identity.Circuit.{Circuit}
use Rattle.fl_hop.specs.declared.entry.HopTarget.{HopTarget}
use Rattle.fl_hop.specs.declared.entry.HopTarget.TheVariants.{Link, End}
use Rattle.fl_hop.specs.declared.entry.Hop.{Hop}
use Rattle.fl_hop.specs.declared.entry.Entry.{Entry}
use Rattle.fl_hop.specs.declared.entry.Cell.{Cell}
use Rattle.fl_hop.specs.declared.entry.Cell.TheVariants.{Free, ClientSide, ServerSide}
use Rattle.fl_hop.specs.declared.links.LinkState.{LinkState}
use Rattle.fl_hop.specs.Table.{slot, is_of, stands, with_entry}
use Rattle.fl_hop.specs.Joined.{IsClientWay, IsServerWay}
use Rattle.fl_hop.specs.Later.{Later}
use Rattle.fl_hop.specs.Slots.{table_of, shown, from_client, from_server, IsOver, Sits, SlotsKept, Entered}
use Rattle.fl_hop.proofs.Entering.{free, kept_entered, view_entered}
use Rattle.fl_hop.proofs.Counting.{Grown}
use Rattle.fl_hop.proofs.Laters.{IsNew, later_with}

or_false : (a b : Bool) → (a || b) ≡ false → (a ≡ false) × (b ≡ false)
or_false true b e = absurd (cc)
or_false false b e = (refl, e)

-- where none passes, each fails
pub fails : {X : Type 0} (p : X → Bool) (xs : List X) (i : ℕ) (x : X) → list_any p xs ≡ false → slice_get xs i ≡ Some x → p x ≡ false
fails p [] i x e at = absurd (cc)
fails {X} p (y ∷ ys) zero x e at =
    let same : y ≡ x = cc in
    sym (ap p same) ∙ (or_false (p y) (list_any p ys) e).0
fails p (y ∷ ys) (suc i) x e at = fails p ys i x (or_false (p y) (list_any p ys) e).1 at

-- an entry is seen from one of its sides
pub record Seen (cells : List Cell) (s : Slab Entry) (e : Entry) : Type 0 where
  pub place : ℕ
  pub hop : Hop
  pub there : slice_get (map (shown s) cells) place ≡ Some (Some hop)
  pub binding : hop.binding ≡ e.binding

seen_client : (core : ℕ) (links : List LinkState) (cells : List Cell) (s : Slab Entry) → SlotsKept core links cells s → (key : ℕ) (e : Entry) → get s key ≡ Some e → (l : LinkId) (c : Circuit) → e.client ≡ Link l c → Seen cells s e
seen_client core links cells s k key e at l c way =
    let sits = subst (λ w. Sits cells w (ClientSide key)) way (k.client_back key e at) in
    let some : Option Hop → Option (Option Hop) = λ o. Some o in
    record {
      place = slot l.0 c.0;
      hop = from_client e;
      there = slice_get-map (shown s) cells (slot l.0 c.0) ∙ ap (option_map (shown s)) sits.1 ∙ ap some (ap (option_map from_client) at);
      binding = refl;
    }

seen_server : (core : ℕ) (links : List LinkState) (cells : List Cell) (s : Slab Entry) → SlotsKept core links cells s → (key : ℕ) (e : Entry) → get s key ≡ Some e → (l : LinkId) (c : Circuit) → e.server ≡ Link l c → Seen cells s e
seen_server core links cells s k key e at l c way =
    let sits = subst (λ w. Sits cells w (ServerSide key)) way (k.server_back key e at) in
    let some : Option Hop → Option (Option Hop) = λ o. Some o in
    record {
      place = slot l.0 c.0;
      hop = from_server e;
      there = slice_get-map (shown s) cells (slot l.0 c.0) ∙ ap (option_map (shown s)) sits.1 ∙ ap some (ap (option_map from_server) at);
      binding = refl;
    }

seen_step : (core : ℕ) (links : List LinkState) (cells : List Cell) (s : Slab Entry) → SlotsKept core links cells s → (key : ℕ) (e : Entry) → get s key ≡ Some e → (a b : HopTarget) → e.client ≡ a → e.server ≡ b → IsOver a b → Seen cells s e
seen_step core links cells s k key e at (Link l c) b x y over = seen_client core links cells s k key e at l c x
seen_step core links cells s k key e at (End f) (Link l c) x y over = seen_server core links cells s k key e at l c y
seen_step core links cells s k key e at (End f) (End g) x y over = absurd over

pub seen : (core : ℕ) (links : List LinkState) (cells : List Cell) (s : Slab Entry) → SlotsKept core links cells s → (key : ℕ) (e : Entry) → get s key ≡ Some e → Seen cells s e
seen core links cells s k key e at = seen_step core links cells s k key e at e.client e.server refl refl (k.over key e at)

-- where no entry is of a binding, none in the slab is
pub fresh : (core : ℕ) (links : List LinkState) (cells : List Cell) (s : Slab Entry) → SlotsKept core links cells s → (binding : ℕ) → stands (table_of core links cells s) binding ≡ false → (key : ℕ) (e : Entry) → get s key ≡ Some e → e.binding ≢ binding
fresh core links cells s k binding none key e at = λ same.
    let x = seen core links cells s k key e at in
    let no : is_of binding (Some x.hop) ≡ false = fails (is_of binding) (map (shown s) cells) x.place (Some x.hop) none x.there in
    let b = x.binding in
    grind (arith, nat_tests, no, b, same)

-- a new number is free
new_free : (core : ℕ) (links : List LinkState) (cells : List Cell) (s : Slab Entry) → SlotsKept core links cells s → (way : HopTarget) → IsNew core links way → Sits cells way Free
new_free core links cells s k (Link l c) new = free core links cells s k l c new.2 new.0 new.1
new_free core links cells s k (End e) new = tt

-- what comes of one entry at new numbers
pub record Opened (core : ℕ) (links more : List LinkState) (cells : List Cell) (s : Slab Entry) (e : Entry) (cells2 : List Cell) (s2 : Slab Entry) : Type 0 where
  pub kept : SlotsKept core more cells2 s2
  pub view : table_of core more cells2 s2 ≡ with_entry (table_of core more cells s) e.binding e.answered e.client e.server
  pub later : Later (table_of core links cells s) (table_of core more cells2 s2)

pub opened_so : (core : ℕ) (links more : List LinkState) (cells : List Cell) (s : Slab Entry) (e : Entry) (cells2 : List Cell) (s2 : Slab Entry)
    → SlotsKept core links cells s → SlotsKept core more cells s → Grown links more → Entered e cells s cells2 s2
    → IsNew core links e.client → IsNew core links e.server → IsOver e.client e.server
    → IsClientWay core more e.binding e.client → IsServerWay core more e.binding e.server
    → stands (table_of core links cells s) e.binding ≡ false
    → Opened core links more cells s e cells2 s2
opened_so core links more cells s e cells2 s2 k k2 g n x y over client server none =
    let p = new_free core links cells s k e.client x in
    let q = new_free core links cells s k e.server y in
    let view = view_entered core more cells s k2 e cells2 s2 n p q over in
    record {
      kept = kept_entered core more cells s k2 e cells2 s2 n p q over client server (fresh core links cells s k e.binding none);
      view = view;
      later = subst (Later (table_of core links cells s)) (sym view) (later_with core links more cells s k g e.binding e.answered e.client e.server x y);
    }

-- nothing but the slab's room changed
pub same_slots : (core : ℕ) (links : List LinkState) (cells cells2 : List Cell) (s s2 : Slab Entry) → SlotsKept core links cells s → cells2 ≡ cells → s2 ≡ record s { capacity = s2.capacity } → SlotsKept core links cells2 s2 × (table_of core links cells2 s2 ≡ table_of core links cells s)
same_slots core links cells cells2 s s2 k a b =
    let other : Slab Entry = record s { capacity = s2.capacity } in
    let P : List Cell → Slab Entry → Type 0 = λ c v. SlotsKept core links c v × (table_of core links c v ≡ table_of core links cells s) in
    let here : P cells other = (
      record {
        few = k.few;
        whole = k.whole;
        apart = k.apart;
        once = k.once;
        counts = k.counts;
        client = λ i key at. let f = k.client i key at in record { entry = f.entry; kept = f.kept; placed = f.placed };
        server = λ i key at. let f = k.server i key at in record { entry = f.entry; kept = f.kept; placed = f.placed };
        client_back = k.client_back;
        server_back = k.server_back;
        ways = k.ways;
        over = k.over;
        one = k.one;
      },
      refl,
    ) in
    subst (λ c. P c s2) (sym a) (subst (P cells) (sym b) here)
