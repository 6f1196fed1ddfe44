-- The link that was added last is taken back: no number of it was given, so no entry stands there.
use Rattle.std.proofs.Common.{◌≡◌, refl, sym, ap, subst, ◌∙◌, ℕ, ◌*◌, ◌-◌, ◌<◌, ◌≤◌, inl, inr, List, [], ◌∷◌, ◌++◌, length, map, take, replicate, Option, None, length-append, arith}
use Rattle.std.proofs.lemmas.List.{length-map, length-replicate, length-take-le}
use Rattle.slab.specs.Slab.{Slab}
use Rattle.fl_base.specs.declared.identity.CoreId.{CoreId}
use Rattle.fl_hop.specs.declared.entry.HopTarget.{HopTarget}
use Rattle.fl_hop.specs.declared.entry.HopTarget.TheVariants.{Link, End}
use Rattle.fl_hop.specs.declared.entry.Hop.{Hop}
use Rattle.fl_hop.specs.declared.entry.Entry.{Entry}
use Rattle.fl_hop.specs.declared.entry.Cell.{Cell}
use Rattle.fl_hop.specs.declared.entry.Cell.TheVariants.{ClientSide, ServerSide}
use Rattle.fl_hop.specs.declared.links.LinkState.{LinkState}
use Rattle.fl_hop.specs.Table.{TheCircuits, slot, with_link}
use Rattle.fl_hop.specs.Numbers.{IsOpened, IsTaken}
use Rattle.fl_hop.specs.Joined.{IsClientWay, IsServerWay}
use Rattle.fl_hop.specs.Slots.{table_of, shown, Sits, SlotsKept}
use Rattle.fl_hop.proofs.Lists.{push_cases, push_keeps, within, pop_front, take_within, take_there, take_map, take_front}

-- a way over one of the first so many links, or to an end
abbrev IsBelow : ℕ → HopTarget → Type 0
IsBelow n (Link l c) = l.0 < n
IsBelow n (End e) = Unit {0}

-- so its cell is one of theirs
sits_below : (cells : List Cell) (n : ℕ) (way : HopTarget) (x : Cell) → IsBelow n way → Sits cells way x → Sits (take (2047 * n) cells) way x
sits_below cells n (Link l c) x below h = (h.0, take_there cells (2047 * n) (slot l.0 c.0) x (omega (arith, below, h.0)) h.1)
sits_below cells n (End e) x below h = tt

-- the last link is one on which nothing was opened
module _ (core : ℕ) (links : List LinkState) (last : LinkState) (opened : last.opened ≡ 0) (taken : last.taken ≡ 0) where
  opened_before : (l n : ℕ) → IsOpened core (links ++ last ∷ []) l n → IsOpened core links l n
  opened_before l n h =
      elim (push_cases links last l h.link h.there) [
        | inl before ↦ record { link = h.link; there = before; among = h.among }
        | inr (at, is) ↦ let few = h.among.1 in let none : h.link.opened ≡ 0 = ap (λ (a : LinkState). a.opened) is ∙ opened in absurd (omega (arith, few, none))
      ]

  taken_before : (l n : ℕ) → IsTaken core (links ++ last ∷ []) l n → IsTaken core links l n
  taken_before l n h =
      elim (push_cases links last l h.link h.there) [
        | inl before ↦ record { link = h.link; there = before; among = h.among }
        | inr (at, is) ↦ let few = h.among.1 in let none : h.link.taken ≡ 0 = ap (λ (a : LinkState). a.taken) is ∙ taken in absurd (omega (arith, few, none))
      ]

  client_before : (binding : ℕ) (way : HopTarget) → IsClientWay core (links ++ last ∷ []) binding way → IsClientWay core links binding way
  client_before binding (Link l c) h = taken_before l.0 c.0 h
  client_before binding (End e) h = h

  server_before : (binding : ℕ) (way : HopTarget) → IsServerWay core (links ++ last ∷ []) binding way → IsServerWay core links binding way
  server_before binding (Link l c) h = opened_before l.0 c.0 h
  server_before binding (End e) h = h

client_below : (core : ℕ) (links : List LinkState) (binding : ℕ) (way : HopTarget) → IsClientWay core links binding way → IsBelow (length links) way
client_below core links binding (Link l c) h = within links l.0 h.link h.there
client_below core links binding (End e) h = tt

server_below : (core : ℕ) (links : List LinkState) (binding : ℕ) (way : HopTarget) → IsServerWay core links binding way → IsBelow (length links) way
server_below core links binding (Link l c) h = within links l.0 h.link h.there
server_below core links binding (End e) h = tt

module _ (core : ℕ) (links : List LinkState) (last : LinkState) (cells : List Cell) (s : Slab Entry) (k : SlotsKept core (links ++ last ∷ []) cells s)
    (opened : last.opened ≡ 0) (taken : last.taken ≡ 0) where
  enough : 2047 * length links ≤ length cells
  enough = let whole = k.whole in omega (arith, whole, length-append links (last ∷ []))

  pub kept_before : SlotsKept core links (take (2047 * length links) cells) s
  kept_before = record {
    few = let few = k.few in omega (arith, few, length-append links (last ∷ []));
    whole = length-take-le (2047 * length links) cells enough;
    apart = λ l a at. k.apart l a (push_keeps links (last ∷ []) l a at);
    once = λ l m a b at there. k.once l m a b (push_keeps links (last ∷ []) l a at) (push_keeps links (last ∷ []) m b there);
    counts = λ l a at. k.counts l a (push_keeps links (last ∷ []) l a at);
    client = λ i key at. k.client i key (take_within cells (2047 * length links) i (ClientSide key) at);
    server = λ i key at. k.server i key (take_within cells (2047 * length links) i (ServerSide key) at);
    client_back = λ key e at.
        let way = client_before core links last opened taken e.binding e.client (k.ways key e at).0 in
        sits_below cells (length links) e.client (ClientSide key) (client_below core links e.binding e.client way) (k.client_back key e at);
    server_back = λ key e at.
        let way = server_before core links last opened taken e.binding e.server (k.ways key e at).1 in
        sits_below cells (length links) e.server (ServerSide key) (server_below core links e.binding e.server way) (k.server_back key e at);
    ways = λ key e at. (client_before core links last opened taken e.binding e.client (k.ways key e at).0, server_before core links last opened taken e.binding e.server (k.ways key e at).1);
    over = k.over;
    one = k.one;
  }

-- the table with one link more, by its parts; that link and its cells are taken away
module _ (core : ℕ) (links : List LinkState) (cells : List Cell) (s : Slab Entry) (k : SlotsKept core links cells s) (t : TheCircuits) (to : CoreId) (grown : table_of core links cells s ≡ with_link t to)
    (front : List LinkState) (many count : ℕ) (many_is : many ≡ length links) (front_is : front ≡ take (many - 1) links) (count_is : count ≡ length front) where
  new_link : LinkState
  new_link = record { neighbour = to; opened = 0; taken = 0 }

  links_are : links ≡ t.links ++ new_link ∷ []
  unfolding new_link
  links_are = ap (λ (x : TheCircuits). x.links) grown

  pub links_before : front ≡ t.links
  links_before = pop_front links t.links front new_link many many_is front_is links_are

  count_before : count ≡ length t.links
  count_before = count_is ∙ ap (λ (x : List LinkState). length x) links_before

  cells_before : take (2047 * length t.links) cells ≡ take (2047 * count) cells
  cells_before = ap (λ (n : ℕ). take (2047 * n) cells) (sym count_before)

  pub left_kept : SlotsKept core front (take (2047 * count) cells) s
  unfolding new_link
  left_kept =
      let whole : SlotsKept core (t.links ++ new_link ∷ []) cells s = subst (λ (x : List LinkState). SlotsKept core x cells s) links_are k in
      subst (λ (x : List LinkState). SlotsKept core x (take (2047 * count) cells) s) (sym links_before)
      (subst (λ (x : List Cell). SlotsKept core t.links x s) cells_before (kept_before core t.links new_link cells s whole refl refl))

  hops_before : map (shown s) (take (2047 * count) cells) ≡ t.hops
  hops_before =
      let hops : map (shown s) cells ≡ t.hops ++ replicate 2047 None = ap (λ (x : TheCircuits). x.hops) grown in
      let none : Option Hop = None in
      let longer : length (map (shown s) cells) ≡ length (t.hops ++ replicate 2047 none) = ap (λ (x : List (Option Hop)). length x) hops in
      let all : length links ≡ length (t.links ++ new_link ∷ []) = ap (λ (x : List LinkState). length x) links_are in
      let whole = k.whole in
      let long : 2047 * count ≡ length t.hops
      = omega (arith, whole, longer, all, count_before, length-append t.hops (replicate 2047 none), length-replicate 2047 none, length-map cells (shown s), length-append t.links (new_link ∷ [])) in
      take_map (shown s) (2047 * count) cells ∙ ap (λ (x : List (Option Hop)). take (2047 * count) x) hops ∙ take_front t.hops (replicate 2047 None) (2047 * count) long

  pub table_before : table_of core front (take (2047 * count) cells) s ≡ t
  table_before =
      ap (λ (x : ℕ). let y : TheCircuits = record { core = x; links = front; hops = map (shown s) (take (2047 * count) cells) } in y) (ap (λ (x : TheCircuits). x.core) grown)
      ∙ ap (λ (x : List LinkState). let y : TheCircuits = record { core = t.core; links = x; hops = map (shown s) (take (2047 * count) cells) } in y) links_before
      ∙ ap (λ (x : List (Option Hop)). let y : TheCircuits = record { core = t.core; links = t.links; hops = x } in y) hops_before
