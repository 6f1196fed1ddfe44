-- Tables with one more opening, and with one more link.
use Rattle.std.proofs.Common.{◌≡◌, ◌≢◌, refl, sym, ap, subst, ◌∙◌, ℕ, zero, suc, nat_lt, if◌then◌else◌, ◌<◌, ◌≤◌, inl, inr, Bool, true, false, List, [], ◌∷◌, ◌++◌, length, map, replicate, slice_get, slice_set, Option, Some, None, length-set, length-append, option_map, is_some, position, ◌==◌, arith}
use Rattle.std.specs.List.{position_or_len}
use Rattle.std.proofs.lemmas.List.{length-replicate, map-append}
use Rattle.std.proofs.lemmas.List.Sums.{fails_before_first}
use Rattle.std.proofs.lemmas.Option.{get_or_from_slice_get}
use Rattle.std.proofs.lemmas.Bool.Decides.{nat_tests}
use Rattle.fl_base.specs.declared.identity.LinkId.{LinkId}
use Rattle.fl_hop.specs.Table.{TheCircuits, slot, link_of, link_fault, with_link}
use Rattle.fl_hop.specs.declared.entry.Hop.{Hop}
use Rattle.slab.specs.Slab.{Slab}
use Rattle.fl_base.specs.declared.identity.CoreId.{CoreId}
use Rattle.fl_hop.specs.declared.entry.HopTarget.{HopTarget}
use Rattle.fl_hop.specs.declared.entry.HopTarget.TheVariants.{Link, End}
use Rattle.fl_hop.specs.declared.entry.Entry.{Entry}
use Rattle.fl_hop.specs.declared.entry.Cell.{Cell}
use Rattle.fl_hop.specs.declared.entry.Cell.TheVariants.{Free, ClientSide, ServerSide}
use Rattle.fl_hop.specs.declared.fault.HopFault.{HopFault}
use Rattle.fl_hop.specs.declared.fault.HopFault.TheVariants.{NoLink, Limit}
use Rattle.fl_hop.specs.declared.links.LinkState.{LinkState}
use Rattle.fl_hop.specs.Numbers.{number, with_opening, with_taking, changed, count_opening, count_taking, next_here, next_there, IsOpened, IsTaken, IsGiven}
use Rattle.fl_hop.specs.Joined.{IsClientWay, IsServerWay}
use Rattle.fl_hop.specs.Slots.{table_of, shown, Sits, SlotsKept}
use Rattle.fl_hop.proofs.Lists.{set_cases, set_here, set_there, push_keeps, push_cases, fill_cases, within}
use Rattle.fl_hop.proofs.Numbering.{number_once, number_apart}
use Rattle.fl_hop.proofs.Cells.{is_less, less_is, cond_true, cond_false}

-- links that have at least the openings of others, at the same cores
pub record Grown (links more : List LinkState) : Type 0 where
  pub link : (l : ℕ) (a : LinkState) → slice_get links l ≡ Some a → (b : LinkState) × (slice_get more l ≡ Some b) × (b.neighbour ≡ a.neighbour) × (a.opened ≤ b.opened) × (a.taken ≤ b.taken)

module _ (core : ℕ) (links more : List LinkState) (g : Grown links more) where
  pub opened_stays : (l n : ℕ) → IsOpened core links l n → IsOpened core more l n
  opened_stays l n o =
      let (b, there, same, opened, taken) = g.link l o.link o.there in
      let (k, less, is) = o.among in
      let f : CoreId → ℕ = λ c. number core c.0 k in
      record { link = b; there = there; among = (k, omega (arith, less, opened), is ∙ ap f (sym same)) }

  pub taken_stays : (l n : ℕ) → IsTaken core links l n → IsTaken core more l n
  taken_stays l n o =
      let (b, there, same, opened, taken) = g.link l o.link o.there in
      let (k, less, is) = o.among in
      let f : CoreId → ℕ = λ c. number c.0 core k in
      record { link = b; there = there; among = (k, omega (arith, less, taken), is ∙ ap f (sym same)) }

  pub client_stays : (binding : ℕ) (way : HopTarget) → IsClientWay core links binding way → IsClientWay core more binding way
  client_stays binding (Link l c) w = taken_stays l.0 c.0 w
  client_stays binding (End e) w = w

  pub server_stays : (binding : ℕ) (way : HopTarget) → IsServerWay core links binding way → IsServerWay core more binding way
  server_stays binding (Link l c) w = opened_stays l.0 c.0 w
  server_stays binding (End e) w = w

-- a link as it became
abbrev Became : LinkState → Option LinkState → Type 0
Became a o = (b : LinkState) × (o ≡ Some b) × (b.neighbour ≡ a.neighbour) × (a.opened ≤ b.opened) × (a.taken ≤ b.taken)

became : (links : List LinkState) (l : ℕ) (a b : LinkState) → slice_get links l ≡ Some a → b.neighbour ≡ a.neighbour → a.opened ≤ b.opened → a.taken ≤ b.taken → (m : ℕ) (x : LinkState) → slice_get links m ≡ Some x → Became x (slice_get (slice_set links l b) m)
became [] l a b there same opened taken m x at = absurd (cc)
became (z ∷ zs) zero a b there same opened taken zero x at =
    let e : a ≡ x = cc in
    subst (λ y. Became y (Some b)) e (b, refl, same, opened, taken)
became (z ∷ zs) zero a b there same opened taken (suc m) x at = (x, at, refl, omega arith, omega arith)
became (z ∷ zs) (suc l) a b there same opened taken zero x at = (x, at, refl, omega arith, omega arith)
became (z ∷ zs) (suc l) a b there same opened taken (suc m) x at = became zs l a b there same opened taken m x at

-- one link's counts go up
pub grown_set : (links : List LinkState) (l : ℕ) (a b : LinkState) → slice_get links l ≡ Some a → b.neighbour ≡ a.neighbour → a.opened ≤ b.opened → a.taken ≤ b.taken → Grown links (slice_set links l b)
grown_set links l a b there same opened taken = record { link = became links l a b there same opened taken }

pub grown_push : (links : List LinkState) (a : LinkState) → Grown links (links ++ a ∷ [])
grown_push links a = record { link = λ l b at. (b, push_keeps links (a ∷ []) l b at, refl, omega arith, omega arith) }

-- a link in changed links stood there before, with the same neighbour
stood : (links : List LinkState) (l : ℕ) (a b : LinkState) → slice_get links l ≡ Some a → b.neighbour ≡ a.neighbour → (m : ℕ) (x : LinkState) → slice_get (slice_set links l b) m ≡ Some x → (y : LinkState) × (slice_get links m ≡ Some y) × (x.neighbour ≡ y.neighbour)
stood links l a b there same m x at =
    elim (set_cases links l b m x at) [
      | inl (e, f) ↦
          let g : ℕ → Option LinkState = λ k. slice_get links k in
          let h : LinkState → CoreId = λ y. y.neighbour in
          (a, ap g e ∙ there, ap h f ∙ same)
      | inr (n, f) ↦ (x, f, refl)
    ]

-- a table with one link's counts changed
pub kept_counts : (core : ℕ) (links : List LinkState) (cells : List Cell) (s : Slab Entry) → SlotsKept core links cells s → (l : ℕ) (a b : LinkState) → slice_get links l ≡ Some a → b.neighbour ≡ a.neighbour → a.opened ≤ b.opened → a.taken ≤ b.taken → (b.opened ≤ 1023) × (b.taken ≤ 1023) → SlotsKept core (slice_set links l b) cells s
kept_counts core links cells s k l a b there same opened taken most =
    let g = grown_set links l a b there same opened taken in
    let number_of : CoreId → ℕ = λ c. c.0 in
    record {
      few = omega (arith, length-set links l b, k.few);
      whole = omega (arith, length-set links l b, k.whole);
      apart = λ m x at.
          let (y, before, e) = stood links l a b there same m x at in
          (λ h. k.apart m y before (sym (ap number_of e) ∙ h));
      once = λ m n x y at other e.
          let (u, before, f) = stood links l a b there same m x at in
          let (v, also, h) = stood links l a b there same n y other in
          k.once m n u v before also (sym (ap number_of f) ∙ e ∙ ap number_of h);
      counts = λ m x at.
          elim (set_cases links l b m x at) [
            | inl (e, f) ↦ subst (λ (y : LinkState). (y.opened ≤ 1023) × (y.taken ≤ 1023)) (sym f) most
            | inr (n, f) ↦ k.counts m x f
          ];
      client = k.client;
      server = k.server;
      client_back = k.client_back;
      server_back = k.server_back;
      ways = λ key e at.
          let w = k.ways key e at in
          (client_stays core links (slice_set links l b) g e.binding e.client w.0, server_stays core links (slice_set links l b) g e.binding e.server w.1);
      over = k.over;
      one = k.one;
    }

count_step : (b : Bool) (n : ℕ) (c : ℕ) → (if b then Some n else None) ≡ Some c → (b ≡ true) × (n ≡ c)
count_step true n c e = let f : n ≡ c = cc in (refl, f)
count_step false n c e = absurd (cc)

-- the next number of a core on a link
pub record Next (core : ℕ) (links : List LinkState) (l n : ℕ) : Type 0 where
  pub link : LinkState
  pub there : slice_get links l ≡ Some link
  pub few : link.opened ≤ 1022
  pub is : number core link.neighbour.0 link.opened ≡ n

pub record Due (core : ℕ) (links : List LinkState) (l n : ℕ) : Type 0 where
  pub link : LinkState
  pub there : slice_get links l ≡ Some link
  pub few : link.taken ≤ 1022
  pub is : number link.neighbour.0 core link.taken ≡ n

next_step : (core : ℕ) (links : List LinkState) (l n : ℕ) (o : Option LinkState) → slice_get links l ≡ o → next_here core o ≡ Some n → Next core links l n
next_step core links l n None at e = absurd (cc)
next_step core links l n (Some link) at e =
    let (b, is) = count_step (nat_lt link.opened 1023) (number core link.neighbour.0 link.opened) n e in
    let less = is_less link.opened 1023 b in
    record { link = link; there = at; few = omega arith; is = is }

due_step : (core : ℕ) (links : List LinkState) (l n : ℕ) (o : Option LinkState) → slice_get links l ≡ o → next_there core o ≡ Some n → Due core links l n
due_step core links l n None at e = absurd (cc)
due_step core links l n (Some link) at e =
    let (b, is) = count_step (nat_lt link.taken 1023) (number link.neighbour.0 core link.taken) n e in
    let less = is_less link.taken 1023 b in
    record { link = link; there = at; few = omega arith; is = is }

pub next_is : (core : ℕ) (links : List LinkState) (l n : ℕ) → next_here core (slice_get links l) ≡ Some n → Next core links l n
next_is core links l n e = next_step core links l n (slice_get links l) refl e

pub due_is : (core : ℕ) (links : List LinkState) (l n : ℕ) → next_there core (slice_get links l) ≡ Some n → Due core links l n
due_is core links l n e = due_step core links l n (slice_get links l) refl e

-- the links as they are counted
pub counted_opening : (core : ℕ) (links : List LinkState) (l n : ℕ) → (x : Next core links l n) → count_opening links l ≡ slice_set links l (with_opening x.link)
counted_opening core links l n x = let f : Option LinkState → List LinkState = λ o. changed with_opening links l o in ap f x.there

pub counted_taking : (core : ℕ) (links : List LinkState) (l n : ℕ) → (x : Due core links l n) → count_taking links l ≡ slice_set links l (with_taking x.link)
counted_taking core links l n x = let f : Option LinkState → List LinkState = λ o. changed with_taking links l o in ap f x.there

-- a number that is next, or due, was given by nobody
pub never_next : (core : ℕ) (links : List LinkState) → ((l : ℕ) (a : LinkState) → slice_get links l ≡ Some a → a.neighbour.0 ≢ core) → (l n : ℕ) → Next core links l n → IsGiven core links l n → ⊥
never_next core links apart l n x (inl o) =
    let some : Some x.link ≡ Some o.link = sym x.there ∙ o.there in
    let same : x.link ≡ o.link = cc in
    let (i, less, is) = o.among in
    let f : LinkState → ℕ = λ a. number core a.neighbour.0 i in
    let g : LinkState → ℕ = λ a. a.opened in
    let e = number_once core x.link.neighbour.0 x.link.opened i (x.is ∙ is ∙ ap f (sym same)) in
    omega (arith, e, ap g same, less)
never_next core links apart l n x (inr o) =
    let some : Some x.link ≡ Some o.link = sym x.there ∙ o.there in
    let same : x.link ≡ o.link = cc in
    let (i, less, is) = o.among in
    let f : LinkState → ℕ = λ a. number a.neighbour.0 core i in
    number_apart core x.link.neighbour.0 x.link.opened i (λ e. apart l x.link x.there (sym e)) (x.is ∙ is ∙ ap f (sym same))

pub never_due : (core : ℕ) (links : List LinkState) → ((l : ℕ) (a : LinkState) → slice_get links l ≡ Some a → a.neighbour.0 ≢ core) → (l n : ℕ) → Due core links l n → IsGiven core links l n → ⊥
never_due core links apart l n x (inr o) =
    let some : Some x.link ≡ Some o.link = sym x.there ∙ o.there in
    let same : x.link ≡ o.link = cc in
    let (i, less, is) = o.among in
    let f : LinkState → ℕ = λ a. number a.neighbour.0 core i in
    let g : LinkState → ℕ = λ a. a.taken in
    let e = number_once x.link.neighbour.0 core x.link.taken i (x.is ∙ is ∙ ap f (sym same)) in
    omega (arith, e, ap g same, less)
never_due core links apart l n x (inl o) =
    let some : Some x.link ≡ Some o.link = sym x.there ∙ o.there in
    let same : x.link ≡ o.link = cc in
    let (i, less, is) = o.among in
    let f : LinkState → ℕ = λ a. number core a.neighbour.0 i in
    number_apart x.link.neighbour.0 core x.link.taken i (apart l x.link x.there) (x.is ∙ is ∙ ap f (sym same))

module _ (core : ℕ) (links : List LinkState) (cells : List Cell) (s : Slab Entry) (k : SlotsKept core links cells s) (l n : ℕ) where
  pub grown_opening : Next core links l n → Grown links (count_opening links l)
  grown_opening x =
      subst (Grown links) (sym (counted_opening core links l n x)) (grown_set links l x.link (with_opening x.link) x.there refl (omega arith) (omega arith))

  pub grown_taking : Due core links l n → Grown links (count_taking links l)
  grown_taking x =
      subst (Grown links) (sym (counted_taking core links l n x)) (grown_set links l x.link (with_taking x.link) x.there refl (omega arith) (omega arith))

  pub kept_opening : Next core links l n → SlotsKept core (count_opening links l) cells s
  kept_opening x =
      let most = k.counts l x.link x.there in
      let few = x.few in
      subst (λ v. SlotsKept core v cells s) (sym (counted_opening core links l n x))
      (kept_counts core links cells s k l x.link (with_opening x.link) x.there refl (omega arith) (omega arith) (omega arith, most.1))

  pub kept_taking : Due core links l n → SlotsKept core (count_taking links l) cells s
  kept_taking x =
      let most = k.counts l x.link x.there in
      let few = x.few in
      subst (λ v. SlotsKept core v cells s) (sym (counted_taking core links l n x))
      (kept_counts core links cells s k l x.link (with_taking x.link) x.there refl (omega arith) (omega arith) (most.0, omega arith))

  -- the next number was given by nobody
  pub next_new : Next core links l n → IsGiven core links l n → ⊥
  next_new x given = never_next core links k.apart l n x given

  pub due_new : Due core links l n → IsGiven core links l n → ⊥
  due_new x given = never_due core links k.apart l n x given

  -- and is among those given afterwards
  pub opened_now : Next core links l n → IsOpened core (count_opening links l) l n
  opened_now x =
      subst (λ v. IsOpened core v l n) (sym (counted_opening core links l n x))
      (record { link = with_opening x.link; there = set_here links l x.link (with_opening x.link) x.there; among = (x.link.opened, omega arith, sym x.is) })

  pub taken_now : Due core links l n → IsTaken core (count_taking links l) l n
  taken_now x =
      subst (λ v. IsTaken core v l n) (sym (counted_taking core links l n x))
      (record { link = with_taking x.link; there = set_here links l x.link (with_taking x.link) x.there; among = (x.link.taken, omega arith, sym x.is) })

pub due_few : (core : ℕ) (links : List LinkState) (l n : ℕ) → Due core links l n → (a : LinkState) → slice_get links l ≡ Some a → a.taken ≤ 1022
due_few core links l n x a at =
    let some : Some x.link ≡ Some a = sym x.there ∙ at in
    let same : x.link ≡ a = cc in
    subst (λ (b : LinkState). b.taken ≤ 1022) same x.few

pub next_few : (core : ℕ) (links : List LinkState) (l n : ℕ) → Next core links l n → (a : LinkState) → slice_get links l ≡ Some a → a.opened ≤ 1022
next_few core links l n x a at =
    let some : Some x.link ≡ Some a = sym x.there ∙ at in
    let same : x.link ≡ a = cc in
    subst (λ (b : LinkState). b.opened ≤ 1022) same x.few

pub grown_on : (links more most : List LinkState) → Grown links more → Grown more most → Grown links most
grown_on links more most g h = record {
  link = λ l a at.
      let (b, there, same, opened, taken) = g.link l a at in
      let (c, also, too, up, on) = h.link l b there in
      (c, also, too ∙ same, omega (arith, opened, up), omega (arith, taken, on));
}

-- the next number on a link stays so where another link's openings are taken
pub next_stays : (core : ℕ) (links : List LinkState) (l c m n : ℕ) → Due core links l c → l ≢ m → Next core links m n → Next core (count_taking links l) m n
next_stays core links l c m n d two x =
    subst (λ v. Next core v m n) (sym (counted_taking core links l c d))
    (record { link = x.link; there = set_there links l (with_taking d.link) m x.link x.there (λ e. two (sym e)); few = x.few; is = x.is })

-- Whether a core has a link to another.

cond_some : {X : Type 0} (b : Bool) (x : X) → (if b then Some x else None) ≡ None → b ≡ false
cond_some true x e = absurd (cc)
cond_some false x e = refl

pub none_there : {X : Type 0} (p : X → Bool) (xs : List X) → position p xs ≡ None → (i : ℕ) (x : X) → slice_get xs i ≡ Some x → p x ≡ false
none_there p xs none i x at =
    let no = cond_some (nat_lt (position_or_len p xs) (length xs)) (position_or_len p xs) none in
    let inside = within xs i x at in
    let before : i < position_or_len p xs = grind (arith, nat_tests, no, inside) in
    ap p (sym (get_or_from_slice_get xs i x x at)) ∙ fails_before_first p xs i x before

none_of : {X : Type 0} (o : Option X) (b : Bool) → b ≡ is_some o → b ≡ false → o ≡ None
none_of None b e h = refl
none_of (Some x) b e h = cc

mapped_none : {X Y : Type 0} (f : X → Y) (o : Option X) → o ≡ None → option_map f o ≡ None
mapped_none f o e = ap (option_map f) e

pub unlike_core : (a b : ℕ) → (a == b) ≡ false → a ≡ b → ⊥
unlike_core a b e is = grind (arith, nat_tests, e, is)

sits_on : (way : HopTarget) (x : Cell) (cells more : List Cell) → Sits cells way x → Sits (cells ++ more) way x
sits_on (Link l c) x cells more h = (h.0, push_keeps cells more (slot l.0 c.0) x h.1)
sits_on (End e) x cells more h = tt

-- a table with one more link
pub kept_link : (core : ℕ) (links : List LinkState) (cells : List Cell) (s : Slab Entry) → SlotsKept core links cells s → (to : CoreId) → to.0 ≢ core → length links < 15 → position (λ (a : LinkState). a.neighbour.0 == to.0) links ≡ None
    → SlotsKept core (links ++ record { neighbour = to; opened = 0; taken = 0 } ∷ []) (cells ++ replicate 2047 Free) s
kept_link core links cells s k to other few none =
    let x : LinkState = record { neighbour = to; opened = 0; taken = 0 } in
    let g = grown_push links x in
    let whole = k.whole in
    let clear : (l : ℕ) (a : LinkState) → slice_get links l ≡ Some a → a.neighbour.0 ≢ to.0 = λ l a at e. unlike_core a.neighbour.0 to.0 (none_there (λ (b : LinkState). b.neighbour.0 == to.0) links none l a at) e in
    record {
      few = omega (arith, length-append links (x ∷ []));
      whole = omega (arith, length-append links (x ∷ []), length-append cells (replicate 2047 Free), length-replicate 2047 Free, whole);
      apart = λ l a at.
          elim (push_cases links x l a at) [
            | inl before ↦ k.apart l a before
            | inr (e, is) ↦ (λ h. other (sym (ap (λ (b : LinkState). b.neighbour.0) is) ∙ h))
          ];
      once = λ l m a b at there e.
          elim (push_cases links x l a at) [
            | inl before ↦
                elim (push_cases links x m b there) [
                  | inl was ↦ k.once l m a b before was e
                  | inr (f, is) ↦ absurd (clear l a before (e ∙ ap (λ (y : LinkState). y.neighbour.0) is))
                ]
            | inr (h, is) ↦
                elim (push_cases links x m b there) [
                  | inl was ↦ absurd (clear m b was (sym e ∙ ap (λ (y : LinkState). y.neighbour.0) is))
                  | inr (f, too) ↦ h ∙ sym f
                ]
          ];
      counts = λ l a at.
          elim (push_cases links x l a at) [
            | inl before ↦ k.counts l a before
            | inr (e, is) ↦ subst (λ (y : LinkState). (y.opened ≤ 1023) × (y.taken ≤ 1023)) (sym is) (omega arith, omega arith)
          ];
      client = λ i key at.
          elim (fill_cases cells 2047 Free i (ClientSide key) at) [
            | inl before ↦ k.client i key before
            | inr is ↦ absurd (cc)
          ];
      server = λ i key at.
          elim (fill_cases cells 2047 Free i (ServerSide key) at) [
            | inl before ↦ k.server i key before
            | inr is ↦ absurd (cc)
          ];
      client_back = λ key e at. sits_on e.client (ClientSide key) cells (replicate 2047 Free) (k.client_back key e at);
      server_back = λ key e at. sits_on e.server (ServerSide key) cells (replicate 2047 Free) (k.server_back key e at);
      ways = λ key e at.
          let w = k.ways key e at in
          (client_stays core links (links ++ x ∷ []) g e.binding e.client w.0, server_stays core links (links ++ x ∷ []) g e.binding e.server w.1);
      over = k.over;
      one = k.one;
    }

pub no_link : (t : Option ℕ) (o : Option LinkId) (b : Bool) → option_map (λ (link : LinkId). link.0) o ≡ t → b ≡ is_some o → b ≡ false → t ≡ None
no_link t o b e is h = sym e ∙ mapped_none (λ (link : LinkId). link.0) o (none_of o b is h)

-- none of the reasons against a link to a core
pub may_link : (core : ℕ) (links : List LinkState) (cells : List Cell) (s : Slab Entry) (t : TheCircuits) → table_of core links cells s ≡ t → (to : ℕ) (o : Option LinkId) (b : Bool) → to ≢ core
    → option_map (λ (link : LinkId). link.0) o ≡ link_of t to → b ≡ is_some o → b ≡ false → length links < 15 → link_fault t to ≡ None
may_link core links cells s t is to o b other e found h few =
    let none : link_of (table_of core links cells s) to ≡ None = ap (λ u. link_of u to) is ∙ no_link (link_of t to) o b e found h in
    let here : (to == core) ≡ false = grind (arith, nat_tests, other) in
    let there : is_some (link_of (table_of core links cells s) to) ≡ false = ap is_some none in
    let room : nat_lt (length links) 15 ≡ true = less_is (length links) 15 few in
    let last : Option HopFault = if nat_lt (length links) 15 then None else Some Limit in
    let next : Option HopFault = if is_some (link_of (table_of core links cells s) to) then Some NoLink else last in
    ap (λ u. link_fault u to) (sym is)
    ∙ cond_false (to == core) (Some NoLink) next here
    ∙ cond_false (is_some (link_of (table_of core links cells s) to)) (Some NoLink) last there
    ∙ cond_true (nat_lt (length links) 15) None (Some Limit) room

map_free : (s : Slab Entry) (n : ℕ) → map (shown s) (replicate n Free) ≡ replicate n None
map_free s zero = refl
map_free s (suc n) = ap (λ o. None ∷ o) (map_free s n)

pub map_fill : (core : ℕ) (links : List LinkState) (cells : List Cell) (s : Slab Entry) (to : CoreId) → table_of core (links ++ record { neighbour = to; opened = 0; taken = 0 } ∷ []) (cells ++ replicate 2047 Free) s ≡ with_link (table_of core links cells s) to
map_fill core links cells s to =
    let more : List LinkState = links ++ record { neighbour = to; opened = 0; taken = 0 } ∷ [] in
    let f : List (Option Hop) → TheCircuits = λ h. record { core = core; links = more; hops = h } in
    ap f (map-append (shown s) cells (replicate 2047 Free) ∙ ap (λ o. map (shown s) cells ++ o) (map_free s 2047))
