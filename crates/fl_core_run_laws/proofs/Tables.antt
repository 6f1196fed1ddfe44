-- What openings, answers and refusals make of a core's table: it is a later one, and what is settled stays so.
use Rattle.std.proofs.Common.{◌≡◌, refl, sym, ◌∙◌, ap, subst, ℕ, zero, suc, ◌+◌, ◌≤◌, nat_lt, Bool, true, false, cond, ◌⊎◌, inl, inr}
use Rattle.std.proofs.Common.{List, [], ◌∷◌, slice_get, slice_set, slice_index_or, Option, Some, None, option_map, arith}
use Rattle.std.proofs.lemmas.Bool.{cases_eq}
use Rattle.fl_base.specs.declared.identity.EndId.{EndId}
use Rattle.fl_base.specs.declared.identity.LinkId.{LinkId}
use Rattle.fl_base.specs.declared.identity.Circuit.{Circuit}
use Rattle.fl_base.specs.declared.identity.Side.TheVariants.{Client, Server}
use Rattle.fl_hop.specs.declared.links.LinkState.{LinkState}
use Rattle.fl_hop.specs.declared.entry.HopTarget.{HopTarget}
use Rattle.fl_hop.specs.declared.entry.HopTarget.TheVariants.{Link, End}
use Rattle.fl_hop.specs.declared.entry.Hop.{Hop}
use Rattle.fl_hop.specs.Joined.{Sound, Leads}
use Rattle.fl_hop.specs.Later.{Later, way_at, entry_at, unanswered}
use Rattle.fl_hop.specs.Numbers.{Given, IsTaken, OpenedThere, with_opening, with_taking, changed, count_opening, count_taking, after_opening, after_taking, next_own, next_due}
use Rattle.fl_hop.specs.Openings.{IsWaiting, opened, passed_on, arrive_fault, arrived, answered}
use Rattle.fl_hop.specs.Table.{TheCircuits, slot, hop_at, put_at, with_hops, with_links, with_entry, without_entry, leading}
use Rattle.fl_hop.proofs.Answering.{numbers_apart}
use Rattle.fl_hop.proofs.Cells.{slot_once, is_less, less_is, cond_true}
use Rattle.fl_hop.proofs.Counting.{Grown, Next, Due, opened_stays, taken_stays, grown_on, grown_set, next_is, due_is, never_next, never_due, counted_taking}
use Rattle.fl_hop.proofs.Entering.{IsSlot}
use Rattle.fl_hop.proofs.Entries.{arrived_leads}
use Rattle.fl_hop.proofs.Laters.{put_other, put_none, later_without}
use Rattle.fl_hop.proofs.Lists.{set_cases, set_here, index_found, index_there}
use Rattle.fl_hop.proofs.Numbering.{small}
use Rattle.fl_core_run_laws.specs.Led.{IsSettled}

-- ---- what becomes of a table

-- a later table: what is settled stays so, and what leads to an end led there before, or is new
pub record GoesOn (new : ℕ → EndId → Type 0) (t u : TheCircuits) : Type 0 where
  pub later : Later t u
  pub settled : (l c : ℕ) (name : EndId) → IsSettled t l c name → IsSettled u l c name
  pub came : (l n : ℕ) (name : EndId) → way_at u l n ≡ Some (End name) → (way_at t l n ≡ Some (End name)) ⊎ new l name

abbrev pub NoneNew : ℕ → EndId → Type 0
NoneNew l name = ⊥

-- one name, on one link
abbrev pub OneNew : ℕ → EndId → ℕ → EndId → Type 0
OneNew m end l name = (l ≡ m) × (name ≡ end)

-- ---- look-ups

map_some : {X Y : Type 0} (f : X → Y) (o : Option X) (y : Y) → option_map f o ≡ Some y → (x : X) × (o ≡ Some x) × (f x ≡ y)
map_some f None y h = absurd (cc)
map_some f (Some x) y h = (x, refl, let e : f x ≡ y = cc in e)

pub way_there : (t : TheCircuits) (l n : ℕ) (way : HopTarget) → way_at t l n ≡ Some way → (hop : Hop) × (hop_at t l n ≡ Some hop) × (hop.way ≡ way)
way_there t l n way h = map_some (λ (hop : Hop). hop.way) (hop_at t l n) way h

pub way_of : (t : TheCircuits) (l n : ℕ) (hop : Hop) (way : HopTarget) → hop_at t l n ≡ Some hop → hop.way ≡ way → way_at t l n ≡ Some way
way_of t l n hop way at is = ap (option_map (λ (x : Hop). x.way)) at ∙ ap Some is

pub leads_at : (t : TheCircuits) (l n : ℕ) (hop : Hop) (way : HopTarget) → hop_at t l n ≡ Some hop → hop.way ≡ way → Leads t l n hop.binding way
leads_at t l n hop way at is = record { answered = hop.answered; there = at ∙ ap (λ (x : HopTarget). leading hop.binding hop.answered x) is }

cond_some : (b : Bool) (o : Option Hop) (h : Hop) → cond b o None ≡ Some h → (b ≡ true) × (o ≡ Some h)
cond_some true o h e = (refl, e)
cond_some false o h e = absurd (cc)

some_none : (h : Hop) → Some h ≡ None → ⊥
some_none h e = absurd (cc)

pub stands_there : (t : TheCircuits) (l n : ℕ) (h : Hop) → hop_at t l n ≡ Some h → (n ≤ 2046) × (slice_get t.hops (slot l n) ≡ Some (Some h))
stands_there t l n h e =
    let (b, v) = cond_some (nat_lt n 2047) (slice_index_or t.hops (slot l n) None) h e in
    let few = is_less n 2047 b in
    (omega (arith, few), index_found t.hops (slot l n) None (Some h) v (some_none h))

there_stands : (t : TheCircuits) (l n : ℕ) (o : Option Hop) → n ≤ 2046 → slice_get t.hops (slot l n) ≡ Some o → hop_at t l n ≡ o
there_stands t l n o few e =
    cond_true (nat_lt n 2047) (slice_index_or t.hops (slot l n) None) None (less_is n 2047 (omega (arith, few))) ∙ index_there t.hops (slot l n) None o e

-- a number that was given is one of a link's, and where an entry stands the number was given
given_small : (t : TheCircuits) (l n : ℕ) → Sound t → Given t l n → n ≤ 2046
given_small t l n k (inl o) = (small t.core o.link.neighbour.0 o.link.opened n (k.counts l o.link o.there).0 o.among).1
given_small t l n k (inr o) = (small o.link.neighbour.0 t.core o.link.taken n (k.counts l o.link o.there).1 o.among).1

pub given_at : (t : TheCircuits) (l n : ℕ) (hop : Hop) → Sound t → hop_at t l n ≡ Some hop → Given t l n
given_at t l n hop k at = elim (k.toward l n hop.binding hop.way (leads_at t l n hop hop.way at refl)) [
  | inl h ↦ inl h.0
  | inr h ↦ inr h.0
]

-- ---- one number changed

abbrev put_in : TheCircuits → HopTarget → Option Hop → TheCircuits
put_in t way o = with_hops t (put_at way o t.hops)

put_came : (t : TheCircuits) (way : HopTarget) (o : Option Hop) (l n : ℕ) (h : Hop) → hop_at (put_in t way o) l n ≡ Some h
    → (IsSlot way (slot l n) × (o ≡ Some h)) ⊎ (hop_at t l n ≡ Some h)
put_came t (Link m d) o l n h q =
    let (few, there) = stands_there (put_in t (Link m d) o) l n h q in
    elim (set_cases t.hops (slot m.0 d.0) o (slot l n) (Some h) there) [
      | inl (e, same) ↦ inl (e, sym same)
      | inr (ne, old) ↦ inr (there_stands t l n (Some h) few old)
    ]
put_came t (End e) o l n h q = inr q

-- two numbers changed, as an entry's are
entry_came : (t : TheCircuits) (binding : ℕ) (ok : Bool) (a b : HopTarget) (l n : ℕ) (h : Hop) → hop_at (with_entry t binding ok a b) l n ≡ Some h
    → (IsSlot b (slot l n) × (leading binding ok a ≡ Some h)) ⊎ ((IsSlot a (slot l n) × (leading binding ok b ≡ Some h)) ⊎ (hop_at t l n ≡ Some h))
entry_came t binding ok a b l n h q = elim (put_came (put_in t a (leading binding ok b)) b (leading binding ok a) l n h q) [
  | inl p ↦ inl p
  | inr p ↦ inr (put_came t a (leading binding ok b) l n h p)
]

-- ---- a new entry

-- a way's number is small, and was given by nobody
abbrev IsUngiven : TheCircuits → HopTarget → Type 0
IsUngiven t (Link l c) = (c.0 ≤ 2046) × (Given t l.0 c.0 → ⊥)
IsUngiven t (End e) = Unit {0}

new_slot : (t : TheCircuits) (way : HopTarget) (l n : ℕ) → Sound t → IsUngiven t way → Given t l n → IsSlot way (slot l n) → ⊥
new_slot t (Link m d) l n k new given e =
    let (a, b) = slot_once l n m.0 d.0 e (given_small t l n k given) new.0 in
    new.1 (subst (λ (x : ℕ). Given t x d.0) a (subst (λ (x : ℕ). Given t l x) b given))
new_slot t (End f) l n k new given e = e

module _ (t : TheCircuits) (more : List LinkState) (k : Sound t) (g : Grown t.links more) where
  entered_there : (binding : ℕ) (a b : HopTarget) → IsUngiven t a → IsUngiven t b → (l n : ℕ) → Given t l n → hop_at (with_entry (with_links t more) binding false a b) l n ≡ hop_at t l n
  entered_there binding a b x y l n given =
      let u : TheCircuits = with_links t more in
      put_other (with_hops u (put_at a (leading binding false b) u.hops)) b (leading binding false a) l n (new_slot t b l n k y given)
      ∙ put_other u a (leading binding false b) l n (new_slot t a l n k x given)

  entered_later : (binding : ℕ) (a b : HopTarget) → IsUngiven t a → IsUngiven t b → Later t (with_entry (with_links t more) binding false a b)
  entered_later binding a b x y = record {
    core = refl;
    here = opened_stays t.core t.links more g;
    there = taken_stays t.core t.links more g;
    kept = λ l n given. inl (ap (option_map unanswered) (entered_there binding a b x y l n given));
  }

  -- what is settled was given
  entered_settled : (binding : ℕ) (a b : HopTarget) → IsUngiven t a → IsUngiven t b → (l c : ℕ) (name : EndId) → IsSettled t l c name → IsSettled (with_entry (with_links t more) binding false a b) l c name
  entered_settled binding a b x y l c name s = record {
    hop = s.hop;
    there = entered_there binding a b x y l c (given_at t l c s.hop k s.there) ∙ s.there;
    way = s.way;
    for_good = elim s.for_good [
      | inl answered_yes ↦ inl answered_yes
      | inr there ↦ inr (taken_stays t.core t.links more g l c there)
    ];
  }

  entered : (new : ℕ → EndId → Type 0) (binding : ℕ) (a b : HopTarget) → IsUngiven t a → IsUngiven t b
      → ((l n : ℕ) (name : EndId) (hop : Hop) → hop_at (with_entry (with_links t more) binding false a b) l n ≡ Some hop → hop.way ≡ End name → (way_at t l n ≡ Some (End name)) ⊎ new l name)
      → GoesOn new t (with_entry (with_links t more) binding false a b)
  entered new binding a b x y come = record {
    later = entered_later binding a b x y;
    settled = entered_settled binding a b x y;
    came = λ l n name at.
        let (hop, there, is) = way_there (with_entry (with_links t more) binding false a b) l n (End name) at in
        come l n name hop there is;
  }

-- links that grew, and nothing else
pub grown_goes : (t : TheCircuits) (more : List LinkState) → Grown t.links more → GoesOn NoneNew t (with_links t more)
grown_goes t more g = record {
  later = record {
    core = refl;
    here = opened_stays t.core t.links more g;
    there = taken_stays t.core t.links more g;
    kept = λ l n given. inl refl;
  };
  settled = λ l c name s. record {
    hop = s.hop;
    there = s.there;
    way = s.way;
    for_good = elim s.for_good [
      | inl answered_yes ↦ inl answered_yes
      | inr there ↦ inr (taken_stays t.core t.links more g l c there)
    ];
  };
  came = λ l n name at. inl at;
}

-- ---- numbers that nobody gave

counted_by : (f : LinkState → LinkState) (links : List LinkState) (l : ℕ) → ((a : LinkState) → ((f a).neighbour ≡ a.neighbour) × (a.opened ≤ (f a).opened) × (a.taken ≤ (f a).taken))
    → (o : Option LinkState) → slice_get links l ≡ o → Grown links (changed f links l o)
counted_by f links l h None at = record { link = λ m a there. (a, there, refl, omega arith, omega arith) }
counted_by f links l h (Some a) at = grown_set links l a (f a) at (h a).0 (h a).1 (h a).2

opening_grown : (links : List LinkState) (l : ℕ) → Grown links (count_opening links l)
opening_grown links l = counted_by with_opening links l (λ a. (refl, omega arith, omega arith)) (slice_get links l) refl

taking_grown : (links : List LinkState) (l : ℕ) → Grown links (count_taking links l)
taking_grown links l = counted_by with_taking links l (λ a. (refl, omega arith, omega arith)) (slice_get links l) refl

next_ungiven : (t : TheCircuits) (l : LinkId) (c : Circuit) → Sound t → next_own t l.0 ≡ Some c.0 → IsUngiven t (Link l c)
next_ungiven t l c k h =
    let next : Next t.core t.links l.0 c.0 = next_is t.core t.links l.0 c.0 h in
    let few : next.link.opened ≤ 1022 = next.few in
    let p = small t.core next.link.neighbour.0 (next.link.opened + 1) c.0 (omega (arith, few)) (next.link.opened, omega arith, sym next.is) in
    (p.1, never_next t.core t.links k.apart l.0 c.0 next)

due_ungiven : (t : TheCircuits) (l : LinkId) (c : Circuit) → Sound t → next_due t l.0 ≡ Some c.0 → IsUngiven t (Link l c)
due_ungiven t l c k h =
    let due : Due t.core t.links l.0 c.0 = due_is t.core t.links l.0 c.0 h in
    let few : due.link.taken ≤ 1022 = due.few in
    let p = small due.link.neighbour.0 t.core (due.link.taken + 1) c.0 (omega (arith, few)) (due.link.taken, omega arith, sym due.is) in
    (p.1, never_due t.core t.links k.apart l.0 c.0 due)

-- ---- openings

leading_way : (binding : ℕ) (ok : Bool) (way : HopTarget) (h : Hop) → leading binding ok way ≡ Some h → (h.way ≡ way) × (h.answered ≡ ok)
leading_way binding ok way h e =
    let same : (let x : Hop = record { binding = binding; way = way; answered = ok } in x) ≡ h = cc in
    (sym (ap (λ (x : Hop). x.way) same), sym (ap (λ (x : Hop). x.answered) same))

one_end : (a b : EndId) → End a ≡ End b → b ≡ a
one_end a b e = cc

link_or_end : (l : LinkId) (c : Circuit) (e : EndId) → Link l c ≡ End e → ⊥
link_or_end l c e h = cc

slot_link : (t : TheCircuits) (l n : ℕ) (m : LinkId) (d : Circuit) (h : Hop) → d.0 ≤ 2046 → hop_at t l n ≡ Some h → slot l n ≡ slot m.0 d.0 → (l ≡ m.0) × (n ≡ d.0)
slot_link t l n m d h few at e = slot_once l n m.0 d.0 e (stands_there t l n h at).0 few

-- this core opens, for an end here
pub opened_goes : (t : TheCircuits) (l : LinkId) (c : Circuit) (binding : ℕ) → Sound t → next_own t l.0 ≡ Some c.0
    → GoesOn (OneNew l.0 (record { binding = binding; side = Client })) t (opened t l c binding)
opened_goes t l c binding k next =
    let client : EndId = record { binding = binding; side = Client } in
    let ungiven = next_ungiven t l c k next in
    entered t (count_opening t.links l.0) k (opening_grown t.links l.0) (OneNew l.0 client) binding (End client) (Link l c) tt ungiven
    (λ m n name hop at is. elim (entry_came (after_opening t l.0) binding false (End client) (Link l c) m n hop at) [
      | inl p ↦ inr ((slot_link (opened t l c binding) m n l c hop ungiven.0 at p.0).0, one_end client name (sym (leading_way binding false (End client) hop p.1).0 ∙ is))
      | inr p ↦ elim p [ inl q ↦ absurd q.0 | inr q ↦ inl (way_of t m n hop (End name) q is) ]
    ])

-- the neighbour's opening ends here
pub arrived_goes : (t : TheCircuits) (l : LinkId) (c : Circuit) (binding : ℕ) → Sound t → next_due t l.0 ≡ Some c.0
    → GoesOn (OneNew l.0 (record { binding = binding; side = Server })) t (arrived t l c binding)
arrived_goes t l c binding k due =
    let server : EndId = record { binding = binding; side = Server } in
    let ungiven = due_ungiven t l c k due in
    entered t (count_taking t.links l.0) k (taking_grown t.links l.0) (OneNew l.0 server) binding (Link l c) (End server) ungiven tt
    (λ m n name hop at is. elim (entry_came (after_taking t l.0) binding false (Link l c) (End server) m n hop at) [
      | inl p ↦ absurd p.0
      | inr p ↦ elim p [
        | inl q ↦ inr ((slot_link (arrived t l c binding) m n l c hop ungiven.0 at q.0).0, one_end server name (sym (leading_way binding false (End server) hop q.1).0 ∙ is))
        | inr q ↦ inl (way_of t m n hop (End name) q is)
      ]
    ])

-- or goes on
pub passed_goes : (t : TheCircuits) (l m : LinkId) (c d : Circuit) (binding : ℕ) → Sound t → next_due t l.0 ≡ Some c.0 → next_own t m.0 ≡ Some d.0
    → GoesOn NoneNew t (passed_on t l c m d binding)
passed_goes t l m c d binding k due next =
    let links = count_taking t.links l.0 in
    entered t (count_opening links m.0) k (grown_on t.links links (count_opening links m.0) (taking_grown t.links l.0) (opening_grown links m.0)) NoneNew binding (Link l c) (Link m d)
    (due_ungiven t l c k due) (next_ungiven t m d k next)
    (λ i n name hop at is. elim (entry_came (after_opening (after_taking t l.0) m.0) binding false (Link l c) (Link m d) i n hop at) [
      | inl p ↦ absurd (link_or_end l c name (sym (leading_way binding false (Link l c) hop p.1).0 ∙ is))
      | inr p ↦ elim p [
        | inl q ↦ absurd (link_or_end m d name (sym (leading_way binding false (Link m d) hop q.1).0 ∙ is))
        | inr q ↦ inl (way_of t i n hop (End name) q is)
      ]
    ])

-- or is refused
pub taken_goes : (t : TheCircuits) (l : LinkId) → GoesOn NoneNew t (after_taking t l.0)
taken_goes t l = grown_goes t (count_taking t.links l.0) (taking_grown t.links l.0)

-- ---- an entry that is answered

set_index : (hops : List (Option Hop)) (i j : ℕ) (o p : Option Hop) → slice_index_or hops j None ≡ p → option_map unanswered o ≡ option_map unanswered p → j ≡ i
    → option_map unanswered (slice_index_or (slice_set hops i o) j None) ≡ option_map unanswered p
set_index [] i j o p q e same = ap (option_map unanswered) q
set_index (h ∷ hops) zero zero o p q e same = e
set_index (h ∷ hops) zero (suc j) o p q e same = absurd (omega (arith, same))
set_index (h ∷ hops) (suc i) zero o p q e same = absurd (omega (arith, same))
set_index (h ∷ hops) (suc i) (suc j) o p q e same = set_index hops i j o p q e (omega (arith, same))

-- an entry put in the place of one that is alike but for whether it was answered
put_alike : (t : TheCircuits) (l : LinkId) (c : Circuit) (o : Option Hop) → nat_lt c.0 2047 ≡ true → option_map unanswered o ≡ entry_at t l.0 c.0
    → (m n : ℕ) → entry_at (put_in t (Link l c) o) m n ≡ entry_at t m n
put_alike t l c o small_test e m n = elim (cases_eq (slot m n) (slot l.0 c.0)) [
  | inl same ↦ by_test (nat_lt n 2047) (set_index t.hops (slot l.0 c.0) (slot m n) o (slice_index_or t.hops (slot m n) None) refl
      (e ∙ ap (λ (b : Bool). option_map unanswered (cond b (slice_index_or t.hops (slot l.0 c.0) None) None)) small_test
      ∙ ap (λ (i : ℕ). option_map unanswered (slice_index_or t.hops i None)) (sym same)) same)
  | inr other ↦ ap (option_map unanswered) (put_other t (Link l c) o m n other)
]
  where
    by_test : (b : Bool) → option_map unanswered (slice_index_or (slice_set t.hops (slot l.0 c.0) o) (slot m n) None) ≡ option_map unanswered (slice_index_or t.hops (slot m n) None)
        → option_map unanswered (cond b (slice_index_or (slice_set t.hops (slot l.0 c.0) o) (slot m n) None) None)
        ≡ option_map unanswered (cond b (slice_index_or t.hops (slot m n) None) None)
    by_test true h = h
    by_test false h = refl

small_there : (t : TheCircuits) (l n : ℕ) (hop : Hop) → hop_at t l n ≡ Some hop → nat_lt n 2047 ≡ true
small_there t l n hop at = (cond_some (nat_lt n 2047) (slice_index_or t.hops (slot l n) None) hop at).0

-- the same entries, whether they were answered set aside
answered_alike : (t : TheCircuits) (l : LinkId) (c : Circuit) (hop : Hop) (way : HopTarget) → Sound t → hop.way ≡ way → hop_at t l.0 c.0 ≡ Some hop
    → (m n : ℕ) → entry_at (with_entry t hop.binding true way (Link l c)) m n ≡ entry_at t m n
answered_alike t l c hop (End e) k is there =
    put_alike t l c (leading hop.binding true (End e)) (small_there t l.0 c.0 hop there) (sym (ap (option_map unanswered) (there ∙ ap (λ (w : HopTarget). leading hop.binding hop.answered w) is)))
answered_alike t l c hop (Link m d) k is there =
    let here : hop_at t l.0 c.0 ≡ leading hop.binding hop.answered (Link m d) = there ∙ ap (λ (w : HopTarget). leading hop.binding hop.answered w) is in
    let back = k.both l m c d hop.binding (record { answered = hop.answered; there = here }) in
    let first : TheCircuits = put_in t (Link m d) (leading hop.binding true (Link l c)) in
    let one : (x n : ℕ) → entry_at first x n ≡ entry_at t x n =
    put_alike t m d (leading hop.binding true (Link l c)) (small_there t m.0 d.0 _ back.there) (sym (ap (option_map unanswered) back.there)) in
    let two : (x n : ℕ) → entry_at (put_in first (Link l c) (leading hop.binding true (Link m d))) x n ≡ entry_at first x n =
    put_alike first l c (leading hop.binding true (Link m d)) (small_there t l.0 c.0 hop there) (sym (one l.0 c.0 ∙ ap (option_map unanswered) here)) in
    λ x n. two x n ∙ one x n

way_of_entry : (o : Option Hop) → option_map (λ (hop : Hop). hop.way) (option_map unanswered o) ≡ option_map (λ (hop : Hop). hop.way) o
way_of_entry None = refl
way_of_entry (Some hop) = refl

pub ways_alike : (t u : TheCircuits) (l n : ℕ) → entry_at u l n ≡ entry_at t l n → way_at u l n ≡ way_at t l n
ways_alike t u l n e = sym (way_of_entry (hop_at u l n)) ∙ ap (option_map (λ (hop : Hop). hop.way)) e ∙ way_of_entry (hop_at t l n)

pub answered_goes : (t : TheCircuits) (l : LinkId) (c : Circuit) (hop : Hop) → Sound t → hop_at t l.0 c.0 ≡ Some hop → GoesOn NoneNew t (answered t l c hop)
answered_goes t l c hop k there =
    let u : TheCircuits = answered t l c hop in
    let alike = answered_alike t l c hop hop.way k refl there in
    record {
      later = record { core = refl; here = λ m n o. o; there = λ m n o. o; kept = λ m n given. inl (alike m n) };
      settled = λ m n name s. settled m n name s (way_there u m n (End name) (ways_alike t u m n (alike m n) ∙ way_of t m n s.hop (End name) s.there s.way));
      came = λ m n name at. inl (sym (ways_alike t u m n (alike m n)) ∙ at);
    } where
      settled : (m n : ℕ) (name : EndId) → IsSettled t m n name → ((x : Hop) × (hop_at (answered t l c hop) m n ≡ Some x) × (x.way ≡ End name)) → IsSettled (answered t l c hop) m n name
      settled m n name s (x, at, is) = record {
        hop = x;
        there = at;
        way = is;
        for_good = elim (entry_came t hop.binding true hop.way (Link l c) m n x at) [
          | inl p ↦ inl (leading_way hop.binding true hop.way x p.1).1
          | inr p ↦ elim p [
            | inl q ↦ inl (leading_way hop.binding true (Link l c) x q.1).1
            | inr q ↦ (let same : s.hop ≡ x = one_hop (hop_at t m n) s.hop x s.there q in elim s.for_good [
              | inl ok ↦ inl (sym (ap (λ (y : Hop). y.answered) same) ∙ ok)
              | inr given ↦ inr given
            ])
          ]
        ];
      } where
        one_hop : (o : Option Hop) (a b : Hop) → o ≡ Some a → o ≡ Some b → a ≡ b
        one_hop o a b p q = cc

-- the entry that was answered is settled
pub answered_settles : (t : TheCircuits) (l : LinkId) (c : Circuit) (hop : Hop) (e : EndId) → Sound t → hop_at t l.0 c.0 ≡ Some hop → hop.way ≡ End e → IsSettled (answered t l c hop) l.0 c.0 e
answered_settles t l c hop e k there is =
    let few = stands_there t l.0 c.0 hop there in
    record {
      hop = record { binding = hop.binding; way = End e; answered = true };
      there = ap (λ (w : HopTarget). hop_at (with_entry t hop.binding true w (Link l c)) l.0 c.0) is
          ∙ there_stands (put_in t (Link l c) (leading hop.binding true (End e))) l.0 c.0 (leading hop.binding true (End e)) few.0 (set_here t.hops (slot l.0 c.0) (Some hop) (leading hop.binding true (End e)) few.1);
      way = refl;
      for_good = inl refl;
    }

-- ---- an entry that is refused

other_slot : (t : TheCircuits) (l m : LinkId) (c d : Circuit) (hop : Hop) (i n : ℕ) (name : EndId) → Sound t → IsSettled t i n name → hop_at t l.0 c.0 ≡ Some hop → (way : HopTarget) → hop.way ≡ way → IsSlot way (slot i n) → ⊥
other_slot t l m c d hop i n name k s there (End e) is slots = slots
other_slot t l x c y hop i n name k s there (Link m d) is slots =
    let back = k.both l m c d hop.binding (leads_at t l.0 c.0 hop (Link m d) there is) in
    let small_there = (stands_there t m.0 d.0 _ back.there).0 in
    let (a, b) = slot_once i n m.0 d.0 slots (stands_there t i n s.hop s.there).0 small_there in
    let found : Some s.hop ≡ leading hop.binding back.answered (Link l c) = sym s.there ∙ ap (λ (j : ℕ). hop_at t j n) a ∙ ap (hop_at t m.0) b ∙ back.there in
    link_or_end l c name (sym (leading_way hop.binding back.answered (Link l c) s.hop (sym found)).0 ∙ s.way)

-- what is settled isn't what waits
waits_elsewhere : (t : TheCircuits) (l : LinkId) (c : Circuit) (hop : Hop) (i n : ℕ) (name : EndId) → Sound t → IsSettled t i n name → IsWaiting t l.0 c.0 hop → slot i n ≡ slot l.0 c.0 → ⊥
waits_elsewhere t l c hop i n name k s w e =
    let (a, b) = slot_once i n l.0 c.0 e (stands_there t i n s.hop s.there).0 (stands_there t l.0 c.0 hop w.there).0 in
    let found : Some s.hop ≡ Some hop = sym s.there ∙ ap (λ (j : ℕ). hop_at t j n) a ∙ ap (hop_at t l.0) b ∙ w.there in
    let same : s.hop ≡ hop = cc in
    by same (subst (λ (j : ℕ). (s.hop.answered ≡ true) ⊎ OpenedThere t j c.0) a (subst (λ (j : ℕ). (s.hop.answered ≡ true) ⊎ OpenedThere t i j) b s.for_good)) where
      by : s.hop ≡ hop → (s.hop.answered ≡ true) ⊎ OpenedThere t l.0 c.0 → ⊥
      by same (inl ok) = let no : true ≡ false = sym ok ∙ ap (λ (y : Hop). y.answered) same ∙ w.unanswered in absurd (cc)
      by same (inr given) = numbers_apart t k l.0 c.0 w.here given

pub refused_goes : (t : TheCircuits) (l : LinkId) (c : Circuit) (hop : Hop) → Sound t → IsWaiting t l.0 c.0 hop → GoesOn NoneNew t (without_entry t (Link l c) hop.way)
refused_goes t l c hop k w =
    let first : TheCircuits = put_in t (Link l c) None in
    record {
      later = later_without t (Link l c) hop.way;
      settled = λ i n name s. record {
        hop = s.hop;
        there = put_other first hop.way None i n (other_slot t l l c c hop i n name k s w.there hop.way refl)
            ∙ put_other t (Link l c) None i n (waits_elsewhere t l c hop i n name k s w) ∙ s.there;
        way = s.way;
        for_good = s.for_good;
      };
      came = λ i n name at. inl (elim (put_none first hop.way i n) [
        | inl same ↦ elim (put_none t (Link l c) i n) [
          | inl too ↦ sym (ap (option_map (λ (x : Hop). x.way)) (same ∙ too)) ∙ at
          | inr gone ↦ absurd (no_way i n name (same ∙ gone) at)
        ]
        | inr gone ↦ absurd (no_way i n name gone at)
      ]);
    } where
      no_way : (i n : ℕ) (name : EndId) → hop_at (without_entry t (Link l c) hop.way) i n ≡ None → way_at (without_entry t (Link l c) hop.way) i n ≡ Some (End name) → ⊥
      no_way i n name none at = let no : None ≡ Some (End name) = sym (ap (option_map (λ (x : Hop). x.way)) none) ∙ at in absurd (cc)

-- ---- the number that an arrival was given is the neighbour's

pub arrived_settles : (t : TheCircuits) (l : LinkId) (c : Circuit) (binding : ℕ) → Sound t → next_due t l.0 ≡ Some c.0 → arrive_fault t l.0 c.0 binding ≡ None
    → IsSettled (arrived t l c binding) l.0 c.0 (record { binding = binding; side = Server })
arrived_settles t l c binding k due may =
    let server : EndId = record { binding = binding; side = Server } in
    let d : Due t.core t.links l.0 c.0 = due_is t.core t.links l.0 c.0 due in
    let leads = arrived_leads t l c binding k may in
    record {
      hop = record { binding = binding; way = End server; answered = leads.answered };
      there = leads.there;
      way = refl;
      for_good = inr (subst (λ (ls : List LinkState). IsTaken t.core ls l.0 c.0) (sym (counted_taking t.core t.links l.0 c.0 d)) (record {
        link = with_taking d.link;
        there = set_here t.links l.0 d.link (with_taking d.link) d.there;
        among = (d.link.taken, omega arith, sym d.is);
      }));
    }
