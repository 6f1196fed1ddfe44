-- A core's table stays sound: entries that come at new numbers, are answered and leave; counts that rise; and one more link.
use Rattle.std.proofs.Common.{◌≡◌, ◌≢◌, refl, sym, ◌∙◌, ap, subst, ℕ, zero, suc, ◌+◌, ◌*◌, ◌<◌, ◌≤◌, ◌⊎◌, inl, inr, nat_lt, Bool, true, false, if◌then◌else◌}
use Rattle.std.proofs.Common.{List, [], ◌∷◌, ◌++◌, length, replicate, slice_get, slice_set, slice_index_or, Option, Some, None, arith}
use Rattle.std.proofs.lemmas.List.{length-set, length-append, length-replicate}
use Rattle.fl_base.specs.declared.identity.LinkId.{LinkId}
use Rattle.fl_base.specs.declared.identity.Circuit.{Circuit}
use Rattle.fl_base.specs.declared.identity.CoreId.{CoreId}
use Rattle.fl_base.specs.declared.identity.Side.TheVariants.{Client, Server}
use Rattle.fl_hop.specs.declared.entry.HopTarget.{HopTarget}
use Rattle.fl_hop.specs.declared.entry.HopTarget.TheVariants.{Link, End}
use Rattle.fl_hop.specs.declared.entry.Hop.{Hop}
use Rattle.fl_hop.specs.declared.links.LinkState.{LinkState}
use Rattle.fl_hop.specs.Table.{TheCircuits, numbers, most_links, slot, hop_at, put_at, leading, with_hops, with_links, with_entry, without_entry, with_link}
use Rattle.fl_hop.specs.Numbers.{with_opening, with_taking, count_opening, count_taking, after_opening, after_taking, IsOpened, IsTaken, IsGiven, OpenedHere, OpenedThere}
use Rattle.fl_hop.specs.Openings.{opened, passed_on, arrived, answered}
use Rattle.fl_hop.specs.Joined.{Leads, IsClientWay, IsServerWay, Sound}
use Rattle.fl_hop.specs.Slots.{IsOver}
use Rattle.fl_hop.proofs.Cells.{slot_once, same_link, same_circuit, less_is, is_less}
use Rattle.fl_hop.proofs.Lists.{set_cases, set_here, push_cases, within}
use Rattle.fl_hop.proofs.Numbering.{small}
use Rattle.fl_hop.proofs.Counting.{Grown, opened_stays, taken_stays, client_stays, server_stays, grown_set, grown_push, Next, Due, counted_opening, counted_taking, never_next, never_due, next_stays}
use Rattle.fl_model_laws.proofs.Small.{some_same}

-- ---- what stands at a number after something was put at a way's own

abbrev pub IsAt : HopTarget → ℕ → ℕ → Type 0
IsAt (Link l c) m n = (m ≡ l.0) × (n ≡ c.0)
IsAt (End e) m n = ⊥

-- the way's number has a place among so many links
abbrev pub InRange : ℕ → HopTarget → Type 0
InRange links (Link l c) = (l.0 < links) × (c.0 ≤ 2046)
InRange links (End e) = Unit {0}

abbrev at_hops : List (Option Hop) → ℕ → ℕ → Option Hop
at_hops hops l n = if nat_lt n numbers then slice_index_or hops (slot l n) None else None

set_or : {X : Type 0} (xs : List X) (i j : ℕ) (y d : X) → i < length xs
    → ((j ≡ i) × (slice_index_or (slice_set xs i y) j d ≡ y)) ⊎ ((j ≢ i) × (slice_index_or (slice_set xs i y) j d ≡ slice_index_or xs j d))
set_or [] i j y d h = absurd (omega arith)
set_or (x ∷ xs) zero zero y d h = inl (refl, refl)
set_or (x ∷ xs) zero (suc j) y d h = inr ((λ e. absurd (omega arith)), refl)
set_or (x ∷ xs) (suc i) zero y d h = inr ((λ e. absurd (omega arith)), refl)
set_or (x ∷ xs) (suc i) (suc j) y d h = elim (set_or xs i j y d (omega arith)) [ inl a ↦ inl (ap suc a.0, a.1) | inr b ↦ inr ((λ e. b.0 (omega arith)), b.1) ]

put_by : (b : Bool) (xs : List (Option Hop)) (i j : ℕ) (o : Option Hop) → i < length xs
    → ((j ≡ i) × (b ≡ true) × ((if b then slice_index_or (slice_set xs i o) j None else None) ≡ o))
    ⊎ (((j ≡ i) × (b ≡ true) → ⊥) × ((if b then slice_index_or (slice_set xs i o) j None else None) ≡ (if b then slice_index_or xs j None else None)))
put_by true xs i j o h = elim (set_or xs i j o None h) [ inl a ↦ inl (a.0, refl, a.1) | inr b ↦ inr ((λ e. b.0 e.0), b.1) ]
put_by false xs i j o h = inr ((λ e. absurd (let u : false ≡ true = e.1 in cc)), refl)

put_is : (hops : List (Option Hop)) (links : ℕ) (way : HopTarget) (o : Option Hop) (m n : ℕ) → length hops ≡ numbers * links → InRange links way
    → (IsAt way m n × (at_hops (put_at way o hops) m n ≡ o)) ⊎ ((IsAt way m n → ⊥) × (at_hops (put_at way o hops) m n ≡ at_hops hops m n))
put_is hops links (End e) o m n whole r = inr ((λ h. h), refl)
put_is hops links (Link l c) o m n whole r =
    let long : length hops ≡ 2047 * links = whole in
    let below : l.0 < links = r.0 in
    let few : c.0 ≤ 2046 = r.1 in
    elim (put_by (nat_lt n numbers) hops (slot l.0 c.0) (slot m n) o (omega (arith, long, below, few))) [
      | inl h ↦
          let less : n < 2047 = is_less n 2047 h.1 in
          inl (slot_once m n l.0 c.0 h.0 (omega (arith, less)) few, h.2)
      | inr h ↦ inr (
        (λ at. h.0 (ap (λ (i : ℕ). slot i n) at.0 ∙ ap (slot l.0) at.1, less_is n 2047 (let same : n ≡ c.0 = at.1 in omega (arith, same, few)))),
        h.1,
      )
    ]

put_length : (way : HopTarget) (o : Option Hop) (hops : List (Option Hop)) → length (put_at way o hops) ≡ length hops
put_length (Link l c) o hops = length-set hops (slot l.0 c.0) o
put_length (End e) o hops = refl

-- ---- ways

way_at : (way : HopTarget) (l : LinkId) (c : Circuit) → IsAt way l.0 c.0 → way ≡ Link l c
way_at (Link m d) l c h = ap (λ (x : LinkId). Link x d) (same_link m l (sym h.0)) ∙ ap (λ (x : Circuit). Link l x) (same_circuit d c (sym h.1))
way_at (End e) l c h = absurd h

at_way : (way : HopTarget) (l : LinkId) (c : Circuit) → way ≡ Link l c → IsAt way l.0 c.0
at_way way l c e = subst (λ (w : HopTarget). IsAt w l.0 c.0) (sym e) (refl, refl)

same_at : (way : HopTarget) (l m : LinkId) (c d : Circuit) → IsAt way l.0 c.0 → IsAt way m.0 d.0 → (l ≡ m) × (c ≡ d)
same_at (Link x y) l m c d h k = (same_link l m (h.0 ∙ sym k.0), same_circuit c d (h.1 ∙ sym k.1))
same_at (End e) l m c d h k = absurd h

apart_ways : (a b : HopTarget) → IsOver a b → (m n : ℕ) → IsAt a m n → IsAt b m n → ⊥
apart_ways (Link l c) (Link m d) o x y p q = o (sym p.0 ∙ q.0)
apart_ways (Link l c) (End e) o x y p q = q
apart_ways (End e) b o x y p q = p

over_at : (a b : HopTarget) → IsOver a b → (l n : ℕ) (m : LinkId) (d : Circuit) → IsAt a l n → b ≡ Link m d → l ≢ m.0
over_at (Link x y) b o l n m d h e = λ same. let apart : x.0 ≢ m.0 = subst (IsOver (Link x y)) e o in apart (sym h.0 ∙ same)
over_at (End f) b o l n m d h e = absurd h

turned : (a b : HopTarget) → IsOver a b → IsOver b a
turned (Link l c) (Link m d) o = λ e. o (sym e)
turned (Link l c) (End e) o = tt
turned (End e) (Link l c) o = tt
turned (End e) (End f) o = absurd o

taken_at : (core : ℕ) (links : List LinkState) (b : ℕ) (way : HopTarget) (l n : ℕ) → IsAt way l n → IsClientWay core links b way → IsTaken core links l n
taken_at core links b (Link m d) l n h w =
    subst (λ (x : ℕ). IsTaken core links x n) (sym h.0) (subst (IsTaken core links m.0) (sym h.1) w)
taken_at core links b (End e) l n h w = absurd h

opened_at : (core : ℕ) (links : List LinkState) (b : ℕ) (way : HopTarget) (l n : ℕ) → IsAt way l n → IsServerWay core links b way → IsOpened core links l n
opened_at core links b (Link m d) l n h w =
    subst (λ (x : ℕ). IsOpened core links x n) (sym h.0) (subst (IsOpened core links m.0) (sym h.1) w)
opened_at core links b (End e) l n h w = absurd h

hop_binding : (b c : ℕ) (x y : Bool) (v w : HopTarget) → leading b x v ≡ leading c y w → (b ≡ c) × (v ≡ w)
hop_binding b c x y v w h =
    let same = some_same _ _ h in
    (ap (λ (k : Hop). k.binding) same, ap (λ (k : Hop). k.way) same)

none_leads : (t : TheCircuits) (l n binding : ℕ) (way : HopTarget) → hop_at t l n ≡ None → Leads t l n binding way → ⊥
none_leads t l n binding way none h = absurd (let u : None ≡ leading binding h.answered way = sym none ∙ h.there in cc)

one_leads : (t : TheCircuits) (l n b c : ℕ) (v w : HopTarget) → Leads t l n b v → Leads t l n c w → (b ≡ c) × (v ≡ w)
one_leads t l n b c v w g h = hop_binding b c g.answered h.answered v w (sym g.there ∙ h.there)

-- ---- one entry, at two ways that have none

module _ (t : TheCircuits) (sound : Sound t) (b : ℕ) (a : Bool) (c v : HopTarget) (in_c : InRange (length t.links) c) (in_v : InRange (length t.links) v)
    (free_c : (m n : ℕ) → IsAt c m n → hop_at t m n ≡ None) (free_v : (m n : ℕ) → IsAt v m n → hop_at t m n ≡ None) (over : IsOver c v)
    (client : IsClientWay t.core t.links b c) (server : IsServerWay t.core t.links b v)
    (fresh : (l n : ℕ) (way : HopTarget) → Leads t l n b way → ⊥) where
  abbrev after : TheCircuits
  after = with_entry t b a c v

  first_whole : length (put_at c (leading b a v) t.hops) ≡ numbers * length t.links
  first_whole = put_length c (leading b a v) t.hops ∙ sound.whole

  cases_at : (m n : ℕ) → ((IsAt v m n) × (hop_at after m n ≡ leading b a c))
      ⊎ (((IsAt c m n) × (hop_at after m n ≡ leading b a v)) ⊎ (hop_at after m n ≡ hop_at t m n))
  cases_at m n =
      elim (put_is (put_at c (leading b a v) t.hops) (length t.links) v (leading b a c) m n first_whole in_v) [
        | inl h ↦ inl h
        | inr h ↦ elim (put_is t.hops (length t.links) c (leading b a v) m n sound.whole in_c) [
          | inl k ↦ inr (inl (k.0, h.1 ∙ k.1))
          | inr k ↦ inr (inr (h.1 ∙ k.1))
        ]
      ]

  at_server : (m n : ℕ) → IsAt v m n → hop_at after m n ≡ leading b a c
  at_server m n h =
      elim (cases_at m n) [
        | inl k ↦ k.1
        | inr k ↦ elim k [
          | inl x ↦ absurd (apart_ways c v over m n x.0 h)
          | inr x ↦ elim (put_is (put_at c (leading b a v) t.hops) (length t.links) v (leading b a c) m n first_whole in_v) [
            | inl y ↦ y.1
            | inr y ↦ absurd (y.0 h)
          ]
        ]
      ]

  at_client : (m n : ℕ) → IsAt c m n → hop_at after m n ≡ leading b a v
  at_client m n h =
      elim (put_is (put_at c (leading b a v) t.hops) (length t.links) v (leading b a c) m n first_whole in_v) [
        | inl y ↦ absurd (apart_ways c v over m n h y.0)
        | inr y ↦ elim (put_is t.hops (length t.links) c (leading b a v) m n sound.whole in_c) [
          | inl k ↦ y.1 ∙ k.1
          | inr k ↦ absurd (k.0 h)
        ]
      ]

  came : (m n binding : ℕ) (way : HopTarget) → Leads after m n binding way
      → ((IsAt v m n) × (binding ≡ b) × (way ≡ c)) ⊎ (((IsAt c m n) × (binding ≡ b) × (way ≡ v)) ⊎ (Leads t m n binding way))
  came m n binding way h =
      elim (cases_at m n) [
        | inl k ↦ let (x, y) = hop_binding binding b h.answered a way c (sym h.there ∙ k.1) in inl (k.0, x, y)
        | inr k ↦ elim k [
          | inl z ↦ let (x, y) = hop_binding binding b h.answered a way v (sym h.there ∙ z.1) in inr (inl (z.0, x, y))
          | inr z ↦ inr (inr (record { answered = h.answered; there = sym z ∙ h.there }))
        ]
      ]

  stays : (m n binding : ℕ) (way : HopTarget) → Leads t m n binding way → Leads after m n binding way
  stays m n binding way h =
      elim (cases_at m n) [
        | inl k ↦ absurd (none_leads t m n binding way (free_v m n k.0) h)
        | inr k ↦ elim k [
          | inl z ↦ absurd (none_leads t m n binding way (free_c m n z.0) h)
          | inr z ↦ record { answered = h.answered; there = z ∙ h.there }
        ]
      ]

  old : (m n binding : ℕ) (way : HopTarget) → binding ≡ b → Leads t m n binding way → ⊥
  old m n binding way e h = fresh m n way (subst (λ (x : ℕ). Leads t m n x way) e h)

  toward : (l n binding : ℕ) (way : HopTarget) → Leads after l n binding way
      → (OpenedHere after l n × IsClientWay t.core t.links binding way) ⊎ (OpenedThere after l n × IsServerWay t.core t.links binding way)
  toward l n binding way h =
      elim (came l n binding way h) [
        | inl k ↦ inl (
          opened_at t.core t.links b v l n k.0 server,
          subst (λ (x : ℕ). IsClientWay t.core t.links x way) (sym k.1) (subst (IsClientWay t.core t.links b) (sym k.2) client),
        )
        | inr k ↦ elim k [
          | inl z ↦ inr (
            taken_at t.core t.links b c l n z.0 client,
            subst (λ (x : ℕ). IsServerWay t.core t.links x way) (sym z.1) (subst (IsServerWay t.core t.links b) (sym z.2) server),
          )
          | inr z ↦ sound.toward l n binding way z
        ]
      ]

  both : (l m : LinkId) (x y : Circuit) (binding : ℕ) → Leads after l.0 x.0 binding (Link m y) → Leads after m.0 y.0 binding (Link l x)
  both l m x y binding h =
      elim (came l.0 x.0 binding (Link m y) h) [
        | inl k ↦ record { answered = a; there = at_client m.0 y.0 (at_way c m y (sym k.2)) ∙ ap (leading b a) (way_at v l x k.0) ∙ ap (λ (i : ℕ). leading i a (Link l x)) (sym k.1) }
        | inr k ↦ elim k [
          | inl z ↦ record { answered = a; there = at_server m.0 y.0 (at_way v m y (sym z.2)) ∙ ap (leading b a) (way_at c l x z.0) ∙ ap (λ (i : ℕ). leading i a (Link l x)) (sym z.1) }
          | inr z ↦ stays m.0 y.0 binding (Link l x) (sound.both l m x y binding z)
        ]
      ]

  over_after : (l n binding : ℕ) (m : LinkId) (d : Circuit) → Leads after l n binding (Link m d) → l ≢ m.0
  over_after l n binding m d h =
      elim (came l n binding (Link m d) h) [
        | inl k ↦ over_at v c (turned c v over) l n m d k.0 (sym k.2)
        | inr k ↦ elim k [
          | inl z ↦ over_at c v over l n m d z.0 (sym z.2)
          | inr z ↦ sound.over l n binding m d z
        ]
      ]

  one : (l m : LinkId) (x y : Circuit) (binding : ℕ) (p q : HopTarget) → Leads after l.0 x.0 binding p → Leads after m.0 y.0 binding q
      → ((l ≡ m) × (x ≡ y)) ⊎ (p ≡ Link m y)
  one l m x y binding p q g h =
      elim (came l.0 x.0 binding p g) [
        | inl k ↦ elim (came m.0 y.0 binding q h) [
          | inl w ↦ inl (same_at v l m x y k.0 w.0)
          | inr w ↦ elim w [
            | inl z ↦ inr (k.2 ∙ way_at c m y z.0)
            | inr z ↦ absurd (old m.0 y.0 binding q k.1 z)
          ]
        ]
        | inr k ↦ elim k [
          | inl u ↦ elim (came m.0 y.0 binding q h) [
            | inl w ↦ inr (u.2 ∙ way_at v m y w.0)
            | inr w ↦ elim w [
              | inl z ↦ inl (same_at c l m x y u.0 z.0)
              | inr z ↦ absurd (old m.0 y.0 binding q u.1 z)
            ]
          ]
          | inr u ↦ elim (came m.0 y.0 binding q h) [
            | inl w ↦ absurd (old l.0 x.0 binding p w.1 u)
            | inr w ↦ elim w [
              | inl z ↦ absurd (old l.0 x.0 binding p z.1 u)
              | inr z ↦ sound.one l m x y binding p q u z
            ]
          ]
        ]
      ]

  pub entered_sound : Sound (with_entry t b a c v)
  entered_sound = record {
    few = sound.few;
    whole = put_length v (leading b a c) (put_at c (leading b a v) t.hops) ∙ first_whole;
    apart = sound.apart;
    once = sound.once;
    counts = sound.counts;
    toward = toward;
    both = both;
    over = over_after;
    one = one;
  }

-- ---- entries that are among those before

pub among_sound : (t : TheCircuits) (hops : List (Option Hop)) → Sound t → length hops ≡ length t.hops
    → ((l n binding : ℕ) (way : HopTarget) → Leads (with_hops t hops) l n binding way → Leads t l n binding way)
    → ((l m : LinkId) (c d : Circuit) (binding : ℕ) → Leads (with_hops t hops) l.0 c.0 binding (Link m d) → Leads t m.0 d.0 binding (Link l c)
    → Leads (with_hops t hops) m.0 d.0 binding (Link l c)) → Sound (with_hops t hops)
among_sound t hops sound long was still = record {
  few = sound.few;
  whole = long ∙ sound.whole;
  apart = sound.apart;
  once = sound.once;
  counts = sound.counts;
  toward = λ l n binding way h. sound.toward l n binding way (was l n binding way h);
  both = λ l m c d binding h. still l m c d binding h (sound.both l m c d binding (was l.0 c.0 binding (Link m d) h));
  over = λ l n binding m d h. sound.over l n binding m d (was l n binding (Link m d) h);
  one = λ l m c d binding p q g h. sound.one l m c d binding p q (was l.0 c.0 binding p g) (was m.0 d.0 binding q h);
}

-- a number at which an entry stands has a place
module _ (t : TheCircuits) (sound : Sound t) where
  given_of : (l n binding : ℕ) (way : HopTarget) → Leads t l n binding way → IsGiven t.core t.links l n
  given_of l n binding way h = elim (sound.toward l n binding way h) [ inl k ↦ inl k.0 | inr k ↦ inr k.0 ]

  given_range : (l n : ℕ) → IsGiven t.core t.links l n → (l < length t.links) × (n ≤ 2046)
  given_range l n (inl o) =
      let most = sound.counts l o.link o.there in
      (within t.links l o.link o.there, (small t.core o.link.neighbour.0 o.link.opened n most.0 o.among).1)
  given_range l n (inr o) =
      let most = sound.counts l o.link o.there in
      (within t.links l o.link o.there, (small o.link.neighbour.0 t.core o.link.taken n most.1 o.among).1)

  pub leads_range : (l n binding : ℕ) (way : HopTarget) → Leads t l n binding way → (l < length t.links) × (n ≤ 2046)
  leads_range l n binding way h = given_range l n (given_of l n binding way h)

  far_range : (l : LinkId) (c : Circuit) (binding : ℕ) (way : HopTarget) → Leads t l.0 c.0 binding way → InRange (length t.links) way
  far_range l c binding (Link m d) h = leads_range m.0 d.0 binding (Link l c) (sound.both l m c d binding h)
  far_range l c binding (End e) h = tt

module _ (t : TheCircuits) (sound : Sound t) (l : LinkId) (c : Circuit) (hop : Hop) (there : hop_at t l.0 c.0 ≡ Some hop) where
  its : Leads t l.0 c.0 hop.binding hop.way
  its = record { answered = hop.answered; there = there }

  near_in : InRange (length t.links) (Link l c)
  near_in = leads_range t sound l.0 c.0 hop.binding hop.way its

  far_in : InRange (length t.links) hop.way
  far_in = far_range t sound l c hop.binding hop.way its

  -- what stands at the entry's other side leads back
  back_at : (way : HopTarget) (m n : ℕ) → hop.way ≡ way → IsAt way m n → Leads t m n hop.binding (Link l c)
  back_at (Link x y) m n e h =
      subst (λ (i : ℕ). Leads t i n hop.binding (Link l c)) (sym h.0) (subst (λ (i : ℕ). Leads t x.0 i hop.binding (Link l c)) (sym h.1)
      (sound.both l x c y hop.binding (subst (Leads t l.0 c.0 hop.binding) e its)))
  back_at (End e) m n q h = absurd h

  at_near : (m n binding : ℕ) (way : HopTarget) → IsAt (Link l c) m n → Leads t m n binding way → (binding ≡ hop.binding) × (way ≡ hop.way)
  at_near m n binding way h g =
      one_leads t l.0 c.0 binding hop.binding way hop.way
      (subst (λ (i : ℕ). Leads t i c.0 binding way) h.0 (subst (λ (i : ℕ). Leads t m i binding way) h.1 g)) its

  at_far : (m n binding : ℕ) (way : HopTarget) → IsAt hop.way m n → Leads t m n binding way → (binding ≡ hop.binding) × (way ≡ Link l c)
  at_far m n binding way h g = one_leads t m n binding hop.binding way (Link l c) g (back_at hop.way m n refl h)

  -- the entry is answered
  abbrev now : TheCircuits
  now = answered t l c hop

  now_cases : (m n : ℕ) → ((IsAt (Link l c) m n) × (hop_at now m n ≡ leading hop.binding true hop.way))
      ⊎ (((IsAt hop.way m n) × (hop_at now m n ≡ leading hop.binding true (Link l c))) ⊎ (hop_at now m n ≡ hop_at t m n))
  now_cases m n =
      elim (put_is (put_at hop.way (leading hop.binding true (Link l c)) t.hops) (length t.links) (Link l c) (leading hop.binding true hop.way) m n
      (put_length hop.way (leading hop.binding true (Link l c)) t.hops ∙ sound.whole) near_in) [
        | inl h ↦ inl h
        | inr h ↦ elim (put_is t.hops (length t.links) hop.way (leading hop.binding true (Link l c)) m n sound.whole far_in) [
          | inl k ↦ inr (inl (k.0, h.1 ∙ k.1))
          | inr k ↦ inr (inr (h.1 ∙ k.1))
        ]
      ]

  now_was : (m n binding : ℕ) (way : HopTarget) → Leads now m n binding way → Leads t m n binding way
  now_was m n binding way h =
      elim (now_cases m n) [
        | inl k ↦
            let (x, y) = hop_binding binding hop.binding h.answered true way hop.way (sym h.there ∙ k.1) in
            subst (λ (i : ℕ). Leads t i n binding way) (sym k.0.0) (subst (λ (i : ℕ). Leads t l.0 i binding way) (sym k.0.1)
            (subst (λ (i : ℕ). Leads t l.0 c.0 i way) (sym x) (subst (Leads t l.0 c.0 hop.binding) (sym y) its)))
        | inr k ↦ elim k [
          | inl z ↦
              let (x, y) = hop_binding binding hop.binding h.answered true way (Link l c) (sym h.there ∙ z.1) in
              subst (λ (i : ℕ). Leads t m n i way) (sym x) (subst (Leads t m n hop.binding) (sym y) (back_at hop.way m n refl z.0))
          | inr z ↦ record { answered = h.answered; there = sym z ∙ h.there }
        ]
      ]

  was_now : (m n binding : ℕ) (way : HopTarget) → Leads t m n binding way → Leads now m n binding way
  was_now m n binding way h =
      elim (now_cases m n) [
        | inl k ↦
            let (x, y) = at_near m n binding way k.0 h in
            record { answered = true; there = k.1 ∙ ap (leading hop.binding true) (sym y) ∙ ap (λ (i : ℕ). leading i true way) (sym x) }
        | inr k ↦ elim k [
          | inl z ↦
              let (x, y) = at_far m n binding way z.0 h in
              record { answered = true; there = z.1 ∙ ap (leading hop.binding true) (sym y) ∙ ap (λ (i : ℕ). leading i true way) (sym x) }
          | inr z ↦ record { answered = h.answered; there = z ∙ h.there }
        ]
      ]

  pub answered_sound : Sound (answered t l c hop)
  answered_sound =
      among_sound t (put_at (Link l c) (leading hop.binding true hop.way) (put_at hop.way (leading hop.binding true (Link l c)) t.hops)) sound
      (put_length (Link l c) (leading hop.binding true hop.way) (put_at hop.way (leading hop.binding true (Link l c)) t.hops)
      ∙ put_length hop.way (leading hop.binding true (Link l c)) t.hops) now_was (λ x m y d binding g h. was_now m.0 d.0 binding (Link x y) h)

  -- the entry is removed
  abbrev left : TheCircuits
  left = without_entry t (Link l c) hop.way

  left_cases : (m n : ℕ) → (hop_at left m n ≡ None) ⊎ ((hop_at left m n ≡ hop_at t m n) × (IsAt (Link l c) m n → ⊥) × (IsAt hop.way m n → ⊥))
  left_cases m n =
      elim (put_is (put_at (Link l c) None t.hops) (length t.links) hop.way None m n (put_length (Link l c) None t.hops ∙ sound.whole) far_in) [
        | inl h ↦ inl h.1
        | inr h ↦ elim (put_is t.hops (length t.links) (Link l c) None m n sound.whole near_in) [
          | inl k ↦ inl (h.1 ∙ k.1)
          | inr k ↦ inr (h.1 ∙ k.1, k.0, h.0)
        ]
      ]

  left_was : (m n binding : ℕ) (way : HopTarget) → Leads left m n binding way → (Leads t m n binding way) × (IsAt (Link l c) m n → ⊥) × (IsAt hop.way m n → ⊥)
  left_was m n binding way h =
      elim (left_cases m n) [
        | inl k ↦ absurd (none_leads left m n binding way k h)
        | inr k ↦ (record { answered = h.answered; there = sym k.0 ∙ h.there }, k.1, k.2)
      ]

  left_still : (x m : LinkId) (y d : Circuit) (binding : ℕ) → Leads left x.0 y.0 binding (Link m d) → Leads t m.0 d.0 binding (Link x y)
      → Leads left m.0 d.0 binding (Link x y)
  left_still x m y d binding g h =
      let before = left_was x.0 y.0 binding (Link m d) g in
      elim (put_is (put_at (Link l c) None t.hops) (length t.links) hop.way None m.0 d.0 (put_length (Link l c) None t.hops ∙ sound.whole) far_in) [
        | inl k ↦ absurd (before.1 (at_way (Link l c) x y (sym (at_far m.0 d.0 binding (Link x y) k.0 h).1)))
        | inr k ↦ elim (put_is t.hops (length t.links) (Link l c) None m.0 d.0 sound.whole near_in) [
          | inl z ↦ absurd (before.2 (at_way hop.way x y (sym (at_near m.0 d.0 binding (Link x y) z.0 h).1)))
          | inr z ↦ record { answered = h.answered; there = k.1 ∙ z.1 ∙ h.there }
        ]
      ]

  pub removed_sound : Sound (without_entry t (Link l c) hop.way)
  removed_sound =
      among_sound t (put_at hop.way None (put_at (Link l c) None t.hops)) sound
      (put_length hop.way None (put_at (Link l c) None t.hops) ∙ put_length (Link l c) None t.hops)
      (λ m n binding way h. (left_was m n binding way h).0) left_still

-- ---- counts that rise

set_was : (links : List LinkState) (l : ℕ) (a b : LinkState) → slice_get links l ≡ Some a → b.neighbour ≡ a.neighbour → (i : ℕ) (x : LinkState)
    → slice_get (slice_set links l b) i ≡ Some x → (z : LinkState) × (slice_get links i ≡ Some z) × (z.neighbour ≡ x.neighbour)
set_was links l a b there same i x h =
    elim (set_cases links l b i x h) [
      | inl k ↦ (a, ap (slice_get links) k.0 ∙ there, sym same ∙ ap (λ (y : LinkState). y.neighbour) (sym k.1))
      | inr k ↦ (x, k.1, refl)
    ]

pub counted_sound : (t : TheCircuits) (l : ℕ) (a b : LinkState) → Sound t → slice_get t.links l ≡ Some a → b.neighbour ≡ a.neighbour → a.opened ≤ b.opened
    → a.taken ≤ b.taken → (b.opened ≤ 1023) × (b.taken ≤ 1023) → Sound (with_links t (slice_set t.links l b))
counted_sound t l a b sound there same more_opened more_taken most =
    let more : List LinkState = slice_set t.links l b in
    let grown : Grown t.links more = grown_set t.links l a b there same more_opened more_taken in
    record {
      few = subst (λ (n : ℕ). n ≤ most_links) (sym (length-set t.links l b)) sound.few;
      whole = sound.whole ∙ ap (λ (n : ℕ). numbers * n) (sym (length-set t.links l b));
      apart = λ i x h.
          let (z, at, is) = set_was t.links l a b there same i x h in
          subst (λ (n : CoreId). n.0 ≢ t.core) is (sound.apart i z at);
      once = λ i j x y g h e.
          let (z, at, is) = set_was t.links l a b there same i x g in
          let (w, also, its) = set_was t.links l a b there same j y h in
          sound.once i j z w at also (ap (λ (n : CoreId). n.0) is ∙ e ∙ ap (λ (n : CoreId). n.0) (sym its));
      counts = λ i x h. elim (set_cases t.links l b i x h) [
        | inl k ↦ subst (λ (y : LinkState). (y.opened ≤ 1023) × (y.taken ≤ 1023)) (sym k.1) most
        | inr k ↦ sound.counts i x k.1
      ];
      toward = λ i n binding way h. elim (sound.toward i n binding way (record { answered = h.answered; there = h.there })) [
        | inl k ↦ inl (opened_stays t.core t.links more grown i n k.0, client_stays t.core t.links more grown binding way k.1)
        | inr k ↦ inr (taken_stays t.core t.links more grown i n k.0, server_stays t.core t.links more grown binding way k.1)
      ];
      both = λ i m x d binding h.
          let back = sound.both i m x d binding (record { answered = h.answered; there = h.there }) in
          record { answered = back.answered; there = back.there };
      over = λ i n binding m d h. sound.over i n binding m d (record { answered = h.answered; there = h.there });
      one = λ i m x d binding p q g h.
          sound.one i m x d binding p q (record { answered = g.answered; there = g.there }) (record { answered = h.answered; there = h.there });
    }

-- ---- openings

abbrev pub Fresh : TheCircuits → ℕ → Type 0
Fresh t binding = (l n : ℕ) (way : HopTarget) → Leads t l n binding way → ⊥

module _ (t : TheCircuits) (sound : Sound t) where
  pub opening_counted : (l n : ℕ) → Next t.core t.links l n → Sound (after_opening t l)
  opening_counted l n x =
      let a : LinkState = x.link in
      let counts = sound.counts l a x.there in
      let most : a.taken ≤ 1023 = counts.1 in
      let few : a.opened ≤ 1022 = x.few in
      subst (λ (links : List LinkState). Sound (with_links t links)) (sym (counted_opening t.core t.links l n x))
      (counted_sound t l a (with_opening a) sound x.there refl (omega arith) (omega arith) (omega arith, omega arith))

  pub taking_counted : (l n : ℕ) → Due t.core t.links l n → Sound (after_taking t l)
  taking_counted l n x =
      let a : LinkState = x.link in
      let counts = sound.counts l a x.there in
      let most : a.opened ≤ 1023 = counts.0 in
      let few : a.taken ≤ 1022 = x.few in
      subst (λ (links : List LinkState). Sound (with_links t links)) (sym (counted_taking t.core t.links l n x))
      (counted_sound t l a (with_taking a) sound x.there refl (omega arith) (omega arith) (omega arith, omega arith))

  opened_now : (l n : ℕ) → Next t.core t.links l n → IsOpened t.core (count_opening t.links l) l n
  opened_now l n x =
      subst (λ (links : List LinkState). IsOpened t.core links l n) (sym (counted_opening t.core t.links l n x))
      (record { link = with_opening x.link; there = set_here t.links l x.link (with_opening x.link) x.there; among = (x.link.opened, omega arith, sym x.is) })

  taken_now : (l n : ℕ) → Due t.core t.links l n → IsTaken t.core (count_taking t.links l) l n
  taken_now l n x =
      subst (λ (links : List LinkState). IsTaken t.core links l n) (sym (counted_taking t.core t.links l n x))
      (record { link = with_taking x.link; there = set_here t.links l x.link (with_taking x.link) x.there; among = (x.link.taken, omega arith, sym x.is) })

  grown_opening : (l n : ℕ) → Next t.core t.links l n → Grown t.links (count_opening t.links l)
  grown_opening l n x =
      subst (λ (links : List LinkState). Grown t.links links) (sym (counted_opening t.core t.links l n x))
      (grown_set t.links l x.link (with_opening x.link) x.there refl (omega arith) (omega arith))

  some_hop : (l n : ℕ) (hop : Hop) → hop_at t l n ≡ Some hop → IsGiven t.core t.links l n
  some_hop l n hop h = given_of t sound l n hop.binding hop.way (record { answered = hop.answered; there = h })

  none_by : (o : Option Hop) (l n : ℕ) → hop_at t l n ≡ o → (IsGiven t.core t.links l n → ⊥) → hop_at t l n ≡ None
  none_by None l n e new = e
  none_by (Some hop) l n e new = absurd (new (some_hop l n hop e))

  -- nothing stands at a number that nobody gave
  no_hop : (l n : ℕ) → (IsGiven t.core t.links l n → ⊥) → hop_at t l n ≡ None
  no_hop l n new = none_by (hop_at t l n) l n refl new

  free_at : (l : LinkId) (c : Circuit) → (IsGiven t.core t.links l.0 c.0 → ⊥) → (m n : ℕ) → IsAt (Link l c) m n → hop_at t m n ≡ None
  free_at l c new m n h = ap (λ (i : ℕ). hop_at t i n) h.0 ∙ ap (hop_at t l.0) h.1 ∙ no_hop l.0 c.0 new

  same_length : (links : List LinkState) (l : ℕ) (b : LinkState) → length (slice_set links l b) ≡ length links
  same_length links l b = length-set links l b

  next_range : (links : List LinkState) (l : LinkId) (c : Circuit) → length links ≡ length t.links → Next t.core t.links l.0 c.0 → InRange (length links) (Link l c)
  next_range links l c long x =
      let few : x.link.opened ≤ 1022 = x.few in
      let below : l.0 < length t.links = within t.links l.0 x.link x.there in
      (omega (arith, long, below), (small t.core x.link.neighbour.0 (x.link.opened + 1) c.0 (omega arith) (x.link.opened, omega arith, sym x.is)).1)

  due_range : (links : List LinkState) (l : LinkId) (c : Circuit) → length links ≡ length t.links → Due t.core t.links l.0 c.0 → InRange (length links) (Link l c)
  due_range links l c long x =
      let few : x.link.taken ≤ 1022 = x.few in
      let below : l.0 < length t.links = within t.links l.0 x.link x.there in
      (omega (arith, long, below), (small x.link.neighbour.0 t.core (x.link.taken + 1) c.0 (omega arith) (x.link.taken, omega arith, sym x.is)).1)

  opening_length : (l n : ℕ) → Next t.core t.links l n → length (count_opening t.links l) ≡ length t.links
  opening_length l n x = ap (λ (ls : List LinkState). length ls) (counted_opening t.core t.links l n x) ∙ length-set t.links l (with_opening x.link)

  taking_length : (l n : ℕ) → Due t.core t.links l n → length (count_taking t.links l) ≡ length t.links
  taking_length l n x = ap (λ (ls : List LinkState). length ls) (counted_taking t.core t.links l n x) ∙ length-set t.links l (with_taking x.link)

  moved_leads : (links : List LinkState) (l n binding : ℕ) (way : HopTarget) → Leads (with_links t links) l n binding way → Leads t l n binding way
  moved_leads links l n binding way h = record { answered = h.answered; there = h.there }

  pub opened_sound : (l : LinkId) (c : Circuit) (binding : ℕ) → Next t.core t.links l.0 c.0 → Fresh t binding → Sound (opened t l c binding)
  opened_sound l c binding x fresh =
      entered_sound (after_opening t l.0) (opening_counted l.0 c.0 x) binding false (End (record { binding = binding; side = Client })) (Link l c) tt
      (next_range (count_opening t.links l.0) l c (opening_length l.0 c.0 x) x) (λ m n h. absurd h)
      (free_at l c (never_next t.core t.links sound.apart l.0 c.0 x)) tt refl (opened_now l.0 c.0 x)
      (λ m n way h. fresh m n way (moved_leads (count_opening t.links l.0) m n binding way h))

  pub arrived_sound : (l : LinkId) (c : Circuit) (binding : ℕ) → Due t.core t.links l.0 c.0 → Fresh t binding → Sound (arrived t l c binding)
  arrived_sound l c binding x fresh =
      entered_sound (after_taking t l.0) (taking_counted l.0 c.0 x) binding false (Link l c) (End (record { binding = binding; side = Server }))
      (due_range (count_taking t.links l.0) l c (taking_length l.0 c.0 x) x) tt (free_at l c (never_due t.core t.links sound.apart l.0 c.0 x))
      (λ m n h. absurd h) tt (taken_now l.0 c.0 x) refl
      (λ m n way h. fresh m n way (moved_leads (count_taking t.links l.0) m n binding way h))

pub passed_sound : (t : TheCircuits) → Sound t → (l m : LinkId) (c d : Circuit) (binding : ℕ) → Due t.core t.links l.0 c.0 → Next t.core t.links m.0 d.0
    → l.0 ≢ m.0 → Fresh t binding → Sound (passed_on t l c m d binding)
passed_sound t sound l m c d binding x y apart fresh =
    let u : TheCircuits = after_taking t l.0 in
    let u_sound : Sound u = taking_counted t sound l.0 c.0 x in
    let z : Next t.core u.links m.0 d.0 = next_stays t.core t.links l.0 c.0 m.0 d.0 x apart y in
    let w_sound : Sound (after_opening u m.0) = opening_counted u u_sound m.0 d.0 z in
    let first : length u.links ≡ length t.links = taking_length t sound l.0 c.0 x in
    let long : length (count_opening u.links m.0) ≡ length t.links = opening_length u u_sound m.0 d.0 z ∙ first in
    entered_sound (after_opening u m.0) w_sound binding false (Link l c) (Link m d)
    (due_range t sound (count_opening u.links m.0) l c long x)
    (next_range t sound (count_opening u.links m.0) m d long y)
    (free_at t sound l c (never_due t.core t.links sound.apart l.0 c.0 x)) (free_at t sound m d (never_next t.core t.links sound.apart m.0 d.0 y)) apart
    (taken_stays t.core u.links (count_opening u.links m.0) (grown_opening u u_sound m.0 d.0 z) l.0 c.0 (taken_now t sound l.0 c.0 x))
    (opened_now u u_sound m.0 d.0 z)
    (λ i n way h. fresh i n way (record { answered = h.answered; there = h.there }))

-- ---- one more link

default_filled : (hops : List (Option Hop)) (i n : ℕ) → slice_index_or (hops ++ replicate n None) i None ≡ slice_index_or hops i None
default_filled [] i zero = refl
default_filled [] zero (suc n) = refl
default_filled [] (suc i) (suc n) = default_filled [] i n
default_filled (x ∷ hops) zero n = refl
default_filled (x ∷ hops) (suc i) n = default_filled hops i n

abbrev no_hops : List (Option Hop)
no_hops = replicate numbers None

no_hops_long : length no_hops ≡ 2047
no_hops_long = length-replicate {A = Option Hop} numbers None

pub linked_sound : (t : TheCircuits) (to : CoreId) → Sound t → length t.links < 15 → to.0 ≢ t.core
    → ((l : ℕ) (a : LinkState) → slice_get t.links l ≡ Some a → a.neighbour.0 ≢ to.0) → Sound (with_link t to)
linked_sound t to sound few self other =
    let fresh : LinkState = record { neighbour = to; opened = 0; taken = 0 } in
    let more : List LinkState = t.links ++ fresh ∷ [] in
    let long : length more ≡ length t.links + 1 = length-append t.links (fresh ∷ []) in
    let grown : Grown t.links more = grown_push t.links fresh in
    let hops : length (t.hops ++ no_hops) ≡ length t.hops + length no_hops = length-append t.hops no_hops in
    let filled : length no_hops ≡ 2047 = no_hops_long in
    let whole : length t.hops ≡ 2047 * length t.links = sound.whole in
    record {
      few = omega (arith, long, few);
      whole = omega (arith, long, hops, filled, whole);
      apart = λ l a h. elim (push_cases t.links fresh l a h) [
        | inl k ↦ sound.apart l a k
        | inr k ↦ subst (λ (b : LinkState). b.neighbour.0 ≢ t.core) (sym k.1) self
      ];
      once = λ l m a b g h e. elim (push_cases t.links fresh l a g) [
        | inl k ↦ elim (push_cases t.links fresh m b h) [
          | inl w ↦ sound.once l m a b k w e
          | inr w ↦ absurd (other l a k (e ∙ ap (λ (x : LinkState). x.neighbour.0) w.1))
        ]
        | inr k ↦ elim (push_cases t.links fresh m b h) [
          | inl w ↦ absurd (other m b w (sym e ∙ ap (λ (x : LinkState). x.neighbour.0) k.1))
          | inr w ↦ k.0 ∙ sym w.0
        ]
      ];
      counts = λ l a h. elim (push_cases t.links fresh l a h) [
        | inl k ↦ sound.counts l a k
        | inr k ↦ subst (λ (b : LinkState). (b.opened ≤ 1023) × (b.taken ≤ 1023)) (sym k.1) (omega arith, omega arith)
      ];
      toward = λ l n binding way h. elim (sound.toward l n binding way (was l n binding way h)) [
        | inl k ↦ inl (opened_stays t.core t.links more grown l n k.0, client_stays t.core t.links more grown binding way k.1)
        | inr k ↦ inr (taken_stays t.core t.links more grown l n k.0, server_stays t.core t.links more grown binding way k.1)
      ];
      both = λ l m c d binding h.
          let back = sound.both l m c d binding (was l.0 c.0 binding (Link m d) h) in
          record { answered = back.answered; there = same m.0 d.0 ∙ back.there };
      over = λ l n binding m d h. sound.over l n binding m d (was l n binding (Link m d) h);
      one = λ l m c d binding p q g h. sound.one l m c d binding p q (was l.0 c.0 binding p g) (was m.0 d.0 binding q h);
    }
  where
    same : (l n : ℕ) → hop_at (with_link t to) l n ≡ hop_at t l n
    same l n = ap (λ (o : Option Hop). if nat_lt n numbers then o else None) (default_filled t.hops (slot l n) numbers)

    was : (l n binding : ℕ) (way : HopTarget) → Leads (with_link t to) l n binding way → Leads t l n binding way
    was l n binding way h = record { answered = h.answered; there = sym (same l n) ∙ h.there }
