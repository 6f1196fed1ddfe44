-- A board on which one core's table or links changed, or the head of a ring's messages was taken.
use Rattle.std.proofs.Common.{◌≡◌, refl, sym, ◌∙◌, ap, subst, ℕ, ◌⊎◌, inl, inr}
use Rattle.std.proofs.Common.{List, slice_get, Option, Some, None, option_map}
use Rattle.fl_base.specs.Given.{given}
use Rattle.fl_hop.specs.declared.entry.Hop.{Hop}
use Rattle.fl_hop.specs.Table.{TheCircuits, hop_at, link_of}
use Rattle.fl_hop.proofs.Entering.{same_or}
use Rattle.fl_model.specs.Given.{changed_at}
use Rattle.fl_model.specs.Monitors.{Link}
use Rattle.fl_model.specs.SoundEntries.{Key}
use Rattle.fl_model_laws.proofs.Views.{Part}
use Rattle.fl_model_laws.proofs.Places.{changed_other, changed_same}
use Rattle.fl_model_laws.proofs.PlacesStep.{given_some}
use Rattle.fl_model_laws.proofs.LinkSides.{names}
use Rattle.fl_model_laws.proofs.TableSteps.{same_link_of, one_neighbour}
use Rattle.fl_model_laws.proofs.Boards.{pair_or}
use Rattle.fl_model_laws.proofs.BoardViews.{part_hop, part_line, hop_in, place_in, line}

-- ---- one core's part is another

abbrev pub set_part : ℕ → Part → List Part → List Part
set_part n q ps = changed_at n (λ p. q) ps

pub part_other : (ps : List Part) (n m : ℕ) (q : Part) → (m ≡ n → ⊥) → slice_get (set_part n q ps) m ≡ slice_get ps m
part_other ps n m q away = changed_other ps n m (λ p. q) away

pub part_same : (ps : List Part) (n : ℕ) (p q : Part) → slice_get ps n ≡ Some p → slice_get (set_part n q ps) n ≡ Some q
part_same ps n p q at = changed_same ps n (λ p. q) ∙ ap (option_map (λ (p : Part). q)) at

pub hop_else : (ps : List Part) (n : ℕ) (q : Part) (key : Key) → (key.core ≡ n → ⊥) → hop_in (set_part n q ps) key ≡ hop_in ps key
hop_else ps n q key away = ap (λ o. given o None (part_hop key.neighbour key.number)) (part_other ps n key.core q away)

-- a key of the core that changed
abbrev pub own_key : ℕ → ℕ → ℕ → Key
own_key n neighbour number = record { core = n; neighbour = neighbour; number = number }

pub hop_here : (ps : List Part) (n neighbour number : ℕ) (p q : Part) → slice_get ps n ≡ Some p → hop_in (set_part n q ps) (own_key n neighbour number) ≡ part_hop neighbour number q
hop_here ps n neighbour number p q at = ap (λ o. given o None (part_hop neighbour number)) (part_same ps n p q at)

pub hop_there : (ps : List Part) (n neighbour number : ℕ) (p : Part) → slice_get ps n ≡ Some p → hop_in ps (own_key n neighbour number) ≡ part_hop neighbour number p
hop_there ps n neighbour number p at = ap (λ o. given o None (part_hop neighbour number)) at

pub place_stays : (ps : List Part) (n : ℕ) (p q : Part) → slice_get ps n ≡ Some p → names q.circuits.links ≡ names p.circuits.links
    → (core neighbour : ℕ) → place_in (set_part n q ps) core neighbour ≡ place_in ps core neighbour
place_stays ps n p q at e core neighbour = elim (same_or core n) [
  | inr away ↦ ap (λ o. given o None (λ (x : Part). link_of x.circuits neighbour)) (part_other ps n core q away)
  | inl same ↦ subst (λ (m : ℕ). place_in (set_part n q ps) m neighbour ≡ place_in ps m neighbour) (sym same)
      (ap (λ o. given o None (λ (x : Part). link_of x.circuits neighbour)) (part_same ps n p q at) ∙ same_link_of p.circuits q.circuits neighbour e
      ∙ sym (ap (λ o. given o None (λ (x : Part). link_of x.circuits neighbour)) at))
]

-- ---- a table on which only one binding's numbers changed

pub record NewTable (t u : TheCircuits) (n : ℕ) : Type 0 where
  pub names : names u.links ≡ names t.links
  pub kept : (l m : ℕ) (h : Hop) → hop_at t l m ≡ Some h → (h.binding ≡ n → ⊥) → hop_at u l m ≡ Some h
  pub were : (l m : ℕ) (h : Hop) → hop_at u l m ≡ Some h → (h.binding ≡ n → ⊥) → hop_at t l m ≡ Some h

part_kept : (p q : Part) (neighbour number : ℕ) (h : Hop) → names q.circuits.links ≡ names p.circuits.links
    → ((l : ℕ) → hop_at p.circuits l number ≡ Some h → hop_at q.circuits l number ≡ Some h) → part_hop neighbour number p ≡ Some h → part_hop neighbour number q ≡ Some h
part_kept p q neighbour number h e k s =
    let (l, to, there) = given_some (link_of p.circuits neighbour) (λ l. hop_at p.circuits l number) h s in
    ap (λ o. given o None (λ l. hop_at q.circuits l number)) (same_link_of p.circuits q.circuits neighbour e ∙ to) ∙ k l there

module _ (ps : List Part) (core n : ℕ) (p q : Part) (at : slice_get ps core ≡ Some p) (h : NewTable p.circuits q.circuits n) where
  pub set_kept : (key : Key) (hop : Hop) → hop_in ps key ≡ Some hop → (hop.binding ≡ n → ⊥) → hop_in (set_part core q ps) key ≡ Some hop
  set_kept key hop s away = elim (same_or key.core core) [
    | inr other ↦ hop_else ps core q key other ∙ s
    | inl same ↦ subst (λ (m : ℕ). hop_in (set_part core q ps) (own_key m key.neighbour key.number) ≡ Some hop) (sym same)
        (hop_here ps core key.neighbour key.number p q at ∙ part_kept p q key.neighbour key.number hop h.names (λ l r. h.kept l key.number hop r away)
        (sym (hop_there ps core key.neighbour key.number p at) ∙ subst (λ (m : ℕ). hop_in ps (own_key m key.neighbour key.number) ≡ Some hop) same s))
  ]

  pub set_were : (key : Key) (hop : Hop) → hop_in (set_part core q ps) key ≡ Some hop → (hop.binding ≡ n → ⊥) → hop_in ps key ≡ Some hop
  set_were key hop s away = elim (same_or key.core core) [
    | inr other ↦ sym (hop_else ps core q key other) ∙ s
    | inl same ↦ subst (λ (m : ℕ). hop_in ps (own_key m key.neighbour key.number) ≡ Some hop) (sym same)
        (hop_there ps core key.neighbour key.number p at ∙ part_kept q p key.neighbour key.number hop (sym h.names) (λ l r. h.were l key.number hop r away)
        (sym (hop_here ps core key.neighbour key.number p q at) ∙ subst (λ (m : ℕ). hop_in (set_part core q ps) (own_key m key.neighbour key.number) ≡ Some hop) same s))
  ]

-- a table on which nothing changed but counts
pub same_hops : (ps : List Part) (core : ℕ) (p q : Part) → slice_get ps core ≡ Some p → names q.circuits.links ≡ names p.circuits.links
    → ((l m : ℕ) → hop_at q.circuits l m ≡ hop_at p.circuits l m) → (key : Key) → hop_in (set_part core q ps) key ≡ hop_in ps key
same_hops ps core p q at e h key = elim (same_or key.core core) [
  | inr other ↦ hop_else ps core q key other
  | inl same ↦ subst (λ (m : ℕ). hop_in (set_part core q ps) (own_key m key.neighbour key.number) ≡ hop_in ps (own_key m key.neighbour key.number)) (sym same)
      (hop_here ps core key.neighbour key.number p q at ∙ ap (λ o. given o None (λ l. hop_at q.circuits l key.number)) (same_link_of p.circuits q.circuits key.neighbour e)
      ∙ by (link_of p.circuits key.neighbour) ∙ sym (hop_there ps core key.neighbour key.number p at))
]
  where
    by : (o : Option ℕ) → given o None (λ l. hop_at q.circuits l key.number) ≡ given o None (λ l. hop_at p.circuits l key.number)
    by None = refl
    by (Some l) = h l key.number

-- what stands at a core's number after the change
pub set_at : (ps : List Part) (core neighbour number l : ℕ) (p q : Part) (o : Option Hop) → slice_get ps core ≡ Some p → names q.circuits.links ≡ names p.circuits.links
    → link_of p.circuits neighbour ≡ Some l → hop_at q.circuits l number ≡ o → hop_in (set_part core q ps) (own_key core neighbour number) ≡ o
set_at ps core neighbour number l p q o at e to is =
    hop_here ps core neighbour number p q at ∙ ap (λ x. given x None (λ k. hop_at q.circuits k number)) (same_link_of p.circuits q.circuits neighbour e ∙ to) ∙ is

pub was_at : (ps : List Part) (core neighbour number l : ℕ) (p : Part) (o : Option Hop) → slice_get ps core ≡ Some p → link_of p.circuits neighbour ≡ Some l
    → hop_in ps (own_key core neighbour number) ≡ o → hop_at p.circuits l number ≡ o
was_at ps core neighbour number l p o at to is =
    sym (hop_there ps core neighbour number p at ∙ ap (λ x. given x None (λ k. hop_at p.circuits k number)) to) ∙ is

-- an entry that came to the core: where it stands in the table
pub record CameAt (core : ℕ) (p q : Part) (key : Key) (hop : Hop) : Type 0 where
  pub link : ℕ
  pub link_is : link_of p.circuits key.neighbour ≡ Some link
  pub there : hop_at q.circuits link key.number ≡ Some hop
  pub core_is : key.core ≡ core

pub came_at : (ps : List Part) (core : ℕ) (p q : Part) → slice_get ps core ≡ Some p → names q.circuits.links ≡ names p.circuits.links → (key : Key) (hop : Hop)
    → hop_in (set_part core q ps) key ≡ Some hop → (hop_in ps key ≡ Some hop) ⊎ CameAt core p q key hop
came_at ps core p q at e key hop s = elim (same_or key.core core) [
  | inr other ↦ inl (sym (hop_else ps core q key other) ∙ s)
  | inl same ↦
      (let there : part_hop key.neighbour key.number q ≡ Some hop = sym (hop_here ps core key.neighbour key.number p q at)
      ∙ subst (λ (m : ℕ). hop_in (set_part core q ps) (own_key m key.neighbour key.number) ≡ Some hop) same s in
      let (l, to, is) = given_some (link_of q.circuits key.neighbour) (λ l. hop_at q.circuits l key.number) hop there in
      inr (record { link = l; link_is = sym (same_link_of p.circuits q.circuits key.neighbour e) ∙ to; there = is; core_is = same }))
]

pub was_there : (ps : List Part) (core : ℕ) (p : Part) (key : Key) (hop : Hop) (l : ℕ) → slice_get ps core ≡ Some p → key.core ≡ core → link_of p.circuits key.neighbour ≡ Some l
    → hop_at p.circuits l key.number ≡ Some hop → hop_in ps key ≡ Some hop
was_there ps core p key hop l at same to is =
    subst (λ (m : ℕ). hop_in ps (own_key m key.neighbour key.number) ≡ Some hop) (sym same)
    (hop_there ps core key.neighbour key.number p at ∙ ap (λ x. given x None (λ k. hop_at p.circuits k key.number)) to ∙ is)

-- two keys of a core at one link and one number are one
pub same_key : (core l : ℕ) (p : Part) (key : Key) (neighbour number : ℕ) → key.core ≡ core → link_of p.circuits key.neighbour ≡ Some l → link_of p.circuits neighbour ≡ Some l
    → key.number ≡ number → key ≡ own_key core neighbour number
same_key core l p key neighbour number c a b n =
    let e : key.neighbour ≡ neighbour = one_neighbour p.circuits key.neighbour neighbour l a b in
    ap (λ (x : ℕ). own_key x key.neighbour key.number) c ∙ ap (λ (x : ℕ). own_key core x key.number) e ∙ ap (λ (x : ℕ). own_key core neighbour x) n

-- ---- lines

pub line_other : (ps : List Part) (n a b : ℕ) (q : Part) → (a ≡ n → ⊥) → line (set_part n q ps) a b ≡ line ps a b
line_other ps n a b q away = ap (λ o. given o None (part_line b)) (part_other ps n a q away)

pub line_stays : (ps : List Part) (n : ℕ) (p q : Part) → slice_get ps n ≡ Some p → names q.circuits.links ≡ names p.circuits.links → q.links ≡ p.links
    → (a b : ℕ) → line (set_part n q ps) a b ≡ line ps a b
line_stays ps n p q at e f a b = elim (same_or a n) [
  | inr other ↦ line_other ps n a b q other
  | inl same ↦ subst (λ (m : ℕ). line (set_part n q ps) m b ≡ line ps m b) (sym same)
      (ap (λ o. given o None (part_line b)) (part_same ps n p q at) ∙ ap (λ o. given o None (slice_get q.links)) (same_link_of p.circuits q.circuits b e)
      ∙ ap (λ (ls : List Link). given (link_of p.circuits b) None (slice_get ls)) f ∙ sym (ap (λ o. given o None (part_line b)) at))
]

-- where links change at one place, the line to the neighbour there changes
pub record NewLinks (p q : Part) (next l : ℕ) (f : Link → Link) : Type 0 where
  pub names : names q.circuits.links ≡ names p.circuits.links
  pub next_is : link_of p.circuits next ≡ Some l
  pub links : q.links ≡ changed_at l f p.links

module _ (ps : List Part) (n : ℕ) (p q : Part) (next l : ℕ) (f : Link → Link) (at : slice_get ps n ≡ Some p) (h : NewLinks p q next l f) where
  line_set : (b : ℕ) → line (set_part n q ps) n b ≡ given (link_of p.circuits b) None (slice_get (changed_at l f p.links))
  line_set b =
      ap (λ o. given o None (part_line b)) (part_same ps n p q at) ∙ ap (λ o. given o None (slice_get q.links)) (same_link_of p.circuits q.circuits b h.names)
      ∙ ap (λ (ls : List Link). given (link_of p.circuits b) None (slice_get ls)) h.links

  line_was : (b : ℕ) → line ps n b ≡ given (link_of p.circuits b) None (slice_get p.links)
  line_was b = ap (λ o. given o None (part_line b)) at

  pub line_next : line (set_part n q ps) n next ≡ option_map f (line ps n next)
  line_next =
      line_set next ∙ ap (λ o. given o None (slice_get (changed_at l f p.links))) h.next_is ∙ changed_same p.links l f
      ∙ ap (option_map f) (sym (line_was next ∙ ap (λ o. given o None (slice_get p.links)) h.next_is))

  pub line_else : (a b : ℕ) → ((a ≡ n) × (b ≡ next) → ⊥) → line (set_part n q ps) a b ≡ line ps a b
  line_else a b away = elim (same_or a n) [
    | inr other ↦ line_other ps n a b q other
    | inl same ↦ subst (λ (m : ℕ). line (set_part n q ps) m b ≡ line ps m b) (sym same) (line_set b ∙ by (link_of p.circuits b) refl same ∙ sym (line_was b))
  ]
    where
      by : (o : Option ℕ) → link_of p.circuits b ≡ o → a ≡ n → given o None (slice_get (changed_at l f p.links)) ≡ given o None (slice_get p.links)
      by None e same = refl
      by (Some m) e same =
          changed_other p.links l m f (λ (i : m ≡ l). away (same, one_neighbour p.circuits b next l (e ∙ ap (λ (x : ℕ). Some x) i) h.next_is))

  -- and a change that leaves its side of the ring leaves each line's
  pub line_ring : ((x : Link) → (f x).ring ≡ x.ring) → (a b : ℕ) (x : Link) → line (set_part n q ps) a b ≡ Some x
      → (y : Link) × (line ps a b ≡ Some y) × (x.ring ≡ y.ring)
  line_ring same a b x e = elim (pair_or a b n next) [
    | inr away ↦ (x, sym (line_else a b away) ∙ e, refl)
    | inl (i, j) ↦
        (let (y, k, m) = by (line ps n next) refl (sym line_next ∙ subst (λ (u : ℕ). line (set_part n q ps) n u ≡ Some x) j (subst (λ (u : ℕ). line (set_part n q ps) u b ≡ Some x) i e)) in
        (y, subst (λ (u : ℕ). line ps u b ≡ Some y) (sym i) (subst (λ (u : ℕ). line ps n u ≡ Some y) (sym j) k), m))
  ]
    where
      by : (o : Option Link) → line ps n next ≡ o → option_map f o ≡ Some x → (y : Link) × (line ps n next ≡ Some y) × (x.ring ≡ y.ring)
      by None k m = absurd (cc)
      by (Some y) k m = (y, k, (let g : f y ≡ x = cc in ap (λ (z : Link). z.ring) (sym g) ∙ same y))
