-- What a core's table says of each number after two were changed, as each entry's two sides are.
use Rattle.std.proofs.Common.{◌≡◌, refl, sym, ◌∙◌, ap, ℕ, ◌+◌, ◌<◌, ◌≤◌, Bool, true, false, cond, nat_lt, ◌⊎◌, inl, inr}
use Rattle.std.proofs.Common.{List, [], ◌∷◌, length, slice_get, slice_index_or, Option, Some, None, length-set, arith}
use Rattle.std.specs.Prelude.{not, ◌==◌}
use Rattle.std.specs.List.{position_or_len}
use Rattle.std.proofs.lemmas.Bool.{eqb-true}
use Rattle.std.proofs.lemmas.List.{length-map}
use Rattle.std.proofs.lemmas.List.Quantifiers.{position-Some}
use Rattle.fl_base.specs.declared.identity.LinkId.{LinkId}
use Rattle.fl_base.specs.declared.identity.Circuit.{Circuit}
use Rattle.fl_hop.specs.declared.entry.HopTarget.{HopTarget}
use Rattle.fl_hop.specs.declared.entry.HopTarget.TheVariants.{Link, End}
use Rattle.fl_hop.specs.declared.entry.Hop.{Hop}
use Rattle.fl_hop.specs.declared.links.LinkState.{LinkState}
use Rattle.fl_hop.specs.Table.{TheCircuits, hop_at, slot, with_hops, put_at, leading, link_of}
use Rattle.fl_hop.proofs.Cells.{slot_once, is_less, less_is, cond_true}
use Rattle.fl_hop.proofs.Entering.{IsSlot}
use Rattle.fl_hop.proofs.Lists.{set_cases, set_here, at_within, index_found, index_there}
use Rattle.fl_hop.proofs.Laters.{put_other}
use Rattle.fl_model_laws.proofs.LinkSides.{names, is_to, no_state}

-- ---- where an entry stands

cond_some : (b : Bool) (o : Option Hop) (h : Hop) → cond b o None ≡ Some h → (b ≡ true) × (o ≡ Some h)
cond_some true o h e = (refl, e)
cond_some false o h e = absurd (cc)

some_none : (h : Hop) → Some h ≡ None → ⊥
some_none h e = absurd (cc)

pub stands_there : (t : TheCircuits) (l n : ℕ) (h : Hop) → hop_at t l n ≡ Some h → (n ≤ 2046) × (slice_get t.hops (slot l n) ≡ Some (Some h))
stands_there t l n h e =
    let (b, v) = cond_some (nat_lt n 2047) (slice_index_or t.hops (slot l n) None) h e in
    let small = is_less n 2047 b in
    (omega arith, index_found t.hops (slot l n) None (Some h) v (some_none h))

pub there_stands : (t : TheCircuits) (l n : ℕ) (o : Option Hop) → n ≤ 2046 → slice_get t.hops (slot l n) ≡ Some o → hop_at t l n ≡ o
there_stands t l n o small e =
    cond_true (nat_lt n 2047) (slice_index_or t.hops (slot l n) None) None (less_is n 2047 (omega arith)) ∙ index_there t.hops (slot l n) None o e

-- ---- one number changed

abbrev pub put_in : TheCircuits → HopTarget → Option Hop → TheCircuits
put_in t way o = with_hops t (put_at way o t.hops)

pub put_came : (t : TheCircuits) (way : HopTarget) (o : Option Hop) (l n : ℕ) (h : Hop) → hop_at (put_in t way o) l n ≡ Some h
    → (IsSlot way (slot l n) × (o ≡ Some h)) ⊎ (hop_at t l n ≡ Some h)
put_came t (Link m d) o l n h q =
    let (small, there) = stands_there (put_in t (Link m d) o) l n h q in
    elim (set_cases t.hops (slot m.0 d.0) o (slot l n) (Some h) there) [
      | inl (e, same) ↦ inl (e, sym same)
      | inr (ne, old) ↦ inr (there_stands t l n (Some h) small old)
    ]
put_came t (End e) o l n h q = inr q

pub put_same : (t : TheCircuits) (l : LinkId) (c : Circuit) (o : Option Hop) → c.0 ≤ 2046 → slot l.0 c.0 < length t.hops → hop_at (put_in t (Link l c) o) l.0 c.0 ≡ o
put_same t l c o small inside =
    let (x, there) = at_within t.hops (slot l.0 c.0) inside in
    there_stands (put_in t (Link l c) o) l.0 c.0 o small (set_here t.hops (slot l.0 c.0) x o there)

-- what stands at a number is of this binding, if anything
abbrev pub OnlyOf : TheCircuits → ℕ → HopTarget → Type 0
OnlyOf t n (Link l c) = (c.0 ≤ 2046) × ((h : Hop) → hop_at t l.0 c.0 ≡ Some h → h.binding ≡ n)
OnlyOf t n (End e) = Unit {0}

abbrev pub IsOf : ℕ → Option Hop → Type 0
IsOf n o = (h : Hop) → o ≡ Some h → h.binding ≡ n

put_kept : (t : TheCircuits) (way : HopTarget) (o : Option Hop) (n l m : ℕ) (h : Hop) → OnlyOf t n way → hop_at t l m ≡ Some h → (h.binding ≡ n → ⊥)
    → hop_at (put_in t way o) l m ≡ Some h
put_kept t (Link k c) o n l m h only q away =
    put_other t (Link k c) o l m
    (λ e.
    let (a, b) = slot_once l m k.0 c.0 e (stands_there t l m h q).0 only.0 in
    away (only.1 h (ap (λ (i : ℕ). hop_at t i c.0) (sym a) ∙ ap (hop_at t l) (sym b) ∙ q)))
    ∙ q
put_kept t (End e) o n l m h only q away = q

put_only : (t : TheCircuits) (a b : HopTarget) (o : Option Hop) (n : ℕ) → OnlyOf t n b → IsOf n o → OnlyOf (put_in t a o) n b
put_only t a (Link l c) o n only of = (only.0, λ h q. elim (put_came t a o l.0 c.0 h q) [ inl x ↦ of h x.1 | inr x ↦ only.1 h x ])
put_only t a (End e) o n only of = tt

-- ---- two numbers changed

abbrev pub put_both : TheCircuits → HopTarget → Option Hop → HopTarget → Option Hop → TheCircuits
put_both t a x b y = put_in (put_in t a x) b y

pub both_kept : (t : TheCircuits) (a b : HopTarget) (x y : Option Hop) (n l m : ℕ) (h : Hop) → OnlyOf t n a → OnlyOf t n b → IsOf n x → hop_at t l m ≡ Some h
    → (h.binding ≡ n → ⊥) → hop_at (put_both t a x b y) l m ≡ Some h
both_kept t a b x y n l m h p q r s away = put_kept (put_in t a x) b y n l m h (put_only t a b x n q r) (put_kept t a x n l m h p s away) away

pub both_came : (t : TheCircuits) (a b : HopTarget) (x y : Option Hop) (l m : ℕ) (h : Hop) → hop_at (put_both t a x b y) l m ≡ Some h
    → (IsSlot b (slot l m) × (y ≡ Some h)) ⊎ ((IsSlot a (slot l m) × (x ≡ Some h)) ⊎ (hop_at t l m ≡ Some h))
both_came t a b x y l m h q = elim (put_came (put_in t a x) b y l m h q) [
  | inl p ↦ inl p
  | inr p ↦ inr (put_came t a x l m h p)
]

pub both_were : (t : TheCircuits) (a b : HopTarget) (x y : Option Hop) (n l m : ℕ) (h : Hop) → IsOf n x → IsOf n y → hop_at (put_both t a x b y) l m ≡ Some h
    → (h.binding ≡ n → ⊥) → hop_at t l m ≡ Some h
both_were t a b x y n l m h p q s away = elim (both_came t a b x y l m h s) [
  | inl r ↦ absurd (away (q h r.1))
  | inr r ↦ elim r [ inl u ↦ absurd (away (p h u.1)) | inr u ↦ u ]
]

pub put_length : (t : TheCircuits) (a : HopTarget) (x : Option Hop) → length (put_in t a x).hops ≡ length t.hops
put_length t (Link l c) x = length-set t.hops (slot l.0 c.0) x
put_length t (End e) x = refl

pub both_second : (t : TheCircuits) (a : HopTarget) (l : LinkId) (c : Circuit) (x y : Option Hop) → c.0 ≤ 2046 → slot l.0 c.0 < length t.hops
    → hop_at (put_both t a x (Link l c) y) l.0 c.0 ≡ y
both_second t a l c x y small inside = put_same (put_in t a x) l c y small (let e = put_length t a x in omega (arith, e, inside))

pub both_first : (t : TheCircuits) (l : LinkId) (c : Circuit) (b : HopTarget) (x y : Option Hop) → c.0 ≤ 2046 → slot l.0 c.0 < length t.hops
    → (IsSlot b (slot l.0 c.0) → ⊥) → hop_at (put_both t (Link l c) x b y) l.0 c.0 ≡ x
both_first t l c b x y small inside apart = put_other (put_in t (Link l c) x) b y l.0 c.0 apart ∙ put_same t l c x small inside

pub leads_of : (n : ℕ) (answered : Bool) (way : HopTarget) → IsOf n (leading n answered way)
leads_of n answered way h e = let f : record { binding = n; way = way; answered = answered } ≡ h = cc in ap (λ (x : Hop). x.binding) (sym f)

pub none_of : (n : ℕ) → IsOf n None
none_of n h e = absurd (cc)

-- ---- links

same_place : (b : ℕ) (us ws : List LinkState) → names us ≡ names ws → position_or_len (is_to b) us ≡ position_or_len (is_to b) ws
same_place b [] [] e = refl
same_place b [] (w ∷ ws) e = absurd (cc)
same_place b (u ∷ us) [] e = absurd (cc)
same_place b (u ∷ us) (w ∷ ws) e =
    let head : u.neighbour.0 ≡ w.neighbour.0 = cc in
    let tail : names us ≡ names ws = cc in
    ap (λ (n : ℕ). cond (not (n == b)) (1 + position_or_len (is_to b) us) 0) head
    ∙ ap (λ (n : ℕ). cond (not (is_to b w)) (1 + n) 0) (same_place b us ws tail)

pub same_link_of : (t u : TheCircuits) (b : ℕ) → names u.links ≡ names t.links → link_of u b ≡ link_of t b
same_link_of t u b e =
    let long : length u.links ≡ length t.links =
    sym (length-map u.links (λ (a : LinkState). a.neighbour.0)) ∙ ap length e ∙ length-map t.links (λ (a : LinkState). a.neighbour.0) in
    ap (λ (n : ℕ). cond (nat_lt n (length u.links)) (Some n) None) (same_place b u.links t.links e)
    ∙ ap (λ (n : ℕ). cond (nat_lt (position_or_len (is_to b) t.links) n) (Some (position_or_len (is_to b) t.links)) None) long

-- a link leads to one neighbour
pub one_neighbour : (t : TheCircuits) (a b l : ℕ) → link_of t a ≡ Some l → link_of t b ≡ Some l → a ≡ b
one_neighbour t a b l p q =
    let (i, j, k) = position-Some (is_to a) t.links l no_state p in
    let (u, v, w) = position-Some (is_to b) t.links l no_state q in
    sym (eqb-true _ a j) ∙ eqb-true _ b v

pub link_within : (t : TheCircuits) (b l : ℕ) → link_of t b ≡ Some l → l < length t.links
link_within t b l q = (position-Some (is_to b) t.links l no_state q).0
