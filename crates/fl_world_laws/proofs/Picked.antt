-- Where fragments stand for labels, those that pass a test stand for the labels that are picked.
use Rattle.std.proofs.Common.{◌≡◌, refl, sym, ◌∙◌, ap, ℕ, zero, suc, ◌+◌, Bool, true, false, cond, List, [], ◌∷◌, map, drop}
use Rattle.std.proofs.Common.{slice_get, Option, Some, None, arith}
use Rattle.std.specs.Prelude.{filter, filter_map, take}
use Rattle.std.specs.List.{range_with_len, cons_option}
use Rattle.fl_base.specs.declared.fragment.Frag.{Frag}
use Rattle.fl_base.specs.Control.{bare}
use Rattle.fl_model.specs.Rings.{Label}
use Rattle.fl_model_laws.proofs.Cases.{Each, each_tail}
use Rattle.fl_world_refines.specs.Fragments.{Streams, frag_of, standing, AreOf}
use Rattle.fl_world_refines.proofs.Matching.{same_heads, same_tails}
use Rattle.fl_world_laws.specs.Places.{aside}

-- a test of a fragment, by what its label was picked as
abbrev pub SuitsBy : {X : Type 0} → (X → Option Frag) → Option X → Bool → Frag → Type 0
SuitsBy give None t f = t ≡ false
SuitsBy give (Some x) t f = (t ≡ true) × (give x ≡ Some f)

-- a label is picked where the fragment for which it stands passes the test, and gives that fragment
abbrev pub Suits : {X : Type 0} → Streams → (Frag → Bool) → (Label → Option X) → (X → Option Frag) → Label → Type 0
Suits streams test pick give l = (f : Frag) → frag_of streams l ≡ Some f → SuitsBy give (pick l) (test f) f

one_more : {X : Type 0} (give : X → Option Frag) (o : Option X) (t : Bool) (y : Frag) (ys : List Frag) (xs : List X) → SuitsBy give o t y
    → map (λ (f : Frag). Some f) ys ≡ map give xs → map (λ (f : Frag). Some f) (cond t (y ∷ ys) ys) ≡ map give (cons_option o xs)
one_more give None true y ys xs h q = absurd (cc)
one_more give None false y ys xs h q = q
one_more give (Some x) true y ys xs h q = ap (λ (fs : List (Option Frag)). Some y ∷ fs) q ∙ ap (λ (o : Option Frag). o ∷ map give xs) (sym h.1)
one_more give (Some x) false y ys xs h q = absurd (let e : false ≡ true = h.0 in cc)

pub picked_are : {X : Type 0} (streams : Streams) (test : Frag → Bool) (pick : Label → Option X) (give : X → Option Frag) (ls : List Label) (fs : List Frag)
    → Each (Suits streams test pick give) ls → AreOf streams ls fs
    → map (λ (f : Frag). Some f) (filter test (aside fs)) ≡ map give (filter_map pick ls)
picked_are streams test pick give [] [] h q = refl
picked_are streams test pick give [] (f ∷ fs) h q = absurd (cc)
picked_are streams test pick give (l ∷ ls) [] h q = absurd (cc)
picked_are streams test pick give (l ∷ ls) (f ∷ fs) h q =
    let head : Some (bare f) ≡ frag_of streams l = same_heads (standing f) (frag_of streams l) (map standing fs) (map (frag_of streams) ls) q in
    let rest : AreOf streams ls fs = same_tails (standing f) (frag_of streams l) (map standing fs) (map (frag_of streams) ls) q in
    one_more give (pick l) (test (bare f)) (bare f) (filter test (aside fs)) (filter_map pick ls) (h zero l refl (bare f) (sym head))
    (picked_are streams test pick give ls fs (each_tail (Suits streams test pick give) l ls h) rest)

-- the label of a fragment
pub label_of_frag : (streams : Streams) (ls : List Label) (fs : List Frag) (n : ℕ) (f : Frag) → AreOf streams ls fs → slice_get fs n ≡ Some f
    → (l : Label) × (slice_get ls n ≡ Some l) × (frag_of streams l ≡ Some (bare f))
label_of_frag streams [] [] n f q r = absurd (cc)
label_of_frag streams [] (g ∷ fs) n f q r = absurd (cc)
label_of_frag streams (l ∷ ls) [] n f q r = absurd (cc)
label_of_frag streams (l ∷ ls) (g ∷ fs) zero f q r =
    let is : g ≡ f = cc in
    (l, refl, sym (same_heads (standing g) (frag_of streams l) (map standing fs) (map (frag_of streams) ls) q) ∙ ap (λ (x : Frag). Some (bare x)) is)
label_of_frag streams (l ∷ ls) (g ∷ fs) (suc n) f q r =
    label_of_frag streams ls fs n f (same_tails (standing g) (frag_of streams l) (map standing fs) (map (frag_of streams) ls) q) r

-- ---- lists

pub same_somes : (xs ys : List Frag) → map (λ (f : Frag). Some f) xs ≡ map (λ (f : Frag). Some f) ys → xs ≡ ys
same_somes [] [] q = refl
same_somes [] (y ∷ ys) q = absurd (cc)
same_somes (x ∷ xs) [] q = absurd (cc)
same_somes (x ∷ xs) (y ∷ ys) q =
    let head : Some x ≡ Some y = same_heads (Some x) (Some y) (map (λ (f : Frag). Some f) xs) (map (λ (f : Frag). Some f) ys) q in
    let is : x ≡ y = cc in
    let rest : xs ≡ ys = same_somes xs ys (same_tails (Some x) (Some y) (map (λ (f : Frag). Some f) xs) (map (λ (f : Frag). Some f) ys) q) in
    ap (λ (zs : List Frag). x ∷ zs) rest ∙ ap (λ (z : Frag). z ∷ ys) is

pub all_pass : (xs : List Frag) → filter (λ (f : Frag). true) xs ≡ xs
all_pass [] = refl
all_pass (x ∷ xs) = ap (λ (ys : List Frag). x ∷ ys) (all_pass xs)

drop_at : (xs : List Frag) (a : ℕ) (y : Frag) → slice_get xs a ≡ Some y → drop a xs ≡ y ∷ drop (suc a) xs
drop_at [] a y q = absurd (cc)
drop_at (x ∷ xs) zero y q = let is : x ≡ y = cc in ap (λ (z : Frag). z ∷ xs) is
drop_at (x ∷ xs) (suc a) y q = drop_at xs a y q

-- what stands at some consecutive places is a piece of the list
pub piece : (xs ys : List Frag) (a n : ℕ) → map (λ (f : Frag). Some f) ys ≡ map (slice_get xs) (range_with_len a n) → ys ≡ take n (drop a xs)
piece xs [] a zero q = refl
piece xs (y ∷ ys) a zero q = absurd (cc)
piece xs [] a (suc n) q = absurd (cc)
piece xs (y ∷ ys) a (suc n) q =
    let next : a + 1 ≡ suc a = omega arith in
    let head : Some y ≡ slice_get xs a = same_heads (Some y) (slice_get xs a) (map (λ (f : Frag). Some f) ys) (map (slice_get xs) (range_with_len (a + 1) n)) q in
    let rest : ys ≡ take n (drop (a + 1) xs) =
    piece xs ys (a + 1) n (same_tails (Some y) (slice_get xs a) (map (λ (f : Frag). Some f) ys) (map (slice_get xs) (range_with_len (a + 1) n)) q) in
    ap (λ (zs : List Frag). y ∷ zs) (rest ∙ ap (λ (m : ℕ). take n (drop m xs)) next) ∙ sym (ap (λ (zs : List Frag). take (suc n) zs) (drop_at xs a y (sym head)))
