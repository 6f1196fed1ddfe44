-- A sorted set of names, and which names are in it.
use Rattle.std.proofs.Common.{◌≡◌, ℕ, Bool, true, false, ◌||◌, List, [], ◌∷◌, ◌++◌, map, Bor, Ordering, Less, Equal, Greater, nat_cmp, is_eq, refl, sym, ap, ◌∙◌}
use Rattle.std.specs.Ordering.{match_ordering}
use Rattle.std.specs.Cmp.Lexicographic.{slice_cmp}
use Rattle.std.specs.List.{list_any}
use Rattle.std.specs.Str.{bytes_eq}
use Rattle.std.specs.BTreeSet.{insert_key}
use Rattle.std.proofs.lemmas.Slice.Eq.{bytes_eq-Decides}
use Rattle.std.proofs.lemmas.Map.Text.{is_eq-slice_cmp}
use Rattle.fl_interface.specs.Limits.{is_among}
use Rattle.fl_check.specs.Views.{HaveSame}
use Rattle.fl_check.proofs.NameSets.{now_of, turned}

-- how the set compares two names
abbrev pub order : Bor (List ℕ) → Bor (List ℕ) → Ordering
order a b = slice_cmp nat_cmp a.now b.now

pub among_sorted : (ks : List (Bor (List ℕ))) (n : Bor (List ℕ)) → list_any (λ (k : Bor (List ℕ)). is_eq (order n k)) ks ≡ is_among (map now_of ks) n.now
among_sorted [] n = refl
among_sorted (k ∷ ks) n =
    ap (λ v. v || list_any (λ (k : Bor (List ℕ)). is_eq (order n k)) ks) (is_eq-slice_cmp n.now k.now ∙ turned n.now k.now)
    ∙ ap (λ v. bytes_eq k.now n.now || v) (among_sorted ks n)

-- ---- one name more

turn_or : (a b c : Bool) → (a || (b || c)) ≡ (b || (a || c))
turn_or true true c = refl
turn_or true false c = refl
turn_or false b c = refl

or_false : (a : Bool) → (a || false) ≡ a
or_false true = refl
or_false false = refl

-- a name behind others is among them all as one before them
pub among_end : (ns : List (List ℕ)) (n q : List ℕ) → is_among (ns ++ n ∷ []) q ≡ (bytes_eq n q || is_among ns q)
among_end [] n q = refl
among_end (m ∷ ns) n q = ap (λ v. bytes_eq m q || v) (among_end ns n q) ∙ turn_or (bytes_eq m q) (bytes_eq n q) (is_among ns q)

or_twice : (a b c : Bool) → a ≡ b → (b || c) ≡ (a || (b || c))
or_twice true true c e = refl
or_twice false false c e = refl
or_twice true false c e = cc
or_twice false true c e = cc

placed : (o : Ordering) (n k : Bor (List ℕ)) (ks more : List (Bor (List ℕ))) (q : List ℕ) → order n k ≡ o
    → is_among (map now_of more) q ≡ (bytes_eq n.now q || is_among (map now_of ks) q)
    → is_among (map now_of (match_ordering o (n ∷ k ∷ ks) (k ∷ ks) (k ∷ more))) q ≡ (bytes_eq n.now q || (bytes_eq k.now q || is_among (map now_of ks) q))
placed Less n k ks more q is h = refl
placed Equal n k ks more q is h =
    let same : n.now ≡ k.now = (bytes_eq-Decides n.now k.now).0 (sym (is_eq-slice_cmp n.now k.now) ∙ ap is_eq is) in
    or_twice (bytes_eq n.now q) (bytes_eq k.now q) (is_among (map now_of ks) q) (ap (λ m. bytes_eq m q) same)
placed Greater n k ks more q is h =
    ap (λ v. bytes_eq k.now q || v) h ∙ turn_or (bytes_eq k.now q) (bytes_eq n.now q) (is_among (map now_of ks) q)

among_placed : (ks : List (Bor (List ℕ))) (n : Bor (List ℕ)) (q : List ℕ) → is_among (map now_of (insert_key order ks n)) q ≡ (bytes_eq n.now q || is_among (map now_of ks) q)
among_placed [] n q = refl
among_placed (k ∷ ks) n q = placed (order n k) n k ks (insert_key order ks n) q refl (among_placed ks n q)

pub put_in_sorted : (ks ks2 : List (Bor (List ℕ))) (n : Bor (List ℕ)) → ks2 ≡ insert_key order ks n → HaveSame (map now_of ks2) (map now_of ks ++ n.now ∷ [])
put_in_sorted ks ks2 n e =
    λ q. ap (λ l. is_among (map now_of l) q) e ∙ among_placed ks n q ∙ sym (among_end (map now_of ks) n.now q)

-- ---- in whatever order

pub same_then : (ns ms : List (List ℕ)) (n : List ℕ) → HaveSame ns ms → HaveSame (ns ++ n ∷ []) (ms ++ n ∷ [])
same_then ns ms n h = λ q. among_end ns n q ∙ ap (λ v. bytes_eq n q || v) (h q) ∙ sym (among_end ms n q)
