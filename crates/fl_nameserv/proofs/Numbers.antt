-- The registrations that a table's names and services stand for.
use Rattle.std.proofs.Common.{◌≡◌, ℕ, zero, suc, ◌+◌, ◌<◌, Bool, true, false, cond, if◌then◌else◌, List, [], ◌∷◌, ◌++◌, length, map, get_or, slice_get, position, Option, Some, None, option_map, is_some, AllPairs, Result, Err, IsSome, refl, sym, ap, subst, ◌∙◌, inl, inr, true≢false, arith}
use Rattle.std.specs.List.{range_with_len, position_or_len, IsDistinct, AllByRecursion, AllZip}
use Rattle.std.specs.Global.{Vec}
use Rattle.std.specs.Str.{bytes_eq}
use Rattle.std.specs.Map.{lookup, keys_of}
use Rattle.std.proofs.lemmas.Bool.Decides.{nat_tests}
use Rattle.std.proofs.lemmas.List.Folds.{find_at}
use Rattle.std.proofs.lemmas.Slice.Eq.{bytes_eq-Decides}
use Rattle.std.proofs.lemmas.Option.{slice_get_cases, get_or_from_slice_get}
use Rattle.indexmap.specs.IndexMap.{insert_entry}
use Rattle.indexmap.proofs.MapLemmas.{Found-position, Missing-position}
use Rattle.fl_base.specs.declared.identity.IRef.{IRef}
use Rattle.fl_nameserv.specs.declared.fault.NameFault.{NameFault}
use Rattle.fl_nameserv.specs.declared.fault.NameFault.TheVariants.{Taken, Memory}
use Rattle.fl_nameserv.specs.declared.registration.Service.{Service}
use Rattle.fl_nameserv.specs.Registrations.{TheRegistration, has_name, has_iref, by_name, by_iref, with_registered, IsTable}
use Rattle.fl_nameserv.specs.Numbered.{numbered, numbered_from}
use Rattle.fl_nameserv.proofs.Lookups.{passes, fails}

abbrev is_key : List ℕ → Vec ℕ → Bool
is_key q n = bytes_eq q n.items

abbrev same_key : Vec ℕ → Vec ℕ → Bool
same_key a b = bytes_eq a.items b.items

pub length_numbered : (k : ℕ) (es : List (Vec ℕ × Service)) → length (numbered_from k es) ≡ length es
length_numbered k [] = refl
length_numbered k (e ∷ es) = ap suc (length_numbered (k + 1) es)

-- what stands at a place
pub numbered_at : (k : ℕ) (es : List (Vec ℕ × Service)) (i : ℕ) → slice_get (numbered_from k es) i ≡ option_map (numbered (k + i)) (slice_get es i)
numbered_at k [] i = refl
numbered_at k (e ∷ es) zero =
    let p : k ≡ k + 0 = omega arith in ap {B = Option TheRegistration} (λ n. Some (numbered n e)) p
numbered_at k (e ∷ es) (suc i) =
    let p : k + 1 + i ≡ k + suc i = omega arith in
    numbered_at (k + 1) es i ∙ ap (λ n. option_map (numbered n) (slice_get es i)) p

-- one more stands at the end
pub numbered_push : (k : ℕ) (es : List (Vec ℕ × Service)) (e : Vec ℕ × Service) → numbered_from k (es ++ e ∷ []) ≡ numbered_from k es ++ numbered (k + length es) e ∷ []
numbered_push k [] e =
    let p : k ≡ k + 0 = omega arith in ap {B = List TheRegistration} (λ n. numbered n e ∷ []) p
numbered_push k (f ∷ es) e =
    let p : k + 1 + length es ≡ k + suc (length es) = omega arith in
    ap (λ l. numbered k f ∷ l) (numbered_push (k + 1) es e ∙ ap (λ n. numbered_from (k + 1) es ++ numbered n e ∷ []) p)

irefs_numbered : (k : ℕ) (es : List (Vec ℕ × Service)) → map (λ (r : TheRegistration). r.iref) (numbered_from k es) ≡ range_with_len (k + 1) (length (numbered_from k es))
irefs_numbered k [] = refl
irefs_numbered k (e ∷ es) = let f : List ℕ → List ℕ = λ l. (k + 1) ∷ l in ap f (irefs_numbered (k + 1) es)

-- Names.

known_step : (b : Bool) (v : Service) (r : Option Service) (x : TheRegistration) (s : Option TheRegistration) → is_some r ≡ is_some s → is_some (cond b (Some v) r) ≡ is_some (cond b (Some x) s)
known_step true v r x s h = refl
known_step false v r x s h = h

-- a name is known where the map has it
known : (q : List ℕ) (k : ℕ) (es : List (Vec ℕ × Service)) → is_some (lookup (is_key q) es) ≡ is_some (by_name q (numbered_from k es))
known q k [] = refl
known q k (e ∷ es) = known_step (bytes_eq q e.0.items) e.1 (lookup (is_key q) es) (numbered k e) (by_name q (numbered_from (k + 1) es)) (known q (k + 1) es)

pub known_in : (q : List ℕ) (es : List (Vec ℕ × Service)) (rs : List TheRegistration) (found : Bool) → numbered_from 0 es ≡ rs → found ≡ is_some (lookup (is_key q) es) → found ≡ is_some (by_name q rs)
known_in q es rs found shown e = e ∙ known q 0 es ∙ ap (λ l. is_some (by_name q l)) shown

pub none_known : (o : Option TheRegistration) → false ≡ is_some o → o ≡ None
none_known None e = refl
none_known (Some x) e = cc

-- so a service of that name can be refused for its name alone
pub is_taken : {A : Type 0} (o : Option TheRegistration) → false ≡ is_some o → IsSome o → A
is_taken o fresh s = absurd (true≢false (sym s ∙ sym fresh))

pub refused_otherwise : (r : Result IRef NameFault) (o : Option TheRegistration) → false ≡ is_some o → r ≡ Err Memory → (r ≡ Err Taken → IsSome o) × (IsSome o → r ≡ Err Taken)
refused_otherwise r o fresh e = (λ t. cc, λ s. is_taken o fresh s)

names_at : (q : List ℕ) (k : ℕ) (es : List (Vec ℕ × Service)) → position_or_len (has_name q) (numbered_from k es) ≡ position_or_len (is_key q) (keys_of es)
names_at q k [] = refl
names_at q k (e ∷ es) = let rest = names_at q (k + 1) es in cc

-- the map's answer on a name
pub found_name : (q : List ℕ) (es : List (Vec ℕ × Service)) (rs : List TheRegistration) (i : ℕ) (e : Vec ℕ × Service) (r : TheRegistration) → numbered_from 0 es ≡ rs → Some i ≡ position (is_key q) (keys_of es) → slice_get es i ≡ Some e → r ≡ numbered i e → by_name q rs ≡ Some r
found_name q es rs i e r shown place at made =
    let p : 0 + i ≡ i = omega arith in
    let f : TheRegistration → Option TheRegistration = λ x. Some x in
    ap (by_name q) (sym shown)
    ∙ find_at (has_name q) (numbered_from 0 es)
    ∙ ap (slice_get (numbered_from 0 es)) (names_at q 0 es ∙ (Found-position (is_key q) es i (sym place)).or_len)
    ∙ numbered_at 0 es i
    ∙ ap (option_map (numbered (0 + i))) at
    ∙ ap (λ n. f (numbered n e)) p
    ∙ ap f (sym made)

pub missing_name : (q : List ℕ) (es : List (Vec ℕ × Service)) (rs : List TheRegistration) → numbered_from 0 es ≡ rs → None ≡ position (is_key q) (keys_of es) → by_name q rs ≡ None
missing_name q es rs shown place =
    none_known (by_name q rs) (known_in q es rs false shown (sym (ap is_some (Missing-position (is_key q) es (sym place)).value)))

-- Interface references.

iref_from : (k : ℕ) (es : List (Vec ℕ × Service)) (i : ℕ) → by_iref (k + i + 1) (numbered_from k es) ≡ option_map (numbered (k + i)) (slice_get es i)
iref_from k [] i = refl
iref_from k (e ∷ es) zero =
    let p : k ≡ k + 0 = omega arith in
    passes (has_iref (k + 0 + 1) (numbered k e)) (numbered k e) (by_iref (k + 0 + 1) (numbered_from (k + 1) es)) (grind (arith, nat_tests))
    ∙ ap {B = Option TheRegistration} (λ n. Some (numbered n e)) p
iref_from k (e ∷ es) (suc i) =
    let p : k + 1 + i ≡ k + suc i = omega arith in
    fails (has_iref (k + suc i + 1) (numbered k e)) (numbered k e) (by_iref (k + suc i + 1) (numbered_from (k + 1) es)) (grind (arith, nat_tests))
    ∙ ap (λ n. by_iref (n + 1) (numbered_from (k + 1) es)) (sym p)
    ∙ iref_from (k + 1) es i
    ∙ ap (λ n. option_map (numbered n) (slice_get es i)) p

iref_below : (n k : ℕ) (es : List (Vec ℕ × Service)) → n < k + 1 → by_iref n (numbered_from k es) ≡ None
iref_below n k [] l = refl
iref_below n k (e ∷ es) l =
    fails (has_iref n (numbered k e)) (numbered k e) (by_iref n (numbered_from (k + 1) es)) (grind (arith, nat_tests))
    ∙ iref_below n (k + 1) es (omega arith)

-- no registration has the reference 0
pub no_zero : (iref : ℕ) (es : List (Vec ℕ × Service)) (rs : List TheRegistration) → numbered_from 0 es ≡ rs → iref ≡ 0 → by_iref iref rs ≡ None
no_zero iref es rs shown e = ap (by_iref iref) (sym shown) ∙ iref_below iref 0 es (omega arith)

-- the map's answer on a place
pub at_iref : (iref place : ℕ) (es : List (Vec ℕ × Service)) (rs : List TheRegistration) → numbered_from 0 es ≡ rs → iref ≡ place + 1 → by_iref iref rs ≡ option_map (numbered place) (slice_get es place)
at_iref iref place es rs shown e =
    let p : iref ≡ 0 + place + 1 = omega arith in
    let q : 0 + place ≡ place = omega arith in
    ap (by_iref iref) (sym shown) ∙ ap (λ n. by_iref n (numbered_from 0 es)) p ∙ iref_from 0 es place
    ∙ ap (λ n. option_map (numbered n) (slice_get es place)) q

-- One more service.

put_step : (b : Bool) (e : Vec ℕ × Service) (r : Option Service) (es rest more : List (Vec ℕ × Service)) (v : Service) → false ≡ is_some (cond b (Some e.1) r) → (false ≡ is_some r → rest ≡ more) → (if b then (e.0, v) ∷ es else e ∷ rest) ≡ e ∷ more
put_step true e r es rest more v h ih = cc
put_step false e r es rest more v h ih = ap (λ l. e ∷ l) (ih h)

put : (es : List (Vec ℕ × Service)) (n : Vec ℕ) (v : Service) → false ≡ is_some (lookup (is_key n.items) es) → insert_entry same_key es n v ≡ es ++ (n, v) ∷ []
put [] n v h = refl
put (e ∷ es) n v h =
    put_step (bytes_eq n.items e.0.items) e (lookup (is_key n.items) es) es (insert_entry same_key es n v) (es ++ (n, v) ∷ []) v h (λ g. put es n v g)

pub registered : (es es2 : List (Vec ℕ × Service)) (rs : List TheRegistration) (q : List ℕ) (n : Vec ℕ) (v : Service) → numbered_from 0 es ≡ rs → es2 ≡ insert_entry same_key es n v → n.items ≡ q → false ≡ is_some (lookup (is_key q) es) → numbered_from 0 es2 ≡ with_registered rs q v
registered es es2 rs q n v shown put_in named fresh =
    let p : 0 + length es + 1 ≡ length rs + 1 = omega (arith, length_numbered 0 es, ap length shown) in
    let last : List ℕ → ℕ → List TheRegistration = λ name iref. record { name = name; iref = iref; service = v } ∷ [] in
    ap (numbered_from 0) (put_in ∙ put es n v (fresh ∙ ap (λ t. is_some (lookup (is_key t) es)) (sym named)))
    ∙ numbered_push 0 es (n, v)
    ∙ ap (λ l. l ++ numbered (0 + length es) (n, v) ∷ []) shown
    ∙ ap (λ t. rs ++ last t (0 + length es + 1)) named
    ∙ ap (λ k. rs ++ last q k) p

pub same_length : (es : List (Vec ℕ × Service)) (rs : List TheRegistration) → numbered_from 0 es ≡ rs → length es ≡ length rs
same_length es rs shown = sym (length_numbered 0 es) ∙ ap length shown

-- A table.

each_at : (P : Vec ℕ → Type 0) (es : List (Vec ℕ × Service)) → AllByRecursion P (keys_of es) → (i : ℕ) (e : Vec ℕ × Service) → slice_get es i ≡ Some e → P e.0
each_at P [] all i e at = cc
each_at P (f ∷ es) all zero e at = let same : f ≡ e = cc in subst (λ (x : Vec ℕ × Service). P x.0) same all.0
each_at P (f ∷ es) all (suc i) e at = each_at P es all.1 i e at

differ : (es : List (Vec ℕ × Service)) → IsDistinct same_key (keys_of es) → (i j : ℕ) (e f : Vec ℕ × Service) → i < j → slice_get es i ≡ Some e → slice_get es j ≡ Some f → bytes_eq e.0.items f.0.items ≡ false
unfolding IsDistinct
differ [] apart i j e f l at at2 = cc
differ (g ∷ es) apart i zero e f l at at2 = absurd (omega arith)
differ (g ∷ es) apart zero (suc j) e f l at at2 =
    let same : g ≡ e = cc in
    subst (λ (x : Vec ℕ × Service). bytes_eq x.0.items f.0.items ≡ false) same (each_at (λ n. same_key g.0 n ≡ false) es apart.0 j f at2)
differ (g ∷ es) apart (suc i) (suc j) e f l at at2 = differ es apart.1 i j e f (omega arith) at at2

record Stands (es : List (Vec ℕ × Service)) (i : ℕ) (d : TheRegistration) : Type 0 where
  entry : Vec ℕ × Service
  kept : slice_get es i ≡ Some entry
  shown : get_or (numbered_from 0 es) i d ≡ numbered i entry

stands : (es : List (Vec ℕ × Service)) (i : ℕ) (d : TheRegistration) → i < length es → Stands es i d
stands es i d l =
    elim (slice_get_cases es i).1 [
      | inl (e, within, at, own) ↦
          let p : 0 + i ≡ i = omega arith in
          record {
            entry = e;
            kept = at;
            shown = get_or_from_slice_get (numbered_from 0 es) i (numbered (0 + i) e) d (numbered_at 0 es i ∙ ap (option_map (numbered (0 + i))) at) ∙ ap (λ n. numbered n e) p;
          }
      | inr (past, none) ↦ absurd (omega arith)
    ]

names_apart : (es : List (Vec ℕ × Service)) → IsDistinct same_key (keys_of es) → AllPairs (λ (r s : TheRegistration). r.name ≡ s.name → ⊥) (numbered_from 0 es)
names_apart es apart i j d l within same =
    let m : j < length es = omega (arith, length_numbered 0 es) in
    let a = stands es i d (omega arith) in
    let b = stands es j d m in
    let e = differ es apart i j a.entry b.entry l a.kept b.kept in
    let name : TheRegistration → List ℕ = λ r. r.name in
    let t = (bytes_eq-Decides a.entry.0.items b.entry.0.items).1 (ap name (sym a.shown) ∙ same ∙ ap name b.shown) in
    cc

pub table : (es : List (Vec ℕ × Service)) (rs : List TheRegistration) → numbered_from 0 es ≡ rs → IsDistinct same_key (keys_of es) → IsTable rs
table es rs shown apart =
    subst IsTable shown (record { irefs = irefs_numbered 0 es; names = names_apart es apart })

-- A copy.

pub copied : {R : Vec ℕ × Service → Vec ℕ × Service → Type 0} (es fs : List (Vec ℕ × Service)) → AllZip R es fs → ((e f : Vec ℕ × Service) → R e f → (f.0.items ≡ e.0.items) × (f.1 ≡ e.1)) → (k : ℕ) → numbered_from k fs ≡ numbered_from k es
copied [] [] all same k = refl
copied [] (f ∷ fs) all same k = absurd all
copied (e ∷ es) [] all same k = absurd all
copied (e ∷ es) (f ∷ fs) all same k =
    let here = same e f all.0 in
    let entered : List ℕ → Service → List TheRegistration → List TheRegistration = λ n v l. record { name = n; iref = k + 1; service = v } ∷ l in
    ap (λ n. entered n f.1 (numbered_from (k + 1) fs)) here.0
    ∙ ap (λ v. entered e.0.items v (numbered_from (k + 1) fs)) here.1
    ∙ ap (λ l. entered e.0.items e.1 l) (copied es fs all.1 same (k + 1))
