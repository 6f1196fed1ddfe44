-- Maps by name, in order, and the lists that they show.
use Rattle.std.proofs.Common.{◌≡◌, ℕ, Bool, true, false, cond, ◌||◌, List, [], ◌∷◌, ◌++◌, map, Option, Some, None, option_map, is_some, Bor, if◌then◌else◌, refl, sym, ap, ◌∙◌}
use Rattle.std.specs.Option.{option_copied}
use Rattle.std.specs.Str.{bytes_eq}
use Rattle.std.specs.Map.{lookup}
use Rattle.std.proofs.lemmas.List.{map_push}
use Rattle.indexmap.specs.IndexMap.{insert_entry}
use Rattle.fl_check.specs.declared.declared.KnownType.{KnownType}
use Rattle.fl_interface.specs.Interface.{TheType, type_of}
use Rattle.fl_check.specs.Known.{declared_as}
use Rattle.fl_interface.specs.Limits.{is_among}
use Rattle.fl_check.specs.Views.{named_of}
use Rattle.fl_check.proofs.NameSets.{turned}

-- what a look-up lends
pub lent : {X Y : Type 0} (f : X → Y) (r : Option (Bor X)) (s : Option X) → option_copied r ≡ s → option_map (λ (k : Bor X). f k.now) r ≡ option_map f s
lent f None s e = ap (option_map f) e
lent f (Some x) s e = ap (option_map f) e

found_step : (a b : Bool) → a ≡ b → (k : KnownType) (r : Option KnownType) (s : Option TheType) → option_map (λ (t : KnownType). type_of t.measured.fixed) r ≡ s → option_map (λ (t : KnownType). type_of t.measured.fixed) (cond a (Some k) r) ≡ (if b then Some (type_of k.measured.fixed) else s)
found_step true true e k r s h = refl
found_step false false e k r s h = h
found_step true false e k r s h = cc
found_step false true e k r s h = cc

-- a look-up among types answers by the list of them
pub found : (es : List (Bor (List ℕ) × KnownType)) (q : List ℕ) → option_map (λ (t : KnownType). type_of t.measured.fixed) (lookup (λ (k : Bor (List ℕ)). bytes_eq q k.now) es) ≡ declared_as (map named_of es) q
found [] q = refl
found (e ∷ es) q =
    found_step (bytes_eq q e.0.now) (bytes_eq e.0.now q) (turned q e.0.now) e.1 (lookup (λ (k : Bor (List ℕ)). bytes_eq q k.now) es) (declared_as (map named_of es) q) (found es q)

-- entries by keys that show names
module _ {K X N : Type 0} (key : K → List ℕ) (view : K × X → N) (name : N → List ℕ) (named : (e : K × X) → name (view e) ≡ key e.0) where
  among_step : (a b : Bool) → a ≡ b → (x : X) (r : Option X) (s : Bool) → is_some r ≡ s → is_some (cond a (Some x) r) ≡ (b || s)
  among_step true true e x r s h = refl
  among_step false false e x r s h = h
  among_step true false e x r s h = cc
  among_step false true e x r s h = cc

  -- a name is looked up where it is among the names
  pub among : (es : List (K × X)) (q : List ℕ) → is_some (lookup (λ k. bytes_eq q (key k)) es) ≡ is_among (map name (map view es)) q
  among [] q = refl
  among (e ∷ es) q =
      among_step (bytes_eq q (key e.0)) (bytes_eq (name (view e)) q) (turned q (key e.0) ∙ ap (λ n. bytes_eq n q) (sym (named e))) e.1 (lookup (λ k. bytes_eq q (key k)) es) (is_among (map name (map view es)) q) (among es q)

  put_step : (b : Bool) (e : K × X) (r : Option X) (es rest more : List (K × X)) (v : X) → is_some (cond b (Some e.1) r) ≡ false → (is_some r ≡ false → rest ≡ more) → (if b then (e.0, v) ∷ es else e ∷ rest) ≡ e ∷ more
  put_step true e r es rest more v h ih = cc
  put_step false e r es rest more v h ih = ap (λ l. e ∷ l) (ih h)

  put : (es : List (K × X)) (k : K) (v : X) → is_some (lookup (λ j. bytes_eq (key k) (key j)) es) ≡ false → insert_entry (λ (a b : K). bytes_eq (key a) (key b)) es k v ≡ es ++ (k, v) ∷ []
  put [] k v h = refl
  put (e ∷ es) k v h =
      put_step (bytes_eq (key k) (key e.0)) e (lookup (λ j. bytes_eq (key k) (key j)) es) es (insert_entry (λ (a b : K). bytes_eq (key a) (key b)) es k v) (es ++ (k, v) ∷ []) v h (λ n. put es k v n)

  -- an entry of a new name goes last
  pub push : (es es2 : List (K × X)) (k : K) (v : X) → es2 ≡ insert_entry (λ (a b : K). bytes_eq (key a) (key b)) es k v → is_among (map name (map view es)) (key k) ≡ false → map view es2 ≡ map view es ++ view (k, v) ∷ []
  push es es2 k v e new = ap (map view) (e ∙ put es k v (among es (key k) ∙ new)) ∙ map_push view es (k, v)
