-- Lists of names that are asked by a map.
use Rattle.std.proofs.Common.{true≢false, ◌≡◌, ◌<◌, ◌≤◌, ℕ, ◌+◌, Bool, true, false, cond, not, ◌||◌, if◌then◌else◌, List, [], ◌∷◌, ◌++◌, length, map, position, Option, Some, None, option_map, get_or, slice_get, take, refl, sym, ap, ◌∙◌, arith, suc, zero}
use Rattle.std.specs.Cmp.{first_so, second_so}
use Rattle.std.proofs.lemmas.Option.{slice_get-map, get_or_from_slice_get, slice_get_within}
use Rattle.fl_interface.specs.Limits.{are_distinct, are_messages_within, is_within_limits}
use Rattle.fl_interface.specs.Interface.{TheMessage, TheInterface, message_of}
use Rattle.fl_interface.specs.declared.interface.Message.{Message}
use Rattle.fl_interface.specs.Limits.{is_among}
use Rattle.std.specs.Prelude.{nat_lt, nat_le, ◌&&◌}
use Rattle.std.specs.List.{IsDistinct, list_any, position_or_len}
use Rattle.std.specs.Str.{bytes_eq}
use Rattle.std.specs.Global.{Vec}
use Rattle.std.proofs.lemmas.Bool.Decides.{nat_tests}
use Rattle.std.proofs.lemmas.Slice.Eq.{bytes_eq-Decides}
use Rattle.std.proofs.lemmas.Map.Keys.{IsDistinct-head, IsDistinct-tail}
use Rattle.std.proofs.lemmas.List.Elements.{All-from_recursion}
use Rattle.std.proofs.lemmas.List.{map_push}
use Rattle.fl_script_lines.specs.Names.{place_of}

abbrev pub items_of : Vec ℕ → List ℕ
items_of name = name.items

abbrev is_it : List ℕ → Vec ℕ → Bool
is_it q name = bytes_eq q name.items

first_mapped : (q : List ℕ) (ks : List (Vec ℕ)) → position_or_len (bytes_eq q) (map items_of ks) ≡ position_or_len (is_it q) ks
first_mapped q [] = refl
first_mapped q (k ∷ ks) = ap (λ n. cond (not (bytes_eq q k.items)) (1 + n) 0) (first_mapped q ks)

length_mapped : (ks : List (Vec ℕ)) → length (map items_of ks) ≡ length ks
length_mapped [] = refl
length_mapped (k ∷ ks) = ap suc (length_mapped ks)

found_at : ℕ → ℕ → Option ℕ
found_at n most = cond (nat_lt n most) (Some n) None

-- the map's answer on a name
pub place_found : (q : List ℕ) (ks : List (Vec ℕ)) → position (is_it q) ks ≡ place_of q (map items_of ks)
unfolding found_at
place_found q ks =
    sym (ap (λ n. found_at n (length (map items_of ks))) (first_mapped q ks) ∙ ap (λ n. found_at (position_or_len (is_it q) ks) n) (length_mapped ks))

none_any : {X : Type 0} (p : X → Bool) (xs : List X) → length xs ≤ position_or_len p xs → list_any p xs ≡ false
none_any p [] h = refl
none_any {X} p (x ∷ xs) h = by_first (p x) refl (none_any p xs)
  where
    by_first : (b : Bool) → p x ≡ b → (length xs ≤ position_or_len p xs → list_any p xs ≡ false) → list_any p (x ∷ xs) ≡ false
    by_first true e inner = let n : position_or_len p (x ∷ xs) ≡ 0 = rw e refl in absurd (omega (arith, h, n))
    by_first false e inner =
        let n : position_or_len p (x ∷ xs) ≡ 1 + position_or_len p xs = rw e refl in
        let rest = inner (omega (arith, h, n)) in rw (e, rest) refl

none_past : {X : Type 0} (p : X → Bool) (xs : List X) → position p xs ≡ None → length xs ≤ position_or_len p xs
none_past p xs e = by_test (nat_lt (position_or_len p xs) (length xs)) refl e
  where
    by_test : (b : Bool) → nat_lt (position_or_len p xs) (length xs) ≡ b → cond b (Some (position_or_len p xs)) None ≡ None → length xs ≤ position_or_len p xs
    by_test true t n = cc
    by_test false t n = grind (arith, nat_tests, t)

put_new : (b : Bool) (ks ks2 : List (Vec ℕ)) (n : Vec ℕ) → b ≡ false → ks2 ≡ (if b then ks else ks ++ n ∷ []) → ks2 ≡ ks ++ n ∷ []
put_new true ks ks2 n h e = cc
put_new false ks ks2 n h e = e

-- one more name
pub name_added : (q : List ℕ) (ks ks2 : List (Vec ℕ)) (n : Vec ℕ) → place_of q (map items_of ks) ≡ None → n.items ≡ q
    → ks2 ≡ (if list_any (is_it n.items) ks then ks else ks ++ n ∷ []) → map items_of ks2 ≡ map items_of ks ++ q ∷ []
name_added q ks ks2 n none same put =
    let absent : position (is_it n.items) ks ≡ None = place_found n.items ks ∙ (ap (λ t. place_of t (map items_of ks)) same ∙ none) in
    let new = none_any (is_it n.items) ks (none_past (is_it n.items) ks absent) in
    ap (map items_of) (put_new (list_any (is_it n.items) ks) ks ks2 n new put)
    ∙ (map_push items_of ks n ∙ ap (λ (t : List ℕ). map items_of ks ++ t ∷ []) same)

-- ---- names byte by byte

equal_bytes : (a b : List ℕ) → length a ≡ length b → ((k : ℕ) → k < length a → get_or a k 0 ≡ get_or b k 0) → a ≡ b
equal_bytes [] [] long each = refl
equal_bytes [] (y ∷ b) long each = absurd (omega (arith, long))
equal_bytes (x ∷ a) [] long each = absurd (omega (arith, long))
equal_bytes (x ∷ a) (y ∷ b) long each =
    let here : x ≡ y = each 0 (omega arith) in
    let rest = equal_bytes a b (omega (arith, long)) (λ k below. each (suc k) (omega (arith, below))) in
    ap (λ z. z ∷ a) here ∙ ap (λ (zs : List ℕ). y ∷ zs) rest

pub same_bytes : (a b : List ℕ) → length a ≡ length b → ((k : ℕ) → k < length a → get_or a k 0 ≡ get_or b k 0) → true ≡ bytes_eq a b
same_bytes a b long each = sym ((bytes_eq-Decides a b).1 (equal_bytes a b long each))

-- ---- a guessed place

abbrev same_items : Vec ℕ → Vec ℕ → Bool
same_items k l = bytes_eq k.items l.items

not_same : (x q : List ℕ) → bytes_eq x q ≡ false → bytes_eq q x ≡ false
not_same x q e = by_turned (bytes_eq q x) refl
  where
    by_turned : (b : Bool) → bytes_eq q x ≡ b → b ≡ false
    by_turned false t = refl
    by_turned true t = absurd (true≢false (sym ((bytes_eq-Decides x q).1 (sym ((bytes_eq-Decides q x).0 t))) ∙ e))

-- where no two keys are the same, the first one that is a key at a place is there
first_is_there : (q : List ℕ) (ks : List (Vec ℕ)) (k : ℕ) (key : Vec ℕ) → IsDistinct same_items ks → slice_get ks k ≡ Some key → q ≡ key.items
    → position_or_len (is_it q) ks ≡ k
first_is_there q [] k key d at e = absurd (omega (arith, slice_get_within [] k key at))
first_is_there q (x ∷ ks) zero key d at e =
    let one : q ≡ x.items = cc in
    let same = (bytes_eq-Decides q x.items).1 one in rw same refl
first_is_there q (x ∷ ks) (suc k) key d at e =
    let within = slice_get_within ks k key at in
    let there : get_or ks k key ≡ key = get_or_from_slice_get ks k key key at in
    let apart : bytes_eq x.items key.items ≡ false = ap (λ (y : Vec ℕ). bytes_eq x.items y.items) (sym there) ∙ All-from_recursion (λ (y : Vec ℕ). bytes_eq x.items y.items ≡ false) ks (IsDistinct-head same_items x ks d) k key within in
    let other : bytes_eq q x.items ≡ false = ap (λ (t : List ℕ). bytes_eq t x.items) e ∙ not_same x.items key.items apart in
    let rest = first_is_there q ks k key (IsDistinct-tail same_items x ks d) at e in
    rw (other, rest) (omega arith)

-- a name that stands at its guessed place is found there
pub place_guessed : (q : List ℕ) (ks : List (Vec ℕ)) (k : ℕ) (key : Vec ℕ) → IsDistinct same_items ks → slice_get ks k ≡ Some key
    → bytes_eq q key.items ≡ true → Some k ≡ place_of q (map items_of ks)
unfolding found_at
place_guessed q ks k key d at same =
    let there = first_is_there q ks k key d at ((bytes_eq-Decides q key.items).0 same) in
    let below : nat_lt k (length ks) ≡ true = let w = slice_get_within ks k key at in grind (arith, nat_tests, w) in
    sym (ap (λ n. found_at n (length ks)) there ∙ rw below refl) ∙ place_found q ks

-- ---- names that all differ

none_found : {X : Type 0} (p : X → Bool) (xs : List X) → list_any p xs ≡ false → position_or_len p xs ≡ length xs
none_found p [] h = refl
none_found {X} p (x ∷ xs) h = by_first (p x) refl (none_found p xs) h
  where
    by_first : (b : Bool) → p x ≡ b → (list_any p xs ≡ false → position_or_len p xs ≡ length xs) → (b || list_any p xs) ≡ false → position_or_len p (x ∷ xs) ≡ length (x ∷ xs)
    by_first true e inner k = cc
    by_first false e inner k = rw e (let n = inner k in omega (arith, n))

nowhere : (q : List ℕ) (names : List (List ℕ)) → list_any (bytes_eq q) names ≡ false → place_of q names ≡ None
unfolding found_at
nowhere q names h = ap (λ n. found_at n (length names)) (none_found (bytes_eq q) names h) ∙ past (length names)
  where
    past : (n : ℕ) → found_at n n ≡ None
    past n = let e : nat_lt n n ≡ false = grind (arith, nat_tests) in rw e refl

-- the one at a place differs from one that isn't among them
differs : (first : List ℕ) (names : List (List ℕ)) (k : ℕ) → is_among names first ≡ false → k < length names → bytes_eq (get_or names k []) first ≡ false
differs first [] k h below = absurd (omega (arith, below))
differs first (n ∷ names) zero h below = or_first (bytes_eq n first) (is_among names first) h
  where
    or_first : (a b : Bool) → (a || b) ≡ false → a ≡ false
    or_first true b e = cc
    or_first false b e = refl
differs first (n ∷ names) (suc k) h below = differs first names k (or_second (bytes_eq n first) (is_among names first) h) (omega (arith, below))
  where
    or_second : (a b : Bool) → (a || b) ≡ false → b ≡ false
    or_second true b e = cc
    or_second false b e = e

not_true : (b : Bool) → not b ≡ true → b ≡ false
not_true true e = cc
not_true false e = refl

none_before : (names : List (List ℕ)) (k : ℕ) → are_distinct names ≡ true → k < length names → list_any (bytes_eq (get_or names k [])) (take k names) ≡ false
none_before [] k h below = absurd (omega (arith, below))
none_before (n ∷ names) zero h below = refl
none_before (n ∷ names) (suc k) h below =
    let apart = not_true (is_among names n) (first_so (not (is_among names n)) (are_distinct names) h) in
    let here = differs n names k apart (omega (arith, below)) in
    let rest = none_before names k (second_so (not (is_among names n)) (are_distinct names) h) (omega (arith, below)) in
    rw (here, rest) refl

-- so the next name is new
pub next_is_new : {M : Type 0} (name : M → List ℕ) (messages : List M) (k : ℕ) (m : M) (word : List ℕ) (taken : List (List ℕ)) → are_distinct (map name messages) ≡ true
    → slice_get messages k ≡ Some m → word ≡ name m → taken ≡ map name (take k messages) → place_of word taken ≡ None
next_is_new name messages k m word taken h at w t =
    let within = slice_get_within messages k m at in
    let size : k < length (map name messages) = rw (length_named name messages) within in
    let there : get_or (map name messages) k [] ≡ name m = get_or_from_slice_get (map name messages) k (name m) [] (slice_get-map name messages k ∙ ap (option_map name) at) in
    let front : taken ≡ take k (map name messages) = t ∙ taken_named name messages k in
    ap (λ (x : List ℕ). place_of x taken) (w ∙ sym there) ∙ (ap (place_of (get_or (map name messages) k [])) front
    ∙ nowhere (get_or (map name messages) k []) (take k (map name messages)) (none_before (map name messages) k h size))
  where
    length_named : {M : Type 0} (name : M → List ℕ) (messages : List M) → length (map name messages) ≡ length messages
    length_named name [] = refl
    length_named name (m ∷ messages) = ap suc (length_named name messages)

    taken_named : {M : Type 0} (name : M → List ℕ) (messages : List M) (k : ℕ) → map name (take k messages) ≡ take k (map name messages)
    taken_named name messages zero = refl
    taken_named name [] (suc k) = refl
    taken_named name (m ∷ messages) (suc k) = ap (λ (x : List (List ℕ)). name m ∷ x) (taken_named name messages k)

-- ---- an interface's messages

pub named_messages : (ms : List Message) → map (λ (m : Message). m.name.bytes.items) ms ≡ map (λ (m : TheMessage). m.name) (map message_of ms)
named_messages [] = refl
named_messages (m ∷ ms) = ap (λ (x : List (List ℕ)). m.name.bytes.items ∷ x) (named_messages ms)

-- an interface within the limits has no two messages of one name
pub messages_differ : (name : List ℕ) (ms items : List Message) → is_within_limits (record { name = name; messages = map message_of ms }) ≡ true → items ≡ ms
    → are_distinct (map (λ (m : Message). m.name.bytes.items) items) ≡ true
messages_differ name ms items h e =
    let i : TheInterface = record { name = name; messages = map message_of ms } in
    let names : List (List ℕ) = map (λ (m : TheMessage). m.name) i.messages in
    let more = second_so (nat_le (length i.messages) 256) (are_distinct names && are_messages_within i.messages) h in
    ap (λ (x : List Message). are_distinct (map (λ (m : Message). m.name.bytes.items) x)) e
    ∙ (ap are_distinct (named_messages ms) ∙ first_so (are_distinct names) (are_messages_within i.messages) more)
