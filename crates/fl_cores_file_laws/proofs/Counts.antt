-- Lists that are counted: what is found in one, one more of a kind, and one more at a place.
use Rattle.std.proofs.Common.{◌≡◌, refl, sym, ◌∙◌, ap, ℕ, zero, suc, ◌+◌, ◌≤◌, ◌==◌, ◌||◌, ◌&&◌, nat_lt, not, cond, Bool, true, false, List, [], ◌∷◌, ◌++◌, length, length-append, map, slice_get, position, sum, is_some, Option, Some, None, option_map, arith}
use Rattle.std.specs.List.{list_any, count_by, position_or_len}
use Rattle.std.proofs.lemmas.Bool.Decides.{nat_tests}
use Rattle.std.proofs.lemmas.List.Folds.{list_any-append}
use Rattle.std.proofs.lemmas.List.Sums.{sum_by-append}
use Rattle.fl_base.specs.Given.{given}
use Rattle.fl_hop.specs.declared.links.LinkState.{LinkState}
use Rattle.fl_hop.specs.Table.{TheCircuits, link_of}
use Rattle.fl_model.specs.Given.{changed_at}
use Rattle.fl_model.specs.Binding.{same_dispatcher}
use Rattle.fl_model.specs.Events.{DispatcherId}
use Rattle.fl_model_laws.proofs.Places.{changed_other, changed_same}
use Rattle.fl_model_laws.proofs.Replies.{length_changed}
use Rattle.fl_model_laws.proofs.Views.{map_changed, map_kept, changed_later}
use Rattle.fl_cores_file_laws.proofs.Views.{ends_at, table_linked, one_more, seated}

-- ---- tests

pub is_same : (a b : ℕ) → (a == b) ≡ true → a ≡ b
is_same a b h = grind (arith, nat_tests, h)

pub is_other : (a b : ℕ) → (a == b) ≡ false → b ≡ a → ⊥
is_other a b h e = grind (arith, nat_tests, h, e)

pub eq_sym : (a b : ℕ) → (a == b) ≡ (b == a)
eq_sym a b = by (a == b) refl (b == a) refl
  where
    by : (c : Bool) → (a == b) ≡ c → (d : Bool) → (b == a) ≡ d → c ≡ d
    by true p true q = refl
    by false p false q = refl
    by true p false q = absurd (grind (arith, nat_tests, p, q))
    by false p true q = absurd (grind (arith, nat_tests, p, q))

-- ---- what is found

pos_any : {X : Type 0} (p : X → Bool) (xs : List X) → nat_lt (position_or_len p xs) (length xs) ≡ list_any p xs
pos_any p [] = refl
pos_any {X} p (x ∷ xs) = by (p x) (pos_any p xs)
  where
    next : (k n : ℕ) (c : Bool) → nat_lt k n ≡ c → nat_lt (1 + k) (suc n) ≡ c
    next k n true q = grind (arith, nat_tests, q)
    next k n false q = grind (arith, nat_tests, q)

    by : (b : Bool) → nat_lt (position_or_len p xs) (length xs) ≡ list_any p xs
        → nat_lt (cond (not b) (1 + position_or_len p xs) 0) (suc (length xs)) ≡ (b || list_any p xs)
    by true h = grind (arith, nat_tests)
    by false h = next (position_or_len p xs) (length xs) (list_any p xs) h

pub found_any : {X : Type 0} (p : X → Bool) (xs : List X) → is_some (position p xs) ≡ list_any p xs
found_any p xs = by (nat_lt (position_or_len p xs) (length xs)) (pos_any p xs)
  where
    by : (b : Bool) → b ≡ list_any p xs → is_some (cond b (Some (position_or_len p xs)) None) ≡ list_any p xs
    by true h = h
    by false h = h

-- through a view
pub any_seen : {X Y : Type 0} (p : Y → Bool) (v : X → Y) (xs : List X) → list_any (λ x. p (v x)) xs ≡ list_any p (map v xs)
any_seen p v [] = refl
any_seen p v (x ∷ xs) = ap (λ b. p (v x) || b) (any_seen p v xs)

pos_seen : {X Y : Type 0} (p : Y → Bool) (v : X → Y) (xs : List X) → position_or_len (λ x. p (v x)) xs ≡ position_or_len p (map v xs)
pos_seen p v [] = refl
pos_seen p v (x ∷ xs) = ap (λ n. cond (not (p (v x))) (1 + n) 0) (pos_seen p v xs)

len_seen : {X Y : Type 0} (v : X → Y) (xs : List X) → length xs ≡ length (map v xs)
len_seen v [] = refl
len_seen v (x ∷ xs) = ap (λ n. suc n) (len_seen v xs)

pub place_seen : {X Y : Type 0} (p : Y → Bool) (v : X → Y) (xs : List X) → position (λ x. p (v x)) xs ≡ position p (map v xs)
place_seen p v xs =
    ap (λ n. cond (nat_lt n (length xs)) (Some n) None) (pos_seen p v xs)
    ∙ ap (λ n. cond (nat_lt (position_or_len p (map v xs)) n) (Some (position_or_len p (map v xs))) None) (len_seen v xs)

-- ---- what stands at a place

pub within : {X : Type 0} (xs : List X) (n : ℕ) → nat_lt n (length xs) ≡ is_some (slice_get xs n)
within [] n = by n
  where
    by : (n : ℕ) → nat_lt n 0 ≡ false
    by n = grind (arith, nat_tests)
within (x ∷ xs) zero = grind (arith, nat_tests)
within {X} (x ∷ xs) (suc n) = next (nat_lt n (length xs)) refl (within xs n)
  where
    next : (b : Bool) → nat_lt n (length xs) ≡ b → b ≡ is_some (slice_get xs n) → nat_lt (suc n) (suc (length xs)) ≡ is_some (slice_get xs n)
    next true q h = (let is : nat_lt (suc n) (suc (length xs)) ≡ true = grind (arith, nat_tests, q) in is) ∙ h
    next false q h = (let is : nat_lt (suc n) (suc (length xs)) ≡ false = grind (arith, nat_tests, q) in is) ∙ h

-- ---- one more of a kind

pub counted_more : {X : Type 0} (p : X → Bool) (xs : List X) (x : X) → count_by p (xs ++ x ∷ []) ≡ count_by p xs + cond (p x) 1 0
counted_more p xs x = let more = sum_by-append (λ y. cond (p y) 1 0) xs (x ∷ []) in omega (arith, more)

-- and one more in all
pub one_longer : {X : Type 0} (n : ℕ) (xs : List X) (x : X) → n ≤ length xs → n + 1 ≤ length (xs ++ x ∷ [])
one_longer n xs x h = let long = length-append xs (x ∷ []) in omega (arith, h, long)

pub no_shorter : {X : Type 0} (xs : List X) (x : X) → length xs ≤ length (xs ++ x ∷ [])
no_shorter xs x = let long = length-append xs (x ∷ []) in omega (arith, long)

-- ---- links

-- core x has a link to core y
abbrev pub links_to : List TheCircuits → ℕ → ℕ → Bool
links_to ts x y = given (slice_get ts x) false λ t. is_some (link_of t y)

linked_any : (t : TheCircuits) (b y : ℕ) → is_some (link_of (table_linked b t) y) ≡ (is_some (link_of t y) || (b == y))
linked_any t b y =
    let p : LinkState → Bool = λ link. link.neighbour.0 == y in
    found_any p (table_linked b t).links ∙ list_any-append p t.links _
    ∙ ap (λ c. c || ((b == y) || false)) (sym (found_any p t.links)) ∙ ap (λ c. is_some (link_of t y) || c) (or_false (b == y))
  where
    or_false : (c : Bool) → (c || false) ≡ c
    or_false true = refl
    or_false false = refl

-- a link that core a has to core b
pub one_linked : (ts : List TheCircuits) (a b x y : ℕ) → is_some (slice_get ts a) ≡ true
    → links_to (changed_at a (table_linked b) ts) x y ≡ (links_to ts x y || ((a == x) && (b == y)))
one_linked ts a b x y there = by (a == x) refl
  where
    or_false : (c : Bool) → c ≡ (c || false)
    or_false true = refl
    or_false false = refl

    here : (o : Option TheCircuits) → is_some o ≡ true
        → given (option_map (table_linked b) o) false (λ t. is_some (link_of t y)) ≡ (given o false (λ t. is_some (link_of t y)) || (b == y))
    here None h = absurd (cc)
    here (Some t) h = linked_any t b y

    by : (c : Bool) → (a == x) ≡ c → links_to (changed_at a (table_linked b) ts) x y ≡ (links_to ts x y || (c && (b == y)))
    by true q =
        ap (λ n. links_to (changed_at a (table_linked b) ts) n y) (sym (is_same a x q))
        ∙ ap (λ (o : Option TheCircuits). given o false (λ t. is_some (link_of t y))) (changed_same ts a (table_linked b))
        ∙ here (slice_get ts a) there
        ∙ ap (λ n. links_to ts n y || (b == y)) (is_same a x q)
    by false q =
        ap (λ (o : Option TheCircuits). given o false (λ t. is_some (link_of t y))) (changed_other ts a x (table_linked b) (is_other a x q))
        ∙ or_false (links_to ts x y)

-- ---- how many dispatchers each core has

abbrev pub sizes : List (List ℕ) → List ℕ
sizes es = map (λ (ns : List ℕ). length ns) es

abbrev pub size_at : List (List ℕ) → ℕ → ℕ
size_at es core = given (slice_get (sizes es) core) 0 λ n. n

pub longer : (es : List (List ℕ)) (core : ℕ) → sizes (changed_at core one_more es) ≡ changed_at core (λ n. n + 1) (sizes es)
longer es core = map_changed (λ (ns : List ℕ). length ns) one_more (λ n. n + 1) es core (λ ns q. more ns)
  where
    more : (ns : List ℕ) → length (ns ++ 0 ∷ []) ≡ length ns + 1
    more [] = refl
    more (n ∷ ns) = let h = more ns in omega (arith, h)

pub sum_more : (ns : List ℕ) (n : ℕ) → is_some (slice_get ns n) ≡ true → sum (changed_at n (λ k. k + 1) ns) ≡ sum ns + 1
sum_more [] n h = absurd (cc)
sum_more (x ∷ xs) zero h =
    let a = sum_by-append (λ (k : ℕ). k) ((x + 1) ∷ []) xs in let b = sum_by-append (λ (k : ℕ). k) (x ∷ []) xs in omega (arith, a, b)
sum_more (x ∷ xs) (suc n) h =
    let a = sum_by-append (λ (k : ℕ). k) (x ∷ []) (changed_at n (λ k. k + 1) xs) in
    let b = sum_by-append (λ (k : ℕ). k) (x ∷ []) xs in
    let c : sum (changed_at (suc n) (λ k. k + 1) (x ∷ xs)) ≡ sum (x ∷ changed_at n (λ k. k + 1) xs) = ap sum (changed_later x xs n (λ k. k + 1)) in
    let d = sum_more xs n h in omega (arith, a, b, c, d)

pub size_more : (ns : List ℕ) (n x : ℕ) → is_some (slice_get ns n) ≡ true
    → given (slice_get (changed_at n (λ k. k + 1) ns) x) 0 (λ k. k) ≡ given (slice_get ns x) 0 (λ k. k) + cond (n == x) 1 0
size_more ns n x there = by (n == x) refl
  where
    here : (o : Option ℕ) → is_some o ≡ true → given (option_map (λ k. k + 1) o) 0 (λ k. k) ≡ given o 0 (λ k. k) + 1
    here None h = absurd (cc)
    here (Some k) h = refl

    by : (c : Bool) → (n == x) ≡ c → given (slice_get (changed_at n (λ k. k + 1) ns) x) 0 (λ k. k) ≡ given (slice_get ns x) 0 (λ k. k) + cond c 1 0
    by true q =
        ap (λ m. given (slice_get (changed_at n (λ k. k + 1) ns) m) 0 (λ k. k)) (sym (is_same n x q))
        ∙ ap (λ (o : Option ℕ). given o 0 (λ k. k)) (changed_same ns n (λ k. k + 1)) ∙ here (slice_get ns n) there
        ∙ ap (λ m. given (slice_get ns m) 0 (λ k. k) + 1) (is_same n x q)
    by false q =
        let same = ap (λ (o : Option ℕ). given o 0 (λ k. k)) (changed_other ns n x (λ k. k + 1) (is_other n x q)) in omega (arith, same)

-- ---- how many ends each dispatcher has

abbrev pub many_at : List (List ℕ) → DispatcherId → ℕ
many_at es x = given (ends_at es x) 0 λ n. n

abbrev inner : DispatcherId → List ℕ → List ℕ
inner d ns = changed_at d.place (λ n. n + 1) ns

-- one end more at dispatcher d
pub seat_more : (es : List (List ℕ)) (d x : DispatcherId) → is_some (ends_at es d) ≡ true
    → many_at (seated d es) x ≡ many_at es x + cond (same_dispatcher x d) 1 0
seat_more es d x there = by (d.core == x.core) refl
  where
    flip : (d.core == x.core) ≡ true → same_dispatcher x d ≡ (d.place == x.place)
    flip q = ap (λ b. b && (x.place == d.place)) (eq_sym x.core d.core ∙ q) ∙ eq_sym x.place d.place

    none : (d.core == x.core) ≡ false → same_dispatcher x d ≡ false
    none q = ap (λ b. b && (x.place == d.place)) (eq_sym x.core d.core ∙ q)

    here : (o : Option (List ℕ)) → is_some (given o None (λ ns. slice_get ns d.place)) ≡ true
        → given (given (option_map (inner d) o) None (λ ns. slice_get ns x.place)) 0 (λ n. n)
        ≡ given (given o None (λ ns. slice_get ns x.place)) 0 (λ n. n) + cond (d.place == x.place) 1 0
    here None h = absurd (cc)
    here (Some ns) h = size_more ns d.place x.place h

    by : (c : Bool) → (d.core == x.core) ≡ c → many_at (seated d es) x ≡ many_at es x + cond (same_dispatcher x d) 1 0
    by true q =
        ap (λ core. given (given (slice_get (seated d es) core) None (λ ns. slice_get ns x.place)) 0 (λ n. n)) (sym (is_same d.core x.core q))
        ∙ ap (λ (o : Option (List ℕ)). given (given o None (λ ns. slice_get ns x.place)) 0 (λ n. n)) (changed_same es d.core (inner d))
        ∙ here (slice_get es d.core) there
        ∙ ap (λ core. given (given (slice_get es core) None (λ ns. slice_get ns x.place)) 0 (λ n. n) + cond (d.place == x.place) 1 0) (is_same d.core x.core q)
        ∙ ap (λ b. many_at es x + cond b 1 0) (sym (flip q))
    by false q =
        let same = ap (λ (o : Option (List ℕ)). given (given o None (λ ns. slice_get ns x.place)) 0 (λ n. n)) (changed_other es d.core x.core (inner d) (is_other d.core x.core q)) in
        let more : cond (same_dispatcher x d) 1 0 ≡ 0 = ap (λ b. let m : ℕ = cond b 1 0 in m) (none q) in omega (arith, same, more)

-- dispatchers stay there
pub seat_keeps : (es : List (List ℕ)) (d x : DispatcherId) → is_some (ends_at (seated d es) x) ≡ is_some (ends_at es x)
seat_keeps es d x = by (d.core == x.core) refl
  where
    count : (ns : List ℕ) → is_some (slice_get (inner d ns) x.place) ≡ is_some (slice_get ns x.place)
    count ns = sym (within (inner d ns) x.place) ∙ ap (nat_lt x.place) (length_changed ns d.place (λ n. n + 1)) ∙ within ns x.place

    here : (o : Option (List ℕ)) → is_some (given (option_map (inner d) o) None (λ ns. slice_get ns x.place)) ≡ is_some (given o None (λ ns. slice_get ns x.place))
    here None = refl
    here (Some ns) = count ns

    by : (c : Bool) → (d.core == x.core) ≡ c → is_some (ends_at (seated d es) x) ≡ is_some (ends_at es x)
    by true q =
        ap (λ core. is_some (given (slice_get (seated d es) core) None (λ ns. slice_get ns x.place))) (sym (is_same d.core x.core q))
        ∙ ap (λ (o : Option (List ℕ)). is_some (given o None (λ ns. slice_get ns x.place))) (changed_same es d.core (inner d))
        ∙ here (slice_get es d.core)
        ∙ ap (λ core. is_some (given (slice_get es core) None (λ ns. slice_get ns x.place))) (is_same d.core x.core q)
    by false q = ap (λ (o : Option (List ℕ)). is_some (given o None (λ ns. slice_get ns x.place))) (changed_other es d.core x.core (inner d) (is_other d.core x.core q))

pub seat_sizes : (es : List (List ℕ)) (d : DispatcherId) → sizes (seated d es) ≡ sizes es
seat_sizes es d = map_kept (λ (ns : List ℕ). length ns) _ es d.core (λ ns q. length_changed ns d.place (λ n. n + 1))

-- a new dispatcher has no ends, and the others as many as before
pub new_many : (es : List (List ℕ)) (core : ℕ) (x : DispatcherId) → many_at (changed_at core one_more es) x ≡ many_at es x
new_many es core x = by (core == x.core) refl
  where
    past : (ns : List ℕ) (n : ℕ) → given (slice_get (ns ++ 0 ∷ []) n) 0 (λ k. k) ≡ given (slice_get ns n) 0 (λ k. k)
    past [] zero = refl
    past [] (suc n) = refl
    past (k ∷ ns) zero = refl
    past (k ∷ ns) (suc n) = past ns n

    here : (o : Option (List ℕ)) → given (given (option_map one_more o) None (λ ns. slice_get ns x.place)) 0 (λ n. n)
        ≡ given (given o None (λ ns. slice_get ns x.place)) 0 (λ n. n)
    here None = refl
    here (Some ns) = past ns x.place

    by : (c : Bool) → (core == x.core) ≡ c → many_at (changed_at core one_more es) x ≡ many_at es x
    by true q =
        ap (λ m. given (given (slice_get (changed_at core one_more es) m) None (λ ns. slice_get ns x.place)) 0 (λ n. n)) (sym (is_same core x.core q))
        ∙ ap (λ (o : Option (List ℕ)). given (given o None (λ ns. slice_get ns x.place)) 0 (λ n. n)) (changed_same es core one_more)
        ∙ here (slice_get es core)
        ∙ ap (λ m. given (given (slice_get es m) None (λ ns. slice_get ns x.place)) 0 (λ n. n)) (is_same core x.core q)
    by false q =
        ap (λ (o : Option (List ℕ)). given (given o None (λ ns. slice_get ns x.place)) 0 (λ n. n)) (changed_other es core x.core one_more (is_other core x.core q))

pub new_keeps : (es : List (List ℕ)) (core : ℕ) (x : DispatcherId) → is_some (ends_at es x) ≡ true → is_some (ends_at (changed_at core one_more es) x) ≡ true
new_keeps es core x h = by (core == x.core) refl
  where
    past : (ns : List ℕ) (n : ℕ) → is_some (slice_get ns n) ≡ true → is_some (slice_get (ns ++ 0 ∷ []) n) ≡ true
    past [] n q = absurd (cc)
    past (k ∷ ns) zero q = refl
    past (k ∷ ns) (suc n) q = past ns n q

    here : (o : Option (List ℕ)) → is_some (given o None (λ ns. slice_get ns x.place)) ≡ true
        → is_some (given (option_map one_more o) None (λ ns. slice_get ns x.place)) ≡ true
    here None q = q
    here (Some ns) q = past ns x.place q

    by : (c : Bool) → (core == x.core) ≡ c → is_some (ends_at (changed_at core one_more es) x) ≡ true
    by true q =
        ap (λ m. is_some (given (slice_get (changed_at core one_more es) m) None (λ ns. slice_get ns x.place))) (sym (is_same core x.core q))
        ∙ ap (λ (o : Option (List ℕ)). is_some (given o None (λ ns. slice_get ns x.place))) (changed_same es core one_more)
        ∙ here (slice_get es core) (ap (λ m. is_some (given (slice_get es m) None (λ ns. slice_get ns x.place))) (is_same core x.core q) ∙ h)
    by false q =
        ap (λ (o : Option (List ℕ)). is_some (given o None (λ ns. slice_get ns x.place))) (changed_other es core x.core one_more (is_other core x.core q)) ∙ h
