-- Routes that may be asked for, in the world and in the machine; and no entry of a binding that isn't there.
use Rattle.std.proofs.Common.{◌≡◌, refl, sym, ◌∙◌, ap, ℕ, zero, suc, ◌-◌, ◌/◌, ◌%◌, ◌<◌, ◌==◌, ◌||◌, ◌&&◌, nat_le, nat_lt, not, Bool, true, false, if◌then◌else◌, List, [], ◌∷◌, length, map, slice_get, slice_index, position, Option, Some, None, arith}
use Rattle.std.specs.List.{list_any, list_all, position_or_len}
use Rattle.std.proofs.lemmas.Bool.{eq-eqb}
use Rattle.std.proofs.lemmas.Bool.Decides.{nat_tests}
use Rattle.fl_base.specs.declared.identity.CoreId.{CoreId}
use Rattle.fl_base.specs.Given.{given}
use Rattle.fl_base.specs.Numbered.{core_id}
use Rattle.fl_hop.specs.declared.links.LinkState.{LinkState}
use Rattle.fl_hop.specs.declared.entry.Hop.{Hop}
use Rattle.fl_hop.specs.Table.{TheCircuits, is_of, stands, slot, link_of}
use Rattle.fl_hop.proofs.Counting.{none_there}
use Rattle.fl_hop.proofs.Lists.{within, at_within}
use Rattle.fl_monitor.specs.Routing.{is_core as is_core_id, all_differ as all_cores_differ, is_route as is_monitor_route}
use Rattle.fl_monitor.specs.Monitors.{first_link}
use Rattle.fl_model.specs.Monitors.{Core, link_to}
use Rattle.fl_model.specs.State.{State, core_of}
use Rattle.fl_model.specs.Binding.{all_differ, is_route}
use Rattle.fl_model.specs.Sound.{Sound}
use Rattle.fl_model.specs.SoundEntries.{EntryAt}
use Rattle.fl_lists.specs.ThreeLists.{is_in}
use Rattle.fl_model_laws.proofs.OpeningsMoves.{names_to}
use Rattle.fl_model_laws.proofs.Small.{both_are}
use Rattle.fl_model_laws.proofs.TableSteps.{there_stands}
use Rattle.fl_world_refines.specs.View.{TheWorld}
use Rattle.fl_world_refines.specs.Binding.{may_be_route}
use Rattle.fl_world_refines.proofs.MakingBase.{any_map, length_map}

-- ---- tests

six : (a b c d e f a2 b2 c2 d2 e2 f2 : Bool) → a ≡ a2 → b ≡ b2 → c ≡ c2 → d ≡ d2 → e ≡ e2 → f ≡ f2 → (a && b && c && d && e && f) ≡ (a2 && b2 && c2 && d2 && e2 && f2)
six a b c d e f a2 b2 c2 d2 e2 f2 p q r t u v = cc

pub in_range : (cores : List ℕ) (n : ℕ) → list_all (λ (c : CoreId). nat_lt c.0 n) (map core_id cores) ≡ list_all (λ c. nat_lt c n) cores
in_range [] n = refl
in_range (x ∷ xs) n = ap (λ b. nat_lt x n && b) (in_range xs n)

differ : (cores : List ℕ) → all_cores_differ (map core_id cores) ≡ all_differ cores
differ [] = refl
differ (x ∷ xs) =
    ap (λ b. not b && all_cores_differ (map core_id xs)) (sym (any_map core_id (λ (c : CoreId). c.0 == x) xs))
    ∙ ap (λ b. not (is_in x xs) && b) (differ xs)

pub at_index : (cores : List ℕ) (n : ℕ) → n < length cores → slice_get (map core_id cores) n ≡ Some (core_id (slice_index cores n))
at_index [] n h = absurd (omega arith)
at_index (x ∷ xs) zero h = refl
at_index (x ∷ xs) (suc n) h = at_index xs n (omega arith)

-- what a core's monitor takes for a route is one
pub same_route : (cores : List ℕ) (client server n m : ℕ) → n ≡ m
    → is_monitor_route (map core_id cores) client server n
    ≡ (nat_le 2 (length cores) && nat_le (length cores) 16 && list_all (λ c. nat_lt c m) cores && (slice_index cores 0 == client)
    && (slice_index cores (length cores - 1) == server) && all_differ cores)
same_route [] client server n m h = refl
same_route (x ∷ xs) client server n m h =
    let path = map core_id (x ∷ xs) in
    let count = length_map core_id (x ∷ xs) in
    let last : slice_get path (length path - 1) ≡ Some (core_id (slice_index (x ∷ xs) (length (x ∷ xs) - 1))) =
    ap (λ c. slice_get path (c - 1)) count ∙ at_index (x ∷ xs) (length (x ∷ xs) - 1) (omega arith) in
    six _ _ _ _ _ _ _ _ _ _ _ _ (ap (nat_le 2) count) (ap (λ c. nat_le c 16) count) (ap (λ c. list_all (λ (z : CoreId). nat_lt z.0 c) path) h ∙ in_range (x ∷ xs) m) refl
    (ap (λ o. given o false (is_core_id server)) last) (differ (x ∷ xs))

-- ---- a route of the machine is one of the world

pub by_bool : (b : Bool) (T : Type 0) → (b ≡ true → T) → (b ≡ false → T) → T
by_bool true T f g = f refl
by_bool false T f g = g refl

all_four : (a b c d : Bool) → a ≡ true → b ≡ true → c ≡ true → d ≡ true → (a && b && c && d) ≡ true
all_four true true true true p q r t = refl
all_four false b c d p q r t = absurd (cc)
all_four true false c d p q r t = absurd (cc)
all_four true true false d p q r t = absurd (cc)
all_four true true true false p q r t = absurd (cc)

pub record RouteParts (cores : List ℕ) (client server n : ℕ) : Type 0 where
  pub some : nat_le 2 (length cores) ≡ true
  pub few : nat_le (length cores) 16 ≡ true
  pub within : list_all (λ c. nat_lt c n) cores ≡ true
  pub first : (slice_index cores 0 == client) ≡ true
  pub last : (slice_index cores (length cores - 1) == server) ≡ true
  pub apart : all_differ cores ≡ true

pub route_parts : (cores : List ℕ) (client server : ℕ) (s : State) → is_route cores client server s ≡ true → RouteParts cores client server (length s.cores)
route_parts cores client server s h =
    let (p5, f) = both_are (nat_le 2 (length cores) && nat_le (length cores) 16 && list_all (λ c. nat_lt c (length s.cores)) cores && (slice_index cores 0 == client)
    && (slice_index cores (length cores - 1) == server)) (all_differ cores) h in
    let (p4, e) = both_are (nat_le 2 (length cores) && nat_le (length cores) 16 && list_all (λ c. nat_lt c (length s.cores)) cores && (slice_index cores 0 == client))
    (slice_index cores (length cores - 1) == server) p5 in
    let (p3, d) = both_are (nat_le 2 (length cores) && nat_le (length cores) 16 && list_all (λ c. nat_lt c (length s.cores)) cores) (slice_index cores 0 == client) p4 in
    let (p2, c) = both_are (nat_le 2 (length cores) && nat_le (length cores) 16) (list_all (λ c. nat_lt c (length s.cores)) cores) p3 in
    let (a, b) = both_are (nat_le 2 (length cores)) (nat_le (length cores) 16) p2 in
    record { some = a; few = b; within = c; first = d; last = e; apart = f }

pub no_world_route : (cores : List ℕ) (client server : ℕ) (w : TheWorld) (s : State) → length w.cores ≡ length s.cores → may_be_route cores w ≡ false
    → is_route cores client server s ≡ false
no_world_route cores client server w s same h =
    by_bool (is_route cores client server s) (is_route cores client server s ≡ false)
    (λ q. (let r = route_parts cores client server s q in
    let may : may_be_route cores w ≡ true = all_four _ _ _ _ r.some r.few (ap (λ n. list_all (λ c. nat_lt c n) cores) same ∙ r.within) r.apart in
    absurd (let e : true ≡ false = sym may ∙ h in cc)))
    (λ q. q)

-- ---- the first link of a route

then_is : {X : Type 0} (b : Bool) (x y : X) → b ≡ true → (if b then x else y) ≡ x
then_is b x y h = ap (λ t. if t then x else y) h

else_is : {X : Type 0} (b : Bool) (x y : X) → b ≡ false → (if b then x else y) ≡ y
else_is b x y h = ap (λ t. if t then x else y) h

module _ (cores : List ℕ) (server : ℕ) (w : TheWorld) (s : State) (k : Core) (n : ℕ) (t : TheCircuits) (same : t ≡ k.circuits) (number : k.circuits.core ≡ n)
    (count : length w.cores ≡ length s.cores) where
  routes_agree : is_monitor_route (map core_id cores) t.core server (length w.cores) ≡ is_route cores n server s
  routes_agree =
      same_route cores t.core server (length w.cores) (length s.cores) count
      ∙ ap (λ c. nat_le 2 (length cores) && nat_le (length cores) 16 && list_all (λ z. nat_lt z (length s.cores)) cores && (slice_index cores 0 == c)
      && (slice_index cores (length cores - 1) == server) && all_differ cores) (ap (λ (z : TheCircuits). z.core) same ∙ number)

  pub first_true : is_route cores n server s ≡ true → first_link t (map core_id cores) server (length w.cores) ≡ link_to (slice_index cores 1) k
  first_true h =
      let parts = route_parts cores n server s h in
      let long : 1 < length cores = (let r = parts.some in grind (arith, nat_tests, r)) in
      then_is (is_monitor_route (map core_id cores) t.core server (length w.cores)) _ _ (routes_agree ∙ h)
      ∙ ap (λ o. given o None (λ (c : CoreId). link_of t c.0)) (at_index cores 1 long)
      ∙ ap (λ (z : TheCircuits). link_of z (slice_index cores 1)) same

  pub first_false : is_route cores n server s ≡ false → first_link t (map core_id cores) server (length w.cores) ≡ None
  first_false h = else_is (is_monitor_route (map core_id cores) t.core server (length w.cores)) _ _ (routes_agree ∙ h)

-- ---- links by their neighbours

pub place_within : {X : Type 0} (p : X → Bool) (xs : List X) (i : ℕ) → position p xs ≡ Some i → i < length xs
place_within p xs i q = by (nat_lt (position_or_len p xs) (length xs)) refl q
  where
    by : (b : Bool) → nat_lt (position_or_len p xs) (length xs) ≡ b → (if b then Some (position_or_len p xs) else None) ≡ Some i → i < length xs
    by true e h = let same : position_or_len p xs ≡ i = cc in grind (arith, nat_tests, e, same)
    by false e h = absurd (cc)

pub link_within : (k : Core) (b l : ℕ) → link_to b k ≡ Some l → l < length k.circuits.links
link_within k b l h = place_within (λ (a : LinkState). a.neighbour.0 == b) k.circuits.links l h

-- ---- no entry of the next binding

any_there : {X : Type 0} (p : X → Bool) (xs : List X) → list_any p xs ≡ true → (i : ℕ) × ((x : X) × (slice_get xs i ≡ Some x) × (p x ≡ true))
any_there p [] h = absurd (cc)
any_there {X} p (x ∷ xs) h = by (p x) refl h (λ r. any_there p xs r)
  where
    by : (b : Bool) → p x ≡ b → (b || list_any p xs) ≡ true → (list_any p xs ≡ true → (i : ℕ) × ((y : X) × (slice_get xs i ≡ Some y) × (p y ≡ true)))
        → (i : ℕ) × ((y : X) × (slice_get (x ∷ xs) i ≡ Some y) × (p y ≡ true))
    by true q r f = (0, (x, refl, q))
    by false q r f = (let e = f r in (suc e.0, e.1))

module _ (s : State) (sound : Sound s) (n : ℕ) (k : Core) (at : core_of s n ≡ Some k) where
  -- the link at a place is found by its neighbour
  named_there : (l : ℕ) (a : LinkState) → slice_get k.circuits.links l ≡ Some a → link_to a.neighbour.0 k ≡ Some l
  named_there l a q = by (link_to a.neighbour.0 k) refl
    where
      by : (o : Option ℕ) → link_to a.neighbour.0 k ≡ o → o ≡ Some l
      by None r = absurd (let e : true ≡ false = sym (eq-eqb a.neighbour.0 a.neighbour.0 refl)
          ∙ none_there (λ (b : LinkState). b.neighbour.0 == a.neighbour.0) k.circuits.links r l a q in cc)
      by (Some m) r =
          (let (b, bt) = at_within k.circuits.links m (link_within k a.neighbour.0 m r) in
          let same : b.neighbour.0 ≡ a.neighbour.0 = names_to a.neighbour.0 m k.circuits.links b r bt in
          ap (λ z. Some z) ((sound.cores n k at).table.once m l b a bt q same))

  no_hop : (j : ℕ) (hop : Hop) → slice_get k.circuits.hops j ≡ Some (Some hop) → hop.binding ≡ length s.bindings → ⊥
  no_hop j hop q next =
      let table = (sound.cores n k at).table in
      let few = within k.circuits.hops j (Some hop) q in
      let whole = table.whole in
      let l : ℕ = j / 2047 in
      let r : ℕ = j % 2047 in
      let is : j ≡ slot l r = omega arith in
      let inside : l < length k.circuits.links = omega (arith, few, whole) in
      let (a, there) = at_within k.circuits.links l inside in
      let entry : EntryAt s (record { core = n; neighbour = a.neighbour.0; number = r }) hop = record {
        core = k;
        core_is = at;
        link = l;
        link_is = named_there l a there;
        there = there_stands k.circuits l r (Some hop) (omega arith) (ap (slice_get k.circuits.hops) (sym is) ∙ q);
      } in
      let (route, routed, rest) = sound.only_entries (record { core = n; neighbour = a.neighbour.0; number = r }) hop entry in
      let small = within s.bindings hop.binding routed.binding routed.there in
      absurd (omega (arith, small, next))

  pub none_stands : stands k.circuits (length s.bindings) ≡ false
  none_stands = by_bool (stands k.circuits (length s.bindings)) (stands k.circuits (length s.bindings) ≡ false) (λ q. absurd (found q)) (λ q. q)
    where
      found : stands k.circuits (length s.bindings) ≡ true → ⊥
      found q =
          let (j, o) = any_there (is_of (length s.bindings)) k.circuits.hops q in
          one j o.0 o.1 o.2
        where
          one : (j : ℕ) (o : Option Hop) → slice_get k.circuits.hops j ≡ Some o → is_of (length s.bindings) o ≡ true → ⊥
          one j None r u = absurd (cc)
          one j (Some hop) r u = no_hop j hop r (grind (arith, nat_tests, u))
