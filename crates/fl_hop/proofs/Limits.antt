-- Links of the cores of a world: fifteen of them are one to each other core.
use Rattle.std.proofs.Common.{◌≡◌, ◌≢◌, refl, sym, ap, ℕ, zero, suc, ◌<◌, ◌==◌, nat_lt, if◌then◌else◌, Bool, true, false, ◌⊎◌, inl, inr, List, [], ◌∷◌, ◌++◌, length, map, replicate, slice_get, slice_index_or, Option, Some, None, is_some, option_map, arith}
use Rattle.std.proofs.lemmas.Bool.{cases_eq}
use Rattle.std.proofs.lemmas.Bool.Decides.{nat_tests}
use Rattle.std.proofs.lemmas.List.{length-map}
use Rattle.std.proofs.lemmas.Map.Steps.{length-le_from_distinct_below}
use Rattle.std.proofs.Math.Dec.{eqb}
use Rattle.std.proofs.lemmas.List.Folds.{Any-from_list_any}
use Rattle.std.specs.List.{IsDistinct, AllByRecursion}
use Rattle.fl_base.specs.declared.identity.CoreId.{CoreId}
use Rattle.fl_hop.specs.declared.entry.Hop.{Hop}
use Rattle.fl_hop.specs.declared.links.LinkState.{LinkState}
use Rattle.fl_hop.specs.declared.fault.HopFault.TheVariants.{NoLink, Limit}
use Rattle.fl_hop.specs.Table.{TheCircuits, slot, link_of, link_fault, with_link}
use Rattle.fl_hop.specs.Joined.{Sound}
use Rattle.fl_hop.specs.Later.{Later, unanswered}
use Rattle.fl_hop.specs.Limits.{AreCores}
use Rattle.fl_hop.proofs.Counting.{grown_push, opened_stays, taken_stays, none_there, unlike_core}
use Rattle.fl_hop.proofs.Laws.{not_eq, is_eq}

-- a number that is no link's core is unlike each of them
unlike_all : (n : ℕ) (links : List LinkState) → ((l : ℕ) (a : LinkState) → slice_get links l ≡ Some a → n ≢ a.neighbour.0) → AllByRecursion (λ y. eqb n y ≡ false) (map (λ (a : LinkState). a.neighbour.0) links)
unlike_all n [] h = tt
unlike_all n (a ∷ links) h = (not_eq n a.neighbour.0 (h 0 a refl), unlike_all n links (λ l b at. h (suc l) b at))

-- no two links go to one core
each_once : (links : List LinkState) → ((l m : ℕ) (a b : LinkState) → slice_get links l ≡ Some a → slice_get links m ≡ Some b → a.neighbour.0 ≡ b.neighbour.0 → l ≡ m) → IsDistinct eqb (map (λ (a : LinkState). a.neighbour.0) links)
unfolding IsDistinct
each_once [] once = tt
each_once (a ∷ links) once = (
  unlike_all a.neighbour.0 links (λ l b at e. let no = once 0 (suc l) a b refl at e in absurd (omega (arith, no))),
  each_once links (λ l m b c at there e. let same = once (suc l) (suc m) b c at there e in omega (arith, same)),
)

equal_is : (q n : ℕ) → eqb q n ≡ true → q ≡ n
equal_is q n e = grind (arith, nat_tests, e)

-- a core at a place of the list is a link's
mapped : (links : List LinkState) (j x : ℕ) → j < length (map (λ (a : LinkState). a.neighbour.0) links) → slice_index_or (map (λ (a : LinkState). a.neighbour.0) links) j x ≡ x → (a : LinkState) × (slice_get links j ≡ Some a) × (a.neighbour.0 ≡ x)
mapped [] j x few e = absurd (omega (arith, few))
mapped (a ∷ links) zero x few e = (a, refl, e)
mapped (a ∷ links) (suc j) x few e = mapped links j x (omega (arith, few)) e

below_at : (n core own : ℕ) (links : List LinkState) → core < n → own < n → ((l : ℕ) (a : LinkState) → slice_get links l ≡ Some a → a.neighbour.0 < n) → (k x : ℕ)
    → k < length (core ∷ own ∷ map (λ (a : LinkState). a.neighbour.0) links) → slice_index_or (core ∷ own ∷ map (λ (a : LinkState). a.neighbour.0) links) k x ≡ x → x < n
below_at n core own links a b h zero x few e = omega (arith, a, e)
below_at n core own links a b h (suc zero) x few e = omega (arith, b, e)
below_at n core own links a b h (suc (suc k)) x few e =
    let (link, at, is) = mapped links k x (omega (arith, few)) e in
    let less = h k link at in
    omega (arith, less, is)

distinct : (core own : ℕ) (links : List LinkState) → core ≢ own → AllByRecursion (λ y. eqb core y ≡ false) (map (λ (a : LinkState). a.neighbour.0) links) → AllByRecursion (λ y. eqb own y ≡ false) (map (λ (a : LinkState). a.neighbour.0) links) → IsDistinct eqb (map (λ (a : LinkState). a.neighbour.0) links) → IsDistinct eqb (core ∷ own ∷ map (λ (a : LinkState). a.neighbour.0) links)
unfolding IsDistinct
distinct core own links n x y z = ((not_eq core own n, x), (y, z))

-- fifteen links to other cores, and one to yet another, are sixteen cores besides this one
too_many : (core own : ℕ) (links : List LinkState) → core ≢ own → ((l : ℕ) (a : LinkState) → slice_get links l ≡ Some a → a.neighbour.0 ≢ own) → ((l : ℕ) (a : LinkState) → slice_get links l ≡ Some a → a.neighbour.0 ≢ core)
    → ((l m : ℕ) (a b : LinkState) → slice_get links l ≡ Some a → slice_get links m ≡ Some b → a.neighbour.0 ≡ b.neighbour.0 → l ≡ m)
    → core < 16 → own < 16 → ((l : ℕ) (a : LinkState) → slice_get links l ≡ Some a → a.neighbour.0 < 16) → length links < 15
too_many core own links two apart new once a b h =
    let all = core ∷ own ∷ map (λ (x : LinkState). x.neighbour.0) links in
    let d = distinct core own links two
    (unlike_all core links (λ l x at e. new l x at (sym e)))
    (unlike_all own links (λ l x at e. apart l x at (sym e)))
    (each_once links once) in
    let few = length-le_from_distinct_below all 16 d (λ q e.
    let (k, x, within, at, is) = Any-from_list_any (eqb q) all e in
    let less = below_at 16 core own links a b h k x within at in
    let same = equal_is q x is in
    omega (arith, less, same)) in
    omega (arith, few, length-map links (λ (x : LinkState). x.neighbour.0))

limit_step : (same there few : Bool) → few ≡ true → (if same then Some NoLink else if there then Some NoLink else if few then None else Some Limit) ≢ Some Limit
limit_step true there few e = λ h. absurd (cc)
limit_step false true few e = λ h. absurd (cc)
limit_step false false true e = λ h. absurd (cc)
limit_step false false false e = absurd (cc)

limit_other : (same there few : Bool) → (same ≡ true) ⊎ (there ≡ true) → (if same then Some NoLink else if there then Some NoLink else if few then None else Some Limit) ≢ Some Limit
limit_other true there few e = λ h. absurd (cc)
limit_other false true few e = λ h. absurd (cc)
limit_other false false few (inl e) = absurd (cc)
limit_other false false few (inr e) = absurd (cc)

some_none : {X : Type 0} (o : Option X) → (is_some o ≡ true) ⊎ (o ≡ None)
some_none None = inr refl
some_none (Some x) = inl refl

few_is : (n : ℕ) → n < 15 → nat_lt n 15 ≡ true
few_is n l = grind (arith, nat_tests, l)

pub links_suffice : (t : TheCircuits) (core : ℕ) → Sound t → AreCores t → core < 16 → link_fault t core ≢ Some Limit
links_suffice t core sound are less =
    elim (cases_eq core t.core) [
      | inl same ↦ limit_other (core == t.core) (is_some (link_of t core)) (nat_lt (length t.links) 15) (inl (is_eq core t.core same))
      | inr two ↦
          elim (some_none (link_of t core)) [
            | inl there ↦ limit_other (core == t.core) (is_some (link_of t core)) (nat_lt (length t.links) 15) (inr there)
            | inr none ↦
                limit_step (core == t.core) (is_some (link_of t core)) (nat_lt (length t.links) 15)
                (few_is (length t.links)
                (too_many core t.core t.links two sound.apart
                (λ l a at e. unlike_core a.neighbour.0 core (none_there (λ (b : LinkState). b.neighbour.0 == core) t.links none l a at) e)
                sound.once less are.own are.others))
          ]
    ]

-- A table with one more link.

index_fill : (n i : ℕ) → slice_index_or (replicate n None) i (let o : Option Hop = None in o) ≡ None
index_fill zero i = refl
index_fill (suc n) zero = refl
index_fill (suc n) (suc i) = index_fill n i

index_more : (hops : List (Option Hop)) (n i : ℕ) → slice_index_or (hops ++ replicate n None) i None ≡ slice_index_or hops i None
index_more [] n i = index_fill n i
index_more (h ∷ hops) n zero = refl
index_more (h ∷ hops) n (suc i) = index_more hops n i

pub later_link : (t : TheCircuits) (to : CoreId) → Later t (with_link t to)
later_link t to =
    let one : LinkState = record { neighbour = to; opened = 0; taken = 0 } in
    let g = grown_push t.links one in
    record {
      core = refl;
      here = opened_stays t.core t.links (t.links ++ one ∷ []) g;
      there = taken_stays t.core t.links (t.links ++ one ∷ []) g;
      kept = λ l n given.
          let entry : Option Hop → Option Hop = λ o. option_map unanswered (if nat_lt n 2047 then o else None) in
          inl (ap entry (index_more t.hops 2047 (slot l n)));
    }
