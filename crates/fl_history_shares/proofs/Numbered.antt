-- Rings' sides by number: each is its core's, once.
use Rattle.std.proofs.Common.{◌≡◌, refl, sym, ap, ◌∙◌, subst, ℕ, zero, suc, ◌+◌, ◌<◌, ◌≤◌, List, [], ◌∷◌, ◌++◌, length, map, take, get_or, slice_get, Some, arith}
use Rattle.std.specs.List.{range_with_len, AllByRecursion}
use Rattle.std.proofs.lemmas.List.{append_assoc, length-append, take_more, take_all}
use mathlib.Core.Option.{some}
use lib.ListN.{get_elem?}
use Rattle.fl_history_rings.specs.declared.board.RingEnds.{RingEnds}
use Rattle.fl_history_rings.specs.declared.board.SideEnd.{SideEnd}
use Rattle.fl_history_rings.specs.Rings.{sides_of, side_end}
use Rattle.fl_history_rings.specs.Cores.{IsRingOf, Owns}
use Rattle.fl_history_sides.specs.Core.{IsDistinct}
use Rattle.fl_cores_shares.specs.declared.shares.CoreShares.{CoreShares}
use Rattle.fl_cores_shares.specs.Shares.{Holdings, holding_at, own_things, own_before, holdings_in, Holds, Gives}
use Rattle.fl_history_shares.specs.Dealt.{owners_in, numbers_below}
use Rattle.fl_history_shares.specs.Dealing.{NumbersSides, AreMine, AreAllMine}
use Rattle.fl_history_shares.proofs.Own.{none_there, all_by_places, own_from, IsOwn, range_is, range_more}

-- ---- one ring more

pub owners_more : (rings : List RingEnds) (r : RingEnds) → owners_in (rings ++ r ∷ []) ≡ owners_in rings ++ r.first ∷ r.second ∷ []
owners_more [] r = refl
owners_more (x ∷ rings) r = ap (λ (xs : List ℕ). x.first ∷ x.second ∷ xs) (owners_more rings r)

-- the next number is given out
next_holds : (owner : ℕ) (d d2 : CoreShares ℕ) (count : ℕ) → Gives owner (length d.owners.items) d d2 → length d.owners.items ≡ count → Holds d (numbers_below count)
    → Holds d2 (numbers_below (count + 1))
next_holds owner d d2 count gives many holds =
    let next : 0 + count ≡ length d.owners.items = omega (arith, many) in
    subst (Holds d2) (ap (λ (x : ℕ). numbers_below count ++ x ∷ []) (sym next) ∙ sym (range_more 0 count)) (gives.holds (numbers_below count) holds)

next_many : (owner thing : ℕ) (d d2 : CoreShares ℕ) → Gives owner thing d d2 → length d2.owners.items ≡ length d.owners.items + 1
next_many owner thing d d2 gives = ap length gives.owners ∙ length-append d.owners.items (owner ∷ [])

ring_more : (cores : ℕ) (rings : List RingEnds) (r : RingEnds) (d m d2 : CoreShares ℕ) → NumbersSides cores rings d
    → Gives r.first (length d.owners.items) d m → Gives r.second (length m.owners.items) m d2 → NumbersSides cores (rings ++ r ∷ []) d2
ring_more cores rings r d m d2 so one two =
    let owners : d2.owners.items ≡ owners_in (rings ++ r ∷ []) =
    two.owners ∙ ap (λ (xs : List ℕ). xs ++ r.second ∷ []) one.owners ∙ append_assoc d.owners.items (r.first ∷ []) (r.second ∷ [])
    ∙ ap (λ (xs : List ℕ). xs ++ r.first ∷ r.second ∷ []) so.owners ∙ sym (owners_more rings r) in
    let count : length d.owners.items ≡ length (owners_in rings) = ap length so.owners in
    let first = next_many r.first (length d.owners.items) d m one in
    let second = next_many r.second (length m.owners.items) m d2 two in
    let more : length m.owners.items ≡ length (owners_in rings) + 1 = omega (arith, first, count) in
    let all : length (owners_in rings) + 1 + 1 ≡ length (owners_in (rings ++ r ∷ [])) =
    (let whole : length d2.owners.items ≡ length (owners_in (rings ++ r ∷ [])) = ap length owners in omega (arith, second, more, whole)) in
    record {
      owners = owners;
      holds = subst (λ (n : ℕ). Holds d2 (numbers_below n)) all
          (next_holds r.second m d2 (length (owners_in rings) + 1) two more (next_holds r.first d m (length (owners_in rings)) one count so.holds));
      cores_are = two.cores ∙ one.cores ∙ so.cores_are;
    }

pub one_ring_more : (cores : ℕ) (rings : List RingEnds) (k : ℕ) (r d0 : RingEnds) (d m d2 : CoreShares ℕ) → k < length rings → r ≡ get_or rings k d0
    → NumbersSides cores (take k rings) d → Gives r.first (length d.owners.items) d m → Gives r.second (length m.owners.items) m d2
    → NumbersSides cores (take (k + 1) rings) d2
one_ring_more cores rings k r d0 d m d2 below is so one two =
    let whole : take k rings ++ r ∷ [] ≡ take (k + 1) rings = ap (λ (x : RingEnds). take k rings ++ x ∷ []) is ∙ sym (take_more rings k d0 below) in
    subst (λ (rs : List RingEnds). NumbersSides cores rs d2) whole (ring_more cores (take k rings) r d m d2 so one two)

pub ring_at : (cores : ℕ) (rings : List RingEnds) (k : ℕ) (r d0 : RingEnds) → k < length rings → r ≡ get_or rings k d0 → AllByRecursion (IsRingOf cores) rings → IsRingOf cores r
ring_at cores [] k r d0 below is all = absurd (omega (arith, below))
ring_at cores (x ∷ rings) zero r d0 below is all = subst (IsRingOf cores) (sym is) all.0
ring_at cores (x ∷ rings) (suc k) r d0 below is all = ring_at cores rings k r d0 (omega (arith, below)) is all.1

-- ---- whose each is

pub owns_at : (rings : List RingEnds) (n core : ℕ) → slice_get (owners_in rings) n ≡ Some core → Owns (sides_of rings) n core
owns_at [] n core at = absurd (none_there core at)
owns_at (r ∷ rings) zero core at = let is : r.first ≡ core = cc in (side_end r.slots r.first, refl, is)
owns_at (r ∷ rings) (suc zero) core at = let is : r.second ≡ core = cc in (side_end r.slots r.second, refl, is)
owns_at (r ∷ rings) (suc (suc n)) core at = owns_at rings n core at

own_number : (core : ℕ) (owners : List ℕ) (count place k : ℕ) (own : IsOwn core owners (numbers_below count) place k) → own.number ≡ k
own_number core owners count place k own = let is = (range_is 0 count own.number k own.thing_is).0 in omega (arith, is)

numbers_mine : (rings : List RingEnds) (count core : ℕ) → AreMine (sides_of rings) core (own_things core (owners_in rings) (numbers_below count))
numbers_mine rings count core =
    let owners = owners_in rings in
    let numbers = own_things core owners (numbers_below count) in
    record {
      each = all_by_places (λ n. Owns (sides_of rings) n core) numbers λ place k at.
          let own = own_from core owners (numbers_below count) place k at in
          subst (λ (n : ℕ). Owns (sides_of rings) n core) (own_number core owners count place k own) (owns_at rings own.number core own.owner_is);
      apart = λ i j k at_i at_j.
          let one = own_from core owners (numbers_below count) i k at_i in
          let two = own_from core owners (numbers_below count) j k at_j in
          let same : one.number ≡ two.number = own_number core owners count i k one ∙ sym (own_number core owners count j k two) in
          sym one.before ∙ ap (λ (n : ℕ). own_before core n owners) same ∙ two.before;
    }

all_mine : (ends : List SideEnd) (own : ℕ → List ℕ) → ((core : ℕ) → AreMine ends core (own core)) → (core : ℕ) (holdings : Holdings ℕ)
    → ((k : ℕ) → holding_at holdings k ≡ own (core + k)) → AreAllMine ends core holdings
all_mine ends own mine core [] each = tt
all_mine ends own mine core (numbers ∷ holdings) each =
    let here : core + 0 ≡ core = omega arith in (
      subst (AreMine ends core) (sym (each zero ∙ ap own here)) (mine core),
      all_mine ends own mine (suc core) holdings (λ k. let next : core + suc k ≡ suc core + k = omega arith in each (suc k) ∙ ap own next),
    )

pub dealt_mine : (cores : ℕ) (rings : List RingEnds) (d : CoreShares ℕ) → NumbersSides cores rings d → AreAllMine (sides_of rings) 0 (holdings_in d)
dealt_mine cores rings d so =
    let count = length (owners_in rings) in
    all_mine (sides_of rings) (λ core. own_things core (owners_in rings) (numbers_below count)) (numbers_mine rings count) 0 (holdings_in d)
    (λ k.
    let here : k ≡ 0 + k = omega arith in
    so.holds.handed_out.each k ∙ ap (λ (owners : List ℕ). own_things k owners (numbers_below count)) so.owners
    ∙ ap (λ (c : ℕ). own_things c (owners_in rings) (numbers_below count)) here)

pub some_mine : (ends : List SideEnd) (core : ℕ) (holdings : Holdings ℕ) (k : ℕ) → k < length holdings → AreAllMine ends core holdings → AreMine ends (core + k) (get_or holdings k [])
some_mine ends core [] k below all = absurd (omega (arith, below))
some_mine ends core (numbers ∷ holdings) zero below all = let here : core ≡ core + 0 = omega arith in subst (λ (c : ℕ). AreMine ends c numbers) here all.0
some_mine ends core (numbers ∷ holdings) (suc k) below all =
    let next : suc core + k ≡ core + suc k = omega arith in
    subst (λ (c : ℕ). AreMine ends c (get_or holdings k [])) next (some_mine ends (suc core) holdings k (omega (arith, below)) all.1)
