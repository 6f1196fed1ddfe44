-- A reported run's cores at the table of its rings, one by one.
use mathlib.Core.Option.{some, some-injective, some-ne-none}
use lib.ListN.{get_elem?}
use Rattle.std.proofs.Common.{◌≡◌, ◌≢◌, refl, sym, ◌∙◌, ap, subst, ℕ, zero, suc, ◌+◌, ◌<◌, List, [], ◌∷◌, length, map}
use Rattle.std.proofs.Common.{slice_get, Option, Some, unwrap_or, arith}
use Rattle.std.specs.List.{AllByRecursion}
use Rattle.atomic_table.specs.Seated.{TableId}
use Rattle.fl_core.specs.declared.core_job.CoreJob.{CoreJob}
use Rattle.fl_core.proofs.Numbering.{goes_to, came_from}
use Rattle.fl_core_run.specs.Run.{TheRun}
use Rattle.fl_cores_file.specs.Jobs.{Job}
use Rattle.fl_cores_file.specs.Report.{TheReport}
use Rattle.fl_cores_fork.specs.Runs.{TheCoreThread, TheFinishedCore}
use Rattle.fl_cores_parts.specs.AtTable.{IsNoted, AreNoted, hands_of, RanAtTable}
use Rattle.fl_cores_shares.specs.Shares.{Holdings, own_before}
use Rattle.fl_cores.specs.Behind.{joined_in}
use Rattle.fl_cores.specs.Promised.{Reports}
use Rattle.fl_history_facing.specs.Moments.{AreOfTwoCores}
use Rattle.fl_history_orders.specs.Orders.{moment_of, HoldsSides}
use Rattle.fl_history_rings.specs.declared.board.RingEnds.{RingEnds}
use Rattle.fl_history_rings.specs.declared.board.SideEnd.{SideEnd}
use Rattle.fl_history_rings.specs.Cores.{TheCore, OwnsSlots, IsRingOf}
use Rattle.fl_history_rings.specs.Rings.{side_end, sides_of}
use Rattle.fl_history_rings.specs.Rule.{slots_of, no_side}
use Rattle.fl_history_rings.proofs.Logs.{read_there}
use Rattle.fl_history_rings.proofs.Plans.{both_paired}
use Rattle.fl_history_shares.specs.Dealt.{owners_in as owners_of, new_core, first_hands}
use Rattle.fl_history_shares.specs.Settled.{AreCoresOf}
use Rattle.fl_history_sides.specs.Core.{IsDistinct, AreSidesOf, AreOfOneCore}
use Rattle.fl_history_sides.specs.States.{TheHistorySide, shown_of, first_shown, numbers_of as numbers_in}
use Rattle.fl_world.specs.Booting.{TheConfig}
use Rattle.fl_cores_whole.specs.Begin.{numbers_of, owners_in}
use Rattle.fl_cores_whole.proofs.Machine.{the_core_at, CoreAtTable, CoresAtTable}
use Rattle.fl_cores_whole.proofs.Own.{own_at}

-- ---- what is told of each core, in its place

record NotedAt (jobs : List CoreJob) (limit n : ℕ) (s : TheCoreThread) (o : TheFinishedCore) (begins ends : List (TheRun TheHistorySide)) : Type 0 where
  pub begin : TheRun TheHistorySide
  pub begin_is : slice_get begins n ≡ Some begin
  pub end : TheRun TheHistorySide
  pub end_is : slice_get ends n ≡ Some end
  pub is : IsNoted jobs limit s o begin end

noted_at : (jobs : List CoreJob) (limit : ℕ) (threads : List TheCoreThread) (outcomes : List TheFinishedCore) (begins ends : List (TheRun TheHistorySide))
    → AreNoted jobs limit threads outcomes begins ends → (n : ℕ) (s : TheCoreThread) (o : TheFinishedCore) → slice_get threads n ≡ Some s → slice_get outcomes n ≡ Some o
    → NotedAt jobs limit n s o begins ends
noted_at jobs limit [] [] [] [] h n s o s_is o_is = absurd (cc)
noted_at jobs limit (t ∷ threads) (u ∷ outcomes) (b ∷ begins) (e ∷ ends) h zero s o s_is o_is =
    let one : t ≡ s = cc in
    let other : u ≡ o = cc in
    record {
      begin = b;
      begin_is = refl;
      end = e;
      end_is = refl;
      is = subst (λ (z : TheFinishedCore). IsNoted jobs limit s z b e) other (subst (λ (z : TheCoreThread). IsNoted jobs limit z u b e) one h.0);
    }
noted_at jobs limit (t ∷ threads) (u ∷ outcomes) (b ∷ begins) (e ∷ ends) h (suc n) s o s_is o_is =
    let it = noted_at jobs limit threads outcomes begins ends h.1 n s o s_is o_is in
    record { begin = it.begin; begin_is = it.begin_is; end = it.end; end_is = it.end_is; is = it.is }
noted_at jobs limit threads outcomes begins ends h n s o s_is o_is = absurd h

-- ---- sides by which nothing was done

first_hand : (table : TableId) (ends : List SideEnd) (core : ℕ) (holdings : Holdings ℕ) (i : ℕ) (hand : List TheHistorySide)
    → slice_get (first_hands table ends core holdings) i ≡ Some hand
    → (numbers : List ℕ) × (slice_get holdings i ≡ Some numbers) × (hand ≡ map (first_shown (new_core table ends (core + i))) numbers)
first_hand table ends core [] i hand is = absurd (cc)
first_hand table ends core (numbers ∷ holdings) zero hand is =
    let sum : core ≡ core + 0 = omega arith in
    let same : map (first_shown (new_core table ends core)) numbers ≡ hand = cc in
    (numbers, refl, sym same ∙ ap (λ (c : ℕ). map (first_shown (new_core table ends c)) numbers) sum)
first_hand table ends core (numbers ∷ holdings) (suc i) hand is =
    let it = first_hand table ends (suc core) holdings i hand is in
    let sum : suc core + i ≡ core + suc i = omega arith in
    (it.0, it.1, it.2 ∙ ap (λ (c : ℕ). map (first_shown (new_core table ends c)) it.0) sum)

module _ (c : TheCore) where
  first_numbers : (numbers : List ℕ) → numbers_in (map (first_shown c) numbers) ≡ numbers
  first_numbers [] = refl
  first_numbers (n ∷ numbers) = ap (λ (ns : List ℕ). n ∷ ns) (first_numbers numbers)

  all_first : (numbers : List ℕ) → AllByRecursion (λ (p : TheHistorySide). p ≡ shown_of c p.side.size p.number) (map (first_shown c) numbers)
  all_first [] = tt
  all_first (n ∷ numbers) = (refl, all_first numbers)

-- ---- the ends of rings

owner_is : (rings : List RingEnds) (side : ℕ) (end : SideEnd) → get_elem? (sides_of rings) side ≡ some end → slice_get (owners_of rings) side ≡ Some end.core
owner_is [] side end at = absurd (some-ne-none end (sym at))
owner_is (r ∷ rings) zero end at = ap (λ (x : SideEnd). Some x.core) (some-injective (side_end r.slots r.first) end at)
owner_is (r ∷ rings) (suc zero) end at = ap (λ (x : SideEnd). Some x.core) (some-injective (side_end r.slots r.second) end at)
owner_is (r ∷ rings) (suc (suc side)) end at = owner_is rings side end at

end_there : (rings : List RingEnds) (side owner : ℕ) → slice_get (owners_of rings) side ≡ Some owner
    → (end : SideEnd) × (get_elem? (sides_of rings) side ≡ some end) × (end.core ≡ owner)
end_there [] side owner is = absurd (cc)
end_there (r ∷ rings) zero owner is = let same : r.first ≡ owner = cc in (side_end r.slots r.first, refl, same)
end_there (r ∷ rings) (suc zero) owner is = let same : r.second ≡ owner = cc in (side_end r.slots r.second, refl, same)
end_there (r ∷ rings) (suc (suc side)) owner is = end_there rings side owner is

below : (count : ℕ) (rings : List RingEnds) (side : ℕ) (end : SideEnd) → AllByRecursion (IsRingOf count) rings → get_elem? (sides_of rings) side ≡ some end
    → end.core < count
below count [] side end of at = absurd (some-ne-none end (sym at))
below count (r ∷ rings) zero end of at = subst (λ (x : SideEnd). x.core < count) (some-injective (side_end r.slots r.first) end at) of.0.first
below count (r ∷ rings) (suc zero) end of at = subst (λ (x : SideEnd). x.core < count) (some-injective (side_end r.slots r.second) end at) of.0.second
below count (r ∷ rings) (suc (suc side)) end of at = below count rings side end of.1 at

of_two_cores : (rings : List RingEnds) → AllByRecursion (λ (r : RingEnds). r.first ≢ r.second) rings → AreOfTwoCores (sides_of rings)
of_two_cores [] apart side one other at across = absurd (some-ne-none one (sym at))
of_two_cores (r ∷ rings) apart zero one other at across = λ same.
    apart.0
    (ap (λ (x : SideEnd). x.core) (some-injective (side_end r.slots r.first) one at) ∙ same
    ∙ sym (ap (λ (x : SideEnd). x.core) (some-injective (side_end r.slots r.second) other across)))
of_two_cores (r ∷ rings) apart (suc zero) one other at across = λ same.
    apart.0
    (ap (λ (x : SideEnd). x.core) (some-injective (side_end r.slots r.first) other across) ∙ sym same
    ∙ sym (ap (λ (x : SideEnd). x.core) (some-injective (side_end r.slots r.second) one at)))
of_two_cores (r ∷ rings) apart (suc (suc side)) one other at across = of_two_cores rings apart.1 side one other at across

-- ---- the core that was gathered

record Gathered (cores : List TheCore) (hand : List TheHistorySide) : Type 0 where
  at : ℕ
  core : TheCore
  there : get_elem? cores at ≡ some core
  sides : AreSidesOf core hand

gathered : (hands : Holdings TheHistorySide) (cores : List TheCore) (n : ℕ) (p : TheHistorySide) (hand : List TheHistorySide) → AreCoresOf hands cores
    → slice_get hands n ≡ Some (p ∷ hand) → Gathered cores (p ∷ hand)
gathered [] cores n p hand are is = absurd (cc)
gathered ([] ∷ hands) cores zero p hand are is = absurd (cc)
gathered ([] ∷ hands) cores (suc n) p hand are is = gathered hands cores n p hand are is
gathered ((q ∷ own) ∷ hands) [] n p hand are is = absurd are
gathered ((q ∷ own) ∷ hands) (c ∷ cores) zero p hand are is =
    let same : q ∷ own ≡ p ∷ hand = cc in
    record { at = zero; core = c; there = refl; sides = subst (AreSidesOf c) same are.0.sides }
gathered ((q ∷ own) ∷ hands) (c ∷ cores) (suc n) p hand are is =
    let it = gathered hands cores n p hand are.1 is in
    record { at = suc it.at; core = it.core; there = it.there; sides = it.sides }

-- of sides that a core has in the end, its core: with sides it was gathered
record LastCore (cores : List TheCore) (hand : List TheHistorySide) : Type 0 where
  core : TheCore
  sides : AreSidesOf core hand
  among : 0 < length hand → (i : ℕ) × (get_elem? cores i ≡ some core)

last_core : (hands : Holdings TheHistorySide) (cores : List TheCore) (n : ℕ) (hand : List TheHistorySide) → AreCoresOf hands cores → slice_get hands n ≡ Some hand
    → AreOfOneCore hand → LastCore cores hand
last_core hands cores n [] are is one = record { core = one.0; sides = one.1; among = λ some. absurd (omega (arith, some)) }
last_core hands cores n (p ∷ hand) are is one =
    let it = gathered hands cores n p hand are is in
    record { core = it.core; sides = it.sides; among = λ some. (it.at, it.there) }

-- ---- a reported run

module _ (c : TheConfig) (jobs : List Job) (limit : ℕ) (r : TheReport) (w : Reports c jobs limit r) where
  abbrev threads : List TheCoreThread
  threads = w.ran.ran.ran.core_threads

  abbrev outcomes : List TheFinishedCore
  outcomes = w.ran.ran.ran.outcomes

  abbrev owners : List ℕ
  owners = (owners_in w.ran.ran.ran.shares).sides

  abbrev order : RanAtTable (joined_in w).jobs limit w.ran.ran.parts.rings.items owners threads outcomes
  order = w.ran.ran.ran.order

  abbrev rings : List RingEnds
  rings = order.at.ends

  abbrev ends : List SideEnd
  ends = sides_of rings

  -- the core of this number, before it did anything
  abbrev first_core : ℕ → TheCore
  first_core n = new_core order.at.table ends n

  -- ---- its sides

  apart : (n i j k : ℕ) → slice_get (numbers_of n owners) i ≡ Some k → slice_get (numbers_of n owners) j ≡ Some k → i ≡ j
  apart n i j k a b =
      let one = own_at 0 n owners i k a in
      let two = own_at 0 n owners j k b in
      let ones = one.is in
      let twos = two.is in
      let same : one.number ≡ two.number = omega (arith, ones, twos) in
      one.place ∙ ap (λ (m : ℕ). own_before n m owners) same ∙ sym two.place

  owns : (n i : ℕ) (p : TheHistorySide) → slice_get (map (first_shown (first_core n)) (numbers_of n owners)) i ≡ Some p → OwnsSlots ends p.number n p.side.size
  owns n i p at =
      let from = came_from (first_shown (first_core n)) (numbers_of n owners) i p at in
      let own = own_at 0 n owners i from.first from.first_is in
      let is = own.is in
      let number : own.number ≡ from.first = omega (arith, is) in
      let owner : slice_get (owners_of rings) from.first ≡ Some n =
      ap (λ (l : List ℕ). slice_get l from.first) order.at.between.owners_are ∙ ap (slice_get owners) (sym number) ∙ own.owner in
      let (end, there, core) = end_there rings from.first n owner in
      let slots : end.slots ≡ slots_of ends from.first = sym (ap (λ (z : SideEnd). z.slots) (read_there ends from.first end no_side there)) in
      subst (λ (q : TheHistorySide). OwnsSlots ends q.number n q.side.size) (sym from.same) (end, there, core, slots)

  holds : (n : ℕ) (run : TheRun TheHistorySide) → run.rings ≡ map (first_shown (first_core n)) (numbers_of n owners)
      → HoldsSides order.at.table ends (moment_of run (first_core n))
  holds n run is = record {
    sides = subst (AreSidesOf (first_core n)) (sym is) (record {
      each = all_first (first_core n) (numbers_of n owners);
      apart = subst IsDistinct (sym (first_numbers (first_core n) (numbers_of n owners))) (λ i j k a b. apart n i j k a b);
      did = tt;
    });
    table_is = refl;
    owns = λ i p at. owns n i p (ap (λ (l : List TheHistorySide). slice_get l i) (sym is) ∙ at);
  }

  -- the sides of a core as it begins
  hand_is : (n : ℕ) (run : TheRun TheHistorySide) → slice_get order.begins n ≡ Some run → run.rings ≡ map (first_shown (first_core n)) (numbers_of n owners)
  hand_is n run run_is =
      let there : slice_get (first_hands order.at.table ends 0 order.at.numbers) n ≡ Some run.rings =
      ap (λ (l : List (List TheHistorySide)). slice_get l n) (sym order.at.hands_are) ∙ goes_to (λ (t : TheRun TheHistorySide). t.rings) order.begins n run run_is in
      let (numbers, numbers_are, is) = first_hand order.at.table ends 0 order.at.numbers n run.rings there in
      let sum : 0 + n ≡ n = omega arith in
      let own : numbers ≡ numbers_of n owners = sym (ap (λ (o : Option (List ℕ)). unwrap_or o []) numbers_are) ∙ order.at.handed_out.each n in
      is ∙ ap (λ (core : ℕ). map (first_shown (first_core core)) numbers) sum ∙ ap (map (first_shown (first_core n))) own

  -- ---- one core

  noted : (n : ℕ) (s : TheCoreThread) (o : TheFinishedCore) → slice_get threads n ≡ Some s → slice_get outcomes n ≡ Some o
      → NotedAt (joined_in w).jobs limit n s o order.begins order.ends
  noted n s o s_is o_is = noted_at (joined_in w).jobs limit threads outcomes order.begins order.ends order.noted n s o s_is o_is

  core_at : (n : ℕ) (s : TheCoreThread) (o : TheFinishedCore) → slice_get threads n ≡ Some s → slice_get outcomes n ≡ Some o
      → CoreAtTable order.at.table ends order.settled.cores (joined_in w).jobs limit (the_core_at w n) s o
  core_at n s o s_is o_is =
      let it = noted n s o s_is o_is in
      let hand = hand_is n it.begin it.begin_is in
      let last =
      last_core (hands_of order.ends) order.settled.cores n it.end.rings order.settled.are
      (goes_to (λ (t : TheRun TheHistorySide). t.rings) order.ends n it.end it.end_is) it.is.one in
      record {
        begin = moment_of it.begin (first_core n);
        begin_is = it.begin_is;
        end = moment_of it.end last.core;
        end_is = it.end_is;
        first_is = it.is.begin_is;
        last_is = it.is.end_is;
        numbers = ap numbers_in hand ∙ first_numbers (first_core n) (numbers_of n owners);
        holds = holds n it.begin hand;
        number = refl;
        nothing_yet = refl;
        ran = it.is.ran;
        did = last.sides;
        among = last.among;
      }

  -- ---- all cores

  pub cores_at_table : CoresAtTable w
  cores_at_table = record {
    table = order.at.table;
    ends = ends;
    paired = both_paired rings;
    apart = of_two_cores rings order.at.between.apart;
    owned = λ side end there. (
      below (length threads) rings side end order.at.between.of there,
      ap (λ (l : List ℕ). slice_get l side) (sym order.at.between.owners_are) ∙ owner_is rings side end there,
    );
    gathered = order.settled.cores;
    order = order.settled.order;
    cores = core_at;
  }
