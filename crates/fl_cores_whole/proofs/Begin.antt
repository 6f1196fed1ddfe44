-- What a set-up made, once it is handed out to cores, is joined from them.
use Rattle.std.proofs.Common.{◌≡◌, inl, inr, refl, sym, ◌∙◌, ap, subst, ℕ, zero, suc, ◌+◌, ◌*◌, ◌/◌, ◌<◌, List, [], ◌∷◌, length, map, slice_get, Option, Some, None, unwrap_or, arith}
use Rattle.std.specs.List.{AllZip, range_with_len}
use Rattle.fl_base.specs.Given.{given}
use Rattle.fl_hop.proofs.Lists.{within, at_within, index_there}
use Rattle.fl_link.specs.Queue.{TheQueue}
use Rattle.fl_ring.specs.Duo.{TheDuo}
use Rattle.fl_ring.specs.SharedSides.{TheSide}
use Rattle.fl_core.specs.declared.core_job.CoreJob.{CoreJob}
use Rattle.fl_core.specs.declared.wiring.EndWiring.{EndWiring}
use Rattle.fl_core.specs.declared.wiring.EndWiring.TheVariants.{Queues, Ring, Circuit}
use Rattle.fl_core.specs.declared.wiring.LinkSide.{LinkSide}
use Rattle.fl_core.specs.declared.wiring.WiredEnd.{WiredEnd}
use Rattle.fl_core.specs.Numbers.{moved, moved_link_side, moved_wiring, moved_wired_end, renumbered}
use Rattle.fl_core.specs.Sound.{IsCore}
use Rattle.fl_core.specs.View.{TheCore, place_of, side_of_link}
use Rattle.fl_core.proofs.Numbering.{came_from, goes_to}
use Rattle.fl_cores_fork.specs.Runs.{TheCoreThread, TheFinishedCore, RanTo}
use Rattle.fl_cores_jobs.specs.State.{TheJoinedJobs}
use Rattle.fl_cores_parts.specs.Begins.{Places, TheCoreInputs, common_in, IsCoreThread, AreCoreThreads}
use Rattle.fl_cores_parts.specs.Shares.{AreNewRings, Shares}
use Rattle.fl_cores_shares.specs.Settled.{TwoSides, sides_of}
use Rattle.fl_cores_shares.specs.Shares.{own_things, own_before, holding_at, AreNew}
use Rattle.fl_world_refines.specs.declared.parts.Parts.{Parts}
use Rattle.fl_world_refines.specs.Making.{new_duo}
use Rattle.fl_world_refines.specs.ShowsState.{wiring_of, NamesQueue, NamesSide}
use Rattle.fl_world_refines.specs.View.{TheWorld}
use Rattle.fl_world_refines.proofs.FramesBase.{same_some}
use Rattle.fl_compile.specs.Programs.{program_of}
use Rattle.fl_cores_joined.proofs.RenamedWired.{side_found}
use Rattle.fl_cores_joined.specs.Rings.{ring_of, TookFrom}
use Rattle.fl_cores_joined.specs.Joined.{JoinedCore, in_world, HasSide, IsRingOf, AreOffers, IsJoined}
use Rattle.fl_history_joined.specs.InTurn.{LinksAreLent}
use Rattle.fl_cores_whole.specs.Begin.{numbers_of, Owners, joined_from, owners_in, IsBehind, AreCores, HandedOutJoin}
use Rattle.fl_cores_whole.proofs.Own.{IsOwn, own_at, own_there, as_many, range_long}

-- ---- lists

same_lists : {X : Type 0} (xs ys : List X) → length xs ≡ length ys → ((i : ℕ) (x y : X) → slice_get xs i ≡ Some x → slice_get ys i ≡ Some y → x ≡ y) → xs ≡ ys
same_lists [] [] long each = refl
same_lists [] (y ∷ ys) long each = absurd (omega (arith, long))
same_lists (x ∷ xs) [] long each = absurd (omega (arith, long))
same_lists (x ∷ xs) (y ∷ ys) long each =
    let first : x ≡ y = each 0 x y refl refl in
    let rest : xs ≡ ys = same_lists xs ys (omega (arith, long)) (λ i a b p q. each (suc i) a b p q) in
    λ k. first k ∷ rest k

map_back : {X : Type 0} (f g : X → X) (xs : List X) → ((i : ℕ) (x : X) → slice_get xs i ≡ Some x → f (g x) ≡ x) → map f (map g xs) ≡ xs
map_back f g [] each = refl
map_back f g (x ∷ xs) each =
    let first = each 0 x refl in
    let rest = map_back f g xs (λ i y p. each (suc i) y p) in
    λ k. first k ∷ rest k

map_long : {X Y : Type 0} (f : X → Y) (xs : List X) → length (map f xs) ≡ length xs
map_long f [] = refl
map_long f (x ∷ xs) = let e = map_long f xs in omega (arith, e)

-- ---- threads

-- each thread came back
pub zip_long : (jobs : List CoreJob) (limit : ℕ) (threads : List TheCoreThread) (outcomes : List TheFinishedCore) → AllZip (RanTo jobs limit) threads outcomes
    → length threads ≡ length outcomes
zip_long jobs limit [] [] h = refl
zip_long jobs limit [] (o ∷ outcomes) h = absurd h
zip_long jobs limit (s ∷ threads) [] h = absurd h
zip_long jobs limit (s ∷ threads) (o ∷ outcomes) h = ap suc (zip_long jobs limit threads outcomes h.1)

record ThreadAt (c : TheCoreInputs) (n i : ℕ) (cores : List TheCore) (s : TheCoreThread) : Type 0 where
  pub core : TheCore
  pub core_is : slice_get cores i ≡ Some core
  pub is : IsCoreThread c (n + i) core s

thread_at : (c : TheCoreInputs) (n i : ℕ) (cores : List TheCore) (threads : List TheCoreThread) (s : TheCoreThread) → AreCoreThreads c n cores threads
    → slice_get threads i ≡ Some s → ThreadAt c n i cores s
thread_at c n i [] [] s h at = absurd (cc)
thread_at c n i [] (t ∷ threads) s h at = absurd h
thread_at c n i (k ∷ cores) [] s h at = absurd h
thread_at c n zero (k ∷ cores) (t ∷ threads) s h at =
    let same : t ≡ s = cc in
    let sum : n ≡ n + 0 = omega arith in
    record { core = k; core_is = refl; is = subst (λ (m : ℕ). IsCoreThread c m k s) sum (subst (IsCoreThread c n k) same h.0) }
thread_at c n (suc i) (k ∷ cores) (t ∷ threads) s h at =
    let it = thread_at c (suc n) i cores threads s h.1 at in
    let sum : suc n + i ≡ n + suc i = omega arith in
    record { core = it.core; core_is = it.core_is; is = subst (λ (m : ℕ). IsCoreThread c m it.core s) sum it.is }

pub threads_long : (c : TheCoreInputs) (n : ℕ) (cores : List TheCore) (threads : List TheCoreThread) → AreCoreThreads c n cores threads → length cores ≡ length threads
threads_long c n [] [] h = refl
threads_long c n [] (t ∷ threads) h = absurd h
threads_long c n (k ∷ cores) [] h = absurd h
threads_long c n (k ∷ cores) (t ∷ threads) h = let e = threads_long c (suc n) cores threads h.1 in omega (arith, e)

abbrev pub joined_one : Owners → ℕ → TheCoreThread → JoinedCore
joined_one owners n s = record { run = s.run; sides = numbers_of n owners.sides; queues = numbers_of n owners.queues }

record JoinedAt (owners : Owners) (n i : ℕ) (threads : List TheCoreThread) (x : JoinedCore) : Type 0 where
  pub thread : TheCoreThread
  pub thread_is : slice_get threads i ≡ Some thread
  pub is : x ≡ joined_one owners (n + i) thread

joined_at : (owners : Owners) (n i : ℕ) (threads : List TheCoreThread) (x : JoinedCore) → slice_get (joined_from owners n threads) i ≡ Some x
    → JoinedAt owners n i threads x
joined_at owners n i [] x h = absurd (cc)
joined_at owners n zero (t ∷ threads) x h =
    let same : joined_one owners n t ≡ x = cc in
    let sum : n ≡ n + 0 = omega arith in
    record { thread = t; thread_is = refl; is = sym same ∙ ap (λ (m : ℕ). joined_one owners m t) sum }
joined_at owners n (suc i) (t ∷ threads) x h =
    let it = joined_at owners (suc n) i threads x h in
    let sum : suc n + i ≡ n + suc i = omega arith in
    record { thread = it.thread; thread_is = it.thread_is; is = it.is ∙ ap (λ (m : ℕ). joined_one owners m it.thread) sum }

at_joined : (owners : Owners) (n i : ℕ) (threads : List TheCoreThread) (t : TheCoreThread) → slice_get threads i ≡ Some t
    → slice_get (joined_from owners n threads) i ≡ Some (joined_one owners (n + i) t)
at_joined owners n i [] t h = absurd (cc)
at_joined owners n zero (s ∷ threads) t h =
    let same : s ≡ t = cc in
    let sum : n ≡ n + 0 = omega arith in
    ap (λ (z : TheCoreThread). Some (joined_one owners n z)) same ∙ ap (λ (m : ℕ). Some (joined_one owners m t)) sum
at_joined owners n (suc i) (s ∷ threads) t h =
    let sum : suc n + i ≡ n + suc i = omega arith in
    at_joined owners (suc n) i threads t h ∙ ap (λ (m : ℕ). Some (joined_one owners m t)) sum

pub joined_long : (owners : Owners) (n : ℕ) (threads : List TheCoreThread) → length (joined_from owners n threads) ≡ length threads
joined_long owners n [] = refl
joined_long owners n (t ∷ threads) = let e = joined_long owners (suc n) threads in omega (arith, e)

-- the same from the first on
pub record FirstThread (c : TheCoreInputs) (i : ℕ) (cores : List TheCore) (s : TheCoreThread) : Type 0 where
  pub core : TheCore
  pub core_is : slice_get cores i ≡ Some core
  pub is : IsCoreThread c i core s

pub first_thread : (c : TheCoreInputs) (i : ℕ) (cores : List TheCore) (threads : List TheCoreThread) (s : TheCoreThread) → AreCoreThreads c 0 cores threads
    → slice_get threads i ≡ Some s → FirstThread c i cores s
first_thread c i cores threads s h at =
    let it = thread_at c 0 i cores threads s h at in
    let sum : 0 + i ≡ i = omega arith in
    record { core = it.core; core_is = it.core_is; is = subst (λ (m : ℕ). IsCoreThread c m it.core s) sum it.is }

pub record FirstJoined (owners : Owners) (i : ℕ) (threads : List TheCoreThread) (x : JoinedCore) : Type 0 where
  pub thread : TheCoreThread
  pub thread_is : slice_get threads i ≡ Some thread
  pub is : x ≡ joined_one owners i thread

pub first_joined : (owners : Owners) (i : ℕ) (threads : List TheCoreThread) (x : JoinedCore) → slice_get (joined_from owners 0 threads) i ≡ Some x
    → FirstJoined owners i threads x
first_joined owners i threads x h =
    let it = joined_at owners 0 i threads x h in
    let sum : 0 + i ≡ i = omega arith in
    record { thread = it.thread; thread_is = it.thread_is; is = it.is ∙ ap (λ (m : ℕ). joined_one owners m it.thread) sum }

pub at_first : (owners : Owners) (i : ℕ) (threads : List TheCoreThread) (t : TheCoreThread) → slice_get threads i ≡ Some t
    → slice_get (joined_from owners 0 threads) i ≡ Some (joined_one owners i t)
at_first owners i threads t h =
    let sum : 0 + i ≡ i = omega arith in
    at_joined owners 0 i threads t h ∙ ap (λ (m : ℕ). Some (joined_one owners m t)) sum

number_there : (n m : ℕ) (owned : List ℕ) → slice_get owned m ≡ Some n → slice_get (numbers_of n owned) (own_before n m owned) ≡ Some m
number_there n m owned owner =
    let sum : 0 + m ≡ m = omega arith in
    own_there 0 n owned m owner ∙ ap (λ (k : ℕ). Some k) sum

-- what a core has in its hand
held : {T : Type 0} (of : TheCoreThread → List T) (threads : List TheCoreThread) (n place : ℕ) (thing : T)
    → slice_get (holding_at (map of threads) n) place ≡ Some thing → (t : TheCoreThread) × (slice_get threads n ≡ Some t) × (slice_get (of t) place ≡ Some thing)
held {T} of [] n place thing h = absurd (cc)
held {T} of (t ∷ threads) zero place thing h = (t, refl, h)
held {T} of (t ∷ threads) (suc n) place thing h = held of threads n place thing h

pub holding_is : {T : Type 0} (of : TheCoreThread → List T) (threads : List TheCoreThread) (n : ℕ) (t : TheCoreThread) → slice_get threads n ≡ Some t
    → holding_at (map of threads) n ≡ of t
holding_is {T} of threads n t h = ap (λ (o : Option (List T)). unwrap_or o []) (goes_to of threads n t h)

-- ---- rings

record PairAt (d : TheDuo) (pairs : List TwoSides) (n : ℕ) : Type 0 where
  pub pair : TwoSides
  pub new : AreNew d.size pair.one pair.two
  pub one_is : slice_get (sides_of pairs) (2 * n) ≡ Some pair.one
  pub two_is : slice_get (sides_of pairs) (2 * n + 1) ≡ Some pair.two

pair_at : (rings : List TheDuo) (pairs : List TwoSides) (n : ℕ) (d : TheDuo) → AreNewRings rings pairs → slice_get rings n ≡ Some d → PairAt d pairs n
pair_at [] pairs n d h at = absurd (cc)
pair_at (r ∷ rings) [] n d h at = absurd h
pair_at (r ∷ rings) (p ∷ pairs) zero d h at =
    let same : r ≡ d = cc in
    record { pair = p; new = subst (λ (z : TheDuo). AreNew z.size p.one p.two) same h.0; one_is = refl; two_is = refl }
pair_at (r ∷ rings) (p ∷ pairs) (suc n) d h at =
    let it = pair_at rings pairs n d h.1 at in
    let even : suc (suc (2 * n)) ≡ 2 * suc n = omega arith in
    let odd : suc (suc (2 * n + 1)) ≡ 2 * suc n + 1 = omega arith in
    record {
      pair = it.pair;
      new = it.new;
      one_is = ap (slice_get (p.one ∷ p.two ∷ sides_of pairs)) (sym even) ∙ it.one_is;
      two_is = ap (slice_get (p.one ∷ p.two ∷ sides_of pairs)) (sym odd) ∙ it.two_is;
    }

-- ---- the law

module _ (w : TheWorld) (p : Parts) (j : TheJoinedJobs) (at : Places) (threads : List TheCoreThread) (outcomes : List TheFinishedCore)
    (behind : IsBehind w p) (cores : AreCores threads) (begin : AreCoreThreads (common_in p j at) 0 p.cores.items threads)
    (h : Shares p at threads outcomes) where
  abbrev owners : Owners
  owners = owners_in h

  abbrev xs : List JoinedCore
  xs = joined_from owners 0 threads

  rings_long : length p.rings.items ≡ length w.rings
  rings_long = sym (ap length behind.parts.rings ∙ map_long (λ (d : TheDuo). new_duo d.size) p.rings.items)

  -- the place of a number among a core's own
  place_back : (owned places : List ℕ) (n m : ℕ) → ((k o : ℕ) → slice_get owned k ≡ Some o → slice_get places k ≡ Some (own_before o k owned))
      → slice_get owned m ≡ Some n → moved (numbers_of n owned) (moved places m) ≡ m
  place_back owned places n m counted owner =
      let place : moved places m ≡ own_before n m owned = index_there places m m (own_before n m owned) (counted m n owner) in
      ap (moved (numbers_of n owned)) place
      ∙ index_there (numbers_of n owned) (own_before n m owned) (own_before n m owned) m (number_there n m owned owner)

  -- ---- cores

  module _ (n : ℕ) (k : TheCore) (t : TheCoreThread) (k_is : slice_get w.cores n ≡ Some k) (core_is : t.run.core ≡ renumbered at.sides at.queues k)
      (core : IsCore t.run.core) where
    there : slice_get p.cores.items n ≡ Some k
    there = ap (λ (l : List TheCore). slice_get l n) behind.parts.cores ∙ k_is

    side_owner : (m : ℕ) → NamesSide k m → slice_get h.side_owners m ≡ Some n
    side_owner m names =
        let less = behind.sides n m k k_is names in
        let rings = rings_long in
        h.sides_named.each n m k there names (omega (arith, less, rings))
        (λ i d d_is other. behind.side_cores i n m d k (ap (λ (l : List TheCore). slice_get l i) (sym behind.parts.cores) ∙ d_is) k_is other names)

    queue_owner : (m : ℕ) → NamesQueue k m → slice_get h.queue_owners m ≡ Some n
    queue_owner m names =
        let it = behind.queues n m k k_is names in
        let less = within w.queues m _ it.1 in
        let queues : length p.queues.items ≡ length w.queues = ap length behind.parts.queues in
        h.queues_named.each n m k there names (omega (arith, less, queues))
        (λ i d d_is other. behind.queue_cores i n m d k (ap (λ (l : List TheCore). slice_get l i) (sym behind.parts.cores) ∙ d_is) k_is other names)

    side_back : (m : ℕ) → NamesSide k m → moved (numbers_of n h.side_owners) (moved at.sides m) ≡ m
    side_back m names = place_back h.side_owners at.sides n m h.sides.counted.each (side_owner m names)

    queue_back : (m : ℕ) → NamesQueue k m → moved (numbers_of n h.queue_owners) (moved at.queues m) ≡ m
    queue_back m names = place_back h.queue_owners at.queues n m h.queues.counted.each (queue_owner m names)

    -- the end at a place has its wiring under its name
    wired : (e : ℕ) (z : WiredEnd) → slice_get k.wired_ends e ≡ Some z → wiring_of k z.name ≡ Some z.wiring
    wired e z is =
        let ends : slice_get t.run.core.wired_ends e ≡ Some (moved_wired_end at.sides at.queues z) =
        ap (λ (c : TheCore). slice_get c.wired_ends e) core_is ∙ goes_to (moved_wired_end at.sides at.queues) k.wired_ends e z is in
        let placed : place_of k z.name ≡ Some e = ap (λ (c : TheCore). place_of c z.name) (sym core_is) ∙ core.named e (moved_wired_end at.sides at.queues z) ends in
        ap (λ (o : Option ℕ). given o None λ i. given (slice_get k.wired_ends i) None λ y. Some y.wiring) placed
        ∙ ap (λ (o : Option WiredEnd). given o None λ y. Some y.wiring) is

    wiring_back : (z : WiredEnd) (v : EndWiring) → wiring_of k z.name ≡ Some v
        → moved_wiring (numbers_of n h.side_owners) (numbers_of n h.queue_owners) (moved_wiring at.sides at.queues v) ≡ v
    wiring_back z (Queues out from) is =
        let a = queue_back out (inl (z.name, from, is)) in
        let b = queue_back from (inr (z.name, out, is)) in
        λ i. Queues (a i) (b i)
    wiring_back z (Ring side) is = ap (λ (m : ℕ). Ring m) (side_back side (inr (z.name, is)))
    wiring_back z (Circuit link arrivals) is = refl

    ends_back : map (moved_wired_end (numbers_of n h.side_owners) (numbers_of n h.queue_owners)) (map (moved_wired_end at.sides at.queues) k.wired_ends)
        ≡ k.wired_ends
    ends_back =
        map_back (moved_wired_end (numbers_of n h.side_owners) (numbers_of n h.queue_owners)) (moved_wired_end at.sides at.queues) k.wired_ends
        (λ e z is. let v = wiring_back z z.wiring (wired e z is) in λ i. record { name = z.name; wiring = v i })

    links_back : map (moved_link_side (numbers_of n h.side_owners)) (map (moved_link_side at.sides) k.link_sides) ≡ k.link_sides
    links_back =
        map_back (moved_link_side (numbers_of n h.side_owners)) (moved_link_side at.sides) k.link_sides
        (λ l z is.
        let m = side_back z.side (inl (l, ap (λ (o : Option LinkSide). given o None λ y. Some y.side) is)) in
        λ i. record { side = m i; failed = z.failed })

    core_back : in_world (joined_one owners n t) ≡ k
    core_back =
        ap (renumbered (numbers_of n h.side_owners) (numbers_of n h.queue_owners)) core_is
        ∙ (let a = ends_back in let b = links_back in λ i. record k { wired_ends = a i; link_sides = b i })

    -- the side of each of its links is in its hand
    side_lent : slice_get threads n ≡ Some t → (m : ℕ) → NamesSide k m → moved at.sides m < length t.run.rings
    side_lent t_is m names =
        let owner = side_owner m names in
        let less = within h.side_owners m n owner in
        let count = h.sides.handed_out.count in
        let thing = at_within (sides_of h.pairs) m (omega (arith, less, count)) in
        let it = h.sides.at m n thing.0 owner thing.1 in
        let place : moved at.sides m ≡ it.place = index_there at.sides m m it.place it.place_is in
        let hand = holding_is (λ (s : TheCoreThread). s.run.rings) threads n t t_is in
        let less_there = within t.run.rings it.place thing.0 (ap (λ (l : List TheSide). slice_get l it.place) (sym hand) ∙ it.stands) in
        omega (arith, place, less_there)

    link_lent : slice_get threads n ≡ Some t → (l side : ℕ) → side_of_link t.run.core.link_sides l ≡ Some side → side < length t.run.rings
    link_lent t_is l side is =
        let (z, z_is, same) = side_found t.run.core.link_sides l side (slice_get t.run.core.link_sides l) refl is in
        let from = came_from (moved_link_side at.sides) k.link_sides l z (ap (λ (c : TheCore). slice_get c.link_sides l) (sym core_is) ∙ z_is) in
        let less = side_lent t_is from.first.side (inl (l, ap (λ (o : Option LinkSide). given o None λ y. Some y.side) from.first_is)) in
        let moved_is : z.side ≡ moved at.sides from.first.side = ap (λ (y : LinkSide). y.side) from.same in
        omega (arith, less, moved_is, same)

  cores_are : w.cores ≡ map in_world xs
  cores_are =
      same_lists w.cores (map in_world xs) long
      (λ i k y k_is y_is.
      let from = came_from in_world xs i y y_is in
      let it = first_joined owners i threads from.first from.first_is in
      let th = first_thread (common_in p j at) i p.cores.items threads it.thread begin it.thread_is in
      let same : th.core ≡ k = same_some (slice_get w.cores i) th.core k (ap (λ (l : List TheCore). slice_get l i) (sym behind.parts.cores) ∙ th.core_is) k_is in
      let back = core_back i k it.thread k_is (th.is.core_is ∙ ap (renumbered at.sides at.queues) same) (cores i it.thread it.thread_is) in
      sym back ∙ ap in_world (sym it.is) ∙ sym from.same)
    where
      long : length w.cores ≡ length (map in_world xs)
      long =
          ap length (sym behind.parts.cores) ∙ threads_long (common_in p j at) 0 p.cores.items threads begin ∙ sym (joined_long owners 0 threads)
          ∙ sym (map_long in_world xs)

  links_lent : (n : ℕ) (t : TheCoreThread) → slice_get threads n ≡ Some t → (l side : ℕ) → side_of_link t.run.core.link_sides l ≡ Some side
      → side < length t.run.rings
  links_lent n t t_is =
      let th = first_thread (common_in p j at) n p.cores.items threads t begin t_is in
      link_lent n th.core t (ap (λ (l : List TheCore). slice_get l n) (sym behind.parts.cores) ∙ th.core_is) th.is.core_is (cores n t t_is) t_is

  -- ---- sides

  owners_long : length h.side_owners ≡ 2 * length w.rings
  owners_long = h.sides_named.count ∙ ap (λ (many : ℕ). 2 * many) rings_long

  side_there : (m : ℕ) (side : TheSide) → m < 2 * length w.rings → slice_get (sides_of h.pairs) m ≡ Some side → HasSide xs m side
  side_there m side less side_is =
      let long = owners_long in
      let owner = at_within h.side_owners m (omega (arith, less, long)) in
      let it = h.sides.at m owner.0 side owner.1 side_is in
      let th = held (λ (s : TheCoreThread). s.run.rings) threads owner.0 it.place side it.stands in
      let place : it.place ≡ own_before owner.0 m h.side_owners
      = same_some (slice_get at.sides m) it.place (own_before owner.0 m h.side_owners) it.place_is (h.sides.counted.each m owner.0 owner.1) in
      record {
        core = owner.0;
        at = joined_one owners owner.0 th.0;
        at_is = at_first owners owner.0 threads th.0 th.1;
        place = it.place;
        number_is = ap (slice_get (numbers_of owner.0 h.side_owners)) place ∙ number_there owner.0 m h.side_owners owner.1;
        side_is = th.2;
      }

  -- a ring of these two new sides
  ring_is : (n : ℕ) (d : TheDuo) (size : ℕ) (one two : TheSide) → n < length w.rings → d ≡ new_duo size → AreNew size one two
      → slice_get (sides_of h.pairs) (2 * n) ≡ Some one → slice_get (sides_of h.pairs) (2 * n + 1) ≡ Some two → IsRingOf xs n d
  ring_is n d size one two less made new one_at two_at =
      let one_is = new.one_is in
      let two_is = new.two_is in
      record {
        one = one;
        one_is = side_there (2 * n) one (omega (arith, less)) one_at;
        two = two;
        two_is = side_there (2 * n + 1) two (omega (arith, less)) two_at;
        facing = record {
          ring = sym (ap (λ (s : TheSide). s.ring) one_is);
          size = ap (λ (s : TheSide). s.size) two_is ∙ sym (ap (λ (s : TheSide). s.size) one_is);
          here = subst (λ (s : TheSide). TookFrom s two) (sym one_is) (record { took = (two.sent, refl); told = omega arith });
          there = subst (λ (s : TheSide). TookFrom s one) (sym two_is) (record { took = (one.sent, refl); told = omega arith });
        };
        made = made ∙ sym (λ i. ring_of (one_is i) (two_is i));
      }

  rings_are : (n : ℕ) (d : TheDuo) → slice_get w.rings n ≡ Some d → IsRingOf xs n d
  rings_are n d d_is =
      let was = came_from (λ (z : TheDuo). new_duo z.size) p.rings.items n d (ap (λ (l : List TheDuo). slice_get l n) (sym behind.parts.rings) ∙ d_is) in
      let it = pair_at p.rings.items h.pairs n was.first h.new was.first_is in
      ring_is n d was.first.size it.pair.one it.pair.two (within w.rings n d d_is) was.same it.new it.one_is it.two_is

  -- ---- numbers

  own_numbers : (owned : List ℕ) (n i m : ℕ) → slice_get (numbers_of n owned) i ≡ Some m → IsOwn 0 n owned i m
  own_numbers owned n i m is = own_at 0 n owned i m is

  are_joined : IsJoined w xs
  are_joined = record {
    unruled = behind.unruled;
    cores = cores_are;
    rings = rings_are;
    sides = λ n i m x x_is number.
        let it = first_joined owners n threads x x_is in
        let own = own_numbers h.side_owners n i m (ap (λ (z : JoinedCore). slice_get z.sides i) (sym it.is) ∙ number) in
        let less = within h.side_owners own.number n own.owner in
        let is = own.is in
        let long = owners_long in
        (let half : m / 2 < length w.rings = omega (arith, less, is, long) in half);
    queues = λ m q has.
        let it = first_joined owners has.core threads has.at has.at_is in
        let own = own_numbers h.queue_owners has.core has.place m (ap (λ (z : JoinedCore). slice_get z.queues has.place) (sym it.is) ∙ has.number_is) in
        let queue : slice_get it.thread.run.queues has.place ≡ Some q = ap (λ (z : JoinedCore). slice_get z.run.queues has.place) (sym it.is) ∙ has.queue_is in
        let hand : it.thread.run.queues ≡ own_things has.core h.queue_owners p.queues.items =
        sym (holding_is (λ (s : TheCoreThread). s.run.queues) threads has.core it.thread it.thread_is) ∙ h.queues.handed_out.each has.core in
        let its = own.is in
        let is : m ≡ own.number = omega (arith, its) in
        ap (λ (l : List TheQueue). slice_get l m) (sym behind.parts.queues) ∙ ap (slice_get p.queues.items) is
        ∙ sym (own.things TheQueue p.queues.items h.queues.handed_out.count) ∙ ap (λ (l : List TheQueue). slice_get l has.place) (sym hand) ∙ queue;
    offers = λ n x x_is.
        let it = first_joined owners n threads x x_is in
        let th = first_thread (common_in p j at) n p.cores.items threads it.thread begin it.thread_is in
        subst (λ (z : JoinedCore). AreOffers w z.run.offers) (sym it.is) (record {
          names = th.is.names ∙ behind.parts.names;
          programs = th.is.programs ∙ ap (map program_of) behind.parts.programs;
        });
    numbered = record {
      sides = λ n x x_is.
          let it = first_joined owners n threads x x_is in
          let hand : it.thread.run.rings ≡ own_things n h.side_owners (sides_of h.pairs) =
          sym (holding_is (λ (s : TheCoreThread). s.run.rings) threads n it.thread it.thread_is) ∙ h.sides.handed_out.each n in
          ap (λ (z : JoinedCore). length z.sides) it.is
          ∙ as_many n h.side_owners (range_with_len 0 (length h.side_owners)) (sides_of h.pairs) (range_long 0 (length h.side_owners)) h.sides.handed_out.count
          ∙ sym (ap length hand) ∙ sym (ap (λ (z : JoinedCore). length z.run.rings) it.is);
      queues = λ n x x_is.
          let it = first_joined owners n threads x x_is in
          let hand : it.thread.run.queues ≡ own_things n h.queue_owners p.queues.items =
          sym (holding_is (λ (s : TheCoreThread). s.run.queues) threads n it.thread it.thread_is) ∙ h.queues.handed_out.each n in
          ap (λ (z : JoinedCore). length z.queues) it.is
          ∙ as_many n h.queue_owners (range_with_len 0 (length h.queue_owners)) p.queues.items (range_long 0 (length h.queue_owners)) h.queues.handed_out.count
          ∙ sym (ap length hand) ∙ sym (ap (λ (z : JoinedCore). length z.run.queues) it.is);
      sides_apart = λ n m i k number x y x_is y_is a b.
          let one = first_joined owners n threads x x_is in
          let two = first_joined owners m threads y y_is in
          apart h.side_owners n m i k number (ap (λ (z : JoinedCore). slice_get z.sides i) (sym one.is) ∙ a) (ap (λ (z : JoinedCore). slice_get z.sides k) (sym two.is) ∙ b);
      queues_apart = λ n m i k number x y x_is y_is a b.
          let one = first_joined owners n threads x x_is in
          let two = first_joined owners m threads y y_is in
          apart h.queue_owners n m i k number (ap (λ (z : JoinedCore). slice_get z.queues i) (sym one.is) ∙ a) (ap (λ (z : JoinedCore). slice_get z.queues k) (sym two.is) ∙ b);
    };
  } where
    apart : (owned : List ℕ) (n m i k number : ℕ) → slice_get (numbers_of n owned) i ≡ Some number → slice_get (numbers_of m owned) k ≡ Some number
        → (n ≡ m) × (i ≡ k)
    apart owned n m i k number a b =
        let one = own_numbers owned n i number a in
        let two = own_numbers owned m k number b in
        let ones = one.is in
        let twos = two.is in
        let same : one.number ≡ two.number = omega (arith, ones, twos) in
        let cores_same : n ≡ m = same_some (slice_get owned two.number) n m (ap (slice_get owned) (sym same) ∙ one.owner) two.owner in
        (cores_same, one.place ∙ ap (λ (c : ℕ). own_before c one.number owned) cores_same ∙ ap (λ (c : ℕ). own_before m c owned) same ∙ sym two.place)

pub handed_out_join : HandedOutJoin
handed_out_join w p j at threads outcomes behind cores begin h = are_joined w p j at threads outcomes behind cores begin h

-- each core thread is lent the sides of its core's links
pub links_are_lent : (w : TheWorld) (p : Parts) (j : TheJoinedJobs) (at : Places) (threads : List TheCoreThread) (outcomes : List TheFinishedCore)
    → IsBehind w p → AreCores threads → AreCoreThreads (common_in p j at) 0 p.cores.items threads → Shares p at threads outcomes
    → (n : ℕ) (t : TheCoreThread) → slice_get threads n ≡ Some t → LinksAreLent t.run
links_are_lent w p j at threads outcomes behind cores begin h n t t_is = links_lent w p j at threads outcomes behind cores begin h n t t_is
