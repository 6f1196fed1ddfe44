-- Rings and queues handed out, one after another.
use Rattle.std.proofs.Common.{◌≡◌, ◌≢◌, refl, sym, ap, ◌∙◌, subst, arith, ℕ, suc, ◌+◌, ◌*◌, ◌<◌, ◌≤◌, List, [], ◌∷◌, ◌++◌, map, length, take, get_or, Some}
use Rattle.std.proofs.lemmas.List.{append_assoc, length-append, map-append, take_more, take_all}
use Rattle.std.proofs.lemmas.Option.{slice_get-get_or}
use Rattle.fl_compile.specs.declared.program.Program.{Program}
use Rattle.fl_link.specs.Queue.{TheQueue}
use Rattle.fl_ring.specs.Duo.{TheDuo}
use Rattle.atomic_table.specs.Seated.{TableId}
use Rattle.fl_ring.specs.Duo.{MayHaveSlots}
use Rattle.fl_ring.specs.SharedSides.{TheSide, started_side}
use Rattle.fl_ring.specs.declared.shared.duo_board.SeatHolder.TheVariants.{One, Two}
use Rattle.fl_history_rings.specs.declared.board.RingEnds.{RingEnds}
use Rattle.fl_history_rings.specs.Cores.{IsRingOf}
use Rattle.fl_history_sides.specs.States.{TheHistorySide}
use Rattle.fl_history_sides.proofs.Lists.{all_push}
use Rattle.fl_core.specs.View.{TheCore}
use Rattle.fl_world_refines.specs.declared.parts.Parts.{Parts}
use Rattle.fl_cores_shares.specs.declared.shares.CoreShares.{CoreShares}
use Rattle.fl_cores_shares.specs.Shares.{Holdings, AreHandedOut, holdings_in, Holds, Gives}
use Rattle.fl_cores_shares.specs.Settled.{sides_of as both_of}
use Rattle.fl_history_shares.specs.declared.dealing.DealtSides.{DealtSides}
use Rattle.fl_history_shares.specs.Dealt.{owners_in, numbers_below, hands_in, new_rings, shown_hands}
use Rattle.fl_history_shares.proofs.Numbered.{owners_more}
use Rattle.fl_history_shares.proofs.Shown.{dealt_shown}
use Rattle.fl_world_refines.specs.ShowsState.{NamesQueue, NamesSide}
use Rattle.fl_cores_jobs.specs.State.{TheJoinedJobs}
use Rattle.fl_cores_fork.specs.Runs.{TheCoreThread}
use Rattle.fl_cores_parts.specs.Begins.{TheCoreInputs, Places, common_in, AreCoreThreads}
use Rattle.fl_cores_parts.specs.Shares.{AreOwners, AreShared, AreNewRings, sides_given, queues_given}
use Rattle.fl_cores_parts.specs.AtTable.{AreBetween, BeginAtTable}
use Rattle.fl_cores_parts.specs.Dealing.{AreOf, HaveOwners, DealsRings, HandsOutQueues, SharesOut, Wirings}

-- ---- owners

-- the owner at a place is one of the cores
pub owner_of : (cores : ℕ) (owners : List ℕ) (place owner : ℕ) → AreOf cores owners → place < length owners → owner ≡ get_or owners place 0 → owner < cores
owner_of cores owners place owner of below is = of place owner (slice_get-get_or owners place 0 below ∙ ap Some (sym is))

one_owner : (owners : List ℕ) (place owner : ℕ) → place < length owners → owner ≡ get_or owners place 0 → take (place + 1) owners ≡ take place owners ++ owner ∷ []
one_owner owners place owner below is = take_more owners place 0 below ∙ ap (λ (x : ℕ). take place owners ++ x ∷ []) (sym is)

two_owners : (owners : List ℕ) (place first second : ℕ) → place + 1 < length owners → first ≡ get_or owners place 0 → second ≡ get_or owners (place + 1) 0
    → take (place + 2) owners ≡ take place owners ++ first ∷ second ∷ []
two_owners owners place first second below one two =
    let next : place + 2 ≡ place + 1 + 1 = omega arith in
    ap (λ (n : ℕ). take n owners) next
    ∙ one_owner owners (place + 1) second below two
    ∙ ap (λ (xs : List ℕ). xs ++ second ∷ []) (one_owner owners place first (omega (arith, below)) one)
    ∙ append_assoc (take place owners) (first ∷ []) (second ∷ [])

-- ---- rings

-- no ring is between its cores yet
pub none_between : (cores : ℕ) → AreBetween [] [] cores []
none_between cores = record { sizes = refl; owners_are = refl; of = tt; apart = tt }

ring_more : (rings : List TheDuo) (owners : List ℕ) (cores : ℕ) (ends : List RingEnds) (r : TheDuo) (e : RingEnds) → AreBetween rings owners cores ends
    → e.slots ≡ r.size → IsRingOf cores e → e.first ≢ e.second → AreBetween (rings ++ r ∷ []) (owners ++ e.first ∷ e.second ∷ []) cores (ends ++ e ∷ [])
ring_more rings owners cores ends r e so size of apart = record {
  sizes = map-append (λ (x : RingEnds). x.slots) ends (e ∷ []) ∙ ap (λ (ns : List ℕ). ns ++ e.slots ∷ []) so.sizes
      ∙ ap (λ (n : ℕ). map (λ (x : TheDuo). x.size) rings ++ n ∷ []) size ∙ sym (map-append (λ (x : TheDuo). x.size) rings (r ∷ []));
  owners_are = owners_more ends e ∙ ap (λ (os : List ℕ). os ++ e.first ∷ e.second ∷ []) so.owners_are;
  of = all_push (IsRingOf cores) ends e so.of of;
  apart = all_push (λ (x : RingEnds). x.first ≢ x.second) ends e so.apart apart;
}

pub one_ring_more : (rings : List TheDuo) (owners : List ℕ) (cores i place : ℕ) (ends more : List RingEnds) (r : TheDuo) (e : RingEnds) (first second : ℕ) → i < length rings
    → r ≡ get_or rings i r → place + 1 < length owners → first ≡ get_or owners place 0 → second ≡ get_or owners (place + 1) 0 → AreOf cores owners
    → AreBetween (take i rings) (take place owners) cores ends → e.slots ≡ r.size → MayHaveSlots r.size → e.first ≡ first → e.second ≡ second → first ≢ second
    → more ≡ ends ++ e ∷ [] → AreBetween (take (i + 1) rings) (take (place + 2) owners) cores more
one_ring_more rings owners cores i place ends more r e first second below is within one two of so size may first_is second_is apart added =
    let whole : take i rings ++ r ∷ [] ≡ take (i + 1) rings = ap (λ (x : TheDuo). take i rings ++ x ∷ []) is ∙ sym (take_more rings i r below) in
    let both : take place owners ++ e.first ∷ e.second ∷ [] ≡ take (place + 2) owners =
    ap (λ (n : ℕ). take place owners ++ n ∷ e.second ∷ []) first_is ∙ ap (λ (n : ℕ). take place owners ++ first ∷ n ∷ []) second_is
    ∙ sym (two_owners owners place first second within one two) in
    let ring : IsRingOf cores e = record {
      slots = subst MayHaveSlots (sym size) may;
      first = subst (λ (n : ℕ). n < cores) (sym first_is) (owner_of cores owners place first of (omega (arith, within)) one);
      second = subst (λ (n : ℕ). n < cores) (sym second_is) (owner_of cores owners (place + 1) second of within two);
    } in
    let unlike : e.first ≢ e.second = λ same. apart (sym first_is ∙ same ∙ second_is) in
    subst (λ (rs : List TheDuo). AreBetween rs (take (place + 2) owners) cores more) whole
    (subst (λ (os : List ℕ). AreBetween (take i rings ++ r ∷ []) os cores more) both
    (subst (λ (es : List RingEnds). AreBetween (take i rings ++ r ∷ []) (take place owners ++ e.first ∷ e.second ∷ []) cores es) (sym added)
    (ring_more (take i rings) (take place owners) cores ends r e so size ring unlike)))

pub all_between : (rings : List TheDuo) (owners : List ℕ) (cores i place : ℕ) (ends : List RingEnds) → length rings ≤ i → place ≡ 2 * i → length owners ≡ 2 * length rings
    → AreBetween (take i rings) (take place owners) cores ends → AreBetween rings owners cores ends
all_between rings owners cores i place ends all is count so =
    subst (λ (os : List ℕ). AreBetween rings os cores ends) (take_all place owners (omega (arith, all, is, count)))
    (subst (λ (rs : List TheDuo). AreBetween rs (take place owners) cores ends) (take_all i rings all) so)

-- new ones, of these sizes
new_of : (table : TableId) (rings : List TheDuo) (ends : List RingEnds) → map (λ (e : RingEnds). e.slots) ends ≡ map (λ (r : TheDuo). r.size) rings
    → AreNewRings rings (new_rings table ends)
new_of table [] [] same = tt
new_of table [] (e ∷ ends) same = absurd (cc)
new_of table (r ∷ rings) [] same = absurd (cc)
new_of table (r ∷ rings) (e ∷ ends) same =
    let first : e.slots ≡ r.size = cc in
    let rest : map (λ (x : RingEnds). x.slots) ends ≡ map (λ (x : TheDuo). x.size) rings = cc in (
      record { one_is = ap (λ (n : ℕ). started_side table One n 0) first; two_is = ap (λ (n : ℕ). started_side table Two n 0) first },
      new_of table rings ends rest,
    )

-- ---- queues

pub one_queue_more : (queues : List TheQueue) (owners : List ℕ) (cores place : ℕ) (d d2 : CoreShares TheQueue) (q : TheQueue) (owner : ℕ) → place < length owners
    → owner ≡ get_or owners place 0 → HandsOutQueues queues (take place owners) cores d → Gives owner q d d2
    → HandsOutQueues (queues ++ q ∷ []) (take (place + 1) owners) cores d2
one_queue_more queues owners cores place d d2 q owner below is so gives = record {
  holds = gives.holds queues so.holds;
  owners_are = gives.owners ∙ ap (λ (xs : List ℕ). xs ++ owner ∷ []) so.owners_are ∙ sym (one_owner owners place owner below is);
  as_many = gives.cores ∙ so.as_many;
}

-- what was still to come, but for the one that came
pub left_more : (queues yielded rest rest2 : List TheQueue) (q : TheQueue) → rest ≡ q ∷ rest2 → yielded ++ rest ≡ queues → (yielded ++ q ∷ []) ++ rest2 ≡ queues
left_more queues yielded rest rest2 q step left = append_assoc yielded (q ∷ []) rest2 ∙ ap (λ (qs : List TheQueue). yielded ++ qs) (sym step) ∙ left

-- each has an owner
pub owned_yet : (queues yielded rest rest2 : List TheQueue) (owners : List ℕ) (place : ℕ) (q : TheQueue) → rest ≡ q ∷ rest2 → yielded ++ rest ≡ queues
    → length owners ≡ length queues → place ≡ length yielded → place < length owners
owned_yet queues yielded rest rest2 owners place q step left count is =
    let whole : length yielded + length rest ≡ length queues = sym (length-append yielded rest) ∙ ap length left in
    let more : length rest ≡ suc (length rest2) = ap length step in
    omega (arith, whole, more, count, is)

pub all_queues : (queues yielded : List TheQueue) (owners : List ℕ) (cores place : ℕ) (d : CoreShares TheQueue) → yielded ≡ queues → length owners ≤ place
    → HandsOutQueues yielded (take place owners) cores d → HandsOutQueues queues owners cores d
all_queues queues yielded owners cores place d all whole so =
    subst (λ (os : List ℕ). HandsOutQueues queues os cores d) (take_all place owners whole)
    (subst (λ (qs : List TheQueue). HandsOutQueues qs (take place owners) cores d) all so)

-- ---- what core threads are given

-- what is told of things that a record of dealing holds
shared_of : {T : Type 0} (d : CoreShares T) (things : List T) (owners : List ℕ) (holdings : List (List T)) → Holds d things → d.owners.items ≡ owners → holdings ≡ holdings_in d
    → AreShared owners things d.places.items holdings
shared_of {T} d things owners holdings holds same is =
    subst (λ (os : List ℕ). AreShared os things d.places.items holdings) same
    (subst (λ (hs : List (List T)). AreShared d.owners.items things d.places.items hs) (sym is)
    (record { handed_out = holds.handed_out; at = holds.places; apart = holds.apart; counted = holds.counted }))

-- both kinds of things, by so many rings, queues and cores as there are
pub shares_out : (ks : List TheCore) (rs : List TheDuo) (qs : List TheQueue) (rings queues cores : ℕ) (by_sides by_queues : List ℕ) (s : DealtSides) (q : CoreShares TheQueue)
    → rings ≡ length rs → queues ≡ length qs → cores ≡ length ks → HaveOwners ks NamesSide (2 * rings) by_sides → HaveOwners ks NamesQueue queues by_queues
    → DealsRings rs by_sides cores s → HandsOutQueues qs by_queues cores q → SharesOut ks rs qs s q
shares_out ks rs qs rings queues cores by_sides by_queues s q is_rings is_queues is_cores named_sides named_queues hands_out_s hands_out_q = record {
  by_sides = by_sides;
  by_queues = by_queues;
  sides_named = subst (λ (n : ℕ). HaveOwners ks NamesSide (2 * n) by_sides) is_rings named_sides;
  queues_named = subst (λ (n : ℕ). HaveOwners ks NamesQueue n by_queues) is_queues named_queues;
  sides = subst (λ (n : ℕ). DealsRings rs by_sides n s) is_cores hands_out_s;
  queues = subst (λ (n : ℕ). HandsOutQueues qs by_queues n q) is_cores hands_out_q;
}

-- what all core threads are made of, by lists as the code has them
abbrev pub common_at : Parts → TheJoinedJobs → ℕ → List Program → List ℕ → List ℕ → TheCoreInputs
common_at p j cores programs sides queues = record {
  cores = cores;
  joined = j;
  offers = record { names = p.names; programs = programs };
  places = record { sides = sides; queues = queues };
}

pub common_same : (p : Parts) (j : TheJoinedJobs) (cores : ℕ) (programs : List Program) (sides sides2 queues queues2 : List ℕ) → cores ≡ length p.cores.items
    → programs ≡ p.programs.items → sides ≡ sides2 → queues ≡ queues2
    → common_at p j cores programs sides queues ≡ common_in p j (record { sides = sides2; queues = queues2 })
common_same p j cores programs sides sides2 queues queues2 is_cores is_programs is_sides is_queues =
    ap (λ (n : ℕ). common_at p j n programs sides queues) is_cores
    ∙ ap (λ (ps : List Program). common_at p j (length p.cores.items) ps sides queues) is_programs
    ∙ ap (λ (ss : List ℕ). common_at p j (length p.cores.items) p.programs.items ss queues) is_sides
    ∙ ap (λ (qs : List ℕ). common_at p j (length p.cores.items) p.programs.items sides2 qs) is_queues

-- the sides that are dealt, as sides of rings by themselves
sides_shared : (rings : List TheDuo) (owners : List ℕ) (cores : ℕ) (s : DealtSides) (deals : DealsRings rings owners cores s) (holdings : Holdings TheSide)
    → holdings ≡ shown_hands (hands_in s.sides.items)
    → AreShared s.numbers.owners.items (both_of (new_rings deals.deals.table deals.ends)) s.numbers.places.items holdings
sides_shared rings owners cores s deals holdings is =
    let out = dealt_shown deals.ends cores s deals.deals in
    subst (λ (hs : Holdings TheSide). AreShared s.numbers.owners.items (both_of (new_rings deals.deals.table deals.ends)) s.numbers.places.items hs) (sym is)
    (record { handed_out = out.handed_out; at = out.at; apart = deals.deals.holds.apart; counted = deals.deals.holds.counted })

pub wires_of : (p : Parts) (j : TheJoinedJobs) (c : TheCoreInputs) (core_threads : List TheCoreThread) (ks : List TheCore) (rs : List TheDuo) (s : DealtSides) (q : CoreShares TheQueue)
    → c ≡ common_in p j (record { sides = s.numbers.places.items; queues = q.places.items }) → ks ≡ p.cores.items → rs ≡ p.rings.items → SharesOut ks rs p.queues.items s q
    → AreCoreThreads c 0 p.cores.items core_threads → sides_given core_threads ≡ shown_hands (hands_in s.sides.items) → queues_given core_threads ≡ holdings_in q
    → Wirings p j core_threads s.numbers.owners.items
wires_of p j c core_threads ks rs s q common is_cores is_rings handed_out are hands_s holdings_q =
    let at : Places = record { sides = s.numbers.places.items; queues = q.places.items } in
    let out : SharesOut p.cores.items p.rings.items p.queues.items s q =
    subst (λ (rings : List TheDuo). SharesOut p.cores.items rings p.queues.items s q) is_rings
    (subst (λ (cores : List TheCore). SharesOut cores rs p.queues.items s q) is_cores handed_out) in
    let owners : s.numbers.owners.items ≡ out.by_sides = out.sides.deals.owners ∙ out.sides.between.owners_are in
    record {
      places = at;
      begin = subst (λ (d : TheCoreInputs). AreCoreThreads d 0 p.cores.items core_threads) common are;
      dealing = record {
        sides_named = subst (AreOwners p.cores.items NamesSide (2 * length p.rings.items)) (sym owners) out.sides_named.named;
        pairs = new_rings out.sides.deals.table out.sides.ends;
        new = new_of out.sides.deals.table p.rings.items out.sides.ends out.sides.between.sizes;
        sides = sides_shared p.rings.items out.by_sides (length p.cores.items) s out.sides (sides_given core_threads) hands_s;
        queue_owners = out.by_queues;
        queues_named = out.queues_named.named;
        queues = shared_of q p.queues.items out.by_queues (queues_given core_threads) out.queues.holds out.queues.owners_are holdings_q;
      };
    }

-- the cores begin with sides of rings at one table
pub begins_at : (p : Parts) (ks : List TheCore) (rs : List TheDuo) (s : DealtSides) (q : CoreShares TheQueue) (hands : Holdings TheHistorySide)
    → ks ≡ p.cores.items → rs ≡ p.rings.items → SharesOut ks rs p.queues.items s q → hands ≡ hands_in s.sides.items
    → BeginAtTable p.rings.items s.numbers.owners.items (length p.cores.items) hands
begins_at p ks rs s q hands is_cores is_rings handed_out is =
    let out : SharesOut p.cores.items p.rings.items p.queues.items s q =
    subst (λ (rings : List TheDuo). SharesOut p.cores.items rings p.queues.items s q) is_rings
    (subst (λ (cores : List TheCore). SharesOut cores rs p.queues.items s q) is_cores handed_out) in
    let deals = out.sides.deals in
    let owners : s.numbers.owners.items ≡ out.by_sides = deals.owners ∙ out.sides.between.owners_are in
    let count : length (owners_in out.sides.ends) ≡ length s.numbers.owners.items = sym (ap length deals.owners) in
    record {
      ends = out.sides.ends;
      between = subst (λ (os : List ℕ). AreBetween p.rings.items os (length p.cores.items) out.sides.ends) (sym owners) out.sides.between;
      table = deals.table;
      numbers = holdings_in s.numbers;
      handed_out = subst (λ (n : ℕ). AreHandedOut s.numbers.owners.items (numbers_below n) (holdings_in s.numbers)) count deals.holds.handed_out;
      hands_are = is ∙ deals.hands;
    }
