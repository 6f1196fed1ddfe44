-- The cores of a reported run as their threads are given them: nothing was opened there, nothing went over their links, and
-- no ring is both a link's and an end's.
use Rattle.std.proofs.Common.{◌≡◌, ◌≢◌, ◌⊎◌, inl, inr, refl, sym, ◌∙◌, ap, subst, ℕ, zero, suc, ◌+◌, ◌-◌, ◌*◌, ◌/◌, ◌%◌, ◌==◌, ◌<◌, ◌||◌}
use Rattle.std.proofs.Common.{nat_lt, Bool, true, false, if◌then◌else◌, List, [], ◌∷◌, length, slice_get, slice_index_or, Option, Some}
use Rattle.std.proofs.Common.{None, arith}
use Rattle.std.proofs.lemmas.Bool.{eq-eqb, eqb-true}
use Rattle.std.proofs.lemmas.Bool.Decides.{nat_tests}
use Rattle.std.specs.List.{list_any}
use Rattle.fl_base.specs.declared.fragment.Frag.{Frag}
use Rattle.fl_base.specs.declared.identity.EndId.{EndId}
use Rattle.fl_base.specs.Given.{given}
use Rattle.fl_hop.proofs.Entering.{same_or}
use Rattle.fl_hop.proofs.Lists.{within, index_there}
use Rattle.fl_hop.specs.declared.entry.Hop.{Hop}
use Rattle.fl_hop.specs.Table.{TheCircuits, numbers, slot, hop_at}
use Rattle.fl_ring.specs.Duo.{TheDuo}
use Rattle.fl_ring.specs.SharedSides.{TheSide}
use Rattle.fl_core.specs.declared.wiring.EndWiring.{EndWiring}
use Rattle.fl_core.specs.declared.wiring.EndWiring.TheVariants.{Ring}
use Rattle.fl_core.specs.declared.wiring.LinkSide.{LinkSide}
use Rattle.fl_core.specs.declared.wiring.WiredEnd.{WiredEnd}
use Rattle.fl_core.specs.Numbers.{moved_link_side, moved_wiring, moved_wired_end, renumbered}
use Rattle.fl_core.specs.Sound.{IsCore}
use Rattle.fl_core.specs.View.{TheCore, side_of_link}
use Rattle.fl_core.proofs.Numbering.{goes_to}
use Rattle.fl_core_run_laws.specs.Led.{IsLed, LeadsAtFirst}
use Rattle.fl_core_refines.specs.SetUpStart.{SetUpsStartFresh, across}
use Rattle.fl_model.specs.Ends.{End}
use Rattle.fl_model.specs.State.{State, Binding, end_of, end_in}
use Rattle.fl_cores_file.specs.Jobs.{Job}
use Rattle.fl_cores_file.specs.Report.{TheReport}
use Rattle.fl_cores_fork.specs.Runs.{TheCoreThread}
use Rattle.fl_cores_parts.specs.Begins.{TheCoreInputs, common_in}
use Rattle.fl_cores_parts.specs.Shares.{AreNewRings}
use Rattle.fl_cores_shares.specs.Settled.{TwoSides, sides_of}
use Rattle.fl_cores_shares.specs.Shares.{own_things}
use Rattle.fl_world.specs.Booting.{TheConfig}
use Rattle.fl_world_refines.specs.ShowsState.{wiring_of}
use Rattle.fl_world_refines.specs.View.{ring_at}
use Rattle.fl_world_refines.proofs.FramesBase.{gets, same_some}
use Rattle.fl_cores.specs.Behind.{joined_in}
use Rattle.fl_cores.specs.OneCore.{begins}
use Rattle.fl_cores.specs.Promised.{Reports}
use Rattle.fl_cores.proofs.CoresStart.{StartsQuiet, ruled_quiet, quiet_renumbered}
use Rattle.fl_cores.proofs.FollowsBegin.{is_ready}
use Rattle.fl_cores.proofs.FollowsHandedOut.{own_is_one}
use Rattle.fl_cores.proofs.SidesPlaces.{moved_to}
use Rattle.fl_cores.proofs.StartNumbers.{core_before}
use Rattle.fl_cores_joined.specs.Joined.{JoinedCore, IsJoined, in_world}
use Rattle.fl_cores_joined.specs.RenamedRuns.{AreWiredFor, IsQuietSide, IsAtFirst, AreAtFirst}
use Rattle.fl_cores_joined.proofs.RenamedWired.{side_found}
use Rattle.fl_cores_whole.specs.AnyOrder.{is_over, is_of_link}
use Rattle.fl_cores_whole.specs.Begin.{Owners, owners_in, HandedOutJoin}
use Rattle.fl_cores_whole.specs.Whole.{begun}
use Rattle.fl_cores_whole.proofs.Begin.{FirstThread, FirstJoined, first_thread, first_joined, holding_is}
use Rattle.fl_cores_whole.proofs.Whole.{ready, world, world_shows, is_behind, joined_first}

-- ---- whether one of a list is so

record Found {X : Type 0} (p : X → Bool) (xs : List X) : Type 0 where
  place : ℕ
  one : X
  one_is : slice_get xs place ≡ Some one
  so : p one ≡ true

any_there : {X : Type 0} (p : X → Bool) (xs : List X) → list_any p xs ≡ true → Found p xs
any_there p [] h = absurd (cc)
any_there p (x ∷ xs) h = by (p x) refl (λ is. any_there p xs (sym (ap (λ (b : Bool). b || list_any p xs) is) ∙ h))
  where
    by : (b : Bool) → p x ≡ b → (p x ≡ false → Found p xs) → Found p (x ∷ xs)
    by true is later = record { place = 0; one = x; one_is = refl; so = is }
    by false is later = let it = later is in record { place = suc it.place; one = it.one; one_is = it.one_is; so = it.so }

or_so : (a b : Bool) → b ≡ true → (a || b) ≡ true
or_so true b h = refl
or_so false b h = h

any_here : {X : Type 0} (p : X → Bool) (xs : List X) (n : ℕ) (x : X) → slice_get xs n ≡ Some x → p x ≡ true → list_any p xs ≡ true
any_here p [] n x at is = absurd (cc)
any_here p (y ∷ xs) zero x at is = let same : y ≡ x = cc in ap (λ (b : Bool). b || list_any p xs) (ap p same ∙ is)
any_here p (y ∷ xs) (suc n) x at is = or_so (p y) (list_any p xs) (any_here p xs n x at is)

-- ---- sides of one ring

across_or : (a b : ℕ) → ring_at a ≡ ring_at b → (a ≡ b) ⊎ (a ≡ across b)
across_or a b same = elim (same_or a b) [
  | inl is ↦ inl is
  | inr other ↦ inr (by (b % 2 == 0) refl other)
]
  where
    halves : a / 2 ≡ b / 2
    halves = same

    by : (t : Bool) → (b % 2 == 0) ≡ t → a ≢ b → a ≡ across b
    by true q other =
        let even : b % 2 ≡ 0 = eqb-true (b % 2) 0 q in
        let two = halves in
        let is : a ≡ b + 1 = omega (arith, even, two, other) in
        is ∙ sym (ap (λ (t : Bool). if t then b + 1 else b - 1) q)
    by false q other =
        let odd : b % 2 ≢ 0 = λ e. absurd (let clash : true ≡ false = sym (eq-eqb (b % 2) 0 e) ∙ q in cc) in
        let two = halves in
        let is : a ≡ b - 1 = omega (arith, odd, two, other) in
        is ∙ sym (ap (λ (t : Bool). if t then b + 1 else b - 1) q)

is_over_one : (o : Option ℕ) (ring : ℕ) → given o false (λ (number : ℕ). ring_at number == ring) ≡ true
    → (number : ℕ) × (o ≡ Some number) × (ring_at number ≡ ring)
is_over_one None ring h = absurd (cc)
is_over_one (Some number) ring h = (number, refl, eqb-true (ring_at number) ring h)

-- ---- new sides

quiet_side : (p q : TheSide) → p ≡ q → q.sent ≡ [] → q.got ≡ [] → q.peeked ≡ None → IsQuietSide p
quiet_side p q is sent got unseen = record {
  sent = λ i f m at says. nothing p.sent i f (ap (λ (s : TheSide). s.sent) is ∙ sent) at;
  got = λ i f m at says. nothing p.got i f (ap (λ (s : TheSide). s.got) is ∙ got) at;
  unseen = ap (λ (s : TheSide). s.peeked) is ∙ unseen;
}
  where
    nothing : (fs : List Frag) (i : ℕ) (f : Frag) → fs ≡ [] → slice_get fs i ≡ Some f → ⊥
    nothing fs i f none at = absurd (let clash : None ≡ Some f = sym (ap (λ (l : List Frag). slice_get l i) none) ∙ at in cc)

quiet_sides : (rings : List TheDuo) (pairs : List TwoSides) → AreNewRings rings pairs → (n : ℕ) (s : TheSide) → slice_get (sides_of pairs) n ≡ Some s
    → IsQuietSide s
quiet_sides [] [] h n s at = absurd (cc)
quiet_sides [] (p ∷ pairs) h n s at = absurd h
quiet_sides (r ∷ rings) [] h n s at = absurd h
quiet_sides (r ∷ rings) (p ∷ pairs) h zero s at =
    let same : p.one ≡ s = cc in quiet_side s _ (sym same ∙ h.0.one_is) refl refl refl
quiet_sides (r ∷ rings) (p ∷ pairs) h (suc zero) s at =
    let same : p.two ≡ s = cc in quiet_side s _ (sym same ∙ h.0.two_is) refl refl refl
quiet_sides (r ∷ rings) (p ∷ pairs) h (suc (suc n)) s at = quiet_sides rings pairs h.1 n s at

-- ---- ends and entries

end_within : (s : State) (e : EndId) (x : End) → end_of s e ≡ Some x → e.binding < length s.bindings
end_within s e x is = by (slice_get s.bindings e.binding) refl is
  where
    by : (o : Option Binding) → slice_get s.bindings e.binding ≡ o → given o None (λ b. Some (end_in e.side b)) ≡ Some x → e.binding < length s.bindings
    by None q h = absurd (cc)
    by (Some b) q h = within s.bindings e.binding b q

no_entry : (t : TheCircuits) → length t.hops ≡ numbers * length t.links → ((l n : ℕ) → l < length t.links → hop_at t l n ≡ None)
    → (i : ℕ) (o : Option Hop) → slice_get t.hops i ≡ Some o → o ≡ None
no_entry t whole none i o is =
    let below = within t.hops i o is in
    let l = i / 2047 in
    let n = i % 2047 in
    let less : l < length t.links = omega (arith, below, whole) in
    let few : n < 2047 = omega arith in
    let test : nat_lt n numbers ≡ true = grind (arith, nat_tests, few) in
    let place : slot l n ≡ i = omega arith in
    sym (index_there t.hops i None o is) ∙ ap (λ (k : ℕ). slice_index_or t.hops k None) (sym place)
    ∙ sym (ap (λ (b : Bool). if b then slice_index_or t.hops (slot l n) None else None) test) ∙ none l n less

-- ---- a core

module _ (fresh : SetUpsStartFresh) (handed : HandedOutJoin) (c : TheConfig) (jobs : List Job) (limit : ℕ) (r : TheReport) (w : Reports c jobs limit r) where
  abbrev threads : List TheCoreThread
  threads = w.ran.ran.ran.core_threads

  abbrev owners : Owners
  owners = owners_in w.ran.ran.ran.shares

  abbrev inputs : TheCoreInputs
  inputs = common_in w.ran.ran.parts (joined_in w) w.ran.ran.ran.places

  abbrev cores : List TheCore
  cores = w.ran.ran.parts.cores.items

  joined : IsJoined (world fresh c jobs limit r w) (begun w)
  joined = joined_first fresh handed c jobs limit r w

  module _ (n : ℕ) (x : JoinedCore) (x_is : slice_get (begun w) n ≡ Some x) where
    its : FirstJoined owners n threads x
    its = first_joined owners n threads x x_is

    thread : FirstThread inputs n cores its.thread
    thread = first_thread inputs n cores threads its.thread w.ran.ran.ran.begin its.thread_is

    core_there : slice_get (world fresh c jobs limit r w).cores n ≡ Some (in_world x)
    core_there = ap (λ (ks : List TheCore). slice_get ks n) joined.cores ∙ goes_to in_world (begun w) n x x_is

    part : slice_get cores n ≡ Some (in_world x)
    part = ap (λ (ks : List TheCore). slice_get ks n) (is_behind fresh c jobs limit r w).parts.cores ∙ core_there

    core_is : x.run.core ≡ renumbered w.ran.ran.ran.places.sides w.ran.ran.ran.places.queues thread.core
    core_is = ap (λ (z : JoinedCore). z.run.core) its.is ∙ thread.is.core_is

    sound : IsCore x.run.core
    sound = subst (λ (z : JoinedCore). IsCore z.run.core) (sym its.is) (w.ran.ran.ran.sound.begin n its.thread its.thread_is)

    sound_there : IsCore (in_world x)
    sound_there =
        let own : thread.core ≡ in_world x = same_some (slice_get cores n) thread.core (in_world x) thread.core_is part in
        subst IsCore own
        (core_before w.ran.ran.ran.places.sides w.ran.ran.ran.places.queues thread.core (subst IsCore core_is sound))

    quiet : StartsQuiet (joined_in w) x.run.core
    quiet =
        quiet_renumbered (joined_in w) w.ran.ran.ran.places.sides w.ran.ran.ran.places.queues thread.core x.run.core core_is
        (ruled_quiet fresh c jobs limit r w n thread.core thread.core_is)

    whole_table : length x.run.core.monitor.circuits.hops ≡ numbers * length x.run.core.monitor.circuits.links
    whole_table =
        let shows = world_shows fresh c jobs limit r w in
        let (k, k_is) = gets (world fresh c jobs limit r w).cores (begins c jobs).cores n (in_world x) (sym shows.showing.cores.count) core_there in
        let core = shows.showing.cores.each n k (in_world x) k_is core_there in
        subst (λ (t : TheCircuits). length t.hops ≡ numbers * length t.links) (sym core.monitor.circuits) (shows.sound.cores n k k_is).table.whole

    new_side : (i : ℕ) (p : TheSide) → slice_get x.run.rings i ≡ Some p → IsQuietSide p
    new_side i p is =
        let shares = w.ran.ran.ran.shares in
        let hand : its.thread.run.rings ≡ own_things n shares.side_owners (sides_of shares.pairs) =
        sym (holding_is (λ (s : TheCoreThread). s.run.rings) threads n its.thread its.thread_is) ∙ shares.sides.handed_out.each n in
        let there : slice_get its.thread.run.rings i ≡ Some p = ap (λ (z : JoinedCore). slice_get z.run.rings i) (sym its.is) ∙ is in
        let (m, m_is) = own_is_one n shares.side_owners (sides_of shares.pairs) i p (ap (λ (l : List TheSide). slice_get l i) (sym hand) ∙ there) in
        quiet_sides w.ran.ran.parts.rings.items shares.pairs shares.new m p m_is

    is_at_first : (links : ℕ → Bool) → IsAtFirst (length (begins c jobs).bindings) links x
    is_at_first links = record {
      ends = λ e place at.
          let sits = (world_shows fresh c jobs limit r w).showing.ends.only n (in_world x) e place core_there at in
          end_within (begins c jobs) e sits.0 sits.1.1;
      hops = no_entry x.run.core.monitor.circuits whole_table (λ l i less. let many = sound.link_sides in quiet.idle l i (omega (arith, less, many)));
      outboxes = λ l box is. sym (ap (λ (o : Option (List Frag)). given o [] λ (b : List Frag). b) is) ∙ quiet.quiet l;
      sides = λ i number p number_is p_is link. new_side i p p_is;
    }

    -- ---- its wiring

    link_there : (l : ℕ) (s : LinkSide) (number : ℕ) → slice_get x.run.core.link_sides l ≡ Some s → slice_get x.sides s.side ≡ Some number
        → side_of_link (in_world x).link_sides l ≡ Some number
    link_there l s number s_is number_is =
        ap (λ (o : Option LinkSide). given o None λ (z : LinkSide). Some z.side) (goes_to (moved_link_side x.sides) x.run.core.link_sides l s s_is)
        ∙ ap (λ (k : ℕ). Some k) (moved_to x.sides s.side number number_is)

    is_link : (l side number : ℕ) → side_of_link x.run.core.link_sides l ≡ Some side → slice_get x.sides side ≡ Some number
        → is_of_link (begun w) (ring_at number) ≡ true
    is_link l side number side_is number_is =
        let (s, s_is, same) = side_found x.run.core.link_sides l side (slice_get x.run.core.link_sides l) refl side_is in
        let over : is_over (ring_at number) x.sides s ≡ true =
        ap (λ (o : Option ℕ). given o false λ (m : ℕ). ring_at m == ring_at number) (ap (slice_get x.sides) same ∙ number_is)
        ∙ eq-eqb (ring_at number) (ring_at number) refl in
        any_here (λ (y : JoinedCore). list_any (is_over (ring_at number) y.sides) y.run.core.link_sides) (begun w) n x x_is
        (any_here (is_over (ring_at number) x.sides) x.run.core.link_sides l s s_is over)

    led : LeadsAtFirst → IsLed x.run.core
    led leads = subst (λ (z : JoinedCore). IsLed z.run.core) (sym its.is) (is_ready fresh c jobs limit r w n its.thread its.thread_is leads).led

  -- a ring of an end here is no link's
  module _ (n : ℕ) (x : JoinedCore) (x_is : slice_get (begun w) n ≡ Some x) (e side number : ℕ) (p : WiredEnd)
      (p_is : slice_get x.run.core.wired_ends e ≡ Some p) (ring_is : p.wiring ≡ Ring side) (number_is : slice_get x.sides side ≡ Some number) where
    wired_there : slice_get (in_world x).wired_ends e ≡ Some (moved_wired_end x.sides x.queues p)
    wired_there = goes_to (moved_wired_end x.sides x.queues) x.run.core.wired_ends e p p_is

    ring_there : moved_wiring x.sides x.queues p.wiring ≡ Ring number
    ring_there = ap (moved_wiring x.sides x.queues) ring_is ∙ ap (λ (m : ℕ). Ring m) (moved_to x.sides side number number_is)

    named_there : wiring_of (in_world x) p.name ≡ Some (Ring number)
    named_there =
        ap (λ (o : Option ℕ). given o None λ place. given (slice_get (in_world x).wired_ends place) None λ z. Some z.wiring)
        ((sound n x x_is).named e p p_is)
        ∙ ap (λ (o : Option WiredEnd). given o None λ z. Some z.wiring) wired_there
        ∙ ap (λ (v : EndWiring). Some v) ring_there

    no_link : (m : ℕ) (k : TheCore) (l other : ℕ) → slice_get cores m ≡ Some k → side_of_link k.link_sides l ≡ Some other → number ≡ other → ⊥
    no_link m k l other k_is other_is is =
        let l_is : side_of_link k.link_sides l ≡ Some number = other_is ∙ ap (λ (i : ℕ). Some i) (sym is) in
        let it = ready fresh c jobs limit r w in
        let here = part n x x_is in
        let place : m ≡ n = it.side_cores m n number k (in_world x) k_is here (inl (l, l_is)) (inr (p.name, named_there)) in
        let same : k ≡ in_world x = same_some (slice_get cores n) k (in_world x) (ap (slice_get cores) (sym place) ∙ k_is) here in
        (it.apart n (in_world x) here (sound_there n x x_is)).rings l e number (moved_wired_end x.sides x.queues p)
        (ap (λ (z : TheCore). side_of_link z.link_sides l) (sym same) ∙ l_is) wired_there ring_there

    no_links : is_of_link (begun w) (ring_at number) ≡ true → ⊥
    no_links h =
        let at = any_there (λ (y : JoinedCore). list_any (is_over (ring_at number) y.sides) y.run.core.link_sides) (begun w) h in
        let link = any_there (is_over (ring_at number) at.one.sides) at.one.run.core.link_sides at.so in
        let (other, other_is, same) = is_over_one (slice_get at.one.sides link.one.side) (ring_at number) link.so in
        let there = link_there at.place at.one at.one_is link.place link.one other link.one_is other_is in
        let here = part at.place at.one at.one_is in
        elim (across_or number other (sym same)) [
          | inl is ↦ no_link at.place (in_world at.one) link.place other here there is
          | inr is ↦
              (let back = (ready fresh c jobs limit r w).links at.place link.place other (in_world at.one) here there in
              no_link back.link.neighbour.0 back.core back.back (across other) back.core_is back.side_is is)
        ]

    is_no_link : is_of_link (begun w) (ring_at number) ≡ false
    is_no_link = by (is_of_link (begun w) (ring_at number)) refl
      where
        by : (b : Bool) → is_of_link (begun w) (ring_at number) ≡ b → is_of_link (begun w) (ring_at number) ≡ false
        by true q = absurd (no_links q)
        by false q = q

  pub are_at_first : (links : ℕ → Bool) → AreAtFirst (length (begins c jobs).bindings) links (begun w)
  are_at_first links n x x_is = is_at_first n x x_is links

  pub are_wired : LeadsAtFirst → AreWiredFor (is_of_link (begun w)) (begun w)
  are_wired leads n x x_is = record {
    long = joined.numbered.sides n x x_is;
    link_sides = is_link n x x_is;
    rings = is_no_link n x x_is;
    led = led n x x_is leads;
  }
