-- What the thread of one core by itself is given shows what the set-up's world shows.
use Rattle.std.proofs.Common.{◌≡◌, inl, inr, refl, sym, ◌∙◌, ap, subst, ℕ, zero, suc, ◌+◌, ◌<◌, ◌≤◌, ◌==◌, Bool, true, false, if◌then◌else◌}
use Rattle.std.proofs.Common.{List, [], ◌∷◌, ◌++◌, length, length-append, slice_get, Option, Some, None, arith}
use Rattle.fl_base.specs.declared.identity.EndId.{EndId}
use Rattle.fl_base.specs.Given.{given}
use Rattle.fl_base.specs.Numbered.{most_bindings}
use Rattle.fl_hop.proofs.Lists.{within, index_there}
use Rattle.fl_link.specs.Queue.{TheQueue}
use Rattle.fl_ring.specs.Duo.{TheDuo}
use Rattle.fl_ring.specs.SharedSides.{TheSide}
use Rattle.fl_cores_shares.specs.Shares.{own_things}
use Rattle.fl_cores_shares.specs.Settled.{TwoSides, sides_of}
use Rattle.fl_core.specs.declared.wiring.EndWiring.{EndWiring}
use Rattle.fl_core.specs.declared.wiring.EndWiring.TheVariants.{Queues}
use Rattle.fl_core.specs.declared.wiring.WiredEnd.{WiredEnd}
use Rattle.fl_core.specs.View.{TheCore, place_of}
use Rattle.fl_core.specs.Numbers.{moved}
use Rattle.fl_model.specs.State.{State}
use Rattle.fl_world_refines.proofs.Tests.{lt_true}
use Rattle.fl_world_refines.specs.View.{TheWorld}
use Rattle.fl_world_refines.specs.ShowsState.{wiring_of, IsWiring, Shows, NamesQueue}
use Rattle.fl_world_refines.proofs.FramesBase.{same_some}
use Rattle.fl_world_refines.proofs.WritingPieces.{stands_there}
use Rattle.fl_world_refines.proofs.WritingQueues.{peer_of}
use Rattle.fl_core_run.specs.declared.opening_status.OpeningStatus.{OpeningStatus}
use Rattle.fl_core_run.specs.declared.opening_status.OpeningStatus.TheVariants.{Silent, Tells, Hears}
use Rattle.fl_core_run.specs.OpeningStatus.{word_by}
use Rattle.fl_cores_jobs.specs.declared.end_work.BindingCores.{BindingCores}
use Rattle.fl_cores_parts.specs.Begins.{ends_at, ends_from, words_at, words_of}
use Rattle.fl_cores_parts.specs.Shares.{AreNewRings, AreOwners, AreShared}
use Rattle.fl_core_refines.specs.AloneShown.{HasFew, AreSilent}
use Rattle.fl_core_refines.specs.AloneHanded.{AreHanded}

-- ---- queues that the core names are there

wired_end_found : (k : TheCore) (e : EndId) (v : EndWiring) → wiring_of k e ≡ Some v → (place : ℕ) × (place_of k e ≡ Some place) × ((p : WiredEnd) ×
    (slice_get k.wired_ends place ≡ Some p) × (p.wiring ≡ v))
wired_end_found k e v q = by (place_of k e) refl q
  where
    at : (place : ℕ) → place_of k e ≡ Some place → (o : Option WiredEnd) → slice_get k.wired_ends place ≡ o → given o None (λ (p : WiredEnd). Some p.wiring) ≡ Some v
        → (n : ℕ) × (place_of k e ≡ Some n) × ((p : WiredEnd) × (slice_get k.wired_ends n ≡ Some p) × (p.wiring ≡ v))
    at place there None r h = absurd (cc)
    at place there (Some p) r h = (place, there, (p, r, same_some (Some p.wiring) p.wiring v refl h))

    by : (o : Option ℕ) → place_of k e ≡ o → given o None (λ n. given (slice_get k.wired_ends n) None λ (p : WiredEnd). Some p.wiring) ≡ Some v
        → (n : ℕ) × (place_of k e ≡ Some n) × ((p : WiredEnd) × (slice_get k.wired_ends n ≡ Some p) × (p.wiring ≡ v))
    by None there h = absurd (cc)
    by (Some place) there h = at place there (slice_get k.wired_ends place) refl h

both_there : (w : TheWorld) (s : State) (k : TheCore) (e : EndId) (out from : ℕ) → Shows w s → slice_get w.cores 0 ≡ Some k
    → wiring_of k e ≡ Some (Queues out from)
    → ((q : TheQueue) × (slice_get w.queues out ≡ Some q)) × ((q : TheQueue) × (slice_get w.queues from ≡ Some q))
both_there w s k e out from shown there q =
    let p = wired_end_found k e (Queues out from) q in
    let h = stands_there w s e 0 p.0 k shown there p.1 in
    let core : h.core ≡ k = same_some (slice_get w.cores 0) h.core k h.core_is there in
    let wired_end : h.wired_end ≡ p.2.0 = same_some (slice_get k.wired_ends p.0) h.wired_end p.2.0 (ap (λ (c : TheCore). slice_get c.wired_ends p.0) (sym core) ∙ h.wired_end_is) p.2.1 in
    let wiring : h.wired_end.wiring ≡ Queues out from = ap (λ (x : WiredEnd). x.wiring) wired_end ∙ p.2.2 in
    let is : IsWiring w h.core s e h.binding (Queues out from) = subst (IsWiring w h.core s e h.binding) wiring h.wiring in
    let other = peer_of w s e 0 p.0 h out from shown wiring in
    ((other.there, other.there_is), (is.1.there, is.1.there_is))

named_there : (w : TheWorld) (s : State) (k : TheCore) (n : ℕ) → Shows w s → slice_get w.cores 0 ≡ Some k → NamesQueue k n
    → (q : TheQueue) × (slice_get w.queues n ≡ Some q)
named_there w s k n shown there (inl (e, from, q)) = (both_there w s k e n from shown there q).0
named_there w s k n shown there (inr (e, out, q)) = (both_there w s k e out n shown there q).1

-- ---- they are handed to the one core

alone : (k d : TheCore) (m : ℕ) → slice_get (k ∷ []) m ≡ Some d → m ≡ 0
alone k d zero q = refl
alone k d (suc m) q = absurd (cc)

pub are_handed : (w : TheWorld) (s : State) (k : TheCore) (owners numbers : List ℕ) (queues : List TheQueue) → Shows w s → slice_get w.cores 0 ≡ Some k
    → AreOwners (k ∷ []) NamesQueue (length w.queues) owners → AreShared owners w.queues numbers (queues ∷ []) → AreHanded w k numbers queues
are_handed w s k owners numbers queues shown there named shared = record {
  there = λ n q h is.
      let at = shared.at n 0 q (owner n h q is) is in
      ap (slice_get queues) (index_there numbers n n at.place at.place_is) ∙ at.stands;
  apart = λ n m g h same.
      let a = named_there w s k n shown there g in
      let b = named_there w s k m shown there h in
      let x = shared.at n 0 a.0 (owner n g a.0 a.1) a.1 in
      let y = shared.at m 0 b.0 (owner m h b.0 b.1) b.1 in
      let one : moved numbers n ≡ x.place = index_there numbers n n x.place x.place_is in
      let two : moved numbers m ≡ y.place = index_there numbers m m y.place y.place_is in
      shared.apart n m 0 y.place (owner n g a.0 a.1) (owner m h b.0 b.1) (x.place_is ∙ ap (λ i. Some i) (sym one ∙ same ∙ two)) y.place_is;
}
  where
    owner : (n : ℕ) → NamesQueue k n → (q : TheQueue) → slice_get w.queues n ≡ Some q → slice_get owners n ≡ Some 0
    owner n h q is = named.each 0 n k refl h (within w.queues n q is) (λ m d at names. alone k d m at)

-- ---- no sides of rings are

no_pairs : (rings : List TheDuo) (pairs : List TwoSides) → AreNewRings rings pairs → rings ≡ [] → pairs ≡ []
no_pairs [] [] h q = refl
no_pairs [] (p ∷ pairs) h q = absurd h
no_pairs (r ∷ rings) pairs h q = absurd (cc)

owns_none : (owners : List ℕ) (things : List TheSide) → things ≡ [] → own_things 0 owners things ≡ []
owns_none owners [] q = by owners
  where
    by : (xs : List ℕ) → own_things {T = TheSide} 0 xs [] ≡ []
    by [] = refl
    by (x ∷ xs) = refl
owns_none owners (t ∷ things) q = absurd (cc)

pub no_sides : (rings : List TheDuo) (pairs : List TwoSides) (owners places : List ℕ) (sides : List TheSide) → AreNewRings rings pairs → rings ≡ []
    → AreShared owners (sides_of pairs) places (sides ∷ []) → sides ≡ []
no_sides rings pairs owners places sides new none shared =
    shared.handed_out.each 0 ∙ owns_none owners (sides_of pairs) (ap sides_of (no_pairs rings pairs new none))

-- ---- ends and their words

abbrev EachSilent : List OpeningStatus → Type 0
EachSilent [] = Unit {0}
EachSilent (w ∷ words) = (w ≡ Silent) × EachSilent words

both_silent : (xs ys : List OpeningStatus) → EachSilent xs → EachSilent ys → EachSilent (xs ++ ys)
both_silent [] ys h k = k
both_silent (x ∷ xs) ys h k = (h.0, both_silent xs ys h.1 k)

by_test : (b : Bool) (x : OpeningStatus) → x ≡ Silent → EachSilent (if b then x ∷ [] else [])
by_test true x q = (q, tt)
by_test false x q = tt

abbrev AllUnopened : List BindingCores → Type 0
AllUnopened bindings = (n : ℕ) (b : BindingCores) → slice_get bindings n ≡ Some b → b.opened ≡ None

each_silent : (core : ℕ) (bindings : List BindingCores) → AllUnopened bindings → EachSilent (words_of core bindings)
each_silent core [] h = tt
each_silent core (b ∷ bindings) h =
    both_silent (words_at core b) (words_of core bindings)
    (both_silent (if b.client == core then word_by Tells b.opened ∷ [] else []) (if b.server == core then word_by Hears b.opened ∷ [] else [])
    (by_test (b.client == core) (word_by Tells b.opened) (ap (word_by Tells) (h 0 b refl))) (by_test (b.server == core) (word_by Hears b.opened) (ap
    (word_by Hears) (h 0 b refl))))
    (each_silent core bindings (λ n x q. h (suc n) x q))

as_long : {X Y : Type 0} (a b : Bool) (x y : X) (u v : Y) → length ((if a then x ∷ [] else []) ++ (if b then y ∷ [] else [])) ≡ length
    ((if a then u ∷ [] else []) ++ (if b then v ∷ [] else []))
as_long true true x y u v = refl
as_long true false x y u v = refl
as_long false true x y u v = refl
as_long false false x y u v = refl

as_many : (core n : ℕ) (bindings : List BindingCores) → length (words_of core bindings) ≡ length (ends_from core n bindings)
as_many core n [] = refl
as_many core n (b ∷ bindings) =
    length-append (words_at core b) (words_of core bindings)
    ∙ ap (λ i. i + length (words_of core bindings)) (as_long (b.client == core) (b.server == core) (word_by Tells b.opened) (word_by Hears b.opened) _ _)
    ∙ ap (λ i. length (ends_at core n b) + i) (as_many core (suc n) bindings)
    ∙ sym (length-append (ends_at core n b) (ends_from core (suc n) bindings))

silent_at : (words : List OpeningStatus) (k : ℕ) → EachSilent words → k < length words → slice_get words k ≡ Some Silent
silent_at [] k h less = absurd (omega (arith, less))
silent_at (w ∷ words) zero h less = ap (λ x. Some x) h.0
silent_at (w ∷ words) (suc k) h less = silent_at words k h.1 (omega (arith, less))

pub are_silent : (core n : ℕ) (bindings : List BindingCores) → ((m : ℕ) (b : BindingCores) → slice_get bindings m ≡ Some b → b.opened ≡ None)
    → AreSilent (ends_from core n bindings) (words_of core bindings)
are_silent core n bindings h k less =
    silent_at (words_of core bindings) k (each_silent core bindings h) (subst (λ i. k < i) (sym (as_many core n bindings)) less)

-- ---- their numbers

abbrev EachBelow : ℕ → List EndId → Type 0
EachBelow m [] = Unit {0}
EachBelow m (e ∷ ends) = (e.binding < m) × EachBelow m ends

both_below : (m : ℕ) (xs ys : List EndId) → EachBelow m xs → EachBelow m ys → EachBelow m (xs ++ ys)
both_below m [] ys h k = k
both_below m (x ∷ xs) ys h k = (h.0, both_below m xs ys h.1 k)

below_by : (m : ℕ) (b : Bool) (e : EndId) → e.binding < m → EachBelow m (if b then e ∷ [] else [])
below_by m true e h = (h, tt)
below_by m false e h = tt

each_below : (core n m : ℕ) (bindings : List BindingCores) → n + length bindings ≤ m → EachBelow m (ends_from core n bindings)
each_below core n m [] h = tt
each_below core n m (b ∷ bindings) h =
    both_below m (ends_at core n b) (ends_from core (suc n) bindings)
    (both_below m _ _ (below_by m (b.client == core) _ (omega (arith, h))) (below_by m (b.server == core) _ (omega (arith, h))))
    (each_below core (suc n) m bindings (omega (arith, h)))

below_at : (m : ℕ) (ends : List EndId) (k : ℕ) (e : EndId) → EachBelow m ends → slice_get ends k ≡ Some e → e.binding < m
below_at m [] k e h q = absurd (cc)
below_at m (x ∷ ends) zero e h q = let same : x ≡ e = cc in subst (λ (y : EndId). y.binding < m) same h.0
below_at m (x ∷ ends) (suc k) e h q = below_at m ends k e h.1 q

pub has_few : (core : ℕ) (bindings : List BindingCores) → length bindings ≤ 1024 → HasFew (ends_from core 0 bindings)
has_few core bindings few k e q =
    lt_true e.binding most_bindings (below_at most_bindings (ends_from core 0 bindings) k e (each_below core 0 most_bindings bindings (omega (arith, few))) q)
