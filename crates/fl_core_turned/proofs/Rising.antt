-- What looks, puts and takes do to the counts of a side: they only rise; a look that finds nothing is a miss, and a put or an
-- acknowledgement that finds a side full has loaded.
use Rattle.std.proofs.Common.{◌≡◌, ◌⊎◌, inl, inr, sym, ap, subst, ℕ, ◌+◌, ◌≤◌, ◌<◌, ◌^◌, nat_le, List, [], ◌∷◌, ◌++◌, length, None, arith}
use Rattle.std.proofs.lemmas.List.{length_push}
use Rattle.fl_base.specs.Control.{told_of}
use Rattle.fl_link.specs.Looks.{Look, Looks, LinkStep, placed, no_room, spent, saw, saw_ack, found, found_ack, missed, told, kept}
use Rattle.fl_ring.specs.Counts.{count_from}
use Rattle.fl_ring.specs.SharedSides.{TheSide, free_of, side_missed, side_counted, MayStand, KnowsSent, Looked, SharedPuts, SharedTakes}
use Rattle.fl_world_refines.proofs.Tests.{by_test, true_le, false_le}

pub record Rises (p q : TheSide) : Type 0 where
  pub misses : p.misses ≤ q.misses
  pub loads : p.loads ≤ q.loads
  pub known : p.known ≤ q.known
  pub got : length p.got ≤ length q.got

pub rises_not : (p q : TheSide) → q ≡ p → Rises p q
rises_not p q same =
    subst (λ (x : TheSide). Rises p x) (sym same) (record { misses = omega arith; loads = omega arith; known = omega arith; got = omega arith })

pub rises_then : (p m q : TheSide) → Rises p m → Rises m q → Rises p q
rises_then p m q a b =
    let am = a.misses in let bm = b.misses in let al = a.loads in let bl = b.loads in
    let ak = a.known in let bk = b.known in let ag = a.got in let bg = b.got in
    record { misses = omega (arith, am, bm); loads = omega (arith, al, bl); known = omega (arith, ak, bk); got = omega (arith, ag, bg) }

more : (k x : ℕ) → k ≤ k + x
more k x = omega arith

-- ---- one look

missed_rises : (p : TheSide) → Rises p (side_missed p)
missed_rises p = record { misses = omega arith; loads = omega arith; known = omega arith; got = omega arith }

counted_rises : (p : TheSide) (number : ℕ) → Rises p (side_counted p (count_from p.known number))
counted_rises p number = record { misses = omega arith; loads = omega arith; known = more p.known _; got = omega arith }

-- before a write
either_rises : (p m : TheSide) → ((p.peeked ≡ None) × (m ≡ side_missed p))
    ⊎ ((control : ℕ) × MayStand p control × (m ≡ side_counted p (count_from p.known (told_of control))) × KnowsSent m)
    → Rises p m × (p.loads + 1 ≤ m.loads)
either_rises p m (inl (none, e)) =
    let loaded : m.loads ≡ p.loads + 1 = ap (λ (x : TheSide). x.loads) e in
    (subst (λ (x : TheSide). Rises p x) (sym e) (missed_rises p), omega (arith, loaded))
either_rises p m (inr (control, may, e, knows)) =
    let loaded : m.loads ≡ p.loads + 1 = ap (λ (x : TheSide). x.loads) e in
    (subst (λ (x : TheSide). Rises p x) (sym e) (counted_rises p (told_of control)), omega (arith, loaded))

looked_rises : (need : ℕ) (p m : TheSide) → Looked need p m → Rises p m
looked_rises need p m k =
    by_test (nat_le need (free_of p)) (λ q. rises_not p m (k.by_known (true_le need (free_of p) q)))
    (λ q. (either_rises p m (k.by_look (false_le need (free_of p) q))).0)

looked_loads : (need : ℕ) (p m : TheSide) → free_of p < need → Looked need p m → p.loads + 1 ≤ m.loads
looked_loads need p m few k = (either_rises p m (k.by_look few)).1

pub put_rises : (p q : TheSide) (look : Look) → SharedPuts p look q → Rises p q
put_rises p q (placed frag) (kind, less, (m, k, enough, e)) =
    let a = looked_rises 2 p m k in
    subst (λ (x : TheSide). Rises p x) (sym e) (record { misses = a.misses; loads = a.loads; known = a.known; got = a.got })
put_rises p q no_room (less, k, before, few) = looked_rises 2 p q k
put_rises p q spent (full, e) = rises_not p q e
put_rises p q (saw frag) h = absurd h
put_rises p q saw_ack h = absurd h
put_rises p q (found frag) h = absurd h
put_rises p q found_ack h = absurd h
put_rises p q missed h = absurd h
put_rises p q told h = absurd h
put_rises p q kept h = absurd h

-- a put finds the side full
pub put_loads : (p q : TheSide) → SharedPuts p no_room q → p.loads + 1 ≤ q.loads
put_loads p q (less, k, before, few) = looked_loads 2 p q before k

pub take_rises : (p q : TheSide) (look : Look) → SharedTakes p look q → Rises p q
take_rises p q (saw frag) (first, at, (may, e, knows)) =
    subst (λ (x : TheSide). Rises p x) (sym e)
    (record { misses = omega arith; loads = omega arith; known = more p.known _; got = omega arith })
take_rises p q saw_ack (first, at, (may, e, knows)) =
    subst (λ (x : TheSide). Rises p x) (sym e)
    (record { misses = omega arith; loads = omega arith; known = more p.known _; got = omega arith })
take_rises p q (found frag) (first, at, (may, e, knows)) =
    let pushed = length_push p.got first in
    subst (λ (x : TheSide). Rises p x) (sym e)
    (record { misses = omega arith; loads = omega arith; known = more p.known _; got = omega (arith, pushed) })
take_rises p q found_ack (first, at, (may, e, knows)) =
    let pushed = length_push p.got first in
    subst (λ (x : TheSide). Rises p x) (sym e)
    (record { misses = omega arith; loads = omega arith; known = more p.known _; got = omega (arith, pushed) })
take_rises p q missed (none, e) = subst (λ (x : TheSide). Rises p x) (sym e) (missed_rises p)
take_rises p q told (half, less, (m, k, enough, e)) =
    let a = looked_rises 1 p m k in
    subst (λ (x : TheSide). Rises p x) (sym e) (record { misses = a.misses; loads = a.loads; known = a.known; got = a.got })
take_rises p q kept (few, e) = rises_not p q e
take_rises p q no_room (half, inl (full, e)) = rises_not p q e
take_rises p q no_room (half, inr (less, k, before, few)) = looked_rises 1 p q k
take_rises p q (placed frag) h = absurd h
take_rises p q spent h = absurd h

-- a look finds nothing
pub look_misses : (p q : TheSide) → SharedTakes p missed q → p.misses + 1 ≤ q.misses
look_misses p q (none, e) = let one : q.misses ≡ p.misses + 1 = ap (λ (x : TheSide). x.misses) e in omega (arith, one)

-- an acknowledgement is taken
pub ack_takes : (p q : TheSide) → SharedTakes p found_ack q → length p.got + 1 ≤ length q.got
ack_takes p q (first, at, (may, e, knows)) =
    let pushed = length_push p.got first in
    let one : length q.got ≡ length (p.got ++ first ∷ []) = ap (λ (x : TheSide). length x.got) e in
    omega (arith, one, pushed)

-- one that is due finds the side full, which isn't spent
pub ack_loads : (p q : TheSide) → length p.sent < 2 ^ 62 → SharedTakes p no_room q → p.loads + 1 ≤ q.loads
ack_loads p q less (half, inl (full, e)) = absurd (omega (arith, less, full))
ack_loads p q less (half, inr (unspent, k, before, few)) = looked_loads 1 p q before k

-- ---- looks in a row

step_rises : (p q : TheSide) (look : Look) → LinkStep SharedPuts SharedTakes p look q → Rises p q
step_rises p q look (inl h) = put_rises p q look h
step_rises p q look (inr h) = take_rises p q look h

pub looks_rise : (looks : List Look) (p q : TheSide) → Looks (LinkStep SharedPuts SharedTakes) p looks q → Rises p q
looks_rise [] p q same = rises_not p q (sym same)
looks_rise (look ∷ looks) p q (m, one, rest) = rises_then p m q (step_rises p m look one) (looks_rise looks m q rest)
