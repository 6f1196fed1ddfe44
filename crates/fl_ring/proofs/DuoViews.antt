-- What a ring of two directions shows.
use Rattle.std.proofs.Common.{ℕ, ◌≡◌, ◌<◌, ◌*◌, ◌-◌, ◌%◌, ◌⊎◌, inl, inr, List, ◌++◌, ap, subst, arith}
use Rattle.fl_ring.specs.Way.{standing, WayStands}
use Rattle.fl_ring.specs.Counts.{LastTells}
use Rattle.fl_ring.specs.Duo.{CountsAreNear, DuoStands, got}
use Rattle.fl_ring.specs.Halves.{Direction, InStep, half_of, duo_of}
use Rattle.fl_ring.specs.declared.halves.DuoHalf.{DuoHalf}
use Rattle.fl_ring.proofs.Ways.{length-standing}
use Rattle.fl_ring.proofs.RingSteps.{way_stands}
use Rattle.fl_ring.proofs.DuoSteps.{known_told}

pub counts_near : (n : ℕ) (ws : List ℕ) (a b : DuoHalf) → InStep n ws a b → CountsAreNear n (half_of n ws a b) (half_of n ws b a)
counts_near n ws a b s = record {
  few = s.few;
  known_told = known_told n ws a b s.there;
  told_sent = omega (arith, s.there.told_taken, s.there.taken_sent);
  sent_near = s.there.room;
  all = omega (arith, s.there.told_taken, s.there.taken_sent, length-standing a.base n ws b.told (b.take.index - b.told), length-standing a.base n ws b.take.index (a.put.index - b.take.index));
}

second : (n x y : ℕ) → 0 < n → ((x ≡ 0) × (y ≡ 8 * n)) ⊎ ((x ≡ 8 * n) × (y ≡ 0)) → x ≡ 0 → y ≡ 8 * n
second n x y p (inl (e, d)) first = d
second n x y p (inr (e, d)) first = absurd (omega arith)

way_of : (n : ℕ) (ws : List ℕ) (w r : DuoHalf) → Direction n ws w r → WayStands w.base n ws r.told (standing w.base n ws r.told (r.take.index - r.told) ++ standing w.base n ws r.take.index (w.put.index - r.take.index))
way_of n ws w r d = way_stands w.base n ws r.told r.take.index w.put.index d.marked d.told_taken d.taken_sent d.clear

pub duo_stands : (n : ℕ) (ws : List ℕ) (a b : DuoHalf) → a.base ≡ 0 → InStep n ws a b → DuoStands ws (duo_of n ws a b)
duo_stands n ws a b first s =
    let d = duo_of n ws a b in
    let after : b.base ≡ 8 * n = second n a.base b.base s.there.marked.some s.apart first in
    record {
      wide = s.wide;
      forth = subst (λ (x : ℕ). WayStands x n ws b.told (d.two.read ++ d.two.waiting)) first (way_of n ws a b s.there);
      back = subst (λ (x : ℕ). WayStands x n ws a.told (d.one.read ++ d.one.waiting)) after (way_of n ws b a s.back);
      one_tells = subst (λ (x : ℕ). LastTells x n 0 ws a.put.index a.told) first s.there.last;
      two_tells = subst (λ (x : ℕ). LastTells x n 0 ws b.put.index b.told) after s.back.last;
    }

pub got_of : (n : ℕ) (ws : List ℕ) (a b : DuoHalf) → InStep n ws a b → a.take.index % 65536 ≡ got (half_of n ws a b) % 65536
got_of n ws a b s =
    let same : a.take.index ≡ got (half_of n ws a b) = omega (arith, s.back.told_taken, length-standing b.base n ws a.told (a.take.index - a.told)) in
    ap (λ (x : ℕ). x % 65536) same
