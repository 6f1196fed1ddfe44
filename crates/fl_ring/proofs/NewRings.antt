-- A new ring with one owner, and a new one of two directions: their words are zeros.
use Rattle.std.proofs.Common.{ℕ, ◌≡◌, ◌<◌, ◌≤◌, ◌+◌, ◌-◌, ◌*◌, inl, List, [], length, replicate, get_or, ap, subst, ◌∙◌, sym, refl, arith}
use lib.ListN.{length-replicate}
use Rattle.fl_link.specs.Cursor.{TheCursor}
use Rattle.fl_ring.specs.Way.{Marked, standing}
use Rattle.fl_ring.specs.Ring.{TheRing, IsRing, ring_of}
use Rattle.fl_ring.specs.Duo.{new_half}
use Rattle.fl_ring.specs.Halves.{Direction, InStep, duo_of}
use Rattle.fl_ring.specs.declared.halves.DuoHalf.{DuoHalf}
use Rattle.fl_ring.proofs.Clear.{clear_zeros}
use Rattle.fl_ring.proofs.SharedMakes.{all_zero, new_marked}

word : (k i : ℕ) (ws : List ℕ) → ws ≡ replicate k 0 → get_or ws i 0 ≡ 0
word k i ws zeros = ap (λ (xs : List ℕ). get_or xs i 0) zeros ∙ all_zero k i

long : (k : ℕ) (ws : List ℕ) → ws ≡ replicate k 0 → length ws ≡ k
long k ws zeros = ap length zeros ∙ length-replicate k 0

-- ---- with one owner

pub new_ring : (n : ℕ) (ws : List ℕ) (put take : TheCursor) → 0 < n → n ≤ 1024 → ws ≡ replicate (8 * n + 1) 0 → put ≡ record { index = 0; size = n } → take ≡ record { index = 0; size = n }
    → (take.size ≡ put.size) × IsRing ws put.size put.index take.index
new_ring n ws put take some few zeros puts takes =
    let told : get_or ws (8 * n) 0 ≡ 0 = word (8 * n + 1) (8 * n) ws zeros in
    let wide : length ws ≡ 8 * n + 1 = long (8 * n + 1) ws zeros in
    let ring : IsRing ws n 0 0 = record {
      few = few;
      wide = wide;
      told_taken = omega (arith, told);
      taken_sent = omega arith;
      most = omega arith;
      marked = subst (λ (t : ℕ). Marked 0 n ws t 0) (sym told) (new_marked 0 n ws some (omega (arith, wide)) (λ i. word (8 * n + 1) i ws zeros));
      clear = clear_zeros 0 n 0 ws (λ i. word (8 * n + 1) i ws zeros);
    } in
    subst (λ (p : TheCursor). (take.size ≡ p.size) × IsRing ws p.size p.index take.index) (sym puts)
    (subst (λ (t : TheCursor). (t.size ≡ n) × IsRing ws n 0 t.index) (sym takes) (refl, ring))

pub new_ring_shows : (n : ℕ) (ws : List ℕ) (put take : TheCursor) → ws ≡ replicate (8 * n + 1) 0 → put ≡ record { index = 0; size = n } → take ≡ record { index = 0; size = n }
    → ring_of ws put.size put.index take.index ≡ record { read = []; items = []; told = 0; capacity = n }
new_ring_shows n ws put take zeros puts takes =
    ap (λ (p : TheCursor). ring_of ws p.size p.index take.index) puts
    ∙ ap (λ (t : TheCursor). ring_of ws n 0 t.index) takes
    ∙ ap (λ (told : ℕ). let r : TheRing = record { read = standing 0 n ws told (0 - told); items = []; told = told; capacity = n } in r) (word (8 * n + 1) (8 * n) ws zeros)

-- ---- of two directions

-- a side of a new one
abbrev fresh : ℕ → ℕ → ℕ → DuoHalf
fresh base other n = record { base = base; other = other; put = record { index = 0; size = n }; take = record { index = 0; size = n }; known = 0; told = 0 }

fresh_way : (b c n : ℕ) (ws : List ℕ) → 0 < n → b + 8 * n ≤ length ws → ((i : ℕ) → get_or ws i 0 ≡ 0) → Direction n ws (fresh b c n) (fresh c b n)
fresh_way b c n ws some wide zeros = record {
  from = refl;
  put_size = refl;
  take_size = refl;
  marked = new_marked b n ws some wide zeros;
  told_taken = omega arith;
  taken_sent = omega arith;
  most = omega arith;
  room = omega arith;
  counts = refl;
  last = record { since = omega arith; none_put = λ e. refl; last_put = λ i from last. absurd (omega arith) };
  clear = clear_zeros b n 0 ws zeros;
}

pub new_duo : (n : ℕ) (ws : List ℕ) (one two : DuoHalf) → 0 < n → n ≤ 1024 → ws ≡ replicate (16 * n) 0 → one ≡ fresh 0 (8 * n) n → two ≡ fresh (8 * n) 0 n
    → (one.base ≡ 0) × InStep one.put.size ws one two
new_duo n ws one two some few zeros ones twos =
    let wide : length ws ≡ 16 * n = long (16 * n) ws zeros in
    let at : (i : ℕ) → get_or ws i 0 ≡ 0 = λ i. word (16 * n) i ws zeros in
    let steps : InStep n ws (fresh 0 (8 * n) n) (fresh (8 * n) 0 n) = record {
      few = few;
      wide = wide;
      apart = inl (refl, refl);
      there = fresh_way 0 (8 * n) n ws some (omega (arith, wide)) at;
      back = fresh_way (8 * n) 0 n ws some (omega (arith, wide)) at;
    } in
    subst (λ (x : DuoHalf). (x.base ≡ 0) × InStep x.put.size ws x two) (sym ones)
    (subst (λ (y : DuoHalf). (let zero : ℕ = 0 in zero ≡ 0) × InStep n ws (fresh 0 (8 * n) n) y) (sym twos) (refl, steps))

pub new_duo_shows : (n : ℕ) (ws : List ℕ) (one two : DuoHalf) → one ≡ fresh 0 (8 * n) n → two ≡ fresh (8 * n) 0 n → duo_of one.put.size ws one two ≡ record { size = n; one = new_half; two = new_half }
new_duo_shows n ws one two ones twos = ap (λ (x : DuoHalf). duo_of x.put.size ws x two) ones ∙ ap (λ (y : DuoHalf). duo_of n ws (fresh 0 (8 * n) n) y) twos
