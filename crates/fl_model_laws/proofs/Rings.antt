-- The counts of one ring: each look, put and take keeps them.
use Rattle.std.proofs.Common.{◌≡◌, refl, subst, ℕ, ◌+◌, ◌<◌, ◌≤◌, ◌^◌, ◌||◌, nat_le}
use Rattle.std.proofs.Common.{Bool, true, false, if◌then◌else◌, List, [], ◌∷◌, ◌++◌, length, map, drop, slice_get}
use Rattle.std.proofs.Common.{Some, arith}
use Rattle.std.proofs.lemmas.List.{length-append}
use Rattle.std.proofs.lemmas.Bool.Decides.{nat_tests}
use Rattle.fl_model.specs.Rings.{Label, RingLabel, Half, Ring, RingSide, first_side, second_side, fresh_half}
use Rattle.fl_model.specs.Rings.{fresh_ring, written_by, read_by, with_halves, first_for, knows, looks, free}
use Rattle.fl_model.specs.Rings.{is_spent, there_is_room, no_room, spent, room, makes_sure, adds, tells_all}
use Rattle.fl_model.specs.Rings.{puts, reads, takes}
use Rattle.fl_model.specs.Making.{is_ring_size}
use Rattle.fl_model.specs.SoundRings.{Rises, HalfCounts, RingCounts, RingFits}
use Rattle.fl_model_laws.proofs.Cases.{either, by_given}

-- ---- numbers that don't fall

abbrev pub tells : List RingLabel → List ℕ
tells ls = map (λ (l : RingLabel). l.told) ls

pub rises_over : (low high : ℕ) (xs : List ℕ) → Rises low xs high → low ≤ high
rises_over low high [] h = h
rises_over low high (x ∷ xs) h = let k : x ≤ high = rises_over x high xs h.1 in let a : low ≤ x = h.0 in omega arith

rises_from_less : (low x high : ℕ) (xs : List ℕ) → low ≤ x → Rises x xs high → Rises low xs high
rises_from_less low x high [] a h = let b : x ≤ high = h in omega arith
rises_from_less low x high (y ∷ ys) a h = let b : x ≤ y = h.0 in (omega arith, h.1)

rises_push : (low high x : ℕ) (ls : List RingLabel) (l : RingLabel) → Rises low (tells ls) high → high ≤ l.told → l.told ≡ x
    → Rises low (tells (ls ++ l ∷ [])) x
rises_push low high x [] l h a e = let b : low ≤ high = h in (omega arith, omega arith)
rises_push low high x (m ∷ ls) l h a e = (h.0, rises_push m.told high x ls l h.1 a e)

rises_looked : (known told : ℕ) (ls : List RingLabel) (l : RingLabel) → slice_get ls 0 ≡ Some l → Rises known (tells ls) told
    → (known ≤ l.told) × Rises l.told (tells ls) told
rises_looked known told [] l q h = absurd (cc)
rises_looked known told (m ∷ ls) l q h =
    let e : m ≡ l = cc in (
      subst (λ (x : RingLabel). known ≤ x.told) e h.0,
      (subst (λ (x : RingLabel). x.told ≤ m.told) e (omega arith), h.1),
    )

rises_drop : (known told : ℕ) (ls : List RingLabel) (l : RingLabel) → slice_get ls 0 ≡ Some l → Rises known (tells ls) told
    → Rises known (tells (drop 1 ls)) told
rises_drop known told [] l q h = absurd (cc)
rises_drop known told (m ∷ ls) l q h = rises_from_less known m.told told (tells ls) h.0 h.1

length_drop : (ls : List RingLabel) (l : RingLabel) → slice_get ls 0 ≡ Some l → length ls ≡ length (drop 1 ls) + 1
length_drop [] l q = absurd (cc)
length_drop (m ∷ ls) l q = omega arith

-- ---- the two halves of a ring, as one side has them

pub record Halves (size : ℕ) (out inn : Half) : Type 0 where
  pub own : HalfCounts size out inn.waiting
  pub other : HalfCounts size inn out.waiting

pub halves_of : (side : RingSide) (r : Ring) → RingCounts r → Halves r.size (written_by side r) (read_by side r)
halves_of first_side r h = record { own = h.first; other = h.second }
halves_of second_side r h = record { own = h.second; other = h.first }

pub ring_of : (side : RingSide) (r : Ring) (out inn : Half) → Halves r.size out inn → RingCounts (with_halves side out inn r)
ring_of first_side r out inn h = record { first = h.own; second = h.other }
ring_of second_side r out inn h = record { first = h.other; second = h.own }

halves_look : (size : ℕ) (out inn : Half) (l : RingLabel) → slice_get inn.waiting 0 ≡ Some l → Halves size out inn
    → Halves size (knows l.told out) inn
halves_look size out inn l q h =
    let looked = rises_looked out.known out.told inn.waiting l q h.own.telling in
    let more : out.known ≤ l.told = looked.0 in
    let was : out.sent ≤ out.known + size = h.own.room in
    record {
      own = record { standing = h.own.standing; telling = looked.1; told = h.own.told; room = omega arith };
      other = h.other;
    }

halves_put : (size : ℕ) (label : Label) (out inn : Half) → out.sent < out.known + size → Halves size out inn
    → Halves size (adds label inn.read out) (tells_all inn)
halves_put size label out inn a h =
    let stood : out.sent ≡ out.read + length out.waiting = h.own.standing in
    let l : RingLabel = record { label = label; told = inn.read } in
    let longer : length (out.waiting ++ l ∷ []) ≡ length out.waiting + 1 = length-append out.waiting (l ∷ []) in
    record {
      own = record { standing = omega arith; telling = h.own.telling; told = h.own.told; room = omega arith };
      other = record {
        standing = h.other.standing;
        telling = rises_push inn.known inn.told inn.read out.waiting l h.other.telling h.other.told refl;
        told = omega arith;
        room = h.other.room;
      };
    }

halves_take : (size : ℕ) (out inn : Half) (l : RingLabel) → slice_get inn.waiting 0 ≡ Some l → Halves size out inn
    → Halves size out (reads inn)
halves_take size out inn l q h =
    let stood : inn.sent ≡ inn.read + length inn.waiting = h.other.standing in
    let shorter : length inn.waiting ≡ length (drop 1 inn.waiting) + 1 = length_drop inn.waiting l q in
    let told : inn.told ≤ inn.read = h.other.told in
    record {
      own = record {
        standing = h.own.standing;
        telling = rises_drop out.known out.told inn.waiting l q h.own.telling;
        told = h.own.told;
        room = h.own.room;
      };
      other = record { standing = omega arith; telling = h.other.telling; told = omega arith; room = h.other.room };
    }

-- ---- what a ring does

-- the counts, and the sizes
pub record Counted (r : Ring) : Type 0 where
  pub counts : RingCounts r
  pub fits : RingFits r

-- a half that isn't spent
pub fits_with : (side : RingSide) (r : Ring) (out inn : Half) → is_ring_size r.size ≡ true → out.sent ≤ 2 ^ 62 → inn.sent ≤ 2 ^ 62
    → RingFits (with_halves side out inn r)
fits_with first_side r out inn a b c = record { size = a; first = b; second = c }
fits_with second_side r out inn a b c = record { size = a; first = c; second = b }

sent_out : (side : RingSide) (r : Ring) → RingFits r → (written_by side r).sent ≤ 2 ^ 62
sent_out first_side r h = h.first
sent_out second_side r h = h.second

sent_in : (side : RingSide) (r : Ring) → RingFits r → (read_by side r).sent ≤ 2 ^ 62
sent_in first_side r h = h.second
sent_in second_side r h = h.first

pub fresh_counted : (size : ℕ) → is_ring_size size ≡ true → Counted (fresh_ring size)
fresh_counted size a =
    let half : HalfCounts size fresh_half [] = record { standing = refl; telling = omega arith; told = omega arith; room = omega arith } in
    record { counts = record { first = half; second = half }; fits = record { size = a; first = omega arith; second = omega arith } }

pub looks_counted : (side : RingSide) (r : Ring) → Counted r → Counted (looks side r)
looks_counted side r h =
    by_given Counted (first_for side r) r
    (λ l. with_halves side (knows l.told (written_by side r)) (read_by side r) r) h
    (λ l q. record {
      counts = ring_of side r (knows l.told (written_by side r)) (read_by side r)
          (halves_look r.size (written_by side r) (read_by side r) l q (halves_of side r h.counts));
      fits = fits_with side r (knows l.told (written_by side r)) (read_by side r) h.fits.size (sent_out side r h.fits) (sent_in side r h.fits);
    })

pub sure_counted : (need : ℕ) (side : RingSide) (r : Ring) → Counted r → Counted (makes_sure need side r)
sure_counted need side r h =
    either Counted (is_spent side r || nat_le need (free side r)) r (looks side r) (λ q. h) (λ q. looks_counted side r h)

-- where there is room, the ring isn't spent, and a slot is free
pub record HasSlot (side : RingSide) (r : Ring) : Type 0 where
  pub unspent : (written_by side r).sent < 2 ^ 62
  pub slot : (written_by side r).sent < (written_by side r).known + r.size

slot_by : (a b : Bool) (need : ℕ) (side : RingSide) (r : Ring) → is_spent side r ≡ a → nat_le need (free side r) ≡ b → 1 ≤ need
    → (if a then spent else if b then there_is_room else no_room) ≡ there_is_room → HasSlot side r
slot_by true b need side r p q k h = absurd (cc)
slot_by false false need side r p q k h = absurd (cc)
slot_by false true need side r p q k h =
    record { unspent = grind (arith, nat_tests, p); slot = grind (arith, nat_tests, q, k) }

pub has_slot : (need : ℕ) (side : RingSide) (r : Ring) → 1 ≤ need → room need side r ≡ there_is_room → HasSlot side r
has_slot need side r k h = slot_by (is_spent side r) (nat_le need (free side r)) need side r refl refl k h

pub puts_counted : (side : RingSide) (label : Label) (r : Ring) → HasSlot side r → Counted r → Counted (puts side label r)
puts_counted side label r s h =
    let a : (written_by side r).sent < 2 ^ 62 = s.unspent in
    record {
      counts = ring_of side r (adds label (read_by side r).read (written_by side r)) (tells_all (read_by side r))
          (halves_put r.size label (written_by side r) (read_by side r) s.slot (halves_of side r h.counts));
      fits = fits_with side r (adds label (read_by side r).read (written_by side r)) (tells_all (read_by side r)) h.fits.size
          (omega arith) (sent_in side r h.fits);
    }

pub takes_counted : (side : RingSide) (r : Ring) (l : RingLabel) → first_for side r ≡ Some l → Counted r → Counted (takes side r)
takes_counted side r l q h = record {
  counts = ring_of side r (written_by side r) (reads (read_by side r))
      (halves_take r.size (written_by side r) (read_by side r) l q (halves_of side r h.counts));
  fits = fits_with side r (written_by side r) (reads (read_by side r)) h.fits.size (sent_out side r h.fits) (sent_in side r h.fits);
}
