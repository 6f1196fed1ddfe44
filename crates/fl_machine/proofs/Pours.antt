-- Bytes put into a fragment one after another.
use Rattle.std.proofs.Common.{lit<, ◌≡◌, ℕ, zero, suc, ◌+◌, ◌-◌, ◌*◌, ◌/◌, ◌%◌, ◌^◌, ◌<◌, ◌≤◌, ◌≢◌, ◌⊎◌, inl, inr, ⊎_elim, List, [], ◌∷◌, ◌++◌, length, take, drop, get_or, get_or-set_other, get_or-set_same, slice_set, slice_index, replicate, refl, sym, ◌∙◌, ap, subst, arith, append_assoc}
use Rattle.std.specs.Int.{bytes_low_first, byte_at}
use Rattle.std.proofs.Math.Nat.{div-div-eq-div-mul, pow-suc, pow-succ', pow-le-pow_right, div-eq_of_lt}
use Rattle.std.proofs.lemmas.Nat.{div_below}
use Rattle.std.proofs.lemmas.List.{length-append, get_or_append_left, get_or-append_right, append-nil, drop_all, get_or_past, get_or-replicate, get_or-take, get_or-drop, length-take-le}
use Rattle.std.proofs.Math.Seq.{drop-append_seam}
use Rattle.std.proofs.lemmas.Bool.{cases_lt}
use Rattle.fl_stub.specs.declared.op.Op.{Op}
use Rattle.fl_stub.specs.Meaning.{number_bytes}
use Rattle.fl_stub.specs.Locations.{TheEndLocation, IsLocation, bytes_from, location_given}
use Rattle.fl_machine.specs.Cursors.{Gives}
use Rattle.fl_machine.specs.Filling.{Holds, Puts, PutsRun}

-- a number's bytes are its lowest and those of the rest

next_byte : (i n : ℕ) → byte_at (suc i) n ≡ byte_at i (n / 256)
next_byte zero n = refl
next_byte (suc i) n =
    let e : n / 256 / 256 ^ suc i ≡ n / (256 * 256 ^ suc i) = div-div-eq-div-mul n 256 (256 ^ suc i) in
    ap (λ (k : ℕ). k % 256) (ap (λ (k : ℕ). n / k) (pow_more (suc i)) ∙ sym e)
  where
    pow_more : (k : ℕ) → 256 ^ suc k ≡ 256 * 256 ^ k
    pow_more k = pow-succ' 256 k

bytes_from_next : (i k n : ℕ) → bytes_low_first (suc i) k n ≡ bytes_low_first i k (n / 256)
bytes_from_next i zero n = refl
bytes_from_next i (suc k) n = ap (λ (b : ℕ). b ∷ bytes_low_first (suc (suc i)) k n) (next_byte i n) ∙ ap (λ (x : List ℕ). byte_at i (n / 256) ∷ x) (bytes_from_next (suc i) k n)

pub first_byte : (width value : ℕ) → number_bytes (suc width) value ≡ value % 256 ∷ number_bytes width (value / 256)
first_byte width value = ap (λ (x : List ℕ). value % 256 ∷ x) (bytes_from_next 0 width value)

pub gives_byte : (ops : List Op) (s : TheEndLocation) (width : ℕ) → IsLocation ops s → s.width ≡ suc width → Gives ops s (record s { value = s.value / 256; width = width }) (s.value % 256)
gives_byte ops s width location e =
    let more : 256 ^ suc width ≡ 256 ^ width * 256 = pow-suc 256 width in
    let high : s.value < 256 ^ suc width = subst (λ (k : ℕ). s.value < 256 ^ k) e location.value in
    let wide = location.width in
    record {
      location = record {
        depth = location.depth;
        place = location.place;
        loops = location.loops;
        width = omega (arith, wide, e);
        value = div_below s.value 256 (256 ^ width) (omega arith) (omega (arith, high, more));
      };
      bytes = ap (λ (k : ℕ). number_bytes k s.value ++ (location_given ops s).bytes) e ∙ ap (λ (x : List ℕ). x ++ (location_given ops s).bytes) (first_byte width s.value);
    }

pub holds_more : (buffer put : List ℕ) (at byte : ℕ) → length buffer ≡ 56 → length put ≡ at → at < 56 → Holds buffer put → Holds (slice_set buffer at byte) (put ++ byte ∷ [])
holds_more buffer put at byte long end inside h = record {
  each = λ i small. ⊎_elim
      (λ (below : i < at).
      let other : i ≢ at = omega (arith, below) in
      get_or-set_other buffer at i byte 0 other ∙ h.each i small ∙ sym (get_or_append_left put (byte ∷ []) 0 i (omega (arith, below, end))))
      (λ (past : at ≤ i). ⊎_elim
      (λ (here : i < at + 1).
      let e : i ≡ at = omega (arith, here, past) in
      let z : i - at ≡ 0 = omega (arith, here, past) in
      ap (λ (k : ℕ). get_or (slice_set buffer at byte) k 0) e
      ∙ get_or-set_same buffer at byte 0 (omega (arith, inside, long))
      ∙ sym (get_or-append_right put (byte ∷ []) at i 0 end past ∙ ap (λ (k : ℕ). get_or (byte ∷ []) k 0) z))
      (λ (after : at + 1 ≤ i).
      let other : i ≢ at = omega (arith, after) in
      let z : i - at ≡ suc (i - at - 1) = omega (arith, after) in
      get_or-set_other buffer at i byte 0 other ∙ h.each i small ∙ get_or_past put i 0 (omega (arith, end, past))
      ∙ sym (get_or-append_right put (byte ∷ []) at i 0 end past ∙ ap (λ (k : ℕ). get_or (byte ∷ []) k 0) z ∙ get_or_past {X = ℕ} [] (i - at - 1) 0 (omega arith)))
      (cases_lt i (at + 1)))
      (cases_lt i at);
}

-- what is left once a fragment is full, or all was put
pub record Fills (buffer all rest : List ℕ) : Type 0 where
  pub each : (i : ℕ) → i < 56 → slice_index buffer i ≡ slice_index all i
  pub left : rest ≡ drop 56 all

pub fills : (buffer put left all : List ℕ) (filled : ℕ) → Holds buffer put → length put ≡ filled → filled ≤ 56 → put ++ left ≡ all → (56 ≤ filled) ⊎ (left ≡ []) → Fills buffer all left
fills buffer put left all filled h end few joined (inl full) =
    let long : length put ≡ 56 = omega (arith, end, few, full) in
    record {
      each = λ i small. h.each i small ∙ sym (get_or_append_left put left 0 i (omega (arith, long, small))) ∙ ap (λ (x : List ℕ). get_or x i 0) joined;
      left = sym (drop-append_seam put left) ∙ ap (λ (k : ℕ). drop k (put ++ left)) long ∙ ap (drop 56) joined;
    }
fills buffer put left all filled h end few joined (inr none) =
    let whole : put ≡ all = sym (append-nil put) ∙ ap (λ (x : List ℕ). put ++ x) (sym none) ∙ joined in
    record {
      each = λ i small. h.each i small ∙ ap (λ (x : List ℕ). get_or x i 0) whole;
      left = none ∙ sym (drop_all 56 all (omega (arith, ap length whole, end, few)));
    }

-- nothing was put yet
pub holds_none : Holds (replicate 56 0) []
holds_none = record { each = λ i small. get_or-replicate 56 i 0 0 small ∙ sym (get_or_past {X = ℕ} [] i 0 (omega arith)) }

-- all bytes of a number given
pub gives_all : (ops : List Op) (s : TheEndLocation) → IsLocation ops s → IsLocation ops (record s { value = 0; width = 0 })
gives_all ops s location = record { depth = location.depth; place = location.place; loops = location.loops; width = omega arith; value = lit< tt }

pub length_bytes : (i k n : ℕ) → length (bytes_low_first i k n) ≡ k
length_bytes i zero n = refl
length_bytes i (suc k) n = ap suc (length_bytes (suc i) k n)

byte_there : (i k n j : ℕ) → j < k → get_or (bytes_low_first i k n) j 0 ≡ byte_at (i + j) n
byte_there i zero n j h = absurd (omega (arith, h))
byte_there i (suc k) n zero h = ap (λ (m : ℕ). byte_at m n) (omega arith)
byte_there i (suc k) n (suc j) h = byte_there (suc i) k n j (omega (arith, h)) ∙ ap (λ (m : ℕ). byte_at m n) (omega arith)

no_byte : (j width value : ℕ) → value < 256 ^ width → width ≤ j → byte_at j value ≡ 0
no_byte zero width value small h =
    let e : width ≡ 0 = omega (arith, h) in
    let f : value < 256 ^ 0 = subst (λ (w : ℕ). value < 256 ^ w) e small in
    let g : value ≡ 0 = omega (arith, f) in
    ap (λ (v : ℕ). v % 256) g
no_byte (suc j) width value small h =
    let high : 256 ^ width ≤ 256 ^ suc j = pow-le-pow_right (lit< tt) h in
    let zero_quotient : value / 256 ^ suc j ≡ 0 = div-eq_of_lt (omega (arith, small, high)) in
    ap (λ (v : ℕ). v % 256) zero_quotient

-- the bytes of a number that has no more than so many, in eight
pub same_bytes : (width value j : ℕ) → width ≤ 8 → value < 256 ^ width → j < 8 → get_or (number_bytes 8 value) j 0 ≡ get_or (number_bytes width value) j 0
same_bytes width value j few small h = ⊎_elim
    (λ (inside : j < width). byte_there 0 8 value j h ∙ sym (byte_there 0 width value j inside))
    (λ (past : width ≤ j).
    byte_there 0 8 value j h
    ∙ ap (λ (m : ℕ). byte_at m value) (omega arith)
    ∙ no_byte j width value small past
    ∙ sym (get_or_past (number_bytes width value) j 0 (omega (arith, length_bytes 0 width value, past))))
    (cases_lt j width)

-- a buffer with eight bytes in the place of its own
abbrev pub over_eight : List ℕ → ℕ → ℕ → List ℕ
over_eight buffer at value = take at buffer ++ (number_bytes 8 value ++ drop (at + 8) buffer)

pub holds_number : (buffer put : List ℕ) (at width value : ℕ) → length buffer ≡ 56 → length put ≡ at → at + 8 ≤ 56 → width ≤ 8 → value < 256 ^ width
    → Holds buffer put → Holds (over_eight buffer at value) (put ++ number_bytes width value)
holds_number buffer put at width value long end room few small h =
    let prefix : length (take at buffer) ≡ at = length-take-le at buffer (omega (arith, long, room)) in
    let eight : length (number_bytes 8 value) ≡ 8 = length_bytes 0 8 value in
    let rest = number_bytes 8 value ++ drop (at + 8) buffer in
    record {
      each = λ i low. ⊎_elim
          (λ (below : i < at).
          get_or_append_left (take at buffer) rest 0 i (omega (arith, below, prefix))
          ∙ get_or-take at buffer i 0 below
          ∙ h.each i low
          ∙ sym (get_or_append_left put (number_bytes width value) 0 i (omega (arith, below, end))))
          (λ (past : at ≤ i). get_or-append_right (take at buffer) rest at i 0 prefix past ∙ ⊎_elim
          (λ (inside : i - at < 8).
          get_or_append_left (number_bytes 8 value) (drop (at + 8) buffer) 0 (i - at) (omega (arith, inside, eight))
          ∙ same_bytes width value (i - at) few small inside
          ∙ sym (get_or-append_right put (number_bytes width value) at i 0 end past))
          (λ (after : 8 ≤ i - at).
          let there : at + 8 + (i - at - 8) ≡ i = omega (arith, after, past) in
          get_or-append_right (number_bytes 8 value) (drop (at + 8) buffer) 8 (i - at) 0 eight after
          ∙ get_or-drop (at + 8) buffer (i - at - 8) 0
          ∙ ap (λ (k : ℕ). get_or buffer k 0) there
          ∙ h.each i low
          ∙ get_or_past put i 0 (omega (arith, end, past))
          ∙ sym (get_or_past (put ++ number_bytes width value) i 0 (omega (arith, length-append put (number_bytes width value), length_bytes 0 width value, end, few, after))))
          (cases_lt (i - at) 8))
          (cases_lt i at);
    }

-- a number's bytes go from what is left to what was put
pub put_all : (put left all rest bytes : List ℕ) → put ++ left ≡ all → left ≡ bytes ++ rest → (put ++ bytes) ++ rest ≡ all
put_all put left all rest bytes joined e = append_assoc put bytes rest ∙ ap (λ (x : List ℕ). put ++ x) (sym e) ∙ joined

pub length_put : (put : List ℕ) (at width value : ℕ) → length put ≡ at → length (put ++ number_bytes width value) ≡ at + width
length_put put at width value end = length-append put (number_bytes width value) ∙ omega (arith, end, length_bytes 0 width value)

-- all of a number's bytes put
pub puts_number : (ops : List Op) (s t : TheEndLocation) (buffer put : List ℕ) (at : ℕ) → IsLocation ops s → length buffer ≡ 56 → length put ≡ at → at + 8 ≤ 56 → s.width ≢ 0 → Holds buffer put
    → IsLocation ops t → bytes_from ops s ≡ number_bytes s.width s.value ++ bytes_from ops t
    → Puts ops s t put (over_eight buffer at s.value) (at + s.width)
puts_number ops s t buffer put at location long end room busy h there bytes =
    let wide = location.width in
    record {
      more = number_bytes s.width s.value;
      location = there;
      bytes = bytes;
      holds = holds_number buffer put at s.width s.value long end room location.width location.value h;
      long = length_put put at s.width s.value end;
      longer = omega (arith, end, busy);
      within = omega (arith, room, wide);
    }

-- one of them put
pub puts_byte : (ops : List Op) (s t : TheEndLocation) (buffer put : List ℕ) (at byte : ℕ) → length buffer ≡ 56 → length put ≡ at → at < 56 → Holds buffer put → Gives ops s t byte
    → Puts ops s t put (slice_set buffer at byte) (at + 1)
puts_byte ops s t buffer put at byte long end inside h g =
    record {
      more = byte ∷ [];
      location = g.location;
      bytes = g.bytes;
      holds = holds_more buffer put at byte long end inside h;
      long = length-append put (byte ∷ []) ∙ omega (arith, end);
      longer = omega (arith, end);
      within = omega (arith, inside);
    }

-- runs

pub puts_none : (ops : List Op) (s : TheEndLocation) (put buffer : List ℕ) (at : ℕ) → length put ≡ at → Holds buffer put → PutsRun ops s s put buffer at
puts_none ops s put buffer at long h = record {
  more = [];
  bytes = refl;
  holds = subst (λ (x : List ℕ). Holds buffer x) (sym (append-nil put)) h;
  long = ap length (append-nil put) ∙ long;
}

-- a number in so many bytes put behind those of a run
pub puts_more : (ops : List Op) (s t u : TheEndLocation) (put buffer after : List ℕ) (at value width : ℕ) → PutsRun ops s t put buffer at → length buffer ≡ 56 → at + 8 ≤ 56
    → width ≤ 8 → value < 256 ^ width → bytes_from ops t ≡ number_bytes width value ++ bytes_from ops u → after ≡ over_eight buffer at value
    → PutsRun ops s u put after (at + width)
puts_more ops s t u put buffer after at value width p long room few small bytes e =
    let number = number_bytes width value in
    let h = holds_number buffer (put ++ p.more) at width value long p.long room few small p.holds in
    let joined : put ++ (p.more ++ number) ≡ (put ++ p.more) ++ number = sym (append_assoc put p.more number) in
    record {
      more = p.more ++ number;
      bytes = p.bytes ∙ ap (λ (x : List ℕ). p.more ++ x) bytes ∙ sym (append_assoc p.more number (bytes_from ops u));
      holds = subst (λ (b : List ℕ). Holds b (put ++ (p.more ++ number))) (sym e) (subst (λ (x : List ℕ). Holds (over_eight buffer at value) x) (sym joined) h);
      long = ap length joined ∙ length_put (put ++ p.more) at width value p.long;
    }

pub puts_turn : (ops : List Op) (s t u : TheEndLocation) (put buffer after : List ℕ) (at value width : ℕ) → PutsRun ops s t put buffer at → length buffer ≡ 56 → at + 8 ≤ 56
    → t.width ≡ width → t.value ≡ value → IsLocation ops t → bytes_from ops t ≡ number_bytes t.width t.value ++ bytes_from ops u → after ≡ over_eight buffer at value
    → PutsRun ops s u put after (at + width)
puts_turn ops s t u put buffer after at value width p long room wide is location bytes e =
    subst (λ (w : ℕ). PutsRun ops s u put after (at + w)) wide
    (puts_more ops s t u put buffer after at t.value t.width p long room location.width location.value bytes (e ∙ ap (over_eight buffer at) (sym is)))

-- a run and then a number
pub puts_after : (ops : List Op) (s t u : TheEndLocation) (put buffer after : List ℕ) (at end : ℕ) → (p : PutsRun ops s t put buffer at) → Puts ops t u (put ++ p.more) after end → Puts ops s u put after end
puts_after ops s t u put buffer after at end p q =
    let joined : put ++ (p.more ++ q.more) ≡ (put ++ p.more) ++ q.more = sym (append_assoc put p.more q.more) in
    let a = p.long in
    let b = q.longer in
    record {
      more = p.more ++ q.more;
      location = q.location;
      bytes = p.bytes ∙ ap (λ (x : List ℕ). p.more ++ x) q.bytes ∙ sym (append_assoc p.more q.more (bytes_from ops u));
      holds = subst (λ (x : List ℕ). Holds after x) (sym joined) q.holds;
      long = ap length joined ∙ q.long;
      longer = omega (arith, length-append put p.more, b);
      within = q.within;
    }

-- a run alone, which put something
pub puts_alone : (ops : List Op) (s t : TheEndLocation) (put buffer : List ℕ) (end : ℕ) → PutsRun ops s t put buffer end → IsLocation ops t → length put < end → end ≤ 56 → Puts ops s t put buffer end
puts_alone ops s t put buffer end p location longer within = record {
  more = p.more;
  location = location;
  bytes = p.bytes;
  holds = p.holds;
  long = p.long;
  longer = longer;
  within = within;
}
