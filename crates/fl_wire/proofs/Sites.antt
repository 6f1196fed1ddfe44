-- One number at its place, and the zeros before it.
use Rattle.std.proofs.Common.{◌≡◌, ◌≢◌, ℕ, Bool, ◌&&◌, suc, ◌+◌, ◌-◌, ◌*◌, ◌%◌, ◌^◌, ◌<◌, ◌≤◌, true, false, inl, ⊎_elim, List, ◌∷◌, map, length, get_or, refl, sym, ◌∙◌, ap, subst, arith, cond, ltb}
use Rattle.std.specs.List.{range_with_len}
use Rattle.std.specs.Int.{byte_at}
use Rattle.std.proofs.lemmas.Nat.{le_bytes_8}
use Rattle.std.proofs.lemmas.List.FromFn.{get_or-map-range_with_len}
use Rattle.std.proofs.lemmas.Bool.{cases_lt, lt-ltb, ltb-true}
use Rattle.std.specs.Cmp.{first_so, second_so}
use Rattle.fl_base.specs.declared.fragment.Frag.{Frag}
use Rattle.fl_interface.specs.Sizes.{round_up}
use Rattle.fl_layout.specs.Leaves.{Leaf, gap, whole, single}
use Rattle.fl_layout.specs.Places.{size, place}
use Rattle.fl_wire.specs.Payload.{payload_at}
use Rattle.fl_wire.specs.Standing.{SplitLeaves, byte_in}
use Rattle.fl_wire.specs.Covered.{holds, is_covered}
use Rattle.fl_wire.specs.Shapes.{Agrees, nothing, padding, number_in, number_below, text_byte, Got, IsWhy, StreamCut, Wrong, ReadAt}
use Rattle.fl_wire.specs.declared.leaf.CallReadFault.{CallReadFault}
use Rattle.fl_wire.specs.declared.leaf.CallReadFault.TheVariants.{Padding, Value, Length}
use Rattle.fl_wire.proofs.Bytes.{size_le_place, below_place, at_place, past_end}
use Rattle.fl_wire.proofs.Arguments.{IsAlign, by_align}
use Rattle.fl_wire.proofs.Agreement.{leaf_byte, same_number, keeps, grows, over_self}
use Rattle.fl_wire.proofs.Covers.{holds_before, holds_in, covered_before, covered_in}
use Rattle.fl_wire.proofs.Readings.{byte_small}
use Rattle.fl_wire.proofs.Decoding.{byte_of_list}
use Rattle.fl_wire.proofs.Numbers.{from_low, first_wrong, prefix_le}

pub byte_in_small : (frags : List Frag) (p : ℕ) → byte_in frags p < 256
byte_in_small frags p = byte_small (p % 8) _

-- fragments end at a multiple of every alignment
pub round_within : (align at n : ℕ) → IsAlign align → at ≤ 56 * n → round_up at align ≤ 56 * n
round_within align at n h room = by_align (λ a. round_up at a ≤ 56 * n) (omega (arith, room)) (omega (arith, room)) (omega (arith, room)) (omega (arith, room)) align h

align_small : (w : ℕ) → IsAlign w → w ≤ 8
align_small w h = by_align (λ a. a ≤ 8) (omega arith) (omega arith) (omega arith) (omega arith) w h

-- a number from its low bytes has these bytes
abbrev low_list : ℕ → (ℕ → ℕ) → List ℕ
low_list w f = map (λ j. cond (ltb j w) (f j) 0) (range_with_len 0 8)

low_at : (w : ℕ) (f : ℕ → ℕ) (j : ℕ) → j < 8 → get_or (low_list w f) j 0 ≡ cond (ltb j w) (f j) 0
low_at w f j h = get_or-map-range_with_len (λ j. cond (ltb j w) (f j) 0) 0 8 j j 0 h (omega arith)

low_small : (w : ℕ) (f : ℕ → ℕ) → ((j : ℕ) → f j < 256) → (j : ℕ) → get_or (low_list w f) j 0 < 256
low_small w f h j = ⊎_elim
    (λ (inside : j < 8). subst (λ (n : ℕ). n < 256) (sym (low_at w f j inside)) (elim (ltb j w) as (λ v. cond v (f j) 0 < 256) [ true ↦ h j | false ↦ omega arith ]))
    (λ (past : 8 ≤ j). subst (λ (n : ℕ). n < 256) (sym (low_past w f j past)) (omega arith))
    (cases_lt j 8)
  where
    low_past : (w : ℕ) (f : ℕ → ℕ) (j : ℕ) → 8 ≤ j → get_or (low_list w f) j 0 ≡ 0
    low_past w f (suc (suc (suc (suc (suc (suc (suc (suc j)))))))) h = refl
    low_past w f j h = absurd (omega (arith, h))

pub low_byte : (w : ℕ) (f : ℕ → ℕ) (j : ℕ) → w ≤ 8 → ((j : ℕ) → f j < 256) → j < w → byte_at j (from_low w f) ≡ f j
low_byte w f j few small h =
    let below : j < 8 = omega (arith, h, few) in
    sym (byte_of_list j (from_low w f) below)
    ∙ ap (λ (bs : List ℕ). get_or bs j 0) (le_bytes_8 (low_list w f) (from_low w f) refl (low_small w f small) refl)
    ∙ low_at w f j below ∙ rw (lt-ltb j w h) refl

pub low_below : (w : ℕ) (f : ℕ → ℕ) → IsAlign w → ((j : ℕ) → f j < 256) → from_low w f < 2 ^ (8 * w)
low_below w f align h = by_align (λ v. from_low v f < 2 ^ (8 * v))
    (omega (arith, h 0)) (omega (arith, h 0, h 1)) (omega (arith, h 0, h 1, h 2, h 3)) (omega (arith, h 0, h 1, h 2, h 3, h 4, h 5, h 6, h 7)) w align

-- zeros stand up to a leaf's place
pub zero_before : (l : Leaf) (low full : List Leaf) (p : ℕ) → SplitLeaves (l ∷ low) full → size low ≤ p → p < place l low → payload_at full p ≡ 0
zero_before l low full p over after before =
    ap (λ (ls : List Leaf). payload_at ls p) over.is ∙ keeps over.more (l ∷ low) p (omega (arith, before)) ∙ below_place l low p before ∙ past_end low p after

-- what agrees, a number's padding and bytes agree with
number_agrees : (w : ℕ) → IsAlign w → (frags : List Frag) (low : List Leaf) (n : ℕ) → Agrees frags low (size low)
    → ((p : ℕ) → size low ≤ p → p < round_up (size low) w → byte_in frags p ≡ 0) → n ≡ from_low w (λ j. byte_in frags (round_up (size low) w + j))
    → Agrees frags (whole w n ∷ low) (round_up (size low) w + w)
number_agrees w align frags low n agree zeros is = record {
  at = λ p small.
      let l = whole w n in
      let start = round_up (size low) w in
      ⊎_elim
      (λ (before : p < start). ⊎_elim
      (λ (low_byte : p < size low). agree.at p low_byte ∙ sym (below_place l low p before))
      (λ (pad : size low ≤ p). zeros p pad before ∙ sym (below_place l low p before ∙ past_end low p pad))
      (cases_lt p (size low)))
      (λ (after : start ≤ p).
      let j = p - start in
      let own : j < w = omega (arith, after, small) in
      let here : start + j ≡ p = omega (arith, after) in
      ap (byte_in frags) (sym here)
      ∙ sym (at_place l low p j own (sym here) ∙ ap (byte_at j) is ∙ low_byte w (λ j. byte_in frags (start + j)) j (align_small w align) (λ j. byte_in_small frags (start + j)) own))
      (cases_lt p start);
}

pub number_got : (w : ℕ) → IsAlign w → (frags : List Frag) (low : List Leaf) (at n end : ℕ) → at ≡ size low → Agrees frags low at
    → ((p : ℕ) → at ≤ p → p < round_up at w → byte_in frags p ≡ 0) → n ≡ from_low w (λ j. byte_in frags (round_up at w + j)) → end ≡ round_up at w + w
    → Got (number_below w (2 ^ (8 * w))) frags low n end
number_got w align frags low at n end here agree zeros is ends =
    let P : ℕ → Type 0 = λ at. Agrees frags low at → ((p : ℕ) → at ≤ p → p < round_up at w → byte_in frags p ≡ 0) → n ≡ from_low w (λ j. byte_in frags (round_up at w + j)) → end ≡ round_up at w + w
    → Got (number_below w (2 ^ (8 * w))) frags low n end in
    subst P (sym here) (λ agree zeros is ends.
    let start = round_up (size low) w in
    let f : ℕ → ℕ = λ j. byte_in frags (start + j) in
    let small : (j : ℕ) → f j < 256 = λ j. byte_in_small frags (start + j) in
    let below : n < 2 ^ (8 * w) = subst (λ (m : ℕ). m < 2 ^ (8 * w)) (sym is) (low_below w f align small) in
    record {
      fit = below;
      ends = sym ends;
      agree = subst (λ (m : ℕ). Agrees frags (whole w n ∷ low) m) (sym ends) (number_agrees w align frags low n agree zeros is);
      told = λ e full fit over agrees. same_number w align e n fit below (λ j own.
          sym (leaf_byte w e j low full own over).0 ∙ sym (agrees.at (start + j) (omega (arith, own, ends))) ∙ sym (ap (byte_at j) is ∙ low_byte w f j (align_small w align) small own));
    }) agree zeros is ends

-- what agrees, zeros up to a later leaf's place agree with
zeros_agree : (l : Leaf) (frags : List Frag) (low : List Leaf) (n : ℕ) → Agrees frags low (size low) → n ≤ place l low → ((q : ℕ) → size low ≤ q → q < n → byte_in frags q ≡ 0) → Agrees frags (l ∷ low) n
zeros_agree l frags low n agree before zeros = record {
  at = λ p small. ⊎_elim
      (λ (below : p < size low). agree.at p below ∙ sym (below_place l low p (omega (arith, before, small))))
      (λ (pad : size low ≤ p). zeros p pad small ∙ sym (below_place l low p (omega (arith, before, small)) ∙ past_end low p pad))
      (cases_lt p (size low));
}

-- where the reading of a number stops, in its own bytes or in the zeros before them
abbrev pub number_stop : Bool → CallReadFault
number_stop of_length = cond of_length Length Value

number_why : (of_length a b : Bool) → a ≡ true → b ≡ true → IsWhy (number_stop of_length) (of_length && a) b
number_why true a b h k = h
number_why false a b h k = (refl, k)

padding_why : (of_length a b : Bool) → a ≡ false → b ≡ false → IsWhy Padding (of_length && a) b
padding_why true a b h k = (h, k)
padding_why false a b h k = (refl, k)

pub number_padding : (of_length : Bool) (w bound : ℕ) → IsAlign w → (frags : List Frag) (low : List Leaf) (at p : ℕ) → at ≡ size low → Agrees frags low at → at ≤ 56 * length frags → at ≤ p → p < round_up at w → byte_in frags p ≢ 0
    → ((q : ℕ) → at ≤ q → q < p → byte_in frags q ≡ 0) → Wrong Padding (number_in of_length w bound) frags low
number_padding of_length w bound align frags low at p here agree room after before nonzero zeros =
    let start : round_up at w ≡ round_up (size low) w = ap (λ (n : ℕ). round_up n w) here in
    let late : size low ≤ p = omega (arith, here, after) in
    let early : p < round_up (size low) w = omega (arith, before, start) in
    record {
      p = p;
      after = late;
      inside = omega (arith, before, round_within w at (length frags) align room);
      none = record {
        none = λ e full fit over agrees. absurd (nonzero (agrees.at p (omega arith) ∙ zero_before (whole w e) low full p over late early));
      };
      near = λ some. record {
        one = 0;
        fit = some;
        agree = zeros_agree (whole w 0) frags low p (subst (λ (n : ℕ). Agrees frags low n) here agree) (omega (arith, early)) (λ q low_q high. zeros q (omega (arith, here, low_q)) high);
        longer = omega (arith, early);
        why = padding_why of_length (holds (place (gap w) low) w p) (is_covered (whole w 0 ∷ low) p) (holds_before (place (gap w) low) w p early) (covered_before (whole w 0) low p late early);
      };
    }

-- a number that doesn't fit stands wholly past the fragments
past_all : (w at n : ℕ) → IsAlign w → 56 * n < round_up at w + w → 56 * n ≤ round_up at w
past_all w at n align h =
    by_align (λ v. 56 * n < round_up at v + v → 56 * n ≤ round_up at v) (λ h. omega (arith, h)) (λ h. omega (arith, h)) (λ h. omega (arith, h)) (λ h. omega (arith, h)) w align h

pub number_short : (of_length : Bool) (w bound : ℕ) → IsAlign w → (frags : List Frag) (low : List Leaf) (at : ℕ) → at ≡ size low → Agrees frags low at → 56 * length frags < round_up at w + w
    → ((q : ℕ) → at ≤ q → q < round_up at w → byte_in frags q ≡ 0) → StreamCut (number_in of_length w bound) frags low
number_short of_length w bound align frags low at here agree past zeros =
    let start : round_up at w ≡ round_up (size low) w = ap (λ (n : ℕ). round_up n w) here in
    let all : 56 * length frags ≤ round_up at w = past_all w at (length frags) align past in
    record {
      all = record {
        none = λ e full fit over agrees.
            let grown = grows over.more (whole w e ∷ low) in
            let is = ap size over.is in
            omega (arith, past, start, grown, is);
      };
      near = λ some. record {
        one = 0;
        fit = some;
        agree = zeros_agree (whole w 0) frags low (56 * length frags) (subst (λ (n : ℕ). Agrees frags low n) here agree) (omega (arith, all, start)) (λ q low_q high. zeros q (omega (arith, here, low_q)) (omega (arith, high, all)));
        longer = omega (arith, past, start);
        why = tt;
      };
    }

-- ---- zeros alone

pub nothing_got : (frags : List Frag) (low : List Leaf) → Agrees frags low (size low) → Got nothing frags low tt (size low)
nothing_got frags low agree = record { fit = tt; ends = refl; agree = agree; told = λ e full f over agrees. refl }

pub padding_got : (align : ℕ) (frags : List Frag) (low : List Leaf) (at end : ℕ) → at ≡ size low → Agrees frags low at
    → ((p : ℕ) → at ≤ p → p < end → byte_in frags p ≡ 0) → end ≡ round_up at align → Got (padding align) frags low tt end
padding_got align frags low at end here agree zeros ends =
    let start : round_up at align ≡ round_up (size low) align = ap (λ (n : ℕ). round_up n align) here in
    record {
      fit = tt;
      ends = omega (arith, ends, start);
      agree = record {
        at = λ p small. ⊎_elim
            (λ (below : p < size low). agree.at p (omega (arith, here, below)) ∙ sym (below_place (gap align) low p (omega (arith, below, size_le_place (size low) align))))
            (λ (pad : size low ≤ p). zeros p (omega (arith, here, pad)) small
            ∙ sym (below_place (gap align) low p (omega (arith, small, ends, start)) ∙ past_end low p pad))
            (cases_lt p (size low));
      };
      told = λ e full f over agrees. refl;
    }

pub padding_wrong : (align : ℕ) → IsAlign align → (frags : List Frag) (low : List Leaf) (at p : ℕ) → at ≡ size low → Agrees frags low at → at ≤ 56 * length frags → at ≤ p → p < round_up at align → byte_in frags p ≢ 0
    → ((q : ℕ) → at ≤ q → q < p → byte_in frags q ≡ 0) → Wrong Padding (padding align) frags low
padding_wrong align ok frags low at p here agree room after before nonzero zeros =
    let start : round_up at align ≡ round_up (size low) align = ap (λ (n : ℕ). round_up n align) here in
    let late : size low ≤ p = omega (arith, here, after) in
    let early : p < round_up (size low) align = omega (arith, before, start) in
    record {
      p = p;
      after = late;
      inside = omega (arith, before, round_within align at (length frags) ok room);
      none = record {
        none = λ e full fit over agrees. absurd (nonzero (agrees.at p (omega arith) ∙ zero_before (gap align) low full p over late early));
      };
      near = λ some. record {
        one = tt;
        fit = tt;
        agree = zeros_agree (gap align) frags low p (subst (λ (n : ℕ). Agrees frags low n) here agree) (omega (arith, early)) (λ q low_q high. zeros q (omega (arith, here, low_q)) high);
        longer = omega (arith, early);
        why = (refl, covered_before (gap align) low p late early);
      };
    }

-- ---- numbers below a bound

pub below_got : (of_length : Bool) (w bound : ℕ) (frags : List Frag) (low : List Leaf) (n end : ℕ) → n < bound → bound ≤ 2 ^ (8 * w) → Got (number_below w (2 ^ (8 * w))) frags low n end
    → Got (number_in of_length w bound) frags low n end
below_got of_length w bound frags low n end small room got = record {
  fit = small;
  ends = got.ends;
  agree = got.agree;
  told = λ e full f over agrees. got.told e full (omega (arith, f, room)) over agrees;
}

-- a number whose first bytes are those of one that is read agrees so far
low_agrees : (w n m k end : ℕ) (frags : List Frag) (low : List Leaf) → k ≤ w → Got (number_below w (2 ^ (8 * w))) frags low n end
    → ((j : ℕ) → j < k → byte_at j m ≡ byte_in frags (round_up (size low) w + j)) → Agrees frags (whole w m ∷ low) (round_up (size low) w + k)
low_agrees w n m k end frags low few got bytes = record {
  at = λ p small.
      let start = round_up (size low) w in
      let ends : start + w ≡ end = got.ends in
      ⊎_elim
      (λ (before : p < start). got.agree.at p (omega (arith, before, ends)) ∙ below_place (whole w n) low p before ∙ sym (below_place (whole w m) low p before))
      (λ (after : start ≤ p).
      let j = p - start in
      let own : j < k = omega (arith, after, small) in
      let here : start + j ≡ p = omega (arith, after) in
      ap (byte_in frags) (sym here) ∙ sym (bytes j own) ∙ sym (at_place (whole w m) low p j (omega (arith, own, few)) (sym here)))
      (cases_lt p start);
}

width_room : (w : ℕ) → IsAlign w → 2 ^ (8 * w) ≤ 2 ^ 64
width_room w align = by_align (λ v. 2 ^ (8 * v) ≤ 2 ^ 64) (omega arith) (omega arith) (omega arith) (omega arith) w align

pub below_wrong : (of_length : Bool) (w bound : ℕ) → IsAlign w → (frags : List Frag) (low : List Leaf) (n end : ℕ) → bound ≤ n → bound ≤ 2 ^ (8 * w) → end ≤ 56 * length frags → Got (number_below w (2 ^ (8 * w))) frags low n end
    → Wrong (number_stop of_length) (number_in of_length w bound) frags low
below_wrong of_length w bound align frags low n end above room within got = ⊎_elim
    (λ (some : 0 < bound).
    let (j, (own, (below, over_bound))) = first_wrong w f bound some high in
    let few : j ≤ 8 = omega (arith, own, align_small w align) in
    let few_more : j + 1 ≤ 8 = omega (arith, own, align_small w align) in
    let late : start ≤ start + j = omega arith in
    let early : start + j < start + w = omega (arith, own) in
    record {
      p = start + j;
      after = omega (arith, size_le_place (size low) w);
      inside = omega (arith, own, ends, within);
      none = record {
        none = λ e full fit over agrees. absurd (too_small j e full few_more own over_bound fit over agrees);
      };
      near = λ also. record {
        one = from_low j f;
        fit = below;
        agree = low_agrees w n (from_low j f) j end frags low (omega (arith, own)) got (λ i small. low_byte j f i few small_bytes small);
        longer = early;
        why = number_why of_length (holds (place (gap w) low) w (start + j)) (is_covered (whole w (from_low j f) ∷ low) (start + j)) (holds_in (place (gap w) low) w (start + j) late early)
            (covered_in (whole w (from_low j f)) low (start + j) late early);
      };
    })
    (λ (none : bound ≤ 0). record {
      p = start;
      after = size_le_place (size low) w;
      inside = omega (arith, ends, within, wide);
      none = record { none = λ e full fit over agrees. absurd (omega (arith, fit, none)) };
      near = λ some. absurd (omega (arith, some, none));
    })
    (cases_lt 0 bound)
  where
    start : ℕ
    start = round_up (size low) w

    f : ℕ → ℕ
    f j = byte_in frags (start + j)

    small_bytes : (j : ℕ) → f j < 256
    small_bytes j = byte_in_small frags (start + j)

    ends : start + w ≡ end
    ends = got.ends

    wide : 0 < w
    wide = by_align (λ v. 0 < v) (omega arith) (omega arith) (omega arith) (omega arith) w align

    high : bound ≤ from_low w f
    high = ⊎_elim
        (λ (less : from_low w f < bound).
        let agrees = low_agrees w n (from_low w f) w end frags low (omega arith) got (λ i small. low_byte w f i (align_small w align) small_bytes small) in
        let same : from_low w f ≡ n = got.told (from_low w f) (whole w (from_low w f) ∷ low) (omega (arith, less, room)) (over_self _) (subst (λ (m : ℕ). Agrees frags (whole w (from_low w f) ∷ low) m) ends agrees) in
        absurd (omega (arith, less, same, above)))
        (λ h. h)
        (cases_lt (from_low w f) bound)

    too_small : (j e : ℕ) (full : List Leaf) → j + 1 ≤ 8 → j < w → bound ≤ from_low (j + 1) f → e < bound → SplitLeaves (whole w e ∷ low) full → Agrees frags full (start + j + 1) → ⊥
    too_small j e full few own over_bound fit over agrees =
        let least : from_low (j + 1) f ≤ e = prefix_le (j + 1) e f few (omega (arith, fit, room, width_room w align)) (λ i small.
        sym (leaf_byte w e i low full (omega (arith, small, own)) over).0 ∙ sym (agrees.at (start + i) (omega (arith, small)))) in
        omega (arith, least, over_bound, fit)

pub below_read : (of_length : Bool) (w bound : ℕ) (frags : List Frag) (at n end : ℕ) → n < bound → bound ≤ 2 ^ (8 * w) → ReadAt (number_below w (2 ^ (8 * w))) frags at n end → ReadAt (number_in of_length w bound) frags at n end
below_read of_length w bound frags at n end small room read = λ low here agree. below_got of_length w bound frags low n end small room (read low here agree)

pub below_stop : (of_length : Bool) (w bound : ℕ) → IsAlign w → (frags : List Frag) (at n end : ℕ) → bound ≤ n → bound ≤ 2 ^ (8 * w) → end ≤ 56 * length frags → ReadAt (number_below w (2 ^ (8 * w))) frags at n end
    → (low : List Leaf) → at ≡ size low → Agrees frags low at → Wrong (number_stop of_length) (number_in of_length w bound) frags low
below_stop of_length w bound align frags at n end above room within read low here agree =
    below_wrong of_length w bound align frags low n end above room within (read low here agree)

-- ---- a string's byte

low_one : (f : ℕ → ℕ) → f 0 < 256 → f 0 ≡ from_low 1 f
low_one f h = omega (arith, h)

same_place : (at : ℕ) → round_up at 1 ≡ at
same_place at = omega arith

byte_got : (frags : List Frag) (low : List Leaf) (at n : ℕ) → at ≡ size low → Agrees frags low at → n ≡ byte_in frags at → Got (number_below 1 256) frags low n (at + 1)
byte_got frags low at n here agree is =
    let f : ℕ → ℕ = λ j. byte_in frags (round_up at 1 + j) in
    let first : f 0 ≡ byte_in frags at = ap (byte_in frags) (omega (arith, same_place at)) in
    number_got 1 (inl refl) frags low at n (at + 1) here agree (λ p after before. absurd (omega (arith, after, before, same_place at)))
    (is ∙ sym first ∙ low_one f (byte_in_small frags (round_up at 1 + 0))) (omega (arith, same_place at))

pub text_got : (frags : List Frag) (at n : ℕ) → n ≡ byte_in frags at → n ≢ 0 → ReadAt text_byte frags at n (at + 1)
text_got frags at n is nonzero low here agree =
    let got = byte_got frags low at n here agree is in
    record {
      fit = rw (lt-ltb 0 n (omega (arith, nonzero)), lt-ltb n 256 got.fit) refl;
      ends = got.ends;
      agree = got.agree;
      told = λ e full f over agrees. got.told e full (ltb-true e 256 (second_so (ltb 0 e) _ f)) over agrees;
    }

pub text_wrong : (frags : List Frag) (at : ℕ) → 0 ≡ byte_in frags at → at < 56 * length frags → (low : List Leaf) → at ≡ size low → Agrees frags low at → Wrong Value text_byte frags low
text_wrong frags at is inside low here agree =
    let got = byte_got frags low at 0 here agree is in
    let place_is : place (single 1) low ≡ at = omega (arith, here, same_place (size low)) in
    record {
      p = at;
      after = omega (arith, here);
      inside = inside;
      none = record {
        none = λ e full f over agrees.
            let zero : e ≡ 0 = got.told e full (ltb-true e 256 (second_so (ltb 0 e) _ f)) over agrees in
            absurd (omega (arith, zero, ltb-true 0 e (first_so (ltb 0 e) _ f)));
      };
      near = λ some. record {
        one = 1;
        fit = refl;
        agree = zeros_agree (single 1) frags low at (subst (λ (n : ℕ). Agrees frags low n) here agree) (omega (arith, place_is)) (λ q low_q high. absurd (omega (arith, here, low_q, high)));
        longer = omega (arith, place_is);
        why = (refl, covered_in (single 1) low at (omega (arith, place_is)) (omega (arith, place_is)));
      };
    }

pub text_short : (frags : List Frag) (at : ℕ) → 56 * length frags ≤ at → (low : List Leaf) → at ≡ size low → Agrees frags low at → StreamCut text_byte frags low
text_short frags at past low here agree = record {
  all = record {
    none = λ e full f over agrees.
        let grown = grows over.more (single e ∷ low) in
        let is = ap size over.is in
        omega (arith, past, grown, is, here, same_place (size low));
  };
  near = λ some. record {
    one = 1;
    fit = refl;
    agree = zeros_agree (single 1) frags low (56 * length frags) (subst (λ (n : ℕ). Agrees frags low n) here agree) (omega (arith, past, here, size_le_place (size low) 1))
        (λ q low_q high. absurd (omega (arith, past, here, low_q, high)));
    longer = omega (arith, past, here, same_place (size low));
    why = tt;
  };
}
