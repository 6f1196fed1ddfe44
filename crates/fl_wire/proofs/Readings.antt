-- Fragments and the calls that they mean.
use Rattle.std.proofs.Common.{◌≡◌, ℕ, zero, suc, ◌+◌, ◌-◌, ◌*◌, ◌/◌, ◌%◌, ◌^◌, ◌<◌, ◌≤◌, true, false, ◌⊎◌, inl, inr, ⊎_elim, List, [], ◌∷◌, ◌++◌, map, length, get_or, take, slice_index, refl, sym, ◌∙◌, ap, subst, arith, cond, ltb, leb, ◌&&◌, append_assoc, max}
use Rattle.std.specs.Prelude.{slice_get}
use Rattle.std.specs.List.{range_with_len, zip, list_all, flat_map}
use Rattle.std.specs.Int.{byte_at, to_le_bytes, w64}
use Rattle.std.proofs.lemmas.Nat.{le_bytes_8, mod_below}
use Rattle.std.proofs.lemmas.List.{length-append, length-map, map-append, get_or_past, take-append-le, append_cancel_left, get_or-take, take_at, take-take}
use Rattle.std.proofs.lemmas.List.FromFn.{length-map-range_with_len, get_or-map-range_with_len}
use Rattle.std.proofs.lemmas.Bool.{cases_lt}
use Rattle.fl_base.specs.declared.fragment.Frag.{Frag}
use Rattle.fl_base.specs.Control.{bare}
use Rattle.fl_interface.specs.Interface.{TheInterface, TheMessage}
use Rattle.fl_value_data.specs.Value.{Datum, TheCall}
use Rattle.fl_value_data.specs.Fits.{fits_of, are_arguments}
use Rattle.fl_value_data.specs.declared.value.PlanNo.{PlanNo}
use Rattle.fl_layout.specs.Leaves.{Leaf, leaves, argument_types, arguments_onto}
use Rattle.fl_value_data.specs.Plan.{of_ranks}
use Rattle.std.specs.Cmp.{first_so, second_so}
use Rattle.fl_layout.specs.Places.{size, place, frags_filled, count_for, count}
use Rattle.fl_wire.specs.Payload.{payload_at, payload_bytes, payload_of, word, frag_on, frags_of}
use Rattle.fl_interface.specs.Counts.{interface_words_fit, argument_words_fit}
use Rattle.fl_value_data.specs.Tape.{kind, types_of}
use Rattle.fl_wire.specs.Reading.{AllFit, IsRest, IsPart, Reads}
use Rattle.fl_wire.proofs.Bytes.{length_payload, get_payload, past_end}
use Rattle.fl_wire.proofs.Arguments.{leaves_ranks, arguments_fit}
use Rattle.fl_wire.proofs.Agreement.{Agree, values_agree}

positive : (n : ℕ) → 0 < max 1 n
positive n = omega arith

covered : (n : ℕ) → n ≤ 56 * count_for n
covered n = omega arith

-- a call has at least one fragment, and as many as it counts
pub count_positive : (plan : PlanNo) (i : TheInterface) (c : TheCall) → 0 < count plan i c
count_positive plan i c = positive (frags_filled (size (leaves plan i c)))

pub length_frags : (plan : PlanNo) (i : TheInterface) (c : TheCall) → length (frags_of plan i c) ≡ count plan i c
length_frags plan i c = length-map-range_with_len (frag_on 0 c.msg (payload_of plan i c)) 0 (count plan i c)

-- the payload is no longer than its fragments
pub size_in_frags : (plan : PlanNo) (i : TheInterface) (c : TheCall) → size (leaves plan i c) ≤ 56 * count plan i c
size_in_frags plan i c = covered (size (leaves plan i c))

-- every payload byte is a byte
pub byte_small : (j n : ℕ) → byte_at j n < 256
byte_small zero n = mod_below n 256 (omega arith)
byte_small (suc j) n = mod_below (n / 256 ^ suc j) 256 (omega arith)

pub payload_small : (ls : List Leaf) (p : ℕ) → payload_at ls p < 256
payload_small [] p = omega arith
payload_small (l ∷ ls) p =
    elim (leb (place l ls) p && ltb p (place l ls + l.width)) as (λ v. cond v (byte_at (p - place l ls) l.value) (payload_at ls p) < 256) [
      | true ↦ byte_small (p - place l ls) l.value
      | false ↦ payload_small ls p
    ]

-- the payload's bytes, also past its end
pub byte_of_payload : (ls : List Leaf) (p : ℕ) → slice_index (payload_bytes ls) p ≡ payload_at ls p
byte_of_payload ls p = ⊎_elim
    (λ (inside : p < size ls). get_payload ls p inside)
    (λ (past : size ls ≤ p). get_or_past (payload_bytes ls) p 0 (omega (arith, past, length_payload ls)) ∙ sym (past_end ls p past))
    (cases_lt p (size ls))

-- words tell their bytes
abbrev pub window_of : List ℕ → ℕ → List ℕ
window_of xs k = map (slice_index xs) (range_with_len (8 * k) 8)

pub window_at : (xs : List ℕ) (k i : ℕ) → i < 8 → get_or (window_of xs k) i 0 ≡ slice_index xs (8 * k + i)
window_at xs k i h = get_or-map-range_with_len (slice_index xs) (8 * k) 8 i (8 * k + i) 0 h refl

pub window_small : (xs : List ℕ) (k : ℕ) → ((p : ℕ) → slice_index xs p < 256) → (i : ℕ) → get_or (window_of xs k) i 0 < 256
window_small xs k h i = ⊎_elim
    (λ (inside : i < 8). subst (λ (n : ℕ). n < 256) (sym (window_at xs k i inside)) (h (8 * k + i)))
    (λ (past : 8 ≤ i). subst (λ (n : ℕ). n < 256) (sym (get_or_past (window_of xs k) i 0 past)) (omega arith))
    (cases_lt i 8)

word_told : (xs ys : List ℕ) (k : ℕ) → ((p : ℕ) → slice_index xs p < 256) → ((p : ℕ) → slice_index ys p < 256) → word xs k ≡ word ys k → window_of xs k ≡ window_of ys k
word_told xs ys k hx hy e =
    sym (le_bytes_8 (window_of xs k) (word xs k) refl (window_small xs k hx) refl) ∙ ap (to_le_bytes w64) e
    ∙ le_bytes_8 (window_of ys k) (word ys k) refl (window_small ys k hy) refl

-- fragment k of a call
pub frag_at : (plan : PlanNo) (i : TheInterface) (c : TheCall) (k : ℕ) (d : Frag) → k < count plan i c → get_or (frags_of plan i c) k d ≡ frag_on 0 c.msg (payload_of plan i c) k
frag_at plan i c k d h = get_or-map-range_with_len (frag_on 0 c.msg (payload_of plan i c)) 0 (count plan i c) k k d h (omega arith)

-- bytes of equal words
bytes_from_words : (xs ys : List ℕ) (n : ℕ) → ((p : ℕ) → slice_index xs p < 256) → ((p : ℕ) → slice_index ys p < 256)
    → ((m : ℕ) → m < 7 * n → word xs m ≡ word ys m) → (p : ℕ) → p < 56 * n → slice_index xs p ≡ slice_index ys p
bytes_from_words xs ys n hx hy same p h =
    let m = p / 8 in
    let r = p % 8 in
    let whole : 8 * m + r ≡ p = omega arith in
    let small : r < 8 = omega arith in
    let windows : window_of xs m ≡ window_of ys m = word_told xs ys m hx hy (same m (omega (arith, h))) in
    ap (slice_index xs) (sym whole) ∙ sym (window_at xs m r small) ∙ ap (λ (ws : List ℕ). get_or ws r 0) windows ∙ window_at ys m r small ∙ ap (slice_index ys) whole

-- words of equal fragments
words_from_frags : (a b : ℕ) (xs ys : List ℕ) (n : ℕ) → ((k : ℕ) → k < n → frag_on 0 a xs k ≡ frag_on 0 b ys k) → (m : ℕ) → m < 7 * n → word xs m ≡ word ys m
words_from_frags a b xs ys n same m h =
    let k = m / 7 in
    let j = m % 7 in
    let whole : 7 * k + j ≡ m = omega arith in
    let small : j < 7 = omega arith in
    let words : map (word xs) (range_with_len (7 * k) 7) ≡ map (word ys) (range_with_len (7 * k) 7) = ap (λ (f : Frag). f.words) (same k (omega (arith, h))) in
    sym (get_or-map-range_with_len (word xs) (7 * k) 7 j m 0 small whole) ∙ ap (λ (ws : List ℕ). get_or ws j 0) words ∙ get_or-map-range_with_len (word ys) (7 * k) 7 j m 0 small whole

pub all_small : (ls : List Leaf) (p : ℕ) → slice_index (payload_bytes ls) p < 256
all_small ls p = subst (λ (n : ℕ). n < 256) (sym (byte_of_payload ls p)) (payload_small ls p)

-- payloads of equal fragments
agree_from_frags : (a b : ℕ) (f g : List Leaf) (n : ℕ) → size f ≤ 56 * n → ((k : ℕ) → k < n → frag_on 0 a (payload_bytes f) k ≡ frag_on 0 b (payload_bytes g) k) → Agree f g
agree_from_frags a b f g n room same = record {
  at = λ p h.
      sym (byte_of_payload f p)
      ∙ bytes_from_words (payload_bytes f) (payload_bytes g) n (all_small f) (all_small g) (words_from_frags a b (payload_bytes f) (payload_bytes g) n same) p (omega (arith, h, room))
      ∙ byte_of_payload g p;
}

-- equal control words of first fragments tell the message
message_told : (a b : ℕ) → 2 + 65536 * a + 2 ^ 32 * 0 ≡ 2 + 65536 * b + 2 ^ 32 * 0 → a ≡ b
message_told a b e = omega (arith, e)

words_within : (ms : List TheMessage) (n : ℕ) → list_all (λ (m : TheMessage). list_all argument_words_fit m.args) ms ≡ true → list_all argument_words_fit (types_of (slice_get ms n)) ≡ true
words_within [] n h = refl
words_within (m ∷ ms) zero h = first_so (list_all argument_words_fit m.args) _ h
words_within (m ∷ ms) (suc n) h = words_within ms n (second_so (list_all argument_words_fit m.args) _ h)

types_words : (i : TheInterface) (n : ℕ) → interface_words_fit i ≡ true → list_all argument_words_fit (argument_types i n) ≡ true
types_words i n h = words_within i.messages n h

abbrev pub make_call : ℕ → List Datum → TheCall
make_call n ds = record { msg = n; args = ds }

pub same_call : (c d : TheCall) → c.msg ≡ d.msg → c.args ≡ d.args → c ≡ d
same_call c d e f = ap (λ (n : ℕ). make_call n c.args) e ∙ ap (λ (ds : List Datum). make_call d.msg ds) f

-- fitting calls whose first fragments are equal, as many as the first one has
call_told : (plan : PlanNo) (i : TheInterface) (c d : TheCall) → interface_words_fit i ≡ true → fits_of i c ≡ true → fits_of i d ≡ true
    → ((k : ℕ) → k < count plan i c → frag_on 0 c.msg (payload_of plan i c) k ≡ frag_on 0 d.msg (payload_of plan i d) k) → c ≡ d
call_told plan i c d w hc hd same =
    let e : c.msg ≡ d.msg = message_told c.msg d.msg (ap (λ (f : Frag). f.control) (same 0 (count_positive plan i c))) in
    let ts = argument_types i c.msg in
    let fit_c = arguments_fit (slice_get i.messages c.msg) c.args hc in
    let fit_d = subst (λ (n : ℕ). are_arguments (argument_types i n) d.args ≡ true) (sym e) (arguments_fit (slice_get i.messages d.msg) d.args hd) in
    let agree : Agree (leaves plan i c) (leaves plan i d) = agree_from_frags c.msg d.msg (leaves plan i c) (leaves plan i d) (count plan i c) (size_in_frags plan i c) same in
    let ranks : (n : ℕ) → List Datum → List Leaf = λ n ds. arguments_onto false (of_ranks kind plan 5 0 (zip (argument_types i n) ds)) [] in
    let by_rank : Agree (ranks c.msg c.args) (ranks c.msg d.args)
    = subst (λ (f : List Leaf). Agree f (ranks c.msg d.args)) (leaves_ranks plan i c)
    (subst (λ (g : List Leaf). Agree (leaves plan i c) g) (leaves_ranks plan i d ∙ ap (λ (n : ℕ). ranks n d.args) (sym e)) agree) in
    same_call c d e (values_agree plan ts c.args d.args (types_words i c.msg w) fit_c fit_d by_rank)

-- a fitting call whose fragments begin with those of another is that one
pub begins_with : (plan : PlanNo) (i : TheInterface) (c d : TheCall) → interface_words_fit i ≡ true → fits_of i c ≡ true → fits_of i d ≡ true
    → count plan i c ≤ count plan i d → frags_of plan i c ≡ take (count plan i c) (frags_of plan i d) → c ≡ d
begins_with plan i c d w hc hd less e = call_told plan i c d w hc hd (λ k h.
    let z = frag_on 0 c.msg (payload_of plan i c) k in
    sym (frag_at plan i c k z h) ∙ ap (λ (fs : List Frag). get_or fs k z) e ∙ get_or-take (count plan i c) (frags_of plan i d) k z h ∙ frag_at plan i d k z (omega (arith, h, less)))

-- ---- one reading

abbrev pub joined : PlanNo → TheInterface → List TheCall → List Frag → List Frag
joined plan i cs x = flat_map (frags_of plan i) cs ++ x

cons_same : (c d : TheCall) (cs ds : List TheCall) → c ≡ d → cs ≡ ds → c ∷ cs ≡ d ∷ ds
cons_same c d cs ds e f = ap (λ (x : TheCall). x ∷ cs) e ∙ ap (λ (xs : List TheCall). d ∷ xs) f

shorter_begins : (plan : PlanNo) (i : TheInterface) (c d : TheCall) (x y : List Frag) → interface_words_fit i ≡ true → fits_of i c ≡ true → fits_of i d ≡ true
    → count plan i c ≤ count plan i d → frags_of plan i c ++ x ≡ frags_of plan i d ++ y → c ≡ d
shorter_begins plan i c d x y w hc hd less e =
    let n = count plan i c in
    begins_with plan i c d w hc hd less
    (sym (take_at (frags_of plan i c) x n (length_frags plan i c)) ∙ ap (λ (fs : List Frag). take n fs) e
    ∙ take-append-le n (frags_of plan i d) y (omega (arith, less, length_frags plan i d)))

-- a list that begins with a call's fragments and with another's
pub two_begin : (plan : PlanNo) (i : TheInterface) (c d : TheCall) (x y : List Frag) → interface_words_fit i ≡ true → fits_of i c ≡ true → fits_of i d ≡ true
    → frags_of plan i c ++ x ≡ frags_of plan i d ++ y → c ≡ d
two_begin plan i c d x y w hc hd e = ⊎_elim
    (λ (less : count plan i c < count plan i d). shorter_begins plan i c d x y w hc hd (omega (arith, less)) e)
    (λ (more : count plan i d ≤ count plan i c). sym (shorter_begins plan i d c y x w hd hc more (sym e)))
    (cases_lt (count plan i c) (count plan i d))

-- a rest doesn't begin with a whole call
rest_has_no_call : (plan : PlanNo) (i : TheInterface) (d : TheCall) (x y : List Frag) → interface_words_fit i ≡ true → fits_of i d ≡ true → IsRest plan i x
    → x ≡ frags_of plan i d ++ y → ⊥
rest_has_no_call plan i d x y w hd (inl none) e =
    let long : 0 ≡ length (frags_of plan i d) + length y = sym (ap length none) ∙ ap length e ∙ length-append (frags_of plan i d) y in
    absurd (omega (arith, long, count_positive plan i d, length_frags plan i d))
rest_has_no_call plan i d x y w hd (inr (c, part)) e =
    let long : length x ≡ count plan i d + length y = ap length e ∙ length-append (frags_of plan i d) y ∙ omega (arith, length_frags plan i d) in
    let prefix : frags_of plan i d ≡ take (count plan i d) (frags_of plan i c)
    = sym (take_at (frags_of plan i d) y (count plan i d) (length_frags plan i d)) ∙ ap (λ (fs : List Frag). take (count plan i d) fs) (sym e ∙ part.prefix)
    ∙ take-take (count plan i d) (length x) (frags_of plan i c) (omega (arith, long)) in
    let same : d ≡ c = begins_with plan i d c w hd part.fits (omega (arith, long, part.short)) prefix in
    let counts : count plan i d ≡ count plan i c = ap (count plan i) same in
    absurd (omega (arith, counts, long, part.short))

pub first_fits : (i : TheInterface) (c : TheCall) (cs : List TheCall) → AllFit i (c ∷ cs) → fits_of i c ≡ true
first_fits i c cs h = h 0 c (omega arith)

pub rest_fit : (i : TheInterface) (c : TheCall) (cs : List TheCall) → AllFit i (c ∷ cs) → AllFit i cs
rest_fit i c cs h = λ k d small. h (suc k) d (omega (arith, small))

pub one_reading : (plan : PlanNo) (i : TheInterface) (cs ds : List TheCall) (x y : List Frag) → interface_words_fit i ≡ true
    → AllFit i cs → AllFit i ds → IsRest plan i x → IsRest plan i y → joined plan i cs x ≡ joined plan i ds y → (cs ≡ ds) × (x ≡ y)
one_reading plan i [] [] x y w hc hd rx ry e = (refl, e)
one_reading plan i [] (d ∷ ds) x y w hc hd rx ry e =
    absurd (rest_has_no_call plan i d x (joined plan i ds y) w (first_fits i d ds hd) rx (e ∙ append_assoc (frags_of plan i d) (flat_map (frags_of plan i) ds) y))
one_reading plan i (c ∷ cs) [] x y w hc hd rx ry e =
    absurd (rest_has_no_call plan i c y (joined plan i cs x) w (first_fits i c cs hc) ry (sym e ∙ append_assoc (frags_of plan i c) (flat_map (frags_of plan i) cs) x))
one_reading plan i (c ∷ cs) (d ∷ ds) x y w hc hd rx ry e =
    let e' : frags_of plan i c ++ joined plan i cs x ≡ frags_of plan i d ++ joined plan i ds y
    = sym (append_assoc (frags_of plan i c) (flat_map (frags_of plan i) cs) x) ∙ e ∙ append_assoc (frags_of plan i d) (flat_map (frags_of plan i) ds) y in
    let same : c ≡ d = two_begin plan i c d (joined plan i cs x) (joined plan i ds y) w (first_fits i c cs hc) (first_fits i d ds hd) e' in
    let rest = append_cancel_left (frags_of plan i c) (joined plan i cs x) (joined plan i ds y) (e' ∙ ap (λ (b : TheCall). frags_of plan i b ++ joined plan i ds y) (sym same)) in
    let (tails, rests) = one_reading plan i cs ds x y w (rest_fit i c cs hc) (rest_fit i d ds hd) rx ry rest in
    (cons_same c d cs ds same tails, rests)

-- ---- the same of what fragments read as, their epochs and counts told set aside

bare_rest : (plan : PlanNo) (i : TheInterface) (x : List Frag) → (x ≡ []) ⊎ IsPart plan i x → IsRest plan i (map bare x)
bare_rest plan i x (inl none) = inl (ap (map bare) none)
bare_rest plan i x (inr part) = inr (
  part.call,
  record {
    fits = part.fits;
    short = subst (λ (n : ℕ). n < count plan i part.call) (sym (length-map x bare)) part.short;
    prefix = part.prefix ∙ ap (λ (n : ℕ). take n (frags_of plan i part.call)) (sym (length-map x bare));
  },
)

bare_joined : (plan : PlanNo) (i : TheInterface) (frags : List Frag) (cs : List TheCall) (x : List Frag) → Reads plan i frags cs x → map bare frags ≡ joined plan i cs (map bare x)
bare_joined plan i frags cs x r = ap (map bare) r.joined ∙ map-append bare r.whole x ∙ ap (λ (fs : List Frag). fs ++ map bare x) r.mean

-- ends of one list that are as long as each other
ends_same : (a b x y : List Frag) → a ++ x ≡ b ++ y → length x ≡ length y → x ≡ y
ends_same [] [] x y e long = e
ends_same [] (g ∷ b) x y e long =
    let lengths : length x ≡ length (g ∷ b) + length y = ap length e ∙ length-append (g ∷ b) y in
    absurd (omega (arith, lengths, long))
ends_same (f ∷ a) [] x y e long =
    let lengths : length (f ∷ a) + length x ≡ length y = sym (length-append (f ∷ a) x) ∙ ap length e in
    absurd (omega (arith, lengths, long))
ends_same (f ∷ a) (g ∷ b) x y e long = let tails : a ++ x ≡ b ++ y = cc in ends_same a b x y tails long

pub reads_once : (plan : PlanNo) (i : TheInterface) (frags : List Frag) (cs ds : List TheCall) (x y : List Frag) → interface_words_fit i ≡ true
    → Reads plan i frags cs x → Reads plan i frags ds y → (cs ≡ ds) × (x ≡ y)
reads_once plan i frags cs ds x y w r s =
    let (calls, rests) = one_reading plan i cs ds (map bare x) (map bare y) w r.fit s.fit (bare_rest plan i x r.part) (bare_rest plan i y s.part)
    (sym (bare_joined plan i frags cs x r) ∙ bare_joined plan i frags ds y s) in
    let long : length x ≡ length y = sym (length-map x bare) ∙ ap length rests ∙ length-map y bare in
    (calls, ends_same r.whole s.whole x y (sym r.joined ∙ s.joined) long)
