-- No payload passes 32,768 bytes under either plan. The limit is looked at under the first; the second puts
-- the fixed arguments together without a gap between them, and so begins no further block of 8 bytes.
use Rattle.std.proofs.Common.{◌≡◌, ℕ, ◌+◌, ◌*◌, ◌≤◌, ◌⊎◌, inl, inr, ⊎_elim, true, false, Bool, if◌then◌else◌, max, Some, List, [], ◌∷◌, ◌++◌, map, filter, refl, sym, ◌∙◌, ap, subst, arith, not}
use Rattle.std.specs.Prelude.{slice_get, nat_lt}
use Rattle.std.proofs.lemmas.Bool.{and_parts, eqb-true, ltb-false, false≢true, cases_Bool}
use Rattle.std.proofs.lemmas.List.{map-append, append_assoc}
use Rattle.fl_interface.specs.Interface.{TheArgType, fixed, text, sized, TheMessage, TheInterface}
use Rattle.fl_interface.specs.Sizes.{size_of, align_of, round_up, IsAlign}
use Rattle.fl_interface.specs.Payload.{greatest_end, greatest_payload}
use Rattle.fl_interface.specs.Limits.{is_too_long}
use Rattle.fl_interface.specs.Limits.{are_arguments_within, is_message_within, is_within_limits}
use Rattle.fl_value_data.specs.declared.value.PlanNo.{PlanNo}
use Rattle.fl_value_data.specs.declared.value.PlanNo.TheVariants.{One, Two}
use Rattle.fl_value_data.specs.Value.{TheCall}
use Rattle.fl_value_data.specs.Plan.{arranged, is_fixed_at, is_dynamic}
use Rattle.fl_layout.specs.declared.extent.Fill.TheVariants.{Full}
use Rattle.fl_layout.specs.Extents.{Filled, extent_of, numbered, placing, end_of_all, count_by, filled_up}
use Rattle.fl_layout.specs.Layouts.{payload_length, IsCallOf}
use Rattle.fl_interface.proofs.Aligned.{by_align, IsMultiple, align_one, align_two, align_four, align_eight, align_small, rounded, round_multiple, round_after, round_least, round_rises, multiple_add, multiple_of_less, type_align, size_multiple}
use Rattle.fl_layout.proofs.Order.{arranged_map, numbered_are}
use Rattle.fl_layout.proofs.Lengths.{limit, map_map, message_within, greatest_is}
use Rattle.fl_layout.proofs.Sums.{total, total_append, total_arranged}

-- an argument filled up, by its type
abbrev pub full : TheArgType → Filled
full t = (extent_of t, count_by Full (extent_of t))

abbrev pub same_type : TheArgType → TheArgType
same_type t = t

-- what a plan keeps, filled up
pub limit_full : (plan : PlanNo) (m : TheMessage) → limit Full plan m ≡ end_of_all 0 1 (map full (arranged same_type plan m.args))
limit_full plan m =
    let type : ℕ × TheArgType → TheArgType = λ a. a.1 in
    let order = arranged type plan (numbered m.args) in
    let types : arranged same_type plan m.args ≡ map type order
    = ap (arranged same_type plan) (sym (numbered_are m.args 0)) ∙ arranged_map type same_type plan (numbered m.args) in
    ap (end_of_all 0 1) (map_map (filled_up Full) placing order ∙ sym (map_map full type order) ∙ ap (map full) (sym types))

-- under the first plan this is what the limit is looked at for
pub end_is : (ts : List TheArgType) (at due : ℕ) → end_of_all at due (map full ts) ≡ greatest_end at due ts
end_is [] at due = refl
end_is (fixed t ∷ ts) at due = end_is ts (round_up at (max due (align_of t)) + size_of t) 1
end_is (text most ∷ ts) at due = end_is ts (round_up at 8 + (8 + most)) 8
end_is (sized most t ∷ ts) at due = end_is ts (round_up at 8 + (8 + most * size_of t)) 8

-- the bytes of fixed arguments; those of strings and sized arrays, in blocks of 8
abbrev fixed_bytes : TheArgType → ℕ
fixed_bytes (fixed t) = size_of t
fixed_bytes (text most) = 0
fixed_bytes (sized most t) = 0

abbrev varied_bytes : TheArgType → ℕ
varied_bytes (fixed t) = 0
varied_bytes (text most) = round_up (8 + most) 8
varied_bytes (sized most t) = round_up (8 + most * size_of t) 8

abbrev IsDue : ℕ → Type 0
IsDue due = (due ≡ 1) ⊎ (due ≡ 8)

by_due : (P : ℕ → Type 0) → P 1 → P 8 → (due : ℕ) → IsDue due → P due
by_due P one eight due d = ⊎_elim (λ (e : due ≡ 1). subst P (sym e) one) (λ (e : due ≡ 8). subst P (sym e) eight) d

due_least : (due a at : ℕ) → IsDue due → IsAlign a → round_up at due ≤ round_up at (max due a)
due_least due a at d h =
    let small = align_small a h in
    by_due (λ n. round_up at n ≤ round_up at (max n a))
    (omega (arith, round_least (max 1 a) at))
    (let e : max 8 a ≡ 8 = omega (arith, small) in subst (λ n. round_up at 8 ≤ round_up at n) (sym e) (omega arith))
    due d

due_eight : (due at : ℕ) → IsDue due → round_up at due ≤ round_up at 8
due_eight due at d = by_due (λ n. round_up at n ≤ round_up at 8) (omega arith) (omega arith) due d

-- a string or a sized array takes whole blocks, and so does what stands before it
split : (at l : ℕ) → round_up (round_up at 8 + l) 8 ≡ round_up at 8 + round_up l 8
split at l = round_after 8 (round_up at 8) l align_eight (rounded 8 at align_eight)

blocks : (start at l f : ℕ) → start ≤ round_up at 8 → round_up (start + f) 8 + round_up l 8 ≤ round_up (round_up (round_up at 8 + l) 8 + f) 8
blocks start at l f h =
    let e = split at l in
    let before = round_up at 8 + round_up l 8 in
    let whole : IsMultiple 8 before = multiple_add 8 (round_up at 8) (round_up l 8) align_eight (rounded 8 at align_eight) (rounded 8 l align_eight) in
    let right : round_up (round_up (round_up at 8 + l) 8 + f) 8 ≡ before + round_up f 8
    = ap (λ n. round_up (n + f) 8) e ∙ round_after 8 before f align_eight whole in
    let up : round_up (start + f) 8 ≤ round_up (round_up at 8 + f) 8 = round_rises 8 (start + f) (round_up at 8 + f) align_eight (omega (arith, h)) in
    let left = split at f in
    omega (arith, right, up, left)

-- in any order no fewer blocks are begun than for the fixed arguments together and for each other
lower : (ts : List TheArgType) (at due : ℕ) → IsDue due
    → round_up (round_up at due + total fixed_bytes ts) 8 + total varied_bytes ts ≤ round_up (end_of_all at due (map full ts)) 8
lower [] at due d = by_due (λ n. round_up (round_up at n + 0) 8 + 0 ≤ round_up at 8) (omega arith) (omega arith) due d
lower (fixed t ∷ ts) at due d =
    let start = round_up at (max due (align_of t)) in
    let rest = lower ts (start + size_of t) 1 (inl refl) in
    let one : round_up (start + size_of t) 1 ≡ start + size_of t = omega arith in
    let least = due_least due (align_of t) at d (type_align t) in
    let f = total fixed_bytes ts in
    let up : round_up (round_up at due + (size_of t + f)) 8 ≤ round_up (round_up (start + size_of t) 1 + f) 8
    = round_rises 8 (round_up at due + (size_of t + f)) (round_up (start + size_of t) 1 + f) align_eight (omega (arith, least, one)) in
    omega (arith, rest, up)
lower (text most ∷ ts) at due d =
    let rest = lower ts (round_up at 8 + (8 + most)) 8 (inr refl) in
    let step = blocks (round_up at due) at (8 + most) (total fixed_bytes ts) (due_eight due at d) in
    omega (arith, rest, step)
lower (sized most t ∷ ts) at due d =
    let rest = lower ts (round_up at 8 + (8 + most * size_of t)) 8 (inr refl) in
    let step = blocks (round_up at due) at (8 + most * size_of t) (total fixed_bytes ts) (due_eight due at d) in
    omega (arith, rest, step)

-- fixed arguments of one alignment, one after another from a multiple of it, leave no gap
abbrev of_align : ℕ → List TheArgType → List TheArgType
of_align a ts = filter (is_fixed_at a) ts

record Fixed (a : ℕ) (t : TheArgType) : Type 0 where
  next : (at : ℕ) → IsMultiple a at → (rest : List Filled) → end_of_all at 1 (full t ∷ rest) ≡ end_of_all (at + fixed_bytes t) 1 rest
  whole : IsMultiple a (fixed_bytes t)

fixed_one : (a : ℕ) (t : TheArgType) → IsAlign a → is_fixed_at a t ≡ true → Fixed a t
fixed_one a (fixed t) h e =
    let same : align_of t ≡ a = eqb-true (align_of t) a e in
    let least = (align_small (align_of t) (type_align t)).0 in
    let align : max 1 (align_of t) ≡ a = omega (arith, same, least) in
    record {
      next = λ at m rest. ap (λ n. end_of_all (round_up at n + size_of t) 1 rest) align ∙ ap (λ n. end_of_all (n + size_of t) 1 rest) (round_multiple a at h m);
      whole = subst (λ n. IsMultiple n (size_of t)) same (size_multiple t);
    }
fixed_one a (text most) h e = absurd (false≢true e)
fixed_one a (sized most t) h e = absurd (false≢true e)

record Run (a : ℕ) (ts : List TheArgType) : Type 0 where
  ends : (at : ℕ) → IsMultiple a at → (rest : List Filled) → end_of_all at 1 (map full ts ++ rest) ≡ end_of_all (at + total fixed_bytes ts) 1 rest
  whole : IsMultiple a (total fixed_bytes ts)

no_bytes : (a : ℕ) → IsAlign a → IsMultiple a 0
no_bytes a h = by_align (λ a. IsMultiple a 0) (omega arith) (omega arith) (omega arith) (omega arith) a h

run : (a : ℕ) (ts : List TheArgType) → IsAlign a → Run a (of_align a ts)
run a [] h = record {
  ends = λ at m rest. ap (λ n. end_of_all n 1 rest) (omega arith);
  whole = no_bytes a h;
}
run a (t ∷ ts) h =
    let more = run a ts h in
    ⊎_elim
    (λ (e : is_fixed_at a t ≡ true).
    let this = fixed_one a t h e in
    let r : Run a (t ∷ of_align a ts) = record {
      ends = λ at m rest.
          this.next at m (map full (of_align a ts) ++ rest)
          ∙ more.ends (at + fixed_bytes t) (multiple_add a at (fixed_bytes t) h m this.whole) rest
          ∙ ap (λ n. end_of_all n 1 rest) (omega arith);
      whole = multiple_add a (fixed_bytes t) (total fixed_bytes (of_align a ts)) h this.whole more.whole;
    } in
    subst (λ (b : Bool). Run a (if b then t ∷ of_align a ts else of_align a ts)) (sym e) r)
    (λ (e : is_fixed_at a t ≡ false). subst (λ (b : Bool). Run a (if b then t ∷ of_align a ts else of_align a ts)) (sym e) more)
    (cases_Bool (is_fixed_at a t))

-- strings and sized arrays take their blocks
tail : (ts : List TheArgType) (at due : ℕ) → round_up (end_of_all at due (map full (filter is_dynamic ts))) 8 ≤ round_up at 8 + total varied_bytes (filter is_dynamic ts)
tail [] at due = omega arith
tail (fixed t ∷ ts) at due = tail ts at due
tail (text most ∷ ts) at due = omega (arith, tail ts (round_up at 8 + (8 + most)) 8, split at (8 + most))
tail (sized most t ∷ ts) at due = omega (arith, tail ts (round_up at 8 + (8 + most * size_of t)) 8, split at (8 + most * size_of t))

join : (a b c d e : List TheArgType) → map full (a ++ b ++ c ++ d ++ e) ≡ map full a ++ (map full b ++ (map full c ++ (map full d ++ map full e)))
join a b c d e =
    map-append full (a ++ b ++ c ++ d) e
    ∙ ap (λ (xs : List Filled). xs ++ map full e) (map-append full (a ++ b ++ c) d)
    ∙ ap (λ (xs : List Filled). xs ++ map full d ++ map full e) (map-append full (a ++ b) c)
    ∙ ap (λ (xs : List Filled). xs ++ map full c ++ map full d ++ map full e) (map-append full a b)
    ∙ append_assoc (map full a ++ map full b ++ map full c) (map full d) (map full e)
    ∙ append_assoc (map full a ++ map full b) (map full c) (map full d ++ map full e)
    ∙ append_assoc (map full a) (map full b) (map full c ++ (map full d ++ map full e))

-- the second plan begins no more
upper : (ts : List TheArgType) → round_up (end_of_all 0 1 (map full (arranged same_type Two ts))) 8 ≤ round_up (total fixed_bytes ts) 8 + total varied_bytes ts
upper ts =
    let a = of_align 8 ts in let b = of_align 4 ts in let c = of_align 2 ts in let d = of_align 1 ts in let e = filter is_dynamic ts in
    let fa = total fixed_bytes a in let fb = total fixed_bytes b in let fc = total fixed_bytes c in let fd = total fixed_bytes d in
    let ra = run 8 ts align_eight in let rb = run 4 ts align_four in let rc = run 2 ts align_two in let rd = run 1 ts align_one in
    let less = λ (x y n : ℕ) (hx : IsAlign x) (hy : IsAlign y) (r : x ≤ y) (m : IsMultiple y n). multiple_of_less x y n hx hy r m in
    let ma : IsMultiple 8 fa = ra.whole in
    let mb : IsMultiple 4 (fa + fb) = multiple_add 4 fa fb align_four (less 4 8 fa align_four align_eight (omega arith) ma) rb.whole in
    let mc : IsMultiple 2 (fa + fb + fc) = multiple_add 2 (fa + fb) fc align_two (less 2 4 (fa + fb) align_two align_four (omega arith) mb) rc.whole in
    let ends : end_of_all 0 1 (map full (a ++ b ++ c ++ d ++ e)) ≡ end_of_all (fa + fb + fc + fd) 1 (map full e)
    = ap (end_of_all 0 1) (join a b c d e)
    ∙ ra.ends 0 (no_bytes 8 align_eight) (map full b ++ (map full c ++ (map full d ++ map full e)))
    ∙ ap (λ n. end_of_all n 1 (map full b ++ (map full c ++ (map full d ++ map full e)))) (omega arith)
    ∙ rb.ends fa (less 4 8 fa align_four align_eight (omega arith) ma) (map full c ++ (map full d ++ map full e))
    ∙ rc.ends (fa + fb) (less 2 4 (fa + fb) align_two align_four (omega arith) mb) (map full d ++ map full e)
    ∙ rd.ends (fa + fb + fc) (less 1 2 (fa + fb + fc) align_one align_two (omega arith) mc) (map full e) in
    let f = total_arranged fixed_bytes same_type Two ts in
    let v = total_arranged varied_bytes same_type Two ts in
    let f5 = total_append fixed_bytes (a ++ b ++ c ++ d) e in
    let f4 = total_append fixed_bytes (a ++ b ++ c) d in
    let f3 = total_append fixed_bytes (a ++ b) c in
    let f2 = total_append fixed_bytes a b in
    let v5 = total_append varied_bytes (a ++ b ++ c ++ d) e in
    let few : fa + fb + fc + fd ≤ total fixed_bytes ts = omega (arith, f, f5, f4, f3, f2) in
    let few_varied : total varied_bytes e ≤ total varied_bytes ts = omega (arith, v, v5) in
    let last = tail ts (fa + fb + fc + fd) 1 in
    let rise = round_rises 8 (fa + fb + fc + fd) (total fixed_bytes ts) align_eight few in
    subst (λ n. round_up n 8 ≤ round_up (total fixed_bytes ts) 8 + total varied_bytes ts) (sym ends) (omega (arith, last, rise, few_varied))

small_in : (plan : PlanNo) (ts : List TheArgType) → greatest_payload ts ≤ 32768 → end_of_all 0 1 (map full (arranged same_type plan ts)) ≤ 32768
small_in One ts h = subst (λ n. n ≤ 32768) (sym (end_is ts 0 1)) h
small_in Two ts h =
    let low = lower ts 0 1 (inl refl) in
    let up = upper ts in
    let one : end_of_all 0 1 (map full ts) ≤ 32768 = subst (λ n. n ≤ 32768) (sym (end_is ts 0 1)) h in
    let whole : round_up (end_of_all 0 1 (map full ts)) 8 ≤ 32768 = omega (arith, one) in
    let zero_start : round_up 0 1 + total fixed_bytes ts ≡ total fixed_bytes ts = omega arith in
    let low' = subst (λ n. round_up n 8 + total varied_bytes ts ≤ round_up (end_of_all 0 1 (map full ts)) 8) zero_start low in
    omega (arith, low', up, whole, round_least 8 (end_of_all 0 1 (map full (arranged same_type Two ts))))

not_false : (b : Bool) → not b ≡ true → b ≡ false
not_false false h = refl
not_false true h = absurd (false≢true h)

-- the greatest payload of a message within the limits
pub limit_small : (plan : PlanNo) (m : TheMessage) → is_message_within m ≡ true → limit Full plan m ≤ 32768
limit_small plan m w =
    let parts = and_parts (are_arguments_within m.args) _ (and_parts _ _ w).1 in
    let short : nat_lt 32768 (greatest_payload m.args) ≡ false = not_false (is_too_long m) parts.1 in
    subst (λ n. n ≤ 32768) (sym (limit_full plan m)) (small_in plan m.args (ltb-false 32768 (greatest_payload m.args) short))

-- the greatest payload of a message of an interface within them
pub message_small : (plan : PlanNo) (i : TheInterface) (msg : ℕ) (m : TheMessage) → is_within_limits i ≡ true → slice_get i.messages msg ≡ Some m → limit Full plan m ≤ 32768
message_small plan i msg m w e =
    let within = and_parts _ _ (and_parts _ _ w).1 in
    limit_small plan m (message_within i.messages msg m within.1 e)

-- the length of each call
pub length_small : (plan : PlanNo) (i : TheInterface) (msg : ℕ) (m : TheMessage) (c : TheCall) → is_within_limits i ≡ true → slice_get i.messages msg ≡ Some m
    → IsCallOf i msg c → payload_length plan i c ≤ 32768
length_small plan i msg m c w e s = omega (arith, message_small plan i msg m w e, (greatest_is plan i msg m w e).bounds c s)
