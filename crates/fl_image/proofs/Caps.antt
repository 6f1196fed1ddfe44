-- Measures that are told up to 65,536 alone.
use Rattle.std.proofs.Common.{◌≡◌, ℕ, zero, suc, ◌+◌, ◌*◌, ◌<◌, ◌≤◌, inl, inr, ⊎_elim, max, min, List, [], ◌∷◌, refl, sym, ap, subst, ◌∙◌, arith}
use Rattle.std.proofs.Math.Nat.{mul-le-mul_right}
use Rattle.std.proofs.lemmas.Bool.{cases_lt}
use Rattle.fl_interface.specs.Interface.{TheType, array, TheTypes, no_more, field, TheArgType, fixed, text, sized}
use Rattle.fl_interface.specs.Sizes.{size_of, align_of, greatest_align, end_after, round_up, IsAlign}
use Rattle.fl_interface.specs.Depth.{depth_of, deepest, array_depth_of, deepest_array}
use Rattle.fl_interface.specs.Payload.{greatest_end}
use Rattle.fl_interface.proofs.Aligned.{align_one, align_eight, align_small, greater_align, type_align, types_align, round_least}
use Rattle.fl_image.specs.Limits.{Near, Measures, SoFar, Reaches}
use Rattle.fl_image.specs.declared.limits.TypeMeasures.{TypeMeasures}
use Rattle.fl_image.specs.declared.limits.ArgsEnd.{ArgsEnd}

-- ---- near

pub near_then : (a b c : ℕ) → Near a b → Near b c → Near a c
near_then a b c (inl e) q = subst (λ (x : ℕ). Near x c) (sym e) q
near_then a b c (inr p) (inl e) = inr (p.0, omega (arith, p.1, e))
near_then a b c (inr p) (inr q) = inr (p.0, q.1)

pub capped : (n : ℕ) → Near (min n 65536) n
capped n = ⊎_elim (λ (lt : n < 65536). inl (omega (arith, lt))) (λ (le : 65536 ≤ n). inr (omega (arith, le), le)) (cases_lt n 65536)

near_sum : (a b x y : ℕ) → Near a x → Near b y → Near (a + b) (x + y)
near_sum a b x y (inl e) (inl f) = inl (omega (arith, e, f))
near_sum a b x y (inl e) (inr q) = inr (omega (arith, q.0), omega (arith, q.1))
near_sum a b x y (inr p) q = inr (omega (arith, p.0), omega (arith, p.1))

near_round : (align a x : ℕ) → IsAlign align → Near a x → Near (round_up a align) (round_up x align)
near_round align a x h (inl e) = inl (ap (λ (n : ℕ). round_up n align) e)
near_round align a x h (inr p) = inr (omega (arith, p.0, round_least align a), omega (arith, p.1, round_least align x))

many_times : (n s : ℕ) → 65536 ≤ s → 65536 ≤ suc n * s
many_times n s h =
    let e : 1 * s ≤ suc n * s = mul-le-mul_right s (omega arith) in
    omega (arith, e, h)

near_times : (n a x : ℕ) → Near a x → Near (n * a) (n * x)
near_times n a x (inl e) = inl (ap (λ (k : ℕ). n * k) e)
near_times zero a x (inr p) = inl (omega arith)
near_times (suc n) a x (inr p) = inr (many_times n a p.0, many_times n x p.1)

near_end : (ts : TheTypes) (a x : ℕ) → Near a x → Near (end_after a ts) (end_after x ts)
near_end no_more a x h = h
near_end (field t ts) a x h =
    near_end ts (round_up a (align_of t) + size_of t) (round_up x (align_of t) + size_of t)
    (near_sum (round_up a (align_of t)) (size_of t) (round_up x (align_of t)) (size_of t) (near_round (align_of t) a x (type_align t) h) (inl refl))

pub near_greatest_end : (args : List TheArgType) (due a x : ℕ) → IsAlign due → Near a x → Near (greatest_end a due args) (greatest_end x due args)
near_greatest_end [] due a x d h = h
near_greatest_end (fixed t ∷ args) due a x d h =
    let m = max due (align_of t) in
    near_greatest_end args 1 (round_up a m + size_of t) (round_up x m + size_of t) align_one
    (near_sum (round_up a m) (size_of t) (round_up x m) (size_of t) (near_round m a x (greater_align due (align_of t) d (type_align t)) h) (inl refl))
near_greatest_end (text bound ∷ args) due a x d h =
    near_greatest_end args 8 (round_up a 8 + (8 + bound)) (round_up x 8 + (8 + bound)) align_eight
    (near_sum (round_up a 8) (8 + bound) (round_up x 8) (8 + bound) (near_round 8 a x align_eight h) (inl refl))
near_greatest_end (sized bound t ∷ args) due a x d h =
    let n = 8 + bound * size_of t in
    near_greatest_end args 8 (round_up a 8 + n) (round_up x 8 + n) align_eight
    (near_sum (round_up a 8) n (round_up x 8) n (near_round 8 a x align_eight h) (inl refl))

-- ---- types

pub measures_array : (count : ℕ) (element m : TypeMeasures) (t : TheType) → Measures element t
    → m.size ≡ min (count * element.size) 65536 → m.align ≡ element.align → m.depth ≡ min (element.depth + 1) 65536 → m.arrays ≡ min (element.arrays + 1) 65536
    → Measures m (array count t)
measures_array count element m t h size align depth arrays = record {
  size = subst (λ (n : ℕ). Near n (count * size_of t)) (sym size) (near_then (min (count * element.size) 65536) (count * element.size) (count * size_of t) (capped (count * element.size)) (near_times count element.size (size_of t) h.size));
  align = align ∙ h.align;
  depth = subst (λ (n : ℕ). Near n (depth_of t + 1)) (sym depth) (near_then (min (element.depth + 1) 65536) (element.depth + 1) (depth_of t + 1) (capped (element.depth + 1)) (near_sum element.depth 1 (depth_of t) 1 h.depth (inl refl)));
  arrays = subst (λ (n : ℕ). Near n (array_depth_of t + 1)) (sym arrays) (near_then (min (element.arrays + 1) 65536) (element.arrays + 1) (array_depth_of t + 1) (capped (element.arrays + 1)) (near_sum element.arrays 1 (array_depth_of t) 1 h.arrays (inl refl)));
  small = omega (arith, size);
  shallow = omega (arith, depth);
  few = omega (arith, arrays);
  aligned = subst IsAlign (sym align) h.aligned;
}

moved : (a b c : ℕ) → max (max b c) a ≡ max c (max b a)
moved a b c = omega arith

near_moved : (next before x left all : ℕ) → Near next x → Near (max (max x left) before) all → Near (max left (max next before)) all
near_moved next before x left all (inl e) h = subst (λ (n : ℕ). Near n all) (omega (arith, e)) h
near_moved next before x left all (inr p) (inl e) = inr (omega (arith, p.0), omega (arith, p.1, e))
near_moved next before x left all (inr p) (inr q) = inr (omega (arith, p.0), q.1)

pub one_more : (before next m : TypeMeasures) (end : ℕ) (t : TheType) (left all : TheTypes) → Measures next t → SoFar before (field t left) all
    → end ≡ round_up before.size next.align → m.size ≡ min (end + next.size) 65536 → m.align ≡ max next.align before.align → m.depth ≡ max next.depth before.depth → m.arrays ≡ max next.arrays before.arrays
    → SoFar m left all
one_more before next m end t left all h f at size align depth arrays =
    let start : end ≡ round_up before.size (align_of t) = at ∙ ap (round_up before.size) h.align in
    let reached : Near m.size (round_up before.size (align_of t) + size_of t) =
    subst (λ (n : ℕ). Near n (round_up before.size (align_of t) + size_of t)) (sym size)
    (near_then (min (end + next.size) 65536) (end + next.size) (round_up before.size (align_of t) + size_of t) (capped (end + next.size))
    (near_sum end next.size (round_up before.size (align_of t)) (size_of t) (inl start) h.size)) in
    let greatest : max (greatest_align left) m.align ≡ max (max (align_of t) (greatest_align left)) before.align =
    omega (arith, align, h.align) in
    record {
      size = near_then (end_after m.size left) (end_after (round_up before.size (align_of t) + size_of t) left) (end_after 0 all) (near_end left m.size (round_up before.size (align_of t) + size_of t) reached) f.size;
      align = greatest ∙ f.align;
      depth = subst (λ (n : ℕ). Near (max (deepest left) n) (deepest all)) (sym depth) (near_moved next.depth before.depth (depth_of t) (deepest left) (deepest all) h.depth f.depth);
      arrays = subst (λ (n : ℕ). Near (max (deepest_array left) n) (deepest_array all)) (sym arrays) (near_moved next.arrays before.arrays (array_depth_of t) (deepest_array left) (deepest_array all) h.arrays f.arrays);
      small = omega (arith, size);
      shallow = omega (arith, depth, h.shallow, f.shallow);
      few = omega (arith, arrays, h.few, f.few);
      aligned = subst IsAlign (sym align) (greater_align next.align before.align h.aligned f.aligned);
    }

-- no field so far
pub at_first : (m : TypeMeasures) (all : TheTypes) → m.size ≡ 0 → m.align ≡ 1 → m.depth ≡ 0 → m.arrays ≡ 0 → SoFar m all all
at_first m all size align depth arrays =
    let some = align_small (greatest_align all) (types_align all) in
    record {
      size = inl (ap (λ (n : ℕ). end_after n all) size);
      align = omega (arith, align, some.0);
      depth = inl (omega (arith, depth));
      arrays = inl (omega (arith, arrays));
      small = omega (arith, size);
      shallow = omega (arith, depth);
      few = omega (arith, arrays);
      aligned = inl align;
    }

-- ---- payloads

pub reaches_fixed : (before after : ArgsEnd) (m : TypeMeasures) (top at end : ℕ) (t : TheType) (left : List TheArgType) (total : ℕ) → Measures m t → Reaches before (fixed t ∷ left) total
    → top ≡ max before.due m.align → at ≡ round_up before.end top → end ≡ at + m.size → after.end ≡ min end 65536 → after.due ≡ 1
    → Reaches after left total
reaches_fixed before after m top at end t left total h r top_is at_is end_is capped_is due =
    let top_of : top ≡ max before.due (align_of t) = top_is ∙ ap (max before.due) h.align in
    let start : at ≡ round_up before.end (max before.due (align_of t)) = at_is ∙ ap (round_up before.end) top_of in
    let goal_end = round_up before.end (max before.due (align_of t)) + size_of t in
    let sum : Near (at + m.size) goal_end = near_sum at m.size (round_up before.end (max before.due (align_of t))) (size_of t) (inl start) h.size in
    let near_end : Near end goal_end = subst (λ (n : ℕ). Near n goal_end) (sym end_is) sum in
    let reached : Near after.end goal_end = subst (λ (n : ℕ). Near n goal_end) (sym capped_is) (near_then (min end 65536) end goal_end (capped end) near_end) in
    record {
      near = subst (λ (d : ℕ). Near (greatest_end after.end d left) total) (sym due) (near_then (greatest_end after.end 1 left) (greatest_end goal_end 1 left) total (near_greatest_end left 1 after.end goal_end align_one reached) r.near);
      small = omega (arith, capped_is);
      aligned = inl due;
    }

pub reaches_counted : (before after : ArgsEnd) (size real : ℕ) (left : List TheArgType) (total : ℕ) → Near size real → IsAlign before.due → Near (greatest_end (round_up before.end 8 + (8 + real)) 8 left) total
    → after.end ≡ min (round_up before.end 8 + (8 + size)) 65536 → after.due ≡ 8
    → Reaches after left total
reaches_counted before after size real left total h d r capped_is due =
    let at = round_up before.end 8 in
    let sum : Near (at + (8 + size)) (at + (8 + real)) = near_sum at (8 + size) at (8 + real) (inl refl) (near_sum 8 size 8 real (inl refl) h) in
    let reached : Near after.end (at + (8 + real)) = subst (λ (n : ℕ). Near n (at + (8 + real))) (sym capped_is) (near_then (min (at + (8 + size)) 65536) (at + (8 + size)) (at + (8 + real)) (capped (at + (8 + size))) sum) in
    record {
      near = subst (λ (n : ℕ). Near (greatest_end after.end n left) total) (sym due) (near_then (greatest_end after.end 8 left) (greatest_end (at + (8 + real)) 8 left) total (near_greatest_end left 8 after.end (at + (8 + real)) align_eight reached) r);
      small = omega (arith, capped_is);
      aligned = subst IsAlign (sym due) align_eight;
    }

pub near_counted : (count size : ℕ) (m : TypeMeasures) (t : TheType) → Measures m t → size ≡ min (count * m.size) 65536 → Near size (count * size_of t)
near_counted count size m t h e = subst (λ (n : ℕ). Near n (count * size_of t)) (sym e) (near_then (min (count * m.size) 65536) (count * m.size) (count * size_of t) (capped (count * m.size)) (near_times count m.size (size_of t) h.size))
