-- How many numbers a value has: at most as many as bytes; and counted field by field.
use Rattle.std.proofs.Common.{◌≡◌, ℕ, ◌+◌, ◌*◌, ◌<◌, ◌≤◌, List, map, drop, length, get_or, sym, ◌∙◌, ap, arith}
use Rattle.std.proofs.Math.Nat.{mul-le-mul_right}
use Rattle.fl_interface.specs.Interface.{TheType, scalar, enumeration, structure, array, TheTypes, no_more, field, fields_from}
use Rattle.fl_interface.specs.Sizes.{size_of, align_of, greatest_align, end_after, round_up, scalar_size}
use Rattle.fl_layout.specs.Extents.{numbers_of, numbers_of_all}
use Rattle.fl_interface.proofs.FieldSizes.{rest_is}
use Rattle.fl_interface.proofs.Aligned.{round_least, align_small, scalar_align}

pub times_more : (k m n : ℕ) → m ≤ n → k * m ≤ k * n
times_more k m n h = let e : m * k ≤ n * k = mul-le-mul_right k h in omega (arith, e)

mutual
  pub numbers_small : (t : TheType) → numbers_of t ≤ size_of t
  numbers_small (scalar s) = (align_small (scalar_size s) (scalar_align s)).0
  numbers_small (enumeration n) = omega arith
  numbers_small (structure ts) = omega (arith, all_small ts 0, round_least (greatest_align ts) (end_after 0 ts))
  numbers_small (array n t) = times_more n (numbers_of t) (size_of t) (numbers_small t)

  pub all_small : (ts : TheTypes) (at : ℕ) → at + numbers_of_all ts ≤ end_after at ts
  all_small no_more at = omega arith
  all_small (field t ts) at =
      omega (arith, numbers_small t, round_least (align_of t) at, all_small ts (round_up at (align_of t) + size_of t))

-- what a loop over fields counts: the numbers so far, those of the next field, and those of the others
pub next_numbers : {F : Type 0} (type : F → TheType) (fs : List F) (k numbers : ℕ) (f : F) → k < length fs → f ≡ get_or fs k f
    → numbers + numbers_of_all (fields_from (map type (drop k fs))) ≡ numbers_of_all (fields_from (map type fs))
    → numbers + numbers_of (type f) + numbers_of_all (fields_from (map type (drop (k + 1) fs))) ≡ numbers_of_all (fields_from (map type fs))
next_numbers type fs k numbers f h e so_far =
    let counted : numbers + (numbers_of (type f) + numbers_of_all (fields_from (map type (drop (k + 1) fs)))) ≡ numbers_of_all (fields_from (map type fs))
    = sym (ap (λ (x : TheTypes). numbers + numbers_of_all x) (rest_is type fs k f h e)) ∙ so_far in
    omega (arith, counted)
