-- A part of a struct is no longer than the struct.
use Rattle.std.proofs.Common.{◌≡◌, ℕ, zero, suc, ◌+◌, ◌*◌, ◌<◌, ◌≤◌, ◌^◌, List, ◌∷◌, map, drop, length, get_or, sym, ◌∙◌, ap, arith}
use Rattle.std.proofs.Math.Seq.{drop-cons}
use Rattle.fl_interface.specs.Interface.{TheType, structure, TheTypes, no_more, field, fields_from}
use Rattle.fl_interface.specs.Sizes.{size_of, align_of, greatest_align, end_after, round_up}

-- what follows never ends earlier
pub end_least : (ts : TheTypes) (at : ℕ) → at ≤ end_after at ts
end_least no_more at = omega arith
end_least (field t ts) at = omega (arith, end_least ts (round_up at (align_of t) + size_of t))

-- the fields from one on
pub rest_is : {F : Type 0} (type : F → TheType) (fs : List F) (k : ℕ) (f : F) → k < length fs → f ≡ get_or fs k f
    → fields_from (map type (drop k fs)) ≡ field (type f) (fields_from (map type (drop (k + 1) fs)))
rest_is {F = F} type fs k f h e =
    let split : drop k fs ≡ get_or fs k f ∷ drop (suc k) fs = drop-cons fs k f h in
    let one : suc k ≡ k + 1 = omega arith in
    ap (λ (xs : List F). fields_from (map type xs))
    (split ∙ ap (λ (n : ℕ). get_or fs k f ∷ drop n fs) one ∙ ap (λ (g : F). g ∷ drop (k + 1) fs) (sym e))

-- a field of a struct whose size fits, where the fields before it end
pub record FieldFits {F : Type 0} (type : F → TheType) (fs : List F) (k end : ℕ) (f : F) : Type 0 where
  pub start : round_up end (align_of (type f)) < 2 ^ 32
  pub size : size_of (type f) < 2 ^ 32
  pub ended : round_up end (align_of (type f)) + size_of (type f) < 2 ^ 32
  pub next : end_after (round_up end (align_of (type f)) + size_of (type f)) (fields_from (map type (drop (k + 1) fs))) ≡ end_after 0 (fields_from (map type fs))

pub field_fits : {F : Type 0} (type : F → TheType) (fs : List F) (k end : ℕ) (f : F) → k < length fs → f ≡ get_or fs k f
    → size_of (structure (fields_from (map type fs))) < 2 ^ 32
    → end_after end (fields_from (map type (drop k fs))) ≡ end_after 0 (fields_from (map type fs)) → FieldFits type fs k end f
field_fits {F = F} type fs k end f h e fits so_far =
    let all = fields_from (map type fs) in
    let ts = fields_from (map type (drop (k + 1) fs)) in
    let ended : end_after end (field (type f) ts) ≡ end_after 0 all = sym (ap (end_after end) (rest_is type fs k f h e)) ∙ so_far in
    let least = end_least ts (round_up end (align_of (type f)) + size_of (type f)) in
    let whole : round_up (end_after 0 all) (greatest_align all) < 2 ^ 32 = fits in
    record {
      start = omega (arith, least, whole, ended);
      size = omega (arith, least, whole, ended);
      ended = omega (arith, least, whole, ended);
      next = ended;
    }

-- an array's element, where there is one
pub element_fits : (n size : ℕ) → 1 ≤ n → n * size < 2 ^ 32 → size < 2 ^ 32
element_fits zero size some h = absurd (omega (arith, some))
element_fits (suc n) size some h = let e : suc n * size ≡ size + n * size = omega arith in omega (arith, e, h)
