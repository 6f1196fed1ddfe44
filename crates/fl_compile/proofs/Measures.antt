-- Parts of a type that is small.
use Rattle.std.proofs.Common.{◌≡◌, ℕ, zero, suc, ◌+◌, ◌*◌, ◌<◌, ◌≤◌, true, ◌&&◌, List, [], map, drop, length, get_or, sym, ◌∙◌, ap, subst, arith}
use Rattle.std.proofs.lemmas.List.{drop_all}
use Rattle.std.proofs.lemmas.Bool.{and_parts, leb-true}
use Rattle.fl_interface.specs.Interface.{TheType, structure, array, field, fields_from}
use Rattle.fl_interface.specs.Sizes.{size_of, align_of, greatest_align, end_after, round_up}
use Rattle.fl_interface.specs.Limits.{is_well_made, are_well_made}
use Rattle.fl_interface.proofs.Aligned.{round_least}
use Rattle.fl_interface.proofs.FieldSizes.{end_least, rest_is}

-- ---- parts of a small type

least_part : (n size : ℕ) → 1 ≤ n → n * size ≤ 4096 → size ≤ 4096
least_part zero size some h = absurd (omega (arith, some))
least_part (suc n) size some h = let e : suc n * size ≡ size + n * size = omega arith in omega (arith, e, h)

-- an array's element
pub element_made : (n : ℕ) (t : TheType) → is_well_made (array n t) ≡ true → is_well_made t ≡ true
element_made n t h = (and_parts _ _ (and_parts _ _ h).1).1

pub element_small : (n : ℕ) (t : TheType) → is_well_made (array n t) ≡ true → size_of (array n t) ≤ 4096 → size_of t ≤ 4096
element_small n t h small = least_part n (size_of t) (leb-true 1 n (and_parts _ _ h).0) small

-- what a loop over fields knows before field k: where they ended so far
pub record Before {F : Type 0} (type : F → TheType) (fs : List F) (k end : ℕ) : Type 0 where
  pub ended : end_after end (fields_from (map type (drop k fs))) ≡ end_after 0 (fields_from (map type fs))
  pub made : are_well_made (fields_from (map type (drop k fs))) ≡ true

-- and of field k of a small struct
pub record Field {F : Type 0} (type : F → TheType) (fs : List F) (k end : ℕ) (f : F) : Type 0 where
  pub made : is_well_made (type f) ≡ true
  pub before : end ≤ 4096
  pub size : size_of (type f) ≤ 4096
  pub after : round_up end (align_of (type f)) + size_of (type f) ≤ 4096
  pub next : Before type fs (k + 1) (round_up end (align_of (type f)) + size_of (type f))

pub field_at : {F : Type 0} (type : F → TheType) (fs : List F) (k end : ℕ) (f : F) → k < length fs → f ≡ get_or fs k f
    → size_of (structure (fields_from (map type fs))) ≤ 4096 → Before type fs k end → Field type fs k end f
field_at {F = F} type fs k end f h e small b =
    let all = fields_from (map type fs) in
    let ts = fields_from (map type (drop (k + 1) fs)) in
    let is = rest_is type fs k f h e in
    let ended : end_after end (field (type f) ts) ≡ end_after 0 all = sym (ap (end_after end) is) ∙ b.ended in
    let made : (is_well_made (type f) && are_well_made ts) ≡ true = sym (ap are_well_made is) ∙ b.made in
    let both = and_parts (is_well_made (type f)) (are_well_made ts) made in
    let least = end_least ts (round_up end (align_of (type f)) + size_of (type f)) in
    let top = round_least (greatest_align all) (end_after 0 all) in
    let up = round_least (align_of (type f)) end in
    let whole : round_up (end_after 0 all) (greatest_align all) ≤ 4096 = small in
    record {
      made = both.0;
      before = omega (arith, least, top, up, whole, ended);
      size = omega (arith, least, top, up, whole, ended);
      after = omega (arith, least, top, whole, ended);
      next = record { ended = ended; made = both.1 };
    }

-- what a loop knows of the next field, by the numbers that it has
pub next_field : {F : Type 0} (type : F → TheType) (fs : List F) (k end : ℕ) (f : F) (after : ℕ) → Field type fs k end f
    → after ≡ round_up end (align_of (type f)) + size_of (type f) → Before type fs (k + 1) after
next_field type fs k end f after h is = subst (λ (n : ℕ). Before type fs (k + 1) n) (sym is) h.next

-- after the last field
pub at_last : {F : Type 0} (type : F → TheType) (fs : List F) (k end : ℕ) → length fs ≤ k → size_of (structure (fields_from (map type fs))) ≤ 4096
    → Before type fs k end → end ≤ 4096
at_last {F = F} type fs k end h small b =
    let none : drop k fs ≡ [] = drop_all k fs h in
    let all = fields_from (map type fs) in
    let ended : end ≡ end_after 0 all = sym (ap (λ (xs : List F). end_after end (fields_from (map type xs))) none) ∙ b.ended in
    let top = round_least (greatest_align all) (end_after 0 all) in
    let whole : round_up (end_after 0 all) (greatest_align all) ≤ 4096 = small in
    omega (arith, top, whole, ended)
