-- Numbers from their low bytes, and arguments of a rank by their index.
use Rattle.std.proofs.Common.{◌≡◌, ◌≢◌, ℕ, zero, suc, ◌+◌, ◌^◌, ◌<◌, ◌≤◌, Bool, ⊎_elim, List, [], ◌∷◌, map, length, get_or, drop, ◌∙◌, ap, subst, arith, cond, ltb, eq-eqb}
use Rattle.std.specs.List.{range_with_len}
use Rattle.std.specs.Int.{byte_at, from_le_bytes, w64}
use Rattle.std.proofs.lemmas.List.{drop_more}
use Rattle.std.proofs.lemmas.Nat.{from_le_bytes-to_le_bytes_8}
use Rattle.std.proofs.lemmas.Bool.{cases_lt, ne_eqb}
use Rattle.fl_interface.specs.Interface.{text}
use Rattle.fl_value_data.specs.Value.{string}
use Rattle.fl_value_data.specs.declared.value.PlanNo.{PlanNo}
use Rattle.fl_value_data.specs.Plan.{rank_of, of_rank}
use Rattle.fl_value_data.specs.Tape.{Argument, kind}

-- the number whose low bytes are given
abbrev pub from_low : ℕ → (ℕ → ℕ) → ℕ
from_low w f = from_le_bytes w64 (map (λ j. cond (ltb j w) (f j) 0) (range_with_len 0 8))

-- the first byte with which a number reaches a bound
pub first_wrong : (k : ℕ) (f : ℕ → ℕ) (bound : ℕ) → 0 < bound → bound ≤ from_low k f → (j : ℕ) × ((j < k) × ((from_low j f < bound) × (bound ≤ from_low (j + 1) f)))
first_wrong zero f bound some h = absurd (omega (arith, some, h))
first_wrong (suc k) f bound some h = ⊎_elim
    (λ (here : from_low k f < bound). (k, (omega arith, (here, subst (λ (m : ℕ). bound ≤ from_low m f) one_more h))))
    (λ (before : bound ≤ from_low k f). let (j, (own, rest)) = first_wrong k f bound some before in (j, (omega (arith, own), rest)))
    (cases_lt (from_low k f) bound)
  where
    one_more : suc k ≡ k + 1
    one_more = omega arith

-- the first bytes of a number make no greater one
prefix_of : (k : ℕ) (f b : ℕ → ℕ) → k ≤ 8 → ((j : ℕ) → j < k → b j ≡ f j) → from_low k f ≤ from_low 8 b
prefix_of zero f b few h = omega arith
prefix_of (suc zero) f b few h = omega (arith, h 0 (omega arith))
prefix_of (suc (suc zero)) f b few h = omega (arith, h 0 (omega arith), h 1 (omega arith))
prefix_of (suc (suc (suc zero))) f b few h = omega (arith, h 0 (omega arith), h 1 (omega arith), h 2 (omega arith))
prefix_of (suc (suc (suc (suc zero)))) f b few h = omega (arith, h 0 (omega arith), h 1 (omega arith), h 2 (omega arith), h 3 (omega arith))
prefix_of (suc (suc (suc (suc (suc zero))))) f b few h = omega (arith, h 0 (omega arith), h 1 (omega arith), h 2 (omega arith), h 3 (omega arith), h 4 (omega arith))
prefix_of (suc (suc (suc (suc (suc (suc zero)))))) f b few h =
    omega (arith, h 0 (omega arith), h 1 (omega arith), h 2 (omega arith), h 3 (omega arith), h 4 (omega arith), h 5 (omega arith))
prefix_of (suc (suc (suc (suc (suc (suc (suc zero))))))) f b few h =
    omega (arith, h 0 (omega arith), h 1 (omega arith), h 2 (omega arith), h 3 (omega arith), h 4 (omega arith), h 5 (omega arith), h 6 (omega arith))
prefix_of (suc (suc (suc (suc (suc (suc (suc (suc zero)))))))) f b few h =
    omega (arith, h 0 (omega arith), h 1 (omega arith), h 2 (omega arith), h 3 (omega arith), h 4 (omega arith), h 5 (omega arith), h 6 (omega arith), h 7 (omega arith))
prefix_of (suc (suc (suc (suc (suc (suc (suc (suc (suc k))))))))) f b few h = absurd (omega (arith, few))

pub prefix_le : (k e : ℕ) (f : ℕ → ℕ) → k ≤ 8 → e < 2 ^ 64 → ((j : ℕ) → j < k → byte_at j e ≡ f j) → from_low k f ≤ e
prefix_le k e f few small h =
    let all : from_low 8 (λ j. byte_at j e) ≡ e = from_le_bytes-to_le_bytes_8 e small in
    subst (λ (m : ℕ). from_low k f ≤ m) all (prefix_of k f (λ j. byte_at j e) few h)

pub none_such : Argument
none_such = (text 0, string [])

pub rank_here : (plan : PlanNo) (rank j : ℕ) (args : List Argument) (d : Argument) → j < length args → rank_of plan (get_or args j d).0 ≡ rank
    → of_rank kind plan rank (drop j args) ≡ get_or args j d ∷ of_rank kind plan rank (drop (j + 1) args)
rank_here plan rank j args d small e =
    ap (of_rank kind plan rank) (drop_more args j d small)
    ∙ ap (λ (v : Bool). cond v (get_or args j d ∷ of_rank kind plan rank (drop (j + 1) args)) (of_rank kind plan rank (drop (j + 1) args))) (eq-eqb (rank_of plan (get_or args j d).0) rank e)

pub rank_elsewhere : (plan : PlanNo) (rank j : ℕ) (args : List Argument) (d : Argument) → j < length args → rank_of plan (get_or args j d).0 ≢ rank
    → of_rank kind plan rank (drop j args) ≡ of_rank kind plan rank (drop (j + 1) args)
rank_elsewhere plan rank j args d small e =
    ap (of_rank kind plan rank) (drop_more args j d small)
    ∙ ap (λ (v : Bool). cond v (get_or args j d ∷ of_rank kind plan rank (drop (j + 1) args)) (of_rank kind plan rank (drop (j + 1) args))) (ne_eqb (rank_of plan (get_or args j d).0) rank e)
