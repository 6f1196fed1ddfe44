-- The order in which a plan lays a call's arguments out, said in two ways: as it is read (`arranged`), and rank by rank
-- (`by_ranks`), as all code goes through it. That the two are one order is a law (`RankByRank`).
use Rattle.std.specs.Prelude.{◌≡◌, ℕ, zero, suc, ◌+◌, ◌==◌, ◌&&◌, nat_eq, nat_le, Bool, true, false, if◌then◌else◌, List, [], ◌∷◌, ◌++◌, filter}
use Rattle.fl_interface.specs.Interface.{TheArgType, fixed, text, sized}
use Rattle.fl_interface.specs.Sizes.{align_of}
use Rattle.fl_value_data.specs.declared.value.PlanNo.{PlanNo}
use Rattle.fl_value_data.specs.declared.value.PlanNo.TheVariants.{One, Two}

-- a fixed argument of this alignment
abbrev pub is_fixed_at : ℕ → TheArgType → Bool
is_fixed_at align (fixed t) = align_of t == align
is_fixed_at align t = false

-- a string or a sized array
abbrev pub is_dynamic : TheArgType → Bool
is_dynamic (fixed t) = false
is_dynamic t = true

-- plan 1 keeps the declared order; in plan 2 the fixed arguments go first, in falling alignment, ties
-- as declared, then the others as declared. What is arranged is anything that has an argument's type.
abbrev pub arranged : {A : Type 0} → (A → TheArgType) → PlanNo → List A → List A
arranged type One args = args
arranged type Two args =
    filter (λ a. is_fixed_at 8 (type a)) args ++ filter (λ a. is_fixed_at 4 (type a)) args
    ++ filter (λ a. is_fixed_at 2 (type a)) args ++ filter (λ a. is_fixed_at 1 (type a)) args
    ++ filter (λ a. is_dynamic (type a)) args

-- ---- rank by rank

-- the rank of fixed arguments of an alignment under plan 2
abbrev pub fixed_rank : ℕ → ℕ
fixed_rank align = if align == 8 then 0 else (if align == 4 then 1 else (if align == 2 then 2 else 3))

-- an argument's rank: under plan 1 all have one; under plan 2 fixed arguments by falling alignment, then the others
abbrev pub rank_of : PlanNo → TheArgType → ℕ
rank_of One t = 0
rank_of Two (fixed t) = fixed_rank (align_of t)
rank_of Two (text max) = 4
rank_of Two (sized max t) = 4

-- what has this rank, as declared
abbrev pub of_rank : {A : Type 0} → (A → TheArgType) → PlanNo → ℕ → List A → List A
of_rank type plan rank args = filter (λ a. nat_eq (rank_of plan (type a)) rank) args

-- what has one of so many ranks, from one on, rank by rank
abbrev pub of_ranks : {A : Type 0} → (A → TheArgType) → PlanNo → ℕ → ℕ → List A → List A
of_ranks type plan zero rank args = []
of_ranks type plan (suc more) rank args = of_rank type plan rank args ++ of_ranks type plan more (rank + 1) args

-- what has rank 0, then what has rank 1, and so on up to rank 4, the last
abbrev pub by_ranks : {A : Type 0} → (A → TheArgType) → PlanNo → List A → List A
by_ranks type plan args = of_ranks type plan 5 0 args

-- the plan's order is rank by rank
abbrev pub RankByRank : Type 0
RankByRank = (plan : PlanNo) (types : List TheArgType) → arranged (λ t. t) plan types ≡ by_ranks (λ t. t) plan types

-- ---- where the plan's order is the declared one

-- no rank is below a least one, nor below one before it
abbrev pub rising : {A : Type 0} → (A → TheArgType) → ℕ → List A → Bool
rising type least [] = true
rising type least (arg ∷ args) = nat_le least (rank_of Two (type arg)) && rising type (rank_of Two (type arg)) args

-- the ranks never fall: the plan then keeps the declared order
abbrev pub never_falls : PlanNo → List TheArgType → Bool
never_falls One types = true
never_falls Two types = rising (λ t. t) 0 types
