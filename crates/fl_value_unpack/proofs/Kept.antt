-- Where the plan keeps the declared order of arguments, and where it doesn't.
use Rattle.std.proofs.Common.{◌≡◌, ℕ, true, List, ◌∷◌, length, refl, sym, ◌∙◌, ap, subst}
use Rattle.std.specs.Prelude.{Result, Ok, Err, IfOk}
use Rattle.std.specs.List.{zip}
use Rattle.fl_interface.specs.declared.interface.Scalar.TheVariants.{Uint64}
use Rattle.fl_interface.specs.Interface.{TheArgType, scalar, fixed}
use Rattle.fl_value_data.specs.declared.value.PlanNo.{PlanNo}
use Rattle.fl_value_data.specs.declared.value.PlanNo.TheVariants.{One, Two}
use Rattle.fl_value_data.specs.Value.{Datum}
use Rattle.fl_value_data.specs.Plan.{arranged, rising, never_falls}
use Rattle.fl_value_data.specs.Tape.{kind, values_of}
use Rattle.fl_value_data.specs.Taken.{InTurn, types_by_ranks, planned_types}
use Rattle.fl_value_data.proofs.Kept.{kept_types, kept_arguments}
use Rattle.fl_value_data.proofs.Ranked.{arranged_ranks, seconds_arranged}
use Rattle.fl_value_unpack.specs.Reading.{PackedArgumentAt, OnlyOne}

-- a uint64 in front tells nothing of the ranks
pub wide_rises : (t : TheArgType) (ts : List TheArgType) → t ≡ fixed (scalar Uint64) → rising (λ (u : TheArgType). u) 0 (t ∷ ts) ≡ rising (λ (u : TheArgType). u) 0 ts
wide_rises t ts e = ap (λ (v : TheArgType). rising (λ (u : TheArgType). u) 0 (v ∷ ts)) e

-- so the arguments behind such ones tell it
pub kept_all : (plan : PlanNo) (us ts : List TheArgType) → rising (λ (u : TheArgType). u) 0 us ≡ rising (λ (u : TheArgType). u) 0 ts → never_falls plan us ≡ true → never_falls plan ts ≡ true
kept_all One us ts same up = refl
kept_all Two us ts same up = sym same ∙ up

pub in_declared_order : (plan : PlanNo) (ts : List TheArgType) (tape : List ℕ) (ds : List Datum) (rest : List ℕ) → never_falls plan ts ≡ true → length ds ≡ length ts
    → OnlyOne (InTurn PackedArgumentAt ts tape) ds rest → OnlyOne (InTurn PackedArgumentAt (planned_types plan ts) tape) (values_of (arranged kind plan (zip ts ds))) rest
in_declared_order plan ts tape ds rest up long one =
    let values : values_of (arranged kind plan (zip ts ds)) ≡ ds = ap values_of (kept_arguments plan ts ds up) ∙ seconds_arranged One ts ds long in
    subst (λ (us : List TheArgType). OnlyOne (InTurn PackedArgumentAt us tape) (values_of (arranged kind plan (zip ts ds))) rest) (sym (kept_types plan ts up))
    (subst (λ (es : List Datum). OnlyOne (InTurn PackedArgumentAt ts tape) es rest) (sym values) one)

pub by_ranks_of : (plan : PlanNo) (ts : List TheArgType) (tape : List ℕ) (ds : List Datum) (rest : List ℕ) → plan ≡ Two
    → OnlyOne (InTurn PackedArgumentAt (types_by_ranks ts) tape) (values_of (arranged kind Two (zip ts ds))) rest
    → OnlyOne (InTurn PackedArgumentAt (planned_types plan ts) tape) (values_of (arranged kind plan (zip ts ds))) rest
by_ranks_of plan ts tape ds rest two one =
    subst (λ (p : PlanNo). OnlyOne (InTurn PackedArgumentAt (planned_types p ts) tape) (values_of (arranged kind p (zip ts ds))) rest) (sym two)
    (subst (λ (us : List TheArgType). OnlyOne (InTurn PackedArgumentAt us tape) (values_of (arranged kind Two (zip ts ds))) rest) (sym (arranged_ranks (λ (t : TheArgType). t) Two ts)) one)

-- two things that hold of what there is tell a third
pub if_both : {X Y : Type 0} (r : Result X Y) (P Q R : X → Type 0) → ((x : X) → P x → Q x → R x) → IfOk r P → IfOk r Q → IfOk r R
if_both (Ok x) P Q R f p q = f x p q
if_both (Err e) P Q R f p q = tt
