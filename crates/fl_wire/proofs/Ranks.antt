-- Where all ranks of a plan are below one, nothing is left from that one on.
use Rattle.std.proofs.Common.{◌≡◌, ◌≢◌, ℕ, zero, suc, ◌+◌, ◌-◌, ◌<◌, ◌≤◌, inl, ⊎_elim, List, [], ◌∷◌, ◌++◌, length, get_or, refl, ◌∙◌, ap, arith, cond, Bool}
use Rattle.std.specs.List.{zip}
use Rattle.std.proofs.lemmas.Bool.{ne_eqb}
use Rattle.fl_base.specs.declared.fragment.Frag.{Frag}
use Rattle.fl_interface.specs.Interface.{TheArgType, text}
use Rattle.fl_value_data.specs.Value.{Datum}
use Rattle.fl_value_data.specs.Plan.{rank_of, of_rank, of_ranks}
use Rattle.fl_value_data.specs.declared.value.PlanNo.{PlanNo}
use Rattle.fl_value_data.specs.Tape.{Argument, kind}
use Rattle.fl_layout.specs.Leaves.{arguments_onto}
use Rattle.fl_wire.specs.Covered.{is_length}
use Rattle.fl_wire.specs.Shapes.{calls_of, ReadAt}
use Rattle.fl_wire.proofs.Steps.{Come, come_done}
use Rattle.fl_wire.proofs.Calls.{Same, IsRead, FitRead, rank_at, left_from, itself, come_same, all_read}

none_of_rank : (plan : PlanNo) (rank : ℕ) (args : List Argument) → ((t : TheArgType) → rank_of plan t < rank) → of_rank kind plan rank args ≡ []
none_of_rank plan rank [] below = refl
none_of_rank plan rank (a ∷ args) below =
    let other : rank_of plan (kind a) ≢ rank = λ e. absurd (omega (arith, e, below (kind a))) in
    ap (λ (v : Bool). cond v (a ∷ of_rank kind plan rank args) (of_rank kind plan rank args)) (ne_eqb (rank_of plan (kind a)) rank other)
    ∙ none_of_rank plan rank args below

none_of_ranks : (plan : PlanNo) (more rank : ℕ) (args : List Argument) → ((t : TheArgType) → rank_of plan t < rank) → of_ranks kind plan more rank args ≡ []
none_of_ranks plan zero rank args below = refl
none_of_ranks plan (suc more) rank args below =
    ap (λ (xs : List Argument). xs ++ of_ranks kind plan more (rank + 1) args) (none_of_rank plan rank args below)
    ∙ none_of_ranks plan more (rank + 1) args (λ t. omega (arith, below t))

-- what was read of the ranks below one was read of all, and the other way round
read_of_all : (plan : PlanNo) (rank k : ℕ) (ts : List TheArgType) → rank ≤ 5 → IsRead plan rank 0 ts k → IsRead plan 5 0 ts k
read_of_all plan rank k ts few read = ⊎_elim
    (λ (h : rank_at plan ts k < rank). inl (omega (arith, h, few)))
    (λ h. absurd (omega (arith, h.1)))
    read

all_ranks : (plan : PlanNo) (rank : ℕ) (ts : List TheArgType) (vs : List Datum) (after : Bool) → ((t : TheArgType) → rank_of plan t < rank) → rank ≤ 5
    → Same (left_from plan rank ts vs after) (left_from plan 5 ts vs after) itself
all_ranks plan rank ts vs after below few =
    let nothing = λ (e : List Datum). none_of_ranks plan (5 - rank) rank (zip ts e) below in
    record {
      fit = λ e f. (f.0, record { at = λ k h read. f.1.at k h (read_of_all plan rank k ts few read) });
      same = λ e low f. ap (λ (xs : List Argument). arguments_onto after xs low) (nothing e);
      told = λ d f. (d, (refl, (f.0, record { at = λ k h read. f.1.at k h (inl (below (get_or ts k (text 0)))) })));
      alive = λ some. (some.0, (some.1.0, (some.1.1.0, record { at = λ k h read. some.1.1.1.at k h (inl (below (get_or ts k (text 0)))) })));
      lengths = λ e low n f. ap (λ (xs : List Argument). is_length after xs low n) (nothing e);
    }

-- all arguments are read once those of a plan's ranks are
pub ranks_read : (plan : PlanNo) (rank : ℕ) (ts : List TheArgType) (vs : List Datum) (after : Bool) (frags : List Frag) (at : ℕ)
    → ((t : TheArgType) → rank_of plan t < rank) → rank ≤ 5 → length vs ≡ length ts → FitRead plan rank 0 ts vs
    → Come (calls_of plan ts) (left_from plan rank ts vs after) frags 0 at itself → ReadAt (calls_of plan ts) frags 0 vs at
ranks_read plan rank ts vs after frags at below few long fit come =
    let come' = come_same (calls_of plan ts) (left_from plan rank ts vs after) (left_from plan 5 ts vs after) frags 0 at itself itself come (all_ranks plan rank ts vs after below few) in
    let fit' : FitRead plan 5 0 ts vs = record { at = λ k h read. fit.at k h (inl (below (get_or ts k (text 0)))) } in
    come_done (calls_of plan ts) (left_from plan 5 ts vs after) frags 0 at at itself vs come' (omega arith) (all_read plan ts vs after frags at long fit')
