use Rattle.std.proofs.Common.{◌≡◌, ◌≢◌, ◌<◌, ◌≤◌, ◌+◌, ◌++◌, [], ◌∷◌, ℕ, List, length, map, drop, get_or, eqb, eq-eqb, refl, ap, sym, ◌∙◌, append-nil, append_assoc}
use Rattle.std.proofs.lemmas.Bool.{cond-true, cond-false, ltb-true, ltb-false, ne_eqb}
use Rattle.std.proofs.lemmas.List.{drop_all}
use Rattle.std.specs.List.{zip, flat_map}
use Rattle.fl_interface.specs.declared.interface.ArgType.{ArgType}
use Rattle.fl_interface.specs.Interface.{TheArgType, arg_type_of}
use Rattle.fl_value_data.specs.declared.value.PlanNo.{PlanNo}
use Rattle.fl_value_data.specs.declared.value.Value.{Value}
use Rattle.fl_value_data.specs.Value.{Datum, datum_of}
use Rattle.fl_value_data.specs.Plan.{rank_of, of_rank}
use Rattle.fl_value_data.specs.Tape.{Argument, kind}
use Rattle.fl_value_tape.specs.Packed.{argument_packed, packed_argument, rank_packed}
use Rattle.fl_value_data.proofs.Turns.{map_dropped}
use Rattle.fl_value_tape.proofs.packing.push_rank.Goals as goal

-- what the arguments from one on put
abbrev left : PlanNo → ℕ → List ArgType → List Value → ℕ → List ℕ
left plan rank types values k = rank_packed plan rank (zip (map arg_type_of (drop k types)) (map datum_of (drop k values)))

next_left : (plan : PlanNo) (rank : ℕ) (types : List ArgType) (values : List Value) (k : ℕ) (type : ArgType) (value : Value) → k < length types → type ≡ get_or types k type → k < length values → value ≡ get_or values k value
    → left plan rank types values k ≡ rank_packed plan rank ((arg_type_of type, datum_of value) ∷ zip (map arg_type_of (drop (k + 1) types)) (map datum_of (drop (k + 1) values)))
next_left plan rank types values k type value here is there as_well =
    ap (λ (ts : List TheArgType). rank_packed plan rank (zip ts (map datum_of (drop k values)))) (map_dropped arg_type_of types k type here is)
    ∙ ap (λ (ds : List Datum). rank_packed plan rank (zip (arg_type_of type ∷ map arg_type_of (drop (k + 1) types)) ds)) (map_dropped datum_of values k value there as_well)

in_it : (plan : PlanNo) (rank : ℕ) (type : TheArgType) (value : Datum) (rest : List Argument) → rank_of plan type ≡ rank → rank_packed plan rank ((type, value) ∷ rest) ≡ argument_packed type value ++ rank_packed plan rank rest
in_it plan rank type value rest e =
    let others = of_rank kind plan rank rest in
    ap (flat_map packed_argument) (cond-true (eqb (rank_of plan type) rank) ((type, value) ∷ others) others (eq-eqb (rank_of plan type) rank e))

not_in_it : (plan : PlanNo) (rank : ℕ) (type : TheArgType) (value : Datum) (rest : List Argument) → rank_of plan type ≢ rank → rank_packed plan rank ((type, value) ∷ rest) ≡ rank_packed plan rank rest
not_in_it plan rank type value rest e =
    let others = of_rank kind plan rank rest in
    ap (flat_map packed_argument) (cond-false (eqb (rank_of plan type) rank) ((type, value) ∷ others) others (ne_eqb (rank_of plan type) rank e))

no_values : (plan : PlanNo) (rank : ℕ) (types : List TheArgType) → rank_packed plan rank (zip types []) ≡ []
no_values plan rank [] = refl
no_values plan rank (t ∷ types) = refl

no_types : (plan : PlanNo) (rank : ℕ) (values : List Datum) → rank_packed plan rank (zip [] values) ≡ []
no_types plan rank [] = refl
no_types plan rank (d ∷ values) = refl

done : (tape rest whole : List ℕ) → tape ++ rest ≡ whole → rest ≡ [] → tape ≡ whole
done tape rest whole all none = sym (append-nil tape) ∙ ap (λ (xs : List ℕ). tape ++ xs) (sym none) ∙ all

one_more : (tape pushed one before rest whole : List ℕ) → pushed ≡ tape ++ one → before ≡ one ++ rest → tape ++ before ≡ whole → pushed ++ rest ≡ whole
one_more tape pushed one before rest whole is split all =
    ap (λ (xs : List ℕ). xs ++ rest) is ∙ append_assoc tape one rest ∙ ap (λ (xs : List ℕ). tape ++ xs) (sym split) ∙ all

pub loop-index-init : goal.loop-index-init
loop-index-init c = refl

pub returns-in_default : goal.returns-in_default
returns-in_default c =
    let k = c.loop-index.index in
    let types = c.args.arguments.now in
    let values = c.args.values.now in
    let past : length values ≤ k = ltb-false k (length values) (sym c.in_default.ensures.lookup.0) in
    let none : left c.args.plan c.args.rank types values k ≡ []
    = ap (λ (vs : List Value). rank_packed c.args.plan c.args.rank (zip (map arg_type_of (drop k types)) (map datum_of vs))) (drop_all k values past) ∙ no_values c.args.plan c.args.rank (map arg_type_of (drop k types)) in
    record { packed = done c.loop-index.out.items (left c.args.plan c.args.rank types values k) _ c.loop-index.invariant none }

pub loop-index-preserved-then-rank_of-rank : goal.loop-index-preserved-then-rank_of-rank
loop-index-preserved-then-rank_of-rank c =
    let k = c.loop-index.index in
    let types = c.args.arguments.now in
    let values = c.args.values.now in
    let type = c.index-arguments-index.result in
    let value = c.in-Some.value.now in
    let there = ltb-true k (length values) (sym c.in-Some.ensures.lookup.0) in
    let split : left c.args.plan c.args.rank types values k ≡ left c.args.plan c.args.rank types values (k + 1)
    = next_left c.args.plan c.args.rank types values k type value c.loop-index-test.true c.index-arguments-index.is there c.in-Some.ensures.lookup.1
    ∙ not_in_it c.args.plan c.args.rank (arg_type_of type) (datum_of value) _ (λ e. c.if-rank_of-rank.true (c.rank_of.ensures.same ∙ e)) in
    ap (λ (xs : List ℕ). c.loop-index.out.items ++ xs) (sym split) ∙ c.loop-index.invariant

pub loop-index-preserved : goal.loop-index-preserved
loop-index-preserved c =
    let k = c.loop-index.index in
    let types = c.args.arguments.now in
    let values = c.args.values.now in
    let type = c.index-arguments-index.result in
    let value = c.in-Some.value.now in
    let there = ltb-true k (length values) (sym c.in-Some.ensures.lookup.0) in
    let split : left c.args.plan c.args.rank types values k ≡ argument_packed (arg_type_of type) (datum_of value) ++ left c.args.plan c.args.rank types values (k + 1)
    = next_left c.args.plan c.args.rank types values k type value c.loop-index-test.true c.index-arguments-index.is there c.in-Some.ensures.lookup.1
    ∙ in_it c.args.plan c.args.rank (arg_type_of type) (datum_of value) _ (sym c.rank_of.ensures.same ∙ c.if-rank_of-rank.false) in
    one_more c.loop-index.out.items c.push_argument.new.out.items (argument_packed (arg_type_of type) (datum_of value)) (left c.args.plan c.args.rank types values k) (left c.args.plan c.args.rank types values (k + 1)) _
    c.in_ok-push_argument.ensures.packed split c.loop-index.invariant

pub returns : goal.returns
returns c =
    let k = c.loop-index.index in
    let types = c.args.arguments.now in
    let values = c.args.values.now in
    let none : left c.args.plan c.args.rank types values k ≡ []
    = ap (λ (ts : List ArgType). rank_packed c.args.plan c.args.rank (zip (map arg_type_of ts) (map datum_of (drop k values)))) (drop_all k types c.loop-index-test.false) ∙ no_types c.args.plan c.args.rank (map datum_of (drop k values)) in
    record { packed = done c.loop-index.out.items (left c.args.plan c.args.rank types values k) _ c.loop-index.invariant none }
