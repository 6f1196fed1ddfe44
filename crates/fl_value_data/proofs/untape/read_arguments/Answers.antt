use Rattle.std.proofs.Common.{◌≡◌, ◌∙◌, [], List, map, sym, subst, true}
use Rattle.fl_interface.specs.Interface.{TheArgType, arg_type_of}
use Rattle.fl_value_data.specs.Value.{datum_of}
use Rattle.fl_value_data.specs.declared.value.PlanNo.{PlanNo}
use Rattle.fl_value_data.specs.declared.value.PlanNo.TheVariants.{One, Two}
use Rattle.fl_value_data.specs.Plan.{arranged, never_falls}
use Rattle.fl_value_data.specs.Taken.{ArgumentAt, InTurn, TheOne, NoneOf, types_of_rank, types_by_ranks}
use Rattle.fl_value_data.proofs.Kept.{kept_types, falls}
use Rattle.fl_value_data.proofs.Ranked.{one_rank, arranged_ranks}
use Rattle.fl_value_data.proofs.Turns.{start_at, weaker_some, weaker_none}
use Rattle.fl_value_data.proofs.untape.read_arguments.Goals as goal

-- where ranks never fall, all are read as one rank
at_once : (plan : PlanNo) (ts : List TheArgType) → never_falls plan ts ≡ true → types_of_rank One 0 ts ≡ arranged (λ (t : TheArgType). t) plan ts
at_once plan ts up = one_rank (λ (t : TheArgType). t) ts ∙ sym (kept_types plan ts up)

pub returns-then-kept-clause-found : goal.returns-then-kept-clause-found
returns-then-kept-clause-found c =
    let ts = map arg_type_of c.args.arguments.now in
    let start = start_at ArgumentAt c.args.tape.now c.in_ok-values.values.items c.in_ok-values.ensures.items in
    weaker_some c.read_rank.result _ (λ r. TheOne (InTurn ArgumentAt (arranged (λ (t : TheArgType). t) c.args.plan ts) c.args.tape.now) (map datum_of r.0.items) r.1.now)
    (λ r one. subst (λ (us : List TheArgType). TheOne (InTurn ArgumentAt us c.args.tape.now) (map datum_of r.0.items) r.1.now) (at_once c.args.plan ts (sym c.requires.kept ∙ c.if-kept.true)) (one [] c.args.tape.now start))
    c.read_rank.ensures.found

pub returns-then-kept-clause-none : goal.returns-then-kept-clause-none
returns-then-kept-clause-none c =
    let ts = map arg_type_of c.args.arguments.now in
    let start = start_at ArgumentAt c.args.tape.now c.in_ok-values.values.items c.in_ok-values.ensures.items in
    weaker_none c.read_rank.result _ (NoneOf (InTurn ArgumentAt (arranged (λ (t : TheArgType). t) c.args.plan ts) c.args.tape.now))
    (λ none. subst (λ (us : List TheArgType). NoneOf (InTurn ArgumentAt us c.args.tape.now)) (at_once c.args.plan ts (sym c.requires.kept ∙ c.if-kept.true)) (none [] c.args.tape.now start))
    c.read_rank.ensures.none

-- else they are read rank by rank
rank_by_rank : (plan : PlanNo) (ts : List TheArgType) → plan ≡ Two → types_by_ranks ts ≡ arranged (λ (t : TheArgType). t) plan ts
rank_by_rank plan ts two = subst (λ (p : PlanNo). types_by_ranks ts ≡ arranged (λ (t : TheArgType). t) p ts) (sym two) (sym (arranged_ranks (λ (t : TheArgType). t) Two ts))

pub returns-clause-found : goal.returns-clause-found
returns-clause-found c =
    let ts = map arg_type_of c.args.arguments.now in
    let order = rank_by_rank c.args.plan ts (falls c.args.plan ts (sym c.requires.kept ∙ c.if-kept.false)) in
    weaker_some c.read_ranks.result _ (λ r. TheOne (InTurn ArgumentAt (arranged (λ (t : TheArgType). t) c.args.plan ts) c.args.tape.now) (map datum_of r.0.items) r.1.now)
    (λ r one. subst (λ (us : List TheArgType). TheOne (InTurn ArgumentAt us c.args.tape.now) (map datum_of r.0.items) r.1.now) order one)
    c.read_ranks.ensures.found

pub returns-clause-none : goal.returns-clause-none
returns-clause-none c =
    let ts = map arg_type_of c.args.arguments.now in
    let order = rank_by_rank c.args.plan ts (falls c.args.plan ts (sym c.requires.kept ∙ c.if-kept.false)) in
    weaker_none c.read_ranks.result _ (NoneOf (InTurn ArgumentAt (arranged (λ (t : TheArgType). t) c.args.plan ts) c.args.tape.now))
    (λ none. subst (λ (us : List TheArgType). NoneOf (InTurn ArgumentAt us c.args.tape.now)) order none)
    c.read_ranks.ensures.none
