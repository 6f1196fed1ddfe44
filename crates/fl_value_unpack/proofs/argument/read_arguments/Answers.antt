use Rattle.std.proofs.Common.{◌≡◌, ◌+◌, ◌-◌, ◌≤◌, ◌++◌, ℕ, true, List, length, map, take, drop, vec_len, sym, ◌∙◌, ap, subst, arith}
use Rattle.std.specs.List.{zip}
use Rattle.std.proofs.lemmas.Result.{IfOk-weaker}
use Rattle.std.proofs.lemmas.List.{take_all, length-map, length-drop, map-append, take-append-drop}
use Rattle.fl_interface.specs.declared.interface.ArgType.{ArgType}
use Rattle.fl_interface.specs.Interface.{TheArgType, arg_type_of}
use Rattle.fl_value_data.specs.declared.value.PlanNo.TheVariants.{Two}
use Rattle.fl_value_data.specs.Value.{datum_of}
use Rattle.fl_value_data.specs.Plan.{arranged, rising, never_falls}
use Rattle.fl_value_data.specs.Tape.{kind, values_of}
use Rattle.fl_value_data.specs.Taken.{InTurn, types_by_ranks, planned_types}
use Rattle.fl_value_data.proofs.Kept.{falls}
use Rattle.fl_value_unpack.specs.Reading.{PackedArgumentAt, OnlyOne, MoreOnly}
use Rattle.fl_value_unpack.proofs.Kept.{kept_all, in_declared_order, by_ranks_of, if_both}
use Rattle.fl_value_unpack.proofs.argument.read_arguments.Goals as goal

-- the arguments behind so many, as the code cuts them off
cut : (arguments : List ArgType) (n : ℕ) → n ≤ length arguments → take (length arguments - n) (drop n arguments) ≡ drop n arguments
cut arguments n inside = take_all (length arguments - n) (drop n arguments) (omega (arith, length-drop n arguments))

joined : (arguments : List ArgType) (n : ℕ) → map arg_type_of (take n arguments) ++ map arg_type_of (drop n arguments) ≡ map arg_type_of arguments
joined arguments n = sym (map-append arg_type_of (take n arguments) (drop n arguments)) ∙ ap (map arg_type_of) (take-append-drop n arguments)

pub read_others-requires : goal.read_others-requires
read_others-requires c =
    let arguments = c.args.arguments.now in
    let e = c.in_ok-values.ensures in
    let inside : c.len.result ≤ length arguments = omega (arith, c.len.ensures, e.inside) in
    record { room = omega (arith, c.len.ensures, e.inside, e.room, ap length (cut arguments c.len.result inside), length-drop c.len.result arguments) }

pub returns-then-kept-clause-many : goal.returns-then-kept-clause-many
returns-then-kept-clause-many c =
    let arguments = c.args.arguments.now in
    let e = c.in_ok-values.ensures in
    let inside : c.len.result ≤ length arguments = omega (arith, c.len.ensures, e.inside) in
    let others = take (length arguments - c.len.result) (drop c.len.result arguments) in
    let all : length c.in_ok-values.values.items + length others ≡ length arguments
    = omega (arith, c.len.ensures, e.few, inside, ap length (cut arguments c.len.result inside), length-drop c.len.result arguments) in
    IfOk-weaker c.read_others.result (λ r. length r.0.items ≡ length c.in_ok-values.values.items + length others) (λ r. length r.0.items ≡ length arguments) (λ r many. many ∙ all) c.read_others.ensures.many

pub returns-then-kept-clause-only : goal.returns-then-kept-clause-only
returns-then-kept-clause-only c =
    let arguments = c.args.arguments.now in
    let plan = c.args.plan in
    let ts = map arg_type_of arguments in
    let e = c.in_ok-values.ensures in
    let values = c.in_ok-values.values in
    let rest = c.in_ok-values.rest.now in
    let place : c.len.result ≡ vec_len values = c.len.ensures in
    let inside : c.len.result ≤ length arguments = omega (arith, place, e.inside) in
    let others = take (length arguments - c.len.result) (drop c.len.result arguments) in
    let behind : others ≡ drop (vec_len values) arguments = cut arguments c.len.result inside ∙ ap (λ (k : ℕ). drop k arguments) place in
    let up : never_falls plan ts ≡ true
    = kept_all plan (map arg_type_of others) ts (ap (λ (left : List ArgType). rising (λ (t : TheArgType). t) 0 (map arg_type_of left)) behind ∙ e.others) (sym c.keeps_order-kept.ensures.same ∙ c.if-kept.true) in
    let whole : map arg_type_of (take (vec_len values) arguments) ++ map arg_type_of others ≡ ts
    = ap (λ (left : List ArgType). map arg_type_of (take (vec_len values) arguments) ++ map arg_type_of left) behind ∙ joined arguments (vec_len values) in
    let all : length values.items + length others ≡ length arguments
    = omega (arith, place, e.few, inside, ap length (cut arguments c.len.result inside), length-drop c.len.result arguments) in
    if_both c.read_others.result
    (λ r. length r.0.items ≡ length values.items + length others) (λ r. MoreOnly values.items rest (map arg_type_of others) r.0.items r.1.now)
    (λ r. OnlyOne (InTurn PackedArgumentAt (planned_types plan ts) c.args.tape.now) (values_of (arranged kind plan (zip ts (map datum_of r.0.items)))) r.1.now)
    (λ r many more.
    in_declared_order plan ts c.args.tape.now (map datum_of r.0.items) r.1.now up (length-map r.0.items datum_of ∙ many ∙ all ∙ sym (length-map arguments arg_type_of))
    (subst (λ (us : List TheArgType). OnlyOne (InTurn PackedArgumentAt us c.args.tape.now) (map datum_of r.0.items) r.1.now) whole (more (map arg_type_of (take (vec_len values) arguments)) c.args.tape.now e.only)))
    c.read_others.ensures.many c.read_others.ensures.only

pub returns-clause-only : goal.returns-clause-only
returns-clause-only c =
    let arguments = c.args.arguments.now in
    let ts = map arg_type_of arguments in
    let others = take (length arguments - c.len.result) (drop c.len.result arguments) in
    let two = falls c.args.plan (map arg_type_of others) (sym c.keeps_order-kept.ensures.same ∙ c.if-kept.false) in
    IfOk-weaker c.read_ranks.result
    (λ r. OnlyOne (InTurn PackedArgumentAt (types_by_ranks ts) c.args.tape.now) (values_of (arranged kind Two (zip ts (map datum_of r.0.items)))) r.1.now)
    (λ r. OnlyOne (InTurn PackedArgumentAt (planned_types c.args.plan ts) c.args.tape.now) (values_of (arranged kind c.args.plan (zip ts (map datum_of r.0.items)))) r.1.now)
    (λ r one. by_ranks_of c.args.plan ts c.args.tape.now (map datum_of r.0.items) r.1.now two one)
    c.read_ranks.ensures.only
