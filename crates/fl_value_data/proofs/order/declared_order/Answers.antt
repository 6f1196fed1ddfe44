use Rattle.std.proofs.Common.{◌≡◌, ◌+◌, ◌-◌, ◌++◌, [], ◌∷◌, ℕ, List, length, map, take, drop, ltb, refl, ap, sym, ◌∙◌, arith, subst, append_assoc, append-nil}
use Rattle.std.specs.List.{count_by, zip}
use Rattle.std.proofs.lemmas.List.{take_all, drop_all, length-drop, length-map, length_push}
use Rattle.fl_interface.specs.declared.interface.ArgType.{ArgType}
use Rattle.fl_interface.specs.Interface.{TheArgType, arg_type_of}
use Rattle.fl_value_data.specs.declared.value.Value.{Value}
use Rattle.fl_value_data.specs.declared.value.PlanNo.{PlanNo}
use Rattle.fl_value_data.specs.declared.value.PlanNo.TheVariants.{One, Two}
use Rattle.fl_value_data.specs.Value.{Datum, datum_of}
use Rattle.fl_value_data.specs.Plan.{arranged}
use Rattle.fl_value_data.specs.Tape.{kind, values_of}
use Rattle.fl_value_data.proofs.Kept.{kept_arguments, falls}
use Rattle.fl_value_data.proofs.Turns.{map_pushed, map_dropped}
use Rattle.fl_value_data.proofs.Ranked.{rank, rearranged, order_step, before, seconds_arranged}
use Rattle.fl_value_data.proofs.order.declared_order.Goals as goal

pub loop-index-preserved : goal.loop-index-preserved
loop-index-preserved c =
    let index = c.loop-index.index in
    let arguments = c.args.arguments.now in
    let argument = c.index-arguments-index.result in
    let type = arg_type_of argument in
    let later = map arg_type_of (drop (index + 1) arguments) in
    let value = datum_of c.remove.result in
    let whole : take (length arguments - (index + 1)) (drop (index + 1) arguments) ≡ drop (index + 1) arguments
    = take_all (length arguments - (index + 1)) (drop (index + 1) arguments) (omega (arith, length-drop (index + 1) arguments)) in
    let place : c.count_before-place.result ≡ before type later
    = c.count_before-place.ensures.same
    ∙ ap (λ (r : ℕ). count_by (λ (u : TheArgType). ltb (rank u) r) (map arg_type_of (take (length arguments - (index + 1)) (drop (index + 1) arguments)))) c.rank_of.ensures.same
    ∙ ap (λ (l : List ArgType). count_by (λ (u : TheArgType). ltb (rank u) (rank type)) (map arg_type_of l)) whole in
    let types : map arg_type_of (drop index arguments) ≡ type ∷ later = map_dropped arg_type_of arguments index argument (omega arith) c.index-arguments-index.is in
    let values = map_pushed datum_of c.loop-index.values.items c.push.new.self.items c.remove.result c.in_ok-push.ensures.items in
    record {
      many = omega arith;
      few = ap length c.in_ok-push.ensures.items ∙ length_push c.loop-index.values.items c.remove.result ∙ ap (λ (n : ℕ). n + 1) c.loop-index.invariant.few;
      back = λ more long left.
          let many : length more ≡ length later = omega (arith, long, length-map (drop (index + 1) arguments) arg_type_of, length-drop (index + 1) arguments) in
          let step = order_step datum_of type later c.loop-index.left.items c.count_before-place.result c.remove.result place (omega arith) c.remove.ensures.value more many (left ∙ ap (map datum_of) c.remove.ensures.items) in
          let all = c.loop-index.invariant.back (value ∷ more) (omega (arith, long)) (ap (λ (ts : List TheArgType). rearranged Two ts (value ∷ more)) types ∙ step) in
          let joined : map datum_of c.push.new.self.items ++ more ≡ map datum_of c.loop-index.values.items ++ (value ∷ more)
          = ap (λ (ds : List Datum). ds ++ more) values ∙ append_assoc (map datum_of c.loop-index.values.items) (value ∷ []) more in
          ap (rearranged Two (map arg_type_of arguments)) joined ∙ all;
    }

pub loop-index-init : goal.loop-index-init
loop-index-init c = record {
  many = omega (arith, c.requires.as_many);
  few = ap length c.in_ok-values.ensures.items;
  back = λ more long left. ap (λ (values : List Value). rearranged Two (map arg_type_of c.args.arguments.now) (map datum_of values ++ more)) c.in_ok-values.ensures.items ∙ left;
}

pub returns-clause-many : goal.returns-clause-many
returns-clause-many c = omega (arith, c.loop-index.invariant.few)

nothing : {A : Type 0} (xs : List A) → length xs ≡ 0 → xs ≡ []
nothing [] e = refl
nothing (x ∷ xs) e = absurd (omega (arith, e))

pub returns-clause-back : goal.returns-clause-back
returns-clause-back c =
    let index = c.loop-index.index in
    let arguments = c.args.arguments.now in
    let none : c.loop-index.left.items ≡ [] = nothing c.loop-index.left.items (omega (arith, c.loop-index.invariant.many)) in
    let end : rearranged Two (map arg_type_of (drop index arguments)) [] ≡ map datum_of c.loop-index.left.items
    = ap (λ (ts : List ArgType). rearranged Two (map arg_type_of ts) []) (drop_all index arguments c.loop-index-test.false) ∙ ap (map datum_of) (sym none) in
    let all = c.loop-index.invariant.back [] (omega arith) end in
    let two : c.args.plan ≡ Two = falls c.args.plan (map arg_type_of arguments) (sym c.requires.kept ∙ c.if-kept.false) in
    let whole : index ≡ length arguments = omega (arith, c.loop-index.invariant.many, c.loop-index-test.false) in
    let values = map datum_of c.loop-index.values.items in
    let long = length-map c.loop-index.values.items datum_of ∙ c.loop-index.invariant.few ∙ whole ∙ sym (length-map arguments arg_type_of) in
    subst (λ (plan : PlanNo). values_of (arranged kind plan (zip (map arg_type_of arguments) values)) ≡ map datum_of c.args.laid_out.items) (sym two)
    (seconds_arranged Two (map arg_type_of arguments) values long ∙ ap (rearranged Two (map arg_type_of arguments)) (sym (append-nil values)) ∙ all)

pub returns-then-kept-clause-back : goal.returns-then-kept-clause-back
returns-then-kept-clause-back c =
    let values = map datum_of c.args.laid_out.items in
    let types = map arg_type_of c.args.arguments.now in
    let long = length-map c.args.laid_out.items datum_of ∙ c.requires.as_many ∙ sym (length-map c.args.arguments.now arg_type_of) in
    ap values_of (kept_arguments c.args.plan types values (sym c.requires.kept ∙ c.if-kept.true)) ∙ seconds_arranged One types values long
