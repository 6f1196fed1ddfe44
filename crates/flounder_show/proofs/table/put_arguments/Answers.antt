use Rattle.std.proofs.Common.{◌≡◌, ◌<◌, ◌≤◌, ◌∙◌, ℕ, List, Option, Some, length, get_or, map, option_map, slice_get, sym, ap, subst}
use Rattle.std.proofs.lemmas.Option.{slice_get-map, slice_get-get_or}
use Rattle.fl_value_data.specs.Tape.{types_of}
use Rattle.fl_value_data.proofs.Turns.{map_dropped}
use Rattle.fl_interface.specs.declared.interface.ArgType.{ArgType}
use Rattle.fl_interface.specs.Interface.{TheMessage, arg_type_of}
use Rattle.flounder_show.proofs.Telling.{told_none, told_one, told_all, none_left}
use Rattle.flounder_show.proofs.table.put_arguments.Goals as goal

type_there : (items : List ArgType) (n : ℕ) (x : ArgType) → n < length items → x ≡ get_or items n x → slice_get (map arg_type_of items) n ≡ Some (arg_type_of x)
type_there items n x below is =
    slice_get-map arg_type_of items n ∙ ap (option_map arg_type_of) (slice_get-get_or items n x below) ∙ ap (λ v. Some (arg_type_of v)) (sym is)

pub put_argument-requires : goal.put_argument-requires
put_argument-requires c =
    let n = c.loop-number.number in
    let x = c.argument-item.result in
    let same = c.deref-argument-items.ensures.value in
    let below = subst (λ z. n < length z) same c.loop-number-test.true in
    let is = subst (λ z. x ≡ get_or z n x) same c.argument-item.is in
    record {
      stands = ap (λ (o : Option TheMessage). slice_get (types_of o) n) c.requires.stands ∙ type_there c.args.message.now.args.items n x below is;
    }

pub loop-number-init : goal.loop-number-init
loop-number-init c = told_none _ _ _

pub loop-number-preserved : goal.loop-number-preserved
loop-number-preserved c =
    let items = c.args.message.now.args.items in
    let n = c.loop-number.number in
    let x = c.argument-item.result in
    let same = c.deref-argument-items.ensures.value in
    let below = subst (λ z. n < length z) same c.loop-number-test.true in
    let is = subst (λ z. x ≡ get_or z n x) same c.argument-item.is in
    told_one _ _ n _ _ _ _ _ _ (map_dropped arg_type_of items n x below is) c.loop-number.invariant c.in_ok-put_argument.ensures.told

pub returns : goal.returns
returns c =
    let past = subst (λ z. length z ≤ c.loop-number.number) c.deref-argument-items.ensures.value c.loop-number-test.false in
    record { told = told_all _ _ _ _ _ _ (none_left arg_type_of _ c.loop-number.number past) c.loop-number.invariant }
