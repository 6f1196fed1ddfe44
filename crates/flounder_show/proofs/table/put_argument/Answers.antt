use Rattle.std.proofs.Common.{◌≡◌, ◌∙◌, ℕ, List, ◌++◌, Option, ap}
use Rattle.std.proofs.lemmas.Result.{on_ok_weaker}
use Rattle.fl_interface.specs.Interface.{TheInterface, TheArgType, arg_type_of, interface_of}
use Rattle.fl_value_data.specs.declared.value.PlanNo.{PlanNo}
use Rattle.fl_layout.specs.Layouts.{argument_size, IsPlace}
use Rattle.flounder_show.specs.declared.row.ArgKind.{ArgKind}
use Rattle.flounder_show.specs.Table.{argument_line, kind_of, TellsArgument}
use Rattle.flounder_show.proofs.table.put_argument.Goals as goal

argument_told : (plan : PlanNo) (i : TheInterface) (msg j : ℕ) (type : TheArgType) (place : Option ℕ) (kind : ArgKind) (old new : List ℕ)
    → IsPlace plan i msg j place → kind ≡ kind_of type → new ≡ old ++ argument_line j place kind
    → (line : List ℕ) × TellsArgument plan i msg j type line × (new ≡ old ++ line)
argument_told plan i msg j type place kind old new is k w =
    (argument_line j place kind, record { place = place; is_place = is; spelled = ap (argument_line j place) k }, w)

pub of-kind-requires : goal.of-kind-requires
of-kind-requires c = record { size = c.arg_size.ensures.size ∙ ap argument_size c.requires.stands }

pub returns : goal.returns
returns c = record {
  told =
      on_ok_weaker c.put_row.result
      (argument_told c.args.plans.now.plan (interface_of c.args.plans.now.interface) c.args.msg.0 c.args.number (arg_type_of c.args.argument.now) c.place-place.result c.of-kind.result
      c.args.table.now.items c.put_row.new.table.items c.place-place.ensures.place c.of-kind.ensures.kind)
      c.put_row.ensures.told;
}
