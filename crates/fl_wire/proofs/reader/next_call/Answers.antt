use Rattle.std.proofs.Common.{◌≡◌, ◌∙◌, subst, refl, inl, inr, arith, map, take, length, get_or, List, Some}
use Rattle.std.proofs.lemmas.Result.{err_from_is_err_and}
use Rattle.std.specs.Prelude.{slice_get}
use Rattle.std.proofs.lemmas.List.{take_all}
use Rattle.std.proofs.lemmas.Option.{slice_get-get_or}
use Rattle.fl_base.specs.declared.fragment.Frag.{Frag}
use Rattle.fl_interface.specs.Interface.{TheArgType, interface_of, arg_type_of}
use Rattle.fl_value_data.specs.Value.{datum_of}
use Rattle.fl_layout.specs.Leaves.{argument_types}
use Rattle.fl_wire.specs.Reading.{IsPart}
use Rattle.fl_wire.specs.Whole.{Whole}
use Rattle.fl_wire.specs.declared.leaf.CallReadFault.TheVariants.{Padding, Value, Length}
use Rattle.fl_wire.specs.declared.fault.WireFault.TheVariants.{NotZero, OutOfType, TooLong}
use Rattle.fl_wire.proofs.Exits.{blank, begins_well, sound_within, start_wrong, whole_of, part_of, cut_wrong, wrong_call, cut_told, stop_told}
use Rattle.fl_wire.proofs.reader.next_call.Goals as goal

pub returns-in_err-prefix-clause-wrong : goal.returns-in_err-prefix-clause-wrong
returns-in_err-prefix-clause-wrong c =
    let i = interface_of c.args.interface.now in
    let p = err_from_is_err_and c.from_residual.result c.from_residual.ensures.1 in
    let (f, is, h) = c.in_err-prefix.ensures.fault in
    rw (p.1, p.2) (inr (start_wrong c.args.plan i c.args.frags.now f c.in_err-prefix.field-0.0 (sound_within i c.args.interface.now.counted c.args.interface.now.within) is h))

pub returns-in-Ok-clause-call : goal.returns-in-Ok-clause-call
returns-in-Ok-clause-call c =
    let i = interface_of c.args.interface.now in
    let whole = subst (λ (ts : List TheArgType). Whole c.args.plan ts (take c.in_ok-prefix.prefix.count c.args.frags.now) (map datum_of c.in-Ok.args.items) c.in-Ok.many) c.arguments_of-types.ensures.types c.in-Ok.ensures.read in
    whole_of c.args.plan i c.in_ok-prefix.prefix.msg.0 c.args.frags.now c.in_ok-prefix.prefix.count (map datum_of c.in-Ok.args.items) c.in-Ok.many c.in_ok-prefix.ensures.within c.in_ok-prefix.ensures.group whole

pub returns-in-Some-clause-wrong : goal.returns-in-Some-clause-wrong
returns-in-Some-clause-wrong c =
    let i = interface_of c.args.interface.now in
    let plan = c.args.plan in
    let frags = c.args.frags.now in
    let msg = c.in_ok-prefix.prefix.msg.0 in
    let n = c.in_ok-prefix.prefix.count in
    let f = get_or frags n blank in
    let is : slice_get frags n ≡ Some f = slice_get-get_or frags n blank (c.in_ok-prefix.ensures.more c.in-Some.fault c.in-Some.is) in
    let cut = cut_told plan (map arg_type_of c.arguments_of-types.result.now) (argument_types i msg) (take n frags) c.in-Err-Short.field-0 c.in-Err-Short.field-0-is c.arguments_of-types.ensures.types c.in-Err-Short.ensures.stop in
    inr (cut_wrong plan i msg frags n f c.in-Some.fault (sound_within i c.args.interface.now.counted c.args.interface.now.within) c.in_ok-prefix.ensures.group cut is (c.in_ok-prefix.ensures.next f is ∙ c.in-Some.is))

pub returns-in-None-clause-part : goal.returns-in-None-clause-part
returns-in-None-clause-part c = λ none.
    let i = interface_of c.args.interface.now in
    let plan = c.args.plan in
    let frags = c.args.frags.now in
    let msg = c.in_ok-prefix.prefix.msg.0 in
    let n = c.in_ok-prefix.prefix.count in
    let all : n ≡ length frags = c.in_ok-prefix.ensures.all c.in-None.is in
    let cut = cut_told plan (map arg_type_of c.arguments_of-types.result.now) (argument_types i msg) (take n frags) c.in-Err-Short.field-0 c.in-Err-Short.field-0-is c.arguments_of-types.ensures.types c.in-Err-Short.ensures.stop in
    subst (λ (xs : List Frag). IsPart plan i xs) (take_all n frags (omega (arith, all))) (part_of plan i msg (take n frags) (sound_within i c.args.interface.now.counted c.args.interface.now.within) c.in_ok-prefix.ensures.group cut)

pub returns-in-Err-Padding-clause-wrong : goal.returns-in-Err-Padding-clause-wrong
returns-in-Err-Padding-clause-wrong c =
    let i = interface_of c.args.interface.now in
    let plan = c.args.plan in
    let frags = c.args.frags.now in
    let msg = c.in_ok-prefix.prefix.msg.0 in
    let n = c.in_ok-prefix.prefix.count in
    let stop = stop_told plan (map arg_type_of c.arguments_of-types.result.now) (argument_types i msg) (take n frags) c.in-Err-Padding.field-0 Padding c.in-Err-Padding.field-0-is c.arguments_of-types.ensures.types c.in-Err-Padding.ensures.stop in
    inr (wrong_call plan i msg frags n Padding NotZero c.in_ok-prefix.ensures.within (sound_within i c.args.interface.now.counted c.args.interface.now.within) c.in_ok-prefix.ensures.group stop refl)

pub returns-in-Err-Value-clause-wrong : goal.returns-in-Err-Value-clause-wrong
returns-in-Err-Value-clause-wrong c =
    let i = interface_of c.args.interface.now in
    let plan = c.args.plan in
    let frags = c.args.frags.now in
    let msg = c.in_ok-prefix.prefix.msg.0 in
    let n = c.in_ok-prefix.prefix.count in
    let stop = stop_told plan (map arg_type_of c.arguments_of-types.result.now) (argument_types i msg) (take n frags) c.in-Err-Value.field-0 Value c.in-Err-Value.field-0-is c.arguments_of-types.ensures.types c.in-Err-Value.ensures.stop in
    inr (wrong_call plan i msg frags n Value OutOfType c.in_ok-prefix.ensures.within (sound_within i c.args.interface.now.counted c.args.interface.now.within) c.in_ok-prefix.ensures.group stop refl)

pub returns-in-Err-Length-clause-wrong : goal.returns-in-Err-Length-clause-wrong
returns-in-Err-Length-clause-wrong c =
    let i = interface_of c.args.interface.now in
    let plan = c.args.plan in
    let frags = c.args.frags.now in
    let msg = c.in_ok-prefix.prefix.msg.0 in
    let n = c.in_ok-prefix.prefix.count in
    let stop = stop_told plan (map arg_type_of c.arguments_of-types.result.now) (argument_types i msg) (take n frags) c.in-Err-Length.field-0 Length c.in-Err-Length.field-0-is c.arguments_of-types.ensures.types c.in-Err-Length.ensures.stop in
    inr (wrong_call plan i msg frags n Length TooLong c.in_ok-prefix.ensures.within (sound_within i c.args.interface.now.counted c.args.interface.now.within) c.in_ok-prefix.ensures.group stop refl)

pub returns-in-Ok-clause-begins : goal.returns-in-Ok-clause-begins
returns-in-Ok-clause-begins c =
    begins_well (interface_of c.args.interface.now) c.in_ok-prefix.prefix.msg.0 c.in_ok-prefix.prefix.count c.args.frags.now c.requires.some c.in_ok-prefix.ensures.group

pub returns-in-None-clause-begins : goal.returns-in-None-clause-begins
returns-in-None-clause-begins c =
    begins_well (interface_of c.args.interface.now) c.in_ok-prefix.prefix.msg.0 c.in_ok-prefix.prefix.count c.args.frags.now c.requires.some c.in_ok-prefix.ensures.group

pub returns-in-Err-Memory-clause-wrong : goal.returns-in-Err-Memory-clause-wrong
returns-in-Err-Memory-clause-wrong c =
    inl (refl, begins_well (interface_of c.args.interface.now) c.in_ok-prefix.prefix.msg.0 c.in_ok-prefix.prefix.count c.args.frags.now c.requires.some c.in_ok-prefix.ensures.group)
