use Rattle.std.proofs.Common.{◌∙◌, List, length, map, sym, ap, refl, arith}
use Rattle.std.specs.List.{list_all}
use Rattle.std.proofs.lemmas.List.{length-map}
use Rattle.fl_interface.specs.declared.interface.ArgType.{ArgType}
use Rattle.fl_interface.specs.Interface.{arg_type_of, message_of, interface_of}
use Rattle.fl_value_data.specs.Taken.{planned_types}
use Rattle.fl_codec.specs.NumberPlaces.{is_number, places_behind}
use Rattle.fl_codec.proofs.Made.{codec_made}
use Rattle.fl_codec.proofs.codec.Codec.of.Goals as goal

pub returns : goal.returns
returns c =
    let items = c.in-Some.message.now.args.items in
    let same = c.as_slice-arguments.ensures.value in
    let long = ap length same in
    let many = length-map items arg_type_of in
    record {
      some = codec_made c.args.plan (interface_of c.args.interface.now) c.args.msg.0 (message_of c.in-Some.message.now) _ c.in-Some.ensures.found refl
          (omega (arith, many, long, c.if-arguments-gt-MOST_NUMBERS.false))
          (ap (λ (l : List ArgType). list_all is_number (map arg_type_of l)) (sym same) ∙ sym c.are_numbers.ensures.exact ∙ c.if-not-are_numbers.false)
          (c.placing_of-placing.ensures.many ∙ long ∙ sym many)
          (c.placing_of-placing.ensures.placed ∙ ap (λ (l : List ArgType). places_behind 0 (planned_types c.args.plan (map arg_type_of l))) same);
      none = tt;
    }
