use Rattle.std.proofs.Common.{map, codes}
use Rattle.std.specs.List.{flat_map}
use Rattle.fl_parse.specs.Tree.{field_of}
use Rattle.fl_parse.specs.Printed.{field_text}
use Rattle.std.proofs.lemmas.Result.{on_ok_weaker}
use Rattle.fl_parse.proofs.Texts.{six_pieces, wrote}
use Rattle.fl_parse.proofs.printer.print_structure.Goals as goal

pub returns : goal.returns
returns c =
    record {
      printed = on_ok_weaker c.extend_from_slice-4.result (six_pieces c.args.out.now.items (codes "typedef ") (codes "struct{") (flat_map field_text (map field_of c.args.fields.now)) (codes "}") c.args.name.now.text.now (codes ";")
          _ _ _ _ _ _ c.in_ok-extend_from_slice.ensures.items c.in_ok-extend_from_slice-2.ensures.items c.in_ok-print_fields.ensures.printed c.in_ok-push.ensures.items c.in_ok-extend_from_slice-3.ensures.items) (wrote c.extend_from_slice-4.result _ _ _ c.extend_from_slice-4.ensures.items);
    }
