use Rattle.std.proofs.Common.{map, codes}
use Rattle.fl_parse.specs.Tree.{name_of}
use Rattle.fl_parse.specs.Printed.{name_text, with_commas}
use Rattle.std.proofs.lemmas.Result.{on_ok_weaker}
use Rattle.fl_parse.proofs.Texts.{six_pieces, wrote}
use Rattle.fl_parse.proofs.printer.print_enumeration.Goals as goal

pub returns : goal.returns
returns c =
    record {
      printed = on_ok_weaker c.extend_from_slice-4.result (six_pieces c.args.out.now.items (codes "typedef ") (codes "enum{") (with_commas name_text (map name_of c.args.members.now)) (codes "}") c.args.name.now.text.now (codes ";")
          _ _ _ _ _ _ c.in_ok-extend_from_slice.ensures.items c.in_ok-extend_from_slice-2.ensures.items c.in_ok-print_members.ensures.printed c.in_ok-push.ensures.items c.in_ok-extend_from_slice-3.ensures.items) (wrote c.extend_from_slice-4.result _ _ _ c.extend_from_slice-4.ensures.items);
    }
