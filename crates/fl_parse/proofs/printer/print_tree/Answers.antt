use Rattle.std.proofs.Common.{codes}
use Rattle.std.specs.List.{flat_map}
use Rattle.fl_parse.specs.Tree.{tree_of}
use Rattle.fl_parse.specs.Printed.{declaration_text, description_text}
use Rattle.std.proofs.lemmas.Result.{on_ok_weaker}
use Rattle.fl_parse.proofs.Texts.{six_pieces, wrote}
use Rattle.fl_parse.proofs.printer.print_tree.Goals as goal

pub returns : goal.returns
returns c =
    let tree = tree_of c.args.tree.now in
    record {
      printed = on_ok_weaker c.extend_from_slice-3.result (six_pieces c.args.out.now.items (codes "interface ") c.args.tree.now.name.text.now (description_text tree.description) (codes "{") (flat_map declaration_text tree.declarations) (codes "}")
          _ _ _ _ _ _ c.in_ok-extend_from_slice.ensures.items c.in_ok-extend_from_slice-2.ensures.items c.in_ok-print_description.ensures.printed c.in_ok-push.ensures.items (rw c.deref.ensures.value at c.in_ok-print_declarations.ensures.printed))
          (wrote c.extend_from_slice-3.result _ _ _ c.extend_from_slice-3.ensures.items);
    }
