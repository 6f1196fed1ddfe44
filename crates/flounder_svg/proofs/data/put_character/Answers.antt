use Rattle.std.proofs.Common.{[], sym, inl, inr, refl}
use Rattle.std.specs.Prelude.{codes}
use Rattle.flounder_svg.specs.Xml.{nothing, ampersand, less, greater, quote}
use Rattle.flounder_svg.proofs.DataLemmas.{piece_added, blank_spelled}
use Rattle.flounder_svg.proofs.data.put_character.Goals as goal

pub returns-in-38 : goal.returns-in-38
returns-in-38 c = record {
  put = piece_added c.extend_from_slice.result c.args.c 38 c.args.out.now.items c.extend_from_slice.new.self.items
      (codes "&amp;") (inl (sym c.in-38.is)) (ampersand [] [] nothing) c.extend_from_slice.ensures.items;
}

pub returns-in-60 : goal.returns-in-60
returns-in-60 c = record {
  put = piece_added c.extend_from_slice-in-60.result c.args.c 60 c.args.out.now.items c.extend_from_slice-in-60.new.self.items
      (codes "&lt;") (inl (sym c.in-60.is)) (less [] [] nothing) c.extend_from_slice-in-60.ensures.items;
}

pub returns-in-62 : goal.returns-in-62
returns-in-62 c = record {
  put = piece_added c.extend_from_slice-in-62.result c.args.c 62 c.args.out.now.items c.extend_from_slice-in-62.new.self.items
      (codes "&gt;") (inl (sym c.in-62.is)) (greater [] [] nothing) c.extend_from_slice-in-62.ensures.items;
}

pub returns-in-34 : goal.returns-in-34
returns-in-34 c = record {
  put = piece_added c.extend_from_slice-in-34.result c.args.c 34 c.args.out.now.items c.extend_from_slice-in-34.new.self.items
      (codes "&quot;") (inl (sym c.in-34.is)) (quote [] [] nothing) c.extend_from_slice-in-34.ensures.items;
}

pub returns-in_default : goal.returns-in_default
returns-in_default c = record {
  put = piece_added c.extend_from_slice-in_default.result c.args.c 32 c.args.out.now.items c.extend_from_slice-in_default.new.self.items
      (codes " ") (inr (inl (refl, c.if-is_blank.ensures.blank refl))) blank_spelled c.extend_from_slice-in_default.ensures.items;
}
