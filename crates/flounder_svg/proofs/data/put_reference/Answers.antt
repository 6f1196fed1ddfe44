use Rattle.std.proofs.Common.{◌∙◌}
use Rattle.flounder_svg.proofs.DataLemmas.{piece_added, reference_spelled}
use Rattle.flounder_svg.proofs.data.put_reference.Goals as goal

pub returns : goal.returns
returns c = record {
  put = piece_added c.extend_from_slice.result c.args.c c.drawn.result c.args.out.now.items c.extend_from_slice.new.self.items c.as_bytes.result.now
      c.drawn.ensures.shown
      (reference_spelled c.drawn.result c.as_bytes.result.now c.drawn.ensures.legal (c.as_bytes.ensures.value ∙ c.in_ok-reference.ensures.text))
      c.extend_from_slice.ensures.items;
}
