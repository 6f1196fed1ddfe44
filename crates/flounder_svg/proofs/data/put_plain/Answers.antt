use Rattle.std.proofs.Common.{inl, refl, []}
use Rattle.flounder_svg.specs.Xml.{nothing, plain}
use Rattle.flounder_svg.proofs.DataLemmas.{character_added}
use Rattle.flounder_svg.proofs.data.put_plain.Goals as goal

pub returns : goal.returns
returns c = record {
  put = character_added c.args.c c.args.c c.args.out.now.items c.push.new.self.items _ (inl refl) (plain [] [] c.args.c nothing c.requires.plain) c.in_ok-push.ensures.items;
}
