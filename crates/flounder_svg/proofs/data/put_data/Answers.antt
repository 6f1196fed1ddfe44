use Rattle.std.proofs.Common.{◌∙◌}
use Rattle.bstr.specs.Utf8.{lossy_chars}
use Rattle.flounder_svg.proofs.DataLemmas.{none_put, one_put, all_put}
use Rattle.flounder_svg.proofs.data.put_data.Goals as goal

pub loop-c-init : goal.loop-c-init
loop-c-init c =
    none_put (lossy_chars c.args.text.now) c.into_iter-c-iterator.result c.args.out.now.items
    (c.into_iter-c-iterator.ensures.into_iter_gives ∙ c.chars-c-items.ensures.value)

pub loop-c-preserved : goal.loop-c-preserved
loop-c-preserved c =
    one_put (lossy_chars c.args.text.now) c.loop-c.c-iterator c.next.new.self c.args.out.now.items c.loop-c.out.items
    c.put_character.new.out.items c.in-Some.c c.loop-c.invariant c.in-Some.ensures.steps c.in_ok-put_character.ensures.put

pub returns : goal.returns
returns c = record {
  put = all_put (lossy_chars c.args.text.now) c.loop-c.c-iterator c.args.out.now.items c.loop-c.out.items c.loop-c.invariant c.in-None.ensures.steps.0;
}
