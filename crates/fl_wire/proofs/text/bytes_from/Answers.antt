use Rattle.std.proofs.Common.{◌≡◌, ◌+◌, ◌-◌, ◌*◌, ◌/◌, ◌∙◌, [], arith}
use Rattle.fl_wire.proofs.Texts.{none_yet, more_words, bytes_of_words}
use Rattle.fl_wire.proofs.text.bytes_from.Goals as goal

pub loop-next-init : goal.loop-next-init
loop-next-init c = (omega arith, omega arith, c.in_ok-bytes.ensures.items ∙ none_yet c.args.frags.now (8 * (c.args.at / 8)) (c.args.at / 8) [])

pub loop-next-preserved : goal.loop-next-preserved
loop-next-preserved c =
    let (from, to, so_far) = c.loop-next.invariant in
    let on = c.in_ok-after.ensures in (
      omega (arith, from, on.later),
      on.within,
      more_words c.args.frags.now (c.args.at / 8) c.loop-next.next c.in_ok-after.after c.loop-next.bytes.items c.push_words.new.bytes.items from (omega (arith, on.later)) so_far on.put,
    )

pub returns : goal.returns
returns c =
    let (from, to, so_far) = c.loop-next.invariant in
    let start = c.args.at / 8 in
    let last : c.loop-next.next ≡ start + (c.args.count + 7) / 8 = omega (arith, to, c.loop-next-test.false) in
    record {
      bytes = bytes_of_words c.args.frags.now c.args.at start c.args.count (8 * (c.loop-next.next - start)) c.loop-next.bytes.items c.truncate.new.self.items
          (omega (arith, c.requires.word)) (omega (arith, last)) so_far c.truncate.ensures.items;
    }
