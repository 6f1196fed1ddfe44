use Rattle.std.proofs.Common.{◌≡◌, ◌+◌, ◌-◌, ◌*◌, ◌/◌, ◌%◌, ◌<◌, ◌≤◌, map, arith, rules, ap, ◌∙◌}
use Rattle.fl_interface.specs.Interface.{fixed, scalar}
use Rattle.fl_value_data.specs.Value.{number, datum_of}
use Rattle.fl_wire.specs.Standing.{number_back}
use Rattle.fl_wire.proofs.Parts.{pushed}
use Rattle.fl_wire.proofs.Wides.{elements_start, words_at, words_on, words_end}
use Rattle.fl_wire.proofs.value.read_words.Goals as goal

pub read_word-raw-requires : goal.read_word-raw-requires
read_word-raw-requires c = record { inside = omega (arith, c.loop-word-test.true, c.min-past.ensures) }

pub push_reserved-requires : goal.push_reserved-requires
push_reserved-requires c = omega (arith, c.loop-word.invariant.count, c.loop-word.invariant.room, c.loop-word-test.true, c.min-past.ensures, c.loop-next-test.true, c.loop-next.invariant.from)

pub loop-next-init : goal.loop-next-init
loop-next-init c =
    let made = c.in_ok-values.ensures in
    let start = c.args.at / 8 in
    record {
      from = omega arith;
      within = omega arith;
      count = omega (arith, made.len);
      room = made.capacity;
      come = elements_start c.args.count (start - start) (scalar c.args.kind) c.args.frags.now c.args.at (c.args.at + 8 * (start - start)) (map datum_of c.in_ok-values.values.items) (omega arith) (omega arith)
          (ap (map datum_of) made.items) (omega (arith, c.requires.there));
    }

pub loop-word-init : goal.loop-word-init
loop-word-init c =
    let inv = c.loop-next.invariant in
    let next = c.loop-next.next in
    let start = c.args.at / 8 in
    let same : next - start ≡ 7 * (next / 7) + next % 7 - start = omega arith in
    record {
      count = omega (arith, inv.count, same);
      room = inv.room;
      come = words_at c.args.kind c.args.count (next - start) (7 * (next / 7) + next % 7 - start) c.args.frags.now c.args.at (map datum_of c.loop-next.values.items) same inv.come;
    }

pub loop-word-preserved : goal.loop-word-preserved
loop-word-preserved c =
    let kind = c.args.kind in
    let n = c.args.count in
    let frags = c.args.frags.now in
    let start = c.args.at / 8 in
    let f = c.loop-next.next / 7 in
    let w = c.loop-word.word in
    let i = 7 * f + w - start in
    let inv = c.loop-word.invariant in
    let from : start ≤ 7 * f + w = omega (arith, c.loop-next.invariant.from, c.loop-word.auto.word) in
    let inside : w < 7 = omega (arith, c.loop-word-test.true, c.min-past.ensures) in
    let small : i < n = omega (arith, c.loop-word-test.true, c.min-past.ensures, c.loop-next-test.true, from) in
    let place : 56 * f + 8 * w ≡ c.args.at + 8 * i = omega (arith, c.requires.word, from) in
    let on : i + 1 ≡ 7 * f + (w + 1) - start = omega (arith, from) in
    let xs = c.loop-word.values.items in
    let all = c.push_reserved.new.self.items in
    let raw = c.read_word-raw.result in
    let value : datum_of c.int_value.result ≡ number c.number_from.result = search rules in
    let is : datum_of c.int_value.result ≡ number (number_back (fixed (scalar kind)) raw) = value ∙ ap number c.number_from.ensures.number in
    record {
      count = omega (arith, c.push_reserved.ensures.len, inv.count, on);
      room = omega (arith, c.push_reserved.ensures.capacity, inv.room);
      come = words_at kind n (i + 1) (7 * f + (w + 1) - start) frags c.args.at (map datum_of all) on
          (words_on kind n i frags c.args.at f w raw (map datum_of xs) (map datum_of all) (datum_of c.int_value.result) c.requires.wide small c.requires.there inside place inv.come c.read_word-raw.ensures.read is
          (pushed datum_of xs all c.int_value.result c.push_reserved.ensures.items));
    }

pub loop-next-smaller : goal.loop-next-smaller
loop-next-smaller c = omega (arith, c.loop-next-test.true, c.min-past.ensures)

pub loop-next-preserved : goal.loop-next-preserved
loop-next-preserved c =
    let start = c.args.at / 8 in
    let f = c.loop-next.next / 7 in
    let w = c.loop-word.word in
    let past = c.min-past.result in
    let inv = c.loop-word.invariant in
    let some : c.loop-next.next % 7 ≤ past = omega (arith, c.loop-next-test.true, c.min-past.ensures) in
    let last : w ≡ past = omega (arith, c.loop-word-test.false, c.loop-word.auto.word-end, some) in
    let same : 7 * f + w - start ≡ 7 * f + past - start = omega (arith, last) in
    record {
      from = omega (arith, c.loop-next.invariant.from, some);
      within = omega (arith, c.loop-next-test.true, c.min-past.ensures);
      count = omega (arith, inv.count, same);
      room = inv.room;
      come = words_at c.args.kind c.args.count (7 * f + w - start) (7 * f + past - start) c.args.frags.now c.args.at (map datum_of c.loop-word.values.items) same inv.come;
    }

pub returns : goal.returns
returns c =
    let inv = c.loop-next.invariant in
    let i = c.loop-next.next - c.args.at / 8 in
    let all : c.args.count ≡ i = omega (arith, c.loop-next-test.false, inv.within) in
    record { read = words_end c.args.kind c.args.count i c.args.frags.now c.args.at (map datum_of c.loop-next.values.items) all inv.come }
