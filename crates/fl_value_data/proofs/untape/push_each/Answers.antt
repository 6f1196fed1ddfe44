use Rattle.std.proofs.Common.{get_or, sym}
use Rattle.std.proofs.lemmas.Bool.{false≢true}
use Rattle.std.proofs.lemmas.List.Folds.{list_all_at}
use Rattle.fl_value_data.specs.Fits.{is_text_byte}
use Rattle.fl_value_data.proofs.Each.{none_yet, one_byte_more, all_bytes, no_byte}
use Rattle.fl_value_data.proofs.untape.push_each.Goals as goal

pub loop-number-init : goal.loop-number-init
loop-number-init c = none_yet c.args.bytes.now.items c.args.numbers.now

pub loop-number-preserved : goal.loop-number-preserved
loop-number-preserved c =
    one_byte_more c.loop-number.number-index c.args.bytes.now.items c.loop-number.bytes.items c.push.new.self.items c.args.numbers.now c.loop-number-test.true c.loop-number.invariant c.in_ok-push.ensures.items

pub returns : goal.returns
returns c = record {
  put = λ e. all_bytes c.loop-number.number-index c.args.bytes.now.items c.loop-number.bytes.items c.args.numbers.now c.loop-number-test.false c.loop-number.invariant;
  other = λ e. absurd (false≢true (sym e));
}

pub returns-then-number-gt255 : goal.returns-then-number-gt255
returns-then-number-gt255 c =
    let k = c.loop-number.number-index in
    let numbers = c.args.numbers.now in
    record {
      put = λ e. absurd (false≢true e);
      other = λ e. list_all_at is_text_byte numbers k 0 c.loop-number-test.true (no_byte (get_or numbers k 0) c.if-number-gt255.true);
    }
