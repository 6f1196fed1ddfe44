use Rattle.std.proofs.Common.{◌≡◌, true, arith}
use Rattle.fl_stub.specs.Structure.{is_width}
use Rattle.fl_machine.proofs.Alone.{width_there, width_few, payload_alone}
use Rattle.fl_machine.proofs.straight.take_alone.Goals as goal

pub greatest-requires : goal.greatest-requires
greatest-requires c = width_there c.args.ops.now c.in-Some.width c.in-Some.ensures.alone c.requires.code

pub returns : goal.returns
returns c =
    let wide : is_width c.in-Some.width ≡ true = width_there c.args.ops.now c.in-Some.width c.in-Some.ensures.alone c.requires.code in
    record {
      whole = payload_alone c.args.ops.now c.in-Some.width c.in-Some-first_alone.number c.args.words.now c.in-Some.ensures.alone c.in-Some-first_alone.ensures.alone
          (width_few c.in-Some.width wide) (omega (arith, c.greatest.ensures, c.if-number-greatest.false));
    }
