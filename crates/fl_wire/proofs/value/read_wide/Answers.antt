use Rattle.std.proofs.Common.{◌≡◌, ◌+◌, ◌*◌, pos, arith, rules, subst, sym}
use Rattle.fl_interface.specs.declared.interface.Scalar.TheVariants.{Uint64}
use Rattle.fl_interface.specs.Interface.{fixed, scalar}
use Rattle.fl_value_data.specs.Value.{Datum, number, datum_of}
use Rattle.fl_wire.specs.Shapes.{arguments_of, ReadAt}
use Rattle.fl_wire.proofs.Scalars.{wide_read}
use Rattle.fl_wire.proofs.value.read_wide.Goals as goal

pub returns : goal.returns
returns c = record {
  read = λ there.
      let frags = c.args.frags.now in
      let at = 56 * c.args.frag + 8 * c.args.word in
      let value : datum_of c.int_value.result ≡ number (pos c.read_word.result) = search rules in
      subst (λ (d : Datum). ReadAt (arguments_of (fixed (scalar Uint64))) frags at d (at + 8)) (sym value)
      (wide_read frags c.args.frag at c.read_word.result there (omega (arith, c.requires.inside)) c.read_word.ensures.read);
}
