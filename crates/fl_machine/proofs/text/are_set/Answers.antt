use Rattle.std.proofs.Common.{eqb, w8, sym, ◌∙◌, arith}
use Rattle.std.proofs.lemmas.Simd.{bitmask_splat}
use Rattle.std.proofs.lemmas.Bool.{eqb-true}
use Rattle.fl_machine.proofs.Texts.{none_zero}
use Rattle.fl_machine.proofs.text.are_set.Goals as goal

pub returns : goal.returns
returns c so = none_zero c.args.bytes (sym (bitmask_splat w8 eqb c.args.bytes 8 0 c.fits-bytes.0 (omega arith)) ∙ eqb-true _ 0 so)
