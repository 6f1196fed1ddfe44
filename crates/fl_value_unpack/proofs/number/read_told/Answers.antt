use Rattle.std.proofs.Common.{◌∙◌, ◌<◌, ℕ, ℤ, drop, length, arith, ap, sym, subst, rules}
use Rattle.fl_interface.specs.Sizes.{scalar_size}
use Rattle.std.proofs.lemmas.Int.{to_z-of_z}
use mir.Syntax.{w128}
use mir.Val.{SFits}
use Rattle.fl_interface.specs.Interface.{scalar}
use Rattle.fl_value_data.specs.Value.{number}
use Rattle.fl_value_unpack.specs.Reading.{first_number, number_with, PackedValueAt, OnlyOne}
use Rattle.fl_value_unpack.proofs.Numbers.{scalar_only, short_only}
use Rattle.fl_value_unpack.proofs.number.read_told.Goals as goal

-- as `c.if-tape-width.true` says it, with the cast
pub returns-then-tape-width : goal.returns-then-tape-width
returns-then-tape-width c =
    let short : length c.args.tape.now < scalar_size c.args.kind = omega (arith, c.if-tape-width.true, c.requires.width) in
    record { only = short_only c.args.kind c.args.tape.now c.args.tape.now _ short }

pub returns : goal.returns
returns c =
    let tape = c.args.tape.now in
    let bits = c.number_of-bits.result in
    let z = c.number_from.result in
    let rest = c.split_at.result.1.now in
    let fits : SFits w128 z = search rules in
    let one = scalar_only c.args.kind tape rest bits z (c.number_of-bits.ensures ∙ ap (λ (w : ℕ). first_number w tape) c.requires.width)
    (c.number_from.ensures ∙ ap (λ (half : ℕ). number_with half bits) c.requires.half) (c.split_at.ensures.back ∙ ap (λ (w : ℕ). drop w tape) c.requires.width) in
    record { only = subst (λ (y : ℤ). OnlyOne (PackedValueAt (scalar c.args.kind) tape) (number y) rest) (sym (to_z-of_z w128 z fits)) one }
