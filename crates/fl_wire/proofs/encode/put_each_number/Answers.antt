use Rattle.std.proofs.Common.{◌≡◌, ◌∙◌, ◌+◌, ◌∷◌, ℕ, ℤ, Vec, Global, true, drop, List, map, ap, sym, subst, rules}
use mir.Syntax.{w128}
use mir.Val.{SFits}
use Rattle.std.proofs.lemmas.Int.{to_z-of_z}
use Rattle.std.proofs.lemmas.List.{drop_all}
use Rattle.fl_value_data.specs.Value.{Datum, number, datum_step, datum_of}
use Rattle.fl_value_data.specs.declared.value.Value.{Value}
use Rattle.fl_value_data.specs.declared.value.Value.TheViews.{the_lemmas}
use Rattle.fl_value_data.specs.declared.value.Value.TheFolds.{fold_out-Value}
use Rattle.fl_layout.specs.Leaves.{whole, bits_of}
use Rattle.fl_wire.specs.Payload.{payload_bytes}
use Rattle.fl_wire.specs.Widths.{fits_width, is_number_within, number_of, numbers_onto}
use Rattle.fl_wire.proofs.Seen.{int_seen}
use Rattle.fl_wire.proofs.Encoding.{numbers_here, numbers_left, numbers_next}
use Rattle.fl_wire.proofs.encode.put_each_number.Goals as goal
use Rattle.fl_wire.proofs.encode.put_each_number.Goals.{in-Int+in_ok-put_number, in_default}

pub returns : goal.returns
returns c = record {
  ok = λ before old.
      let (now, shown, done) = c.loop-value.invariant.written before old in
      shown ∙ ap payload_bytes (sym (ap (λ (vs : List Value). numbers_onto c.args.width (map datum_of vs) now) (drop_all c.loop-value.value-index c.args.values.now c.loop-value-test.false)) ∙ done);
}

pub bits-requires-clause-fits : goal.bits-requires-clause-fits
bits-requires-clause-fits c =
    let width = c.args.width in
    let fits : SFits w128 c.in-Int.number = search rules in
    let seen : number c.in-Int.number ≡ datum_of c.value-item.result = sym (ap datum_of c.in-Int.is ∙ int_seen c.in-Int.number) in
    let here = numbers_here width c.args.values.now c.loop-value.value-index c.value-item.result c.loop-value-test.true c.value-item.is c.loop-value.invariant.fit in
    subst (λ (z : ℤ). fits_width width z ≡ true) (sym (to_z-of_z w128 c.in-Int.number fits)) (subst (λ (d : Datum). is_number_within width d ≡ true) (sym seen) here)

pub loop-value-preserved : goal.loop-value-preserved
loop-value-preserved c =
    let width = c.args.width in
    let vs = c.args.values.now in
    let j = c.loop-value.value-index in
    let v = c.value-item.result in
    record {
      fit = numbers_left width vs j v c.loop-value-test.true c.loop-value.invariant.fit;
      written = λ before old.
          let (now, shown, done) = c.loop-value.invariant.written before old in
          elim c.match-value.branch [
            | in-Int+in_ok-put_number w ↦
                let fits : SFits w128 w.in-Int.number = search rules in
                let seen : number w.in-Int.number ≡ datum_of v = sym (ap datum_of w.in-Int.is ∙ int_seen w.in-Int.number) in
                let same = w.bits.ensures.bits ∙ ap (bits_of width) (to_z-of_z w128 w.in-Int.number fits) ∙ ap (λ (d : Datum). bits_of width (number_of d)) seen in (
                  _,
                  ap (λ (o : Vec ℕ Global). o.items) w.out-is ∙ w.in_ok-put_number.ensures.ok now shown,
                  ap (λ (n : ℕ). numbers_onto width (map datum_of (drop (j + 1) vs)) (whole width n ∷ now)) same ∙ numbers_next width vs j v now c.loop-value-test.true c.value-item.is ∙ done,
                )
            | in_default w ↦
                let here = numbers_here width vs j v c.loop-value-test.true c.value-item.is c.loop-value.invariant.fit in
                absurd (search (rules, the_lemmas, fold_out-Value Datum datum_step, here, w.in_default.not-Int))
          ];
    }
