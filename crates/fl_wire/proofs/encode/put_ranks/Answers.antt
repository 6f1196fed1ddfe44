use Rattle.std.proofs.Common.{◌≡◌, ◌∙◌, ◌+◌, ◌-◌, ℕ, false, map, refl, sym, ap, arith}
use Rattle.std.specs.List.{zip}
use Rattle.fl_interface.specs.Interface.{arg_type_of}
use Rattle.fl_value_data.specs.Value.{datum_of}
use Rattle.fl_value_data.specs.Plan.{of_ranks}
use Rattle.fl_value_data.specs.declared.value.PlanNo.TheVariants.{Two}
use Rattle.fl_value_data.specs.Tape.{kind}
use Rattle.fl_layout.specs.Leaves.{arguments_onto}
use Rattle.fl_wire.specs.Payload.{payload_bytes}
use Rattle.fl_wire.proofs.Encoding.{rank_then_rest}
use Rattle.fl_wire.proofs.encode.put_ranks.Goals as goal

pub loop-rank-preserved : goal.loop-rank-preserved
loop-rank-preserved c = λ before old.
    let (now, shown, done) = c.loop-rank.invariant before old in
    let args = zip (map arg_type_of c.args.types.now) (map datum_of c.args.values.now) in (
      _,
      c.in_ok-put_rank.ensures.ok now shown,
      rank_then_rest c.loop-rank.rank (5 - (c.loop-rank.rank + 1)) args now (omega arith) refl ∙ done,
    )

pub returns : goal.returns
returns c =
    let args = zip (map arg_type_of c.args.types.now) (map datum_of c.args.values.now) in
    let none : 5 - c.loop-rank.rank ≡ 0 = omega (arith, c.loop-rank-test.false) in
    record {
      ok = λ before old.
          let (now, shown, done) = c.loop-rank.invariant before old in
          shown ∙ ap payload_bytes (sym (ap (λ (k : ℕ). arguments_onto false (of_ranks kind Two k c.loop-rank.rank args) now) none) ∙ done);
    }
