use Rattle.std.proofs.Common.{◌≡◌, ◌+◌, ◌-◌, ◌++◌, ℕ, [], List, length, map, refl, sym, ◌∙◌, ap, subst, arith, append_assoc, append-nil}
use Rattle.std.specs.List.{zip}
use Rattle.std.proofs.lemmas.List.{take_all, length-map, length-set}
use Rattle.fl_interface.specs.declared.interface.ArgType.{ArgType}
use Rattle.fl_interface.specs.Interface.{TheArgType, arg_type_of}
use Rattle.fl_value_data.specs.declared.value.PlanNo.TheVariants.{Two}
use Rattle.fl_value_data.specs.Value.{Datum, datum_of}
use Rattle.fl_value_data.specs.Plan.{arranged, of_ranks}
use Rattle.fl_value_data.specs.Tape.{kind, values_of}
use Rattle.fl_value_data.specs.Taken.{InTurn, types_of_rank}
use Rattle.fl_value_data.proofs.Ranked.{ranked, next_rank, last_rank, seconds_arranged}
use Rattle.fl_value_unpack.specs.Reading.{PackedArgumentAt, OnlyOne}
use Rattle.fl_value_unpack.proofs.Onlys.{only_none}
use Rattle.fl_value_unpack.proofs.Placed.{held, held_start, held_all, rank_in, rank_out}
use Rattle.fl_value_unpack.proofs.argument.read_ranks.Goals as goal

pub loop-rank-init : goal.loop-rank-init
loop-rank-init c = record {
  few = omega arith;
  long = c.in_ok-values.ensures.count;
  read = ([], refl, only_none PackedArgumentAt c.args.tape.now);
}

pub loop-index-init : goal.loop-index-init
loop-index-init c =
    let rank = c.loop-rank.rank in
    let types = map arg_type_of c.args.arguments.now in
    let ds = map datum_of c.loop-rank.values.items in
    let (done, split, one) = c.loop-rank.invariant.read in
    record {
      few = omega (arith, c.loop-rank-test.true);
      long = c.loop-rank.invariant.long;
      read = (
        done,
        split,
        subst (λ (us : List TheArgType). OnlyOne (InTurn PackedArgumentAt us c.args.tape.now) (held rank 0 types ds) c.loop-rank.rest.now) (sym (append-nil done))
            (subst (λ (es : List Datum). OnlyOne (InTurn PackedArgumentAt done c.args.tape.now) es c.loop-rank.rest.now) (sym (held_start rank types ds)) one),
      );
    }

pub loop-index-preserved-then-rank_of-rank : goal.loop-index-preserved-then-rank_of-rank
loop-index-preserved-then-rank_of-rank c =
    let inv = c.loop-index.invariant in
    let (done, split, one) = inv.read in
    record {
      few = inv.few;
      long = inv.long;
      read = (
        done,
        split,
        rank_out done c.args.tape.now c.args.arguments.now c.loop-index.values.items c.loop-rank.rank c.loop-index.index c.index-arguments-index.result c.loop-index.rest.now
            c.loop-index-test.true inv.long c.index-arguments-index.is (λ e. c.if-rank_of-rank.true (c.rank_of.ensures.same ∙ e)) one,
      );
    }

pub loop-index-preserved : goal.loop-index-preserved
loop-index-preserved c =
    let inv = c.loop-index.invariant in
    let (done, split, one) = inv.read in
    record {
      few = inv.few;
      long = length-set c.loop-index.values.items c.loop-index.index c.in_ok-value.value ∙ inv.long;
      read = (
        done,
        split,
        rank_in done c.args.tape.now c.args.arguments.now c.loop-index.values.items c.loop-rank.rank c.loop-index.index c.index-arguments-index.result c.in_ok-value.value c.loop-index.rest.now c.in_ok-value.after.now
            c.loop-index-test.true inv.long c.index-arguments-index.is (sym c.rank_of.ensures.same ∙ c.if-rank_of-rank.false) one c.in_ok-value.ensures.only,
      );
    }

pub loop-rank-preserved : goal.loop-rank-preserved
loop-rank-preserved c =
    let rank = c.loop-rank.rank in
    let arguments = c.args.arguments.now in
    let types = map arg_type_of arguments in
    let inv = c.loop-index.invariant in
    let ds = map datum_of c.loop-index.values.items in
    let (done, split, one) = inv.read in
    let here = types_of_rank Two rank types in
    let all = c.loop-index-test.false in
    let long : length ds ≡ length types = length-map c.loop-index.values.items datum_of ∙ inv.long ∙ sym (length-map arguments arg_type_of) in
    record {
      few = omega (arith, inv.few);
      long = inv.long;
      read = (
        done ++ here,
        append_assoc done here (of_ranks (λ (t : TheArgType). t) Two (5 - (rank + 1)) (rank + 1) types)
            ∙ ap (λ (ts : List TheArgType). done ++ ts) (sym (next_rank (λ (t : TheArgType). t) Two rank types (omega (arith, inv.few)))) ∙ split,
        subst (λ (es : List Datum). OnlyOne (InTurn PackedArgumentAt (done ++ here) c.args.tape.now) es c.loop-index.rest.now)
            (held_all rank c.loop-index.index types ds (omega (arith, all, length-map arguments arg_type_of)) long)
            (subst (λ (us : List ArgType). OnlyOne (InTurn PackedArgumentAt (done ++ types_of_rank Two rank (map arg_type_of us)) c.args.tape.now) (held rank c.loop-index.index types ds) c.loop-index.rest.now)
            (take_all c.loop-index.index arguments all) one),
      );
    }

pub returns-clause-many : goal.returns-clause-many
returns-clause-many c = c.loop-rank.invariant.long

pub returns-clause-only : goal.returns-clause-only
returns-clause-only c =
    let rank = c.loop-rank.rank in
    let arguments = c.args.arguments.now in
    let types = map arg_type_of arguments in
    let inv = c.loop-rank.invariant in
    let ds = map datum_of c.loop-rank.values.items in
    let (done, split, one) = inv.read in
    let five : rank ≡ 5 = omega (arith, inv.few, c.loop-rank-test.false) in
    let all = sym (append-nil done) ∙ ap (λ (ts : List TheArgType). done ++ ts) (sym (last_rank (λ (t : TheArgType). t) Two rank types (omega (arith, five)))) ∙ split in
    let long : length ds ≡ length types = length-map c.loop-rank.values.items datum_of ∙ inv.long ∙ sym (length-map arguments arg_type_of) in
    subst (λ (ts : List TheArgType). OnlyOne (InTurn PackedArgumentAt ts c.args.tape.now) (values_of (arranged kind Two (zip types ds))) c.loop-rank.rest.now) all
    (subst (λ (es : List Datum). OnlyOne (InTurn PackedArgumentAt done c.args.tape.now) es c.loop-rank.rest.now)
    (ap (λ (n : ℕ). ranked n 0 types ds) five ∙ sym (seconds_arranged Two types ds long)) one)
