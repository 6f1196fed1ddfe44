use Rattle.std.proofs.Common.{◌≡◌, true, false, eqb, eq-eqb, Some, sym, ◌∙◌}
use Rattle.std.proofs.lemmas.Bool.{cond-true, cond-false, ne_eqb}
use Rattle.fl_interface.specs.Interface.{arg_type_of}
use Rattle.fl_value_data.specs.Plan.{rank_of}
use Rattle.fl_c_operations.specs.After.{after_argument}
use Rattle.fl_c_operations.proofs.tapes.after_ranked.Goals as goal

pub returns-then-rank_of-rank : goal.returns-then-rank_of-rank
returns-then-rank_of-rank c =
    let rank = rank_of c.args.plan (arg_type_of c.args.argument.now) in
    let other : eqb rank c.args.rank ≡ false = ne_eqb rank c.args.rank (λ e. c.if-rank_of-rank.true (c.rank_of.ensures.same ∙ e)) in
    record { exact = sym (cond-false (eqb rank c.args.rank) (after_argument (arg_type_of c.args.argument.now) c.args.tape.now) (Some c.args.tape.now) other) }

pub returns : goal.returns
returns c =
    let rank = rank_of c.args.plan (arg_type_of c.args.argument.now) in
    let same : eqb rank c.args.rank ≡ true = eq-eqb rank c.args.rank (sym c.rank_of.ensures.same ∙ c.if-rank_of-rank.false) in
    record {
      exact = c.after_argument.ensures.exact
          ∙ sym (cond-true (eqb rank c.args.rank) (after_argument (arg_type_of c.args.argument.now) c.args.tape.now) (Some c.args.tape.now) same);
    }
