use Rattle.std.proofs.Common.{ℕ, ℤ, List, get_or, take, drop, length, ◌-◌, sym, subst, rules, arith}
use Rattle.std.proofs.lemmas.Int.{to_z-of_z}
use mir.Syntax.{w128}
use mir.Val.{SFits}
use Rattle.fl_interface.specs.Interface.{scalar}
use Rattle.fl_value_data.specs.Value.{number}
use Rattle.fl_value_data.specs.Taken.{ValueAt, TheOne}
use Rattle.fl_value_data.proofs.Turns.{first_and_rest}
use Rattle.fl_value_data.proofs.Bits.{scalar_one}
use Rattle.fl_value_data.proofs.untape.read_scalar.Goals as goal

pub returns-clause-found : goal.returns-clause-found
returns-clause-found c =
    let tape = c.args.tape.now in
    let bits = get_or tape 0 0 in
    let rest = take (length tape - 1) (drop 1 tape) in
    let one = scalar_one c.args.kind bits rest c.in_ok-number.number (sym c.in_ok-number.ensures.same) in
    let whole = first_and_rest tape 0 (omega arith) in
    let fits : SFits w128 c.in_ok-number.number = search rules in
    subst (λ (z : ℤ). TheOne (ValueAt (scalar c.args.kind) tape) (number z) rest) (sym (to_z-of_z w128 c.in_ok-number.number fits))
    (subst (λ (l : List ℕ). TheOne (ValueAt (scalar c.args.kind) l) (number c.in_ok-number.number) rest) whole one)
