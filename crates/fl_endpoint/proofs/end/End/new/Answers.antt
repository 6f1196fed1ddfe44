use Rattle.std.proofs.Common.{◌<◌, ◌^◌, sym, subst, rules}
use Rattle.fl_endpoint.specs.View.{TheEnd}
use Rattle.fl_endpoint.specs.Accounts.{Sound}
use Rattle.fl_endpoint.proofs.Sounds.{sound_bound}
use Rattle.fl_endpoint.proofs.end.End.new.Goals as goal

pub returns-clause-sound : goal.returns-clause-sound
returns-clause-sound c =
    let sound : Sound c.in_ok-end.end = search rules in
    let small : c.args.circuit.0 < 2 ^ 16 = search rules in
    subst (λ (s : TheEnd). Sound s) (sym c.bind.ensures.bound) (sound_bound c.in_ok-end.end c.args.circuit.0 small sound)
