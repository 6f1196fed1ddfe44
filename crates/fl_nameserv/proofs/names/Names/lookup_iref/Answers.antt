use Rattle.std.proofs.Common.{◌≡◌, ◌+◌, ◌-◌, sym, ap, ◌∙◌, arith, option_map, Option, Some}
use Rattle.fl_nameserv.specs.Registrations.{TheRegistration}
use Rattle.fl_nameserv.specs.Numbered.{numbered}
use Rattle.fl_nameserv.proofs.Numbers.{no_zero, at_iref}
use Rattle.fl_nameserv.proofs.names.Names.lookup_iref.Goals as goal

pub returns-then-iref-eq0-clause-unknown : goal.returns-then-iref-eq0-clause-unknown
returns-then-iref-eq0-clause-unknown c =
    no_zero c.args.iref.0 c.self.inside.services.entries c.args.self.now c.self.view_is c.if-iref-eq0.true

pub returns-in_default-clause-unknown : goal.returns-in_default-clause-unknown
returns-in_default-clause-unknown c =
    let place : c.args.iref.0 ≡ c.args.iref.0 - 1 + 1 = omega (arith, c.if-iref-eq0.false) in
    at_iref c.args.iref.0 (c.args.iref.0 - 1) c.self.inside.services.entries c.args.self.now c.self.view_is place
    ∙ ap (option_map (numbered (c.args.iref.0 - 1))) (sym c.in_default.ensures.entry)

pub returns-clause-found : goal.returns-clause-found
returns-clause-found c =
    let place : c.args.iref.0 ≡ c.args.iref.0 - 1 + 1 = omega (arith, c.if-iref-eq0.false) in
    let some : TheRegistration → Option TheRegistration = λ r. Some r in
    at_iref c.args.iref.0 (c.args.iref.0 - 1) c.self.inside.services.entries c.args.self.now c.self.view_is place
    ∙ ap (option_map (numbered (c.args.iref.0 - 1))) (sym c.in-Some.ensures.entry)
    ∙ ap some (sym c.at.ensures.at)
