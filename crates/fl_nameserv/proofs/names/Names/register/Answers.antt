use Rattle.std.proofs.Common.{Result, Err, refl, sym, ap, ◌∙◌, arith}
use Rattle.std.proofs.lemmas.Result.{err_from_is_err_and}
use Rattle.fl_base.specs.declared.identity.IRef.{IRef}
use Rattle.fl_nameserv.specs.declared.fault.NameFault.{NameFault}
use Rattle.fl_nameserv.specs.Registrations.{by_name}
use Rattle.fl_nameserv.proofs.Numbers.{known_in, none_known, is_taken, refused_otherwise, registered, same_length}
use Rattle.fl_nameserv.proofs.names.Names.register.Goals as goal

pub returns-then-contains_key-clause-taken : goal.returns-then-contains_key-clause-taken
returns-then-contains_key-clause-taken c =
    let there = known_in c.args.name.now c.self.inside.services.entries c.args.self.now _ c.self.view_is c.if-contains_key.ensures in
    (λ _. sym there, λ _. refl)

pub returns-then-place-ge-MOST-clause-taken : goal.returns-then-place-ge-MOST-clause-taken
returns-then-place-ge-MOST-clause-taken c =
    let fresh = known_in c.args.name.now c.self.inside.services.entries c.args.self.now _ c.self.view_is c.if-contains_key.ensures in
    refused_otherwise _ (by_name c.args.name.now c.args.self.now) fresh refl

pub returns-in_err-name-clause-taken : goal.returns-in_err-name-clause-taken
returns-in_err-name-clause-taken c =
    let fresh = known_in c.args.name.now c.self.inside.services.entries c.args.self.now _ c.self.view_is c.if-contains_key.ensures in
    let p = err_from_is_err_and c.from_residual.result c.from_residual.ensures.1 in
    let err : NameFault → Result IRef NameFault = λ e. Err e in
    refused_otherwise _ (by_name c.args.name.now c.args.self.now) fresh (p.1 ∙ ap err p.2)

pub returns-in_err-insert-clause-taken : goal.returns-in_err-insert-clause-taken
returns-in_err-insert-clause-taken c =
    let fresh = known_in c.args.name.now c.self.inside.services.entries c.args.self.now _ c.self.view_is c.if-contains_key.ensures in
    let p = err_from_is_err_and c.from_residual-in_err-insert.result c.from_residual-in_err-insert.ensures.1 in
    let err : NameFault → Result IRef NameFault = λ e. Err e in
    refused_otherwise _ (by_name c.args.name.now c.args.self.now) fresh (p.1 ∙ ap err p.2)

pub returns-clause-added : goal.returns-clause-added
returns-clause-added c =
    registered c.self.inside.services.entries c.insert.new.self.entries c.args.self.now c.args.name.now c.in_ok-name.name c.args.service
    c.self.view_is c.in_ok-insert.ensures.entries c.in_ok-name.ensures.items c.if-contains_key.ensures

pub returns-clause-iref : goal.returns-clause-iref
returns-clause-iref c = omega (arith, c.len-place.ensures.len, same_length _ _ c.self.view_is)

pub returns-clause-new : goal.returns-clause-new
returns-clause-new c =
    none_known _ (known_in c.args.name.now c.self.inside.services.entries c.args.self.now _ c.self.view_is c.if-contains_key.ensures)

pub returns-clause-taken : goal.returns-clause-taken
returns-clause-taken c =
    let fresh = known_in c.args.name.now c.self.inside.services.entries c.args.self.now _ c.self.view_is c.if-contains_key.ensures in
    (λ e. cc, λ s. is_taken _ fresh s)
