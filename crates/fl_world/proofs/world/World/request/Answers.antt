use Rattle.std.proofs.Common.{◌≡◌, ◌∙◌, sym, subst, true, None, rules}
use Rattle.fl_model.specs.Views.{id_of}
use Rattle.fl_nameserv.specs.Registrations.{by_name}
use Rattle.fl_world_refines.specs.View.{TheWorld}
use Rattle.fl_world.proofs.Requested.{not_offered, is_requested, is_only, no_service, too_many, within, still_few, all_taken}
use Rattle.fl_world.proofs.world.World.request.Goals as goal

pub returns-then-offered-interface-clause-request : goal.returns-then-offered-interface-clause-request
returns-then-offered-interface-clause-request c =
    let there : c.has_dispatcher.result ≡ true = search rules in
    not_offered c.args.self.now _ c.self.view_is c.args.client c.args.interface c.args.service.now (sym c.has_dispatcher.ensures.has ∙ there)
    c.as_slice.result.now c.as_slice.ensures.value c.if-as_slice-interface.false c.as_slice-2.result.now c.as_slice-2.ensures.value
    c.if-as_slice-ge-MAX_BINDINGS.false c.in-Ok.found c.in-Ok.ensures.found c.if-offered-interface.true

pub returns-clause-request : goal.returns-clause-request
returns-clause-request c =
    let there : c.has_dispatcher.result ≡ true = search rules in
    is_requested c.args.self.now _ c.self.view_is c.args.client c.args.interface c.args.service.now (sym c.has_dispatcher.ensures.has ∙ there)
    c.as_slice.result.now c.as_slice.ensures.value c.if-as_slice-interface.false c.as_slice-2.result.now c.as_slice-2.ensures.value
    c.if-as_slice-ge-MAX_BINDINGS.false c.in-Ok.found c.in-Ok.ensures.found c.if-offered-interface.false c.from.result c.from.ensures

pub returns-in_default-clause-request : goal.returns-in_default-clause-request
returns-in_default-clause-request c =
    no_service (id_of c.args.client) c.args.interface c.args.service.now c.args.self.now (sym c.if-not-has_dispatcher.ensures.has)
    (within c.args.self.now _ c.self.view_is (λ (x : TheWorld). x.programs) _ c.as_slice.ensures.value _ c.if-as_slice-interface.false)
    (still_few c.args.self.now _ c.self.view_is _ c.as_slice-2.ensures.value c.if-as_slice-ge-MAX_BINDINGS.false)
    (subst (λ (x : TheWorld). by_name c.args.service.now x.names ≡ None) c.self.view_is c.in_default.ensures.unknown)

pub returns-then-as_slice-ge-MAX_BINDINGS-clause-request : goal.returns-then-as_slice-ge-MAX_BINDINGS-clause-request
returns-then-as_slice-ge-MAX_BINDINGS-clause-request c =
    too_many (id_of c.args.client) c.args.interface c.args.service.now c.args.self.now (sym c.if-not-has_dispatcher.ensures.has)
    (within c.args.self.now _ c.self.view_is (λ (x : TheWorld). x.programs) _ c.as_slice.ensures.value _ c.if-as_slice-interface.false)
    (all_taken c.args.self.now _ c.self.view_is _ c.as_slice-2.ensures.value c.if-as_slice-ge-MAX_BINDINGS.true)

pub returns-clause-program : goal.returns-clause-program
returns-clause-program c = within c.args.self.now _ c.self.view_is (λ (x : TheWorld). x.programs) _ c.as_slice.ensures.value _ c.if-as_slice-interface.false

pub returns-clause-few : goal.returns-clause-few
returns-clause-few c = still_few c.args.self.now _ c.self.view_is _ c.as_slice-2.ensures.value c.if-as_slice-ge-MAX_BINDINGS.false

pub returns-clause-only : goal.returns-clause-only
returns-clause-only c =
    let there : c.has_dispatcher.result ≡ true = search rules in
    is_only c.args.self.now _ c.self.view_is c.args.client c.args.interface c.args.service.now (sym c.has_dispatcher.ensures.has ∙ there)
    c.as_slice.result.now c.as_slice.ensures.value c.if-as_slice-interface.false c.as_slice-2.result.now c.as_slice-2.ensures.value
    c.if-as_slice-ge-MAX_BINDINGS.false c.in-Ok.found c.in-Ok.ensures.found c.if-offered-interface.false c.from.result c.from.ensures
