use Rattle.std.proofs.Common.{◌≡◌, refl, arith, sym, ap, ◌∙◌, length}
use Rattle.std.proofs.lemmas.List.{with_items_is}
use Rattle.std.specs.Vec.{with_items}
use Rattle.fl_model.specs.Views.{id_of}
use Rattle.fl_world.proofs.RingEnds.{lent_room, as_many_joined, joins_in}
use Rattle.fl_world.proofs.Kept.{no_answer, on_any, same_parts, few_again}
use Rattle.fl_world.proofs.world.World.join_ends.Goals as goal

pub join_parts-requires-clause-client : goal.join_parts-requires-clause-client
join_parts-requires-clause-client c =
    lent_room c.args.self.now _ c.self.view_is c.as_mut_slice.result.now c.as_mut_slice.ensures.value (id_of c.args.client.at) c.args.client.name c.requires.client

pub join_parts-requires-clause-server : goal.join_parts-requires-clause-server
join_parts-requires-clause-server c =
    lent_room c.args.self.now _ c.self.view_is c.as_mut_slice.result.now c.as_mut_slice.ensures.value (id_of c.args.server.at) c.args.server.name c.requires.server

pub returns-clause-joins : goal.returns-clause-joins
returns-clause-joins c =
    let joins = c.in_ok-join_parts.ensures.joins in
    let many = as_many_joined c.args.client c.args.server c.args.ring c.as_mut_slice.result.now c.join_parts.new.cores joins in
    let left : (with_items c.self.inside.cores c.join_parts.new.cores).items ≡ c.join_parts.new.cores =
    with_items_is c.self.inside.cores c.join_parts.new.cores (omega (arith, many, c.as_mut_slice.ensures.len)) in (
      refl,
      joins_in c.args.client c.args.server c.args.ring c.args.binding c.args.self.now _ c.self.view_is c.as_mut_slice.result.now c.join_parts.new.cores _
          c.as_mut_slice.ensures.value left joins _ c.in_ok-join_parts.ensures.rings _ c.in_ok-join_parts.ensures.bindings,
    )

pub join_parts-requires-clause-few : goal.join_parts-requires-clause-few
join_parts-requires-clause-few c = few_again c.as_mut_slice.result.now c.self.inside.cores.items (ap length c.as_mut_slice.ensures.value) c.self.invariant

pub join_parts-requires-clause-client_few : goal.join_parts-requires-clause-client_few
join_parts-requires-clause-client_few c = c.requires.client_few

pub join_parts-requires-clause-server_few : goal.join_parts-requires-clause-server_few
join_parts-requires-clause-server_few c = c.requires.server_few

pub join_parts-requires-clause-apart : goal.join_parts-requires-clause-apart
join_parts-requires-clause-apart c = c.requires.apart

pub invariant_of-self : goal.invariant_of-self
invariant_of-self c = few_again _ c.self.inside.cores.items (sym (with_items c.self.inside.cores c.join_parts.new.cores).ok.0 ∙ c.self.inside.cores.ok.0) c.self.invariant

pub invariant_of-self-2 : goal.invariant_of-self-2
invariant_of-self-2 c = few_again _ c.self.inside.cores.items (sym (with_items c.self.inside.cores c.join_parts.new.cores).ok.0 ∙ c.self.inside.cores.ok.0) c.self.invariant

pub returns-in_err-join_parts-clause-joins : goal.returns-in_err-join_parts-clause-joins
returns-in_err-join_parts-clause-joins c = no_answer _ c.from_residual.result c.from_residual.ensures.0

pub returns-in_err-join_parts-clause-kept : goal.returns-in_err-join_parts-clause-kept
returns-in_err-join_parts-clause-kept c = on_any _ c.from_residual.result (same_parts c.args.self.now _ c.self.view_is _ _ _ _ (with_items_is c.self.inside.cores c.join_parts.new.cores (ap length c.in_err-join_parts.ensures.kept ∙ c.as_mut_slice.ensures.len) ∙ c.in_err-join_parts.ensures.kept ∙ c.as_mut_slice.ensures.value) c.in_err-join_parts.ensures.kept_rings refl c.in_err-join_parts.ensures.kept_bindings)
