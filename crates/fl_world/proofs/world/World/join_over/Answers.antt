use Rattle.std.proofs.Common.{ℕ, ◌+◌, ◌<◌, sym, subst}
use Rattle.fl_base.specs.declared.identity.Side.TheVariants.{Client, Server}
use Rattle.fl_world.proofs.RingEnds.{client_room, server_room, joined_by, is_joiner}
use Rattle.fl_world.proofs.world.World.join_over.Goals as goal

pub join_ends-requires-clause-client : goal.join_ends-requires-clause-client
join_ends-requires-clause-client c =
    client_room c.args.self.now c.args.want.interface c.args.want.client _ _ _
    (is_joiner c.args.self.now c.args.want.interface c.args.want.client Client c.next_side-side.result c.in_ok-ends.ends.client c.in_ok-ends.ensures.client
    c.next_binding-binding.result c.next_binding-binding.ensures.next) c.requires.client c.requires.new_client

pub join_ends-requires-clause-server : goal.join_ends-requires-clause-server
join_ends-requires-clause-server c =
    server_room c.args.self.now c.args.want.interface c.args.want.server _ _ _
    (is_joiner c.args.self.now c.args.want.interface c.args.want.server Server (c.next_side-side.result + 1) c.in_ok-ends.ends.server
    c.in_ok-ends.ensures.server
    c.next_binding-binding.result c.next_binding-binding.ensures.next) c.requires.server c.requires.new_server

pub join_ends-requires-clause-client_few : goal.join_ends-requires-clause-client_few
join_ends-requires-clause-client_few c = subst (λ (n : ℕ). n < 1024) (sym c.next_binding-binding.ensures.next) c.requires.few

pub join_ends-requires-clause-server_few : goal.join_ends-requires-clause-server_few
join_ends-requires-clause-server_few c = subst (λ (n : ℕ). n < 1024) (sym c.next_binding-binding.ensures.next) c.requires.few

pub join_ends-requires-clause-apart : goal.join_ends-requires-clause-apart
join_ends-requires-clause-apart c = c.requires.apart

pub returns-clause-joins : goal.returns-clause-joins
returns-clause-joins c =
    joined_by c.args.want c.args.self.now c.next_side-side.result c.next_side-side.ensures.next _ _
    (is_joiner c.args.self.now c.args.want.interface c.args.want.client Client c.next_side-side.result c.in_ok-ends.ends.client c.in_ok-ends.ensures.client
    c.next_binding-binding.result c.next_binding-binding.ensures.next)
    (is_joiner c.args.self.now c.args.want.interface c.args.want.server Server (c.next_side-side.result + 1) c.in_ok-ends.ends.server
    c.in_ok-ends.ensures.server
    c.next_binding-binding.result c.next_binding-binding.ensures.next)
    c.args.ring c.requires.fresh c.join_ends.new.self c.join_ends.result c.join_ends.ensures.joins
