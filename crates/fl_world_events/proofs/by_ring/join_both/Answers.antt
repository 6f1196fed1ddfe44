use Rattle.std.proofs.Common.{ap, length-set, slice_set, slice_index_or, arith}
use Rattle.fl_model.specs.Views.{id_of}
use Rattle.fl_world_events.proofs.RingEnds.{room_below, room_there, room_new, second_there, second_new, has_new, none_left, first_registers, joins_both}
use Rattle.fl_world_events.proofs.by_ring.join_both.Goals as goal

pub bounds-cores-a : goal.bounds-cores-a
bounds-cores-a c =
    room_below c.args.cores.now (id_of c.args.client.at) c.args.client.name c.requires.client

pub offset_bounds-cores-a : goal.offset_bounds-cores-a
offset_bounds-cores-a c =
    let below = room_below c.args.cores.now (id_of c.args.client.at) c.args.client.name c.requires.client in
    omega (arith, below, c.requires.few)

pub bounds-cores-b : goal.bounds-cores-b
bounds-cores-b c =
    let below = room_below c.args.cores.now (id_of c.args.server.at) c.args.server.name c.requires.server in
    let one = length-set c.args.cores.now c.args.client.at.core c.add_end.new.core in
    omega (arith, below, one)

pub offset_bounds-cores-b : goal.offset_bounds-cores-b
offset_bounds-cores-b c =
    let below = room_below c.args.cores.now (id_of c.args.server.at) c.args.server.name c.requires.server in
    omega (arith, below, c.requires.few)

pub bounds-cores-a-in-Err : goal.bounds-cores-a-in-Err
bounds-cores-a-in-Err c =
    let below = room_below c.args.cores.now (id_of c.args.client.at) c.args.client.name c.requires.client in
    let with_first = slice_set c.args.cores.now c.args.client.at.core c.add_end.new.core in
    let one = length-set c.args.cores.now c.args.client.at.core c.add_end.new.core in
    let both = length-set with_first c.args.server.at.core c.join_end.new.core in
    omega (arith, below, one, both)

pub offset_bounds-cores-a-in-Err : goal.offset_bounds-cores-a-in-Err
offset_bounds-cores-a-in-Err c =
    let below = room_below c.args.cores.now (id_of c.args.client.at) c.args.client.name c.requires.client in
    omega (arith, below, c.requires.few)

pub bounds-cores-a-2 : goal.bounds-cores-a-2
bounds-cores-a-2 c =
    let below = room_below c.args.cores.now (id_of c.args.client.at) c.args.client.name c.requires.client in
    let with_first = slice_set c.args.cores.now c.args.client.at.core c.add_end.new.core in
    let one = length-set c.args.cores.now c.args.client.at.core c.add_end.new.core in
    let both = length-set with_first c.args.server.at.core c.join_end.new.core in
    omega (arith, below, one, both)

pub offset_bounds-cores-a-2 : goal.offset_bounds-cores-a-2
offset_bounds-cores-a-2 c =
    let below = room_below c.args.cores.now (id_of c.args.client.at) c.args.client.name c.requires.client in
    omega (arith, below, c.requires.few)

pub add_end-requires-clause-dispatcher : goal.add_end-requires-clause-dispatcher
add_end-requires-clause-dispatcher c =
    room_there c.args.cores.now (id_of c.args.client.at) c.args.client.name c.requires.client _ (ap (slice_index_or c.args.cores.now c.args.client.at.core) c.index-cores-a.is)

pub add_end-requires-clause-new : goal.add_end-requires-clause-new
add_end-requires-clause-new c =
    room_new c.args.cores.now (id_of c.args.client.at) c.args.client.name c.requires.client _ (ap (slice_index_or c.args.cores.now c.args.client.at.core) c.index-cores-a.is)

pub join_end-requires-clause-dispatcher : goal.join_end-requires-clause-dispatcher
join_end-requires-clause-dispatcher c =
    let k_is = ap (slice_index_or c.args.cores.now c.args.client.at.core) c.index-cores-a.is in
    let with_first = slice_set c.args.cores.now c.args.client.at.core c.add_end.new.core in
    let l_is = ap (slice_index_or with_first c.args.server.at.core) c.index-cores-b.is in
    second_there c.args.client c.args.server c.args.ring.now c.args.cores.now c.requires.client c.requires.server c.requires.apart _ c.add_end.new.core _ k_is c.add_end.ensures.whole c.in_ok-place.place c.in_ok-place.ensures.adds l_is

pub join_end-requires-clause-new : goal.join_end-requires-clause-new
join_end-requires-clause-new c =
    let k_is = ap (slice_index_or c.args.cores.now c.args.client.at.core) c.index-cores-a.is in
    let with_first = slice_set c.args.cores.now c.args.client.at.core c.add_end.new.core in
    let l_is = ap (slice_index_or with_first c.args.server.at.core) c.index-cores-b.is in
    second_new c.args.client c.args.server c.args.ring.now c.args.cores.now c.requires.client c.requires.server c.requires.apart _ c.add_end.new.core _ k_is c.add_end.ensures.whole c.in_ok-place.place c.in_ok-place.ensures.adds l_is

pub take_back_end-requires : goal.take_back_end-requires
take_back_end-requires c =
    let k_is = ap (slice_index_or c.args.cores.now c.args.client.at.core) c.index-cores-a.is in
    let with_first = slice_set c.args.cores.now c.args.client.at.core c.add_end.new.core in
    let l_is = ap (slice_index_or with_first c.args.server.at.core) c.index-cores-b.is in
    let with_both = slice_set with_first c.args.server.at.core c.join_end.new.core in
    let m_is = ap (slice_index_or with_both c.args.client.at.core) c.index-cores-a-in-Err.is in
    has_new c.args.client c.args.server c.args.ring.now c.args.cores.now c.requires.client c.requires.server c.requires.apart _ c.add_end.new.core _ k_is c.add_end.ensures.whole c.in_ok-place.place c.in_ok-place.ensures.adds l_is c.join_end.new.core _ m_is c.requires.client_few

pub returns-in-Err-clause-kept : goal.returns-in-Err-clause-kept
returns-in-Err-clause-kept c =
    let k_is = ap (slice_index_or c.args.cores.now c.args.client.at.core) c.index-cores-a.is in
    let with_first = slice_set c.args.cores.now c.args.client.at.core c.add_end.new.core in
    let l_is = ap (slice_index_or with_first c.args.server.at.core) c.index-cores-b.is in
    let with_both = slice_set with_first c.args.server.at.core c.join_end.new.core in
    let m_is = ap (slice_index_or with_both c.args.client.at.core) c.index-cores-a-in-Err.is in
    none_left c.args.client c.args.server c.args.ring.now c.args.cores.now c.requires.client c.requires.server c.requires.apart _ c.add_end.new.core _ k_is c.add_end.ensures.whole c.in_ok-place.place c.in_ok-place.ensures.adds l_is c.join_end.new.core _ m_is c.requires.client_few c.in-Err.ensures.kept c.take_back_end.new.self c.take_back_end.ensures.before

pub register_end-requires : goal.register_end-requires
register_end-requires c =
    let k_is = ap (slice_index_or c.args.cores.now c.args.client.at.core) c.index-cores-a.is in
    let with_first = slice_set c.args.cores.now c.args.client.at.core c.add_end.new.core in
    let l_is = ap (slice_index_or with_first c.args.server.at.core) c.index-cores-b.is in
    let with_both = slice_set with_first c.args.server.at.core c.join_end.new.core in
    let m_is = ap (slice_index_or with_both c.args.client.at.core) c.index-cores-a-2.is in
    record { ring = first_registers c.args.client c.args.server c.args.ring.now c.args.cores.now c.requires.client c.requires.server c.requires.apart _ c.add_end.new.core _ k_is c.add_end.ensures.whole c.in_ok-place.place c.in_ok-place.ensures.adds l_is c.join_end.new.core _ m_is }

pub returns-clause-joins : goal.returns-clause-joins
returns-clause-joins c =
    let k_is = ap (slice_index_or c.args.cores.now c.args.client.at.core) c.index-cores-a.is in
    let with_first = slice_set c.args.cores.now c.args.client.at.core c.add_end.new.core in
    let l_is = ap (slice_index_or with_first c.args.server.at.core) c.index-cores-b.is in
    let with_both = slice_set with_first c.args.server.at.core c.join_end.new.core in
    let m_is = ap (slice_index_or with_both c.args.client.at.core) c.index-cores-a-2.is in
    joins_both c.args.client c.args.server c.args.ring.now c.args.cores.now c.requires.client c.requires.server c.requires.apart _ c.add_end.new.core _ k_is c.add_end.ensures.whole c.in_ok-place.place c.in_ok-place.ensures.adds l_is c.join_end.new.core _ m_is c.register_end.new.core c.join_end.new.ring c.join_end.ensures.same c.in_default.ensures.joins c.register_end.ensures.registers
