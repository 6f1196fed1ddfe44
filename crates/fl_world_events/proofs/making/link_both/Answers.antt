use Rattle.std.proofs.Common.{◌∙◌, ap, slice_set, slice_index_or}
use Rattle.fl_world_events.proofs.Makes.{still_there, taken_back, links_both}
use Rattle.fl_world_events.proofs.making.link_both.Goals as goal

pub returns-in-Err-clause-kept : goal.returns-in-Err-clause-kept
returns-in-Err-clause-kept c =
    let linked_one = slice_set c.args.cores.now c.args.a c.link.new.core in
    let first = ap (slice_index_or c.args.cores.now c.args.a) c.index-cores-a.is in
    let second = ap (slice_index_or linked_one c.args.b) c.index-cores-b.is in
    let third = ap (slice_index_or (slice_set linked_one c.args.b c.link-2.new.core) c.args.a) c.index-cores-a-in-Err.is in
    let there = still_there c.args.cores.now c.args.a c.args.b _ _ _ _ c.requires.a second c.in-Err.ensures.kept third in
    taken_back c.args.cores.now c.args.a c.args.b _ _ _ _ _ first second c.in-Err.ensures.kept
    (c.unlink.ensures.before _ _ _ (there ∙ c.in_ok-link.ensures.links))

pub returns-clause-links : goal.returns-clause-links
returns-clause-links c =
    let linked_one = slice_set c.args.cores.now c.args.a c.link.new.core in
    let first = ap (slice_index_or c.args.cores.now c.args.a) c.index-cores-a.is in
    let second = ap (slice_index_or linked_one c.args.b) c.index-cores-b.is in
    links_both c.args.cores.now c.args.a c.args.b c.args.side c.requires.a c.requires.b c.requires.apart _ _ _ _
    c.link.ensures.whole first c.in_ok-link.ensures.links c.link-2.ensures.whole second c.in_default.ensures.links
