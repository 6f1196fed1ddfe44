use Rattle.std.proofs.Common.{◌∙◌, map, arith}
use Rattle.std.proofs.lemmas.List.{length-map}
use Rattle.fl_interface.specs.Interface.{arg_type_of}
use Rattle.fl_codec.proofs.Kept.{none_ranked, rank_room, rank_more, all_ranked}
use Rattle.fl_codec.proofs.placing.placing_of.Goals as goal

pub loop-rank-init : goal.loop-rank-init
loop-rank-init c = none_ranked c.args.plan (map arg_type_of c.args.arguments.now) c.new-placing.result c.new-placing.ensures.sound c.new-placing.ensures.none c.new-placing.ensures.start

pub push_rank-requires : goal.push_rank-requires
push_rank-requires c =
    let args = c.args.arguments.now in
    let many = length-map args arg_type_of in
    record {
      sound = c.loop-rank.invariant.sound;
      numbers = c.requires.numbers;
      room = rank_room c.args.plan (map arg_type_of args) c.loop-rank.rank c.loop-rank.placing c.loop-rank-test.true (omega (arith, many, c.requires.few)) c.loop-rank.invariant;
    }

pub loop-rank-preserved : goal.loop-rank-preserved
loop-rank-preserved c =
    rank_more c.args.plan (map arg_type_of c.args.arguments.now) c.loop-rank.rank c.loop-rank.placing c.push_rank.new.self c.loop-rank-test.true c.loop-rank.invariant
    c.push_rank.ensures.sound c.push_rank.ensures.goes_on

pub returns : goal.returns
returns c =
    let args = c.args.arguments.now in
    let all = all_ranked c.args.plan (map arg_type_of args) c.loop-rank.rank c.loop-rank.placing c.loop-rank-test.false c.loop-rank.invariant in
    record { sound = c.loop-rank.invariant.sound; many = all.many ∙ length-map args arg_type_of; placed = all.placed }
