use Rattle.std.proofs.Common.{rules, ◌≡◌, ◌∙◌, length, arith}
use Rattle.fl_history_rings.specs.declared.board.Action.TheVariants.{Put}
use Rattle.fl_history_rings.specs.declared.board.Insight.TheVariants.{Nothing}
use Rattle.fl_history_rings.proofs.Rows.{put_fits, put_low, seated_acting, put_may, after_put}
use Rattle.fl_history_rings.proofs.steps.put_frag.Goals as goal

pub word-requires : goal.word-requires
word-requires c =
    let r = c.requires in
    let f = put_fits _ _ c.args.seat.now r.seated c.args.place.now r.place in
    record { fits = (omega (arith, f.0, f.1), omega arith) }

pub store-requires : goal.store-requires
store-requires c =
    let r = c.requires in
    let words = c.args.frag.now.words in
    let seven : length words ≡ 7 = search rules in (
      c.store_payload.ensures.table ∙ r.seated.same,
      put_low _ _ c.args.seat.now r.seated c.args.place.now r.place c.word.result 7 (omega arith) c.word.ensures,
      put_may _ c.args.top.now.key c.args.seat.now r.seated c.args.place.now r.place words c.args.frag.now.control c.word.result c.word.ensures _ c.store_payload.ensures.stored seven r.room r.unspent r.epoch r.number _ _,
    )

pub returns : goal.returns
returns c =
    let r = c.requires in
    let done = after_put _ c.args.top.now.key c.args.seat.now r.seated c.args.place.now r.place c.args.frag.now.words c.args.frag.now.control c.word.result c.word.ensures _ c.store_payload.ensures.stored 0 _ c.store.ensures.2 in
    record {
      seated = seated_acting _ c.args.top.now.key c.args.seat.now r.seated _ c.args.place.now.side (Put c.args.frag.now) Nothing (c.store.ensures.0 ∙ c.store_payload.ensures.table) done;
      noted = done;
    }
