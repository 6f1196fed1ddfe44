use Rattle.std.proofs.Common.{ℕ, ◌∙◌, ap, sym, arith, Option, Some}
use Rattle.fl_history_rings.specs.declared.board.Action.TheVariants.{Found, Missed}
use Rattle.fl_history_rings.specs.declared.board.Insight.TheVariants.{Nothing}
use Rattle.fl_history_rings.proofs.Rows.{seated_acting, take_fits, take_low, count_may, after_counted, after_no_count, counts_within, again_control}
use Rattle.fl_history_rings.proofs.steps.count.Goals as goal

pub word-requires : goal.word-requires
word-requires c =
    let r = c.requires in
    let f = take_fits _ _ c.args.seat.now r.seated c.args.place.now r.place in
    record { fits = (omega (arith, f.0, f.1), omega arith) }

pub load-control-requires : goal.load-control-requires
load-control-requires c =
    let r = c.requires in (
      r.seated.same,
      take_low _ _ c.args.seat.now r.seated c.args.place.now r.place c.word.result 7 (omega arith) c.word.ensures,
      count_may _ c.args.top.now.key c.args.seat.now r.seated c.args.place.now r.place c.word.result c.word.ensures r.rest _ _,
    )

pub returns-then-epoch_of-epoch : goal.returns-then-epoch_of-epoch
returns-then-epoch_of-epoch c =
    let r = c.requires in
    let done = after_no_count _ c.args.top.now.key c.args.seat.now r.seated c.args.place.now r.place c.word.result c.word.ensures 0 c.load-control.result _ c.load-control.ensures.2 (λ e. c.if-epoch_of-epoch.true (c.epoch_of.ensures ∙ (e ∙ sym c.epoch.ensures.epoch))) in
    record {
      seated = seated_acting _ c.args.top.now.key c.args.seat.now r.seated _ c.args.place.now.side Missed Nothing c.load-control.ensures.0 done;
      found = done;
      again = λ frag was.
          let stands = again_control _ c.args.top.now.key c.args.seat.now r.seated c.args.place.now r.place c.word.result c.word.ensures 0 c.load-control.result c.load-control.ensures.2.3 frag was in
          absurd (c.if-epoch_of-epoch.true (c.epoch_of.ensures ∙ (stands.0 ∙ sym c.epoch.ensures.epoch)));
    }

pub returns : goal.returns
returns c =
    let r = c.requires in
    let due = sym c.epoch_of.ensures ∙ (c.if-epoch_of-epoch.false ∙ c.epoch.ensures.epoch) in
    let done = after_counted _ c.args.top.now.key c.args.seat.now r.seated c.args.place.now r.place c.word.result c.word.ensures 0 c.load-control.result _ c.load-control.ensures.2 due in
    record {
      seated = seated_acting _ c.args.top.now.key c.args.seat.now r.seated _ c.args.place.now.side (Found c.load-control.result) Nothing c.load-control.ensures.0 done;
      found = (done, counts_within _ c.args.top.now.key c.args.seat.now r.seated c.args.place.now r.place c.word.result c.word.ensures 0 c.load-control.result c.load-control.ensures.2.0 due, due);
      again = λ frag was.
          let stands = again_control _ c.args.top.now.key c.args.seat.now r.seated c.args.place.now r.place c.word.result c.word.ensures 0 c.load-control.result c.load-control.ensures.2.3 frag was in
          ap (λ (x : ℕ). let o : Option ℕ = Some x in o) (sym stands.1);
    }
