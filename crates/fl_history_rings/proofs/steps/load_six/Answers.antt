use Rattle.std.proofs.Common.{◌∙◌, refl, sym, take, arith, length-set}
use Rattle.std.proofs.lemmas.List.{take_more_set}
use Rattle.fl_history_rings.specs.Rule.{control_in}
use Rattle.fl_history_rings.specs.Seats.{view_at}
use Rattle.fl_history_rings.proofs.Rows.{take_fits, take_low, load_may, after_load}
use Rattle.fl_history_rings.proofs.Payload.{taken_length, none_loaded, one_loaded}
use Rattle.fl_history_rings.proofs.steps.load_six.Goals as goal

pub loop-k-init : goal.loop-k-init
loop-k-init c = record { table = refl; loaded = none_loaded _ c.args.top.now.key c.args.seat.now c.args.place.now c.requires.seated c.requires.reading; seven = refl }

pub word-requires : goal.word-requires
word-requires c =
    let r = c.requires in
    let f = take_fits _ _ c.args.seat.now r.seated c.args.place.now r.place in
    record { fits = (omega (arith, f.0, f.1), omega arith) }

pub load-requires : goal.load-requires
load-requires c =
    let r = c.requires in
    let inv = c.loop-k.invariant in
    let k = c.loop-k.k in
    let words = c.loop-k.words in (
      inv.table ∙ r.seated.same,
      take_low _ _ c.args.seat.now r.seated c.args.place.now r.place c.word.result k (omega arith) c.word.ensures,
      load_may _ c.args.top.now.key c.args.seat.now r.seated c.args.place.now r.place (take k words) (control_in (view_at c.args.seat.now).knows) r.reading.due _ inv.loaded k c.word.result (taken_length k words inv.seven (omega arith)) c.word.ensures (omega arith) _ _,
    )

pub loop-k-preserved : goal.loop-k-preserved
loop-k-preserved c =
    let r = c.requires in
    let inv = c.loop-k.invariant in
    let k = c.loop-k.k in
    let words = c.loop-k.words in
    let now = after_load _ c.args.top.now.key c.args.seat.now r.seated c.args.place.now r.place (take k words) (control_in (view_at c.args.seat.now).knows) r.reading.due _ inv.loaded k c.word.result (taken_length k words inv.seven (omega arith)) c.word.ensures (omega arith) 0 c.load.result _ c.load.ensures.2 in
    record {
      table = c.load.ensures.0 ∙ inv.table;
      loaded = one_loaded (view_at c.args.seat.now) c.args.place.now.side (control_in (view_at c.args.seat.now).knows) (take k words) _ c.load.result _ now (sym (take_more_set words k c.load.result (omega (arith, inv.seven))));
      seven = length-set words k c.load.result ∙ inv.seven;
    }
