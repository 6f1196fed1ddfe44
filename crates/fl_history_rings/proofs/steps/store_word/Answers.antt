use Rattle.std.proofs.Common.{◌∙◌, [], ◌∷◌, ◌++◌, ap, arith, ℕ}
use Rattle.fl_history_rings.specs.Seats.{view_at}
use Rattle.fl_history_rings.specs.Rule.{alone, part_in, view_of}
use Rattle.fl_history_rings.specs.declared.board.Insight.TheVariants.{Writing}
use Rattle.fl_history_rings.proofs.Rows.{put_fits, put_low, found_may, after_found, stored_may, after_stored, word_stands}
use Rattle.fl_history_rings.proofs.steps.store_word.Goals as goal

pub word-word-requires : goal.word-word-requires
word-word-requires c =
    let r = c.requires in
    let f = put_fits _ _ c.args.seat.now r.seated c.args.place.now r.place in
    let low = r.next.seven in
    record { fits = (omega (arith, f.0, f.1), omega (arith, low)) }

pub load-found-requires : goal.load-found-requires
load-found-requires c =
    let r = c.requires in
    let low = r.next.seven in (
      r.seated.same,
      put_low _ _ c.args.seat.now r.seated c.args.place.now r.place c.word-word.result c.args.k (omega (arith, low)) c.word-word.ensures,
      found_may _ c.args.top.now.key c.args.seat.now r.seated c.args.place.now r.place c.args.k c.word-word.result r.next c.word-word.ensures _ _,
    )

pub store-requires : goal.store-requires
store-requires c =
    let r = c.requires in
    let low = r.next.seven in
    let found = after_found _ c.args.top.now.key c.args.seat.now r.seated c.args.place.now r.place c.args.k c.word-word.result r.next c.word-word.ensures 0 c.load-found.result _ c.load-found.ensures.2 in (
      c.load-found.ensures.0 ∙ r.seated.same,
      put_low _ _ c.args.seat.now r.seated c.args.place.now r.place c.word-word.result c.args.k (omega (arith, low)) c.word-word.ensures,
      stored_may _ c.args.top.now.key c.args.seat.now r.seated c.args.place.now r.place c.args.k c.word-word.result r.next c.word-word.ensures r.room _ _ c.args.number c.load-found.result _ found,
    )

pub returns-then-found-number : goal.returns-then-found-number
returns-then-found-number c =
    let r = c.requires in
    let found = after_found _ c.args.top.now.key c.args.seat.now r.seated c.args.place.now r.place c.args.k c.word-word.result r.next c.word-word.ensures 0 c.load-found.result _ c.load-found.ensures.2 in
    let h = view_at c.args.seat.now in
    record {
      table = c.load-found.ensures.0;
      stands = word_stands _ c.args.top.now.key c.args.seat.now r.seated c.args.place.now r.place c.args.k c.word-word.result r.next c.word-word.ensures c.args.number _
          (found ∙ ap (λ (x : ℕ). alone (view_of c.args.top.now.key.sides.items h.core h.steps (Writing c.args.place.now.side (part_in h.knows ++ x ∷ [])))) c.if-found-number.true);
    }

pub returns : goal.returns
returns c =
    let r = c.requires in
    let found = after_found _ c.args.top.now.key c.args.seat.now r.seated c.args.place.now r.place c.args.k c.word-word.result r.next c.word-word.ensures 0 c.load-found.result _ c.load-found.ensures.2 in
    record {
      table = c.store.ensures.0 ∙ c.load-found.ensures.0;
      stands = word_stands _ c.args.top.now.key c.args.seat.now r.seated c.args.place.now r.place c.args.k c.word-word.result r.next c.word-word.ensures c.args.number _
          (after_stored _ c.args.top.now.key c.args.seat.now r.seated c.args.place.now r.place c.args.k c.word-word.result r.next c.word-word.ensures 0 c.args.number c.load-found.result _ _ found c.store.ensures.2);
    }
