use Rattle.std.proofs.Common.{◌∙◌, [], refl, take, arith, ap, ◌≡◌, ◌++◌, ◌∷◌, sym, Option, Some}
use Rattle.std.proofs.lemmas.List.{length-take-le}
use Rattle.fl_base.specs.declared.fragment.Frag.{Frag}
use Rattle.fl_history_rings.specs.declared.board.Action.TheVariants.{Found, Saw}
use Rattle.fl_history_rings.specs.declared.board.Insight.TheVariants.{Nothing, Reading}
use Rattle.fl_history_rings.specs.Rule.{alone, with_action, control_in, seen_at}
use Rattle.fl_ring.specs.SharedWay.{frag_from}
use Rattle.fl_history_rings.specs.Seats.{view_at}
use Rattle.fl_history_rings.proofs.Rows.{take_fits, take_low, seated_acting, see_may, after_see, found_place, found_control, found_reading, found_then, found_seen, again_frag, the_frag}
use Rattle.fl_history_rings.proofs.steps.look_at.Goals as goal

pub load_six-words-requires : goal.load_six-words-requires
load_six-words-requires c =
    let r = c.requires in
    let found = c.in_ok-control.ensures.found in
    let control = c.in_ok-control.control in
    let seated = seated_acting _ c.args.top.now.key c.args.seat.now r.seated c.load_control.new.seat c.args.place.now.side (Found control) (Reading c.args.place.now.side [] control) c.load_control.ensures.table found.1 in
    record {
      seated = seated;
      place = found_place _ c.args.top.now.key c.args.seat.now c.load_control.new.seat r.seated c.args.place.now control found.1 r.place;
      reading = found_reading _ c.args.top.now.key c.args.seat.now c.load_control.new.seat r.seated c.args.place.now control found.1 found.0;
    }

pub word-requires : goal.word-requires
word-requires c =
    let r = c.requires in
    let f = take_fits _ _ c.args.seat.now r.seated c.args.place.now r.place in
    record { fits = (omega (arith, f.0, f.1), omega arith) }

pub load-requires : goal.load-requires
load-requires c =
    let r = c.requires in
    let found = c.in_ok-control.ensures.found in
    let control = c.in_ok-control.control in
    let six = c.load_six-words.ensures in
    let new = c.load_control.new.seat in
    let seated = seated_acting _ c.args.top.now.key c.args.seat.now r.seated new c.args.place.now.side (Found control) (Reading c.args.place.now.side [] control) c.load_control.ensures.table found.1 in
    let place = found_place _ c.args.top.now.key c.args.seat.now new r.seated c.args.place.now control found.1 r.place in
    let reading = found_reading _ c.args.top.now.key c.args.seat.now new r.seated c.args.place.now control found.1 found.0 in (
      six.table ∙ (c.load_control.ensures.table ∙ r.seated.same),
      take_low _ _ c.args.seat.now r.seated c.args.place.now r.place c.word.result 6 (omega arith) c.word.ensures,
      see_may _ c.args.top.now.key new seated c.args.place.now place (take 6 c.load_six-words.result) (control_in (view_at new).knows) reading.due _ six.loaded 6 c.word.result (length-take-le 6 c.load_six-words.result (omega (arith, six.seven))) c.word.ensures refl _ _,
    )

pub returns-in_err-control-clause-again : goal.returns-in_err-control-clause-again
returns-in_err-control-clause-again c = λ f was. let stands = c.load_control.ensures.again f was in let none = c.in_err-control.was in absurd (cc)

pub returns : goal.returns
returns c =
    let r = c.requires in
    let found = c.in_ok-control.ensures.found in
    let control = c.in_ok-control.control in
    let six = c.load_six-words.ensures in
    let new = c.load_control.new.seat in
    let seated = seated_acting _ c.args.top.now.key c.args.seat.now r.seated new c.args.place.now.side (Found control) (Reading c.args.place.now.side [] control) c.load_control.ensures.table found.1 in
    let place = found_place _ c.args.top.now.key c.args.seat.now new r.seated c.args.place.now control found.1 r.place in
    let reading = found_reading _ c.args.top.now.key c.args.seat.now new r.seated c.args.place.now control found.1 found.0 in
    let words = c.load_six-words.result in
    let done = after_see _ c.args.top.now.key new seated c.args.place.now place (take 6 words) (control_in (view_at new).knows) reading.due _ six.loaded 6 c.word.result (length-take-le 6 words (omega (arith, six.seven))) c.word.ensures refl 0 c.load.result _ c.load.ensures.2 in
    let frag = the_frag words c.load.result control (control_in (view_at new).knows) six.seven (found_control _ c.args.top.now.key c.args.seat.now new r.seated c.args.place.now control found.1) in
    let took = done ∙ ap (λ (f : Frag). alone (with_action (view_at new) c.args.place.now.side (Saw f) Nothing)) frag in
    let again : (f : Frag) → seen_at c.args.place.now.side (view_at c.args.seat.now).steps ≡ Some f → frag_from (take 6 words ++ c.load.result ∷ []) (control_in (view_at new).knows) ≡ f =
    λ f was.
    again_frag _ c.args.top.now.key new seated c.args.place.now place (take 6 words) (control_in (view_at new).knows) reading.due _ six.loaded 6 c.word.result (length-take-le 6 words (omega (arith, six.seven))) c.word.ensures 0 c.load.result refl c.load.ensures.2.1 f
    (found_seen _ c.args.top.now.key c.args.seat.now new r.seated c.args.place.now control found.1 f was) in
    record {
      seated = seated_acting _ c.args.top.now.key new seated c.load.new.seat c.args.place.now.side (Saw _) Nothing (c.load.ensures.0 ∙ six.table) took;
      noted = (found_then _ c.args.top.now.key c.args.seat.now new r.seated c.args.place.now control found.1 (Saw _) _ took, found.2);
      again = λ f was. ap (λ (g : Frag). let o : Option Frag = Some g in o) (sym frag ∙ again f was);
    }
