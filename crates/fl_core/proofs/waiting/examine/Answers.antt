use Rattle.std.proofs.Common.{inl, inr, sym, subst}
use Rattle.fl_base.specs.Control.{bare}
use Rattle.fl_link.specs.Looks.{Look}
use Rattle.fl_lists.specs.declared.place.Place.TheVariants as place
use Rattle.fl_core.proofs.Picks.{first_polled, polled_ok}
use Rattle.fl_core.proofs.waiting.examine.Goals as goal

pub put_off-requires : goal.put_off-requires
put_off-requires g c = polled_ok c.args.waitset.now c.args.c c.requires.waitset.apart c.requires.first

pub put_off-requires-in-Acknowledgement : goal.put_off-requires-in-Acknowledgement
put_off-requires-in-Acknowledgement g c = polled_ok c.args.waitset.now c.args.c c.requires.waitset.apart c.requires.first

pub put_off-requires-in-Empty : goal.put_off-requires-in-Empty
put_off-requires-in-Empty g c = polled_ok c.args.waitset.now c.args.c c.requires.waitset.apart c.requires.first

pub returns-in-Data-clause-examines : goal.returns-in-Data-clause-examines
returns-in-Data-clause-examines g c = ((bare c.in-Data.field-0, c.in-Data.ensures.look), c.put_off.ensures.put_off place.Polled (first_polled c.args.waitset.now c.args.c c.requires.first))

pub returns-in-Acknowledgement-clause-examines : goal.returns-in-Acknowledgement-clause-examines
returns-in-Acknowledgement-clause-examines g c =
    let found = c.take.ensures.acknowledgement (sym c.in-Acknowledgement.ensures.front) in
    let took = subst (λ (look : Look). g.T.TakeSide.takes c.peek.new.self look c.take.new.self) found c.take.ensures.look in
    (inr (c.peek.new.self, c.in-Acknowledgement.ensures.look, took), c.put_off-in-Acknowledgement.ensures.put_off place.Polled (first_polled c.args.waitset.now c.args.c c.requires.first))

pub returns-in-Empty-clause-examines : goal.returns-in-Empty-clause-examines
returns-in-Empty-clause-examines g c = (inl c.in-Empty.ensures.look, c.put_off-in-Empty.ensures.put_off place.Polled (first_polled c.args.waitset.now c.args.c c.requires.first))
