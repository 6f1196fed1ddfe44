use Rattle.std.proofs.Common.{Option, refl, sym, subst}
use Rattle.fl_base.specs.declared.fragment.Frag.{Frag}
use Rattle.fl_base.specs.Control.{bare}
use Rattle.fl_link.specs.Looks.{Look, saw}
use Rattle.fl_ring.specs.SharedSides.{TheSide, SharedTakes}
use Rattle.fl_c_operations.specs.Seen.{IsAfterLook}
use Rattle.fl_c_operations.proofs.Receives.{bare_twice}
use Rattle.fl_c_operations.proofs.Looking.{unlooked}
use Rattle.fl_c_operations.proofs.glance.take_glance.Goals as goal

pub returns-then-not-between : goal.returns-then-not-between
returns-then-not-between c = record { glances = unlooked c.args.end.now c.args.between c.args.side.now.side c.args.side.now.seen c.requires.unseen }

pub returns-then-not-may_take : goal.returns-then-not-may_take
returns-then-not-may_take c = record { glances = unlooked c.args.end.now c.args.between c.args.side.now.side c.args.side.now.seen c.requires.unseen }

pub look-requires : goal.look-requires
look-requires c = record { unseen = c.requires.unseen }

pub returns-in-Empty : goal.returns-in-Empty
returns-in-Empty c = record { glances = (c.if-not-may_take.ensures.opened refl, c.in-Empty.ensures.look) }

pub take_acknowledgement-requires : goal.take_acknowledgement-requires
take_acknowledgement-requires c = record { unseen = c.look.ensures.none; acknowledgement = sym c.in-Acknowledgement.ensures.front }

pub returns-in-Acknowledgement : goal.returns-in-Acknowledgement
returns-in-Acknowledgement c = record { glances = (c.if-not-may_take.ensures.opened refl, (c.look.new.self.side, c.in-Acknowledgement.ensures.look, c.take_acknowledgement.ensures.takes)) }

pub keep-requires : goal.keep-requires
keep-requires c = record { front = sym c.in-Data.ensures.front; of_call = c.in-Data.ensures.of_call c.in-Data.frag refl }

-- the end has to be asked
pub returns-in_default : goal.returns-in_default
returns-in_default c =
    let kept = subst (λ (q : TheSide). SharedTakes c.args.side.now.side (saw (bare c.in-Data.frag)) q) (sym c.keep.ensures.side) c.in-Data.ensures.look in
    record {
      glances = (
        subst (λ (o : Option Frag). IsAfterLook c.args.end.now c.args.side.now.side o c.keep.new.self.side) (sym c.keep.ensures.seen) (c.if-not-may_take.ensures.opened refl, kept),
        λ some. c.if-not-between.false,
      );
    }

-- a short call is taken
pub returns-in-Some : goal.returns-in-Some
returns-in-Some c =
    let f = bare c.in-Data.frag in
    let m = c.look.new.self.side in
    let gets = subst (λ (l : Look). SharedTakes m l c.take_looked.new.self.side) (c.take_looked.ensures.data f (sym c.in-Data.ensures.front)) c.take_looked.ensures.look in
    record { glances = (c.if-not-between.false, (c.if-not-may_take.ensures.opened refl, (f, m, bare_twice c.in-Data.frag, c.in-Data.ensures.look, gets, c.in-Some.ensures.short))) }
