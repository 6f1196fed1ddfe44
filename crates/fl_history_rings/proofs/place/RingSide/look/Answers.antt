use Rattle.std.proofs.Common.{subst, sym, ℕ, ◌∙◌, ap}
use Rattle.fl_history_rings.specs.declared.place.RingSide.{RingSide}
use Rattle.fl_history_rings.specs.Rule.{seen_at}
use Rattle.fl_history_rings.specs.Seats.{view_at}
use Rattle.fl_history_rings.specs.Sides.{StepsBy}
use Rattle.fl_history_rings.proofs.SideCalls.{same_table, side_missed, side_saw, side_few}
use Rattle.fl_history_rings.proofs.place.RingSide.look.Goals as goal

pub look_at-requires : goal.look_at-requires
look_at-requires c = record { seated = c.requires.seated; place = c.requires.mine.take; rest = c.requires.rest }

pub returns-in_err-frag-clause-mine : goal.returns-in_err-frag-clause-mine
returns-in_err-frag-clause-mine c =
    let r = c.requires in
    let e = c.look_at.ensures in
    (side_missed _ c.args.seat.now c.look_at.new.seat c.args.self.now (same_table _ _ _ _ r.seated e.seated) r.mine c.in_err-frag.ensures.noted).2

pub returns-in_err-frag-clause-again : goal.returns-in_err-frag-clause-again
returns-in_err-frag-clause-again c = λ f was.
    let stands = c.look_at.ensures.again f (ap (λ (s : ℕ). seen_at s (view_at c.args.seat.now).steps) c.requires.mine.one ∙ was) in
    let none = c.in_err-frag.was in
    absurd (cc)

pub learn-requires : goal.learn-requires
learn-requires c = record { few = (side_few _ _ _ _ c.requires.seated c.requires.mine).0 }

pub returns : goal.returns
returns c =
    let r = c.requires in
    let e = c.look_at.ensures in
    let found = c.in_ok-frag.ensures.noted in
    let so = side_saw _ c.args.seat.now c.look_at.new.seat c.args.self.now (same_table _ _ _ _ r.seated e.seated) r.mine c.in_ok-frag.frag found.0 found.1 in
    let known = c.learn.ensures.known in
    record {
      seated = e.seated;
      rest = so.0;
      core = so.1;
      mine = subst (λ (a : RingSide). StepsBy c.args.top.now.key.sides.items (view_at c.look_at.new.seat) a) (sym known) so.2;
      noted = (so.3, known);
      again = λ f was.
          let stands = c.look_at.ensures.again f (ap (λ (s : ℕ). seen_at s (view_at c.args.seat.now).steps) r.mine.one ∙ was) in
          let some = c.in_ok-frag.was in
          cc;
    }
