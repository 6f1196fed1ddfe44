use Rattle.std.proofs.Common.{ℕ, Option, Some, None, ◌≡◌, ◌≤◌, ◌∙◌, ap, refl, subst, sym, inl, inr, length}
use Rattle.fl_base.specs.declared.fragment.Frag.{Frag}
use Rattle.fl_base.specs.Control.{told_of}
use Rattle.fl_ring.specs.Counts.{count_from}
use Rattle.fl_history_rings.specs.declared.place.RingSide.{RingSide}
use Rattle.fl_history_rings.specs.Rule.{seen_at, puts_at}
use Rattle.fl_history_rings.specs.Seats.{view_at}
use Rattle.fl_history_rings.specs.Sides.{StepsBy}
use Rattle.fl_history_rings.proofs.SideCalls.{same_table, side_missed, side_counted, side_few, none_seen, seen_found, may_stand}
use Rattle.fl_history_rings.proofs.place.RingSide.count.Goals as goal

pub count-requires : goal.count-requires
count-requires c = record { seated = c.requires.seated; place = c.requires.mine.take; rest = c.requires.rest }

pub returns-in_default : goal.returns-in_default
returns-in_default c =
    let r = c.requires in
    let e = c.count.ensures in
    let so = side_missed _ c.args.seat.now c.count.new.seat c.args.self.now (same_table _ _ _ _ r.seated e.seated) r.mine c.in_default.ensures.found in
    let none = none_seen c.args.self.now (view_at c.args.seat.now).steps r.mine.one c.in_default.ensures.again in
    record { seated = e.seated; rest = so.0; core = so.1; mine = so.2; looked = inl (so.3, refl, none) }

pub learn-requires : goal.learn-requires
learn-requires c = record { few = (side_few _ _ _ _ c.requires.seated c.requires.mine).0 }

pub returns : goal.returns
returns c =
    let r = c.requires in
    let e = c.count.ensures in
    let found = c.in-Some.ensures.found in
    let so = side_counted _ c.args.seat.now c.count.new.seat c.args.self.now (same_table _ _ _ _ r.seated e.seated) r.mine c.in-Some.control found.0 found.1 in
    let known = c.learn.ensures.known in
    record {
      seated = e.seated;
      rest = so.0;
      core = so.1;
      mine = subst (λ (a : RingSide). StepsBy c.args.top.now.key.sides.items (view_at c.count.new.seat) a) (sym known) so.2;
      looked = inr (c.in-Some.control, so.3, known, may_stand _ c.args.seat.now c.args.self.now r.mine c.in-Some.control found.1 found.2 (seen_found c.args.self.now (view_at c.args.seat.now).steps r.mine.one c.in-Some.control c.in-Some.ensures.again));
    }
