use Rattle.std.proofs.Common.{◌≡◌, ◌∙◌, ap, subst, sym, arith, ℕ}
use Rattle.fl_link.specs.Cursor.{TheCursor}
use Rattle.fl_history_rings.specs.declared.place.RingSide.{RingSide}
use Rattle.fl_history_rings.specs.Rule.{seen_at}
use Rattle.fl_history_rings.specs.Seats.{view_at}
use Rattle.fl_history_rings.specs.Sides.{StepsBy, counting, having_taken}
use Rattle.fl_history_rings.proofs.SideCalls.{same_table, side_missed, side_took, side_few}
use Rattle.fl_history_rings.proofs.place.RingSide.take.Goals as goal

pub take_frag-requires : goal.take_frag-requires
take_frag-requires c = record { seated = c.requires.seated; place = c.requires.mine.take; rest = c.requires.rest }

pub returns-in_err-frag-clause-mine : goal.returns-in_err-frag-clause-mine
returns-in_err-frag-clause-mine c =
    let r = c.requires in
    let e = c.take_frag.ensures in
    (side_missed _ c.args.seat.now c.take_frag.new.seat c.args.self.now (same_table _ _ _ _ r.seated e.seated) r.mine c.in_err-frag.ensures.noted).2

pub returns-in_err-frag-clause-again : goal.returns-in_err-frag-clause-again
returns-in_err-frag-clause-again c = λ f was.
    let stands = c.take_frag.ensures.again f (ap (λ (s : ℕ). seen_at s (view_at c.args.seat.now).steps) c.requires.mine.one ∙ was) in
    let none = c.in_err-frag.was in
    absurd (cc)

pub learn-requires : goal.learn-requires
learn-requires c = record { few = (side_few _ _ _ _ c.requires.seated c.requires.mine).0 }

pub advance-requires : goal.advance-requires
advance-requires c =
    let few = c.in_ok-frag.ensures.noted.0 in
    let same = ap (λ (a : RingSide). a.take.cursor.index) c.learn.ensures.known in
    omega (arith, few, same)

pub returns : goal.returns
returns c =
    let r = c.requires in
    let e = c.take_frag.ensures in
    let frag = c.in_ok-frag.frag in
    let found = c.in_ok-frag.ensures.noted in
    let so = side_took _ c.args.seat.now c.take_frag.new.seat c.args.self.now (same_table _ _ _ _ r.seated e.seated) r.mine frag found.0 found.1 found.2 in
    let b = c.learn.new.self in
    let side_is : (let x : RingSide = record { put = b.put; take = record { side = b.take.side; base = b.take.base; cursor = c.advance.new.self }; known = b.known; told = b.told } in x ≡ having_taken (counting c.args.self.now frag.control)) =
    ap (λ (y : TheCursor). let x : RingSide = record { put = b.put; take = record { side = b.take.side; base = b.take.base; cursor = y }; known = b.known; told = b.told } in x) c.advance.ensures.next
    ∙ ap having_taken c.learn.ensures.known in
    record {
      seated = e.seated;
      rest = so.0;
      core = so.1;
      mine = subst (λ (a : RingSide). StepsBy c.args.top.now.key.sides.items (view_at c.take_frag.new.seat) a) (sym side_is) so.2;
      noted = (so.3, side_is);
      again = λ f was.
          let stands = c.take_frag.ensures.again f (ap (λ (s : ℕ). seen_at s (view_at c.args.seat.now).steps) r.mine.one ∙ was) in
          let some = c.in_ok-frag.was in
          cc;
    }
