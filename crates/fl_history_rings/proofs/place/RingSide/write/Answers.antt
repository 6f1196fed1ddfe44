use Rattle.std.proofs.Common.{◌≡◌, ◌∙◌, ap, subst, sym, arith, ℕ, length, ◌%◌}
use Rattle.fl_base.specs.declared.fragment.Frag.{Frag}
use Rattle.fl_base.specs.Control.{Fields, stamped}
use Rattle.fl_link.specs.Cursor.{TheCursor, epoch_at}
use Rattle.fl_history_rings.specs.declared.board.Action.TheVariants.{Put}
use Rattle.fl_history_rings.specs.declared.place.RingSide.{RingSide}
use Rattle.fl_history_rings.specs.Rule.{takes_at}
use Rattle.fl_history_rings.specs.Seats.{view_at}
use Rattle.fl_history_rings.specs.Cores.{core_shown, noting}
use Rattle.fl_history_rings.specs.Sides.{StepsBy, having_put, put_by}
use Rattle.fl_history_rings.proofs.SideCalls.{same_table, side_wrote}
use Rattle.fl_history_rings.proofs.place.RingSide.write.Goals as goal

pub put_frag-requires : goal.put_frag-requires
put_frag-requires c =
    let at = c.requires.mine in
    let room = c.requires.room in
    let index = at.put.index_is in
    let known = at.known_is in
    let taken : c.args.self.now.take.cursor.index ≡ length (takes_at c.args.self.now.put.side (view_at c.args.seat.now).steps) = at.take.index_is ∙ ap (λ (s : ℕ). length (takes_at s (view_at c.args.seat.now).steps)) at.one in
    record {
      seated = c.requires.seated;
      place = at.put;
      room = omega (arith, room, index, known);
      rest = c.requires.rest;
      unspent = c.requires.unspent;
      epoch = ap (λ (f : Fields). f.epoch) c.stamp-stamped.ensures.fields ∙ c.epoch.ensures.epoch;
      number = ap (λ (f : Fields). f.told) c.stamp-stamped.ensures.fields ∙ omega (arith, c.index-taken.ensures.index, taken);
    }

pub returns : goal.returns
returns c =
    let r = c.requires in
    let e = c.put_frag.ensures in
    let a = c.args.self.now in
    let old = c.args.seat.now in
    let new = c.put_frag.new.seat in
    let frag = c.stamp-stamped.result in
    let so = side_wrote _ old new a (same_table _ _ old new r.seated e.seated) r.mine frag r.room r.unspent e.noted in
    let put_is : frag ≡ put_by a c.args.frag.now =
    c.stamp-stamped.ensures.stamped ∙ ap (λ (x : ℕ). stamped c.args.frag.now x (c.index-taken.result % 65536)) c.epoch.ensures.epoch
    ∙ ap (λ (t : ℕ). stamped c.args.frag.now (epoch_at a.put.cursor.size a.put.cursor.index) (t % 65536)) c.index-taken.ensures.index in
    let side_is : (let b : RingSide = record { put = record { side = a.put.side; base = a.put.base; cursor = c.advance.new.self }; take = a.take; known = a.known; told = c.index-taken.result } in b ≡ having_put a) =
    ap (λ (x : TheCursor). let b : RingSide = record { put = record { side = a.put.side; base = a.put.base; cursor = x }; take = a.take; known = a.known; told = c.index-taken.result } in b) c.advance.ensures.next
    ∙ ap (λ (t : ℕ). let b : RingSide = record (having_put a) { told = t } in b) c.index-taken.ensures.index in
    record {
      seated = e.seated;
      rest = so.0;
      core = so.1;
      mine = subst (λ (b : RingSide). StepsBy c.args.top.now.key.sides.items (view_at new) b) (sym side_is) so.2;
      side = side_is;
      noted = so.3 ∙ ap (λ (f : Frag). noting (core_shown old) a.put.side (Put f)) put_is;
    }
