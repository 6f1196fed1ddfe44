use Rattle.std.proofs.Common.{◌≡◌, ◌<◌, ◌+◌, ◌^◌, ℕ, length, ap, subst, ◌∙◌, sym, refl, arith}
use Rattle.fl_ring.specs.SharedSeats.{Sender, sender_of, IsSeated, IsWriter, Counts}
use Rattle.fl_ring.proofs.Sighted.{writer_puts}
use Rattle.fl_ring.proofs.shared.tx.RingTx.try_put.Goals as goal

pub returns-then-index-eq-SPENT-clause-spent : goal.returns-then-index-eq-SPENT-clause-spent
returns-then-index-eq-SPENT-clause-spent c = λ e.
    (ap (λ (s : Sender). length s.sent) (sym c.self.view_is) ∙ c.self.invariant.1.index_is ∙ sym c.index-index.ensures.index ∙ c.if-index-eq-SPENT.true, refl)

pub invariant_of-self : goal.invariant_of-self
invariant_of-self c =
    let seat = c.has_room.new.seat in
    let known = c.has_room.new.known in (
      subst (λ b. IsSeated b.shared.table_id b.shared.key seat) c.deref.ensures c.has_room.ensures.seated,
      subst (λ (n : ℕ). IsWriter seat n c.self.inside.put.index known) c.size.ensures.size
          (subst (λ (i : ℕ). IsWriter seat c.size.result i known) c.index-index.ensures.index c.has_room.ensures.writer),
    )

pub returns-then-not-has_room-clause-full : goal.returns-then-not-has_room-clause-full
returns-then-not-has_room-clause-full c = λ e.
    let h = c.self.invariant.1 in
    let sent : length c.self.inside.seat.me.0.put.sent ≡ length c.args.self.now.sent = ap (λ (s : Sender). length s.sent) c.self.view_is in
    let size : c.self.inside.seat.me.0.size ≡ c.args.self.now.size = ap (λ (s : Sender). s.size) c.self.view_is in
    let unspent : length c.args.self.now.sent < 2 ^ 62 = omega (arith, sent, h.index_is, h.most, c.index-index.ensures.index, c.if-index-eq-SPENT.false) in
    let full = c.has_room.ensures.full c.if-not-has_room.true in (
      unspent,
      subst (λ (s : Sender). Counts s (sender_of c.has_room.new.seat)) c.self.view_is c.has_room.ensures.counts,
      omega (arith, sent, size, h.index_is, h.size, c.index-index.ensures.index, c.size.ensures.size, full.0, c.has_room.ensures.writer.known_is),
      full.1 ∙ ap (λ (s : Sender). s.loads + 1) c.self.view_is,
      c.has_room.ensures.sent ∙ ap (λ (s : Sender). s.sent) c.self.view_is,
    )

pub has_room-requires-clause-seated : goal.has_room-requires-clause-seated
has_room-requires-clause-seated c = subst (λ b. IsSeated b.shared.table_id b.shared.key c.self.inside.seat) (sym c.deref.ensures) c.self.invariant.0

pub has_room-requires-clause-writer : goal.has_room-requires-clause-writer
has_room-requires-clause-writer c =
    let i = c.self.inside in
    subst (λ (n : ℕ). IsWriter i.seat n c.index-index.result i.known) (sym c.size.ensures.size)
    (subst (λ (k : ℕ). IsWriter i.seat i.put.size k i.known) (sym c.index-index.ensures.index) c.self.invariant.1)

pub put_frag-requires-clause-seated : goal.put_frag-requires-clause-seated
put_frag-requires-clause-seated c = c.has_room.ensures.seated

pub put_frag-requires-clause-writes : goal.put_frag-requires-clause-writes
put_frag-requires-clause-writes c = (c.has_room.ensures.writer.writes, c.has_room.ensures.writer.part)

pub invariant_of-self-2 : goal.invariant_of-self-2
invariant_of-self-2 c =
    let seat = c.has_room.new.seat in
    let known = c.has_room.new.known in
    let put = c.self.inside.put in
    let h = c.self.invariant.1 in
    let room = c.has_room.ensures.room c.if-not-has_room.false in
    let writer = subst (λ (n : ℕ). IsWriter seat n put.index known) c.size.ensures.size
    (subst (λ (i : ℕ). IsWriter seat c.size.result i known) c.index-index.ensures.index c.has_room.ensures.writer) in
    writer_puts _ _ seat c.put_frag.new.seat put.size put.index known c.advance.new.self c.stamp-stamped.result
    (subst (λ b. IsSeated b.shared.table_id b.shared.key seat) c.deref.ensures c.has_room.ensures.seated) writer
    c.put_frag.ensures.table c.put_frag.ensures.sent c.advance.ensures.next
    (omega (arith, room, c.index-index.ensures.index, c.size.ensures.size)) (omega (arith, h.most, c.index-index.ensures.index, c.if-index-eq-SPENT.false))
