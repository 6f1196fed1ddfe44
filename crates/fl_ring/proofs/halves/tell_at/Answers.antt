use Rattle.std.proofs.Common.{ℕ, ◌≡◌, ◌<◌, ◌≤◌, ◌/◌, ◌^◌, List, length, ap, subst, ◌∙◌, sym, refl, inl, inr, arith, true, nat_le}
use Rattle.fl_ring.specs.Duo.{free, acknowledgement}
use Rattle.fl_ring.specs.Halves.{InStep, half_of}
use Rattle.fl_ring.specs.declared.halves.DuoHalf.{DuoHalf}
use Rattle.fl_ring.proofs.DuoGoes.{tell_goes, too_few, room_for, unacknowledged_is}
use Rattle.fl_ring.proofs.DuoWrites.{write_done, next_within}
use Rattle.fl_ring.proofs.halves.tell_at.Goals as goal

pub returns-then-unacknowledged-size-clause-tell : goal.returns-then-unacknowledged-size-clause-tell
returns-then-unacknowledged-size-clause-tell c = λ n b s.
    let m = c.args.mine.now in
    let size : c.size.result ≡ n = c.size.ensures.size ∙ s.back.take_size in
    let count = unacknowledged_is n c.args.words.now.items m b s in
    let few : length (half_of n c.args.words.now.items m b).read < n / 2 = omega (arith, count, c.index.ensures.index, c.if-unacknowledged-size.true) in
    (s, refl, (few, refl, refl))

pub returns-then-sent-eq-SPENT-clause-tell : goal.returns-then-sent-eq-SPENT-clause-tell
returns-then-sent-eq-SPENT-clause-tell c = λ n b s.
    let m = c.args.mine.now in
    let size : c.size.result ≡ n = c.size.ensures.size ∙ s.back.take_size in
    let count = unacknowledged_is n c.args.words.now.items m b s in
    let much : n / 2 ≤ length (half_of n c.args.words.now.items m b).read = omega (arith, count, c.index.ensures.index, c.if-unacknowledged-size.false) in
    let last : m.put.index ≡ 2 ^ 62 = sym c.index-sent.ensures.index ∙ c.if-sent-eq-SPENT.true in
    (s, refl, (much, refl, inl (last, refl)))

pub returns-then-not-has_free-clause-tell : goal.returns-then-not-has_free-clause-tell
returns-then-not-has_free-clause-tell c = λ n b s.
    let m = c.args.mine.now in
    let checked = rw c.deref.ensures.value at c.has_free.ensures.free in
    let found = checked n b s in
    let size : c.size.result ≡ n = c.size.ensures.size ∙ s.back.take_size in
    let count = unacknowledged_is n c.args.words.now.items m b s in
    let much : n / 2 ≤ length (half_of n c.args.words.now.items m b).read = omega (arith, count, c.index.ensures.index, c.if-unacknowledged-size.false) in
    let unspent : m.put.index < 2 ^ 62 = omega (arith, s.there.most, c.index-sent.ensures.index) in
    let short = too_few n 1 c.args.words.now.items m c.has_free.new.mine b found.1 (sym found.0 ∙ c.if-not-has_free.true) in
    (found.2, ap (λ (x : DuoHalf). x.base) found.1, (much, short.2, inr (unspent, short.0, short.1)))

pub returns-clause-tell : goal.returns-clause-tell
returns-clause-tell c = λ n b s.
    let m = c.args.mine.now in
    let checked = rw c.deref.ensures.value at c.has_free.ensures.free in
    let found = checked n b s in
    let size : c.size.result ≡ n = c.size.ensures.size ∙ s.back.take_size in
    let count = unacknowledged_is n c.args.words.now.items m b s in
    let much : n / 2 ≤ length (half_of n c.args.words.now.items m b).read = omega (arith, count, c.index.ensures.index, c.if-unacknowledged-size.false) in
    let sent : c.has_free.new.mine.put.index ≡ m.put.index = ap (λ (x : DuoHalf). x.put.index) found.1 in
    let unspent : m.put.index < 2 ^ 62 = omega (arith, s.there.most, c.index-sent.ensures.index) in
    let enough : nat_le 1 (free n m.put.index c.has_free.new.mine.known) ≡ true = sym found.0 ∙ c.if-not-has_free.false in
    let within = room_for 1 n m.put.index c.has_free.new.mine.known (omega arith) enough in
    let t = c.tell_taken-told.ensures in
    let after : DuoHalf = record c.tell_taken-told.new.self { put = c.write_next.new.put } in
    let w = write_done n c.args.words.now.items c.write_next.new.words.items c.has_free.new.mine b c.tell_taken-told.new.self acknowledgement c.tell_taken-told.result c.write_next.new.put
    found.2 (omega arith) (omega arith) t.told t.count c.write_next.ensures.writes c.write_next.ensures.next in
    let base : c.tell_taken-told.new.self.base ≡ m.base = ap (λ (x : DuoHalf). x.base) t.told ∙ ap (λ (x : DuoHalf). x.base) found.1 in
    (w.steps, base, tell_goes n c.args.words.now.items c.write_next.new.words.items m c.has_free.new.mine after b s much unspent found.1 enough w.writer w.other)

pub has_free-requires : goal.has_free-requires
has_free-requires c =
    let (n, b, s) = c.requires in
    (n, b, subst (λ (ws : List ℕ). InStep n ws c.args.mine.now b) (sym c.deref.ensures.value) s)

pub write_next-requires : goal.write_next-requires
write_next-requires c =
    let (n, b, s) = c.requires in
    let m = c.args.mine.now in
    let checked = rw c.deref.ensures.value at c.has_free.ensures.free in
    let found = checked n b s in
    let sent : c.has_free.new.mine.put.index ≡ m.put.index = ap (λ (x : DuoHalf). x.put.index) found.1 in
    let same : c.tell_taken-told.new.self.put.index ≡ c.has_free.new.mine.put.index = ap (λ (x : DuoHalf). x.put.index) c.tell_taken-told.ensures.told in
    record {
      room = omega (arith, next_within n c.args.words.now.items c.has_free.new.mine b c.tell_taken-told.new.self found.2 c.tell_taken-told.ensures.told, c.args.words.now.ok.0);
      unspent = omega (arith, s.there.most, c.index-sent.ensures.index, c.if-sent-eq-SPENT.false);
    }
