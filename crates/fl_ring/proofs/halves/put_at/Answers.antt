use Rattle.std.proofs.Common.{ℕ, ◌≡◌, ◌<◌, ◌^◌, List, ap, subst, ◌∙◌, sym, refl, arith, true, nat_le}
use Rattle.fl_ring.specs.Duo.{free}
use Rattle.fl_ring.specs.Halves.{InStep}
use Rattle.fl_ring.specs.declared.halves.DuoHalf.{DuoHalf}
use Rattle.fl_ring.proofs.DuoGoes.{put_goes, too_few, room_for}
use Rattle.fl_ring.proofs.DuoWrites.{write_done, next_within}
use Rattle.fl_ring.proofs.halves.put_at.Goals as goal

pub returns-clause-placed : goal.returns-clause-placed
returns-clause-placed c = λ n b s.
    let m = c.args.mine.now in
    let checked = rw c.deref.ensures.value at c.has_free.ensures.free in
    let found = checked n b s in
    let sent : c.has_free.new.mine.put.index ≡ m.put.index = ap (λ (x : DuoHalf). x.put.index) found.1 in
    let unspent : m.put.index < 2 ^ 62 = omega (arith, s.there.most, c.index.ensures.index) in
    let enough : nat_le 2 (free n m.put.index c.has_free.new.mine.known) ≡ true = sym found.0 ∙ c.if-not-has_free.false in
    let within = room_for 2 n m.put.index c.has_free.new.mine.known (omega arith) enough in
    let t = c.tell_taken-told.ensures in
    let after : DuoHalf = record c.tell_taken-told.new.self { put = c.write_next.new.put } in
    let w = write_done n c.args.words.now.items c.write_next.new.words.items c.has_free.new.mine b c.tell_taken-told.new.self c.args.frag.now c.tell_taken-told.result c.write_next.new.put
    found.2 (omega arith) (omega arith) t.told t.count c.write_next.ensures.writes c.write_next.ensures.next in
    let base : c.tell_taken-told.new.self.base ≡ m.base = ap (λ (x : DuoHalf). x.base) t.told ∙ ap (λ (x : DuoHalf). x.base) found.1 in
    (w.steps, base, put_goes n c.args.words.now.items c.write_next.new.words.items m c.has_free.new.mine after b c.args.frag.now c.requires.data s unspent found.1 enough w.writer w.other)

pub returns-then-not-has_free-clause-full : goal.returns-then-not-has_free-clause-full
returns-then-not-has_free-clause-full c = λ _ n b s.
    let m = c.args.mine.now in
    let checked = rw c.deref.ensures.value at c.has_free.ensures.free in
    let found = checked n b s in
    let unspent : m.put.index < 2 ^ 62 = omega (arith, s.there.most, c.index.ensures.index) in
    let short = too_few n 2 c.args.words.now.items m c.has_free.new.mine b found.1 (sym found.0 ∙ c.if-not-has_free.true) in
    (found.2, ap (λ (x : DuoHalf). x.base) found.1, (unspent, short.0, short.1, short.2))

pub has_free-requires : goal.has_free-requires
has_free-requires c =
    let (n, b, s) = c.requires.steps in
    (n, b, subst (λ (ws : List ℕ). InStep n ws c.args.mine.now b) (sym c.deref.ensures.value) s)

pub returns-then-index-eq-SPENT-clause-spent : goal.returns-then-index-eq-SPENT-clause-spent
returns-then-index-eq-SPENT-clause-spent c = λ _ n b s.
    let last : c.args.mine.now.put.index ≡ 2 ^ 62 = sym c.index.ensures.index ∙ c.if-index-eq-SPENT.true in
    (s, refl, (last, refl, refl))

pub write_next-requires : goal.write_next-requires
write_next-requires c =
    let (n, b, s) = c.requires.steps in
    let m = c.args.mine.now in
    let checked = rw c.deref.ensures.value at c.has_free.ensures.free in
    let found = checked n b s in
    let sent : c.has_free.new.mine.put.index ≡ m.put.index = ap (λ (x : DuoHalf). x.put.index) found.1 in
    let same : c.tell_taken-told.new.self.put.index ≡ c.has_free.new.mine.put.index = ap (λ (x : DuoHalf). x.put.index) c.tell_taken-told.ensures.told in
    record {
      room = omega (arith, next_within n c.args.words.now.items c.has_free.new.mine b c.tell_taken-told.new.self found.2 c.tell_taken-told.ensures.told, c.args.words.now.ok.0);
      unspent = omega (arith, s.there.most, c.index.ensures.index, c.if-index-eq-SPENT.false);
    }
