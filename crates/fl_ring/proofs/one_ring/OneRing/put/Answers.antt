use Rattle.std.proofs.Common.{ℕ, ◌≡◌, ◌≢◌, ◌+◌, ◌*◌, ◌-◌, ◌^◌, ◌<◌, length, ◌∙◌, subst, sym, refl, arith, get_or}
use Rattle.std.proofs.lemmas.List.{get_or_read}
use Rattle.fl_base.specs.declared.fragment.Frag.{Frag}
use Rattle.fl_link.specs.Cursor.{TheCursor, epoch_at}
use Rattle.fl_base.specs.Control.{bare, stamped}
use Rattle.fl_link.specs.Looks.{no_room, spent}
use Rattle.fl_ring.specs.Way.{slot, WritesSlot}
use Rattle.fl_ring.specs.Ring.{TheRing, IsRing, ring_of, RingGains, RingPuts}
use Rattle.fl_link.proofs.Carried.{epoch-stamped}
use Rattle.fl_ring.proofs.Places.{epoch_bit, slot_within}
use Rattle.fl_ring.proofs.RingSteps.{puts_spent, puts_no_room, put_stands, puts_placed}
use Rattle.fl_ring.proofs.one_ring.OneRing.put.Goals as goal

pub returns-then-sent-eq-SPENT-clause-spent : goal.returns-then-sent-eq-SPENT-clause-spent
returns-then-sent-eq-SPENT-clause-spent c = λ _.
    let i = c.self.inside in
    let last : i.put.index ≡ 2 ^ 62 = omega arith in
    subst (λ (r : TheRing). RingPuts r spent r) c.self.view_is
    (puts_spent i.words.items i.put.size i.put.index i.take.index c.self.invariant.1 last)

pub returns-then-sent-index-clause-full : goal.returns-then-sent-index-clause-full
returns-then-sent-index-clause-full c = λ _.
    let i = c.self.inside in
    let r = c.self.invariant.1 in
    let size : c.size-size.result ≡ i.put.size = c.size-size.ensures.size in
    let sent : c.index-sent.result ≡ i.put.index = c.index-sent.ensures.index in
    let within : 8 * i.put.size < length i.words.items = omega (arith, r.wide) in
    let read : c.index.result.now ≡ get_or i.words.items (8 * i.put.size) c.index.result.now = subst (λ (x : ℕ). c.index.result.now ≡ get_or i.words.items (8 * x) c.index.result.now) size c.index.ensures in
    let word : c.index.result.now ≡ get_or i.words.items (8 * i.put.size) 0 = get_or_read i.words.items (8 * i.put.size) c.index.result.now within read 0 in
    let unspent : i.put.index ≢ 2 ^ 62 = λ e. c.if-sent-eq-SPENT.false (sent ∙ e) in
    let full : i.put.index - get_or i.words.items (8 * i.put.size) 0 ≡ i.put.size = omega (arith, c.if-sent-index.true) in
    subst (λ (x : TheRing). RingPuts x no_room x) c.self.view_is
    (puts_no_room i.words.items i.put.size i.put.index i.take.index r unspent full)

-- the ring with the fragment in its slot
after : (c : goal.After-write_next) → (let i = c.self.inside in IsRing c.write_next.new.words.items i.put.size (i.put.index + 1) i.take.index
    × RingGains (ring_of i.words.items i.put.size i.put.index i.take.index) (bare c.args.frag.now) (ring_of c.write_next.new.words.items i.put.size (i.put.index + 1) i.take.index))
after c =
    let i = c.self.inside in
    let r = c.self.invariant.1 in
    let size : c.size-size.result ≡ i.put.size = c.size-size.ensures.size in
    let sent : c.index-sent.result ≡ i.put.index = c.index-sent.ensures.index in
    let within : 8 * i.put.size < length i.words.items = omega (arith, r.wide) in
    let read : c.index.result.now ≡ get_or i.words.items (8 * i.put.size) c.index.result.now = subst (λ (x : ℕ). c.index.result.now ≡ get_or i.words.items (8 * x) c.index.result.now) size c.index.ensures in
    let word : c.index.result.now ≡ get_or i.words.items (8 * i.put.size) 0 = get_or_read i.words.items (8 * i.put.size) c.index.result.now within read 0 in
    let unspent : i.put.index ≢ 2 ^ 62 = λ e. c.if-sent-eq-SPENT.false (sent ∙ e) in
    let room : i.put.index - get_or i.words.items (8 * i.put.size) 0 ≢ i.put.size = λ e. let full : c.index-sent.result - c.index.result.now ≡ c.size-size.result = omega arith in c.if-sent-index.false full in
    let e : ℕ = epoch_at i.put.size i.put.index in
    let f : Frag = stamped c.args.frag.now e 0 in
    let writes : WritesSlot (slot 0 i.put.size i.put.index) f i.words.items c.write_next.new.words.items = c.write_next.ensures.writes in
    let turn = epoch-stamped c.args.frag.now.control e 0 (epoch_bit i.put.size i.put.index) in (
      put_stands i.words.items c.write_next.new.words.items i.put.size i.put.index i.take.index f r unspent room writes turn,
      puts_placed i.words.items c.write_next.new.words.items i.put.size i.put.index i.take.index e c.args.frag.now r unspent room writes refl,
    )

pub invariant_of-self : goal.invariant_of-self
invariant_of-self c =
    let i = c.self.inside in
    subst (λ (p : TheCursor). (i.take.size ≡ p.size) × IsRing c.write_next.new.words.items p.size p.index i.take.index) (sym c.write_next.ensures.next) (c.self.invariant.0, (after c).0)

pub returns-clause-placed : goal.returns-clause-placed
returns-clause-placed c =
    let i = c.self.inside in
    subst (λ (s : TheRing). RingGains s (bare c.args.frag.now) (ring_of c.write_next.new.words.items c.write_next.new.put.size c.write_next.new.put.index i.take.index)) c.self.view_is
    (subst (λ (p : TheCursor). RingGains (ring_of i.words.items i.put.size i.put.index i.take.index) (bare c.args.frag.now) (ring_of c.write_next.new.words.items p.size p.index i.take.index)) (sym c.write_next.ensures.next) (after c).1)

pub write_next-requires : goal.write_next-requires
write_next-requires c =
    let i = c.self.inside in
    let r = c.self.invariant.1 in
    record {
      room = omega (arith, slot_within 0 i.put.size i.put.index r.marked.some, r.marked.wide);
      unspent = omega (arith, r.most, c.index-sent.ensures.index, c.if-sent-eq-SPENT.false);
    }
