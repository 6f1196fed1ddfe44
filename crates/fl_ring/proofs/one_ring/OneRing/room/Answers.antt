use Rattle.std.proofs.Common.{ℕ, ◌≡◌, ◌<◌, ◌≤◌, ◌*◌, ◌-◌, ◌^◌, Bool, true, false, ltb, ◌&&◌, length, get_or, lt-ltb, le-ltb, ap, ◌∙◌, sym, subst, arith}
use Rattle.std.proofs.lemmas.List.{get_or_read}
use Rattle.fl_link.specs.Queue.{has_room}
use Rattle.fl_ring.specs.Ring.{TheRing, queue_of}
use Rattle.fl_ring.proofs.RingSteps.{room_is}
use Rattle.fl_ring.proofs.one_ring.OneRing.room.Goals as goal

pub returns-then-sent-lt-SPENT : goal.returns-then-sent-lt-SPENT
returns-then-sent-lt-SPENT c =
    let i = c.self.inside in
    let r = c.self.invariant.1 in
    let size : c.size-size.result ≡ i.put.size = c.size-size.ensures.size in
    let sent : c.index-sent.result ≡ i.put.index = c.index-sent.ensures.index in
    let within : 8 * i.put.size < length i.words.items = omega (arith, r.wide) in
    let read : c.index.result.now ≡ get_or i.words.items (8 * i.put.size) c.index.result.now = subst (λ (x : ℕ). c.index.result.now ≡ get_or i.words.items (8 * x) c.index.result.now) size c.index.ensures in
    let word : c.index.result.now ≡ get_or i.words.items (8 * i.put.size) 0 = get_or_read i.words.items (8 * i.put.size) c.index.result.now within read 0 in
    let few : i.put.index < 2 ^ 62 = omega (arith, sent) in
    let parts : ltb (c.index-sent.result - c.index.result.now) c.size-size.result ≡ ltb (i.put.index - get_or i.words.items (8 * i.put.size) 0) i.put.size = cc in
    let counted : (true && ltb (i.put.index - get_or i.words.items (8 * i.put.size) 0) i.put.size) ≡ (ltb i.put.index (2 ^ 62) && ltb (i.put.index - get_or i.words.items (8 * i.put.size) 0) i.put.size) =
    ap (λ (b : Bool). b && ltb (i.put.index - get_or i.words.items (8 * i.put.size) 0) i.put.size) (sym (lt-ltb i.put.index (2 ^ 62) few)) in
    record { room = parts ∙ counted ∙ room_is i.words.items i.put.size i.put.index i.take.index r ∙ ap (λ (s : TheRing). has_room (queue_of s)) c.self.view_is }

pub returns-else-sent-lt-SPENT : goal.returns-else-sent-lt-SPENT
returns-else-sent-lt-SPENT c =
    let i = c.self.inside in
    let r = c.self.invariant.1 in
    let sent : c.index-sent.result ≡ i.put.index = c.index-sent.ensures.index in
    let past : 2 ^ 62 ≤ i.put.index = omega (arith, c.if-sent-lt-SPENT.false) in
    let off : ltb i.put.index (2 ^ 62) ≡ false = le-ltb i.put.index (2 ^ 62) past in
    let none : ltb c.index-sent.result (2 ^ 62) ≡ false = ap (λ (x : ℕ). ltb x (2 ^ 62)) sent ∙ off in
    let counted : false ≡ (ltb i.put.index (2 ^ 62) && ltb (i.put.index - get_or i.words.items (8 * i.put.size) 0) i.put.size) =
    ap (λ (b : Bool). b && ltb (i.put.index - get_or i.words.items (8 * i.put.size) 0) i.put.size) (sym off) in
    record { room = none ∙ counted ∙ room_is i.words.items i.put.size i.put.index i.take.index r ∙ ap (λ (s : TheRing). has_room (queue_of s)) c.self.view_is }
