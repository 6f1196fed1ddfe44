-- A side of a ring of two directions over shared words, as its code holds it after each step.
use Rattle.std.proofs.Common.{ℕ, ◌≡◌, ◌<◌, ◌≤◌, ◌+◌, ◌*◌, ◌%◌, ◌^◌, ◌⊎◌, inl, inr, [], ◌∷◌, ◌++◌, length, replicate, ap, subst, ◌∙◌, sym, refl, arith, length-append}
use Rattle.std.proofs.lemmas.Bool.{cases_lt}
use lib.ListN.{length-replicate}
use Rattle.atomic_table.specs.Seated.{TableId}
use Rattle.atomic_table.specs.Table.{Me}
use Rattle.fl_base.specs.declared.fragment.Frag.{Frag}
use Rattle.fl_base.specs.Control.{bare}
use Rattle.fl_link.specs.Cursor.{TheCursor, epoch_at}
use Rattle.fl_link.proofs.Carried.{stamped-bare}
use Rattle.fl_ring.specs.declared.shared.duo_board.SeatHolder.{SeatHolder}
use Rattle.fl_ring.specs.declared.shared.duo_board.DuoView.{DuoView}
use Rattle.fl_ring.specs.declared.shared.duo_board.DuoStart.{DuoStart}
use Rattle.fl_ring.specs.SharedDuo.{IsOneSide, base_of, other_of, blank, new_side, with_mine, side_control}
use Rattle.fl_ring.specs.SharedSides.{DuoSeat, IsDuoSeated, SideFields, IsSide, TheSide, side_of_seat, started_side, side_with_frag, side_written, Looked, free_of}

-- a side of a new ring, at each of its two seats
pub fresh_side : (table : TableId) (key : DuoStart) (seat : DuoSeat) (holder : SeatHolder) (n start : ℕ) (put take : TheCursor) → key.size ≡ n → table.words ≡ 16 * n → 0 < n → n ≤ 1024 → start ≤ 2 ^ 62
    → seat.table_id ≡ table → seat.me ≡ (record { size = n; holder = holder; mine = new_side n start; theirs = new_side n start }, []) → IsOneSide holder
    → put ≡ record { index = start; size = n } → take ≡ record { index = start; size = n }
    → IsDuoSeated table key seat × IsSide seat (record { base = base_of holder n; other = other_of holder n; put = put; take = take; known = start; told = start })
fresh_side table key seat holder n start put take size wide some few most same me side puts takes =
    let kept : SideFields = record { base = base_of holder n; other = other_of holder n; put = put; take = take; known = start; told = start } in
    let passed : length (replicate start blank) ≡ start = length-replicate start blank in
    let put_index : put.index ≡ start = ap (λ (p : TheCursor). p.index) puts in
    let take_index : take.index ≡ start = ap (λ (p : TheCursor). p.index) takes in
    subst (λ (m : Me (Unit {0}) DuoView). IsDuoSeated table key (record seat { me = m }) × IsSide (record seat { me = m }) kept) (sym me) (
      record { same = same; key_is = size; wide = wide; some = some; few = few; side = side },
      record {
        base_is = refl;
        other_is = refl;
        none_held = refl;
        part = refl;
        put_size = ap (λ (p : TheCursor). p.size) puts;
        take_size = ap (λ (p : TheCursor). p.size) takes;
        put_index = passed ∙ sym put_index;
        take_index = passed ∙ sym take_index;
        known_is = refl;
        told_is = refl;
        told_got = omega (arith, take_index);
        known_sent = omega (arith, put_index);
        room = omega (arith, put_index);
        most = omega (arith, put_index, most);
      },
    )

pub fresh_shows : (seat : DuoSeat) (ring : TableId) (holder : SeatHolder) (n start : ℕ) → seat.table_id ≡ ring → seat.me ≡ (record { size = n; holder = holder; mine = new_side n start; theirs = new_side n start }, [])
    → side_of_seat seat ≡ started_side ring holder n start
fresh_shows seat ring holder n start same me = ap (λ (m : Me (Unit {0}) DuoView). side_of_seat (record seat { me = m })) me ∙ ap (λ (t : TableId). started_side t holder n start) same

-- once it has written a fragment
pub side_writes : (table : TableId) (key : DuoStart) (old new : DuoSeat) (k : SideFields) (put : TheCursor) (told : ℕ) (frag : Frag) → IsDuoSeated table key old → IsSide old k
    → new.table_id ≡ old.table_id → new.me ≡ (with_mine old.me.0 (side_with_frag old.me.0.mine frag), old.me.1) → put ≡ record { index = k.put.index + 1; size = k.put.size } → told ≡ k.take.index
    → k.put.index + 1 ≤ k.known + old.me.0.size → k.put.index + 1 ≤ 2 ^ 62
    → IsDuoSeated table key new × IsSide new (record { base = k.base; other = k.other; put = put; take = k.take; known = k.known; told = told })
side_writes table key old new k put told frag s h same me puts tells room most =
    let kept : SideFields = record { base = k.base; other = k.other; put = put; take = k.take; known = k.known; told = told } in
    let next : put.index ≡ k.put.index + 1 = ap (λ (p : TheCursor). p.index) puts in
    let longer : length (old.me.0.mine.put.sent ++ frag ∷ []) ≡ length old.me.0.mine.put.sent + 1 = length-append old.me.0.mine.put.sent (frag ∷ []) in
    subst (λ (m : Me (Unit {0}) DuoView). IsDuoSeated table key (record new { me = m }) × IsSide (record new { me = m }) kept) (sym me) (
      record { same = same ∙ s.same; key_is = s.key_is; wide = s.wide; some = s.some; few = s.few; side = s.side },
      record {
        base_is = h.base_is;
        other_is = h.other_is;
        none_held = h.none_held;
        part = refl;
        put_size = ap (λ (p : TheCursor). p.size) puts ∙ h.put_size;
        take_size = h.take_size;
        put_index = omega (arith, longer, next, h.put_index);
        take_index = h.take_index;
        known_is = h.known_is;
        told_is = h.take_index ∙ sym tells;
        told_got = omega (arith, tells);
        known_sent = omega (arith, h.known_sent, next);
        room = omega (arith, next, room);
        most = omega (arith, next, most);
      },
    )

-- once it has loaded a control word, and knows this count by it
pub side_loads : (table : TableId) (key : DuoStart) (old new : DuoSeat) (k : SideFields) (count control : ℕ) → IsDuoSeated table key old → IsSide old k
    → new.table_id ≡ old.table_id → new.me ≡ (with_mine old.me.0 (side_control old.me.0.size old.me.0.mine control), old.me.1)
    → (new.me.0.mine.put.known ≡ count) × (k.known ≤ count) × (count ≤ length old.me.0.mine.put.sent)
    → IsDuoSeated table key new × IsSide new (record { base = k.base; other = k.other; put = k.put; take = k.take; known = count; told = k.told })
side_loads table key old new k count control s h same me (known, more, sent) =
    let kept : SideFields = record { base = k.base; other = k.other; put = k.put; take = k.take; known = count; told = k.told } in
    subst (λ (m : Me (Unit {0}) DuoView). IsDuoSeated table key (record new { me = m }) × IsSide (record new { me = m }) kept) (sym me) (
      record { same = same ∙ s.same; key_is = s.key_is; wide = s.wide; some = s.some; few = s.few; side = s.side },
      record {
        base_is = h.base_is;
        other_is = h.other_is;
        none_held = h.none_held;
        part = h.part;
        put_size = h.put_size;
        take_size = h.take_size;
        put_index = h.put_index;
        take_index = h.take_index;
        known_is = ap (λ (m : Me (Unit {0}) DuoView). m.0.mine.put.known) (sym me) ∙ known;
        told_is = h.told_is;
        told_got = h.told_got;
        known_sent = omega (arith, sent, h.put_index);
        room = omega (arith, more, h.room);
        most = h.most;
      },
    )

-- ---- puts

-- where too few slots are free after a look, too few were before it
pub short_before : (need : ℕ) (s t : TheSide) → Looked need s t → free_of t < need → free_of s < need
short_before need s t looked short = which (cases_lt (free_of s) need)
  where
    which : (free_of s < need) ⊎ (need ≤ free_of s) → free_of s < need
    which (inl lt) = lt
    which (inr le) = subst (λ (x : TheSide). free_of x < need) (looked.by_known le) short

-- a fragment is written as its bare one is
pub written_bare : (s : TheSide) (frag : Frag) → side_written s frag ≡ side_written s (bare frag)
written_bare s frag =
    ap (λ (f : Frag). let x : TheSide = record {
      ring = s.ring;
      holder = s.holder;
      size = s.size;
      sent = s.sent ++ f ∷ [];
      known = s.known;
      loads = s.loads;
      got = s.got;
      peeked = s.peeked;
      misses = s.misses;
      told = length s.got;
    } in x) (sym (stamped-bare frag (epoch_at s.size (length s.sent)) (length s.got % 65536)))
