-- What the answer of a look that found a fragment tells, by that fragment; and sides of rings over shared words once they have looked, taken or put.
use Rattle.std.proofs.Common.{ℕ, ◌≡◌, ◌≢◌, ◌≤◌, ◌+◌, ◌*◌, ◌^◌, ◌<◌, Bool, true, false, if◌then◌else◌, [], ◌∷◌, ◌++◌, length, Option, Some, None, ap, subst, ◌∙◌, sym, refl, arith, length-append}
use Rattle.atomic_table.specs.Seated.{TableId}
use Rattle.atomic_table.specs.Table.{Me}
use Rattle.fl_base.specs.declared.fragment.Frag.{Frag}
use Rattle.fl_base.specs.Control.{is_ack_only, bare}
use Rattle.fl_link.specs.Cursor.{TheCursor}
use Rattle.fl_link.specs.Looks.{Look, saw, saw_ack, missed, taken}
use Rattle.fl_link.specs.Queue.{look_at}
use Rattle.fl_link.specs.declared.sides.Sight.{Sight}
use Rattle.fl_link.specs.declared.sides.Sight.TheVariants.{Data, Acknowledgement}
use Rattle.fl_ring.specs.declared.shared.duo_board.SeatHolder.{SeatHolder}
use Rattle.fl_ring.specs.declared.shared.duo_board.DuoStart.{DuoStart}
use Rattle.fl_ring.specs.SharedDuo.{IsOneSide, base_of, other_of}
use Rattle.fl_ring.specs.declared.shared.board.RingView.{RingView}
use Rattle.fl_ring.specs.SharedRing.{with_writing}
use Rattle.fl_ring.specs.SharedSeats.{RingSeat, IsSeated, IsWriter, Receiver, ReceiverTakes, Gets, with_frag, front_seen, sight_of}
use Rattle.fl_ring.specs.SharedSides.{DuoSeat, IsDuoSeated, SideFields, IsSide, TheSide, side_of_seat, SideGets, SharedTakes}
use Rattle.fl_ring.proofs.Fronts.{got_by}

looks : (b : Bool) (f : Frag) → is_ack_only f ≡ b → look_at f ≡ (if b then saw_ack else saw (bare f))
looks b f e = ap (λ x. if x then saw_ack else saw (bare f)) e

pub saw_some : (frag : Frag) → saw frag ≢ missed
saw_some frag e = cc

pub ack_some : saw_ack ≢ missed
ack_some e = cc

-- ---- a take

takes_by : (b : Bool) (s t : TheSide) (f : Frag) → is_ack_only f ≡ b → SideGets s f t → SharedTakes s (taken (if b then Acknowledgement else Data f)) t
takes_by true s t f e gets = (f, looks true f e, gets)
takes_by false s t f e gets = (f, looks false f e, gets)

pub side_took : (s t : TheSide) (f : Frag) (r : Sight) → r ≡ sight_of f → SideGets s f t → SharedTakes s (taken r) t
side_took s t f r is gets = subst (λ x. SharedTakes s (taken x) t) (sym is) (takes_by (is_ack_only f) s t f refl gets)

receives_by : (b : Bool) (s t : Receiver) (f : Frag) → is_ack_only f ≡ b → Gets s f t → ReceiverTakes s (taken (if b then Acknowledgement else Data f)) t
receives_by true s t f e gets = (f, looks true f e, gets)
receives_by false s t f e gets = (f, looks false f e, gets)

pub receiver_took : (s t : Receiver) (f : Frag) (r : Sight) → r ≡ sight_of f → Gets s f t → ReceiverTakes s (taken r) t
receiver_took s t f r is gets = subst (λ x. ReceiverTakes s (taken x) t) (sym is) (receives_by (is_ack_only f) s t f refl gets)

data_by : (b : Bool) (f frag : Frag) → (if b then Acknowledgement else Data f) ≡ Data frag → f ≡ frag
data_by true f frag e = absurd (cc)
data_by false f frag e = cc

-- the fragment that was found is the one that is told
pub told_frag : (f frag : Frag) (r : Sight) → r ≡ sight_of f → r ≡ Data frag → f ≡ frag
told_frag f frag r is e = data_by (is_ack_only f) f frag (sym is ∙ e)

took_by : (b : Bool) (f : Frag) → taken (if b then Acknowledgement else Data f) ≡ got_by (if b then saw_ack else saw (bare f))
took_by true f = refl
took_by false f = refl

front_by : (o : Option Frag) (f : Frag) → ((g : Frag) → o ≡ Some g → f ≡ g) → (k : Look) → k ≢ missed → front_seen o ≡ k → look_at f ≡ k
front_by None f come k some e = absurd (some (sym e))
front_by (Some g) f come k some e = ap (λ x. look_at x) (come g refl) ∙ e

-- a take comes to what the peek before it saw
pub took_front : (o : Option Frag) (f : Frag) (r : Sight) → r ≡ sight_of f → ((g : Frag) → o ≡ Some g → f ≡ g) → (k : Look) → k ≢ missed → front_seen o ≡ k → taken r ≡ got_by k
took_front o f r is come k some e =
    ap (λ x. taken x) is ∙ took_by (is_ack_only f) f ∙ ap (λ x. got_by x) (front_by o f come k some e)

-- where nothing was peeked nothing was seen
pub none_front : (o : Option Frag) (k : Look) → o ≡ None → k ≢ missed → front_seen o ≡ k → missed ≡ got_by k
none_front o k none some e = absurd (some (sym e ∙ ap (λ x. front_seen x) none))

-- ---- a side that has looked or taken

pub seated_on : (table : TableId) (key : DuoStart) (old new : DuoSeat) → IsDuoSeated table key old → new.table_id ≡ old.table_id → new.me.0.size ≡ old.me.0.size → new.me.0.holder ≡ old.me.0.holder → IsDuoSeated table key new
seated_on table key old new s same size holder = record {
  same = same ∙ s.same;
  key_is = s.key_is ∙ sym size;
  wide = s.wide ∙ ap (λ (n : ℕ). 16 * n) (sym size);
  some = subst (λ (n : ℕ). 0 < n) (sym size) s.some;
  few = subst (λ (n : ℕ). n ≤ 1024) (sym size) s.few;
  side = subst (λ (x : SeatHolder). IsOneSide x) (sym holder) s.side;
}

pub side_moves : (table : TableId) (key : DuoStart) (old new : DuoSeat) (k : SideFields) (t : TheSide) (take : TheCursor) (known : ℕ) → IsDuoSeated table key old → IsSide old k
    → side_of_seat new ≡ t → t.ring ≡ old.table_id → t.holder ≡ old.me.0.holder → t.size ≡ old.me.0.size → t.sent ≡ old.me.0.mine.put.sent → t.told ≡ old.me.0.mine.take.told
    → length t.got ≡ take.index → take.size ≡ k.take.size → k.told ≤ take.index
    → (new.me.0.mine.put.known ≡ known) × (k.known ≤ known) × (known ≤ length old.me.0.mine.put.sent)
    → (new.me.0.mine.put.part ≡ old.me.0.mine.put.part) × (new.me.1 ≡ old.me.1)
    → IsDuoSeated table key new × IsSide new (record { base = k.base; other = k.other; put = k.put; take = take; known = known; told = k.told })
side_moves table key old new k t take known s h is ring holder size sent told got wide more (knows, grown, within) (part, held) =
    let holds : new.me.0.holder ≡ old.me.0.holder = ap (λ (x : TheSide). x.holder) is ∙ holder in
    let sized : new.me.0.size ≡ old.me.0.size = ap (λ (x : TheSide). x.size) is ∙ size in
    let put : new.me.0.mine.put.sent ≡ old.me.0.mine.put.sent = ap (λ (x : TheSide). x.sent) is ∙ sent in
    let table_is : new.table_id ≡ old.table_id = ap (λ (x : TheSide). x.ring) is ∙ ring in
    let seat_told : new.me.0.mine.take.told ≡ old.me.0.mine.take.told = ap (λ (x : TheSide). x.told) is ∙ told in
    let seat_got : length new.me.0.mine.take.got ≡ take.index = ap (λ (x : TheSide). length x.got) is ∙ got in (
      seated_on table key old new s table_is sized holds,
      record {
        base_is = h.base_is ∙ ap (λ (x : SeatHolder). base_of x old.me.0.size) (sym holds) ∙ ap (λ (n : ℕ). base_of new.me.0.holder n) (sym sized);
        other_is = h.other_is ∙ ap (λ (x : SeatHolder). other_of x old.me.0.size) (sym holds) ∙ ap (λ (n : ℕ). other_of new.me.0.holder n) (sym sized);
        none_held = held ∙ h.none_held;
        part = part ∙ h.part;
        put_size = h.put_size ∙ sym sized;
        take_size = wide ∙ h.take_size ∙ sym sized;
        put_index = ap length put ∙ h.put_index;
        take_index = seat_got;
        known_is = knows;
        told_is = seat_told ∙ h.told_is;
        told_got = more;
        known_sent = omega (arith, within, h.put_index);
        room = omega (arith, grown, h.room, sized);
        most = h.most;
      },
    )

-- once it has taken a fragment, where the cursor went on
pub one_taken : (got : ℕ) (taken old : TheCursor) (told : ℕ) → taken ≡ record { index = old.index + 1; size = old.size } → got ≡ old.index → told ≤ old.index → (got + 1 ≡ taken.index) × (taken.size ≡ old.size) × (told ≤ taken.index)
one_taken got taken old told next is less =
    let index : taken.index ≡ old.index + 1 = ap (λ (x : TheCursor). x.index) next in
    (omega (arith, index, is), ap (λ (x : TheCursor). x.size) next, omega (arith, index, less))

-- the writer of a ring, once it has put a fragment
pub writer_puts : (table : TableId) (key : ℕ) (old new : RingSeat) (n index known : ℕ) (put : TheCursor) (frag : Frag) → IsSeated table key old → IsWriter old n index known
    → new.table_id ≡ old.table_id → new.me ≡ (with_writing old.me.0 (with_frag old.me.0.put frag), old.me.1) → put ≡ record { index = index + 1; size = n } → index < known + n → index < 2 ^ 62
    → IsSeated table key new × IsWriter new put.size put.index known
writer_puts table key old new n index known put frag s h same me puts free unspent =
    let next : put.index ≡ index + 1 = ap (λ (p : TheCursor). p.index) puts in
    let size : put.size ≡ n = ap (λ (p : TheCursor). p.size) puts in
    let longer : length (old.me.0.put.sent ++ frag ∷ []) ≡ length old.me.0.put.sent + 1 = length-append old.me.0.put.sent (frag ∷ []) in
    subst (λ (m : Me (Unit {0}) RingView). IsSeated table key (record new { me = m }) × IsWriter (record new { me = m }) put.size put.index known) (sym me) (
      record { same = same ∙ s.same; key_is = s.key_is; wide = s.wide; some = s.some; few = s.few },
      record {
        writes = h.writes;
        size = h.size ∙ sym size;
        none_held = h.none_held;
        part = refl;
        index_is = omega (arith, longer, next, h.index_is);
        known_is = h.known_is;
        known_sent = omega (arith, next, h.known_sent);
        room = omega (arith, next, size, free);
        most = omega (arith, next, unspent);
      },
    )
