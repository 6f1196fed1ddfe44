-- Puts and tells of a side, as it is shown.
use Rattle.std.proofs.Common.{ℕ, ◌≡◌, ◌≢◌, ◌<◌, ◌≤◌, ◌+◌, ◌/◌, ◌^◌, ◌⊎◌, inl, inr, Result, Ok, Err, OnOk, false, length, ap, ◌∙◌, sym, refl, arith, [], ◌++◌, ◌∷◌}
use Rattle.std.proofs.lemmas.Bool.{cases_lt}
use Rattle.fl_base.specs.declared.fragment.Frag.{Frag}
use Rattle.fl_base.specs.Control.{is_ack_only, bare}
use Rattle.fl_link.specs.declared.fault.PutFault.{PutFault}
use Rattle.fl_link.specs.declared.fault.PutFault.TheVariants as refused
use Rattle.fl_link.specs.declared.sides.Told.{Told}
use Rattle.fl_link.specs.declared.sides.Told.TheVariants as answer
use Rattle.fl_link.specs.Looks.{Look, placed, no_room, spent, told, kept, tells}
use Rattle.fl_link.proofs.Conserved.{bare-ack}
use Rattle.fl_ring.specs.Duo.{acknowledgement}
use Rattle.fl_ring.specs.SharedSides.{TheSide, SharedPuts, SharedTakes, Looked, free_of, unacknowledged_of, side_written}
use Rattle.fl_ring.proofs.SharedDuoSides.{short_before, written_bare}
use Rattle.fl_history_rings.specs.declared.board.Action.TheVariants.{Put}
use Rattle.fl_history_rings.specs.declared.place.RingSide.{RingSide}
use Rattle.fl_history_rings.specs.declared.place.SlotPlace.{SlotPlace}
use Rattle.fl_history_rings.specs.Rule.{puts_at, takes_at, told_at}
use Rattle.fl_history_rings.specs.Cores.{TheCore}
use Rattle.fl_history_rings.specs.Sides.{SideFor, FindsNone, Puts, Stays, IsSpent, TellsNothing, TellsSome, put_by}
use Rattle.fl_history_sides.specs.Noted.{Notes}
use Rattle.fl_history_sides.proofs.Calls.{shared_of, counts_of, is_free, is_short, Does, Room, finds_room, wrote, number_is, all_noted, notes_put}

-- the label of a put, by its answer
abbrev pub put_label : Frag → Result (Unit {0}) PutFault → Look
put_label frag (Ok done) = placed (bare frag)
put_label frag (Err refused.Full) = no_room
put_label frag (Err refused.Spent) = spent

pub on_placed : (P : Look → Type 0) (frag : Frag) (r : Result (Unit {0}) PutFault) → P (put_label frag r) → OnOk r (P (placed (bare frag)))
on_placed P frag (Ok done) put = put
on_placed P frag (Err fault) put = tt

module _ (c : TheCore) (a : RingSide) (at : SideFor c a) (t : TheCore) (b : RingSide) where
  shown : TheSide
  shown = shared_of c a

  -- nothing was done
  stays_so : Stays c a b t → shared_of t b ≡ shared_of c a
  stays_so (is, same) = ap (λ (x : RingSide). shared_of t x) same ∙ ap (λ (x : TheCore). shared_of x a) is

  stays_does : (look : Look) → Notes look [] → Stays c a b t → Does c a look t b
  stays_does look notes (is, same) = record { did = []; notes = notes; then_is = is; number = ap (λ (x : RingSide). x.put.side) same }

  -- a fragment was put
  module _ (need : ℕ) (some_need : 0 < need) (frag : Frag) (puts : Puts need c a frag b t) where
    abbrev between : TheCore
    between = puts.0

    abbrev mid : RingSide
    mid = puts.1

    room : Room need c a puts.1 puts.0
    room = finds_room need some_need c a at puts.1 puts.0 puts.2

    written_there : SideFor t b → (length (puts_at a.put.side c.steps) < 2 ^ 62)
        × ((m : TheSide) × Looked need (shared_of c a) m × (need ≤ free_of m) × (shared_of t b ≡ side_written m frag))
    written_there after =
        let most = after.most in
        let next : b.put.cursor.index ≡ puts.1.put.cursor.index + 1 = ap (λ (x : RingSide). x.put.cursor.index) puts.5 in
        let was : puts.1.put.cursor.index ≡ a.put.cursor.index = ap (λ (p : SlotPlace). p.cursor.index) room.put_is in
        let sent = (counts_of c a at).sent in (
          omega (arith, most, next, was, sent),
          (shared_of puts.0 puts.1, room.shown, is_free need puts.0 puts.1 room.counts some_need puts.3, wrote need c a puts.1 puts.0 room frag t b puts.4 puts.5),
        )

    put_does : (look : Look) → (Notes look (room.did ++ Put (put_by puts.1 frag) ∷ [])) → Does c a look t b
    put_does look notes = record {
      did = room.did ++ Put (put_by puts.1 frag) ∷ [];
      notes = notes;
      then_is = all_noted need c a puts.1 puts.0 room frag t b puts.4 puts.5;
      number = number_is need c a puts.1 puts.0 room frag t b puts.4 puts.5;
    }

  pub placed_so : (frag : Frag) → is_ack_only frag ≡ false → SideFor t b → Puts 2 c a frag b t → SharedPuts (shared_of c a) (placed (bare frag)) (shared_of t b) × Does c a (placed (bare frag)) t b
  placed_so frag plain after puts =
      let w = written_there 2 (omega arith) frag puts after in (
        (bare-ack frag ∙ plain, w.0, (w.1.0, w.1.1, w.1.2, w.1.3 ∙ written_bare w.1.0 frag)),
        put_does 2 (omega arith) frag puts (placed (bare frag)) (notes_put 2 c a puts.1 puts.0 (room 2 (omega arith) frag puts) frag t b puts.4 puts.5 puts.3),
      )

  -- no room was found
  module _ (need : ℕ) (some_need : 0 < need) (none : FindsNone need c a b t) where
    looked : Room need c a b t
    looked = finds_room need some_need c a at b t none.0

    none_there : Looked need (shared_of c a) (shared_of t b) × (free_of (shared_of c a) < need) × (free_of (shared_of t b) < need)
    none_there =
        let short = is_short need t b looked.counts none.1 some_need in
        (looked.shown, short_before need (shared_of c a) (shared_of t b) looked.shown short, short)

    none_does : Does c a no_room t b
    none_does = record { did = looked.did; notes = looked.notes; then_is = looked.then_is; number = ap (λ (p : SlotPlace). p.side) looked.put_is }

  unspent_so : a.put.cursor.index ≢ 2 ^ 62 → length (puts_at a.put.side c.steps) < 2 ^ 62
  unspent_so unspent = let sent = (counts_of c a at).sent in let most = at.most in omega (arith, sent, most, unspent)

  spent_here : IsSpent a → length (puts_at a.put.side c.steps) ≡ 2 ^ 62
  spent_here is = (counts_of c a at).sent ∙ is

  pub full_so : a.put.cursor.index ≢ 2 ^ 62 → FindsNone 2 c a b t → SharedPuts (shared_of c a) no_room (shared_of t b) × Does c a no_room t b
  full_so unspent none = let n = none_there 2 (omega arith) none in ((unspent_so unspent, n.0, n.1, n.2), none_does 2 (omega arith) none)

  pub spent_so : Stays c a b t × IsSpent a → SharedPuts (shared_of c a) spent (shared_of t b) × Does c a spent t b
  spent_so (stays, is) = ((spent_here is, stays_so stays), stays_does spent refl stays)

  pub puts_so : (r : Result (Unit {0}) PutFault) (frag : Frag) → is_ack_only frag ≡ false → SideFor t b → OnOk r (Puts 2 c a frag b t) → (r ≡ Err refused.Full → FindsNone 2 c a b t)
      → (r ≡ Err refused.Spent → Stays c a b t × IsSpent a) → (IsSpent a → r ≡ Err refused.Spent) → SharedPuts (shared_of c a) (put_label frag r) (shared_of t b) × Does c a (put_label frag r) t b
  puts_so (Ok done) frag plain after put full idle first = placed_so frag plain after put
  puts_so (Err refused.Full) frag plain after put full idle first = full_so (λ e. let no = first e in absurd (cc)) (full refl)
  puts_so (Err refused.Spent) frag plain after put full idle first = spent_so (idle refl)

  -- ---- a tell

  told_is : (let n = length (takes_at a.put.side c.steps) in let m = told_at a.put.side c.steps in (n ≡ a.take.cursor.index) × (m ≡ a.told))
  told_is = ((counts_of c a at).got, sym at.told_is)

  some_so : TellsSome a → a.put.cursor.size / 2 ≤ unacknowledged_of (shared_of c a)
  some_so enough = let slots = (counts_of c a at).slots in let got = told_is.0 in let tells_so = told_is.1 in omega (arith, slots, got, tells_so, enough)

  nothing_so : TellsNothing a → unacknowledged_of (shared_of c a) < a.put.cursor.size / 2
  nothing_so less = let slots = (counts_of c a at).slots in let got = told_is.0 in let tells_so = told_is.1 in omega (arith, slots, got, tells_so, less)

  kept_so : Stays c a b t × TellsNothing a → SharedTakes (shared_of c a) kept (shared_of t b) × Does c a kept t b
  kept_so (stays, less) = ((nothing_so less, stays_so stays), stays_does kept refl stays)

  wrote_so : SideFor t b → TellsSome a → Puts 1 c a acknowledgement b t → SharedTakes (shared_of c a) told (shared_of t b) × Does c a told t b
  wrote_so after some puts =
      let w = written_there 1 (omega arith) acknowledgement puts after in (
        (some_so some, w.0, w.1),
        put_does 1 (omega arith) acknowledgement puts told (notes_put 1 c a puts.1 puts.0 (room 1 (omega arith) acknowledgement puts) acknowledgement t b puts.4 puts.5 puts.3),
      )

  idle_so : TellsSome a → Stays c a b t × IsSpent a → SharedTakes (shared_of c a) no_room (shared_of t b) × Does c a no_room t b
  idle_so some (stays, is) = ((some_so some, inl (spent_here is, stays_so stays)), stays_does no_room (inl (inl refl)) stays)

  full_tell : TellsSome a → (IsSpent a → Stays c a b t) → FindsNone 1 c a b t → SharedTakes (shared_of c a) no_room (shared_of t b) × Does c a no_room t b
  full_tell some spent_stays none = by (cases_lt a.put.cursor.index (2 ^ 62))
    where
      by : (a.put.cursor.index < 2 ^ 62) ⊎ (2 ^ 62 ≤ a.put.cursor.index) → SharedTakes (shared_of c a) no_room (shared_of t b) × Does c a no_room t b
      by (inl less) = let n = none_there 1 (omega arith) none in ((some_so some, inr (unspent_so (λ e. absurd (omega (arith, less, e))), n.0, n.1, n.2)), none_does 1 (omega arith) none)
      by (inr more) = let most = at.most in let is : a.put.cursor.index ≡ 2 ^ 62 = omega (arith, most, more) in idle_so some (spent_stays is, is)

  pub tells_so : (r : Result Told PutFault) → SideFor t b → (r ≡ Ok answer.Nothing → Stays c a b t × TellsNothing a) → (r ≡ Ok answer.Written → Puts 1 c a acknowledgement b t)
      → (r ≡ Err refused.Full → FindsNone 1 c a b t ⊎ (Stays c a b t × IsSpent a)) → (r ≢ Ok answer.Nothing → TellsSome a) → (IsSpent a → Stays c a b t) → (r ≢ Err refused.Spent)
      → SharedTakes (shared_of c a) (tells r) (shared_of t b) × Does c a (tells r) t b
  tells_so (Ok answer.Nothing) after nothing written full some spent_stays never = kept_so (nothing refl)
  tells_so (Ok answer.Written) after nothing written full some spent_stays never = wrote_so after (some (λ e. absurd (cc))) (written refl)
  tells_so (Err refused.Full) after nothing written full some spent_stays never = by (full refl)
    where
      enough : TellsSome a
      enough = some (λ e. absurd (cc))

      by : FindsNone 1 c a b t ⊎ (Stays c a b t × IsSpent a) → SharedTakes (shared_of c a) no_room (shared_of t b) × Does c a no_room t b
      by (inl none) = full_tell enough spent_stays none
      by (inr idle) = idle_so enough idle
  tells_so (Err refused.Spent) after nothing written full some spent_stays never = absurd (never refl)
