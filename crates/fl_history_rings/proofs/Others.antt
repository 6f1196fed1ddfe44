-- What a core did by one of its sides left the others.
use Rattle.std.proofs.Common.{ℕ, ◌≡◌, ◌≢◌, ◌<◌, ◌≤◌, ◌+◌, ◌⊎◌, inl, inr, Option, Some, None, Result, Ok, Err, OnOk, MatchOption, ap, subst, ◌∙◌, sym, refl}
use Rattle.std.proofs.lemmas.Bool.{cases_lt}
use Rattle.fl_base.specs.declared.fragment.Frag.{Frag}
use Rattle.fl_link.specs.declared.fault.PutFault.{PutFault}
use Rattle.fl_link.specs.declared.fault.PutFault.TheVariants as refused
use Rattle.fl_link.specs.declared.sides.Told.{Told}
use Rattle.fl_link.specs.declared.sides.Told.TheVariants as told
use Rattle.fl_ring.specs.Duo.{acknowledgement}
use Rattle.fl_history_rings.specs.declared.board.Action.{Action}
use Rattle.fl_history_rings.specs.declared.board.Action.TheVariants.{Put, Found, Missed, Saw, Took}
use Rattle.fl_history_rings.specs.declared.place.RingSide.{RingSide}
use Rattle.fl_history_rings.specs.Cores.{TheCore, noting}
use Rattle.fl_history_rings.specs.Sides.{SideFor, LacksFree, HasFree, LooksForRoom, FindsRoom, FindsNone, Stays, IsSpent, Puts, Misses, Sees, Takes, TellsNothing, LeavesOthers, counting, having_put, having_taken, put_by}
use Rattle.fl_history_rings.proofs.SideCalls.{sides_stay}

-- its sides of other numbers
abbrev Beside : ℕ → TheCore → TheCore → Type 0
Beside k s t = (b : RingSide) → b.put.side ≢ k → SideFor s b → SideFor t b

one_beside : (k : ℕ) (s t : TheCore) (d : Action) → t ≡ noting s k d → Beside k s t
one_beside k s t d is b ne at = subst (λ (x : TheCore). SideFor x b) (sym is) (sides_stay s k d b ne at)

two_beside : (k : ℕ) (s t : TheCore) (d e : Action) → t ≡ noting (noting s k d) k e → Beside k s t
two_beside k s t d e is b ne at = one_beside k (noting s k d) t e is b ne (sides_stay s k d b ne at)

same_beside : (k : ℕ) (s t : TheCore) → t ≡ s → Beside k s t
same_beside k s t is b ne at = subst (λ (x : TheCore). SideFor x b) (sym is) at

-- the same number, by another side
leaves : (a a' c : RingSide) (s t : TheCore) → a' ≡ c → c.put.side ≡ a.put.side → Beside a.put.side s t → LeavesOthers a a' s t
leaves a a' c s t is same beside = record { number = ap (λ (x : RingSide). x.put.side) is ∙ same; others = beside }

looked_leaves : (s : TheCore) (a a' : RingSide) (t : TheCore) → LooksForRoom s a a' t → LeavesOthers a a' s t
looked_leaves s a a' t (inl (is, same, _)) = leaves a a' a s t same refl (one_beside a.put.side s t Missed is)
looked_leaves s a a' t (inr (control, is, same, _)) = leaves a a' (counting a control) s t same refl (one_beside a.put.side s t (Found control) is)

room_leaves : (need : ℕ) (s : TheCore) (a a' : RingSide) (t : TheCore) → FindsRoom need s a a' t → LeavesOthers a a' s t
room_leaves need s a a' t h = by (cases_lt (a.known + a.put.cursor.size) (a.put.cursor.index + need))
  where
    by : (a.known + a.put.cursor.size < a.put.cursor.index + need) ⊎ (a.put.cursor.index + need ≤ a.known + a.put.cursor.size) → LeavesOthers a a' s t
    by (inl lacks) = looked_leaves s a a' t (h.by_look lacks)
    by (inr free) = let kept = h.by_known free in leaves a a' a s t kept.1 refl (same_beside a.put.side s t kept.0)

stays_leaves : (s : TheCore) (a a' : RingSide) (t : TheCore) → Stays s a a' t → LeavesOthers a a' s t
stays_leaves s a a' t h = leaves a a' a s t h.1 refl (same_beside a.put.side s t h.0)

puts_leaves : (need : ℕ) (s : TheCore) (a : RingSide) (frag : Frag) (a' : RingSide) (t : TheCore) → Puts need s a frag a' t → LeavesOthers a a' s t
puts_leaves need s a frag a' t (between, mid, room, free, is, same) =
    let before = room_leaves need s a mid between room in
    leaves a a' (having_put mid) s t same before.number (λ b ne at. one_beside a.put.side between t (Put (put_by mid frag)) is b ne (before.others b ne at))

-- ---- by what a call answers

pub put_leaves : (r : Result (Unit {0}) PutFault) (s : TheCore) (a : RingSide) (frag : Frag) (a' : RingSide) (t : TheCore) → OnOk r (Puts 2 s a frag a' t) → (r ≡ Err refused.Full → FindsNone 2 s a a' t)
    → (r ≡ Err refused.Spent → Stays s a a' t × IsSpent a) → LeavesOthers a a' s t
put_leaves (Ok done) s a frag a' t put full spent = puts_leaves 2 s a frag a' t put
put_leaves (Err refused.Full) s a frag a' t put full spent = room_leaves 2 s a a' t (full refl).0
put_leaves (Err refused.Spent) s a frag a' t put full spent = stays_leaves s a a' t (spent refl).0

full_leaves : (s : TheCore) (a a' : RingSide) (t : TheCore) → FindsNone 1 s a a' t ⊎ (Stays s a a' t × IsSpent a) → LeavesOthers a a' s t
full_leaves s a a' t (inl none) = room_leaves 1 s a a' t none.0
full_leaves s a a' t (inr (kept, _)) = stays_leaves s a a' t kept

pub tell_leaves : (r : Result Told PutFault) (s : TheCore) (a a' : RingSide) (t : TheCore) → (r ≡ Ok told.Nothing → Stays s a a' t × TellsNothing a) → (r ≡ Ok told.Written → Puts 1 s a acknowledgement a' t)
    → (r ≡ Err refused.Full → FindsNone 1 s a a' t ⊎ (Stays s a a' t × IsSpent a)) → (r ≢ Err refused.Spent) → LeavesOthers a a' s t
tell_leaves (Ok told.Nothing) s a a' t nothing written full never = stays_leaves s a a' t (nothing refl).0
tell_leaves (Ok told.Written) s a a' t nothing written full never = puts_leaves 1 s a acknowledgement a' t (written refl)
tell_leaves (Err refused.Full) s a a' t nothing written full never = full_leaves s a a' t (full refl)
tell_leaves (Err refused.Spent) s a a' t nothing written full never = absurd (never refl)

misses_leaves : (s : TheCore) (a a' : RingSide) (t : TheCore) → Misses s a a' t → LeavesOthers a a' s t
misses_leaves s a a' t h = leaves a a' a s t h.1 refl (one_beside a.put.side s t Missed h.0)

pub look_leaves : (found : Option Frag) (s : TheCore) (a a' : RingSide) (t : TheCore) → MatchOption found (Misses s a a' t) (λ frag. Sees s a frag a' t) → LeavesOthers a a' s t
look_leaves None s a a' t h = misses_leaves s a a' t h
look_leaves (Some frag) s a a' t h = leaves a a' (counting a frag.control) s t h.1 refl (two_beside a.put.side s t (Found frag.control) (Saw frag) h.0)

pub take_leaves : (found : Option Frag) (s : TheCore) (a a' : RingSide) (t : TheCore) → MatchOption found (Misses s a a' t) (λ frag. Takes s a frag a' t) → LeavesOthers a a' s t
take_leaves None s a a' t h = misses_leaves s a a' t h
take_leaves (Some frag) s a a' t h = leaves a a' (having_taken (counting a frag.control)) s t h.1 refl (two_beside a.put.side s t (Found frag.control) (Took frag) h.0)
