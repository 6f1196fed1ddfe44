-- Rooms in a block: what an update of one leaves of the others.
use Rattle.std.proofs.Common.{◌≡◌, ◌≢◌, ℕ, zero, suc, ◌+◌, ◌-◌, ◌<◌, ◌≤◌, ◌⊎◌, inl, inr, ⊎_elim, List, [], ◌∷◌, ◌++◌, map, length, take, drop, get_or, set, Some, None, refl, sym, subst, ap, ◌∙◌, arith}
use Rattle.std.specs.Prelude.{slice_get, Option, option_map}
use Rattle.std.specs.List.{sum_by}
use Rattle.std.proofs.lemmas.List.{length-append, length-take-le, length-drop, take-append-le, drop-append-le, take-take, drop-drop, take_at, drop_at, drop-take}
use Rattle.std.proofs.lemmas.List.Sums.{sum_by_push, sum_by-set, get_or-le-sum_by}
use Rattle.std.proofs.lemmas.Option.{none-some, same_Some, slice_get_within, get_or_from_slice_get, slice_get-map}
use Rattle.std.proofs.lemmas.Slice.{drop-append-drop}
use Rattle.fl_base.specs.declared.fragment.Frag.{Frag}
use Rattle.fl_machine.specs.declared.rooms.RoomRange.{RoomRange}
use Rattle.fl_machine.specs.Rooms.{IsOpened, frags_from, room_in, owed_from, owed_for, IsWithin, AreApart, AreLaid, AreRooms}

-- ---- lists

pub get_before : {X : Type 0} (xs ys : List X) (i : ℕ) (s : X) → slice_get xs i ≡ Some s → slice_get (xs ++ ys) i ≡ Some s
get_before [] ys i s e = absurd (none-some s e)
get_before (x ∷ xs) ys zero s e = e
get_before (x ∷ xs) ys (suc i) s e = get_before xs ys i s e

get_pushed : {X : Type 0} (xs : List X) (x : X) (i : ℕ) (s : X) → slice_get (xs ++ x ∷ []) i ≡ Some s → (slice_get xs i ≡ Some s) ⊎ (x ≡ s)
get_pushed [] x zero s e = inr (same_Some x s e)
get_pushed [] x (suc i) s e = absurd (none-some s e)
get_pushed (y ∷ xs) x zero s e = inl e
get_pushed (y ∷ xs) x (suc i) s e = get_pushed xs x i s e

get_changed : {X : Type 0} (xs : List X) (k : ℕ) (x : X) (i : ℕ) (s : X) → slice_get (set xs k x) i ≡ Some s
    → ((k ≢ i) × (slice_get xs i ≡ Some s)) ⊎ ((k ≡ i) × (x ≡ s))
get_changed [] k x i s e = absurd (none-some s e)
get_changed (y ∷ xs) zero x zero s e = inr (refl, same_Some x s e)
get_changed (y ∷ xs) zero x (suc i) s e = inl ((λ (q : 0 ≡ suc i). omega (arith, q)), e)
get_changed (y ∷ xs) (suc k) x zero s e = inl ((λ (q : suc k ≡ 0). omega (arith, q)), e)
get_changed (y ∷ xs) (suc k) x (suc i) s e = ⊎_elim
    (λ (p : (k ≢ i) × (slice_get xs i ≡ Some s)). inl ((λ (q : suc k ≡ suc i). p.0 (omega (arith, q))), p.1))
    (λ (p : (k ≡ i) × (x ≡ s)). inr (ap suc p.0, p.1))
    (get_changed xs k x i s e)

pub map_same : {X Y : Type 0} (f g : X → Y) (xs : List X) → ((j : ℕ) (s : X) → slice_get xs j ≡ Some s → g s ≡ f s) → map g xs ≡ map f xs
map_same f g [] same = refl
map_same f g (x ∷ xs) same = ap (λ y. y ∷ map g xs) (same 0 x refl) ∙ ap (λ ys. f x ∷ ys) (map_same f g xs (λ j s e. same (suc j) s e))

pub map_changed : {X Y : Type 0} (f g : X → Y) (xs : List X) (i : ℕ) (x : X) → ((j : ℕ) (s : X) → slice_get xs j ≡ Some s → j ≢ i → g s ≡ f s)
    → map g (set xs i x) ≡ set (map f xs) i (g x)
map_changed f g [] i x same = refl
map_changed f g (y ∷ xs) zero x same = ap (λ ys. g x ∷ ys) (map_same f g xs (λ j s e. same (suc j) s e (λ (q : suc j ≡ 0). omega (arith, q))))
map_changed f g (y ∷ xs) (suc i) x same =
    ap (λ z. z ∷ map g (set xs i x)) (same 0 y refl (λ (q : 0 ≡ suc i). omega (arith, q)))
    ∙ ap (λ ys. f y ∷ ys) (map_changed f g xs i x (λ j s e n. same (suc j) s e (λ (q : suc j ≡ suc i). n (omega (arith, q)))))

pub set_there : {X : Type 0} (xs : List X) (i : ℕ) (s : X) → slice_get xs i ≡ Some s → set xs i s ≡ xs
set_there [] i s e = refl
set_there (x ∷ xs) zero s e = ap (λ y. y ∷ xs) (sym (same_Some x s e))
set_there (x ∷ xs) (suc i) s e = ap (λ ys. x ∷ ys) (set_there xs i s e)

pub map_at : {X Y : Type 0} (f g : X → Y) (xs : List X) (i : ℕ) (x : X) → slice_get xs i ≡ Some x → ((j : ℕ) (s : X) → slice_get xs j ≡ Some s → j ≢ i → g s ≡ f s)
    → map g xs ≡ set (map f xs) i (g x)
map_at f g xs i x at same = ap (map g) (sym (set_there xs i x at)) ∙ map_changed f g xs i x same

-- ---- fragments of a block

-- behind a block that became longer they are as they were
longer : (block more : List Frag) (size start : ℕ) → start + size ≤ length block → take size (drop start (block ++ more)) ≡ take size (drop start block)
longer block more size start h =
    ap (take size) (drop-append-le start block more (omega (arith, h)))
    ∙ take-append-le size (drop start block) more (omega (arith, h, length-drop start block))

abbrev pub written : List Frag → ℕ → List Frag → List Frag
written block start frags = take start block ++ (frags ++ drop (length frags) (drop start block))

pub written_length : (block : List Frag) (start : ℕ) (frags : List Frag) → start + length frags ≤ length block → length (written block start frags) ≡ length block
written_length block start frags h =
    length-append (take start block) (frags ++ drop (length frags) (drop start block))
    ∙ omega (arith, h, length-take-le start block (omega (arith, h)), length-append frags (drop (length frags) (drop start block)), length-drop (length frags) (drop start block), length-drop start block)

-- the fragments written
written_here : (block : List Frag) (start : ℕ) (frags : List Frag) → start + length frags ≤ length block → take (length frags) (drop start (written block start frags)) ≡ frags
written_here block start frags h =
    ap (take (length frags)) (drop_at (take start block) (frags ++ drop (length frags) (drop start block)) start (length-take-le start block (omega (arith, h))))
    ∙ take_at frags (drop (length frags) (drop start block)) (length frags) refl

-- those before them
written_before : (block : List Frag) (start : ℕ) (frags : List Frag) (size at : ℕ) → start + length frags ≤ length block → at + size ≤ start
    → take size (drop at (written block start frags)) ≡ take size (drop at block)
written_before block start frags size at h before =
    let rest = frags ++ drop (length frags) (drop start block) in
    sym (drop-take at size (take start block ++ rest))
    ∙ ap (drop at) (take-append-le (at + size) (take start block) rest (omega (arith, h, before, length-take-le start block (omega (arith, h)))) ∙ take-take (at + size) start block before)
    ∙ drop-take at size block

-- those behind them
written_behind : (block : List Frag) (start : ℕ) (frags : List Frag) (size at : ℕ) → start + length frags ≤ length block → start + length frags ≤ at
    → take size (drop at (written block start frags)) ≡ take size (drop at block)
written_behind block start frags size at h behind =
    let n = length frags in
    let front : drop start (written block start frags) ≡ frags ++ drop n (drop start block)
    = drop_at (take start block) (frags ++ drop n (drop start block)) start (length-take-le start block (omega (arith, h))) in
    let left : start + (at - start) ≡ at = omega (arith, behind) in
    ap (take size)
    (ap (λ (k : ℕ). drop k (written block start frags)) (sym left)
    ∙ sym (drop-drop (at - start) start (written block start frags))
    ∙ ap (drop (at - start)) front
    ∙ drop-append-drop n (drop start block) frags (at - start) (omega (arith, behind)) refl
    ∙ drop-drop (at - start) start block
    ∙ ap (λ (k : ℕ). drop k block) left)

-- ---- rooms

-- a room's fragments are as they were in a block that became longer
room_longer : (block more : List Frag) (s : RoomRange) → IsWithin (length block) s → room_in (block ++ more) s ≡ room_in block s
room_longer block more s within = ap (λ (o : Option (List Frag)). record { size = s.size; frags = o }) (by_start s.start within)
  where
    by_start : (o : Option ℕ) → ((start : ℕ) → o ≡ Some start → start + s.size ≤ length block) → frags_from (block ++ more) s.size o ≡ frags_from block s.size o
    by_start None h = refl
    by_start (Some start) h = ap Some (longer block more s.size start (h start refl))

-- and where another room's are written
room_written : (block : List Frag) (start : ℕ) (frags : List Frag) (s u : RoomRange) → s.start ≡ Some start → s.size ≡ length frags → start + length frags ≤ length block
    → AreApart s u → room_in (written block start frags) u ≡ room_in block u
room_written block start frags s u at size h apart = ap (λ (o : Option (List Frag)). record { size = u.size; frags = o }) (by_start u.start (λ other e. apart start other at e))
  where
    by_start : (o : Option ℕ) → ((other : ℕ) → o ≡ Some other → (start + s.size ≤ other) ⊎ (other + u.size ≤ start)) → frags_from (written block start frags) u.size o ≡ frags_from block u.size o
    by_start None apart = refl
    by_start (Some other) apart = ap Some (⊎_elim
        (λ (behind : start + s.size ≤ other). written_behind block start frags u.size other h (omega (arith, behind, size)))
        (λ (before : other + u.size ≤ start). written_before block start frags u.size other h before)
        (apart other refl))

-- one more that isn't there yet
laid_pushed : (long : ℕ) (ss : List RoomRange) (x : RoomRange) → AreLaid long ss → x.start ≡ None → AreLaid long (ss ++ x ∷ [])
laid_pushed long ss x laid none = record {
  within = λ k s e start at. ⊎_elim
      (λ (old : slice_get ss k ≡ Some s). laid.within k s old start at)
      (λ (new : x ≡ s). absurd (none-some start (sym none ∙ ap (λ (u : RoomRange). u.start) new ∙ at)))
      (get_pushed ss x k s e);
  apart = λ j k s u e d n a b p q. ⊎_elim
      (λ (first : slice_get ss j ≡ Some s). ⊎_elim
      (λ (second : slice_get ss k ≡ Some u). laid.apart j k s u first second n a b p q)
      (λ (new : x ≡ u). absurd (none-some b (sym none ∙ ap (λ (u : RoomRange). u.start) new ∙ q)))
      (get_pushed ss x k u d))
      (λ (new : x ≡ s). absurd (none-some a (sym none ∙ ap (λ (u : RoomRange). u.start) new ∙ p)))
      (get_pushed ss x j s e);
}

-- without the last
laid_before : (long : ℕ) (ss more : List RoomRange) → AreLaid long (ss ++ more) → AreLaid long ss
laid_before long ss more laid = record {
  within = λ k s e. laid.within k s (get_before ss more k s e);
  apart = λ j k s u e d. laid.apart j k s u (get_before ss more j s e) (get_before ss more k u d);
}

-- one of them is laid behind all others
laid_opened : (long more : ℕ) (ss : List RoomRange) (k : ℕ) (x : RoomRange) → AreLaid long ss → x.start ≡ Some long → long + x.size ≤ more → AreLaid more (set ss k x)
laid_opened long more ss k x laid at end = record {
  within = λ i s e start p. ⊎_elim
      (λ (old : (k ≢ i) × (slice_get ss i ≡ Some s)). omega (arith, laid.within i s old.1 start p, end))
      (λ (new : (k ≡ i) × (x ≡ s)).
      let here : long ≡ start = same_Some long start (sym at ∙ ap (λ (u : RoomRange). u.start) new.1 ∙ p) in
      let size : x.size ≡ s.size = ap (λ (u : RoomRange). u.size) new.1 in omega (arith, here, size, end))
      (get_changed ss k x i s e);
  apart = λ i j s u e d n a b p q. ⊎_elim
      (λ (first : (k ≢ i) × (slice_get ss i ≡ Some s)). ⊎_elim
      (λ (second : (k ≢ j) × (slice_get ss j ≡ Some u)). laid.apart i j s u first.1 second.1 n a b p q)
      (λ (new : (k ≡ j) × (x ≡ u)).
      let here : long ≡ b = same_Some long b (sym at ∙ ap (λ (u : RoomRange). u.start) new.1 ∙ q) in
      inl (omega (arith, here, laid.within i s first.1 a p)))
      (get_changed ss k x j u d))
      (λ (new : (k ≡ i) × (x ≡ s)). ⊎_elim
      (λ (second : (k ≢ j) × (slice_get ss j ≡ Some u)).
      let here : long ≡ a = same_Some long a (sym at ∙ ap (λ (u : RoomRange). u.start) new.1 ∙ p) in
      inr (omega (arith, here, laid.within j u second.1 b q)))
      (λ (again : (k ≡ j) × (x ≡ u)). absurd (n (sym new.0 ∙ again.0)))
      (get_changed ss k x j u d))
      (get_changed ss k x i s e);
}

-- ---- what the functions do

pub are_added : (long capacity more : ℕ) (ss : List RoomRange) (owed size : ℕ) → AreRooms long capacity ss owed → long + (owed + size) ≤ more
    → AreRooms long more (ss ++ record { size = size; start = None } ∷ []) (owed + size)
are_added long capacity more ss owed size t room =
    let x : RoomRange = record { size = size; start = None } in
    record {
      laid = laid_pushed long ss x t.laid refl;
      owed_is = sum_by_push owed_for ss x ∙ ap (λ (n : ℕ). n + size) t.owed_is;
      reserved = room;
    }

pub are_opened : (long capacity more : ℕ) (ss : List RoomRange) (owed k : ℕ) (s : RoomRange) → AreRooms long capacity ss owed → slice_get ss k ≡ Some s → s.start ≡ None → capacity ≤ more
    → AreRooms (long + s.size) more (set ss k (record { size = s.size; start = Some long })) (owed - s.size)
are_opened long capacity more ss owed k s t at none grown =
    let x : RoomRange = record { size = s.size; start = Some long } in
    let inside : k < length ss = slice_get_within ss k s at in
    let own : owed_for s ≡ s.size = ap (owed_from s.size) none in
    let read : owed_for (get_or ss k s) ≡ owed_for s = ap owed_for (get_or_from_slice_get ss k s s at) in
    let sum : sum_by owed_for (set ss k x) + owed_for (get_or ss k s) ≡ sum_by owed_for ss + 0 = sum_by-set owed_for ss k x s inside in
    let less : s.size ≤ owed = omega (arith, own, read, t.owed_is, get_or-le-sum_by owed_for ss k s inside) in
    record {
      laid = laid_opened long (long + s.size) ss k x t.laid refl (omega arith);
      owed_is = omega (arith, sum, own, read, t.owed_is);
      reserved = omega (arith, less, t.reserved, grown);
    }

pub are_before : (long capacity : ℕ) (ss : List RoomRange) (s : RoomRange) (owed : ℕ) → AreRooms long capacity (ss ++ s ∷ []) owed → AreRooms long capacity ss (owed - owed_for s)
are_before long capacity ss s owed t =
    let sum : sum_by owed_for (ss ++ s ∷ []) ≡ sum_by owed_for ss + owed_for s = sum_by_push owed_for ss s in
    record {
      laid = laid_before long ss (s ∷ []) t.laid;
      owed_is = omega (arith, sum, t.owed_is);
      reserved = omega (arith, t.reserved);
    }

pub is_opened : (block more : List Frag) (capacity : ℕ) (ss : List RoomRange) (owed k : ℕ) (s : RoomRange) → AreRooms (length block) capacity ss owed → slice_get ss k ≡ Some s → length more ≡ s.size
    → IsOpened (map (room_in block) ss) k (map (room_in (block ++ more)) (set ss k (record { size = s.size; start = Some (length block) })))
is_opened block more capacity ss owed k s t at long =
    let x : RoomRange = record { size = s.size; start = Some (length block) } in
    record {
      was = room_in block s;
      was_there = slice_get-map (room_in block) ss k ∙ ap (option_map (room_in block)) at;
      frags = take s.size (drop (length block) (block ++ more));
      long = ap (λ (xs : List Frag). length (take s.size xs)) (drop_at block more (length block) refl) ∙ length-take-le s.size more (omega (arith, long));
      after_is = map_changed (room_in block) (room_in (block ++ more)) ss k x (λ j u e n. room_longer block more u (t.laid.within j u e));
    }

pub is_open : (block : List Frag) (capacity : ℕ) (ss : List RoomRange) (owed k : ℕ) (s : RoomRange) (start : ℕ) → AreRooms (length block) capacity ss owed → slice_get ss k ≡ Some s → s.start ≡ Some start
    → IsOpened (map (room_in block) ss) k (map (room_in block) ss)
is_open block capacity ss owed k s start t at some =
    let inside : start + s.size ≤ length block = t.laid.within k s at start some in
    record {
      was = room_in block s;
      was_there = slice_get-map (room_in block) ss k ∙ ap (option_map (room_in block)) at;
      frags = take s.size (drop start block);
      long = length-take-le s.size (drop start block) (omega (arith, inside, length-drop start block));
      after_is = map_at (room_in block) (room_in block) ss k s at (λ j u e n. refl)
          ∙ ap (λ (o : Option (List Frag)). set (map (room_in block) ss) k (record { size = s.size; frags = o })) (ap (frags_from block s.size) some);
    }

-- fragments are written where a room lies
pub is_written : (block : List Frag) (capacity : ℕ) (ss : List RoomRange) (owed k : ℕ) (s : RoomRange) (start : ℕ) (frags : List Frag) → AreRooms (length block) capacity ss owed
    → slice_get ss k ≡ Some s → s.start ≡ Some start → length frags ≡ s.size
    → map (room_in (written block start frags)) ss ≡ set (map (room_in block) ss) k (record { size = s.size; frags = Some frags })
is_written block capacity ss owed k s start frags t at some long =
    let inside : start + s.size ≤ length block = t.laid.within k s at start some in
    let room : start + length frags ≤ length block = omega (arith, inside, long) in
    map_at (room_in block) (room_in (written block start frags)) ss k s at
    (λ j u e n. room_written block start frags s u some (sym long) room (t.laid.apart k j s u at e (λ (q : k ≡ j). n (sym q))))
    ∙ ap (λ (o : Option (List Frag)). set (map (room_in block) ss) k (record { size = s.size; frags = o }))
    (ap (frags_from (written block start frags) s.size) some
    ∙ ap (λ (n : ℕ). Some (take n (drop start (written block start frags)))) (sym long)
    ∙ ap Some (written_here block start frags room))

pub are_same : {long many capacity owed left : ℕ} {ss us : List RoomRange} → AreRooms long capacity ss owed → many ≡ long → us ≡ ss → left ≡ owed → AreRooms many capacity us left
are_same {long} {many} {capacity} {owed} {left} {ss} {us} t p q r =
    subst (λ (n : ℕ). AreRooms n capacity us left) (sym p)
    (subst (λ (xs : List RoomRange). AreRooms long capacity xs left) (sym q) (subst (λ (n : ℕ). AreRooms long capacity ss n) (sym r) t))
