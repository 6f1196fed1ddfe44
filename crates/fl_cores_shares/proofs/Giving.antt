-- A thing more in a core's hand.
use Rattle.std.proofs.Common.{◌≡◌, ⊎_elim, refl, sym, ap, ◌∙◌, subst, ℕ, zero, suc, ◌+◌, ◌<◌, ◌==◌, if◌then◌else◌, List, [], ◌∷◌, ◌++◌, length, map, slice_get, slice_set, get_or, Option, Some, None}
use Rattle.std.proofs.Common.{Bool, true, false, arith}
use Rattle.std.specs.Prelude.{unwrap_or}
use Rattle.std.proofs.lemmas.List.{append-nil, append_assoc, length-append}
use Rattle.std.proofs.lemmas.Option.{slice_get_within, slice_get-get_or}
use Rattle.std.proofs.lemmas.Bool.Decides.{nat_tests}
use Rattle.fl_cores_shares.specs.declared.shares.CoreShares.{CoreShares}
use Rattle.fl_cores_shares.specs.Shares.{Holdings, holding_at, own_things, own_before, AreHandedOut, IsAt, AreAt, AreApart, AreCounted, holdings_in, Holds, Gives}
use Rattle.fl_cores_shares.specs.Giving.{given_to}
use Rattle.fl_cores_shares.proofs.Places.{next_test, none_before, none_behind, self_test, stays_at, last_at, one_more}

abbrev pub own_of : {T : Type 0} → ℕ → ℕ → T → List T
own_of core owner thing = if owner == core then thing ∷ [] else []

pub own_self : {T : Type 0} (owner : ℕ) (thing : T) → own_of owner owner thing ≡ thing ∷ []
own_self owner thing = ap (λ (b : Bool). if b then thing ∷ [] else []) (self_test owner)

pub given_look : {T : Type 0} (n c : ℕ) (thing : T) (holdings : Holdings T) → n < length holdings → holding_at (given_to n thing holdings) c ≡ holding_at holdings c ++ own_of c n thing
given_look n c thing [] h = absurd (omega (arith, h))
given_look zero zero thing (x ∷ holdings) h = ap (λ (b : Bool). x ++ (if b then thing ∷ [] else [])) (sym (self_test zero))
given_look zero (suc c) thing (x ∷ holdings) h =
    sym (append-nil (holding_at holdings c)) ∙ ap (λ (b : Bool). holding_at holdings c ++ (if b then thing ∷ [] else [])) (sym (none_before c))
given_look (suc n) zero thing (x ∷ holdings) h = sym (append-nil x) ∙ ap (λ (b : Bool). x ++ (if b then thing ∷ [] else [])) (sym (none_behind n))
given_look (suc n) (suc c) thing (x ∷ holdings) h =
    given_look n c thing holdings (omega (arith, h)) ∙ ap (λ (b : Bool). holding_at holdings c ++ (if b then thing ∷ [] else [])) (sym (next_test n c))

pub given_length : {T : Type 0} (n : ℕ) (thing : T) (holdings : Holdings T) → length (given_to n thing holdings) ≡ length holdings
given_length n thing [] = refl
given_length zero thing (x ∷ holdings) = refl
given_length (suc n) thing (x ∷ holdings) = ap suc (given_length n thing holdings)

-- it is so put there
pub put_given : {X T : Type 0} (f : X → List T) (xs : List X) (n : ℕ) (x y : X) (thing : T) → slice_get xs n ≡ Some x → f y ≡ f x ++ thing ∷ []
    → map f (slice_set xs n y) ≡ given_to n thing (map f xs)
put_given f [] n x y thing e h = absurd cc
put_given f (z ∷ xs) zero x y thing e h = let same : x ≡ z = cc in ap (λ k. k ∷ map f xs) (h ∙ ap (λ k. f k ++ thing ∷ []) same)
put_given f (z ∷ xs) (suc n) x y thing e h = ap (λ ys. f z ∷ ys) (put_given f xs n x y thing e h)

pub put_given_or : {X T : Type 0} (f : X → List T) (xs : List X) (n : ℕ) (x y : X) (thing : T) → n < length xs → x ≡ get_or xs n x → f y ≡ f x ++ thing ∷ []
    → map f (slice_set xs n y) ≡ given_to n thing (map f xs)
put_given_or f xs n x y thing below is h = put_given f xs n x y thing (slice_get-get_or xs n x below ∙ ap Some (sym is)) h

holding_of_map : {X T : Type 0} (f : X → List T) (xs : List X) (n : ℕ) (x : X) → slice_get xs n ≡ Some x → holding_at (map f xs) n ≡ f x
holding_of_map f [] n x e = absurd cc
holding_of_map f (z ∷ xs) zero x e = let same : z ≡ x = cc in ap f same
holding_of_map f (z ∷ xs) (suc n) x e = holding_of_map f xs n x e

pub holding_is : {X T : Type 0} (f : X → List T) (xs : List X) (n : ℕ) (x : X) → n < length xs → x ≡ get_or xs n x → holding_at (map f xs) n ≡ f x
holding_is f xs n x below is = holding_of_map f xs n x (slice_get-get_or xs n x below ∙ ap Some (sym is))

-- ---- what each core has

pub own_more : {T : Type 0} (c : ℕ) (owners : List ℕ) (things : List T) (owner : ℕ) (thing : T) → length things ≡ length owners
    → own_things c (owners ++ owner ∷ []) (things ++ thing ∷ []) ≡ own_things c owners things ++ own_of c owner thing
own_more c [] [] owner thing same = append-nil (own_of c owner thing)
own_more c [] (s ∷ things) owner thing same = absurd (omega (arith, same))
own_more c (o ∷ owners) [] owner thing same = absurd (omega (arith, same))
own_more c (o ∷ owners) (s ∷ things) owner thing same =
    ap (λ xs. own_of c o s ++ xs) (own_more c owners things owner thing (omega (arith, same)))
    ∙ sym (append_assoc (own_of c o s) (own_things c owners things) (own_of c owner thing))

handed_out_more : {T : Type 0} (owners : List ℕ) (things : List T) (holdings : Holdings T) (owner : ℕ) (thing : T) → owner < length holdings → AreHandedOut owners things holdings
    → AreHandedOut (owners ++ owner ∷ []) (things ++ thing ∷ []) (given_to owner thing holdings)
handed_out_more owners things holdings owner thing there d = record {
  count = length-append things (thing ∷ []) ∙ ap (λ n. n + 1) d.count ∙ sym (length-append owners (owner ∷ []));
  each = λ c. given_look owner c thing holdings there ∙ ap (λ xs. xs ++ own_of c owner thing) (d.each c) ∙ sym (own_more c owners things owner thing d.count);
}

at_more : {T : Type 0} (owners : List ℕ) (things : List T) (holdings : Holdings T) (places : List ℕ) (owner : ℕ) (thing : T) → owner < length holdings → length things ≡ length owners
    → length places ≡ length owners → AreAt owners things holdings places
    → AreAt (owners ++ owner ∷ []) (things ++ thing ∷ []) (given_to owner thing holdings) (places ++ length (holding_at holdings owner) ∷ [])
at_more {T} owners things holdings places owner thing there same numbered are n o s owner_is thing_is =
    ⊎_elim
    (λ (was : slice_get owners n ≡ Some o).
    ⊎_elim
    (λ (stood : slice_get things n ≡ Some s).
    let a = are n o s was stood in
    record {
      place = a.place;
      place_is = stays_at places (length (holding_at holdings owner) ∷ []) n a.place a.place_is;
      stands = ap (λ h. slice_get h a.place) (given_look owner o thing holdings there) ∙ stays_at (holding_at holdings o) (own_of o owner thing) a.place s a.stands;
    })
    (λ last. absurd (let below = slice_get_within owners n o was in let at = last.0 in omega (arith, below, at, same)))
    (one_more things thing s n thing_is))
    (λ last.
    ⊎_elim
    (λ (stood : slice_get things n ≡ Some s). absurd (let below = slice_get_within things n s stood in let at = last.0 in omega (arith, below, at, same)))
    (λ end.
    let here : n ≡ length places = last.0 ∙ sym numbered in
    let own : own_of o owner thing ≡ s ∷ [] = ap (λ (x : ℕ). own_of x owner thing) last.1 ∙ own_self owner thing ∙ ap (λ (x : T). x ∷ []) (sym end.1) in
    record {
      place = length (holding_at holdings owner);
      place_is = ap (slice_get (places ++ length (holding_at holdings owner) ∷ [])) here ∙ last_at places (length (holding_at holdings owner));
      stands = ap (λ h. slice_get h (length (holding_at holdings owner))) (given_look owner o thing holdings there ∙ ap (λ xs. holding_at holdings o ++ xs) own)
          ∙ ap (λ (x : ℕ). slice_get (holding_at holdings x ++ s ∷ []) (length (holding_at holdings owner))) last.1 ∙ last_at (holding_at holdings owner) s;
    })
    (one_more things thing s n thing_is))
    (one_more owners owner o n owner_is)

-- a place that is told of one of the things stands in its owner's hand
told_within : {T : Type 0} (owners : List ℕ) (things : List T) (holdings : Holdings T) (places : List ℕ) (thing : T) → length things ≡ length owners → AreAt owners things holdings places
    → (n o p : ℕ) → slice_get owners n ≡ Some o → slice_get places n ≡ Some p → p < length (holding_at holdings o)
told_within owners things holdings places thing same are n o p owner_is place_is =
    let below = slice_get_within owners n o owner_is in
    let a = are n o (get_or things n thing) owner_is (slice_get-get_or things n thing (omega (arith, below, same))) in
    let told : Some a.place ≡ Some p = sym a.place_is ∙ place_is in
    let place : a.place ≡ p = cc in
    subst (λ (x : ℕ). x < length (holding_at holdings o)) place (slice_get_within (holding_at holdings o) a.place _ a.stands)

apart_more : {T : Type 0} (owners : List ℕ) (things : List T) (holdings : Holdings T) (places : List ℕ) (owner : ℕ) (thing : T) → length things ≡ length owners
    → length places ≡ length owners → AreAt owners things holdings places → AreApart owners places
    → AreApart (owners ++ owner ∷ []) (places ++ length (holding_at holdings owner) ∷ [])
apart_more owners things holdings places owner thing same numbered are apart n m o p owner_n owner_m place_n place_m =
    ⊎_elim
    (λ (was_n : slice_get owners n ≡ Some o).
    ⊎_elim
    (λ (was_m : slice_get owners m ≡ Some o). apart n m o p was_n was_m (told n was_n place_n) (told m was_m place_m))
    (λ last. absurd (not_behind n m was_n last.0 last.1 place_n place_m))
    (one_more owners owner o m owner_m))
    (λ last_n.
    ⊎_elim
    (λ (was_m : slice_get owners m ≡ Some o). absurd (not_behind m n was_m last_n.0 last_n.1 place_m place_n))
    (λ last_m. last_n.0 ∙ sym last_m.0)
    (one_more owners owner o m owner_m))
    (one_more owners owner o n owner_n)
  where
    told : (k : ℕ) → slice_get owners k ≡ Some o → slice_get (places ++ length (holding_at holdings owner) ∷ []) k ≡ Some p → slice_get places k ≡ Some p
    told k was at =
        ⊎_elim
        (λ stood. stood)
        (λ last. absurd (let below = slice_get_within owners k o was in let behind = last.0 in omega (arith, below, behind, numbered)))
        (one_more places (length (holding_at holdings owner)) p k at)

    -- the next thing is told none of its owner's places
    not_behind : (k j : ℕ) → slice_get owners k ≡ Some o → j ≡ length owners → o ≡ owner → slice_get (places ++ length (holding_at holdings owner) ∷ []) k ≡ Some p
        → slice_get (places ++ length (holding_at holdings owner) ∷ []) j ≡ Some p → ⊥
    not_behind k j was end mine at_k at_j =
        let within : p < length (holding_at holdings owner) = subst (λ (x : ℕ). p < length (holding_at holdings x)) mine (told_within owners things holdings places thing same are k o p was (told k was at_k)) in
        let behind : Some p ≡ Some (length (holding_at holdings owner)) =
        sym at_j ∙ ap (slice_get (places ++ length (holding_at holdings owner) ∷ [])) (end ∙ sym numbered) ∙ last_at places (length (holding_at holdings owner)) in
        let place : p ≡ length (holding_at holdings owner) = cc in
        omega (arith, within, place)

-- ---- how many stand before

-- things behind a number don't count
own_before_more : (owner : ℕ) (owners more : List ℕ) (n o : ℕ) → slice_get owners n ≡ Some o → own_before owner n (owners ++ more) ≡ own_before owner n owners
own_before_more owner [] more n o at = absurd (let no : None ≡ Some o = at in cc)
own_before_more owner (x ∷ owners) more zero o at = refl
own_before_more owner (x ∷ owners) more (suc n) o at =
    ap (λ (k : ℕ). if x == owner then suc k else k) (own_before_more owner owners more n o at)

own_counts : {T : Type 0} (b : Bool) (thing : T) (rest : List T) → length ((if b then thing ∷ [] else []) ++ rest) ≡ (if b then suc (length rest) else length rest)
own_counts true thing rest = refl
own_counts false thing rest = refl

-- before the next thing stand all of its owner's
own_before_next : {T : Type 0} (owner last : ℕ) (owners : List ℕ) (things : List T) → length things ≡ length owners
    → own_before owner (length owners) (owners ++ last ∷ []) ≡ length (own_things owner owners things)
own_before_next owner last [] [] same = refl
own_before_next owner last [] (t ∷ things) same = absurd (omega (arith, same))
own_before_next owner last (x ∷ owners) [] same = absurd (omega (arith, same))
own_before_next owner last (x ∷ owners) (t ∷ things) same =
    ap (λ (k : ℕ). if x == owner then suc k else k) (own_before_next owner last owners things (omega (arith, same)))
    ∙ sym (own_counts (x == owner) t (own_things owner owners things))

counted_more : {T : Type 0} (owners : List ℕ) (things : List T) (holdings : Holdings T) (places : List ℕ) (owner : ℕ) → AreHandedOut owners things holdings
    → length places ≡ length owners → AreCounted owners places
    → AreCounted (owners ++ owner ∷ []) (places ++ length (holding_at holdings owner) ∷ [])
counted_more owners things holdings places owner handed_out numbered counted = record {
  each = λ n o owner_is.
      ⊎_elim
      (λ (was : slice_get owners n ≡ Some o).
      stays_at places (length (holding_at holdings owner) ∷ []) n (own_before o n owners) (counted.each n o was)
      ∙ ap Some (sym (own_before_more o owners (owner ∷ []) n o was)))
      (λ last.
      let count : length (holding_at holdings owner) ≡ own_before owner (length owners) (owners ++ owner ∷ []) =
      ap length (handed_out.each owner) ∙ sym (own_before_next owner owner owners things handed_out.count) in
      let mine : own_before owner (length owners) (owners ++ owner ∷ []) ≡ own_before o n (owners ++ owner ∷ []) =
      ap (λ (x : ℕ). own_before x (length owners) (owners ++ owner ∷ [])) (sym last.1) ∙ ap (λ (k : ℕ). own_before o k (owners ++ owner ∷ [])) (sym last.0) in
      ap (slice_get (places ++ length (holding_at holdings owner) ∷ [])) (last.0 ∙ sym numbered) ∙ last_at places (length (holding_at holdings owner)) ∙ ap Some (count ∙ mine))
      (one_more owners owner o n owner_is);
}

pub gives : {T : Type 0} (owner : ℕ) (thing : T) (d d2 : CoreShares T) → owner < length d.holdings.items → holdings_in d2 ≡ given_to owner thing (holdings_in d)
    → d2.owners.items ≡ d.owners.items ++ owner ∷ [] → d2.places.items ≡ d.places.items ++ length (holding_at (holdings_in d) owner) ∷ []
    → length (holdings_in d) ≡ length d.holdings.items → length d2.holdings.items ≡ length (holdings_in d2)
    → Gives owner thing d d2
gives {T} owner thing d d2 there holdings owners places count count2 = record {
  cores = count2 ∙ ap length holdings ∙ given_length owner thing (holdings_in d) ∙ count;
  owners = owners;
  holds = λ things holds.
      let below : owner < length (holdings_in d) = omega (arith, there, count) in
      record {
        handed_out = subst (λ (os : List ℕ). AreHandedOut os (things ++ thing ∷ []) (holdings_in d2)) (sym owners)
            (subst (λ (hs : Holdings T). AreHandedOut (d.owners.items ++ owner ∷ []) (things ++ thing ∷ []) hs) (sym holdings) (handed_out_more d.owners.items things (holdings_in d) owner thing below holds.handed_out));
        numbered = ap length places ∙ length-append d.places.items (length (holding_at (holdings_in d) owner) ∷ []) ∙ ap (λ n. n + 1) holds.numbered
            ∙ sym (length-append d.owners.items (owner ∷ [])) ∙ ap length (sym owners);
        places = subst (λ (ps : List ℕ). AreAt d2.owners.items (things ++ thing ∷ []) (holdings_in d2) ps) (sym places)
            (subst (λ (os : List ℕ). AreAt os (things ++ thing ∷ []) (holdings_in d2) (d.places.items ++ length (holding_at (holdings_in d) owner) ∷ [])) (sym owners)
            (subst (λ (hs : Holdings T). AreAt (d.owners.items ++ owner ∷ []) (things ++ thing ∷ []) hs (d.places.items ++ length (holding_at (holdings_in d) owner) ∷ [])) (sym holdings)
            (at_more d.owners.items things (holdings_in d) d.places.items owner thing below holds.handed_out.count holds.numbered holds.places)));
        apart = subst (λ (ps : List ℕ). AreApart d2.owners.items ps) (sym places)
            (subst (λ (os : List ℕ). AreApart os (d.places.items ++ length (holding_at (holdings_in d) owner) ∷ [])) (sym owners)
            (apart_more d.owners.items things (holdings_in d) d.places.items owner thing holds.handed_out.count holds.numbered holds.places holds.apart));
        counted = subst (λ (ps : List ℕ). AreCounted d2.owners.items ps) (sym places)
            (subst (λ (os : List ℕ). AreCounted os (d.places.items ++ length (holding_at (holdings_in d) owner) ∷ [])) (sym owners)
            (counted_more d.owners.items things (holdings_in d) d.places.items owner holds.handed_out holds.numbered holds.counted));
      };
}

-- ---- empty hands

pub holds_none : {T : Type 0} (d : CoreShares T) → d.owners.items ≡ [] → d.places.items ≡ [] → ((c : ℕ) → holding_at (holdings_in d) c ≡ []) → Holds d []
holds_none {T} d owners places empty = record {
  handed_out = record { count = ap length (sym owners); each = λ c. empty c ∙ sym (ap (λ (os : List ℕ). own_things {T = T} c os []) owners) };
  numbered = ap length places ∙ ap length (sym owners);
  places = λ n o s owner thing. absurd (let no : None ≡ Some s = thing in cc);
  apart = λ n m o p owner_n owner_m place_n place_m.
      absurd (let no : None ≡ Some o = ap (λ (os : List ℕ). slice_get os n) (sym owners) ∙ owner_n in cc);
  counted = record { each = λ n o owner. absurd (let no : None ≡ Some o = ap (λ (os : List ℕ). slice_get os n) (sym owners) ∙ owner in cc) };
}

-- one empty hand more
pub still_empty : {X T : Type 0} (f : X → List T) (xs : List X) (x : X) → f x ≡ [] → ((c : ℕ) → holding_at (map f xs) c ≡ []) → (c : ℕ) → holding_at (map f (xs ++ x ∷ [])) c ≡ []
still_empty f [] x none empty zero = none
still_empty f [] x none empty (suc c) = refl
still_empty f (y ∷ xs) x none empty zero = empty zero
still_empty f (y ∷ xs) x none empty (suc c) = still_empty f xs x none (λ n. empty (suc n)) c
