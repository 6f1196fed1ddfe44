-- What a side of a ring of two directions learned by looks can be forgotten.
use Rattle.std.proofs.Common.{ℕ, ◌≡◌, ◌≤◌, inl, inr, refl, sym, ap, subst, ◌∙◌, nat_le, Bool, true, false, cond, List, [], arith}
use Rattle.fl_link.specs.Looks.{Look, placed, no_room, spent, saw, saw_ack, found, found_ack, missed, told, kept, Looks}
use Rattle.fl_link.proofs.Conserved.{over_looks}
use Rattle.fl_ring.specs.Counts.{known_after}
use Rattle.fl_ring.specs.Duo.{TheHalf, TheDuo, HalfPuts, HalfTakes, DuoLooks, CountsAreNear, MayForget, only_looks, side_of, across, knowing, looked, counts_by, free, with_known}
use Rattle.fl_ring.specs.declared.one_duo.WhichSide.{WhichSide}
use Rattle.fl_ring.specs.declared.one_duo.WhichSide.TheVariants.{One, Two}
use Rattle.fl_ring.proofs.Numbers.{after_rises}

-- a side that has only looked knows more at most, and no more where nothing waits
record Knows (s : TheHalf) (k : ℕ) : Type 0 where
  rises : s.known ≤ k
  none_waits : s.waiting ≡ [] → s.known ≡ k

no_more : (s : TheHalf) → Knows s s.known
no_more s = record { rises = omega arith; none_waits = λ _. refl }

by_look : (s : TheHalf) → Knows s (looked s)
by_look s = record { rises = after_rises s.known s.waiting; none_waits = λ none. sym (ap (known_after s.known) none) }

by_count : (n need : ℕ) (s : TheHalf) → Knows s (counts_by n need s)
by_count n need s = cases (nat_le need (free n s.sent s.known)) where
  cases : (b : Bool) → Knows s (cond b s.known (looked s))
  cases true = no_more s
  cases false = by_look s

-- the two sides then
record HalfLooked (s p t q : TheHalf) : Type 0 where
  count : ℕ
  knows : Knows s count
  mine : t ≡ with_known s count
  theirs : q ≡ p

half_put : (n : ℕ) (s p t q : TheHalf) (look : Look) → only_looks look ≡ true → HalfPuts n s p look t q → HalfLooked s p t q
half_put n s p t q (placed f) only h = absurd (cc)
half_put n s p t q no_room only (unspent, room, e, d) = record { count = counts_by n 2 s; knows = by_count n 2 s; mine = e; theirs = d }
half_put n s p t q spent only (full, e, d) = record { count = s.known; knows = no_more s; mine = e; theirs = d }
half_put n s p t q (saw f) only h = absurd h
half_put n s p t q saw_ack only h = absurd h
half_put n s p t q (found f) only h = absurd h
half_put n s p t q found_ack only h = absurd h
half_put n s p t q missed only h = absurd h
half_put n s p t q told only h = absurd h
half_put n s p t q kept only h = absurd h

half_take : (n : ℕ) (s p t q : TheHalf) (look : Look) → only_looks look ≡ true → HalfTakes n s p look t q → HalfLooked s p t q
half_take n s p t q (placed f) only h = absurd h
half_take n s p t q spent only h = absurd h
half_take n s p t q (saw f) only (seen, e, d) = record { count = looked s; knows = by_look s; mine = e; theirs = d }
half_take n s p t q saw_ack only (seen, e, d) = record { count = looked s; knows = by_look s; mine = e; theirs = d }
half_take n s p t q (found f) only h = absurd (cc)
half_take n s p t q found_ack only h = absurd (cc)
half_take n s p t q missed only (none, e, d) = record { count = s.known; knows = no_more s; mine = e; theirs = d }
half_take n s p t q told only h = absurd (cc)
half_take n s p t q kept only (few, e, d) = record { count = s.known; knows = no_more s; mine = e; theirs = d }
half_take n s p t q no_room only (much, d, inl (last, e)) = record { count = s.known; knows = no_more s; mine = e; theirs = d }
half_take n s p t q no_room only (much, d, inr (unspent, room, e)) = record { count = counts_by n 1 s; knows = by_count n 1 s; mine = e; theirs = d }

-- the ring then
record DuoLooked (which : WhichSide) (s t : TheDuo) : Type 0 where
  count : ℕ
  knows : Knows (side_of which s) count
  same : t ≡ knowing which s count

same_duo : (n m : ℕ) (a b c d : TheHalf) → n ≡ m → a ≡ b → c ≡ d → (let x : TheDuo = record { size = n; one = a; two = c } in x) ≡ record { size = m; one = b; two = d }
same_duo n m a b c d e f g =
    ap (λ (k : ℕ). let x : TheDuo = record { size = k; one = a; two = c } in x) e
    ∙ ap (λ (h : TheHalf). let x : TheDuo = record { size = m; one = h; two = c } in x) f
    ∙ ap (λ (h : TheHalf). let x : TheDuo = record { size = m; one = b; two = h } in x) g

at_one : (s t : TheDuo) → t.size ≡ s.size → HalfLooked s.one s.two t.one t.two → DuoLooked One s t
at_one s t size h = record { count = h.count; knows = h.knows; same = same_duo t.size s.size t.one (with_known s.one h.count) t.two s.two size h.mine h.theirs }

at_two : (s t : TheDuo) → t.size ≡ s.size → HalfLooked s.two s.one t.two t.one → DuoLooked Two s t
at_two s t size h = record { count = h.count; knows = h.knows; same = same_duo t.size s.size t.one s.one t.two (with_known s.two h.count) size h.theirs h.mine }

duo_step : (which : WhichSide) (s t : TheDuo) (look : Look) → DuoLooks which s look t → DuoLooked which s t
duo_step One s t look (only, inl put) = at_one s t put.1 (half_put s.size s.one s.two t.one t.two look only put.0)
duo_step One s t look (only, inr took) = at_one s t took.1 (half_take s.size s.one s.two t.one t.two look only took.0)
duo_step Two s t look (only, inl put) = at_two s t put.1 (half_put s.size s.two s.one t.two t.one look only put.0)
duo_step Two s t look (only, inr took) = at_two s t took.1 (half_take s.size s.two s.one t.two t.one look only took.0)

-- looks before, and then one more
knows_on : (s : TheHalf) (k l : ℕ) → Knows s k → Knows (with_known s k) l → Knows s l
knows_on s k l a b = record { rises = omega (arith, a.rises, b.rises); none_waits = λ none. a.none_waits none ∙ b.none_waits none }

duo_join : (which : WhichSide) (s t u : TheDuo) → DuoLooked which s t → DuoLooked which t u → DuoLooked which s u
duo_join One s t u a b = record {
  count = b.count;
  knows = knows_on s.one a.count b.count a.knows (subst (λ (d : TheDuo). Knows d.one b.count) a.same b.knows);
  same = b.same ∙ ap (λ (d : TheDuo). knowing One d b.count) a.same;
}
duo_join Two s t u a b = record {
  count = b.count;
  knows = knows_on s.two a.count b.count a.knows (subst (λ (d : TheDuo). Knows d.two b.count) a.same b.knows);
  same = b.same ∙ ap (λ (d : TheDuo). knowing Two d b.count) a.same;
}

duo_none : (which : WhichSide) (s : TheDuo) → DuoLooked which s s
duo_none One s = record { count = s.one.known; knows = no_more s.one; same = refl }
duo_none Two s = record { count = s.two.known; knows = no_more s.two; same = refl }

after_looks : (which : WhichSide) (s t : TheDuo) (looks : List Look) → Looks (DuoLooks which) s looks t → DuoLooked which s t
after_looks which = over_looks (DuoLooks which) (λ s looks t. DuoLooked which s t) (duo_none which) (duo_step which) (λ s t u xs ys a b. duo_join which s t u a b)

forgotten : (which : WhichSide) (s t : TheDuo) → CountsAreNear s.size (side_of which s) (across which s) → DuoLooked which s t
    → MayForget t.size (side_of which t) (side_of which s).known × (knowing which t (side_of which s).known ≡ s)
forgotten One s t near h =
    let may : MayForget s.size (with_known s.one h.count) s.one.known = record { before = h.knows.rises; sent_near = near.sent_near; none_waits = h.knows.none_waits } in
    (subst (λ (d : TheDuo). MayForget d.size d.one s.one.known) (sym h.same) may, ap (λ (d : TheDuo). knowing One d s.one.known) h.same)
forgotten Two s t near h =
    let may : MayForget s.size (with_known s.two h.count) s.two.known = record { before = h.knows.rises; sent_near = near.sent_near; none_waits = h.knows.none_waits } in
    (subst (λ (d : TheDuo). MayForget d.size d.two s.two.known) (sym h.same) may, ap (λ (d : TheDuo). knowing Two d s.two.known) h.same)

pub forgets_looks : (which : WhichSide) (s t : TheDuo) (looks : List Look) → CountsAreNear s.size (side_of which s) (across which s) → Looks (DuoLooks which) s looks t
    → MayForget t.size (side_of which t) (side_of which s).known × (knowing which t (side_of which s).known ≡ s)
forgets_looks which s t looks near h = forgotten which s t near (after_looks which s t looks h)
