-- Looks in a row: what they placed and found, and what a queue holds over them.
use Rattle.std.proofs.Common.{ℕ, ◌≡◌, ◌<◌, ◌+◌, ◌*◌, ◌/◌, ◌%◌, ◌^◌, ◌==◌, ◌&&◌, inl, inr, refl, sym, ap, subst, ◌∙◌, append_assoc, Bool, true, false, not, cond, List, [], ◌∷◌, ◌++◌, map, arith}
use Rattle.std.specs.List.{list_all}
use Rattle.std.proofs.lemmas.List.{append-nil, map-append}
use Rattle.std.proofs.lemmas.List.Elements.{filter-append}
use Rattle.std.proofs.lemmas.Grind.{flat_map-append}
use Rattle.fl_base.specs.declared.fragment.Frag.{Frag}
use Rattle.fl_base.specs.Control.{is_ack_only, body, bare, stamped}
use Rattle.fl_base.specs.Prefix.{IsPrefix}
use Rattle.fl_link.specs.Cursor.{epoch_at}
use Rattle.fl_link.specs.Looks.{Look, placed, no_room, spent, saw, saw_ack, found, found_ack, missed, told, kept, Looks, LinkStep, put_in, took_in, puts_of, takes_of}
use Rattle.fl_link.specs.Calls.{calls_only, bare_calls}
use Rattle.fl_link.specs.Queue.{TheQueue, QueuePuts, QueueTakes, next_epoch_of, with_put, with_taken, look_at, front_of}
use Rattle.fl_link.specs.Laws.{QueueConserves}
use Rattle.fl_link.proofs.Carried.{bare-stamped}

-- ---- looks in a row

pub looks_join : {S : Type 0} (R : S → Look → S → Type 0) (s t u : S) (xs ys : List Look) → Looks R s xs t → Looks R t ys u → Looks R s (xs ++ ys) u
looks_join R s t u [] ys h l = subst (λ x. Looks R x ys u) (sym h) l
looks_join R s t u (x ∷ xs) ys (m, step, rest) l = (m, step, looks_join R m t u xs ys rest l)

-- each step of one relation is one of another
pub looks_widen : {S : Type 0} (R Q : S → Look → S → Type 0) → ((s t : S) (look : Look) → R s look t → Q s look t)
    → (s t : S) (xs : List Look) → Looks R s xs t → Looks Q s xs t
looks_widen R Q wider s t [] h = h
looks_widen R Q wider s t (x ∷ xs) (m, step, rest) = (m, wider s m x step, looks_widen R Q wider m t xs rest)

-- what holds of no look, of one look and of two stretches of which it holds, holds of all looks in a row
pub over_looks : {S : Type 0} (R : S → Look → S → Type 0) (P : S → List Look → S → Type 0) → ((s : S) → P s [] s)
    → ((s t : S) (look : Look) → R s look t → P s (look ∷ []) t)
    → ((s t u : S) (xs ys : List Look) → P s xs t → P t ys u → P s (xs ++ ys) u)
    → (s t : S) (xs : List Look) → Looks R s xs t → P s xs t
over_looks R P none one join s t [] h = subst (λ x. P s [] x) h (none s)
over_looks R P none one join s t (x ∷ xs) (m, step, rest) = join s m t (x ∷ []) xs (one s m x step) (over_looks R P none one join m t xs rest)

pub puts_of-join : (xs ys : List Look) → puts_of (xs ++ ys) ≡ puts_of xs ++ puts_of ys
puts_of-join xs ys = flat_map-append put_in xs ys

pub takes_of-join : (xs ys : List Look) → takes_of (xs ++ ys) ≡ takes_of xs ++ takes_of ys
takes_of-join xs ys = flat_map-append took_in xs ys

-- what stood and what came is what went and what stands, over two stretches
pub goes_through : {A : Type 0} (x p q y p2 q2 z : List A) → x ++ p ≡ q ++ y → y ++ p2 ≡ q2 ++ z → x ++ (p ++ p2) ≡ (q ++ q2) ++ z
goes_through x p q y p2 q2 z a b =
    sym (append_assoc x p p2) ∙ ap (λ (l : List _). l ++ p2) a ∙ append_assoc q y p2 ∙ ap (λ (l : List _). q ++ l) b ∙ sym (append_assoc q q2 z)

-- ---- fragments of calls

pub calls_only-join : (xs ys : List Frag) → calls_only (xs ++ ys) ≡ calls_only xs ++ calls_only ys
calls_only-join xs ys = filter-append (λ frag. not (is_ack_only frag)) xs ys

pub bare_calls-join : (xs ys : List Frag) → bare_calls (xs ++ ys) ≡ bare_calls xs ++ bare_calls ys
bare_calls-join xs ys = ap calls_only (map-append bare xs ys) ∙ calls_only-join (map bare xs) (map bare ys)

-- the number that says so is in the body
half : (b : ℕ) → b < 2 ^ 47 → 2 * b / 2 % 2 ^ 47 ≡ b
half b h = omega arith

half_body : (c : ℕ) → body c / 2 % 2 ^ 47 ≡ c / 2 % 2 ^ 47
half_body c = let b : ℕ = c / 2 % 2 ^ 47 in let h : b < 2 ^ 47 = omega arith in half b h

same_ack : (words : List ℕ) (c d : ℕ) → c / 2 % 2 ^ 47 ≡ d / 2 % 2 ^ 47
    → is_ack_only (record { words = words; control = c }) ≡ is_ack_only (record { words = words; control = d })
same_ack words c d e = ap (λ (x : ℕ). (x == 2) && list_all (λ w. w == 0) words) e

pub bare-ack : (f : Frag) → is_ack_only (bare f) ≡ is_ack_only f
bare-ack f = same_ack f.words (body f.control) f.control (half_body f.control)

pub stamped-ack : (f : Frag) (e m : ℕ) → e < 2 → is_ack_only (stamped f e m) ≡ is_ack_only f
stamped-ack f e m h = sym (bare-ack (stamped f e m)) ∙ ap is_ack_only (bare-stamped f e m h) ∙ bare-ack f

-- one fragment
pub one_call : (f : Frag) → is_ack_only f ≡ false → bare_calls (f ∷ []) ≡ bare f ∷ []
one_call f e = ap (λ (b : Bool). cond (not b) (bare f ∷ []) []) (bare-ack f ∙ e)

pub first_call : (f : Frag) (fs : List Frag) → is_ack_only f ≡ false → bare_calls (f ∷ fs) ≡ bare f ∷ bare_calls fs
first_call f fs e = ap (λ (b : Bool). cond (not b) (bare f ∷ bare_calls fs) (bare_calls fs)) (bare-ack f ∙ e)

pub first_ack : (f : Frag) (fs : List Frag) → is_ack_only f ≡ true → bare_calls (f ∷ fs) ≡ bare_calls fs
first_ack f fs e = ap (λ (b : Bool). cond (not b) (bare f ∷ bare_calls fs) (bare_calls fs)) (bare-ack f ∙ e)

pub calls_only-bare : (xs : List Frag) → bare_calls xs ≡ map bare (calls_only xs)
calls_only-bare [] = refl
calls_only-bare (f ∷ fs) = cases (is_ack_only f) refl (calls_only-bare fs) where
  cases : (b : Bool) → is_ack_only f ≡ b → bare_calls fs ≡ map bare (calls_only fs) → bare_calls (f ∷ fs) ≡ map bare (calls_only (f ∷ fs))
  cases true e rest = first_ack f fs e ∙ rest ∙ ap (λ (b : Bool). map bare (cond (not b) (f ∷ calls_only fs) (calls_only fs))) (sym e)
  cases false e rest = first_call f fs e ∙ ap (λ (l : List Frag). bare f ∷ l) rest ∙ ap (λ (b : Bool). map bare (cond (not b) (f ∷ calls_only fs) (calls_only fs))) (sym e)

pub calls_only-again : (xs : List Frag) → calls_only (calls_only xs) ≡ calls_only xs
calls_only-again [] = refl
calls_only-again (f ∷ fs) = cases (is_ack_only f) refl (calls_only-again fs) where
  cases : (b : Bool) → is_ack_only f ≡ b → calls_only (calls_only fs) ≡ calls_only fs → calls_only (calls_only (f ∷ fs)) ≡ calls_only (f ∷ fs)
  cases true e rest = let
      left : calls_only (f ∷ fs) ≡ calls_only fs = ap (λ (b : Bool). cond (not b) (f ∷ calls_only fs) (calls_only fs)) e in
      ap calls_only left ∙ rest ∙ sym left
  cases false e rest = let
      kept_f : calls_only (f ∷ fs) ≡ f ∷ calls_only fs = ap (λ (b : Bool). cond (not b) (f ∷ calls_only fs) (calls_only fs)) e in
      ap calls_only kept_f ∙ ap (λ (b : Bool). cond (not b) (f ∷ calls_only (calls_only fs)) (calls_only (calls_only fs))) e ∙ ap (λ (l : List Frag). f ∷ l) rest ∙ sym kept_f

pub calls_prefix : (xs ys : List Frag) → IsPrefix xs ys → IsPrefix (bare_calls xs) (bare_calls ys)
calls_prefix xs ys (rest, e) = (bare_calls rest, ap bare_calls e ∙ bare_calls-join xs rest)

-- ---- what a look at a fragment tells

-- what is seen, where something is
abbrev seen_frag : Frag → Look → Frag
seen_frag d (saw f) = f
seen_frag d look = d

pub sees_call : (first f : Frag) → look_at first ≡ saw f → (is_ack_only first ≡ false) × (bare first ≡ f)
sees_call first f h = cases (is_ack_only first) refl where
  cases : (b : Bool) → is_ack_only first ≡ b → (is_ack_only first ≡ false) × (bare first ≡ f)
  cases true e = let no : saw_ack ≡ saw f = sym (ap (λ (b : Bool). cond b saw_ack (saw (bare first))) e) ∙ h in absurd (cc)
  cases false e = let yes_it : saw (bare first) ≡ saw f = sym (ap (λ (b : Bool). cond b saw_ack (saw (bare first))) e) ∙ h in (e, ap (seen_frag f) yes_it)

pub sees_ack : (first : Frag) → look_at first ≡ saw_ack → is_ack_only first ≡ true
sees_ack first h = cases (is_ack_only first) refl where
  cases : (b : Bool) → is_ack_only first ≡ b → is_ack_only first ≡ true
  cases true e = e
  cases false e = let no : saw (bare first) ≡ saw_ack = sym (ap (λ (b : Bool). cond b saw_ack (saw (bare first))) e) ∙ h in absurd (cc)

-- ---- a queue

epoch_bit : (q : TheQueue) → next_epoch_of q < 2
epoch_bit q = cases q.acked where
  cases : (b : Bool) → cond b (epoch_at q.capacity q.sent) 1 < 2
  cases true = let k : ℕ = q.sent / q.capacity in let h : (k + 1) % 2 < 2 = omega arith in h
  cases false = omega arith

same_queue : (s t : TheQueue) (look : Look) → t ≡ s → put_in look ≡ [] → took_in look ≡ [] → QueueConserves s (look ∷ []) t
same_queue s t look e put took = record {
  same_capacity = ap (λ (q : TheQueue). q.capacity) e;
  same_kind = ap (λ (q : TheQueue). q.acked) e;
  calls = ap (λ (fs : List Frag). bare_calls s.items ++ map bare (fs ++ [])) put ∙ append-nil (bare_calls s.items)
      ∙ ap (λ (q : TheQueue). bare_calls q.items) (sym e) ∙ ap (λ (fs : List Frag). (fs ++ []) ++ bare_calls t.items) (sym took);
}

gained : (s t : TheQueue) (f : Frag) → is_ack_only f ≡ false → t ≡ with_put s f → QueueConserves s (placed f ∷ []) t
gained s t f data_is e =
    let g : Frag = stamped f (next_epoch_of s) 0 in
    let bit = epoch_bit s in
    let one : bare_calls (g ∷ []) ≡ bare f ∷ [] = one_call g (stamped-ack f (next_epoch_of s) 0 bit ∙ data_is) ∙ ap (λ (x : Frag). x ∷ []) (bare-stamped f (next_epoch_of s) 0 bit) in
    record {
      same_capacity = ap (λ (q : TheQueue). q.capacity) e;
      same_kind = ap (λ (q : TheQueue). q.acked) e;
      calls = ap (λ (fs : List Frag). bare_calls s.items ++ fs) (sym one) ∙ sym (bare_calls-join s.items (g ∷ [])) ∙ ap (λ (q : TheQueue). bare_calls q.items) (sym e);
    }

lost : (s t : TheQueue) (look : Look) (first : Frag) (rest : List Frag) → s.items ≡ first ∷ rest → t ≡ with_taken s rest
    → put_in look ≡ [] → bare_calls (first ∷ rest) ≡ took_in look ++ bare_calls rest → QueueConserves s (look ∷ []) t
lost s t look first rest items e put took = record {
  same_capacity = ap (λ (q : TheQueue). q.capacity) e;
  same_kind = ap (λ (q : TheQueue). q.acked) e;
  calls = ap (λ (fs : List Frag). bare_calls s.items ++ map bare (fs ++ [])) put ∙ append-nil (bare_calls s.items) ∙ ap bare_calls items ∙ took
      ∙ ap (λ (fs : List Frag). fs ++ bare_calls rest) (sym (append-nil (took_in look))) ∙ ap (λ (q : TheQueue). (took_in look ++ []) ++ bare_calls q.items) (sym e);
}

puts_conserve : (s t : TheQueue) (look : Look) → QueuePuts s look t → QueueConserves s (look ∷ []) t
puts_conserve s t (placed f) (data_is, (room, e)) = gained s t f data_is e
puts_conserve s t no_room (full, e) = same_queue s t no_room e refl refl
puts_conserve s t spent (full, e) = same_queue s t spent e refl refl
puts_conserve s t (saw f) h = absurd h
puts_conserve s t saw_ack h = absurd h
puts_conserve s t (found f) h = absurd h
puts_conserve s t found_ack h = absurd h
puts_conserve s t missed h = absurd h
puts_conserve s t told h = absurd h
puts_conserve s t kept h = absurd h

takes_conserve : (s t : TheQueue) (look : Look) → QueueTakes s look t → QueueConserves s (look ∷ []) t
takes_conserve s t (placed f) h = absurd h
takes_conserve s t no_room h = absurd h
takes_conserve s t spent h = absurd h
takes_conserve s t (saw f) (seen, e) = same_queue s t (saw f) e refl refl
takes_conserve s t saw_ack (seen, e) = same_queue s t saw_ack e refl refl
takes_conserve s t (found f) (seen, (first, rest, items, e)) =
    let (plain, is_f) = sees_call first f (sym (ap front_of items) ∙ seen) in
    lost s t (found f) first rest items e refl (first_call first rest plain ∙ ap (λ (x : Frag). x ∷ bare_calls rest) is_f)
takes_conserve s t found_ack (seen, (first, rest, items, e)) =
    lost s t found_ack first rest items e refl (first_ack first rest (sees_ack first (sym (ap front_of items) ∙ seen)))
takes_conserve s t missed (none, e) = same_queue s t missed e refl refl
takes_conserve s t told (acked, e) = record {
  same_capacity = ap (λ (q : TheQueue). q.capacity) e;
  same_kind = ap (λ (q : TheQueue). q.acked) e;
  calls = append-nil (bare_calls s.items) ∙ ap (λ (q : TheQueue). bare_calls q.items) (sym e);
}
takes_conserve s t kept (not_acked, e) = same_queue s t kept e refl refl

step_conserves : (s t : TheQueue) (look : Look) → LinkStep QueuePuts QueueTakes s look t → QueueConserves s (look ∷ []) t
step_conserves s t look (inl put) = puts_conserve s t look put
step_conserves s t look (inr take) = takes_conserve s t look take

conserves_join : (s t u : TheQueue) (xs ys : List Look) → QueueConserves s xs t → QueueConserves t ys u → QueueConserves s (xs ++ ys) u
conserves_join s t u xs ys a b = record {
  same_capacity = b.same_capacity ∙ a.same_capacity;
  same_kind = b.same_kind ∙ a.same_kind;
  calls = ap (λ (fs : List Frag). bare_calls s.items ++ map bare fs) (puts_of-join xs ys)
      ∙ ap (λ (fs : List Frag). bare_calls s.items ++ fs) (map-append bare (puts_of xs) (puts_of ys))
      ∙ goes_through (bare_calls s.items) (map bare (puts_of xs)) (takes_of xs) (bare_calls t.items) (map bare (puts_of ys)) (takes_of ys) (bare_calls u.items) a.calls b.calls
      ∙ ap (λ (fs : List Frag). fs ++ bare_calls u.items) (sym (takes_of-join xs ys));
}

pub queue_conserves : (s t : TheQueue) (looks : List Look) → Looks (LinkStep QueuePuts QueueTakes) s looks t → QueueConserves s looks t
queue_conserves = over_looks (LinkStep QueuePuts QueueTakes) QueueConserves
    (λ s. record { same_capacity = refl; same_kind = refl; calls = append-nil (bare_calls s.items) })
    step_conserves conserves_join
