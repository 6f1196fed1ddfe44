-- What is to be sent of a direction's calls, as calls are accepted and fragments written.
use Rattle.std.proofs.Common.{◌≡◌, ◌≢◌, refl, sym, ◌∙◌, ap, ℕ, zero, suc, ◌+◌, ◌-◌, ◌≤◌, nat_lt, true, false, if◌then◌else◌, List, [], ◌∷◌, ◌++◌, length, map, drop, slice_get, slice_index, Some, None, arith}
use Rattle.std.proofs.lemmas.List.{drop_all, drop-drop, map_push, length-drop}
use Rattle.fl_base.specs.declared.fragment.Frag.{Frag}
use Rattle.fl_value_data.specs.Value.{TheCall}
use Rattle.fl_wire.specs.Payload.{frags_on}
use Rattle.fl_endpoint.specs.View.{TheOutgoing, begun, queued, queued_behind, wrote}
use Rattle.fl_endpoint.specs.View.{goes_on as next_begun}
use Rattle.fl_model.specs.Given.{changed_at}
use Rattle.fl_model.specs.Events.{written}
use Rattle.fl_model.specs.Calls.{Planned, fragments, total, last_count, stream}
use Rattle.fl_model.specs.Ends.{Direction, written_of, is_busy, accepts, accepts_or_waits, accepts_waiting, goes_on, passes, progress}
use Rattle.fl_model.specs.SoundLabels.{IsCounted}
use Rattle.fl_world_refines.specs.Ends.{outgoing_of}
use Rattle.fl_world_refines.proofs.Tests.{by_test, either, then_is, else_is, lt_true, lt_false, true_lt, false_lt}
use Rattle.fl_world_refines.proofs.Streams.{frags, length_frags, length_stream, total_push, last_push, drop_push, some_fragments}

abbrev pub each_frags : ℕ → Planned → List TheCall → List (List Frag)
each_frags circuit i cs = map (frags_on circuit i.plan i.interface) cs

-- the fragments that are to be written
abbrev pub unwritten : ℕ → Planned → Direction → List Frag
unwritten circuit i d = drop (written_of d) (stream circuit i d.accepted)

pub length_unwritten : (circuit : ℕ) (i : Planned) (d : Direction) → length (unwritten circuit i d) ≡ total i d.accepted - written_of d
length_unwritten circuit i d =
    let long = length_stream circuit i d.accepted in
    let rest = length-drop (written_of d) (stream circuit i d.accepted) in
    omega (arith, long, rest)

pub nothing_left : (circuit : ℕ) (i : Planned) (d : Direction) → total i d.accepted ≤ written_of d → unwritten circuit i d ≡ []
nothing_left circuit i d h =
    let long = length_stream circuit i d.accepted in
    drop_all (written_of d) (stream circuit i d.accepted) (omega (arith, long, h))

pub idle_nothing : (circuit : ℕ) (i : Planned) (d : Direction) → is_busy i d ≡ false → unwritten circuit i d ≡ []
idle_nothing circuit i d q = nothing_left circuit i d (false_lt (written_of d) (total i d.accepted) q)

-- an end is busy where fragments are to be written
pub busy_by : (circuit : ℕ) (i : Planned) (d : Direction) (f : Frag) (rest : List Frag) → unwritten circuit i d ≡ f ∷ rest → is_busy i d ≡ true
busy_by circuit i d f rest q =
    let long = length_unwritten circuit i d in
    let more : length (unwritten circuit i d) ≡ suc (length rest) = ap length q in
    lt_true (written_of d) (total i d.accepted) (omega (arith, long, more))

pub busy_some : (circuit : ℕ) (i : Planned) (d : Direction) → unwritten circuit i d ≢ [] → is_busy i d ≡ true
busy_some circuit i d h = by_test (is_busy i d) (λ q. q) (λ q. absurd (h (idle_nothing circuit i d q)))

pub idle_by : (circuit : ℕ) (i : Planned) (d : Direction) → unwritten circuit i d ≡ [] → is_busy i d ≡ false
idle_by circuit i d q =
    let long = length_unwritten circuit i d in
    let none : length (unwritten circuit i d) ≡ 0 = ap length q in
    lt_false (written_of d) (total i d.accepted) (omega (arith, long, none))

pub same_outgoing : (u v : List Frag) (m n : ℕ) (ws xs : List (List Frag)) → u ≡ v → m ≡ n → ws ≡ xs
    → ◌≡◌ {A = TheOutgoing} (record { unwritten = u; count = m; waiting = ws }) (record { unwritten = v; count = n; waiting = xs })
same_outgoing u v m n ws xs p q r =
    ap (λ (w : List Frag). record { unwritten = w; count = m; waiting = ws }) p
    ∙ ap (λ (k : ℕ). record { unwritten = v; count = k; waiting = ws }) q
    ∙ ap (λ (ys : List (List Frag)). record { unwritten = v; count = n; waiting = ys }) r

-- ---- one call more

-- the call in transmission is the last of them, and nothing of it is written
pub begun_is : (circuit : ℕ) (i : Planned) (c : TheCall) (d : Direction) (ws : List TheCall) → written_of d ≡ total i d.accepted
    → begun (frags circuit i c) (each_frags circuit i ws) ≡ outgoing_of circuit i (record d { accepted = d.accepted ++ c ∷ []; waiting = ws })
begun_is circuit i c d ws h =
    let longer : total i (d.accepted ++ c ∷ []) ≡ total i d.accepted + fragments i c = total_push i d.accepted c in
    let some : 1 ≤ fragments i c = some_fragments i c in
    let busy : nat_lt (written_of d) (total i (d.accepted ++ c ∷ [])) ≡ true = lt_true (written_of d) (total i (d.accepted ++ c ∷ [])) (omega arith) in
    same_outgoing (frags circuit i c) (drop (written_of d) (stream circuit i (d.accepted ++ c ∷ [])))
    (length (frags circuit i c)) (if nat_lt (written_of d) (total i (d.accepted ++ c ∷ [])) then last_count i (d.accepted ++ c ∷ []) else 0)
    (each_frags circuit i ws) (each_frags circuit i ws)
    (sym (drop_push circuit i d.accepted c (written_of d) h))
    (length_frags circuit i c ∙ sym (last_push i d.accepted c)
    ∙ sym (then_is (nat_lt (written_of d) (total i (d.accepted ++ c ∷ []))) (last_count i (d.accepted ++ c ∷ [])) 0 busy))
    refl

behind_some : (fs : List Frag) (o : TheOutgoing) (more : List Frag) → 1 ≤ length fs
    → queued_behind fs o more ≡ record { unwritten = o.unwritten; count = o.count; waiting = o.waiting ++ more ∷ [] }
behind_some [] o more h = absurd (omega (arith, h))
behind_some (f ∷ fs) o more h = refl

queued_busy : (circuit : ℕ) (i : Planned) (c : TheCall) (d : Direction) → is_busy i d ≡ true
    → queued (outgoing_of circuit i d) (frags circuit i c) ≡ outgoing_of circuit i (record d { waiting = d.waiting ++ c ∷ [] })
queued_busy circuit i c d q =
    let long = length_unwritten circuit i d in
    let less = true_lt (written_of d) (total i d.accepted) q in
    behind_some (unwritten circuit i d) (outgoing_of circuit i d) (frags circuit i c) (omega (arith, long, less))
    ∙ ap (λ (ws : List (List Frag)). record (outgoing_of circuit i d) { waiting = ws })
    (sym (map_push (frags_on circuit i.plan i.interface) d.waiting c))

queued_idle : (circuit : ℕ) (i : Planned) (c : TheCall) (d : Direction) → IsCounted i d → is_busy i d ≡ false
    → queued (outgoing_of circuit i d) (frags circuit i c) ≡ outgoing_of circuit i (accepts c d)
queued_idle circuit i c d k q =
    let least = false_lt (written_of d) (total i d.accepted) q in
    let most = k.most in
    ap (λ (fs : List Frag). queued_behind fs (outgoing_of circuit i d) (frags circuit i c)) (idle_nothing circuit i d q)
    ∙ begun_is circuit i c d d.waiting (omega (arith, least, most))

-- a call is queued as the machine accepts it, or has it wait
pub queued_is : (circuit : ℕ) (i : Planned) (c : TheCall) (d : Direction) → IsCounted i d
    → queued (outgoing_of circuit i d) (frags circuit i c) ≡ outgoing_of circuit i (accepts_or_waits i c d)
queued_is circuit i c d k =
    either (λ (e : Direction). queued (outgoing_of circuit i d) (frags circuit i c) ≡ outgoing_of circuit i e) (is_busy i d)
    (record d { waiting = d.waiting ++ c ∷ [] }) (accepts c d)
    (queued_busy circuit i c d) (queued_idle circuit i c d k)

-- at once, where the end isn't busy
pub accepted_is : (circuit : ℕ) (i : Planned) (c : TheCall) (d : Direction) → IsCounted i d → is_busy i d ≡ false
    → queued (outgoing_of circuit i d) (frags circuit i c) ≡ outgoing_of circuit i (accepts c d)
accepted_is = queued_idle

-- ---- one fragment more

first_grows : (xs : List ℕ) → 1 ≤ length xs → slice_index (changed_at 0 (λ n. n + 1) xs) 0 ≡ slice_index xs 0 + 1
first_grows [] h = absurd (omega (arith, h))
first_grows (x ∷ xs) h = refl

pub written_grows : (d : Direction) → 1 ≤ length d.passed → written_of (passes 0 d) ≡ written_of d + 1
written_grows d h = first_grows d.passed h

pub rest_of_drop : {X : Type 0} (xs : List X) (n : ℕ) (x : X) (rest : List X) → drop n xs ≡ x ∷ rest → rest ≡ drop (n + 1) xs
rest_of_drop {X} xs n x rest q =
    let e : drop 1 (x ∷ rest) ≡ drop 1 (drop n xs) = ap (λ (ys : List X). drop 1 ys) (sym q) in
    e ∙ drop-drop 1 n xs

pub first_of_drop : {X : Type 0} (xs : List X) (n : ℕ) (x : X) (rest : List X) → drop n xs ≡ x ∷ rest → slice_get xs n ≡ Some x
first_of_drop [] zero x rest q = absurd (cc)
first_of_drop [] (suc n) x rest q = absurd (cc)
first_of_drop (y ∷ ys) zero x rest q = let e : y ≡ x = cc in ap Some e
first_of_drop (y ∷ ys) (suc n) x rest q = first_of_drop ys n x rest q

pub none_of_drop : {X : Type 0} (xs : List X) (n : ℕ) → drop n xs ≡ [] → slice_get xs n ≡ None
none_of_drop [] n q = refl
none_of_drop (y ∷ ys) zero q = absurd (cc)
none_of_drop (y ∷ ys) (suc n) q = none_of_drop ys n q

wrote_some : (rest : List Frag) (o : TheOutgoing) → 1 ≤ length rest → wrote rest o ≡ record { unwritten = rest; count = o.count; waiting = o.waiting }
wrote_some [] o h = absurd (omega (arith, h))
wrote_some (f ∷ rest) o h = refl

-- the last fragment of a call is written: the first reply that waits is next
next_is : (circuit : ℕ) (i : Planned) (e : Direction) (ws : List TheCall) → e.waiting ≡ ws → written_of e ≡ total i e.accepted
    → next_begun (each_frags circuit i ws) ≡ outgoing_of circuit i (accepts_waiting ws e)
next_is circuit i e [] w h =
    let idle : is_busy i e ≡ false = lt_false (written_of e) (total i e.accepted) (omega (arith, h)) in
    same_outgoing [] (unwritten circuit i e) 0 (if is_busy i e then last_count i e.accepted else 0) [] (each_frags circuit i e.waiting)
    (sym (idle_nothing circuit i e idle))
    (sym (else_is (is_busy i e) (last_count i e.accepted) 0 idle))
    (ap (each_frags circuit i) (sym w))
next_is circuit i e (c ∷ ws) w h = begun_is circuit i c e ws h

-- one fragment more is written, with these left of its call
pub wrote_is : (circuit : ℕ) (i : Planned) (d : Direction) (f : Frag) (rest : List Frag) → 1 ≤ length d.passed → unwritten circuit i d ≡ f ∷ rest
    → wrote rest (outgoing_of circuit i d) ≡ outgoing_of circuit i (goes_on i (passes 0 d))
wrote_is circuit i d f rest a q =
    let e = passes 0 d in
    let o = outgoing_of circuit i d in
    let grows : written_of (passes 0 d) ≡ written_of d + 1 = written_grows d a in
    let busy : is_busy i d ≡ true = busy_by circuit i d f rest q in
    let below = true_lt (written_of d) (total i d.accepted) busy in
    let rest_is : rest ≡ unwritten circuit i (passes 0 d)
    = rest_of_drop (stream circuit i d.accepted) (written_of d) f rest q ∙ ap (λ (n : ℕ). drop n (stream circuit i d.accepted)) (sym grows) in
    let long = length_unwritten circuit i (passes 0 d) in
    let same_length : length rest ≡ length (unwritten circuit i (passes 0 d)) = ap length rest_is in
    either (λ (t : Direction). wrote rest (outgoing_of circuit i d) ≡ outgoing_of circuit i t) (is_busy i (passes 0 d))
    (passes 0 d) (accepts_waiting d.waiting (passes 0 d))
    (λ h.
    let less = true_lt (written_of (passes 0 d)) (total i d.accepted) h in
    wrote_some rest (outgoing_of circuit i d) (omega (arith, long, same_length, less))
    ∙ same_outgoing rest (unwritten circuit i (passes 0 d)) (if is_busy i d then last_count i d.accepted else 0)
    (if is_busy i (passes 0 d) then last_count i d.accepted else 0) (each_frags circuit i d.waiting) (each_frags circuit i d.waiting)
    rest_is
    (then_is (is_busy i d) (last_count i d.accepted) 0 busy ∙ sym (then_is (is_busy i (passes 0 d)) (last_count i d.accepted) 0 h))
    refl)
    (λ h.
    let least = false_lt (written_of (passes 0 d)) (total i d.accepted) h in
    ap (λ (fs : List Frag). wrote fs (outgoing_of circuit i d)) (rest_is ∙ nothing_left circuit i (passes 0 d) least)
    ∙ next_is circuit i (passes 0 d) d.waiting refl (omega (arith, least, below, grows)))

-- which fragment it was, of how many
pub progress_is : (circuit : ℕ) (i : Planned) (d : Direction) (f : Frag) (rest : List Frag) (number count : ℕ) → IsCounted i d
    → unwritten circuit i d ≡ f ∷ rest → count ≡ (outgoing_of circuit i d).count → number + length rest ≡ count
    → progress i d ≡ written number count
progress_is circuit i d f rest number count k q n e =
    let busy : is_busy i d ≡ true = busy_by circuit i d f rest q in
    let below = true_lt (written_of d) (total i d.accepted) busy in
    let before = k.before in
    let long = length_unwritten circuit i d in
    let more : length (unwritten circuit i d) ≡ suc (length rest) = ap length q in
    let last : count ≡ last_count i d.accepted = n ∙ then_is (is_busy i d) (last_count i d.accepted) 0 busy in
    let at : written_of d + 1 + last_count i d.accepted - total i d.accepted ≡ number = omega (arith, below, before, long, more, last, e) in
    ap (λ (m : ℕ). written m (last_count i d.accepted)) at ∙ ap (written number) (sym last)
