-- Ends that take the next fragment of the other end's calls.
use Rattle.std.proofs.Common.{◌≡◌, refl, sym, ◌∙◌, ap, subst, ℕ, zero, suc, ◌+◌, ◌-◌, ◌≤◌, ◌<◌, List, [], ◌∷◌, ◌++◌, length, take, drop, slice_get, slice_index, slice_set, Option, Some, None, arith}
use Rattle.std.specs.Prelude.{Result, Ok, Err}
use Rattle.std.specs.Option.{option_map}
use Rattle.std.proofs.lemmas.List.{length-drop, length-take, take-append-drop, drop-append-le, drop_all, drop_at, drop_more, take_more, length_push, length-set}
use Rattle.std.proofs.lemmas.Option.{slice_get_within, slice_get_past, get_or_from_slice_get}
use Rattle.fl_base.specs.declared.fragment.Frag.{Frag}
use Rattle.fl_base.specs.Control.{bare}
use Rattle.fl_base.specs.Given.{given}
use Rattle.fl_value_data.specs.Value.{TheCall, call_of}
use Rattle.fl_compile.specs.Programs.{program_of}
use Rattle.fl_endpoint.specs.declared.fault.EndFault.{EndFault}
use Rattle.fl_endpoint.specs.declared.fault.EndFault.TheVariants.{Wire, Memory}
use Rattle.fl_endpoint.specs.declared.answer.ReceiveAnswer.{ReceiveAnswer}
use Rattle.fl_endpoint.specs.declared.answer.ReceiveAnswer.TheVariants.{Handle, Part, Quiet, Empty, HeldBack}
use Rattle.fl_endpoint.specs.View.{TheEnd, TheOutgoing, frags_from, queued, queued_if, with_handled, rule_in}
use Rattle.fl_endpoint.specs.Events.{TakesIn}
use Rattle.fl_endpoint.specs.Accounts.{Sound}
use Rattle.fl_endpoint.specs.Laws.{TakesInOrder, TakesNext}
use Rattle.fl_model.specs.Given.{changed_at}
use Rattle.fl_model.specs.Calls.{Planned, fragments, total, whole_in, stream}
use Rattle.fl_model.specs.Ends.{Direction, taken_of, last_station, takes_one, handled, comes_to, whole, a_part, End, replies, rule_at, accepts_or_waits}
use Rattle.fl_model.specs.SoundLabels.{IsCounted}
use Rattle.fl_model.specs.SoundCalls.{AllFit}
use Rattle.fl_world_refines.specs.Ends.{planned_of, outgoing_of, parts_of, circuit_of, EndShows}
use Rattle.fl_world_refines.specs.EndLaws.{TakeAgrees}
use Rattle.fl_world_refines.proofs.Streams.{length_frags, length_stream, stream_append, total_push, Splits, splits, whole_append, whole_short, whole_one, all_fit, fit_behind}
use Rattle.fl_world_refines.proofs.Sending.{queued_is}
use Rattle.fl_world_refines.proofs.EndCalling.{stays, same_frags}

-- ---- lists

pub drop_at_get : {X : Type 0} (xs : List X) (n : ℕ) (x : X) → slice_get xs n ≡ Some x → drop n xs ≡ x ∷ drop (n + 1) xs
drop_at_get {X} xs n x q =
    drop_more xs n x (slice_get_within xs n x q) ∙ ap (λ (z : X). z ∷ drop (n + 1) xs) (get_or_from_slice_get xs n x x q)

pub take_at_get : {X : Type 0} (xs : List X) (n : ℕ) (x : X) → slice_get xs n ≡ Some x → take (n + 1) xs ≡ take n xs ++ x ∷ []
take_at_get {X} xs n x q =
    take_more xs n x (slice_get_within xs n x q) ∙ ap (λ (z : X). take n xs ++ z ∷ []) (get_or_from_slice_get xs n x x q)

length_taken : (xs : List Frag) (n : ℕ) (x : Frag) → slice_get xs n ≡ Some x → length (take n xs) ≡ n
length_taken xs n x q =
    let within = slice_get_within xs n x q in
    let long = length-take n xs in
    omega (arith, within, long)

-- a stretch of a list, what comes next, and what is behind it
around : (xs : List Frag) (m n : ℕ) (x : Frag) → m ≤ n → slice_get xs n ≡ Some x → drop m (take n xs) ++ x ∷ drop (n + 1) xs ≡ drop m xs
around xs m n x h q =
    let long = length_taken xs n x q in
    ap (λ (ys : List Frag). drop m (take n xs) ++ ys) (sym (drop_at_get xs n x q))
    ∙ sym (drop-append-le m (take n xs) (drop n xs) (omega (arith, long, h)))
    ∙ ap (drop m) (take-append-drop n xs)

-- a stretch longer by one
stretch_more : (xs : List Frag) (m n : ℕ) (x : Frag) → m ≤ n → slice_get xs n ≡ Some x → drop m (take (n + 1) xs) ≡ drop m (take n xs) ++ x ∷ []
stretch_more xs m n x h q =
    let long = length_taken xs n x q in
    ap (drop m) (take_at_get xs n x q) ∙ drop-append-le m (take n xs) (x ∷ []) (omega (arith, long, h))

length_stretch : (xs : List Frag) (m n : ℕ) (x : Frag) → slice_get xs n ≡ Some x → length (drop m (take n xs)) ≡ n - m
length_stretch xs m n x q =
    let long = length_taken xs n x q in
    let rest = length-drop m (take n xs) in
    omega (arith, long, rest)

get_push : (cs : List TheCall) (c : TheCall) → slice_get (cs ++ c ∷ []) (length cs) ≡ Some c
get_push [] c = refl
get_push (d ∷ cs) c = get_push cs c

-- ---- the number that is taken

index_set : (xs : List ℕ) (n x y : ℕ) → slice_get xs n ≡ Some x → (slice_index xs n ≡ x) × (slice_index (slice_set xs n y) n ≡ y)
index_set [] n x y q = absurd (cc)
index_set (z ∷ xs) zero x y q = ((let e : z ≡ x = cc in e), refl)
index_set (z ∷ xs) (suc n) x y q = index_set xs n x y q

there : (xs : List ℕ) (n : ℕ) → n < length xs → (x : ℕ) × (slice_get xs n ≡ Some x)
there [] n h = absurd (omega (arith, h))
there (x ∷ xs) zero h = (x, refl)
there (x ∷ xs) (suc n) h = there xs n (omega (arith, h))

more_at : (xs : List ℕ) (k : ℕ) → k < length xs
    → (length (changed_at k (λ n. n + 1) xs) ≡ length xs) × (slice_index (changed_at k (λ n. n + 1) xs) k ≡ slice_index xs k + 1)
more_at xs k h =
    let y = there xs k h in
    let is : changed_at k (λ n. n + 1) xs ≡ slice_set xs k (y.0 + 1)
    = ap (λ (o : Option ℕ). given o xs λ x. slice_set xs k (x + 1)) y.1 in
    let at = index_set xs k y.0 (y.0 + 1) y.1 in (
      ap length is ∙ length-set xs k (y.0 + 1),
      ap (λ (ys : List ℕ). slice_index ys k) is ∙ at.1 ∙ ap (λ (n : ℕ). n + 1) (sym at.0),
    )

pub taken_grows : (d : Direction) → 1 ≤ length d.passed → taken_of (takes_one d) ≡ taken_of d + 1
taken_grows d h =
    let k = more_at d.passed (last_station d) (omega (arith, h)) in
    ap (λ (n : ℕ). slice_index (changed_at (last_station d) (λ m. m + 1) d.passed) (n - 1)) k.0 ∙ k.1

-- ---- what is left

-- the calls that aren't whole, and what is still to be taken
record Ahead (s : TheEnd) (peer : Direction) (f : Frag) : Type 0 where
  pub split : Splits (planned_of s.program) peer.accepted (taken_of peer)
  pub more : List Frag
  pub parts_are : s.parts ++ f ∷ more ≡ stream 0 (planned_of s.program) split.left
  pub many : length s.parts ≡ taken_of peer - total (planned_of s.program) (handled (planned_of s.program) peer)

rest_is : (i : Planned) (cs hs left : List TheCall) → cs ≡ hs ++ left → drop (total i hs) (stream 0 i cs) ≡ stream 0 i left
rest_is i cs hs left e =
    ap (λ (ds : List TheCall). drop (total i hs) (stream 0 i ds)) e
    ∙ ap (drop (total i hs)) (stream_append 0 i hs left)
    ∙ drop_at (stream 0 i hs) (stream 0 i left) (total i hs) (length_stream 0 i hs)

ahead : (x : End) (peer : Direction) (f : Frag) (s : TheEnd) → EndShows (planned_of s.program) x peer s
    → slice_get (stream 0 (planned_of s.program) peer.accepted) (taken_of peer) ≡ Some f → Ahead s peer f
ahead x peer f s h q =
    let i : Planned = planned_of s.program in
    let n : ℕ = taken_of peer in
    let xs = stream 0 (planned_of s.program) peer.accepted in
    let m : ℕ = total (planned_of s.program) (handled (planned_of s.program) peer) in
    let sp : Splits (planned_of s.program) peer.accepted (taken_of peer) = splits (planned_of s.program) peer.accepted (taken_of peer) in
    record {
      split = sp;
      more = drop (taken_of peer + 1) (stream 0 (planned_of s.program) peer.accepted);
      parts_are = ap (λ (ps : List Frag). ps ++ f ∷ drop (n + 1) xs) h.parts
          ∙ around xs m n f sp.most q
          ∙ rest_is i peer.accepted (handled i peer) sp.left sp.calls_are;
      many = ap length h.parts ∙ length_stretch xs m n f q;
    }

first_left : (i : Planned) (left : List TheCall) (parts more : List Frag) (f : Frag) → parts ++ f ∷ more ≡ stream 0 i left
    → (c : TheCall) × (rest : List TheCall) × (left ≡ c ∷ rest)
first_left i [] [] more f e = absurd (cc)
first_left i [] (p ∷ parts) more f e = absurd (cc)
first_left i (c ∷ rest) parts more f e = (c, rest, refl)

-- ---- what the fragment comes to

handled_next : (i : Planned) (peer : Direction) (hs now : List TheCall) → 1 ≤ length peer.passed → handled i peer ≡ hs
    → whole_in i peer.accepted (taken_of peer + 1) ≡ now → comes_to i peer ≡ (given (slice_get now (length hs)) a_part λ c. whole c)
handled_next i peer hs now n p q =
    ap (λ (m : ℕ). given (slice_get (whole_in i peer.accepted m) (length (handled i peer))) a_part λ c. whole c) (taken_grows peer n)
    ∙ ap (λ (cs : List TheCall). given (slice_get cs (length (handled i peer))) a_part λ c. whole c) q
    ∙ ap (λ (cs : List TheCall). given (slice_get now (length cs)) a_part λ c. whole c) p

parts_next : (i : Planned) (peer : Direction) (now : List TheCall) → 1 ≤ length peer.passed
    → whole_in i peer.accepted (taken_of peer + 1) ≡ now
    → parts_of i (takes_one peer) ≡ drop (total i now) (take (taken_of peer + 1) (stream 0 i peer.accepted))
parts_next i peer now n q =
    ap (λ (m : ℕ). drop (total i (whole_in i peer.accepted m)) (take m (stream 0 i peer.accepted))) (taken_grows peer n)
    ∙ ap (λ (cs : List TheCall). drop (total i cs) (take (taken_of peer + 1) (stream 0 i peer.accepted))) q

-- no call more is whole
still : (i : Planned) (peer : Direction) (sp : Splits i peer.accepted (taken_of peer)) (c : TheCall) (rest : List TheCall)
    → sp.left ≡ c ∷ rest → taken_of peer + 1 - total i (handled i peer) < fragments i c
    → whole_in i peer.accepted (taken_of peer + 1) ≡ handled i peer
still i peer sp c rest e h =
    let most : total i (handled i peer) ≤ taken_of peer = sp.most in
    ap (λ (cs : List TheCall). whole_in i cs (taken_of peer + 1)) (sp.calls_are ∙ ap (λ (ds : List TheCall). handled i peer ++ ds) e)
    ∙ whole_append i (handled i peer) (c ∷ rest) (taken_of peer + 1) (omega (arith, most))
    ∙ ap (λ (ds : List TheCall). handled i peer ++ ds) (whole_short i c rest (taken_of peer + 1 - total i (handled i peer)) h)
    ∙ append_nothing (handled i peer)
  where
    append_nothing : (cs : List TheCall) → cs ++ [] ≡ cs
    append_nothing [] = refl
    append_nothing (d ∷ cs) = ap (λ (ds : List TheCall). d ∷ ds) (append_nothing cs)

-- the next call is whole
one_more : (i : Planned) (peer : Direction) (sp : Splits i peer.accepted (taken_of peer)) (c : TheCall) (rest : List TheCall)
    → sp.left ≡ c ∷ rest → taken_of peer + 1 - total i (handled i peer) ≡ fragments i c
    → whole_in i peer.accepted (taken_of peer + 1) ≡ handled i peer ++ c ∷ []
one_more i peer sp c rest e h =
    let most : total i (handled i peer) ≤ taken_of peer = sp.most in
    ap (λ (cs : List TheCall). whole_in i cs (taken_of peer + 1)) (sp.calls_are ∙ ap (λ (ds : List TheCall). handled i peer ++ ds) e)
    ∙ whole_append i (handled i peer) (c ∷ rest) (taken_of peer + 1) (omega (arith, most))
    ∙ ap (λ (ds : List TheCall). handled i peer ++ ds) (whole_one i c rest (taken_of peer + 1 - total i (handled i peer)) h)

-- ---- replies by rule

same_rule : (o : Option (Option ℕ)) → rule_in o ≡ given o None λ rule. rule
same_rule None = refl
same_rule (Some rule) = refl

abbrev answer_to : TheCall → ℕ → TheCall
answer_to c msg = record { msg = msg; args = c.args }

-- the end once it has handled a call, where this rule stands for its message
abbrev handled_by : Option ℕ → TheEnd → TheCall → TheEnd
handled_by rule s c = record s { parts = []; outgoing = queued_if s.outgoing (option_map (frags_from s) (option_map (answer_to c) rule)) }

abbrev replied_by : Option ℕ → Planned → TheCall → End → End
replied_by rule i c x = given rule x λ msg. record x { out = accepts_or_waits i (answer_to c msg) x.out }

replied : (rule : Option ℕ) (i : Planned) (c : TheCall) (x : End) (peer next : Direction) (s : TheEnd) → EndShows i x peer s → IsCounted i x.out
    → [] ≡ parts_of i next → EndShows i (replied_by rule i c x) next (handled_by rule s c)
replied None i c x peer next s h k e =
    record { program = h.program; circuit = h.circuit; rules = h.rules; outgoing = h.outgoing; parts = e; failed = h.failed }
replied (Some msg) i c x peer next s h k e =
    let sent : queued s.outgoing (frags_from s (answer_to c msg)) ≡ outgoing_of (circuit_of x) i (accepts_or_waits i (answer_to c msg) x.out)
    = ap (λ (o : TheOutgoing). queued o (frags_from s (answer_to c msg))) h.outgoing
    ∙ ap (queued (outgoing_of (circuit_of x) i x.out)) (same_frags i x peer s (answer_to c msg) h)
    ∙ queued_is (circuit_of x) i (answer_to c msg) x.out k in
    record { program = h.program; circuit = h.circuit; rules = h.rules; outgoing = sent; parts = e; failed = h.failed }

rule_is : (i : Planned) (c : TheCall) (x : End) (peer : Direction) (s : TheEnd) → EndShows i x peer s
    → with_handled s c ≡ handled_by (rule_at x.rules c.msg) s c
rule_is i c x peer s h =
    ap (λ (rule : Option ℕ). handled_by rule s c)
    (ap (λ (rules : List (Option ℕ)). rule_in (slice_get rules c.msg)) h.rules ∙ same_rule (slice_get x.rules c.msg))

-- ---- an end takes a fragment

own_part : TakesInOrder → (x : End) (peer : Direction) (f : Frag) (s t : TheEnd) → EndShows (planned_of s.program) x peer s → Sound s
    → AllFit (planned_of s.program) peer.accepted → 1 ≤ length peer.passed → bare f ≡ f
    → slice_get (stream 0 (planned_of s.program) peer.accepted) (taken_of peer) ≡ Some f
    → TakesIn s f (Ok Part) t → TakeAgrees (planned_of s.program) x peer (Ok Part) t
own_part law x peer f s t h sound fit n plain q a =
    let i : Planned = planned_of s.program in
    let g : Ahead s peer f = ahead x peer f s h q in
    let sp : Splits (planned_of s.program) peer.accepted (taken_of peer) = g.split in
    let fits = fit_behind i (handled i peer) sp.left (subst (AllFit i) sp.calls_are fit) in
    let next : TakesNext s f sp.left g.more = law s f g.more sp.left sound plain (all_fit i sp.left fits) g.parts_are in
    let first = first_left i sp.left s.parts g.more f g.parts_are in
    let less = next.part_is first.0 first.1 a.0 first.2 in
    let long : length (s.parts ++ f ∷ []) ≡ length s.parts + 1 = length_push s.parts f in
    let many = g.many in
    let most : total i (handled i peer) ≤ taken_of peer = sp.most in
    let now : whole_in i peer.accepted (taken_of peer + 1) ≡ handled i peer
    = still i peer sp first.0 first.1 first.2 (omega (arith, less, long, many, most)) in
    let none : slice_get (handled i peer) (length (handled i peer)) ≡ None = slice_get_past (handled i peer) (length (handled i peer)) (omega arith) in (
      handled_next i peer (handled i peer) (handled i peer) n refl now
          ∙ ap (λ (o : Option TheCall). given o a_part λ c. whole c) none,
      subst (EndShows i x (takes_one peer)) (sym a.1) (record {
        program = h.program;
        circuit = h.circuit;
        rules = h.rules;
        outgoing = h.outgoing;
        parts = ap (λ (ps : List Frag). ps ++ f ∷ []) h.parts
            ∙ sym (stretch_more (stream 0 i peer.accepted) (total i (handled i peer)) (taken_of peer) f most q)
            ∙ sym (parts_next i peer (handled i peer) n now);
        failed = h.failed;
      }),
    )

own_whole : TakesInOrder → (x : End) (peer : Direction) (f : Frag) (c : TheCall) (s t : TheEnd) → EndShows (planned_of s.program) x peer s → Sound s
    → IsCounted (planned_of s.program) x.out → AllFit (planned_of s.program) peer.accepted → 1 ≤ length peer.passed → bare f ≡ f
    → slice_get (stream 0 (planned_of s.program) peer.accepted) (taken_of peer) ≡ Some f
    → Rattle.fl_endpoint.specs.Events.AreCall s (s.parts ++ f ∷ []) c → t ≡ with_handled s c
    → (comes_to (planned_of s.program) peer ≡ whole c)
    × EndShows (planned_of s.program) (replies (planned_of s.program) (whole c) x) (takes_one peer) t
own_whole law x peer f c s t h sound k fit n plain q are is =
    let i : Planned = planned_of s.program in
    let g : Ahead s peer f = ahead x peer f s h q in
    let sp : Splits (planned_of s.program) peer.accepted (taken_of peer) = g.split in
    let fits = fit_behind i (handled i peer) sp.left (subst (AllFit i) sp.calls_are fit) in
    let next : TakesNext s f sp.left g.more = law s f g.more sp.left sound plain (all_fit i sp.left fits) g.parts_are in
    let first = next.handled_is c are in
    let mean : length (s.parts ++ f ∷ []) ≡ fragments i c = ap length are.mean ∙ length_frags 0 i c in
    let long : length (s.parts ++ f ∷ []) ≡ length s.parts + 1 = length_push s.parts f in
    let many = g.many in
    let most : total i (handled i peer) ≤ taken_of peer = sp.most in
    let now : whole_in i peer.accepted (taken_of peer + 1) ≡ handled i peer ++ c ∷ []
    = one_more i peer sp c first.0 first.1 (omega (arith, mean, long, many, most)) in
    let sum : total i (handled i peer ++ c ∷ []) ≡ total i (handled i peer) + fragments i c = total_push i (handled i peer) c in
    let short = length-take (taken_of peer + 1) (stream 0 i peer.accepted) in
    let none : drop (total i (handled i peer ++ c ∷ [])) (take (taken_of peer + 1) (stream 0 i peer.accepted)) ≡ []
    = drop_all (total i (handled i peer ++ c ∷ [])) (take (taken_of peer + 1) (stream 0 i peer.accepted))
    (omega (arith, sum, short, mean, long, many, most)) in (
      handled_next i peer (handled i peer) (handled i peer ++ c ∷ []) n refl now
          ∙ ap (λ (o : Option TheCall). given o a_part λ d. whole d) (get_push (handled i peer) c),
      subst (EndShows i (replies i (whole c) x) (takes_one peer)) (sym (is ∙ rule_is i c x peer s h))
          (replied (rule_at x.rules c.msg) i c x peer (takes_one peer) s h k
          (sym (parts_next i peer (handled i peer ++ c ∷ []) n now ∙ none))),
    )

own_fault : {P : Type 0} → TakesInOrder → (x : End) (peer : Direction) (f : Frag) (s : TheEnd) (fault : Rattle.fl_wire.specs.declared.fault.WireFault.WireFault)
    → EndShows (planned_of s.program) x peer s → Sound s
    → AllFit (planned_of s.program) peer.accepted → bare f ≡ f
    → slice_get (stream 0 (planned_of s.program) peer.accepted) (taken_of peer) ≡ Some f
    → Rattle.fl_machine.specs.Receiving.IsRefused (program_of s.program).plan (program_of s.program).interface s.parts f fault → P
own_fault law x peer f s fault h sound fit plain q refused =
    let i : Planned = planned_of s.program in
    let g : Ahead s peer f = ahead x peer f s h q in
    let sp : Splits (planned_of s.program) peer.accepted (taken_of peer) = g.split in
    let fits = fit_behind i (handled i peer) sp.left (subst (AllFit i) sp.calls_are fit) in
    let next : TakesNext s f sp.left g.more = law s f g.more sp.left sound plain (all_fit i sp.left fits) g.parts_are in
    absurd (next.no_fault fault refused)

own_takes : TakesInOrder → (x : End) (peer : Direction) (f : Frag) (s t : TheEnd) (answer : Result ReceiveAnswer EndFault)
    → EndShows (planned_of s.program) x peer s → Sound s
    → IsCounted (planned_of s.program) x.out → AllFit (planned_of s.program) peer.accepted → 1 ≤ length peer.passed → bare f ≡ f
    → slice_get (stream 0 (planned_of s.program) peer.accepted) (taken_of peer) ≡ Some f
    → TakesIn s f answer t → TakeAgrees (planned_of s.program) x peer answer t
own_takes law x peer f s t (Ok Part) h sound k fit n plain q a = own_part law x peer f s t h sound fit n plain q a
own_takes law x peer f s t (Ok (Handle call)) h sound k fit n plain q a =
    own_whole law x peer f (call_of call) s t h sound k fit n plain q a.0 a.1
own_takes law x peer f s t (Ok Quiet) h sound k fit n plain q a = absurd a
own_takes law x peer f s t (Ok Empty) h sound k fit n plain q a = absurd a
own_takes law x peer f s t (Ok HeldBack) h sound k fit n plain q a = absurd a
own_takes law x peer f s t (Err (Wire fault)) h sound k fit n plain q a = own_fault law x peer f s fault h sound fit plain q a.0
own_takes law x peer f s t (Err Memory) h sound k fit n plain q a = stays (planned_of s.program) x peer s t h a.1
own_takes law x peer f s t (Err fault) h sound k fit n plain q a = absurd a

pub take_agrees : TakesInOrder → (i : Planned) (x : End) (peer : Direction) (f : Frag) (s t : TheEnd) (answer : Result ReceiveAnswer EndFault)
    → EndShows i x peer s → Sound s → IsCounted i x.out → AllFit i peer.accepted → 1 ≤ length peer.passed
    → bare f ≡ f → slice_get (stream 0 i peer.accepted) (taken_of peer) ≡ Some f
    → TakesIn s f answer t → TakeAgrees i x peer answer t
take_agrees law i x peer f s t answer h sound k fit n plain q a =
    subst (λ (j : Planned). EndShows j x peer s → IsCounted j x.out → AllFit j peer.accepted
    → slice_get (stream 0 j peer.accepted) (taken_of peer) ≡ Some f → TakeAgrees j x peer answer t) h.program
    (λ h' k' fit' q'. own_takes law x peer f s t answer h' sound k' fit' n plain q' a) h k fit q
