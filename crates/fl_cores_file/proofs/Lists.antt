-- Lists seen by a function of their elements.
use Rattle.std.proofs.Common.{◌≡◌, ◌<◌, ◌≤◌, ◌∙◌, refl, sym, ap, subst, ℕ, zero, suc, ◌+◌, ◌||◌, ◌++◌, append_assoc, arith, Bool, List, [], ◌∷◌}
use Rattle.std.proofs.Common.{true, false, not, ◌&&◌, if◌then◌else◌, length, map, take, drop, get_or, slice_get, slice_set, unwrap_or, Option, Some, None}
use Rattle.std.specs.List.{list_any, flat_map, range_with_len}
use Rattle.std.proofs.lemmas.Bool.Decides.{nat_tests}
use Rattle.std.proofs.lemmas.List.{append-nil}
use Rattle.std.proofs.lemmas.List.Concat.{flat_map-append, flat_map-cons}
use Rattle.std.proofs.lemmas.List.Folds.{flat_map-map}
use Rattle.std.proofs.lemmas.List.FromFn.{map-range_with_len_more}
use Rattle.std.proofs.lemmas.Option.{slice_get_within, slice_get-get_or}
use Rattle.fl_base.specs.declared.identity.EndId.{EndId}
use Rattle.fl_base.specs.declared.identity.Side.{Side}
use Rattle.fl_base.specs.Ends.{other}
use Rattle.fl_base.specs.Given.{given}
use Rattle.fl_interface.specs.Interface.{TheMessage}
use Rattle.fl_interface.specs.SameTypes.{same_arguments}
use Rattle.fl_value_data.specs.Tape.{types_of}
use Rattle.fl_value_data.specs.Value.{TheCall}
use Rattle.fl_model.specs.Calls.{Planned}
use Rattle.fl_model.specs.Taking.{arguments_of, has_message}
use Rattle.fl_model.specs.Given.{changed_at}
use Rattle.fl_cores_file.specs.CoresFile.{Reading, which_opened, numbers_of, numbered, end_by, job_by, with_numbers, file_by, file_left, file_of}
use Rattle.fl_cores_file.specs.Draft.{Bound, Draft, use_at, is_for_calls, is_for_rules, with_use, call_fault, rule_fault, fault_at, makes_calls, change_use, with_job, makes_call}
use Rattle.fl_cores_file.specs.Jobs.{Job, opens, replies, calls}
use Rattle.std.specs.Prelude.{Result}
use Rattle.fl_cores_file.specs.declared.stop.CoresLineFault.{CoresLineFault}
use Rattle.fl_cores_file.specs.Verdicts.{LineVerdict, stops, goes_on, Comes}

pub any_map : {X Y : Type 0} (p : Y → Bool) (f : X → Y) (xs : List X) → list_any p (map f xs) ≡ list_any (λ x. p (f x)) xs
any_map p f [] = refl
any_map p f (x ∷ xs) = ap (λ b. p (f x) || b) (any_map p f xs)

-- ---- an element changed

later : {Y : Type 0} (f : Y → Y) (y : Y) (ys : List Y) (n : ℕ) (o : Option Y)
    → given o (y ∷ ys) (λ x. slice_set (y ∷ ys) (suc n) (f x)) ≡ y ∷ given o ys (λ x. slice_set ys n (f x))
later f y ys n None = refl
later f y ys n (Some x) = refl

map_put : {X Y : Type 0} (v : X → Y) (f : Y → Y) (xs : List X) (n : ℕ) (x y : X) → slice_get xs n ≡ Some x → v y ≡ f (v x)
    → map v (slice_set xs n y) ≡ changed_at n f (map v xs)
map_put v f [] n x y e h = absurd (cc)
map_put v f (z ∷ xs) zero x y e h = let same : z ≡ x = cc in ap (λ k. k ∷ map v xs) (h ∙ ap (λ k. f (v k)) (sym same))
map_put v f (z ∷ xs) (suc n) x y e h = ap (λ ys. v z ∷ ys) (map_put v f xs n x y e h) ∙ sym (later f (v z) (map v xs) n (slice_get (map v xs) n))

pub map_put_or : {X Y : Type 0} (v : X → Y) (f : Y → Y) (xs : List X) (n : ℕ) (x y : X) → n < length xs → x ≡ get_or xs n x → v y ≡ f (v x)
    → map v (slice_set xs n y) ≡ changed_at n f (map v xs)
map_put_or v f xs n x y h e g = map_put v f xs n x y (slice_get-get_or xs n x h ∙ ap Some (sym e)) g

pub map_behind : {X Y : Type 0} (v : X → Y) (f : Y → Y) (xs : List X) (n : ℕ) → length xs ≤ n → map v xs ≡ changed_at n f (map v xs)
map_behind v f [] n h = refl
map_behind v f (z ∷ xs) zero h = absurd (omega (arith, h))
map_behind v f (z ∷ xs) (suc n) h = ap (λ ys. v z ∷ ys) (map_behind v f xs n (omega (arith, h))) ∙ sym (later f (v z) (map v xs) n (slice_get (map v xs) n))

-- ---- an element found

pub found_at : {X Y : Type 0} (v : X → Y) (xs : List X) (n : ℕ) (x : X) → slice_get xs n ≡ Some x → slice_get (map v xs) n ≡ Some (v x)
found_at v [] n x e = absurd (cc)
found_at v (z ∷ xs) zero x e = let same : z ≡ x = cc in ap (λ k. Some (v k)) same
found_at v (z ∷ xs) (suc n) x e = found_at v xs n x e

pub fault_found : (end : EndId) (finds : Bound → Planned → Option ℕ) (d : Draft) (b : Bound) (i : Planned) → slice_get d.bindings end.binding ≡ Some b
    → slice_get d.interfaces b.interface ≡ Some i → finds b i ≡ fault_at end finds d
fault_found end finds d b i p q =
    sym (ap (λ (o : Option Bound). given o (Some 92) λ b. given (slice_get d.interfaces b.interface) (Some 92) λ i. finds b i) p
    ∙ ap (λ (o : Option Planned). given o (Some 92) λ i. finds b i) q)

-- ---- no fault of a call

pub call_made : (e : EndId) (c : TheCall) (d left : Draft) → None ≡ fault_at e (call_fault e.side c) d → left ≡ with_job (calls e c) (change_use e makes_calls d)
    → makes_call e c d ≡ goes_on left
call_made e c d left none is =
    ap (λ (o : Option ℕ). given o (goes_on (with_job (calls e c) (change_use e makes_calls d))) stops) (sym none) ∙ ap goes_on (sym is)

pub call_joins : {T : Type 0} (e : EndId) (c : TheCall) (d same : Draft) (result : Result T CoresLineFault) (left : Draft) → None ≡ fault_at e (call_fault e.side c) d → same ≡ d
    → Comes result left (goes_on (with_job (calls e c) (change_use e makes_calls same))) → Comes result left (makes_call e c d)
call_joins e c d same result left none is h =
    subst (λ (v : LineVerdict Draft). Comes result left v)
    (sym (call_made e c d (with_job (calls e c) (change_use e makes_calls same)) none (ap (λ (x : Draft). with_job (calls e c) (change_use e makes_calls x)) is))) h

pub call_put : (e : EndId) (c : TheCall) (d : Draft) (bindings : List Bound) (jobs : List Job) → bindings ≡ changed_at e.binding (with_use e.side makes_calls) d.bindings
    → jobs ≡ d.jobs ++ calls e c ∷ [] → record d { settled = true; bindings = bindings; jobs = jobs } ≡ with_job (calls e c) (change_use e makes_calls d)
call_put e c d bindings jobs b j =
    ap (λ (bs : List Bound). record d { settled = true; bindings = bs; jobs = jobs }) b
    ∙ ap (λ (js : List Job). record d { settled = true; bindings = changed_at e.binding (with_use e.side makes_calls) d.bindings; jobs = js }) j

-- ---- no fault of a reply rule

past_tests : {A : Type 0} (a b c d e : Bool) (x y z w : A) → a ≡ true → b ≡ true → c ≡ true → d ≡ false → e ≡ false
    → w ≡ (if not (a && b) then x else if not c then y else if d || e then z else w)
past_tests true true true false false x y z w ha hb hc hd he = refl
past_tests false b c d e x y z w ha hb hc hd he = absurd (cc)
past_tests true false c d e x y z w ha hb hc hd he = absurd (cc)
past_tests true true false d e x y z w ha hb hc hd he = absurd (cc)
past_tests true true true true e x y z w ha hb hc hd he = absurd (cc)
past_tests true true true false true x y z w ha hb hc hd he = absurd (cc)

has : (i : Planned) (msg : ℕ) (m : TheMessage) → slice_get i.interface.messages msg ≡ Some m → has_message msg i ≡ true
has i msg m e = let h : msg < length i.interface.messages = slice_get_within i.interface.messages msg m e in grind (arith, nat_tests)

pub no_fault : (side : Side) (msg answer : ℕ) (b : Bound) (i : Planned) (m n : TheMessage) → slice_get i.interface.messages msg ≡ Some m
    → slice_get i.interface.messages answer ≡ Some n → same_arguments m.args n.args ≡ true → is_for_calls (use_at side b) ≡ false
    → is_for_rules (use_at (other side) b) ≡ false → None ≡ rule_fault side msg answer b i
no_fault side msg answer b i m n p q same no_calls no_rules =
    past_tests (has_message msg i) (has_message answer i) (same_arguments (arguments_of msg i) (arguments_of answer i)) (is_for_calls (use_at side b))
    (is_for_rules (use_at (other side) b)) (Some 41) (Some 42) (Some 44) None (has i msg m p) (has i answer n q)
    (ap (λ (o : Option TheMessage). same_arguments (types_of o) (arguments_of answer i)) p
    ∙ (ap (λ (o : Option TheMessage). same_arguments m.args (types_of o)) q ∙ same)) no_calls no_rules

-- ---- all elements changed, one after the other

-- what is changed so far, and the rest as it will be
abbrev pub front_of : {X Y : Type 0} → (X → Y) → (Y → Y) → ℕ → List X → List Y
front_of v f n xs = map v (take n xs) ++ map f (map v (drop n xs))

-- ---- a file, with bindings numbered

pub file_is : (r : Reading) (numbers : List ℕ) (d : Draft) → numbers ≡ numbers_of (which_opened r.draft.bindings) → d ≡ with_numbers numbers r.draft
    → file_left numbers (record { names = r.names; draft = d }) ≡ file_of r
file_is r numbers d e h =
    ap (λ (x : Draft). file_left numbers (record { names = r.names; draft = x })) h ∙ ap (λ (ns : List ℕ). file_by ns r) e

-- ---- numbers that are places

pub in_place : (numbers : List ℕ) (place : ℕ) → ((k : ℕ) → k < length numbers → get_or numbers k 0 ≡ k) → numbered numbers place ≡ place
in_place numbers place each = by (slice_get numbers place) refl where
  by : (o : Option ℕ) → slice_get numbers place ≡ o → unwrap_or o place ≡ place
  by None is = refl
  by (Some n) is =
      let there : place < length numbers = slice_get_within numbers place n is in
      let read = slice_get-get_or numbers place 0 there in
      let same = each place there in
      cc

same_end : (numbers : List ℕ) (e : EndId) → ((place : ℕ) → numbered numbers place ≡ place) → end_by numbers e ≡ e
same_end numbers e places = ap (λ (n : ℕ). let f : EndId = record { binding = n; side = e.side } in f) (places e.binding)

same_job : (numbers : List ℕ) (job : Job) → ((place : ℕ) → numbered numbers place ≡ place) → job_by numbers job ≡ job
same_job numbers (opens request) places = refl
same_job numbers (replies e msg answer) places = ap (λ (f : EndId). replies f msg answer) (same_end numbers e places)
same_job numbers (calls e c) places = ap (λ (f : EndId). calls f c) (same_end numbers e places)

-- jobs that name ends by such numbers stay as they are
pub same_jobs : (numbers : List ℕ) (jobs : List Job) → ((place : ℕ) → numbered numbers place ≡ place) → map (job_by numbers) jobs ≡ jobs
same_jobs numbers [] places = refl
same_jobs numbers (job ∷ jobs) places =
    ap (λ (j : Job). j ∷ map (job_by numbers) jobs) (same_job numbers job places) ∙ ap (λ (js : List Job). job ∷ js) (same_jobs numbers jobs places)

-- ---- one text more

pub one_text_more : {X Y : Type 0} (v : X → Y) (f : Y → List ℕ) (xs : List X) (n m : ℕ) (x : X) → m ≡ suc n → n < length xs → x ≡ get_or xs n x
    → flat_map f (map v (take m xs)) ≡ flat_map f (map v (take n xs)) ++ f (v x)
one_text_more {X = X} v f xs n m x is h e = ap (λ k. flat_map f (map v (take k xs))) is ∙ by xs n h e where
  by : (xs : List X) (n : ℕ) → n < length xs → x ≡ get_or xs n x → flat_map f (map v (take (suc n) xs)) ≡ flat_map f (map v (take n xs)) ++ f (v x)
  by [] n h e = absurd (omega arith)
  by (z ∷ xs) zero h e = flat_map-cons f (v z) [] ∙ (append-nil (f (v z)) ∙ ap (λ k. f (v k)) (sym e))
  by (z ∷ xs) (suc n) h e =
      flat_map-cons f (v z) (map v (take (suc n) xs)) ∙ (ap (λ (t : List ℕ). f (v z) ++ t) (by xs n (omega arith) e)
      ∙ (sym (append_assoc (f (v z)) (flat_map f (map v (take n xs))) (f (v x)))
      ∙ ap (λ (t : List ℕ). t ++ f (v x)) (sym (flat_map-cons f (v z) (map v (take n xs))))))

-- ---- one rank more

pub one_rank_more : (f : ℕ → List ℕ) (n : ℕ) → flat_map f (range_with_len 0 (n + 1)) ≡ flat_map f (range_with_len 0 n) ++ f n
one_rank_more f n =
    let g : List ℕ → List ℕ = λ t. t in
    let last : flat_map g (f n ∷ []) ≡ f n = flat_map-cons g (f n) [] ∙ append-nil (f n) in
    sym (flat_map-map g f (range_with_len 0 (n + 1)))
    ∙ (ap (flat_map g) (map-range_with_len_more f 0 n n (omega arith))
    ∙ (flat_map-append g (map f (range_with_len 0 n)) (f n ∷ [])
    ∙ (ap (λ (t : List ℕ). t ++ flat_map g (f n ∷ [])) (flat_map-map g f (range_with_len 0 n)) ∙ ap (λ (t : List ℕ). flat_map f (range_with_len 0 n) ++ t) last)))
