-- Behind the jobs of earlier lines a job finds at its end what its line found: the binding, its interface, and what the jobs there make of both ends.
use Rattle.std.proofs.Common.{◌≡◌, refl, sym, ◌∙◌, ap, ℕ, suc, zero, ◌<◌, ◌≤◌, ◌+◌, cond, Bool, true, false, List, [], ◌∷◌, ◌++◌, length, map, take, slice_get, nat_le, not, ◌&&◌, ◌||◌, Option, Some, None, option_map, arith}
use Rattle.std.specs.List.{flat_map}
use Rattle.std.specs.Prelude.{unwrap_or}
use Rattle.std.proofs.lemmas.Bool.{lt-ltb, ltb-true}
use Rattle.std.proofs.lemmas.List.{append-nil, length-append, length-map, map-append}
use Rattle.std.proofs.lemmas.Option.{slice_get-map, slice_get_within}
use Rattle.fl_base.specs.declared.identity.EndId.{EndId}
use Rattle.fl_base.specs.declared.identity.Side.{Side}
use Rattle.fl_base.specs.declared.identity.Side.TheVariants.{Client, Server}
use Rattle.fl_base.specs.Ends.{other}
use Rattle.fl_base.specs.Given.{given}
use Rattle.fl_compile.specs.declared.program.Program.{Program}
use Rattle.fl_interface.specs.SameTypes.{same_arguments}
use Rattle.fl_model.specs.Calls.{Planned}
use Rattle.fl_model.specs.Taking.{arguments_of, has_message}
use Rattle.fl_model_laws.proofs.Small.{some_same}
use Rattle.fl_model_laws.proofs.Views.{given_map}
use Rattle.fl_value_data.specs.Fits.{fits_of}
use Rattle.fl_value_data.specs.Value.{TheCall}
use Rattle.fl_world_refines.specs.declared.binding.Binding.{Binding}
use Rattle.fl_world_refines.specs.declared.parts.Parts.{Parts}
use Rattle.fl_world_refines.specs.Ends.{planned_of}
use Rattle.fl_cores_file.specs.CoresFile.{count_set_up, numbered, end_by, job_by}
use Rattle.fl_cores_file.specs.Draft.{Bound, Draft, use_at, is_for_rules, is_for_calls, is_interface, call_fault, rule_fault, fault_at}
use Rattle.fl_cores_file.specs.Jobs.{TheCircuitRequest, Job, opens}
use Rattle.fl_cores_jobs.specs.Faults.{use_in, as_read}
use Rattle.fl_cores_jobs.specs.Whole.{About, about, bound_of, all_about, request_in, found_behind, count_behind}
use Rattle.fl_cores_file_laws.proofs.Lists.{kept, got_map, at_front}
use Rattle.fl_cores_file_laws.proofs.Adding.{HasSetUp}
use Rattle.fl_cores_file_laws.proofs.Numbers.{which, before, number_at, before_front, past_first, numbers, numbers_long, number_is, picked_at, count_is, apart, uses_same, requests_same, requests_past, both_kinds}
use Rattle.fl_cores_file_laws.proofs.Standing.{Sort, sort_of, sorts, picked, interface_asked, Found, Kept, Grew}
use Rattle.fl_cores_file_laws.proofs.Uses.{end_at, AllInside, inside_more}

-- what a line finds hangs on what the jobs at both ends are, and on the interface
abbrev pub IsAlike : (Bound → Planned → Option ℕ) → Type 0
IsAlike finds = (r b : Bound) (i : Planned) → r.at_client ≡ b.at_client → r.at_server ≡ b.at_server → finds r i ≡ finds b i

given_alike : (o : Option Planned) (f g : Planned → Option ℕ) → ((i : Planned) → f i ≡ g i) → given o (Some 92) f ≡ given o (Some 92) g
given_alike None f g same = refl
given_alike (Some i) f g same = same i

-- ---- a file's parts

module _ (d : Draft) (kept_d : Kept d) (p : Parts) (made : HasSetUp d.setup p) where
  -- what is asked of bindings, behind the jobs of a draft that was there before
  module _ (c : Draft) (kept_c : Kept c) (grew : Grew c d) where
    abbrev ss : List Sort
    ss = sorts d.bindings

    abbrev ns : List ℕ
    ns = numbers ss

    abbrev set_up : List Binding
    set_up = p.bindings.items

    abbrev jobs : List Job
    jobs = map (job_by ns) c.jobs

    set_up_are : map (λ (x : Binding). x.interface) set_up ≡ picked false ss
    set_up_are = made.bindings ∙ kept_d.set_up

    set_up_count : length set_up ≡ count_set_up (which ss)
    set_up_count = sym (length-map set_up (λ (x : Binding). x.interface)) ∙ ap length set_up_are ∙ sym (count_is ss)

    requests_are : map interface_asked (flat_map request_in jobs) ≡ picked true (sorts c.bindings)
    requests_are = ap (map interface_asked) (requests_same ns c.jobs) ∙ sym kept_c.opened

    abbrev asked_of : TheCircuitRequest → About
    asked_of w = record { interface = w.interface; client = w.client.core }

    abbrev about_of : Binding → About
    about_of x = about (bound_of x)

    map_twice : {X Y Z : Type 0} (f : X → Y) (g : Y → Z) (xs : List X) → map g (map f xs) ≡ map (λ x. g (f x)) xs
    map_twice f g [] = refl
    map_twice f g (x ∷ xs) = ap (λ ys. g (f x) ∷ ys) (map_twice f g xs)

    interfaces_are : map About.interface (all_about set_up jobs) ≡ picked false ss ++ picked true (sorts c.bindings)
    interfaces_are =
        map-append About.interface (map about_of set_up) (map asked_of (flat_map request_in jobs))
        ∙ ap (λ xs. xs ++ map About.interface (map asked_of (flat_map request_in jobs))) (map_twice about_of About.interface set_up ∙ set_up_are)
        ∙ ap (λ ys. picked false ss ++ ys) (map_twice asked_of About.interface (flat_map request_in jobs) ∙ requests_are)

    pub count_is_both : count_behind set_up jobs ≡ length (picked false ss) + length (picked true (sorts c.bindings))
    count_is_both = sym (length-map (all_about set_up jobs) About.interface) ∙ ap length interfaces_are
        ∙ length-append (picked false ss) (picked true (sorts c.bindings))

    -- a binding of the draft, by its number
    binding_there : (k : ℕ) (b : Bound) → slice_get c.bindings k ≡ Some b
        → slice_get (picked false ss ++ picked true (sorts c.bindings)) (numbered ns k) ≡ Some b.interface
    binding_there k b at = ap (slice_get (picked false ss ++ picked true (sorts c.bindings))) (number_is ss k (sort_of b) in_all) ∙ by b.is_opened refl
      where
        in_own : slice_get (sorts c.bindings) k ≡ Some (sort_of b)
        in_own = slice_get-map sort_of c.bindings k ∙ ap (option_map sort_of) at

        in_all : slice_get ss k ≡ Some (sort_of b)
        in_all = at_front (sorts c.bindings) grew.sorts.0 k (sort_of b) ss grew.sorts.1 in_own

        inside : k < length (sorts c.bindings)
        inside = slice_get_within (sorts c.bindings) k (sort_of b) in_own

        same_before : before true ss k ≡ before true (sorts c.bindings) k
        same_before = ap (λ xs. before true xs k) grew.sorts.1 ∙ before_front true (sorts c.bindings) grew.sorts.0 k (omega (arith, inside))

        by : (o : Bool) → b.is_opened ≡ o
            → slice_get (picked false ss ++ picked true (sorts c.bindings)) (number_at 0 (count_set_up (which ss)) ss k o) ≡ Some b.interface
        by true is =
            ap (λ n. slice_get (picked false ss ++ picked true (sorts c.bindings)) (n + before true ss k)) (count_is ss)
            ∙ past_first (picked false ss) (picked true (sorts c.bindings)) (before true ss k)
            ∙ ap (slice_get (picked true (sorts c.bindings))) same_before ∙ picked_at true (sorts c.bindings) k (sort_of b) in_own is
        by false is =
            ap (slice_get (picked false ss ++ picked true (sorts c.bindings))) (let e : 0 + before false ss k ≡ before false ss k = omega arith in e)
            ∙ kept (picked false ss) (picked true (sorts c.bindings)) b.interface (before false ss k) (picked_at false ss k (sort_of b) in_all is)

    -- what is set up under its number is of its interface
    pub same_interface : (k : ℕ) (b : Bound) (x : Binding) → slice_get c.bindings k ≡ Some b → slice_get set_up (numbered ns k) ≡ Some x
        → x.interface ≡ b.interface
    same_interface k b x at there =
        let own : slice_get (picked false ss) (numbered ns k) ≡ Some x.interface =
        ap (λ xs. slice_get xs (numbered ns k)) (sym set_up_are)
        ∙ slice_get-map (λ (y : Binding). y.interface) set_up (numbered ns k) ∙ ap (option_map (λ (y : Binding). y.interface)) there in
        some_same x.interface b.interface
        (sym (kept (picked false ss) (picked true (sorts c.bindings)) x.interface (numbered ns k) own) ∙ binding_there k b at)

    -- what is found at an end that was there
    pub found_at : (e : EndId) (b : Bound) → slice_get c.bindings e.binding ≡ Some b → (finds : Bound → Planned → Option ℕ) → IsAlike finds
        → found_behind p.programs.items set_up jobs (end_by ns e) finds ≡ given (slice_get d.interfaces b.interface) (Some 92) (finds b)
    found_at e b b_is finds alike =
        ap (λ (o : Option About). given o (Some 92) at_about) one.1
        ∙ ap (λ n. given (slice_get p.programs.items n) (Some 92) λ (x : Program). finds read (planned_of x)) one.2
        ∙ sym (given_map planned_of (Some 92) (finds read) p.programs.items b.interface)
        ∙ ap (λ (is : List Planned). given (slice_get is b.interface) (Some 92) (finds read)) (made.interfaces ∙ kept_d.interfaces)
        ∙ given_alike (slice_get d.interfaces b.interface) (finds read) (finds b) (λ i. alike read b i client server)
      where
        number : ℕ
        number = numbered ns e.binding

        one : (a : About) × (slice_get (all_about set_up jobs) number ≡ Some a) × (a.interface ≡ b.interface)
        one =
            got_map About.interface (all_about set_up jobs) number b.interface
            (ap (λ xs. slice_get xs number) interfaces_are ∙ binding_there e.binding b b_is)

        read : Bound
        read = as_read (length set_up) jobs number one.0.interface

        at_about : About → Option ℕ
        at_about a = given (slice_get p.programs.items a.interface) (Some 92) λ x. finds (as_read (length set_up) jobs number a.interface) (planned_of x)

        all : length ss ≡ length (sorts c.bindings) + length grew.sorts.0
        all = ap length grew.sorts.1 ∙ length-append (sorts c.bindings) grew.sorts.0

        low : e.binding < length ss
        low = let own = slice_get_within c.bindings e.binding b b_is in omega (arith, own, all, length-map c.bindings sort_of)

        inside_all : AllInside (length ss) c.jobs
        inside_all = inside_more (length c.bindings) (length ss) c.jobs (omega (arith, all, length-map c.bindings sort_of)) kept_c.inside

        use_there : (s : Side) → use_in jobs (end_at s number) ≡ use_at s b
        use_there s = uses_same (length ss) ns (apart ss) (end_at s e.binding) c.jobs low inside_all ∙ sym (kept_c.uses e.binding b b_is s)

        client : read.at_client ≡ b.at_client
        client = use_there Client

        server : read.at_server ≡ b.at_server
        server = use_there Server

    -- nothing, where the line found nothing
    pub found_none : (e : EndId) (finds : Bound → Planned → Option ℕ) → IsAlike finds → (f : Found c.bindings c.interfaces e finds)
        → found_behind p.programs.items set_up jobs (end_by ns e) finds ≡ None
    found_none e finds alike f =
        found_at e f.bound f.bound_is finds alike
        ∙ ap (λ (o : Option Planned). given o (Some 92) (finds f.bound))
        (at_front c.interfaces grew.interfaces.0 f.bound.interface f.planned d.interfaces grew.interfaces.1 f.planned_is) ∙ f.none

-- ---- behind all jobs so far

pub none_past : {X : Type 0} (xs : List X) (k : ℕ) → length xs ≤ k → slice_get xs k ≡ None
none_past [] k le = refl
none_past (x ∷ xs) zero le = absurd (omega (arith, le))
none_past (x ∷ xs) (suc k) le = none_past xs k (omega (arith, le))

pub past_of : {X : Type 0} (xs : List X) (k : ℕ) → slice_get xs k ≡ None → length xs ≤ k
past_of [] k at = omega arith
past_of (x ∷ xs) zero at = absurd (cc)
past_of (x ∷ xs) (suc k) at = let rest = past_of xs k at in omega (arith, rest)

-- just what is found by a line that comes next
pub found_same : (d : Draft) (kept_d : Kept d) (p : Parts) (made : HasSetUp d.setup p) (e : EndId) (finds : Bound → Planned → Option ℕ) → IsAlike finds
    → found_behind p.programs.items p.bindings.items (map (job_by (numbers (sorts d.bindings))) d.jobs)
    (end_by (numbers (sorts d.bindings)) e) finds ≡ fault_at e finds d
found_same d kept_d p made e finds alike = by (slice_get d.bindings e.binding) refl
  where
    grew : Grew d d
    grew = record { sorts = ([], sym (append-nil (sorts d.bindings))); interfaces = ([], sym (append-nil d.interfaces)) }

    ns : List ℕ
    ns = numbers (sorts d.bindings)

    jobs : List Job
    jobs = map (job_by ns) d.jobs

    number : ℕ
    number = numbered ns e.binding

    at_about : About → Option ℕ
    at_about a = given (slice_get p.programs.items a.interface) (Some 92) λ x. finds (as_read (length p.bindings.items) jobs number a.interface) (planned_of x)

    by : (o : Option Bound) → slice_get d.bindings e.binding ≡ o
        → found_behind p.programs.items p.bindings.items jobs (end_by ns e) finds ≡ given o (Some 92)
        (λ b. given (slice_get d.interfaces b.interface) (Some 92) (finds b))
    by None at =
        let past : length d.bindings ≤ e.binding = past_of d.bindings e.binding at in
        let sorts_long = length-map d.bindings sort_of in
        let long = numbers_long 0 (count_set_up (which (sorts d.bindings))) (sorts d.bindings) in
        let same : number ≡ e.binding =
        ap (λ (o : Option ℕ). unwrap_or o e.binding) (none_past ns e.binding (omega (arith, long, past, sorts_long))) in
        let count = count_is_both d kept_d p made d kept_d grew in
        let both = both_kinds (sorts d.bindings) in
        ap (λ (o : Option About). given o (Some 92) at_about)
        (none_past (all_about p.bindings.items jobs) number (omega (arith, count, same, both, past, sorts_long)))
    by (Some b) at = found_at d kept_d p made d kept_d grew e b at finds alike

-- ---- what a call's and a rule's fault look at

use_alike : (s : Side) (r b : Bound) → r.at_client ≡ b.at_client → r.at_server ≡ b.at_server → use_at s r ≡ use_at s b
use_alike Client r b client server = client
use_alike Server r b client server = server

pub call_alike : (s : Side) (c : TheCall) → IsAlike (call_fault s c)
call_alike s c r b i client server =
    ap (λ u. cond {A = Option ℕ} (nat_le (length i.interface.messages) c.msg) (Some 41)
    (cond {A = Option ℕ} (not (fits_of i.interface c)) (Some 42) (cond {A = Option ℕ} (is_for_rules u) (Some 44) None))) (use_alike s r b client server)

pub rule_alike : (s : Side) (msg answer : ℕ) → IsAlike (rule_fault s msg answer)
rule_alike s msg answer r b i client server =
    ap (λ u. cond {A = Option ℕ} (not (has_message msg i && has_message answer i)) (Some 41)
    (cond {A = Option ℕ} (not (same_arguments (arguments_of msg i) (arguments_of answer i))) (Some 42)
    (cond {A = Option ℕ} (is_for_calls u || is_for_rules (use_at (other s) r)) (Some 44) None))) (use_alike s r b client server)
    ∙ ap (λ u. cond {A = Option ℕ} (not (has_message msg i && has_message answer i)) (Some 41)
    (cond {A = Option ℕ} (not (same_arguments (arguments_of msg i) (arguments_of answer i))) (Some 42)
    (cond {A = Option ℕ} (is_for_calls (use_at s b) || is_for_rules u) (Some 44) None))) (use_alike (other s) r b client server)

-- ---- a circuit that is opened

-- there are fewer than 1,024 bindings before it
pub few_behind : (d : Draft) (kept_d : Kept d) (p : Parts) (made : HasSetUp d.setup p) (n : ℕ) (w : TheCircuitRequest) → slice_get d.jobs n ≡ Some (opens w)
    → (c : Draft) (kept_c : Kept c) (grew : Grew c d) → c.jobs ≡ take n d.jobs
    → count_behind p.bindings.items (map (job_by (numbers (sorts d.bindings))) c.jobs) < 1024
few_behind d kept_d p made n w at c kept_c grew js =
    let ss : List Sort = sorts d.bindings in
    let count = count_is_both d kept_d p made c kept_c grew in
    let next : length (flat_map request_in (take n d.jobs)) + 1 ≤ length (flat_map request_in d.jobs) = requests_past d.jobs n w at in
    let all : length (picked true ss) ≡ length (flat_map request_in d.jobs) = ap length kept_d.opened
    ∙ length-map (flat_map request_in d.jobs) interface_asked in
    let some : length (picked true (sorts c.bindings)) ≡ length (flat_map request_in (take n d.jobs)) =
    ap length kept_c.opened ∙ length-map (flat_map request_in c.jobs) interface_asked ∙ ap (λ xs. length (flat_map request_in xs)) js in
    omega (arith, count, next, all, some, both_kinds ss, length-map d.bindings sort_of, kept_d.few)

-- and its interface is there still
pub interface_stays : (i : ℕ) (c d : Draft) → Grew c d → is_interface i c ≡ true → is_interface i d ≡ true
interface_stays i c d grew there =
    let own : i < length c.interfaces = ltb-true i (length c.interfaces) there in
    let more : length d.interfaces ≡ length c.interfaces + length grew.interfaces.0 = ap length grew.interfaces.1
    ∙ length-append c.interfaces grew.interfaces.0 in
    lt-ltb i (length d.interfaces) (omega (arith, own, more))
