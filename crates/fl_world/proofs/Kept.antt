-- A world whose parts were lent and are as they were, or of which some have changed: w is the world before, and base the same by its fields.
use Rattle.std.proofs.Common.{◌≡◌, sym, ap, ◌∙◌, subst, ℕ, ◌<◌, ◌≤◌, length, slice_get, slice_index_or, List, Some, refl, Result, Ok, Err, IfOk, OnErr}
use Rattle.std.proofs.lemmas.Bool.{false≢true}
use Rattle.std.specs.Result.{IsErr}
use Rattle.fl_link.specs.Queue.{TheQueue, front_of}
use Rattle.fl_link.specs.Looks.{saw}
use Rattle.fl_base.specs.Control.{bare}
use Rattle.fl_compile.specs.declared.program.Program.{Program}
use Rattle.fl_base.specs.declared.fragment.Frag.{Frag}
use Rattle.fl_ring.specs.Duo.{TheDuo, side_of}
use Rattle.fl_core.specs.View.{TheCore}
use Rattle.fl_model.specs.Events.{DispatcherId}
use Rattle.fl_world_refines.specs.declared.binding.Binding.{Binding}
use Rattle.fl_world_refines.specs.View.{TheWorld, ring_at, which_at}
use Rattle.fl_world_events.specs.Places.{HasLink}
use Rattle.fl_world_events.specs.Passing.{StandsAt}
use Rattle.fl_world_events.specs.Requests.{HasDispatcher}
use Rattle.fl_world_events.proofs.Lifts.{one_value, stands}
use Rattle.fl_world.proofs.Lifts.{link_read, ring_read}

-- what holds whatever the outcome
pub on_any : {X E : Type 0} (P : Type 0) (r : Result X E) → P → OnErr r P
on_any P (Ok x) h = tt
on_any P (Err e) h = h

pub same_parts : (w base : TheWorld) → base ≡ w → (cores : List TheCore) (rings : List TheDuo) (queues : List TheQueue) (bindings : List Binding)
    → cores ≡ base.cores → rings ≡ base.rings → queues ≡ base.queues → bindings ≡ base.bindings
    → record base { cores = cores; rings = rings; queues = queues; bindings = bindings } ≡ w
same_parts w base same cores rings queues bindings c r q b =
    ap (λ (xs : List TheCore). record base { cores = xs; rings = rings; queues = queues; bindings = bindings }) c
    ∙ ap (λ (xs : List TheDuo). record base { rings = xs; queues = queues; bindings = bindings }) r
    ∙ ap (λ (xs : List TheQueue). record base { queues = xs; bindings = bindings }) q
    ∙ ap (λ (xs : List Binding). record base { bindings = xs }) b ∙ same

pub same_programs : (w base : TheWorld) → base ≡ w → (programs : List Program) → programs ≡ base.programs → record base { programs = programs } ≡ w
same_programs w base same programs p = ap (λ (xs : List Program). record base { programs = xs }) p ∙ same

-- cores that are as many
pub few_again : (xs ys : List TheCore) → length xs ≡ length ys → length ys ≤ 16 → length xs ≤ 16
few_again xs ys same h = subst (λ (n : ℕ). n ≤ 16) (sym same) h

pub core_lent : (w base : TheWorld) → base ≡ w → (cores : List TheCore) → cores ≡ base.cores → (n : ℕ) → n < length w.cores → n < length cores
core_lent w base same cores lent n h = subst (λ (xs : List TheCore). n < length xs) (sym (lent ∙ ap (λ (x : TheWorld). x.cores) same)) h

pub dispatcher_lent : (w base : TheWorld) → base ≡ w → (cores : List TheCore) → cores ≡ base.cores → (d : DispatcherId) → HasDispatcher w.cores d
    → HasDispatcher cores d
dispatcher_lent w base same cores lent d h = subst (λ (xs : List TheCore). HasDispatcher xs d) (sym (lent ∙ ap (λ (x : TheWorld). x.cores) same)) h

-- ---- a link

pub link_side_read : (w base : TheWorld) → base ≡ w → (n l : ℕ) → HasLink w.cores n l → (read : TheCore) → read ≡ slice_index_or base.cores n read
    → l < length read.link_sides
link_side_read w base same n l h read value =
    let here : h.core ≡ read = one_value h.core read (sym h.core_is ∙ sym (ap (λ (x : TheWorld). slice_get x.cores n) same)
    ∙ stands base.cores n read read (link_read w base same n l h) value refl) in
    subst (λ (k : TheCore). l < length k.link_sides) here h.within

pub front_read : (w base : TheWorld) → base ≡ w → (m i : ℕ) → i ≡ ring_at m → ring_at m < length w.rings → (f : Frag) → StandsAt w.rings m f
    → (read : TheDuo) → read ≡ slice_index_or base.rings i read → front_of (side_of (which_at m) read).waiting ≡ saw (bare f)
front_read w base same m i at there f h read value =
    h read (subst (λ (x : TheWorld). slice_get x.rings (ring_at m) ≡ Some read) same (subst (λ (j : ℕ). slice_get base.rings j ≡ Some read) at
    (stands base.rings i read read (ring_read w base same m i at there) value refl)))

-- what comes where memory is refused is no answer
pub no_answer : {X E : Type 0} (P : X → Type 0) (r : Result X E) → IsErr r → IfOk r P
no_answer P (Ok x) h = absurd (false≢true h)
no_answer P (Err e) h = tt
