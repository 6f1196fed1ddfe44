-- A binding by a route: one of all cores has changed.
use Rattle.std.proofs.Common.{◌≡◌, ◌∙◌, ◌+◌, refl, sym, ap, subst, ℕ, zero, suc, ◌<◌, nat_lt, true, List, [], ◌∷◌, ◌++◌, length, map, take, get_or, slice_set, slice_index_or, Result, Ok, Err, IfOk, arith}
use Rattle.std.specs.List.{list_all}
use Rattle.std.proofs.lemmas.Bool.{and_parts, ltb-true}
use Rattle.std.proofs.lemmas.List.{take_more, take_more_set, map-append}
use Rattle.fl_base.specs.declared.identity.CoreId.{CoreId}
use Rattle.fl_base.specs.Numbered.{core_id}
use Rattle.std.specs.declared.alloc.AllocError.{AllocError}
use Rattle.std.proofs.lemmas.Option.{slice_get_within}
use Rattle.fl_core.specs.View.{TheCore}
use Rattle.fl_model.specs.Events.{Answer, DispatcherId}
use Rattle.fl_world_refines.specs.declared.binding.Binding.{Binding}
use Rattle.fl_world_events.specs.declared.by_route.OpenOutcome.{OpenOutcome}
use Rattle.fl_world_events.specs.Parts.{InCore}
use Rattle.fl_world_events.specs.Requests.{HasDispatcher}
use Rattle.fl_world_events.specs.Routes.{AtOne, Follows}
use Rattle.fl_world_events.proofs.Lifts.{stands}

-- ---- a route

pub small_at : (xs : List ℕ) → list_all (λ n. nat_lt n 256) xs ≡ true → (k : ℕ) → k < length xs → get_or xs k 0 < 256
small_at [] h k lt = absurd (omega (arith, lt))
small_at (x ∷ xs) h zero lt = ltb-true x 256 (and_parts (nat_lt x 256) (list_all (λ n. nat_lt n 256) xs) h).0
small_at (x ∷ xs) h (suc k) lt = small_at xs (and_parts (nat_lt x 256) (list_all (λ n. nat_lt n 256) xs) h).1 k (omega (arith, lt))

pub next_id : (ids : List CoreId) (xs : List ℕ) (k : ℕ) → k < length ids → k < length xs → take k ids ≡ map core_id (take k xs)
    → take (k + 1) (slice_set ids k (core_id (get_or xs k 0))) ≡ map core_id (take (k + 1) xs)
next_id ids xs k inside within same =
    let core = core_id (get_or xs k 0) in
    take_more_set ids k core inside ∙ (λ i. same i ++ core ∷ [])
    ∙ sym (ap (map core_id) (take_more xs k 0 within) ∙ map-append core_id (take k xs) (get_or xs k 0 ∷ []))

-- ---- the client's core

pub core_below : (cores : List TheCore) (d : DispatcherId) → HasDispatcher cores d → d.core < length cores
core_below cores d h = slice_get_within cores d.core h.core h.core_is

-- among all cores
pub at_one : (cores : List TheCore) (n : ℕ) → n < length cores → (read : TheCore) → read ≡ slice_index_or cores n read
    → (Event : OpenOutcome → TheCore → TheCore → Type 0) (k2 : TheCore) (r : Result OpenOutcome AllocError) → IfOk r (λ o. InCore (Event o) read k2)
    → IfOk r (λ o. AtOne cores n (Event o) (slice_set cores n k2))
at_one cores n below read value Event k2 (Ok o) h =
    record { before = read; before_is = stands cores n read read below value refl; after = k2; event = h; rest = refl }
at_one cores n below read value Event k2 (Err e) h = tt

-- ---- among the bindings

pub follows_from : (o : OpenOutcome) (b : Binding) (bs cs : List Binding) → bs ≡ cs → (a : Answer) (bs2 : List Binding) → Follows o b bs a bs2 → Follows o b cs a
    bs2
follows_from o b bs cs same a bs2 h = subst (λ (xs : List Binding). Follows o b xs a bs2) same h
