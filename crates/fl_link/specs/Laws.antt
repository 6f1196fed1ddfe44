-- What holds of looks in a row, whatever the side, and of a queue over them: laws.
use Rattle.std.specs.Prelude.{◌≡◌, List, ◌++◌, map}
use Rattle.fl_base.specs.declared.fragment.Frag.{Frag}
use Rattle.fl_base.specs.Control.{bare}
use Rattle.fl_base.specs.Prefix.{IsPrefix}
use Rattle.fl_link.specs.Looks.{Look, Looks, LinkStep, puts_of, takes_of}
use Rattle.fl_link.specs.Calls.{calls_only, bare_calls}
use Rattle.fl_link.specs.Queue.{TheQueue, QueuePuts, QueueTakes}

-- two stretches, one after the other, are one
abbrev pub LooksJoin : {S : Type 0} → (S → Look → S → Type 0) → Type 0
LooksJoin {S} steps = (s t u : S) (xs ys : List Look) → Looks steps s xs t → Looks steps t ys u → Looks steps s (xs ++ ys) u

-- a stretch of puts, or of takes, is one of steps of either kind
abbrev pub LooksWiden : {S : Type 0} → (S → Look → S → Type 0) → (S → Look → S → Type 0) → Type 0
LooksWiden {S} steps wider = (s t : S) (xs : List Look) → Looks steps s xs t → Looks wider s xs t

-- what two stretches placed, and what they found
abbrev pub PutsJoin : Type 0
PutsJoin = (xs ys : List Look) → puts_of (xs ++ ys) ≡ puts_of xs ++ puts_of ys

abbrev pub TakesJoin : Type 0
TakesJoin = (xs ys : List Look) → takes_of (xs ++ ys) ≡ takes_of xs ++ takes_of ys

-- the fragments of calls in two lists
abbrev pub CallsJoin : Type 0
CallsJoin = (xs ys : List Frag) → calls_only (xs ++ ys) ≡ calls_only xs ++ calls_only ys

-- setting aside what links write makes no fragment of a call an acknowledging one, nor the other way round
abbrev pub CallsBare : Type 0
CallsBare = (xs : List Frag) → bare_calls xs ≡ map bare (calls_only xs)

-- nothing is left out twice
abbrev pub CallsAgain : Type 0
CallsAgain = (xs : List Frag) → calls_only (calls_only xs) ≡ calls_only xs

-- the fragments of calls in a prefix are a prefix of those in the whole
abbrev pub CallsPrefix : Type 0
CallsPrefix = (xs ys : List Frag) → IsPrefix xs ys → IsPrefix (bare_calls xs) (bare_calls ys)

-- Over a stretch of steps of either kind a queue loses no call's fragment, makes none up, and keeps their order: what
-- stood in it and then what was put is what was taken and then what stands in it.
pub record QueueConserves (s : TheQueue) (looks : List Look) (t : TheQueue) : Type 0 where
  pub same_capacity : t.capacity ≡ s.capacity
  pub same_kind : t.acked ≡ s.acked
  pub calls : bare_calls s.items ++ map bare (puts_of looks) ≡ takes_of looks ++ bare_calls t.items

abbrev pub QueueLaw : Type 0
QueueLaw = (s t : TheQueue) (looks : List Look) → Looks (LinkStep QueuePuts QueueTakes) s looks t → QueueConserves s looks t
