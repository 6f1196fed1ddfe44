-- A waitset is three lists of channels, idle, polled and pending; what each call answers, and which
-- lists it leaves. A channel is registered where it is in one of the lists.
use Rattle.std.specs.Prelude.{ℕ, ◌<◌, ◌≤◌, ◌||◌, nat_lt, Bool, if◌then◌else◌, List, [], ◌∷◌, ◌++◌, Result, Ok, Err}
use Rattle.fl_lists.specs.ThreeLists.{ThreeLists, is_in, without, IsApart}
use Rattle.fl_waitset.specs.declared.fault.WaitFault.{WaitFault}
use Rattle.fl_waitset.specs.declared.fault.WaitFault.TheVariants.{Registered, NotRegistered, NoEvent, NoChannel, TooMany, Memory}
use Rattle.fl_waitset.specs.declared.waitset.Pick.{Pick}
use Rattle.fl_waitset.specs.declared.waitset.Pick.TheVariants.{Pending, Polled}

-- three lists without repetition, no channel in two of them, of at most 1,024 channels
pub record IsWaitset (w : ThreeLists) : Type 0 where
  pub few : w.size ≤ 1024
  pub apart : IsApart w

-- c is in one of the three lists
abbrev pub is_registered : ThreeLists → ℕ → Bool
is_registered w c = is_in c w.idle || is_in c w.polled || is_in c w.pending

-- why no waitset of n channels is made
abbrev pub MakingFault : ℕ → WaitFault → Type 0
MakingFault n TooMany = 1024 < n
MakingFault n Memory = n ≤ 1024
MakingFault n Registered = ⊥
MakingFault n NotRegistered = ⊥
MakingFault n NoEvent = ⊥
MakingFault n NoChannel = ⊥

-- a channel that there is and that isn't registered may be
abbrev pub register_answer : ThreeLists → ℕ → Result (Unit {0}) WaitFault
register_answer w c =
    if nat_lt c w.size then (if is_registered w c then Err Registered else Ok tt) else Err NoChannel

-- a registered channel may leave, or be put back
abbrev pub registered_answer : ThreeLists → ℕ → Result (Unit {0}) WaitFault
registered_answer w c =
    if nat_lt c w.size then (if is_registered w c then Ok tt else Err NotRegistered) else Err NoChannel

-- a channel that there is may be triggered
abbrev pub trigger_answer : ThreeLists → ℕ → Result (Unit {0}) WaitFault
trigger_answer w c = if nat_lt c w.size then Ok tt else Err NoChannel

-- an idle channel goes to the back of pending; any other stays where it is
abbrev pub triggered : ThreeLists → ℕ → ThreeLists
triggered w c =
    if is_in c w.idle then record w { idle = without c w.idle; pending = w.pending ++ c ∷ [] } else w

abbrev pub first_of : List ℕ → List ℕ → Result Pick WaitFault
first_of (c ∷ cs) polled = Ok (Pending (record { 0 = c }))
first_of [] (c ∷ cs) = Ok (Polled (record { 0 = c }))
first_of [] [] = Err NoEvent

-- the first pending channel, else the first polled one
abbrev pub next_pick : ThreeLists → Result Pick WaitFault
next_pick w = first_of w.pending w.polled
