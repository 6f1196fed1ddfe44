-- What one step at a side came to: the label of the traits' step relations.
use Rattle.std.specs.Prelude.{Result, Ok, Err, List, [], ◌∷◌, ◌≡◌, ◌⊎◌}
use Rattle.std.specs.List.{flat_map}
use Rattle.fl_base.specs.declared.fragment.Frag.{Frag}
use Rattle.fl_base.specs.Control.{bare}
use Rattle.fl_link.specs.declared.sides.Sight.{Sight}
use Rattle.fl_link.specs.declared.sides.Sight.TheVariants.{Data, Acknowledgement, Empty}
use Rattle.fl_link.specs.declared.sides.Told.{Told}
use Rattle.fl_link.specs.declared.sides.Told.TheVariants.{Written, Nothing}
use Rattle.fl_link.specs.declared.fault.PutFault.{PutFault}

-- every fragment in a label is bare: its epoch and the count that it tells are set aside
pub data Look : Type 0 where
  -- a put placed this fragment, which is one of a call
  placed : Frag → Look
  -- a put, or a tell that had enough to tell, found too few free slots, or such a tell found the ring spent
  no_room : Look
  -- a put found that the link has carried all fragments that it ever will
  spent : Look
  -- a look saw this fragment, and left it
  saw : Frag → Look
  -- a look saw a fragment that only acknowledges, and left it
  saw_ack : Look
  -- a take got this fragment
  found : Frag → Look
  -- a take got a fragment that only acknowledges
  found_ack : Look
  -- a look or a take found that nothing stands there
  missed : Look
  -- a tell told what was taken
  told : Look
  -- a tell found too little to tell
  kept : Look

-- the label of a peek, by its answer
abbrev pub peeked : Sight → Look
peeked (Data frag) = saw (bare frag)
peeked Acknowledgement = saw_ack
peeked Empty = missed

-- the label of a take, by its answer
abbrev pub taken : Sight → Look
taken (Data frag) = found (bare frag)
taken Acknowledgement = found_ack
taken Empty = missed

-- the label of a tell, by its answer
abbrev pub tells : Result Told PutFault → Look
tells (Ok Written) = told
tells (Ok Nothing) = kept
tells (Err fault) = no_room

-- the labels of a stretch of steps, from one state to another
abbrev pub Looks : {S : Type 0} → (S → Look → S → Type 0) → S → List Look → S → Type 0
Looks R s [] t = s ≡ t
Looks {S} R s (look ∷ looks) t = (m : S) × R s look m × Looks R m looks t

-- one step of a side that both puts and takes
abbrev pub LinkStep : {S : Type 0} → (S → Look → S → Type 0) → (S → Look → S → Type 0) → S → Look → S → Type 0
LinkStep puts takes s look t = puts s look t ⊎ takes s look t

-- the fragment that a step placed, and the one that it found and took, if it did
abbrev pub put_in : Look → List Frag
put_in (placed frag) = frag ∷ []
put_in look = []

abbrev pub took_in : Look → List Frag
took_in (found frag) = frag ∷ []
took_in look = []

-- the fragments that a stretch of steps placed, and those that it found and took
abbrev pub puts_of : List Look → List Frag
puts_of looks = flat_map put_in looks

abbrev pub takes_of : List Look → List Frag
takes_of looks = flat_map took_in looks
