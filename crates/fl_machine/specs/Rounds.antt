-- Fragments fed to a receive run one after another.
use Rattle.std.specs.Prelude.{◌≡◌, ℕ, zero, suc, true, List, [], ◌∷◌, length, Result, Ok}
use Rattle.fl_base.specs.declared.fragment.Frag.{Frag}
use Rattle.fl_value_data.specs.Value.{TheCall}
use Rattle.fl_value_data.specs.Fits.{fits_of}
use Rattle.fl_wire.specs.Payload.{frags_of}
use Rattle.fl_wire.specs.Reading.{Means}
use Rattle.fl_interface.specs.Counts.{interface_words_fit}
use Rattle.fl_wire.specs.declared.fault.WireFault.{WireFault}
use Rattle.fl_machine.specs.Receiving.{TheReceiving, plan_in, interface_in, Feeds}
use Rattle.fl_machine.specs.declared.intake.Fed.{Fed}
use Rattle.fl_machine.specs.declared.intake.Fed.TheVariants.{Part, Whole}

-- a run is fed these fragments, gives an answer to each, and is then another
abbrev pub FeedsAll : TheReceiving → List Frag → List (Result Fed WireFault) → TheReceiving → Type 0
FeedsAll s [] [] t = t ≡ s
FeedsAll s (f ∷ frags) (r ∷ answers) t = (u : TheReceiving) × Feeds s f r u × FeedsAll u frags answers t
FeedsAll s frags answers t = ⊥

-- of so many answers the last is `Whole`, and the others are `Part`
abbrev pub whole_at_last : ℕ → List (Result Fed WireFault)
whole_at_last zero = []
whole_at_last (suc zero) = Ok Whole ∷ []
whole_at_last (suc (suc n)) = Ok Part ∷ whole_at_last (suc n)

-- a run that is inside no call takes the fragments of a fitting call, whatever their epochs and the counts told, as that
-- call: `Whole` at the last, and what is whole means no other call
pub record TakesCall (s : TheReceiving) (c : TheCall) (frags : List Frag) (answers : List (Result Fed WireFault)) (t : TheReceiving) : Type 0 where
  pub answers_are : answers ≡ whole_at_last (length frags)
  pub parts_are : t.parts ≡ []
  pub whole_is : t.whole ≡ frags_of (plan_in s) (interface_in s) c
  pub program : t.program ≡ s.program
  pub only : (d : TheCall) → fits_of (interface_in s) d ≡ true → Means (plan_in s) (interface_in s) t.whole d 0 → d ≡ c

-- so a run takes fragments that mean a fitting call, off links, where it is inside no call
abbrev pub TakesFragments : Type 0
TakesFragments = (s t : TheReceiving) (c : TheCall) (frags : List Frag) (answers : List (Result Fed WireFault))
    → interface_words_fit (interface_in s) ≡ true → s.parts ≡ [] → fits_of (interface_in s) c ≡ true
    → Means (plan_in s) (interface_in s) frags c 0 → FeedsAll s frags answers t → TakesCall s c frags answers t
