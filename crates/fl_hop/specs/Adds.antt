-- What a forward adds to a stretch: the step that it is, and what its sides took and put by it.
use Rattle.std.specs.Prelude.{ℕ, ◌≡◌, List, [], ◌∷◌, length, slice_get, Some, Result}
use Rattle.fl_base.specs.declared.fragment.Frag.{Frag}
use Rattle.fl_link.specs.Looks.{Look, Looks, LinkStep, puts_of, takes_of}
use Rattle.fl_hop.specs.declared.entry.HopTarget.{HopTarget}
use Rattle.fl_hop.specs.declared.entry.HopTarget.TheVariants.{Link, End}
use Rattle.fl_hop.specs.declared.forward.ForwardOutcome.{ForwardOutcome}
use Rattle.fl_hop.specs.declared.forward.ForwardOutcome.TheVariants.{Moved, Full, Spent}
use Rattle.fl_hop.specs.declared.forward.Forwarded.{Forwarded}
use Rattle.fl_hop.specs.declared.fault.HopFault.{HopFault}
use Rattle.fl_hop.specs.Joined.{Sound}
use Rattle.fl_hop.specs.Stretch.{TableStep, passed, TableHistory, AllWent, taken_from, put_on, come_to}
use Rattle.fl_hop.specs.Forward.{BeforeAfter, ForwardSides, LinkOfTable, ForwardedFrag, Passes, Forwards}

-- a step, if the fragment was moved
abbrev pub if_moved : ForwardOutcome → TableStep → List TableStep
if_moved Moved step = step ∷ []
if_moved Full step = []
if_moved Spent step = []

-- the steps that a fragment's passage is: one, or none where it stayed
abbrev pub steps_of : LinkOfTable → ForwardedFrag → List TableStep
steps_of at p = if_moved p.outcome (record { moment = at.table; circuit_event = passed at.link p.frag p.way })

-- what was put on the link that a way leads to, or came to the end
abbrev pub gone_to : HopTarget → List TableStep → List Frag
gone_to (Link m c) steps = put_on m.0 steps
gone_to (End e) steps = come_to e steps

-- these steps, while the table stayed as it is
abbrev pub at_once : LinkOfTable → List TableStep → TableHistory
at_once at steps = record { start = at.table; steps = steps; finish = at.table }

-- over some looks a side placed nothing, and took these
abbrev pub Takes : {T : Type 0} → (T → Look → T → Type 0) → List Frag → BeforeAfter T → Type 0
Takes takes frags side =
    (looks : List Look) × Looks takes side.before looks side.after × (takes_of looks ≡ frags) × (puts_of looks ≡ [])

-- over some looks a side took nothing, and placed these
abbrev pub Puts : {P : Type 0} → (P → Look → P → Type 0) → List Frag → BeforeAfter P → Type 0
Puts puts frags side =
    (looks : List Look) × Looks puts side.before looks side.after × (takes_of looks ≡ []) × (puts_of looks ≡ frags)

-- the passage of a fragment over two sides that were lent
pub record Adds {T P : Type 0} (takes : T → Look → T → Type 0) (puts : P → Look → P → Type 0) (at : LinkOfTable) (p : ForwardedFrag)
    (lent : ForwardSides T P) : Type 0 where
  pub went : AllWent (at_once at (steps_of at p))
  pub taken : Takes takes (taken_from at.link (steps_of at p)) lent.from
  pub put : Puts puts (gone_to p.way (steps_of at p)) lent.onto

abbrev pub PassageAdds : {T P : Type 0} → (T → Look → T → Type 0) → (P → Look → P → Type 0) → (T → Look) → Type 0
PassageAdds {T} {P} takes puts front =
    (at : LinkOfTable) (p : ForwardedFrag) (lent : ForwardSides T P) → Sound at.table → Passes takes puts front at p lent
    → Adds takes puts at p lent

-- over some looks of either kind the side of link k took and placed what these steps took from the link and put there
abbrev pub SideAdds : {S : Type 0} → (S → Look → S → Type 0) → (S → Look → S → Type 0) → List TableStep → ℕ → BeforeAfter S → Type 0
SideAdds takes puts steps k side =
    (looks : List Look) × Looks (LinkStep puts takes) side.before looks side.after
    × (takes_of looks ≡ taken_from k steps) × (puts_of looks ≡ put_on k steps)

-- a forward over the sides of all links of a core: some steps, and each side did what they do on its link
pub record ForwardAdds {S : Type 0} (takes puts : S → Look → S → Type 0) (at : LinkOfTable) (sides : BeforeAfter (List S)) : Type 0 where
  pub steps : List TableStep
  pub went : AllWent (at_once at steps)
  pub as_many : length sides.after ≡ length sides.before
  pub each : (k : ℕ) (side : BeforeAfter S) → slice_get sides.before k ≡ Some side.before → slice_get sides.after k ≡ Some side.after
      → SideAdds takes puts steps k side

abbrev pub ForwardsAdd : {S : Type 0} → (S → Look → S → Type 0) → (S → Look → S → Type 0) → (S → Look) → Type 0
ForwardsAdd {S} takes puts front =
    (at : LinkOfTable) (answer : Result Forwarded HopFault) (sides : BeforeAfter (List S)) → Sound at.table
    → Forwards takes puts front at answer sides → ForwardAdds takes puts at sides
