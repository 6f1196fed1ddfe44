-- What comes out of a circuit is what went in: over a stretch at one core, and along a route.
use Rattle.std.specs.Prelude.{ℕ, ◌≡◌, List, [], ◌∷◌, ◌++◌, map}
use Rattle.fl_base.specs.declared.fragment.Frag.{Frag}
use Rattle.fl_base.specs.declared.identity.LinkId.{LinkId}
use Rattle.fl_base.specs.declared.identity.Circuit.{Circuit}
use Rattle.fl_base.specs.declared.identity.EndId.{EndId}
use Rattle.fl_base.specs.Control.{bare}
use Rattle.fl_base.specs.Prefix.{IsPrefix}
use Rattle.fl_hop.specs.declared.entry.HopTarget.{HopTarget}
use Rattle.fl_hop.specs.declared.entry.HopTarget.TheVariants.{Link, End}
use Rattle.fl_hop.specs.Table.{TheCircuits}
use Rattle.fl_hop.specs.Joined.{Sound, Leads}
use Rattle.fl_hop.specs.Later.{Later}
use Rattle.fl_hop.specs.Stretch.{TableStep, Went, TableHistory, AllWent, Stood, taken_from, put_on, come_to, written_by, OnlyFrom, OnlyOnto}
use Rattle.fl_hop.specs.OfCircuit.{of_circuit}

-- ---- tables and stretches

-- an entry's number names that entry for ever: whatever stands there later is of the same binding and leads the same way
abbrev pub OneEntry : Type 0
OneEntry =
    (t u : TheCircuits) (l n binding other : ℕ) (way on : HopTarget) → Sound t → Later t u
    → Leads t l n binding way → Leads u l n other on → (binding ≡ other) × (way ≡ on)

-- one stretch, and then one that goes on from there
abbrev pub then_on : TableHistory → TableHistory → TableHistory
then_on s r = record { start = s.start; steps = s.steps ++ r.steps; finish = r.finish }

-- which is a stretch too
abbrev pub Joins : Type 0
Joins = (s r : TableHistory) → s.finish ≡ r.start → AllWent s → AllWent r → AllWent (then_on s r)

-- an entry that stood at some moment of a stretch did so too in one that goes on, or that began before
abbrev pub StoodToo : Type 0
StoodToo =
    (s r : TableHistory) (l n binding : ℕ) (way : HopTarget) → s.finish ≡ r.start
    → (Stood s l n binding way × AllWent r → Stood (then_on s r) l n binding way)
    × (AllWent s × Stood r l n binding way → Stood (then_on s r) l n binding way)

-- an entry that stands at the finish of a stretch, or stood at its start, stood at some moment of it
abbrev pub StoodThere : Type 0
StoodThere =
    (s : TableHistory) (l n binding : ℕ) (way : HopTarget) → AllWent s
    → (Sound s.finish × Leads s.finish l n binding way → Stood s l n binding way)
    × (Sound s.start × Leads s.start l n binding way → Stood s l n binding way)

-- a step alone is a stretch
abbrev pub OneStep : Type 0
OneStep = (p : TableStep) → Went p → AllWent (record { start = p.moment; steps = p ∷ []; finish = p.moment })

-- ---- what an entry carries, if it stood at any moment of the stretch, whatever else this core took from its links and put on
-- ---- them, and whatever circuits were opened and removed

-- from link to link: what was put on the far link under its number there is what was taken from the near one under its number
abbrev pub CarriedOn : Type 0
CarriedOn =
    (s : TableHistory) (l m : LinkId) (c d : Circuit) (binding : ℕ) → Stood s l.0 c.0 binding (Link m d)
    → of_circuit d.0 (put_on m.0 s.steps) ≡ of_circuit c.0 (taken_from l.0 s.steps)

-- from a link to an end to which no other number led: what came to the end is what was taken under the entry's number
abbrev pub CarriedIn : Type 0
CarriedIn =
    (s : TableHistory) (l : LinkId) (c : Circuit) (binding : ℕ) (e : EndId)
    → Stood s l.0 c.0 binding (End e) → OnlyFrom l.0 c.0 e s.steps
    → come_to e s.steps ≡ of_circuit c.0 (taken_from l.0 s.steps)

-- from an end that wrote under no other number to a link: what was put there under the entry's number is what the end wrote
abbrev pub OwnAlone : Type 0
OwnAlone =
    (s : TableHistory) (l : LinkId) (c : Circuit) (binding : ℕ) (e : EndId)
    → Stood s l.0 c.0 binding (End e) → OnlyOnto l.0 c.0 e s.steps
    → of_circuit c.0 (put_on l.0 s.steps) ≡ written_by e s.steps

-- ---- along a route

-- the epochs and counts told that a link changes are no part of what a circuit carries
abbrev pub SetAside : Type 0
SetAside = (c : ℕ) (frags : List Frag) → of_circuit c (map bare frags) ≡ of_circuit c frags

-- one leg of a route: the circuit on its link, and what was sent on the link and what was got from it, of all that the link
-- carries: other circuits' fragments, the monitors' messages, and fragments that only acknowledge
pub record Leg : Type 0 where
  pub circuit : ℕ
  pub sent : List Frag
  pub got : List Frag

-- each link was sent a prefix of what came before it, on its circuit, and gave a prefix of what it was sent
abbrev pub Along : List Frag → List Leg → List Frag → Type 0
Along ins [] outs = IsPrefix outs ins
Along ins (g ∷ gs) outs =
    IsPrefix (of_circuit g.circuit g.sent) ins
    × IsPrefix (of_circuit g.circuit g.got) (of_circuit g.circuit g.sent)
    × Along (of_circuit g.circuit g.got) gs outs
