-- What labels speak of, apart from all else: how many fragments of each end have passed each station, what stands in each queue and
-- before each reader of a ring. Links and rings are told by who reads them.
use Rattle.std.proofs.Common.{◌≡◌, ◌≢◌, refl, sym, ◌∙◌, ap, subst, ℕ, suc, ◌-◌, ◌<◌, ◌==◌, if◌then◌else◌, List, [], ◌∷◌, ◌++◌, length, drop, slice_get, Option, Some, None, option_map, ◌⊎◌, inl, inr, reverse}
use Rattle.std.specs.Prelude.{slice_index}
use Rattle.std.proofs.lemmas.List.{map-append}
use Rattle.fl_base.specs.declared.identity.EndId.{EndId}
use Rattle.fl_base.specs.declared.identity.Side.{Side}
use Rattle.fl_base.specs.declared.identity.Side.TheVariants.{Client, Server}
use Rattle.fl_base.specs.Ends.{peer}
use Rattle.fl_base.specs.Given.{given}
use Rattle.fl_hop.proofs.Entering.{same_or}
use Rattle.fl_hop.proofs.Lists.{at_within}
use Rattle.fl_model.specs.Given.{changed_at}
use Rattle.fl_model.specs.Rings.{Label, next_of, RingLabel, Ring, RingSide, first_side, second_side, RingEnd, read_by, puts, takes}
use Rattle.fl_model.specs.Ends.{End}
use Rattle.fl_model.specs.State.{Back, local, over_ring, over_route, Binding, State}
use Rattle.fl_model.specs.Standing.{labels_of, picked}
use Rattle.fl_model.specs.SoundPlaces.{Owner, core_to, this_end, opposite}
use Rattle.fl_model.specs.SoundLabels.{MayStandFrom, IsOf}
use Rattle.fl_model_laws.proofs.Cases.{Each}
use Rattle.fl_model_laws.proofs.Flows.{Follows}
use Rattle.fl_model_laws.proofs.Places.{Plan, ring_of, turned, changed_other, changed_same}
use Rattle.fl_model_laws.proofs.PlacesStep.{plan_of}

-- ---- bindings

-- by what the ends are joined: a route by its cores alone
pub data Joint : Type 0 where
  by_queue : Joint
  by_one_ring : Joint
  over : List ℕ → Joint

abbrev pub joint_of : Back → Joint
joint_of local = by_queue
joint_of (over_ring n) = by_one_ring
joint_of (over_route route) = over route.cores

-- of an end, what has passed each station of its calls, and what stands in its queue
pub record Flow : Type 0 where
  pub passed : List ℕ
  pub queue : List Label

pub record Sight : Type 0 where
  pub joint : Joint
  pub client : Flow
  pub server : Flow

abbrev pub queued : End → List Label
queued x = given x.queue [] λ q. q.labels

abbrev pub flow_of : End → Flow
flow_of x = record { passed = x.out.passed; queue = queued x }

abbrev pub sight_of : Binding → Sight
sight_of b = record { joint = joint_of b.back; client = flow_of b.client; server = flow_of b.server }

abbrev pub seen : Option Binding → Option Sight
seen None = None
seen (Some b) = Some (sight_of b)

abbrev pub flow_in : Side → Sight → Flow
flow_in Client x = x.client
flow_in Server x = x.server

abbrev pub sights : State → ℕ → Option Sight
sights s n = seen (slice_get s.bindings n)

-- ---- readers

abbrev pub labels_at : List Ring → RingEnd → List Label
labels_at rs at = given (slice_get rs at.ring) [] λ r. labels_of (read_by at.side r).waiting

abbrev pub reads_by : Plan → List Ring → Owner → List Label
reads_by p rs x = given (ring_of p x) [] (labels_at rs)

-- what stands before each reader
abbrev pub reads : State → Owner → List Label
reads s x = reads_by (plan_of s) s.rings x

-- ---- labels keep to their ways, and follow

abbrev pub way_on : Side → List ℕ → List ℕ
way_on Client cores = cores
way_on Server cores = reverse cores

-- the way of an end's calls goes from one core to the next
pub record Goes (S : ℕ → Option Sight) (a b : ℕ) (e : EndId) : Type 0 where
  pub sight : Sight
  pub there : S e.binding ≡ Some sight
  pub cores : List ℕ
  pub joint : sight.joint ≡ over cores
  pub place : ℕ
  pub near : slice_get (way_on e.side cores) place ≡ Some a
  pub far : slice_get (way_on e.side cores) (suc place) ≡ Some b

abbrev pub MayGo : (ℕ → Option Sight) → ℕ → ℕ → Label → Type 0
MayGo S a b (next_of e k) = Goes S a b e
MayGo S a b label = Unit {0}

-- what may stand before a reader
abbrev pub Suits : (ℕ → Option Sight) → Owner → Label → Type 0
Suits S (core_to b a) label = MayGo S a b label
Suits S (this_end f) label = MayStandFrom (peer f) label

abbrev pub queue_at : (ℕ → Option Sight) → EndId → List Label
queue_at S e = given (S e.binding) [] λ x. (flow_in e.side x).queue

abbrev pub before : (Owner → List Label) → (ℕ → Option Sight) → EndId → Joint → ℕ → List Label
before R S e by_queue j = queue_at S (peer e)
before R S e by_one_ring j = R (this_end (peer e))
before R S e (over cores) j =
    if j == length (way_on e.side cores) then queue_at S (peer e)
    else R (core_to (slice_index (way_on e.side cores) j) (slice_index (way_on e.side cores) (j - 1)))

pub record Good (R : Owner → List Label) (S : ℕ → Option Sight) : Type 0 where
  pub reads : (x : Owner) → Each (Suits S x) (R x)
  pub queues : (e : EndId) → Each (IsOf (peer e)) (queue_at S e)
  pub follows : (e : EndId) (x : Sight) → S e.binding ≡ Some x → Follows (λ j. picked e (before R S e x.joint j)) (flow_in e.side x).passed

-- ---- a label is put on a ring, or taken

push_labels : (ls : List RingLabel) (l : RingLabel) → labels_of (ls ++ l ∷ []) ≡ labels_of ls ++ l.label ∷ []
push_labels ls l = map-append (λ (x : RingLabel). x.label) ls (l ∷ [])

drop_labels : (ls : List RingLabel) → labels_of (drop 1 ls) ≡ drop 1 (labels_of ls)
drop_labels [] = refl
drop_labels (l ∷ ls) = refl

abbrev read_labels : RingSide → Ring → List Label
read_labels side r = labels_of (read_by side r).waiting

side_or : (a b : RingSide) → (a ≡ b) ⊎ (a ≡ opposite b)
side_or first_side first_side = inl refl
side_or first_side second_side = inr refl
side_or second_side first_side = inr refl
side_or second_side second_side = inl refl

put_same : (side : RingSide) (l : Label) (r : Ring) → read_labels side (puts side l r) ≡ read_labels side r
put_same first_side l r = refl
put_same second_side l r = refl

put_opposite : (side : RingSide) (l : Label) (r : Ring) → read_labels (opposite side) (puts side l r) ≡ read_labels (opposite side) r ++ l ∷ []
put_opposite first_side l r = push_labels r.by_first.waiting _
put_opposite second_side l r = push_labels r.by_second.waiting _

take_same : (side : RingSide) (r : Ring) → read_labels side (takes side r) ≡ drop 1 (read_labels side r)
take_same first_side r = drop_labels r.by_second.waiting
take_same second_side r = drop_labels r.by_first.waiting

take_opposite : (side : RingSide) (r : Ring) → read_labels (opposite side) (takes side r) ≡ read_labels (opposite side) r
take_opposite first_side r = refl
take_opposite second_side r = refl

abbrev end_on : ℕ → RingSide → RingEnd
end_on n side = record { ring = n; side = side }

same_ends : (a b : RingEnd) → a.ring ≡ b.ring → a.side ≡ b.side → a ≡ b
same_ends a b p q = ap (λ n. end_on n a.side) p ∙ ap (end_on b.ring) q

-- what a change of a ring makes of what stands before one of its sides
changed_at_end : (rs : List Ring) (n : ℕ) (f : Ring → Ring) (side : RingSide) (g : List Label → List Label) → g [] ≡ []
    → ((r : Ring) → read_labels side (f r) ≡ g (read_labels side r)) → labels_at (changed_at n f rs) (end_on n side) ≡ g (labels_at rs (end_on n side))
changed_at_end rs n f side g e h = ap (λ o. given o [] (read_labels side)) (changed_same rs n f) ∙ by (slice_get rs n)
  where
    by : (o : Option Ring) → given (option_map f o) [] (read_labels side) ≡ g (given o [] (read_labels side))
    by None = sym e
    by (Some r) = h r

changed_there : (rs : List Ring) (n : ℕ) (f : Ring → Ring) (side : RingSide) (g : List Label → List Label) → n < length rs
    → ((r : Ring) → read_labels side (f r) ≡ g (read_labels side r)) → labels_at (changed_at n f rs) (end_on n side) ≡ g (labels_at rs (end_on n side))
changed_there rs n f side g w h =
    let (r, q) = at_within rs n w in
    ap (λ o. given o [] (read_labels side)) (changed_same rs n f ∙ ap (option_map f) q) ∙ h r ∙ ap g (sym (ap (λ o. given o [] (read_labels side)) q))

changed_away : (rs : List Ring) (n : ℕ) (f : Ring → Ring) (y : RingEnd) → y.ring ≢ n → labels_at (changed_at n f rs) y ≡ labels_at rs y
changed_away rs n f y h = ap (λ o. given o [] (read_labels y.side)) (changed_other rs n y.ring f h)

pub put_here : (rs : List Ring) (at : RingEnd) (l : Label) → at.ring < length rs
    → labels_at (changed_at at.ring (puts at.side l) rs) (turned at) ≡ labels_at rs (turned at) ++ l ∷ []
put_here rs at l w = changed_there rs at.ring (puts at.side l) (opposite at.side) (λ ls. ls ++ l ∷ []) w (put_opposite at.side l)

pub put_else : (rs : List Ring) (at : RingEnd) (l : Label) (y : RingEnd) → y ≢ turned at → labels_at (changed_at at.ring (puts at.side l) rs) y ≡ labels_at rs y
put_else rs at l y h = elim (same_or y.ring at.ring) [
  | inr d ↦ changed_away rs at.ring (puts at.side l) y d
  | inl d ↦ elim (side_or y.side at.side) [
    | inr e ↦ absurd (h (same_ends y (turned at) d e))
    | inl e ↦ subst (λ z. labels_at (changed_at at.ring (puts at.side l) rs) z ≡ labels_at rs z) (sym (same_ends y at d e))
        (changed_at_end rs at.ring (puts at.side l) at.side (λ ls. ls) refl (put_same at.side l))
  ]
]

pub take_here : (rs : List Ring) (at : RingEnd) → labels_at (changed_at at.ring (takes at.side) rs) at ≡ drop 1 (labels_at rs at)
take_here rs at = changed_at_end rs at.ring (takes at.side) at.side (drop 1) refl (take_same at.side)

pub take_else : (rs : List Ring) (at y : RingEnd) → y ≢ at → labels_at (changed_at at.ring (takes at.side) rs) y ≡ labels_at rs y
take_else rs at y h = elim (same_or y.ring at.ring) [
  | inr d ↦ changed_away rs at.ring (takes at.side) y d
  | inl d ↦ elim (side_or y.side at.side) [
    | inl e ↦ absurd (h (same_ends y at d e))
    | inr e ↦ subst (λ z. labels_at (changed_at at.ring (takes at.side) rs) z ≡ labels_at rs z) (sym (same_ends y (turned at) d e))
        (changed_at_end rs at.ring (takes at.side) (opposite at.side) (λ ls. ls) refl (take_opposite at.side))
  ]
]

not_turned : (side : RingSide) → side ≡ opposite side → ⊥
not_turned first_side e = absurd (cc)
not_turned second_side e = absurd (cc)

pub end_or : (x y : RingEnd) → (x ≡ y) ⊎ (x ≢ y)
end_or x y = elim (same_or x.ring y.ring) [
  | inr d ↦ inr (λ e. d (ap (λ (z : RingEnd). z.ring) e))
  | inl d ↦ elim (side_or x.side y.side) [
    | inl e ↦ inl (same_ends x y d e)
    | inr e ↦ inr (λ f. not_turned y.side (sym (ap (λ (z : RingEnd). z.side) f) ∙ e))
  ]
]
