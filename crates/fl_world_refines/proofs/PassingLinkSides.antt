-- A core's end of a link to a neighbour: what the machine finds of it, a world that shows the state finds.
use Rattle.std.proofs.Common.{◌≡◌, refl, sym, ◌∙◌, ap, subst, ℕ, zero, suc, ◌+◌, ◌*◌, ◌/◌, ◌%◌, ◌<◌, ◌≤◌, ◌==◌, nat_lt, Bool, true, false, if◌then◌else◌, List, [], ◌∷◌, length, map, slice_get, Option, Some, None, arith}
use Rattle.std.proofs.lemmas.Option.{slice_get_within}
use Rattle.fl_base.specs.Given.{given}
use Rattle.fl_hop.specs.Table.{TheCircuits, link_of}
use Rattle.fl_ring.specs.declared.one_duo.WhichSide.{WhichSide}
use Rattle.fl_core.specs.declared.wiring.LinkSide.{LinkSide as CoreLinkSide}
use Rattle.fl_core.specs.View.{TheCore, side_of_link}
use Rattle.fl_model.specs.Rings.{RingSide, first_side, second_side, RingEnd}
use Rattle.fl_model.specs.Monitors.{Link, Core, link_to}
use Rattle.fl_model.specs.State.{State, core_of, link_between}
use Rattle.fl_model.specs.Forwarding.{LinkEnd, link_end}
use Rattle.fl_world_refines.specs.Rings.{which_of}
use Rattle.fl_world_refines.proofs.Tests.{lt_true, either}
use Rattle.fl_world_refines.specs.View.{Given, TheWorld, side_number, ring_at, side_in, side_at, which_at}
use Rattle.fl_world_refines.specs.ShowsState.{link_side_of, CoreShows, Shows}
use Rattle.fl_world_refines.specs.Linking.{LinkNumbers, link_side_to}

-- ---- lists of one length

pub none_too : {X Y : Type 0} (xs : List X) (ys : List Y) (n : ℕ) → length xs ≡ length ys → slice_get ys n ≡ None → slice_get xs n ≡ None
none_too [] ys n e h = refl
none_too (x ∷ xs) [] n e h = absurd (let q : length (x ∷ xs) ≡ 0 = e in omega arith)
none_too (x ∷ xs) (y ∷ ys) zero e h = absurd (cc)
none_too (x ∷ xs) (y ∷ ys) (suc n) e h = none_too xs ys n (let q : length (x ∷ xs) ≡ length (y ∷ ys) = e in omega arith) h

pub some_too : {X Y : Type 0} (xs : List X) (ys : List Y) (n : ℕ) (y : Y) → length xs ≡ length ys → slice_get ys n ≡ Some y
    → (x : X) × (slice_get xs n ≡ Some x)
some_too xs [] n y e h = absurd (cc)
some_too [] (z ∷ ys) n y e h = absurd (let q : 0 ≡ length (z ∷ ys) = e in omega arith)
some_too (x ∷ xs) (z ∷ ys) zero y e h = (x, refl)
some_too (x ∷ xs) (z ∷ ys) (suc n) y e h = some_too xs ys n y (let q : length (x ∷ xs) ≡ length (z ∷ ys) = e in omega arith) h

pub mapped_get : {X Y : Type 0} (f : X → Y) (xs : List X) (n : ℕ) (x : X) → slice_get xs n ≡ Some x → slice_get (map f xs) n ≡ Some (f x)
mapped_get f [] n x h = absurd (cc)
mapped_get {X} {Y} f (y ∷ xs) zero x h = let e : y ≡ x = cc in ap (λ (z : X). Some (f z)) e
mapped_get f (y ∷ xs) (suc n) x h = mapped_get f xs n x h

mapped_none : {X Y : Type 0} (f : X → Y) (xs : List X) (n : ℕ) → slice_get xs n ≡ None → slice_get (map f xs) n ≡ None
mapped_none f [] n h = refl
mapped_none f (y ∷ xs) zero h = absurd (cc)
mapped_none f (y ∷ xs) (suc n) h = mapped_none f xs n h

-- ---- what is to be shown, by cases

pub given_none : {X : Type 0} (o : Option X) (A : Type 0) (B : X → Type 0) → o ≡ None → Given o A B → A
given_none {X} o A B q h = subst (λ (p : Option X). Given p A B) q h

pub given_some : {X : Type 0} (o : Option X) (A : Type 0) (B : X → Type 0) (x : X) → o ≡ Some x → Given o A B → B x
given_some {X} o A B x q h = subst (λ (p : Option X). Given p A B) q h

-- ---- the number of a side

even_half : (n : ℕ) (side : RingSide) → side_number (record { ring = n; side = side }) / 2 ≡ n
even_half n first_side = let e : (2 * n + 0) / 2 ≡ n = omega arith in e
even_half n second_side = let e : (2 * n + 1) / 2 ≡ n = omega arith in e

side_half : (n : ℕ) (side : RingSide) → side_in (side_number (record { ring = n; side = side })) ≡ side
side_half n first_side = let e : (2 * n + 0) % 2 ≡ 0 = omega arith in ap (λ (m : ℕ). if m == 0 then first_side else second_side) e
side_half n second_side = let e : (2 * n + 1) % 2 ≡ 1 = omega arith in ap (λ (m : ℕ). if m == 0 then first_side else second_side) e

pub ring_of_number : (at : RingEnd) → ring_at (side_number at) ≡ at.ring
ring_of_number at = even_half at.ring at.side

pub which_of_number : (at : RingEnd) → which_at (side_number at) ≡ which_of at.side
which_of_number at = ap which_of (side_half at.ring at.side)

pub side_of_number : (at : RingEnd) → side_at (side_number at) ≡ at
side_of_number at =
    ap (λ (n : ℕ). record { ring = n; side = side_in (side_number at) }) (even_half at.ring at.side)
    ∙ ap (λ (side : RingSide). record { ring = at.ring; side = side }) (side_half at.ring at.side)

-- ---- a core's end of a link

-- the link of a core to a neighbour is its link l, in a state and in a world
pub record LinkedTo (w : TheWorld) (s : State) (core neighbour l : ℕ) (link : Link) : Type 0 where
  pub k : Core
  pub k_is : core_of s core ≡ Some k
  pub to : link_to neighbour k ≡ Some l
  pub link_is : slice_get k.links l ≡ Some link
  pub c : TheCore
  pub c_is : slice_get w.cores core ≡ Some c
  pub shows : CoreShows k c

abbrev pub end_at : ℕ → ℕ → ℕ → Link → LinkEnd
end_at core neighbour l link = record { core = core; neighbour = neighbour; link = l; ring = link.ring }

abbrev pub link_side_at : ℕ → Link → LinkNumbers
link_side_at l link = record { link = l; side = side_number link.ring }

pub data LinkSides (w : TheWorld) (s : State) (core neighbour : ℕ) : Type 0 where
  no_link_side : link_side_to w core neighbour ≡ None → link_end core neighbour s ≡ None → link_between s core neighbour ≡ None → LinkSides w s core neighbour
  one_link_side : (l : ℕ) (link : Link) → link_side_to w core neighbour ≡ Some (link_side_at l link) → LinkedTo w s core neighbour l link → LinkSides w s core neighbour

pub its_end : (w : TheWorld) (s : State) (core neighbour l : ℕ) (link : Link) → LinkedTo w s core neighbour l link
    → link_end core neighbour s ≡ Some (end_at core neighbour l link)
its_end w s core neighbour l link t =
    ap (λ (o : Option Core). given o None λ k. given (link_to neighbour k) None λ m. given (slice_get k.links m) None λ x. Some (end_at core neighbour m x)) t.k_is
    ∙ ap (λ (o : Option ℕ). given o None λ m. given (slice_get t.k.links m) None λ x. Some (end_at core neighbour m x)) t.to
    ∙ ap (λ (o : Option Link). given o None λ x. Some (end_at core neighbour l x)) t.link_is

pub its_between : (w : TheWorld) (s : State) (core neighbour l : ℕ) (link : Link) → LinkedTo w s core neighbour l link
    → link_between s core neighbour ≡ Some link
its_between w s core neighbour l link t =
    ap (λ (o : Option Core). given o None λ k. given (link_to neighbour k) None λ m. slice_get k.links m) t.k_is
    ∙ ap (λ (o : Option ℕ). given o None λ m. slice_get t.k.links m) t.to
    ∙ t.link_is

-- what a core's link sides say of its link l
pub link_side_side : (k : Core) (c : TheCore) (l : ℕ) (link : Link) → CoreShows k c → slice_get k.links l ≡ Some link
    → side_of_link c.link_sides l ≡ Some (side_number link.ring)
link_side_side k c l link h q =
    ap (λ (ls : List CoreLinkSide). side_of_link ls l) h.link_sides
    ∙ ap (λ (o : Option CoreLinkSide). given o None λ link_side. Some link_side.side) (mapped_get link_side_of k.links l link q)

no_link_side_side : (k : Core) (c : TheCore) (l : ℕ) → CoreShows k c → slice_get k.links l ≡ None → side_of_link c.link_sides l ≡ None
no_link_side_side k c l h q =
    ap (λ (ls : List CoreLinkSide). side_of_link ls l) h.link_sides
    ∙ ap (λ (o : Option CoreLinkSide). given o None λ link_side. Some link_side.side) (mapped_none link_side_of k.links l q)

-- a link side by the place of the link, and by the core
abbrev link_side_by : TheCore → ℕ → Option LinkNumbers
link_side_by c l = given (side_of_link c.link_sides l) None λ m. Some (record { link = l; side = m })

abbrev link_side_in : ℕ → TheCore → Option LinkNumbers
link_side_in neighbour c = given (link_of c.monitor.circuits neighbour) None (link_side_by c)

no_link_side_by : (w : TheWorld) (core neighbour : ℕ) → given (slice_get w.cores core) None (link_side_in neighbour) ≡ None → link_side_to w core neighbour ≡ None
no_link_side_by w core neighbour h =
    either (λ (o : Option LinkNumbers). o ≡ None) (nat_lt neighbour 256) _ None (λ q. h) (λ q. refl)

module _ (w : TheWorld) (s : State) (shows : Shows w s) (core neighbour : ℕ) where
  within : (link : Link) → link_between s core neighbour ≡ Some link → neighbour < 256
  within link q =
      let back = (shows.sound.links core neighbour link q).back_is in
      by (core_of s neighbour) refl back
    where
      by : (o : Option Core) → core_of s neighbour ≡ o → given o None (λ k. given (link_to core k) None λ l. slice_get k.links l) ≡ Some (shows.sound.links core neighbour link q).back
          → neighbour < 256
      by None e h = absurd (cc)
      by (Some k) e h =
          let less : neighbour < length s.cores = slice_get_within s.cores neighbour k e in
          let few : length s.cores ≤ 16 = shows.sound.few_cores in
          omega arith

  circuits : (k : Core) (c : TheCore) → CoreShows k c → link_of c.monitor.circuits neighbour ≡ link_to neighbour k
  circuits k c h = ap (λ (t : TheCircuits). link_of t neighbour) h.monitor.circuits

  found : (k : Core) (c : TheCore) (l : ℕ) (o : Option Link) → core_of s core ≡ Some k → slice_get w.cores core ≡ Some c → CoreShows k c → link_to neighbour k ≡ Some l
      → slice_get k.links l ≡ o → LinkSides w s core neighbour
  found k c l None at there h to q =
      no_link_side
      (no_link_side_by w core neighbour
      (ap (λ (o : Option TheCore). given o None (link_side_in neighbour)) there
      ∙ ap (λ (o : Option ℕ). given o None (link_side_by c)) (circuits k c h ∙ to)
      ∙ ap (λ (o : Option ℕ). given o None λ m. Some (record { link = l; side = m })) (no_link_side_side k c l h q)))
      (ap (λ (o : Option Core). given o None λ j. given (link_to neighbour j) None λ m. given (slice_get j.links m) None λ x. Some (end_at core neighbour m x)) at
      ∙ ap (λ (o : Option ℕ). given o None λ m. given (slice_get k.links m) None λ x. Some (end_at core neighbour m x)) to
      ∙ ap (λ (o : Option Link). given o None λ x. Some (end_at core neighbour l x)) q)
      (ap (λ (o : Option Core). given o None λ j. given (link_to neighbour j) None λ m. slice_get j.links m) at
      ∙ ap (λ (o : Option ℕ). given o None λ m. slice_get k.links m) to
      ∙ q)
  found k c l (Some link) at there h to q =
      let t : LinkedTo w s core neighbour l link = record { k = k; k_is = at; to = to; link_is = q; c = c; c_is = there; shows = h } in
      let less : neighbour < 256 = within link (its_between w s core neighbour l link t) in
      one_link_side l link
      (ap (λ (b : Bool). if b then given (slice_get w.cores core) None (link_side_in neighbour) else None) (lt_true neighbour 256 less)
      ∙ ap (λ (o : Option TheCore). given o None (link_side_in neighbour)) there
      ∙ ap (λ (o : Option ℕ). given o None (link_side_by c)) (circuits k c h ∙ to)
      ∙ ap (λ (o : Option ℕ). given o None λ m. Some (record { link = l; side = m })) (link_side_side k c l link h q))
      t

  at_core : (k : Core) (c : TheCore) (o : Option ℕ) → core_of s core ≡ Some k → slice_get w.cores core ≡ Some c → CoreShows k c → link_to neighbour k ≡ o → LinkSides w s core neighbour
  at_core k c None at there h to =
      no_link_side
      (no_link_side_by w core neighbour
      (ap (λ (o : Option TheCore). given o None (link_side_in neighbour)) there ∙ ap (λ (o : Option ℕ). given o None (link_side_by c)) (circuits k c h ∙ to)))
      (ap (λ (o : Option Core). given o None λ j. given (link_to neighbour j) None λ m. given (slice_get j.links m) None λ x. Some (end_at core neighbour m x)) at
      ∙ ap (λ (o : Option ℕ). given o None λ m. given (slice_get k.links m) None λ x. Some (end_at core neighbour m x)) to)
      (ap (λ (o : Option Core). given o None λ j. given (link_to neighbour j) None λ m. slice_get j.links m) at
      ∙ ap (λ (o : Option ℕ). given o None λ m. slice_get k.links m) to)
  at_core k c (Some l) at there h to = found k c l (slice_get k.links l) at there h to refl

  by_core : (o : Option Core) → core_of s core ≡ o → LinkSides w s core neighbour
  by_core None at =
      no_link_side
      (no_link_side_by w core neighbour (ap (λ (o : Option TheCore). given o None (link_side_in neighbour)) (none_too w.cores s.cores core shows.showing.cores.count at)))
      (ap (λ (o : Option Core). given o None λ j. given (link_to neighbour j) None λ m. given (slice_get j.links m) None λ x. Some (end_at core neighbour m x)) at)
      (ap (λ (o : Option Core). given o None λ j. given (link_to neighbour j) None λ m. slice_get j.links m) at)
  by_core (Some k) at =
      let (c, there) = some_too w.cores s.cores core k shows.showing.cores.count at in
      at_core k c (link_to neighbour k) at there (shows.showing.cores.each core k c at there) refl

  pub link_sides : LinkSides w s core neighbour
  link_sides = by_core (core_of s core) refl
