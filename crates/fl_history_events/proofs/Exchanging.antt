-- Two neighbouring steps by different sides change places.
use Rattle.std.proofs.Common.{ℕ, ◌≡◌, ◌≢◌, List, set, ap, subst, ◌∙◌, sym, refl, arith, length-set, set-set}
use lib.Seq.{set_comm}
use mathlib.Core.Logic.{dite}
use mathlib.Core.Option.{some}
use native.Mathlib.Decide.{ℕ_discrete}
use lib.ListN.{get_elem?}
use Rattle.atomic_table.proofs.Lists.{set_here, set_else}
use Rattle.fl_history_rings.specs.declared.board.Action.{Action}
use Rattle.fl_history_rings.specs.declared.board.Entry.{Entry}
use Rattle.fl_history_rings.specs.declared.board.SideEnd.{SideEnd}
use Rattle.fl_history_rings.specs.Rings.{mate, Way, Goes, entry}
use Rattle.fl_history_rings.proofs.Logs.{within, same_there}
use Rattle.fl_history_rings.proofs.Words.{mate_back, mate_apart}
use Rattle.fl_history_events.proofs.Ways.{put_to, taken_by, Finds, does_finds, finds_does, MayChange, second_first, first_second, same_mine, same_theirs}

-- ---- how the ways stand after a step

module _ (ends : List SideEnd) (before after : List Way) (e : Entry) (goes : Goes ends before e after) where
  abbrev s : ℕ
  s = e.side

  abbrev mid : List Way
  mid = set before s goes.mine_left

  pub mine_after : get_elem? after s ≡ some goes.mine_left
  mine_after =
      subst (λ (l : List Way). get_elem? l s ≡ some goes.mine_left) (sym goes.leaves)
      (set_else mid (mate s) s goes.theirs_left (λ d. mate_apart s (sym d)) ∙ set_here before s goes.mine_left (within before s goes.mine goes.stood))

  pub theirs_after : get_elem? after (mate s) ≡ some goes.theirs_left
  theirs_after =
      subst (λ (l : List Way). get_elem? l (mate s) ≡ some goes.theirs_left) (sym goes.leaves)
      (set_here mid (mate s) goes.theirs_left (let far = within before (mate s) goes.theirs goes.stood_back in omega (arith, far, length-set before s goes.mine_left)))

  pub else_after : (w : ℕ) → w ≢ s → w ≢ mate s → get_elem? after w ≡ get_elem? before w
  else_after w ne away =
      subst (λ (l : List Way). get_elem? l w ≡ get_elem? before w) (sym goes.leaves)
      (set_else mid (mate s) w goes.theirs_left away ∙ set_else before s w goes.mine_left ne)

-- ---- lists that are changed at some places, in another order

module _ (a : List Way) (s t : ℕ) (apart : s ≢ t) where
  apart_back : t ≢ s
  apart_back = λ d. apart (sym d)

  both_in_turn : (p p' q q' : Way) → set (set (set (set a s p) t q) t q') s p' ≡ set (set a s p') t q'
  both_in_turn p p' q q' =
      ap (λ (l : List Way). set l s p') (set-set (set a s p) t q q')
      ∙ set_comm (set a s p) t s q' p' apart_back
      ∙ ap (λ (l : List Way). set l t q') (set-set a s p p')

  pub both_orders : (p p' r q q' z : Way) → set (set (set (set a s p) t q) t q') s p' ≡ set (set (set (set a t z) s r) s p') t q'
  both_orders p p' r q q' z =
      both_in_turn p p' q q'
      ∙ sym (ap (λ (l : List Way). set l t q') (set-set (set a t z) s r p')
      ∙ set_comm (set a t z) s t p' q' apart
      ∙ ap (λ (l : List Way). set l s p') (set-set a t z q')
      ∙ set_comm a t s q' p' apart_back)

four_places : (a : List Way) (s u t v : ℕ) (p q y z : Way) → u ≢ t → s ≢ t → u ≢ v → s ≢ v
    → set (set (set (set a s p) u q) t y) v z ≡ set (set (set (set a t y) v z) s p) u q
four_places a s u t v p q y z ut st uv sv =
    ap (λ (l : List Way). set l v z) (set_comm (set a s p) u t q y ut)
    ∙ ap (λ (l : List Way). set (set l u q) v z) (set_comm a s t p y st)
    ∙ set_comm (set (set a t y) s p) u v q z uv
    ∙ ap (λ (l : List Way). set l u q) (set_comm (set a t y) s v p z sv)

-- ---- by the two sides of one ring

abbrev pub Exchanged : List SideEnd → List Way → List Way → Entry → Entry → Type 0
Exchanged ends a c e f = (m : List Way) × Goes ends a f m × Goes ends m e c

module _ (ends : List SideEnd) (a b c : List Way) (s i j : ℕ) (d g : Action)
    (first : Goes ends a (entry i s d) b) (second : Goes ends b (entry j (mate s) g) c) where
  abbrev t : ℕ
  t = mate s

  abbrev p : Way
  p = first.mine

  abbrev q : Way
  q = first.theirs

  one : Finds first.end.slots p q d × (first.mine_left ≡ put_to d p) × (first.theirs_left ≡ taken_by d q)
  one = does_finds first.end.slots p q d first.mine_left first.theirs_left first.does

  two : Finds second.end.slots second.mine second.theirs g × (second.mine_left ≡ put_to g second.mine) × (second.theirs_left ≡ taken_by g second.theirs)
  two = does_finds second.end.slots second.mine second.theirs g second.mine_left second.theirs_left second.does

  -- the second finds what the first left
  mine_is : second.mine ≡ taken_by d q
  mine_is = same_there b t second.mine first.theirs_left second.stood (theirs_after ends a b (entry i s d) first) ∙ one.2

  theirs_is : second.theirs ≡ put_to d p
  theirs_is =
      same_there b s second.theirs first.mine_left (subst (λ (x : ℕ). get_elem? b x ≡ some second.theirs) (mate_back s) second.stood_back) (mine_after ends a b (entry i s d) first)
      ∙ one.1

  finds : Finds second.end.slots (taken_by d q) (put_to d p) g
  finds =
      subst (λ (x : Way). Finds second.end.slots x (put_to d p) g) mine_is
      (subst (λ (x : Way). Finds second.end.slots second.mine x g) theirs_is two.0)

  abbrev m : List Way
  m = set (set a t (put_to g q)) (mate t) (taken_by g p)

  stood_back_first : get_elem? a (mate t) ≡ some p
  stood_back_first = subst (λ (x : ℕ). get_elem? a x ≡ some p) (sym (mate_back s)) first.stood

  leaves_is : c ≡ set (set (set (set a s first.mine_left) t first.theirs_left) t second.mine_left) s second.theirs_left
  leaves_is =
      subst (λ (x : ℕ). c ≡ set (set b t second.mine_left) x second.theirs_left) (mate_back s) second.leaves
      ∙ ap (λ (l : List Way). set (set l t second.mine_left) s second.theirs_left) first.leaves

  module _ (may : MayChange p.waiting d g) where
    goes_first : Goes ends a (entry j t g) m
    goes_first = record {
      end = second.end;
      mine = q;
      theirs = p;
      mine_left = put_to g q;
      theirs_left = taken_by g p;
      there = second.there;
      stood = first.stood_back;
      stood_back = stood_back_first;
      does = finds_does second.end.slots q p g (second_first first.end.slots second.end.slots p q d g may one.0 finds);
      leaves = refl;
    }

    mine_left_is : second.theirs_left ≡ put_to d (taken_by g p)
    mine_left_is = two.2 ∙ ap (λ (x : Way). taken_by g x) theirs_is ∙ same_mine first.end.slots second.end.slots p q d g may

    theirs_left_is : second.mine_left ≡ taken_by d (put_to g q)
    theirs_left_is = two.1 ∙ ap (λ (x : Way). put_to g x) mine_is ∙ same_theirs first.end.slots second.end.slots p q g d one.0

    m_is : m ≡ set (set a t (put_to g q)) s (taken_by g p)
    m_is = ap (λ (x : ℕ). set (set a t (put_to g q)) x (taken_by g p)) (mate_back s)

    goes_second : Goes ends m (entry i s d) c
    unfolding goes_first
    goes_second = record {
      end = first.end;
      mine = taken_by g p;
      theirs = put_to g q;
      mine_left = put_to d (taken_by g p);
      theirs_left = taken_by d (put_to g q);
      there = first.there;
      stood = subst (λ (x : ℕ). get_elem? m x ≡ some (taken_by g p)) (mate_back s) (theirs_after ends a m (entry j t g) goes_first);
      stood_back = mine_after ends a m (entry j t g) goes_first;
      does = finds_does first.end.slots (taken_by g p) (put_to g q) d (first_second first.end.slots second.end.slots p q d g may one.0);
      leaves =
          leaves_is
          ∙ both_orders a s t (λ e. mate_apart s (sym e)) first.mine_left second.theirs_left (taken_by g p) first.theirs_left second.mine_left (put_to g q)
          ∙ ap (λ (l : List Way). set (set l s second.theirs_left) t second.mine_left) (sym m_is)
          ∙ ap (λ (x : Way). set (set m s x) t second.mine_left) mine_left_is
          ∙ ap (λ (x : Way). set (set m s (put_to d (taken_by g p))) t x) theirs_left_is;
    }

    facing : Exchanged ends a c (entry i s d) (entry j t g)
    facing = (m, goes_first, goes_second)

-- ---- by sides of two rings

module _ (ends : List SideEnd) (a b c : List Way) (e f : Entry) (first : Goes ends a e b) (second : Goes ends b f c) (ne : f.side ≢ e.side) where
  module _ (far : f.side ≢ mate e.side) where
    back_ne : mate f.side ≢ e.side
    back_ne = λ d. far (sym (mate_back f.side) ∙ ap mate d)

    back_far : mate f.side ≢ mate e.side
    back_far = λ d. ne (sym (mate_back f.side) ∙ ap mate d ∙ mate_back e.side)

    abbrev between : List Way
    between = set (set a f.side second.mine_left) (mate f.side) second.theirs_left

    far_first : Goes ends a f between
    far_first = record {
      end = second.end;
      mine = second.mine;
      theirs = second.theirs;
      mine_left = second.mine_left;
      theirs_left = second.theirs_left;
      there = second.there;
      stood = sym (else_after ends a b e first f.side ne far) ∙ second.stood;
      stood_back = sym (else_after ends a b e first (mate f.side) back_ne back_far) ∙ second.stood_back;
      does = second.does;
      leaves = refl;
    }

    far_second : Goes ends between e c
    far_second = record {
      end = first.end;
      mine = first.mine;
      theirs = first.theirs;
      mine_left = first.mine_left;
      theirs_left = first.theirs_left;
      there = first.there;
      stood = else_after ends a between f far_first e.side (λ d. ne (sym d)) (λ d. back_ne (sym d)) ∙ first.stood;
      stood_back = else_after ends a between f far_first (mate e.side) (λ d. far (sym d)) (λ d. back_far (sym d)) ∙ first.stood_back;
      does = first.does;
      leaves =
          second.leaves
          ∙ ap (λ (l : List Way). set (set l f.side second.mine_left) (mate f.side) second.theirs_left) first.leaves
          ∙ four_places a e.side (mate e.side) f.side (mate f.side) first.mine_left first.theirs_left second.mine_left second.theirs_left
          (λ d. far (sym d)) (λ d. ne (sym d)) (λ d. back_far (sym d)) (λ d. back_ne (sym d));
    }

  near : f.side ≡ mate e.side → (f.side ≡ mate e.side → MayChange first.mine.waiting e.action f.action) → Exchanged ends a c e f
  near is may =
      let same : f ≡ entry f.core (mate e.side) f.action = ap (λ (x : ℕ). entry f.core x f.action) is in
      subst (λ (z : Entry). Exchanged ends a c e z) (sym same)
      (facing ends a b c e.side e.core f.core e.action f.action first (subst (λ (z : Entry). Goes ends b z c) same second) (may is))

  -- They change places, where they may if they are by the two sides of one ring.
  pub exchanged : (f.side ≡ mate e.side → MayChange first.mine.waiting e.action f.action) → Exchanged ends a c e f
  exchanged may =
      dite (ℕ_discrete f.side (mate e.side))
      (λ is. near is may)
      (λ far. (between far, far_first far, far_second far))
