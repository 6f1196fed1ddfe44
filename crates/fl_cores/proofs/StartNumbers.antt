-- A core whose sides and queues have other numbers: what was known of it before, and that its sides and queues are still apart.
use Rattle.std.proofs.Common.{◌≡◌, inl, inr, refl, sym, ap, ◌∙◌, ℕ, zero, suc, List, [], ◌∷◌, map, slice_get, Option, Some, None, arith}
use Rattle.std.proofs.lemmas.List.{length-map}
use Rattle.fl_base.specs.declared.identity.EndId.{EndId}
use Rattle.fl_base.specs.Given.{given}
use Rattle.fl_core.specs.declared.kind.ChannelKind.{ChannelKind}
use Rattle.fl_core.specs.declared.wiring.EndWiring.{EndWiring}
use Rattle.fl_core.specs.declared.wiring.EndWiring.TheVariants.{Queues, Ring, Circuit}
use Rattle.fl_core.specs.declared.wiring.WiredEnd.{WiredEnd}
use Rattle.fl_core.specs.declared.wiring.LinkSide.{LinkSide}
use Rattle.fl_core.specs.View.{TheCore, kind_of, arrivals_by, place_of, side_of_link}
use Rattle.fl_core.specs.Sound.{IsCore, IsWired, kinds_wired}
use Rattle.fl_core.specs.Numbers.{moved, moved_link_side, moved_wiring, moved_wired_end, renumbered}
use Rattle.fl_core.proofs.Numbering.{came_from, goes_to}
use Rattle.fl_core_run_laws.specs.Flows.{IsApart}
use Rattle.fl_world_refines.specs.ShowsState.{wiring_of, NamesQueue, NamesSide}

-- ---- wires

same_kind : (sides queues : List ℕ) (w : EndWiring) → kind_of (moved_wiring sides queues w) ≡ kind_of w
same_kind sides queues (Queues out from) = refl
same_kind sides queues (Ring side) = refl
same_kind sides queues (Circuit link arrivals) = refl

same_arrivals : (sides queues : List ℕ) (w : EndWiring) → arrivals_by (moved_wiring sides queues w) ≡ arrivals_by w
same_arrivals sides queues (Queues out from) = refl
same_arrivals sides queues (Ring side) = refl
same_arrivals sides queues (Circuit link arrivals) = refl

same_kinds : (sides queues : List ℕ) (wired_ends : List WiredEnd) → kinds_wired (map (moved_wired_end sides queues) wired_ends) ≡ kinds_wired wired_ends
same_kinds sides queues [] = refl
same_kinds sides queues (p ∷ wired_ends) =
    ap (λ (kind : ChannelKind). kind ∷ kinds_wired (map (moved_wired_end sides queues) wired_ends)) (same_kind sides queues p.wiring)
    ∙ ap (λ (kinds : List ChannelKind). kind_of p.wiring ∷ kinds) (same_kinds sides queues wired_ends)

was_wired : (sides queues : List ℕ) (k : TheCore) (w : EndWiring) → IsWired (renumbered sides queues k) (moved_wiring sides queues w) → IsWired k w
was_wired sides queues k (Queues out from) h = h
was_wired sides queues k (Ring side) h = h
was_wired sides queues k (Circuit link arrivals) h = (omega (arith, h.0, length-map k.link_sides (moved_link_side sides)), h.1)

-- ---- the core before

pub core_before : (sides queues : List ℕ) (k : TheCore) → IsCore (renumbered sides queues k) → IsCore k
core_before sides queues k sound = record {
  kinds = sound.kinds ∙ same_kinds sides queues k.wired_ends;
  link_sides = sym (length-map k.link_sides (moved_link_side sides)) ∙ sound.link_sides;
  slots = sound.slots;
  named = λ e p is. sound.named e (moved_wired_end sides queues p) (goes_to (moved_wired_end sides queues) k.wired_ends e p is);
  placed = λ name e is.
      let it = sound.placed name e is in
      let from = came_from (moved_wired_end sides queues) k.wired_ends e it.wired_end it.wired_end_is in
      record { wired_end = from.first; wired_end_is = from.first_is; name_is = ap (λ (q : WiredEnd). q.name) (sym from.same) ∙ it.name_is };
  wired = λ e p is. was_wired sides queues k p.wiring (sound.wired e (moved_wired_end sides queues p) (goes_to (moved_wired_end sides queues) k.wired_ends e p is));
  apart = λ e f a p q p_is q_is at_e at_f.
      sound.apart e f a (moved_wired_end sides queues p) (moved_wired_end sides queues q)
      (goes_to (moved_wired_end sides queues) k.wired_ends e p p_is) (goes_to (moved_wired_end sides queues) k.wired_ends f q q_is)
      (same_arrivals sides queues p.wiring ∙ at_e) (same_arrivals sides queues q.wiring ∙ at_f);
}

-- ---- which numbers there were

pub link_side_from : (sides : List ℕ) (link_sides : List LinkSide) (l n : ℕ) → side_of_link (map (moved_link_side sides) link_sides) l ≡ Some n
    → (a : ℕ) × (side_of_link link_sides l ≡ Some a) × (moved sides a ≡ n)
link_side_from sides [] l n at = absurd (cc)
link_side_from sides (x ∷ link_sides) zero n at = let to : moved sides x.side ≡ n = cc in (x.side, refl, to)
link_side_from sides (x ∷ link_sides) (suc l) n at = link_side_from sides link_sides l n at

pub link_side_to : (sides : List ℕ) (link_sides : List LinkSide) (l a : ℕ) → side_of_link link_sides l ≡ Some a → side_of_link (map (moved_link_side sides) link_sides) l ≡ Some (moved sides a)
link_side_to sides [] l a at = absurd (cc)
link_side_to sides (x ∷ link_sides) zero a at = let same : x.side ≡ a = cc in ap (λ (n : ℕ). Some (moved sides n)) same
link_side_to sides (x ∷ link_sides) (suc l) a at = link_side_to sides link_sides l a at

ring_from : (sides queues : List ℕ) (w : EndWiring) (n : ℕ) → moved_wiring sides queues w ≡ Ring n → (a : ℕ) × (w ≡ Ring a) × (moved sides a ≡ n)
ring_from sides queues (Queues out from) n is = absurd (cc)
ring_from sides queues (Ring side) n is = let to : moved sides side ≡ n = cc in (side, refl, to)
ring_from sides queues (Circuit link arrivals) n is = absurd (cc)

record FromQueues (queues : List ℕ) (w : EndWiring) (n m : ℕ) : Type 0 where
  pub out : ℕ
  pub from : ℕ
  pub wiring : w ≡ Queues out from
  pub out_to : moved queues out ≡ n
  pub from_to : moved queues from ≡ m

queues_from : (sides queues : List ℕ) (w : EndWiring) (n m : ℕ) → moved_wiring sides queues w ≡ Queues n m → FromQueues queues w n m
queues_from sides queues (Queues out from) n m is = record { out = out; from = from; wiring = refl; out_to = cc; from_to = cc }
queues_from sides queues (Ring side) n m is = absurd (cc)
queues_from sides queues (Circuit link arrivals) n m is = absurd (cc)

pub wiring_at : (k : TheCore) (e : EndId) (place : ℕ) (p : WiredEnd) → place_of k e ≡ Some place → slice_get k.wired_ends place ≡ Some p → wiring_of k e ≡ Some p.wiring
wiring_at k e place p place_is is =
    ap (λ (o : Option ℕ). given o None (λ (n : ℕ). given (slice_get k.wired_ends n) None (λ (q : WiredEnd). Some q.wiring))) place_is
    ∙ ap (λ (o : Option WiredEnd). given o None (λ (q : WiredEnd). Some q.wiring)) is

-- the wired end at a place, as it was
record WasRing (sides : List ℕ) (k : TheCore) (e n : ℕ) : Type 0 where
  pub wired_end : WiredEnd
  pub wired_end_is : slice_get k.wired_ends e ≡ Some wired_end
  pub side : ℕ
  pub wiring : wired_end.wiring ≡ Ring side
  pub to : moved sides side ≡ n
  pub names : NamesSide k side

record WasQueues (queues : List ℕ) (k : TheCore) (e n m : ℕ) : Type 0 where
  pub wired_end : WiredEnd
  pub wired_end_is : slice_get k.wired_ends e ≡ Some wired_end
  pub was : FromQueues queues wired_end.wiring n m
  pub puts : NamesQueue k was.out
  pub takes : NamesQueue k was.from

module _ (sides queues : List ℕ) (k : TheCore) (core : IsCore k) where
  was_ring : (e n : ℕ) (p : WiredEnd) → slice_get (map (moved_wired_end sides queues) k.wired_ends) e ≡ Some p → p.wiring ≡ Ring n → WasRing sides k e n
  was_ring e n p is wiring =
      let from = came_from (moved_wired_end sides queues) k.wired_ends e p is in
      let (a, ring, to) = ring_from sides queues from.first.wiring n (ap (λ (q : WiredEnd). q.wiring) (sym from.same) ∙ wiring) in
      record {
        wired_end = from.first;
        wired_end_is = from.first_is;
        side = a;
        wiring = ring;
        to = to;
        names = inr (from.first.name, wiring_at k from.first.name e from.first (core.named e from.first from.first_is) from.first_is ∙ ap Some ring);
      }

  was_queues : (e n m : ℕ) (p : WiredEnd) → slice_get (map (moved_wired_end sides queues) k.wired_ends) e ≡ Some p → p.wiring ≡ Queues n m → WasQueues queues k e n m
  was_queues e n m p is wiring =
      let from = came_from (moved_wired_end sides queues) k.wired_ends e p is in
      let was = queues_from sides queues from.first.wiring n m (ap (λ (q : WiredEnd). q.wiring) (sym from.same) ∙ wiring) in
      let its : wiring_of k from.first.name ≡ Some (Queues was.out was.from) =
      wiring_at k from.first.name e from.first (core.named e from.first from.first_is) from.first_is ∙ ap Some was.wiring in
      record {
        wired_end = from.first;
        wired_end_is = from.first_is;
        was = was;
        puts = inl (from.first.name, was.from, its);
        takes = inr (from.first.name, was.out, its);
      }

-- ---- still apart

-- of the sides that a core names no two get one number, nor of the queues
pub record NamesApart (sides queues : List ℕ) (k : TheCore) : Type 0 where
  pub sides_apart : (a b : ℕ) → NamesSide k a → NamesSide k b → moved sides a ≡ moved sides b → a ≡ b
  pub queues_apart : (a b : ℕ) → NamesQueue k a → NamesQueue k b → moved queues a ≡ moved queues b → a ≡ b

module _ (sides queues : List ℕ) (k : TheCore) (core : IsCore k) (was : IsApart k) (names : NamesApart sides queues k) where
  link_sides_apart : (l m n : ℕ) → side_of_link (map (moved_link_side sides) k.link_sides) l ≡ Some n → side_of_link (map (moved_link_side sides) k.link_sides) m ≡ Some n → l ≡ m
  link_sides_apart l m n at_l at_m =
      let (a, a_is, a_to) = link_side_from sides k.link_sides l n at_l in
      let (b, b_is, b_to) = link_side_from sides k.link_sides m n at_m in
      let same : b ≡ a = names.sides_apart b a (inl (m, b_is)) (inl (l, a_is)) (b_to ∙ sym a_to) in
      was.link_sides l m a a_is (b_is ∙ ap Some same)

  rings_apart : (l e n : ℕ) (p : WiredEnd) → side_of_link (map (moved_link_side sides) k.link_sides) l ≡ Some n → slice_get (map (moved_wired_end sides queues) k.wired_ends) e ≡ Some p
      → p.wiring ≡ Ring n → ⊥
  rings_apart l e n p at_l is wiring =
      let (a, a_is, a_to) = link_side_from sides k.link_sides l n at_l in
      let r = was_ring sides queues k core e n p is wiring in
      let same : r.side ≡ a = names.sides_apart r.side a r.names (inl (l, a_is)) (r.to ∙ sym a_to) in
      was.rings l e a r.wired_end a_is r.wired_end_is (r.wiring ∙ ap (λ (x : ℕ). Ring x) same)

  ends_apart : (d e n : ℕ) (p q : WiredEnd) → slice_get (map (moved_wired_end sides queues) k.wired_ends) d ≡ Some p → slice_get (map (moved_wired_end sides queues) k.wired_ends) e ≡ Some q
      → p.wiring ≡ Ring n → q.wiring ≡ Ring n → d ≡ e
  ends_apart d e n p q p_is q_is p_wiring q_wiring =
      let r = was_ring sides queues k core d n p p_is p_wiring in
      let s = was_ring sides queues k core e n q q_is q_wiring in
      let same : s.side ≡ r.side = names.sides_apart s.side r.side s.names r.names (s.to ∙ sym r.to) in
      was.ends d e r.side r.wired_end s.wired_end r.wired_end_is s.wired_end_is r.wiring (s.wiring ∙ ap (λ (x : ℕ). Ring x) same)

  puts_apart : (d e n a b : ℕ) (p q : WiredEnd) → slice_get (map (moved_wired_end sides queues) k.wired_ends) d ≡ Some p
      → slice_get (map (moved_wired_end sides queues) k.wired_ends) e ≡ Some q → p.wiring ≡ Queues n a → q.wiring ≡ Queues n b → d ≡ e
  puts_apart d e n a b p q p_is q_is p_wiring q_wiring =
      let r = was_queues sides queues k core d n a p p_is p_wiring in
      let s = was_queues sides queues k core e n b q q_is q_wiring in
      let same : s.was.out ≡ r.was.out = names.queues_apart s.was.out r.was.out s.puts r.puts (s.was.out_to ∙ sym r.was.out_to) in
      was.puts d e r.was.out r.was.from s.was.from r.wired_end s.wired_end r.wired_end_is s.wired_end_is r.was.wiring (s.was.wiring ∙ ap (λ (x : ℕ). Queues x s.was.from) same)

  takes_apart : (d e n a b : ℕ) (p q : WiredEnd) → slice_get (map (moved_wired_end sides queues) k.wired_ends) d ≡ Some p
      → slice_get (map (moved_wired_end sides queues) k.wired_ends) e ≡ Some q → p.wiring ≡ Queues a n → q.wiring ≡ Queues b n → d ≡ e
  takes_apart d e n a b p q p_is q_is p_wiring q_wiring =
      let r = was_queues sides queues k core d a n p p_is p_wiring in
      let s = was_queues sides queues k core e b n q q_is q_wiring in
      let same : s.was.from ≡ r.was.from = names.queues_apart s.was.from r.was.from s.takes r.takes (s.was.from_to ∙ sym r.was.from_to) in
      was.takes d e r.was.from r.was.out s.was.out r.wired_end s.wired_end r.wired_end_is s.wired_end_is r.was.wiring (s.was.wiring ∙ ap (λ (x : ℕ). Queues s.was.out x) same)

  pub apart_moved : IsApart (renumbered sides queues k)
  apart_moved = record { link_sides = link_sides_apart; rings = rings_apart; ends = ends_apart; puts = puts_apart; takes = takes_apart }
