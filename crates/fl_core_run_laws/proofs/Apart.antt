-- Sides that are apart stay so, and links keep theirs.
use Rattle.std.proofs.Common.{◌≡◌, refl, sym, ap, ◌∙◌, ℕ, inl, inr, List, slice_get, Option, Some, None, arith}
use Rattle.std.proofs.lemmas.Option.{slice_get_within}
use Rattle.fl_base.specs.Given.{given}
use Rattle.fl_hop.proofs.Lists.{at_within}
use Rattle.fl_core.specs.View.{TheCore, side_of_link}
use Rattle.fl_core.specs.declared.wiring.LinkSide.{LinkSide}
use Rattle.fl_core.specs.declared.wiring.WiredEnd.{WiredEnd}
use Rattle.fl_core.specs.declared.wiring.EndWiring.{EndWiring}
use Rattle.fl_core.specs.declared.wiring.EndWiring.TheVariants.{Queues, Ring, Circuit}
use Rattle.fl_core_run_laws.specs.Flows.{IsApart}
use Rattle.fl_core_run_laws.proofs.Growing.{IsCircuit, LinkSidesStay, WiredEndsGrow, Grows}

link_side_there : (xs : List LinkSide) (l n : ℕ) (o : Option LinkSide) → slice_get xs l ≡ o → (given o None λ x. Some x.side) ≡ Some n → (link_side : LinkSide) × (slice_get xs l ≡ Some link_side) × (link_side.side ≡ n)
link_side_there xs l n None at is = absurd (cc)
link_side_there xs l n (Some link_side) at is = (link_side, at, let same : link_side.side ≡ n = cc in same)

side_is : (xs : List LinkSide) (l : ℕ) (link_side : LinkSide) → slice_get xs l ≡ Some link_side → side_of_link xs l ≡ Some link_side.side
side_is xs l link_side at = ap (λ (o : Option LinkSide). given o None λ (x : LinkSide). Some x.side) at

-- a link's side of then was its side before
pub side_before : (xs ys : List LinkSide) (l n : ℕ) → LinkSidesStay xs ys → side_of_link ys l ≡ Some n → side_of_link xs l ≡ Some n
side_before xs ys l n stay is =
    let (link_side, at, side) = link_side_there ys l n (slice_get ys l) refl is in
    let (before, stood, same) = stay.1 l link_side at in
    side_is xs l before stood ∙ ap Some (sym same ∙ side)

-- and stays it
pub side_after : (xs ys : List LinkSide) (l n : ℕ) → LinkSidesStay xs ys → side_of_link xs l ≡ Some n → side_of_link ys l ≡ Some n
side_after xs ys l n stay is =
    let (link_side, at, side) = link_side_there xs l n (slice_get xs l) refl is in
    let within = slice_get_within xs l link_side at in
    let many = stay.0 in
    let there = at_within ys l (omega (arith, within, many)) in
    let (before, stood, same) = stay.1 l there.0 there.1 in
    let found : Some before ≡ Some link_side = sym stood ∙ at in
    let one : before ≡ link_side = cc in
    side_is ys l there.0 there.1 ∙ ap Some (same ∙ ap (λ (x : LinkSide). x.side) one ∙ side)

no_circuit : (x : EndWiring) (n : ℕ) → x ≡ Ring n → IsCircuit x → ⊥
no_circuit (Ring m) n is circuit = circuit
no_circuit (Queues a b) n is circuit = circuit
no_circuit (Circuit l a) n is circuit = cc

-- an end on a ring stood there before
ring_before : (xs ys : List WiredEnd) (e n : ℕ) (p : WiredEnd) → WiredEndsGrow xs ys → slice_get ys e ≡ Some p → p.wiring ≡ Ring n → slice_get xs e ≡ Some p
ring_before xs ys e n p grow at is = elim (grow.1 e p at) [
  | inl there ↦ there
  | inr circuit ↦ absurd (no_circuit p.wiring n is circuit)
]

queues_no_circuit : (x : EndWiring) (n a : ℕ) → x ≡ Queues n a → IsCircuit x → ⊥
queues_no_circuit (Ring m) n a is circuit = circuit
queues_no_circuit (Queues o b) n a is circuit = circuit
queues_no_circuit (Circuit l b) n a is circuit = cc

-- so did one on queues
queues_before : (xs ys : List WiredEnd) (e n a : ℕ) (p : WiredEnd) → WiredEndsGrow xs ys → slice_get ys e ≡ Some p → p.wiring ≡ Queues n a → slice_get xs e ≡ Some p
queues_before xs ys e n a p grow at is = elim (grow.1 e p at) [
  | inl there ↦ there
  | inr circuit ↦ absurd (queues_no_circuit p.wiring n a is circuit)
]

pub stays_apart : (k m : TheCore) → Grows k m → IsApart k → IsApart m
stays_apart k m g a = record {
  link_sides = λ l j n one two. a.link_sides l j n (side_before k.link_sides m.link_sides l n g.link_sides one) (side_before k.link_sides m.link_sides j n g.link_sides two);
  rings = λ l e n p link_side at ring. a.rings l e n p (side_before k.link_sides m.link_sides l n g.link_sides link_side) (ring_before k.wired_ends m.wired_ends e n p g.wired_ends at ring) ring;
  ends = λ d e n p q one two x y. a.ends d e n p q (ring_before k.wired_ends m.wired_ends d n p g.wired_ends one x) (ring_before k.wired_ends m.wired_ends e n q g.wired_ends two y) x y;
  puts = λ d e n i j p q one two x y. a.puts d e n i j p q (queues_before k.wired_ends m.wired_ends d n i p g.wired_ends one x) (queues_before k.wired_ends m.wired_ends e n j q g.wired_ends two y) x y;
  takes = λ d e n i j p q one two x y. a.takes d e n i j p q (queues_before k.wired_ends m.wired_ends d i n p g.wired_ends one x) (queues_before k.wired_ends m.wired_ends e j n q g.wired_ends two y) x y;
}
