-- The two ends of a ring, as the sides of a stream.
use Rattle.std.proofs.Common.{ℕ, ◌≡◌, ◌+◌, ◌≤◌, ◌<◌, true, sym, ap, ◌∙◌, refl, List, [], ◌∷◌, ◌++◌, length, take, drop, append_assoc, arith}
use Rattle.std.specs.Global.{Global}
use mathlib.Core.List as core
use Rattle.rtrb.specs.Fifo.{Allowed}
use Rattle.rtrb.specs.Ends.{SameRing}
use Rattle.rtrb.specs.Ring.{received, known_items, SameConsumer, ConsumerLooked}
use Rattle.rtrb.specs.declared.end.End.{End}
use Rattle.rtrb.specs.declared.consumer.Consumer.{Consumer}
use Rattle.fl_base.specs.declared.fragment.Frag.{Frag}
use Rattle.fl_base.specs.Prefix.{IsPrefix}
use Rattle.fl_stream.specs.Plain.{is_plain}
use Rattle.fl_stream.specs.Sides.{StreamId, receiver_of}
use Rattle.fl_stream.specs.Steps.{Sees, Fills}
use Rattle.fl_stream.proofs.Plains.{all_carried}

-- a prefix of a prefix, by the ring's word for it
prefix_then : {X : Type 0} (xs ys zs : List X) → core.IsPrefix xs ys → core.IsPrefix ys zs → IsPrefix xs zs
prefix_then xs ys zs (p, e) (q, f) = (p ++ q, sym f ∙ ap (λ (l : List _). l ++ q) (sym e) ∙ append_assoc xs p q)

pub prefix_from : {X : Type 0} (xs ys : List X) → core.IsPrefix xs ys → IsPrefix xs ys
prefix_from xs ys (rest, e) = (rest, sym e)

none_left : {X : Type 0} (xs : List X) → length xs ≡ 0 → xs ≡ []
none_left [] e = refl
none_left (x ∷ xs) e = absurd (omega (arith, e))

module _ {P : Type 0} where
  abbrev pub id_of : End Frag Global P → StreamId
  id_of e = record { words = e.words; slots = e.slots; names = e.names; heap = e.heap }

  pub same_stream : (a b : End Frag Global P) → SameRing a b → id_of b ≡ id_of a
  same_stream a b h = λ i. record { words = h.0 i; slots = h.1 i; names = h.2 i; heap = h.3 i }

  -- two looks
  pub sees_twice : (a b c : Consumer Frag Global P) → ConsumerLooked a b → ConsumerLooked b c → Sees (receiver_of a) (receiver_of c)
  sees_twice a b c ((ring, size), got, seen) ((ring2, size2), got2, seen2) = record {
    stream = same_stream b.end c.end ring2 ∙ same_stream a.end b.end ring;
    size = size2 ∙ size;
    got = got2 ∙ got;
    seen = prefix_then (known_items a) (known_items b) (known_items c) seen seen2;
  }

  -- a slice is taken
  pub fills : (a b : Consumer Frag Global P) (n : ℕ) (before after : List Frag) → SameConsumer a b
      → n ≤ length before → received b ≡ received a ++ take n after → drop n after ≡ drop n before
      → Allowed (λ _ frag. is_plain frag ≡ true) (received a) (take n after)
      → core.IsPrefix (known_items a) (take n after ++ known_items b) → (n < length before → length (known_items b) ≡ 0)
      → Fills (receiver_of a) n before after (receiver_of b)
  fills a b n before after (ring, size) within got others allowed known most = record {
    within = within;
    receives = record {
      stream = same_stream a.end b.end ring;
      size = size;
      got = got;
      plain = all_carried (received a) (take n after) allowed;
      seen = prefix_from (known_items a) (take n after ++ known_items b) known;
    };
    others = others;
    all = λ few. none_left (known_items b) (most few);
  }
