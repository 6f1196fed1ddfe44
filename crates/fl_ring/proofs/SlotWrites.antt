-- Seven words and then the control word make a slot.
use Rattle.std.proofs.Common.{ℕ, ◌≡◌, ◌≢◌, ◌<◌, ◌≤◌, ◌+◌, ◌*◌, ◌%◌, ◌⊎◌, inl, inr, List, ◌++◌, length, take, drop, get_or, set, ◌∙◌, sym, subst, arith, length-set, get_or-set_same, get_or-set_other}
use Rattle.std.proofs.lemmas.List.FromFn.{fill_by_all}
use Rattle.std.proofs.lemmas.List.{take_at}
use Rattle.fl_base.specs.declared.fragment.Frag.{Frag}
use Rattle.fl_base.specs.Control.{stamped}
use Rattle.fl_link.specs.Cursor.{epoch_at}
use Rattle.fl_ring.specs.Way.{slot, frag_at, WritesSlot}

apart : (s i : ℕ) → (i < s) ⊎ (s + 8 ≤ i) → i ≢ s + 7
apart s i (inl h) e = omega arith
apart s i (inr h) e = omega arith

two_parts : (xs ys : List ℕ) (x y : ℕ) → xs ≡ ys → x ≡ y → (let f : Frag = record { words = xs; control = x } in f) ≡ record { words = ys; control = y }
two_parts xs ys x y e d = cc

-- the slot holds the fragment, once its control word is written after the seven others
pub slot_written : (old ws : List ℕ) (s : ℕ) (f : Frag) → s + 8 ≤ length old → length ws ≡ length old → length f.words ≡ 7
    → ((k : ℕ) → k < 7 → get_or ws (s + k) 0 ≡ get_or f.words k 0)
    → ((i : ℕ) → (i < s) ⊎ (s + 8 ≤ i) → get_or ws i 0 ≡ get_or old i 0)
    → WritesSlot s f old (set ws (s + 7) f.control)
slot_written old ws s f room len seven written others = record {
  same_length = length-set ws (s + 7) f.control ∙ len;
  holds =
      let control : get_or (set ws (s + 7) f.control) (s + 7) 0 ≡ f.control = get_or-set_same ws (s + 7) f.control 0 (omega arith) in
      let new : List ℕ = set ws (s + 7) f.control in
      let words : f.words ≡ (frag_at new s).words =
      fill_by_all (λ (k : ℕ). get_or new (s + k) 0) f.words 7 0 seven
      (λ k lt. let ne : s + k ≢ s + 7 = λ e. omega arith in sym (get_or-set_other ws (s + 7) (s + k) f.control 0 ne ∙ written k lt)) in
      two_parts (frag_at new s).words f.words (get_or new (s + 7) 0) f.control (sym words) control;
  others = λ i away. get_or-set_other ws (s + 7) i f.control 0 (apart s i away) ∙ others i away;
}

-- what a Vec holds after its slice was written
pub written_back : (len s : ℕ) (f : Frag) (old lent new : List ℕ) → length lent ≡ len → lent ≡ old → WritesSlot s f lent new
    → WritesSlot s f old (take len (new ++ drop (length new) old))
written_back len s f old lent new long same w =
    let size = w.same_length in
    let whole : take len (new ++ drop (length new) old) ≡ new = grind (arith, take_at new (drop (length new) old) len) in
    subst (λ (xs : List ℕ). WritesSlot s f old xs) (sym whole) (subst (λ (xs : List ℕ). WritesSlot s f xs new) same w)

-- the slot is that of the next index, and the fragment has its epoch
pub next_written : (base place size index e told : ℕ) (frag g : Frag) (old new : List ℕ) → place ≡ index % size → e ≡ epoch_at size index → g ≡ stamped frag e told
    → WritesSlot (base + 8 * place) g old new → WritesSlot (slot base size index) (stamped frag (epoch_at size index) told) old new
next_written base place size index e told frag g old new at turn item w =
    let here : WritesSlot (base + 8 * place) (stamped frag e told) old new = subst (λ (x : Frag). WritesSlot (base + 8 * place) x old new) item w in
    let due : WritesSlot (base + 8 * place) (stamped frag (epoch_at size index) told) old new = subst (λ (x : ℕ). WritesSlot (base + 8 * place) (stamped frag x told) old new) turn here in
    subst (λ (x : ℕ). WritesSlot (base + 8 * x) (stamped frag (epoch_at size index) told) old new) at due
