-- Plain fragments, and lists of them.
use Rattle.std.proofs.Common.{ℕ, zero, suc, ◌≡◌, ◌<◌, ◌==◌, ◌&&◌, Bool, true, false, not, sym, ap, ◌∙◌, refl, List, [], ◌∷◌, ◌++◌, length, slice_index_or, take, arith}
use Rattle.std.specs.List.{list_all}
use Rattle.std.proofs.lemmas.Bool.{and_parts, and_from, not-true, eqb-true, eq-eqb}
use Rattle.rtrb.specs.Fifo.{Allowed, EachAllowed}
use Rattle.fl_base.specs.declared.fragment.Frag.{Frag}
use Rattle.fl_base.specs.Control.{is_ack_only, body, bare}
use Rattle.fl_link.proofs.Carried.{body-body}
use Rattle.fl_link.proofs.Conserved.{bare-ack}
use Rattle.fl_stream.specs.Plain.{is_plain, all_plain}

-- a fragment of a call without link bits
pub plain-bare : (f : Frag) → is_ack_only f ≡ false → is_plain (bare f) ≡ true
plain-bare f call =
    and_from (not (is_ack_only (bare f))) (body f.control == body (body f.control)) (ap not (bare-ack f ∙ call)) (eq-eqb (body f.control) (body (body f.control)) (sym (body-body f.control)))

pub plain-is_bare : (f : Frag) → is_plain f ≡ true → bare f ≡ f
plain-is_bare f e =
    let (call, same) = and_parts (not (is_ack_only f)) (f.control == body f.control) e in
    ap (λ (c : ℕ). record { words = f.words; control = c }) (sym (eqb-true f.control (body f.control) same))

pub plain-call : (f : Frag) → is_plain f ≡ true → is_ack_only f ≡ false
plain-call f e = not-true (is_ack_only f) (and_parts (not (is_ack_only f)) (f.control == body f.control) e).0

pub one_plain : (f : Frag) → is_plain f ≡ true → all_plain (f ∷ []) ≡ true
one_plain f e = and_from (is_plain f) true e refl

-- as a ring may carry them
pub each_plain : (before frags : List Frag) → all_plain frags ≡ true → EachAllowed (λ _ frag. is_plain frag ≡ true) before frags
each_plain before [] e i d h = absurd (omega (arith, h))
each_plain before (f ∷ fs) e zero d h = (and_parts (is_plain f) (all_plain fs) e).0
each_plain before (f ∷ fs) e (suc i) d h = each_plain before fs (and_parts (is_plain f) (all_plain fs) e).1 i d (omega (arith, h))

-- as a ring gives them
pub all_carried : (before frags : List Frag) → Allowed (λ _ frag. is_plain frag ≡ true) before frags → all_plain frags ≡ true
all_carried before [] h = refl
all_carried before (f ∷ fs) (first, rest) = and_from (is_plain f) (all_plain fs) first (all_carried (before ++ f ∷ []) fs rest)
