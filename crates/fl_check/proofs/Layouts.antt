-- The measures of a struct to which a field is added.
use Rattle.std.proofs.Common.{◌≡◌, ℕ, ◌+◌, max, List, [], ◌∷◌, ◌++◌, append_assoc, append-nil, sym, ap, ◌∙◌, arith}
use Rattle.fl_interface.specs.Interface.{TheType, fields_from, structure}
use Rattle.fl_interface.specs.Sizes.{round_up, size_of, align_of, end_after, greatest_align}
use Rattle.fl_interface.specs.Interface.{TheArgType}
use Rattle.fl_interface.specs.Payload.{greatest_end}
use Rattle.fl_interface.specs.Depth.{depth_of, array_depth_of, deepest, deepest_array}

pub end_push : (xs ys : List TheType) (t : TheType) (e e2 : ℕ) → ((ts : List TheType) → end_after 0 (fields_from (xs ++ ts)) ≡ end_after e (fields_from ts)) → ys ≡ xs ++ t ∷ [] → e2 ≡ round_up e (align_of t) + size_of t → (ts : List TheType) → end_after 0 (fields_from (ys ++ ts)) ≡ end_after e2 (fields_from ts)
end_push xs ys t e e2 h q r ts =
    ap (λ l. end_after 0 (fields_from (l ++ ts))) q ∙ ap (λ l. end_after 0 (fields_from l)) (append_assoc xs (t ∷ []) ts) ∙ h (t ∷ ts) ∙ ap (λ n. end_after n (fields_from ts)) (sym r)

pub end_whole : (xs : List TheType) (e : ℕ) → ((ts : List TheType) → end_after 0 (fields_from (xs ++ ts)) ≡ end_after e (fields_from ts)) → end_after 0 (fields_from xs) ≡ e
end_whole xs e h = ap (λ l. end_after 0 (fields_from l)) (sym (append-nil xs)) ∙ h []

pub align_push : (xs : List TheType) (t : TheType) → greatest_align (fields_from (xs ++ t ∷ [])) ≡ max (greatest_align (fields_from xs)) (align_of t)
align_push [] t = omega arith
align_push (x ∷ xs) t = omega (arith, align_push xs t)

pub depth_push : (xs : List TheType) (t : TheType) → deepest (fields_from (xs ++ t ∷ [])) ≡ max (deepest (fields_from xs)) (depth_of t)
depth_push [] t = omega arith
depth_push (x ∷ xs) t = omega (arith, depth_push xs t)

pub arrays_push : (xs : List TheType) (t : TheType) → deepest_array (fields_from (xs ++ t ∷ [])) ≡ max (deepest_array (fields_from xs)) (array_depth_of t)
arrays_push [] t = omega arith
arrays_push (x ∷ xs) t = omega (arith, arrays_push xs t)

pub size_is : (t : TheType) (m : List TheType) (e a r : ℕ) → t ≡ structure (fields_from m) → end_after 0 (fields_from m) ≡ e → greatest_align (fields_from m) ≡ a → r ≡ round_up e a → r ≡ size_of t
size_is t m e a r s p q h = cc

pub align_is : (t : TheType) (m : List TheType) (a : ℕ) → t ≡ structure (fields_from m) → greatest_align (fields_from m) ≡ a → a ≡ align_of t
align_is t m a s q = cc

pub depth_is : (t : TheType) (m : List TheType) (a : ℕ) → t ≡ structure (fields_from m) → deepest (fields_from m) ≡ a → a + 1 ≡ depth_of t
depth_is t m a s q = cc

pub arrays_is : (t : TheType) (m : List TheType) (a : ℕ) → t ≡ structure (fields_from m) → deepest_array (fields_from m) ≡ a → a ≡ array_depth_of t
arrays_is t m a s q = cc

pub payload_whole : (xs : List TheArgType) (e d : ℕ) → ((more : List TheArgType) → greatest_end 0 1 (xs ++ more) ≡ greatest_end e d more) → greatest_end 0 1 xs ≡ e
payload_whole xs e d h = ap (λ l. greatest_end 0 1 l) (sym (append-nil xs)) ∙ h []
