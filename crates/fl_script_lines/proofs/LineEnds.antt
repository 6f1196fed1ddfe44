-- A line without its end.
use Rattle.std.proofs.Common.{◌≡◌, ◌≢◌, ◌⊎◌, inl, inr, ℕ, Bool, true, false, List, [], ◌∷◌, ◌++◌, length, refl, sym, ap, subst, ◌∙◌, arith, append_assoc, length-append}
use Rattle.std.specs.Prelude.{◌==◌, ◌+◌, ◌-◌, nat_eq, Some, None, drop, take}
use Rattle.std.specs.Borrow.{Bor}
use Rattle.std.specs.Cmp.Lexicographic.{pointwise}
use Rattle.std.proofs.lemmas.Bool.Decides.{nat_tests, Decides-eqb}
use Rattle.std.proofs.lemmas.Slice.Eq.{strip_suffix_is}
use Rattle.std.proofs.lemmas.List.{same_from_push}
use Rattle.fl_script_lines.specs.Items.{EndsNotWith, WithoutEnd}

-- bytes are none, or there is a last one
abbrev pub Ended : List ℕ → Type 0
Ended bytes = (bytes ≡ []) ⊎ ((front : List ℕ) × (b : ℕ) × (bytes ≡ front ++ b ∷ []))

one_before : (b : ℕ) (bytes : List ℕ) → Ended bytes → Ended (b ∷ bytes)
one_before b bytes (inl e) = inr ([], b, ap (λ (z : List ℕ). b ∷ z) e)
one_before b bytes (inr (front, c, e)) = inr (b ∷ front, c, ap (λ (z : List ℕ). b ∷ z) e)

ended : (bytes : List ℕ) → Ended bytes
ended [] = inl refl
ended (b ∷ bytes) = one_before b bytes (ended bytes)

none_ends : (b : ℕ) (bytes : List ℕ) → bytes ≡ [] → EndsNotWith b bytes
none_ends b bytes e = λ front g.
    let n : length (front ++ b ∷ []) ≡ length front + 1 = length-append front (b ∷ []) in
    let m : 0 ≡ length (front ++ b ∷ []) = ap (λ (z : List ℕ). length z) (sym e ∙ g) in
    absurd (omega (arith, n, m))

other_end : (x y : ℕ) (bytes front : List ℕ) → bytes ≡ front ++ x ∷ [] → x ≢ y → EndsNotWith y bytes
other_end x y bytes front e n = λ f g. n ((same_from_push front f x y (sym e ∙ g)).1)

-- a carriage return and a line feed, one after the other
two_ends : (a : List ℕ) → a ++ 13 ∷ 10 ∷ [] ≡ (a ++ 13 ∷ []) ++ 10 ∷ []
two_ends a = sym (append_assoc a (13 ∷ []) (10 ∷ []))

-- ---- each line has a text

by_return : (line front start : List ℕ) (c : ℕ) → line ≡ front ++ 10 ∷ [] → front ≡ start ++ c ∷ [] → (t : Bool) → (c == 13) ≡ t
    → (text : List ℕ) × WithoutEnd line text
by_return line front start c e q true t =
    let is : c ≡ 13 = grind (arith, nat_tests, t) in
    let here : front ≡ start ++ 13 ∷ [] = q ∙ ap (λ x. start ++ x ∷ []) is in
    (start, inl (e ∙ (ap (λ (z : List ℕ). z ++ 10 ∷ []) here ∙ sym (two_ends start))))
by_return line front start c e q false t =
    let isnt : c ≢ 13 = grind (arith, nat_tests, t) in
    (front, inr (inl (e, other_end c 13 front start q isnt)))

before_feed : (line front : List ℕ) → line ≡ front ++ 10 ∷ [] → Ended front → (text : List ℕ) × WithoutEnd line text
before_feed line front e (inl none) = (front, inr (inl (e, none_ends 13 front none)))
before_feed line front e (inr (start, c, q)) = by_return line front start c e q (c == 13) refl

by_feed : (line front : List ℕ) (b : ℕ) → line ≡ front ++ b ∷ [] → (t : Bool) → (b == 10) ≡ t → (text : List ℕ) × WithoutEnd line text
by_feed line front b e true t =
    let is : b ≡ 10 = grind (arith, nat_tests, t) in
    before_feed line front (e ∙ ap (λ x. front ++ x ∷ []) is) (ended front)
by_feed line front b e false t =
    let isnt : b ≢ 10 = grind (arith, nat_tests, t) in
    (line, inr (inr (refl, other_end b 10 line front e isnt)))

by_last : (line : List ℕ) → Ended line → (text : List ℕ) × WithoutEnd line text
by_last line (inl none) = (line, inr (inr (refl, none_ends 10 line none)))
by_last line (inr (front, b, e)) = by_feed line front b e (b == 10) refl

pub some_text : (line : List ℕ) → (text : List ℕ) × WithoutEnd line text
some_text line = by_last line (ended line)

-- ---- and no other

return_apart : (line a b : List ℕ) → line ≡ a ++ 13 ∷ 10 ∷ [] → line ≡ b ++ 10 ∷ [] → EndsNotWith 13 b → ⊥
return_apart line a b x y n = n a (sym ((same_from_push (a ++ 13 ∷ []) b 10 10 (sym (two_ends a) ∙ (sym x ∙ y))).0))

end_apart : (line a b : List ℕ) → line ≡ a ++ 13 ∷ 10 ∷ [] → line ≡ b → EndsNotWith 10 b → ⊥
end_apart line a b x y n = n (a ++ 13 ∷ []) (sym y ∙ (x ∙ two_ends a))

pub one_text : (line a b : List ℕ) → WithoutEnd line a → WithoutEnd line b → a ≡ b
one_text line a b (inl x) (inl y) =
    let h = same_from_push (a ++ 13 ∷ []) (b ++ 13 ∷ []) 10 10 (sym (two_ends a) ∙ (sym x ∙ (y ∙ two_ends b))) in
    (same_from_push a b 13 13 h.0).0
one_text line a b (inl x) (inr (inl (y, n))) = absurd (return_apart line a b x y n)
one_text line a b (inl x) (inr (inr (y, n))) = absurd (end_apart line a b x y n)
one_text line a b (inr (inl (x, n))) (inl y) = absurd (return_apart line b a y x n)
one_text line a b (inr (inl (x, n))) (inr (inl (y, m))) = (same_from_push a b 10 10 (sym x ∙ y)).0
one_text line a b (inr (inl (x, n))) (inr (inr (y, m))) = absurd (m a (sym y ∙ x))
one_text line a b (inr (inr (x, n))) (inl y) = absurd (end_apart line b a y x n)
one_text line a b (inr (inr (x, n))) (inr (inl (y, m))) = absurd (n b (sym x ∙ y))
one_text line a b (inr (inr (x, n))) (inr (inr (y, m))) = sym x ∙ y

-- ---- what the code finds

-- a carriage return and a line feed stand there
pub with_return : (line text : List ℕ) → line ≡ text ++ 13 ∷ 10 ∷ [] → WithoutEnd line text
with_return line text e = inl e

-- a line feed stands there, and no carriage return before it
pub with_feed : (line text : List ℕ) → ((front : List ℕ) → line ≢ front ++ 13 ∷ 10 ∷ []) → line ≡ text ++ 10 ∷ [] → WithoutEnd line text
with_feed line text no_return e =
    inr (inl (e, λ front g. no_return front (e ∙ (ap (λ (z : List ℕ). z ++ 10 ∷ []) g ∙ sym (two_ends front)))))

pub found_suffix : (s p : List ℕ) (x : Bor (List ℕ))
    → (pointwise nat_eq (drop (length s - length p) s) p ≡ true) × (x.now ≡ take (length s - length p) s) × (length x.now + length p ≡ length s) → s ≡ x.now ++ p
found_suffix s p x h = strip_suffix_is Decides-eqb s p (Some x) h

pub no_suffix : (s p : List ℕ) → pointwise nat_eq (drop (length s - length p) s) p ≡ false → (front : List ℕ) → s ≢ front ++ p
no_suffix s p h = strip_suffix_is Decides-eqb s p None h

pub no_return : (line p : List ℕ) → p ≡ 13 ∷ 10 ∷ [] → ((front : List ℕ) → line ≢ front ++ p) → (front : List ℕ) → line ≢ front ++ 13 ∷ 10 ∷ []
no_return line p e h = subst (λ (q : List ℕ). (front : List ℕ) → line ≢ front ++ q) e h
