-- The numbers of a route, word by word.
use Rattle.std.proofs.Common.{◌≡◌, ◌<◌, ℕ, suc, zero, List, [], ◌∷◌, ◌++◌, length, take, Option, Some, None, option_map, refl, sym, ap, subst, ◌∙◌, append-nil, append_assoc}
use Rattle.fl_base.specs.Given.{given}
use Rattle.fl_model.specs.Events.{asked_route}
use Rattle.fl_script_lines.specs.Words.{first_word, behind_word, number_of, words_of, numbers_of}
use Rattle.fl_script_lines.proofs.WordLemmas.{words_step, no_words}
use Rattle.fl_script_lines.proofs.PieceLemmas.{numbers_first}

-- what is asked with, of a route that goes on with the numbers of these words
abbrev pub asked_with : List ℕ → List ℕ → Option (List ℕ)
asked_with cores rest = option_map (λ ns. asked_route (cores ++ ns)) (numbers_of (words_of rest))

take_taken : (k : ℕ) (xs ys : List ℕ) → take k (take k xs ++ ys) ≡ take k (xs ++ ys)
take_taken zero xs ys = refl
take_taken (suc k) [] ys = refl
take_taken (suc k) (x ∷ xs) ys = ap (λ (zs : List ℕ). x ∷ zs) (take_taken k xs ys)

mapped_alike : (f g : List ℕ → List ℕ) (o : Option (List ℕ)) → ((ns : List ℕ) → f ns ≡ g ns) → option_map f o ≡ option_map g o
mapped_alike f g None h = refl
mapped_alike f g (Some ns) h = ap (λ (x : List ℕ). Some x) (h ns)

mapped_first : (cores : List ℕ) (n : ℕ) (o : Option (List ℕ))
    → option_map (λ ns. asked_route (cores ++ ns)) (option_map (λ ns. n ∷ ns) o) ≡ option_map (λ ns. asked_route (cores ++ n ∷ ns)) o
mapped_first cores n None = refl
mapped_first cores n (Some ns) = refl

-- one core more stands in the route, if there is room for it
pub cores_more : (cores after rest word behind : List ℕ) (n : ℕ) (whole : Option (List ℕ)) → asked_with cores rest ≡ whole
    → word ≡ first_word rest → behind ≡ behind_word rest → number_of word ≡ Some n → after ≡ asked_route (cores ++ n ∷ [])
    → (asked_route after ≡ after) × (asked_with after behind ≡ whole)
cores_more cores after rest word behind n whole h w b e a =
    let others : Option (List ℕ) = numbers_of (words_of (behind_word rest)) in
    let first : asked_with cores rest ≡ option_map (λ ns. asked_route (cores ++ n ∷ ns)) others =
    ap (option_map (λ ns. asked_route (cores ++ ns))) (numbers_first rest n (ap number_of (sym w) ∙ e)) ∙ mapped_first cores n others in
    let alike : (ns : List ℕ) → asked_route (asked_route (cores ++ n ∷ []) ++ ns) ≡ asked_route (cores ++ n ∷ ns) =
    λ ns. take_taken 17 (cores ++ n ∷ []) ns ∙ ap asked_route (append_assoc cores (n ∷ []) ns) in
    let whole_is : asked_with (asked_route (cores ++ n ∷ [])) (behind_word rest) ≡ whole =
    mapped_alike (λ ns. asked_route (asked_route (cores ++ n ∷ []) ++ ns)) (λ ns. asked_route (cores ++ n ∷ ns)) others alike ∙ (sym first ∙ h) in
    let kept : asked_route (asked_route (cores ++ n ∷ [])) ≡ asked_route (cores ++ n ∷ []) =
    ap asked_route (sym (append-nil (asked_route (cores ++ n ∷ [])))) ∙ (alike []) in
    (ap asked_route a ∙ (kept ∙ sym a), ap (λ (x : List ℕ). asked_with after x) b ∙ (ap (λ (x : List ℕ). asked_with x (behind_word rest)) a ∙ whole_is))

-- no word is left
pub cores_end : (cores rest word : List ℕ) (whole : Option (List ℕ)) → (asked_route cores ≡ cores) × (asked_with cores rest ≡ whole)
    → word ≡ first_word rest → length word ≡ 0 → Some cores ≡ whole
cores_end cores rest word whole h w none =
    let words : words_of rest ≡ [] = no_words rest (ap length (sym w) ∙ none) in
    let one : asked_with cores rest ≡ Some (asked_route (cores ++ [])) =
    ap (λ (ws : List (List ℕ)). option_map (λ ns. asked_route (cores ++ ns)) (numbers_of ws)) words in
    let same : asked_route (cores ++ []) ≡ cores = ap asked_route (append-nil cores) ∙ h.0 in
    ap (λ (x : List ℕ). Some x) (sym same) ∙ (sym one ∙ h.1)

-- a word is no number
pub cores_stop : (cores rest word : List ℕ) (whole : Option (List ℕ)) → asked_with cores rest ≡ whole → word ≡ first_word rest → 0 < length word
    → number_of word ≡ None → None ≡ whole
cores_stop cores rest word whole h w some none =
    let there : 0 < length (first_word rest) = subst (λ (x : List ℕ). 0 < length x) w some in
    let others : Option (List ℕ) = numbers_of (words_of (behind_word rest)) in
    let no_numbers : numbers_of (words_of rest) ≡ None =
    ap numbers_of (words_step rest there)
    ∙ ap (λ (o : Option ℕ). given o None λ m. option_map (λ ms. m ∷ ms) others) (ap number_of (sym w) ∙ none) in
    sym (ap (option_map (λ ns. asked_route (cores ++ ns))) no_numbers) ∙ h
