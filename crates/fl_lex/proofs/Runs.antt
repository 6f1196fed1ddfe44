-- Runs of bytes that pass a test, and comments' ends.
use Rattle.std.proofs.Common.{◌≡◌, ℕ, suc, ◌+◌, ◌≤◌, Bool, true, false, cond, List, [], ◌∷◌, ◌++◌, length, take, drop, refl, ap, ◌∙◌, arith}
use Rattle.std.specs.List.{prefix_len}
use Rattle.std.specs.Cmp.{first_so, second_so}
use Rattle.fl_lex.specs.Spelling.{AllBytes, Has}

-- the text ends here, or a byte that fails the test follows
abbrev pub Stops : (ℕ → Bool) → List ℕ → Type 0
Stops p [] = Unit {0}
Stops p (byte ∷ more) = p byte ≡ false

-- a run that is followed by a byte that fails is the longest
pub run_longest : (p : ℕ → Bool) (more less bytes rest : List ℕ) → more ++ less ≡ bytes ++ rest → AllBytes p more → Stops p rest → length more ≤ length bytes
run_longest p [] less bytes rest e all stops = omega arith
run_longest p (x ∷ more) less [] [] e all stops = cc
run_longest p (x ∷ more) less [] (y ∷ rest) e all stops =
    let yes : p x ≡ true = first_so (p x) _ all in
    let same : x ≡ y = cc in
    let no : p x ≡ false = ap p same ∙ stops in
    cc
run_longest p (x ∷ more) less (b ∷ bytes) rest e all stops =
    let tails : more ++ less ≡ bytes ++ rest = cc in
    let shorter : length more ≤ length bytes = run_longest p more less bytes rest tails (second_so (p x) _ all) stops in
    omega (arith, shorter)

pub run_all : (p : ℕ → Bool) (xs : List ℕ) → AllBytes p (take (prefix_len p xs) xs)
run_all p [] = refl
run_all p (x ∷ xs) = by_test (p x) refl (run_all p xs)
  where
    by_test : (b : Bool) → p x ≡ b → AllBytes p (take (prefix_len p xs) xs) → AllBytes p (take (cond b (1 + prefix_len p xs) 0) (x ∷ xs))
    by_test true passes others =
        let more : 1 + prefix_len p xs ≡ suc (prefix_len p xs) = omega arith in
        rw more (rw passes others)
    by_test false fails others = refl

pub run_stops : (p : ℕ → Bool) (xs : List ℕ) → Stops p (drop (prefix_len p xs) xs)
run_stops p [] = tt
run_stops p (x ∷ xs) = by_test (p x) refl (run_stops p xs)
  where
    by_test : (b : Bool) → p x ≡ b → Stops p (drop (prefix_len p xs) xs) → Stops p (drop (cond b (1 + prefix_len p xs) 0) (x ∷ xs))
    by_test true passes stops =
        let more : 1 + prefix_len p xs ≡ suc (prefix_len p xs) = omega arith in
        rw more stops
    by_test false fails stops = fails

has_later : (inner : List ℕ) (x : ℕ) (xs : List ℕ) → Has inner xs → Has inner (x ∷ xs)
has_later inner x xs (prefix, back, e) = (x ∷ prefix, back, ap (λ l. x ∷ l) e)

-- a body without */ that is followed by */ is no longer than another
pub close_once : (more less bytes rest : List ℕ) → more ++ (42 ∷ 47 ∷ less) ≡ bytes ++ (42 ∷ 47 ∷ rest) → ¬ Has (42 ∷ 47 ∷ []) more → length more ≤ length bytes
close_once [] less bytes rest e none = omega arith
close_once (x ∷ []) less [] rest e none =
    let second : ℕ = 47 in
    let wrong : 42 ≡ second = cc in
    omega (arith, wrong)
close_once (x ∷ y ∷ more) less [] rest e none =
    let first : x ≡ 42 = cc in
    let second : y ≡ 47 = cc in
    absurd (none ([], more, cc))
close_once (x ∷ more) less (b ∷ bytes) rest e none =
    let tails : more ++ (42 ∷ 47 ∷ less) ≡ bytes ++ (42 ∷ 47 ∷ rest) = cc in
    let shorter : length more ≤ length bytes = close_once more less bytes rest tails (λ h. none (has_later _ x more h)) in
    omega (arith, shorter)
