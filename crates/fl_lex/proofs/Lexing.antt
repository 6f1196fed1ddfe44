-- The steps of reading a whole text.
use Rattle.std.proofs.Common.{◌≡◌, ℕ, ◌-◌, ◌≤◌, List, [], ◌∷◌, ◌++◌, length, take, drop, inr, Err, sym, refl, subst, arith}
use Rattle.std.specs.List.{AllByRecursion}
use Rattle.std.specs.Option.{IfSome}
use Rattle.fl_lex.specs.Token.{TheToken}
use Rattle.fl_lex.specs.Spelling.{Item, gap, token, Begins, token_in, Spells}
use Rattle.fl_lex.specs.Outcome.{Fits, Flaw, no_token, open_comment, open_description, long_word, large_number, number_of, Stands, IsFaulty, Lexes, outcome_of}
use Rattle.fl_lex.specs.Item.{ItemFits, Cuts, FlawAt}
use Rattle.fl_lex.specs.declared.fault.LexFault.{LexFault}
use Rattle.fl_lex.specs.declared.fault.LexFault.TheVariants as faults
use Rattle.fl_lex.proofs.Turns.{spells_more}

fits_more : (tokens : List TheToken) (at : ℕ) (item : Item) (bytes : List ℕ) → AllByRecursion Fits tokens → ItemFits item bytes → AllByRecursion Fits (tokens ++ token_in at item bytes)
fits_more [] at gap bytes fits fit = tt
fits_more [] at (token kind) bytes fits fit = (fit, tt)
fits_more (t ∷ ts) at item bytes fits fit = (fits.0, fits_more ts at item bytes fits.1 fit)

-- one more item is read
module _ (text rest : List ℕ) (tokens more : List TheToken) (item : Item) (n at : ℕ) (bytes after : List ℕ)
    (cut : Cuts rest item n) (prefix : bytes ≡ take n rest) (pushed : more ≡ tokens ++ token_in at item bytes) where
  pub goes_on : length rest ≤ length text → at ≡ length text - length rest → after ≡ drop n rest → Spells text tokens rest → Spells text more after
  goes_on within place back spelled =
      let begins : Begins rest item bytes after =
      subst (λ (b : List ℕ). Begins rest item b after) (sym prefix) (subst (λ (r : List ℕ). Begins rest item (take n rest) r) (sym back) cut.begins) in
      subst (λ ts. Spells text ts after) (sym pushed) (spells_more text tokens rest item bytes after at spelled begins (omega (arith, within, place)))

  pub still_fits : AllByRecursion Fits tokens → AllByRecursion Fits more
  still_fits fits =
      subst (λ ts. AllByRecursion Fits ts) (sym pushed) (fits_more tokens at item bytes fits (subst (λ (b : List ℕ). ItemFits item b) (sym prefix) cut.fits))

-- a flaw ends the reading
module _ (text rest : List ℕ) (tokens : List TheToken) (short : length text ≤ 65536) (within : length rest ≤ length text) (spelled : Spells text tokens rest) (fits : AllByRecursion Fits tokens) where
  pub ends_at : (flaw : Flaw) (at place : ℕ) → at ≡ length text - length rest → place ≡ at → Stands flaw rest → IsFaulty text (number_of flaw) place
  ends_at flaw at place e same stands = record {
    short = short;
    tokens = tokens;
    left = rest;
    spelled = spelled;
    fits = fits;
    place = omega (arith, e, same, within);
    flaw = flaw;
    numbered = refl;
    stands = stands;
  }

  pub fault_ends : (fault : LexFault) (at : ℕ) → at ≡ length text - length rest → FlawAt fault at rest → IfSome (outcome_of (Err fault)) (λ found. Lexes text found)
  fault_ends (faults.NoToken place) at e (same, stands) = inr (ends_at no_token at place e same stands)
  fault_ends (faults.OpenComment place) at e (same, stands) = inr (ends_at open_comment at place e same stands)
  fault_ends (faults.OpenDescription place) at e (same, stands) = inr (ends_at open_description at place e same stands)
  fault_ends (faults.LongWord place) at e (same, stands) = inr (ends_at long_word at place e same stands)
  fault_ends (faults.LargeNumber place) at e (same, stands) = inr (ends_at large_number at place e same stands)
  fault_ends faults.LongText at e never = absurd never
  fault_ends faults.Memory at e never = absurd never
