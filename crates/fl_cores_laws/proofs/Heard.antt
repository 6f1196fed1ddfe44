-- What cores hear of refused openings was told.
use Rattle.std.proofs.Common.{◌≡◌, ◌≢◌, refl, sym, ◌∙◌, ℕ, ◌+◌, ◌==◌, ◌⊎◌, inl, inr, if◌then◌else◌, List, [], ◌∷◌, Bool, true, false, arith}
use Rattle.std.proofs.lemmas.Bool.Decides.{nat_tests}
use Rattle.fl_cores_table.specs.declared.table.OpeningRefusal.{OpeningRefusal}
use Rattle.fl_cores_table.specs.Counter.{Agrees, number_of}
use Rattle.fl_cores_laws.specs.EndedHeard.{Among, TablesTell}

agree_by : (job number found : ℕ) (heard : List OpeningRefusal) → Agrees job found heard → Among job number heard → (number ≡ 0) ⊎ (number ≡ found)
agree_by job number found [] agrees there = absurd there
agree_by job number found (r ∷ heard) agrees (inl (is, same)) = elim (agrees.0 is) [
  | inl zero_is ↦ inl (sym same ∙ zero_is)
  | inr found_is ↦ inr (sym same ∙ found_is)
]
agree_by job number found (r ∷ heard) agrees (inr there) = agree_by job number found heard agrees.1 there

told_one : (job : ℕ) (r : OpeningRefusal) (rest : ℕ) (stored : List OpeningRefusal) (b : Bool) → (r.job == job) ≡ b → (rest ≢ 0 → (told : ℕ) × Among job told stored)
    → (if b then rest + r.number else rest) ≢ 0 → (told : ℕ) × Among job told (r ∷ stored)
told_one job r rest stored true is later some = let same : r.job ≡ job = grind (arith, nat_tests, is) in (r.number, inl (same, refl))
told_one job r rest stored false is later some = let found = later some in (found.0, inr found.1)

some_told : (job : ℕ) (stored : List OpeningRefusal) → number_of job stored ≢ 0 → (told : ℕ) × Among job told stored
some_told job [] some = absurd (some refl)
some_told job (r ∷ stored) some = told_one job r (number_of job stored) stored (r.job == job) refl (some_told job stored) some

pub tables_tell : TablesTell
tables_tell j cores stored heard together finds n job number owner c at owned some among =
    let is = agree_by job number (number_of job stored) heard (finds job owner owned) (together.heard_all n job number c at among) in
    let told : number_of job stored ≢ 0 = λ none. elim is [
      | inl zero_is ↦ some zero_is
      | inr same ↦ some (same ∙ none)
    ] in
    let (number_told, there) = some_told job stored told in
    let (m, d, stands, has) = together.told_by job number_told there in
    (m, d, number_told, stands, has)
