-- What a link writes into a control word doesn't disturb what it carries.
use Rattle.std.proofs.Common.{ℕ, ◌≡◌, ◌<◌, ◌+◌, ◌*◌, ◌/◌, ◌%◌, ◌^◌, ap, ◌∙◌, arith}
use Rattle.std.proofs.lemmas.Nat.{mod_below}
use Rattle.fl_base.specs.declared.fragment.Frag.{Frag}
use Rattle.fl_base.specs.Control.{epoch_of, told_of, body, bare, stamped}

-- of a number b below 2 ^ 47, the two ends of a control word around it
halved : (b e m : ℕ) → e < 2 → (2 * b + e + 2 ^ 48 * m) / 2 ≡ b + 2 ^ 47 * m
halved b e m h = omega arith

within : (b m : ℕ) → b < 2 ^ 47 → (b + 2 ^ 47 * m) % 2 ^ 47 ≡ b
within b m h = omega arith

small : (c : ℕ) → c / 2 % 2 ^ 47 < 2 ^ 47
small c = mod_below (c / 2) (2 ^ 47) (omega arith)

-- what a link writes into a control word leaves the body alone
pub body-stamped : (c e m : ℕ) → e < 2 → body (body c + e + 2 ^ 48 * m) ≡ body c
body-stamped c e m h =
    let b : ℕ = c / 2 % 2 ^ 47 in
    ap (λ (x : ℕ). 2 * (x % 2 ^ 47)) (halved b e m h) ∙ ap (λ (x : ℕ). 2 * x) (within b m (small c))

pub body-body : (c : ℕ) → body (body c) ≡ body c
body-body c =
    let b : ℕ = c / 2 % 2 ^ 47 in
    let e : 2 * b / 2 ≡ b = omega arith in
    let l : b % 2 ^ 47 ≡ b = omega (arith, small c) in
    ap (λ (x : ℕ). 2 * (x % 2 ^ 47)) e ∙ ap (λ (x : ℕ). 2 * x) l

pub epoch-stamped : (c e m : ℕ) → e < 2 → epoch_of (body c + e + 2 ^ 48 * m) ≡ e
epoch-stamped c e m h = let b : ℕ = c / 2 % 2 ^ 47 in let r : (2 * b + e + 2 ^ 48 * m) % 2 ≡ e = omega arith in r

pub told-stamped : (c e m : ℕ) → e < 2 → told_of (body c + e + 2 ^ 48 * m) ≡ m
told-stamped c e m h =
    let b : ℕ = c / 2 % 2 ^ 47 in
    let l : b < 2 ^ 47 = small c in
    let r : (2 * b + e + 2 ^ 48 * m) / 2 ^ 48 ≡ m = omega arith in r

-- stamping a bare fragment is stamping the fragment
pub stamped-bare : (f : Frag) (e m : ℕ) → stamped (bare f) e m ≡ stamped f e m
stamped-bare f e m = ap (λ (b : ℕ). record { words = f.words; control = b + e + 2 ^ 48 * m }) (body-body f.control)

-- what stands in a link is, bare, what was put
pub bare-stamped : (f : Frag) (e m : ℕ) → e < 2 → bare (stamped f e m) ≡ bare f
bare-stamped f e m h = ap (λ (b : ℕ). record { words = f.words; control = b }) (body-stamped f.control e m h)

pub bare-bare : (f : Frag) → bare (bare f) ≡ bare f
bare-bare f = ap (λ (b : ℕ). record { words = f.words; control = b }) (body-body f.control)
