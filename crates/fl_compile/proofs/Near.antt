-- Arguments one after another: how far they have come, and which are left.
use Rattle.std.proofs.Common.{◌≡◌, ℕ, ◌+◌, ◌*◌, ◌<◌, ◌≤◌, true, ◌&&◌, List, ◌∷◌, map, drop, length, get_or, sym, ◌∙◌, ap, subst, arith}
use Rattle.std.proofs.lemmas.List.{drop_more}
use Rattle.std.proofs.lemmas.Bool.{and_parts}
use Rattle.fl_interface.specs.Interface.{TheArgType}
use Rattle.fl_interface.specs.Sizes.{round_up, IsAlign}
use Rattle.fl_interface.specs.Limits.{is_argument_within, are_arguments_within}
use Rattle.fl_interface.proofs.Aligned.{by_align}
use Rattle.fl_compile.specs.declared.arguments.ArgOffset.{ArgOffset}
use Rattle.fl_compile.specs.declared.arguments.ArgOffset.TheVariants.{At, AfterDynamic}
use Rattle.fl_compile.specs.Compiled.{start_at}
use Rattle.fl_compile.specs.Standings.{StandsBy}

pub start_near : (n : ℕ) (standing : ArgOffset) (align : ℕ) → IsAlign align → StandsBy n standing → start_at standing align ≤ n + 7
start_near n (At at) align is h = by_align (λ a. round_up at a ≤ n + 7) (omega (arith, h)) (omega (arith, h)) (omega (arith, h)) (omega (arith, h)) align is
start_near n AfterDynamic align is h = omega arith

-- the arguments from one on
pub argument_next : {A : Type 0} (type : A → TheArgType) (args : List A) (k : ℕ) (a : A) → k < length args → a ≡ get_or args k a
    → map type (drop k args) ≡ type a ∷ map type (drop (k + 1) args)
argument_next {A = A} type args k a h e =
    ap (map type) (drop_more args k a h) ∙ ap (λ (b : A). type b ∷ map type (drop (k + 1) args)) (sym e)

pub rest_within : (t : TheArgType) (ts us : List TheArgType) → us ≡ t ∷ ts → are_arguments_within us ≡ true → are_arguments_within ts ≡ true
rest_within t ts us e h =
    let both : (is_argument_within t && are_arguments_within ts) ≡ true = sym (ap are_arguments_within e) ∙ h in
    (and_parts _ _ both).1

pub one_further : (k : ℕ) (standing : ArgOffset) → StandsBy (4104 * k + 4104) standing → StandsBy (4104 * (k + 1)) standing
one_further k standing h = let e : 4104 * k + 4104 ≡ 4104 * (k + 1) = omega arith in subst (λ (n : ℕ). StandsBy n standing) e h
