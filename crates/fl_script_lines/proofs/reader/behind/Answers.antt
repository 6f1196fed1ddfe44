use Rattle.std.proofs.Common.{◌≡◌, ◌++◌, ℕ, true, false, List, length, take, drop, Option, Some, None}
use Rattle.std.specs.Prelude.{◌+◌, nat_eq, MatchOption, IfSome}
use Rattle.std.specs.Borrow.{Bor}
use Rattle.std.specs.Cmp.Lexicographic.{pointwise}
use Rattle.std.proofs.lemmas.Bool.Decides.{Decides-eqb}
use Rattle.std.proofs.lemmas.Slice.Eq.{strip_prefix_is}
use Rattle.fl_script_lines.proofs.reader.behind.Goals as goal

found : (s p : List ℕ) (r : Option (Bor (List ℕ)))
    → MatchOption r (pointwise nat_eq (take (length p) s) p ≡ false) (λ x. (pointwise nat_eq (take (length p) s) p ≡ true) × (x.now ≡ drop (length p) s) × (length x.now + length p ≡ length s))
    → IfSome r (λ x. s ≡ p ++ x.now)
found s p None h = tt
found s p (Some x) h = strip_prefix_is Decides-eqb s p (Some x) h

pub returns : goal.returns
returns c = record { told = found c.args.line.now c.args.bytes.now c.strip_prefix.result c.strip_prefix.ensures.cases }
