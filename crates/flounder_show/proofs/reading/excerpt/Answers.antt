use Rattle.std.proofs.Common.{◌≡◌, ◌-◌, ◌∙◌, List, ℕ, ap, sym, length, take, drop}
use Rattle.std.proofs.Math.Seq.{take-length}
use Rattle.std.proofs.lemmas.List.{take_min, drop_min, length-drop}
use Rattle.flounder_show.specs.Content.{first_line}
use Rattle.flounder_show.proofs.reading.excerpt.Goals as goal

-- all that stands behind the first n
behind : (n : ℕ) (l : List ℕ) → take (length l - n) (drop n l) ≡ drop n l
behind n l = ap (λ (k : ℕ). take k (drop n l)) (sym (length-drop n l)) ∙ take-length (drop n l)

pub returns : goal.returns
returns c =
    let text = c.args.text.now in
    let line = c.first_line-line.result.now in
    let there : take (length text - c.min.result) (drop c.min.result text) ≡ drop c.args.offset text =
    behind c.min.result text ∙ (ap (λ (k : ℕ). drop k text) c.min.ensures ∙ drop_min c.args.offset text) in
    record { found = ap (λ (k : ℕ). take k line) c.min-2.ensures ∙ (take_min 40 line ∙ ap (λ (l : List ℕ). take 40 l) (c.first_line-line.ensures.line ∙ ap first_line there)) }
