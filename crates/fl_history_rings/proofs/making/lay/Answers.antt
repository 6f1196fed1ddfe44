use Rattle.std.proofs.Common.{rules, ◌≡◌, ◌+◌, replicate, ap, ◌∙◌, ℕ}
use Rattle.fl_history_rings.specs.Rule.{words_of}
use Rattle.fl_history_rings.proofs.Makes.{rings_open}
use Rattle.fl_history_rings.proofs.making.lay.Goals as goal

pub of_words-requires : goal.of_words-requires
of_words-requires c =
    let blank : c.in-Ok.words.items ≡ replicate c.in-Some.count 0 = search rules in
    rings_open c.args.sides.items c.args.cores c.as_slice-2.result.now c.requires.slots c.requires.paired
    (c.as_slice-2.ensures.value ∙ blank ∙ ap (λ (n : ℕ). replicate n 0) (c.in-Some.ensures ∙ ap (λ xs. words_of xs + 1) c.as_slice.ensures.value))
