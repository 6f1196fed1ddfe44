use Rattle.std.proofs.Common.{◌≡◌, ◌≤◌, length, ap, ◌∙◌, sym, rules, arith, nat_le}
use Rattle.std.proofs.lemmas.Bool.{le-leb}
use Rattle.fl_lex.proofs.Classes.{both}
use Rattle.fl_image.specs.Image.{is_word, is_name}
use Rattle.fl_image.proofs.number.word.Goals as goal

pub invariant_of-word : goal.invariant_of-word
invariant_of-word c =
    let start = c.split_at.result.0.now in
    let few : length start ≤ 64 = omega (arith, c.split_at.ensures.front_len, c.requires.short) in
    let same : c.in_ok-bytes.bytes.items ≡ start = search rules in
    record { named = ap is_name same ∙ both (nat_le (length start) 64) (is_word start) (le-leb (length start) 64 few) (sym c.if-not-is_word.ensures.exact) }
