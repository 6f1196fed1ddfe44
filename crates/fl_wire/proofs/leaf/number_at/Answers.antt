use Rattle.std.proofs.Common.{rules, ℕ, ◌≡◌, ◌*◌, ◌/◌, ◌%◌, ◌^◌, ◌+◌, ◌<◌, sym, subst, ap, ◌∙◌}
use Rattle.fl_wire.specs.Standing.{byte_in}
use Rattle.fl_wire.proofs.Numbers.{from_low}
use Rattle.fl_wire.proofs.OneWord.{one_in, two_in, four_in, eight_in}
use Rattle.fl_wire.proofs.leaf.number_at.Goals as goal

pub returns-in-1 : goal.returns-in-1
returns-in-1 c =
    let frags = c.args.frags.now in
    let place = c.args.place in
    record {
      number = ap (λ (w : ℕ). w / 2 ^ (8 * (place % 8)) % 256) c.word_at-word.ensures.word ∙ one_in frags place
          ∙ ap (λ (n : ℕ). from_low n (λ j. byte_in frags (place + j))) (sym c.in-1.is);
    }

pub returns-in-2 : goal.returns-in-2
returns-in-2 c =
    let frags = c.args.frags.now in
    let place = c.args.place in
    let even = subst (λ (n : ℕ). place % n ≡ 0) c.in-2.is c.requires.aligned in
    record {
      number = ap (λ (w : ℕ). w / 2 ^ (8 * (place % 8)) % 65536) c.word_at-word.ensures.word ∙ two_in frags place even
          ∙ ap (λ (n : ℕ). from_low n (λ j. byte_in frags (place + j))) (sym c.in-2.is);
    }

pub returns-in-4 : goal.returns-in-4
returns-in-4 c =
    let frags = c.args.frags.now in
    let place = c.args.place in
    let even = subst (λ (n : ℕ). place % n ≡ 0) c.in-4.is c.requires.aligned in
    record {
      number = ap (λ (w : ℕ). w / 2 ^ (8 * (place % 8)) % 4294967296) c.word_at-word.ensures.word ∙ four_in frags place even
          ∙ ap (λ (n : ℕ). from_low n (λ j. byte_in frags (place + j))) (sym c.in-4.is);
    }

pub returns-in_default : goal.returns-in_default
returns-in_default c =
    let frags = c.args.frags.now in
    let place = c.args.place in
    let eight : c.args.width ≡ 8 = search rules in
    let word = c.word_at-word.ensures.word in
    record {
      number = word ∙ eight_in frags place (subst (λ (n : ℕ). place % n ≡ 0) eight c.requires.aligned) (subst (λ (n : ℕ). n < 2 ^ 64) word c.word_at-word.type_inv)
          ∙ ap (λ (n : ℕ). from_low n (λ j. byte_in frags (place + j))) (sym eight);
    }
