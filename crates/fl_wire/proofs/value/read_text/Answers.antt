use Rattle.std.proofs.Common.{◌≡◌, ◌+◌, ◌*◌, ◌≤◌, true, List, ℕ, length, sym, ◌∙◌, ap, subst, arith}
use Rattle.std.specs.List.{list_all}
use Rattle.fl_value_data.specs.Fits.{is_text_byte}
use Rattle.fl_wire.specs.Shapes.{texts_of, ReadAt}
use Rattle.fl_wire.proofs.Texts.{stretch, texts_there}
use Rattle.fl_wire.proofs.value.read_text.Goals as goal

pub returns-then-are_text_bytes-clause-read : goal.returns-then-are_text_bytes-clause-read
returns-then-are_text_bytes-clause-read c =
    let frags = c.args.frags.now in
    let at = c.args.at in
    let n = c.args.count in
    let bytes = c.in_ok-bytes.ensures.bytes in
    let room : at + n ≤ 56 * length frags = omega (arith, c.if-long-frags.true, c.requires.within) in
    let all : list_all is_text_byte (stretch frags at n) ≡ true
    = ap (list_all is_text_byte) (sym (c.deref.ensures.value ∙ bytes)) ∙ sym c.are_text_bytes.ensures.same ∙ c.if-are_text_bytes.true in
    subst (λ (bs : List ℕ). ReadAt (texts_of n) frags at bs (at + n)) (sym bytes) (texts_there frags n at room all)
