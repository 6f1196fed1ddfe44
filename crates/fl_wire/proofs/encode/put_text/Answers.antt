use Rattle.std.proofs.Common.{◌∙◌, ap, sym, List, ℕ, ◌∷◌, ◌++◌, length}
use Rattle.fl_layout.specs.Leaves.{whole}
use Rattle.fl_wire.proofs.Encoding.{text_written}
use Rattle.fl_wire.proofs.encode.put_text.Goals as goal

pub returns : goal.returns
returns c = record {
  ok = λ before old.
      c.in_ok-extend_from_slice.ensures.items ∙ ap (λ (xs : List ℕ). xs ++ c.args.bytes.now) (c.in_ok-put_number.ensures.ok before old)
      ∙ sym (text_written c.args.bytes.now (whole 8 (length c.args.bytes.now) ∷ before) c.requires.text);
}
