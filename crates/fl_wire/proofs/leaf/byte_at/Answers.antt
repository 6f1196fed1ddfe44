use Rattle.std.proofs.Common.{◌∙◌, ◌/◌, ◌%◌, ℕ, List, get_or, length, ap, refl, sym, arith}
use Rattle.std.specs.Prelude.{slice_index, Option}
use Rattle.std.specs.Int.{byte_at}
use Rattle.std.proofs.lemmas.Bool.{ltb-true}
use Rattle.std.proofs.lemmas.Option.{slice_get_read}
use Rattle.fl_base.specs.declared.fragment.Frag.{Frag}
use Rattle.fl_wire.specs.Standing.{words_in}
use Rattle.fl_wire.proofs.Turns.{byte_low}
use Rattle.fl_wire.proofs.leaf.byte_at.Goals as goal

pub returns-in-Some : goal.returns-in-Some
returns-in-Some c =
    let frags = c.args.frags.now in
    let p = c.args.p in
    let there = slice_get_read frags (length frags) (p / 56) c.in-Some.frag.now refl (ltb-true _ _ (sym c.in-Some.ensures.lookup.0)) c.in-Some.ensures.lookup.1 in
    record {
      byte = ap (λ (bs : List ℕ). get_or bs (p % 8) 0) c.to_le_bytes.ensures ∙ byte_low (get_or c.in-Some.frag.now.words (p / 8 % 7) 0) (p % 8) (omega arith)
          ∙ ap (λ (o : Option Frag). byte_at (p % 8) (slice_index (words_in o) (p / 8 % 7))) (sym there);
    }
