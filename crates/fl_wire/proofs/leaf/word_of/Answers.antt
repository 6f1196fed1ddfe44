use Rattle.std.proofs.Common.{ap, sym, length, refl}
use Rattle.std.specs.Prelude.{slice_index, Option}
use Rattle.std.proofs.lemmas.Bool.{ltb-true, ltb-false}
use Rattle.std.proofs.lemmas.Option.{slice_get_read, slice_get_past}
use Rattle.fl_base.specs.declared.fragment.Frag.{Frag}
use Rattle.fl_wire.specs.Standing.{words_in}
use Rattle.fl_wire.proofs.leaf.word_of.Goals as goal

pub returns-in-Some : goal.returns-in-Some
returns-in-Some c =
    let frags = c.args.frags.now in
    let there = slice_get_read frags (length frags) c.args.frag c.in-Some.it.now refl (ltb-true _ _ (sym c.in-Some.ensures.lookup.0)) c.in-Some.ensures.lookup.1 in
    record { word = ap (λ (o : Option Frag). slice_index (words_in o) c.args.word) (sym there) }

pub returns-in-None : goal.returns-in-None
returns-in-None c =
    let frags = c.args.frags.now in
    let past = slice_get_past frags c.args.frag (ltb-false _ _ (sym c.in-None.ensures.lookup.0)) in
    record { word = ap (λ (o : Option Frag). slice_index (words_in o) c.args.word) (sym past) }
