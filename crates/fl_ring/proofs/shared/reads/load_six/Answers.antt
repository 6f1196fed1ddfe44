use Rattle.std.proofs.Common.{◌∙◌, refl, sym, take, length, arith, length-set}
use Rattle.std.proofs.lemmas.List.{take_more_set}
use Rattle.fl_ring.proofs.SharedSteps.{word_in}
use Rattle.fl_ring.proofs.SharedRuns.{none_loaded, one_loaded, allows_loaded_after, taken_length}
use Rattle.fl_ring.proofs.shared.reads.load_six.Goals as goal

pub loop-k-init : goal.loop-k-init
loop-k-init c = record { table = refl; loaded = none_loaded c.args.seat.now.me c.requires.reads.1; seven = refl }

pub load-requires : goal.load-requires
load-requires c =
    let inv = c.loop-k.invariant in
    let k = c.loop-k.k in
    let words = c.loop-k.words in
    let m0 = c.args.seat.now.me in
    let seated = c.requires.seated in (
      inv.table ∙ seated.same,
      omega (arith, c.requires.first, word_in m0.0.size (length m0.0.take.got) k _ seated.some (omega arith) seated.wide),
      allows_loaded_after _ _ _ _ k m0 _ (take k words) inv.loaded seated.key_is c.requires.reads.0 (omega (arith, c.requires.first)) (taken_length k words inv.seven (omega arith)) (omega arith) c.requires.reads.2,
    )

pub loop-k-preserved : goal.loop-k-preserved
loop-k-preserved c =
    let inv = c.loop-k.invariant in
    let k = c.loop-k.k in
    let words = c.loop-k.words in
    let m0 = c.args.seat.now.me in
    record {
      table = c.load.ensures.0 ∙ inv.table;
      loaded = one_loaded m0 _ _ (take k words) _ _ inv.loaded c.load.ensures.2.0 (sym (take_more_set words k _ (omega (arith, inv.seven))));
      seven = length-set words k _ ∙ inv.seven;
    }
