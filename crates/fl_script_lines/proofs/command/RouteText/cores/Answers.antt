use Rattle.std.proofs.Common.{◌∙◌, sym}
use Rattle.fl_script_lines.specs.Words.{numbers_in}
use Rattle.std.proofs.Common.{◌∷◌}
use Rattle.fl_script_lines.proofs.PieceLemmas.{one_more, none_more, shorter}
use Rattle.fl_script_lines.proofs.command.RouteText.cores.Goals as goal

pub returns-in_default : goal.returns-in_default
returns-in_default c = record {
  cores = none_more c.loop-core.rest.now c.next_word.result.0.now c.loop-core.cores.items (c.args.self.now.first ∷ numbers_in c.args.self.now.others.now) c.loop-core.invariant
      c.next_word.ensures.word (sym c.number.ensures.same ∙ c.in_default.is);
}

pub loop-core-smaller : goal.loop-core-smaller
loop-core-smaller c =
    rw c.next_word.ensures.behind (shorter c.loop-core.rest.now c.next_word.result.0.now c.in-Some.core c.next_word.ensures.word (sym c.number.ensures.same ∙ c.in-Some.is))

pub loop-core-preserved : goal.loop-core-preserved
loop-core-preserved c =
    one_more c.loop-core.rest.now c.next_word.result.0.now c.next_word.result.1.now c.loop-core.cores.items c.push-in-loop-core.new.self.items
    (c.args.self.now.first ∷ numbers_in c.args.self.now.others.now) c.in-Some.core c.loop-core.invariant
    c.next_word.ensures.word c.next_word.ensures.behind (sym c.number.ensures.same ∙ c.in-Some.is) c.in_ok-push-2.ensures.items
