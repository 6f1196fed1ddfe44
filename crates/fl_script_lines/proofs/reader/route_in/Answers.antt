use Rattle.std.proofs.Common.{◌<◌, ◌∙◌, ℕ, List, length, subst, sym}
use Rattle.fl_model.specs.Views.{cores_of}
use Rattle.fl_script_lines.proofs.WordLemmas.{behind_shorter, none_there, some_there}
use Rattle.fl_script_lines.proofs.RouteLemmas.{cores_more, cores_end, cores_stop}
use Rattle.fl_script_lines.proofs.reader.route_in.Goals as goal

pub returns-then-is_empty : goal.returns-then-is_empty
returns-then-is_empty c =
    let none = none_there _ _ c.is_empty.ensures c.if-is_empty.true in
    record { same = cores_end (cores_of c.loop-word.route) c.loop-word.rest.now c.next_word.result.0.now _ c.loop-word.invariant c.next_word.ensures.word none }

pub returns-in_default : goal.returns-in_default
returns-in_default c =
    let some = some_there _ _ c.is_empty.ensures c.if-is_empty.false in
    record {
      same = cores_stop (cores_of c.loop-word.route) c.loop-word.rest.now c.next_word.result.0.now _ c.loop-word.invariant.1 c.next_word.ensures.word some
          (sym c.number.ensures.same ∙ c.in_default.is);
    }

pub loop-word-smaller : goal.loop-word-smaller
loop-word-smaller c =
    let some = some_there _ _ c.is_empty.ensures c.if-is_empty.false in
    rw c.next_word.ensures.behind (behind_shorter c.loop-word.rest.now (subst (λ (w : List ℕ). 0 < length w) c.next_word.ensures.word some))

pub loop-word-preserved : goal.loop-word-preserved
loop-word-preserved c =
    cores_more (cores_of c.loop-word.route) (cores_of c.push.new.self) c.loop-word.rest.now c.next_word.result.0.now c.next_word.result.1.now c.in-Some.core _
    c.loop-word.invariant.1 c.next_word.ensures.word c.next_word.ensures.behind (sym c.number.ensures.same ∙ c.in-Some.is) c.push.ensures.cores
